-- `decimal_len` counts the digits of `decimal`: one below 10, and one more than the tens. The number falls with each call.
use Rattle.text.proofs.write.+decimal_len.Given as goal

abbrev pub decreases-decimal_len : goal.decreases-decimal_len
decreases-decimal_len l = l.n

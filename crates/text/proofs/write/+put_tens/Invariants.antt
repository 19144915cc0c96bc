-- `put_tens` writes `decimal` from 10 on: two digits, or the digits of the tens and the last one behind them. The number falls with each call.
use Rattle.text.proofs.write.+put_tens.Given as goal

abbrev pub decreases-put_tens : goal.decreases-put_tens
decreases-put_tens l = l.n

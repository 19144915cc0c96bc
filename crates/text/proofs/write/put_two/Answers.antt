-- `put_two` writes `two`: two writes, one behind the other.
use Rattle.text.proofs.Written.{two_digits_written}
use Rattle.text.proofs.write.put_two.Goals as goal

pub returns : goal.returns
returns c = search two_digits_written

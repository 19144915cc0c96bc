-- The program of a class: input bytes to output bytes, a record for each input line. A set is taken only where a line asks for it.
use Rattle.std.specs.Prelude.{ℕ, List, [], ◌∷◌, ◌++◌, length}
use Rattle.paper.specs.Byte.{code, String, Option, none, some, bytes, decimal}
use Rattle.paper.specs.Line.{lf, kept, cut, Got, got, bad, Reader, ◌>>=◌, ◌>>◌, give, ended, byte, number}
use Rattle.paper.specs.Refusal.{Refusal, no_tablet, figures, Answer, accepted, refused}
use Rattle.paper.specs.Read.{or_else, these}
use Rattle.paper.specs.Program.{enough, to_take}
use Rattle.paper.specs.Class.{Class, begin_class, Reply, denied, Request, sends, fetches, reply_to}

-- all the bytes that are left of a line
unfoldable pub remaining : Reader (List ℕ)
remaining s = got s []

-- a tablet's line: its number, one space, and the line itself
unfoldable pub tablet_line : Reader Request
tablet_line = do
  t ← number
  byte (code " ")
  s ← remaining
  give (sends t enough s)

-- the room behind the word of a take: enough if none is given
unfoldable pub room_of : Reader Request
room_of = or_else (ended (fetches enough)) (byte (code " ") >> (number >>= λ room. ended (fetches room)))

-- a take by the printer
unfoldable pub take_line : Reader Request
take_line = these (bytes "take") >> room_of

-- the call that was read
unfoldable pub call_in : Got Request → Option Request
call_in (got q rest) = some q
call_in bad = none

-- what an input line asks of the class, if it is a take or a tablet's line; CR and 1AH are not in it any more
unfoldable pub asked_in : List ℕ → Option Request
asked_in s = call_in (or_else take_line tablet_line s)

-- what that leads to; a line that is neither names no tablet
unfoldable pub reply_for : ℕ → Class → Option Request → Reply
reply_for width c none = denied no_tablet c
reply_for width c (some q) = reply_to width c q

-- numbers in decimal, with a space before each
unfoldable pub listed : List ℕ → List ℕ
listed [] = []
listed (n ∷ more) = (code " " ∷ decimal n) ++ listed more

-- the first line of a record: a word and its numbers
unfoldable pub head_of : String → List ℕ → List ℕ
head_of word ns = bytes word ++ listed ns ++ (lf ∷ [])

-- of an accepted call: the tablet, the sets that it has left, and how many bytes follow
unfoldable pub ok_head : (t left len : ℕ) → List ℕ
ok_head t left len = head_of "ok" (t ∷ left ∷ len ∷ [])

-- of a refused one: the refusal's number, and for 9 the form's line
unfoldable pub no_head : Refusal → List ℕ
no_head r = head_of "no" (figures r)

-- a record; an accepted call is always some tablet's
unfoldable pub record_of : Answer → Option ℕ → Class → List ℕ
record_of (accepted bytes) none c = []
record_of (accepted bytes) (some t) c = ok_head t (to_take (c.tablet t).session) (length bytes) ++ bytes
record_of (refused r) whose c = no_head r

-- the records of some input lines, one after the other
unfoldable pub records : ℕ → Class → List (List ℕ) → List ℕ
records width c [] = []
records width c (s ∷ ss) =
    let r : Reply = reply_for width c (asked_in s) in
    record_of r.answer r.whose r.next ++ records width r.next ss

-- the program: its input without CR and 1AH, a line at a time, from the class where nothing was sent yet
unfoldable pub class_program : ℕ → List ℕ → List ℕ
class_program width input = records width begin_class (cut (kept input))

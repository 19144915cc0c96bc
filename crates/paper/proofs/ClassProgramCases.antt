-- Lines and runs of a class's program that compute: which lines are calls, and what a short run writes.
use Prim.Native.Nat.{ℕ}
use Prim.Native.String.{String, ◌++◌}
use mathlib.Core.Path.{◌≡◌, refl}
use mathlib.Core.List.{List}
use mathlib.Core.Option.{Option, none, some}
use lib.Dec.{ltb}
use Rattle.paper.specs.Byte.{bytes}
use Rattle.paper.specs.Refusal.{Answer, accepted, refused}
use Rattle.paper.specs.Bench.{take_set}
use Rattle.paper.specs.Program.{enough}
use Rattle.paper.specs.Class.{Class, thirty, desk, filing_of, Reply, reply, denied, hear_of, hear_from, turn, serve, take_next, Request, sends, fetches, reply_to}
use Rattle.paper.specs.ClassProgram.{remaining, tablet_line, room_of, take_line, call_in, asked_in, reply_for, listed, head_of, ok_head, no_head, record_of, records, class_program}
use Rattle.paper.proofs.Law.{by_test}
use Rattle.paper.proofs.Cases.{narrow}
use Rattle.paper.proofs.ClassCases.{answers_of}

-- what a line asks
unfoldable pub asks : String → Option Request
unfolding answers_of remaining tablet_line room_of take_line call_in asked_in
asks s = asked_in (bytes s)

-- a tablet's line
unfoldable pub tablet : ℕ → String → Option Request
tablet t s = some (sends t enough (bytes s))

-- what the program writes
unfoldable pub told : String → List ℕ
unfolding asks reply_for listed head_of ok_head no_head record_of records class_program
told s = class_program narrow (bytes s)

-- takes: the word alone, or with 1 to 5 digits behind one space
pub takes_read :
    (asks "take" ≡ some (fetches 10291))
    × (asks "take 7" ≡ some (fetches 7))
    × (asks "take 00007" ≡ some (fetches 7))
    × (asks "take 99999" ≡ some (fetches 99999))
    × (asks "take 123456" ≡ none)
    × (asks "take " ≡ none)
    × (asks "take  7" ≡ none)
    × (asks "take 7 " ≡ none)
    × (asks "take7" ≡ none)
    × (asks "taken" ≡ none)
    × (asks "tak" ≡ none)
    × (asks "Take" ≡ none)
    × (asks " take" ≡ none)
unfolding asks enough
takes_read = (refl, refl, refl, refl, refl, refl, refl, refl, refl, refl, refl, refl, refl)

-- tablets' lines: 1 to 5 digits, one space, and any bytes or none
pub lines_read :
    (asks "29 N" ≡ tablet 29 "N")
    × (asks "30 N" ≡ tablet 30 "N")
    × (asks "00029 N" ≡ tablet 29 "N")
    × (asks "000029 N" ≡ none)
    × (asks "5 " ≡ tablet 5 "")
    × (asks "5  N" ≡ tablet 5 " N")
    × (asks "5 take" ≡ tablet 5 "take")
    × (asks "5" ≡ none)
    × (asks " 5 N" ≡ none)
    × (asks "5N" ≡ none)
    × (asks "5\tN" ≡ none)
    × (asks "-5 N" ≡ none)
    × (asks "N" ≡ none)
    × (asks "" ≡ none)
unfolding asks tablet
lines_read = (refl, refl, refl, refl, refl, refl, refl, refl, refl, refl, refl, refl, refl, refl)

-- a form that asks for nothing is stored by tablet 3
unfoldable pub storing : String
storing = "3 FS\"Y\"\n3 Q1,0\n3 ZT\n3 FE\n"

-- so are these lines answered
unfoldable pub stored : String
stored = "ok 3 0 0\nok 3 0 0\nok 3 0 0\nok 3 0 0\n"

-- its one set
unfoldable pub set : String
set = "N\nQ1,0\nZT\nP1,1\n"

-- two tablets print in turn; a take with a byte too little is 15, and one where nobody prints is 16
pub two_print :
    told (storing ++ "7 FR\"Y\"\n5 FR\"Y\"\n7 P2\n5 P1\ntake 14\ntake 15\ntake\ntake\ntake\n")
    ≡ bytes (stored ++ "ok 7 0 0\nok 5 0 0\nok 7 2 0\nok 5 1 0\nno 15\nok 5 0 15\n" ++ set ++ "ok 7 1 15\n" ++ set ++ "ok 7 0 15\n" ++ set ++ "no 16\n")
unfolding told storing stored set
two_print = refl

-- what a tablet that prints has left stands in its own records too, and no other's
pub left_told :
    told (storing ++ "7 FR\"Y\"\n7 P2\n7 \n7 FI\n5 \n30 N\n5 FI\n5 FK\"Y\"\n7 N\n")
    ≡ bytes (stored ++ "ok 7 0 0\nok 7 2 0\nok 7 2 0\nno 3\nok 5 0 0\nno 18\nok 5 0 20\nForm Information:\nY\nno 19\nok 7 0 0\n")
unfolding told storing stored
left_told = refl

-- 9 names the form's line
pub unsound_told : told "0 FS\"X\"\n0 FE\n" ≡ bytes "ok 0 0 0\nno 9 1\n"
unfolding told
unsound_told = refl

-- CR and 1AH go before a line is taken apart, and what stands behind the last LF is not a line
pub dropped_told : told "1\r2 N\r\nta\u{1a}ke\n\r\n5 N" ≡ bytes "ok 12 0 0\nno 16\nno 18\n"
unfolding told
dropped_told = refl

-- no input, no record
pub nothing_told : (told "" ≡ bytes "") × (told "5 N" ≡ bytes "")
unfolding told
nothing_told = (refl, refl)

-- an answer that has the tablet which its record must name
unfoldable pub Owned : Answer → Option ℕ → Type 0
Owned (accepted out) none = ⊥
Owned (accepted out) (some t) = Unit
Owned (refused r) whose = Unit

owned : (a : Answer) (t : ℕ) → Owned a (some t)
unfolding Owned
owned (accepted out) t = tt
owned (refused r) t = tt

-- every answer has, so that no input line is without its record
pub always_owned : (width : ℕ) (c : Class) (q : Option Request) → Owned (reply_for width c q).answer (reply_for width c q).whose
unfolding Owned reply_for reply_to hear_from hear_of take_next serve reply denied
always_owned width c none = tt
always_owned width c (some (sends t room s)) = by_test (λ (r : Reply). Owned r.answer r.whose) (ltb t thirty) _ _ (λ _. owned (hear_of width room c t s (filing_of width (c.tablet t).session s)).answer t) (λ _. tt)
always_owned width c (some (fetches room)) = served (turn c)
  where
    served : (u : Option ℕ) → Owned (serve room c u).answer (serve room c u).whose
    served none = tt
    served (some t) = owned (take_set room (desk c t)).answer t

-- Runs of a class that compute: the turn, its bound, refusals 15 to 19 in their order, and an order among others.
use Prim.Native.Nat.{ℕ, zero, suc, ◌≤◌}
use Prim.Native.String.{String}
use mathlib.Core.Path.{◌≡◌, refl}
use mathlib.Core.List.{List, [], ◌∷◌, ◌++◌}
use native.Mathlib.Omega.{arith}
use lib.ListN.{replicate}
use Rattle.paper.specs.Byte.{bytes}
use Rattle.paper.specs.Command.{FormLine, draw, size, direction}
use Rattle.paper.specs.Refusal.{figures, Answer, accepted, refused}
use Rattle.paper.specs.Form.{asked}
use Rattle.paper.specs.Bench.{opened_with}
use Rattle.paper.specs.Program.{enough}
use Rattle.paper.specs.Calls.{called}
use Rattle.paper.specs.Class.{thirty, begin_class, desk, at_rest, collects, prints, open_lines, holds_form, another_below, another, filing_read, filing_of, starts, strikes, renamed, barred, hear_unless, seat, tablet_of, reply, denied, hear_of, hear_from, onward, first_after, turn, last_after, serve, take_next, Request, sends, fetches, reply_to, replies_to, class_after, served_by, served_in, wait}
use Rattle.paper.specs.Diary.{call_of, Entry, is_for, diary, lines_in, answers_in, set_of_call, sets_in, bare, led, Does, ends, aside, meets, sets_needed, ask_needed, needs}
use Rattle.paper.proofs.Cases.{narrow, ran}

-- the answers to calls from the start
unfoldable pub answers_of : List Request → List Answer
unfolding ran thirty begin_class desk at_rest collects prints open_lines holds_form another_below another filing_read filing_of starts strikes renamed barred hear_unless seat tablet_of reply denied hear_of hear_from onward first_after turn last_after serve take_next reply_to replies_to class_after served_by served_in wait
answers_of qs = replies_to narrow begin_class qs

-- a tablet sends a text
unfoldable pub says : ℕ → String → Request
says t s = sends t enough (bytes s)

-- the number of each refusal, 0 for an accepted call
unfoldable pub number : Answer → ℕ
number (accepted bytes) = 0
number (refused r) = first (figures r)
  where
    first : List ℕ → ℕ
    first [] = 0
    first (n ∷ ns) = n

unfoldable pub numbers : List Answer → List ℕ
numbers [] = []
numbers (a ∷ more) = number a ∷ numbers more

-- tablet 3 stores a form that asks for nothing
unfoldable pub storing : List Request
storing = says 3 "FS\"Y\"" ∷ says 3 "Q1,0" ∷ says 3 "ZT" ∷ says 3 "FE" ∷ []

-- two tablets in turn; a take with too little room moves nothing
pub by_turns : served_in narrow begin_class (storing ++ (says 7 "FR\"Y\"" ∷ says 7 "P2" ∷ says 5 "FR\"Y\"" ∷ says 5 "P3" ∷ fetches enough ∷ fetches 3 ∷ fetches enough ∷ fetches enough ∷ fetches 3 ∷ fetches enough ∷ fetches enough ∷ fetches enough ∷ [])) ≡ 5 ∷ 7 ∷ 5 ∷ 7 ∷ 5 ∷ []
unfolding answers_of says storing
by_turns = refl

-- at the start the turn is tablet 0's, and from 29 it goes on to 0
pub round : served_in narrow begin_class (storing ++ (says 0 "FR\"Y\"" ∷ says 0 "P2" ∷ says 29 "FR\"Y\"" ∷ says 29 "P2" ∷ fetches enough ∷ fetches enough ∷ fetches enough ∷ fetches enough ∷ [])) ≡ 0 ∷ 29 ∷ 0 ∷ 29 ∷ []
unfolding answers_of says storing
round = refl

-- so many tablets, from 0 on, open the form and ask for a set
unfoldable pub ordering : ℕ → List Request
ordering zero = []
ordering (suc t) = ordering t ++ (says t "FR\"Y\"" ∷ says t "P1" ∷ [])

-- the bound of thirty is reached: all print, and the set of tablet 29 is the thirtieth
pub bound_reached : wait 29 (served_in narrow begin_class (storing ++ (ordering 30 ++ replicate 30 (fetches enough)))) ≡ 30
unfolding answers_of says storing ordering
bound_reached = refl

-- FS: 3, 10, 17
pub starting : numbers (answers_of (storing ++ (says 9 "FS\"Z\"" ∷ says 8 "FS\"Y\"" ∷ says 8 "FS\"A\"" ∷ says 9 "FS\"A\"" ∷ says 8 "FS\"A\"" ∷ says 8 "FE" ∷ says 9 "FE" ∷ says 8 "FS\"A\"" ∷ [])))
    ≡ 0 ∷ 0 ∷ 0 ∷ 0 ∷ 0 ∷ 10 ∷ 17 ∷ 3 ∷ 17 ∷ 3 ∷ 8 ∷ 0 ∷ []
unfolding answers_of says storing numbers number
starting = refl

-- FK: 3, 19; the star deletes all or nothing; a collector holds nothing open
pub deleting : numbers (answers_of (storing ++ (says 7 "FR\"Y\"" ∷ says 8 "FK\"Y\"" ∷ says 8 "FK\"*\"" ∷ says 8 "FR\"Y\"" ∷ says 8 "N" ∷ says 8 "FK\"Z\"" ∷ says 7 "FK\"Y\"" ∷ says 7 "N" ∷ says 9 "FS\"Z\"" ∷ says 8 "FK\"Z\"" ∷ says 8 "FR\"Z\"" ∷ says 8 "FK\"*\"" ∷ says 8 "FR\"Y\"" ∷ [])))
    ≡ 0 ∷ 0 ∷ 0 ∷ 0 ∷ 0 ∷ 19 ∷ 19 ∷ 0 ∷ 0 ∷ 0 ∷ 3 ∷ 0 ∷ 0 ∷ 0 ∷ 12 ∷ 0 ∷ 12 ∷ []
unfolding answers_of says storing numbers number
deleting = refl

-- 18 before all, and it spoils nothing; neither does what others send
pub tablets : numbers (answers_of (says 3 "FS\"Y\"" ∷ says 3 "Q1,0" ∷ says 30 "Q0" ∷ says 4 "P1" ∷ says 30 "\u{1}" ∷ says 3 "ZT" ∷ says 3 "FE" ∷ says 29 "FR\"Y\"" ∷ []))
    ≡ 0 ∷ 0 ∷ 18 ∷ 3 ∷ 18 ∷ 0 ∷ 0 ∷ 0 ∷ []
unfolding answers_of says numbers number
tablets = refl

-- 16 where nobody prints, else 15 of the tablet whose turn it is
pub takes_refused : numbers (answers_of (fetches 0 ∷ (storing ++ (says 7 "FR\"Y\"" ∷ fetches 0 ∷ says 7 "P1" ∷ fetches 3 ∷ fetches enough ∷ fetches enough ∷ []))))
    ≡ 16 ∷ 0 ∷ 0 ∷ 0 ∷ 0 ∷ 0 ∷ 16 ∷ 0 ∷ 15 ∷ 0 ∷ 16 ∷ []
unfolding answers_of says storing numbers number
takes_refused = refl

-- the form that was stored
unfoldable pub form_y : List FormLine
form_y = draw (size 1 0) ∷ draw (direction 0x54) ∷ []

-- an order of two sets, spelled otherwise and with CR in it; beside it an empty line, a refused one and a take with no room
pub order_done : Does narrow (opened_with form_y (asked form_y)) (needs form_y [] 2 1) (diary narrow 5 (class_after narrow begin_class (storing ++ (says 5 "FR\"Y\"" ∷ []))) (says 5 "" ∷ says 9 "FS\"Z\"" ∷ says 5 "Q1" ∷ says 5 "P\r02" ∷ fetches 3 ∷ fetches enough ∷ says 9 "N" ∷ fetches enough ∷ says 5 "N" ∷ []))
unfolding answers_of says storing form_y needs ask_needed sets_needed diary call_of is_for bare led called
order_done =
    let room : enough ≤ enough = omega arith in
    aside _ refl (aside _ refl (meets _ refl (aside _ refl (meets _ room (meets _ room ends)))))

-- what that tablet's diary holds: its lines without CR, their answers, and two sets; its last `N` finds it Idle and is not in it
unfoldable pub diary_y : List Entry
diary_y = diary narrow 5 (class_after narrow begin_class (storing ++ (says 5 "FR\"Y\"" ∷ []))) (says 5 "" ∷ says 9 "FS\"Z\"" ∷ says 5 "Q1" ∷ says 5 "P\r02" ∷ fetches 3 ∷ fetches enough ∷ says 9 "N" ∷ fetches enough ∷ says 5 "N" ∷ [])

pub diary_told :
    (lines_in diary_y ≡ bytes "" ∷ bytes "Q1" ∷ bytes "P02" ∷ [])
    × (numbers (answers_in diary_y) ≡ 0 ∷ 5 ∷ 0 ∷ [])
    × (sets_in diary_y ≡ bytes "N\nQ1,0\nZT\nP1,1\n" ∷ bytes "N\nQ1,0\nZT\nP1,1\n" ∷ [])
unfolding answers_of says storing diary_y diary call_of is_for lines_in answers_in sets_in set_of_call numbers number
diary_told = (refl, refl, refl)

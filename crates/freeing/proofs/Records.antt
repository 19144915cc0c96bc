-- A tablet is freed by three input lines of the program of a class: a record for each, and all that follows is told by the class in which the tablet is freed.
use Prim.Native.Nat.{ℕ, ◌<◌}
use mathlib.Core.Path.{◌≡◌, refl, ◌∙◌, ap}
use mathlib.Core.Bool.{Bool, true, false}
use mathlib.Core.List.{List, [], ◌∷◌, ◌++◌, append-nil}
use mathlib.Core.Option.{some}
use native.Mathlib.Omega.{arith}
use lib.Dec.{eqb}
use borrow.Author.Tests.{eqb-true, lt-ltb}
use Rattle.paper.specs.Byte.{bytes, decimal, when◌then◌else◌, between}
use Rattle.paper.specs.Line.{got, bad, followed, give, byte, one, is_digit, digit, number}
use Rattle.paper.specs.Read.{these}
use Rattle.paper.specs.Program.{enough, to_take}
use Rattle.paper.specs.Refusal.{Refusal, accepted, refused}
use Rattle.paper.specs.Class.{Tablet, Class, thirty, Reply, reply, sends, reply_to, replies_to, hear_of, hear_from, class_after}
use Rattle.paper.specs.ClassProgram.{remaining, tablet_line, take_line, call_in, asked_in, reply_for, ok_head, no_head, record_of, records}
use Rattle.paper.specs.Freeing.{broken, three_lines, why_broken, why_finish, freeing_answers, at_idle}
use Rattle.paper.proofs.Number.{number_decimal}
use Rattle.paper.proofs.Part.{or_else_bad}
use Rattle.paper.proofs.Freeing.{frees, frees_says}
use Rattle.command.specs.View.{width}
use Rattle.freeing.specs.Records.{addressed}

-- a line that begins with a number is no take
number_first : (x : List ℕ) (n : ℕ) (r : List ℕ) → number x ≡ got n r → take_line x ≡ bad
unfolding take_line these bytes byte one followed when◌then◌else◌ number digit is_digit between give
number_first [] n r e = let z : ◌≡◌ {A = ℕ} 0 1 = cc in absurd (omega arith)
number_first (b ∷ s) n r e = go (eqb b 116) refl e
  where
    go : (t : Bool) → eqb b 116 ≡ t → number (b ∷ s) ≡ got n r → take_line (b ∷ s) ≡ bad
    go true q p = let none' : bad ≡ got n r = rw (eqb-true b 116 q) at p in let z : ◌≡◌ {A = ℕ} 0 1 = cc in absurd (omega arith)
    go false q p = rw q

-- a tablet's line asks for itself
sent_asks : (t : ℕ) (s : List ℕ) → t < 30 → asked_in (addressed t s) ≡ some (sends t enough s)
unfolding asked_in call_in tablet_line addressed remaining byte one followed give when◌then◌else◌
sent_asks t s l =
    let number_is : number (decimal t ++ (32 ∷ s)) ≡ got t (32 ∷ s) = number_decimal t (32 ∷ s) (omega arith) refl in
    ap call_in (or_else_bad take_line tablet_line (decimal t ++ (32 ∷ s)) (number_first _ t _ number_is)) ∙ rw number_is

-- it is that tablet's call
sent_whose : (room : ℕ) (c : Class) (t : ℕ) (s : List ℕ) → t < 30 → (hear_from width room c t s).whose ≡ some t
unfolding hear_from hear_of reply thirty when◌then◌else◌
sent_whose room c t s l = rw (lt-ltb t 30 l)

-- the record of a refusal names no tablet
refused_record : (r : Reply) (why : Refusal) → r.answer ≡ refused why → record_of r.answer r.whose r.next ≡ no_head why
unfolding record_of
refused_record r why e = rw e

-- and that of an accepted line that writes nothing is the tablet with the sets that it has left
accepted_record : (r : Reply) (t : ℕ) → r.answer ≡ accepted [] → r.whose ≡ some t → to_take (r.next.tablet t).session ≡ 0 → record_of r.answer r.whose r.next ≡ ok_head t 0 0
unfolding record_of
accepted_record r t e f z = rw (e, f, z, append-nil)

module _ (c : Class) (t : ℕ) (l : t < 30) (w : List ℕ) where
  abbrev broke : Reply
  broke = hear_from width enough c t (broken w)

  abbrev ended : Reply
  ended = hear_from width enough broke.next t (bytes "FE")

  abbrev freed : Reply
  freed = hear_from width enough ended.next t (bytes "N")

  answers : broke.answer ∷ ended.answer ∷ freed.answer ∷ [] ≡ freeing_answers (c.tablet t).session w
  unfolding replies_to three_lines reply_to
  answers = frees_says width c t l w enough enough enough

  first : broke.answer ≡ refused (why_broken w)
  unfolding freeing_answers
  first = let e = answers in cc

  second : ended.answer ≡ refused (why_finish (c.tablet t).session)
  unfolding freeing_answers
  second = let e = answers in cc

  third : freed.answer ≡ accepted []
  unfolding freeing_answers
  third = let e = answers in cc

  home : to_take (freed.next.tablet t).session ≡ 0
  unfolding class_after three_lines reply_to at_idle to_take
  home = ap (λ (x : Tablet). to_take x.session) (frees width c t l w enough enough enough).tablet

  -- FREED: what the three lines are told, and what follows
  pub records_free : (ss : List (List ℕ)) → records width c (addressed t (broken w) ∷ addressed t (bytes "FE") ∷ addressed t (bytes "N") ∷ ss)
      ≡ no_head (why_broken w) ++ (no_head (why_finish (c.tablet t).session) ++ (ok_head t 0 0 ++ records width (class_after width c (three_lines t w enough enough enough)) ss))
  unfolding records reply_for reply_to class_after three_lines
  records_free ss =
      rw (sent_asks t (broken w) l, sent_asks t (bytes "FE") l, sent_asks t (bytes "N") l)
      (rw (refused_record broke _ first, refused_record ended _ second, accepted_record freed t third (sent_whose enough ended.next t (bytes "N") l) home))

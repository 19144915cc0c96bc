-- A tablet in Printing that sends nothing stays there until it is served, so it is served within thirty accepted takes, whatever
-- others send.
use mathlib.Core.Path.{◌≡◌, refl, sym, ap, ◌∙◌}
use mathlib.Core.Bool.{Bool, true, false, not}
use mathlib.Core.List.{List, [], ◌∷◌}
use mathlib.Core.Option.{Option, none, some}
use Prim.Native.Nat.{ℕ, ◌≤◌, ◌<◌}
use lib.ListN.{length}
use lib.Dec.{ltb, eqb}
use Rattle.paper.specs.Byte.{when◌then◌else◌, any, among}
use Rattle.paper.specs.Refusal.{Answer, accepted, refused}
use Rattle.paper.specs.Class.{Tablet, Class, thirty, prints, reply, denied, hear_of, hear_from, take_next, Request, sends, fetches, reply_to, served_by, served_in, keeps_printing, silent}
use Rattle.paper.specs.Diary.{is_for}
use Rattle.paper.proofs.Law.{and_left, and_right, and_both}
use Rattle.paper.proofs.Test.{either}
use Rattle.paper.proofs.Others.{neither_left, neither_right}
use Rattle.paper.proofs.Apart.{leaves_others}
use Rattle.paper.proofs.ClassRefused.{take_untouched}
use Rattle.paper.proofs.Turn.{one_of_thirty}

pub not_own : (b : Bool) → not b ≡ true → b ≡ false
not_own true e = sym e
not_own false e = refl

-- a line of another is for another
pub line_elsewhere : (width t u room : ℕ) (c : Class) (s : List ℕ) → eqb t u ≡ false → is_for t (hear_from width room c u s).whose ≡ false
unfolding hear_from hear_of reply denied is_for when◌then◌else◌
line_elsewhere width t u room c s n = either (ltb u thirty) (λ y. rw y n) (λ m. rw m)

-- an accepted take that does not serve a tablet, and every refused one, leaves it
take_elsewhere : (t room : ℕ) (c : Class) (later : List ℕ) (a : Answer) (o : Option ℕ) → (take_next room c).answer ≡ a → (take_next room c).whose ≡ o → among (served_by (fetches room) a o later) t ≡ false → ((take_next room c).next.tablet t ≡ c.tablet t) × (among later t ≡ false)
unfolding served_by among any is_for reply_to
take_elsewhere t room c later (refused r) o p q e = (ap (λ (d : Class). d.tablet t) (take_untouched room c r p), e)
take_elsewhere t room c later (accepted bytes) none p q e = (leaves_others 0 t c (fetches room) (ap (is_for t) q), e)
take_elsewhere t room c later (accepted bytes) (some u) p q e =
    (leaves_others 0 t c (fetches room) (ap (is_for t) q ∙ neither_left (eqb t u) _ e), neither_right (eqb t u) _ e)

silent_prints : (width t : ℕ) (c : Class) (qs : List Request) → silent t qs ≡ true → prints (c.tablet t).session ≡ true → among (served_in width c qs) t ≡ false → keeps_printing width t c qs ≡ true
unfolding silent served_in keeps_printing reply_to served_by
silent_prints width t c [] q p e = refl
silent_prints width t c (sends u room s ∷ qs) q p e =
    let other = not_own (eqb t u) (and_left _ _ q) in
    let left = leaves_others width t c (sends u room s) (line_elsewhere width t u room c s other) in
    and_both _ _ p (silent_prints width t (hear_from width room c u s).next qs (and_right (not (eqb t u)) _ q) (rw (ap (λ (x : Tablet). x.session) left) p) e)
silent_prints width t c (fetches room ∷ qs) q p e =
    let (left, more) = take_elsewhere t room c (served_in width (take_next room c).next qs) _ _ refl refl e in
    and_both _ _ p (silent_prints width t (take_next room c).next qs q (rw (ap (λ (x : Tablet). x.session) left) p) more)

-- so that one of thirty accepted takes serves it
pub silent_served : (width t : ℕ) (c : Class) (qs : List Request) → t < 30 → prints (c.tablet t).session ≡ true → silent t qs ≡ true → 30 ≤ length (served_in width c qs) → among (served_in width c qs) t ≡ true
silent_served width t c qs l p q many =
    either (among (served_in width c qs) t) (λ y. y)
    (λ n. one_of_thirty width t c qs l (silent_prints width t c qs q p n) many)

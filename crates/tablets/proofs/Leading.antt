-- What a call leaves is memory that calls lead to, by one call more.
use Prim.Native.Nat.{ℕ}
use mathlib.Core.Path.{◌≡◌, refl, sym, ◌∙◌, ap}
use mathlib.Core.List.{List, [], ◌∷◌, ◌++◌}
use Rattle.paper.specs.Class.{Class, begin_class, Request, sends, fetches, hear_from, take_next, reply_to, class_after, SaneClass}
use Rattle.paper.proofs.Apart.{calls_append}
use Rattle.paper.proofs.HeldOpen.{led_class_sane}
use Rattle.command.specs.View.{width}
use Rattle.call.specs.Call.{Memory}
use Rattle.tablets.specs.Calls.{packed_class, Reached, Begins, Counts}

-- one call more
pub led_on : (c : Class) (qs : List Request) (q : Request) → c ≡ class_after width begin_class qs → (reply_to width c q).next ≡ class_after width begin_class (qs ++ (q ∷ []))
unfolding class_after
led_on c qs q e = ap (λ d. (reply_to width d q).next) e ∙ sym (calls_append width begin_class qs (q ∷ []))

-- a line
unfoldable pub hears_on : (self : Memory) (k : Reached self) (next : Memory) (t room : ℕ) (s : List ℕ) → next ≡ packed_class (hear_from width room k.class t s).next → Reached next
unfolding reply_to
hears_on self k next t room s e =
    record { class = (hear_from width room k.class t s).next; calls = k.calls ++ (sends t room s ∷ []); led = led_on k.class k.calls (sends t room s) k.led; is = e }

-- a take
unfoldable pub takes_on : (self : Memory) (k : Reached self) (next : Memory) (room : ℕ) → next ≡ packed_class (take_next room k.class).next → Reached next
unfolding reply_to
takes_on self k next room e =
    record { class = (take_next room k.class).next; calls = k.calls ++ (fetches room ∷ []); led = led_on k.class k.calls (fetches room) k.led; is = e }

-- the start
unfoldable pub begins_on : (self : Memory) → Begins self → Reached self
unfolding class_after
begins_on self b = record { class = begin_class; calls = []; led = refl; is = b.is }

-- all that holds of classes that calls lead to holds of such memory
pub reached_sane : (self : Memory) (k : Reached self) → SaneClass width k.class
reached_sane self k = rw k.led (led_class_sane width k.calls)

-- and of its numbers
unfoldable pub reached_counts : (self : Memory) (k : Reached self) → Counts self.held
reached_counts self k = record { class = k.class; sane = reached_sane self k; is = ap (λ (m : Memory). m.held) k.is }

-- A tablet at its seat: its parts of the five slices are its session's, so what a call of one session promises of them it promises of the
-- thirty, of which no other changes.
use Prim.Native.Nat.{ℕ, suc, ◌+◌, ◌-◌, ◌*◌, ◌≤◌, ◌<◌}
use mathlib.Core.Path.{◌≡◌, refl, sym, ◌∙◌, ap}
use mathlib.Core.List.{List, [], ◌∷◌, ◌++◌, append_assoc}
use native.Mathlib.Omega.{arith}
use native.Mathlib.Nat.{suc-mul}
use lib.ListN.{length, take, drop, get_or, length-append, length-drop}
use lib.Seq.{drop-drop, drop-append-le, take-append-le, get_or-take, get_or-drop}
use borrow.Author.Tests.{eq-eqb}
use borrow.Rule.Slice.PartMut.{same_len_mid}
use Rattle.std.specs.Prelude.{Result}
use Rattle.paper.specs.Form.{Form}
use Rattle.paper.specs.Bench as P
use Rattle.paper.specs.Class.{seat}
use Rattle.paper.proofs.Invariant.{take_forms}
use Rattle.paper.proofs.Apart.{seat_own, seat_other}
use Rattle.session.specs.Memory.{Session, Shelf, packed_session, packed_shelf}
use Rattle.seats.specs.Numbers.{held_in}
use Rattle.seats.specs.Seats.{flat, numbers_of}
use Rattle.seats.proofs.Flat.{flat_length, flat_at, flat_write}
use Rattle.seats.proofs.Parted.{held_length}
use Rattle.call.specs.Call.{Memory, memory_of, laid, packed_bench, Reached, HearsLine, TakesSet}
use Rattle.lend.specs.Laid.{numbered, laid_out, Seated, Sits, SeatHears, SeatTakes}
use Rattle.command.specs.declared.Refusal.{Refusal}

-- the part of tablet t in parts of a width, as it is lent
abbrev pub lent_at : (w t : ℕ) → List ℕ → List ℕ
lent_at w t xs = take (t * w + w - t * w) (drop (t * w) xs)

-- and all parts when it comes back
abbrev pub back_at : (w t : ℕ) → (xs new : List ℕ) → List ℕ
back_at w t xs new = take (t * w) xs ++ (new ++ drop (t * w + w - t * w) (drop (t * w) xs))

-- they are as long as they were
pub back_length : (w t : ℕ) (xs new : List ℕ) → length new ≡ length (lent_at w t xs) → length (back_at w t xs new) ≡ length xs
back_length w t xs new e = same_len_mid (t * w) (t * w + w - t * w) xs new e

-- the parts that each of thirty sessions has of some kind
module _ (of : Session → List ℕ) (w : ℕ) (f : ℕ → Session) (len : (k : ℕ) → k < 30 → length (of (f k)) ≡ w) (t : ℕ) (l : t < 30) (xs : List ℕ) (e : xs ≡ flat (λ k. of (f k)) 0 30) where
  -- how long they are together
  pub parts_length : length xs ≡ 30 * w
  parts_length = ap length e ∙ flat_length (λ k. of (f k)) w 0 30 (λ k m n. len k n)

  -- a tablet's is its session's
  pub part_own : lent_at w t xs ≡ of (f t)
  part_own =
      let here : 0 + t ≡ t = omega arith in
      let size : t * w + w - t * w ≡ w = omega arith in
      rw (size, e) (rw here at (flat_at (λ k. of (f k)) w 0 30 t (λ k m n. len k n) l))

  -- when it comes back, that session has changed alone
  pub part_back : (x : Session) (new : List ℕ) → new ≡ of x → back_at w t xs new ≡ flat (λ k. of (seat t x f k)) 0 30
  part_back x new g =
      let here : 0 + t ≡ t = omega arith in
      let behind : t * w + (t * w + w - t * w) ≡ suc t * w = rw (suc-mul t w) (omega arith) in
      let own : of (seat t x f t) ≡ of x = ap of (seat_own t x f t (eq-eqb t t refl)) in
      rw (drop-drop (t * w + w - t * w) (t * w) xs, behind, g, e)
      (sym (rw (here, own) at (flat_write (λ k. of (f k)) (λ k. of (seat t x f k)) w 0 30 t (λ k m n. len k n) (λ k n. ap of (seat_other t x f k (rw here at n))) l)))

-- parts before something else: what is lent is lent of the parts, and what comes back stands before it
lent_before : (w t : ℕ) (xs ys : List ℕ) → t * w + w ≤ length xs → lent_at w t (xs ++ ys) ≡ lent_at w t xs
lent_before w t xs ys h =
    let size : t * w + w - t * w ≤ length (drop (t * w) xs) = rw length-drop (omega arith) in
    rw (drop-append-le (t * w) xs ys (omega arith)) (take-append-le (t * w + w - t * w) (drop (t * w) xs) ys size)

back_before : (w t : ℕ) (xs ys new : List ℕ) → t * w + w ≤ length xs → back_at w t (xs ++ ys) new ≡ back_at w t xs new ++ ys
back_before w t xs ys new h =
    let size : t * w + w - t * w ≤ length (drop (t * w) xs) = rw length-drop (omega arith) in
    rw (take-append-le (t * w) xs ys (omega arith), drop-append-le (t * w) xs ys (omega arith), drop-append-le (t * w + w - t * w) (drop (t * w) xs) ys size)
    (simp append_assoc)

-- the memory that is lent to a call of tablet t
abbrev pub lent : Memory → ℕ → Memory
lent m t =
    memory_of m.all m.names m.texts m.lens m.plans m.filed
    (lent_at 16 t m.name) (lent_at 1024 t m.text) (lent_at 1700 t m.answers) (lent_at 104 t m.values) (lent_at 10 t m.held)

-- and all memory when it comes back
abbrev pub back : Memory → ℕ → Memory → Memory
back m t x =
    memory_of x.all x.names x.texts x.lens x.plans x.filed
    (back_at 16 t m.name x.name) (back_at 1024 t m.text x.text) (back_at 1700 t m.answers x.answers) (back_at 104 t m.values x.values) (back_at 10 t m.held x.held)

module _ (m : Memory) (t : ℕ) (fs : List Form) (f : ℕ → Session) (n : ℕ) (st : P.Session) (last printing : ℕ) (s : Seated m t fs f n st last printing) where
  -- the parts of thirty sessions
  seated_name : m.name ≡ flat (λ k. (f k).name) 0 30
  unfolding laid_out
  seated_name = ap (λ (x : Memory). x.name) s.is

  seated_text : m.text ≡ flat (λ k. (f k).text) 0 30
  unfolding laid_out
  seated_text = ap (λ (x : Memory). x.text) s.is

  seated_answers : m.answers ≡ flat (λ k. (f k).answers) 0 30
  unfolding laid_out
  seated_answers = ap (λ (x : Memory). x.answers) s.is

  seated_values : m.values ≡ flat (λ k. (f k).values) 0 30
  unfolding laid_out
  seated_values = ap (λ (x : Memory). x.values) s.is

  -- and behind their numbers two more
  abbrev numbers : List ℕ
  numbers = flat (λ k. held_in (f k).held) 0 30

  seated_held : m.held ≡ numbers ++ (last ∷ printing ∷ [])
  unfolding laid_out numbered numbers_of
  seated_held = ap (λ (x : Memory). x.held) s.is

  numbers_whole : length numbers ≡ 300
  numbers_whole = parts_length (λ x. held_in x.held) 10 f (λ k l. held_length (f k).held) t s.below numbers refl

  -- what is lent is the memory of the tablet's bench
  lent_is : lent m t ≡ packed_bench (record { forms = fs; session = st }) n
  unfolding packed_bench laid laid_out
  lent_is =
      let name : lent_at 16 t m.name ≡ (packed_session fs n st).name =
      part_own (λ x. x.name) 16 f (λ k l. (s.sized k l).name) t s.below m.name seated_name ∙ ap (λ (x : Session). x.name) s.here in
      let text : lent_at 1024 t m.text ≡ (packed_session fs n st).text =
      part_own (λ x. x.text) 1024 f (λ k l. (s.sized k l).text) t s.below m.text seated_text ∙ ap (λ (x : Session). x.text) s.here in
      let answers : lent_at 1700 t m.answers ≡ (packed_session fs n st).answers =
      part_own (λ x. x.answers) 1700 f (λ k l. (s.sized k l).answers) t s.below m.answers seated_answers ∙ ap (λ (x : Session). x.answers) s.here in
      let values : lent_at 104 t m.values ≡ (packed_session fs n st).values =
      part_own (λ x. x.values) 104 f (λ k l. (s.sized k l).values) t s.below m.values seated_values ∙ ap (λ (x : Session). x.values) s.here in
      let held : lent_at 10 t m.held ≡ held_in (packed_session fs n st).held =
      ap (lent_at 10 t) seated_held
      ∙ lent_before 10 t numbers (last ∷ printing ∷ []) (omega (arith, numbers_whole, s.below))
      ∙ part_own (λ x. held_in x.held) 10 f (λ k l. held_length (f k).held) t s.below numbers refl
      ∙ ap (λ (x : Session). held_in x.held) s.here in
      λ j. record {
        all = (s.is j).all;
        names = (s.is j).names;
        texts = (s.is j).texts;
        lens = (s.is j).lens;
        plans = (s.is j).plans;
        filed = (s.is j).filed;
        name = name j;
        text = text j;
        answers = answers j;
        values = values j;
        held = held j;
      }

  unfoldable lent_reached : Reached (lent m t)
  lent_reached = record { paper = record { forms = fs; session = st }; number = n; sane = s.sane; opens = s.opens; is = lent_is }

  -- what comes back is that of the thirty, of which one session has changed
  back_is : (y : Memory) (shelf : Shelf) (x : Session) → y ≡ laid shelf x → back m t y ≡ laid_out shelf (seat t x f) last printing
  unfolding laid laid_out numbered numbers_of
  back_is y shelf x e =
      let name : back_at 16 t m.name y.name ≡ flat (λ k. (seat t x f k).name) 0 30 =
      part_back (λ x. x.name) 16 f (λ k l. (s.sized k l).name) t s.below m.name seated_name x y.name (ap (λ (x : Memory). x.name) e) in
      let text : back_at 1024 t m.text y.text ≡ flat (λ k. (seat t x f k).text) 0 30 =
      part_back (λ x. x.text) 1024 f (λ k l. (s.sized k l).text) t s.below m.text seated_text x y.text (ap (λ (x : Memory). x.text) e) in
      let answers : back_at 1700 t m.answers y.answers ≡ flat (λ k. (seat t x f k).answers) 0 30 =
      part_back (λ x. x.answers) 1700 f (λ k l. (s.sized k l).answers) t s.below m.answers seated_answers x y.answers (ap (λ (x : Memory). x.answers) e) in
      let values : back_at 104 t m.values y.values ≡ flat (λ k. (seat t x f k).values) 0 30 =
      part_back (λ x. x.values) 104 f (λ k l. (s.sized k l).values) t s.below m.values seated_values x y.values (ap (λ (x : Memory). x.values) e) in
      let held : back_at 10 t m.held y.held ≡ flat (λ k. held_in (seat t x f k).held) 0 30 ++ (last ∷ printing ∷ []) =
      ap (λ xs. back_at 10 t xs y.held) seated_held
      ∙ back_before 10 t numbers (last ∷ printing ∷ []) y.held (omega (arith, numbers_whole, s.below))
      ∙ ap (λ xs. xs ++ (last ∷ printing ∷ []))
      (part_back (λ x. held_in x.held) 10 f (λ k l. held_length (f k).held) t s.below numbers refl x y.held (ap (λ (x : Memory). x.held) e)) in
      λ j. record {
        all = (e j).all;
        names = (e j).names;
        texts = (e j).texts;
        lens = (e j).lens;
        plans = (e j).plans;
        filed = (e j).filed;
        name = name j;
        text = text j;
        answers = answers j;
        values = values j;
        held = held j;
      }

-- three hundred numbers, and two behind them
held_length_of : (held xs ys : List ℕ) → held ≡ xs ++ ys → length xs ≡ 300 → length held ≡ 300 + length ys
held_length_of held xs ys e h = rw (e, length-append xs ys, h)

-- the tag of a tablet's state is the first number of its part
pub tag_lent : (t : ℕ) (held : List ℕ) → get_or (lent_at 10 t held) 0 0 ≡ get_or held (t * 10) 0
tag_lent t held =
    let size : 0 < t * 10 + 10 - t * 10 = omega arith in
    let here : t * 10 + 0 ≡ t * 10 = omega arith in
    get_or-take (t * 10 + 10 - t * 10) (drop (t * 10) held) 0 0 size ∙ get_or-drop (t * 10) held 0 0 ∙ rw here

-- a tablet that sits may be called
pub sits_reached : (m : Memory) (t : ℕ) → Sits m t → Reached (lent m t)
sits_reached m t k = lent_reached m t k.forms k.sessions k.number k.state k.last k.printing k.seated

-- and its parts are within the slices
pub record Inside (m : Memory) (t : ℕ) : Type 0 where
  pub name : t * 16 + 16 ≤ length m.name
  pub text : t * 1024 + 1024 ≤ length m.text
  pub answers : t * 1700 + 1700 ≤ length m.answers
  pub values : t * 104 + 104 ≤ length m.values
  pub held : t * 10 + 10 ≤ length m.held

pub sits_inside : (m : Memory) (t : ℕ) → Sits m t → Inside m t
sits_inside m t k =
    let s = k.seated in
    let f = k.sessions in
    let l = s.below in
    let name : length m.name ≡ 480 = parts_length (λ x. x.name) 16 f (λ k l. (s.sized k l).name) t l m.name (seated_name m t _ f _ _ _ _ s) in
    let text : length m.text ≡ 30720 = parts_length (λ x. x.text) 1024 f (λ k l. (s.sized k l).text) t l m.text (seated_text m t _ f _ _ _ _ s) in
    let answers : length m.answers ≡ 51000 = parts_length (λ x. x.answers) 1700 f (λ k l. (s.sized k l).answers) t l m.answers (seated_answers m t _ f _ _ _ _ s) in
    let values : length m.values ≡ 3120 = parts_length (λ x. x.values) 104 f (λ k l. (s.sized k l).values) t l m.values (seated_values m t _ f _ _ _ _ s) in
    let held : length m.held ≡ 302 =
    held_length_of m.held (numbers m t _ f _ _ _ _ s) (k.last ∷ k.printing ∷ []) (seated_held m t _ f _ _ _ _ s) (numbers_whole m t _ f _ _ _ _ s) in
    record { name = omega arith; text = omega arith; answers = omega arith; values = omega arith; held = omega arith }

module _ (m : Memory) (t : ℕ) (next : Memory) where
  -- a line at its seat
  pub seat_hears : (s old new : List ℕ) (r : Result ℕ Refusal) → HearsLine (lent m t) s old next new r → SeatHears m t s old (back m t next) new r
  unfolding lent_reached packed_bench
  seat_hears s old new r h =
      record {
        meets = λ fs f n st last printing k. h.meets (lent_reached m t fs f n st last printing k);
        leaves = λ fs f n st last printing k. back_is m t fs f n st last printing k next _ _ (h.leaves (lent_reached m t fs f n st last printing k));
      }

  -- a set
  pub seat_takes : (old new : List ℕ) (r : Result ℕ Refusal) → TakesSet (lent m t) old next new r → SeatTakes m t old (back m t next) new r
  unfolding lent_reached packed_bench
  seat_takes old new r h =
      record {
        meets = λ fs f n st last printing k. h.meets (lent_reached m t fs f n st last printing k);
        leaves = λ fs f n st last printing k.
            back_is m t fs f n st last printing k next _ _ (h.leaves (lent_reached m t fs f n st last printing k))
            ∙ ap (λ gs. laid_out (packed_shelf gs) (seat t (packed_session gs n (P.take_set (length old) (record { forms = fs; session = st })).next.session) f) last printing) (take_forms (length old) fs st);
      }

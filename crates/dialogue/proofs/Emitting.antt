-- What is said piece by piece is what the paper's program of a class says of the whole input.
use Prim.Native.Nat.{ℕ}
use mathlib.Core.Path.{◌≡◌, refl, sym, ◌∙◌}
use mathlib.Core.Bool.{true}
use mathlib.Core.List.{List, [], ◌∷◌, ◌++◌, append_assoc, append-nil}
use lib.Dec.{eqb}
use borrow.Author.Tests.{eqb-true}
use Rattle.paper.specs.Byte.{when◌then◌else◌, every}
use Rattle.paper.specs.Line.{lf, is_dropped, kept, cut}
use Rattle.paper.specs.Class.{Class, begin_class}
use Rattle.paper.specs.ClassProgram.{records, class_program}
use Rattle.paper.proofs.Test.{either}
use Rattle.command.specs.View.{width}
use Rattle.flow.specs.Feed.{Piece, line, waits, feed}
use Rattle.flow.proofs.Cutting.{inside, cut_at, cut_none, kept_none, kept_other, kept_dropped, lf_stays, inside_more}
use Rattle.dialogue.specs.Emit.{Standing, start, record_for, line_reply, answered, answered_says, waiting, step, step_says, after, emit}

-- a piece of input behind another adds what it adds behind what that one adds
pub emit_append : (s : Standing) (x y : List ℕ) → emit s (x ++ y) ≡ emit s x ++ emit (after s x) y
unfolding after emit
emit_append s [] y = refl
emit_append s (b ∷ x) y = rw (emit_append (step s b) x y) (sym (append_assoc (step_says s b) (emit (step s b) x) _))

-- a standing by its parts
abbrev standing : Class → List ℕ → Standing
standing c w = record { class = c; wait = w }

-- the records of no line
records_none : (c : Class) → records width c [] ≡ []
unfolding records
records_none c = refl

-- and of one line more
records_line : (c : Class) (w : List ℕ) (ss : List (List ℕ)) → records width c (w ∷ ss) ≡ answered_says (standing c w) w ++ records width (answered (standing c w) w).class ss
unfolding records answered_says answered record_for line_reply
records_line c w ss = refl

-- reading on in the middle of a line: what is written are the records of the lines that this input completes
emit_records : (c : Class) (s w : List ℕ) → every inside w ≡ true → emit (standing c w) s ≡ records width c (cut (w ++ kept s))
unfolding emit answered step step_says waiting when◌then◌else◌ every
emit_records c [] w e = rw (kept_none, append-nil w, cut_none w e, records_none c)
emit_records c (b ∷ s) w e =
    either (eqb b lf)
    (λ y.
    let lines : cut (w ++ kept (b ∷ s)) ≡ w ∷ cut (kept s) = rw (eqb-true b lf y, kept_other lf s lf_stays) (cut_at w (kept s) e) in
    rw (y, lines, records_line c w (cut (kept s)), emit_records (answered (standing c w) w).class s [] refl))
    (λ m. either (is_dropped b)
    (λ d. rw (m, d, kept_dropped b s d) (emit_records c s w e))
    (λ k. rw (m, k, kept_other b s k) (emit_records c s (w ++ (b ∷ [])) (inside_more w b e m) ∙ rw (append_assoc w (b ∷ []) (kept s)))))

-- all pieces together: the whole input from the start says the paper's program
pub emit_program : (input : List ℕ) → emit start input ≡ class_program width input
unfolding class_program every
emit_program input = emit_records begin_class input [] refl

-- what is to be said by what was taken in: a line and the input behind it, or bytes that wait
abbrev Fed : Class → Piece → List ℕ
Fed c (line w rest) = answered_says (standing c w) w ++ emit (answered (standing c w) w) rest
Fed c (waits w) = []

-- going byte by byte says what the line and the rest of the input say
emit_feed : (c : Class) (s w : List ℕ) → emit (standing c w) s ≡ Fed c (feed w s)
unfolding emit step step_says waiting feed when◌then◌else◌
emit_feed c [] w = refl
emit_feed c (b ∷ s) w = go (emit_feed c s w) (emit_feed c s (w ++ (b ∷ [])))
  where
    go : emit (standing c w) s ≡ Fed c (feed w s) → emit (standing c (w ++ (b ∷ []))) s ≡ Fed c (feed (w ++ (b ∷ [])) s)
        → emit (standing c w) (b ∷ s) ≡ Fed c (feed w (b ∷ s))
    go dropped added = either (eqb b lf) (λ y. rw y) (λ m. either (is_dropped b) (λ d. rw (m, d) dropped) (λ k. rw (m, k) added))

-- where the run stands then
abbrev Then : Class → Piece → Standing
Then c (line w rest) = after (answered (standing c w) w) rest
Then c (waits w) = standing c w

after_feed : (c : Class) (s w : List ℕ) → after (standing c w) s ≡ Then c (feed w s)
unfolding after step waiting feed when◌then◌else◌
after_feed c [] w = refl
after_feed c (b ∷ s) w = go (after_feed c s w) (after_feed c s (w ++ (b ∷ [])))
  where
    go : after (standing c w) s ≡ Then c (feed w s) → after (standing c (w ++ (b ∷ []))) s ≡ Then c (feed (w ++ (b ∷ [])) s)
        → after (standing c w) (b ∷ s) ≡ Then c (feed w (b ∷ s))
    go dropped added = either (eqb b lf) (λ y. rw y) (λ m. either (is_dropped b) (λ d. rw (m, d) dropped) (λ k. rw (m, k) added))

-- a line is answered
pub emit_answers : (s : Standing) (input w rest : List ℕ) → feed s.wait input ≡ line w rest → emit s input ≡ answered_says s w ++ emit (answered s w) rest
unfolding answered_says answered
emit_answers s input w rest f = emit_feed s.class input s.wait ∙ rw f

pub after_answers : (s : Standing) (input w rest : List ℕ) → feed s.wait input ≡ line w rest → after s input ≡ after (answered s w) rest
unfolding answered
after_answers s input w rest f = after_feed s.class input s.wait ∙ rw f

-- no line ends in the input: it waits for more
pub emit_waits : (s : Standing) (w x y : List ℕ) → feed s.wait x ≡ feed w y → emit s x ≡ emit (waiting s w) y
unfolding waiting
emit_waits s w x y f = emit_feed s.class x s.wait ∙ rw f (sym (emit_feed s.class y w))

pub after_waits : (s : Standing) (w x y : List ℕ) → feed s.wait x ≡ feed w y → after s x ≡ after (waiting s w) y
unfolding waiting
after_waits s w x y f = after_feed s.class x s.wait ∙ rw f (sym (after_feed s.class y w))

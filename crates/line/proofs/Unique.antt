-- A line is read as one record: any two that the promise of reading allows are equal, the places of their strings included.
use mathlib.Core.Path.{◌≡◌, refl, sym, ◌∙◌, ap}
use mathlib.Core.List.{List, [], ◌∷◌}
use Rattle.std.specs.Prelude.{Result, Err}
use Prim.Native.Nat.{ℕ, zero, suc, ◌+◌, ◌-◌, ◌<◌}
use native.Mathlib.Omega.{arith}
use lib.ListN.{length}
use lib.Dec.{eqb}
use borrow.Author.Tests.{eq-eqb}
use Rattle.paper.specs.Line.{Got, got, bad, quote, plain}
use Rattle.paper.specs.Command as P
use Rattle.paper.specs.Read as Read
use Rattle.paper.specs.Refusal as R
use Rattle.paper.proofs.Test.{either}
use Rattle.paper.proofs.Quotes.{quotes, All, first, quotes_open, quotes_pass, Single, LoneText, LoneReading, read_lone}
use Rattle.text.specs.Place.{byte_at, from}
use Rattle.text.specs.declared.read.Span.{Span}
use Rattle.text.proofs.Place.{stands}
use Rattle.text.proofs.Quote.{length_from}
use Rattle.command.specs.View.{width, refusal_of, text_in, step_of, content_of, setting_of, bar_of, put_of, view_of, Standing, ContentStands, Stand}
use Rattle.command.specs.Answer.{Reports}
use Rattle.command.specs.declared.Refusal.{Refusal}
use Rattle.command.specs.declared.Content.{Content}
use Rattle.command.specs.declared.Content.TheVariants as C
use Rattle.command.specs.declared.Step.{Step}
use Rattle.command.specs.declared.Step.TheVariants as S
use Rattle.command.specs.declared.Command.{Command}
use Rattle.command.specs.declared.Command.TheVariants as M
use Rattle.command.proofs.Outcome.{meets_one}
use Rattle.line.specs.Given.{IsRead}

-- what each text behind a quote has, the one behind a quote at a place has
behind_quote : (K : List ℕ → Type 0) (s : List ℕ) (at : ℕ) → All K (quotes s) → byte_at s at ≡ quote → K (from s (suc at))
unfolding byte_at from
behind_quote K [] at h e = absurd (omega arith)
behind_quote K (b ∷ s) zero h e = (rw (quotes_open b s (eq-eqb b quote e)) at h).0
behind_quote K (b ∷ s) (suc at) h e =
    behind_quote K s at (either (eqb b quote) (λ y. (rw (quotes_open b s y) at h).1) (λ n. rw (quotes_pass b s n) at h)) e

-- the span of a string whose content starts with these bytes of a line
span_of : List ℕ → List ℕ → Got (List ℕ) → Span
span_of s w (got c rest) = record { start = length s - length w; end = length s - suc (length rest); len = length c }
span_of s w bad = record { start = 0; end = 0; len = 0 }

-- the span of the string behind the first quote of a line
first_span : List ℕ → Span
first_span s = span_of s (first (quotes s)) (plain (first (quotes s)))

-- the bytes of a string that stands in a line are those behind the first quote
standing_first : (s : List ℕ) (start : ℕ) (t r : List ℕ) → Single (quotes s) t → byte_at s (start - 1) ≡ quote → 0 < start → plain (from s start) ≡ got t r → from s start ≡ first (quotes s)
standing_first s zero t r h e l p = absurd (omega arith)
standing_first s (suc k) t r h e l p =
    let back : suc k - 1 ≡ k = omega arith in
    behind_quote _ s k h.only (rw back at e) r p

-- so it is the string there
span_first : (s : List ℕ) (a : Span) → Single (quotes s) (text_in s a) → Standing s a → a ≡ first_span s
unfolding text_in first_span span_of
span_first s a h k =
    let place : from s a.start ≡ first (quotes s) = standing_first s a.start _ _ h k.opens k.begins k.holds.closes.closes in
    let here : a.start - 1 < length s = stands s (a.start - 1) quote (sym k.opens) (omega arith) in
    let size : length (from s a.start) ≡ length s - a.start = length_from s a.start in
    let rest : length (from s (a.end + 1)) ≡ length s - (a.end + 1) = length_from s (a.end + 1) in
    let starts : length s - length (from s a.start) ≡ a.start = omega (arith, k.begins) in
    let ends : length s - suc (length (from s (a.end + 1))) ≡ a.end = omega (arith, k.holds.closes.inside) in
    rw (← place, k.holds.closes.closes, starts, ends, ← k.holds.counted)

-- the code's step for the paper's
step_for : P.Step → Step
step_for (P.up n) = S.Up n
step_for (P.down n) = S.Down n

-- its content, with the place of a string
content_for : Span → P.Content → Content
content_for a (P.text t) = C.Text a
content_for a (P.shown (P.counter n)) = C.Counter n
content_for a (P.shown (P.variable n)) = C.Variable n
content_for a (P.joined t (P.counter n)) = C.TextCounter a n
content_for a (P.joined t (P.variable n)) = C.TextVariable a n

-- its record, with the place of a string
record_for : Span → P.Command → Command
record_for a P.empty = M.Empty
record_for a P.new = M.New
record_for a (P.keep (P.draw (P.size p₁ p₂))) = M.Size p₁ p₂
record_for a (P.keep (P.draw (P.direction d))) = M.Direction d
record_for a (P.keep (P.draw (P.put t c))) =
    M.Text (record { setting = record { x = t.x; y = t.y; r = t.r; f = t.f; h = t.h; v = t.v; m = t.m }; content = content_for a c })
record_for a (P.keep (P.draw (P.bar P.black x y w t))) = M.Black (record { x = x; y = y; w = w; t = t })
record_for a (P.keep (P.draw (P.bar P.flip x y w t))) = M.Flip (record { x = x; y = y; w = w; t = t })
record_for a (P.keep (P.draw (P.bar P.white x y w t))) = M.White (record { x = x; y = y; w = w; t = t })
record_for a (P.keep (P.draw (P.frame x₁ y₁ t x₂ y₂))) = M.Frame x₁ y₁ t x₂ y₂
record_for a (P.keep (P.define (P.counting n len l by t))) = M.Counting n len (step_for by) a
record_for a (P.keep (P.define (P.varying n len l t))) = M.Varying n len a
record_for a (P.file (P.start t)) = M.Start a
record_for a (P.file P.finish) = M.Finish
record_for a (P.file P.inform) = M.Inform
record_for a (P.file (P.recall t)) = M.Recall a
record_for a (P.file (P.delete t)) = M.Delete a
record_for a P.ask = M.Ask
record_for a (P.print n c) = M.Print n c

-- a record is the one of a reading: with the string behind the first quote, or a refusal with that word
abbrev Tells : List ℕ → Read.Reading → Command → Type 0
Tells s (Read.command c) r = r ≡ record_for (first_span s) c
Tells s (Read.unread x) r = (why : Refusal) × (refusal_of why ≡ x) × (r ≡ M.Refused why)

-- a step is the one for its view
step_tells : (by : Step) → by ≡ step_for (step_of by)
unfolding step_for step_of
step_tells (S.Up n) = refl
step_tells (S.Down n) = refl

-- a content whose string stands in the line is
content_tells : (s : List ℕ) (c : Content) → LoneText (quotes s) (content_of s c) → ContentStands s c → c ≡ content_for (first_span s) (content_of s c)
unfolding content_for content_of ContentStands
content_tells s (C.Text string) h k = ap C.Text (span_first s string h k)
content_tells s (C.Counter n) h k = refl
content_tells s (C.Variable n) h k = refl
content_tells s (C.TextCounter string n) h k = ap (λ a. C.TextCounter a n) (span_first s string h k)
content_tells s (C.TextVariable string n) h k = ap (λ a. C.TextVariable a n) (span_first s string h k)

-- a record whose string stands in the line is the one of its view
record_tells : (s : List ℕ) (r : Command) → LoneReading (quotes s) (view_of s r) → Stand s r → Tells s (view_of s r) r
unfolding record_for view_of put_of bar_of setting_of Stand
record_tells s M.Empty h k = refl
record_tells s M.New h k = refl
record_tells s M.Finish h k = refl
record_tells s M.Inform h k = refl
record_tells s M.Ask h k = refl
record_tells s (M.Size p₁ p₂) h k = refl
record_tells s (M.Direction d) h k = refl
record_tells s (M.Text put) h k = ap (λ c. M.Text (record { setting = put.setting; content = c })) (content_tells s put.content h k)
record_tells s (M.Black b) h k = refl
record_tells s (M.Flip b) h k = refl
record_tells s (M.White b) h k = refl
record_tells s (M.Frame x₁ y₁ t x₂ y₂) h k = refl
record_tells s (M.Counting n len step prompt) h k =
    ap (M.Counting n len step) (span_first s prompt h k) ∙ ap (λ by. M.Counting n len by (first_span s)) (step_tells step)
record_tells s (M.Varying n len prompt) h k = ap (M.Varying n len) (span_first s prompt h k)
record_tells s (M.Start name) h k = ap M.Start (span_first s name h k)
record_tells s (M.Recall name) h k = ap M.Recall (span_first s name h k)
record_tells s (M.Delete name) h k = ap M.Delete (span_first s name h k)
record_tells s (M.Print sets copies) h k = refl
record_tells s (M.Refused why) h k = (why, refl, refl)

-- a refusal has its word alone
refusal_one : (why why' : Refusal) → refusal_of why ≡ refusal_of why' → why ≡ why'
unfolding Reports R.lent
refusal_one why why' e =
    let same : ◌≡◌ {A = Result ℕ Refusal} (Err why) (Err why') = (meets_one (R.refused (refusal_of why)) [] [] [] _ _ (record { reports = refl; buffer = refl }) (record { reports = sym e; buffer = refl })).1 in
    cc

-- a reading has one record
tells_one : (s : List ℕ) (g : Read.Reading) (r r' : Command) → Tells s g r → Tells s g r' → r ≡ r'
tells_one s (Read.command c) r r' p q = p ∙ sym q
tells_one s (Read.unread x) r r' p q = p.2 ∙ ap M.Refused (refusal_one p.0 q.0 (p.1 ∙ sym q.1)) ∙ sym q.2

-- the record of a line is the one of its reading
read_tells : (s : List ℕ) (r : Command) → IsRead s r → Tells s (Read.read width s) r
read_tells s r h = rw (← h.view) (record_tells s r (rw h.view (read_lone width s)) h.stand)

-- two records that a line is read as are one
pub read_unique : (s : List ℕ) (r r' : Command) → IsRead s r → IsRead s r' → r ≡ r'
read_unique s r r' h h' = tells_one s (Read.read width s) r r' (read_tells s r h) (read_tells s r' h')

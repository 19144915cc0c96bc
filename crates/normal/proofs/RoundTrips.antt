-- What the writer's promise gives: the bytes that it writes read as the record again, and a record that was read is written as
-- the paper writes its command.
use mathlib.Core.Path.{◌≡◌, refl, sym, ◌∙◌}
use mathlib.Core.Bool.{true}
use mathlib.Core.List.{List}
use Prim.Native.Nat.{ℕ, ◌+◌, ◌-◌}
use native.Mathlib.Omega.{arith}
use lib.ListN.{length, take, drop}
use lib.Seq.{take_at}
use lib.Dec.{leb}
use borrow.Author.Tests.{eq-eqb}
use Rattle.std.specs.Prelude.{Result, Ok}
use Rattle.paper.specs.Command as P
use Rattle.paper.specs.Read as Read
use Rattle.paper.specs.Write as Write
use Rattle.paper.specs.Refusal as R
use Rattle.paper.proofs.Law.{by_test, if_true, and_both}
use Rattle.paper.proofs.RoundTrip.{read_normal}
use Rattle.text.specs.Place.{from, closing}
use Rattle.text.specs.declared.read.Span.{Span}
use Rattle.text.proofs.Quote.{length_from}
use Rattle.command.specs.View.{width, text_in, view_of, Holds, ContentStands, Stand}
use Rattle.command.specs.Answer.{Reports, Meets}
use Rattle.command.specs.declared.Content.{Content}
use Rattle.command.specs.declared.Content.TheVariants as C
use Rattle.command.specs.declared.Command.{Command}
use Rattle.command.specs.declared.Command.TheVariants as M
use Rattle.command.specs.declared.Refusal.{Refusal}
use Rattle.command.proofs.Outcome.{meets_one}
use Rattle.line.specs.Given.{IsRead}
use Rattle.normal.specs.Normal.{closes_with, held_at, content_held, record_held, write_reading, write_of, WritesLine}

-- an accepted call was not refused by the paper
never_refused : {K : Type 0} (r : R.Refusal) (old new : List ℕ) (len : ℕ) → Meets (R.refused r) old new (Ok len) → K
unfolding Reports
never_refused r old new len m = absurd m.reports

-- the bytes at the front of the buffer are those that the paper accepts
accepted_front : (bytes old new : List ℕ) (len : ℕ) → Meets (R.accepted bytes) old new (Ok len) → take len new ≡ bytes
unfolding Reports R.lent
accepted_front bytes old new len m = rw m.buffer (take_at bytes (drop (length bytes) old) len (sym m.reports))

-- the bytes written for a reading read as it
reading_reads : (room : ℕ) (r : Read.Reading) (old new : List ℕ) (len : ℕ) → Meets (write_reading room r) old new (Ok len) → Read.read width (take len new) ≡ r
unfolding write_reading Write.write
reading_reads room (Read.command p) old new len =
    by_test (λ a. Meets a old new (Ok len) → Read.read width (take len new) ≡ Read.command p) (P.in_range width p) _ _
    (λ e. by_test (λ a. Meets a old new (Ok len) → Read.read width (take len new) ≡ Read.command p) (leb (length (Write.normal p)) room) _ _
    (λ _ m. rw (accepted_front (Write.normal p) old new len m) (read_normal width p (omega arith) e))
    λ _. never_refused R.too_short old new len)
    λ _. never_refused R.out_of_range old new len
reading_reads room (Read.unread r) old new len = never_refused R.out_of_range old new len

-- the bytes that an accepted call writes read as the record that it was given
pub write_reads : (s : List ℕ) (c : Command) (old new : List ℕ) (len : ℕ) → WritesLine s c old new (Ok len) → Read.read width (take len new) ≡ view_of s c
unfolding write_of
write_reads s c old new len w =
    by_test (λ a. Meets a old new (Ok len) → Read.read width (take len new) ≡ view_of s c) (record_held s c) _ _
    (λ _. reading_reads (length old) (view_of s c) old new len) (λ _. never_refused R.out_of_range old new len) w.meets

-- and no call of it has two outcomes
pub write_unique : (s : List ℕ) (c : Command) (old new new' : List ℕ) (r r' : Result ℕ Refusal) → WritesLine s c old new r → WritesLine s c old new' r' → (new ≡ new') × (r ≡ r')
write_unique s c old new new' r r' w w' = meets_one _ old new new' r r' w.meets w'.meets

-- a string that holds is found at its place
pub holds_held : (s : List ℕ) (string : Span) → Holds s string → held_at s string ≡ true
unfolding held_at closes_with closing text_in
holds_held s string h =
    let rest : length (from s (string.end + 1)) ≡ length s - (string.end + 1) = length_from s (string.end + 1) in
    rw h.closes.closes
    (and_both _ _ (eq-eqb _ string.end (omega (arith, h.closes.inside))) (eq-eqb _ string.len (omega (arith, h.counted))))

-- the string of a content that stands in a line
content_is_held : (s : List ℕ) (c : Content) → ContentStands s c → content_held s c ≡ true
unfolding ContentStands content_held
content_is_held s (C.Text string) h = holds_held s string h.holds
content_is_held s (C.Counter n) h = refl
content_is_held s (C.Variable n) h = refl
content_is_held s (C.TextCounter string n) h = holds_held s string h.holds
content_is_held s (C.TextVariable string n) h = holds_held s string h.holds

-- the string of a record that stands in a line
pub stand_held : (s : List ℕ) (c : Command) → Stand s c → record_held s c ≡ true
unfolding Stand record_held
stand_held s M.Empty h = refl
stand_held s M.New h = refl
stand_held s M.Finish h = refl
stand_held s M.Inform h = refl
stand_held s M.Ask h = refl
stand_held s (M.Size p₁ p₂) h = refl
stand_held s (M.Direction d) h = refl
stand_held s (M.Text put) h = content_is_held s put.content h
stand_held s (M.Black b) h = refl
stand_held s (M.Flip b) h = refl
stand_held s (M.White b) h = refl
stand_held s (M.Frame x₁ y₁ t x₂ y₂) h = refl
stand_held s (M.Counting n len step prompt) h = holds_held s prompt h.holds
stand_held s (M.Varying n len prompt) h = holds_held s prompt h.holds
stand_held s (M.Start name) h = holds_held s name h.holds
stand_held s (M.Recall name) h = holds_held s name h.holds
stand_held s (M.Delete name) h = holds_held s name h.holds
stand_held s (M.Print sets copies) h = refl
stand_held s (M.Refused why) h = refl

-- a record that was read is written as the paper writes the line's command
written_as : (s : List ℕ) (room : ℕ) (c : Command) (p : P.Command) → IsRead s c → Read.read width s ≡ Read.command p → write_of s room c ≡ Write.write width room p
unfolding write_of write_reading
written_as s room c p h e = if_true (record_held s c) _ _ (stand_held s c h.stand) ∙ rw (h.view, e)

pub read_writes : (s : List ℕ) (c : Command) (p : P.Command) (old new : List ℕ) (r : Result ℕ Refusal) → IsRead s c → Read.read width s ≡ Read.command p → WritesLine s c old new r → Meets (Write.write width (length old) p) old new r
read_writes s c p old new r h e w = rw (sym (written_as s (length old) c p h e)) w.meets

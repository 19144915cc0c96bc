-- The lines to the store by their first two letters: they alone begin with `F`, and the second letter tells which of them a line is.
-- Each row of the table gives its own command whatever its parts are, so that only the ends of the rows matter.
use Prim.Native.Nat.{ℕ, ◌≤◌, ◌<◌}
use Prim.Native.Char.{code}
use mathlib.Core.Path.{◌≡◌, refl, sym}
use mathlib.Core.Bool.{true}
use mathlib.Core.List.{List, [], ◌∷◌}
use mathlib.Core.Option.{none, some}
use native.Mathlib.Omega.{arith}
use lib.ListN.{length}
use Rattle.paper.specs.Byte.{bytes, when◌then◌else◌, every}
use Rattle.paper.specs.Line.{Got, got, bad, Reader, followed, give, ended, one, byte, long, control}
use Rattle.paper.specs.Command.{is_shown, in_range, Pen, FormLine, Filing, start, finish, inform, recall, delete, Command, empty, new, keep, file, ask}
use Rattle.paper.specs.Refusal.{too_long, control_byte, out_of_range}
use Rattle.paper.specs.Read.{or_else, size_line, direction_line, text_line, bar_line, frame_line, counter_line, variable_line, name_line, copies_of, print_line, row, table, these, Shape, strange, body_shape, by_row, shape, command, unread, judged, read}
use Rattle.paper.specs.Class.{filing_read}
use Rattle.paper.proofs.Law.{by_test}
use Rattle.paper.proofs.Others.{some_none}
use Rattle.paper.proofs.Part.{or_else_got, or_else_bad}
use Rattle.text.specs.Place.{byte_at, from}
use Rattle.text.proofs.Place.{stands}
use Rattle.command.specs.View.{width}
use Rattle.command.specs.declared.Command as L
use Rattle.line.specs.Given.{Gives, Judges, IsRead}
use Rattle.line.specs.Family.{filing}
use Rattle.line.specs.Kind.{kind_of, filing_kind, shape_by}
use Rattle.line.specs.declared.kind.Kind.{Kind}
use Rattle.line.specs.declared.kind.Kind.TheVariants as K
use Rattle.line.specs.declared.read.Errand.{Errand}
use Rattle.line.specs.declared.read.Errand.TheVariants as E
use Rattle.line.proofs.Letters.{pens, filings, letters, by_letter, bar_strange, filing_strange, letter_strange}
use Rattle.line.proofs.Whole.{read_shape}

-- the second letter of a line to the store
unfoldable pub letter_of : Filing → ℕ
letter_of (start name) = code "S"
letter_of finish = code "E"
letter_of inform = code "I"
letter_of (recall name) = code "R"
letter_of (delete name) = code "K"

-- a line has the letters of a line to the store
pub record Leads (s : List ℕ) (f : Filing) : Type 0 where
  pub first : byte_at s 0 ≡ code "F"
  pub second : byte_at s 1 ≡ letter_of f

-- what a shape is judged as has a property if it is a line to the store
abbrev Files : (Filing → Type 0) → Shape → Type 0
Files P sh = (f : Filing) → filing_read (judged width sh) ≡ some f → P f

-- so it is with all that a reader reads
record Sends (P : Filing → Type 0) (p : Reader Command) : Type 0 where
  files : (s : List ℕ) → Files P (body_shape (p s))

-- a line that leads to no row is none
strange_files : (P : Filing → Type 0) → Files P strange
unfolding judged filing_read
strange_files P f e = some_none e refl

-- one part and then another: only what is read last matters
after : {A : Type 0} {P : Filing → Type 0} (p : Reader A) {next : A → Reader Command} → ((a : A) → Sends P (next a)) → Sends P (λ s. followed (p s) next)
unfolding followed body_shape judged filing_read
after {A = A} {P = P} p {next = next} h = record { files = λ s. go (p s) }
  where
    go : (g : Got A) → Files P (body_shape (followed g next))
    go (got a r) = (h a).files r
    go bad = λ f e. some_none e refl

-- the first of two readers, or the second
either_reads : {P : Filing → Type 0} {p q : Reader Command} → Sends P p → Sends P q → Sends P (or_else p q)
either_reads {P = P} {p = p} {q = q} x y = record { files = λ s. go s (p s) refl }
  where
    go : (s : List ℕ) (g : Got Command) → p s ≡ g → Files P (body_shape (or_else p q s))
    go s (got a r) e = rw (or_else_got p q s a r e, ← e) (x.files s)
    go s bad e = rw (or_else_bad p q s e) (y.files s)

-- a command at the end of the line
at_end : {P : Filing → Type 0} (c : Command) → ((f : Filing) → filing_read (command c) ≡ some f → P f) → Sends P (ended c)
unfolding ended body_shape judged filing_read
at_end {P = P} c h = record { files = go }
  where
    go : (s : List ℕ) → Files P (body_shape (ended c s))
    go [] =
        λ f. by_test (λ r. filing_read r ≡ some f → P f) (in_range width c) (command c) (unread out_of_range) (λ _. h f) (λ _ e. some_none e refl)
    go (b ∷ s) = λ f e. some_none e refl

-- one that is none to the store, as a form's line
apart : {P : Filing → Type 0} (c : Command) → filing_read (command c) ≡ none → Sends P (ended c)
apart c e = at_end c λ f p. some_none p e

keeps : {P : Filing → Type 0} (l : FormLine) → Sends P (ended (keep l))
unfolding filing_read
keeps l = apart (keep l) refl

-- and one that is
sends : {P : Filing → Type 0} (g : Filing) → P g → Sends P (ended (file g))
unfolding filing_read
sends g h = at_end (file g) λ f e. let is : g ≡ f = cc in rw is at h

-- the rows of the table: those of a form's lines, `P`, and those of a name
module _ {P : Filing → Type 0} where
  size_keeps : Sends P size_line
  unfolding size_line
  size_keeps = after _ λ p₁. after _ λ p₂. keeps _

  direction_keeps : Sends P direction_line
  unfolding direction_line
  direction_keeps = after _ λ d. keeps _

  text_keeps : Sends P text_line
  unfolding text_line
  text_keeps = after _ λ s. after _ λ c. keeps _

  bar_keeps : (pen : Pen) → Sends P (bar_line pen)
  unfolding bar_line
  bar_keeps pen = after _ λ x. after _ λ y. after _ λ w. after _ λ t. keeps _

  frame_keeps : Sends P frame_line
  unfolding frame_line
  frame_keeps = after _ λ x₁. after _ λ y₁. after _ λ t. after _ λ x₂. after _ λ y₂. keeps _

  counter_keeps : Sends P counter_line
  unfolding counter_line
  counter_keeps = after _ λ n. after _ λ len. after _ λ l. after _ λ by. after _ λ prompt. keeps _

  variable_keeps : Sends P variable_line
  unfolding variable_line
  variable_keeps = after _ λ n. after _ λ len. after _ λ l. after _ λ prompt. keeps _

  print_prints : Sends P print_line
  unfolding print_line copies_of filing_read
  print_prints = after _ λ n. either_reads (apart _ refl) (after _ λ _. after _ λ c. apart _ refl)

  name_sends : (does : List ℕ → Filing) → ((name : List ℕ) → P (does name)) → Sends P (name_line does)
  unfolding name_line
  name_sends does h = after _ λ name. sends (does name) (h name)

-- the letters of a line to the store lead it
leads : (f : Filing) (t : List ℕ) → Leads (code "F" ∷ letter_of f ∷ t) f
unfolding byte_at
leads f t = record { first = refl; second = refl }

-- the line has the letters of what it is judged as
abbrev Told : List ℕ → Type 0
Told s = Files (Leads s) (shape s)

-- one that starts with `L`
bar_told : (t : List ℕ) → Told (76 ∷ t)
unfolding shape by_row table row these byte one followed give bytes when◌then◌else◌
bar_told [] = strange_files _
bar_told (b ∷ t) =
    by_letter (λ (b : ℕ). Told (76 ∷ b ∷ t)) pens b ((bar_keeps _).files t, ((bar_keeps _).files t, ((bar_keeps _).files t, tt)))
    λ d. rw (bar_strange b t d) (strange_files _)

-- one that starts with `F`
filing_told : (t : List ℕ) → Told (70 ∷ t)
unfolding shape by_row table row these byte one followed give bytes when◌then◌else◌ byte_at letter_of
filing_told [] = strange_files _
filing_told (b ∷ t) =
    by_letter (λ (b : ℕ). Told (70 ∷ b ∷ t)) filings b (
      (name_sends delete (λ name. leads (delete name) t)).files t,
      (
        (name_sends recall (λ name. leads (recall name) t)).files t,
        (
          (name_sends start (λ name. leads (start name) t)).files t,
          (
            (sends inform (leads inform t)).files t,
            ((sends finish (leads finish t)).files t, tt),
          ),
        ),
      ),
    )
    λ d. rw (filing_strange b t d) (strange_files _)

-- so has any other
told : (s : List ℕ) → Told s
unfolding shape by_row table row these byte one followed give bytes when◌then◌else◌ judged filing_read
told [] =
    λ f. by_test (λ r. filing_read r ≡ some f → Leads [] f) (in_range width empty) (command empty) (unread out_of_range) (λ _ e. some_none e refl) (λ _ e. some_none e refl)
told (a ∷ t) =
    by_letter (λ (a : ℕ). Told (a ∷ t)) letters a (
      filing_told t,
      (
        bar_told t,
        (
          print_prints.files t,
          (
            variable_keeps.files t,
            (
              counter_keeps.files t,
              (
                frame_keeps.files t,
                (
                  text_keeps.files t,
                  (
                    direction_keeps.files t,
                    (
                      size_keeps.files t,
                      (
                        (apart ask refl).files t,
                        ((apart new refl).files t, tt),
                      ),
                    ),
                  ),
                ),
              ),
            ),
          ),
        ),
      ),
    )
    λ d. rw (letter_strange a t d) (strange_files _)

-- a line that is read as one to the store has its letters
pub read_leads : (s : List ℕ) (f : Filing) → filing_read (read width s) ≡ some f → Leads s f
unfolding read filing_read
read_leads s f =
    by_test (λ r. filing_read r ≡ some f → Leads s f) (long s) (unread too_long) _ (λ _ e. some_none e refl)
    λ _. by_test (λ r. filing_read r ≡ some f → Leads s f) (control s) (unread control_byte) (judged width (shape s)) (λ _ e. some_none e refl)
    λ _. told s f

-- a line with the letters of a line to the store is what its kind says
kind_read : (s : List ℕ) (f : Filing) (k : Kind) (r : L.Command) → length s ≤ 256 → every is_shown s ≡ true → Leads s f → k ≡ kind_of (code "F") (letter_of f) → Judges s (shape_by s k) r → IsRead s r
kind_read s f k r h e l q j =
    let filled : 0 < length s = stands s 0 (code "F") (sym l.first) (omega arith) in
    read_shape s k r h e filled (rw (l.first, l.second) q) j

-- so one with a name is what the name behind its letters says
pub read_errand : (s : List ℕ) (errand : Errand) (name : List ℕ) (r : L.Command) → length s ≤ 256 → every is_shown s ≡ true → Leads s (filing errand name) → Gives s (name_line (filing errand) (from s 2)) r → IsRead s r
unfolding filing letter_of kind_of filing_kind shape_by when◌then◌else◌
read_errand s E.Start name r h e l j = kind_read s (start name) K.Start r h e l refl j
read_errand s E.Recall name r h e l j = kind_read s (recall name) K.Recall r h e l refl j
read_errand s E.Delete name r h e l j = kind_read s (delete name) K.Delete r h e l refl j

-- What the first two bytes of a line and its record tell of the line to the store that it reads as, and so what the others make of it.
use Prim.Native.Nat.{ℕ, ◌<◌}
use Prim.Native.Char.{code}
use mathlib.Core.Path.{◌≡◌, refl, sym, ◌∙◌, ap}
use mathlib.Core.Bool.{Bool, true, false}
use mathlib.Core.List.{List, [], ◌∷◌}
use mathlib.Core.Option.{Option, none, some, some-injective}
use native.Mathlib.Omega.{arith}
use denote.Enum.Declared.{tag_of}
use types.Run.{OneOf, hit, miss}
use lib.ListN.{length}
use borrow.Author.Tests.{lt-ltb}
use Rattle.std.specs.Prelude as Std
use Rattle.std.specs.Prelude.{Result, Ok, None}
use Rattle.paper.specs.Line.{long}
use Rattle.paper.specs.Command as C
use Rattle.paper.specs.Read.{command, unread, name_line, read}
use Rattle.paper.specs.Refusal.{too_long}
use Rattle.paper.specs.Class.{Class, filing_read}
use Rattle.paper.proofs.Law.{if_true}
use Rattle.paper.proofs.Others.{some_none, barred_none, barred_recall, barred_inform, barred_finish}
use Rattle.paper.proofs.RoundTrip.{read_in_range}
use Rattle.paper.proofs.Test.{held}
use Rattle.text.specs.Place.{byte_at, from}
use Rattle.text.specs.declared.read.Span.{Span}
use Rattle.command.specs.View.{width, text_in, Holds, put_of, bar_of, view_of, Stand}
use Rattle.command.specs.declared.Refusal.{Refusal}
use Rattle.command.specs.declared.Command.{Command}
use Rattle.command.specs.declared.Command.TheVariants as L
use Rattle.command.specs.contracts.Command as Tag
use Rattle.line.specs.Given.{Gives, IsRead}
use Rattle.line.specs.Family.{filing}
use Rattle.line.specs.declared.read.Errand.TheVariants as E
use Rattle.line.proofs.Filing.{letter_of, read_leads, read_errand}
use Rattle.store.specs.Packed.{Store}
use Rattle.session.specs.Outcome.{Named, Starred}
use Rattle.guard.proofs.Barring.{Asked, start_alone, delete_unheld}
use Rattle.guard.specs.Guarded.{Frees, Guarding, Bars, Guards, Led}
use Rattle.guard.specs.declared.Leaving.{Leaving}

-- what was read is in range
read_range : (s : List ℕ) (r : Command) (p : C.Command) → IsRead s r → view_of s r ≡ command p → C.in_range width p ≡ true
read_range s r p i v = read_in_range width s p (sym i.view ∙ v)

-- the name in an `FS` line
pub names_start : (s : List ℕ) (c : Command) (name : Span) → IsRead s c → c ≡ L.Start name → Named s name
unfolding view_of Stand C.in_range C.ranges C.filing_ranges
names_start s c name i e =
    let stand : Stand s (L.Start name) = rw e at i.stand in
    record { holds = stand.holds; named = (held _ (read_range s c (C.file (C.start (text_in s name))) i (ap (view_of s) e))).0.0 }

-- and in an `FK` line
pub names_delete : (s : List ℕ) (c : Command) (name : Span) → IsRead s c → c ≡ L.Delete name → Starred s name
unfolding view_of Stand C.in_range C.ranges C.filing_ranges
names_delete s c name i e =
    let stand : Stand s (L.Delete name) = rw e at i.stand in
    record { holds = stand.holds; named = (held _ (read_range s c (C.file (C.delete (text_in s name))) i (ap (view_of s) e))).0.0 }

pub holds_delete : (s : List ℕ) (c : Command) (name : Span) → IsRead s c → c ≡ L.Delete name → Holds s name
holds_delete s c name i e = (names_delete s c name i e).holds

-- the lines that others leave alone: those that are none to the store, `FE`, `FI` and `FR`
none_frees : (c : Class) (t : ℕ) → Frees c t none
none_frees c t = record { free = barred_none c t; stays = λ name e. let never : ◌≡◌ {A = ℕ} 0 1 = cc in absurd (omega arith) }

finish_frees : (c : Class) (t : ℕ) → Frees c t (some C.finish)
finish_frees c t = record { free = barred_finish c t; stays = λ name e. let never : ◌≡◌ {A = ℕ} 0 1 = cc in absurd (omega arith) }

inform_frees : (c : Class) (t : ℕ) → Frees c t (some C.inform)
inform_frees c t = record { free = barred_inform c t; stays = λ name e. let never : ◌≡◌ {A = ℕ} 0 1 = cc in absurd (omega arith) }

recall_frees : (c : Class) (t : ℕ) (name : List ℕ) → Frees c t (some (C.recall name))
recall_frees c t name = record { free = barred_recall c t name; stays = λ other e. let never : ◌≡◌ {A = ℕ} 0 1 = cc in absurd (omega arith) }

-- what others make of a line to the store, from what they make of `FS` and of `FK`
frees_by : (c : Class) (t : ℕ) (f : Option C.Filing) → ((name : List ℕ) → f ≡ some (C.start name) → Frees c t f) → ((name : List ℕ) → f ≡ some (C.delete name) → Frees c t f) → Frees c t f
frees_by c t none starts deletes = none_frees c t
frees_by c t (some (C.start name)) starts deletes = starts name refl
frees_by c t (some C.finish) starts deletes = finish_frees c t
frees_by c t (some C.inform) starts deletes = inform_frees c t
frees_by c t (some (C.recall name)) starts deletes = recall_frees c t name
frees_by c t (some (C.delete name)) starts deletes = deletes name refl

-- what reads as `FS` was read to it
reads_start : (s : List ℕ) (r : Command) (name : List ℕ) → filing_read (view_of s r) ≡ some (C.start name) → ((string : Span) → r ≡ L.Start string → ⊥) → ⊥
unfolding filing_read view_of put_of bar_of
reads_start s L.Empty name e h = some_none e refl
reads_start s L.New name e h = some_none e refl
reads_start s L.Finish name e h = cc
reads_start s L.Inform name e h = cc
reads_start s L.Ask name e h = some_none e refl
reads_start s (L.Size p₁ p₂) name e h = some_none e refl
reads_start s (L.Direction d) name e h = some_none e refl
reads_start s (L.Text put) name e h = some_none e refl
reads_start s (L.Black b) name e h = some_none e refl
reads_start s (L.Flip b) name e h = some_none e refl
reads_start s (L.White b) name e h = some_none e refl
reads_start s (L.Frame x₁ y₁ p x₂ y₂) name e h = some_none e refl
reads_start s (L.Counting n len step prompt) name e h = some_none e refl
reads_start s (L.Varying n len prompt) name e h = some_none e refl
reads_start s (L.Start string) name e h = h string refl
reads_start s (L.Recall string) name e h = cc
reads_start s (L.Delete string) name e h = cc
reads_start s (L.Print sets copies) name e h = some_none e refl
reads_start s (L.Refused why) name e h = some_none e refl

-- and what reads as `FK`
reads_delete : (s : List ℕ) (r : Command) (name : List ℕ) → filing_read (view_of s r) ≡ some (C.delete name) → ((string : Span) → r ≡ L.Delete string → ⊥) → ⊥
unfolding filing_read view_of put_of bar_of
reads_delete s L.Empty name e h = some_none e refl
reads_delete s L.New name e h = some_none e refl
reads_delete s L.Finish name e h = cc
reads_delete s L.Inform name e h = cc
reads_delete s L.Ask name e h = some_none e refl
reads_delete s (L.Size p₁ p₂) name e h = some_none e refl
reads_delete s (L.Direction d) name e h = some_none e refl
reads_delete s (L.Text put) name e h = some_none e refl
reads_delete s (L.Black b) name e h = some_none e refl
reads_delete s (L.Flip b) name e h = some_none e refl
reads_delete s (L.White b) name e h = some_none e refl
reads_delete s (L.Frame x₁ y₁ p x₂ y₂) name e h = some_none e refl
reads_delete s (L.Counting n len step prompt) name e h = some_none e refl
reads_delete s (L.Varying n len prompt) name e h = some_none e refl
reads_delete s (L.Start string) name e h = cc
reads_delete s (L.Recall string) name e h = cc
reads_delete s (L.Delete string) name e h = h string refl
reads_delete s (L.Print sets copies) name e h = some_none e refl
reads_delete s (L.Refused why) name e h = some_none e refl

-- what an `FS` line and what an `FK` line is read as
pub start_read : (s : List ℕ) (r : Command) → Led s (code "S") → Gives s (name_line (filing E.Start) (from s 2)) r → IsRead s r
unfolding filing letter_of
start_read s r l g = read_errand s E.Start [] r l.short l.shown (record { first = l.first; second = l.second }) g

pub delete_read : (s : List ℕ) (r : Command) → Led s (code "K") → Gives s (name_line (filing E.Delete) (from s 2)) r → IsRead s r
unfolding filing letter_of
delete_read s r l g = read_errand s E.Delete [] r l.short l.shown (record { first = l.first; second = l.second }) g

-- neither is read as the other
start_deletes : (s : List ℕ) (name : List ℕ) → Led s (code "S") → filing_read (read width s) ≡ some (C.delete name) → ⊥
unfolding letter_of
start_deletes s name l e = let there = read_leads s (C.delete name) e in omega (arith, there.second, l.second)

delete_starts : (s : List ℕ) (name : List ℕ) → Led s (code "K") → filing_read (read width s) ≡ some (C.start name) → ⊥
unfolding letter_of
delete_starts s name l e = let there = read_leads s (C.start name) e in omega (arith, there.second, l.second)

module _ (store : Store) (held : List ℕ) (t : ℕ) (s : List ℕ) where
  -- `FS` and `FK` were read
  pub guards_start : (c : Command) (name : Span) (r : Result (Std.Option Leaving) Refusal) → IsRead s c → c ≡ L.Start name → Bars store held t (some (C.start (text_in s name))) r → Guards store held t s r
  unfolding filing_read view_of
  guards_start c name r i e b = rw (sym i.view ∙ ap (view_of s) e) b

  pub guards_delete : (c : Command) (name : Span) (r : Result (Std.Option Leaving) Refusal) → IsRead s c → c ≡ L.Delete name → Bars store held t (some (C.delete (text_in s name))) r → Guards store held t s r
  unfolding filing_read view_of
  guards_delete c name r i e b = rw (sym i.view ∙ ap (view_of s) e) b

  -- of other lines nothing is made, and so nothing of a line from what is made of `FS` and of `FK`
  guards_free : ((name : List ℕ) → filing_read (read width s) ≡ some (C.start name) → Bars store held t (some (C.start name)) (Ok None))
      → ((name : List ℕ) → filing_read (read width s) ≡ some (C.delete name) → Bars store held t (some (C.delete name)) (Ok None)) → Guards store held t s (Ok None)
  unfolding Guarding
  guards_free starts deletes =
      record {
        guards = λ c w. frees_by c t (filing_read (read width s)) (λ name e. rw e ((starts name e).guards c w)) (λ name e. rw e ((deletes name e).guards c w));
      }

  -- an `FS` line that is not read, and an `FK` line
  pub start_unread : (r : Command) → Led s (code "S") → IsRead s r → ((name : Span) → r ≡ L.Start name → ⊥) → Guards store held t s (Ok None)
  start_unread r l i h =
      guards_free
      (λ name e. absurd (reads_start s r name (ap filing_read i.view ∙ e) h))
      (λ name e. absurd (start_deletes s name l e))

  pub delete_unread : (r : Command) → Led s (code "K") → IsRead s r → ((name : Span) → r ≡ L.Delete name → ⊥) → Guards store held t s (Ok None)
  delete_unread r l i h =
      guards_free
      (λ name e. absurd (delete_starts s name l e))
      (λ name e. absurd (reads_delete s r name (ap filing_read i.view ∙ e) h))

  -- an `FS` line while no other collects, and an `FK` line while no other holds a form open, whatever their names
  pub guards_alone : (r : Bool) → Led s (code "S") → Asked held t 1 2 0 0 r → r ≡ false → Guards store held t s (Ok None)
  guards_alone r l a n = guards_free (λ name e. start_alone store held t name r a n) (λ name e. absurd (start_deletes s name l e))

  pub guards_unheld : (r : Bool) → Led s (code "K") → Asked held t 3 6 0 7 r → r ≡ false → Guards store held t s (Ok None)
  guards_unheld r l a n = guards_free (λ name e. absurd (delete_starts s name l e)) (λ name e. delete_unheld store held t name r a n)

  -- lines with other letters
  pub guards_first : (a : ℕ) → a ≡ byte_at s 0 → (a ≡ code "F" → ⊥) → Guards store held t s (Ok None)
  guards_first a p n =
      guards_free
      (λ name e. absurd (n (p ∙ (read_leads s (C.start name) e).first)))
      (λ name e. absurd (n (p ∙ (read_leads s (C.delete name) e).first)))

  pub guards_second : (b : ℕ) → b ≡ byte_at s 1 → (b ≡ code "S" → ⊥) → (b ≡ code "K" → ⊥) → Guards store held t s (Ok None)
  unfolding letter_of
  guards_second b p n m =
      guards_free
      (λ name e. absurd (n (p ∙ (read_leads s (C.start name) e).second)))
      (λ name e. absurd (m (p ∙ (read_leads s (C.delete name) e).second)))

  -- and a line that is too long
  pub guards_long : 256 < length s → Guards store held t s (Ok None)
  unfolding Guarding filing_read read long
  guards_long l =
      let is : read width s ≡ unread too_long = if_true _ _ _ (lt-ltb 256 (length s) l) in
      rw is (record { guards = λ k w. none_frees k t })

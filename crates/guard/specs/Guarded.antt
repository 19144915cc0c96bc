-- What the other tablets make of a line to the store that an idle tablet sends.
use Rattle.std.specs.Prelude as Std
use Rattle.std.specs.Prelude.{ℕ, ◌≤◌, ◌<◌, ◌≡◌, true, false, List, length, Result, Ok, Err, Some, None}
use Prim.Native.Char.{code}
use Rattle.std.proofs.Math.Option.{Option, none, some}
use Rattle.paper.specs.Byte.{every, same}
use Rattle.paper.specs.Command.{FormLine, Filing, delete, star, is_shown}
use Rattle.paper.specs.Read.{read}
use Rattle.paper.specs.Form.{text_of, find}
use Rattle.paper.specs.Class.{Class, SaneClass, holds_form, another, filing_read, barred}
use Rattle.text.specs.Place.{byte_at}
use Rattle.command.specs.View.{width, refusal_of}
use Rattle.command.specs.declared.Refusal.{Refusal}
use Rattle.store.specs.Packed.{Store, packed}
use Rattle.session.specs.Memory.{entries_of, packed_session, number_of}
use Rattle.seats.specs.Seats.{numbers_of}
use Rattle.guard.specs.declared.Leaving.{Leaving}

-- the class whose store and sessions' numbers these are
pub record Watches (store : Store) (held : List ℕ) (t : ℕ) (c : Class) : Type 0 where
  pub sane : SaneClass width c
  pub below : t < 30
  pub forms : store ≡ packed (entries_of c.forms)
  pub numbers : held ≡ numbers_of (λ k. (packed_session c.forms (number_of (c.tablet k).form c.forms) (c.tablet k).session).held)

-- some class
pub record Watching (store : Store) (held : List ℕ) (t : ℕ) : Type 0 where
  pub class : Class
  pub watches : Watches store held t class

-- a deletion that no other has to follow: there is no form of the name, or no other holds a form open
pub data Harmless (c : Class) (t : ℕ) (name : List ℕ) : Type 0 where
  absent : find name c.forms ≡ none → Harmless c t name
  unheld : another c t (λ x. holds_form x.session) ≡ false → Harmless c t name

-- nothing is forbidden, and no other has to follow what leaves
pub record Frees (c : Class) (t : ℕ) (f : Option Filing) : Type 0 where
  pub free : barred c t f ≡ none
  pub stays : (name : List ℕ) → f ≡ some (delete name) → Harmless c t name

-- nothing is forbidden, and the form of this number, of so many bytes, leaves
pub record Takes (c : Class) (t : ℕ) (f : Option Filing) (n size : ℕ) : Type 0 where
  pub name : List ℕ
  pub gone : List FormLine
  pub is : f ≡ some (delete name)
  pub one : same name star ≡ false
  pub free : barred c t f ≡ none
  pub found : find name c.forms ≡ some gone
  pub number : n ≡ number_of name c.forms
  pub bytes : size ≡ length (text_of gone)

-- what the others make of a line to the store: nothing; a stored form leaves, which they have to follow; or a refusal
unfoldable pub Guarding : Class → ℕ → Option Filing → Result (Std.Option Leaving) Refusal → Type 0
Guarding c t f (Ok None) = Frees c t f
Guarding c t f (Ok (Some leaving)) = Takes c t f leaving.n leaving.size
Guarding c t f (Err why) = barred c t f ≡ some (refusal_of why)

-- so in every class whose memory this is
pub record Bars (store : Store) (held : List ℕ) (t : ℕ) (f : Option Filing) (r : Result (Std.Option Leaving) Refusal) : Type 0 where
  pub guards : (c : Class) → Watches store held t c → Guarding c t f r

-- and so of a line that an idle tablet sends, by the line to the store that it reads as
abbrev pub Guards : Store → List ℕ → ℕ → List ℕ → Result (Std.Option Leaving) Refusal → Type 0
Guards store held t s r = Bars store held t (filing_read (read width s)) r

-- a line of at most 256 bytes, none of them a control byte, that begins with `F` and this letter
pub record Led (s : List ℕ) (letter : ℕ) : Type 0 where
  pub shown : every is_shown s ≡ true
  pub short : length s ≤ 256
  pub first : byte_at s 0 ≡ code "F"
  pub second : byte_at s 1 ≡ letter

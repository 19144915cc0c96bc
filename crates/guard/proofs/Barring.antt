-- What the search among the others' numbers and the search in the store say of every class that is watched, and so what the others
-- make of `FS` and of `FK`.
use Prim.Native.Nat.{ℕ, zero, suc, ◌≤◌, ◌<◌}
use mathlib.Core.Path.{◌≡◌, refl, sym, ◌∙◌, ap}
use mathlib.Core.Bool.{Bool, true, false, not, ◌&&◌, ◌||◌, true≢false, false≢true}
use mathlib.Core.List.{List}
use mathlib.Core.Option.{Option, none, some}
use native.Mathlib.Omega.{arith}
use lib.ListN.{length}
use lib.Dec.{eqb}
use Rattle.std.specs.Prelude as Std
use Rattle.std.specs.Prelude.{Ok, Err, Some, None}
use Rattle.paper.specs.Byte.{bytes, between, every, any, among, same}
use Rattle.paper.specs.Line.{is_digit}
use Rattle.paper.specs.Command.{FormLine, start, delete, is_name_byte, is_name, star}
use Rattle.paper.specs.Refusal.{held_open}
use Rattle.paper.specs.Form.{Form, is_some, find}
use Rattle.paper.specs.Class.{Tablet, Class, SaneClass, thirty, collects, holds_form, open_lines, another_below, another, strikes, barred}
use Rattle.paper.proofs.Law.{if_true, if_false, and_both}
use Rattle.paper.proofs.Others.{neither_left, neither_right, some_none, barred_start, barred_delete}
use Rattle.paper.proofs.Store.{same_self}
use Rattle.paper.proofs.Test.{clash, either}
use Rattle.paper.proofs.Text.{same_eq}
use Rattle.text.specs.declared.read.Span.{Span}
use Rattle.command.specs.View.{width, refusal_of, text_in}
use Rattle.command.specs.declared.Refusal.TheVariants as W
use Rattle.store.specs.Packed.{Store, find_from}
use Rattle.store.specs.Lent.{Stocked, Finds}
use Rattle.store.specs.declared.Found.{Found}
use Rattle.store.proofs.Standing.{stocks}
use Rattle.session.specs.Memory.{entries_of, number_of}
use Rattle.session.specs.Outcome.{Named, Starred}
use Rattle.session.specs.declared.state.Held.{Held}
use Rattle.session.proofs.Entries.{store_kept}
use Rattle.seats.specs.Seats.{numbers_of, is_at, beside_below}
use Rattle.seats.proofs.Parted.{numbers_length}
use Rattle.seats.proofs.States.{another_beside, beside_alike}
use Rattle.seats.proofs.Others.{number_below, collects_beside, others_hold, others_strike}
use Rattle.filing.proofs.Finding.{Among, entries_absent, entries_found}
use Rattle.guard.specs.Guarded.{Watches, Watching, absent, unheld, Frees, Guarding, Bars}

-- both of two tests fail where the second does, and the first passes where it alone may
fails_with : (a b : Bool) → b ≡ false → (a && b) ≡ false
fails_with true b e = e
fails_with false b e = refl

passes_without : (a b : Bool) → (a || b) ≡ true → b ≡ false → a ≡ true
passes_without true b e f = refl
passes_without false b e f = absurd (false≢true (sym f ∙ e))

-- no other passes a test where none passes a wider one
fewer : (n : ℕ) (c : Class) (t : ℕ) (p q : Tablet → Bool) → ((x : Tablet) → p x ≡ false → q x ≡ false) → another_below n c t p ≡ false → another_below n c t q ≡ false
unfolding another_below
fewer zero c t p q h e = refl
fewer (suc n) c t p q h e =
    let more = fewer n c t p q h (neither_right (not (eqb n t) && p (c.tablet n)) _ e) in
    either (eqb n t)
    (λ y. rw y more)
    (λ m. rw (m, h (c.tablet n) (rw m at (neither_left (not (eqb n t) && p (c.tablet n)) _ e))) more)

fewer_others : (c : Class) (t : ℕ) (p q : Tablet → Bool) → ((x : Tablet) → p x ≡ false → q x ≡ false) → another c t p ≡ false → another c t q ≡ false
unfolding another thirty
fewer_others c t p q h e = fewer 30 c t p q h e

-- the star strikes every form
star_strikes : (b : Bool) (form : List ℕ) → (b && strikes (some (delete star)) form) ≡ false → b ≡ false
unfolding strikes
star_strikes true form e = absurd (true≢false (sym (rw (same_self star)) ∙ e))
star_strikes false form e = refl

-- where a name or the star stands in a line and it is not the star, it is a name
pub starred_named : (s : List ℕ) (string : Span) (b : Bool) → Starred s string → b ≡ same (text_in s string) star → b ≡ false → Named s string
starred_named s string b h e n = record { holds = h.holds; named = passes_without _ _ h.named (sym e ∙ n) }

-- and a name is not the star
star_nameless : is_name star ≡ false
unfolding is_name is_name_byte is_digit between among any every star bytes
star_nameless = refl

name_one : (s : List ℕ) (string : Span) → Named s string → same (text_in s string) star ≡ false
name_one s string h =
    either (same (text_in s string) star)
    (λ y. clash (rw (same_eq (text_in s string) star y) at h.named) star_nameless)
    (λ n. n)

-- a form that is held open is one of eight
some_few : (o : Option (List FormLine)) (form : List ℕ) (fs : List Form) → length fs ≤ 8 → ((ls : List FormLine) → o ≡ some ls → find form fs ≡ some ls) → is_some o ≡ true → number_of form fs ≤ 7
unfolding is_some
some_few none form fs few held h = absurd (false≢true h)
some_few (some ls) form fs few held h = omega (arith, number_below form fs ls (held ls refl), few)

held_few : (c : Class) → SaneClass width c → (k : ℕ) → k < 30 → holds_form (c.tablet k).session ≡ true → number_of (c.tablet k).form c.forms ≤ 7
unfolding holds_form
held_few c sane k l h = some_few (open_lines (c.tablet k).session) (c.tablet k).form c.forms sane.forms.few (sane.held k l) h

-- and none of a name that is free
some_apart : (o : Option (List FormLine)) (name form : List ℕ) (fs : List Form) → ((ls : List FormLine) → o ≡ some ls → find form fs ≡ some ls) → find name fs ≡ none → (is_some o && same name form) ≡ false
unfolding is_some
some_apart none name form fs held free = refl
some_apart (some ls) name form fs held free =
    either (same name form)
    (λ y. some_none (ap (λ x. find x fs) (same_eq name form y) ∙ held ls refl) free)
    (λ n. n)

none_beside : (n t : ℕ) → beside_below n t (λ k. false) ≡ false
unfolding beside_below
none_beside zero t = refl
none_beside (suc n) t = rw (fails_with (not (eqb n t)) false refl) (none_beside n t)

spared : (c : Class) (t : ℕ) (name : List ℕ) → SaneClass width c → same name star ≡ false → find name c.forms ≡ none → another c t (λ x. holds_form x.session && strikes (some (delete name)) x.form) ≡ false
unfolding strikes holds_form
spared c t name sane one free =
    another_beside c t (λ x. holds_form x.session && strikes (some (delete name)) x.form)
    ∙ beside_alike 30 t _ (λ k. false) (λ k l. rw one (some_apart (open_lines (c.tablet k).session) name (c.tablet k).form c.forms (sane.held k l) free))
    ∙ none_beside 30 t

-- the answer to what is asked of the others' numbers
abbrev pub Asked : List ℕ → (t low high first last : ℕ) → Bool → Type 0
Asked held t low high first last r = (h : ℕ → Held) → held ≡ numbers_of h → r ≡ beside_below 30 t (λ k. is_at low high first last (h k))

-- the store and the numbers that are watched
pub watching_stocked : (store : Store) (held : List ℕ) (t : ℕ) → Watching store held t → Stocked store
watching_stocked store held t w = stocks store (store_kept store w.class.forms w.watches.forms w.watches.sane.forms)

pub watching_numbers : (store : Store) (held : List ℕ) (t : ℕ) → Watching store held t → length held ≡ 300
watching_numbers store held t w = ap length w.watches.numbers ∙ numbers_length _

module _ (store : Store) (held : List ℕ) (t : ℕ) where
  -- what is found is what the forms of the class give
  found_in : (c : Class) (name : List ℕ) (found : Std.Option Found) → Watches store held t c → Finds store name found → find_from 0 0 name (entries_of c.forms) ≡ found
  unfolding store_kept
  found_in c name found w f = sym (f.finds (store_kept store c.forms w.forms w.sane.forms))

  absent_in : (c : Class) (name : List ℕ) (found : Std.Option Found) → Watches store held t c → Finds store name found → found ≡ None → find name c.forms ≡ none
  absent_in c name found w f e = entries_absent name c.forms 0 0 (found_in c name found w f ∙ e)

  stands_in : (c : Class) (name : List ℕ) (found : Std.Option Found) (it : Found) → Watches store held t c → Finds store name found → found ≡ Some it → Among name c.forms 0 0 it.index it.start it.len
  stands_in c name found it w f e =
      entries_found name c.forms 0 0 it w.sane.forms.each (found_in c name found w f ∙ e)

  -- another collects; another holds a form open; another holds the form of a name open
  collect_in : (c : Class) (r : Bool) → Watches store held t c → Asked held t 1 2 0 0 r → another c t (λ x. collects x.session) ≡ r
  collect_in c r w a = sym (collects_beside c (λ k. number_of (c.tablet k).form c.forms) t) ∙ sym (a _ w.numbers)

  hold_in : (c : Class) (r : Bool) → Watches store held t c → Asked held t 3 6 0 7 r → another c t (λ x. holds_form x.session && strikes (some (delete star)) x.form) ≡ r
  hold_in c r w a = sym (others_hold c (λ k. number_of (c.tablet k).form c.forms) t (held_few c w.sane)) ∙ sym (a _ w.numbers)

  strike_in : (c : Class) (name : List ℕ) (n : ℕ) (r : Bool) → Watches store held t c → same name star ≡ false → n ≡ number_of name c.forms → Asked held t 3 6 n n r
      → another c t (λ x. holds_form x.session && strikes (some (delete name)) x.form) ≡ r
  strike_in c name n r w one e a = sym (others_strike c t name one w.sane.held) ∙ sym (rw e at (a _ w.numbers))

  -- none holds a form open
  unheld_in : (c : Class) (r : Bool) → Watches store held t c → Asked held t 3 6 0 7 r → r ≡ false → another c t (λ x. holds_form x.session) ≡ false
  unheld_in c r w a e =
      fewer_others c t (λ x. holds_form x.session && strikes (some (delete star)) x.form) (λ x. holds_form x.session)
      (λ x. star_strikes (holds_form x.session) x.form) (hold_in c r w a ∙ e)

  -- `FS` deletes nothing
  start_frees : (c : Class) (name : List ℕ) → barred c t (some (start name)) ≡ none → Frees c t (some (start name))
  start_frees c name e = record { free = e; stays = λ other p. let never : ◌≡◌ {A = ℕ} 0 1 = cc in absurd (omega arith) }

  -- `FS` while no other collects
  pub start_alone : (name : List ℕ) (r : Bool) → Asked held t 1 2 0 0 r → r ≡ false → Bars store held t (some (start name)) (Ok None)
  unfolding Guarding
  start_alone name r a e =
      record {
        guards = λ c w.
            let alone = fails_with (not (is_some (find name c.forms))) (another c t (λ x. collects x.session)) (collect_in c r w a ∙ e) in
            start_frees c name (barred_start c t name ∙ if_false _ _ _ alone);
      }

  -- of a name that is taken
  pub start_taken : (name : List ℕ) (found : Std.Option Found) (it : Found) → Finds store name found → found ≡ Some it → Bars store held t (some (start name)) (Ok None)
  unfolding Guarding is_some
  start_taken name found it f e =
      record {
        guards = λ c w.
            let taken : not (is_some (find name c.forms)) ≡ false = rw (stands_in c name found it w f e).found in
            start_frees c name (barred_start c t name ∙ if_false _ _ _ (rw taken));
      }

  -- and of one that is free while another collects
  pub start_barred : (name : List ℕ) (r : Bool) (found : Std.Option Found) → Asked held t 1 2 0 0 r → r ≡ true → Finds store name found → found ≡ None → Bars store held t (some (start name)) (Err W.OthersCollect)
  unfolding Guarding is_some refusal_of
  start_barred name r found a e f q =
      record {
        guards = λ c w.
            let free : not (is_some (find name c.forms)) ≡ true = rw (absent_in c name found w f q) in
            barred_start c t name ∙ if_true _ _ _ (and_both _ _ free (collect_in c r w a ∙ e));
      }

  -- `FK` of what another holds open, and of what no other does
  struck : (c : Class) (name : List ℕ) → another c t (λ x. holds_form x.session && strikes (some (delete name)) x.form) ≡ true → barred c t (some (delete name)) ≡ some held_open
  unfolding strikes
  struck c name e = barred_delete c t name ∙ if_true _ _ _ e

  unstruck : (c : Class) (name : List ℕ) → another c t (λ x. holds_form x.session && strikes (some (delete name)) x.form) ≡ false → barred c t (some (delete name)) ≡ none
  unfolding strikes
  unstruck c name e = barred_delete c t name ∙ if_false _ _ _ e

  -- of the star
  pub star_held : (name : List ℕ) (b r : Bool) → b ≡ same name star → b ≡ true → Asked held t 3 6 0 7 r → r ≡ true → Bars store held t (some (delete name)) (Err W.HeldOpen)
  unfolding Guarding refusal_of
  star_held name b r i y a e =
      let it : name ≡ star = same_eq name star (sym i ∙ y) in
      record { guards = λ c w. rw it (struck c star (hold_in c r w a ∙ e)) }

  -- where no other holds a form open
  pub delete_unheld : (name : List ℕ) (r : Bool) → Asked held t 3 6 0 7 r → r ≡ false → Bars store held t (some (delete name)) (Ok None)
  unfolding Guarding
  delete_unheld name r a e =
      record {
        guards = λ c w.
            let none' = unheld_in c r w a e in
            record {
              free = unstruck c name (fewer_others c t (λ x. holds_form x.session) (λ x. holds_form x.session && strikes (some (delete name)) x.form) (λ x n. rw n) none');
              stays = λ other p. unheld none';
            };
      }

  -- of a name without a form: none holds a form of that name open
  pub delete_absent : (s : List ℕ) (string : Span) (found : Std.Option Found) → Named s string → Finds store (text_in s string) found → found ≡ None → Bars store held t (some (delete (text_in s string))) (Ok None)
  unfolding Guarding
  delete_absent s string found h f q =
      let name : List ℕ = text_in s string in
      record {
        guards = λ c w. record {
          free = unstruck c name (spared c t name w.sane (name_one s string h) (absent_in c name found w f q));
          stays = λ other p. let is : name ≡ other = cc in absent (rw is at (absent_in c name found w f q));
        };
      }

  -- of a stored form
  pub delete_held : (s : List ℕ) (string : Span) (r : Bool) (found : Std.Option Found) (it : Found) → Named s string → Finds store (text_in s string) found → found ≡ Some it → Asked held t 3 6 it.index it.index r → r ≡ true
      → Bars store held t (some (delete (text_in s string))) (Err W.HeldOpen)
  unfolding Guarding refusal_of
  delete_held s string r found it h f q a e =
      let name : List ℕ = text_in s string in
      record {
        guards = λ c w.
            let there = stands_in c name found it w f q in
            struck c name (strike_in c name it.index r w (name_one s string h) (omega (arith, there.number, there.first)) a ∙ e);
      }

  pub delete_leaves : (s : List ℕ) (string : Span) (r : Bool) (found : Std.Option Found) (it : Found) → Named s string → Finds store (text_in s string) found → found ≡ Some it → Asked held t 3 6 it.index it.index r → r ≡ false
      → Bars store held t (some (delete (text_in s string))) (Ok (Some (record { n = it.index; size = it.len })))
  unfolding Guarding
  delete_leaves s string r found it h f q a e =
      let name : List ℕ = text_in s string in
      record {
        guards = λ c w.
            let there = stands_in c name found it w f q in
            let number : it.index ≡ number_of name c.forms = omega (arith, there.number, there.first) in
            record {
              name = name;
              gone = there.here.lines;
              is = refl;
              one = name_one s string h;
              free = unstruck c name (strike_in c name it.index r w (name_one s string h) number a ∙ e);
              found = there.found;
              number = number;
              bytes = there.bytes;
            };
      }

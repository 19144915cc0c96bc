-- The form store: names are told apart by their bytes, what is stored is found under its name until it is deleted, and
-- storing and deleting leave every other form as it was, in its place. The idea: each law follows the list of forms, and
-- at each form asks whether it has the name.
use mathlib.Core.Path.{◌≡◌, refl, sym, ◌∙◌, ap}
use mathlib.Core.Bool.{true, false}
use mathlib.Core.List.{List, [], ◌∷◌, ◌++◌, append-nil}
use mathlib.Core.Option.{Option, none, some, some-ne-none, some-injective}
use Prim.Native.Nat.{ℕ, ◌+◌, ◌≤◌}
use native.Mathlib.Omega.{arith}
use lib.ListN.{length}
use borrow.Author.Tests.{eq-eqb}
use Rattle.paper.specs.Byte.{when◌then◌else◌, same}
use Rattle.paper.specs.Line.{kept}
use Rattle.paper.specs.Command.{FormLine, is_name, finish, recall, delete, Command, file, star}
use Rattle.paper.specs.Refusal.{no_room, absent, accepted, refused}
use Rattle.paper.specs.Read.{command, read}
use Rattle.paper.specs.Form.{Form, text_of, asked, unsound_at, find, without, used, has_room, stored}
use Rattle.paper.specs.Bench.{idle, collecting, Bench, outcome, done, refuse, opened_with, recalled, deleted, filed, in_idle, checked, on_finish, in_collecting, obeyed, heard, hear}
use Rattle.paper.specs.State.{Storable, AllStored, Draft, Sane}
use Rattle.paper.proofs.Law.{and_both}
use Rattle.paper.proofs.Text.{same_eq}
use Rattle.paper.proofs.Test.{either, agree}

-- a text is the same as itself
pub same_self : (s : List ℕ) → same s s ≡ true
unfolding same
same_self [] = refl
same_self (b ∷ s) = and_both _ _ (eq-eqb b b refl) (same_self s)

-- the order of two texts does not matter
pub same_sym : (s t : List ℕ) → same s t ≡ same t s
same_sym s t = agree (same s t) (same t s) (turned s t) (turned t s)
  where
    turned : (s t : List ℕ) → same s t ≡ true → same t s ≡ true
    turned s t e = rw (same_eq s t e) (same_self t)

-- behind forms without a name its form is found in what follows
pub find_behind : (name : List ℕ) (fs gs : List Form) → find name fs ≡ none → find name (fs ++ gs) ≡ find name gs
unfolding find when◌then◌else◌
find_behind name [] gs e = refl
find_behind name (f ∷ fs) gs e =
    either (same name f.name)
    (λ y. absurd (some-ne-none _ (rw y at e)))
    (λ n. rw n (find_behind name fs gs (rw n at e)))

-- before forms without a name its form is found in what stands in front
pub find_before : (name : List ℕ) (fs gs : List Form) → find name gs ≡ none → find name (fs ++ gs) ≡ find name fs
unfolding find when◌then◌else◌
find_before name [] gs e = e
find_before name (f ∷ fs) gs e = either (same name f.name) (λ y. rw y) (λ n. rw n (find_before name fs gs e))

-- the form of a name is found under it once it is stored
pub find_stored : (fs : List Form) (name : List ℕ) (ls : List FormLine) → find name fs ≡ none → find name (stored fs name ls) ≡ some ls
unfolding stored find when◌then◌else◌
find_stored fs name ls free = find_behind name fs _ free ∙ rw (same_self name)

-- another form's lines are as before
pub find_stored_other : (fs : List Form) (name other : List ℕ) (ls : List FormLine) → same other name ≡ false → find other (stored fs name ls) ≡ find other fs
unfolding stored find when◌then◌else◌
find_stored_other fs name other ls apart = find_before other fs _ (rw apart)

-- the new form stands behind those that were stored, which keep their order
pub stored_behind : (fs : List Form) (name : List ℕ) (ls : List FormLine) → stored fs name ls ≡ fs ++ (record { name = name; lines = ls } ∷ [])
unfolding stored
stored_behind fs name ls = refl

-- a deleted form is not found
pub find_without : (name : List ℕ) (fs : List Form) → find name (without name fs) ≡ none
unfolding find without when◌then◌else◌
find_without name [] = refl
find_without name (f ∷ fs) =
    either (same name f.name) (λ y. rw y (find_without name fs)) (λ n. rw (n, n) (find_without name fs))

-- another form is found as before
pub find_without_other : (name other : List ℕ) (fs : List Form) → same other name ≡ false → find other (without name fs) ≡ find other fs
unfolding find without when◌then◌else◌
find_without_other name other [] apart = refl
find_without_other name other (f ∷ fs) apart =
    either (same name f.name)
    (λ y. rw (y, ← same_eq name f.name y, apart) (find_without_other name other fs apart))
    (λ n. rw n (ap (λ r. when same other f.name then some f.lines else r) (find_without_other name other fs apart)))

-- deleting keeps the order: it goes form by form
pub without_append : (name : List ℕ) (xs ys : List Form) → without name (xs ++ ys) ≡ without name xs ++ without name ys
unfolding without when◌then◌else◌
without_append name [] ys = refl
without_append name (x ∷ xs) ys =
    either (same name x.name)
    (λ y. rw y (without_append name xs ys))
    (λ n. rw n (ap (λ r. x ∷ r) (without_append name xs ys)))

-- deleting an absent name deletes nothing
pub without_absent : (name : List ℕ) (fs : List Form) → find name fs ≡ none → without name fs ≡ fs
unfolding find without when◌then◌else◌
without_absent name [] e = refl
without_absent name (f ∷ fs) e =
    either (same name f.name)
    (λ y. absurd (some-ne-none _ (rw y at e)))
    (λ n. rw n (ap (λ r. f ∷ r) (without_absent name fs (rw n at e))))

-- deleting what was just stored gives the store back
pub without_stored : (fs : List Form) (name : List ℕ) (ls : List FormLine) → find name fs ≡ none → without name (stored fs name ls) ≡ fs
unfolding stored without when◌then◌else◌
without_stored fs name ls free =
    without_append name fs _ ∙ rw (without_absent name fs free, same_self name) (append-nil fs)

-- the forms that deleting leaves are some of those before, in their order: whatever holds of such lists holds of them
pub without_some : (R : List Form → List Form → Type 0) → R [] [] → ((f : Form) (xs ys : List Form) → R xs ys → R xs (f ∷ ys)) → ((f : Form) (xs ys : List Form) → R xs ys → R (f ∷ xs) (f ∷ ys)) → (name : List ℕ) (fs : List Form) → R (without name fs) fs
unfolding without when◌then◌else◌
without_some R none' drops keeps name [] = none'
without_some R none' drops keeps name (f ∷ fs) =
    let rest = without_some R none' drops keeps name fs in
    either (same name f.name) (λ y. rw y (drops f _ fs rest)) (λ n. rw n (keeps f _ fs rest))

-- deleting never takes room
pub used_without : (name : List ℕ) (fs : List Form) → used (without name fs) ≤ used fs
unfolding used
used_without = without_some (λ xs ys. used xs ≤ used ys) (omega arith) (omega arith) (omega arith)

-- nor a place
pub length_without : (name : List ℕ) (fs : List Form) → length (without name fs) ≤ length fs
length_without = without_some (λ xs ys. length xs ≤ length ys) (omega arith) (omega arith) (omega arith)

-- the room of a deleted form is free again
pub used_freed : (width : ℕ) (name : List ℕ) (fs : List Form) (ls : List FormLine) → AllStored width fs → find name fs ≡ some ls → used (without name fs) + length (text_of ls) ≡ used fs
unfolding used find without when◌then◌else◌
used_freed width name [] ls all e = absurd (some-ne-none _ (sym e))
used_freed width name (f ∷ fs) ls all e =
    either (same name f.name)
    (λ y.
    let one : f.lines ≡ ls = some-injective _ _ (rw y at e) in
    let rest = without_absent name fs (rw (same_eq name f.name y) all.1) in
    rw (y, rest, one) (omega arith))
    (λ n. let rest = used_freed width name fs ls all.3 (rw n at e) in rw n (omega arith))

-- a form that is found may be held
pub find_storable : (width : ℕ) (name : List ℕ) (fs : List Form) (ls : List FormLine) → AllStored width fs → find name fs ≡ some ls → Storable width ls
unfolding find when◌then◌else◌
find_storable width name [] ls all e = absurd (some-ne-none _ (sym e))
find_storable width name (f ∷ fs) ls all e =
    either (same name f.name)
    (λ y. rw (some-injective _ _ (rw y at e)) at all.2)
    (λ n. find_storable width name fs ls all.3 (rw n at e))

-- what is stored stays so without a form
pub stored_without : (width : ℕ) (name : List ℕ) (fs : List Form) → AllStored width fs → AllStored width (without name fs)
unfolding without when◌then◌else◌
stored_without width name [] all = tt
stored_without width name (f ∷ fs) all =
    let rest = stored_without width name fs all.3 in
    either (same name f.name)
    (λ y. rw y rest)
    (λ n. rw n (all.0, find_without_other name f.name fs (same_sym f.name name ∙ n) ∙ all.1, all.2, rest))

-- and with one form more under a name that is free
pub stored_with : (width : ℕ) (fs : List Form) (name : List ℕ) (ls : List FormLine) → AllStored width fs → is_name name ≡ true → find name fs ≡ none → Storable width ls → AllStored width (stored fs name ls)
unfolding stored find when◌then◌else◌
stored_with width [] name ls all named free good = (named, refl, good, tt)
stored_with width (f ∷ fs) name ls all named free good =
    either (same name f.name)
    (λ y. absurd (some-ne-none _ (rw y at free)))
    (λ n.
    let apart = same_sym f.name name ∙ n in (
      all.0,
      find_stored_other fs name f.name ls apart ∙ all.1,
      all.2,
      stored_with width fs name ls all.3 named (rw n at free) good,
    ))

-- a line that reads, in Idle
pub hear_idle : (width room : ℕ) (b : Bench) (s : List ℕ) (c : Command) → b.session ≡ idle → read width (kept s) ≡ command c → hear width room b s ≡ in_idle room b.forms c
unfolding hear heard obeyed
hear_idle width room b s c was reads = rw (was, reads)

-- and in Collecting
pub hear_collecting : (width room : ℕ) (b : Bench) (s : List ℕ) (c : Command) (name : List ℕ) (ls : List FormLine) → b.session ≡ collecting name ls → read width (kept s) ≡ command c → hear width room b s ≡ in_collecting b.forms name ls c
unfolding hear heard obeyed
hear_collecting width room b s c name ls was reads = rw (was, reads)

-- what is checked and accepted is stored
checked_stored : (fs : List Form) (name : List ℕ) (ls : List FormLine) (o : Option ℕ) → (checked fs name ls o).answer ≡ accepted [] → (checked fs name ls o).next ≡ record { forms = stored fs name ls; session = idle }
unfolding checked done outcome when◌then◌else◌
checked_stored fs name ls (some n) e = cc
checked_stored fs name ls none e = either (has_room fs ls) (λ y. rw y) (λ n. let never : refused no_room ≡ accepted [] = rw n at e in cc)

-- `FE` that is accepted stores the form that was collected, behind the others
pub finish_stores : (width room : ℕ) (b : Bench) (s name : List ℕ) (ls : List FormLine) → b.session ≡ collecting name ls → read width (kept s) ≡ command (file finish) → (hear width room b s).answer ≡ accepted [] → (hear width room b s).next ≡ record { forms = stored b.forms name ls; session = idle }
unfolding in_collecting on_finish
finish_stores width room b s name ls was reads e =
    let heard' = hear_collecting width room b s (file finish) name ls was reads in
    rw heard' (checked_stored b.forms name ls (unsound_at ls) (rw heard' at e))

-- `FR` of a stored form is accepted and opens exactly its lines
pub recall_opens : (width room : ℕ) (b : Bench) (s name : List ℕ) (ls : List FormLine) → b.session ≡ idle → find name b.forms ≡ some ls → read width (kept s) ≡ command (file (recall name)) → hear width room b s ≡ done b.forms (opened_with ls (asked ls))
unfolding in_idle filed recalled
recall_opens width room b s name ls was found reads = hear_idle width room b s _ was reads ∙ rw found

-- `FE` that is accepted, and then `FR` of that name, opens the form that was collected
pub finish_recall : (width room more : ℕ) (b : Bench) (s t name : List ℕ) (ls : List FormLine) → Sane width b → b.session ≡ collecting name ls → read width (kept s) ≡ command (file finish) → (hear width room b s).answer ≡ accepted [] → read width (kept t) ≡ command (file (recall name)) → hear width more (hear width room b s).next t ≡ done (stored b.forms name ls) (opened_with ls (asked ls))
finish_recall width room more b s t name ls sane was reads e again =
    let draft : Draft width b.forms name ls = rw was at sane.session in
    rw (finish_stores width room b s name ls was reads e)
    (recall_opens width more _ t name ls refl (find_stored b.forms name ls draft.free) again)

-- `FE` that is accepted leaves every other form as it was
pub finish_others : (width room : ℕ) (b : Bench) (s name other : List ℕ) (ls : List FormLine) → b.session ≡ collecting name ls → read width (kept s) ≡ command (file finish) → (hear width room b s).answer ≡ accepted [] → same other name ≡ false → find other (hear width room b s).next.forms ≡ find other b.forms
finish_others width room b s name other ls was reads e apart =
    rw (finish_stores width room b s name ls was reads e) (find_stored_other b.forms name other ls apart)

-- `FK` of a name deletes that form
pub delete_frees : (width room : ℕ) (b : Bench) (s name : List ℕ) → b.session ≡ idle → same name star ≡ false → read width (kept s) ≡ command (file (delete name)) → hear width room b s ≡ done (without name b.forms) idle
unfolding in_idle filed deleted when◌then◌else◌
delete_frees width room b s name was one reads = hear_idle width room b s _ was reads ∙ rw one

-- `FK` of the star deletes every form
pub delete_all : (width room : ℕ) (b : Bench) (s : List ℕ) → b.session ≡ idle → read width (kept s) ≡ command (file (delete star)) → hear width room b s ≡ done [] idle
unfolding in_idle filed deleted when◌then◌else◌
delete_all width room b s was reads = hear_idle width room b s _ was reads ∙ rw (same_self star)

-- after `FK` of a name `FR` of that name is refused
pub delete_recall : (width room more : ℕ) (b : Bench) (s t name : List ℕ) → b.session ≡ idle → same name star ≡ false → read width (kept s) ≡ command (file (delete name)) → read width (kept t) ≡ command (file (recall name)) → (hear width more (hear width room b s).next t).answer ≡ refused absent
unfolding in_idle filed recalled refuse outcome done
delete_recall width room more b s t name was one reads again =
    rw (delete_frees width room b s name was one reads)
    (rw (hear_idle width more (record { forms = without name b.forms; session = idle }) t _ refl again, find_without name b.forms) refl)

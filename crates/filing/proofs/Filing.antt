-- The lines to the store in Idle.
use Prim.Native.Nat.{ℕ, suc, ◌+◌, ◌*◌, ◌≤◌, ◌<◌}
use mathlib.Core.Path.{◌≡◌, refl, sym, ◌∙◌, ap}
use mathlib.Core.List.{List, [], ◌∷◌}
use native.Mathlib.Omega.{arith}
use lib.ListN.{length, take, get_or, replicate}
use lib.Seq.{length-take-le}
use lib.Dec.{leb}
use borrow.Author.Tests.{eq-eqb, ne_eqb}
use Rattle.std.specs.Prelude as Std
use Rattle.std.specs.Prelude.{Result, Ok, Err, Some, None}
use Rattle.paper.specs.Byte.{when◌then◌else◌}
use Rattle.paper.specs.Command.{Define, FormLine, start, inform, recall, delete, file}
use Rattle.paper.specs.Form.{Form, text_of, asked, is_some, listing}
use Rattle.paper.specs.Bench as P
use Rattle.paper.specs.Write.{lines_text}
use Rattle.paper.proofs.Test.{either}
use Rattle.text.specs.Write.{Writes, padded}
use Rattle.text.specs.declared.read.Span.{Span}
use Rattle.text.proofs.Padded.{padded_length, padded_write}
use Rattle.command.specs.View.{refusal_of, text_in}
use Rattle.command.specs.Answer.{Meets}
use Rattle.command.specs.declared.Refusal.{Refusal}
use Rattle.command.specs.declared.Refusal.TheVariants as W
use Rattle.store.specs.Packed.{Store}
use Rattle.store.specs.Lent.{Stocked, Finds, Lists}
use Rattle.store.specs.declared.Found.{Found}
use Rattle.set.specs.Answers.{answers_text, values_from, values_in}
use Rattle.session.specs.Memory.{Session, Shelf, session_of, named, drafts, drafting, holds, holding, packed_session, place_of, packed_shelf, if_idle, after_filing, after_command}
use Rattle.session.specs.Outcome.{At, Beside, Does, Heeds, Consults, Informs, Files, Refuses, obey, handed, Named, Starred, Removes, opens_by}
use Rattle.session.specs.declared.name.Name.{Name}
use Rattle.session.specs.declared.state.Mode.{Mode}
use Rattle.session.specs.declared.state.Mode.TheVariants as M
use Rattle.session.proofs.Held.{Tagged, seen, does_done, does_refused}
use Rattle.session.proofs.Refusing.{minds_not_now, file_not_now}
use Rattle.session.proofs.Used.{name_short}
use Rattle.session.proofs.Entries.{store_kept}
use Rattle.session.proofs.Lending.{front_within, front_bytes}
use Rattle.filing.proofs.Finding.{Among, entries_listing, entries_absent, entries_found}
use Rattle.session.proofs.Parted.{lies_before, plan_asks_at}
use Rattle.filing.proofs.Clearing.{at_stocked, at_plans, name_bytes, name_inside, range_short, looked}

-- `FS` is taken in Idle only
pub start_not_now : (session : Session) (store : Store) (name : List ℕ) (answer : Result ℕ Refusal) (next : Session) → Refuses W.NotNow session answer next → Tagged (1 ∷ 2 ∷ 3 ∷ 4 ∷ 5 ∷ 6 ∷ []) session
    → Consults session store (file (start name)) answer next
unfolding P.on_finish
start_not_now session store name answer next r t =
    record { consults = λ plans. (minds_not_now session (file (start name)) answer next r (file_not_now (start name) (λ o p. refl) session t)).minds _ }

-- so is `FI`
pub inform_not_now : (session : Session) (store : Store) (b : List ℕ) (answer : Result ℕ Refusal) (next : Session) → Refuses W.NotNow session answer next → Tagged (1 ∷ 2 ∷ 3 ∷ 4 ∷ 5 ∷ 6 ∷ []) session
    → Informs session store b b answer next
unfolding P.on_finish
inform_not_now session store b answer next r t =
    record { informs = λ plans. ((minds_not_now session (file inform) answer next r (file_not_now inform (λ o p. refl) session t)).minds _).heeds b }

-- so is `FR`
pub recall_not_now : (session : Session) (shelf : Shelf) (name : List ℕ) (answer : Result ℕ Refusal) (next : Session) → Refuses W.NotNow session answer next → Tagged (1 ∷ 2 ∷ 3 ∷ 4 ∷ 5 ∷ 6 ∷ []) session
    → Heeds session shelf (file (recall name)) answer next
unfolding P.on_finish
recall_not_now session shelf name answer next r t =
    (minds_not_now session (file (recall name)) answer next r (file_not_now (recall name) (λ o p. refl) session t)).minds shelf

-- and so is `FK`
pub delete_not_now : (session : Session) (shelf : Shelf) (name : List ℕ) (answer : Result ℕ Refusal) (next : Session) → Refuses W.NotNow session answer next → Tagged (1 ∷ 2 ∷ 3 ∷ 4 ∷ 5 ∷ 6 ∷ []) session
    → Files session shelf (file (delete name)) answer next shelf
unfolding P.on_finish
delete_not_now session shelf name answer next r t =
    record { files = λ b. ((minds_not_now session (file (delete name)) answer next r (file_not_now (delete name) (λ o p. refl) session t)).minds shelf).heeds b }

-- a name that stands in a line is short
pub named_short : (s : List ℕ) (string : Span) → Named s string → length (text_in s string) ≤ 16
named_short s string h = name_short (text_in s string) h.named

-- and so is a name or the star
pub starred_short : (s : List ℕ) (string : Span) → Starred s string → length (text_in s string) ≤ 16
starred_short s string h = range_short (text_in s string) h.named

-- its copy lies within sixteen bytes, and is as long as it says
pub copied_inside : (s : List ℕ) (string : Span) (name : Name) → Named s string → name ≡ named (text_in s string) → name.len ≤ length name.bytes
copied_inside s string name h e = name_inside name (text_in s string) e (named_short s string h)

pub copied_size : (s : List ℕ) (string : Span) (name : Name) → Named s string → name ≡ named (text_in s string) → name.len ≡ length (take name.len name.bytes)
copied_size s string name h e = sym (length-take-le name.len name.bytes (copied_inside s string name h e))

-- the store beside a session
pub beside_stocked : (session : Session) (store : Store) → Beside session store → Stocked store
beside_stocked session store k = at_stocked session _ k.at

-- Idle
idle_is : (session : Session) (shelf : Shelf) (a : At session shelf) → Tagged (0 ∷ []) session → a.state ≡ P.idle
idle_is session shelf a t = seen 0 session a.forms a.number a.state a.here t

idle_here : (session : Session) (shelf : Shelf) (a : At session shelf) → Tagged (0 ∷ []) session → session ≡ packed_session a.forms a.number P.idle
idle_here session shelf a t = a.here ∙ ap (packed_session a.forms a.number) (idle_is session shelf a t)

-- what is found under the copy of a name that stands in a line is found under the name
pub copied_finds : (store : Store) (s : List ℕ) (string : Span) (name : Name) (found : Std.Option Found) → name ≡ named (text_in s string) → Finds store (take name.len name.bytes) found
    → Finds store (text_in s string) found
copied_finds store s string name found e f = rw (name_bytes name (text_in s string) e) at f

-- a form that is found under a name is one of those there
spotted : (session : Session) (shelf : Shelf) (a : At session shelf) (text : List ℕ) (found : Std.Option Found) (it : Found) → Finds shelf.store text found → found ≡ Some it
    → Among text a.forms 0 0 it.index it.start it.len
spotted session shelf a text found it f q =
    entries_found text a.forms 0 0 it a.sane.forms.each (looked session shelf a text found f ∙ q)

-- `FS` of a name that is taken
pub start_taken : (session : Session) (store : Store) (s : List ℕ) (string : Span) (name : Name) (found : Std.Option Found) (it : Found) → Tagged (0 ∷ []) session
    → name ≡ named (text_in s string) → Finds store (take name.len name.bytes) found → found ≡ Some it → Consults session store (file (start (text_in s string))) (Err W.NameTaken) session
unfolding obey P.in_idle P.filed P.refuse P.after_refusal is_some refusal_of when◌then◌else◌ after_command after_filing
start_taken session store s string name found it t e f q =
    record {
      consults = λ plans. record {
        heeds = λ b. record {
          obeys = λ a.
              let w = spotted session _ a (text_in s string) found it (copied_finds store s string name found e f) q in
              rw (idle_is session _ a t, w.found) (does_refused W.NameTaken session _ a.forms a.number P.idle b (idle_here session _ a t) a.there);
        };
      };
    }

-- a name in a session that held none
begun : (session : Session) (name : Name) (text bytes : List ℕ) (next : ℕ) → session ≡ drafting M.Idle [] [] → name ≡ named text → length text ≤ 16
    → Writes session.name 0 (take name.len name.bytes) bytes next
    → session_of (record { mode = M.Collecting 0; form = session.held.form; start = session.held.start; size = session.held.size; len = name.len; drafted = session.held.drafted; given = session.held.given }) bytes session.text session.answers session.values ≡ drafting (M.Collecting 0) text []
unfolding drafting drafts named
begun session name text bytes next e n h w =
    let key = name_bytes name text n in
    let is : bytes ≡ padded 16 text = w.is ∙ rw (key, e) (padded_write 16 [] text (omega arith)) in
    let len : name.len ≡ length text = ap (λ x. x.len) n in
    λ j. record {
      held = record { mode = M.Collecting 0; form = (e j).held.form; start = (e j).held.start; size = (e j).held.size; len = len j; drafted = (e j).held.drafted; given = (e j).held.given };
      name = is j;
      text = (e j).text;
      answers = (e j).answers;
      values = (e j).values;
    }

-- there is room for it
pub start_room : (session : Session) (store : Store) (s : List ℕ) (string : Span) (name : Name) → Beside session store → Tagged (0 ∷ []) session → Named s string → name ≡ named (text_in s string)
    → 0 + length (take name.len name.bytes) ≤ length session.name
unfolding packed_session drafting
start_room session store s string name k t h e =
    let whole : length session.name ≡ 16 = rw (idle_here session _ k.at t) (padded_length 16 [] (omega arith)) in
    rw (name_bytes name (text_in s string) e, whole) (omega (arith, named_short s string h))

-- `FS` of a name that is free
pub start_begins : (session : Session) (store : Store) (s : List ℕ) (string : Span) (name : Name) (found : Std.Option Found) (bytes : List ℕ) (end : ℕ) → Tagged (0 ∷ []) session → Named s string
    → name ≡ named (text_in s string) → Finds store (take name.len name.bytes) found → found ≡ None → Writes session.name 0 (take name.len name.bytes) bytes end
    → Consults session store (file (start (text_in s string))) (Ok 0) (session_of (record { mode = M.Collecting 0; form = session.held.form; start = session.held.start; size = session.held.size; len = name.len; drafted = session.held.drafted; given = session.held.given }) bytes session.text session.answers session.values)
unfolding obey P.in_idle P.filed is_some when◌then◌else◌ packed_session text_of lines_text after_command after_filing
start_begins session store s string name found bytes end t h e f q w =
    record {
      consults = λ plans. record {
        heeds = λ b. record {
          obeys = λ a.
              let free = entries_absent (text_in s string) a.forms 0 0 (looked session _ a (text_in s string) found (copied_finds store s string name found e f) ∙ q) in
              let next = begun session name (text_in s string) bytes end (idle_here session _ a t) e (named_short s string h) w in
              rw (idle_is session _ a t, free) (does_done _ _ a.forms a.number (P.collecting (text_in s string) []) b next a.there);
        };
      };
    }

-- what is written of a shelf's store is the paper's listing
listing_writes : (session : Session) (shelf : Shelf) (old new : List ℕ) (n : ℕ) (a : At session shelf) → Lists shelf.store old new n → Writes old 0 (listing a.forms) new n
unfolding at_stocked store_kept
listing_writes session shelf old new n a p = rw (entries_listing a.forms) at (p.lists (at_stocked session shelf a).kept)

-- it is written within its buffer
pub listing_inside : (session : Session) (store : Store) (old new : List ℕ) (n : ℕ) → Beside session store → Lists store old new n → n ≤ length new
listing_inside session store old new n k p = front_within old _ new n (listing_writes session _ old new n k.at p)

-- and stands at its front
pub listing_size : (session : Session) (store : Store) (old new : List ℕ) (n : ℕ) → Beside session store → Lists store old new n → n ≡ length (take n new)
listing_size session store old new n k p = sym (length-take-le n new (listing_inside session store old new n k p))

-- a reply that leaves the state
replies : (bytes old new : List ℕ) (answer : Result ℕ Refusal) (fs : List Form) (n : ℕ) (st : P.Session) (session : Session) (shelf : Shelf) → Meets (handed (length old) bytes) old new answer
    → session ≡ packed_session fs n st → shelf ≡ packed_shelf fs → Does (P.replied (length old) bytes fs st st) n old new answer session shelf
unfolding handed P.replied P.outcome when◌then◌else◌
replies bytes old new answer fs n st session shelf m e f =
    either (leb (length bytes) (length old))
    (λ y. rw y (record { meets = rw y at m; session = e; shelf = f }))
    (λ no'. rw no' (record { meets = rw no' at m; session = e; shelf = f }))

-- `FI`
pub informs : (session : Session) (store : Store) (old mid : List ℕ) (n : ℕ) (reply new : List ℕ) (answer : Result ℕ Refusal) → Tagged (0 ∷ []) session → Lists store old mid n
    → Meets (handed (length reply) (take n mid)) reply new answer → Informs session store reply new answer session
unfolding obey P.in_idle P.filed after_command after_filing
informs session store old mid n reply new answer t p m =
    record {
      informs = λ plans. record {
        obeys = λ a.
            let bytes : take n mid ≡ listing a.forms = front_bytes old _ mid n (listing_writes session _ old mid n a p) in
            rw (idle_is session _ a t)
            (replies (listing a.forms) reply new answer a.forms a.number P.idle session _ (rw bytes at m) (idle_here session _ a t) a.there);
      };
    }

-- a form that is found for `FR` is one of eight
pub recall_few : (session : Session) (shelf : Shelf) (text : List ℕ) (found : Std.Option Found) (it : Found) → At session shelf → Finds shelf.store text found → found ≡ Some it
    → it.index < 8
recall_few session shelf text found it a f q =
    let w = spotted session shelf a text found it f q in
    omega (arith, w.number, lies_before a.forms (length w.before) w.here.lines w.lies, a.sane.forms.few)

-- so its plan lies within theirs
pub recall_inside : (session : Session) (shelf : Shelf) (index : ℕ) → At session shelf → index < 8 → index * 232 < length shelf.plans
recall_inside session shelf index a h =
    let p = at_plans session shelf a in
    let whole : length shelf.plans ≡ 1856 = rw p.is (padded_length 1856 p.bytes p.room) in
    omega arith

-- where a plan asks for nothing a form is ready
pub opening_ready : (n : ℕ) → n ≡ 0 → M.Ready ≡ opens_by n
unfolding opens_by when◌then◌else◌
opening_ready n e = rw (eq-eqb n 0 e)

-- and where it does it is opened
pub opening_asks : (n : ℕ) → (n ≡ 0 → ⊥) → M.Opened ≡ opens_by n
unfolding opens_by when◌then◌else◌
opening_asks n e = rw (ne_eqb n 0 e)

-- no answer gives no value
values_none : (ds : List Define) → values_in ds [] ≡ replicate 104 0
unfolding values_in values_from
values_none [] = refl
values_none (d ∷ ds) = refl

-- the memory of a form that is opened
opened_holds : (fs : List Form) (n : ℕ) (ls : List FormLine) (ds : List Define) → packed_session fs n (P.opened_with ls ds) ≡ holding (opens_by (length ds)) fs n ls []
unfolding packed_session P.opened_with opens_by when◌then◌else◌
opened_holds fs n ls [] = refl
opened_holds fs n ls (d ∷ ds) =
    ap (λ mode. holding mode fs n ls []) (opening_asks (suc (length ds)) (λ z. omega arith))

-- a form in a session that held nothing
opened_is : (session : Session) (fs : List Form) (n : ℕ) (ls : List FormLine) (mode : Mode) (index place len : ℕ) → session ≡ drafting M.Idle [] [] → mode ≡ opens_by (length (asked ls))
    → index ≡ n → place ≡ place_of fs n → len ≡ length (text_of ls)
    → session_of (record { mode = mode; form = index; start = place; size = len; len = session.held.len; drafted = session.held.drafted; given = session.held.given }) session.name session.text session.answers session.values ≡ packed_session fs n (P.opened_with ls (asked ls))
unfolding drafting drafts holding holds answers_text
opened_is session fs n ls mode index place len e m i p l =
    let values : session.values ≡ values_in (asked ls) [] = ap (λ x. x.values) e ∙ sym (values_none (asked ls)) in
    let is : session_of (record { mode = mode; form = index; start = place; size = len; len = session.held.len; drafted = session.held.drafted; given = session.held.given }) session.name session.text session.answers session.values ≡ holding (opens_by (length (asked ls))) fs n ls [] =
    λ j. record {
      held = record { mode = m j; form = i j; start = p j; size = l j; len = (e j).held.len; drafted = (e j).held.drafted; given = (e j).held.given };
      name = (e j).name;
      text = (e j).text;
      answers = (e j).answers;
      values = values j;
    } in
    is ∙ sym (opened_holds fs n ls (asked ls))

-- `FR` of it
pub recall_opens : (session : Session) (shelf : Shelf) (text : List ℕ) (found : Std.Option Found) (it : Found) (mode : Mode) → Tagged (0 ∷ []) session
    → Finds shelf.store text found → found ≡ Some it → mode ≡ opens_by (get_or shelf.plans (it.index * 232) 0)
    → Heeds session shelf (file (recall text)) (Ok 0) (session_of (record { mode = mode; form = it.index; start = it.start; size = it.len; len = session.held.len; drafted = session.held.drafted; given = session.held.given }) session.name session.text session.answers session.values)
unfolding obey P.in_idle P.filed P.recalled after_command after_filing if_idle packed_shelf packed_session
recall_opens session shelf text found it mode t f q m =
    record {
      heeds = λ b. record {
        obeys = λ a.
            let w = spotted session shelf a text found it f q in
            let n = length w.before in
            let number : it.index ≡ n = omega (arith, w.number) in
            let first : get_or shelf.plans (it.index * 232) 0 ≡ length (asked w.here.lines) =
            ap (λ i. get_or shelf.plans (i * 232) 0) number ∙ ap (λ x. get_or x.plans (n * 232) 0) a.there ∙ plan_asks_at a.forms n w.here.lines a.sane.forms.each w.lies in
            let next = opened_is session a.forms n w.here.lines mode it.index it.start it.len (idle_here session shelf a t) (m ∙ ap opens_by first) number (omega (arith, w.place)) w.bytes in
            rw (idle_is session shelf a t, w.found, w.first) (does_done _ shelf a.forms n _ b next a.there);
      };
    }

-- and of a name that is absent
pub recall_absent : (session : Session) (shelf : Shelf) (text : List ℕ) (found : Std.Option Found) → Tagged (0 ∷ []) session
    → Finds shelf.store text found → found ≡ None → Heeds session shelf (file (recall text)) (Err W.Absent) session
unfolding obey P.in_idle P.filed P.recalled P.refuse P.after_refusal refusal_of after_command after_filing if_idle packed_session
recall_absent session shelf text found t f q =
    record {
      heeds = λ b. record {
        obeys = λ a.
            let free = entries_absent text a.forms 0 0 (looked session shelf a text found f ∙ q) in
            rw (idle_is session shelf a t, free) (does_refused W.Absent session shelf a.forms _ P.idle b (idle_here session shelf a t) a.there);
      };
    }

-- `FK`
pub deletes : (session : Session) (shelf : Shelf) (s : List ℕ) (string : Span) (name : Name) (less : Shelf) → Tagged (0 ∷ []) session → name ≡ named (text_in s string) → Removes shelf name less
    → Files session shelf (file (delete (text_in s string))) (Ok 0) session less
unfolding obey P.in_idle P.filed after_command after_filing packed_session
deletes session shelf s string name less t e g =
    record {
      files = λ b. record {
        obeys = λ a.
            rw (idle_is session shelf a t) (does_done session less (P.deleted (text_in s string) a.forms) a.number P.idle b (idle_here session shelf a t) (g.removes session a (text_in s string) e));
      };
    }

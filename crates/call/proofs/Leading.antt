-- What calls lead to: behind a line or a take the form that is held open is still that of its number, so memory of the paper's next bench
-- is again memory that calls lead to.
use Prim.Native.Nat.{ℕ, suc, ◌-◌}
use mathlib.Core.Path.{◌≡◌, refl, sym, ◌∙◌, ap}
use mathlib.Core.Bool.{Bool, true, false}
use mathlib.Core.List.{List, [], ◌∷◌, ◌++◌}
use mathlib.Core.Option.{Option, none, some, some-ne-none}
use lib.ListN.{length, drop}
use lib.Dec.{leb, eqb}
use Rattle.paper.specs.Byte.{when◌then◌else◌, same}
use Rattle.paper.specs.Line.{kept, long, control}
use Rattle.paper.specs.Command as C
use Rattle.paper.specs.Command.{Define, FormLine}
use Rattle.paper.specs.Read.{Reading, command, unread, read}
use Rattle.paper.specs.Form.{Form, within_limits, asked, is_some, unsound_at, find, has_room, listing}
use Rattle.paper.specs.Set.{fits, all_hold, set_of}
use Rattle.paper.specs.Bench as P
use Rattle.paper.proofs.Invariant.{begin_sane, hear_sane, take_sane}
use Rattle.paper.proofs.Test.{either}
use Rattle.command.specs.View.{width}
use Rattle.session.specs.Memory.{Session, Shelf, drafting, packed_session, packed_shelf, Lies, Opens, number_of, if_idle, after_filing, after_command}
use Rattle.session.specs.Outcome.{after_reading, after_line}
use Rattle.call.specs.Call.{Memory, laid, packed_bench, Reached, Begins}
use Rattle.session.specs.declared.state.Mode.TheVariants as M

-- what an outcome holds open is form n
abbrev pub OpensIn : ℕ → P.Outcome → Type 0
OpensIn n o = Opens o.next.forms n o.next.session

-- of two outcomes by a test
opens_either : (n : ℕ) (t : Bool) (a b : P.Outcome) → OpensIn n a → OpensIn n b → OpensIn n (when t then a else b)
unfolding when◌then◌else◌
opens_either n true a b p q = p
opens_either n false a b p q = q

-- a refused line holds nothing else
opens_refused : (fs : List Form) (n : ℕ) (st : P.Session) → Opens fs n st → Opens fs n (P.after_refusal st)
unfolding P.after_refusal
opens_refused fs n P.idle h = tt
opens_refused fs n (P.collecting name ls) h = tt
opens_refused fs n P.spoiled h = tt
opens_refused fs n (P.opened ls) h = h
opens_refused fs n (P.answering ls given) h = tt
opens_refused fs n (P.ready ls given) h = h
opens_refused fs n (P.printing ls given k c i) h = h

-- the form of a name stands at its number
pub found_lies : (name : List ℕ) (fs : List Form) (ls : List FormLine) → find name fs ≡ some ls → Lies fs (number_of name fs) ls
unfolding find number_of when◌then◌else◌
found_lies name [] ls e = absurd (some-ne-none _ (sym e))
found_lies name (f ∷ fs) ls e =
    either (same name f.name)
    (λ y. rw y (let it : some f.lines ≡ some ls = rw y at e in cc))
    (λ n. rw n (found_lies name fs ls (rw n at e)))

-- a form that was opened, by what it asks
opens_with : (fs : List Form) (n : ℕ) (ls : List FormLine) (ds : List Define) → Lies fs n ls → Opens fs n (P.opened_with ls ds)
unfolding P.opened_with
opens_with fs n ls [] h = h
opens_with fs n ls (d ∷ ds) h = h

-- `FR`
opens_recalled : (name : List ℕ) (fs : List Form) (o : Option (List FormLine)) → find name fs ≡ o → OpensIn (number_of name fs) (P.recalled fs o)
unfolding P.recalled P.refuse P.done P.outcome P.after_refusal
opens_recalled name fs none e = tt
opens_recalled name fs (some ls) e = opens_with fs (number_of name fs) ls (asked ls) (found_lies name fs ls e)

-- Idle
opens_idle : (room n : ℕ) (fs : List Form) (c : C.Command) → OpensIn (after_command n fs P.idle c) (P.in_idle room fs c)
unfolding P.in_idle P.filed P.replied P.refuse P.done P.outcome P.after_refusal after_command after_filing if_idle
opens_idle room n fs C.empty = tt
opens_idle room n fs C.new = tt
opens_idle room n fs (C.keep line) = tt
opens_idle room n fs (C.file (C.start name)) = opens_either n (is_some (find name fs)) _ _ tt tt
opens_idle room n fs (C.file C.finish) = tt
opens_idle room n fs (C.file C.inform) = opens_either n (leb (length (listing fs)) room) _ _ tt tt
opens_idle room n fs (C.file (C.recall name)) = opens_recalled name fs (find name fs) refl
opens_idle room n fs (C.file (C.delete name)) = tt
opens_idle room n fs C.ask = tt
opens_idle room n fs (C.print k c) = tt

-- Collecting
opens_checked : (n : ℕ) (fs : List Form) (name : List ℕ) (ls : List FormLine) (o : Option ℕ) → OpensIn n (P.checked fs name ls o)
unfolding P.checked P.done P.outcome
opens_checked n fs name ls none = opens_either n (has_room fs ls) _ _ tt tt
opens_checked n fs name ls (some k) = tt

opens_collecting : (n : ℕ) (fs : List Form) (name : List ℕ) (ls : List FormLine) (c : C.Command) → OpensIn n (P.in_collecting fs name ls c)
unfolding P.in_collecting P.collected P.on_finish P.refuse P.done P.outcome P.after_refusal
opens_collecting n fs name ls C.empty = tt
opens_collecting n fs name ls C.new = tt
opens_collecting n fs name ls (C.keep line) = opens_either n (within_limits (ls ++ (line ∷ []))) _ _ tt tt
opens_collecting n fs name ls (C.file (C.start other)) = tt
opens_collecting n fs name ls (C.file C.finish) = opens_checked n fs name ls (unsound_at ls)
opens_collecting n fs name ls (C.file C.inform) = tt
opens_collecting n fs name ls (C.file (C.recall other)) = tt
opens_collecting n fs name ls (C.file (C.delete other)) = tt
opens_collecting n fs name ls C.ask = tt
opens_collecting n fs name ls (C.print k c) = tt

-- a spoiled form
opens_spoiled : (n : ℕ) (fs : List Form) (c : C.Command) → OpensIn n (P.in_spoiled fs c)
unfolding P.in_spoiled P.on_finish P.refuse P.done P.outcome P.after_refusal
opens_spoiled n fs C.empty = tt
opens_spoiled n fs C.new = tt
opens_spoiled n fs (C.keep line) = tt
opens_spoiled n fs (C.file (C.start other)) = tt
opens_spoiled n fs (C.file C.finish) = tt
opens_spoiled n fs (C.file C.inform) = tt
opens_spoiled n fs (C.file (C.recall other)) = tt
opens_spoiled n fs (C.file (C.delete other)) = tt
opens_spoiled n fs C.ask = tt
opens_spoiled n fs (C.print k c) = tt

module _ (n : ℕ) (fs : List Form) (ls : List FormLine) (h : Lies fs n ls) where
  -- Open
  opens_opened : (c : C.Command) → OpensIn n (P.in_opened fs ls c)
  unfolding P.in_opened P.refuse P.done P.outcome P.after_refusal
  opens_opened C.empty = h
  opens_opened C.new = tt
  opens_opened (C.keep line) = h
  opens_opened (C.file filing) = h
  opens_opened C.ask = h
  opens_opened (C.print k c) = h

  -- Ready
  opens_ready : (given : List (List ℕ)) (c : C.Command) → OpensIn n (P.in_ready fs ls given c)
  unfolding P.in_ready P.refuse P.done P.outcome P.after_refusal
  opens_ready given C.empty = h
  opens_ready given C.new = tt
  opens_ready given (C.keep line) = h
  opens_ready given (C.file filing) = h
  opens_ready given C.ask = h
  opens_ready given (C.print k c) = opens_either n (all_hold (k - 1) (asked ls) given) _ _ h h

  -- Printing
  opens_printing : (given : List (List ℕ)) (k copies i : ℕ) (c : C.Command) → OpensIn n (P.in_printing fs (P.printing ls given k copies i) c)
  unfolding P.in_printing P.refuse P.done P.outcome P.after_refusal
  opens_printing given k copies i C.empty = h
  opens_printing given k copies i C.new = tt
  opens_printing given k copies i (C.keep line) = h
  opens_printing given k copies i (C.file filing) = h
  opens_printing given k copies i C.ask = h
  opens_printing given k copies i (C.print j c) = h

  -- Answering
  opens_answered_of : (given : List (List ℕ)) (ds : List Define) → Opens fs n (P.answered_of ls given ds)
  unfolding P.answered_of
  opens_answered_of given [] = h
  opens_answered_of given (d ∷ ds) = h

  opens_answered : (given : List (List ℕ)) (s : List ℕ) (ds : List Define) → OpensIn n (P.answered fs ls given s ds)
  unfolding P.answered P.refuse P.done P.outcome P.after_refusal
  opens_answered given s [] = h
  opens_answered given s (d ∷ ds) = opens_either n (fits d s) _ _ (opens_answered_of (given ++ (s ∷ [])) ds) tt

  opens_answering : (given : List (List ℕ)) (s : List ℕ) → OpensIn n (P.in_answering fs ls given s)
  unfolding P.in_answering P.refuse P.outcome P.after_refusal
  opens_answering given s =
      opens_either n (long s) _ _ tt (opens_either n (control s) _ _ tt (opens_answered given s (drop (length given) (asked ls))))

  -- a take
  opens_taken : (room : ℕ) (given : List (List ℕ)) (k c i : ℕ) → OpensIn n (P.taken room fs (P.printing ls given k c i))
  unfolding P.taken P.replied P.outcome P.after_set when◌then◌else◌
  opens_taken room given k c i = opens_either n (leb (length (set_of ls given c i)) room) _ _ (next (eqb (suc i) k)) h
    where
      next : (t : Bool) → Opens fs n (when t then P.idle else P.printing ls given k c (suc i))
      next true = tt
      next false = h

-- in every state but Idle a command leaves the number as it is
number_stays : (n : ℕ) (fs : List Form) (st : P.Session) → ((a b : ℕ) → if_idle st a b ≡ b) → (c : C.Command) → after_command n fs st c ≡ n
unfolding after_command after_filing
number_stays n fs st e C.empty = refl
number_stays n fs st e C.new = refl
number_stays n fs st e (C.keep line) = refl
number_stays n fs st e (C.file (C.start name)) = refl
number_stays n fs st e (C.file C.finish) = refl
number_stays n fs st e (C.file C.inform) = refl
number_stays n fs st e (C.file (C.recall name)) = e (number_of name fs) n
number_stays n fs st e (C.file (C.delete name)) = refl
number_stays n fs st e C.ask = refl
number_stays n fs st e (C.print k c) = refl

-- and so does a line
reading_stays : (n : ℕ) (fs : List Form) (st : P.Session) → ((a b : ℕ) → if_idle st a b ≡ b) → (r : Reading) → after_reading n fs st r ≡ n
unfolding after_reading
reading_stays n fs st e (command c) = number_stays n fs st e c
reading_stays n fs st e (unread r) = refl

-- a line that is read and obeyed
opens_obeyed : (n : ℕ) (fs : List Form) (st : P.Session) (obey : C.Command → P.Outcome) → Opens fs n st
    → ((c : C.Command) → OpensIn (after_command n fs st c) (obey c)) → (r : Reading) → OpensIn (after_reading n fs st r) (P.obeyed fs st obey r)
unfolding P.obeyed P.refuse P.outcome after_reading
opens_obeyed n fs st obey h o (command c) = o c
opens_obeyed n fs st obey h o (unread r) = opens_refused fs n st h

-- a line in each state
pub opens_heard : (room n : ℕ) (fs : List Form) (st : P.Session) (s : List ℕ) → Opens fs n st → OpensIn (after_line n fs st s) (P.heard width room fs st s)
unfolding P.heard after_line if_idle
opens_heard room n fs P.idle s h = opens_obeyed n fs P.idle _ h (opens_idle room n fs) (read width s)
opens_heard room n fs (P.collecting name ls) s h =
    opens_obeyed n fs (P.collecting name ls) _ h (λ c. rw (number_stays n fs (P.collecting name ls) (λ a b. refl) c) (opens_collecting n fs name ls c)) (read width s)
opens_heard room n fs P.spoiled s h = opens_obeyed n fs P.spoiled _ h (λ c. rw (number_stays n fs P.spoiled (λ a b. refl) c) (opens_spoiled n fs c)) (read width s)
opens_heard room n fs (P.opened ls) s h = opens_obeyed n fs (P.opened ls) _ h (λ c. rw (number_stays n fs (P.opened ls) (λ a b. refl) c) (opens_opened n fs ls h c)) (read width s)
opens_heard room n fs (P.answering ls given) s h = rw (reading_stays n fs (P.answering ls given) (λ a b. refl) (read width s)) (opens_answering n fs ls h given s)
opens_heard room n fs (P.ready ls given) s h = opens_obeyed n fs (P.ready ls given) _ h (λ c. rw (number_stays n fs (P.ready ls given) (λ a b. refl) c) (opens_ready n fs ls h given c)) (read width s)
opens_heard room n fs (P.printing ls given k c i) s h =
    opens_obeyed n fs (P.printing ls given k c i) _ h (λ x. rw (number_stays n fs (P.printing ls given k c i) (λ a b. refl) x) (opens_printing n fs ls h given k c i x)) (read width s)

-- a take in each state
pub opens_take : (room n : ℕ) (fs : List Form) (st : P.Session) → Opens fs n st → OpensIn n (P.taken room fs st)
unfolding P.taken P.outcome
opens_take room n fs P.idle h = h
opens_take room n fs (P.collecting name ls) h = h
opens_take room n fs P.spoiled h = h
opens_take room n fs (P.opened ls) h = h
opens_take room n fs (P.answering ls given) h = h
opens_take room n fs (P.ready ls given) h = h
opens_take room n fs (P.printing ls given k c i) h = opens_taken n fs ls h room given k c i

module _ (self : Memory) (k : Reached self) (next : Memory) where
  -- memory of the bench that a line leaves is memory that calls lead to
  unfoldable pub hears_on : (room : ℕ) (s : List ℕ)
      → next ≡ packed_bench (P.hear width room k.paper s).next (after_line k.number k.paper.forms k.paper.session (kept s)) → Reached next
  unfolding P.hear
  hears_on room s e =
      record {
        paper = (P.hear width room k.paper s).next;
        number = after_line k.number k.paper.forms k.paper.session (kept s);
        sane = hear_sane width room k.paper s k.sane;
        opens = opens_heard room k.number k.paper.forms k.paper.session (kept s) k.opens;
        is = e;
      }

  -- and so is that of the bench that a take leaves
  unfoldable pub takes_on : (room : ℕ) → next ≡ packed_bench (P.take_set room k.paper).next k.number → Reached next
  unfolding P.take_set
  takes_on room e =
      record {
        paper = (P.take_set room k.paper).next;
        number = k.number;
        sane = take_sane width room k.paper k.sane;
        opens = opens_take room k.number k.paper.forms k.paper.session k.opens;
        is = e;
      }

-- in Idle no form is held open, and its number is not looked at
pub idle_one : (b : P.Bench) (n m : ℕ) → b.session ≡ P.idle → packed_bench b n ≡ packed_bench b m
unfolding packed_bench packed_session
idle_one b n m e = rw e

-- an empty shelf and a session that holds nothing are what `new` promises
pub begins_promised : (shelf : Shelf) (session : Session) → shelf ≡ packed_shelf [] → session ≡ drafting M.Idle [] [] → Begins (laid shelf session)
unfolding packed_bench P.begin packed_session
begins_promised shelf session e f =
    let is : (n : ℕ) → laid shelf session ≡ packed_bench P.begin n = λ n. ap (λ x. laid x session) e ∙ ap (laid (packed_shelf [])) f in
    record { reached = record { paper = P.begin; number = 0; sane = begin_sane width; opens = tt; is = is 0 }; is = is }

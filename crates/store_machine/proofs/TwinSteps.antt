-- What the steps of a session leave pinned, and where one of them lacks a pin.
use Rattle.store_machine.proofs.Prelude.{◌≡◌, ◌≢◌, ◌<◌, ◌≤◌, ◌∙◌, ℕ, true, [], ◌∷◌, ◌++◌, length, slice_set, Some, Result, Ok, Err, sym, ap, subst, Answer, PinMap, pin_of, KindSegment, segment_key, IsDueFor, Refusal, root_key, Asked, Done, ByState, Claims, Does, Legal, RefusesOn, Seals, AreTurns, IsDueStep, NothingIsDue, Session, answer_of, Machine, Part, RunState, Running, Stopped, Stepped, Writing, part_in, with_pins, Run, HasTwins, Values}
use Rattle.std.proofs.Common.{List, take}
use Rattle.std.proofs.lemmas.Option.{same_Some}
use Rattle.std.specs.FinMap as finite
use Rattle.actor_parts.specs.declared.step.Answer.TheVariants as answers
use Rattle.container_meta.specs.Segments.{Contents}
use Rattle.ingest_session.specs.declared.due.Due.TheVariants as dues
use Rattle.refusals.specs.declared.refusal.Refusal.TheVariants as refusals
use Rattle.store_model.specs.Trees.{root_of}
use Rattle.store_machine.specs.Asked as asked
use Rattle.store_machine.specs.Done as done
use Rattle.store_machine.specs.Needs.{IsKept}
use Rattle.store_machine.specs.Offers.{AddsContainers, first_unkept_in}
use Rattle.store_machine.proofs.Added.{seals_few}
use Rattle.store_machine.proofs.Pinned.{Pinned, absent_pinned, claim_lacks, held_pinned, root_lacks, same_told, seal_lacks, sealed_pinned, told_of}
use Rattle.store_machine.proofs.Pins.{with_pins_in}
use Rattle.store_machine.proofs.Quiet.{told_ok}
use Rattle.store_machine.proofs.Writers.{IsNoOpening, KeepsWriters, by_state, does_of, puts}

module _ {V R : Type 0} where
  -- an actor that gives a file writes, and has pinned what is kept of it
  pub record Writes (m : Machine V R) (a : ℕ) (s : Session) : Type 0 where
    pub pins : PinMap
    pub is : part_in m a ≡ Writing pins
    pub pinned : Pinned s pins

  pub writes_on : (m n : Machine V R) (a : ℕ) (s : Session) → KeepsWriters m n → Writes m a s → Writes n a s
  writes_on m n a s keeps w = record { pins = w.pins; is = keeps.each a w.pins w.is; pinned = w.pinned }

  -- but for one actor, who wrote writes, and keeps the same
  pub record Beside (a : ℕ) (m n : Machine V R) : Type 0 where
    pub many : length n.parts ≡ length m.parts
    pub others : (b : ℕ) → b ≢ a → (pins : PinMap) → part_in m b ≡ Writing pins → part_in n b ≡ Writing pins

  pub beside_on : (a : ℕ) (m k n : Machine V R) → Beside a m k → Beside a k n → Beside a m n
  beside_on a m k n one two = record { many = two.many ∙ one.many; others = λ b differ pins was. two.others b differ pins (one.others b differ pins was) }

  pub keeps_beside : (a : ℕ) (m n : Machine V R) → KeepsWriters m n → Beside a m n
  keeps_beside a m n keeps = record { many = keeps.many; others = λ b differ pins was. keeps.each b pins was }

  pub puts_beside : (a : ℕ) (q : Part V R) (m n : Machine V R) → n.parts ≡ slice_set m.parts a q → Beside a m n
  puts_beside a q m n is = let put = puts a q m n is in record { many = put.many; others = λ b differ pins was. put.others b differ ∙ was }

  pub beside_here : (a : ℕ) (m n : Machine V R) → n ≡ m → Beside a m n
  beside_here a m n is = record {
    many = ap (λ (x : Machine V R). length x.parts) is;
    others = λ b differ pins was. ap (λ (x : Machine V R). part_in x b) is ∙ was;
  }

  same_pins : (a b : PinMap) → (p : Part V R) → p ≡ Writing a → p ≡ Writing b → a ≡ b
  same_pins a b p one two = let both : Writing a ≡ Writing b = sym one ∙ two in cc

  -- containers that are sealed, one after the other
  containers_added : (a : ℕ) (cs : List Contents) (m n : Machine V R) → a < length m.parts → (pins : PinMap) → part_in m a ≡ Writing pins → AddsContainers a cs m n
      → (part_in n a ≡ Writing (with_pins_in cs pins)) × Beside a m n
  containers_added a [] m n within pins was is = (ap (λ (x : Machine V R). part_in x a) is ∙ was, beside_here a m n is)
  containers_added a (c ∷ cs) m n within pins was (mid, one, rest) =
      let parts : mid.parts ≡ slice_set m.parts a (Writing (with_pins c.kind c.segments one.pins)) = ap (λ (x : Machine V R). x.parts) one.others in
      let put = puts a _ m mid parts in
      let now : part_in mid a ≡ Writing (with_pins c.kind c.segments pins) =
      put.here within ∙ ap (λ (p : PinMap). Writing (with_pins c.kind c.segments p)) (same_pins one.pins pins (part_in m a) one.writing was) in
      let more = containers_added a cs mid n (subst (λ (k : ℕ). a < k) (sym put.many) within) (with_pins c.kind c.segments pins) now rest in
      (more.0, beside_on a m mid n (puts_beside a _ m mid parts) more.1)

  -- ---- a turn that was made

  module _ (v : Values V R) (a : ℕ) (s : Session) (m n : Machine V R) (within : a < length m.parts) (w : Writes m a s) where
    -- a turn leaves this
    abbrev pub Turned : Answer → Type 0
    Turned told = Writes n a (record s { answers = s.answers ++ told ∷ [] }) × Beside a m n

    module _ (due : _) (is : IsDueFor s.given s.ended s.answers due) where
      here : Pinned (told_of is.session is.history) w.pins
      here = subst (λ (t : Session). Pinned t w.pins) (sym (same_told s due is)) w.pinned

      there : (pins : PinMap) (told : Answer) → Pinned (record (told_of is.session is.history) { answers = is.history.answers ++ told ∷ [] }) pins
          → Pinned (record s { answers = s.answers ++ told ∷ [] }) pins
      there pins told pinned = subst (λ (t : Session). Pinned (record t { answers = t.answers ++ told ∷ [] }) pins) (same_told s due is) pinned

      -- the actor is at more pins
      writes_now : (pins more : PinMap) (told : Answer) → part_in m a ≡ Writing pins → n.parts ≡ slice_set m.parts a (Writing more)
          → (w.pins ≡ pins → Pinned (record (told_of is.session is.history) { answers = is.history.answers ++ told ∷ [] }) more) → Turned told
      writes_now pins more told was parts pinned =
          let put = puts a (Writing more) m n parts in
          let now : Writes n a (record s { answers = s.answers ++ told ∷ [] }) =
          record { pins = more; is = put.here within; pinned = there more told (pinned (same_pins w.pins pins (part_in m a) w.is was)) } in
          (now, puts_beside a (Writing more) m n parts)

    held_turned : (seg : KindSegment) → IsDueStep v s (asked.Claim seg) → Claims v a seg m n → Turned answers.Held
    held_turned seg (dues.Claim, is, offered) does =
        writes_now dues.Claim is does.may.pins _ answers.Held does.may.writing (ap (λ (x : Machine V R). x.parts) does.others)
        (λ same. subst (λ (pins : PinMap). Pinned (record (told_of is.session is.history) { answers = is.history.answers ++ answers.Held ∷ [] })
        (finite.insert pins (segment_key seg.kind seg.segment) (pin_of seg))) same
        (held_pinned is.session is.history is.has w.pins (here dues.Claim is) is.settled is.due_is seg offered))
    held_turned seg (dues.Seal kind, is, asks) does = absurd asks
    held_turned seg (dues.Nothing, is, asks) does = absurd asks

    absent_turned : (seg : KindSegment) → IsDueStep v s (asked.Claim seg) → n ≡ m → Turned answers.Absent
    absent_turned seg (dues.Claim, is, offered) same =
        let now : Writes n a (record s { answers = s.answers ++ answers.Absent ∷ [] }) = record {
          pins = w.pins;
          is = ap (λ (x : Machine V R). part_in x a) same ∙ w.is;
          pinned = there dues.Claim is w.pins answers.Absent (absent_pinned is.session is.history is.has w.pins (here dues.Claim is) is.settled is.due_is);
        } in (now, beside_here a m n same)
    absent_turned seg (dues.Seal kind, is, asks) same = absurd asks
    absent_turned seg (dues.Nothing, is, asks) same = absurd asks

    sealed_turned : (offered : List Contents) (id count : ℕ) → IsDueStep v s (asked.Seal offered) → Seals v a offered id count m n → Turned (answers.Sealed id count)
    sealed_turned offered id count (dues.Seal kind, is, offered_is) does =
        let added = containers_added a (take count offered) m n within w.pins w.is does.adds in
        let pinned : Pinned (record (told_of is.session is.history) { answers = is.history.answers ++ answers.Sealed id count ∷ [] }) (with_pins_in (take count offered) w.pins) =
        subst (λ (cs : List Contents). Pinned (record (told_of is.session is.history) { answers = is.history.answers ++ answers.Sealed id count ∷ [] })
        (with_pins_in (take count cs) w.pins)) (sym offered_is)
        (sealed_pinned is.session is.history is.has w.pins (here (dues.Seal kind) is) id count kind is.settled
        (kind, is.due_is, does.some, subst (λ (cs : List Contents). count ≤ length cs) offered_is (seals_few v a offered id count m n does)) is.due_is) in
        let now : Writes n a (record s { answers = s.answers ++ answers.Sealed id count ∷ [] }) =
        record { pins = with_pins_in (take count offered) w.pins; is = added.0; pinned = there (dues.Seal kind) is _ (answers.Sealed id count) pinned } in
        (now, added.1)
    sealed_turned offered id count (dues.Claim, is, asks) does = absurd asks
    sealed_turned offered id count (dues.Nothing, is, asks) does = absurd asks

    pub turned : (step : Asked V) (answer : Done) (told : Answer) → IsDueStep v s step → answer_of (Ok answer) ≡ Some told → Does v a step answer m n → Turned told
    turned (asked.Claim seg) done.Held told due is does = subst Turned (same_Some answers.Held told is) (held_turned seg due does)
    turned (asked.Claim seg) done.Absent told due is (keeps, lacks, others) = subst Turned (same_Some answers.Absent told is) (absent_turned seg due others)
    turned (asked.Seal offered) (done.Sealed id count) told due is does = subst Turned (same_Some (answers.Sealed id count) told is) (sealed_turned offered id count due does)
    turned (asked.Claim seg) answer told due is does = absurd does
    turned (asked.Seal offered) answer told due is does = absurd does
    turned step answer told (dues.Claim, by, asks) is does = absurd asks
    turned step answer told (dues.Seal kind, by, asks) is does = absurd asks
    turned step answer told (dues.Nothing, by, asks) is does = absurd asks

    -- ---- one that is refused since a segment lacks a pin

    module _ (due : _) (is : IsDueFor s.given s.ended s.answers due) (key : List ℕ) where
      twins_of : HasTwins is.history.given is.session.ended key → HasTwins s.given s.ended key
      twins_of has = subst (λ (t : Session). HasTwins t.given t.ended key) (same_told s due is) has

      pins_are : (pins : PinMap) → part_in m a ≡ Writing pins → Pinned (told_of is.session is.history) pins
      pins_are pins was = subst (Pinned (told_of is.session is.history)) (same_pins w.pins pins (part_in m a) w.is was) (here due is)

    pub turn_lacks : (step : Asked V) (key : List ℕ) → IsDueStep v s step → RefusesOn v a step (refusals.Unpinned key) m n → HasTwins s.given s.ended key
    turn_lacks (asked.Claim seg) key (dues.Claim, is, offered) ((pins, was, lacks), others) =
        twins_of dues.Claim is key
        (claim_lacks is.session is.history is.has pins (pins_are dues.Claim is key pins was) is.settled is.due_is seg offered key lacks)
    turn_lacks (asked.Seal offered) key (dues.Seal kind, is, offered_is) ((pins, was, lacks), others) =
        twins_of (dues.Seal kind) is key
        (seal_lacks is.session is.history is.has pins (pins_are (dues.Seal kind) is key pins was) kind key
        (subst (λ (cs : List Contents). first_unkept_in cs pins ≡ Some key) offered_is lacks))
    turn_lacks (asked.Claim seg) key (dues.Seal kind, is, asks) refuses = absurd asks
    turn_lacks (asked.Claim seg) key (dues.Nothing, is, asks) refuses = absurd asks
    turn_lacks (asked.Seal offered) key (dues.Claim, is, asks) refuses = absurd asks
    turn_lacks (asked.Seal offered) key (dues.Nothing, is, asks) refuses = absurd asks
    turn_lacks step key (dues.Claim, is, asks) refuses = absurd asks
    turn_lacks step key (dues.Seal kind, is, asks) refuses = absurd asks
    turn_lacks step key (dues.Nothing, is, asks) refuses = absurd asks

    pub commit_lacks : ((file : List ℕ) → v.root (v.of file) ≡ root_of file) → (name : List ℕ) (key : List ℕ) → s.ended ≡ true → NothingIsDue v s
        → RefusesOn v a (asked.Commit name (v.of s.given)) (refusals.Unpinned key) m n → HasTwins s.given s.ended key
    commit_lacks root_is name key ended is (named, room, key_is, (pins, was, lacks), others) =
        let file = is.history.given in
        let root : v.root (v.of s.given) ≡ root_of file = root_is s.given ∙ ap root_of (sym is.given_is) in
        twins_of dues.Nothing is key
        (subst (HasTwins file is.session.ended) (ap root_key (sym root) ∙ sym key_is)
        (root_lacks is.session is.history is.has pins (pins_are dues.Nothing is key pins was) (is.ended_is ∙ ended) is.due_is
        (λ kept. lacks (subst (IsKept pins) (sym root) kept))))

  -- ---- turns, one after the other

  -- turns lead there, and nothing else was given meanwhile
  pub record WentOn (a : ℕ) (s t : Session) (m n : Machine V R) : Type 0 where
    pub writes : Writes n a t
    pub beside : Beside a m n
    pub given : t.given ≡ s.given
    pub ended : t.ended ≡ s.ended

  module _ (v : Values V R) where
    pub due_opens : (s : Session) (step : Asked V) → IsDueStep v s step → IsNoOpening v step
    due_opens s asked.Reopen (dues.Claim, is, asks) = absurd asks
    due_opens s asked.Reopen (dues.Seal kind, is, asks) = absurd asks
    due_opens s asked.Reopen (dues.Nothing, is, asks) = absurd asks
    due_opens s step due = tt

    pub turns_on : (a : ℕ) (xs : List (Stepped V)) (s t : Session) (m n : Machine V R) → AreTurns v a xs s t → Run v xs m n → a < length m.parts → Writes m a s
        → WentOn a s t m n
    turns_on a [] s t m n is run within w = record {
      writes = subst (λ (x : Machine V R). Writes x a t) (sym run) (subst (Writes m a) (sym is) w);
      beside = beside_here a m n run;
      given = ap (λ (x : Session). x.given) is;
      ended = ap (λ (x : Session). x.ended) is;
    }
    turns_on a (x ∷ xs) s t m n (actor, due, (answer, told, more)) (mid, (legal, run)) within w =
        let d = told_ok x.answer answer told in
        let own : Legal v (record { actor = a; asked = x.asked; answer = Ok d.0 }) m mid =
        subst (λ (b : ℕ). Legal v (record { actor = b; asked = x.asked; answer = Ok d.0 }) m mid) actor
        (subst (λ (r : Result Done Refusal). Legal v (record { actor = x.actor; asked = x.asked; answer = r }) m mid) d.1 legal) in
        let one = turned v a s m mid within w x.asked d.0 answer due (ap answer_of (sym d.1) ∙ told)
        (does_of v a x.asked d.0 m mid (due_opens s x.asked due) own) in
        let rest = turns_on a xs (record s { answers = s.answers ++ answer ∷ [] }) t mid n more run
        (subst (λ (k : ℕ). a < k) (sym one.1.many) within) one.0 in
        record { writes = rest.writes; beside = beside_on a m mid n one.1 rest.beside; given = rest.given; ended = rest.ended }

    -- a segment lacks a pin only while it runs
    lacks_by : (state : RunState V) (a : ℕ) (step : Asked V) (key : List ℕ) (m n : Machine V R) → ByState v state a step (Err (refusals.Unpinned key)) m n
        → RefusesOn v a step (refusals.Unpinned key) m n
    lacks_by Running a step key m n (right, on) = on
    lacks_by (Stopped other stores) a step key m n (is, same) = absurd (cc)

    pub lacks_of : (a : ℕ) (step : Asked V) (key : List ℕ) (m n : Machine V R) → IsNoOpening v step
        → Legal v (record { actor = a; asked = step; answer = Err (refusals.Unpinned key) }) m n → RefusesOn v a step (refusals.Unpinned key) m n
    lacks_of a step key m n none legal = lacks_by m.state a step key m n (by_state v a step (Err (refusals.Unpinned key)) m n none legal)

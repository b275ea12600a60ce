-- None of the steps of a run lacks a pin, where no two different nodes have one digest.
use Rattle.std.proofs.Common.{◌≡◌, ◌<◌, ℕ, List, [], ◌∷◌, ◌++◌, length, Option, Some, Result, Ok, Err, refl, sym, ap, ◌∙◌, subst, arith, append_assoc}
use mathlib.Core.Logic.{dite}
use native.Mathlib.Decide.{ℕ_discrete}
use Rattle.std.specs.List.{AllByRecursion, Contains}
use Rattle.std.proofs.lemmas.List.{append-nil}
use Rattle.sha2.specs.Sha256.{sha256}
use Rattle.merkle_file.specs.Node.{spelling}
use Rattle.container_meta.specs.declared.kind.Kind.{Kind}
use Rattle.container_meta.specs.Segments.{Contents, KindSegment}
use Rattle.disk_format.specs.Cells.{Root}
use Rattle.actor_parts.specs.declared.actor.TheConstants.{ACTORS}
use Rattle.actor_parts.specs.declared.step.Answer.{Answer}
use Rattle.actor_parts.specs.Asking.{Ask}
use Rattle.actor_parts.specs.StepValue as steps
use Rattle.actor_parts.specs.StepValue.{IsStep, StepValue}
use Rattle.load_stream.specs.Load.{LoadState}
use Rattle.refusals.specs.declared.refusal.Refusal.{Refusal}
use Rattle.refusals.specs.declared.refusal.Refusal.TheVariants as refusals
use Rattle.ingest_session.specs.declared.due.Due.{Due}
use Rattle.ingest_session.specs.declared.due.Due.TheVariants as dues
use Rattle.ingest_session.specs.Due.{due_in, offered_in}
use Rattle.ingest_session.specs.History.{History}
use Rattle.ingest_session.specs.Moving.{IsOffered}
use Rattle.ingest_session.specs.State.{SessionState}
use Rattle.ingest_session.proofs.Ends.{all_is_kept}
use Rattle.store_model.specs.Collisions.{ByteSet, HasNoCollisions, IsIn}
use Rattle.store_model.specs.Pieces.{Data, IsPieceOf, Node, Piece, piece_bytes, piece_key}
use Rattle.store_model.specs.Refusals.{root_key}
use Rattle.store_model.specs.Trees.{root_of}
use Rattle.store_core.specs.Runs.{FileEvent, RunsOn, events_of}
use Rattle.store_core.specs.State.{CoreState, Event}
use Rattle.session_turns.specs.Kinds.{OthersStay}
use Rattle.session_turns.specs.Owning.{IsAskedFor}
use Rattle.store_machine.specs.ByMap.{FileMachine}
use Rattle.store_machine.specs.Legal.{Answers}
use Rattle.store_machine.specs.Machine.{RunState, part_in}
use Rattle.store_machine.specs.Needs.{IsKept}
use Rattle.store_machine.specs.Offers.{first_unkept_in}
use Rattle.store_machine.specs.Twins.{HasTwins, PiecesAreTwins}
use Rattle.store_machine.specs.Values.{StaysAt, of_files}
use Rattle.store_machine.proofs.Lacking.{claim_twins, root_twins, seal_twins}
use Rattle.core_machine.specs.Files.{FilesRefine, FitsBy, IsAtFiles, stored_in}
use Rattle.core_machine.specs.Refines.{answered_by}
use Rattle.ingest_workers.specs.Giving.{Begun, Given, Gives, SessionOf, Turned}
use Rattle.ingest_workers.specs.Ingesting.{ask_of, asks_of}
use Rattle.ingest_workers.specs.Owing.{AreAllOwed, AreOwed, IsDueOf, IsOfStream, IsOwed, IsReadyOf, OwedRunsAreRight, stream_of}
use Rattle.ingest_workers.proofs.Rightly.{owed_at, own_first, ready_done}
use Rattle.ingest_workers.proofs.Ingesting.{none_last, snoc_parts}
use Rattle.shared_work.specs.Clashing.{IsNodeOf}
use Rattle.shared_work.specs.Pinning.{IsPinned, NoneLacksPin}
use Rattle.shared_work.specs.Streams.{HasAllSegments}
use Rattle.shared_work.proofs.Clashing.{follow, more, whole}
use Rattle.shared_work.proofs.ClashingRuns.{asks_append}
use Rattle.shared_work.proofs.CompleteLeaves.{ask}
use Rattle.shared_work.proofs.CompleteSteps.{first_asked, not_asked}
use Rattle.shared_work.proofs.EachStep.{Moment, each_step}
use Rattle.shared_work.proofs.Pinning.{Keeps, PinnedBy, begins, kept_beside, many_parts, same_pins, turned, untold_pinned}
use Rattle.shared_work.proofs.Complete.{one_at}

-- ---- lists

nothing_given : (file : LoadState) (earlier gave : List Ask) (h : History) → [] ≡ earlier ++ gave → Gives file gave h → ⊥
nothing_given file earlier gave h is (Begun a step done) = none_last earlier a is
nothing_given file earlier gave h is (Given rest g k giving untold) = nothing_given file earlier rest g is giving
nothing_given file earlier gave h is (Turned rest a x g answer giving of settled due told) = none_last (earlier ++ rest) a (is ∙ sym (append_assoc earlier rest (a ∷ [])))

-- ---- pieces of one key

same_digest : (a b : ℕ) (xs ys : List ℕ) → a ∷ xs ≡ b ∷ ys → xs ≡ ys
same_digest a b xs ys is = cc

first_same : (a b : ℕ) (xs ys : List ℕ) → a ∷ xs ≡ b ∷ ys → a ≡ b
first_same a b xs ys is = cc

-- ---- what is due, and what is ready

same_some : {X : Type 0} (x y : X) → ◌≡◌ {A = Option X} (Some x) (Some y) → x ≡ y
same_some x y is = cc

not_read : (rest after : List (List ℕ)) (key : List ℕ) → StaysAt rest (refusals.Unpinned key) after → ⊥
not_read [] after key is = is
not_read (bytes ∷ rest) after key is = is

module _ {C : Type 0} (state : C → CoreState) (among : ByteSet) (no_data : HasNoCollisions (IsIn among)) (own : ℕ → List LoadState)
    (segments : HasAllSegments own (IsIn among)) (no_nodes : HasNoCollisions (IsNodeOf own)) (es : List Event) (new : C)
    (each : AllByRecursion (λ e. IsStep e.step × (e.actor < ACTORS)) es) (owed : AreAllOwed own es) (others_stay : OthersStay C state) where
  -- ---- no two pieces of a file have one key

  module _ (actor : ℕ) (file : LoadState) (there : Contains (own actor) file) where
    same_bytes : (p q : Piece) (key : List ℕ) → IsPieceOf (stream_of file) p → IsPieceOf (stream_of file) q → key ≡ piece_key p → key ≡ piece_key q → piece_bytes p ≡ piece_bytes q
    same_bytes (Data a) (Data b) key one two one_key two_key =
        no_data a b (segments actor file a there one) (segments actor file b there two) (same_digest 0 0 (sha256 a) (sha256 b) (sym one_key ∙ two_key))
    same_bytes (Node n) (Node m) key one two one_key two_key =
        no_nodes (spelling n) (spelling m) (actor, file, there, (n, (one, refl))) (actor, file, there, (m, (two, refl)))
        (same_digest 1 1 (sha256 (spelling n)) (sha256 (spelling m)) (sym one_key ∙ two_key))
    same_bytes (Data a) (Node m) key one two one_key two_key = absurd (omega (arith, first_same 0 1 (sha256 a) (sha256 (spelling m)) (sym one_key ∙ two_key)))
    same_bytes (Node n) (Data b) key one two one_key two_key = absurd (omega (arith, first_same 1 0 (sha256 (spelling n)) (sha256 b) (sym one_key ∙ two_key)))

    no_twins : (s : SessionState) (h : History) → SessionOf file s h → (key : List ℕ) → HasTwins h.given s.ended key → ⊥
    no_twins s h of key twins =
        let t : PiecesAreTwins (stream_of file) key =
        subst (λ (l : List ℕ). PiecesAreTwins l key) (whole file s h of) (twins.whole (more file s h of) (follow file s h of)) in
        t.differ (same_bytes t.one t.other key t.one_of t.other_of t.one_key t.other_key)

  -- ---- what holds as a step comes

  -- of each file that an actor has begun and not ended it has pinned what is kept
  abbrev pub Holds : List Event → FileMachine → C → Type 0
  Holds before m c = (actor : ℕ) (earlier gave : List Ask) (file : LoadState) (h : History) → asks_of actor before ≡ earlier ++ gave → Gives file gave h → Keeps m actor h

  module _ (before : List Event) (f : FileEvent) (fs : List FileEvent) (m n : FileMachine) (c d : C) (moment : Moment state own (IsIn among) es new before f fs m n c d)
      (holds : Holds before m c) where
    abbrev e : Event
    e = f.event

    within : e.actor < length m.parts
    within = subst (λ (k : ℕ). e.actor < k) (sym (many_parts (IsIn among) m n (state c) (state d) moment.machine moment.after ∙ at.is_at.many))
        (one_at (λ x. IsStep x.step × (x.actor < ACTORS)) before e (events_of fs)
        (subst (AllByRecursion (λ x. IsStep x.step × (x.actor < ACTORS))) moment.es_are each)).1
      where
        at : IsAtFiles (IsIn among) m (state c)
        at = subst (λ (s : RunState (List ℕ)). FitsBy s (IsIn among) m (state c)) moment.going moment.machine.fits

    -- ---- and after it

    abbrev Made : StepValue → Result Answer Refusal → Type 0
    Made step told = Answers of_files e.actor (ask f.bytes step) (answered_by told e.buf) m n

    made_as : (step : StepValue) (answer : Answer) → e.step ≡ step → e.answer ≡ Ok answer → Made step (Ok answer)
    made_as step answer is told = subst (λ (s : StepValue). Made s (Ok answer)) is (subst (Made e.step) told moment.answers)

    own_next : (file : LoadState) (earlier gave : List Ask) (h : History) → asks_of e.actor before ++ ask_of e ∷ [] ≡ earlier ++ gave → Gives file gave h → Keeps n e.actor h
    own_next file earlier gave h is (Begun a step done) =
        let same = (snoc_parts (asks_of e.actor before) earlier (ask_of e) a is).1 in
        begins e.actor f.bytes e.buf m n within done.0 (made_as steps.Begin done.0 (ap (λ (x : Ask). x.step) same ∙ step) (ap (λ (x : Ask). x.answer) same ∙ done.1))
    own_next file earlier gave h is (Given rest g k giving untold) =
        let keeps = own_next file earlier rest g is giving in
        record { pins = keeps.pins; is = keeps.is; pinned = untold_pinned g k keeps.pins untold keeps.pinned }
    own_next file earlier gave h is (Turned rest a x g answer giving of settled due told) =
        let parts = snoc_parts (asks_of e.actor before) (earlier ++ rest) (ask_of e) a (is ∙ sym (append_assoc earlier rest (a ∷ []))) in
        let step_is : e.step ≡ a.step = ap (λ (y : Ask). y.step) parts.1 in
        turned e.actor f.bytes e.buf m n within x g of.has (holds e.actor earlier rest file g parts.0 giving) a.step answer due
        (made_as a.step answer step_is (ap (λ (y : Ask). y.answer) parts.1 ∙ told))

    next_holds : Holds (before ++ e ∷ []) n d
    next_holds actor earlier gave file h asks gives = dite (ℕ_discrete e.actor actor)
        (λ mine.
        let all : asks_of e.actor before ++ ask_of e ∷ [] ≡ earlier ++ gave =
        sym (asks_append e.actor before (e ∷ []) ∙ ap (λ (l : List Ask). asks_of e.actor before ++ l) (first_asked e [] e.actor refl))
        ∙ ap (λ (a : ℕ). asks_of a (before ++ e ∷ [])) mine ∙ asks in
        subst (λ (a : ℕ). Keeps n a h) mine (own_next file earlier gave h all gives))
        (λ other.
        let all : asks_of actor before ≡ earlier ++ gave =
        sym (asks_append actor before (e ∷ []) ∙ ap (λ (l : List Ask). asks_of actor before ++ l) (not_asked e [] actor other) ∙ append-nil (asks_of actor before)) ∙ asks in
        kept_beside (IsIn among) m n (state c) (state d) moment.machine moment.after actor h (others_stay e c d actor moment.made.made (λ same. other (sym same)))
        (holds actor earlier gave file h all gives))

    -- ---- one that lacks a pin

    abbrev sofar : List Ask
    sofar = asks_of e.actor before

    asked_is : asks_of e.actor es ≡ sofar ++ ask_of e ∷ asks_of e.actor (events_of fs)
    asked_is = ap (asks_of e.actor) moment.es_are ∙ asks_append e.actor before (e ∷ events_of fs)
        ∙ ap (λ (l : List Ask). sofar ++ l) (own_first e (events_of fs))

    owes : IsOwed (own e.actor) sofar e.step
    owes = owed_at (own e.actor) [] sofar (ask_of e) (asks_of e.actor (events_of fs)) (subst (AreOwed (own e.actor) []) asked_is (owed e.actor))

    abbrev Lacks : StepValue → List ℕ → Type 0
    Lacks step key = Made step (Err (refusals.Unpinned key))

    claim_pinned : (seg : KindSegment) (key : List ℕ) → IsDueOf (own e.actor) sofar (steps.Claim seg) → Lacks (steps.Claim seg) key → ⊥
    claim_pinned seg key due (right, ((pins, was, lacks), others)) =
        let h : History = due.history in
        let s : SessionState = due.session in
        let keeps = holds e.actor due.giving.earlier due.giving.gave due.file h due.giving.before_is due.giving.gives in
        let same = same_pins keeps.pins pins (part_in m e.actor) keeps.is was in
        let asks = by (due_in s) refl due.due in
        no_twins e.actor due.file due.is_file s h due.giving.of_file key
        (claim_twins s h due.giving.of_file.has pins (subst (PinnedBy h) same keeps.pinned) due.settled asks.0 seg asks.1.is key lacks)
      where
        by : (d : Due) → due_in due.session ≡ d → IsAskedFor d due.session (steps.Claim seg) → (due_in due.session ≡ dues.Claim) × IsOffered due.session seg
        by dues.Claim is asks = (is, asks)
        by d is asks = absurd asks

    seal_pinned : (offered : List Contents) (key : List ℕ) → IsDueOf (own e.actor) sofar (steps.Seal offered) → Lacks (steps.Seal offered) key → ⊥
    seal_pinned offered key due (right, ((pins, was, lacks), others)) =
        let h : History = due.history in
        let s : SessionState = due.session in
        let keeps = holds e.actor due.giving.earlier due.giving.gave due.file h due.giving.before_is due.giving.gives in
        let same = same_pins keeps.pins pins (part_in m e.actor) keeps.is was in
        let asks = by (due_in s) due.due in
        no_twins e.actor due.file due.is_file s h due.giving.of_file key
        (seal_twins s h due.giving.of_file.has pins (subst (PinnedBy h) same keeps.pinned) asks.0 key
        (subst (λ (cs : List Contents). first_unkept_in cs pins ≡ Some key) asks.1 lacks))
      where
        by : (d : Due) → IsAskedFor d due.session (steps.Seal offered) → (kind : Kind) × (offered ≡ offered_in due.session kind)
        by (dues.Seal kind) asks = (kind, asks)
        by d asks = absurd asks

    commit_pinned : (name : List ℕ) (root : Root) (key : List ℕ) → IsReadyOf (own e.actor) sofar name root → IsOfStream (own e.actor) (steps.Commit name root) f.bytes
        → Lacks (steps.Commit name root) key → ⊥
    commit_pinned name root key is stream (right, (named, room, key_is, (pins, was, lacks), others)) =
        let h : History = is.history in
        let s : SessionState = is.session in
        let has = is.giving.of_file.has in
        let keeps = holds e.actor is.giving.earlier is.giving.gave is.file h is.giving.before_is is.giving.gives in
        let same = same_pins keeps.pins pins (part_in m e.actor) keeps.is was in
        let done = ready_done s.ended (due_in s) s.count s.top root is.ready in
        let root_is : root_of h.given ≡ root_of f.bytes =
        same_some (root_of h.given) root (sym (all_is_kept s h has done.0 done.1).root ∙ is.ready) ∙ stream.3 in
        no_twins e.actor is.file is.is_file s h is.giving.of_file (root_key (root_of h.given))
        (root_twins s h has pins (subst (PinnedBy h) same keeps.pinned) done.0 done.1 (λ kept. lacks (subst (IsKept pins) root_is kept)))

    none_lacks : (step : StepValue) (key : List ℕ) → IsOwed (own e.actor) sofar step → IsOfStream (own e.actor) step f.bytes → Lacks step key → ⊥
    none_lacks (steps.Claim seg) key owes_it stream is = claim_pinned seg key owes_it is
    none_lacks (steps.Seal offered) key owes_it stream is = seal_pinned offered key owes_it is
    none_lacks (steps.Commit name root) key owes_it stream is = commit_pinned name root key owes_it stream is
    none_lacks steps.ReadNext key owes_it stream (right, (value, rest, after, was, stays, others)) = not_read rest after key stays
    none_lacks other key owes_it stream is = is.1

    is_pinned : (step : StepValue) (answer : Result Answer Refusal) → IsOwed (own e.actor) sofar step → IsOfStream (own e.actor) step f.bytes → Made step answer → IsPinned answer
    is_pinned step (Err (refusals.Unpinned key)) owes_it stream is = none_lacks step key owes_it stream is
    is_pinned step (Ok answer) owes_it stream is = tt
    is_pinned step (Err refusal) owes_it stream is = tt

    pub goes : IsPinned e.answer × Holds (before ++ e ∷ []) n d
    goes = (is_pinned e.step e.answer owes moment.stream moment.answers, next_holds)

-- ---- the law

module _ {C : Type 0} (state : C → CoreState) (refine : FilesRefine C state) (runs_on : RunsOn C state) (others_stay : OthersStay C state)
    (rightly : OwedRunsAreRight C state) where
  pub none_lacks_pin : NoneLacksPin C state
  none_lacks_pin among own es m old new distinct segments up machine going each run owed no_nodes =
      let right = rightly among own es m.store (stored_in m.now) old new distinct segments at.is_at at.settled each run owed in
      let start : Holds state among distinct own segments no_nodes es new each owed others_stay [] m old =
      λ actor earlier gave file h is gives. absurd (nothing_given file earlier gave h is gives) in
      subst (AllByRecursion (λ e. IsPinned e.answer)) right.events_are
      (each_step state refine runs_on among distinct own es new (λ e. IsPinned e.answer)
      (λ e. (λ answer told. subst IsPinned (sym told) tt, λ stopped. subst IsPinned (sym stopped.1) tt))
      (λ before rest. Holds state among distinct own segments no_nodes es new each owed others_stay before)
      (λ before f fs k n c d moment holds. goes state among distinct own segments no_nodes es new each owed others_stay before f fs k n c d moment holds)
      [] right.files m old (sym right.events_are) up machine going right.of_streams right.run start)
    where
      at : IsAtFiles (IsIn among) m (state old)
      at = subst (λ (s : RunState (List ℕ)). FitsBy s (IsIn among) m (state old)) going machine.fits

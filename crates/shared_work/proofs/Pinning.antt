-- All that is kept of a file its actor has pinned, whatever others do.
use Rattle.std.proofs.Common.{◌≡◌, inl, inr, ◌<◌, ℕ, suc, List, [], ◌∷◌, ◌++◌, length, slice_get, take, Some, Ok, refl, sym, ap, ◌∙◌, subst}
use Rattle.std.specs.FinMap as finite
use Rattle.disk_format.specs.Cells.{Root}
use Rattle.merkle_file.specs.declared.top.Top.{Top}
use Rattle.container_meta.specs.declared.kind.Kind.{Kind}
use Rattle.container_meta.specs.Segments.{Contents, KindSegment, Segment, segment_key}
use Rattle.actor_parts.specs.declared.part.Part.{Part as CorePart}
use Rattle.actor_parts.specs.declared.part.Part.TheVariants as core
use Rattle.actor_parts.specs.declared.step.Answer.{Answer}
use Rattle.actor_parts.specs.declared.step.Answer.TheVariants as answers
use Rattle.actor_parts.specs.Parts.{part_of}
use Rattle.actor_parts.specs.PinMap.{PinMap}
use Rattle.actor_parts.specs.Segments.{pin_of}
use Rattle.actor_parts.specs.StepValue as steps
use Rattle.actor_parts.specs.StepValue.{StepValue}
use Rattle.ingest_session.specs.declared.due.Due.{Due}
use Rattle.ingest_session.specs.declared.due.Due.TheVariants as dues
use Rattle.ingest_session.specs.Due.{due_in, item_kind, offered_in, segments_of_all}
use Rattle.ingest_session.specs.Facts.{IsKept}
use Rattle.ingest_session.specs.History.{History, HasHistory, answered, no_history}
use Rattle.ingest_session.specs.Items.{item_of}
use Rattle.ingest_session.specs.Moving.{IsOffered}
use Rattle.ingest_session.specs.State.{SessionState, turn_node}
use Rattle.ingest_session.proofs.KeptPieces.{held_kept, item_in, item_is, kept_absent, kept_held, kept_sealed, kept_still, of_kind, one_item, sealed_kept}
use Rattle.ingest_session.proofs.Members.{all_of, in_none}
use Rattle.ingest_session.proofs.SealsSome.{offer_kinds}
use Rattle.ingest_session.proofs.Waiting.{session_of}
use Rattle.store_core.specs.State.{CoreState}
use Rattle.session_turns.specs.Owning.{IsAskedFor, IsUntold}
use Rattle.store_machine.specs.ByMap.{FileMachine}
use Rattle.store_machine.specs.Forgetting.{SamePart as SameRoot, SameParts as SameRoots}
use Rattle.store_machine.specs.Legal.{Answers}
use Rattle.store_machine.specs.Machine.{Idle, Part, Reading, Writing, part_in}
use Rattle.store_machine.specs.Offers.{AddsContainers, AllSegments}
use Rattle.store_machine.specs.Values.{of_files}
use Rattle.store_machine.proofs.OfOneKind.{AreOf, all_taken, each_of, one_of_all}
use Rattle.store_machine.proofs.Parts.{part_at}
use Rattle.store_machine.proofs.Pins.{HasPinOf, last_pin, next_pin, pin_still, pins_come, pins_stay, with_pins_in}
use Rattle.store_machine.proofs.Writers.{puts}
use Rattle.core_machine.specs.Files.{IsFileMachine}
use Rattle.core_machine.specs.Refines.{SamePart, SameParts, answered_by}
use Rattle.shared_work.proofs.CompleteLeaves.{ask}
use Rattle.shared_work.proofs.CompleteSteps.{core_at}

-- ---- by what was done with a session

-- the key of each segment that is kept has the pin of one that is
abbrev pub PinnedBy : History → PinMap → Type 0
PinnedBy h pins = (kind : Kind) (x : Segment) → IsKept h kind x → HasPinOf (IsKept h) pins (segment_key kind x)

pub none_pinned : PinnedBy no_history finite.empty
none_pinned kind x is = absurd (in_none x is)

pub untold_pinned : (h k : History) (pins : PinMap) → IsUntold h k → PinnedBy h pins → PinnedBy k pins
untold_pinned h k pins untold pinned kind x is = pin_still (IsKept h) (IsKept k) pins (segment_key kind x) to (pinned kind x (from kind x is))
  where
    same : (kind : Kind) → k.held kind ++ k.sealed kind ≡ h.held kind ++ h.sealed kind
    same kind =
        ap (λ (f : Kind → List Segment). f kind ++ k.sealed kind) untold.held ∙ ap (λ (f : Kind → List Segment). h.held kind ++ f kind) untold.sealed

    from : (kind : Kind) (x : Segment) → IsKept k kind x → IsKept h kind x
    from kind x is = subst (λ (l : List Segment). (i : ℕ) × (slice_get l i ≡ Some x)) (same kind) is

    to : (kind : Kind) (x : Segment) → IsKept h kind x → IsKept k kind x
    to kind x is = subst (λ (l : List Segment). (i : ℕ) × (slice_get l i ≡ Some x)) (sym (same kind)) is

module _ (s : SessionState) (h : History) (pins : PinMap) (pinned : PinnedBy h pins) where
  -- what was kept is pinned still
  still : (answer : Answer) (kind : Kind) (x : Segment) → IsKept h kind x → HasPinOf (IsKept (answered answer s h)) pins (segment_key kind x)
  still answer kind x is =
      pin_still (IsKept h) (IsKept (answered answer s h)) pins (segment_key kind x) (λ k y kept. kept_still s h k y answer kept) (pinned kind x is)

  absent : PinnedBy (answered answers.Absent s h) pins
  absent kind x is = still answers.Absent kind x (kept_absent s h kind x is)

  held : (seg : KindSegment) → IsOffered s seg → PinnedBy (answered answers.Held s h) (finite.insert pins (segment_key seg.kind seg.segment) (pin_of seg))
  held seg offered kind x is = elim (kept_held s h kind x is) [
    | inl was ↦ next_pin (IsKept (answered answers.Held s h)) seg.kind seg.segment mine pins (segment_key kind x) (still answers.Held kind x was)
    | inr item ↦
        let one = one_item s kind x item in
        let same : of_kind kind x ≡ seg = ap (λ (k : Kind). of_kind k x) one.0 ∙ ap (of_kind (item_kind (turn_node s))) one.1 ∙ sym seg_is in
        last_pin (IsKept (answered answers.Held s h)) seg.kind seg.segment mine pins (segment_key kind x) (ap (λ (y : KindSegment). segment_key y.kind y.segment) (sym same))
  ]
    where
      seg_is : seg ≡ of_kind (item_kind (turn_node s)) (item_of (turn_node s) s.queue)
      seg_is = item_is (turn_node s) s.queue seg offered.is

      mine : IsKept (answered answers.Held s h) seg.kind seg.segment
      mine = subst (λ (y : KindSegment). IsKept (answered answers.Held s h) y.kind y.segment) (sym seg_is)
          (held_kept s h (item_kind (turn_node s)) (item_of (turn_node s) s.queue) (item_in s))

  sealed : (id count : ℕ) (mine : Kind) → HasHistory s h → due_in s ≡ dues.Seal mine
      → PinnedBy (answered (answers.Sealed id count) s h) (with_pins_in (take count (offered_in s mine)) pins)
  sealed id count mine has due kind x is = elim (kept_sealed s h kind x id count mine due is) [
    | inl was ↦ pins_stay K taken pins (segment_key kind x) all (still (answers.Sealed id count) kind x was)
    | inr now ↦
        subst (λ (k : Kind). HasPinOf K (with_pins_in taken pins) (segment_key k x)) (sym now.0)
        (one_of_all (λ k y. HasPinOf K (with_pins_in taken pins) (segment_key k y)) mine taken same_kinds (pins_come K taken pins all) x now.1)
  ]
    where
      K : Kind → Segment → Type 0
      K = IsKept (answered (answers.Sealed id count) s h)

      taken : List Contents
      taken = take count (offered_in s mine)

      same_kinds : AreOf mine taken
      same_kinds = all_taken (λ c. c.kind ≡ mine) count (offered_in s mine) (offer_kinds s mine (session_of s h has))

      all : AllSegments K taken
      all = each_of K mine taken same_kinds (all_of (K mine) (segments_of_all taken) (λ y there. sealed_kept s h mine y id count due there))

-- ---- in the machine

-- the actor writes, and has pinned what is kept
pub record Keeps (m : FileMachine) (a : ℕ) (h : History) : Type 0 where
  pub pins : PinMap
  pub is : part_in m a ≡ Writing pins
  pub pinned : PinnedBy h pins

pub same_pins : (one other : PinMap) (p : Part (List ℕ) (List (List ℕ))) → p ≡ Writing one → p ≡ Writing other → one ≡ other
same_pins one other p is too = let both : Writing one ≡ Writing other = sym is ∙ too in cc

-- containers that are sealed, one after the other
added : (a : ℕ) (cs : List Contents) (m n : FileMachine) → a < length m.parts → (pins : PinMap) → part_in m a ≡ Writing pins → AddsContainers a cs m n
    → part_in n a ≡ Writing (with_pins_in cs pins)
added a [] m n within pins was is = ap (λ (x : FileMachine). part_in x a) is ∙ was
added a (c ∷ cs) m n within pins was (mid, one, rest) =
    let put = puts a _ m mid (ap (λ (x : FileMachine). x.parts) one.others) in
    let now = put.here within ∙ ap (λ (p : PinMap). Writing (with_pins_in (c ∷ []) p)) (same_pins one.pins pins (part_in m a) one.writing was) in
    added a cs mid n (subst (λ (k : ℕ). a < k) (sym put.many) within) (with_pins_in (c ∷ []) pins) now rest

module _ (a : ℕ) (bytes buf : List ℕ) (m n : FileMachine) (within : a < length m.parts) where
  abbrev Made : StepValue → Answer → Type 0
  Made step answer = Answers of_files a (ask bytes step) (answered_by (Ok answer) buf) m n

  pub begins : (answer : Answer) → Made steps.Begin answer → Keeps n a no_history
  begins answers.Begun (idle, others) = record {
    pins = finite.empty;
    is = (puts a (Writing finite.empty) m n (ap (λ (x : FileMachine). x.parts) others)).here within;
    pinned = none_pinned;
  }
  begins answer is = absurd is

  module _ (s : SessionState) (h : History) (has : HasHistory s h) (keeps : Keeps m a h) where
    turned_by : (due : Due) (step : StepValue) (answer : Answer) → due_in s ≡ due → IsAskedFor due s step → Made step answer → Keeps n a (answered answer s h)
    turned_by dues.Claim (steps.Claim seg) answers.Held due_is offered is =
        let pins_are = same_pins is.may.pins keeps.pins (part_in m a) is.may.writing keeps.is in record {
          pins = finite.insert keeps.pins (segment_key seg.kind seg.segment) (pin_of seg);
          is = (puts a _ m n (ap (λ (x : FileMachine). x.parts) is.others)).here within
              ∙ ap (λ (p : PinMap). Writing (finite.insert p (segment_key seg.kind seg.segment) (pin_of seg))) pins_are;
          pinned = held s h keeps.pins keeps.pinned seg offered;
        }
    turned_by dues.Claim (steps.Claim seg) answers.Absent due_is offered (may, lacks, others) = record {
      pins = keeps.pins;
      is = ap (λ (x : FileMachine). part_in x a) others ∙ keeps.is;
      pinned = absent s h keeps.pins keeps.pinned;
    }
    turned_by (dues.Seal mine) (steps.Seal offered) (answers.Sealed id count) due_is offered_is is = record {
      pins = with_pins_in (take count (offered_in s mine)) keeps.pins;
      is = added a (take count offered) m n within keeps.pins keeps.is is.adds ∙ ap (λ (cs : List Contents). Writing (with_pins_in (take count cs) keeps.pins)) offered_is;
      pinned = sealed s h keeps.pins keeps.pinned id count mine has due_is;
    }
    turned_by dues.Claim (steps.Claim seg) answer due_is offered is = absurd is
    turned_by (dues.Seal mine) (steps.Seal offered) answer due_is offered_is is = absurd is
    turned_by due step answer due_is asks is = absurd asks

    pub turned : (step : StepValue) (answer : Answer) → IsAskedFor (due_in s) s step → Made step answer → Keeps n a (answered answer s h)
    turned step answer asks is = turned_by (due_in s) step answer refl asks is

-- ---- beside the steps of others, as the core has it

many_roots : (ps : List (Part (List ℕ) (List (List ℕ)))) (qs : List (Part Root (List Top))) → SameRoots ps qs → length ps ≡ length qs
many_roots [] [] same = refl
many_roots [] (q ∷ qs) same = absurd same
many_roots (p ∷ ps) [] same = absurd same
many_roots (p ∷ ps) (q ∷ qs) same = ap suc (many_roots ps qs same.1)

many_core : (ps : List (Part Root (List Top))) (qs : List CorePart) → SameParts ps qs → length ps ≡ length qs
many_core [] [] same = refl
many_core [] (q ∷ qs) same = absurd same
many_core (p ∷ ps) [] same = absurd same
many_core (p ∷ ps) (q ∷ qs) same = ap suc (many_core ps qs same.1)

writing_core : (p : Part (List ℕ) (List (List ℕ))) (q : Part Root (List Top)) (r : CorePart) (pins : PinMap)
    → SameRoot p q → SamePart q r → p ≡ Writing pins → r ≡ core.Writing pins
writing_core Idle q r pins one two is = absurd (let wrong : ◌≡◌ {A = Part (List ℕ) (List (List ℕ))} Idle (Writing pins) = is in cc)
writing_core (Reading file rest) q r pins one two is = absurd (let wrong : ◌≡◌ {A = Part (List ℕ) (List (List ℕ))} (Reading file rest) (Writing pins) = is in cc)
writing_core (Writing own) Idle r pins one two is = absurd one
writing_core (Writing own) (Reading root rest) r pins one two is = absurd one
writing_core (Writing own) (Writing others) core.Idle pins one two is = absurd two
writing_core (Writing own) (Writing others) (core.Reading reader) pins one two is = absurd two
writing_core (Writing own) (Writing others) (core.Writing third) pins one two is = ap core.Writing (two ∙ one ∙ same)
  where
    same : own ≡ pins
    same = let both : ◌≡◌ {A = Part (List ℕ) (List (List ℕ))} (Writing own) (Writing pins) = is in cc

writing_back : (p : Part (List ℕ) (List (List ℕ))) (q : Part Root (List Top)) (r : CorePart) (pins : PinMap)
    → SameRoot p q → SamePart q r → r ≡ core.Writing pins → p ≡ Writing pins
writing_back p q core.Idle pins one two is = absurd (let wrong : core.Idle ≡ core.Writing pins = is in cc)
writing_back p q (core.Reading reader) pins one two is = absurd (let wrong : core.Reading reader ≡ core.Writing pins = is in cc)
writing_back p Idle (core.Writing third) pins one two is = absurd two
writing_back p (Reading root rest) (core.Writing third) pins one two is = absurd two
writing_back Idle (Writing others) (core.Writing third) pins one two is = absurd one
writing_back (Reading file rest) (Writing others) (core.Writing third) pins one two is = absurd one
writing_back (Writing own) (Writing others) (core.Writing third) pins one two is = ap Writing (sym one ∙ sym two ∙ same)
  where
    same : third ≡ pins
    same = let both : core.Writing third ≡ core.Writing pins = is in cc

module _ (S : List ℕ → Type 0) (m n : FileMachine) (c d : CoreState) (machine : IsFileMachine S m c) (after : IsFileMachine S n d) where
  pub many_parts : length m.parts ≡ length c.parts
  many_parts = many_roots m.parts machine.roots.parts machine.forgets.parts ∙ many_core machine.roots.parts c.parts machine.machine.parts

  pub kept_beside : (a : ℕ) (h : History) → part_of d.parts a ≡ part_of c.parts a → Keeps m a h → Keeps n a h
  kept_beside a h same keeps = record {
    pins = keeps.pins;
    is = writing_back (part_in n a) (part_in after.roots a) (part_of d.parts a) keeps.pins (part_at n.parts after.roots.parts a after.forgets.parts)
        (core_at after.roots.parts d.parts a after.machine.parts)
        (same ∙ writing_core (part_in m a) (part_in machine.roots a) (part_of c.parts a) keeps.pins (part_at m.parts machine.roots.parts a machine.forgets.parts)
        (core_at machine.roots.parts c.parts a machine.machine.parts) keeps.is);
    pinned = keeps.pinned;
  }

-- Turns that a core made, as steps since an actor began a file, given right.
use Rattle.session_turns.proofs.Prelude.{◌≡◌, ◌⊎◌, inl, inr, ℕ, Bool, List, [], ◌∷◌, ◌++◌, Some, None, Result, Ok, Err, refl, sym, subst, append_assoc, AllByRecursion, Answer, StepValue, Kind, Leaf, Tree, Contents, KindSegment, Segment, Refusal, Memory, Due, due_in, offered_in, in_none, one_of, all_of, of_kind, History, HasHistory, answered, turn_of, turn_node, IsItem, IsOffered, SessionState, ByteSet, HasPieceOf, IsPieceOf, Data, Node, FileEvent, FileStep, CoreState, IsAskedFor, IsPaused, IsRefusedTurn, TurnRun, Asks}
use Rattle.std.proofs.lemmas.List.{append-nil}
use Rattle.std.specs.Prelude.{zero, suc, Option}
use Rattle.merkle_file.specs.Node as node
use Rattle.actor_parts.specs.StepValue as steps
use Rattle.ingest_session.specs.declared.due.Due.TheVariants as dues
use Rattle.ingest_session.specs.Due.{segments_of_all}
use Rattle.ingest_session.specs.Facts.{MayFollow}
use Rattle.ingest_session.proofs.Facts.{turns_are_pieces}
use Rattle.ingest_session.proofs.KeptPieces.{data_piece}
use Rattle.ingest_session.proofs.Members.{IsIn as IsOneOf, in_left, in_right}
use Rattle.ingest_session.proofs.Offered.{offered_are_pieces}
use Rattle.ingest_session.proofs.SealsSome.{offer_kinds}
use Rattle.ingest_session.proofs.Waiting.{session_of}
use Rattle.store_model.specs.Collisions.{IsAmong, IsIn}
use Rattle.store_core.specs.Runs.{FileRun, AreAmong}
use Rattle.session_turns.specs.Owning.{Beside, Given, StepsOfTurns, Ingests, IngestsBeside, IsCutOf, StoppedTurnsAreSteps, Turned, TurnsAreSteps}
use Rattle.store_core.specs.State.{IsRunning}
use Rattle.session_turns.specs.Turns.{core_does}
use Rattle.session_turns.proofs.TurnRuns.{turn_stays}

-- what is offered is a piece of the file
offered_piece : (file : List ℕ) (n : Option node.Contents) (queue : List (List ℕ)) (seg : KindSegment) → IsItem n queue seg → AllByRecursion (IsPieceOf file) (turn_of n queue) →
    HasPieceOf file seg
offered_piece file (Some n) queue seg is all = (Node n, all.0, is)
offered_piece file None [] seg is all = absurd is
offered_piece file None (x ∷ xs) seg is all = (Data x, all.0, is)

-- what a container has is among what all of them have
in_all : (cs : List Contents) (c : Contents) (y : Segment) → IsOneOf c cs → IsOneOf y c.segments → IsOneOf y (segments_of_all cs)
in_all [] c y there is = absurd (in_none c there)
in_all (d ∷ ds) c y (zero, there) is =
    let same : d ≡ c = cc in
    in_left d.segments (segments_of_all ds) y (subst (λ (x : Contents). IsOneOf y x.segments) (sym same) is)
in_all (d ∷ ds) c y (suc i, there) is = in_right d.segments (segments_of_all ds) y (in_all ds c y (i, there) is)

-- ---- what a session claims and seals are pieces of each file that goes on from what it took

module _ (S : List ℕ → Type 0) (x : SessionState) (h : History) (has : HasHistory x h) (cut : (bytes : List ℕ) → IsCutOf h.given x.ended bytes → S bytes) where
  abbrev Each : KindSegment → Type 0
  Each seg = (more : List ℕ) → MayFollow more x → HasPieceOf (h.given ++ more) seg

  are_among : (kind : Kind) (y : Segment) → Each (of_kind kind y) → IsAmong S kind y.bytes
  are_among Leaf y each = cut y.bytes (λ more may. (data_piece (h.given ++ more) y (each more may)).0)
  are_among Tree y each = tt

  pub claim_among : (seg : KindSegment) → IsOffered x seg → IsAmong S seg.kind seg.segment.bytes
  claim_among seg offered =
      are_among seg.kind seg.segment (λ more may. offered_piece (h.given ++ more) (turn_node x) x.queue seg offered.is (turns_are_pieces x h more has may))

  pub seal_among : (kind : Kind) → AreAmong S (offered_in x kind)
  seal_among kind = all_of (λ c. AllByRecursion (λ y. IsAmong S c.kind y.bytes) c.segments) (offered_in x kind)
      (λ c there. all_of (λ y. IsAmong S c.kind y.bytes) c.segments (λ y is. subst (λ (k : Kind). IsAmong S k y.bytes)
      (sym (one_of (λ d. d.kind ≡ kind) (offered_in x kind) c (offer_kinds x kind (session_of x h has)) there))
      (are_among kind y (λ more may. one_of (λ z. HasPieceOf (h.given ++ more) (of_kind kind z)) (segments_of_all (offered_in x kind)) y
      (offered_are_pieces x h more has may kind) (in_all (offered_in x kind) c y there is)))))

-- ---- a step that is due

-- it was made, and given right
record IsMade (S : List ℕ → Type 0) (actor : ℕ) (x : SessionState) (result : Result Answer Refusal) (old new : CoreState) : Type 0 where
  event : FileEvent
  actor_is : event.event.actor ≡ actor
  is_due : IsAskedFor (due_in x) x event.event.step
  answer_is : event.event.answer ≡ result
  step : FileStep S event old new

abbrev event_of : ℕ → StepValue → Result Answer Refusal → List ℕ → FileEvent
event_of actor step result buf = record { event = record { actor = actor; step = step; answer = result; buf = buf }; bytes = [] }

module _ (S : List ℕ → Type 0) (actor : ℕ) (x : SessionState) (h : History) (has : HasHistory x h) (cut : (bytes : List ℕ) → IsCutOf h.given x.ended bytes → S bytes)
    (result : Result Answer Refusal) (old new : CoreState) where
  made_by : (due : Due) → due_in x ≡ due → Asks actor due x result old new → IsMade S actor x result old new
  made_by dues.Claim is asks = record {
    event = event_of actor (steps.Claim asks.0) result asks.1;
    actor_is = refl;
    is_due = subst (λ (d : Due). IsAskedFor d x (steps.Claim asks.0)) (sym is) asks.2;
    answer_is = refl;
    step = record { asked = asks.2.right; given = claim_among S x h has cut asks.0 asks.2; made = asks.3 };
  }
  made_by (dues.Seal kind) is asks = record {
    event = event_of actor (steps.Seal (offered_in x kind)) result asks.0;
    actor_is = refl;
    is_due = subst (λ (d : Due). IsAskedFor d x (steps.Seal (offered_in x kind))) (sym is) refl;
    answer_is = refl;
    step = record { asked = asks.1; given = seal_among S x h has cut kind; made = asks.3 };
  }
  made_by dues.Nothing is asks = absurd asks

  is_made : Asks actor (due_in x) x result old new → IsMade S actor x result old new
  is_made asks = made_by (due_in x) refl asks

-- ---- turns, one after the other

module _ (C : Type 0) (state : C → CoreState) (among : ByteSet) (actor : ℕ) where
  abbrev S : List ℕ → Type 0
  S = IsIn among

  abbrev IsCut : History → SessionState → Type 0
  IsCut h x = (bytes : List ℕ) → IsCutOf h.given x.ended bytes → S bytes

  abbrev Goes : List FileEvent → List ℕ → SessionState → C → C → Type 0
  Goes fs given t old new = StepsOfTurns (λ steps. FileRun C state S steps old new) actor fs given t

  cut_still : (h k : History) (x y : SessionState) → k.given ≡ h.given → y.ended ≡ x.ended → IsCut h x → IsCut k y
  cut_still h k x y given ended cut bytes is = cut bytes (subst (λ (g : List ℕ). IsCutOf g x.ended bytes) given (subst (λ (b : Bool). IsCutOf k.given b bytes) ended is))

  module _ (fs : List FileEvent) (h : History) (s t : SessionState) (has : HasHistory s h) (pause : IsPaused s t) where
    abbrev placed : History
    placed = record h { placed = h.placed ++ (pause.places h has).0 }

    paused_has : HasHistory t placed
    paused_has = (pause.places h has).1

    paused_cut : IsCut h s → IsCut placed t
    paused_cut cut = cut_still h placed s t refl pause.keeps.ended cut

    paused_ingests : Ingests actor fs h → Ingests actor fs placed
    paused_ingests so = Given fs h placed so (record { held = refl; absent = refl; sealed = refl; answers = refl })

  -- none is left
  rests : (fs : List FileEvent) (h : History) (s : SessionState) (c d : C) → HasHistory s h → Ingests actor fs h → d ≡ c → Goes fs h.given s c d
  rests fs h s c d has so same = record {
    steps = [];
    own = tt;
    run = same;
    history = h;
    has = has;
    given_is = refl;
    ingests = subst (λ (gs : List FileEvent). Ingests actor gs h) (sym (append-nil fs)) so;
  }

  -- one, and then others
  goes_then : (fs : List FileEvent) (f : FileEvent) (given : List ℕ) (t : SessionState) (old mid new : C) → f.event.actor ≡ actor → FileStep S f (state old) (state mid)
      → Goes (fs ++ f ∷ []) given t mid new → Goes fs given t old new
  goes_then fs f given t old mid new own step rest = record {
    steps = f ∷ rest.steps;
    own = (own, rest.own);
    run = (mid, (step, rest.run));
    history = rest.history;
    has = rest.has;
    given_is = rest.given_is;
    ingests = subst (λ (gs : List FileEvent). Ingests actor gs rest.history) (append_assoc fs (f ∷ []) rest.steps) rest.ingests;
  }

  -- there was no memory for another turn, or it was refused
  stops : (refusal : Refusal) (fs : List FileEvent) (h : History) (s t : SessionState) (core new : C) → IsCut h s → HasHistory s h → Ingests actor fs h
      → ((refusal ≡ Memory) × IsPaused s t × (new ≡ core)) ⊎ IsRefusedTurn actor refusal s t (state core) (state new) → Goes fs h.given t core new
  stops refusal fs h s t core new cut has so (inl none) =
      rests fs (placed fs h s t has none.1) t core new (paused_has fs h s t has none.1) (paused_ingests fs h s t has none.1 so) none.2
  stops refusal fs h s t core new cut has so (inr refused) =
      let there = paused_has fs h s t has refused.0 in
      let now = placed fs h s t has refused.0 in
      let made = is_made S actor t now there (paused_cut fs h s t has refused.0 cut) (Err refusal) (state core) (state new) refused.2 in
      goes_then fs made.event h.given t core new new made.actor_is made.step
      (rests (fs ++ made.event ∷ []) now t new new there
      (Beside fs made.event now (paused_ingests fs h s t has refused.0 so) (inr (inl (refusal, made.answer_is)))) refl)

  -- after turns it goes on as it does from there
  module _ (given : List ℕ) (mid : SessionState) (t : SessionState) (core new : C)
      (last : (fs : List FileEvent) (h : History) → h.given ≡ given → IsCut h mid → HasHistory mid h → Ingests actor fs h → Goes fs given t core new) where
    go : (answers : List Answer) (fs : List FileEvent) (h : History) (s : SessionState) (old : C) → h.given ≡ given → IsCut h s → HasHistory s h → Ingests actor fs h
        → TurnRun C state actor answers s mid old core → Goes fs given t old new
    go [] fs h s old is cut has so run =
        subst (λ (c : C). Goes fs given t c new) run.1
        (last fs (placed fs h s mid has run.0) is (paused_cut fs h s mid has run.0 cut) (paused_has fs h s mid has run.0) (paused_ingests fs h s mid has run.0 so))
    go (answer ∷ answers) fs h s old is cut has so run =
        let turn = run.2 in
        let there = paused_has fs h s turn.before has turn.paused in
        let now = placed fs h s turn.before has turn.paused in
        let here = paused_cut fs h s turn.before has turn.paused cut in
        let made = is_made S actor turn.before now there here (Ok answer) (state old) (state run.1) turn.asks in
        let then = answered answer turn.before now in
        goes_then fs made.event given t old run.1 new made.actor_is made.step
        (go answers (fs ++ made.event ∷ []) then run.0 run.1 is (cut_still h then s run.0 refl
        (turn_stays (IsRunning (state run.1)) (core_does actor (state old) (state run.1)) answer s run.0 turn).ended cut)
        (turn.history now there)
        (Turned fs made.event turn.before now answer (paused_ingests fs h s turn.before has turn.paused so) there
        (record { actor_is = made.actor_is; is_due = made.is_due; answer_is = made.answer_is }))
        run.3)

-- ---- steps of others

pub ingests_beside : IngestsBeside
ingests_beside actor fs [] h so all = subst (λ (gs : List FileEvent). Ingests actor gs h) (sym (append-nil fs)) so
ingests_beside actor fs (g ∷ gs) h so all =
    subst (λ (all : List FileEvent). Ingests actor all h) (append_assoc fs (g ∷ []) gs) (ingests_beside actor (fs ++ g ∷ []) gs h (Beside fs g h so all.0) all.1)

-- ---- the laws

module _ (C : Type 0) (state : C → CoreState) where
  pub turns_are_steps : TurnsAreSteps C state
  turns_are_steps among fs actor answers s t h old new cut has so run =
      go C state among actor h.given t t new new (λ gs k is cut_now has_now so_now.
      subst (λ (g : List ℕ). StepsOfTurns (λ steps. FileRun C state (IsIn among) steps new new) actor gs g t) is
      (rests C state among actor gs k t new new has_now so_now refl)) answers fs h s old refl cut has so run

  pub stopped_turns_are_steps : StoppedTurnsAreSteps C state
  stopped_turns_are_steps among fs actor refusal s t h old new cut has so stopped =
      go C state among actor h.given stopped.1 t stopped.2 new
      (λ gs k is cut_now has_now so_now. subst (λ (g : List ℕ). StepsOfTurns (λ steps. FileRun C state (IsIn among) steps stopped.2 new) actor gs g t) is
      (stops C state among actor refusal gs k stopped.1 t stopped.2 new cut_now has_now so_now stopped.4)) stopped.0 fs h s old refl cut has so stopped.3

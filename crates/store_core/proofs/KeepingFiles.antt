-- A core that isn't stopped has the stored of the commits that it acknowledged, and its invariant holds.
use Rattle.store_core.proofs.Prelude.{some_same, ◌≡◌, ◌⊎◌, inl, inr, ℕ, List, [], ◌∷◌, ◌++◌, Option, Some, None, Result, Ok, Err, refl, sym, ◌∙◌, subst, ap, suc, length, arith, AllByRecursion, Root, Delete, Put, IsLater, OnlyReads, ending, ending_of, StandsFor, stands_reads, Kind, PlaceMap, Segment, KindSegment, Part, Idle, Answer, IsStepSegment, AreStepSegments, StepValue, IsStep, Refusal, HasNoCollisions, ByteSet, IsIn, IsAmong, Stands, Stored, with_stored, without_stored, Store, IsValidFor, last_sequence, names_of, HasFree, HasKey, IsPartialIndexOf, HasReserve, free_reserve, reached_less, reached_put, AnyKey, StoreChange, ChangeName, KeepsCopies, changed, with_change, Tables, CoreInvariant, HoldsPart, IndexesFiles, blames, Represents, Runs, last_changed, Stop, IndexesAll, Row, Effect, Rests, SealsSome, KeepsTables, StopsAfter, StepsOr, next_id, FileEvent, FileStep, FileRun, IsAt, ChangesTo, changes_by, events_of, IsGivenRight, stored_with, stored_by, IsNoGcStep, IsSafeIn, CoreState, IsUnderWayIn, ACTORS, Collection, Collects, KeepsBoth, Known, apart}
use Rattle.dd_disk.specs.Moves.{Moved, Arrives, Ends}
use Rattle.container_meta.specs.declared.kind.Kind.TheVariants as kind
use Rattle.container_meta.specs.Segments.{Contents}
use Rattle.actor_parts.specs.declared.step.Answer.TheVariants as answers
use Rattle.actor_parts.specs.Parts.{part_of}
use Rattle.actor_parts.specs.StepValue as asked
use Rattle.refusals.specs.declared.refusal.Refusal.TheVariants as refusals
use Rattle.store_model.specs.Files as files
use Rattle.store_model.specs.Steps.{MaySeal}
use Rattle.store_state.proofs.Parts.{part_kept, parts_kept}
use Rattle.std.specs.Prelude.{◌+◌, take}
use Rattle.actor_parts.specs.Offers.{AreStepContents, sealed_of}
use Rattle.store_model.specs.Slots.{free_slots}
use Rattle.store_model.specs.Together.{Placed, with_all}
use Rattle.store_state.specs.Tables.{closed_from}
use Rattle.ingest_steps.specs.Offering.{in_free, offer_in}
use Rattle.ingest_steps.specs.SealingAll.{KeepsAllHeld, MayAllSeal, sealing_all}
use Rattle.store_core.specs.Runs.{AreAmong}
use Rattle.store_core.specs.Core.{AreSealed, Makes, changed_by, seals_from}
use Rattle.store_core.proofs.CoreRuns.{runs_before, core_run}
use Rattle.store_core.proofs.OwnParts.{all_part, all_own, own_begin, own_claim, own_abort, own_open, own_read, own_drop, own_set, own_stat, own_unique, own_list, own_refused}
use Rattle.store_core.proofs.Stepping.{ChangesOne, row_one}
use Rattle.store_core.proofs.RootsKept.{abort_none, begin_none, end_none, list_none, open_none, read_none, stat_none, unique_none}
use Rattle.store_core.proofs.SafeSteps.{IsSafeFor, begun_safe, claim_safe, committed_safe, deleted_safe, none_rested, runs_alone, sealed_safe_in, start_parts, still_rested, unchanged_safe, unsealed_safe}
use Rattle.store_core.proofs.RunningOn.{seal_kept, sealed_first, sealed_some, under_way_on}
use Rattle.store_core.proofs.ManySealed.{all_sealed, all_taken, may_placed, rest_on, room_left}

-- where a step leads, by these changes
pub record Next (S : List ℕ → Type 0) (s : Store) (changes : List StoreChange) (stored : Stored) (old new : CoreState) : Type 0 where
  pub store : Store
  pub chain : ChangesTo changes s store
  pub is_at : IsAt S store stored new

-- where no collection makes it, what the index had it has, and its newest copies go on
pub record NextOn (S : List ℕ → Type 0) (s : Store) (changes : List StoreChange) (stored : Stored) (old new : CoreState) : Type 0 where
  pub next : Next S s changes stored old new
  pub keys : (first then : PlaceMap) → old.known ≡ Some first → new.known ≡ Some then → (key : List ℕ) → HasKey first key → HasKey then key
  pub copies : (first : PlaceMap) (before after : List ℕ) → old.known ≡ Some first → old.disk.content ≡ Some before → new.disk.content ≡ Some after
      → KeepsCopies (HasKey first) s before next.store after
  pub whole : IndexesAll s old.known → IndexesAll next.store new.known

-- ---- what a step leads to

module _ (S : List ℕ → Type 0) (store : Store) (stored : Stored) (new : CoreState) where
  -- from what the tables are, what each image is, and what the actors are at
  pub arrive : (places : PlaceMap) → HasReserve (HasKey places) store.held → HasFree store.held → Represents store new.known new.tables → new.known ≡ Some places
      → IsValidFor new.disk.size store → StandsFor (Stands S store stored.files) new.disk
      → new.tables.journal.last ≡ stored.last → IndexesFiles places stored.files
      → ((image : List ℕ) → new.disk.content ≡ Some image → AllByRecursion (HoldsPart (HasKey places) store.held image) new.parts)
      → length new.parts ≡ ACTORS → IsUnderWayIn new.tables.held new.collection → IsSafeFor places store stored new → IsAt S store stored new
  arrive places reserve free represents known valid stands last files_indexed parts many under_way safe = record {
    represents = represents;
    index = places;
    index_known = known;
    valid = valid;
    stands = stands;
    last_is = last;
    invariant = core;
    many = many;
    under_way = under_way;
    safe = λ image told. safe image told (core image told) (stands.each image (new.disk.as_read image told)).holds;
  }
    where
      core : Known new.disk.content (CoreInvariant places store stored.files new.parts)
      core image told = record {
        index_is_newest = represents.index_is_newest places known;
        files_are_indexed = files_indexed;
        pins_are_closed = parts image told;
        reserve_holds = reserve;
        has_free = free;
      }

module _ (among : ByteSet) (s : Store) (stored : Stored) (old new : CoreState) (actor : ℕ) (at : IsAt (IsIn among) s stored old) (one : ChangesOne actor old.parts new.parts)
    (under_way : IsUnderWayIn new.tables.held new.collection) where
  abbrev content : List ℕ
  content = at.stands.known.0

  abbrev told : old.disk.content ≡ Some content
  told = at.stands.known.1

  abbrev invariant : CoreInvariant at.index s stored.files old.parts content
  invariant = at.invariant content told

  abbrev hold : AllByRecursion (HoldsPart (HasKey at.index) s.held content) old.parts
  hold = invariant.pins_are_closed

  free : HasFree s.held
  free = (at.invariant content told).has_free

  -- all are held, where the actor of the step is
  pub all_hold : (then : PlaceMap) (t : Store) (after : List ℕ) → ((key : List ℕ) → HasKey at.index key → HasKey then key) → KeepsCopies (HasKey at.index) s content t after
      → HoldsPart (HasKey then) t.held after (part_of new.parts actor) → AllByRecursion (HoldsPart (HasKey then) t.held after) new.parts
  all_hold then t after keys keeps own =
      let P : List ℕ → Type 0 = HasKey then in
      subst (AllByRecursion (HoldsPart P t.held after)) (sym one.parts_are)
      (all_own (HoldsPart P t.held after) old.parts actor one.part (parts_kept (HasKey at.index) P s t content after keeps keys old.parts hold)
      (subst (λ (parts : List Part). HoldsPart P t.held after (part_of parts actor)) one.parts_are own))

  same_index : (first : PlaceMap) → old.known ≡ Some first → at.index ≡ first
  same_index first is = some_same at.index first (sym at.index_known ∙ is)

  kept_keys : KeepsTables old new → (first then : PlaceMap) → old.known ≡ Some first → new.known ≡ Some then → (key : List ℕ) → HasKey first key → HasKey then key
  kept_keys kept first then is after key has = subst (λ (m : PlaceMap). HasKey m key) (some_same first then (sym is ∙ sym kept.index_is ∙ after)) has

  kept_whole : KeepsTables old new → IndexesAll s old.known → IndexesAll s new.known
  kept_whole kept whole = subst (IndexesAll s) (sym kept.index_is) whole

  same_tables : KeepsTables old new → Represents s new.known new.tables
  same_tables kept =
      subst (λ (known : Option PlaceMap). Represents s known new.tables) (sym kept.index_is)
      (subst (λ (tables : Tables). Represents s old.known tables) (sym kept.tables_are) at.represents)

  same_last : KeepsTables old new → new.tables.journal.last ≡ stored.last
  same_last kept = ap (λ (tables : Tables). tables.journal.last) kept.tables_are ∙ at.last_is

  many_here : length new.parts ≡ ACTORS
  many_here = ap length one.parts_are ∙ apart.as_many old.parts actor one.part ∙ at.many

  -- a step that only reads
  pub rests : KeepsTables old new → OnlyReads old.disk new.disk → HoldsPart (HasKey at.index) s.held content (part_of new.parts actor) → IsSafeFor at.index s stored new
      → NextOn (IsIn among) s [] stored old new
  rests kept reads own safe = record {
    next = record {
      store = s;
      chain = refl;
      is_at = arrive (IsIn among) s stored new at.index invariant.reserve_holds free (same_tables kept) (kept.index_is ∙ at.index_known)
          (subst (λ (size : ℕ). IsValidFor size s) (sym reads.later.size_is) at.valid) (stands_reads (Stands (IsIn among) s stored.files) old.disk new.disk at.stands reads)
          (same_last kept) invariant.files_are_indexed
          (λ image is. let same : content ≡ image = some_same content image (sym told ∙ sym reads.content_is ∙ is) in
          subst (λ (bytes : List ℕ). AllByRecursion (HoldsPart (HasKey at.index) s.held bytes) new.parts) same
          (all_hold at.index s content (λ key has. has) (λ key level bytes counts has. has) own)) many_here under_way safe;
    };
    keys = kept_keys kept;
    copies = λ first before after is is_before is_after. let same : before ≡ after = some_same before after (sym is_before ∙ sym reads.content_is ∙ is_after) in
        subst (λ (bytes : List ℕ). KeepsCopies (HasKey first) s before s bytes) same (λ key level bytes counts has. has);
    whole = kept_whole kept;
  }

  -- a step after which each image is the same store
  pub still : KeepsTables old new → IsLater old.disk new.disk → StandsFor (Stands (IsIn among) s stored.files) new.disk
      → ((after : List ℕ) → new.disk.content ≡ Some after → KeepsCopies (HasKey at.index) s content s after × HoldsPart (HasKey at.index) s.held after (part_of new.parts actor))
      → IsSafeFor at.index s stored new
      → NextOn (IsIn among) s [] stored old new
  still kept goes stands keeps safe = record {
    next = record {
      store = s;
      chain = refl;
      is_at = arrive (IsIn among) s stored new at.index invariant.reserve_holds free (same_tables kept) (kept.index_is ∙ at.index_known)
          (subst (λ (size : ℕ). IsValidFor size s) (sym goes.size_is) at.valid) stands (same_last kept) invariant.files_are_indexed
          (λ image is. let kept_here = keeps image is in all_hold at.index s image (λ key has. has) kept_here.0 kept_here.1) many_here under_way safe;
    };
    keys = kept_keys kept;
    copies = λ first before after is is_before is_after. let same : content ≡ before = some_same content before (sym told ∙ is_before) in
        subst (λ (m : PlaceMap). KeepsCopies (HasKey m) s before s after) (same_index first is)
        (subst (λ (bytes : List ℕ). KeepsCopies (HasKey at.index) s bytes s after) same (keeps after is_after).0);
    whole = kept_whole kept;
  }

  -- a step that makes changes
  module _ (changes : List StoreChange) where
    abbrev after : Store
    after = changed_by changes s

    pub makes : (later : Stored) → last_sequence (changed_by changes s) ≡ later.last → Makes changes old new
        → ((then : PlaceMap) → new.known ≡ Some then → HasReserve (HasKey then) (changed_by changes s).held) → HasFree (changed_by changes s).held → IsLater old.disk new.disk
        → StandsFor (Stands (IsIn among) (changed_by changes s) later.files) new.disk
        → ((then : PlaceMap) → new.known ≡ Some then → IndexesFiles then stored.files → IndexesFiles then later.files)
        → ((then : PlaceMap) (image : List ℕ) → new.known ≡ Some then → new.disk.content ≡ Some image
        → KeepsCopies (HasKey at.index) s content (changed_by changes s) image × HoldsPart (HasKey then) (changed_by changes s).held image (part_of new.parts actor))
        → ((then : PlaceMap) → new.known ≡ Some then → IsSafeFor then (changed_by changes s) later new) → NextOn (IsIn among) s changes later old new
    makes later last made reserve free_then goes stands files_on keeps safe =
        let known = made.tells at.index at.index_known in
        let keys : (key : List ℕ) → HasKey at.index key → HasKey known.0 key = made.keeps_keys at.index at.index_known known.0 known.1 in
        let represents = made.represents.store_has s at.represents at.valid free in
        record {
          next = record {
            store = after;
            chain = made.can.store_has s at.represents at.valid free;
            is_at = arrive (IsIn among) after later new known.0 (reserve known.0 known.1) free_then represents known.1
                (made.valid.store_has s at.represents at.valid free) stands (represents.names_are.last_is ∙ last)
                (files_on known.0 known.1 (λ key need. keys key (invariant.files_are_indexed key need)))
                (λ image is. let kept = keeps known.0 image known.1 is in all_hold known.0 after image keys kept.0 kept.1) many_here under_way (safe known.0 known.1);
          };
          keys = λ first then is after_is key has. made.keeps_keys first is then after_is key has;
          copies = λ first before image is is_before is_after. let same : content ≡ before = some_same content before (sym told ∙ is_before) in
              subst (λ (m : PlaceMap). KeepsCopies (HasKey m) s before after image) (same_index first is)
              (subst (λ (bytes : List ℕ). KeepsCopies (HasKey at.index) s bytes after image) same (keeps known.0 image known.1 is_after).0);
          whole = λ whole. made.whole.store_has s at.represents at.valid free whole;
        }

-- ---- refusals that are no failed writes

module _ (old new : CoreState) (stays : new.stop ≡ None) where
  pub only_reads : (step : StepValue) (refusal : Refusal) → StopsAfter step (Err refusal) old.acknowledged new.stop → Ends OnlyReads (ending_of (blames refusal)) old.disk new.disk
      → OnlyReads old.disk new.disk
  only_reads step refusals.DiskWrite stops ends = absurd (let both = sym stays ∙ stops in cc)
  only_reads step refusals.DiskRead stops ends = ends
  only_reads step refusal stops ends = ends

-- ---- segments that may be sealed

may_seal : (S : List ℕ → Type 0) (k : Kind) (s : Segment) → IsStepSegment (record { kind = k; segment = s }) → IsAmong S k s.bytes → MaySeal S k s
may_seal S kind.Leaf s right among = record { of_kind = tt; among = among }
may_seal S kind.Tree s right among = record { of_kind = record { node = _; right = right.bytes.node; level_is = sym right.level; spelled = right.bytes.spelled }; among = tt }

may_seal_all : (S : List ℕ → Type 0) (k : Kind) (segments : List Segment) → AreStepSegments k segments → AllByRecursion (λ s. IsAmong S k s.bytes) segments
    → AllByRecursion (MaySeal S k) segments
may_seal_all S k [] right among = tt
may_seal_all S k (s ∷ ss) right among = (may_seal S k s right.0 among.0, may_seal_all S k ss right.1 among.1)

pub may_seal_each : (S : List ℕ → Type 0) (offered : List Contents) → AreStepContents offered → AreAmong S offered
    → AllByRecursion (λ c. AllByRecursion (MaySeal S c.kind) c.segments) offered
may_seal_each S [] right among = tt
may_seal_each S (c ∷ cs) right among = (may_seal_all S c.kind c.segments right.0 among.0, may_seal_each S cs right.1 among.1)

-- those for which there is room
pub may_offer : (S : List ℕ → Type 0) (t : Tables) (offered : List Contents) (s : Store) → AllByRecursion (λ c. AllByRecursion (MaySeal S c.kind) c.segments) offered
    → MayAllSeal S (offer_in t offered s)
may_offer S t offered s may =
    let n : ℕ = sealed_of (length offered) (free_slots s.held) t.held.last_id in
    may_placed S (closed_from 0 s.held) (t.held.last_id + 1) (take n offered)
    (all_taken (λ c. AllByRecursion (MaySeal S c.kind) c.segments) n offered may)

-- ---- each step

module _ (among : ByteSet) (s : Store) (stored : Stored) (old new : CoreState) (actor : ℕ) (buf bytes : List ℕ) (distinct : HasNoCollisions (IsIn among))
    (at : IsAt (IsIn among) s stored old) (stays : new.stop ≡ None) where
  abbrev image : List ℕ
  image = at.stands.known.0

  abbrev here : old.disk.content ≡ Some image
  here = at.stands.known.1

  abbrev stands_here : Stands (IsIn among) s stored.files image
  stands_here = at.stands.each image (old.disk.as_read image here)

  abbrev invariant_here : CoreInvariant at.index s stored.files old.parts image
  invariant_here = at.invariant image here

  abbrev holds : AllByRecursion (HoldsPart (HasKey at.index) s.held image) old.parts
  holds = invariant_here.pins_are_closed

  abbrev Own : Type 0
  Own = HoldsPart (HasKey at.index) s.held image (part_of new.parts actor)

  -- the last number of the store
  abbrev last_here : last_sequence s ≡ stored.last
  last_here = sym at.represents.names_are.last_is ∙ at.last_is

  abbrev newest_index : IsPartialIndexOf s.held at.index
  newest_index = at.represents.index_is_newest at.index at.index_known

  abbrev Goes : StepValue → Result Answer Refusal → Type 0
  Goes step answer = Row step actor answer buf old new → Effect step answer old new → Collects step answer old new → StopsAfter step answer old.acknowledged new.stop
      → IsStep step → IsGivenRight (IsIn among) step answer bytes old → NextOn (IsIn among) s (changes_by step answer) (stored_with step answer bytes stored) old new

  -- the tables alone run
  tables_run : Runs old.disk.size None old.tables
  tables_run = runs_alone (IsIn among) s stored old at

  goes_under_way : (step : StepValue) (answer : Result Answer Refusal) → Row step actor answer buf old new → Effect step answer old new → Collects step answer old new
      → IsUnderWayIn new.tables.held new.collection
  goes_under_way step answer row effect collects = under_way_on old new step actor answer buf row effect collects tables_run at.under_way

  -- what holds of the collection, where nothing but the parts changes
  rested_safe : (answer : Result Answer Refusal) → Rests answer old new → (IsSafeIn at.index s old.parts image old.collection → IsSafeIn at.index s new.parts image new.collection)
      → IsSafeFor at.index s stored new
  rested_safe answer effect safe after told core is_store =
      let same : image ≡ after = some_same image after (sym here ∙ sym effect.disk.only.content_is ∙ told) in
      subst (λ (bytes : List ℕ). IsSafeIn at.index s new.parts bytes new.collection) same (safe (at.safe image here))

  rests_by : (step : StepValue) (answer : Result Answer Refusal) → Row step actor answer buf old new → Rests answer old new → IsUnderWayIn new.tables.held new.collection
      → IsSafeFor at.index s stored new → Own
      → NextOn (IsIn among) s [] stored old new
  rests_by step answer row effect under_way safe own = rests among s stored old new actor at
      (row_one actor buf old new step answer row) under_way effect.tables effect.disk.only own safe

  -- nothing but the actor's part changes
  part_rests : (step : StepValue) (answer : Result Answer Refusal) → Row step actor answer buf old new → Rests answer old new → IsUnderWayIn new.tables.held new.collection
      → new.collection ≡ old.collection
      → ((c : Collection) → KeepsBoth at.index at.index s s old.parts new.parts image image c c) → Own → NextOn (IsIn among) s [] stored old new
  part_rests step answer row effect under_way same both own =
      rests_by step answer row effect under_way
      (rested_safe answer effect (unchanged_safe at.index at.index s s old.parts new.parts image image old.collection new.collection both same)) own

  begin_next : (answer : Result Answer Refusal) → Goes asked.Begin answer
  begin_next answer row effect collects stops right given =
      part_rests asked.Begin answer row effect (goes_under_way asked.Begin answer row effect collects) collects
      (none_rested among s stored old new actor buf at (begin_none (names_of s) old new actor buf at.represents.names_are.names_are at.many answer row))
      (own_begin among s stored.files image at.index actor buf old new here at.index_known newest_index invariant_here.files_are_indexed at.represents.names_are.names_are
      stands_here distinct holds answer row)

  claim_next : (seg : KindSegment) (answer : Result Answer Refusal) → Goes (asked.Claim seg) answer
  claim_next seg answer row effect collects stops right given =
      rests_by (asked.Claim seg) answer row effect (goes_under_way (asked.Claim seg) answer row effect collects)
      (claim_safe among s stored old new actor buf at seg answer row effect collects)
      (own_claim among s stored.files image at.index actor buf old new here at.index_known newest_index invariant_here.files_are_indexed at.represents.names_are.names_are
      stands_here distinct holds seg answer given row)

  abort_next : (answer : Result Answer Refusal) → Goes asked.Abort answer
  abort_next answer row effect collects stops right given =
      part_rests asked.Abort answer row effect (goes_under_way asked.Abort answer row effect collects) collects
      (none_rested among s stored old new actor buf at (abort_none (names_of s) old new actor buf at.represents.names_are.names_are at.many answer row))
      (own_abort among s stored.files image at.index actor buf old new here at.index_known newest_index invariant_here.files_are_indexed at.represents.names_are.names_are
      stands_here distinct holds answer row)

  open_next : (name : List ℕ) (answer : Result Answer Refusal) → Goes (asked.OpenRead name) answer
  open_next name answer row effect collects stops right given =
      part_rests (asked.OpenRead name) answer row effect (goes_under_way (asked.OpenRead name) answer row effect collects) collects
      (none_rested among s stored old new actor buf at (open_none (names_of s) old new actor buf at.represents.names_are.names_are at.many name answer row))
      (own_open among s stored.files image at.index actor buf old new here at.index_known newest_index invariant_here.files_are_indexed at.represents.names_are.names_are
      stands_here distinct holds name answer row)

  read_next : (answer : Result Answer Refusal) → Goes asked.ReadNext answer
  read_next answer row effect collects stops right given =
      part_rests asked.ReadNext answer row effect (goes_under_way asked.ReadNext answer row effect collects) collects
      (none_rested among s stored old new actor buf at (read_none (names_of s) old new actor buf at.represents.names_are.names_are at.many answer row))
      (own_read among s stored.files image at.index actor buf old new here at.index_known newest_index invariant_here.files_are_indexed at.represents.names_are.names_are
      stands_here distinct holds answer row)

  drop_next : (answer : Result Answer Refusal) → Goes asked.EndRead answer
  drop_next answer row effect collects stops right given =
      part_rests asked.EndRead answer row effect (goes_under_way asked.EndRead answer row effect collects) collects
      (none_rested among s stored old new actor buf at (end_none (names_of s) old new actor buf at.represents.names_are.names_are at.many answer row))
      (own_drop among s stored.files image at.index actor buf old new here at.index_known newest_index invariant_here.files_are_indexed at.represents.names_are.names_are
      stands_here distinct holds answer row)

  stat_next : (answer : Result Answer Refusal) → Goes asked.Stat answer
  stat_next answer row effect collects stops right given =
      part_rests asked.Stat answer row effect (goes_under_way asked.Stat answer row effect collects) collects
      (none_rested among s stored old new actor buf at (stat_none (names_of s) old new actor buf at.represents.names_are.names_are at.many answer row))
      (own_stat among s stored.files image at.index actor buf old new here at.index_known newest_index invariant_here.files_are_indexed at.represents.names_are.names_are
      stands_here distinct holds answer row)

  unique_next : (answer : Result Answer Refusal) → Goes asked.Unique answer
  unique_next answer row effect collects stops right given =
      part_rests asked.Unique answer row effect (goes_under_way asked.Unique answer row effect collects) collects
      (none_rested among s stored old new actor buf at (unique_none (names_of s) old new actor buf at.represents.names_are.names_are at.many answer row))
      (own_unique among s stored.files image at.index actor buf old new here at.index_known newest_index invariant_here.files_are_indexed at.represents.names_are.names_are
      stands_here distinct holds answer row)

  own_still : new.parts ≡ old.parts → Own
  own_still = own_refused among s stored.files image at.index actor buf old new here at.index_known newest_index invariant_here.files_are_indexed at.represents.names_are.names_are
      stands_here distinct holds

  -- containers
  module _ (offered : List Contents) (right : IsStep (asked.Seal offered)) (given : AreAmong (IsIn among) offered) where
    may_seal_offer : MayAllSeal (IsIn among) (offer_in old.tables offered s)
    may_seal_offer = may_offer (IsIn among) old.tables offered s (may_seal_each (IsIn among) offered right.1 given)

    pub seal_moves : (answer : Result Answer Refusal) → SealsSome offered answer old new
        → Moved (sealing_all (IsIn among) (offer_in old.tables offered s) s stored.files) (ending blames answer) old.disk new.disk
    seal_moves answer effect =
        effect.moves.moves among s stored.files at.index at.index_known at.represents invariant_here.files_are_indexed distinct may_seal_offer at.stands

    pub seal_holds : (answer : Result Answer Refusal) (after : List ℕ) → new.disk.content ≡ Some after → SealsSome offered answer old new
        → KeepsAllHeld (HasKey at.index) (ending blames answer) (offer_in old.tables offered s) s image after
    seal_holds answer after is effect =
        effect.moves.holds among s stored.files at.index image after at.index_known at.represents here is stands_here distinct may_seal_offer

  -- a refusal that is no failed write
  stands_still : OnlyReads old.disk new.disk ⊎ StandsFor (Stands (IsIn among) s stored.files) new.disk → StandsFor (Stands (IsIn among) s stored.files) new.disk
  stands_still (inl reads) = stands_reads (Stands (IsIn among) s stored.files) old.disk new.disk at.stands reads
  stands_still (inr stands) = stands

  seal_stands : (offered : List Contents) (refusal : Refusal) → StopsAfter (asked.Seal offered) (Err refusal) old.acknowledged new.stop
      → Arrives (sealing_all (IsIn among) (offer_in old.tables offered s) s stored.files) (ending_of (blames refusal)) old.disk new.disk
      → StandsFor (Stands (IsIn among) s stored.files) new.disk
  seal_stands offered refusals.DiskWrite stops arrives = absurd (let both = sym stays ∙ stops in cc)
  seal_stands offered refusals.DiskRead stops arrives = stands_still arrives
  seal_stands offered refusal stops arrives = stands_still arrives

  seal_copies : (offered : List Contents) (refusal : Refusal) (after : List ℕ) → StopsAfter (asked.Seal offered) (Err refusal) old.acknowledged new.stop
      → KeepsAllHeld (HasKey at.index) (ending_of (blames refusal)) (offer_in old.tables offered s) s image after → KeepsCopies AnyKey s image s after
  seal_copies offered refusals.DiskWrite after stops keeps = absurd (let both = sym stays ∙ stops in cc)
  seal_copies offered refusals.DiskRead after stops keeps = keeps
  seal_copies offered refusal after stops keeps = keeps

  -- those that were sealed
  module _ (offered : List Contents) (id count : ℕ) (row : AreSealed offered id count actor old new) (effect : SealsSome offered (Ok (answers.Sealed id count)) old new) where
    abbrev those : List StoreChange
    those = seals_from (next_id old) (take count offered)

    pub those_lead : ChangesTo (seals_from (next_id old) (take count offered)) s (changed_by (seals_from (next_id old) (take count offered)) s)
    those_lead = effect.made.can.store_has s at.represents at.valid invariant_here.has_free

    -- they are those of the offer for which there is room
    pub those_offered : offer_in old.tables offered s ≡ in_free (next_id old) (take count offered) s
    those_offered = ap (λ (n : ℕ). in_free (next_id old) (take n offered) s)
        (sym ((row.room old.disk.size old.known).store_has s at.represents at.valid invariant_here.has_free))

    pub those_with_all : with_all (offer_in old.tables offered s) s ≡ changed_by (seals_from (next_id old) (take count offered)) s
    those_with_all = ap (λ (ps : List Placed). with_all ps s) those_offered ∙ all_sealed (next_id old) (take count offered) s (changed_by those s) those_lead

  seal_next : (offered : List Contents) (answer : Result Answer Refusal) → Goes (asked.Seal offered) answer
  seal_next offered (Ok (answers.Sealed id count)) row effect collects stops right given =
      let changes : List StoreChange = seals_from (next_id old) (take count offered) in
      let after : Store = changed_by changes s in
      let lead = those_lead offered id count row effect in
      let with_those = those_with_all offered id count row effect in
      let moved = (seal_moves offered right given (Ok (answers.Sealed id count)) effect).arrives in
      let room = room_left (next_id old) (take count offered) s after (sealed_some offered id count actor old new row) lead in
      let copies = λ (bytes : List ℕ) (is : new.disk.content ≡ Some bytes).
      subst (λ (t : Store). KeepsCopies (HasKey at.index) s image t bytes) with_those
      (seal_holds offered right given (Ok (answers.Sealed id count)) bytes is effect).0 in
      let next : NextOn (IsIn among) s changes stored old new =
      makes among s stored old new actor at (row_one actor buf old new (asked.Seal offered) (Ok (answers.Sealed id count)) row)
      (goes_under_way (asked.Seal offered) (Ok (answers.Sealed id count)) row effect collects) changes stored
      (ap last_sequence (rest_on (next_id old) (take count offered) s after lead) ∙ last_here) effect.made
      (λ then then_is. free_reserve (HasKey then) after.held room) (omega (arith, room)) effect.disk.later
      (subst (λ (t : Store). StandsFor (Stands (IsIn among) t stored.files) new.disk) with_those moved) (λ then then_is files. files)
      (λ then bytes then_is is. (
        copies bytes is,
        subst (λ (t : Store). HoldsPart (HasKey then) t.held bytes (part_of new.parts actor)) with_those
            (row.kept among s stored.files at.index then image bytes at.index_known then_is at.represents here is stands_here distinct (may_seal_offer offered right given)
            (all_part (HoldsPart (HasKey at.index) s.held image) old.parts actor tt holds)),
      ))
      (λ then then_is bytes is core holds_now. sealed_safe_in among s stored old new actor buf at (take count offered) row.may.pins row.may.writing row.parts_are effect.made
      collects after lead then then_is bytes core holds_now (copies bytes is)) in
      subst (λ (n : ℕ). NextOn (IsIn among) s (seals_from n (take count offered)) stored old new) (sym (sealed_first offered id count actor old new row)) next
  seal_next offered (Err refusal) row effect collects stops right given =
      still among s stored old new actor at (row_one actor buf old new (asked.Seal offered) (Err refusal) row)
      (goes_under_way (asked.Seal offered) (Err refusal) row effect collects) (seal_kept old new stays offered refusal old.acknowledged stops effect.kept) effect.disk.later
      (seal_stands offered refusal stops (seal_moves offered right given (Err refusal) effect).arrives)
      (λ after is. let copies = seal_copies offered refusal after stops (seal_holds offered right given (Err refusal) after is effect) in
      let mine : KeepsCopies (HasKey at.index) s image s after = λ key level bytes counts has. copies key level bytes tt has in
      (mine, part_kept (HasKey at.index) (HasKey at.index) s s image after mine (λ key has. has) (part_of new.parts actor) (own_still row.1)))
      (λ after is core holds_now. let copies = seal_copies offered refusal after stops (seal_holds offered right given (Err refusal) after is effect) in
      unsealed_safe among s stored old new actor buf at offered refusal row collects after (λ key level bytes counts has. copies key level bytes tt has))
  seal_next offered answer row effect collects stops right given = absurd row

  -- where nothing changes
  refused_safe : OnlyReads old.disk new.disk → new.parts ≡ old.parts → new.collection ≡ old.collection → IsSafeFor at.index s stored new
  refused_safe reads parts same after told core holds_now =
      let bytes : image ≡ after = some_same image after (sym here ∙ sym reads.content_is ∙ told) in
      subst (λ (b : List ℕ). IsSafeIn at.index s new.parts b new.collection) bytes
      (unchanged_safe at.index at.index s s old.parts new.parts image image old.collection new.collection (still_rested among s stored old new actor buf at parts) same
      (at.safe image here))

  -- where the index is the same, the reserve is
  reserve_still : new.known ≡ old.known → (then : PlaceMap) → new.known ≡ Some then → HasReserve (HasKey then) s.held
  reserve_still same then is = subst (λ (m : PlaceMap). HasReserve (HasKey m) s.held) (some_same at.index then (sym at.index_known ∙ sym same ∙ is)) invariant_here.reserve_holds

  -- a name
  commit_next : (name : List ℕ) (root : Root) (answer : Result Answer Refusal) → Goes (asked.Commit name root) answer
  commit_next name root (Ok (answers.Committed sequence)) row effect collects stops right given =
      let tree = given.tree s at.represents in
      let moved = effect.moves.moves among s stored.files (files.Put name bytes) at.represents.names_are refl (ap Put given.root_is)
      (record { known = at.stands.known; each = λ c is. (at.stands.each c is, tree.each c is) }) in
      let copies = effect.copies s at.represents image here stands_here.holds.right in
      makes among s stored old new actor at (row_one actor buf old new (asked.Commit name root) (Ok (answers.Committed sequence)) row)
      (goes_under_way (asked.Commit name root) (Ok (answers.Committed sequence)) row effect collects) (ChangeName name (Put root) ∷ []) (with_stored stored name bytes)
      (last_changed name (Put root) s at.valid.follow ∙ ap suc last_here) effect.made (reserve_still effect.index) invariant_here.has_free effect.disk.later
      (subst (λ (r : Root). StandsFor (Stands (IsIn among) (with_change name (Put r) s) (with_stored stored name bytes).files) new.disk) (sym given.root_is) moved.arrives)
      (λ then then_is all. reached_put (HasKey then) stored.files all name bytes
      (λ key there. effect.made.keeps_keys at.index at.index_known then then_is key (given.indexed at.index at.index_known key there)))
      (λ then after then_is is. (
        (λ key level text counts has. subst (KeepsCopies AnyKey s image (with_change name (Put root) s))
            (some_same copies.0 after (sym copies.1 ∙ is)) copies.2 key level text tt has),
        subst (λ (parts : List Part). HoldsPart (HasKey then) s.held after (part_of parts actor)) (sym row.2)
            (own_set (HoldsPart (HasKey then) s.held after) old.parts actor Idle tt tt),
      ))
      (λ then then_is after is core holds_now. committed_safe among s stored old new actor buf at name root (row.0, refl, row.2, row.3) effect.index collects then then_is after
      (λ key level text counts has. subst (KeepsCopies AnyKey s image (with_change name (Put root) s))
      (some_same copies.0 after (sym copies.1 ∙ is)) copies.2 key level text tt has))
  commit_next name root (Err refusal) row effect collects stops right given =
      let reads = only_reads old new stays (asked.Commit name root) refusal stops effect.disk.ends in
      rests among s stored old new actor at (row_one actor buf old new (asked.Commit name root) (Err refusal) row)
      (goes_under_way (asked.Commit name root) (Err refusal) row effect collects) effect.kept
      reads (own_still row.1) (refused_safe reads row.1 collects)
  commit_next name root answer row effect collects stops right given = absurd row

  -- a name that is deleted
  delete_next : (name : List ℕ) (answer : Result Answer Refusal) → Goes (asked.Delete name) answer
  delete_next name (Ok (answers.Deleted sequence)) row effect collects stops right given =
      let moved = effect.moves.moves among s stored.files (files.Delete name) at.represents.names_are refl refl
      (record { known = at.stands.known; each = λ c is. (at.stands.each c is, tt) }) in
      let copies = effect.copies s at.represents image here stands_here.holds.right in
      makes among s stored old new actor at (row_one actor buf old new (asked.Delete name) (Ok (answers.Deleted sequence)) row)
      (goes_under_way (asked.Delete name) (Ok (answers.Deleted sequence)) row effect collects) (ChangeName name Delete ∷ []) (without_stored stored name)
      (last_changed name Delete s at.valid.follow ∙ ap suc last_here) effect.made (reserve_still effect.index) invariant_here.has_free effect.disk.later
      moved.arrives (λ then then_is all. reached_less (HasKey then) stored.files all name)
      (λ then after then_is is.
      let any = subst (KeepsCopies AnyKey s image (with_change name Delete s)) (some_same copies.0 after (sym copies.1 ∙ is)) copies.2 in
      let kept : KeepsCopies (HasKey at.index) s image (with_change name Delete s) after = λ key level text counts has. any key level text tt has in (
        kept,
        part_kept (HasKey at.index) (HasKey then) s (with_change name Delete s) image after kept (effect.made.keeps_keys at.index at.index_known then then_is)
            (part_of new.parts actor) (own_still row.2),
      ))
      (λ then then_is after is core holds_now. deleted_safe among s stored old new actor buf at name row.2 effect.index collects then then_is after
      (λ key level text counts has. subst (KeepsCopies AnyKey s image (with_change name Delete s)) (some_same copies.0 after (sym copies.1 ∙ is)) copies.2 key level text tt has))
  delete_next name (Err refusal) row effect collects stops right given =
      let reads = only_reads old new stays (asked.Delete name) refusal stops effect.disk.ends in
      rests among s stored old new actor at (row_one actor buf old new (asked.Delete name) (Err refusal) row)
      (goes_under_way (asked.Delete name) (Err refusal) row effect collects) effect.kept
      reads (own_still row.1) (refused_safe reads row.1 collects)
  delete_next name answer row effect collects stops right given = absurd row

  list_next : (answer : Result Answer Refusal) → Goes asked.ListNames answer
  list_next answer row effect collects stops right given =
      part_rests asked.ListNames answer row effect (goes_under_way asked.ListNames answer row effect collects) collects
      (none_rested among s stored old new actor buf at (list_none (names_of s) old new actor buf at.represents.names_are.names_are at.many answer row))
      (own_list among s stored.files image at.index actor buf old new here at.index_known newest_index invariant_here.files_are_indexed at.represents.names_are.names_are
      stands_here distinct holds answer row)

  -- a collection begins
  start_next : (percent : ℕ) (answer : Result Answer Refusal) → Goes (asked.GcStart percent) answer
  start_next percent answer row effect collects stops right given =
      rests_by (asked.GcStart percent) answer row effect (goes_under_way (asked.GcStart percent) answer row effect collects)
      (begun_safe among s stored old new actor buf at percent answer row effect) (own_still (start_parts among s stored old new actor buf at percent answer row))

  pub step_next : (step : StepValue) (answer : Result Answer Refusal) → IsNoGcStep step → Goes step answer
  step_next asked.Begin answer other = begin_next answer
  step_next (asked.Claim seg) answer other = claim_next seg answer
  step_next (asked.Seal offered) answer other = seal_next offered answer
  step_next (asked.Commit name root) answer other = commit_next name root answer
  step_next asked.Abort answer other = abort_next answer
  step_next (asked.OpenRead name) answer other = open_next name answer
  step_next asked.ReadNext answer other = read_next answer
  step_next asked.EndRead answer other = drop_next answer
  step_next (asked.Delete name) answer other = delete_next name answer
  step_next asked.ListNames answer other = list_next answer
  step_next (asked.GcStart percent) answer other = start_next percent answer
  step_next asked.GcStep answer other = absurd other
  step_next asked.Stat answer other = stat_next answer
  step_next asked.Unique answer other = unique_next answer

-- ---- a run

module _ (among : ByteSet) (distinct : HasNoCollisions (IsIn among)) where
  by_stop : (stop : Option Stop) (f : FileEvent) (s : Store) (stored : Stored) (old new : CoreState) → old.stop ≡ stop → StepsOr stop f.event old new → IsStep f.event.step
      → IsNoGcStep f.event.step
      → IsGivenRight (IsIn among) f.event.step f.event.answer f.bytes old → IsAt (IsIn among) s stored old → new.stop ≡ None
      → NextOn (IsIn among) s (changes_by f.event.step f.event.answer) (stored_by f stored) old new
  by_stop None f s stored old new is steps right other given at stays =
      step_next among s stored old new f.event.actor f.event.buf f.bytes distinct at stays f.event.step f.event.answer other steps.made.row steps.made.effect steps.collects
      steps.stops right given
  by_stop (Some stop) f s stored old new is steps right other given at stays = absurd (let both = sym stays ∙ steps.same.stop_is ∙ is in cc)

  -- a step that no collection makes
  pub file_step : (f : FileEvent) (s : Store) (stored : Stored) (old new : CoreState) → IsNoGcStep f.event.step → FileStep (IsIn among) f old new → IsAt (IsIn among) s stored old
      → new.stop ≡ None
      → NextOn (IsIn among) s (changes_by f.event.step f.event.answer) (stored_by f stored) old new
  file_step f s stored old new other step at stays = by_stop old.stop f s stored old new refl step.made step.asked other step.given at stays

module _ (C : Type 0) (state : C → CoreState) (among : ByteSet) where
  pub run_running : (steps : List FileEvent) (old new : C) → FileRun C state (IsIn among) steps old new → (state new).stop ≡ None → (state old).stop ≡ None
  run_running steps old new run stays = runs_before C state (events_of steps) old new (core_run C state (IsIn among) steps old new run) stays

pub chain_on : (first rest : List StoreChange) (s mid t : Store) → ChangesTo first s mid → ChangesTo rest mid t → ChangesTo (first ++ rest) s t
chain_on [] rest s mid t one two = subst (λ (u : Store). ChangesTo rest u t) one two
chain_on (change ∷ more) rest s mid t one two = (one.0, chain_on more rest (changed change s) mid t one.1 two)

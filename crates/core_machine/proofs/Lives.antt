-- Just the keys of which a predicate holds are live: what a step of the collection leaves of that, made or refused.
use Rattle.core_machine.proofs.Prelude.{◌≡◌, inl, inr, ℕ, List, ◌+◌, Option, None, Some, refl, sym, ◌∙◌, ap, subst, child_keys, Filter, Mark, Select, HoldsNode, IsWithin, filter_at, first_slot, is_old_slot, moment, IsSafe, IsSafeAt, SweepIsSafe, IsLive, Place, PlaceMap, IsLiveAt, Next, End, Flush, Release, Refusal, ByteSet, IsIn, Stored, Store, IsPartialIndexOf, node_key, at_moment, IsAt, CoreState, IsBelowLive, IsClosedAt, IsLiveAtStage, LivesJust}
use Rattle.std.specs.Prelude.{Contains}
use Rattle.gc_steps.specs.declared.collection.Collection.{Collection}
use Rattle.gc_steps.specs.declared.collection.Stage.{Stage}
use Rattle.gc_steps.specs.declared.collection.Stage.TheVariants.{Sweep}
use Rattle.gc_steps.specs.Stepping.{Keeps, StepsTo}
use Rattle.gc_steps.proofs.Needed.{live_tree}
use Rattle.gc_steps.proofs.Sparing.{within_scanned, within_some}
use Rattle.actor_parts.specs.declared.part.Part.{Part}
use Rattle.gc_sweep.specs.declared.sweep.Next.TheVariants.{Copy as CopyNext}
use Rattle.merkle_file.specs.Node as node
use Rattle.refusals.specs.declared.refusal.Refusal.TheVariants as refusals
use Rattle.store_model.specs.Slots.{Copy}
use Rattle.store_model.specs.Standing.{IsStoreOf}
use Rattle.core_machine.proofs.CollectNeeds.{needs_here}

-- the collection is the same, the index, and what reads give
pub lives_same : (P : List ℕ → Type 0) (store : Store) (old new : CoreState) (c : Collection) → new.known ≡ old.known → new.disk.content ≡ old.disk.content
    → LivesJust P store old c → LivesJust P store new c
lives_same P store old new c known_is content_is was = record {
  within = was.within;
  closed = λ image told. was.closed image (sym content_is ∙ told);
  all = λ index image known told. was.all index image (sym known_is ∙ known) (sym content_is ∙ told);
}

-- ---- a step of the collection

-- The children of each node that is held, and of whose key P holds, are such.
abbrev pub IsClosed : (List ℕ → Type 0) → Store → List ℕ → Type 0
IsClosed P store image = (n : node.Contents) (copy : Copy) → HoldsNode store.held image n copy → P (node_key n) → (key : List ℕ) → Contains (child_keys n) key → P key

-- as long as it marks, but nothing is asked from then on
pub closed_at : (P : List ℕ → Type 0) (store : Store) (image : List ℕ) (stage : Stage) → IsClosed P store image → IsClosedAt stage P store.held image
closed_at P store image (Mark level at) closed = closed
closed_at P store image (Filter at) closed = tt
closed_at P store image Select closed = tt
closed_at P store image Sweep closed = tt

-- What lies below a live key is live, once it has marked.
below_live : (index : PlaceMap) (store : Store) (parts : List Part) (image : List ℕ) (c : Collection) → SweepIsSafe index store parts image c → (key : List ℕ)
    → IsBelowLive index store.held image c.live key → IsLive index c.live key
below_live index store parts image c safe key is =
    live_tree store.held image index c.live safe.live_is_closed is.tree.whole is.root is.tree.right is.tree.is_held.tree_is_held is.tree.root_is is.is_live key is.there

pub below_at : (stage : Stage) (index : PlaceMap) (store : Store) (parts : List Part) (image : List ℕ) (c : Collection) → IsSafeAt stage index store parts image c
    → (key : List ℕ) → IsBelowLive index store.held image c.live key
    → IsLiveAtStage stage index store.held image c.live key
below_at (Mark level at) index store parts image c safe key is = is
below_at other index store parts image c safe key is = below_live index store parts image c safe key is

-- While it marks reads give the same, of the same store, and the index is the same.
abbrev pub IsSameIn : Store → Store → CoreState → CoreState → Stage → Type 0
IsSameIn store after old new (Mark level slot) = (new.disk.content ≡ old.disk.content) × (after ≡ store) × (new.known ≡ old.known)
IsSameIn store after old new stage = Unit {0}

module _ (P : List ℕ → Type 0) (among : ByteSet) (store after : Store) (stored : Stored) (old new : CoreState) (at : IsAt (IsIn among) store stored old) (content : List ℕ)
    (here : old.disk.content ≡ Some content)
    (later : PlaceMap) (image : List ℕ) (known : new.known ≡ Some later) (told : new.disk.content ≡ Some image) (c d : Collection) (lives : LivesJust P store old c)
    (more : (key : List ℕ) → IsLive at.index c.live key → IsLive later d.live key) where
  holds : IsStoreOf store stored.files content
  holds = needs_here (IsIn among) store stored old at content here

  partial : IsPartialIndexOf store.held at.index
  partial = (at.invariant content here).index_is_newest

  closed_here : (level slot : ℕ) → c.stage ≡ Mark level slot → IsClosed P store content
  closed_here level slot is = subst (λ (stage : Stage). IsClosedAt stage P store.held content) is (lives.closed content here)

  -- of what the index is then, and the content
  all_so : ((key : List ℕ) → P key → IsLiveAtStage d.stage later after.held image d.live key) → (index : PlaceMap) (bytes : List ℕ) → new.known ≡ Some index
      → new.disk.content ≡ Some bytes → (key : List ℕ) → P key
      → IsLiveAtStage d.stage index after.held bytes d.live key
  all_so each index bytes known_is told_is key needed =
      subst (λ (b : List ℕ). IsLiveAtStage d.stage index after.held b d.live key) (let same : image ≡ bytes = let both : Some image ≡ Some bytes = sym told ∙ told_is in cc in same)
      (subst (λ (i : PlaceMap). IsLiveAtStage d.stage i after.held image d.live key)
      (let same : later ≡ index = let both : Some later ≡ Some index = sym known ∙ known_is in cc in same) (each key needed))

  -- from a stage of marking it goes to any other
  marked : (level slot : ℕ) → c.stage ≡ Mark level slot → IsSameIn store after old new (Mark level slot) → IsWithin P d.live
      → ((key : List ℕ) → IsBelowLive later after.held image d.live key → IsLiveAtStage d.stage later after.held image d.live key) → LivesJust P after new d
  marked level slot is same within goes = record {
    within = within;
    closed = λ bytes told_is.
        subst (λ (s : Store). IsClosedAt d.stage P s.held bytes) (sym same.1)
        (closed_at P store bytes d.stage (subst (IsClosed P store) (same_content bytes told_is) (closed_here level slot is)));
    all = all_so (λ key needed. goes key (below key needed));
  }
    where
      same_content : (bytes : List ℕ) → new.disk.content ≡ Some bytes → content ≡ bytes
      same_content bytes told_is = let both : Some content ≡ Some bytes = sym here ∙ sym same.0 ∙ told_is in cc

      same_index : later ≡ at.index
      same_index = let both : Some later ≡ Some at.index = sym known ∙ same.2 ∙ at.index_known in cc

      was : (key : List ℕ) → P key → IsBelowLive at.index store.held content c.live key
      was key needed = subst (λ (stage : Stage). IsLiveAtStage stage at.index store.held content c.live key) is (lives.all at.index content at.index_known here key needed)

      below : (key : List ℕ) → P key → IsBelowLive later after.held image d.live key
      below key needed =
          let before = was key needed in
          subst (λ (s : Store). IsBelowLive later s.held image d.live key) (sym same.1)
          (subst (λ (b : List ℕ). IsBelowLive later store.held b d.live key) (same_content image told)
          (subst (λ (i : PlaceMap). IsBelowLive i store.held content d.live key) (sym same_index) (record {
            root = before.root;
            is_live = subst (λ (i : PlaceMap). IsLive i d.live before.root) same_index (more before.root before.is_live);
            tree = before.tree;
            there = before.there;
          })))

  -- the same keys are live, and it marks no more
  unmarked : (stage then : Stage) → c.stage ≡ stage → d.stage ≡ then → d.live ≡ c.live → ((bytes : List ℕ) → IsClosedAt then P after.held bytes)
      → ((key : List ℕ) → IsLiveAtStage stage at.index store.held content c.live key → IsLiveAtStage then later after.held image d.live key) → LivesJust P after new d
  unmarked stage then was is live_is closed on = record {
    within = subst (IsWithin P) (sym live_is) lives.within;
    closed = λ bytes told_is. subst (λ (s : Stage). IsClosedAt s P after.held bytes) (sym is) (closed bytes);
    all = all_so (λ key needed.
        subst (λ (s : Stage). IsLiveAtStage s later after.held image d.live key) (sym is)
        (on key (subst (λ (s : Stage). IsLiveAtStage s at.index store.held content c.live key) was (lives.all at.index content at.index_known here key needed))));
  }

  filters : (found : Option ℕ) (bytes : List ℕ) → IsClosedAt (filter_at found) P after.held bytes
  filters None bytes = tt
  filters (Some slot) bytes = tt

  live_filters : (found : Option ℕ) (key : List ℕ) → IsLive later d.live key → IsLiveAtStage (filter_at found) later after.held image d.live key
  live_filters None key is = is
  live_filters (Some slot) key is = is

  swept : c.stage ≡ Sweep → d ≡ record c { sweep = d.sweep } → LivesJust P after new d
  swept is same = unmarked Sweep Sweep is (ap (λ (x : Collection). x.stage) same ∙ is) (ap (λ (x : Collection). x.live) same) (λ bytes. tt) (λ key live. more key live)

  same_sweep : c.stage ≡ Sweep → d ≡ c → LivesJust P after new d
  same_sweep is same = unmarked Sweep Sweep is (ap (λ (x : Collection). x.stage) same ∙ is) (ap (λ (x : Collection). x.live) same) (λ bytes. tt) (λ key live. more key live)

  -- one that was made
  pub lives_made : (parts : List Part) → IsSafe later after parts image d → IsSameIn store after old new c.stage
      → StepsTo c.stage c.sweep.next (moment old.tables (Some at.index) old.disk c) (at_moment new d) → LivesJust P after new d
  lives_made parts safe = by_stage c.stage c.sweep.next refl
    where
      by_stage : (stage : Stage) (next : Next) → c.stage ≡ stage → IsSameIn store after old new stage
          → StepsTo stage next (moment old.tables (Some at.index) old.disk c) (at_moment new d) → LivesJust P after new d
      by_stage (Mark level slot) next is same steps =
          marked level slot is same (within_scanned P at.index store stored.files content holds partial (closed_here level slot is) old.disk new.disk here level slot
          steps.0.header steps.0.right c.live d.live lives.within steps.0.scanned)
          (below_at d.stage later after parts image d safe)
      by_stage (Filter slot) next is same steps =
          let found : Option ℕ = first_slot old.tables.held (is_old_slot c.snapshot old.tables.held) (slot + 1) in
          unmarked (Filter slot) (filter_at found) is (ap (λ (x : Collection). x.stage) steps.0.collection_is) (ap (λ (x : Collection). x.live) steps.0.collection_is)
          (filters found) (λ key live. live_filters found key (more key live))
      by_stage Select next is same steps =
          unmarked Select Sweep is (ap (λ (x : Collection). x.stage) steps.0.collection_is) (ap (λ (x : Collection). x.live) steps.0.collection_is) (λ bytes. tt)
          (λ key live. more key live)
      by_stage Sweep (CopyNext source entry) is same steps = swept is steps.1
      by_stage Sweep (Flush source entry) is same steps = swept is steps.sweeps
      by_stage Sweep (Release source entry) is same steps = swept is steps.1
      by_stage Sweep End is same steps = same_sweep is steps.0

  -- one that was refused
  pub lives_kept : (refusal : Refusal) → IsSameIn store after old new c.stage
      → Keeps c.stage c.sweep.next (moment old.tables (Some at.index) old.disk c) (at_moment new d) refusal → LivesJust P after new d
  lives_kept refusal = by_stage c.stage c.sweep.next refusal refl
    where
      -- it marks still
      stays : (level slot : ℕ) → c.stage ≡ Mark level slot → d.stage ≡ c.stage → IsSameIn store after old new (Mark level slot) → IsWithin P d.live → LivesJust P after new d
      stays level slot is stage_is same within =
          marked level slot is same within (λ key below. subst (λ (s : Stage). IsLiveAtStage s later after.held image d.live key) (sym (stage_is ∙ is)) below)

      same_marks : (level slot : ℕ) → c.stage ≡ Mark level slot → IsSameIn store after old new (Mark level slot) → d ≡ c → LivesJust P after new d
      same_marks level slot is same kept = stays level slot is (ap (λ (x : Collection). x.stage) kept) same (subst (λ (x : Collection). IsWithin P x.live) (sym kept) lives.within)

      by_stage : (stage : Stage) (next : Next) (why : Refusal) → c.stage ≡ stage → IsSameIn store after old new stage
          → Keeps stage next (moment old.tables (Some at.index) old.disk c) (at_moment new d) why → LivesJust P after new d
      by_stage (Mark level slot) next refusals.Memory is same (inl kept, known_is) = same_marks level slot is same kept
      by_stage (Mark level slot) next refusals.Memory is same (inr only, known_is) =
          stays level slot is (ap (λ (x : Collection). x.stage) only.collection_is) same
          (within_some P at.index store stored.files content holds partial (closed_here level slot is) old.disk new.disk here level slot only.header only.right c.live d.live
          lives.within only.scanned)
      by_stage (Mark level slot) next why is same keeps = same_marks level slot is same keeps.0
      by_stage (Filter slot) next why is same keeps =
          unmarked (Filter slot) (Filter slot) is (ap (λ (x : Collection). x.stage) keeps.0 ∙ is) (ap (λ (x : Collection). x.live) keeps.0) (λ bytes. tt)
          (λ key live. more key live)
      by_stage Select next why is same keeps =
          unmarked Select Select is (ap (λ (x : Collection). x.stage) keeps.0 ∙ is) (ap (λ (x : Collection). x.live) keeps.0) (λ bytes. tt) (λ key live. more key live)
      by_stage Sweep (CopyNext source entry) why is same keeps = same_sweep is keeps.0
      by_stage Sweep (Flush source entry) why is same keeps = same_sweep is keeps.0
      by_stage Sweep (Release source entry) why is same keeps = same_sweep is keeps
      by_stage Sweep End why is same keeps = same_sweep is keeps.0

-- What is refused takes no mark away.
pub kept_marks : (old new : CoreState) (index : PlaceMap) (c d : Collection) (stage : Stage) (next : Next) (why : Refusal)
    → Keeps stage next (moment old.tables (Some index) old.disk c) (at_moment new d) why → (key : List ℕ) (place : Place)
    → IsLiveAt c.live key place → IsLiveAt d.live key place
kept_marks old new index c d (Mark level slot) next refusals.Memory (inl same, known) key place is = subst (λ (x : Collection). IsLiveAt x.live key place) (sym same) is
kept_marks old new index c d (Mark level slot) next refusals.Memory (inr only, known) key place is = (only.scanned.marks.1.1.1 key place).1 (inl is)
kept_marks old new index c d Sweep (CopyNext source entry) why keeps key place is = subst (λ (x : Collection). IsLiveAt x.live key place) (sym keeps.0) is
kept_marks old new index c d Sweep (Flush source entry) why keeps key place is = subst (λ (x : Collection). IsLiveAt x.live key place) (sym keeps.0) is
kept_marks old new index c d Sweep (Release source entry) why keeps key place is = subst (λ (x : Collection). IsLiveAt x.live key place) (sym keeps) is
kept_marks old new index c d Sweep End why keeps key place is = subst (λ (x : Collection). IsLiveAt x.live key place) (sym keeps.0) is
kept_marks old new index c d other next why keeps key place is = subst (λ (x : Collection). IsLiveAt x.live key place) (sym keeps.0) is

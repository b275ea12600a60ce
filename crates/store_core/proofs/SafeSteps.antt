-- Steps keep what holds of the collection that runs.
use Rattle.std.specs.FinMap as finite
use Rattle.gc_steps.proofs.SealedPins.{sealed_safe}
use Rattle.store_core.proofs.Prelude.{some_same, root_key, ClaimRow, CommitRow, Rests, SealRow, next_id, ChangesTo, Answer, ByteSet, IsIn, Collection, Collects, IsKeptKey, MarksIn, StartRow, HasKey, CoreInvariant, CoreState, IsUnderWayIn, Delete, Put, Mark, Err, List, None, Ok, Option, Result, Some, ap, arith, refl, subst, true, ℕ, ◌<◌, ◌∙◌, ◌≡◌, ◌⊎◌, suc, inl, inr, sym, length, Idle, Writing, IsAt, IsSafeIn, IsLiveAt, LiveKeys, Marks, IsSafe, IsSafeAt, IsStoreOf, KeepsBoth, KeepsCopies, with_change, KindSegment, segment_key, Part, PinMap, Place, PlaceMap, Refusal, Represents, Runs, Root, Stage, Store, names_of, Stored, Tables, pin_of}
use Rattle.ingest_steps.specs.Offering.{with_pins_of}
use Rattle.ingest_steps.specs.Writers.{IsStored}
use Rattle.store_core.specs.Collecting.{keys_in}
use Rattle.store_core.specs.Core.{Makes, seals_from}
use Rattle.store_core.proofs.ManySealed.{comes_all, none_sealed, pins_all}
use Rattle.refusals.specs.declared.refusal.Refusal.TheVariants as refusals
use Rattle.actor_parts.specs.declared.step.Answer.TheVariants as answers
use Rattle.actor_parts.specs.StepValue as asked
use Rattle.std.specs.List.{Contains}
use Rattle.container_meta.specs.Segments.{Contents}
use Rattle.actor_parts.specs.PinMap.{has_pin}
use Rattle.gc_steps.proofs.ClaimedPin.{claimed_key}
use Rattle.gc_steps.proofs.FewerRoots.{fewer_roots}
use Rattle.gc_steps.proofs.OtherSteps.{deleted, kept, committed}
use Rattle.store_core.proofs.RootsKept.{BringsNone, none_same, within_parts}
use Rattle.gc_steps.proofs.Unseen.{marked_unseen}
use Rattle.actor_parts.specs.Parts.{part_of, with_part}
use Rattle.gc_steps.proofs.Safe.{start_safe}

-- the tables of a core that is at a store, alone
pub alone : (store : Store) (known : Option PlaceMap) (t : Tables) → Represents store known t → Represents store None t
alone store known t is = record { slots_are = is.slots_are; names_are = is.names_are; slots_hold = is.slots_hold; index_is_newest = λ index none. absurd cc }

pub runs_alone : (S : List ℕ → Type 0) (s : Store) (stored : Stored) (c : CoreState) → IsAt S s stored c → Runs c.disk.size None c.tables
runs_alone S s stored c at = record {
  store = s;
  represents = alone s c.known c.tables at.represents;
  valid = at.valid;
  has_free = (at.invariant at.stands.known.0 at.stands.known.1).has_free;
}

-- the collection's invariant holds of these, where the core's does
abbrev pub IsSafeFor : PlaceMap → Store → Stored → CoreState → Type 0
IsSafeFor places store stored new = (image : List ℕ) → new.disk.content ≡ Some image → CoreInvariant places store stored.files new.parts image → IsStoreOf store stored.files image
    → IsSafeIn places store new.parts image new.collection

pub both_on : (index mid later : PlaceMap) (s m t : Store) (before between after : List Part) (old then new : List ℕ) (c d e : Collection)
    → KeepsBoth index mid s m before between old then c d
    → KeepsBoth mid later m t between after then new d e → KeepsBoth index later s t before after old new c e
both_on index mid later s m t before between after old then new c d e first second = (λ marks. second.0 (first.0 marks), λ safe. second.1 (first.1 safe))

module _ (index later : PlaceMap) (s t : Store) (before after : List Part) (old new : List ℕ) where
  -- by its stage, which stays
  safe_at : (stage : Stage) (c d : Collection) → KeepsBoth index later s t before after old new c d → IsSafeAt stage index s before old c → IsSafeAt stage later t after new d
  safe_at (Mark level slot) c d both = both.0
  safe_at other c d both = both.1

  -- the collection is the same
  pub unchanged_safe : (was now : Option Collection) → ((c : Collection) → KeepsBoth index later s t before after old new c c) → now ≡ was → IsSafeIn index s before old was
      → IsSafeIn later t after new now
  unchanged_safe None now both same safe = subst (IsSafeIn later t after new) (sym same) tt
  unchanged_safe (Some c) now both same safe = subst (IsSafeIn later t after new) (sym same) (safe_at c.stage c c (both c) safe)

  -- some keys became live
  pub marked_safe : (P : List ℕ → Type 0) (was now : Option Collection)
      → ((c : Collection) (live : LiveKeys) → was ≡ Some c → Marks P c.live live → KeepsBoth index later s t before after old new c (record c { live = live })) → MarksIn P was now
      → IsSafeIn index s before old was → IsSafeIn later t after new now
  marked_safe P None now both marks safe = subst (IsSafeIn later t after new) (sym marks) tt
  marked_safe P (Some c) now both marks safe =
      subst (IsSafeIn later t after new) (sym marks.1.0) (safe_at c.stage c (record c { live = marks.0 }) (both c marks.0 refl marks.1.1) safe)

-- no key became live
unseen : (index : PlaceMap) (store : Store) (parts : List Part) (image : List ℕ) (c : Collection) (live : LiveKeys) → Marks (λ key. ⊥) c.live live
    → KeepsBoth index index store store parts parts image image c (record c { live = live })
unseen index store parts image c live marks = marked_unseen index store image parts c live
    (λ key place is. (λ now. was (key) (place) ((marks key place).0 now), λ before. (marks key place).1 (inl before)))
  where
    was : (key : List ℕ) (place : Place) → IsLiveAt c.live key place ⊎ ⊥ → IsLiveAt c.live key place
    was key place (inl is) = is
    was key place (inr none) = absurd none

-- a root that is stored is that of the empty file, or is pinned
pub stored_pin : (pins : PinMap) (root : Root) → IsStored pins root → (root.length ≡ 0)
    ⊎ (has_pin pins (root_key root) (record { level = root.level; length = root.length }) ≡ true)
stored_pin pins root (inl empty) = inl (ap (λ (r : Root). r.length) empty)
stored_pin pins root (inr pinned) = inr pinned

-- ---- each step

module _ (among : ByteSet) (s : Store) (stored : Stored) (old new : CoreState) (actor : ℕ) (buf : List ℕ) (at : IsAt (IsIn among) s stored old) where
  abbrev image : List ℕ
  image = at.stands.known.0

  abbrev here : old.disk.content ≡ Some image
  here = at.stands.known.1

  -- the actor's part alone is another
  abbrev Rested : Type 0
  Rested = (c : Collection) → KeepsBoth at.index at.index s s old.parts new.parts image image c c

  abbrev Safe : Type 0
  Safe = IsSafeIn at.index s old.parts image old.collection → IsSafeIn at.index s new.parts image new.collection

  -- where it brings no root
  pub none_rested : BringsNone (names_of s) old new actor buf at.represents.names_are.names_are at.many → Rested
  none_rested none c = fewer_roots at.index s s image image old.parts new.parts c refl (λ key level bytes has is. is) none

  pub still_rested : new.parts ≡ old.parts → Rested
  still_rested is = none_rested (none_same (names_of s) old new actor buf at.represents.names_are.names_are at.many is)

  there : (part : Part) → part_of old.parts actor ≡ part → (part ≡ Idle → ⊥) → actor < length old.parts
  there part is some = within_parts old.parts actor (λ idle. some (sym is ∙ idle))

  -- ---- a claim

  none_marked : (c : Collection) (live : LiveKeys) → Marks (λ key. ⊥) c.live live → new.parts ≡ old.parts
      → KeepsBoth at.index at.index s s old.parts new.parts image image c (record c { live = live })
  none_marked c live marks same =
      subst (λ (p : List Part). KeepsBoth at.index at.index s s old.parts p image image c (record c { live = live })) (sym same) (unseen at.index s old.parts image c live marks)

  -- what holds of the collection where the core's invariant holds of the new parts
  abbrev SafeHere : Type 0
  SafeHere = CoreInvariant at.index s stored.files new.parts image → IsStoreOf s stored.files image → Safe

  claimed_here : (seg : KindSegment) (answer : Result Answer Refusal) → ClaimRow seg actor answer old new → Collects (asked.Claim seg) answer old new → SafeHere
  claimed_here seg (Ok answers.Held) row collects core holds =
      let may = row.claimed.may in
      let key : List ℕ = segment_key seg.kind seg.segment in
      let more : List Part = with_part old.parts actor (Writing (finite.insert may.pins key (pin_of seg))) in
      let within = there (Writing may.pins) may.writing (λ is. cc) in
      marked_safe at.index at.index s s old.parts new.parts image image (IsKeptKey (asked.Claim seg) (Ok answers.Held)) old.collection new.collection
      (λ c live ran marks. subst (λ (p : List Part). KeepsBoth at.index at.index s s old.parts p image image c (record c { live = live })) (sym row.claimed.parts_are)
      (claimed_key at.index s image stored.files old.parts c live actor may.pins key (pin_of seg) (omega (arith, within, at.many)) within may.writing marks
      (subst (λ (p : List Part). CoreInvariant at.index s stored.files p image) row.claimed.parts_are core) holds)) collects
  claimed_here seg (Ok answers.Absent) row collects core holds =
      marked_safe at.index at.index s s old.parts new.parts image image (IsKeptKey (asked.Claim seg) (Ok answers.Absent)) old.collection new.collection
      (λ c live ran marks. none_marked c live marks row.claimed.parts_are) collects
  claimed_here seg (Err refusal) row collects core holds =
      marked_safe at.index at.index s s old.parts new.parts image image (IsKeptKey (asked.Claim seg) (Err refusal)) old.collection new.collection
      (λ c live ran marks. none_marked c live marks row.1) collects
  claimed_here seg answer row collects core holds = absurd row

  pub claim_safe : (seg : KindSegment) (answer : Result Answer Refusal) → ClaimRow seg actor answer old new → Rests answer old new → Collects (asked.Claim seg) answer old new
      → IsSafeFor at.index s stored new
  claim_safe seg answer row effect collects after told core holds =
      let same : image ≡ after = some_same image after (sym here ∙ sym effect.disk.only.content_is ∙ told) in
      subst (λ (bytes : List ℕ). IsSafeIn at.index s new.parts bytes new.collection) same
      (claimed_here seg answer row collects (subst (CoreInvariant at.index s stored.files new.parts) (sym same) core) (subst (IsStoreOf s stored.files) (sym same) holds)
      (at.safe image here))

  -- ---- a seal

  -- one that is refused changes the image alone
  pub unsealed_safe : (offered : List Contents) (refusal : Refusal) → SealRow offered actor (Err refusal) old new → Collects (asked.Seal offered) (Err refusal) old new
      → (after : List ℕ) → KeepsCopies (HasKey at.index) s image s after
      → IsSafeIn at.index s new.parts after new.collection
  unsealed_safe offered refusal row collects after keeps =
      marked_safe at.index at.index s s old.parts new.parts image after (IsKeptKey (asked.Seal offered) (Err refusal)) old.collection new.collection
      (λ c live ran marks. both_on at.index at.index at.index s s s old.parts old.parts new.parts image after after c c (record c { live = live })
      (kept at.index s image after old.parts c keeps)
      (subst (λ (p : List Part). KeepsBoth at.index at.index s s old.parts p after after c (record c { live = live })) (sym row.1)
      (unseen at.index s old.parts after c live marks))) collects (at.safe image here)

  -- what was sealed is there, and pinned
  module _ (cs : List Contents) (pins : PinMap) (writing : part_of old.parts actor ≡ Writing pins)
      (parts_are : new.parts ≡ with_part old.parts actor (Writing (with_pins_of cs pins))) (made : Makes (seals_from (next_id old) cs) old new)
      (marks : MarksIn (Contains (keys_in cs)) old.collection new.collection) (t : Store) (chain : ChangesTo (seals_from (next_id old) cs) s t) where
    pub sealed_safe_in : (then : PlaceMap) → new.known ≡ Some then → (after : List ℕ) → CoreInvariant then t stored.files new.parts after → IsStoreOf t stored.files after
        → KeepsCopies (HasKey at.index) s image t after → IsSafeIn then t new.parts after new.collection
    sealed_safe_in then then_is after core holds keeps =
        let P : List ℕ → Type 0 = Contains (keys_in cs) in
        let within = there (Writing pins) writing (λ is. cc) in
        let here_core = subst (λ (p : List Part). CoreInvariant then t stored.files p after) parts_are core in
        marked_safe at.index then s t old.parts new.parts image after P old.collection new.collection
        (λ c live ran marks. subst (λ (p : List Part). KeepsBoth at.index then s t old.parts p image after c (record c { live = live })) (sym parts_are)
        (sealed_safe P (next_id old) s t (comes_all (next_id old) cs s t chain) at.index then
        (made.keeps_keys at.index at.index_known then then_is)
        (λ key none. made.keeps_others at.index at.index_known then then_is key (none_sealed (next_id old) cs key none)) core.index_is_newest
        image after stored.files old.parts c live actor pins (with_pins_of cs pins) (subst (IsUnderWayIn old.tables.held) ran at.under_way).began
        (omega (arith, within, at.many)) within writing marks (pins_all cs pins) keeps here_core holds)) marks (at.safe image here)

  -- ---- a name

  pub committed_safe : (name : List ℕ) (root : Root) → CommitRow name root actor (Ok (answers.Committed (suc old.tables.journal.last))) old new → new.known ≡ old.known
      → new.collection ≡ old.collection
      → (then : PlaceMap) → new.known ≡ Some then → (after : List ℕ) → KeepsCopies (HasKey at.index) s image (with_change name (Put root) s) after
      → IsSafeIn then (with_change name (Put root) s) new.parts after new.collection
  committed_safe name root row index collects then then_is after keeps =
      let may = row.0 in
      let t : Store = with_change name (Put root) s in
      let within = there (Writing may.pins) may.writing (λ is. cc) in
      let same : at.index ≡ then = some_same at.index then (sym at.index_known ∙ sym index ∙ then_is) in
      subst (λ (m : PlaceMap). IsSafeIn m t new.parts after new.collection) same
      (unchanged_safe at.index at.index s t old.parts new.parts image after old.collection new.collection
      (λ c. subst (λ (p : List Part). KeepsBoth at.index at.index s t old.parts p image after c c) (sym row.2)
      (committed at.index s image after old.parts c name at.valid.follow root actor may.pins (omega (arith, within, at.many)) may.writing
      (stored_pin may.pins root may.stored) keeps)) collects (at.safe image here))

  pub deleted_safe : (name : List ℕ) → new.parts ≡ old.parts → new.known ≡ old.known → new.collection ≡ old.collection
      → (then : PlaceMap) → new.known ≡ Some then → (after : List ℕ) → KeepsCopies (HasKey at.index) s image (with_change name Delete s) after
      → IsSafeIn then (with_change name Delete s) new.parts after new.collection
  deleted_safe name parts index collects then then_is after keeps =
      let t : Store = with_change name Delete s in
      let same : at.index ≡ then = some_same at.index then (sym at.index_known ∙ sym index ∙ then_is) in
      subst (λ (m : PlaceMap). IsSafeIn m t new.parts after new.collection) same
      (unchanged_safe at.index at.index s t old.parts new.parts image after old.collection new.collection
      (λ c. subst (λ (p : List Part). KeepsBoth at.index at.index s t old.parts p image after c c) (sym parts)
      (deleted at.index s image after old.parts c name at.valid.follow keeps)) collects (at.safe image here))

  -- ---- a collection begins

  pub start_parts : (percent : ℕ) (answer : Result Answer Refusal) → StartRow percent answer old new → new.parts ≡ old.parts
  start_parts percent (Ok (answers.Started snapshot)) row = row.1
  start_parts percent (Err (refusals.Collecting phase)) row = row.2
  start_parts percent (Err refusal) row = row.parts_are
  start_parts percent answer row = absurd row

  begun_here : (percent : ℕ) (answer : Result Answer Refusal) → StartRow percent answer old new → IsStoreOf s stored.files image → Safe
  begun_here percent (Ok (answers.Started snapshot)) row holds safe =
      let begun = row.0 in
      let represents : Represents s (Some at.index) old.tables = subst (λ (known : Option PlaceMap). Represents s known old.tables) at.index_known at.represents in
      subst (λ (c : Option Collection). IsSafeIn at.index s new.parts image c) (sym begun.runs)
      (subst (λ (p : List Part). IsSafe at.index s p image begun.collection) (sym row.1)
      (start_safe at.index s old.parts image stored.files (at.invariant image here) holds old.tables begun.collection represents begun.next_is begun.stage_is begun.live))
  begun_here percent (Err (refusals.Collecting phase)) row holds safe =
      unchanged_safe at.index at.index s s old.parts new.parts image image old.collection new.collection (still_rested row.2) row.1 safe
  begun_here percent (Err refusal) row holds safe =
      unchanged_safe at.index at.index s s old.parts new.parts image image old.collection new.collection (still_rested row.parts_are) row.none_runs safe
  begun_here percent answer row holds safe = absurd row

  pub begun_safe : (percent : ℕ) (answer : Result Answer Refusal) → StartRow percent answer old new → Rests answer old new → IsSafeFor at.index s stored new
  begun_safe percent answer row effect after told core holds =
      let same : image ≡ after = some_same image after (sym here ∙ sym effect.disk.only.content_is ∙ told) in
      subst (λ (bytes : List ℕ). IsSafeIn at.index s new.parts bytes new.collection) same
      (begun_here percent answer row (subst (IsStoreOf s stored.files) (sym same) holds) (at.safe image here))

-- What a collection wrote it does not write again: a container of an id from its snapshot on has each of these keys, and it fills none of them once more.
use Rattle.core_machine.proofs.Prelude.{◌≡◌, ◌≢◌, inl, inr, ℕ, ◌≤◌, true, List, [], ◌∷◌, ◌++◌, Option, Some, None, refl, sym, ◌∙◌, ap, subst, arith, AllByRecursion, Contains-append_cases, Contains-get_or, PlaceMap, has_key, HeaderValue, header_of, Moment, phase_at, HoldsAt, GoesWell, IsStoreAfter, Next, Flush, Release, End, Store, IsPartialIndexOf, first_free, StoreChange, listed_of, there_now, keys_written, changes_of, MachineCollection, keeping, none_in, IsWritten, WroteOnce, CoreState, FileMachine}
use Rattle.std.proofs.Common.{append-nil}
use Rattle.std.specs.Prelude.{Contains, get_or, slice_get}
use Rattle.std.proofs.lemmas.Grind.{get_or_default_zero}
use Rattle.container_meta.specs.Segments.{Contents, keys_of}
use Rattle.gc_steps.specs.declared.collection.Collection.{Collection}
use Rattle.gc_steps.specs.declared.collection.Stage.{Stage}
use Rattle.gc_steps.specs.declared.collection.Stage.TheVariants.{Sweep as SweepStage}
use Rattle.gc_steps.specs.Stepping.{StepsTo}
use Rattle.gc_sweep.specs.declared.sweep.Next.TheVariants.{Copy}
use Rattle.gc_sweep.proofs.Holds.{no_key}
use Rattle.store_core.proofs.CopiesOnce.{HoldsNewer, listed_found, not_old}
use Rattle.gc_steps.proofs.SealedPins.{stays_there}
use Rattle.gc_steps.proofs.StepSafe.{IsSourceAt}
use Rattle.store_model.proofs.Copies.{some_same}
use Rattle.store_model.proofs.FreedAll.{others_all}
use Rattle.store_machine.proofs.Released.{no_keys_written}
use Rattle.core_machine.proofs.LivesOn.{StandOn}
use Rattle.gc_sweep.specs.declared.sweep.Sweep.{Sweep}

as_newer : (held : List (Option HeaderValue)) (snapshot : ℕ) (buffer : Contents) (key : List ℕ) → IsWritten held snapshot buffer key → HoldsNewer held snapshot key
as_newer held snapshot buffer key is = record { slot = is.slot; header = is.header; there = is.there; new = is.new; entry = is.entry; found = is.found }

written_as : (held : List (Option HeaderValue)) (snapshot : ℕ) (buffer : Contents) (key : List ℕ) → HoldsNewer held snapshot key
    → ¬ (has_key buffer key ≡ true) → IsWritten held snapshot buffer key
written_as held snapshot buffer key newer unfilled =
    record { slot = newer.slot; header = newer.header; there = newer.there; new = newer.new; entry = newer.entry; found = newer.found; unfilled = unfilled }

-- ---- steps of others

-- what was written is so still
pub stands_written : (store after : Store) → StandOn store after → (snapshot : ℕ) (buffer : Contents) (key : List ℕ) → IsWritten store.held snapshot buffer key
    → IsWritten after.held snapshot buffer key
stands_written store after stand snapshot buffer key is = record {
  slot = is.slot;
  header = is.header;
  there = stand is.slot is.header is.there;
  new = is.new;
  entry = is.entry;
  found = is.found;
  unfilled = is.unfilled;
}

-- Each key that the machine's collection wrote it had written before.
abbrev pub KeepsWritten : FileMachine → FileMachine → Type 0
KeepsWritten m n = (y : MachineCollection (List ℕ)) → n.collection ≡ Some y → (key : List ℕ) → Contains (keys_written y.changes) key
    → (x : MachineCollection (List ℕ)) × (m.collection ≡ Some x) × Contains (keys_written x.changes) key

pub same_written : (m n : FileMachine) → n.collection ≡ m.collection → KeepsWritten m n
same_written m n same y ran key there = (y, sym same ∙ ran, there)

-- what it keeps changes none of it
pub keeping_written : (keys : List (List ℕ)) (m n : FileMachine) → n.collection ≡ keeping keys m.collection → KeepsWritten m n
keeping_written keys m n is y ran key there = by m.collection refl (sym is ∙ ran)
  where
    by : (o : Option (MachineCollection (List ℕ))) → m.collection ≡ o → keeping keys o ≡ Some y
        → (x : MachineCollection (List ℕ)) × (m.collection ≡ Some x) × Contains (keys_written x.changes) key
    by None none kept = absurd cc
    by (Some x) some kept = (x, some, subst (λ (ch : List StoreChange). Contains (keys_written ch) key) (let same : y.changes ≡ x.changes = cc in same) there)

-- so is one that has written nothing
pub none_written : (m n : FileMachine) (x : MachineCollection (List ℕ)) → n.collection ≡ Some x → x.changes ≡ [] → KeepsWritten m n
none_written m n x is none y ran key there =
    let same : y.changes ≡ [] = ap (λ (z : MachineCollection (List ℕ)). z.changes) (let one : y ≡ x = let both : Some y ≡ Some x = sym ran ∙ is in cc in one) ∙ none in
    absurd (none_in key (subst (λ (ch : List StoreChange). Contains (keys_written ch) key) same there))

-- the core's snapshot and sweep are those of before
abbrev pub SweepKept : Collection → Collection → Type 0
SweepKept b a = (a.snapshot ≡ b.snapshot) × (a.sweep ≡ b.sweep)

pub same_sweep_kept : (b a : Collection) → a ≡ b → SweepKept b a
same_sweep_kept b a same = (ap (λ (z : Collection). z.snapshot) same, ap (λ (z : Collection). z.sweep) same)

pub wrote_still : (m n : FileMachine) (c d : CoreState) → StandOn m.store n.store → KeepsWritten m n
    → ((x : MachineCollection (List ℕ)) → m.collection ≡ Some x → (a : Collection) → d.collection ≡ Some a → (b : Collection) × (c.collection ≡ Some b) × SweepKept b a)
    → WroteOnce m c → WroteOnce n d
wrote_still m n c d stand written sweeps wrote y a ran runs key there =
    let x = written y ran key there in
    let b = sweeps x.0 x.1 a runs in
    subst (λ (s : Sweep). IsWritten n.store.held a.snapshot s.buffer key) (sym b.2.1)
    (subst (λ (i : ℕ). IsWritten n.store.held i b.0.sweep.buffer key) (sym b.2.0)
    (stands_written m.store n.store stand b.0.snapshot b.0.sweep.buffer key (wrote x.0 b.0 x.1 b.1 key x.2)))

-- ---- its own steps

module _ (index : PlaceMap) (store store_now : Store) (image : List ℕ) (partial : IsPartialIndexOf store.held index) (b a : Collection) (snapshot_is : a.snapshot ≡ b.snapshot)
    (well : GoesWell index store.held b a) (holds : HoldsAt b.stage index store.held image b)
    (after : IsStoreAfter b.stage b.sweep.next b.snapshot b.sweep index store store_now image) where
  -- each source came before
  sources_old : b.stage ≡ SweepStage → (id : ℕ) → b.snapshot ≤ id → Contains b.sweep.sources.items id → ⊥
  sources_old sweeps id above source =
      let here : HoldsAt SweepStage index store.held image b = subst (λ (s : Stage). HoldsAt s index store.held image b) sweeps holds in
      let below = here.0.old source.0 source.1 in
      let is : get_or b.sweep.sources.items source.0 0 ≡ id = sym (get_or_default_zero b.sweep.sources.items source.0 id source.1) ∙ source.2 in
      omega (arith, above, below, is)

  abbrev Stands : Store → ℕ → HeaderValue → Type 0
  Stands s slot h = slice_get s.held slot ≡ Some (Some h)

  -- a container that came since then stands on
  stands_after : (stage : Stage) (next : Next) → b.stage ≡ stage → IsStoreAfter stage next b.snapshot b.sweep index store store_now image → (slot : ℕ) (h : HeaderValue)
      → b.snapshot ≤ h.id → Stands store slot h → Stands store_now slot h
  stands_after SweepStage (Flush source entry) is flushes slot h new there =
      subst (λ (s : Store). Stands s slot h) (sym flushes.now_is)
      (stays_there (header_of flushes.id b.sweep.buffer.kind b.sweep.buffer.segments) store.held slot h there)
  stands_after SweepStage (Release source entry) is frees slot h new there =
      subst (λ (s : Store). Stands s slot h) (sym frees.now_is) (others_all b.sweep.ready.items slot store (each b.sweep.ready.items frees.stand) ∙ there)
    where
      -- the sources are other slots
      other : (gone : ℕ) → IsSourceAt store.held b.sweep.sources.items gone → gone ≢ slot
      other gone at same =
          let one : at.header ≡ h = some_same at.header h (some_same (Some at.header) (Some h) (sym at.there ∙ ap (slice_get store.held) same ∙ there)) in
          let source = subst (Contains b.sweep.sources.items) (sym at.id_is) (Contains-get_or b.sweep.sources.items at.number 0 at.within) in
          sources_old is h.id new (subst (λ (g : HeaderValue). Contains b.sweep.sources.items g.id) one source)

      each : (gone : List ℕ) → AllByRecursion (IsSourceAt store.held b.sweep.sources.items) gone → AllByRecursion (λ one. one ≢ slot) gone
      each [] all = tt
      each (one ∷ gone) all = (other one all.0, each gone all.1)
  stands_after SweepStage (Copy source entry) is same slot h new there = subst (λ (s : Store). Stands s slot h) (sym same) there
  stands_after SweepStage End is same slot h new there = subst (λ (s : Store). Stands s slot h) (sym same) there
  stands_after other next is same slot h new there = subst (λ (s : Store). Stands s slot h) (sym same) there

  newer_after : (key : List ℕ) → HoldsNewer store.held b.snapshot key → HoldsNewer store_now.held b.snapshot key
  newer_after key newer = record {
    slot = newer.slot;
    header = newer.header;
    there = stands_after b.stage b.sweep.next refl after newer.slot newer.header newer.new newer.there;
    new = newer.new;
    entry = newer.entry;
    found = newer.found;
  }

  abbrev Then : List ℕ → Type 0
  Then key = IsWritten store_now.held a.snapshot a.sweep.buffer key

  then_as : (key : List ℕ) → HoldsNewer store_now.held b.snapshot key → ¬ (has_key a.sweep.buffer key ≡ true) → Then key
  then_as key newer unfilled =
      subst (λ (n : ℕ). IsWritten store_now.held n a.sweep.buffer key) (sym snapshot_is) (written_as store_now.held b.snapshot a.sweep.buffer key newer unfilled)

  -- what was written is not filled again
  carried : (key : List ℕ) → IsWritten store.held b.snapshot b.sweep.buffer key → Then key
  carried key is =
      let newer = as_newer store.held b.snapshot b.sweep.buffer key is in
      then_as key (newer_after key newer)
      (λ has. elim (well key has) [ inl before ↦ is.unfilled before | inr old_one ↦ not_old store.held index key b.snapshot partial newer old_one ])

  -- and what is written then is not
  pub written_then : (old new : Moment) → old.collection ≡ b → new.collection ≡ a → StepsTo b.stage b.sweep.next old new → (last : ℕ) (written : List (List ℕ))
      → ((key : List ℕ) → Contains written key → IsWritten store.held b.snapshot b.sweep.buffer key) → (key : List ℕ)
      → Contains (written ++ keys_written (changes_of (phase_at b.stage b.sweep.next) last b.sweep)) key → Then key
  written_then old new was is steps last written each key there = elim
      (Contains-append_cases written (keys_written (changes_of (phase_at b.stage b.sweep.next) last b.sweep)) key there) [
        | inl before ↦ carried key (each key before)
        | inr now ↦ by b.stage b.sweep.next after steps now
      ]
    where
      by : (stage : Stage) (next : Next) → IsStoreAfter stage next b.snapshot b.sweep index store store_now image → StepsTo stage next old new
          → Contains (keys_written (changes_of (phase_at stage next) last b.sweep)) key → Then key
      by SweepStage (Flush source entry) flushes made now =
          let ks = keys_of b.sweep.buffer in
          let listed_now = subst (λ (xs : List (List ℕ)). Contains xs key) (append-nil ks) now in
          let entry = listed_found b.sweep.buffer.kind 0 b.sweep.buffer.segments key (listed_of ks key listed_now) in
          let h : HeaderValue = header_of flushes.id b.sweep.buffer.kind b.sweep.buffer.segments in
          then_as key (subst (λ (s : Store). HoldsNewer s.held b.snapshot key) (sym flushes.now_is) (record {
            slot = first_free store.held;
            header = h;
            there = there_now h store.held (omega (arith, flushes.can.slot));
            new = flushes.new;
            entry = entry.0;
            found = entry.1;
          }))
          (no_key a.sweep.buffer key (ap (λ (z : Collection). z.sweep.buffer.segments) (sym is) ∙ made.flushed.emptied))
      by SweepStage (Copy source entry) same made now = absurd (omega (arith, now.1))
      by SweepStage (Release source entry) frees made now = absurd (none_in key (subst (λ (ks : List (List ℕ)). Contains ks key) (no_keys_written b.sweep.ready.items) now))
      by SweepStage End same made now = absurd (omega (arith, now.1))
      by other next same made now = absurd (omega (arith, now.1))

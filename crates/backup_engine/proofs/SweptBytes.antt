-- What a step of a collection leaves of the bytes, whatever they are: all before the end of the slots, but gates of containers that were given
-- back, and slots that were filled.
use Rattle.backup_engine.proofs.Prelude.{◌≡◌, inl, inr, ◌+◌, ◌≤◌, ℕ, List, [], ◌∷◌, Some, None, refl, ◌∙◌, subst, arith, range, CrashLeaves, DiskView, OnlyReads, SteppedFrom, leaves_weaker, size_of, slot_at, Touches, Stage, Mark, Filter, Select, SweepStage, Flush, Release, End, ChangesSlotAlone, SameButSlotOf, Changes, SameBefore, HasNoGate, IsValidFor, Store, HasFree, first_free, Represents, Tables, LiesBeside, SameButSlotsOf, ◌++◌}
use Rattle.dd_disk.specs.Ending.{Ending}
use Rattle.dd_disk.proofs.Later.{reads_leave}
use Rattle.gc_sweep.specs.declared.sweep.Next.{Next}
use Rattle.gc_sweep.specs.declared.sweep.Next.TheVariants.{Copy}
use Rattle.gc_sweep.specs.declared.sweep.Sweep.{Sweep}
use Rattle.store_model.specs.Freeing.{SameButGates}

-- ---- bytes

-- no gate of some slots and of more is one of neither
no_gates : (some more : List ℕ) (at count : ℕ) → HasNoGate (some ++ more) at count → HasNoGate some at count × HasNoGate more at count
no_gates [] more at count none = (tt, none)
no_gates (slot ∷ some) more at count none = let rest = no_gates some more at count none.1 in ((none.0, rest.0), rest.1)

pub same_slots : (s : Store) (base : List ℕ) → SameButSlotsOf s [] [] base base
same_slots s base = record { size_is = refl; same = λ at count within none beside. refl }

module _ (s : Store) (freed filled : List ℕ) (base d c : List ℕ) (but : SameButSlotsOf s freed filled base d) where
  -- where nothing before the end of the slots is another
  pub but_before : SameBefore (slot_at s.slots) d c → SameButSlotsOf s freed filled base c
  but_before same = record { size_is = same.size ∙ but.size_is; same = λ at count within none beside. same.before at count within ∙ but.same at count within none beside }

  -- more gates may be others
  but_gates : (gone : List ℕ) → SameButGates gone d c → SameButSlotsOf s (gone ++ freed) filled base c
  but_gates gone same = record {
    size_is = same.size ∙ but.size_is;
    same = λ at count within none beside.
        let apart = no_gates gone freed at count none in
        same.same at count apart.0 ∙ but.same at count within apart.1 beside;
  }

  -- or one slot more
  but_slot : (slot : ℕ) → SameButSlotOf s.slots slot d c → SameButSlotsOf s freed (slot ∷ filled) base c
  but_slot slot same = record { size_is = same.size ∙ but.size_is; same = kept }
    where
      kept : (at count : ℕ) → at + count ≤ slot_at s.slots → HasNoGate freed at count → LiesBeside (slot ∷ filled) at count → range at count c ≡ range at count base
      kept at count within none beside = elim beside.0 [
        | inl before ↦ same.before at count before ∙ but.same at count within none beside.1
        | inr past ↦ same.after at count (omega (arith, past)) within ∙ but.same at count within none beside.1
      ]

  more_freed : (gone : List ℕ) → SameButSlotsOf s (gone ++ freed) filled base d
  more_freed gone = record { size_is = but.size_is; same = λ at count within none beside. but.same at count within (no_gates gone freed at count none).1 beside }

  more_filled : (slot : ℕ) → SameButSlotsOf s freed (slot ∷ filled) base d
  more_filled slot = record { size_is = but.size_is; same = λ at count within none beside. but.same at count within none beside.1 }

-- ---- the disk

-- The disk tells its content, which, as each image of it, is the first one but for these slots.
pub record IsFramed (s : Store) (freed filled : List ℕ) (base : List ℕ) (v : DiskView) : Type 0 where
  pub told : (bytes : List ℕ) × (v.content ≡ Some bytes)
  pub each : (c : List ℕ) → v.images c → SameButSlotsOf s freed filled base c

module _ (s : Store) (freed filled : List ℕ) (base : List ℕ) (old new : DiskView) (framed : IsFramed s freed filled base old) where
  abbrev Leaves : (List ℕ → Type 0) → Type 0
  Leaves P = CrashLeaves P old new

  -- ---- by what a step does to it

  reads_so : OnlyReads old new → Leaves (SameButSlotsOf s freed filled base)
  reads_so reads = reads_leave (SameButSlotsOf s freed filled base) old new framed.each reads

  pub framed_reads : OnlyReads old new → IsFramed s freed filled base new
  framed_reads reads = record { told = (framed.told.0, reads.content_is ∙ framed.told.1); each = λ c image. framed.each c (reads.images_are c image) }

  changes_so : (e : Ending) → Changes (slot_at s.slots) e old new → Leaves (SameButSlotsOf s freed filled base)
  changes_so e changes = leaves_weaker (SteppedFrom (SameBefore (slot_at s.slots)) old) (SameButSlotsOf s freed filled base) old new
      (λ c stepped. elim stepped [ inl was ↦ framed.each c was | inr (d, was, same) ↦ but_before s freed filled base d c (framed.each d was) same ]) changes.leaves

  gates_so : (gone : List ℕ) → CrashLeaves (SteppedFrom (SameButGates gone) old) old new → Leaves (SameButSlotsOf s (gone ++ freed) filled base)
  gates_so gone leaves = leaves_weaker (SteppedFrom (SameButGates gone) old) (SameButSlotsOf s (gone ++ freed) filled base) old new
      (λ c stepped. elim stepped [
        | inl was ↦ more_freed s freed filled base c c (framed.each c was) gone
        | inr (d, was, same) ↦ but_gates s freed filled base d c
            (framed.each d was) gone same
      ]) leaves

  slot_so : (slot : ℕ) → CrashLeaves (SteppedFrom (SameButSlotOf s.slots slot) old) old new → Leaves (SameButSlotsOf s freed (slot ∷ filled) base)
  slot_so slot leaves = leaves_weaker (SteppedFrom (SameButSlotOf s.slots slot) old) (SameButSlotsOf s freed (slot ∷ filled) base) old new
      (λ c stepped. elim stepped [
        | inl was ↦ more_filled s freed filled base c c (framed.each c was) slot
        | inr (d, was, same) ↦ but_slot s freed filled base d c
            (framed.each d was) slot same
      ]) leaves

-- which slots were given back, and filled, once a step of a stage was tried
abbrev pub freed_with : Stage → Next → Sweep → List ℕ → List ℕ
freed_with SweepStage (Release source entry) sweep freed = sweep.ready.items ++ freed
freed_with stage next sweep freed = freed

abbrev pub filled_with : Stage → Next → Store → List ℕ → List ℕ
filled_with SweepStage (Flush source entry) after filled = first_free after.held ∷ filled
filled_with stage next after filled = filled

module _ (s after : Store) (freed filled : List ℕ) (base : List ℕ) (old new : DiskView) (framed : IsFramed s freed filled base old) (t : Tables)
    (sized : old.size ≡ size_of s.slots) (represents : Represents after None t) (valid : IsValidFor old.size after)
    (has_free : HasFree after.held) (slots_are : t.slots ≡ s.slots) where
  -- what it leaves, by the stage
  pub stage_so : (stage : Stage) (next : Next) (sweep : Sweep) (e : Ending) → Touches stage next sweep t e old new →
      CrashLeaves (SameButSlotsOf s (freed_with stage next sweep freed) (filled_with stage next after filled) base) old new
  stage_so (Mark level slot) next sweep e touches = reads_so s freed filled base old new framed touches.only
  stage_so (Filter slot) next sweep e touches = reads_so s freed filled base old new framed touches.only
  stage_so Select next sweep e touches = reads_so s freed filled base old new framed touches.only
  stage_so SweepStage (Copy source entry) sweep e touches = changes_so s freed filled base old new framed e (touches s.slots sized)
  stage_so SweepStage (Flush source entry) sweep e touches =
      let alone : ChangesSlotAlone s.slots (first_free after.held) old new =
      subst (λ (n : ℕ). ChangesSlotAlone n (first_free after.held) old new) slots_are ((touches.1.frame None).store_has after represents valid has_free) in
      slot_so s freed filled base old new framed (first_free after.held) (alone.leaves framed.told.0 framed.told.1)
  stage_so SweepStage (Release source entry) sweep e touches = gates_so s freed filled base old new framed sweep.ready.items (touches.2.leaves framed.told.0 framed.told.1)
  stage_so SweepStage End sweep e touches = reads_so s freed filled base old new framed touches.only

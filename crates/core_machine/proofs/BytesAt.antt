-- What a step leaves of the bytes of a disk that tells its content, where a core is at a store: what was only read, what counts, a slot, a record.
use Rattle.core_machine.proofs.Prelude.{◌≡◌, inl, inr, ◌<◌, ◌≤◌, ℕ, List, [], ◌∷◌, Some, refl, sym, ◌∙◌, subst, arith, AllByRecursion, KnownWith, Broken, Ending, IsLater, OnlyReads, Both, Change, Kind, Segment, segment_key, slot_at, SameButSlotOf, SameBefore, Files, Stored, Encodes, Store, HasFree, first_free, HasNewest, some_free, IsSettled, IsAt, CoreState, data_level, AllHeld, Holds, SameButRecord, SameButSlot, SameStore, length, free_slots, suc}
use Rattle.dd_disk.specs.Ending.{Done, Refused, Unread}
use Rattle.container_meta.specs.declared.kind.Kind.TheVariants as kinds
use Rattle.container_meta.specs.Segments.{Contents}
use Rattle.ingest_steps.specs.Naming.{ChangesJournalAlone}
use Rattle.ingest_steps.specs.Offering.{in_free}
use Rattle.ingest_steps.specs.Sealing.{ChangesFirstFree}
use Rattle.ingest_steps.specs.SealingAll.{ChangesSlotsAlone, SameButSlotsOf, slots_of}
use Rattle.store_model.specs.Together.{Placed}
use Rattle.store_core.proofs.FilledSlots.{IsOutOf}
use Rattle.store_machine.specs.Offers.{AnyByRecursion, placed}
use Rattle.core_machine.specs.Bytes.{SameButSlots}
use Rattle.store_model.specs.Collisions.{Stands}
use Rattle.store_state.specs.Settled as settled
use Rattle.core_machine.proofs.Bytes.{both_known, but_none, but_record, but_slot, but_slots, known_weaker}
use Rattle.core_machine.proofs.PlacedSame.{out_of_placed, placed_same}

-- ---- segments that a store holds

module _ (S : List ℕ → Type 0) (store : Store) (files : Files) (image : List ℕ) (stands : Stands S store files image) where
  -- those of a container have their levels
  one_held : (kind : Kind) (x : Segment) → HasNewest store.held (segment_key kind x) x.level x.bytes image → Holds image (record { kind = kind; segment = x })
  one_held kinds.Leaf x has = (
    store,
    (
      stands.holds.right,
      record { copy = has.copy; copy_is = has.copy_is; level_is = data_level S store files image stands x has.copy has.copy_is; bytes_are = has.bytes_are },
    ),
  )
  one_held kinds.Tree x has = (store, (stands.holds.right, has))

  pub all_held : (filled : Contents) → AllByRecursion (λ x. HasNewest store.held (segment_key filled.kind x) x.level x.bytes image) filled.segments → AllHeld image filled
  all_held filled all = each filled.segments all
    where
      each : (xs : List Segment) → AllByRecursion (λ x. HasNewest store.held (segment_key filled.kind x) x.level x.bytes image) xs
          → AllByRecursion (λ x. Holds image (record { kind = filled.kind; segment = x })) xs
      each [] all = tt
      each (x ∷ xs) all = (one_held filled.kind x all.0, each xs all.1)

-- ---- what becomes of the content

-- nothing was written
abbrev pub IsRest : Ending → Type 0
IsRest Refused = Unit {0}
IsRest Unread = Unit {0}
IsRest e = ⊥

module _ (S : List ℕ → Type 0) (store : Store) (stored : Stored) (old new : CoreState) (at : IsAt S store stored old) where
  abbrev image : List ℕ
  image = at.stands.known.0

  abbrev here : old.disk.content ≡ Some image
  here = at.stands.known.1

  pub stands_here : Stands S store stored.files image
  stands_here = at.stands.each image (old.disk.as_read image here)

  pub right_here : Encodes image store
  right_here = stands_here.holds.right

  has_free : HasFree store.held
  has_free = (at.invariant image here).has_free

  abbrev Told : (List ℕ → Type 0) → Type 0
  Told P = KnownWith new.disk.content P

  pub reads_told : OnlyReads old.disk new.disk → Told (λ now. now ≡ image)
  reads_told reads = (image, reads.content_is ∙ here, refl)

  abbrev Counts : Type 0
  Counts = Told (SameBefore (slot_at store.slots) image)

  pub counts_told : Both (SameBefore (slot_at store.slots)) old.disk.content new.disk.content → Counts
  counts_told both = both_known (SameBefore (slot_at store.slots)) old.disk.content new.disk.content image here both

  -- where no write was begun what counts stays
  pub rest_told : (e : Ending) → IsRest e → settled.Left old.tables.slots e old.disk new.disk → Counts
  rest_told Done rests left = absurd rests
  rest_told Refused rests left = counts_told (subst (λ (n : ℕ). Both (SameBefore (slot_at n)) old.disk.content new.disk.content) at.represents.slots_are left.content_is)
  rest_told Unread rests left = counts_told (subst (λ (n : ℕ). Both (SameBefore (slot_at n)) old.disk.content new.disk.content) at.represents.slots_are left.content_is)
  rest_told Broken rests left = absurd rests

  pub same_store : (now : List ℕ) → SameBefore (slot_at store.slots) image now → SameStore image now
  same_store now same = (store, (right_here, but_none store.slots image now same (Unit {0}) (λ half cell. ⊥) (λ slot. ⊥)))

  pub store_told : Counts → Told (SameStore image)
  store_told counts = known_weaker new.disk.content (SameBefore (slot_at store.slots) image) (SameStore image) same_store counts

  -- ---- a slot, or a record

  module _ (calm : IsSettled old.tables.slots old.disk) where
    within : first_free store.held < store.slots
    within = omega (arith, some_free store.held has_free, at.valid.many)

    -- nothing is another but the closed slot of least number
    pub slot_told : ChangesFirstFree old.known old.tables old.disk new.disk → Told (SameButSlot image)
    slot_told frame =
        let (now, told, same) = ((frame.store_has store at.represents at.valid has_free).settled calm image here).0 in (
          now,
          told,
          (
            store,
            (
              right_here,
              but_slot store.slots (first_free store.held) image now
                  (subst (λ (n : ℕ). SameButSlotOf n (first_free store.held) image now) at.represents.slots_are same) within,
            ),
          ),
        )

    -- nothing is another but the closed slots for these containers
    pub slots_told : (last : ℕ) (cs : List Contents) → length cs ≤ free_slots store.held
        → ChangesSlotsAlone old.tables.slots (slots_of (in_free (suc last) cs store)) old.disk new.disk → Told (SameButSlots last cs image)
    slots_told last cs room frame =
        let (now, told, same) = (frame.settled calm image here).0 in (
          now,
          told,
          (
            store,
            (
              right_here,
              but_slots store.slots (slots_of (in_free (suc last) cs store)) image now
                  (subst (λ (n : ℕ). SameButSlotsOf n (slots_of (in_free (suc last) cs store)) image now) at.represents.slots_are same)
                  (λ slot. AnyByRecursion (λ p. slot ≡ p.slot) (placed last cs store))
                  (λ slot none. subst (λ (ps : List Placed). IsOutOf (slots_of ps) slot) (placed_same last cs store room) (out_of_placed (placed last cs store) slot none)),
            ),
          ),
        )

    before_by : (d : List ℕ) → old.disk.images d → SameBefore (slot_at store.slots) image d
    before_by d left = subst (λ (n : ℕ). SameBefore (slot_at n) image d) at.represents.slots_are (calm image here d left)

    -- but the bytes of a record
    pub record_told : (name : List ℕ) (change : Change) → IsLater old.disk new.disk → ChangesJournalAlone old.tables name change old.disk new.disk → Told (SameButRecord image)
    record_told name change later frame =
        let (now, told, so) = later.tells image here in (
          now,
          told,
          (
            store,
            (
              right_here,
              elim ((frame.leaves image here).now now (new.disk.as_read now told)) [
                | inl was ↦ but_none store.slots image now (before_by now was) _ _ _
                | inr step ↦ but_record store old.tables at.represents.names_are.half at.represents.names_are.count
                    (subst (λ (n : ℕ). n ≤ 1) (sym at.represents.names_are.half) at.valid.selector_right.half) image step.0 now (before_by step.0 step.1) step.2.same
              ],
            ),
          ),
        )

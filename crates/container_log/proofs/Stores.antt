-- Containers that are sealed together, by the stores that images stand for.
use Rattle.std.proofs.Common.{◌≡◌, inl, inr, ℕ, suc, zero, List, [], ◌∷◌, length, slice_get, Some, sym, ◌∙◌, arith, subst}
use Rattle.disk_format.specs.Layout.{size_of}
use Rattle.dd_disk.specs.Ending.{Ending}
use Rattle.dd_disk.specs.Moves.{step, Moves}
use Rattle.dd_disk.specs.View.{DiskView}
use Rattle.dd_disk.specs.Writes.{Writes}
use Rattle.dd_disk.proofs.Moves.{moves_written, stands_content}
use Rattle.container_meta.specs.Segments.{Contents}
use Rattle.store_model.specs.Collisions.{HasNoCollisions, Stands}
use Rattle.store_model.specs.Files.{Files}
use Rattle.store_model.specs.Image.{Store}
use Rattle.store_model.specs.Slots.{last_id}
use Rattle.store_model.specs.Together.{IsClosed, CanPlace, MayPlace, StandsSome, with_all}
use Rattle.store_model.proofs.Free.{closed_in}
use Rattle.store_model.proofs.Together.{some_sealed, all_sealed}
use Rattle.container_log.specs.Many.{AreSlots, SealsAll, AreSealed, placed}
use Rattle.container_log.proofs.Bodies.{some_same}
use Rattle.container_log.proofs.Left.{left, done}

-- each of the slots is closed
all_closed : (last id : ℕ) (slots : List ℕ) (filled : List Contents) (store : Store) → length filled ≡ length slots → CanPlace last (placed slots id filled) store
    → (i slot : ℕ) → slice_get slots i ≡ Some slot → IsClosed store slot
all_closed last id [] filled store many can i slot here = absurd cc
all_closed last id (s ∷ slots) [] store many can i slot here = absurd (omega (arith, many))
all_closed last id (s ∷ slots) (c ∷ cs) store many can zero slot here = subst (IsClosed store) (some_same s slot here) can.0
all_closed last id (s ∷ slots) (c ∷ cs) store many can (suc i) slot here = all_closed id (suc id) slots cs store (omega (arith, many)) can.4 i slot here

module _ (S : List ℕ → Type 0) (slots : List ℕ) (id : ℕ) (filled : List Contents) (store : Store) (files : Files) (many : length filled ≡ length slots)
    (distinct : HasNoCollisions S) (may : MayPlace S (placed slots id filled)) (can : CanPlace (last_id store.held) (placed slots id filled) store) where
  -- at any moment
  sealed_some : AreSlots (size_of store.slots) slots → (given image new : List ℕ) → Stands S store files given → Stands S store files image →
      SealsAll slots id filled given image new → StandsSome S (placed slots id filled) store files new
  sealed_some are given image new before stands (inl bodies) =
      let some = some_sealed S files distinct (placed slots id filled) (last_id store.held) store image new may (omega arith) can stands
      (left (size_of store.slots) id slots filled image new are many stands.holds.right.size bodies.0 (λ i slot contents here there. inl (bodies.1 i slot here
      (closed_in 0 slot slot store.held image (omega arith) (all_closed (last_id store.held) id slots filled store many can i slot here) stands.holds.right.slots_are)))) in
      (some.0, some.1)
  sealed_some are given image new before stands (inr gates) =
      let some = some_sealed S files distinct (placed slots id filled) (last_id store.held) store given new may (omega arith) can before
      (left (size_of store.slots) id slots filled given new are many before.holds.right.size gates.0 gates.1) in
      (some.0, some.1)

  -- in the end
  sealed_all : AreSlots (size_of store.slots) slots → (given new : List ℕ) → Stands S store files given → AreSealed slots id filled given new
      → Stands S (with_all (placed slots id filled) store) files new
  sealed_all are given new before sealed =
      all_sealed S files distinct (placed slots id filled) (last_id store.held) store given new may (omega arith) can before
      (done (size_of store.slots) id slots filled given new are many before.holds.right.size sealed.rest sealed.each)

  pub moves_together : (e : Ending) (old new : DiskView) → AreSlots old.size slots → Writes (SealsAll slots id filled) (AreSealed slots id filled) e old new
      → Moves (step (Stands S store files) (StandsSome S (placed slots id filled) store files) (Stands S (with_all (placed slots id filled) store) files)) e old new
  moves_together e old new are writes stands =
      let given = stands.known.0 in
      let before : Stands S store files given = stands_content (Stands S store files) old stands given stands.known.1 in
      let here : AreSlots (size_of store.slots) slots = subst (λ (n : ℕ). AreSlots n slots) (sym (old.sized given stands.known.1) ∙ before.holds.right.size) are in
      moves_written (Stands S store files) (StandsSome S (placed slots id filled) store files) (Stands S (with_all (placed slots id filled) store) files) (SealsAll slots id filled)
      (AreSealed slots id filled) old new
      (λ was c has whole. sealed_all here was c has whole) e
      (λ c has. ([], has))
      (λ was d c has image_has seals. sealed_some here was d c has image_has seals)
      writes stands

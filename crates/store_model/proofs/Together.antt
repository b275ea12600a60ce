-- What an image stands for once several containers were sealed in closed slots, whichever of them stand.
use Rattle.store_model.proofs.Prelude.{◌<◌, ◌≡◌, ◌≢◌, ℕ, zero, suc, ◌+◌, ◌≤◌, Bool, true, false, inl, inr, List, [], ◌∷◌, length, get_or, Option, Some, None, refl, sym, ◌∙◌, ap, subst, arith, slice_get, AllByRecursion, SameOutside, SLOT_BYTES, slot_at, Kind, Segment, HeaderValue, header_of, Stands, Files, last_id, free_slots, with_slot, Store, KeepsCopies, HasNewest}
use Rattle.container_meta.specs.declared.kind.Kind.TheVariants.{Leaf, Tree}
use Rattle.store_model.specs.Collisions.{HasNoCollisions}
use Rattle.store_model.specs.Steps.{MaySeal, AnyKey}
use Rattle.store_model.specs.Together.{Placed, IsClosed, with_placed, with_some, with_all, with_all_sealed, CanPlace, MayPlace, AreFirstFree, IdsRise, AreLeftSo, IsLeft, IsThere}
use Rattle.store_model.proofs.Filled.{closed_empty, free_less}
use Rattle.store_model.proofs.Free.{first_closed, some_free}
use Rattle.store_model.proofs.FramedTrees.{newest_unsealed, unsealed_at}
use Rattle.store_model.proofs.SealedTrees.{IsNewestOf, newest_data, newest_alike, sealed_at}

-- ---- one of them

-- data that may be sealed is the newest copy of its key
newests : (S : List ℕ → Type 0) (kind : Kind) (store : Store) (files : Files) (image : List ℕ) (segments : List Segment) → kind ≡ Leaf → HasNoCollisions S →
    Stands S store files image
    → AllByRecursion (MaySeal S kind) segments → AllByRecursion (IsNewestOf AnyKey kind store image image) segments
newests S kind store files image [] leaf distinct stands may = tt
newests S Tree store files image (s ∷ ss) leaf distinct stands may = absurd cc
newests S Leaf store files image (s ∷ ss) leaf distinct stands may =
    (newest_data S AnyKey store files image image distinct stands s may.0, newests S Leaf store files image ss leaf distinct stands may.1)

module _ (S : List ℕ → Type 0) (p : Placed) (store : Store) (files : Files) (image new : List ℕ) (distinct : HasNoCollisions S)
    (leaf : p.kind ≡ Leaf) (may : AllByRecursion (MaySeal S p.kind) p.segments) (closed : IsClosed store p.slot) (above : last_id store.held < p.id)
    (stands : Stands S store files image) (same : SameOutside (slot_at p.slot) SLOT_BYTES image new) (container : IsThere p new) where
  each : AllByRecursion (IsNewestOf AnyKey p.kind store image image) p.segments
  each = newests S p.kind store files image p.segments leaf distinct stands may

  -- where it stands, the image is the store with it
  placed : Stands S (with_placed p store) files new
  placed = sealed_at S AnyKey p store files image image new stands stands same container closed above may each (λ key there. tt)

  -- and what was held is held
  placed_keeps : KeepsCopies AnyKey store image (with_placed p store) new
  placed_keeps = λ key level bytes any has. newest_alike S AnyKey p store files image image new stands stands same container closed above may each key level bytes any has has

-- ---- those that come after one

-- another slot is closed still
closed_beside : (slot other : ℕ) (h : HeaderValue) (held : List (Option HeaderValue)) → other ≢ slot → slice_get held other ≡ Some None →
    slice_get (with_slot slot h held) other ≡ Some None
closed_beside slot other h [] differ closed = closed
closed_beside zero zero h (c ∷ cs) differ closed = absurd (differ refl)
closed_beside zero (suc other) h (c ∷ cs) differ closed = closed
closed_beside (suc slot) zero h (c ∷ cs) differ closed = closed
closed_beside (suc slot) (suc other) h (c ∷ cs) differ closed = closed_beside slot other h cs (λ same. differ (ap suc same)) closed

-- a bound of the ids that are there and of the new one is one still
last_within : (index : ℕ) (h : HeaderValue) (held : List (Option HeaderValue)) (bound : ℕ) → last_id held ≤ bound → h.id ≤ bound → last_id (with_slot index h held) ≤ bound
last_within index h [] bound low here = low
last_within zero h (None ∷ cs) bound low here = omega (arith, low, here)
last_within zero h (Some g ∷ cs) bound low here = omega (arith, low, here)
last_within (suc index) h (None ∷ cs) bound low here = last_within index h cs bound low here
last_within (suc index) h (Some g ∷ cs) bound low here = let rest = last_within index h cs bound (omega (arith, low)) here in omega (arith, low, rest)

-- they can be placed still
place_on : (p : Placed) (last : ℕ) (ps : List Placed) (store : Store) → AllByRecursion (λ q. q.slot ≢ p.slot) ps → CanPlace last ps store → CanPlace last ps (with_placed p store)
place_on p last [] store differ can = tt
place_on p last (q ∷ qs) store differ can =
    (closed_beside p.slot q.slot (header_of p.id p.kind p.segments) store.held differ.0 can.0, can.1, can.2, can.3, place_on p q.id qs store differ.1 can.4)

-- ---- all of them

module _ (S : List ℕ → Type 0) (files : Files) (distinct : HasNoCollisions S) where
  -- whichever stand, the image is the store with these, and the newest copy of each key that was held is what it was
  pub some_sealed : (ps : List Placed) (last : ℕ) (store : Store) (image new : List ℕ) → MayPlace S ps → last_id store.held ≤ last → CanPlace last ps store
      → Stands S store files image → AreLeftSo IsLeft ps image new
      → (marks : List Bool) × Stands S (with_some marks ps store) files new × KeepsCopies AnyKey store image (with_some marks ps store) new
  some_sealed [] last store image new may low can stands left =
      ([], subst (Stands S store files) (sym left) stands, λ key level bytes any has. subst (HasNewest store.held key level bytes) (sym left) has)
  some_sealed (p ∷ ps) last store image new may low can stands left =
      let above : last_id store.held < p.id = omega (arith, low, can.1) in
      let empty : get_or store.held p.slot None ≡ None = closed_empty p.slot store.held can.0 in
      elim left.2 [
        | inl closed ↦
            let same = unsealed_at p.slot store image left.0 left.1 empty S files stands closed in
            let rest = some_sealed ps p.id store left.0 new may.1 (omega (arith, above)) can.4 same left.3 in (
              false ∷ rest.0,
              rest.1,
              λ key level bytes any has. rest.2 key level bytes any (newest_unsealed p.slot store image left.0 left.1 empty stands.holds.right key level bytes has),
            )
        | inr container ↦
            let now = placed S p store files image left.0 distinct may.0.0 may.0.1 can.0 above stands left.1 container in
            let keeps = placed_keeps S p store files image left.0 distinct may.0.0 may.0.1 can.0 above stands left.1 container in
            let rest = some_sealed ps p.id (with_placed p store) left.0 new may.1
            (last_within p.slot (header_of p.id p.kind p.segments) store.held p.id (omega (arith, above)) (omega arith)) (place_on p p.id ps store can.3 can.4) now left.3 in
            (true ∷ rest.0, rest.1, λ key level bytes any has. rest.2 key level bytes any (keeps key level bytes any has))
      ]

  -- where all stand, it is the store with all
  pub all_sealed : (ps : List Placed) (last : ℕ) (store : Store) (image new : List ℕ) → MayPlace S ps → last_id store.held ≤ last → CanPlace last ps store
      → Stands S store files image → AreLeftSo IsThere ps image new → Stands S (with_all ps store) files new
  all_sealed [] last store image new may low can stands left = subst (Stands S store files) (sym left) stands
  all_sealed (p ∷ ps) last store image new may low can stands left =
      let above : last_id store.held < p.id = omega (arith, low, can.1) in
      all_sealed ps p.id (with_placed p store) left.0 new may.1
      (last_within p.slot (header_of p.id p.kind p.segments) store.held p.id (omega (arith, above)) (omega arith)) (place_on p p.id ps store can.3 can.4)
      (placed S p store files image left.0 distinct may.0.0 may.0.1 can.0 above stands left.1 left.2) left.3

-- ---- the first closed slots

-- a slot that is closed after a container more was closed before, and is another
closed_before : (slot other : ℕ) (h : HeaderValue) (held : List (Option HeaderValue)) → slice_get (with_slot slot h held) other ≡ Some None →
    (other ≢ slot) × (slice_get held other ≡ Some None)
closed_before slot other h [] closed = absurd cc
closed_before zero zero h (c ∷ cs) closed = absurd cc
closed_before zero (suc other) h (c ∷ cs) closed = ((λ e. absurd (omega (arith, e))), closed)
closed_before (suc slot) zero h (c ∷ cs) closed = ((λ e. absurd (omega (arith, e))), closed)
closed_before (suc slot) (suc other) h (c ∷ cs) closed = let rest = closed_before slot other h cs closed in ((λ e. rest.0 (omega (arith, e))), rest.1)

place_before : (p : Placed) (last : ℕ) (ps : List Placed) (store : Store) → CanPlace last ps (with_placed p store) →
    AllByRecursion (λ q. q.slot ≢ p.slot) ps × CanPlace last ps store
place_before p last [] store can = (tt, tt)
place_before p last (q ∷ qs) store can =
    let here = closed_before p.slot q.slot (header_of p.id p.kind p.segments) store.held can.0 in
    let rest = place_before p q.id qs store can.4 in
    ((here.0, rest.0), (here.1, can.1, can.2, can.3, rest.1))

-- where there are as many closed slots, they can be placed in these
pub can_place : (last : ℕ) (ps : List Placed) (store : Store) → AreFirstFree ps store → IdsRise last ps → length ps ≤ free_slots store.held → CanPlace last ps store
can_place last [] store first ids room = tt
can_place last (p ∷ ps) store first ids room =
    let some : 1 ≤ free_slots store.held = omega (arith, room) in
    let h : HeaderValue = header_of p.id p.kind p.segments in
    let less : suc (free_slots (with_slot p.slot h store.held)) ≡ free_slots store.held =
    subst (λ (s : ℕ). suc (free_slots (with_slot s h store.held)) ≡ free_slots store.held) (sym first.0) (free_less h store.held some) in
    let rest = place_before p p.id ps store (can_place p.id ps (with_placed p store) first.1 ids.2 (omega (arith, less, room))) in
    (subst (IsClosed store) (sym first.0) (first_closed store.held (some_free store.held some)), ids.0, ids.1, rest.0, rest.1)

-- and the store with all of them is what the seals make of it, one after the other
pub one_by_one : (ps : List Placed) (store : Store) → AreFirstFree ps store → with_all ps store ≡ with_all_sealed ps store
one_by_one [] store first = refl
one_by_one (p ∷ ps) store first =
    one_by_one ps (with_placed p store) first.1 ∙ ap (λ (s : ℕ). with_all_sealed ps (record store { held = with_slot s (header_of p.id p.kind p.segments) store.held })) first.0

-- ---- how many slots stay closed

-- a container takes one at most
free_at : (slot : ℕ) (h : HeaderValue) (held : List (Option HeaderValue)) → free_slots held ≤ suc (free_slots (with_slot slot h held))
free_at slot h [] = omega arith
free_at zero h (None ∷ cs) = omega arith
free_at zero h (Some g ∷ cs) = omega arith
free_at (suc slot) h (None ∷ cs) = omega (arith, free_at slot h cs)
free_at (suc slot) h (Some g ∷ cs) = free_at slot h cs

pub free_left : (spare : ℕ) (marks : List Bool) (ps : List Placed) (store : Store) → spare + length ps ≤ free_slots store.held → spare ≤ free_slots (with_some marks ps store).held
free_left spare [] ps store room = omega (arith, room)
free_left spare (mark ∷ marks) [] store room = omega (arith, room)
free_left spare (true ∷ marks) (p ∷ ps) store room =
    free_left spare marks ps (with_placed p store) (omega (arith, room, free_at p.slot (header_of p.id p.kind p.segments) store.held))
free_left spare (false ∷ marks) (p ∷ ps) store room = free_left spare marks ps store (omega (arith, room))

-- What a collection records of a container: its id, its kind, all its bytes, and the sum of its live copies.
use Rattle.gc_steps.proofs.Prelude.{◌≡◌, ℕ, ◌<◌, List, [], length, Option, Some, None, refl, sym, ◌∙◌, ap, subst, arith, slice_get, PlaceMap, HeaderValue, bytes_of, SumsLive, DiskView, shown_content, LiveKeys, ContainerLiveness, id_at, header_in, Store, Files, HoldsSlot, IsStoreOf, Represents, RepresentsSlots, count_of, SlotCount, Tables, Collection, Records, recorded, recorded_by}
use Rattle.gc_steps.proofs.FirstStage.{count_there}
use Rattle.std.proofs.Common.{get_or}
use Rattle.store_model.proofs.Free.{as_many}

pub recorded_id_by : (id : ℕ) (count : Option SlotCount) (live : ℕ) → (recorded_by id count live).id ≡ id
recorded_id_by id None live = refl
recorded_id_by id (Some c) live = refl

recorded_live_by : (id : ℕ) (count : Option SlotCount) (live : ℕ) → (recorded_by id count live).live ≡ live
recorded_live_by id None live = refl
recorded_live_by id (Some c) live = refl

-- so it is of the container in the slot
pub record IsOfSlot (index : PlaceMap) (live : LiveKeys) (held : List (Option HeaderValue)) (slot : ℕ) (r : ContainerLiveness) : Type 0 where
  pub header : HeaderValue
  pub there : slice_get held slot ≡ Some (Some header)
  pub id_is : r.id ≡ header.id
  pub kind_is : r.kind ≡ header.kind
  pub all_is : r.all ≡ bytes_of header.entries
  pub sums : SumsLive index live header.kind slot header.entries r.live

module _ (m : PlaceMap) (store : Store) (files : Files) (image : List ℕ) (t : Tables) (old new : DiskView) (c d : Collection) (holds : IsStoreOf store files image)
    (represents : Represents store (Some m) t)
    (content : old.content ≡ Some image) (at : ℕ) (within : at < length t.held.ids.items) (records : Records t.held (Some m) old new at c d) where
  abbrev slots : RepresentsSlots store.held t.held
  slots = represents.slots_hold

  shown : HoldsSlot image at (Some records.header)
  shown = shown_content old new (λ (i : List ℕ). HoldsSlot i at (Some records.header)) image records.shown content

  here : slice_get store.held at ≡ Some (Some records.header)
  here = header_in store.held image at records.header holds.right.slots_are (omega (arith, within, ap length slots.ids_are, as_many store.held)) shown

  count_is : slice_get t.held.counts.items at ≡ Some (count_of (Some records.header))
  count_is = ap (λ (counts : List SlotCount). slice_get counts at) slots.counts_are ∙ count_there store.held at records.header here

  abbrev one : ContainerLiveness
  one = recorded t.held at records.live

  -- as the table has it
  abbrev as_counted : Option SlotCount → ContainerLiveness
  as_counted count = recorded_by (get_or t.held.ids.items at 0) count records.live

  all_is : one.all ≡ records.header.data_length
  all_is = ap (λ (count : Option SlotCount). (as_counted count).all) count_is

  live_is : one.live ≡ records.live
  live_is = recorded_live_by (get_or t.held.ids.items at 0) (slice_get t.held.counts.items at) records.live

  pub record_of : IsOfSlot m c.live store.held at one
  record_of = record {
    header = records.header;
    there = here;
    id_is = recorded_id_by (get_or t.held.ids.items at 0) (slice_get t.held.counts.items at) records.live
        ∙ ap (λ (ids : List ℕ). get_or ids at 0) slots.ids_are ∙ id_at store.held at records.header here;
    kind_is = ap (λ (count : Option SlotCount). (as_counted count).kind) count_is;
    all_is = all_is ∙ sym records.right.whole;
    sums = subst (SumsLive m c.live records.header.kind at records.header.entries) (sym live_is) (records.live_is m refl);
  }

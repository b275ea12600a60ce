-- What holds of a sweep by the store holds beside what others do.
use Rattle.gc_sweep.proofs.Prelude.{◌≡◌, inl, inr, ℕ, ◌<◌, Bool, true, List, ◌++◌, take, Option, Some, refl, ap, arith, Contains-append_left, Contains-append_right, Entry, Place, PlaceMap, has_key, segment_key, HeaderValue, is_copy, LiveKeys, entry_key, place_of, Sweep, AreCopied, GoesOnBeside, HoldsSweep, IsCopied, IsHalfCopied, IsOrigin, SourcesStand, entry_in, sources_before}
use Rattle.std.specs.Prelude.{slice_get}
use Rattle.std.specs.FinMap as finite
use Rattle.std.specs.List.{Contains}
use Rattle.gc_sweep.proofs.InSlots.{at_copy, copy_at, one_header}
use Rattle.gc_sweep.proofs.KeyLists.{each_so}
use Rattle.gc_sweep.specs.Holding.{store_beside}

module _ (index later : PlaceMap) (held held_now : List (Option HeaderValue)) (image now : List ℕ) (live live_now : LiveKeys) (snapshot : ℕ) (s : Sweep)
    (sources : SourcesStand held snapshot s)
    (beside : GoesOnBeside (store_beside index held image live) (store_beside later held_now now live_now) snapshot) where
  -- what the index has now in a slot of a container of before it had
  had_in : (slot : ℕ) (h : HeaderValue) → slice_get held slot ≡ Some (Some h) → h.id < snapshot → (key : List ℕ) (place : Place) → finite.get later key ≡ Some place
      → place.slot ≡ slot
      → finite.get index key ≡ Some place
  had_in slot h there old key place has here = elim (beside.places key place has) [
    | inl was ↦ was
    | inr new ↦ absurd
        (let same = one_header held_now place.slot slot new.0 h here new.1.0 (beside.stand slot h there) in omega (arith, ap (λ (g : HeaderValue). g.id) same, new.1.1, old))
  ]

  had_waiting : (slot : ℕ) → Contains (s.waiting.items ++ s.ready.items) slot → (key : List ℕ) (place : Place) → finite.get later key ≡ Some place → place.slot ≡ slot
      → finite.get index key ≡ Some place
  had_waiting slot there = let stands = sources.stand slot there in had_in slot stands.0 stands.1.0 stands.1.1

  -- a source that goes on stands where it stood
  half_old : (slot : ℕ) (h : HeaderValue) → IsHalfCopied held_now s slot h → h.id < snapshot
  half_old slot h half = omega (arith, half.id_is, sources.old (sources_before s s.next) (sources.within half.some))

  half_before : (slot : ℕ) (h : HeaderValue) → IsHalfCopied held_now s slot h → IsHalfCopied held s slot h
  half_before slot h half = record { some = half.some; there = beside.stood slot h half.there (half_old slot h half); id_is = half.id_is }

  origin_on : (slot : ℕ) → IsOrigin held snapshot s slot → IsOrigin held_now snapshot s slot
  origin_on slot (inl waits) = inl waits
  origin_on slot (inr (inl (h, half))) = inr (inl (h, record { some = half.some; there = beside.stand slot h half.there; id_is = half.id_is }))
  origin_on slot (inr (inr (h, (there, new)))) = inr (inr (h, (beside.stand slot h there, new)))

  copied_on : (slot : ℕ) (h : HeaderValue) (test : List ℕ → Bool) (count : ℕ) → slice_get held slot ≡ Some (Some h) → h.id < snapshot → AreCopied test index slot h count
      → AreCopied test later slot h count
  copied_on slot h test count there old all =
      each_so (λ (e : Entry). is_copy index h.kind slot e ≡ true → test (entry_key h.kind e) ≡ true)
      (λ (e : Entry). is_copy later h.kind slot e ≡ true → test (entry_key h.kind e) ≡ true) (take count h.entries)
      (λ e was copy. was (at_copy index h.kind slot e (had_in slot h there old (entry_key h.kind e) (place_of slot e) (copy_at later h.kind slot e copy) refl))) all

  -- It holds on: of the store, the index and the live keys that there are then.
  pub holds_beside : HoldsSweep index held image live snapshot s → HoldsSweep later held_now now live_now snapshot s
  holds_beside holds = record {
    copied = each_so (IsCopied index live held image s.buffer.kind) (IsCopied later live_now held_now now s.buffer.kind) s.buffer.segments
        (λ x is. (
        let one : IsCopied later live_now held_now now s.buffer.kind x =
        record {
          is_live = beside.keys (segment_key s.buffer.kind x) is.is_live;
          newest = beside.copies (segment_key s.buffer.kind x) x.level x.bytes (is.is_live.0, is.is_live.1.0) is.newest;
        } in
        one
        )) holds.copied;
    origin = λ key place has found. elim (beside.places key place found) [
      | inl was ↦ origin_on place.slot (holds.origin key place has was)
      | inr new ↦ inr (inr new)
    ];
    waiting = λ slot there key place found here. holds.waiting slot there key place
        (had_waiting slot (Contains-append_left s.waiting.items s.ready.items slot there) key place found here) here;
    ready = λ slot there key place found here. holds.ready slot there key place
        (had_waiting slot (Contains-append_right s.waiting.items s.ready.items slot there) key place found here) here;
    half = λ slot h half.
        let was = half_before slot h half in
        let so = holds.half slot h was in
        (so.0, copied_on slot h (has_key s.buffer) (entry_in s.next) was.there (half_old slot h half) so.1);
  }

-- and so do its sources
pub stand_beside : (held held_now : List (Option HeaderValue)) (snapshot : ℕ) (s : Sweep)
    → ((slot : ℕ) (h : HeaderValue) → slice_get held slot ≡ Some (Some h) → slice_get held_now slot ≡ Some (Some h))
    → SourcesStand held snapshot s → SourcesStand held_now snapshot s
stand_beside held held_now snapshot s stays sources = record {
  old = sources.old;
  before = sources.before;
  within = sources.within;
  stand = λ slot there. let was = sources.stand slot there in (was.0, (stays slot was.0 was.1.0, was.1.1));
}

-- What holds of a sweep by the store holds once the sources that are ready are given back.
use Rattle.gc_sweep.proofs.Prelude.{◌≡◌, ◌≢◌, inl, inr, ℕ, ◌<◌, ◌≤◌, true, List, [], ◌∷◌, length, get_or, Option, Some, refl, sym, ◌∙◌, ap, subst, arith, AllByRecursion, PlaceMap, Contents, has_key, segment_key, HeaderValue, LiveKeys, HasKey, with_all_freed, Store, HasNewest, RepresentsSlots, SlotTable, Next, CopyNext, Flush, Release, End, Sweep, AreCopied, HoldsSweep, IsCopied, IsHalfCopied, IsOrigin, HasReleased, IsNext, HasNext, IsSweeping, entry_in, sources_before}
use Rattle.std.specs.Prelude.{slice_get}
use Rattle.std.specs.List.{Contains}
use Rattle.store_model.proofs.FreedAll.{others_all}
use Rattle.store_model.proofs.FreedFiles.{not_freed}
use Rattle.gc_sweep.proofs.Holds.{AreInTurn, in_turn, no_key}
use Rattle.gc_sweep.proofs.InSlots.{IsSourceIn, none_in, one_header}
use Rattle.gc_sweep.proofs.KeyLists.{each_so}

-- ---- sources that are given back

-- those of before stand in none of the slots of later containers
apart_from_new : (held : List (Option HeaderValue)) (snapshot : ℕ) (sources : List ℕ) (before other : ℕ) (h : HeaderValue) → snapshot ≤ h.id
    → slice_get held other ≡ Some (Some h) → (slots : List ℕ) → AllByRecursion (IsSourceIn held snapshot sources before) slots
    → AllByRecursion (λ slot. slot ≢ other) slots
apart_from_new held snapshot sources before other h new there [] all = tt
apart_from_new held snapshot sources before other h new there (slot ∷ slots) all = (
  (λ same.
      let one = one_header held slot other all.0.header h same all.0.there there in omega (arith, new, all.0.old, ap (λ (g : HeaderValue). g.id) one)),
  apart_from_new held snapshot sources before other h new there slots all.1,
)

module _ (t then : SlotTable) (index : PlaceMap) (store : Store) (image now : List ℕ) (live : LiveKeys) (snapshot source entry : ℕ) (s s' : Sweep)
    (slots : RepresentsSlots store.held t)
    (under : IsSweeping t snapshot s) (stage : s.next ≡ Release source entry) (released : HasReleased then source entry s s')
    (holds : HoldsSweep index store.held image live snapshot s) where
  abbrev store_now : Store
  store_now = with_all_freed s.ready.items store

  abbrev held_now : List (Option HeaderValue)
  held_now = store_now.held

  turn : AreInTurn index store.held snapshot s
  turn = in_turn t index store.held image live snapshot source entry s slots under stage holds

  has : HasNext t s (Release source entry)
  has = subst (HasNext t s) stage under.next_is

  before_is : sources_before s s.next ≡ source
  before_is = ap (sources_before s) stage

  entry_is : entry_in s.next ≡ entry
  entry_is = ap entry_in stage

  sources_are : s'.sources.items ≡ s.sources.items
  sources_are = ap (λ (v : _). v.items) released.sources_are

  waiting_is : s'.waiting.items ≡ s.waiting.items
  waiting_is = ap (λ (v : _). v.items) released.waiting_is

  -- the same source goes on, from the same entry, if one goes on
  goes_on : (sources_before s' s'.next ≡ source) × (0 < entry_in s'.next → entry_in s'.next ≡ entry)
  goes_on = by_next s'.next released.next_is
    where
      by_next : (n : Next) → IsNext then s.sources.items s.buffer source entry n → (sources_before s' n ≡ source) × (0 < entry_in n → entry_in n ≡ entry)
      by_next (CopyNext k e) is = (is.0, λ some. is.1)
      by_next (Flush k e) is = (is.0, λ some. is.1)
      by_next (Release k e) is = absurd is
      by_next End is = (omega (arith, is.1, ap length sources_are, under.before, before_is), λ some. absurd (omega (arith, some)))

  -- the slots but these are as they were
  there_still : (other : ℕ) (h : HeaderValue) → snapshot ≤ h.id → slice_get store.held other ≡ Some (Some h) → slice_get held_now other ≡ Some (Some h)
  there_still other h new there =
      others_all s.ready.items other store (apart_from_new store.held snapshot s.sources.items (sources_before s s.next) other h new there s.ready.items turn.stand) ∙ there

  origin_on : (key : List ℕ) (other : ℕ) → has_key s.buffer key ≡ true → IsOrigin store.held snapshot s other → IsOrigin held_now snapshot s' other
  origin_on key other filled (inl waits) = inl (subst (λ (xs : List ℕ). Contains xs other) (sym waiting_is) waits)
  origin_on key other filled (inr (inl (h, half))) = absurd (no_key s.buffer key (has.1 (omega (arith, half.some, entry_is))).1 filled)
  origin_on key other filled (inr (inr (h, (there, new)))) = inr (inr (h, (there_still other h new there, new)))

  half_before : (other : ℕ) (h : HeaderValue) → IsHalfCopied held_now s' other h → IsHalfCopied store.held s other h
  half_before other h half = record {
    some = omega (arith, half.some, goes_on.1 half.some, entry_is);
    there = (not_freed s.ready.items store other h half.there).1;
    id_is = half.id_is ∙ ap (λ (xs : List ℕ). get_or xs (sources_before s' s'.next) 0) sources_are ∙ ap (λ (k : ℕ). get_or s.sources.items k 0) (goes_on.0 ∙ sym before_is);
  }

  same_filled : (key : List ℕ) → has_key s'.buffer key ≡ has_key s.buffer key
  same_filled key = ap (λ (c : Contents). has_key c key) released.buffer_is

  pub holds_released : ((key : List ℕ) (level : ℕ) (bytes : List ℕ) → HasKey index key → HasNewest store.held key level bytes image → HasNewest held_now key level bytes now)
      → HoldsSweep index held_now now live snapshot s'
  holds_released keeps = record {
    copied = subst (λ (c : Contents). AllByRecursion (IsCopied index live held_now now c.kind) c.segments) (sym released.buffer_is)
        (each_so (IsCopied index live store.held image s.buffer.kind) (IsCopied index live held_now now s.buffer.kind) s.buffer.segments
        (λ x is. (
        let one : IsCopied index live held_now now s.buffer.kind x =
        record { is_live = is.is_live; newest = keeps (segment_key s.buffer.kind x) x.level x.bytes (is.is_live.0, is.is_live.1.0) is.newest } in
        one
        )) holds.copied);
    origin = λ key place filled found.
        let was : has_key s.buffer key ≡ true = sym (same_filled key) ∙ filled in
        origin_on key place.slot was (holds.origin key place was found);
    waiting = λ other there key place found here. same_filled key ∙ holds.waiting other (subst (λ (xs : List ℕ). Contains xs other) waiting_is there) key place found here;
    ready = λ other there. absurd (none_in s'.ready.items other released.ready_is there);
    half = λ other h half.
        let so = holds.half other h (half_before other h half) in
        let count : entry_in s'.next ≡ entry_in s.next = goes_on.1 half.some ∙ sym entry_is in (
          omega (arith, so.0, count),
          subst (λ (c : Contents). AreCopied (has_key c) index other h (entry_in s'.next)) (sym released.buffer_is)
              (subst (λ (n : ℕ). AreCopied (has_key s.buffer) index other h n) (sym count) so.1),
        );
  }

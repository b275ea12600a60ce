-- The reserve of slots while a sweep is under way, and that what was copied may be written.
use Rattle.gc_sweep.proofs.Prelude.{◌≡◌, ◌≢◌, ◌⊎◌, inl, inr, ℕ, ◌+◌, ◌<◌, ◌≤◌, true, false, List, [], ◌∷◌, count_by, Option, Some, None, refl, sym, ◌∙◌, ap, subst, arith, ◌==◌, nat_le, AllByRecursion, leb_tells, sha256, Place, PlaceMap, Segment, segment_key, HeaderValue, RESERVE, LiveKeys, HasReserve, HoldsNone, AreHeaders, HasKey, IsPartialIndexOf, first_free, free_slots, MaySeal, HasNewest, some_same, first_closed, some_free, zeros_free, RepresentsSlots, SlotTable, Next, CopyNext, Flush, Release, End, Sweep, HoldsSweep, IsCopied, HasNoEntryIn, HasNoEntryInAny, IsSweeping, free_in, sources_before, taken_from}
use Rattle.std.specs.Prelude.{slice_get}
use Rattle.store_model.specs.Collisions.{AreAmong, IsAmong}
use Rattle.store_model.specs.Reserve.{IsSpare}
use Rattle.store_model.specs.Slots.{Copy}
use Rattle.store_model.specs.Standing.{AreNodes, IsOfKind}
use Rattle.store_model.proofs.FreedFiles.{free_reserve}
use Rattle.store_model.proofs.HeldSlots.{IsAmongThese, IsNodeEntry, among_so, newest_so, nodes_so}
use Rattle.gc_sweep.proofs.Holds.{AreInTurn, in_turn}
use Rattle.gc_sweep.proofs.InSlots.{IsSourceIn, copy_of}
use Rattle.gc_sweep.proofs.KeyLists.{each_so}

-- ---- the reserve

-- a slot in which the index has no entry has the newest copy of no key that it has
pub none_newest : (held : List (Option HeaderValue)) (index : PlaceMap) (slot : ℕ) → IsPartialIndexOf held index → HasNoEntryIn index slot → HoldsNone (HasKey index) held slot
none_newest held index slot partial none key copy has is here =
    let found = copy_of held index partial key has.0 has.1 in
    none key has.0 has.1 (ap (λ (p : Place). p.slot) (sym found.1.1 ∙ ap (λ (c : Copy). c.place) (some_same found.0 copy (sym found.1.0 ∙ is))) ∙ here)

module _ (t : SlotTable) (index : PlaceMap) (held : List (Option HeaderValue)) (image : List ℕ) (live : LiveKeys) (snapshot : ℕ) (s : Sweep) (slots : RepresentsSlots held t)
    (headers : AreHeaders held)
    (under : IsSweeping t snapshot s) where
  free_is : free_in t ≡ free_slots held
  free_is = ap (λ (ids : List ℕ). count_by (λ id. id == 0) ids) slots.ids_are ∙ zeros_free held headers

  most_one : (n : Next) → taken_from n ≤ 1
  most_one (CopyNext source entry) = omega arith
  most_one other = omega arith

  pub one_free : 1 ≤ free_slots held
  one_free = omega (arith, under.room, free_is, most_one s.next)

  module _ (partial : IsPartialIndexOf held index) (holds : HoldsSweep index held image live snapshot s) where
    both_closed : 2 ≤ free_slots held → HasReserve (HasKey index) held
    both_closed enough = free_reserve (HasKey index) held enough

    -- a closed one, and one that is given back next
    closed_and : (slot : ℕ) (h : HeaderValue) → slice_get held slot ≡ Some (Some h) → HasNoEntryIn index slot → HasReserve (HasKey index) held
    closed_and slot h there none = by_order (leb_tells (first_free held) slot)
      where
        closed : slice_get held (first_free held) ≡ Some None
        closed = first_closed held (some_free held one_free)

        differ : first_free held ≢ slot
        differ same = let wrong : None ≡ Some h = some_same None (Some h) (sym closed ∙ ap (slice_get held) same ∙ there) in cc

        spare : IsSpare (HasKey index) held slot
        spare = record { header = h; holds = there; none = none_newest held index slot partial none }

        by_order : ((nat_le (first_free held) slot ≡ true) × (first_free held ≤ slot))
            ⊎ ((nat_le (first_free held) slot ≡ false) × (slot < first_free held)) → HasReserve (HasKey index) held
        by_order (inl least) = record { first = first_free held; second = slot; differ = omega (arith, least.1, differ); first_is = inl closed; second_is = inr spare }
        by_order (inr more) = record { first = slot; second = first_free held; differ = more.1; first_is = inr spare; second_is = inl closed }

    closed_and_ready : AreInTurn index held snapshot s → HasReserve (HasKey index) held
    closed_and_ready turn = by_ready s.ready.items turn.some turn.stand turn.none
      where
        by_ready : (xs : List ℕ) → xs ≢ [] → AllByRecursion (IsSourceIn held snapshot s.sources.items (sources_before s s.next)) xs → HasNoEntryInAny index xs
            → HasReserve (HasKey index) held
        by_ready [] some stand none = absurd (some refl)
        by_ready (x ∷ xs) some stand none = closed_and x stand.0.header stand.0.there none.0

    -- two slots are closed; or one is, and another is given back
    pub has_reserve : HasReserve (HasKey index) held
    has_reserve = by_next s.next refl
      where
        closed_by : (n : Next) → s.next ≡ n → taken_from n ≡ 0 → HasReserve (HasKey index) held
        closed_by n stage none = both_closed
            (let room : RESERVE ≤ free_in t + taken_from n = subst (λ (n : Next). RESERVE ≤ free_in t + taken_from n) stage under.room in omega (arith, room, none, free_is))

        by_next : (n : Next) → s.next ≡ n → HasReserve (HasKey index) held
        by_next (CopyNext source entry) stage = closed_by (CopyNext source entry) stage refl
        by_next (Flush source entry) stage = closed_by (Flush source entry) stage refl
        by_next (Release source entry) stage = closed_and_ready (in_turn t index held image live snapshot source entry s slots under stage holds)
        by_next End stage = closed_by End stage refl

-- ---- what was copied may be written

module _ (index : PlaceMap) (held : List (Option HeaderValue)) (image : List ℕ) (live : LiveKeys) (snapshot : ℕ) (s : Sweep)
    (holds : HoldsSweep index held image live snapshot s) where
  -- each segment is the newest copy of its key
  pub are_newest : AllByRecursion (λ x. HasNewest held (segment_key s.buffer.kind x) x.level x.bytes image) s.buffer.segments
  are_newest =
      each_so (IsCopied index live held image s.buffer.kind) (λ x. HasNewest held (segment_key s.buffer.kind x) x.level x.bytes image) s.buffer.segments
      (λ x is. is.newest) holds.copied

  module _ (S : List ℕ → Type 0) (nodes : AreNodes 0 held image) (among : AreAmong S 0 held image) where
    may_seal : (x : Segment) → HasNewest held (segment_key s.buffer.kind x) x.level x.bytes image → MaySeal S s.buffer.kind x
    may_seal x has =
        let node = newest_so IsNodeEntry held s.buffer.kind (sha256 x.bytes) image has.copy (nodes_so 0 held image nodes) has.copy_is in
        let leaf = newest_so (IsAmongThese S) held s.buffer.kind (sha256 x.bytes) image has.copy (among_so S 0 held image among) has.copy_is in
        record {
          of_kind = subst (λ (level : ℕ). IsOfKind s.buffer.kind level x.bytes) (sym node.level_is ∙ has.level_is)
              (subst (IsOfKind s.buffer.kind node.entry.level) has.bytes_are node.so);
          among = subst (IsAmong S s.buffer.kind) has.bytes_are leaf.so;
        }

    pub may_flush : AllByRecursion (MaySeal S s.buffer.kind) s.buffer.segments
    may_flush = each_so (λ x. HasNewest held (segment_key s.buffer.kind x) x.level x.bytes image) (MaySeal S s.buffer.kind) s.buffer.segments may_seal are_newest

-- A disk on which containers are given back, one after the other.
use Rattle.recovery.proofs.Prelude.{◌⊎◌, inl, inr, ℕ, zero, suc, ◌+◌, ◌<◌, ◌≤◌, List, [], ◌∷◌, ◌++◌, length, take, slice_set, Bool, Option, Some, None, Result, Ok, Err, OnErr, refl, sym, ◌∙◌, ap, subst, arith, slice_get, take_all, byte_at, Known, KnownWith, byte-written, Frees, IsFreed, HeaderValue, Done, Broken, DiskView, IsLater, IsDurable, CrashLeaves, Puts, Writes, later_here, later_on, leaves_on, leaves_weaker, reads_here, reads_leave, slot_at, RESERVE, Top, FreesSome, IsLeastSpare, IsPartlyFreed, SameButGates, with_all_freed, Store, Encodes, HoldsSlot, HoldSlots, some_same, IsVisited, IsLeastIn, IsLeastOf, IsReady, LeavesFreed, GivesBack, StopsGiving, IsGiving}
use Rattle.std.proofs.Common.{◌≡◌}
use Rattle.std.proofs.lemmas.List.{get_or_past}
use Rattle.base_model.specs.Frames.{SameOutside}
use Rattle.base_model.proofs.Frames.{byte_before, byte_after}
use Rattle.store_model.proofs.Freed.{encodes_freed, same_gate, same_more, same_none, unfreed_same}
use Rattle.recovery.specs.Making.{AreClear, ImagesFreed, Stands, IsSteady}
use Rattle.recovery.proofs.Spare.{least_given, none_given, ready_after, all_freed_more, frees_more}

-- ---- one image

slot_held : (from index : ℕ) (held : List (Option HeaderValue)) (c : Option HeaderValue) (image : List ℕ) → HoldSlots from held image → slice_get held index ≡ Some c →
    HoldsSlot image (from + index) c
slot_held from index [] c image holds there = absurd cc
slot_held from zero (d ∷ held) c image holds there =
    subst (λ (s : ℕ). HoldsSlot image s c) (omega arith) (subst (λ (x : Option HeaderValue). HoldsSlot image from x) (some_same d c there) holds.0)
slot_held from (suc index) (d ∷ held) c image holds there =
    subst (λ (s : ℕ). HoldsSlot image s c) (omega arith) (slot_held (from + 1) index held c image holds.1 there)

-- ---- gates that were cleared

-- 0 was written over it; past the end it is 0 anyway
byte_cleared : (at : ℕ) (old new : List ℕ) → Puts at (0 ∷ []) old new → length new ≡ length old → byte_at at new ≡ 0
byte_cleared at old new put size = elim (within_or at (length old)) [
  | inl within ↦ ap (byte_at at) put ∙ byte-written at at 0 (0 ∷ []) old (omega arith) (omega arith) (omega (arith, within))
  | inr past ↦ get_or_past new at 0 (omega (arith, past, size))
]
  where
    within_or : (i n : ℕ) → (i < n) ⊎ (n ≤ i)
    within_or i n = grind (arith)

-- one that was cleared before is
still_clear : (at i : ℕ) (old new : List ℕ) → SameOutside at 1 old new → byte_at at new ≡ 0 → byte_at i old ≡ 0 → byte_at i new ≡ 0
still_clear at i old new same here before = elim place_of [
  | inl below ↦ byte_before i at 1 old new below same ∙ before
  | inr (inl above) ↦ byte_after i at 1 old new above same ∙ before
  | inr (inr is) ↦ ap (λ (k : ℕ). byte_at k new) is ∙ here
]
  where
    place_of : (i < at) ⊎ ((at + 1 ≤ i) ⊎ (i ≡ at))
    place_of = grind (arith)

-- one more
clear_more : (freed : List ℕ) (slot : ℕ) (old new : List ℕ) → SameOutside (slot_at slot) 1 old new → byte_at (slot_at slot) new ≡ 0 → AreClear freed old →
    AreClear (freed ++ slot ∷ []) new
clear_more [] slot old new same here all = (here, tt)
clear_more (first ∷ freed) slot old new same here all = (still_clear (slot_at slot) (slot_at first) old new same here all.0, clear_more freed slot old new same here all.1)

-- ---- some of them are given back

part_all : (store : Store) (freed given c : List ℕ) → Encodes c (with_all_freed freed store) → SameButGates freed given c → IsPartlyFreed store freed given c
part_all store freed given c right same =
    let all : take (length freed) freed ≡ freed = take_all (length freed) freed (omega arith) in
    record {
      count = length freed;
      right = subst (λ (slots : List ℕ). Encodes c (with_all_freed slots store)) (sym all) right;
      same = subst (λ (slots : List ℕ). SameButGates slots given c) (sym all) same;
    }

pub part_none : (store : Store) (given : List ℕ) → Encodes given store → IsPartlyFreed store [] given given
part_none store given right = part_all store [] given given right (same_none given)

taken_more : (count slot : ℕ) (freed : List ℕ) → (n : ℕ) × (take n (freed ++ slot ∷ []) ≡ take count freed)
taken_more zero slot freed = (0, refl)
taken_more (suc count) slot [] = (0, refl)
taken_more (suc count) slot (first ∷ freed) =
    let rest = taken_more count slot freed in (suc rest.0, ap (λ (xs : List ℕ). first ∷ xs) rest.1)

part_more : (store : Store) (freed : List ℕ) (slot : ℕ) (given c : List ℕ) → IsPartlyFreed store freed given c → IsPartlyFreed store (freed ++ slot ∷ []) given c
part_more store freed slot given c part =
    let more = taken_more part.count slot freed in
    record {
      count = more.0;
      right = subst (λ (slots : List ℕ). Encodes c (with_all_freed slots store)) (sym more.1) part.right;
      same = subst (λ (slots : List ℕ). SameButGates slots given c) (sym more.1) part.same;
    }

module _ (store : Store) (freed : List ℕ) (slot : ℕ) (h : HeaderValue) (given mid : List ℕ) (there : slice_get (with_all_freed freed store).held slot ≡ Some (Some h))
    (right : Encodes mid (with_all_freed freed store)) (same : SameButGates freed given mid) where
  -- one more
  freed_one : (c : List ℕ) → IsFreed slot mid c → Encodes c (with_all_freed (freed ++ slot ∷ []) store) × SameButGates (freed ++ slot ∷ []) given c
  freed_one c one = (
    subst (Encodes c) (sym (all_freed_more freed slot store)) (encodes_freed slot h (with_all_freed freed store) mid c right there one.0 one.1),
    same_more freed (slot ∷ []) given mid c same (same_gate slot mid c one.0),
  )

  -- and what a crash leaves while it is
  freeing_one : (c : List ℕ) → Frees slot mid c → IsPartlyFreed store (freed ++ slot ∷ []) given c
  freeing_one c torn =
      let had : HoldsSlot mid slot (Some h) =
      subst (λ (s : ℕ). HoldsSlot mid s (Some h)) (omega arith) (slot_held 0 slot (with_all_freed freed store).held (Some h) mid right.slots_are there) in
      elim (torn.1 h had) [
        | inl closed ↦ let one = freed_one c (torn.0, closed) in part_all store (freed ++ slot ∷ []) given c one.0 one.1
        | inr has ↦
            subst (IsPartlyFreed store (freed ++ slot ∷ []) given) (sym (unfreed_same slot h mid c torn.0 had has))
            (part_more store freed slot given mid (part_all store freed given mid right same))
      ]

-- ---- the disk

-- nothing yet
pub stands_first : (size : ℕ) (store : Store) (visited : List Top) (ids : List ℕ) (used : List Bool) (free : ℕ) (v : DiskView) → IsReady size store visited ids used free →
    Stands size store visited ids used free v v
stands_first size store visited ids used free v ready = record {
  freed = [];
  are_freed = record {
    frees = tt;
    content = λ given known right. (given, known, (right, same_none given, tt));
    crash = λ given known right. reads_leave _ v v (λ c image. inl image) (reads_here v);
  };
  ready = ready;
}

module _ (size : ℕ) (store : Store) (visited : List Top) (ids : List ℕ) (used : List Bool) (free : ℕ) (old mid new : DiskView) (later : IsLater old mid) (durable : IsDurable mid)
    (stands : Stands size store visited ids used free old mid) (few : free < RESERVE) (slot : ℕ) (least : IsLeastIn ids used (length ids) slot) where
  abbrev so_far : Store
  so_far = with_all_freed stands.freed store

  abbrev after : List ℕ
  after = stands.freed ++ slot ∷ []

  spare : IsLeastSpare (IsVisited visited) so_far slot
  spare = least_given size so_far visited ids used free stands.ready slot least

  crash_leaves : ((given : List ℕ) → mid.content ≡ Some given → CrashLeaves (λ c. mid.images c ⊎ ((d : List ℕ) × mid.images d × Frees slot d c)) mid new) →
      LeavesFreed store after old new
  crash_leaves steps given known right =
      let now = stands.are_freed.content given known right in
      let torn = leaves_weaker _ (λ c. old.images c ⊎ IsPartlyFreed store after given c) mid new (λ c from. elim from [
        | inl same ↦
            inr (part_more store stands.freed slot given c
            (subst (IsPartlyFreed store stands.freed given) (sym (durable now.0 now.1 c same)) (part_all store stands.freed given now.0 now.2.0 now.2.1)))
        | inr stepped ↦
            inr (freeing_one store stands.freed slot spare.header given now.0 spare.holds now.2.0 now.2.1 c
            (subst (λ (d : List ℕ). Frees slot d c) (durable now.0 now.1 stepped.0 stepped.1) stepped.2))
      ]) (steps now.0 now.1) in
      leaves_on (λ c. old.images c ⊎ IsPartlyFreed store stands.freed given c) _ (λ c. old.images c ⊎ IsPartlyFreed store after given c) old mid new later.clock_is
      (stands.are_freed.crash given known right) torn (λ c is. elim is [ inl image ↦ inl image | inr part ↦ inr (part_more store stands.freed slot given c part) ]) (λ c is. is)

  images_cut : ((given : List ℕ) → mid.content ≡ Some given → CrashLeaves (λ c. mid.images c ⊎ ((d : List ℕ) × mid.images d × Frees slot d c)) mid new) →
      ImagesFreed store after old new
  images_cut steps given known right c image =
      let now = stands.are_freed.content given known right in
      elim ((steps now.0 now.1).now c image) [
        | inl same ↦
            part_more store stands.freed slot given c
            (subst (IsPartlyFreed store stands.freed given) (sym (durable now.0 now.1 c same)) (part_all store stands.freed given now.0 now.2.0 now.2.1))
        | inr stepped ↦
            freeing_one store stands.freed slot spare.header given now.0 spare.holds now.2.0 now.2.1 c
            (subst (λ (d : List ℕ). Frees slot d c) (durable now.0 now.1 stepped.0 stepped.1) stepped.2)
      ]

  frees_after : FreesSome (IsVisited visited) after store
  frees_after = frees_more (IsVisited visited) stands.freed slot store stands.are_freed.frees (subst (λ (n : ℕ). n < RESERVE) stands.ready.free_is few) spare

  -- one more is given back
  pub stands_more : Writes (λ _. Frees slot) (IsFreed slot) Done mid new → Known mid.content (λ given. KnownWith new.content (Puts (slot_at slot) (0 ∷ []) given)) →
      Stands size store visited (slice_set ids slot 0) used (free + 1) old new
  stands_more writes closes = record {
    freed = after;
    are_freed = record {
      frees = frees_after;
      content = λ given known right.
          let now = stands.are_freed.content given known right in
          let then = writes.written.0 now.0 now.1 in
          let put = closes now.0 now.1 in
          let one = freed_one store stands.freed slot spare.header given now.0 spare.holds now.2.0 now.2.1 then.0 then.2 in
          let clear : byte_at (slot_at slot) then.0 ≡ 0 =
          byte_cleared (slot_at slot) now.0 then.0 (subst (Puts (slot_at slot) (0 ∷ []) now.0) (some_same put.0 then.0 (sym put.1 ∙ then.1)) put.2) then.2.0.size in
          (then.0, then.1, (one.0, one.1, clear_more stands.freed slot now.0 then.0 then.2.0 clear now.2.2));
      crash = crash_leaves writes.steps;
    };
    ready = subst (λ (s : Store). IsReady size s visited (slice_set ids slot 0) used (free + 1)) (sym (all_freed_more stands.freed slot store))
        (ready_after size so_far visited ids used free stands.ready slot spare);
  }

  -- or it isn't known of it
  pub stands_cut : Writes (λ _. Frees slot) (IsFreed slot) Broken mid new → StopsGiving store visited old new
  stands_cut writes = record {
    freed = after;
    are_cut = record {
      frees = frees_after;
      content = λ given known right.
          let now = stands.are_freed.content given known right in
          let then = writes.later.tells now.0 now.1 in
          (then.0, then.1, images_cut writes.steps given known right then.0 (new.as_read then.0 then.1));
      images = images_cut writes.steps;
      crash = crash_leaves writes.steps;
    };
  }

module _ (size : ℕ) (store : Store) (visited : List Top) (ids : List ℕ) (used : List Bool) (free : ℕ) (old new : DiskView)
    (stands : Stands size store visited ids used free old new) where
  pub given_none : IsLeastOf ids used (length ids) None → GivesBack store visited old new
  given_none none = record {
    freed = stands.freed;
    are_freed = stands.are_freed;
    enough = none_given size (with_all_freed stands.freed store) visited ids used free stands.ready
        none;
  }

-- calls that were done
pub steady_here : (v : DiskView) → IsDurable v → IsSteady v v
steady_here v durable = record { later = later_here v; faults_are = refl; durable = durable }

-- the turns of the loop
pub giving_first : (ids : List ℕ) (used : List Bool) (free : ℕ) (v : DiskView) → IsDurable v → IsGiving ids used free ids free v v
giving_first ids used free v durable = record { steady = steady_here v durable; stands = λ store visited ready. stands_first v.size store visited ids used free v ready }

pub giving_more : (first : List ℕ) (used : List Bool) (closed : ℕ) (ids : List ℕ) (free : ℕ) (old mid new : DiskView) → IsGiving first used closed ids free old mid →
    free < RESERVE → (slot : ℕ)
    → IsLeastIn ids used (length ids) slot → Writes (λ _. Frees slot) (IsFreed slot) Done mid new →
    Known mid.content (λ given. KnownWith new.content (Puts (slot_at slot) (0 ∷ []) given))
    → IsGiving first used closed (slice_set ids slot 0) (free + 1) old new
giving_more first used closed ids free old mid new giving few slot least writes closes = record {
  steady = record {
    later = later_on old mid new giving.steady.later writes.later;
    faults_are = writes.faults_are ∙ giving.steady.faults_are;
    durable = writes.written.1;
  };
  stands = λ store visited ready.
      stands_more old.size store visited ids used free old mid new giving.steady.later giving.steady.durable (giving.stands store visited ready) few slot least writes closes;
}

-- no slot was found
pub no_least : (ids : List ℕ) (used : List Bool) (found : Option ℕ) → IsLeastOf ids used (length ids) found → ((slot : ℕ) → found ≡ Some slot → ⊥) →
    IsLeastOf ids used (length ids) None
no_least ids used None least none = least
no_least ids used (Some slot) least none = absurd (none slot refl)

-- what holds anyway holds after an error
pub on_err : {T E : Type 0} (result : Result T E) (P : Type 0) → P → OnErr result P
on_err (Ok x) P holds = tt
on_err (Err e) P holds = holds

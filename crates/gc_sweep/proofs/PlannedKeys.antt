-- What the plan of a source makes of the index and of what is filled, where the index's map is known and the disk tells its content.
use Rattle.gc_sweep.proofs.Prelude.{◌≡◌, ◌≢◌, ◌⊎◌, inl, inr, ℕ, zero, suc, ◌+◌, ◌<◌, ◌≤◌, true, List, [], ◌∷◌, ◌++◌, length, drop, take, map, Option, Some, None, find, refl, sym, ◌∙◌, ap, subst, arith, length-append, AllByRecursion, bytes_eq, Entry, Kind, Place, PlaceMap, Contents, Segment, has_key, keys_of, segment_key, HeaderValue, Plan, is_copy, without_keys, IsPlan, Planned, Source, planned, source_of, Shows, DiskView, shown_content, LiveKeys, entry_key, IsPartialIndexOf, place_of, bytes_at, some_same, found_so, Sweep, IsFilling, AreCopied, IsCopied, IsLive}
use Rattle.std.specs.FinMap as finite
use Rattle.gc_enumerate.specs.Live.{IsLiveAt}
use Rattle.gc_sweep.proofs.Gains.{Gains, IsOfCopy, IsOfDead, IsPlanned, all_planned, gained_keys, takes_gain}
use Rattle.gc_sweep.proofs.Holds.{no_key, none_copied}
use Rattle.gc_sweep.proofs.InSlots.{at_copy, copy_at, copy_of, lies_at, live_anywhere, live_on, one_header}
use Rattle.gc_sweep.proofs.KeyLists.{both_so, each_so, gone, had_before, keys_append, listed, listed_either, listed_so, place_stays}
use Rattle.gc_sweep.proofs.SourceRead.{IsReadOf}

-- ---- the first of a list

-- what is so of the first, and of those after them
upto : (P : Entry → Type 0) (n m : ℕ) (es : List Entry) → AllByRecursion P (take n es) → AllByRecursion P (take m (drop n es)) → AllByRecursion P (take (n + m) es)
upto P zero m es first second = subst (λ (k : ℕ). AllByRecursion P (take k es)) (let is : m ≡ zero + m = omega arith in is) second
upto P (suc n) m [] first second = subst (λ (k : ℕ). AllByRecursion P (take k [])) (let is : suc (n + m) ≡ suc n + m = omega arith in is) tt
upto P (suc n) m (e ∷ es) first second =
    subst (λ (k : ℕ). AllByRecursion P (take k (e ∷ es))) (let is : suc (n + m) ≡ suc n + m = omega arith in is) (first.0, upto P n m es first.1 second)

all_of : (P : Entry → Type 0) (n : ℕ) (es : List Entry) → length es ≤ n → AllByRecursion P (take n es) → AllByRecursion P es
all_of P n [] most all = tt
all_of P zero (e ∷ es) most all = absurd (omega (arith, most))
all_of P (suc n) (e ∷ es) most all = (all.0, all_of P n es (omega (arith, most)) all.1)

map_so : (P : List ℕ → Type 0) (kind : Kind) (xs : List Segment) → AllByRecursion (λ x. P (segment_key kind x)) xs → AllByRecursion P (map (segment_key kind) xs)
map_so P kind [] all = tt
map_so P kind (x ∷ xs) all = (all.0, map_so P kind xs all.1)

-- ---- a plan

module _ (index : PlaceMap) (held : List (Option HeaderValue)) (image : List ℕ) (live : LiveKeys) (snapshot source entry : ℕ) (s : Sweep) (slot : ℕ) (kind : Kind)
    (filling : Contents) (h : HeaderValue)
    (partial : IsPartialIndexOf held index) (read : IsReadOf index held snapshot source entry s slot kind filling h) (old new : DiskView) (content : old.content ≡ Some image)
    (plan : Plan)
    (is : IsPlan (source_of (Some index) live slot h.kind) (Shows old new) h.entries entry filling plan) where
  abbrev src : Source
  src = source_of (Some index) live slot h.kind

  abbrev before : Planned
  before = planned filling []

  abbrev after : Planned
  after = planned plan.buffer plan.dead.items

  abbrev later : PlaceMap
  later = without_keys plan.dead.items index

  gains : Gains src (Shows old new) index before after
  gains = takes_gain src (Shows old new) index refl (drop entry h.entries) before after is.passed is.takes

  -- ---- the index

  -- a live key isn't one that leaves
  other_key : (key : List ℕ) → IsLive index live key → (k : List ℕ) → IsOfDead src index k → k ≢ key
  other_key key (place, (found, marked)) k dead same =
      let key_is : entry_key h.kind dead.entry ≡ key = dead.key_is ∙ same in
      dead.dead (subst (λ (x : List ℕ). IsLiveAt live x (place_of slot dead.entry)) (sym key_is) (live_anywhere live key place (place_of slot dead.entry) marked))

  pub keys_stay : (key : List ℕ) → IsLive index live key → finite.get later key ≡ finite.get index key
  keys_stay key is_live =
      place_stays plan.dead.items index key
      (subst (AllByRecursion (λ (k : List ℕ). k ≢ key)) (sym gains.dead_are)
      (each_so (IsOfDead src index) (λ (k : List ℕ). k ≢ key) gains.dead (other_key key is_live) gains.are_dead))

  pub live_stays : (key : List ℕ) → IsLive index live key → IsLive later live key
  live_stays key is_live = live_on index later live key (λ place found. (place, keys_stay key is_live ∙ found)) is_live

  pub places_were : (key : List ℕ) (place : Place) → finite.get later key ≡ Some place → finite.get index key ≡ Some place
  places_were key place = had_before plan.dead.items index key place

  -- ---- what is filled

  pub filled_before : (key : List ℕ) → has_key s.buffer key ≡ true → has_key filling key ≡ true
  filled_before key has = by_filling read.fills
    where
      by_filling : IsFilling s.buffer kind filling → has_key filling key ≡ true
      by_filling (inl (none, other)) = absurd (no_key s.buffer key none has)
      by_filling (inr (some, same)) = ap (λ (c : Contents). has_key c key) same ∙ has

  pub filled_was : (key : List ℕ) → has_key filling key ≡ true → has_key s.buffer key ≡ true
  filled_was key has = by_filling read.fills
    where
      by_filling : IsFilling s.buffer kind filling → has_key s.buffer key ≡ true
      by_filling (inl (none, other)) = absurd (no_key filling key (ap (λ (c : Contents). c.segments) other) has)
      by_filling (inr (some, same)) = ap (λ (c : Contents). has_key c key) (sym same) ∙ has

  pub filled_on : (key : List ℕ) → has_key s.buffer key ≡ true → has_key plan.buffer key ≡ true
  filled_on key has = gained_keys src (Shows old new) index refl before after key gains (filled_before key has)

  -- a key that is filled then was before, or is that of a copy in the slot; and then something was added
  pub filled_new : (key : List ℕ) (place : Place) → finite.get index key ≡ Some place → has_key plan.buffer key ≡ true → (has_key s.buffer key ≡ true)
      ⊎ ((place.slot ≡ slot) × (0 < plan.copied))
  filled_new key place found has = elim (listed_either (keys_of filling) (map (segment_key filling.kind) gains.added) key split) [
    | inl was ↦ inl (filled_was key was)
    | inr added ↦ inr (
      listed_so (λ (k : List ℕ). finite.get index k ≡ Some place → place.slot ≡ slot) (map (segment_key filling.kind) gains.added) key
          (map_so (λ (k : List ℕ). finite.get index k ≡ Some place → place.slot ≡ slot) filling.kind gains.added
          (each_so (IsOfCopy src (Shows old new) index)
          (λ x. finite.get index (segment_key filling.kind x) ≡ Some place → place.slot ≡ slot) gains.added at_slot gains.are_live)) added found,
      some_added gains.added refl added,
    )
  ]
    where
      split : listed (keys_of filling ++ map (segment_key filling.kind) gains.added) key ≡ true
      split =
          ap (λ (ks : List (List ℕ)). listed ks key) (sym (keys_append filling.kind filling.segments gains.added))
          ∙ ap (λ (ss : List Segment). listed (map (segment_key filling.kind) ss) key) (sym gains.segments_are)
          ∙ ap (λ (k : Kind). listed (map (segment_key k) plan.buffer.segments) key) (sym gains.kind_is) ∙ has

      at_slot : (x : Segment) → IsOfCopy src (Shows old new) index x → finite.get index (segment_key filling.kind x) ≡ Some place → place.slot ≡ slot
      at_slot x of there =
          let key_is : segment_key filling.kind x ≡ entry_key h.kind of.entry = ap (λ (k : Kind). segment_key k x) read.kind_is ∙ of.key_is in
          let same = some_same place (place_of slot of.entry) (sym there ∙ ap (finite.get index) key_is ∙ copy_at index h.kind slot of.entry of.copy) in
          ap (λ (p : Place). p.slot) same

      some_added : (xs : List Segment) → gains.added ≡ xs → listed (map (segment_key filling.kind) xs) key ≡ true → 0 < plan.copied
      some_added [] none listed_there = absurd cc
      some_added (x ∷ xs) some listed_there =
          omega (
            arith,
            is.copied_is,
            ap (λ (ss : List Segment). length ss) gains.segments_are,
            length-append filling.segments gains.added,
            ap
                (λ (ss : List Segment). length ss) some,
          )

  -- each segment is the newest copy of a live key
  of_copy : (x : Segment) → IsOfCopy src (Shows old new) index x → IsCopied later live held image h.kind x
  of_copy x of =
      let at = copy_at index h.kind slot of.entry of.copy in
      let here : finite.get index (segment_key h.kind x) ≡ Some (place_of slot of.entry) = ap (finite.get index) of.key_is ∙ at in
      let found = copy_of held index partial (segment_key h.kind x) (place_of slot of.entry) here in
      record {
        is_live = live_stays (segment_key h.kind x) (place_of slot of.entry, (here, subst (λ (k : List ℕ). IsLiveAt live k (place_of slot of.entry)) (sym of.key_is) of.live));
        newest = record {
          copy = found.0;
          copy_is = found.1.0;
          level_is = ap (λ (p : Place). p.level) found.1.1 ∙ sym of.level_is;
          bytes_are = ap (λ (p : Place). bytes_at p image) found.1.1 ∙ shown_content old new (λ (i : List ℕ). bytes_at (place_of slot of.entry) i ≡ x.bytes) image of.there content;
        };
      }

  pub all_copied : AllByRecursion (IsCopied index live held image s.buffer.kind) s.buffer.segments
      → AllByRecursion (IsCopied later live held image plan.buffer.kind) plan.buffer.segments
  all_copied all =
      subst (λ (k : Kind). AllByRecursion (IsCopied later live held image k) plan.buffer.segments) (sym gains.kind_is)
      (subst (AllByRecursion (IsCopied later live held image filling.kind)) (sym gains.segments_are)
      (both_so (IsCopied later live held image filling.kind) filling.segments gains.added
      (each_so (IsCopied index live held image filling.kind) (IsCopied later live held image filling.kind) filling.segments stays (by_filling read.fills))
      (subst (λ (k : Kind). AllByRecursion (IsCopied later live held image k) gains.added) (sym read.kind_is)
      (each_so (IsOfCopy src (Shows old new) index) (IsCopied later live held image h.kind) gains.added of_copy gains.are_live))))
    where
      stays : (x : Segment) → IsCopied index live held image filling.kind x → IsCopied later live held image filling.kind x
      stays x was = record { is_live = live_stays (segment_key filling.kind x) was.is_live; newest = was.newest }

      by_filling : IsFilling s.buffer kind filling → AllByRecursion (IsCopied index live held image filling.kind) filling.segments
      by_filling (inl (none, other)) = none_copied (IsCopied index live held image filling.kind) filling (ap (λ (c : Contents). c.segments) other)
      by_filling (inr (some, same)) = subst (λ (c : Contents). AllByRecursion (IsCopied index live held image c.kind) c.segments) (sym same) all

  -- ---- each entry that was passed

  passed_planned : AllByRecursion (IsPlanned src index after) (take plan.next h.entries)
  passed_planned =
      subst (λ (n : ℕ). AllByRecursion (IsPlanned src index after) (take n h.entries)) (sym is.next_is)
      (upto (IsPlanned src index after) entry is.passed h.entries
      (each_so (λ (e : Entry). is_copy index h.kind slot e ≡ true → has_key s.buffer (entry_key h.kind e) ≡ true) (IsPlanned src index after) (take entry h.entries)
      (λ e was copy. inl (filled_on (entry_key h.kind e) (was copy))) read.first)
      (all_planned src (Shows old new) index refl (drop entry h.entries) before after is.passed read.kind_is is.takes))

  has_of : (e : Entry) → IsPlanned src index after e → is_copy index h.kind slot e ≡ true → (place : Place) → finite.get later (entry_key h.kind e) ≡ Some place
      → has_key plan.buffer (entry_key h.kind e) ≡ true
  has_of e one copy place found = elim (one copy) [
    | inl has ↦ has
    | inr dead ↦ absurd (let wrong : None ≡ Some place = sym (gone plan.dead.items index (entry_key h.kind e) dead) ∙ found in cc)
  ]

  -- the copies that the index still has of them were copied
  pub passed_copied : AreCopied (has_key plan.buffer) later slot h plan.next
  passed_copied =
      each_so (IsPlanned src index after) (λ (e : Entry). is_copy later h.kind slot e ≡ true → has_key plan.buffer (entry_key h.kind e) ≡ true) (take plan.next h.entries)
      (λ e one copy.
      let found = copy_at later h.kind slot e copy in
      has_of e one (at_copy index h.kind slot e (places_were (entry_key h.kind e) (place_of slot e) found)) (place_of slot e) found) passed_planned

  -- where all were passed, what the index still has in the slot was copied
  pub slot_copied : length h.entries ≤ plan.next → (key : List ℕ) (place : Place) → finite.get later key ≡ Some place → place.slot ≡ slot → has_key plan.buffer key ≡ true
  slot_copied most key place found here =
      let was = places_were key place found in
      let at = lies_at held index partial key place was in
      let same : at.header ≡ h = one_header held place.slot slot at.header h here at.there read.there in
      let entry_found : find (λ e. bytes_eq (entry_key h.kind e) key) h.entries ≡ Some at.entry =
      subst (λ (g : HeaderValue). find (λ e. bytes_eq (entry_key g.kind e) key) g.entries ≡ Some at.entry) same at.found in
      let key_is : entry_key h.kind at.entry ≡ key = subst (λ (g : HeaderValue). entry_key g.kind at.entry ≡ key) same at.key_is in
      let one =
      (found_so (IsPlanned src index after) (λ e. bytes_eq (entry_key h.kind e) key) h.entries at.entry
      (all_of (IsPlanned src index after) plan.next h.entries most passed_planned) entry_found).0 in
      let copy = at_copy index h.kind slot at.entry (ap (finite.get index) key_is ∙ was ∙ ap Some (at.place_is ∙ ap (λ (n : ℕ). place_of n at.entry) here)) in
      ap (has_key plan.buffer) (sym key_is) ∙ has_of at.entry one copy place (ap (finite.get later) key_is ∙ found)

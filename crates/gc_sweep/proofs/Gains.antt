-- What planning the entries of a container adds to what is filled, and which keys leave the index, by a map that is known.
use Rattle.gc_sweep.proofs.Prelude.{◌≡◌, ◌⊎◌, inl, inr, ℕ, true, false, List, [], ◌∷◌, ◌++◌, take, map, Some, append-nil, refl, sym, ◌∙◌, ap, subst, AllByRecursion, sha256, Entry, Kind, kind_byte, PlaceMap, Contents, Segment, has_key, keys_of, segment_key, entry_key, place_of, bytes_at, is_copy, Planned, Source, Takes, TakesOne}
use Rattle.std.proofs.Common.{append_assoc}
use Rattle.base_model.specs.Bytes.{key_of}
use Rattle.copy_forward.specs.Planning.{HasLiveKey}
use Rattle.gc_sweep.proofs.KeyLists.{both_so, keys_append, listed, listed_left, listed_one, listed_right}

-- A segment that was added: that of a live copy, as it was shown.
pub record IsOfCopy (s : Source) (S : (List ℕ → Type 0) → Type 0) (m : PlaceMap) (x : Segment) : Type 0 where
  pub entry : Entry
  pub copy : is_copy m s.kind s.slot entry ≡ true
  pub live : HasLiveKey s entry
  pub level_is : x.level ≡ entry.level
  pub there : S (λ image. bytes_at (place_of s.slot entry) image ≡ x.bytes)
  pub key_is : segment_key s.kind x ≡ entry_key s.kind entry

-- A key that is to leave: that of a copy whose key is dead.
pub record IsOfDead (s : Source) (m : PlaceMap) (key : List ℕ) : Type 0 where
  pub entry : Entry
  pub copy : is_copy m s.kind s.slot entry ≡ true
  pub dead : HasLiveKey s entry → ⊥
  pub key_is : entry_key s.kind entry ≡ key

-- what was planned comes after what was planned before
pub record Gains (s : Source) (S : (List ℕ → Type 0) → Type 0) (m : PlaceMap) (before after : Planned) : Type 0 where
  pub kind_is : after.buffer.kind ≡ before.buffer.kind
  pub added : List Segment
  pub segments_are : after.buffer.segments ≡ before.buffer.segments ++ added
  pub are_live : AllByRecursion (IsOfCopy s S m) added
  pub dead : List (List ℕ)
  pub dead_are : after.dead ≡ before.dead ++ dead
  pub are_dead : AllByRecursion (IsOfDead s m) dead

-- of what was planned of an entry: if it is the index's copy, what is filled has its key, or that is to leave
abbrev pub IsPlanned : Source → PlaceMap → Planned → Entry → Type 0
IsPlanned s m after e =
    is_copy m s.kind s.slot e ≡ true → (has_key after.buffer (entry_key s.kind e) ≡ true) ⊎ (listed after.dead (entry_key s.kind e) ≡ true)

-- all keys stay
keys_stay : (a b : Contents) (added : List Segment) (key : List ℕ) → b.kind ≡ a.kind → b.segments ≡ a.segments ++ added → has_key a key ≡ true → has_key b key ≡ true
keys_stay a b added key kind_is is has =
    ap (λ (k : Kind). listed (map (segment_key k) b.segments) key) kind_is
    ∙ ap (λ (ss : List Segment). listed (map (segment_key a.kind) ss) key) is
    ∙ ap (λ (ks : List (List ℕ)). listed ks key) (keys_append a.kind a.segments added)
    ∙ listed_left (keys_of a) (map (segment_key a.kind) added) key has

-- and those of what was added come
keys_come : (a b : Contents) (added : List Segment) (key : List ℕ) → b.kind ≡ a.kind → b.segments ≡ a.segments ++ added → listed (map (segment_key a.kind) added) key ≡ true
    → has_key b key ≡ true
keys_come a b added key kind_is is has =
    ap (λ (k : Kind). listed (map (segment_key k) b.segments) key) kind_is
    ∙ ap (λ (ss : List Segment). listed (map (segment_key a.kind) ss) key) is
    ∙ ap (λ (ks : List (List ℕ)). listed ks key) (keys_append a.kind a.segments added)
    ∙ listed_right (keys_of a) (map (segment_key a.kind) added) key has

module _ (s : Source) (S : (List ℕ → Type 0) → Type 0) (m : PlaceMap) (known : s.known ≡ Some m) where
  pub gained_keys : (before after : Planned) (key : List ℕ) → Gains s S m before after → has_key before.buffer key ≡ true → has_key after.buffer key ≡ true
  gained_keys before after key gains = keys_stay before.buffer after.buffer gains.added key gains.kind_is gains.segments_are

  gained_dead : (before after : Planned) (key : List ℕ) → Gains s S m before after → listed before.dead key ≡ true → listed after.dead key ≡ true
  gained_dead before after key gains has = ap (λ (ks : List (List ℕ)). listed ks key) gains.dead_are ∙ listed_left before.dead gains.dead key has

  none_gained : (before after : Planned) → after ≡ before → Gains s S m before after
  none_gained before after is = record {
    kind_is = ap (λ (p : Planned). p.buffer.kind) is;
    added = [];
    segments_are = ap (λ (p : Planned). p.buffer.segments) is ∙ sym (append-nil before.buffer.segments);
    are_live = tt;
    dead = [];
    dead_are = ap (λ (p : Planned). p.dead) is ∙ sym (append-nil before.dead);
    are_dead = tt;
  }

  gains_on : (a b c : Planned) → Gains s S m a b → Gains s S m b c → Gains s S m a c
  gains_on a b c first second = record {
    kind_is = second.kind_is ∙ first.kind_is;
    added = first.added ++ second.added;
    segments_are = second.segments_are ∙ ap (λ (ss : List Segment). ss ++ second.added) first.segments_are ∙ append_assoc a.buffer.segments first.added second.added;
    are_live = both_so (IsOfCopy s S m) first.added second.added first.are_live second.are_live;
    dead = first.dead ++ second.dead;
    dead_are = second.dead_are ∙ ap (λ (ks : List (List ℕ)). ks ++ second.dead) first.dead_are ∙ append_assoc a.dead first.dead second.dead;
    are_dead = both_so (IsOfDead s m) first.dead second.dead first.are_dead second.are_dead;
  }

  -- the segment of an entry has its key
  key_of_added : (e : Entry) (bytes : List ℕ) → sha256 bytes ≡ e.digest → key_of (kind_byte s.kind) (sha256 bytes) ≡ entry_key s.kind e
  key_of_added e bytes is = ap (key_of (kind_byte s.kind)) is

  one_gains : (e : Entry) (before after : Planned) → TakesOne s S e before after → Gains s S m before after
  one_gains e before after (inl (passed, is)) = none_gained before after is
  one_gains e before after (inr (inl ((copy, dead), is))) = record {
    kind_is = ap (λ (p : Planned). p.buffer.kind) is;
    added = [];
    segments_are = ap (λ (p : Planned). p.buffer.segments) is ∙ sym (append-nil before.buffer.segments);
    are_live = tt;
    dead = entry_key s.kind e ∷ [];
    dead_are = ap (λ (p : Planned). p.dead) is;
    are_dead = (record { entry = e; copy = copy m known; dead = dead; key_is = refl }, tt);
  }
  one_gains e before after (inr (inr (live, inl (had, is), dead))) = record {
    kind_is = ap (λ (c : Contents). c.kind) is;
    added = [];
    segments_are = ap (λ (c : Contents). c.segments) is ∙ sym (append-nil before.buffer.segments);
    are_live = tt;
    dead = [];
    dead_are = dead ∙ sym (append-nil before.dead);
    are_dead = tt;
  }
  one_gains e before after (inr (inr (live, inr (lacks, adds), dead))) = record {
    kind_is = ap (λ (c : Contents). c.kind) adds.after_is;
    added = record { level = e.level; bytes = adds.bytes } ∷ [];
    segments_are = ap (λ (c : Contents). c.segments) adds.after_is;
    are_live = (record { entry = e; copy = live.0 m known; live = live.1; level_is = refl; there = adds.there; key_is = key_of_added e adds.bytes adds.digest_is }, tt);
    dead = [];
    dead_are = dead ∙ sym (append-nil before.dead);
    are_dead = tt;
  }

  pub takes_gain : (es : List Entry) (before after : Planned) (count : ℕ) → Takes s S es before after count → Gains s S m before after
  takes_gain [] before after count none = none_gained before after none.0
  takes_gain (e ∷ es) before after count (inl full) = none_gained before after full.1
  takes_gain (e ∷ es) before after count (inr (mid, (rest, (more, one, others)))) =
      gains_on before mid after (one_gains e before mid one) (takes_gain es mid after rest others)

  -- ---- each entry

  later_planned : (e : Entry) (mid after : Planned) → Gains s S m mid after → IsPlanned s m mid e → IsPlanned s m after e
  later_planned e mid after gains one copy = elim (one copy) [
    | inl has ↦ inl (gained_keys mid after (entry_key s.kind e) gains has)
    | inr dead ↦ inr (gained_dead mid after (entry_key s.kind e) gains dead)
  ]

  one_planned : (e : Entry) (before after : Planned) → before.buffer.kind ≡ s.kind → TakesOne s S e before after → IsPlanned s m after e
  one_planned e before after kind (inl (passed, is)) copy = absurd (let wrong : false ≡ true = sym (passed m known) ∙ copy in cc)
  one_planned e before after kind (inr (inl (dead, is))) copy =
      inr (ap (λ (p : Planned). listed p.dead (entry_key s.kind e)) is ∙ listed_right before.dead (entry_key s.kind e ∷ []) (entry_key s.kind e) (listed_one (entry_key s.kind e)))
  one_planned e before after kind (inr (inr (live, inl (had, is), dead))) copy = inl (ap (λ (c : Contents). has_key c (entry_key s.kind e)) is ∙ had)
  one_planned e before after kind (inr (inr (live, inr (lacks, adds), dead))) copy =
      let added : Segment = record { level = e.level; bytes = adds.bytes } in
      let key : segment_key before.buffer.kind added ≡ entry_key s.kind e = ap (λ (k : Kind). segment_key k added) kind ∙ key_of_added e adds.bytes adds.digest_is in
      inl (keys_come before.buffer after.buffer (added ∷ []) (entry_key s.kind e) (ap (λ (c : Contents). c.kind) adds.after_is) (ap (λ (c : Contents). c.segments) adds.after_is)
      (ap (λ (k : List ℕ). listed (k ∷ []) (entry_key s.kind e)) key ∙ listed_one (entry_key s.kind e)))

  pub all_planned : (es : List Entry) (before after : Planned) (count : ℕ) → before.buffer.kind ≡ s.kind → Takes s S es before after count
      → AllByRecursion (IsPlanned s m after) (take count es)
  all_planned [] before after count kind none = subst (λ (n : ℕ). AllByRecursion (IsPlanned s m after) (take n [])) (sym none.1) tt
  all_planned (e ∷ es) before after count kind (inl full) = subst (λ (n : ℕ). AllByRecursion (IsPlanned s m after) (take n (e ∷ es))) (sym full.2) tt
  all_planned (e ∷ es) before after count kind (inr (mid, (rest, (more, one, others)))) =
      let first = one_gains e before mid one in
      subst (λ (n : ℕ). AllByRecursion (IsPlanned s m after) (take n (e ∷ es))) (sym more)
      (later_planned e mid after (takes_gain es mid after rest others) (one_planned e before mid kind one), all_planned es mid after rest (first.kind_is ∙ kind) others)

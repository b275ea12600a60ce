-- A copying step of a core's sweep goes over the entries of its source as the machine of files does.
use Rattle.core_machine.proofs.Prelude.{◌≡◌, inl, inr, ℕ, zero, suc, ◌+◌, ◌<◌, Bool, true, false, ◌||◌, List, [], ◌∷◌, ◌++◌, append_assoc, length, drop, take, Option, Some, None, option_map, refl, sym, ◌∙◌, ap, subst, arith, nat_le, slice_get, bytes_eq, AllByRecursion, leb-true, ltb-true, length-map, Contains-append_cases, Contains-append_left, bytes_eq-Decides, key_of, Entry, Kind, Place, kind_byte, PlaceMap, Segment, has_key, segment_key, Follow, HeaderValue, Planned, Source, TakesOne, source_of, LiveKeys, IsWithin, IsFilling, IsLive, live_anywhere, keys_append, listed_of, Store, IsPartialIndexOf, newest, some_same, DoesNotFit, Gathered, HasCopy, NeededSince, of_files, TellsForgotten}
use Rattle.std.proofs.Common.{map, Contains}
use Rattle.std.specs.Prelude.{◌&&◌, nat_lt}
use Rattle.std.specs.FinMap as finite
use Rattle.std.proofs.lemmas.Bool.{leb-false, ltb-false}
use Rattle.std.proofs.lemmas.List.Elements.{Contains-push_cases}
use Rattle.std.proofs.lemmas.List.Folds.{list_any-append}
use Rattle.std.proofs.lemmas.List.Sums.{sum_by-append, sum_by-cons}
use Rattle.base_model.proofs.Checks.{both}
use Rattle.container_meta.specs.Segments.{Contents, bytes_in, has_room, keys_of}
use Rattle.container_meta.specs.Spelling.{IsNext, has_digest}
use Rattle.copy_forward.specs.Entries.{is_copy}
use Rattle.copy_forward.specs.Planning.{HasLiveKey, IsFull, Takes}
use Rattle.disk_format.specs.declared.numbers.TheConstants.{DATA_BYTES, MOST_ENTRIES}
use Rattle.gc_sweep.proofs.InSlots.{at_copy, copy_at}
use Rattle.store_core.proofs.CopiesOnce.{of_listed}
use Rattle.store_model.specs.Indexing.{entry_key}
use Rattle.store_model.specs.Slots.{Copy, place_of}
use Rattle.store_machine.specs.Collecting.{HasNoRoom, bytes_filled, length_of}
use Rattle.store_machine.specs.Collecting as machine
use Rattle.store_machine.specs.Machine.{Collection}
use Rattle.store_machine.specs.Needs.{IndexHas}

-- ---- how many bytes are filled

filled_more : (held : List (Option HeaderValue)) (keys : List (List ℕ)) (key : List ℕ)
    → bytes_filled held (keys ++ key ∷ []) ≡ bytes_filled held keys + length_of (newest 0 held key)
filled_more held [] key = omega arith
filled_more held (k ∷ ks) key = omega (arith, filled_more held ks key)

-- what the machine counts of a container that is filled is what it has
abbrev pub IsCounted : List (Option HeaderValue) → Contents → Type 0
IsCounted held c = bytes_filled held (keys_of c) ≡ bytes_in c.segments

pub counted_copies : (store : Store) (kind : Kind) (xs : List Segment) → AllByRecursion (λ s. HasCopy store (record { kind = kind; segment = s })) xs
    → bytes_filled store.held (map (segment_key kind) xs) ≡ bytes_in xs
counted_copies store kind [] all = refl
counted_copies store kind (s ∷ ss) all =
    let here : length_of (newest 0 store.held (segment_key kind s)) ≡ length s.bytes = ap length_of all.0.copy_is ∙ all.0.length_is in
    omega (arith, here, counted_copies store kind ss all.1, sum_by-cons (λ (x : Segment). length x.bytes) s ss)

pub counted_filling : (store : Store) (buffer filling : Contents) (kind : Kind) → IsFilling buffer kind filling
    → AllByRecursion (λ s. HasCopy store (record { kind = buffer.kind; segment = s })) buffer.segments → IsCounted store.held filling
counted_filling store buffer filling kind (inl (none, is)) all = subst (IsCounted store.held) (sym is) refl
counted_filling store buffer filling kind (inr (some, is)) all = subst (IsCounted store.held) (sym is) (counted_copies store buffer.kind buffer.segments all)

module _ (held : List (Option HeaderValue)) (c : Contents) (counted : IsCounted held c) (bytes : ℕ) where
  many : length (keys_of c) ≡ length c.segments
  many = length-map c.segments (segment_key c.kind)

  room_is : has_room c bytes ≡ true → ¬ (HasNoRoom held (keys_of c) bytes)
  room_is is (inl full) = let parts = both (nat_lt (length c.segments) MOST_ENTRIES) (nat_le (bytes_in c.segments + bytes) DATA_BYTES) is in
      omega (arith, full, many, ltb-true (length c.segments) MOST_ENTRIES parts.0)
  room_is is (inr large) = let parts = both (nat_lt (length c.segments) MOST_ENTRIES) (nat_le (bytes_in c.segments + bytes) DATA_BYTES) is in
      omega (arith, large, counted, leb-true (bytes_in c.segments + bytes) DATA_BYTES parts.1)

  no_room : has_room c bytes ≡ false → HasNoRoom held (keys_of c) bytes
  no_room is = by (nat_lt (length c.segments) MOST_ENTRIES) refl is
    where
      by : (b : Bool) → nat_lt (length c.segments) MOST_ENTRIES ≡ b → (b && nat_le (bytes_in c.segments + bytes) DATA_BYTES) ≡ false → HasNoRoom held (keys_of c) bytes
      by false many_is other = inl (omega (arith, many, ltb-false (length c.segments) MOST_ENTRIES many_is))
      by true many_is other = inr (omega (arith, counted, leb-false (bytes_in c.segments + bytes) DATA_BYTES other))

-- ---- entries

-- those from one on follow others
pub follow_from : (kind : Kind) (n : ℕ) (before es : List Entry) → Follow kind before es → (others : List Entry) × Follow kind others (drop n es)
follow_from kind zero before es follow = (before, follow)
follow_from kind (suc n) before [] follow = (before, follow)
follow_from kind (suc n) before (e ∷ es) follow = follow_from kind n (before ++ e ∷ []) es follow.1

none_taken : (n : ℕ) → take n (let es : List Entry = [] in es) ≡ []
none_taken zero = refl
none_taken (suc n) = refl

none_first : (n count : ℕ) → drop n (take count (let es : List Entry = [] in es)) ≡ []
none_first n count = ap (drop n) (none_taken count) ∙ by n
  where
    by : (k : ℕ) → drop k (let es : List Entry = [] in es) ≡ []
    by zero = refl
    by (suc k) = refl

pub first_of_rest : (n count : ℕ) (es : List Entry) → drop n (take (n + count) es) ≡ take count (drop n es)
first_of_rest zero count es = ap (λ (k : ℕ). take k es) (let is : zero + count ≡ count = omega arith in is)
first_of_rest (suc n) count [] = none_first (suc n) (suc n + count) ∙ sym (none_taken count)
first_of_rest (suc n) count (e ∷ es) = ap (λ (k : ℕ). drop (suc n) (take k (e ∷ es))) (let is : suc n + count ≡ suc (n + count) = omega arith in is) ∙ first_of_rest n count es

-- the segment that is added for an entry
abbrev added_of : Entry → List ℕ → Segment
added_of e bytes = record { level = e.level; bytes = bytes }

-- ---- a step over them

module _ (x : Collection (List ℕ)) (store : Store) (index : PlaceMap) (known : Option PlaceMap) (known_is : known ≡ Some index) (live : LiveKeys)
    (slot : ℕ) (kind : Kind) (shown : (List ℕ → Type 0) → Type 0)
    (partial : IsPartialIndexOf store.held index) (forgotten : List (List ℕ)) (told : TellsForgotten forgotten store.held index) (within : IsWithin (NeededSince of_files x) live)
    (all : (key : List ℕ) → NeededSince of_files x key → IsLive index live key) where
  abbrev s : Source
  s = source_of known live slot kind

  abbrev pub gathering : List (List ℕ) → List (List ℕ) → Gathered
  gathering filled gone = record { filled = filled; forgotten = gone }

  abbrev pub gathered : Planned → Gathered
  gathered p = gathering (keys_of p.buffer) (forgotten ++ p.dead)

  -- the keys that are to leave are those of entries before
  abbrev pub Came : List Entry → Planned → Type 0
  Came before p = (key : List ℕ) → Contains p.dead key → has_digest before (drop 1 key) ≡ true

  -- What is so of what is planned, where these entries were gone over.
  pub record IsPlanned (before : List Entry) (p : Planned) : Type 0 where
    pub kind_is : p.buffer.kind ≡ kind
    pub counted : IsCounted store.held p.buffer
    pub came : Came before p

  -- ---- what the index has

  module _ (e : Entry) where
    abbrev key : List ℕ
    key = entry_key kind e

    abbrev place : Place
    place = place_of slot e

    not_there : (dead : List (List ℕ)) → is_copy index kind slot e ≡ false → ¬ (IndexHas store (forgotten ++ dead) key place)
    not_there dead passed (newest_is, lacks) = by (finite.get index key) refl (newest 0 store.held key) refl newest_is
      where
        by : (o : Option Place) → finite.get index key ≡ o → (n : Option Copy) → newest 0 store.held key ≡ n → option_map (λ (c : Copy). c.place) n ≡ Some place → ⊥
        by o has None none is = cc
        by None lacked (Some copy) some is = lacks (Contains-append_left forgotten dead key (told.lacked key copy some lacked))
        by (Some found) has (Some copy) some is =
            let same : found ≡ place = some_same found place (sym (partial key found has) ∙ newest_is) in
            let wrong : true ≡ false = sym (at_copy index kind slot e (has ∙ ap Some same)) ∙ passed in cc

    -- how long the newest copy is
    length_here : is_copy index kind slot e ≡ true → length_of (newest 0 store.held key) ≡ e.length
    length_here is = by (newest 0 store.held key) (partial key place (copy_at index kind slot e is))
      where
        by : (n : Option Copy) → option_map (λ (c : Copy). c.place) n ≡ Some place → length_of n ≡ e.length
        by None none = absurd cc
        by (Some copy) some = ap (λ (p : Place). p.length) (some_same copy.place place some)

    module _ (before : List Entry) (p : Planned) (is : IsPlanned before p) (next : IsNext kind before e) where
      there : is_copy index kind slot e ≡ true → IndexHas store (forgotten ++ p.dead) key place
      there copy = (
        partial key place (copy_at index kind slot e copy),
        λ gone. elim (Contains-append_cases forgotten p.dead key gone) [
          | inl was ↦ (let wrong : None ≡ Some place = sym (told.gone key was) ∙ copy_at index kind slot e copy in cc)
          | inr now ↦ (let wrong : true ≡ false = sym (is.came key now) ∙ next.new in cc)
        ],
      )

      needed : HasLiveKey s e → NeededSince of_files x key
      needed lives = within key place lives

      not_needed : (HasLiveKey s e → ⊥) → ¬ (NeededSince of_files x key)
      not_needed dead need = let has = all key need in dead (live_anywhere live key has.0 place has.1.1)

      -- ---- what it leaves

      abbrev now : List Entry
      now = before ++ e ∷ []

      digest_more : (digest : List ℕ) → has_digest before digest ≡ true → has_digest now digest ≡ true
      digest_more digest had = list_any-append (λ (f : Entry). bytes_eq f.digest digest) before (e ∷ []) ∙ ap (λ (b : Bool). b || has_digest (e ∷ []) digest) had

      -- nothing more leaves
      came_on : (q : Planned) → q.dead ≡ p.dead → Came now q
      came_on q same k gone = digest_more (drop 1 k) (is.came k (subst (λ (ks : List (List ℕ)). Contains ks k) same gone))

      -- its own key does
      came_more : (q : Planned) → q.dead ≡ p.dead ++ key ∷ [] → Came now q
      came_more q more k gone = elim (Contains-push_cases p.dead key k (subst (λ (ks : List (List ℕ)). Contains ks k) more gone)) [
        | inl was ↦ digest_more (drop 1 k) (is.came k was)
        | inr same ↦ subst (λ (o : List ℕ). has_digest now (drop 1 o) ≡ true) same last
      ]
        where
          either_true : (b : Bool) → (b || true) ≡ true
          either_true true = refl
          either_true false = refl

          last : has_digest now e.digest ≡ true
          last = list_any-append (λ (f : Entry). bytes_eq f.digest e.digest) before (e ∷ [])
              ∙ ap (λ (b : Bool). has_digest before e.digest || (b || false)) ((bytes_eq-Decides e.digest e.digest).1 refl)
              ∙ either_true (has_digest before e.digest)

      same_as : (q : Planned) → q ≡ p → IsPlanned now q
      same_as q same = subst (IsPlanned now) (sym same) (record { kind_is = is.kind_is; counted = is.counted; came = came_on p refl })

      -- ---- what it takes

      lacks_key : has_key p.buffer key ≡ false → ¬ (Contains (keys_of p.buffer) key)
      lacks_key lacks has = let wrong : true ≡ false = sym (listed_of (keys_of p.buffer) key has) ∙ lacks in cc

      same_gathered : (q : Planned) → q.buffer ≡ p.buffer → q.dead ≡ p.dead → gathered q ≡ gathered p
      same_gathered q same none =
          ap (λ (c : Contents). gathering (keys_of c) (forgotten ++ q.dead)) same ∙ ap (λ (ks : List (List ℕ)). gathering (keys_of p.buffer) (forgotten ++ ks)) none

      abbrev Took : Planned → Type 0
      Took q = machine.TakesOne of_files x store slot kind e (gathered p) (gathered q) × IsPlanned now q

      took : (q : Planned) → TakesOne s shown e p q → Took q
      took q (inl (passed, same)) = (inl (not_there p.dead (passed index known_is), ap gathered same), same_as q same)
      took q (inr (inl ((copy, dead), same))) = (
        inr (
          there (copy index known_is),
          inl (not_needed dead, ap gathered same ∙ ap (λ (ks : List (List ℕ)). gathering (keys_of p.buffer) ks) (sym (append_assoc forgotten p.dead (key ∷ [])))),
        ),
        subst (IsPlanned now) (sym same) (record { kind_is = is.kind_is; counted = is.counted; came = came_more (record p { dead = p.dead ++ key ∷ [] }) refl }),
      )
      took q (inr (inr ((copy, lives), inl (had, same), none))) = (
        inr (there (copy index known_is), inr (needed lives, inl (of_listed (keys_of p.buffer) key had, same_gathered q same none))),
        record {
          kind_is = ap (λ (c : Contents). c.kind) same ∙ is.kind_is;
          counted = subst (IsCounted store.held) (sym same) is.counted;
          came = came_on q none;
        },
      )
      took q (inr (inr ((copy, lives), inr ((lacks, room), adds), none))) = (
        inr (
          there (copy index known_is),
          inr (
            needed lives,
            inr (
              lacks_key lacks,
              room_is store.held p.buffer is.counted e.length room,
              ap (λ (ks : List (List ℕ)). gathering ks (forgotten ++ q.dead)) keys_now
                  ∙ ap (λ (ks : List (List ℕ)). gathering (keys_of p.buffer ++ key ∷ []) (forgotten ++ ks)) none,
            ),
          ),
        ),
        record {
          kind_is = ap (λ (c : Contents). c.kind) adds.after_is ∙ is.kind_is;
          counted = ap (bytes_filled store.held) keys_now ∙ counted_now ∙ sym (ap (λ (c : Contents). bytes_in c.segments) adds.after_is);
          came = came_on q none;
        },
      )
        where
          keys_now : keys_of q.buffer ≡ keys_of p.buffer ++ key ∷ []
          keys_now =
              ap keys_of adds.after_is ∙ keys_append p.buffer.kind p.buffer.segments (added_of e adds.bytes ∷ [])
              ∙ ap (λ (k : List ℕ). keys_of p.buffer ++ k ∷ []) (ap (λ (k : Kind). segment_key k (added_of e adds.bytes)) is.kind_is ∙ ap (key_of (kind_byte kind)) adds.digest_is)

          counted_now : bytes_filled store.held (keys_of p.buffer ++ key ∷ []) ≡ bytes_in (p.buffer.segments ++ added_of e adds.bytes ∷ [])
          counted_now = omega (
            arith,
            filled_more store.held (keys_of p.buffer) key,
            is.counted,
            length_here (copy index known_is),
            adds.long,
            sum_by-append (λ (y : Segment). length y.bytes) p.buffer.segments (added_of e adds.bytes ∷ []),
            sum_by-cons (λ (y : Segment). length y.bytes) (added_of e adds.bytes) [],
          )

      does_not_fit : IsFull s e p.buffer → DoesNotFit of_files x store slot kind e (gathered p)
      does_not_fit ((copy, lives), (lacks, room)) = record {
        copy = there (copy index known_is);
        needed = needed lives;
        new = lacks_key lacks;
        full = no_room store.held p.buffer is.counted e.length room;
      }

  -- ---- one after the other

  abbrev pub TakesSo : List Entry → Planned → Planned → ℕ → Type 0
  TakesSo es p q count = machine.TakesAll of_files x store slot kind (take count es) (gathered p) (gathered q)
      × (count < length es → (e : Entry) × (slice_get es count ≡ Some e) × DoesNotFit of_files x store slot kind e (gathered q))

  pub takes_so : (es before : List Entry) (p q : Planned) (count : ℕ) → Follow kind before es → IsPlanned before p → Takes s shown es p q count → TakesSo es p q count
  takes_so [] before p q count follow is (same, zero_is) =
      subst (TakesSo [] p q) (sym zero_is) (ap gathered same, λ more. absurd (omega (arith, more)))
  takes_so (e ∷ es) before p q count follow is (inl (full, same, zero_is)) =
      subst (TakesSo (e ∷ es) p q) (sym zero_is)
      (subst (λ (z : Planned). TakesSo (e ∷ es) p z 0) (sym same) (refl, λ more. (e, refl, does_not_fit e before p is follow.0 full)))
  takes_so (e ∷ es) before p q count follow is (inr (mid, (rest, (more, one, others)))) =
      let here = took e before p is follow.0 mid one in
      let later = takes_so es (before ++ e ∷ []) mid q rest follow.1 here.1 others in
      subst (TakesSo (e ∷ es) p q) (sym more) ((gathered mid, here.0, later.0), λ few. later.1 (omega (arith, few)))

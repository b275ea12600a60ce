-- The roots that a collection begins with, as they are listed, looked up and marked.
use Rattle.gc_steps.proofs.Prelude.{◌≡◌, ◌≢◌, ◌⊎◌, ◌<◌, ◌≤◌, inl, inr, ℕ, zero, suc, ◌+◌, Bool, true, false, List, [], ◌∷◌, ◌++◌, length, map, take, drop, Option, Some, None, arith, refl, sym, ◌∙◌, ap, subst, if◌then◌else◌, nat_lt, flat_map, eq-eqb, eqb-true, ltb-true, leb_tells, append-nil, map_push, take_more, Contains-append_cases, Contains-append_left, Contains-append_right, ACTORS, Part, Idle, Writing, Reading, Pin, PinMap, Place, PlaceMap, Root, LiveKeys, NamedRoot, listed_value, listing_of, NameMap, Refusal, Memory, root_key, RootKey, HasRootKey, IsListedKey, IsNumberKey, IsPartKey, IsRoot, Marks, key_at, keys_as_pinned, keys_of_listed, keys_of_number, keys_of_part, keys_of_pin, keys_of_root, roots_of, AreFound, IsFound, IsStartRefusal, IsUnfound, StopsAt}
use Rattle.std.proofs.Common.{◌↔◌, ◌==◌, get_or}
use Rattle.std.specs.FinMap as finite
use Rattle.std.specs.List.{Contains}
use Rattle.std.proofs.lemmas.Bool.{ltb-false}
use Rattle.std.proofs.Math.Dec.{leb}
use Rattle.std.proofs.lemmas.List.{append_assoc, drop_more, flat_map_more, map-append, take-append-drop}
use Rattle.std.proofs.lemmas.List.Elements.{All-push}
use Rattle.actor_parts.specs.Parts.{part_of}
use Rattle.gc_enumerate.specs.Live.{IsLiveAt}
use Rattle.namespace.specs.declared.listing.ListedName.{ListedName}
use Rattle.gc_steps.specs.Roots.{keys_of_first, keys_of_names}
use Rattle.gc_steps.proofs.Marked.{OfFirst, contains_first, contains_head, contains_more, contains_next, contains_none, keys_there, marks_as, marks_more}

-- ---- loops, one turn more

pub added : {X Y : Type 0} (f : X → List Y) (xs : List X) (i : ℕ) (d : X) (start mid after : List Y) → i < length xs → mid ≡ start ++ flat_map f (take i xs)
    → after ≡ mid ++ f (get_or xs i d)
    → after ≡ start ++ flat_map f (take (i + 1) xs)
added f xs i d start mid after within first second =
    second ∙ ap (λ ys. ys ++ f (get_or xs i d)) first ∙ flat_map_more f start (take i xs) (get_or xs i d) ∙ ap (λ ks. start ++ flat_map f ks) (sym (take_more xs i d within))

pub listed_turn : (files : List ListedName) (i : ℕ) (file : ListedName) (start mid after : List RootKey) → i < length files → file ≡ get_or files i file
    → mid ≡ start ++ flat_map keys_of_listed (map listed_value (take i files)) → after ≡ mid ++ keys_of_listed (listed_value file)
    → after ≡ start ++ flat_map keys_of_listed (map listed_value (take (i + 1) files))
listed_turn files i file start mid after within is first second =
    let ns : List NamedRoot = map listed_value (take i files) in
    let more : map listed_value (take (i + 1) files) ≡ ns ++ listed_value file ∷ [] =
    ap (map listed_value) (take_more files i file within ∙ ap (λ (x : ListedName). take i files ++ x ∷ []) (sym is)) ∙ map_push listed_value (take i files) file in
    second ∙ ap (λ ys. ys ++ keys_of_listed (listed_value file)) first ∙ flat_map_more keys_of_listed start ns (listed_value file)
    ∙ ap (λ ks. start ++ flat_map keys_of_listed ks) (sym more)

-- no actor before the first
pub first_none : (start names added : List RootKey) (parts : List Part) → start ≡ [] → added ≡ start ++ names → added ≡ names ++ keys_of_first parts 0
unfolding keys_of_first
first_none start names added parts none is = is ∙ ap (λ (ks : List RootKey). ks ++ names) none ∙ sym (append-nil names)

pub first_more : (parts : List Part) (count : ℕ) → keys_of_first parts (count + 1) ≡ keys_of_first parts count ++ keys_of_number parts count
unfolding keys_of_first
first_more parts count = ap (keys_of_first parts) (let next : count + 1 ≡ suc count = omega arith in next)

pub first_turn : (names : List RootKey) (parts : List Part) (count : ℕ) (mid after : List RootKey) → mid ≡ names ++ keys_of_first parts count
    → after ≡ mid ++ keys_of_number parts count
    → after ≡ names ++ keys_of_first parts (count + 1)
first_turn names parts count mid after first second =
    second ∙ ap (λ ys. ys ++ keys_of_number parts count) first ∙ append_assoc names (keys_of_first parts count) (keys_of_number parts count)
    ∙ ap (λ ks. names ++ ks) (sym (first_more parts count))

-- ---- the keys of all roots

-- no list has the key; each has what is in one of its parts
in_parts : (xs ys : List RootKey) (key : List ℕ) → Contains (map key_at (xs ++ ys)) key ↔ (Contains (map key_at xs) key ⊎ Contains (map key_at ys) key)
in_parts xs ys key = (
  λ is. Contains-append_cases (map key_at xs) (map key_at ys) key (subst (λ (ks : List (List ℕ)). Contains ks key) (map-append key_at xs ys) is),
  λ is. subst (λ (ks : List (List ℕ)). Contains ks key) (sym (map-append key_at xs ys)) (elim is [
    | inl first ↦ Contains-append_left (map key_at xs) (map key_at ys) key first
    | inr second ↦ Contains-append_right (map key_at xs) (map key_at ys) key second
  ]),
)

only_one : (k key : List ℕ) → Contains (k ∷ []) key ↔ (key ≡ k)
only_one k key = (
  λ is. elim (contains_first k key [] is) [
    | inl here ↦ here
    | inr none ↦ absurd (contains_none key none)
  ],
  λ is. subst (λ (x : List ℕ). Contains (k ∷ []) x) (sym is) (contains_head k []),
)

root_has : (root : Root) (key : List ℕ) → Contains (map key_at (keys_of_root root)) key ↔ HasRootKey root key
root_has root key = by_length (root.length == 0) refl
  where
    by_length : (b : Bool) → root.length == 0 ≡ b
        → Contains (map key_at (if b then [] else record { key = root_key root; level = root.level } ∷ [])) key ↔ ((root.length ≢ 0) × (key ≡ root_key root))
    by_length true is = (λ none. absurd (contains_none key none), λ has. absurd (has.0 (eqb-true root.length 0 is)))
    by_length false is = (
      λ has. (λ zero_length. absurd (let wrong : true ≡ false = sym (eq-eqb root.length 0 zero_length) ∙ is in cc), (only_one (root_key root) key).0 has),
      λ has. (only_one (root_key root) key).1 has.1,
    )

listed_has : (ns : List NamedRoot) (key : List ℕ) → Contains (map key_at (flat_map keys_of_listed ns)) key ↔ IsListedKey ns key
listed_has [] key = (λ none. contains_none key none, λ none. absurd none)
listed_has (n ∷ ns) key = (
  λ is. elim ((in_parts (keys_of_listed n) (flat_map keys_of_listed ns) key).0 is) [
    | inl here ↦ inl ((root_has n.root key).0 here)
    | inr later ↦ inr ((listed_has ns key).0 later)
  ],
  λ is. (in_parts (keys_of_listed n) (flat_map keys_of_listed ns) key).1 (elim is [
    | inl here ↦ inl ((root_has n.root key).1 here)
    | inr later ↦ inr ((listed_has ns key).1 later)
  ]),
)

-- a pin is listed by its key
abbrev IsPinned : PinMap → List ℕ → Type 0
IsPinned pins key = (pin : Pin) × (finite.get pins key ≡ Some pin)

pin_has : (pins : PinMap) (k key : List ℕ) → Contains (map key_at (keys_of_pin pins k)) key ↔ ((key ≡ k) × IsPinned pins key)
pin_has pins k key = by_pin (finite.get pins k) refl
  where
    by_pin : (found : Option Pin) → finite.get pins k ≡ found → Contains (map key_at (keys_as_pinned k found)) key ↔ ((key ≡ k) × IsPinned pins key)
    by_pin None none = (
      λ is. absurd (contains_none key is),
      λ is. absurd (let wrong : None ≡ Some is.1.0 = sym none ∙ ap (finite.get pins) (sym is.0) ∙ is.1.1 in cc),
    )
    by_pin (Some pin) found = (
      λ is. let same = (only_one k key).0 is in (same, (pin, ap (finite.get pins) same ∙ found)),
      λ is. (only_one k key).1 is.0,
    )

pins_have : (pins : PinMap) (ks : List (List ℕ)) (key : List ℕ) → Contains (map key_at (flat_map (keys_of_pin pins) ks)) key ↔ (Contains ks key × IsPinned pins key)
pins_have pins [] key = (λ none. absurd (contains_none key none), λ none. absurd (contains_none key none.0))
pins_have pins (k ∷ ks) key = (
  λ is. elim ((in_parts (keys_of_pin pins k) (flat_map (keys_of_pin pins) ks) key).0 is) [
    | inl here ↦ (let has = (pin_has pins k key).0 here in (subst (λ (x : List ℕ). Contains (k ∷ ks) x) (sym has.0) (contains_head k ks), has.1))
    | inr later ↦ (let has = (pins_have pins ks key).0 later in (contains_next k key ks has.0, has.1))
  ],
  λ is. (in_parts (keys_of_pin pins k) (flat_map (keys_of_pin pins) ks) key).1 (elim (contains_first k key ks is.0) [
    | inl here ↦ inl ((pin_has pins k key).1 (here, is.1))
    | inr later ↦ inr ((pins_have pins ks key).1 (later, is.1))
  ]),
)

part_has : (part : Part) (key : List ℕ) → Contains (map key_at (keys_of_part part)) key ↔ IsPartKey part key
part_has Idle key = (λ none. contains_none key none, λ none. absurd none)
part_has (Writing pins) key = (
  λ is. ((pins_have pins (finite.keys pins) key).0 is).1,
  λ is. (pins_have pins (finite.keys pins) key).1 ((keys_there pins key).1 is, is),
)
part_has (Reading reader) key = root_has reader.root key

number_has : (parts : List Part) (actor : ℕ) (key : List ℕ) → Contains (map key_at (keys_of_number parts actor)) key ↔ IsNumberKey parts actor key
number_has parts actor key = by_number (nat_lt actor ACTORS) refl
  where
    by_number : (b : Bool) → nat_lt actor ACTORS ≡ b
        → Contains (map key_at (if b then keys_of_part (part_of parts actor) else [])) key ↔ ((actor < ACTORS) × IsPartKey (part_of parts actor) key)
    by_number true is = (λ has. (ltb-true actor ACTORS is, (part_has (part_of parts actor) key).0 has), λ has. (part_has (part_of parts actor) key).1 has.1)
    by_number false is = (λ none. absurd (contains_none key none), λ has. absurd (let past = ltb-false actor ACTORS is in omega (arith, past, has.0)))

-- the last of so many, or one before it
last_or_before : (parts : List Part) (count : ℕ) (key : List ℕ) → OfFirst parts (suc count) key ↔ (OfFirst parts count key ⊎ IsNumberKey parts count key)
last_or_before parts count key = (
  λ is. by_place is.0 is.1 (leb_tells (suc is.0) count),
  λ is. elim is [
    | inl before ↦ (before.0, (omega (arith, before.1.0), before.1.1))
    | inr here ↦ (count, (omega arith, here))
  ],
)
  where
    by_place : (actor : ℕ) → (actor < suc count) × IsNumberKey parts actor key → (leb (suc actor) count ≡ true) × (suc actor ≤ count) ⊎ (leb (suc actor) count ≡ false)
        × (count < suc actor)
        → OfFirst parts count key ⊎ IsNumberKey parts count key
    by_place actor is (inl less) = inl (actor, (omega (arith, less.1), is.1))
    by_place actor is (inr more) =
        let same : actor ≡ count = omega (arith, more.1, is.0) in
        inr (subst (λ (n : ℕ). IsNumberKey parts n key) same is.1)

first_have : (parts : List Part) (count : ℕ) (key : List ℕ) → Contains (map key_at (keys_of_first parts count)) key ↔ OfFirst parts count key
unfolding keys_of_first
first_have parts zero key = (λ none. absurd (contains_none key none), λ has. absurd (omega (arith, has.1.0)))
first_have parts (suc count) key = (
  λ is. (last_or_before parts count key).1 (elim ((in_parts (keys_of_first parts count) (keys_of_number parts count) key).0 is) [
    | inl before ↦ inl ((first_have parts count key).0 before)
    | inr here ↦ inr ((number_has parts count key).0 here)
  ]),
  λ is. (in_parts (keys_of_first parts count) (keys_of_number parts count) key).1 (elim ((last_or_before parts count key).0 is) [
    | inl before ↦ inl ((first_have parts count key).1 before)
    | inr here ↦ inr ((number_has parts count key).1 here)
  ]),
)

-- just the roots are listed
pub roots_have : (names : NameMap) (parts : List Part) (key : List ℕ) → Contains (map key_at (roots_of names parts)) key ↔ IsRoot names parts key
roots_have names parts key = (
  λ is. elim ((in_parts (flat_map keys_of_listed (listing_of names)) (keys_of_first parts ACTORS) key).0 is) [
    | inl name ↦ inl ((listed_has (listing_of names) key).0 name)
    | inr actor ↦ (let has = (first_have parts ACTORS key).0 actor in inr (has.0, has.1.1))
  ],
  λ is. (in_parts (flat_map keys_of_listed (listing_of names)) (keys_of_first parts ACTORS) key).1 (elim is [
    | inl name ↦ inl ((listed_has (listing_of names) key).1 name)
    | inr actor ↦ inr ((first_have parts ACTORS key).1 (actor.0, (actor.1.0, actor.1)))
  ]),
)

-- where no actor is at anything those of names are all
none_at : (parts : List Part) (actor : ℕ) → (actor < ACTORS → part_of parts actor ≡ Idle) → keys_of_number parts actor ≡ []
none_at parts actor idle = by_number (nat_lt actor ACTORS) refl
  where
    by_number : (b : Bool) → nat_lt actor ACTORS ≡ b → (if b then keys_of_part (part_of parts actor) else []) ≡ []
    by_number true is = ap keys_of_part (idle (ltb-true actor ACTORS is))
    by_number false is = refl

none_held : (parts : List Part) (count : ℕ) → ((actor : ℕ) → actor < ACTORS → part_of parts actor ≡ Idle) → keys_of_first parts count ≡ []
unfolding keys_of_first
none_held parts zero idle = refl
none_held parts (suc count) idle = ap (λ (ks : List RootKey). ks ++ keys_of_number parts count) (none_held parts count idle) ∙ none_at parts count (idle count)

pub names_alone : (names : NameMap) (parts : List Part) → ((actor : ℕ) → actor < ACTORS → part_of parts actor ≡ Idle) → roots_of names parts ≡ keys_of_names names
names_alone names parts idle = ap (λ (ks : List RootKey). keys_of_names names ++ ks) (none_held parts ACTORS idle) ∙ append-nil (keys_of_names names)

map_has : (f : RootKey → List ℕ) (roots : List RootKey) (r : RootKey) → Contains roots r → Contains (map f roots) (f r)
map_has f [] r (k, below, is) = absurd (omega (arith, below))
map_has f (x ∷ xs) r (zero, below, is) = (zero, omega arith, ap f is)
map_has f (x ∷ xs) r (suc k, below, is) = let rest = map_has f xs r (k, omega (arith, below), is) in (suc rest.0, omega (arith, rest.1), rest.2)

-- each that is listed is one
pub root_live : (names : NameMap) (parts : List Part) (r : RootKey) → Contains (roots_of names parts) r → IsRoot names parts r.key
root_live names parts r among = (roots_have names parts r.key).0 (map_has key_at (roots_of names parts) r among)

-- so what is live at first is the roots
pub roots_live : (live : LiveKeys) (names : NameMap) (parts : List Part) (roots : List RootKey) → roots ≡ roots_of names parts
    → ((key : List ℕ) (place : Place) → IsLiveAt live key place ↔ Contains (map key_at roots) key) → (key : List ℕ) (place : Place)
    → IsLiveAt live key place ↔ IsRoot names parts key
roots_live live names parts roots are marked key place = (
  λ is. (roots_have names parts key).0 (subst (λ (rs : List RootKey). Contains (map key_at rs) key) are ((marked key place).0 is)),
  λ is. (marked key place).1 (subst (λ (rs : List RootKey). Contains (map key_at rs) key) (sym are) ((roots_have names parts key).1 is)),
)

-- ---- marking them

pub roots_turn : (roots : List RootKey) (i : ℕ) (d : RootKey) (old mid new : LiveKeys) → i < length roots → Marks (Contains (map key_at (take i roots))) old mid
    → Marks (λ k. k ≡ (get_or roots i d).key) mid new → Marks (Contains (map key_at (take (i + 1) roots))) old new
roots_turn roots i d old mid new within first second =
    let root : RootKey = get_or roots i d in
    let more : map key_at (take (i + 1) roots) ≡ map key_at (take i roots) ++ root.key ∷ [] = ap (map key_at) (take_more roots i d within) ∙ map_push key_at (take i roots) root in
    subst (λ (all : List (List ℕ)). Marks (Contains all) old new) (sym more)
    (marks_as (λ k. Contains (map key_at (take i roots)) k ⊎ (k ≡ root.key)) (Contains (map key_at (take i roots) ++ root.key ∷ [])) old new
    (contains_more (map key_at (take i roots)) root.key)
    (marks_more (Contains (map key_at (take i roots))) (λ k. k ≡ root.key) old mid new first second))

-- ---- looking them up

pub found_more : (known : Option PlaceMap) (roots : List RootKey) (i : ℕ) (d : RootKey) → i < length roots → AreFound known (take i roots) → IsFound known (get_or roots i d)
    → AreFound known (take (i + 1) roots)
found_more known roots i d within before here =
    subst (AreFound known) (sym (take_more roots i d within)) (All-push (IsFound known) (take i roots) (get_or roots i d) before here)

stops_is : (alone known : Option PlaceMap) (roots : List RootKey) (refusal : Refusal) → StopsAt alone known roots refusal → IsStartRefusal alone known roots refusal
stops_is alone known roots Memory stops = tt
stops_is alone known roots _ stops = stops

pub stuck_at : (alone known : Option PlaceMap) (roots : List RootKey) (i : ℕ) (d : RootKey) (refusal : Refusal) → i < length roots → AreFound known (take i roots)
    → IsUnfound alone known (get_or roots i d) refusal → IsStartRefusal alone known roots refusal
stuck_at alone known roots i d refusal within before cause = stops_is alone known roots refusal (record {
  before = take i roots;
  at = get_or roots i d;
  after = drop (i + 1) roots;
  roots_are = sym (take-append-drop i roots) ∙ ap (λ (rs : List RootKey). take i roots ++ rs) (drop_more roots i d within);
  passed = before;
  cause = cause;
})

-- What a collection copied lies in the containers that it wrote, and is needed; and the newest copy of each other key that is needed stays.
use Rattle.store_machine.proofs.Prelude.{◌≡◌, ◌⊎◌, ◌+◌, ◌<◌, ◌≤◌, ◌≢◌, inl, inr, ⊎_elim, ℕ, zero, suc, Bool, true, false, nat_lt, ListOf, [], ◌∷◌, ◌++◌, length, map, Option, Some, None, option_map, refl, sym, ◌∙◌, ap, subst, arith, Contains, AllByRecursion, Contains-append_cases, Contains-append_left, Entry, Kind, Segment, segment_key, HeaderValue, header_of, there_before, with_freed, Store, IsSpare, first_free, free_slots, with_slot, ChangeName, FlushContainer, FreeContainer, SealContainer, StoreChange, with_sealed, EachOnce, Makes, keys_written, Sweeps, Found, NamesNeed, keys_of, of_files}
use Rattle.std.proofs.Common.{cond, find, if◌then◌else◌, slice_get}
use Rattle.std.proofs.lemmas.Bool.{ltb-false, ltb-true}
use Rattle.std.proofs.lemmas.List.Elements.{Contains-append_right}
use Rattle.std.proofs.lemmas.Slice.Eq.{bytes_eq-Decides}
use Rattle.std.specs.Str.{bytes_eq}
use Rattle.sha2.specs.Sha256.{sha256}
use Rattle.base_model.specs.Bytes.{key_of}
use Rattle.container_meta.specs.Format.{kind_byte}
use Rattle.container_meta.specs.Segments.{entries_from}
use Rattle.store_model.specs.Indexing.{entry_key}
use Rattle.store_model.specs.Needed.{IsNeededCopy, SumsNeeded}
use Rattle.store_model.specs.Slots.{Copy, copy_in, newer, newest}
use Rattle.store_model.specs.Steps.{CanFlush, changed}
use Rattle.store_model.proofs.Copies.{some_same}
use Rattle.store_model.proofs.CopyIds.{newest_id}
use Rattle.store_model.proofs.FreedTrees.{in_head, in_tail, newest_freed}
use Rattle.store_model.proofs.HeldSlots.{found_so}
use Rattle.store_model.proofs.NewestSealed.{entry_copy, newest_of_entries}
use Rattle.store_model.proofs.SealedTrees.{newest_beside}
use Rattle.store_machine.specs.CollectsAlone.{IsNeededCopy as IsNeededOf, IsOfSweep, KeepsNeeded}

-- ---- what a collection changes alone

-- In its turn a container is given back that holds the newest copy of no key of which P holds, or one of copies is written.
abbrev pub Spares : (ListOf ℕ → Type 0) → ListOf StoreChange → Store → Store → Type 0
Spares P [] s t = t ≡ s
Spares P (FreeContainer slot ∷ more) s t = IsSpare P s.held slot × Spares P more (with_freed slot s) t
Spares P (FlushContainer id kind segments ∷ more) s t = CanFlush id kind segments s × Spares P more (with_sealed id kind segments s) t
Spares P (change ∷ more) s t = ⊥

spares_by : (now : Found (ListOf ℕ)) (changes : ListOf StoreChange) (s t : Store) → AllByRecursion IsOfSweep changes → Makes changes s t → KeepsNeeded now changes s
    → Spares (NamesNeed of_files now) changes s t
spares_by now [] s t each makes keeps = makes
spares_by now (SealContainer id kind segments ∷ more) s t each makes keeps = absurd each.0
spares_by now (ChangeName name change ∷ more) s t each makes keeps = absurd each.0
spares_by now (FlushContainer id kind segments ∷ more) s t each (can, makes) keeps =
    (can, spares_by now more (changed (FlushContainer id kind segments) s) t each.1 makes keeps.1)
spares_by now (FreeContainer slot ∷ more) s t each (can, makes) keeps = (keeps.0, spares_by now more (changed (FreeContainer slot) s) t each.1 makes keeps.1)

-- by another word for what is needed
pub spares_as : (P Q : ListOf ℕ → Type 0) → ((key : ListOf ℕ) → Q key → P key) → (changes : ListOf StoreChange) (s t : Store) → Spares P changes s t → Spares Q changes s t
spares_as P Q to [] s t spares = spares
spares_as P Q to (SealContainer id kind segments ∷ more) s t spares = absurd spares
spares_as P Q to (ChangeName name change ∷ more) s t spares = absurd spares
spares_as P Q to (FlushContainer id kind segments ∷ more) s t spares = (spares.0, spares_as P Q to more (with_sealed id kind segments s) t spares.1)
spares_as P Q to (FreeContainer slot ∷ more) s t spares = (
  record { header = spares.0.header; holds = spares.0.holds; none = λ key copy needs. spares.0.none key copy (to key needs) },
  spares_as P Q to more (with_freed slot s) t spares.1,
)

pub spares_of : (now : Found (ListOf ℕ)) (changes : ListOf StoreChange) (s t : Store) → Sweeps now changes s t → Spares (NamesNeed of_files now) changes s t
spares_of now changes s t sweeps = spares_by now changes s t sweeps.each sweeps.makes sweeps.keeps

-- ---- lists

pub all_both : (P Q R : Entry → Type 0) (es : ListOf Entry) → ((e : Entry) → P e → Q e → R e) → AllByRecursion P es → AllByRecursion Q es → AllByRecursion R es
all_both P Q R [] each one two = tt
all_both P Q R (e ∷ es) each one two = (each e one.0 two.0, all_both P Q R es each one.1 two.1)

pub all_so : (P Q : Entry → Type 0) (es : ListOf Entry) → ((e : Entry) → P e → Q e) → AllByRecursion P es → AllByRecursion Q es
all_so P Q [] each all = tt
all_so P Q (e ∷ es) each all = (each e all.0, all_so P Q es each all.1)

-- of keys none of which comes twice: the later ones do neither, and none of them is among the first
once_later : (xs ys : ListOf (ListOf ℕ)) → EachOnce (xs ++ ys) → EachOnce ys
once_later [] ys once = once
once_later (x ∷ xs) ys once = once_later xs ys once.1

once_apart : (xs ys : ListOf (ListOf ℕ)) (key : ListOf ℕ) → EachOnce (xs ++ ys) → Contains xs key → Contains ys key → ⊥
once_apart [] ys key once (k, below, is) later = absurd (omega (arith, below))
once_apart (x ∷ xs) ys key once (zero, below, is) later = once.0 (Contains-append_right xs ys x (subst (Contains ys) (sym is) later))
once_apart (x ∷ xs) ys key once (suc k, below, is) later = once_apart xs ys key once.1 (k, omega (arith, below), is) later

-- the keys of segments that are others
other_keys : (kind : Kind) (segments : ListOf Segment) (key : ListOf ℕ) → (Contains (keys_of kind segments) key → ⊥) → AllByRecursion (λ s. segment_key kind s ≢ key) segments
other_keys kind [] key none = tt
other_keys kind (s ∷ ss) key none = (
  λ same. none (0, omega arith, same),
  other_keys kind ss key (λ has. none (in_tail (segment_key kind s) key (map (segment_key kind) ss) has)),
)

-- the keys of the entries of segments are theirs
keys_of_entries : (kind : Kind) (offset : ℕ) (segments : ListOf Segment) (keys : ListOf (ListOf ℕ)) →
    ((key : ListOf ℕ) → Contains (keys_of kind segments) key → Contains keys key)
    → AllByRecursion (λ e. Contains keys (entry_key kind e)) (entries_from offset segments)
keys_of_entries kind offset [] keys each = tt
keys_of_entries kind offset (s ∷ ss) keys each = (
  each (segment_key kind s) (in_head (segment_key kind s) (map (segment_key kind) ss)),
  keys_of_entries kind (offset + length s.bytes) ss keys (λ key has. each key (in_tail (segment_key kind s) key (map (segment_key kind) ss) has)),
)

-- the entry of one of these keys
entry_of_key : (kind : Kind) (offset : ℕ) (segments : ListOf Segment) (key : ListOf ℕ) → Contains (keys_of kind segments) key → (Q : Entry → Type 0) →
    AllByRecursion Q (entries_from offset segments)
    → (e : Entry) × ((entry_key kind e ≡ key) × Q e)
entry_of_key kind offset [] key (k, below, is) Q all = absurd (omega (arith, below))
entry_of_key kind offset (s ∷ ss) key (zero, below, is) Q all = (record { digest = sha256 s.bytes; offset = offset; length = length s.bytes; level = s.level }, (is, all.0))
entry_of_key kind offset (s ∷ ss) key (suc k, below, is) Q all = entry_of_key kind (offset + length s.bytes) ss key (k, omega (arith, below), is) Q all.1

-- one that is found under a key has it
units : (es : ListOf Entry) → AllByRecursion (λ (e : Entry). Unit {0}) es
units [] = tt
units (e ∷ es) = (tt, units es)

pub found_key : (kind : Kind) (key : ListOf ℕ) (es : ListOf Entry) (e : Entry) → find (λ x. bytes_eq (key_of (kind_byte kind) x.digest) key) es ≡ Some e → entry_key kind e ≡ key
found_key kind key es e found = (bytes_eq-Decides (entry_key kind e) key).0
    (found_so (λ (x : Entry). Unit {0}) (λ x. bytes_eq (key_of (kind_byte kind) x.digest) key) es e (units es) found).1

-- ---- the newest copy of a key that a container holds is none of a lower id

-- 0 where there is no copy, else one more than its id
abbrev pub rank : Option Copy → ℕ
rank None = 0
rank (Some copy) = suc copy.id

rank_newer : (x y : Option Copy) → (rank x ≤ rank (newer x y)) × (rank y ≤ rank (newer x y))
rank_newer None y = (omega arith, omega arith)
rank_newer (Some a) None = (omega arith, omega arith)
rank_newer (Some a) (Some b) = by_test (nat_lt a.id b.id) refl
  where
    by_test : (less : Bool) → nat_lt a.id b.id ≡ less → (suc a.id ≤ rank (if less then Some b else Some a)) × (suc b.id ≤ rank (if less then Some b else Some a))
    by_test true is = (omega (arith, ltb-true a.id b.id is), omega arith)
    by_test false is = (omega arith, omega (arith, ltb-false a.id b.id is))

pub rank_least : (from : ℕ) (held : ListOf (Option HeaderValue)) (key : ListOf ℕ) (slot : ℕ) (h : HeaderValue) (e : Entry) → slice_get held slot ≡ Some (Some h)
    → find (λ x. bytes_eq (key_of (kind_byte h.kind) x.digest) key) h.entries ≡ Some e → h.id < rank (newest from held key)
rank_least from [] key slot h e there found = absurd cc
rank_least from (c ∷ cs) key zero h e there found =
    let is : rank (copy_in from c key) ≡ suc h.id =
    ap (λ (x : Option HeaderValue). rank (copy_in from x key)) (some_same c (Some h) there)
    ∙ ap (λ (x : Option Entry). rank (option_map (entry_copy from h.id) x)) found in
    omega (arith, is, (rank_newer (copy_in from c key) (newest (from + 1) cs key)).0)
rank_least from (c ∷ cs) key (suc slot) h e there found =
    omega (arith, rank_least (from + 1) cs key slot h e there found, (rank_newer (copy_in from c key) (newest (from + 1) cs key)).1)

-- what a slot has once a container is in the first that was closed
pub filled_there : (h g : HeaderValue) (held : ListOf (Option HeaderValue)) (slot : ℕ) → 1 ≤ free_slots held → slice_get (with_slot (first_free held) h held) slot ≡ Some (Some g)
    → ((slot ≡ first_free held) × (g ≡ h)) ⊎ (slice_get held slot ≡ Some (Some g))
filled_there h g [] slot some there = absurd (omega (arith, some))
filled_there h g (None ∷ cs) zero some there = inl (refl, sym (some_same h g (some_same (Some h) (Some g) there)))
filled_there h g (None ∷ cs) (suc slot) some there = inr there
filled_there h g (Some x ∷ cs) zero some there = inr there
filled_there h g (Some x ∷ cs) (suc slot) some there = elim (filled_there h g cs slot some there) [
  | inl here ↦ inl (ap suc here.0, here.1)
  | inr was ↦ inr was
]

-- ---- changes, one after the other

-- each entry of a container has a key of these, and is the newest copy of it
abbrev pub AreNewest : ListOf (ListOf ℕ) → ListOf (Option HeaderValue) → ℕ → HeaderValue → Type 0
AreNewest keys held slot h =
    AllByRecursion (λ e. Contains keys (entry_key h.kind e) × (newest 0 held (entry_key h.kind e) ≡ Some (entry_copy slot h.id e))) h.entries

module _ (P : ListOf ℕ → Type 0) where
  -- the newest copy of a key that is needed stays, where no change copies it
  pub still_newest : (changes : ListOf StoreChange) (s t : Store) (key : ListOf ℕ) → Spares P changes s t → P key → (Contains (keys_written changes) key → ⊥) →
      newest 0 t.held key ≡ newest 0 s.held key
  still_newest [] s t key sweeps needed none = ap (λ (x : Store). newest 0 x.held key) sweeps
  still_newest (SealContainer id kind segments ∷ more) s t key sweeps needed none = absurd sweeps
  still_newest (ChangeName name change ∷ more) s t key sweeps needed none = absurd sweeps
  still_newest (FlushContainer id kind segments ∷ more) s t key sweeps needed none =
      still_newest more (with_sealed id kind segments s) t key sweeps.1 needed (λ has. none (Contains-append_right (keys_of kind segments) (keys_written more) key has))
      ∙ newest_beside id kind segments s key (omega (arith, sweeps.0.slot))
      (other_keys kind segments key (λ has. none (Contains-append_left (keys_of kind segments) (keys_written more) key has)))
  still_newest (FreeContainer slot ∷ more) s t key sweeps needed none =
      still_newest more (with_freed slot s) t key sweeps.1 needed none ∙ newest_freed P slot s.held sweeps.0.none key needed

  -- one that is written has the newest copies of its keys, up to the end
  module _ (id : ℕ) (kind : Kind) (segments : ListOf Segment) (more : ListOf StoreChange) (s t : Store) (sweeps : Spares P (FlushContainer id kind segments ∷ more) s t)
      (once : EachOnce (keys_of kind segments ++ keys_written more))
      (needed : (key : ListOf ℕ) → Contains (keys_of kind segments ++ keys_written more) key → P key) where
    abbrev keys : ListOf (ListOf ℕ)
    keys = keys_of kind segments

    flushed : AreNewest (keys ++ keys_written more) t.held (first_free s.held) (header_of id kind segments)
    flushed =
        all_both _ _ _ (entries_from 0 segments) (λ e has newest_is. (
          Contains-append_left keys (keys_written more) (entry_key kind e) has,
          still_newest more (with_sealed id kind segments s) t (entry_key kind e) sweeps.1
              (needed (entry_key kind e) (Contains-append_left keys (keys_written more) (entry_key kind e) has))
              (once_apart keys (keys_written more) (entry_key kind e) once has)
              ∙ newest_is,
        )) (keys_of_entries kind 0 segments keys (λ key has. has))
        (newest_of_entries (header_of id kind segments) s.held sweeps.0.right (omega (arith, sweeps.0.slot)) sweeps.0.new_id)

  -- a key that is copied has a newer copy at the end
  pub carried : (changes : ListOf StoreChange) (s t : Store) (key : ListOf ℕ) (copy : Copy) → Spares P changes s t → EachOnce (keys_written changes) →
      ((k : ListOf ℕ) → Contains (keys_written changes) k → P k)
      → Contains (keys_written changes) key → P key → newest 0 s.held key ≡ Some copy → (now : Copy) × ((newest 0 t.held key ≡ Some now) × (copy.id < now.id))
  carried [] s t key copy sweeps once each (k, below, has) needed is = absurd (omega (arith, below))
  carried (SealContainer id kind segments ∷ more) s t key copy sweeps once each has needed is = absurd sweeps
  carried (ChangeName name change ∷ more) s t key copy sweeps once each has needed is = absurd sweeps
  carried (FlushContainer id kind segments ∷ more) s t key copy sweeps once each has needed is =
      let keys : ListOf (ListOf ℕ) = keys_of kind segments in
      elim (Contains-append_cases keys (keys_written more) key has) [
        | inl here ↦
            let found = entry_of_key kind 0 segments key here _ (flushed id kind segments more s t sweeps once each) in
            (entry_copy (first_free s.held) id found.0, (ap (newest 0 t.held) (sym found.1.0) ∙ found.1.1.1, omega (arith, sweeps.0.new_id, newest_id 0 s.held key copy is)))
        | inr later ↦
            carried more (with_sealed id kind segments s) t key copy sweeps.1 (once_later keys (keys_written more) once)
            (λ k there. each k (Contains-append_right keys (keys_written more) k there)) later needed
            (newest_beside id kind segments s key (omega (arith, sweeps.0.slot))
            (other_keys kind segments key (λ here. once_apart keys (keys_written more) key once here later)) ∙ is)
      ]
  carried (FreeContainer slot ∷ more) s t key copy sweeps once each has needed is =
      carried more (with_freed slot s) t key copy sweeps.1 once each has needed (newest_freed P slot s.held sweeps.0.none key needed ∙ is)

  -- so each container that is there was there, or is such a one
  pub written : (changes : ListOf StoreChange) (s t : Store) → Spares P changes s t → EachOnce (keys_written changes) →
      ((key : ListOf ℕ) → Contains (keys_written changes) key → P key)
      → (slot : ℕ) (h : HeaderValue) → slice_get t.held slot ≡ Some (Some h) → (slice_get s.held slot ≡ Some (Some h)) ⊎ AreNewest (keys_written changes) t.held slot h
  written [] s t sweeps once needed slot h there = inl (subst (λ (x : Store). slice_get x.held slot ≡ Some (Some h)) sweeps there)
  written (SealContainer id kind segments ∷ more) s t sweeps once needed slot h there = absurd sweeps
  written (ChangeName name change ∷ more) s t sweeps once needed slot h there = absurd sweeps
  written (FlushContainer id kind segments ∷ more) s t sweeps once needed slot h there =
      let keys : ListOf (ListOf ℕ) = keys_of kind segments in
      elim (written more (with_sealed id kind segments s) t sweeps.1 (once_later keys (keys_written more) once)
      (λ key has. needed key (Contains-append_right keys (keys_written more) key has)) slot h there) [
        | inr all ↦ inr (all_so _ _ h.entries (λ e is. (Contains-append_right keys (keys_written more) (entry_key h.kind e) is.0, is.1)) all)
        | inl was ↦ elim (filled_there (header_of id kind segments) h s.held slot (omega (arith, sweeps.0.slot)) was) [
          | inl here ↦ inr (subst (λ (n : ℕ). AreNewest (keys ++ keys_written more) t.held n h) (sym here.0)
              (subst (AreNewest (keys ++ keys_written more) t.held (first_free s.held)) (sym here.1) (flushed id kind segments more s t sweeps once needed)))
          | inr before ↦ inl before
        ]
      ]
  written (FreeContainer slot ∷ more) s t sweeps once needed other h there =
      elim (written more (with_freed slot s) t sweeps.1 once needed other h there) [
        | inl was ↦ inl (there_before slot other h s.held was).1
        | inr all ↦ inr all
      ]

-- ---- what is needed

module _ (P : ListOf ℕ → Type 0) (held : ListOf (Option HeaderValue)) (kind : Kind) (slot : ℕ) where
  -- where nothing is needed, no entry of some length is
  pub none_needed : (test : Entry → Bool) (es : ListOf Entry) (e : Entry) (sum : ℕ) → SumsNeeded P held kind slot es sum → sum ≡ 0 → find test es ≡ Some e → 1 ≤ e.length →
      IsNeededCopy P held kind slot e → ⊥
  none_needed test [] e sum sums none found some needed = absurd cc
  none_needed test (x ∷ xs) e sum sums none found some needed =
      elim (test x) as (λ b. cond b (Some x) (find test xs) ≡ Some e → ⊥) [
        | true ↦ λ is. elim sums [
          | inl one ↦ omega (arith, one.1.1, none, some, ap (λ (y : Entry). y.length) (some_same x e is))
          | inr dead ↦ dead.0 (subst (IsNeededCopy P held kind slot) (sym (some_same x e is)) needed)
        ]
        | false ↦ λ is. elim sums [
          | inl one ↦ none_needed test xs e one.1.0 one.1.2 (omega (arith, one.1.1, none)) is some needed
          | inr dead ↦ none_needed test xs e sum dead.1 none is some needed
        ]
      ] found

-- what is written the names need
module _ (now : Found (ListOf ℕ)) where
  copies_needed : (store : Store) (kind : Kind) (segments : ListOf Segment) → AllByRecursion (IsNeededOf now store kind) segments → (key : ListOf ℕ)
      → Contains (keys_of kind segments) key → NamesNeed of_files now key
  copies_needed store kind [] all key (k, below, is) = absurd (omega (arith, below))
  copies_needed store kind (x ∷ xs) all key (zero, below, is) = subst (NamesNeed of_files now) is all.0.0
  copies_needed store kind (x ∷ xs) all key (suc k, below, is) = copies_needed store kind xs all.1 key (k, omega (arith, below), is)

  needs_by : (changes : ListOf StoreChange) (s : Store) → KeepsNeeded now changes s → (key : ListOf ℕ) → Contains (keys_written changes) key → NamesNeed of_files now key
  needs_by [] s keeps key (k, below, is) = absurd (omega (arith, below))
  needs_by (SealContainer id kind segments ∷ more) s keeps key has = needs_by more (changed (SealContainer id kind segments) s) keeps key has
  needs_by (ChangeName name change ∷ more) s keeps key has = needs_by more (changed (ChangeName name change) s) keeps key has
  needs_by (FlushContainer id kind segments ∷ more) s keeps key has = ⊎_elim (λ here. copies_needed s kind segments keeps.0 key here)
      (λ later. needs_by more (changed (FlushContainer id kind segments) s) keeps.1 key later)
      (Contains-append_cases (keys_of kind segments) (keys_written more) key has)
  needs_by (FreeContainer slot ∷ more) s keeps key has = needs_by more (changed (FreeContainer slot) s) keeps.1 key has

  pub needs_written : (changes : ListOf StoreChange) (s t : Store) → Sweeps now changes s t → (key : ListOf ℕ) → Contains (keys_written changes) key → NamesNeed of_files now key
  needs_written changes s t sweeps key has = needs_by changes s sweeps.keeps key has

-- What containers that are added, one after the other, make of a store: no key of theirs was there before, and none comes twice.
use Rattle.store_machine.proofs.Prelude.{◌≡◌, ◌≢◌, ◌∙◌, ◌≤◌, ◌<◌, ◌+◌, ℕ, zero, suc, [], ◌∷◌, ◌++◌, length, Some, None, refl, sym, ap, subst, arith, inl, inr, AllByRecursion, Kind, Segment, segment_key, header_of, Store, SealContainer, ChangeName, FlushContainer, FreeContainer, StoreChange, with_sealed, first_free, free_slots, last_id, of_kind, Makes, Machine}
use Rattle.std.proofs.Common.{List, take}
use Rattle.base_model.specs.Bytes.{key_of}
use Rattle.container_meta.specs.Format.{kind_byte}
use Rattle.container_meta.specs.Segments.{Contents, entries_from}
use Rattle.container_meta.specs.Spelling.{IsHeader}
use Rattle.container_meta.specs.declared.entry.Entry.{Entry}
use Rattle.ingest_session.proofs.Members.{all_then}
use Rattle.store_model.specs.Pieces.{HasPieceOf}
use Rattle.store_model.specs.Slots.{newest}
use Rattle.store_model.proofs.Filled.{last_new}
use Rattle.store_model.proofs.NewestSealed.{entry_copy, newest_of_entries}
use Rattle.store_model.proofs.SealedTrees.{newest_beside}
use Rattle.store_machine.specs.Ingests.{AreOfferedFor, IsSealFor}
use Rattle.store_machine.specs.Needs.{HasLength, forgotten_beside, keys_of}
use Rattle.store_machine.specs.Offers.{AddsContainer, AddsContainers, AllSegments, AnyByRecursion}
use Rattle.store_machine.specs.Storing.{AddsOnce}
use Rattle.store_machine.proofs.Added.{each_added}

-- ---- all segments of some containers

pub all_then_in : (P Q : Kind → Segment → Type 0) (cs : List Contents) → ((kind : Kind) (x : Segment) → P kind x → Q kind x) → AllSegments P cs → AllSegments Q cs
all_then_in P Q [] step all = tt
all_then_in P Q (c ∷ cs) step (all, more) = (all_then (P c.kind) (Q c.kind) c.segments (step c.kind) all, all_then_in P Q cs step more)

all_both : (P Q : Segment → Type 0) (xs : List Segment) → AllByRecursion P xs → AllByRecursion Q xs → AllByRecursion (λ x. P x × Q x) xs
all_both P Q [] one other = tt
all_both P Q (x ∷ xs) one other = ((one.0, other.0), all_both P Q xs one.1 other.1)

all_both_in : (P Q : Kind → Segment → Type 0) (cs : List Contents) → AllSegments P cs → AllSegments Q cs → AllSegments (λ kind x. P kind x × Q kind x) cs
all_both_in P Q [] one other = tt
all_both_in P Q (c ∷ cs) one other = (all_both (P c.kind) (Q c.kind) c.segments one.0 other.0, all_both_in P Q cs one.1 other.1)

-- the store has no copy of its key
abbrev pub Lacks : Store → Kind → Segment → Type 0
Lacks store kind x = newest 0 store.held (segment_key kind x) ≡ None

-- it has one of its length
abbrev pub Holds : Store → Kind → Segment → Type 0
Holds store kind x = HasLength store (of_kind kind x)

-- the key is of none of them
abbrev pub LacksKey : List ℕ → Kind → Segment → Type 0
LacksKey key kind x = key ≢ segment_key kind x

-- no key of one container is one of a later one
abbrev pub AreApart : List Contents → Type 0
AreApart [] = Unit {0}
AreApart (c ∷ cs) = AllSegments (λ kind y. AllByRecursion (LacksKey (segment_key kind y) c.kind) c.segments) cs × AreApart cs

-- ---- as changes of a store

abbrev pub seals_of : ℕ → List Contents → List StoreChange
seals_of last [] = []
seals_of last (c ∷ cs) = SealContainer (suc last) c.kind c.segments ∷ seals_of (suc last) cs

-- each is one of these
each_taken : (k : ℕ) (cs : List Contents) → AllByRecursion (λ c. AnyByRecursion (λ d. (c.kind ≡ d.kind) × (c.segments ≡ d.segments)) cs) (take k cs)
each_taken zero cs = tt
each_taken (suc k) [] = tt
each_taken (suc k) (c ∷ cs) = (
  inl (refl, refl),
  all_then (λ e. AnyByRecursion (λ d. (e.kind ≡ d.kind) × (e.segments ≡ d.segments)) cs)
      (λ e. AnyByRecursion (λ d. (e.kind ≡ d.kind) × (e.segments ≡ d.segments)) (c ∷ cs)) (take k cs) (λ e there. inr there) (each_taken k cs),
)

pub seals_are_for : (given : List ℕ) (offered : List Contents) (last count : ℕ) → AreOfferedFor given offered
    → AllByRecursion (IsSealFor given) (seals_of last (take count offered))
seals_are_for given offered last count for = by last (take count offered) (each_taken count offered)
  where
    by : (last : ℕ) (cs : List Contents) → AllByRecursion (λ c. AnyByRecursion (λ d. (c.kind ≡ d.kind) × (c.segments ≡ d.segments)) offered) cs
        → AllByRecursion (IsSealFor given) (seals_of last cs)
    by last [] each = tt
    by last (c ∷ cs) (one, more) = ((offered, for, one), by (suc last) cs more)

pub adds_then : (file : List ℕ) (xs ys : List StoreChange) (s t : Store) → Makes xs s t → AddsOnce file xs s → AddsOnce file ys t → AddsOnce file (xs ++ ys) s
adds_then file [] ys s t makes before after = subst (AddsOnce file ys) makes after
adds_then file (SealContainer id kind segments ∷ xs) ys s t makes before after =
    (before.0, before.1, adds_then file xs ys (with_sealed id kind segments s) t makes.1 before.2 after)
adds_then file (ChangeName name change ∷ xs) ys s t makes before after = absurd before
adds_then file (FlushContainer id kind segments ∷ xs) ys s t makes before after = absurd before
adds_then file (FreeContainer slot ∷ xs) ys s t makes before after = absurd before

-- ---- one container

-- each of its segments has a copy of its length
sealed_long : (id : ℕ) (kind : Kind) (segments : List Segment) (store : Store) → 1 ≤ free_slots store.held → last_id store.held < id
    → IsHeader (header_of id kind segments) → AllByRecursion (Holds (with_sealed id kind segments store) kind) segments
sealed_long id kind segments store some above right = by 0 segments (newest_of_entries (header_of id kind segments) store.held right some above)
  where
    by : (offset : ℕ) (xs : List Segment)
        → AllByRecursion (λ (e : Entry).
        newest 0 (with_sealed id kind segments store).held (key_of (kind_byte kind) e.digest) ≡ Some (entry_copy (first_free store.held) id e))
        (entries_from offset xs) → AllByRecursion (Holds (with_sealed id kind segments store) kind) xs
    by offset [] all = tt
    by offset (x ∷ xs) all = ((_, all.0, refl), by (offset + length x.bytes) xs all.1)

module _ {V R : Type 0} (a : ℕ) where
  module _ (c : Contents) (m n : Machine V R) (one : AddsContainer a c m n) where
    store_is : n.store ≡ with_sealed (suc m.last_id) c.kind c.segments m.store
    store_is = ap (λ (x : Machine V R). x.store) one.others

    some : 1 ≤ free_slots m.store.held
    some = let slot = one.can.slot in omega (arith, slot)

    -- a copy of another key stays
    beside_one : (key : List ℕ) → AllByRecursion (LacksKey key c.kind) c.segments → newest 0 n.store.held key ≡ newest 0 m.store.held key
    beside_one key differ =
        ap (λ (s : Store). newest 0 s.held key) store_is
        ∙ newest_beside (suc m.last_id) c.kind c.segments m.store key some
        (all_then (LacksKey key c.kind) (λ y. segment_key c.kind y ≢ key) c.segments (λ y other same. other (sym same)) differ)

    one_holds : AllByRecursion (Holds n.store c.kind) c.segments
    one_holds =
        subst (λ (s : Store). AllByRecursion (Holds s c.kind) c.segments) (sym store_is)
        (sealed_long (suc m.last_id) c.kind c.segments m.store some one.can.new_id one.can.right)

    last_one : m.last_id ≡ last_id m.store.held → n.last_id ≡ last_id n.store.held
    last_one is =
        ap (λ (x : Machine V R). x.last_id) one.others
        ∙ sym (ap (λ (s : Store). last_id s.held) store_is ∙ last_new (header_of (suc m.last_id) c.kind c.segments) m.store.held some one.can.new_id)

    -- those of later containers are lacked still
    lack_still : (cs : List Contents) → AreApart (c ∷ cs) → AllSegments (Lacks m.store) cs → AllSegments (Lacks n.store) cs
    lack_still cs (apart, more) lacks =
        all_then_in (λ kind y. AllByRecursion (LacksKey (segment_key kind y) c.kind) c.segments × Lacks m.store kind y) (Lacks n.store) cs
        (λ kind y both. beside_one (segment_key kind y) both.0 ∙ both.1) (all_both_in _ _ cs apart lacks)

  -- ---- all of them

  pub makes_all : (cs : List Contents) (m n : Machine V R) → AddsContainers a cs m n → Makes (seals_of m.last_id cs) m.store n.store
  makes_all [] m n is = ap (λ (x : Machine V R). x.store) is
  makes_all (c ∷ cs) m n (mid, one, rest) =
      (one.can, subst (λ (x : Machine V R). Makes (seals_of x.last_id cs) x.store n.store) one.others (makes_all cs mid n rest))

  pub last_all : (cs : List Contents) (m n : Machine V R) → AddsContainers a cs m n → m.last_id ≡ last_id m.store.held → n.last_id ≡ last_id n.store.held
  last_all = each_added a (λ x. x.last_id ≡ last_id x.store.held) last_one

  -- where nothing was forgotten nothing is
  pub forgotten_all : (cs : List Contents) (m n : Machine V R) → AddsContainers a cs m n → m.forgotten ≡ [] → n.forgotten ≡ []
  forgotten_all = each_added a (λ x. x.forgotten ≡ [])
      (λ c m n one none. ap (λ (x : Machine V R). x.forgotten) one.others ∙ ap (forgotten_beside (keys_of c.kind c.segments)) none)

  pub beside_all : (key : List ℕ) (cs : List Contents) (m n : Machine V R) → AddsContainers a cs m n → AllSegments (LacksKey key) cs
      → newest 0 n.store.held key ≡ newest 0 m.store.held key
  beside_all key [] m n is differ = ap (λ (x : Machine V R). newest 0 x.store.held key) is
  beside_all key (c ∷ cs) m n (mid, one, rest) (differ, more) = beside_all key cs mid n rest more ∙ beside_one c m mid one key differ

  -- what was held is held still
  pub held_all : (cs : List Contents) (m n : Machine V R) → AddsContainers a cs m n → AllSegments (Lacks m.store) cs → (kind : Kind) (x : Segment) → Holds m.store kind x
      → Holds n.store kind x
  held_all cs m n adds lacks kind x (copy, is, long) = (
    copy,
    beside_all (segment_key kind x) cs m n adds (all_then_in (Lacks m.store) (LacksKey (segment_key kind x)) cs
        (λ k y none same. let both : None ≡ Some copy = sym none ∙ ap (newest 0 m.store.held) (sym same) ∙ is in cc) lacks) ∙ is,
    long,
  )

  -- and so is all that is added
  pub hold_all : (cs : List Contents) (m n : Machine V R) → AddsContainers a cs m n → AreApart cs → AllSegments (Lacks m.store) cs → AllSegments (Holds n.store) cs
  hold_all [] m n is apart lacks = tt
  hold_all (c ∷ cs) m n (mid, one, rest) apart (lack, lacks) =
      let next = lack_still c m mid one cs apart lacks in (
        all_then (Holds mid.store c.kind) (Holds n.store c.kind) c.segments (held_all cs mid n rest next c.kind) (one_holds c m mid one),
        hold_all cs mid n rest apart.1 next,
      )

  pub once_all : (file : List ℕ) (cs : List Contents) (m n : Machine V R) → AddsContainers a cs m n → AreApart cs → AllSegments (Lacks m.store) cs
      → AllSegments (λ kind x. HasPieceOf file (of_kind kind x)) cs → m.last_id ≡ last_id m.store.held → AddsOnce file (seals_of m.last_id cs) m.store
  once_all file [] m n is apart lacks pieces last = tt
  once_all file (c ∷ cs) m n (mid, one, rest) apart (lack, lacks) (piece, pieces) last = (
    ap suc last,
    all_both (λ x. HasPieceOf file (of_kind c.kind x)) (Lacks m.store c.kind) c.segments piece lack,
    subst (λ (x : Machine V R). AddsOnce file (seals_of x.last_id cs) x.store) one.others
        (once_all file cs mid n rest apart.1 (lack_still c m mid one cs apart lacks) pieces (last_one c m mid one last)),
  )

-- Places put into an index, and taken back.
use Rattle.std.proofs.Common.{◌≡◌, ℕ, suc, ◌+◌, ◌≤◌, Bool, true, false, cond, List, [], ◌∷◌, ◌++◌, length, Option, Some, None, Result, Ok, Err, refl, sym, ◌∙◌, ap, arith}
use Rattle.std.specs.Prelude.{IsSome, is_some, ◌||◌, nat_le}
use Rattle.std.proofs.lemmas.Bool.{leb-true, eqb-true}
use Rattle.base_model.proofs.Checks.{both}
use Rattle.container_meta.specs.declared.kind.Kind.TheVariants as kinds
use Rattle.container_meta.specs.Format.{is_level}
use Rattle.container_meta.specs.Segments.{Segment, entries_from}
use Rattle.container_meta.proofs.Packing.{bytes_of-cons}
use Rattle.container_meta.proofs.Spelled.{bytes_of-push}
use Rattle.store_model.proofs.Copies.{length_within}
use Rattle.std.specs.List.{AllByRecursion}
use Rattle.std.specs.Str.{bytes_eq}
use Rattle.std.specs.Cmp.Lexicographic.{slice_cmp, nat_list_cmp_total}
use Rattle.std.specs.Result.{IsErrAnd}
use Rattle.std.specs.FinMap as finite
use Rattle.std.specs.Ordering.{nat_cmp, eq_by_cmp}
use Rattle.std.proofs.Math.Bool.{or-true}
use Rattle.std.proofs.lemmas.List.Folds.{list_any-append}
use Rattle.std.proofs.lemmas.Slice.Eq.{bytes_eq-Decides}
use Rattle.disk_format.specs.declared.numbers.TheConstants.{DATA_BYTES, MOST_LEVEL}
use Rattle.disk_format.specs.Layout.{size_of}
use Rattle.container_meta.specs.declared.entry.Entry.{Entry}
use Rattle.container_meta.specs.declared.kind.Kind.{Kind}
use Rattle.container_meta.specs.declared.place.Place.{Place}
use Rattle.container_meta.specs.Places.{PlaceMap}
use Rattle.container_meta.specs.Spelling.{HeaderValue, IsHeader, Follow, has_digest, bytes_of}
use Rattle.segment_index.specs.Places.{KnownMap, IsPlace}
use Rattle.store_model.specs.Indexing.{entry_key}
use Rattle.store_model.specs.Slots.{place_of}
use Rattle.store_model.proofs.Indexing.{tied}
use Rattle.refusals.specs.declared.refusal.Refusal.{Refusal}
use Rattle.refusals.specs.declared.refusal.Refusal.TheVariants.{Memory, DiskWrite, Damaged}
use Rattle.store_state.specs.Indexing.{IsChangeRefusal, ArePart, with_had}

same_bytes : (a b : List ℕ) → bytes_eq a b ≡ true → a ≡ b
same_bytes a b = (bytes_eq-Decides a b).0

-- ---- one key more

pub got_put : (m : PlaceMap) (key : List ℕ) (place : Place) → finite.get (finite.insert m key place) key ≡ Some place
got_put m key place =
    finite.get-insert nat_list_cmp_total m key place key
    ∙ ap (λ (b : Bool). cond b (Some place) (finite.get m key)) (tied key key ∙ (bytes_eq-Decides key key).1 refl)

pub got_other : (m : PlaceMap) (key other : List ℕ) (place : Place) → bytes_eq key other ≡ false → finite.get (finite.insert m key place) other ≡ finite.get m other
got_other m key other place differ =
    finite.get-insert nat_list_cmp_total m key place other
    ∙ ap (λ (b : Bool). cond b (Some place) (finite.get m other)) (tied other key ∙ differ)

-- the place that a key had, or none, given back to it
pub given_back : (m : PlaceMap) (key : List ℕ) (place : Place) (had : Option Place) → had ≡ finite.get m key → with_had had key (finite.insert m key place) ≡ m
given_back m key place had is =
    finite.same_map nat_list_cmp_total (finite.slice_cmp-IsAntisymmetric finite.nat_cmp-IsAntisymmetric) (with_had had key (finite.insert m key place)) m
    (λ q. seen had q ∙ by_test q (eq_by_cmp (slice_cmp nat_cmp) q key) refl)
  where
    seen : (o : Option Place) (q : List ℕ) → finite.get (with_had o key (finite.insert m key place)) q ≡ cond (eq_by_cmp (slice_cmp nat_cmp) q key) o
        (cond (eq_by_cmp (slice_cmp nat_cmp) q key) (Some place) (finite.get m q))
    seen (Some p) q =
        finite.get-insert nat_list_cmp_total (finite.insert m key place) key p q
        ∙ ap (λ (o : Option Place). cond (eq_by_cmp (slice_cmp nat_cmp) q key) (Some p) o) (finite.get-insert nat_list_cmp_total m key place q)
    seen None q =
        finite.get-remove nat_list_cmp_total (finite.insert m key place) key q
        ∙ ap (λ (o : Option Place). cond (eq_by_cmp (slice_cmp nat_cmp) q key) None o) (finite.get-insert nat_list_cmp_total m key place q)

    by_test : (q : List ℕ) (b : Bool) → eq_by_cmp (slice_cmp nat_cmp) q key ≡ b → cond b had (cond b (Some place) (finite.get m q)) ≡ finite.get m q
    by_test q true same = is ∙ ap (finite.get m) (same_bytes key q (sym (tied q key) ∙ same))
    by_test q false other = refl

-- ---- the entries of one container have different keys

digest_of_key : (kind : Kind) (a b : Entry) → bytes_eq (entry_key kind a) (entry_key kind b) ≡ true → a.digest ≡ b.digest
digest_of_key kind a b same = tails _ _ a.digest b.digest (same_bytes (entry_key kind a) (entry_key kind b) same)
  where
    tails : (x y : ℕ) (first second : List ℕ) → x ∷ first ≡ y ∷ second → first ≡ second
    tails x y first second e = cc

others : (kind : Kind) (before es : List Entry) (one : Entry) → Follow kind before es → has_digest before one.digest ≡ true →
    AllByRecursion (λ e. bytes_eq (entry_key kind one) (entry_key kind e) ≡ false) es
others kind before [] one follow has = tt
others kind before (e ∷ es) one follow has = (
  by_test (bytes_eq (entry_key kind one) (entry_key kind e)) refl,
  others kind (before ++ e ∷ []) es one follow.1
      (list_any-append (λ x. bytes_eq x.digest one.digest) before (e ∷ []) ∙ ap (λ (b : Bool). b || has_digest (e ∷ []) one.digest) has),
)
  where
    by_test : (b : Bool) → bytes_eq (entry_key kind one) (entry_key kind e) ≡ b → bytes_eq (entry_key kind one) (entry_key kind e) ≡ false
    by_test false other = other
    by_test true same =
        let both : has_digest before one.digest ≡ false = ap (has_digest before) (digest_of_key kind one e same) ∙ follow.0.new in
        absurd cc

pub later_differ : (kind : Kind) (before : List Entry) (e : Entry) (es : List Entry) → Follow kind before (e ∷ es) →
    AllByRecursion (λ x. bytes_eq (entry_key kind e) (entry_key kind x) ≡ false) es
later_differ kind before e es follow =
    others kind (before ++ e ∷ []) es e follow.1
    (list_any-append (λ x. bytes_eq x.digest e.digest) before (e ∷ [])
    ∙ ap (λ (b : Bool). has_digest before e.digest || (b || false)) ((bytes_eq-Decides e.digest e.digest).1 refl)
    ∙ or-true (has_digest before e.digest))

-- ---- what is known of the map

pub same_map : (a b : PlaceMap) → Some a ≡ Some b → a ≡ b
same_map a b e = cc

pub unknown : (known : Option PlaceMap) → KnownMap known (λ m. ⊥) → known ≡ None
unknown None none = refl
unknown (Some m) none = absurd (none m refl)

-- a key can't lack memory that has a place
pub lacked : (known : Option PlaceMap) (key : List ℕ) → KnownMap known (λ m. IsSome (finite.get m key)) → KnownMap known (λ m. finite.get m key ≡ None) → known ≡ None
lacked known key there absent = unknown known (λ m is. none (finite.get m key) (there m is) (absent m is))
  where
    none : (o : Option Place) → IsSome o → o ≡ None → ⊥
    none o some is = absurd (let not_there : false ≡ true = sym (ap is_some is) ∙ some in cc)

-- ---- why a change was refused

pub refusal_on : (old new : Option PlaceMap) → (new ≡ None → old ≡ None) → (refusal : Refusal) → IsChangeRefusal new refusal → IsChangeRefusal old refusal
refusal_on old new before Memory has = tt
refusal_on old new before DiskWrite has = tt
refusal_on old new before (Damaged at why) has = before has
refusal_on old new before refusal has = absurd has

pub none_before : (old new : Option PlaceMap) (f : PlaceMap → PlaceMap) → KnownMap old (λ m. new ≡ Some (f m)) → new ≡ None → old ≡ None
none_before None new f is none = refl
none_before (Some m) new f is none = absurd (let wrong : None ≡ Some (f m) = sym none ∙ is m refl in cc)

-- ---- a whole container

level_within : (kind : Kind) (level : ℕ) → is_level kind level ≡ true → level ≤ MOST_LEVEL
level_within kinds.Leaf level e = let none : level ≡ 0 = eqb-true level 0 e in omega (arith, none)
level_within kinds.Tree level e = leb-true level MOST_LEVEL (both (nat_le 1 level) (nat_le level MOST_LEVEL) e).1

places_from : (size slot : ℕ) (kind : Kind) (before es : List Entry) → Follow kind before es → bytes_of before + bytes_of es ≤ DATA_BYTES → size_of (slot + 1) ≤ size →
    AllByRecursion (λ e. IsPlace size (place_of slot e)) es
places_from size slot kind before [] follow within there = tt
places_from size slot kind before (e ∷ es) follow within there =
    let long = length_within kind e.length follow.0.length in (
      record {
        not_empty = long.0;
        length_is = long.1;
        within = omega (arith, within, follow.0.offset, bytes_of-cons e es);
        level_is = level_within kind e.level follow.0.level;
        slot_is = there;
      },
      places_from size slot kind (before ++ e ∷ []) es follow.1 (omega (arith, within, bytes_of-cons e es, bytes_of-push before e)) there,
    )

pub part_of : (size slot : ℕ) (h : HeaderValue) → IsHeader h → size_of (slot + 1) ≤ size → ArePart size slot h.kind h.entries
part_of size slot h right there = record {
  before = [];
  follow = right.entries;
  places = places_from size slot h.kind [] h.entries right.entries
      (let few = leb-true h.data_length DATA_BYTES (both (nat_le 1 h.data_length) (nat_le h.data_length DATA_BYTES) right.data_length).1 in omega (arith, few, right.whole)) there;
}

pub length-entries_from : (offset : ℕ) (segments : List Segment) → length (entries_from offset segments) ≡ length segments
length-entries_from offset [] = refl
length-entries_from offset (s ∷ ss) = ap suc (length-entries_from (offset + length s.bytes) ss)

pub err_is : {T E : Type 0} (result : Result T E) (e m : E) → IsErrAnd result (λ y. y ≡ e) → result ≡ Err m → e ≡ m
err_is (Ok x) e m is same = absurd is
err_is (Err y) e m is same = cc

-- Marks, as the trees of names are walked.
use Rattle.recovery.proofs.Prelude.{◌⊎◌, inl, inr, ℕ, zero, suc, ◌<◌, Bool, true, false, List, [], ◌∷◌, ◌++◌, length, map, get_or, slice_set, Some, refl, sym, ◌∙◌, ap, subst, arith, Contains, eqb_tells, map-append, Contains-append_left, Place, PlaceMap, DiskView, size_of, Top, NamedRoot, some_same, HasPlace, VisitsRoots, WasRead, top_key, IsMarked}
use Rattle.std.proofs.Common.{◌≡◌, append_assoc, replicate}
use Rattle.std.specs.FinMap as finite
use Rattle.std.proofs.lemmas.List.{append-nil, get_or-set_other, get_or-set_same, length-replicate, length-set}
use Rattle.std.proofs.lemmas.List.Elements.{Contains-push, Contains-push_cases}
use Rattle.segment_index.specs.Places.{IsPlace}
use Rattle.read_steps.specs.Trees.{NotesKeys, NotesTrees}
use Rattle.recovery.specs.Marking.{HasSlot, MarksFor, MarksSlot}

-- a slot is marked once it was, or another is
set_stays : (used : List Bool) (at slot : ℕ) → at < length used → get_or used slot false ≡ true → get_or (slice_set used at true) slot false ≡ true
set_stays used at slot within is = elim (eqb_tells slot at) [
  | inl same ↦ subst (λ (k : ℕ). get_or (slice_set used at true) k false ≡ true) (sym same.1) (get_or-set_same used at true false within)
  | inr differ ↦ get_or-set_other used at slot true false differ.1 ∙ is
]

set_cases : (used : List Bool) (at slot : ℕ) → get_or (slice_set used at true) slot false ≡ true → (at ≡ slot) ⊎ (get_or used slot false ≡ true)
set_cases used at slot is = elim (eqb_tells slot at) [
  | inl same ↦ inl (sym same.1)
  | inr differ ↦ inr (sym (get_or-set_other used at slot true false differ.1) ∙ is)
]

pushed : (visited : List Top) (t : Top) → map top_key (visited ++ t ∷ []) ≡ map top_key visited ++ top_key t ∷ []
pushed visited t = map-append top_key visited (t ∷ [])

-- one key more
marked_one : (index : PlaceMap) (visited : List Top) (used : List Bool) (t : Top) (place : Place) → finite.get index (top_key t) ≡ Some place → place.slot < length used →
    IsMarked index visited used
    → IsMarked index (visited ++ t ∷ []) (slice_set used place.slot true)
marked_one index visited used t place found within marked = record {
  all = λ key p is there. elim (Contains-push_cases (map top_key visited) (top_key t) key (subst (λ (keys : List (List ℕ)). Contains keys key) (pushed visited t) is)) [
    | inl before ↦ set_stays used place.slot p.slot within (marked.all key p before there)
    | inr here ↦
        let same : place ≡ p = some_same place p (sym found ∙ ap (finite.get index) here ∙ there) in
        subst (λ (q : Place). get_or (slice_set used place.slot true) q.slot false ≡ true) same (get_or-set_same used place.slot true false within)
  ];
  only = λ slot is. elim (set_cases used place.slot slot is) [
    | inl here ↦
        (top_key t, (place, (subst (λ (keys : List (List ℕ)). Contains keys (top_key t)) (sym (pushed visited t)) (Contains-push (map top_key visited) (top_key t)), found, here)))
    | inr before ↦
        let needed = marked.only slot before in (
          needed.0,
          (
            needed.1.0,
            (
              subst (λ (keys : List (List ℕ)). Contains keys needed.0) (sym (pushed visited t)) (Contains-append_left (map top_key visited) (top_key t ∷ []) needed.0 needed.1.1.0),
              needed.1.1.1,
              needed.1.1.2,
            ),
          ),
        )
  ];
}

-- each of these
marked_all : (index : PlaceMap) (earlier noted : List Top) (from to : List Bool) → IsMarked index earlier from → NotesKeys (List Bool) MarksSlot index noted from to →
    IsMarked index (earlier ++ noted) to
marked_all index earlier [] from to marked same =
    subst (λ (tops : List Top). IsMarked index tops to) (sym (append-nil earlier)) (subst (IsMarked index earlier) (sym same) marked)
marked_all index earlier (t ∷ ts) from to marked (place, (mid, (found, one, rest))) =
    let next = subst (IsMarked index (earlier ++ t ∷ [])) (sym one.1) (marked_one index earlier from t place found one.0 marked) in
    subst (λ (tops : List Top). IsMarked index tops to) (append_assoc earlier (t ∷ []) ts) (marked_all index (earlier ++ t ∷ []) ts mid to next rest)

as_many : (index : PlaceMap) (noted : List Top) (from to : List Bool) → NotesKeys (List Bool) MarksSlot index noted from to → length to ≡ length from
as_many index [] from to same = ap length same
as_many index (t ∷ ts) from to (place, (mid, (found, one, rest))) = as_many index ts mid to rest ∙ ap length one.1 ∙ length-set from place.slot true

-- ---- where no slot was marked at first

none_replicated : (n slot : ℕ) → get_or (replicate n false) slot false ≡ false
none_replicated zero slot = refl
none_replicated (suc n) zero = refl
none_replicated (suc n) (suc slot) = none_replicated n slot

none_marked : (index : PlaceMap) (n : ℕ) → IsMarked index [] (replicate n false)
none_marked index n = record {
  all = λ key place is there. absurd (omega (arith, is.1));
  only = λ slot is. absurd (let wrong : false ≡ true = sym (none_replicated n slot) ∙ is in cc);
}

module _ (index : PlaceMap) (old new : DiskView) (roots all : List NamedRoot) (used marked taken : List Bool) (n : ℕ) (none : used ≡ replicate n false)
    (notes : NotesTrees (List Bool) MarksSlot index old new all used marked) (is : taken ≡ marked) where
  marked_noted : IsMarked index notes.noted marked
  marked_noted = marked_all index [] notes.noted used marked (subst (IsMarked index []) (sym none) (none_marked index n)) notes.notes

  pub marks_for : all ≡ roots → MarksFor index old new roots taken
  marks_for same = record {
    visited = notes.visited;
    visits = subst (λ (ns : List NamedRoot). VisitsRoots (WasRead (Some index) old new) (HasPlace (Some index)) ns notes.visited) same notes.visits;
    marks = subst (IsMarked index notes.visited) (sym is) (record {
      all = λ key place visited there. marked_noted.all key place (notes.all key visited) there;
      only = λ slot set. let needed = marked_noted.only slot set in (needed.0, (needed.1.0, (notes.only needed.0 needed.1.1.0, needed.1.1.1, needed.1.1.2)));
    });
  }

  pub marks_long : length taken ≡ n
  marks_long = ap length is ∙ as_many index notes.noted used marked notes.notes ∙ ap length none ∙ length-replicate n false

-- a place that has its slot on a disk has it among the marks
pub slot_within : (count size : ℕ) (used : List Bool) (place : Place) → used ≡ replicate count false → size ≡ size_of count → IsPlace size place → HasSlot used place
slot_within count size used place none right is =
    let many : length used ≡ count = ap length none ∙ length-replicate count false in
    omega (arith, right, is.slot_is, many)

-- Keys that are marked, one after the other.
use Rattle.std.proofs.Common.{◌≡◌, ◌⊎◌, ◌↔◌, inl, inr, ℕ, ◌+◌, ◌<◌, List, [], ◌∷◌, ◌++◌, length, take, drop, get_or, Result, Ok, Err, OnErr, sym, subst}
use Rattle.std.proofs.lemmas.List.{take-append-drop, take_more}
use Rattle.container_meta.specs.declared.place.Place.{Place}
use Rattle.gc_enumerate.specs.declared.layer.KeyPlace.{KeyPlace}
use Rattle.gc_enumerate.specs.Live.{LiveKeys, IsLiveAt, SharesMark}
use Rattle.gc_enumerate.specs.Marking.{AddsMarks, AddsSome, IsAmong}

-- ---- one key more

module _ (key : List ℕ) (place : Place) (f : KeyPlace) where
  among_before : (fs : List KeyPlace) → IsAmong key place fs → IsAmong key place (fs ++ f ∷ [])
  among_before [] is = absurd is
  among_before (x ∷ xs) (inl here) = inl here
  among_before (x ∷ xs) (inr later) = inr (among_before xs later)

  among_last : (fs : List KeyPlace) → SharesMark key place f.key f.place → IsAmong key place (fs ++ f ∷ [])
  among_last [] is = inl is
  among_last (x ∷ xs) is = inr (among_last xs is)

  among_cases : (fs : List KeyPlace) → IsAmong key place (fs ++ f ∷ []) → IsAmong key place fs ⊎ SharesMark key place f.key f.place
  among_cases [] (inl here) = inr here
  among_cases [] (inr later) = absurd later
  among_cases (x ∷ xs) (inl here) = inl (inl here)
  among_cases (x ∷ xs) (inr later) = elim (among_cases xs later) [
    | inl before ↦ inl (inr before)
    | inr last ↦ inr last
  ]

pub marks_none : (live : LiveKeys) → AddsMarks [] live live
marks_none live key place = (
  λ is. inl is,
  λ is. elim is [
    | inl was ↦ was
    | inr among ↦ absurd among
  ],
)

marks_one : (fs : List KeyPlace) (f : KeyPlace) (old mid new : LiveKeys) → AddsMarks fs old mid
    → ((key : List ℕ) (place : Place) → IsLiveAt new key place ↔ (IsLiveAt mid key place ⊎ SharesMark key place f.key f.place)) → AddsMarks (fs ++ f ∷ []) old new
marks_one fs f old mid new before one key place = (
  λ is. elim ((one key place).0 is) [
    | inl was ↦ elim ((before key place).0 was) [
      | inl first ↦ inl first
      | inr among ↦ inr (among_before key place f fs among)
    ]
    | inr here ↦ inr (among_last key place f fs here)
  ],
  λ is. elim is [
    | inl first ↦ (one key place).1 (inl ((before key place).1 (inl first)))
    | inr among ↦ elim (among_cases key place f fs among) [
      | inl earlier ↦ (one key place).1 (inl ((before key place).1 (inr earlier)))
      | inr here ↦ (one key place).1 (inr here)
    ]
  ],
)

pub marks_more : (found : List KeyPlace) (i : ℕ) (d : KeyPlace) (old mid new : LiveKeys) → i < length found → AddsMarks (take i found) old mid
    → ((key : List ℕ) (place : Place) → IsLiveAt new key place ↔ (IsLiveAt mid key place ⊎ SharesMark key place (get_or found i d).key (get_or found i d).place)) →
    AddsMarks (take (i + 1) found) old new
marks_more found i d old mid new within before one =
    subst (λ (fs : List KeyPlace). AddsMarks fs old new) (sym (take_more found i d within)) (marks_one (take i found) (get_or found i d) old mid new before one)

-- the first ones, where there is no memory for the next
pub marks_some : (found : List KeyPlace) (i : ℕ) (old mid new : LiveKeys) → new ≡ mid → AddsMarks (take i found) old mid → AddsSome found old new
marks_some found i old mid new same marks =
    (take i found, (drop i found, (sym (take-append-drop i found), subst (λ (live : LiveKeys). AddsMarks (take i found) old live) (sym same) marks)))

-- what holds anyway holds after an error
pub on_err : {T E : Type 0} (result : Result T E) {P : Type 0} → P → OnErr result P
on_err (Ok x) holds = tt
on_err (Err e) holds = holds

-- What a cutter has shown over a whole run.
use Rattle.std.proofs.Common.{◌≡◌, ℕ, ◌<◌, Bool, true, false, not, cond, List, [], ◌∷◌, ◌++◌, length, take, drop, ◌-◌, refl, sym, ap, ◌∙◌, append_assoc}
use Rattle.std.specs.List.{concat}
use Rattle.std.proofs.lemmas.List.{append-nil, nil_from_length, take_rest, take-append-drop}
use Rattle.std.proofs.lemmas.List.Folds.{concat-append}
use Rattle.segmenter.proofs.SegmentLemmas.{segments_of-none, segments_of-first}
use Rattle.segmenter.specs.Segments.{first_length, segments_of}
use Rattle.segmenter.specs.Cutting.{Hand, empty_hand, whole_segments, IsFirstSegment, HasCut}

-- a piece more is in hand
pub HasCut-push : (taken piece : List ℕ) (shown : List (List ℕ)) (old new : Hand) → HasCut taken shown old →
    new.bytes ≡ old.bytes ++ piece → (new.whole ≡ true → IsFirstSegment new.bytes) → HasCut (taken ++ piece) shown new
HasCut-push taken piece shown old new before joined whole = record {
  kept =
      ap (λ bytes. bytes ++ piece) before.kept
      ∙ append_assoc (concat shown) old.bytes piece
      ∙ ap (λ bytes. concat shown ++ bytes) (sym joined);
  first = λ more.
      ap segments_of (append_assoc taken piece more)
      ∙ before.first (piece ++ more)
      ∙ ap (λ bytes. shown ++ segments_of bytes) (sym (append_assoc old.bytes piece more))
      ∙ ap (λ bytes. shown ++ segments_of (bytes ++ more)) (sym joined);
  whole = whole;
}

-- a whole segment is shown, and the next begins
pub HasCut-next : (taken : List ℕ) (shown : List (List ℕ)) (old : Hand) → HasCut taken shown old → old.whole ≡ true →
    HasCut taken (shown ++ old.bytes ∷ []) empty_hand
HasCut-next taken shown old before whole = record {
  kept =
      before.kept
      ∙ ap (λ bytes. concat shown ++ bytes) (sym (append-nil old.bytes))
      ∙ sym (concat-append shown (old.bytes ∷ []))
      ∙ sym (append-nil (concat (shown ++ old.bytes ∷ [])));
  first = λ more.
      before.first more
      ∙ ap (λ segments. shown ++ segments) ((before.whole whole).first more)
      ∙ sym (append_assoc shown (old.bytes ∷ []) (segments_of more));
  whole = λ h. cc;
}

-- the segments of what was taken are those shown and those of the rest
pub HasCut-finish : (taken : List ℕ) (shown : List (List ℕ)) (hand : Hand) → HasCut taken shown hand →
    segments_of taken ≡ shown ++ segments_of hand.bytes
HasCut-finish taken shown hand before =
    ap segments_of (sym (append-nil taken))
    ∙ before.first []
    ∙ ap (λ bytes. shown ++ segments_of bytes) (append-nil hand.bytes)

-- the same, where the rest is one segment or nothing
pub HasCut-last : (taken : List ℕ) (shown : List (List ℕ)) (hand : Hand) (bytes : List ℕ) (empty : Bool) → HasCut taken shown hand →
    hand.bytes ≡ bytes → (empty ≡ true → bytes ≡ []) → (empty ≡ false → segments_of bytes ≡ bytes ∷ []) →
    segments_of taken ≡ shown ++ cond (not empty) (bytes ∷ []) []
HasCut-last taken shown hand bytes true before same none one =
    HasCut-finish taken shown hand before
    ∙ ap (λ rest. shown ++ segments_of rest) (same ∙ none refl)
    ∙ ap (λ segments. shown ++ segments) segments_of-none
HasCut-last taken shown hand bytes false before same none one =
    HasCut-finish taken shown hand before
    ∙ ap (λ rest. shown ++ segments_of rest) same
    ∙ ap (λ segments. shown ++ segments) (one refl)

-- ---- a piece and its rest

-- n more bytes of the rest were taken
pub taken_more : (done rest piece : List ℕ) (n : ℕ) → done ++ rest ≡ piece →
    (done ++ take n rest) ++ take (length rest - n) (drop n rest) ≡ piece
taken_more done rest piece n before =
    ap (λ after. (done ++ take n rest) ++ after) (take_rest rest n)
    ∙ append_assoc done (take n rest) (drop n rest)
    ∙ ap (λ bytes. done ++ bytes) (take-append-drop n rest)
    ∙ before

-- the segment in hand joins the segments shown
pub shown_more : (shown : List (List ℕ)) (segment : List ℕ) (hand : Hand) → segment ≡ hand.bytes → hand.whole ≡ true →
    shown ++ segment ∷ [] ≡ shown ++ whole_segments hand
shown_more shown segment hand same whole =
    ap (λ bytes. shown ++ bytes ∷ []) same ∙ ap (λ now. shown ++ cond now (hand.bytes ∷ []) []) (sym whole)

-- the first segment of the rest was found
pub found_more : (shown : List (List ℕ)) (rest first after : List ℕ) (n : ℕ) → 0 < length rest → n ≡ first_length rest →
    first ≡ take n rest → after ≡ drop n rest → (shown ++ first ∷ []) ++ segments_of after ≡ shown ++ segments_of rest
found_more shown rest first after n there length_is first_is after_is =
    append_assoc shown (first ∷ []) (segments_of after)
    ∙ ap (λ segment. shown ++ segment ∷ segments_of after) first_is
    ∙ ap (λ bytes. shown ++ take n rest ∷ segments_of bytes) after_is
    ∙ ap (λ m. shown ++ take m rest ∷ segments_of (drop m rest)) length_is
    ∙ ap (λ segments. shown ++ segments) (sym (segments_of-first rest there))

-- nothing is left to cut
pub found_all : (shown : List (List ℕ)) (rest : List ℕ) → length rest ≡ 0 → shown ++ segments_of rest ≡ shown
found_all shown rest h =
    ap (λ bytes. shown ++ segments_of bytes) (nil_from_length rest h)
    ∙ ap (λ segments. shown ++ segments) segments_of-none
    ∙ append-nil shown

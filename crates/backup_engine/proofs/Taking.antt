-- Taking a source in, piece by piece.
use Rattle.backup_engine.proofs.Prelude.{◌≡◌, ℕ, List, [], ◌++◌, take, drop, Option, Some, refl, sym, ◌∙◌, ap, take-append-drop, Takes, Known, TakenSoFar}
use Rattle.std.proofs.Common.{append_assoc}
use Rattle.std.proofs.lemmas.List.{append-nil}

pub none_taken : (first : Option (List ℕ)) → TakenSoFar first first []
none_taken first = record { rest = λ all told. (all, refl, told) }

pub more_taken : (first mid now : Option (List ℕ)) (bytes piece : List ℕ) (n : ℕ) → TakenSoFar first mid bytes → Known mid (λ left. Takes n left piece now) →
    TakenSoFar first now (bytes ++ take n piece)
more_taken first mid now bytes piece n so_far takes = record {
  rest = λ all told.
      let before = so_far.rest all told in
      let more = takes before.0 before.2 in (
        drop n before.0,
        before.1 ∙ ap (λ (l : List ℕ). bytes ++ l) (sym (take-append-drop n before.0) ∙ ap (λ (l : List ℕ). l ++ drop n before.0) (sym more.bytes))
            ∙ sym (append_assoc bytes (take n piece) (drop n before.0)),
        more.rest,
      );
}

-- a read that failed took nothing
pub still_taken : (first mid now : Option (List ℕ)) (bytes : List ℕ) → TakenSoFar first mid bytes → Known mid (λ left. now ≡ Some left) → TakenSoFar first now bytes
still_taken first mid now bytes so_far kept = record { rest = λ all told. let before = so_far.rest all told in (before.0, before.1, kept before.0 before.2) }

-- all of it was, where the last piece had nothing
pub all_taken : (first mid now : Option (List ℕ)) (bytes piece : List ℕ) (n : ℕ) → TakenSoFar first mid bytes → Known mid (λ left. left ≡ []) → n ≡ 0 →
    Known mid (λ left. Takes n left piece now)
    → Known first (λ all. (bytes ≡ all) × (now ≡ Some []))
all_taken first mid now bytes piece n so_far end none takes = λ all told.
    let before = so_far.rest all told in (
      sym (before.1 ∙ ap (λ (l : List ℕ). bytes ++ l) (end before.0 before.2) ∙ append-nil bytes),
      (takes before.0 before.2).rest ∙ ap (λ (k : ℕ). Some (drop k before.0)) none ∙ ap (λ (l : List ℕ). Some l) (end before.0 before.2),
    )

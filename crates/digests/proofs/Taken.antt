-- Digests that were taken ahead.
use Rattle.std.proofs.Common.{◌≡◌, ℕ, ◌<◌, List, length, get_or, map, take, sym, ◌∙◌, ap, subst, arith}
use Rattle.std.proofs.Math.Seq.{take-length}
use Rattle.std.proofs.lemmas.List.{get_or-map, get_or-take, length-map}
use Rattle.std.proofs.lemmas.Simd.{map-map}
use Rattle.sha2.specs.Sha256.{sha256}
use Rattle.digests.specs.Ahead.{AreTaken}

-- the digest at a place is that of the bytes there
pub digest_at : (texts digests : List (List ℕ)) (n : ℕ) (d s : List ℕ) → AreTaken texts digests → n < length digests
    → get_or digests n d ≡ sha256 (get_or texts n s)
digest_at texts digests n d s taken within =
    let front = take (length digests) texts in
    let long : length digests ≡ length front = ap length taken.right ∙ length-map front sha256 in
    ap (λ (all : List (List ℕ)). get_or all n d) taken.right
    ∙ get_or-map sha256 front n s d (subst (λ (m : ℕ). n < m) long within)
    ∙ ap sha256 (get_or-take (length digests) texts n s within)

-- all of them were taken, of the byte strings as they were shown
pub all_taken : {A : Type 0} (shown : A → List ℕ) (all : List A) (texts digests : List (List ℕ)) → map shown all ≡ texts
    → digests ≡ map (λ t. sha256 (shown t)) all → AreTaken texts digests
all_taken shown all texts digests same taken =
    let right : digests ≡ map sha256 texts = taken ∙ sym (map-map sha256 shown all) ∙ ap (map sha256) same in
    let long : length digests ≡ length texts = ap length right ∙ length-map texts sha256 in
    record {
      some = omega (arith, long);
      right = right ∙ ap (map sha256) (sym (ap (λ n. take n texts) long ∙ take-length texts));
    }

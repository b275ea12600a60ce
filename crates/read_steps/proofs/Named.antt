-- Nodes by the bytes that name them.
use Rattle.std.proofs.Common.{◌≡◌, ◌⊎◌, inl, inr, ℕ, Bool, true, false, cond, List, ◌∷◌, ◌++◌, take, drop, Some, refl, sym, ◌∙◌, ap}
use Rattle.std.specs.FinMap as finite
use Rattle.std.specs.Cmp.Lexicographic.{nat_list_cmp_total, slice_cmp}
use Rattle.std.specs.Int.{to_be_bytes, from_be_bytes, w64}
use Rattle.std.specs.Ordering.{eq_by_cmp, nat_cmp}
use Rattle.std.proofs.lemmas.Nat.{from_be_bytes-to_be_bytes_8}
use Rattle.std.proofs.lemmas.Slice.Eq.{bytes_eq-Decides}
use Rattle.store_model.proofs.Indexing.{tied}
use Rattle.merkle_file.specs.declared.top.Top.{Top}
use Rattle.read_steps.specs.Passed.{HasNode, IsSized, NodeSet, node_key}

-- ---- the bytes name one node

length_in : List ℕ → ℕ
length_in key = from_be_bytes w64 (take 8 (drop 1 key))

same_length : (a b : Top) → IsSized a → IsSized b → node_key a ≡ node_key b → a.length ≡ b.length
unfolding length_in
same_length a b one other same = sym (from_be_bytes-to_be_bytes_8 a.length one) ∙ ap length_in same ∙ from_be_bytes-to_be_bytes_8 b.length other

same_level : (a b : ℕ) (x y : List ℕ) → a ∷ x ≡ b ∷ y → a ≡ b
same_level a b x y e = cc

pub one_node : (a b : Top) → IsSized a → IsSized b → node_key a ≡ node_key b → a ≡ b
one_node a b one other same =
    let levels : a.level ≡ b.level = same_level a.level b.level (to_be_bytes w64 a.length ++ a.digest) (to_be_bytes w64 b.length ++ b.digest) same in
    let digests : a.digest ≡ b.digest = ap (drop 9) same in
    ap (λ (n : ℕ). (let t : Top = record { length = n; level = a.level; digest = a.digest } in t)) (same_length a b one other same)
    ∙ ap (λ (n : ℕ). (let t : Top = record { length = b.length; level = n; digest = a.digest } in t)) levels
    ∙ ap (λ (d : List ℕ). (let t : Top = record { length = b.length; level = b.level; digest = d } in t)) digests

-- ---- one node more

pub among_more : (nodes : NodeSet) (x u : Top) → IsSized x → IsSized u → HasNode (finite.insert nodes (node_key x) tt) u → (x ≡ u) ⊎ HasNode nodes u
among_more nodes x u one other has = by_test (eq_by_cmp (slice_cmp nat_cmp) (node_key u) (node_key x)) refl
  where
    by_test : (b : Bool) → eq_by_cmp (slice_cmp nat_cmp) (node_key u) (node_key x) ≡ b → (x ≡ u) ⊎ HasNode nodes u
    by_test true is = inl (one_node x u one other ((bytes_eq-Decides (node_key x) (node_key u)).0 (sym (tied (node_key u) (node_key x)) ∙ is)))
    by_test false is = inr (sym (finite.get-insert nat_list_cmp_total nodes (node_key x) tt (node_key u) ∙ ap (λ (b : Bool). cond b (Some tt) (finite.get nodes (node_key u))) is)
        ∙ has)

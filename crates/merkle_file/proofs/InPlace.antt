-- What the bytes of a node say, read where they lie.
use Rattle.merkle_file.proofs.Prelude.{◌≡◌, ℕ, zero, suc, ◌+◌, ◌*◌, ◌<◌, ◌≤◌, List, [], ◌∷◌, length, drop, refl, sym, ap, ◌∙◌, arith, drop-drop, Contents, IsNode, any_node, child_in, contents_in}
use Rattle.merkle_file.specs.Node.{spelling}
use Rattle.merkle_file.specs.Reading.{IsNodeBytes, children_in, short_number}
use Rattle.merkle_file.specs.Laws.{NodesAreReadAgain}
use Rattle.merkle_file.proofs.Nodes.{length-entries, node_again}

-- as many children are read as are asked for
pub count_read : (n : ℕ) (bytes : List ℕ) → length (children_in n bytes) ≡ n
unfolding children_in
count_read zero bytes = refl
count_read (suc n) bytes = ap suc (count_read n (drop 40 bytes))

-- a node's spelling has a head of four bytes, and forty for each child
pub length_spelling : (n : Contents) → IsNode n → length (spelling n) ≡ 4 + 40 * length n.children
unfolding spelling
length_spelling n right = omega (arith, length-entries n.level n.children right.each)

-- the number in the head counts the children, and the bytes are as many as they need
pub record IsLong (bytes : List ℕ) : Type 0 where
  pub count : length (contents_in bytes).children ≡ short_number (drop 2 bytes)
  pub long : length bytes ≡ 4 + 40 * length (contents_in bytes).children

pub node_is_long : (bytes : List ℕ) → IsNodeBytes bytes → IsLong bytes
node_is_long bytes is = record {
  count = count_read (short_number (drop 2 bytes)) (drop 4 bytes);
  long = ap length is.spelled ∙ length_spelling (contents_in bytes) is.node;
}

-- the child of a number, and those after it
pub child_read : (n i : ℕ) (bytes : List ℕ) → i < n → drop i (children_in n bytes) ≡ child_in (drop (40 * i) bytes) ∷ drop (i + 1) (children_in n bytes)
unfolding children_in
child_read zero i bytes lt = absurd (omega (arith, lt))
child_read (suc n) zero bytes lt = refl
child_read (suc n) (suc i) bytes lt =
    let more : 40 * suc i ≡ 40 + 40 * i = omega arith in
    let next : suc i + 1 ≡ suc (i + 1) = omega arith in
    rw (more, next)
    (child_read n i (drop 40 bytes) (omega (arith, lt))
    ∙ ap (λ (rest : List ℕ). child_in rest ∷ drop (i + 1) (children_in n (drop 40 bytes))) (drop-drop (40 * i) 40 bytes))

-- where a child's entry stands in a node's bytes
pub entry_within : (bytes : List ℕ) (i : ℕ) → IsNodeBytes bytes → i < length (contents_in bytes).children → 4 + 40 * (i + 1) ≤ length bytes
entry_within bytes i is lt = omega (arith, (node_is_long bytes is).long, lt)

-- the child of a number by a node's bytes, and those after it
pub child_found : (bytes : List ℕ) (i : ℕ) → IsNodeBytes bytes → i < length (contents_in bytes).children
    → drop i (contents_in bytes).children ≡ child_in (drop (4 + 40 * i) bytes) ∷ drop (i + 1) (contents_in bytes).children
child_found bytes i is lt =
    child_read (short_number (drop 2 bytes)) i (drop 4 bytes) (omega (arith, (node_is_long bytes is).count, lt))
    ∙ ap (λ (rest : List ℕ). child_in rest ∷ drop (i + 1) (contents_in bytes).children) (drop-drop (40 * i) 4 bytes)

pub read_again : NodesAreReadAgain
read_again n right =
    let again = node_again any_node n (record { lowest = omega arith; greatest = omega arith; most = omega arith }) right
    (record { lowest = right.above; greatest = right.level; least = omega arith; most = right.total }) in
    (record { spelled = ap spelling (sym again.1); node = rw again.1 right }, again.1)

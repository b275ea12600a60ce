-- Bytes are one node at most, so they have one level at most.
use Rattle.store_model.proofs.Prelude.{◌≡◌, ℕ, List, sym, ◌∙◌, ap, arith, Contents, IsNode, spelling}
use Rattle.merkle_file.specs.Reading.{contents_in, any_node, IsAsked, IsWithin}
use Rattle.merkle_file.proofs.Nodes.{node_again}
use Rattle.store_model.specs.Trees.{IsNodeOf}

any_asked : IsAsked any_node
any_asked = record { lowest = omega arith; greatest = omega arith; most = omega arith }

any_within : (n : Contents) → IsNode n → IsWithin any_node n
any_within n right = record { lowest = right.above; greatest = right.level; least = omega arith; most = right.total }

read_again : (n : Contents) → IsNode n → contents_in (spelling n) ≡ n
read_again n right = (node_again any_node n any_asked right (any_within n right)).1

-- a right node has one spelling
pub one_spelling : (n m : Contents) → IsNode n → IsNode m → spelling n ≡ spelling m → n ≡ m
one_spelling n m right also same = sym (read_again n right) ∙ ap contents_in same ∙ read_again m also

pub one_level : (a b : ℕ) (bytes other : List ℕ) → IsNodeOf a bytes → IsNodeOf b other → bytes ≡ other → a ≡ b
one_level a b bytes other one two same =
    let node = one_spelling one.node two.node one.right two.right (sym one.spelled ∙ same ∙ two.spelled) in
    sym one.level_is ∙ ap (λ (n : Contents). n.level) node ∙ two.level_is

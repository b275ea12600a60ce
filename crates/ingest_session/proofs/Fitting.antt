-- A node may be added to the open container of nodes.
use Rattle.ingest_session.proofs.Prelude.{◌≡◌, ◌≤◌, ◌+◌, ◌*◌, ◌∙◌, ℕ, true, false, Some, length, refl, sym, ap, subst, rules, MOST_LEVEL, Tree, Contents, KindSegment, has_key, spelling, contents_in, length_spelling, IsStepSegment, node_segment, node_key, IsSpelled}
use Rattle.std.proofs.Common.{Option, None, IfSome}
use Rattle.disk_format.specs.declared.numbers.TheConstants.{MOST_CHILDREN}
use Rattle.container_meta.specs.Format.{child_count, is_length, is_level}
use Rattle.container_meta.specs.Segments.{CanAdd}
use Rattle.merkle_file.specs.Node as node

count_is : (k : ℕ) → child_count (4 + 40 * k) ≡ k
count_is k = search rules

length_is : (b k : ℕ) → b ≡ 4 + 40 * k → 1 ≤ k → k ≤ MOST_CHILDREN → is_length Tree b ≡ true
length_is b k is some few =
    let count : child_count b ≡ k = ap child_count is ∙ count_is k in rw (count, is) (search rules)

level_is : (n : ℕ) → 1 ≤ n → n ≤ MOST_LEVEL → is_level Tree n ≡ true
level_is n some few = search rules

can_add_this : (nodes : Contents) (seg : KindSegment) (n : node.Contents) → nodes.kind ≡ Tree → seg ≡ node_segment n → IsStepSegment seg →
    has_key nodes (node_key n) ≡ false → CanAdd nodes seg
can_add_this nodes seg n kind is right new =
    let here : IsStepSegment (node_segment n) = subst IsStepSegment is right in
    let says = contents_in (spelling n) in
    let long = ap length here.bytes.spelled ∙ length_spelling says here.bytes.node in
    let level : is_level Tree n.level ≡ true = level_is n.level (rw here.level here.bytes.node.above) (rw here.level here.bytes.node.level) in
    let whole : CanAdd nodes (node_segment n) = record {
      kind = sym kind;
      new = new;
      length = length_is (length (spelling n)) (length says.children) long here.bytes.node.some here.bytes.node.most;
      level = level;
    } in
    subst (CanAdd nodes) (sym is) whole

pub can_add_node : (nodes : Contents) (spelled ahead : Option KindSegment) (n : Option node.Contents) → nodes.kind ≡ Tree → IsSpelled spelled n →
    ((m : node.Contents) → n ≡ Some m → has_key nodes (node_key m) ≡ false) → IfSome spelled (CanAdd nodes)
can_add_node nodes None ahead n kind is new = tt
can_add_node nodes (Some seg) ahead None kind is new = absurd is
can_add_node nodes (Some seg) ahead (Some n) kind is new = can_add_this nodes seg n kind is.0 is.1 (new n refl)

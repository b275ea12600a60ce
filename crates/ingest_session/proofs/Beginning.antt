-- A new session.
use Rattle.ingest_session.proofs.Prelude.{◌≡◌, ◌≤◌, ◌∙◌, ℕ, false, List, [], length, map, refl, ap, arith, Leaf, Tree, Contents, Hand, empty_hand, ByCount, itself, Progress, Holds, levels_left, nodes_in_rows, open_over, total_of, IsSession}
use Rattle.std.proofs.Common.{None}
use Rattle.merkle_file.specs.Node as node
use Rattle.merkle_file.specs.Tree.{child_of}
use Rattle.merkle_file.specs.Building.{open_trees, whole_from, rest_from}
use Rattle.ingest_session.specs.Buffers.{Waiting}
use Rattle.ingest_session.specs.declared.queue.TheConstants.{QUEUE, LONG_QUEUE}
use Rattle.ingest_session.proofs.Uncut.{empty_is_uncut}

nothing_is_finished : nodes_in_rows itself (open_over ByCount []) ≡ []
unfolding open_trees whole_from rest_from
nothing_is_finished = refl

new_builder_has_no_node : (b : Progress) → Holds b [] [] → b.finished ≡ []
new_builder_has_no_node b holds = holds.nodes ∙ nothing_is_finished

nothing_is_begun : levels_left (map (map (child_of itself)) (open_over ByCount [])) ≡ 0
unfolding open_trees whole_from rest_from
nothing_is_begun = refl

pub new_is_session : (hand : Hand) (queue : Waiting) (most : ℕ) (line : List node.Contents) (b : Progress) (leaves nodes : Contents)
    (aside : List Contents) → QUEUE ≤ most → most ≤ LONG_QUEUE → hand ≡ empty_hand → queue ≡ record { most = most; segments = [] } → line ≡ [] → Holds b [] []
    → leaves ≡ record { kind = Leaf; segments = [] } → nodes ≡ record { kind = Tree; segments = [] } → aside ≡ []
    → IsSession (record {
      count = 0;
      ended = false;
      hand = hand;
      queue = queue.segments;
      most = queue.most;
      ahead = None;
      line = line;
      spelled = None;
      turn = Leaf;
      built = b;
      top = None;
      leaves = leaves;
      nodes = nodes;
      aside = aside;
      waits = false;
      unseen = 0;
    })
new_is_session hand queue most line b leaves nodes aside least limit empty none unlined holds first second third =
    let bytes : total_of b.rows ≡ 0 = holds.length in
    let count : b.leaves ≡ 0 = holds.count in
    rw (empty, none, unlined, first, second, third)
    (record {
      data_kind = refl;
      tree_kind = refl;
      few = omega arith;
      hand = refl;
      uncut = empty_is_uncut;
      least = least;
      limit = limit;
      room = λ ongoing. omega arith;
      at_end = omega arith;
      sized = tt;
      ahead = tt;
      spelled = tt;
      building = record { bytes = λ top. omega (arith, bytes); long = tt; counted = λ top last. omega (arith, count) };
      whole = tt;
      closed = λ last. absurd (cc);
      next = λ ahead. new_builder_has_no_node b holds;
      line =
          let finished = ap length (new_builder_has_no_node b holds) in
          let levels = ap levels_left holds.rows ∙ nothing_is_begun in omega (arith, finished, levels);
      nodes_right = tt;
      aside = tt;
      together = omega arith;
      waits = λ on. absurd (cc);
      full = λ on. absurd (cc);
    })

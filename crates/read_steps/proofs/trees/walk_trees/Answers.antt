use Rattle.std.proofs.Common.{List, [], map, take, drop, ◌+◌, subst, refl, ◌∙◌, arith}
use Rattle.std.specs.FinMap as finite
use Rattle.std.proofs.lemmas.List.{length-map, take_all}
use Rattle.base_model.proofs.Outcome.{passed_on}
use Rattle.merkle_file.specs.Walk.{start_of}
use Rattle.namespace.specs.Listing.{NamedRoot, listed_value}
use Rattle.namespace.specs.declared.listing.ListedName.{ListedName}
use Rattle.read_steps.specs.Opening.{top_of}
use Rattle.read_steps.specs.Trees.{NotesTrees, WalksRoots, walk_state}
use Rattle.read_steps.proofs.TreeWalks.{file_among, file_taken, tree_failed, tree_refused, tree_stuck, walking_all_more, walking_all_none}
use Rattle.read_steps.proofs.trees.walk_trees.Goals as goal

pub returns-in_err-walk_tree-clause-refused : goal.returns-in_err-walk_tree-clause-refused
returns-in_err-walk_tree-clause-refused g c =
    let view = g.D.Disk.view in
    let M = g.row.N.Denot in
    let R = g.N.NotesKeys.notes in
    let so_far = c.loop-file.invariant.walking in
    let files = c.args.files.now in
    let file : ListedName = c.file-item.result in
    let k = c.loop-file.file-index in
    passed_on c.from_residual.result _ c.in_err-walk_tree.field-0.0 c.from_residual.ensures.1
    (tree_refused c.args.index.now c.loop-file.index (view c.args.disk.now) (view c.loop-file.disk) (view c.walk_tree.new.disk) so_far.index_is so_far.reads.only
    c.in_err-walk_tree.ensures.reads.only
    (take k (map listed_value files)) (drop (k + 1) (map listed_value files)) (map listed_value files) (listed_value file) so_far.notes.visited
    c.in_err-walk_tree.field-0.0
    (file_among files k file c.loop-file-test.true c.file-item.is) so_far.notes.visits
    (tree_stuck M R c.args.index.now c.loop-file.index (view c.args.disk.now) (view c.loop-file.disk) (view c.walk_tree.new.disk) so_far.index_is so_far.reads.only
    c.in_err-walk_tree.ensures.reads.only
    (start_of (top_of file.root)) so_far.notes.noted c.loop-file.passed c.loop-file.notes c.in_err-walk_tree.field-0.0 so_far.walked
    c.in_err-walk_tree.ensures.refused))

pub returns-in_err-walk_tree-clause-failed : goal.returns-in_err-walk_tree-clause-failed
returns-in_err-walk_tree-clause-failed g c =
    let view = g.D.Disk.view in
    let so_far = c.loop-file.invariant.walking in
    passed_on c.from_residual.result _ c.in_err-walk_tree.field-0.0 c.from_residual.ensures.1
    (tree_failed c.args.index.now c.loop-file.index (view c.args.disk.now) (view c.loop-file.disk) c.args.files.now c.loop-file.file-index c.file-item.result
    c.in_err-walk_tree.field-0.0
    c.loop-file-test.true c.file-item.is so_far.index_is so_far.reads.only c.in_err-walk_tree.ensures.failed)

pub loop-file-preserved : goal.loop-file-preserved
loop-file-preserved g c =
    let view = g.D.Disk.view in
    let M = g.row.N.Denot in
    let R = g.N.NotesKeys.notes in
    let so_far = c.loop-file.invariant.walking in
    let files = c.args.files.now in
    let k = c.loop-file.file-index in
    record {
      walking = walking_all_more M R c.args.index.now c.loop-file.index c.walk_tree.new.index (view c.args.disk.now) (view c.loop-file.disk) (view c.walk_tree.new.disk)
          (take k (map listed_value files))
          (take (k + 1) (map listed_value files)) (listed_value c.file-item.result) c.loop-file.passed c.walk_tree.new.passed c.args.notes.now c.loop-file.notes
          c.walk_tree.new.notes
          so_far
          (file_taken files k c.file-item.result c.loop-file-test.true c.file-item.is) c.in_ok-walk_tree.ensures.walks
          c.walk_tree.ensures.index c.in_ok-walk_tree.ensures.reads;
      size = c.walk_tree.ensures.size ∙ c.loop-file.invariant.size;
      stays = λ p takes. c.walk_tree.ensures.stays p (c.loop-file.invariant.stays p takes);
    }

pub loop-file-init : goal.loop-file-init
loop-file-init g c = record {
  walking = walking_all_none g.row.N.Denot g.N.NotesKeys.notes c.args.index.now (g.D.Disk.view c.args.disk.now) (take 0 (map listed_value c.args.files.now)) c.new-passed.result
      c.args.notes.now refl c.new-passed.ensures;
  size = refl;
  stays = λ p takes. takes;
}

pub returns-clause-notes : goal.returns-clause-notes
returns-clause-notes g c =
    let view = g.D.Disk.view in
    let files = c.args.files.now in
    subst (λ (roots : List NamedRoot). NotesTrees g.row.N.Denot g.N.NotesKeys.notes c.args.index.now (view c.args.disk.now) (view c.loop-file.disk) roots c.args.notes.now
    c.loop-file.notes)
    (take_all c.loop-file.file-index (map listed_value files) (omega (arith, c.loop-file-test.false, length-map files listed_value))) c.loop-file.invariant.walking.notes

pub returns-clause-once : goal.returns-clause-once
returns-clause-once g c =
    let view = g.D.Disk.view in
    let M = g.row.N.Denot in
    let R = g.N.NotesKeys.notes in
    let files = c.args.files.now in
    record {
      nodes = c.loop-file.passed;
      walks = subst (λ (roots : List NamedRoot). WalksRoots M R c.args.index.now (view c.args.disk.now) (view c.loop-file.disk) roots
          (walk_state M [] finite.empty c.args.notes.now)
          (walk_state M [] c.loop-file.passed c.loop-file.notes))
          (take_all c.loop-file.file-index (map listed_value files) (omega (arith, c.loop-file-test.false, length-map files listed_value))) c.loop-file.invariant.walking.walks;
    }

use Rattle.std.proofs.Common.{Bool, subst, ◌∙◌}
use Rattle.base_model.proofs.Outcome.{passed_on}
use Rattle.dd_disk.proofs.Ended.{reads_on}
use Rattle.dd_disk.specs.Ending.{Done}
use Rattle.read_steps.specs.Trees.{Walks, walk_state}
use Rattle.read_steps.proofs.Walked.{ahead_of}
use Rattle.read_steps.proofs.TreeWalks.{indexed_on, walk_stops, walks_next}
use Rattle.read_steps.proofs.trees.walk_rest.Goals as goal

pub returns-in_err-more-clause-refused : goal.returns-in_err-more-clause-refused
returns-in_err-more-clause-refused g c =
    let view = g.D.Disk.view in
    let M = g.row.N.Denot in
    let R = g.N.NotesKeys.notes in
    let so_far = c.loop-more.invariant in
    let start = walk_state M c.args.cursor.now c.args.passed.now c.args.notes.now in
    passed_on c.from_residual.result _ c.in_err-more.field-0.0 c.from_residual.ensures.1
    (walk_stops M R c.args.index.now c.loop-more.index (view c.args.disk.now) (view c.loop-more.disk) (view c.walk_next.new.disk) so_far.index_is so_far.reads.only
    c.in_err-more.ensures.reads.only
    start (walk_state M c.loop-more.cursor c.loop-more.passed c.loop-more.notes) c.in_err-more.field-0.0
    (subst (λ (more : Bool). Walks M R c.args.index.now (view c.args.disk.now) (view c.loop-more.disk) start
    (walk_state M (ahead_of more c.loop-more.cursor) c.loop-more.passed c.loop-more.notes)) c.loop-more-test.true so_far.walks)
    c.in_err-more.ensures.refused)

pub returns-in_err-more-clause-failed : goal.returns-in_err-more-clause-failed
returns-in_err-more-clause-failed g c =
    let view = g.D.Disk.view in
    let so_far = c.loop-more.invariant in
    passed_on c.from_residual.result _ c.in_err-more.field-0.0 c.from_residual.ensures.1 (λ counts held image indexed is.
    c.in_err-more.ensures.held counts held image
    (indexed_on c.args.index.now c.loop-more.index (view c.args.disk.now) (view c.loop-more.disk) counts held image so_far.index_is so_far.reads.only indexed)
    (so_far.held counts held image indexed is))

pub loop-more-preserved : goal.loop-more-preserved
loop-more-preserved g c =
    let view = g.D.Disk.view in
    let M = g.row.N.Denot in
    let R = g.N.NotesKeys.notes in
    let so_far = c.loop-more.invariant in
    let start = walk_state M c.args.cursor.now c.args.passed.now c.args.notes.now in
    record {
      walks = walks_next M R c.args.index.now c.loop-more.index (view c.args.disk.now) (view c.loop-more.disk) (view c.walk_next.new.disk) so_far.index_is so_far.reads.only
          c.in_ok-more.ensures.reads.only
          c.in_ok-more.more start c.loop-more.cursor c.walk_next.new.cursor c.loop-more.passed c.walk_next.new.passed c.loop-more.notes c.walk_next.new.notes
          (subst (λ (more : Bool). Walks M R c.args.index.now (view c.args.disk.now) (view c.loop-more.disk) start
          (walk_state M (ahead_of more c.loop-more.cursor) c.loop-more.passed c.loop-more.notes)) c.loop-more-test.true so_far.walks)
          c.in_ok-more.ensures.step c.in_ok-more.ensures.end;
      index_is = c.walk_next.ensures.rest.0 ∙ so_far.index_is;
      size = c.walk_next.ensures.rest.1 ∙ so_far.size;
      stays = λ p takes. c.walk_next.ensures.rest.2 p (so_far.stays p takes);
      reads = reads_on Done (view c.args.disk.now) (view c.loop-more.disk) (view c.walk_next.new.disk) so_far.reads c.in_ok-more.ensures.reads;
      held = λ counts held image indexed is.
          c.in_ok-more.ensures.held counts held image
          (indexed_on c.args.index.now c.loop-more.index (view c.args.disk.now) (view c.loop-more.disk) counts held image so_far.index_is so_far.reads.only indexed)
          (so_far.held counts held image indexed is);
    }

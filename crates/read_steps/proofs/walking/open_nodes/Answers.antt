use Rattle.base_model.proofs.Outcome.{passed_on}
use Rattle.dd_disk.specs.Ending.{Done}
use Rattle.dd_disk.proofs.Ended.{reads_on}
use Rattle.read_steps.specs.Walking.{IsWalkRefusal}
use Rattle.read_steps.proofs.Walks.{same_on, walked_then, refused_then}
use Rattle.read_steps.proofs.walking.open_nodes.Goals as goal

pub loop-digest-preserved : goal.loop-digest-preserved
loop-digest-preserved g c =
    let old = g.D.Disk.view c.args.disk.now in
    let mid = g.D.Disk.view c.loop-digest.disk in
    let new = g.D.Disk.view c.open_node.new.disk in
    let so_far = c.loop-digest.invariant in
    record {
      walked = walked_then (g.X.Index.places c.args.index.now old.content) old mid new (g.X.Index.places c.loop-digest.index mid.content) so_far.map so_far.reads.only
          c.in_ok-open_node.ensures.asks.reads.only
          c.args.cursor.now c.loop-digest.cursor c.open_node.new.cursor so_far.walked c.in_ok-open_node.ensures.walked;
      map = same_on (g.X.Index.places c.args.index.now (g.D.Disk.view c.args.disk.now).content) (g.X.Index.places c.loop-digest.index (g.D.Disk.view c.loop-digest.disk).content)
          (g.X.Index.places c.open_node.new.index (g.D.Disk.view c.open_node.new.disk).content) so_far.map c.in_ok-open_node.ensures.asks.map;
      form = λ at why bytes broken. so_far.form at why bytes (c.in_ok-open_node.ensures.asks.form at why bytes broken);
      served = c.in_ok-open_node.ensures.served;
      reads = reads_on Done old mid new so_far.reads c.in_ok-open_node.ensures.asks.reads;
    }

pub returns-in_err-open_node-clause-refused : goal.returns-in_err-open_node-clause-refused
returns-in_err-open_node-clause-refused g c =
    let old = g.D.Disk.view c.args.disk.now in
    let mid = g.D.Disk.view c.loop-digest.disk in
    let new = g.D.Disk.view c.open_node.new.disk in
    let so_far = c.loop-digest.invariant in
    let known = g.X.Index.places c.args.index.now old.content in
    let breaks = g.X.Index.breaks c.args.index.now in
    passed_on c.from_residual.result (IsWalkRefusal known breaks old new c.args.cursor.now c.open_node.new.cursor) c.in_err-open_node.field-0.0 c.from_residual.ensures.1
    (refused_then known old mid new (g.X.Index.places c.loop-digest.index mid.content) so_far.map breaks (g.X.Index.breaks c.loop-digest.index) so_far.form so_far.reads.only
    c.in_err-open_node.ensures.asks.reads.only
    c.args.cursor.now c.loop-digest.cursor c.open_node.new.cursor c.in_err-open_node.field-0.0 so_far.walked c.in_err-open_node.ensures.refused)

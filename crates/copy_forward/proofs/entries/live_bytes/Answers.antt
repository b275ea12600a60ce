use Rattle.std.proofs.Common.{◌∙◌, inl, inr, [], arith, Some}
use Rattle.container_meta.specs.declared.entry.Entry.{Entry}
use Rattle.dd_disk.specs.Ending.{Done}
use Rattle.dd_disk.proofs.Ended.{reads_on}
use Rattle.store_state.proofs.Changed.{on}
use Rattle.copy_forward.proofs.Summed.{bytes_more, summed_more}
use Rattle.copy_forward.proofs.entries.live_bytes.Goals as goal
use Rattle.copy_forward.proofs.entries.live_bytes.Goals.{then-branch, else-branch}

pub loop-entry-preserved : goal.loop-entry-preserved
loop-entry-preserved g c =
    let view = g.D.Disk.view in
    let old = view c.args.disk.now in
    let mid = view c.loop-entry.disk in
    let new = view c.is_live_copy.new.disk in
    let so_far = c.loop-entry.invariant in
    let es = c.args.entries.now in
    let i = c.loop-entry.entry-index in
    let d : Entry = record { digest = []; offset = 0; length = 0; level = 0 } in
    let known = g.X.Index.places c.args.index.now old.content in
    let next = g.X.Index.places c.loop-entry.index mid.content in (
      λ m is.
          let told = c.in_ok-is_live_copy.ensures.live m (on next known (Some m) so_far.2 is) in
          elim c.if-branch.branch [
            | then-branch w ↦ summed_more m c.args.live.now c.args.kind c.args.slot es i d c.loop-entry.sum c.if-branch.sum c.in_ok-is_live_copy.field-0 c.loop-entry-test.true
                (so_far.0 m is) told
                (inl (w.if-branch.true, w.sum-is))
            | else-branch w ↦ summed_more m c.args.live.now c.args.kind c.args.slot es i d c.loop-entry.sum c.if-branch.sum c.in_ok-is_live_copy.field-0 c.loop-entry-test.true
                (so_far.0 m is) told
                (inr (w.if-branch.false, w.sum-is))
          ],
      elim c.if-branch.branch [
        | then-branch w ↦ omega (arith, so_far.1, bytes_more es i d c.loop-entry-test.true, w.sum-is)
        | else-branch w ↦ omega (arith, so_far.1, bytes_more es i d c.loop-entry-test.true, w.sum-is)
      ],
      c.in_ok-is_live_copy.ensures.map ∙ so_far.2,
      reads_on Done old mid new so_far.3 c.in_ok-is_live_copy.ensures.reads,
      c.in_ok-is_live_copy.ensures.served,
    )

use Rattle.std.proofs.Common.{Ok, Some, None, sym}
use Rattle.base_model.proofs.Outcome.{passed_on}
use Rattle.read_steps.specs.Walking.{IsAnswer, IsWalkRefusal, WasRead}
use Rattle.read_steps.proofs.Walks.{answer_ends, leaf_gives, leaf_refused, no_answer, walk_ends}
use Rattle.read_steps.proofs.HeldWalks.{answer_held}
use Rattle.read_steps.proofs.walking.next_segment.Goals as goal

-- ---- a refusal on the way

pub returns-in_err-open_nodes-clause-end : goal.returns-in_err-open_nodes-clause-end
returns-in_err-open_nodes-clause-end g c =
    let old = g.D.Disk.view c.args.disk.now in
    let new = g.D.Disk.view c.open_nodes.new.disk in
    let known = g.X.Index.places c.args.index.now old.content in
    let breaks = g.X.Index.breaks c.args.index.now in
    let result = c.from_residual.result in
    let passed = c.from_residual.ensures.1 in
    let e = c.in_err-open_nodes.field-0.0 in
    answer_ends known breaks old new c.args.cursor.now c.open_nodes.new.cursor c.open_nodes.new.buf result
    (no_answer result (IsAnswer (WasRead known old new) c.args.cursor.now c.open_nodes.new.cursor c.open_nodes.new.buf) e passed)
    (passed_on result (IsWalkRefusal known breaks old new c.args.cursor.now c.open_nodes.new.cursor) e passed c.in_err-open_nodes.ensures.refused)

pub returns-in_err-open_nodes-clause-held : goal.returns-in_err-open_nodes-clause-held
returns-in_err-open_nodes-clause-held g c = λ counts held image segments indexed ahead.
    let old = g.D.Disk.view c.args.disk.now in
    let new = g.D.Disk.view c.open_nodes.new.disk in
    let known = g.X.Index.places c.args.index.now old.content in
    let breaks = g.X.Index.breaks c.args.index.now in
    let result = c.from_residual.result in
    let passed = c.from_residual.ensures.1 in
    let e = c.in_err-open_nodes.field-0.0 in
    answer_held counts held known old new image indexed breaks c.args.cursor.now c.open_nodes.new.cursor segments c.open_nodes.new.buf result
    (no_answer result (IsAnswer (WasRead known old new) c.args.cursor.now c.open_nodes.new.cursor c.open_nodes.new.buf) e passed)
    (passed_on result (IsWalkRefusal known breaks old new c.args.cursor.now c.open_nodes.new.cursor) e passed c.in_err-open_nodes.ensures.refused) ahead

-- ---- a refusal at the segment

pub returns-in_err-count-in-Leaf-clause-refused : goal.returns-in_err-count-in-Leaf-clause-refused
returns-in_err-count-in-Leaf-clause-refused g c =
    let old = g.D.Disk.view c.args.disk.now in
    let mid = g.D.Disk.view c.open_nodes.new.disk in
    let new = g.D.Disk.view c.read_leaf.new.disk in
    let known = g.X.Index.places c.args.index.now old.content in
    let breaks = g.X.Index.breaks c.args.index.now in
    let e = c.in_err-count-in-Leaf.field-0.0 in
    let opened = c.in_ok-open_nodes.ensures in
    passed_on c.from_residual-in_err-count-in-Leaf.result (IsWalkRefusal known breaks old new c.args.cursor.now c.open_nodes.new.cursor) e
    c.from_residual-in_err-count-in-Leaf.ensures.1
    (leaf_refused known (g.X.Index.places c.open_nodes.new.index mid.content) breaks (g.X.Index.breaks c.open_nodes.new.index) old mid new c.args.cursor.now c.open_nodes.new.cursor
    c.in-Leaf.digest c.in-Leaf.level c.in-Leaf.length (sym c.in-Leaf.ensures.wanted) opened.map opened.form opened.reads.only c.in_err-count-in-Leaf.ensures.reads.only
    opened.walked e
    c.in_err-count-in-Leaf.ensures.refused)

pub returns-in_err-count-in-Leaf-clause-end : goal.returns-in_err-count-in-Leaf-clause-end
returns-in_err-count-in-Leaf-clause-end g c =
    let old = g.D.Disk.view c.args.disk.now in
    let mid = g.D.Disk.view c.open_nodes.new.disk in
    let new = g.D.Disk.view c.read_leaf.new.disk in
    let known = g.X.Index.places c.args.index.now old.content in
    let breaks = g.X.Index.breaks c.args.index.now in
    let result = c.from_residual-in_err-count-in-Leaf.result in
    let passed = c.from_residual-in_err-count-in-Leaf.ensures.1 in
    let e = c.in_err-count-in-Leaf.field-0.0 in
    let opened = c.in_ok-open_nodes.ensures in
    answer_ends known breaks old new c.args.cursor.now c.open_nodes.new.cursor c.read_leaf.new.buf result
    (no_answer result (IsAnswer (WasRead known old new) c.args.cursor.now c.open_nodes.new.cursor c.read_leaf.new.buf) e passed)
    (passed_on result (IsWalkRefusal known breaks old new c.args.cursor.now c.open_nodes.new.cursor) e passed
    (leaf_refused known (g.X.Index.places c.open_nodes.new.index mid.content) breaks (g.X.Index.breaks c.open_nodes.new.index) old mid new c.args.cursor.now c.open_nodes.new.cursor
    c.in-Leaf.digest c.in-Leaf.level c.in-Leaf.length (sym c.in-Leaf.ensures.wanted) opened.map opened.form opened.reads.only c.in_err-count-in-Leaf.ensures.reads.only
    opened.walked e
    c.in_err-count-in-Leaf.ensures.refused))

pub returns-in_err-count-in-Leaf-clause-held : goal.returns-in_err-count-in-Leaf-clause-held
returns-in_err-count-in-Leaf-clause-held g c = λ counts held image segments indexed ahead.
    let old = g.D.Disk.view c.args.disk.now in
    let mid = g.D.Disk.view c.open_nodes.new.disk in
    let new = g.D.Disk.view c.read_leaf.new.disk in
    let known = g.X.Index.places c.args.index.now old.content in
    let breaks = g.X.Index.breaks c.args.index.now in
    let result = c.from_residual-in_err-count-in-Leaf.result in
    let passed = c.from_residual-in_err-count-in-Leaf.ensures.1 in
    let e = c.in_err-count-in-Leaf.field-0.0 in
    let opened = c.in_ok-open_nodes.ensures in
    answer_held counts held known old new image indexed breaks c.args.cursor.now c.open_nodes.new.cursor segments c.read_leaf.new.buf result
    (no_answer result (IsAnswer (WasRead known old new) c.args.cursor.now c.open_nodes.new.cursor c.read_leaf.new.buf) e passed)
    (passed_on result (IsWalkRefusal known breaks old new c.args.cursor.now c.open_nodes.new.cursor) e passed
    (leaf_refused known (g.X.Index.places c.open_nodes.new.index mid.content) breaks (g.X.Index.breaks c.open_nodes.new.index) old mid new c.args.cursor.now c.open_nodes.new.cursor
    c.in-Leaf.digest c.in-Leaf.level c.in-Leaf.length (sym c.in-Leaf.ensures.wanted) opened.map opened.form opened.reads.only c.in_err-count-in-Leaf.ensures.reads.only
    opened.walked e
    c.in_err-count-in-Leaf.ensures.refused)) ahead

-- ---- a segment

pub returns-in_ok-count-in-Leaf-clause-bytes : goal.returns-in_ok-count-in-Leaf-clause-bytes
returns-in_ok-count-in-Leaf-clause-bytes g c =
    let old = g.D.Disk.view c.args.disk.now in
    let mid = g.D.Disk.view c.open_nodes.new.disk in
    let new = g.D.Disk.view c.read_leaf.new.disk in
    let opened = c.in_ok-open_nodes.ensures in
    leaf_gives (g.X.Index.places c.args.index.now old.content) (g.X.Index.places c.open_nodes.new.index mid.content) old mid new c.args.cursor.now c.open_nodes.new.cursor
    c.pass.new.self
    c.in-Leaf.digest c.in-Leaf.level c.in-Leaf.length c.in_ok-count-in-Leaf.count _ (sym c.in-Leaf.ensures.wanted) c.pass.ensures.rest opened.map opened.reads.only
    c.in_ok-count-in-Leaf.ensures.reads.only opened.walked
    c.in_ok-count-in-Leaf.ensures.bytes

pub returns-in_ok-count-in-Leaf-clause-end : goal.returns-in_ok-count-in-Leaf-clause-end
returns-in_ok-count-in-Leaf-clause-end g c =
    let old = g.D.Disk.view c.args.disk.now in
    let mid = g.D.Disk.view c.open_nodes.new.disk in
    let new = g.D.Disk.view c.read_leaf.new.disk in
    let opened = c.in_ok-open_nodes.ensures in
    answer_ends (g.X.Index.places c.args.index.now old.content) (g.X.Index.breaks c.args.index.now) old new c.args.cursor.now c.pass.new.self c.read_leaf.new.buf
    (Ok (Some c.in_ok-count-in-Leaf.count))
    (leaf_gives (g.X.Index.places c.args.index.now old.content) (g.X.Index.places c.open_nodes.new.index mid.content) old mid new c.args.cursor.now c.open_nodes.new.cursor
    c.pass.new.self
    c.in-Leaf.digest c.in-Leaf.level c.in-Leaf.length c.in_ok-count-in-Leaf.count _ (sym c.in-Leaf.ensures.wanted) c.pass.ensures.rest opened.map opened.reads.only
    c.in_ok-count-in-Leaf.ensures.reads.only
    opened.walked c.in_ok-count-in-Leaf.ensures.bytes) tt

pub returns-in_ok-count-in-Leaf-clause-held : goal.returns-in_ok-count-in-Leaf-clause-held
returns-in_ok-count-in-Leaf-clause-held g c = λ counts held image segments indexed ahead.
    let old = g.D.Disk.view c.args.disk.now in
    let mid = g.D.Disk.view c.open_nodes.new.disk in
    let new = g.D.Disk.view c.read_leaf.new.disk in
    let opened = c.in_ok-open_nodes.ensures in
    answer_held counts held (g.X.Index.places c.args.index.now old.content) old new image indexed (g.X.Index.breaks c.args.index.now) c.args.cursor.now c.pass.new.self segments
    c.read_leaf.new.buf
    (Ok (Some c.in_ok-count-in-Leaf.count))
    (leaf_gives (g.X.Index.places c.args.index.now old.content) (g.X.Index.places c.open_nodes.new.index mid.content) old mid new c.args.cursor.now c.open_nodes.new.cursor
    c.pass.new.self
    c.in-Leaf.digest c.in-Leaf.level c.in-Leaf.length c.in_ok-count-in-Leaf.count _ (sym c.in-Leaf.ensures.wanted) c.pass.ensures.rest opened.map opened.reads.only
    c.in_ok-count-in-Leaf.ensures.reads.only
    opened.walked c.in_ok-count-in-Leaf.ensures.bytes) tt ahead

-- ---- the end

pub returns-in-End-clause-bytes : goal.returns-in-End-clause-bytes
returns-in-End-clause-bytes g c = (
  walk_ends (WasRead (g.X.Index.places c.args.index.now (g.D.Disk.view c.args.disk.now).content) (g.D.Disk.view c.args.disk.now) (g.D.Disk.view c.open_nodes.new.disk))
      c.args.cursor.now c.open_nodes.new.cursor c.in_ok-open_nodes.ensures.walked c.in-End.ensures.next,
  c.in-End.ensures.next,
)

pub returns-in-End-clause-end : goal.returns-in-End-clause-end
returns-in-End-clause-end g c =
    let old = g.D.Disk.view c.args.disk.now in
    let new = g.D.Disk.view c.open_nodes.new.disk in
    answer_ends (g.X.Index.places c.args.index.now old.content) (g.X.Index.breaks c.args.index.now) old new c.args.cursor.now c.open_nodes.new.cursor c.open_nodes.new.buf
    (Ok None) (
      walk_ends (WasRead (g.X.Index.places c.args.index.now (g.D.Disk.view c.args.disk.now).content) (g.D.Disk.view c.args.disk.now) (g.D.Disk.view c.open_nodes.new.disk))
          c.args.cursor.now c.open_nodes.new.cursor c.in_ok-open_nodes.ensures.walked c.in-End.ensures.next,
      c.in-End.ensures.next,
    ) tt

pub returns-in-End-clause-held : goal.returns-in-End-clause-held
returns-in-End-clause-held g c = λ counts held image segments indexed ahead.
    let old = g.D.Disk.view c.args.disk.now in
    let new = g.D.Disk.view c.open_nodes.new.disk in
    answer_held counts held (g.X.Index.places c.args.index.now old.content) old new image indexed (g.X.Index.breaks c.args.index.now) c.args.cursor.now c.open_nodes.new.cursor
    segments c.open_nodes.new.buf (Ok None) (
      walk_ends (WasRead (g.X.Index.places c.args.index.now (g.D.Disk.view c.args.disk.now).content) (g.D.Disk.view c.args.disk.now) (g.D.Disk.view c.open_nodes.new.disk))
          c.args.cursor.now c.open_nodes.new.cursor c.in_ok-open_nodes.ensures.walked c.in-End.ensures.next,
      c.in-End.ensures.next,
    ) tt ahead

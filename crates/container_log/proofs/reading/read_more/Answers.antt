use Rattle.std.proofs.Common.{ℕ, ◌≡◌, ◌+◌, ◌-◌, List, OnOk, sym, subst, arith}
use Rattle.std.proofs.lemmas.Slice.{take-put_mid_below, between-put_mid}
use borrow.Rule.Slice.PartMut.{put_mid}
use Rattle.base_model.specs.Bytes.{range}
use Rattle.disk_format.specs.Layout.{slot_at}
use Rattle.container_log.specs.Parts.{ReadAt}
use Rattle.container_log.proofs.reading.read_more.Goals as goal

pub returns-clause-first : goal.returns-clause-first
returns-clause-first g c = take-put_mid_below 4096 (c.args.end - 4096) c.args.raw.now c.read_part.new.into 4096 (omega arith) (omega (arith, c.requires.length))

pub returns-clause-shown : goal.returns-clause-shown
unfolding range
returns-clause-shown g c =
    let view = g.D.Disk.view in
    let read = λ (at : ℕ) (bytes : List ℕ). OnOk c.read_part.result (ReadAt (view c.args.disk.now) (view c.read_part.new.disk) at bytes) in
    let part : range 4096 (c.args.end - 4096) (put_mid 4096 (c.args.end - 4096) c.args.raw.now c.read_part.new.into) ≡ c.read_part.new.into =
    between-put_mid 4096 (c.args.end - 4096) c.args.raw.now c.read_part.new.into c.args.end (omega (arith, c.requires.length)) (omega (arith, c.read_part.ensures.length)) in
    subst (read (slot_at c.args.slot + 4096)) (sym part) (subst (λ (at : ℕ). read (at + 4096) c.read_part.new.into) c.slot_at.ensures c.read_part.ensures.shown)

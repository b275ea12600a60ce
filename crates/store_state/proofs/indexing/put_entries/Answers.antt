use Rattle.std.proofs.Common.{List, refl, subst, sym}
use Rattle.container_meta.specs.declared.entry.Entry.{Entry}
use Rattle.container_meta.specs.declared.kind.Kind.{Kind}
use Rattle.container_meta.specs.Spelling.{header_of}
use Rattle.store_state.specs.Indexing.{ArePart}
use Rattle.dd_disk.specs.Ending.{ending}
use Rattle.store_state.specs.Refused.{blames}
use Rattle.store_state.proofs.Changed.{keeps}
use Rattle.store_state.proofs.Indexed.{part_of}
use Rattle.store_state.proofs.indexing.put_entries.Goals as goal

pub put_from-requires-clause-part : goal.put_from-requires-clause-part
put_from-requires-clause-part g c =
    let size = (g.D.Disk.view c.args.disk.now).size in
    let filled = c.args.filled.now in
    subst (λ (k : Kind). ArePart size c.args.slot k c.entries.result.now) (sym c.kind.ensures)
    (subst (λ (l : List Entry). ArePart size c.args.slot filled.kind l) (sym c.entries.ensures.entries)
    (part_of size c.args.slot (header_of 1 filled.kind filled.segments) (c.entries.ensures.header 1 refl c.requires.some) c.requires.slot))

pub returns-clause-counts : goal.returns-clause-counts
returns-clause-counts g c = λ slots size_is.
    let view = g.D.Disk.view in
    keeps slots (ending blames c.put_from.result) (view c.args.disk.now) (view c.put_from.new.disk) (c.put_from.ensures.changes slots size_is)

use Rattle.std.proofs.Common.{refl}
use Rattle.container_meta.specs.Spelling.{with_entries}
use Rattle.store_state.proofs.Entered.{part_begun, part_ended}
use Rattle.store_state.proofs.containers.Containers.add.Goals as goal

pub returns : goal.returns
returns c = λ held place are.
    let h = with_entries c.args.header.now c.args.entries.now in
    let part = c.in_ok-add_entries.ensures held (part_begun held c.args.slot h.id h.kind c.args.self.now place are) in
    part_ended held c.args.slot h c.count_in.result c.add_entries.new.self _ part refl c.in_ok-push.ensures.items c.in_ok-push-2.ensures.items c.count_in.ensures c.max-self.ensures

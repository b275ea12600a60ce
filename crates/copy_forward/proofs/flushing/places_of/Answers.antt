use Rattle.std.proofs.Common.{length, ap, arith}
use Rattle.copy_forward.proofs.Flushed.{have_had}
use Rattle.copy_forward.proofs.flushing.places_of.Goals as goal

pub returns-clause-had : goal.returns-clause-had
returns-clause-had g c =
    let added = c.in_ok-add_places.ensures in
    record {
      many = omega (arith, added.many, ap length c.new-places.ensures.items, ap length c.entries.ensures.entries);
      lie = added.lie;
      had = λ m known. have_had m c.args.filled.now.kind c.kind.result c.entries.result.now _ c.add_places.new.places.items c.new-places.result.items c.kind.ensures
          c.entries.ensures.entries c.new-places.ensures.items (added.had m known);
    }

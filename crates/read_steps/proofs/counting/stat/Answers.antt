use Rattle.read_steps.proofs.Counts.{few_ids, free_few, counted, summed_on}
use Rattle.read_steps.proofs.counting.stat.Goals as goal

pub free-free-requires : goal.free-free-requires
free-free-requires c = few_ids c.args.tables.now c.requires

pub overflow_sub-tables : goal.overflow_sub-tables
overflow_sub-tables c = free_few c.args.tables.now c.requires c.free-free.result c.free-free.ensures

pub returns : goal.returns
returns c = λ size known store represents valid.
    counted c.args.tables.now size known store represents valid c.count.result c.entries_of.result c.bytes_of.result c.from.result c.from-2.result c.free-free.result
    c.count.ensures (summed_on (λ n. n.entries) _ _ _ c.entries_of.ensures c.deref.ensures.value) (summed_on (λ n. n.bytes) _ _ _ c.bytes_of.ensures c.deref-2.ensures.value)
    c.free-free.ensures c.from.ensures c.from-2.ensures

use Rattle.ingest_session.proofs.KeyTimes.{none_counted}
use Rattle.ingest_session.proofs.aside.Aside.new.Goals as goal

pub invariant_of-result : goal.invariant_of-result
invariant_of-result c =
    (c.in_ok-with_capacity.ensures.capacity, none_counted c.new.result c.in_ok-with_capacity.field-0.items c.new.ensures c.in_ok-with_capacity.ensures.items)

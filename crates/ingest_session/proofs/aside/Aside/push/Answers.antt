use Rattle.ingest_session.proofs.Prelude.{◌<◌, List, length, refl, subst, sym, arith, Contents}
use Rattle.actor_parts.specs.declared.step.TheConstants.{MOST_TOGETHER}
use Rattle.ingest_session.proofs.KeyTimes.{pushed, room}
use Rattle.ingest_session.proofs.aside.Aside.push.Goals as goal

pub count_all-requires : goal.count_all-requires
count_all-requires c =
    let less = subst (λ (cs : List Contents). length cs < MOST_TOGETHER) (sym c.self.view_is) c.requires.room in
    record {
      few = room c.self.inside.counts c.self.inside.containers.items c.args.filled.now c.entries.result.now c.self.invariant.1 less c.entries.ensures.entries
          (c.entries.ensures.header 1 refl c.requires.some);
    }

pub invariant_of-self-2 : goal.invariant_of-self-2
invariant_of-self-2 c =
    let counted = pushed c.self.inside.counts c.count_all.new.counts c.self.inside.containers.items c.args.filled.now c.kind.result c.entries.result.now
    c.self.invariant.1 c.kind.ensures c.entries.ensures.entries (c.entries.ensures.header 1 refl c.requires.some) c.in_ok-count_all.ensures.ok in
    (omega (arith, c.push_reserved.ensures.capacity, c.self.invariant.0), rw (c.push_reserved.ensures.items, c.replace.ensures.value) counted)

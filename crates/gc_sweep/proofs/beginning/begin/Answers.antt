use Rattle.gc_sweep.proofs.Prelude.{ℕ, List, ap, refl, subst, Contents, Sweep, IsNext}
use Rattle.gc_sweep.proofs.Begun.{begun_on}
use Rattle.gc_sweep.proofs.beginning.begin.Goals as goal

pub returns-clause-under_way : goal.returns-clause-under_way
returns-clause-under_way c = λ snapshot once few left room.
    let buffer = c.in_ok-buffer.buffer in
    let s : Sweep = record { sources = c.args.sources; buffer = buffer; waiting = c.new-2.result; ready = c.new-3.result; next = c.next_step-next.result; freed = 0; copied = 0 } in
    begun_on c.args.held.now snapshot c.args.sources.items s (record {
      sources_are = refl;
      empty = ap (λ (b : Contents). b.segments) c.in_ok-buffer.ensures;
      none_waits = c.new-2.ensures.items;
      none_ready = c.new-3.ensures.items;
      none_freed = refl;
      none_copied = refl;
      next_is = subst (λ (xs : List ℕ). IsNext c.args.held.now xs buffer 0 0 c.next_step-next.result) c.deref.ensures.value c.next_step-next.ensures;
    }) once few left room

use Rattle.gc_steps.proofs.Prelude.{List, ℕ, subst, Unmarks}
use Rattle.gc_steps.proofs.FreshMarks.{unmarked_again}
use Rattle.gc_steps.proofs.fresh.mark_fresh.Goals as goal

pub returns-in-Err-clause-kept : goal.returns-in-Err-clause-kept
returns-in-Err-clause-kept c =
    unmarked_again c.mark_new.new.fresh.items c.args.collection.now.live c.mark_new.new.live c.unmark_keys.new.live c.in-Err.ensures.some
    (subst (λ (ks : List (List ℕ)). Unmarks ks c.mark_new.new.live c.unmark_keys.new.live) c.deref.ensures.value c.unmark_keys.ensures)

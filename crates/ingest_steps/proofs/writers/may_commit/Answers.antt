use Rattle.ingest_steps.proofs.Prelude.{sym, subst, map_err, IsUncommitted}
use Rattle.base_model.proofs.Outcome.{both_ok}
use Rattle.ingest_steps.proofs.writers.may_commit.Goals as goal

pub returns-in_ok-may_name-in-Writing-clause-may : goal.returns-in_ok-may_name-in-Writing-clause-may
returns-in_ok-may_name-in-Writing-clause-may c =
    both_ok c.may_take.result (λ stored right. record {
      pins = c.in-Writing.pins;
      writing = c.in-Writing.is;
      may_name = c.in_ok-may_name-in-Writing.ensures.may;
      stored = stored;
    }) c.may_take.ensures.stored c.may_take.ensures.right

pub returns-in_ok-may_name-in-Writing-clause-refused : goal.returns-in_ok-may_name-in-Writing-clause-refused
returns-in_ok-may_name-in-Writing-clause-refused c =
    map_err c.may_take.result _ (IsUncommitted c.args.part.now c.args.tables.now c.args.name.now c.args.root.now) (λ refusal unpinned.
    subst (IsUncommitted c.args.part.now c.args.tables.now c.args.name.now c.args.root.now) (sym unpinned.0)
    (c.in-Writing.pins, c.in-Writing.is, c.in_ok-may_name-in-Writing.ensures.may, unpinned.1)) c.may_take.ensures.refused

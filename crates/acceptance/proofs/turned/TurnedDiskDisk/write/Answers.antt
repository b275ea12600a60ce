use Rattle.std.proofs.Common.{length, ap, sym, ◌∙◌, arith}
use Rattle.base_model.proofs.Ranges.{length-written}
use Rattle.acceptance.proofs.turned.TurnedDiskDisk.write.Goals as goal

pub returns-clause-tears : goal.returns-clause-tears
returns-clause-tears c = λ d e same torn.
    ap length torn.holds ∙ length-written c.args.at torn.bytes d (omega (arith, c.requires, same, torn.count)) ∙ same ∙ sym (c.put.ensures ∙ c.count_call.ensures.size)

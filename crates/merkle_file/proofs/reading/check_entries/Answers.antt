use Rattle.merkle_file.proofs.Prelude.{◌≡◌, Result, Ok, Err, sym, ap, ◌∙◌, arith, FieldFault, found_fault}
use Rattle.std.proofs.Common.{Some}
use Rattle.std.specs.Result.{IsErrAnd}
use Rattle.merkle_file.proofs.Nodes.{entries_step, entries_stop}
use Rattle.merkle_file.proofs.reading.check_entries.Goals as goal

pub loop-index-preserved : goal.loop-index-preserved
loop-index-preserved c = record {
  same = rw c.split_at.ensures.back (sym (entries_step c.args.asked.now c.args.level c.args.count c.loop-index.index c.loop-index.at c.loop-index.before c.in_ok-length.length
      c.loop-index.rest.now c.loop-index-test.true (sym c.in_ok-length.ensures.fault) c.in_ok-length.ensures.length) ∙ c.loop-index.invariant.same);
  long = omega (arith, c.split_at.ensures.back_len, c.loop-index.invariant.long);
  place = omega arith;
  below = c.in_ok-length.ensures.below;
}

stopped : (r : Result (Unit {0}) FieldFault) (fault : FieldFault) → IsErrAnd r (λ f. f ≡ fault) → found_fault r ≡ Some fault
stopped (Ok x) fault e = absurd e
stopped (Err f) fault e = ap (λ (g : FieldFault). Some g) e

pub returns-in_err-length : goal.returns-in_err-length
returns-in_err-length c =
    let stop = entries_stop c.args.asked.now c.args.level c.args.count c.loop-index.index c.loop-index.at c.loop-index.before c.loop-index.rest.now c.in_err-length.field-0.0
    c.loop-index-test.true (sym c.in_err-length.ensures.fault) in
    stopped c.from_residual.result c.in_err-length.field-0.0 c.from_residual.ensures.1 ∙ sym stop ∙ c.loop-index.invariant.same

use Rattle.merkle_file.proofs.Prelude.{◌≡◌, Result, Ok, Err, refl, sym, ◌∙◌, ap, arith, OnOk, IsOk, FieldFault, contents_in, first_fault, found_fault}
use Rattle.std.proofs.Common.{Option, None}
use Rattle.merkle_file.proofs.Nodes.{node_takes, node_again}
use Rattle.merkle_file.proofs.reading.check.Goals as goal

on_ok : (r : Result (Unit {0}) FieldFault) (fault : Option FieldFault) (P : Type 0) → found_fault r ≡ fault → (fault ≡ None → P) → OnOk r P
on_ok (Ok x) fault P e h = h (sym e)
on_ok (Err f) fault P e h = tt

ok_since : (r : Result (Unit {0}) FieldFault) (fault : Option FieldFault) → found_fault r ≡ fault → fault ≡ None → IsOk r
ok_since (Ok x) fault e none = refl
ok_since (Err f) fault e none = absurd cc

pub returns-clause-found : goal.returns-clause-found
returns-clause-found c =
    on_ok c.check_fields.result (first_fault c.args.asked.now c.args.bytes.now) _ c.check_fields.ensures.fault (λ none.
    let read = node_takes c.args.asked.now c.args.bytes.now c.requires (λ i. omega (arith, c.type_inv.bytes i)) none in
    (read.spelled, read.node, read.within))

pub returns-clause-long : goal.returns-clause-long
returns-clause-long c =
    on_ok c.check_fields.result (first_fault c.args.asked.now c.args.bytes.now) _ c.check_fields.ensures.fault (λ none.
    (node_takes c.args.asked.now c.args.bytes.now c.requires (λ i. omega (arith, c.type_inv.bytes i)) none).long)

pub returns-clause-only : goal.returns-clause-only
returns-clause-only c = λ n right within e.
    let again = node_again c.args.asked.now n c.requires right within in (
      ok_since c.check_fields.result (first_fault c.args.asked.now c.args.bytes.now) c.check_fields.ensures.fault (ap (first_fault c.args.asked.now) e ∙ again.0),
      ap contents_in e
          ∙ again.1,
    )

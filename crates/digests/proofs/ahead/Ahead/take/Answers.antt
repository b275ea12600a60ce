use Rattle.std.proofs.Common.{ap, map, ◌∙◌}
use Rattle.sha2.specs.Sha256.{sha256}
use Rattle.digests.proofs.Taken.{all_taken}
use Rattle.digests.proofs.ahead.Ahead.take.Goals as goal

pub invariant_of-self-2 : goal.invariant_of-self-2
invariant_of-self-2 g c =
    let own = c.self.inside in
    all_taken (λ t. t.now) c.in_ok-texts.texts.items own.texts.all c.in_ok-self-inside.field-0.items c.in_ok-texts.ensures
    (c.in_ok-self-inside.ensures ∙ ap (map (λ t. sha256 t.now)) c.deref.ensures.value)

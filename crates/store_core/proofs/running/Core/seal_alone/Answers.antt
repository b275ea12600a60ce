use Rattle.store_core.proofs.Prelude.{refl}
use Rattle.store_core.proofs.Sealing.{index_has, made_seal, made_unsealed}
use Rattle.store_core.proofs.running.Core.seal_alone.Goals as goal

pub returns-in-Ok-clause-made : goal.returns-in-Ok-clause-made
returns-in-Ok-clause-made g c = λ bytes stop count.
    made_seal c.args.filled.now c.args.actor c.in-Ok.sealed bytes _ _ _ _ c.args.self.now.index refl c.requires.up.runs c.requires.asked.0 c.in-Ok.ensures.ok
    (index_has _ _ _ _ _ c.args.self.now.index _ c.in-Ok.ensures.ok.map refl refl refl refl)
    c.in-Ok.ensures.disk c.in-Ok.ensures.moves c.in-Ok.ensures.kept (λ served. c.in-Ok.ensures.served)

pub returns-in-Err-clause-made : goal.returns-in-Err-clause-made
returns-in-Err-clause-made g c = λ bytes stop count.
    made_unsealed c.args.filled.now c.args.actor c.in-Err.refusal bytes _ _ c.in-Err.ensures.refused c.in-Err.ensures.unchanged.0 c.in-Err.ensures.unchanged.1
    c.in-Err.ensures.map c.in-Err.ensures.disk c.in-Err.ensures.moves (λ served. c.in-Err.ensures.served)

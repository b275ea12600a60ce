use Rattle.store_core.proofs.Prelude.{refl}
use Rattle.store_core.proofs.Committing.{made_bytes}
use Rattle.store_core.proofs.running.Core.read_next.Goals as goal

pub returns-in-Some-clause-made : goal.returns-in-Some-clause-made
returns-in-Some-clause-made g c = λ stop count.
    made_bytes c.args.actor c.in-Some.count c.read_next.new.buf _ _ c.in-Ok.given c.in-Some.is c.in-Ok.ensures.next
    (λ root ahead held image segments is indexed sooner. c.in-Ok.ensures.held root ahead held image segments is indexed sooner)
    c.in-Ok.ensures.reads refl c.in-Ok.ensures.map (λ served. c.in-Ok.ensures.served)

use Rattle.container_meta.proofs.Prelude.{◌∙◌, arith}
use Rattle.container_meta.proofs.Found.{is_found}
use Rattle.container_meta.proofs.Digests.{digest_read}
use Rattle.container_meta.proofs.Again.{header_again}
use Rattle.container_meta.proofs.reading.decode_into.Goals as goal

pub returns-clause-found : goal.returns-clause-found
returns-clause-found c = is_found c.args.bytes.now c.header_into.result c.header_into.new.entries.items (λ i. omega (arith, c.type_inv.bytes i)) c.requires.length
    c.header_into.ensures.value

pub returns-clause-only : goal.returns-clause-only
returns-clause-only c = λ h spelled. c.header_into.ensures.value ∙ header_again c.args.bytes.now h c.requires.length spelled

pub returns-clause-digest : goal.returns-clause-digest
returns-clause-digest c = digest_read c.args.bytes.now c.header_into.new.entries.items c.header_into.result (returns-clause-found c) c.header_into.ensures.stored

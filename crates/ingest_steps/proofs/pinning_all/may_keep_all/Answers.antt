use Rattle.ingest_steps.proofs.Prelude.{◌∙◌, sym}
use Rattle.ingest_steps.proofs.pinning_all.may_keep_all.Goals as goal

pub returns-in-None-clause-may : goal.returns-in-None-clause-may
returns-in-None-clause-may c = record { pins = c.in-Writing.pins; writing = c.in-Writing.is; pinned = sym c.first_unpinned_of.ensures ∙ c.in-None.is }

pub returns-in-Some-clause-refused : goal.returns-in-Some-clause-refused
returns-in-Some-clause-refused c = (c.in-Writing.pins, c.in-Writing.is, sym c.first_unpinned_of.ensures ∙ c.in-Some.is)

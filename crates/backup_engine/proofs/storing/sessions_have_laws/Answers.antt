use Rattle.backup_engine.proofs.storing.sessions_have_laws.Goals as goal

pub returns : goal.returns
returns c = record {
  turns = c.steps_have_pieces.ensures.turns;
  claims = c.children_come_first.ensures.claims;
  seals = c.children_come_first.ensures.seals;
  counts = c.bytes_are_counted.ensures;
}

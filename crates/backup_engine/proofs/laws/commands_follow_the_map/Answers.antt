use Rattle.backup_engine.proofs.Lists.{by_the_map, promised, stands_empty, format_begins, leaves_possible, answers_by_the_map, runs_by_the_map, survives_a_crash}
use Rattle.backup_engine.proofs.laws.commands_follow_the_map.Goals as goal

pub returns-clause-promised : goal.returns-clause-promised
returns-clause-promised g c = promised _ g.D.Disk.view

pub returns-clause-begins : goal.returns-clause-begins
returns-clause-begins g c = stands_empty _ g.D.Disk.view

pub returns-clause-formatted : goal.returns-clause-formatted
returns-clause-formatted g c = format_begins _ g.D.Disk.view

pub returns-clause-left : goal.returns-clause-left
returns-clause-left g c = leaves_possible _ g.D.Disk.view (by_the_map _ g.D.Disk.view c.a_command_answers_by_the_map.ensures.list c.a_command_answers_by_the_map.ensures.restore
    c.a_command_answers_by_the_map.ensures.delete c.a_command_answers_by_the_map.ensures.ingest c.a_command_answers_by_the_map.ensures.collect)

pub returns-clause-answers : goal.returns-clause-answers
returns-clause-answers g c = answers_by_the_map _ g.D.Disk.view
    (by_the_map _ g.D.Disk.view c.a_command_answers_by_the_map.ensures.list c.a_command_answers_by_the_map.ensures.restore
    c.a_command_answers_by_the_map.ensures.delete c.a_command_answers_by_the_map.ensures.ingest c.a_command_answers_by_the_map.ensures.collect)

pub returns-clause-crash : goal.returns-clause-crash
returns-clause-crash g c = survives_a_crash _ g.D.Disk.view (by_the_map _ g.D.Disk.view c.a_command_answers_by_the_map.ensures.list c.a_command_answers_by_the_map.ensures.restore
    c.a_command_answers_by_the_map.ensures.delete c.a_command_answers_by_the_map.ensures.ingest c.a_command_answers_by_the_map.ensures.collect)

pub returns-clause-scripts : goal.returns-clause-scripts
returns-clause-scripts g c = runs_by_the_map _ g.D.Disk.view (by_the_map _ g.D.Disk.view c.a_command_answers_by_the_map.ensures.list c.a_command_answers_by_the_map.ensures.restore
    c.a_command_answers_by_the_map.ensures.delete c.a_command_answers_by_the_map.ensures.ingest c.a_command_answers_by_the_map.ensures.collect)

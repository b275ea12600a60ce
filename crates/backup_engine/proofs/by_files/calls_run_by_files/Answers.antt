use Rattle.backup_engine.proofs.by_files.calls_run_by_files.Goals as goal

pub returns : goal.returns
returns g c = record {
  opens = c.an_opened_core_is_at_a_desk.ensures;
  scripts = c.lines_are_file_runs.ensures.scripts;
  goes = c.lines_go_on.ensures;
  stands = c.a_core_is_the_machine_of_files.ensures.stands;
}

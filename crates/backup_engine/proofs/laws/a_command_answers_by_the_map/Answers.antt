use Rattle.backup_engine.proofs.CollectByMap.{collect_by_map}
use Rattle.backup_engine.proofs.IngestByMap.{ingest_by_map}
use Rattle.backup_engine.proofs.NamesByMap.{delete_by_map, list_by_map}
use Rattle.backup_engine.proofs.RestoreByMap.{restore_by_map}
use Rattle.backup_engine.proofs.laws.a_command_answers_by_the_map.Goals as goal

pub returns-clause-list : goal.returns-clause-list
returns-clause-list g c = list_by_map _ g.D.Disk.view c.a_list_tells_the_names.ensures.ended c.a_list_tells_the_names.ensures.through

pub returns-clause-restore : goal.returns-clause-restore
returns-clause-restore g c = restore_by_map _ g.D.Disk.view c.a_restore_gives_its_file.ensures.ended c.a_restore_gives_its_file.ensures.through

pub returns-clause-delete : goal.returns-clause-delete
returns-clause-delete g c = delete_by_map _ g.D.Disk.view c.a_delete_takes_its_name.ensures.ended c.a_delete_takes_its_name.ensures.through

pub returns-clause-ingest : goal.returns-clause-ingest
returns-clause-ingest g c = ingest_by_map _ g.D.Disk.view c.an_ingest_puts_its_file.ensures.ended c.an_ingest_puts_its_file.ensures.through

pub returns-clause-collect : goal.returns-clause-collect
returns-clause-collect g c = collect_by_map _ g.D.Disk.view c.a_collect_keeps_the_names.ensures.ended c.a_collect_keeps_the_names.ensures.through

use Rattle.backup_engine.proofs.Prelude.{[], ap, refl, Single, command_value}
use Rattle.backup_engine.proofs.TopCall.{does_as}
use Rattle.backup_engine.proofs.top_call.run_command.Goals as goal

pub returns-in-Format-clause-does : goal.returns-in-Format-clause-does
returns-in-Format-clause-does g c = does_as _ g.D.Disk.view (Single (command_value c.args.command.now)) _ (ap (λ x. Single (command_value x)) c.in-Format.is) [] [] _ _ _ _ _ _ _
    (c.format.ensures.keeps (g.S.Source.view c.args.source.now), refl)

pub returns-in-Ingest-clause-does : goal.returns-in-Ingest-clause-does
returns-in-Ingest-clause-does g c =
    let done = c.ingest.ensures.does in
    does_as _ g.D.Disk.view (Single (command_value c.args.command.now)) _ (ap (λ x. Single (command_value x)) c.in-Ingest.is) done.0 done.1.0 _ _ _ _ _ _ _ done.1.1

pub returns-in-Restore-clause-does : goal.returns-in-Restore-clause-does
returns-in-Restore-clause-does g c =
    let done = c.restore.ensures.does (g.S.Source.view c.args.source.now) in
    does_as _ g.D.Disk.view (Single (command_value c.args.command.now)) _ (ap (λ x. Single (command_value x)) c.in-Restore.is) [] done.0 _ _ _ _ _ _ _ done.1

pub returns-in-Delete-clause-does : goal.returns-in-Delete-clause-does
returns-in-Delete-clause-does g c =
    let done = c.delete.ensures.does (g.S.Source.view c.args.source.now) in
    does_as _ g.D.Disk.view (Single (command_value c.args.command.now)) _ (ap (λ x. Single (command_value x)) c.in-Delete.is) [] done.0 _ _ _ _ _ _ _ done.1

pub returns-in-List-clause-does : goal.returns-in-List-clause-does
returns-in-List-clause-does g c =
    let done = c.list.ensures.does (g.S.Source.view c.args.source.now) in
    does_as _ g.D.Disk.view (Single (command_value c.args.command.now)) _ (ap (λ x. Single (command_value x)) c.in-List.is) [] done.0 _ _ _ _ _ _ _ done.1

pub returns-in-Collect-clause-does : goal.returns-in-Collect-clause-does
returns-in-Collect-clause-does g c =
    let done = c.collect.ensures.does (g.S.Source.view c.args.source.now) in
    does_as _ g.D.Disk.view (Single (command_value c.args.command.now)) _ (ap (λ x. Single (command_value x)) c.in-Collect.is) [] done.0 _ _ _ _ _ _ _ done.1

-- What many proofs of this crate import, under one name each.
pub use Rattle.std.proofs.Common.{Bool, Err, IfOk, List, None, Ok, Option, Result, Some, ap, arith, false, if◌then◌else◌, inl, inr, length, length-append, min, refl, replicate, slice_set, subst, suc, sym, take, true, zero, ℕ, [], ◌++◌, ◌+◌, ◌-◌, ◌<◌, ◌==◌, ◌^◌, ◌∙◌, ◌∷◌, ◌≡◌, ◌≢◌, ◌≤◌, ◌⊎◌}
pub use Rattle.std.proofs.lemmas.Bool.{eqb-false, eqb-true}
pub use Rattle.std.proofs.lemmas.List.{get_or-replicate, get_or-set_other, get_or-set_same, length-replicate, length-set, set-get_or}
pub use Rattle.std.specs.List.{AllByRecursion}
pub use Rattle.std.specs.Prelude.{nat_lt, ◌&&◌}
pub use Rattle.actor_parts.specs.StepValue.{StepValue}
pub use Rattle.actor_parts.specs.declared.actor.TheConstants.{ACTORS}
pub use Rattle.actor_parts.specs.declared.step.Answer.{Answer}
pub use Rattle.base_model.specs.Bytes.{byte_at}
pub use Rattle.base_model.specs.Known.{KnownWith}
pub use Rattle.container_meta.specs.Places.{PlaceMap}
pub use Rattle.container_meta.specs.Segments.{Contents, KindSegment, Segment, segment_key}
pub use Rattle.container_meta.specs.Spelling.{HeaderValue}
pub use Rattle.container_meta.specs.declared.kind.Kind.{Kind}
pub use Rattle.container_meta.specs.declared.kind.Kind.TheVariants.{Leaf, Tree}
pub use Rattle.core_machine.specs.Bytes.{ChangesBytes, ClashesWith}
pub use Rattle.core_machine.specs.Files.{IsAtFiles}
pub use Rattle.core_machine.specs.Refines.{answered_by, asked_as}
pub use Rattle.dd_disk.proofs.Later.{later_here, later_on, leaves_on, leaves_weaker, reads_here, reads_leave}
pub use Rattle.dd_disk.specs.Shows.{Shows}
pub use Rattle.dd_disk.specs.View.{CrashLeaves, DiskView, IsLater, OnlyReads}
pub use Rattle.disk_format.specs.Cells.{Root}
pub use Rattle.disk_format.specs.Layout.{half_cells, slot_at}
pub use Rattle.disk_format.specs.declared.numbers.TheConstants.{MOST_FILE}
pub use Rattle.gc_steps.specs.declared.collection.Collection.{Collection}
pub use Rattle.ingest_session.proofs.Ends.{all_is_kept, bytes_are_counted}
pub use Rattle.ingest_session.proofs.Facts.{turns_are_pieces}
pub use Rattle.ingest_session.proofs.Members.{one_of}
pub use Rattle.ingest_session.specs.Calls.{IsPushAnswer}
pub use Rattle.ingest_session.specs.Due.{due_in, gathered, offered_in}
pub use Rattle.ingest_session.specs.DueFor.{IsDueFor}
pub use Rattle.ingest_session.specs.Facts.{kept}
pub use Rattle.ingest_session.specs.History.{HasHistory, History, answered, no_history, turn_of}
pub use Rattle.ingest_session.specs.Moving.{IsItem, IsOffered}
pub use Rattle.ingest_session.specs.State.{SessionState, turn_node}
pub use Rattle.ingest_session.specs.declared.due.Due.{Due}
pub use Rattle.ingest_session.specs.declared.due.Due.TheVariants.{Claim, Nothing, Seal}
pub use Rattle.merkle_file.specs.declared.top.Top.{Top}
pub use Rattle.recovery.specs.Room.{IsShort}
pub use Rattle.refusals.specs.declared.refusal.Difference.{Difference}
pub use Rattle.refusals.specs.declared.refusal.PartKind.{PartKind}
pub use Rattle.refusals.specs.declared.refusal.Phase.{Phase}
pub use Rattle.refusals.specs.declared.refusal.Refusal.{Refusal}
pub use Rattle.refusals.specs.declared.refusal.Refusal.TheVariants.{Memory}
pub use Rattle.script_lines.specs.Grammar.{LineValue, pushed_bytes}
pub use Rattle.script_lines.specs.LineValue.{line_value}
pub use Rattle.script_lines.specs.ReplyText.{reply_line}
pub use Rattle.script_lines.specs.ReplyValue.{ReplyValue}
pub use Rattle.script_runner.specs.Acts.{ActsOrNot, ActsReopen, BarsBy, CollectionRun, Collects, DoesStep, IsOfActor, IsReady, RefusesPut, RefusesReopen, RefusesStep, RunnerState, RunsLine, StepOf, Sweeps}
pub use Rattle.script_runner.specs.Complete.{IsHeldNode, IsLeft, IsUnblamed, MayReply}
pub use Rattle.script_runner.specs.Frame.{IsNoSweep, commands_of_line}
pub use Rattle.script_runner.specs.LinesAreFileRuns.{FileDesk}
pub use Rattle.script_runner.specs.LinesAreRuns.{Beside, IsSessionOf, SameSession, SameSessions, Traced, WritersGive}
pub use Rattle.script_runner.specs.Runner.{ActsWith, IsAcknowledged, Prints, Replies, runner_of}
pub use Rattle.script_runner.specs.Scripts.{AreOfActors, RunsLines}
pub use Rattle.script_runner.specs.Sessions.{Sessions, has_ended, kind_by, kind_in, with_session}
pub use Rattle.session_turns.proofs.Results.{by_error}
pub use Rattle.session_turns.proofs.TurnRuns.{turns_stay}
pub use Rattle.session_turns.specs.Owning.{HoldsKept, IsAskedFor, IsQuiet, Kept}
pub use Rattle.session_turns.specs.Turns.{Asks, Feeds, IsPaused, IsRefusedTurn, TakesTurn, TurnRun, TurnsStopped}
pub use Rattle.store_core.proofs.CoreRuns.{running_step}
pub use Rattle.gc_sweep.proofs.KeyLists.{both_so}
pub use Rattle.store_core.proofs.Opened.{new_runs}
pub use Rattle.store_core.proofs.Stepping.{step_later}
pub use Rattle.store_core.specs.Core.{BeginRow, CommitRow, CoreStep, DeleteRow, Effect, EndRow, StepsOr}
pub use Rattle.store_core.specs.Frame.{KeepsContainers, commands_in}
pub use Rattle.store_core.specs.Opening.{IsReadFrom, OpensCore, OpensNone, StaysOrStops}
pub use Rattle.store_core.specs.Runs.{AreNoGcSteps, CoreRun, FileEvent, FileStep, IsNoGcStep, IsRootOf}
pub use Rattle.store_core.specs.State.{CoreState, Event, IsRunning, IsUp, UnlessStopped}
pub use Rattle.store_core.specs.declared.stop.Stop.{Stop}
pub use Rattle.store_machine.proofs.Writers.{IsNoOpening}
pub use Rattle.store_machine.specs.Asked.{Asked}
pub use Rattle.store_machine.specs.ByMap.{FileMachine}
pub use Rattle.store_machine.specs.Commands.{Lines, Replied, ends, run_of}
pub use Rattle.store_machine.specs.Ingests.{HasSegment}
pub use Rattle.store_machine.specs.Legal.{Answers, ByState, Legal}
pub use Rattle.store_machine.specs.Lines.{AreDid, AreTurns, Desk, Ends, IsDueStep, Says, Session, all_none, reply_of, step_of, takes}
pub use Rattle.store_machine.specs.Machine.{Machine, RunState, Running, Stepped, Stopped, part_in}
pub use Rattle.store_machine.specs.Runs.{Run}
pub use Rattle.store_machine.specs.Values.{Values, of_files}
pub use Rattle.store_model.specs.Collisions.{ByteSet, HasNoCollisions}
pub use Rattle.store_model.specs.Image.{Encodes, Store}
pub use Rattle.store_model.specs.Pieces.{Data, HasPieceOf, IsPieceOf, Node, Piece}
pub use Rattle.store_model.specs.Trees.{leaf_key, node_key, root_of}
pub use Rattle.store_state.specs.Tables.{Represents}
pub use Rattle.store_state.specs.declared.slot_table.SlotTable.{SlotTable}
pub use Rattle.store_state.specs.declared.tables.Tables.{Tables}

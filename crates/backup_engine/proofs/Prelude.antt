-- What many proofs of this crate import, under one name each.
pub use Rattle.std.proofs.Common.{Bool, Err, IsTrue, List, None, Ok, Option, Result, Some, ap, ap₂, arith, codes, cond, drop, false, get_or, inl, inr, length, map, max, min, option_map, refl, rules, subst, suc, sym, take, take-append-drop, true, zero, ℕ, [], ◌++◌, ◌+◌, ◌-◌, ◌<◌, ◌==◌, ◌^◌, ◌||◌, ◌∙◌, ◌∷◌, ◌≡◌, ◌≢◌, ◌≤◌, ◌⊎◌}
pub use Rattle.std.proofs.lemmas.Bool.{eqb-true, ltb-false, ltb-true}
pub use Rattle.std.proofs.lemmas.List.{length-replicate}
pub use Rattle.std.proofs.lemmas.List.Elements.{Contains-append_left, Contains-append_right, Contains-get_or}
pub use Rattle.std.proofs.lemmas.Result.{IfOk-weaker}
pub use Rattle.std.proofs.lemmas.Slice.Eq.{bytes_eq-Decides}
pub use Rattle.std.specs.Borrow.{MutBor}
pub use Rattle.std.specs.List.{AllByRecursion, concat, flat_map}
pub use Rattle.std.specs.Prelude.{Contains, IsSome, nat_lt, slice_get, slice_index_or}
pub use Rattle.std.specs.Result.{IsErrAnd, is_err}
pub use Rattle.std.specs.Str.{IsUtf8, bytes_eq, chars}
pub use Rattle.actor_parts.proofs.Apart.{apart}
pub use Rattle.actor_parts.specs.Parts.{with_part}
pub use Rattle.actor_parts.specs.PinMap.{PinMap, has_pin}
pub use Rattle.actor_parts.specs.Segments.{IsStepSegment, KeyPin, children_by, children_of, pin_of}
pub use Rattle.actor_parts.specs.StepValue.{IsStep, StepValue}
pub use Rattle.actor_parts.specs.declared.actor.TheConstants.{ACTORS}
pub use Rattle.actor_parts.specs.declared.part.Part.TheVariants.{Idle, Writing}
pub use Rattle.actor_parts.specs.declared.step.Answer.{Answer}
pub use Rattle.store_machine.specs.Storing.{AddsOnce}
pub use Rattle.backup_engine.specs.AnyDisk.{EndsDurable, FindsBeforeWriting, FindsNames, Formats, GivesBack, HasAdded, HasSwept, Holds, IsCaused, IsDeleted, IsStored, IsUnlikeNode, IsUnmarked, IsUnwritten, OnAnyDisk, ReadsSince, ShownSince, ShownThere, Took, WroteOnAny, disk_ending, room_in}
pub use Rattle.backup_engine.specs.ByFiles.{CutsAmong, FailsAlone, RefusedByFiles, RunsByFiles, RunsEachByFiles}
pub use Rattle.backup_engine.specs.CallsByFiles.{CallsRunByFiles}
pub use Rattle.backup_engine.specs.Collected.{collected_line}
pub use Rattle.store_machine.specs.CollectsByNeed.{FreesUpTo, written_in}
pub use Rattle.backup_engine.specs.Collecting.{CollectRun, WritesCollected}
pub use Rattle.backup_engine.specs.Feeding.{Fills, IsFed, MayBe, SessionLaws, Stops, opens_of}
pub use Rattle.backup_engine.specs.Frame.{KeepsOthers, KeepsRest, LiesBeside, MayFill, SameButSlotsOf}
pub use Rattle.backup_engine.proofs.SoFar.{GivenSoFar, bytes_to_come}
pub use Rattle.backup_engine.specs.Line.{Check, Collect, CommandLine, Format, Ingest, Restore, Single, TableLine, Work, alone_line, arguments_of, is_number, is_separator}
pub use Rattle.backup_engine.specs.LineValue.{command_value}
pub use Rattle.backup_engine.specs.Lines.{lines_of, printed}
pub use Rattle.backup_engine.specs.Lists.{Call}
pub use Rattle.backup_engine.specs.Naming.{DeleteRun, ListRun, WritesNames}
pub use Rattle.backup_engine.specs.Noted.{status_by}
pub use Rattle.backup_engine.specs.Causes.{HasNoRoomForName, HasTwins, IsPiece, LacksNumbers, RefusesIngest, Room}
pub use Rattle.backup_engine.specs.Promise.{LeavesMeanwhile, MayChange, SinceStart, WroteReply}
pub use Rattle.backup_engine.specs.Putting.{AreKept, AreNew, Way, length_in}
pub use Rattle.backup_engine.specs.Reopening.{HasNoRoom}
pub use Rattle.backup_engine.specs.Running.{AreWhole, EndsGiving, EndsPut, GiveRun, HoldsPieces, IsAskedFor, IsDoneBefore, IsFresh, IsGiven, IsGivenOut, IsLastPut, IsNoCommit, IsNotOpened, IsOk, IsOneOf, IsPutRefusal, IsPutStep, IsRead, IsWholeAt, PutRun, WroteGiven, WroteLast, seal_by, seals_of}
pub use Rattle.backup_engine.specs.Saying.{AsksPut, RunsSingle, SaysAll, SaysEnd, SaysPushed, giving, no_sessions}
pub use Rattle.backup_engine.specs.Script.{IsScriptEnd, KeepsScript, StopsAtReopen, WroteReplies}
pub use Rattle.backup_engine.specs.ScriptRuns.{EndsReopening, ScriptRun}
pub use Rattle.backup_engine.proofs.SoFar.{ScriptSoFar}
pub use Rattle.backup_engine.specs.Singles.{Digits, IsCollect, IsDelete, IsFirstOf, IsIngest, IsListing, IsRestore, Speaks, SpeaksAs, StoresFile, TakenSoFar, collecting, finish_lines, next_lines, push_lines, pushed, refused, said}
pub use Rattle.backup_engine.specs.Storing.{IngestRun, IsHeard, IsReadOut, IsSourceFault, Replies}
pub use Rattle.backup_engine.specs.TopCall.{Does, DoesCommand, IsLeftBlank, IsSameDisk, IsUntouched, Keeps, Promise, RunsScript, ending_in}
pub use Rattle.backup_engine.specs.Words.{line_matched, one_argument, table_app}
pub use Rattle.base_model.specs.Bytes.{byte_at, key_of, range}
pub use Rattle.base_model.specs.Fault.{Rose}
pub use Rattle.base_model.specs.Frames.{SameOutside}
pub use Rattle.base_model.specs.Known.{Appended, Known, KnownWith}
pub use Rattle.clap.specs.Kinds.{Kinds}
pub use Rattle.clap.specs.Lexer.{long_of, short_of}
pub use Rattle.clap.specs.Simple.{Shape}
pub use Rattle.clap.specs.Walk.{first_of, nothing_held, rows_after}
pub use Rattle.clap.specs.Words.{App, app_of}
pub use Rattle.container_meta.specs.Format.{kind_byte}
pub use Rattle.container_meta.specs.Places.{PlaceMap}
pub use Rattle.container_meta.specs.Segments.{KindSegment, Segment, entries_from, segment_key}
pub use Rattle.container_meta.specs.Spelling.{HeaderValue, header_of}
pub use Rattle.container_meta.specs.declared.entry.Entry.{Entry}
pub use Rattle.container_meta.specs.declared.kind.Kind.{Kind}
pub use Rattle.container_meta.specs.declared.kind.Kind.TheVariants.{Leaf, Tree}
pub use Rattle.container_meta.specs.declared.place.Place.{Place}
pub use Rattle.core_machine.proofs.Unopened.{files_begin}
pub use Rattle.core_machine.specs.FileOpenings.{FilesUnopened}
pub use Rattle.core_machine.specs.Files.{IsOfFound, MayStand, stored_in}
pub use Rattle.core_machine.specs.Unopened.{unopened}
pub use Rattle.dd_disk.proofs.Ended.{counts_on, reads_refused}
pub use Rattle.dd_disk.proofs.Later.{durable_reads, later_here, later_on, leaves_on, leaves_weaker, reads_here}
pub use Rattle.dd_disk.proofs.Moves.{stands_reads, stands_weaker}
pub use Rattle.dd_disk.proofs.Shows.{shown_content, since, until}
pub use Rattle.dd_disk.specs.Ending.{CountsFault, Reads, Refused as NoFault, ending, ending_of}
pub use Rattle.dd_disk.specs.Moves.{StandsFor}
pub use Rattle.dd_disk.specs.Shows.{Shows}
pub use Rattle.dd_disk.specs.View.{CrashLeaves, DiskView, IsDurable, IsLater, OnlyReads, SteppedFrom}
pub use Rattle.dd_disk.specs.Writes.{Both}
pub use Rattle.dd_io.specs.Flow.{AppendedPart, Sends, SinkView, SourceView, Takes}
pub use Rattle.disk_format.specs.Cells.{IsName, Root}
pub use Rattle.disk_format.specs.Cells.Change.{Delete as Gone, Put}
pub use Rattle.disk_format.specs.Layout.{cell_at, half_cells, size_of, slot_at}
pub use Rattle.disk_format.specs.declared.numbers.TheConstants.{CELL_BYTES, FORMAT_GATE, LAST_ID, MOST_FILE, RESERVE, SLOT_BYTES}
pub use Rattle.disk_format.specs.declared.why.Why.{Why}
pub use Rattle.gc_enumerate.specs.Scanning.{IsScanFault}
pub use Rattle.gc_steps.proofs.FirstStage.{id_below}
pub use Rattle.gc_steps.proofs.UnderWay.{at_stage}
pub use Rattle.gc_steps.specs.Finding.{HasMarkedAll}
pub use Rattle.gc_steps.specs.Stages.{filter_at, is_old_slot}
pub use Rattle.gc_steps.specs.Stepping.{Moment, StepsTo, Touches, phase_at}
pub use Rattle.gc_steps.specs.UnderWay.{HasStage, IsUnderWay}
pub use Rattle.gc_steps.specs.declared.collection.Collection.{Collection}
pub use Rattle.gc_steps.specs.declared.collection.Stage.{Stage}
pub use Rattle.gc_steps.specs.declared.collection.Stage.TheVariants.{Filter, Mark, Select, Sweep as SweepStage}
pub use Rattle.gc_sweep.proofs.KeyLists.{both_so, each_so}
pub use Rattle.gc_sweep.proofs.InSlots.{of_each}
pub use Rattle.gc_sweep.specs.UnderWay.{HasNext}
pub use Rattle.gc_sweep.specs.declared.sweep.Next.TheVariants.{End, Flush, Release}
pub use Rattle.hex.specs.Hex.{IsBytes}
pub use Rattle.ingest_session.proofs.KeptPieces.{item_is, one_item}
pub use Rattle.ingest_session.proofs.Members.{all_map, all_of, all_then, in_left, in_right, one_of}
pub use Rattle.ingest_session.specs.Calls.{IsEnding, IsFinishAnswer}
pub use Rattle.ingest_session.specs.Due.{due_in, item_kind, open_of}
pub use Rattle.ingest_session.specs.Facts.{BytesAreCounted}
pub use Rattle.ingest_session.specs.History.{HasHistory, History, IsBegun, answered, item_if, no_history, waiting}
pub use Rattle.ingest_session.specs.Items.{item_of}
pub use Rattle.ingest_session.specs.Moving.{IsItem}
pub use Rattle.ingest_session.specs.State.{SessionState, turn_node}
pub use Rattle.ingest_session.specs.Told.{told_by}
pub use Rattle.ingest_session.specs.declared.due.Due.{Due}
pub use Rattle.ingest_session.specs.declared.due.Due.TheVariants.{Claim, Seal}
pub use Rattle.ingest_steps.specs.Claiming.{key_of_seg}
pub use Rattle.ingest_steps.specs.Naming.{ChangesBytes, StandsStill}
pub use Rattle.ingest_steps.specs.Pinning.{first_unpinned_of, with_pins}
pub use Rattle.ingest_steps.specs.Recording.{SameButRecordBy}
pub use Rattle.ingest_steps.specs.Sealing.{ChangesSlotAlone, SameButSlotOf}
pub use Rattle.journal_cells.specs.Journal.{JournalValue}
pub use Rattle.merkle_file.specs.Node.{node_digest, spelling}
pub use Rattle.merkle_file.specs.declared.top.Top.{Top}
pub use Rattle.namespace.specs.Listing.{NamedRoot}
pub use Rattle.namespace.specs.Names.{NameMap}
pub use Rattle.read_steps.proofs.Visited.{roots_wider, visits_wider}
pub use Rattle.read_steps.specs.Readers.{reading}
pub use Rattle.read_steps.specs.Visiting.{HasPlace, IsVisitRefusal}
pub use Rattle.read_steps.specs.Walking.{IsNextRefusal, IsTopRefusal, WasRead, top_key}
pub use Rattle.recovery.specs.Formatting.{IsFormatRefusal}
pub use Rattle.recovery.specs.Opening.{IsOpenRefusal}
pub use Rattle.recovery.specs.Room.{IsNotFull, IsRoomRefusal, IsShort, RoomMade, RoomUnmade}
pub use Rattle.refusals.specs.declared.refusal.Difference.TheVariants.{Byte, Length}
pub use Rattle.refusals.specs.declared.refusal.Phase.{Phase}
pub use Rattle.refusals.specs.declared.refusal.Refusal.{Refusal}
pub use Rattle.refusals.specs.declared.refusal.Refusal.TheVariants.{AlreadyStore, BadName, Clash, Corrupt, Damaged, DiskRead, DiskWrite, Full, Memory, Missing, NoFile, NotAStore, Numbers, TooLong, Version, WrongPart, WrongSize}
pub use Rattle.reply_text.specs.Text.{deleted_line, formatted_line, listing_text, stored_line}
pub use Rattle.reply_text.specs.declared.ending.Ending.TheVariants.{Refused, Script, Sink, Words}
pub use Rattle.script_lines.specs.Grammar.{IsLine, LineValue, pushed_bytes}
pub use Rattle.script_lines.specs.Reader.{HasRead, ReaderState, ReadsTellScripts, fresh_reader}
pub use Rattle.script_lines.specs.ReplyText.{reply_line}
pub use Rattle.script_lines.specs.ReplyValue.{ReplyValue}
pub use Rattle.script_lines.specs.Script.{number_after}
pub use Rattle.script_lines.specs.declared.script.TheConstants.{MOST_SCRIPT}
pub use Rattle.script_runner.proofs.DeskRuns.{passes_later}
pub use Rattle.script_runner.specs.Acts.{Admits, CollectionRun, Collects, DoesStep, IsOfActor, IsReady, Lists, RefusesPut, RefusesStep, RunnerState, RunsLine, Sweeps}
pub use Rattle.script_runner.specs.LinesAreFileRuns.{FileDesk, IsCutAt, IsCutBy}
pub use Rattle.script_runner.specs.LinesAreRuns.{Passes}
pub use Rattle.script_runner.specs.Runner.{Sent, runner_of}
pub use Rattle.script_runner.specs.Scripts.{AreOfActors, RunsLines}
pub use Rattle.script_runner.specs.Sessions.{kind_in}
pub use Rattle.segment_index.specs.Changes.{Changes, SameBefore}
pub use Rattle.session_turns.specs.Turns.{Asks, Feeds, TakesTurns, TurnRun, TurnsStopped}
pub use Rattle.sha2.specs.Sha256.{sha256}
pub use Rattle.store_core.proofs.KeepingSegments.{all_two}
pub use Rattle.store_core.proofs.GcSteps.{end_reads}
pub use Rattle.store_core.proofs.KeepingFiles.{file_step}
pub use Rattle.store_core.proofs.RunningOn.{step_runs}
pub use Rattle.store_core.proofs.SafeSteps.{alone}
pub use Rattle.store_core.proofs.Stepping.{step_later}
pub use Rattle.store_core.specs.Collecting.{GcRow, GoesOn, IsNotMade, StartRow, TouchesBy, at_moment}
pub use Rattle.store_core.specs.Core.{ChangesTo, CoreStep, Effect, IndexesAll, KeepsTables, Makes, NamesOne, OpenRow, ReadRow, Rests, Steps, StepsOr, StopsAfter, next_id}
pub use Rattle.store_core.specs.Frame.{HadContainer}
pub use Rattle.store_core.specs.Keeping.{kept_by, kept_of}
pub use Rattle.store_core.specs.Opening.{IsGivenUp, IsNew, IsNotRead, IsReadFrom, OpensCore, OpensNone}
pub use Rattle.store_core.specs.Releases.{SweepsSpare, copied_in, freed_in}
pub use Rattle.store_core.specs.Runs.{AreNoGcSteps, CoreRun, FileEvent, FileRun, FileStep, IsAt, IsNoGcStep, IsRootOf, changes_by, changes_of, events_of, given_to, stored_after, stored_by, stored_with}
pub use Rattle.store_core.specs.State.{CoreState, Event, IsRunning, IsUp, UnlessStopped}
pub use Rattle.store_core.specs.declared.stop.Stop.{Stop}
pub use Rattle.store_machine.specs.ByMap.{FileMachine, ListsThrough, MakesRoom, RunsWith}
pub use Rattle.store_machine.specs.Commands.{AllFollow, EndsWith, Follows, Lines, Replied, desk, run_of, run_on}
pub use Rattle.store_machine.specs.Lines.{Session, actor_of, reply_of}
pub use Rattle.store_machine.specs.Machine.{Found, RunState, Running, Stepped}
pub use Rattle.store_machine.specs.Opening.{MayBeFound}
pub use Rattle.store_machine.specs.Values.{of_files}
pub use Rattle.store_model.proofs.Copies.{some_same}
pub use Rattle.store_model.proofs.Free.{first_closed, some_free}
pub use Rattle.store_model.proofs.Freed.{there_before}
pub use Rattle.store_model.proofs.Journaled.{has_journal, has_kept}
pub use Rattle.store_model.proofs.Lookups.{lacks}
pub use Rattle.store_model.proofs.NewestSealed.{entry_copy, newest_of_entries}
pub use Rattle.store_model.proofs.Once.{store_once}
pub use Rattle.store_model.specs.Collisions.{ByteSet, HasNoCollisions, IsIn, IsOf, OpensAs}
pub use Rattle.store_model.specs.Files.{Stored, with_stored}
pub use Rattle.store_model.specs.Freeing.{FreesTo, HasNoGate, with_all_freed, with_freed}
pub use Rattle.store_model.specs.Image.{Encodes, IsValidFor, Store}
pub use Rattle.store_model.specs.Pieces.{Data, HasPieceOf, IsPieceOf, Node, Piece, piece_bytes, piece_key, piece_segment}
pub use Rattle.store_model.specs.Refusals.{WereFound}
pub use Rattle.store_model.specs.Reserve.{IsReachable, IsSpare}
pub use Rattle.store_model.specs.Slots.{HasFree, HasKey, HoldsSlot, IsIndexOf, IsPartialIndexOf, first_free, free_slots, ids_of, last_id, newest, place_of, with_slot, without_slot}
pub use Rattle.store_model.specs.Standing.{HasJournal, IsSegmentOf, IsStoreOf}
pub use Rattle.store_model.specs.Steps.{CanChangeName, ChangeName, FlushContainer, FreeContainer, SealContainer, StoreChange, with_change, with_sealed}
pub use Rattle.store_model.specs.Trees.{bytes_at, leaf_key, node_key, root_of}
pub use Rattle.store_state.specs.Comparing.{IsNodeRefusal, IsUnlike}
pub use Rattle.store_state.specs.Refused.{blames, fails}
pub use Rattle.store_state.specs.Tables.{OfEach, Represents, Runs}
pub use Rattle.store_state.specs.declared.slot_table.SlotTable.{SlotTable}
pub use Rattle.store_state.specs.declared.tables.Tables.{Tables}

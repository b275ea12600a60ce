-- What many proofs of this crate import, under one name each.
pub use Rattle.std.proofs.Common.{Bool, Err, List, None, Ok, Option, Result, Some, ap, append_assoc, arith, cond, drop, false, inl, inr, length, not, option_map, refl, replicate, slice_set, subst, suc, sym, take, true, zero, ℕ, [], ◌*◌, ◌++◌, ◌+◌, ◌-◌, ◌<◌, ◌||◌, ◌↔◌, ◌∙◌, ◌∷◌, ◌≡◌, ◌≢◌, ◌≤◌, ◌⊎◌}
pub use Rattle.std.proofs.lemmas.Bool.{eq-eqb, eqb-false, eqb-true, le-ltb, leb-true, lt-ltb, ltb-true}
pub use Rattle.std.proofs.lemmas.List.{get_or-set_other, length-map}
pub use Rattle.std.proofs.lemmas.List.Elements.{Contains-append_cases, Contains-append_left, Contains-append_right, Contains-get_or}
pub use Rattle.std.proofs.lemmas.Slice.Eq.{bytes_eq-Decides}
pub use Rattle.std.specs.Cmp.Lexicographic.{nat_list_cmp_total}
pub use Rattle.std.specs.List.{AllByRecursion}
pub use Rattle.std.specs.Ordering.{eq_by_cmp}
pub use Rattle.std.specs.Prelude.{nat_le, slice_get, ◌==◌}
pub use Rattle.std.specs.Str.{bytes_eq}
pub use Rattle.actor_parts.proofs.Apart.{apart}
pub use Rattle.actor_parts.specs.PinMap.{PinMap}
pub use Rattle.actor_parts.specs.Segments.{children_by, pin_by, pin_of}
pub use Rattle.actor_parts.specs.StepValue.{IsStep, StepValue}
pub use Rattle.actor_parts.specs.declared.actor.TheConstants.{ACTORS}
pub use Rattle.actor_parts.specs.declared.part.Reader.{Reader}
pub use Rattle.actor_parts.specs.declared.step.Answer.{Answer}
pub use Rattle.base_model.specs.Bytes.{key_of}
pub use Rattle.base_model.specs.Frames.{SameOutside}
pub use Rattle.base_model.specs.Known.{Known, KnownWith}
pub use Rattle.container_meta.specs.Format.{kind_byte}
pub use Rattle.container_meta.specs.Places.{PlaceMap}
pub use Rattle.container_meta.specs.Segments.{KindSegment, Segment, entries_from, has_key, segment_at, segment_key}
pub use Rattle.container_meta.specs.Spelling.{Follow, HeaderValue, header_of}
pub use Rattle.container_meta.specs.declared.entry.Entry.{Entry}
pub use Rattle.container_meta.specs.declared.kind.Kind.{Kind}
pub use Rattle.container_meta.specs.declared.place.Place.{Place}
pub use Rattle.copy_forward.specs.Entries.{without_keys}
pub use Rattle.copy_forward.specs.Planning.{IsPlan, Planned, Source, TakesOne, planned, source_of}
pub use Rattle.copy_forward.specs.declared.plan.Plan.{Plan}
pub use Rattle.core_machine.specs.Bytes.{AllHeld, BytesOf, ChangesBytes, Holds, OnlyGates, SameButRecord, SameButSlot, SameStore}
pub use Rattle.core_machine.specs.Collections.{HasCopied, SameCollection, SameRun, SameStage, SameSweep, ids_at}
pub use Rattle.core_machine.specs.Files.{FitsBy, IsAtFiles, IsFileMachine, IsOfFile, IsOfFound, IsOfPassed, MayStand, ReadsFiles, StandsFor, stored_in}
pub use Rattle.core_machine.specs.Lives.{IsBelowLive, IsClosedAt, IsLiveAtStage, LivesJust}
pub use Rattle.core_machine.specs.Openings.{stores_freed, stores_left}
pub use Rattle.core_machine.specs.Refines.{Follows, FollowsPhase, HasIndex, IsMachine, SameStop, TellsForgotten, answered_by, asked_as, asked_by}
pub use Rattle.core_machine.specs.Sweeping.{ForgetsBy, MovesAs, NamesGc, NamesStep, changes_of, dead_in, stores_of}
pub use Rattle.core_machine.specs.Written.{IsWritten, WroteOnce}
pub use Rattle.dd_disk.proofs.Later.{leaves_on, leaves_weaker, reads_leave}
pub use Rattle.dd_disk.proofs.Shows.{shown_content}
pub use Rattle.dd_disk.specs.Ending.{Broken, Ending, ending_of}
pub use Rattle.dd_disk.specs.Shows.{Shows}
pub use Rattle.dd_disk.specs.View.{CrashLeaves, DiskView, IsLater, OnlyReads}
pub use Rattle.dd_disk.specs.Writes.{Both}
pub use Rattle.disk_format.specs.Cells.{Change, Root}
pub use Rattle.disk_format.specs.Cells.Change.{Delete as Gone, Put}
pub use Rattle.disk_format.specs.Layout.{half_cells, slot_at}
pub use Rattle.disk_format.specs.declared.numbers.TheConstants.{LAST_ID, MOST_FILE, MOST_LEVEL, RESERVE, SLOT_BYTES}
pub use Rattle.gc_enumerate.specs.Live.{IsLiveAt, LiveKeys}
pub use Rattle.gc_enumerate.specs.Scanning.{child_keys}
pub use Rattle.gc_select.specs.declared.liveness.ContainerLiveness.{ContainerLiveness}
pub use Rattle.gc_steps.proofs.CopiedOn.{GoesWell}
pub use Rattle.gc_steps.proofs.Marked.{contains_first, contains_none, keys_there}
pub use Rattle.gc_steps.proofs.RootTrees.{root_there}
pub use Rattle.gc_steps.proofs.Sparing.{held_at}
pub use Rattle.gc_steps.proofs.Started.{root_whole}
pub use Rattle.gc_steps.proofs.StepSafe.{IsStoreAfter}
pub use Rattle.gc_steps.proofs.UnderWay.{at_stage}
pub use Rattle.gc_steps.specs.Filtering.{recorded}
pub use Rattle.gc_steps.specs.LiveTrees.{HoldsNode}
pub use Rattle.gc_steps.specs.Marking.{KeepsMarks}
pub use Rattle.gc_steps.specs.Roots.{IsPartKey, IsRoot}
pub use Rattle.gc_steps.specs.Safety.{IsSafe, IsSafeAt}
pub use Rattle.gc_steps.specs.Sparing.{IsWithin}
pub use Rattle.gc_steps.specs.Stages.{filter_at, first_slot, is_old_slot, is_tree_slot, mark_from, mark_level}
pub use Rattle.gc_steps.specs.Stepping.{IsStepRefusal, Moment, StepsTo as CoreStepsTo, SweepsOn, TablesAfter, Touches, answer_at, moment, phase_at}
pub use Rattle.gc_steps.specs.StepsToCome.{trees_from}
pub use Rattle.gc_steps.specs.SweepIsSafe.{HoldsAt, SweepIsSafe}
pub use Rattle.gc_steps.specs.UnderWay.{HasStage, IsUnderWay}
pub use Rattle.gc_steps.specs.declared.collection.Collection.{Collection as CoreCollection}
pub use Rattle.gc_steps.specs.declared.collection.Stage.{Stage as CoreStage}
pub use Rattle.gc_steps.specs.declared.collection.Stage.TheVariants.{Filter, Mark, Select}
pub use Rattle.gc_steps.specs.declared.phase.StepDone.TheVariants.{Did}
pub use Rattle.gc_sweep.proofs.InSlots.{id_at, live_anywhere, old_id}
pub use Rattle.gc_sweep.proofs.KeyLists.{keys_append}
pub use Rattle.gc_sweep.proofs.Taken.{old_not_zero}
pub use Rattle.gc_sweep.specs.Copying.{CopiesSource, EndsBy, IsFilling, TakesBy}
pub use Rattle.gc_sweep.specs.Holding.{HoldsSweep, IsLive, SourcesStand}
pub use Rattle.gc_sweep.specs.UnderWay.{HasNext, IsSweeping, IsTaken, entry_in, is_old, sources_before}
pub use Rattle.gc_sweep.specs.declared.sweep.Next.{Next}
pub use Rattle.gc_sweep.specs.declared.sweep.Next.TheVariants.{End, Flush, Release}
pub use Rattle.gc_sweep.specs.declared.sweep.Sweep.{Sweep as CoreSweep}
pub use Rattle.ingest_steps.specs.Sealing.{SameButSlotOf}
pub use Rattle.merkle_file.specs.Reading.{contents_in}
pub use Rattle.merkle_file.specs.Tree.{of_segment}
pub use Rattle.merkle_file.specs.Walk.{IsTree, segments_in}
pub use Rattle.merkle_file.specs.declared.top.Top.{Top}
pub use Rattle.namespace.specs.Names.{NameMap}
pub use Rattle.namespace.specs.declared.record.Named.{Named}
pub use Rattle.read_steps.proofs.Openings.{segments_on}
pub use Rattle.read_steps.specs.Walking.{SegmentsAhead}
pub use Rattle.recovery.specs.Room.{RoomMade, RoomUnmade}
pub use Rattle.refusals.specs.declared.refusal.Phase.{Phase}
pub use Rattle.refusals.specs.declared.refusal.Refusal.{Refusal}
pub use Rattle.segment_index.specs.Changes.{SameBefore}
pub use Rattle.store_core.proofs.AtStore.{AtStore}
pub use Rattle.store_core.proofs.CopiesOnce.{listed_of}
pub use Rattle.store_core.proofs.CoreRuns.{running_step}
pub use Rattle.store_core.proofs.Crashes.{last_at, opens_at}
pub use Rattle.store_core.proofs.Damage.{IsHarmless, MayClash, never_damaged}
pub use Rattle.gc_steps.proofs.SealedPins.{there_now}
pub use Rattle.store_core.proofs.GcSteps.{phase_of}
pub use Rattle.store_core.proofs.KeepingFiles.{NextOn}
pub use Rattle.store_core.proofs.KeepingSegments.{data_level, stays_settled}
pub use Rattle.store_core.proofs.Leading.{Leads}
pub use Rattle.store_core.proofs.Marks.{contains_one}
pub use Rattle.store_core.proofs.OwnParts.{all_part}
pub use Rattle.store_core.proofs.RunningOn.{step_runs}
pub use Rattle.store_core.proofs.AtStore.{led_to, same_some}
pub use Rattle.store_core.proofs.Stepping.{step_later}
pub use Rattle.store_core.specs.Collecting.{Collects, GcEffect, GcRow, GoesOn as CoreGoesOn, IsKeptKey, IsNotMade, MarksIn, StartRow, TouchesBy, at_moment}
pub use Rattle.store_core.specs.Core.{AbortRow, AnswersStopped, BeginRow, ChangesTo, ClaimRow, CommitRow, DeleteRow, Effect, EndRow, ListRow, NamesOne, OpenRow, ReadRow, Rests, Row, SealRow, SealsSome, StatRow, Steps, StepsOr, StopsAfter, UniqueRow, counted, next_id}
pub use Rattle.store_core.specs.Opening.{IsReadFrom, OpensCore, OpensNone, WritesUnread}
pub use Rattle.store_core.specs.Runs.{FileEvent, FileStep, IsAt, IsGivenRight, IsNoGcStep, IsSafeIn, changes_by, stored_by, stored_with}
pub use Rattle.store_core.specs.State.{CoreState, Event, IsRunning, IsUnderWayIn, IsUp, UnlessStopped}
pub use Rattle.store_core.specs.declared.stop.Stop.{Stop}
pub use Rattle.store_machine.proofs.Parts.{FilePart}
pub use Rattle.store_machine.proofs.SameNames.{len_changed, order}
pub use Rattle.store_machine.proofs.Swept.{freed_more, none_in, written_more}
pub use Rattle.store_machine.specs.Asked.{Asked}
pub use Rattle.store_machine.specs.ByMap.{FileMachine}
pub use Rattle.store_machine.specs.Collecting.{DoesNotFit, Gathered, GoesOver, IsCollecting, IsCopyOf, IsRecordOf, Makes, MayBreak, StandIn, Went, freed_in, ids_before, keys_written, marking, marks_of, next_by, next_of, phase_by, phase_in, sources_in, stores_without_some, swept_by}
pub use Rattle.store_machine.specs.Forgetting.{SameNow, SameState, asked_of, forget_collection, forget_step}
pub use Rattle.store_machine.specs.Legal.{Answers, ByState, IsAtRightPart, Legal, LegalBy, Refuses, RefusesClaim, RefusesCommit, RefusesDelete, RefusesGcStep, RefusesOn, RefusesSeal, RefusesUnique, broken_by, with_name, without_name}
pub use Rattle.store_machine.specs.Machine.{Collection as MachineCollection, Found, Machine, Marking, Reading, Recording, RunState, Running, Stopped, Sweeping, all_idle, keeping, part_in, put_at, stopped}
pub use Rattle.store_machine.specs.Needs.{CollectionNeeds, HasCopy, IsLacked, NamesNeed, NeededSince, OneNeeds, forgotten_beside, keys_kept, values_read}
pub use Rattle.store_machine.specs.Opening.{IsGivenBack, IsNamedBy, MayBeFound, MayRefuseOpening, freeing}
pub use Rattle.store_machine.specs.Remembering.{Adds, AddsBy, AddsToAnswer, IsReady, RootMachine}
pub use Rattle.store_machine.specs.Runs.{Run}
pub use Rattle.store_machine.specs.Values.{StaysAt, of_files, of_roots}
pub use Rattle.store_model.proofs.Copies.{some_same}
pub use Rattle.store_model.proofs.Counted.{contained, in_set, tree_on}
pub use Rattle.store_model.proofs.Free.{as_many, first_closed, some_free}
pub use Rattle.store_model.proofs.HeldTrees.{all_first, all_second}
pub use Rattle.store_model.proofs.Once.{store_once}
pub use Rattle.store_model.proofs.Roots.{length_of_copy}
pub use Rattle.store_model.proofs.SameFiles.{FitsFile, files_fit}
pub use Rattle.store_model.proofs.Unfolding.{right_file, root_of_tree}
pub use Rattle.store_model.proofs.Valid.{free_sealed}
pub use Rattle.store_model.specs.Collisions.{ByteSet, HasNoCollisions, IsIn, IsOf, OpensAs}
pub use Rattle.store_model.specs.Files.{Files, Stored}
pub use Rattle.store_model.specs.Freeing.{FreesSome, FreesTo, IsPartlyFreed, SameButGates, with_all_freed, with_freed, without_some}
pub use Rattle.store_model.specs.Image.{Encodes, IsValidFor, Store, last_sequence, names_of}
pub use Rattle.store_model.specs.Refusals.{root_key}
pub use Rattle.store_model.specs.Reserve.{HoldsCounted, IsReachable, IsSpare, key_set, tree_keys}
pub use Rattle.store_model.specs.Slots.{AreHeaders, HasFree, HasKey, IsIndexOf, IsPartialIndexOf, first_free, free_slots, ids_of, last_id, newest, without_slot}
pub use Rattle.store_model.specs.Steps.{FlushContainer, FreeContainer, KeepsCopies, StoreChange, with_change, with_sealed}
pub use Rattle.store_model.specs.Trees.{HasNewest, bytes_at, file_tree, node_key}
pub use Rattle.store_state.specs.Invariant.{CoreInvariant, HoldsPart}
pub use Rattle.store_state.specs.Refused.{blames}
pub use Rattle.store_state.specs.Settled.{IsSettled}
pub use Rattle.store_state.specs.Tables.{IsFirstFree, Represents, RepresentsSlots, count_of}
pub use Rattle.store_state.specs.declared.slot_table.SlotCount.{SlotCount}
pub use Rattle.store_state.specs.declared.slot_table.SlotTable.{SlotTable}
pub use Rattle.store_state.specs.declared.tables.Tables.{Tables}

-- What many proofs of this crate import, under one name each.
pub use Rattle.std.proofs.Common.{Bool, Err, Global, List, None, Ok, Option, Result, Some, Vec, ap, arith, cond, false, inl, inr, length, map, refl, subst, suc, sym, take, true, zero, ℕ, [], ◌*◌, ◌++◌, ◌+◌, ◌<◌, ◌↔◌, ◌∙◌, ◌∷◌, ◌≡◌, ◌≢◌, ◌≤◌, ◌⊎◌}
pub use Rattle.std.proofs.lemmas.Bool.{eqb-false, eqb-true, lt-ltb, ltb-false, ltb-true}
pub use Rattle.std.proofs.lemmas.Bool.Decides.{eqb_tells, leb_tells}
pub use Rattle.std.proofs.lemmas.Grind.{get_or_default_zero}
pub use Rattle.std.proofs.lemmas.List.Elements.{Contains-append_cases, Contains-append_left, Contains-append_right, Contains-get_or}
pub use Rattle.std.proofs.lemmas.Result.{err_from_is_err_and}
pub use Rattle.std.proofs.lemmas.Slice.Eq.{bytes_eq-Decides}
pub use Rattle.std.specs.List.{AllByRecursion}
pub use Rattle.std.specs.Prelude.{if◌then◌else◌, nat_le, nat_lt, ◌||◌}
pub use Rattle.std.specs.Str.{bytes_eq}
pub use Rattle.actor_parts.proofs.Apart.{apart}
pub use Rattle.actor_parts.specs.PinMap.{PinMap}
pub use Rattle.actor_parts.specs.Segments.{AreStepSegments, IsStepSegment, pin_of}
pub use Rattle.actor_parts.specs.StepValue.{IsStep, StepValue, step_value}
pub use Rattle.actor_parts.specs.declared.actor.TheConstants.{ACTORS}
pub use Rattle.actor_parts.specs.declared.part.Part.{Part}
pub use Rattle.actor_parts.specs.declared.part.Part.TheVariants.{Idle, Writing}
pub use Rattle.actor_parts.specs.declared.part.Reader.{Reader}
pub use Rattle.actor_parts.specs.declared.step.Answer.{Answer}
pub use Rattle.base_model.specs.Bytes.{key_of, range}
pub use Rattle.base_model.specs.Frames.{SameOutside}
pub use Rattle.base_model.specs.Known.{Known, KnownWith}
pub use Rattle.container_meta.specs.Format.{kind_byte}
pub use Rattle.container_meta.specs.Places.{PlaceMap}
pub use Rattle.container_meta.specs.Segments.{KindSegment, Segment, entries_from, has_key, segment_key}
pub use Rattle.container_meta.specs.Spelling.{HeaderValue, IsHeader, header_of}
pub use Rattle.container_meta.specs.declared.entry.Entry.{Entry}
pub use Rattle.container_meta.specs.declared.kind.Kind.{Kind}
pub use Rattle.container_meta.specs.declared.place.Place.{Place}
pub use Rattle.copy_forward.specs.Entries.{SumsLive}
pub use Rattle.copy_forward.specs.Planning.{Planned, Source, planned, source_of}
pub use Rattle.copy_forward.specs.declared.plan.Plan.{Plan}
pub use Rattle.dd_disk.proofs.Later.{later_here, leaves_on, leaves_weaker, reads_here, reads_leave, reads_on}
pub use Rattle.dd_disk.proofs.Moves.{stands_reads}
pub use Rattle.dd_disk.proofs.Shows.{shown_content}
pub use Rattle.dd_disk.specs.Ending.{Done, Ending, Reads, ending, ending_of}
pub use Rattle.dd_disk.specs.Moves.{StandsFor}
pub use Rattle.dd_disk.specs.Shows.{Shows}
pub use Rattle.dd_disk.specs.View.{CrashLeaves, DiskView, IsDurable, IsLater, OnlyReads, SteppedFrom}
pub use Rattle.dd_disk.specs.Writes.{Both}
pub use Rattle.disk_format.specs.Cells.{Change, Root}
pub use Rattle.disk_format.specs.Cells.Change.{Delete, Put}
pub use Rattle.disk_format.specs.Layout.{half_cells, size_of, slot_at}
pub use Rattle.disk_format.specs.declared.numbers.TheConstants.{MOST_FILE, MOST_LEVEL, RESERVE, SLOT_BYTES}
pub use Rattle.gc_enumerate.specs.Live.{IsLiveAt, LiveKeys}
pub use Rattle.gc_select.specs.Selecting.{IsSelectedId, selected, sources_of}
pub use Rattle.gc_select.specs.declared.liveness.ContainerLiveness.{ContainerLiveness}
pub use Rattle.gc_steps.proofs.Carried.{KeepsBoth}
pub use Rattle.gc_steps.proofs.ClaimedPin.{one_more}
pub use Rattle.gc_steps.proofs.FirstStage.{id_below, id_there}
pub use Rattle.gc_steps.proofs.Marked.{contains_first, contains_none, marks_none}
pub use Rattle.gc_steps.proofs.Sparing.{held_at, ready_is_spare}
pub use Rattle.gc_steps.proofs.StepSafe.{IsFlushing, IsStoreAfter, step_safe}
pub use Rattle.gc_steps.proofs.UnderWay.{at_stage}
pub use Rattle.gc_steps.specs.FewSources.{IsToChoose}
pub use Rattle.gc_steps.specs.Finding.{HasMarkedAll, HeadersAreApart}
pub use Rattle.gc_steps.specs.Marking.{KeepsMarks, Scans}
pub use Rattle.gc_steps.specs.Roots.{IsPartKey, IsRoot, Marks, RootKeys, roots_of}
pub use Rattle.gc_steps.specs.Safety.{IsNeeded, IsSafe, IsSafeAt}
pub use Rattle.gc_steps.specs.Sparing.{IsWithin}
pub use Rattle.gc_steps.specs.Stages.{is_old_slot, mark_level}
pub use Rattle.gc_steps.specs.Starting.{AreFound}
pub use Rattle.gc_steps.specs.Stepping.{Flushes, IsStepRefusal, Keeps, Moment, StepsTo, TablesAfter, Touches, answer_at, moment, phase_at}
pub use Rattle.gc_steps.specs.StepsToCome.{Nears, steps_to_come}
pub use Rattle.gc_steps.specs.SweepIsSafe.{HoldsAt}
pub use Rattle.gc_steps.specs.UnderWay.{HasRoom, HasStage, IsUnderWay, old_ids}
pub use Rattle.gc_steps.specs.declared.collection.Collection.{Collection}
pub use Rattle.gc_steps.specs.declared.collection.Stage.{Stage}
pub use Rattle.gc_steps.specs.declared.collection.Stage.TheVariants.{Filter, Mark, Select, Sweep as SweepStage}
pub use Rattle.gc_steps.specs.declared.phase.StepDone.TheVariants.{Did}
pub use Rattle.gc_sweep.proofs.Holds.{no_key}
pub use Rattle.gc_sweep.proofs.HoldsCopied.{LeavesHeld}
pub use Rattle.gc_sweep.proofs.InSlots.{at_copy, copy_at, copy_of, id_at, one_header, one_slot}
pub use Rattle.gc_sweep.proofs.KeyLists.{listed}
pub use Rattle.gc_sweep.proofs.SourceRead.{IsReadOf}
pub use Rattle.gc_sweep.specs.Copying.{CopiesSource, TakesBy}
pub use Rattle.gc_sweep.specs.Holding.{HoldsSweep, IsLive}
pub use Rattle.gc_sweep.specs.UnderWay.{HasNext, IsSweeping, free_in, is_old, sources_before, taken_from}
pub use Rattle.gc_sweep.specs.declared.sweep.Next.TheVariants.{Copy as CopyNext, End, Flush, Release}
pub use Rattle.gc_sweep.specs.declared.sweep.Sweep.{Sweep as SweepValue}
pub use Rattle.ingest_steps.proofs.RecordFrames.{record_alone}
pub use Rattle.ingest_steps.specs.Naming.{ChangesBytes}
pub use Rattle.ingest_steps.specs.Pinning.{with_pins}
pub use Rattle.journal_cells.specs.Journal.{JournalValue}
pub use Rattle.merkle_file.specs.declared.top.Top.{Top}
pub use Rattle.namespace.specs.Names.{NameMap}
pub use Rattle.namespace.specs.declared.record.Named.{Named}
pub use Rattle.read_steps.specs.Opening.{top_of}
pub use Rattle.read_steps.specs.Readers.{reading}
pub use Rattle.read_steps.specs.Walking.{SegmentsAhead}
pub use Rattle.refusals.specs.declared.refusal.Phase.{Phase}
pub use Rattle.refusals.specs.declared.refusal.Refusal.{Refusal}
pub use Rattle.refusals.specs.declared.refusal.Refusal.TheVariants.{Memory}
pub use Rattle.segment_index.specs.Changes.{Changes, SameBefore}
pub use Rattle.segment_index.specs.Places.{HasPlaces}
pub use Rattle.sha2.specs.Sha256.{sha256}
pub use Rattle.store_core.specs.Bounds.{IsNoEnd, NoneEnds, starts}
pub use Rattle.store_core.specs.Collecting.{Collects, GcEffect, GcRow, GoesOn, HasEnded, IsKeptKey, IsNotMade, MarksIn, Restores, StartRow, TouchesBy, at_moment}
pub use Rattle.store_core.specs.Core.{AbortRow, BeginRow, ChangesTo, ClaimRow, CommitRow, CoreStep, DeleteRow, Effect, EndRow, IndexesAll, IsNotGiven, KeepsTables, KeepsUnlessBroken, ListRow, Made, NamesOne, OpenRow, ReadRow, Rests, Row, SealRow, SealsSome, StatRow, Steps, StepsOr, StopsAfter, UniqueRow, counted, next_id}
pub use Rattle.store_core.specs.Finding.{IsNoSweep}
pub use Rattle.store_core.specs.Frame.{IsOn, KeepsBytes}
pub use Rattle.store_core.specs.Opening.{LeavesUnread}
pub use Rattle.store_core.specs.Releases.{SweepsSpare, copied_in, freed_in}
pub use Rattle.store_core.specs.Runs.{AreNoGcSteps, CoreRun, FileEvent, FileRun, FileStep, IsAt, IsGivenRight, IsNoGcStep, IsSafeIn, changes_by, changes_of, events_of, opens, stored_after, stored_by, stored_with}
pub use Rattle.store_core.specs.State.{CoreState, Event, IsRunning, IsUnderWayIn, IsUp, UnlessStopped}
pub use Rattle.store_core.specs.declared.stop.Stop.{Stop}
pub use Rattle.store_model.proofs.Copies.{copy_digest, headers_of_right, some_same}
pub use Rattle.store_model.proofs.Counted.{contained}
pub use Rattle.store_model.proofs.Filled.{free_less}
pub use Rattle.store_model.proofs.Freed.{other_there, there_before}
pub use Rattle.store_model.proofs.FreedFiles.{free_reserve, reserve_by}
pub use Rattle.store_model.proofs.HeldSlots.{IsAmongThese, IsNodeEntry, among_so, newest_so, nodes_so}
pub use Rattle.store_model.proofs.Indexing.{put_none}
pub use Rattle.store_model.proofs.NameChanges.{last_changed}
pub use Rattle.store_model.proofs.Once.{store_once}
pub use Rattle.store_model.proofs.Reached.{reached_less, reached_put}
pub use Rattle.store_model.proofs.SameFiles.{FitsFile, files_fit}
pub use Rattle.store_model.proofs.Sound.{last_within}
pub use Rattle.store_model.proofs.Unfolding.{root_of_tree}
pub use Rattle.store_model.proofs.Valid.{free_sealed}
pub use Rattle.store_model.specs.Collisions.{ByteSet, HasNoCollisions, IsAmong, IsIn, Stands}
pub use Rattle.store_model.specs.Files.{Files, Stored, with_stored, without_stored}
pub use Rattle.store_model.specs.Freeing.{with_freed}
pub use Rattle.store_model.specs.Image.{Encodes, IsValidFor, Store, last_sequence, names_of}
pub use Rattle.store_model.specs.Indexing.{with_entries}
pub use Rattle.store_model.specs.Refusals.{root_key}
pub use Rattle.store_model.specs.Reserve.{HasReserve, IsReachable, IsSpare, key_set, tree_keys}
pub use Rattle.store_model.specs.Slots.{AreHeaders, Copy as HeldCopy, DifferentIds, HasFree, HasKey, HoldsSlot, IsPartialIndexOf, first_free, free_slots, ids_of as ids_held, last_id, newest, place_of, with_slot, without_slot}
pub use Rattle.store_model.specs.Standing.{CanBeOpened, IsStoreOf}
pub use Rattle.store_model.specs.Steps.{AnyKey, CanSeal, ChangeName, FlushContainer, FreeContainer, KeepsCopies, SealContainer, StoreChange, changed, with_change, with_sealed}
pub use Rattle.store_model.specs.Trees.{HasNewest, bytes_at, file_tree, root_of}
pub use Rattle.store_state.specs.Invariant.{CoreInvariant, HoldsPart, HoldsRest, IndexesFiles}
pub use Rattle.store_state.specs.Refused.{blames}
pub use Rattle.store_state.specs.Settled.{IsSettled, Left}
pub use Rattle.store_state.specs.Tables.{IsFirstFree, Represents, RepresentsSlots, Runs}
pub use Rattle.store_state.specs.declared.slot_table.SlotTable.{SlotTable}
pub use Rattle.store_state.specs.declared.tables.Tables.{Tables}

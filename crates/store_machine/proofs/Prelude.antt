-- What many proofs of this crate import, under one name each.
pub use Rattle.std.proofs.Common.{Bool, Contains, Err, List as ListOf, None, Ok, Option, Result, Some, ap, arith, cond, false, get_or, inl, inr, is_some, length, map, nat_lt, option_map, refl, replicate, slice_index_or, slice_set, subst, suc, sym, true, zero, ℕ, [], ⊎_elim, ◌++◌, ◌+◌, ◌-◌, ◌<◌, ◌==◌, ◌^◌, ◌↔◌, ◌∙◌, ◌∷◌, ◌≡◌, ◌≢◌, ◌≤◌, ◌⊎◌}
pub use Rattle.std.proofs.lemmas.Bool.{cases_eq, cases_lt}
pub use Rattle.std.proofs.lemmas.List.{get_or-set_other, get_or_past, length-set, take_all}
pub use Rattle.std.proofs.lemmas.List.Elements.{Contains-append_cases, Contains-append_left, Contains-push, Contains-push_cases}
pub use Rattle.std.specs.Cmp.Lexicographic.{nat_list_cmp_total, slice_cmp}
pub use Rattle.std.specs.List.{AllByRecursion}
pub use Rattle.std.specs.Ordering.{eq_by_cmp, nat_cmp}
pub use Rattle.actor_parts.specs.PinMap.{PinMap}
pub use Rattle.actor_parts.specs.Segments.{first_unpinned, pin_by, pin_of}
pub use Rattle.actor_parts.specs.declared.actor.TheConstants.{ACTORS}
pub use Rattle.actor_parts.specs.declared.pins.Pin.{Pin}
pub use Rattle.actor_parts.specs.declared.step.Answer.{Answer}
pub use Rattle.container_meta.specs.Segments.{KindSegment, Segment, segment_key}
pub use Rattle.container_meta.specs.Spelling.{HeaderValue, header_of}
pub use Rattle.container_meta.specs.declared.entry.Entry.{Entry}
pub use Rattle.container_meta.specs.declared.kind.Kind.{Kind}
pub use Rattle.disk_format.specs.Cells.{IsName, Root}
pub use Rattle.disk_format.specs.Cells.Change.{Delete as Gone, Put}
pub use Rattle.disk_format.specs.Layout.{half_cells}
pub use Rattle.disk_format.specs.declared.numbers.TheConstants.{LAST_ID, MOST_FILE, MOST_NAMES, RESERVE}
pub use Rattle.gc_select.specs.Selecting.{ids_of}
pub use Rattle.gc_select.specs.declared.liveness.ContainerLiveness.{ContainerLiveness}
pub use Rattle.ingest_session.proofs.KeptPieces.{of_kind}
pub use Rattle.ingest_session.proofs.Members.{IsIn}
pub use Rattle.ingest_session.specs.Due.{due_in, open_of}
pub use Rattle.ingest_session.specs.DueFor.{IsDueFor}
pub use Rattle.ingest_session.specs.History.{HasHistory, History}
pub use Rattle.ingest_session.specs.State.{SessionState, turn_node}
pub use Rattle.ingest_session.specs.Told.{IsSettled}
pub use Rattle.ingest_session.specs.declared.due.Due.TheVariants.{Claim, Nothing}
pub use Rattle.merkle_file.proofs.RootLaws.{nodes_are_right}
pub use Rattle.merkle_file.specs.Form.{ByCount, room_of}
pub use Rattle.merkle_file.specs.Node.{IsNode}
pub use Rattle.merkle_file.specs.Roots.{MayBeFile}
pub use Rattle.merkle_file.specs.Tree.{Empty, Trees, leaves, nodes_of, of_segment, tree_of}
pub use Rattle.merkle_file.specs.Walk.{start_of}
pub use Rattle.merkle_file.specs.declared.top.Top.{Top}
pub use Rattle.refusals.specs.declared.refusal.PartKind.{PartKind}
pub use Rattle.refusals.specs.declared.refusal.Phase.{Phase}
pub use Rattle.refusals.specs.declared.refusal.Refusal.{Refusal}
pub use Rattle.script_lines.specs.Grammar.{LineValue, pushed_bytes}
pub use Rattle.script_lines.specs.ReplyValue.{ReplyValue}
pub use Rattle.segmenter.proofs.LengthLemmas.{are_few, have_right_lengths, lengths_add_up}
pub use Rattle.segmenter.specs.Segments.{segments_of}
pub use Rattle.store_machine.specs.Asked.{Asked}
pub use Rattle.store_machine.specs.ByMap.{AfterOpening, FileMachine, IsGone, IsNotOpened, IsStill, MakesRoom, OnceOpened, RunsWith}
pub use Rattle.store_machine.specs.Collected.{AreBetween, EachOnce, HasContainer, HasIds, IsSealOf, IsWrittenBy, TakesKey}
pub use Rattle.store_machine.specs.Collecting.{Begins, Chooses, Copies, Flushes, Gathered, GoesOn, GoesOver, IsCollecting, IsRecordOf, JustGoes, Makes, Marks, MayBreak, Records, Releases, TakesAll, TakesOne, freed_in, ids_before, keys_written, last_by, marking, marks_of, next_of, no_sweep, phase_in, sources_in, swept_by}
pub use Rattle.store_machine.specs.CollectsAlone.{Sweeps}
pub use Rattle.store_machine.specs.Commands.{AllFollow, AreLinesOf, Collect, Command, Delete, EndsRefused, EndsWith, Follows, Ingest, IsDone, IsPush, Lines, Replied, Restore, desk, given_after, given_by, last_of, printed, run_of, text_of}
pub use Rattle.store_machine.specs.Done.{Done}
pub use Rattle.store_machine.specs.Forgetting.{Forgets, Rests, SameNow, SamePart, SameState, asked_of, forget_collection}
pub use Rattle.store_machine.specs.Ingests.{AddsIn, HasRoomFor, IsDueOf, IsPut}
pub use Rattle.store_machine.specs.Legal.{Answers, ByState, Claims, Deletes, Does, GivesBytes, GivesUp, HasName, HasNumbers, HasRoom, HasSlot, IsAtEnd, IsAtRightPart, IsUnkept, Keeps, LacksNumbers, Legal, LegalBy, MayCommit, OpensValue, Refuses, RefusesClaim, RefusesCommit, RefusesDelete, RefusesGcStep, RefusesOn, RefusesRead, RefusesSeal, RefusesUnique, Seals, broken_by, counted, listing, with_name, without_name}
pub use Rattle.store_machine.specs.Lines.{Acts, AreDid, AreTurns, Bars, Desk, Finishes, IsDueStep, Line, NothingIsDue, Pushes, Session, TurnsStop, actor_of, all_none, answer_of, kind_at, kind_by, new_session, reply_of, session_of, step_of, takes, unless_refused}
pub use Rattle.store_machine.specs.Machine.{Collection, Found, Idle, Machine, Marking, Part, Reading, Recording, RunState, Running, Stepped, Stopped, Sweep, Sweeping, Writing, all_idle, keeping, kind_of, one_more, part_in, put_at}
pub use Rattle.store_machine.specs.Needs.{HasCopy, IsNeeded, NamesNeed, first_unkept, forgotten_beside, keys_kept, keys_of, or_else, values_read, with_pins}
pub use Rattle.store_machine.specs.Opening.{MayBeFound, MayRefuseOpening, Reopens, freeing}
pub use Rattle.store_machine.specs.Remembering.{AddsBy, AddsToAnswer, AddsToDone, AddsToOpening, AddsToPhase, AddsToRefused, AddsToStep, ComesNext}
pub use Rattle.store_machine.specs.Runs.{Run}
pub use Rattle.store_machine.specs.Twins.{HasTwins}
pub use Rattle.store_machine.specs.Values.{IsStuck, StaysAt, Values, of_files, of_roots, top_of}
pub use Rattle.store_model.proofs.Freed.{there_before}
pub use Rattle.store_model.specs.Freeing.{FreesTo, with_freed}
pub use Rattle.store_model.specs.Image.{Store}
pub use Rattle.store_model.specs.Pieces.{IsPieceOf, Piece, piece_key, piece_segment}
pub use Rattle.store_model.specs.Refusals.{root_key}
pub use Rattle.store_model.specs.Reserve.{IsSpare}
pub use Rattle.store_model.specs.Slots.{first_free, free_slots, last_id, with_slot}
pub use Rattle.store_model.specs.Steps.{CanRise, CanSeal, ChangeName, FlushContainer, FreeContainer, SealContainer, StoreChange, with_change, with_sealed}

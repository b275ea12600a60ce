-- What many proofs of this crate import, under one name each.
pub use Rattle.std.proofs.Common.{Bool, Err, Global, List, None, Ok, OnOk, Option, Result, Some, Vec, ap, arith, cond, drop, false, inl, inr, is_some, length, map, min, option_map, refl, set, subst, suc, sym, take, true, zero, ℕ, [], ◌*◌, ◌++◌, ◌+◌, ◌-◌, ◌<◌, ◌^◌, ◌∙◌, ◌∷◌, ◌≡◌, ◌≢◌, ◌≤◌, ◌⊎◌}
pub use Rattle.std.proofs.lemmas.Bool.{eq-eqb, eqb-true, leb-true, lt-ltb, ltb-true}
pub use Rattle.std.proofs.lemmas.Bool.Decides.{eqb_tells, leb_tells}
pub use Rattle.std.proofs.lemmas.Grind.{get_or_default_zero}
pub use Rattle.std.proofs.lemmas.List.{append-nil, get_or-set_other, length-set, map_push, take_all, take_more}
pub use Rattle.std.proofs.lemmas.List.Elements.{All-contains, All-from_recursion, All-weaker, Contains-append_cases, Contains-append_left, Contains-append_right, Contains-get_or, recursion_from_All}
pub use Rattle.std.proofs.lemmas.List.Sums.{sum_by-cons}
pub use Rattle.std.proofs.lemmas.Option.{slice_get-get_or}
pub use Rattle.std.proofs.lemmas.Slice.Eq.{bytes_eq-Decides}
pub use Rattle.std.specs.Cmp.Lexicographic.{nat_list_cmp_total, slice_cmp}
pub use Rattle.std.specs.List.{All, AllByRecursion, flat_map}
pub use Rattle.std.specs.Ordering.{eq_by_cmp, nat_cmp}
pub use Rattle.std.specs.Prelude.{filter, if◌then◌else◌, nat_eq, nat_le, nat_lt, slice_get, ◌||◌}
pub use Rattle.std.specs.Str.{bytes_eq}
pub use Rattle.actor_parts.specs.PinMap.{PinMap, has_pin}
pub use Rattle.actor_parts.specs.Segments.{IsOfKind, child_pin, children_by}
pub use Rattle.actor_parts.specs.declared.actor.TheConstants.{ACTORS}
pub use Rattle.actor_parts.specs.declared.part.Part.{Part}
pub use Rattle.actor_parts.specs.declared.part.Part.TheVariants.{Idle, Reading, Writing}
pub use Rattle.actor_parts.specs.declared.part.Reader.{Reader}
pub use Rattle.actor_parts.specs.declared.pins.Pin.{Pin}
pub use Rattle.base_model.proofs.Checks.{both_true}
pub use Rattle.base_model.specs.Bytes.{byte_at, key_of}
pub use Rattle.container_meta.specs.Format.{is_level, kind_byte}
pub use Rattle.container_meta.specs.Places.{PlaceMap}
pub use Rattle.container_meta.specs.Segments.{Segment, entries_from, has_key, segment_key}
pub use Rattle.container_meta.specs.Spelling.{HeaderValue, IsHeader, bytes_of, header_digest, header_of, view}
pub use Rattle.container_meta.specs.declared.entry.Entry.{Entry}
pub use Rattle.container_meta.specs.declared.kind.Kind.{Kind}
pub use Rattle.container_meta.specs.declared.kind.Kind.TheVariants.{Leaf}
pub use Rattle.container_meta.specs.declared.place.Place.{Place}
pub use Rattle.copy_forward.specs.Copying.{PlansBy}
pub use Rattle.copy_forward.specs.Entries.{MapStays, SumsLive}
pub use Rattle.copy_forward.specs.Planning.{source_of}
pub use Rattle.copy_forward.specs.declared.plan.Plan.{Plan}
pub use Rattle.dd_disk.proofs.Shows.{shown_content, until}
pub use Rattle.dd_disk.specs.Ending.{Done, Ending, ending_of}
pub use Rattle.dd_disk.specs.Moves.{StandsFor}
pub use Rattle.dd_disk.specs.Shows.{Shows}
pub use Rattle.dd_disk.specs.View.{DiskView, OnlyReads}
pub use Rattle.disk_format.specs.Cells.{Root}
pub use Rattle.disk_format.specs.Cells.Change.{Delete, Put}
pub use Rattle.disk_format.specs.Layout.{size_of, slot_at}
pub use Rattle.disk_format.specs.declared.numbers.TheConstants.{MOST_FILE, MOST_LEVEL}
pub use Rattle.disk_format.specs.declared.why.Why.{Why}
pub use Rattle.gc_enumerate.proofs.LiveChildren.{among_keys}
pub use Rattle.gc_enumerate.specs.Live.{LiveKeys}
pub use Rattle.gc_enumerate.specs.Marking.{HasLiveChildren, IsAmong, IsLiveOf}
pub use Rattle.gc_enumerate.specs.Scanning.{HaveNodes, IsMisplaced, IsToScan, Scan, child_key, child_keys}
pub use Rattle.gc_enumerate.specs.declared.fault.ScanFault.{ScanFault}
pub use Rattle.gc_select.specs.Selecting.{IsSelectedId, is_selected}
pub use Rattle.gc_select.specs.declared.liveness.ContainerLiveness.{ContainerLiveness}
pub use Rattle.gc_steps.specs.FewSources.{IsToChoose}
pub use Rattle.gc_steps.specs.Filtering.{Chooses, Records, recorded, recorded_by}
pub use Rattle.gc_steps.specs.Finding.{HasMarkedAll, HeadersAreApart, IsDataKey}
pub use Rattle.gc_steps.specs.Fresh.{HasMarked, IsAsLive, Unmarks}
pub use Rattle.gc_steps.specs.LiveTrees.{HoldsNode, IsRootOf, IsWhole}
pub use Rattle.gc_steps.specs.Marking.{IsEntriesFault, IsMarkRefusal, KeepsMarks, MarksOnly, Scans, ScansEntries, ScansSome, scan_for}
pub use Rattle.gc_steps.specs.MarksAreClosed.{IsPassed, MarksAreClosed, NewAreLive, WasScanned}
pub use Rattle.gc_steps.specs.Roots.{HasRootKey, IsListedKey, IsNameKey, IsNumberKey, IsPartKey, IsRoot, Marks, key_at, keys_as_pinned, keys_of_listed, keys_of_number, keys_of_part, keys_of_pin, keys_of_root, roots_of}
pub use Rattle.gc_steps.specs.Safety.{IsNeeded, IsSafe, IsSafeAt}
pub use Rattle.gc_steps.specs.Scanning.{ShowsAt, step_refusal}
pub use Rattle.gc_steps.specs.Sparing.{IsWithin}
pub use Rattle.gc_steps.specs.Stages.{filter_at, filter_from, first_slot, is_old_slot, is_tree, is_tree_slot, mark_at, mark_from, mark_level, mark_on}
pub use Rattle.gc_steps.specs.Starting.{AreFound, IsFound, IsStartRefusal, IsUnfound, StopsAt}
pub use Rattle.gc_steps.specs.Stepping.{Flushes, GoesBy, IsStepRefusal, Keeps, Makes, Moment, RunsOn, StepsTo, TablesAfter, Touches, answer_at, moment}
pub use Rattle.gc_steps.specs.StepsToCome.{old_from, steps_at, steps_to_come}
pub use Rattle.gc_steps.specs.SweepIsSafe.{HoldsAt, SweepIsSafe}
pub use Rattle.gc_steps.specs.UnderWay.{HasStage, IsRecordedTo, IsUnderWay, old_ids}
pub use Rattle.gc_steps.specs.declared.collection.Collection.{Collection}
pub use Rattle.gc_steps.specs.declared.collection.Stage.{Stage}
pub use Rattle.gc_steps.specs.declared.collection.Stage.TheVariants.{Filter, Mark, Select, Sweep as SweepStage}
pub use Rattle.gc_steps.specs.declared.phase.StepDone.TheVariants.{Did}
pub use Rattle.gc_steps.specs.declared.roots.RootKey.{RootKey}
pub use Rattle.gc_sweep.proofs.Holds.{no_key}
pub use Rattle.gc_sweep.proofs.HoldsCopied.{LeavesHeld, holds_copied}
pub use Rattle.gc_sweep.proofs.HoldsRoom.{are_newest, may_flush}
pub use Rattle.gc_sweep.proofs.InSlots.{at_copy, copy_at, id_at, one_header}
pub use Rattle.gc_sweep.proofs.KeyLists.{listed, listed_so}
pub use Rattle.gc_sweep.proofs.OnDisk.{columns, few_slots, slot_fits}
pub use Rattle.gc_sweep.proofs.PlannedKeys.{filled_new}
pub use Rattle.gc_sweep.proofs.SourceRead.{IsReadOf, header_in, not_other, read_of}
pub use Rattle.gc_sweep.proofs.Taken.{slice_get-set}
pub use Rattle.gc_sweep.specs.Beginning.{Begins}
pub use Rattle.gc_sweep.specs.Copying.{CopiesSource, TakesBy}
pub use Rattle.gc_sweep.specs.Flushing.{HasFlushed, IsFlushStepRefusal}
pub use Rattle.gc_sweep.specs.Holding.{HoldsSweep, IsCopied, IsLive, SourcesStand}
pub use Rattle.gc_sweep.specs.Ready.{HasReleased}
pub use Rattle.gc_sweep.specs.Next.{IsNext}
pub use Rattle.gc_sweep.specs.Releasing.{HasFreed, HasNoEntryIn}
pub use Rattle.gc_sweep.specs.StepsLeft.{steps_left}
pub use Rattle.gc_sweep.specs.UnderWay.{HasNext, IsSweeping, is_old, sources_before}
pub use Rattle.gc_sweep.specs.declared.sweep.Next.{Next}
pub use Rattle.gc_sweep.specs.declared.sweep.Next.TheVariants.{Copy as CopyNext, End, Flush, Release}
pub use Rattle.gc_sweep.specs.declared.sweep.Sweep.{Sweep as SweepValue}
pub use Rattle.ingest_steps.specs.Sealing.{SealsIndexed}
pub use Rattle.merkle_file.specs.Node.{IsChild, IsNode, node_digest, total}
pub use Rattle.merkle_file.specs.Reading.{contents_in}
pub use Rattle.merkle_file.specs.Tree.{Trees, child_of, children_of, level_of, of_segment}
pub use Rattle.merkle_file.specs.Walk.{AreBelow, IsTree, contents_of, trees_in}
pub use Rattle.merkle_file.specs.declared.node.Child.{Child}
pub use Rattle.merkle_file.specs.declared.top.Top.{Top}
pub use Rattle.namespace.specs.Listing.{NamedRoot, listed_value, listing_of, named_root}
pub use Rattle.namespace.specs.Names.{NameMap}
pub use Rattle.namespace.specs.declared.record.Named.{Named}
pub use Rattle.refusals.specs.declared.refusal.Refusal.{Refusal}
pub use Rattle.refusals.specs.declared.refusal.Refusal.TheVariants.{Corrupt, Damaged, DiskRead, Memory, Missing, Numbers}
pub use Rattle.segment_index.specs.Changes.{Changes}
pub use Rattle.segment_index.specs.Places.{KnownMap}
pub use Rattle.sha2.specs.Sha256.{sha256}
pub use Rattle.store_model.proofs.Copies.{headers_of_right, lies, some_same}
pub use Rattle.store_model.proofs.Freed.{slot_held, there_before}
pub use Rattle.store_model.proofs.FreedTrees.{in_head}
pub use Rattle.store_model.proofs.HeldSlots.{IsNodeEntry, found_so, have_levels, newest_so, nodes_so, same_kind}
pub use Rattle.store_model.proofs.Indexing.{entry_of, put_none, put_some, tied}
pub use Rattle.store_model.proofs.Lookups.{finds}
pub use Rattle.store_model.proofs.OneNode.{one_spelling}
pub use Rattle.store_model.proofs.SameFiles.{FitsFile, file_of_root, files_fit}
pub use Rattle.store_model.proofs.Unfolding.{right_file, root_of_tree}
pub use Rattle.store_model.specs.Collisions.{ByteSet, IsIn, Stands}
pub use Rattle.store_model.specs.Files.{Files}
pub use Rattle.store_model.specs.Image.{IsValidFor, Store, names_of}
pub use Rattle.store_model.specs.Indexing.{entry_key, with_entries}
pub use Rattle.store_model.specs.Refusals.{root_key}
pub use Rattle.store_model.specs.Reserve.{HoldsCounted, IsReachable, keys_below, tree_keys}
pub use Rattle.store_model.specs.Slots.{AreHeaders, DifferentIds, HasFree, HasKey, HoldSlots, HoldsSlot, IsPartialIndexOf, first_free, ids_of as ids_held, last_id, newest, place_of, with_slot, without_slot}
pub use Rattle.store_model.specs.Standing.{IsFileOf, IsStoreOf}
pub use Rattle.store_model.specs.Steps.{KeepsCopies, with_sealed}
pub use Rattle.store_model.specs.Trees.{HasNewest, HoldsTree, HoldsTrees, bytes_at, file_tree, leaf_key, node_key}
pub use Rattle.store_state.specs.Invariant.{ArePinsOf, CoreInvariant, HoldsPart, HoldsRest, IndexesFiles}
pub use Rattle.store_state.specs.Refused.{blames}
pub use Rattle.store_state.specs.Tables.{IsFirstFree, Represents, RepresentsSlots, Runs, count_of}
pub use Rattle.store_state.specs.declared.slot_table.SlotCount.{SlotCount}
pub use Rattle.store_state.specs.declared.slot_table.SlotTable.{SlotTable}
pub use Rattle.store_state.specs.declared.tables.Tables.{Tables}

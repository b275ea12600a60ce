-- What many proofs of this crate import, under one name each.
pub use Rattle.std.proofs.Common.{Bool, Err, IsSome, List, None, Ok, OnErr, Option, Result, Some, ap, arith, cond, false, get_or, inl, inr, length, refl, subst, suc, sym, take, true, ℕ, [], ◌++◌, ◌+◌, ◌-◌, ◌<◌, ◌^◌, ◌∙◌, ◌∷◌, ◌≡◌, ◌≤◌, ◌⊎◌}
pub use Rattle.std.proofs.lemmas.Bool.{eqb-true}
pub use Rattle.std.proofs.lemmas.List.Sums.{sum_by-cons}
pub use Rattle.std.proofs.lemmas.Slice.Eq.{bytes_eq-Decides}
pub use Rattle.std.specs.Cmp.Lexicographic.{nat_list_cmp_total, slice_cmp}
pub use Rattle.std.specs.List.{AllByRecursion}
pub use Rattle.std.specs.Ordering.{eq_by_cmp, nat_cmp}
pub use Rattle.std.specs.Prelude.{IfSome, nat_le}
pub use Rattle.actor_parts.proofs.Apart.{apart}
pub use Rattle.actor_parts.specs.Parts.{part_of, with_part}
pub use Rattle.actor_parts.specs.PinMap.{IsPin, PinMap, has_pin}
pub use Rattle.actor_parts.specs.Segments.{IsOfKind, IsStepSegment, KeyPin, children_of, first_not_in, pin_by, pin_of}
pub use Rattle.actor_parts.specs.declared.part.Part.{Part}
pub use Rattle.actor_parts.specs.declared.part.Part.TheVariants.{Writing}
pub use Rattle.actor_parts.specs.declared.pins.Pin.{Pin}
pub use Rattle.base_model.proofs.Outcome.{map_err, passed_on}
pub use Rattle.base_model.specs.Known.{Known}
pub use Rattle.container_meta.specs.Places.{PlaceMap}
pub use Rattle.container_meta.specs.Segments.{Contents, KindSegment, Segment, entries_from, segment_at, segment_key}
pub use Rattle.container_meta.specs.Spelling.{HeaderValue, header_of}
pub use Rattle.container_meta.specs.declared.entry.Entry.{Entry}
pub use Rattle.container_meta.specs.declared.kind.Kind.{Kind}
pub use Rattle.container_meta.specs.declared.kind.Kind.TheVariants.{Leaf, Tree}
pub use Rattle.container_meta.specs.declared.place.Place.{Place}
pub use Rattle.dd_disk.proofs.Ended.{counts_on}
pub use Rattle.dd_disk.proofs.Later.{later_on, leaves_on, leaves_weaker, reads_here, reads_leave}
pub use Rattle.dd_disk.proofs.Moves.{moves_written, passed, stands_reads}
pub use Rattle.dd_disk.proofs.Shows.{shown_content}
pub use Rattle.dd_disk.specs.Ending.{Blame, Broken, Done, Ending, NoCall, ReadCall, Refused, Unread, WriteCall, ending, ending_of}
pub use Rattle.dd_disk.specs.Moves.{Arrives, Moves, StandsFor}
pub use Rattle.dd_disk.specs.Shows.{Shows}
pub use Rattle.dd_disk.specs.View.{CrashLeaves, DiskView, IsDurable, IsLater, OnlyReads, SteppedFrom}
pub use Rattle.dd_disk.specs.Writes.{Both, Writes}
pub use Rattle.disk_format.specs.Cells.{Change, RecordValue, Root, SelectorValue}
pub use Rattle.disk_format.specs.Cells.Change.{Delete, Put}
pub use Rattle.disk_format.specs.Layout.{half_cells, slot_at}
pub use Rattle.disk_format.specs.declared.why.Why.{Why}
pub use Rattle.ingest_steps.specs.Claiming.{IsClaimRefusal, MayClaim, MayNotClaim, key_of_seg}
pub use Rattle.ingest_steps.specs.Naming.{ChangesName, HasNumbers, IsWriteRefusal, MayChange, record_after_last, tables_with}
pub use Rattle.ingest_steps.specs.Pinning.{WereHad, first_unpinned_of, had_again, with_pins}
pub use Rattle.ingest_steps.specs.Recording.{IsRecorded, IsRecordedBy, Records, RecordsBy, has_cell}
pub use Rattle.ingest_steps.specs.Sealing.{ChangesSlotAlone, FitBeside, HasPlacesOf, HasSlot, HasSlotBeside, HasWritten, IsCompared, IsSealRefusal, IsSlotOf, KeepsHeld, SameButSlotOf, SealsCompared, SealsContainer, SealsIndexed, WasCompared, places_with, sealing, sealing_indexed}
pub use Rattle.ingest_steps.specs.Writers.{IsCommitRefusal, IsUncommitted}
pub use Rattle.journal_cells.specs.Appending.{Appends, IsAppended, SameButNext}
pub use Rattle.journal_cells.specs.Checkpoints.{Checkpoints, IsCheckpointed, SameButHalf, checkpointed}
pub use Rattle.journal_cells.specs.Journal.{IsTold, JournalValue}
pub use Rattle.merkle_file.specs.Reading.{contents_in}
pub use Rattle.namespace.specs.Names.{HasPlace, NameMap, names_with, record_value}
pub use Rattle.namespace.specs.Puts.{puts_of}
pub use Rattle.refusals.specs.declared.refusal.Refusal.{Refusal}
pub use Rattle.refusals.specs.declared.refusal.Refusal.TheVariants.{DiskWrite, Memory, Numbers, Unpinned, WrongPart}
pub use Rattle.segment_index.specs.Changes.{Changes, SameBefore}
pub use Rattle.segment_index.specs.Places.{KnownMap}
pub use Rattle.sha2.specs.Sha256.{sha256}
pub use Rattle.store_model.proofs.Cells.{cell_anew, cell_here, names_checkpoint}
pub use Rattle.store_model.proofs.Copies.{headers_of_right, some_same}
pub use Rattle.store_model.proofs.Frames.{SameTo}
pub use Rattle.store_model.proofs.Free.{as_many}
pub use Rattle.store_model.proofs.IndexSize.{entries_within}
pub use Rattle.store_model.proofs.Indexing.{tied}
pub use Rattle.store_model.proofs.Journaled.{IsAbove, SameButJournal}
pub use Rattle.store_model.specs.Collisions.{ByteSet, HasNoCollisions, IsIn, Stands}
pub use Rattle.store_model.specs.Files.{Files}
pub use Rattle.store_model.specs.Image.{IsValidFor, Store, names_of}
pub use Rattle.store_model.specs.Indexing.{with_entries}
pub use Rattle.store_model.specs.Slots.{AreHeaders, Copy, HasFree, HasKey, IsPartialIndexOf, first_free, free_slots, newest}
pub use Rattle.store_model.specs.Standing.{HasJournal}
pub use Rattle.store_model.specs.Steps.{AnyKey, CanHold, FitsHeld, appended, has_cell as store_has_cell, record_of, with_cell, with_change, with_checkpoint, with_sealed}
pub use Rattle.store_model.specs.Trees.{HasNewest, bytes_at}
pub use Rattle.store_state.specs.Indexing.{IsChangeRefusal}
pub use Rattle.store_state.specs.Invariant.{ArePinsOf, HoldsPart}
pub use Rattle.store_state.specs.Settled.{KeepsWhatCounts, Left, Steps}
pub use Rattle.store_state.specs.Tables.{Represents, RepresentsNames, Runs}
pub use Rattle.store_state.specs.declared.tables.Tables.{Tables}

-- What many proofs of this crate import, under one name each.
pub use Rattle.std.proofs.Common.{Bool, List, None, Option, Some, ap, append-nil, arith, count_by, drop, false, find, get_or, inl, inr, length, length-append, map, option_map, refl, set, subst, suc, sym, take, true, zero, ℕ, [], ◌*◌, ◌++◌, ◌+◌, ◌<◌, ◌∙◌, ◌∷◌, ◌≡◌, ◌≢◌, ◌≤◌, ◌⊎◌}
pub use Rattle.std.proofs.lemmas.Bool.{eq-eqb, eqb-true}
pub use Rattle.std.proofs.lemmas.Bool.Decides.{leb_tells}
pub use Rattle.std.proofs.lemmas.Grind.{get_or_default_zero}
pub use Rattle.std.proofs.lemmas.List.{get_or-set_other, length-map, length-set}
pub use Rattle.std.proofs.lemmas.List.Elements.{Contains-append_left, Contains-append_right}
pub use Rattle.std.proofs.lemmas.Map.Keys.{apart_from_distinct}
pub use Rattle.std.proofs.lemmas.Option.{slice_get-get_or}
pub use Rattle.std.proofs.lemmas.Slice.Eq.{bytes_eq-Decides}
pub use Rattle.std.specs.List.{AllByRecursion}
pub use Rattle.std.specs.Prelude.{if◌then◌else◌, nat_eq, nat_le, nat_lt, ◌==◌, ◌||◌}
pub use Rattle.std.specs.Str.{bytes_eq}
pub use Rattle.base_model.proofs.Checks.{both}
pub use Rattle.container_meta.specs.Format.{kind_byte}
pub use Rattle.container_meta.specs.Places.{PlaceMap}
pub use Rattle.container_meta.specs.Segments.{Contents, Segment, entries_from, has_key, keys_of, segment_key}
pub use Rattle.container_meta.specs.Spelling.{HeaderValue, IsHeader, header_of}
pub use Rattle.container_meta.specs.declared.entry.Entry.{Entry}
pub use Rattle.container_meta.specs.declared.kind.Kind.{Kind}
pub use Rattle.container_meta.specs.declared.place.Place.{Place}
pub use Rattle.copy_forward.specs.Copying.{IsCopyRefusal, PlansBy}
pub use Rattle.copy_forward.specs.Entries.{is_copy, without_keys}
pub use Rattle.copy_forward.specs.Planning.{IsPlan, Planned, Source, Takes, TakesOne, planned, source_of}
pub use Rattle.copy_forward.specs.declared.plan.Plan.{Plan}
pub use Rattle.dd_disk.proofs.Moves.{passed}
pub use Rattle.dd_disk.proofs.Shows.{shown_content}
pub use Rattle.dd_disk.specs.Ending.{Done}
pub use Rattle.dd_disk.specs.Shows.{Shows}
pub use Rattle.dd_disk.specs.View.{DiskView}
pub use Rattle.disk_format.specs.Layout.{slot_at}
pub use Rattle.disk_format.specs.declared.numbers.TheConstants.{LAST_ID, MOST_ENTRIES, MOST_SLOTS, RESERVE}
pub use Rattle.gc_enumerate.specs.Live.{LiveKeys}
pub use Rattle.gc_sweep.specs.Beginning.{Begins}
pub use Rattle.gc_sweep.specs.Copying.{CopiesSource, EndsBy, GoesOn, HasEnded, IsCopyStepRefusal, IsFilling, IsSource, TakesBy}
pub use Rattle.gc_sweep.specs.Flushing.{HasFlushed, WritesCopies, spared}
pub use Rattle.gc_sweep.specs.Holding.{AreCopied, GoesOnBeside, HoldsSweep, IsCopied, IsHalfCopied, IsLive, IsOrigin, SourcesStand}
pub use Rattle.gc_sweep.specs.Ready.{HasReleased}
pub use Rattle.gc_sweep.specs.Next.{IsNext, kind_in}
pub use Rattle.gc_sweep.specs.Releasing.{ChangesGatesAlone, GivesBack, HasFreed, HasNoEntryIn, HasNoEntryInAny}
pub use Rattle.gc_sweep.specs.UnderWay.{AreLeft, HasNext, IsSweeping, IsTaken, entry_in, free_in, is_old, sources_before, taken_from}
pub use Rattle.gc_sweep.specs.declared.sweep.Next.{Next}
pub use Rattle.gc_sweep.specs.declared.sweep.Next.TheVariants.{Copy as CopyNext, End, Flush, Release}
pub use Rattle.gc_sweep.specs.declared.sweep.Sweep.{Sweep}
pub use Rattle.refusals.specs.declared.refusal.Refusal.{Refusal}
pub use Rattle.refusals.specs.declared.refusal.Refusal.TheVariants.{Memory}
pub use Rattle.sha2.specs.Sha256.{sha256}
pub use Rattle.store_model.proofs.Copies.{some_same}
pub use Rattle.store_model.proofs.Free.{as_many, first_closed, some_free, zeros_free}
pub use Rattle.store_model.proofs.Freed.{free_freed, slot_held, valid_freed}
pub use Rattle.store_model.proofs.HeldSlots.{found_so}
pub use Rattle.store_model.proofs.Indexing.{entry_of, put_none, put_some, still_has}
pub use Rattle.store_model.specs.Collisions.{IsIn, Stands}
pub use Rattle.store_model.specs.Files.{Files}
pub use Rattle.store_model.specs.Freeing.{with_all_freed, with_freed}
pub use Rattle.store_model.specs.Image.{Store}
pub use Rattle.store_model.specs.Indexing.{entry_key, with_entries}
pub use Rattle.store_model.specs.Reserve.{HasReserve, HoldsNone}
pub use Rattle.store_model.specs.Slots.{AreHeaders, DifferentIds, HasKey, HoldSlots, HoldsSlot, IsPartialIndexOf, first_free, free_slots, ids_of, place_of, with_slot, without_slot}
pub use Rattle.store_model.specs.Steps.{KeepsCopies, MaySeal, with_sealed}
pub use Rattle.store_model.specs.Trees.{HasNewest, bytes_at}
pub use Rattle.store_state.specs.Refused.{blames}
pub use Rattle.store_state.specs.Tables.{IsFirstFree, Represents, RepresentsSlots, Runs, count_of}
pub use Rattle.store_state.specs.declared.slot_table.SlotCount.{SlotCount}
pub use Rattle.store_state.specs.declared.slot_table.SlotTable.{SlotTable}
pub use Rattle.store_state.specs.declared.tables.Tables.{Tables}

-- What many proofs of this crate import, under one name each.
pub use Rattle.std.proofs.Common.{Bool, Err, List, None, Ok, OnErr, OnOk, Option, Result, Some, ap, arith, cond, drop, false, get_or, inl, inr, length, length-append, map, refl, slice_set, subst, suc, sym, take, true, zero, ℕ, [], ◌*◌, ◌++◌, ◌+◌, ◌-◌, ◌<◌, ◌^◌, ◌∙◌, ◌∷◌, ◌≢◌, ◌≤◌, ◌⊎◌}
pub use Rattle.std.proofs.lemmas.Bool.{leb-true}
pub use Rattle.std.proofs.lemmas.Bool.Decides.{eqb_tells}
pub use Rattle.std.proofs.lemmas.List.{length-map, map-append, take_all}
pub use Rattle.std.proofs.lemmas.List.Elements.{Contains-append_left}
pub use Rattle.std.specs.Cmp.Lexicographic.{slice_cmp}
pub use Rattle.std.specs.Int.{w64}
pub use Rattle.std.specs.List.{Contains, slice_get}
pub use Rattle.std.specs.Ordering.{nat_cmp}
pub use Rattle.std.specs.Prelude.{is_some}
pub use Rattle.base_model.proofs.ByteAt.{byte-written, byte-written-before}
pub use Rattle.base_model.proofs.Outcome.{map_err, passed_on}
pub use Rattle.base_model.proofs.Ranges.{byte-range, length-written, length-zeros}
pub use Rattle.base_model.specs.Bytes.{byte_at, range, written}
pub use Rattle.base_model.specs.Known.{Known, KnownWith}
pub use Rattle.container_log.specs.Writing.{Frees, IsFreed}
pub use Rattle.container_meta.specs.Places.{PlaceMap}
pub use Rattle.container_meta.specs.Spelling.{HeaderValue, IsHeader, view}
pub use Rattle.container_meta.specs.declared.place.Place.{Place}
pub use Rattle.dd_disk.proofs.Ended.{counts_on, reads_none}
pub use Rattle.dd_disk.proofs.Later.{later_here, later_on, leaves_on, leaves_weaker, reads_here, reads_leave}
pub use Rattle.dd_disk.proofs.Moves.{passed}
pub use Rattle.dd_disk.proofs.Shows.{always, shown_content, since, until, weaker}
pub use Rattle.dd_disk.proofs.Writes.{never_refused}
pub use Rattle.dd_disk.specs.Ending.{Broken, CountsFault, Done, Reads, WriteCall, ending, ending_of}
pub use Rattle.dd_disk.specs.Gated.{TornFrom}
pub use Rattle.dd_disk.specs.Shows.{Shows}
pub use Rattle.dd_disk.specs.View.{CrashLeaves, DiskView, IsDurable, IsLater, OnlyReads, SteppedFrom}
pub use Rattle.dd_disk.specs.Writes.{Puts, Writes}
pub use Rattle.disk_format.specs.Cells.{format_cell}
pub use Rattle.disk_format.specs.Layout.{IsSlotCount, cell_at, size_of, slot_at}
pub use Rattle.disk_format.specs.declared.numbers.TheConstants.{CELL_BYTES, CONTAINER_GATE, FIRST_SELECTOR, FORMAT_GATE, RECORD_GATE, RESERVE}
pub use Rattle.disk_format.specs.declared.why.Why.TheVariants.{Field}
pub use Rattle.inspection.specs.Found.{Found, and_then, cell_with, nothing}
pub use Rattle.inspection.specs.Handing.{Counts}
pub use Rattle.inspection.specs.declared.damage.Damage.{Damage}
pub use Rattle.inspection.specs.declared.tally.Tally.{Tally}
pub use Rattle.journal_cells.specs.declared.fault.CellFault.{CellFault}
pub use Rattle.merkle_file.specs.Walk.{start_of}
pub use Rattle.merkle_file.specs.declared.top.Top.{Top}
pub use Rattle.namespace.specs.Listing.{NamedRoot, listed_value, listing_of}
pub use Rattle.namespace.specs.declared.listing.ListedName.{ListedName}
pub use Rattle.read_steps.proofs.Visited.{roots_wider}
pub use Rattle.read_steps.specs.Opening.{top_of}
pub use Rattle.read_steps.specs.Trees.{AllHeld, IsStuckAmong, IsTreesRefusal, WhereHeld}
pub use Rattle.read_steps.specs.Visiting.{HasPlace, IsVisitRefusal, IsVisited, Visits, VisitsRoots, VisitsTo, steps_ahead}
pub use Rattle.read_steps.specs.Walking.{WasRead, top_key}
pub use Rattle.recovery.specs.Formatting.{IsBlankOrFormatted, StaysBlank}
pub use Rattle.recovery.specs.Inspecting.{AreCounted, image_found, nothing_counted}
pub use Rattle.recovery.specs.Making.{GivesBack, IsGiving, IsLeastIn, IsLeastOf, IsReady, LeavesFreed, MakesNoRoom, MakesRoom, StopsGiving}
pub use Rattle.recovery.specs.Marking.{IsMarked}
pub use Rattle.recovery.specs.Opening.{IsFormatRefusal, IsFound, IsOpenRefusal, cell_refusal}
pub use Rattle.recovery.specs.Room.{RoomMade, RoomUnmade}
pub use Rattle.recovery.specs.Slots.{AreSlots, HoldsDamage, IsSlotDamage, IsSlotsRefusal}
pub use Rattle.refusals.specs.declared.refusal.Refusal.{Refusal}
pub use Rattle.refusals.specs.declared.refusal.Refusal.TheVariants.{Damaged, DiskRead, DiskWrite, Memory}
pub use Rattle.store_model.proofs.Copies.{some_same}
pub use Rattle.store_model.proofs.Lookups.{partial_of}
pub use Rattle.store_model.proofs.Once.{store_once}
pub use Rattle.store_model.specs.Collisions.{ByteSet}
pub use Rattle.store_model.specs.Freeing.{FreesSome, FreesTo, IsLeastSpare, IsPartlyFreed, SameButGates, with_all_freed}
pub use Rattle.store_model.specs.Image.{Encodes, IsBlankOf, IsValidFor, Store, names_of}
pub use Rattle.store_model.specs.Slots.{AreHeaders, Copy, DifferentIds, HoldSlots, HoldsSlot, IsIndexOf, IsUnusedId, free_slots, ids_of}
pub use Rattle.store_model.specs.Standing.{IsFormatted}
pub use Rattle.store_state.proofs.Few.{few_ids}
pub use Rattle.store_state.specs.Refused.{blames, fails}
pub use Rattle.store_state.specs.State.{Represents}
pub use Rattle.store_state.specs.declared.open_store.OpenStore.{OpenStore}

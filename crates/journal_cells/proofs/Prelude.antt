-- What many proofs of this crate import, under one name each.
pub use Rattle.std.proofs.Common.{Bool, Err, IfErr, List, None, Ok, Option, Result, Some, ap, append_assoc, arith, cond, drop, eq-eqb, false, find, get_or, inl, inr, length, length-append, map, max, refl, rules, subst, suc, sym, take, true, zero, ℕ, [], ◌*◌, ◌++◌, ◌+◌, ◌-◌, ◌<◌, ◌^◌, ◌||◌, ◌∙◌, ◌∷◌, ◌≡◌, ◌≢◌, ◌≤◌, ◌⊎◌}
pub use Rattle.std.proofs.lemmas.Bool.{eqb-false, eqb-true, le-leb, le-ltb, leb-true, lt-ltb, ltb-false, ltb-true}
pub use Rattle.std.proofs.lemmas.List.{length-take-le, take_all}
pub use Rattle.std.proofs.lemmas.List.Elements.{All-cons, All-head, All-nil, All-tail}
pub use Rattle.std.proofs.lemmas.Slice.Eq.{bytes_eq-Decides}
pub use Rattle.std.specs.Int.{to_be_bytes, w32, w64}
pub use Rattle.std.specs.Option.{option_or}
pub use Rattle.std.specs.Prelude.{codes, option_map}
pub use Rattle.std.specs.Str.{bytes_eq}
pub use Rattle.base_model.proofs.ByteAt.{byte-written}
pub use Rattle.base_model.proofs.Checks.{AllHold, EachFault, both_true, checked_all, checked_err, checked_ok, not_some, then_step, unequal}
pub use Rattle.base_model.proofs.Frames.{byte_after, same_written}
pub use Rattle.base_model.proofs.Numbers.{IsBytes, no_other, none_other, number_4, number_8, number_8_small, spelled_4, spelled_8}
pub use Rattle.base_model.proofs.Outcome.{map_err, passed_on}
pub use Rattle.base_model.proofs.Ranges.{byte-range, length-range, length-zeros, range-first, range-join, range-one, range-range, range-second, range-whole, range-written}
pub use Rattle.base_model.specs.Bytes.{byte_at}
pub use Rattle.base_model.specs.Checks.{Check, checked, passes, ◌>>=◌}
pub use Rattle.base_model.specs.Frames.{SameOutside}
pub use Rattle.base_model.specs.Numbers.{first_mismatch, number_at}
pub use Rattle.dd_disk.proofs.Ended.{reads_none, reads_on}
pub use Rattle.dd_disk.proofs.Outside.{same_cell}
pub use Rattle.dd_disk.proofs.Shows.{always, weaker}
pub use Rattle.dd_disk.proofs.Writes.{never_refused, writes_weaker}
pub use Rattle.dd_disk.specs.Ending.{Done, Ending, Reads, ending}
pub use Rattle.dd_disk.specs.Gated.{CellTorn, TornFrom}
pub use Rattle.dd_disk.specs.Shows.{Shows}
pub use Rattle.dd_disk.specs.View.{DiskView, OnlyReads}
pub use Rattle.dd_disk.specs.Writes.{Puts, Torn, Writes}
pub use Rattle.disk_format.proofs.CellParts.{gate-sealed, length-format_fields, length-selector_fields, parts_of_sealed, sealed_from_parts}
pub use Rattle.disk_format.specs.Cells.{Change, IsChange, IsName, IsRecord, IsSelector, RecordValue, SelectorValue, operation_of, record_cell, root_in, selector_cell}
pub use Rattle.disk_format.specs.Cells.Change.{Delete, Put}
pub use Rattle.disk_format.specs.Layout.{cell_at, half_cells, least_size, selector_at}
pub use Rattle.disk_format.specs.declared.numbers.TheConstants.{CELL_BYTES, FORMAT_GATE, HALF_BYTES, MOST_NAME, MOST_NAMES, RECORD_GATE, SELECTOR_GATE, VERSION}
pub use Rattle.inspection.proofs.Steps.{finds_as, finds_on, finds_shown, reports_nothing, stops_on, stops_shown, stops_unread}
pub use Rattle.inspection.specs.Found.{and_then, cell_with, nothing}
pub use Rattle.inspection.specs.Handing.{StopsAmong}
pub use Rattle.inspection.specs.declared.damage.Damage.{Damage}
pub use Rattle.journal_cells.specs.Checkpoints.{IsFreshHalf, Replaces, cells_filled, cells_of, gate_closed, half_filled, replaced}
pub use Rattle.journal_cells.specs.Faults.{IsCellFault, IsFormatBreak, IsFoundFault, IsReadFault, IsRecordBreak, IsSelectorBreak, blames, fails}
pub use Rattle.journal_cells.specs.Heads.{AreSelectorCells, HoldsSelection, chosen, format_checks, is_other, selection_of, selector_checks, selector_value, selectors_in as selectors_read}
pub use Rattle.journal_cells.specs.Inspecting.{halves_found, names_taking}
pub use Rattle.journal_cells.specs.Journal.{IsScanned, IsTold, JournalValue}
pub use Rattle.journal_cells.specs.Records.{IsFoundRecord, Replay, after_record, bad_name_byte, change_checks, change_in_cell, delete_checks, end_checks, front_checks, has_place, is_printable, name_checks, name_in_cell, nothing_yet, open_cell, other_than_empty, own_checks, place_checks, put_checks, record_checks, record_in_cell, root_in_cell}
pub use Rattle.journal_cells.specs.Scanning.{AreClosed, AreShut, IsFirstAmong, IsNext, IsOpenFault, IsPart, IsRead, IsWhole, replay}
pub use Rattle.journal_cells.specs.declared.checkpoint.FreshHalf.{FreshHalf}
pub use Rattle.journal_cells.specs.declared.fault.CellFault.{CellFault}
pub use Rattle.journal_cells.specs.declared.fault.CellFault.TheVariants.{Damaged, DiskRead, DiskWrite, Memory, NotAStore, Numbers, Version}
pub use Rattle.journal_cells.specs.declared.heads.Selection.{Selection}
pub use Rattle.namespace.specs.Names.{IsTaken, NameMap, names_after, names_with, record_value}
pub use Rattle.namespace.specs.Puts.{puts_of}
pub use Rattle.sha2.proofs.Facts256.{length-sha256}
pub use Rattle.sha2.specs.Sha256.{sha256}
pub use Rattle.store_model.proofs.Records.{last_of_push}
pub use Rattle.store_model.specs.Journal.{ClosedFrom, Follow, HoldsJournal, HoldsRecords, HoldsSelector, IsOlder, KnowsOther, StandFrom, last_of}

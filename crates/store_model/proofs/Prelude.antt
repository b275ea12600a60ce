-- What many proofs of this crate import, under one name each.
pub use Rattle.std.proofs.Common.{Bool, IsTrue, List, None, Option, Some, ap, append_assoc, arith, cond, false, find, get_or, inl, inr, length, length-append, map, max, option_map, refl, subst, suc, sym, take, true, zero, ℕ, [], ◌++◌, ◌+◌, ◌-◌, ◌<◌, ◌^◌, ◌∙◌, ◌∷◌, ◌≡◌, ◌≢◌, ◌≤◌, ◌⊎◌}
pub use Rattle.std.proofs.lemmas.Bool.{eqb-true, leb-true, ltb-false, ltb-true}
pub use Rattle.std.proofs.lemmas.Bool.Decides.{eqb_tells}
pub use Rattle.std.proofs.lemmas.List.Elements.{Contains-append_cases, Contains-append_left, Contains-append_right}
pub use Rattle.std.proofs.lemmas.List.Folds.{list_any-append}
pub use Rattle.std.proofs.lemmas.List.Sums.{sum_by-append, sum_by-cons}
pub use Rattle.std.proofs.lemmas.Slice.Eq.{bytes_eq-Decides}
pub use Rattle.std.specs.Cmp.Lexicographic.{nat_list_cmp_total, slice_cmp}
pub use Rattle.std.specs.List.{AllByRecursion, Contains, slice_get}
pub use Rattle.std.specs.Ordering.{eq_by_cmp, nat_cmp}
pub use Rattle.std.specs.Prelude.{is_some, nat_le, nat_lt, slice_index_or, ◌==◌, ◌||◌}
pub use Rattle.std.specs.Str.{bytes_eq}
pub use Rattle.base_model.proofs.Ranges.{byte-range}
pub use Rattle.base_model.specs.Bytes.{byte_at, key_of, range}
pub use Rattle.base_model.specs.Frames.{SameOutside}
pub use Rattle.container_meta.specs.Format.{is_level, kind_byte}
pub use Rattle.container_meta.specs.Places.{PlaceMap}
pub use Rattle.container_meta.specs.Segments.{Segment, entries_from, segment_key}
pub use Rattle.container_meta.specs.Spelling.{HeaderValue, IsHeader, bytes_of, has_digest, header_of}
pub use Rattle.container_meta.specs.declared.entry.Entry.{Entry}
pub use Rattle.container_meta.specs.declared.kind.Kind.{Kind}
pub use Rattle.container_meta.specs.declared.place.Place.{Place}
pub use Rattle.disk_format.specs.Cells.{Change, IsChange, IsName, IsRecord, IsRoot, RecordValue, Root, SelectorValue, selector_cell}
pub use Rattle.disk_format.specs.Layout.{cell_at, data_at, half_cells, selector_at, slot_at}
pub use Rattle.disk_format.specs.declared.numbers.TheConstants.{CONTAINER_GATE, FIRST_SLOT, MOST_FILE, RECORD_GATE, SELECTOR_GATE, SLOT_BYTES}
pub use Rattle.merkle_file.specs.Form.{ByCount}
pub use Rattle.merkle_file.specs.Node.{Contents, IsNode, spelling}
pub use Rattle.merkle_file.specs.Tree.{Empty, NoTree, Node, Then, Trees, leaves, leaves_below, nodes_below, nodes_of, of_segment, tree_of}
pub use Rattle.merkle_file.specs.Walk.{contents_of}
pub use Rattle.namespace.specs.Names.{HasPlace, NameMap, names_after, names_changed, names_with}
pub use Rattle.namespace.specs.declared.record.Named.{Named}
pub use Rattle.sha2.specs.Sha256.{sha256}
pub use Rattle.store_model.specs.Collisions.{AreAmong, IsAmong, Stands}
pub use Rattle.store_model.specs.Files.{Command, Files, files_after}
pub use Rattle.store_model.specs.Freeing.{HasNoGate, IsPartlyFreed, SameButGates, with_freed}
pub use Rattle.store_model.specs.Image.{AreCopies, Encodes, HasFormat, IsValidFor, Store, last_sequence, names_of}
pub use Rattle.store_model.specs.Indexing.{entry_key, with_entries}
pub use Rattle.store_model.specs.Journal.{HoldsSelector, IsOlder, KnowsOther, StandFrom, last_of}
pub use Rattle.store_model.specs.Reserve.{AllKeys, HoldsNone, IsReachable, keys_below, tree_keys}
pub use Rattle.store_model.specs.Slots.{AreHeaders, Copy, DifferentIds, HasKey, HoldSlots, HoldsSlot, IsIndexOf, IsPartialIndexOf, IsUnusedId, copy_in, first_free, free_slots, ids_of, last_id, newer, newest, place_of, with_slot, without_slot}
pub use Rattle.store_model.specs.Standing.{AreFilesOf, AreNodes, HasJournal, IsFileOf, IsOfKind, IsStoreOf, StandsFor, entry_bytes}
pub use Rattle.store_model.specs.Steps.{CanHold, HoldsFor, KeepsCopies, appended, change_of, name_of, record_of, with_cell, with_change, with_sealed}
pub use Rattle.store_model.specs.Trees.{HasNewest, HoldsTree, HoldsTrees, bytes_at, leaf_key, node_key, root_of}

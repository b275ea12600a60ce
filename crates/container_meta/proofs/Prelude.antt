-- What many proofs of this crate import, under one name each.
pub use Rattle.std.proofs.Common.{Err, List, Ok, Result, Some, ap, append_assoc, arith, cond, drop, eq-eqb, false, get_or, inl, inr, length, length-append, map, refl, subst, suc, sym, take, true, zero, ℕ, [], ◌*◌, ◌++◌, ◌+◌, ◌-◌, ◌<◌, ◌^◌, ◌∙◌, ◌∷◌, ◌≡◌, ◌≤◌}
pub use Rattle.std.proofs.lemmas.Bool.{cases_lt, eqb-true, le-leb, leb-true, ne_eqb}
pub use Rattle.std.proofs.lemmas.List.{append-nil, length-take, nil_from_length, take_all, take_at}
pub use Rattle.std.proofs.lemmas.List.Concat.{flat_map-cons}
pub use Rattle.std.proofs.lemmas.List.Sums.{sum_by-append}
pub use Rattle.std.proofs.lemmas.Slice.Eq.{bytes_eq-Decides}
pub use Rattle.std.specs.Int.{to_be_bytes, w16, w32, w64}
pub use Rattle.std.specs.List.{list_any}
pub use Rattle.std.specs.Prelude.{is_some, nat_le, unwrap_or, ◌==◌, ◌||◌}
pub use Rattle.std.specs.Str.{bytes_eq}
pub use Rattle.base_model.proofs.Checks.{AllHold, both, both_true}
pub use Rattle.base_model.proofs.Numbers.{IsBytes, spelled_4}
pub use Rattle.base_model.proofs.Ranges.{length-range, length-zeros, range-first, range-join, range-one, range-range, range-second, range-whole}
pub use Rattle.base_model.specs.Bytes.{byte_at}
pub use Rattle.base_model.specs.Checks.{checked, passes, ◌>>=◌}
pub use Rattle.container_meta.specs.Format.{entry_place, is_count, is_id, is_length, is_level, kind_byte, kind_of, magic}
pub use Rattle.container_meta.specs.Reading.{count_at, count_in, ReachEnd, digest_at, digest_checks, entry_at, entry_checks, field_checks, is_end, kind_at, next_read, opening_checks, zeros_in_front}
pub use Rattle.container_meta.specs.Segments.{CanAdd, Contents, Segment, StandFrom, bytes_in, data_of, entries_from, is_segment, segment_at, segments_in}
pub use Rattle.container_meta.specs.Spelling.{Follow, HeaderValue, IsHeader, IsNext, bytes_of, container_spelling, has_digest, IsSpelled, header_of, header_size, header_spelling, with_entries}
pub use Rattle.container_meta.specs.declared.entry.Entry.{Entry}
pub use Rattle.container_meta.specs.declared.entry.Header.{Header}
pub use Rattle.container_meta.specs.declared.fault.MetaFault.{MetaFault}
pub use Rattle.container_meta.specs.declared.kind.Kind.{Kind}
pub use Rattle.container_meta.specs.declared.kind.Kind.TheVariants.{Leaf}
pub use Rattle.disk_format.specs.declared.numbers.TheConstants.{CONTAINER_GATE, DATA_BYTES, HEADER_BYTES, MOST_ENTRIES}
pub use Rattle.sha2.proofs.Facts256.{length-sha256}
pub use Rattle.sha2.specs.Sha256.{sha256}

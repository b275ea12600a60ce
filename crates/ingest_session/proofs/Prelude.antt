-- What many proofs of this crate import, under one name each.
pub use Rattle.std.proofs.Common.{Bool, IsSome, List, Some, ap, append-nil, append_assoc, arith, drop, false, inl, inr, length, length-append, map, refl, reverse, rules, subst, suc, sum_by, sym, take, take_all, true, zero, zero-add, ℕ, [], ◌&&◌, ◌*◌, ◌++◌, ◌+◌, ◌-◌, ◌<◌, ◌∙◌, ◌∷◌, ◌≡◌, ◌≤◌, ◌⊎◌}
pub use Rattle.std.proofs.Math.Seq.{drop-append_seam}
pub use Rattle.std.proofs.lemmas.Bool.{and_parts, ne_eqb, or_left, or_right}
pub use Rattle.std.proofs.lemmas.List.{length-map, length-take-le, map-append}
pub use Rattle.std.proofs.lemmas.List.Sums.{sum_by-append}
pub use Rattle.std.specs.List.{AllByRecursion, list_any}
pub use Rattle.std.specs.Option.{option_to_list}
pub use Rattle.std.specs.Prelude.{◌==◌}
pub use Rattle.actor_parts.specs.Segments.{IsStepSegment, child_kind, children_by, node_segment}
pub use Rattle.actor_parts.specs.declared.step.Answer.{Answer}
pub use Rattle.actor_parts.specs.declared.step.Answer.TheVariants.{Absent, Held, Sealed}
pub use Rattle.base_model.specs.Bytes.{key_of}
pub use Rattle.container_meta.specs.Format.{kind_byte}
pub use Rattle.container_meta.specs.Segments.{Contents, KindSegment, Segment, has_key, has_room, segment_key}
pub use Rattle.container_meta.specs.declared.kind.Kind.{Kind}
pub use Rattle.container_meta.specs.declared.kind.Kind.TheVariants.{Leaf, Tree}
pub use Rattle.disk_format.specs.declared.numbers.TheConstants.{LEAST_SEGMENT, MOST_FILE, MOST_LEVEL}
pub use Rattle.ingest_session.specs.Calls.{IsEnding, IsTaking, KeepsItem}
pub use Rattle.ingest_session.specs.Child.{has_child_of}
pub use Rattle.ingest_session.specs.Due.{HasTurn, due_in, due_node, end_due, gathered, is_node_due, item_due, item_is_there, item_kind, needs_no_step, node_due, offered_in, open_of, puts_aside, queue_due, queue_is_there, seals_data, segments_of_all, turn_for, turn_in}
pub use Rattle.ingest_session.specs.Facts.{IsKept, IsKeptChild, MayFollow, data_in, nodes_in}
pub use Rattle.ingest_session.specs.Filling.{with_segment}
pub use Rattle.ingest_session.specs.Finished.{first_of, without_nodes}
pub use Rattle.ingest_session.specs.History.{Asked, Ended, HasHistory, History, IsBegun, Moved, Pushed, SealsSome, Told, answered, held_by, item_if, moved, placed_after_seal, placed_by, placed_if, placed_resumed, same_kind, sealed_for, turn, turn_of, unsealed, waiting}
pub use Rattle.ingest_session.specs.Items.{fits, item_of}
pub use Rattle.ingest_session.specs.Moving.{BuildsFront, Finishes, IsAdvanced, IsClosing, front_of}
pub use Rattle.ingest_session.specs.Settling.{Advanced, Closed, PlacedFront, PlacedNode, SetAside, SettleStep, Settles, Spelled, Then, Turned}
pub use Rattle.ingest_session.specs.Sound.{IsSession}
pub use Rattle.ingest_session.specs.State.{AreLong, HasItem, IsAhead, IsClosed, IsSized, IsSpelled, IsWhole, SessionState, is_last, leaf_segment, node_in_turn, rest_after, rest_of, turn_node}
pub use Rattle.ingest_session.specs.Stream.{IsCutInto, IsUncut}
pub use Rattle.ingest_session.specs.Told.{IsAnswerFor, IsPlaced, IsSettled, absent_item, added_item, emptied, placed_front, placed_item, placed_node, put_aside, resumed, sealed_by, set_aside, told_by, with_open}
pub use Rattle.ingest_session.specs.Work.{to_do}
pub use Rattle.ingest_session.specs.contracts.session.Session.{the_view}
pub use Rattle.ingest_session.specs.declared.due.Due.{Due}
pub use Rattle.ingest_session.specs.declared.due.Due.TheVariants.{Claim, Nothing, Seal}
pub use Rattle.merkle_file.proofs.InOrder.{nodes_come_in_order}
pub use Rattle.merkle_file.proofs.InPlace.{length_spelling}
pub use Rattle.merkle_file.proofs.TreeLaws.{segments_alike}
pub use Rattle.merkle_file.specs.Building.{Holds, Progress, levels_left, nodes_in_rows, open_over, total_of}
pub use Rattle.merkle_file.specs.Form.{ByCount, room_of}
pub use Rattle.merkle_file.specs.Node.{IsNode, spelling}
pub use Rattle.merkle_file.specs.Order.{HasCome}
pub use Rattle.merkle_file.specs.Reading.{contents_in}
pub use Rattle.merkle_file.specs.Tree.{itself, nodes_of, of_segment, tree_of}
pub use Rattle.merkle_file.specs.declared.node.Child.{Child}
pub use Rattle.merkle_file.specs.declared.top.Top.{Top}
pub use Rattle.segmenter.proofs.RunLemmas.{HasCut-finish}
pub use Rattle.segmenter.specs.Cutting.{Hand, HasCut, empty_hand}
pub use Rattle.segmenter.specs.Segments.{segments_of}
pub use Rattle.store_model.specs.Pieces.{Data, HasPieceOf, IsPieceOf, Node, Piece, nodes_of_file, piece_segment}
pub use Rattle.store_model.specs.Trees.{leaf_key, node_key}

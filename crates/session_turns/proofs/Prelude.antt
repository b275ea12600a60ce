-- What many proofs of this crate import, under one name each.
pub use Rattle.std.proofs.Common.{Bool, Err, List, None, Ok, Option, Result, Some, [], ap, append_assoc, arith, cond, false, inl, inr, length, refl, slice_set, subst, suc, sym, true, zero, ℕ, ◌++◌, ◌<◌, ◌==◌, ◌∙◌, ◌∷◌, ◌≡◌, ◌≢◌, ◌≤◌, ◌⊎◌}
pub use Rattle.std.proofs.lemmas.Bool.{cases_lt, eqb-false, eqb-true}
pub use Rattle.std.proofs.lemmas.List.{get_or-set_same, get_or_past, length-set}
pub use Rattle.std.specs.Cmp.Lexicographic.{nat_list_cmp_total, slice_cmp}
pub use Rattle.std.specs.List.{AllByRecursion}
pub use Rattle.std.specs.Ordering.{eq_by_cmp, nat_cmp}
pub use Rattle.actor_parts.proofs.Apart.{apart}
pub use Rattle.actor_parts.specs.PinMap.{PinMap}
pub use Rattle.actor_parts.specs.Segments.{pin_of}
pub use Rattle.actor_parts.specs.StepValue.{IsStep, StepValue}
pub use Rattle.actor_parts.specs.declared.actor.TheConstants.{ACTORS}
pub use Rattle.actor_parts.specs.declared.pins.Pin.{Pin}
pub use Rattle.actor_parts.specs.declared.step.Answer.{Answer}
pub use Rattle.container_meta.specs.Places.{PlaceMap}
pub use Rattle.container_meta.specs.Segments.{Contents, KindSegment, Segment, segment_key}
pub use Rattle.container_meta.specs.declared.kind.Kind.{Kind}
pub use Rattle.container_meta.specs.declared.kind.Kind.TheVariants.{Leaf, Tree}
pub use Rattle.disk_format.specs.Cells.{Root}
pub use Rattle.disk_format.specs.Layout.{slot_at}
pub use Rattle.disk_format.specs.declared.numbers.TheConstants.{MOST_FILE}
pub use Rattle.ingest_session.proofs.KeptPieces.{item_is, kept_absent, kept_held, kept_sealed, of_kind, one_item}
pub use Rattle.ingest_session.proofs.Members.{all_of, in_none, one_of}
pub use Rattle.ingest_session.specs.Due.{due_in, offered_in}
pub use Rattle.ingest_session.specs.Facts.{kept}
pub use Rattle.ingest_session.specs.History.{HasHistory, History, answered, no_history, turn_of}
pub use Rattle.ingest_session.specs.Moving.{IsItem, IsOffered}
pub use Rattle.ingest_session.specs.State.{SessionState, turn_node}
pub use Rattle.ingest_session.specs.declared.due.Due.{Due}
pub use Rattle.ingest_session.specs.declared.due.Due.TheVariants.{Claim, Nothing, Seal}
pub use Rattle.ingest_steps.specs.Pinning.{with_pins}
pub use Rattle.merkle_file.specs.declared.top.Top.{Top}
pub use Rattle.refusals.specs.declared.refusal.Refusal.{Refusal}
pub use Rattle.refusals.specs.declared.refusal.Refusal.TheVariants.{Memory}
pub use Rattle.session_turns.specs.Owning.{HoldsKept, IsAskedFor, IsBeside, IsQuiet, Kept}
pub use Rattle.session_turns.specs.Turns.{Asks, IsPaused, IsRefusedTurn, TurnRun}
pub use Rattle.store_core.proofs.Stepping.{row_one}
pub use Rattle.store_core.specs.Collecting.{GcRow, StartRow}
pub use Rattle.store_core.specs.Core.{BeginRow, CoreStep, DeleteRow, EndRow, ReadRow, Row, Steps, StepsOr}
pub use Rattle.store_core.specs.Keeping.{kept_by}
pub use Rattle.store_core.specs.Runs.{FileEvent, FileStep, IsAt, IsNoGcStep, IsRootOf}
pub use Rattle.store_core.specs.State.{CoreState, Event}
pub use Rattle.store_core.specs.declared.stop.Stop.{Stop}
pub use Rattle.store_model.proofs.Copies.{some_same}
pub use Rattle.store_model.specs.Collisions.{ByteSet, HasNoCollisions}
pub use Rattle.store_model.specs.Files.{Stored}
pub use Rattle.store_model.specs.Image.{Store}
pub use Rattle.store_model.specs.Pieces.{Data, HasPieceOf, IsPieceOf, Node, Piece, piece_segment}
pub use Rattle.store_model.specs.Slots.{HasKey}
pub use Rattle.store_model.specs.Standing.{IsStoreOf}
pub use Rattle.store_model.specs.Trees.{leaf_key, node_key, root_of}
pub use Rattle.store_state.specs.Tables.{Represents}

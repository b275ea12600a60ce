-- What many proofs of this crate import, under one name each.
pub use Rattle.std.proofs.Common.{Bool, Err, List, Ok, Result, ap, append_assoc, arith, drop, eqb, false, get_or, inl, inr, length, map, refl, reverse, set, subst, suc, sym, take, true, zero, ℕ, [], ◌&&◌, ◌*◌, ◌++◌, ◌+◌, ◌-◌, ◌<◌, ◌^◌, ◌∙◌, ◌∷◌, ◌≡◌, ◌≤◌, ◌⊎◌}
pub use Rattle.std.proofs.Math.Nat.{pow-suc}
pub use Rattle.std.proofs.Math.Seq.{drop-length}
pub use Rattle.std.proofs.lemmas.Bool.{and_parts, cases_Bool, cases_lt, eq-eqb, eqb-false, eqb-true, le-leb, leb-false, leb-true, ne_eqb}
pub use Rattle.std.proofs.lemmas.Grind.{flat_map-append}
pub use Rattle.std.proofs.lemmas.List.{append-nil, drop-drop, drop-map, drop_all, drop_at, drop_more, length-append, length-drop, length-take, length-take-le, map-append, replicate_more, reverse-append, take-append-drop, take_at}
pub use Rattle.std.proofs.lemmas.List.Concat.{flat_map-cons}
pub use Rattle.std.proofs.lemmas.List.Sums.{sum_by-append, sum_by-cons}
pub use Rattle.std.specs.Global.{Vec}
pub use Rattle.std.specs.Int.{to_be_bytes, w16}
pub use Rattle.std.specs.List.{AllByRecursion, flat_map}
pub use Rattle.std.specs.Option.{option_to_list}
pub use Rattle.std.specs.Prelude.{IsOk, OnOk, nat_le, sum_by, ◌==◌}
pub use Rattle.disk_format.specs.declared.numbers.TheConstants.{MOST_CHILDREN, MOST_FILE, MOST_LEVEL}
pub use Rattle.merkle_file.specs.Building.{Holds, MayPush, Progress, levels_left, nodes_in_rows, open_over, rest, whole}
pub use Rattle.merkle_file.specs.Form.{ByCount, Form, is_whole, most_level}
pub use Rattle.merkle_file.specs.Node.{Contents, IsChild, IsNode, entry, total}
pub use Rattle.merkle_file.specs.Reading.{IsAsked, IsWithin, any_node, child_in, contents_in, first_fault, found_fault}
pub use Rattle.merkle_file.specs.Rows.{AreNode, CanClose, CanPlace, items_of}
pub use Rattle.merkle_file.specs.Steps.{Closed, Placed, are_empty, top_of}
pub use Rattle.merkle_file.specs.Tree.{Empty, Leaf, NoTree, Node, Then, Tree, Trees, child_of, children_of, grouped, itself, joined, last_group, leaves, leaves_below, level_of, nodes_below, nodes_of, of_segment, parent, root_of, tree_of, trees}
pub use Rattle.merkle_file.specs.Walk.{Ahead, AreBelow, HasRoom, IsTree, below, contents_of, opened, trees_in}
pub use Rattle.merkle_file.specs.declared.fault.FieldFault.{FieldFault}
pub use Rattle.merkle_file.specs.declared.node.Child.{Child}
pub use Rattle.merkle_file.specs.declared.reading.Asked.{Asked}
pub use Rattle.merkle_file.specs.declared.top.Top.{Top}

use Rattle.std.proofs.Common.{List, ℕ, sym, subst}
use Rattle.base_model.proofs.Outcome.{passed_on}
use Rattle.read_steps.specs.Visiting.{IsVisitRefusal}
use Rattle.read_steps.specs.Walking.{IsPlaceOf, IsLookupRefusal}
use Rattle.read_steps.proofs.Visits.{leaf_visited, leaf_not_found, node_not_opened, held_after, held_unread}
use Rattle.read_steps.proofs.visiting.visit.Goals as goal

-- ---- a node

pub returns-in_err-open_node-in-Node-clause-refused : goal.returns-in_err-open_node-in-Node-clause-refused
returns-in_err-open_node-in-Node-clause-refused g c =
    let old = g.D.Disk.view c.args.disk.now in
    let new = g.D.Disk.view c.open_node.new.disk in
    let known = g.X.Index.places c.args.index.now old.content in
    let breaks = g.X.Index.breaks c.args.index.now in
    let e = c.in_err-open_node-in-Node.field-0.0 in
    passed_on c.from_residual.result (IsVisitRefusal known breaks old new c.args.cursor.now) e c.from_residual.ensures.1
    (node_not_opened known breaks old new c.args.cursor.now c.in-Node.digest c.in-Node.level c.in-Node.length (sym c.in-Node.ensures.wanted) e
    c.in_err-open_node-in-Node.ensures.cause)

pub returns-in_err-open_node-in-Node-clause-held : goal.returns-in_err-open_node-in-Node-clause-held
returns-in_err-open_node-in-Node-clause-held g c = λ counts held image ts indexed ahead.
    let old = g.D.Disk.view c.args.disk.now in
    let new = g.D.Disk.view c.open_node.new.disk in
    let known = g.X.Index.places c.args.index.now old.content in
    let breaks = g.X.Index.breaks c.args.index.now in
    let e = c.in_err-open_node-in-Node.field-0.0 in
    held_unread counts held known old new image indexed breaks c.args.cursor.now c.open_node.new.cursor ts e c.from_residual.result c.from_residual.ensures.1
    (node_not_opened known breaks old new c.args.cursor.now c.in-Node.digest c.in-Node.level c.in-Node.length (sym c.in-Node.ensures.wanted) e
    c.in_err-open_node-in-Node.ensures.cause) ahead

pub returns-in_ok-open_node-in-Node-clause-held : goal.returns-in_ok-open_node-in-Node-clause-held
returns-in_ok-open_node-in-Node-clause-held g c = λ counts held image ts indexed ahead.
    let old = g.D.Disk.view c.args.disk.now in
    held_after counts held (g.X.Index.places c.args.index.now old.content) old (g.D.Disk.view c.open_node.new.disk) image indexed c.args.cursor.now c.open_node.new.cursor
    c.in_ok-open_node-in-Node.field-0 ts
    c.in_ok-open_node-in-Node.ensures.visits ahead

-- ---- a segment

pub returns-in_err-place-in-Leaf-clause-refused : goal.returns-in_err-place-in-Leaf-clause-refused
returns-in_err-place-in-Leaf-clause-refused g c =
    let old = g.D.Disk.view c.args.disk.now in
    let new = g.D.Disk.view c.find_place.new.disk in
    let known = g.X.Index.places c.args.index.now old.content in
    let breaks = g.X.Index.breaks c.args.index.now in
    let e = c.in_err-place-in-Leaf.field-0.0 in
    passed_on c.from_residual-in_err-place-in-Leaf.result (IsVisitRefusal known breaks old new c.args.cursor.now) e c.from_residual-in_err-place-in-Leaf.ensures.1
    (leaf_not_found known breaks old new c.args.cursor.now c.in-Leaf.digest c.in-Leaf.level c.in-Leaf.length (sym c.in-Leaf.ensures.wanted) e
    (subst (λ (key : List ℕ). IsLookupRefusal known breaks old new key e) c.key_of.ensures c.in_err-place-in-Leaf.ensures.refused))

pub returns-in_err-place-in-Leaf-clause-held : goal.returns-in_err-place-in-Leaf-clause-held
returns-in_err-place-in-Leaf-clause-held g c = λ counts held image ts indexed ahead.
    let old = g.D.Disk.view c.args.disk.now in
    let new = g.D.Disk.view c.find_place.new.disk in
    let known = g.X.Index.places c.args.index.now old.content in
    let breaks = g.X.Index.breaks c.args.index.now in
    let e = c.in_err-place-in-Leaf.field-0.0 in
    held_unread counts held known old new image indexed breaks c.args.cursor.now c.args.cursor.now ts e c.from_residual-in_err-place-in-Leaf.result
    c.from_residual-in_err-place-in-Leaf.ensures.1
    (leaf_not_found known breaks old new c.args.cursor.now c.in-Leaf.digest c.in-Leaf.level c.in-Leaf.length (sym c.in-Leaf.ensures.wanted) e
    (subst (λ (key : List ℕ). IsLookupRefusal known breaks old new key e) c.key_of.ensures c.in_err-place-in-Leaf.ensures.refused)) ahead

pub returns-in_ok-place-in-Leaf-clause-visits : goal.returns-in_ok-place-in-Leaf-clause-visits
returns-in_ok-place-in-Leaf-clause-visits g c =
    let old = g.D.Disk.view c.args.disk.now in
    let known = g.X.Index.places c.args.index.now old.content in
    let place = c.in_ok-place-in-Leaf.place in
    leaf_visited known old (g.D.Disk.view c.find_place.new.disk) c.args.cursor.now c.pass.new.self c.in-Leaf.digest c.in-Leaf.level c.in-Leaf.length place
    (sym c.in-Leaf.ensures.wanted) c.pass.ensures.rest
    (subst (λ (key : List ℕ). IsPlaceOf known key place) c.key_of.ensures c.in_ok-place-in-Leaf.ensures.found) c.in_ok-place-in-Leaf.ensures.place

pub returns-in_ok-place-in-Leaf-clause-held : goal.returns-in_ok-place-in-Leaf-clause-held
returns-in_ok-place-in-Leaf-clause-held g c = λ counts held image ts indexed ahead.
    let old = g.D.Disk.view c.args.disk.now in
    let known = g.X.Index.places c.args.index.now old.content in
    let new = g.D.Disk.view c.find_place.new.disk in
    let place = c.in_ok-place-in-Leaf.place in
    held_after counts held known old new image indexed c.args.cursor.now c.pass.new.self place ts
    (leaf_visited known old new c.args.cursor.now c.pass.new.self c.in-Leaf.digest c.in-Leaf.level c.in-Leaf.length place (sym c.in-Leaf.ensures.wanted) c.pass.ensures.rest
    (subst (λ (key : List ℕ). IsPlaceOf known key place) c.key_of.ensures c.in_ok-place-in-Leaf.ensures.found) c.in_ok-place-in-Leaf.ensures.place) ahead

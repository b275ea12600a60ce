use Rattle.base_model.proofs.Outcome.{map_err}
use Rattle.std.proofs.Common.{◌≡◌}
use Rattle.gc_enumerate.specs.Scanning.{IsNodeOf, IsToScan, scan_of}
use Rattle.gc_enumerate.proofs.Scans.{child_lacks, decided_true, node_wider, if_found}
use Rattle.gc_enumerate.proofs.scanning.scan_entry.Goals as goal

pub returns-clause-found : goal.returns-clause-found
returns-clause-found g c =
    let copies = g.C.Copies in
    let laws = g.met.C.Copies in
    let old = c.args.copies.now in
    let mid = c.is_to_scan.new.copies in
    let then = c.read_node.new.copies in
    let new = c.look_up_children.new.copies in
    let s = scan_of (copies.places old) c.args.live.now c.args.layer.now in
    let to_scan : IsToScan s c.args.entry.now = decided_true s c.args.entry.now c.in_ok-wanted.wanted c.if-not-wanted.false c.in_ok-wanted.ensures.decided in
    let node : IsNodeOf s.layer (copies.shows old new) c.args.entry.now c.in_ok-node.node =
    node_wider s (copies.shows mid then) (copies.shows old new)
    (λ place bytes shown. laws.shows_wider old mid then new place bytes c.in_ok-wanted.ensures.later c.in_ok-node.ensures.later c.look_up_children.ensures.later shown)
    c.args.entry.now c.in_ok-node.node c.in_ok-node.ensures.node in
    let same : copies.places then ≡ copies.places old = laws.places_stay old then (laws.later_on old mid then c.in_ok-wanted.ensures.later c.in_ok-node.ensures.later) in
    if_found c.look_up_children.result s (copies.shows old new) (copies.places then) c.args.entry.now c.in_ok-node.node same to_scan node c.look_up_children.ensures.keys
    c.look_up_children.ensures.placed

pub returns-clause-refused : goal.returns-clause-refused
returns-clause-refused g c =
    let copies = g.C.Copies in
    let laws = g.met.C.Copies in
    let old = c.args.copies.now in
    let mid = c.is_to_scan.new.copies in
    let then = c.read_node.new.copies in
    let new = c.look_up_children.new.copies in
    let s = scan_of (copies.places old) c.args.live.now c.args.layer.now in
    let to_scan : IsToScan s c.args.entry.now = decided_true s c.args.entry.now c.in_ok-wanted.wanted c.if-not-wanted.false c.in_ok-wanted.ensures.decided in
    let node : IsNodeOf s.layer (copies.shows old new) c.args.entry.now c.in_ok-node.node =
    node_wider s (copies.shows mid then) (copies.shows old new)
    (λ place bytes shown. laws.shows_wider old mid then new place bytes c.in_ok-wanted.ensures.later c.in_ok-node.ensures.later c.look_up_children.ensures.later shown)
    c.args.entry.now c.in_ok-node.node c.in_ok-node.ensures.node in
    let before : copies.later old then = laws.later_on old mid then c.in_ok-wanted.ensures.later c.in_ok-node.ensures.later in
    map_err c.look_up_children.result _ _
    (λ fault. child_lacks s (copies.shows old new) (copies.places then) (copies.damaged then new) (copies.damaged old new) c.args.entry.now c.in_ok-node.node fault
    (laws.places_stay old then before)
    (λ at why is. laws.damaged_wider old then new new at why before c.look_up_children.ensures.later (laws.later_at_once new) is) to_scan node)
    c.look_up_children.ensures.refused

use Rattle.recovery.proofs.Prelude.{inl, inr, ℕ, sym, subst, IsValidFor, few_ids, RoomMade, RoomUnmade}
use Rattle.recovery.proofs.Opens.{only_read, reads_opened, room_made, room_unmade}
use Rattle.recovery.proofs.opening.open.Goals.{in-DiskWrite, in_default-matches}
use Rattle.recovery.proofs.opening.open.Goals as goal

pub free-closed-requires : goal.free-closed-requires
free-closed-requires g c =
    let found = c.in-Ok.ensures.found in
    few_ids _ found.store c.in-Ok.opened found.valid found.represents

pub returns-then-closed-ge-RESERVE-clause-opening : goal.returns-then-closed-ge-RESERVE-clause-opening
returns-then-closed-ge-RESERVE-clause-opening g c =
    let view = g.D.Disk.view in
    let read = c.in-Ok.ensures in
    inl (
      reads_opened c.in-Ok.opened (view c.args.disk.now) (view c.open_all.new.disk) c.free-closed.result read.found c.if-closed-ge-RESERVE.true
          (c.free-closed.ensures read.found.store.held read.found.represents.containers read.found.valid.headers) read.durable read.reads,
      tt,
    )

pub make_room-requires : goal.make_room-requires
make_room-requires g c =
    let read = c.in-Ok.ensures in
    record {
      read = record {
        store = read.found.store;
        represents = read.found.represents;
        valid = subst (λ (n : ℕ). IsValidFor n read.found.store) (sym read.reads.only.later.size_is)
            read.found.valid;
      };
      durable = read.durable;
    }

-- no room was made
unmade : (g : _) (c : goal.Joined-matches g) → RoomUnmade c.in-Err-make_room.refusal (g.D.Disk.view c.args.disk.now) (g.D.Disk.view c.make_room.new.disk)
unmade g c =
    let view = g.D.Disk.view in
    let read = c.in-Ok.ensures in
    let closed_is = c.free-closed.ensures read.found.store.held read.found.represents.containers read.found.valid.headers in
    let makes = c.in-Err-make_room.ensures.unmade read.found.store read.found.represents
    (subst (λ (n : ℕ). IsValidFor n read.found.store) (sym read.reads.only.later.size_is) read.found.valid) closed_is in
    room_unmade (view c.args.disk.now) (view c.open_all.new.disk) (view c.make_room.new.disk) read.reads c.in-Ok.opened read.found c.free-closed.result
    c.if-closed-ge-RESERVE.false closed_is makes.later
    c.in-Err-make_room.refusal makes

pub returns-in-Err-make_room-clause-opening : goal.returns-in-Err-make_room-clause-opening
returns-in-Err-make_room-clause-opening g c = inr (inr (unmade g c))

pub returns-in-Err-make_room-clause-wrote : goal.returns-in-Err-make_room-clause-wrote
returns-in-Err-make_room-clause-wrote g c =
    let view = g.D.Disk.view in
    elim c.match-matches.branch [
      | in-DiskWrite w ↦ rw (w.matches-is) (inr (w.in-DiskWrite.is, unmade g c))
      | in_default-matches w ↦ rw (w.matches-is) (only_read c.in-Err-make_room.refusal (view c.args.disk.now) (view c.make_room.new.disk) w.in_default-matches.not-DiskWrite
          (unmade g c))
    ]

-- it was made, and the store was read
made : (g : _) (c : goal.In-Ok-read_with_room g) → RoomMade (g.D.Disk.view c.args.disk.now) (g.D.Disk.view c.make_room.new.disk)
made g c =
    let view = g.D.Disk.view in
    let first = c.in-Ok.ensures in
    let closed_is = c.free-closed.ensures first.found.store.held first.found.represents.containers first.found.valid.headers in
    let makes = c.in_default.ensures.made first.found.store first.found.represents
    (subst (λ (n : ℕ). IsValidFor n first.found.store) (sym first.reads.only.later.size_is) first.found.valid) closed_is in
    room_made (view c.args.disk.now) (view c.open_all.new.disk) (view c.make_room.new.disk) first.reads c.in-Ok.opened first.found c.free-closed.result
    c.if-closed-ge-RESERVE.false closed_is
    makes.steady.later makes

-- and here it was not
made_in_vain : (g : _) (c : goal.In-Err-read_with_room g) → RoomMade (g.D.Disk.view c.args.disk.now) (g.D.Disk.view c.make_room.new.disk)
made_in_vain g c =
    let view = g.D.Disk.view in
    let first = c.in-Ok.ensures in
    let closed_is = c.free-closed.ensures first.found.store.held first.found.represents.containers first.found.valid.headers in
    let makes = c.in_default.ensures.made first.found.store first.found.represents
    (subst (λ (n : ℕ). IsValidFor n first.found.store) (sym first.reads.only.later.size_is) first.found.valid) closed_is in
    room_made (view c.args.disk.now) (view c.open_all.new.disk) (view c.make_room.new.disk) first.reads c.in-Ok.opened first.found c.free-closed.result
    c.if-closed-ge-RESERVE.false closed_is
    makes.steady.later makes

pub returns-in-Ok-read_with_room-clause-opening : goal.returns-in-Ok-read_with_room-clause-opening
returns-in-Ok-read_with_room-clause-opening g c =
    let read = c.in-Ok-read_with_room.ensures in
    inr (inl (c.make_room.new.disk, (made g c, record { opened = read.opened; only = read.only; durable = read.durable; reads = read.reads; refused = read.refused })))

pub returns-in-Err-read_with_room-clause-opening : goal.returns-in-Err-read_with_room-clause-opening
returns-in-Err-read_with_room-clause-opening g c =
    let read = c.in-Err-read_with_room.ensures in
    inr (inl (c.make_room.new.disk, (made_in_vain g c, record { opened = read.opened; only = read.only; durable = read.durable; reads = read.reads; refused = read.refused })))

pub returns-in-Err-read_with_room-clause-wrote : goal.returns-in-Err-read_with_room-clause-wrote
returns-in-Err-read_with_room-clause-wrote g c =
    let read = c.in-Err-read_with_room.ensures in
    inl (c.make_room.new.disk, (made_in_vain g c, record { opened = read.opened; only = read.only; durable = read.durable; reads = read.reads; refused = read.refused }))

use Rattle.ingest_steps.proofs.Prelude.{◌≡◌, ℕ, None, subst, Why, Refusal, passed_on, Shows, Part, part_of, MayClaim, MayNotClaim, IsClaimRefusal}
use Rattle.ingest_steps.specs.Claiming.{DiffersFrom}
use Rattle.ingest_steps.proofs.HeldPins.{of_part, pin_held, is_claimed, keeps_claimed}
use Rattle.ingest_steps.proofs.claiming.claim.Goals as goal

pub returns-in_err-may_claim-clause-refused : goal.returns-in_err-may_claim-clause-refused
returns-in_err-may_claim-clause-refused g c =
    let e = c.in_err-may_claim.field-0.0 in
    let part = part_of c.args.parts.now c.args.actor in
    let old = g.D.Disk.view c.args.disk.now in
    let known = g.X.Index.places c.args.index.now old.content in
    let damaged : ℕ → Why → Type 0 = λ at why. (known ≡ None) × Shows old old (g.X.Index.breaks c.args.index.now at why) in
    let other : Refusal → Type 0 = DiffersFrom old.size known c.args.seg.now (Shows old old) in
    passed_on c.from_residual.result (IsClaimRefusal part c.args.seg.now damaged other) e c.from_residual.ensures.1
    (of_part part c.args.seg.now damaged other e (subst (λ (p : Part). MayNotClaim p c.args.seg.now e) c.part.ensures.part c.in_err-may_claim.ensures.refused))

pub add_pin-requires-clause-pin : goal.add_pin-requires-clause-pin
add_pin-requires-clause-pin g c =
    let old = g.D.Disk.view c.args.disk.now in
    pin_held old.size (g.X.Index.places c.args.index.now old.content) c.args.seg.now (Shows old (g.D.Disk.view c.look_up.new.disk)) c.in_ok-claim.claim c.pin_of.result c.in-Held.is
    c.in_ok-claim.ensures.found c.requires.step c.pin_of.ensures.pin

pub returns-in_ok-add_pin-in-Held-clause-ok : goal.returns-in_ok-add_pin-in-Held-clause-ok
returns-in_ok-add_pin-in-Held-clause-ok g c =
    let old = g.D.Disk.view c.args.disk.now in
    is_claimed c.args.parts.now c.add_pin.new.parts c.args.actor c.args.seg.now c.key.result c.pin_of.result c.key.ensures c.pin_of.ensures.pin
    c.in_ok-add_pin-in-Held.ensures.parts
    old.size (g.X.Index.places c.args.index.now old.content) (Shows old (g.D.Disk.view c.look_up.new.disk)) c.in_ok-claim.claim c.in-Held.is
    (subst (λ (p : Part). MayClaim p c.args.seg.now) c.part.ensures.part c.in_ok-may_claim.ensures.may) c.in_ok-claim.ensures.found

pub returns-in_ok-add_pin-in-Held-clause-kept : goal.returns-in_ok-add_pin-in-Held-clause-kept
returns-in_ok-add_pin-in-Held-clause-kept g c =
    let old = g.D.Disk.view c.args.disk.now in
    keeps_claimed c.args.parts.now c.add_pin.new.parts c.args.actor c.args.seg.now c.key.result c.pin_of.result c.key.ensures c.pin_of.ensures.pin
    c.in_ok-add_pin-in-Held.ensures.parts
    old.size (g.X.Index.places c.args.index.now old.content) old (g.D.Disk.view c.look_up.new.disk) c.in_ok-claim.claim c.in-Held.is c.part.ensures.there c.requires.step
    (subst (λ (p : Part). MayClaim p c.args.seg.now) c.part.ensures.part c.in_ok-may_claim.ensures.may) c.in_ok-claim.ensures.found

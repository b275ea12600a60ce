use Rattle.std.proofs.Common.{◌≡◌, ◌+◌, ◌-◌, ◌∙◌, [], List, ℕ, suc, ap, refl, sym, subst, arith}
use Rattle.base_model.proofs.Outcome.{passed_on}
use Rattle.dd_disk.specs.Ending.{Done, Reads, ending_of}
use Rattle.dd_disk.proofs.Ended.{reads_none, reads_on}
use Rattle.dd_disk.proofs.Moves.{passed}
use Rattle.dd_disk.proofs.Shows.{always}
use Rattle.inspection.specs.Found.{nothing}
use Rattle.inspection.specs.Handing.{Finds, StopsAmong, blames}
use Rattle.inspection.proofs.Steps.{finds_as, finds_none, finds_on, stops_on}
use Rattle.container_log.specs.Inspecting.{slots_found}
use Rattle.container_log.proofs.Inspected.{no_slots}
use Rattle.container_log.proofs.inspecting.inspect_each.Goals as goal

pub loop-slot-init : goal.loop-slot-init
loop-slot-init g c =
    let line = g.S.SpellsDamage.line in
    let v = g.D.Disk.view c.args.disk.now in
    let k = g.K.Sink.view c.args.sink.now in
    let t = c.args.tally.now in
    let all : c.args.slots ≡ c.args.slots - 0 = omega arith in
    record {
      long = c.requires.length;
      room = c.requires.room;
      reads = reads_none v;
      found = subst (λ (n : ℕ). Finds line (slots_found c.args.slots 0 []) (slots_found n 0 c.args.ids.items) v v (k, t) (k, t)) all
          (subst (λ (l : List ℕ). Finds line (slots_found c.args.slots 0 []) (slots_found c.args.slots 0 l) v v (k, t) (k, t)) (sym c.requires.none)
          (finds_none line (slots_found c.args.slots 0 []) v k t));
    }

pub returns-in_err-inspect_slot-clause-stopped : goal.returns-in_err-inspect_slot-clause-stopped
returns-in_err-inspect_slot-clause-stopped g c =
    let line = g.S.SpellsDamage.line in
    let view = g.D.Disk.view in
    let take = g.K.Sink.view in
    let left : suc (c.args.slots - suc c.loop-slot.slot) ≡ c.args.slots - c.loop-slot.slot = omega (arith, c.loop-slot-test.true) in
    passed_on c.from_residual.result _ c.in_err-inspect_slot.field-0.0 c.from_residual.ensures.1
    (stops_on line _ _ _ _ _ _ _ _ _ _ c.loop-slot.invariant.found c.loop-slot.invariant.reads.only c.in_err-inspect_slot.ensures.reads.only.later c.in_err-inspect_slot.field-0.0
    (subst (λ (n : ℕ). StopsAmong line (slots_found n c.loop-slot.slot c.loop-slot.ids.items) (view c.loop-slot.disk) (view c.inspect_slot.new.disk) (take c.loop-slot.sink)
    (take c.inspect_slot.new.sink) c.in_err-inspect_slot.field-0.0) left
    (c.in_err-inspect_slot.ensures.stopped (c.args.slots - suc c.loop-slot.slot))))

pub returns-in_err-inspect_slot-clause-reads : goal.returns-in_err-inspect_slot-clause-reads
returns-in_err-inspect_slot-clause-reads g c =
    let view = g.D.Disk.view in
    passed (λ e. Reads e (view c.args.disk.now) (view c.inspect_slot.new.disk)) blames c.from_residual.result c.in_err-inspect_slot.field-0.0 c.from_residual.ensures.1
    (reads_on (ending_of (blames c.in_err-inspect_slot.field-0.0)) _ _ _ c.loop-slot.invariant.reads c.in_err-inspect_slot.ensures.reads)

pub loop-slot-preserved : goal.loop-slot-preserved
loop-slot-preserved g c =
    let line = g.S.SpellsDamage.line in
    let view = g.D.Disk.view in
    let take = g.K.Sink.view in
    let left : suc (c.args.slots - suc c.loop-slot.slot) ≡ c.args.slots - c.loop-slot.slot = omega (arith, c.loop-slot-test.true) in
    let next : suc c.loop-slot.slot ≡ c.loop-slot.slot + 1 = omega arith in
    record {
      long = c.in_ok-inspect_slot.ensures.length;
      room = omega (arith, c.loop-slot.invariant.room, c.in_ok-inspect_slot.ensures.room);
      reads = reads_on Done _ _ _ c.loop-slot.invariant.reads c.in_ok-inspect_slot.ensures.reads;
      found = finds_on line _ _ _ _ _ _ _ _ _ _ c.loop-slot.invariant.found c.loop-slot.invariant.reads.only c.in_ok-inspect_slot.ensures.reads.only.later
          (slots_found (c.args.slots - (c.loop-slot.slot + 1)) (c.loop-slot.slot + 1) c.inspect_slot.new.ids.items) c.inspect_slot.new.tally
          (subst (λ (m : ℕ). Finds line (slots_found (c.args.slots - c.loop-slot.slot) c.loop-slot.slot c.loop-slot.ids.items)
          (slots_found (c.args.slots - m) m c.inspect_slot.new.ids.items)
          (view c.loop-slot.disk) (view c.inspect_slot.new.disk) (take c.loop-slot.sink, c.loop-slot.tally) (take c.inspect_slot.new.sink, c.inspect_slot.new.tally)) next
          (subst (λ (n : ℕ). Finds line (slots_found n c.loop-slot.slot c.loop-slot.ids.items)
          (slots_found (c.args.slots - suc c.loop-slot.slot) (suc c.loop-slot.slot) c.inspect_slot.new.ids.items)
          (view c.loop-slot.disk) (view c.inspect_slot.new.disk) (take c.loop-slot.sink, c.loop-slot.tally) (take c.inspect_slot.new.sink, c.inspect_slot.new.tally)) left
          (c.in_ok-inspect_slot.ensures.found (c.args.slots - suc c.loop-slot.slot))));
    }

pub returns-clause-found : goal.returns-clause-found
returns-clause-found g c =
    let line = g.S.SpellsDamage.line in
    let none : c.args.slots - c.loop-slot.slot ≡ 0 = omega (arith, c.loop-slot-test.false) in
    finds_as line (slots_found c.args.slots 0 []) (slots_found c.args.slots 0 []) (slots_found (c.args.slots - c.loop-slot.slot) c.loop-slot.slot c.loop-slot.ids.items)
    (λ image. nothing) _ _ _ _ _ _
    (always _ _ _ (λ image sized. refl))
    (always _ _ _ (λ image sized. ap (λ (n : ℕ). slots_found n c.loop-slot.slot c.loop-slot.ids.items image) none ∙ no_slots c.loop-slot.slot c.loop-slot.ids.items image))
    c.loop-slot.invariant.found

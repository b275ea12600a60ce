use Rattle.std.proofs.Common.{rules, ◌≡◌, ℕ, suc, ◌+◌, arith, ◌∙◌}
use Rattle.shared_work.specs.Working.{IsNew}
use Rattle.shared_work.proofs.Taking.{each_more, other_new, stays_new}
use Rattle.shared_work.proofs.working.split_all.Goals as goal

pub loop-worker-preserved : goal.loop-worker-preserved
loop-worker-preserved g c =
    let laws = c.a_workers_pass_comes_free.ensures in
    let state = g.C.HasState.state in
    let o = c.args.core.now.value in
    let store = c.args.store.now in
    let i = c.loop-worker.invariant in
    let n : ℕ = c.loop-worker.worker in
    let next : n + 1 ≡ suc n = omega arith in
    let split = c.split_as-other.ensures.split in
    let other = other_new state o store laws.split 0 (suc n) c.loop-worker.pass c.split_as-other.new.pass c.split_as-other.result i.pass split
    (c.split_as-other.ensures.number ∙ next) in
    let caller : IsNew state o store (suc n) c.new.result.0 = rw c.new.ensures.pass other in record {
      pass = stays_new state o store laws.stays 0 c.loop-worker.pass c.split_as-other.new.pass c.split_as-other.result i.pass split;
      many = search rules;
      room = search rules;
      each = rw c.push_reserved.ensures.items (each_more (λ k x. IsNew state o store (suc k) x.0) c.loop-worker.callers.items c.new.result n i.many i.each caller);
    }

use Rattle.std.proofs.Common.{◌≡◌, All, length, map, reverse}
use Rattle.shared_store.specs.Passes.{IsBusy, PassValue}
use Rattle.shared_work.specs.Working.{JoinsAll}
use Rattle.shared_work.proofs.working.take_in_all.Given as goal

abbrev pub invariant-loop-caller : goal.invariant-loop-caller
invariant-loop-caller g l = record {
  pass : l.pass.store ≡ l.store;
  stores : All (λ c. c.0.store ≡ l.store) l.callers.items;
  free : All (λ c. IsBusy c.0 → ⊥) l.callers.items;
  joins : (last : PassValue g.row.C.Denot) → JoinsAll g.C.HasState.state l.pass (map (λ c. c.0) (reverse l.callers.items)) last
      → JoinsAll g.C.HasState.state l.initial.pass (map (λ c. c.0) (reverse l.initial.callers.items)) last;
}

abbrev pub decreases-loop-caller : goal.decreases-loop-caller
decreases-loop-caller g l = length l.callers.items

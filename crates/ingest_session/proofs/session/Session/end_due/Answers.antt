use Rattle.ingest_session.proofs.Prelude.{◌≤◌, ◌⊎◌, inl, inr, length, arith, the_view}
use Rattle.ingest_session.proofs.SealsSome.{end_seals}
use Rattle.ingest_session.proofs.session.Session.end_due.Goals as goal
use Rattle.ingest_session.proofs.session.Session.end_due.Goals.{then-len-ne0-via-then-len-ne0, then-len-ne0-via-else-len-ne0+then-len-ne0-2}

pub returns-then-len-ne0 : goal.returns-then-len-ne0
returns-then-len-ne0 c =
    let some : 1 ≤ length c.self.inside.aside ⊎ 1 ≤ length c.self.inside.leaves.segments = elim c.then-len-ne0.branch [
      | then-len-ne0-via-then-len-ne0 w ↦ inl (omega arith)
      | then-len-ne0-via-else-len-ne0+then-len-ne0-2 w ↦ inr (omega arith)
    ] in
    rw (← c.self.view_is) (end_seals (the_view c.self.inside) c.self.invariant c.if-not-self.false some)

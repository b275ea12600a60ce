use Rattle.gc_steps.proofs.Prelude.{◌≡◌, inl, inr, true, false, sym, ◌∙◌, refl}
use Rattle.gc_steps.proofs.FreshMarks.{AddsFresh, TellsFresh, marked_already}
use Rattle.gc_steps.proofs.fresh.mark_one.Goals as goal
use Rattle.gc_sweep.proofs.InSlots.{live_anywhere}
use Rattle.base_model.proofs.Outcome.{on_ok}
use Rattle.ingest_steps.proofs.HeldPins.{on_err}

pub returns-then-is_live-clause-ok : goal.returns-then-is_live-clause-ok
returns-then-is_live-clause-ok c = marked_already c.args.live.now c.args.key.now c.any_place.result (c.is_live.ensures.0 c.if-is_live.true)

pub returns-then-is_live-clause-fresh : goal.returns-then-is_live-clause-fresh
returns-then-is_live-clause-fresh c = λ place. inl (live_anywhere c.args.live.now c.args.key.now c.any_place.result place (c.is_live.ensures.0 c.if-is_live.true), refl)

pub returns-clause-fresh : goal.returns-clause-fresh
returns-clause-fresh c =
    on_ok c.mark_key.result (TellsFresh c.args.live.now c.args.key.now c.args.fresh.now.items c.push.new.self.items)
    (λ place. inr (
      λ live. absurd (let wrong : false ≡ true = sym c.if-is_live.false ∙ c.is_live.ensures.1 (live_anywhere c.args.live.now c.args.key.now place c.any_place.result live) in cc),
      c.in_ok-push.ensures.items,
    ))

pub returns-clause-some : goal.returns-clause-some
returns-clause-some c =
    on_err c.mark_key.result (AddsFresh c.args.live.now c.args.key.now c.args.fresh.now.items c.push.new.self.items)
    (λ place. inr (
      λ live. absurd (let wrong : false ≡ true = sym c.if-is_live.false ∙ c.is_live.ensures.1 (live_anywhere c.args.live.now c.args.key.now place c.any_place.result live) in cc),
      c.in_ok-push.ensures.items,
    ))

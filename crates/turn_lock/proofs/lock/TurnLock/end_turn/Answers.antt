use Rattle.std.proofs.Common.{rules, ap, ◌∙◌, ◌∷◌, Some}
use Rattle.atomic_table.specs.Table.{rest}
use Rattle.turn_lock.proofs.Keeps.{posts}
use Rattle.turn_lock.proofs.Turning.{posted_is}
use Rattle.turn_lock.proofs.lock.TurnLock.end_turn.Goals as goal

pub store-requires : goal.store-requires
store-requires g c = let m = c.requires.made in let e = c.exchange-empty.ensures.3 in (
  search rules,
  search rules,
  posts _ _ _ _ _ m.2.ticket m.0 _ m.2.others m.1 c.args.home _ (ap (λ s. s.0.stage) e ∙ m.2.stage_is) (ap (λ s. s.0.numbers) e ∙ m.2.numbers_are)
      (ap (λ s. s.1) e ∙ ap (λ l. (0, Some c.args.home) ∷ rest l) m.2.out) m.3 m.4 c.lines-lines.ensures,
)

pub pass_on-requires-clause-turn : goal.pass_on-requires-clause-turn
pass_on-requires-clause-turn g c = let m = c.requires.made in let e = c.exchange-empty.ensures.3 in
    let p = posted_is m.0 0 m.2.others c.args.home _ _ (ap (λ s. s.0.numbers) e ∙ m.2.numbers_are) (ap (λ s. s.1) e
    ∙ ap (λ l. (0, Some c.args.home) ∷ rest l) m.2.out) c.store.ensures.2 in
    (_, c.args.home, ap (λ s. s.0.stage) p, ap (λ s. s.1) p)

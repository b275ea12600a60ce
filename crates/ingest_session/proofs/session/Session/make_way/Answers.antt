use Rattle.ingest_session.proofs.Prelude.{◌≡◌, ◌∙◌, ◌<◌, true, sym, ap, rules, subst, puts_aside, SessionState, SetAside, to_do}
use Rattle.ingest_session.specs.Settling.{Stays, seen}
use Rattle.ingest_session.proofs.Puts.{aside_seen}
use Rattle.ingest_session.proofs.Settled.{settles_by}
use Rattle.ingest_session.proofs.Working.{aside_is_less}
use Rattle.ingest_session.proofs.session.Session.make_way.Goals as goal

pub returns-then-not-puts_aside-clause-settles : goal.returns-then-not-puts_aside-clause-settles
returns-then-not-puts_aside-clause-settles c = Stays c.args.self.now

pub returns-in_err-set_aside-clause-settles : goal.returns-in_err-set_aside-clause-settles
returns-in_err-set_aside-clause-settles c = rw c.in_err-set_aside.ensures.err (Stays c.args.self.now)

pub returns-clause-less : goal.returns-clause-less
returns-clause-less c = λ so.
    (let puts : puts_aside c.args.self.now ≡ true = search rules in
    subst (λ (u : SessionState). to_do u < to_do c.args.self.now) (sym c.in_ok-set_aside.ensures.ok) (aside_is_less c.args.self.now c.sound.ensures puts))

pub returns-clause-settles : goal.returns-clause-settles
returns-clause-settles c =
    let puts : puts_aside c.args.self.now ≡ true = search rules in
    settles_by c.sound-2.ensures
    (SetAside c.args.self.now c.set_aside.new.self c.sound.ensures c.requires.placed.none c.requires.placed.turn puts c.in_ok-set_aside.ensures.ok)

pub returns-clause-seen : goal.returns-clause-seen
returns-clause-seen c =
    let puts : puts_aside c.args.self.now ≡ true = search rules in
    ap seen c.in_ok-set_aside.ensures.ok ∙ aside_seen c.args.self.now c.sound.ensures puts

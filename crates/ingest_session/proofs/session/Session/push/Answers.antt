use Rattle.ingest_session.proofs.Prelude.{◌≡◌, false, take, refl, arith, rules, Pushed}
use Rattle.std.proofs.Math.Seq.{take-add}
use Rattle.ingest_session.proofs.Cuts.{cuts_few_more}
use Rattle.ingest_session.proofs.Takes.{takes_more, takes_none}
use Rattle.ingest_session.proofs.session.Session.push.Goals as goal

pub loop-taken-init : goal.loop-taken-init
loop-taken-init c = record {
  within = search rules;
  ongoing = search rules;
  few = search rules;
  none = λ zero. refl;
  few_cuts = λ cut. absurd (omega (arith, cut));
  takes = let ongoing : c.args.self.now.ended ≡ false = search rules in takes_none c.args.self.now ongoing;
}

pub loop-taken-preserved : goal.loop-taken-preserved
loop-taken-preserved c =
    let before = c.loop-taken.invariant in
    let n = c.loop-taken.taken in
    let m = c.take_piece-taken.result in
    record {
      within = search rules;
      ongoing = before.ongoing;
      few = before.few;
      none = λ zero. absurd (omega (arith, c.take_piece-taken.ensures.some));
      few_cuts =
          cuts_few_more (take n c.args.bytes.now) n m c.args.self.now c.loop-taken.self c.take_piece-taken.new.self before.takes before.few_cuts
          c.take_piece-taken.ensures.cuts c.take_piece-taken.ensures.some;
      takes =
          rw (take-add n m c.args.bytes.now, ← c.split_at.ensures.back)
          (takes_more (take n c.args.bytes.now) (take m c.split_at.result.1.now) c.args.self.now c.loop-taken.self c.take_piece-taken.new.self
          before.takes c.take_piece-taken.ensures.takes);
    }

pub returns-clause-history : goal.returns-clause-history
returns-clause-history c = λ h has.
    Pushed c.args.self.now c.loop-taken.self h (take c.loop-taken.taken c.args.bytes.now) has c.sound.ensures c.loop-taken.invariant.takes

use Rattle.std.proofs.Common.{rules, ◌≡◌, All, List, [], ◌∷◌, ◌++◌, map, reverse, sym, subst}
use Rattle.std.proofs.lemmas.List.Elements.{All-append}
use Rattle.ingest_workers.specs.declared.workers.Worker.{Worker}
use Rattle.ingest_workers.specs.Working.{IsReady}
use Rattle.ingest_workers.proofs.Seats.{all_fewer, all_last, all_one, seated}
use Rattle.ingest_workers.proofs.running.seat.Goals as goal

pub loop-caller-preserved : goal.loop-caller-preserved
loop-caller-preserved g c =
    let desk = c.in-Some-pop.desk in
    let desks = c.in-Some-pop.ensures.items in
    let w : Worker g.row.S.Denot = record { caller = c.new.result; desk = desk } in
    let ws = c.loop-caller.workers.items in
    let pushed = c.push_reserved.ensures.items in
    let ready = all_last (IsReady c.args.jobs) c.pop-in-Some.new.self.items c.loop-caller.desks.items desk desks c.loop-caller.invariant.desks in
    record {
      many = search rules;
      desks = all_fewer (IsReady c.args.jobs) c.pop-in-Some.new.self.items c.loop-caller.desks.items desk desks c.loop-caller.invariant.desks;
      room = search rules;
      callers = subst (λ (l : List (Worker g.row.S.Denot)). map (λ x. x.caller) l ++ reverse c.pop.new.self.items ≡ reverse c.args.callers.now.items) (sym pushed)
          (seated (λ x. x.caller) ws w c.loop-caller.callers.items c.pop.new.self.items c.in-Some.caller (reverse c.args.callers.now.items) c.in-Some.ensures.items c.new.ensures
          c.loop-caller.invariant.callers);
      ready = subst (All (λ x. IsReady c.args.jobs x.desk)) (sym pushed) (All-append (λ x. IsReady c.args.jobs x.desk) ws (w ∷ []) c.loop-caller.invariant.ready
          (all_one (λ x. IsReady c.args.jobs x.desk) w ready));
      capacity = search rules;
    }

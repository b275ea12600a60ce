use Rattle.std.proofs.Common.{rules, ◌≡◌, ◌<◌, ℕ, List, length, map, reverse, get_or, sym, ap, ◌∙◌, subst}
use Rattle.std.proofs.lemmas.List.{length-map, reverse-reverse}
use Rattle.ingest_workers.specs.declared.workers.Worker.{Worker}
use Rattle.ingest_workers.specs.Working.{AreGathered, HasDone}
use Rattle.ingest_workers.proofs.Ended.{all_ended, did_there}
use Rattle.ingest_workers.proofs.Seats.{map_reversed, written}
use Rattle.ingest_workers.proofs.running.run_jobs.Goals as goal

pub returns-clause-ended : goal.returns-clause-ended
returns-clause-ended g c =
    let W = Worker g.row.S.Denot in
    let f : W → g.row.S.Denot = λ w. w.caller in
    let jobs = c.args.jobs.now in
    let ws = c.seat.new.workers.items in
    let vs = c.for_each_mut.new.s in
    let old_is : map f ws ≡ c.args.callers.items = c.seat.ensures.callers ∙ ap reverse c.reverse.ensures.items ∙ reverse-reverse c.args.callers.items in
    let many : length vs ≡ length ws = search rules in
    let len_is : c.seat.new.workers.len ≡ length vs = search rules in
    let turned : c.reverse-2.new.self.items ≡ reverse vs = c.reverse-2.ensures.items ∙ ap reverse (written c.seat.new.workers.len vs _ len_is) in
    let new_is : c.unseat.new.callers.items ≡ map f vs = c.unseat.ensures ∙ ap (λ (l : List W). reverse (map f l)) turned ∙ ap reverse (map_reversed f vs)
    ∙ reverse-reverse (map f vs) in
    let gathered = subst (λ (l : List W). AreGathered l jobs c.gather.new.ends.items) (c.deref.ensures.value ∙ written c.seat.new.workers.len vs _ len_is) c.gather.ensures in
    let did : (number : ℕ) (d : W) → number < length ws → HasDone g.S.StoreCalls.asks jobs (length ws) number (get_or ws number d) (get_or vs number d) =
    λ number d below.
    let mine = c.deref_mut.ensures.value in
    let at = (c.for_each_mut.ensures number d (subst (λ (l : List W). number < length l) (sym mine) below)).1 in
    let is : at.argument.now ≡ get_or ws number d = at.argument_is ∙ ap (λ (l : List W). get_or l number d) mine in
    let a = ap length old_is in let b = length-map ws f in
    let same : c.len-count.result ≡ length ws = search rules in
    let done : HasDone g.S.StoreCalls.asks jobs c.len-count.result number at.argument.now at.after_call.now = search rules in
    did_there g.S.StoreCalls.asks jobs c.len-count.result (length ws) number at.argument.now at.after_call.now (get_or ws number d) (get_or vs number d) is at.left same done in
    all_ended g.S.StoreCalls.asks jobs c.gather.new.ends.items c.args.callers.items c.unseat.new.callers.items ws vs old_is new_is many gathered did

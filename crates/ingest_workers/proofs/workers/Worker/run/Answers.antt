use Rattle.std.proofs.Common.{rules, ◌<◌, ◌+◌, ◌==◌, ℕ, List, [], ◌∷◌, ◌++◌, length, take, get_or, sym, ap, subst, ◌∙◌}
use Rattle.std.proofs.lemmas.List.{take_more}
use Rattle.ingest_workers.specs.declared.job.Job.{Job}
use Rattle.ingest_workers.specs.declared.job.JobEnd.{JobEnd}
use Rattle.ingest_workers.specs.Jobs.{OwnJobs}
use Rattle.ingest_workers.specs.Working.{OwnJob}
use Rattle.ingest_workers.proofs.Feeding.{asks_append}
use Rattle.ingest_workers.proofs.Owned.{one_more}
use Rattle.ingest_workers.proofs.workers.Worker.run.Goals as goal

pub loop-i-preserved : goal.loop-i-preserved
loop-i-preserved g c =
    let i : ℕ = c.loop-i.i in
    let jobs : List Job = c.args.jobs.now in
    let d : Job = record { number = 0; seed = 0; length = 0 } in
    let job : Job = get_or jobs i d in
    let below : i < length jobs = search rules in
    let kept = c.loop-i.invariant in
    let own = kept.own in
    let mine = c.do_own-end.ensures.own in
    let is_mine = subst (λ (n : ℕ). OwnJob (n == c.args.number) job c.do_own-end.result mine.0) c.worker_of.ensures.value mine.2 in
    let more = one_more c.args.count c.args.number (take i jobs) c.loop-i.self.desk.ends.items job c.do_own-end.result own.0 mine.0 own.2 is_mine in
    let ends_are = c.push_reserved.ensures.items ∙ ap (λ (v : _). v.items ++ c.do_own-end.result ∷ []) c.do_own-end.ensures.ends in
    record {
      own = (
        own.0 ++ mine.0,
        asks_append g.S.StoreCalls.asks c.args.self.now.caller c.loop-i.self.caller c.do_own-end.new.self.caller own.0 mine.0 own.1 mine.1,
        subst (λ (l : List JobEnd). OwnJobs c.args.count c.args.number (take (i + 1) jobs) l (own.0 ++ mine.0)) (sym ends_are)
            (subst (λ (l : List Job). OwnJobs c.args.count c.args.number l (c.loop-i.self.desk.ends.items ++ c.do_own-end.result ∷ []) (own.0 ++ mine.0))
            (sym (take_more jobs i d below)) more),
      );
      many = search rules;
      room = search rules;
    }

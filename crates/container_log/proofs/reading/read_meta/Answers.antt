use Rattle.std.proofs.Common.{rules}
use Rattle.base_model.proofs.Outcome.{map_ok}
use Rattle.dd_disk.proofs.Shows.{always, weaker}
use Rattle.container_meta.specs.Spelling.{view}
use Rattle.container_log.proofs.Slots.{holds_spelled, spelled_of}
use Rattle.container_log.proofs.reading.read_meta.Goals as goal

pub returns-in_err-buffer-clause-only : goal.returns-in_err-buffer-clause-only
returns-in_err-buffer-clause-only g c = always _ _ _ (λ image sized h holds. search rules)

pub returns-in_err-count-clause-only : goal.returns-in_err-count-clause-only
returns-in_err-count-clause-only g c = always _ _ _ (λ image sized h holds. search rules)

pub returns-clause-shown : goal.returns-clause-shown
returns-clause-shown g c =
    map_ok c.header_in.result _ _ (λ m found. weaker _ _ (λ image sized read. holds_spelled c.args.slot image _ read (view m) found) c.in_ok-count.ensures.shown)
    c.header_in.ensures.found

pub returns-clause-only : goal.returns-clause-only
returns-clause-only g c =
    weaker _ _ (λ image sized read h holds. c.header_in.ensures.only h (spelled_of c.args.slot image _ read c.in_ok-count.ensures.reach h holds)) c.in_ok-count.ensures.shown

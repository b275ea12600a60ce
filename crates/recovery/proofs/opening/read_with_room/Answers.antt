use Rattle.recovery.proofs.Prelude.{◌≤◌, ◌∙◌, ap, subst, weaker, Store, free_slots, store_once, Represents, few_ids}
use Rattle.recovery.proofs.Steps.{opens_passed}
use Rattle.recovery.proofs.opening.read_with_room.Goals as goal

pub returns-in_err-opened-clause-only : goal.returns-in_err-opened-clause-only
returns-in_err-opened-clause-only g c =
    weaker _ _ (λ image sized none store right. opens_passed store c.from_residual.result c.in_err-opened.field-0.0 c.from_residual.ensures.1 (none store right))
    c.in_err-opened.ensures.only

pub free-free-requires : goal.free-free-requires
free-free-requires g c =
    let found = c.in_ok-opened.ensures.found in
    few_ids _ found.store c.in_ok-opened.opened found.valid found.represents

pub returns-then-free-lt-RESERVE-clause-only : goal.returns-then-free-lt-RESERVE-clause-only
returns-then-free-lt-RESERVE-clause-only g c =
    let found = c.in_ok-opened.ensures.found in
    weaker _ _ (λ image sized right store other. (
      c.free-free.ensures found.store.held found.represents.containers found.valid.headers ∙ ap (λ (s : Store). free_slots s.held) (store_once image found.store store right other),
      c.if-free-lt-RESERVE.true,
    )) found.right

pub returns-then-free-lt-RESERVE-clause-refused : goal.returns-then-free-lt-RESERVE-clause-refused
returns-then-free-lt-RESERVE-clause-refused g c =
    let found = c.in_ok-opened.ensures.found in
    record {
      store = found.store;
      valid = found.valid;
      free_is = c.free-free.ensures found.store.held found.represents.containers found.valid.headers;
      few = c.if-free-lt-RESERVE.true;
      right = found.right;
    }

pub returns-clause-opened : goal.returns-clause-opened
returns-clause-opened g c =
    let found = c.in_ok-opened.ensures.found in
    record { found = found; reserve = subst (λ n. 2 ≤ n) (c.free-free.ensures found.store.held found.represents.containers found.valid.headers) c.if-free-lt-RESERVE.false }

pub returns-clause-only : goal.returns-clause-only
returns-clause-only g c =
    let found = c.in_ok-opened.ensures.found in
    weaker _ _ (λ image sized right store other. subst (λ (s : Store). Represents s c.in_ok-opened.opened) (store_once image found.store store right other) found.represents)
    found.right

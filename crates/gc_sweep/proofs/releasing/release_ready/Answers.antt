use Rattle.gc_sweep.proofs.Prelude.{◌<◌, ◌≢◌, ℕ, List, AllByRecursion, ChangesGatesAlone, GivesBack, HasFreed, Tables, get_or, length, nat_eq, arith, subst, sym}
use Rattle.std.specs.List.{IsDistinct}
use Rattle.gc_sweep.proofs.Freed.{are_once, are_there, are_within, counts_now, few_freed, freed_on, left, many_now}
use Rattle.gc_sweep.proofs.releasing.release_ready.Goals as goal

pub give_back_all-requires-clause-within : goal.give_back_all-requires-clause-within
give_back_all-requires-clause-within g c =
    subst (AllByRecursion (λ (slot : ℕ). slot < length c.args.tables.now.held.ids.items)) (sym c.deref.ensures.value)
    (are_within c.args.source c.args.entry c.requires.under_way.0 c.args.tables.now c.args.sweep.now c.requires.next c.requires.under_way.1)

pub give_back_all-requires-clause-there : goal.give_back_all-requires-clause-there
give_back_all-requires-clause-there g c =
    subst (AllByRecursion (λ (slot : ℕ). get_or c.args.tables.now.held.ids.items slot 0 ≢ 0)) (sym c.deref.ensures.value)
    (are_there c.args.source c.args.entry c.requires.under_way.0 c.args.tables.now c.args.sweep.now c.requires.next c.requires.under_way.1)

pub give_back_all-requires-clause-once : goal.give_back_all-requires-clause-once
give_back_all-requires-clause-once g c =
    subst (IsDistinct nat_eq) (sym c.deref.ensures.value)
    (are_once c.args.source c.args.entry c.requires.under_way.0 c.args.tables.now c.args.sweep.now c.requires.next c.requires.under_way.1)

pub take_released-requires-clause-few_freed : goal.take_released-requires-clause-few_freed
take_released-requires-clause-few_freed g c =
    omega (arith, few_freed c.args.source c.args.entry c.requires.under_way.0 c.args.tables.now c.args.sweep.now c.requires.next c.requires.under_way.1)

pub take_released-requires-clause-there : goal.take_released-requires-clause-there
take_released-requires-clause-there g c = λ below.
    let t = c.args.tables.now in
    let s = c.args.sweep.now in
    let under = c.requires.under_way in
    let freed = subst (λ (slots : List ℕ). HasFreed t slots c.give_back_all.new.tables) c.deref.ensures.value c.in_ok-give_back_all.ensures.ok in
    (left (g.D.Disk.view c.args.disk.now).size c.args.source c.args.entry under.0 c.requires.runs.0 t c.give_back_all.new.tables s c.requires.runs.1 c.requires.next
    freed under.1).there c.args.source (omega arith) below

pub take_released-requires-clause-few : goal.take_released-requires-clause-few
take_released-requires-clause-few g c =
    let under = c.requires.under_way in
    let freed = subst (λ (slots : List ℕ). HasFreed c.args.tables.now slots c.give_back_all.new.tables) c.deref.ensures.value c.in_ok-give_back_all.ensures.ok in
    many_now (g.D.Disk.view c.args.disk.now).size c.args.source c.args.entry under.0 c.requires.runs.0 c.args.tables.now c.give_back_all.new.tables c.args.sweep.now
    c.requires.runs.1
    c.requires.next freed under.1

pub take_released-requires-clause-counts : goal.take_released-requires-clause-counts
take_released-requires-clause-counts g c =
    let under = c.requires.under_way in
    let freed = subst (λ (slots : List ℕ). HasFreed c.args.tables.now slots c.give_back_all.new.tables) c.deref.ensures.value c.in_ok-give_back_all.ensures.ok in
    counts_now (g.D.Disk.view c.args.disk.now).size c.args.source c.args.entry under.0 c.requires.runs.0 c.args.tables.now c.give_back_all.new.tables c.args.sweep.now
    c.requires.runs.1 c.requires.next freed under.1

pub returns-clause-under_way : goal.returns-clause-under_way
returns-clause-under_way g c = λ snapshot under.
    let freed = subst (λ (slots : List ℕ). HasFreed c.args.tables.now slots c.give_back_all.new.tables) c.deref.ensures.value c.in_ok-give_back_all.ensures.ok in
    freed_on (g.D.Disk.view c.args.disk.now).size c.args.source c.args.entry snapshot c.requires.runs.0 c.args.tables.now c.give_back_all.new.tables c.args.sweep.now
    c.requires.runs.1 c.requires.next freed under c.take_released.new.sweep c.take_released.ensures

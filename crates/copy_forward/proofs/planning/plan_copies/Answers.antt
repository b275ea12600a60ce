use Rattle.std.proofs.Common.{ℕ, ◌+◌, List, length, drop, ap, sym, subst, refl, [], arith, length-drop, ◌∙◌}
use Rattle.std.specs.Prelude.{◌==◌}
use Rattle.std.specs.List.{AllByRecursion}
use Rattle.container_meta.specs.declared.entry.Entry.{Entry}
use Rattle.container_meta.specs.Spelling as header
use Rattle.dd_disk.specs.Shows.{Shows}
use Rattle.copy_forward.specs.Planning.{IsAllowed, planned, source_of}
use Rattle.copy_forward.proofs.Planned.{all_allowed, all_planned, allowed_from, from_first, grows, room_in_none}
use Rattle.copy_forward.proofs.planning.plan_copies.Goals as goal

pub plan_rest-requires-clause-allowed : goal.plan_rest-requires-clause-allowed
plan_rest-requires-clause-allowed g c =
    let kind = c.args.meta.now.kind in
    let entries = c.args.meta.now.entries.items in
    subst (λ (es : List Entry). AllByRecursion (IsAllowed kind) es) (sym c.entries_from-entries.ensures)
    (allowed_from kind c.args.from entries (all_allowed kind [] entries c.requires.right.entries))

pub overflow_sub-copied : goal.overflow_sub-copied
overflow_sub-copied g c =
    let view = g.D.Disk.view in
    let old = view c.args.disk.now in
    let s = source_of (g.X.Index.places c.args.index.now old.content) c.args.live.now c.args.slot c.args.meta.now.kind in
    let copy = c.in_ok-copy.copy in
    let grown = grows s (Shows old (view c.plan_rest.new.disk)) c.entries_from-entries.result.now (planned copy c.new-dead.result.items)
    (planned c.plan_rest.new.buffer c.plan_rest.new.dead.items)
    c.in_ok-count.count c.in_ok-count.ensures.takes in
    omega (arith, grown.more, c.len.ensures, c.len-2.ensures, ap (λ v. length v.segments) c.in_ok-copy.ensures)

pub returns-clause-plan : goal.returns-clause-plan
returns-clause-plan g c =
    let view = g.D.Disk.view in
    let old = view c.args.disk.now in
    let s = source_of (g.X.Index.places c.args.index.now old.content) c.args.live.now c.args.slot c.args.meta.now.kind in
    let shown = Shows old (view c.plan_rest.new.disk) in
    let entries = c.args.meta.now.entries.items in
    let copy = c.in_ok-copy.copy in
    let after = planned c.plan_rest.new.buffer c.plan_rest.new.dead.items in
    let takes = from_first s shown c.entries_from-entries.result.now (drop c.args.from entries) copy c.args.buffer.now c.new-dead.result.items after c.in_ok-count.count
    c.entries_from-entries.ensures c.in_ok-copy.ensures c.new-dead.ensures.items c.in_ok-count.ensures.takes in
    let grown = grows s shown (drop c.args.from entries) (planned c.args.buffer.now []) after c.in_ok-count.count takes in
    record {
      passed = c.in_ok-count.count;
      takes = takes;
      next_is = refl;
      whole = λ none.
          let all = all_planned s shown (drop c.args.from entries) (planned c.args.buffer.now []) after c.in_ok-count.count
          (room_in_none (header.view c.args.meta.now) c.args.from c.args.buffer.now c.requires.right c.requires.from none) takes in
          omega (arith, all, length-drop c.args.from entries, c.requires.from);
      ended_is = ap (λ (n : ℕ). c.args.from + c.in_ok-count.count == n) (c.len-3.ensures ∙ c.args.meta.now.entries.ok.0);
      within = omega (arith, c.in_ok-count.ensures.within, ap length c.entries_from-entries.ensures, length-drop c.args.from entries, c.requires.from);
      kind_is = grown.kind_is;
      copied_is = omega (arith, grown.more, c.len.ensures, c.len-2.ensures);
    }

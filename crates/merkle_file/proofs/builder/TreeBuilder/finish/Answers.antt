use Rattle.merkle_file.proofs.Prelude.{◌≡◌, ◌++◌, List, [], length, ap, sym, subst, ◌∙◌, arith, Vec, Contents, Child, MOST_LEVEL, Progress, Holds, levels_left, items_of}
use Rattle.merkle_file.specs.Steps.{close}
use Rattle.merkle_file.proofs.Placing.{length-items}
use Rattle.merkle_file.proofs.Added.{added_closed}
use Rattle.merkle_file.proofs.Progress.{cleared, fresh_progress, finished_holds}
use Rattle.merkle_file.proofs.builder.TreeBuilder.finish.Goals as goal

pub invariant_of-self-2 : goal.invariant_of-self-2
invariant_of-self-2 c =
    let len : length c.clear.new.rows ≡ c.self.inside.rows.len = omega (arith, c.clear.auto.rows, c.deref_mut.ensures.len) in
    let six : length c.deref_mut.result.now ≡ MOST_LEVEL =
    omega (arith, ap (λ (rs : List (Vec Child)). length rs) c.deref_mut.ensures.value, length-items c.self.inside.rows.items, c.self.invariant.levels) in
    fresh_progress _ c.append.new.self.items (cleared c.self.inside.rows.len c.clear.new.rows c.deref_mut.result.now _ len c.clear.ensures six)

pub returns-clause-top : goal.returns-clause-top
returns-clause-top c = λ pushed taken holds.
    c.in_ok-closed.ensures.top
    ∙ ap (λ (rs : List (Vec Child)). (close 0 [] (items_of rs)).top) c.deref.ensures.value
    ∙ (finished_holds (items_of c.self.inside.rows.items) c.self.inside.finished.items c.self.inside.leaves pushed taken c.self.invariant
    (subst (λ (b : Progress). Holds b pushed taken) (sym c.self.view_is) holds)).0

pub returns-clause-nodes : goal.returns-clause-nodes
returns-clause-nodes c = λ pushed taken holds.
    ap (λ (ns : List Contents). taken ++ ns) (c.in_ok-append.ensures.items
    ∙ ap (λ (ns : List Contents). c.self.inside.finished.items ++ ns)
    (c.in_ok-closed.ensures.nodes ∙ ap (λ (rs : List (Vec Child)). (close 0 [] (items_of rs)).nodes) c.deref.ensures.value))
    ∙ (finished_holds (items_of c.self.inside.rows.items) c.self.inside.finished.items c.self.inside.leaves pushed taken c.self.invariant
    (subst (λ (b : Progress). Holds b pushed taken) (sym c.self.view_is) holds)).1

pub returns-clause-added : goal.returns-clause-added
returns-clause-added c =
    let finished : List Contents = c.self.inside.finished.items in
    let same : length finished ≡ length c.args.self.now.finished = ap (λ (b : Progress). length b.finished) c.self.view_is in
    let rows : levels_left (items_of c.self.inside.rows.items) ≡ levels_left c.args.self.now.rows = ap (λ (b : Progress). levels_left b.rows) c.self.view_is in
    omega (
      arith,
      same,
      rows,
      added_closed (items_of c.self.inside.rows.items) finished c.append.new.self.items
          (c.in_ok-append.ensures.items
          ∙ ap (λ (ns : List Contents). finished ++ ns)
          (c.in_ok-closed.ensures.nodes ∙ ap (λ (rs : List (Vec Child)). (close 0 [] (items_of rs)).nodes) c.deref.ensures.value)),
    )

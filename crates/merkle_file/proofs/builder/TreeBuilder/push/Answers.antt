use Rattle.merkle_file.proofs.Prelude.{◌≡◌, ◌+◌, ◌++◌, List, drop, length, ap, sym, subst, ◌∙◌, arith, take_at, Vec, Child, Contents, Progress, MayPush, Holds, items_of}
use Rattle.std.proofs.Common.{rules}
use Rattle.merkle_file.specs.Building.{total_of}
use Rattle.merkle_file.specs.Steps.{place}
use Rattle.merkle_file.proofs.Added.{added_placed}
use Rattle.merkle_file.proofs.Progress.{pushed_holds, pushed_progress, pushed_total}
use Rattle.merkle_file.proofs.builder.TreeBuilder.push.Goals as goal

pub invariant_of-self-2 : goal.invariant_of-self-2
invariant_of-self-2 c =
    let len : length c.place_leaf.new.rows ≡ c.self.inside.rows.len = omega (arith, c.place_leaf.auto.rows, c.deref_mut.ensures.len) in
    let may = subst (λ (b : Progress). MayPush b c.args.child) (sym c.self.view_is) c.requires in
    let digest : length c.args.child.digest ≡ 32 = search rules in
    let whole = take_at c.place_leaf.new.rows (drop (length c.place_leaf.new.rows) c.self.inside.rows.items) c.self.inside.rows.len len in
    pushed_progress (items_of c.self.inside.rows.items) _ c.self.inside.finished.items c.place_leaf.new.finished.items c.self.inside.leaves c.args.child c.self.invariant may digest
    (ap items_of whole ∙ c.in_ok-place_leaf.ensures.rows ∙ ap (λ (rs : List (Vec Child)). (place 0 c.args.child (items_of rs)).rows) c.deref_mut.ensures.value)

pub returns-clause-few : goal.returns-clause-few
returns-clause-few c = invariant_of-self-2 c

pub returns-clause-pushed : goal.returns-clause-pushed
returns-clause-pushed c = λ pushed taken holds.
    let len : length c.place_leaf.new.rows ≡ c.self.inside.rows.len = omega (arith, c.place_leaf.auto.rows, c.deref_mut.ensures.len) in
    let may = subst (λ (b : Progress). MayPush b c.args.child) (sym c.self.view_is) c.requires in
    let digest : length c.args.child.digest ≡ 32 = search rules in
    let whole = take_at c.place_leaf.new.rows (drop (length c.place_leaf.new.rows) c.self.inside.rows.items) c.self.inside.rows.len len in
    pushed_holds (items_of c.self.inside.rows.items) _ c.self.inside.finished.items c.place_leaf.new.finished.items c.self.inside.leaves c.args.child pushed taken c.self.invariant
    may digest
    (ap items_of whole ∙ c.in_ok-place_leaf.ensures.rows ∙ ap (λ (rs : List (Vec Child)). (place 0 c.args.child (items_of rs)).rows) c.deref_mut.ensures.value)
    (c.in_ok-place_leaf.ensures.nodes ∙ ap (λ (rs : List (Vec Child)). c.self.inside.finished.items ++ (place 0 c.args.child (items_of rs)).nodes) c.deref_mut.ensures.value)
    (subst (λ (b : Progress). Holds b pushed taken) (sym c.self.view_is) holds)

pub returns-clause-length : goal.returns-clause-length
returns-clause-length c =
    let len : length c.place_leaf.new.rows ≡ c.self.inside.rows.len = omega (arith, c.place_leaf.auto.rows, c.deref_mut.ensures.len) in
    let may = subst (λ (b : Progress). MayPush b c.args.child) (sym c.self.view_is) c.requires in
    let digest : length c.args.child.digest ≡ 32 = search rules in
    let whole = take_at c.place_leaf.new.rows (drop (length c.place_leaf.new.rows) c.self.inside.rows.items) c.self.inside.rows.len len in
    let total : total_of (items_of c.self.inside.rows.items) ≡ total_of c.args.self.now.rows = ap (λ (b : Progress). total_of b.rows) c.self.view_is in
    pushed_total (items_of c.self.inside.rows.items) _ c.self.inside.finished.items c.self.inside.leaves c.args.child c.self.invariant may digest
    (ap items_of whole ∙ c.in_ok-place_leaf.ensures.rows ∙ ap (λ (rs : List (Vec Child)). (place 0 c.args.child (items_of rs)).rows) c.deref_mut.ensures.value)
    ∙ ap (λ n. n + c.args.child.length) total

pub returns-clause-added : goal.returns-clause-added
returns-clause-added c =
    let finished : List Contents = c.self.inside.finished.items in
    let same : length finished ≡ length c.args.self.now.finished = ap (λ (b : Progress). length b.finished) c.self.view_is in
    let len : length c.place_leaf.new.rows ≡ c.self.inside.rows.len = omega (arith, c.place_leaf.auto.rows, c.deref_mut.ensures.len) in
    let whole = take_at c.place_leaf.new.rows (drop (length c.place_leaf.new.rows) c.self.inside.rows.items) c.self.inside.rows.len len in
    omega (
      arith,
      same,
      added_placed c.args.child (items_of c.self.inside.rows.items) _ finished c.place_leaf.new.finished.items c.self.invariant.levels
          (ap items_of whole ∙ c.in_ok-place_leaf.ensures.rows ∙ ap (λ (rs : List (Vec Child)). (place 0 c.args.child (items_of rs)).rows) c.deref_mut.ensures.value)
          (c.in_ok-place_leaf.ensures.nodes ∙ ap (λ (rs : List (Vec Child)). finished ++ (place 0 c.args.child (items_of rs)).nodes) c.deref_mut.ensures.value),
    )

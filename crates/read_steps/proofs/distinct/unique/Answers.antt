use Rattle.std.proofs.Common.{ℕ, List, map, sym, subst, ◌∙◌}
use Rattle.base_model.proofs.Outcome.{passed_on}
use Rattle.namespace.specs.Listing.{NamedRoot, listed_value, listing_of}
use Rattle.store_model.specs.Unique.{KeySizes}
use Rattle.read_steps.specs.Trees.{AllHeld, NotesTrees}
use Rattle.read_steps.specs.Unique.{CountsTrees}
use Rattle.read_steps.proofs.SizedKeys.{NotesSize, no_sizes, sizes_of}
use Rattle.read_steps.proofs.distinct.unique.Goals as goal

pub returns-in_err-walk_trees-clause-failed : goal.returns-in_err-walk_trees-clause-failed
returns-in_err-walk_trees-clause-failed g c =
    passed_on c.from_residual-in_err-walk_trees.result _ c.in_err-walk_trees.field-0.0 c.from_residual-in_err-walk_trees.ensures.1
    (λ counts held image indexed all. c.in_err-walk_trees.ensures.failed counts held image indexed
    (subst (AllHeld counts held image) (sym (c.names.ensures ∙ c.in_ok-files.ensures)) all))

pub returns-in-Some-clause-counts : goal.returns-in-Some-clause-counts
returns-in-Some-clause-counts g c =
    let old = g.D.Disk.view c.args.disk.now in
    let new = g.D.Disk.view c.walk_trees.new.disk in
    let index = c.args.index.now in
    let sizes : KeySizes = c.walk_trees.new.notes in
    let roots = listing_of c.args.names.now in
    subst (λ (n : ℕ). CountsTrees index old new roots n c.in-Some.bytes) (sym c.count.ensures)
    (sizes_of index old new roots sizes c.in-Some.bytes
    (subst (λ (ns : List NamedRoot). NotesTrees KeySizes NotesSize index old new ns no_sizes sizes) (c.names.ensures ∙ c.in_ok-files.ensures)
    (subst (λ (from : KeySizes). NotesTrees KeySizes NotesSize index old new (map listed_value c.names.result.now) from sizes) c.new-sizes.ensures
    c.in_ok-walk_trees.ensures.notes))
    c.in-Some.ensures)

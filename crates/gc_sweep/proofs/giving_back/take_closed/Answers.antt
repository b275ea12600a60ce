use Rattle.gc_sweep.proofs.Prelude.{◌+◌, ◌<◌, ◌≡◌, ℕ, List, Some, length, get_or, take, refl, subst, sym, arith}
use Rattle.std.specs.Prelude.{slice_index_or}
use Rattle.std.proofs.lemmas.List.{take_all, take_more}
use Rattle.std.proofs.lemmas.Option.{slice_get-get_or}
use Rattle.gc_sweep.proofs.Released.{HoldsFewer, as_long, both_columns, each_at, fewer_more, fewer_none, has_freed}
use Rattle.gc_sweep.proofs.giving_back.take_closed.Goals as goal

pub loop-index-init : goal.loop-index-init
loop-index-init c = record { fewer = fewer_none c.args.tables.now }

pub give_back-requires-clause-slot : goal.give_back-requires-clause-slot
give_back-requires-clause-slot c =
    let slots = c.args.slots.now in
    let more : c.loop-index.index < length slots = omega arith in
    let within = each_at (λ s. s < length c.args.tables.now.held.ids.items) slots c.requires.within c.loop-index.index (slice_index_or slots c.loop-index.index 0)
    (slice_get-get_or slots c.loop-index.index 0 more) in
    omega (
      arith,
      within,
      as_long c.requires.runs.0 c.requires.runs.1 c.args.tables.now c.loop-index.tables (take c.loop-index.index slots) c.requires.runs.2
          c.loop-index.invariant.fewer,
    )

pub give_back-requires-clause-counts : goal.give_back-requires-clause-counts
give_back-requires-clause-counts c =
    both_columns c.requires.runs.0 c.requires.runs.1 c.args.tables.now c.loop-index.tables (take c.loop-index.index c.args.slots.now) c.requires.runs.2
    c.loop-index.invariant.fewer

pub loop-index-preserved : goal.loop-index-preserved
loop-index-preserved c =
    let slots = c.args.slots.now in
    let more : c.loop-index.index < length slots = omega arith in
    record {
      fewer = subst (λ (xs : List ℕ). HoldsFewer c.args.tables.now xs (record c.loop-index.tables { held = c.give_back.new.self }))
          (sym (take_more slots c.loop-index.index 0 more))
          (fewer_more c.args.tables.now c.loop-index.tables (take c.loop-index.index slots) (slice_index_or slots c.loop-index.index 0) c.give_back.new.self
          c.loop-index.invariant.fewer c.give_back.ensures.holds c.give_back.ensures.last);
    }

pub returns : goal.returns
returns c =
    let slots = c.args.slots.now in
    has_freed c.args.tables.now c.loop-index.tables slots
    (subst (λ (xs : List ℕ). HoldsFewer c.args.tables.now xs c.loop-index.tables) (take_all c.loop-index.index slots (omega arith)) c.loop-index.invariant.fewer)

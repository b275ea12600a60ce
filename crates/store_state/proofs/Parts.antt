-- What actors are at is still held where newest copies go on.
use Rattle.std.proofs.Common.{ℕ, List, [], ◌∷◌}
use Rattle.std.specs.List.{AllByRecursion}
use Rattle.actor_parts.specs.declared.part.Part.{Part}
use Rattle.actor_parts.specs.declared.part.Part.TheVariants.{Idle, Writing, Reading}
use Rattle.store_model.specs.Image.{Store}
use Rattle.store_model.specs.Steps.{KeepsCopies}
use Rattle.store_model.specs.Collisions.{IsIn}
use Rattle.store_model.specs.Reserve.{key_set, tree_keys}
use Rattle.store_model.proofs.Counted.{contained, tree_on, trees_on}
use Rattle.store_state.specs.Invariant.{HoldsPart}

-- Where the newest copies of the keys of which P holds go on, and Q holds of these.
module _ (P Q : List ℕ → Type 0) (s t : Store) (old new : List ℕ) (keeps : KeepsCopies P s old t new) (count : (key : List ℕ) → P key → Q key) where
  -- what an actor is at
  pub part_kept : (part : Part) → HoldsPart P s.held old part → HoldsPart Q t.held new part
  part_kept Idle holds = tt
  part_kept (Writing pins) holds = λ key pin has.
      let is = holds key pin has in
      record {
        segment = is.segment;
        key_is = is.key_is;
        pin_is = is.pin_is;
        right = is.right;
        newest = keeps key is.segment.segment.level is.segment.segment.bytes is.counts is.newest;
        children = is.children;
        counts = count key is.counts;
      }
  part_kept (Reading reader) holds =
      let R : List ℕ → Type 0 = IsIn (key_set (tree_keys holds.whole)) in
      record {
        whole = holds.whole;
        right = holds.right;
        top_is = holds.top_is;
        is_held = tree_on P Q s t old new keeps count holds.whole holds.is_held;
        trees = holds.trees;
        ahead = holds.ahead;
        are_held = trees_on R R s t old new (λ key level bytes there. keeps key level bytes (holds.is_held.count key (contained key (tree_keys holds.whole) there)))
            (λ key there. there) holds.trees holds.are_held;
      }

  -- what all are at
  pub parts_kept : (parts : List Part) → AllByRecursion (HoldsPart P s.held old) parts → AllByRecursion (HoldsPart Q t.held new) parts
  parts_kept [] hold = tt
  parts_kept (p ∷ ps) hold = (part_kept p hold.0, parts_kept ps hold.1)

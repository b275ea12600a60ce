-- What marking has come to at its end.
use Rattle.gc_steps.proofs.Prelude.{ℕ, List, inl, Part, PlaceMap, Store, Collection, MarksAreClosed, WasScanned, HoldsAt, SweepIsSafe}

-- Once each level was marked the sweep is safe.
pub marked_all : (index : PlaceMap) (store : Store) (parts : List Part) (image : List ℕ) (c : Collection) → ((level slot : ℕ) → WasScanned c.stage level slot)
    → HoldsAt c.stage index store.held image c → MarksAreClosed index store parts image c → SweepIsSafe index store parts image c
marked_all index store parts image c scanned sweep marks = record {
  roots_are_live = marks.roots_are_live;
  live_is_closed = λ n copy holds live. marks.passed_is_closed n copy holds live (inl (scanned n.level copy.place.slot));
  sweep_holds = sweep;
  new_are_live = marks.new_are_live;
}

-- A sweep that begins is under way.
use Rattle.gc_sweep.proofs.Prelude.{ℕ, ◌≤◌, List, [], length, refl, sym, subst, arith, nat_eq, MOST_SLOTS, RESERVE, SlotTable, Sweep, Begins, IsNext, AreLeft, IsSweeping, free_in}
use Rattle.std.specs.List.{IsDistinct}
use Rattle.gc_sweep.proofs.Arrives.{arrives, by_parts}
use Rattle.gc_sweep.proofs.CopyKeeps.{before_next, has_next}

pub begun_on : (t : SlotTable) (snapshot : ℕ) (sources : List ℕ) (s : Sweep) → Begins t sources s → IsDistinct nat_eq sources → length sources ≤ MOST_SLOTS
    → AreLeft t snapshot sources 0 → RESERVE ≤ free_in t
    → IsSweeping t snapshot s
unfolding IsDistinct
begun_on t snapshot sources s begins once few left room =
    let next : IsNext t s.sources.items s.buffer 0 0 s.next = subst (λ (xs : List ℕ). IsNext t xs s.buffer 0 0 s.next) (sym begins.sources_are) begins.next_is in
    arrives t snapshot 0 s (by_parts t snapshot 0 sources s [] [] s.buffer 0 (record {
      once = once;
      few = few;
      within = omega arith;
      left = left;
      taken = tt;
      apart = tt;
      counted = omega arith;
      waits = λ none. refl;
      fills = λ none. begins.empty;
    }) begins.sources_are begins.none_waits begins.none_ready refl begins.none_freed)
    (before_next t s 0 (omega arith) s.next next) (omega (arith, begins.none_copied)) (has_next t s 0 (omega arith) s.next next begins.none_ready) (omega (arith, room))

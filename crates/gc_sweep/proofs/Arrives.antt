-- A sweep that is under way, by its parts.
use Rattle.gc_sweep.proofs.Prelude.{◌≡◌, ℕ, ◌+◌, ◌*◌, ◌≤◌, List, [], ◌∷◌, ◌++◌, length, refl, sym, subst, arith, if◌then◌else◌, nat_eq, nat_lt, AllByRecursion, Contents, MOST_ENTRIES, MOST_SLOTS, RESERVE, SlotTable, Sweep, AreLeft, HasNext, IsSweeping, IsTaken, entry_in, free_in, sources_before, taken_from}
use Rattle.std.specs.List.{IsDistinct}

pub no_items : {A : Type 0} → (xs : List A) → length xs ≡ 0 → xs ≡ []
no_items [] none = refl
no_items (x ∷ xs) none = absurd (omega (arith, none))

pub all_by : (P Q : ℕ → Type 0) → ((x : ℕ) → P x → Q x) → (xs : List ℕ) → AllByRecursion P xs → AllByRecursion Q xs
all_by P Q each [] all = tt
all_by P Q each (x ∷ xs) all = (each x all.0, all_by P Q each xs all.1)

-- ---- the sweep then, by its parts

-- It goes on with the source of a number.
pub record GoesTo (t : SlotTable) (snapshot k : ℕ) (sources waiting ready : List ℕ) (buffer : Contents) (freed : ℕ) : Type 0 where
  pub once : IsDistinct nat_eq sources
  pub few : length sources ≤ MOST_SLOTS
  pub within : k ≤ length sources
  pub left : AreLeft t snapshot sources k
  pub taken : AllByRecursion (IsTaken t sources k) (waiting ++ ready)
  pub apart : IsDistinct nat_eq (waiting ++ ready)
  pub counted : freed + length waiting + length ready ≤ k
  pub waits : buffer.segments ≡ [] → waiting ≡ []
  pub fills : waiting ≡ [] → buffer.segments ≡ []

-- and then it is under way
module _ (t : SlotTable) (snapshot k : ℕ) (s : Sweep) (to : GoesTo t snapshot k s.sources.items s.waiting.items s.ready.items s.buffer s.freed) where
  pub arrives : sources_before s s.next ≡ k → s.copied ≤ MOST_ENTRIES * (2 * k + (if nat_lt 0 (entry_in s.next) then 1 else 0))
      → HasNext t s s.next → RESERVE ≤ free_in t + taken_from s.next → IsSweeping t snapshot s
  arrives is few_copied next room = record {
    once = to.once;
    few = to.few;
    before = omega (arith, is, to.within);
    left = subst (AreLeft t snapshot s.sources.items) (sym is) to.left;
    taken = subst (λ (n : ℕ). AllByRecursion (IsTaken t s.sources.items n) (s.waiting.items ++ s.ready.items)) (sym is) to.taken;
    apart = to.apart;
    counted = omega (arith, is, to.counted);
    waits = to.waits;
    fills = to.fills;
    few_copied = omega (arith, is, few_copied);
    next_is = next;
    room = room;
  }

-- its parts are those
module _ (t : SlotTable) (snapshot k : ℕ) (sources : List ℕ) (s' : Sweep) where
  pub by_parts : (waiting ready : List ℕ) (buffer : Contents) (freed : ℕ) → GoesTo t snapshot k sources waiting ready buffer freed
      → s'.sources.items ≡ sources → s'.waiting.items ≡ waiting → s'.ready.items ≡ ready → s'.buffer ≡ buffer → s'.freed ≡ freed
      → GoesTo t snapshot k s'.sources.items s'.waiting.items s'.ready.items s'.buffer s'.freed
  by_parts waiting ready buffer freed to sources_are waiting_is ready_is buffer_is freed_is =
      subst (λ (x : ℕ). GoesTo t snapshot k s'.sources.items s'.waiting.items s'.ready.items s'.buffer x) (sym freed_is)
      (subst (λ (x : Contents). GoesTo t snapshot k s'.sources.items s'.waiting.items s'.ready.items x freed) (sym buffer_is)
      (subst (λ (x : List ℕ). GoesTo t snapshot k s'.sources.items s'.waiting.items x buffer freed) (sym ready_is)
      (subst (λ (x : List ℕ). GoesTo t snapshot k s'.sources.items x ready buffer freed) (sym waiting_is)
      (subst (λ (x : List ℕ). GoesTo t snapshot k x waiting ready buffer freed) (sym sources_are) to))))

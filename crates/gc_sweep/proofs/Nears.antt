-- Each step of a sweep leaves fewer to come.
use Rattle.gc_sweep.proofs.Prelude.{◌≡◌, inl, inr, ℕ, ◌+◌, ◌*◌, ◌<◌, ◌≤◌, ◌≢◌, Bool, true, false, List, [], ◌∷◌, ◌++◌, length, Option, None, Some, refl, ap, sym, subst, ◌∙◌, arith, length-append, eq-eqb, PlaceMap, Contents, HeaderValue, Plan, PlansBy, IsPlan, source_of, Shows, DiskView, LiveKeys, SlotTable, Next, Flush, Release, End, Sweep, CopiesSource, EndsBy, HasEnded, IsFilling, TakesBy, HasFlushed, HasReleased, IsNext, HasNext, IsSweeping}
use Rattle.std.proofs.Common.{◌-◌}
use Rattle.gc_sweep.specs.declared.sweep.Next.TheVariants.{Copy}
use Rattle.gc_sweep.specs.StepsLeft.{steps_at, steps_left}
use Rattle.gc_sweep.specs.Copying.{copy_step}

-- what comes next where the sources from one on are to be copied
next_few : (t : SlotTable) (sources : List ℕ) (buffer : Contents) (k entry : ℕ) (s : Sweep) (n : Next) → IsNext t sources buffer k entry n
    → steps_at s n ≤ 4 * (length s.sources.items - k) + 3 * length s.waiting.items
next_few t sources buffer k entry s (Copy source e) is = omega (arith, is.0)
next_few t sources buffer k entry s (Flush source e) is = omega (arith, is.0)
next_few t sources buffer k entry s (Release source e) is = absurd is
next_few t sources buffer k entry s End is = omega arith

module _ (t : SlotTable) (snapshot source entry : ℕ) (s s' : Sweep) (under : IsSweeping t snapshot s) where
  -- so many come of this next step
  at : (n : Next) → s.next ≡ n → steps_left s ≡ steps_at s n
  at n is = ap (steps_at s) is

  -- ---- a source is copied

  module _ (stage : s.next ≡ Copy source entry) (sources_are : s'.sources ≡ s.sources) where
    here : HasNext t s (Copy source entry)
    here = subst (HasNext t s) stage under.next_is

    same : length s'.sources.items ≡ length s.sources.items
    same = ap (λ (v : _). length v.items) sources_are

    -- it came to its end
    ended_nears : (waiting : List ℕ) → s'.waiting.items ≡ waiting → length waiting ≤ length s.waiting.items + 1
        → steps_left s' ≤ 4 * (length s'.sources.items - (source + 1)) + 3 * length s'.waiting.items → steps_left s' < steps_left s
    ended_nears waiting is few on =
        omega (arith, at (Copy source entry) stage, on, few, ap length is, same, here.0)

    ends_nears : (slot : ℕ) (plan : Plan) → HasEnded t slot source plan s s' → steps_left s' < steps_left s
    ends_nears slot plan (inl (some, waiting_is, ready_is, next)) =
        ended_nears (s.waiting.items ++ slot ∷ []) waiting_is (omega (arith, length-append s.waiting.items (slot ∷ [])))
        (next_few t s.sources.items plan.buffer (source + 1) 0 s' s'.next next)
    ends_nears slot plan (inr (none, waiting_is, ready_is, next_is)) =
        omega (arith, at (Copy source entry) stage, ap (steps_at s') next_is, ap length waiting_is, ap length ready_is, same, here.0)

    -- it didn't fit beside what was filled before
    stops_nears : (slot : ℕ) (plan : Plan) → 1 ≤ length s.waiting.items → EndsBy false t slot source plan s s' → steps_left s' < steps_left s
    stops_nears slot plan some ends =
        omega (arith, at (Copy source entry) stage, ap (steps_at s') ends.2, ap length ends.0, same, some)

  some_wait : (kind : _) (filling : Contents) → IsFilling s.buffer kind filling → 1 ≤ length filling.segments → 1 ≤ length s.waiting.items
  some_wait kind filling (inl (none, is)) some = absurd (omega (arith, some, ap (λ (c : Contents). length c.segments) is))
  some_wait kind filling (inr (some, is)) filled = by_list s.waiting.items refl
    where
      by_list : (xs : List ℕ) → s.waiting.items ≡ xs → 1 ≤ length xs
      by_list [] is = absurd (omega (arith, some, ap length (under.fills is)))
      by_list (x ∷ xs) is = omega arith

  module _ (live : LiveKeys) (known after_known : Option PlaceMap) (old new : DiskView) (stage : s.next ≡ Copy source entry)
      (copies : CopiesSource (copy_step t live known source entry s) after_known old new s') where
    stopped : (plan : Plan) (header : HeaderValue) → IsPlan (source_of known live copies.slot header.kind) (Shows old new) header.entries entry copies.filling plan
        → plan.ended ≡ false
        → 1 ≤ length copies.filling.segments
    stopped plan header is going = by_list copies.filling.segments refl
      where
        by_list : (xs : _) → copies.filling.segments ≡ xs → 1 ≤ length xs
        by_list [] none = absurd (let wrong : true ≡ false = sym (eq-eqb plan.next (length header.entries) (is.whole none)) ∙ sym is.ended_is ∙ going in cc)
        by_list (x ∷ xs) some = omega arith

    by_plan : (plan : Plan) (header : HeaderValue) → IsPlan (source_of known live copies.slot header.kind) (Shows old new) header.entries entry copies.filling plan
        → (ended : Bool) → plan.ended ≡ ended
        → EndsBy ended t copies.slot source plan s s' → steps_left s' < steps_left s
    by_plan plan header is true ended ends = ends_nears stage copies.others.sources_are copies.slot plan ends
    by_plan plan header is false going ends =
        stops_nears stage copies.others.sources_are copies.slot plan
        (some_wait copies.kind copies.filling copies.is_source.filling_is (stopped plan header is going)) ends

    by_found : (found : Option Plan) → PlansBy (source_of known live copies.slot copies.plans.header.kind) (Shows old new) copies.plans.header entry copies.filling found
        → TakesBy t copies.slot source found s s' → steps_left s' < steps_left s
    by_found None other takes =
        ended_nears stage copies.others.sources_are s.waiting.items takes.1 (omega arith)
        (next_few t s.sources.items s.buffer (source + 1) 0 s' s'.next takes.4)
    by_found (Some plan) plans takes = by_plan plan copies.plans.header plans.1 plan.ended refl takes.2

    pub copy_nears : steps_left s' < steps_left s
    copy_nears = by_found copies.found copies.plans.plans copies.takes

  -- ---- what was copied is written

  pub flush_nears : s.next ≡ Flush source entry → HasFlushed source entry s s' → steps_left s' < steps_left s
  flush_nears stage flushed =
      omega (
        arith,
        at (Flush source entry) stage,
        ap (steps_at s') flushed.next_is,
        ap length flushed.none_waits,
        ap length flushed.ready_is,
        ap (λ (v : _). length v.items) flushed.sources_are,
        some s.waiting.items refl,
      )
    where
      is_next : HasNext t s (Flush source entry)
      is_next = subst (HasNext t s) stage under.next_is

      some : (xs : List ℕ) → s.waiting.items ≡ xs → 1 ≤ length xs
      some [] none = absurd (is_next.1 (under.fills none))
      some (x ∷ xs) is = omega arith

  -- ---- what is ready is given back

  pub release_nears : (u : SlotTable) → s.next ≡ Release source entry → HasReleased u source entry s s' → steps_left s' < steps_left s
  release_nears u stage released =
      let is_next : HasNext t s (Release source entry) = subst (HasNext t s) stage under.next_is in
      omega (
        arith,
        at (Release source entry) stage,
        next_few u s.sources.items s.buffer source entry s' s'.next released.next_is,
        ap (λ (v : _). length v.items) released.sources_are,
        ap (λ (v : _). length v.items) released.waiting_is,
        some s.ready.items is_next.0,
      )
    where
      some : (xs : List ℕ) → xs ≢ [] → 1 ≤ length xs
      some [] none = absurd (none refl)
      some (x ∷ xs) is = omega arith

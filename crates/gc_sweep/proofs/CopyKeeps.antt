-- A step that copies leaves a sweep under way.
use Rattle.gc_sweep.proofs.Prelude.{◌≡◌, ◌≢◌, ◌⊎◌, inl, inr, ℕ, zero, suc, ◌+◌, ◌*◌, ◌<◌, ◌≤◌, Bool, true, false, List, [], ◌∷◌, ◌++◌, length, get_or, drop, Option, None, Some, refl, ap, sym, subst, ◌∙◌, arith, length-append, append-nil, if◌then◌else◌, nat_eq, nat_lt, AllByRecursion, eqb-true, eq-eqb, apart_from_distinct, Kind, PlaceMap, Contents, HeaderValue, IsHeader, Plan, PlansBy, IsPlan, planned, source_of, Shows, DiskView, MOST_ENTRIES, RESERVE, LiveKeys, SlotTable, Next, Flush, Release, End, Sweep, CopiesSource, EndsBy, GoesOn, HasEnded, IsFilling, TakesBy, IsNext, AreLeft, HasNext, IsSweeping, IsTaken, entry_in, free_in, sources_before, taken_from}
use Rattle.std.specs.List.{IsDistinct}
use Rattle.std.proofs.lemmas.Bool.{lt-ltb}
use Rattle.gc_sweep.specs.declared.sweep.Next.TheVariants.{Copy}
use Rattle.gc_sweep.specs.Next.{IsOfKind}
use Rattle.gc_sweep.proofs.Arrives.{GoesTo, all_by, arrives, by_parts, no_items}
use Rattle.gc_sweep.proofs.Copied.{adds_few, copied_few}
use Rattle.gc_sweep.specs.Copying.{copy_step}

-- ---- lists of slots

all_more : (P : ℕ → Type 0) (xs : List ℕ) (x : ℕ) → AllByRecursion P xs → P x → AllByRecursion P (xs ++ x ∷ [])
all_more P [] x all one = (one, tt)
all_more P (y ∷ ys) x all one = (all.0, all_more P ys x all.1 one)

apart_more : (xs : List ℕ) (x : ℕ) → IsDistinct nat_eq xs → AllByRecursion (λ y. y ≢ x) xs → IsDistinct nat_eq (xs ++ x ∷ [])
unfolding IsDistinct
apart_more [] x apart others = (tt, tt)
apart_more (y ∷ ys) x apart others = (all_more (λ z. nat_eq y z ≡ false) ys x apart.0 (differ (nat_eq y x) refl), apart_more ys x apart.1 others.1)
  where
    differ : (b : Bool) → nat_eq y x ≡ b → b ≡ false
    differ true same = absurd (others.0 (eqb-true y x same))
    differ false other = refl

-- ---- what comes next

module _ (t : SlotTable) (s : Sweep) (k : ℕ) (within : k ≤ length s.sources.items) where
  pub before_next : (n : Next) → IsNext t s.sources.items s.buffer k 0 n → sources_before s n ≡ k
  before_next (Copy source entry) is = is.0
  before_next (Flush source entry) is = is.0
  before_next (Release source entry) is = absurd is
  before_next End is = omega (arith, within, is.1)

  pub has_next : (n : Next) → IsNext t s.sources.items s.buffer k 0 n → s.ready.items ≡ [] → HasNext t s n
  has_next (Copy source entry) is none = (
    omega (arith, is.0, is.2),
    none,
    λ some. absurd (omega (arith, some, is.1)),
    subst (λ (i : ℕ). (s.buffer.segments ≡ []) ⊎ IsOfKind t (get_or s.sources.items i 0) s.buffer.kind) (sym is.0) is.3,
  )
  has_next (Flush source entry) is none = (none, is.2, λ some. absurd (omega (arith, some, is.1)))
  has_next (Release source entry) is none = absurd is
  has_next End is none = (none, is.0)

-- ---- a source that came to its end

module _ (t : SlotTable) (snapshot source entry : ℕ) (s : Sweep) (under : IsSweeping t snapshot s) (stage : s.next ≡ Copy source entry) where
  before_is : sources_before s s.next ≡ source
  before_is = ap (sources_before s) stage

  pub here : HasNext t s (Copy source entry)
  here = subst (HasNext t s) stage under.next_is

  left_on : (k : ℕ) → source ≤ k → AreLeft t snapshot s.sources.items k
  left_on k more = record {
    old = under.left.old;
    there = λ i from below. under.left.there i (omega (arith, before_is, more, from)) below;
  }

  taken_here : AllByRecursion (IsTaken t s.sources.items source) s.waiting.items
  taken_here =
      subst (λ (xs : List ℕ). AllByRecursion (IsTaken t s.sources.items source) xs) (ap (λ (r : List ℕ). s.waiting.items ++ r) here.1 ∙ append-nil s.waiting.items)
      (subst (λ (k : ℕ). AllByRecursion (IsTaken t s.sources.items k) (s.waiting.items ++ s.ready.items)) before_is under.taken)

  apart_here : IsDistinct nat_eq s.waiting.items
  apart_here = subst (IsDistinct nat_eq) (ap (λ (r : List ℕ). s.waiting.items ++ r) here.1 ∙ append-nil s.waiting.items) under.apart

  counted_here : s.freed + length s.waiting.items ≤ source
  counted_here = omega (arith, under.counted, before_is)

  taken_more : (k slot : ℕ) → source ≤ k → IsTaken t s.sources.items source slot → IsTaken t s.sources.items k slot
  taken_more k slot more is = record { within = is.within; number = is.number; taken = omega (arith, is.taken, more); id_is = is.id_is }

  module _ (slot : ℕ) (within : slot < length t.ids.items) (id_is : get_or t.ids.items slot 0 ≡ get_or s.sources.items source 0) where
    -- it is none of those before
    other_slot : (w : ℕ) → IsTaken t s.sources.items source w → w ≢ slot
    other_slot w is same =
        let one : get_or s.sources.items is.number 0 ≡ get_or s.sources.items source 0 = sym is.id_is ∙ ap (λ (x : ℕ). get_or t.ids.items x 0) same ∙ id_is in
        let apart = apart_from_distinct nat_eq s.sources.items is.number source 0 under.once is.taken here.0 in
        let wrong : true ≡ false = sym (eq-eqb (get_or s.sources.items source 0) (get_or s.sources.items source 0) refl)
        ∙ subst (λ (x : ℕ). nat_eq x (get_or s.sources.items source 0) ≡ false) one apart in cc

    taken_with : AllByRecursion (IsTaken t s.sources.items (source + 1)) (s.waiting.items ++ slot ∷ [])
    taken_with =
        all_more (IsTaken t s.sources.items (source + 1)) s.waiting.items slot
        (all_by (IsTaken t s.sources.items source) (IsTaken t s.sources.items (source + 1)) (λ w is. taken_more (source + 1) w (omega arith) is) s.waiting.items taken_here)
        (record { within = within; number = source; taken = omega arith; id_is = id_is })

    apart_with : IsDistinct nat_eq (s.waiting.items ++ slot ∷ [])
    apart_with = apart_more s.waiting.items slot apart_here (all_by (IsTaken t s.sources.items source) (λ w. w ≢ slot) other_slot s.waiting.items taken_here)

one_at_most : (b : Bool) → (if b then 1 else 0) ≤ 1
one_at_most true = omega arith
one_at_most false = omega arith

-- ---- what was found of the source

module _ (t : SlotTable) (snapshot source entry : ℕ) (s s' : Sweep) (under : IsSweeping t snapshot s) (stage : s.next ≡ Copy source entry) (others : GoesOn s s') where
  at : HasNext t s (Copy source entry)
  at = here t snapshot source entry s under stage

  -- none is given back between
  room : (n : Next) → RESERVE ≤ free_in t + taken_from n
  room n =
      let closed : RESERVE ≤ free_in t + 0 = subst (λ (n : Next). RESERVE ≤ free_in t + taken_from n) stage under.room in
      omega (arith, closed)

  sources_are : s'.sources.items ≡ s.sources.items
  sources_are = ap (λ (v : _). v.items) others.sources_are

  copied_before : s.copied ≤ MOST_ENTRIES * (2 * source + (if nat_lt 0 entry then 1 else 0))
  copied_before = subst (λ (n : Next). s.copied ≤ MOST_ENTRIES * (2 * sources_before s n + (if nat_lt 0 (entry_in n) then 1 else 0))) stage under.few_copied

  -- it stays where it is, or goes on
  stays_at : (k : ℕ) (buffer : Contents) → source ≤ k → k ≤ length s.sources.items → (buffer.segments ≡ [] → s.waiting.items ≡ [])
      → (s.waiting.items ≡ [] → buffer.segments ≡ []) → GoesTo t snapshot k s.sources.items s.waiting.items [] buffer s.freed
  stays_at k buffer more within waits fills = record {
    once = under.once;
    few = under.few;
    within = within;
    left = left_on t snapshot source entry s under stage k more;
    taken = subst (λ (xs : List ℕ). AllByRecursion (IsTaken t s.sources.items k) xs) (sym (append-nil s.waiting.items))
        (all_by (IsTaken t s.sources.items source) (IsTaken t s.sources.items k) (λ w is. taken_more t snapshot source entry s under stage k w more is) s.waiting.items
        (taken_here t snapshot source entry s under stage));
    apart = subst (IsDistinct nat_eq) (sym (append-nil s.waiting.items)) (apart_here t snapshot source entry s under stage);
    counted = omega (arith, counted_here t snapshot source entry s under stage, more);
    waits = waits;
    fills = fills;
  }

  -- the next source comes
  follows : (buffer : Contents) (waiting : List ℕ) (copied : ℕ) → GoesTo t snapshot (source + 1) s.sources.items waiting [] buffer s.freed → s'.waiting.items ≡ waiting
      → s'.ready.items ≡ []
      → s'.buffer ≡ buffer → s'.copied ≡ s.copied + copied → copied ≤ MOST_ENTRIES → IsNext t s.sources.items buffer (source + 1) 0 s'.next → IsSweeping t snapshot s'
  follows buffer waiting copied to waiting_is ready_is buffer_is copied_is few next =
      let next' : IsNext t s'.sources.items s'.buffer (source + 1) 0 s'.next =
      subst (λ (b : Contents). IsNext t s'.sources.items b (source + 1) 0 s'.next) (sym buffer_is)
      (subst (λ (xs : List ℕ). IsNext t xs buffer (source + 1) 0 s'.next) (sym sources_are) next) in
      let within : source + 1 ≤ length s'.sources.items = omega (arith, at.0, ap length sources_are) in
      arrives t snapshot (source + 1) s'
      (by_parts t snapshot (source + 1) s.sources.items s' waiting [] buffer s.freed to sources_are waiting_is ready_is buffer_is others.freed_is)
      (before_next t s' (source + 1) within s'.next next') (omega (arith, copied_is, few, copied_before, one_at_most (nat_lt 0 entry)))
      (has_next t s' (source + 1) within s'.next next' ready_is) (room s'.next)

  -- nothing
  left_alone : (slot : ℕ) → TakesBy t slot source None s s' → IsSweeping t snapshot s'
  left_alone slot takes = follows s.buffer s.waiting.items 0 (stays_at (source + 1) s.buffer (omega arith) (omega (arith, at.0)) under.waits under.fills)
      takes.1 takes.2 takes.0 (omega (arith, takes.3)) (omega arith) takes.4

  module _ (slot : ℕ) (within : slot < length t.ids.items) (id_is : get_or t.ids.items slot 0 ≡ get_or s.sources.items source 0) (kind : Kind) (filling : Contents)
      (fills : IsFilling s.buffer kind filling)
      (plan : Plan) (few : plan.copied ≤ MOST_ENTRIES) (grows : length plan.buffer.segments ≡ length filling.segments + plan.copied) where
    -- something was filled just where something is
    empty_before : filling.segments ≡ [] → s.buffer.segments ≡ []
    empty_before none = empty_by fills
      where
        empty_by : IsFilling s.buffer kind filling → s.buffer.segments ≡ []
        empty_by (inl (is, other)) = is
        empty_by (inr (some, is)) = absurd (omega (arith, some, ap (λ (c : Contents). length c.segments) is, ap length none))

    empty_filling : s.buffer.segments ≡ [] → filling.segments ≡ []
    empty_filling none = empty_by fills
      where
        empty_by : IsFilling s.buffer kind filling → filling.segments ≡ []
        empty_by (inl (is, other)) = ap (λ (c : Contents). c.segments) other
        empty_by (inr (some, is)) = absurd (omega (arith, some, ap length none))

    -- it has ended, and its segments were added
    waits_now : 0 < plan.copied → GoesTo t snapshot (source + 1) s.sources.items (s.waiting.items ++ slot ∷ []) [] plan.buffer s.freed
    waits_now some = record {
      once = under.once;
      few = under.few;
      within = omega (arith, at.0);
      left = left_on t snapshot source entry s under stage (source + 1) (omega arith);
      taken = subst (λ (xs : List ℕ). AllByRecursion (IsTaken t s.sources.items (source + 1)) xs) (sym (append-nil (s.waiting.items ++ slot ∷ [])))
          (taken_with t snapshot source entry s under stage slot within id_is);
      apart = subst (IsDistinct nat_eq) (sym (append-nil (s.waiting.items ++ slot ∷ []))) (apart_with t snapshot source entry s under stage slot within id_is);
      counted = omega (arith, counted_here t snapshot source entry s under stage, length-append s.waiting.items (slot ∷ []));
      waits = λ none. absurd (omega (arith, grows, some, ap length none));
      fills = λ none. absurd (omega (arith, length-append s.waiting.items (slot ∷ []), ap length none));
    }

    -- and none were
    ready_now : plan.copied ≡ 0 → GoesTo t snapshot (source + 1) s.sources.items s.waiting.items (slot ∷ []) plan.buffer s.freed
    ready_now none = record {
      once = under.once;
      few = under.few;
      within = omega (arith, at.0);
      left = left_on t snapshot source entry s under stage (source + 1) (omega arith);
      taken = taken_with t snapshot source entry s under stage slot within id_is;
      apart = apart_with t snapshot source entry s under stage slot within id_is;
      counted = omega (arith, counted_here t snapshot source entry s under stage);
      waits = λ empty. under.waits (empty_before (no_items filling.segments (omega (arith, grows, none, ap length empty))));
      fills = λ empty. no_items plan.buffer.segments (omega (arith, grows, none, ap length (empty_filling (under.fills empty))));
    }

    has_ended : HasEnded t slot source plan s s' → s'.buffer ≡ plan.buffer → s'.copied ≡ s.copied + plan.copied → IsSweeping t snapshot s'
    has_ended (inl (some, waiting_is, ready_is, next)) buffer_is copied_is =
        follows plan.buffer (s.waiting.items ++ slot ∷ []) plan.copied (waits_now some) waiting_is ready_is buffer_is copied_is few next
    has_ended (inr (none, waiting_is, ready_is, next_is)) buffer_is copied_is =
        arrives t snapshot (source + 1) s'
        (by_parts t snapshot (source + 1) s.sources.items s' s.waiting.items (slot ∷ []) plan.buffer s.freed
        (ready_now none) sources_are waiting_is ready_is buffer_is others.freed_is)
        (ap (sources_before s') next_is) (omega (arith, copied_is, few, copied_before, one_at_most (nat_lt 0 entry)))
        (subst (HasNext t s') (sym next_is) ((λ is. absurd (omega (arith, ap length is, ap length ready_is))), λ some. absurd (omega (arith, some))))
        (room s'.next)

    -- an entry doesn't fit; then something was filled, and the source was at its first entry
    module _ (passed : ℕ) (next_is : plan.next ≡ entry + passed) (adds : plan.copied ≤ passed) (some : 0 < length filling.segments) where
      had : 0 < length s.buffer.segments
      had = had_by s.buffer.segments refl
        where
          had_by : (xs : _) → s.buffer.segments ≡ xs → 0 < length xs
          had_by [] is = absurd (omega (arith, some, ap length (empty_filling is)))
          had_by (x ∷ xs) is = omega arith

      first : entry ≡ 0
      first = first_by entry refl
        where
          first_by : (e : ℕ) → entry ≡ e → e ≡ 0
          first_by zero is = refl
          first_by (suc e) is = absurd (omega (arith, had, ap length (at.2 (omega (arith, is)))))

      some_passed : plan.copied ≤ MOST_ENTRIES * (if nat_lt 0 plan.next then 1 else 0)
      some_passed = by_next plan.next refl
        where
          by_next : (n : ℕ) → plan.next ≡ n → plan.copied ≤ MOST_ENTRIES * (if nat_lt 0 n then 1 else 0)
          by_next zero is = omega (arith, is, next_is, adds)
          by_next (suc n) is =
              let one : nat_lt 0 (suc n) ≡ true = lt-ltb 0 (suc n) (omega arith) in
              omega (arith, few, ap {B = ℕ} (λ (b : Bool). if b then 1 else 0) one)

      copied_first : s.copied ≤ MOST_ENTRIES * (2 * source)
      copied_first =
          let fewer : s.copied ≤ MOST_ENTRIES * (2 * source + 0) = subst (λ (e : ℕ). s.copied ≤ MOST_ENTRIES * (2 * source + (if nat_lt 0 e then 1 else 0))) first copied_before in
          omega (arith, fewer)

      has_stopped : EndsBy false t slot source plan s s' → s'.buffer ≡ plan.buffer → s'.copied ≡ s.copied + plan.copied → IsSweeping t snapshot s'
      has_stopped ends buffer_is copied_is =
          arrives t snapshot source s'
          (by_parts t snapshot source s.sources.items s' s.waiting.items [] plan.buffer s.freed
          (stays_at source plan.buffer (omega arith) (omega (arith, at.0)) (λ none. absurd (omega (arith, grows, some, ap length none)))
          (λ none. absurd (omega (arith, had, ap length (under.fills none)))))
          sources_are ends.0 ends.1 buffer_is others.freed_is)
          (ap (sources_before s') ends.2)
          (subst (λ (n : Next). s'.copied ≤ MOST_ENTRIES * (2 * source + (if nat_lt 0 (entry_in n) then 1 else 0))) (sym ends.2)
          (omega (arith, copied_is, copied_first, some_passed)))
          (subst (HasNext t s') (sym ends.2) (
            ends.1,
            (λ none. absurd (omega (arith, grows, some, ap length none, ap (λ (c : Contents). length c.segments) buffer_is))),
            λ passed. omega
                (arith, at.0, ap length sources_are),
          ))
          (room s'.next)

-- ---- the step

pub copies_on : (t : SlotTable) (snapshot : ℕ) (live : LiveKeys) (known after_known : Option PlaceMap) (old new : DiskView) (source entry : ℕ) (s s' : Sweep)
    → IsSweeping t snapshot s → s.next ≡ Copy source entry
    → CopiesSource (copy_step t live known source entry s) after_known old new s' → IsSweeping t snapshot s'
copies_on t snapshot live known after_known old new source entry s s' under stage copies = copies_by copies.found refl
  where
    filling : Contents
    filling = copies.filling

    with_plan : (plan : Plan) (header : HeaderValue) → IsHeader header → IsPlan (source_of known live copies.slot header.kind) (Shows old new) header.entries entry filling plan
        → (ended : Bool) → plan.ended ≡ ended → s'.buffer ≡ plan.buffer → s'.copied ≡ s.copied + plan.copied → EndsBy ended t copies.slot source plan s s'
        → IsSweeping t snapshot s'
    with_plan plan header right is true ended_is buffer_is copied_is ends =
        has_ended t snapshot source entry s s' under stage copies.others copies.slot copies.is_source.within copies.is_source.id_is copies.kind filling copies.is_source.filling_is
        plan
        (copied_few (source_of known live copies.slot header.kind) (Shows old new) header entry filling plan right is) is.copied_is ends buffer_is copied_is
    with_plan plan header right is false ended_is buffer_is copied_is ends =
        has_stopped t snapshot source entry s s' under stage copies.others copies.slot copies.is_source.within copies.is_source.id_is copies.kind filling
        copies.is_source.filling_is plan
        (copied_few (source_of known live copies.slot header.kind) (Shows old new) header entry filling plan right is) is.copied_is
        is.passed is.next_is
        (omega (
          arith,
          is.copied_is,
          adds_few (source_of known live copies.slot header.kind) (Shows old new) (drop entry header.entries) (planned filling [])
              (planned plan.buffer plan.dead.items) is.passed is.takes,
        ))
        (some_filled filling.segments refl) ends buffer_is copied_is
      where
        some_filled : (xs : _) → filling.segments ≡ xs → 0 < length xs
        some_filled [] none =
            let wrong : true ≡ false = sym (eq-eqb plan.next (length header.entries) (is.whole none)) ∙ sym is.ended_is ∙ ended_is in cc
        some_filled (x ∷ xs) some = omega arith

    copies_by : (found : Option Plan) → copies.found ≡ found → IsSweeping t snapshot s'
    copies_by None is = left_alone t snapshot source entry s s' under stage copies.others copies.slot
        (subst (λ (f : Option Plan). TakesBy t copies.slot source f s s') is copies.takes)
    copies_by (Some plan) is =
        let takes = subst (λ (f : Option Plan). TakesBy t copies.slot source f s s') is copies.takes in
        let plans = subst
        (λ (f : Option Plan). PlansBy (source_of known live copies.slot copies.plans.header.kind) (Shows old new) copies.plans.header entry filling f) is copies.plans.plans in
        with_plan plan copies.plans.header copies.plans.right plans.1 plan.ended refl takes.0 takes.1 takes.2

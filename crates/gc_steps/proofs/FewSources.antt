-- No more sources are chosen than containers were there, and a seal brings no such container.
use Rattle.gc_steps.proofs.Prelude.{◌≡◌, ◌<◌, ◌≤◌, ◌+◌, ◌-◌, ℕ, suc, Bool, true, false, List, [], ◌∷◌, length, Option, Vec, Global, refl, sym, ◌∙◌, ap, subst, arith, if◌then◌else◌, filter, SlotTable, Collection, Chooses, is_old, is_old_slot, old_from, IsRecordedTo, IsUnderWay, old_ids, PlaceMap, DiskView, Tables, Stage, Mark, Filter, Select, IsToChoose, Moment, StepsTo, TablesAfter, moment, Next, Flush, Release, End}
use Rattle.std.proofs.Common.{get_or}
use Rattle.gc_steps.specs.StepsToCome.{count_from}
use Rattle.gc_steps.specs.declared.collection.Stage.TheVariants.{Sweep}
use Rattle.gc_steps.specs.FewSources.{HasFewSources}
use Rattle.gc_sweep.specs.declared.sweep.Next.TheVariants.{Copy}
use Rattle.gc_steps.proofs.Chosen.{few_chosen}
use Rattle.gc_steps.proofs.UnderWay.{at_stage}

-- the slots from one on that pass a test of their ids, of ids from there on
count_passing : (test : ℕ → Bool) (slot_test : ℕ → Bool) (ids : List ℕ) (from : ℕ) → ((i : ℕ) → i < length ids → slot_test (from + i) ≡ test (get_or ids i 0))
    → length (filter test ids) ≡ count_from slot_test from (length ids)
unfolding count_from
count_passing test slot_test [] from same = refl
count_passing test slot_test (x ∷ xs) from same =
    ap (λ (b : Bool). length (if b then x ∷ filter test xs else filter test xs)) (sym first)
    ∙ by_test (slot_test from) (count_passing test slot_test xs (from + 1) (λ i within. ap slot_test (omega arith) ∙ same (suc i) (omega (arith, within))))
  where
    first : slot_test from ≡ test x
    first = ap slot_test (let e : from ≡ from + 0 = omega arith in e) ∙ same 0 (omega arith)

    by_test : (b : Bool) → length (filter test xs) ≡ count_from slot_test (from + 1) (length xs)
        → length (if b then x ∷ filter test xs else filter test xs) ≡ (if b then 1 + count_from slot_test (from + 1) (length xs) else count_from slot_test (from + 1) (length xs))
    by_test true rest = omega (arith, rest)
    by_test false rest = rest

-- as many ids are of containers that were there as slots have such a container
old_count : (snapshot : ℕ) (t : SlotTable) → length (old_ids snapshot t.ids.items) ≡ old_from snapshot t 0
old_count snapshot t =
    count_passing (is_old snapshot) (is_old_slot snapshot t) t.ids.items 0 (λ i within. ap (is_old_slot snapshot t) (let e : 0 + i ≡ i = omega arith in e))
    ∙ ap (count_from (is_old_slot snapshot t) 0) (let e : length t.ids.items ≡ length t.ids.items - 0 = omega arith in e)

-- Where all containers that were there were recorded, no more sources are chosen than there are of these.
pub few_sources : (t : SlotTable) (c d : Collection) → IsRecordedTo t c (length t.ids.items) → Chooses t c d → length d.sweep.sources.items ≤ old_from c.snapshot t 0
few_sources t c d recorded chooses = omega (arith, few_chosen t c d.sweep.sources.items recorded chooses.each, old_count c.snapshot t)

-- ---- as it goes on

-- Sources and snapshot stay, and the sources are not to be chosen again.
pub few_on : (most : ℕ) (t u : SlotTable) (c d : Collection) → d.snapshot ≡ c.snapshot → d.sweep.sources ≡ c.sweep.sources
    → (IsToChoose d.stage → IsToChoose c.stage × (old_from c.snapshot u 0 ≡ old_from c.snapshot t 0)) → HasFewSources most t c → HasFewSources most u d
few_on most t u c d snapshot sources before few = record {
  old = λ first. let was = before first in omega (arith, few.old was.0, was.1, ap (λ (s : ℕ). old_from s u 0) snapshot);
  chosen = omega (arith, few.chosen, ap (λ (v : Vec ℕ Global). length v.items) sources);
}

module _ (most : ℕ) (t u : Tables) (known_before known : Option PlaceMap) (old new : DiskView) (c d : Collection) (few : HasFewSources most t.held c) where
  abbrev was : Moment
  was = moment t known_before old c

  abbrev is_now : Moment
  is_now = moment u known new d

  -- the tables stay
  same_few : u ≡ t → d.snapshot ≡ c.snapshot → d.sweep.sources ≡ c.sweep.sources → (IsToChoose d.stage → IsToChoose c.stage) → HasFewSources most u.held d
  same_few same snapshot sources before =
      few_on most t.held u.held c d snapshot sources (λ first. (before first, ap (λ (x : Tables). old_from c.snapshot x.held 0) same)) few

  -- the sweep goes on
  swept_few : c.stage ≡ Sweep → d ≡ record c { sweep = d.sweep } → d.sweep.sources ≡ c.sweep.sources → HasFewSources most u.held d
  swept_few stage is sources = record {
    old = λ first. let none : ⊥ = subst IsToChoose (ap (λ (x : Collection). x.stage) is ∙ stage) first in absurd none;
    chosen = omega (arith, few.chosen, ap (λ (v : Vec ℕ Global). length v.items) sources);
  }

  by_stage : (stage : Stage) (next : Next) → c.stage ≡ stage → c.sweep.next ≡ next → IsUnderWay t.held c → StepsTo stage next was is_now → TablesAfter stage next was is_now
      → HasFewSources most u.held d
  by_stage (Mark level slot) next is at under steps same =
      same_few same (ap (λ (x : Collection). x.snapshot) steps.0.collection_is) (ap (λ (x : Collection). x.sweep.sources) steps.0.collection_is)
      (λ first. subst IsToChoose (sym is) tt)
  by_stage (Filter slot) next is at under steps same =
      same_few same (ap (λ (x : Collection). x.snapshot) steps.0.collection_is) (ap (λ (x : Collection). x.sweep.sources) steps.0.collection_is)
      (λ first. subst IsToChoose (sym is) tt)
  by_stage Select next is at under steps same =
      let recorded = at_stage t.held c Select under is in
      record {
        old = λ first. let none : ⊥ = subst IsToChoose (ap (λ (x : Collection). x.stage) steps.0.collection_is) first in absurd none;
        chosen = omega (arith, few_sources t.held c d recorded.0 steps.0, few.old (subst IsToChoose (sym is) tt));
      }
  by_stage Sweep (Copy source entry) is at under steps same = swept_few is steps.1 steps.0.others.sources_are
  by_stage Sweep (Flush source entry) is at under steps tables = swept_few is steps.sweeps steps.flushed.sources_are
  by_stage Sweep (Release source entry) is at under steps freed = swept_few is steps.1 steps.0.sources_are
  by_stage Sweep End is at under steps same =
      same_few same (ap (λ (x : Collection). x.snapshot) steps.0) (ap (λ (x : Collection). x.sweep.sources) steps.0)
      (λ first. subst IsToChoose (ap (λ (x : Collection). x.stage) steps.0) first)

  -- A step that is done leaves it so.
  pub few_step : IsUnderWay t.held c → StepsTo c.stage c.sweep.next was is_now → TablesAfter c.stage c.sweep.next was is_now → HasFewSources most u.held d
  few_step under steps tables = by_stage c.stage c.sweep.next refl refl under steps tables

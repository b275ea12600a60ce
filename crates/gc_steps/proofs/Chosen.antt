-- The sources that are chosen, of containers that were recorded.
use Rattle.gc_steps.proofs.Prelude.{◌≡◌, ℕ, zero, suc, ◌<◌, ◌≤◌, Bool, true, false, List, [], ◌∷◌, length, refl, sym, ◌∙◌, ap, subst, arith, filter, if◌then◌else◌, nat_eq, get_or_default_zero, take_all, All-contains, ContainerLiveness, IsSelectedId, is_selected, SlotTable, SweepValue, Begins, is_old, Collection, Chooses, IsRecordedTo, old_ids}
use Rattle.std.proofs.Common.{get_or}
use Rattle.std.specs.Prelude.{◌↔◌, Contains}
use Rattle.std.specs.List.{IsDistinct}
use Rattle.std.specs.List.Sorted.{IsPermutation}
use Rattle.std.proofs.lemmas.List.Elements.{All-contains_itself, All-filter, filter_passes}
use Rattle.std.proofs.lemmas.List.Sorted.{length_permutation}
use Rattle.gc_select.specs.Selecting.{ids_of, selected, sources_of}
use Rattle.gc_select.proofs.Chosen.{ids_many}
use Rattle.gc_sweep.specs.UnderWay.{AreLeft}
use Rattle.gc_steps.specs.declared.collection.Stage.TheVariants.{Sweep}

-- of a list no more pass a test than it has
pub filter_fewer : {A : Type 0} (test : A → Bool) (xs : List A) → length (filter test xs) ≤ length xs
filter_fewer test [] = omega arith
filter_fewer test (x ∷ xs) = by_test (test x) (filter_fewer test xs)
  where
    by_test : (b : Bool) → length (filter test xs) ≤ length xs → length (if b then x ∷ filter test xs else filter test xs) ≤ length (x ∷ xs)
    by_test true rest = omega (arith, rest)
    by_test false rest = omega (arith, rest)

module _ (t : SlotTable) (c : Collection) (sources : List ℕ) (recorded : IsRecordedTo t c (length t.ids.items)) where
  pub whole : ids_of c.liveness ≡ old_ids c.snapshot t.ids.items
  whole = recorded ∙ ap (old_ids c.snapshot) (take_all (length t.ids.items) t.ids.items (omega arith))

  -- no more are chosen than containers were there
  pub few_chosen : IsPermutation (ids_of (selected c.snapshot c.percent c.liveness)) sources → length sources ≤ length (old_ids c.snapshot t.ids.items)
  few_chosen each =
      let chosen = selected c.snapshot c.percent c.liveness in
      omega (
        arith,
        length_permutation (ids_of chosen) sources each,
        ids_many chosen,
        filter_fewer (is_selected c.snapshot c.percent) c.liveness,
        ids_many c.liveness,
        ap length whole,
      )

  -- each is a container that was there, and is there still
  module _ (which : (id : ℕ) → Contains sources id ↔ IsSelectedId c.snapshot c.percent c.liveness id) where
    among_old : (i : ℕ) → i < length sources → Contains (old_ids c.snapshot t.ids.items) (get_or sources i 0)
    among_old i within =
        let any = (which (get_or sources i 0)).0 (i, within, get_or_default_zero sources i (get_or sources i 0) within) in
        subst (λ (ids : List ℕ). Contains ids (get_or sources i 0)) whole (id_there c.liveness (get_or sources i 0) any.0 any.1 any.2 any.3 any.4.0)
      where
        id_there : (cs : List ContainerLiveness) (id k : ℕ) (one : ContainerLiveness) → k < length cs → get_or cs k one ≡ one → one.id ≡ id → Contains (ids_of cs) id
        id_there [] id k one within is same = absurd (omega (arith, within))
        id_there (x ∷ cs) id zero one within is same = (0, omega arith, ap (λ (y : ContainerLiveness). y.id) is ∙ same)
        id_there (x ∷ cs) id (suc k) one within is same = let rest = id_there cs id k one (omega (arith, within)) is same in (suc rest.0, omega (arith, rest.1), rest.2)

    pub all_left : AreLeft t c.snapshot sources 0
    all_left = record {
      old = λ i within. All-contains (λ id. is_old c.snapshot id ≡ true) (old_ids c.snapshot t.ids.items) (get_or sources i 0) (filter_passes (is_old c.snapshot) t.ids.items)
          (among_old i within);
      there = λ i from within.
          All-contains (Contains t.ids.items) (old_ids c.snapshot t.ids.items) (get_or sources i 0)
          (All-filter (is_old c.snapshot) (Contains t.ids.items) t.ids.items (All-contains_itself t.ids.items)) (among_old i within);
    }

    pub first_left : 0 < length sources → Contains t.ids.items (get_or sources 0 0)
    first_left some = all_left.there 0 (omega arith) some

  pub once : IsDistinct nat_eq (old_ids c.snapshot t.ids.items) → (IsDistinct nat_eq (ids_of c.liveness) → IsDistinct nat_eq sources) → IsDistinct nat_eq sources
  once differ apart = apart (subst (IsDistinct nat_eq) (sym whole) differ)

-- what is so of the sources that are chosen
pub record AreChosen (c : Collection) (sources : List ℕ) : Type 0 where
  pub each : IsPermutation (ids_of (selected c.snapshot c.percent c.liveness)) sources
  pub apart : IsDistinct nat_eq (ids_of c.liveness) → IsDistinct nat_eq sources
  pub sources_are : sources ≡ sources_of (selected c.snapshot c.percent c.liveness)

module _ (t : SlotTable) (c : Collection) (sources : List ℕ) (are : AreChosen c sources) (sweep : SweepValue) (begins : Begins t sources sweep) where
  -- and a sweep of them begins
  pub chooses : Chooses t c (record c { stage = Sweep; sweep = sweep })
  chooses =
      let now : AreChosen c sweep.sources.items = subst (AreChosen c) (sym begins.sources_are) are in record {
        each = now.each;
        apart = now.apart;
        sources_are = now.sources_are;
        begins = subst (λ (xs : List ℕ). Begins t xs sweep) (sym begins.sources_are) begins;
        collection_is = refl;
      }

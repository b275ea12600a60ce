-- Passes that are split off and taken in, and what they know.
use Rattle.std.proofs.Common.{◌≡◌, ◌≢◌, ℕ, zero, suc, ◌+◌, ◌<◌, ◌≤◌, if◌then◌else◌, Bool, List, [], ◌∷◌, ◌++◌, map, reverse, length, get_or, Some, refl, sym, ap, ◌∙◌, subst, arith, eq-eqb, ne_eqb, below_more, add-zero}
use Rattle.std.proofs.lemmas.List.{get_or_append_left, reverse-append}
use mathlib.Core.Logic.{dite}
use native.Mathlib.Decide.{ℕ_discrete}
use Rattle.atomic_table.specs.Seated.{TableId}
use Rattle.actor_parts.specs.declared.answered.Answered.{Answered}
use Rattle.actor_parts.specs.Asking.{Ask, AsksAll}
use Rattle.turn_lock.specs.declared.history.Turn.{Turn}
use Rattle.turn_lock.specs.declared.history.View.{View}
use Rattle.turn_lock.specs.History.{times}
use Rattle.turn_lock.specs.Lock.{own_of}
use Rattle.turn_lock.specs.Plays.{Seated, both}
use Rattle.turn_lock.proofs.Totals.{times_append}
use Rattle.store_core.specs.State.{CoreState, Event}
use Rattle.shared_store.specs.Calls.{JoinsPass, SplitsPass}
use Rattle.shared_store.specs.Made.{MakesStep, actor_in}
use Rattle.shared_store.specs.Passes.{PassValue, actor_of}
use Rattle.shared_store.specs.Events.{event_of}
use Rattle.shared_store.specs.Telling.{AsksAreTold, Tells, TellsNone, TellsOn, asks_of}
use Rattle.shared_work.specs.Freed.{SplitIsFresh, SplitStaysFresh}
use Rattle.shared_work.specs.Working.{HasTaken, IsNew, JoinsAll, up_to}

-- ---- lists

module _ {X : Type 0} where
  pub at_last : (xs : List X) (x d : X) → get_or (xs ++ x ∷ []) (length xs) d ≡ x
  at_last [] x d = refl
  at_last (y ∷ xs) x d = at_last xs x d

  -- what is so of each, and of one more
  pub each_more : (P : ℕ → X → Type 0) (xs : List X) (x : X) (n : ℕ) → length xs ≡ n → ((k : ℕ) (d : X) → k < n → P k (get_or xs k d)) → P n x
      → (k : ℕ) (d : X) → k < n + 1 → P k (get_or (xs ++ x ∷ []) k d)
  each_more P xs x n many each one k d below =
      below_more (λ i. P i (get_or (xs ++ x ∷ []) i d)) n
      (λ i low. subst (P i) (sym (get_or_append_left xs (x ∷ []) d i (omega arith))) (each i d low))
      (subst (P n) (sym (ap (λ (i : ℕ). get_or (xs ++ x ∷ []) i d) (sym many) ∙ at_last xs x d)) one)
      k below

times_here : (x : ℕ) → 1 ≤ times x (x ∷ [])
times_here x = subst (λ (b : Bool). 1 ≤ (if b then 1 else 0) + 0) (sym (eq-eqb x x refl)) (omega arith)

times_there : (x y : ℕ) → y ≢ x → times x (y ∷ []) ≡ 0
times_there x y ne = subst (λ (b : Bool). (if b then 1 else 0) + 0 ≡ 0) (sym (ne_eqb y x ne)) refl

pub in_up_to : (n x : ℕ) → x ≤ n → 1 ≤ times x (up_to n)
in_up_to zero x low = let is : 0 ≡ x = omega arith in subst (λ (y : ℕ). 1 ≤ times y (0 ∷ [])) is (times_here 0)
in_up_to (suc n) x low = dite (ℕ_discrete x (suc n))
    (λ is. let sum = times_append x (up_to n) (suc n ∷ []) in
    let here : 1 ≤ times x (suc n ∷ []) = subst (λ (y : ℕ). 1 ≤ times y (suc n ∷ [])) (sym is) (times_here (suc n)) in omega arith)
    (λ ne. let sum = times_append x (up_to n) (suc n ∷ []) in let before = in_up_to n x (omega arith) in omega arith)

pub past_up_to : (n x : ℕ) → n < x → times x (up_to n) ≡ 0
past_up_to zero x high = times_there x 0 (omega arith)
past_up_to (suc n) x high =
    let sum = times_append x (up_to n) (suc n ∷ []) in
    let before = past_up_to n x (omega arith) in
    let last = times_there x (suc n) (omega arith) in
    omega arith

module _ {C : Type 0} (state : C → CoreState) where
  -- ---- passes

  pub joins_last : {X : Type 0} (f : X → PassValue C) (old new : List X) (x : X) (pass mid last : PassValue C) → old ≡ new ++ x ∷ [] → JoinsPass state pass (f x) mid
      → JoinsAll state mid (map f (reverse new)) last → JoinsAll state pass (map f (reverse old)) last
  joins_last {X} f old new x pass mid last is one more =
      subst (λ (l : List X). JoinsAll state pass (map f l) last) (sym (ap reverse is ∙ reverse-append new (x ∷ []))) (mid, one, more)

  pub joined_store : (passes : List (PassValue C)) (old new : PassValue C) → JoinsAll state old passes new → new.store ≡ old.store
  joined_store [] old new is = ap (λ (p : PassValue C). p.store) is
  joined_store (pass ∷ passes) old new (mid, one, more) = joined_store passes mid new more ∙ one.store_is

  module _ (o : C) (store : TableId) where
    pub stays_new : SplitStaysFresh state → (number : ℕ) (old new other : PassValue C) → IsNew state o store number old → SplitsPass state old new other
        → IsNew state o store number new
    stays_new stays number old new other is split = record {
      fresh = stays o old new other is.fresh split;
      numbers_are = ap (λ (z : Seated C). z.0.numbers) split.splits.is ∙ is.numbers_are;
      store_is = split.stores_are.0 ∙ is.store_is;
    }

    pub other_new : SplitIsFresh state → (number n : ℕ) (old new other : PassValue C) → IsNew state o store number old → SplitsPass state old new other
        → actor_of other ≡ n → IsNew state o store n other
    other_new fresh number n old new other is split named = record {
      fresh = fresh o old new other is.fresh.opened split;
      numbers_are = ap (λ (z : Seated C). z.0.numbers) split.splits.other_is ∙ ap (λ (k : ℕ). k ∷ []) named;
      store_is = split.stores_are.1 ∙ is.store_is;
    }

    -- A caller that began with a pass of this number has asked for these.
    pub record Asked (number : ℕ) (all : List Ask) (caller : PassValue C × Answered) : Type 0 where
      pub start : PassValue C × Answered
      pub began : IsNew state o store number start.0
      pub asked : AsksAll (asks_of state) start all caller

  -- ---- what passes know

  module _ (o : C) where
    abbrev Told : ℕ → List (Turn C) → List Event → Type 0
    Told x = Tells actor_in (MakesStep state) x o

    -- A pass of this number alone has made these steps.
    pub record Knows (number : ℕ) (all : List Ask) (pass : PassValue C) : Type 0 where
      pub opened : pass.view.opening ≡ Some o
      pub numbers_are : pass.view.numbers ≡ number ∷ []
      pub told : Tells actor_in (MakesStep state) number o pass.view.seen (map (event_of number) all)

    pub knows : AsksAreTold state → TellsNone actor_in (MakesStep state) → (store : TableId) (number : ℕ) (all : List Ask) (caller : PassValue C × Answered)
        → Asked o store number all caller → Knows number all caller.0
    knows asked none store number all caller a =
        let start = a.start in
        let fresh = a.began.fresh in
        let did = asked all start caller fresh.numbered a.asked in record {
          opened = did.opening_is ∙ fresh.opened;
          numbers_are = did.numbers_are ∙ a.began.numbers_are;
          told = subst (λ (k : ℕ). Told k caller.0.view.seen (map (event_of k) all)) (ap own_of a.began.numbers_are)
              (did.told o [] fresh.opened (none (actor_of start.0) o start.0.view.seen fresh.none_made));
        }

    module _ (on : TellsOn actor_in (MakesStep state)) (asks : ℕ → List Ask) where
      taken : (n : ℕ) (old other new : PassValue C) → HasTaken state o asks n old → Knows (suc n) (asks (suc n)) other → JoinsPass state old other new
          → HasTaken state o asks (suc n) new
      taken n old other new has other_knows joins =
          let j = joins.joins in
          let view_is : new.view ≡ both old.view other.view = ap (λ (z : Seated C). z.0) j.is in record {
            opened = ap (λ (v : View C). v.opening) view_is ∙ has.opened;
            numbers_are = ap (λ (v : View C). v.numbers) view_is ∙ ap (λ (l : List ℕ). l ++ other.view.numbers) has.numbers_are
                ∙ ap (λ (l : List ℕ). up_to n ++ l) other_knows.numbers_are;
            told = λ x low. dite (ℕ_discrete x (suc n))
                (λ is. subst (λ (k : ℕ). Told k new.view.seen (map (event_of k) (asks k))) (sym is)
                (on (suc n) o other.view.numbers other.view.seen new.view.seen (map (event_of (suc n)) (asks (suc n))) j.second
                (subst (λ (l : List ℕ). 1 ≤ times (suc n) l) (sym other_knows.numbers_are) (times_here (suc n))) other_knows.told))
                (λ ne. let below : x ≤ n = omega arith in
                on x o old.view.numbers old.view.seen new.view.seen (map (event_of x) (asks x)) j.first
                (subst (λ (l : List ℕ). 1 ≤ times x l) (sym has.numbers_are) (in_up_to n x below)) (has.told x below));
          }

      pub taken_all : (callers : List (PassValue C × Answered)) (n : ℕ) (old new : PassValue C) → HasTaken state o asks n old
          → ((k : ℕ) (d : PassValue C × Answered) → k < length callers → Knows (suc (n + k)) (asks (suc (n + k))) (get_or callers k d).0)
          → JoinsAll state old (map (λ c. c.0) callers) new → HasTaken state o asks (n + length callers) new
      taken_all [] n old new has each is =
          subst (λ (k : ℕ). HasTaken state o asks k new) (sym (add-zero n)) (subst (HasTaken state o asks n) (sym is) has)
      taken_all (c ∷ callers) n old new has each (mid, one, more) =
          let first = subst (λ (m : ℕ). Knows (suc m) (asks (suc m)) c.0) (add-zero n) (each 0 c (omega arith)) in
          let many : suc n + length callers ≡ n + length (c ∷ callers) = omega arith in
          subst (λ (k : ℕ). HasTaken state o asks k new) many
          (taken_all callers (suc n) mid new (taken n old c.0 mid has first one)
          (λ k d below. let next : n + suc k ≡ suc n + k = omega arith in
          subst (λ (m : ℕ). Knows (suc m) (asks (suc m)) (get_or callers k d).0) next (each (suc k) d (omega arith)))
          more)

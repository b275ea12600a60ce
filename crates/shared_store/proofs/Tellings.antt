-- What is told of a number in a history that grows.
use Rattle.std.proofs.Common.{◌≡◌, ◌≢◌, ℕ, ◌+◌, ◌≤◌, List, [], ◌∷◌, ◌++◌, map, length, refl, sym, ap, ◌∙◌, subst, Some, MatchBool, arith, append_assoc, append-nil, eq-eqb, ne_eqb, if◌then◌else◌, ◌==◌}
use mathlib.Core.Logic.{dite}
use native.Mathlib.Decide.{ℕ_discrete}
use Rattle.actor_parts.specs.declared.answered.Answered.{Answered}
use Rattle.actor_parts.specs.Asking.{Ask, AsksAll}
use Rattle.turn_lock.specs.declared.history.Turn.{Turn}
use Rattle.turn_lock.specs.declared.history.View.{View}
use Rattle.turn_lock.specs.History.{last_of, turns_by, times, turn_of}
use Rattle.turn_lock.specs.Lock.{own_of}
use Rattle.store_core.specs.Core.{CoreStep}
use Rattle.store_core.specs.State.{CoreState, Event}
use Rattle.shared_store.specs.Calls.{Called}
use Rattle.shared_store.specs.Made.{MakesStep, actor_in, steps_in}
use Rattle.shared_store.specs.Passes.{PassValue, actor_of}
use Rattle.shared_store.specs.Events.{event_of}
use Rattle.shared_store.specs.Telling.{AreTold, AsksAreTold, Did, Tells, TellsNone, TellsOn, asks_of, steps_by}

module _ {C E : Type 0} (actor : E → ℕ) (Makes : E → C → C → Type 0) where
  module _ (x : ℕ) where
    -- the first turn is x's own, and is one of these steps
    abbrev First : C → Turn C → List (Turn C) → List E → Type 0
    First o t log es = (first : E) × (rest : List E) × (es ≡ first ∷ rest) × (actor first ≡ x) × Makes first o t.value × Tells actor Makes x t.value log rest

    mine_first : (o : C) (t : Turn C) (log : List (Turn C)) (es : List E) → t.by ≡ x → First o t log es → Tells actor Makes x o (t ∷ log) es
    mine_first o t log es is h = subst (λ b. MatchBool b (First o t log es) (Tells actor Makes x t.value log es)) (sym (eq-eqb t.by x is)) h

    other_first : (o : C) (t : Turn C) (log : List (Turn C)) (es : List E) → t.by ≢ x → Tells actor Makes x t.value log es → Tells actor Makes x o (t ∷ log) es
    other_first o t log es ne h = subst (λ b. MatchBool b (First o t log es) (Tells actor Makes x t.value log es)) (sym (ne_eqb t.by x ne)) h

    is_mine : (o : C) (t : Turn C) (log : List (Turn C)) (es : List E) → t.by ≡ x → Tells actor Makes x o (t ∷ log) es → First o t log es
    is_mine o t log es is h = subst (λ b. MatchBool b (First o t log es) (Tells actor Makes x t.value log es)) (eq-eqb t.by x is) h

    is_other : (o : C) (t : Turn C) (log : List (Turn C)) (es : List E) → t.by ≢ x → Tells actor Makes x o (t ∷ log) es → Tells actor Makes x t.value log es
    is_other o t log es ne h = subst (λ b. MatchBool b (First o t log es) (Tells actor Makes x t.value log es)) (ne_eqb t.by x ne) h

    one_more : (y : ℕ) (rest : ℕ) → y ≡ x → 1 ≤ (if y == x then 1 else 0) + rest
    one_more y rest is = subst (λ b. 1 ≤ (if b then 1 else 0) + rest) (sym (eq-eqb y x is)) (omega arith)

    -- turns of others tell nothing
    pub tells_others : (o : C) (log between : List (Turn C)) (es : List E) → Tells actor Makes x o log es → turns_by x between ≡ 0
        → Tells actor Makes x o (log ++ between) es
    tells_others o [] [] es h zero_turns = h
    tells_others o [] (t ∷ between) es h zero_turns =
        other_first o t between es (λ is. let m = one_more t.by (turns_by x between) is in absurd (omega arith)) (tells_others t.value [] between es h (omega arith))
    tells_others o (t ∷ log) between es h zero_turns = dite (ℕ_discrete t.by x)
        (λ is. let k = is_mine o t log es is h in mine_first o t (log ++ between) es is (k.0, k.1, k.2, k.3, k.4, tells_others t.value log between k.1 k.5 zero_turns))
        (λ ne. other_first o t (log ++ between) es ne (tells_others t.value log between es (is_other o t log es ne h) zero_turns))

    -- one more turn
    pub tells_snoc : (o : C) (log : List (Turn C)) (after : C) (es : List E) (e : E) → actor e ≡ x → Tells actor Makes x o log es → Makes e (last_of o log) after
        → Tells actor Makes x o (log ++ turn_of x after ∷ []) (es ++ e ∷ [])
    tells_snoc o [] after es e by h made = mine_first o (turn_of x after) [] (es ++ e ∷ []) refl (e, [], ap (λ l. l ++ e ∷ []) h, by, made, refl)
    tells_snoc o (t ∷ log) after es e by h made = dite (ℕ_discrete t.by x)
        (λ is. let k = is_mine o t log es is h in
        mine_first o t (log ++ turn_of x after ∷ []) (es ++ e ∷ []) is (k.0, k.1 ++ e ∷ [], ap (λ l. l ++ e ∷ []) k.2, k.3, k.4, tells_snoc t.value log after k.1 e by k.5 made))
        (λ ne. other_first o t (log ++ turn_of x after ∷ []) (es ++ e ∷ []) ne (tells_snoc t.value log after es e by (is_other o t log es ne h) made))

  pub tells_none : TellsNone actor Makes
  tells_none x o log zero_turns = tells_others x o [] log [] refl zero_turns

  pub tells_on : TellsOn actor Makes
  tells_on x o numbers seen log es follows mine h =
      subst (λ l. Tells actor Makes x o l es) (sym follows.1) (tells_others x o seen follows.0 es h (follows.2 x mine))

  -- ---- the steps of all numbers

  pub are_told : AreTold actor Makes
  are_told o [] per h = (tt, λ x. sym (h x))
  are_told o (t ∷ log) per h =
      let m = is_mine t.by o t log (per t.by) refl (h t.by) in
      let later : ℕ → List E = λ y. if y == t.by then m.1 else per y in
      let here : (y : ℕ) → y ≡ t.by → later y ≡ m.1 = λ y is. ap (λ b. if b then m.1 else per y) (eq-eqb y t.by is) in
      let there : (y : ℕ) → y ≢ t.by → later y ≡ per y = λ y ne. ap (λ b. if b then m.1 else per y) (ne_eqb y t.by ne) in
      let rest = are_told t.value log later (λ y. dite (ℕ_discrete y t.by)
      (λ is. subst (λ (z : ℕ × List E). Tells actor Makes z.0 t.value log z.1) (λ i. (sym is i, sym (here y is) i)) m.5)
      (λ ne. subst (Tells actor Makes y t.value log) (sym (there y ne)) (is_other y o t log (per y) (λ same. ne (sym same)) (h y)))) in
      let mine : ℕ → List E = λ y. steps_by actor Makes y (steps_in actor Makes t.value log rest.0) in (
        ((m.0, m.3, m.4), rest.0),
        λ x. dite (ℕ_discrete x t.by)
            (λ is. ap (λ b. if b then m.0 ∷ mine x else mine x) (eq-eqb (actor m.0) x (m.3 ∙ sym is)) ∙ ap (λ l. m.0 ∷ l) (rest.1 x ∙ here x is) ∙ sym m.2 ∙ ap per (sym is))
            (λ ne. ap (λ b. if b then m.0 ∷ mine x else mine x) (ne_eqb (actor m.0) x (λ same. ne (sym same ∙ m.3))) ∙ rest.1 x ∙ there x ne),
      )

own_there : (ns : List ℕ) (x : ℕ) → own_of ns ≡ x → 1 ≤ length ns → 1 ≤ times x ns
own_there [] x is l = absurd (omega arith)
own_there (y ∷ ns) x is l = subst (λ b. 1 ≤ (if b then 1 else 0) + times x ns) (sym (eq-eqb y x is)) (omega arith)

-- ---- what was asked for

module _ {C : Type 0} (state : C → CoreState) where
  abbrev Told : ℕ → C → List (Turn C) → List Event → Type 0
  Told = Tells actor_in (MakesStep state)

  -- a call is one more turn
  tells_called : (x : ℕ) (v w : View C) (e : Event) → e.actor ≡ x → 1 ≤ times x v.numbers → Called state v e w → (o : C) (events : List Event) → v.opening ≡ Some o
      → Told x o v.seen events → Told x o w.seen (events ++ e ∷ [])
  tells_called x v w e by mine c o events opened h =
      let all = tells_others actor_in (MakesStep state) x o v.seen c.between events h (c.none_mine x mine) in
      let made = subst (λ f. CoreStep (state f) e (state c.after)) (c.legal o opened).1 c.made in
      subst (λ l. Told x o l (events ++ e ∷ [])) (sym (c.seen_is ∙ ap (λ k. (v.seen ++ c.between) ++ turn_of k c.after ∷ []) by))
      (tells_snoc actor_in (MakesStep state) x o (v.seen ++ c.between) c.after events e by all (c.asked, made))

  abbrev S : Type 0
  S = PassValue C × Answered

  did_all : (x : ℕ) (all : List Ask) (old new : S) → AsksAll (asks_of state) old all new → actor_of old.0 ≡ x → 1 ≤ times x old.0.view.numbers
      → Did state x old.0.view all new.0.view
  did_all x [] old new h by mine = record {
    opening_is = ap (λ (s : S). s.0.view.opening) h;
    numbers_are = ap (λ (s : S). s.0.view.numbers) h;
    told = λ o events opened t. subst (λ (z : List (Turn C) × List Event). Told x o z.0 z.1) (λ i. ((sym h i).0.view.seen, sym (append-nil events) i)) t;
  }
  did_all x (a ∷ all) old new (mid, (one, more)) by mine =
      let c = one.called in
      let same : actor_of mid.0 ≡ x = ap own_of c.numbers_are ∙ by in
      let rest = did_all x all mid new more same (subst (λ ns. 1 ≤ times x ns) (sym c.numbers_are) mine) in record {
        opening_is = rest.opening_is ∙ c.opening_is;
        numbers_are = rest.numbers_are ∙ c.numbers_are;
        told = λ o events opened t.
            let first : Event = event_of (actor_of old.0) a in
            let is : first ≡ event_of x a = ap (λ (k : ℕ). event_of k a) by in
            let now = rest.told o (events ++ first ∷ []) (c.opening_is ∙ opened) (tells_called x old.0.view mid.0.view first by mine c o events opened t) in
            subst (Told x o new.0.view.seen) (append_assoc events (first ∷ []) (map (event_of x) all) ∙ ap (λ (e : Event). events ++ e ∷ map (event_of x) all) is) now;
      }

  pub asks_are_told : AsksAreTold state
  asks_are_told all old new some_number h = did_all (actor_of old.0) all old new h refl (own_there old.0.view.numbers (actor_of old.0) refl some_number)

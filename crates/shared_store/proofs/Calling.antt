-- From a turn that was taken to a call.
use Rattle.std.proofs.Common.{◌≡◌, ℕ, List, [], ◌∷◌, ◌++◌, Result, sym, ap, ◌∙◌, subst}
use Rattle.actor_parts.specs.declared.step.Answer.{Answer}
use Rattle.actor_parts.specs.Counts.{is_refused_by}
use Rattle.actor_parts.specs.Kinds.{kind_of}
use Rattle.actor_parts.specs.Parts.{part_of}
use Rattle.actor_parts.specs.StepValue.{IsStep, StepValue}
use Rattle.refusals.specs.declared.refusal.Refusal.{Refusal}
use Rattle.turn_lock.specs.declared.history.Home.{Home}
use Rattle.turn_lock.specs.declared.history.View.{View}
use Rattle.turn_lock.specs.History.{last_of, IsHistory, turn_of}
use Rattle.turn_lock.specs.Lock.{TakesTurn, own_of, resting}
use Rattle.turn_lock.specs.Plays.{Seated}
use Rattle.store_core.specs.Core.{CoreStep}
use Rattle.store_core.specs.State.{CoreState, Event}
use Rattle.shared_store.specs.Calls.{Called, Calls, lines_of}
use Rattle.shared_store.specs.Made.{MadeBy}
use Rattle.shared_store.specs.Passes.{PassValue, actor_of}

module _ {C : Type 0} (state : C → CoreState) where
  called_of : (v : View C) (home : Home C) (after : C) (w1 : Seated C) (w : View C) (e : Event) → TakesTurn (MadeBy state) v home w1 → own_of v.numbers ≡ e.actor
      → IsStep e.step → CoreStep (state home.value) e (state after)
      → w ≡ (resting w1.0 (w1.0.seen ++ turn_of (own_of w1.0.numbers) after ∷ []) w1.0.numbers).0 → Called state v e w
  called_of v home after w1 w e t own asked made left =
      let follows = t.all.follows in
      let by : own_of w1.0.numbers ≡ e.actor = ap (λ (x : Seated C). own_of x.0.numbers) t.is ∙ own in record {
        between = follows.0;
        found = home.value;
        after = after;
        opening_is = ap (λ (x : View C). x.opening) left ∙ ap (λ (x : Seated C). x.0.opening) t.is;
        numbers_are = ap (λ (x : View C). x.numbers) left ∙ ap (λ (x : Seated C). x.0.numbers) t.is;
        seen_is = ap (λ (x : View C). x.seen) left ∙ (λ i. (ap (λ (x : Seated C). x.0.seen) t.is ∙ follows.1) i ++ turn_of (by i) after ∷ []);
        none_mine = follows.2;
        legal = λ o is. let l = t.all.legal o is in (subst (IsHistory (MadeBy state) o) follows.1 l.0, l.1 ∙ ap (last_of o) follows.1);
        asked = asked;
        made = made;
      }

  abbrev event : ℕ → StepValue → Result Answer Refusal → List ℕ → Event
  event a step answer buf = record { actor = a; step = step; answer = answer; buf = buf }

  -- and what the pass knows then
  pub calls_of : (old inside new : PassValue C) (home : Home C) (after : C) (w1 : Seated C) (a : ℕ) (step : StepValue) (answer : Result Answer Refusal)
      (buf : List ℕ) → inside ≡ old
      → TakesTurn (MadeBy state) inside.view home w1 → actor_of inside ≡ a → IsStep step → CoreStep (state home.value) (event a step answer buf) (state after)
      → new.view ≡ (resting w1.0 (w1.0.seen ++ turn_of (own_of w1.0.numbers) after ∷ []) w1.0.numbers).0 → new.store ≡ inside.store
      → new.lines ≡ lines_of state after → new.kind ≡ kind_of (part_of (state after).parts a) → new.stopped ≡ is_refused_by 12 answer
      → Calls state (event (actor_of old) step answer buf) old new
  unfolding called_of
  calls_of old inside new home after w1 a step answer buf is t own asked made left store lines kind stopped =
      subst (λ (z : PassValue C × ℕ). Calls state (event z.1 step answer buf) z.0 new) (λ i. (is i, (sym own ∙ ap actor_of is) i)) (record {
        called = called_of inside.view home after w1 new.view (event a step answer buf) t own asked made left;
        store_is = store;
        lines_is = lines;
        kind_is = kind;
        stopped_is = stopped;
      })

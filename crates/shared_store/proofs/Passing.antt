-- From what the lock tells of its passes to what the store does.
use Rattle.std.proofs.Common.{◌≡◌, ◌≤◌, ◌<◌, ◌+◌, ℕ, [], length, false, sym, ap, ◌∙◌, subst}
use Rattle.actor_parts.specs.declared.actor.TheConstants.{ACTORS}
use Rattle.refusals.specs.declared.refusal.PartKind.TheVariants.{Idle}
use Rattle.turn_lock.specs.declared.history.Home.{Home}
use Rattle.turn_lock.specs.declared.history.View.{View}
use Rattle.turn_lock.specs.Lock.{Splits, SplitsNone, TakesTurn, own_of, resting}
use Rattle.turn_lock.specs.Plays.{Seated}
use Rattle.store_core.specs.State.{CoreState}
use Rattle.shared_store.specs.Calls.{HandsBack, SplitsNoPass, SplitsPass, lines_of}
use Rattle.shared_store.specs.Made.{MadeBy}
use Rattle.shared_store.specs.Passes.{PassValue, actor_of}

-- all else is as it was
abbrev Rests : {C : Type 0} → PassValue C → PassValue C → Type 0
Rests old new = (new.kind ≡ old.kind) × (new.stopped ≡ old.stopped)

module _ {C : Type 0} (state : C → CoreState) where
  -- a pass between two calls has nothing in its hands
  seated : (v : View C) (w : Seated C) (r : View C) → v ≡ w.0 → w ≡ (r, []) → w ≡ (v, [])
  seated v w r view is = is ∙ sym (ap (λ (u : View C). (u, [])) (view ∙ ap (λ (x : Seated C). x.0) is))

  pub hands_back : (old inside new : PassValue C) (others numbers count : ℕ) (home : Home C) (w m : Seated C) → inside ≡ old → 1 ≤ others
      → TakesTurn (MadeBy state) inside.view home w → others + numbers ≡ home.given → numbers ≡ length inside.view.numbers → count ≡ lines_of state home.value
      → m ≡ resting w.0 w.0.seen w.0.numbers → new.view ≡ m.0 → new.store ≡ inside.store → new.lines ≡ count → Rests inside new → HandsBack state old others new
  hands_back old inside new others numbers count home w m is some_others t given many counted rests view store lines stays =
      let here : new.view ≡ (resting w.0 w.0.seen w.0.numbers).0 = view ∙ ap (λ (x : Seated C). x.0) rests in
      subst (λ (p : PassValue C). HandsBack state p others new) is (record {
        some = some_others;
        home = home;
        mid = w;
        took = t;
        given = ap (λ (k : ℕ). others + k) (sym many) ∙ given ∙ sym (ap (λ (v : View C). v.given) here ∙ ap (λ (x : Seated C). x.0.given) t.is);
        view_is = ap (λ (u : View C). (u, [])) here;
        store_is = store;
        lines_is = lines ∙ counted;
        stays = stays;
      })

  pub splits_pass : (old inside new other : PassValue C) (number count : ℕ) (w u : Seated C) → inside ≡ old
      → Splits (MadeBy state) (lines_of state) inside.view number count w u → number < ACTORS → new.view ≡ w.0 → other.view ≡ u.0
      → (new.store ≡ inside.store) × (other.store ≡ inside.store) → new.lines ≡ count → other.lines ≡ count → Rests inside new
      → (other.kind ≡ Idle) × (other.stopped ≡ false) → SplitsPass state old new other
  splits_pass old inside new other number count w u is s below view there stores lines count_is stays fresh =
      let own : actor_of other ≡ number = ap (λ (v : View C). own_of v.numbers) (there ∙ ap (λ (x : Seated C). x.0) s.other_is) in
      subst (λ (p : PassValue C). SplitsPass state p new other) is (record {
        splits = subst (λ (z : (ℕ × ℕ) × (Seated C × Seated C)). Splits (MadeBy state) (lines_of state) inside.view z.0.0 z.0.1 z.1.0 z.1.1)
            (λ i. ((sym own i, sym count_is i), (seated new.view w _ view s.is i, seated other.view u _ there s.other_is i))) s;
        below = subst (λ (k : ℕ). k < ACTORS) (sym own) below;
        stores_are = stores;
        lines_is = lines ∙ sym count_is;
        stays = stays;
        other_is = fresh;
      })

  pub splits_none : (old inside new : PassValue C) (count : ℕ) (w : Seated C) → inside ≡ old → SplitsNone (MadeBy state) (lines_of state) inside.view count w
      → new.view ≡ w.0 → new.store ≡ inside.store → new.lines ≡ count → Rests inside new → SplitsNoPass state old new
  splits_none old inside new count w is s view store lines stays =
      subst (λ (p : PassValue C). SplitsNoPass state p new) is (record {
        splits = subst (λ (z : ℕ × Seated C). SplitsNone (MadeBy state) (lines_of state) inside.view z.0 z.1) (λ i. (sym lines i, seated new.view w _ view s.is i)) s;
        store_is = store;
        stays = stays;
      })

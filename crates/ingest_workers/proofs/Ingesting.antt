-- A file that a caller gives, among the steps of others.
use Rattle.std.proofs.Common.{◌≡◌, ◌≢◌, inl, ℕ, ◌==◌, Bool, true, false, List, [], ◌∷◌, ◌++◌, reverse, refl, sym, ap, ◌∙◌, subst, append_assoc, append-nil, eq-eqb, ne_eqb, if◌then◌else◌}
use mathlib.Core.Logic.{dite}
use native.Mathlib.Decide.{ℕ_discrete}
use Rattle.std.specs.List.{AllByRecursion}
use Rattle.std.proofs.lemmas.List.{reverse-append, reverse-reverse}
use Rattle.actor_parts.specs.Asking.{Ask}
use Rattle.actor_parts.specs.StepValue.{StepValue}
use Rattle.load_stream.specs.Load.{LoadState}
use Rattle.ingest_session.specs.Due.{due_in}
use Rattle.ingest_session.specs.History.{History, no_history}
use Rattle.store_core.specs.Runs.{FileEvent}
use Rattle.session_turns.specs.Owning as owned
use Rattle.session_turns.specs.Owning.{Ingests, IsAskedFor, IsBeside}
use Rattle.session_turns.proofs.TurnSteps.{ingests_beside}
use Rattle.ingest_workers.specs.Giving.{Begun, Given, Gives, Turned}
use Rattle.ingest_workers.specs.Ingesting.{GivesAreIngests, ask_of, asks_by}

-- ---- the last of a list

pub snoc_parts : {X : Type 0} (xs ys : List X) (x y : X) → xs ++ x ∷ [] ≡ ys ++ y ∷ [] → (xs ≡ ys) × (x ≡ y)
snoc_parts xs ys x y same =
    let turned : x ∷ reverse xs ≡ y ∷ reverse ys = sym (reverse-append xs (x ∷ [])) ∙ ap reverse same ∙ reverse-append ys (y ∷ []) in
    let rest : reverse xs ≡ reverse ys = cc in
    (sym (reverse-reverse xs) ∙ ap reverse rest ∙ reverse-reverse ys, cc)

pub none_last : {X : Type 0} (xs : List X) (x : X) → [] ≢ xs ++ x ∷ []
none_last [] x same = absurd (cc)
none_last (y ∷ xs) x same = absurd (cc)

data Back {X : Type 0} : List X → Type 0 where
  Nil : Back []
  Snoc : (xs : List X) (x : X) → Back xs → Back (xs ++ x ∷ [])

back_from : {X : Type 0} (before xs : List X) → Back before → Back (before ++ xs)
back_from before [] back = subst Back (sym (append-nil before)) back
back_from before (x ∷ xs) back = subst Back (append_assoc before (x ∷ []) xs) (back_from (before ++ x ∷ []) xs (Snoc before x back))

back : {X : Type 0} (xs : List X) → Back xs
back xs = back_from [] xs Nil

-- ---- the last step of an actor

module _ (actor : ℕ) where
  abbrev one_by : FileEvent → List Ask
  one_by f = if f.event.actor == actor then ask_of f.event ∷ [] else []

  cons_by : (mine : Bool) (a : Ask) (xs ys : List Ask) → (if mine then a ∷ (xs ++ ys) else xs ++ ys) ≡ (if mine then a ∷ xs else xs) ++ ys
  cons_by true a xs ys = refl
  cons_by false a xs ys = refl

  asks_snoc : (fs : List FileEvent) (f : FileEvent) → asks_by actor (fs ++ f ∷ []) ≡ asks_by actor fs ++ one_by f
  asks_snoc [] f = refl
  asks_snoc (g ∷ fs) f =
      ap (λ (l : List Ask). if g.event.actor == actor then ask_of g.event ∷ l else l) (asks_snoc fs f)
      ∙ cons_by (g.event.actor == actor) (ask_of g.event) (asks_by actor fs) (one_by f)

  record LastOwn (fs : List FileEvent) (rest : List Ask) (a : Ask) : Type 0 where
    before : List FileEvent
    own : FileEvent
    after : List FileEvent
    all_is : fs ≡ (before ++ own ∷ []) ++ after
    before_is : asks_by actor before ≡ rest
    mine : own.event.actor ≡ actor
    asked : ask_of own.event ≡ a
    others : AllByRecursion (λ g. IsBeside actor g.event) after

  all_snoc : (gs : List FileEvent) (f : FileEvent) → AllByRecursion (λ g. IsBeside actor g.event) gs → IsBeside actor f.event
      → AllByRecursion (λ g. IsBeside actor g.event) (gs ++ f ∷ [])
  all_snoc [] f all is = (is, tt)
  all_snoc (g ∷ gs) f all is = (all.0, all_snoc gs f all.1 is)

  last_own : (fs : List FileEvent) → Back fs → (rest : List Ask) (a : Ask) → asks_by actor fs ≡ rest ++ a ∷ [] → LastOwn fs rest a
  last_own fs Nil rest a is = absurd (none_last rest a is)
  last_own fs (Snoc gs f b) rest a is = dite (ℕ_discrete f.event.actor actor)
      (λ mine.
      let here : one_by f ≡ ask_of f.event ∷ [] = ap (λ (t : Bool). if t then ask_of f.event ∷ [] else []) (eq-eqb f.event.actor actor mine) in
      let parts = snoc_parts (asks_by actor gs) rest (ask_of f.event) a (ap (λ (l : List Ask). asks_by actor gs ++ l) (sym here) ∙ sym (asks_snoc gs f) ∙ is) in
      record {
        before = gs;
        own = f;
        after = [];
        all_is = sym (append-nil (gs ++ f ∷ []));
        before_is = parts.0;
        mine = mine;
        asked = parts.1;
        others = tt;
      })
      (λ other.
      let none : one_by f ≡ [] = ap (λ (t : Bool). if t then ask_of f.event ∷ [] else []) (ne_eqb f.event.actor actor other) in
      let further = last_own gs b rest a (sym (append-nil (asks_by actor gs)) ∙ ap (λ (l : List Ask). asks_by actor gs ++ l) (sym none) ∙ sym (asks_snoc gs f) ∙ is) in
      record {
        before = further.before;
        own = further.own;
        after = further.after ++ f ∷ [];
        all_is = ap (λ (l : List FileEvent). l ++ f ∷ []) further.all_is ∙ append_assoc (further.before ++ further.own ∷ []) further.after (f ∷ []);
        before_is = further.before_is;
        mine = further.mine;
        asked = further.asked;
        others = all_snoc further.after f further.others (inl (λ same. other (sym same)));
      })

  -- ---- so a file is given among the steps of others

  ingests : (file : LoadState) (all : List Ask) (h : History) → Gives file all h → (fs : List FileEvent) (before : List Ask) → asks_by actor fs ≡ before ++ all → Ingests actor fs h
  ingests file all h (Begun a step done) fs before is =
      let last = last_own fs (back fs) before a is in
      subst (λ (l : List FileEvent). Ingests actor l no_history) (sym last.all_is)
      (ingests_beside actor (last.before ++ last.own ∷ []) last.after no_history
      (owned.Begun last.before last.own
      (record { actor_is = last.mine; step_is = ap (λ (x : Ask). x.step) last.asked ∙ step; answer = done.0; answer_is = ap (λ (x : Ask). x.answer) last.asked ∙ done.1 }))
      last.others)
  ingests file all h (Given rest g k gives untold) fs before is = owned.Given fs g h (ingests file all g gives fs before is) untold
  ingests file all h (Turned rest a x g answer gives of settled due done) fs before is =
      let last = last_own fs (back fs) (before ++ rest) a (is ∙ sym (append_assoc before rest (a ∷ []))) in
      subst (λ (l : List FileEvent). Ingests actor l h) (sym last.all_is)
      (ingests_beside actor (last.before ++ last.own ∷ []) last.after h
      (owned.Turned last.before last.own x g answer (ingests file rest g gives last.before before last.before_is) of.has
      (record {
        actor_is = last.mine;
        is_due = subst (λ (s : StepValue). IsAskedFor (due_in x) x s) (sym (ap (λ (y : Ask). y.step) last.asked)) due;
        answer_is = ap (λ (y : Ask). y.answer) last.asked ∙ done;
      }))
      last.others)

pub gives_are_ingests : GivesAreIngests
gives_are_ingests file actor fs before all h is gives = ingests actor file all h gives fs before is

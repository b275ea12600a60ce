-- A pass by which a worker did its jobs is not busy.
use Rattle.std.proofs.Common.{◌≡◌, inl, inr, ℕ, zero, suc, ◌+◌, ◌<◌, ◌≤◌, ◌==◌, if◌then◌else◌, Bool, true, false, List, [], ◌∷◌, ◌++◌, map, length, Err, replicate, refl, sym, ap, ◌∙◌, subst, MatchBool, arith, eq-eqb, ne_eqb}
use Rattle.std.proofs.lemmas.List.{length-replicate}
use mathlib.Core.Logic.{dite}
use native.Mathlib.Decide.{ℕ_discrete}
use Rattle.actor_parts.specs.declared.actor.TheConstants.{ACTORS}
use Rattle.actor_parts.specs.declared.answered.Answered.{Answered}
use Rattle.actor_parts.specs.declared.part.Part.{Part}
use Rattle.actor_parts.specs.declared.part.Part.TheVariants as parts
use Rattle.actor_parts.specs.Asking.{Ask, Asks, AsksAll}
use Rattle.actor_parts.specs.Counts.{is_refused_by}
use Rattle.actor_parts.specs.Kinds.{kind_of}
use Rattle.actor_parts.specs.Parts.{part_of}
use Rattle.refusals.specs.declared.refusal.Refusal.TheVariants as refusals
use Rattle.turn_lock.specs.declared.history.Turn.{Turn}
use Rattle.turn_lock.specs.declared.history.View.{View}
use Rattle.turn_lock.specs.History.{IsHistory, last_of, times, turn_of, turns_by}
use Rattle.turn_lock.specs.Lock.{own_of}
use Rattle.turn_lock.specs.Plays.{Seated}
use Rattle.store_core.specs.Core.{CoreStep}
use Rattle.store_core.specs.Runs.{RunsOn}
use Rattle.store_core.specs.State.{CoreState, Event}
use Rattle.session_turns.specs.Kinds.{kind_at}
use Rattle.core_machine.specs.Refines.{CoreRefines}
use Rattle.shared_store.specs.Histories.{AreSteps, events_in}
use Rattle.shared_store.specs.Made.{MadeBy, MadeByOne, MakesStep, actor_in, steps_in}
use Rattle.shared_store.specs.Passes.{PassValue, actor_of}
use Rattle.shared_store.specs.Telling as shared
use Rattle.shared_store.specs.Events.{event_of}
use Rattle.shared_store.specs.Telling.{AsksAreTold, TellsNone, Tells, steps_by}
use Rattle.ingest_workers.specs.Ingesting.{ask_of, asks_of}
use Rattle.ingest_workers.specs.Leaving.{WorkersLeave}
use Rattle.ingest_workers.specs.Jobs.{OwnJobs}
use Rattle.shared_work.proofs.Answering.{answers_as_it_runs}
use Rattle.shared_work.specs.Freed.{FirstIsFresh, SplitIsFresh, SplitStaysFresh, StoresStay, WorkersComeFree}

-- ---- lists

module _ {A : Type 0} where
  abbrev last_or : A → List A → A
  last_or d [] = d
  last_or d (x ∷ xs) = last_or x xs

  last_is : (d : A) (xs : List A) (x : A) → last_or d (xs ++ x ∷ []) ≡ x
  last_is d [] x = refl
  last_is d (y ∷ ys) x = last_is y ys x

  same_last : (xs ys : List A) (x y : A) → xs ++ x ∷ [] ≡ ys ++ y ∷ [] → x ≡ y
  same_last xs ys x y same = sym (last_is x xs x) ∙ ap (last_or x) same ∙ last_is x ys y

-- ---- what was asked for, but for the last

record ByLast {S : Type 0} (asks : Asks S) (old : S) (all : List Ask) (new : S) : Type 0 where
  before : List Ask
  last : Ask
  mid : S
  all_is : all ≡ before ++ last ∷ []
  asked : AsksAll asks old before mid
  made : asks mid last.step last.answer last.buf new

by_last : {S : Type 0} (asks : Asks S) (old : S) (a : Ask) (all : List Ask) (new : S) → AsksAll asks old (a ∷ all) new → ByLast asks old (a ∷ all) new
by_last asks old a [] new (mid, (one, is)) = record {
  before = [];
  last = a;
  mid = old;
  all_is = refl;
  asked = refl;
  made = subst (asks old a.step a.answer a.buf) (sym is) one;
}
by_last asks old a (b ∷ all) new (mid, (one, more)) = let rest = by_last asks mid b all new more in record {
  before = a ∷ rest.before;
  last = rest.last;
  mid = rest.mid;
  all_is = ap (λ (l : List Ask). a ∷ l) rest.all_is;
  asked = (mid, (one, rest.asked));
  made = rest.made;
}

-- ---- turns

module _ {C : Type 0} where
  last_snoc : (o : C) (log : List (Turn C)) (t : Turn C) → last_of o (log ++ t ∷ []) ≡ t.value
  last_snoc o [] t = refl
  last_snoc o (x ∷ log) t = last_snoc x.value log t

  history_snoc : (makes : ℕ → C → C → Type 0) (o : C) (log : List (Turn C)) (t : Turn C) → IsHistory makes o log → makes t.by (last_of o log) t.value
      → IsHistory makes o (log ++ t ∷ [])
  history_snoc makes o [] t h made = (made, tt)
  history_snoc makes o (x ∷ log) t h made = (h.0, history_snoc makes x.value log t h.1 made)

  none_after : (x : ℕ) (log rest : List (Turn C)) → turns_by x log ≡ 0 → turns_by x rest ≡ 0 → turns_by x (log ++ rest) ≡ 0
  none_after x [] rest h k = k
  none_after x (t ∷ log) rest h k = let later = none_after x log rest (omega arith) k in omega arith

own_there : (ns : List ℕ) → 1 ≤ length ns → 1 ≤ times (own_of ns) ns
own_there [] some = absurd (omega arith)
own_there (y ∷ ns) some = subst (λ (b : Bool). 1 ≤ (if b then 1 else 0) + times y ns) (sym (eq-eqb y y refl)) (omega arith)

-- Where steps of x are told, a history that has others' steps as they were has just these of x.
module _ {C E : Type 0} (actor : E → ℕ) (Makes : E → C → C → Type 0) (x : ℕ) where
  abbrev First : C → Turn C → List (Turn C) → List E → Type 0
  First o t log es = (first : E) × (rest : List E) × (es ≡ first ∷ rest) × (actor first ≡ x) × Makes first o t.value × Tells actor Makes x t.value log rest

  by_told : (o : C) (t : Turn C) (log : List (Turn C)) (es : List E) (b : Bool) → (t.by == x) ≡ b → Tells actor Makes x o (t ∷ log) es
      → MatchBool b (First o t log es) (Tells actor Makes x t.value log es)
  by_told o t log es b is h = subst (λ (c : Bool). MatchBool c (First o t log es) (Tells actor Makes x t.value log es)) is h

  told_in : (o : C) (log : List (Turn C)) (es : List E) → IsHistory (MadeByOne actor Makes) o log → Tells actor Makes x o log es
      → (k : IsHistory (MadeByOne actor Makes) o log) × (steps_by actor Makes x (steps_in actor Makes o log k) ≡ es)
  told_in o [] es h told = (tt, sym told)
  told_in o (t ∷ log) es h told = dite (ℕ_discrete t.by x)
      (λ is.
      let m = by_told o t log es true (eq-eqb t.by x is) told in
      let rest = told_in t.value log m.1 h.1 m.5 in
      let mine : List E = steps_by actor Makes x (steps_in actor Makes t.value log rest.0) in (
        ((m.0, m.3 ∙ sym is, m.4), rest.0),
        ap (λ (b : Bool). if b then m.0 ∷ mine else mine) (eq-eqb (actor m.0) x m.3) ∙ ap (λ (l : List E). m.0 ∷ l) rest.1 ∙ sym m.2,
      ))
      (λ ne.
      let rest = told_in t.value log es h.1 (by_told o t log es false (ne_eqb t.by x ne) told) in
      let mine : List E = steps_by actor Makes x (steps_in actor Makes t.value log rest.0) in (
        (h.0, rest.0),
        ap (λ (b : Bool). if b then h.0.0 ∷ mine else mine) (ne_eqb (actor h.0.0) x (λ same. ne (sym h.0.1 ∙ same))) ∙ rest.1,
      ))

-- ---- asks

pub ask_back : (x : ℕ) (all : List Ask) → map ask_of (map (event_of x) all) ≡ all
ask_back x [] = refl
ask_back x (a ∷ all) = ap (λ (l : List Ask). a ∷ l) (ask_back x all)

pick : (b : Bool) (e : Event) (asks : List Ask) (es : List Event) → asks ≡ map ask_of es
    → (if b then ask_of e ∷ asks else asks) ≡ map ask_of (if b then e ∷ es else es)
pick true e asks es same = ap (λ (l : List Ask). ask_of e ∷ l) same
pick false e asks es same = same

all_idle : (n actor : ℕ) → part_of (replicate n parts.Idle) actor ≡ parts.Idle
unfolding part_of
all_idle zero actor = refl
all_idle (suc n) zero = refl
all_idle (suc n) (suc actor) = all_idle n actor

module _ {C : Type 0} (state : C → CoreState) where
  pub asks_by_steps : (x : ℕ) (es : List Event) → asks_of x es ≡ map ask_of (steps_by actor_in (MakesStep state) x es)
  asks_by_steps x [] = refl
  asks_by_steps x (e ∷ es) = pick (e.actor == x) e (asks_of x es) (steps_by actor_in (MakesStep state) x es) (asks_by_steps x es)

  below_all : (x : ℕ) → x < ACTORS → x < length (replicate ACTORS parts.Idle)
  below_all x below = subst (λ (n : ℕ). x < n) (sym (length-replicate ACTORS parts.Idle)) below

  idle_at : (x : ℕ) → part_of (replicate ACTORS parts.Idle) x ≡ parts.Idle
  idle_at x = all_idle ACTORS x

  -- ---- passes that have made no step

  pub first_is_fresh : FirstIsFresh state
  first_is_fresh o store pass first = record {
    opened = ap (λ (v : View C). v.opening) first.view_is;
    numbered = subst (λ (v : View C). 1 ≤ length v.numbers) (sym first.view_is) (omega arith);
    below = subst (λ (v : View C). own_of v.numbers < ACTORS) (sym first.view_is) (omega arith);
    none_made = subst (λ (v : View C). turns_by (own_of v.numbers) v.seen ≡ 0) (sym first.view_is) refl;
    idle = first.kind_is;
  }

  pub split_is_fresh : SplitIsFresh state
  split_is_fresh o old new other opened split =
      let is = ap (λ (z : Seated C). z.0) split.splits.other_is in record {
        opened = ap (λ (v : View C). v.opening) is ∙ opened;
        numbered = subst (λ (v : View C). 1 ≤ length v.numbers) (sym is) (omega arith);
        below = split.below;
        none_made = subst (λ (l : List (Turn C)). turns_by (actor_of other) l ≡ 0) (sym (ap (λ (v : View C). v.seen) is)) split.splits.fresh;
        idle = split.other_is.0;
      }

  pub split_stays_fresh : SplitStaysFresh state
  split_stays_fresh o old new other fresh split =
      let s = split.splits in
      let x : ℕ = actor_of old in
      let is = ap (λ (z : Seated C). z.0) s.is in
      let grown : turns_by x s.seen ≡ 0 = ap (turns_by x) s.follows.1
      ∙ none_after x old.view.seen s.follows.0 fresh.none_made (s.follows.2 x (own_there old.view.numbers fresh.numbered)) in record {
        opened = ap (λ (v : View C). v.opening) is ∙ fresh.opened;
        numbered = subst (λ (v : View C). 1 ≤ length v.numbers) (sym is) fresh.numbered;
        below = subst (λ (v : View C). own_of v.numbers < ACTORS) (sym is) fresh.below;
        none_made = subst (λ (v : View C). turns_by (own_of v.numbers) v.seen ≡ 0) (sym is) grown;
        idle = split.stays.0 ∙ fresh.idle;
      }

  pub stores_stay : StoresStay state
  stores_stay [] old new h = ap (λ (s : PassValue C × Answered). s.0.store) h
  stores_stay (a ∷ all) old new (mid, (one, more)) = stores_stay all mid new more ∙ one.store_is

  -- ---- after a worker's jobs

  module _ (runs_on : RunsOn C state) (refines : CoreRefines C state) (leaves : WorkersLeave C state) (asked : AsksAreTold state)
      (none : TellsNone actor_in (MakesStep state)) (are_steps : AreSteps state) where
    pub workers_come_free : WorkersComeFree state
    workers_come_free o count worker jobs ended [] old new opening fresh is own busy =
        busy.0 (ap (λ (s : PassValue C × Answered). s.0.kind) is ∙ fresh.idle)
    workers_come_free o count worker jobs ended (a ∷ all) old new opening fresh h own busy =
        let l = by_last (shared.asks_of state) old a all new h in
        let before = asked l.before old l.mid fresh.numbered l.asked in
        let whole = asked (a ∷ all) old new fresh.numbered h in
        let x : ℕ = actor_of old.0 in
        let e : Event = event_of (actor_of l.mid.0) l.last in
        let mid_x : actor_of l.mid.0 ≡ x = ap own_of before.numbers_are in
        let c = l.made.called in
        let legal = c.legal o (before.opening_is ∙ fresh.opened) in
        let past : List (Turn C) = l.mid.0.view.seen ++ c.between in
        let seen : List (Turn C) = new.0.view.seen in
        let history : IsHistory (MadeBy state) o seen = subst (IsHistory (MadeBy state) o) (sym c.seen_is)
        (history_snoc (MadeBy state) o past (turn_of e.actor c.after) legal.0
        (e, refl, (c.asked, subst (λ (f : C). CoreStep (state f) e (state c.after)) legal.1 c.made))) in
        let after_is : last_of o seen ≡ c.after = ap (last_of o) c.seen_is ∙ last_snoc o past (turn_of e.actor c.after) in
        let told = told_in actor_in (MakesStep state) x o seen (map (event_of x) (a ∷ all)) history
        (whole.told o [] fresh.opened (none x o old.0.view.seen fresh.none_made)) in
        let es : List Event = events_in state o seen told.0 in
        let run = (are_steps o seen told.0).2 in
        let does : asks_of x es ≡ a ∷ all = asks_by_steps x es ∙ ap (λ (l : List Event). map ask_of l) told.1 ∙ ask_back x (a ∷ all) in
        let left = leaves count worker x jobs ended es o (last_of o seen) run
        (answers_as_it_runs state runs_on refines es o (last_of o seen) opening.machine opening.running opening.fits run)
        (subst (λ (ps : List Part). x < length ps) (sym opening.all_idle) (below_all x fresh.below))
        (ap (λ (ps : List Part). kind_of (part_of ps x)) opening.all_idle ∙ ap kind_of (idle_at x)) (subst (OwnJobs count worker jobs ended) (sym does) own) in
        elim left [
          | inl idle ↦ busy.0
              (l.made.kind_is ∙ ap (λ (k : ℕ). kind_at C state c.after k) mid_x ∙ ap (λ (c : C). kind_at C state c x) (sym after_is) ∙ idle)
          | inr found ↦
              let same : l.last ≡ found.last = same_last l.before found.before l.last found.last (sym l.all_is ∙ sym does ∙ found.all_is) in
              let stopped : l.last.answer ≡ Err (refusals.Stopped found.stopped.0) = ap (λ (a : Ask). a.answer) same ∙ found.stopped.1 in
              absurd (let wrong : true ≡ false = sym (l.made.stopped_is ∙ ap (is_refused_by 12) stopped) ∙ busy.1 in cc)
        ]

-- What the first actor's steps make of a core by which a file is stored.
use Rattle.backup_engine.proofs.Prelude.{◌≡◌, ℕ, List, Option, None, Result, Ok, Err, refl, sym, ◌∙◌, ap, subst, arith, PlaceMap, ACTORS, Idle, Writing, Answer, with_part, StepValue, apart, Refusal, Store, IsValidFor, last_id, Represents, Runs, OfEach, Tables, Stop, CoreStep, Steps, StepsOr, KeepsTables, CoreState, Event, IsUp, IsRunning, UnlessStopped, IsFresh}
use Rattle.std.proofs.Common.{replicate}
use Rattle.std.specs.FinMap as finite
use Rattle.actor_parts.specs.declared.part.Part.{Part}
use Rattle.actor_parts.specs.declared.step.Answer.TheVariants as answers
use Rattle.actor_parts.specs.Kinds.{kind_of}
use Rattle.actor_parts.specs.Parts.{part_of}
use Rattle.actor_parts.specs.StepValue as asked
use Rattle.refusals.specs.declared.refusal.Refusal.TheVariants as refusals
use Rattle.refusals.specs.declared.refusal.PartKind.TheVariants as kinds
use Rattle.ingest_steps.specs.Writers.{IsWrongPart}
use Rattle.store_core.specs.Core.{BeginRow}

-- a step of the first actor
abbrev pub by_first : StepValue → Result Answer Refusal → List ℕ → Event
by_first step answer buf = record { actor = 0; step = step; answer = answer; buf = buf }

-- a step by the actor 0 is one of the first actor
pub as_first : (old new : CoreState) (actor : ℕ) (was step : StepValue) (answer : Result Answer Refusal) (buf : List ℕ) → actor ≡ 0 → was ≡ step
    → CoreStep old (record { actor = actor; step = was; answer = answer; buf = buf }) new → CoreStep old (by_first step answer buf) new
as_first old new actor was step answer buf zero same made =
    subst (λ (s : StepValue). CoreStep old (by_first s answer buf) new) same
    (subst (λ (a : ℕ). CoreStep old (let e : Event = record { actor = a; step = was; answer = answer; buf = buf } in e) new) zero made)

module _ (old new : CoreState) where
  -- of a core that runs
  pub steps_of : (e : Event) → old.stop ≡ None → CoreStep old e new → Steps e old new
  steps_of e runs step = subst (λ (stop : Option Stop). StepsOr stop e old new) runs step

  -- tables and index represent what they did
  pub kept_represents : KeepsTables old new → (store : Store) → Represents store new.known new.tables → Represents store old.known old.tables
  kept_represents kept store represents =
      subst (λ (t : Tables). Represents store old.known t) kept.tables_are (subst (λ (known : Option PlaceMap). Represents store known new.tables) kept.index_is represents)

  pub represents_still : KeepsTables old new → (store : Store) → Represents store old.known old.tables → Represents store new.known new.tables
  represents_still kept store represents =
      subst (λ (t : Tables). Represents store new.known t) (sym kept.tables_are)
      (subst (λ (known : Option PlaceMap). Represents store known old.tables) (sym kept.index_is) represents)

  -- tables, index and the disk's size are as they were
  pub record Rested : Type 0 where
    pub kept : KeepsTables old new
    pub size_is : new.disk.size ≡ old.disk.size

  pub kept_ids : Rested → OfEach old.disk.size old.known old.tables (λ store. old.tables.held.last_id ≡ last_id store.held)
      → OfEach new.disk.size new.known new.tables (λ store. new.tables.held.last_id ≡ last_id store.held)
  kept_ids rested ids = record {
    store_has = λ store represents valid free.
        ap (λ (t : Tables). t.held.last_id) rested.kept.tables_are
        ∙ ids.store_has store (kept_represents rested.kept store represents) (subst (λ (n : ℕ). IsValidFor n store) rested.size_is valid) free;
  }

  pub kept_indexed : Rested → Runs old.disk.size old.known old.tables → Runs new.disk.size new.known new.tables
  kept_indexed rested was = record {
    store = was.store;
    represents = represents_still rested.kept was.store was.represents;
    valid = subst (λ (n : ℕ). IsValidFor n was.store) (sym rested.size_is) was.valid;
    has_free = was.has_free;
  }

  -- the first actor's part
  pub first_part : (part : Part) → IsUp old → new.parts ≡ with_part old.parts 0 part → part_of new.parts 0 ≡ part
  first_part part up is = ap (λ (parts : List Part). part_of parts 0) is ∙ apart.same old.parts 0 part (omega (arith, up.many))

-- it is up while it isn't stopped
pub up_of : (c : CoreState) → c.stop ≡ None → IsRunning c → IsUp c
up_of c runs running = subst (λ (stop : Option Stop). UnlessStopped stop (IsUp c)) runs running

idle_first : part_of (replicate ACTORS Idle) 0 ≡ Idle
unfolding part_of
idle_first = refl

pub idle_of : (c : CoreState) → IsFresh c → part_of c.parts 0 ≡ Idle
idle_of c fresh = ap (λ (parts : List Part). part_of parts 0) fresh.idle ∙ idle_first

-- a part is not of another kind than that it has
pub no_other : (taken : _) (part : Part) (refusal : Refusal) → kind_of part ≡ taken → IsWrongPart taken part refusal → ⊥
no_other taken part (refusals.WrongPart kind) is wrong = wrong.1 (wrong.0 ∙ is)
no_other taken part refusal is wrong = absurd wrong

-- ---- a file is begun

module _ (old new : CoreState) (buf : List ℕ) (fresh : IsFresh old) where
  begin_row : (answer : Result Answer Refusal) → CoreStep old (by_first asked.Begin answer buf) new → BeginRow 0 answer old new
  begin_row answer step = (steps_of old new (by_first asked.Begin answer buf) fresh.runs step).made.row

  -- it is never refused
  pub begin_is_done : (refusal : Refusal) → CoreStep old (by_first asked.Begin (Err refusal) buf) new → ⊥
  begin_is_done refusal step = no_other kinds.Idle (part_of old.parts 0) refusal (ap kind_of (idle_of old fresh)) (begin_row (Err refusal) step).0

  pub begun : (answer : Answer) → BeginRow 0 (Ok answer) old new → new.parts ≡ with_part old.parts 0 (Writing finite.empty)
  begun answers.Begun row = row.1
  begun answer row = absurd row

  pub begin_runs : (answer : Answer) → CoreStep old (by_first asked.Begin (Ok answer) buf) new → new.stop ≡ None
  begin_runs answer step = (steps_of old new (by_first asked.Begin (Ok answer) buf) fresh.runs step).stops

  pub begin_rests : (answer : Answer) → CoreStep old (by_first asked.Begin (Ok answer) buf) new → Rested old new
  begin_rests answer step =
      let effect = (steps_of old new (by_first asked.Begin (Ok answer) buf) fresh.runs step).made.effect in
      record { kept = effect.tables; size_is = effect.disk.only.later.size_is }

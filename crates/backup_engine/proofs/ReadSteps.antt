-- The steps by which a file is given back only read.
use Rattle.backup_engine.proofs.Prelude.{◌≡◌, ◌<◌, ℕ, List, [], ◌∷◌, length, Option, Some, None, Result, Ok, Err, refl, sym, ◌∙◌, subst, AllByRecursion, DiskView, Reads, Why, PlaceMap, Top, Answer, StepValue, Refusal, DiskWrite, blames, IsNextRefusal, Stop, CoreStep, Steps, StepsOr, StopsAfter, ReadRow, OpenRow, KeepsTables, CoreRun, CoreState, Event, IsRead, IsGiven, EndsGiving, disk_ending, ending_in}
use Rattle.dd_disk.specs.Ending.{Done}
use Rattle.dd_disk.specs.Ending as device
use Rattle.dd_disk.proofs.Ended.{reads_on, reads_none}
use Rattle.actor_parts.specs.declared.step.Answer.TheVariants as answers
use Rattle.actor_parts.specs.StepValue as asked
use Rattle.reply_text.specs.declared.ending.Ending.{Ending}
use Rattle.reply_text.specs.declared.ending.Ending.TheVariants as endings
use Rattle.store_core.specs.Core.{Made}
use Rattle.store_core.proofs.Stepping.{length_on, row_one}

-- ---- one step

by_stop : (e : Event) (old new : CoreState) (stop : Option Stop) → old.stop ≡ stop → old.stop ≡ None → StepsOr stop e old new → Steps e old new
by_stop e old new None is runs steps = steps
by_stop e old new (Some stop) is runs steps = absurd (let both = sym runs ∙ is in cc)

-- a step of a core that runs
pub steps_of : (e : Event) (old new : CoreState) → old.stop ≡ None → CoreStep old e new → Steps e old new
steps_of e old new runs step = by_stop e old new old.stop refl runs step

-- no more was done than to read, and the core runs on
pub record LeavesAll (answer : Result Answer Refusal) (old new : CoreState) : Type 0 where
  pub reads : Reads (device.ending blames answer) old.disk new.disk
  pub tables : KeepsTables old new
  pub runs : new.stop ≡ None
  pub many : length new.parts ≡ length old.parts

-- a name is opened, or not

open_stays : (name : List ℕ) (answer : Result Answer Refusal) (actor count : ℕ) (buf : List ℕ) (old new : CoreState) → OpenRow name actor answer old new →
    StopsAfter (asked.OpenRead name) answer count new.stop → new.stop ≡ None
open_stays name (Err DiskWrite) actor count buf old new row stops = absurd row.0.1
open_stays name answer actor count buf old new row stops = stops

pub open_leaves : (name : List ℕ) (answer : Result Answer Refusal) (buf : List ℕ) (old new : CoreState) → old.stop ≡ None →
    CoreStep old (record { actor = 0; step = asked.OpenRead name; answer = answer; buf = buf }) new
    → LeavesAll answer old new
open_leaves name answer buf old new runs step =
    let steps = steps_of (record { actor = 0; step = asked.OpenRead name; answer = answer; buf = buf }) old new runs step in
    record {
      reads = steps.made.effect.disk;
      tables = steps.made.effect.tables;
      runs = open_stays name answer 0 old.acknowledged buf old new steps.made.row steps.stops;
      many = length_on 0 old.parts new.parts (row_one 0 buf old new (asked.OpenRead name) answer steps.made.row);
    }

-- a file is read on

no_next : (known : Option PlaceMap) (breaks : ℕ → Why → List ℕ → Type 0) (old new : DiskView) (tops : List Top) → IsNextRefusal known breaks old new tops DiskWrite → ⊥
no_next known breaks old new [] cause = cause
no_next known breaks old new (t ∷ ts) cause = cause

read_stays : (answer : Result Answer Refusal) (count : ℕ) (buf : List ℕ) (old new : CoreState) → ReadRow 0 answer buf old new → StopsAfter asked.ReadNext answer count new.stop →
    new.stop ≡ None
read_stays (Err DiskWrite) count buf old new row stops = absurd (no_next old.known old.breaks old.disk new.disk row.cause.rest row.cause.refused.cause)
read_stays answer count buf old new row stops = stops

-- what a read was, by its step and its actor
pub as_read : (e : Event) (old new : CoreState) → IsRead e → Steps e old new → Made asked.ReadNext 0 e.answer e.buf old new
as_read e old new is steps =
    subst (λ (a : ℕ). Made asked.ReadNext a e.answer e.buf old new) is.0 (subst (λ (s : StepValue). Made s e.actor e.answer e.buf old new) is.1 steps.made)

pub read_leaves : (e : Event) (old new : CoreState) → IsRead e → old.stop ≡ None → CoreStep old e new → LeavesAll e.answer old new
read_leaves e old new is runs step =
    let steps = steps_of e old new runs step in
    let made = as_read e old new is steps in
    record {
      reads = made.effect.disk;
      tables = made.effect.tables;
      runs = read_stays e.answer old.acknowledged e.buf old new made.row (subst (λ (s : StepValue). StopsAfter s e.answer old.acknowledged new.stop) is.1 steps.stops);
      many = length_on 0 old.parts new.parts (row_one 0 e.buf old new asked.ReadNext e.answer made.row);
    }

-- ---- all of them

given_reads : (answer : Result Answer Refusal) (old new : DiskView) → IsGiven answer → Reads (device.ending blames answer) old new → Reads Done old new
given_reads (Ok (answers.Bytes count)) old new is reads = reads
given_reads answer old new is reads = absurd is

-- how the last of them ended is how all of it did
last_ending : (result : Result Unit Ending) (e : Event) (old new : DiskView) → EndsGiving (e ∷ []) result → Reads (device.ending blames e.answer) old new →
    Reads (disk_ending (ending_in result)) old new
last_ending (Ok u) e old new ends reads = subst (λ (a : Result Answer Refusal). Reads (device.ending blames a) old new) ends reads
last_ending (Err (endings.Refused refusal)) e old new ends reads = subst (λ (a : Result Answer Refusal). Reads (device.ending blames a) old new) ends reads
last_ending (Err endings.Sink) e old new ends reads = given_reads e.answer old new ends reads
last_ending (Err ending) e old new ends reads = absurd ends

module _ (C : Type 0) (state : C → CoreState) where
  -- It came to the last read: up to there each gave a segment.
  pub record Came (result : Result Unit Ending) (old new : C) : Type 0 where
    pub before : C
    pub event : Event
    pub is_read : IsRead event
    pub made : CoreStep (state before) event (state new)
    pub ends : EndsGiving (event ∷ []) result
    pub runs : (state before).stop ≡ None
    pub below : 0 < length (state before).parts
    pub reads : Reads Done (state old).disk (state before).disk
    pub tables : KeepsTables (state old) (state before)

  pub came : (events : List Event) (result : Result Unit Ending) (old new : C) → AllByRecursion IsRead events → EndsGiving events result → (state old).stop ≡ None →
      0 < length (state old).parts → CoreRun C state events old new
      → Came result old new
  came [] result old new each ends runs below run = absurd ends
  came (e ∷ []) result old new each ends runs below run = record {
    before = old;
    event = e;
    is_read = each.0;
    made = subst (λ (c : C). CoreStep (state old) e (state c)) (sym run.1.1) run.1.0;
    ends = ends;
    runs = runs;
    below = below;
    reads = reads_none (state old).disk;
    tables = record { tables_are = refl; index_is = refl };
  }
  came (e ∷ f ∷ es) result old new each ends runs below run =
      let mid = run.0 in
      let step = read_leaves e (state old) (state mid) each.0 runs run.1.0 in
      let given = given_reads e.answer (state old).disk (state mid).disk ends.0 step.reads in
      let on = came (f ∷ es) result mid new each.1 ends.1 step.runs (subst (λ (n : ℕ). 0 < n) (sym step.many) below) run.1.1 in
      record {
        before = on.before;
        event = on.event;
        is_read = on.is_read;
        made = on.made;
        ends = on.ends;
        runs = on.runs;
        below = on.below;
        reads = reads_on Done (state old).disk (state mid).disk (state on.before).disk given on.reads;
        tables = record { tables_are = on.tables.tables_are ∙ step.tables.tables_are; index_is = on.tables.index_is ∙ step.tables.index_is };
      }

  module _ (result : Result Unit Ending) (old new : C) (is : Came result old new) where
    pub last_leaves : LeavesAll is.event.answer (state is.before) (state new)
    last_leaves = read_leaves is.event (state is.before) (state new) is.is_read is.runs is.made

    pub last_made : Made asked.ReadNext 0 is.event.answer is.event.buf (state is.before) (state new)
    last_made = as_read is.event (state is.before) (state new) is.is_read (steps_of is.event (state is.before) (state new) is.runs is.made)

    pub last_reads : Reads (disk_ending (ending_in result)) (state is.before).disk (state new).disk
    last_reads = last_ending result is.event (state is.before).disk (state new).disk is.ends last_leaves.reads

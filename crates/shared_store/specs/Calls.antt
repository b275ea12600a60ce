-- What a call, a split, a join and a close tell of the one history of a shared store (docs/MODEL.md, 'Shared stores').
use Rattle.std.specs.Prelude.{◌≡◌, ◌⊎◌, ℕ, ◌≤◌, ◌<◌, ◌+◌, List, [], ◌∷◌, ◌++◌, length, false, Option, Some, max, option_map}
use Rattle.atomic_table.specs.Seated.{TableId}
use Rattle.dd_disk.specs.Ending.{Done, Reads}
use Rattle.dd_disk.specs.View.{DiskView}
use Rattle.actor_parts.specs.declared.actor.TheConstants.{ACTORS}
use Rattle.actor_parts.specs.Counts.{is_refused_by}
use Rattle.actor_parts.specs.Kinds.{kind_of}
use Rattle.actor_parts.specs.Parts.{part_of}
use Rattle.actor_parts.specs.StepValue.{IsStep}
use Rattle.refusals.specs.declared.refusal.PartKind.TheVariants.{Idle}
use Rattle.refusals.specs.declared.refusal.Refusal.{Refusal}
use Rattle.refusals.specs.declared.refusal.Refusal.TheVariants.{Memory}
use Rattle.turn_lock.specs.declared.history.Home.{Home}
use Rattle.turn_lock.specs.declared.history.Turn.{Turn}
use Rattle.turn_lock.specs.declared.history.View.{View}
use Rattle.turn_lock.specs.History.{last_of, IsHistory, turns_by, times, turn_of}
use Rattle.turn_lock.specs.Lock.{Ends, Joins, Splits, SplitsNone, TakesTurn, resting}
use Rattle.turn_lock.specs.Plays.{Seated}
use Rattle.store_core.specs.Core.{CoreStep}
use Rattle.store_core.specs.Opening.{OpensCore, OpensNone}
use Rattle.store_core.specs.State.{CoreState, Event, IsRunning}
use Rattle.shared_store.specs.Made.{MadeBy}
use Rattle.shared_store.specs.Passes.{IsBusy, IsFirst, PassValue, actor_of}

module _ {C : Type 0} (state : C → CoreState) where
  -- how many lines the book of a core has
  abbrev pub lines_of : C → ℕ
  lines_of core = (state core).acknowledged

  -- ---- a call

  -- The call stands in the one history, once. What it found is what all turns before it have left, the first of which the pass had seen; of
  -- the others none is of the pass's numbers. Its step was made of just what it found. The pass has then seen all of it.
  pub record Called (v : View C) (e : Event) (w : View C) : Type 0 where
    pub between : List (Turn C)
    pub found : C
    pub after : C
    pub opening_is : w.opening ≡ v.opening
    pub numbers_are : w.numbers ≡ v.numbers
    pub seen_is : w.seen ≡ (v.seen ++ between) ++ turn_of e.actor after ∷ []
    pub none_mine : (x : ℕ) → 1 ≤ times x v.numbers → turns_by x between ≡ 0
    pub legal : (opening : C) → v.opening ≡ Some opening
        → IsHistory (MadeBy state) opening (v.seen ++ between) × (found ≡ last_of opening (v.seen ++ between))
    pub asked : IsStep e.step
    pub made : CoreStep (state found) e (state after)

  -- and the pass knows how many lines the book has then, what its actor is at, and whether the store was stopped
  pub record Calls (e : Event) (old new : PassValue C) : Type 0 where
    pub called : Called old.view e new.view
    pub store_is : new.store ≡ old.store
    pub lines_is : new.lines ≡ lines_of called.after
    pub kind_is : new.kind ≡ kind_of (part_of (state called.after).parts e.actor)
    pub stopped_is : new.stopped ≡ is_refused_by 12 e.answer

  -- ---- a split

  -- Another pass was made, of a number of its own, that has made no step. Both have seen the whole history, and know how many lines
  -- the book has after it; the first has all else that it had.
  pub record SplitsPass (old new other : PassValue C) : Type 0 where
    pub splits : Splits (MadeBy state) lines_of old.view (actor_of other) other.lines (new.view, []) (other.view, [])
    pub below : actor_of other < ACTORS
    pub stores_are : (new.store ≡ old.store) × (other.store ≡ old.store)
    pub lines_is : new.lines ≡ other.lines
    pub stays : (new.kind ≡ old.kind) × (new.stopped ≡ old.stopped)
    pub other_is : (other.kind ≡ Idle) × (other.stopped ≡ false)

  -- None was, since all numbers were given out. The pass has seen the whole history.
  pub record SplitsNoPass (old new : PassValue C) : Type 0 where
    pub splits : SplitsNone (MadeBy state) lines_of old.view new.lines (new.view, [])
    pub store_is : new.store ≡ old.store
    pub stays : (new.kind ≡ old.kind) × (new.stopped ≡ old.stopped)

  -- ---- a join

  -- What the other had seen, and its numbers, are the pass's from now on.
  pub record JoinsPass (old other new : PassValue C) : Type 0 where
    pub free : ¬ (IsBusy other)
    pub joins : Joins old.view other.view (new.view, [])
    pub store_is : new.store ≡ old.store
    pub lines_is : new.lines ≡ max old.lines other.lines
    pub stays : (new.kind ≡ old.kind) × (new.stopped ≡ old.stopped)

  -- ---- a close

  -- Other passes have so many numbers, of those that were given out. The pass has seen the whole history, and has all else that it had.
  pub record HandsBack (old : PassValue C) (others : ℕ) (new : PassValue C) : Type 0 where
    pub some : 1 ≤ others
    pub home : Home C
    pub mid : Seated C
    pub took : TakesTurn (MadeBy state) old.view home mid
    pub given : others + length old.view.numbers ≡ new.view.given
    pub view_is : (new.view, []) ≡ resting mid.0 mid.0.seen mid.0.numbers
    pub store_is : new.store ≡ old.store
    pub lines_is : new.lines ≡ lines_of home.value
    pub stays : (new.kind ≡ old.kind) × (new.stopped ≡ old.stopped)

  -- What all turns have left is a core over this disk, and this refusal has stopped it, if one did.
  pub record Closes (pass : PassValue C) (disk : DiskView) (refusal : Option Refusal) : Type 0 where
    pub core : C
    pub ends : Ends (MadeBy state) pass.view core
    pub disk_is : Reads Done (state core).disk disk
    pub moment : disk.clock ≡ (state core).disk.clock
    pub stopped : refusal ≡ option_map (λ stop. stop.refusal) (state core).stop

-- ---- an opening

-- a core was opened on the disk, and this is the first pass of a store over it
pub record OpensStore (D : Type 0) (view : D → DiskView) {C : Type 0} (state : C → CoreState) (old : DiskView) (store : TableId)
    (pass : PassValue C) : Type 0 where
  pub core : C
  pub opens : OpensCore D view old (state core)
  pub running : IsRunning (state core)
  pub first : IsFirst state core store pass

-- none was; or one was, and there was no memory for the lock
abbrev pub OpensNoStore : (D : Type 0) (view : D → DiskView) {C : Type 0} (state : C → CoreState) → Refusal → DiskView → DiskView → Type 0
OpensNoStore D view {C} state refusal old new = OpensNone D view refusal old new
    ⊎ ((refusal ≡ Memory) × ((core : C) × (OpensCore D view old (state core) × Reads Done (state core).disk new)))

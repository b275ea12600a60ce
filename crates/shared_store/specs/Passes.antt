-- What contracts see of a pass (docs/MODEL.md, 'Shared stores').
use Rattle.std.specs.Prelude.{◌≡◌, ◌≢◌, ℕ, Bool, false, replicate}
use Rattle.actor_parts.specs.declared.actor.TheConstants.{ACTORS}
use Rattle.actor_parts.specs.declared.part.Part.TheVariants as parts
use Rattle.atomic_table.specs.Seated.{TableId}
use Rattle.refusals.specs.declared.refusal.PartKind.{PartKind}
use Rattle.refusals.specs.declared.refusal.PartKind.TheVariants.{Idle}
use Rattle.turn_lock.specs.declared.history.View.{View}
use Rattle.turn_lock.specs.Lock.{own_of}
use Rattle.turn_lock.specs.Rule.{first_view}
use Rattle.store_core.specs.State.{CoreState}

-- Which store it is of, and what it knows of the history of that store. How many lines the book has, as far as it has seen: the commands
-- that were acknowledged; what its actor was at after its last step, and whether that step found the store stopped.
pub record PassValue (C : Type 0) : Type 0 where
  pub store : TableId
  pub view : View C
  pub lines : ℕ
  pub kind : PartKind
  pub stopped : Bool

-- the number of its actor
abbrev pub actor_of : {C : Type 0} → PassValue C → ℕ
actor_of pass = own_of pass.view.numbers

-- its actor is at something, and its last step did not find the store stopped
abbrev pub IsBusy : {C : Type 0} → PassValue C → Type 0
IsBusy pass = (pass.kind ≢ Idle) × (pass.stopped ≡ false)

-- The first pass of a store over this core, of which no actor is at anything: it has made no step, and seen none.
pub record IsFirst {C : Type 0} (state : C → CoreState) (core : C) (store : TableId) (pass : PassValue C) : Type 0 where
  pub all_idle : (state core).parts ≡ replicate ACTORS parts.Idle
  pub store_is : pass.store ≡ store
  pub view_is : pass.view ≡ first_view core
  pub lines_is : pass.lines ≡ (state core).acknowledged
  pub kind_is : pass.kind ≡ Idle
  pub runs : pass.stopped ≡ false

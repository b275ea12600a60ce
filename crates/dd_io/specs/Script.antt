-- Calls that are scripted to fail.
use Rattle.std.specs.Prelude.{◌≡◌, ◌⊎◌, ℕ, ◌+◌, ◌-◌, ◌^◌, ◌==◌, min, Bool, true, false, List, Result, OnOk, OnErr}
use Rattle.std.specs.List.{list_any}
use Rattle.base_model.specs.Fault.{Rose}
use Rattle.dd_io.specs.declared.script.Script.{Script}

-- the call of this number is to fail
abbrev pub is_to_fail : List ℕ → ℕ → Bool
is_to_fail fails number = list_any (λ fail. fail == number) fails

-- how many calls failed for want of memory
abbrev pub missed_count : Script → ℕ
missed_count script = script.missed

-- calls of these numbers are to fail, and there was none yet
pub record IsFresh (script : Script) (fails : List ℕ) : Type 0 where
  pub numbers : script.fails.items ≡ fails
  pub calls : script.calls ≡ 0
  pub missed : script.missed ≡ 0

-- One call went by. It failed where it was to fail, and else only for want of memory.
pub record FollowsScript {T E : Type 0} (old new : Script) (result : Result T E) : Type 0 where
  pub counted : new.calls ≡ min (old.calls + 1) (2 ^ 64 - 1)
  pub same : new.fails ≡ old.fails
  pub done : OnOk result ((is_to_fail old.fails.items new.calls ≡ false) × (new.missed ≡ old.missed))
  pub failed : OnErr result (((is_to_fail old.fails.items new.calls ≡ true) × (new.missed ≡ old.missed)) ⊎ Rose old.missed new.missed)

-- So it did, and took no memory.
pub record FollowsWithoutMemory {T E : Type 0} (old new : Script) (result : Result T E) : Type 0 where
  pub follows : FollowsScript old new result
  pub none_missed : missed_count new ≡ missed_count old

-- How the image of a stop is made.
use Rattle.std.specs.Prelude.{◌≡◌, ◌⊎◌, ℕ, true, List, [], ◌∷◌, ◌++◌, length}
use Rattle.base_model.specs.Bytes.{range, written}
use Rattle.dd_disk.specs.Calls.{filled}
use Rattle.dd_disk.specs.declared.call.Call.{Call}
use Rattle.dd_disk.specs.declared.call.Asked.TheVariants.{Sync}
use Rattle.dd_disk.specs.declared.call.Fill.{Fill}

-- a write that a crash cut short, filled so
abbrev pub filled_write : Fill → ℕ → List ℕ → List ℕ → List ℕ
filled_write fill at bytes image = written at (filled fill (range at (length bytes) image) bytes) image

-- no calls, or ones of which the last is a sync that was done
abbrev pub EndsSynced : List Call → Type 0
EndsSynced calls = (calls ≡ [])
    ⊎ ((before : List Call) × ((last : Call) × (calls ≡ before ++ last ∷ []) × (last.done ≡ true) × (last.asked ≡ Sync)))

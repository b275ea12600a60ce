-- Sources and sinks at a moment, and what calls take of them and add to them (docs/MODEL.md, 'Sources and sinks').
use Rattle.std.specs.Prelude.{◌≡◌, ℕ, ◌≤◌, List, length, take, drop, Option, Some, Result, OnOk, OnErr}
use Rattle.base_model.specs.Fault.{HasCause}
use Rattle.base_model.specs.Known.{Appended}

-- what is known of a source at a moment
pub record SourceView : Type 0 where
  -- the bytes that reads will give, where the source tells them
  pub left : Option (List ℕ)
  -- how many calls failed; it stays at 2^64 - 1 once there
  pub faults : ℕ

-- what is known of a sink at a moment
pub record SinkView : Type 0 where
  -- the bytes that were written, where the sink tells them
  pub written : Option (List ℕ)
  -- how many calls failed; it stays at 2^64 - 1 once there
  pub faults : ℕ

-- a read gave the first n of the bytes that were left, and the rest is left
pub record Takes (n : ℕ) (left into : List ℕ) (now : Option (List ℕ)) : Type 0 where
  pub fits : n ≤ length left
  pub bytes : take n into ≡ take n left
  pub rest : now ≡ Some (drop n left)

-- some first part of these bytes was written, or all of them
pub record AppendedPart (before now : Option (List ℕ)) (bytes : List ℕ) : Type 0 where
  pub count : ℕ
  pub fits : count ≤ length bytes
  pub is : Appended before now (take count bytes)

-- The bytes were written whole; or the count of faults rose, and a first part of them was written.
pub record Sends {T E : Type 0} (bytes : List ℕ) (result : Result T E) (old new : SinkView) : Type 0 where
  pub ok : OnOk result (Appended old.written new.written bytes)
  pub err : OnErr result (AppendedPart old.written new.written bytes)
  pub cause : HasCause old.faults new.faults result

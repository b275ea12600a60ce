use Rattle.container_meta.proofs.Prelude.{◌≡◌, ◌++◌, map}
use Rattle.std.specs.FinMap as finite
use Rattle.container_meta.proofs.key_map.KeyMap.keys.Given as goal

-- what is listed and what is left are the whole
abbrev pub invariant-loop-key : goal.invariant-loop-key
invariant-loop-key g l = l.keys.items ++ map (λ e. e.0) l.key-iterator ≡ map (λ e. e.0) (finite.entries l.self)

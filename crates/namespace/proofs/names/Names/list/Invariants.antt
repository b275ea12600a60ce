use Rattle.std.proofs.Common.{◌≡◌, ◌++◌, map}
use Rattle.std.specs.FinMap as finite
use Rattle.namespace.specs.Keys.{by_bytes}
use Rattle.namespace.specs.Names.{record_value, put_of}
use Rattle.namespace.proofs.names.Names.list.Given as goal

-- what is listed and what is left are the whole
abbrev pub invariant-loop-name : goal.invariant-loop-name
invariant-loop-name l = map record_value l.records.items ++ map put_of (by_bytes l.name-iterator) ≡ map put_of (finite.entries l.self)

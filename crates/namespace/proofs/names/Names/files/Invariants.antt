use Rattle.std.proofs.Common.{◌≡◌, ◌++◌, map}
use Rattle.std.specs.FinMap as finite
use Rattle.namespace.specs.Keys.{by_bytes}
use Rattle.namespace.specs.Listing.{listed_value, named_root}
use Rattle.namespace.proofs.names.Names.files.Given as goal

-- what is listed and what is left are the whole
abbrev pub invariant-loop-name : goal.invariant-loop-name
invariant-loop-name l = map listed_value l.names.items ++ map named_root (by_bytes l.name-iterator) ≡ map named_root (finite.entries l.self)

use Rattle.std.proofs.Common.{◌≡◌, drop, map}
use Rattle.std.specs.FinMap as finite
use Rattle.namespace.specs.declared.fault.NameFault.{NameFault}
use Rattle.namespace.specs.Names.{AreTaken, AreNames, AreRefused, names_after, record_value}
use Rattle.namespace.proofs.names.Names.replay.Given as goal

-- the names are such, and what the records that are left do is what all do
abbrev pub invariant-loop-record : goal.invariant-loop-record
invariant-loop-record l = record {
  names : AreNames l.names;
  rest : names_after (map record_value (drop l.record-index l.records)) l.names ≡ names_after (map record_value l.records) finite.empty;
  taken : AreTaken l.names (map record_value (drop l.record-index l.records)) → AreTaken finite.empty (map record_value l.records);
  refused : (fault : NameFault) → AreRefused l.names (map record_value (drop l.record-index l.records)) fault → AreRefused finite.empty (map record_value l.records) fault;
}

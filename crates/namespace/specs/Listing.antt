-- Names and their roots, as they are listed (docs/MODEL.md, 'Names').
use Rattle.std.specs.Prelude.{ℕ, List, map}
use Rattle.std.specs.FinMap as finite
use Rattle.disk_format.specs.Cells.{Root}
use Rattle.namespace.specs.declared.listing.ListedName.{ListedName}
use Rattle.namespace.specs.declared.record.Named.{Named}
use Rattle.namespace.specs.Names.{NameMap}

pub record NamedRoot : Type 0 where
  pub name : List ℕ
  pub root : Root

-- without where the name lies in memory
abbrev pub listed_value : ListedName → NamedRoot
listed_value l = record { name = l.name.items; root = l.root }

abbrev pub named_root : List ℕ × Named → NamedRoot
named_root entry = record { name = entry.0; root = entry.1.root }

-- each name with its root, in the order of the names' bytes
abbrev pub listing_of : NameMap → List NamedRoot
listing_of names = map named_root (finite.entries names)

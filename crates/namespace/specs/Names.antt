-- The names of a store, and what is refused (docs/MODEL.md, 'Names').
use Rattle.std.specs.Prelude.{◌≡◌, ℕ, ◌<◌, ◌≤◌, List, [], ◌∷◌, ◌⊎◌, All, IsSome, Option, None, Some, Result, Ok, Err, refl}
use Rattle.std.specs.Coded.{Coded, code_by, coded×, coded_list, coded_ℕ}
use Rattle.std.specs.Ordering.{nat_cmp}
use Rattle.std.specs.Cmp.Lexicographic.{slice_cmp}
use Rattle.std.specs.FinMap as finite
use Rattle.disk_format.specs.Cells.{Root, Change, RecordValue, IsName}
use Rattle.disk_format.specs.Cells.Change.{Put, Delete}
use Rattle.disk_format.specs.declared.numbers.TheConstants.{MOST_NAMES}
use Rattle.namespace.specs.declared.fault.NameFault.{NameFault}
use Rattle.namespace.specs.declared.fault.NameFault.TheVariants.{NoFile, BadName, TooMany, Memory}
use Rattle.namespace.specs.declared.record.Change as declared
use Rattle.namespace.specs.declared.record.Change.TheVariants as variants
use Rattle.namespace.specs.declared.record.Named.{Named}
use Rattle.namespace.specs.declared.record.Record.{Record}

-- a record without where its name lies in memory
abbrev pub change_value : declared.Change → Change
change_value (variants.Put root) = Put root
change_value variants.Delete = Delete

abbrev pub record_value : Record → RecordValue
record_value r = record { sequence = r.sequence; name = r.name.items; change = change_value r.change }

-- from names, in the order of their bytes, to what each has
abbrev pub NameMap : Type 0
NameMap = finite.FinMap (slice_cmp nat_cmp) Named

abbrev pub coded_named : Coded Named
coded_named =
    code_by (ℕ × (ℕ × (ℕ × List ℕ))) (coded× coded_ℕ (coded× coded_ℕ (coded× coded_ℕ (coded_list coded_ℕ))))
    (λ n. (n.sequence, (n.root.length, (n.root.level, n.root.digest))))
    (λ p. record { sequence = p.0; root = record { length = p.1.0; level = p.1.1.0; digest = p.1.1.1 } })
    (λ _. refl)

abbrev pub coded_names : Coded NameMap
coded_names = finite.code (coded_list coded_ℕ) coded_named

-- what holds of the names of a store at every moment
pub record AreNames (names : NameMap) : Type 0 where
  pub few : finite.len names ≤ MOST_NAMES
  pub named : All IsName (finite.keys names)

-- the put that gives a name what it has
abbrev pub put_of : List ℕ × Named → RecordValue
put_of entry = record { sequence = entry.1.sequence; name = entry.0; change = Put entry.1.root }

-- the name is there already, or there is room for one more
abbrev pub HasRoom : NameMap → List ℕ → Type 0
HasRoom names name = IsSome (finite.get names name) ⊎ (finite.len names < MOST_NAMES)

-- the name is new, and as many are there as there may be
abbrev pub IsFull : NameMap → List ℕ → Type 0
IsFull names name = (finite.get names name ≡ None) × (MOST_NAMES ≤ finite.len names)

-- the names after a change of one of them
abbrev pub names_changed : ℕ → List ℕ → Change → NameMap → NameMap
names_changed sequence name (Put root) names = finite.insert names name (record { sequence = sequence; root = root })
names_changed sequence name Delete names = finite.remove names name

-- the names after a record
abbrev pub names_with : RecordValue → NameMap → NameMap
names_with r names = names_changed r.sequence r.name r.change names

-- the names where one of them has this, or where it isn't there
abbrev pub names_given : List ℕ → Option Named → NameMap → NameMap
names_given name None names = finite.remove names name
names_given name (Some named) names = finite.insert names name named

-- the names after records, the first of them first
abbrev pub names_after : List RecordValue → NameMap → NameMap
names_after [] names = names
names_after (r ∷ rs) names = names_after rs (names_with r names)

-- the names have room for a put, and a delete's name among them
abbrev pub HasPlace : NameMap → List ℕ → Change → Type 0
HasPlace names name (Put root) = HasRoom names name
HasPlace names name Delete = IsSome (finite.get names name)

abbrev pub IsTaken : NameMap → RecordValue → Type 0
IsTaken names r = IsName r.name × HasPlace names r.name r.change

-- why a change of a good name is refused
abbrev pub HasNoPlace : NameMap → List ℕ → Change → NameFault → Type 0
HasNoPlace names name (Put root) TooMany = IsFull names name
HasNoPlace names name Delete NoFile = finite.get names name ≡ None
HasNoPlace names name change fault = ⊥

-- why a record is refused: first its name, and then the names that are there
abbrev pub IsRefused : NameMap → RecordValue → NameFault → Type 0
IsRefused names r BadName = ¬ (IsName r.name)
IsRefused names r fault = IsName r.name × HasNoPlace names r.name r.change fault

-- and why a put is, of a name
abbrev pub IsPutRefused : NameMap → List ℕ → NameFault → Type 0
IsPutRefused names name BadName = ¬ (IsName name)
IsPutRefused names name TooMany = IsName name × IsFull names name
IsPutRefused names name fault = ⊥

-- each record is taken by the names that those before it leave
abbrev pub AreTaken : NameMap → List RecordValue → Type 0
AreTaken names [] = Unit {0}
AreTaken names (r ∷ rs) = IsTaken names r × AreTaken (names_with r names) rs

-- why the first record that is refused is refused
abbrev pub AreRefused : NameMap → List RecordValue → NameFault → Type 0
AreRefused names [] fault = ⊥
AreRefused names (r ∷ rs) fault = IsRefused names r fault ⊎ (IsTaken names r × AreRefused (names_with r names) rs fault)

-- what is answered to one who asks for a name's root
abbrev pub IsAnswer : NameMap → List ℕ → Result Root NameFault → Type 0
IsAnswer names name (Ok root) =
    IsName name × ((sequence : ℕ) × (finite.get names name ≡ Some (record { sequence = sequence; root = root })))
IsAnswer names name (Err NoFile) = IsName name × (finite.get names name ≡ None)
IsAnswer names name (Err BadName) = ¬ (IsName name)
IsAnswer names name (Err TooMany) = ⊥
IsAnswer names name (Err Memory) = ⊥

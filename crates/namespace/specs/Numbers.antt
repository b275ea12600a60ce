-- The sequence numbers that names keep (docs/MODEL.md, 'Names').
use Rattle.std.specs.Prelude.{◌≡◌, ℕ, ◌<◌, ◌≤◌, List, [], ◌∷◌, Some}
use Rattle.std.specs.FinMap as finite
use Rattle.disk_format.specs.Cells.{RecordValue}
use Rattle.namespace.specs.declared.record.Named.{Named}
use Rattle.namespace.specs.Names.{NameMap, AreTaken, names_after}

-- sequence numbers rise, from above a number on
abbrev pub Rise : ℕ → List RecordValue → Type 0
Rise previous [] = Unit {0}
Rise previous (r ∷ rs) = (previous < r.sequence) × Rise r.sequence rs

-- the number of the last record, or another where there is none
abbrev pub last_of : ℕ → List RecordValue → ℕ
last_of previous [] = previous
last_of previous (r ∷ rs) = last_of r.sequence rs

-- each name has a number of its own, from 1 up to the last
pub record AreNumbered (names : NameMap) (last : ℕ) : Type 0 where
  pub apart : (a b : List ℕ) (x y : Named) → finite.get names a ≡ Some x → finite.get names b ≡ Some y → x.sequence ≡ y.sequence → a ≡ b
  pub from_one : (a : List ℕ) (x : Named) → finite.get names a ≡ Some x → 1 ≤ x.sequence
  pub most : (a : List ℕ) (x : Named) → finite.get names a ≡ Some x → x.sequence ≤ last

-- puts, by rising numbers up to the last, that give the names what they have
pub record AreInOrder (puts : List RecordValue) (names : NameMap) (last : ℕ) : Type 0 where
  pub rise : Rise 0 puts
  pub most : last_of 0 puts ≤ last
  pub taken : AreTaken finite.empty puts
  pub replay : names_after puts finite.empty ≡ names

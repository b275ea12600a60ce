-- The nodes that a walk has come to, so that each is visited once (docs/MODEL.md, 'Opening').
use Rattle.std.specs.Prelude.{◌≡◌, ◌⊎◌, ◌≤◌, ◌<◌, ◌^◌, ℕ, List, [], ◌∷◌, ◌++◌, None, Some}
use Rattle.std.specs.Cmp.Lexicographic.{slice_cmp}
use Rattle.std.specs.Coded.{Coded, coded_list, coded_ℕ}
use Rattle.std.specs.FinMap as finite
use Rattle.std.specs.Int.{to_be_bytes, w64}
use Rattle.std.specs.Ordering.{nat_cmp}
use base.Stored.{coded_unit}
use Rattle.merkle_file.specs.declared.top.Top.{Top}

-- the bytes that name a node: its level, its length and its digest
abbrev pub named_key : ℕ → ℕ → List ℕ → List ℕ
named_key level length digest = level ∷ (to_be_bytes w64 length ++ digest)

abbrev pub node_key : Top → List ℕ
node_key t = named_key t.level t.length t.digest

-- nodes, by these bytes
abbrev pub NodeSet : Type 0
NodeSet = finite.FinMap (slice_cmp nat_cmp) (Unit {0})

abbrev pub coded_nodes : Coded NodeSet
coded_nodes = finite.code (coded_list coded_ℕ) coded_unit

-- a node of a length that is a number of 64 bits
abbrev pub IsSized : Top → Type 0
IsSized t = t.length < 2 ^ 64

-- it is among these
abbrev pub HasNode : NodeSet → Top → Type 0
HasNode nodes t = finite.get nodes (node_key t) ≡ Some tt

-- a node that is among these comes first
abbrev pub WasNoted : NodeSet → List Top → Type 0
WasNoted nodes [] = ⊥
WasNoted nodes (t ∷ ts) = (1 ≤ t.level) × IsSized t × HasNode nodes t

-- A node that was not among these comes first, and is now. Nothing changes where none comes first.
abbrev pub NotesNext : List Top → NodeSet → NodeSet → Type 0
NotesNext [] old new = new ≡ old
NotesNext (t ∷ ts) old new =
    ((t.level ≡ 0) × (new ≡ old))
    ⊎ ((1 ≤ t.level) × IsSized t × (finite.get old (node_key t) ≡ None) × (new ≡ finite.insert old (node_key t) tt))

-- What a segment says of itself and of its children, by its bytes (docs/FORMAT.md, 'Nodes').
use Rattle.std.specs.Prelude.{◌≡◌, ◌≤◌, ℕ, ◌-◌, ◌==◌, if◌then◌else◌, List, [], ◌∷◌, length, map, Option, Some, None}
use Rattle.std.specs.List.{AllByRecursion}
use Rattle.base_model.specs.Bytes.{key_of}
use Rattle.disk_format.specs.declared.numbers.TheConstants.{MOST_SEGMENT}
use Rattle.container_meta.specs.declared.kind.Kind.{Kind}
use Rattle.container_meta.specs.declared.kind.Kind.TheVariants.{Leaf, Tree}
use Rattle.container_meta.specs.Format.{kind_byte}
use Rattle.container_meta.specs.Segments.{Segment, KindSegment}
use Rattle.merkle_file.specs.declared.node.Child.{Child}
use Rattle.merkle_file.specs.Node.{Contents, spelling, total}
use Rattle.merkle_file.specs.Reading.{IsNodeBytes, contents_in}
use Rattle.actor_parts.specs.declared.pins.Pin.{Pin}
use Rattle.actor_parts.specs.PinMap.{PinMap, has_pin}

-- the bytes are those of a node of the segment's level
pub record IsNodeSegment (segment : Segment) : Type 0 where
  pub bytes : IsNodeBytes segment.bytes
  pub level : segment.level ≡ (contents_in segment.bytes).level

-- a segment that a step may have
abbrev pub IsOfKind : Kind → Segment → Type 0
IsOfKind Leaf segment = Unit {0}
IsOfKind Tree segment = IsNodeSegment segment

abbrev pub IsStepSegment : KindSegment → Type 0
IsStepSegment s = IsOfKind s.kind s.segment

-- the segment of a node: its level, and its one spelling
abbrev pub node_segment : Contents → KindSegment
node_segment n = record { kind = Tree; segment = record { level = n.level; bytes = spelling n } }

-- each segment of a container may stand in a step
abbrev pub AreStepSegments : Kind → List Segment → Type 0
AreStepSegments kind segments = AllByRecursion (λ segment. IsOfKind kind segment) segments

-- data is as long as a segment may be; a node always is
abbrev pub IsAsLong : Kind → Segment → Type 0
IsAsLong Leaf segment = (1 ≤ length segment.bytes) × (length segment.bytes ≤ MOST_SEGMENT)
IsAsLong Tree segment = Unit {0}

-- what is said of a segment of a kind: of data its length, of a node how many bytes of the file lie below it
abbrev pub pin_by : Kind → Segment → Pin
pin_by Leaf segment = record { level = 0; length = length segment.bytes }
pin_by Tree segment = record { level = segment.level; length = total (contents_in segment.bytes).children }

abbrev pub pin_of : KindSegment → Pin
pin_of s = pin_by s.kind s.segment

-- a segment as its parent names it
pub record KeyPin : Type 0 where
  pub key : List ℕ
  pub pin : Pin

-- the children of a node of level 1 are data, those of one of a higher level are nodes
abbrev pub child_kind : ℕ → Kind
child_kind level = if level == 1 then Leaf else Tree

abbrev pub child_pin : ℕ → Child → KeyPin
child_pin level c = record {
  key = key_of (kind_byte (child_kind level)) c.digest;
  pin = record { level = level - 1; length = c.length };
}

-- the children of a segment of a kind, in order: data has none
abbrev pub children_by : Kind → Segment → List KeyPin
children_by Leaf segment = []
children_by Tree segment = map (child_pin segment.level) (contents_in segment.bytes).children

abbrev pub children_of : KindSegment → List KeyPin
children_of s = children_by s.kind s.segment

-- the key of the first that isn't among the pins with its level and length
abbrev pub first_not_in : PinMap → List KeyPin → Option (List ℕ)
first_not_in pins [] = None
first_not_in pins (c ∷ cs) = if has_pin pins c.key c.pin then first_not_in pins cs else Some c.key

abbrev pub first_unpinned : KindSegment → PinMap → Option (List ℕ)
first_unpinned s pins = first_not_in pins (children_of s)

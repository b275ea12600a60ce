-- Why a command is refused on any disk, by what the store is that reads showed, as the command leaves it: so an `ingest` may have stored
-- pieces before (docs/MODEL.md, 'The promise').
use Rattle.std.specs.Prelude.{◌≡◌, ◌≢◌, ◌⊎◌, ℕ, ◌-◌, ◌^◌, ◌<◌, ◌≤◌, List, length, Bool, true, false, option_map, Option, None, Some}
use Rattle.disk_format.specs.declared.numbers.TheConstants.{MOST_FILE, MOST_NAMES, RESERVE, LAST_ID}
use Rattle.disk_format.specs.Cells.{IsName}
use Rattle.disk_format.specs.Layout.{half_cells, size_of}
use Rattle.refusals.specs.declared.refusal.Difference.TheVariants.{Length}
use Rattle.refusals.specs.declared.refusal.Refusal.{Refusal}
use Rattle.refusals.specs.declared.refusal.Refusal.TheVariants.{NoFile, BadName, TooMany, TooLong, Full, Clash, Numbers, Unpinned}
use Rattle.store_model.specs.Image.{Store}
use Rattle.store_model.specs.Slots.{newest, free_slots, last_id}
use Rattle.merkle_file.specs.Node.{Contents}
use Rattle.store_model.specs.Pieces.{Piece, Node, IsPieceOf, piece_key, piece_bytes}
use Rattle.store_model.specs.Trees.{node_key}

-- What refusals go by: whether the name has a file, how many names have one, the last sequence number; and of the disk its
-- size, how many slots are free, the last container id, how many records the half of the journal has that counts, its generation, and
-- how long a segment is that is held, by its key.
pub record Room : Type 0 where
  pub knows : Bool
  pub names : ℕ
  pub last : ℕ
  pub size : ℕ
  pub free : ℕ
  pub last_id : ℕ
  pub records : ℕ
  pub generation : ℕ
  pub held : List ℕ → Option ℕ

-- those of a store, by what has a file
abbrev pub room : Bool → ℕ → ℕ → Store → Room
room knows names last store = record {
  knows = knows;
  names = names;
  last = last;
  size = size_of store.slots;
  free = free_slots store.held;
  last_id = last_id store.held;
  records = length store.records;
  generation = store.selector.generation;
  held = λ key. option_map (λ c. c.place.length) (newest 0 store.held key);
}

-- a piece of a file, a segment or a node of its tree, by its key and its length
abbrev pub IsPiece : List ℕ → List ℕ → ℕ → Type 0
IsPiece given key count = (p : Piece) × IsPieceOf given p × (key ≡ piece_key p) × (count ≡ length (piece_bytes p))

-- each is held
abbrev pub HasPieces : List ℕ → Room → Type 0
HasPieces given room = (key : List ℕ) (count : ℕ) → IsPiece given key count → room.held key ≡ Some count

-- one is not
abbrev pub LacksPiece : List ℕ → Room → Type 0
LacksPiece given room = (key : List ℕ) × ((count : ℕ) × IsPiece given key count × (room.held key ≡ None))

-- there are as many names as there may be, and this one is new
abbrev pub HasNoRoomForName : Room → Type 0
HasNoRoomForName room = (room.knows ≡ false) × (MOST_NAMES ≤ room.names)

-- a record has its numbers: one for itself, and where the half is full one for the generation of a checkpoint
pub record HasNumbers (room : Room) : Type 0 where
  pub sequence : room.last < 2 ^ 64 - 1
  pub generation : half_cells ≤ room.records → room.generation < 2 ^ 64 - 1

-- or one of them can't rise
abbrev pub LacksNumbers : Room → Type 0
LacksNumbers room = (room.last ≡ 2 ^ 64 - 1) ⊎ ((half_cells ≤ room.records) × (room.generation ≡ 2 ^ 64 - 1))

-- The file is not too long, each piece of it is held, and the name is good and has room.
pub record HasAll (name given : List ℕ) (room : Room) : Type 0 where
  pub few : length given ≤ MOST_FILE
  pub pieces : HasPieces given room
  pub named : IsName name
  pub place : ¬ (HasNoRoomForName room)

-- two different nodes of the file's tree have one SHA-256, so that the pin of one stands in the place of the other's
abbrev pub HasTwins : List ℕ → List ℕ → Type 0
HasTwins given key =
    (n : Contents) × (m : Contents) × IsPieceOf given (Node n) × IsPieceOf given (Node m) × (n ≢ m)
    × (key ≡ node_key n) × (key ≡ node_key m)

-- Why an `ingest` is refused, in the order of the steps: the source and its pieces as they come; once all are held, the name.
abbrev pub RefusesIngest : List ℕ → List ℕ → Room → Refusal → Type 0
RefusesIngest name given room TooLong = MOST_FILE < length given
RefusesIngest name given room (Clash key (Length offered held)) =
    IsPiece given key offered × (room.held key ≡ Some held) × (offered ≢ held)
RefusesIngest name given room (Unpinned key) = HasTwins given key
RefusesIngest name given room (Full free) = LacksPiece given room × (free ≡ room.free) × (free ≤ RESERVE)
RefusesIngest name given room BadName = (length given ≤ MOST_FILE) × HasPieces given room × ¬ (IsName name)
RefusesIngest name given room TooMany = (length given ≤ MOST_FILE) × HasPieces given room × IsName name × HasNoRoomForName room
RefusesIngest name given room Numbers =
    (LacksPiece given room × (RESERVE < room.free) × (room.last_id ≡ LAST_ID))
    ⊎ (HasAll name given room × LacksNumbers room)
RefusesIngest name given room refusal = ⊥

-- The name has a file.
pub record MayDelete (name : List ℕ) (room : Room) : Type 0 where
  pub named : IsName name
  pub knows : room.knows ≡ true

abbrev pub RefusesRestore : List ℕ → Room → Refusal → Type 0
RefusesRestore name room BadName = ¬ (IsName name)
RefusesRestore name room NoFile = IsName name × (room.knows ≡ false)
RefusesRestore name room refusal = ⊥

-- Why a `delete` is refused, in the order of what is looked at: its name, the name's file, numbers for it.
abbrev pub RefusesDelete : List ℕ → Room → Refusal → Type 0
RefusesDelete name room BadName = ¬ (IsName name)
RefusesDelete name room NoFile = IsName name × (room.knows ≡ false)
RefusesDelete name room Numbers = MayDelete name room × LacksNumbers room
RefusesDelete name room refusal = ⊥

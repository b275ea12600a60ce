-- What the lines of an `ingest` come to, in a run of the machine of files: what the plain map makes of it.
use Rattle.std.specs.Prelude.{◌≡◌, ◌⊎◌, ◌<◌, ◌≤◌, ◌-◌, ◌^◌, ℕ, ◌∷◌, Bool, true, List, [], ◌++◌, length, is_some, slice_get, Some, None, Err}
use Rattle.std.specs.FinMap as finite
use Rattle.std.specs.List.{AllByRecursion}
use Rattle.actor_parts.specs.declared.step.Answer.{Answer}
use Rattle.actor_parts.specs.PinMap.{PinMap}
use Rattle.actor_parts.specs.Segments.{first_unpinned}
use Rattle.container_meta.specs.Segments.{Contents, KindSegment}
use Rattle.disk_format.specs.Cells.{IsName}
use Rattle.disk_format.specs.Cells.Change.{Put}
use Rattle.disk_format.specs.declared.numbers.TheConstants.{LAST_ID, MOST_FILE, MOST_NAMES, RESERVE}
use Rattle.refusals.specs.declared.refusal.Difference.{Difference}
use Rattle.refusals.specs.declared.refusal.Refusal.{Refusal}
use Rattle.refusals.specs.declared.refusal.Refusal.TheVariants.{Memory, BadName, TooLong, TooMany, Full, Clash, Numbers, Unpinned, DiskRead, DiskWrite}
use Rattle.reply_text.specs.Text.{stored_line}
use Rattle.script_lines.specs.Grammar.{LineValue, pushed_bytes}
use Rattle.script_lines.specs.Grammar as lines
use Rattle.store_model.specs.Image.{Store}
use Rattle.store_model.specs.Refusals.{root_key}
use Rattle.store_model.specs.Slots.{free_slots, last_id}
use Rattle.store_model.specs.Steps.{SealContainer, StoreChange, with_change}
use Rattle.store_model.specs.Trees.{root_of}
use Rattle.store_machine.specs.Asked.{Asked}
use Rattle.store_machine.specs.Asked as asked
use Rattle.store_machine.specs.ByMap.{AfterOpening, FileMachine, Through}
use Rattle.store_machine.specs.Collecting.{Makes}
use Rattle.store_machine.specs.Commands.{AreLinesOf, EndsRefused, EndsWith, Ingest, IsDone, IsEnded, Lines, MayGoOn, Replied, desk, given_by, printed}
use Rattle.store_machine.specs.Legal.{broken_by, HasRoom, LacksNumbers, with_name}
use Rattle.store_machine.specs.Needs.{IsClash, IsKept}
use Rattle.store_machine.specs.Lines.{Desk, IsDueStep, step_of}
use Rattle.store_machine.specs.Machine.{Found, Running, Stepped, Stopped, Writing, part_in}
use Rattle.store_machine.specs.Offers.{AnyByRecursion, sealed_in, stores_with_some}
use Rattle.store_machine.specs.Opening.{MayBeFound}
use Rattle.store_machine.specs.Storing.{AddsOnce, AsksPieces, HoldsFile, LacksPiece, MayCome, OfWhole}
use Rattle.store_machine.specs.Twins.{PiecesAreTwins}
use Rattle.store_machine.specs.Values.{of_files}

-- ---- the name

-- there is room for it
abbrev pub HasRoomFor : List ℕ → Found (List ℕ) → Type 0
HasRoomFor name now = (is_some (finite.get now.names name) ≡ true) ⊎ (finite.len now.names < MOST_NAMES)

-- The name has the file that was given: it is good, the file is no longer than one may be, there was room, and a number was left.
abbrev pub IsPut : (name given : List ℕ) → Found (List ℕ) → Found (List ℕ) → Type 0
IsPut name given now x = (x ≡ with_name of_files name given now) × IsName name × (length given ≤ MOST_FILE) × HasRoomFor name now
    × (now.last < 2 ^ 64 - 1)

-- ---- what it is refused by

-- a step that is due of the file that was given, after some answers
abbrev pub IsDueOf : List ℕ → Asked (List ℕ) → Type 0
IsDueOf given step =
    (ended : Bool) × (answers : List Answer) × IsDueStep of_files (record { given = given; ended = ended; answers = answers }) step

-- the segment that it claims, or one of those that it offers to seal
abbrev pub HasSegment : Asked (List ℕ) → KindSegment → Type 0
HasSegment (asked.Claim seg) one = one ≡ seg
HasSegment (asked.Seal offered) one =
    AnyByRecursion (λ c. (one.kind ≡ c.kind) × ((i : ℕ) × (slice_get c.segments i ≡ Some one.segment))) offered
HasSegment step one = ⊥

-- a segment of the file, or a node over some, whose turn came
abbrev pub IsTurnOf : List ℕ → KindSegment → Type 0
IsTurnOf given seg = (step : Asked (List ℕ)) × IsDueOf given step × HasSegment step seg

-- with what this line brings the file is longer than one may be
abbrev pub IsTooLong : List ℕ → LineValue → Type 0
IsTooLong given (lines.Push a digits) = MOST_FILE < length (given ++ pushed_bytes digits)
IsTooLong given line = ⊥

-- what the first actor keeps lacks a child of what its turn is of, or the root of the file
abbrev pub LacksPin : List ℕ → List ℕ → PinMap → Type 0
LacksPin given key pins = ((seg : KindSegment) × IsTurnOf given seg × (first_unpinned seg pins ≡ Some key))
    ⊎ ((key ≡ root_key (root_of given)) × ¬ (IsKept pins (root_of given)))

-- the name was asked for, once the store had all of the file
abbrev pub AsksName : (name given : List ℕ) → Store → LineValue → Type 0
AsksName name given store line = (line ≡ lines.Commit 0 name) × HoldsFile given store

-- Why its last line is refused, by the machine that this left: of a container that finds no slot, or no id, a piece is held by nothing;
-- once all of them are held the name counts. Want of memory is free, and a call of the disk that failed is told by its count of faults.
abbrev pub IngestRefusal : (name given : List ℕ) → Found (List ℕ) → FileMachine → LineValue → Refusal → Type 0
IngestRefusal name given now n line TooLong = IsTooLong given line
IngestRefusal name given now n line BadName = ¬ (IsName name) × AsksName name given n.store line
IngestRefusal name given now n line TooMany =
    IsName name × (finite.get now.names name ≡ None) × (MOST_NAMES ≤ finite.len now.names) × AsksName name given n.store line
IngestRefusal name given now n line (Full free) =
    (free ≡ free_slots n.store.held) × (free ≤ RESERVE) × OfWhole given line (λ file. LacksPiece file n.store)
IngestRefusal name given now n line Numbers =
    ((LAST_ID ≤ n.last_id) × (n.last_id ≡ last_id n.store.held) × (RESERVE < free_slots n.store.held)
    × OfWhole given line (λ file. LacksPiece file n.store))
    ⊎ (IsName name × HasRoom of_files name n × LacksNumbers of_files n × AsksName name given n.store line)
IngestRefusal name given now n line (Clash key at) = (seg : KindSegment) × IsTurnOf given seg × IsClash n.store n.forgotten seg key at
IngestRefusal name given now n line (Unpinned key) = ((pins : PinMap) × (part_in n 0 ≡ Writing pins) × LacksPin given key pins)
    × OfWhole given line (λ file. PiecesAreTwins file key)
IngestRefusal name given now n line Memory = Unit {0}
IngestRefusal name given now n line DiskRead = Unit {0}
IngestRefusal name given now n line DiskWrite = Unit {0}
IngestRefusal name given now n line refusal = ⊥

-- ---- the store

-- containers that were filled with segments of what was given by then, or with nodes over some, as their turn came
abbrev pub AreOfferedFor : List ℕ → List Contents → Type 0
AreOfferedFor given offered = (part rest : List ℕ) × (given ≡ part ++ rest) × IsDueOf part (asked.Seal offered)

-- one of such
abbrev pub IsSealFor : List ℕ → StoreChange → Type 0
IsSealFor given (SealContainer id kind segments) = (offered : List Contents) × AreOfferedFor given offered
    × AnyByRecursion (λ c. (kind ≡ c.kind) × (segments ≡ c.segments)) offered
IsSealFor given change = ⊥

-- A write failed: of such containers, some of which may be there; or of the name's record, so that it may be there, or a part of the
-- checkpoint before it.
abbrev pub IsBroken : (name given : List ℕ) → Found (List ℕ) → FileMachine → Type 0
IsBroken name given now n = ((offered : List Contents) × AreOfferedFor given offered
    × (n.state ≡ Stopped None (stores_with_some n.last_id (sealed_in offered n) n.store)))
    ⊎ (n.state ≡ Stopped (Some (with_name of_files name given now)) (broken_by of_files name (Put (root_of given)) n.store))

-- Once the store was opened such containers were added, each where it could be, with pieces of the file, however it goes on, that no
-- container before it holds; and then the name's record, where the last line was done. It runs, unless a write failed.
pub record AddsIn (name given : List ℕ) (rs : List Replied) (now : Found (List ℕ)) (n : FileMachine) (opened : Store) : Type 0 where
  pub changes : List StoreChange
  pub after : Store
  pub seals : AllByRecursion (IsSealFor given) changes
  pub makes : Makes changes opened after
  pub once : (more : List ℕ) → EndsWith (λ one. MayCome more one.line) rs → AddsOnce (given ++ more) changes opened
  pub done : EndsWith (λ one. IsDone (Ingest name) one.reply) rs → n.store ≡ with_change name (Put (root_of given)) after
  pub undone : (EndsWith (λ one. IsDone (Ingest name) one.reply) rs → ⊥) → n.store ≡ after
  pub runs : (EndsRefused DiskWrite rs → ⊥) → n.state ≡ Running
  pub broke : EndsRefused DiskWrite rs → IsBroken name given now n

-- ---- at its end

-- its last line was the name's
abbrev pub EndsCommitting : List ℕ → List Replied → Type 0
EndsCommitting name rs = EndsWith (λ one. one.line ≡ lines.Commit 0 name) rs

-- It came to its end, or a line is to come. What may be found is what was, or, where the last line was to commit it, the name has the file
-- that was given; where it was done, it has, and its root is printed, and else nothing. Only a write that failed leaves a doubt.
pub record Ingested (name given : List ℕ) (rs : List Replied) (m n : FileMachine) : Type 0 where
  pub ends : IsEnded (Ingest name) rs ⊎ MayGoOn (Ingest name) rs
  pub found : (x : Found (List ℕ)) → MayBeFound of_files n.state n.now x
      → (x ≡ m.now) ⊎ (IsPut name given m.now x × EndsCommitting name rs)
  pub store : AfterOpening (AddsIn name given rs m.now n) rs m n
  pub done : EndsWith (λ one. IsDone (Ingest name) one.reply) rs
      → IsPut name given m.now n.now × (n.state ≡ Running) × (printed (Ingest name) given rs ≡ stored_line name (root_of given))
  pub undone : (EndsWith (λ one. IsDone (Ingest name) one.reply) rs → ⊥) → (n.now ≡ m.now) × (printed (Ingest name) given rs ≡ [])
  pub refused : (refusal : Refusal) → (end : EndsRefused refusal rs) → IngestRefusal name given m.now n end.0.line refusal
      × (((refusal ≡ DiskWrite) → ⊥) → (x : Found (List ℕ)) → MayBeFound of_files n.state n.now x → x ≡ m.now)

abbrev pub IngestsByMap : Type 0
IngestsByMap = (name : List ℕ) (rs : List Replied) (ss : List (Stepped (List ℕ))) (m : FileMachine) (e : Desk (List ℕ) (List (List ℕ)))
    → m.state ≡ Running → AreLinesOf (Ingest name) rs → Lines of_files rs ss (desk m) e
    → Ingested name (given_by 0 [] rs) rs m e.machine

-- ---- a node that clashes

-- The step that was refused since a node clashes is the last of them, and asked for pieces of the file, however it goes on.
abbrev pub IngestsClash : Type 0
IngestsClash = (name : List ℕ) (rs : List Replied) (ss : List (Stepped (List ℕ))) (m : FileMachine) (e : Desk (List ℕ) (List (List ℕ)))
    → m.state ≡ Running → AreLinesOf (Ingest name) rs → Lines of_files rs ss (desk m) e
    → (key : List ℕ) (at : Difference) → (end : EndsRefused (Clash key at) rs)
    → (before : List (Stepped (List ℕ))) × ((step : Asked (List ℕ)) × ((ss ≡ before ++ step_of of_files 0 step (Err (Clash key at)) ∷ [])
    × OfWhole (given_by 0 [] rs) end.0.line (λ file. AsksPieces file step)))

-- ---- at each moment of their steps

abbrev pub IngestsThrough : Type 0
IngestsThrough = (name : List ℕ) → Through (Ingest name)

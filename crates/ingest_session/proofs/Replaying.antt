-- A session over a whole file, and what an answer does to it.
use Rattle.ingest_session.proofs.Prelude.{◌≡◌, ◌∙◌, ℕ, Bool, true, false, List, [], ◌∷◌, Some, length, take, drop, ◌++◌, map, refl, sym, ap, Kind, Leaf, Tree, Contents, Segment, has_room, empty_hand, nodes_in_rows, open_over, ByCount, itself, nodes_of, of_segment, tree_of, Answer, Held, Absent, Sealed, Piece, Due, Seal, due_in, item_kind, needs_no_step, offered_in, puts_aside, seals_data, segments_of_all, turn_in, data_in, nodes_in, with_segment, held_by, placed_after_seal, placed_by, placed_if, placed_resumed, same_kind, sealed_for, turn, fits, item_of, SessionState, is_last, turn_node, IsAnswerFor, absent_item, added_item, emptied, placed_item, put_aside, resumed, set_aside, told_by, with_open}
use Rattle.std.proofs.Common.{◌==◌, if◌then◌else◌, not, Option, None}
use Rattle.std.specs.Prelude.{◌&&◌, nat_lt}
use Rattle.actor_parts.specs.declared.step.TheConstants.{MOST_TOGETHER}
use Rattle.merkle_file.specs.Node as node
use Rattle.ingest_session.specs.Due as due
use Rattle.ingest_session.specs.History.{absent_by, sealed_by}
use Rattle.ingest_session.specs.Told as told

-- whose turn an item that waits has
abbrev pub waiting_turn : Bool → Kind → Option Kind
waiting_turn true turn = Some turn
waiting_turn false turn = None

-- the containers, and which item waits, if one does
pub record Core : Type 0 where
  pub leaves : Contents
  pub nodes : Contents
  pub aside : List Contents
  pub waits : Option Kind

abbrev pub core_of : SessionState → Core
core_of s = record { leaves = s.leaves; nodes = s.nodes; aside = s.aside; waits = waiting_turn s.waits s.turn }

-- ---- the session of some segments of which some pieces are in their place

-- the nodes that are finished where these segments are in their place, and all of them at the end
abbrev pub finished_at : Bool → List (List ℕ) → List node.Contents
finished_at false segments = nodes_in_rows itself (open_over ByCount (map of_segment segments))
finished_at true segments = nodes_of itself (tree_of ByCount itself (map of_segment segments))

abbrev pub queue_at : List (List ℕ) → List Piece → List (List ℕ)
queue_at segments placed = drop (length (data_in placed)) segments

abbrev pub line_at : Bool → List (List ℕ) → List Piece → List node.Contents
line_at ended segments placed =
    drop (length (nodes_in placed)) (finished_at (is_last ended (queue_at segments placed)) (data_in placed))

abbrev pub any_waits : Option Kind → Bool
any_waits None = false
any_waits (Some kind) = true

-- an item that waits keeps its turn
abbrev pub turn_at : Option Kind → SessionState → Kind
turn_at None s = turn_in s
turn_at (Some kind) s = kind

abbrev pub unturned : Bool → List (List ℕ) → Core → List Piece → SessionState
unturned ended segments c placed = record {
  count = 0;
  ended = ended;
  hand = empty_hand;
  queue = queue_at segments placed;
  most = 0;
  ahead = None;
  line = line_at ended segments placed;
  spelled = None;
  turn = Leaf;
  built = record { rows = []; finished = []; leaves = 0 };
  top = None;
  leaves = c.leaves;
  nodes = c.nodes;
  aside = c.aside;
  waits = any_waits c.waits;
  unseen = 0;
}

abbrev pub session_at : Bool → List (List ℕ) → Core → List Piece → SessionState
session_at ended segments c placed =
    record (unturned ended segments c placed) { turn = turn_at c.waits (unturned ended segments c placed) }

-- ---- sessions that are alike for an answer

pub record IsLike (s t : SessionState) : Type 0 where
  pub turned : t.turn ≡ s.turn
  pub which : turn_node t ≡ turn_node s
  pub item : item_of (turn_node t) t.queue ≡ item_of (turn_node s) s.queue
  pub core : core_of t ≡ core_of s
  pub waits : t.waits ≡ s.waits
  pub pieces : turn t ≡ turn s
  pub due : due_in t ≡ due_in s
  pub there : needs_no_step t ≡ needs_no_step s

-- ---- an answer does the same to both

core_placed : (more : ℕ) (n : Option node.Contents) (s : SessionState) → core_of (placed_item more n s) ≡ core_of s
core_placed more None s = refl
core_placed more (Some n) s = refl

open_in : Core → Kind → Contents
open_in c Leaf = c.leaves
open_in c Tree = c.nodes

room_in : Core → Kind → Segment → Bool
room_in c kind item = has_room (open_in c kind) (length item.bytes)

core_with : Core → Kind → Segment → Core
core_with c Leaf item = record c { leaves = with_segment c.leaves item }
core_with c Tree item = record c { nodes = with_segment c.nodes item }

room_is : (s : SessionState) (kind : Kind) (item : Segment) → has_room (due.open_of s kind) (length item.bytes) ≡ room_in (core_of s) kind item
unfolding room_in open_in
room_is s Leaf item = refl
room_is s Tree item = refl

with_is : (s : SessionState) (kind : Kind) (item : Segment) →
    core_of (with_open kind (with_segment (due.open_of s kind) item) s) ≡ core_with (core_of s) kind item
unfolding core_with
with_is s Leaf item = refl
with_is s Tree item = refl

-- a function of the core, the turn and the item
same_by : {X : Type 0} (f : Core → Kind → Segment → X) (s t : SessionState) → turn_node t ≡ turn_node s
    → item_of (turn_node t) t.queue ≡ item_of (turn_node s) s.queue → core_of t ≡ core_of s
    → f (core_of t) (item_kind (turn_node t)) (item_of (turn_node t) t.queue) ≡ f (core_of s) (item_kind (turn_node s)) (item_of (turn_node s) s.queue)
same_by f s t turn item core =
    ap (λ (c : Core). f c (item_kind (turn_node t)) (item_of (turn_node t) t.queue)) core
    ∙ ap (λ (n : Option node.Contents). f (core_of s) (item_kind n) (item_of (turn_node t) t.queue)) turn
    ∙ ap (f (core_of s) (item_kind (turn_node s))) item

after_absent : ℕ → SessionState → Bool → SessionState
after_absent more s fit = if fit then placed_item more (turn_node s) (added_item s) else record s { waits = true }

module _ (s t : SessionState) (turned : t.turn ≡ s.turn) (turn_is : turn_node t ≡ turn_node s)
    (item : item_of (turn_node t) t.queue ≡ item_of (turn_node s) s.queue) (core : core_of t ≡ core_of s) where
  fits_alike : fits t ≡ fits s
  fits_alike =
      room_is t (item_kind (turn_node t)) (item_of (turn_node t) t.queue)
      ∙ same_by room_in s t turn_is item core
      ∙ sym (room_is s (item_kind (turn_node s)) (item_of (turn_node s) s.queue))

  after_alike : (more : ℕ) (fit : Bool) → core_of (after_absent more t fit) ≡ core_of (after_absent more s fit)
  unfolding after_absent
  after_alike more true =
      core_placed more (turn_node t) (added_item t)
      ∙ with_is t (item_kind (turn_node t)) (item_of (turn_node t) t.queue)
      ∙ same_by core_with s t turn_is item core
      ∙ sym (with_is s (item_kind (turn_node s)) (item_of (turn_node s) s.queue))
      ∙ sym (core_placed more (turn_node s) (added_item s))
  after_alike more false =
      ap (λ (c : Core). record c { waits = Some t.turn }) core ∙ ap (λ (k : Kind). record (core_of s) { waits = Some k }) turned

  absent_alike : (more : ℕ) → core_of (absent_item more t) ≡ core_of (absent_item more s)
  unfolding after_absent
  absent_alike more = ap (λ (fit : Bool). core_of (after_absent more t fit)) fits_alike ∙ after_alike more (fits s)

placed_alike : (s t : SessionState) (fit : Bool) → turn t ≡ turn s → placed_if fit t ≡ placed_if fit s
placed_alike s t true same = same
placed_alike s t false same = refl

-- ---- an item that waited

module _ (s t : SessionState) (turned : t.turn ≡ s.turn) (turn_is : turn_node t ≡ turn_node s)
    (item : item_of (turn_node t) t.queue ≡ item_of (turn_node s) s.queue) (core : core_of t ≡ core_of s) (waits : t.waits ≡ s.waits) (pieces : turn t ≡ turn s) where
  unwaited_core : core_of (record t { waits = false }) ≡ core_of (record s { waits = false })
  unwaited_core = ap (λ (c : Core). record c { waits = None }) core

  resumed_by : (more : ℕ) (w : Bool) → core_of (if w then absent_item more (record t { waits = false }) else t)
      ≡ core_of (if w then absent_item more (record s { waits = false }) else s)
  resumed_by more true = absent_alike (record s { waits = false }) (record t { waits = false }) turned turn_is item unwaited_core more
  resumed_by more false = core

  resumed_alike : (more : ℕ) → core_of (resumed more t) ≡ core_of (resumed more s)
  resumed_alike more =
      ap (λ (w : Bool). core_of (if w then absent_item more (record t { waits = false }) else t)) waits ∙ resumed_by more s.waits

  places_by : (w : Bool) → (if w then placed_if (fits (record t { waits = false })) t else []) ≡ (if w then placed_if (fits (record s { waits = false })) s else [])
  places_by true =
      ap (λ (fit : Bool). placed_if fit t) (fits_alike (record s { waits = false }) (record t { waits = false }) turned turn_is item unwaited_core)
      ∙ placed_alike s t (fits (record s { waits = false })) pieces
  places_by false = refl

  resumed_places_alike : placed_resumed t ≡ placed_resumed s
  resumed_places_alike = ap (λ (w : Bool). if w then placed_if (fits (record t { waits = false })) t else []) waits ∙ places_by s.waits

module _ (s t : SessionState) (like : IsLike s t) where
  -- ---- a container that is set aside

  put_core : core_of (put_aside t) ≡ core_of (put_aside s)
  put_core = ap (λ (c : Core). record c { aside = c.aside ++ c.leaves ∷ []; leaves = record c.leaves { segments = [] } }) like.core

  pub aside_alike : core_of (set_aside t) ≡ core_of (set_aside s)
  aside_alike = resumed_alike (put_aside s) (put_aside t) like.turned like.which like.item put_core like.waits like.pieces 1

  pub aside_places_alike : placed_resumed (put_aside t) ≡ placed_resumed (put_aside s)
  aside_places_alike = resumed_places_alike (put_aside s) (put_aside t) like.turned like.which like.item put_core like.waits like.pieces

  pub puts_alike : puts_aside t ≡ puts_aside s
  puts_alike =
      ap (λ (d : Due). seals_data d && (not (length t.leaves.segments == 0) && nat_lt (length t.aside) MOST_TOGETHER)) like.due
      ∙ ap (λ (c : Core). seals_data (due_in s) && (not (length c.leaves.segments == 0) && nat_lt (length c.aside) MOST_TOGETHER)) like.core

  -- ---- a seal

  emptied_core : core_of (emptied t) ≡ core_of (emptied s)
  emptied_core = ap (λ (c : Core). record c { nodes = record c.nodes { segments = [] } }) like.core

  seal_alike : (count : ℕ) (kind : Kind) → core_of (told.sealed_by count (Seal kind) t) ≡ core_of (told.sealed_by count (Seal kind) s)
  seal_alike count Leaf = ap (λ (c : Core). record c { aside = drop count c.aside }) like.core
  seal_alike count Tree = resumed_alike (emptied s) (emptied t) like.turned like.which like.item emptied_core like.waits like.pieces 0

  seal_places_alike : (kind : Kind) → placed_after_seal (Seal kind) t ≡ placed_after_seal (Seal kind) s
  seal_places_alike Leaf = refl
  seal_places_alike Tree = resumed_places_alike (emptied s) (emptied t) like.turned like.which like.item emptied_core like.waits like.pieces

-- ---- each answer

pub told_alike : (s t : SessionState) (answer : Answer) → IsLike s t → IsAnswerFor answer s → core_of (told_by answer t) ≡ core_of (told_by answer s)
told_alike s t Held like is = core_placed 0 (turn_node t) t ∙ like.core ∙ sym (core_placed 0 (turn_node s) s)
told_alike s t Absent like is = absent_alike s t like.turned like.which like.item like.core 0
told_alike s t (Sealed id count) like is =
    ap (λ (d : Due). core_of (told.sealed_by count d t)) (like.due ∙ is.1)
    ∙ seal_alike s t like count is.0
    ∙ sym (ap (λ (d : Due). core_of (told.sealed_by count d s)) is.1)
told_alike s t other like is = absurd is

pub places_alike_by : (s t : SessionState) (answer : Answer) → IsLike s t → IsAnswerFor answer s → placed_by answer t ≡ placed_by answer s
places_alike_by s t Held like is = like.pieces
places_alike_by s t Absent like is =
    ap (λ (fit : Bool). placed_if fit t) (fits_alike s t like.turned like.which like.item like.core) ∙ placed_alike s t (fits s) like.pieces
places_alike_by s t (Sealed id count) like is =
    ap (λ (d : Due). placed_after_seal d t) (like.due ∙ is.1)
    ∙ seal_places_alike s t like is.0
    ∙ sym (ap (λ (d : Due). placed_after_seal d s) is.1)
places_alike_by s t other like is = absurd is

-- ---- what is held and sealed

pub held_alike : (kind : Kind) (s t : SessionState) (answer : Answer) → IsLike s t → held_by kind answer t ≡ held_by kind answer s
held_alike kind s t Held like =
    ap (λ (n : Option node.Contents). if same_kind kind (item_kind n) then item_of (turn_node t) t.queue ∷ [] else []) like.which
    ∙ ap (λ (item : Segment). if same_kind kind (item_kind (turn_node s)) then item ∷ [] else []) like.item
held_alike kind s t other like = refl

pub offer_alike : (kind : Kind) (s t : SessionState) → core_of t ≡ core_of s → offered_in t kind ≡ offered_in s kind
offer_alike Leaf s t core = ap (λ (c : Core). c.aside) core
offer_alike Tree s t core = ap (λ (c : Core). c.nodes ∷ []) core

seals_alike : (kind : Kind) (count : ℕ) (s t : SessionState) (due : Due) → core_of t ≡ core_of s → sealed_for kind count due t ≡ sealed_for kind count due s
seals_alike kind count s t (Seal other) core =
    ap (λ (cs : List Contents). if same_kind kind other then segments_of_all (take count cs) else []) (offer_alike kind s t core)
seals_alike kind count s t due core = refl

pub absent_alike_by : (kind : Kind) (s t : SessionState) (answer : Answer) → IsLike s t → absent_by kind answer t ≡ absent_by kind answer s
absent_alike_by kind s t Absent like =
    ap (λ (n : Option node.Contents). if same_kind kind (item_kind n) then item_of (turn_node t) t.queue ∷ [] else []) like.which
    ∙ ap (λ (item : Segment). if same_kind kind (item_kind (turn_node s)) then item ∷ [] else []) like.item
absent_alike_by kind s t other like = refl

pub sealed_alike : (kind : Kind) (s t : SessionState) (answer : Answer) → IsLike s t → sealed_by kind answer t ≡ sealed_by kind answer s
sealed_alike kind s t (Sealed id count) like =
    ap (λ (due : Due). sealed_for kind count due t) like.due ∙ seals_alike kind count s t (due_in s) like.core
sealed_alike kind s t other like = refl

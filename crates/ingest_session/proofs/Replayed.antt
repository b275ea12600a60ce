-- What answers make of a session, they make of the session over a whole file.
use Rattle.ingest_session.proofs.Prelude.{◌≡◌, ◌≤◌, ◌⊎◌, inl, inr, ◌∙◌, ℕ, Bool, true, false, List, [], ◌∷◌, ◌++◌, Some, IsSome, length, drop, map, refl, sym, ap, subst, arith, append-nil, append_assoc, length-append, reverse, drop-append_seam, and_parts, length-map, Kind, Leaf, Tree, Contents, Segment, Child, Top, Progress, ByCount, room_of, itself, nodes_of, of_segment, tree_of, nodes_come_in_order, Answer, Held, Absent, Sealed, Piece, Due, Seal, Nothing, HasTurn, due_in, due_node, end_due, item_due, item_is_there, item_kind, needs_no_step, puts_aside, queue_due, queue_is_there, turn_in, data_in, nodes_in, History, HasHistory, IsBegun, Pushed, Ended, Moved, Asked, Told, answered, held_by, moved, placed_resumed, turn, turn_of, SettleStep, Turned, Spelled, Advanced, Closed, PlacedNode, PlacedFront, SetAside, IsSession, SessionState, IsWhole, is_last, node_in_turn, turn_node, IsCutInto, IsAnswerFor, IsSettled, put_aside, set_aside, told_by}
use Rattle.std.proofs.Common.{not, if◌then◌else◌, Option, None}
use Rattle.std.proofs.lemmas.List.{reverse-append}
use Rattle.merkle_file.specs.Node as node
use Rattle.ingest_session.specs.History.{Begun, absent_by, sealed_by}
use Rattle.ingest_session.proofs.Agreeing.{Agrees, like}
use Rattle.ingest_session.proofs.Answering.{known}
use Rattle.ingest_session.proofs.CutOnce.{cut_alike}
use Rattle.ingest_session.proofs.Following.{AreFinished, IsBuilt, begun}
use Rattle.ingest_session.proofs.Growing.{few_pushed}
use Rattle.ingest_session.proofs.Puts.{puts_seal}
use Rattle.ingest_session.proofs.Replaying.{Core, IsLike, absent_alike_by, any_waits, aside_alike, aside_places_alike, core_of, finished_at, held_alike, places_alike_by, puts_alike, sealed_alike, session_at, told_alike, turn_at, unturned, waiting_turn}
use Rattle.ingest_session.proofs.Runs.{Apart, Came, IsSame, Point, Skips, Spot, Stays, Then, aside_on, place_on, skip_on, start, told_at}
use Rattle.ingest_session.proofs.Settled.{settles_by, settling_keeps}
use Rattle.ingest_session.proofs.Staying as staying
use Rattle.ingest_session.proofs.Waiting.{claimed_has_turn, on_and_off, session_of, waiting_has_turn}

-- ---- the session over a whole file agrees with one that is in it

-- The segments of a session are the first of some, and all of them where the file has ended.
pub record Extends (ended : Bool) (segments : List (List ℕ)) (s : SessionState) (h : History) : Type 0 where
  pub extra : List (List ℕ)
  pub all : segments ≡ (data_in h.placed ++ s.queue) ++ extra
  pub whole : s.ended ≡ true → (ended ≡ true) × (extra ≡ [])

finished_by : (b : Progress) (top : Option Top) (last : Bool) (segments : List (List ℕ)) (nodes : List node.Contents) → IsBuilt b top segments nodes
    → b.finished ≡ [] → IsWhole top last → (last ≡ true → IsSome top) → nodes ≡ finished_at last segments
finished_by b None false segments nodes is none whole closed =
    sym (append-nil nodes) ∙ ap (λ (ns : List node.Contents). nodes ++ ns) (sym none) ∙ is.nodes
finished_by b None true segments nodes is none whole closed = absurd (let some = closed refl in cc)
finished_by b (Some top) true segments nodes is none whole closed =
    sym (append-nil nodes) ∙ ap (λ (ns : List node.Contents). nodes ++ ns) (sym none) ∙ is.1
finished_by b (Some top) false segments nodes is none whole closed = absurd (cc)

-- the nodes that are finished are the first of all
more_by : (b : Progress) (top : Option Top) (segments : List (List ℕ)) (nodes : List node.Contents) → IsBuilt b top segments nodes → b.finished ≡ []
    → IsWhole top false → length segments ≤ room_of ByCount → (rest : List node.Contents) × (finished_at true segments ≡ nodes ++ rest)
more_by b None segments nodes is none whole few =
    let long = length-map segments of_segment in
    let whole_long = length-append (map of_segment segments) [] in
    let on = nodes_come_in_order b (map of_segment segments) [] nodes is (omega (arith, few, long, whole_long)) in (
      on.0,
      ap (λ (cs : List Child). nodes_of itself (tree_of ByCount itself cs)) (sym (append-nil (map of_segment segments)))
          ∙ on.1
          ∙ ap (λ (ns : List node.Contents). (nodes ++ ns) ++ on.0) none
          ∙ ap (λ (ns : List node.Contents). ns ++ on.0) (append-nil nodes),
    )
more_by b (Some top) segments nodes is none whole few = absurd (cc)

line_by : (other last : Bool) (segments : List (List ℕ)) (placed line : List node.Contents) → (last ≡ true → other ≡ true)
    → AreFinished last segments (placed ++ line) → length segments ≤ room_of ByCount
    → (more : List node.Contents) × (drop (length placed) (finished_at other segments) ≡ line ++ more) × (other ≡ last → more ≡ [])
line_by true true segments placed line on is few = (
  [],
  ap (drop (length placed)) (sym (finished_by is.built is.top true segments (placed ++ line) is.is is.none is.whole is.closed))
      ∙ drop-append_seam placed line ∙ sym (append-nil line),
  λ same. refl,
)
line_by false false segments placed line on is few = (
  [],
  ap (drop (length placed)) (sym (finished_by is.built is.top false segments (placed ++ line) is.is is.none is.whole is.closed))
      ∙ drop-append_seam placed line ∙ sym (append-nil line),
  λ same. refl,
)
line_by true false segments placed line on is few =
    let more = more_by is.built is.top segments (placed ++ line) is.is is.none is.whole few in (
      more.0,
      ap (drop (length placed)) (more.1 ∙ append_assoc placed line more.0) ∙ drop-append_seam placed (line ++ more.0),
      λ same. absurd (cc),
    )
line_by false true segments placed line on is few = absurd (let no = on refl in cc)

any_is : (waits : Bool) (turn : Kind) → any_waits (waiting_turn waits turn) ≡ waits
any_is true turn = refl
any_is false turn = refl

found_at : (ended : Bool) (segments : List (List ℕ)) (c : Core) (placed : List Piece) → c.waits ≡ None →
    (session_at ended segments c placed).turn ≡ turn_in (session_at ended segments c placed)
found_at ended segments c placed none = ap (λ (w : Option Kind). turn_at w (unturned ended segments c placed)) none

module _ (ended : Bool) (segments : List (List ℕ)) (s : SessionState) (h : History) (has : HasHistory s h) (extends : Extends ended segments s h) where
  abbrev pub over : SessionState
  over = session_at ended segments (core_of s) h.placed

  queue_on : over.queue ≡ s.queue ++ extends.extra
  queue_on =
      ap (drop (length (data_in h.placed))) (extends.all ∙ append_assoc (data_in h.placed) s.queue extends.extra)
      ∙ drop-append_seam (data_in h.placed) (s.queue ++ extends.extra)

  pub same_queue : s.ended ≡ true → (over.ended ≡ true) × (over.queue ≡ s.queue)
  same_queue end =
      let all = extends.whole end in
      (all.0, queue_on ∙ ap (λ (ss : List (List ℕ)). s.queue ++ ss) all.1 ∙ append-nil s.queue)

  last_on : is_last s.ended s.queue ≡ true → is_last over.ended over.queue ≡ true
  last_on last = go s.ended refl
    where
      go : (e : Bool) → s.ended ≡ e → is_last over.ended over.queue ≡ true
      go true end =
          let same = same_queue end in
          ap (is_last over.ended) same.1 ∙ ap (λ (b : Bool). is_last b s.queue) (same.0 ∙ sym end) ∙ last
      go false off = on_and_off _ last (ap (λ (b : Bool). is_last b s.queue) off)

  few_placed : length (data_in h.placed) ≤ room_of ByCount
  few_placed =
      let few = few_pushed s h.given h.placed (session_of s h has) (known s h has).follows in
      let long = length-append (data_in h.placed) (begun s.ahead s.queue) in omega (arith, few, long)

  agrees : Agrees s over
  agrees =
      let line = line_by (is_last over.ended over.queue) (is_last s.ended s.queue) (data_in h.placed) (nodes_in h.placed) s.line last_on
      (known s h has).follows.lined few_placed in
      record {
        leaves = refl;
        nodes = refl;
        aside = refl;
        waits = any_is s.waits s.turn;
        more = line.0;
        line = line.1;
        same = line.2;
        extra = extends.extra;
        queue = queue_on;
        ended = same_queue;
        waiting = λ on. ap (λ (w : Bool). turn_at (waiting_turn w s.turn) (unturned ended segments (core_of s) h.placed)) on;
        found = λ off. found_at ended segments (core_of s) h.placed (ap (λ (w : Bool). waiting_turn w s.turn) off);
      }

  pub like_over : (s.waits ≡ false → s.turn ≡ turn_in s) → (turn s ≡ [] → (over.ended ≡ s.ended) × (over.queue ≡ s.queue)) → IsLike s over
  like_over right at_end = like s over agrees right at_end

-- ---- calls leave the segments as they are

pub cut_same : (s t : SessionState) (h g : History) → HasHistory s h → HasHistory t g → h.given ≡ g.given → s.ended ≡ t.ended →
    data_in h.placed ++ s.queue ≡ data_in g.placed ++ t.queue
cut_same s t h g has gas given ended =
    cut_alike t.ended g.given (data_in h.placed ++ s.queue) (data_in g.placed ++ t.queue) s.hand t.hand
    (subst (λ (e : Bool). IsCutInto e g.given (data_in h.placed ++ s.queue) s.hand) ended
    (subst (λ (b : List ℕ). IsCutInto s.ended b (data_in h.placed ++ s.queue) s.hand) given (known s h has).follows.cut))
    (known t g gas).follows.cut (session_of s h has).uncut (session_of t g gas).uncut

extends_same : (ended : Bool) (segments : List (List ℕ)) (s t : SessionState) (h g : History) → HasHistory s h → HasHistory t g → h.given ≡ g.given →
    s.ended ≡ t.ended → Extends ended segments t g → Extends ended segments s h
extends_same ended segments s t h g has gas given same extends = record {
  extra = extends.extra;
  all = extends.all ∙ ap (λ (ss : List (List ℕ)). ss ++ extends.extra) (sym (cut_same s t h g has gas given same));
  whole = λ end. extends.whole (sym same ∙ end);
}

-- more segments are in the queue
extends_more : (ended : Bool) (segments : List (List ℕ)) (s t : SessionState) (h g : History) (more : List (List ℕ)) → t.queue ≡ s.queue ++ more →
    g.placed ≡ h.placed → s.ended ≡ false → Extends ended segments t g → Extends ended segments s h
extends_more ended segments s t h g more queue placed off extends = record {
  extra = more ++ extends.extra;
  all = extends.all
      ∙ ap (λ (ps : List Piece). (data_in ps ++ t.queue) ++ extends.extra) placed
      ∙ ap (λ (ss : List (List ℕ)). (data_in h.placed ++ ss) ++ extends.extra) queue
      ∙ ap (λ (ss : List (List ℕ)). ss ++ extends.extra) (sym (append_assoc (data_in h.placed) s.queue more))
      ∙ append_assoc (data_in h.placed ++ s.queue) more extends.extra;
  whole = λ end. on_and_off s.ended end off;
}

-- ---- an answer at the end

open_end : (b : Bool) (kind : Kind) (due : Due) → (if not b then Nothing else due) ≡ Seal kind → b ≡ true
open_end true kind due is = refl
open_end false kind due is = absurd (cc)

no_turn : (n : Option node.Contents) (queue : List (List ℕ)) → turn_of n queue ≡ [] → HasTurn n queue → ⊥
no_turn (Some n) queue none has = cc
no_turn None [] none has = has
no_turn None (x ∷ xs) none has = cc

seals_at_end : (s : SessionState) (waits : Bool) (n : Option node.Contents) (queue : List (List ℕ)) (kind : Kind) → s.waits ≡ waits → s.queue ≡ queue
    → turn_of n queue ≡ [] → (if waits then Seal (item_kind n) else item_due s n) ≡ Seal kind → (s.waits ≡ true) ⊎ (s.ended ≡ true)
seals_at_end s true n queue kind on queue_is none is = inl on
seals_at_end s false (Some n) queue kind off queue_is none is = absurd (cc)
seals_at_end s false None [] kind off queue_is none is =
    let ends : end_due s ≡ Seal kind = sym (ap (queue_due s) queue_is) ∙ is in inr (open_end s.ended kind _ ends)
seals_at_end s false None (x ∷ xs) kind off queue_is none is = absurd (cc)

-- the item that is due has its turn
turned_step : (s : SessionState) → (s.waits ≡ false → s.turn ≡ turn_in s) → (waits : Bool) → s.waits ≡ waits → (due : Due) → due_in s ≡ due →
    (if waits then Seal (item_kind (turn_node s)) else item_due s (turn_node s)) ≡ due
turned_step s right true on due is = sym (ap (λ (w : Bool). if w then Seal (item_kind (turn_node s)) else item_due s (due_node s)) on) ∙ is
turned_step s right false off due is =
    ap (λ (k : Kind). item_due s (node_in_turn k s.line)) (right off)
    ∙ sym (ap (λ (w : Bool). if w then Seal (item_kind (turn_node s)) else item_due s (due_node s)) off)
    ∙ is

-- where no item has its turn, a seal is due only after the end
sealed_at_end : (s : SessionState) (kind : Kind) → IsSession s → (s.waits ≡ false → s.turn ≡ turn_in s) → due_in s ≡ Seal kind → turn s ≡ [] → s.ended ≡ true
sealed_at_end s kind is right due none =
    elim (seals_at_end s s.waits (turn_node s) s.queue kind refl refl none (turned_step s right s.waits refl (Seal kind) due)) [
      | inl on ↦ absurd (no_turn (turn_node s) s.queue none (waiting_has_turn s is on))
      | inr ended ↦ ended
    ]

-- and so is an answer told
answered_at_end : (s : SessionState) (answer : Answer) → IsSession s → IsSettled s → IsAnswerFor answer s → turn s ≡ [] → s.ended ≡ true
answered_at_end s Held is settled right none = absurd (no_turn (turn_node s) s.queue none (claimed_has_turn s settled right))
answered_at_end s Absent is settled right none = absurd (no_turn (turn_node s) s.queue none (claimed_has_turn s settled right))
answered_at_end s (Sealed id count) is settled right none = sealed_at_end s right.0 is settled.placed.turn right.1 none
answered_at_end s other is settled right none = absurd right

-- ---- all calls

module _ (ended : Bool) (segments : List (List ℕ)) where
  -- how far a session came
  abbrev pub spot_of : SessionState → History → Spot
  spot_of s h = record { core = core_of s; placed = h.placed }

  -- The answers come to a point from which items that need no step were put in their place, and containers were set aside.
  pub record Reaches (s : SessionState) (h : History) : Type 0 where
    pub from : Point
    pub came : Came ended segments (reverse h.answers) from
    pub skips : Skips ended segments from.spot (spot_of s h)
    pub held : (kind : Kind) → h.held kind ≡ from.held kind
    pub absent : (kind : Kind) → h.absent kind ≡ from.absent kind
    pub sealed : (kind : Kind) → h.sealed kind ≡ from.sealed kind

  contents_are : (c : Contents) (kind : Kind) → c.kind ≡ kind → c.segments ≡ [] → ◌≡◌ {A = Contents} c (record { kind = kind; segments = [] })
  contents_are c kind is none =
      ap (λ (k : Kind). record { kind = k; segments = c.segments }) is ∙ ap (λ (ss : List Segment). record { kind = kind; segments = ss }) none

  begun_core : (s : SessionState) → IsSession s → IsBegun s → core_of s ≡ start
  begun_core s is begun =
      ap (λ (w : Bool). record { leaves = s.leaves; nodes = s.nodes; aside = s.aside; waits = waiting_turn w s.turn }) begun.waits
      ∙ ap (λ (cs : List Contents). record { leaves = s.leaves; nodes = s.nodes; aside = cs; waits = None }) begun.aside
      ∙ ap (λ (c : Contents). record { leaves = c; nodes = s.nodes; aside = []; waits = None }) (contents_are s.leaves Leaf is.data_kind begun.leaves)
      ∙ ap (λ (c : Contents). record { leaves = record { kind = Leaf; segments = [] }; nodes = c; aside = []; waits = None })
      (contents_are s.nodes Tree is.tree_kind begun.nodes)

  -- a call that puts nothing in its place
  same_reach : (s t : SessionState) (h g : History) → core_of t ≡ core_of s → g.placed ≡ h.placed → g.answers ≡ h.answers →
      ((kind : Kind) → g.held kind ≡ h.held kind) → ((kind : Kind) → g.absent kind ≡ h.absent kind) →
      ((kind : Kind) → g.sealed kind ≡ h.sealed kind) → Reaches s h → Reaches t g
  same_reach s t h g core placed answers held absent sealed before = record {
    from = before.from;
    came = subst (λ (told : List Answer). Came ended segments (reverse told) before.from) (sym answers) before.came;
    skips = subst (Skips ended segments before.from.spot) (sym (same_spot s t h g core placed)) before.skips;
    held = λ kind. held kind ∙ before.held kind;
    absent = λ kind. absent kind ∙ before.absent kind;
    sealed = λ kind. sealed kind ∙ before.sealed kind;
  }
    where
      same_spot : (s t : SessionState) (h g : History) → core_of t ≡ core_of s → g.placed ≡ h.placed → spot_of t g ≡ spot_of s h
      same_spot s t h g core placed =
          ap (λ (c : Core). let x : Spot = record { core = c; placed = g.placed } in x) core
          ∙ ap (λ (ps : List Piece). let x : Spot = record { core = core_of s; placed = ps } in x) placed

  -- a move, to what follows in the session over a whole file
  moved_on : (s t : SessionState) (h : History) (more : List Piece) → Skips ended segments (spot_of s h) (spot_of t (record h { placed = h.placed ++ more }))
      → Reaches s h → Reaches t (record h { placed = h.placed ++ more })
  moved_on s t h more skips before = record {
    from = before.from;
    came = before.came;
    skips = skip_on ended segments before.from.spot (spot_of s h) (spot_of t (record h { placed = h.placed ++ more })) before.skips skips;
    held = before.held;
    absent = before.absent;
    sealed = before.sealed;
  }

  there_turn : (s : SessionState) (n : Option node.Contents) (queue : List (List ℕ)) → turn_node s ≡ n → s.queue ≡ queue → needs_no_step s ≡ true →
      turn_of n queue ≡ [] → ⊥
  there_turn s (Some n) queue which queue_is there none = cc
  there_turn s None [] which queue_is there none =
      let no : false ≡ true = sym (ap (queue_is_there s) queue_is) ∙ sym (ap (item_is_there s) which) ∙ (and_parts _ _ there).1 in cc
  there_turn s None (x ∷ xs) which queue_is there none = cc

  -- a move that puts the item in its place
  there_reach : (s t : SessionState) (h : History) → HasHistory s h → Extends ended segments s h → needs_no_step s ≡ true → s.turn ≡ turn_in s
      → core_of t ≡ core_of s → Reaches s h → Reaches t (record h { placed = h.placed ++ turn s })
  there_reach s t h has extends there right core before =
      let alike = like_over ended segments s h has extends (λ off. right) (λ none. absurd (there_turn s (turn_node s) s.queue refl refl there none)) in
      let on : place_on ended segments (spot_of s h) ≡ spot_of t (record h { placed = h.placed ++ turn s }) =
      ap (λ (ps : List Piece). let x : Spot = record { core = core_of s; placed = h.placed ++ ps } in x) alike.pieces
      ∙ ap (λ (c : Core). let x : Spot = record { core = c; placed = h.placed ++ turn s } in x) (sym core) in
      moved_on s t h (turn s) (Then (spot_of s h) _ (alike.there ∙ there) (subst (Skips ended segments (place_on ended segments (spot_of s h))) on (Stays _))) before

  -- a container is set aside
  aside_reach : (s t : SessionState) (h : History) → HasHistory s h → Extends ended segments s h → needs_no_step s ≡ false → (s.waits ≡ false → s.turn ≡ turn_in s)
      → puts_aside s ≡ true → t ≡ set_aside s → Reaches s h → Reaches t (record h { placed = h.placed ++ placed_resumed (put_aside s) })
  aside_reach s t h has extends some right puts is before =
      let at_end : turn s ≡ [] → ((over ended segments s h has extends).ended ≡ s.ended) × ((over ended segments s h has extends).queue ≡ s.queue) = λ none.
      (let end = sealed_at_end s Leaf (session_of s h has) right (puts_seal s puts) none in
      let same = same_queue ended segments s h has extends end in (same.0 ∙ sym end, same.1)) in
      let alike = like_over ended segments s h has extends right at_end in
      let on : aside_on ended segments (spot_of s h) ≡ spot_of t (record h { placed = h.placed ++ placed_resumed (put_aside s) }) =
      ap (λ (c : Core). let x : Spot = record { core = c; placed = (aside_on ended segments (spot_of s h)).placed } in x)
      (aside_alike s (over ended segments s h has extends) alike ∙ sym (ap core_of is))
      ∙ ap (λ (ps : List Piece). let x : Spot = record { core = core_of t; placed = h.placed ++ ps } in x)
      (aside_places_alike s (over ended segments s h has extends) alike) in
      moved_on s t h (placed_resumed (put_aside s))
      (Apart (spot_of s h) _ (alike.there ∙ some) (puts_alike s (over ended segments s h has extends) alike ∙ puts)
      (subst (Skips ended segments (aside_on ended segments (spot_of s h))) on (Stays _))) before

  -- an answer, told to a session that is settled
  pub told_reach : (s : SessionState) (h : History) (answer : Answer) → HasHistory s h → Extends ended segments s h → IsSettled s → IsAnswerFor answer s
      → Reaches s h → Reaches (told_by answer s) (answered answer s h)
  told_reach s h answer has extends settled right before =
      let at_end : turn s ≡ [] → ((over ended segments s h has extends).ended ≡ s.ended) × ((over ended segments s h has extends).queue ≡ s.queue) = λ none.
      (let end = answered_at_end s answer (session_of s h has) settled right none in
      let same = same_queue ended segments s h has extends end in (same.0 ∙ sym end, same.1)) in
      let there = over ended segments s h has extends in
      let alike = like_over ended segments s h has extends settled.placed.turn at_end in
      let new = answered answer s h in
      let point : Point = record { spot = spot_of (told_by answer s) new; held = new.held; absent = new.absent; sealed = new.sealed } in
      let same : IsSame point (told_at ended segments answer (record before.from { spot = spot_of s h })) =
      record {
        spot =
            ap (λ (c : Core). let x : Spot = record { core = c; placed = new.placed } in x) (sym (told_alike s there answer alike right))
            ∙ ap (λ (ps : List Piece). let x : Spot = record { core = core_of (told_by answer there); placed = h.placed ++ ps } in x)
            (sym (places_alike_by s there answer alike right));
        held = λ kind.
            ap (λ (ss : List Segment). ss ++ held_by kind answer s) (before.held kind)
            ∙ ap (λ (ss : List Segment). before.from.held kind ++ ss) (sym (held_alike kind s there answer alike));
        absent = λ kind.
            ap (λ (ss : List Segment). ss ++ absent_by kind answer s) (before.absent kind)
            ∙ ap (λ (ss : List Segment). before.from.absent kind ++ ss) (sym (absent_alike_by kind s there answer alike));
        sealed = λ kind.
            ap (λ (ss : List Segment). ss ++ sealed_by kind answer s) (before.sealed kind)
            ∙ ap (λ (ss : List Segment). before.from.sealed kind ++ ss) (sym (sealed_alike kind s there answer alike));
      } in
      let came : Came ended segments (answer ∷ reverse h.answers) point = (
        before.from,
        spot_of s h,
        before.came,
        before.skips,
        record { none = alike.there ∙ settled.placed.none; aside = puts_alike s there alike ∙ settled.aside },
        same,
      ) in
      record {
        from = point;
        came = subst (λ (told : List Answer). Came ended segments told point) (sym (reverse-append h.answers (answer ∷ []))) came;
        skips = Stays point.spot;
        held = λ kind. refl;
        absent = λ kind. refl;
        sealed = λ kind. refl;
      }

  nothing_more : (s : SessionState) (h : History) → Reaches s h → Reaches s (record h { placed = h.placed ++ [] })
  nothing_more s h before =
      same_reach s s h (record h { placed = h.placed ++ [] }) refl (append-nil h.placed) refl (λ kind. refl) (λ kind. refl) (λ kind. refl) before

  moved_reach : (s t : SessionState) (h : History) (step : SettleStep s t) → HasHistory s h → Extends ended segments s h → Reaches s h
      → Reaches t (record h { placed = h.placed ++ moved step })
  moved_reach s t h (Turned _ _ off is) has extends before =
      let core : core_of t ≡ core_of s =
      ap core_of is
      ∙ ap (λ (w : Bool). record { leaves = s.leaves; nodes = s.nodes; aside = s.aside; waits = waiting_turn w (turn_in s) }) off
      ∙ sym (ap (λ (w : Bool). record { leaves = s.leaves; nodes = s.nodes; aside = s.aside; waits = waiting_turn w s.turn }) off) in
      nothing_more t h (same_reach s t h h core refl refl (λ kind. refl) (λ kind. refl) (λ kind. refl) before)
  moved_reach s t h (Spelled _ _ is) has extends before =
      nothing_more t h (same_reach s t h h (ap core_of is) refl refl (λ kind. refl) (λ kind. refl) (λ kind. refl) before)
  moved_reach s t h (Advanced _ _ is) has extends before =
      nothing_more t h (same_reach s t h h (ap core_of is.others) refl refl (λ kind. refl) (λ kind. refl) (λ kind. refl) before)
  moved_reach s t h (Closed _ _ is) has extends before =
      nothing_more t h (same_reach s t h h (ap core_of is.others) refl refl (λ kind. refl) (λ kind. refl) (λ kind. refl) before)
  moved_reach s t h (PlacedNode _ _ there right some is) has extends before = there_reach s t h has extends there right (ap core_of is) before
  moved_reach s t h (PlacedFront _ _ there right empty is) has extends before = there_reach s t h has extends there right (ap core_of is) before
  moved_reach s t h (SetAside _ _ sound some right puts is) has extends before = aside_reach s t h has extends some right puts is before

  pub reaches : (s : SessionState) (h : History) → HasHistory s h → Extends ended segments s h → Reaches s h
  reaches s _ (Begun _ is begun) extends = record {
    from = record { spot = record { core = core_of s; placed = [] }; held = λ kind. []; absent = λ kind. []; sealed = λ kind. [] };
    came = record {
      spot = ap (λ (c : Core). let x : Spot = record { core = c; placed = [] } in x) (begun_core s is begun);
      held = λ kind. refl;
      absent = λ kind. refl;
      sealed = λ kind. refl;
    };
    skips = Stays (record { core = core_of s; placed = [] });
    held = λ kind. refl;
    absent = λ kind. refl;
    sealed = λ kind. refl;
  }
  reaches t _ (Pushed s _ h bytes has _ is) extends =
      same_reach s t h (record h { given = h.given ++ bytes }) (ap core_of is.others) refl refl (λ kind. refl) (λ kind. refl) (λ kind. refl)
      (reaches s h has (extends_more ended segments s t h (record h { given = h.given ++ bytes }) is.more is.queue refl is.ongoing extends))
  reaches t h (Ended s _ _ has _ is) extends =
      same_reach s t h h (ap core_of is.others) refl refl (λ kind. refl) (λ kind. refl) (λ kind. refl)
      (reaches s h has (extends_more ended segments s t h h _ is.queue refl is.ongoing extends))
  reaches t h (Asked s _ _ has after is) extends =
      same_reach s t h h (ap core_of is) refl refl (λ kind. refl) (λ kind. refl) (λ kind. refl)
      (reaches s h has (extends_same ended segments s t h h has (Asked s t h has after is) refl (sym (ap (λ (u : SessionState). u.ended) is)) extends))
  reaches t _ (Moved s _ h has after step) extends =
      let before = extends_same ended segments s t h (record h { placed = h.placed ++ moved step }) has (Moved s t h has after step) refl
      (sym (settling_keeps s t (settles_by after step)).ended) extends in
      moved_reach s t h step has before (reaches s h has before)
  reaches _ _ (Told s answer h has after settled asked is some) extends =
      let before = extends_same ended segments s (told_by answer s) h (answered answer s h) has (Told s answer h has after settled asked is some) refl
      (sym (staying.told answer s).ended) extends in
      told_reach s h answer has before settled is (reaches s h has before)

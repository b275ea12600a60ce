-- A session of which nothing is due is settled, once whose turn it is was found.
use Rattle.script_runner.proofs.Prelude.{◌≡◌, ◌∙◌, ℕ, Bool, true, false, if◌then◌else◌, List, [], ◌∷◌, ◌++◌, Option, Some, None, refl, sym, ap, subst, ◌&&◌, Kind, Leaf, Tree, KindSegment, leaf_key, node_key, Due, Claim, Seal, Nothing, due_in, gathered, History, HasHistory, SessionState, turn_node}
use Rattle.std.specs.Prelude.{not, nat_lt, ◌==◌, length}
use Rattle.actor_parts.specs.declared.step.TheConstants.{MOST_TOGETHER}
use Rattle.merkle_file.specs.Node as node
use Rattle.container_meta.specs.Segments.{has_key}
use Rattle.actor_parts.specs.Segments.{child_kind}
use Rattle.ingest_session.specs.Child.{has_child_of}
use Rattle.ingest_session.specs.Due.{HasTurn, due_node, item_due, item_is_there, item_kind, queue_due, queue_is_there, seals_data, turn_in}
use Rattle.ingest_session.specs.History.{Moved}
use Rattle.ingest_session.specs.Settling.{Turned}
use Rattle.ingest_session.specs.Sound.{IsSession}
use Rattle.ingest_session.specs.State.{is_last, rest_after}
use Rattle.ingest_session.specs.Told.{IsSettled}
use Rattle.ingest_session.proofs.Waiting.{on_and_off}

no_wait : (waits : Bool) (kind : Kind) (due : Due) → (if waits then Seal kind else due) ≡ Nothing → due ≡ Nothing
no_wait true kind due is = absurd cc
no_wait false kind due is = is

no_claim : (b : Bool) (kind : Kind) → (if b then Seal kind else Claim) ≡ Nothing → ⊥
no_claim true kind is = cc
no_claim false kind is = cc

no_node : (child own : Bool) (kind : Kind) → (if child then Seal kind else if own then Seal Tree else Claim) ≡ Nothing → ⊥
no_node true own kind is = cc
no_node false own kind is = no_claim own Tree is

no_queue : (s : SessionState) (queue : List (List ℕ)) → queue_due s queue ≡ Nothing → queue ≡ []
no_queue s [] is = refl
no_queue s (x ∷ xs) is = absurd (no_claim (has_key (gathered s Leaf) (leaf_key x)) Leaf is)

no_item : (s : SessionState) (n : Option node.Contents) → item_due s n ≡ Nothing → (n ≡ None) × (s.queue ≡ [])
no_item s (Some n) is = absurd (no_node (has_child_of (gathered s (child_kind n.level)) n) (has_key s.nodes (node_key n)) (child_kind n.level) is)
no_item s None is = (refl, no_queue s s.queue is)

no_last : (ahead : Option KindSegment) (queue : List (List ℕ)) → queue ≡ [] → rest_after ahead queue ≡ []
no_last None queue is = is
no_last (Some seg) queue is = ap (rest_after (Some seg)) is

and_not : (a b : Bool) → b ≡ false → (a && b) ≡ false
and_not true b is = is
and_not false b is = refl

-- whose turn it is, was found: then no item has it
abbrev pub idle : SessionState → SessionState
idle s = record s { turn = turn_in s }

no_seal : (waits : Bool) (kind : Kind) (due : Due) → (if waits then Seal kind else due) ≡ Nothing → waits ≡ false
no_seal true kind due is = absurd cc
no_seal false kind due is = refl

module _ (s : SessionState) (sound : IsSession s) (nothing : due_in s ≡ Nothing) where
  none : (due_node s ≡ None) × (s.queue ≡ [])
  none = no_item s (due_node s) (no_wait s.waits (item_kind (turn_node s)) (item_due s (due_node s)) nothing)

  off : s.waits ≡ false
  off = no_seal s.waits (item_kind (turn_node s)) (item_due s (due_node s)) nothing

  never : {A : Type 0} → s.waits ≡ true → A
  never on = on_and_off s.waits on off

  pub idle_sound : IsSession (idle s)
  idle_sound = record {
    data_kind = sound.data_kind;
    tree_kind = sound.tree_kind;
    few = sound.few;
    hand = sound.hand;
    uncut = sound.uncut;
    least = sound.least;
    limit = sound.limit;
    room = sound.room;
    at_end = sound.at_end;
    sized = sound.sized;
    ahead = sound.ahead;
    spelled = sound.spelled;
    building = record { bytes = sound.building.bytes; long = sound.building.long; counted = sound.building.counted };
    whole = sound.whole;
    closed = sound.closed;
    next = sound.next;
    line = sound.line;
    nodes_right = sound.nodes_right;
    aside = sound.aside;
    together = sound.together;
    waits = λ on. never on;
    full = λ on. never on;
  }

  pub idle_has : (h : History) → HasHistory s h → HasHistory (idle s) (record h { placed = h.placed ++ [] })
  idle_has h has = Moved s (idle s) h has idle_sound (Turned s (idle s) off refl)

  pub idle_due : due_in (idle s) ≡ Nothing
  idle_due =
      ap (λ (w : Bool). if w then Seal (item_kind (turn_node (idle s))) else item_due s (due_node s)) off
      ∙ no_wait s.waits (item_kind (turn_node s)) (item_due s (due_node s)) nothing

  no_turn : HasTurn (due_node s) s.queue → ⊥
  no_turn turn =
      let first : HasTurn None s.queue = subst (λ (n : Option node.Contents). HasTurn n s.queue) none.0 turn in
      subst (λ (queue : List (List ℕ)). HasTurn None queue) none.1 first

  not_there : item_is_there s (due_node s) ≡ false
  not_there = ap (item_is_there s) none.0 ∙ ap (queue_is_there s) none.1

  pub settled_idle : IsSettled (idle s)
  settled_idle = record {
    placed = record {
      turn = λ _. refl;
      none = and_not (not s.waits) (item_is_there s (due_node s)) not_there;
      item = λ turn. absurd (no_turn turn);
      claim = λ due. absurd (let both = sym due ∙ idle_due in cc);
      closed = λ first last. sound.closed (ap (is_last s.ended) (none.1 ∙ sym (no_last s.ahead s.queue none.1)) ∙ last);
    };
    aside = ap (λ (d : Due). seals_data d && (not (length s.leaves.segments == 0) && nat_lt (length s.aside) MOST_TOGETHER)) idle_due;
  }

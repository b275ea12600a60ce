-- What is known of a session with a history, and that the children of a node which is claimed are kept.
use Rattle.ingest_session.proofs.Prelude.{◌≡◌, ◌≤◌, ◌⊎◌, ◌∙◌, ◌+◌, ◌-◌, ℕ, Bool, true, false, List, [], ◌∷◌, Some, map, inl, inr, refl, sym, ap, subst, arith, AllByRecursion, list_any, ne_eqb, key_of, kind_byte, Kind, Leaf, Tree, KindSegment, Segment, has_key, segment_key, Child, IsNode, HasCome, of_segment, child_kind, children_by, node_segment, Piece, Data, Node, piece_segment, leaf_key, node_key, gathered, IsKept, IsKeptChild, data_in, nodes_in, first_of, History, IsSession, SessionState, turn_node}
use Rattle.std.specs.Prelude.{if◌then◌else◌}
use Rattle.merkle_file.specs.Node as node
use Rattle.merkle_file.specs.Node.{node_digest, total}
use Rattle.merkle_file.specs.Tree.{parent}
use Rattle.merkle_file.proofs.InPlace.{read_again}
use Rattle.actor_parts.specs.Segments.{child_pin, pin_by}
use Rattle.ingest_session.specs.Due.{child_is_open}
use Rattle.ingest_session.proofs.Following.{Follows, taken_of}
use Rattle.ingest_session.proofs.Growing.{children_are_placed, nodes_right}
use Rattle.ingest_session.proofs.InLine.{first_and_rest}
use Rattle.ingest_session.proofs.Members.{IsIn, all_map, any_first, data_is_placed, in_first, in_left, in_map, in_right, key_there, node_is_placed}
use Rattle.ingest_session.proofs.Waiting.{on_and_off}

-- what a container has of a piece is kept, or is still to be sealed
abbrev pub IsStored : SessionState → History → KindSegment → Type 0
IsStored s h seg = IsKept h seg.kind seg.segment ⊎ IsIn seg.segment (gathered s seg.kind).segments

-- it is that of a piece
abbrev pub IsOfPiece : List Piece → KindSegment → Type 0
IsOfPiece placed seg = (p : Piece) × IsIn p placed × (seg ≡ piece_segment p)

-- the children of a node are kept
abbrev pub HasChildren : History → Segment → Type 0
HasChildren h x = AllByRecursion (IsKeptChild h) (children_by Tree x)

pub record Knows (s : SessionState) (h : History) : Type 0 where
  pub follows : Follows s h.given h.placed
  pub stored : (p : Piece) → IsIn p h.placed → IsStored s h (piece_segment p)
  pub opens : (kind : Kind) (x : Segment) → IsIn x (gathered s kind).segments → IsOfPiece h.placed (record { kind = kind; segment = x })
  pub children : (x : Segment) → IsIn x s.nodes.segments → HasChildren h x
  pub waiting : (n : node.Contents) → s.waits ≡ true → (turn_node s) ≡ Some n → HasChildren h (node_segment n).segment

-- ---- children

kind_above : (level : ℕ) → 1 ≤ level → child_kind (level + 1) ≡ Tree
kind_above level above =
    ap (λ (b : Bool). if b then Leaf else Tree) (ne_eqb (level + 1) 1 (λ is. omega (arith, above, is)))

module _ (s : SessionState) (h : History) (knows : Knows s h) (is : IsSession s) where
  leaf_is_kept : (x : List ℕ) → IsIn (Data x) h.placed → has_key (gathered s Leaf) (leaf_key x) ≡ false → IsKeptChild h (child_pin 1 (of_segment x))
  leaf_is_kept x placed unheld =
      let segment : Segment = record { level = 0; bytes = x } in
      elim (knows.stored (Data x) placed) [
        | inl kept ↦ (Leaf, segment, kept, refl, refl)
        | inr there ↦ on_and_off _ (ap (λ (k : Kind). has_key (gathered s Leaf) (segment_key k segment)) (sym is.data_kind) ∙ key_there (gathered s Leaf) segment there) unheld
      ]

  node_is_kept : (m : node.Contents) → IsIn (Node m) h.placed → IsNode m → 1 ≤ m.level → has_key s.nodes (node_key m) ≡ false →
      IsKeptChild h (child_pin (m.level + 1) (parent m))
  node_is_kept m placed right above unheld =
      let segment : Segment = (node_segment m).segment in
      let key : segment_key Tree segment ≡ (child_pin (m.level + 1) (parent m)).key =
      ap (λ (k : Kind). key_of (kind_byte k) (node_digest m)) (sym (kind_above m.level above)) in
      let level : m.level ≡ (m.level + 1) - 1 = omega arith in
      let pin : pin_by Tree segment ≡ (child_pin (m.level + 1) (parent m)).pin =
      ap (λ (n : node.Contents). record { level = m.level; length = total n.children }) (read_again m right).1
      ∙ ap (λ (l : ℕ). record { level = l; length = total m.children }) level in
      elim (knows.stored (Node m) placed) [
        | inl kept ↦ (Tree, segment, kept, key, pin)
        | inr there ↦ on_and_off _ (ap (λ (k : Kind). has_key s.nodes (segment_key k segment)) (sym is.tree_kind) ∙ key_there s.nodes segment there) unheld
      ]

  child_is_kept : (level : ℕ) (c : Child) → HasCome (map of_segment (data_in h.placed)) (nodes_in h.placed) level c →
      has_key (gathered s (child_kind level)) (key_of (kind_byte (child_kind level)) c.digest) ≡ false → IsKeptChild h (child_pin level c)
  child_is_kept level c (inl leaf) unheld =
      let found = in_map of_segment (data_in h.placed) c leaf.1 in
      let this : has_key (gathered s Leaf) (leaf_key found.0) ≡ false =
      subst (λ (d : Child). has_key (gathered s Leaf) (key_of (kind_byte Leaf) d.digest) ≡ false) (sym found.2)
      (subst (λ (l : ℕ). has_key (gathered s (child_kind l)) (key_of (kind_byte (child_kind l)) c.digest) ≡ false) leaf.0 unheld) in
      subst (λ (l : ℕ). IsKeptChild h (child_pin l c)) (sym leaf.0)
      (subst (λ (d : Child). IsKeptChild h (child_pin 1 d)) found.2
      (leaf_is_kept found.0 (data_is_placed h.placed found.0 found.1) this))
  child_is_kept level c (inr come) unheld =
      let m = come.0 in
      let there : IsIn m (nodes_in h.placed) = (come.1, come.2) in
      let right = nodes_right s h.given h.placed is knows.follows m
      (in_left (taken_of s h.placed) s.built.finished m (in_left (nodes_in h.placed) s.line m there)) in
      let this : has_key s.nodes (node_key m) ≡ false =
      subst (λ (k : Kind). has_key (gathered s k) (key_of (kind_byte k) (node_digest m)) ≡ false) (kind_above m.level come.3)
      (subst (λ (d : Child). has_key (gathered s (child_kind (m.level + 1))) (key_of (kind_byte (child_kind (m.level + 1))) d.digest) ≡ false) (sym come.5)
      (subst (λ (l : ℕ). has_key (gathered s (child_kind l)) (key_of (kind_byte (child_kind l)) c.digest) ≡ false) come.4 unheld)) in
      subst (λ (l : ℕ). IsKeptChild h (child_pin l c)) (sym come.4)
      (subst (λ (d : Child). IsKeptChild h (child_pin (m.level + 1) d)) come.5
      (node_is_kept m (node_is_placed h.placed m there) right come.3 this))

  all_are_kept : (level : ℕ) (cs : List Child) → AllByRecursion (HasCome (map of_segment (data_in h.placed)) (nodes_in h.placed) level) cs →
      list_any (λ (c : Child). has_key (gathered s (child_kind level)) (key_of (kind_byte (child_kind level)) c.digest)) cs ≡ false →
      AllByRecursion (λ (c : Child). IsKeptChild h (child_pin level c)) cs
  all_are_kept level [] come unheld = tt
  all_are_kept level (c ∷ cs) come unheld =
      let parts = any_first (λ (d : Child). has_key (gathered s (child_kind level)) (key_of (kind_byte (child_kind level)) d.digest)) c cs unheld in
      (child_is_kept level c come.0 parts.0, all_are_kept level cs come.1 parts.1)

  -- The children of the first node in line are kept, where none is still to be sealed.
  pub children_are_kept : (n : node.Contents) → first_of s.line ≡ Some n → child_is_open s n ≡ false →
      HasChildren h (node_segment n).segment
  children_are_kept n first unheld =
      let rest = first_and_rest s.line n first in
      let there : IsIn n s.line = subst (IsIn n) (sym rest.1) (in_first n rest.0) in
      let right = nodes_right s h.given h.placed is knows.follows n
      (in_left (taken_of s h.placed) s.built.finished n (in_right (nodes_in h.placed) s.line n there)) in
      let come = children_are_placed s h.given h.placed is knows.follows n first in
      subst (λ (m : node.Contents). AllByRecursion (IsKeptChild h) (map (child_pin n.level) m.children)) (sym (read_again n right).1)
      (all_map (IsKeptChild h) (child_pin n.level) n.children (all_are_kept n.level n.children come unheld))

-- What an image keeps of the segments that a store holds, where the slots are as they were.
use Rattle.store_model.proofs.Prelude.{◌≡◌, ℕ, ◌+◌, ◌≤◌, List, [], ◌∷◌, ◌++◌, length, Option, Some, None, sym, ◌∙◌, subst, arith, AllByRecursion, sum_by-append, sum_by-cons, Entry, Kind, HeaderValue, IsHeader, bytes_of, spelling, Trees, contents_of, Named, AreHeaders, leaf_key, node_key, HasNewest, HoldsTree, HoldsTrees, entry_bytes, IsOfKind, AreNodes, IsFileOf, IsAmong, AreAmong}
use Rattle.container_meta.specs.Spelling.{Follow}
use Rattle.merkle_file.specs.Tree as tree
use Rattle.merkle_file.specs.Tree.{Tree}
use Rattle.store_model.proofs.Copies.{data_within, newest_within}
use Rattle.store_model.proofs.Frames.{SameSlot, SameSlots, place_kept, copy_kept}

-- ---- the bytes of entries

module _ (slot : ℕ) (old new : List ℕ) (same : SameSlot slot old new) where
  so_from : (So : Entry → List ℕ → Type 0) (kind : Kind) (before entries : List Entry) → Follow kind before entries → bytes_of before + bytes_of entries ≤ 212480
      → AllByRecursion (λ e. So e (entry_bytes slot e old)) entries → AllByRecursion (λ e. So e (entry_bytes slot e new)) entries
  so_from So kind before [] follow few all = tt
  so_from So kind before (e ∷ es) follow few all =
      let here : entry_bytes slot e new ≡ entry_bytes slot e old =
      place_kept slot old new same e.offset e.length (omega (arith, follow.0.offset, few, sum_by-cons (λ (y : Entry). y.length) e es)) in
      let more : bytes_of (before ++ e ∷ []) + bytes_of es ≤ 212480 =
      omega (arith, few, sum_by-cons (λ (y : Entry). y.length) e es, sum_by-append (λ (y : Entry). y.length) before (e ∷ []), sum_by-cons (λ (y : Entry). y.length) e []) in
      (subst (So e) (sym here) all.0, so_from So kind (before ++ e ∷ []) es follow.1 more all.1)

  -- what is so of the bytes of each entry of a slot
  pub so_kept : (So : Entry → List ℕ → Type 0) (h : HeaderValue) → IsHeader h → AllByRecursion (λ e. So e (entry_bytes slot e old)) h.entries
      → AllByRecursion (λ e. So e (entry_bytes slot e new)) h.entries
  so_kept So h right = so_from So h.kind [] h.entries right.entries (omega (arith, data_within h right))

-- ---- slots in a row

module _ (old new : List ℕ) where
  -- the nodes are such
  pub nodes_kept : (from : ℕ) (held : List (Option HeaderValue)) → SameSlots from (length held) old new → AreHeaders held → AreNodes from held old → AreNodes from held new
  nodes_kept from [] same headers nodes = tt
  nodes_kept from (None ∷ cs) same headers nodes = nodes_kept (from + 1) cs (λ slot above below. same slot (omega (arith, above)) (omega (arith, below))) headers nodes
  nodes_kept from (Some h ∷ cs) same headers nodes = (
    so_kept from old new (same from (omega arith) (omega arith)) (λ e bytes. IsOfKind h.kind e.level bytes) h headers.0 nodes.0,
    nodes_kept (from + 1) cs (λ slot above below. same slot (omega (arith, above)) (omega (arith, below))) headers.1 nodes.1,
  )

  -- the data is among some byte lists
  pub among_kept : (S : List ℕ → Type 0) (from : ℕ) (held : List (Option HeaderValue)) → SameSlots from (length held) old new → AreHeaders held → AreAmong S from held old →
      AreAmong S from held new
  among_kept S from [] same headers among = tt
  among_kept S from (None ∷ cs) same headers among = among_kept S (from + 1) cs (λ slot above below. same slot (omega (arith, above)) (omega (arith, below))) headers among
  among_kept S from (Some h ∷ cs) same headers among = (
    so_kept from old new (same from (omega arith) (omega arith)) (λ e bytes. IsAmong S h.kind bytes) h headers.0 among.0,
    among_kept S (from + 1) cs (λ slot above below. same slot (omega (arith, above)) (omega (arith, below))) headers.1 among.1,
  )

  -- the newest copy of a key
  pub newest_kept : (held : List (Option HeaderValue)) → SameSlots 0 (length held) old new → AreHeaders held
      → (key : List ℕ) (level : ℕ) (bytes : List ℕ) → HasNewest held key level bytes old → HasNewest held key level bytes new
  newest_kept held same headers key level bytes has = record {
    copy = has.copy;
    copy_is = has.copy_is;
    level_is = has.level_is;
    bytes_are = copy_kept old new held key has.copy headers has.copy_is
        (same has.copy.place.slot (omega arith) (omega (arith, (newest_within held key has.copy headers has.copy_is).slot))) ∙ has.bytes_are;
  }

-- ---- trees and files

module _ (held held' : List (Option HeaderValue)) (old new : List ℕ)
    (each : (key : List ℕ) (level : ℕ) (bytes : List ℕ) → HasNewest held key level bytes old → HasNewest held' key level bytes new) where
  -- a tree is held on, where each segment of it is
  mutual
    pub tree_held : (t : Tree (List ℕ)) → HoldsTree held old t → HoldsTree held' new t
    tree_held tree.Empty holds = tt
    tree_held (tree.Leaf segment) holds = each (leaf_key segment) 0 segment holds
    tree_held (tree.Node level ts) holds = (each (node_key (contents_of level ts)) level (spelling (contents_of level ts)) holds.0, trees_held ts holds.1)

    trees_held : (ts : Trees (List ℕ)) → HoldsTrees held old ts → HoldsTrees held' new ts
    trees_held tree.NoTree holds = tt
    trees_held (tree.Then t ts) holds = (tree_held t holds.0, trees_held ts holds.1)

-- a file goes on, if its tree does
pub file_held : (held held' : List (Option HeaderValue)) (old new : List ℕ) → ((t : Tree (List ℕ)) → HoldsTree held old t → HoldsTree held' new t)
    → (named : Option Named) (file : Option (List ℕ)) → IsFileOf held old named file → IsFileOf held' new named file
file_held held held' old new each None None is = tt
file_held held held' old new each None (Some bytes) is = is
file_held held held' old new each (Some named) None is = is
file_held held held' old new each (Some named) (Some bytes) is = (is.0, each _ is.1)

-- What a store of files by their trees keeps where an image changes outside of its containers.
use Rattle.store_model.proofs.Prelude.{◌≡◌, ℕ, ◌+◌, List, length, get_or, Option, Some, None, refl, ◌∙◌, arith, SameOutside, FIRST_SLOT, SLOT_BYTES, slot_at, HeaderValue, spelling, Trees, contents_of, Named, Files, HoldsSlot, HoldSlots, AreHeaders, DifferentIds, first_free, Store, Encodes, AreCopies, names_of, AreNodes, IsFileOf, AreFilesOf, AreAmong, Stands, leaf_key, node_key, HasNewest, HoldsTree, HoldsTrees}
use Rattle.std.specs.FinMap as finite
use Rattle.merkle_file.specs.Tree as tree
use Rattle.merkle_file.specs.Tree.{Tree}
use Rattle.store_model.specs.Trees.{file_tree}
use Rattle.store_model.proofs.Copies.{headers_of_right}
use Rattle.store_model.proofs.Filled.{first_empty}
use Rattle.store_model.proofs.Frames.{SameTo, SameSlots, format_kept, journal_kept, other_kept, slots_kept, copies_kept}
use Rattle.store_model.proofs.HeldSlots.{SameHeld, all_held, others_held, newest_still, IsNodeEntry, IsAmongThese, so_still, nodes_so, so_nodes, among_so, so_among}
use Rattle.store_model.proofs.Kept.{holds_still, copies_still}

-- ---- trees

-- where the newest copies go on, so do trees
module _ (held more : List (Option HeaderValue)) (old new : List ℕ)
    (each : (key : List ℕ) (level : ℕ) (bytes : List ℕ) → HasNewest held key level bytes old → HasNewest more key level bytes new) where
  mutual
    pub tree_on : (t : Tree (List ℕ)) → HoldsTree held old t → HoldsTree more new t
    tree_on tree.Empty holds = tt
    tree_on (tree.Leaf segment) holds = each (leaf_key segment) 0 segment holds
    tree_on (tree.Node level ts) holds = (each (node_key (contents_of level ts)) level (spelling (contents_of level ts)) holds.0, trees_on ts holds.1)

    pub trees_on : (ts : Trees (List ℕ)) → HoldsTrees held old ts → HoldsTrees more new ts
    trees_on tree.NoTree holds = tt
    trees_on (tree.Then t ts) holds = (tree_on t holds.0, trees_on ts holds.1)

  pub file_on : (named : Option Named) (file : Option (List ℕ)) → IsFileOf held old named file → IsFileOf more new named file
  file_on None None is = tt
  file_on None (Some bytes) is = is
  file_on (Some named) None is = is
  file_on (Some named) (Some bytes) is = (is.0, tree_on (file_tree bytes) is.1)

-- ---- a store

-- The same but for its slots, where all before them is as it was.
pub encodes_on : (store : Store) (image new : List ℕ) → SameTo FIRST_SLOT image new → length new ≡ length image → (held : List (Option HeaderValue)) → Encodes image store
    → length held ≡ length store.held → HoldSlots 0 held new → DifferentIds held → Encodes new (record store { held = held })
encodes_on store image new front size held right many slots_are different = record {
  count = right.count;
  size = size ∙ right.size;
  format = format_kept image new (λ p n within. front p n (omega (arith, within))) store.slots right.format;
  journal = journal_kept image new front store.selector store.records right.journal;
  other = other_kept image new (λ p n within. front p n (omega (arith, within))) store.other_open store.selector.half right.other;
  many = many ∙ right.many;
  slots_are = slots_are;
  different = different;
}

pub stands_on : (S : List ℕ → Type 0) (store : Store) (files : Files) (image new : List ℕ) → SameTo FIRST_SLOT image new → (held : List (Option HeaderValue)) →
    Stands S store files image
    → Encodes new (record store { held = held }) → AreCopies 0 held new → AreNodes 0 held new → AreAmong S 0 held new → AreFilesOf held (names_of store) new files
    → Stands S (record store { held = held }) files new
stands_on S store files image new front held stands right copies nodes among files_are = record {
  holds = record {
    right = right;
    copies = copies;
    nodes = nodes;
    files_are = files_are;
  };
  among = among;
}

-- The containers that were there, where their slots are as they were.
module _ (S : List ℕ → Type 0) (store : Store) (files : Files) (image new : List ℕ) (front : SameTo FIRST_SLOT image new) (size : length new ≡ length image)
    (same : SameHeld 0 store.held image new) where
  headers : Encodes image store → AreHeaders store.held
  headers right = headers_of_right image store right

  pub stands_still : Stands S store files image → HoldSlots 0 store.held new → AreCopies 0 store.held new → Stands S store files new
  stands_still stands slots_are copies =
      let right = stands.holds.right in
      stands_on S store files image new front store.held stands (encodes_on store image new front size store.held right refl slots_are right.different) copies
      (so_nodes 0 store.held new (so_still IsNodeEntry image new 0 store.held (headers right) same (nodes_so 0 store.held image stands.holds.nodes)))
      (so_among S 0 store.held new (so_still (IsAmongThese S) image new 0 store.held (headers right) same (among_so S 0 store.held image stands.among)))
      (λ name. file_on store.held store.held image new (λ key level bytes. newest_still image new store.held key level bytes (headers right) same)
      (finite.get (names_of store) name) (finite.get files name) (stands.holds.files_are name))

-- ---- a slot that has no container was written to, and nothing else

pub before_slots : (slot : ℕ) (image new : List ℕ) → SameOutside (slot_at slot) SLOT_BYTES image new → SameTo FIRST_SLOT image new
before_slots slot image new same p n within = same.before p n (omega (arith, within))

module _ (slot : ℕ) (store : Store) (image new : List ℕ) (same : SameOutside (slot_at slot) SLOT_BYTES image new) (empty : get_or store.held slot None ≡ None) where
  place : slot ≡ 0 + slot
  place = omega arith

  -- whatever it holds now, the newest copy of each key is what it was
  pub newest_unsealed : Encodes image store → (key : List ℕ) (level : ℕ) (bytes : List ℕ) → HasNewest store.held key level bytes image → HasNewest store.held key level bytes new
  newest_unsealed right key level bytes =
      newest_still image new store.held key level bytes (headers_of_right image store right) (others_held image new slot 0 slot store.held same place empty)

  -- where it is closed still, it is the same store, of the same files
  pub unsealed_at : (S : List ℕ → Type 0) (files : Files) → Stands S store files image → HoldsSlot new slot None → Stands S store files new
  unsealed_at S files stands closed =
      let right = stands.holds.right in
      stands_still S store files image new (before_slots slot image new same) same.size (others_held image new slot 0 slot store.held same place empty) stands
      (holds_still slot image new same 0 slot store.held place empty closed right.slots_are)
      (copies_still slot image new same 0 slot store.held place empty (headers_of_right image store right) stands.holds.copies)

-- of the first closed slot
pub unsealed : (S : List ℕ → Type 0) (store : Store) (files : Files) (image new : List ℕ) → Stands S store files image →
    SameOutside (slot_at (first_free store.held)) SLOT_BYTES image new
    → HoldsSlot new (first_free store.held) None → Stands S store files new
unsealed S store files image new stands same closed = unsealed_at (first_free store.held) store image new same (first_empty store.held) S files stands closed

-- ---- all before the end of the slots is as it was

module _ (store : Store) (image new : List ℕ) (right : Encodes image store) (same : SameTo (slot_at store.slots) image new) where
  front : SameTo FIRST_SLOT image new
  front p n within = same p n (omega (arith, within))

  slots_same : SameSlots 0 (length store.held) image new
  slots_same slot from below p n above within = same p n (omega (arith, below, within, right.many))

  held_same : SameHeld 0 store.held image new
  held_same = all_held image new 0 store.held slots_same

  slots_are : HoldSlots 0 store.held new
  slots_are = slots_kept image new 0 store.held slots_same right.slots_are

  pub newest_framed : (key : List ℕ) (level : ℕ) (bytes : List ℕ) → HasNewest store.held key level bytes image → HasNewest store.held key level bytes new
  newest_framed key level bytes = newest_still image new store.held key level bytes (headers_of_right image store right) held_same

-- the same store, of the same files
pub stands_framed : (S : List ℕ → Type 0) (store : Store) (files : Files) (image new : List ℕ) → Stands S store files image → SameTo (slot_at store.slots) image new →
    length new ≡ length image
    → Stands S store files new
stands_framed S store files image new stands same size =
    let right = stands.holds.right in
    stands_still S store files image new (front store image new right same) size (held_same store image new right same) stands (slots_are store image new right same)
    (copies_kept image new 0 store.held (slots_same store image new right same) (headers_of_right image store right) stands.holds.copies)

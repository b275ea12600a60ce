-- What an image stands for once a container was sealed in a closed slot. A segment of it whose key was held
-- already becomes the newest copy of that key: it is the same segment.
use Rattle.store_model.proofs.Prelude.{◌<◌, ◌≡◌, ◌≢◌, ℕ, ◌+◌, ◌≤◌, true, List, [], ◌∷◌, length, get_or, Option, Some, None, find, refl, sym, ◌∙◌, ap, subst, arith, AllByRecursion, Contains, eqb-true, Contains-append_left, Contains-append_right, bytes_eq-Decides, sha256, key_of, SameOutside, SLOT_BYTES, slot_at, data_at, Entry, Kind, kind_byte, is_level, Segment, segment_key, entries_from, HeaderValue, header_of, spelling, Trees, contents_of, Named, IsAmong, AreAmong, Stands, Files, AreHeaders, Copy, newest, last_id, free_slots, first_free, Store, Encodes, AreCopies, names_of, entry_bytes, IsOfKind, AreNodes, IsFileOf, with_sealed, CanHold, IsReachable, tree_keys, keys_below, bytes_at, leaf_key, node_key, HasNewest, HoldsTree, HoldsTrees}
use Rattle.std.specs.FinMap as finite
use Rattle.container_meta.specs.declared.kind.Kind.TheVariants.{Leaf, Tree}
use Rattle.merkle_file.specs.Tree as tree
use Rattle.merkle_file.specs.Tree.{Tree as TreeOf}
use Rattle.store_model.specs.Collisions.{HasNoCollisions}
use Rattle.store_model.specs.Slots.{HoldsContainer, StandAt}
use Rattle.store_model.specs.Steps.{MaySeal, FitsHeld}
use Rattle.store_model.specs.Trees.{file_tree}
use Rattle.store_model.proofs.Copies.{copy_digest, found_so, headers_of_right, some_same}
use Rattle.store_model.specs.Together.{Placed, IsClosed, IsThere, with_placed}
use Rattle.store_model.proofs.Filled.{length-with_slot, different_with, closed_empty}
use Rattle.store_model.proofs.Free.{first_closed, some_free}
use Rattle.store_model.proofs.FramedTrees.{before_slots, encodes_on, stands_on}
use Rattle.store_model.proofs.FreedTrees.{in_head, in_tail}
use Rattle.store_model.proofs.HeldSlots.{SameHeld, others_held, copy_still, have_levels, HasLevel, levels_so, newest_so, IsNodeEntry, nodes_so, so_nodes, IsAmongThese, among_so, so_among, so_with}
use Rattle.store_model.proofs.Kept.{holds_with, copies_with}
use Rattle.store_model.proofs.NewestSealed.{entry_has, entry_copy, newest_at, newest_past, newest_of_entries, newest_of_others}
use Rattle.store_model.proofs.OneNode.{one_level}

-- ---- the entries of segments

-- an entry is that of a segment, whose bytes stand where it says
pub record IsEntryOf (slot : ℕ) (image : List ℕ) (s : Segment) (e : Entry) : Type 0 where
  pub digest : e.digest ≡ sha256 s.bytes
  pub level : e.level ≡ s.level
  pub bytes : entry_bytes slot e image ≡ s.bytes

module _ (slot : ℕ) (image : List ℕ) (P : Segment → Type 0) (Q : Entry → Type 0) where
  -- what is so of each segment tells what is so of each entry
  pub entries_of : (offset : ℕ) (segments : List Segment) → ((s : Segment) (e : Entry) → IsEntryOf slot image s e → P s → Q e) → StandAt (data_at slot + offset) segments image
      → AllByRecursion P segments → AllByRecursion Q (entries_from offset segments)
  entries_of offset [] each stand all = tt
  entries_of offset (s ∷ ss) each stand all = (
    each s _ (record { digest = refl; level = refl; bytes = stand.0 }) all.0,
    entries_of (offset + length s.bytes) ss each (subst (λ (at : ℕ). StandAt at ss image) (omega arith) stand.1) all.1,
  )

  -- and the other way round
  pub of_entries : (offset : ℕ) (segments : List Segment) → ((s : Segment) (e : Entry) → IsEntryOf slot image s e → Q e → P s) → StandAt (data_at slot + offset) segments image
      → AllByRecursion Q (entries_from offset segments) → AllByRecursion P segments
  of_entries offset [] each stand all = tt
  of_entries offset (s ∷ ss) each stand all = (
    each s _ (record { digest = refl; level = refl; bytes = stand.0 }) all.0,
    of_entries (offset + length s.bytes) ss each (subst (λ (at : ℕ). StandAt at ss image) (omega arith) stand.1) all.1,
  )

both_so : {X : Type 0} (P Q : X → Type 0) (xs : List X) → AllByRecursion P xs → AllByRecursion Q xs → AllByRecursion (λ x. P x × Q x) xs
both_so P Q [] all also = tt
both_so P Q (x ∷ xs) all also = ((all.0, also.0), both_so P Q xs all.1 also.1)

-- a level of data
data_level : (level : ℕ) → is_level Leaf level ≡ true → level ≡ 0
data_level level is = eqb-true level 0 is

-- ---- a segment whose key is held

-- The newest copy of the segment's key, where P holds of it, is the segment: of data in this image, of a node in the one that is given.
abbrev pub IsNewestOf : (List ℕ → Type 0) → Kind → Store → List ℕ → List ℕ → Segment → Type 0
IsNewestOf P Leaf store given image s =
    (copy : Copy) → P (segment_key Leaf s) → newest 0 store.held (segment_key Leaf s) ≡ Some copy → bytes_at copy.place image ≡ s.bytes
IsNewestOf P Tree store given image s =
    (copy : Copy) → P (segment_key Tree s) → newest 0 store.held (segment_key Tree s) ≡ Some copy → bytes_at copy.place given ≡ s.bytes

same_bytes : (P : List ℕ → Type 0) (kind : Kind) (store : Store) (given image : List ℕ) (s : Segment) (copy : Copy) → IsNewestOf P kind store given image s
    → P (segment_key kind s) → newest 0 store.held (segment_key kind s) ≡ Some copy → bytes_at copy.place given ≡ bytes_at copy.place image → s.bytes ≡ bytes_at copy.place image
same_bytes P Leaf store given image s copy is counts e alike = sym (is copy counts e)
same_bytes P Tree store given image s copy is counts e alike = sym (is copy counts e) ∙ alike

-- where there are no collisions, data of a key that is held is the newest copy
pub newest_data : (S P : List ℕ → Type 0) (store : Store) (files : Files) (given image : List ℕ) → HasNoCollisions S → Stands S store files image → (s : Segment) →
    MaySeal S Leaf s → IsNewestOf P Leaf store given image s
newest_data S P store files given image distinct stands s may = λ copy counts e.
    sym (distinct s.bytes (bytes_at copy.place image) may.among
    (newest_so (IsAmongThese S) store.held Leaf (sha256 s.bytes) image copy (among_so S 0 store.held image stands.among) e).so
    (sym (copy_digest store.held 0 (sha256 s.bytes) image copy stands.holds.copies e)))

module _ (S P : List ℕ → Type 0) (kind : Kind) (store : Store) (files : Files) (given image : List ℕ) where
  -- and so is a node that fits it
  pub newest_by_fit : HasNoCollisions S → Stands S store files image → (s : Segment) → MaySeal S kind s → FitsHeld P kind store given s → IsNewestOf P kind store given image s
  newest_by_fit distinct stands s may fits = by_kind kind may fits
    where
      by_kind : (k : Kind) → MaySeal S k s → FitsHeld P k store given s → IsNewestOf P k store given image s
      by_kind Leaf may fits = newest_data S P store files given image distinct stands s may
      by_kind Tree may fits = λ copy counts e. fits copy counts e

  pub all_by_fit : HasNoCollisions S → Stands S store files image → (segments : List Segment) → AllByRecursion (MaySeal S kind) segments →
      AllByRecursion (FitsHeld P kind store given) segments
      → AllByRecursion (IsNewestOf P kind store given image) segments
  all_by_fit distinct stands [] may fits = tt
  all_by_fit distinct stands (s ∷ ss) may fits = (newest_by_fit distinct stands s may.0 fits.0, all_by_fit distinct stands ss may.1 fits.1)

-- nothing is to be shown of a key that is not held
pub newest_of_none : (P : List ℕ → Type 0) (kind : Kind) (store : Store) (given image : List ℕ) (s : Segment) → newest 0 store.held (segment_key kind s) ≡ None
    → IsNewestOf P kind store given image s
newest_of_none P Leaf store given image s none = λ copy counts e. absurd (let both = sym none ∙ e in cc)
newest_of_none P Tree store given image s none = λ copy counts e. absurd (let both = sym none ∙ e in cc)

-- a segment that is the newest copy of its key is that
pub newest_of_copy : (P : List ℕ → Type 0) (kind : Kind) (store : Store) (image : List ℕ) (s : Segment) → HasNewest store.held (segment_key kind s) s.level s.bytes image
    → IsNewestOf P kind store image image s
newest_of_copy P kind store image s has = by_kind kind has
  where
    same : (k : Kind) (n : HasNewest store.held (segment_key k s) s.level s.bytes image) (copy : Copy) → newest 0 store.held (segment_key k s) ≡ Some copy →
        bytes_at copy.place image ≡ s.bytes
    same k n copy e = ap (λ (c : Copy). bytes_at c.place image) (some_same copy n.copy (sym e ∙ n.copy_is)) ∙ n.bytes_are

    by_kind : (k : Kind) → HasNewest store.held (segment_key k s) s.level s.bytes image → IsNewestOf P k store image image s
    by_kind Leaf n = λ copy counts e. same Leaf n copy e
    by_kind Tree n = λ copy counts e. same Tree n copy e

-- and it has its level: 0 of data, that of its bytes of a node
same_level : (S : List ℕ → Type 0) (kind : Kind) (held : List (Option HeaderValue)) (image : List ℕ) (s : Segment) (copy : Copy) → AreHeaders held → AreNodes 0 held image
    → MaySeal S kind s → is_level kind s.level ≡ true → newest 0 held (segment_key kind s) ≡ Some copy → s.bytes ≡ bytes_at copy.place image → s.level ≡ copy.place.level
same_level S Leaf held image s copy headers nodes may level e same =
    let old = newest_so HasLevel held Leaf (sha256 s.bytes) image copy (levels_so 0 held image headers) e in
    data_level s.level level ∙ sym (data_level old.entry.level old.so) ∙ sym old.level_is
same_level S Tree held image s copy headers nodes may level e same =
    let old = newest_so IsNodeEntry held Tree (sha256 s.bytes) image copy (nodes_so 0 held image nodes) e in
    one_level s.level old.entry.level s.bytes (bytes_at copy.place image) may.of_kind old.so same ∙ sym old.level_is

-- ---- one container more

-- The newest copy of each of its segments is that segment.
pub newest_sealed : (id : ℕ) (kind : Kind) (segments : List Segment) (store : Store) (new : List ℕ) → 1 ≤ free_slots store.held → last_id store.held < id
    → HoldsContainer new (first_free store.held) id kind segments
    → AllByRecursion (λ s. HasNewest (with_sealed id kind segments store).held (segment_key kind s) s.level s.bytes new) segments
newest_sealed id kind segments store new some above container =
    let header : HeaderValue = header_of id kind segments in
    of_entries (first_free store.held) new _ _ 0 segments (λ s e is found. record {
      copy = entry_copy (first_free store.held) header.id e;
      copy_is = ap (λ (digest : List ℕ). newest 0 (with_sealed id kind segments store).held (key_of (kind_byte kind) digest)) (sym is.digest) ∙ found;
      level_is = is.level;
      bytes_are = is.bytes;
    }) (subst (λ (at : ℕ). StandAt at segments new) (omega arith) container.bytes)
    (newest_of_entries header store.held container.header.0 some above)

-- That of a key of none of them is the one from before.
pub newest_beside : (id : ℕ) (kind : Kind) (segments : List Segment) (store : Store) (key : List ℕ) → 1 ≤ free_slots store.held →
    AllByRecursion (λ s. segment_key kind s ≢ key) segments
    → newest 0 (with_sealed id kind segments store).held key ≡ newest 0 store.held key
newest_beside id kind segments store key some others =
    newest_of_others (header_of id kind segments) store.held key some (other_entries 0 segments others)
  where
    other_entries : (offset : ℕ) (ss : List Segment) → AllByRecursion (λ s. segment_key kind s ≢ key) ss →
        AllByRecursion (λ e. key_of (kind_byte kind) e.digest ≢ key) (entries_from offset ss)
    other_entries offset [] others = tt
    other_entries offset (s ∷ ss) others = (others.0, other_entries (offset + length s.bytes) ss others.1)

module _ (S P : List ℕ → Type 0) (p : Placed) (store : Store) (files : Files) (given image new : List ℕ)
    (before : Stands S store files given) (stands : Stands S store files image)
    (same : SameOutside (slot_at p.slot) SLOT_BYTES image new)
    (container : IsThere p new) (closed : IsClosed store p.slot) (above : last_id store.held < p.id)
    (may : AllByRecursion (MaySeal S p.kind) p.segments) (newests : AllByRecursion (IsNewestOf P p.kind store given image) p.segments) where
  abbrev header : HeaderValue
  header = header_of p.id p.kind p.segments

  empty : get_or store.held p.slot None ≡ None
  empty = closed_empty p.slot store.held closed

  place : p.slot ≡ 0 + p.slot
  place = omega arith

  headers : AreHeaders store.held
  headers = headers_of_right image store stands.holds.right

  still : SameHeld 0 store.held image new
  still = others_held image new p.slot 0 p.slot store.held same place empty

  stand : StandAt (data_at p.slot + 0) p.segments new
  stand = subst (λ (at : ℕ). StandAt at p.segments new) (omega arith) container.bytes

  -- an entry of the container, and its segment
  record IsSealed (e : Entry) : Type 0 where
    segment : Segment
    is : IsEntryOf p.slot new segment e
    sealable : MaySeal S p.kind segment
    newest_is : IsNewestOf P p.kind store given image segment

  all_sealed : AllByRecursion IsSealed header.entries
  all_sealed =
      entries_of p.slot new (λ s. MaySeal S p.kind s × IsNewestOf P p.kind store given image s) IsSealed 0 p.segments
      (λ s e is so. record { segment = s; is = is; sealable = so.0; newest_is = so.1 }) stand
      (both_so (MaySeal S p.kind) (IsNewestOf P p.kind store given image) p.segments may newests)

  all_levels : AllByRecursion (λ e. is_level p.kind e.level ≡ true) header.entries
  all_levels = have_levels p.kind p.kind [] header.entries refl container.header.0.entries

  -- A key that counts and is held in both images has the newest copy that it had.
  pub newest_alike : (key : List ℕ) (level : ℕ) (bytes : List ℕ) → P key → HasNewest store.held key level bytes given → HasNewest store.held key level bytes image
      → HasNewest (with_placed p store).held key level bytes new
  newest_alike key level bytes counts old has = by_entry (find (entry_has p.kind key) header.entries) refl
    where
      by_entry : (found : Option Entry) → find (entry_has p.kind key) header.entries ≡ found → HasNewest (with_placed p store).held key level bytes new
      by_entry None none = record {
        copy = has.copy;
        copy_is = newest_past 0 p.slot header store.held key empty none ∙ has.copy_is;
        level_is = has.level_is;
        bytes_are = copy_still image new store.held key has.copy headers still has.copy_is ∙ has.bytes_are;
      }
      by_entry (Some e) found =
          let there = found_so IsSealed (entry_has p.kind key) header.entries e all_sealed found in
          let segment : Segment = there.0.segment in
          let key_is : key_of (kind_byte p.kind) e.digest ≡ key = (bytes_eq-Decides _ _).0 there.1 in
          let same_key : segment_key p.kind segment ≡ key = ap (key_of (kind_byte p.kind)) (sym there.0.is.digest) ∙ key_is in
          let copy_is : newest 0 store.held (segment_key p.kind segment) ≡ Some has.copy = ap (newest 0 store.held) same_key ∙ has.copy_is in
          let one_copy : old.copy ≡ has.copy = some_same old.copy has.copy (sym old.copy_is ∙ has.copy_is) in
          let alike : bytes_at has.copy.place given ≡ bytes_at has.copy.place image =
          ap (λ (c : Copy). bytes_at c.place given) (sym one_copy) ∙ old.bytes_are ∙ sym has.bytes_are in
          let bytes_same = same_bytes P p.kind store given image segment has.copy there.0.newest_is (subst P (sym same_key) counts) copy_is alike in
          let right = subst (λ (l : ℕ). is_level p.kind l ≡ true) there.0.is.level
          (found_so (λ x. is_level p.kind x.level ≡ true) (entry_has p.kind key) header.entries e all_levels found).0 in
          record {
            copy = entry_copy p.slot header.id e;
            copy_is = newest_at 0 p.slot p.slot header store.held key e place closed above found;
            level_is = there.0.is.level ∙ same_level S p.kind store.held image segment has.copy headers stands.holds.nodes there.0.sealable right copy_is bytes_same ∙ has.level_is;
            bytes_are = there.0.is.bytes ∙ bytes_same ∙ has.bytes_are;
          }

  -- and so has each key of a tree that both hold
  mutual
    pub tree_alike : (t : TreeOf (List ℕ)) → ((key : List ℕ) → Contains (tree_keys t) key → P key) → HoldsTree store.held given t → HoldsTree store.held image t
        → HoldsTree (with_placed p store).held new t
    tree_alike tree.Empty count old has = tt
    tree_alike (tree.Leaf segment) count old has = newest_alike (leaf_key segment) 0 segment (count (leaf_key segment) (in_head (leaf_key segment) [])) old has
    tree_alike (tree.Node level ts) count old has =
        let top : List ℕ = node_key (contents_of level ts) in (
          newest_alike top level (spelling (contents_of level ts)) (count top (in_head top (keys_below ts))) old.0 has.0,
          trees_alike ts (λ key there. count key (in_tail top key (keys_below ts) there)) old.1 has.1,
        )

    pub trees_alike : (ts : Trees (List ℕ)) → ((key : List ℕ) → Contains (keys_below ts) key → P key) → HoldsTrees store.held given ts → HoldsTrees store.held image ts
        → HoldsTrees (with_placed p store).held new ts
    trees_alike tree.NoTree count old has = tt
    trees_alike (tree.Then t ts) count old has = (
      tree_alike t (λ key there. count key (Contains-append_left (tree_keys t) (keys_below ts) key there)) old.0 has.0,
      trees_alike ts (λ key there. count key (Contains-append_right (tree_keys t) (keys_below ts) key there)) old.1 has.1,
    )

  file_alike : (name : List ℕ) (named : Option Named) (file : Option (List ℕ)) → ((key : List ℕ) → IsReachable files key → P key) → finite.get files name ≡ file
      → IsFileOf store.held given named file → IsFileOf store.held image named file → IsFileOf (with_placed p store).held new named file
  file_alike name None None count is_file old is = tt
  file_alike name None (Some bytes) count is_file old is = is
  file_alike name (Some named) None count is_file old is = is
  file_alike name (Some named) (Some bytes) count is_file old is =
      (is.0, tree_alike (file_tree bytes) (λ key there. count key (name, (bytes, (is_file, there)))) old.1 is.1)

  encodes : Encodes new (with_placed p store)
  encodes =
      let right = stands.holds.right in
      encodes_on store image new (before_slots p.slot image new same) same.size (with_placed p store).held right
      (length-with_slot p.slot header store.held)
      (holds_with p.slot image new same 0 p.slot header store.held place container.header right.slots_are)
      (different_with p.slot header store.held right.different above)

  copies : AreCopies 0 (with_placed p store).held new
  copies =
      copies_with p.slot image new same 0 p.slot header store.held place empty
      (entries_of p.slot new (MaySeal S p.kind) _ 0 p.segments (λ s e is so. ap sha256 is.bytes ∙ sym is.digest) stand may) headers stands.holds.copies

  are_nodes : AreNodes 0 (with_placed p store).held new
  are_nodes =
      so_nodes 0 (with_placed p store).held new
      (so_with IsNodeEntry image new p.slot 0 p.slot header store.held place empty
      (entries_of p.slot new (MaySeal S p.kind) _ 0 p.segments
      (λ s e is so. subst (λ (l : ℕ). IsOfKind p.kind l (entry_bytes p.slot e new)) (sym is.level) (subst (IsOfKind p.kind s.level) (sym is.bytes) so.of_kind)) stand
      may)
      headers still (nodes_so 0 store.held image stands.holds.nodes))

  are_among : AreAmong S 0 (with_placed p store).held new
  are_among =
      so_among S 0 (with_placed p store).held new
      (so_with (IsAmongThese S) image new p.slot 0 p.slot header store.held place empty
      (entries_of p.slot new (MaySeal S p.kind) _ 0 p.segments (λ s e is so. subst (IsAmong S p.kind) (sym is.bytes) so.among) stand may)
      headers still (among_so S 0 store.held image stands.among))

  -- The store with the container, of the same files: each key that they need counts.
  pub sealed_at : ((key : List ℕ) → IsReachable files key → P key) → Stands S (with_placed p store) files new
  sealed_at count =
      stands_on S store files image new (before_slots p.slot image new same) (with_placed p store).held stands encodes copies are_nodes are_among
      (λ name. file_alike name (finite.get (names_of store) name) (finite.get files name) count refl (before.holds.files_are name) (stands.holds.files_are name))

-- ---- in the first closed slot

abbrev first_placed : ℕ → Kind → List Segment → Store → Placed
first_placed id kind segments store = record { slot = first_free store.held; id = id; kind = kind; segments = segments }

module _ {spare : ℕ} (S P : List ℕ → Type 0) (id : ℕ) (kind : Kind) (segments : List Segment) (store : Store) (files : Files) (given image new : List ℕ)
    (before : Stands S store files given) (stands : Stands S store files image)
    (same : SameOutside (slot_at (first_free store.held)) SLOT_BYTES image new)
    (container : HoldsContainer new (first_free store.held) id kind segments) (can : CanHold spare id kind segments store)
    (may : AllByRecursion (MaySeal S kind) segments) (newests : AllByRecursion (IsNewestOf P kind store given image) segments) where
  closed : IsClosed store (first_free store.held)
  closed = first_closed store.held (some_free store.held (omega (arith, can.slot)))

  pub sealed : ((key : List ℕ) → IsReachable files key → P key) → Stands S (with_sealed id kind segments store) files new
  sealed count = sealed_at S P (first_placed id kind segments store) store files given image new before stands same container closed can.new_id may newests count

-- What one image holds goes on when a container is sealed in it.
module _ {spare : ℕ} (S P : List ℕ → Type 0) (id : ℕ) (kind : Kind) (segments : List Segment) (store : Store) (files : Files) (image new : List ℕ)
    (stands : Stands S store files image) (same : SameOutside (slot_at (first_free store.held)) SLOT_BYTES image new)
    (container : HoldsContainer new (first_free store.held) id kind segments) (can : CanHold spare id kind segments store)
    (may : AllByRecursion (MaySeal S kind) segments) (newests : AllByRecursion (IsNewestOf P kind store image image) segments) where
  -- the newest copy of a key that counts
  pub newest_kept : (key : List ℕ) (level : ℕ) (bytes : List ℕ) → P key → HasNewest store.held key level bytes image →
      HasNewest (with_sealed id kind segments store).held key level bytes new
  newest_kept key level bytes counts has =
      newest_alike S P (first_placed id kind segments store) store files image image new stands stands same container
      (first_closed store.held (some_free store.held (omega (arith, can.slot)))) can.new_id may newests key level bytes counts has has

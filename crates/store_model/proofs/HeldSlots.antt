-- What is so of each entry of the containers of a store, and stays so where the slots that have one are as they were.
use Rattle.store_model.proofs.Prelude.{◌≡◌, ℕ, zero, suc, ◌+◌, ◌≤◌, true, List, [], ◌∷◌, ◌++◌, length, get_or, Option, Some, None, refl, sym, ◌∙◌, ap, subst, arith, AllByRecursion, bytes_eq-Decides, sum_by-append, sum_by-cons, key_of, SameOutside, SLOT_BYTES, slot_at, Entry, Kind, kind_byte, is_level, HeaderValue, IsHeader, bytes_of, AreHeaders, Copy, newest, with_slot, entry_bytes, IsOfKind, AreNodes, IsAmong, AreAmong, bytes_at, HasNewest}
use Rattle.container_meta.specs.declared.kind.Kind.TheVariants.{Leaf, Tree}
use Rattle.container_meta.specs.Spelling.{Follow}
use Rattle.store_model.proofs.Copies.{data_within, lies, some_same, tail_same}
use Rattle.store_model.proofs.Frames.{SameSlot, SameSlots, copy_kept, place_kept}
use Rattle.store_model.proofs.Kept.{other_same}
pub use Rattle.store_model.proofs.Copies.{found_so}

-- the slots that have a container are as they were
abbrev pub SameHeld : ℕ → List (Option HeaderValue) → List ℕ → List ℕ → Type 0
SameHeld from [] old new = Unit {0}
SameHeld from (None ∷ cs) old new = SameHeld (from + 1) cs old new
SameHeld from (Some h ∷ cs) old new = SameSlot from old new × SameHeld (from + 1) cs old new

module _ (old new : List ℕ) where
  -- where all slots are
  pub all_held : (from : ℕ) (held : List (Option HeaderValue)) → SameSlots from (length held) old new → SameHeld from held old new
  all_held from [] same = tt
  all_held from (None ∷ cs) same = all_held (from + 1) cs (λ slot above below. same slot (omega (arith, above)) (omega (arith, below)))
  all_held from (Some h ∷ cs) same =
      (same from (omega arith) (omega arith), all_held (from + 1) cs (λ slot above below. same slot (omega (arith, above)) (omega (arith, below))))

  -- where all but one that has none are
  pub others_held : (slot from index : ℕ) (held : List (Option HeaderValue)) → SameOutside (slot_at slot) SLOT_BYTES old new → slot ≡ from + index → get_or held index None ≡ None →
      SameHeld from held old new
  others_held slot from index [] same place empty = tt
  others_held slot from zero (Some h ∷ cs) same place empty = absurd cc
  others_held slot from zero (None ∷ cs) same place empty = all_held (from + 1) cs (λ other above below. other_same slot other old new same (omega (arith, place, above)))
  others_held slot from (suc index) (None ∷ cs) same place empty = others_held slot (from + 1) index cs same (omega (arith, place)) empty
  others_held slot from (suc index) (Some h ∷ cs) same place empty =
      (other_same slot from old new same (omega (arith, place)), others_held slot (from + 1) index cs same (omega (arith, place)) empty)

  same_there : (from : ℕ) (held : List (Option HeaderValue)) (index : ℕ) (h : HeaderValue) → get_or held index None ≡ Some h → SameHeld from held old new →
      SameSlot (from + index) old new
  same_there from [] index h e same = absurd cc
  same_there from (None ∷ cs) zero h e same = absurd cc
  same_there from (None ∷ cs) (suc index) h e same = subst (λ (slot : ℕ). SameSlot slot old new) (omega arith) (same_there (from + 1) cs index h e same)
  same_there from (Some g ∷ cs) zero h e same = subst (λ (slot : ℕ). SameSlot slot old new) (omega arith) same.0
  same_there from (Some g ∷ cs) (suc index) h e same = subst (λ (slot : ℕ). SameSlot slot old new) (omega arith) (same_there (from + 1) cs index h e same.1)

  -- the bytes of a copy stay
  pub copy_still : (held : List (Option HeaderValue)) (key : List ℕ) (copy : Copy) → AreHeaders held → SameHeld 0 held old new → newest 0 held key ≡ Some copy
      → bytes_at copy.place new ≡ bytes_at copy.place old
  copy_still held key copy headers same e =
      let l = lies 0 held key copy e in
      let here : copy.place.slot ≡ 0 + l.index = ap (λ (c : Copy). c.place.slot) l.copy_is in
      copy_kept old new held key copy headers e (subst (λ (slot : ℕ). SameSlot slot old new) (sym here) (same_there 0 held l.index l.header l.there same))

  -- and so does the newest copy of a key
  pub newest_still : (held : List (Option HeaderValue)) (key : List ℕ) (level : ℕ) (bytes : List ℕ) → AreHeaders held → SameHeld 0 held old new → HasNewest held key level bytes old
      → HasNewest held key level bytes new
  newest_still held key level bytes headers same has = record {
    copy = has.copy;
    copy_is = has.copy_is;
    level_is = has.level_is;
    bytes_are = copy_still held key has.copy headers same has.copy_is ∙ has.bytes_are;
  }

-- ---- a rule for each entry and its bytes

-- each entry of a container keeps a rule, in slots from one on
abbrev pub AreSo : (Kind → Entry → List ℕ → Type 0) → ℕ → List (Option HeaderValue) → List ℕ → Type 0
AreSo P slot [] image = Unit {0}
AreSo P slot (None ∷ cs) image = AreSo P (slot + 1) cs image
AreSo P slot (Some h ∷ cs) image = AllByRecursion (λ e. P h.kind e (entry_bytes slot e image)) h.entries × AreSo P (slot + 1) cs image

module _ (P : Kind → Entry → List ℕ → Type 0) (old new : List ℕ) where
  entries_still : (slot : ℕ) (kind rule : Kind) (before entries : List Entry) → SameSlot slot old new → Follow kind before entries → bytes_of before + bytes_of entries ≤ 212480
      → AllByRecursion (λ e. P rule e (entry_bytes slot e old)) entries → AllByRecursion (λ e. P rule e (entry_bytes slot e new)) entries
  entries_still slot kind rule before [] same follow few all = tt
  entries_still slot kind rule before (e ∷ es) same follow few all =
      let here = place_kept slot old new same e.offset e.length (omega (arith, follow.0.offset, few, sum_by-cons (λ (y : Entry). y.length) e es)) in
      let more : bytes_of (before ++ e ∷ []) + bytes_of es ≤ 212480 =
      omega (arith, few, sum_by-cons (λ (y : Entry). y.length) e es, sum_by-append (λ (y : Entry). y.length) before (e ∷ []), sum_by-cons (λ (y : Entry). y.length) e []) in
      (subst (λ (bytes : List ℕ). P rule e bytes) (sym here) all.0, entries_still slot kind rule (before ++ e ∷ []) es same follow.1 more all.1)

  slot_still : (slot : ℕ) (h : HeaderValue) → SameSlot slot old new → IsHeader h → AllByRecursion (λ e. P h.kind e (entry_bytes slot e old)) h.entries
      → AllByRecursion (λ e. P h.kind e (entry_bytes slot e new)) h.entries
  slot_still slot h same right = entries_still slot h.kind h.kind [] h.entries same right.entries (omega (arith, data_within h right))

  -- it is kept still
  pub so_still : (from : ℕ) (held : List (Option HeaderValue)) → AreHeaders held → SameHeld from held old new → AreSo P from held old → AreSo P from held new
  so_still from [] headers same so = tt
  so_still from (None ∷ cs) headers same so = so_still (from + 1) cs headers same so
  so_still from (Some h ∷ cs) headers same so = (slot_still from h same.0 headers.0 so.0, so_still (from + 1) cs headers.1 same.1 so.1)

  -- and with a container more, whose entries keep it
  pub so_with : (slot from index : ℕ) (h : HeaderValue) (held : List (Option HeaderValue)) → slot ≡ from + index → get_or held index None ≡ None →
      AllByRecursion (λ e. P h.kind e (entry_bytes slot e new)) h.entries
      → AreHeaders held → SameHeld from held old new → AreSo P from held old → AreSo P from (with_slot index h held) new
  so_with slot from index h [] place empty here headers same so = tt
  so_with slot from zero h (Some g ∷ cs) place empty here headers same so = absurd cc
  so_with slot from zero h (None ∷ cs) place empty here headers same so =
      (subst (λ (s : ℕ). AllByRecursion (λ e. P h.kind e (entry_bytes s e new)) h.entries) (place ∙ omega arith) here, so_still (from + 1) cs headers same so)
  so_with slot from (suc index) h (None ∷ cs) place empty here headers same so = so_with slot (from + 1) index h cs (omega (arith, place)) empty here headers same so
  so_with slot from (suc index) h (Some g ∷ cs) place empty here headers same so =
      (slot_still from g same.0 headers.0 so.0, so_with slot (from + 1) index h cs (omega (arith, place)) empty here headers.1 same.1 so.1)

-- ---- an entry that is found

same_head : (a b : ℕ) (first second : List ℕ) → a ∷ first ≡ b ∷ second → a ≡ b
same_head a b first second e = cc

pub same_digest : (kind other : Kind) (a b : List ℕ) → key_of (kind_byte kind) a ≡ key_of (kind_byte other) b → a ≡ b
same_digest kind other a b e = tail_same (kind_byte kind) (kind_byte other) a b e

pub same_kind : (kind other : Kind) (a b : List ℕ) → key_of (kind_byte kind) a ≡ key_of (kind_byte other) b → kind ≡ other
same_kind Leaf Leaf a b e = refl
same_kind Tree Tree a b e = refl
same_kind Leaf Tree a b e = let differ = same_head 0 1 a b e in absurd (omega (arith, differ))
same_kind Tree Leaf a b e = let differ = same_head 1 0 a b e in absurd (omega (arith, differ))

module _ (P : Kind → Entry → List ℕ → Type 0) where
  so_there : (from : ℕ) (held : List (Option HeaderValue)) (index : ℕ) (h : HeaderValue) (image : List ℕ) → AreSo P from held image → get_or held index None ≡ Some h
      → AllByRecursion (λ e. P h.kind e (entry_bytes (from + index) e image)) h.entries
  so_there from [] index h image so e = absurd cc
  so_there from (None ∷ cs) zero h image so e = absurd cc
  so_there from (None ∷ cs) (suc index) h image so e =
      subst (λ slot. AllByRecursion (λ y. P h.kind y (entry_bytes slot y image)) h.entries) (omega arith) (so_there (from + 1) cs index h image so e)
  so_there from (Some g ∷ cs) zero h image so e =
      let here = subst (λ (x : HeaderValue). AllByRecursion (λ y. P x.kind y (entry_bytes from y image)) x.entries) (some_same g h e) so.0 in
      subst (λ slot. AllByRecursion (λ y. P h.kind y (entry_bytes slot y image)) h.entries) (omega arith) here
  so_there from (Some g ∷ cs) (suc index) h image so e =
      subst (λ slot. AllByRecursion (λ y. P h.kind y (entry_bytes slot y image)) h.entries) (omega arith) (so_there (from + 1) cs index h image so.1 e)

  -- the entry of a copy, and the copy's bytes
  pub record IsSo (kind : Kind) (copy : Copy) (image : List ℕ) : Type 0 where
    pub entry : Entry
    pub level_is : copy.place.level ≡ entry.level
    pub so : P kind entry (bytes_at copy.place image)

  -- the entry of the newest copy of a key keeps the rule, and so do the copy's bytes
  pub newest_so : (held : List (Option HeaderValue)) (kind : Kind) (digest image : List ℕ) (copy : Copy) → AreSo P 0 held image
      → newest 0 held (key_of (kind_byte kind) digest) ≡ Some copy → IsSo kind copy image
  newest_so held kind digest image copy so e =
      let l = lies 0 held (key_of (kind_byte kind) digest) copy e in
      let found = found_so (λ x. P l.header.kind x (entry_bytes (0 + l.index) x image)) _ l.header.entries l.entry (so_there 0 held l.index l.header image so l.there) l.found in
      let same : l.header.kind ≡ kind = same_kind l.header.kind kind l.entry.digest digest ((bytes_eq-Decides _ _).0 found.1) in
      let here = subst (λ (k : Kind). P k l.entry (entry_bytes (0 + l.index) l.entry image)) same found.0 in
      record {
        entry = l.entry;
        level_is = ap (λ (c : Copy). c.place.level) l.copy_is;
        so = subst (λ (c : Copy). P kind l.entry (bytes_at c.place image)) (sym l.copy_is) here;
      }

-- ---- the rules

-- an entry has a level of its kind
abbrev pub HasLevel : Kind → Entry → List ℕ → Type 0
HasLevel kind e bytes = is_level kind e.level ≡ true

pub have_levels : (kind rule : Kind) (before entries : List Entry) → kind ≡ rule → Follow kind before entries → AllByRecursion (λ e. is_level rule e.level ≡ true) entries
have_levels kind rule before [] same follow = tt
have_levels kind rule before (e ∷ es) same follow =
    (subst (λ (k : Kind). is_level k e.level ≡ true) same follow.0.level, have_levels kind rule (before ++ e ∷ []) es same follow.1)

pub levels_so : (from : ℕ) (held : List (Option HeaderValue)) (image : List ℕ) → AreHeaders held → AreSo HasLevel from held image
levels_so from [] image headers = tt
levels_so from (None ∷ cs) image headers = levels_so (from + 1) cs image headers
levels_so from (Some h ∷ cs) image headers = (have_levels h.kind h.kind [] h.entries refl headers.0.entries, levels_so (from + 1) cs image headers.1)

-- an entry of a tree is a node
abbrev pub IsNodeEntry : Kind → Entry → List ℕ → Type 0
IsNodeEntry kind e bytes = IsOfKind kind e.level bytes

pub nodes_so : (from : ℕ) (held : List (Option HeaderValue)) (image : List ℕ) → AreNodes from held image → AreSo IsNodeEntry from held image
nodes_so from [] image nodes = tt
nodes_so from (None ∷ cs) image nodes = nodes_so (from + 1) cs image nodes
nodes_so from (Some h ∷ cs) image nodes = (nodes.0, nodes_so (from + 1) cs image nodes.1)

pub so_nodes : (from : ℕ) (held : List (Option HeaderValue)) (image : List ℕ) → AreSo IsNodeEntry from held image → AreNodes from held image
so_nodes from [] image so = tt
so_nodes from (None ∷ cs) image so = so_nodes (from + 1) cs image so
so_nodes from (Some h ∷ cs) image so = (so.0, so_nodes (from + 1) cs image so.1)

-- an entry of data is among others
abbrev pub IsAmongThese : (List ℕ → Type 0) → Kind → Entry → List ℕ → Type 0
IsAmongThese S kind e bytes = IsAmong S kind bytes

module _ (S : List ℕ → Type 0) where
  pub among_so : (from : ℕ) (held : List (Option HeaderValue)) (image : List ℕ) → AreAmong S from held image → AreSo (IsAmongThese S) from held image
  among_so from [] image among = tt
  among_so from (None ∷ cs) image among = among_so (from + 1) cs image among
  among_so from (Some h ∷ cs) image among = (among.0, among_so (from + 1) cs image among.1)

  pub so_among : (from : ℕ) (held : List (Option HeaderValue)) (image : List ℕ) → AreSo (IsAmongThese S) from held image → AreAmong S from held image
  so_among from [] image so = tt
  so_among from (None ∷ cs) image so = so_among (from + 1) cs image so
  so_among from (Some h ∷ cs) image so = (so.0, so_among (from + 1) cs image so.1)

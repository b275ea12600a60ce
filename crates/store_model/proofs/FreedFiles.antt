-- Files, and the reserve of slots, once containers that no file needs are given back.
use Rattle.store_model.proofs.Prelude.{◌≡◌, ◌≢◌, ◌⊎◌, inl, inr, ℕ, zero, suc, ◌+◌, ◌<◌, ◌≤◌, List, [], ◌∷◌, take, Option, Some, None, refl, sym, ◌∙◌, ap, subst, arith, AllByRecursion, slice_get, eqb_tells, sha256, SLOT_BYTES, slot_at, Entry, Kind, HeaderValue, SameOutside, AreAmong, Stands, Files, with_freed, HasNoGate, SameButGates, IsPartlyFreed, Store, Encodes, AreCopies, names_of, last_sequence, IsReachable, HoldsNone, AreHeaders, HoldsSlot, newest, free_slots, first_free, without_slot, KeepsCopies, AreFilesOf, IsStoreOf, HasNewest}
use Rattle.std.specs.FinMap as finite
use Rattle.std.proofs.lemmas.Bool.Decides.{leb_tells}
use Rattle.disk_format.specs.declared.numbers.TheConstants.{RESERVE}
use Rattle.store_model.specs.Collisions.{IsOf, OpensAs}
use Rattle.store_model.specs.Files.{Stored}
use Rattle.store_model.specs.Freeing.{with_all_freed, FreesTo, FreesSome}
use Rattle.store_model.specs.Reserve.{IsSpare, IsGivable, HasReserve}
use Rattle.store_model.specs.Standing.{CanBeOpened}
use Rattle.store_model.proofs.Copies.{headers_of_right}
use Rattle.store_model.proofs.Frames.{SameSlot}
use Rattle.store_model.proofs.Free.{first_closed, some_free}
use Rattle.store_model.proofs.Freed.{closed_there, encodes_freed, same_gate, slot_held, unfreed_same, other_there, there_before}
use Rattle.store_model.proofs.FreedTrees.{newest_freed, none_after, none_of_fewer, needed_file}
use Rattle.store_model.proofs.HeldSlots.{SameHeld, AreSo, so_still, copy_still, IsNodeEntry, nodes_so, so_nodes, IsAmongThese, among_so, so_among}
use Rattle.store_model.proofs.Once.{store_once}

-- ---- which slots are freed

pub frees_some : (P : List ℕ → Type 0) (freed : List ℕ) (s t : Store) → FreesTo P freed s t → FreesSome P freed s
frees_some P [] s t frees = tt
frees_some P (slot ∷ rest) s t frees = (frees.0, frees.1, frees_some P rest (with_freed slot s) t frees.2)

pub freed_to : (P : List ℕ → Type 0) (freed : List ℕ) (s t : Store) → FreesTo P freed s t → t ≡ with_all_freed freed s
freed_to P [] s t frees = frees.0
freed_to P (slot ∷ rest) s t frees = freed_to P rest (with_freed slot s) t frees.2

-- the first of them
pub frees_first : (P : List ℕ → Type 0) (count : ℕ) (freed : List ℕ) (s : Store) → FreesSome P freed s → FreesSome P (take count freed) s
frees_first P zero freed s frees = tt
frees_first P (suc count) [] s frees = tt
frees_first P (suc count) (slot ∷ rest) s frees = (frees.0, frees.1, frees_first P count rest (with_freed slot s) frees.2)

-- at the end enough slots are closed, or no container is left that may be given back
pub freed_end : (P : List ℕ → Type 0) (freed : List ℕ) (s t : Store) → FreesTo P freed s t → (RESERVE ≤ free_slots t.held) ⊎ ((slot : ℕ) → ¬ (IsSpare P t.held slot))
freed_end P [] s t frees = subst (λ (x : Store). (RESERVE ≤ free_slots x.held) ⊎ ((slot : ℕ) → ¬ (IsSpare P x.held slot))) (sym frees.0) frees.1
freed_end P (slot ∷ rest) s t frees = freed_end P rest (with_freed slot s) t frees.2

-- ---- two closed slots

pub record TwoClosed (held : List (Option HeaderValue)) : Type 0 where
  pub first : ℕ
  pub second : ℕ
  pub differ : first < second
  pub first_is : slice_get held first ≡ Some None
  pub second_is : slice_get held second ≡ Some None

pub two_closed : (held : List (Option HeaderValue)) → 2 ≤ free_slots held → TwoClosed held
two_closed [] enough = absurd (omega (arith, enough))
two_closed (None ∷ cs) enough = record {
  first = 0;
  second = suc (first_free cs);
  differ = omega arith;
  first_is = refl;
  second_is = first_closed cs (some_free cs (omega (arith, enough)));
}
two_closed (Some h ∷ cs) enough =
    let two = two_closed cs enough in
    record { first = suc two.first; second = suc two.second; differ = omega (arith, two.differ); first_is = two.first_is; second_is = two.second_is }

one_closed : (slot : ℕ) (held : List (Option HeaderValue)) → slice_get held slot ≡ Some None → 1 ≤ free_slots held
one_closed slot [] closed = absurd cc
one_closed zero (None ∷ cs) closed = omega arith
one_closed zero (Some h ∷ cs) closed = absurd cc
one_closed (suc slot) (None ∷ cs) closed = omega arith
one_closed (suc slot) (Some h ∷ cs) closed = one_closed slot cs closed

-- two different slots that are closed
pub both_closed : (first second : ℕ) (held : List (Option HeaderValue)) → first < second → slice_get held first ≡ Some None → slice_get held second ≡ Some None →
    2 ≤ free_slots held
both_closed first second [] differ one other = absurd cc
both_closed first zero (c ∷ cs) differ one other = absurd (omega (arith, differ))
both_closed zero (suc second) (None ∷ cs) differ one other = omega (arith, one_closed second cs other)
both_closed zero (suc second) (Some h ∷ cs) differ one other = absurd cc
both_closed (suc first) (suc second) (None ∷ cs) differ one other = omega (arith, both_closed first second cs (omega (arith, differ)) one other)
both_closed (suc first) (suc second) (Some h ∷ cs) differ one other = both_closed first second cs (omega (arith, differ)) one other

-- ---- the reserve

pub free_reserve : (P : List ℕ → Type 0) (held : List (Option HeaderValue)) → 2 ≤ free_slots held → HasReserve P held
free_reserve P held enough =
    let two = two_closed held enough in
    record { first = two.first; second = two.second; differ = two.differ; first_is = inl two.first_is; second_is = inl two.second_is }

-- where no container is left that may be given back, the slots of the reserve are closed
closed_of_givable : (P : List ℕ → Type 0) (held : List (Option HeaderValue)) (slot : ℕ) → ¬ (IsSpare P held slot) → IsGivable P held slot → slice_get held slot ≡ Some None
closed_of_givable P held slot left (inl closed) = closed
closed_of_givable P held slot left (inr spare) = absurd (left spare)

pub reserve_free : (P : List ℕ → Type 0) (held : List (Option HeaderValue)) → HasReserve P held → (RESERVE ≤ free_slots held) ⊎ ((slot : ℕ) → ¬ (IsSpare P held slot)) →
    2 ≤ free_slots held
reserve_free P held reserve (inl enough) = omega (arith, enough)
reserve_free P held reserve (inr left) =
    both_closed reserve.first reserve.second held reserve.differ (closed_of_givable P held reserve.first (left reserve.first) reserve.first_is)
    (closed_of_givable P held reserve.second (left reserve.second) reserve.second_is)

-- A slot that may be given back may be still, once one is closed that has nothing that is needed.
givable_freed : (P : List ℕ → Type 0) (slot other : ℕ) (held : List (Option HeaderValue)) → HoldsNone P held slot → IsGivable P held other →
    IsGivable P (without_slot slot held) other
givable_freed P slot other held none givable = elim (eqb_tells slot other) [
  | inl same ↦ by_same same.1 givable
  | inr differ ↦ by_other differ.1 givable
]
  where
    here : (c : Option HeaderValue) → slot ≡ other → slice_get held other ≡ Some c → slice_get (without_slot slot held) other ≡ Some None
    here c same there = ap (λ (place : ℕ). slice_get (without_slot place held) other) same ∙ closed_there other c held there

    by_same : slot ≡ other → IsGivable P held other → IsGivable P (without_slot slot held) other
    by_same same (inl closed) = inl (here None same closed)
    by_same same (inr spare) = inl (here (Some spare.header) same spare.holds)

    by_other : slot ≢ other → IsGivable P held other → IsGivable P (without_slot slot held) other
    by_other differ (inl closed) = inl (other_there slot other held differ ∙ closed)
    by_other differ (inr spare) =
        inr (record { header = spare.header; holds = other_there slot other held differ ∙ spare.holds; none = none_after P slot other held none spare.none })

pub reserve_freed : (P : List ℕ → Type 0) (slot : ℕ) (held : List (Option HeaderValue)) → HoldsNone P held slot → HasReserve P held → HasReserve P (without_slot slot held)
reserve_freed P slot held none reserve = record {
  first = reserve.first;
  second = reserve.second;
  differ = reserve.differ;
  first_is = givable_freed P slot reserve.first held none reserve.first_is;
  second_is = givable_freed P slot reserve.second held none reserve.second_is;
}

pub reserve_after : (P : List ℕ → Type 0) (freed : List ℕ) (s : Store) → FreesSome P freed s → HasReserve P s.held → HasReserve P (with_all_freed freed s).held
reserve_after P [] s frees reserve = reserve
reserve_after P (slot ∷ rest) s frees reserve = reserve_after P rest (with_freed slot s) frees.2 (reserve_freed P slot s.held frees.1.none reserve)

-- the same by the same keys
givable_by : (P Q : List ℕ → Type 0) (held : List (Option HeaderValue)) (slot : ℕ) → ((key : List ℕ) → Q key → P key) → IsGivable P held slot → IsGivable Q held slot
givable_by P Q held slot each (inl closed) = inl closed
givable_by P Q held slot each (inr spare) = inr (record { header = spare.header; holds = spare.holds; none = none_of_fewer P Q held slot each spare.none })

pub reserve_by : (P Q : List ℕ → Type 0) (held : List (Option HeaderValue)) → ((key : List ℕ) → Q key → P key) → HasReserve P held → HasReserve Q held
reserve_by P Q held each reserve = record {
  first = reserve.first;
  second = reserve.second;
  differ = reserve.differ;
  first_is = givable_by P Q held reserve.first each reserve.first_is;
  second_is = givable_by P Q held reserve.second each reserve.second_is;
}

-- ---- what is held, once some slots are closed

-- all else of the store is the same
pub same_but_held : (freed : List ℕ) (s : Store) → with_all_freed freed s ≡ record s { held = (with_all_freed freed s).held }
same_but_held [] s = refl
same_but_held (slot ∷ rest) s = same_but_held rest (with_freed slot s)

-- the newest copy of each key that is needed
pub newest_after : (P : List ℕ → Type 0) (freed : List ℕ) (s : Store) (key : List ℕ) → FreesSome P freed s → P key →
    newest 0 (with_all_freed freed s).held key ≡ newest 0 s.held key
newest_after P [] s key frees needed = refl
newest_after P (slot ∷ rest) s key frees needed = newest_after P rest (with_freed slot s) key frees.2 needed ∙ newest_freed P slot s.held frees.1.none key needed

-- a rule for each entry
so_without : (P : Kind → Entry → List ℕ → Type 0) (from slot : ℕ) (held : List (Option HeaderValue)) (image : List ℕ) → AreSo P from held image →
    AreSo P from (without_slot slot held) image
so_without P from slot [] image so = tt
so_without P from zero (None ∷ cs) image so = so
so_without P from zero (Some h ∷ cs) image so = so.1
so_without P from (suc slot) (None ∷ cs) image so = so_without P (from + 1) slot cs image so
so_without P from (suc slot) (Some h ∷ cs) image so = (so.0, so_without P (from + 1) slot cs image so.1)

so_after : (P : Kind → Entry → List ℕ → Type 0) (freed : List ℕ) (s : Store) (image : List ℕ) → AreSo P 0 s.held image → AreSo P 0 (with_all_freed freed s).held image
so_after P [] s image so = so
so_after P (slot ∷ rest) s image so = so_after P rest (with_freed slot s) image (so_without P 0 slot s.held image so)

-- an entry's bytes have its digest
abbrev IsCopyEntry : Kind → Entry → List ℕ → Type 0
IsCopyEntry kind e bytes = sha256 bytes ≡ e.digest

copies_so : (from : ℕ) (held : List (Option HeaderValue)) (image : List ℕ) → AreCopies from held image → AreSo IsCopyEntry from held image
copies_so from [] image copies = tt
copies_so from (None ∷ cs) image copies = copies_so (from + 1) cs image copies
copies_so from (Some h ∷ cs) image copies = (copies.0, copies_so (from + 1) cs image copies.1)

so_copies : (from : ℕ) (held : List (Option HeaderValue)) (image : List ℕ) → AreSo IsCopyEntry from held image → AreCopies from held image
so_copies from [] image so = tt
so_copies from (None ∷ cs) image so = so_copies (from + 1) cs image so
so_copies from (Some h ∷ cs) image so = (so.0, so_copies (from + 1) cs image so.1)

-- a slot that has a container still is none of those that were closed
pub not_freed : (freed : List ℕ) (s : Store) (slot : ℕ) (h : HeaderValue) → slice_get (with_all_freed freed s).held slot ≡ Some (Some h)
    → AllByRecursion (λ gone. gone ≢ slot) freed × (slice_get s.held slot ≡ Some (Some h))
not_freed [] s slot h there = (tt, there)
not_freed (gone ∷ rest) s slot h there =
    let later = not_freed rest (with_freed gone s) slot h there in
    let before = there_before gone slot h s.held later.1 in
    ((before.0, later.0), before.1)

-- its bytes have no gate of them
no_gate : (freed : List ℕ) (slot at count : ℕ) → AllByRecursion (λ gone. gone ≢ slot) freed → slot_at slot ≤ at → at + count ≤ slot_at slot + SLOT_BYTES → HasNoGate freed at count
no_gate [] slot at count others above below = tt
no_gate (gone ∷ rest) slot at count others above below = (
  elim (leb_tells gone slot) [
    | inl least ↦ inr (let less : gone < slot = omega (arith, least.1, others.0) in omega (arith, less, above))
    | inr more ↦ inl (omega (arith, more.1, below))
  ],
  no_gate rest slot at count others.1 above below,
)

-- and are as they were
some_held : (from : ℕ) (held : List (Option HeaderValue)) (old new : List ℕ) → ((slot : ℕ) (h : HeaderValue) → slice_get held slot ≡ Some (Some h) → SameSlot (from + slot) old new)
    → SameHeld from held old new
some_held from [] old new each = tt
some_held from (None ∷ cs) old new each =
    some_held (from + 1) cs old new (λ slot h there. subst (λ (place : ℕ). SameSlot place old new) (omega arith) (each (suc slot) h there))
some_held from (Some g ∷ cs) old new each = (
  subst (λ (place : ℕ). SameSlot place old new) (omega arith) (each 0 g refl),
  some_held (from + 1) cs old new (λ slot h there. subst (λ (place : ℕ). SameSlot place old new) (omega arith) (each (suc slot) h there)),
)

still_held : (freed : List ℕ) (s : Store) (old new : List ℕ) → SameButGates freed old new → SameHeld 0 (with_all_freed freed s).held old new
still_held freed s old new same =
    some_held 0 (with_all_freed freed s).held old new (λ slot h there.
    subst (λ (place : ℕ). SameSlot place old new) (omega arith)
    (λ p n above below. same.same p n (no_gate freed slot p n (not_freed freed s slot h there).0 above below)))

-- ---- files

-- The containers that are given back are needed by no file; the bytes of all others are as they were.
module _ (S P : List ℕ → Type 0) (files : Files) (s : Store) (freed given now : List ℕ) (needed : (key : List ℕ) → IsReachable files key → P key)
    (stays : (key : List ℕ) → P key → newest 0 (with_all_freed freed s).held key ≡ newest 0 s.held key) (same : SameButGates freed given now)
    (after : Encodes now (record s { held = (with_all_freed freed s).held })) where
  abbrev more : List (Option HeaderValue)
  more = (with_all_freed freed s).held

  abbrev later : Store
  later = record s { held = more }

  headers : AreHeaders more
  headers = headers_of_right now later after

  still : SameHeld 0 more given now
  still = still_held freed s given now same

  newest_on : (key : List ℕ) (level : ℕ) (bytes : List ℕ) → P key → HasNewest s.held key level bytes given → HasNewest more key level bytes now
  newest_on key level bytes need has =
      let is : newest 0 more key ≡ Some has.copy = stays key need ∙ has.copy_is in
      record {
        copy = has.copy;
        copy_is = is;
        level_is = has.level_is;
        bytes_are = copy_still given now more key has.copy headers still is ∙ has.bytes_are;
      }

  so_on : (Q : Kind → Entry → List ℕ → Type 0) → AreSo Q 0 s.held given → AreSo Q 0 more now
  so_on Q so = so_still Q given now 0 more headers still (so_after Q freed s given so)

  files_on : AreFilesOf s.held (names_of s) given files → AreFilesOf more (names_of s) now files
  files_on are name =
      needed_file P s.held more given now newest_on files name (finite.get (names_of s) name) (finite.get files name) needed refl (are name)

  -- the store of the same files
  holds_on : IsStoreOf s files given → IsStoreOf later files now
  holds_on holds = record {
    right = after;
    copies = so_copies 0 more now (so_on IsCopyEntry (copies_so 0 s.held given holds.copies));
    nodes = so_nodes 0 more now (so_on IsNodeEntry (nodes_so 0 s.held given holds.nodes));
    files_are = files_on holds.files_are;
  }

  among_on : AreAmong S 0 s.held given → AreAmong S 0 more now
  among_on among = so_among S 0 more now (so_on (IsAmongThese S) (among_so S 0 s.held given among))

-- ---- one slot more is closed

module _ (S P : List ℕ → Type 0) (files : Files) (s : Store) (slot : ℕ) (h : HeaderValue) (given now : List ℕ) (there : slice_get s.held slot ≡ Some (Some h))
    (same : SameOutside (slot_at slot) 1 given now) (stands : Stands S s files given) where
  -- with its header still, it is the same image
  pub unfreed_stands : HoldsSlot now slot (Some h) → Stands S s files now
  unfreed_stands has =
      subst (Stands S s files) (sym (unfreed_same slot h given now same (slot_held slot s.held (Some h) given stands.holds.right.slots_are there) has)) stands

  module _ (needed : (key : List ℕ) → IsReachable files key → P key) (none : HoldsNone P s.held slot) (closed : HoldsSlot now slot None) where
    stays_one : (key : List ℕ) → P key → newest 0 (with_all_freed (slot ∷ []) s).held key ≡ newest 0 s.held key
    stays_one = newest_freed P slot s.held none

    one_encoded : Encodes now (with_freed slot s)
    one_encoded = encodes_freed slot h s given now stands.holds.right there same closed

    -- closed, it is the store without its container
    pub one_freed_stands : Stands S (with_freed slot s) files now
    one_freed_stands = record {
      holds = holds_on S P files s (slot ∷ []) given now needed stays_one (same_gate slot given now same) one_encoded stands.holds;
      among = among_on S P files s (slot ∷ []) given now needed stays_one (same_gate slot given now same) one_encoded stands.among;
    }

    -- each newest copy that is needed goes on
    pub one_freed_keeps : KeepsCopies P s given (with_freed slot s) now
    one_freed_keeps key level bytes need has =
        newest_on S P files s (slot ∷ []) given now needed stays_one (same_gate slot given now same) one_encoded key level bytes need has

-- an image is opened as the store that it holds
record OpensStore (S : List ℕ → Type 0) (stored : Stored) (s : Store) (image : List ℕ) : Type 0 where
  stands : Stands S s stored.files image
  opens : CanBeOpened s stored.files
  last_is : last_sequence s ≡ stored.last

opens_store : (S : List ℕ → Type 0) (stored : Stored) (s : Store) (image : List ℕ) → OpensAs S stored image → Encodes image s → OpensStore S stored s image
opens_store S stored s image opens right =
    subst (λ (x : Store). OpensStore S stored x image) (store_once image opens.store s opens.stands.holds.right right)
    (record { stands = opens.stands; opens = opens.opens; last_is = opens.last_is })

module _ (S P : List ℕ → Type 0) (stored : Stored) (s : Store) (freed given now : List ℕ) (fewer : (key : List ℕ) → P key → IsReachable stored.files key)
    (needed : (key : List ℕ) → IsReachable stored.files key → P key) (opens : OpensAs S stored given) (right : Encodes given s) (frees : FreesSome P freed s)
    (same : SameButGates freed given now) (after : Encodes now (with_all_freed freed s)) where
  opened : OpensStore S stored s given
  opened = opens_store S stored s given opens right

  alike : with_all_freed freed s ≡ record s { held = (with_all_freed freed s).held }
  alike = same_but_held freed s

  encoded : Encodes now (record s { held = (with_all_freed freed s).held })
  encoded = subst (Encodes now) alike after

  -- what reserve is left
  reserve_left : HasReserve P (with_all_freed freed s).held
  reserve_left = reserve_after P freed s frees (reserve_by (IsReachable stored.files) P s.held fewer opened.opens)

  still_stands : Stands S (record s { held = (with_all_freed freed s).held }) stored.files now
  still_stands = record {
    holds = holds_on S P stored.files s freed given now needed (λ key. newest_after P freed s key frees) same encoded opened.stands.holds;
    among = among_on S P stored.files s freed given now needed (λ key. newest_after P freed s key frees) same encoded opened.stands.among;
  }

  opens_on : OpensAs S stored now
  opens_on = record {
    store = record s { held = (with_all_freed freed s).held };
    stands = still_stands;
    opens = reserve_by P (IsReachable stored.files) (with_all_freed freed s).held needed reserve_left;
    last_is = opened.last_is;
  }

  stands_on : 2 ≤ free_slots (with_all_freed freed s).held → IsOf S stored now
  stands_on enough = record {
    store = record s { held = (with_all_freed freed s).held };
    stands = still_stands;
    reserve = enough;
    last_is = opened.last_is;
  }

-- Some containers are given back that no file needs: the image is opened as the same files still.
pub partly_opens : (S P : List ℕ → Type 0) (stored : Stored) (s : Store) (freed given c : List ℕ) → ((key : List ℕ) → P key → IsReachable stored.files key)
    → ((key : List ℕ) → IsReachable stored.files key → P key) → OpensAs S stored given → Encodes given s → FreesSome P freed s → IsPartlyFreed s freed given c → OpensAs S stored c
partly_opens S P stored s freed given c fewer needed opens right frees part =
    opens_on S P stored s (take part.count freed) given c fewer needed opens right (frees_first P part.count freed s frees) part.same part.right

-- All are that have to be: the store of the same files has its reserve.
pub freed_stands : (S P : List ℕ → Type 0) (stored : Stored) (s t : Store) (freed given now : List ℕ) → ((key : List ℕ) → P key → IsReachable stored.files key)
    → ((key : List ℕ) → IsReachable stored.files key → P key) → OpensAs S stored given → Encodes given s → FreesTo P freed s t → Encodes now t → SameButGates freed given now
    → IsOf S stored now
freed_stands S P stored s t freed given now fewer needed opens right frees after same =
    let some = frees_some P freed s t frees in
    let is : t ≡ with_all_freed freed s = freed_to P freed s t frees in
    let later : Encodes now (with_all_freed freed s) = subst (Encodes now) is after in
    let end = subst (λ (x : Store). (RESERVE ≤ free_slots x.held) ⊎ ((slot : ℕ) → ¬ (IsSpare P x.held slot))) is (freed_end P freed s t frees) in
    stands_on S P stored s freed given now fewer needed opens right some same later
    (reserve_free P (with_all_freed freed s).held (reserve_left S P stored s freed given now fewer needed opens right some same later) end)

-- ---- a store that has its reserve can be opened

pub opens_of : (S : List ℕ → Type 0) (stored : Stored) (image : List ℕ) → IsOf S stored image → OpensAs S stored image
opens_of S stored image is = record {
  store = is.store;
  stands = is.stands;
  opens = free_reserve (IsReachable stored.files) is.store.held is.reserve;
  last_is = is.last_is;
}

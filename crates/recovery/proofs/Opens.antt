-- An opening: room that was made, or not, as it is told of the disk from its start on.
use Rattle.recovery.proofs.Prelude.{◌≢◌, ◌⊎◌, inl, inr, ℕ, ◌<◌, ◌≤◌, List, [], ◌∷◌, Some, Ok, refl, sym, ◌∙◌, subst, PlaceMap, Done, Reads, ending_of, Shows, DiskView, IsDurable, IsLater, OnlyReads, counts_on, later_on, shown_content, until, weaker, RESERVE, CellFault, Top, NamedRoot, listing_of, Refusal, Memory, DiskRead, DiskWrite, Damaged, ByteSet, FreesSome, FreesTo, IsPartlyFreed, SameButGates, with_all_freed, Store, Encodes, names_of, IsIndexOf, free_slots, partial_of, store_once, OpenStore, blames, Represents, HasPlace, IsVisitRefusal, IsVisited, VisitsRoots, WasRead, roots_wider, MakesNoRoom, MakesRoom, AllHeld, IsStuckAmong, IsFound, cell_refusal, RoomMade, RoomUnmade, IsSlotsRefusal}
use Rattle.std.proofs.Common.{◌≡◌}
use Rattle.dd_disk.proofs.Later.{reads_on}
use Rattle.journal_cells.specs.declared.fault.CellFault.TheVariants as cell
use Rattle.refusals.specs.declared.refusal.Refusal.TheVariants.{Corrupt, Missing}
use Rattle.store_model.specs.Collisions.{IsIn, IsOf, OpensAs}
use Rattle.store_model.specs.Files.{Stored}
use Rattle.store_model.specs.Reserve.{IsReachable}
use Rattle.store_model.specs.Slots.{key_set_of}
use Rattle.store_model.proofs.Counted.{in_index, of_index}
use Rattle.store_model.specs.Standing.{IsStoreOf}
use Rattle.store_model.proofs.FreedFiles.{freed_stands, partly_opens}
use Rattle.read_steps.proofs.Visited.{all_indexed, names_held as trees_held, needed_visited, read_earlier, visited_needed}
use Rattle.recovery.specs.Making.{IsMakeRefusal, IsWalkedFirst}
use Rattle.recovery.specs.Room.{FreesAfterAll, IsNotFull, IsRoomRefusal, IsShort, IsStuck, ReadsStore}
use Rattle.read_steps.proofs.TreeWalks.{among_since}
use Rattle.recovery.proofs.Rooms.{leaves_since}
use Rattle.recovery.proofs.Spare.{all_by, frees_all, some_by}

-- ---- files

module _ (store : Store) (among : ByteSet) (stored : Stored) (given : List ℕ) (right : Encodes given store) (opens : OpensAs (IsIn among) stored given) where
  of_store : IsStoreOf store stored.files given
  of_store = subst (λ (s : Store). IsStoreOf s stored.files given) (store_once given opens.store store opens.stands.holds.right right) opens.stands.holds

  names_held : (index : PlaceMap) → IsIndexOf store.held index → AllHeld (key_set_of index) store.held given (listing_of (names_of store))
  names_held index all =
      trees_held store stored.files given of_store (key_set_of index) (λ key needed. in_index index key (all_indexed store stored.files given index of_store all key needed))

  opens_none : (c : List ℕ) → IsPartlyFreed store [] given c → OpensAs (IsIn among) stored c
  opens_none c part = partly_opens (IsIn among) (IsReachable stored.files) stored store [] given c (λ key is. is) (λ key is. is) opens right tt part

  module _ (index : PlaceMap) (newest : IsIndexOf store.held index) (old new : DiskView) (told : old.content ≡ Some given) (visited : List Top)
      (visits : VisitsRoots (WasRead (Some index) old new) (HasPlace (Some index)) (listing_of (names_of store)) visited) where
    fewer : (key : List ℕ) → IsVisited visited key → IsReachable stored.files key
    fewer = needed_visited store stored.files given index old new visited told of_store newest visits

    needed : (key : List ℕ) → IsReachable stored.files key → IsVisited visited key
    needed = visited_needed store stored.files given index old new visited told of_store newest visits

    opens_some : (freed c : List ℕ) → FreesSome (IsVisited visited) freed store → IsPartlyFreed store freed given c → OpensAs (IsIn among) stored c
    opens_some freed c frees part = partly_opens (IsIn among) (IsVisited visited) stored store freed given c fewer needed opens right frees part

    spares_all : (freed : List ℕ) (after : Store) → FreesTo (IsVisited visited) freed store after → FreesTo (IsReachable stored.files) freed store after
    spares_all freed after frees = all_by (IsVisited visited) (IsReachable stored.files) fewer needed freed store after frees

    spares_some : (freed : List ℕ) → FreesSome (IsVisited visited) freed store → FreesSome (IsReachable stored.files) freed store
    spares_some freed frees = some_by (IsVisited visited) (IsReachable stored.files) fewer needed freed store frees

    stands_all : (freed now : List ℕ) (after : Store) → FreesTo (IsVisited visited) freed store after → Encodes now after → SameButGates freed given now →
        IsOf (IsIn among) stored now
    stands_all freed now after frees there same = freed_stands (IsIn among) (IsVisited visited) stored store after freed given now fewer needed opens right frees there same

-- ---- from the start of an opening on

module _ (old mid new : DiskView) (reads : Reads Done old mid) (o : OpenStore) (found : IsFound (Shows old mid) old.size o) (closed : ℕ) (few : closed < RESERVE)
    (closed_is : closed ≡ free_slots found.store.held)
    (later : IsLater mid new) where
  abbrev short : IsShort (Shows old new) old.size
  short = record {
    store = found.store;
    right = until old mid new found.right reads.only.later.clock_is later;
    valid = found.valid;
    few = subst (λ (n : ℕ). n < RESERVE) closed_is few;
    index = o.containers.index;
    index_is = found.represents.containers.index;
  }

  abbrev roots : List NamedRoot
  roots = listing_of (names_of found.store)

  abbrev placed : List ℕ → Type 0
  placed = HasPlace (Some o.containers.index)

  visits_earlier : (ns : List NamedRoot) (visited : List Top) → VisitsRoots (WasRead (Some o.containers.index) mid new) placed ns visited →
      VisitsRoots (WasRead (Some o.containers.index) old new) placed ns visited
  visits_earlier ns visited visits =
      roots_wider (WasRead (Some o.containers.index) mid new) (WasRead (Some o.containers.index) old new) placed placed ns visited visits
      (read_earlier (Some o.containers.index) old mid new reads.only)
      (λ key has. has)

  content_encodes : (given : List ℕ) → old.content ≡ Some given → Encodes given found.store
  content_encodes given known = shown_content old mid (λ image. Encodes image found.store) given found.right known

  pub room_made : MakesRoom found.store o.containers.index mid new → RoomMade old new
  room_made makes =
      let freed = makes.gives.freed in
      let visits : VisitsRoots (WasRead (Some o.containers.index) old new) placed roots makes.visited = visits_earlier roots makes.visited makes.visits in
      let frees : FreesTo (IsVisited makes.visited) freed found.store (with_all_freed freed found.store) =
      frees_all (IsVisited makes.visited) freed found.store makes.gives.are_freed.frees makes.gives.enough in
      record {
        later = later_on old mid new reads.only.later later;
        faults_are = makes.steady.faults_are ∙ reads.faults_are;
        durable = makes.steady.durable;
        short = short;
        walk = record { visited = makes.visited; visits = visits };
        freed = freed;
        after = with_all_freed freed found.store;
        frees = frees;
        content = λ given known.
            let right = content_encodes given known in
            let now = makes.gives.are_freed.content given (reads.only.content_is ∙ known) right in (
              now.0,
              now.1,
              (
                now.2.0,
                now.2.1,
                (record {
                  stands = λ among stored opens. stands_all found.store among stored given right opens o.containers.index found.represents.containers.index old new known
                      makes.visited visits freed now.0
                      (with_all_freed freed found.store) frees now.2.0 now.2.1;
                  on_the_way = λ among stored c opens part. opens_some found.store among stored given right opens o.containers.index found.represents.containers.index old new
                      known makes.visited visits freed c
                      makes.gives.are_freed.frees part;
                  spares = λ among stored opens. spares_all found.store among stored given right opens o.containers.index found.represents.containers.index old new known
                      makes.visited visits freed
                      (with_all_freed freed found.store) frees;
                }),
                now.2.2,
              ),
            );
        crash = λ given known. leaves_since found.store o.containers.index old mid new reads.only freed later makes.gives.are_freed.crash given known (content_encodes given known);
      }

  -- ---- why none was made

  stuck_earlier : OnlyReads mid new → (refusal : Refusal) → IsStuckAmong o.containers.index mid new roots refusal → IsStuck old new short refusal
  stuck_earlier only refusal stuck =
      let earlier = among_since o.containers.index o.containers.index old mid new refl reads.only only roots refusal stuck in
      record {
        before = earlier.before;
        at = earlier.at;
        rest = earlier.rest;
        names_are = earlier.roots_are;
        visited = earlier.visited;
        visits = earlier.visits;
        visited_there = earlier.stuck.visited;
        ahead = earlier.stuck.ahead;
        way = earlier.stuck.way;
        cause = earlier.stuck.cause;
      }

  stuck_refusal : (refusal : Refusal) → IsStuck old new short refusal → IsRoomRefusal old new short refusal
  stuck_refusal Memory is = tt
  stuck_refusal DiskRead is = tt
  stuck_refusal DiskWrite is = tt
  stuck_refusal (Corrupt slot offset count want got) is = is
  stuck_refusal (Missing key) is = is
  stuck_refusal (Damaged at why) is = is
  stuck_refusal refusal is = elim is.ahead as (λ (tops : List Top). IsVisitRefusal (Some o.containers.index) (λ at why image. ⊥) old new tops refusal → ⊥) [
    | [] ↦ λ none. none
    | t ∷ ts ↦ λ none. elim none [ inl leaf ↦ leaf.1 | inr node ↦ node.1 ]
  ] is.cause

  room_refusal : (refusal : Refusal) → IsMakeRefusal found.store o.containers.index mid new refusal → IsRoomRefusal old new short refusal
  room_refusal refusal (inl is) = subst (IsRoomRefusal old new short) (sym is) tt
  room_refusal refusal (inr (only, inl is)) = subst (IsRoomRefusal old new short) (sym is) tt
  room_refusal refusal (inr (only, inr stuck)) = stuck_refusal refusal (stuck_earlier only refusal stuck)

  walked_earlier : (refusal : Refusal) (freed : List ℕ) → IsWalkedFirst found.store o.containers.index refusal mid new freed → FreesAfterAll refusal old new short freed
  walked_earlier refusal freed (inl none) = inl none
  walked_earlier refusal freed (inr (is, walk)) = inr (is, (record { visited = walk.0; visits = visits_earlier roots walk.0 walk.1.0 }, walk.1.1))

  opens_after : (refusal : Refusal) (among : ByteSet) (stored : Stored) (given freed c : List ℕ) → old.content ≡ Some given → OpensAs (IsIn among) stored given →
      IsWalkedFirst found.store o.containers.index refusal mid new freed
      → IsPartlyFreed found.store freed given c → OpensAs (IsIn among) stored c
  opens_after refusal among stored given freed c known opens (inl none) part =
      opens_none found.store among stored given (content_encodes given known) opens c (subst (λ (slots : List ℕ). IsPartlyFreed found.store slots given c) none part)
  opens_after refusal among stored given freed c known opens (inr (is, walk)) part =
      opens_some found.store among stored given (content_encodes given known) opens o.containers.index found.represents.containers.index old new known walk.0
      (visits_earlier roots walk.0 walk.1.0) freed c walk.1.1 part

  spares_after : (refusal : Refusal) (among : ByteSet) (stored : Stored) (given freed : List ℕ) → old.content ≡ Some given → OpensAs (IsIn among) stored given →
      IsWalkedFirst found.store o.containers.index refusal mid new freed
      → FreesSome (IsReachable stored.files) freed found.store
  spares_after refusal among stored given freed known opens (inl none) = subst (λ (slots : List ℕ). FreesSome (IsReachable stored.files) slots found.store) (sym none) tt
  spares_after refusal among stored given freed known opens (inr (is, walk)) =
      spares_some found.store among stored given (content_encodes given known) opens o.containers.index found.represents.containers.index old new known walk.0
      (visits_earlier roots walk.0 walk.1.0) freed walk.1.1

  -- all was read before anything was written
  read_only : (refusal : Refusal) → IsMakeRefusal found.store o.containers.index mid new refusal → (refusal ≡ DiskWrite) ⊎ OnlyReads old new
  read_only refusal (inl is) = inl is
  read_only refusal (inr (only, stuck)) = inr (reads_on old mid new reads.only only)

  pub room_unmade : (refusal : Refusal) → MakesNoRoom found.store o.containers.index refusal mid new → RoomUnmade refusal old new
  room_unmade refusal makes = record {
    later = later_on old mid new reads.only.later later;
    faults_are = counts_on (ending_of (blames refusal)) old.faults mid.faults new.faults reads.faults_are makes.faults_are;
    short = short;
    cause = room_refusal refusal makes.cause;
    only = read_only refusal makes.cause;
    freed = makes.freed;
    frees = walked_earlier refusal makes.freed makes.walked;
    content = λ given known. makes.content given (reads.only.content_is ∙ known) (content_encodes given known);
    images = λ given known. makes.images given (reads.only.content_is ∙ known) (content_encodes given known);
    crash = λ given known. leaves_since found.store o.containers.index old mid new reads.only makes.freed later makes.crash given known (content_encodes given known);
    files = λ given known among stored opens. (
      makes.failed (key_set_of o.containers.index) found.store.held given
          (record {
            told = reads.only.content_is ∙ known;
            index = o.containers.index;
            index_known = refl;
            index_is_newest = partial_of found.store.held o.containers.index found.represents.containers.index;
            has = λ key. of_index o.containers.index key;
          })
          (names_held found.store among stored given (content_encodes given known) opens o.containers.index found.represents.containers.index),
      λ c part. opens_after refusal among stored given makes.freed c known opens makes.walked part,
    );
    spares = λ given known among stored opens. spares_after refusal among stored given makes.freed known opens makes.walked;
  }

-- ---- what is answered

-- where no write was refused the disk was only read
pub only_read : (refusal : Refusal) (old new : DiskView) → refusal ≢ DiskWrite → RoomUnmade refusal old new → Reads (ending_of (blames refusal)) old new
only_read refusal old new other unmade = elim unmade.only [
  | inl write ↦ absurd (other write)
  | inr only ↦ record { only = only; faults_are = unmade.faults_are }
]

-- it was, and enough slots are closed
pub reads_opened : (o : OpenStore) (old new : DiskView) (closed : ℕ) (found : IsFound (Shows old new) old.size o) → RESERVE ≤ closed → closed ≡ free_slots found.store.held →
    IsDurable new → Reads Done old new
    → ReadsStore (Ok o) old new
reads_opened o old new closed found enough is durable reads = record {
  opened = record { found = found; reserve = subst (λ n. RESERVE ≤ n) is enough };
  only = weaker old new (λ image sized right store other. subst (λ (s : Store). Represents s o) (store_once image found.store store right other) found.represents) found.right;
  durable = durable;
  reads = reads;
  refused = tt;
}

-- ---- no part of an opening but its last check says that too few slots are closed

pub cell_not_full : (fault : CellFault) (refusal : Refusal) → refusal ≡ cell_refusal fault → IsNotFull refusal
cell_not_full fault refusal is = subst IsNotFull (sym is) (by_fault fault)
  where
    by_fault : (f : CellFault) → IsNotFull (cell_refusal f)
    by_fault cell.Memory = tt
    by_fault cell.DiskRead = tt
    by_fault cell.DiskWrite = tt
    by_fault (cell.Damaged at why) = tt
    by_fault (cell.NotAStore gate magic) = tt
    by_fault (cell.Version n) = tt
    by_fault cell.Numbers = tt

pub slots_not_full : (shown : (List ℕ → Type 0) → Type 0) (slots : ℕ) (refusal : Refusal) → IsSlotsRefusal shown slots refusal → IsNotFull refusal
slots_not_full shown slots Memory is = tt
slots_not_full shown slots DiskRead is = tt
slots_not_full shown slots (Damaged at why) is = tt
slots_not_full shown slots refusal is = absurd is

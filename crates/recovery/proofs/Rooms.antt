-- Room that is made, or not: the walk of all trees, and then containers that are given back.
use Rattle.recovery.proofs.Prelude.{◌⊎◌, inl, inr, ℕ, Bool, true, false, List, [], length, get_or, Some, Result, Ok, Err, OnOk, OnErr, refl, sym, ◌∙◌, ap, subst, Place, PlaceMap, CountsFault, Reads, ending, ending_of, DiskView, IsLater, IsDurable, OnlyReads, counts_on, later_on, leaves_on, reads_leave, size_of, Top, NamedRoot, listing_of, Refusal, DiskWrite, IsPartlyFreed, Store, IsValidFor, names_of, Copy, IsIndexOf, free_slots, ids_of, partial_of, OpenStore, blames, fails, Represents, HasPlace, IsVisited, VisitsRoots, WasRead, roots_wider, IsMarked, IsTreesRefusal, WhereHeld, AllHeld, IsReady, LeavesFreed, GivesBack, StopsGiving, MakesRoom, MakesNoRoom}
use Rattle.std.proofs.Common.{◌≡◌, IfErr, IsTrue}
use Rattle.std.specs.Prelude.{option_map}
use Rattle.std.specs.FinMap as finite
use Rattle.store_model.proofs.Lookups.{finds}
use Rattle.store_model.proofs.Free.{as_many}
use Rattle.read_steps.proofs.Visited.{read_wider}
use Rattle.recovery.specs.Marking.{MarksFor}
use Rattle.recovery.specs.Making.{AreMarks}
use Rattle.recovery.proofs.Giving.{part_none}

-- ---- marks

-- marks by the index are those by the newest copies
are_marks : (store : Store) (index : PlaceMap) (visited : List Top) (used : List Bool) → IsIndexOf store.held index → IsMarked index visited used →
    AreMarks (IsVisited visited) store.held used
are_marks store index visited used newest marked = record {
  clear = λ slot unused key copy needed is here.
      let found : finite.get index key ≡ Some copy.place = newest key ∙ ap (option_map (λ (c : Copy). c.place)) is in
      let there : get_or used slot false ≡ true = subst (λ (k : ℕ). get_or used k false ≡ true) here (marked.all key copy.place needed found) in
      let wrong : false ≡ true = sym unused ∙ there in
      cc;
  needed = λ slot is none.
      let key = marked.only slot is in
      let copy = finds store index key.0 key.1.0 (partial_of store.held index newest) key.1.1.1 in
      none key.0 copy.0 key.1.1.0 copy.1 (ap (λ (p : Place). p.slot) copy.2 ∙ key.1.1.2);
}

-- ---- the walk, and then containers

module _ (store : Store) (index : PlaceMap) (old mid new : DiskView) (reads : OnlyReads old mid) where
  pub leaves_since : (freed : List ℕ) → IsLater mid new → LeavesFreed store freed mid new → LeavesFreed store freed old new
  leaves_since freed later leaves given known right =
      leaves_on (λ c. old.images c ⊎ IsPartlyFreed store freed given c) (λ c. mid.images c ⊎ IsPartlyFreed store freed given c)
      (λ c. old.images c ⊎ IsPartlyFreed store freed given c) old mid new
      reads.later.clock_is (reads_leave (λ c. old.images c ⊎ IsPartlyFreed store freed given c) old mid (λ c image. inl image) reads)
      (leaves given (reads.content_is ∙ known) right) (λ c is. is)
      (λ c is. elim is [ inl image ↦ inl (reads.images_are c image) | inr part ↦ inr part ])

  gives_since : (visited : List Top) → IsLater mid new → GivesBack store visited mid new → GivesBack store visited old new
  gives_since visited later gives = record {
    freed = gives.freed;
    are_freed = record {
      frees = gives.are_freed.frees;
      content = λ given known right. gives.are_freed.content given (reads.content_is ∙ known) right;
      crash = leaves_since gives.freed later gives.are_freed.crash;
    };
    enough = gives.enough;
  }

  visits_until : (visited : List Top) → IsLater mid new → VisitsRoots (WasRead (Some index) old mid) (HasPlace (Some index)) (listing_of (names_of store)) visited
      → VisitsRoots (WasRead (Some index) old new) (HasPlace (Some index)) (listing_of (names_of store)) visited
  visits_until visited later visits =
      roots_wider (WasRead (Some index) old mid) (WasRead (Some index) old new) (HasPlace (Some index)) (HasPlace (Some index)) (listing_of (names_of store)) visited visits
      (read_wider (Some index) old mid new reads.later.clock_is later) (λ key has. has)

  module _ (used : List Bool) (ids : List ℕ) (closed : ℕ) (valid : IsValidFor old.size store) (newest : IsIndexOf store.held index) (ids_are : ids ≡ ids_of store.held)
      (free : closed ≡ free_slots store.held)
      (marks : MarksFor index old mid (listing_of (names_of store)) used) (later : IsLater mid new) where
    ready : IsReady mid.size store marks.visited ids used closed
    ready = record {
      valid = subst (λ (n : ℕ). IsValidFor n store) (sym reads.later.size_is) valid;
      ids_are = ids_are;
      free_is = free;
      marks = are_marks store index marks.visited used newest marks.marks;
    }

    abbrev Given : (Store → List Top → DiskView → DiskView → Type 0) → Type 0
    Given P = (s : Store) (visited : List Top) → IsReady mid.size s visited ids used closed → P s visited mid new

    pub makes_room : Given GivesBack → IsDurable new → new.faults ≡ old.faults → MakesRoom store index old new
    makes_room gives durable faults = record {
      steady = record { later = later_on old mid new reads.later later; faults_are = faults; durable = durable };
      visited = marks.visited;
      visits = visits_until marks.visited later marks.visits;
      gives = gives_since marks.visited later (gives store marks.visited ready);
    }

    pub stops_room : (refusal : Refusal) → Given StopsGiving → refusal ≡ DiskWrite → CountsFault (ending_of (blames refusal)) old.faults new.faults →
        MakesNoRoom store index refusal old new
    stops_room refusal stops is faults =
        let stopped = stops store marks.visited ready in
        record {
          later = later_on old mid new reads.later later;
          faults_are = faults;
          cause = inl is;
          freed = stopped.freed;
          walked = inr (is, (marks.visited, (visits_until marks.visited later marks.visits, stopped.are_cut.frees)));
          content = λ given known right. stopped.are_cut.content given (reads.content_is ∙ known) right;
          images = λ given known right. stopped.are_cut.images given (reads.content_is ∙ known) right;
          crash = leaves_since stopped.freed later stopped.are_cut.crash;
          failed = λ counts held image indexed all. subst (λ (r : Refusal). IsTrue (fails r)) (sym is) refl;
        }

-- the walk was not done
pub walk_failed : (store : Store) (index : PlaceMap) (old new : DiskView) (refusal : Refusal) → IsDurable old → Reads (ending_of (blames refusal)) old new →
    IsTreesRefusal index old new (listing_of (names_of store)) refusal
    → WhereHeld index old.content (λ counts held image. AllHeld counts held image (listing_of (names_of store))) (λ counts held image. IsTrue (fails refusal)) →
    MakesNoRoom store index refusal old new
walk_failed store index old new refusal durable reads cause failed = record {
  later = reads.only.later;
  faults_are = reads.faults_are;
  cause = inr (reads.only, cause);
  freed = [];
  walked = inl refl;
  content = λ given known right. (given, reads.only.content_is ∙ known, part_none store given right);
  images = λ given known right c image. subst (IsPartlyFreed store [] given) (sym (durable given known c (reads.only.images_are c image))) (part_none store given right);
  crash = λ given known right. reads_leave (λ c. old.images c ⊎ IsPartlyFreed store [] given c) old new (λ c image. inl image) reads.only;
  failed = failed;
}

-- what came of it, by what was answered
pub by_given : (result : Result (Unit {0}) Refusal) (old mid new : DiskView) (P : Type 0) (Given : Type 0) → mid.faults ≡ old.faults →
    CountsFault (ending blames result) mid.faults new.faults
    → OnOk result Given → OnOk result (IsDurable new) → (Given → IsDurable new → new.faults ≡ old.faults → P) → OnOk result P
by_given (Ok x) old mid new P Given still faults given durable each = each given durable (faults ∙ still)
by_given (Err e) old mid new P Given still faults given durable each = tt

pub by_stopped : (result : Result (Unit {0}) Refusal) (old mid new : DiskView) (P : Refusal → Type 0) (Stopped : Type 0) → mid.faults ≡ old.faults →
    CountsFault (ending blames result) mid.faults new.faults
    → OnErr result Stopped → IfErr result (λ r. r ≡ DiskWrite) → ((r : Refusal) → Stopped → r ≡ DiskWrite → CountsFault (ending_of (blames r)) old.faults new.faults → P r) →
    IfErr result P
by_stopped (Ok x) old mid new P Stopped still faults stopped is each = tt
by_stopped (Err r) old mid new P Stopped still faults stopped is each = each r stopped is (counts_on (ending_of (blames r)) old.faults mid.faults new.faults still faults)

-- the same names
pub marks_of : (store : Store) (index : PlaceMap) (old new : DiskView) (roots : List NamedRoot) (items used : List Bool) → roots ≡ listing_of (names_of store) → used ≡ items →
    MarksFor index old new roots items
    → MarksFor index old new (listing_of (names_of store)) used
marks_of store index old new roots items used same is marks =
    subst (MarksFor index old new (listing_of (names_of store))) (sym is) (subst (λ (ns : List NamedRoot). MarksFor index old new ns items) same marks)

-- as many ids as slots
pub slots_ids : (size : ℕ) (o : OpenStore) (store : Store) → Represents store o → IsValidFor size store → length o.containers.ids.items ≡ o.slots
slots_ids size o store represents valid = ap length represents.containers.ids ∙ as_many store.held ∙ valid.many ∙ sym represents.slots_are

pub size_ids : (size : ℕ) (o : OpenStore) (store : Store) → Represents store o → IsValidFor size store → size ≡ size_of o.slots
size_ids size o store represents valid = valid.size_is ∙ ap size_of (sym represents.slots_are)

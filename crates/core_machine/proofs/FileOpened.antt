-- An opening, at first or again, of a disk that stands for files is one of the machine of files, which then stands for what was opened.
use Rattle.core_machine.proofs.Prelude.{◌≢◌, ◌≡◌, ◌⊎◌, inl, inr, ◌<◌, ◌≤◌, ℕ, zero, suc, true, false, List, [], ◌∷◌, replicate, take, Some, None, Ok, Err, refl, sym, ◌∙◌, ap, subst, arith, AllByRecursion, ACTORS, Shows, DiskView, OnlyReads, shown_content, RESERVE, RoomMade, RoomUnmade, Refusal, ByteSet, IsIn, IsOf, OpensAs, FreesSome, FreesTo, IsPartlyFreed, with_all_freed, Encodes, Store, last_sequence, IsReachable, free_slots, last_id, store_once, IsReadFrom, OpensCore, OpensNone, WritesUnread, IsAt, CoreState, FileMachine, SameNow, Found, Reading, RunState, Running, Stopped, all_idle, NamesNeed, IsGivenBack, IsNamedBy, MayRefuseOpening, freeing, RootMachine, of_files, of_roots, KnownWith, ChangesBytes, FitsBy, IsAtFiles, IsFileMachine, MayStand, StandsFor, stored_in, stores_freed, stores_left, IsMachine}
use Rattle.std.proofs.Common.{IsTrue, slice_index_or}
use Rattle.std.specs.FinMap as finite
use Rattle.recovery.specs.Opening as recovery
use Rattle.recovery.specs.Room.{IsNotFull}
use Rattle.refusals.specs.declared.refusal.Refusal.TheVariants as refusals
use Rattle.store_model.specs.Standing.{IsStoreOf}
use Rattle.store_model.proofs.FreedFiles.{frees_some, freed_to, opens_of}
use Rattle.store_state.specs.Refused.{fails}
use Rattle.store_core.specs.Opening.{BeginsAt, IsGivenUp, IsKept, StaysOrStops}
use Rattle.store_core.proofs.Opened.{begins_at}
use Rattle.store_machine.specs.Done as done
use Rattle.store_machine.specs.Forgetting.{Forgets, SameParts}
use Rattle.store_machine.specs.Machine.{Part, Idle}
use Rattle.store_machine.specs.Opening.{Opens, Stands}
use Rattle.store_machine.proofs.Forgotten.{still_same}
use Rattle.store_machine.proofs.SameNames.{len_same}
use Rattle.core_machine.specs.Bytes.{BeganRoom, LeavesUnopened, MadeRoom}
use Rattle.core_machine.specs.FileOpenings.{LeavesFor, FilesOpened, FilesReopenedNot, FilesUnopened, Reopens, opening}
use Rattle.core_machine.specs.Openings.{LeavesMachine, store_read}
use Rattle.core_machine.proofs.Bytes.{known_of}
use Rattle.core_machine.proofs.FileFreed.{all_needed, each_given, found_still, given_back, on_the_way, some_needed, stands_still, stands_too}
use Rattle.core_machine.proofs.FileNames.{now_of_store, named_by}
use Rattle.core_machine.proofs.FileStands.{disk_stands, stands_opens}
use Rattle.core_machine.proofs.FileStays.{stands_read, still_at_files}
use Rattle.core_machine.proofs.Opened.{opened_refines, unopened_refines, some_left}
use Rattle.core_machine.proofs.OpeningCrashes.{all_found, opened_leaves, unopened_leaves}

-- ---- what an image is

-- the store that reads showed is the one that the content holds
read_once : (old new : DiskView) (image : List ℕ) (read store : Store) → Shows old new (λ bytes. Encodes bytes read) → old.content ≡ Some image → Encodes image store → read ≡ store
read_once old new image read store shown told right = store_once image read store (shown_content old new (λ bytes. Encodes bytes read) image shown told) right

-- ---- a machine that was opened

abbrev idle : Part (List ℕ) (List (List ℕ))
idle = Idle

all_same : (count : ℕ) → SameParts (replicate count idle) (replicate count Idle)
all_same zero = tt
all_same (suc count) = (tt, all_same count)

idle_at : (count actor : ℕ) → slice_index_or (replicate count idle) actor idle ≡ idle
idle_at zero actor = refl
idle_at (suc count) zero = refl
idle_at (suc count) (suc actor) = idle_at count actor

-- it is at rest
abbrev at_rest : Found (List ℕ) → Store → FileMachine
at_rest found store = record {
  now = found;
  parts = all_idle;
  store = store;
  last_id = last_id store.held;
  forgotten = [];
  swept = false;
  collection = None;
  acknowledged = 0;
  state = Running;
}

-- The store was read of a disk whose content was of these files; and the core is the machine t of roots.
module _ (among : ByteSet) (before : DiskView) (c : CoreState) (read : IsReadFrom before c) (image : List ℕ) (told : before.content ≡ Some image) (found : Found (List ℕ))
    (is : IsOf (IsIn among) (stored_in found) image) (t : RootMachine) (machine : IsMachine true t c) (store_is : t.store ≡ read.opened.store) where
  abbrev S : List ℕ → Type 0
  S = IsIn among

  begins : BeginsAt S (stored_in found) c
  begins = begins_at S (stored_in found) image before c read.opened read.durable read.reads told is

  here : c.disk.content ≡ Some image
  here = read.reads.only.content_is ∙ told

  store_here : t.store ≡ is.store
  store_here = store_is ∙ read_once before c.disk image read.opened.store is.store read.opened.right told is.stands.holds.right

  begins_here : begins.store ≡ t.store
  begins_here =
      store_once image begins.store is.store (begins.is_at.stands.each image (c.disk.as_read image here)).holds.right is.stands.holds.right
      ∙ sym store_here

  holds_here : IsStoreOf t.store found.names image
  holds_here = subst (λ (store : Store). IsStoreOf store found.names image) (sym store_here) is.stands.holds

  pub same_found : SameNow found t.now
  same_found = now_of_store t.store image found t.now holds_here machine.names
      (machine.last ∙ ap last_sequence store_here ∙ is.last_is)

  at_files : IsAtFiles S (at_rest found t.store) c
  at_files = record {
    is_at = subst (λ (store : Store). IsAt S store (stored_in found) c) begins_here begins.is_at;
    settled = begins.settled;
    reads = λ actor file rest reader reading core_is. absurd (let wrong : Idle ≡ Reading file rest = sym (idle_at ACTORS actor) ∙ reading in cc);
    lives = λ ran collection runs core_runs. absurd (let wrong : None ≡ Some ran = runs in cc);
    wrote = λ ran collection runs core_runs. absurd (let wrong : None ≡ Some ran = runs in cc);
  }

  pub is_files : Opens of_roots (finite.len c.tables.names) t t → IsFileMachine S (at_rest found t.store) c
  is_files opens = record {
    roots = t;
    forgets = subst (Forgets (at_rest found t.store)) (sym opens.others) (record {
      now = subst (SameNow found) (ap (λ (x : RootMachine). x.now) opens.others) same_found;
      parts = all_same ACTORS;
      store = refl;
      last_id = refl;
      forgotten = refl;
      swept = refl;
      collection = refl;
      acknowledged = refl;
      state = tt;
    });
    machine = machine;
    fits = at_files;
  }

-- ---- an opening, by what is known of the disk

module _ (among : ByteSet) (m : FileMachine) (old : DiskView) (image : List ℕ) (told : old.content ≡ Some image) (stand : MayStand (IsIn among) m image) where
  abbrev In : List ℕ → Type 0
  In = IsIn among

  abbrev of_found : OpensAs In (stored_in stand.found) image
  of_found = stands_opens In m image stand

  named_here : IsNamedBy of_files stand.found stand.store
  named_here = named_by stand.store image stand.found stand.is.holds stand.last_is

  legal : (actor : ℕ) (c : CoreState) (t : RootMachine) → Opens of_roots (finite.len c.tables.names) t t → SameNow stand.found t.now → (freed : List ℕ)
      → FreesTo (NamesNeed of_files stand.found) freed stand.store t.store → Reopens actor (Ok (done.Reopened (finite.len c.tables.names))) m (at_rest stand.found t.store)
  legal actor c t opens same freed frees = record {
    found = stand.found;
    may = λ known. stand.may;
    files_are = opens.files_are ∙ ap (λ (now : Found _). finite.len now.names) (sym (ap (λ (x : RootMachine). x.now) opens.others)) ∙ len_same stand.found t.now same;
    before = stand.store;
    same = λ known. stand.stands;
    named = λ known. named_here;
    freed = freed;
    frees = λ known. frees;
    reserve = opens.reserve;
    others = refl;
  }

  -- ---- where room was made

  module _ (mid : DiskView) (made : RoomMade old mid) where
    abbrev now : List ℕ
    now = (made.content image told).0

    abbrev now_told : mid.content ≡ Some now
    now_told = (made.content image told).1

    abbrev now_right : Encodes now made.after
    now_right = (made.content image told).2.0

    now_of : IsOf In (stored_in stand.found) now
    now_of = (made.content image told).2.2.stands among (stored_in stand.found) of_found

    short_is : made.short.store ≡ stand.store
    short_is = read_once old mid image made.short.store stand.store made.short.right told stand.is.holds.right

    after_is : made.after ≡ with_all_freed made.freed stand.store
    after_is = freed_to _ made.freed made.short.store made.after made.frees ∙ ap (with_all_freed made.freed) short_is

    room_frees : FreesTo (NamesNeed of_files stand.found) made.freed stand.store made.after
    room_frees =
        let spares = (made.content image told).2.2.spares among (stored_in stand.found) of_found in
        all_needed stand.found made.freed stand.store made.after
        (subst (FreesTo (IsReachable stand.found.names) made.freed stand.store) (sym after_is)
        (subst (λ (s : Store). FreesTo (IsReachable stand.found.names) made.freed s (with_all_freed made.freed s)) short_is spares))

    was_few : free_slots stand.store.held < RESERVE
    was_few = subst (λ (s : Store). free_slots s.held < RESERVE) short_is made.short.few

    mid_size : RESERVE ≤ free_slots made.after.held
    mid_size = subst (λ (s : Store). RESERVE ≤ free_slots s.held) (store_once now now_of.store made.after now_of.stands.holds.right now_right) now_of.reserve

    some_freed : made.freed ≢ []
    some_freed none =
        let same : made.after ≡ stand.store = (subst (λ (slots : List ℕ). FreesTo (NamesNeed of_files stand.found) slots stand.store made.after) none room_frees).0 in
        let few : free_slots made.after.held < RESERVE = subst (λ (s : Store). free_slots s.held < RESERVE) (sym same) was_few in
        omega (arith, few, mid_size)

    room_bytes : MadeRoom stand.found made.after image now
    room_bytes = (stand.store, (stand.is.holds.right, (made.freed, (room_frees, (made.content image told).2.1, now_right))))

    room_given : IsGivenBack of_files m made.after
    room_given = subst (IsGivenBack of_files m) (sym after_is)
        (given_back m stand.found stand.may stand.store stand.stands named_here was_few made.freed some_freed
        (frees_some (NamesNeed of_files stand.found) made.freed stand.store made.after room_frees))

  -- ---- one that was refused

  module _ (stores : List Store) where
    -- it is stopped, and these may stand
    abbrev stopped : FileMachine
    stopped = record m { state = freeing of_files stores m.state }

    may_stand : (left : List ℕ) (s : Store) → OpensAs In (stored_in stand.found) left → Encodes left s
        → Stands of_files (freeing of_files stores m.state) m.store s → MayStand In stopped left
    may_stand left s opens right stands = record {
      found = stand.found;
      may = found_still stores m.state m.now stand.found stand.may;
      store = opens.store;
      stands = subst (Stands of_files (freeing of_files stores m.state) m.store) (store_once left s opens.store right opens.stands.holds.right) stands;
      is = opens.stands;
      opens = opens.opens;
      last_is = opens.last_is;
    }

  module _ (refusal : Refusal) (new : DiskView) where
    -- room was made, and then the store was not read
    made_stands : (mid : DiskView) (made : RoomMade old mid) → OnlyReads mid new → StandsFor In (stopped (made.after ∷ [])) new
    made_stands mid made reads = record {
      content = (now mid made, reads.content_is ∙ now_told mid made, stands_now);
      images = λ left there. subst (MayStand In (stopped (made.after ∷ []))) (sym (made.durable (now mid made) (now_told mid made) left (reads.images_are left there))) stands_now;
    }
      where
        stands_now : MayStand In (stopped (made.after ∷ [])) (now mid made)
        stands_now =
            may_stand (made.after ∷ []) (now mid made) made.after (opens_of In (stored_in stand.found) (now mid made) (now_of mid made)) (now_right mid made)
            (stands_too (made.after ∷ []) m.state m.store made.after (0, omega arith, refl))

    module _ (un : RoomUnmade refusal old new) where
      short_here : un.short.store ≡ stand.store
      short_here = read_once old new image un.short.store stand.store un.short.right told stand.is.holds.right

      unmade_frees : FreesSome (NamesNeed of_files stand.found) un.freed stand.store
      unmade_frees =
          some_needed stand.found un.freed stand.store
          (subst (FreesSome (IsReachable stand.found.names) un.freed) short_here (un.spares image told among (stored_in stand.found) of_found))

      unmade_given : AllByRecursion (IsGivenBack of_files m) (stores_freed un.freed un.short.store)
      unmade_given =
          subst (λ (s : Store). AllByRecursion (IsGivenBack of_files m) (stores_freed un.freed s)) (sym short_here)
          (each_given m stand.found stand.may stand.store stand.stands named_here (subst (λ (s : Store). free_slots s.held < RESERVE) short_here un.short.few) un.freed
          unmade_frees)

      unmade_bytes : (left : List ℕ) → IsPartlyFreed un.short.store un.freed image left → BeganRoom stand.found image left
      unmade_bytes left part =
          (stand.store, (stand.is.holds.right, (un.freed, (unmade_frees, subst (λ (s : Store). IsPartlyFreed s un.freed image left) short_here part))))

      unmade_one : (left : List ℕ) → IsPartlyFreed un.short.store un.freed image left → MayStand In (stopped (stores_freed un.freed un.short.store)) left
      unmade_one left part =
          may_stand (stores_freed un.freed un.short.store) left (with_all_freed (take part.count un.freed) un.short.store)
          ((un.files image told among (stored_in stand.found) of_found).1 left part) part.right
          (elim (on_the_way part.count un.freed un.short.store) [
            | inl is ↦ stands_still (stores_freed un.freed un.short.store) m.state m.store _ (subst (Stands of_files m.state m.store) (sym (is ∙ short_here)) stand.stands)
            | inr later ↦ stands_too (stores_freed un.freed un.short.store) m.state m.store _ later
          ])

      unmade_stands : StandsFor In (stopped (stores_freed un.freed un.short.store)) new
      unmade_stands =
          let (left, is, part) = un.content image told in
          record { content = (left, is, unmade_one left part); images = λ left there. unmade_one left (un.images image told left there) }

  -- ---- why it was

  by_fails : (refusal : Refusal) → IsTrue (fails refusal) → MayRefuseOpening of_files refusal
  by_fails refusals.Memory is = tt
  by_fails refusals.DiskRead is = tt
  by_fails refusals.DiskWrite is = tt
  by_fails refusal is = absurd cc

  -- the store that is there would be opened, unless memory or the disk failed; it has its reserve, or the refusal is not for that
  by_given_up : (refusal : Refusal) (store : Store) → IsNotFull refusal ⊎ (RESERVE ≤ free_slots store.held) → recovery.Opens store (Err refusal) → MayRefuseOpening of_files refusal
  by_given_up (refusals.Full free) store (inl not) opens = absurd not
  by_given_up (refusals.Full free) store (inr enough) (is, few) = absurd (omega (arith, enough, is, few))
  by_given_up refusal store full opens = by_fails refusal opens

  module _ (D : Type 0) (view : D → DiskView) (refusal : Refusal) (new : DiskView) (actor : ℕ) where
    may_refuse : OpensNone D view refusal old new → MayRefuseOpening of_files refusal
    may_refuse (inl (not, full)) =
        by_given_up refusal stand.store (inl full) (shown_content old new (IsGivenUp refusal) image not.given_up told stand.store stand.is.holds.right)
    may_refuse (inr (inl (mid, (made, not)))) =
        by_given_up refusal made.after (inr (mid_size (view mid) made))
        (shown_content (view mid) new (IsGivenUp refusal) (now (view mid) made) not.given_up (now_told (view mid) made) made.after (now_right (view mid) made))
    may_refuse (inr (inr un)) = by_fails refusal (un.files image told among (stored_in stand.found) of_found).0

    -- which stores may stand where something was written
    wrote_given : (wrote : WritesUnread D view refusal old new) → AllByRecursion (IsGivenBack of_files m) (stores_left D view refusal old new wrote)
    wrote_given (inl (mid, (made, not))) = (room_given (view mid) made, tt)
    wrote_given (inr (failed, un)) = unmade_given refusal new un

    wrote_stands : (wrote : WritesUnread D view refusal old new) → StandsFor In (stopped (stores_left D view refusal old new wrote)) new
    wrote_stands (inl (mid, (made, not))) = made_stands refusal new (view mid) made not.reads.only
    wrote_stands (inr (failed, un)) = unmade_stands refusal new un

    -- and what it leaves of the bytes
    abbrev Unopened : FileMachine → Type 0
    Unopened n = ChangesBytes (opening actor (Err refusal)) m n old.content new.content

    unopened_bytes : (n : FileMachine) → KnownWith new.content (LeavesUnopened refusal m n image) → Unopened n
    unopened_bytes n left = known_of old.content image (λ given. KnownWith new.content (LeavesUnopened refusal m n given)) told left

    wrote_bytes : (n : FileMachine) → WritesUnread D view refusal old new → Unopened n
    wrote_bytes n (inl (mid, (made, not))) =
        unopened_bytes n
        (now (view mid) made, not.reads.only.content_is ∙ now_told (view mid) made, inr (stand.found, (stand.may, inl (made.after, room_bytes (view mid) made))))
    wrote_bytes n (inr (failed, un)) =
        let (left, is, part) = un.content image told in unopened_bytes n (left, is, inr (stand.found, (stand.may, inr (failed, unmade_bytes refusal new un left part))))

    kept_bytes : OnlyReads old new → Unopened m
    kept_bytes reads = unopened_bytes m (image, reads.content_is ∙ told, inl (refl, refl))

    module _ (none : OpensNone D view refusal old new) where
      wrote_legal : (wrote : WritesUnread D view refusal old new) → Reopens actor (Err refusal) m (stopped (stores_left D view refusal old new wrote))
      wrote_legal wrote = (may_refuse none, inr (stores_left D view refusal old new wrote, refl, some_left D view refusal old new wrote, λ known. wrote_given wrote))

      abbrev Left : Type 0
      Left = (n : FileMachine) × (Reopens actor (Err refusal) m n × LeavesFor In n old new × Unopened n)

      wrote_left : WritesUnread D view refusal old new → Left
      wrote_left wrote =
          let stands = wrote_stands wrote in
          let n : FileMachine = stopped (stores_left D view refusal old new wrote) in
          (n, (wrote_legal wrote, record { content = stands.content; images = λ left there. inr (stands.images left there) }, wrote_bytes n wrote))

      kept_left : OnlyReads old new → Left
      kept_left reads = (
        m,
        (
          (may_refuse none, inl refl),
          record { content = (image, reads.content_is ∙ told, stand); images = λ left there. inl (reads.images_are left there) },
          kept_bytes reads,
        ),
      )

      left_by : OpensNone D view refusal old new → Left
      left_by (inl (not, full)) = kept_left not.reads.only
      left_by (inr (inl made)) = wrote_left (inl made)
      left_by (inr (inr un)) = elim un.only [ inl failed ↦ wrote_left (inr (failed, un)) | inr reads ↦ kept_left reads ]

-- ---- openings

module _ (D : Type 0) (view : D → DiskView) (C : Type 0) (state : C → CoreState) (among : ByteSet) (actor : ℕ) (before : D) (new : C) (m : FileMachine)
    (image : List ℕ) (told : (view before).content ≡ Some image) (stand : MayStand (IsIn among) m image) where
  abbrev Changes : FileMachine → Type 0
  Changes n = ChangesBytes (opening actor (Ok (done.Reopened (finite.len (state new).tables.names)))) m n (view before).content (state new).disk.content

  abbrev Made : Type 0
  Made = (n : FileMachine)
      × (Reopens actor (Ok (done.Reopened (finite.len (state new).tables.names))) m n × IsFileMachine (IsIn among) n (state new) × Changes n)

  -- the store was read of a disk whose content was of the files
  made_by : (old : DiskView) (read : IsReadFrom old (state new)) (content : List ℕ) (content_is : old.content ≡ Some content)
      (is : IsOf (IsIn among) (stored_in stand.found) content)
      → (t : RootMachine) (machine : IsMachine true t (state new)) (may : Opens of_roots (finite.len (state new).tables.names) t t) (store_is : t.store ≡ read.opened.store)
      → (freed : List ℕ) → FreesTo (NamesNeed of_files stand.found) freed stand.store t.store → MadeRoom stand.found t.store image content → Made
  made_by old read content content_is is t machine may store_is freed frees room =
      let same = same_found among old (state new) read content content_is stand.found is t machine store_is in (
        at_rest stand.found t.store,
        (
          legal among m (view before) image told stand actor (state new) t may same freed frees,
          is_files among old (state new) read content content_is stand.found is t machine store_is may,
          known_of (view before).content image (λ given. KnownWith (state new).disk.content (MadeRoom stand.found t.store given)) told
              (content, read.reads.only.content_is ∙ content_is, room),
        ),
      )

  by_way : (t : RootMachine) → IsMachine true t (state new) → Opens of_roots (finite.len (state new).tables.names) t t → (way : OpensCore D view (view before) (state new))
      → t.store ≡ store_read D view (view before) (state new) way → Made
  by_way t machine may (inl read) store_is =
      let same : t.store ≡ stand.store =
      store_is ∙ read_once (view before) (state new).disk image read.opened.store stand.store read.opened.right told stand.is.holds.right in
      let reserve : RESERVE ≤ free_slots stand.store.held = subst (λ (s : Store). RESERVE ≤ free_slots s.held) same may.reserve in
      let is : IsOf (IsIn among) (stored_in stand.found) image = record { store = stand.store; stands = stand.is; reserve = reserve; last_is = stand.last_is } in
      let none : MadeRoom stand.found t.store image image = (
        stand.store,
        (
          stand.is.holds.right,
          (
            [],
            (
              (same, inl reserve),
              record { size = refl; same = λ place count other. refl },
              subst (Encodes image) (sym same) stand.is.holds.right,
            ),
          ),
        ),
      ) in
      made_by (view before) read image told is t machine may store_is [] (same, inl reserve) none
  by_way t machine may (inr (mid, (made, read))) store_is =
      let after : t.store ≡ made.after =
      store_is ∙ read_once (view mid) (state new).disk (now among m (view before) image told stand (view mid) made) read.opened.store made.after read.opened.right
      (now_told among m (view before) image told stand (view mid) made)
      (now_right among m (view before) image told stand (view mid) made) in
      made_by (view mid) read (now among m (view before) image told stand (view mid) made) (now_told among m (view before) image told stand (view mid) made)
      (now_of among m (view before) image told stand (view mid) made) t machine may store_is made.freed
      (subst (FreesTo (NamesNeed of_files stand.found) made.freed stand.store) (sym after) (room_frees among m (view before) image told stand (view mid) made))
      (subst (λ (s : Store). MadeRoom stand.found s image (now among m (view before) image told stand (view mid) made)) (sym after)
      (room_bytes among m (view before) image told stand (view mid) made))

module _ (D : Type 0) (view : D → DiskView) where
  pub files_unopened : FilesUnopened D view
  files_unopened among actor refusal before new m distinct stands none =
      let (image, told, stand) = stands in
      let (n, (reopens, leaves, changes)) = left_by among m (view before) image told stand D view refusal (view new) actor none none in
      (n, (reopens, leaves, unopened_leaves among m (view before) image told stand D view refusal (view new) none, changes))

  pub files_opened : (C : Type 0) (state : C → CoreState) → FilesOpened D view C state
  files_opened C state among actor before new m distinct stands opens runs =
      let (image, told, stand) = stands in
      let (t, (machine, store_is, may)) = opened_refines D view C state actor before new opens runs in
      let (n, (reopens, is, changes)) = by_way D view C state among actor before new m image told stand t (machine true) (may t) opens store_is in
      (n, (reopens, is, opened_leaves among m (view before) image told stand D view (state new) opens, changes))

-- ---- one that could not be opened again

module _ (S : List ℕ → Type 0) (stores : List Store) (n : FileMachine) (c : CoreState) where
  fits_stopped : (state : RunState (List ℕ)) → StandsFor S n c.disk → FitsBy (freeing of_files stores state) S n c
  fits_stopped Running stands = stands
  fits_stopped (Stopped other before) stands = stands

module _ (C : Type 0) (state : C → CoreState) (among : ByteSet) (actor : ℕ) (refusal : Refusal) (old new : C) (m : FileMachine)
    (at : IsFileMachine (IsIn among) m (state old)) where
  abbrev disk_in : C → DiskView
  disk_in c = (state c).disk

  module _ (none : OpensNone C disk_in refusal (state old).disk (state new).disk) (image : List ℕ) (told : (state old).disk.content ≡ Some image)
      (stand : MayStand (IsIn among) m image) where
    fits_kept : (kept : IsKept (state old) (state new)) → OnlyReads (state old).disk (state new).disk → (s : RunState (List ℕ)) → FitsBy s (IsIn among) m (state old)
        → FitsBy s (IsIn among) m (state new)
    fits_kept kept reads Running fits = still_at_files (state old) (state new) reads kept.tables_are kept.index_is kept.parts_are kept.collection_is (IsIn among) m fits
    fits_kept kept reads (Stopped other stores) fits = stands_read (IsIn among) m (state old).disk (state new).disk reads fits

    kept_or_stopped : (t : RootMachine) → IsMachine true t (state new) → (way : StaysOrStops C disk_in refusal (state old) (state new))
        → LeavesMachine C disk_in refusal (state old) (state new) way at.roots t
        → (n : FileMachine) × (Reopens actor (Err refusal) m n × IsFileMachine (IsIn among) n (state new)
        × ChangesBytes (opening actor (Err refusal)) m n (state old).disk.content (state new).disk.content)
    kept_or_stopped t machine (inl (kept, reads)) is = (
      m,
      (
        (may_refuse among m (state old).disk image told stand C disk_in refusal (state new).disk actor none, inl refl),
        record {
          roots = at.roots;
          forgets = at.forgets;
          machine = subst (λ (x : RootMachine). IsMachine true x (state new)) is machine;
          fits = fits_kept kept reads.only m.state at.fits;
        },
        kept_bytes among m (state old).disk image told stand C disk_in refusal (state new).disk actor reads.only,
      ),
    )
    kept_or_stopped t machine (inr stops) is =
        let stores = stores_left C disk_in refusal (state old).disk (state new).disk stops.wrote in (
          stopped among m (state old).disk image told stand stores,
          (
            wrote_legal among m (state old).disk image told stand C disk_in refusal (state new).disk actor none stops.wrote,
            record {
              roots = t;
              forgets = subst (Forgets (record m { state = freeing of_files stores m.state })) (sym is) (record {
                now = at.forgets.now;
                parts = at.forgets.parts;
                store = at.forgets.store;
                last_id = at.forgets.last_id;
                forgotten = at.forgets.forgotten;
                swept = at.forgets.swept;
                collection = at.forgets.collection;
                acknowledged = at.forgets.acknowledged;
                state = still_same m at.roots at.forgets stores m.state at.roots.state at.forgets.state;
              });
              machine = machine;
              fits = fits_stopped (IsIn among) stores (record m { state = freeing of_files stores m.state }) (state new) m.state
                  (wrote_stands among m (state old).disk image told stand C disk_in refusal (state new).disk actor stops.wrote);
            },
            wrote_bytes among m (state old).disk image told stand C disk_in refusal (state new).disk actor (stopped among m (state old).disk image told stand stores)
                stops.wrote,
          ),
        )

pub files_reopened_not : (C : Type 0) (state : C → CoreState) → FilesReopenedNot C state
files_reopened_not C state among actor refusal old new m distinct at none leaves =
    let stands = disk_stands (IsIn among) m (state old) at in
    let (image, told, stand) = stands.content in
    let disk = disk_in C state among actor refusal old new m at in
    let (t, (legal_roots, machine, left)) = unopened_refines C disk C state true actor refusal old new at.roots at.machine none leaves in
    let (n, (reopens, is, changes)) = kept_or_stopped C state among actor refusal old new m at none image told stand t machine leaves left in (
      n,
      (
        reopens,
        is,
        all_found (IsIn among) m (state old).disk (state new).disk stands (unopened_leaves among m (state old).disk image told stand C disk refusal (state new).disk none),
        changes,
      ),
    )

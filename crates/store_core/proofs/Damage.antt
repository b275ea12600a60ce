-- No step of a core that is at a store finds damage, or misses what a file needs.
use Rattle.store_core.proofs.Prelude.{some_same, ◌≡◌, ◌≢◌, ◌<◌, ℕ, zero, suc, List, [], ◌∷◌, length, Option, Some, None, Result, Ok, Err, refl, sym, ◌∙◌, ap, subst, arith, AllByRecursion, sha256, key_of, Shows, shown_content, Kind, Place, kind_byte, KindSegment, Root, Top, NameMap, Answer, StepValue, Refusal, HasNoCollisions, ByteSet, IsIn, IsAmong, Stands, Stored, Store, names_of, newest, bytes_at, copy_digest, newest_so, IsNodeEntry, nodes_so, IsAmongThese, among_so, Stop, Row, ClaimRow, SealRow, CommitRow, OpenRow, ReadRow, EndRow, DeleteRow, ListRow, IsNotGiven, StepsOr, FileEvent, FileStep, IsAt, IsGivenRight, IsSafeIn, CoreState, IsUnderWayIn, Collection, Mark, GcRow, IsNotMade, StartRow, IsSafeAt, PlaceMap, Represents, Stage, moment, IsStepRefusal, Memory, roots_of}
use Rattle.std.proofs.Common.{get_or, option_map, IfErr}
use Rattle.std.specs.Prelude.{IsTrue, slice_get, take}
use Rattle.container_meta.specs.declared.kind.Kind.TheVariants as kinds
use Rattle.container_meta.specs.Segments.{Contents, segment_at}
use Rattle.actor_parts.specs.Offers.{IsOffer}
use Rattle.actor_parts.specs.StepValue as asked
use Rattle.namespace.specs.Listing.{listing_of}
use Rattle.refusals.specs.declared.refusal.PartKind.{PartKind}
use Rattle.refusals.specs.declared.refusal.PartKind.TheVariants as part
use Rattle.refusals.specs.declared.refusal.Difference.TheVariants.{Length, Byte}
use Rattle.refusals.specs.declared.refusal.Refusal.TheVariants as refusals
use Rattle.store_model.specs.Slots.{Copy, key_set_of}
use Rattle.store_model.specs.Trees.{IsNodeOf}
use Rattle.store_model.proofs.Counted.{in_index, of_index}
use Rattle.store_model.proofs.Roots.{length_of_copy}
use Rattle.store_state.specs.Comparing.{IsUnlike}
use Rattle.store_state.specs.Refused.{fails}
use Rattle.read_steps.specs.Readers.{IsStuck}
use Rattle.read_steps.specs.Trees.{AllHeld}
use Rattle.read_steps.specs.Walking.{IsHeldAnswer}
use Rattle.read_steps.proofs.Visited.{names_held}
use Rattle.ingest_steps.specs.Offering.{IsFirstUnlikeIn}
use Rattle.ingest_steps.proofs.PinList.{all_at}
use Rattle.store_core.specs.Core.{IsAtOther, IsUncounted}
use Rattle.store_core.specs.Runs.{AreAmong}
use Rattle.store_core.proofs.OwnParts.{stuck_held}
use Rattle.gc_steps.proofs.NoDamage.{IsClean, no_damage, IsMarked}
use Rattle.gc_steps.specs.Starting.{IsFound, IsStartRefusal}
use Rattle.gc_steps.proofs.RootsFound.{begins_by_memory, roots_found}
use Rattle.store_core.specs.Collecting.{IsUnbegun}
use Rattle.store_core.proofs.ManySealed.{all_taken}

-- ---- what no step answers

-- some node has the digest of these bytes, and is another
pub record HasTwin (bytes : List ℕ) : Type 0 where
  pub other : List ℕ
  pub level : ℕ
  pub node : IsNodeOf level other
  pub digest : sha256 other ≡ sha256 bytes
  pub differ : other ≢ bytes

-- a segment is a node, and has such a twin
abbrev pub IsTwin : Kind → List ℕ → Type 0
IsTwin kind bytes = (kind ≡ kinds.Tree) × HasTwin bytes

-- one of the segments of a container is
pub record HoldsTwin (filled : Contents) : Type 0 where
  pub number : ℕ
  pub within : number < length filled.segments
  pub is_twin : IsTwin filled.kind (segment_at filled.segments number).bytes

-- one of some containers holds one
pub record OneHoldsTwin (offered : List Contents) : Type 0 where
  pub place : ℕ
  pub contents : Contents
  pub contents_are : slice_get offered place ≡ Some contents
  pub twin : HoldsTwin contents

-- when a step may clash: never by data
abbrev pub MayClash : StepValue → Type 0
MayClash (asked.Claim seg) = IsTwin seg.kind seg.segment.bytes
MayClash (asked.Seal offered) = OneHoldsTwin offered
MayClash step = ⊥

-- nothing is damaged or missing, and a clash is so
abbrev pub IsHarmless : Type 0 → Refusal → Type 0
IsHarmless clash (refusals.Clash key at) = clash
IsHarmless clash (refusals.Corrupt slot offset count want got) = ⊥
IsHarmless clash (refusals.Missing key) = ⊥
IsHarmless clash (refusals.Damaged at why) = ⊥
IsHarmless clash refusal = Unit {0}

-- the copy whose place the index has
pub record HasCopy (found : Option Copy) (place : Place) : Type 0 where
  pub copy : Copy
  pub found_is : found ≡ Some copy
  pub place_is : copy.place ≡ place

copy_placed : (found : Option Copy) (place : Place) → option_map (λ c. c.place) found ≡ Some place → HasCopy found place
copy_placed None place is = absurd cc
copy_placed (Some copy) place is = record { copy = copy; found_is = refl; place_is = some_same copy.place place is }

all_got : (P : Contents → Type 0) (cs : List Contents) (number : ℕ) (c : Contents) → slice_get cs number ≡ Some c → AllByRecursion P cs → P c
all_got P [] number c here all = absurd cc
all_got P (x ∷ xs) zero c here all = subst P (some_same x c here) all.0
all_got P (x ∷ xs) (suc number) c here all = all_got P xs number c here all.1

pub got_taken : (n : ℕ) (cs : List Contents) (number : ℕ) (c : Contents) → slice_get (take n cs) number ≡ Some c → slice_get cs number ≡ Some c
got_taken zero cs number c here = absurd cc
got_taken (suc n) [] number c here = absurd cc
got_taken (suc n) (x ∷ xs) zero c here = here
got_taken (suc n) (x ∷ xs) (suc number) c here = got_taken n xs number c here

-- where one of the containers of an offer has a twin, it is the only one, and each is of nodes
pub twin_is_tree : (offered : List Contents) → IsOffer offered → OneHoldsTwin offered → (number : ℕ) (c : Contents) → slice_get offered number ≡ Some c → c.kind ≡ kinds.Tree
twin_is_tree [] offer twin number c here = absurd (omega (arith, offer.some))
twin_is_tree (x ∷ []) offer twin zero c here =
    let same : (place : ℕ) → slice_get (x ∷ []) place ≡ Some twin.contents → x ≡ twin.contents = only x twin.contents in
    subst (λ (y : Contents). y.kind ≡ kinds.Tree) (sym (same twin.place twin.contents_are) ∙ some_same x c here) twin.twin.is_twin.0
  where
    only : (y z : Contents) (place : ℕ) → slice_get (y ∷ []) place ≡ Some z → y ≡ z
    only y z zero here = some_same y z here
    only y z (suc place) here = absurd cc
twin_is_tree (x ∷ []) offer twin (suc number) c here = absurd cc
twin_is_tree (x ∷ y ∷ ys) offer twin number c here =
    let leaf = all_got (λ z. z.kind ≡ kinds.Leaf) (x ∷ y ∷ ys) twin.place twin.contents twin.contents_are (offer.leaves (omega arith)) in
    absurd (let wrong : kinds.Leaf ≡ kinds.Tree = sym leaf ∙ twin.twin.is_twin.0 in cc)

-- where a collection does not begin memory ran out: the index has each root at its level
unbegun_memory : (S : List ℕ → Type 0) (s : Store) (stored : Stored) (old new : CoreState) → IsAt S s stored old → (refusal : Refusal) → IsUnbegun refusal old new
    → refusal ≡ Memory
unbegun_memory S s stored old new at refusal row =
    let image : List ℕ = at.stands.known.0 in
    let here : old.disk.content ≡ Some image = at.stands.known.1 in
    let holds = (at.stands.each image (old.disk.as_read image here)).holds in
    let found : AllByRecursion (IsFound (Some at.index)) (roots_of (names_of s) old.parts) = roots_found at.index s stored.files old.parts image (at.invariant image here) holds in
    begins_by_memory at.index (roots_of (names_of s) old.parts) found refusal
    (subst (λ (k : Option PlaceMap). IsStartRefusal k k (roots_of (names_of s) old.parts) refusal) at.index_known
    (subst (λ (names : NameMap). IsStartRefusal old.known old.known (roots_of names old.parts) refusal) at.represents.names_are.names_are row.cause))

module _ (among : ByteSet) (s : Store) (stored : Stored) (old new : CoreState) (distinct : HasNoCollisions (IsIn among)) (at : IsAt (IsIn among) s stored old) where
  abbrev image : List ℕ
  image = at.stands.known.0

  abbrev here : old.disk.content ≡ Some image
  here = at.stands.known.1

  abbrev stands_here : Stands (IsIn among) s stored.files image
  stands_here = at.stands.each image (old.disk.as_read image here)

  map_known : old.known ≡ None → ⊥
  map_known none = let both = sym none ∙ at.index_known in cc

  -- ---- a segment beside the copy of its key

  module _ (kind : Kind) (offered : List ℕ) where
    abbrev Unlike : Refusal → Type 0
    Unlike refusal = IsUnlike old.disk.size old.known (Shows old.disk new.disk) kind (sha256 offered) offered refusal

    had : (refusal : Refusal) (u : Unlike refusal) → HasCopy (newest 0 s.held (key_of (kind_byte kind) (sha256 offered))) u.place
    had refusal u =
        copy_placed (newest 0 s.held (key_of (kind_byte kind) (sha256 offered))) u.place
        (at.represents.index_is_newest at.index at.index_known (key_of (kind_byte kind) (sha256 offered)) u.place (u.there at.index at.index_known))

    -- its bytes have the digest
    digest_is : (refusal : Refusal) (u : Unlike refusal) → sha256 (bytes_at u.place image) ≡ sha256 offered
    digest_is refusal u =
        let c = had refusal u in
        subst (λ (place : Place). sha256 (bytes_at place image) ≡ sha256 offered) c.place_is
        (copy_digest s.held (kind_byte kind) (sha256 offered) image c.copy stands_here.holds.copies c.found_is)

    -- and there are as many as the place says
    long : (refusal : Refusal) (u : Unlike refusal) → length (bytes_at u.place image) ≡ u.place.length
    long refusal u =
        let c = had refusal u in
        subst (λ (place : Place). length (bytes_at place image) ≡ place.length) c.place_is
        (length_of_copy s image (key_of (kind_byte kind) (sha256 offered)) c.copy stands_here.holds.right c.found_is)

  -- data of the digest is the same
  same_data : (offered : List ℕ) (refusal : Refusal) (u : Unlike kinds.Leaf offered refusal) → IsIn among offered → bytes_at u.place image ≡ offered
  same_data offered refusal u is =
      let c = had kinds.Leaf offered refusal u in
      let so = (newest_so (IsAmongThese (IsIn among)) s.held kinds.Leaf (sha256 offered) image c.copy (among_so (IsIn among) 0 s.held image stands_here.among) c.found_is).so in
      distinct (bytes_at u.place image) offered (subst (λ (place : Place). IsIn among (bytes_at place image)) c.place_is so) is (digest_is kinds.Leaf offered refusal u)

  -- of a tree it is a node
  twin : (offered : List ℕ) (refusal : Refusal) (u : Unlike kinds.Tree offered refusal) → bytes_at u.place image ≢ offered → HasTwin offered
  twin offered refusal u differ =
      let c = had kinds.Tree offered refusal u in
      let so = newest_so IsNodeEntry s.held kinds.Tree (sha256 offered) image c.copy (nodes_so 0 s.held image stands_here.holds.nodes) c.found_is in
      record {
        other = bytes_at u.place image;
        level = so.entry.level;
        node = subst (λ (place : Place). IsNodeEntry kinds.Tree so.entry (bytes_at place image)) c.place_is so.so;
        digest = digest_is kinds.Tree offered refusal u;
        differ = differ;
      }

  by_length : (kind : Kind) (offered key : List ℕ) (mine other : ℕ) → IsAmong (IsIn among) kind offered → Unlike kind offered (refusals.Clash key (Length mine other))
      → IsTwin kind offered
  by_length kinds.Leaf offered key mine other is u =
      let r = refusals.Clash key (Length mine other) in
      absurd (u.refused.3 (u.refused.1 ∙ ap length (sym (same_data offered r u is)) ∙ long kinds.Leaf offered r u ∙ sym u.refused.2))
  by_length kinds.Tree offered key mine other is u =
      let r = refusals.Clash key (Length mine other) in
      (refl, twin offered r u (λ same. u.refused.3 (u.refused.1 ∙ ap length (sym same) ∙ long kinds.Tree offered r u ∙ sym u.refused.2)))

  by_byte : (kind : Kind) (offered key : List ℕ) (place mine other : ℕ) → Unlike kind offered (refusals.Clash key (Byte place mine other)) → IsTwin kind offered
  by_byte kinds.Leaf offered key place mine other u = absurd (let leaf = u.refused.0 in cc)
  by_byte kinds.Tree offered key place mine other u =
      let first = (shown_content old.disk new.disk _ image u.refused.2.1 here).1 in (
        refl,
        twin offered (refusals.Clash key (Byte place mine other)) u
            (λ same. first.differ (first.offered_is ∙ ap (λ (b : List ℕ). get_or b place 0) (sym same) ∙ sym first.held_is)),
      )

  no_corrupt : (kind : Kind) (offered : List ℕ) (slot offset count : ℕ) (want got : List ℕ) → Unlike kind offered (refusals.Corrupt slot offset count want got) → ⊥
  no_corrupt kind offered slot offset count want got u =
      let f = u.refused.2 in
      let found = f.5 in
      let read = shown_content old.disk new.disk _ image found.there here in
      let same : bytes_at u.place image ≡ found.bytes = subst (λ (n : ℕ). bytes_at (record u.place { slot = n }) image ≡ found.bytes) f.0
      (subst (λ (n : ℕ). bytes_at (record u.place { slot = slot; offset = n }) image ≡ found.bytes) f.1
      (subst (λ (n : ℕ). bytes_at (record u.place { slot = slot; offset = offset; length = n }) image ≡ found.bytes) f.2 read)) in
      f.4 (f.3 ∙ sym (digest_is kind offered (refusals.Corrupt slot offset count want got) u) ∙ ap sha256 same ∙ found.digest_is)

  unlike : (kind : Kind) (offered : List ℕ) (refusal : Refusal) → IsAmong (IsIn among) kind offered → Unlike kind offered refusal → IsHarmless (IsTwin kind offered) refusal
  unlike kind offered (refusals.Clash key (Length mine other)) is u = by_length kind offered key mine other is u
  unlike kind offered (refusals.Clash key (Byte place mine other)) is u = by_byte kind offered key place mine other u
  unlike kind offered (refusals.Corrupt slot offset count want got) is u = no_corrupt kind offered slot offset count want got u
  unlike kind offered (refusals.Missing key) is u = absurd u.refused.2
  unlike kind offered (refusals.Damaged at_byte why) is u = absurd u.refused.2
  unlike kind offered refusal is u = tt

  -- ---- each step

  module _ (actor : ℕ) (buf bytes : List ℕ) where
    claim_harmless : (seg : KindSegment) (refusal : Refusal) → IsAmong (IsIn among) seg.kind seg.segment.bytes → ClaimRow seg actor (Err refusal) old new
        → IsHarmless (IsTwin seg.kind seg.segment.bytes) refusal
    claim_harmless seg (refusals.Clash key d) is row = unlike seg.kind seg.segment.bytes (refusals.Clash key d) is row.0.1
    claim_harmless seg (refusals.Corrupt slot offset count want got) is row = unlike seg.kind seg.segment.bytes (refusals.Corrupt slot offset count want got) is row.0.1
    claim_harmless seg (refusals.Missing key) is row = unlike seg.kind seg.segment.bytes (refusals.Missing key) is row.0.1
    claim_harmless seg (refusals.Damaged at_byte why) is row = map_known row.0.1.0
    claim_harmless seg refusal is row = tt

    -- the first that is unlike is a segment of one of the containers
    abbrev FirstUnlike : List Contents → Refusal → Type 0
    FirstUnlike cs refusal = IsFirstUnlikeIn old.disk.size old.known (Shows old.disk new.disk) cs refusal

    first_harmless : (n : ℕ) (offered : List Contents) → AreAmong (IsIn among) offered → (refusal : Refusal) (first : FirstUnlike (take n offered) refusal)
        → IsHarmless (IsTwin first.contents.kind (segment_at first.contents.segments first.unlike.number).bytes) refusal
    first_harmless n offered all refusal first =
        let each = all_taken (λ c. AllByRecursion (λ s. IsAmong (IsIn among) c.kind s.bytes) c.segments) n offered all in
        let mine = all_got (λ c. AllByRecursion (λ s. IsAmong (IsIn among) c.kind s.bytes) c.segments) (take n offered) first.number first.contents first.contents_are each in
        unlike first.contents.kind (segment_at first.contents.segments first.unlike.number).bytes refusal
        (all_at (λ s. IsAmong (IsIn among) first.contents.kind s.bytes) first.contents.segments first.unlike.number first.unlike.within mine) first.unlike.unlike

    seal_harmless : (offered : List Contents) (refusal : Refusal) → AreAmong (IsIn among) offered → SealRow offered actor (Err refusal) old new
        → IsHarmless (MayClash (asked.Seal offered)) refusal
    seal_harmless offered (refusals.Clash key d) all row =
        let n : ℕ = length row.0.1.0 in
        let first = row.0.1.2 in
        record {
          place = first.number;
          contents = first.contents;
          contents_are = got_taken n offered first.number first.contents first.contents_are;
          twin = record {
            number = first.unlike.number;
            within = first.unlike.within;
            is_twin = first_harmless n offered all (refusals.Clash key d) first;
          };
        }
    seal_harmless offered (refusals.Corrupt slot offset count want got) all row =
        first_harmless (length row.0.1.0) offered all (refusals.Corrupt slot offset count want got) row.0.1.2
    seal_harmless offered (refusals.Missing key) all row = first_harmless (length row.0.1.0) offered all (refusals.Missing key) row.0.1.2
    seal_harmless offered (refusals.Damaged at_byte why) all row = map_known row.0.1.2
    seal_harmless offered refusal all row = tt

    other_harmless : (taken : PartKind) (refusal : Refusal) → IsAtOther taken actor refusal old new → IsHarmless ⊥ refusal
    other_harmless taken (refusals.Clash key d) row = absurd row.0
    other_harmless taken (refusals.Corrupt slot offset count want got) row = absurd row.0
    other_harmless taken (refusals.Missing key) row = absurd row.0
    other_harmless taken (refusals.Damaged at_byte why) row = absurd row.0
    other_harmless taken refusal row = tt

    commit_harmless : (name : List ℕ) (root : Root) (refusal : Refusal) → CommitRow name root actor (Err refusal) old new → IsHarmless ⊥ refusal
    commit_harmless name root (refusals.Clash key d) row = absurd row.0.1
    commit_harmless name root (refusals.Corrupt slot offset count want got) row = absurd row.0.1
    commit_harmless name root (refusals.Missing key) row = absurd row.0.1
    commit_harmless name root (refusals.Damaged at_byte why) row = absurd row.0.1
    commit_harmless name root refusal row = tt

    open_harmless : (name : List ℕ) (refusal : Refusal) → OpenRow name actor (Err refusal) old new → IsHarmless ⊥ refusal
    open_harmless name (refusals.Clash key d) row = absurd row.0.1
    open_harmless name (refusals.Corrupt slot offset count want got) row = absurd row.0.1
    open_harmless name (refusals.Missing key) row = absurd row.0.1
    open_harmless name (refusals.Damaged at_byte why) row = absurd row.0.1
    open_harmless name refusal row = tt

    delete_harmless : (name : List ℕ) (refusal : Refusal) → DeleteRow name (Err refusal) old new → IsHarmless ⊥ refusal
    delete_harmless name (refusals.Clash key d) row = absurd row.0
    delete_harmless name (refusals.Corrupt slot offset count want got) row = absurd row.0
    delete_harmless name (refusals.Missing key) row = absurd row.0
    delete_harmless name (refusals.Damaged at_byte why) row = absurd row.0
    delete_harmless name refusal row = tt

    list_harmless : (refusal : Refusal) → ListRow (Err refusal) old new → IsHarmless ⊥ refusal
    list_harmless refusals.Memory row = tt
    list_harmless refusal row = absurd row

    -- the trees of all names are held, so no walk of them is stuck
    unique_fails : (refusal : Refusal) → IsUncounted refusal old new → IsTrue (fails refusal)
    unique_fails refusal row =
        row.held at.index at.index_known (key_set_of at.index) s.held image (record {
          told = here;
          index = at.index;
          index_known = refl;
          index_is_newest = at.represents.index_is_newest at.index at.index_known;
          has = λ key. of_index at.index key;
        })
        (subst (λ (names : NameMap). AllHeld (key_set_of at.index) s.held image (listing_of names)) (sym at.represents.names_are.names_are)
        (names_held s stored.files image stands_here.holds (key_set_of at.index)
        (λ key needed. in_index at.index key ((at.invariant image here).files_are_indexed key needed))))

    unique_harmless : (refusal : Refusal) → IsUncounted refusal old new → IsHarmless ⊥ refusal
    unique_harmless (refusals.Clash key d) row = absurd (let wrong = unique_fails (refusals.Clash key d) row in cc)
    unique_harmless (refusals.Corrupt slot offset count want got) row = absurd (let wrong = unique_fails (refusals.Corrupt slot offset count want got) row in cc)
    unique_harmless (refusals.Missing key) row = absurd (let wrong = unique_fails (refusals.Missing key) row in cc)
    unique_harmless (refusals.Damaged at_byte why) row = absurd (let wrong = unique_fails (refusals.Damaged at_byte why) row in cc)
    unique_harmless refusal row = tt

    end_harmless : (refusal : Refusal) → EndRow actor (Err refusal) old new → IsHarmless ⊥ refusal
    end_harmless (refusals.Clash key d) row = absurd row
    end_harmless (refusals.Corrupt slot offset count want got) row = absurd row
    end_harmless (refusals.Missing key) row = absurd row
    end_harmless (refusals.Damaged at_byte why) row = absurd row
    end_harmless refusal row = tt

    -- a read on the way of what is held
    stuck : (refusal : Refusal) → IsNotGiven refusal buf actor old new → IsStuck old.known old.breaks old.disk new.disk actor old.parts new.parts refusal
        → (counts : ByteSet) × ((rest : List Top) × ((segments : List (List ℕ)) × IsHeldAnswer counts s.held image rest segments buf (Err refusal)))
    stuck refusal row cause =
        stuck_held among s stored.files image at.index actor buf old new here at.index_known (at.represents.index_is_newest at.index at.index_known)
        (at.invariant image here).files_are_indexed at.represents.names_are.names_are stands_here distinct
        (at.invariant image here).pins_are_closed refusal row cause

    read_harmless : (refusal : Refusal) → ReadRow actor (Err refusal) buf old new → IsHarmless ⊥ refusal
    read_harmless (refusals.Clash key d) row = absurd (stuck (refusals.Clash key d) row row.cause).1.1.1
    read_harmless (refusals.Corrupt slot offset count want got) row = absurd (stuck (refusals.Corrupt slot offset count want got) row row.cause).1.1.1
    read_harmless (refusals.Missing key) row = absurd (stuck (refusals.Missing key) row row.cause).1.1.1
    read_harmless (refusals.Damaged at_byte why) row = absurd (stuck (refusals.Damaged at_byte why) row row.cause).1.1.1
    read_harmless refusal row = tt

    start_harmless : (percent : ℕ) (refusal : Refusal) → StartRow percent (Err refusal) old new → IsHarmless ⊥ refusal
    start_harmless percent (refusals.Collecting phase) row = tt
    start_harmless percent refusal row = subst (IsHarmless ⊥) (sym (unbegun_memory (IsIn among) s stored old new at refusal row)) tt

    -- while it marks, the marks are closed
    marked_at : (c : Collection) (stage : Stage) → IsSafeAt stage at.index s old.parts image c → IsMarked at.index s old.parts image c stage
    marked_at c (Mark level slot) safe = safe
    marked_at c other safe = tt

    gc_clean : (refusal : Refusal) → IsNotMade refusal old new → IsClean refusal
    gc_clean refusal row =
        let c = row.before in
        no_damage at.index s stored.files old.parts image old.tables old.disk new.disk c refusal stands_here.holds
        (subst (λ (known : Option PlaceMap). Represents s known old.tables) at.index_known at.represents) here
        (subst (IsUnderWayIn old.tables.held) row.ran at.under_way) (marked_at c c.stage (subst (IsSafeIn at.index s old.parts image) row.ran (at.safe image here)))
        (subst (λ (k : Option PlaceMap). IsStepRefusal c.stage c.sweep.next (moment old.tables k old.disk c) new.disk refusal) at.index_known row.cause)

    gc_harmless : (refusal : Refusal) → GcRow (Err refusal) old new → IsHarmless ⊥ refusal
    gc_harmless (refusals.Clash key d) row = gc_clean (refusals.Clash key d) row.0
    gc_harmless (refusals.Corrupt slot offset count want got) row = gc_clean (refusals.Corrupt slot offset count want got) row.0
    gc_harmless (refusals.Missing key) row = gc_clean (refusals.Missing key) row.0
    gc_harmless (refusals.Damaged at_byte why) row = gc_clean (refusals.Damaged at_byte why) row.0
    gc_harmless refusal row = tt

    step_harmless : (step : StepValue) (refusal : Refusal) → IsGivenRight (IsIn among) step (Err refusal) bytes old → Row step actor (Err refusal) buf old new
        → IsHarmless (MayClash step) refusal
    step_harmless asked.Begin refusal given row = other_harmless part.Idle refusal row
    step_harmless (asked.Claim seg) refusal given row = claim_harmless seg refusal given row
    step_harmless (asked.Seal offered) refusal given row = seal_harmless offered refusal given row
    step_harmless (asked.Commit name root) refusal given row = commit_harmless name root refusal row
    step_harmless asked.Abort refusal given row = other_harmless part.Writing refusal row
    step_harmless (asked.OpenRead name) refusal given row = open_harmless name refusal row
    step_harmless asked.ReadNext refusal given row = read_harmless refusal row
    step_harmless asked.EndRead refusal given row = end_harmless refusal row
    step_harmless (asked.Delete name) refusal given row = delete_harmless name refusal row
    step_harmless asked.ListNames refusal given row = list_harmless refusal row
    step_harmless (asked.GcStart percent) refusal given row = start_harmless percent refusal row
    step_harmless asked.GcStep refusal given row = gc_harmless refusal row
    step_harmless asked.Stat refusal given row = absurd row
    step_harmless asked.Unique refusal given row = unique_harmless refusal row

    pub answer_harmless : (step : StepValue) (answer : Result Answer Refusal) → IsGivenRight (IsIn among) step answer bytes old → Row step actor answer buf old new
        → IfErr answer (λ refusal. IsHarmless (MayClash step) refusal)
    answer_harmless step (Ok answer) given row = tt
    answer_harmless step (Err refusal) given row = step_harmless step refusal given row

-- ---- a step, whether or not the core is stopped

by_stop : (among : ByteSet) (f : FileEvent) (s : Store) (stored : Stored) (old new : CoreState) → HasNoCollisions (IsIn among) → IsAt (IsIn among) s stored old
    → FileStep (IsIn among) f old new → (stop : Option Stop) → StepsOr stop f.event old new → IfErr f.event.answer (λ refusal. IsHarmless (MayClash f.event.step) refusal)
by_stop among f s stored old new distinct at step None made =
    answer_harmless among s stored old new distinct at f.event.actor f.event.buf f.bytes f.event.step f.event.answer step.given made.made.row
by_stop among f s stored old new distinct at step (Some stop) made =
    subst (λ (a : Result Answer Refusal). IfErr a (λ refusal. IsHarmless (MayClash f.event.step) refusal)) (sym made.answer_is) tt

-- A core that is at a store finds no damage, and misses nothing; and data never clashes.
pub never_damaged : (among : ByteSet) (f : FileEvent) (s : Store) (stored : Stored) (old new : CoreState) → HasNoCollisions (IsIn among) → IsAt (IsIn among) s stored old
    → FileStep (IsIn among) f old new → IfErr f.event.answer (λ refusal. IsHarmless (MayClash f.event.step) refusal)
never_damaged among f s stored old new distinct at step = by_stop among f s stored old new distinct at step old.stop step.made

-- A container that is sealed after reads.
use Rattle.ingest_steps.proofs.Prelude.{◌≡◌, inl, inr, ℕ, ◌<◌, List, Option, Some, Result, Ok, Err, refl, sym, ◌∙◌, ap, subst, AllByRecursion, slot_at, DiskView, IsLater, OnlyReads, SteppedFrom, Ending, Blame, NoCall, ReadCall, WriteCall, Done, Refused, Unread, Broken, ending, ending_of, Arrives, StandsFor, Shows, Both, counts_on, later_on, leaves_on, leaves_weaker, reads_leave, stands_reads, shown_content, Place, PlaceMap, Contents, Refusal, Memory, DiskWrite, SameBefore, Files, Store, HasKey, IsPartialIndexOf, free_slots, HasNoCollisions, ByteSet, IsIn, Stands, FitsHeld, IsChangeRefusal, KeepsWhatCounts, Left, Steps, Tables, Represents, FitBeside, KeepsHeld, SealsIndexed, SealsCompared, HasSlot, HasSlotBeside, HasWritten, HasPlacesOf, WasCompared, IsCompared, IsSealRefusal, sealing_indexed}
use Rattle.std.proofs.Common.{OnOk, IfOk, IfErr, IsErrAnd}
use Rattle.disk_format.specs.declared.numbers.TheConstants.{RESERVE}
use Rattle.dd_disk.specs.Ending.{Reads}
use Rattle.dd_disk.specs.Moves.{Moved}
use Rattle.dd_disk.proofs.Later.{reads_on}
use Rattle.dd_disk.proofs.Shows.{until}
use Rattle.refusals.specs.declared.refusal.Refusal.TheVariants.{DiskRead, Damaged}
use Rattle.store_state.specs.Comparing.{FitSoFar, IsAllRefusal, IsFirstUnlike}
use Rattle.store_state.specs.Refused.{blames}
use Rattle.store_state.specs.Settled.{IsSettled}
use Rattle.ingest_steps.specs.Sealing.{HasSealed, KeepsMap, index_first, sealing_compared}
use Rattle.ingest_steps.proofs.SlotFrame.{first_after, first_reads}
use Rattle.ingest_steps.proofs.Sealed.{same_content, same_keeps}

-- ---- the map

pub map_on_ok : {T E : Type 0} (result : Result T E) (P Q : Type 0) → (P → Q) → OnOk result P → OnOk result Q
map_on_ok (Ok x) P Q each has = each has
map_on_ok (Err e) P Q each has = tt

pub has_places_before : (filled : Contents) (slot : ℕ) (before now after : Option (List ℕ) → Option PlaceMap) (old mid new : Option (List ℕ)) → mid ≡ old → now mid ≡ before old
    → HasPlacesOf filled slot now after mid new → HasPlacesOf filled slot before after old new
has_places_before filled slot before now after old mid new same also has = record {
  told = λ given is m known. has.told given (same ∙ is) m (also ∙ known);
  untold = λ none m known. has.untold (same ∙ none) m (sym (ap now (same ∙ none)) ∙ also ∙ ap before none ∙ known);
}

-- what comparing refused is refused
pub first_refused : (size : ℕ) (known : Option PlaceMap) (shown : (List ℕ → Type 0) → Type 0) (filled : Contents) (refusal : Refusal)
    → IsAllRefusal known (IsFirstUnlike size known shown filled.kind filled.segments) refusal → IsSealRefusal known (IsCompared size known shown filled) refusal
first_refused size known shown filled Memory has = tt
first_refused size known shown filled DiskRead has = tt
first_refused size known shown filled DiskWrite has = absurd has.unlike.refused.2
first_refused size known shown filled (Damaged at why) has = has
first_refused size known shown filled refusal has = has

pub change_refused : (k l : Option PlaceMap) (compared : Refusal → Type 0) → k ≡ l → compared DiskWrite → (refusal : Refusal) → IsChangeRefusal k refusal →
    IsSealRefusal l compared refusal
change_refused k l compared same fits Memory has = tt
change_refused k l compared same fits DiskWrite has = fits
change_refused k l compared same fits (Damaged at why) has = sym same ∙ has
change_refused k l compared same fits refusal has = absurd has

pub map_kept : {T : Type 0} (result : Result T Refusal) (k l new : Option PlaceMap) → k ≡ l → IfErr result (IsChangeRefusal k) → (result ≡ Err Memory → new ≡ k)
    → IfErr result (KeepsMap l new)
map_kept (Ok x) k l new same refused memory = tt
map_kept (Err Memory) k l new same refused memory = memory refl ∙ same
map_kept (Err DiskWrite) k l new same refused memory = tt
map_kept (Err (Damaged at why)) k l new same refused memory = tt
map_kept (Err refusal) k l new same refused memory = absurd refused

-- and what was compared was so on the disk of before
pub compared_and_sealed : (result : Result ℕ Refusal) (t new : Tables) (slot : ℕ) (filled : Contents) (size mid_size : ℕ) (known mid_known : Option PlaceMap) (compared : Type 0)
    → mid_size ≡ size
    → mid_known ≡ known → compared → HasSlot t slot → IfOk result (λ id. (spares : ℕ) → HasSlotBeside spares t slot → HasWritten spares t mid_size mid_known slot filled new id)
    → IfOk result (λ id. HasSealed t size known slot filled new id × compared)
compared_and_sealed (Ok id) t new slot filled size mid_size known mid_known compared same_size same_known has slot_is sealed = (
  subst (λ (n : ℕ). HasSealed t n known slot filled new id) same_size
      (subst (λ (k : Option PlaceMap). HasSealed t mid_size k slot filled new id) same_known (sealed RESERVE slot_is)),
  has,
)
compared_and_sealed (Err e) t new slot filled size mid_size known mid_known compared same_size same_known has slot_is sealed = tt

pub was_compared : (size : ℕ) (known : Option PlaceMap) (old mid new : DiskView) (filled : Contents) (hads : List (Option Place)) → OnlyReads old mid → IsLater mid new
    → FitSoFar size known (Shows old mid) filled.kind filled.segments hads → WasCompared size known (Shows old new) filled
was_compared size known old mid new filled hads reads later fit = record {
  hads = hads;
  fit = record { had = fit.had; fit = until old mid new fit.fit reads.later.clock_is later };
}

-- ---- the disk

module _ (slots : ℕ) (old mid new : DiskView) (reads : Reads Done old mid) where
  settled_after : IsSettled slots old → IsSettled slots mid
  settled_after settled bytes known c image = settled bytes (sym reads.only.content_is ∙ known) c (reads.only.images_are c image)

  counts_after : KeepsWhatCounts slots mid new → KeepsWhatCounts slots old new
  counts_after keep = record {
    content_is = subst (λ (x : Option (List ℕ)). Both (SameBefore (slot_at slots)) x new.content) reads.only.content_is keep.content_is;
    leaves = leaves_on (SteppedFrom (SameBefore (slot_at slots)) old) (SteppedFrom (SameBefore (slot_at slots)) mid)
        (SteppedFrom (SameBefore (slot_at slots)) old) old mid new reads.only.later.clock_is
        (reads_leave (SteppedFrom (SameBefore (slot_at slots)) old) old mid (λ c image. inl image) reads.only) keep.leaves (λ c has. has)
        (λ c from. elim from [
          | inl image ↦ inl (reads.only.images_are c image)
          | inr stepped ↦ inr (stepped.0, reads.only.images_are stepped.0 stepped.1, stepped.2)
        ]);
  }

  left_after : (e : Ending) → Left slots e mid new → Left slots e old new
  left_after Done left = λ settled. left (settled_after settled)
  left_after Refused left = counts_after left
  left_after Unread left = counts_after left
  left_after Broken left = tt

  pub steps_after : (e : Ending) → Steps slots e mid new → Steps slots e old new
  steps_after e steps = record {
    later = later_on old mid new reads.only.later steps.later;
    left = left_after e steps.left;
    faults_are = counts_on e old.faults mid.faults new.faults reads.faults_are steps.faults_are;
  }

-- ---- a container that is written after reads

module _ (old mid new : DiskView) (reads : OnlyReads old mid) (P Q : List ℕ → Type 0) where
  arrives_after : (x : Ending) → Arrives (index_first P Q) x mid new → Arrives (index_first P Q) x old new
  arrives_after Done arrives = arrives
  arrives_after Refused (inl only) = inl (reads_on old mid new reads only)
  arrives_after Refused (inr rests) = inr rests
  arrives_after Unread (inl only) = inl (reads_on old mid new reads only)
  arrives_after Unread (inr rests) = inr rests
  arrives_after Broken arrives = arrives

module _ (t : Tables) (id : ℕ) (filled : Contents) (e : Ending) (old mid new : DiskView) (reads : OnlyReads old mid) (later : IsLater mid new)
    (seals : SealsIndexed t id filled e mid new) where
  pub indexed_after : SealsIndexed t id filled e old new
  indexed_after = record {
    frame = λ known. first_after known t old mid new reads later (seals.frame known);
    moves = λ among store known index files given is content may indexed fit stands.
        let P : List ℕ → Type 0 = Stands (IsIn among) store files in
        let way = sealing_indexed (IsIn among) id filled store files in
        let moved = seals.moves among store known index files given is (reads.content_is ∙ content) may indexed fit (stands_reads P old mid stands reads) in
        record {
          leaves = leaves_on P way.between way.between old mid new reads.later.clock_is (reads_leave P old mid stands.each reads) moved.leaves (λ c has. inl has) (λ c has. has);
          arrives = arrives_after old mid new reads P way.after e moved.arrives;
        };
    holds = λ among store known index files given held is content now stands may fit. seals.holds among store known index files given held is
        (reads.content_is ∙ content) now stands may fit;
  }

-- One that was compared before, in a slot with others to spare.
module _ (t : Tables) (known : Option PlaceMap) (id : ℕ) (filled : Contents) (e : Ending) (old mid new : DiskView) (reads : Reads Done old mid)
    (held : Shows old mid
    (λ image. (store : Store) (m : PlaceMap) → known ≡ Some m → IsPartialIndexOf store.held m → AllByRecursion (FitsHeld (HasKey m) filled.kind store image) filled.segments))
    (later : IsLater mid new) (seals : SealsIndexed t id filled e mid new)
    (spare : (among : ByteSet) (store : Store) (files : Files) (given : List ℕ) → Represents store known t → Stands (IsIn among) store files given
    → RESERVE < free_slots store.held) where
  abbrev indexed : SealsIndexed t id filled e old new
  indexed = indexed_after t id filled e old mid new reads.only later seals

  -- each segment fits what is held of its key
  fits : (among : ByteSet) (store : Store) (map : PlaceMap) (given : List ℕ) → known ≡ Some map → Represents store known t → old.content ≡ Some given → HasNoCollisions (IsIn among)
      → FitBeside (IsIn among) map filled.kind filled.segments store given
  fits among store map given known_is is content distinct = inl (distinct, shown_content old mid _ given held content store map known_is (is.index_is_newest map known_is))

  module _ (S : List ℕ → Type 0) (store : Store) (files : Files) (more : RESERVE < free_slots store.held) where
    with_spare : (c : List ℕ) → (sealing_indexed S id filled store files).between c → (sealing_compared S id filled store files).between c
    with_spare c (inl stands) = inl stands
    with_spare c (inr stands) = inr (more, stands)

    arrives_so : (x : Ending) → Arrives (sealing_indexed S id filled store files) x old new → Arrives (sealing_compared S id filled store files) x old new
    arrives_so Done arrives = record { known = arrives.known; each = λ c image. (more, arrives.each c image) }
    arrives_so Refused arrives = arrives
    arrives_so Unread arrives = arrives
    arrives_so Broken arrives = record { known = arrives.known; each = λ c image. with_spare c (arrives.each c image) }

  pub seals_after : SealsCompared t known id filled e old new
  seals_after = record {
    frame = indexed.frame known;
    moves = λ among store files map known_is is all distinct may stands.
        let given = stands.known.0 in
        let content = stands.known.1 in
        let more = spare among store files given is (stands.each given (old.as_read given content)) in
        let moved = indexed.moves among store known map files given is content may all (fits among store map given known_is is content distinct) stands in
        record {
          leaves = leaves_weaker (sealing_indexed (IsIn among) id filled store files).between (sealing_compared (IsIn among) id filled store files).between old new
              (with_spare (IsIn among) store files more) moved.leaves;
          arrives = arrives_so (IsIn among) store files more e moved.arrives;
        };
    holds = λ among store files map given now known_is is content content_now stands distinct may.
        indexed.holds among store known map files given now is content content_now stands may (fits among store map given known_is is content distinct);
  }

-- ---- nothing but reads

module _ (t : Tables) (id : ℕ) (filled : Contents) (old new : DiskView) (reads : OnlyReads old new) where
  module _ (P Q : List ℕ → Type 0) (stands : StandsFor P old) where
    arrives_read : (b : Blame) → Arrives (index_first P Q) (ending_of b) old new
    arrives_read NoCall = inl reads
    arrives_read ReadCall = inl reads
    arrives_read WriteCall = let now = stands_reads P old new stands reads in record { known = now.known; each = λ c image. inl (now.each c image) }

    moved_read : (b : Blame) → Moved (index_first P Q) (ending_of b) old new
    moved_read b = record { leaves = reads_leave (index_first P Q).between old new (λ c image. inl (stands.each c image)) reads; arrives = arrives_read b }

  holds_read : (map : PlaceMap) (store : Store) (given held : List ℕ) (b : Blame) → old.content ≡ Some given → new.content ≡ Some held
      → KeepsHeld map (ending_of b) id filled store given held
  holds_read map store given held NoCall content now = same_keeps store given held (same_content held given (sym now ∙ reads.content_is ∙ content))
  holds_read map store given held ReadCall content now = same_keeps store given held (same_content held given (sym now ∙ reads.content_is ∙ content))
  holds_read map store given held WriteCall content now = tt

  seals_read : (known : Option PlaceMap) (b : Blame) → SealsCompared t known id filled (ending_of b) old new
  seals_read known b = record {
    frame = first_reads known t old new reads;
    moves = λ among store files map known_is is all distinct may stands. moved_read (Stands (IsIn among) store files)
        (sealing_compared (IsIn among) id filled store files).after stands b;
    holds = λ among store files map given held known_is is content now stands distinct may. holds_read map store given held b content now;
  }

  indexed_read : (b : Blame) → SealsIndexed t id filled (ending_of b) old new
  indexed_read b = record {
    frame = λ known. first_reads known t old new reads;
    moves = λ among store known index files given is content may all fit stands. moved_read (Stands (IsIn among) store files)
        (sealing_indexed (IsIn among) id filled store files).after stands b;
    holds = λ among store known index files given held is content now stands may fit. holds_read index store given held b content now;
  }

  -- whatever was refused
  pub seals_refused_by : {T : Type 0} (known : Option PlaceMap) (result : Result T Refusal) (P : Refusal → Type 0) → IsErrAnd result P
      → SealsCompared t known id filled (ending blames result) old new
  seals_refused_by known (Ok x) P is = absurd is
  seals_refused_by known (Err e) P is = seals_read known (blames e)

  pub indexed_refused_by : {T : Type 0} (result : Result T Refusal) (P : Refusal → Type 0) → IsErrAnd result P → SealsIndexed t id filled (ending blames result) old new
  indexed_refused_by (Ok x) P is = absurd is
  indexed_refused_by (Err e) P is = indexed_read (blames e)

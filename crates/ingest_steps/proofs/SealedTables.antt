-- What a container more makes of the tables and of the disk, where the index is changed first.
use Rattle.ingest_steps.proofs.Prelude.{◌≡◌, inl, inr, Bool, true, false, ℕ, suc, ◌+◌, ◌-◌, ◌<◌, ◌≤◌, List, [], ◌∷◌, length, get_or, Option, Some, None, refl, sym, ◌∙◌, ap, subst, arith, nat_le, AllByRecursion, sum_by-cons, slot_at, DiskView, IsDurable, IsLater, CrashLeaves, SteppedFrom, Ending, Blame, NoCall, ReadCall, WriteCall, Done, Refused, Unread, Broken, ending_of, Both, StandsFor, Arrives, later_on, leaves_on, leaves_weaker, counts_on, Known, Refusal, DiskWrite, stands_reads, Entry, Kind, Leaf, Tree, PlaceMap, Segment, Contents, entries_from, segment_key, HeaderValue, header_of, KnownMap, SameBefore, Changes, JournalValue, IsTold, NameMap, Files, Store, IsValidFor, with_entries, Copy, HasFree, HasKey, IsPartialIndexOf, newest, IsIn, Stands, CanHold, FitsHeld, with_sealed, HasNewest, bytes_at, some_same, headers_of_right, SameTo, as_many, Tables, KeepsWhatCounts, Left, Steps, Represents, Runs, IsSlotOf, HasSlotBeside, FitBeside, KeepsHeld, SealsContainer, SealsIndexed, HasWritten, ChangesSlotAlone, places_with, sealing, sealing_indexed}
use Rattle.std.specs.Prelude.{◌&&◌}
use Rattle.std.proofs.lemmas.Bool.{leb-true}
use Rattle.std.proofs.lemmas.List.{length-map}
use Rattle.disk_format.specs.Layout.{size_of}
use Rattle.dd_disk.specs.Moves.{Acts}
use Rattle.base_model.specs.Known.{KnownWith}
use Rattle.container_log.specs.Writing.{SameButSlot}
use Rattle.store_state.specs.Refused.{blames}
use Rattle.dd_disk.proofs.Moves.{stands_left}
use Rattle.container_meta.specs.Segments.{bytes_in}
use Rattle.container_meta.specs.Spelling.{IsHeader, header_digest}
use Rattle.segment_index.specs.Changes.{SameFrom}
use Rattle.store_model.specs.Slots.{with_slot}
use Rattle.store_model.proofs.FramedTrees.{newest_framed, stands_framed}
use Rattle.store_model.proofs.HeldSlots.{all_held, copy_still}
use Rattle.store_model.proofs.IndexSize.{partial_sealed}
use Rattle.store_model.proofs.Valid.{free_sealed, valid_sealed}
use Rattle.store_state.specs.Tables.{RepresentsSlots, count_of}
use Rattle.store_state.proofs.Changed.{keeps}
use Rattle.store_state.proofs.Indexed.{length-entries_from}
use Rattle.ingest_steps.proofs.SlotFrame.{first_changed, first_on}

-- ---- how much a container has

pub last_entry : (d : Entry) (offset : ℕ) (ss : List Segment) → 1 ≤ length ss
    → (get_or (entries_from offset ss) (length ss - 1) d).offset + (get_or (entries_from offset ss) (length ss - 1) d).length ≡ offset + bytes_in ss
last_entry d offset [] some = absurd (omega (arith, some))
last_entry d offset (s ∷ []) some = omega (arith, sum_by-cons (λ (x : Segment). length x.bytes) s [])
last_entry d offset (s ∷ t ∷ ss) some =
    let one_on : length (s ∷ t ∷ ss) - 1 ≡ suc (length (t ∷ ss) - 1) = omega arith in
    ap (λ (n : ℕ). (get_or (entries_from offset (s ∷ t ∷ ss)) n d).offset + (get_or (entries_from offset (s ∷ t ∷ ss)) n d).length) one_on
    ∙ last_entry d (offset + length s.bytes) (t ∷ ss) (omega arith) ∙ omega (arith, sum_by-cons (λ (x : Segment). length x.bytes) s (t ∷ ss))

pub last_of : (d : Entry) (es : List Entry) (ss : List Segment) → es ≡ entries_from 0 ss → 1 ≤ length ss
    → (get_or es (length es - 1) d).offset + (get_or es (length es - 1) d).length ≡ bytes_in ss
last_of d es ss is some =
    ap (λ (l : List Entry). (get_or l (length l - 1) d).offset + (get_or l (length l - 1) d).length) is
    ∙ ap (λ (n : ℕ). (get_or (entries_from 0 ss) (n - 1) d).offset + (get_or (entries_from 0 ss) (n - 1) d).length) (length-entries_from 0 ss)
    ∙ last_entry d 0 ss some
    ∙ omega arith

-- what is counted of a container is what its header says
pub same_count : (h : HeaderValue) (kind : Kind) (entries bytes : ℕ) (digest : List ℕ)
    → h.kind ≡ kind → length h.entries ≡ entries → h.data_length ≡ bytes → header_digest h ≡ digest
    → count_of (Some h) ≡ record { kind = kind; entries = entries; bytes = bytes; digest = digest }
same_count h kind entries bytes digest same many long hashed = cc

-- ---- the tables

pub counts_many : (size : ℕ) (known : Option PlaceMap) (t : Tables) → Runs size known t → length t.held.counts.items ≡ length t.held.ids.items
counts_many size known t runs =
    let held = runs.store.held in
    omega (arith, ap length runs.represents.slots_hold.counts_are, length-map held count_of, ap length runs.represents.slots_hold.ids_are, as_many held)

pub slot_in_table : {spares : ℕ} (size : ℕ) (known : Option PlaceMap) (t : Tables) (slot : ℕ) → HasSlotBeside spares t slot → Runs size known t → slot < length t.held.ids.items
slot_in_table size known t slot has runs =
    omega (
      arith,
      ((has.slot_is size known).store_has runs.store runs.represents runs.valid runs.has_free).within,
      ap length runs.represents.slots_hold.ids_are,
      as_many
          runs.store.held,
      runs.valid.many,
    )

module _ {spares : ℕ} (t new : Tables) (slot id : ℕ) (filled : Contents) (has : HasSlotBeside spares t slot) (next : id ≡ t.held.last_id + 1)
    (right : IsHeader (header_of id filled.kind filled.segments))
    (last : new.held.last_id ≡ id) (slots_are : new.slots ≡ t.slots) (journal_is : new.journal ≡ t.journal) (names_are : new.names ≡ t.names)
    (taken : (held : List (Option HeaderValue)) → RepresentsSlots held t.held → RepresentsSlots (with_slot slot (header_of id filled.kind filled.segments) held) new.held) where
  can_seal : (store : Store) (known : Option PlaceMap) → Represents store known t → IsSlotOf spares slot store → CanHold spares id filled.kind filled.segments store
  can_seal store known is at = record { slot = at.spare; new_id = omega (arith, next, is.slots_hold.last_id_is); right = right }

  indexed : (store : Store) (known : Option PlaceMap) → Represents store known t → IsSlotOf spares slot store
      → KnownMap (places_with filled slot known) (IsPartialIndexOf (with_sealed id filled.kind filled.segments store).held)
  indexed store known is at = by_known known is.index_is_newest
    where
      by_known : (k : Option PlaceMap) → KnownMap k (IsPartialIndexOf store.held)
          → KnownMap (places_with filled slot k) (IsPartialIndexOf (with_sealed id filled.kind filled.segments store).held)
      by_known None newest_is m e = absurd cc
      by_known (Some places) newest_is m e =
          subst (IsPartialIndexOf (with_sealed id filled.kind filled.segments store).held)
          (ap (λ (i : ℕ). with_entries filled.kind i (entries_from 0 filled.segments) places) (sym at.first)
          ∙ some_same (with_entries filled.kind slot (entries_from 0 filled.segments) places) m e)
          (partial_sealed id filled.kind filled.segments store (can_seal store known is at) places (newest_is places refl) right)

  represents_sealed : (store : Store) (known : Option PlaceMap) → Represents store known t → IsSlotOf spares slot store
      → Represents (with_sealed id filled.kind filled.segments store) (places_with filled slot known) new
  represents_sealed store known is at = record {
    slots_are = slots_are ∙ is.slots_are;
    names_are = told;
    slots_hold = subst (λ (i : ℕ). RepresentsSlots (with_slot i (header_of id filled.kind filled.segments) store.held) new.held) at.first (taken store.held is.slots_hold);
    index_is_newest = indexed store known is at;
  }
    where
      told : IsTold store.other_open store.selector store.records new.journal new.names new.journal.last
      told = subst (λ (j : JournalValue). IsTold store.other_open store.selector store.records j new.names j.last) (sym journal_is)
          (subst (λ (n : NameMap). IsTold store.other_open store.selector store.records t.journal n t.journal.last) (sym names_are) is.names_are)

  pub has_sealed : (size : ℕ) (known : Option PlaceMap) → HasWritten spares t size known slot filled new id
  has_sealed size known = record {
    number = next;
    last_is = last;
    others_stay = others;
    can = record { store_has = λ store is valid free. can_seal store known is (at known store is valid free) };
    represents = record { store_has = λ store is valid free. represents_sealed store known is (at known store is valid free) };
    alone = record { store_has = λ store is valid free. (can_seal store None is (at None store is valid free), represents_sealed store None is (at None store is valid free)) };
    runs = λ map left runs.
        let here = at map runs.store runs.represents runs.valid runs.has_free in
        let can = can_seal runs.store map runs.represents here in
        record {
          store = with_sealed id filled.kind filled.segments runs.store;
          represents = represents_sealed runs.store map runs.represents here;
          valid = valid_sealed id filled.kind filled.segments runs.store can size runs.valid;
          has_free = omega (arith, free_sealed id filled.kind filled.segments runs.store can, here.spare, left);
        };
  }
    where
      at : (map : Option PlaceMap) (store : Store) → Represents store map t → IsValidFor size store → HasFree store.held → IsSlotOf spares slot store
      at map store is valid free = (has.slot_is size map).store_has store is valid free

      others : new ≡ record t { held = new.held }
      others =
          ap (λ (s : ℕ). (let x : Tables = record new { slots = s } in x)) slots_are
          ∙ ap (λ (j : JournalValue). (let x : Tables = record new { slots = t.slots; journal = j } in x)) journal_is
          ∙ ap (λ (n : NameMap). (let x : Tables = record t { names = n; held = new.held } in x)) names_are

-- ---- the disk, where the index is changed

pub both_known : (R : List ℕ → List ℕ → Type 0) (a b : Option (List ℕ)) (old new : List ℕ) → Both R a b → a ≡ Some old → b ≡ Some new → R old new
both_known R None b old new has is also = absurd cc
both_known R (Some a) None old new has is also = absurd cc
both_known R (Some a) (Some b) old new has is also = subst (R old) (some_same b new also) (subst (λ (x : List ℕ). R x b) (some_same a old is) has)

module _ (store : Store) (slots : ℕ) (slots_are : slots ≡ store.slots) where
  pub to_slots : (old new : List ℕ) → SameBefore (slot_at slots) old new → SameTo (slot_at store.slots) old new
  to_slots old new same p n within = same.before p n (omega (arith, within, slots_are))

  pub stands_before : (S : List ℕ → Type 0) (files : Files) (old new : List ℕ) → Stands S store files old → SameBefore (slot_at slots) old new → Stands S store files new
  stands_before S files old new stands same = stands_framed S store files old new stands (to_slots old new same) same.size

  -- what fits in one image fits in the other
  fits_before : (S : List ℕ → Type 0) (files : Files) (old new : List ℕ) → Stands S store files old → SameBefore (slot_at slots) old new
      → (P : List ℕ → Type 0) (kind : Kind) (ss : List Segment)
      → AllByRecursion (FitsHeld P kind store old) ss → AllByRecursion (FitsHeld P kind store new) ss
  fits_before S files old new stands same P kind [] all = tt
  fits_before S files old new stands same P kind (s ∷ ss) all = (one kind all.0, fits_before S files old new stands same P kind ss all.1)
    where
      same_copy : (key : List ℕ) (copy : Copy) → newest 0 store.held key ≡ Some copy → bytes_at copy.place new ≡ bytes_at copy.place old
      same_copy key copy e =
          copy_still old new store.held key copy (headers_of_right old store stands.holds.right)
          (all_held old new 0 store.held (λ slot from below p n above within. to_slots old new same p n (omega (arith, below, within, stands.holds.right.many)))) e

      one : (k : Kind) → FitsHeld P k store old s → FitsHeld P k store new s
      one Leaf fits = λ copy counts e. fits copy counts e
      one Tree fits = λ copy counts e. same_copy (segment_key Tree s) copy e ∙ fits copy counts e

  -- what is held in one is held in the other
  copies_before : (S : List ℕ → Type 0) (files : Files) (old new : List ℕ) → Stands S store files old → SameBefore (slot_at slots) old new → (kind : Kind) (ss : List Segment)
      → AllByRecursion (λ s. HasNewest store.held (segment_key kind s) s.level s.bytes old) ss
      → AllByRecursion (λ s. HasNewest store.held (segment_key kind s) s.level s.bytes new) ss
  copies_before S files old new stands same kind [] all = tt
  copies_before S files old new stands same kind (s ∷ ss) all = (
    newest_framed store old new stands.holds.right (to_slots old new same) (segment_key kind s) s.level s.bytes all.0,
    copies_before S files old new stands same kind ss all.1,
  )

  fit_before : (S : List ℕ → Type 0) (index : PlaceMap) (files : Files) (old new : List ℕ) → Stands S store files old → SameBefore (slot_at slots) old new
      → (kind : Kind) (ss : List Segment)
      → FitBeside S index kind ss store old → FitBeside S index kind ss store new
  fit_before S index files old new stands same kind ss fit = elim fit [
    | inl each ↦ inl (each.0, fits_before S files old new stands same (HasKey index) kind ss each.1)
    | inr (inl none) ↦ inr (inl none)
    | inr (inr copies) ↦ inr (inr (copies_before S files old new stands same kind ss copies))
  ]

  module _ (S : List ℕ → Type 0) (files : Files) (e : Ending) (old mid : DiskView) (changes : Changes (slot_at slots) e old mid)
      (stands : StandsFor (Stands S store files) old) where
    pub leaves_before : CrashLeaves (Stands S store files) old mid
    leaves_before = leaves_weaker (SteppedFrom (SameBefore (slot_at slots)) old) (Stands S store files) old mid (λ c from. elim from [
      | inl image ↦ stands.each c image
      | inr stepped ↦ stands_before S files stepped.0 c (stands.each stepped.0 stepped.1) stepped.2
    ]) changes.leaves

    pub then_stands : StandsFor (Stands S store files) mid
    then_stands = stands_left (Stands S store files) (Stands S store files) old mid stands changes.later leaves_before

-- what counts is as it was, where the change was refused
left_refused : (slots : ℕ) (b : Blame) (old new : DiskView) → KeepsWhatCounts slots old new → Left slots (ending_of b) old new
left_refused slots NoCall old new keep = keep
left_refused slots ReadCall old new keep = keep
left_refused slots WriteCall old new keep = tt

pub steps_refused : (slots : ℕ) (b : Blame) (old new : DiskView) → Changes (slot_at slots) (ending_of b) old new → Steps slots (ending_of b) old new
steps_refused slots b old new changes = record {
  later = changes.later;
  left = left_refused slots b old new (keeps slots (ending_of b) old new changes);
  faults_are = changes.faults_are;
}

-- the index was not changed
module _ (t : Tables) (id : ℕ) (filled : Contents) (b : Blame) (old new : DiskView) (changes : Changes (slot_at t.slots) (ending_of b) old new) where
  arrives_refused : (S : List ℕ → Type 0) (store : Store) (files : Files) (a : Blame) → StandsFor (Stands S store files) new
      → Arrives (sealing_indexed S id filled store files) (ending_of a) old new
  arrives_refused S store files NoCall stands = inr stands
  arrives_refused S store files ReadCall stands = inr stands
  arrives_refused S store files WriteCall stands = record { known = stands.known; each = λ c image. inl (stands.each c image) }

  holds_refused : (store : Store) (given held : List ℕ) (a : Blame)
      → ((key : List ℕ) (level : ℕ) (bytes : List ℕ) → HasNewest store.held key level bytes given → HasNewest store.held key level bytes held)
      → (index : PlaceMap) → KeepsHeld index (ending_of a) id filled store given held
  holds_refused store given held NoCall each index = λ key level bytes counts has. each key level bytes has
  holds_refused store given held ReadCall each index = λ key level bytes counts has. each key level bytes has
  holds_refused store given held WriteCall each index = tt

  pub seals_refused : SealsIndexed t id filled (ending_of b) old new
  seals_refused = record {
    frame = λ known. first_changed known t (ending_of b) old new changes;
    moves = λ among store known index files given is content may indexed fit stands. record {
      leaves = leaves_weaker (Stands (IsIn among) store files) (sealing_indexed (IsIn among) id filled store files).between old new (λ c has. inl has)
          (leaves_before store t.slots is.slots_are (IsIn among) files (ending_of b) old new changes stands);
      arrives = arrives_refused (IsIn among) store files b (then_stands store t.slots is.slots_are (IsIn among) files (ending_of b) old new changes stands);
    };
    holds = λ among store known index files given held is content now stands may fit.
        holds_refused store given held b
        (newest_framed store given held stands.holds.right
        (to_slots store t.slots is.slots_are given held (both_known (SameBefore (slot_at t.slots)) old.content new.content given held changes.content_is content now))) index;
  }

-- it was, and then the container was written
module _ (t : Tables) (id : ℕ) (filled : Contents) (e : Ending) (old mid new : DiskView) (changes : Changes (slot_at t.slots) Done old mid)
    (seals : SealsContainer t id filled e mid new)
    {spares : ℕ} (slot : ℕ) (has : HasSlotBeside spares t slot) (later : IsLater mid new) (alone : ChangesSlotAlone t.slots slot mid new) where
  arrives_on : (S : List ℕ → Type 0) (store : Store) (files : Files) (x : Ending) → StandsFor (Stands S store files) mid → Arrives (sealing S id filled store files) x mid new
      → Arrives (sealing_indexed S id filled store files) x old new
  arrives_on S store files Done stands arrives = arrives
  arrives_on S store files Refused stands (inl reads) = inr (stands_reads (Stands S store files) mid new stands reads)
  arrives_on S store files Refused stands (inr none) = absurd (none.each none.known.0 (new.as_read none.known.0 none.known.1))
  arrives_on S store files Unread stands (inl reads) = inr (stands_reads (Stands S store files) mid new stands reads)
  arrives_on S store files Unread stands (inr none) = absurd (none.each none.known.0 (new.as_read none.known.0 none.known.1))
  arrives_on S store files Broken stands arrives = arrives

  holds_on : (index : PlaceMap) (store : Store) (given then held : List ℕ) (x : Ending)
      → ((key : List ℕ) (level : ℕ) (bytes : List ℕ) → HasNewest store.held key level bytes given → HasNewest store.held key level bytes then)
      → KeepsHeld index x id filled store then held → KeepsHeld index x id filled store given held
  holds_on index store given then held Done each keep = (λ key level bytes counts has. keep.0 key level bytes counts (each key level bytes has), keep.1)
  holds_on index store given then held Refused each keep = λ key level bytes counts has. keep key level bytes counts (each key level bytes has)
  holds_on index store given then held Unread each keep = λ key level bytes counts has. keep key level bytes counts (each key level bytes has)
  holds_on index store given then held Broken each keep = tt

  same_then : (given then : List ℕ) → old.content ≡ Some given → mid.content ≡ Some then → SameBefore (slot_at t.slots) given then
  same_then given then content is = both_known (SameBefore (slot_at t.slots)) old.content mid.content given then changes.content_is content is

  pub seals_on : SealsIndexed t id filled e old new
  seals_on = record {
    frame = λ known. first_on known t slot has old mid new changes later alone;
    moves = λ among store known index files given is content may indexed fit stands.
        let then = changes.later.tells given content in
        let same = same_then given then.0 content then.1 in
        let holds = stands.each given (old.as_read given content) in
        let first = leaves_before store t.slots is.slots_are (IsIn among) files Done old mid changes stands in
        let stands_then = then_stands store t.slots is.slots_are (IsIn among) files Done old mid changes stands in
        let moved = seals.moves among store known index files then.0 is then.1 may indexed
        (fit_before store t.slots is.slots_are (IsIn among) index files given then.0 holds same filled.kind filled.segments fit) stands_then in
        let way = sealing_indexed (IsIn among) id filled store files in
        record {
          leaves = leaves_on (Stands (IsIn among) store files) way.between way.between old mid new changes.later.clock_is first moved.leaves (λ c has. inl has) (λ c has. has);
          arrives = arrives_on (IsIn among) store files e stands_then moved.arrives;
        };
    holds = λ among store known index files given held is content now stands may fit.
        let then = changes.later.tells given content in
        let same = same_then given then.0 content then.1 in
        holds_on index store given then.0 held e (newest_framed store given then.0 stands.holds.right (to_slots store t.slots is.slots_are given then.0 same))
        (seals.holds among store known index files then.0 held is then.1 now (stands_before store t.slots is.slots_are (IsIn among) files given then.0 stands same) may
        (fit_before store t.slots is.slots_are (IsIn among) index files given then.0 stands same filled.kind filled.segments fit));
  }

-- ---- one after the other

pub place_on_disk : {spares : ℕ} (size : ℕ) (known : Option PlaceMap) (t : Tables) (slot : ℕ) → HasSlotBeside spares t slot → Runs size known t → size_of (slot + 1) ≤ size
place_on_disk size known t slot has runs =
    omega (arith, ((has.slot_is size known).store_has runs.store runs.represents runs.valid runs.has_free).within, runs.valid.size_is)

pub slots_on_disk : (size : ℕ) (known : Option PlaceMap) (t : Tables) → Runs size known t → size ≡ size_of t.slots
slots_on_disk size known t runs = runs.valid.size_is ∙ ap size_of (sym runs.represents.slots_are)

pub few_bytes : (h : HeaderValue) → IsHeader h → h.data_length ≤ 212480
few_bytes h right = leb-true h.data_length 212480 (second (nat_le 1 h.data_length) (nat_le h.data_length 212480) right.data_length)
  where
    second : (a b : Bool) → a && b ≡ true → b ≡ true
    second true b e = e
    second false b e = absurd cc

-- what was settled is settled again
pub steps_on : (slots : ℕ) (old mid new : DiskView) → Changes (slot_at slots) Done old mid → Acts Done mid new → IsDurable new → Steps slots Done old new
steps_on slots old mid new changes acts durable = record {
  later = later_on old mid new changes.later acts.later;
  left = λ settled bytes known c image. subst (SameBefore (slot_at slots) bytes) (sym (durable bytes known c image)) (record { size = refl; before = λ p n within. refl });
  faults_are = counts_on Done old.faults mid.faults new.faults changes.faults_are acts.faults_are;
}

pub steps_broken : (slots : ℕ) (old mid new : DiskView) (refusal : Refusal) → refusal ≡ DiskWrite → Changes (slot_at slots) Done old mid → Acts (ending_of (blames refusal)) mid new
    → Steps slots (ending_of (blames refusal)) old new
steps_broken slots old mid new refusal is changes acts =
    subst (λ (r : Refusal). Steps slots (ending_of (blames r)) old new) (sym is)
    (broken (subst (λ (r : Refusal). Acts (ending_of (blames r)) mid new) is acts))
  where
    broken : Acts Broken mid new → Steps slots Broken old new
    broken written = record {
      later = later_on old mid new changes.later written.later;
      left = tt;
      faults_are = counts_on Broken old.faults mid.faults new.faults changes.faults_are written.faults_are;
    }

-- what is written into a slot doesn't change the map
pub map_on : {spares : ℕ} (places : Option (List ℕ) → Option PlaceMap) (owned_from : ℕ → ℕ)
    → ((a b : List ℕ) → SameFrom (owned_from (length a)) a b → places (Some b) ≡ places (Some a))
    → (serves : ℕ → Type 0) → ((slots : ℕ) → serves (size_of slots) → slot_at slots ≤ owned_from (size_of slots))
    → (size : ℕ) (known : Option PlaceMap) (t : Tables) (slot : ℕ) → HasSlotBeside spares t slot → Runs size known t → (old mid new : DiskView)
    → Changes (slot_at t.slots) Done old mid → old.size ≡ size
    → (given : List ℕ) → old.content ≡ Some given → serves mid.size → Known mid.content (λ then. KnownWith new.content (SameButSlot slot then))
    → places new.content ≡ places mid.content
map_on places owned_from stay serves owns size known t slot has runs old mid new changes size_is given content served wrote =
    let then = changes.later.tells given content in
    let after = wrote then.0 then.1 in
    let on_disk : mid.size ≡ size_of t.slots = changes.later.size_is ∙ size_is ∙ slots_on_disk size known t runs in
    let long : length then.0 ≡ size_of t.slots = mid.sized then.0 then.1 ∙ on_disk in
    let owned : slot_at t.slots ≤ owned_from (length then.0) = subst (λ (n : ℕ). slot_at t.slots ≤ owned_from n) (sym long) (owns t.slots (subst serves on_disk served)) in
    let here = (has.slot_is size known).store_has runs.store runs.represents runs.valid runs.has_free in
    ap places after.1
    ∙ stay then.0 after.0 (record { size = after.2.size; after = λ p n above. after.2.after p n (omega (arith, above, owned, here.within, runs.represents.slots_are)) })
    ∙ ap places (sym then.1)

-- what tells nothing tells nothing then
pub no_content : (R : List ℕ → List ℕ → Type 0) (old new : Option (List ℕ)) → Both R old new → old ≡ None → new ≡ None
no_content R None None both none = refl
no_content R None (Some new) both none = absurd both
no_content R (Some old) new both none = absurd cc

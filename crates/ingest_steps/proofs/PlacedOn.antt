-- Containers that are sealed together after other calls, or not at all.
use Rattle.ingest_steps.proofs.Prelude.{◌≡◌, ◌≤◌, inl, inr, ℕ, suc, ◌+◌, List, [], ◌∷◌, length, take, Option, Some, None, Result, Ok, Err, refl, sym, ◌∙◌, ap, subst, arith, slot_at, DiskView, IsLater, OnlyReads, SteppedFrom, Ending, Blame, NoCall, ReadCall, WriteCall, Done, Refused, Unread, Broken, ending, ending_of, Both, Arrives, StandsFor, Known, entries_from, with_entries, leaves_on, leaves_weaker, reads_leave, stands_reads, IsValidFor, Contents, PlaceMap, HasKey, SameBefore, Changes, Files, Store, IsIn, Stands, AnyKey, HasNewest, Refusal, Memory, Steps, Tables, Runs}
use Rattle.std.proofs.Common.{IsErrAnd}
use Rattle.base_model.specs.Bytes.{range}
use Rattle.dd_disk.specs.Ending.{Reads}
use Rattle.base_model.specs.Known.{KnownWith}
use Rattle.container_log.specs.Many.{NoSlot, placed}
use Rattle.dd_disk.specs.Wrote.{SameIn}
use Rattle.disk_format.specs.Layout.{size_of}
use Rattle.segment_index.specs.Changes.{SameFrom}
use Rattle.store_state.specs.IndexingAll.{with_contents}
use Rattle.store_model.specs.Together.{Placed, StandsSome}
use Rattle.store_model.proofs.FramedTrees.{newest_framed}
use Rattle.store_state.specs.Refused.{blames}
use Rattle.ingest_steps.specs.Offering.{HasSlots, in_free, offer_in}
use Rattle.ingest_steps.specs.SealingAll.{ChangesSlotsAlone, KeepsAllHeld, MayAllSeal, SameButSlotsOf, SealsData, SealsPlaced, places_with_all, sealing_all, slots_of}
use Rattle.ingest_steps.proofs.PlacedFree.{placed_in_free, slot_below}
use Rattle.ingest_steps.proofs.Sealed.{same_content, same_keeps}
use Rattle.ingest_steps.proofs.SealedAll.{of_standing}
use Rattle.dd_disk.specs.Moves.{Moved}
use Rattle.store_state.specs.Tables.{OfEach}
use Rattle.ingest_steps.proofs.SealedTables.{both_known, leaves_before, slots_on_disk, stands_before, then_stands, to_slots}
use Rattle.ingest_steps.proofs.StepRefusals.{steps_here}
use Rattle.ingest_steps.proofs.SlotFrame.{frame_changed, frame_on, frame_reads, slots_after, slots_settled}

-- calls that only read change nothing
both_same : (place : ℕ) (a b : Option (List ℕ)) → b ≡ a → Both (SameBefore place) a b
both_same place None None is = tt
both_same place None (Some new) is = absurd cc
both_same place (Some old) None is = absurd cc
both_same place (Some old) (Some new) is = record { size = ap length (same new old is); before = λ p n within. ap (λ (c : List ℕ). range p n c) (same new old is) }
  where
    same : (x y : List ℕ) → Some x ≡ Some y → x ≡ y
    same x y e = cc

pub changes_read : (place : ℕ) (e : Ending) (old new : DiskView) → Reads e old new → Changes place e old new
changes_read place e old new reads = record {
  later = reads.only.later;
  content_is = both_same place old.content new.content reads.only.content_is;
  leaves = reads_leave (SteppedFrom (SameBefore place) old) old new (λ c image. inl image) reads.only;
  faults_are = reads.faults_are;
}

module _ (t : Tables) (known : Option PlaceMap) (placed_in : Store → List Placed) where
  -- some of none
  with_none : (S : List ℕ → Type 0) (ps : List Placed) (store : Store) (files : Files) (c : List ℕ) → Stands S store files c → StandsSome S ps store files c
  with_none S ps store files c has = ([], has)

  -- ---- the index was changed, and nothing else

  module _ (b : Blame) (old new : DiskView) (changes : Changes (slot_at t.slots) (ending_of b) old new) where
    arrives_refused : (S : List ℕ → Type 0) (store : Store) (files : Files) (a : Blame) → StandsFor (Stands S store files) new
        → Arrives (sealing_all S (placed_in store) store files) (ending_of a) old new
    arrives_refused S store files NoCall stands = inr stands
    arrives_refused S store files ReadCall stands = inr stands
    arrives_refused S store files WriteCall stands = record { known = stands.known; each = λ c image. ([], stands.each c image) }

    holds_refused : (P : List ℕ → Type 0) (store : Store) (given held : List ℕ) (a : Blame)
        → ((key : List ℕ) (level : ℕ) (bytes : List ℕ) → HasNewest store.held key level bytes given → HasNewest store.held key level bytes held)
        → KeepsAllHeld P (ending_of a) (placed_in store) store given held
    holds_refused P store given held NoCall each = λ key level bytes counts has. each key level bytes has
    holds_refused P store given held ReadCall each = λ key level bytes counts has. each key level bytes has
    holds_refused P store given held WriteCall each = tt

    pub placed_changed : SealsPlaced t known placed_in (ending_of b) old new
    placed_changed = record {
      frame = record {
        store_has = λ store is valid free.
            let taken = slots_of (placed_in store) in
            frame_changed t.slots (SameButSlotsOf t.slots taken) (slots_settled t.slots taken) (slots_after t.slots taken) (ending_of b) old new changes;
      };
      moves = λ among store files map known_is is indexed distinct may stands. record {
        leaves = leaves_weaker (Stands (IsIn among) store files) (StandsSome (IsIn among) (placed_in store) store files) old new (λ c has. ([], has))
            (leaves_before store t.slots is.slots_are (IsIn among) files (ending_of b) old new changes stands);
        arrives = arrives_refused (IsIn among) store files b (then_stands store t.slots is.slots_are (IsIn among) files (ending_of b) old new changes stands);
      };
      holds = λ among store files map given held known_is is content now stands distinct may.
          holds_refused (HasKey map) store given held b
          (newest_framed store given held stands.holds.right
          (to_slots store t.slots is.slots_are given held (both_known (SameBefore (slot_at t.slots)) old.content new.content given held changes.content_is content now)));
    }

  -- ---- nothing but reads

  module _ (b : Blame) (old new : DiskView) (reads : OnlyReads old new) where
    arrives_read : (S : List ℕ → Type 0) (store : Store) (files : Files) (a : Blame) → StandsFor (Stands S store files) old
        → Arrives (sealing_all S (placed_in store) store files) (ending_of a) old new
    arrives_read S store files NoCall stands = inl reads
    arrives_read S store files ReadCall stands = inl reads
    arrives_read S store files WriteCall stands =
        let now = stands_reads (Stands S store files) old new stands reads in record { known = now.known; each = λ c image. ([], now.each c image) }

    holds_read : (P : List ℕ → Type 0) (store : Store) (given held : List ℕ) (a : Blame) → held ≡ given → KeepsAllHeld P (ending_of a) (placed_in store) store given held
    holds_read P store given held NoCall is = same_keeps store given held is
    holds_read P store given held ReadCall is = same_keeps store given held is
    holds_read P store given held WriteCall is = tt

    pub placed_read : SealsPlaced t known placed_in (ending_of b) old new
    placed_read = record {
      frame = record {
        store_has = λ store is valid free.
            let taken = slots_of (placed_in store) in
            frame_reads t.slots (SameButSlotsOf t.slots taken) (slots_settled t.slots taken) (slots_after t.slots taken) old new reads;
      };
      moves = λ among store files map known_is is indexed distinct may stands. record {
        leaves = reads_leave (StandsSome (IsIn among) (placed_in store) store files) old new (λ c image. ([], stands.each c image)) reads;
        arrives = arrives_read (IsIn among) store files b stands;
      };
      holds = λ among store files map given held known_is is content now stands distinct may.
          holds_read (HasKey map) store given held b (same_content held given (sym now ∙ reads.content_is ∙ content));
    }

  -- ---- it was, and then the containers were written

  module _ (e : Ending) (old mid new : DiskView) (changes : Changes (slot_at t.slots) Done old mid) (later : IsLater mid new)
      (seals : SealsPlaced t known placed_in e mid new) where
    arrives_on : (S : List ℕ → Type 0) (store : Store) (files : Files) (x : Ending) → StandsFor (Stands S store files) mid
        → Arrives (sealing_all S (placed_in store) store files) x mid new → Arrives (sealing_all S (placed_in store) store files) x old new
    arrives_on S store files Done stands arrives = arrives
    arrives_on S store files Refused stands (inl reads) = inr (stands_reads (Stands S store files) mid new stands reads)
    arrives_on S store files Refused stands (inr rests) = inr rests
    arrives_on S store files Unread stands (inl reads) = inr (stands_reads (Stands S store files) mid new stands reads)
    arrives_on S store files Unread stands (inr rests) = inr rests
    arrives_on S store files Broken stands arrives = arrives

    holds_on : (P : List ℕ → Type 0) (store : Store) (given then held : List ℕ) (x : Ending)
        → ((key : List ℕ) (level : ℕ) (bytes : List ℕ) → HasNewest store.held key level bytes given → HasNewest store.held key level bytes then)
        → KeepsAllHeld P x (placed_in store) store then held → KeepsAllHeld P x (placed_in store) store given held
    holds_on P store given then held Done each keep = (λ key level bytes counts has. keep.0 key level bytes counts (each key level bytes has), keep.1)
    holds_on P store given then held Refused each keep = λ key level bytes counts has. keep key level bytes counts (each key level bytes has)
    holds_on P store given then held Unread each keep = λ key level bytes counts has. keep key level bytes counts (each key level bytes has)
    holds_on P store given then held Broken each keep = tt

    pub placed_on : SealsPlaced t known placed_in e old new
    placed_on = record {
      frame = record {
        store_has = λ store is valid free.
            let taken = slots_of (placed_in store) in
            frame_on t.slots (SameButSlotsOf t.slots taken) (slots_settled t.slots taken) (slots_after t.slots taken) old mid new later
            (seals.frame.store_has store is (subst (λ (n : ℕ). IsValidFor n store) (sym changes.later.size_is) valid) free) changes;
      };
      moves = λ among store files map known_is is indexed distinct may stands.
          let P : List ℕ → Type 0 = Stands (IsIn among) store files in
          let B : List ℕ → Type 0 = StandsSome (IsIn among) (placed_in store) store files in
          let first = leaves_before store t.slots is.slots_are (IsIn among) files Done old mid changes stands in
          let then = then_stands store t.slots is.slots_are (IsIn among) files Done old mid changes stands in
          let moved = seals.moves among store files map known_is is indexed distinct may then in
          record {
            leaves = leaves_on P B B old mid new changes.later.clock_is first moved.leaves (λ c has. ([], has)) (λ c has. has);
            arrives = arrives_on (IsIn among) store files e then moved.arrives;
          };
      holds = λ among store files map given held known_is is content now stands distinct may.
          let then = changes.later.tells given content in
          let same = both_known (SameBefore (slot_at t.slots)) old.content mid.content given then.0 changes.content_is content then.1 in
          holds_on (HasKey map) store given then.0 held e
          (newest_framed store given then.0 stands.holds.right (to_slots store t.slots is.slots_are given then.0 same))
          (seals.holds among store files map then.0 held known_is is then.1 now
          (stands_before store t.slots is.slots_are (IsIn among) files given then.0 stands same) distinct may);
    }

-- ---- data

any_held : (map : PlaceMap) (ps : List Placed) (store : Store) (given held : List ℕ) (e : Ending) → KeepsAllHeld AnyKey e ps store given held
    → KeepsAllHeld (HasKey map) e ps store given held
any_held map ps store given held Done keep = (λ key level bytes counts has. keep.0 key level bytes tt has, keep.1)
any_held map ps store given held Refused keep = keep
any_held map ps store given held Unread keep = keep
any_held map ps store given held Broken keep = tt

pub placed_data : (t : Tables) (known : Option PlaceMap) (slots : List ℕ) (ps : List Placed) (e : Ending) (old new : DiskView) → slots_of ps ≡ slots → SealsData t ps e old new
    → ChangesSlotsAlone t.slots slots old new → SealsPlaced t known (λ _. ps) e old new
placed_data t known slots ps e old new slots_are seals frame = record {
  frame = record { store_has = λ store is valid free. subst (λ (l : List ℕ). ChangesSlotsAlone t.slots l old new) (sym slots_are) frame };
  moves = λ among store files map known_is is indexed distinct may. seals.moves among store known files is distinct may;
  holds = λ among store files map given held known_is is content now stands distinct may.
      any_held map ps store given held e (seals.holds among store known files given held is content now stands distinct may);
}

pub slots_placed : (slots : List ℕ) (id : ℕ) (filled : List Contents) → length filled ≡ length slots → slots_of (placed slots id filled) ≡ slots
slots_placed [] id filled many = refl
slots_placed (s ∷ ss) id [] many = absurd (omega (arith, many))
slots_placed (s ∷ ss) id (c ∷ cs) many = ap (λ (l : List ℕ). s ∷ l) (slots_placed ss (suc id) cs (omega (arith, many)))

-- ---- the same containers, by each store

module _ (size : ℕ) (one : Option PlaceMap) (t : Tables) (runs : Runs size one t) (known : Option PlaceMap) (f g : Store → List Placed) (e : Ending) (old new : DiskView)
    (same : (n : ℕ) (k : Option PlaceMap) → OfEach n k t (λ store. f store ≡ g store)) (seals : SealsPlaced t known f e old new) where
  pub placed_as : SealsPlaced t known g e old new
  placed_as = record {
    frame = record {
      store_has = λ store is valid free.
          subst (λ (ps : List Placed). ChangesSlotsAlone t.slots (slots_of ps) old new) ((same old.size known).store_has store is valid free)
          (seals.frame.store_has store is valid free);
    };
    moves = λ among store files map known_is is indexed distinct may stands.
        let given = stands.known.0 in
        let equal = of_standing size one t runs same among store known files given is (stands.each given (old.as_read given stands.known.1)) in
        subst (λ (ps : List Placed). Moved (sealing_all (IsIn among) ps store files) e old new) equal
        (seals.moves among store files map known_is is indexed distinct (subst (MayAllSeal (IsIn among)) (sym equal) may) stands);
    holds = λ among store files map given held known_is is content now stands distinct may.
        let equal = of_standing size one t runs same among store known files given is stands in
        subst (λ (ps : List Placed). KeepsAllHeld (HasKey map) e ps store given held) equal
        (seals.holds among store files map given held known_is is content now stands distinct (subst (MayAllSeal (IsIn among)) (sym equal) may));
  }

-- those in the slots are those in the closed slots of least number
pub slots_as : (t : Tables) (offered : ℕ) (slots : List ℕ) (filled : List Contents) → HasSlots t offered slots → length filled ≡ length slots
    → (n : ℕ) (k : Option PlaceMap) → OfEach n k t (λ store. placed slots (t.held.last_id + 1) filled ≡ in_free (t.held.last_id + 1) filled store)
slots_as t offered slots filled has many n k = record {
  store_has = λ store is valid free. placed_in_free slots (t.held.last_id + 1) filled store ((has n k).store_has store is valid free).first many;
}

-- and these are those of the offer
pub offer_as : (t : Tables) (slots : List ℕ) (filled first : List Contents) → HasSlots t (length filled) slots → first ≡ take (length slots) filled
    → (n : ℕ) (k : Option PlaceMap) → OfEach n k t (λ store. in_free (t.held.last_id + 1) first store ≡ offer_in t filled store)
offer_as t slots filled first has is n k = record {
  store_has = λ store keeps valid free.
      ap (λ (cs : List Contents). in_free (t.held.last_id + 1) cs store) (is ∙ ap (λ (m : ℕ). take m filled) ((has n k).store_has store keeps valid free).many);
}

pub offer_placed : (t : Tables) (slots : List ℕ) (filled first : List Contents) → HasSlots t (length filled) slots → first ≡ take (length slots) filled
    → length first ≡ length slots → (n : ℕ) (k : Option PlaceMap) → OfEach n k t (λ store. placed slots (t.held.last_id + 1) first ≡ offer_in t filled store)
offer_placed t slots filled first has is many n k = record {
  store_has = λ store keeps valid free.
      (slots_as t (length filled) slots first has many n k).store_has store keeps valid free ∙ (offer_as t slots filled first has is n k).store_has store keeps valid free;
}

-- whatever was refused, after calls that only read
pub offer_refused : {T : Type 0} (t : Tables) (known : Option PlaceMap) (f : Store → List Placed) (v : DiskView) (result : Result T Refusal) (P : Refusal → Type 0)
    → IsErrAnd result P → OnlyReads v v → SealsPlaced t known f (ending blames result) v v
offer_refused t known f v (Ok x) P is reads = absurd is
offer_refused t known f v (Err e) P is reads = refused (blames e)
  where
    refused : (b : Blame) → SealsPlaced t known f (ending_of b) v v
    refused b = placed_read t known f b v v reads

-- ---- the map of the index

pub places_are : (slots : List ℕ) (id : ℕ) (filled : List Contents) (m : PlaceMap) → places_with_all (placed slots id filled) (Some m) ≡ Some (with_contents slots filled m)
places_are [] id filled m = refl
places_are (s ∷ ss) id [] m = refl
places_are (s ∷ ss) id (c ∷ cs) m = places_are ss (suc id) cs (with_entries c.kind s (entries_from 0 c.segments) m)

-- what is written into slots doesn't change it
pub map_on_all : (places : Option (List ℕ) → Option PlaceMap) (owned_from : ℕ → ℕ)
    → ((a b : List ℕ) → SameFrom (owned_from (length a)) a b → places (Some b) ≡ places (Some a))
    → (serves : ℕ → Type 0) → ((slots : ℕ) → serves (size_of slots) → slot_at slots ≤ owned_from (size_of slots))
    → (size : ℕ) (known : Option PlaceMap) (t : Tables) (offered : ℕ) (slots : List ℕ) → HasSlots t offered slots → Runs size known t → (old mid new : DiskView)
    → Changes (slot_at t.slots) Done old mid → old.size ≡ size
    → (given : List ℕ) → old.content ≡ Some given → serves mid.size → Known mid.content (λ then. KnownWith new.content (SameIn (NoSlot slots) then))
    → places new.content ≡ places mid.content
map_on_all places owned_from stay serves owns size known t offered slots has runs old mid new changes size_is given content served wrote =
    let then = changes.later.tells given content in
    let after = wrote then.0 then.1 in
    let on_disk : mid.size ≡ size_of t.slots = changes.later.size_is ∙ size_is ∙ slots_on_disk size known t runs in
    let long : length then.0 ≡ size_of t.slots = mid.sized then.0 then.1 ∙ on_disk in
    let owned : slot_at t.slots ≤ owned_from (length then.0) = subst (λ (n : ℕ). slot_at t.slots ≤ owned_from n) (sym long) (owns t.slots (subst serves on_disk served)) in
    let here = (has size known).store_has runs.store runs.represents runs.valid runs.has_free in
    ap places after.1
    ∙ stay then.0 after.0 (record {
      size = after.2.size;
      after = λ p n above. after.2.same p n (λ i slot there. inr (omega
          (arith, above, owned, slot_below slots runs.store here.first i slot there, runs.valid.many, runs.represents.slots_are)));
    })
    ∙ ap places (sym then.1)

-- where memory ran out nothing was called
pub memory_here : {T : Type 0} (slots : ℕ) (v : DiskView) (result : Result T Refusal) → IsErrAnd result (λ e. e ≡ Memory) → Steps slots (ending blames result) v v
memory_here slots v (Ok x) is = absurd is
memory_here slots v (Err e) is = steps_here slots (blames e) v (ap blames is)

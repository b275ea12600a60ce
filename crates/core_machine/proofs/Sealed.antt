-- A seal of the core, as one of the machine of roots.
use Rattle.core_machine.proofs.Prelude.{arith, ◌≡◌, Bool, true, ◌<◌, ◌≤◌, ℕ, suc, false, List, [], ◌∷◌, slice_set, Option, Some, None, Result, Ok, Err, refl, sym, ◌∙◌, ap, subst, Root, LAST_ID, Kind, PlaceMap, Segment, segment_key, Answer, PinMap, children_by, pin_by, Refusal, IsValidFor, header_of, IsIndexOf, first_free, with_sealed, Represents, SealRow, StopsAfter, counted, Collects, IsKeptKey, CoreState, IsUnderWayIn, some_same, Answers, RunState, Running, Stopped, forgotten_beside, of_roots, SameCollection, HasIndex, IsMachine, SameStop, TellsForgotten, answered_by, take, Top, part_in, AllByRecursion, entries_from, SlotTable, CoreCollection, RepresentsSlots, next_id, HasFree, option_map, names_of, last_sequence, apart, length, ◌+◌, ◌↔◌, zero, SealsSome}
use Rattle.std.proofs.Common.{slice_index_or}
use Rattle.std.specs.FinMap as finite
use Rattle.container_meta.specs.Segments.{Contents}
use Rattle.actor_parts.specs.declared.part.Part.TheVariants as core
use Rattle.actor_parts.specs.declared.step.Answer.TheVariants as answers
use Rattle.actor_parts.specs.Kinds as core_kinds
use Rattle.actor_parts.specs.Parts.{part_of, with_part}
use Rattle.actor_parts.specs.Segments.{first_not_in}
use Rattle.actor_parts.specs.StepValue as steps
use Rattle.refusals.specs.declared.refusal.PartKind.TheVariants as kinds
use Rattle.refusals.specs.declared.refusal.Refusal.TheVariants as refusals
use Rattle.std.proofs.lemmas.List.{get_or-set_same, length-set, length-take-le}
use Rattle.actor_parts.specs.declared.part.Part as core_part
use Rattle.actor_parts.specs.Offers.{sealed_of}
use Rattle.namespace.specs.declared.record.Named.{Named}
use Rattle.store_model.specs.Indexing.{with_entries}
use Rattle.store_model.proofs.Valid.{valid_sealed}
use Rattle.store_model.proofs.Lookups.{partial_of}
use Rattle.ingest_steps.specs.Pinning as pinning
use Rattle.ingest_steps.specs.Offering as offering
use Rattle.store_core.specs.Core.{AddsNone, AreSealed, ChangesTo, IndexesAdded, IndexesAll, MakesAlone, changed_by, seals_from}
use Rattle.store_core.proofs.ManySealed.{rest_on, room_left}
use Rattle.store_core.proofs.UnderWayOn.{first_of, table_with, under_one}
use Rattle.store_machine.specs.Asked as asked
use Rattle.store_machine.specs.Legal.{HasSlotAndId, Keeps, Seals}
use Rattle.store_machine.specs.Machine.{Idle, Part, Writing}
use Rattle.store_machine.specs.Needs.{first_unkept, keys_of, or_else, with_pins}
use Rattle.store_machine.specs.Offers.{AddsContainers, first_unkept_in, sealed_in, stores_with_some, with_container}
use Rattle.store_machine.specs.Forgetting.{Forgets}
use Rattle.disk_format.specs.declared.numbers.TheConstants.{RESERVE}
use Rattle.store_model.specs.Image.{Store}
use Rattle.store_model.specs.Slots.{free_slots}
use Rattle.store_machine.specs.ByMap.{FileMachine}
use Rattle.core_machine.specs.Refines.{SameParts}
use Rattle.core_machine.proofs.Beside.{same_beside}
use Rattle.core_machine.proofs.KeysForgotten.{put_or_not, put_told, told_as}
use Rattle.core_machine.proofs.Rows.{M, as_it_was, kept_same, left_by, right_at, same_marks, set_at, stopped_at, writing_at, wrong}

-- ---- what a writer keeps, as the machine has it and as the steps of a core have it

or_same : (first other next later : Option (List ℕ)) → first ≡ other → next ≡ later → or_else first next ≡ pinning.or_else other later
or_same None None next later one two = two
or_same (Some key) None next later one two = absurd (let wrong : Some key ≡ None = one in cc)
or_same None (Some key) next later one two = absurd (let wrong : None ≡ Some key = one in cc)
or_same (Some key) (Some other) next later one two = one

unkept_same : (kind : Kind) (segments : List Segment) (pins : PinMap) → first_unkept kind segments pins ≡ pinning.first_unpinned_of kind segments pins
unkept_same kind [] pins = refl
unkept_same kind (s ∷ ss) pins =
    or_same (first_not_in pins (children_by kind s)) (first_not_in pins (children_by kind s)) (first_unkept kind ss pins) (pinning.first_unpinned_of kind ss pins) refl
    (unkept_same kind ss pins)

unkept_all : (cs : List Contents) (pins : PinMap) → first_unkept_in cs pins ≡ offering.first_unpinned_in cs pins
unkept_all [] pins = refl
unkept_all (c ∷ cs) pins =
    or_same (first_unkept c.kind c.segments pins) (pinning.first_unpinned_of c.kind c.segments pins) (first_unkept_in cs pins) (offering.first_unpinned_in cs pins)
    (unkept_same c.kind c.segments pins) (unkept_all cs pins)

pins_same : (kind : Kind) (segments : List Segment) (pins : PinMap) → with_pins kind segments pins ≡ pinning.with_pins kind segments pins
pins_same kind [] pins = refl
pins_same kind (s ∷ ss) pins = pins_same kind ss (finite.insert pins (segment_key kind s) (pin_by kind s))

-- a slot is free beside the reserve, and an id is left
has_room : {followed : Bool} (m : M) (c : CoreState) → IsMachine followed m c → (offered : ℕ) (slots : List ℕ) → offering.HasSlots c.tables offered slots
    → (RESERVE < free_slots m.store.held) × (m.last_id < LAST_ID)
has_room m c at offered slots has =
    let are = (has c.disk.size None).store_has m.store at.represents at.valid at.free in
    (omega (arith, are.some, are.many), omega (arith, are.some, are.many, at.last_id))

-- as many are sealed as there are slots
pub sealed_taken : (m : FileMachine) (r : M) (c : CoreState) → Forgets m r → IsMachine true r c → (offered : List Contents) (slots : List ℕ)
    → offering.HasSlots c.tables (length offered) slots
    → sealed_in offered m ≡ take (length slots) offered
sealed_taken m r c same at offered slots has =
    let are = (has c.disk.size None).store_has r.store at.represents at.valid at.free in
    ap (λ (n : ℕ). take n offered)
    (ap (λ (s : Store). sealed_of (length offered) (free_slots s.held) m.last_id) (sym same.store)
    ∙ ap (sealed_of (length offered) (free_slots r.store.held)) (sym same.last_id ∙ at.last_id) ∙ sym are.many)

-- ---- containers that are added, one after the other

within_part : (ps : List (Part Root (List Top))) (a : ℕ) → (slice_index_or ps a Idle ≡ Idle → ⊥) → a < length ps
within_part [] a some = absurd (some refl)
within_part (p ∷ ps) zero some = omega arith
within_part (p ∷ ps) (suc a) some = omega (arith, within_part ps a some)

module _ (a : ℕ) where
  abbrev all_in : List Contents → PinMap → M → M
  all_in [] pins m = m
  all_in (c ∷ cs) pins m = all_in cs (with_pins c.kind c.segments pins) (with_container a c pins m)

  in_store : (cs : List Contents) (pins : PinMap) (m : M) → (all_in cs pins m).store ≡ changed_by (seals_from (suc m.last_id) cs) m.store
  in_store [] pins m = refl
  in_store (c ∷ cs) pins m = in_store cs (with_pins c.kind c.segments pins) (with_container a c pins m)

  in_last : (cs : List Contents) (pins : PinMap) (m : M) → (all_in cs pins m).last_id ≡ m.last_id + length cs
  in_last [] pins m = omega arith
  in_last (c ∷ cs) pins m = let rest = in_last cs (with_pins c.kind c.segments pins) (with_container a c pins m) in omega (arith, rest)

  -- nothing else of the machine is another
  in_rest : (cs : List Contents) (pins : PinMap) (m : M) → all_in cs pins m ≡ record m {
    parts = (all_in cs pins m).parts;
    store = (all_in cs pins m).store;
    last_id = (all_in cs pins m).last_id;
    forgotten = (all_in cs pins m).forgotten;
    collection = (all_in cs pins m).collection;
  }
  in_rest [] pins m = refl
  in_rest (c ∷ cs) pins m = in_rest cs (with_pins c.kind c.segments pins) (with_container a c pins m)

  in_adds : (cs : List Contents) (pins : PinMap) (m : M) (t : Store) → part_in m a ≡ Writing pins → a < length m.parts → ChangesTo (seals_from (suc m.last_id) cs) m.store t
      → AddsContainers a cs m (all_in cs pins m)
  in_adds [] pins m t writing within chain = refl
  in_adds (c ∷ cs) pins m t writing within chain =
      let p : Part Root (List Top) = Writing (with_pins c.kind c.segments pins) in (
        with_container a c pins m,
        record { pins = pins; writing = writing; can = chain.0; others = refl },
        in_adds cs (with_pins c.kind c.segments pins) (with_container a c pins m) t (get_or-set_same m.parts a p Idle within)
            (omega (arith, within, length-set m.parts a p)) chain.1,
      )

  -- the actors' parts are those of the core
  in_parts : (cs : List Contents) (pins : PinMap) (m : M) (q : List core_part.Part) → SameParts m.parts (with_part q a (core.Writing pins))
      → SameParts (all_in cs pins m).parts (with_part q a (core.Writing (offering.with_pins_of cs pins)))
  in_parts [] pins m q same = same
  in_parts (c ∷ cs) pins m q same =
      let more : PinMap = with_pins c.kind c.segments pins in
      let placed = set_at m.parts (with_part q a (core.Writing pins)) a (Writing more) (core.Writing more) same refl in
      let here : SameParts (slice_set m.parts a (Writing more)) (with_part q a (core.Writing more)) =
      subst (SameParts (slice_set m.parts a (Writing more))) (apart.replaced q a (core.Writing pins) (core.Writing more)) placed in
      subst (λ (ps : PinMap). SameParts (all_in cs more (with_container a c pins m)).parts (with_part q a (core.Writing (offering.with_pins_of cs ps))))
      (pins_same c.kind c.segments pins)
      (in_parts cs more (with_container a c pins m) q here)

  -- where nothing is forgotten nothing is once more is held
  in_forgotten : (cs : List Contents) (pins : PinMap) (m : M) → m.forgotten ≡ [] → (all_in cs pins m).forgotten ≡ []
  in_forgotten [] pins m none = none
  in_forgotten (c ∷ cs) pins m none =
      in_forgotten cs (with_pins c.kind c.segments pins) (with_container a c pins m) (ap (forgotten_beside (keys_of c.kind c.segments)) none)

  -- the map lacks what is forgotten, still
  in_told : (cs : List Contents) (pins : PinMap) (m : M) (t : Store) (places after : PlaceMap) → ChangesTo (seals_from (suc m.last_id) cs) m.store t
      → AllByRecursion (IndexesAdded after) (seals_from (suc m.last_id) cs)
      → ((key : List ℕ) → AllByRecursion (AddsNone key) (seals_from (suc m.last_id) cs) → (finite.get after key ≡ None) ↔ (finite.get places key ≡ None))
      → TellsForgotten m.forgotten m.store.held places → TellsForgotten (all_in cs pins m).forgotten (all_in cs pins m).store.held after
  in_told [] pins m t places after chain has same told = told_as m.forgotten m.store.held places after (λ key. same key tt) told
  in_told (c ∷ cs) pins m t places after chain has same told =
      let mid : PlaceMap = with_entries c.kind 0 (entries_from 0 c.segments) places in
      in_told cs (with_pins c.kind c.segments pins) (with_container a c pins m) t mid after chain.1 has.1
      (λ key none. put_or_not c.kind c.segments key places after has.0 (λ others. same key (others, none)))
      (put_told m.forgotten (suc m.last_id) 0 c.kind c.segments m.store places (omega (arith, chain.0.slot)) told)

  -- a collection that runs is the machine's still, beside containers more
  in_collection : (cs : List Contents) (pins : PinMap) (m : M) (t : Store) (size : ℕ) (old now : SlotTable) (k : Option CoreCollection) → 1 ≤ length cs
      → ChangesTo (seals_from (suc m.last_id) cs) m.store t → IsValidFor size m.store → RepresentsSlots m.store.held old → RepresentsSlots t.held now
      → m.last_id ≡ old.last_id → now.last_id ≡ old.last_id + length cs → IsUnderWayIn old k → SameCollection old m.swept m.collection k
      → SameCollection now m.swept (all_in cs pins m).collection k
  in_collection [] pins m t size old now k some chain valid was is next last under same = absurd (omega (arith, some))
  in_collection (c ∷ []) pins m t size old now k some chain valid was is next last under same =
      let there = subst (λ (u : Store). RepresentsSlots u.held now) chain.1 is in
      kept_same (keys_of c.kind c.segments) now m.swept m.collection k
      (same_beside m.store.held old now (first_free m.store.held) (header_of (suc m.last_id) c.kind c.segments) (first_of m.store (omega (arith, chain.0.slot))) was there m.swept
      m.collection k (omega (arith, next)) under same)
  in_collection (c ∷ d ∷ ds) pins m t size old now k some chain valid was is next last under same =
      let u : Store = with_sealed (suc m.last_id) c.kind c.segments m.store in
      let mid = table_with old m.store (suc m.last_id) c was (omega (arith, chain.1.0.new_id)) in
      let beside = kept_same (keys_of c.kind c.segments) mid.0 m.swept m.collection k
      (same_beside m.store.held old mid.0 (first_free m.store.held) (header_of (suc m.last_id) c.kind c.segments) (first_of m.store (omega (arith, chain.0.slot))) was mid.1.0
      m.swept m.collection k (omega (arith, next)) under same) in
      in_collection (d ∷ ds) (with_pins c.kind c.segments pins) (with_container a c pins m) t size mid.0 now k (omega arith) chain.1
      (valid_sealed (suc m.last_id) c.kind c.segments m.store chain.0 size valid) mid.1.0 is (sym mid.1.1) (omega (arith, next, last, mid.1.1))
      (under_one k c m.store size old mid.0 (suc m.last_id) chain.0 valid was mid.1.0 (omega (arith, next)) mid.1.1 under) beside

module _ {followed : Bool} (c d : CoreState) (m : M) (at : IsMachine followed m c) (runs : m.state ≡ Running) (a : ℕ) (offered : List Contents) (buf : List ℕ) where
  own : HasIndex followed m.swept m.forgotten m.store.held c.known
  own = at.index runs

  abbrev Left : Result Answer Refusal → Type 0
  Left answer = (n : M) × Answers of_roots a (asked.Seal offered) (answered_by answer buf) m n × IsMachine followed n d

  abbrev keeps : offering.MayKeepAll (part_of c.parts a) offered → Keeps of_roots a (first_unkept_in offered) m
  keeps may = record {
    pins = may.pins;
    writing = writing_at c m at runs d a may.pins may.writing;
    children = unkept_all offered may.pins ∙ may.pinned;
  }

  has_slot : offering.MayKeepAll (part_of c.parts a) offered → (slots : List ℕ) → offering.HasSlots c.tables (length offered) slots → HasSlotAndId of_roots a offered m
  has_slot may slots has = let room = has_room m c at (length offered) slots has in ((keeps may, room.0), room.1)

  -- ---- some that are sealed

  module _ (id count : ℕ) (is : AreSealed offered id count a c d) (effect : SealsSome offered (Ok (answers.Sealed id count)) c d) (counted_is : d.acknowledged ≡ c.acknowledged)
      (stop : d.stop ≡ None)
      (under : IsUnderWayIn c.tables.held c.collection) (collects : Collects (steps.Seal offered) (Ok (answers.Sealed id count)) c d) where
    abbrev cs : List Contents
    cs = take count offered

    abbrev pins : PinMap
    pins = is.may.pins

    abbrev sealed : M
    sealed = all_in a cs pins m

    abbrev after : Store
    after = changed_by (seals_from (suc m.last_id) cs) m.store

    next : next_id c ≡ suc m.last_id
    next = omega (arith, at.last_id)

    made : MakesAlone (seals_from (suc m.last_id) cs) m.store d.disk.size d.tables
    made = subst (λ (n : ℕ). MakesAlone (seals_from n cs) m.store d.disk.size d.tables) next (effect.made.alone.store_has m.store at.represents at.valid at.free)

    many : length cs ≡ count
    many = length-take-le count offered is.few

    store_is : sealed.store ≡ after
    store_is = in_store a cs pins m

    rest : sealed ≡ record m { parts = sealed.parts; store = sealed.store; last_id = sealed.last_id; forgotten = sealed.forgotten; collection = sealed.collection }
    rest = in_rest a cs pins m

    -- the map of the index, and what it has where no collection copied
    map : (places : PlaceMap) × (d.known ≡ Some places)
    map = effect.made.tells own.places own.known_is

    indexes : m.swept ≡ false → IndexesAll m.store c.known
    indexes swept places known = subst (IsIndexOf m.store.held) (some_same own.places places (sym own.known_is ∙ known)) (own.newest swept).1

    indexed : m.swept ≡ false → IsIndexOf after.held map.0
    indexed swept =
        let represents : Represents m.store c.known c.tables = record {
          slots_are = at.represents.slots_are;
          names_are = at.represents.names_are;
          slots_hold = at.represents.slots_hold;
          index_is_newest = λ places known. partial_of m.store.held places (indexes swept places known);
        } in
        subst (λ (n : ℕ). IsIndexOf (changed_by (seals_from n cs) m.store).held map.0) next
        (effect.made.whole.store_has m.store represents at.valid at.free (indexes swept) map.0 map.1)

    -- it has the keys of the containers, and no other one more
    sealed_told : followed ≡ true → TellsForgotten sealed.forgotten sealed.store.held map.0
    sealed_told told =
        let adds = subst (λ (n : ℕ). AllByRecursion (IndexesAdded map.0) (seals_from n cs)) next (effect.made.adds_keys own.places own.known_is map.0 map.1) in
        let others = subst (λ (n : ℕ). (key : List ℕ) → AllByRecursion (AddsNone key) (seals_from n cs) → finite.get map.0 key ≡ finite.get own.places key) next
        (effect.made.keeps_others own.places own.known_is map.0 map.1) in
        in_told a cs pins m after own.places map.0 made.can adds
        (λ key none. (λ now. sym (others key none) ∙ now, λ before. others key none ∙ before)) (own.told told)

    collected : SameCollection d.tables.held m.swept sealed.collection d.collection
    collected =
        same_marks (IsKeptKey (steps.Seal offered) (Ok (answers.Sealed id count))) d.tables.held m.swept sealed.collection c.collection d.collection collects
        (in_collection a cs pins m after c.disk.size c.tables.held d.tables.held c.collection (omega (arith, many, is.some)) made.can at.valid at.represents.slots_hold
        made.represents.slots_hold at.last_id (omega (arith, is.last_is, is.id_is, many)) under at.collection)

    same_parts : SameParts sealed.parts d.parts
    same_parts =
        subst (SameParts sealed.parts) (sym is.parts_are)
        (in_parts a cs pins m c.parts
        (subst (SameParts m.parts) (sym (ap (with_part c.parts a) (sym is.may.writing) ∙ apart.unchanged c.parts a)) at.parts))

    last_is : sealed.last_id ≡ d.tables.held.last_id
    last_is = omega (arith, in_last a cs pins m, is.last_is, is.id_is, many, at.last_id)

    room : count ≡ sealed_of (length offered) (free_slots m.store.held) m.last_id
    room = (is.room c.disk.size None).store_has m.store at.represents at.valid at.free ∙ ap (sealed_of (length offered) (free_slots m.store.held)) (sym at.last_id)

    seal_done : IsMachine followed sealed d
    seal_done = record {
      represents = subst (λ (s : Store). Represents s None d.tables) (sym store_is) made.represents;
      valid = subst (IsValidFor d.disk.size) (sym store_is) made.valid;
      free = subst (λ (s : Store). HasFree s.held) (sym store_is)
          (let left = room_left (suc m.last_id) cs m.store after (omega (arith, many, is.some)) made.can in omega (arith, left));
      names = subst (λ (n : M). (name : List ℕ) → finite.get n.now.names name ≡ option_map (λ (x : Named). x.root) (finite.get (names_of n.store) name)) (sym rest)
          (subst (λ (s : Store). (name : List ℕ) → finite.get m.now.names name ≡ option_map (λ (x : Named). x.root) (finite.get (names_of s) name))
          (sym (store_is ∙ rest_on (suc m.last_id) cs m.store after made.can)) at.names);
      last = subst (λ (n : M). n.now.last ≡ last_sequence n.store) (sym rest)
          (subst (λ (s : Store). m.now.last ≡ last_sequence s) (sym (store_is ∙ rest_on (suc m.last_id) cs m.store after made.can)) at.last);
      last_id = last_is;
      last_within = omega (arith, in_last a cs pins m, many, room, at.last_within);
      parts = same_parts;
      acknowledged = ap (λ (n : M). n.acknowledged) rest ∙ at.acknowledged ∙ sym counted_is;
      index = λ running. record {
        places = map.0;
        known_is = map.1;
        newest = λ swept.
            let before : m.swept ≡ false = sym (ap (λ (n : M). n.swept) rest) ∙ swept in
            (in_forgotten a cs pins m (own.newest before).0, subst (λ (s : Store). IsIndexOf s.held map.0) (sym store_is) (indexed before));
        told = sealed_told;
      };
      collection = subst (λ (b : Bool). SameCollection d.tables.held b sealed.collection d.collection) (sym (ap (λ (n : M). n.swept) rest)) collected;
      state = subst (λ (n : M). SameStop n.acknowledged n.state d.stop) (sym rest)
          (subst (λ (s : RunState Root). SameStop m.acknowledged s d.stop) (sym runs) (subst (SameStop m.acknowledged Running) (sym stop) tt));
    }

    seals : Seals of_roots a offered id count m sealed
    seals = record {
      offer = is.offer;
      may = keeps is.may;
      count_is = room;
      some = is.some;
      fits = λ known. absurd known;
      id_is = omega (arith, is.id_is, at.last_id);
      adds =
          let writing = writing_at c m at runs d a pins is.may.writing in
          in_adds a cs pins m after writing (within_part m.parts a (λ idle. let both : Writing pins ≡ Idle = sym writing ∙ idle in cc)) made.can;
    }

  -- ---- and ones that are refused

  -- what is live is the same
  still : (refusal : Refusal) → Collects (steps.Seal offered) (Err refusal) c d → SameCollection c.tables.held m.swept m.collection d.collection
  still refusal collects = same_marks (IsKeptKey (steps.Seal offered) (Err refusal)) c.tables.held m.swept m.collection c.collection d.collection collects at.collection

  pub seal_row : (answer : Result Answer Refusal) → SealRow offered a answer c d → SealsSome offered answer c d → Collects (steps.Seal offered) answer c d
      → IsUnderWayIn c.tables.held c.collection → StopsAfter (steps.Seal offered) answer c.acknowledged d.stop → d.acknowledged ≡ counted answer c.acknowledged
      → Left answer
  seal_row (Ok (answers.Sealed id many)) is effect collects under stop count =
      (sealed id many is effect count stop under collects, seals id many is effect count stop under collects, seal_done id many is effect count stop under collects)
  seal_row (Err refusals.Memory) row effect collects under stop count =
      (m, refl, as_it_was c m at runs d (left_by c m at runs d effect.kept effect.disk.later.size_is count (still refusals.Memory collects) stop) row.1)
  seal_row (Err (refusals.WrongPart kind)) row effect collects under stop count =
      wrong c m at runs d a (asked.Seal offered) kind kinds.Writing refl row.0.0 row.0.1
      (left_by c m at runs d effect.kept effect.disk.later.size_is count (still (refusals.WrongPart kind) collects) stop) row.1
  seal_row (Err (refusals.Unpinned key)) row effect collects under stop count =
      let own = row.0.0 in
      let is = row.0.1 in (
        m,
        (
          right_at c m at runs d a (asked.Seal offered) kinds.Writing refl (ap core_kinds.kind_of is),
          ((own, writing_at c m at runs d a own is, unkept_all offered own ∙ row.0.2), refl),
        ),
        as_it_was c m at runs d (left_by c m at runs d effect.kept effect.disk.later.size_is count (still (refusals.Unpinned key) collects) stop) row.1,
      )
  seal_row (Err (refusals.Full free)) row effect collects under stop count =
      let may = row.0.0 in
      let few = row.0.1.store_has m.store at.represents at.valid at.free in (
        m,
        (right_at c m at runs d a (asked.Seal offered) kinds.Writing refl (ap core_kinds.kind_of may.writing), (keeps may, few.0, few.1, refl)),
        as_it_was c m at runs d (left_by c m at runs d effect.kept effect.disk.later.size_is count (still (refusals.Full free) collects) stop) row.1,
      )
  seal_row (Err refusals.Numbers) row effect collects under stop count =
      let may = row.0.0 in (
        m,
        (
          right_at c m at runs d a (asked.Seal offered) kinds.Writing refl (ap core_kinds.kind_of may.writing),
          ((keeps may, row.0.1.0.store_has m.store at.represents at.valid at.free), subst (λ (id : ℕ). LAST_ID ≤ id) (sym at.last_id) row.0.1.1, refl),
        ),
        as_it_was c m at runs d (left_by c m at runs d effect.kept effect.disk.later.size_is count (still refusals.Numbers collects) stop) row.1,
      )
  seal_row (Err refusals.DiskRead) row effect collects under stop count =
      let may = row.0.0 in (
        m,
        (right_at c m at runs d a (asked.Seal offered) kinds.Writing refl (ap core_kinds.kind_of may.writing), (has_slot may row.0.1.0 row.0.1.1, refl)),
        as_it_was c m at runs d (left_by c m at runs d effect.kept effect.disk.later.size_is count (still refusals.DiskRead collects) stop) row.1,
      )
  seal_row (Err (refusals.Clash key other)) row effect collects under stop count =
      let may = row.0.0 in (
        m,
        (right_at c m at runs d a (asked.Seal offered) kinds.Writing refl (ap core_kinds.kind_of may.writing), (has_slot may row.0.1.0 row.0.1.1, (λ known. absurd known), refl)),
        as_it_was c m at runs d (left_by c m at runs d effect.kept effect.disk.later.size_is count (still (refusals.Clash key other) collects) stop) row.1,
      )
  seal_row (Err (refusals.Corrupt slot offset many want got)) row effect collects under stop count =
      let may = row.0.0 in (
        m,
        (right_at c m at runs d a (asked.Seal offered) kinds.Writing refl (ap core_kinds.kind_of may.writing), (has_slot may row.0.1.0 row.0.1.1, ((λ known. known), refl))),
        as_it_was c m at runs d (left_by c m at runs d effect.kept effect.disk.later.size_is count (still (refusals.Corrupt slot offset many want got) collects) stop) row.1,
      )
  -- the containers may be there, and the index may have its places: it is stopped
  seal_row (Err refusals.DiskWrite) row effect collects under stop count =
      let may = row.0.0 in
      let stores = stores_with_some m.last_id (sealed_in offered m) m.store in (
        record m { state = Stopped None stores },
        (right_at c m at runs d a (asked.Seal offered) kinds.Writing refl (ap core_kinds.kind_of may.writing), (has_slot may row.0.1.0 row.0.1.1, (λ known. absurd known), refl)),
        stopped_at c m at runs d None stores effect.kept effect.disk.later.size_is row.1 count (still refusals.DiskWrite collects) refusals.DiskWrite stop,
      )
  seal_row (Err (refusals.Damaged byte why)) row effect collects under stop count = absurd (let wrong : None ≡ Some own.places = sym row.0.1.2 ∙ own.known_is in cc)
  seal_row (Err refusal) row effect collects under stop count = absurd row.0.1.2.unlike.unlike.refused.2
  seal_row (Ok answer) row effect collects under stop count = absurd row

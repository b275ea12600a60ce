-- What is so of the machine of roots is so of a machine of files that it has forgotten, where the roots tell it.
use Rattle.store_machine.proofs.Prelude.{◌≡◌, inl, inr, ◌≤◌, ◌<◌, ◌-◌, ◌^◌, ℕ, length, Option, Some, None, option_map, sym, ◌∙◌, ap, subst, PinMap, Root, half_cells, LAST_ID, MOST_NAMES, RESERVE, Top, Phase, Store, free_slots, CanRise, IsCollecting, Forgets, SamePart, SameState, forget_collection, HasName, HasNumbers, HasRoom, HasSlot, IsUnkept, Keeps, LacksNumbers, MayCommit, Collection, Found, Idle, Writing, Reading, Stopped, keeping, kind_of, part_in, of_files, of_roots}
use Rattle.std.proofs.Common.{List}
use Rattle.container_meta.specs.Segments.{Contents}
use Rattle.store_model.specs.Trees.{root_of}
use Rattle.store_machine.specs.Legal.{HasSlotAndId}
use Rattle.store_machine.proofs.Parts.{F, G, ReadsFile, collecting_back, idle_back, kept_map, kind_same, none_left, one_left, part_at, reading_back, with_state, writing_back}
use Rattle.store_machine.proofs.SameNames.{knows_same, len_same}

module _ (m : F) (r : G) (same : Forgets m r) where
  -- ---- parts, the store, the collection

  pub part_same : (a : ℕ) → SamePart (part_in m a) (part_in r a)
  part_same a = part_at m.parts r.parts a same.parts

  pub kind_is : (a : ℕ) → kind_of (part_in m a) ≡ kind_of (part_in r a)
  kind_is a = sym (kind_same (part_in m a) (part_in r a) (part_same a))

  pub idle : (a : ℕ) → part_in r a ≡ Idle → part_in m a ≡ Idle
  idle a is = idle_back (part_in m a) (part_in r a) (part_same a) is

  pub writing : (a : ℕ) (pins : PinMap) → part_in r a ≡ Writing pins → part_in m a ≡ Writing pins
  writing a pins is = writing_back (part_in m a) (part_in r a) pins (part_same a) is

  pub reading : (a : ℕ) (root : Root) (tops : List Top) → part_in r a ≡ Reading root tops → ReadsFile (part_in m a) root tops
  reading a root tops is = reading_back (part_in m a) (part_in r a) root tops (part_same a) is

  pub on_store : (P : Store → Type 0) → P r.store → P m.store
  on_store P holds = subst P same.store holds

  pub on_id : (P : ℕ → Type 0) → P r.last_id → P m.last_id
  on_id P is = subst P same.last_id is

  pub runs : (phase : Phase) → IsCollecting phase r.store r.collection → IsCollecting phase m.store m.collection
  runs phase is =
      on_store (λ (s : Store). IsCollecting phase s m.collection) (collecting_back phase r.store m.collection (subst (IsCollecting phase r.store) same.collection is))

  pub none_runs : r.collection ≡ None → m.collection ≡ None
  none_runs none = none_left m.collection (sym same.collection ∙ none)

  pub one_runs : (d : Collection Root) → r.collection ≡ Some d → (c : Collection (List ℕ)) × (m.collection ≡ Some c) × (d ≡ forget_collection c)
  one_runs d ran = one_left m.collection d (sym same.collection ∙ ran)

  pub kept_now : (keys : List (List ℕ)) → keeping keys r.collection ≡ option_map forget_collection (keeping keys m.collection)
  kept_now keys = ap (keeping keys) same.collection ∙ kept_map keys m.collection

  -- ---- what a step asks for

  abbrev pub keeps_back : (a : ℕ) (unkept : PinMap → Option (List ℕ)) → Keeps of_roots a unkept r → Keeps of_files a unkept m
  keeps_back a unkept k = record { pins = k.pins; writing = writing a k.pins k.writing; children = k.children }

  pub unkept_back : (a : ℕ) (unkept : PinMap → Option (List ℕ)) (key : List ℕ) → IsUnkept of_roots a unkept key r → IsUnkept of_files a unkept key m
  unkept_back a unkept key (pins, is, first) = (pins, writing a pins is, first)

  pub slot_back : (a : ℕ) (offered : List Contents) → HasSlot of_roots a offered r → HasSlot of_files a offered m
  slot_back a offered (keeps, free) = (keeps_back a _ keeps, on_store (λ s. RESERVE < free_slots s.held) free)

  pub id_back : (a : ℕ) (offered : List Contents) → HasSlotAndId of_roots a offered r → HasSlotAndId of_files a offered m
  id_back a offered (slot, id) = (slot_back a offered slot, on_id (λ id. id < LAST_ID) id)

  pub knows : (name : List ℕ) → HasName of_roots name r → HasName of_files name m
  knows name is = sym (knows_same m.now r.now same.now name) ∙ is

  pub rooms : (name : List ℕ) → HasRoom of_roots name r → HasRoom of_files name m
  rooms name (inl is) = inl (knows name is)
  rooms name (inr few) = inr (subst (λ (k : ℕ). k < MOST_NAMES) (len_same m.now r.now same.now) few)

  pub numbers : HasNumbers of_roots r → HasNumbers of_files m
  numbers has = (subst (λ (k : ℕ). k < 2 ^ 64 - 1) same.now.last_is has.0, subst CanRise same.store has.1)

  pub no_numbers : LacksNumbers of_roots r → LacksNumbers of_files m
  no_numbers (inl is) = inl (sym same.now.last_is ∙ is)
  no_numbers (inr is) = inr (subst (λ (s : Store). (half_cells ≤ length s.records) × (s.selector.generation ≡ 2 ^ 64 - 1)) same.store is)

  pub may_commit : (a : ℕ) (name file : List ℕ) → MayCommit of_roots a name (root_of file) r → MayCommit of_files a name file m
  may_commit a name file may = record { pins = may.pins; writing = writing a may.pins may.writing; named = may.named; room = rooms name may.room; kept = may.kept }

  -- ---- what is left of a step

  -- a step of the machine of files came to what this one of roots has forgotten
  abbrev pub Recalls : (F → Type 0) → G → Type 0
  Recalls P t = (n : F) × P n × Forgets n t

  pub goes : (P : F → Type 0) (t o : G) (n : F) → t ≡ o → P n → Forgets n o → Recalls P t
  goes P t o n is holds left = (n, holds, subst (Forgets n) (sym is) left)

  pub stays : (P : F → Type 0) (t : G) → t ≡ r → P m → Recalls P t
  stays P t is holds = goes P t r m is holds same

  pub stop : (P : F → Type 0) (t : G) (other : Option (Found (List ℕ))) (found : Option (Found Root)) (stores others : List Store) → t ≡ record r { state = Stopped found others }
      → SameState (Stopped other stores) (Stopped found others) → P (record m { state = Stopped other stores }) → Recalls P t
  stop P t other found stores others is one holds = goes P t (record r { state = Stopped found others }) (record m { state = Stopped other stores }) is holds
      (with_state m r same (Stopped other stores) (Stopped found others) one)

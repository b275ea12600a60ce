-- A collection, no other step of which comes between: which containers it copied from and gives back, and the ids of those that it wrote.
use Rattle.store_machine.proofs.Prelude.{◌≡◌, ◌≢◌, ◌⊎◌, ◌+◌, ◌<◌, ◌≤◌, inl, inr, ⊎_elim, ℕ, zero, suc, Bool, true, false, nat_lt, ListOf, [], ◌∷◌, ◌++◌, get_or, length, map, Contains, Option, Some, None, option_map, Result, Ok, refl, sym, ◌∙◌, ap, subst, arith, Contains-append_cases, Contains-push_cases, Entry, Kind, Segment, HeaderValue, Phase, Refusal, Store, last_id, FlushContainer, FreeContainer, StoreChange, Asked, FileMachine, Gathered, GoesOn, GoesOver, Makes, TakesAll, TakesOne, keys_written, last_by, marking, next_of, sources_in, Sweeps, Done, ByState, Legal, AreDid, Found, RunState, Running, Marking, Recording, Sweep, Sweeping, NamesNeed, keys_of, Run, of_files}
use Rattle.std.proofs.Common.{slice_get}
use Rattle.std.proofs.lemmas.Option.{same_Some}
use Rattle.std.proofs.lemmas.Bool.{ltb-true}
use Rattle.std.proofs.lemmas.Grind.{get_or_default_zero}
use Rattle.std.proofs.lemmas.Slice.Eq.{bytes_eq-Decides}
use Rattle.std.specs.Str.{bytes_eq}
use Rattle.std.proofs.lemmas.Option.{slice_get-get_or}
use Rattle.base_model.proofs.Checks.{both}
use Rattle.container_meta.specs.declared.place.Place.{Place}
use Rattle.gc_select.proofs.Chosen.{chosen_which}
use Rattle.refusals.specs.declared.refusal.Phase.TheVariants as phases
use Rattle.store_model.specs.Indexing.{entry_key}
use Rattle.store_model.specs.Slots.{Copy, newest, place_of}
use Rattle.store_model.proofs.Copies.{lies, some_same}
use Rattle.store_machine.specs.Asked as asked
use Rattle.store_machine.specs.Collecting.{Goes, IsCollecting, Went, next_by, phase_by}
use Rattle.disk_format.specs.declared.numbers.TheConstants.{RESERVE}
use Rattle.container_meta.specs.Spelling.{IsHeader, header_of}
use Rattle.store_model.specs.Slots.{free_slots}
use Rattle.store_model.proofs.Filled.{free_less}
use Rattle.store_machine.specs.CollectsAlone.{CountsIds, HasRoomStill}
use Rattle.store_machine.specs.CollectsByNeed.{FreesUpTo, TakesIds, written_in}
use Rattle.store_machine.specs.Done as done
use Rattle.store_machine.specs.Machine.{Stage}
use Rattle.store_machine.proofs.Counted.{few_written, free_within, frees_freed, frees_then, none_by_freed, takes_freed, takes_then, written_then}
use Rattle.store_machine.proofs.Moved.{spares_of, still_newest}
use Rattle.store_machine.proofs.Released.{all_in, as_many, free_made, last_by_freeing, no_keys_written}
use Rattle.store_machine.proofs.Stepwise.{Step}
use Rattle.store_machine.proofs.SweptAlone.{ByStage, C, Tied, names_need, tied_on}
use Rattle.store_machine.proofs.Swept.{in_cases, in_tail, none_in, written_more}

-- ---- keys

-- a key is in the list, or not
pub is_in : (keys : ListOf (ListOf ℕ)) (key : ListOf ℕ) → Contains keys key ⊎ ¬ (Contains keys key)
is_in [] key = inr (λ none. none_in key none)
is_in (x ∷ xs) key = by (tells (bytes_eq x key) refl) (is_in xs key)
  where
    tells : (b : Bool) → bytes_eq x key ≡ b → (x ≡ key) ⊎ ¬ (x ≡ key)
    tells true is = inl ((bytes_eq-Decides x key).0 is)
    tells false is = inr (λ same. let wrong : true ≡ false = sym ((bytes_eq-Decides x key).1 same) ∙ is in cc)

    by : (x ≡ key) ⊎ ¬ (x ≡ key) → Contains xs key ⊎ ¬ (Contains xs key) → Contains (x ∷ xs) key ⊎ ¬ (Contains (x ∷ xs) key)
    by (inl same) rest = inl (0, omega arith, same)
    by (inr other) (inl later) = inl (in_tail x xs key later)
    by (inr other) (inr none) = inr (λ has. ⊎_elim other none (in_cases x xs key has))

-- ---- ids

-- a source has an id below the snapshot
pub source_low : (c : C) (id : ℕ) → Contains (sources_in c) id → id < c.snapshot
source_low c id source =
    let selected = (chosen_which c.snapshot c.percent c.recorded (sources_in c) refl id).0 source in
    let parts = both (nat_lt selected.1.id c.snapshot) _ selected.4.1 in
    omega (arith, ltb-true selected.1.id c.snapshot parts.0, selected.4.0)

-- ---- where what is copied lay

-- the newest copy of the key lay in a source
pub record IsOfSource (opened : Store) (c : C) (key : ListOf ℕ) : Type 0 where
  pub copy : Copy
  pub newest_is : newest 0 opened.held key ≡ Some copy
  pub source : Contains (sources_in c) copy.id

-- so it was of each key that was copied, or is to be; and what waits to be given back, or is ready, are sources
pub record IsSourced (opened : Store) (c : C) (s : Sweep) : Type 0 where
  pub written : (key : ListOf ℕ) → Contains (keys_written c.changes) key → IsOfSource opened c key
  pub filled : (key : ListOf ℕ) → Contains s.filled key → IsOfSource opened c key
  pub waiting : (id : ℕ) → Contains s.waiting id → Contains (sources_in c) id
  pub ready : (id : ℕ) → Contains s.ready id → Contains (sources_in c) id

-- The slots of the reserve are closed, or will be, once what is ready is given back; what waits does so for copies; and unless something is to
-- be given back next, nothing is ready.
pub record HasRoomAt (opened store : Store) (next : Phase) (s : Sweep) : Type 0 where
  pub waits : s.filled ≢ [] → s.waiting ≢ []
  pub room : RESERVE ≤ free_slots opened.held → RESERVE ≤ free_slots store.held + length s.ready
  pub idle : (next ≡ phases.Release) ⊎ (s.ready ≡ [])

abbrev pub RoomAt : Store → Store → Stage → Type 0
RoomAt opened store (Marking left) = store ≡ opened
RoomAt opened store Recording = store ≡ opened
RoomAt opened store (Sweeping next s) = HasRoomAt opened store next s

-- where it is not to give a container back, they are closed
pub room_in : (opened store : Store) (c : C) (phase : Phase) → RoomAt opened store c.stage → IsCollecting phase store (Some c) → phase ≢ phases.Release → HasRoomStill opened store
room_in opened store c phase room_at is other room = by c.stage room_at is
  where
    by : (stage : Stage) → RoomAt opened store stage → phase ≡ phase_by store.held c stage → RESERVE ≤ free_slots store.held
    by (Sweeping next s) has at = ⊎_elim (λ release. absurd (other (at ∙ release))) (λ none. omega (arith, has.room room, ap length none)) has.idle
    by other same at = subst (λ (x : Store). RESERVE ≤ free_slots x.held) (sym same) room

abbrev pub SourcedAt : Store → C → Stage → Type 0
SourcedAt opened c (Marking left) = Unit {0}
SourcedAt opened c Recording = Unit {0}
SourcedAt opened c (Sweeping next s) = IsSourced opened c s

-- ---- what changes add

-- the ids of what changes write, and give back, after a store under whose id these come
pub record AddsIds (first last : ℕ) (s : Store) (changes : ListOf StoreChange) : Type 0 where
  pub ids : TakesIds last changes
  pub last_is : last_by changes last ≡ last + written_in changes
  pub earlier : FreesUpTo first changes s

adds_none : (first last : ℕ) (s : Store) (changes : ListOf StoreChange) → changes ≡ [] → AddsIds first last s changes
adds_none first last s changes none =
    subst (AddsIds first last s) (sym none) (record { ids = tt; last_is = omega arith; earlier = tt })

pub record Sourced (opened store : Store) (last : ℕ) (c : C) : Type 0 where
  pub ids : TakesIds (last_id opened.held) c.changes
  pub last_is : last ≡ last_id opened.held + written_in c.changes
  pub earlier : FreesUpTo (last_id opened.held) c.changes opened
  pub at : SourcedAt opened c c.stage
  pub room : RoomAt opened store c.stage

-- what comes next where something is ready
idle_by : (held : ListOf (Option HeaderValue)) (sources : ListOf ℕ) (source : ℕ) (ready : ListOf ℕ) (filled : ListOf (ListOf ℕ))
    → (next_by held sources source ready filled ≡ phases.Release) ⊎ (ready ≡ [])
idle_by held sources source [] filled = inr refl
idle_by held sources source (id ∷ ids) filled = inl refl

not_empty : {X : Type 0} (xs : ListOf X) (x : X) → xs ++ x ∷ [] ≢ []
not_empty [] x is = absurd (let wrong : 1 ≡ 0 = ap length is in omega (arith, wrong))
not_empty (y ∷ ys) x is = absurd (let wrong : suc (length (ys ++ x ∷ [])) ≡ 0 = ap length is in omega (arith, wrong))

some_in : {X : Type 0} (xs : ListOf X) → xs ≢ [] → 1 ≤ length xs
some_in [] some = absurd (some refl)
some_in (x ∷ xs) some = omega arith

-- a container that is right has segments
some_keys : (id : ℕ) (kind : Kind) (segments : ListOf Segment) → IsHeader (header_of id kind segments) → keys_of kind segments ≢ []
some_keys id kind [] right is = absurd (let wrong : false ≡ true = right.count in cc)
some_keys id kind (x ∷ xs) right is = absurd (let wrong : suc (length (keys_of kind xs)) ≡ 0 = ap length is in omega (arith, wrong))

module _ (percent : ℕ) (now : Found (ListOf ℕ)) (opened : Store) (m : FileMachine) (same : m.now ≡ now) (c : C) (tied : Tied percent now opened m.store c)
    (so : Sourced opened m.store m.last_id c) where
  abbrev Needed : ListOf ℕ → Type 0
  Needed key = NamesNeed of_files now key

  abbrev first : ℕ
  first = last_id opened.held

  -- what it recorded by then
  abbrev now_at : Went → C
  now_at w = record c { stage = w.stage; recorded = w.recorded; changes = c.changes ++ w.changes }

  -- ---- ids

  none_adds : (w : Went) → w.changes ≡ [] → AddsIds first m.last_id m.store w.changes
  none_adds w none = adds_none first m.last_id m.store w.changes none

  source_first : (id : ℕ) → Contains (sources_in c) id → id ≤ first
  source_first id source = omega (arith, source_low c id source, tied.snapshot_is)

  at_sweep : (next : Phase) (s : Sweep) → c.stage ≡ Sweeping next s → IsSourced opened c s
  at_sweep next s is = subst (SourcedAt opened c) is so.at

  adds_ids : (phase : Phase) (w : Went) → Goes of_files phase c m w → AddsIds first m.last_id m.store w.changes
  adds_ids phases.Mark w (left, was, is, (recorded, none, forgotten)) = none_adds w none
  adds_ids phases.Filter w goes = none_adds w goes.4
  adds_ids phases.Select w (was, all, is, (recorded, none, forgotten)) = none_adds w none
  adds_ids phases.Copy w goes = none_adds w goes.6
  adds_ids phases.Flush w (s, t, kind, segments, was, one, keys, t_is, is, recorded, forgotten, copies) =
      subst (AddsIds first m.last_id m.store) (sym one) (record { ids = (refl, tt); last_is = omega arith; earlier = tt })
  adds_ids phases.Release w (s, t, slots, was, some, stand, changes, t_is, is, recorded, forgotten, spare) =
      subst (AddsIds first m.last_id m.store) (sym changes) (record {
        ids = takes_freed m.last_id slots;
        last_is = omega (arith, last_by_freeing slots m.last_id, none_by_freed slots);
        earlier = frees_freed first s.ready slots m.store stand
            (all_in (λ id. id ≤ first) s.ready (λ id has. source_first id ((at_sweep phases.Release s was).ready id has)));
      })
  adds_ids phase w goes = absurd goes

  -- ---- what is taken

  on : (w : Went) → w.recorded ≡ c.recorded → (id : ℕ) → Contains (sources_in c) id → Contains (sources_in (now_at w)) id
  on w recorded id source = subst (λ (rs : _). Contains (sources_in (record c { recorded = rs })) id) (sym recorded) source

  of_source_on : (w : Went) → w.recorded ≡ c.recorded → (key : ListOf ℕ) → IsOfSource opened c key → IsOfSource opened (now_at w) key
  of_source_on w recorded key is = record { copy = is.copy; newest_is = is.newest_is; source = on w recorded is.copy.id is.source }

  -- the index has the copy of a needed key that a source holds: it was the newest when the store was opened
  module _ (s : Sweep) (sourced : IsSourced opened c s) (slot : ℕ) (header : HeaderValue) (there : slice_get m.store.held slot ≡ Some (Some header))
      (source : Contains (sources_in c) header.id) where
    taken_copy : (e : Entry) (key : ListOf ℕ) → Needed key → option_map (λ (x : Copy). x.place) (newest 0 m.store.held key) ≡ Some (place_of slot e) → IsOfSource opened c key
    taken_copy e key needed has = ⊎_elim (λ was. sourced.written key was) (λ not. by (newest 0 m.store.held key) refl has not) (is_in (keys_written c.changes) key)
      where
        by : (found : Option Copy) → newest 0 m.store.held key ≡ found → option_map (λ (x : Copy). x.place) found ≡ Some (place_of slot e)
            → ¬ (Contains (keys_written c.changes) key) → IsOfSource opened c key
        by None is wrong not = absurd (let no : None ≡ Some (place_of slot e) = wrong in cc)
        by (Some copy) is place not =
            let at = lies 0 m.store.held key copy is in
            let place_is : copy.place ≡ place_of slot e = some_same copy.place (place_of slot e) place in
            let lies_at : copy.place ≡ place_of (0 + at.index) at.entry = ap (λ (x : Copy). x.place) at.copy_is in
            let slot_is : at.index ≡ slot = omega (arith, ap (λ (p : Place). p.slot) place_is, ap (λ (p : Place). p.slot) lies_at) in
            let header_is : at.header ≡ header = some_same at.header header (some_same (Some at.header) (Some header)
            (sym (slice_get-get_or m.store.held at.index None at.within ∙ ap Some at.there) ∙ ap (slice_get m.store.held) slot_is ∙ there)) in
            let id_is : header.id ≡ copy.id = sym (ap (λ (x : HeaderValue). x.id) header_is) ∙ sym (ap (λ (x : Copy). x.id) at.copy_is) in
            record {
              copy = copy;
              newest_is = sym (still_newest Needed c.changes opened m.store key (spares_of now c.changes opened m.store tied.sweeps) needed not) ∙ is;
              source = subst (Contains (sources_in c)) id_is source;
            }

    takes_one : (e : Entry) (g after : Gathered) → TakesOne of_files c m.store slot header.kind e g after → ((key : ListOf ℕ) → Contains g.filled key → IsOfSource opened c key)
        → (key : ListOf ℕ) → Contains after.filled key → IsOfSource opened c key
    takes_one e g after (inl (other, is)) was key has = was key (subst (λ (x : Gathered). Contains x.filled key) is has)
    takes_one e g after (inr (copy, inl (dead, is))) was key has = was key (subst (λ (x : Gathered). Contains x.filled key) is has)
    takes_one e g after (inr (copy, inr (needed, inl (also, is)))) was key has = was key (subst (λ (x : Gathered). Contains x.filled key) is has)
    takes_one e g after (inr (copy, inr (needed, inr (new, room, is)))) was key has = ⊎_elim (λ before. was key before)
        (λ one. subst (IsOfSource opened c) one
        (taken_copy e (entry_key header.kind e) (names_need now c tied.values_are tied.keys_are (entry_key header.kind e) needed) copy.0))
        (Contains-push_cases g.filled (entry_key header.kind e) key (subst (λ (x : Gathered). Contains x.filled key) is has))

    takes_all : (es : ListOf Entry) (g after : Gathered) → TakesAll of_files c m.store slot header.kind es g after
        → ((key : ListOf ℕ) → Contains g.filled key → IsOfSource opened c key) → (key : ListOf ℕ) → Contains after.filled key → IsOfSource opened c key
    takes_all [] g after is was key has = was key (subst (λ (x : Gathered). Contains x.filled key) is has)
    takes_all (e ∷ es) g after (mid, one, rest) was key has = takes_all es mid after rest (takes_one e g mid one was) key has

  -- what was copied by then
  written_on : (w : Went) (s : Sweep) → IsSourced opened c s → w.recorded ≡ c.recorded
      → ((key : ListOf ℕ) → Contains (keys_written w.changes) key → IsOfSource opened c key) → (key : ListOf ℕ) → Contains (keys_written (c.changes ++ w.changes)) key
      → IsOfSource opened (now_at w) key
  written_on w s sourced recorded also key has = of_source_on w recorded key
      (⊎_elim (λ was. sourced.written key was) (λ new. also key new)
      (Contains-append_cases (keys_written c.changes) (keys_written w.changes) key
      (subst (λ (ks : ListOf (ListOf ℕ)). Contains ks key) (written_more c.changes w.changes) has)))

  no_key : (w : Went) → keys_written w.changes ≡ [] → (key : ListOf ℕ) → Contains (keys_written w.changes) key → IsOfSource opened c key
  no_key w none key has = absurd (none_in key (subst (λ (ks : ListOf (ListOf ℕ)). Contains ks key) none has))

  by_stage : (w : Went) (next : Phase) (t : Sweep) → w.stage ≡ Sweeping next t → IsSourced opened (now_at w) t → SourcedAt opened (now_at w) w.stage
  by_stage w next t is sourced = subst (SourcedAt opened (now_at w)) (sym is) sourced

  to_mark : (w : Went) (left : ℕ) → SourcedAt opened (now_at w) (marking left)
  to_mark w zero = tt
  to_mark w (suc left) = tt

  same_ids : (xs ys : ListOf ℕ) (P : ℕ → Type 0) → ys ≡ xs → ((id : ℕ) → Contains xs id → P id) → (id : ℕ) → Contains ys id → P id
  same_ids xs ys P is each id has = each id (subst (λ (ids : ListOf ℕ). Contains ids id) is has)

  no_id : (ys : ListOf ℕ) (P : ℕ → Type 0) → ys ≡ [] → (id : ℕ) → Contains ys id → P id
  no_id ys P is id has = absurd (none_in id (subst (λ (ids : ListOf ℕ). Contains ids id) is has))

  one_id : (ys : ListOf ℕ) (one : ℕ) (P : ℕ → Type 0) → ys ≡ one ∷ [] → P one → (id : ℕ) → Contains ys id → P id
  one_id ys one P is has_one id has =
      ⊎_elim (λ here. subst P here has_one) (λ none. absurd (none_in id none)) (in_cases one [] id (subst (λ (ids : ListOf ℕ). Contains ids id) is has))

  more_ids : (xs ys : ListOf ℕ) (one : ℕ) (P : ℕ → Type 0) → ys ≡ xs ++ one ∷ [] → ((id : ℕ) → Contains xs id → P id) → P one → (id : ℕ) → Contains ys id → P id
  more_ids xs ys one P is each has_one id has =
      ⊎_elim (λ was. each id was) (λ here. subst P here has_one) (Contains-push_cases xs one id (subst (λ (ids : ListOf ℕ). Contains ids id) is has))

  -- what a copying step left waiting, and ready
  abbrev Ends : Phase → Sweep → Sweep → Phase → Type 0
  Ends p s t next = ((t.source ≡ suc s.source) × (t.entry ≡ 0) × (next ≡ next_of m.store.held (sources_in c) t)
      × (((length s.filled < length t.filled) × (t.waiting ≡ s.waiting ++ get_or (sources_in c) s.source 0 ∷ []) × (t.ready ≡ []))
      ⊎ ((t.filled ≡ s.filled) × (t.waiting ≡ s.waiting) × (t.ready ≡ get_or (sources_in c) s.source 0 ∷ []))
      ⊎ (¬ of_files.Known × (t.filled ≡ s.filled) × (t.waiting ≡ s.waiting) × (t.ready ≡ []))))
      ⊎ ((t.source ≡ s.source) × (s.entry ≤ t.entry) × (next ≡ p) × (s.filled ≢ []) × (t.filled ≢ []) × (t.waiting ≡ s.waiting)
      × (t.ready ≡ []))

  module _ (s t : Sweep) (next : Phase) (sourced : IsSourced opened c s) (source : Contains (sources_in c) (get_or (sources_in c) s.source 0)) where
    abbrev Is : ℕ → Type 0
    Is id = Contains (sources_in c) id

    waits : Ends phases.Flush s t next → (id : ℕ) → Contains t.waiting id → Is id
    waits (inl (to, entry, then, inl (grown, waiting, ready))) = more_ids s.waiting t.waiting _ Is waiting sourced.waiting source
    waits (inl (to, entry, then, inr (inl (filled, waiting, ready)))) = same_ids s.waiting t.waiting Is waiting sourced.waiting
    waits (inl (to, entry, then, inr (inr (unknown, filled, waiting, ready)))) = same_ids s.waiting t.waiting Is waiting sourced.waiting
    waits (inr (to, entry, then, some, some_now, waiting, ready)) = same_ids s.waiting t.waiting Is waiting sourced.waiting

    readies : Ends phases.Flush s t next → (id : ℕ) → Contains t.ready id → Is id
    readies (inl (to, entry, then, inl (grown, waiting, ready))) = no_id t.ready Is ready
    readies (inl (to, entry, then, inr (inl (filled, waiting, ready)))) = one_id t.ready _ Is ready source
    readies (inl (to, entry, then, inr (inr (unknown, filled, waiting, ready)))) = no_id t.ready Is ready
    readies (inr (to, entry, then, some, some_now, waiting, ready)) = no_id t.ready Is ready

  sourced_by : (phase : Phase) (w : Went) → Goes of_files phase c m w → SourcedAt opened (now_at w) w.stage
  sourced_by phases.Mark w (left, was, is, more) = subst (SourcedAt opened (now_at w)) (sym is) (to_mark w left)
  sourced_by phases.Filter w goes = subst (SourcedAt opened (now_at w)) (sym goes.2) tt
  sourced_by phases.Select w (was, all, is, (recorded, none, forgotten)) =
      let unchanged : c.changes ++ w.changes ≡ [] = (λ i. (first_none i) ++ (none i)) in
      by_stage w _ _ is (record {
        written = λ key has. absurd (none_in key (subst (λ (xs : ListOf StoreChange). Contains (keys_written xs) key) unchanged has));
        filled = λ key has. absurd (none_in key has);
        waiting = λ id has. absurd (none_in id has);
        ready = λ id has. absurd (none_in id has);
      })
    where
      first_none : c.changes ≡ []
      first_none = subst (λ (st : Stage). ByStage opened c st) was tied.stage
  sourced_by phases.Copy w (s, t, next, was, is, recorded, none, below, ready, grows, over, ends) =
      let sourced = at_sweep phases.Copy s was in
      let g : GoesOver of_files c m.store s t m.forgotten w.forgotten = over tt in
      let source_is : Contains (sources_in c) (get_or (sources_in c) s.source 0) = (
        s.source,
        below,
        get_or_default_zero (sources_in c) s.source (get_or (sources_in c) s.source 0) below,
      ) in
      let source : Contains (sources_in c) g.header.id = subst (Contains (sources_in c)) (sym g.id_is) source_is in
      by_stage w next t is (record {
        written = written_on w s sourced recorded (no_key w (ap keys_written none));
        filled = λ key has. of_source_on w recorded key (takes_all s sourced g.slot g.header g.there source _ _ _ g.takes sourced.filled key has);
        waiting = λ id has. on w recorded id (waits s t next sourced source_is ends id has);
        ready = λ id has. on w recorded id (readies s t next sourced source_is ends id has);
      })
  sourced_by phases.Flush w (s, t, kind, segments, was, one, keys, t_is, is, recorded, forgotten, copies) =
      let sourced = at_sweep phases.Flush s was in
      let written : keys_written w.changes ≡ keys_of kind segments ++ [] = ap keys_written one in
      by_stage w _ t is (record {
        written = written_on w s sourced recorded (λ key has. ⊎_elim
            (λ here. sourced.filled key (subst (λ (ks : ListOf (ListOf ℕ)). Contains ks key) keys here))
            (λ none. absurd (none_in key none)) (Contains-append_cases (keys_of kind segments) [] key (subst (λ (ks : ListOf (ListOf ℕ)). Contains ks key) written has)));
        filled = λ key has. absurd (none_in key (subst (λ (x : Sweep). Contains x.filled key) t_is has));
        waiting = λ id has. absurd (none_in id (subst (λ (x : Sweep). Contains x.waiting id) t_is has));
        ready = λ id has. on w recorded id (sourced.waiting id (subst (λ (x : Sweep). Contains x.ready id) t_is has));
      })
  sourced_by phases.Release w (s, t, slots, was, some, stand, changes, t_is, is, recorded, forgotten, spare) =
      let sourced = at_sweep phases.Release s was in
      by_stage w _ t is (record {
        written = written_on w s sourced recorded (no_key w (ap keys_written changes ∙ no_keys_written slots));
        filled = λ key has. of_source_on w recorded key (sourced.filled key (subst (λ (x : Sweep). Contains x.filled key) t_is has));
        waiting = λ other has. on w recorded other (sourced.waiting other (subst (λ (x : Sweep). Contains x.waiting other) t_is has));
        ready = λ other has. absurd (none_in other (subst (λ (x : Sweep). Contains x.ready other) t_is has));
      })
  sourced_by phase w goes = absurd goes

  -- ---- the reserve

  no_change : (w : Went) (store : Store) → w.changes ≡ [] → Makes w.changes m.store store → store ≡ m.store
  no_change w store none makes = subst (λ (xs : ListOf StoreChange). Makes xs m.store store) none makes

  at_room : (next : Phase) (s : Sweep) → c.stage ≡ Sweeping next s → HasRoomAt opened m.store next s
  at_room next s is = subst (RoomAt opened m.store) is so.room

  idle_now : (t : Sweep) → (next_of m.store.held (sources_in c) t ≡ phases.Release) ⊎ (t.ready ≡ [])
  idle_now t = idle_by m.store.held (sources_in c) t.source t.ready t.filled

  room_to : (w : Went) (store : Store) (next : Phase) (t : Sweep) → w.stage ≡ Sweeping next t → HasRoomAt opened store next t → RoomAt opened store w.stage
  room_to w store next t is room = subst (RoomAt opened store) (sym is) room

  still_opened : (w : Went) (store : Store) → w.changes ≡ [] → Makes w.changes m.store store → m.store ≡ opened → store ≡ opened
  still_opened w store none makes was = no_change w store none makes ∙ was

  opened_at : c.stage ≡ Recording → m.store ≡ opened
  opened_at was = subst (RoomAt opened m.store) was so.room

  room_mark : (w : Went) (store : Store) (left : ℕ) → w.stage ≡ marking left → store ≡ opened → RoomAt opened store w.stage
  room_mark w store left is same = subst (RoomAt opened store) (sym is) (by left)
    where
      by : (n : ℕ) → RoomAt opened store (marking n)
      by zero = same
      by (suc n) = same

  module _ (w : Went) (store : Store) (s t : Sweep) (next : Phase) (was : HasRoomAt opened m.store phases.Copy s) (none_ready : s.ready ≡ []) (unmoved : store ≡ m.store) where
    abbrev free : ℕ
    free = free_slots store.held

    roomy : RESERVE ≤ free_slots opened.held → RESERVE ≤ free
    roomy room = omega (arith, was.room room, ap length none_ready, ap (λ (x : Store). free_slots x.held) unmoved)

    copied_room : Ends phases.Flush s t next → HasRoomAt opened store next t
    copied_room (inl (to, entry, then, inl (grown, waiting, ready))) = record {
      waits = λ some none. not_empty s.waiting _ (sym waiting ∙ none);
      room = λ room. omega (arith, roomy room);
      idle = inr ready;
    }
    copied_room (inl (to, entry, then, inr (inl (filled, waiting, ready)))) = record {
      waits = λ some none. was.waits (λ empty. some (filled ∙ empty)) (sym waiting ∙ none);
      room = λ room. omega (arith, roomy room);
      idle = ⊎_elim (λ release. inl (then ∙ release)) (λ empty. inr empty) (idle_now t);
    }
    copied_room (inl (to, entry, then, inr (inr (unknown, filled, waiting, ready)))) = absurd (unknown tt)
    copied_room (inr (to, entry, then, some, some_now, waiting, ready)) = record {
      waits = λ more none. was.waits some (sym waiting ∙ none);
      room = λ room. omega (arith, roomy room);
      idle = inr ready;
    }

  room_by : (phase : Phase) (w : Went) (store : Store) → Goes of_files phase c m w → Makes w.changes m.store store → RoomAt opened store w.stage
  room_by phases.Mark w store (left, was, is, (recorded, none, forgotten)) makes =
      room_mark w store left is (still_opened w store none makes (subst (RoomAt opened m.store) was so.room))
  room_by phases.Filter w store goes makes = subst (RoomAt opened store) (sym goes.2) (still_opened w store goes.4 makes (opened_at goes.1))
  room_by phases.Select w store (was, all, is, (recorded, none, forgotten)) makes =
      let same : store ≡ opened = still_opened w store none makes (opened_at was) in
      room_to w store _ _ is (record {
        waits = λ some. absurd (some refl);
        room = λ room. omega (arith, room, ap (λ (x : Store). free_slots x.held) same);
        idle = inr refl;
      })
  room_by phases.Copy w store (s, t, next, was, is, recorded, none, below, ready, grows, over, ends) makes =
      room_to w store next t is (copied_room w store s t next (at_room phases.Copy s was) ready (no_change w store none makes) ends)
  room_by phases.Flush w store (s, t, kind, segments, was, one, keys, t_is, is, recorded, forgotten, copies) makes =
      let at = at_room phases.Flush s was in
      let made : Makes (FlushContainer (suc m.last_id) kind segments ∷ []) m.store store = subst (λ (xs : ListOf StoreChange). Makes xs m.store store) one makes in
      let none : s.ready ≡ [] = ⊎_elim (λ e. absurd (let wrong : phases.Flush ≡ phases.Release = e in cc)) (λ empty. empty) at.idle in
      let waiting : 1 ≤ length s.waiting = some_in s.waiting (at.waits (λ empty. some_keys (suc m.last_id) kind segments made.0.right (keys ∙ empty))) in
      let less : suc (free_slots store.held) ≡ free_slots m.store.held =
      subst (λ (x : Store). suc (free_slots x.held) ≡ free_slots m.store.held) (sym made.1)
      (free_less (header_of (suc m.last_id) kind segments) m.store.held (omega (arith, made.0.slot))) in
      room_to w store _ t is (record {
        waits = λ some. absurd (some (ap (λ (x : Sweep). x.filled) t_is));
        room = λ room. omega (arith, less, made.0.slot, waiting, ap (λ (x : Sweep). length x.ready) t_is);
        idle = idle_now t;
      })
  room_by phases.Release w store (s, t, slots, was, some, stand, changes, t_is, is, recorded, forgotten, spare) makes =
      let at = at_room phases.Release s was in
      let made : Makes (map FreeContainer slots) m.store store = subst (λ (xs : ListOf StoreChange). Makes xs m.store store) changes makes in
      room_to w store _ t is (record {
        waits = λ some none. at.waits (λ empty. some (ap (λ (x : Sweep). x.filled) t_is ∙ empty)) (sym (ap (λ (x : Sweep). x.waiting) t_is) ∙ none);
        room = λ room. omega (arith, at.room room, free_made slots m.store store made, as_many m.store.held s.ready slots stand, ap (λ (x : Sweep). length x.ready) t_is);
        idle = idle_now t;
      })
  room_by phase w store goes makes = absurd goes

  pub sourced_on : (phase : Phase) (w : Went) (store : Store) → Goes of_files phase c m w → Makes w.changes m.store store
      → Sourced opened store (last_by w.changes m.last_id) (now_at w)
  sourced_on phase w store goes makes =
      let adds = adds_ids phase w goes in
      record {
        ids = takes_then first c.changes w.changes so.ids (subst (λ (n : ℕ). TakesIds n w.changes) so.last_is adds.ids);
        last_is = omega (arith, adds.last_is, so.last_is, written_then c.changes w.changes);
        earlier = frees_then first c.changes w.changes opened m.store tied.sweeps.makes so.earlier adds.earlier;
        at = sourced_by phase w goes;
        room = room_by phase w store goes makes;
      }

-- ---- what is counted

-- its beginning
pub room_first : (opened store : Store) (left : ℕ) → store ≡ opened → RoomAt opened store (marking left)
room_first opened store zero same = same
room_first opened store (suc left) same = same

-- nothing was written yet
pub sourced_first : (opened : Store) (c : C) (left : ℕ) → SourcedAt opened c (marking left)
sourced_first opened c zero = tt
sourced_first opened c (suc left) = tt

pub none_given : (opened : Store) (last : ℕ) → last ≡ last_id opened.held → CountsIds [] opened last
none_given opened last is = record { ids = tt; last_is = omega (arith, is); earlier = tt; few = λ some. omega (arith, some, free_within opened.held) }

pub counts_of : (now : Found (ListOf ℕ)) (opened store : Store) (last : ℕ) (c : C) → Sweeps now c.changes opened store → Sourced opened store last c
    → CountsIds c.changes opened last
counts_of now opened store last c sweeps so = record {
  ids = so.ids;
  last_is = so.last_is;
  earlier = so.earlier;
  few = λ some. few_written c.changes (last_id opened.held) opened store sweeps.each sweeps.makes so.ids so.earlier some;
}

-- ---- a collection that runs

pub record Under (percent : ℕ) (now : Found (ListOf ℕ)) (opened : Store) (m : FileMachine) : Type 0 where
  pub same : m.now ≡ now
  pub runs : m.state ≡ Running
  pub c : C
  pub ran : m.collection ≡ Some c
  pub tied : Tied percent now opened m.store c
  pub sourced : Sourced opened m.store m.last_id c

module _ (percent : ℕ) (now : Found (ListOf ℕ)) (opened : Store) where
  goes_on : (m : FileMachine) → Under percent now opened m → (phase : Phase) (n : FileMachine) → GoesOn of_files phase m n → Under percent now opened n
  goes_on m u phase n goes =
      let own : u.c ≡ goes.c = same_Some u.c goes.c (sym u.ran ∙ goes.ran) in
      let so : (d : C) → u.c ≡ d → Sourced opened m.store m.last_id d = (λ d is. subst (Sourced opened m.store m.last_id) is u.sourced) in
      let tied : Tied percent now opened m.store goes.c = subst (Tied percent now opened m.store) own u.tied in
      record {
        same = ap (λ (x : FileMachine). x.now) goes.others ∙ u.same;
        runs = ap (λ (x : FileMachine). x.state) goes.others ∙ u.runs;
        c = _;
        ran = ap (λ (x : FileMachine). x.collection) goes.others;
        tied = tied_on percent now opened m u.same goes.c tied phase goes.went n.store goes.goes goes.makes;
        sourced = subst (λ (last : ℕ). Sourced opened n.store last (now_at percent now opened m u.same goes.c tied (so goes.c own) goes.went))
            (sym (ap (λ (x : FileMachine). x.last_id) goes.others))
            (sourced_on percent now opened m u.same goes.c tied (so goes.c own) phase goes.went n.store goes.goes goes.makes);
      }

  -- so many steps went on
  pub all_went : (made : ListOf Step) (m k : FileMachine) → Under percent now opened m → AreDid of_files made → Run of_files made m k → Under percent now opened k
  all_went [] m k u did run = subst (Under percent now opened) (sym run) u
  all_went (x ∷ xs) m k u (asked_is, (phase, answer_is), more) (mid, (legal, run)) =
      let one : Legal of_files (record { actor = x.actor; asked = asked.GcStep; answer = Ok (done.Did phase) }) m mid =
      subst (λ (s : Asked (ListOf ℕ)). Legal of_files (record { actor = x.actor; asked = s; answer = Ok (done.Did phase) }) m mid) asked_is
      (subst (λ (r : Result Done Refusal). Legal of_files (record { actor = x.actor; asked = x.asked; answer = r }) m mid) answer_is legal) in
      let goes : GoesOn of_files phase m mid =
      subst (λ (st : RunState (ListOf ℕ)). ByState of_files st x.actor asked.GcStep (Ok (done.Did phase)) m mid) u.runs one in
      all_went xs mid k (goes_on m u phase mid goes) more run

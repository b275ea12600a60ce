-- A collection, no other step of which comes between: what it recorded and changed since the store was opened.
use Rattle.store_machine.proofs.Prelude.{◌≡◌, ◌≤◌, inl, inr, ⊎_elim, ℕ, zero, suc, ListOf, [], ◌∷◌, ◌++◌, map, Contains, Option, Some, None, sym, ◌∙◌, ap, subst, arith, AllByRecursion, Contains-push_cases, Entry, Kind, Segment, segment_key, HeaderValue, ContainerLiveness, ids_of, Phase, with_freed, Store, IsSpare, last_id, ChangeName, FlushContainer, FreeContainer, SealContainer, StoreChange, FileMachine, MakesRoom, HasContainer, HasIds, Gathered, IsRecordOf, Makes, TakesAll, TakesOne, ids_before, keys_written, marking, Sweeps, Collection, Found, Marking, Recording, Sweep, Sweeping, HasCopy, IsNeeded, NamesNeed, keys_of, of_files}
use Rattle.std.proofs.Common.{slice_get}
use Rattle.ingest_session.proofs.Lists.{all_and_one}
use Rattle.std.specs.FinMap as finite
use Rattle.refusals.specs.declared.refusal.Phase.TheVariants as phases
use Rattle.store_model.specs.Needed.{SumsNeeded}
use Rattle.store_model.specs.Reserve.{HoldsNone}
use Rattle.store_model.specs.Steps.{changed}
use Rattle.store_model.proofs.FreedAll.{none_then}
use Rattle.store_model.proofs.FreedFiles.{freed_to}
use Rattle.store_machine.specs.Collecting.{Goes, Went}
use Rattle.store_machine.specs.CollectsAlone.{HasChosen, IsNeededCopy, IsOfSweep, IsRecorded, KeepsNeeded}
use Rattle.store_machine.specs.Machine.{Stage}
use Rattle.store_machine.specs.Needs.{NeededSince, OneNeeds}
use Rattle.store_machine.proofs.Released.{there_all}
use Rattle.store_machine.proofs.Swept.{filled_at, head_of, in_tail, none_filled, none_in}

abbrev pub C : Type 0
C = Collection (ListOf ℕ)

-- ---- changes, one after the other

pub makes_then : (xs ys : ListOf StoreChange) (s t u : Store) → Makes xs s t → Makes ys t u → Makes (xs ++ ys) s u
makes_then [] ys s t u first next = subst (λ (x : Store). Makes ys x u) first next
makes_then (x ∷ xs) ys s t u (can, first) next = (can, makes_then xs ys (changed x s) t u first next)

keeps_then : (now : Found (ListOf ℕ)) (xs ys : ListOf StoreChange) (s t : Store) → Makes xs s t → KeepsNeeded now xs s → KeepsNeeded now ys t → KeepsNeeded now (xs ++ ys) s
keeps_then now [] ys s t first keeps next = subst (KeepsNeeded now ys) first next
keeps_then now (FreeContainer slot ∷ xs) ys s t (can, first) (one, keeps) next = (one, keeps_then now xs ys (changed (FreeContainer slot) s) t first keeps next)
keeps_then now (FlushContainer id kind segments ∷ xs) ys s t (can, first) (one, keeps) next =
    (one, keeps_then now xs ys (changed (FlushContainer id kind segments) s) t first keeps next)
keeps_then now (SealContainer id kind segments ∷ xs) ys s t (can, first) keeps next = keeps_then now xs ys (changed (SealContainer id kind segments) s) t first keeps next
keeps_then now (ChangeName name change ∷ xs) ys s t (can, first) keeps next = keeps_then now xs ys (changed (ChangeName name change) s) t first keeps next

-- Each slot that is closed has the newest copy of nothing that is needed; so it has once those before it are.
keeps_freed : (now : Found (ListOf ℕ)) (slots : ListOf ℕ) (s t : Store) → Makes (map FreeContainer slots) s t → AllByRecursion (HoldsNone (NamesNeed of_files now) s.held) slots
    → KeepsNeeded now (map FreeContainer slots) s
keeps_freed now [] s t makes none = tt
keeps_freed now (slot ∷ slots) s t ((h, there), makes) none = (
  record { header = h; holds = there; none = none.0 },
  keeps_freed now slots (with_freed slot s) t makes (none_then (NamesNeed of_files now) slot slots s.held none.0 none.1),
)

all_of_sweep : (slots : ListOf ℕ) → AllByRecursion IsOfSweep (map FreeContainer slots)
all_of_sweep [] = tt
all_of_sweep (slot ∷ slots) = (tt, all_of_sweep slots)

each_then : (xs ys : ListOf StoreChange) → AllByRecursion IsOfSweep xs → AllByRecursion IsOfSweep ys → AllByRecursion IsOfSweep (xs ++ ys)
each_then [] ys first next = next
each_then (x ∷ xs) ys (one, first) next = (one, each_then xs ys first next)

-- ---- ids

-- no container has a greater id than the last
pub id_within : (held : ListOf (Option HeaderValue)) (slot : ℕ) (h : HeaderValue) → slice_get held slot ≡ Some (Some h) → h.id ≤ last_id held
id_within [] slot h is = absurd (let wrong : None ≡ Some (Some h) = is in cc)
id_within (None ∷ cs) zero h is = absurd (let wrong : Some None ≡ Some (Some h) = is in cc)
id_within (Some g ∷ cs) zero h is = let same : g ≡ h = (let both : Some (Some g) ≡ Some (Some h) = is in cc) in omega (arith, ap (λ (x : HeaderValue). x.id) same)
id_within (None ∷ cs) (suc slot) h is = id_within cs slot h is
id_within (Some g ∷ cs) (suc slot) h is = omega (arith, id_within cs slot h is)

pub opened_ids : (start : FileMachine) (opened : Store) (last : ℕ) → MakesRoom start opened → last ≡ last_id opened.held → HasIds start.store start.last_id → HasIds opened last
opened_ids start opened last (slots, frees) last_is ids = record {
  differ = λ slot other h g has had same. ids.differ slot other h g (before slot h has) (before other g had) same;
  given_out = λ slot h has. subst (λ (k : ℕ). h.id ≤ k) (sym last_is) (id_within opened.held slot h has);
}
  where
    before : (slot : ℕ) (h : HeaderValue) → HasContainer opened slot h → HasContainer start.store slot h
    before slot h has = there_all slots start.store slot h
        (subst (λ (x : Store). HasContainer x slot h) (freed_to (NamesNeed of_files start.now) slots start.store opened frees) has)

-- ---- what is recorded

-- the sum of what is needed is one, by two words for it
pub sums_same : (P Q : ListOf ℕ → Type 0) → ((key : ListOf ℕ) → P key → Q key) → ((key : ListOf ℕ) → Q key → P key) → (held : ListOf (Option HeaderValue)) (kind : Kind) (slot : ℕ)
    (es : ListOf Entry) (sum : ℕ) → SumsNeeded P held kind slot es sum → SumsNeeded Q held kind slot es sum
sums_same P Q to from held kind slot [] sum is = is
sums_same P Q to from held kind slot (e ∷ es) sum (inl ((needed, place), (rest, is, more))) =
    inl ((to _ needed, place), (rest, is, sums_same P Q to from held kind slot es rest more))
sums_same P Q to from held kind slot (e ∷ es) sum (inr (not, more)) = inr ((λ is. not (from _ is.0, is.1)), sums_same P Q to from held kind slot es sum more)

-- what the collection takes as needed the names need
pub names_need : (now : Found (ListOf ℕ)) (c : C) → c.values ≡ finite.values now.names → c.keys ≡ [] → (key : ListOf ℕ) → NeededSince of_files c key → NamesNeed of_files now key
names_need now c values keys key (inl needs) = subst (λ (vs : ListOf (ListOf ℕ)). OneNeeds of_files vs key) values needs
names_need now c values keys key (inr has) = absurd (none_in key (subst (λ (ks : ListOf (ListOf ℕ)). Contains ks key) keys has))

recorded_of : (now : Found (ListOf ℕ)) (c : C) (store : Store) (r : ContainerLiveness) → c.values ≡ finite.values now.names → c.keys ≡ [] → IsRecordOf of_files c store r
    → IsRecorded now store r
recorded_of now c store r values keys is = record {
  slot = is.slot;
  header = is.header;
  there = is.there;
  id_is = is.id_is;
  kind_is = is.kind_is;
  all_is = is.all_is;
  live_is = sums_same (NeededSince of_files c) (NamesNeed of_files now) (names_need now c values keys) from store.held is.header.kind is.slot is.header.entries r.live
      (is.live_is tt);
}
  where
    from : (key : ListOf ℕ) → NamesNeed of_files now key → NeededSince of_files c key
    from key needs = inl (subst (λ (vs : ListOf (ListOf ℕ)). OneNeeds of_files vs key) (sym values) needs)

-- ---- a collection that runs, the names being these, since the store was opened

-- nothing is changed before the sources are chosen, by what was recorded of all
abbrev pub ByStage : Store → C → Stage → Type 0
ByStage opened c (Marking left) = c.changes ≡ []
ByStage opened c Recording = c.changes ≡ []
ByStage opened c (Sweeping next s) = ids_of c.recorded ≡ ids_before c.snapshot opened.held

pub record Tied (percent : ℕ) (now : Found (ListOf ℕ)) (opened store : Store) (c : C) : Type 0 where
  pub sweeps : Sweeps now c.changes opened store
  pub percent_is : c.percent ≡ percent
  pub snapshot_is : c.snapshot ≡ suc (last_id opened.held)
  pub values_are : c.values ≡ finite.values now.names
  pub keys_are : c.keys ≡ []
  pub records : AllByRecursion (IsRecorded now opened) c.recorded
  pub stage : ByStage opened c c.stage
  pub filled : (key : ListOf ℕ) → Contains (filled_at c.stage) key → NamesNeed of_files now key

-- at its end
pub has_chosen : (percent : ℕ) (now : Found (ListOf ℕ)) (opened store : Store) (c : C) (next : Phase) (s : Sweep) → Tied percent now opened store c → c.stage ≡ Sweeping next s
    → HasChosen percent now opened c
has_chosen percent now opened store c next s tied at = record {
  percent_is = tied.percent_is;
  snapshot_is = tied.snapshot_is;
  all = subst (ByStage opened c) at tied.stage;
  each = tied.records;
}

module _ (percent : ℕ) (now : Found (ListOf ℕ)) (opened : Store) (m : FileMachine) (same : m.now ≡ now) (c : C) (tied : Tied percent now opened m.store c) where
  -- what a step changes
  fewer : (slots : ListOf ℕ) → AllByRecursion (IsSpare (IsNeeded of_files m) m.store.held) slots → AllByRecursion (HoldsNone (NamesNeed of_files now) m.store.held) slots
  fewer [] spare = tt
  fewer (slot ∷ slots) spare = (
    (λ key copy needs. spare.0.none key copy (inl (subst (λ (f : Found (ListOf ℕ)). NamesNeed of_files f key) (sym same) needs))),
    fewer slots spare.1,
  )

  abbrev Needed : ListOf ℕ → Type 0
  Needed key = NamesNeed of_files now key

  -- what is to be written is needed
  was_filled : (next : Phase) (s : Sweep) → c.stage ≡ Sweeping next s → (key : ListOf ℕ) → Contains s.filled key → Needed key
  was_filled next s at key is = tied.filled key (subst (λ (st : Stage). Contains (filled_at st) key) (sym at) is)

  none_kept : (w : Went) → w.changes ≡ [] → KeepsNeeded now w.changes m.store
  none_kept w none = subst (λ (xs : ListOf StoreChange). KeepsNeeded now xs m.store) (sym none) tt

  -- copies of what was filled
  all_copies : (kind : Kind) (xs : ListOf Segment) → ((key : ListOf ℕ) → Contains (keys_of kind xs) key → Needed key)
      → AllByRecursion (λ x. ¬ (Contains (keys_written c.changes) (segment_key kind x)) × HasCopy m.store (record { kind = kind; segment = x })) xs
      → AllByRecursion (IsNeededCopy now m.store kind) xs
  all_copies kind [] needs all = tt
  all_copies kind (x ∷ xs) needs (one, all) = (
    (needs (segment_key kind x) (head_of (segment_key kind x) (keys_of kind xs)), one.1),
    all_copies kind xs (λ key is. needs key (in_tail (segment_key kind x) (keys_of kind xs) key is)) all,
  )

  kept : (phase : Phase) (w : Went) (store : Store) → Goes of_files phase c m w → Makes w.changes m.store store → KeepsNeeded now w.changes m.store
  kept phases.Mark w store (left, was, is, (recorded, none, forgotten)) makes = none_kept w none
  kept phases.Filter w store goes makes = none_kept w goes.4
  kept phases.Select w store (was, all, is, (recorded, none, forgotten)) makes = none_kept w none
  kept phases.Copy w store goes makes = none_kept w goes.6
  kept phases.Flush w store (s, t, kind, segments, was, one, keys, t_is, is, recorded, forgotten, copies) makes =
      subst (λ (xs : ListOf StoreChange). KeepsNeeded now xs m.store) (sym one) (
        all_copies kind segments (λ key has. was_filled phases.Flush s was key (subst (λ (ks : ListOf (ListOf ℕ)). Contains ks key) keys has))
            (copies tt),
        tt,
      )
  kept phases.Release w store (s, t, slots, was, some, stand, changes, t_is, is, recorded, forgotten, spare) makes =
      subst (λ (xs : ListOf StoreChange). KeepsNeeded now xs m.store) (sym changes)
      (keeps_freed now slots m.store store (subst (λ (xs : ListOf StoreChange). Makes xs m.store store) changes makes) (fewer slots (spare tt)))
  kept phase w store goes makes = absurd goes

  -- ---- what is to be written then

  nothing : (w : Went) → filled_at w.stage ≡ [] → (key : ListOf ℕ) → Contains (filled_at w.stage) key → Needed key
  nothing w none key has = absurd (none_in key (subst (λ (ks : ListOf (ListOf ℕ)). Contains ks key) none has))

  module _ (slot : ℕ) (kind : Kind) where
    takes_one : (e : Entry) (g after : Gathered) → TakesOne of_files c m.store slot kind e g after → ((key : ListOf ℕ) → Contains g.filled key → Needed key)
        → (key : ListOf ℕ) → Contains after.filled key → Needed key
    takes_one e g after (inl (other, is)) needs key has = needs key (subst (λ (x : Gathered). Contains x.filled key) is has)
    takes_one e g after (inr (copy, inl (dead, is))) needs key has = needs key (subst (λ (x : Gathered). Contains x.filled key) is has)
    takes_one e g after (inr (copy, inr (needed, inl (there, is)))) needs key has = needs key (subst (λ (x : Gathered). Contains x.filled key) is has)
    takes_one e g after (inr (copy, inr (needed, inr (new, room, is)))) needs key has = ⊎_elim (λ was. needs key was)
        (λ one. subst Needed one (names_need now c tied.values_are tied.keys_are _ needed))
        (Contains-push_cases g.filled _ key (subst (λ (x : Gathered). Contains x.filled key) is has))

    takes_all : (es : ListOf Entry) (g after : Gathered) → TakesAll of_files c m.store slot kind es g after → ((key : ListOf ℕ) → Contains g.filled key → Needed key)
        → (key : ListOf ℕ) → Contains after.filled key → Needed key
    takes_all [] g after is needs key has = needs key (subst (λ (x : Gathered). Contains x.filled key) is has)
    takes_all (e ∷ es) g after (mid, one, rest) needs key has = takes_all es mid after rest (takes_one e g mid one needs) key has

  filled_by : (w : Went) (next : Phase) (t : Sweep) → w.stage ≡ Sweeping next t → ((key : ListOf ℕ) → Contains t.filled key → Needed key) → (key : ListOf ℕ)
      → Contains (filled_at w.stage) key → Needed key
  filled_by w next t is needs key has = needs key (subst (λ (st : Stage). Contains (filled_at st) key) is has)

  filled_so : (phase : Phase) (w : Went) → Goes of_files phase c m w → (key : ListOf ℕ) → Contains (filled_at w.stage) key → Needed key
  filled_so phases.Mark w (left, was, is, (recorded, none, forgotten)) = nothing w (ap filled_at is ∙ none_filled left)
  filled_so phases.Filter w goes = nothing w (ap filled_at goes.2)
  filled_so phases.Select w (was, all, is, (recorded, none, forgotten)) = nothing w (ap filled_at is)
  filled_so phases.Copy w (s, t, next, was, is, recorded, none, more, ready, grows, over, ends) =
      let g = over tt in
      filled_by w next t is (takes_all g.slot g.header.kind _ _ _ g.takes (was_filled phases.Copy s was))
  filled_so phases.Flush w (s, t, kind, segments, was, one, keys, t_is, is, recorded, forgotten, copies) =
      nothing w (ap filled_at is ∙ ap (λ (x : Sweep). x.filled) t_is)
  filled_so phases.Release w (s, t, slots, was, some, stand, changes, t_is, is, recorded, forgotten, spare) =
      filled_by w _ t is (λ key has. was_filled phases.Release s was key (subst (λ (x : Sweep). Contains x.filled key) t_is has))
  filled_so phase w goes = absurd goes

  none_changed : (w : Went) → w.changes ≡ [] → AllByRecursion IsOfSweep w.changes
  none_changed w none = subst (AllByRecursion IsOfSweep) (sym none) tt

  of_sweep : (phase : Phase) (w : Went) → Goes of_files phase c m w → AllByRecursion IsOfSweep w.changes
  of_sweep phases.Mark w (left, was, is, (recorded, none, forgotten)) = none_changed w none
  of_sweep phases.Filter w goes = none_changed w goes.4
  of_sweep phases.Select w (was, all, is, (recorded, none, forgotten)) = none_changed w none
  of_sweep phases.Copy w goes = none_changed w goes.6
  of_sweep phases.Flush w goes = subst (AllByRecursion IsOfSweep) (sym goes.5) (tt, tt)
  of_sweep phases.Release w goes = subst (AllByRecursion IsOfSweep) (sym goes.6) (all_of_sweep goes.2)
  of_sweep phase w goes = absurd goes

  -- what it recorded by then
  abbrev pub after : Went → C
  after w = record c { stage = w.stage; recorded = w.recorded; changes = c.changes ++ w.changes }

  abbrev RecordsSo : Went → Type 0
  RecordsSo w = AllByRecursion (IsRecorded now opened) w.recorded × ByStage opened (after w) w.stage

  as_recorded : (w : Went) → w.recorded ≡ c.recorded → AllByRecursion (IsRecorded now opened) w.recorded
  as_recorded w is = subst (AllByRecursion (IsRecorded now opened)) (sym is) tied.records

  none_yet : (w : Went) → c.changes ≡ [] → w.changes ≡ [] → (after w).changes ≡ []
  none_yet w was none = (λ i. was i ++ none i)

  to_mark : (w : Went) (left : ℕ) → (after w).changes ≡ [] → ByStage opened (after w) (marking left)
  to_mark w zero none = none
  to_mark w (suc left) none = none

  store_is : c.changes ≡ [] → m.store ≡ opened
  store_is none = subst (λ (xs : ListOf StoreChange). Makes xs opened m.store) none tied.sweeps.makes

  swept : (w : Went) (next : Phase) (s : Sweep) (next_now : Phase) (t : Sweep) → c.stage ≡ Sweeping next s → w.stage ≡ Sweeping next_now t → w.recorded ≡ c.recorded → RecordsSo w
  swept w next s next_now t was is recorded =
      (as_recorded w recorded, subst (ByStage opened (after w)) (sym is) (ap ids_of recorded ∙ subst (ByStage opened c) was tied.stage))

  records_so : (phase : Phase) (w : Went) → Goes of_files phase c m w → RecordsSo w
  records_so phases.Mark w (left, was, is, (recorded, none, forgotten)) =
      (as_recorded w recorded, subst (ByStage opened (after w)) (sym is) (to_mark w left (none_yet w (subst (ByStage opened c) was tied.stage) none)))
  records_so phases.Filter w (r, was, is, recorded, none, forgotten, rest, record_is) =
      let unchanged : c.changes ≡ [] = subst (ByStage opened c) was tied.stage in
      let one : IsRecorded now opened r =
      subst (λ (s : Store). IsRecorded now s r) (store_is unchanged) (recorded_of now c m.store r tied.values_are tied.keys_are record_is) in (
        subst (AllByRecursion (IsRecorded now opened)) (sym recorded) (all_and_one (IsRecorded now opened) c.recorded r tied.records one),
        subst (ByStage opened (after w)) (sym is) (none_yet w unchanged none),
      )
  records_so phases.Select w (was, all, is, (recorded, none, forgotten)) =
      let store : m.store ≡ opened = store_is (subst (ByStage opened c) was tied.stage) in (
        as_recorded w recorded,
        subst (ByStage opened (after w)) (sym is) (ap ids_of recorded ∙ subst (λ (s : Store). ids_of c.recorded ≡ ids_before c.snapshot s.held) store all),
      )
  records_so phases.Copy w goes = swept w phases.Copy goes.0 goes.2 goes.1 goes.3 goes.4 goes.5
  records_so phases.Flush w goes = swept w phases.Flush goes.0 _ goes.1 goes.4 goes.8 goes.9
  records_so phases.Release w goes = swept w phases.Release goes.0 _ goes.1 goes.3 goes.8 goes.9
  records_so phase w goes = absurd goes

  pub tied_on : (phase : Phase) (w : Went) (store : Store) → Goes of_files phase c m w → Makes w.changes m.store store → Tied percent now opened store (after w)
  tied_on phase w store goes makes =
      let so = records_so phase w goes in
      record {
        sweeps = record {
          each = each_then c.changes w.changes tied.sweeps.each (of_sweep phase w goes);
          makes = makes_then c.changes w.changes opened m.store store tied.sweeps.makes makes;
          keeps = keeps_then now c.changes w.changes opened m.store tied.sweeps.makes tied.sweeps.keeps (kept phase w store goes makes);
        };
        percent_is = tied.percent_is;
        snapshot_is = tied.snapshot_is;
        values_are = tied.values_are;
        keys_are = tied.keys_are;
        records = so.0;
        stage = so.1;
        filled = filled_so phase w goes;
      }

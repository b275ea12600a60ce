-- What the steps by which a file is stored make of a core: containers are sealed, and then the name is put, or a step is
-- refused.
use Rattle.backup_engine.proofs.Prelude.{◌≡◌, ◌⊎◌, inl, inr, ℕ, suc, ◌≤◌, List, [], ◌∷◌, ◌++◌, Option, Some, None, Result, Ok, Err, refl, sym, ◌∙◌, ap, subst, arith, AllByRecursion, Root, Put, IsLater, IsDurable, PlaceMap, Answer, StepValue, Refusal, Memory, DiskWrite, Damaged, Store, IsValidFor, HasFree, StoreChange, SealContainer, ChangeName, FlushContainer, FreeContainer, CanChangeName, with_change, Tables, Represents, Stop, CoreStep, Steps, StepsOr, StopsAfter, Effect, Rests, NamesOne, IndexesAll, Makes, next_id, KeepsTables, ChangesTo, CoreRun, FileEvent, IsNoGcStep, events_of, CoreState, Event, PutRun, EndsPut, IsPutStep, IsAskedFor, IsNoCommit, IsOk, IsDoneBefore, IsLastPut, seal_by, seals_of}
use Rattle.std.proofs.Common.{◌+◌, ◌-◌, length, take}
use Rattle.std.proofs.lemmas.List.{length-take-le}
use Rattle.store_core.proofs.KeepingFiles.{chain_on}
use Rattle.container_meta.specs.Segments.{Contents}
use Rattle.actor_parts.specs.declared.step.Answer.TheVariants as answers
use Rattle.actor_parts.specs.StepValue as asked
use Rattle.store_core.proofs.ManySealed.{room_left}
use Rattle.store_core.specs.Core.{Row, SealsSome, changed_by, seals_from}

-- ---- the steps but the last one, and the last one

-- a step that was done, and is not the commit
abbrev pub IsWayStep : List ℕ → List ℕ → FileEvent → Type 0
IsWayStep name bytes f = IsPutStep name bytes f × IsDoneBefore f.event

-- the commit was acknowledged
pub record IsPutLast (name bytes : List ℕ) (old new : CoreState) : Type 0 where
  pub f : FileEvent
  pub made : CoreStep old f.event new
  pub put_step : IsPutStep name bytes f
  pub last : IsLastPut f.event.step f.event.answer

-- a step was refused
pub record IsStepRefused (name bytes : List ℕ) (refusal : Refusal) (old new : CoreState) : Type 0 where
  pub f : FileEvent
  pub made : CoreStep old f.event new
  pub put_step : IsPutStep name bytes f
  pub answer_is : f.event.answer ≡ Err refusal

abbrev pub EndsBy : (C : Type 0) → (C → CoreState) → List ℕ → List ℕ → Result Unit Refusal → C → C → Type 0
EndsBy C state name bytes (Ok u) mid new = IsPutLast name bytes (state mid) (state new)
EndsBy C state name bytes (Err refusal) mid new =
    ((new ≡ mid) × (refusal ≡ Memory)) ⊎ IsStepRefused name bytes refusal (state mid) (state new)

-- The steps before the last one were done, and seal what all of them do.
pub record Ways (C : Type 0) (state : C → CoreState) (name bytes : List ℕ) (steps : List FileEvent) (result : Result Unit Refusal) (old new : C) : Type 0 where
  pub mid : C
  pub way : List FileEvent
  pub seals_are : seals_of steps ≡ seals_of way
  pub ran : CoreRun C state (events_of way) old mid
  pub each : AllByRecursion (IsWayStep name bytes) way
  pub last : EndsBy C state name bytes result mid new

-- what is so of each commit is so of a last step
pub last_is : (P : StepValue → Result Answer Refusal → Type 0) →
    ((name : List ℕ) (root : Root) (answer : Result Answer Refusal) → IsLastPut (asked.Commit name root) answer → P (asked.Commit name root) answer)
    → (step : StepValue) (answer : Result Answer Refusal) → IsLastPut step answer → P step answer
last_is P commits (asked.Commit name root) answer last = commits name root answer last
last_is P commits asked.Begin answer last = absurd last
last_is P commits (asked.Claim seg) answer last = absurd last
last_is P commits (asked.Seal offered) answer last = absurd last
last_is P commits asked.Abort answer last = absurd last
last_is P commits (asked.OpenRead name) answer last = absurd last
last_is P commits asked.ReadNext answer last = absurd last
last_is P commits asked.EndRead answer last = absurd last
last_is P commits (asked.Delete name) answer last = absurd last
last_is P commits asked.ListNames answer last = absurd last
last_is P commits asked.Stat answer last = absurd last
last_is P commits asked.Unique answer last = absurd last
last_is P commits (asked.GcStart percent) answer last = absurd last
last_is P commits asked.GcStep answer last = absurd last

-- the commit seals nothing, and neither does a step that is refused
pub put_seals : (step : StepValue) (answer : Result Answer Refusal) → IsLastPut step answer → seal_by step answer ≡ []
put_seals = last_is (λ step answer. seal_by step answer ≡ []) (λ name root answer last. refl)

pub refused_seals : (step : StepValue) (refusal : Refusal) → seal_by step (Err refusal) ≡ []
refused_seals asked.Begin refusal = refl
refused_seals (asked.Claim seg) refusal = refl
refused_seals (asked.Seal offered) refusal = refl
refused_seals (asked.Commit name root) refusal = refl
refused_seals asked.Abort refusal = refl
refused_seals (asked.OpenRead name) refusal = refl
refused_seals asked.ReadNext refusal = refl
refused_seals asked.EndRead refusal = refl
refused_seals (asked.Delete name) refusal = refl
refused_seals asked.ListNames refusal = refl
refused_seals asked.Stat refusal = refl
refused_seals asked.Unique refusal = refl
refused_seals (asked.GcStart percent) refusal = refl
refused_seals asked.GcStep refusal = refl

alone : (f : FileEvent) → seal_by f.event.step f.event.answer ≡ [] → seals_of (f ∷ []) ≡ []
alone f none = ap (λ (changes : List StoreChange). changes ++ []) none

module _ (C : Type 0) (state : C → CoreState) (name bytes : List ℕ) where
  -- the last step made this
  made_last : (f : FileEvent) (old new : C) → CoreRun C state (f.event ∷ []) old new → CoreStep (state old) f.event (state new)
  made_last f old new run = subst (λ (c : C). CoreStep (state old) f.event (state c)) (sym run.1.1) run.1.0

  one : (f : FileEvent) (result : Result Unit Refusal) (old new : C) → CoreRun C state (f.event ∷ []) old new → IsPutStep name bytes f → EndsPut (f ∷ []) result
      → Ways C state name bytes (f ∷ []) result old new
  one f (Ok u) old new run put ends = record {
    mid = old;
    way = [];
    seals_are = alone f (put_seals f.event.step f.event.answer ends);
    ran = refl;
    each = tt;
    last = record { f = f; made = made_last f old new run; put_step = put; last = ends };
  }
  one f (Err refusal) old new run put (inl answer) = record {
    mid = old;
    way = [];
    seals_are = alone f (ap (seal_by f.event.step) answer ∙ refused_seals f.event.step refusal);
    ran = refl;
    each = tt;
    last = inr (record { f = f; made = made_last f old new run; put_step = put; answer_is = answer });
  }
  one f (Err refusal) old new run put (inr ends) = record {
    mid = run.0;
    way = f ∷ [];
    seals_are = refl;
    ran = (run.0, (run.1.0, refl));
    each = ((put, ends.0), tt);
    last = inl (run.1.1, ends.1);
  }

  first : (f : FileEvent) (fs : List FileEvent) (result : Result Unit Refusal) (old mid new : C) → CoreStep (state old) f.event (state mid) → IsWayStep name bytes f
      → Ways C state name bytes fs result mid new → Ways C state name bytes (f ∷ fs) result old new
  first f fs result old mid new made is rest = record {
    mid = rest.mid;
    way = f ∷ rest.way;
    seals_are = ap (λ (changes : List StoreChange). seal_by f.event.step f.event.answer ++ changes) rest.seals_are;
    ran = (mid, (made, rest.ran));
    each = (is, rest.each);
    last = rest.last;
  }

  ways : (steps : List FileEvent) (result : Result Unit Refusal) (old new : C) → CoreRun C state (events_of steps) old new → AllByRecursion (IsPutStep name bytes) steps →
      EndsPut steps result
      → Ways C state name bytes steps result old new
  ways [] (Ok u) old new run each ends = absurd ends
  ways [] (Err refusal) old new run each ends = record { mid = old; way = []; seals_are = refl; ran = refl; each = tt; last = inl (run, ends) }
  ways (f ∷ []) result old new run each ends = one f result old new run each.0 ends
  ways (f ∷ g ∷ fs) result old new run each ends =
      first f (g ∷ fs) result old run.0 new run.1.0 (each.0, ends.0) (ways (g ∷ fs) result run.0 new run.1.1 each.1 ends.1)

  pub ways_of : (result : Result Unit Refusal) (old new : C) (run : PutRun C state name bytes result old new) → Ways C state name bytes run.steps result old new
  ways_of result old new run = ways run.steps result old new run.ran run.each run.ends

-- ---- what the tables represent

-- a core that runs, of the store
pub record IsOn (s : Store) (c : CoreState) : Type 0 where
  pub represents : Represents s c.known c.tables
  pub valid : IsValidFor c.disk.size s
  pub has_free : HasFree s.held
  pub told : (places : PlaceMap) × (c.known ≡ Some places)
  pub whole : IndexesAll s c.known
  pub runs : c.stop ≡ None

abbrev pub IsSeal : StoreChange → Type 0
IsSeal (SealContainer id kind segments) = Unit {0}
IsSeal (ChangeName name change) = ⊥
IsSeal (FlushContainer id kind segments) = ⊥
IsSeal (FreeContainer slot) = ⊥

-- the core is on the store to which these seals lead from another one
pub record SealedTo (changes : List StoreChange) (s : Store) (c : CoreState) : Type 0 where
  pub after : Store
  pub chain : ChangesTo changes s after
  pub seals : AllByRecursion IsSeal changes
  pub on : IsOn after c

seals_on : (first rest : List StoreChange) → AllByRecursion IsSeal first → AllByRecursion IsSeal rest → AllByRecursion IsSeal (first ++ rest)
seals_on [] rest one two = two
seals_on (change ∷ changes) rest one two = (one.0, seals_on changes rest one.1 two)

seals_only : (id : ℕ) (cs : List Contents) → AllByRecursion IsSeal (seals_from id cs)
seals_only id [] = tt
seals_only id (c ∷ cs) = (tt, seals_only (suc id) cs)

same_tables : (s : Store) (old new : CoreState) → KeepsTables old new → Represents s old.known old.tables → Represents s new.known new.tables
same_tables s old new kept represents =
    subst (λ (known : Option PlaceMap). Represents s known new.tables) (sym kept.index_is)
    (subst (λ (tables : Tables). Represents s old.known tables) (sym kept.tables_are) represents)

-- a core that isn't stopped makes the step
pub running_step : (old new : CoreState) (e : Event) → old.stop ≡ None → CoreStep old e new → Steps e old new
running_step old new e runs made = subst (λ (stop : Option Stop). StepsOr stop e old new) runs made

module _ (s : Store) (old new : CoreState) (on : IsOn s old) (runs : new.stop ≡ None) where
  rests : (answer : Result Answer Refusal) → Rests answer old new → SealedTo [] s new
  rests answer effect = record {
    after = s;
    chain = refl;
    seals = tt;
    on = record {
      represents = same_tables s old new effect.tables on.represents;
      valid = subst (λ (size : ℕ). IsValidFor size s) (sym effect.disk.only.later.size_is) on.valid;
      has_free = on.has_free;
      told = (on.told.0, effect.tables.index_is ∙ on.told.1);
      whole = subst (IndexesAll s) (sym effect.tables.index_is) on.whole;
      runs = runs;
    };
  }

  seals_all : (id : ℕ) (cs : List Contents) → 1 ≤ length cs → Makes (seals_from id cs) old new → SealedTo (seals_from id cs) s new
  seals_all id cs some made =
      let after = changed_by (seals_from id cs) s in
      let chain = made.can.store_has s on.represents on.valid on.has_free in
      record {
        after = after;
        chain = chain;
        seals = seals_only id cs;
        on = record {
          represents = made.represents.store_has s on.represents on.valid on.has_free;
          valid = made.valid.store_has s on.represents on.valid on.has_free;
          has_free = let room = room_left id cs s after some chain in omega (arith, room);
          told = made.tells on.told.0 on.told.1;
          whole = made.whole.store_has s on.represents on.valid on.has_free on.whole;
          runs = runs;
        };
      }

  by_seal : (offered : List Contents) (actor : ℕ) (buf : List ℕ) (answer : Answer) → Row (asked.Seal offered) actor (Ok answer) buf old new → SealsSome offered (Ok answer) old new
      → SealedTo (seal_by (asked.Seal offered) (Ok answer)) s new
  by_seal offered actor buf (answers.Sealed id count) row effect =
      let next : next_id old ≡ id + 1 - count = omega (arith, row.id_is) in
      subst (λ (n : ℕ). SealedTo (seals_from n (take count offered)) s new) next
      (seals_all (next_id old) (take count offered) (omega (arith, length-take-le count offered row.few, row.some)) effect.made)
  by_seal offered actor buf answer row effect = absurd row

  by_step : (name bytes put : List ℕ) (actor : ℕ) (buf : List ℕ) (step : StepValue) (answer : Result Answer Refusal) → IsAskedFor name bytes step put → IsNoCommit step →
      IsOk answer
      → Row step actor answer buf old new → Effect step answer old new → SealedTo (seal_by step answer) s new
  by_step name bytes put actor buf step (Err refusal) asks other ok row effect = absurd ok
  by_step name bytes put actor buf asked.Begin (Ok answer) asks other ok row effect = rests (Ok answer) effect
  by_step name bytes put actor buf (asked.Claim seg) (Ok answer) asks other ok row effect = rests (Ok answer) effect
  by_step name bytes put actor buf (asked.Seal offered) (Ok answer) asks other ok row effect = by_seal offered actor buf answer row effect
  by_step name bytes put actor buf (asked.Commit n root) (Ok answer) asks other ok row effect = absurd other
  by_step name bytes put actor buf asked.Abort (Ok answer) asks other ok row effect = absurd asks
  by_step name bytes put actor buf (asked.OpenRead n) (Ok answer) asks other ok row effect = absurd asks
  by_step name bytes put actor buf asked.ReadNext (Ok answer) asks other ok row effect = absurd asks
  by_step name bytes put actor buf asked.EndRead (Ok answer) asks other ok row effect = absurd asks
  by_step name bytes put actor buf (asked.Delete n) (Ok answer) asks other ok row effect = absurd asks
  by_step name bytes put actor buf asked.ListNames (Ok answer) asks other ok row effect = absurd asks
  by_step name bytes put actor buf asked.Stat (Ok answer) asks other ok row effect = absurd asks
  by_step name bytes put actor buf asked.Unique (Ok answer) asks other ok row effect = absurd asks
  by_step name bytes put actor buf (asked.GcStart percent) (Ok answer) asks other ok row effect = absurd asks
  by_step name bytes put actor buf asked.GcStep (Ok answer) asks other ok row effect = absurd asks

-- what is done stops no core
done_runs : (step : StepValue) (answer : Result Answer Refusal) (count : ℕ) (stop : Option Stop) → IsOk answer → StopsAfter step answer count stop → stop ≡ None
done_runs step (Err refusal) count stop ok stops = absurd ok
done_runs step (Ok answer) count stop ok stops = stops

module _ (name bytes : List ℕ) where
  pub way_step : (f : FileEvent) (s : Store) (old new : CoreState) → IsOn s old → CoreStep old f.event new → IsWayStep name bytes f →
      SealedTo (seal_by f.event.step f.event.answer) s new
  way_step f s old new on made is =
      let e = f.event in
      let steps = running_step old new e on.runs made in
      let runs = done_runs e.step e.answer old.acknowledged new.stop is.1.1 steps.stops in
      by_step s old new on runs name bytes f.bytes e.actor e.buf e.step e.answer is.0.asked_for is.1.0 is.1.1 steps.made.row steps.made.effect

  pub way_seals : (C : Type 0) (state : C → CoreState) (way : List FileEvent) (s : Store) (old new : C) → IsOn s (state old) → CoreRun C state (events_of way) old new
      → AllByRecursion (IsWayStep name bytes) way → SealedTo (seals_of way) s (state new)
  way_seals C state [] s old new on run each = record { after = s; chain = refl; seals = tt; on = subst (λ (c : C). IsOn s (state c)) (sym run) on }
  way_seals C state (f ∷ fs) s old new on run each =
      let here = way_step f s (state old) (state run.0) on run.1.0 each.0 in
      let rest = way_seals C state fs here.after run.0 new here.on run.1.1 each.1 in
      let changes : List StoreChange = seal_by f.event.step f.event.answer in
      record {
        after = rest.after;
        chain = chain_on changes (seals_of fs) s here.after rest.after here.chain rest.chain;
        seals = seals_on changes (seals_of fs) here.seals rest.seals;
        on = rest.on;
      }

-- ---- the end

-- the tables are those of the store, which the disk may hold
pub record AreOf (s : Store) (c : CoreState) : Type 0 where
  pub represents : Represents s c.known c.tables
  pub valid : IsValidFor c.disk.size s
  pub has_free : HasFree s.held
  pub whole : IndexesAll s c.known

-- and so they are at the end, but after a write that failed
abbrev pub AreUnless : Refusal → Store → CoreState → Type 0
AreUnless DiskWrite s c = Unit {0}
AreUnless refusal s c = AreOf s c

-- the name could be put, and was
pub record IsPutAt (name : List ℕ) (after : Store) (new : CoreState) : Type 0 where
  pub root : Root
  pub can : CanChangeName name (Put root) after
  pub are : AreOf (with_change name (Put root) after) new
  pub durable : IsDurable new.disk

abbrev pub EndsAt : List ℕ → Result Unit Refusal → Store → CoreState → Type 0
EndsAt name (Ok u) after new = IsPutAt name after new
EndsAt name (Err refusal) after new = AreUnless refusal after new

pub record Puts (name : List ℕ) (steps : List FileEvent) (result : Result Unit Refusal) (s : Store) (new : CoreState) : Type 0 where
  pub after : Store
  pub chain : ChangesTo (seals_of steps) s after
  pub seals : AllByRecursion IsSeal (seals_of steps)
  pub ends : EndsAt name result after new

unless : (refusal : Refusal) (s : Store) (c : CoreState) → AreOf s c → AreUnless refusal s c
unless DiskWrite s c are = tt
unless refusal s c are = are

are_of : (s : Store) (c : CoreState) → IsOn s c → AreOf s c
are_of s c on = record { represents = on.represents; valid = on.valid; has_free = on.has_free; whole = on.whole }

module _ (s : Store) (old new : CoreState) (on : IsOn s old) where
  kept : (refusal : Refusal) → KeepsTables old new → IsLater old.disk new.disk → AreUnless refusal s new
  kept refusal tables later = unless refusal s new (record {
    represents = same_tables s old new tables on.represents;
    valid = subst (λ (size : ℕ). IsValidFor size s) (sym later.size_is) on.valid;
    has_free = on.has_free;
    whole = subst (IndexesAll s) (sym tables.index_is) on.whole;
  })

  unsealed : (offered : List Contents) (actor : ℕ) (buf : List ℕ) (refusal : Refusal) → Row (asked.Seal offered) actor (Err refusal) buf old new
      → SealsSome offered (Err refusal) old new → AreUnless refusal s new
  unsealed offered actor buf DiskWrite row effect = tt
  unsealed offered actor buf (Damaged at why) row effect = absurd (let none : None ≡ Some on.told.0 = sym row.0.1.2 ∙ on.told.1 in cc)
  unsealed offered actor buf refusal row effect = kept refusal effect.kept effect.disk.later

  step_refused : (step : StepValue) → IsNoGcStep step → (actor : ℕ) (buf : List ℕ) (refusal : Refusal) → Row step actor (Err refusal) buf old new →
      Effect step (Err refusal) old new → AreUnless refusal s new
  step_refused asked.Begin no_gc actor buf refusal row effect = kept refusal effect.tables effect.disk.only.later
  step_refused (asked.Claim seg) no_gc actor buf refusal row effect = kept refusal effect.tables effect.disk.only.later
  step_refused (asked.Seal offered) no_gc actor buf refusal row effect = unsealed offered actor buf refusal row effect
  step_refused (asked.Commit n root) no_gc actor buf refusal row effect = kept refusal effect.kept effect.disk.later
  step_refused asked.Abort no_gc actor buf refusal row effect = kept refusal effect.tables effect.disk.only.later
  step_refused (asked.OpenRead n) no_gc actor buf refusal row effect = kept refusal effect.tables effect.disk.only.later
  step_refused asked.ReadNext no_gc actor buf refusal row effect = kept refusal effect.tables effect.disk.only.later
  step_refused asked.EndRead no_gc actor buf refusal row effect = kept refusal effect.tables effect.disk.only.later
  step_refused (asked.Delete n) no_gc actor buf refusal row effect = kept refusal effect.kept effect.disk.later
  step_refused asked.ListNames no_gc actor buf refusal row effect = kept refusal effect.tables effect.disk.only.later
  step_refused (asked.GcStart percent) no_gc actor buf refusal row effect = kept refusal effect.tables effect.disk.only.later
  step_refused asked.GcStep no_gc actor buf refusal row effect = absurd no_gc
  step_refused asked.Stat no_gc actor buf refusal row effect = kept refusal effect.tables effect.disk.only.later
  step_refused asked.Unique no_gc actor buf refusal row effect = kept refusal effect.tables effect.disk.only.later

  was_put : (name : List ℕ) (root : Root) (answer : Answer) → NamesOne name (Put root) (Ok answer) old new → IsPutAt name s new
  was_put name root answer effect =
      let made = effect.made in
      record {
        root = root;
        can = (made.can.store_has s on.represents on.valid on.has_free).0.0;
        are = record {
          represents = made.represents.store_has s on.represents on.valid on.has_free;
          valid = made.valid.store_has s on.represents on.valid on.has_free;
          has_free =
              on.has_free;
          whole = made.whole.store_has s on.represents on.valid on.has_free on.whole;
        };
        durable = effect.durable;
      }

  put_last : (name bytes put : List ℕ) (step : StepValue) (answer : Result Answer Refusal) → IsAskedFor name bytes step put → IsLastPut step answer → Effect step answer old new →
      IsPutAt name s new
  put_last name bytes put (asked.Commit n root) (Err refusal) asks last effect = absurd last
  put_last name bytes put (asked.Commit n root) (Ok answer) asks last effect = subst (λ (x : List ℕ). IsPutAt x s new) asks.0 (was_put n root answer effect)
  put_last name bytes put asked.Begin answer asks last effect = absurd last
  put_last name bytes put (asked.Claim seg) answer asks last effect = absurd last
  put_last name bytes put (asked.Seal offered) answer asks last effect = absurd last
  put_last name bytes put asked.Abort answer asks last effect = absurd last
  put_last name bytes put (asked.OpenRead n) answer asks last effect = absurd last
  put_last name bytes put asked.ReadNext answer asks last effect = absurd last
  put_last name bytes put asked.EndRead answer asks last effect = absurd last
  put_last name bytes put (asked.Delete n) answer asks last effect = absurd last
  put_last name bytes put asked.ListNames answer asks last effect = absurd last
  put_last name bytes put asked.Stat answer asks last effect = absurd last
  put_last name bytes put asked.Unique answer asks last effect = absurd last
  put_last name bytes put (asked.GcStart percent) answer asks last effect = absurd last
  put_last name bytes put asked.GcStep answer asks last effect = absurd last

-- it is none of a collection
asked_no_gc : (name given : List ℕ) (step : StepValue) (put : List ℕ) → IsAskedFor name given step put → IsNoGcStep step
asked_no_gc name given asked.GcStep put is = absurd is
asked_no_gc name given asked.Begin put is = tt
asked_no_gc name given (asked.Claim seg) put is = tt
asked_no_gc name given (asked.Seal offered) put is = tt
asked_no_gc name given (asked.Commit n root) put is = tt
asked_no_gc name given step put is = absurd is

module _ (C : Type 0) (state : C → CoreState) (name bytes : List ℕ) (s : Store) where
  ends_at : (result : Result Unit Refusal) (mid new : C) → IsOn s (state mid) → EndsBy C state name bytes result mid new → EndsAt name result s (state new)
  ends_at (Ok u) mid new on last =
      let steps = running_step (state mid) (state new) last.f.event on.runs last.made in
      put_last s (state mid) (state new) on name bytes last.f.bytes last.f.event.step last.f.event.answer last.put_step.asked_for last.last steps.made.effect
  ends_at (Err refusal) mid new on (inl none) = unless refusal s (state new) (subst (λ (c : C). AreOf s (state c)) (sym none.0) (are_of s (state mid) on))
  ends_at (Err refusal) mid new on (inr last) =
      let e = last.f.event in
      let steps = running_step (state mid) (state new) e on.runs last.made in
      step_refused s (state mid) (state new) on e.step (asked_no_gc name bytes e.step last.f.bytes last.put_step.asked_for) e.actor e.buf refusal
      (subst (λ (answer : Result Answer Refusal). Row e.step e.actor answer e.buf (state mid) (state new)) last.answer_is steps.made.row)
      (subst (λ (answer : Result Answer Refusal). Effect e.step answer (state mid) (state new)) last.answer_is steps.made.effect)

-- From a store that a core is on, the steps seal containers; the store that they lead to can take the name, or is that of the
-- tables at the end.
pub put_changes : (C : Type 0) (state : C → CoreState) (name bytes : List ℕ) (s : Store) (result : Result Unit Refusal) (old new : C) → IsOn s (state old)
    → (run : PutRun C state name bytes result old new) → Puts name run.steps result s (state new)
put_changes C state name bytes s result old new on run =
    let ways = ways_of C state name bytes result old new run in
    let sealed = way_seals name bytes C state ways.way s old ways.mid on ways.ran ways.each in
    record {
      after = sealed.after;
      chain = subst (λ (changes : List StoreChange). ChangesTo changes s sealed.after) (sym ways.seals_are) sealed.chain;
      seals = subst (AllByRecursion IsSeal) (sym ways.seals_are) sealed.seals;
      ends = ends_at C state name bytes sealed.after result ways.mid new sealed.on ways.last;
    }

-- What a step of a machine of files that runs leaves of its names and of its greatest id, and whether a collection runs after it.
use Rattle.std.proofs.Common.{◌≡◌, ◌⊎◌, inl, inr, ℕ, suc, true, false, Bool, List, [], ◌∷◌, is_some, take, Option, Some, None, Result, Ok, Err, refl, sym, ap, ◌∙◌, subst, map}
use Rattle.actor_parts.specs.declared.step.Answer.{Answer}
use Rattle.actor_parts.specs.declared.step.Answer.TheVariants as answers
use Rattle.actor_parts.specs.StepValue as steps
use Rattle.actor_parts.specs.StepValue.{StepValue}
use Rattle.container_meta.specs.declared.kind.Kind.{Kind}
use Rattle.container_meta.specs.Segments.{Contents, KindSegment, Segment}
use Rattle.refusals.specs.declared.refusal.Phase.{Phase}
use Rattle.refusals.specs.declared.refusal.Phase.TheVariants as phases
use Rattle.refusals.specs.declared.refusal.Refusal.{Refusal}
use Rattle.refusals.specs.declared.refusal.Refusal.TheVariants as refusals
use Rattle.store_model.specs.Files.{Stored}
use Rattle.store_model.specs.Image.{Store}
use Rattle.store_model.specs.Slots.{last_id}
use Rattle.store_model.specs.Steps.{FlushContainer, FreeContainer, StoreChange}
use Rattle.store_model.proofs.Valid.{last_sealed}
use Rattle.store_core.specs.Runs.{stored_with}
use Rattle.store_machine.specs.Asked.{Asked}
use Rattle.store_machine.specs.Asked as asked
use Rattle.store_machine.specs.ByMap.{FileMachine}
use Rattle.store_machine.specs.Collecting.{Goes, GoesOn, Makes, last_by}
use Rattle.store_machine.specs.Legal.{Answers, Refuses, RefusesClaim, RefusesCommit, RefusesDelete, RefusesGcStep, RefusesOn, RefusesSeal, RefusesUnique}
use Rattle.store_machine.specs.Machine.{Collection, Found, keeping, stopped}
use Rattle.store_machine.specs.Offers.{AddsContainer}
use Rattle.store_machine.specs.Values.{of_files}
use Rattle.store_machine.proofs.Added.{each_added}
use Rattle.store_machine.proofs.Released.{last_by_freeing}
use Rattle.core_machine.specs.Files.{stored_in}
use Rattle.core_machine.specs.Refines.{answered_by, asked_as}
use Rattle.shared_work.specs.Complete.{runs_after}

abbrev pub ask : List ℕ → StepValue → Asked (List ℕ)
ask bytes step = asked_as (λ root. bytes) step

-- the greatest id is as it was, or the machine runs, and a container has it
abbrev pub LeavesLast : FileMachine → FileMachine → Type 0
LeavesLast m n = (n.last_id ≡ m.last_id) ⊎ ((n.state ≡ m.state) × (n.last_id ≡ last_id n.store.held))

-- the names are those that commits and deletes make, and a collection runs as what was asked for says
pub record Leaves (step : StepValue) (answer : Result Answer Refusal) (bytes : List ℕ) (m n : FileMachine) : Type 0 where
  pub files : stored_in n.now ≡ stored_with step answer bytes (stored_in m.now)
  pub runs : is_some n.collection ≡ runs_after step answer (is_some m.collection)
  pub last : LeavesLast m n

kept_some : {V : Type 0} (keys : List (List ℕ)) (o : Option (Collection V)) → is_some (keeping keys o) ≡ is_some o
kept_some keys None = refl
kept_some keys (Some c) = refl

none_runs : {T : Type 0} (o : Option T) → o ≡ None → is_some o ≡ false
none_runs o is = ap is_some is

-- ---- a step of a collection

module _ (m n : FileMachine) (phase : Phase) (is : GoesOn of_files phase m n) where
  same_last : (changes : List StoreChange) → is.went.changes ≡ changes → last_by changes m.last_id ≡ m.last_id → LeavesLast m n
  same_last changes made same = inl (ap (λ (x : FileMachine). x.last_id) is.others ∙ ap (λ (ch : List StoreChange). last_by ch m.last_id) made ∙ same)

  new_last : (kind : Kind) (segments : List Segment) → is.went.changes ≡ FlushContainer (suc m.last_id) kind segments ∷ [] → LeavesLast m n
  new_last kind segments changes =
      let made = subst (λ (ch : List StoreChange). Makes ch m.store n.store) changes is.makes in
      inr (
        ap (λ (x : FileMachine). x.state) is.others,
        ap (λ (x : FileMachine). x.last_id) is.others ∙ ap (λ (ch : List StoreChange). last_by ch m.last_id) changes
            ∙ sym (last_sealed (suc m.last_id) kind segments m.store made.0) ∙ ap (λ (s : Store). last_id s.held) (sym made.1),
      )

  went_last : (went : Phase) → Goes of_files went is.c m is.went → LeavesLast m n
  went_last phases.Mark goes = same_last [] goes.3.1 refl
  went_last phases.Filter goes = same_last [] goes.4 refl
  went_last phases.Select goes = same_last [] goes.3.1 refl
  went_last phases.Copy goes = same_last [] goes.6 refl
  went_last phases.Flush goes = new_last goes.2 goes.3 goes.5
  went_last phases.Release goes = same_last (map FreeContainer goes.2) goes.6 (last_by_freeing goes.2 m.last_id)
  went_last phase goes = absurd goes

-- ---- a step that is refused

-- names, collection and the greatest id are as they were
pub record IsSame (m n : FileMachine) : Type 0 where
  pub now : n.now ≡ m.now
  pub collection : n.collection ≡ m.collection
  pub last : n.last_id ≡ m.last_id

same : (m n k : FileMachine) → n ≡ k → k.now ≡ m.now → k.collection ≡ m.collection → k.last_id ≡ m.last_id → IsSame m n
same m n k is now collection last = record {
  now = ap (λ (x : FileMachine). x.now) is ∙ now;
  collection = ap (λ (x : FileMachine). x.collection) is ∙ collection;
  last = ap (λ (x : FileMachine). x.last_id) is ∙ last;
}

module _ (a : ℕ) (m n : FileMachine) where
  still : n ≡ m → IsSame m n
  still is = same m n m is refl refl refl

  stops : (other : Option (Found (List ℕ))) (stores : List Store) → n ≡ stopped other stores m → IsSame m n
  stops other stores is = same m n (stopped other stores m) is refl refl refl

  claim_same : (seg : KindSegment) (refusal : Refusal) → RefusesClaim of_files a seg refusal m n → IsSame m n
  claim_same seg (refusals.Unpinned key) (is, others) = still others
  claim_same seg refusals.Memory others = still others
  claim_same seg refusals.DiskRead (keeps, others) = still others
  claim_same seg (refusals.Clash key at) (keeps, known, others) = still others
  claim_same seg (refusals.Corrupt slot offset count want got) (keeps, (unknown, others)) = still others
  claim_same seg refusal is = absurd is

  seal_same : (offered : List Contents) (refusal : Refusal) → RefusesSeal of_files a offered refusal m n → IsSame m n
  seal_same offered refusals.Memory others = still others
  seal_same offered (refusals.Unpinned key) (is, others) = still others
  seal_same offered (refusals.Full free) (keeps, is, few, others) = still others
  seal_same offered refusals.Numbers (slot, none, others) = still others
  seal_same offered refusals.DiskRead (slot, others) = still others
  seal_same offered (refusals.Clash key at) (slot, known, others) = still others
  seal_same offered (refusals.Corrupt slot offset count want got) (has, (unknown, others)) = still others
  seal_same offered refusals.DiskWrite (slot, fits, others) = stops None _ others
  seal_same offered refusal is = absurd is

  commit_same : (name value : List ℕ) (refusal : Refusal) → RefusesCommit of_files a name value refusal m n → IsSame m n
  commit_same name value refusals.Memory others = still others
  commit_same name value refusals.BadName (bad, others) = still others
  commit_same name value refusals.TooMany (named, none, many, others) = still others
  commit_same name value (refusals.Unpinned key) (named, room, is, pins, others) = still others
  commit_same name value refusals.Numbers (may, none, others) = still others
  commit_same name value refusals.DiskWrite (may, has, right, whole, others) = stops _ _ others
  commit_same name value refusal is = absurd is

  delete_same : (name : List ℕ) (refusal : Refusal) → RefusesDelete of_files name refusal m n → IsSame m n
  delete_same name refusals.Memory others = still others
  delete_same name refusals.BadName (bad, others) = still others
  delete_same name refusals.NoFile (named, none, others) = still others
  delete_same name refusals.Numbers (named, there, none, others) = still others
  delete_same name refusals.DiskWrite (named, there, has, others) = stops _ _ others
  delete_same name refusal is = absurd is

  collect_same : (refusal : Refusal) → RefusesGcStep of_files refusal m n → IsSame m n
  collect_same refusals.NotCollecting (none, others) = still others
  collect_same refusals.Memory (some, others) = still others
  collect_same refusals.Numbers (is, none, others) = still others
  collect_same refusals.DiskRead (is, others) = still others
  collect_same refusals.DiskWrite (stores, is, others) = stops None stores others
  collect_same (refusals.Corrupt slot offset count want got) (is, (unknown, others)) = still others
  collect_same (refusals.Missing key) (is, (unknown, others)) = still others
  collect_same (refusals.Damaged at why) (is, (unknown, others)) = still others
  collect_same refusal is = absurd is

  unique_same : (refusal : Refusal) → RefusesUnique of_files refusal m n → IsSame m n
  unique_same refusals.Memory others = still others
  unique_same refusals.DiskRead others = still others
  unique_same (refusals.Corrupt slot offset count want got) (unknown, others) = still others
  unique_same (refusals.Missing key) (unknown, others) = still others
  unique_same (refusals.Damaged at why) (unknown, others) = still others
  unique_same refusal is = absurd is

  on_same : (step : Asked (List ℕ)) (refusal : Refusal) → RefusesOn of_files a step refusal m n → IsSame m n
  on_same (asked.Claim seg) refusal is = claim_same seg refusal is
  on_same (asked.Seal offered) refusal is = seal_same offered refusal is
  on_same (asked.Commit name value) refusal is = commit_same name value refusal is
  on_same (asked.OpenRead name) refusals.Memory others = still others
  on_same (asked.OpenRead name) refusals.BadName (bad, others) = still others
  on_same (asked.OpenRead name) refusals.NoFile (named, none, others) = still others
  on_same asked.ReadNext refusal (value, rest, after, was, stays, others) = same m n _ others refl refl refl
  on_same (asked.Delete name) refusal is = delete_same name refusal is
  on_same asked.ListNames refusals.Memory others = still others
  on_same (asked.GcStart percent) refusals.Memory (none, others) = still others
  on_same (asked.GcStart percent) (refusals.Missing key) (none, (unknown, others)) = still others
  on_same (asked.GcStart percent) (refusals.Damaged at why) (none, (unknown, others)) = still others
  on_same (asked.GcStart percent) (refusals.Collecting phase) (is, others) = still others
  on_same asked.GcStep refusal is = collect_same refusal is
  on_same asked.Unique refusal is = unique_same refusal is
  on_same step refusal is = absurd is

  refused_same : (step : Asked (List ℕ)) (refusal : Refusal) → Refuses of_files a step refusal m n → IsSame m n
  refused_same step (refusals.WrongPart kind) (wrong, others) = still others
  refused_same step refusals.Memory on = on_same step refusals.Memory on
  refused_same step refusal (right, on) = on_same step refusal on

  -- ---- any step

  module _ (bytes buf : List ℕ) where
    goes : (step : StepValue) (answer : Result Answer Refusal) (k : FileMachine) → n ≡ k → stored_in k.now ≡ stored_with step answer bytes (stored_in m.now)
        → is_some k.collection ≡ runs_after step answer (is_some m.collection) → k.last_id ≡ m.last_id → Leaves step answer bytes m n
    goes step answer k is files runs last = record {
      files = ap (λ (x : FileMachine). stored_in x.now) is ∙ files;
      runs = ap (λ (x : FileMachine). is_some x.collection) is ∙ runs;
      last = inl (ap (λ (x : FileMachine). x.last_id) is ∙ last);
    }

    stored_as : (step : StepValue) (refusal : Refusal) (stored : Stored) → stored_with step (Err refusal) bytes stored ≡ stored
    stored_as (steps.Commit name root) refusal stored = refl
    stored_as (steps.Delete name) refusal stored = refl
    stored_as step refusal stored = refl

    runs_as : (step : StepValue) (refusal : Refusal) (runs : Bool) → runs_after step (Err refusal) runs ≡ runs
    runs_as (steps.GcStart percent) refusal runs = refl
    runs_as steps.GcStep refusal runs = refl
    runs_as step refusal runs = refl

    refused_leaves : (step : StepValue) (refusal : Refusal) → IsSame m n → Leaves step (Err refusal) bytes m n
    refused_leaves step refusal is = record {
      files = ap stored_in is.now ∙ sym (stored_as step refusal (stored_in m.now));
      runs = ap is_some is.collection ∙ sym (runs_as step refusal (is_some m.collection));
      last = inl is.last;
    }

    some_runs : {T : Type 0} (o : Option T) (c : T) → o ≡ Some c → true ≡ is_some o
    some_runs o c is = sym (ap is_some is)

    done_leaves : (step : StepValue) (answer : Answer) → Answers of_files a (ask bytes step) (answered_by (Ok answer) buf) m n → Leaves step (Ok answer) bytes m n
    done_leaves steps.Begin answers.Begun (idle, is) = goes steps.Begin (Ok answers.Begun) _ is refl refl refl
    done_leaves (steps.Claim seg) answers.Held is =
        goes (steps.Claim seg) (Ok answers.Held) _ is.others refl (kept_some _ m.collection) refl
    done_leaves (steps.Claim seg) answers.Absent (keeps, told, is) = goes (steps.Claim seg) (Ok answers.Absent) m is refl refl refl
    done_leaves (steps.Seal offered) (answers.Sealed id count) is =
        let all : IsSealed n = each_added a IsSealed sealed (take count offered) m n is.adds (refl, refl, refl, inl refl) in
        record { files = ap stored_in all.0; runs = all.1; last = all.3 }
      where
        IsSealed : FileMachine → Type 0
        IsSealed k = (k.now ≡ m.now) × (is_some k.collection ≡ is_some m.collection) × (k.state ≡ m.state) × LeavesLast m k

        sealed : (c : Contents) (k l : FileMachine) → AddsContainer a c k l → IsSealed k → IsSealed l
        sealed c k l one was =
            let state : l.state ≡ m.state = ap (λ (x : FileMachine). x.state) one.others ∙ was.2 in
            let last : l.last_id ≡ last_id l.store.held = ap (λ (x : FileMachine). x.last_id) one.others
            ∙ sym (last_sealed (suc k.last_id) c.kind c.segments k.store one.can) ∙ ap (λ (x : FileMachine). last_id x.store.held) (sym one.others) in (
              ap (λ (x : FileMachine). x.now) one.others ∙ was.0,
              ap (λ (x : FileMachine). is_some x.collection) one.others ∙ kept_some _ k.collection ∙ was.1,
              state,
              inr (state, last),
            )
    done_leaves (steps.Commit name root) (answers.Committed sequence) is =
        goes (steps.Commit name root) (Ok (answers.Committed sequence)) _ is.others refl refl refl
    done_leaves steps.Abort answers.Aborted (kind, is) = goes steps.Abort (Ok answers.Aborted) _ is refl refl refl
    done_leaves (steps.OpenRead name) (answers.Opened count) (named, idle, (value, rest, has, starts, counted, is)) =
        goes (steps.OpenRead name) (Ok (answers.Opened count)) _ is refl refl refl
    done_leaves steps.ReadNext (answers.Bytes count) (value, rest, after, reads, gives, is) = goes steps.ReadNext (Ok (answers.Bytes count)) _ is refl refl refl
    done_leaves steps.ReadNext answers.End (value, rest, reads, ends, is) = goes steps.ReadNext (Ok answers.End) m is refl refl refl
    done_leaves steps.EndRead answers.Dropped (kind, is) = goes steps.EndRead (Ok answers.Dropped) _ is refl refl refl
    done_leaves (steps.Delete name) (answers.Deleted sequence) is = goes (steps.Delete name) (Ok (answers.Deleted sequence)) _ is.others refl refl refl
    done_leaves steps.ListNames (answers.Listed files) (listed, is) = goes steps.ListNames (Ok (answers.Listed files)) m is refl refl refl
    done_leaves (steps.GcStart percent) (answers.Started snapshot) (none, next, is) = goes (steps.GcStart percent) (Ok (answers.Started snapshot)) _ is refl refl refl
    done_leaves steps.GcStep (answers.Did phase) is = record {
      files = ap (λ (x : FileMachine). stored_in x.now) is.others;
      runs = ap (λ (x : FileMachine). is_some x.collection) is.others ∙ some_runs m.collection is.c is.ran;
      last = went_last m n phase is phase is.goes;
    }
    done_leaves steps.GcStep (answers.Done freed copied) is = goes steps.GcStep (Ok (answers.Done freed copied)) _ is.others refl refl refl
    done_leaves steps.Stat (answers.Stat files segments count used free) (counts, is) =
        goes steps.Stat (Ok (answers.Stat files segments count used free)) m is refl refl refl
    done_leaves steps.Unique (answers.Unique segments count) (counts, is) = goes steps.Unique (Ok (answers.Unique segments count)) m is refl refl refl
    done_leaves other answer is = absurd is

    pub step_leaves : (step : StepValue) (answer : Result Answer Refusal) → Answers of_files a (ask bytes step) (answered_by answer buf) m n → Leaves step answer bytes m n
    step_leaves step (Ok answer) is = done_leaves step answer is
    step_leaves step (Err refusal) is = refused_leaves step refusal (refused_same (ask bytes step) refusal is)

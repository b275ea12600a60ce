-- What a step of the machine of files leaves in doubt: only a commit or a delete that failed leaves other names that may be found.
use Rattle.std.proofs.Common.{◌≡◌, ◌⊎◌, inl, inr, ℕ, List, [], ◌∷◌, take, Some, Result, Ok, Err, refl, sym, ap, ◌∙◌, subst}
use Rattle.container_meta.specs.Segments.{Contents}
use Rattle.refusals.specs.declared.refusal.Refusal.{Refusal}
use Rattle.refusals.specs.declared.refusal.Refusal.TheVariants as refusals
use Rattle.store_machine.specs.Asked.{Asked}
use Rattle.store_machine.specs.Asked as asked
use Rattle.store_machine.specs.ByMap.{FileMachine}
use Rattle.store_machine.specs.Done.{Done}
use Rattle.store_machine.specs.Done as done
use Rattle.store_machine.specs.Legal.{Answers, ByState, Does, Legal, Refuses, RefusesClaim, RefusesCommit, RefusesDelete, RefusesGcStep, RefusesOn, RefusesSeal, RefusesUnique, with_name, without_name}
use Rattle.store_machine.specs.Machine.{Found, RunState, Running, Stopped}
use Rattle.store_machine.specs.Offers.{AddsContainers}
use Rattle.store_machine.specs.Values.{of_files}
use Rattle.shared_store.specs.Book.{IsNoOpening}

-- what a command tried to make of the names
abbrev pub Tried : Asked (List ℕ) → (now found : Found (List ℕ)) → Type 0
Tried (asked.Commit name file) now found = found ≡ with_name of_files name file now
Tried (asked.Delete name) now found = found ≡ without_name of_files name now
Tried step now found = ⊥

-- nothing is in doubt but what the step tried
abbrev pub Doubts : Asked (List ℕ) → Found (List ℕ) → RunState (List ℕ) → Type 0
Doubts step now (Stopped (Some other) stores) = Tried step now other
Doubts step now state = Unit {0}

-- ---- of a machine that runs

added_state : (a : ℕ) (cs : List Contents) (m n : FileMachine) → AddsContainers a cs m n → n.state ≡ m.state
added_state a [] m n is = ap (λ (x : FileMachine). x.state) is
added_state a (c ∷ cs) m n (mid, one, more) = added_state a cs mid n more ∙ ap (λ (x : FileMachine). x.state) one.others

module _ (a : ℕ) (m n : FileMachine) (runs : m.state ≡ Running) where
  abbrev Left : Asked (List ℕ) → Type 0
  Left step = Doubts step m.now n.state

  left : (step : Asked (List ℕ)) (state : RunState (List ℕ)) → n.state ≡ state → Doubts step m.now state → Left step
  left step state is so = subst (Doubts step m.now) (sym is) so

  goes : (step : Asked (List ℕ)) (k : FileMachine) → n ≡ k → k.state ≡ m.state → Left step
  goes step k is same = left step Running (ap (λ (x : FileMachine). x.state) is ∙ same ∙ runs) tt

  stops : (step : Asked (List ℕ)) (k : FileMachine) → n ≡ k → Doubts step m.now k.state → Left step
  stops step k is so = left step k.state (ap (λ (x : FileMachine). x.state) is) so

  does : (step : Asked (List ℕ)) (answer : Done) → Does of_files a step answer m n → Left step
  does asked.Begin done.Begun (idle, is) = goes asked.Begin _ is refl
  does (asked.Claim seg) done.Held claims = goes (asked.Claim seg) _ claims.others refl
  does (asked.Claim seg) done.Absent (keeps, told, is) = goes (asked.Claim seg) m is refl
  does (asked.Seal offered) (done.Sealed id count) seals = left (asked.Seal offered) Running (added_state a (take count offered) m n seals.adds ∙ runs) tt
  does (asked.Commit name file) (done.Committed sequence) commits = goes (asked.Commit name file) _ commits.others refl
  does asked.Abort done.Aborted (kind, is) = goes asked.Abort _ is refl
  does (asked.OpenRead name) (done.Opened count) (named, idle, (value, rest, has, starts, counted, is)) = goes (asked.OpenRead name) _ is refl
  does asked.ReadNext (done.Bytes bytes) (value, rest, after, reads, gives, is) = goes asked.ReadNext _ is refl
  does asked.ReadNext done.End (value, rest, reads, ends, is) = goes asked.ReadNext m is refl
  does asked.EndRead done.Dropped (kind, is) = goes asked.EndRead _ is refl
  does (asked.Delete name) (done.Deleted sequence) deletes = goes (asked.Delete name) _ deletes.others refl
  does asked.ListNames (done.Listed files) (listed, is) = goes asked.ListNames m is refl
  does (asked.GcStart percent) (done.Started snapshot) (none, next, is) = goes (asked.GcStart percent) _ is refl
  does asked.GcStep (done.Did phase) went = goes asked.GcStep _ went.others refl
  does asked.GcStep (done.Collected freed copied) ends = goes asked.GcStep _ ends.others refl
  does asked.Stat (done.Counted files segments bytes used free) (counts, is) = goes asked.Stat m is refl
  does asked.Unique (done.Unique segments bytes) (counts, is) = goes asked.Unique m is refl
  does step answer is = absurd is

  -- ---- refused

  same : (step : Asked (List ℕ)) → n ≡ m → Left step
  same step is = goes step m is refl

  claim : (seg : _) (refusal : Refusal) → RefusesClaim of_files a seg refusal m n → Left (asked.Claim seg)
  claim seg (refusals.Unpinned key) is = same (asked.Claim seg) is.1
  claim seg refusals.Memory is = same (asked.Claim seg) is
  claim seg refusals.DiskRead is = same (asked.Claim seg) is.1
  claim seg (refusals.Clash key at) is = same (asked.Claim seg) is.2
  claim seg (refusals.Corrupt slot offset count want got) is = same (asked.Claim seg) is.1.1
  claim seg refusal is = absurd is

  seal : (offered : List Contents) (refusal : Refusal) → RefusesSeal of_files a offered refusal m n → Left (asked.Seal offered)
  seal offered refusals.Memory is = same (asked.Seal offered) is
  seal offered (refusals.Unpinned key) is = same (asked.Seal offered) is.1
  seal offered (refusals.Full free) is = same (asked.Seal offered) is.3
  seal offered refusals.Numbers is = same (asked.Seal offered) is.2
  seal offered refusals.DiskRead is = same (asked.Seal offered) is.1
  seal offered (refusals.Clash key at) is = same (asked.Seal offered) is.2
  seal offered (refusals.Corrupt slot offset count want got) is = same (asked.Seal offered) is.1.1
  seal offered refusals.DiskWrite is = stops (asked.Seal offered) _ is.2 tt
  seal offered refusal is = absurd is

  commit : (name file : List ℕ) (refusal : Refusal) → RefusesCommit of_files a name file refusal m n → Left (asked.Commit name file)
  commit name file refusals.Memory is = same (asked.Commit name file) is
  commit name file refusals.BadName is = same (asked.Commit name file) is.1
  commit name file refusals.TooMany is = same (asked.Commit name file) is.3
  commit name file (refusals.Unpinned key) is = same (asked.Commit name file) is.4
  commit name file refusals.Numbers is = same (asked.Commit name file) is.2
  commit name file refusals.DiskWrite is = stops (asked.Commit name file) _ is.4 refl
  commit name file refusal is = absurd is

  delete : (name : List ℕ) (refusal : Refusal) → RefusesDelete of_files name refusal m n → Left (asked.Delete name)
  delete name refusals.Memory is = same (asked.Delete name) is
  delete name refusals.BadName is = same (asked.Delete name) is.1
  delete name refusals.NoFile is = same (asked.Delete name) is.2
  delete name refusals.Numbers is = same (asked.Delete name) is.3
  delete name refusals.DiskWrite is = stops (asked.Delete name) _ is.3 refl
  delete name refusal is = absurd is

  gc_step : (refusal : Refusal) → RefusesGcStep of_files refusal m n → Left asked.GcStep
  gc_step refusals.NotCollecting is = same asked.GcStep is.1
  gc_step refusals.Memory is = same asked.GcStep is.1
  gc_step refusals.Numbers is = same asked.GcStep is.2
  gc_step refusals.DiskRead is = same asked.GcStep is.1
  gc_step refusals.DiskWrite is = stops asked.GcStep _ is.2 tt
  gc_step (refusals.Corrupt slot offset count want got) is = same asked.GcStep is.1.1
  gc_step (refusals.Missing key) is = same asked.GcStep is.1.1
  gc_step (refusals.Damaged at why) is = same asked.GcStep is.1.1
  gc_step refusal is = absurd is

  unique : (refusal : Refusal) → RefusesUnique of_files refusal m n → Left asked.Unique
  unique refusals.Memory is = same asked.Unique is
  unique refusals.DiskRead is = same asked.Unique is
  unique (refusals.Corrupt slot offset count want got) is = same asked.Unique is.1
  unique (refusals.Missing key) is = same asked.Unique is.1
  unique (refusals.Damaged at why) is = same asked.Unique is.1
  unique refusal is = absurd is

  on : (step : Asked (List ℕ)) (refusal : Refusal) → RefusesOn of_files a step refusal m n → Left step
  on (asked.Claim seg) refusal is = claim seg refusal is
  on (asked.Seal offered) refusal is = seal offered refusal is
  on (asked.Commit name file) refusal is = commit name file refusal is
  on (asked.OpenRead name) refusals.Memory is = same (asked.OpenRead name) is
  on (asked.OpenRead name) refusals.BadName is = same (asked.OpenRead name) is.1
  on (asked.OpenRead name) refusals.NoFile is = same (asked.OpenRead name) is.2
  on asked.ReadNext refusal (value, rest, after, reads, stays, is) = goes asked.ReadNext _ is refl
  on (asked.Delete name) refusal is = delete name refusal is
  on asked.ListNames refusals.Memory is = same asked.ListNames is
  on (asked.GcStart percent) refusals.Memory is = same (asked.GcStart percent) is.1
  on (asked.GcStart percent) (refusals.Missing key) is = same (asked.GcStart percent) is.1.1
  on (asked.GcStart percent) (refusals.Damaged at why) is = same (asked.GcStart percent) is.1.1
  on (asked.GcStart percent) (refusals.Collecting phase) is = same (asked.GcStart percent) is.1
  on asked.GcStep refusal is = gc_step refusal is
  on asked.Unique refusal is = unique refusal is
  on step refusal is = absurd is

  refused : (step : Asked (List ℕ)) (refusal : Refusal) → Refuses of_files a step refusal m n → Left step
  refused step (refusals.WrongPart kind) is = same step is.1
  refused step refusals.Memory is = on step refusals.Memory is
  refused step refusal is = on step refusal is.1

  answers : (step : Asked (List ℕ)) (answer : Result Done Refusal) → Answers of_files a step answer m n → Left step
  answers step (Ok answer) is = does step answer is
  answers step (Err refusal) is = refused step refusal is

-- ---- a step

-- one that is no opening is by what the machine is at
pub by_state : (a : ℕ) (step : Asked (List ℕ)) (answer : Result Done Refusal) (m n : FileMachine) → IsNoOpening step
    → Legal of_files (record { actor = a; asked = step; answer = answer }) m n → ByState of_files m.state a step answer m n
by_state a asked.Reopen answer m n none legal = absurd none
by_state a step answer m n none legal = legal

-- a stopped machine stays as it is
pub doubts : (state : RunState (List ℕ)) (a : ℕ) (step : Asked (List ℕ)) (answer : Result Done Refusal) (m n : FileMachine) → m.state ≡ state
    → ByState of_files state a step answer m n → (n ≡ m) ⊎ Doubts step m.now n.state
doubts Running a step answer m n runs is = inr (answers a m n runs step answer is)
doubts (Stopped other stores) a step answer m n stopped is = inl is.1

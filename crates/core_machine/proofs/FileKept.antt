-- A core that was at the files of a machine is at those of the machine that a step made of it, where the step is none of a collection.
use Rattle.core_machine.proofs.Prelude.{◌≡◌, ℕ, suc, ◌+◌, ◌-◌, arith, List, [], ◌∷◌, take, None, Some, Result, Ok, Err, refl, sym, ◌∙◌, ap, subst, Root, Answer, StepValue, Refusal, ByteSet, IsIn, Stored, Store, ChangesTo, FileEvent, IsAt, IsNoGcStep, changes_by, stored_by, stored_with, CoreState, NextOn, Asked, FileMachine, Answers, ByState, LegalBy, Refuses, RefusesClaim, RefusesCommit, RefusesDelete, RefusesOn, RefusesSeal, RefusesUnique, RunState, Running, keeping, RootMachine, of_files, IsOfFile, stored_in, answered_by, asked_as, segment_key}
use Rattle.actor_parts.specs.declared.step.Answer.TheVariants as answers
use Rattle.actor_parts.specs.StepValue as steps
use Rattle.refusals.specs.declared.refusal.Refusal.TheVariants as refusals
use Rattle.store_core.proofs.KeepingFiles.{file_step}
use Rattle.store_machine.specs.Done.{Done}
use Rattle.store_machine.specs.Machine.{Collection}
use Rattle.core_machine.proofs.FileSteps.{StepsAt, StepsTo}
use Rattle.core_machine.proofs.FileWritten.{KeepsWritten, keeping_written, none_written, same_written}
use Rattle.store_core.specs.Collecting.{keys_in}
use Rattle.store_core.specs.Core.{seals_from}
use Rattle.store_core.proofs.ManySealed.{leads_once}
use Rattle.store_machine.proofs.Added.{each_added}
use Rattle.core_machine.proofs.AddedAll.{added_chain, added_keys}

-- ---- names and store are as they were

record Stays (m n : FileMachine) : Type 0 where
  now : stored_in n.now ≡ stored_in m.now
  store : n.store ≡ m.store
  written : KeepsWritten m n

stays_but : (m n k : FileMachine) → n ≡ k → stored_in k.now ≡ stored_in m.now → k.store ≡ m.store → KeepsWritten m k → Stays m n
stays_but m n k is now store written = subst (Stays m) (sym is) (record { now = now; store = store; written = written })

-- it may keep keys more
stays_keeping : (m n k : FileMachine) (keys : List (List ℕ)) → n ≡ k → stored_in k.now ≡ stored_in m.now → k.store ≡ m.store → k.collection ≡ keeping keys m.collection
    → Stays m n
stays_keeping m n k keys is now store collection = stays_but m n k is now store (keeping_written keys m k collection)

-- or begin one that has written nothing
stays_begun : (m n k : FileMachine) (x : Collection (List ℕ)) → n ≡ k → stored_in k.now ≡ stored_in m.now → k.store ≡ m.store → k.collection ≡ Some x → x.changes ≡ [] → Stays m n
stays_begun m n k x is now store collection none = stays_but m n k is now store (none_written m k x collection none)

stays_of : (m n k : FileMachine) → n ≡ k → stored_in k.now ≡ stored_in m.now → k.store ≡ m.store → k.collection ≡ m.collection → Stays m n
stays_of m n k is now store collection = stays_but m n k is now store (same_written m k collection)

same : (m n : FileMachine) → n ≡ m → Stays m n
same m n is = stays_of m n m is refl refl refl

claim_stays : (m n : FileMachine) (a : ℕ) (seg : _) (refusal : Refusal) → RefusesClaim of_files a seg refusal m n → Stays m n
claim_stays m n a seg (refusals.Unpinned key) is = same m n is.1
claim_stays m n a seg refusals.Memory is = same m n is
claim_stays m n a seg refusals.DiskRead is = same m n is.1
claim_stays m n a seg (refusals.Clash key at) is = same m n is.2
claim_stays m n a seg (refusals.Corrupt slot offset count want got) is = same m n is.1.1
claim_stays m n a seg refusal is = absurd is

seal_stays : (m n : FileMachine) (a : ℕ) (offered : _) (refusal : Refusal) → RefusesSeal of_files a offered refusal m n → Stays m n
seal_stays m n a offered refusals.Memory is = same m n is
seal_stays m n a offered (refusals.Unpinned key) is = same m n is.1
seal_stays m n a offered (refusals.Full free) is = same m n is.3
seal_stays m n a offered refusals.Numbers is = same m n is.2
seal_stays m n a offered refusals.DiskRead is = same m n is.1
seal_stays m n a offered (refusals.Clash key at) is = same m n is.2
seal_stays m n a offered (refusals.Corrupt slot offset count want got) is = same m n is.1.1
seal_stays m n a offered refusals.DiskWrite is = stays_of m n _ is.2 refl refl refl
seal_stays m n a offered refusal is = absurd is

commit_stays : (m n : FileMachine) (a : ℕ) (name value : List ℕ) (refusal : Refusal) → RefusesCommit of_files a name value refusal m n → Stays m n
commit_stays m n a name value refusals.Memory is = same m n is
commit_stays m n a name value refusals.BadName is = same m n is.1
commit_stays m n a name value refusals.TooMany is = same m n is.3
commit_stays m n a name value (refusals.Unpinned key) is = same m n is.4
commit_stays m n a name value refusals.Numbers is = same m n is.2
commit_stays m n a name value refusals.DiskWrite is = stays_of m n _ is.4 refl refl refl
commit_stays m n a name value refusal is = absurd is

delete_stays : (m n : FileMachine) (name : List ℕ) (refusal : Refusal) → RefusesDelete of_files name refusal m n → Stays m n
delete_stays m n name refusals.Memory is = same m n is
delete_stays m n name refusals.BadName is = same m n is.1
delete_stays m n name refusals.NoFile is = same m n is.2
delete_stays m n name refusals.Numbers is = same m n is.3
delete_stays m n name refusals.DiskWrite is = stays_of m n _ is.3 refl refl refl
delete_stays m n name refusal is = absurd is

unique_stays : (m n : FileMachine) (refusal : Refusal) → RefusesUnique of_files refusal m n → Stays m n
unique_stays m n refusals.Memory is = same m n is
unique_stays m n refusals.DiskRead is = same m n is
unique_stays m n (refusals.Corrupt slot offset count want got) is = same m n is.1
unique_stays m n (refusals.Missing key) is = same m n is.1
unique_stays m n (refusals.Damaged at why) is = same m n is.1
unique_stays m n refusal is = absurd is

abbrev ask : List ℕ → StepValue → Asked (List ℕ)
ask bytes step = asked_as (λ root. bytes) step

on_stays : (m n : FileMachine) (a : ℕ) (bytes : List ℕ) (step : StepValue) (refusal : Refusal) → IsNoGcStep step → RefusesOn of_files a (ask bytes step) refusal m n → Stays m n
on_stays m n a bytes (steps.Claim seg) refusal other is = claim_stays m n a seg refusal is
on_stays m n a bytes (steps.Seal offered) refusal other is = seal_stays m n a offered refusal is
on_stays m n a bytes (steps.Commit name root) refusal other is = commit_stays m n a name bytes refusal is
on_stays m n a bytes (steps.Delete name) refusal other is = delete_stays m n name refusal is
on_stays m n a bytes (steps.OpenRead name) refusals.Memory other is = same m n is
on_stays m n a bytes (steps.OpenRead name) refusals.BadName other is = same m n is.1
on_stays m n a bytes (steps.OpenRead name) refusals.NoFile other is = same m n is.2
on_stays m n a bytes steps.ReadNext refusal other is = stays_of m n _ is.5 refl refl refl
on_stays m n a bytes steps.ListNames refusals.Memory other is = same m n is
on_stays m n a bytes (steps.GcStart percent) refusals.Memory other is = same m n is.1
on_stays m n a bytes (steps.GcStart percent) (refusals.Missing key) other is = same m n is.1.1
on_stays m n a bytes (steps.GcStart percent) (refusals.Damaged at why) other is = same m n is.1.1
on_stays m n a bytes (steps.GcStart percent) (refusals.Collecting phase) other is = same m n is.1
on_stays m n a bytes steps.GcStep refusal other is = absurd other
on_stays m n a bytes steps.Unique refusal other is = unique_stays m n refusal is
on_stays m n a bytes it refusal other is = absurd is

refused_stays : (m n : FileMachine) (a : ℕ) (bytes : List ℕ) (step : StepValue) (refusal : Refusal) → IsNoGcStep step → Refuses of_files a (ask bytes step) refusal m n
    → Stays m n
refused_stays m n a bytes step (refusals.WrongPart kind) other is = same m n is.1
refused_stays m n a bytes step refusals.Memory other is = on_stays m n a bytes step refusals.Memory other is
refused_stays m n a bytes step refusal other is = on_stays m n a bytes step refusal other is.1

-- ---- what the step made of them

-- the machine is at the store that the core comes to, and has its files
pub record Comes (step : StepValue) (answer : Result Answer Refusal) (bytes : List ℕ) (m n : FileMachine) (t : Store) : Type 0 where
  pub store : t ≡ n.store
  pub now : stored_with step answer bytes (stored_in m.now) ≡ stored_in n.now
  -- what the collection wrote it had written before
  pub written : KeepsWritten m n

module _ (m n : FileMachine) (a : ℕ) (bytes buf : List ℕ) (t : Store) where
  abbrev Goes : StepValue → Result Answer Refusal → Type 0
  Goes step answer = ChangesTo (changes_by step answer) m.store t → Comes step answer bytes m n t

  stayed : (step : StepValue) (answer : Result Answer Refusal) → changes_by step answer ≡ [] → stored_with step answer bytes (stored_in m.now) ≡ stored_in m.now → Stays m n
      → Goes step answer
  stayed step answer none unchanged stays chain = record {
    store = subst (λ (c : List _). ChangesTo c m.store t) none chain ∙ sym stays.store;
    now = unchanged ∙ sym stays.now;
    written = stays.written;
  }

  does : (step : StepValue) (answer : Answer) → IsNoGcStep step → IsOfFile step bytes → Answers of_files a (ask bytes step) (answered_by (Ok answer) buf) m n
      → Goes step (Ok answer)
  does steps.Begin answers.Begun other of is chain = stayed steps.Begin (Ok answers.Begun) refl refl (stays_of m n _ is.1 refl refl refl) chain
  does steps.Begin answer other of is chain = absurd is
  does (steps.Claim seg) answers.Held other of is chain =
      stayed (steps.Claim seg) (Ok answers.Held) refl refl (stays_keeping m n _ (segment_key seg.kind seg.segment ∷ []) is.others refl refl refl) chain
  does (steps.Claim seg) answers.Absent other of is chain = stayed (steps.Claim seg) (Ok answers.Absent) refl refl (same m n is.2) chain
  does (steps.Claim seg) answer other of is chain = absurd is
  does (steps.Seal offered) (answers.Sealed id count) other of is chain =
      let first : id + 1 - count ≡ suc m.last_id = omega (arith, is.id_is) in
      record {
        store = leads_once (seals_from (suc m.last_id) (take count offered)) m.store t n.store
            (subst (λ (k : ℕ). ChangesTo (seals_from k (take count offered)) m.store t) first chain) (added_chain a (take count offered) m n is.adds);
        now = sym (each_added a (λ (k : FileMachine). stored_in k.now ≡ stored_in m.now)
            (λ c k l one has. ap (λ (x : FileMachine). stored_in x.now) one.others ∙ has) (take count offered) m n is.adds refl);
        written = keeping_written (keys_in (take count offered)) m n (added_keys a (take count offered) m n is.adds);
      }
  does (steps.Seal offered) answer other of is chain = absurd is
  does (steps.Commit name root) (answers.Committed sequence) other of is chain = record {
    store = (subst (λ (r : Root). ChangesTo (changes_by (steps.Commit name r) (Ok (answers.Committed sequence))) m.store t) of.0 chain).1
        ∙ sym (ap (λ (x : FileMachine). x.store) is.others);
    now = sym (ap (λ (x : FileMachine). stored_in x.now) is.others);
    written = same_written m n (ap (λ (x : FileMachine). x.collection) is.others);
  }
  does (steps.Commit name root) answer other of is chain = absurd is
  does steps.Abort answers.Aborted other of is chain = stayed steps.Abort (Ok answers.Aborted) refl refl (stays_of m n _ is.1 refl refl refl) chain
  does steps.Abort answer other of is chain = absurd is
  does (steps.OpenRead name) (answers.Opened count) other of is chain =
      stayed (steps.OpenRead name) (Ok (answers.Opened count)) refl refl (stays_of m n _ is.2.5 refl refl refl) chain
  does (steps.OpenRead name) answer other of is chain = absurd is
  does steps.ReadNext (answers.Bytes count) other of is chain = stayed steps.ReadNext (Ok (answers.Bytes count)) refl refl (stays_of m n _ is.5 refl refl refl) chain
  does steps.ReadNext answers.End other of is chain = stayed steps.ReadNext (Ok answers.End) refl refl (same m n is.4) chain
  does steps.ReadNext answer other of is chain = absurd is
  does steps.EndRead answers.Dropped other of is chain = stayed steps.EndRead (Ok answers.Dropped) refl refl (stays_of m n _ is.1 refl refl refl) chain
  does steps.EndRead answer other of is chain = absurd is
  does (steps.Delete name) (answers.Deleted sequence) other of is chain =
      record {
        store = chain.1
            ∙ sym (ap (λ (x : FileMachine). x.store) is.others);
        now = sym (ap (λ (x : FileMachine). stored_in x.now) is.others);
        written =
            same_written m n (ap (λ (x : FileMachine). x.collection) is.others);
      }
  does (steps.Delete name) answer other of is chain = absurd is
  does steps.ListNames (answers.Listed files) other of is chain = stayed steps.ListNames (Ok (answers.Listed files)) refl refl (same m n is.1) chain
  does steps.ListNames answer other of is chain = absurd is
  does (steps.GcStart percent) (answers.Started snapshot) other of is chain =
      stayed (steps.GcStart percent) (Ok (answers.Started snapshot)) refl refl (stays_begun m n _ _ is.2 refl refl refl refl) chain
  does (steps.GcStart percent) answer other of is chain = absurd is
  does steps.GcStep answer other of is chain = absurd other
  does steps.Stat (answers.Stat files segments bytes used free) other of is chain =
      stayed steps.Stat (Ok (answers.Stat files segments bytes used free)) refl refl (same m n is.1) chain
  does steps.Stat answer other of is chain = absurd is
  does steps.Unique (answers.Unique segments bytes) other of is chain =
      stayed steps.Unique (Ok (answers.Unique segments bytes)) refl refl (same m n is.1) chain
  does steps.Unique answer other of is chain = absurd is

  none_by : (step : StepValue) (refusal : Refusal) → changes_by step (Err refusal) ≡ []
  none_by (steps.Seal offered) refusal = refl
  none_by (steps.Commit name root) refusal = refl
  none_by (steps.Delete name) refusal = refl
  none_by step refusal = refl

  none_stored : (step : StepValue) (refusal : Refusal) (stored : Stored) → stored_with step (Err refusal) bytes stored ≡ stored
  none_stored (steps.Commit name root) refusal stored = refl
  none_stored (steps.Delete name) refusal stored = refl
  none_stored step refusal stored = refl

  -- what is refused leaves the files
  pub refused_now : (step : StepValue) (refusal : Refusal) → IsNoGcStep step → Refuses of_files a (ask bytes step) refusal m n
      → stored_with step (Err refusal) bytes (stored_in m.now) ≡ stored_in n.now
  refused_now step refusal other is = none_stored step refusal (stored_in m.now) ∙ sym (refused_stays m n a bytes step refusal other is).now

  answers_so : (step : StepValue) (answer : Result Answer Refusal) → IsNoGcStep step → IsOfFile step bytes → Answers of_files a (ask bytes step) (answered_by answer buf) m n
      → Goes step answer
  answers_so step (Ok answer) other of is = does step answer other of is
  answers_so step (Err refusal) other of is =
      stayed step (Err refusal) (none_by step refusal) (none_stored step refusal (stored_in m.now)) (refused_stays m n a bytes step refusal other is)

  -- no step is an opening
  pub by_step : (step : StepValue) (told : Result Done Refusal) → LegalBy of_files (ask bytes step) a told m n → ByState of_files m.state a (ask bytes step) told m n
  by_step steps.Begin told by = by
  by_step other told by = by

  -- a machine that runs answers so
  pub answers_by : m.state ≡ Running → (step : StepValue) (told : Result Done Refusal) → LegalBy of_files (ask bytes step) a told m n
      → Answers of_files a (ask bytes step) told m n
  answers_by runs step told legal = subst (λ (s : RunState (List ℕ)). ByState of_files s a (ask bytes step) told m n) runs (by_step step told legal)

-- ---- the core is at them

module _ {C : Type 0} {state : C → CoreState} {among : ByteSet} {f : FileEvent} {old new : C} {m n : FileMachine} {r t : RootMachine}
    (to : StepsTo C state among f old new m n r t)
    (other : IsNoGcStep f.event.step) (stays : (state new).stop ≡ None) where
  abbrev at : StepsAt C state among f old new m r t
  at = to.steps

  -- the store that the core comes to, and what it keeps
  pub next : NextOn (IsIn among) m.store (changes_by f.event.step f.event.answer) (stored_by f (stored_in m.now)) (state old) (state new)
  next = file_step among at.apart f m.store (stored_in m.now) (state old) (state new) other at.step at.at.is_at stays

  pub comes : Comes f.event.step f.event.answer f.bytes m n next.next.store
  comes =
      answers_so m n f.event.actor f.bytes f.event.buf next.next.store f.event.step f.event.answer other at.of_file
      (answers_by m n f.event.actor f.bytes f.event.buf next.next.store at.runs f.event.step (answered_by f.event.answer f.event.buf) to.legal) next.next.chain

  pub at_store : IsAt (IsIn among) n.store (stored_in n.now) (state new)
  at_store = subst (λ (stored : Stored). IsAt (IsIn among) n.store stored (state new)) comes.now
      (subst (λ (store : Store). IsAt (IsIn among) store (stored_by f (stored_in m.now)) (state new)) comes.store next.next.is_at)

-- Actors that read go on reading the same where a step neither opens a file nor reads on: in a core, and in a machine of files.
use Rattle.core_machine.proofs.Prelude.{◌≡◌, inl, inr, ℕ, zero, suc, List, [], ◌∷◌, slice_set, Result, Ok, Err, ap, subst, Reader, Answer, StepValue, Refusal, Row, CoreState, Asked, FileMachine, Answers, Reading, part_in, of_files, FilePart, answered_by, asked_as}
use Rattle.std.proofs.Common.{slice_index_or}
use Rattle.actor_parts.specs.declared.part.Part as core_part
use Rattle.actor_parts.specs.declared.part.Part.TheVariants as core
use Rattle.actor_parts.specs.declared.step.Answer.TheVariants as answers
use Rattle.actor_parts.specs.Parts.{part_of, with_part}
use Rattle.actor_parts.specs.StepValue as steps
use Rattle.refusals.specs.declared.refusal.Refusal.TheVariants as refusals
use Rattle.std.specs.Prelude.{take}
use Rattle.container_meta.specs.Segments.{Contents}
use Rattle.store_machine.specs.Machine.{Idle, Writing}
use Rattle.store_machine.specs.Needs.{with_pins}
use Rattle.store_machine.specs.Offers.{AddsContainers}
use Rattle.core_machine.proofs.RefusedSteps.{IsNoRead, refused_left}

-- it opens no file, and reads none on
abbrev pub IsElse : StepValue → Type 0
IsElse (steps.OpenRead name) = ⊥
IsElse steps.ReadNext = ⊥
IsElse step = Unit {0}

-- ---- one is put at something that it doesn't read

core_set : (ps : List core_part.Part) (a : ℕ) (q : core_part.Part) → ((reader : Reader) → q ≡ core.Reading reader → ⊥) → (x : ℕ) (reader : Reader)
    → part_of (with_part ps a q) x ≡ core.Reading reader
    → part_of ps x ≡ core.Reading reader
unfolding part_of with_part
core_set [] a q none x reader is = is
core_set (p ∷ ps) zero q none zero reader is = absurd (none reader is)
core_set (p ∷ ps) zero q none (suc x) reader is = is
core_set (p ∷ ps) (suc a) q none zero reader is = is
core_set (p ∷ ps) (suc a) q none (suc x) reader is = core_set ps a q none x reader is

file_set : (ps : List FilePart) (a : ℕ) (p : FilePart) → ((file : List ℕ) (rest : List (List ℕ)) → p ≡ Reading file rest → ⊥) → (x : ℕ) (file : List ℕ) (rest : List (List ℕ))
    → slice_index_or (slice_set ps a p) x Idle ≡ Reading file rest → slice_index_or ps x Idle ≡ Reading file rest
file_set [] a p none x file rest is = is
file_set (q ∷ ps) zero p none zero file rest is = absurd (none file rest is)
file_set (q ∷ ps) zero p none (suc x) file rest is = is
file_set (q ∷ ps) (suc a) p none zero file rest is = is
file_set (q ∷ ps) (suc a) p none (suc x) file rest is = file_set ps a p none x file rest is

-- ---- in a core

module _ (old new : CoreState) (a : ℕ) (buf : List ℕ) (x : ℕ) (reader : Reader) (reads : part_of new.parts x ≡ core.Reading reader) where
  abbrev Read : Type 0
  Read = part_of old.parts x ≡ core.Reading reader

  same : new.parts ≡ old.parts → Read
  same is = subst (λ (ps : List core_part.Part). part_of ps x ≡ core.Reading reader) is reads

  put : (q : core_part.Part) → ((other : Reader) → q ≡ core.Reading other → ⊥) → new.parts ≡ with_part old.parts a q → Read
  put q none is = core_set old.parts a q none x reader (subst (λ (ps : List core_part.Part). part_of ps x ≡ core.Reading reader) is reads)

  pub core_kept : (step : StepValue) (answer : Result Answer Refusal) → IsElse step → Row step a answer buf old new → Read
  core_kept steps.Begin (Ok answers.Begun) other row = put _ (λ r is. cc) row.1
  core_kept steps.Begin (Err refusal) other row = same row.1
  core_kept (steps.Claim seg) (Ok answers.Held) other row = put _ (λ r is. cc) row.claimed.parts_are
  core_kept (steps.Claim seg) (Ok answers.Absent) other row = same row.claimed.parts_are
  core_kept (steps.Claim seg) (Err refusal) other row = same row.1
  core_kept (steps.Seal offered) (Ok (answers.Sealed id count)) other row = put _ (λ r is. cc) row.parts_are
  core_kept (steps.Seal offered) (Err refusal) other row = same row.1
  core_kept (steps.Commit name root) (Ok (answers.Committed sequence)) other row = put core.Idle (λ r is. cc) row.2
  core_kept (steps.Commit name root) (Err refusal) other row = same row.1
  core_kept steps.Abort (Ok answers.Aborted) other row = put core.Idle (λ r is. cc) row.1
  core_kept steps.Abort (Err refusal) other row = same row.1
  core_kept (steps.OpenRead name) answer other row = absurd other
  core_kept steps.ReadNext answer other row = absurd other
  core_kept steps.EndRead (Ok answers.Dropped) other row = put core.Idle (λ r is. cc) row.parts_are
  core_kept steps.EndRead (Err (refusals.WrongPart kind)) other row = same row.same
  core_kept (steps.Delete name) (Ok (answers.Deleted sequence)) other row = same row.2
  core_kept (steps.Delete name) (Err refusal) other row = same row.1
  core_kept steps.ListNames (Ok (answers.Listed files)) other row = same row.1
  core_kept steps.ListNames (Err refusals.Memory) other row = same row
  core_kept (steps.GcStart percent) (Ok (answers.Started snapshot)) other row = same row.1
  core_kept (steps.GcStart percent) (Err (refusals.Collecting phase)) other row = same row.2
  core_kept (steps.GcStart percent) (Err refusal) other row = same row.parts_are
  core_kept steps.GcStep (Ok (answers.Did phase)) other row = same row.1
  core_kept steps.GcStep (Ok (answers.Done freed copied)) other row = same row.1
  core_kept steps.GcStep (Err refusals.NotCollecting) other row = same row.1
  core_kept steps.GcStep (Err refusal) other row = same row.1
  core_kept steps.Stat (Ok answer) other row = same row.1
  core_kept steps.Unique (Ok (answers.Unique segments bytes)) other row = same row.parts_are
  core_kept steps.Unique (Err refusal) other row = same row.parts_are
  core_kept step answer other row = absurd row

-- ---- in a machine of files

pub parts_as : {n k : FileMachine} → n ≡ k → n.parts ≡ k.parts
parts_as is = ap (λ (x : FileMachine). x.parts) is

-- before containers were added it was read, too
read_before : (a x : ℕ) (file : List ℕ) (rest : List (List ℕ)) (cs : List Contents) (m n : FileMachine) → AddsContainers a cs m n → part_in n x ≡ Reading file rest
    → part_in m x ≡ Reading file rest
read_before a x file rest [] m n is reads = subst (λ (k : FileMachine). part_in k x ≡ Reading file rest) is reads
read_before a x file rest (c ∷ cs) m n (mid, one, later) reads =
    file_set m.parts a (Writing (with_pins c.kind c.segments one.pins)) (λ f l no. cc) x file rest
    (subst (λ (ps : List FilePart). slice_index_or ps x Idle ≡ Reading file rest) (parts_as one.others) (read_before a x file rest cs mid n later reads))

module _ (m n : FileMachine) (a : ℕ) (bytes buf : List ℕ) (x : ℕ) (file : List ℕ) (rest : List (List ℕ)) (reads : part_in n x ≡ Reading file rest) where
  abbrev IsRead : Type 0
  IsRead = part_in m x ≡ Reading file rest

  abbrev ask : StepValue → Asked (List ℕ)
  ask step = asked_as (λ root. bytes) step

  stays : n.parts ≡ m.parts → IsRead
  stays is = subst (λ (ps : List FilePart). slice_index_or ps x Idle ≡ Reading file rest) is reads

  put_at_other : (p : FilePart) → ((other : List ℕ) (left : List (List ℕ)) → p ≡ Reading other left → ⊥) → n.parts ≡ slice_set m.parts a p → IsRead
  put_at_other p none is = file_set m.parts a p none x file rest (subst (λ (ps : List FilePart). slice_index_or ps x Idle ≡ Reading file rest) is reads)

  no_read : (step : StepValue) → IsElse step → IsNoRead (ask step)
  no_read (steps.OpenRead name) other = absurd other
  no_read steps.ReadNext other = absurd other
  no_read it other = tt

  refused : (step : StepValue) (refusal : Refusal) → IsElse step → Answers of_files a (ask step) (Err refusal) m n → IsRead
  refused step refusal other is = elim (refused_left of_files m n a (ask step) refusal (no_read step other) is) [
    | inl same ↦ stays (parts_as same)
    | inr stopped ↦ stays (parts_as stopped.2)
  ]

  pub file_kept : (step : StepValue) (answer : Result Answer Refusal) → IsElse step → Answers of_files a (ask step) (answered_by answer buf) m n → IsRead
  file_kept step (Err refusal) other is = refused step refusal other is
  file_kept steps.Begin (Ok answers.Begun) other is = put_at_other _ (λ f l no. cc) (parts_as is.1)
  file_kept (steps.Claim seg) (Ok answers.Held) other is = put_at_other _ (λ f l no. cc) (parts_as is.others)
  file_kept (steps.Claim seg) (Ok answers.Absent) other is = stays (parts_as is.2)
  file_kept (steps.Seal offered) (Ok (answers.Sealed id count)) other is = read_before a x file rest (take count offered) m n is.adds reads
  file_kept (steps.Commit name root) (Ok (answers.Committed sequence)) other is = put_at_other Idle (λ f l no. cc) (parts_as is.others)
  file_kept steps.Abort (Ok answers.Aborted) other is = put_at_other Idle (λ f l no. cc) (parts_as is.1)
  file_kept (steps.OpenRead name) (Ok answer) other is = absurd other
  file_kept steps.ReadNext (Ok answer) other is = absurd other
  file_kept steps.EndRead (Ok answers.Dropped) other is = put_at_other Idle (λ f l no. cc) (parts_as is.1)
  file_kept (steps.Delete name) (Ok (answers.Deleted sequence)) other is = stays (parts_as is.others)
  file_kept steps.ListNames (Ok (answers.Listed files)) other is = stays (parts_as is.1)
  file_kept (steps.GcStart percent) (Ok (answers.Started snapshot)) other is = stays (parts_as is.2)
  file_kept steps.GcStep (Ok (answers.Did phase)) other is = stays (parts_as is.others)
  file_kept steps.GcStep (Ok (answers.Done freed copied)) other is = stays (parts_as is.others)
  file_kept steps.Stat (Ok (answers.Stat files segments count used free)) other is = stays (parts_as is.1)
  file_kept steps.Unique (Ok (answers.Unique segments count)) other is = stays (parts_as is.1)
  file_kept step answer other is = absurd is

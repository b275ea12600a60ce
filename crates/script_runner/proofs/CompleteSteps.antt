-- Why a step of a machine that runs is refused, where no call of the disk fails and nothing clashes; and that it runs on.
use Rattle.script_runner.proofs.Prelude.{◌≡◌, ◌⊎◌, inl, inr, ◌∙◌, ℕ, List, [], ◌∷◌, Result, Ok, Err, refl, ap, subst, Contents, KindSegment, Difference, Refusal, Asked, FileMachine, HasSegment, Answers, ByState, Legal, RunState, Running, of_files, IsNoOpening, ClashesWith, IsLeft, IsUnblamed}
use Rattle.std.proofs.Common.{suc, take, zero}
use Rattle.refusals.specs.declared.refusal.Refusal.TheVariants as refusals
use Rattle.script_lines.specs.ReplyValue as replies
use Rattle.store_machine.specs.Asked as asked
use Rattle.store_machine.specs.Done.{Done}
use Rattle.store_machine.specs.Done as done
use Rattle.store_machine.specs.Legal.{Does, Refuses, RefusesClaim, RefusesCommit, RefusesDelete, RefusesGcStep, RefusesOn, RefusesSeal, RefusesUnique}
use Rattle.store_machine.specs.Offers.{AnyByRecursion}
use Rattle.store_machine.specs.Opening.{MayRefuseOpening}
use Rattle.store_machine.specs.Values.{StaysAt}
use Rattle.store_machine.proofs.Added.{each_added}
use Rattle.store_machine.proofs.Writers.{by_state}
use Rattle.core_machine.specs.Bytes.{BytesOf, OneClashes}

-- ---- a step that is done

pub does_run : (a : ℕ) (step : Asked (List ℕ)) (answer : Done) (m n : FileMachine) → IsNoOpening of_files step → m.state ≡ Running
    → Does of_files a step answer m n → n.state ≡ Running
does_run a asked.Begin done.Begun m n none runs (was, others) = ap (λ (x : FileMachine). x.state) others ∙ runs
does_run a (asked.Claim seg) done.Held m n none runs does = ap (λ (x : FileMachine). x.state) does.others ∙ runs
does_run a (asked.Claim seg) done.Absent m n none runs (keeps, lacks, others) = ap (λ (x : FileMachine). x.state) others ∙ runs
does_run a (asked.Seal offered) (done.Sealed id count) m n none runs does =
    each_added a (λ (x : FileMachine). x.state ≡ Running) (λ c k l one up. ap (λ (x : FileMachine). x.state) one.others ∙ up) (take count offered) m n does.adds runs
does_run a (asked.Commit name value) (done.Committed sequence) m n none runs does = ap (λ (x : FileMachine). x.state) does.others ∙ runs
does_run a asked.Abort done.Aborted m n none runs (kind, others) = ap (λ (x : FileMachine). x.state) others ∙ runs
does_run a (asked.OpenRead name) (done.Opened count) m n none runs (named, was, (value, rest, got, starts, counts, others)) = ap (λ (x : FileMachine). x.state) others ∙ runs
does_run a asked.ReadNext (done.Bytes bytes) m n none runs (value, rest, after, was, gives, others) = ap (λ (x : FileMachine). x.state) others ∙ runs
does_run a asked.ReadNext done.End m n none runs (value, rest, was, ends, others) = ap (λ (x : FileMachine). x.state) others ∙ runs
does_run a asked.EndRead done.Dropped m n none runs (kind, others) = ap (λ (x : FileMachine). x.state) others ∙ runs
does_run a (asked.Delete name) (done.Deleted sequence) m n none runs does = ap (λ (x : FileMachine). x.state) does.others ∙ runs
does_run a asked.ListNames (done.Listed files) m n none runs (is, others) = ap (λ (x : FileMachine). x.state) others ∙ runs
does_run a (asked.GcStart percent) (done.Started snapshot) m n none runs (nothing, is, others) = ap (λ (x : FileMachine). x.state) others ∙ runs
does_run a asked.GcStep (done.Did phase) m n none runs does = ap (λ (x : FileMachine). x.state) does.others ∙ runs
does_run a asked.GcStep (done.Collected freed copied) m n none runs does = ap (λ (x : FileMachine). x.state) does.others ∙ runs
does_run a asked.Stat (done.Counted files segments bytes used free) m n none runs (is, others) = ap (λ (x : FileMachine). x.state) others ∙ runs
does_run a asked.Unique (done.Unique segments bytes) m n none runs (is, others) = ap (λ (x : FileMachine). x.state) others ∙ runs
does_run a asked.Reopen answer m n none runs does = absurd none
does_run a other answer m n none runs does = absurd does

-- ---- one that is refused

-- by what is left, or since a segment lacks a pin; and it runs on
abbrev pub Left : Refusal → FileMachine → Type 0
Left refusal n = (IsLeft refusal ⊎ ((key : List ℕ) × (refusal ≡ refusals.Unpinned key))) × (n.state ≡ Running)

-- no segment that the step has clashes with what is held
abbrev pub NoClash : Asked (List ℕ) → List ℕ → Type 0
NoClash step content = (seg : KindSegment) (key : List ℕ) (at : Difference) → HasSegment step seg → ClashesWith seg content key at → ⊥

-- so none of the containers that are sealed has one
none_clashes : (content key : List ℕ) (at : Difference) (cs : List Contents) (k : ℕ) → NoClash (asked.Seal cs) content
    → AnyByRecursion (λ c. OneClashes c content key at) (take k cs) → ⊥
none_clashes content key at cs zero clear none = none
none_clashes content key at [] (suc k) clear none = none
none_clashes content key at (c ∷ cs) (suc k) clear (inl one) =
    clear (record { kind = c.kind; segment = one.1.0 }) key at (inl (refl, (one.0, one.1.1.0))) one.1.1.1
none_clashes content key at (c ∷ cs) (suc k) clear (inr more) =
    none_clashes content key at cs k (λ seg other differs has clash. clear seg other differs (inr has) clash) more

module _ (m n : FileMachine) (runs : m.state ≡ Running) where
  still : n ≡ m → n.state ≡ Running
  still is = ap (λ (x : FileMachine). x.state) is ∙ runs

  module _ (old new : List ℕ) where
    claim_left : (a : ℕ) (seg : KindSegment) (refusal : Refusal) → RefusesClaim of_files a seg refusal m n → BytesOf (asked.Claim seg) (Err refusal) m n old new
        → IsUnblamed (replies.Refused refusal) → NoClash (asked.Claim seg) old → Left refusal n
    claim_left a seg (refusals.Unpinned key) (is, others) bytes calm clear = (inr (key, refl), still others)
    claim_left a seg refusals.Memory others bytes calm clear = (inl tt, still others)
    claim_left a seg refusals.DiskRead refuses bytes calm clear = absurd calm
    claim_left a seg (refusals.Clash key at) refuses bytes calm clear = absurd (clear seg key at refl bytes.1)
    claim_left a seg (refusals.Corrupt slot offset count want got) (keeps, (unknown, others)) bytes calm clear = absurd (unknown tt)
    claim_left a seg refusal refuses bytes calm clear = absurd refuses

    seal_left : (a : ℕ) (offered : List Contents) (refusal : Refusal) → RefusesSeal of_files a offered refusal m n → BytesOf (asked.Seal offered) (Err refusal) m n old new
        → IsUnblamed (replies.Refused refusal) → NoClash (asked.Seal offered) old → Left refusal n
    seal_left a offered refusals.Memory others bytes calm clear = (inl tt, still others)
    seal_left a offered (refusals.Unpinned key) (is, others) bytes calm clear = (inr (key, refl), still others)
    seal_left a offered (refusals.Full free) (keeps, is, few, others) bytes calm clear = (inl few, still others)
    seal_left a offered refusals.Numbers (slot, none, others) bytes calm clear = (inl tt, still others)
    seal_left a offered refusals.DiskRead refuses bytes calm clear = absurd calm
    seal_left a offered (refusals.Clash key at) refuses bytes calm clear =
        absurd (none_clashes old key at offered _ clear bytes.1)
    seal_left a offered (refusals.Corrupt at offset count want got) (slot, (unknown, others)) bytes calm clear = absurd (unknown tt)
    seal_left a offered refusals.DiskWrite refuses bytes calm clear = absurd calm
    seal_left a offered refusal refuses bytes calm clear = absurd refuses

    commit_left : (a : ℕ) (name value : List ℕ) (refusal : Refusal) → RefusesCommit of_files a name value refusal m n → IsUnblamed (replies.Refused refusal) → Left refusal n
    commit_left a name value refusals.Memory others calm = (inl tt, still others)
    commit_left a name value refusals.BadName (bad, others) calm = (inl tt, still others)
    commit_left a name value refusals.TooMany (named, none, many, others) calm = (inl tt, still others)
    commit_left a name value (refusals.Unpinned key) (named, room, is, pins, others) calm = (inr (key, refl), still others)
    commit_left a name value refusals.Numbers (may, none, others) calm = (inl tt, still others)
    commit_left a name value refusals.DiskWrite refuses calm = absurd calm
    commit_left a name value refusal refuses calm = absurd refuses

    delete_left : (name : List ℕ) (refusal : Refusal) → RefusesDelete of_files name refusal m n → IsUnblamed (replies.Refused refusal) → Left refusal n
    delete_left name refusals.Memory others calm = (inl tt, still others)
    delete_left name refusals.BadName (bad, others) calm = (inl tt, still others)
    delete_left name refusals.NoFile (named, none, others) calm = (inl tt, still others)
    delete_left name refusals.Numbers (named, there, none, others) calm = (inl tt, still others)
    delete_left name refusals.DiskWrite refuses calm = absurd calm
    delete_left name refusal refuses calm = absurd refuses

    collect_left : (refusal : Refusal) → RefusesGcStep of_files refusal m n → IsUnblamed (replies.Refused refusal) → Left refusal n
    collect_left refusals.NotCollecting (none, others) calm = (inl tt, still others)
    collect_left refusals.Memory (some, others) calm = (inl tt, still others)
    collect_left refusals.Numbers (is, none, others) calm = (inl tt, still others)
    collect_left refusals.DiskRead refuses calm = absurd calm
    collect_left refusals.DiskWrite refuses calm = absurd calm
    collect_left (refusals.Corrupt slot offset count want got) (some, (unknown, others)) calm = absurd (unknown tt)
    collect_left (refusals.Missing key) (some, (unknown, others)) calm = absurd (unknown tt)
    collect_left (refusals.Damaged at why) (some, (unknown, others)) calm = absurd (unknown tt)
    collect_left refusal refuses calm = absurd refuses

    unique_left : (refusal : Refusal) → RefusesUnique of_files refusal m n → IsUnblamed (replies.Refused refusal) → Left refusal n
    unique_left refusals.Memory others calm = (inl tt, still others)
    unique_left refusals.DiskRead others calm = absurd calm
    unique_left (refusals.Corrupt slot offset count want got) (unknown, others) calm = absurd (unknown tt)
    unique_left (refusals.Missing key) (unknown, others) calm = absurd (unknown tt)
    unique_left (refusals.Damaged at why) (unknown, others) calm = absurd (unknown tt)
    unique_left refusal refuses calm = absurd refuses

    reads_left : (rest after : List (List ℕ)) (refusal : Refusal) → StaysAt rest refusal after → IsUnblamed (replies.Refused refusal) → ⊥
    reads_left [] after refusal stays calm = stays
    reads_left (bytes ∷ rest) after refusals.DiskRead stays calm = calm
    reads_left (bytes ∷ rest) after refusal stays calm = stays

    on_left : (a : ℕ) (step : Asked (List ℕ)) (refusal : Refusal) → RefusesOn of_files a step refusal m n → BytesOf step (Err refusal) m n old new
        → IsUnblamed (replies.Refused refusal) → NoClash step old → Left refusal n
    on_left a (asked.Claim seg) refusal refuses bytes calm clear = claim_left a seg refusal refuses bytes calm clear
    on_left a (asked.Seal offered) refusal refuses bytes calm clear = seal_left a offered refusal refuses bytes calm clear
    on_left a (asked.Commit name value) refusal refuses bytes calm clear = commit_left a name value refusal refuses calm
    on_left a (asked.OpenRead name) refusals.Memory others bytes calm clear = (inl tt, still others)
    on_left a (asked.OpenRead name) refusals.BadName (bad, others) bytes calm clear = (inl tt, still others)
    on_left a (asked.OpenRead name) refusals.NoFile (named, none, others) bytes calm clear = (inl tt, still others)
    on_left a asked.ReadNext refusal (value, rest, after, was, stays, others) bytes calm clear = absurd (reads_left rest after refusal stays calm)
    on_left a (asked.Delete name) refusal refuses bytes calm clear = delete_left name refusal refuses calm
    on_left a asked.ListNames refusals.Memory others bytes calm clear = (inl tt, still others)
    on_left a (asked.GcStart percent) refusals.Memory (none, others) bytes calm clear = (inl tt, still others)
    on_left a (asked.GcStart percent) (refusals.Missing key) (none, (unknown, others)) bytes calm clear = absurd (unknown tt)
    on_left a (asked.GcStart percent) (refusals.Damaged at why) (none, (unknown, others)) bytes calm clear = absurd (unknown tt)
    on_left a (asked.GcStart percent) (refusals.Collecting phase) (is, others) bytes calm clear = (inl tt, still others)
    on_left a asked.GcStep refusal refuses bytes calm clear = collect_left refusal refuses calm
    on_left a asked.Unique refusal refuses bytes calm clear = unique_left refusal refuses calm
    on_left a step refusal refuses bytes calm clear = absurd refuses

    refused_left : (a : ℕ) (step : Asked (List ℕ)) (refusal : Refusal) → Refuses of_files a step refusal m n → BytesOf step (Err refusal) m n old new
        → IsUnblamed (replies.Refused refusal) → NoClash step old → Left refusal n
    refused_left a step (refusals.WrongPart kind) (wrong, others) bytes calm clear = (inl tt, still others)
    refused_left a step refusals.Memory on bytes calm clear = on_left a step refusals.Memory on bytes calm clear
    refused_left a step refusal (right, on) bytes calm clear = on_left a step refusal on bytes calm clear

    answers_of : (a : ℕ) (step : Asked (List ℕ)) (told : Result Done Refusal) → IsNoOpening of_files step
        → Legal of_files (record { actor = a; asked = step; answer = told }) m n → Answers of_files a step told m n
    answers_of a step told none legal = subst (λ (state : RunState (List ℕ)). ByState of_files state a step told m n) runs (by_state of_files a step told m n none legal)

    -- a step that was done, and one that was refused
    pub step_runs : (a : ℕ) (step : Asked (List ℕ)) (answer : Done) → IsNoOpening of_files step
        → Legal of_files (record { actor = a; asked = step; answer = Ok answer }) m n → n.state ≡ Running
    step_runs a step answer none legal = does_run a step answer m n none runs (answers_of a step (Ok answer) none legal)

    pub step_left : (a : ℕ) (step : Asked (List ℕ)) (refusal : Refusal) → IsNoOpening of_files step
        → Legal of_files (record { actor = a; asked = step; answer = Err refusal }) m n → BytesOf step (Err refusal) m n old new
        → IsUnblamed (replies.Refused refusal) → NoClash step old → Left refusal n
    step_left a step refusal none legal bytes calm clear = refused_left a step refusal (answers_of a step (Err refusal) none legal) bytes calm clear

-- ---- an opening

-- it is refused for want of memory alone
pub opening_left : (refusal : Refusal) → MayRefuseOpening of_files refusal → IsUnblamed (replies.Refused refusal) → refusal ≡ refusals.Memory
opening_left refusals.Memory may calm = refl
opening_left refusals.DiskRead may calm = absurd calm
opening_left refusals.DiskWrite may calm = absurd calm
opening_left (refusals.Full free) may calm = absurd (may tt)
opening_left (refusals.NotAStore gate magic) may calm = absurd (may tt)
opening_left (refusals.Version number) may calm = absurd (may tt)
opening_left (refusals.Damaged at why) may calm = absurd (may tt)
opening_left (refusals.WrongSize want got) may calm = absurd (may tt)
opening_left (refusals.Corrupt slot offset count want got) may calm = absurd (may tt)
opening_left (refusals.Missing key) may calm = absurd (may tt)
opening_left refusal may calm = absurd may

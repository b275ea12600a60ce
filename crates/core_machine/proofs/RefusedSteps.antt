-- A step that is refused leaves the machine as it is, or stops it; but for a read, before which nodes may be opened.
use Rattle.core_machine.proofs.Prelude.{◌≡◌, ◌⊎◌, inl, inr, ℕ, true, List, Option, Some, None, ap, subst, KindSegment, Root, Refusal, Store, CoreState, Asked, Refuses, RefusesClaim, RefusesCommit, RefusesDelete, RefusesGcStep, RefusesOn, RefusesSeal, RefusesUnique, FileMachine, SameState, Found, Machine, RunState, Running, Stopped, stopped, RootMachine, IsMachine, SameStop}
use Rattle.container_meta.specs.Segments.{Contents}
use Rattle.refusals.specs.declared.refusal.Refusal.TheVariants as refusals
use Rattle.store_machine.specs.Asked as asked
use Rattle.store_machine.specs.Forgetting.{Forgets}
use Rattle.store_machine.specs.Values.{Values}

abbrev pub IsNoRead : {V : Type 0} → Asked V → Type 0
IsNoRead asked.ReadNext = ⊥
IsNoRead step = Unit {0}

module _ {V R : Type 0} where
  abbrev pub IsLeft : Machine V R → Machine V R → Type 0
  IsLeft m n = (n ≡ m) ⊎ ((other : Option (Found V)) × (stores : List Store) × (n ≡ stopped other stores m))

  module _ (v : Values V R) (m n : Machine V R) where
    claim_left : (a : ℕ) (seg : KindSegment) (refusal : Refusal) → RefusesClaim v a seg refusal m n → IsLeft m n
    claim_left a seg (refusals.Unpinned key) is = inl is.1
    claim_left a seg refusals.Memory is = inl is
    claim_left a seg refusals.DiskRead is = inl is.1
    claim_left a seg (refusals.Clash key at) is = inl is.2
    claim_left a seg (refusals.Corrupt slot offset count want got) is = inl is.1.1
    claim_left a seg refusal is = absurd is

    seal_left : (a : ℕ) (offered : List Contents) (refusal : Refusal) → RefusesSeal v a offered refusal m n → IsLeft m n
    seal_left a offered refusals.Memory is = inl is
    seal_left a offered (refusals.Unpinned key) is = inl is.1
    seal_left a offered (refusals.Full free) is = inl is.3
    seal_left a offered refusals.Numbers is = inl is.2
    seal_left a offered refusals.DiskRead is = inl is.1
    seal_left a offered (refusals.Clash key at) is = inl is.2
    seal_left a offered (refusals.Corrupt slot offset count want got) is = inl is.1.1
    seal_left a offered refusals.DiskWrite is = inr (_, _, is.2)
    seal_left a offered refusal is = absurd is

    commit_left : (a : ℕ) (name : List ℕ) (value : V) (refusal : Refusal) → RefusesCommit v a name value refusal m n → IsLeft m n
    commit_left a name value refusals.Memory is = inl is
    commit_left a name value refusals.BadName is = inl is.1
    commit_left a name value refusals.TooMany is = inl is.3
    commit_left a name value (refusals.Unpinned key) is = inl is.4
    commit_left a name value refusals.Numbers is = inl is.2
    commit_left a name value refusals.DiskWrite is = inr (_, _, is.4)
    commit_left a name value refusal is = absurd is

    delete_left : (name : List ℕ) (refusal : Refusal) → RefusesDelete v name refusal m n → IsLeft m n
    delete_left name refusals.Memory is = inl is
    delete_left name refusals.BadName is = inl is.1
    delete_left name refusals.NoFile is = inl is.2
    delete_left name refusals.Numbers is = inl is.3
    delete_left name refusals.DiskWrite is = inr (_, _, is.3)
    delete_left name refusal is = absurd is

    gc_left : (refusal : Refusal) → RefusesGcStep v refusal m n → IsLeft m n
    gc_left refusals.NotCollecting is = inl is.1
    gc_left refusals.Memory is = inl is.1
    gc_left refusals.Numbers is = inl is.2
    gc_left refusals.DiskRead is = inl is.1
    gc_left refusals.DiskWrite is = inr (_, _, is.2)
    gc_left (refusals.Corrupt slot offset count want got) is = inl is.1.1
    gc_left (refusals.Missing key) is = inl is.1.1
    gc_left (refusals.Damaged at why) is = inl is.1.1
    gc_left refusal is = absurd is

    unique_left : (refusal : Refusal) → RefusesUnique v refusal m n → IsLeft m n
    unique_left refusals.Memory is = inl is
    unique_left refusals.DiskRead is = inl is
    unique_left (refusals.Corrupt slot offset count want got) is = inl is.1
    unique_left (refusals.Missing key) is = inl is.1
    unique_left (refusals.Damaged at why) is = inl is.1
    unique_left refusal is = absurd is

    on_left : (a : ℕ) (step : Asked V) (refusal : Refusal) → IsNoRead step → RefusesOn v a step refusal m n → IsLeft m n
    on_left a (asked.Claim seg) refusal other is = claim_left a seg refusal is
    on_left a (asked.Seal offered) refusal other is = seal_left a offered refusal is
    on_left a (asked.Commit name value) refusal other is = commit_left a name value refusal is
    on_left a (asked.Delete name) refusal other is = delete_left name refusal is
    on_left a (asked.OpenRead name) refusals.Memory other is = inl is
    on_left a (asked.OpenRead name) refusals.BadName other is = inl is.1
    on_left a (asked.OpenRead name) refusals.NoFile other is = inl is.2
    on_left a asked.ListNames refusals.Memory other is = inl is
    on_left a (asked.GcStart percent) refusals.Memory other is = inl is.1
    on_left a (asked.GcStart percent) (refusals.Missing key) other is = inl is.1.1
    on_left a (asked.GcStart percent) (refusals.Damaged at why) other is = inl is.1.1
    on_left a (asked.GcStart percent) (refusals.Collecting phase) other is = inl is.1
    on_left a asked.GcStep refusal other is = gc_left refusal is
    on_left a asked.Unique refusal other is = unique_left refusal is
    on_left a asked.ReadNext refusal other is = absurd other
    on_left a step refusal other is = absurd is

    pub refused_left : (a : ℕ) (step : Asked V) (refusal : Refusal) → IsNoRead step → Refuses v a step refusal m n → IsLeft m n
    refused_left a step (refusals.WrongPart kind) other is = inl is.1
    refused_left a step refusals.Memory other is = on_left a step refusals.Memory other is
    refused_left a step refusal other is = on_left a step refusal other is.1

-- where the core is at a machine that goes on, it is the machine as it was
pub left_same : (m n : FileMachine) (t : RootMachine) (c : CoreState) → IsLeft m n → Forgets n t → IsMachine true t c → c.stop ≡ None → n ≡ m
left_same m n t c (inl same) forgets machine stays = same
left_same m n t c (inr stopped_so) forgets machine stays =
    absurd (none_stopped stopped_so.0 stopped_so.1 t.state t.acknowledged
    (subst (λ (s : RunState (List ℕ)). SameState s t.state) (ap (λ (k : FileMachine). k.state) stopped_so.2) forgets.state)
    (subst (SameStop t.acknowledged t.state) stays machine.state))
  where
    none_stopped : (other : Option (Found (List ℕ))) (stores : List Store) (s : RunState Root) (count : ℕ) → SameState (Stopped other stores) s → SameStop count s None → ⊥
    none_stopped None stores Running count same_state goes = same_state
    none_stopped (Some found) stores Running count same_state goes = same_state
    none_stopped other stores (Stopped mine others) count same_state goes = goes

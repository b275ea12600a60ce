-- What steps leave of what actors are at that write.
use Rattle.store_machine.proofs.Prelude.{◌≡◌, ◌≢◌, ◌⊎◌, ◌<◌, inl, inr, ◌∙◌, ℕ, zero, suc, length, slice_index_or, slice_set, Option, Some, None, Result, Ok, Err, refl, sym, ap, subst, arith, cases_lt, get_or-set_other, get_or_past, length-set, PinMap, KindSegment, Refusal, Store, Asked, Done, ByState, Does, Legal, Refuses, RefusesClaim, RefusesCommit, RefusesDelete, RefusesGcStep, RefusesOn, RefusesSeal, RefusesUnique, Found, Machine, Part, Idle, Writing, Reading, RunState, Running, Stopped, kind_of, part_in, Values}
use Rattle.std.proofs.Common.{List}
use Rattle.std.specs.FinMap as finite
use Rattle.std.proofs.lemmas.List.{get_or-set_same}
use Rattle.container_meta.specs.Segments.{Contents}
use Rattle.refusals.specs.declared.refusal.PartKind.TheVariants as kinds
use Rattle.refusals.specs.declared.refusal.Refusal.TheVariants as refusals
use Rattle.store_machine.specs.Asked as asked
use Rattle.store_machine.specs.Done as done

-- ---- numbers, and lists with an item for each actor

pub same_or_not : (a b : ℕ) → (a ≡ b) ⊎ (a ≢ b)
same_or_not zero zero = inl refl
same_or_not (suc a) (suc b) = elim (same_or_not a b) [ inl is ↦ inl (ap suc is) | inr not ↦ inr (λ is. not (omega (arith, is))) ]
same_or_not other it = inr (λ is. omega (arith, is))

-- what is found there has a place, and is what was set
pub within : {T : Type 0} (xs : List (Option T)) (a : ℕ) (x : T) → slice_index_or xs a None ≡ Some x → a < length xs
within xs a x is = elim (cases_lt a (length xs)) [
  | inl below ↦ below
  | inr past ↦ absurd (let wrong : None ≡ Some x = sym (get_or_past xs a None past) ∙ is in cc)
]

pub was_set : {T : Type 0} (xs : List (Option T)) (a : ℕ) (o : Option T) (x : T) → slice_index_or (slice_set xs a o) a None ≡ Some x → o ≡ Some x
was_set xs a o x is =
    let below : a < length (slice_set xs a o) = within (slice_set xs a o) a x is in
    sym (get_or-set_same xs a o None (subst (λ (n : ℕ). a < n) (length-set xs a o) below)) ∙ is

module _ {V R : Type 0} where
  -- ---- what a step may leave

  -- the parts are as they were, or the actor wrote nothing, and is at something else
  abbrev pub Apart : ℕ → Machine V R → Machine V R → Type 0
  Apart a m n = (n.parts ≡ m.parts) ⊎ ((q : Part V R) × (n.parts ≡ slice_set m.parts a q) × ((pins : PinMap) → part_in m a ≡ Writing pins → ⊥))

  -- who wrote writes, and keeps the same
  pub record KeepsWriters (m n : Machine V R) : Type 0 where
    pub many : length n.parts ≡ length m.parts
    pub each : (b : ℕ) (pins : PinMap) → part_in m b ≡ Writing pins → part_in n b ≡ Writing pins

  -- so do all but one actor, of whom this is so
  pub record PutsPart (a : ℕ) (q : Part V R) (m n : Machine V R) : Type 0 where
    pub many : length n.parts ≡ length m.parts
    pub here : a < length m.parts → part_in n a ≡ q
    pub others : (b : ℕ) → b ≢ a → part_in n b ≡ part_in m b

  pub puts : (a : ℕ) (q : Part V R) (m n : Machine V R) → n.parts ≡ slice_set m.parts a q → PutsPart a q m n
  puts a q m n is = record {
    many = ap length is ∙ length-set m.parts a q;
    here = λ below. ap (λ (ps : List (Part V R)). slice_index_or ps a Idle) is ∙ get_or-set_same m.parts a q Idle below;
    others = λ b differ. ap (λ (ps : List (Part V R)). slice_index_or ps b Idle) is ∙ get_or-set_other m.parts a b q Idle differ;
  }

  same_writers : (m n : Machine V R) → n.parts ≡ m.parts → KeepsWriters m n
  same_writers m n is = record { many = ap length is; each = λ b pins was. ap (λ (ps : List (Part V R)). slice_index_or ps b Idle) is ∙ was }

  pub apart_writers : (a : ℕ) (m n : Machine V R) → Apart a m n → KeepsWriters m n
  apart_writers a m n (inl is) = same_writers m n is
  apart_writers a m n (inr (q, is, none)) =
      let put = puts a q m n is in
      record {
        many = put.many;
        each = λ b pins was. elim (same_or_not b a) [
          | inl own ↦ absurd (none pins (subst (λ (x : ℕ). part_in m x ≡ Writing pins) own was))
          | inr other ↦ put.others b other ∙ was
        ];
      }

  pub writers_on : (m k n : Machine V R) → KeepsWriters m k → KeepsWriters k n → KeepsWriters m n
  writers_on m k n one two = record { many = two.many ∙ one.many; each = λ b pins was. two.each b pins (one.each b pins was) }

  pub writers_here : (m n : Machine V R) → n ≡ m → KeepsWriters m n
  writers_here m n is = same_writers m n (ap (λ (x : Machine V R). x.parts) is)

  still : (a : ℕ) (m n : Machine V R) → n ≡ m → Apart a m n
  still a m n is = inl (ap (λ (x : Machine V R). x.parts) is)

  stopped : (a : ℕ) (other : Option (Found V)) (stores : List Store) (m n : Machine V R) → n ≡ record m { state = Stopped other stores } → Apart a m n
  stopped a other stores m n is = inl (ap (λ (x : Machine V R). x.parts) is)

  module _ (v : Values V R) where
    -- ---- refused

    claim_apart : (a : ℕ) (seg : KindSegment) (refusal : Refusal) (m n : Machine V R) → RefusesClaim v a seg refusal m n → Apart a m n
    claim_apart a seg (refusals.Unpinned key) m n (is, others) = still a m n others
    claim_apart a seg refusals.Memory m n others = still a m n others
    claim_apart a seg refusals.DiskRead m n (keeps, others) = still a m n others
    claim_apart a seg (refusals.Clash key at) m n (keeps, known, others) = still a m n others
    claim_apart a seg (refusals.Corrupt slot offset count want got) m n (keeps, (unknown, others)) = still a m n others
    claim_apart a seg refusal m n refuses = absurd refuses

    seal_apart : (a : ℕ) (offered : List Contents) (refusal : Refusal) (m n : Machine V R) → RefusesSeal v a offered refusal m n → Apart a m n
    seal_apart a offered refusals.Memory m n others = still a m n others
    seal_apart a offered (refusals.Unpinned key) m n (is, others) = still a m n others
    seal_apart a offered (refusals.Full free) m n (keeps, is, few, others) = still a m n others
    seal_apart a offered refusals.Numbers m n (slot, none, others) = still a m n others
    seal_apart a offered refusals.DiskRead m n (slot, others) = still a m n others
    seal_apart a offered (refusals.Clash key at) m n (slot, known, others) = still a m n others
    seal_apart a offered (refusals.Corrupt at offset count want got) m n (slot, (unknown, others)) = still a m n others
    seal_apart a offered refusals.DiskWrite m n (slot, fits, others) = stopped a None _ m n others
    seal_apart a offered refusal m n refuses = absurd refuses

    commit_apart : (a : ℕ) (name : List ℕ) (value : V) (refusal : Refusal) (m n : Machine V R) → RefusesCommit v a name value refusal m n → Apart a m n
    commit_apart a name value refusals.Memory m n others = still a m n others
    commit_apart a name value refusals.BadName m n (bad, others) = still a m n others
    commit_apart a name value refusals.TooMany m n (named, none, many, others) = still a m n others
    commit_apart a name value (refusals.Unpinned key) m n (named, room, is, pins, others) = still a m n others
    commit_apart a name value refusals.Numbers m n (may, none, others) = still a m n others
    commit_apart a name value refusals.DiskWrite m n (may, has, right, whole, others) = stopped a _ _ m n others
    commit_apart a name value refusal m n refuses = absurd refuses

    delete_apart : (a : ℕ) (name : List ℕ) (refusal : Refusal) (m n : Machine V R) → RefusesDelete v name refusal m n → Apart a m n
    delete_apart a name refusals.Memory m n others = still a m n others
    delete_apart a name refusals.BadName m n (bad, others) = still a m n others
    delete_apart a name refusals.NoFile m n (named, none, others) = still a m n others
    delete_apart a name refusals.Numbers m n (named, there, none, others) = still a m n others
    delete_apart a name refusals.DiskWrite m n (named, there, has, others) = stopped a _ _ m n others
    delete_apart a name refusal m n refuses = absurd refuses

    collect_apart : (a : ℕ) (refusal : Refusal) (m n : Machine V R) → RefusesGcStep v refusal m n → Apart a m n
    collect_apart a refusals.NotCollecting m n (none, others) = still a m n others
    collect_apart a refusals.Memory m n (some, others) = still a m n others
    collect_apart a refusals.Numbers m n (is, none, others) = still a m n others
    collect_apart a refusals.DiskRead m n (is, others) = still a m n others
    collect_apart a refusals.DiskWrite m n (stores, is, others) = stopped a None stores m n others
    collect_apart a (refusals.Corrupt slot offset count want got) m n (some, (unknown, others)) = still a m n others
    collect_apart a (refusals.Missing key) m n (some, (unknown, others)) = still a m n others
    collect_apart a (refusals.Damaged at why) m n (some, (unknown, others)) = still a m n others
    collect_apart a refusal m n refuses = absurd refuses

    count_apart : (a : ℕ) (refusal : Refusal) (m n : Machine V R) → RefusesUnique v refusal m n → Apart a m n
    count_apart a refusals.Memory m n others = still a m n others
    count_apart a refusals.DiskRead m n others = still a m n others
    count_apart a (refusals.Corrupt slot offset count want got) m n (unknown, others) = still a m n others
    count_apart a (refusals.Missing key) m n (unknown, others) = still a m n others
    count_apart a (refusals.Damaged at why) m n (unknown, others) = still a m n others
    count_apart a refusal m n refuses = absurd refuses

    reads_none : (a : ℕ) (m : Machine V R) (value : V) (rest : R) → part_in m a ≡ Reading value rest → (pins : PinMap) → part_in m a ≡ Writing pins → ⊥
    reads_none a m value rest was pins writes = let wrong : Reading value rest ≡ Writing pins = sym was ∙ writes in cc

    on_apart : (a : ℕ) (step : Asked V) (refusal : Refusal) (m n : Machine V R) → RefusesOn v a step refusal m n → Apart a m n
    on_apart a (asked.Claim seg) refusal m n refuses = claim_apart a seg refusal m n refuses
    on_apart a (asked.Seal offered) refusal m n refuses = seal_apart a offered refusal m n refuses
    on_apart a (asked.Commit name value) refusal m n refuses = commit_apart a name value refusal m n refuses
    on_apart a (asked.OpenRead name) refusals.Memory m n others = still a m n others
    on_apart a (asked.OpenRead name) refusals.BadName m n (bad, others) = still a m n others
    on_apart a (asked.OpenRead name) refusals.NoFile m n (named, none, others) = still a m n others
    on_apart a asked.ReadNext refusal m n (value, rest, after, was, stays, others) =
        inr (Reading value after, ap (λ (x : Machine V R). x.parts) others, reads_none a m value rest was)
    on_apart a (asked.Delete name) refusal m n refuses = delete_apart a name refusal m n refuses
    on_apart a asked.ListNames refusals.Memory m n others = still a m n others
    on_apart a (asked.GcStart percent) refusals.Memory m n (none, others) = still a m n others
    on_apart a (asked.GcStart percent) (refusals.Missing key) m n (none, (unknown, others)) = still a m n others
    on_apart a (asked.GcStart percent) (refusals.Damaged at why) m n (none, (unknown, others)) = still a m n others
    on_apart a (asked.GcStart percent) (refusals.Collecting phase) m n (is, others) = still a m n others
    on_apart a asked.GcStep refusal m n refuses = collect_apart a refusal m n refuses
    on_apart a asked.Unique refusal m n refuses = count_apart a refusal m n refuses
    on_apart a step refusal m n refuses = absurd refuses

    pub refused_apart : (a : ℕ) (step : Asked V) (refusal : Refusal) (m n : Machine V R) → Refuses v a step refusal m n → Apart a m n
    refused_apart a step (refusals.WrongPart kind) m n (wrong, others) = still a m n others
    refused_apart a step refusals.Memory m n on = on_apart a step refusals.Memory m n on
    refused_apart a step refusal m n (right, on) = on_apart a step refusal m n on

    -- ---- done, but for what a session's steps do

    abbrev pub IsOther : Asked V → Type 0
    IsOther (asked.Claim seg) = ⊥
    IsOther (asked.Seal offered) = ⊥
    IsOther (asked.Commit name value) = ⊥
    IsOther asked.Abort = ⊥
    IsOther asked.Reopen = ⊥
    IsOther step = Unit {0}

    idle_none : (a : ℕ) (m : Machine V R) → part_in m a ≡ Idle → (pins : PinMap) → part_in m a ≡ Writing pins → ⊥
    idle_none a m was pins writes = let wrong : Idle ≡ Writing pins = sym was ∙ writes in cc

    kind_none : (a : ℕ) (m : Machine V R) → kind_of (part_in m a) ≡ kinds.Reading → (pins : PinMap) → part_in m a ≡ Writing pins → ⊥
    kind_none a m was pins writes = let wrong : kinds.Reading ≡ kinds.Writing = sym was ∙ ap kind_of writes in cc

    pub done_apart : (a : ℕ) (step : Asked V) (answer : Done) (m n : Machine V R) → IsOther step → Does v a step answer m n → Apart a m n
    done_apart a asked.Begin done.Begun m n other (was, others) = inr (Writing finite.empty, ap (λ (x : Machine V R). x.parts) others, idle_none a m was)
    done_apart a (asked.OpenRead name) (done.Opened count) m n other (named, was, (value, rest, got, starts, counts, others)) =
        inr (Reading value rest, ap (λ (x : Machine V R). x.parts) others, idle_none a m was)
    done_apart a asked.ReadNext (done.Bytes bytes) m n other (value, rest, after, was, gives, others) =
        inr (Reading value after, ap (λ (x : Machine V R). x.parts) others, reads_none a m value rest was)
    done_apart a asked.ReadNext done.End m n other (value, rest, was, ends, others) = still a m n others
    done_apart a asked.EndRead done.Dropped m n other (was, others) = inr (Idle, ap (λ (x : Machine V R). x.parts) others, kind_none a m was)
    done_apart a (asked.Delete name) (done.Deleted sequence) m n other does = inl (ap (λ (x : Machine V R). x.parts) does.others)
    done_apart a asked.ListNames (done.Listed files) m n other (is, others) = still a m n others
    done_apart a (asked.GcStart percent) (done.Started snapshot) m n other (none, is, others) = inl (ap (λ (x : Machine V R). x.parts) others)
    done_apart a asked.GcStep (done.Did phase) m n other does = inl (ap (λ (x : Machine V R). x.parts) does.others)
    done_apart a asked.GcStep (done.Collected freed copied) m n other does = inl (ap (λ (x : Machine V R). x.parts) does.others)
    done_apart a asked.Stat (done.Counted files segments bytes used free) m n other (is, others) = still a m n others
    done_apart a asked.Unique (done.Unique segments bytes) m n other (is, others) = still a m n others
    done_apart a asked.Begin answer m n other does = absurd does
    done_apart a (asked.OpenRead name) answer m n other does = absurd does
    done_apart a asked.ReadNext answer m n other does = absurd does
    done_apart a asked.EndRead answer m n other does = absurd does
    done_apart a (asked.Delete name) answer m n other does = absurd does
    done_apart a asked.ListNames answer m n other does = absurd does
    done_apart a (asked.GcStart percent) answer m n other does = absurd does
    done_apart a asked.GcStep answer m n other does = absurd does
    done_apart a asked.Stat answer m n other does = absurd does
    done_apart a asked.Unique answer m n other does = absurd does
    done_apart a step answer m n other does = absurd other

    -- ---- whatever the state is

    abbrev pub IsNoOpening : Asked V → Type 0
    IsNoOpening asked.Reopen = ⊥
    IsNoOpening step = Unit {0}

    pub by_state : (a : ℕ) (step : Asked V) (told : Result Done Refusal) (m n : Machine V R) → IsNoOpening step
        → Legal v (record { actor = a; asked = step; answer = told }) m n → ByState v m.state a step told m n
    by_state a asked.Reopen told m n none legal = absurd none
    by_state a step told m n none legal = legal

    refused_by : (state : RunState V) (a : ℕ) (step : Asked V) (refusal : Refusal) (m n : Machine V R) → ByState v state a step (Err refusal) m n → KeepsWriters m n
    refused_by Running a step refusal m n refuses = apart_writers a m n (refused_apart a step refusal m n refuses)
    refused_by (Stopped other stores) a step refusal m n (is, same) = writers_here m n same

    pub refused_keeps : (a : ℕ) (step : Asked V) (refusal : Refusal) (m n : Machine V R) → IsNoOpening step
        → Legal v (record { actor = a; asked = step; answer = Err refusal }) m n → KeepsWriters m n
    refused_keeps a step refusal m n none legal = refused_by m.state a step refusal m n (by_state a step (Err refusal) m n none legal)

    does_by : (state : RunState V) (a : ℕ) (step : Asked V) (answer : Done) (m n : Machine V R) → ByState v state a step (Ok answer) m n → Does v a step answer m n
    does_by Running a step answer m n does = does
    does_by (Stopped other stores) a step answer m n (is, same) = absurd (cc)

    pub does_of : (a : ℕ) (step : Asked V) (answer : Done) (m n : Machine V R) → IsNoOpening step
        → Legal v (record { actor = a; asked = step; answer = Ok answer }) m n → Does v a step answer m n
    does_of a step answer m n none legal = does_by m.state a step answer m n (by_state a step (Ok answer) m n none legal)

    pub no_opening : (step : Asked V) → IsOther step → IsNoOpening step
    no_opening asked.Reopen other = other
    no_opening step other = tt

    pub other_keeps : (a : ℕ) (step : Asked V) (told : Result Done Refusal) (m n : Machine V R) → IsOther step
        → Legal v (record { actor = a; asked = step; answer = told }) m n → KeepsWriters m n
    other_keeps a step (Ok answer) m n other legal =
        apart_writers a m n (done_apart a step answer m n other (does_of a step answer m n (no_opening step other) legal))
    other_keeps a step (Err refusal) m n other legal = refused_keeps a step refusal m n (no_opening step other) legal

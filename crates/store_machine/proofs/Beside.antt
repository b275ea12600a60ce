-- What steps that are none of a collection leave of one, and of the containers.
use Rattle.store_machine.proofs.Prelude.{◌≡◌, ◌≢◌, ◌⊎◌, ◌↔◌, ◌+◌, arith, inl, inr, ℕ, [], ◌∷◌, ◌++◌, Option, Some, None, Result, Ok, Err, refl, sym, ◌∙◌, ap, subst, pin_of, KindSegment, segment_key, HeaderValue, Put, Gone, Refusal, Store, with_change, Asked, IsSealOf, Done, Answers, ByState, Claims, Does, Legal, LegalBy, Refuses, Seals, with_name, without_name, RefusesClaim, RefusesCommit, RefusesDelete, RefusesGcStep, RefusesOn, RefusesRead, RefusesSeal, RefusesUnique, Collection, Machine, Idle, Writing, Reading, RunState, Running, Stopped, Stepped, keeping, one_more, put_at, Values}
use Rattle.std.proofs.Common.{List, take}
use Rattle.std.specs.FinMap as finite
use Rattle.container_meta.specs.Segments.{Contents}
use Rattle.refusals.specs.declared.refusal.Refusal.TheVariants as refusals
use Rattle.store_machine.specs.Asked as asked
use Rattle.store_machine.specs.Done as done
use Rattle.store_machine.specs.Offers.{AddsContainers, IsHeaderOfOne}

module _ {V R : Type 0} where
  -- the containers stay, the last id and the collection
  pub record SameStore (m n : Machine V R) : Type 0 where
    pub held : n.store.held ≡ m.store.held
    pub last : n.last_id ≡ m.last_id
    pub collection : n.collection ≡ m.collection

  pub same_of : (m n : Machine V R) → n ≡ m → SameStore m n
  same_of m n is = record {
    held = ap (λ (x : Machine V R). x.store.held) is;
    last = ap (λ (x : Machine V R). x.last_id) is;
    collection = ap (λ (x : Machine V R). x.collection) is;
  }

  -- of a collection that runs nothing but the keys that are needed is another, and the containers stay
  pub record StaysBeside (c : Collection V) (m n : Machine V R) : Type 0 where
    pub keys : List (List ℕ)
    pub runs : n.collection ≡ Some (record c { keys = keys })
    pub held : n.store.held ≡ m.store.held
    pub last : n.last_id ≡ m.last_id

  -- so it is, and nothing was sealed; or these containers were
  abbrev pub GoesBeside : Stepped V → Collection V → Machine V R → Machine V R → Type 0
  GoesBeside s c m n = (StaysBeside c m n × ((h : HeaderValue) → ¬ (IsSealOf s h)))
      ⊎ ((a : ℕ) × (cs : List Contents) × AddsContainers a cs m n × ((h : HeaderValue) → IsSealOf s h ↔ IsHeaderOfOne m.last_id cs h))

  module _ (v : Values V R) where
    -- ---- refused

    claim_keeps : (a : ℕ) (seg : _) (refusal : Refusal) (m n : Machine V R) → RefusesClaim v a seg refusal m n → SameStore m n
    claim_keeps a seg (refusals.Unpinned key) m n (is, others) = same_of m n others
    claim_keeps a seg refusals.Memory m n others = same_of m n others
    claim_keeps a seg refusals.DiskRead m n (keeps, others) = same_of m n others
    claim_keeps a seg (refusals.Clash key at) m n (keeps, known, others) = same_of m n others
    claim_keeps a seg (refusals.Corrupt slot offset count want got) m n (keeps, (unknown, others)) = same_of m n others
    claim_keeps a seg refusal m n refuses = absurd refuses

    stop_keeps : (other : Option _) (stores : List Store) (m n : Machine V R) → n ≡ record m { state = Stopped other stores } → SameStore m n
    stop_keeps other stores m n is = record {
      held = ap (λ (x : Machine V R). x.store.held) is;
      last = ap (λ (x : Machine V R). x.last_id) is;
      collection = ap (λ (x : Machine V R). x.collection) is;
    }

    seal_keeps : (a : ℕ) (offered : List Contents) (refusal : Refusal) (m n : Machine V R) → RefusesSeal v a offered refusal m n → SameStore m n
    seal_keeps a offered refusals.Memory m n others = same_of m n others
    seal_keeps a offered (refusals.Unpinned key) m n (is, others) = same_of m n others
    seal_keeps a offered (refusals.Full free) m n (keeps, is, few, others) = same_of m n others
    seal_keeps a offered refusals.Numbers m n (slot, none, others) = same_of m n others
    seal_keeps a offered refusals.DiskRead m n (slot, others) = same_of m n others
    seal_keeps a offered (refusals.Clash key at) m n (slot, known, others) = same_of m n others
    seal_keeps a offered (refusals.Corrupt at offset count want got) m n (slot, (unknown, others)) = same_of m n others
    seal_keeps a offered refusals.DiskWrite m n (slot, fits, others) = stop_keeps None _ m n others
    seal_keeps a offered refusal m n refuses = absurd refuses

    commit_keeps : (a : ℕ) (name : List ℕ) (value : V) (refusal : Refusal) (m n : Machine V R) → RefusesCommit v a name value refusal m n → SameStore m n
    commit_keeps a name value refusals.Memory m n others = same_of m n others
    commit_keeps a name value refusals.BadName m n (bad, others) = same_of m n others
    commit_keeps a name value refusals.TooMany m n (named, none, many, others) = same_of m n others
    commit_keeps a name value (refusals.Unpinned key) m n (named, room, is, pins, others) = same_of m n others
    commit_keeps a name value refusals.Numbers m n (may, none, others) = same_of m n others
    commit_keeps a name value refusals.DiskWrite m n (may, has, right, whole, others) = stop_keeps _ _ m n others
    commit_keeps a name value refusal m n refuses = absurd refuses

    delete_keeps : (name : List ℕ) (refusal : Refusal) (m n : Machine V R) → RefusesDelete v name refusal m n → SameStore m n
    delete_keeps name refusals.Memory m n others = same_of m n others
    delete_keeps name refusals.BadName m n (bad, others) = same_of m n others
    delete_keeps name refusals.NoFile m n (named, none, others) = same_of m n others
    delete_keeps name refusals.Numbers m n (named, there, none, others) = same_of m n others
    delete_keeps name refusals.DiskWrite m n (named, there, has, others) = stop_keeps _ _ m n others
    delete_keeps name refusal m n refuses = absurd refuses

    collect_keeps : (refusal : Refusal) (m n : Machine V R) → RefusesGcStep v refusal m n → SameStore m n
    collect_keeps refusals.NotCollecting m n (none, others) = same_of m n others
    collect_keeps refusals.Memory m n (some, others) = same_of m n others
    collect_keeps refusals.Numbers m n (is, none, others) = same_of m n others
    collect_keeps refusals.DiskRead m n (is, others) = same_of m n others
    collect_keeps refusals.DiskWrite m n (stores, is, others) = stop_keeps None stores m n others
    collect_keeps (refusals.Corrupt slot offset count want got) m n (some, (unknown, others)) = same_of m n others
    collect_keeps (refusals.Missing key) m n (some, (unknown, others)) = same_of m n others
    collect_keeps (refusals.Damaged at why) m n (some, (unknown, others)) = same_of m n others
    collect_keeps refusal m n refuses = absurd refuses

    read_keeps : (a : ℕ) (refusal : Refusal) (m n : Machine V R) → RefusesRead v a refusal m n → SameStore m n
    read_keeps a refusal m n (value, rest, after, was, stays, others) = record {
      held = ap (λ (x : Machine V R). x.store.held) others;
      last = ap (λ (x : Machine V R). x.last_id) others;
      collection = ap (λ (x : Machine V R). x.collection) others;
    }

    count_keeps : (refusal : Refusal) (m n : Machine V R) → RefusesUnique v refusal m n → SameStore m n
    count_keeps refusals.Memory m n others = same_of m n others
    count_keeps refusals.DiskRead m n others = same_of m n others
    count_keeps (refusals.Corrupt slot offset count want got) m n (unknown, others) = same_of m n others
    count_keeps (refusals.Missing key) m n (unknown, others) = same_of m n others
    count_keeps (refusals.Damaged at why) m n (unknown, others) = same_of m n others
    count_keeps refusal m n refuses = absurd refuses

    on_keeps : (a : ℕ) (step : Asked V) (refusal : Refusal) (m n : Machine V R) → RefusesOn v a step refusal m n → SameStore m n
    on_keeps a (asked.Claim seg) refusal m n refuses = claim_keeps a seg refusal m n refuses
    on_keeps a (asked.Seal offered) refusal m n refuses = seal_keeps a offered refusal m n refuses
    on_keeps a (asked.Commit name value) refusal m n refuses = commit_keeps a name value refusal m n refuses
    on_keeps a (asked.OpenRead name) refusals.Memory m n others = same_of m n others
    on_keeps a (asked.OpenRead name) refusals.BadName m n (bad, others) = same_of m n others
    on_keeps a (asked.OpenRead name) refusals.NoFile m n (named, none, others) = same_of m n others
    on_keeps a asked.ReadNext refusal m n refuses = read_keeps a refusal m n refuses
    on_keeps a (asked.Delete name) refusal m n refuses = delete_keeps name refusal m n refuses
    on_keeps a asked.ListNames refusals.Memory m n others = same_of m n others
    on_keeps a (asked.GcStart percent) refusals.Memory m n (none, others) = same_of m n others
    on_keeps a (asked.GcStart percent) (refusals.Missing key) m n (none, (unknown, others)) = same_of m n others
    on_keeps a (asked.GcStart percent) (refusals.Damaged at why) m n (none, (unknown, others)) = same_of m n others
    on_keeps a (asked.GcStart percent) (refusals.Collecting phase) m n (is, others) = same_of m n others
    on_keeps a asked.GcStep refusal m n refuses = collect_keeps refusal m n refuses
    on_keeps a asked.Unique refusal m n refuses = count_keeps refusal m n refuses
    on_keeps a step refusal m n refuses = absurd refuses

    pub refused_keeps : (a : ℕ) (step : Asked V) (refusal : Refusal) (m n : Machine V R) → Refuses v a step refusal m n → SameStore m n
    refused_keeps a step (refusals.WrongPart kind) m n (wrong, others) = same_of m n others
    refused_keeps a step refusals.Memory m n on = on_keeps a step refusals.Memory m n on
    refused_keeps a step refusal m n (right, on) = on_keeps a step refusal m n on

    -- ---- done

    beside_same : (s : Stepped V) (c : Collection V) (m n : Machine V R) → m.collection ≡ Some c → SameStore m n → ((h : HeaderValue) → ¬ (IsSealOf s h)) → GoesBeside s c m n
    beside_same s c m n ran same none = inl (record { keys = c.keys; runs = same.collection ∙ ran; held = same.held; last = same.last }, none)

    -- what is no seal
    abbrev IsSeal : Asked V → Type 0
    IsSeal (asked.Seal offered) = Unit {0}
    IsSeal what = ⊥

    no_seal : (s : Stepped V) → (IsSeal s.asked → ⊥) → (h : HeaderValue) → ¬ (IsSealOf s h)
    no_seal s other h is = other (subst IsSeal (sym is.asked_is) tt)

    refused_none : (s : Stepped V) (refusal : Refusal) → s.answer ≡ Err refusal → (h : HeaderValue) → ¬ (IsSealOf s h)
    refused_none s refusal is h seal = absurd (let wrong : Ok (done.Sealed (seal.last + seal.count) seal.count) ≡ Err refusal = sym seal.answer_is ∙ is in cc)

    abbrev step : ℕ → Asked V → Done → Stepped V
    step a what answer = record { actor = a; asked = what; answer = Ok answer }

    -- it is this machine, whose collection is the one that ran, but for the keys, and whose containers are those that were there
    kept : (s : Stepped V) (c : Collection V) (m n k : Machine V R) (keys : List (List ℕ)) → n ≡ k → k.collection ≡ Some (record c { keys = keys })
        → k.store.held ≡ m.store.held → k.last_id ≡ m.last_id → (IsSeal s.asked → ⊥) → GoesBeside s c m n
    kept s c m n k keys is runs held last other = inl (
      record {
        keys = keys;
        runs = ap (λ (x : Machine V R). x.collection) is ∙ runs;
        held = ap (λ (x : Machine V R). x.store.held) is ∙ held;
        last = ap (λ (x : Machine V R). x.last_id) is ∙ last;
      },
      no_seal s other,
    )

    claimed : (a : ℕ) (seg : KindSegment) (c : Collection V) (m n : Machine V R) → m.collection ≡ Some c → Claims v a seg m n
        → GoesBeside (step a (asked.Claim seg) done.Held) c m n
    claimed a seg c m n ran does =
        let keys = segment_key seg.kind seg.segment ∷ [] in
        kept (step a (asked.Claim seg) done.Held) c m n (record (put_at m a (Writing (finite.insert does.may.pins (segment_key seg.kind seg.segment) (pin_of seg)))) {
          collection = keeping keys m.collection;
        }) (c.keys ++ keys) does.others (ap (keeping keys) ran) refl refl (λ none. none)

    sealed : (a : ℕ) (offered : List Contents) (id count : ℕ) (c : Collection V) (m n : Machine V R) → Seals v a offered id count m n
        → GoesBeside (step a (asked.Seal offered) (done.Sealed id count)) c m n
    sealed a offered id count c m n does = inr (a, take count offered, does.adds, λ h. (to h, from h))
      where
        to : (h : HeaderValue) → IsSealOf (step a (asked.Seal offered) (done.Sealed id count)) h → IsHeaderOfOne m.last_id (take count offered) h
        to h is =
            let offered_is : is.offered ≡ offered = (let both : asked.Seal offered ≡ asked.Seal is.offered = is.asked_is in cc) in
            let id_is : is.last + is.count ≡ id = (let both : Ok (done.Sealed id count) ≡ Ok (done.Sealed (is.last + is.count) is.count) = is.answer_is in cc) in
            let count_is : is.count ≡ count = (let both : Ok (done.Sealed id count) ≡ Ok (done.Sealed (is.last + is.count) is.count) = is.answer_is in cc) in
            let last_is : is.last ≡ m.last_id = omega (arith, id_is, count_is, does.id_is) in
            subst (λ (cs : List Contents). IsHeaderOfOne m.last_id cs h) (λ i. take (count_is i) (offered_is i))
            (subst (λ (last : ℕ). IsHeaderOfOne last (take is.count is.offered) h) last_is is.header_is)

        from : (h : HeaderValue) → IsHeaderOfOne m.last_id (take count offered) h → IsSealOf (step a (asked.Seal offered) (done.Sealed id count)) h
        from h is = record {
          offered = offered;
          last = m.last_id;
          count = count;
          asked_is = refl;
          answer_is = ap (λ (k : ℕ). Ok (done.Sealed k count)) does.id_is;
          header_is = is;
        }

    pub done_beside : (a : ℕ) (what : Asked V) (answer : Done) (c : Collection V) (m n : Machine V R) → m.collection ≡ Some c
        → what ≢ asked.GcStep → Does v a what answer m n → GoesBeside (step a what answer) c m n
    done_beside a asked.Begin done.Begun c m n ran not (is, others) = kept _ c m n (put_at m a (Writing finite.empty)) c.keys others ran refl refl (λ none. none)
    done_beside a (asked.Claim seg) done.Held c m n ran not does = claimed a seg c m n ran does
    done_beside a (asked.Claim seg) done.Absent c m n ran not (keeps, known, others) = beside_same _ c m n ran (same_of m n others) (no_seal _ (λ none. none))
    done_beside a (asked.Seal offered) (done.Sealed id count) c m n ran not does = sealed a offered id count c m n does
    done_beside a (asked.Commit name value) (done.Committed sequence) c m n ran not does =
        kept _ c m n (record (put_at m a Idle) {
          now = with_name v name value m.now;
          store = with_change name (Put (v.root value)) m.store;
          acknowledged = one_more m.acknowledged;
        }) c.keys does.others ran refl refl (λ none. none)
    done_beside a asked.Abort done.Aborted c m n ran not (is, others) = kept _ c m n (put_at m a Idle) c.keys others ran refl refl (λ none. none)
    done_beside a (asked.OpenRead name) (done.Opened count) c m n ran not (named, idle, (value, rest, found, starts, count_is, others)) =
        kept _ c m n (put_at m a (Reading value rest)) c.keys others ran refl refl (λ none. none)
    done_beside a asked.ReadNext (done.Bytes bytes) c m n ran not (value, rest, after, was, gives, others) =
        kept _ c m n (put_at m a (Reading value after)) c.keys others ran refl refl (λ none. none)
    done_beside a asked.ReadNext done.End c m n ran not (value, rest, was, ends, others) = beside_same _ c m n ran (same_of m n others) (no_seal _ (λ none. none))
    done_beside a asked.EndRead done.Dropped c m n ran not (is, others) = kept _ c m n (put_at m a Idle) c.keys others ran refl refl (λ none. none)
    done_beside a (asked.Delete name) (done.Deleted sequence) c m n ran not does =
        kept _ c m n (record m {
          now = without_name v name m.now;
          store = with_change name Gone m.store;
          acknowledged = one_more m.acknowledged;
        }) c.keys does.others ran refl refl (λ none. none)
    done_beside a asked.ListNames (done.Listed files) c m n ran not (is, others) = beside_same _ c m n ran (same_of m n others) (no_seal _ (λ none. none))
    done_beside a (asked.GcStart percent) (done.Started snapshot) c m n ran not (none, is, others) = absurd (let wrong : None ≡ Some c = sym none ∙ ran in cc)
    done_beside a asked.GcStep answer c m n ran not does = absurd (not refl)
    done_beside a asked.Stat (done.Counted files segments bytes used free) c m n ran not (is, others) = beside_same _ c m n ran (same_of m n others) (no_seal _ (λ none. none))
    done_beside a asked.Unique (done.Unique segments bytes) c m n ran not (is, others) = beside_same _ c m n ran (same_of m n others) (no_seal _ (λ none. none))
    done_beside a what answer c m n ran not does = absurd does

    -- ---- a step that is none of the collection

    by_answer : (s : Stepped V) (c : Collection V) (m n : Machine V R) → m.collection ≡ Some c → s.asked ≢ asked.GcStep
        → (told : Result Done Refusal) → s.answer ≡ told → Answers v s.actor s.asked told m n → GoesBeside s c m n
    by_answer s c m n ran not (Ok answer) is does =
        subst (λ (t : Result Done Refusal). GoesBeside (record { actor = s.actor; asked = s.asked; answer = t }) c m n) (sym is)
        (done_beside s.actor s.asked answer c m n ran not does)
    by_answer s c m n ran not (Err refusal) is refuses = beside_same s c m n ran (refused_keeps s.actor s.asked refusal m n refuses) (refused_none s refusal is)

    by_state : (s : Stepped V) (c : Collection V) (m n : Machine V R) → m.collection ≡ Some c → s.asked ≢ asked.GcStep
        → (state : RunState V) → ByState v state s.actor s.asked s.answer m n → GoesBeside s c m n
    by_state s c m n ran not Running answers = by_answer s c m n ran not s.answer refl answers
    by_state s c m n ran not (Stopped other stores) (told, is) = beside_same s c m n ran (same_of m n is) (refused_none s _ told)

    legal_by : (what : Asked V) (a : ℕ) (told : Result Done Refusal) (m n : Machine V R) → what ≢ asked.Reopen → LegalBy v what a told m n
        → ByState v m.state a what told m n
    legal_by asked.Reopen a told m n not legal = absurd (not refl)
    legal_by what a told m n not legal = legal

    pub step_beside : (s : Stepped V) (c : Collection V) (m n : Machine V R) → m.collection ≡ Some c → s.asked ≢ asked.Reopen → s.asked ≢ asked.GcStep
        → Legal v s m n → GoesBeside s c m n
    step_beside s c m n ran opens not legal = by_state s c m n ran not m.state (legal_by s.asked s.actor s.answer m n opens legal)

    -- ---- a step of the collection: refused, or made

    gc_answer : (a : ℕ) (told : Result Done Refusal) (m n : Machine V R) → Answers v a asked.GcStep told m n
        → SameStore m n ⊎ ((answer : Done) × (told ≡ Ok answer) × Does v a asked.GcStep answer m n)
    gc_answer a (Ok answer) m n does = inr (answer, refl, does)
    gc_answer a (Err refusal) m n refuses = inl (refused_keeps a asked.GcStep refusal m n refuses)

    pub step_state : (s : Stepped V) (m n : Machine V R) (state : RunState V) → s.asked ≡ asked.GcStep → ByState v state s.actor s.asked s.answer m n
        → SameStore m n ⊎ ((answer : Done) × (s.answer ≡ Ok answer) × Does v s.actor asked.GcStep answer m n)
    step_state s m n (Stopped other stores) is (told, others) = inl (same_of m n others)
    step_state s m n Running is answers = gc_answer s.actor s.answer m n (subst (λ (what : Asked V). Answers v s.actor what s.answer m n) is answers)

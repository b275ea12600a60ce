-- What the content of a disk adds is so of each step of the machine of files: it adds no more than that needs.
use Rattle.store_machine.proofs.Prelude.{◌≡◌, inl, inr, ◌<◌, ℕ, suc, [], ◌∷◌, ◌++◌, length, map, Some, None, option_map, Result, Ok, Err, refl, sym, ◌∙◌, ap, subst, arith, AllByRecursion, Kind, Segment, Root, PartKind, Phase, Refusal, Store, IsSpare, FreesTo, FlushContainer, FreeContainer, Asked, GoesOn, GoesOver, IsRecordOf, MayBreak, Done, Forgets, SameNow, SamePart, SameState, forget_collection, Answers, ByState, Does, GivesBytes, LegalBy, Refuses, RefusesOn, RefusesRead, Collection, Found, Reading, RunState, Running, Stopped, Sweep, Sweeping, part_in, IsNeeded, NamesNeed, Reopens, freeing, AddsBy, AddsToAnswer, AddsToDone, AddsToOpening, AddsToPhase, AddsToRefused, AddsToStep, ComesNext, StaysAt, of_files, of_roots}
use Rattle.std.proofs.Common.{List}
use Rattle.std.proofs.lemmas.Option.{same_Some}
use Rattle.std.proofs.lemmas.List.{append-nil, append_cancel_left}
use Rattle.refusals.specs.declared.refusal.Phase.TheVariants as phases
use Rattle.refusals.specs.declared.refusal.Refusal.TheVariants as refusals
use Rattle.store_machine.specs.Asked as asked
use Rattle.store_machine.specs.Collecting.{Goes, IsCopyOf, Went}
use Rattle.store_machine.specs.Done as done
use Rattle.store_machine.specs.Opening.{IsGivenBack}
use Rattle.store_machine.specs.Remembering.{AddsNoMore, IsReady}
use Rattle.store_machine.proofs.Parts.{F, G, FilePart, part_at, put_told}

-- ---- by which stores it may be found, where it is stopped

abbrev stopped_by : {V : Type 0} → RunState V → List Store
stopped_by Running = []
stopped_by (Stopped other stores) = stores

stopped_same : (s : RunState (List ℕ)) (u : RunState Root) → SameState s u → stopped_by u ≡ stopped_by s
stopped_same Running Running one = refl
stopped_same Running (Stopped other stores) one = absurd one
stopped_same (Stopped None stores) Running one = absurd one
stopped_same (Stopped (Some found) stores) Running one = absurd one
stopped_same (Stopped None stores) (Stopped None now) one = one
stopped_same (Stopped None stores) (Stopped (Some other) now) one = absurd one
stopped_same (Stopped (Some found) stores) (Stopped None now) one = absurd one
stopped_same (Stopped (Some found) stores) (Stopped (Some other) now) one = one.1

freed_files : (stores : List Store) (s : RunState (List ℕ)) → stopped_by (freeing of_files stores s) ≡ stopped_by s ++ stores
freed_files stores Running = refl
freed_files stores (Stopped other before) = refl

freed_roots : (stores : List Store) (s : RunState Root) → stopped_by (freeing of_roots stores s) ≡ stopped_by s ++ stores
freed_roots stores Running = refl
freed_roots stores (Stopped other before) = refl

-- ---- what is told twice is the same

one_of : {A : Type 0} (a b : A) → a ∷ [] ≡ b ∷ [] → a ≡ b
one_of a b same = cc

sweep_of : (p q : Phase) (s t : Sweep) → Sweeping p s ≡ Sweeping q t → s ≡ t
sweep_of p q s t same = cc

flushed_of : (i j : ℕ) (k l : Kind) (xs ys : List Segment) → FlushContainer i k xs ≡ FlushContainer j l ys → (k ≡ l) × (xs ≡ ys)
flushed_of i j k l xs ys same = (cc, cc)

freed_of : (xs ys : List ℕ) → map FreeContainer xs ≡ map FreeContainer ys → xs ≡ ys
freed_of [] [] same = refl
freed_of [] (y ∷ ys) same = absurd cc
freed_of (x ∷ xs) [] same = absurd cc
freed_of (x ∷ xs) (y ∷ ys) same =
    let first : x ≡ y = cc in
    let rest : map FreeContainer xs ≡ map FreeContainer ys = cc in
    (λ i. first i ∷ freed_of xs ys rest i)

-- the last one that was put behind others
last_of : {A : Type 0} (xs ys zs : List A) (a b : A) → ys ≡ xs ++ a ∷ [] → zs ≡ ys → zs ≡ xs ++ b ∷ [] → a ≡ b
last_of xs ys zs a b first same second = one_of a b (append_cancel_left xs (a ∷ []) (b ∷ []) (sym first ∙ sym same ∙ second))

module _ (m n : F) (r t : G) (was : Forgets m r) (now : Forgets n t) where
  part_now : (a : ℕ) → SamePart (part_in n a) (part_in t a)
  part_now a = part_at n.parts t.parts a now.parts

  bytes_next : (a : ℕ) (bytes : List ℕ) → GivesBytes of_files a bytes m n → ComesNext a bytes m t
  bytes_next a bytes (file, rest, after, reads, gives, others) =
      let is : part_in n a ≡ Reading file after = ap (λ (x : F). part_in x a) others ∙ put_told m.parts a file rest (Reading file after) reads in
      (file, after, reads ∙ ap (λ (l : List (List ℕ)). Reading file l) gives, subst (λ (p : FilePart). SamePart p (part_in t a)) is (part_now a))

  -- ---- a step of a collection, c, that left w, and d of the machine of roots

  module _ (c : Collection (List ℕ)) (d : Collection Root) (w : Went) (stage_is : d.stage ≡ w.stage) (recorded_is : d.recorded ≡ w.recorded)
      (changes_is : d.changes ≡ c.changes ++ w.changes) (forgotten_is : t.forgotten ≡ w.forgotten) where
    recorded_one : Goes of_files phases.Filter c m w → AddsToPhase phases.Filter c d m t
    recorded_one (one, stage, next, recorded, changes, forgotten, order, is) other same =
        subst (IsRecordOf of_files c m.store) (last_of c.recorded w.recorded d.recorded one other recorded recorded_is same) is

    abbrev Over : Sweep → Sweep → Type 0
    Over s u = GoesOver of_files c m.store s u m.forgotten t.forgotten × IsReady c s u

    -- what is so of the two sweeps is so of these
    over_these : (s u before after : Sweep) (next other : Phase) → c.stage ≡ Sweeping phases.Copy s → w.stage ≡ Sweeping next u
        → GoesOver of_files c m.store s u m.forgotten w.forgotten → IsReady c s u → c.stage ≡ Sweeping phases.Copy before → d.stage ≡ Sweeping other after → Over before after
    over_these s u before after next other first second over ready third fourth =
        let old : s ≡ before = sweep_of phases.Copy phases.Copy s before (sym first ∙ third) in
        let new : u ≡ after = sweep_of next other u after (sym second ∙ sym stage_is ∙ fourth) in
        subst (λ (x : Sweep). Over x after) old (subst (Over s) new (subst (GoesOver of_files c m.store s u m.forgotten) (sym forgotten_is) over, ready))

    copied : Goes of_files phases.Copy c m w → AddsToPhase phases.Copy c d m t
    copied (s, u, next, stage, then, recorded, changes, some, none, more, over, inl (source, entry, next_is, inl (longer, waiting, ready))) before after other third fourth =
        over_these s u before after next other stage then (over tt)
        (λ is same. absurd (omega (arith, subst (λ (ks : List (List ℕ)). length s.filled < length ks) same longer))) third fourth
    copied (s, u, next, stage, then, recorded, changes, some, none, more, over, inl (source, entry, next_is, inr (inl (filled, waiting, ready)))) before after other third fourth =
        over_these s u before after next other stage then (over tt) (λ is same. ready) third fourth
    copied (s, u, next, stage, then, recorded, changes, some, none, more, over, inl (source, entry, next_is, inr (inr alone))) before after other third fourth =
        absurd (alone.0 tt)
    copied (s, u, next, stage, then, recorded, changes, some, none, more, over, inr stops) before after other third fourth =
        over_these s u before after next other stage then (over tt) (λ is same. absurd (omega (arith, stops.0, is))) third fourth

    flushed : Goes of_files phases.Flush c m w → AddsToPhase phases.Flush c d m t
    flushed (s, u, kind, segments, stage, changes, keys, u_is, next, recorded, forgotten, known) id other others same =
        let one = append_cancel_left c.changes w.changes (FlushContainer id other others ∷ []) (sym changes_is ∙ same) in
        let both = flushed_of (suc m.last_id) id kind other segments others (one_of _ _ (sym changes ∙ one)) in
        subst (AllByRecursion (IsCopyOf c m.store other)) both.1 (subst (λ (k : Kind). AllByRecursion (IsCopyOf c m.store k) segments) both.0 (known tt))

    released : Goes of_files phases.Release c m w → AddsToPhase phases.Release c d m t
    released (s, u, slots, stage, some, stand, changes, u_is, next, recorded, forgotten, known) others same =
        let all = append_cancel_left c.changes w.changes (map FreeContainer others) (sym changes_is ∙ same) in
        subst (AllByRecursion (IsSpare (IsNeeded of_files m) m.store.held)) (freed_of slots others (sym changes ∙ all)) (known tt)

    phase_adds : (phase : Phase) → Goes of_files phase c m w → AddsToPhase phase c d m t
    phase_adds phases.Filter is = recorded_one is
    phase_adds phases.Copy is = copied is
    phase_adds phases.Flush is = flushed is
    phase_adds phases.Release is = released is
    phase_adds phase is = tt

  step_adds : (phase : Phase) → GoesOn of_files phase m n → AddsToStep phase m t
  step_adds phase g c d ran then =
      let c_is : g.c ≡ c = same_Some g.c c (sym g.ran ∙ ran) in
      let left : Collection (List ℕ) = record c { stage = g.went.stage; recorded = g.went.recorded; changes = c.changes ++ g.went.changes } in
      let n_is : n.collection ≡ Some left =
      ap (λ (x : F). x.collection) g.others
      ∙ ap (λ (x : Collection (List ℕ)). Some (record x { stage = g.went.stage; recorded = g.went.recorded; changes = x.changes ++ g.went.changes })) c_is in
      let d_is : d ≡ forget_collection left = same_Some d (forget_collection left) (sym then ∙ now.collection ∙ ap (option_map forget_collection) n_is) in
      phase_adds c d g.went (ap (λ (x : Collection Root). x.stage) d_is) (ap (λ (x : Collection Root). x.recorded) d_is) (ap (λ (x : Collection Root). x.changes) d_is)
      (now.forgotten ∙ ap (λ (x : F). x.forgotten) g.others) phase (subst (λ (x : Collection (List ℕ)). Goes of_files phase x m g.went) c_is g.goes)

  -- ---- done

  done_adds : (a : ℕ) (step : Asked (List ℕ)) (answer : Done) → Does of_files a step answer m n → AddsToDone a step answer m t
  done_adds a (asked.Claim seg) done.Held does = (does.same tt, (does.held (inl tt)).1)
  done_adds a (asked.Claim seg) done.Absent (keeps, told, others) = told (inl tt)
  done_adds a (asked.Seal offered) (done.Sealed id count) does = does.fits tt
  done_adds a (asked.Commit name file) (done.Committed sequence) does = (does.right, does.whole)
  done_adds a asked.ReadNext (done.Bytes bytes) does = bytes_next a bytes does
  done_adds a asked.GcStep (done.Did phase) does = step_adds phase does
  done_adds a asked.Unique (done.Unique segments bytes) (unique, others) = unique
  done_adds a step answer does = tt

  -- ---- refused

  still_there : (a : ℕ) → RefusesRead of_files a refusals.DiskRead m n → SamePart (part_in m a) (part_in t a)
  still_there a (file, [], after, reads, gone, others) = absurd gone
  still_there a (file, bytes ∷ rest, after, reads, kept, others) =
      let is : part_in n a ≡ Reading file after = ap (λ (x : F). part_in x a) others ∙ put_told m.parts a file (bytes ∷ rest) (Reading file after) reads in
      let same : part_in n a ≡ part_in m a = is ∙ ap (λ (l : List (List ℕ)). Reading file l) kept ∙ sym reads in
      subst (λ (p : FilePart). SamePart p (part_in t a)) same (part_now a)

  -- no read of files is refused but by the disk
  read_only : (A : Type 0) (refusal : Refusal) (rest after : List (List ℕ)) → ((bytes : List ℕ) (more : List (List ℕ)) → StaysAt (bytes ∷ more) refusal after → A)
      → StaysAt rest refusal after → A
  read_only A refusal [] after none stays = absurd stays
  read_only A refusal (bytes ∷ more) after none stays = none bytes more stays

  refused_adds : (a : ℕ) (step : Asked (List ℕ)) (refusal : Refusal) → RefusesOn of_files a step refusal m n → AddsToRefused a step refusal m t
  refused_adds a (asked.Claim seg) (refusals.Clash key at) (keeps, known, others) = known tt
  refused_adds a (asked.Claim seg) (refusals.Corrupt slot offset count want got) (keeps, (unknown, others)) = absurd (unknown tt)
  refused_adds a (asked.Seal offered) (refusals.Clash key at) (has, known, others) = known tt
  refused_adds a (asked.Seal offered) (refusals.Corrupt slot offset count want got) (has, (unknown, others)) = absurd (unknown tt)
  refused_adds a (asked.Seal offered) refusals.DiskWrite (has, fits, others) = fits tt
  refused_adds a (asked.Commit name file) refusals.DiskWrite (may, has, right, whole, others) = (right, whole)
  refused_adds a asked.ReadNext refusals.DiskRead refuses = still_there a refuses
  refused_adds a asked.ReadNext (refusals.Corrupt slot offset count want got) (file, rest, after, reads, stays, others) =
      read_only ⊥ (refusals.Corrupt slot offset count want got) rest after (λ bytes more no. no) stays
  refused_adds a asked.ReadNext (refusals.Missing key) (file, rest, after, reads, stays, others) =
      read_only ⊥ (refusals.Missing key) rest after (λ bytes more no. no) stays
  refused_adds a asked.ReadNext (refusals.Damaged at why) (file, rest, after, reads, stays, others) =
      read_only ⊥ (refusals.Damaged at why) rest after (λ bytes more no. no) stays
  refused_adds a (asked.GcStart percent) (refusals.Missing key) (none, (unknown, others)) = absurd (unknown tt)
  refused_adds a (asked.GcStart percent) (refusals.Damaged at why) (none, (unknown, others)) = absurd (unknown tt)
  refused_adds a asked.GcStep refusals.DiskWrite (stores, may, others) = λ given is.
      subst (MayBreak of_files m) (sym (ap (λ (x : F). stopped_by x.state) others) ∙ sym (stopped_same n.state t.state now.state) ∙ ap stopped_by is) may
  refused_adds a asked.GcStep (refusals.Corrupt slot offset count want got) (is, (unknown, others)) = absurd (unknown tt)
  refused_adds a asked.GcStep (refusals.Missing key) (is, (unknown, others)) = absurd (unknown tt)
  refused_adds a asked.GcStep (refusals.Damaged at why) (is, (unknown, others)) = absurd (unknown tt)
  refused_adds a asked.Unique (refusals.Corrupt slot offset count want got) (unknown, others) = absurd (unknown tt)
  refused_adds a asked.Unique (refusals.Missing key) (unknown, others) = absurd (unknown tt)
  refused_adds a asked.Unique (refusals.Damaged at why) (unknown, others) = absurd (unknown tt)
  refused_adds a step refusal refuses = tt

  -- nothing is added to a refusal for what the actor is at
  wrong_part : (a : ℕ) (step : Asked (List ℕ)) (kind : PartKind) → AddsToRefused a step (refusals.WrongPart kind) m t
  wrong_part a (asked.Claim seg) kind = tt
  wrong_part a other kind = tt

  -- nor because it is stopped
  when_stopped : (a : ℕ) (step : Asked (List ℕ)) (at : ℕ) → AddsToRefused a step (refusals.Stopped at) m t
  when_stopped a (asked.Claim seg) at = tt
  when_stopped a other at = tt

  all_refused : (a : ℕ) (step : Asked (List ℕ)) (refusal : Refusal) → Refuses of_files a step refusal m n → AddsToRefused a step refusal m t
  all_refused a step (refusals.WrongPart kind) refuses = wrong_part a step kind
  all_refused a step refusals.Memory on = refused_adds a step refusals.Memory on
  all_refused a step refusal (right, on) = refused_adds a step refusal on

  -- ---- an opening

  opening_adds : (told : Result Done Refusal) → Reopens of_files told m n → AddsToOpening told m r t
  opening_adds (Ok (done.Reopened files)) o = record {
    found = o.found;
    may = o.may tt;
    roots = subst (λ (x : Found (List ℕ)). SameNow x t.now) (ap (λ (x : F). x.now) o.others) now.now;
    before = o.before;
    stands = o.same tt;
    named = o.named tt;
    freed = o.freed;
    frees = subst (FreesTo (NamesNeed of_files o.found) o.freed o.before) (sym now.store) (o.frees tt);
  }
  opening_adds (Ok answer) opens = absurd opens
  opening_adds (Err refusal) (may, inl others) = (may, λ stores is. subst (AllByRecursion (IsGivenBack of_files m)) (none stores is) tt)
    where
      none : (stores : List Store) → t.state ≡ freeing of_roots stores r.state → [] ≡ stores
      none stores is =
          append_cancel_left (stopped_by r.state) [] stores
          (append-nil (stopped_by r.state) ∙ stopped_same m.state r.state was.state ∙ ap (λ (x : F). stopped_by x.state) (sym others)
          ∙ sym (stopped_same n.state t.state now.state) ∙ ap stopped_by is ∙ freed_roots stores r.state)
  opening_adds (Err refusal) (may, inr (given, others, why, known)) = (may, λ stores is. subst (AllByRecursion (IsGivenBack of_files m)) (all stores is) (known tt))
    where
      all : (stores : List Store) → t.state ≡ freeing of_roots stores r.state → given ≡ stores
      all stores is =
          append_cancel_left (stopped_by r.state) given stores
          (ap (λ (xs : List Store). xs ++ given) (stopped_same m.state r.state was.state) ∙ sym (freed_files given m.state)
          ∙ ap (λ (x : F). stopped_by x.state) (sym others) ∙ sym (stopped_same n.state t.state now.state) ∙ ap stopped_by is ∙ freed_roots stores r.state)

  -- ---- a step

  answer_adds : (a : ℕ) (step : Asked (List ℕ)) (told : Result Done Refusal) → Answers of_files a step told m n → AddsToAnswer a step told m t
  answer_adds a step (Ok answer) does = done_adds a step answer does
  answer_adds a step (Err refusal) refuses = all_refused a step refusal refuses

  state_adds : (s : RunState (List ℕ)) (a : ℕ) (step : Asked (List ℕ)) (told : Result Done Refusal) → ByState of_files s a step told m n → AddsToAnswer a step told m t
  state_adds Running a step told by = answer_adds a step told by
  state_adds (Stopped other stores) a step told (is, others) =
      subst (λ (x : Result Done Refusal). AddsToAnswer a step x m t) (sym is) (when_stopped a step m.acknowledged)

  pub legal_adds : (step : Asked (List ℕ)) (a : ℕ) (told : Result Done Refusal) → LegalBy of_files step a told m n → AddsBy step a told m r t
  legal_adds asked.Reopen a told legal = opening_adds told legal
  legal_adds step a told legal = state_adds m.state a step told legal

pub adds_no_more : AddsNoMore
adds_no_more s m n r t was legal now = legal_adds m n r t was now s.asked s.actor s.answer legal

-- A collection that runs, step by step: what held of it since it began holds after each step; and at its end it has done what it selected.
use Rattle.store_machine.proofs.Prelude.{AllByRecursion, Bool, Chooses, Collection, ContainerLiveness, Contains, Contains-append_cases, Contains-append_left, Contains-push, Contains-push_cases, Copies, EachOnce, FlushContainer, Flushes, FreeContainer, GoesOver, HasIds, HeaderValue, IsWrittenBy, Kind, Machine, Makes, Marks, Phase, Records, Releases, Segment, Some, Store, StoreChange, Sweep, Sweeping, TakesKey, Values, [], ap, arith, cases_eq, false, first_free, free_slots, freed_in, get_or, header_of, inl, inr, keys_of, keys_written, last_by, length, map, marking, nat_lt, next_of, no_sweep, refl, segment_key, sources_in, subst, suc, sym, true, with_slot, zero, ℕ, ⊎_elim, ◌++◌, ◌+◌, ◌<◌, ◌↔◌, ◌∙◌, ◌∷◌, ◌≡◌, ◌≢◌, ◌≤◌, ◌⊎◌}
use Rattle.std.proofs.Common.{List, ◌&&◌}
use Rattle.std.proofs.lemmas.List.{append-nil, length-append, length_push}
use Rattle.std.proofs.lemmas.Option.{same_Some}
use Rattle.std.proofs.lemmas.Bool.{ltb-true}
use Rattle.std.proofs.lemmas.List.Elements.{Contains-append_right, Contains-get_or}
use Rattle.gc_select.specs.Selecting.{IsSelectedId, is_selected}
use Rattle.gc_select.proofs.Chosen.{chosen_which}
use Rattle.refusals.specs.declared.refusal.Phase.TheVariants as phases
use Rattle.store_machine.specs.Collecting.{Went}
use Rattle.store_machine.specs.Machine.{Stage}
use Rattle.store_machine.proofs.Beside.{SameStore}
use Rattle.store_machine.proofs.Released.{all_freed_in, all_in, as_many, last_by_freeing, no_keys_written, none_by_freeing}
use Rattle.store_machine.proofs.Since.{HoldsSince, all_less, one_since, same_since}
use Rattle.store_machine.proofs.Swept.{Adds, AtStage, SweepsSince, none_ready, by_more, ends_by, filled_at, freed_more, in_cases, none_filled, none_in, once_both, takes_all, written_more}

-- ---- words

same_words : (A B C : HeaderValue → Type 0) → ((h : HeaderValue) → A h ↔ B h) → (h : HeaderValue) → (A h ⊎ C h) ↔ (B h ⊎ C h)
same_words A B C words h = (⊎_elim (λ a. inl ((words h).0 a)) (λ c. inr c), ⊎_elim (λ b. inl ((words h).1 b)) (λ c. inr c))

flip : {A B C : Type 0} → (A ↔ B) → (A ↔ C) → B ↔ C
flip one other = (λ b. other.0 (one.1 b), λ x. one.0 (other.1 x))

-- ---- what holds

module _ {V R : Type 0} where
  -- Of a machine m at which a collection had begun, and one since: S are the containers that were sealed since, and T the keys that copying
  -- steps took.
  pub record Since (m k : Machine V R) (c : Collection V) (S : HeaderValue → Type 0) (T : List ℕ → Type 0) : Type 0 where
    pub ran : k.collection ≡ Some c
    pub snapshot_is : c.snapshot ≡ suc m.last_id
    pub gone : List ℕ
    pub holds : HoldsSince m k (λ h. S h ⊎ IsWrittenBy c.changes h) gone
    pub freed : freed_in c.changes ≡ length gone
    pub keys : (key : List ℕ) → T key ↔ (Contains (keys_written c.changes) key ⊎ Contains (filled_at c.stage) key)
    pub once : EachOnce (keys_written c.changes)
    pub filled_once : EachOnce (filled_at c.stage)
    pub stage : AtStage c gone c.stage

  module _ (m k n : Machine V R) (c : Collection V) (S S' : HeaderValue → Type 0) (T T' : List ℕ → Type 0) (since : Since m k c S T)
      (words : (h : HeaderValue) → S h ↔ S' h) (keys : (key : List ℕ) → T key ↔ T' key) where
    -- nothing of it changed
    pub still : SameStore k n → Since m n c S' T'
    still same = record {
      ran = same.collection ∙ since.ran;
      snapshot_is = since.snapshot_is;
      gone = since.gone;
      holds = same_since m k n (λ h. S h ⊎ IsWrittenBy c.changes h) (λ h. S' h ⊎ IsWrittenBy c.changes h) since.gone since.holds same.held same.last
          (same_words S S' (IsWrittenBy c.changes) words);
      freed = since.freed;
      keys = λ key. flip (keys key) (since.keys key);
      once = since.once;
      filled_once = since.filled_once;
      stage = since.stage;
    }

    -- nothing but the keys that are needed, and the containers stay
    pub kept : (needed : List (List ℕ)) → n.collection ≡ Some (record c { keys = needed }) → n.store.held ≡ k.store.held → n.last_id ≡ k.last_id
        → Since m n (record c { keys = needed }) S' T'
    kept needed runs held last = record {
      ran = runs;
      snapshot_is = since.snapshot_is;
      gone = since.gone;
      holds = same_since m k n (λ h. S h ⊎ IsWrittenBy c.changes h) (λ h. S' h ⊎ IsWrittenBy c.changes h) since.gone since.holds held last
          (same_words S S' (IsWrittenBy c.changes) words);
      freed = since.freed;
      keys = λ key. flip (keys key) (since.keys key);
      once = since.once;
      filled_once = since.filled_once;
      stage = since.stage;
    }

  -- one more container was sealed
  pub sealed : (m k n : Machine V R) (c : Collection V) (S S' : HeaderValue → Type 0) (T T' : List ℕ → Type 0) → Since m k c S T
      → (needed : List (List ℕ)) → n.collection ≡ Some (record c { keys = needed }) → (h : HeaderValue) → 1 ≤ free_slots k.store.held → h.id ≡ suc k.last_id
      → n.store.held ≡ with_slot (first_free k.store.held) h k.store.held → n.last_id ≡ suc k.last_id
      → ((g : HeaderValue) → S' g ↔ (S g ⊎ (g ≡ h))) → ((key : List ℕ) → T key ↔ T' key) → Since m n (record c { keys = needed }) S' T'
  sealed m k n c S S' T T' since needed runs h some id_is held last words keys = record {
    ran = runs;
    snapshot_is = since.snapshot_is;
    gone = since.gone;
    holds = one_since m k n (λ g. S g ⊎ IsWrittenBy c.changes g) (λ g. S' g ⊎ IsWrittenBy c.changes g) since.gone since.holds h some id_is held last one_more;
    freed = since.freed;
    keys = λ key. flip (keys key) (since.keys key);
    once = since.once;
    filled_once = since.filled_once;
    stage = since.stage;
  }
    where
      one_more : (g : HeaderValue) → (S' g ⊎ IsWrittenBy c.changes g) ↔ ((S g ⊎ IsWrittenBy c.changes g) ⊎ (g ≡ h))
      one_more g = (to, from)
        where
          to : S' g ⊎ IsWrittenBy c.changes g → (S g ⊎ IsWrittenBy c.changes g) ⊎ (g ≡ h)
          to (inl is) = ⊎_elim (λ was. inl (inl was)) (λ new. inr new) ((words g).0 is)
          to (inr is) = inl (inr is)

          from : (S g ⊎ IsWrittenBy c.changes g) ⊎ (g ≡ h) → S' g ⊎ IsWrittenBy c.changes g
          from (inl (inl is)) = inl ((words g).1 (inl is))
          from (inl (inr is)) = inr is
          from (inr is) = inl ((words g).1 (inr is))

-- ---- steps of the collection

-- only a copying step takes keys
abbrev IsCopying : Stage → Type 0
IsCopying (Sweeping phases.Copy s) = Unit {0}
IsCopying stage = ⊥

and_first : (a b : Bool) → (a && b) ≡ true → a ≡ true
and_first true b is = refl
and_first false b is = is

no_more : (xs : List StoreChange) → xs ++ [] ≡ xs
no_more [] = refl
no_more (x ∷ xs) = ap (λ (l : List StoreChange). x ∷ l) (no_more xs)

module _ {V R : Type 0} where
  -- Nothing is written, given back or filled: it marks, records, or chooses.
  pub unchanged : (m k n : Machine V R) (c : Collection V) (S S' : HeaderValue → Type 0) (T T' : List ℕ → Type 0) (since : Since m k c S T)
      (st : Stage) (recorded : List ContainerLiveness) → n.store ≡ k.store → n.last_id ≡ k.last_id
      → n.collection ≡ Some (record c { stage = st; recorded = recorded; changes = c.changes ++ [] })
      → filled_at c.stage ≡ [] → filled_at st ≡ [] → AtStage (record c { stage = st; recorded = recorded }) since.gone st
      → ((h : HeaderValue) → S h ↔ S' h) → ((key : List ℕ) → T key ↔ T' key)
      → Since m n (record c { stage = st; recorded = recorded }) S' T'
  unchanged m k n c S S' T T' since st recorded store last runs none none_now at words keys = record {
    ran = runs ∙ ap (λ (ch : List StoreChange). Some (record c { stage = st; recorded = recorded; changes = ch })) (no_more c.changes);
    snapshot_is = since.snapshot_is;
    gone = since.gone;
    holds = same_since m k n (λ h. S h ⊎ IsWrittenBy c.changes h) (λ h. S' h ⊎ IsWrittenBy c.changes h) since.gone since.holds (ap (λ (s : Store). s.held) store) last
        (same_words S S' (IsWrittenBy c.changes) words);
    freed = since.freed;
    keys =
        λ key. flip (keys key) (subst (λ (filled : List (List ℕ)). T key ↔ (Contains (keys_written c.changes) key ⊎ Contains filled key)) (none ∙ sym none_now) (since.keys key));
    once = since.once;
    filled_once = subst EachOnce (sym none_now) tt;
    stage = at;
  }

  taken_copying : (k n : Machine V R) (c : Collection V) (key : List ℕ) → k.collection ≡ Some c → TakesKey k n key → IsCopying c.stage
  taken_copying k n c key ran takes =
      subst (λ (x : Collection V). IsCopying x.stage) (same_Some takes.before c (sym takes.ran ∙ ran)) (subst IsCopying (sym takes.was) tt)

  -- what a step of the collection makes of the machine
  pub record Steps (k n : Machine V R) (c : Collection V) (w : Went) : Type 0 where
    pub makes : Makes w.changes k.store n.store
    pub last : n.last_id ≡ last_by w.changes k.last_id
    pub runs : n.collection ≡ Some (record c { stage = w.stage; recorded = w.recorded; changes = c.changes ++ w.changes })

  module _ (v : Values V R) (known : v.Known) (m k n : Machine V R) (c : Collection V) (S S' : HeaderValue → Type 0) (T T' : List ℕ → Type 0) (since : Since m k c S T)
      (w : Went) (steps : Steps k n c w) (words : (h : HeaderValue) → S h ↔ S' h)
      (taken : (key : List ℕ) → T' key ↔ (T key ⊎ TakesKey k n key)) where
    none_taken : (IsCopying c.stage → ⊥) → (key : List ℕ) → T key ↔ T' key
    none_taken other key = ((λ was. (taken key).1 (inl was)), (λ is. ⊎_elim (λ was. was) (λ takes. absurd (other (taken_copying k n c key since.ran takes))) ((taken key).0 is)))

    -- nothing was written or given back
    none_made : w.changes ≡ [] → (n.store ≡ k.store) × (n.last_id ≡ k.last_id)
    none_made none = (subst (λ (ch : List StoreChange). Makes ch k.store n.store) none steps.makes, steps.last ∙ ap (λ (ch : List StoreChange). last_by ch k.last_id) none)

    ran_so : (st : Stage) (recorded : List ContainerLiveness) → w.changes ≡ [] → w.stage ≡ st → w.recorded ≡ recorded
        → n.collection ≡ Some (record c { stage = st; recorded = recorded; changes = c.changes ++ [] })
    ran_so st recorded none stage_is recorded_is =
        steps.runs ∙ (λ i. Some (record c { stage = stage_is i; recorded = recorded_is i; changes = c.changes ++ none i }))

    pub marked : Marks v c k w → Since m n (record c { stage = w.stage; recorded = w.recorded }) S' T'
    marked (left, stage, next, (recorded, changes, forgotten)) =
        let made = none_made changes in
        let gone : since.gone ≡ [] = subst (AtStage c since.gone) stage since.stage in
        unchanged m k n c S S' T T' since w.stage w.recorded made.0 made.1 (ran_so w.stage w.recorded changes refl refl)
        (ap filled_at stage) (ap filled_at next ∙ none_filled left)
        (subst (AtStage (record c { stage = w.stage; recorded = w.recorded }) since.gone) (sym next) (at_left left gone))
        words (none_taken (λ copying. subst IsCopying stage copying))
      where
        at_left : (l : ℕ) → since.gone ≡ [] → AtStage (record c { stage = w.stage; recorded = w.recorded }) since.gone (marking l)
        at_left zero gone = gone
        at_left (suc l) gone = gone

    pub recorded_one : Records v c k w → Since m n (record c { stage = w.stage; recorded = w.recorded }) S' T'
    recorded_one (one, stage, next, recorded, changes, forgotten, order, is) =
        let made = none_made changes in
        let gone : since.gone ≡ [] = subst (AtStage c since.gone) stage since.stage in
        unchanged m k n c S S' T T' since w.stage w.recorded made.0 made.1 (ran_so w.stage w.recorded changes refl refl)
        (ap filled_at stage) (ap filled_at next) (subst (AtStage (record c { stage = w.stage; recorded = w.recorded }) since.gone) (sym next) gone)
        words (none_taken (λ copying. subst IsCopying stage copying))

    pub chosen : Chooses v c k w → Since m n (record c { stage = w.stage; recorded = w.recorded }) S' T'
    chosen (stage, all, next, (recorded, changes, forgotten)) =
        let made = none_made changes in
        let gone : since.gone ≡ [] = subst (AtStage c since.gone) stage since.stage in
        let first = next_of k.store.held (sources_in c) no_sweep in
        let begins : AtStage (record c { stage = w.stage; recorded = c.recorded }) since.gone (Sweeping first no_sweep) = record {
          before = omega arith;
          counted = omega (arith, ap length gone);
          into = λ i few. absurd (omega (arith, few));
          from = λ id is. absurd (⊎_elim (λ one. none_in id (subst (λ (ids : List ℕ). Contains ids id) gone one)) (λ more. ⊎_elim (none_in id) (none_in id) more) is);
          waits = λ none. refl;
          flushes = λ is. refl;
          ends = λ is. ends_by k.store.held (sources_in c) 0 [] [] is;
        } in
        unchanged m k n c S S' T T' since w.stage w.recorded made.0 made.1 (ran_so w.stage w.recorded changes refl refl)
        (ap filled_at stage) (ap filled_at next)
        (subst (λ (rs : List ContainerLiveness). AtStage (record c { stage = w.stage; recorded = rs }) since.gone w.stage) (sym recorded)
        (subst (AtStage (record c { stage = w.stage; recorded = c.recorded }) since.gone) (sym next) begins))
        words (none_taken (λ copying. subst IsCopying stage copying))

    abbrev after : Collection V
    after = record c { stage = w.stage; recorded = w.recorded; changes = c.changes ++ w.changes }

    -- ---- a copying step

    module _ (s t : Sweep) (next : Phase) (was : c.stage ≡ Sweeping phases.Copy s) (is : w.stage ≡ Sweeping next t) (recorded : w.recorded ≡ c.recorded)
        (changes : w.changes ≡ []) (over : GoesOver v c k.store s t k.forgotten w.forgotten) where
      adds : Adds v c k.store over.slot over.header.kind s.filled t.filled
      adds = takes_all v c k.store over.slot over.header.kind _ _ _ over.takes

      swept : SweepsSince (sources_in c) since.gone phases.Copy s
      swept = subst (AtStage c since.gone) was since.stage

      had : (key : List ℕ) → T key ↔ (Contains (keys_written c.changes) key ⊎ Contains s.filled key)
      had key = subst (λ (st : Stage). T key ↔ (Contains (keys_written c.changes) key ⊎ Contains (filled_at st) key)) was (since.keys key)

      takes_it : (key : List ℕ) → ¬ (Contains s.filled key) → Contains t.filled key → TakesKey k n key
      takes_it key new there = record { before = c; after = after; ran = since.ran; runs = steps.runs; s = s; t = t; next = next; was = was; is = is; new = new; taken = there }

      takes_there : (key : List ℕ) → TakesKey k n key → Contains t.filled key
      takes_there key x =
          let same : x.after ≡ after = same_Some x.after after (sym x.runs ∙ steps.runs) in
          let sweep : Sweeping x.next x.t ≡ Sweeping next t = sym x.is ∙ ap (λ (y : Collection V). y.stage) same ∙ is in
          subst (λ (y : Sweep). Contains y.filled key) (let one : x.t ≡ t = cc in one) x.taken

      now_keys : (key : List ℕ) → T' key ↔ (Contains (keys_written c.changes) key ⊎ Contains t.filled key)
      now_keys key = (to, from)
        where
          by_had : Contains (keys_written c.changes) key ⊎ Contains s.filled key → Contains (keys_written c.changes) key ⊎ Contains t.filled key
          by_had (inl one) = inl one
          by_had (inr one) = inr (adds.stays key one)

          to : T' key → Contains (keys_written c.changes) key ⊎ Contains t.filled key
          to one = ⊎_elim (λ old. by_had ((had key).0 old)) (λ x. inr (takes_there key x)) ((taken key).0 one)

          from : Contains (keys_written c.changes) key ⊎ Contains t.filled key → T' key
          from (inl one) = (taken key).1 (inl ((had key).1 (inl one)))
          from (inr one) = ⊎_elim (λ old. (taken key).1 (inl ((had key).1 (inr old)))) (λ new. (taken key).1 (inr (takes_it key new one))) (adds.cases key one)

      pub copied : SweepsSince (sources_in c) since.gone next t → Since m n (record c { stage = w.stage; recorded = w.recorded }) S' T'
      copied at = record {
        ran =
            ran_so w.stage w.recorded changes refl refl
            ∙ ap (λ (ch : List StoreChange). Some (record c { stage = w.stage; recorded = w.recorded; changes = ch })) (no_more c.changes);
        snapshot_is = since.snapshot_is;
        gone = since.gone;
        holds = let made = none_made changes in
            same_since m k n (λ h. S h ⊎ IsWrittenBy c.changes h) (λ h. S' h ⊎ IsWrittenBy c.changes h) since.gone since.holds (ap (λ (x : Store). x.held) made.0) made.1
            (same_words S S' (IsWrittenBy c.changes) words);
        freed = since.freed;
        keys = λ key. subst (λ (st : Stage). T' key ↔ (Contains (keys_written c.changes) key ⊎ Contains (filled_at st) key)) (sym is) (now_keys key);
        once = since.once;
        filled_once = subst (λ (st : Stage). EachOnce (filled_at st)) (sym is) (adds.once (subst (λ (st : Stage). EachOnce (filled_at st)) was since.filled_once));
        stage = subst (AtStage (record c { stage = w.stage; recorded = w.recorded }) since.gone) (sym is)
            (subst (λ (rs : List ContainerLiveness). SweepsSince (sources_in (record c { stage = w.stage; recorded = rs })) since.gone next t) (sym recorded) at);
      }

      -- where a source came to its end: the ids of those that did are given back, wait or are ready
      one_more : s.source < length (sources_in c) → s.ready ≡ [] → t.source ≡ suc s.source → (waiting ready : List ℕ)
          → t.waiting ≡ waiting → t.ready ≡ ready → ((id : ℕ) → Contains s.waiting id → Contains waiting id)
          → Contains waiting (get_or (sources_in c) s.source 0) ⊎ Contains ready (get_or (sources_in c) s.source 0)
          → ((id : ℕ) → Contains waiting id ⊎ Contains ready id → Contains s.waiting id ⊎ (get_or (sources_in c) s.source 0 ≡ id))
          → length waiting + length ready ≡ suc (length s.waiting) → (t.filled ≡ [] → t.waiting ≡ []) → next ≡ next_of k.store.held (sources_in c) t
          → SweepsSince (sources_in c) since.gone next t
      one_more left none source waiting ready waiting_is ready_is wider here only count waits next_is = record {
        before = omega (arith, left, source);
        counted = omega (arith, swept.counted, ap length none, source, count, ap length waiting_is, ap length ready_is);
        into = λ i few. into_by i (cases_eq i s.source) few;
        from = λ id one. from_by id one;
        waits = waits;
        flushes = λ flush. flush_by (next_is_flush flush);
        ends = λ end. ends_by k.store.held (sources_in c) t.source t.ready t.filled (sym next_is ∙ end);
      }
        where
          id : ℕ
          id = get_or (sources_in c) s.source 0

          next_is_flush : next ≡ phases.Flush → next_of k.store.held (sources_in c) t ≡ phases.Flush
          next_is_flush flush = sym next_is ∙ flush

          flush_by : next_of k.store.held (sources_in c) t ≡ phases.Flush → t.ready ≡ []
          flush_by flush = none_ready k.store.held (sources_in c) t.source t.ready t.filled flush

          to_now : (x : ℕ) → Contains since.gone x ⊎ Contains s.waiting x ⊎ Contains s.ready x → Contains since.gone x ⊎ Contains t.waiting x ⊎ Contains t.ready x
          to_now x (inl one) = inl one
          to_now x (inr (inl one)) = inr (inl (subst (λ (ids : List ℕ). Contains ids x) (sym waiting_is) (wider x one)))
          to_now x (inr (inr one)) = absurd (none_in x (subst (λ (ids : List ℕ). Contains ids x) none one))

          into_by : (i : ℕ) → (i ≡ s.source) ⊎ (i ≢ s.source) → i < t.source
              → Contains since.gone (get_or (sources_in c) i 0) ⊎ Contains t.waiting (get_or (sources_in c) i 0) ⊎ Contains t.ready (get_or (sources_in c) i 0)
          into_by i (inl same) few = inr (subst (λ (j : ℕ). Contains t.waiting (get_or (sources_in c) j 0) ⊎ Contains t.ready (get_or (sources_in c) j 0)) (sym same)
              (⊎_elim (λ one. inl (subst (λ (ids : List ℕ). Contains ids id) (sym waiting_is) one))
              (λ one. inr (subst (λ (ids : List ℕ). Contains ids id) (sym ready_is) one)) here))
          into_by i (inr other) few = to_now (get_or (sources_in c) i 0) (swept.into i (omega (arith, few, source, other)))

          from_by : (x : ℕ) → Contains since.gone x ⊎ Contains t.waiting x ⊎ Contains t.ready x → Contains (sources_in c) x
          from_by x (inl one) = swept.from x (inl one)
          from_by x (inr one) = ⊎_elim (λ was_waiting. swept.from x (inr (inl was_waiting)))
              (λ same. subst (Contains (sources_in c)) same (Contains-get_or (sources_in c) s.source 0 left))
              (only x (⊎_elim (λ a. inl (subst (λ (ids : List ℕ). Contains ids x) waiting_is a)) (λ a. inr (subst (λ (ids : List ℕ). Contains ids x) ready_is a)) one))

    pub copied_by : Copies v c k w → Since m n (record c { stage = w.stage; recorded = w.recorded }) S' T'
    copied_by (s, t, next, was, is, recorded, changes, left, none, more, over, inl (source, entry, next_is, inl (grown, waiting, ready))) =
        let id = get_or (sources_in c) s.source 0 in
        copied s t next was is recorded changes (over known) (one_more s t next was is recorded changes (over known) left none source (s.waiting ++ id ∷ []) [] waiting ready
        (λ x one. Contains-append_left s.waiting (id ∷ []) x one) (inl (Contains-push s.waiting id))
        (λ x one. ⊎_elim (λ a. Contains-push_cases s.waiting id x a) (λ b. absurd (none_in x b)) one)
        (omega (arith, length_push s.waiting id)) (λ empty. absurd (omega (arith, grown, ap length empty))) next_is)
    copied_by (s, t, next, was, is, recorded, changes, left, none, more, over, inl (source, entry, next_is, inr (inl (filled, waiting, ready)))) =
        let id = get_or (sources_in c) s.source 0 in
        copied s t next was is recorded changes (over known) (one_more s t next was is recorded changes (over known) left none source s.waiting (id ∷ []) waiting ready
        (λ x one. one) (inr (0, omega arith, refl))
        (λ x one. ⊎_elim (λ a. inl a) (λ b. ⊎_elim (λ same. inr same) (λ c. absurd (none_in x c)) (in_cases id [] x b)) one)
        (omega arith) (λ empty. waiting ∙ (swept s t next was is recorded changes (over known)).waits (sym filled ∙ empty)) next_is)
    copied_by (s, t, next, was, is, recorded, changes, left, none, more, over, inl (source, entry, next_is, inr (inr (unknown, filled, waiting, ready)))) = absurd (unknown known)
    copied_by (s, t, next, was, is, recorded, changes, left, none, more, over, inr (source, entry, flush, filled, filled_now, waiting, ready)) =
        let so = swept s t next was is recorded changes (over known) in
        copied s t next was is recorded changes (over known) (record {
          before = omega (arith, so.before, source);
          counted = omega (arith, so.counted, ap length none, source, ap length waiting, ap length ready);
          into = λ i few. ⊎_elim (λ a. inl a) (λ b. inr (⊎_elim (λ one. inl (subst (λ (ids : List ℕ). Contains ids (get_or (sources_in c) i 0)) (sym waiting) one))
              (λ one. absurd (none_in _ (subst (λ (ids : List ℕ). Contains ids (get_or (sources_in c) i 0)) none one))) b)) (so.into i (omega (arith, few, source)));
          from = λ id one. so.from id (⊎_elim (λ a. inl a) (λ b. inr (⊎_elim (λ x. inl (subst (λ (ids : List ℕ). Contains ids id) waiting x))
              (λ x. absurd (none_in id (subst (λ (ids : List ℕ). Contains ids id) ready x))) b)) one);
          waits = λ empty. absurd (filled_now empty);
          flushes = λ same. ready;
          ends = λ end. absurd (let wrong : phases.Flush ≡ phases.End = sym flush ∙ end in cc);
        })

    -- ---- a step that writes

    -- a key of the segments is that of one of them
    none_of : (kind : Kind) (written : List (List ℕ)) (segments : List Segment) (P : Segment → Type 0)
        → AllByRecursion (λ x. ¬ (Contains written (segment_key kind x)) × P x) segments → (key : List ℕ) → Contains (keys_of kind segments) key → ¬ (Contains written key)
    none_of kind written [] P all key is = absurd (none_in key is)
    none_of kind written (x ∷ xs) P all key is =
        ⊎_elim (λ same. subst (λ (q : List ℕ). ¬ (Contains written q)) same all.0.0) (λ rest. none_of kind written xs P all.1 key rest)
        (in_cases (segment_key kind x) (keys_of kind xs) key is)

    pub flushed : Flushes v c k w → Since m n after S' T'
    flushed (s, t, kind, segments, was, changes, keys, t_is, next, recorded, forgotten, held) =
        let made : Makes (FlushContainer (suc k.last_id) kind segments ∷ []) k.store n.store = subst (λ (ch : List StoreChange). Makes ch k.store n.store) changes steps.makes in
        let h : HeaderValue = header_of (suc k.last_id) kind segments in
        let so : SweepsSince (sources_in c) since.gone phases.Flush s = subst (AtStage c since.gone) was since.stage in
        let written : keys_written (c.changes ++ w.changes) ≡ keys_written c.changes ++ s.filled =
        ap (λ (ch : List StoreChange). keys_written (c.changes ++ ch)) changes ∙ written_more c.changes (FlushContainer (suc k.last_id) kind segments ∷ [])
        ∙ ap (λ (ks : List (List ℕ)). keys_written c.changes ++ ks) (append-nil (keys_of kind segments) ∙ keys) in
        let apart : (key : List ℕ) → Contains s.filled key → ¬ (Contains (keys_written c.changes) key) =
        λ key one. none_of kind (keys_written c.changes) segments _ (held known) key (subst (λ (ks : List (List ℕ)). Contains ks key) (sym keys) one) in
        record {
          ran = steps.runs;
          snapshot_is = since.snapshot_is;
          gone = since.gone;
          holds = one_since m k n (λ g. S g ⊎ IsWrittenBy c.changes g) (λ g. S' g ⊎ IsWrittenBy (c.changes ++ w.changes) g) since.gone since.holds h
              (omega (arith, made.0.slot)) refl (ap (λ (x : Store). x.held) made.1) (steps.last ∙ ap (λ (ch : List StoreChange). last_by ch k.last_id) changes)
              (λ g. subst (λ (ch : List StoreChange). (S' g ⊎ IsWrittenBy (c.changes ++ ch) g) ↔ ((S g ⊎ IsWrittenBy c.changes g) ⊎ (g ≡ h))) (sym changes) (one_more_by g));
          freed =
              ap (λ (ch : List StoreChange). freed_in (c.changes ++ ch)) changes ∙ freed_more c.changes (FlushContainer (suc k.last_id) kind segments ∷ [])
              ∙ plus_none (freed_in c.changes) ∙ since.freed;
          keys =
              λ key. keys_by s key written next t_is (subst (λ (st : Stage). T key ↔ (Contains (keys_written c.changes) key ⊎ Contains (filled_at st) key)) was (since.keys key))
              (none_taken (λ copying. subst IsCopying was copying) key);
          once =
              subst EachOnce (sym written) (once_both (keys_written c.changes) s.filled since.once (subst (λ (st : Stage). EachOnce (filled_at st)) was since.filled_once) apart);
          filled_once = subst (λ (st : Stage). EachOnce (filled_at st)) (sym next) (subst (λ (x : Sweep). EachOnce x.filled) (sym t_is) tt);
          stage = subst (λ (st : Stage). AtStage after since.gone st) (sym next)
              (subst (λ (rs : List ContainerLiveness). SweepsSince (sources_in (record after { recorded = rs })) since.gone (next_of k.store.held (sources_in c) t) t)
              (sym recorded) (swept_now s t t_is so));
        }
      where
        plus_none : (a : ℕ) → a + 0 ≡ a
        plus_none a = omega arith

        one_more_by : (g : HeaderValue) → (S' g ⊎ IsWrittenBy (c.changes ++ FlushContainer (suc k.last_id) kind segments ∷ []) g)
            ↔ ((S g ⊎ IsWrittenBy c.changes g) ⊎ (g ≡ header_of (suc k.last_id) kind segments))
        one_more_by g = (to, from)
          where
            more : IsWrittenBy (c.changes ++ FlushContainer (suc k.last_id) kind segments ∷ []) g ↔ (IsWrittenBy c.changes g ⊎ ((g ≡ header_of (suc k.last_id) kind segments) ⊎ ⊥))
            more = by_more c.changes (FlushContainer (suc k.last_id) kind segments ∷ []) g

            to : S' g ⊎ IsWrittenBy (c.changes ++ FlushContainer (suc k.last_id) kind segments ∷ []) g
                → (S g ⊎ IsWrittenBy c.changes g) ⊎ (g ≡ header_of (suc k.last_id) kind segments)
            to (inl one) = inl (inl ((words g).1 one))
            to (inr one) = ⊎_elim (λ old. inl (inr old)) (λ new. ⊎_elim (λ same. inr same) (λ none. absurd none) new) (more.0 one)

            from : (S g ⊎ IsWrittenBy c.changes g) ⊎ (g ≡ header_of (suc k.last_id) kind segments)
                → S' g ⊎ IsWrittenBy (c.changes ++ FlushContainer (suc k.last_id) kind segments ∷ []) g
            from (inl (inl one)) = inl ((words g).0 one)
            from (inl (inr one)) = inr (more.1 (inl one))
            from (inr same) = inr (more.1 (inr (inl same)))

        keys_by : (s : Sweep) (key : List ℕ) → keys_written (c.changes ++ w.changes) ≡ keys_written c.changes ++ s.filled
            → w.stage ≡ Sweeping (next_of k.store.held (sources_in c) t) t → t ≡ record s { filled = []; waiting = []; ready = s.waiting }
            → T key ↔ (Contains (keys_written c.changes) key ⊎ Contains s.filled key) → T key ↔ T' key
            → T' key ↔ (Contains (keys_written (c.changes ++ w.changes)) key ⊎ Contains (filled_at w.stage) key)
        keys_by s key written next t_is had kept = (to, from)
          where
            emptied : filled_at w.stage ≡ []
            emptied = ap filled_at next ∙ ap (λ (x : Sweep). x.filled) t_is

            to : T' key → Contains (keys_written (c.changes ++ w.changes)) key ⊎ Contains (filled_at w.stage) key
            to one = inl (subst (λ (ks : List (List ℕ)). Contains ks key) (sym written)
                (⊎_elim (λ a. Contains-append_left (keys_written c.changes) s.filled key a) (λ b. Contains-append_right (keys_written c.changes) s.filled key b)
                (had.0 (kept.1 one))))

            from : Contains (keys_written (c.changes ++ w.changes)) key ⊎ Contains (filled_at w.stage) key → T' key
            from (inl one) = kept.0 (had.1 (Contains-append_cases (keys_written c.changes) s.filled key (subst (λ (ks : List (List ℕ)). Contains ks key) written one)))
            from (inr one) = absurd (none_in key (subst (λ (ks : List (List ℕ)). Contains ks key) emptied one))

        swept_now : (s t : Sweep) → t ≡ record s { filled = []; waiting = []; ready = s.waiting } → SweepsSince (sources_in c) since.gone phases.Flush s
            → SweepsSince (sources_in c) since.gone (next_of k.store.held (sources_in c) t) t
        swept_now s t t_is so = subst (λ (x : Sweep). SweepsSince (sources_in c) since.gone (next_of k.store.held (sources_in c) x) x) (sym t_is) (record {
          before = so.before;
          counted = omega (arith, so.counted, ap length (so.flushes refl));
          into =
              λ i few. ⊎_elim (λ a. inl a)
              (λ b. inr (inr (⊎_elim (λ one. one) (λ one. absurd (none_in _ (subst (λ (ids : List ℕ). Contains ids (get_or (sources_in c) i 0)) (so.flushes refl) one))) b)))
              (so.into i few);
          from = λ id one. so.from id (⊎_elim (λ a. inl a) (λ b. ⊎_elim (λ none. absurd (none_in id none)) (λ ready. inr (inl ready)) b) one);
          waits = λ none. refl;
          flushes = λ flush. none_ready k.store.held (sources_in c) s.source s.waiting [] flush;
          ends = λ end. ends_by k.store.held (sources_in c) s.source s.waiting [] end;
        })

    pub released : HasIds m.store m.last_id → Releases v c k w → Since m n after S' T'
    released ids (s, t, slots, was, some, stand, changes, t_is, next, recorded, forgotten, spare) =
        let made : Makes (map FreeContainer slots) k.store n.store = subst (λ (ch : List StoreChange). Makes ch k.store n.store) changes steps.makes in
        let so : SweepsSince (sources_in c) since.gone phases.Release s = subst (AtStage c since.gone) was since.stage in
        let written : keys_written (c.changes ++ w.changes) ≡ keys_written c.changes =
        ap (λ (ch : List StoreChange). keys_written (c.changes ++ ch)) changes ∙ written_more c.changes (map FreeContainer slots)
        ∙ ap (λ (ks : List (List ℕ)). keys_written c.changes ++ ks) (no_keys_written slots) ∙ append-nil (keys_written c.changes) in
        let filled : filled_at w.stage ≡ filled_at c.stage = ap filled_at next ∙ ap (λ (x : Sweep). x.filled) t_is ∙ sym (ap filled_at was) in
        record {
          ran = steps.runs;
          snapshot_is = since.snapshot_is;
          gone = since.gone ++ s.ready;
          holds = all_less m k n (λ g. S g ⊎ IsWrittenBy c.changes g) (λ g. S' g ⊎ IsWrittenBy (c.changes ++ w.changes) g) since.gone since.holds ids s.ready slots stand
              (all_in (λ id. id ≤ m.last_id) s.ready (λ id ready. old_source id (so.from id (inr (inr ready))))) made
              (steps.last ∙ ap (λ (ch : List StoreChange). last_by ch k.last_id) changes ∙ last_by_freeing slots k.last_id)
              (λ g. subst (λ (ch : List StoreChange). (S g ⊎ IsWrittenBy c.changes g) ↔ (S' g ⊎ IsWrittenBy (c.changes ++ ch) g)) (sym changes) (same_written g slots));
          freed =
              omega (
                arith,
                ap (λ (ch : List StoreChange). freed_in (c.changes ++ ch)) changes,
                freed_more c.changes (map FreeContainer slots),
                all_freed_in slots,
                as_many k.store.held s.ready slots stand,
                since.freed,
                length-append since.gone s.ready,
              );
          keys = λ key. subst (λ (ks : List (List ℕ)). T' key ↔ (Contains ks key ⊎ Contains (filled_at w.stage) key)) (sym written)
              (subst (λ (ks : List (List ℕ)). T' key ↔ (Contains (keys_written c.changes) key ⊎ Contains ks key)) (sym filled)
              (flip (none_taken (λ copying. subst IsCopying was copying) key) (since.keys key)));
          once = subst EachOnce (sym written) since.once;
          filled_once = subst EachOnce (sym filled) since.filled_once;
          stage = subst (λ (st : Stage). AtStage after (since.gone ++ s.ready) st) (sym next)
              (subst (λ (rs : List ContainerLiveness). SweepsSince (sources_in (record after { recorded = rs })) (since.gone ++ s.ready) (next_of k.store.held (sources_in c) t) t)
              (sym recorded)
              (subst (λ (x : Sweep). SweepsSince (sources_in c) (since.gone ++ s.ready) (next_of k.store.held (sources_in c) x) x) (sym t_is) (swept_now s so)));
        }
      where
        old_source : (id : ℕ) → Contains (sources_in c) id → id ≤ m.last_id
        old_source id source =
            let one : IsSelectedId c.snapshot c.percent c.recorded id = (chosen_which c.snapshot c.percent c.recorded (sources_in c) refl id).0 source in
            omega (arith, since.snapshot_is, below one.1 id one.4.0 one.4.1)
          where
            below : (r : ContainerLiveness) (id : ℕ) → r.id ≡ id → is_selected c.snapshot c.percent r ≡ true → id < c.snapshot
            below r id same selected_is = omega (arith, same, ltb-true r.id c.snapshot (and_first (nat_lt r.id c.snapshot) _ selected_is))

        same_written : (g : HeaderValue) (slots : List ℕ) → (S g ⊎ IsWrittenBy c.changes g) ↔ (S' g ⊎ IsWrittenBy (c.changes ++ map FreeContainer slots) g)
        same_written g slots = (to, from)
          where
            more : IsWrittenBy (c.changes ++ map FreeContainer slots) g ↔ (IsWrittenBy c.changes g ⊎ IsWrittenBy (map FreeContainer slots) g)
            more = by_more c.changes (map FreeContainer slots) g

            to : S g ⊎ IsWrittenBy c.changes g → S' g ⊎ IsWrittenBy (c.changes ++ map FreeContainer slots) g
            to (inl one) = inl ((words g).0 one)
            to (inr one) = inr (more.1 (inl one))

            from : S' g ⊎ IsWrittenBy (c.changes ++ map FreeContainer slots) g → S g ⊎ IsWrittenBy c.changes g
            from (inl one) = inl ((words g).1 one)
            from (inr one) = ⊎_elim (λ old. inr old) (λ new. absurd (none_by_freeing slots g new)) (more.0 one)

        swept_now : (s : Sweep) → SweepsSince (sources_in c) since.gone phases.Release s
            → (let t : Sweep = record s { ready = [] } in SweepsSince (sources_in c) (since.gone ++ s.ready) (next_of k.store.held (sources_in c) t) t)
        swept_now s so = record {
          before = so.before;
          counted = omega (arith, so.counted, length-append since.gone s.ready);
          into = λ i few. ⊎_elim (λ a. inl (Contains-append_left since.gone s.ready _ a))
              (λ b. ⊎_elim (λ waiting. inr (inl waiting)) (λ ready. inl (Contains-append_right since.gone s.ready _ ready)) b) (so.into i few);
          from = λ x one. ⊎_elim (λ a. ⊎_elim (λ old. so.from x (inl old)) (λ ready. so.from x (inr (inr ready))) (Contains-append_cases since.gone s.ready x a))
              (λ b. ⊎_elim (λ waiting. so.from x (inr (inl waiting))) (λ none. absurd (none_in x none)) b) one;
          waits = so.waits;
          flushes = λ flush. none_ready k.store.held (sources_in c) s.source [] s.filled flush;
          ends = λ end. ends_by k.store.held (sources_in c) s.source [] s.filled end;
        }

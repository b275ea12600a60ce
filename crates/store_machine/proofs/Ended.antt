-- A collection from its beginning to its end, whatever steps come between.
use Rattle.store_machine.proofs.Prelude.{◌≡◌, ◌≢◌, ◌⊎◌, ◌↔◌, inl, inr, ⊎_elim, ℕ, zero, suc, [], ◌∷◌, ◌++◌, get_or, length, Contains, Some, Result, Ok, Err, refl, sym, ◌∙◌, ap, subst, arith, HeaderValue, header_of, Store, Phase, Refusal, Asked, AreBetween, EachOnce, HasContainer, HasIds, IsSealOf, TakesKey, Begins, GoesOn, freed_in, keys_written, marking, marks_of, sources_in, Done, ByState, Does, Legal, LegalBy, Collection, Machine, RunState, Running, Stepped, Stopped, Sweep, Sweeping, keeping, keys_kept, keys_of, values_read, Run, Values}
use Rattle.std.proofs.Common.{List}
use Rattle.std.specs.FinMap as finite
use Rattle.std.proofs.lemmas.Grind.{get_or_default_zero}
use Rattle.container_meta.specs.Segments.{Contents}
use Rattle.gc_select.specs.Selecting.{selected}
use Rattle.gc_select.proofs.Chosen.{sources_many}
use Rattle.refusals.specs.declared.refusal.Phase.TheVariants as phases
use Rattle.store_machine.specs.Asked as asked
use Rattle.store_machine.specs.Collected.{Collected, CollectsWhatItSelected, IsBetween, IsSealedBy, WasTaken}
use Rattle.store_machine.specs.Collecting.{Ends, Goes, Went}
use Rattle.store_machine.specs.Done as done
use Rattle.store_machine.specs.Offers.{AddsContainers, IsHeaderOfOne}
use Rattle.store_machine.proofs.Beside.{GoesBeside, SameStore, same_of, step_beside, step_state}
use Rattle.store_machine.proofs.Running.{Since, Steps, chosen, copied_by, flushed, kept, marked, recorded_one, released, sealed, still}
use Rattle.store_machine.proofs.Swept.{AtStage, SweepsSince, filled_at, none_filled, none_in}

abbrev IsGcStep : {V : Type 0} → Asked V → Type 0
IsGcStep asked.GcStep = Unit {0}
IsGcStep what = ⊥

is_gc_step : {V : Type 0} (what : Asked V) → (what ≡ asked.GcStep) ⊎ (what ≢ asked.GcStep)
is_gc_step asked.GcStep = inl refl
is_gc_step what = inr (λ is. subst IsGcStep (sym is) tt)

three : {A B C : Type 0} → ((A ⊎ B) ⊎ C) ↔ (A ⊎ (B ⊎ C))
three = (
  (λ x. ⊎_elim (λ y. ⊎_elim (λ a. inl a) (λ b. inr (inl b)) y) (λ c. inr (inr c)) x),
  (λ x. ⊎_elim (λ a. inl (inl a)) (λ y. ⊎_elim (λ b. inl (inr b)) (λ c. inr c) y) x),
)

module _ {V R : Type 0} (v : Values V R) (known : v.Known) (m : Machine V R) (ids : HasIds m.store m.last_id) where
  -- containers that were sealed, one after the other
  all_sealed : (a : ℕ) (cs : List Contents) (k n : Machine V R) (c : Collection V) (S : HeaderValue → Type 0) (T : List ℕ → Type 0) → Since m k c S T
      → AddsContainers a cs k n → (d : Collection V) × Since m n d (λ h. S h ⊎ IsHeaderOfOne k.last_id cs h) T
  all_sealed a [] k n c S T since is =
      (c, still m k n c S _ T T since (λ h. (inl, (λ x. ⊎_elim (λ was. was) (λ none. absurd none) x))) (λ key. ((λ x. x), (λ x. x))) (same_of k n is))
  all_sealed a (x ∷ xs) k n c S T since (mid, one, rest) =
      let h : HeaderValue = header_of (suc k.last_id) x.kind x.segments in
      let keys = keys_of x.kind x.segments in
      let last : mid.last_id ≡ suc k.last_id = ap (λ (y : Machine V R). y.last_id) one.others in
      let first : Since m mid (record c { keys = c.keys ++ keys }) (λ g. S g ⊎ (g ≡ h)) T =
      sealed m k mid c S _ T T since (c.keys ++ keys) (ap (λ (y : Machine V R). y.collection) one.others ∙ ap (keeping keys) since.ran) h (omega (arith, one.can.slot)) refl
      (ap (λ (y : Machine V R). y.store.held) one.others) last (λ g. ((λ x. x), (λ x. x))) (λ key. ((λ x. x), (λ x. x))) in
      let all = all_sealed a xs mid n _ _ T first rest in
      let more = subst (λ (l : ℕ). Since m n all.0 (λ g. (S g ⊎ (g ≡ h)) ⊎ IsHeaderOfOne l xs g) T) last all.1 in
      (all.0, still m n n all.0 _ _ T T more (λ g. three) (λ key. ((λ x. x), (λ x. x))) (same_of n n refl))

  -- what is so after a step
  abbrev Next : (s : Stepped V) (k n : Machine V R) (S : HeaderValue → Type 0) (T : List ℕ → Type 0) → Type 0
  Next s k n S T = (c : Collection V) × Since m n c (λ h. S h ⊎ IsSealOf s h) (λ key. T key ⊎ ((s.asked ≡ asked.GcStep) × TakesKey k n key))

  module _ (s : Stepped V) (k n : Machine V R) (c : Collection V) (S : HeaderValue → Type 0) (T : List ℕ → Type 0) (since : Since m k c S T) where
    -- a step of the collection seals nothing
    no_seal : s.asked ≡ asked.GcStep → (h : HeaderValue) → S h ↔ (S h ⊎ IsSealOf s h)
    no_seal gc h = (inl, (λ is. ⊎_elim (λ was. was) (λ seal. absurd (subst IsGcStep (gc_is seal) tt)) is))
      where
        gc_is : (seal : IsSealOf s h) → (let what : Asked V = asked.GcStep in what ≡ asked.Seal seal.offered)
        gc_is seal = sym gc ∙ seal.asked_is

    taken_by : s.asked ≡ asked.GcStep → (key : List ℕ) → (T key ⊎ ((s.asked ≡ asked.GcStep) × TakesKey k n key)) ↔ (T key ⊎ TakesKey k n key)
    taken_by gc key = ((λ is. ⊎_elim (λ was. inl was) (λ takes. inr takes.1) is), (λ is. ⊎_elim (λ was. inl was) (λ takes. inr (gc, takes)) is))

    -- one that goes on
    goes_on : s.asked ≡ asked.GcStep → (phase : Phase) → GoesOn v phase k n → Next s k n S T
    goes_on gc phase g = by phase g.went (subst (λ (x : Collection V). Goes v phase x k g.went) same g.goes)
      where
        same : g.c ≡ c
        same = (let both : Some g.c ≡ Some c = sym g.ran ∙ since.ran in cc)

        steps : Steps k n c g.went
        steps = record {
          makes = g.makes;
          last = ap (λ (x : Machine V R). x.last_id) g.others;
          runs = subst (λ (x : Collection V). n.collection ≡ Some (record x { stage = g.went.stage; recorded = g.went.recorded; changes = x.changes ++ g.went.changes })) same
              (ap (λ (x : Machine V R). x.collection) g.others);
        }

        by : (p : Phase) (w : Went) → Goes v p c k g.went → Next s k n S T
        by phases.Mark w is = (_, marked v known m k n c S _ T _ since g.went steps (no_seal gc) (taken_by gc) is)
        by phases.Filter w is = (_, recorded_one v known m k n c S _ T _ since g.went steps (no_seal gc) (taken_by gc) is)
        by phases.Select w is = (_, chosen v known m k n c S _ T _ since g.went steps (no_seal gc) (taken_by gc) is)
        by phases.Copy w is = (_, copied_by v known m k n c S _ T _ since g.went steps (no_seal gc) (taken_by gc) is)
        by phases.Flush w is = (_, flushed v known m k n c S _ T _ since g.went steps (no_seal gc) (taken_by gc) is)
        by phases.Release w is = (_, released v known m k n c S _ T _ since g.went steps (no_seal gc) (taken_by gc) ids is)
        by p w is = absurd is

    -- one that was refused
    refused : s.asked ≡ asked.GcStep → SameStore k n → Next s k n S T
    refused gc same = (c, still m k n c S _ T _ since (no_seal gc) (λ key. (inl, (λ is. ⊎_elim (λ was. was) (λ takes. absurd (none_new key takes.1)) is))) same)
      where
        none_new : (key : List ℕ) → TakesKey k n key → ⊥
        none_new key x =
            let before : x.before ≡ c = (let both : Some x.before ≡ Some c = sym x.ran ∙ since.ran in cc) in
            let after : x.after ≡ c = (let both : Some x.after ≡ Some c = sym x.runs ∙ same.collection ∙ since.ran in cc) in
            let sweep : Sweeping phases.Copy x.s ≡ Sweeping x.next x.t = sym x.was ∙ ap (λ (y : Collection V). y.stage) (before ∙ sym after) ∙ x.is in
            let one : x.s ≡ x.t = cc in
            x.new (subst (λ (y : Sweep). Contains y.filled key) (sym one) x.taken)

    gc_step : s.asked ≡ asked.GcStep → IsBetween s → Legal v s k n → Next s k n S T
    gc_step gc between legal = by (step_state v s k n k.state gc (by_state gc legal))
      where
        by_state : s.asked ≡ asked.GcStep → Legal v s k n → ByState v k.state s.actor s.asked s.answer k n
        by_state is legal =
            subst (λ (what : Asked V). ByState v k.state s.actor what s.answer k n) (sym is) (subst (λ (what : Asked V). LegalBy v what s.actor s.answer k n) is legal)

        of_done : (answer : Done) → s.answer ≡ Ok answer → Does v s.actor asked.GcStep answer k n → Next s k n S T
        of_done (done.Did phase) is does = goes_on gc phase does
        of_done (done.Collected freed copied) is does = absurd (between.1 freed copied is)
        of_done answer is does = absurd does

        by : SameStore k n ⊎ ((answer : Done) × (s.answer ≡ Ok answer) × Does v s.actor asked.GcStep answer k n) → Next s k n S T
        by (inl same) = refused gc same
        by (inr (answer, is, does)) = of_done answer is does

    -- another step
    other_step : s.asked ≢ asked.GcStep → IsBetween s → Legal v s k n → Next s k n S T
    other_step other between legal =
        by (step_beside v s c k n since.ran between.0 other legal)
      where
        none_taken : (key : List ℕ) → T key ↔ (T key ⊎ ((s.asked ≡ asked.GcStep) × TakesKey k n key))
        none_taken key = (inl, (λ is. ⊎_elim (λ was. was) (λ takes. absurd (other takes.0)) is))

        by : GoesBeside s c k n → Next s k n S T
        by (inl (stay, none)) =
            (_, kept m k n c S _ T _ since (λ h. (inl, (λ is. ⊎_elim (λ was. was) (λ seal. absurd (none h seal)) is))) none_taken stay.keys stay.runs stay.held stay.last)
        by (inr (a, cs, adds, words)) =
            let all = all_sealed a cs k n c S T since adds in (
              all.0,
              still m n n all.0 _ _ T _ all.1
                  (λ h. ((λ is. ⊎_elim (λ was. inl was) (λ one. inr ((words h).1 one)) is), (λ is. ⊎_elim (λ was. inl was) (λ one. inr ((words h).0 one)) is)))
                  none_taken (same_of n n refl),
            )

    pub one_step : IsBetween s → Legal v s k n → Next s k n S T
    one_step between legal = ⊎_elim (λ gc. gc_step gc between legal) (λ other. other_step other between legal) (is_gc_step s.asked)

  pub after_all : (ss : List (Stepped V)) (k n : Machine V R) (run : Run v ss k n) (c : Collection V) (S : HeaderValue → Type 0) (T : List ℕ → Type 0)
      → Since m k c S T → AreBetween ss → (d : Collection V) × Since m n d (λ h. S h ⊎ IsSealedBy ss h) (λ key. T key ⊎ WasTaken v ss k n run key)
  after_all [] k n is c S T since between = (
    c,
    still m k n c S _ T _ since (λ h. (inl, (λ x. ⊎_elim (λ was. was) (λ none. absurd none) x))) (λ key. (inl, (λ x. ⊎_elim (λ was. was) (λ none. absurd none) x)))
        (same_of k n is),
  )
  after_all (s ∷ ss) k n (mid, (legal, run)) c S T since (one, more) =
      let first = one_step s k mid c S T since one legal in
      let rest = after_all ss mid n run first.0 _ _ first.1 more in
      (rest.0, still m n n rest.0 _ _ _ _ rest.1 (λ h. three) (λ key. three) (same_of n n refl))

-- ---- its beginning and its end

module _ {V R : Type 0} (v : Values V R) where
  started : (s : Stepped V) (percent snapshot : ℕ) (old m : Machine V R) → s.asked ≡ asked.GcStart percent → s.answer ≡ Ok (done.Started snapshot) → Legal v s old m
      → Begins v percent snapshot old m
  started s percent snapshot old m asked_is answer_is legal =
      by old.state (subst (λ (told : Result Done Refusal). ByState v old.state s.actor (asked.GcStart percent) told old m) answer_is
      (subst (λ (what : Asked V). LegalBy v what s.actor s.answer old m) asked_is legal))
    where
      by : (state : RunState V) → ByState v state s.actor (asked.GcStart percent) (Ok (done.Started snapshot)) old m → Begins v percent snapshot old m
      by Running does = does
      by (Stopped other stores) (wrong, is) = absurd (let no : Ok (done.Started snapshot) ≡ Err _ = wrong in cc)

  ended : (s : Stepped V) (freed copied : ℕ) (k n : Machine V R) → s.asked ≡ asked.GcStep → s.answer ≡ Ok (done.Collected freed copied) → Legal v s k n → Ends v freed copied k n
  ended s freed copied k n asked_is answer_is legal =
      by k.state (subst (λ (told : Result Done Refusal). ByState v k.state s.actor asked.GcStep told k n) answer_is
      (subst (λ (what : Asked V). LegalBy v what s.actor s.answer k n) asked_is legal))
    where
      by : (state : RunState V) → ByState v state s.actor asked.GcStep (Ok (done.Collected freed copied)) k n → Ends v freed copied k n
      by Running does = does
      by (Stopped other stores) (wrong, is) = absurd (let no : Ok (done.Collected freed copied) ≡ Err _ = wrong in cc)

  -- the machine as it begins
  begins_since : (percent snapshot : ℕ) (old m : Machine V R) → HasIds old.store old.last_id → Begins v percent snapshot old m
      → HasIds m.store m.last_id × ((c : Collection V) × Since m m c (λ h. ⊥) (λ key. ⊥))
  begins_since percent snapshot old m ids (none, is, others) =
      let store : m.store ≡ old.store = ap (λ (x : Machine V R). x.store) others in
      let last : m.last_id ≡ old.last_id = ap (λ (x : Machine V R). x.last_id) others in
      let ids_now : HasIds m.store m.last_id = subst (λ (x : Store). HasIds x m.last_id) (sym store) (subst (HasIds old.store) (sym last) ids) in
      let left = marks_of old.store.held in
      let c : Collection V = record {
        percent = percent;
        snapshot = snapshot;
        stage = marking left;
        recorded = [];
        changes = [];
        values = finite.values old.now.names ++ values_read old.parts;
        keys = keys_kept old.parts;
      } in (
        ids_now,
        (
          c,
          record {
            ran = ap (λ (x : Machine V R). x.collection) others;
            snapshot_is = is ∙ ap suc (sym last);
            gone = [];
            holds = record {
              last = omega arith;
              from = λ slot h has. inl has;
              late = λ h none. absurd (⊎_elim (λ a. a) (λ b. b) none);
              given_out = ids_now.given_out;
              stay = λ slot h has. inl has;
              none = λ slot h has gone. none_in h.id gone;
              below = λ id gone. absurd (none_in id gone);
              there = λ h none. absurd (⊎_elim (λ a. a) (λ b. b) none);
            };
            freed = refl;
            keys = λ key. ((λ x. absurd x), (λ x. absurd (⊎_elim (none_in key) (λ b. none_in key (subst (λ (ks : List (List ℕ)). Contains ks key) (none_filled left) b)) x)));
            once = tt;
            filled_once = subst EachOnce (sym (none_filled left)) tt;
            stage = at_first c left;
          },
        ),
      )
    where
      at_first : (c : Collection V) (left : ℕ) → AtStage c [] (marking left)
      at_first c zero = refl
      at_first c (suc left) = refl

  pub collects_what_it_selected : CollectsWhatItSelected v
  collects_what_it_selected known percent snapshot freed copied first last ss m k n old ids first_is first_answer first_legal run between last_is last_answer last_legal =
      let begun = begins_since percent snapshot old m ids (started first percent snapshot old m first_is first_answer first_legal) in
      let ran = after_all v known m begun.0 ss m k run begun.1.0 _ _ begun.1.1 between in
      at_end begun.0 ran.0 ran.1 (ended last freed copied k n last_is last_answer last_legal)
    where
      Sealed : HeaderValue → Type 0
      Sealed h = ⊥ ⊎ IsSealedBy ss h

      Taken : List ℕ → Type 0
      Taken key = ⊥ ⊎ WasTaken v ss m k run key

      none_left : {A : Type 0} → ⊥ ⊎ A → A
      none_left (inl x) = absurd x
      none_left (inr a) = a

      at_end : HasIds m.store m.last_id → (c : Collection V) → Since m k c Sealed Taken → Ends v freed copied k n → Collected v freed copied ss m k n run
      at_end ids_now c since ends = record {
        c = c;
        ran = since.ran;
        gone = λ slot h has source. since.holds.none slot h (back slot h has) (all_gone h.id source);
        stay = λ slot h was not. ⊎_elim (λ has. on slot h has) (λ gone. absurd (not (swept.from h.id (inl gone)))) (since.holds.stay slot h was);
        sealed = λ h one. let there = since.holds.there h (inl (inr one)) in (there.0, on there.0 h there.1);
        written = λ h one. let there = since.holds.there h (inr one) in (there.0, on there.0 h there.1);
        no_other = λ slot h has. ⊎_elim (λ was. inl was) (λ new. inr (⊎_elim (λ seal. inl (none_left seal)) (λ one. inr one) new)) (since.holds.from slot h (back slot h has));
        freed_is = ends.freed_is ∙ ap (λ (x : Collection V). freed_in x.changes) same ∙ since.freed ∙ many ∙ sources_many (selected c.snapshot c.percent c.recorded);
        copied_is = ends.copied_is ∙ ap (λ (x : Collection V). length (keys_written x.changes)) same;
        keys_are = λ key. (
          (λ one. none_left ((since.keys key).1 (inl one))),
          (λ taken. ⊎_elim (λ one. one) (λ filled. absurd (none_in key (subst (λ (ks : List (List ℕ)). Contains ks key) (ap filled_at stage ∙ (swept.ends refl).0) filled)))
              ((since.keys key).0 (inr taken))),
        );
        once = since.once;
      }
        where
          same : ends.c ≡ c
          same = (let both : Some ends.c ≡ Some c = sym ends.ran ∙ since.ran in cc)

          stage : c.stage ≡ Sweeping phases.End ends.s
          stage = sym (ap (λ (x : Collection V). x.stage) same) ∙ ends.at_end

          swept : SweepsSince (sources_in c) since.gone phases.End ends.s
          swept = subst (AtStage c since.gone) stage since.stage

          back : (slot : ℕ) (h : HeaderValue) → HasContainer n.store slot h → HasContainer k.store slot h
          back slot h has = subst (λ (x : Machine V R). HasContainer x.store slot h) ends.others has

          on : (slot : ℕ) (h : HeaderValue) → HasContainer k.store slot h → HasContainer n.store slot h
          on slot h has = subst (λ (x : Machine V R). HasContainer x.store slot h) (sym ends.others) has

          many : length since.gone ≡ length (sources_in c)
          many = omega (arith, swept.counted, swept.before, (swept.ends refl).2, ap length (swept.waits (swept.ends refl).0), ap length (swept.ends refl).1)

          all_gone : (id : ℕ) → Contains (sources_in c) id → Contains since.gone id
          all_gone id source =
              let here : get_or (sources_in c) source.0 0 ≡ id = sym (get_or_default_zero (sources_in c) source.0 id source.1) ∙ source.2 in
              subst (Contains since.gone) here (⊎_elim (λ gone. gone) (λ more. absurd (⊎_elim
              (λ waiting. none_in _ (subst (λ (ids : List ℕ). Contains ids (get_or (sources_in c) source.0 0)) (swept.waits (swept.ends refl).0) waiting))
              (λ ready. none_in _ (subst (λ (ids : List ℕ). Contains ids (get_or (sources_in c) source.0 0)) (swept.ends refl).1 ready)) more))
              (swept.into source.0 (omega (arith, source.1, (swept.ends refl).2))))

-- What turns of a session do to what it was fed, and so do bytes that it is given, and the end of the file.
use Rattle.backup_engine.proofs.Prelude.{◌≡◌, inl, inr, ◌∙◌, ℕ, ◌+◌, ◌<◌, Bool, true, false, List, [], ◌∷◌, ◌++◌, length, Some, None, Ok, Err, refl, sym, ap, subst, arith, ltb-true, nat_lt, MOST_FILE, Answer, Refusal, Memory, TooLong, WrongPart, CoreState, IsEnding, IsFinishAnswer, due_in, History, HasHistory, answered, SessionState, Asks, Feeds, TakesTurns, TurnRun, TurnsStopped, IsFed, MayBe, SessionLaws, Stops, opens_of}
use Rattle.std.proofs.Common.{if◌then◌else◌, append_assoc, append-nil, length-append}
use Rattle.refusals.specs.declared.refusal.PartKind.TheVariants.{Finished}
use Rattle.ingest_session.specs.Calls.{IsPushAnswer}
use Rattle.session_turns.specs.Turns.{IsPaused, IsRefusedTurn, IsTurn, session_at}
use Rattle.session_turns.proofs.TurnRuns.{turns_stay}
use Rattle.backup_engine.proofs.Feds.{fed_due, fed_ended, fed_pushed, may_be_still}
use Rattle.backup_engine.proofs.Turning.{asked_on, asked_refused}
use Rattle.backup_engine.proofs.Ways.{way_stops}

-- a push is refused, before the end, where the file is too long
why_long : (s : SessionState) (n : ℕ) (refusal : Refusal) (ended : Bool) → s.ended ≡ false → s.ended ≡ ended → IsPushAnswer s n (Err refusal) →
    (refusal ≡ TooLong) × (MOST_FILE < s.count + n)
why_long s n refusal true off is answer = absurd (let both = sym off ∙ is in cc)
why_long s n refusal false off is answer =
    by_length (nat_lt MOST_FILE (s.count + n)) refl (ap (λ (b : Bool). if b then Some (WrongPart Finished) else if nat_lt MOST_FILE (s.count + n) then Some TooLong else None)
    (sym is) ∙ answer)
  where
    other : (a b : Refusal) → Some a ≡ Some b → b ≡ a
    other a b is = cc

    by_length : (b : Bool) → nat_lt MOST_FILE (s.count + n) ≡ b → (if b then Some TooLong else None) ≡ Some refusal → (refusal ≡ TooLong) × (MOST_FILE < s.count + n)
    by_length true more some = (other TooLong refusal some, ltb-true MOST_FILE (s.count + n) more)
    by_length false more some = absurd cc

-- ---- which files it may be

-- the file may be what was taken
itself : (given : List ℕ) (s : SessionState) → MayBe given s given
itself given s = ([], λ on. refl, sym (append-nil given))

-- before the file has ended bytes of it may follow, as long as others
may_be_before : (given bytes : List ℕ) (s t : SessionState) (file : List ℕ) → t.ended ≡ false → MayBe (given ++ bytes) s file → MayBe given t file
may_be_before given bytes s t file off may = (bytes ++ may.0, λ on. absurd (let both = sym off ∙ on in cc), may.2 ∙ append_assoc given bytes may.0)

module _ (C : Type 0) (state : C → CoreState) (laws : SessionLaws) (actor : ℕ) (first : actor ≡ 0) (given : List ℕ) (start : C) where
  -- ---- turns

  fed_paused : (s t : SessionState) (old : C) → IsPaused s t → IsFed C state given s start old → IsFed C state given t start old
  fed_paused s t old pause fed = fed_due C state given s t start old fed pause.places pause.keeps

  fed_turn : (answer : Answer) (s t : SessionState) (old new : C) → IsTurn actor answer s t (state old) (state new) → IsFed C state given s start old →
      IsFed C state given t start new
  fed_turn answer s t old new turn fed =
      let before = turn.before in
      let here = fed_paused s before old turn.paused fed in
      let asks = subst (λ (a : ℕ). Asks a (due_in before) before (Ok answer) (state old) (state new)) first turn.asks in
      let has = subst (λ (u : SessionState). HasHistory u (answered answer before here.history)) turn.told (turn.history here.history here.has) in
      subst (λ (u : SessionState). IsFed C state given u start new) (sym turn.told)
      (asked_on C state given before start old new here laws.turns (due_in before) answer refl asks turn.running has)

  pub fed_turns : (answers : List Answer) (s t : SessionState) (old new : C) → TurnRun C state actor answers s t old new → IsFed C state given s start old →
      IsFed C state given t start new
  fed_turns [] s t old new run fed = subst (λ (c : C). IsFed C state given t start c) (sym run.1) (fed_paused s t old run.0 fed)
  fed_turns (answer ∷ answers) s t old new run fed = fed_turns answers run.0 t run.1 new run.3 (fed_turn answer s run.0 old run.1 run.2 fed)

  -- ---- turns that were refused

  -- there was no memory
  no_memory : (s : SessionState) (old : C) → IsFed C state given s start old → (name file : List ℕ) → MayBe given s file → Stops C state name file Memory start old
  no_memory s old fed name file may = inl (way_stops C state (MayBe given s) (opens_of s) start old fed.way name file may, tt)

  refused_turn : (refusal : Refusal) (s t : SessionState) (old new : C) → IsRefusedTurn actor refusal s t (state old) (state new) → IsFed C state given s start old →
      (name file : List ℕ) → MayBe given s file
      → Stops C state name file refusal start new
  refused_turn refusal s t old new refused fed name file may =
      let here = fed_paused s t old refused.0 fed in
      let asks = subst (λ (a : ℕ). Asks a (due_in t) t (Err refusal) (state old) (state new)) first refused.2 in
      asked_refused C state given t start old new here laws.turns laws.claims laws.seals refused.1 (due_in t) refusal refl asks name file
      (may_be_still given t s file (sym refused.0.keeps.ended) may)

  pub stopped_turns : (refusal : Refusal) (s t : SessionState) (old new : C) → TurnsStopped C state actor refusal s t old new → IsFed C state given s start old →
      (name file : List ℕ) → MayBe given s file
      → Stops C state name file refusal start new
  stopped_turns refusal s t old new stopped fed name file may =
      let mid = stopped.1 in
      let core = stopped.2 in
      let here = fed_turns stopped.0 s mid old core stopped.3 fed in
      let may_here = may_be_still given mid s file (sym (turns_stay C state actor stopped.0 s mid old core stopped.3).ended) may in
      elim stopped.4 [
        | inl memory ↦
            subst (λ (r : Refusal). Stops C state name file r start new) (sym memory.0)
            (subst (λ (c : C). Stops C state name file Memory start c) (sym memory.2) (no_memory mid core here name file may_here))
        | inr refused ↦ refused_turn refusal mid t core new refused here name file may_here
      ]

  -- ---- bytes

  module _ (bytes : List ℕ) (s t : SessionState) (old new : C) (off : s.ended ≡ false) (fed : IsFed C state given s start old) where
    pub fed_more : Feeds C state actor (Ok tt) bytes (session_at s old) (session_at t new) → IsFed C state (given ++ bytes) t start new
    fed_more feeds =
        let mid = feeds.1 in
        let here = fed_turns feeds.0 s mid old new feeds.2 fed in
        fed_pushed C state given bytes mid t start new here ((turns_stay C state actor feeds.0 s mid old new feeds.2).ended ∙ off) feeds.3 feeds.4

    -- they were too many
    too_long : (refusal : Refusal) (answers : List Answer) → TurnRun C state actor answers s t old new → IsPushAnswer t (length bytes) (Err refusal) → (name file : List ℕ) →
        MayBe (given ++ bytes) s file
        → Stops C state name file refusal start new
    too_long refusal answers run answer name file may =
        let here = fed_turns answers s t old new run fed in
        let on = (turns_stay C state actor answers s t old new run).ended ∙ off in
        let why = why_long t (length bytes) refusal t.ended on refl answer in
        let count = (laws.counts t here.history here.has).0 in
        let so : length here.history.given ≡ length given = ap length here.given_is in
        let long : length file ≡ length ((given ++ bytes) ++ may.0) = ap length may.2 in
        let parts = length-append (given ++ bytes) may.0 in
        let taken = length-append given bytes in
        inr (
          why.0,
          omega (arith, why.1, count, so, long, parts, taken),
          way_stops C state (MayBe given t) (opens_of t) start new here.way name file (may_be_before given bytes s t file on may),
        )

    pub not_fed : (refusal : Refusal) → Feeds C state actor (Err refusal) bytes (session_at s old) (session_at t new) → (name file : List ℕ) → MayBe (given ++ bytes) s file →
        Stops C state name file refusal start new
    not_fed refusal feeds name file may = elim feeds [
      | inl stopped ↦ stopped_turns refusal s t old new stopped.0 fed name file (may_be_before given bytes s s file off may)
      | inr long ↦ too_long refusal long.0 long.1 long.2 name file may
    ]

  -- ---- the end

  pub end_refused : (refusal : Refusal) (s : SessionState) (old : C) → s.ended ≡ false → IsFinishAnswer s (Err refusal) → IsFed C state given s start old → (name : List ℕ) →
      Stops C state name given refusal start old
  end_refused Memory s old off answer fed name = no_memory s old fed name given (itself given s)
  end_refused (WrongPart Finished) s old off answer fed name = absurd (let both = sym off ∙ answer in cc)
  end_refused refusal s old off answer fed name = absurd answer

  module _ (s t u : SessionState) (old new : C) (ending : IsEnding s t) (history : (h : History) → HasHistory s h → HasHistory t h) (fed : IsFed C state given s start old) where
    here : IsFed C state given t start old
    here = fed_ended C state given s t start old fed ending history

    pub fed_to_end : TakesTurns {T = Unit {0}} C state actor (Ok tt) t u old new → IsFed C state given u start new
    fed_to_end turns = fed_turns turns.0 t u old new turns.1 here

    -- a turn was refused after it
    pub end_stopped : (refusal : Refusal) → TakesTurns {T = Unit {0}} C state actor (Err refusal) t u old new → (name : List ℕ) → Stops C state name given refusal start new
    end_stopped refusal stopped name = stopped_turns refusal t u old new stopped here name given (itself given t)

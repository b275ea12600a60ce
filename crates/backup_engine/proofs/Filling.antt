-- A source is read to its end, and a session is fed what it gives.
use Rattle.backup_engine.proofs.Prelude.{◌≡◌, inl, ◌∙◌, ℕ, false, List, [], ◌∷◌, ◌++◌, take, Option, Some, None, Result, Ok, Err, refl, sym, ap, subst, IsErrAnd, Rose, Known, SourceView, Takes, Refusal, Refused, pushed_bytes, CoreState, IsEnding, IsFinishAnswer, History, HasHistory, SessionState, Feeds, TakesTurns, Fills, IsFed, MayBe, SessionLaws, Stops, opens_of, SaysEnd, SaysPushed, giving, Digits, TakenSoFar, push_lines, pushed, refused}
use Rattle.std.proofs.Common.{append-nil}
use Rattle.reply_text.specs.declared.ending.Ending.{Ending}
use Rattle.reply_text.specs.declared.ending.Ending.TheVariants.{Source}
use Rattle.script_lines.specs.Grammar as lines
use Rattle.backup_engine.specs.Saying.{SaysPushes}
use Rattle.backup_engine.specs.Singles.{GaveFirst}
use Rattle.backup_engine.proofs.Kept.{by_error}
use Rattle.backup_engine.proofs.Saying.{line_after, pushes_go_on}
use Rattle.backup_engine.proofs.SayingEnds.{StopsSaying, says_all, says_stop}
use Rattle.backup_engine.proofs.SayingFed.{push_says, push_stops, turns_made, turns_stop}
use Rattle.backup_engine.proofs.SayingSteps.{finish_refused}
use Rattle.backup_engine.proofs.Taking.{all_taken, more_taken, none_taken, still_taken}
use Rattle.backup_engine.proofs.Turned.{end_refused, end_stopped, fed_more, fed_to_end, not_fed}
use Rattle.backup_engine.proofs.Ways.{way_stops}
use Rattle.session_turns.specs.Turns.{session_at}

-- what a source gave: all that it had left; where it doesn't tell that, what was taken
pub given_or : Option (List ℕ) → List ℕ → List ℕ
given_or None taken = taken
given_or (Some all) taken = all

pub told_or : (left : Option (List ℕ)) (taken : List ℕ) → Known left (λ all. given_or left taken ≡ all)
unfolding given_or
told_or None taken all is = absurd cc
told_or (Some bytes) taken all is = cc

-- it begins with what was taken
begins : (first now : Option (List ℕ)) (taken : List ℕ) → TakenSoFar first now taken → (rest : List ℕ) × (given_or first taken ≡ taken ++ rest)
unfolding given_or
begins None now taken so_far = ([], sym (append-nil taken))
begins (Some all) now taken so_far = let rest = so_far.rest all refl in (rest.0, rest.1)

-- what was pushed is what was taken
gave_so : (source now : SourceView) (taken all : List ℕ) → TakenSoFar source.left now.left taken → all ≡ taken → GaveFirst all (given_or source.left taken) source now
gave_so source now taken all so_far same =
    subst (λ (bytes : List ℕ). GaveFirst bytes (given_or source.left taken) source now) (sym same) (begins source.left now.left taken so_far, so_far)

-- ---- so far

-- A session was fed all that was taken of a source so far, and pushes of it were said.
pub record FilledSoFar (C : Type 0) (state : C → CoreState) (s t : SessionState) (old mid : C) (source between : SourceView) : Type 0 where
  pub taken : List ℕ
  pub took : TakenSoFar source.left between.left taken
  pub heard : between.faults ≡ source.faults
  pub ongoing : t.ended ≡ false
  pub fed : (start : C) → IsFed C state [] s start old → IsFed C state taken t start mid
  pub says : (start : C) → IsFed C state [] s start old → SaysPushed C state taken s t old mid

pub none_filled : (C : Type 0) (state : C → CoreState) (s : SessionState) (core : C) (source : SourceView) → s.ended ≡ false → FilledSoFar C state s s core core source source
none_filled C state s core source off = record {
  taken = [];
  took = none_taken source.left;
  heard = refl;
  ongoing = off;
  fed = λ start begun. begun;
  says = λ start begun. ([], (refl, refl));
}

module _ (C : Type 0) (state : C → CoreState) (s t : SessionState) (old mid : C) (source between : SourceView) (so_far : FilledSoFar C state s t old mid source between)
    (source_now : SourceView) where
  abbrev taken : List ℕ
  taken = so_far.taken

  -- a file that begins so
  may_be : (bytes : List ℕ) → TakenSoFar source.left source_now.left bytes → MayBe bytes t (given_or source.left bytes)
  may_be bytes took =
      let more = begins source.left source_now.left bytes took in
      (more.0, (λ on. absurd (let both = sym so_far.ongoing ∙ on in cc)), more.1)

  -- the source failed
  pub fill_failed : Known between.left (λ left. source_now.left ≡ Some left) → Rose between.faults source_now.faults →
      Fills C state (SaysPushes C state) (Err Source) (session_at s old) (session_at t mid) source source_now
  fill_failed kept rose =
      let still = still_taken source.left between.left source_now.left taken so_far.took kept in
      record {
        given = given_or source.left taken;
        took = told_or source.left taken;
        heard = tt;
        filled = (
          subst (λ (n : ℕ). Rose n source_now.faults) so_far.heard rose,
          λ start name begun. way_stops C state (MayBe taken t) (opens_of t) start mid (so_far.fed start begun).way name (given_or source.left taken) (may_be taken still),
        );
        spoken = λ start begun. let says = so_far.says start begun in (says.0, (gave_so source source_now taken (pushed says.0) still says.1.0, says.1.1));
      }

  -- it gave more
  module _ (count : ℕ) (into : List ℕ) (takes : Known between.left (λ left. Takes count left into source_now.left)) (same : source_now.faults ≡ between.faults) where
    -- it ended
    pub fill_ended : count ≡ 0 → Known between.left (λ left. left ≡ []) → Fills C state (SaysPushes C state) (Ok tt) (session_at s old) (session_at t mid) source source_now
    fill_ended none end =
        let all = all_taken source.left between.left source_now.left taken into count so_far.took end none takes in
        record {
          given = taken;
          took = λ bytes told. (all bytes told).0;
          heard = same ∙ so_far.heard;
          filled = (λ bytes told. (all bytes told).1, so_far.fed);
          spoken = so_far.says;
        }

    module _ (laws : SessionLaws) (line : (d : Digits) × (pushed_bytes d.digits ≡ take count into)) (actor : ℕ) (first : actor ≡ 0) (u : SessionState) (new : C) where
      abbrev piece : List ℕ
      piece = take count into

      more : TakenSoFar source.left source_now.left (taken ++ piece)
      more = more_taken source.left between.left source_now.left taken into count so_far.took takes

      pub fill_on : Feeds C state actor (Ok tt) piece (session_at t mid) (session_at u new) → u.ended ≡ t.ended → FilledSoFar C state s u old new source source_now
      fill_on feeds stays =
          let fed : (start : C) → IsFed C state [] s start old → IsFed C state (taken ++ piece) u start new =
          λ start begun. fed_more C state laws actor first taken start piece t u mid new so_far.ongoing (so_far.fed start begun) feeds in
          record {
            taken = taken ++ piece;
            took = more;
            heard = same ∙ so_far.heard;
            ongoing = stays ∙ so_far.ongoing;
            fed = fed;
            says = λ start begun.
                push_says C state laws.counts start actor first taken piece line.0 line.1 s t u old mid new so_far.ongoing (so_far.fed start begun) (fed start begun) feeds
                (so_far.says start begun);
          }

      -- a step was refused as it was fed
      pub fill_refused : (refusal : Refusal) (result : Result Unit Ending) → IsErrAnd result (λ e. e ≡ Refused refusal)
          → Feeds C state actor (Err refusal) piece (session_at t mid) (session_at u new)
          → Fills C state (SaysPushes C state) result (session_at s old) (session_at u new) source source_now
      fill_refused refusal result is feeds =
          let given : List ℕ = given_or source.left (taken ++ piece) in
          let one = refused (lines.Push 0 line.0.digits) refusal in
          by_error (λ r. Fills C state (SaysPushes C state) r (session_at s old) (session_at u new) source source_now) result (Refused refusal) is (record {
            given = given;
            took = told_or source.left (taken ++ piece);
            heard = same ∙ so_far.heard;
            filled = λ start name begun.
                not_fed C state laws actor first taken start piece t u mid new so_far.ongoing (so_far.fed start begun) refusal feeds name given (may_be (taken ++ piece) more);
            spoken = λ start begun name.
                let says = so_far.says start begun in
                let pushes = says.0 in
                let parts : pushed pushes ++ pushed_bytes line.0.digits ≡ taken ++ piece = ap (λ (l : List ℕ). l ++ pushed_bytes line.0.digits) says.1.0
                ∙ ap (λ (l : List ℕ). taken ++ l) line.1 in (
                  push_lines 0 pushes ++ one ∷ [],
                  (
                    (pushes, inl (line.0, (gave_so source source_now (taken ++ piece) (pushed pushes ++ pushed_bytes line.0.digits) more parts, refl))),
                    line_after C state (push_lines 0 pushes) one (giving old s) (giving mid t) (giving new u) (pushes_go_on 0 pushes) refl says.1.1
                        (push_stops C state laws.counts start actor first taken piece line.0 line.1 t u mid new so_far.ongoing (so_far.fed start begun) refusal feeds),
                  ),
                );
          })

-- ---- the end of the file

-- where it ended before, the same lines were run
pub fill_stopped : (C : Type 0) (state : C → CoreState) (s t : SessionState) (old mid : C) (source source_now : SourceView) (e : Ending) (result : Result Unit Ending) →
    IsErrAnd result (λ y. y ≡ e)
    → Fills C state (SaysPushes C state) (Err e) (session_at s old) (session_at t mid) source source_now
    → Fills C state (SaysEnd C state) result (session_at s old) (session_at t mid) source source_now
fill_stopped C state s t old mid source source_now e result is filled =
    by_error (λ r. Fills C state (SaysEnd C state) r (session_at s old) (session_at t mid) source source_now) result e is
    (record { given = filled.given; took = filled.took; heard = filled.heard; filled = filled.filled; spoken = filled.spoken })

module _ (C : Type 0) (state : C → CoreState) (s t u : SessionState) (old mid : C) (source source_now : SourceView)
    (filled : Fills C state (SaysPushes C state) (Ok tt) (session_at s old) (session_at t mid) source source_now) (laws : SessionLaws) where
  end_not_filled : (new : C) (refusal : Refusal) (result : Result Unit Ending) → IsErrAnd result (λ e. e ≡ Refused refusal)
      → ((start : C) (name : List ℕ) → IsFed C state filled.given t start mid → Stops C state name filled.given refusal start new)
      → ((start : C) → IsFed C state filled.given t start mid → StopsSaying C state t u mid new filled.given refusal) →
      Fills C state (SaysEnd C state) result (session_at s old) (session_at u new) source source_now
  end_not_filled new refusal result is ends says = by_error (λ r. Fills C state (SaysEnd C state) r (session_at s old) (session_at u new) source source_now) result
      (Refused refusal) is (record {
        given = filled.given;
        took = filled.took;
        heard = filled.heard;
        filled = λ start name begun. ends start name (filled.filled.1 start begun);
        spoken = λ start begun. says_stop C state s t u old mid new filled.given (filled.spoken start begun) source source_now refusal (says start (filled.filled.1 start begun));
      })

  -- there was no memory to end it
  pub not_finished : (refusal : Refusal) (result : Result Unit Ending) → IsErrAnd result (λ e. e ≡ Refused refusal) → t.ended ≡ false → IsFinishAnswer t (Err refusal) → u ≡ t
      → Fills C state (SaysEnd C state) result (session_at s old) (session_at u mid) source source_now
  not_finished refusal result is off answer same =
      end_not_filled mid refusal result is (λ start name fed. end_refused C state laws 0 refl filled.given start refusal t mid off answer fed name)
      (λ start fed. inl (finish_refused C state mid t u refusal fed.way.runs off answer same))

  module _ (new : C) (ended : SessionState) (ending : IsEnding t ended) (history : (h : History) → HasHistory t h → HasHistory ended h) (actor : ℕ) (first : actor ≡ 0) where
    pub turns_taken : TakesTurns {T = Unit {0}} C state actor (Ok tt) ended u mid new
        → Fills C state (SaysEnd C state) (Ok tt) (session_at s old) (session_at u new) source source_now
    turns_taken turns = record {
      given = filled.given;
      took = filled.took;
      heard = filled.heard;
      filled = (filled.filled.0, λ start begun. fed_to_end C state laws actor first filled.given start t ended u mid new ending history (filled.filled.1 start begun) turns);
      spoken = λ start begun.
          says_all C state s t u old mid new filled.given (filled.spoken start begun)
          (turns_made C state laws.counts start filled.given t ended u mid new ending history (filled.filled.1 start begun) actor first turns);
    }

    pub turns_refused : (refusal : Refusal) (result : Result Unit Ending) → IsErrAnd result (λ e. e ≡ Refused refusal) →
        TakesTurns {T = Unit {0}} C state actor (Err refusal) ended u mid new
        → Fills C state (SaysEnd C state) result (session_at s old) (session_at u new) source source_now
    turns_refused refusal result is stopped =
        end_not_filled new refusal result is (λ start name fed. end_stopped C state laws actor first filled.given start t ended u mid new ending history fed refusal stopped name)
        (λ start fed. turns_stop C state laws.counts start filled.given t ended u mid new ending history fed actor first refusal stopped)

-- How a file is given: it is opened, and its segments are read and written one after the other.
use Rattle.backup_engine.proofs.Prelude.{both_so, ◌≡◌, inr, ◌<◌, ◌+◌, ◌==◌, ℕ, Bool, true, false, List, [], ◌∷◌, ◌++◌, length, take, drop, Option, Some, Result, Ok, Err, refl, sym, ◌∙◌, ap, subst, arith, take-append-drop, AllByRecursion, concat, IsErrAnd, is_err, Rose, Appended, SinkView, AppendedPart, Sends, Answer, StepValue, Refusal, reading, WasRead, CoreStep, Steps, CoreRun, given_to, CoreState, Event, IsRunning, GivenSoFar, bytes_to_come, IsFresh, IsRead, IsGiven, EndsGiving, WroteGiven, WroteLast, GiveRun}
use Rattle.std.proofs.Common.{append_assoc, length-append}
use Rattle.std.proofs.Math.Seq.{take-append-add}
use Rattle.std.proofs.lemmas.List.{append-nil}
use Rattle.std.proofs.lemmas.List.Folds.{concat-append}
use Rattle.actor_parts.specs.declared.step.Answer.TheVariants as answers
use Rattle.actor_parts.specs.StepValue as asked
use Rattle.reply_text.specs.declared.ending.Ending.{Ending}
use Rattle.reply_text.specs.declared.ending.Ending.TheVariants as endings
use Rattle.read_steps.specs.Walking.{bytes_ahead}
use Rattle.read_steps.proofs.Walks.{given_bytes}
use Rattle.store_core.specs.Core.{IsGiven as IsSegmentGiven}
use Rattle.store_core.specs.Runs.{given_by}
use Rattle.backup_engine.proofs.SoFar.{bytes_of_part}
use Rattle.backup_engine.proofs.FirstActor.{as_first, by_first, steps_of, first_part, up_of}
use Rattle.backup_engine.proofs.Kept.{by_error}
use Rattle.backup_engine.proofs.SinkWrites.{part_sent, fault_counted, all_sent, no_fault}

-- ---- steps, one after the other

module _ (C : Type 0) (state : C → CoreState) where
  run_on : (es fs : List Event) (old mid new : C) → CoreRun C state es old mid → CoreRun C state fs mid new → CoreRun C state (es ++ fs) old new
  run_on [] fs old mid new first second = subst (λ (c : C). CoreRun C state fs c new) first second
  run_on (e ∷ es) fs old mid new first second = (first.0, (first.1.0, run_on es fs first.0 mid new first.1.1 second))

-- ---- what was given

given_before : (own : Bool) (answer : Result Answer Refusal) (buf : List ℕ) (first others : List (List ℕ)) →
    given_by own answer buf (first ++ others) ≡ given_by own answer buf first ++ others
given_before true (Ok (answers.Bytes count)) buf first others = refl
given_before true (Ok answer) buf first others = refl
given_before true (Err refusal) buf first others = refl
given_before false answer buf first others = refl

given_on : (es fs : List Event) → given_to 0 (es ++ fs) ≡ given_to 0 es ++ given_to 0 fs
given_on [] fs = refl
given_on (e ∷ es) fs = ap (given_by (e.actor == 0) e.answer e.buf) (given_on es fs) ∙ given_before (e.actor == 0) e.answer e.buf (given_to 0 es) (given_to 0 fs)

-- a read that gave nothing adds nothing, and one that gave a segment adds it
nothing_more : (es : List Event) (e : Event) → given_to 0 (e ∷ []) ≡ [] → concat (given_to 0 (es ++ e ∷ [])) ≡ concat (given_to 0 es)
nothing_more es e none = ap concat (given_on es (e ∷ []) ∙ ap (λ (x : List (List ℕ)). given_to 0 es ++ x) none ∙ append-nil (given_to 0 es))

one_more : (es : List Event) (e : Event) (piece : List ℕ) → given_to 0 (e ∷ []) ≡ piece ∷ [] → concat (given_to 0 (es ++ e ∷ [])) ≡ concat (given_to 0 es) ++ piece
one_more es e piece is =
    ap concat (given_on es (e ∷ []) ∙ ap (λ (x : List (List ℕ)). given_to 0 es ++ x) is)
    ∙ concat-append (given_to 0 es) (piece ∷ []) ∙ ap (λ (x : List ℕ). concat (given_to 0 es) ++ x) (append-nil piece)

-- the last of the reads says how they ended
ends_giving : (es : List Event) (e : Event) (result : Result Unit Ending) → AllByRecursion (λ x. IsGiven x.answer) es → EndsGiving (e ∷ []) result →
    EndsGiving (es ++ e ∷ []) result
ends_giving [] e result given ends = ends
ends_giving (f ∷ []) e result given ends = (given.0, ends)
ends_giving (f ∷ g ∷ gs) e result given ends = (given.0, ends_giving (g ∷ gs) e result given.1 ends)

-- ---- what was written

pub written_none : (written : Option (List ℕ)) → Appended written written []
written_none written = record { is = λ before told. told ∙ ap Some (sym (append-nil before)) }

pub written_on : (old mid new : Option (List ℕ)) (first more : List ℕ) → Appended old mid first → Appended mid new more → Appended old new (first ++ more)
written_on old mid new first more one other = record {
  is = λ before told. other.is (before ++ first) (one.is before told) ∙ ap Some (append_assoc before first more);
}

pub written_part : (old mid new : Option (List ℕ)) (first more : List ℕ) → Appended old mid first → AppendedPart mid new more → AppendedPart old new (first ++ more)
written_part old mid new first more one part = record {
  count = length first + part.count;
  fits = omega (arith, length-append first more, part.fits);
  is = subst (λ (bytes : List ℕ). Appended old new bytes) (sym (take-append-add first more part.count)) (written_on old mid new first (take part.count more) one part.is);
}

-- ---- the name is opened

module _ (C : Type 0) (state : C → CoreState) (name : List ℕ) (old : C) (sink : SinkView) where
  opened : (mid : C) (buf : List ℕ) (answer : Answer) → IsFresh (state old) → CoreStep (state old) (by_first (asked.OpenRead name) (Ok answer) buf) (state mid)
      → IsRunning (state mid) → GivenSoFar C state name old mid sink sink
  opened mid buf (answers.Opened count) fresh step running =
      let steps = steps_of (state old) (state mid) (by_first (asked.OpenRead name) (Ok (answers.Opened count)) buf) fresh.runs step in
      record {
        count = count;
        buf = buf;
        mid = mid;
        opened = step;
        reads = [];
        ran = refl;
        each = tt;
        given = tt;
        wrote = written_none sink.written;
        faults_are = refl;
        up = up_of (state mid) steps.stops running;
        runs = steps.stops;
      }
  opened mid buf answer fresh step running = absurd (steps_of (state old) (state mid) (by_first (asked.OpenRead name) (Ok answer) buf) fresh.runs step).made.row

  pub begin_giving : (mid : C) (actor : ℕ) (was : StepValue) (answer : Answer) (buf : List ℕ) → IsFresh (state old) → actor ≡ 0 → was ≡ asked.OpenRead name
      → CoreStep (state old) (record { actor = actor; step = was; answer = Ok answer; buf = buf }) (state mid) → IsRunning (state mid) → GivenSoFar C state name old mid sink sink
  begin_giving mid actor was answer buf fresh first same step running =
      opened mid buf answer fresh (as_first (state old) (state mid) actor was (asked.OpenRead name) (Ok answer) buf first same step) running

  -- ---- a segment is read, by the first actor

  module _ (now new : C) (sink_now : SinkView) (so_far : GivenSoFar C state name old now sink sink_now) (buf : List ℕ) (actor : ℕ) (first : actor ≡ 0) where
    abbrev read : Result Answer Refusal → Event
    read answer = by_first asked.ReadNext answer buf

    abbrev Reads : Result Answer Refusal → Type 0
    Reads answer = CoreStep (state now) (let e : Event = record { actor = actor; step = asked.ReadNext; answer = answer; buf = buf } in e) (state new)

    by_own : (answer : Result Answer Refusal) → Reads answer → CoreStep (state now) (read answer) (state new)
    by_own answer step = as_first (state now) (state new) actor asked.ReadNext asked.ReadNext answer buf first refl step

    abbrev bytes : List ℕ
    bytes = concat (given_to 0 so_far.reads)

    steps : (answer : Result Answer Refusal) → CoreStep (state now) (read answer) (state new) → Steps (read answer) (state now) (state new)
    steps answer step = steps_of (state now) (state new) (read answer) so_far.runs step

    -- it was the last
    given_out : (answer : Result Answer Refusal) (result : Result Unit Ending) (sink_new : SinkView) → CoreStep (state now) (read answer) (state new) →
        EndsGiving (read answer ∷ []) result
        → WroteGiven result (concat (given_to 0 (so_far.reads ++ read answer ∷ []))) sink sink_new
        → WroteLast result (given_to 0 (so_far.reads ++ read answer ∷ [])) sink sink_new → GiveRun C state name result old new sink sink_new
    given_out answer result sink_new step ends wrote last = inr (record {
      count = so_far.count;
      buf = so_far.buf;
      mid = so_far.mid;
      opened = so_far.opened;
      reads = so_far.reads ++ read answer ∷ [];
      ran = run_on C state so_far.reads (read answer ∷ []) so_far.mid now new so_far.ran (new, (step, refl));
      each = both_so IsRead so_far.reads (read answer ∷ []) so_far.each ((refl, refl), tt);
      ends = ends_giving so_far.reads (read answer) result so_far.given ends;
      wrote = wrote;
      wrote_last = last;
    })

    still_wrote : (answer : Result Answer Refusal) → given_to 0 (read answer ∷ []) ≡ [] →
        Appended sink.written sink_now.written (concat (given_to 0 (so_far.reads ++ read answer ∷ [])))
    still_wrote answer none = subst (λ (b : List ℕ). Appended sink.written sink_now.written b) (sym (nothing_more so_far.reads (read answer) none)) so_far.wrote

    pub read_refused : (refusal : Refusal) (result : Result Unit Ending) → IsErrAnd result (λ e. e ≡ endings.Refused refusal) → Reads (Err refusal) →
        GiveRun C state name result old new sink sink_now
    read_refused refusal result is step =
        by_error (λ r. GiveRun C state name r old new sink sink_now) result (endings.Refused refusal) is
        (given_out (Err refusal) (Err (endings.Refused refusal)) sink_now (by_own (Err refusal) step) refl (still_wrote (Err refusal) refl, so_far.faults_are) tt)

    -- only the end is answered but a segment
    pub read_ended : (answer : Answer) → ((count : ℕ) → answer ≡ answers.Bytes count → ⊥) → Reads (Ok answer) → GiveRun C state name (Ok tt) old new sink sink_now
    read_ended answers.End other step = given_out (Ok answers.End) (Ok tt) sink_now (by_own (Ok answers.End) step) refl (still_wrote (Ok answers.End) refl, so_far.faults_are) tt
    read_ended (answers.Bytes count) other step = absurd (other count refl)
    read_ended answer other step = absurd (steps (Ok answer) (by_own (Ok answer) step)).made.row

    module _ (answer : Answer) (count : ℕ) (is : answer ≡ answers.Bytes count) (made : Reads (Ok answer)) where
      step : CoreStep (state now) (read (Ok (answers.Bytes count))) (state new)
      step = by_own (Ok (answers.Bytes count)) (subst (λ (a : Answer). Reads (Ok a)) is made)

      abbrev piece : List ℕ
      piece = take count buf

      abbrev all : List ℕ
      all = concat (given_to 0 (so_far.reads ++ read (Ok (answers.Bytes count)) ∷ []))

      all_is : all ≡ bytes ++ piece
      all_is = one_more so_far.reads (read (Ok (answers.Bytes count))) piece refl

      row : IsSegmentGiven (Some count) buf 0 (state now) (state new)
      row = (steps (Ok (answers.Bytes count)) step).made.row

      not_written : (sink_new : SinkView) → AppendedPart sink_now.written sink_new.written piece → Rose sink_now.faults sink_new.faults
          → GiveRun C state name (Err endings.Sink) old new sink sink_new
      not_written sink_new part rose = given_out (Ok (answers.Bytes count)) (Err endings.Sink) sink_new step tt (
        subst (λ (b : List ℕ). AppendedPart sink.written sink_new.written b) (sym all_is)
            (written_part sink.written sink_now.written sink_new.written bytes piece so_far.wrote part),
        subst (λ (n : ℕ). Rose n sink_new.faults) so_far.faults_are rose,
      ) (
        given_to 0 so_far.reads,
        (
          piece,
          (
            given_on so_far.reads (read (Ok (answers.Bytes count)) ∷ []),
            (
              take part.count piece,
              (
                (drop part.count piece, sym (take-append-drop part.count piece)),
                written_on sink.written sink_now.written sink_new.written bytes (take part.count piece)
                    so_far.wrote part.is,
              ),
            ),
          ),
        ),
      )

      goes_on : (sink_new : SinkView) → IsRunning (state new) → Appended sink_now.written sink_new.written piece → sink_new.faults ≡ sink_now.faults
          → GivenSoFar C state name old new sink sink_new
      goes_on sink_new running wrote faults =
          let stops = (steps (Ok (answers.Bytes count)) step).stops in
          record {
            count = so_far.count;
            buf = so_far.buf;
            mid = so_far.mid;
            opened = so_far.opened;
            reads = so_far.reads ++ read (Ok (answers.Bytes count)) ∷ [];
            ran = run_on C state so_far.reads (read (Ok (answers.Bytes count)) ∷ []) so_far.mid now new so_far.ran (new, (step, refl));
            each = both_so IsRead so_far.reads (read (Ok (answers.Bytes count)) ∷ []) so_far.each ((refl, refl), tt);
            given = both_so (λ e. IsGiven e.answer) so_far.reads (read (Ok (answers.Bytes count)) ∷ []) so_far.given (tt, tt);
            wrote = subst (λ (b : List ℕ). Appended sink.written sink_new.written b) (sym all_is)
                (written_on sink.written sink_now.written sink_new.written bytes piece so_far.wrote wrote);
            faults_are = faults ∙ so_far.faults_are;
            up = up_of (state new) stops running;
            runs = stops;
          }

      -- it was written, or not
      module _ {T E : Type 0} (sink_new : SinkView) (result : Result T E) (bytes_are : List ℕ) (same : bytes_are ≡ buf)
          (sends : Sends (take count bytes_are) result sink_now sink_new) where
        same_piece : take count bytes_are ≡ piece
        same_piece = ap (λ (b : List ℕ). take count b) same

        pub unwritten : true ≡ is_err result → GiveRun C state name (Err endings.Sink) old new sink sink_new
        unwritten failed =
            not_written sink_new (part_sent (take count bytes_are) piece same_piece sink_now sink_new result failed sends)
            (fault_counted (take count bytes_are) piece same_piece sink_now sink_new result failed sends)

        pub written : IsRunning (state new) → false ≡ is_err result → GivenSoFar C state name old new sink sink_new
        written running done =
            goes_on sink_new running (all_sent (take count bytes_are) piece same_piece sink_now sink_new result done sends)
            (no_fault (take count bytes_are) piece same_piece sink_now sink_new result done sends)

      -- fewer bytes are to come
      pub fewer : bytes_to_come (state new) < bytes_to_come (state now)
      fewer =
          let on = row.next.goes_on in
          let before : bytes_to_come (state now) ≡ bytes_ahead row.next.was = ap bytes_of_part on.part_is in
          let after : bytes_to_come (state new) ≡ bytes_ahead row.next.rest =
          ap bytes_of_part (first_part (state now) (state new) (reading on.root row.next.rest) so_far.up on.parts_are) in
          omega (
            arith,
            before,
            after,
            given_bytes (WasRead (state now).known (state now).disk (state new).disk) row.next.was row.next.rest count piece row.next.given,
            row.next.given.read.some,
          )

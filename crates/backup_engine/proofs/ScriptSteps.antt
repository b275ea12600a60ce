-- A script goes on by a line, or ends.
use Rattle.backup_engine.proofs.Prelude.{◌≡◌, ◌⊎◌, inl, inr, ◌+◌, ◌≤◌, ◌<◌, ℕ, Bool, true, false, List, [], ◌∷◌, ◌++◌, take, Option, Some, None, Result, Ok, Err, refl, sym, ◌∙◌, ap, subst, arith, IsErrAnd, Rose, Appended, SourceView, SinkView, AppendedPart, Replied, Refusal, Memory, Sink, Script, Refused, MOST_SCRIPT, LineValue, IsLine, HasRead, ReaderState, ReadsTellScripts, fresh_reader, reply_line, ReplyValue, number_after, RunnerState, AreOfActors, RunsLines, CoreState, lines_of, printed, IsScriptEnd, StopsAtReopen, WroteReplies, EndsReopening, ScriptRun, ScriptSoFar}
use Rattle.std.proofs.Common.{append_assoc}
use Rattle.std.proofs.lemmas.List.{append-nil, length-append}
use Rattle.store_machine.specs.Commands.{ends}
use Rattle.reply_text.specs.declared.ending.Ending.{Ending}
use Rattle.reply_text.specs.declared.ending.Ending.TheVariants.{Source, Line}
use Rattle.script_lines.specs.declared.reader.NextLine.{NextLine}
use Rattle.script_lines.specs.declared.reader.NextLine.TheVariants as next
use Rattle.script_lines.specs.Grammar as lines
use Rattle.script_lines.specs.Reader.{Given, IsNext, IsPart, TakesOff, to_come}
use Rattle.script_lines.specs.ReplyValue as replies
use Rattle.script_lines.specs.Script.{Begins, Breaks, Overruns}
use Rattle.script_runner.specs.Runner.{EndsBy, IsAcknowledged, IsNoLine, IsRun, RunsBytes, SendsReply}
use Rattle.script_runner.specs.declared.runner.Halt.{Halt}
use Rattle.script_runner.specs.declared.runner.Halt.TheVariants.{NoLine, Ended}
use Rattle.backup_engine.specs.Script.{EndsRefused, TookLines}
use Rattle.backup_engine.specs.ScriptRuns.{RunsBy, RunsNext, goes_on}
use Rattle.backup_engine.proofs.Kept.{by_error}
use Rattle.backup_engine.proofs.ScriptLists.{actors_snoc, all_snoc, few_lines, lines_snoc, number_snoc, of_actor, printed_snoc, runs_snoc, stops_none, stops_snoc}
use Rattle.backup_engine.specs.Seen.{streaming}

-- what was added twice was added as one
appended_on : (a b c : Option (List ℕ)) (xs ys : List ℕ) → Appended a b xs → Appended b c ys → Appended a c (xs ++ ys)
appended_on a b c xs ys first second = record {
  is = λ old told. second.is (old ++ xs) (first.is old told) ∙ ap Some (append_assoc old xs ys);
}

pub begin_script : (C : Type 0) (state : C → CoreState) (r : RunnerState C) (source : SourceView) (sink : SinkView) (laws : ReadsTellScripts) →
    ScriptSoFar C state [] fresh_reader (streaming r source sink) (streaming r source sink)
begin_script C state r source sink laws = record {
  runs = refl;
  actors = tt;
  none_ends = tt;
  read = laws.fresh source.left;
  wrote = record { is = λ old told. told ∙ ap Some (sym (append-nil old)) };
  heard = refl;
  sent = refl;
}

same_refusal : (one : Replied) (a b : Refusal) → ◌≡◌ {A = Replied} one (record { line = lines.Reopen; reply = replies.Refused a }) →
    ◌≡◌ {A = Replied} one (record { line = lines.Reopen; reply = replies.Refused b }) → a ≡ b
same_refusal one a b first second =
    let both : replies.Refused a ≡ replies.Refused b = sym (ap (λ (o : Replied). o.reply) first) ∙ ap (λ (o : Replied). o.reply) second in
    cc

module _ (C : Type 0) (state : C → CoreState) (laws : ReadsTellScripts) (rs : List Replied) (reader after : ReaderState) (r mid s : RunnerState C)
    (source between source_now : SourceView)
    (sink sink_mid sink_now : SinkView) (so_far : ScriptSoFar C state rs reader (streaming r source sink) (streaming mid between sink_mid)) where
  abbrev begun : Given source.left (λ bytes. (rest : List ℕ) × Begins bytes (lines_of rs) rest)
  begun = laws.so_far source.left between.left (lines_of rs) reader so_far.read

  -- ---- a line was run

  module _ (result : Result Unit Ending) (run : IsRun C state after.line result mid s sink_mid sink_now) (is_next : IsNext next.Line reader after between.left source_now.left)
      (part : IsPart after.line) where
    abbrev one : Replied
    one = record { line = run.line; reply = run.replies.reply }

    abbrev all : List Replied
    all = rs ++ one ∷ []

    has_read : HasRead source.left (lines_of all) after source_now.left
    has_read = subst (λ (values : List LineValue). HasRead source.left values after source_now.left) (sym (lines_snoc rs one))
        (laws.line source.left between.left source_now.left (lines_of rs) run.line reader after so_far.read is_next part run.right.is_line)

    ran : RunsLines C state all r s
    ran = runs_snoc C state rs one r mid s so_far.none_ends so_far.runs run.replies.runs

    of_actors : AreOfActors all
    of_actors = actors_snoc rs one so_far.actors (of_actor run.line after.line run.right.is_line)

    abbrev begun_all : Given source.left (λ bytes. (rest : List ℕ) × Begins bytes (lines_of all) rest)
    begun_all = laws.so_far source.left source_now.left (lines_of all) after has_read

    wrote_all : Appended sink_mid.written sink_now.written (reply_line one.reply) → Appended sink.written sink_now.written (printed all)
    wrote_all wrote = subst (λ (bytes : List ℕ). Appended sink.written sink_now.written bytes) (sym (printed_snoc rs one))
        (appended_on sink.written sink_mid.written sink_now.written (printed rs) (reply_line one.reply) so_far.wrote wrote)

    -- the script goes on
    goes_so : result ≡ Ok tt → source_now.faults ≡ between.faults → ScriptSoFar C state all after (streaming r source sink) (streaming s source_now sink_now)
    goes_so done same =
        let sends : SendsReply run.line run.replies.reply (Ok tt) sink_mid sink_now = subst (λ (x : Result Unit Ending). SendsReply run.line run.replies.reply x sink_mid sink_now)
        done run.replies.sends in
        record {
          runs = ran;
          actors = of_actors;
          none_ends = all_snoc (λ (o : Replied). ends o.line o.reply ≡ false) rs one so_far.none_ends sends.0;
          read = has_read;
          wrote = wrote_all sends.1.0;
          heard = same ∙ so_far.heard;
          sent = sends.1.1 ∙ so_far.sent;
        }

    -- or it ends with this line
    module _ (same : source_now.faults ≡ between.faults) where
      heard_all : source_now.faults ≡ source.faults
      heard_all = same ∙ so_far.heard

      stops_by : (ending : Ending) → ((refusal : Refusal) → EndsRefused (Some ending) refusal) → StopsAtReopen (Some ending) all
      stops_by ending by = stops_snoc (Some ending) rs one so_far.none_ends (λ refusal is. by refusal)

      -- the sink failed
      not_sent : AppendedPart sink_mid.written sink_now.written (reply_line one.reply) → Rose sink_mid.faults sink_now.faults →
          ScriptRun C state (Err Sink) (streaming r source sink) (streaming s source_now sink_now)
      not_sent part_is rose = record {
        rs = all;
        runs = ran;
        actors = of_actors;
        begins = begun_all;
        stops = stops_by Sink (λ refusal. inr (inl refl));
        caused = subst (λ (n : ℕ). Rose n sink_now.faults) so_far.sent rose;
        wrote = record {
          before = rs;
          last = one;
          has_last = record { are = refl };
          count = part_is.count;
          fits = part_is.fits;
          wrote = appended_on sink.written sink_mid.written sink_now.written (printed rs) (take part_is.count (reply_line one.reply)) so_far.wrote part_is.is;
        };
        source_faults = λ other. heard_all;
        sink_faults = λ other. absurd (other refl);
      }

      -- there was no memory for the reply
      left_out : ¬ (IsAcknowledged one.reply) → sink_now ≡ sink_mid → ScriptRun C state (Err (Refused Memory)) (streaming r source sink) (streaming s source_now sink_now)
      left_out none sink_is = record {
        rs = all;
        runs = ran;
        actors = of_actors;
        begins = begun_all;
        stops = stops_by (Refused Memory) (λ refusal. inr (inr refl));
        caused = tt;
        wrote = inr (record {
          before = rs;
          last = one;
          has_last = record { are = refl };
          no_command = none;
          wrote = subst (λ (v : SinkView). Appended sink.written v.written (printed rs)) (sym sink_is) so_far.wrote;
        });
        source_faults = λ other. heard_all;
        sink_faults = λ other. ap (λ (v : SinkView). v.faults) sink_is ∙ so_far.sent;
      }

      -- the store was not opened again
      by_reopen : (refusal : Refusal) → EndsReopening all refusal → IsScriptEnd (EndsReopening all) (Some (Refused refusal)) all source source_now sink sink_now
      by_reopen Memory is = tt
      by_reopen refusal is = is

      wrote_reopen : (refusal : Refusal) → Appended sink.written sink_now.written (printed all) → WroteReplies (Some (Refused refusal)) all sink sink_now
      wrote_reopen Memory wrote = inl wrote
      wrote_reopen refusal wrote = wrote

      not_reopened : (refusal : Refusal) → ◌≡◌ {A = Replied} one (record { line = lines.Reopen; reply = replies.Refused refusal }) →
          Appended sink_mid.written sink_now.written (reply_line one.reply)
          → sink_now.faults ≡ sink_mid.faults → ScriptRun C state (Err (Refused refusal)) (streaming r source sink) (streaming s source_now sink_now)
      not_reopened refusal is wrote sent = record {
        rs = all;
        runs = ran;
        actors = of_actors;
        begins = begun_all;
        stops = stops_snoc (Some (Refused refusal)) rs one so_far.none_ends
            (λ other is_other. inl (ap (λ (x : Refusal). Some (Refused x)) (same_refusal one refusal other is is_other)));
        caused = by_reopen refusal (rs, record { are = ap (λ (o : Replied). rs ++ o ∷ []) is });
        wrote = wrote_reopen refusal (wrote_all wrote);
        source_faults = λ other. heard_all;
        sink_faults = λ other. sent ∙ so_far.sent;
      }

      -- what ends it is a refusal
      refusal_of : (line : LineValue) (reply : ReplyValue) (ending : Ending) → EndsBy line reply ending
          → (refusal : Refusal) × ((ending ≡ Refused refusal)
          × (◌≡◌ {A = Replied} (record { line = line; reply = reply }) (record { line = lines.Reopen; reply = replies.Refused refusal })))
      refusal_of lines.Reopen (replies.Refused refusal) ending is = (refusal, (is, refl))
      refusal_of line reply ending is = absurd is

      abbrev Stops : Ending → Type 0
      Stops ending = ScriptRun C state (Err ending) (streaming r source sink) (streaming s source_now sink_now)

      ended_so : (ending : Ending) → ((ending ≡ Refused Memory) × ¬ (IsAcknowledged one.reply) × (sink_now ≡ sink_mid))
          ⊎ (EndsBy run.line run.replies.reply ending × (Appended sink_mid.written sink_now.written (reply_line one.reply) × (sink_now.faults ≡ sink_mid.faults))) → Stops ending
      ended_so ending (inl none) = subst Stops (sym none.0) (left_out none.1 none.2)
      ended_so ending (inr reopened) =
          let of = refusal_of run.line run.replies.reply ending reopened.0 in
          subst Stops (sym of.1.0) (not_reopened of.0 of.1.1 reopened.1.0 reopened.1.1)

      by_ending : (ending : Ending) → SendsReply run.line run.replies.reply (Err ending) sink_mid sink_now → Stops ending
      by_ending Sink sends = not_sent sends.0 sends.1
      by_ending ending sends = ended_so ending sends

      ends_so : (ending : Ending) → result ≡ Err ending → Stops ending
      ends_so ending is = by_ending ending (subst (λ (x : Result Unit Ending). SendsReply run.line run.replies.reply x sink_mid sink_now) is run.replies.sends)

  -- ---- no line was run

  module _ (same : s ≡ mid) (sink_is : sink_now ≡ sink_mid) where
    runs_here : RunsLines C state rs r s
    runs_here = subst (λ (x : RunnerState C). RunsLines C state rs r x) (sym same) so_far.runs

    wrote_here : Appended sink.written sink_now.written (printed rs)
    wrote_here = subst (λ (v : SinkView). Appended sink.written v.written (printed rs)) (sym sink_is) so_far.wrote

    sent_here : sink_now.faults ≡ sink.faults
    sent_here = ap (λ (v : SinkView). v.faults) sink_is ∙ so_far.sent

    -- the script has ended
    read_out : source_now.faults ≡ between.faults → IsNext next.End reader after between.left source_now.left
        → ScriptRun C state (Ok tt) (streaming r source sink) (streaming s source_now sink_now)
    read_out heard is_next = record {
      rs = rs;
      runs = runs_here;
      actors = so_far.actors;
      begins = begun;
      stops = stops_none None rs so_far.none_ends;
      caused = (
        laws.last source.left between.left source_now.left (lines_of rs) reader after so_far.read is_next,
        λ all told. let before = so_far.read.rest all told in is_next.out.none_left before.0 before.1,
      );
      wrote = wrote_here;
      source_faults = λ other. heard ∙ so_far.heard;
      sink_faults = λ other. sent_here;
    }

    -- what it gave are these lines, and a part of one more
    took_lines : IsPart after.line → after.ready ≡ [] → TakesOff after.line reader after between.left source_now.left → TookLines rs source source_now
    took_lines part drained takes = λ all told.
        let before = laws.begins source.left between.left (lines_of rs) reader so_far.read all told in
        let now = takes.rest before.0 before.1 in
        let left : to_come reader before.0 ≡ after.line ++ now.0 = now.2 ∙ ap (λ (l : List ℕ). after.line ++ l) (ap (λ (l : List ℕ). l ++ now.0) drained) in
        (after.line, now.0, (now.1, subst (λ (l : List ℕ). Begins all (lines_of rs) l) left before.2, part.not_ended, part.short))

    -- the source failed
    unread : IsPart after.line → after.ready ≡ [] → TakesOff after.line reader after between.left source_now.left → Rose between.faults source_now.faults →
        ScriptRun C state (Err Source) (streaming r source sink) (streaming s source_now sink_now)
    unread part drained takes rose = record {
      rs = rs;
      runs = runs_here;
      actors = so_far.actors;
      begins = begun;
      stops = stops_none (Some Source) rs so_far.none_ends;
      caused = (subst (λ (n : ℕ). Rose n source_now.faults) so_far.heard rose, took_lines part drained takes);
      wrote = wrote_here;
      source_faults = λ other. absurd (other refl);
      sink_faults = λ other. sent_here;
    }

    -- what came is no line
    broken : (number : ℕ) → number ≡ number_after (lines_of rs) → source_now.faults ≡ between.faults → Given source.left (λ bytes. Breaks bytes (lines_of rs))
        → ScriptRun C state (Err (Line number)) (streaming r source sink) (streaming s source_now sink_now)
    broken number is heard breaks = record {
      rs = rs;
      runs = runs_here;
      actors = so_far.actors;
      begins = begun;
      stops = stops_none (Some (Line number)) rs so_far.none_ends;
      caused = (breaks, is);
      wrote = wrote_here;
      source_faults = λ other. heard ∙ so_far.heard;
      sink_faults = λ other. sent_here;
    }

    -- it is too long
    overrun : source_now.faults ≡ between.faults → Given source.left (λ bytes. Overruns bytes (lines_of rs))
        → ScriptRun C state (Err Script) (streaming r source sink) (streaming s source_now sink_now)
    overrun heard overruns = record {
      rs = rs;
      runs = runs_here;
      actors = so_far.actors;
      begins = begun;
      stops = stops_none (Some Script) rs so_far.none_ends;
      caused = overruns;
      wrote = wrote_here;
      source_faults = λ other. heard ∙ so_far.heard;
      sink_faults = λ other. sent_here;
    }

  -- ---- what comes next

  module _ (number : ℕ) (number_is : number ≡ number_after (lines_of rs)) where
    -- after one line more
    pub record GoneOn : Type 0 where
      pub rs_now : List Replied
      pub so_far_now : ScriptSoFar C state rs_now after (streaming r source sink) (streaming s source_now sink_now)
      pub number_now : number + 1 ≡ number_after (lines_of rs_now)
      pub taken : reader.taken < after.taken

    not_line : IsPart after.line → IsNoLine after.line mid s sink_mid sink_now → (value : LineValue) → ¬ (IsLine value after.line)
    not_line part none value is = none.none value (record { short = part.short; is_line = is })

    on_line : (halt : Result Unit Halt) (on : Bool) → Ok on ≡ goes_on number halt → RunsBytes C state after.line halt mid s sink_mid sink_now →
        IsNext next.Line reader after between.left source_now.left → IsPart after.line
        → source_now.faults ≡ between.faults → (on ≡ true) × GoneOn
    on_line (Ok u) on is run is_next part heard = (
      cc,
      record {
        rs_now = all (Ok tt) run is_next part;
        so_far_now = goes_so (Ok tt) run is_next part refl heard;
        number_now = omega (arith, number_is, number_snoc rs (one (Ok tt) run is_next part));
        taken = omega (arith, is_next.counted, length-append after.line (10 ∷ []));
      },
    )
    on_line (Err NoLine) on is run is_next part heard = absurd cc
    on_line (Err (Ended ending)) on is run is_next part heard = absurd cc

    off_line : (halt : Result Unit Halt) (e : Ending) → Err e ≡ goes_on number halt → RunsBytes C state after.line halt mid s sink_mid sink_now →
        IsNext next.Line reader after between.left source_now.left → IsPart after.line
        → source_now.faults ≡ between.faults → ScriptRun C state (Err e) (streaming r source sink) (streaming s source_now sink_now)
    off_line (Ok u) e is run is_next part heard = absurd cc
    off_line (Err NoLine) e is run is_next part heard =
        let same : e ≡ Line number = cc in
        subst (λ (x : Ending). ScriptRun C state (Err x) (streaming r source sink) (streaming s source_now sink_now)) (sym same)
        (broken run.same run.sink_is number number_is heard
        (laws.no_line source.left between.left source_now.left (lines_of rs) reader after so_far.read is_next part (not_line part run)))
    off_line (Err (Ended ending)) e is run is_next part heard =
        let same : e ≡ ending = cc in
        subst (λ (x : Ending). ScriptRun C state (Err x) (streaming r source sink) (streaming s source_now sink_now)) (sym same)
        (ends_so (Err ending) run is_next part heard ending refl)

    -- the script goes on
    goes_on_so : RunsNext C state number (Ok true) reader after (streaming mid between sink_mid) (streaming s source_now sink_now) → GoneOn
    goes_on_so (inl on) = by_next on.next on.is_next on.runs
      where
        by_next : (n : NextLine) → IsNext n reader after between.left source_now.left
            → RunsBy C state n number (Ok true) after.line (streaming mid between sink_mid) (streaming s source_now sink_now) → GoneOn
        by_next next.Line is_next runs = (on_line runs.0 true runs.1.0 runs.1.1 is_next on.part on.heard).1
        by_next next.End is_next runs = absurd (let no : true ≡ false = cc in cc)
        by_next next.Wrong is_next runs = absurd cc
        by_next next.TooMany is_next runs = absurd cc
    goes_on_so (inr none) = let no = none.result_is in absurd cc

    pub went_on : (more : Bool) → more ≡ true → RunsNext C state number (Ok more) reader after (streaming mid between sink_mid) (streaming s source_now sink_now) → GoneOn
    went_on true on next = goes_on_so next
    went_on false on next = absurd cc

    -- it has ended
    goes_out : RunsNext C state number (Ok false) reader after (streaming mid between sink_mid) (streaming s source_now sink_now)
        → ScriptRun C state (Ok tt) (streaming r source sink) (streaming s source_now sink_now)
    goes_out (inl on) = by_next on.next on.is_next on.runs
      where
        by_next : (n : NextLine) → IsNext n reader after between.left source_now.left
            → RunsBy C state n number (Ok false) after.line (streaming mid between sink_mid) (streaming s source_now sink_now) →
            ScriptRun C state (Ok tt) (streaming r source sink) (streaming s source_now sink_now)
        by_next next.Line is_next runs = let no : false ≡ true = (on_line runs.0 false runs.1.0 runs.1.1 is_next on.part on.heard).0 in absurd cc
        by_next next.End is_next runs = read_out runs.1.0 runs.1.1 on.heard is_next
        by_next next.Wrong is_next runs = let no = runs.0 in absurd cc
        by_next next.TooMany is_next runs = let no = runs.0 in absurd cc
    goes_out (inr none) = let no = none.result_is in absurd cc

    pub went_out : (more : Bool) → more ≡ false → RunsNext C state number (Ok more) reader after (streaming mid between sink_mid) (streaming s source_now sink_now) →
        ScriptRun C state (Ok tt) (streaming r source sink) (streaming s source_now sink_now)
    went_out false out next = goes_out next
    went_out true out next = absurd cc

    abbrev Gives : Ending → Type 0
    Gives x = ScriptRun C state (Err x) (streaming r source sink) (streaming s source_now sink_now)

    -- or it was given up
    gives_up : (e : Ending) → RunsNext C state number (Err e) reader after (streaming mid between sink_mid) (streaming s source_now sink_now) →
        ScriptRun C state (Err e) (streaming r source sink) (streaming s source_now sink_now)
    gives_up e (inl on) = by_next on.next on.is_next on.runs
      where
        by_next : (n : NextLine) → IsNext n reader after between.left source_now.left
            → RunsBy C state n number (Err e) after.line (streaming mid between sink_mid) (streaming s source_now sink_now) → Gives e
        by_next next.Line is_next runs = off_line runs.0 e runs.1.0 runs.1.1 is_next on.part on.heard
        by_next next.End is_next runs = let no = runs.0 in absurd cc
        by_next next.Wrong is_next runs =
            let is = runs.0 in
            let same : e ≡ Line number = cc in
            subst Gives (sym same) (broken runs.1.0 runs.1.1 number number_is on.heard
            (laws.wrong source.left between.left source_now.left (lines_of rs) reader after so_far.read is_next))
        by_next next.TooMany is_next runs =
            let is = runs.0 in
            let same : e ≡ Script = cc in
            subst Gives (sym same) (overrun runs.1.0 runs.1.1 on.heard
            (laws.too_many source.left between.left source_now.left (lines_of rs) reader after so_far.read is_next on.part))
    gives_up e (inr none) =
        let is = none.result_is in
        let same : e ≡ Source = cc in
        subst (λ (x : Ending). ScriptRun C state (Err x) (streaming r source sink) (streaming s source_now sink_now)) (sym same)
        (unread none.none.0 none.none.1 none.part none.drained none.takes none.rose)

    pub gave_up : (e : Ending) (result : Result Unit Ending) → IsErrAnd result (λ y. y ≡ e)
        → RunsNext C state number (Err e) reader after (streaming mid between sink_mid) (streaming s source_now sink_now)
        → ScriptRun C state result (streaming r source sink) (streaming s source_now sink_now)
    gave_up e result is next = by_error (λ x. ScriptRun C state x (streaming r source sink) (streaming s source_now sink_now)) result e is (gives_up e next)

    -- it does not go on for longer than a number of lines has room
    pub few_numbers : number ≤ MOST_SCRIPT + 1
    few_numbers = omega (arith, number_is, few_lines source.left between.left (lines_of rs) reader so_far.read)

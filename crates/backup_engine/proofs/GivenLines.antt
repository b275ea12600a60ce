-- The lines of a file that is given back.
use Rattle.backup_engine.proofs.Prelude.{◌≡◌, inl, inr, ◌∙◌, ◌==◌, ℕ, true, List, [], ◌∷◌, ◌++◌, length, take, None, Result, Ok, Err, refl, sym, ap, subst, arith, AllByRecursion, concat, ACTORS, Answer, apart, Root, Top, SinkView, Appended, Replied, Refusal, reading, Admits, RunsLine, RunsLines, CoreStep, CoreRun, given_to, CoreState, Event, IsFresh, IsGivenOut, IsNotOpened, IsRead, IsGiven, EndsGiving, GiveRun, WroteGiven, WroteLast, RunsSingle, no_sessions, IsFirstOf, IsRestore, next_lines, refused, said, ending_in}
use Rattle.std.proofs.lemmas.List.{same_from_push}
use Rattle.actor_parts.specs.declared.part.Part.{Part}
use Rattle.actor_parts.specs.declared.part.Part.TheVariants as parts
use Rattle.actor_parts.specs.declared.step.Answer.TheVariants as answers
use Rattle.actor_parts.specs.Parts.{part_of}
use Rattle.actor_parts.specs.StepValue as asked
use Rattle.refusals.specs.declared.refusal.PartKind.TheVariants as kinds
use Rattle.reply_text.specs.declared.ending.Ending.{Ending}
use Rattle.reply_text.specs.declared.ending.Ending.TheVariants as endings
use Rattle.script_lines.specs.Grammar as lines
use Rattle.script_lines.specs.ReplyValue as replies
use Rattle.store_core.specs.Runs.{given_by, opens}
use Rattle.backup_engine.specs.Saying.{idle}
use Rattle.backup_engine.proofs.FirstActor.{as_first, by_first, idle_of}
use Rattle.backup_engine.proofs.ReadSteps.{open_leaves, read_leaves, steps_of}
use Rattle.backup_engine.proofs.Saying.{admits, line_then}
use Rattle.backup_engine.proofs.SayingSteps.{kind_without}

-- the core runs, and the first actor takes a file
record Takes (c : CoreState) : Type 0 where
  runs : c.stop ≡ None
  many : length c.parts ≡ ACTORS
  root : Root
  ahead : List Top
  at : part_of c.parts 0 ≡ reading root ahead

-- how the lines of the reads end, by what was given
abbrev EndsBy : Result Unit Ending → List (List ℕ) → Replied → List (List ℕ) → Type 0
EndsBy (Ok u) segments last given = (last ≡ said (lines.Next 0) (replies.End 0)) × (given ≡ segments)
EndsBy (Err (endings.Refused refusal)) segments last given = (last ≡ refused (lines.Next 0) refusal) × (given ≡ segments)
EndsBy (Err endings.Sink) segments last given =
    (bytes : List ℕ) × ((last ≡ said (lines.Next 0) (replies.Bytes 0 bytes)) × (given ≡ segments ++ bytes ∷ []))
EndsBy (Err ending) segments last given = ⊥

own : (e : Event) (others : List (List ℕ)) → e.actor ≡ 0 → given_by (e.actor == 0) e.answer e.buf others ≡ given_by true e.answer e.buf others
own e others is = ap (λ (a : ℕ). given_by (a == 0) e.answer e.buf others) is

-- one segment more before them
more_ends : (result : Result Unit Ending) (segments : List (List ℕ)) (last : Replied) (given : List (List ℕ)) (bytes : List ℕ) → EndsBy result segments last given →
    EndsBy result (bytes ∷ segments) last (bytes ∷ given)
more_ends (Ok u) segments last given bytes ends = (ends.0, ap (λ (l : List (List ℕ)). bytes ∷ l) ends.1)
more_ends (Err (endings.Refused refusal)) segments last given bytes ends = (ends.0, ap (λ (l : List (List ℕ)). bytes ∷ l) ends.1)
more_ends (Err endings.Sink) segments last given bytes ends = (ends.0, (ends.1.0, ap (λ (l : List (List ℕ)). bytes ∷ l) ends.1.1))
more_ends (Err ending) segments last given bytes ends = absurd ends

module _ (C : Type 0) (state : C → CoreState) where
  -- ---- one read

  admits_next : (old : C) → Takes (state old) → Admits (lines.Next 0) no_sessions (state old)
  admits_next old takes =
      admits (lines.Next 0) no_sessions (state old) kinds.Reading takes.runs refl (kind_without (state old).parts (reading takes.root takes.ahead) takes.at) refl

  read_first : (e : Event) (old new : C) → IsRead e → CoreStep (state old) e (state new) → CoreStep (state old) (by_first asked.ReadNext e.answer e.buf) (state new)
  read_first e old new is step = as_first (state old) (state new) e.actor e.step asked.ReadNext e.answer e.buf is.0 is.1 step

  answered : (e : Event) (answer : Result Answer Refusal) (old new : C) → IsRead e → e.answer ≡ answer → CoreStep (state old) e (state new) →
      CoreStep (state old) (by_first asked.ReadNext answer e.buf) (state new)
  answered e answer old new is same step = subst (λ (a : Result Answer Refusal). CoreStep (state old) (by_first asked.ReadNext a e.buf) (state new)) same
      (read_first e old new is step)

  bytes_line : (old new : C) (count : ℕ) (buf : List ℕ) → Takes (state old) → CoreStep (state old) (by_first asked.ReadNext (Ok (answers.Bytes count)) buf) (state new)
      → RunsLine C state (lines.Next 0) (replies.Bytes 0 (take count buf)) (idle old) (idle new)
  bytes_line old new count buf takes step = inl (admits_next old takes, (refl, (count, (buf, (refl, (step, refl))))))

  end_line : (old new : C) (buf : List ℕ) → Takes (state old) → CoreStep (state old) (by_first asked.ReadNext (Ok answers.End) buf) (state new) →
      RunsLine C state (lines.Next 0) (replies.End 0) (idle old) (idle new)
  end_line old new buf takes step = inl (admits_next old takes, (refl, (buf, (step, refl))))

  refused_line : (old new : C) (buf : List ℕ) (refusal : Refusal) → Takes (state old) → CoreStep (state old) (by_first asked.ReadNext (Err refusal) buf) (state new)
      → RunsLine C state (lines.Next 0) (replies.Refused refusal) (idle old) (idle new)
  refused_line old new buf refusal takes step = inl (admits_next old takes, (buf, (step, refl)))

  -- it goes on
  still_takes : (e : Event) (count : ℕ) (old new : C) → IsRead e → e.answer ≡ Ok (answers.Bytes count) → Takes (state old) → CoreStep (state old) e (state new) → Takes (state new)
  still_takes e count old new is same takes step =
      let leaves = read_leaves e (state old) (state new) is takes.runs step in
      let given = answered e (Ok (answers.Bytes count)) old new is same step in
      let row = (steps_of (by_first asked.ReadNext (Ok (answers.Bytes count)) e.buf) (state old) (state new) takes.runs given).made.row in
      let on = row.next.goes_on in
      record {
        runs = leaves.runs;
        many = leaves.many ∙ takes.many;
        root = on.root;
        ahead = row.next.rest;
        at = ap (λ (ps : List Part). part_of ps 0) on.parts_are ∙ apart.same (state old).parts 0 (reading on.root row.next.rest) (omega (arith, takes.many));
      }

  -- ---- reads, one after the other

  record SaysReads (result : Result Unit Ending) (reads : List Event) (old new : C) : Type 0 where
    segments : List (List ℕ)
    last : Replied
    runs : RunsLines C state (next_lines segments ++ last ∷ []) (idle old) (idle new)
    ends : EndsBy result segments last (given_to 0 reads)

  -- the last
  module _ (e : Event) (old new : C) (is : IsRead e) (takes : Takes (state old)) (step : CoreStep (state old) e (state new)) where
    given_as : (answer : Result Answer Refusal) → e.answer ≡ answer → given_to 0 (e ∷ []) ≡ given_by true answer e.buf []
    given_as answer same = own e [] is.0 ∙ ap (λ (a : Result Answer Refusal). given_by true a e.buf []) same

    sink_failed : (answer : Result Answer Refusal) → e.answer ≡ answer → IsGiven answer → SaysReads (Err endings.Sink) (e ∷ []) old new
    sink_failed (Ok (answers.Bytes count)) same given = record {
      segments = [];
      last = said (lines.Next 0) (replies.Bytes 0 (take count e.buf));
      runs = line_then C state (said (lines.Next 0) (replies.Bytes 0 (take count e.buf))) [] (idle old) (idle new) (idle new) refl
          (bytes_line old new count e.buf takes (answered e (Ok (answers.Bytes count)) old new is same step)) refl;
      ends = (take count e.buf, (refl, given_as (Ok (answers.Bytes count)) same));
    }
    sink_failed answer same given = absurd given

    last_read : (result : Result Unit Ending) → EndsGiving (e ∷ []) result → SaysReads result (e ∷ []) old new
    last_read (Ok u) ends = record {
      segments = [];
      last = said (lines.Next 0) (replies.End 0);
      runs = line_then C state (said (lines.Next 0) (replies.End 0)) [] (idle old) (idle new) (idle new) refl
          (end_line old new e.buf takes (answered e (Ok answers.End) old new is ends step)) refl;
      ends = (refl, given_as (Ok answers.End) ends);
    }
    last_read (Err (endings.Refused refusal)) ends = record {
      segments = [];
      last = refused (lines.Next 0) refusal;
      runs = line_then C state (refused (lines.Next 0) refusal) [] (idle old) (idle new) (idle new) refl
          (refused_line old new e.buf refusal takes (answered e (Err refusal) old new is ends step)) refl;
      ends = (refl, given_as (Err refusal) ends);
    }
    last_read (Err endings.Sink) ends = sink_failed e.answer refl ends
    last_read (Err ending) ends = absurd ends

    -- and another one
    read_then : (result : Result Unit Ending) (others : List Event) (end : C) (answer : Result Answer Refusal) → e.answer ≡ answer → IsGiven answer →
        (Takes (state new) → SaysReads result others new end) → SaysReads result (e ∷ others) old end
    read_then result others end (Ok (answers.Bytes count)) same given on =
        let rest = on (still_takes e count old new is same takes step) in
        let bytes = take count e.buf in
        let one = said (lines.Next 0) (replies.Bytes 0 bytes) in
        let all : given_to 0 (e ∷ others) ≡ bytes ∷ given_to 0 others = own e (given_to 0 others) is.0
        ∙ ap (λ (a : Result Answer Refusal). given_by true a e.buf (given_to 0 others)) same in
        record {
          segments = bytes ∷ rest.segments;
          last = rest.last;
          runs = line_then C state one (next_lines rest.segments ++ rest.last ∷ []) (idle old) (idle new) (idle end) refl
              (bytes_line old new count e.buf takes (answered e (Ok (answers.Bytes count)) old new is same step)) rest.runs;
          ends = subst (λ (given : List (List ℕ)). EndsBy result (bytes ∷ rest.segments) rest.last given) (sym all)
              (more_ends result rest.segments rest.last (given_to 0 others) bytes rest.ends);
        }
    read_then result others end answer same given on = absurd given

  all_reads : (reads : List Event) (result : Result Unit Ending) (old new : C) → Takes (state old) → CoreRun C state reads old new → AllByRecursion IsRead reads →
      EndsGiving reads result → SaysReads result reads old new
  all_reads [] result old new takes ran each ends = absurd ends
  all_reads (e ∷ []) result old new takes ran each ends =
      subst (λ (c : C). SaysReads result (e ∷ []) old c) (sym ran.1.1) (last_read e old ran.0 each.0 takes ran.1.0 result ends)
  all_reads (e ∷ f ∷ es) result old new takes ran each ends =
      read_then e old ran.0 each.0 takes ran.1.0 result (f ∷ es) new e.answer refl ends.0 (λ on. all_reads (f ∷ es) result ran.0 new on ran.1.1 each.1 ends.1)

  -- ---- the name, and then the segments

  module _ (name : List ℕ) (old : C) (fresh : IsFresh (state old)) where
    admits_read : Admits (lines.Read 0 name) no_sessions (state old)
    admits_read = admits (lines.Read 0 name) no_sessions (state old) kinds.Idle fresh.runs refl (kind_without (state old).parts parts.Idle (idle_of (state old) fresh)) refl

    opened_takes : (mid : C) (count : ℕ) (buf : List ℕ) → CoreStep (state old) (opens 0 name count buf) (state mid) → Takes (state mid)
    opened_takes mid count buf step =
        let leaves = open_leaves name (Ok (answers.Opened count)) buf (state old) (state mid) fresh.runs step in
        let row = (steps_of (opens 0 name count buf) (state old) (state mid) fresh.runs step).made.row in
        record {
          runs = leaves.runs;
          many = leaves.many ∙ fresh.up.many;
          root = row.opens.root;
          ahead = row.opens.ahead;
          at = ap (λ (ps : List Part). part_of ps 0) row.opens.parts_are ∙ apart.same (state old).parts 0 (reading row.opens.root row.opens.ahead) (omega (arith, fresh.up.many));
        }

    abbrev one : ℕ → Replied
    one count = said (lines.Read 0 name) (replies.Reading 0 count)

    -- what was written is what the segments have
    wrote_as : (result : Result Unit Ending) (count : ℕ) (segments : List (List ℕ)) (last : Replied) (given : List (List ℕ)) (sink sink_now : SinkView) →
        EndsBy result segments last given → WroteGiven result (concat given) sink sink_now
        → WroteLast result given sink sink_now → IsRestore name (ending_in result) sink sink_now (one count ∷ next_lines segments ++ last ∷ [])
    wrote_as (Ok u) count segments last given sink sink_now ends wrote up_to = (
      segments,
      (
        (count, ap (λ (l : Replied). one count ∷ next_lines segments ++ l ∷ []) ends.0),
        subst (λ (b : List ℕ). Appended sink.written sink_now.written b) (ap concat ends.1) wrote.0,
      ),
    )
    wrote_as (Err (endings.Refused refusal)) count segments last given sink sink_now ends wrote up_to = inr (inr (
      segments,
      (
        (count, ap (λ (l : Replied). one count ∷ next_lines segments ++ l ∷ []) ends.0),
        subst (λ (b : List ℕ). Appended sink.written sink_now.written b) (ap concat ends.1) wrote.0,
      ),
    ))
    wrote_as (Err endings.Sink) count segments last given sink sink_now ends wrote up_to =
        let same = same_from_push up_to.0 segments up_to.1.0 ends.0 (sym up_to.1.1.0 ∙ ends.1.1) in
        let part = up_to.1.1.1.0 in (
          segments,
          (
            ends.0,
            (
              (count, ap (λ (l : Replied). one count ∷ next_lines segments ++ l ∷ []) ends.1.0),
              (
                part,
                (
                  subst (λ (l : List ℕ). IsFirstOf part l) same.1 up_to.1.1.1.1.0,
                  subst (λ (x : List (List ℕ)). Appended sink.written sink_now.written (concat x ++ part)) same.0 up_to.1.1.1.1.1,
                ),
              ),
            ),
          ),
        )
    wrote_as (Err ending) count segments last given sink sink_now ends wrote up_to = absurd ends

    module _ (new : C) (sink sink_now : SinkView) where
      not_opened : (result : Result Unit Ending) → IsNotOpened C state name result old new sink sink_now → RunsSingle C state (IsRestore name (ending_in result) sink sink_now) old
          new
      not_opened result is =
          let line = refused (lines.Read 0 name) is.refusal in
          subst (λ (r : Result Unit Ending). RunsSingle C state (IsRestore name (ending_in r) sink sink_now) old new) (sym is.result_is) (
            line ∷ [],
            (
              inr (inl (refl, ap (λ (k : SinkView). k.written) is.sink_is)),
              (
                idle new,
                (refl, line_then C state line [] (idle old) (idle new) (idle new) refl (inl (admits_read, ((is.buf, is.asked), refl))) refl),
              ),
            ),
          )

      given_out : (result : Result Unit Ending) → IsGivenOut C state name result old new sink sink_now → RunsSingle C state (IsRestore name (ending_in result) sink sink_now) old
          new
      given_out result g =
          let says = all_reads g.reads result g.mid new (opened_takes g.mid g.count g.buf g.opened) g.ran g.each g.ends in
          let more = next_lines says.segments ++ says.last ∷ [] in (
            one g.count ∷ more,
            (
              wrote_as result g.count says.segments says.last (given_to 0 g.reads) sink sink_now says.ends g.wrote g.wrote_last,
              (
                idle new,
                (refl, line_then C state (one g.count) more (idle old) (idle g.mid) (idle new) refl (inl (admits_read, (refl, ((g.buf, g.opened), refl)))) says.runs),
              ),
            ),
          )

      pub given_lines : (result : Result Unit Ending) → GiveRun C state name result old new sink sink_now →
          RunsSingle C state (IsRestore name (ending_in result) sink sink_now) old new
      given_lines result (inl is) = not_opened result is
      given_lines result (inr g) = given_out result g

-- An `ingest` answers by the map, by the law of its lines.
use Rattle.backup_engine.proofs.Prelude.{◌+◌, length, ◌≡◌, ◌⊎◌, inl, inr, ℕ, List, [], ◌∷◌, ◌++◌, Option, Some, None, refl, sym, ◌∙◌, ap, subst, Appended, DiskView, SinkView, SourceView, Refusal, Memory, Sink, Refused, stored_line, FileMachine, Replied, DoesCommand, WroteReply, Digits, IsFirstOf, IsIngest, finish_lines, push_lines, pushed, refused, said}
use Rattle.std.proofs.lemmas.List.{append-nil}
use Rattle.dd_io.specs.Flow.{AppendedPart}
use Rattle.reply_text.specs.declared.ending.Ending.{Ending}
use Rattle.reply_text.specs.declared.ending.Ending.TheVariants.{Source}
use Rattle.script_lines.specs.Grammar as lines
use Rattle.script_lines.specs.Grammar.{LineValue}
use Rattle.script_lines.specs.ReplyValue as replies
use Rattle.store_model.specs.Trees.{root_of}
use Rattle.store_machine.specs.Ingests.{EndsCommitting, Ingested, IngestsByMap, IngestsThrough, IsPut}
use Rattle.store_machine.specs.Commands as machine
use Rattle.store_machine.specs.Commands.{Follows, desk, given_by, printed}
use Rattle.backup_engine.specs.AnswersByMap.{AnswersEachCall, Gave, IsAfter}
use Rattle.backup_engine.specs.ByFiles.{CutsAmong}
use Rattle.script_runner.specs.LinesAreFileRuns.{IsCutBy}
use Rattle.store_model.specs.Collisions.{ByteSet, IsIn}
use Rattle.store_model.specs.Standing.{IsSegmentOf}
use Rattle.store_machine.specs.Legal.{with_name}
use Rattle.store_machine.specs.Machine.{Found, RunState}
use Rattle.store_machine.specs.Opening.{MayBeFound}
use Rattle.store_machine.specs.Values.{of_files}
use Rattle.refusals.specs.declared.refusal.Refusal.TheVariants.{DiskWrite}
use Rattle.script_lines.specs.Grammar.{pushed_bytes}
use Rattle.std.proofs.Common.{append_assoc}
use Rattle.backup_engine.specs.Line.{Ingest}
use Rattle.backup_engine.specs.Singles.{begun}
use Rattle.backup_engine.proofs.AnswersByMap.{Says, answers_call, opened_line, told}
use Rattle.backup_engine.proofs.IngestCuts.{put_cut}
use Rattle.backup_engine.proofs.NoneCut.{ArePlain, none_cuts}
use Rattle.backup_engine.proofs.Ran.{Silent}
use Rattle.backup_engine.proofs.SinglesRun.{ingest_memory}
use Rattle.backup_engine.proofs.IngestTails.{ArePut, Commit, Finish, IsTail, Nothing, Push, Tail, commit_last, ends_with, last_push, push_tail, put_follows, put_lines, pushes_give, pushes_last, tail_end}
use Rattle.backup_engine.specs.Seen.{devices}

module _ (given name : List ℕ) where
  -- ---- how it ended

  -- the lines come to this ending
  abbrev TailEnds : Option Ending → Tail → Type 0
  TailEnds None (Commit (replies.Committed a sequence)) = Unit {0}
  TailEnds (Some Sink) (Commit (replies.Committed a sequence)) = Unit {0}
  TailEnds (Some Source) Nothing = Unit {0}
  TailEnds (Some (Refused refusal)) (Push digits reason) = refusal ≡ reason
  TailEnds (Some (Refused refusal)) (Finish reason) = refusal ≡ reason
  TailEnds (Some (Refused refusal)) (Commit (replies.Refused reason)) = refusal ≡ reason
  TailEnds ending tail = ⊥

  -- which lines they are, unless none was run
  abbrev IsSo : Option Ending → List Replied → Type 0
  IsSo ending rs = (rs ≡ []) ⊎ ((tail : Tail) × (ArePut given name rs tail × TailEnds ending tail))

  stored_tail : (pushes : List Digits) (sequence : ℕ) (rs : List Replied) → pushed pushes ≡ given
      → rs ≡ begun ∷ finish_lines pushes ++ said (lines.Commit 0 name) (replies.Committed 0 sequence) ∷ [] → ArePut given name rs (Commit (replies.Committed 0 sequence))
  stored_tail pushes sequence rs all is =
      (pushes, (all, is ∙ ap (λ (l : List Replied). begun ∷ l) (push_tail pushes (said (lines.Commit 0 name) (replies.Committed 0 sequence)))))

  ingest_so : (ending : Option Ending) (source source_now : SourceView) (rs : List Replied) → IsIngest name given ending source source_now rs → IsSo ending rs
  ingest_so None source source_now rs (pushes, (sequence, (all, is))) = inr (Commit (replies.Committed 0 sequence), (stored_tail pushes sequence rs all is, tt))
  ingest_so (Some Sink) source source_now rs (pushes, (sequence, (all, is))) = inr (Commit (replies.Committed 0 sequence), (stored_tail pushes sequence rs all is, tt))
  ingest_so (Some Source) source source_now rs (pushes, (gave, is)) =
      inr (Nothing, ((pushes, (gave.0, is ∙ ap (λ (l : List Replied). begun ∷ l) (sym (append-nil (push_lines 0 pushes))))), tt))
  ingest_so (Some (Refused refusal)) source source_now rs (inl (memory, none)) = inl none
  ingest_so (Some (Refused refusal)) source source_now rs (inr (more, (are, (pushes, inl (d, (gave, is)))))) =
      inr (Push d.digits refusal, ((pushes, (gave.0, are ∙ ap (λ (l : List Replied). begun ∷ l) is)), refl))
  ingest_so (Some (Refused refusal)) source source_now rs (inr (more, (are, (pushes, inr (inl (all, is)))))) =
      inr (Finish refusal, ((pushes, (all, are ∙ ap (λ (l : List Replied). begun ∷ l) is)), refl))
  ingest_so (Some (Refused refusal)) source source_now rs (inr (more, (are, (pushes, inr (inr (all, is)))))) =
      inr (
        Commit (replies.Refused refusal),
        (
          (pushes, (all, are ∙ ap (λ (l : List Replied). begun ∷ l) (is ∙ push_tail pushes (refused (lines.Commit 0 name) refusal)))),
          refl,
        ),
      )
  ingest_so (Some ending) source source_now rs is = absurd is

  -- after pushes a line may come
  goes_on : (prev : Replied) (count : ℕ) (pushes : List Digits) → (line : LineValue) × Follows (machine.Ingest name) prev.reply line
      → (line : LineValue) × Follows (machine.Ingest name) (last_push given name prev count pushes).reply line
  goes_on prev count [] may = may
  goes_on prev count (d ∷ more) may =
      goes_on (said (lines.Push 0 d.digits) (replies.Pushed 0 (count + length (pushed_bytes d.digits)))) (count + length (pushed_bytes d.digits)) more (lines.Finish 0, inr refl)

  module _ (pushes : List Digits) (tail : Tail) (is : IsTail given name pushes tail) where
    abbrev all : ℕ → List Replied
    all files = opened_line files ∷ put_lines given name pushes tail

    gives : (files : ℕ) → given_by 0 [] (all files) ≡ pushed pushes
    gives files = pushes_give given name pushes tail 0 pushes []

    -- what was pushed comes first of the file
    first : IsFirstOf (pushed pushes) given
    first = by tail is
      where
        by : (t : Tail) → IsTail given name pushes t → IsFirstOf (pushed pushes) given
        by Nothing is = is
        by (Push digits refusal) (rest, is) = (pushed_bytes digits ++ rest, is ∙ append_assoc (pushed pushes) (pushed_bytes digits) rest)
        by (Finish refusal) is = ([], sym is ∙ sym (append-nil (pushed pushes)))
        by (Commit reply) is = ([], sym is ∙ sym (append-nil (pushed pushes)))

    commits : (files : ℕ) → EndsCommitting name (all files) → pushed pushes ≡ given
    commits files end = by tail is end
      where
        by : (t : Tail) → IsTail given name pushes t → EndsCommitting name (opened_line files ∷ put_lines given name pushes t) → pushed pushes ≡ given
        by (Commit reply) is end = is
        by Nothing is end = absurd (pushes_last given name pushes Nothing begun 0 pushes (λ no. cc) (λ none. none) end)
        by (Push digits refusal) is end = absurd (pushes_last given name pushes (Push digits refusal) begun 0 pushes (λ no. cc) (λ none. none) end)
        by (Finish refusal) is end = absurd (pushes_last given name pushes (Finish refusal) begun 0 pushes (λ no. cc) (λ none. none) end)

    put_gave : (files : ℕ) → Gave (Ingest name) given (all files)
    put_gave files = (subst (λ (g : List ℕ). IsFirstOf g given) (sym (gives files)) first, λ end. gives files ∙ commits files end)

    module _ (files : ℕ) (m n : FileMachine) (comes : Ingested name (given_by 0 [] (all files)) (all files) m n) (x : Found (List ℕ))
        (may : MayBeFound of_files n.state n.now x) where
      -- the name has the file
      after : EndsCommitting name (all files) → IsPut name (given_by 0 [] (all files)) m.now x → x ≡ with_name of_files name given m.now
      after end put = put.0 ∙ ap (λ (g : List ℕ). with_name of_files name g m.now) (gives files ∙ commits files end)

      done_after : (one : Replied) → machine.last_of (all files) ≡ Some one → machine.IsDone (machine.Ingest name) one.reply → one.line ≡ lines.Commit 0 name
          → x ≡ with_name of_files name given m.now
      done_after one last done line =
          let so = comes.done (one, last, done) in
          let now : x ≡ n.now = subst (λ (state : RunState (List ℕ)). MayBeFound of_files state n.now x) so.1 may in
          now ∙ so.0.0 ∙ ap (λ (g : List ℕ). with_name of_files name g m.now) (gives files ∙ commits files (one, last, line))

      -- only a write that failed leaves a doubt
      refused_after : (refusal : Refusal) → machine.EndsRefused refusal (all files) → IsAfter (Ingest name) given (Some (Refused refusal)) m.now x
      refused_after refusal end = by refusal (comes.found x may) (λ other. (comes.refused refusal end).1 other x may) refl
        where
          by : (r : Refusal) → (x ≡ m.now) ⊎ (IsPut name (given_by 0 [] (all files)) m.now x × EndsCommitting name (all files)) → (((refusal ≡ DiskWrite) → ⊥) → x ≡ m.now)
              → r ≡ refusal → IsAfter (Ingest name) given (Some (Refused r)) m.now x
          by DiskWrite (inl same) sure is = inl same
          by DiskWrite (inr (put, commits)) sure is = inr (after commits put)
          by r maybe sure is = sure (λ write. let both : r ≡ DiskWrite = is ∙ write in cc)

      none_after : ((EndsCommitting name (all files)) → ⊥) → x ≡ m.now
      none_after none = elim (comes.found x may) [ inl same ↦ same | inr put ↦ absurd (none put.1) ]

  -- its last line was done, and its reply is what is printed
  module _ (pushes : List Digits) (is : pushed pushes ≡ given) (a sequence : ℕ) where
    abbrev done_tail : Tail
    done_tail = Commit (replies.Committed a sequence)

    abbrev done_lines : List Replied
    done_lines = put_lines given name pushes done_tail

    abbrev done_last : Replied
    done_last = said (lines.Commit 0 name) (replies.Committed a sequence)

    done_is_last : (files : ℕ) → machine.last_of (opened_line files ∷ done_lines) ≡ Some done_last
    done_is_last files = commit_last given name pushes (replies.Committed a sequence) begun 0 pushes

    done_printed : (files : ℕ) (m n : FileMachine) → Ingested name (given_by 0 [] (opened_line files ∷ done_lines)) (opened_line files ∷ done_lines) m n
        → printed (machine.Ingest name) (given_by 0 [] (opened_line files ∷ done_lines)) (opened_line files ∷ done_lines) ≡ stored_line name (root_of given)
    done_printed files m n comes =
        (comes.done (done_last, done_is_last files, tt)).2 ∙ ap (λ (g : List ℕ). stored_line name (root_of g)) (gives pushes done_tail is files ∙ is)

    done_says : (sink sink_now : SinkView) → WroteReply (stored_line name (root_of given)) None sink sink_now → Says (Ingest name) given None done_lines sink sink_now
    done_says sink sink_now wrote = record {
      follow = put_follows given name pushes done_tail;
      gave = put_gave pushes done_tail is;
      ended = λ files. (done_last, done_is_last files, tt);
      found = λ files m n comes x may. done_after pushes done_tail is files m n comes x may done_last (done_is_last files) tt refl;
      wrote = λ files m n comes. subst (Appended sink.written sink_now.written) (sym (done_printed files m n comes)) wrote;
    }

    unwritten_says : (sink sink_now : SinkView) → WroteReply (stored_line name (root_of given)) (Some Sink) sink sink_now
        → Says (Ingest name) given (Some Sink) done_lines sink sink_now
    unwritten_says sink sink_now wrote = record {
      follow = put_follows given name pushes done_tail;
      gave = put_gave pushes done_tail is;
      ended = λ files. (done_last, done_is_last files, tt);
      found = λ files m n comes x may. done_after pushes done_tail is files m n comes x may done_last (done_is_last files) tt refl;
      wrote = λ files m n comes. subst (AppendedPart sink.written sink_now.written) (sym (done_printed files m n comes)) wrote;
    }

  -- it was refused
  refused_says : (pushes : List Digits) (tail : Tail) → IsTail given name pushes tail → (refusal : Refusal)
      → (tail_end given name tail (last_push given name begun 0 pushes)).reply ≡ replies.Refused refusal → (sink sink_now : SinkView)
      → sink_now.written ≡ sink.written → Says (Ingest name) given (Some (Refused refusal)) (put_lines given name pushes tail) sink sink_now
  refused_says pushes tail is refusal refuses sink sink_now same = record {
    follow = put_follows given name pushes tail;
    gave = put_gave pushes tail is;
    ended = λ files. inl (tail_end given name tail (last_push given name begun 0 pushes), ends_with given name pushes tail begun 0 pushes, refuses);
    found = λ files m n comes x may. refused_after pushes tail is files m n comes x may refusal
        (tail_end given name tail (last_push given name begun 0 pushes), ends_with given name pushes tail begun 0 pushes, refuses);
    wrote = λ files m n comes. same;
  }

  -- by the ending
  put_says : (ending : Option Ending) (tail : Tail) → TailEnds ending tail → (pushes : List Digits) → IsTail given name pushes tail → (sink sink_now : SinkView)
      → WroteReply (stored_line name (root_of given)) ending sink sink_now → Says (Ingest name) given ending (put_lines given name pushes tail) sink sink_now
  put_says None (Commit (replies.Committed a sequence)) ends pushes is sink sink_now wrote = done_says pushes is a sequence sink sink_now wrote
  put_says (Some Sink) (Commit (replies.Committed a sequence)) ends pushes is sink sink_now wrote = unwritten_says pushes is a sequence sink sink_now wrote
  put_says (Some Source) Nothing ends pushes is sink sink_now wrote = record {
    follow = put_follows given name pushes Nothing;
    gave = put_gave pushes Nothing is;
    ended = λ files. (last_push given name begun 0 pushes, ends_with given name pushes Nothing begun 0 pushes, goes_on begun 0 pushes (lines.Finish 0, inr refl));
    found = λ files m n comes x may. none_after pushes Nothing is files m n comes x may (pushes_last given name pushes Nothing begun 0 pushes (λ no. cc) (λ none. none));
    wrote = λ files m n comes. wrote;
  }
  put_says (Some (Refused refusal)) (Push digits reason) ends pushes is sink sink_now wrote =
      refused_says pushes (Push digits reason) is refusal (ap replies.Refused (sym ends)) sink sink_now wrote
  put_says (Some (Refused refusal)) (Finish reason) ends pushes is sink sink_now wrote =
      refused_says pushes (Finish reason) is refusal (ap replies.Refused (sym ends)) sink sink_now wrote
  put_says (Some (Refused refusal)) (Commit (replies.Refused reason)) ends pushes is sink sink_now wrote =
      refused_says pushes (Commit (replies.Refused reason)) is refusal (ap replies.Refused (sym ends)) sink sink_now wrote
  put_says ending tail ends pushes is sink sink_now wrote = absurd ends

  -- what is cut is of the file
  spoken_cuts : (ending : Option Ending) (source source_now : SourceView) (rs : List Replied) (sink sink_now : SinkView)
      → IsIngest name given ending source source_now rs ⊎ Silent ending rs sink sink_now → (among : ByteSet)
      → ((bytes : List ℕ) → IsSegmentOf given bytes → IsIn among bytes) → (m : FileMachine) → CutsAmong among rs m
  spoken_cuts ending source source_now rs sink sink_now (inr none) among given_in m = none_cuts among rs (subst ArePlain (sym none.none) tt) m
  spoken_cuts ending source source_now rs sink sink_now (inl are) among given_in m = elim (ingest_so ending source source_now rs are) [
    | inl none ↦ none_cuts among rs (subst ArePlain (sym none) tt) m
    | inr (tail, ((pushes, (is, lines_are)), ends)) ↦ λ files opened bytes opens cut.
        given_in bytes (put_cut given name pushes tail is opened bytes (subst (λ (l : List Replied). IsCutBy l (desk opened) bytes) lines_are cut))
  ]

  -- ---- of a call

  module _ (D : Type 0) (view : D → DiskView) (rs : List Replied) (ending : Option Ending) (old new : D) (source source_now : SourceView) (sink sink_now : SinkView)
      (does : DoesCommand D view (Ingest name) given rs ending (devices (view old) (view new) source source_now sink sink_now)) where
    ingest_wrote : WroteReply (stored_line name (root_of given)) ending sink sink_now
    ingest_wrote = elim does.way [
      | inl (inl ((keeps, speaks), no_room)) ↦ keeps.any.wrote
      | inl (inr (mid, (made, later, (keeps, speaks)))) ↦ keeps.any.wrote
      | inr none ↦ subst (λ (e : Option Ending). WroteReply (stored_line name (root_of given)) e sink sink_now) (sym none.ending_is)
          (ap (λ (s : SinkView). s.written) none.sink_is)
    ]

    ingest_silent : IsIngest name given ending source source_now rs → rs ≡ [] → Silent ending rs sink sink_now
    ingest_silent are none =
        let memory = ingest_memory name given ending source source_now rs are none in
        record {
          none = none;
          refusal = Memory;
          ending_is = memory;
          wrote = subst (λ (e : Option Ending). WroteReply (stored_line name (root_of given)) e sink sink_now) memory ingest_wrote;
        }

    ingest_says : IsIngest name given ending source source_now rs → (rs ≡ []) ⊎ Says (Ingest name) given ending rs sink sink_now
    ingest_says are = elim (ingest_so ending source source_now rs are) [
      | inl none ↦ inl none
      | inr (tail, ((pushes, (is, lines_are)), ends)) ↦
          inr (subst (λ (l : List Replied). Says (Ingest name) given ending l sink sink_now) (sym lines_are) (put_says ending tail ends pushes is sink sink_now ingest_wrote))
    ]

pub ingest_by_map : (D : Type 0) (view : D → DiskView) → IngestsByMap → IngestsThrough → (name : List ℕ) → AnswersEachCall D view (Ingest name)
ingest_by_map D view ingests through name given rs ending old new source source_now sink sink_now does among m distinct given_in running known =
    answers_call D view (Ingest name) (ingests name) (through name) given rs ending old new source source_now sink sink_now does among m distinct
    (spoken_cuts given name ending source source_now rs sink sink_now (told D view (Ingest name) given rs ending (view old) (view new) source source_now sink sink_now
    (IsIngest name given ending source source_now) (λ v speaks. speaks) does) among given_in m) running known (λ runs. tt) (IsIngest name given ending source source_now)
    (λ v speaks. speaks) (ingest_silent given name D view rs ending old new source source_now sink sink_now does)
    (ingest_says given name D view rs ending old new source source_now sink sink_now does)

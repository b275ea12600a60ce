-- A `restore` answers by the map, by the law of its lines.
use Rattle.backup_engine.proofs.Prelude.{◌≡◌, ◌⊎◌, inl, inr, ℕ, false, List, [], ◌∷◌, ◌++◌, length, take, Option, Some, None, refl, sym, ◌∙◌, ap, subst, arith, concat, Appended, DiskView, SinkView, Sink, Refused, LineValue, AllFollow, Replied, IsRestore, next_lines, refused, said}
use Rattle.std.proofs.Common.{append_assoc}
use Rattle.std.proofs.lemmas.List.{append-nil, length-append}
use Rattle.dd_io.specs.Flow.{AppendedPart}
use Rattle.reply_text.specs.declared.ending.Ending.{Ending}
use Rattle.script_lines.specs.Grammar as lines
use Rattle.script_lines.specs.ReplyValue as replies
use Rattle.store_machine.specs.ByMap.{RestoresByMap, RestoresThrough}
use Rattle.store_machine.specs.Commands as machine
use Rattle.store_machine.specs.Commands.{Follows, ends, given_by}
use Rattle.backup_engine.specs.AnswersByMap.{AnswersEachCall}
use Rattle.backup_engine.specs.Line.{Restore}
use Rattle.backup_engine.specs.Singles.{ReadsFile}
use Rattle.backup_engine.proofs.AnswersByMap.{Says, answers_call, none_appended, opened_line, stays_after, told}
use Rattle.backup_engine.proofs.NamesByMap.{spoken_cuts}
use Rattle.backup_engine.proofs.Ran.{ran_silent, restore_ran}

-- ---- the lines

module _ (name : List ℕ) (final : Replied) where
  reads_follow : (prev : Replied) (segments : List (List ℕ)) → ends prev.line prev.reply ≡ false
      → ((line : LineValue) → line ≡ lines.Next 0 → Follows (machine.Restore name) prev.reply line) → final.line ≡ lines.Next 0
      → AllFollow (machine.Restore name) prev (next_lines segments ++ final ∷ [])
  reads_follow prev [] goes follows is = (goes, follows final.line is, tt)
  reads_follow prev (bytes ∷ more) goes follows is =
      (goes, follows (lines.Next 0) refl, reads_follow (said (lines.Next 0) (replies.Bytes 0 bytes)) more refl (λ line same. same) is)

  reads_printed : (given : List ℕ) (segments : List (List ℕ)) → machine.printed (machine.Restore name) given (next_lines segments ++ final ∷ [])
      ≡ concat segments ++ machine.text_of (machine.Restore name) given final.line final.reply
  reads_printed given [] = append-nil (machine.text_of (machine.Restore name) given final.line final.reply)
  reads_printed given (bytes ∷ more) =
      ap (λ (text : List ℕ). bytes ++ text) (reads_printed given more)
      ∙ sym (append_assoc bytes (concat more) (machine.text_of (machine.Restore name) given final.line final.reply))

  reads_last : (one : Replied) (segments : List (List ℕ)) → machine.last_of (one ∷ next_lines segments ++ final ∷ []) ≡ Some final
  reads_last one [] = refl
  reads_last one (bytes ∷ more) = reads_last (said (lines.Next 0) (replies.Bytes 0 bytes)) more

-- ---- a first part

take_first : (first rest : List ℕ) → take (length first) (first ++ rest) ≡ first
take_first [] rest = refl
take_first (x ∷ xs) rest = ap (λ (l : List ℕ). x ∷ l) (take_first xs rest)

wrote_first : (before now : Option (List ℕ)) (bytes first rest : List ℕ) → bytes ≡ first ++ rest → Appended before now first → AppendedPart before now bytes
wrote_first before now bytes first rest is wrote = record {
  count = length first;
  fits = omega (arith, ap length is, length-append first rest);
  is = subst (Appended before now) (sym (ap (take (length first)) is ∙ take_first first rest)) wrote;
}

-- ---- what it says

module _ (given name : List ℕ) (sink sink_now : SinkView) where
  module _ (segments : List (List ℕ)) (final : Replied) (count : ℕ) where
    abbrev read_lines : List Replied
    read_lines = said (lines.Read 0 name) (replies.Reading 0 count) ∷ next_lines segments ++ final ∷ []

    read_follow : final.line ≡ lines.Next 0 → (files : ℕ) → AllFollow (machine.Restore name) (opened_line files) read_lines
    read_follow is files = (refl, refl, reads_follow name final (said (lines.Read 0 name) (replies.Reading 0 count)) segments refl (λ line same. same) is)

    read_last : (files : ℕ) → machine.last_of (opened_line files ∷ read_lines) ≡ Some final
    read_last files = reads_last name final (said (lines.Read 0 name) (replies.Reading 0 count)) segments

  read_so : (ending : Option Ending) (rs : List Replied) (segments : List (List ℕ)) (final : Replied) (reads : ReadsFile name segments final rs)
      → Says (Restore name) given ending (read_lines segments final reads.0) sink sink_now → Says (Restore name) given ending rs sink sink_now
  read_so ending rs segments final (count, is) says = subst (λ (l : List Replied). Says (Restore name) given ending l sink sink_now) (sym is) says

  restore_says : (rs : List Replied) (ending : Option Ending) → IsRestore name ending sink sink_now rs → (rs ≡ []) ⊎ Says (Restore name) given ending rs sink sink_now
  restore_says rs None (segments, (reads, wrote)) = inr (read_so None rs segments (said (lines.Next 0) (replies.End 0)) reads (record {
    gave = λ files. tt;
    follow = read_follow segments (said (lines.Next 0) (replies.End 0)) reads.0 refl;
    found = λ files m n comes x may. comes.found x may;
    ended = λ files. (said (lines.Next 0) (replies.End 0), read_last segments (said (lines.Next 0) (replies.End 0)) reads.0 files, tt);
    wrote = λ files m n comes. subst (Appended sink.written sink_now.written)
        (sym (reads_printed name (said (lines.Next 0) (replies.End 0))
        (given_by 0 [] (opened_line files ∷ read_lines segments (said (lines.Next 0) (replies.End 0)) reads.0)) segments ∙ append-nil (concat segments))) wrote;
  }))
  restore_says rs (Some Sink) (segments, (bytes, (reads, (part, ((rest, first), wrote))))) =
      inr (read_so (Some Sink) rs segments (said (lines.Next 0) (replies.Bytes 0 bytes)) reads (record {
        gave = λ files. tt;
        follow = read_follow segments (said (lines.Next 0) (replies.Bytes 0 bytes)) reads.0 refl;
        found = λ files m n comes x may. comes.found x may;
        ended = λ files. (said (lines.Next 0) (replies.Bytes 0 bytes), read_last segments (said (lines.Next 0) (replies.Bytes 0 bytes)) reads.0 files, (bytes, refl));
        wrote = λ files m n comes. wrote_first sink.written sink_now.written
            (machine.printed (machine.Restore name) (given_by 0 [] (opened_line files ∷ read_lines segments (said (lines.Next 0) (replies.Bytes 0 bytes)) reads.0))
            (opened_line files ∷ read_lines segments (said (lines.Next 0) (replies.Bytes 0 bytes)) reads.0)) (concat segments ++ part) rest
            (reads_printed name (said (lines.Next 0) (replies.Bytes 0 bytes))
            (given_by 0 [] (opened_line files ∷ read_lines segments (said (lines.Next 0) (replies.Bytes 0 bytes)) reads.0)) segments
            ∙ ap (λ (l : List ℕ). concat segments ++ l) first
            ∙ sym (append_assoc (concat segments) part rest)) wrote;
      }))
  restore_says rs (Some (Refused refusal)) (inl (memory, none, same)) = inl none
  restore_says rs (Some (Refused refusal)) (inr (inl (is, same))) =
      inr (subst (λ (l : List Replied). Says (Restore name) given (Some (Refused refusal)) l sink sink_now) (sym is) (record {
        gave = λ files. tt;
        follow = λ files. (refl, refl, tt);
        found = λ files m n comes x may. stays_after (Restore name) given refusal m.now x (comes.found x may);
        ended = λ files. inl (refused (lines.Read 0 name) refusal, refl, refl);
        wrote = λ files m n comes. none_appended sink.written sink_now.written same;
      }))
  restore_says rs (Some (Refused refusal)) (inr (inr (segments, (reads, wrote)))) =
      inr (read_so (Some (Refused refusal)) rs segments (refused (lines.Next 0) refusal) reads (record {
        gave = λ files. tt;
        follow = read_follow segments (refused (lines.Next 0) refusal) reads.0 refl;
        found = λ files m n comes x may. stays_after (Restore name) given refusal m.now x (comes.found x may);
        ended = λ files. inl (refused (lines.Next 0) refusal, read_last segments (refused (lines.Next 0) refusal) reads.0 files, refl);
        wrote = λ files m n comes. subst (Appended sink.written sink_now.written)
            (sym (reads_printed name (refused (lines.Next 0) refusal)
            (given_by 0 [] (opened_line files ∷ read_lines segments (refused (lines.Next 0) refusal) reads.0)) segments ∙ append-nil (concat segments))) wrote;
      }))
  restore_says rs (Some ending) is = absurd is

pub restore_by_map : (D : Type 0) (view : D → DiskView) → RestoresByMap → RestoresThrough → (name : List ℕ) → AnswersEachCall D view (Restore name)
restore_by_map D view restores through name given rs ending old new source source_now sink sink_now does among m distinct given_in running known =
    answers_call D view (Restore name) (restores name) (through name) given rs ending old new source source_now sink sink_now does among m distinct
    (spoken_cuts ending rs sink sink_now (IsRestore name ending sink sink_now) (restore_ran rs sink sink_now name ending)
    (told D view (Restore name) given rs ending (view old) (view new) source source_now sink sink_now (IsRestore name ending sink sink_now) (λ v speaks. speaks) does) among m)
    running known (λ runs. tt) (IsRestore name ending sink sink_now) (λ v speaks. speaks)
    (λ are. ran_silent ending rs sink sink_now (restore_ran rs sink sink_now name ending are)) (restore_says given name sink sink_now rs ending)

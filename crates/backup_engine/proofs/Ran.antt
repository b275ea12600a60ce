-- What single commands but `ingest` ran: no line, as there was no memory; or lines by which no file is given.
use Rattle.backup_engine.proofs.Prelude.{◌≡◌, ◌⊎◌, ◌++◌, inl, inr, ℕ, List, [], ◌∷◌, Option, None, Some, refl, sym, ◌∙◌, subst, DiskView, SinkView, Refusal, Memory, Sink, Refused, LineValue, ReplyValue, FileMachine, Replied, ByteSet, AreOfActors, CutsAmong, FailsAlone, RunsEachByFiles, IsCollect, IsDelete, IsListing, IsRestore, collecting, next_lines, refused, said}
use Rattle.reply_text.specs.declared.ending.Ending.{Ending}
use Rattle.script_lines.specs.Grammar as lines
use Rattle.script_lines.specs.ReplyValue as replies
use Rattle.backup_engine.specs.Singles.{ReadsFile}
use Rattle.backup_engine.proofs.FailsAlone.{fails_by}
use Rattle.backup_engine.proofs.NoneCut.{ArePlain, IsPlainLine, none_cuts, plain_actors}

-- no line was run, and nothing was written
pub record Silent (ending : Option Ending) (rs : List Replied) (sink sink_now : SinkView) : Type 0 where
  pub none : rs ≡ []
  pub refusal : Refusal
  pub ending_is : ending ≡ Some (Refused refusal)
  pub wrote : sink_now.written ≡ sink.written

-- there was no memory
pub record NoneRan (ending : Option Ending) (rs : List Replied) (sink sink_now : SinkView) : Type 0 where
  pub none : rs ≡ []
  pub memory : ending ≡ Some (Refused Memory)
  pub wrote : sink_now.written ≡ sink.written

pub record SomeRan (rs : List Replied) : Type 0 where
  pub plain : ArePlain rs
  pub some : rs ≡ [] → ⊥

abbrev pub Ran : Option Ending → List Replied → SinkView → SinkView → Type 0
Ran ending rs sink sink_now = NoneRan ending rs sink sink_now ⊎ SomeRan rs

-- ---- what follows

-- where there was no memory a refusal is that
pub alone_memory : (ending : Option Ending) (rs : List Replied) (v w : DiskView) → RunsEachByFiles ending rs v w → ending ≡ Some (Refused Memory) → FailsAlone ending rs v
alone_memory ending rs v w each memory =
    fails_by ending rs v w (λ refusal is. inl (let both : Some (Refused Memory) ≡ Some (Refused refusal) = sym memory ∙ is in let same : refusal ≡ Memory = cc in same)) each

module _ (ending : Option Ending) (rs : List Replied) (sink sink_now : SinkView) (ran : Ran ending rs sink sink_now) where
  pub ran_plain : ArePlain rs
  ran_plain = elim ran [ inl none ↦ subst ArePlain (sym none.none) tt | inr some ↦ some.plain ]

  pub ran_actors : AreOfActors rs
  ran_actors = plain_actors rs ran_plain

  pub ran_cuts : (among : ByteSet) (m : FileMachine) → CutsAmong among rs m
  ran_cuts among m = none_cuts among rs ran_plain m

  pub ran_alone : (v w : DiskView) → RunsEachByFiles ending rs v w → rs ≡ [] → FailsAlone ending rs v
  ran_alone v w each none = elim ran [ inl empty ↦ alone_memory ending rs v w each empty.memory | inr some ↦ absurd (some.some none) ]

  pub ran_silent : rs ≡ [] → Silent ending rs sink sink_now
  ran_silent none = elim ran [
    | inl empty ↦ record { none = none; refusal = Memory; ending_is = empty.memory; wrote = empty.wrote }
    | inr some ↦ absurd (some.some none)
  ]

-- ---- which they are

no_memory : (refusal : Refusal) (rs : List Replied) (sink sink_now : SinkView) → refusal ≡ Memory → rs ≡ [] → sink_now.written ≡ sink.written
    → Ran (Some (Refused refusal)) rs sink sink_now
no_memory refusal rs sink sink_now memory none same =
    inl (record { none = none; memory = subst (λ (r : Refusal). Some (Refused r) ≡ Some (Refused Memory)) (sym memory) refl; wrote = same })

some_ran : (one : Replied) (more rs : List Replied) → rs ≡ one ∷ more → ArePlain (one ∷ more) → SomeRan rs
some_ran one more rs is plain = record { plain = subst ArePlain (sym is) plain; some = λ none. let no : one ∷ more ≡ [] = sym is ∙ none in cc }

one_ran : (line : LineValue) (reply : ReplyValue) (rs : List Replied) → rs ≡ said line reply ∷ [] → IsPlainLine line → SomeRan rs
one_ran line reply rs is plain = some_ran (said line reply) [] rs is (plain, tt)

module _ (rs : List Replied) (sink sink_now : SinkView) where
  pub list_ran : (ending : Option Ending) → IsListing ending sink sink_now rs → Ran ending rs sink sink_now
  list_ran None (files, (is, wrote)) = inr (one_ran lines.ListNames (replies.Listed files) rs is tt)
  list_ran (Some Sink) (files, (is, wrote)) = inr (one_ran lines.ListNames (replies.Listed files) rs is tt)
  list_ran (Some (Refused refusal)) (inl (memory, inl none), same) = no_memory refusal rs sink sink_now memory none same
  list_ran (Some (Refused refusal)) (inl (memory, inr (files, is)), same) = inr (one_ran lines.ListNames (replies.Listed files) rs is tt)
  list_ran (Some (Refused refusal)) (inr is, same) = inr (one_ran lines.ListNames (replies.Refused refusal) rs is tt)
  list_ran (Some ending) is = absurd is

  pub delete_ran : (name : List ℕ) (ending : Option Ending) → IsDelete name ending sink sink_now rs → Ran ending rs sink sink_now
  delete_ran name None ((sequence, is), wrote) = inr (one_ran (lines.Delete name) (replies.Deleted sequence) rs is tt)
  delete_ran name (Some Sink) ((sequence, is), wrote) = inr (one_ran (lines.Delete name) (replies.Deleted sequence) rs is tt)
  delete_ran name (Some (Refused refusal)) (inl (memory, none), same) = no_memory refusal rs sink sink_now memory none same
  delete_ran name (Some (Refused refusal)) (inr is, same) = inr (one_ran (lines.Delete name) (replies.Refused refusal) rs is tt)
  delete_ran name (Some ending) is = absurd is

  next_plain : (segments : List (List ℕ)) (final : Replied) → IsPlainLine final.line → ArePlain (next_lines segments ++ final ∷ [])
  next_plain [] final plain = (plain, tt)
  next_plain (bytes ∷ more) final plain = (refl, next_plain more final plain)

  read_ran : (name : List ℕ) (segments : List (List ℕ)) (final : Replied) → IsPlainLine final.line → ReadsFile name segments final rs → SomeRan rs
  read_ran name segments final plain (count, is) =
      some_ran (said (lines.Read 0 name) (replies.Reading 0 count)) (next_lines segments ++ final ∷ []) rs is (refl, next_plain segments final plain)

  pub restore_ran : (name : List ℕ) (ending : Option Ending) → IsRestore name ending sink sink_now rs → Ran ending rs sink sink_now
  restore_ran name None (segments, (reads, wrote)) = inr (read_ran name segments (said (lines.Next 0) (replies.End 0)) refl reads)
  restore_ran name (Some Sink) (segments, (bytes, (reads, wrote))) = inr (read_ran name segments (said (lines.Next 0) (replies.Bytes 0 bytes)) refl reads)
  restore_ran name (Some (Refused refusal)) (inl (memory, none, same)) = no_memory refusal rs sink sink_now memory none same
  restore_ran name (Some (Refused refusal)) (inr (inl (is, same))) = inr (one_ran (lines.Read 0 name) (replies.Refused refusal) rs is refl)
  restore_ran name (Some (Refused refusal)) (inr (inr (segments, (reads, wrote)))) = inr (read_ran name segments (refused (lines.Next 0) refusal) refl reads)
  restore_ran name (Some ending) is = absurd is

  two_ran : (percent snapshot : ℕ) (reply : ReplyValue) → rs ≡ collecting percent snapshot ∷ said lines.Sweep reply ∷ [] → SomeRan rs
  two_ran percent snapshot reply is = some_ran (collecting percent snapshot) (said lines.Sweep reply ∷ []) rs is (tt, (tt, tt))

  pub collect_ran : (percent : ℕ) (ending : Option Ending) → IsCollect percent ending sink sink_now rs → Ran ending rs sink sink_now
  collect_ran percent None (freed, copied, ((snapshot, is), wrote)) = inr (two_ran percent snapshot (replies.Collected freed copied) is)
  collect_ran percent (Some Sink) (freed, copied, ((snapshot, is), wrote)) = inr (two_ran percent snapshot (replies.Collected freed copied) is)
  collect_ran percent (Some (Refused refusal)) (inl (memory, inl none), same) = no_memory refusal rs sink sink_now memory none same
  collect_ran percent (Some (Refused refusal)) (inl (memory, inr (freed, copied, (snapshot, is))), same) =
      inr (two_ran percent snapshot (replies.Collected freed copied) is)
  collect_ran percent (Some (Refused refusal)) (inr (inl is), same) = inr (one_ran (lines.Gc percent) (replies.Refused refusal) rs is tt)
  collect_ran percent (Some (Refused refusal)) (inr (inr (snapshot, is)), same) = inr (two_ran percent snapshot (replies.Refused refusal) is)
  collect_ran percent (Some ending) is = absurd is

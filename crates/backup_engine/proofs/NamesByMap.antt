-- A `list` and a `delete` answer by the map, by the laws of their lines.
use Rattle.backup_engine.proofs.Prelude.{◌≡◌, ◌⊎◌, inl, inr, ℕ, IsTrue, List, [], ◌∷◌, ◌++◌, Option, Some, None, refl, sym, ◌∙◌, subst, Appended, SinkView, Refusal, Memory, Sink, Refused, ReplyValue, FileMachine, Replied, CommandLine, IsDelete, IsListing, said}
use Rattle.std.proofs.lemmas.List.{append-nil}
use Rattle.dd_io.specs.Flow.{AppendedPart}
use Rattle.reply_text.specs.declared.ending.Ending.{Ending}
use Rattle.reply_text.specs.Text.{deleted_line, listing_text}
use Rattle.script_lines.specs.Grammar as lines
use Rattle.script_lines.specs.ReplyValue as replies
use Rattle.store_state.specs.Refused.{fails}
use Rattle.store_machine.specs.ByMap.{DeletedName, DeletesByMap, DeletesThrough, IsGone, ListsByMap, ListsThrough}
use Rattle.store_machine.specs.Legal.{without_name}
use Rattle.store_machine.specs.Machine.{Found, RunState}
use Rattle.store_machine.specs.Opening.{MayBeFound}
use Rattle.store_machine.specs.Values.{of_files}
use Rattle.store_model.specs.Collisions.{ByteSet}
use Rattle.refusals.specs.declared.refusal.Refusal.TheVariants.{DiskWrite}
use Rattle.dd_disk.specs.View.{DiskView}
use Rattle.store_machine.specs.Commands.{EndsRefused}
use Rattle.backup_engine.specs.AnswersByMap.{AnswersEachCall, IsAfter}
use Rattle.backup_engine.specs.ByFiles.{CutsAmong}
use Rattle.backup_engine.specs.Line.{Delete}
use Rattle.backup_engine.specs.Line as table
use Rattle.backup_engine.proofs.AnswersByMap.{Says, answers_call, opened_line, stays_after, told}
use Rattle.backup_engine.proofs.NoneCut.{ArePlain, none_cuts}
use Rattle.backup_engine.proofs.Ran.{Ran, Silent, delete_ran, list_ran, ran_cuts, ran_silent}

-- ---- what a few lines say

-- there was no memory
pub fails_memory : (refusal : Refusal) → refusal ≡ Memory → IsTrue (fails refusal)
fails_memory refusal memory = subst (λ (r : Refusal). IsTrue (fails r)) (sym memory) refl

-- a text that is all that was printed
pub whole_text : (text : List ℕ) (sink sink_now : SinkView) → Appended sink.written sink_now.written text → Appended sink.written sink_now.written (text ++ [])
whole_text text sink sink_now wrote = subst (Appended sink.written sink_now.written) (sym (append-nil text)) wrote

pub first_text : (text : List ℕ) (sink sink_now : SinkView) → AppendedPart sink.written sink_now.written text → AppendedPart sink.written sink_now.written (text ++ [])
first_text text sink sink_now wrote = subst (AppendedPart sink.written sink_now.written) (sym (append-nil text)) wrote

-- what a command says of lines it says of a list that is these
pub says_of : (command : CommandLine) (given : List ℕ) (sink sink_now : SinkView) (ending : Option Ending) (rs are : List Replied) → rs ≡ are
    → Says command given ending are sink sink_now → Says command given ending rs sink sink_now
says_of command given sink sink_now ending rs are is says = subst (λ (l : List Replied). Says command given ending l sink sink_now) (sym is) says

-- where lines cut nothing, or none was run
pub spoken_cuts : (ending : Option Ending) (rs : List Replied) (sink sink_now : SinkView) (AreSo : List Replied → Type 0) → (AreSo rs → Ran ending rs sink sink_now)
    → AreSo rs ⊎ Silent ending rs sink sink_now → (among : ByteSet) (m : FileMachine) → CutsAmong among rs m
spoken_cuts ending rs sink sink_now AreSo ran (inl are) among m = ran_cuts ending rs sink sink_now (ran are) among m
spoken_cuts ending rs sink sink_now AreSo ran (inr none) among m = none_cuts among rs (subst ArePlain (sym none.none) tt) m

-- ---- list

module _ (given : List ℕ) (sink sink_now : SinkView) where
  abbrev listed : ReplyValue → List Replied
  listed reply = said lines.ListNames reply ∷ []

  abbrev SaysList : Option Ending → List Replied → Type 0
  SaysList ending rs = Says table.List given ending rs sink sink_now

  refused_list : (refusal : Refusal) (reply : ReplyValue) → EndsRefused refusal (opened_line 0 ∷ listed reply) ⊎ IsTrue (fails refusal) → sink_now.written ≡ sink.written
      → SaysList (Some (Refused refusal)) (listed reply)
  refused_list refusal reply ended same = record {
    follow = λ n. (refl, refl, tt);
    gave = λ n. tt;
    ended = λ n. ended;
    found = λ n m k comes x may. stays_after table.List given refusal m.now x (comes.found x may);
    wrote = λ n m k comes. same;
  }

  list_says : (rs : List Replied) (ending : Option Ending) → IsListing ending sink sink_now rs → (rs ≡ []) ⊎ SaysList ending rs
  list_says rs None (files, (is, wrote)) = inr (says_of table.List given sink sink_now None rs (listed (replies.Listed files)) is (record {
    follow = λ n. (refl, refl, tt);
    gave = λ n. tt;
    ended = λ n. (said lines.ListNames (replies.Listed files), refl, tt);
    found = λ n m k comes x may. comes.found x may;
    wrote = λ n m k comes. whole_text (listing_text files) sink sink_now wrote;
  }))
  list_says rs (Some Sink) (files, (is, wrote)) = inr (says_of table.List given sink sink_now (Some Sink) rs (listed (replies.Listed files)) is (record {
    follow = λ n. (refl, refl, tt);
    gave = λ n. tt;
    ended = λ n. (said lines.ListNames (replies.Listed files), refl, tt);
    found = λ n m k comes x may. comes.found x may;
    wrote = λ n m k comes. first_text (listing_text files) sink sink_now wrote;
  }))
  list_says rs (Some (Refused refusal)) (inl (memory, inl none), same) = inl none
  list_says rs (Some (Refused refusal)) (inl (memory, inr (files, is)), same) =
      inr (says_of table.List given sink sink_now (Some (Refused refusal)) rs (listed (replies.Listed files)) is
      (refused_list refusal (replies.Listed files) (inr (fails_memory refusal memory)) same))
  list_says rs (Some (Refused refusal)) (inr is, same) = inr (says_of table.List given sink sink_now (Some (Refused refusal)) rs (listed (replies.Refused refusal)) is
      (refused_list refusal (replies.Refused refusal) (inl (said lines.ListNames (replies.Refused refusal), refl, refl)) same))
  list_says rs (Some ending) is = absurd is

pub list_by_map : (D : Type 0) (view : D → DiskView) → ListsByMap → ListsThrough → AnswersEachCall D view table.List
list_by_map D view lists through given rs ending old new source source_now sink sink_now does among m distinct given_in running known =
    answers_call D view table.List lists through given rs ending old new source source_now sink sink_now does among m distinct
    (spoken_cuts ending rs sink sink_now (IsListing ending sink sink_now) (list_ran rs sink sink_now ending)
    (told D view table.List given rs ending (view old) (view new) source source_now sink sink_now (IsListing ending sink sink_now) (λ v speaks. speaks) does) among m) running known
    (λ runs. tt) (IsListing ending sink sink_now) (λ v speaks. speaks) (λ are. ran_silent ending rs sink sink_now (list_ran rs sink sink_now ending are))
    (list_says given sink sink_now rs ending)

-- ---- delete

module _ (given name : List ℕ) (sink sink_now : SinkView) where
  abbrev deleting : ReplyValue → List Replied
  deleting reply = said (lines.Delete name) reply ∷ []

  abbrev SaysDelete : Option Ending → List Replied → Type 0
  SaysDelete ending rs = Says (Delete name) given ending rs sink sink_now

  -- it was done
  gone : (sequence files : ℕ) (m n : FileMachine) → DeletedName name (opened_line files ∷ deleting (replies.Deleted sequence)) m n → (x : Found (List ℕ))
      → MayBeFound of_files n.state n.now x → x ≡ without_name of_files name m.now
  gone sequence files m n comes x may =
      let is = comes.done (said (lines.Delete name) (replies.Deleted sequence), refl, tt) in
      subst (λ (state : RunState (List ℕ)). MayBeFound of_files state n.now x) is.1 may ∙ is.0.0

  -- or refused: only a write that failed leaves a doubt
  kept : (refusal : Refusal) (now x : Found (List ℕ)) → (((refusal ≡ DiskWrite) → ⊥) → x ≡ now) → (x ≡ now) ⊎ IsGone name now x
      → IsAfter (Delete name) given (Some (Refused refusal)) now x
  kept DiskWrite now x sure (inl same) = inl same
  kept DiskWrite now x sure (inr gone) = inr gone.0
  kept refusal now x sure may = sure (λ is. cc)

  delete_says : (rs : List Replied) (ending : Option Ending) → IsDelete name ending sink sink_now rs → (rs ≡ []) ⊎ SaysDelete ending rs
  delete_says rs None ((sequence, is), wrote) = inr (says_of (Delete name) given sink sink_now None rs (deleting (replies.Deleted sequence)) is (record {
    follow = λ n. (refl, refl, tt);
    gave = λ n. tt;
    ended = λ n. (said (lines.Delete name) (replies.Deleted sequence), refl, tt);
    found = gone sequence;
    wrote = λ n m k comes. whole_text (deleted_line name) sink sink_now wrote;
  }))
  delete_says rs (Some Sink) ((sequence, is), wrote) = inr (says_of (Delete name) given sink sink_now (Some Sink) rs (deleting (replies.Deleted sequence)) is (record {
    follow = λ n. (refl, refl, tt);
    gave = λ n. tt;
    ended = λ n. (said (lines.Delete name) (replies.Deleted sequence), refl, tt);
    found = gone sequence;
    wrote = λ n m k comes. first_text (deleted_line name) sink sink_now wrote;
  }))
  delete_says rs (Some (Refused refusal)) (inl (memory, none), same) = inl none
  delete_says rs (Some (Refused refusal)) (inr is, same) =
      inr (says_of (Delete name) given sink sink_now (Some (Refused refusal)) rs (deleting (replies.Refused refusal)) is (record {
        follow = λ n. (refl, refl, tt);
        gave = λ n. tt;
        ended = λ n. inl (said (lines.Delete name) (replies.Refused refusal), refl, refl);
        found = λ n m k comes x may. kept refusal m.now x
            (λ other. (comes.refused refusal (said (lines.Delete name) (replies.Refused refusal), refl, refl)).1 other x may) (comes.found x may);
        wrote = λ n m k comes. same;
      }))
  delete_says rs (Some ending) is = absurd is

pub delete_by_map : (D : Type 0) (view : D → DiskView) → DeletesByMap → DeletesThrough → (name : List ℕ) → AnswersEachCall D view (Delete name)
delete_by_map D view deletes through name given rs ending old new source source_now sink sink_now does among m distinct given_in running known =
    answers_call D view (Delete name) (deletes name) (through name) given rs ending old new source source_now sink sink_now does among m distinct
    (spoken_cuts ending rs sink sink_now (IsDelete name ending sink sink_now) (delete_ran rs sink sink_now name ending)
    (told D view (Delete name) given rs ending (view old) (view new) source source_now sink sink_now (IsDelete name ending sink sink_now) (λ v speaks. speaks) does) among m)
    running known (λ runs. tt) (IsDelete name ending sink sink_now) (λ v speaks. speaks)
    (λ are. ran_silent ending rs sink sink_now (delete_ran rs sink sink_now name ending are)) (delete_says given name sink sink_now rs ending)

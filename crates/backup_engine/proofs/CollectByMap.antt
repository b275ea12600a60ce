-- A `collect` answers by the map, by the law of its lines; and the containers that it leaves stand byte for byte.
use Rattle.backup_engine.proofs.Prelude.{◌≡◌, ◌⊎◌, inl, inr, ℕ, IsTrue, List, [], ◌∷◌, Option, Some, None, refl, sym, ◌∙◌, ap, subst, arith, AllByRecursion, DiskView, SinkView, Refusal, DiskWrite, Sink, Refused, ReplyValue, FileMachine, MakesRoom, Replied, RunsByFiles, IsIn, IsCollect, collecting, said}
use Rattle.base_model.specs.Known.{KnownWith}
use Rattle.reply_text.specs.declared.ending.Ending.{Ending}
use Rattle.script_lines.specs.Grammar as lines
use Rattle.script_lines.specs.ReplyValue as replies
use Rattle.store_model.specs.Freeing.{FreesTo}
use Rattle.store_model.specs.Image.{Store}
use Rattle.store_model.specs.Slots.{last_id}
use Rattle.store_state.specs.Refused.{fails}
use Rattle.store_machine.specs.CollectsAlone.{CollectsByMap, CollectsThrough}
use Rattle.store_machine.specs.Commands.{EndsRefused}
use Rattle.store_machine.specs.Machine.{Found, RunState, Running}
use Rattle.store_machine.specs.Needs.{NamesNeed}
use Rattle.store_machine.specs.Opening.{MayBeFound, Stands}
use Rattle.store_machine.specs.Values.{of_files}
use Rattle.core_machine.specs.Bytes.{MadeRoom}
use Rattle.backup_engine.specs.AnswersByMap.{AnswersEachCall, KeepsBytes, KeepsSlots}
use Rattle.backup_engine.specs.Collected.{collected_line}
use Rattle.backup_engine.specs.Line.{Collect}
use Rattle.backup_engine.proofs.AnswersByMap.{Says, answers_call, opened_line, stays_after, told}
use Rattle.backup_engine.proofs.AtLines.{all_lines, last}
use Rattle.backup_engine.proofs.CollectBytes.{IsGcLine, RunKeeps, all_gc, room_keeps, run_keeps}
use Rattle.backup_engine.proofs.NamesByMap.{fails_memory, first_text, says_of, spoken_cuts, whole_text}
use Rattle.backup_engine.proofs.Ran.{Silent, collect_ran, ran_silent}

-- ---- what it says of its lines

module _ (given : List ℕ) (percent : ℕ) (sink sink_now : SinkView) where
  abbrev began : ReplyValue → List Replied
  began reply = said (lines.Gc percent) reply ∷ []

  abbrev swept : ℕ → ReplyValue → List Replied
  swept snapshot reply = collecting percent snapshot ∷ said lines.Sweep reply ∷ []

  abbrev SaysCollect : Option Ending → List Replied → Type 0
  SaysCollect ending rs = Says (Collect percent) given ending rs sink sink_now

  refused_swept : (refusal : Refusal) (snapshot : ℕ) (reply : ReplyValue) → EndsRefused refusal (opened_line 0 ∷ swept snapshot reply) ⊎ IsTrue (fails refusal)
      → sink_now.written ≡ sink.written → SaysCollect (Some (Refused refusal)) (swept snapshot reply)
  refused_swept refusal snapshot reply ended same = record {
    follow = λ n. (refl, refl, (refl, refl, tt));
    gave = λ n. tt;
    ended = λ n. ended;
    found = λ n m k comes x may. stays_after (Collect percent) given refusal m.now x (comes.found x may);
    wrote = λ n m k comes. same;
  }

  collect_says : (rs : List Replied) (ending : Option Ending) → IsCollect percent ending sink sink_now rs → (rs ≡ []) ⊎ SaysCollect ending rs
  collect_says rs None (freed, copied, ((snapshot, is), wrote)) =
      inr (says_of (Collect percent) given sink sink_now None rs (swept snapshot (replies.Collected freed copied)) is (record {
        follow = λ n. (refl, refl, (refl, refl, tt));
        gave = λ n. tt;
        ended = λ n. (said lines.Sweep (replies.Collected freed copied), refl, tt);
        found = λ n m k comes x may. comes.found x may;
        wrote = λ n m k comes. whole_text (collected_line freed copied) sink sink_now wrote;
      }))
  collect_says rs (Some Sink) (freed, copied, ((snapshot, is), wrote)) =
      inr (says_of (Collect percent) given sink sink_now (Some Sink) rs (swept snapshot (replies.Collected freed copied)) is (record {
        follow = λ n. (refl, refl, (refl, refl, tt));
        gave = λ n. tt;
        ended = λ n. (said lines.Sweep (replies.Collected freed copied), refl, tt);
        found = λ n m k comes x may. comes.found x may;
        wrote = λ n m k comes. first_text (collected_line freed copied) sink sink_now wrote;
      }))
  collect_says rs (Some (Refused refusal)) (inl (memory, inl none), same) = inl none
  collect_says rs (Some (Refused refusal)) (inl (memory, inr (freed, copied, (snapshot, is))), same) =
      inr (says_of (Collect percent) given sink sink_now (Some (Refused refusal)) rs (swept snapshot (replies.Collected freed copied)) is
      (refused_swept refusal snapshot (replies.Collected freed copied) (inr (fails_memory refusal memory)) same))
  collect_says rs (Some (Refused refusal)) (inr (inl is), same) =
      inr (says_of (Collect percent) given sink sink_now (Some (Refused refusal)) rs (began (replies.Refused refusal)) is (record {
        follow = λ n. (refl, refl, tt);
        gave = λ n. tt;
        ended = λ n. inl (said (lines.Gc percent) (replies.Refused refusal), refl, refl);
        found = λ n m k comes x may. stays_after (Collect percent) given refusal m.now x (comes.found x may);
        wrote = λ n m k comes. same;
      }))
  collect_says rs (Some (Refused refusal)) (inr (inr (snapshot, is)), same) =
      inr (says_of (Collect percent) given sink sink_now (Some (Refused refusal)) rs (swept snapshot (replies.Refused refusal)) is
      (refused_swept refusal snapshot (replies.Refused refusal) (inl (said lines.Sweep (replies.Refused refusal), refl, refl)) same))
  collect_says rs (Some ending) is = absurd is

-- ---- its lines, whichever were run

module _ (percent : ℕ) where
  -- none, or the lines of a collection, refused or not
  abbrev AreCollect : List Replied → Type 0
  AreCollect rs = (rs ≡ []) ⊎ ((reply : ReplyValue) × (rs ≡ said (lines.Gc percent) reply ∷ []))
      ⊎ ((snapshot : ℕ) × ((reply : ReplyValue) × (rs ≡ collecting percent snapshot ∷ said lines.Sweep reply ∷ [])))

  collect_are : (ending : Option Ending) (sink sink_now : SinkView) (rs : List Replied) → IsCollect percent ending sink sink_now rs → AreCollect rs
  collect_are None sink sink_now rs (freed, copied, ((snapshot, is), wrote)) = inr (inr (snapshot, (replies.Collected freed copied, is)))
  collect_are (Some Sink) sink sink_now rs (freed, copied, ((snapshot, is), wrote)) = inr (inr (snapshot, (replies.Collected freed copied, is)))
  collect_are (Some (Refused refusal)) sink sink_now rs (inl (memory, inl none), wrote) = inl none
  collect_are (Some (Refused refusal)) sink sink_now rs (inl (memory, inr (freed, copied, (snapshot, is))), wrote) =
      inr (inr (snapshot, (replies.Collected freed copied, is)))
  collect_are (Some (Refused refusal)) sink sink_now rs (inr (inl is), wrote) = inr (inl (replies.Refused refusal, is))
  collect_are (Some (Refused refusal)) sink sink_now rs (inr (inr (snapshot, is)), wrote) = inr (inr (snapshot, (replies.Refused refusal, is)))
  collect_are (Some ending) sink sink_now rs is = absurd is

  spoken_are : (ending : Option Ending) (sink sink_now : SinkView) (rs : List Replied) → IsCollect percent ending sink sink_now rs ⊎ Silent ending rs sink sink_now
      → AreCollect rs
  spoken_are ending sink sink_now rs (inl is) = collect_are ending sink sink_now rs is
  spoken_are ending sink sink_now rs (inr none) = inl none.none

  -- of none of which a write failed
  gc_lines : (rs : List Replied) (files : ℕ) → AreCollect rs → (EndsRefused DiskWrite (opened_line files ∷ rs) → ⊥) → AllByRecursion IsGcLine rs
  gc_lines rs files (inl none) whole = subst (AllByRecursion IsGcLine) (sym none) tt
  gc_lines rs files (inr (inl (reply, is))) whole = subst (AllByRecursion IsGcLine) (sym is) ((inl (percent, refl), (λ wrong. by is wrong)), tt)
    where
      by : rs ≡ said (lines.Gc percent) reply ∷ [] → reply ≡ replies.Refused DiskWrite → ⊥
      by is wrong = whole (subst (λ (l : List Replied). EndsRefused DiskWrite (opened_line files ∷ l)) (sym is) (said (lines.Gc percent) reply, refl, wrong))
  gc_lines rs files (inr (inr (snapshot, (reply, is)))) whole =
      subst (AllByRecursion IsGcLine) (sym is) (
        (inl (percent, refl), (λ wrong. let no : replies.Collecting snapshot ≡ replies.Refused DiskWrite = wrong in cc)),
        ((inr refl, (λ wrong. by is wrong)), tt),
      )
    where
      by : rs ≡ collecting percent snapshot ∷ said lines.Sweep reply ∷ [] → reply ≡ replies.Refused DiskWrite → ⊥
      by is wrong = whole (subst (λ (l : List Replied). EndsRefused DiskWrite (opened_line files ∷ l)) (sym is) (said lines.Sweep reply, refl, wrong))

-- ---- the bytes

module _ (percent : ℕ) (S : List ℕ → Type 0) (rs : List Replied) (m : FileMachine) (v w : DiskView) (running : m.state ≡ Running) (are : AreCollect percent rs)
    (runs : RunsByFiles S rs m v w) where
  -- the opening made room
  room : MakesRoom m runs.opened.store
  room =
      let may : runs.opens.found ≡ m.now = subst (λ (state : RunState (List ℕ)). MayBeFound of_files state m.now runs.opens.found) running (runs.opens.may tt) in
      let same : runs.opens.before ≡ m.store = subst (λ (state : RunState (List ℕ)). Stands of_files state m.store runs.opens.before) running (runs.opens.same tt) in (
        runs.opens.freed,
        subst (λ (x : Found (List ℕ)). FreesTo (NamesNeed of_files x) runs.opens.freed m.store runs.opened.store) may
            (subst (λ (s : Store). FreesTo (NamesNeed of_files runs.opens.found) runs.opens.freed s runs.opened.store) same (runs.opens.frees tt)),
      )

  pub keeps_bytes : KeepsBytes (Collect percent) (all_lines S rs m v w runs) m (last S rs m v w runs) v w
  keeps_bytes whole old told = by (runs.bytes.1.0.0 old told)
    where
      by : KnownWith runs.bytes.0 (MadeRoom runs.opened.now runs.opened.store old)
          → KnownWith w.content (λ new. (opened : Store) × MakesRoom m opened × KeepsSlots opened (last S rs m v w runs).store old new)
      by (middle, known, (there, (encodes, (freed, (frees_to, gates, right_now))))) =
          let kept : RunKeeps runs.opened (last S rs m v w runs) middle w.content =
          run_keeps S runs.steps runs.opened (last S rs m v w runs) _ (all_gc rs runs.steps _ runs.next runs.lines_are (gc_lines percent rs runs.files are whole))
          (ap (λ (x : FileMachine). x.state) runs.opens.others) middle runs.bytes.0 w.content known right_now runs.bytes.1.1 in
          let last_is : runs.opened.last_id ≡ last_id runs.opened.store.held = ap (λ (x : FileMachine). x.last_id) runs.opens.others in (
            kept.new,
            kept.known,
            (
              runs.opened.store,
              room,
              λ slot h has. elim (kept.slots slot h has) [
                | inr above ↦ inr (omega (arith, above, last_is))
                | inl here ↦ inl (here.0, here.1 ∙ room_keeps _ freed there runs.opened.store frees_to old middle gates slot h here.0)
              ],
            ),
          )

-- ---- of a call

pub collect_by_map : (D : Type 0) (view : D → DiskView) → CollectsByMap → CollectsThrough → (percent : ℕ) → AnswersEachCall D view (Collect percent)
collect_by_map D view collects through percent given rs ending old new source source_now sink sink_now does among m distinct given_in running known =
    let spoken = told D view (Collect percent) given rs ending (view old) (view new) source source_now sink sink_now (IsCollect percent ending sink sink_now)
    (λ v speaks. speaks) does in
    answers_call D view (Collect percent) (collects percent) (through percent) given rs ending old new source source_now sink sink_now does among m distinct
    (spoken_cuts ending rs sink sink_now (IsCollect percent ending sink sink_now) (collect_ran rs sink sink_now percent ending) spoken among m) running known
    (keeps_bytes percent (IsIn among) rs m (view old) (view new) running (spoken_are percent ending sink sink_now rs spoken)) (IsCollect percent ending sink sink_now)
    (λ v speaks. speaks) (λ are. ran_silent ending rs sink sink_now (collect_ran rs sink sink_now percent ending are)) (collect_says given percent sink sink_now rs ending)

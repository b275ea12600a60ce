-- Over a disk that stands for files a refusal ends a script only where there was no memory, or a call of the disk failed.
use Rattle.backup_engine.proofs.Prelude.{◌≡◌, ◌⊎◌, inl, inr, ℕ, IsTrue, List, [], ◌∷◌, ◌++◌, Option, Some, Result, Ok, Err, refl, sym, ◌∙◌, subst, DiskView, Refusal, Memory, Full, DiskRead, DiskWrite, Corrupt, Missing, NotAStore, Version, Damaged, WrongSize, Refused, OpensNone, Lines, Replied, desk, reply_of, Stepped, of_files, FilesUnopened, FileDesk, fails, FailsAlone, RunsEachByFiles}
use Rattle.reply_text.specs.declared.ending.Ending.{Ending}
use Rattle.script_lines.specs.Grammar as lines
use Rattle.script_lines.specs.ReplyValue as replies
use Rattle.store_machine.specs.Asked as asked
use Rattle.store_machine.specs.Runs.{Run}
use Rattle.store_machine.specs.Done.{Done}
use Rattle.store_machine.specs.Done as done
use Rattle.store_machine.specs.Opening.{MayRefuseOpening}
use Rattle.store_machine.specs.Opening as opening

pub refusal_fails : (refusal : Refusal) → MayRefuseOpening of_files refusal → IsTrue (fails refusal)
refusal_fails Memory may = refl
refusal_fails DiskRead may = refl
refusal_fails DiskWrite may = refl
refusal_fails (Full free) may = absurd (may tt)
refusal_fails (NotAStore gate magic) may = absurd (may tt)
refusal_fails (Version number) may = absurd (may tt)
refusal_fails (Damaged at why) may = absurd (may tt)
refusal_fails (WrongSize want got) may = absurd (may tt)
refusal_fails (Corrupt slot offset count want got) may = absurd (may tt)
refusal_fails (Missing key) may = absurd (may tt)
refusal_fails refusal may = absurd may

-- a `reopen` that was refused
abbrev pub unopened_line : Refusal → Replied
unopened_line refusal = record { line = lines.Reopen; reply = replies.Refused refusal }

told_refused : (a : ℕ) (told : Result Done Refusal) (refusal : Refusal) → replies.Refused refusal ≡ reply_of a told → told ≡ Err refusal
told_refused a (Err other) refusal is = let same : refusal ≡ other = cc in subst (λ (r : Refusal). ◌≡◌ {A = Result Done Refusal} (Err other) (Err r)) (sym same) refl
told_refused a (Ok answer) refusal is = absurd (no_refusal answer is)
  where
    no_refusal : (answer : Done) → replies.Refused refusal ≡ reply_of a (Ok answer) → ⊥
    no_refusal done.Begun is = cc
    no_refusal answer is = cc

-- as the last line
last_may : (before : List Replied) (refusal : Refusal) (ss : List (Stepped (List ℕ))) (d e : FileDesk) → Lines of_files (before ++ unopened_line refusal ∷ []) ss d e →
    MayRefuseOpening of_files refusal
last_may [] refusal ss d e ran =
    let line = ran.4 in
    let says = line.1.0 in
    let run = line.0 in
    one says.0 says.1.0 says.1.1 (told_refused says.0 says.1.0 refusal says.1.2) run
  where
    one : (a : ℕ) (told : Result Done Refusal) → ran.0 ≡ record { actor = a; asked = asked.Reopen; answer = told } ∷ [] → told ≡ Err refusal
        → Run of_files ran.0 d.machine ran.2.machine → MayRefuseOpening of_files refusal
    one a told steps is run = by (subst (λ (xs : List (Stepped (List ℕ))). Run of_files xs d.machine ran.2.machine) steps run)
      where
        by : Run of_files (record { actor = a; asked = asked.Reopen; answer = told } ∷ []) d.machine ran.2.machine → MayRefuseOpening of_files refusal
        by made = (subst (λ (t : Result Done Refusal). opening.Reopens of_files t d.machine made.0) is made.1.0).0
last_may (one ∷ before) refusal ss d e ran = last_may before refusal ran.1 ran.2 e ran.5

-- it was no call of the disk, and no want of memory, that refused the first opening
pub fails_unopened : (D : Type 0) (view : D → DiskView) (refusal : Refusal) (before after : D) → FilesUnopened D view → OpensNone D view refusal (view before) (view after)
    → FailsAlone (Some (Refused refusal)) [] (view before)
fails_unopened D view refusal before after unopened none among m distinct cut known other same =
    let one = unopened among 0 refusal before after m distinct known none in
    let is : refusal ≡ other = cc in
    subst (λ (r : Refusal). IsTrue (fails r)) is (refusal_fails refusal one.1.0.0)

pub fails_memory : (v : DiskView) → FailsAlone (Some (Refused Memory)) [] v
fails_memory v among m distinct cut known other same = let is : Memory ≡ other = cc in subst (λ (r : Refusal). IsTrue (fails r)) is refl

-- a script that ended so, by a `reopen` that was refused, or for want of memory
abbrev pub EndsAlone : Option Ending → List Replied → Type 0
EndsAlone ending rs = (refusal : Refusal) → ending ≡ Some (Refused refusal) → (refusal ≡ Memory) ⊎ ((before : List Replied) × (rs ≡ before ++ unopened_line refusal ∷ []))

pub fails_by : (ending : Option Ending) (rs : List Replied) (v w : DiskView) → EndsAlone ending rs → RunsEachByFiles ending rs v w → FailsAlone ending rs v
fails_by ending rs v w ends each among m distinct cut known refusal is = elim (ends refusal is) [
  | inl memory ↦ subst (λ (r : Refusal). IsTrue (fails r)) (sym memory) refl
  | inr last ↦ elim (each among m distinct cut known) [
    | inl runs ↦ refusal_fails refusal (last_may last.0 refusal runs.steps (desk runs.opened) runs.next
        (subst (λ (l : List Replied). Lines of_files l runs.steps (desk runs.opened) runs.next) last.1 runs.lines_are))
    | inr none ↦ let same : Some (Refused none.refusal) ≡ Some (Refused refusal) = sym none.ending_is ∙ is in
        let so : none.refusal ≡ refusal = cc in
        subst (λ (r : Refusal). IsTrue (fails r)) so (refusal_fails none.refusal none.opens.0)
  ]
]

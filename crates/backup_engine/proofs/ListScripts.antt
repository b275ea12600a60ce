-- To which files the lines of a script lead, and by which they come.
use Rattle.backup_engine.proofs.Prelude.{◌≡◌, ◌⊎◌, inl, inr, ◌++◌, ℕ, List, [], ◌∷◌, Option, Ok, Err, refl, sym, subst, DiskView, Refusal, Memory, OpensAs, Stored, Store, FileMachine, passes_later, Replied, desk, run_of, run_on, Found, Stepped, MayBeFound, of_files, IsOfFound, MayStand, stored_in, Passes, RefusedByFiles, RunsByFiles, said}
use Rattle.reply_text.specs.declared.ending.Ending.{Ending}
use Rattle.script_lines.specs.Grammar as lines
use Rattle.script_lines.specs.ReplyValue as replies
use Rattle.script_runner.proofs.DeskRuns.{passes_here}
use Rattle.store_machine.specs.Done as done
use Rattle.store_machine.specs.Runs.{Run}
use Rattle.core_machine.specs.FileOpenings.{Reopens, opening}
use Rattle.backup_engine.specs.AnswersByMap.{rested}
use Rattle.backup_engine.specs.Lists.{IsScriptOf, ScriptLeads, ScriptPasses}

-- the image can be opened as files that have P
abbrev Leads : (List ℕ → Type 0) → (Stored → Type 0) → List ℕ → Type 0
Leads S P image = (next : Stored) × (P next × OpensAs S next image)

pub opens_found : (S : List ℕ → Type 0) (m : FileMachine) (d : List ℕ) (may : MayStand S m d) → OpensAs S (stored_in may.found) d
opens_found S m d may = record { store = may.store; stands = may.is; opens = may.opens; last_is = may.last_is }

-- ---- machines that a run passes

-- files that are found at one of them are found there
passes_found : (S : List ℕ → Type 0) (d : List ℕ) (ss : List (Stepped (List ℕ))) (m n : FileMachine) (run : Run of_files ss m n) → Passes of_files (λ k. IsOfFound S k d) ss m n run
    → (found : Found (List ℕ)) × Passes of_files (λ k. MayBeFound of_files k.state k.now found) ss m n run × OpensAs S (stored_in found) d
passes_found S d [] m n run here = (here.0, here.1, here.2)
passes_found S d (s ∷ ss) m n run (inl here) = (here.0, inl here.1, here.2)
passes_found S d (s ∷ ss) m n run (inr after) = let one = passes_found S d ss run.0 n run.1.1 after in (one.0, inr one.1, one.2)

-- ---- a script whose store was opened

module _ (S : List ℕ → Type 0) (rs : List Replied) (m : Stored) (store : Store) (v w : DiskView) (runs : RunsByFiles S rs (rested m store) v w) where
  abbrev script_of : IsScriptOf rs m
  script_of = record {
    store = store;
    first = replies.Opened runs.files;
    steps = opening 0 (Ok (done.Reopened runs.files)) ∷ runs.steps;
    last = runs.next;
    lines_are = (
      opening 0 (Ok (done.Reopened runs.files)) ∷ [],
      runs.steps,
      desk runs.opened,
      refl,
      ((runs.opened, (runs.opens, refl)), ((0, (Ok (done.Reopened runs.files), refl, refl)), refl)),
      runs.lines_are,
    );
  }

  abbrev rest : Run of_files runs.steps runs.opened runs.next.machine
  rest = run_of of_files rs runs.steps (desk runs.opened) runs.next runs.lines_are

  abbrev Passed : (FileMachine → Type 0) → Type 0
  Passed P = Passes of_files P script_of.steps (rested m store) runs.next.machine
      (run_of of_files (said lines.Reopen script_of.first ∷ rs) script_of.steps (desk (rested m store)) runs.next script_of.lines_are)

  -- what is passed once it was opened is passed
  later : (P : FileMachine → Type 0) → Passes of_files P runs.steps runs.opened runs.next.machine rest → Passed P
  later P passed =
      let first : List (Stepped (List ℕ)) = opening 0 (Ok (done.Reopened runs.files)) ∷ [] in
      let run : Run of_files first (rested m store) runs.opened = (runs.opened, (runs.opens, refl)) in
      let same : first ++ runs.steps ≡ first ++ runs.steps = refl in
      (subst (λ (zs : List (Stepped (List ℕ))). (ran : Run of_files zs (rested m store) runs.next.machine) × Passes of_files P zs (rested m store) runs.next.machine ran)
      (sym same) (
        run_on of_files first runs.steps (rested m store) runs.opened runs.next.machine run rest,
        passes_later of_files P first runs.steps (rested m store) runs.opened runs.next.machine run rest passed,
      )).1

  pub script_leads : (d : List ℕ) → MayStand S runs.next.machine d → Leads S (ScriptLeads rs m) d
  script_leads d may = (stored_in may.found, (record { script = script_of; found = may.found; may = may.may; next_is = refl }, opens_found S runs.next.machine d may))

  pub passes_of : (d : List ℕ) → IsOfFound S (rested m store) d ⊎ Passes of_files (λ n. IsOfFound S n d) runs.steps runs.opened runs.next.machine
      (run_of of_files rs runs.steps (desk runs.opened) runs.next runs.lines_are)
      → Leads S (ScriptPasses rs m) d
  passes_of d (inl before) = (
    stored_in before.0,
    (
      record {
        script = script_of;
        found = before.0;
        passed = passes_here of_files (λ n. MayBeFound of_files n.state n.now before.0) script_of.steps (rested m store)
            runs.next.machine (run_of of_files (said lines.Reopen script_of.first ∷ rs) script_of.steps (desk (rested m store)) runs.next script_of.lines_are) before.1;
        next_is =
            refl;
      },
      before.2,
    ),
  )
  passes_of d (inr passed) =
      let one = passes_found S d runs.steps runs.opened runs.next.machine (run_of of_files rs runs.steps (desk runs.opened) runs.next runs.lines_are) passed in
      (stored_in one.0, (record { script = script_of; found = one.0; passed = later (λ n. MayBeFound of_files n.state n.now one.0) one.1; next_is = refl }, one.2))

-- ---- one that was not opened

-- the script is its opening
unopened_script : (rs : List Replied) (m : Stored) (store : Store) (refusal : Refusal) (next : FileMachine) → rs ≡ [] → Reopens 0 (Err refusal) (rested m store) next
    → (script : IsScriptOf rs m) × (script.last.machine ≡ next)
unopened_script rs m store refusal next none opens =
    subst (λ (l : List Replied). (script : IsScriptOf l m) × (script.last.machine ≡ next)) (sym none) (
      record {
        store = store;
        first = replies.Refused refusal;
        steps = opening 0 (Err refusal) ∷ [];
        last = desk next;
        lines_are = (
          opening 0 (Err refusal) ∷ [],
          [],
          desk next,
          refl,
          ((next, (opens, refl)), ((0, (Err refusal, refl, refl)), refl)),
          (refl, refl),
        );
      },
      refl,
    )

-- no lines lead to the map as it was
pub no_lines : (S : List ℕ → Type 0) (rs : List Replied) (m : Stored) (d : List ℕ) → OpensAs S m d → rs ≡ [] → ScriptLeads rs m m
no_lines S rs m d opens none =
    let one = unopened_script rs m opens.store Memory (rested m opens.store) none (tt, inl refl) in
    record {
      script = one.0;
      found = record { names = m.files; last = m.last };
      may = subst (λ (n : FileMachine). MayBeFound of_files n.state n.now (record { names = m.files; last = m.last })) (sym one.1) refl;
      next_is = refl;
    }

module _ (S : List ℕ → Type 0) (ending : Option Ending) (rs : List Replied) (m : Stored) (store : Store) (v w : DiskView)
    (none : RefusedByFiles S ending rs (rested m store) v w) where
  pub refused_leads : (d : List ℕ) → MayStand S none.next d → Leads S (ScriptLeads rs m) d
  refused_leads d may =
      let one = unopened_script rs m store none.refusal none.next none.none none.opens in (
        stored_in may.found,
        (
          record {
            script = one.0;
            found = may.found;
            may = subst (λ (n : FileMachine). MayBeFound of_files n.state n.now may.found) (sym one.1) may.may;
            next_is = refl;
          },
          opens_found S none.next d may,
        ),
      )

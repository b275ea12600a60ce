-- A call whose store was opened, as lines of a machine at rest, its opening first: what is found at their end, and on the way.
use Rattle.backup_engine.proofs.Prelude.{◌≡◌, ◌⊎◌, inl, inr, ℕ, List, [], ◌∷◌, ◌++◌, Ok, refl, sym, subst, arith, DiskView, OpensAs, FileMachine, Lines, Replied, desk, run_of, run_on, Found, RunState, Running, Stepped, MayBeFound, of_files, IsOfFound, stored_in, Passes, passes_later, RunsByFiles, said}
use Rattle.dd_disk.specs.View.{CrashLeaves}
use Rattle.script_lines.specs.Grammar as lines
use Rattle.script_lines.specs.ReplyValue as replies
use Rattle.store_machine.specs.ByMap.{Through}
use Rattle.store_machine.specs.Commands.{AreLinesOf, Command}
use Rattle.store_machine.specs.Done as done
use Rattle.store_machine.specs.Runs.{IsPassedFrom, Run}
use Rattle.core_machine.specs.FileOpenings.{opening}

-- what may be found at a machine of a run, whatever its last number
from_zero : (S : List ℕ → Type 0) (d : List ℕ) (ss : List (Stepped (List ℕ))) (k n : FileMachine) (run : Run of_files ss k n)
    → Passes of_files (λ j. IsOfFound S j d) ss k n run → (x : Found (List ℕ)) × (IsPassedFrom of_files 0 ss k n run x × OpensAs S (stored_in x) d)
from_zero S d [] k n run here = (here.0, ((omega arith, here.1), here.2))
from_zero S d (s ∷ ss) k n run (inl here) = (here.0, (inl (omega arith, here.1), here.2))
from_zero S d (s ∷ ss) k n run (inr after) = let one = from_zero S d ss run.0 n run.1.1 after in (one.0, (inr one.1.0, one.1.1))

module _ (S : List ℕ → Type 0) (rs : List Replied) (m : FileMachine) (v w : DiskView) (runs : RunsByFiles S rs m v w) where
  abbrev pub all_lines : List Replied
  all_lines = said lines.Reopen (replies.Opened runs.files) ∷ rs

  abbrev pub all_steps : List (Stepped (List ℕ))
  all_steps = opening 0 (Ok (done.Reopened runs.files)) ∷ runs.steps

  abbrev pub last : FileMachine
  last = runs.next.machine

  pub ran : Lines of_files all_lines all_steps (desk m) runs.next
  ran = (
    opening 0 (Ok (done.Reopened runs.files)) ∷ [],
    runs.steps,
    desk runs.opened,
    refl,
    ((runs.opened, (runs.opens, refl)), ((0, (Ok (done.Reopened runs.files), refl, refl)), refl)),
    runs.lines_are,
  )

  abbrev Left : List ℕ → Type 0
  Left d = IsOfFound S m d
      ⊎ Passes of_files (λ n. IsOfFound S n d) runs.steps runs.opened last (run_of of_files rs runs.steps (desk runs.opened) runs.next runs.lines_are)

  abbrev whole : Run of_files all_steps m last
  whole = run_of of_files all_lines all_steps (desk m) runs.next ran

  -- what is passed once it was opened is passed
  later : (P : FileMachine → Type 0) → Passes of_files P runs.steps runs.opened last (run_of of_files rs runs.steps (desk runs.opened) runs.next runs.lines_are)
      → Passes of_files P all_steps m last whole
  unfolding ran
  later P after =
      let first : List (Stepped (List ℕ)) = opening 0 (Ok (done.Reopened runs.files)) ∷ [] in
      let run : Run of_files first m runs.opened = (runs.opened, (runs.opens, refl)) in
      let rest : Run of_files runs.steps runs.opened last = run_of of_files rs runs.steps (desk runs.opened) runs.next runs.lines_are in
      let same : first ++ runs.steps ≡ first ++ runs.steps = refl in
      (subst (λ (zs : List (Stepped (List ℕ))). (run : Run of_files zs m last) × Passes of_files P zs m last run) (sym same) (
        run_on of_files first runs.steps m runs.opened last run rest,
        passes_later of_files P first runs.steps m runs.opened last run rest after,
      )).1

  -- by what the machine's law says of each moment
  pub crash_by : m.state ≡ Running → (command : Command) → AreLinesOf command all_lines → Through command
      → CrashLeaves (λ image. IsOfFound S m image ⊎ IsOfFound S last image) v w
  crash_by running command are through = record {
    now = λ d image. between d (runs.crash.now d image);
    since = λ t d within image. elim (runs.crash.since t d within image) [ inl was ↦ inl was | inr there ↦ inr (between d there) ];
  }
    where
      between : (d : List ℕ) → Left d → IsOfFound S m d ⊎ IsOfFound S last d
      between d (inl before) = inl before
      between d (inr after) =
          let one = from_zero S d all_steps m last whole (later (λ k. IsOfFound S k d) after) in
          elim (through 0 all_lines all_steps m runs.next running are ran one.0 one.1.0) [
            | inl still ↦ inl (one.0, subst (λ (state : RunState (List ℕ)). MayBeFound of_files state m.now one.0) (sym running) still.0, one.1.1)
            | inr there ↦ inr (one.0, there.1, one.1.1)
          ]

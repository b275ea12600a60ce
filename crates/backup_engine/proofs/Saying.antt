-- Lines of single commands, run over a core one after the other.
use Rattle.backup_engine.proofs.Prelude.{◌≡◌, ◌∙◌, ◌+◌, ℕ, true, false, List, [], ◌∷◌, ◌++◌, length, Some, None, refl, sym, ap, subst, arith, actor_of, Replied, LineValue, pushed_bytes, Admits, RunnerState, RunsLine, IsOfActor, AreOfActors, RunsLines, kind_in, CoreState, Digits, finish_lines, push_lines, pushed, said}
use Rattle.std.proofs.Common.{append_assoc, append-nil, length-append}
use Rattle.store_machine.specs.Lines.{takes}
use Rattle.store_machine.specs.Commands.{ends}
use Rattle.refusals.specs.declared.refusal.PartKind.{PartKind}
use Rattle.script_lines.specs.Grammar as lines
use Rattle.script_lines.specs.ReplyValue as replies
use Rattle.script_runner.specs.Sessions.{Sessions}

-- ---- one line after the other

-- none of the lines ends the script
abbrev pub GoOn : List Replied → Type 0
GoOn [] = Unit {0}
GoOn (one ∷ more) = (ends one.line one.reply ≡ false) × GoOn more

pub all_go_on : (rs more : List Replied) → GoOn rs → GoOn more → GoOn (rs ++ more)
all_go_on [] more first second = second
all_go_on (one ∷ rs) more first second = (first.0, all_go_on rs more first.1 second)

module _ (C : Type 0) (state : C → CoreState) where
  pub line_then : (one : Replied) (more : List Replied) (r m s : RunnerState C) → ends one.line one.reply ≡ false → RunsLine C state one.line one.reply r m →
      RunsLines C state more m s → RunsLines C state (one ∷ more) r s
  line_then one more r m s goes first second = ((λ end. absurd (let both = sym goes ∙ end in cc)), (m, (first, second)))

  pub lines_on : (rs more : List Replied) (r m s : RunnerState C) → GoOn rs → RunsLines C state rs r m → RunsLines C state more m s → RunsLines C state (rs ++ more) r s
  lines_on [] more r m s go first second = subst (λ (x : RunnerState C). RunsLines C state more x s) first second
  lines_on (one ∷ rs) more r m s go first second = line_then one (rs ++ more) r first.1.0 s go.0 first.1.1.0 (lines_on rs more first.1.0 m s go.1 first.1.1.1 second)

  -- a line after others
  pub line_after : (rs : List Replied) (one : Replied) (r m s : RunnerState C) → GoOn rs → ends one.line one.reply ≡ false → RunsLines C state rs r m →
      RunsLine C state one.line one.reply m s → RunsLines C state (rs ++ one ∷ []) r s
  line_after rs one r m s go goes first second = lines_on rs (one ∷ []) r m s go first (line_then one [] m s s goes second refl)

-- ---- pushes

pub pushes_go_on : (count : ℕ) (pushes : List Digits) → GoOn (push_lines count pushes)
pushes_go_on count [] = tt
pushes_go_on count (d ∷ more) = (refl, pushes_go_on (count + length (pushed_bytes d.digits)) more)

pub finish_goes_on : (pushes : List Digits) → GoOn (finish_lines pushes)
finish_goes_on pushes = all_go_on (push_lines 0 pushes) (said (lines.Finish 0) (replies.Finished 0 (length (pushed pushes))) ∷ []) (pushes_go_on 0 pushes) (refl, tt)

-- one push more
pub pushed_more : (pushes : List Digits) (d : Digits) → pushed (pushes ++ d ∷ []) ≡ pushed pushes ++ pushed_bytes d.digits
pushed_more [] d = append-nil (pushed_bytes d.digits)
pushed_more (first ∷ more) d =
    ap (λ (bytes : List ℕ). pushed_bytes first.digits ++ bytes) (pushed_more more d) ∙ sym (append_assoc (pushed_bytes first.digits) (pushed more) (pushed_bytes d.digits))

abbrev push_line : List ℕ → ℕ → List Replied
push_line digits count = said (lines.Push 0 digits) (replies.Pushed 0 count) ∷ []

pub one_push_more : (count : ℕ) (pushes : List Digits) (d : Digits)
    → push_lines count (pushes ++ d ∷ []) ≡ push_lines count pushes ++ said (lines.Push 0 d.digits)
    (replies.Pushed 0 (count + length (pushed pushes) + length (pushed_bytes d.digits))) ∷ []
one_push_more count [] d =
    let so : count + length (pushed_bytes d.digits) ≡ count + length (pushed []) + length (pushed_bytes d.digits) = omega arith in ap (push_line d.digits) so
one_push_more count (first ∷ more) d =
    let here : ℕ = count + length (pushed_bytes first.digits) in
    let parts = length-append (pushed_bytes first.digits) (pushed more) in
    let so : here + length (pushed more) + length (pushed_bytes d.digits) ≡ count + length (pushed (first ∷ more)) + length (pushed_bytes d.digits) = omega (arith, parts) in
    ap (λ (rs : List Replied). said (lines.Push 0 first.digits) (replies.Pushed 0 here) ∷ rs)
    (one_push_more here more d ∙ ap (λ (n : ℕ). push_lines here more ++ push_line d.digits n) so)

-- ---- actors

-- a line of the first actor
pub of_first : (line : LineValue) → actor_of line ≡ Some 0 → IsOfActor line
of_first line first = λ actor is. let zero_is : 0 ≡ actor = let both = sym first ∙ is in cc in omega (arith, zero_is)

-- nor need one with no actor
pub no_actor : (line : LineValue) → actor_of line ≡ None → IsOfActor line
no_actor line none actor is = absurd (let both = sym none ∙ is in cc)

pub all_of_actors : (rs more : List Replied) → AreOfActors rs → AreOfActors more → AreOfActors (rs ++ more)
all_of_actors [] more first second = second
all_of_actors (one ∷ rs) more first second = (first.0, all_of_actors rs more first.1 second)

-- it is taken where the core runs, and the first actor is at what it takes
pub admits : (line : LineValue) (sessions : Sessions) (c : CoreState) (kind : PartKind) → c.stop ≡ None → actor_of line ≡ Some 0 → kind_in sessions c.parts 0 ≡ kind →
    takes line kind ≡ true → Admits line sessions c
admits line sessions c kind runs first at taken = record {
  runs = runs;
  taken = λ actor is.
      let zero_is : 0 ≡ actor = let both = sym first ∙ is in cc in
      subst (λ (a : ℕ). takes line (kind_in sessions c.parts a) ≡ true) zero_is (ap (takes line) at ∙ taken);
}

-- Lists of lines that were run: one more at the end.
use Rattle.backup_engine.proofs.Prelude.{◌≡◌, ◌<◌, ◌≤◌, ◌+◌, true, false, ℕ, List, [], ◌∷◌, ◌++◌, length, Option, Some, refl, sym, ◌∙◌, ap, subst, arith, AllByRecursion, flat_map, ACTORS, Replied, LineValue, IsLine, Refusal, reply_line, MOST_SCRIPT, HasRead, ReaderState, number_after, RunnerState, RunsLine, IsOfActor, AreOfActors, RunsLines, CoreState, lines_of, printed, StopsAtReopen}
use Rattle.std.proofs.Common.{append_assoc}
use Rattle.std.proofs.lemmas.List.{append-nil, length-append}
use Rattle.std.proofs.lemmas.Slice.Zip.{AllZip-long}
use Rattle.store_machine.specs.Commands.{ends}
use Rattle.script_lines.specs.Grammar.{Begin, Push, Finish, Turn, Commit, Abort, Read, Next, Drop, Delete, ListNames, Stat, Unique, Reopen, Gc, GcStep, Sweep}
use Rattle.reply_text.specs.declared.ending.Ending.{Ending}
use Rattle.script_lines.specs.ReplyValue as replies
use Rattle.script_lines.specs.Script.{IsRightLine, ended}
use Rattle.backup_engine.specs.Script.{EndsRefused}
use Rattle.backup_engine.proofs.SoFar.{NoneEnds}

-- ---- one line more

pub lines_snoc : (rs : List Replied) (one : Replied) → lines_of (rs ++ one ∷ []) ≡ lines_of rs ++ one.line ∷ []
lines_snoc [] one = refl
lines_snoc (first ∷ rs) one = ap (λ (ls : List LineValue). first.line ∷ ls) (lines_snoc rs one)

pub printed_snoc : (rs : List Replied) (one : Replied) → printed (rs ++ one ∷ []) ≡ printed rs ++ reply_line one.reply
printed_snoc [] one = append-nil (reply_line one.reply)
printed_snoc (first ∷ rs) one =
    ap (λ (l : List ℕ). reply_line first.reply ++ l) (printed_snoc rs one) ∙ sym (append_assoc (reply_line first.reply) (printed rs) (reply_line one.reply))

pub all_snoc : {A : Type 0} (P : A → Type 0) (xs : List A) (x : A) → AllByRecursion P xs → P x → AllByRecursion P (xs ++ x ∷ [])
all_snoc P [] x all is = (is, tt)
all_snoc P (y ∷ ys) x all is = (all.0, all_snoc P ys x all.1 is)

pub actors_snoc : (rs : List Replied) (one : Replied) → AreOfActors rs → IsOfActor one.line → AreOfActors (rs ++ one ∷ [])
actors_snoc [] one all is = (is, tt)
actors_snoc (first ∷ rs) one all is = (all.0, actors_snoc rs one all.1 is)

pub runs_snoc : (C : Type 0) (state : C → CoreState) (rs : List Replied) (one : Replied) (r mid s : RunnerState C) → NoneEnds rs → RunsLines C state rs r mid →
    RunsLine C state one.line one.reply mid s
    → RunsLines C state (rs ++ one ∷ []) r s
runs_snoc C state [] one r mid s none runs line = (λ last. refl, (s, (subst (λ (from : RunnerState C). RunsLine C state one.line one.reply from s) runs line, refl)))
runs_snoc C state (first ∷ rs) one r mid s none runs line =
    (λ last. absurd (true_false (ends first.line first.reply) last none.0), (runs.1.0, (runs.1.1.0, runs_snoc C state rs one runs.1.0 mid s none.1 runs.1.1.1 line)))
  where
    true_false : (b : _) → b ≡ true → b ≡ false → ⊥
    true_false b is other = cc

-- ---- a `reopen` that was refused

ended_there : (refusal : Refusal) (one : Replied) → ends one.line one.reply ≡ false → ◌≡◌ {A = Replied} one (record { line = Reopen; reply = replies.Refused refusal }) → ⊥
ended_there refusal one goes is =
    let there : true ≡ false = subst (λ (o : Replied). ends o.line o.reply ≡ false) is goes in
    absurd cc

pub stops_none : (ending : Option Ending) (rs : List Replied) → NoneEnds rs → StopsAtReopen ending rs
stops_none ending [] none = tt
stops_none ending (one ∷ more) none = (λ refusal is. absurd (ended_there refusal one none.0 is), stops_none ending more none.1)

pub stops_snoc : (ending : Option Ending) (rs : List Replied) (one : Replied) → NoneEnds rs
    → ((refusal : Refusal) → ◌≡◌ {A = Replied} one (record { line = Reopen; reply = replies.Refused refusal }) → EndsRefused ending refusal) → StopsAtReopen ending (rs ++ one ∷ [])
stops_snoc ending [] one none ends_so = (λ refusal is. (refl, ends_so refusal is), tt)
stops_snoc ending (first ∷ rs) one none ends_so = (λ refusal is. absurd (ended_there refusal first none.0 is), stops_snoc ending rs one none.1 ends_so)

-- ---- the actor of a line

same_actor : (a b : ℕ) → a < ACTORS → Some a ≡ Some b → b < ACTORS
same_actor a b below same = let is : a ≡ b = cc in subst (λ (n : ℕ). n < ACTORS) is below

pub of_actor : (line : LineValue) (bytes : List ℕ) → IsLine line bytes → IsOfActor line
of_actor (Begin a) bytes is = λ actor. same_actor a actor is.0
of_actor (Push a digits) bytes is = λ actor. same_actor a actor is.0
of_actor (Finish a) bytes is = λ actor. same_actor a actor is.0
of_actor (Turn a) bytes is = λ actor. same_actor a actor is.0
of_actor (Commit a name) bytes is = λ actor. same_actor a actor is.0
of_actor (Abort a) bytes is = λ actor. same_actor a actor is.0
of_actor (Read a name) bytes is = λ actor. same_actor a actor is.0
of_actor (Next a) bytes is = λ actor. same_actor a actor is.0
of_actor (Drop a) bytes is = λ actor. same_actor a actor is.0
of_actor (Delete name) bytes is = λ actor none. absurd cc
of_actor ListNames bytes is = λ actor none. absurd cc
of_actor (Gc percent) bytes is = λ actor none. absurd cc
of_actor GcStep bytes is = λ actor none. absurd cc
of_actor Sweep bytes is = λ actor none. absurd cc
of_actor Stat bytes is = λ actor none. absurd cc
of_actor Unique bytes is = λ actor none. absurd cc
of_actor Reopen bytes is = λ actor none. absurd cc

-- ---- how many

ended_long : (lines : List (List ℕ)) → length lines ≤ length (flat_map ended lines)
ended_long [] = omega arith
ended_long (line ∷ lines) =
    omega (arith, ended_long lines, length-append (ended line) (flat_map ended lines), length-append line (10 ∷ []))

pub few_lines : (first left : _) (values : List LineValue) (reader : ReaderState) → HasRead first values reader left → length values ≤ MOST_SCRIPT
few_lines first left values reader read =
    omega (arith, AllZip-long IsRightLine values read.lines read.right, ended_long read.lines, read.counted, read.within)

pub number_snoc : (rs : List Replied) (one : Replied) → number_after (lines_of (rs ++ one ∷ [])) ≡ number_after (lines_of rs) + 1
number_snoc rs one = omega (arith, ap length (lines_snoc rs one), length-append (lines_of rs) (one.line ∷ []))

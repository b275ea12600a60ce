-- Steps that change no name, and turns.
use Rattle.store_machine.proofs.Prelude.{◌≡◌, ℕ, [], ◌∷◌, ◌++◌, Some, None, Result, Ok, Err, refl, sym, ◌∙◌, ap, subst, Answer, Refusal, Store, Asked, Done, Answers, ByState, Does, Legal, Refuses, RefusesClaim, RefusesOn, RefusesSeal, AreTurns, IsDueStep, Session, answer_of, Machine, RunState, Running, Stopped, Stepped, Run, of_files}
use Rattle.std.proofs.Common.{List, take}
use Rattle.container_meta.specs.Segments.{Contents}
use Rattle.ingest_session.specs.declared.due.Due.TheVariants as dues
use Rattle.refusals.specs.declared.refusal.Refusal.TheVariants as refusals
use Rattle.script_lines.specs.ReplyValue as replies
use Rattle.store_machine.specs.Asked as asked
use Rattle.store_machine.specs.Done as done
use Rattle.store_machine.proofs.Added.{each_added}

abbrev pub F : Type 0
F = Machine (List ℕ) (List (List ℕ))

abbrev pub Step : Type 0
Step = Stepped (List ℕ)

abbrev pub IsQuiet : Asked (List ℕ) → Type 0
IsQuiet asked.Begin = Unit {0}
IsQuiet (asked.Claim seg) = Unit {0}
IsQuiet (asked.Seal offered) = Unit {0}
IsQuiet step = ⊥

-- it runs, or is stopped with no command in doubt
abbrev pub IsSure : RunState (List ℕ) → Type 0
IsSure Running = Unit {0}
IsSure (Stopped None stores) = Unit {0}
IsSure (Stopped (Some other) stores) = ⊥

pub running_sure : (state : RunState (List ℕ)) → state ≡ Running → IsSure state
running_sure state is = subst IsSure (sym is) tt

-- names stay, and so it is
pub record Quiet (m n : F) : Type 0 where
  pub now : n.now ≡ m.now
  pub state : IsSure n.state

-- names stay, and it runs
pub record Goes (m n : F) : Type 0 where
  pub now : n.now ≡ m.now
  pub state : n.state ≡ Running

pub quiet_of : (m n : F) → Goes m n → Quiet m n
quiet_of m n goes = record { now = goes.now; state = running_sure n.state goes.state }

pub stays : (m n : F) → m.state ≡ Running → n ≡ m → Goes m n
stays m n runs is = record { now = ap (λ (x : F). x.now) is; state = ap (λ (x : F). x.state) is ∙ runs }

pub does_go : (a : ℕ) (step : Asked (List ℕ)) (answer : Done) (m n : F) → IsQuiet step → m.state ≡ Running → Does of_files a step answer m n → Goes m n
does_go a asked.Begin done.Begun m n quiet runs (is, others) = record { now = ap (λ (x : F). x.now) others; state = ap (λ (x : F). x.state) others ∙ runs }
does_go a (asked.Claim seg) done.Held m n quiet runs does = record { now = ap (λ (x : F). x.now) does.others; state = ap (λ (x : F). x.state) does.others ∙ runs }
does_go a (asked.Claim seg) done.Absent m n quiet runs (keeps, told, others) = stays m n runs others
does_go a (asked.Seal offered) (done.Sealed id count) m n quiet runs does =
    each_added a (Goes m) (λ c k l one goes. record { now = ap (λ (x : F). x.now) one.others ∙ goes.now; state = ap (λ (x : F). x.state) one.others ∙ goes.state })
    (take count offered) m n does.adds (record { now = refl; state = runs })
does_go a asked.Begin answer m n quiet runs does = absurd does
does_go a (asked.Claim seg) answer m n quiet runs does = absurd does
does_go a (asked.Seal offered) answer m n quiet runs does = absurd does
does_go a step answer m n quiet runs does = absurd quiet

-- ---- one that is refused

rests : (m n : F) → m.state ≡ Running → n ≡ m → Quiet m n
rests m n runs is = quiet_of m n (stays m n runs is)

stops : (stores : List Store) (m n : F) → n ≡ record m { state = Stopped None stores } → Quiet m n
stops stores m n is = record { now = ap (λ (x : F). x.now) is; state = subst IsSure (sym (ap (λ (x : F). x.state) is)) tt }

claim_rests : (a : ℕ) (seg : _) (refusal : Refusal) (m n : F) → m.state ≡ Running → RefusesClaim of_files a seg refusal m n → Quiet m n
claim_rests a seg (refusals.Unpinned key) m n runs (is, others) = rests m n runs others
claim_rests a seg refusals.Memory m n runs others = rests m n runs others
claim_rests a seg refusals.DiskRead m n runs (keeps, others) = rests m n runs others
claim_rests a seg (refusals.Clash key at) m n runs (keeps, known, others) = rests m n runs others
claim_rests a seg (refusals.Corrupt slot offset count want got) m n runs (keeps, (unknown, others)) = rests m n runs others
claim_rests a seg refusal m n runs refuses = absurd refuses

seal_rests : (a : ℕ) (offered : List Contents) (refusal : Refusal) (m n : F) → m.state ≡ Running → RefusesSeal of_files a offered refusal m n → Quiet m n
seal_rests a offered refusals.Memory m n runs others = rests m n runs others
seal_rests a offered (refusals.Unpinned key) m n runs (is, others) = rests m n runs others
seal_rests a offered (refusals.Full free) m n runs (keeps, is, few, others) = rests m n runs others
seal_rests a offered refusals.Numbers m n runs (slot, none, others) = rests m n runs others
seal_rests a offered refusals.DiskRead m n runs (slot, others) = rests m n runs others
seal_rests a offered (refusals.Clash key at) m n runs (slot, known, others) = rests m n runs others
seal_rests a offered (refusals.Corrupt at offset count want got) m n runs (slot, (unknown, others)) = rests m n runs others
seal_rests a offered refusals.DiskWrite m n runs (slot, fits, others) = stops _ m n others
seal_rests a offered refusal m n runs refuses = absurd refuses

on_rests : (a : ℕ) (step : Asked (List ℕ)) (refusal : Refusal) (m n : F) → IsQuiet step → m.state ≡ Running → RefusesOn of_files a step refusal m n → Quiet m n
on_rests a asked.Begin refusal m n quiet runs refuses = absurd refuses
on_rests a (asked.Claim seg) refusal m n quiet runs refuses = claim_rests a seg refusal m n runs refuses
on_rests a (asked.Seal offered) refusal m n quiet runs refuses = seal_rests a offered refusal m n runs refuses
on_rests a step refusal m n quiet runs refuses = absurd quiet

refused_rests : (a : ℕ) (step : Asked (List ℕ)) (refusal : Refusal) (m n : F) → IsQuiet step → m.state ≡ Running → Refuses of_files a step refusal m n → Quiet m n
refused_rests a step (refusals.WrongPart kind) m n quiet runs (wrong, others) = rests m n runs others
refused_rests a step refusals.Memory m n quiet runs on = on_rests a step refusals.Memory m n quiet runs on
refused_rests a step refusal m n quiet runs (right, on) = on_rests a step refusal m n quiet runs on

-- ---- a step of a machine that runs

pub answers : (a : ℕ) (step : Asked (List ℕ)) (told : Result Done Refusal) (m n : F) → IsQuiet step → m.state ≡ Running → ByState of_files m.state a step told m n
    → Answers of_files a step told m n
answers a step told m n quiet runs by = subst (λ (s : RunState (List ℕ)). ByState of_files s a step told m n) runs by

pub by_of : (a : ℕ) (step : Asked (List ℕ)) (told : Result Done Refusal) (m n : F) → IsQuiet step → Legal of_files (record { actor = a; asked = step; answer = told }) m n
    → ByState of_files m.state a step told m n
by_of a asked.Begin told m n quiet legal = legal
by_of a (asked.Claim seg) told m n quiet legal = legal
by_of a (asked.Seal offered) told m n quiet legal = legal
by_of a step told m n quiet legal = absurd quiet

pub step_done : (a : ℕ) (step : Asked (List ℕ)) (answer : Done) (m n : F) → IsQuiet step → m.state ≡ Running
    → Legal of_files (record { actor = a; asked = step; answer = Ok answer }) m n → Goes m n
step_done a step answer m n quiet runs legal = does_go a step answer m n quiet runs (answers a step (Ok answer) m n quiet runs (by_of a step (Ok answer) m n quiet legal))

quiet_by : (a : ℕ) (step : Asked (List ℕ)) (told : Result Done Refusal) (m n : F) → IsQuiet step → m.state ≡ Running → Answers of_files a step told m n → Quiet m n
quiet_by a step (Ok answer) m n quiet runs does = quiet_of m n (does_go a step answer m n quiet runs does)
quiet_by a step (Err refusal) m n quiet runs refuses = refused_rests a step refusal m n quiet runs refuses

pub step_quiet : (a : ℕ) (step : Asked (List ℕ)) (told : Result Done Refusal) (m n : F) → IsQuiet step → m.state ≡ Running
    → Legal of_files (record { actor = a; asked = step; answer = told }) m n → Quiet m n
step_quiet a step told m n quiet runs legal = quiet_by a step told m n quiet runs (answers a step told m n quiet runs (by_of a step told m n quiet legal))

-- ---- turns

pub due_is_quiet : (s : Session) (step : Asked (List ℕ)) → IsDueStep of_files s step → IsQuiet step
due_is_quiet s (asked.Claim seg) due = tt
due_is_quiet s (asked.Seal offered) due = tt
due_is_quiet s asked.Begin (dues.Claim, is, asks) = absurd asks
due_is_quiet s asked.Begin (dues.Seal kind, is, asks) = absurd asks
due_is_quiet s asked.Begin (dues.Nothing, is, asks) = absurd asks
due_is_quiet s step (dues.Claim, is, asks) = absurd asks
due_is_quiet s step (dues.Seal kind, is, asks) = absurd asks
due_is_quiet s step (dues.Nothing, is, asks) = absurd asks

-- what a turn was told was an answer
pub told_ok : (told : Result Done Refusal) (answer : Answer) → answer_of told ≡ Some answer → (d : Done) × (told ≡ Ok d)
told_ok (Ok d) answer is = (d, refl)
told_ok (Err refusal) answer is = absurd (let wrong : None ≡ Some answer = is in cc)

-- a reply tells its refusal
pub same_refusal : (a b : Refusal) → replies.Refused a ≡ replies.Refused b → a ≡ b
same_refusal a b is = cc

-- turns change no name, and go on; what was given stays
pub record Turned (s t : Session) (m n : F) : Type 0 where
  pub goes : Goes m n
  pub given : t.given ≡ s.given
  pub ended : t.ended ≡ s.ended

pub turns_go : (a : ℕ) (xs : List Step) (s t : Session) (m n : F) → m.state ≡ Running → AreTurns of_files a xs s t → Run of_files xs m n → Turned s t m n
turns_go a [] s t m n runs is run = record { goes = stays m n runs run; given = ap (λ (x : Session). x.given) is; ended = ap (λ (x : Session). x.ended) is }
turns_go a (x ∷ xs) s t m n runs (actor, due, (answer, told, more)) (mid, (legal, run)) =
    let d = told_ok x.answer answer told in
    let one : Goes m mid =
    step_done x.actor x.asked d.0 m mid (due_is_quiet s x.asked due) runs
    (subst (λ (r : Result Done Refusal). Legal of_files (record { actor = x.actor; asked = x.asked; answer = r }) m mid) d.1 legal) in
    let rest = turns_go a xs (record s { answers = s.answers ++ answer ∷ [] }) t mid n one.state more run in
    record { goes = record { now = rest.goes.now ∙ one.now; state = rest.goes.state }; given = rest.given; ended = rest.ended }

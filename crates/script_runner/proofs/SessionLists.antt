-- Lists of sessions: one is taken, and given back.
use Rattle.script_runner.proofs.Prelude.{◌≡◌, ◌∙◌, ℕ, false, Option, Some, None, Err, refl, sym, ap, set-get_or, Refusal, Memory, SessionState, Sessions, with_session}
use Rattle.std.proofs.lemmas.List.{set-set}
use Rattle.refusals.specs.declared.refusal.Refusal.TheVariants.{WrongPart}
use Rattle.refusals.specs.declared.refusal.PartKind.TheVariants.{Finished}
use Rattle.ingest_session.specs.Calls.{IsFinishAnswer}
use Rattle.script_runner.specs.Acts.{Replaces}
use Rattle.script_runner.specs.Sessions.{session_of}

-- a session that is taken and given back as another replaces it
pub replaced : (actor : ℕ) (s t : SessionState) (sessions left now : Sessions) → Some s ≡ session_of sessions actor → left ≡ with_session sessions actor None
    → now ≡ with_session left actor (Some t) → Replaces actor s t sessions now
replaced actor s t sessions left now taken left_is now_is = (
  sym taken,
  now_is ∙ ap (λ (xs : Sessions). with_session xs actor (Some t)) left_is ∙ set-set sessions actor None (Some t),
)

-- and as itself it leaves them as they were
pub given_back : (actor : ℕ) (s t : SessionState) (sessions left now : Sessions) → Some s ≡ session_of sessions actor → left ≡ with_session sessions actor None
    → now ≡ with_session left actor (Some t) → t ≡ s → now ≡ sessions
given_back actor s t sessions left now taken left_is now_is same =
    (replaced actor s t sessions left now taken left_is now_is).1
    ∙ ap (λ (x : Option SessionState). with_session sessions actor x) (ap Some same ∙ taken)
    ∙ set-get_or sessions actor None

-- the end of a file that goes on is refused for want of memory alone
pub only_memory : (s : SessionState) (refusal : Refusal) → Some s.ended ≡ Some false → IsFinishAnswer s (Err refusal) → refusal ≡ Memory
only_memory s Memory off answer = refl
only_memory s (WrongPart Finished) off answer = absurd (let both = sym off ∙ ap Some answer in cc)
only_memory s refusal off answer = absurd answer

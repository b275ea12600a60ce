-- What an answer does to a session.
use Rattle.ingest_session.proofs.Prelude.{◌≡◌, ◌<◌, Bool, true, false, refl, sym, subst, arith, Answer, Held, Absent, Sealed, Due, Claim, Seal, Nothing, due_in, due_node, item_due, item_kind, History, HasHistory, SealsSome, Told, answered, IsSession, SessionState, turn_node, IsAnswerFor, IsSettled, told_by, to_do}
use Rattle.std.proofs.Common.{if◌then◌else◌}
use Rattle.actor_parts.specs.declared.step.Answer.TheVariants.{Started, Did, Done, Begun, Committed, Aborted, Opened, Bytes, End, Dropped, Deleted, Listed, Stat, Unique}
use Rattle.ingest_session.specs.Told.{sealed_by}
use Rattle.ingest_session.proofs.SealsSome.{seals_some}
use Rattle.ingest_session.proofs.Working.{absent_is_less, placed_is_less, sealed_is_less}

due_seals_some : (s : SessionState) (due : Due) → due_in s ≡ due → IsSession s → SealsSome due s
due_seals_some s Claim is sound = tt
due_seals_some s (Seal kind) is sound = seals_some s kind sound is
due_seals_some s Nothing is sound = tt

pub told_has_history : (s t : SessionState) (answer : Answer) (h : History) → t ≡ told_by answer s → IsSession s → IsSession t → IsSettled s → s.unseen ≡ 0 →
    IsAnswerFor answer s → HasHistory s h → HasHistory t (answered answer s h)
told_has_history s t answer h told sound after settled asked right has =
    subst (λ (u : SessionState). HasHistory u (answered answer s h)) (sym told)
    (Told s answer h has (subst IsSession told after) settled asked right (due_seals_some s (due_in s) refl sound))

claim_waits_for_none : (s : SessionState) (waits : Bool) → s.waits ≡ waits →
    (if waits then Seal (item_kind (turn_node s)) else item_due s (due_node s)) ≡ Claim → s.waits ≡ false
claim_waits_for_none s true is due = absurd (cc)
claim_waits_for_none s false is due = is

told_is_less : (s : SessionState) (answer : Answer) → IsSession s → IsSettled s → IsAnswerFor answer s → to_do (told_by answer s) < to_do s
told_is_less s Held sound settled right =
    let less = placed_is_less 0 s (turn_node s) refl (settled.placed.claim right) in omega (arith, less)
told_is_less s Absent sound settled right = absent_is_less 0 s (claim_waits_for_none s s.waits refl right) (settled.placed.claim right)
told_is_less s (Sealed id count) sound settled right =
    subst (λ (d : Due). to_do (sealed_by count d s) < to_do s) (sym right.1)
    (sealed_is_less s right.0 count (λ on. (sound.waits on).0) right.2 right.3 (seals_some s right.0 sound right.1))
told_is_less s Begun sound settled right = absurd right
told_is_less s (Committed sequence) sound settled right = absurd right
told_is_less s Aborted sound settled right = absurd right
told_is_less s (Opened length) sound settled right = absurd right
told_is_less s (Bytes count) sound settled right = absurd right
told_is_less s End sound settled right = absurd right
told_is_less s Dropped sound settled right = absurd right
told_is_less s (Deleted sequence) sound settled right = absurd right
told_is_less s (Listed files) sound settled right = absurd right
told_is_less s (Started snapshot) sound settled right = absurd right
told_is_less s (Did phase) sound settled right = absurd right
told_is_less s (Done freed copied) sound settled right = absurd right
told_is_less s (Stat files segments bytes used free) sound settled right = absurd right
told_is_less s (Unique segments bytes) sound settled right = absurd right

pub told_has_less_to_do : (s t : SessionState) (answer : Answer) → t ≡ told_by answer s → IsSession s → IsSettled s →
    IsAnswerFor answer s → to_do t < to_do s
told_has_less_to_do s t answer told sound settled right =
    subst (λ (u : SessionState). to_do u < to_do s) (sym told) (told_is_less s answer sound settled right)

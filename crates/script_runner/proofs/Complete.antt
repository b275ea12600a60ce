-- Why what can be done is done.
use Rattle.script_runner.proofs.Prelude.{◌≡◌, ◌⊎◌, inl, inr, ◌∙◌, ℕ, true, List, [], ◌∷◌, ◌++◌, Some, refl, sym, ap, subst, AllByRecursion, LineValue, ReplyValue, HasNoCollisions, Piece, Data, Node, Lines, Replied, ends, run_of, Running, of_files, IsUnblamed, MayReply, FileDesk, Traced}
use Rattle.refusals.specs.declared.refusal.Refusal.TheVariants as refusals
use Rattle.script_lines.specs.Grammar as lines
use Rattle.script_lines.specs.ReplyValue as replies
use Rattle.store_machine.specs.Commands.{desk, run_on}
use Rattle.store_machine.specs.Twins.{IsGivenIn, UnpinnedByTwins}
use Rattle.store_machine.proofs.TwinLines.{file_reads, unpinned_has_twins}
use Rattle.script_runner.specs.Complete.{EndByReopen, EndsUnopened, IsHeldIn, IsNodeIn, WhatCanBeDoneIsDone}
use Rattle.script_runner.proofs.CompleteLines.{Tells, says, tells_on}
use Rattle.script_runner.proofs.CompleteNodes.{PieceAmong}
use Rattle.script_runner.proofs.CompleteTrace.{Content, DoesAmong, Step, on_the_way, traced_as, traced_parts}

abbrev AllMay : List Replied → Type 0
AllMay rs = AllByRecursion (λ (one : Replied). MayReply one.line one.reply) rs

none_left : (rs : List Replied) → rs ≡ [] → AllMay rs
none_left rs none = subst AllMay (sym none) tt

-- a `reopen` that was refused is the last line
unopened_last : (one : Replied) (more : List Replied) → more ≡ [] → one.line ≡ lines.Reopen → one.reply ≡ replies.Refused refusals.Memory → EndsUnopened (one ∷ more)
unopened_last one more none line reply = (
  [],
  ap (λ (rs : List Replied). one ∷ rs) none
      ∙ ap (λ (l : LineValue). let x : Replied = record { line = l; reply = one.reply } in x ∷ []) line
      ∙ ap (λ (r : ReplyValue). let x : Replied = record { line = lines.Reopen; reply = r } in x ∷ []) reply,
)

ends_there : (line : LineValue) (reply : ReplyValue) → line ≡ lines.Reopen → reply ≡ replies.Refused refusals.Memory → ends line reply ≡ true
ends_there line reply is by = ap (λ (l : LineValue). ends l reply) is ∙ ap (ends lines.Reopen) by

module _ (D S : List ℕ → Type 0) (no_data : HasNoCollisions D) (no_nodes : HasNoCollisions S) where
  all : (rs : List Replied) (ss : List Step) (d e : FileDesk) (ran : Lines of_files rs ss d e) (was now : Content)
      → Traced of_files (DoesAmong S) ss d.machine e.machine (run_of of_files rs ss d e ran) was now → Tells was → d.machine.state ≡ Running
      → AllByRecursion (λ (one : Replied). IsUnblamed one.reply) rs → EndByReopen rs → ((p : Piece) → IsGivenIn of_files rs ss d e ran p → PieceAmong D S p)
      → UnpinnedByTwins of_files rs ss d e ran → AllMay rs × ((e.machine.state ≡ Running) ⊎ EndsUnopened rs)
  all [] ss d e ran was now traced known runs calm last among lacks = (tt, inl (ap (λ (x : FileDesk). x.machine.state) ran.1 ∙ runs))
  all (one ∷ more) ss d e (first, rest, mid, is, (run, said), next) was now traced known runs calm last among lacks =
      let on = run_of of_files more rest mid e next in
      let parts = traced_parts (DoesAmong S) first rest d.machine mid.machine e.machine run on was now
      (traced_as (DoesAmong S) ss (first ++ rest) d.machine e.machine is (run_on of_files first rest d.machine mid.machine e.machine run on) was now traced) in
      let one_line = says D S no_data no_nodes d mid (λ p given. among p (inl given)) runs one.reply lacks.0 calm.0 first was parts.0 known (run, parts.1) one.line said in
      elim one_line.1 [
        | inl still ↦
            let others = all more rest mid e next parts.0 now parts.2 (tells_on D S no_data no_nodes first d.machine mid.machine run was parts.0 parts.1 known) still
            calm.1 last.1 (λ p given. among p (inr given)) lacks.1 in
            ((one_line.0, others.0), elim others.1 [ inl up ↦ inl up | inr unopened ↦ inr (one ∷ unopened.0, ap (λ (rs : List Replied). one ∷ rs) unopened.1) ])
        | inr unopened ↦
            let none = last.0 (ends_there one.line one.reply unopened.0 unopened.1) in
            ((one_line.0, none_left more none), inr (unopened_last one more none unopened.0 unopened.1))
      ]

pub what_can_be_done_is_done : WhatCanBeDoneIsDone
what_can_be_done_is_done rs ss m e ran content now traced runs idle calm last no_data no_nodes =
    all (λ bytes. IsGivenIn of_files rs ss (desk m) e ran (Data bytes))
    (IsNodeIn (IsGivenIn of_files rs ss (desk m) e ran) (IsHeldIn ss m e.machine (run_of of_files rs ss (desk m) e ran) (Some content) now traced)) no_data no_nodes
    rs ss (desk m) e ran (Some content) now
    (on_the_way (IsNodeIn (IsGivenIn of_files rs ss (desk m) e ran) (IsHeldIn ss m e.machine (run_of of_files rs ss (desk m) e ran) (Some content) now traced)) ss m e.machine
    (run_of of_files rs ss (desk m) e ran) (Some content) now traced (λ bytes held. inr held))
    (content, refl) runs calm last among (unpinned_has_twins of_files (λ file. refl) file_reads rs ss m e idle ran)
  where
    among : (p : Piece) → IsGivenIn of_files rs ss (desk m) e ran p
        → PieceAmong (λ bytes. IsGivenIn of_files rs ss (desk m) e ran (Data bytes))
        (IsNodeIn (IsGivenIn of_files rs ss (desk m) e ran) (IsHeldIn ss m e.machine (run_of of_files rs ss (desk m) e ran) (Some content) now traced)) p
    among (Data bytes) given = given
    among (Node n) given = inl (n, (given, refl))

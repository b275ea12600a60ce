-- A step of the machine of roots is one of the machine of files, where what the content of a disk adds is so.
use Rattle.store_machine.proofs.Prelude.{inl, inr, ℕ, Some, None, Result, Ok, Err, refl, ◌∙◌, ap, subst, Root, Refusal, Asked, Done, Forgets, SameNow, SameState, asked_of, Answers, ByState, Does, LegalBy, counted, Writing, RunState, Running, Stopped, put_at, Reopens, freeing, AddsBy, AddsToAnswer, AddsToDone, AddsToOpening, of_files, of_roots}
use Rattle.std.proofs.Common.{List}
use Rattle.std.specs.FinMap as finite
use Rattle.refusals.specs.declared.refusal.PartKind.TheVariants as kinds
use Rattle.refusals.specs.declared.refusal.Refusal.TheVariants as refusals
use Rattle.store_machine.specs.Asked as asked
use Rattle.store_machine.specs.Done as done
use Rattle.store_machine.specs.Opening.{Opens}
use Rattle.store_machine.specs.Remembering.{FindsFiles, StepsAreRemembered}
use Rattle.store_machine.proofs.Forgotten.{still_same}
use Rattle.store_machine.proofs.Parts.{F, G, fresh, fresh_same, put, with_state}
use Rattle.store_machine.proofs.Recalled.{Recalls, goes, stays, idle, keeps_back}
use Rattle.store_machine.proofs.RecalledCollection.{begun, ended, gone_on}
use Rattle.store_machine.proofs.RecalledDone.{at_end, claimed, committed, deleted, given, given_up, opened, sealed}
use Rattle.store_machine.proofs.RecalledRefused.{refused_back}
use Rattle.store_machine.proofs.SameNames.{len_same, listing_same}

module _ (m : F) (r : G) (same : Forgets m r) where
  -- what is left of a step, that is of this kind
  abbrev Left : (F → Type 0) → G → Type 0
  Left P t = Recalls m r same P t

  done_back : (a : ℕ) (step : Asked (List ℕ)) (answer : Done) (t : G) → Does of_roots a (asked_of step) answer r t → AddsToDone a step answer m t
      → Left (λ n. Does of_files a step answer m n) t
  done_back a asked.Begin done.Begun t (is, others) adds =
      goes m r same (λ n. Does of_files a asked.Begin done.Begun m n) t (put_at r a (Writing finite.empty)) (put_at m a (Writing finite.empty)) others
      (idle m r same a is, refl) (put m r same a (Writing finite.empty) (Writing finite.empty) refl)
  done_back a (asked.Claim seg) done.Held t does adds = claimed m r same a seg t does adds.0 adds.1
  done_back a (asked.Claim seg) done.Absent t (keeps, told, others) adds =
      stays m r same (λ n. Does of_files a (asked.Claim seg) done.Absent m n) t others (keeps_back m r same a _ keeps, (λ indexed. adds), refl)
  done_back a (asked.Seal offered) (done.Sealed id count) t does adds = sealed m r same a offered id count t does adds
  done_back a (asked.Commit name file) (done.Committed sequence) t does adds = committed m r same a name file sequence t does adds
  done_back a asked.Abort done.Aborted t does adds = given_up m r same a kinds.Writing t does
  done_back a (asked.OpenRead name) (done.Opened count) t does adds = opened m r same a name count t does
  done_back a asked.ReadNext (done.Bytes bytes) t does adds = given m r same a bytes t does adds
  done_back a asked.ReadNext done.End t does adds = at_end m r same a t does
  done_back a asked.EndRead done.Dropped t does adds = given_up m r same a kinds.Reading t does
  done_back a (asked.Delete name) (done.Deleted sequence) t does adds = deleted m r same name sequence t does
  done_back a asked.ListNames (done.Listed files) t (is, others) adds =
      stays m r same (λ n. Does of_files a asked.ListNames (done.Listed files) m n) t others (is ∙ listing_same m.now r.now same.now, refl)
  done_back a (asked.GcStart percent) (done.Started snapshot) t does adds = begun m r same percent snapshot t does
  done_back a asked.GcStep (done.Did phase) t does adds = gone_on m r same phase t does adds
  done_back a asked.GcStep (done.Collected freed copied) t does adds = ended m r same freed copied t does
  done_back a asked.Stat (done.Counted files segments bytes used free) t (is, others) adds =
      stays m r same (λ n. Does of_files a asked.Stat (done.Counted files segments bytes used free) m n) t others
      (is ∙ ap (λ (k : ℕ). counted k r.store) (len_same m.now r.now same.now) ∙ ap (counted (finite.len m.now.names)) same.store, refl)
  done_back a asked.Unique (done.Unique segments bytes) t (is, others) adds =
      stays m r same (λ n. Does of_files a asked.Unique (done.Unique segments bytes) m n) t others (adds, refl)
  done_back a step answer t does adds = absurd does

  answered_back : (a : ℕ) (step : Asked (List ℕ)) (told : Result Done Refusal) (t : G) → Answers of_roots a (asked_of step) told r t → AddsToAnswer a step told m t
      → Left (λ n. Answers of_files a step told m n) t
  answered_back a step (Ok answer) t does adds = done_back a step answer t does adds
  answered_back a step (Err refusal) t refuses adds = refused_back m r same a step refusal t refuses adds

  state_back : (s : RunState (List ℕ)) (u : RunState Root) → SameState s u → (a : ℕ) (step : Asked (List ℕ)) (told : Result Done Refusal) (t : G)
      → ByState of_roots u a (asked_of step) told r t → AddsToAnswer a step told m t → Left (λ n. ByState of_files s a step told m n) t
  state_back Running Running one a step told t by adds = answered_back a step told t by adds
  state_back Running (Stopped other stores) one a step told t by adds = absurd one
  state_back (Stopped None stores) Running one a step told t by adds = absurd one
  state_back (Stopped (Some found) stores) Running one a step told t by adds = absurd one
  state_back (Stopped found stores) (Stopped other now) one a step told t (is, others) adds =
      stays m r same (λ n. ByState of_files (Stopped found stores) a step told m n) t others (is ∙ ap (λ (k : ℕ). Err (refusals.Stopped k)) same.acknowledged, refl)

  -- ---- an opening

  opened_again : (files : ℕ) (t : G) → Opens of_roots files r t → FindsFiles m t → Left (λ n. Opens of_files files m n) t
  opened_again files t o finds =
      let roots : SameNow finds.found o.found = subst (SameNow finds.found) (ap (λ (x : G). x.now) o.others) finds.roots in
      let n : F = fresh finds.found t.store in
      goes m r same (λ n. Opens of_files files m n) t (fresh o.found t.store) n o.others
      (record {
        found = finds.found;
        may = λ told. finds.may;
        files_are = o.files_are ∙ len_same finds.found o.found roots;
        before = finds.before;
        same = λ told. finds.stands;
        named = λ told. finds.named;
        freed = finds.freed;
        frees = λ told. finds.frees;
        reserve = o.reserve;
        others = refl;
      })
      (fresh_same finds.found o.found t.store roots)

  reopened : (told : Result Done Refusal) (t : G) → Reopens of_roots told r t → AddsToOpening told m r t → Left (λ n. Reopens of_files told m n) t
  reopened (Ok (done.Reopened files)) t opens adds = opened_again files t opens adds
  reopened (Ok answer) t opens adds = absurd opens
  reopened (Err refusal) t (may, inl others) adds = stays m r same (λ n. Reopens of_files (Err refusal) m n) t others (adds.0, inl refl)
  reopened (Err refusal) t (may, inr (stores, others, why, known)) adds =
      goes m r same (λ n. Reopens of_files (Err refusal) m n) t (record r { state = freeing of_roots stores r.state }) (record m { state = freeing of_files stores m.state }) others
      (adds.0, inr (stores, refl, why, λ told. adds.1 stores (ap (λ (x : G). x.state) others)))
      (with_state m r same (freeing of_files stores m.state) (freeing of_roots stores r.state) (still_same m r same stores m.state r.state same.state))

  -- ---- a step

  pub step_back : (step : Asked (List ℕ)) (a : ℕ) (told : Result Done Refusal) (t : G) → LegalBy of_roots (asked_of step) a told r t → AddsBy step a told m r t
      → Left (λ n. LegalBy of_files step a told m n) t
  step_back asked.Reopen a told t legal adds = reopened told t legal adds
  step_back step a told t legal adds = state_back m.state r.state same.state a step told t legal adds

pub steps_are_remembered : StepsAreRemembered
steps_are_remembered s m r t same legal adds = let left = step_back m r same s.asked s.actor s.answer t legal adds in (left.0, (left.1, left.2))

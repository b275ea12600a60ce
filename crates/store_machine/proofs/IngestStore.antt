-- What a step of an `ingest` that is refused leaves of the store.
use Rattle.store_machine.proofs.Prelude.{◌≡◌, inl, inr, ℕ, None, [], Some, Ok, refl, sym, ◌∙◌, ap, subst, KindSegment, Put, Refusal, ReplyValue, Store, Asked, Done, IsDueOf, broken_by, with_name, Refuses, RefusesClaim, RefusesCommit, RefusesSeal, IsDueStep, Session, reply_of, Found, Running, Stopped, of_files}
use Rattle.std.proofs.Common.{List}
use Rattle.std.proofs.lemmas.List.{append-nil}
use Rattle.container_meta.specs.Segments.{Contents}
use Rattle.ingest_session.specs.declared.due.Due.TheVariants as dues
use Rattle.refusals.specs.declared.refusal.Refusal.TheVariants as refusals
use Rattle.script_lines.specs.ReplyValue as replies
use Rattle.store_model.specs.Trees.{root_of}
use Rattle.store_machine.specs.Asked as asked
use Rattle.store_machine.specs.Ingests.{IsBroken}
use Rattle.store_machine.specs.Offers.{sealed_in, stores_with_some}
use Rattle.store_machine.proofs.Quiet.{F}
use Rattle.store_machine.specs.Done as done

-- a claim or a seal
abbrev pub IsTurn : Asked (List ℕ) → Type 0
IsTurn (asked.Claim seg) = Unit {0}
IsTurn (asked.Seal offered) = Unit {0}
IsTurn step = ⊥

pub due_is_turn : (s : Session) (step : Asked (List ℕ)) → IsDueStep of_files s step → IsTurn step
due_is_turn s (asked.Claim seg) due = tt
due_is_turn s (asked.Seal offered) due = tt
due_is_turn s step (dues.Claim, is, asks) = absurd asks
due_is_turn s step (dues.Seal kind, is, asks) = absurd asks
due_is_turn s step (dues.Nothing, is, asks) = absurd asks

-- an answer is no refusal
abbrev pub IsRefusal : ReplyValue → Type 0
IsRefusal (replies.Refused refusal) = Unit {0}
IsRefusal reply = ⊥

pub unrefused : (a : ℕ) (answer : Done) → IsRefusal (reply_of a (Ok answer)) → ⊥
unrefused a done.Begun is = is
unrefused a other is = is

-- no write that failed
abbrev pub IsOther : Refusal → Type 0
IsOther refusals.DiskWrite = ⊥
IsOther refusal = Unit {0}

-- ---- a step that is refused leaves the store

module _ (name : List ℕ) (now : Found (List ℕ)) where
  -- and it runs, unless its write failed
  pub record Rests (given : List ℕ) (refusal : Refusal) (m n : F) : Type 0 where
    pub store : n.store ≡ m.store
    pub runs : ((refusal ≡ refusals.DiskWrite) → ⊥) → n.state ≡ Running
    pub broke : refusal ≡ refusals.DiskWrite → IsBroken name given now n

  pub stays : (given : List ℕ) (refusal : Refusal) (m n : F) → m.state ≡ Running → IsOther refusal → n ≡ m → Rests given refusal m n
  stays given refusal m n runs other is = record {
    store = ap (λ (x : F). x.store) is;
    runs = λ _. ap (λ (x : F). x.state) is ∙ runs;
    broke = λ write. absurd (subst IsOther write other);
  }

  module _ (given : List ℕ) (m n : F) (runs : m.state ≡ Running) where
    claim_leaves : (seg : KindSegment) (refusal : Refusal) → RefusesClaim of_files 0 seg refusal m n → Rests given refusal m n
    claim_leaves seg (refusals.Unpinned key) (is, others) = stays given (refusals.Unpinned key) m n runs tt others
    claim_leaves seg refusals.Memory others = stays given refusals.Memory m n runs tt others
    claim_leaves seg refusals.DiskRead (keeps, others) = stays given refusals.DiskRead m n runs tt others
    claim_leaves seg (refusals.Clash key at) (keeps, known, others) = stays given (refusals.Clash key at) m n runs tt others
    claim_leaves seg (refusals.Corrupt slot offset count want got) (keeps, (unknown, others)) = absurd (unknown tt)
    claim_leaves seg refusal refuses = absurd refuses

    seal_leaves : (offered : List Contents) → IsDueOf given (asked.Seal offered) → (refusal : Refusal) → RefusesSeal of_files 0 offered refusal m n → Rests given refusal m n
    seal_leaves offered due refusals.Memory others = stays given refusals.Memory m n runs tt others
    seal_leaves offered due (refusals.Unpinned key) (is, others) = stays given (refusals.Unpinned key) m n runs tt others
    seal_leaves offered due (refusals.Full free) (keeps, is, few, others) = stays given (refusals.Full free) m n runs tt others
    seal_leaves offered due refusals.Numbers (slot, none, others) = stays given refusals.Numbers m n runs tt others
    seal_leaves offered due refusals.DiskRead (slot, others) = stays given refusals.DiskRead m n runs tt others
    seal_leaves offered due (refusals.Clash key at) (slot, known, others) = stays given (refusals.Clash key at) m n runs tt others
    seal_leaves offered due (refusals.Corrupt at offset count want got) (slot, (unknown, others)) = absurd (unknown tt)
    seal_leaves offered due refusals.DiskWrite (slot, fits, others) = record {
      store = ap (λ (x : F). x.store) others;
      runs = λ not. absurd (not refl);
      broke = λ _. inl (
        offered,
        (given, [], sym (append-nil given), due),
        subst (λ (x : F). x.state ≡ Stopped None (stores_with_some x.last_id (sealed_in offered x) x.store)) (sym others) refl,
      );
    }
    seal_leaves offered due refusal refuses = absurd refuses

    pub turn_leaves : (step : Asked (List ℕ)) (refusal : Refusal) → IsTurn step → IsDueOf given step → Refuses of_files 0 step refusal m n → Rests given refusal m n
    turn_leaves (asked.Claim seg) (refusals.WrongPart kind) turn due (wrong, others) = stays given (refusals.WrongPart kind) m n runs tt others
    turn_leaves (asked.Claim seg) refusals.Memory turn due refuses = claim_leaves seg refusals.Memory refuses
    turn_leaves (asked.Claim seg) refusal turn due (right, refuses) = claim_leaves seg refusal refuses
    turn_leaves (asked.Seal offered) (refusals.WrongPart kind) turn due (wrong, others) = stays given (refusals.WrongPart kind) m n runs tt others
    turn_leaves (asked.Seal offered) refusals.Memory turn due refuses = seal_leaves offered due refusals.Memory refuses
    turn_leaves (asked.Seal offered) refusal turn due (right, refuses) = seal_leaves offered due refusal refuses
    turn_leaves step refusal turn due refuses = absurd turn

    module _ (file : List ℕ) (file_is : file ≡ given) (same : m.now ≡ now) where
      commit_leaves : (refusal : Refusal) → RefusesCommit of_files 0 name file refusal m n → Rests given refusal m n
      commit_leaves refusals.Memory others = stays given refusals.Memory m n runs tt others
      commit_leaves refusals.BadName (bad, others) = stays given refusals.BadName m n runs tt others
      commit_leaves refusals.TooMany (good, none, many, others) = stays given refusals.TooMany m n runs tt others
      commit_leaves (refusals.Unpinned key) (good, room, key_is, pins, others) = stays given (refusals.Unpinned key) m n runs tt others
      commit_leaves refusals.Numbers (may, lacks, others) = stays given refusals.Numbers m n runs tt others
      commit_leaves refusals.DiskWrite (may, has, right, whole, others) = record {
        store = ap (λ (x : F). x.store) others;
        runs = λ not. absurd (not refl);
        broke = λ _. inr
            (ap (λ (x : F). x.state) others
            ∙ (λ i. Stopped (Some (with_name of_files name (file_is i) (same i))) (broken_by of_files name (Put (root_of (file_is i))) m.store))
            ∙ ap (λ (x : Store). Stopped (Some (with_name of_files name given now)) (broken_by of_files name (Put (root_of given)) x)) (sym (ap (λ (x : F). x.store) others)));
      }
      commit_leaves refusal refuses = absurd refuses

      pub committed_leaves : (refusal : Refusal) → Refuses of_files 0 (asked.Commit name file) refusal m n → Rests given refusal m n
      committed_leaves (refusals.WrongPart kind) (wrong, others) = stays given (refusals.WrongPart kind) m n runs tt others
      committed_leaves refusals.Memory refuses = commit_leaves refusals.Memory refuses
      committed_leaves refusal (right, refuses) = commit_leaves refusal refuses

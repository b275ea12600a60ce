use Rattle.std.proofs.Common.{◌≡◌, ℕ, List, Result, [], ◌∷◌, ◌++◌, Ok, Err, refl, subst, ◌∙◌}
use Rattle.disk_format.specs.Cells.{Root}
use Rattle.refusals.specs.declared.refusal.Refusal.{Refusal}
use Rattle.refusals.specs.declared.refusal.Refusal.TheVariants.{Memory}
use Rattle.actor_parts.specs.Asking.{Ask}
use Rattle.actor_parts.specs.StepValue as asked
use Rattle.session_turns.proofs.Results.{by_error}
use Rattle.ingest_workers.specs.Giving.{Reads, Stores, Unread, Unstored, Untaken}
use Rattle.ingest_workers.specs.Jobs.{IsServed, NoTemp, NoWork, NotDeleted, NotRead, file_of, temp_name, work_name}
use Rattle.ingest_workers.proofs.Feeding.{asks_append}
use Rattle.ingest_workers.proofs.serving.serve.Goals as goal

pub returns-in_err-temp : goal.returns-in_err-temp
returns-in_err-temp g c =
    ([], refl, by_error (λ (r : Result Root Refusal). IsServed c.args.job.now r []) c.from_residual.result Memory c.from_residual.ensures.1 (NoTemp [] (Untaken refl)))

pub returns-in_err-work : goal.returns-in_err-work
returns-in_err-work g c = (
  [],
  refl,
  by_error (λ (r : Result Root Refusal). IsServed c.args.job.now r []) c.from_residual-in_err-work.result Memory
      c.from_residual-in_err-work.ensures.1 (NoTemp [] (Untaken refl)),
)

pub returns-in_err-store : goal.returns-in_err-store
returns-in_err-store g c =
    let job = c.args.job.now in
    let e = c.in_err-store.field-0.0 in
    let one = c.in_err-store.ensures in
    let temp_is : c.as_bytes.result.now ≡ temp_name job.number = c.as_bytes.ensures.value ∙ c.in_ok-temp.ensures in (
      one.0,
      one.1,
      by_error (λ (r : Result Root Refusal). IsServed job r one.0) c.from_residual-in_err-store.result e c.from_residual-in_err-store.ensures.1
          (NoTemp one.0 (subst (λ (n : List ℕ). Unstored (file_of job) n e one.0) temp_is one.2)),
    )

pub returns-in_err-root : goal.returns-in_err-root
returns-in_err-root g c =
    let job = c.args.job.now in
    let e = c.in_err-root.field-0.0 in
    let one = c.in_ok-store.ensures in
    let two = c.in_err-root.ensures in
    let first = c.in_ok-store.field-0 in
    let temp_is : c.as_bytes.result.now ≡ temp_name job.number = c.as_bytes.ensures.value ∙ c.in_ok-temp.ensures in
    let work_is : c.as_bytes-2.result.now ≡ work_name job.number = c.as_bytes-2.ensures.value ∙ c.in_ok-work.ensures in (
      one.0 ++ two.0,
      asks_append g.S.StoreCalls.asks c.args.caller.now c.store.new.caller c.store-2.new.caller one.0 two.0 one.1 two.1,
      by_error (λ (r : Result Root Refusal). IsServed job r (one.0 ++ two.0)) c.from_residual-in_err-root.result e c.from_residual-in_err-root.ensures.1
          (NoWork one.0 two.0 first (subst (λ (n : List ℕ). Stores (file_of job) n first one.0) temp_is one.2)
          (subst (λ (n : List ℕ). Unstored (file_of job) n e two.0) work_is two.2)),
    )

pub returns-in_err-make : goal.returns-in_err-make
returns-in_err-make g c =
    let asks = g.S.StoreCalls.asks in
    let job = c.args.job.now in
    let e = c.in_err-make.field-0.0 in
    let one = c.in_ok-store.ensures in
    let two = c.in_ok-root.ensures in
    let first = c.in_ok-store.field-0 in
    let root = c.in_ok-root.root in
    let temp_is : c.as_bytes.result.now ≡ temp_name job.number = c.as_bytes.ensures.value ∙ c.in_ok-temp.ensures in
    let work_is : c.as_bytes-2.result.now ≡ work_name job.number = c.as_bytes-2.ensures.value ∙ c.in_ok-work.ensures in
    let again_is : c.as_bytes-3.result.now ≡ temp_name job.number = c.as_bytes-3.ensures.value ∙ c.in_ok-temp.ensures in
    let delete : Ask = record { step = asked.Delete (temp_name job.number); answer = Err e; buf = c.make.new.buf } in
    let made = subst (λ (n : List ℕ). asks c.store-2.new.caller (asked.Delete n) (Err e) c.make.new.buf c.make.new.self) again_is c.in_err-make.ensures.made in
    let all : List Ask = one.0 ++ (two.0 ++ delete ∷ []) in (
      all,
      asks_append asks c.args.caller.now c.store.new.caller c.make.new.self one.0 (two.0 ++ delete ∷ []) one.1
          (asks_append asks c.store.new.caller c.store-2.new.caller c.make.new.self two.0 (delete ∷ []) two.1 (c.make.new.self, (made, refl))),
      by_error (λ (r : Result Root Refusal). IsServed job r all) c.from_residual-in_err-make.result e c.from_residual-in_err-make.ensures.1
          (NotDeleted one.0 two.0 first root delete (subst (λ (n : List ℕ). Stores (file_of job) n first one.0) temp_is one.2)
          (subst (λ (n : List ℕ). Stores (file_of job) n root two.0) work_is two.2) refl refl),
    )

pub returns-in_err-read : goal.returns-in_err-read
returns-in_err-read g c =
    let asks = g.S.StoreCalls.asks in
    let job = c.args.job.now in
    let e = c.in_err-read.field-0.0 in
    let one = c.in_ok-store.ensures in
    let two = c.in_ok-root.ensures in
    let read = c.in_err-read.ensures in
    let first = c.in_ok-store.field-0 in
    let root = c.in_ok-root.root in
    let answer = c.in_ok-make.field-0 in
    let temp_is : c.as_bytes.result.now ≡ temp_name job.number = c.as_bytes.ensures.value ∙ c.in_ok-temp.ensures in
    let work_is : c.as_bytes-2.result.now ≡ work_name job.number = c.as_bytes-2.ensures.value ∙ c.in_ok-work.ensures in
    let again_is : c.as_bytes-3.result.now ≡ temp_name job.number = c.as_bytes-3.ensures.value ∙ c.in_ok-temp.ensures in
    let read_is : c.as_bytes-4.result.now ≡ work_name job.number = c.as_bytes-4.ensures.value ∙ c.in_ok-work.ensures in
    let delete : Ask = record { step = asked.Delete (temp_name job.number); answer = Ok answer; buf = c.make.new.buf } in
    let made = subst (λ (n : List ℕ). asks c.store-2.new.caller (asked.Delete n) (Ok answer) c.make.new.buf c.make.new.self) again_is c.in_ok-make.ensures.made in
    let all : List Ask = one.0 ++ (two.0 ++ delete ∷ read.0) in (
      all,
      asks_append asks c.args.caller.now c.store.new.caller c.read.new.caller one.0 (two.0 ++ delete ∷ read.0) one.1
          (asks_append asks c.store.new.caller c.store-2.new.caller c.read.new.caller two.0 (delete ∷ read.0) two.1 (c.make.new.self, (made, read.1))),
      by_error (λ (r : Result Root Refusal). IsServed job r all) c.from_residual-in_err-read.result e c.from_residual-in_err-read.ensures.1
          (NotRead one.0 two.0 first root delete read.0 (subst (λ (n : List ℕ). Stores (file_of job) n first one.0) temp_is one.2)
          (subst (λ (n : List ℕ). Stores (file_of job) n root two.0) work_is two.2) refl (answer, refl, c.in_ok-make.ensures.fits)
          (subst (λ (n : List ℕ). Unread n e read.0) read_is read.2)),
    )

pub returns : goal.returns
returns g c =
    let asks = g.S.StoreCalls.asks in
    let job = c.args.job.now in
    let one = c.in_ok-store.ensures in
    let two = c.in_ok-root.ensures in
    let read = c.in_ok-read.ensures in
    let first = c.in_ok-store.field-0 in
    let root = c.in_ok-root.root in
    let answer = c.in_ok-make.field-0 in
    let temp_is : c.as_bytes.result.now ≡ temp_name job.number = c.as_bytes.ensures.value ∙ c.in_ok-temp.ensures in
    let work_is : c.as_bytes-2.result.now ≡ work_name job.number = c.as_bytes-2.ensures.value ∙ c.in_ok-work.ensures in
    let again_is : c.as_bytes-3.result.now ≡ temp_name job.number = c.as_bytes-3.ensures.value ∙ c.in_ok-temp.ensures in
    let read_is : c.as_bytes-4.result.now ≡ work_name job.number = c.as_bytes-4.ensures.value ∙ c.in_ok-work.ensures in
    let delete : Ask = record { step = asked.Delete (temp_name job.number); answer = Ok answer; buf = c.make.new.buf } in
    let made = subst (λ (n : List ℕ). asks c.store-2.new.caller (asked.Delete n) (Ok answer) c.make.new.buf c.make.new.self) again_is c.in_ok-make.ensures.made in
    let all : List Ask = one.0 ++ (two.0 ++ delete ∷ read.0) in (
      all,
      asks_append asks c.args.caller.now c.store.new.caller c.read.new.caller one.0 (two.0 ++ delete ∷ read.0) one.1
          (asks_append asks c.store.new.caller c.store-2.new.caller c.read.new.caller two.0 (delete ∷ read.0) two.1 (c.make.new.self, (made, read.1))),
      record {
        first = first;
        temp = one.0;
        work = two.0;
        delete = delete;
        read = read.0;
        temp_stored = subst (λ (n : List ℕ). Stores (file_of job) n first one.0) temp_is one.2;
        work_stored = subst (λ (n : List ℕ). Stores (file_of job) n root two.0) work_is two.2;
        step_is = refl;
        deleted = (answer, refl, c.in_ok-make.ensures.fits);
        was_read = subst (λ (n : List ℕ). Reads n read.0) read_is read.2;
        all_is = refl;
      },
    )

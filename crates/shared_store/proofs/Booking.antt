-- What the names have is what the book makes of them.
use Rattle.std.proofs.Common.{◌≡◌, ℕ, suc, List, [], ◌∷◌, ◌++◌, take, refl, sym, ap, ◌∙◌, subst, Option, Some, None, Result, Ok, Err}
use Rattle.container_meta.specs.Segments.{Contents}
use Rattle.refusals.specs.declared.refusal.Refusal.{Refusal}
use Rattle.refusals.specs.declared.refusal.Refusal.TheVariants as refusals
use Rattle.store_machine.specs.Asked.{Asked}
use Rattle.store_machine.specs.Asked as asked
use Rattle.store_machine.specs.Done.{Done}
use Rattle.store_machine.specs.Done as done
use Rattle.store_machine.specs.Legal.{Answers, ByState, Does, Legal, Refuses, RefusesClaim, RefusesCommit, RefusesDelete, RefusesGcStep, RefusesOn, RefusesSeal, RefusesUnique}
use Rattle.store_machine.specs.Machine.{Found, Machine, RunState, Running, Stepped, Stopped, one_more}
use Rattle.store_machine.specs.Offers.{AddsContainers}
use Rattle.store_machine.specs.Values.{Values}
use Rattle.shared_store.specs.Book.{BooksReplay, CountsFrom, IsNoOpening, Line, book_of, counted, line_by, replay, written}

module _ {V R : Type 0} (v : Values V R) where
  abbrev M : Type 0
  M = Machine V R

  -- what a step makes of the names, how its line is numbered, and what is counted
  abbrev Wrote : List (Line V) → M → M → Type 0
  Wrote lines m n = (n.now ≡ replay v lines m.now) × CountsFrom m.now.last lines × (n.acknowledged ≡ counted lines m.acknowledged)

  abbrev told : M → Found V × ℕ
  told m = (m.now, m.acknowledged)

  still : (m n : M) → told n ≡ told m → Wrote [] m n
  still m n is = (ap (λ (t : Found V × ℕ). t.0) is, tt, ap (λ (t : Found V × ℕ). t.1) is)

  same : (m n : M) → n ≡ m → Wrote [] m n
  same m n is = still m n (ap told is)

  added : (a : ℕ) (cs : List Contents) (m n : M) → AddsContainers a cs m n → told n ≡ told m
  added a [] m n is = ap told is
  added a (c ∷ cs) m n (mid, one, more) = added a cs mid n more ∙ ap told one.others

  -- ---- done

  does : (a : ℕ) (step : Asked V) (answer : Done) (m n : M) → Does v a step answer m n → Wrote (line_by a step (Ok answer)) m n
  does a asked.Begin done.Begun m n (idle, is) = still m n (ap told is)
  does a (asked.Claim seg) done.Held m n claims = still m n (ap told claims.others)
  does a (asked.Claim seg) done.Absent m n (keeps, told, is) = same m n is
  does a (asked.Seal offered) (done.Sealed id count) m n seals = still m n (added a (take count offered) m n seals.adds)
  does a (asked.Commit name value) (done.Committed sequence) m n commits =
      (ap (λ (x : M). x.now) commits.others, (commits.sequence_is, tt), ap (λ (x : M). x.acknowledged) commits.others)
  does a asked.Abort done.Aborted m n (kind, is) = still m n (ap told is)
  does a (asked.OpenRead name) (done.Opened count) m n (named, idle, (value, rest, has, starts, counted, is)) = still m n (ap told is)
  does a asked.ReadNext (done.Bytes bytes) m n (value, rest, after, reads, gives, is) = still m n (ap told is)
  does a asked.ReadNext done.End m n (value, rest, reads, ends, is) = same m n is
  does a asked.EndRead done.Dropped m n (kind, is) = still m n (ap told is)
  does a (asked.Delete name) (done.Deleted sequence) m n deletes = (ap (λ (x : M). x.now) deletes.others, (deletes.sequence_is, tt), ap (λ (x : M). x.acknowledged) deletes.others)
  does a asked.ListNames (done.Listed files) m n (listed, is) = same m n is
  does a (asked.GcStart percent) (done.Started snapshot) m n (none, next, is) = still m n (ap told is)
  does a asked.GcStep (done.Did phase) m n goes = still m n (ap told goes.others)
  does a asked.GcStep (done.Collected freed copied) m n ends = still m n (ap told ends.others)
  does a asked.Stat (done.Counted files segments bytes used free) m n (counts, is) = same m n is
  does a asked.Unique (done.Unique segments bytes) m n (counts, is) = same m n is
  does a step answer m n is = absurd is

  -- ---- refused

  claim : (a : ℕ) (seg : _) (refusal : Refusal) (m n : M) → RefusesClaim v a seg refusal m n → told n ≡ told m
  claim a seg (refusals.Unpinned key) m n (unkept, is) = ap told is
  claim a seg refusals.Memory m n is = ap told is
  claim a seg refusals.DiskRead m n (keeps, is) = ap told is
  claim a seg (refusals.Clash key at) m n (keeps, known, is) = ap told is
  claim a seg (refusals.Corrupt slot offset count want got) m n (keeps, (unknown, is)) = ap told is
  claim a seg refusal m n is = absurd is

  seal : (a : ℕ) (offered : List Contents) (refusal : Refusal) (m n : M) → RefusesSeal v a offered refusal m n → told n ≡ told m
  seal a offered refusals.Memory m n is = ap told is
  seal a offered (refusals.Unpinned key) m n (unkept, is) = ap told is
  seal a offered (refusals.Full free) m n (keeps, free_is, few, is) = ap told is
  seal a offered refusals.Numbers m n (slot, none, is) = ap told is
  seal a offered refusals.DiskRead m n (slot, is) = ap told is
  seal a offered (refusals.Clash key at) m n (slot, known, is) = ap told is
  seal a offered (refusals.Corrupt at offset count want got) m n (slot, (unknown, is)) = ap told is
  seal a offered refusals.DiskWrite m n (slot, fits, is) = ap told is
  seal a offered refusal m n is = absurd is

  commit : (a : ℕ) (name : List ℕ) (value : V) (refusal : Refusal) (m n : M) → RefusesCommit v a name value refusal m n → told n ≡ told m
  commit a name value refusals.Memory m n is = ap told is
  commit a name value refusals.BadName m n (bad, is) = ap told is
  commit a name value refusals.TooMany m n (named, none, many, is) = ap told is
  commit a name value (refusals.Unpinned key) m n (named, room, key_is, unkept, is) = ap told is
  commit a name value refusals.Numbers m n (may, lacks, is) = ap told is
  commit a name value refusals.DiskWrite m n (may, numbers, right, whole, is) = ap told is
  commit a name value refusal m n is = absurd is

  delete : (name : List ℕ) (refusal : Refusal) (m n : M) → RefusesDelete v name refusal m n → told n ≡ told m
  delete name refusals.Memory m n is = ap told is
  delete name refusals.BadName m n (bad, is) = ap told is
  delete name refusals.NoFile m n (named, none, is) = ap told is
  delete name refusals.Numbers m n (named, there, lacks, is) = ap told is
  delete name refusals.DiskWrite m n (named, there, numbers, is) = ap told is
  delete name refusal m n is = absurd is

  gc_step : (refusal : Refusal) (m n : M) → RefusesGcStep v refusal m n → told n ≡ told m
  gc_step refusals.NotCollecting m n (none, is) = ap told is
  gc_step refusals.Memory m n (lacks, is) = ap told is
  gc_step refusals.Numbers m n (flush, last, is) = ap told is
  gc_step refusals.DiskRead m n (phase, is) = ap told is
  gc_step refusals.DiskWrite m n (stores, breaks, is) = ap told is
  gc_step (refusals.Corrupt slot offset count want got) m n (phase, (unknown, is)) = ap told is
  gc_step (refusals.Missing key) m n (phase, (unknown, is)) = ap told is
  gc_step (refusals.Damaged at why) m n (phase, (unknown, is)) = ap told is
  gc_step refusal m n is = absurd is

  unique : (refusal : Refusal) (m n : M) → RefusesUnique v refusal m n → told n ≡ told m
  unique refusals.Memory m n is = ap told is
  unique refusals.DiskRead m n is = ap told is
  unique (refusals.Corrupt slot offset count want got) m n (unknown, is) = ap told is
  unique (refusals.Missing key) m n (unknown, is) = ap told is
  unique (refusals.Damaged at why) m n (unknown, is) = ap told is
  unique refusal m n is = absurd is

  on : (a : ℕ) (step : Asked V) (refusal : Refusal) (m n : M) → RefusesOn v a step refusal m n → told n ≡ told m
  on a (asked.Claim seg) refusal m n is = claim a seg refusal m n is
  on a (asked.Seal offered) refusal m n is = seal a offered refusal m n is
  on a (asked.Commit name value) refusal m n is = commit a name value refusal m n is
  on a (asked.OpenRead name) refusals.Memory m n is = ap told is
  on a (asked.OpenRead name) refusals.BadName m n (bad, is) = ap told is
  on a (asked.OpenRead name) refusals.NoFile m n (named, none, is) = ap told is
  on a asked.ReadNext refusal m n (value, rest, after, reads, stays, is) = ap told is
  on a (asked.Delete name) refusal m n is = delete name refusal m n is
  on a asked.ListNames refusals.Memory m n is = ap told is
  on a (asked.GcStart percent) refusals.Memory m n (none, is) = ap told is
  on a (asked.GcStart percent) (refusals.Missing key) m n (none, (unknown, is)) = ap told is
  on a (asked.GcStart percent) (refusals.Damaged at why) m n (none, (unknown, is)) = ap told is
  on a (asked.GcStart percent) (refusals.Collecting phase) m n (runs, is) = ap told is
  on a asked.GcStep refusal m n is = gc_step refusal m n is
  on a asked.Unique refusal m n is = unique refusal m n is
  on a step refusal m n is = absurd is

  refused : (a : ℕ) (step : Asked V) (refusal : Refusal) (m n : M) → Refuses v a step refusal m n → told n ≡ told m
  refused a step (refusals.WrongPart kind) m n (wrong, is) = ap told is
  refused a step refusals.Memory m n is = on a step refusals.Memory m n is
  refused a step refusal m n (right, is) = on a step refusal m n is

  -- ---- a step

  no_line : (a : ℕ) (step : Asked V) (refusal : Refusal) → line_by a step (Err refusal) ≡ []
  no_line a (asked.Commit name value) refusal = refl
  no_line a (asked.Delete name) refusal = refl
  no_line a step refusal = refl

  unwritten : (a : ℕ) (step : Asked V) (refusal : Refusal) (m n : M) → told n ≡ told m → Wrote (line_by a step (Err refusal)) m n
  unwritten a step refusal m n is = subst (λ (lines : List (Line V)). Wrote lines m n) (sym (no_line a step refusal)) (still m n is)

  answers : (a : ℕ) (step : Asked V) (answer : Result Done Refusal) (m n : M) → Answers v a step answer m n → Wrote (line_by a step answer) m n
  answers a step (Ok answer) m n is = does a step answer m n is
  answers a step (Err refusal) m n is = unwritten a step refusal m n (refused a step refusal m n is)

  by_state : (state : RunState V) (a : ℕ) (step : Asked V) (answer : Result Done Refusal) (m n : M) → ByState v state a step answer m n → Wrote (line_by a step answer) m n
  by_state Running a step answer m n is = answers a step answer m n is
  by_state (Stopped other stores) a step answer m n (answer_is, is) =
      subst (λ (told : Result Done Refusal). Wrote (line_by a step told) m n) (sym answer_is) (unwritten a step (refusals.Stopped m.acknowledged) m n (ap told is))

  stepped : (s : Stepped V) (m n : M) → IsNoOpening s.asked → Legal v s m n → Wrote (line_by s.actor s.asked s.answer) m n
  stepped s m n is legal = by s.asked is legal
    where
      by : (step : Asked V) → IsNoOpening step → Legal v (record { actor = s.actor; asked = step; answer = s.answer }) m n → Wrote (line_by s.actor step s.answer) m n
      by asked.Reopen one legal = absurd one
      by asked.Begin one legal = by_state m.state s.actor asked.Begin s.answer m n legal
      by (asked.Claim seg) one legal = by_state m.state s.actor (asked.Claim seg) s.answer m n legal
      by (asked.Seal offered) one legal = by_state m.state s.actor (asked.Seal offered) s.answer m n legal
      by (asked.Commit name value) one legal = by_state m.state s.actor (asked.Commit name value) s.answer m n legal
      by asked.Abort one legal = by_state m.state s.actor asked.Abort s.answer m n legal
      by (asked.OpenRead name) one legal = by_state m.state s.actor (asked.OpenRead name) s.answer m n legal
      by asked.ReadNext one legal = by_state m.state s.actor asked.ReadNext s.answer m n legal
      by asked.EndRead one legal = by_state m.state s.actor asked.EndRead s.answer m n legal
      by (asked.Delete name) one legal = by_state m.state s.actor (asked.Delete name) s.answer m n legal
      by asked.ListNames one legal = by_state m.state s.actor asked.ListNames s.answer m n legal
      by (asked.GcStart percent) one legal = by_state m.state s.actor (asked.GcStart percent) s.answer m n legal
      by asked.GcStep one legal = by_state m.state s.actor asked.GcStep s.answer m n legal
      by asked.Stat one legal = by_state m.state s.actor asked.Stat s.answer m n legal
      by asked.Unique one legal = by_state m.state s.actor asked.Unique s.answer m n legal

  -- ---- a run

  written_last : (value : Option V) (name : List ℕ) (now : Found V) → (written v value name now).last ≡ suc now.last
  written_last (Some value) name now = refl
  written_last None name now = refl

  replay_append : (xs ys : List (Line V)) (now : Found V) → replay v (xs ++ ys) now ≡ replay v ys (replay v xs now)
  replay_append [] ys now = refl
  replay_append (l ∷ xs) ys now = replay_append xs ys (written v l.value l.name now)

  counts_append : (xs ys : List (Line V)) (now : Found V) → CountsFrom now.last xs → CountsFrom (replay v xs now).last ys → CountsFrom now.last (xs ++ ys)
  counts_append [] ys now first rest = rest
  counts_append (l ∷ xs) ys now (is, first) rest =
      let next : Found V = written v l.value l.name now in
      let last : next.last ≡ l.sequence = written_last l.value l.name now ∙ sym is in
      (is, subst (λ (k : ℕ). CountsFrom k (xs ++ ys)) last (counts_append xs ys next (subst (λ (k : ℕ). CountsFrom k xs) (sym last) first) rest))

  counted_append : (xs ys : List (Line V)) (count : ℕ) → counted (xs ++ ys) count ≡ counted ys (counted xs count)
  counted_append [] ys count = refl
  counted_append (l ∷ xs) ys count = counted_append xs ys (one_more count)

  pub books_replay : BooksReplay v
  books_replay [] m n all is = same m n is
  books_replay (s ∷ ss) m n (one, all) (mid, (legal, run)) =
      let w = stepped s m mid one legal in
      let rest = books_replay ss mid n all run in
      let lines : List (Line V) = line_by s.actor s.asked s.answer in (
        rest.0 ∙ ap (replay v (book_of ss)) w.0 ∙ sym (replay_append lines (book_of ss) m.now),
        counts_append lines (book_of ss) m.now w.1 (subst (λ (now : Found V). CountsFrom now.last (book_of ss)) w.0 rest.1),
        rest.2 ∙ ap (counted (book_of ss)) w.2 ∙ sym (counted_append lines (book_of ss) m.acknowledged),
      )

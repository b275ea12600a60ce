-- Containers that steps of a collection left are byte for byte what they were, by what each step does to the content.
use Rattle.backup_engine.proofs.Prelude.{both_so, ◌≡◌, ◌⊎◌, ◌≢◌, inl, inr, ◌+◌, ◌<◌, ◌≤◌, ℕ, List, [], ◌∷◌, Option, Some, None, Result, Ok, Err, refl, sym, ◌∙◌, ap, subst, arith, slice_get, AllByRecursion, range, HeaderValue, slot_at, SLOT_BYTES, Refusal, DiskWrite, ReplyValue, FreesTo, HasNoGate, with_freed, Encodes, Store, FileMachine, Lines, Replied, RunState, Running, Stepped, of_files, MayStand, store_once, first_free, there_before, of_each}
use Rattle.std.proofs.lemmas.Bool.{cases_lt}
use Rattle.refusals.specs.declared.refusal.Phase.{Phase}
use Rattle.refusals.specs.declared.refusal.Refusal.TheVariants as refusals
use Rattle.script_lines.specs.Grammar.{LineValue}
use Rattle.script_lines.specs.Grammar as lines
use Rattle.script_lines.specs.ReplyValue as replies
use Rattle.gc_steps.proofs.Sparing.{held_within}
use Rattle.store_model.specs.Freeing.{SameButGates}
use Rattle.store_model.proofs.Free.{first_closed}
use Rattle.store_machine.specs.Asked.{Asked}
use Rattle.store_machine.specs.Asked as asked
use Rattle.store_machine.specs.Collected.{HasContainer}
use Rattle.store_machine.specs.Collecting.{GoesOn}
use Rattle.store_machine.specs.Done.{Done}
use Rattle.store_machine.specs.Done as done
use Rattle.store_machine.specs.Legal.{ByState, Does, Legal, LegalBy, RefusesGcStep}
use Rattle.store_machine.specs.Lines.{AreDid, Line, reply_of, step_of}
use Rattle.store_machine.specs.Opening.{Stands}
use Rattle.store_machine.specs.Runs.{Run}
use Rattle.store_machine.proofs.Released.{freed_makes}
use Rattle.store_machine.proofs.Steady.{goes_last, goes_since}
use Rattle.core_machine.specs.Bytes.{BytesOf, SameStore, Sweeps}
use Rattle.script_runner.specs.LinesAreFileRuns.{ChangesContent, FileDesk}
use Rattle.script_runner.specs.LinesAreRuns.{Traced}
use Rattle.backup_engine.proofs.SweptSlots.{none_of_gone}

-- ---- steps

-- a step of a collection, or its beginning, but one of which a write failed
abbrev pub IsGc : Stepped (List ℕ) → Type 0
IsGc s = ((percent : ℕ) × (s.asked ≡ asked.GcStart percent)) ⊎ ((s.asked ≡ asked.GcStep) × (s.answer ≡ Err refusals.DiskWrite → ⊥))

-- What a slot has then is what it had, byte for byte, or came since, under an id above all of before.
abbrev pub KeepsSlots : FileMachine → FileMachine → List ℕ → List ℕ → Type 0
KeepsSlots m n old new = (slot : ℕ) (h : HeaderValue) → HasContainer n.store slot h
    → (HasContainer m.store slot h × (range (slot_at slot) SLOT_BYTES new ≡ range (slot_at slot) SLOT_BYTES old)) ⊎ (m.last_id < h.id)

record StepKeeps (m n : FileMachine) (old new : List ℕ) : Type 0 where
  runs : n.state ≡ Running
  last : m.last_id ≤ n.last_id
  slots : KeepsSlots m n old new

module _ (a : ℕ) (m n : FileMachine) (runs : m.state ≡ Running) (old new : List ℕ) (right : Encodes old m.store) where
  stays : n.state ≡ m.state → n.last_id ≡ m.last_id → n.store ≡ m.store → new ≡ old → StepKeeps m n old new
  stays state last store same = record {
    runs = state ∙ runs;
    last = omega (arith, last);
    slots = λ slot h has. inl (subst (λ (s : Store). HasContainer s slot h) store has, ap (range (slot_at slot) SLOT_BYTES) same);
  }

  within : (slot : ℕ) (h : HeaderValue) → HasContainer m.store slot h → (store : Store) → Encodes old store → slot < store.slots
  within slot h has store is =
      let same : m.store ≡ store = store_once old m.store store right is in
      omega (arith, held_within m.store.held slot h has, right.many, ap (λ (s : Store). s.slots) same)

  same_slot : SameStore old new → (slot : ℕ) (h : HeaderValue) → HasContainer m.store slot h → range (slot_at slot) SLOT_BYTES new ≡ range (slot_at slot) SLOT_BYTES old
  same_slot (store, (is, but)) slot h has = but.slots_are slot (within slot h has store is) (λ none. none)

  refused_same : n ≡ m → SameStore old new → StepKeeps m n old new
  refused_same same bytes = record {
    runs = ap (λ (x : FileMachine). x.state) same ∙ runs;
    last = omega (arith, ap (λ (x : FileMachine). x.last_id) same);
    slots = λ slot h has.
        let was = subst (λ (x : FileMachine). HasContainer x.store slot h) same has in
        inl (was, same_slot bytes slot h was);
  }

  refused_none : n ≡ m → new ≡ old → StepKeeps m n old new
  refused_none same bytes = stays (ap (λ (x : FileMachine). x.state) same) (ap (λ (x : FileMachine). x.last_id) same) (ap (λ (x : FileMachine). x.store) same) bytes

  swept_slot : Sweeps m n old new → (slot : ℕ) (h : HeaderValue) → HasContainer m.store slot h → HasContainer n.store slot h
      → range (slot_at slot) SLOT_BYTES new ≡ range (slot_at slot) SLOT_BYTES old
  swept_slot (inl (unchanged, bytes)) slot h was has = same_slot bytes slot h was
  swept_slot (inr (inl (id, (filled, (is, (store, (encodes, but)), held, held_now))))) slot h was has =
      but.slots_are slot (within slot h was store encodes) (λ free.
      let same : m.store ≡ store = store_once old m.store store right encodes in
      let here : slot ≡ first_free m.store.held = free ∙ ap (λ (s : Store). first_free s.held) (sym same) in
      let closed = first_closed m.store.held (omega (arith, held_within m.store.held slot h was, here)) in
      (let wrong : Some None ≡ Some (Some h) = sym closed ∙ subst (λ (k : ℕ). slice_get m.store.held k ≡ Some (Some h)) here was in absurd cc))
  swept_slot (inr (inr (gone, (makes, (store, (encodes, but)))))) slot h was has =
      let is = freed_makes gone m.store n.store makes in
      but.rest.slots_are slot (within slot h was store encodes)
      (λ one. of_each (λ freed. freed ≢ slot) gone slot (none_of_gone gone slot h m.store (subst (λ (s : Store). HasContainer s slot h) is has)) one refl)

  goes_keeps : (phase : Phase) → GoesOn of_files phase m n → Sweeps m n old new → StepKeeps m n old new
  goes_keeps phase goes bytes = record {
    runs = ap (λ (x : FileMachine). x.state) goes.others ∙ runs;
    last = goes_last of_files phase m n goes;
    slots = λ slot h has. elim (goes_since of_files phase m n goes slot h has) [
      | inl was ↦ inl (was, swept_slot bytes slot h was has)
      | inr above ↦ inr above
    ];
  }

  done_keeps : (answer : Done) → Does of_files a asked.GcStep answer m n → BytesOf asked.GcStep (Ok answer) m n old new → StepKeeps m n old new
  done_keeps (done.Did phase) goes bytes = goes_keeps phase goes bytes
  done_keeps (done.Collected freed copied) ends bytes =
      stays (ap (λ (x : FileMachine). x.state) ends.others) (ap (λ (x : FileMachine). x.last_id) ends.others) (ap (λ (x : FileMachine). x.store) ends.others) bytes
  done_keeps answer does bytes = absurd does

  refuses_keeps : (refusal : Refusal) → (refusal ≡ refusals.DiskWrite → ⊥) → RefusesGcStep of_files refusal m n → BytesOf asked.GcStep (Err refusal) m n old new
      → StepKeeps m n old new
  refuses_keeps refusals.NotCollecting other (none, same) bytes = refused_none same bytes
  refuses_keeps refusals.Memory other (lack, same) bytes = refused_same same bytes
  refuses_keeps refusals.Numbers other (flush, last, same) bytes = refused_same same bytes
  refuses_keeps refusals.DiskRead other (at, same) bytes = refused_same same bytes
  refuses_keeps refusals.DiskWrite other refuses bytes = absurd (other refl)
  refuses_keeps (refusals.Corrupt slot offset count want got) other (at, (unknown, same)) bytes = absurd (unknown tt)
  refuses_keeps (refusals.Missing key) other (at, (unknown, same)) bytes = absurd (unknown tt)
  refuses_keeps (refusals.Damaged byte why) other (at, (unknown, same)) bytes = absurd (unknown tt)
  refuses_keeps refusal other refuses bytes = absurd refuses

  step_keeps : (answer : Result Done Refusal) → (answer ≡ Err refusals.DiskWrite → ⊥) → ByState of_files Running a asked.GcStep answer m n
      → BytesOf asked.GcStep answer m n old new → StepKeeps m n old new
  step_keeps (Ok answer) other does bytes = done_keeps answer does bytes
  step_keeps (Err (refusals.WrongPart kind)) other ((kind_is, (taken, by, differ)), same) bytes = absurd (let wrong : None ≡ Some taken = by in cc)
  step_keeps (Err refusals.Memory) other refuses bytes = refuses_keeps refusals.Memory (λ is. other (ap Err is)) refuses bytes
  step_keeps (Err refusal) other (right_part, refuses) bytes = refuses_keeps refusal (λ is. other (ap Err is)) refuses bytes

  start_keeps : (percent : ℕ) (answer : Result Done Refusal) → ByState of_files Running a (asked.GcStart percent) answer m n
      → BytesOf (asked.GcStart percent) answer m n old new → StepKeeps m n old new
  start_keeps percent (Ok (done.Started snapshot)) (none, snapshot_is, others) bytes =
      stays (ap (λ (x : FileMachine). x.state) others) (ap (λ (x : FileMachine). x.last_id) others) (ap (λ (x : FileMachine). x.store) others) bytes
  start_keeps percent (Ok answer) does bytes = absurd does
  start_keeps percent (Err (refusals.WrongPart kind)) ((kind_is, (taken, by, differ)), same) bytes = absurd (let wrong : None ≡ Some taken = by in cc)
  start_keeps percent (Err refusals.Memory) (none, same) bytes = refused_none same bytes
  start_keeps percent (Err (refusals.Collecting phase)) (right_part, (at, same)) bytes = refused_none same bytes
  start_keeps percent (Err (refusals.Missing key)) (right_part, (at, (unknown, same))) bytes = absurd (unknown tt)
  start_keeps percent (Err (refusals.Damaged byte why)) (right_part, (at, (unknown, same))) bytes = absurd (unknown tt)
  start_keeps percent (Err refusal) (right_part, refuses) bytes = absurd refuses

-- ---- one after the other

pub record RunKeeps (m n : FileMachine) (old : List ℕ) (now : Option (List ℕ)) : Type 0 where
  pub runs : n.state ≡ Running
  pub last : m.last_id ≤ n.last_id
  pub new : List ℕ
  pub known : now ≡ Some new
  pub right : Encodes new n.store
  pub slots : KeepsSlots m n old new

one_content : (a b : List ℕ) → Some a ≡ Some b → a ≡ b
one_content a b is = cc

module _ (S : List ℕ → Type 0) where
  -- a content that may stand for a machine that runs is its store
  pub stands_right : (m : FileMachine) (content : List ℕ) → m.state ≡ Running → MayStand S m content → Encodes content m.store
  stands_right m content runs may =
      let same : may.store ≡ m.store = subst (λ (state : RunState (List ℕ)). Stands of_files state m.store may.store) runs may.stands in
      subst (Encodes content) same may.is.holds.right

  one_keeps : (s : Stepped (List ℕ)) (m n : FileMachine) → Legal of_files s m n → IsGc s → m.state ≡ Running → (old : List ℕ) (was now : Option (List ℕ)) → was ≡ Some old
      → Encodes old m.store → ChangesContent S s m n was now → RunKeeps m n old now
  one_keeps s m n legal gc runs old was now known right (bytes, stands) =
      let one = bytes old known in
      let same : stands.0 ≡ one.0 = one_content stands.0 one.0 (sym stands.1 ∙ one.1) in
      let kept : StepKeeps m n old one.0 = by one.0 gc one.2 in
      record {
        runs = kept.runs;
        last = kept.last;
        new = one.0;
        known = one.1;
        right = stands_right n one.0 kept.runs (subst (MayStand S n) same stands.2);
        slots = kept.slots;
      }
    where
      by : (new : List ℕ) → IsGc s → BytesOf s.asked s.answer m n old new → StepKeeps m n old new
      by new (inl (percent, is)) did =
          start_keeps s.actor m n runs old new right percent s.answer
          (subst (λ (state : RunState (List ℕ)). ByState of_files state s.actor (asked.GcStart percent) s.answer m n) runs
          (subst (λ (what : Asked (List ℕ)). LegalBy of_files what s.actor s.answer m n) is legal))
          (subst (λ (what : Asked (List ℕ)). BytesOf what s.answer m n old new) is did)
      by new (inr (is, other)) did =
          step_keeps s.actor m n runs old new right s.answer other
          (subst (λ (state : RunState (List ℕ)). ByState of_files state s.actor asked.GcStep s.answer m n) runs
          (subst (λ (what : Asked (List ℕ)). LegalBy of_files what s.actor s.answer m n) is legal))
          (subst (λ (what : Asked (List ℕ)). BytesOf what s.answer m n old new) is did)

  pub run_keeps : (ss : List (Stepped (List ℕ))) (m n : FileMachine) (run : Run of_files ss m n) → AllByRecursion IsGc ss → m.state ≡ Running → (old : List ℕ)
      (was now : Option (List ℕ)) → was ≡ Some old → Encodes old m.store → Traced of_files (ChangesContent S) ss m n run was now → RunKeeps m n old now
  run_keeps [] m n run gc runs old was now known right traced = record {
    runs = ap (λ (x : FileMachine). x.state) run ∙ runs;
    last = omega (arith, ap (λ (x : FileMachine). x.last_id) run);
    new = old;
    known = traced ∙ known;
    right = subst (λ (x : FileMachine). Encodes old x.store) (sym run) right;
    slots = λ slot h has. inl (subst (λ (x : FileMachine). HasContainer x.store slot h) run has, refl);
  }
  run_keeps (s ∷ ss) m n (mid, (legal, run)) gc runs old was now known right (between, (changes, rest)) =
      let first : RunKeeps m mid old between = one_keeps s m mid legal gc.0 runs old was between known right changes in
      let more : RunKeeps mid n first.new now = run_keeps ss mid n run gc.1 first.runs first.new between now first.known first.right rest in
      record {
        runs = more.runs;
        last = omega (arith, first.last, more.last);
        new = more.new;
        known = more.known;
        right = more.right;
        slots = λ slot h has. elim (more.slots slot h has) [
          | inr above ↦ inr (omega (arith, above, first.last))
          | inl here ↦ elim (first.slots slot h here.0) [
            | inr above ↦ inr above
            | inl was ↦ inl (was.0, here.1 ∙ was.1)
          ]
        ];
      }

-- ---- lines

-- a line that begins a collection, or sweeps, and of which no write failed
abbrev pub IsGcLine : Replied → Type 0
IsGcLine one = (((percent : ℕ) × (one.line ≡ lines.Gc percent)) ⊎ (one.line ≡ lines.Sweep)) × (one.reply ≡ replies.Refused refusals.DiskWrite → ⊥)

did_gc : (made : List (Stepped (List ℕ))) → AreDid of_files made → AllByRecursion IsGc made
did_gc [] did = tt
did_gc (x ∷ xs) (is, (phase, answer), more) =
    (inr (is, (λ wrong. let no : Ok (done.Did phase) ≡ Err refusals.DiskWrite = sym answer ∙ wrong in cc)), did_gc xs more)

gc_line : (percent : ℕ) (reply : ReplyValue) (ss : List (Stepped (List ℕ))) (d e : FileDesk) → Line of_files (lines.Gc percent) reply ss d e → AllByRecursion IsGc ss
gc_line percent reply ss d e (run, inl (admits, (a, step, step_is, (told, is, reply_is), sessions))) = subst (AllByRecursion IsGc) (sym is) (inl (percent, step_is), tt)
gc_line percent reply ss d e (run, inr (refusal, bars, is, none, sessions)) = subst (AllByRecursion IsGc) (sym none) tt

sweep_line : (reply : ReplyValue) (ss : List (Stepped (List ℕ))) (d e : FileDesk) → Line of_files lines.Sweep reply ss d e → (reply ≡ replies.Refused refusals.DiskWrite → ⊥)
    → AllByRecursion IsGc ss
sweep_line reply ss d e (run, inl (admits, (made, a, did, (told, is, reply_is), last, sessions))) whole =
    subst (AllByRecursion IsGc) (sym is)
    (both_so IsGc made (step_of of_files a asked.GcStep told ∷ []) (did_gc made did) (inr (refl, (λ wrong. whole (reply_is ∙ ap (reply_of a) wrong))), tt))
sweep_line reply ss d e (run, inr (refusal, bars, is, none, sessions)) whole = subst (AllByRecursion IsGc) (sym none) tt

one_line : (line : LineValue) (reply : ReplyValue) (ss : List (Stepped (List ℕ))) (d e : FileDesk) → Line of_files line reply ss d e
    → ((percent : ℕ) × (line ≡ lines.Gc percent)) ⊎ (line ≡ lines.Sweep) → (reply ≡ replies.Refused refusals.DiskWrite → ⊥) → AllByRecursion IsGc ss
one_line line reply ss d e ran (inl (percent, is)) whole = gc_line percent reply ss d e (subst (λ (l : LineValue). Line of_files l reply ss d e) is ran)
one_line line reply ss d e ran (inr is) whole = sweep_line reply ss d e (subst (λ (l : LineValue). Line of_files l reply ss d e) is ran) whole

pub all_gc : (rs : List Replied) (ss : List (Stepped (List ℕ))) (d e : FileDesk) → Lines of_files rs ss d e → AllByRecursion IsGcLine rs → AllByRecursion IsGc ss
all_gc [] ss d e ran all = subst (AllByRecursion IsGc) (sym ran.0) tt
all_gc (one ∷ more) ss d e ran all =
    subst (AllByRecursion IsGc) (sym ran.3)
    (both_so IsGc ran.0 ran.1 (one_line one.line one.reply ran.0 d ran.2 ran.4 all.0.0 all.0.1) (all_gc more ran.1 ran.2 e ran.5 all.1))

-- ---- an opening

module _ (P : List ℕ → Type 0) where
  -- what is there once room was made was there before
  pub before_room : (slots : List ℕ) (s t : Store) → FreesTo P slots s t → (slot : ℕ) (h : HeaderValue) → HasContainer t slot h → HasContainer s slot h
  before_room [] s t frees slot h has = subst (λ (x : Store). HasContainer x slot h) frees.0 has
  before_room (a ∷ rest) s t frees slot h has = (there_before a slot h s.held (before_room rest (with_freed a s) t frees.2 slot h has)).1

  apart_from : (slot a : ℕ) → a ≢ slot → (slot_at slot + SLOT_BYTES ≤ slot_at a) ⊎ (slot_at a < slot_at slot)
  apart_from slot a differ = elim (cases_lt slot a) [
    | inl below ↦ inl (omega (arith, below))
    | inr above ↦ elim (cases_lt a slot) [
      | inl less ↦ inr (omega (arith, less))
      | inr more ↦ absurd (differ (omega (arith, above, more)))
    ]
  ]

  -- and its slot has no gate that was closed
  no_gate : (slots : List ℕ) (s t : Store) → FreesTo P slots s t → (slot : ℕ) (h : HeaderValue) → HasContainer t slot h → HasNoGate slots (slot_at slot) SLOT_BYTES
  no_gate [] s t frees slot h has = tt
  no_gate (a ∷ rest) s t frees slot h has = (
    apart_from slot a (there_before a slot h s.held (before_room rest (with_freed a s) t frees.2 slot h has)).0,
    no_gate rest (with_freed a s) t frees.2 slot h has,
  )

  pub room_keeps : (slots : List ℕ) (s t : Store) → FreesTo P slots s t → (old new : List ℕ) → SameButGates slots old new → (slot : ℕ) (h : HeaderValue) → HasContainer t slot h
      → range (slot_at slot) SLOT_BYTES new ≡ range (slot_at slot) SLOT_BYTES old
  room_keeps slots s t frees old new same slot h has = same.same (slot_at slot) SLOT_BYTES (no_gate slots s t frees slot h has)

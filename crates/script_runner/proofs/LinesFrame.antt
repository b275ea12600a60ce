-- Lines one after the other keep what was written before them.
use Rattle.script_runner.proofs.Prelude.{both_so, ◌≡◌, ◌≢◌, inl, inr, ℕ, ◌+◌, ◌≤◌, true, List, [], ◌∷◌, ◌++◌, Some, refl, sym, ◌∙◌, subst, arith, half_cells, KnownWith, Shows, CrashLeaves, DiskView, OnlyReads, leaves_on, leaves_weaker, reads_here, reads_leave, IsShort, Refusal, LineValue, ReplyValue, Store, Encodes, KeepsContainers, commands_in, IsReadFrom, OpensCore, CoreRun, AreNoGcSteps, IsNoGcStep, CoreState, Event, Replied, ends, ActsReopen, RefusesReopen, RunnerState, RunsLine, IsNoSweep, commands_of_line, RunsLines}
use Rattle.dd_disk.specs.Ending.{Done, Reads}
use Rattle.dd_disk.specs.View.{IsDurable}
use Rattle.dd_disk.proofs.Shows.{shown_content}
use Rattle.actor_parts.specs.StepValue as asked
use Rattle.script_lines.specs.Grammar as lines
use Rattle.script_lines.specs.ReplyValue as replies
use Rattle.store_model.specs.Image.{IsValidFor}
use Rattle.store_model.specs.Slots.{free_slots}
use Rattle.store_model.specs.Steps.{HasCellsFor}
use Rattle.disk_format.specs.declared.numbers.TheConstants.{RESERVE}
use Rattle.store_core.specs.Frame.{HadContainer, HasReserveIn, IsOn, KeepsBytes}
use Rattle.store_core.specs.Opening.{IsNew}
use Rattle.store_core.proofs.CoreRuns.{run_later}
use Rattle.store_core.proofs.Frames.{written_stays}
use Rattle.store_core.proofs.Reserves.{reserve_stays}
use Rattle.store_core.proofs.Opened.{durable_settled}
use Rattle.script_runner.specs.Acts.{counted}
use Rattle.script_runner.specs.Frame.{IsOnContent, LinesKeepWritten, NeedNoCheckpoint, NeverReopens, NeverSweeps, OpenedIsOn, commands_among}
use Rattle.script_runner.proofs.LaterStores.{keeps_on}
use Rattle.script_runner.proofs.LineSteps.{MakesSteps, commands-append, does, line_steps, run_on}

-- ---- a core that was opened

opened_by : (content : List ℕ) (v : DiskView) (c : CoreState) → IsNew (Shows v c.disk) v.size c → IsDurable c.disk → Reads Done v c.disk → v.content ≡ Some content →
    IsOnContent content c
opened_by content v c new durable reads told = record {
  store = new.store;
  encodes = shown_content v c.disk (λ image. Encodes image new.store) content new.right told;
  on = record {
    represents = new.represents;
    valid = subst (λ (size : ℕ). IsValidFor size new.store) (sym reads.only.later.size_is) new.valid;
    has_free = omega (arith, new.reserve);
    settled = durable_settled c.tables.slots c.disk durable;
  };
  reserve = new.reserve;
  told = reads.only.content_is ∙ told;
}

pub opened_is_on : (D : Type 0) (view : D → DiskView) (C : Type 0) (state : C → CoreState) → OpenedIsOn D view C state
opened_is_on D view C state content before c new durable reads told = opened_by content (view before) (state c) new durable reads told

-- ---- what stays

abbrev Kept : Store → Type 0 → List ℕ → List ℕ → Type 0
Kept s Also = KeepsBytes s half_cells Also (HadContainer s)

kept_where : (s : Store) (Also Less : Type 0) (base c : List ℕ) → (Less → Also) → Kept s Also base c → Kept s Less base c
kept_where s Also Less base c less kept = record { size_is = kept.size_is; format = kept.format; journal = λ so. kept.journal (less so); slots = kept.slots }

-- ---- what was written

module _ (C : Type 0) (state : C → CoreState) where
  -- in what reads give, and in what a crash leaves; the journal, where this is so
  abbrev Keeps : Store → Type 0 → List ℕ → C → C → Type 0
  Keeps s Also base old new = KnownWith (state new).disk.content (Kept s Also base) × CrashLeaves (Kept s Also base) (state old).disk (state new).disk

  keeps_where : (s : Store) (Also Less : Type 0) (base : List ℕ) (old new : C) → (Less → Also) → Keeps s Also base old new → Keeps s Less base old new
  keeps_where s Also Less base old new less keeps = (
    (keeps.0.0, keeps.0.1, kept_where s Also Less base keeps.0.0 less keeps.0.2),
    leaves_weaker (Kept s Also base) (Kept s Less base) (state old).disk (state new).disk (λ c kept. kept_where s Also Less base c less kept) keeps.1,
  )

  -- the steps made so far and these lines need no checkpoint
  abbrev Needs : List Event → List Replied → Store → Type 0
  Needs events rs s = NeverReopens rs × HasCellsFor s (commands_in events + commands_among rs)

  -- Wherever steps have led to this core from, what was written there stays in that one, to which these lines lead.
  abbrev KeepsFrom : List Replied → C → C → Type 0
  KeepsFrom rs here new = (events : List Event) (s : Store) (base : List ℕ) (old : C) → IsOn s (state old) → (state old).disk.content ≡ Some base → Encodes base s →
      RESERVE ≤ free_slots s.held → CoreRun C state events old here → AreNoGcSteps events
      → Keeps s (Needs events rs s) base old new

  -- no lines
  steps_keep : (here : C) → KeepsFrom [] here here
  steps_keep here events s base old on told encodes enough run others =
      keeps_where s (HasCellsFor s (commands_in events)) (Needs events [] s) base old here (λ needs. omega (arith, needs.1))
      (written_stays C state events s base old here on told run others)

  -- steps, and what follows
  after_steps : (n : ℕ) (rs more : List Replied) (here next new : C) → n + commands_among more ≤ commands_among rs → (NeverReopens rs → NeverReopens more) →
      MakesSteps C state n here next → KeepsFrom more next new
      → KeepsFrom rs here new
  after_steps n rs more here next new few fewer makes rest events s base old on told encodes enough run others =
      keeps_where s (Needs (events ++ makes.0) more s) (Needs events rs s) base old new
      (λ needs. (fewer needs.0, omega (arith, needs.1, few, makes.1.1, commands-append events makes.0)))
      (rest (events ++ makes.0) s base old on told encodes enough (run_on C state events makes.0 old here next run makes.1.0)
      (both_so (λ e. IsNoGcStep e.step) events makes.0 others makes.1.2))

  -- where nothing but reads follows
  after_reads : (rs : List Replied) (here new : C) → OnlyReads (state here).disk (state new).disk → KeepsFrom rs here new
  after_reads rs here new reads events s base old on told encodes enough run others =
      let Also : Type 0 = HasCellsFor s (commands_in events) in
      let first = written_stays C state events s base old here on told run others in
      let later = run_later C state events old here run in
      keeps_where s Also (Needs events rs s) base old new (λ needs. omega (arith, needs.1)) (
        (first.0.0, reads.content_is ∙ first.0.1, first.0.2),
        leaves_on (Kept s Also base) (Kept s Also base) (Kept s Also base) (state old).disk (state here).disk (state new).disk later.clock_is first.1
            (reads_leave (Kept s Also base) (state here).disk (state new).disk first.1.now reads) (λ c keeps. keeps) (λ c keeps. keeps),
      )

  -- an opening, and what follows: of the journal nothing is said
  after_opening : (rs more : List Replied) (here mid new : C) → (NeverReopens rs → ⊥) → IsNew (Shows (state here).disk (state mid).disk) (state here).disk.size (state mid) →
      IsDurable (state mid).disk
      → Reads Done (state here).disk (state mid).disk → KeepsFrom more mid new → KeepsFrom rs here new
  after_opening rs more here mid new again opened durable reads rest events s base old on told encodes enough run others =
      let first = keeps_where s (HasCellsFor s (commands_in events)) ⊥ base old here (λ none. absurd none) (written_stays C state events s base old here on told run others) in
      let later = run_later C state events old here run in
      let image : List ℕ = first.0.0 in
      let there = opened_by image (state here).disk (state mid) opened durable reads first.0.1 in
      let last = keeps_where there.store (Needs [] more there.store) ⊥ image mid new (λ none. absurd none)
      (rest [] there.store image mid there.on there.told there.encodes there.reserve refl tt) in
      let weaker = keeps_on s there.store base image first.0.2 encodes there.encodes in
      let after = leaves_weaker (KeepsContainers there.store image) (KeepsContainers s base) (state mid).disk (state new).disk weaker last.1 in
      let between = reads_leave (KeepsContainers s base) (state here).disk (state mid).disk first.1.now reads.only in
      let on_from = leaves_on (KeepsContainers s base) (KeepsContainers s base) (KeepsContainers s base) (state here).disk (state mid).disk (state new).disk
      reads.only.later.clock_is between after
      (λ c keeps. keeps) (λ c keeps. keeps) in
      keeps_where s ⊥ (Needs events rs s) base old new (λ needs. again needs.0) (
        (last.0.0, last.0.1, weaker last.0.0 last.0.2),
        leaves_on (KeepsContainers s base) (KeepsContainers s base) (KeepsContainers s base) (state old).disk (state here).disk (state new).disk later.clock_is first.1 on_from
            (λ c keeps. keeps) (λ c keeps. keeps),
      )

  -- ---- lines

  -- two slots are closed, so no room is made
  no_room : (image : List ℕ) (v w : DiskView) → v.content ≡ Some image → HasReserveIn image → IsShort (Shows v w) v.size → ⊥
  no_room image v w told has short = let enough = has short.store (shown_content v w (λ bytes. Encodes bytes short.store) image short.right told) in omega
      (arith, enough, short.few)

  abbrev disk_of : C → DiskView
  disk_of c = (state c).disk

  -- so it was read
  was_read : (image : List ℕ) (v : DiskView) (c : C) → v.content ≡ Some image → HasReserveIn image → OpensCore C disk_of v (state c) → IsReadFrom v (state c)
  was_read image v c told has (inl read) = read
  was_read image v c told has (inr (x, (room, read))) = absurd (no_room image v (disk_of x) told has room.short)

  -- or only that
  refused_reads : (refusal : Refusal) (image : List ℕ) (old new : C) → (state old).disk.content ≡ Some image → HasReserveIn image → RefusesReopen C state refusal old new →
      OnlyReads (state old).disk (state new).disk
  refused_reads refusal image old new told has refuses = elim refuses.why [
    | inl memory ↦ subst (λ (c : C). OnlyReads (state old).disk (state c).disk) (sym memory.1) (reads_here (state old).disk)
    | inr (none, inl (kept, reads)) ↦ reads.only
    | inr (none, inr stops) ↦ elim stops.wrote [
      | inl (x, (room, unread)) ↦ absurd (no_room image (state old).disk (disk_of x) told has room.short)
      | inr (is, unmade) ↦ absurd (no_room image (state old).disk (state new).disk told has unmade.short)
    ]
  ]

  after_reopen : (reply : ReplyValue) (rs more : List Replied) (r mid t : RunnerState C) → (NeverReopens rs → ⊥) → (ends lines.Reopen reply ≡ true → more ≡ []) →
      ActsReopen C state reply r mid
      → RunsLines C state more mid t → KeepsFrom more mid.core t.core → KeepsFrom rs r.core t.core
  after_reopen (replies.Opened files) rs more r mid t again last acts runs rest events s base old on told encodes enough run others =
      let here = reserve_stays C state events s base old r.core on told encodes enough run others in
      let read = was_read here.0 (state r.core).disk acts.mid here.1 here.2 acts.opened in
      after_opening rs more r.core acts.mid t.core again read.opened read.durable read.reads
      (after_steps 0 more more acts.mid mid.core t.core (omega arith) (λ never. never)
      (does C state 0 0 asked.Stat (counted acts.holdings) acts.mid mid.core tt (omega arith) acts.counts) rest)
      events s base old on told encodes enough run others
  after_reopen (replies.Refused refusal) rs more r mid t again last acts runs rest events s base old on told encodes enough run others =
      let here = reserve_stays C state events s base old r.core on told encodes enough run others in
      let none : t ≡ mid = subst (λ (rs : List Replied). RunsLines C state rs mid t) (last refl) runs in
      subst (λ (x : RunnerState C). KeepsFrom rs r.core x.core) (sym none)
      (after_reads rs r.core mid.core (refused_reads refusal here.0 r.core mid.core here.1 here.2 acts.0)) events s base old on told encodes enough run others
  after_reopen reply rs more r mid t again last acts runs rest events s base old on told encodes enough run others = absurd acts

  after_line : (line : LineValue) (reply : ReplyValue) (rs more : List Replied) (r mid t : RunnerState C) → (NeverReopens rs → (line ≢ lines.Reopen) × NeverReopens more)
      → commands_of_line line + commands_among more ≤ commands_among rs → (ends line reply ≡ true → more ≡ []) → IsNoSweep line → RunsLine C state line reply r mid →
      RunsLines C state more mid t
      → KeepsFrom more mid.core t.core → KeepsFrom rs r.core t.core
  after_line lines.Reopen reply rs more r mid t never few last unswept line runs rest = after_reopen reply rs more r mid t (λ none. (never none).0 refl) last line runs rest
  after_line line reply rs more r mid t never few last unswept made runs rest =
      after_steps (commands_of_line line) rs more r.core mid.core t.core few (λ none. (never none).1) (line_steps C state line reply r mid (λ same. cc) unswept made) rest

  all : (rs : List Replied) (r t : RunnerState C) → NeverSweeps rs → RunsLines C state rs r t → KeepsFrom rs r.core t.core
  all [] r t unswept runs = subst (λ (x : RunnerState C). KeepsFrom [] r.core x.core) (sym runs) (steps_keep r.core)
  all (one ∷ more) r t unswept runs =
      let mid : RunnerState C = runs.1.0 in
      after_line one.line one.reply (one ∷ more) more r mid t (λ never. never) (omega arith) runs.0 unswept.0 runs.1.1.0 runs.1.1.1 (all more mid t unswept.1 runs.1.1.1)

  pub lines_keep : LinesKeepWritten C state
  lines_keep rs s base r t unswept on told encodes enough runs =
      keeps_where s (Needs [] rs s) (NeedNoCheckpoint rs s) base r.core t.core (λ needs. (needs.0, omega (arith, needs.1)))
      (all rs r t unswept runs [] s base r.core on told encodes enough refl tt)

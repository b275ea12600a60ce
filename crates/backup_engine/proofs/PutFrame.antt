-- What `ingest` never changes, whatever the disk holds.
use Rattle.backup_engine.proofs.Prelude.{◌≡◌, ◌⊎◌, inl, inr, ℕ, ◌≤◌, ◌+◌, List, [], ◌∷◌, length, Option, Some, Result, Ok, Err, sym, ◌∙◌, ap, subst, arith, AllByRecursion, KnownWith, RESERVE, Root, Put, DiskView, OnlyReads, CrashLeaves, SteppedFrom, StandsFor, reads_here, leaves_on, leaves_weaker, stands_weaker, Answer, StepValue, Refusal, DiskRead, DiskWrite, Refused, Store, Encodes, free_slots, HasJournal, with_change, root_of, has_journal, has_kept, ChangesBytes, StandsStill, CoreStep, Effect, NamesOne, CoreRun, FileEvent, events_of, CoreState, MayChange, IsAskedFor, IsNoCommit, IsOk, IsLastPut, seal_by}
use Rattle.std.proofs.Common.{take}
use Rattle.dd_disk.proofs.Later.{reads_leave}
use Rattle.container_meta.specs.Segments.{Contents}
use Rattle.actor_parts.specs.StepValue as asked
use Rattle.reply_text.specs.declared.ending.Ending.{Ending}
use Rattle.actor_parts.specs.Offers.{sealed_of}
use Rattle.ingest_steps.specs.Offering.{offer_in}
use Rattle.ingest_steps.specs.SealingAll.{ChangesSlotsAlone, SameButSlotsOf, slots_of}
use Rattle.store_state.specs.Settled.{IsSettled}
use Rattle.store_core.proofs.Stepping.{effect_later}
use Rattle.store_core.specs.Core.{SealsSome}
use Rattle.backup_engine.specs.Frame.{KeepsOpen}
use Rattle.backup_engine.proofs.KeptBytes.{IsFreeIn, KeepsSlots, free_sealed, free_are_shut, slots_settled, slots_sealed, journal_later, still_first, change_first, open_kept, open_next}
use Rattle.backup_engine.proofs.PutChanges.{IsOn, IsPutLast, IsStepRefused, IsWayStep, last_is, way_step, running_step}

-- ---- one step

-- at the end, and in each image from the start on, of this P
pub record Leaves (P : List ℕ → Type 0) (old new : DiskView) : Type 0 where
  pub content : KnownWith new.content P
  pub images : CrashLeaves P old new

-- the disk of a core that is on a store: all is as in the base but what the store leaves free there
pub record IsHeldBy (first : Store) (base : List ℕ) (store : Store) (v : DiskView) : Type 0 where
  pub free : IsFreeIn first base store
  pub content : KnownWith v.content (KeepsSlots first.slots base)
  pub settled : IsSettled first.slots v

module _ (first : Store) (base : List ℕ) (t : Store) (old new : CoreState) (on : IsOn t old) (held : IsHeldBy first base t old.disk) where
  abbrev slots : ℕ
  slots = first.slots

  abbrev given : List ℕ
  given = held.content.0

  abbrev known : old.disk.content ≡ Some given
  known = held.content.1

  abbrev keeps : KeepsSlots slots base given
  keeps = held.content.2

  abbrev Slots : List ℕ → Type 0
  Slots = KeepsSlots slots base

  image_keeps : (c : List ℕ) → old.disk.images c → KeepsSlots slots base c
  image_keeps c image = slots_settled slots base given keeps c (held.settled given known c image)

  -- nothing was written
  by_reads : OnlyReads old.disk new.disk → Leaves Slots old.disk new.disk
  by_reads reads = record { content = (given, reads.content_is ∙ known, keeps); images = reads_leave Slots old.disk new.disk image_keeps reads }

  still_settled : OnlyReads old.disk new.disk → IsSettled slots new.disk
  still_settled reads bytes is c image = held.settled bytes (sym reads.content_is ∙ is) c (reads.images_are c image)

  tables_slots : old.tables.slots ≡ slots
  tables_slots = on.represents.slots_are ∙ held.free.slots_are

  -- containers were written, or in part
  by_seal : (offered : List Contents) (answer : Result Answer Refusal) → SealsSome offered answer old new → Leaves Slots old.disk new.disk
  by_seal offered answer effect =
      let taken = slots_of (offer_in old.tables offered t) in
      let frame : ChangesSlotsAlone slots taken old.disk new.disk =
      subst (λ (n : ℕ). ChangesSlotsAlone n taken old.disk new.disk) tables_slots (effect.moves.frame.store_has t on.represents on.valid on.has_free) in
      let shut = free_are_shut first base t held.free (old.tables.held.last_id + 1)
      (take (sealed_of (length offered) (free_slots t.held) old.tables.held.last_id) offered) in
      let left = frame.settled held.settled given known in
      let each = λ (c : List ℕ) (same : SameButSlotsOf slots taken given c). slots_sealed slots base given keeps taken c shut same in
      record {
        content = (left.0.0, left.0.1, each left.0.0 left.0.2);
        images = leaves_weaker (SameButSlotsOf slots taken given) Slots old.disk new.disk each left.1;
      }

  seal_settled : (offered : List Contents) (answer : Answer) → SealsSome offered (Ok answer) old new → IsSettled slots new.disk
  seal_settled offered answer effect =
      subst (λ (n : ℕ). IsSettled n new.disk) tables_slots (effect.disk.left (subst (λ (n : ℕ). IsSettled n old.disk) (sym tables_slots) held.settled))

  -- the journal of an image on the way
  has_on : (c : List ℕ) → KeepsSlots slots base c → HasJournal first base → HasJournal t c
  has_on c keeps_there has = journal_later first t held.free.rest_is c (has_kept first base c keeps_there.front has)

  -- where a name was given a root each image has it
  pub root_given : (name : List ℕ) (root : Root) (answer : Answer) → NamesOne name (Put root) (Ok answer) old new → HasJournal first base
      → StandsFor (HasJournal (with_change name (Put root) first)) new.disk
  root_given name root answer effect has =
      let stands : StandsFor (HasJournal t) old.disk = record { known = (given, known); each = λ c image. has_on c (image_keeps c image) has } in
      let moved = effect.moves.journal t on.represents.names_are stands in
      stands_weaker (HasJournal (with_change name (Put root) t)) (HasJournal (with_change name (Put root) first)) new.disk
      (λ c put. change_first first t held.free.rest_is name (Put root) c put) moved.arrives

  -- a record was written, or in part
  module _ (name : List ℕ) (ending : Option Ending) (right : Encodes base first) (reserve : RESERVE ≤ free_slots first.held) where
    abbrev Open : List ℕ → Type 0
    Open = KeepsOpen name ending base

    slots_open : (c : List ℕ) → KeepsSlots slots base c → KeepsOpen name ending base c
    slots_open c keeps_there = open_kept first base right reserve c keeps_there name ending

    pub slots_leave : Leaves Slots old.disk new.disk → Leaves Open old.disk new.disk
    slots_leave leaves = record {
      content = (leaves.content.0, leaves.content.1, slots_open leaves.content.0 leaves.content.2);
      images = leaves_weaker Slots Open old.disk new.disk slots_open leaves.images;
    }

    module _ (may : MayChange ending) (root : Root) where
      abbrev Changes : List ℕ → List ℕ → Type 0
      Changes = ChangesBytes old.tables name (Put root) given

      base_has : HasJournal first base
      base_has = has_journal first base right

      names_next : (d c : List ℕ) → KeepsSlots slots base d → Changes d c
          → StandsStill HasJournal first c ⊎ ((r : Root) × HasJournal (with_change name (Put r) first) c)
      names_next d c keeps_there changes = elim (changes.journal t on.represents.names_are (has_on given keeps base_has) (has_on d keeps_there base_has)) [
        | inl still ↦ inl (still_first first t held.free.rest_is c still)
        | inr put ↦ inr (root, change_first first t held.free.rest_is name (Put root) c put)
      ]

      next_open : (d c : List ℕ) → KeepsSlots slots base d → Changes d c → KeepsOpen name ending base c
      next_open d c keeps_there changes =
          open_next first base right reserve d keeps_there old.tables.journal
          (on.represents.names_are.half ∙ ap (λ (s : Store). s.selector.half) held.free.rest_is)
          (on.represents.names_are.count ∙ ap (λ (s : Store). length s.records) held.free.rest_is) c changes.same name ending may (names_next d c keeps_there changes)

      by_change : (answer : Result Answer Refusal) → NamesOne name (Put root) answer old new → Leaves Open old.disk new.disk
      by_change answer effect =
          let images = leaves_weaker (SteppedFrom Changes old.disk) Open old.disk new.disk (λ c from. elim from [
            | inl image ↦ slots_open c (image_keeps c image)
            | inr step ↦ next_open step.0 c (image_keeps step.0 step.1) step.2
          ]) (effect.frame.leaves given known) in
          let now = effect.disk.later.tells given known in
          record { content = (now.0, now.1, images.now now.0 (new.disk.as_read now.0 now.1)); images = images }

-- ---- the steps on the way

-- a core on a store, whose disk holds it, and what a crash left since the start
pub record IsFramed (first : Store) (base : List ℕ) (start : DiskView) (c : CoreState) : Type 0 where
  pub store : Store
  pub on : IsOn store c
  pub held : IsHeldBy first base store c.disk
  pub clock : start.clock ≤ c.disk.clock
  pub images : CrashLeaves (KeepsSlots first.slots base) start c.disk

module _ (first : Store) (base : List ℕ) where
  abbrev All : List ℕ → Type 0
  All = KeepsSlots first.slots base

  module _ (t : Store) (old new : CoreState) (on : IsOn t old) (held : IsHeldBy first base t old.disk) where
    reads_held : OnlyReads old.disk new.disk → Leaves All old.disk new.disk × IsSettled first.slots new.disk
    reads_held reads = (by_reads first base t old new on held reads, still_settled first base t old new on held reads)

    step_held : (name bytes put : List ℕ) (step : StepValue) (answer : Result Answer Refusal) → IsAskedFor name bytes step put → IsNoCommit step → IsOk answer →
        Effect step answer old new
        → Leaves All old.disk new.disk × IsSettled first.slots new.disk
    step_held name bytes put step (Err refusal) asks other ok effect = absurd ok
    step_held name bytes put asked.Begin (Ok answer) asks other ok effect = reads_held effect.disk.only
    step_held name bytes put (asked.Claim seg) (Ok answer) asks other ok effect = reads_held effect.disk.only
    step_held name bytes put (asked.Seal offered) (Ok answer) asks other ok effect =
        (by_seal first base t old new on held offered (Ok answer) effect, seal_settled first base t old new on held offered answer effect)
    step_held name bytes put (asked.Commit n root) (Ok answer) asks other ok effect = absurd other
    step_held name bytes put asked.Abort (Ok answer) asks other ok effect = absurd asks
    step_held name bytes put (asked.OpenRead n) (Ok answer) asks other ok effect = absurd asks
    step_held name bytes put asked.ReadNext (Ok answer) asks other ok effect = absurd asks
    step_held name bytes put asked.EndRead (Ok answer) asks other ok effect = absurd asks
    step_held name bytes put (asked.Delete n) (Ok answer) asks other ok effect = absurd asks
    step_held name bytes put asked.ListNames (Ok answer) asks other ok effect = absurd asks
    step_held name bytes put asked.Stat (Ok answer) asks other ok effect = absurd asks
    step_held name bytes put asked.Unique (Ok answer) asks other ok effect = absurd asks
    step_held name bytes put (asked.GcStart percent) (Ok answer) asks other ok effect = absurd asks
    step_held name bytes put asked.GcStep (Ok answer) asks other ok effect = absurd asks

  module _ (name bytes : List ℕ) (start : DiskView) where
    framed_step : (f : FileEvent) (old new : CoreState) → IsFramed first base start old → CoreStep old f.event new → IsWayStep name bytes f → IsFramed first base start new
    framed_step f old new framed made is =
        let effect = (running_step old new f.event framed.on.runs made).made.effect in
        let here = way_step name bytes f framed.store old new framed.on made is in
        let disk = step_held framed.store old new framed.on framed.held name bytes f.bytes f.event.step f.event.answer is.0.asked_for is.1.0 is.1.1 effect in
        record {
          store = here.after;
          on = here.on;
          held = record {
            free = free_sealed first base (seal_by f.event.step f.event.answer) framed.store here.after here.chain here.seals framed.held.free;
            content = disk.0.content;
            settled = disk.1;
          };
          clock = omega (arith, framed.clock, (effect_later old new f.event.step f.event.answer effect).clock_is);
          images = leaves_on All All All start old.disk new.disk framed.clock framed.images disk.0.images (λ c keeps_it. keeps_it) (λ c keeps_it. keeps_it);
        }

    pub framed_way : (C : Type 0) (state : C → CoreState) (way : List FileEvent) (old new : C) → IsFramed first base start (state old) → CoreRun C state (events_of way) old new
        → AllByRecursion (IsWayStep name bytes) way → IsFramed first base start (state new)
    framed_way C state [] old new framed run each = subst (λ (c : C). IsFramed first base start (state c)) (sym run) framed
    framed_way C state (f ∷ fs) old new framed run each =
        framed_way C state fs run.0 new (framed_step f (state old) (state run.0) framed run.1.0 each.0) run.1.1 each.1

    -- ---- the name, whatever containers hold

    module _ (old new : CoreState) (framed : IsFramed first base start old) where
      abbrev HasPut : List ℕ → Root → Type 0
      HasPut n root = StandsFor (HasJournal (with_change n (Put root) first)) new.disk

      commit_named : (put n : List ℕ) (root : Root) (answer : Result Answer Refusal) → IsLastPut (asked.Commit n root) answer → IsAskedFor name bytes (asked.Commit n root) put →
          NamesOne n (Put root) answer old new
          → HasJournal first base → HasPut name (root_of bytes)
      commit_named put n root (Err refusal) last asks effect has = absurd last
      commit_named put n root (Ok answer) last asks effect has =
          subst (λ (r : Root). HasPut name r) asks.1
          (subst (λ (x : List ℕ). HasPut x root) asks.0 (root_given first base framed.store old new framed.on framed.held n root answer effect has))

      pub last_named : IsPutLast name bytes old new → HasJournal first base → StandsFor (HasJournal (with_change name (Put (root_of bytes)) first)) new.disk
      last_named last has =
          let e = last.f.event in
          let steps = running_step old new e framed.on.runs last.made in
          last_is (λ step answer. IsAskedFor name bytes step last.f.bytes → Effect step answer old new → HasPut name (root_of bytes))
          (λ n root answer is asks effect. commit_named last.f.bytes n root answer is asks effect has)
          e.step e.answer last.last last.put_step.asked_for steps.made.effect

-- ---- the last step

module _ (first : Store) (base : List ℕ) (right : Encodes base first) (reserve : RESERVE ≤ free_slots first.held) (start : DiskView) (name : List ℕ) where
  module _ (old new : CoreState) (framed : IsFramed first base start old) where
    abbrev t : Store
    t = framed.store

    abbrev EndsSo : Option Ending → Type 0
    EndsSo ending = Leaves (KeepsOpen name ending base) old.disk new.disk

    here_open : (ending : Option Ending) → Leaves (KeepsSlots first.slots base) old.disk new.disk → EndsSo ending
    here_open ending leaves = slots_leave first base t old new framed.on framed.held name ending right reserve leaves

    reads_open : (ending : Option Ending) → OnlyReads old.disk new.disk → EndsSo ending
    reads_open ending reads = here_open ending (by_reads first base t old new framed.on framed.held reads)

    -- a root was given to the name, or in part
    put_change : (ending : Option Ending) → MayChange ending → (n : List ℕ) (root : Root) (answer : Result Answer Refusal) → n ≡ name → NamesOne n (Put root) answer old new →
        EndsSo ending
    put_change ending may n root answer is effect =
        by_change first base t old new framed.on framed.held name ending right reserve may root answer (subst (λ (x : List ℕ). NamesOne x (Put root) answer old new) is effect)

    put_open : (ending : Option Ending) → MayChange ending → (bytes put : List ℕ) (step : StepValue) (answer : Result Answer Refusal) → IsAskedFor name bytes step put →
        IsLastPut step answer
        → Effect step answer old new → EndsSo ending
    put_open ending may bytes put (asked.Commit n root) (Err refusal) asks last effect = absurd last
    put_open ending may bytes put (asked.Commit n root) (Ok answer) asks last effect = put_change ending may n root (Ok answer) asks.0 effect
    put_open ending may bytes put asked.Begin answer asks last effect = absurd last
    put_open ending may bytes put (asked.Claim seg) answer asks last effect = absurd last
    put_open ending may bytes put (asked.Seal offered) answer asks last effect = absurd last
    put_open ending may bytes put asked.Abort answer asks last effect = absurd last
    put_open ending may bytes put (asked.OpenRead n) answer asks last effect = absurd last
    put_open ending may bytes put asked.ReadNext answer asks last effect = absurd last
    put_open ending may bytes put asked.EndRead answer asks last effect = absurd last
    put_open ending may bytes put (asked.Delete n) answer asks last effect = absurd last
    put_open ending may bytes put asked.ListNames answer asks last effect = absurd last
    put_open ending may bytes put asked.Stat answer asks last effect = absurd last
    put_open ending may bytes put asked.Unique answer asks last effect = absurd last
    put_open ending may bytes put (asked.GcStart percent) answer asks last effect = absurd last
    put_open ending may bytes put asked.GcStep answer asks last effect = absurd last

    -- a commit that was refused wrote nothing, but where a write failed
    uncommitted : (n : List ℕ) (root : Root) (refusal : Refusal) → n ≡ name → NamesOne n (Put root) (Err refusal) old new → EndsSo (Some (Refused refusal))
    uncommitted n root DiskWrite is effect = put_change (Some (Refused DiskWrite)) tt n root (Err DiskWrite) is effect
    uncommitted n root DiskRead is effect = reads_open (Some (Refused DiskRead)) effect.disk.ends
    uncommitted n root refusal is effect = reads_open (Some (Refused refusal)) effect.disk.ends

    refused_open : (bytes put : List ℕ) (refusal : Refusal) (step : StepValue) → IsAskedFor name bytes step put → Effect step (Err refusal) old new →
        EndsSo (Some (Refused refusal))
    refused_open bytes put refusal asked.Begin asks effect = reads_open (Some (Refused refusal)) effect.disk.only
    refused_open bytes put refusal (asked.Claim seg) asks effect = reads_open (Some (Refused refusal)) effect.disk.only
    refused_open bytes put refusal (asked.Seal offered) asks effect =
        here_open (Some (Refused refusal)) (by_seal first base t old new framed.on framed.held offered (Err refusal) effect)
    refused_open bytes put refusal (asked.Commit n root) asks effect = uncommitted n root refusal asks.0 effect
    refused_open bytes put refusal asked.Abort asks effect = absurd asks
    refused_open bytes put refusal (asked.OpenRead n) asks effect = absurd asks
    refused_open bytes put refusal asked.ReadNext asks effect = absurd asks
    refused_open bytes put refusal asked.EndRead asks effect = absurd asks
    refused_open bytes put refusal (asked.Delete n) asks effect = absurd asks
    refused_open bytes put refusal asked.ListNames asks effect = absurd asks
    refused_open bytes put refusal asked.Stat asks effect = absurd asks
    refused_open bytes put refusal asked.Unique asks effect = absurd asks
    refused_open bytes put refusal (asked.GcStart percent) asks effect = absurd asks
    refused_open bytes put refusal asked.GcStep asks effect = absurd asks

    -- and what was left before
    since_start : (ending : Option Ending) → EndsSo ending → Leaves (KeepsOpen name ending base) start new.disk
    since_start ending leaves = record {
      content = leaves.content;
      images = leaves_on (KeepsSlots first.slots base) (KeepsOpen name ending base) (KeepsOpen name ending base) start old.disk new.disk framed.clock framed.images leaves.images
          (λ c keeps_it. open_kept first base right reserve c keeps_it name ending) (λ c keeps_it. keeps_it);
    }

  -- the core is as it was
  pub framed_open : (c : CoreState) (ending : Option Ending) → IsFramed first base start c → Leaves (KeepsOpen name ending base) start c.disk
  framed_open c ending framed = since_start c c framed ending (reads_open c c framed ending (reads_here c.disk))

  pub last_put : (bytes : List ℕ) (ending : Option Ending) → MayChange ending → (mid new : CoreState) → IsFramed first base start mid → IsPutLast name bytes mid new
      → Leaves (KeepsOpen name ending base) start new.disk
  last_put bytes ending may mid new framed last =
      let e = last.f.event in
      let steps = running_step mid new e framed.on.runs last.made in
      since_start mid new framed ending (put_open mid new framed ending may bytes last.f.bytes e.step e.answer last.put_step.asked_for last.last steps.made.effect)

  pub last_refused : (bytes : List ℕ) (refusal : Refusal) (mid new : CoreState) → IsFramed first base start mid → IsStepRefused name bytes refusal mid new
      → Leaves (KeepsOpen name (Some (Refused refusal)) base) start new.disk
  last_refused bytes refusal mid new framed last =
      let e = last.f.event in
      let steps = running_step mid new e framed.on.runs last.made in
      since_start mid new framed (Some (Refused refusal))
      (refused_open mid new framed bytes last.f.bytes refusal e.step last.put_step.asked_for
      (subst (λ (answer : Result Answer Refusal). Effect e.step answer mid new) last.answer_is steps.made.effect))

-- What lines leave of the disk: it is the same one, later, and its count of faults tells what was refused.
use Rattle.actor_parts.specs.declared.step.Answer.TheVariants as answers
use Rattle.script_runner.proofs.Prelude.{◌≡◌, ◌⊎◌, inl, inr, ◌+◌, ◌≤◌, ℕ, Bool, true, false, if◌then◌else◌, List, [], ◌∷◌, Option, Some, None, Result, Ok, Err, refl, sym, ap, subst, arith, nat_lt, MOST_FILE, DiskView, later_here, later_on, Answer, StepValue, Refusal, LineValue, pushed_bytes, ReplyValue, Due, Claim, Seal, Nothing, IsPushAnswer, due_in, SessionState, Stop, OpensCore, OpensNone, CoreState, Asks, Feeds, IsPaused, IsRefusedTurn, TakesTurn, TurnRun, TurnsStopped, ActsReopen, ActsOrNot, BarsBy, RefusesPut, RefusesStep, RunnerState, RunsLine, CollectionRun, Sweeps, Sessions, Phase}
use Rattle.base_model.specs.Fault.{Rose}
use Rattle.dd_disk.specs.Ending.{Ending, Done, Refused, ending, ending_of}
use Rattle.actor_parts.specs.Counts.{Counts}
use Rattle.actor_parts.specs.StepValue as asked
use Rattle.refusals.specs.declared.refusal.Refusal.TheVariants as refusals
use Rattle.refusals.specs.declared.refusal.PartKind.TheVariants as kinds
use Rattle.script_lines.specs.Grammar as lines
use Rattle.script_lines.specs.ReplyValue as replies
use Rattle.store_state.specs.Refused.{blames}
use Rattle.recovery.specs.Room.{RoomMade}
use Rattle.script_runner.specs.Acts.{Acts}
use Rattle.script_runner.specs.AnyDisk.{LinesGoOn, tells_fault}
use Rattle.session_turns.proofs.StepFaults.{Went, step_went, went_on}
use Rattle.session_turns.specs.Turns.{session_at}

-- ---- steps

module _ (old new : CoreState) where
  asks_went : (actor : ℕ) (due : Due) (s : SessionState) (answer : Result Answer Refusal) → Asks actor due s answer old new → Went (ending blames answer) old.disk new.disk
  asks_went actor Claim s answer asks = step_went old new _ asks.3
  asks_went actor (Seal kind) s answer asks = step_went old new _ asks.3
  asks_went actor Nothing s answer asks = absurd asks

-- ---- lines

-- by a reply
abbrev ending_in : ReplyValue → Ending
ending_in (replies.Refused refusal) = ending_of (blames refusal)
ending_in reply = Done

module _ (C : Type 0) (state : C → CoreState) where
  abbrev GoesBy : Ending → C → C → Type 0
  GoesBy by old new = Went by (state old).disk (state new).disk

  done_here : (old new : C) → new ≡ old → GoesBy Done old new
  done_here old new same = subst (λ (c : C). GoesBy Done old c) (sym same) (record { later = later_here (state old).disk; faults = refl })

  -- no call of the disk failed
  none_failed : (refusal : Refusal) (old new : C) → ending_of (blames refusal) ≡ Refused → GoesBy Done old new → GoesBy (ending_of (blames refusal)) old new
  none_failed refusal old new is went =
      subst (λ (by : Ending). GoesBy by old new) (sym is) (let same : GoesBy Refused old new = record { later = went.later; faults = went.faults } in same)

  by_memory : (refusal : Refusal) → refusal ≡ refusals.Memory → ending_of (blames refusal) ≡ Refused
  by_memory refusal is = ap (λ (x : Refusal). ending_of (blames x)) is

  no_memory : (refusal : Refusal) (old new : C) → refusal ≡ refusals.Memory → new ≡ old → GoesBy (ending_of (blames refusal)) old new
  no_memory refusal old new is same = none_failed refusal old new (by_memory refusal is) (done_here old new same)

  -- a step was refused, or before it there was no memory
  refuses_went : (actor : ℕ) (step : StepValue) (refusal : Refusal) (old new : C) → ((refusal ≡ refusals.Memory) × (new ≡ old)) ⊎ RefusesStep actor step refusal (state old)
      (state new) → GoesBy (ending_of (blames refusal)) old new
  refuses_went actor step refusal old new (inl memory) = no_memory refusal old new memory.0 memory.1
  refuses_went actor step refusal old new (inr refuses) = step_went (state old) (state new) _ refuses.1

  module _ (actor : ℕ) where
    turns_went : (answers : List Answer) (s t : SessionState) (old new : C) → TurnRun C state actor answers s t old new → GoesBy Done old new
    turns_went [] s t old new run = done_here old new run.1
    turns_went (answer ∷ answers) s t old new run =
        went_on Done (state old).disk (state run.1).disk (state new).disk (asks_went (state old) (state run.1) actor (due_in run.2.before) run.2.before (Ok answer) run.2.asks)
        (turns_went answers run.0 t run.1 new run.3)

    refused_went : (refusal : Refusal) (s t : SessionState) (old new : C) → ((refusal ≡ refusals.Memory) × IsPaused s t × (new ≡ old))
        ⊎ IsRefusedTurn actor refusal s t (state old) (state new)
        → GoesBy (ending_of (blames refusal)) old new
    refused_went refusal s t old new (inl memory) = no_memory refusal old new memory.0 memory.2
    refused_went refusal s t old new (inr refused) = asks_went (state old) (state new) actor (due_in t) t (Err refusal) refused.2

    stopped_went : (refusal : Refusal) (s t : SessionState) (old new : C) → TurnsStopped C state actor refusal s t old new → GoesBy (ending_of (blames refusal)) old new
    stopped_went refusal s t old new stopped =
        went_on (ending_of (blames refusal)) (state old).disk (state stopped.2).disk (state new).disk (turns_went stopped.0 s stopped.1 old stopped.2 stopped.3)
        (refused_went refusal stopped.1 t stopped.2 new stopped.4)

    one_went : (answer : Option Answer) (s t : SessionState) (old new : C) → TakesTurn C state actor (Ok answer) s t old new → GoesBy Done old new
    one_went None s t old new turn = done_here old new turn.3
    one_went (Some answer) s t old new turn = asks_went (state old) (state new) actor (due_in turn.before) turn.before (Ok answer) turn.asks

    -- too many bytes, or none any more
    not_failed : (s : SessionState) (n : ℕ) (refusal : Refusal) → IsPushAnswer s n (Err refusal) → ending_of (blames refusal) ≡ Refused
    not_failed s n refusal is = by_push s.ended (nat_lt MOST_FILE (s.count + n)) is
      where
        same : (a : Refusal) → ending_of (blames a) ≡ Refused → Some a ≡ Some refusal → ending_of (blames refusal) ≡ Refused
        same a blame is = let both : a ≡ refusal = cc in subst (λ (x : Refusal). ending_of (blames x) ≡ Refused) both blame

        by_push : (ended long : Bool) → (if ended then Some (refusals.WrongPart kinds.Finished) else if long then Some refusals.TooLong else None) ≡ Some refusal →
            ending_of (blames refusal) ≡ Refused
        by_push true long is = same (refusals.WrongPart kinds.Finished) refl is
        by_push false true is = same refusals.TooLong refl is
        by_push false false is = absurd cc

    fed_went : (refusal : Refusal) (bytes : List ℕ) (s t : SessionState) (old new : C) → Feeds C state actor (Err refusal) bytes (session_at s old) (session_at t new) →
        GoesBy (ending_of (blames refusal)) old new
    fed_went refusal bytes s t old new (inl stopped) = stopped_went refusal s t old new stopped.0
    fed_went refusal bytes s t old new (inr long) = none_failed refusal old new (not_failed t _ refusal long.2) (turns_went long.0 s t old new long.1)

    put_went : (name : List ℕ) (refusal : Refusal) (s t : SessionState) (old new : C) → RefusesPut C state actor name refusal (session_at s old) (session_at t new) →
        GoesBy (ending_of (blames refusal)) old new
    put_went name refusal s t old new (inl stopped) = stopped_went refusal s t old new stopped
    put_went name refusal s t old new (inr done) =
        went_on (ending_of (blames refusal)) (state old).disk (state done.1).disk (state new).disk (turns_went done.0 s t old done.1 done.2)
        (refuses_went actor (asked.Commit name done.3.0) refusal done.1 new done.3.2)

  collected_went : (phases : List Phase) (old mid : C) → CollectionRun C state phases old mid → GoesBy Done old mid
  collected_went [] old mid run = done_here old mid run
  collected_went (phase ∷ phases) old mid run =
      went_on Done (state old).disk (state run.0).disk (state mid).disk (step_went (state old) (state run.0) _ run.1.0.1) (collected_went phases run.0 mid run.1.1)

  swept_went : (answer : Result Answer Refusal) (old new : C) → Sweeps C state answer old new → GoesBy (ending blames answer) old new
  swept_went answer old new sweeps =
      went_on (ending blames answer) (state old).disk (state sweeps.1.0).disk (state new).disk (collected_went sweeps.0 old sweeps.1.0 sweeps.1.1.0)
      (step_went (state sweeps.1.0) (state new) _ sweeps.1.1.1.1)

  acts_went : (line : LineValue) (reply : ReplyValue) (r s : RunnerState C) → Acts C state line reply r s → GoesBy (ending_in reply) r.core s.core
  acts_went (lines.Begin a) (replies.Begun b) r s acts = step_went (state r.core) (state s.core) _ acts.1.2.1
  acts_went (lines.Begin a) (replies.Refused refusal) r s acts = refuses_went a asked.Begin refusal r.core s.core acts.0
  acts_went (lines.Push a digits) (replies.Pushed b count) r s acts =
      let does = acts.1 in
      turns_went a does.3.0 does.0 does.3.1 r.core s.core does.3.2
  acts_went (lines.Push a digits) (replies.Refused refusal) r s acts = fed_went a refusal (pushed_bytes digits) acts.0 acts.1 r.core s.core acts.3
  acts_went (lines.Finish a) (replies.Finished b count) r s acts = done_here r.core s.core acts.1.6
  acts_went (lines.Finish a) (replies.Refused refusal) r s acts = no_memory refusal r.core s.core acts.0 acts.2
  acts_went (lines.Turn a) (replies.Turn b told) r s acts =
      let turns = acts.1 in
      one_went a turns.3.0 turns.0 turns.1 r.core s.core turns.3.2
  acts_went (lines.Turn a) (replies.Refused refusal) r s acts = refused_went a refusal acts.0 acts.1 r.core s.core acts.3
  acts_went (lines.Commit a name) (replies.Committed b sequence) r s acts =
      let puts = acts.1.2 in
      went_on Done (state r.core).disk (state puts.mid).disk (state s.core).disk (turns_went a puts.answers_are acts.1.0 puts.ready r.core puts.mid puts.turns)
      (step_went (state puts.mid) (state s.core) _ puts.put.1)
  acts_went (lines.Commit a name) (replies.Refused refusal) r s acts = put_went a name refusal acts.0 acts.1 r.core s.core acts.3
  acts_went (lines.Abort a) (replies.Aborted b) r s acts = step_went (state r.core) (state s.core) _ acts.1.0.1.1
  acts_went (lines.Abort a) (replies.Refused refusal) r s acts = step_went (state r.core) (state s.core) _ acts.0.1
  acts_went (lines.Read a name) (replies.Reading b count) r s acts = step_went (state r.core) (state s.core) _ acts.1.0.1
  acts_went (lines.Read a name) (replies.Refused refusal) r s acts = step_went (state r.core) (state s.core) _ acts.0.1
  acts_went (lines.Next a) (replies.Bytes b bytes) r s acts = step_went (state r.core) (state s.core) _ acts.1.1.1.1.0
  acts_went (lines.Next a) (replies.End b) r s acts = step_went (state r.core) (state s.core) _ acts.1.1.0
  acts_went (lines.Next a) (replies.Refused refusal) r s acts = step_went (state r.core) (state s.core) _ acts.1.0
  acts_went (lines.Drop a) (replies.Dropped b) r s acts = step_went (state r.core) (state s.core) _ acts.1.0.1.1
  acts_went (lines.Drop a) (replies.Refused refusal) r s acts = step_went (state r.core) (state s.core) _ acts.0.1
  acts_went (lines.Delete name) (replies.Deleted sequence) r s acts = step_went (state r.core) (state s.core) _ acts.0.deleted.1
  acts_went (lines.Delete name) (replies.Refused refusal) r s acts = refuses_went 0 (asked.Delete name) refusal r.core s.core acts.0
  acts_went lines.ListNames (replies.Listed files) r s acts = step_went (state r.core) (state s.core) _ acts.0.1
  acts_went lines.ListNames (replies.Refused refusal) r s acts = step_went (state r.core) (state s.core) _ acts.0.1
  acts_went (lines.Gc percent) (replies.Collecting snapshot) r s acts = step_went (state r.core) (state s.core) _ acts.0.1
  acts_went (lines.Gc percent) (replies.Refused refusal) r s acts = step_went (state r.core) (state s.core) _ acts.0.1
  acts_went lines.GcStep (replies.Step phase) r s acts = step_went (state r.core) (state s.core) _ acts.0.1
  acts_went lines.GcStep (replies.Collected freed copied) r s acts = step_went (state r.core) (state s.core) _ acts.0.1
  acts_went lines.GcStep (replies.Refused refusal) r s acts = step_went (state r.core) (state s.core) _ acts.0.1
  acts_went lines.Sweep (replies.Collected freed copied) r s acts = swept_went (Ok (answers.Done freed copied)) r.core s.core acts.0
  acts_went lines.Sweep (replies.Refused refusal) r s acts = swept_went (Err refusal) r.core s.core acts.0
  acts_went lines.Stat (replies.Stat holdings) r s acts = step_went (state r.core) (state s.core) _ acts.0.1
  acts_went lines.Unique (replies.Unique segments bytes) r s acts = step_went (state r.core) (state s.core) _ acts.0.1
  acts_went lines.Unique (replies.Refused refusal) r s acts = step_went (state r.core) (state s.core) _ acts.0.1
  acts_went line reply r s acts = absurd acts

  abbrev disk_of : C → DiskView
  disk_of c = (state c).disk

  -- room was made, and no call failed
  room_went : (old mid : DiskView) → RoomMade old mid → Went Done old mid
  room_went old mid room = record { later = room.later; faults = room.faults_are }

  pub opened_went : (old : DiskView) (c : CoreState) → OpensCore C disk_of old c → Went Done old c.disk
  opened_went old c (inl read) = record { later = read.reads.only.later; faults = read.reads.faults_are }
  opened_went old c (inr (x, (room, read))) = went_on Done old (disk_of x) c.disk (room_went old (disk_of x) room)
      (record { later = read.reads.only.later; faults = read.reads.faults_are })

  pub unopened_went : (refusal : Refusal) (old new : DiskView) → OpensNone C disk_of refusal old new → Went (ending_of (blames refusal)) old new
  unopened_went refusal old new (inl (unread, not)) = record { later = unread.reads.only.later; faults = unread.reads.faults_are }
  unopened_went refusal old new (inr (inl (x, (room, unread)))) =
      went_on (ending_of (blames refusal)) old (disk_of x) new (room_went old (disk_of x) room) (record { later = unread.reads.only.later; faults = unread.reads.faults_are })
  unopened_went refusal old new (inr (inr unmade)) = record { later = unmade.later; faults = unmade.faults_are }

  reopen_went : (reply : ReplyValue) (r s : RunnerState C) → ActsReopen C state reply r s → GoesBy (ending_in reply) r.core s.core
  reopen_went (replies.Opened files) r s acts =
      went_on Done (state r.core).disk (state acts.mid).disk (state s.core).disk (opened_went (state r.core).disk (state acts.mid) acts.opened)
      (step_went (state acts.mid) (state s.core) _ acts.counts.1)
  reopen_went (replies.Refused refusal) r s acts = elim acts.0.why [
    | inl memory ↦ no_memory refusal r.core s.core memory.0 memory.1
    | inr given_up ↦ unopened_went refusal (state r.core).disk (state s.core).disk given_up.0
  ]
  reopen_went reply r s acts = absurd acts

  barred : (stop : Option Stop) (line : LineValue) (sessions : Sessions) (c : CoreState) (refusal : Refusal) → BarsBy stop line sessions c refusal →
      ending_of (blames refusal) ≡ Refused
  barred (Some stop) line sessions c refusal is = ap (λ (x : Refusal). ending_of (blames x)) is
  barred None line sessions c refusal is = ap (λ (x : Refusal). ending_of (blames x)) is.3

  taken_went : (line : LineValue) (reply : ReplyValue) (r s : RunnerState C) → ActsOrNot C state line reply r s → GoesBy (ending_in reply) r.core s.core
  taken_went line reply r s (inl taken) = acts_went line reply r s taken.1
  taken_went line reply r s (inr bars) =
      subst (λ (x : ReplyValue). GoesBy (ending_in x) r.core s.core) (sym bars.1)
      (none_failed bars.0 r.core s.core (barred (state r.core).stop line r.sessions (state r.core) bars.0 bars.2)
      (done_here r.core s.core (ap (λ (x : RunnerState C). x.core) bars.3)))

  pub line_went : (line : LineValue) (reply : ReplyValue) (r s : RunnerState C) → RunsLine C state line reply r s → GoesBy (ending_in reply) r.core s.core
  line_went lines.Reopen reply r s runs = reopen_went reply r s runs
  line_went line reply r s runs = taken_went line reply r s runs

  -- ---- counts

  no_fault : (now before : ℕ) → now ≡ before → Counts false before now
  no_fault now before same = record { later = omega (arith, same); rose = λ is. absurd cc; stays = λ is. same }

  a_fault : (now before : ℕ) → Rose before now → before ≤ now → Counts true before now
  a_fault now before rose later = record { later = later; rose = λ is. rose; stays = λ is. absurd cc }

  counts_by : (reply : ReplyValue) (old new : C) → GoesBy (ending_in reply) old new → Counts (tells_fault reply) (state old).disk.faults (state new).disk.faults
  counts_by (replies.Refused refusals.DiskRead) old new went = a_fault (state new).disk.faults (state old).disk.faults went.faults went.later.faults_are
  counts_by (replies.Refused refusals.DiskWrite) old new went = a_fault (state new).disk.faults (state old).disk.faults went.faults went.later.faults_are
  counts_by (replies.Refused refusal) old new went = no_fault (state new).disk.faults (state old).disk.faults went.faults
  counts_by reply old new went = no_fault (state new).disk.faults (state old).disk.faults went.faults

  pub lines_go_on : LinesGoOn C state
  lines_go_on [] r s runs = record {
    later = (done_here r.core s.core (ap (λ (x : RunnerState C). x.core) runs)).later;
    counted = ap (λ (x : RunnerState C). (state x.core).disk.faults) runs;
  }
  lines_go_on (one ∷ more) r s runs =
      let mid : RunnerState C = runs.1.0 in
      let went = line_went one.line one.reply r mid runs.1.1.0 in
      let rest = lines_go_on more mid s runs.1.1.1 in
      record {
        later = later_on (state r.core).disk (state mid.core).disk (state s.core).disk went.later rest.later;
        counted = ((state mid.core).disk.faults, (counts_by one.reply r.core mid.core went, rest.counted));
      }

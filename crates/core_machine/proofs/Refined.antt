-- A step of a core is one of the machine of roots.
use Rattle.core_machine.proofs.Prelude.{PlaceMap, KindSegment, ◌≡◌, ℕ, List, [], ◌∷◌, Option, Some, None, Result, Ok, Err, refl, sym, ◌∙◌, ap, subst, Bool, true, Root, Top, Answer, StepValue, Refusal, Stop, ClaimRow, ListRow, StatRow, AbortRow, AnswersStopped, BeginRow, EndRow, OpenRow, ReadRow, Steps, StepsOr, StopsAfter, UniqueRow, counted, CoreState, Event, IsUnderWayIn, IsUp, UnlessStopped, Asked, Answers, ByState, LegalBy, RunState, Running, Stopped, of_roots, Tables, Collects, IsKeptKey, StartRow, SameCollection, NamesStep, Follows, HasIndex, IsMachine, SameStop, asked_by, answered_by, IsValidFor, Represents}
use Rattle.read_steps.specs.Counting.{counts_of}
use Rattle.namespace.specs.Listing.{listing_of}
use Rattle.actor_parts.specs.declared.step.Answer.TheVariants as answers
use Rattle.actor_parts.specs.StepValue as steps
use Rattle.refusals.specs.declared.refusal.Refusal.TheVariants as refusals
use Rattle.store_core.specs.Core.{Made}
use Rattle.store_machine.specs.Asked as asked
use Rattle.store_machine.specs.Done.{Done}
use Rattle.store_machine.specs.Values.{IsStuck}
use Rattle.core_machine.specs.Refines.{CoreRefines, SameParts}
use Rattle.core_machine.proofs.Collected.{gc_row}
use Rattle.core_machine.proofs.Sealed.{seal_row}
use Rattle.core_machine.proofs.Started.{start_row}
use Rattle.core_machine.proofs.Rows.{M, abort_row, begin_row, claim_row, commit_row, list_row, stat_row, delete_row, end_row, left_by, open_row, read_row, same_at, same_marks, stays_so, stops_trees, unique_row}

no_write : (after : List Top) → IsStuck after refusals.DiskWrite → ⊥
no_write [] stuck = stuck
no_write (t ∷ ts) stuck = stuck

-- ---- steps that count nothing and stop nothing

module _ (c d : CoreState) where
  abbrev Quiet : StepValue → Result Answer Refusal → Type 0
  Quiet step answer = StopsAfter step answer c.acknowledged d.stop → d.acknowledged ≡ counted answer c.acknowledged → (d.stop ≡ None) × (d.acknowledged ≡ c.acknowledged)

  begin_quiet : (a : ℕ) (answer : Result Answer Refusal) → BeginRow a answer c d → Quiet steps.Begin answer
  begin_quiet a (Ok answers.Begun) row stop count = (stop, count)
  begin_quiet a (Err (refusals.WrongPart kind)) row stop count = (stop, count)
  begin_quiet a (Err refusal) row stop count = absurd row.0
  begin_quiet a (Ok answer) row stop count = absurd row

  abort_quiet : (a : ℕ) (answer : Result Answer Refusal) → AbortRow a answer c d → Quiet steps.Abort answer
  abort_quiet a (Ok answers.Aborted) row stop count = (stop, count)
  abort_quiet a (Err (refusals.WrongPart kind)) row stop count = (stop, count)
  abort_quiet a (Err refusal) row stop count = absurd row.0
  abort_quiet a (Ok answer) row stop count = absurd row

  end_quiet : (a : ℕ) (answer : Result Answer Refusal) → EndRow a answer c d → Quiet steps.EndRead answer
  end_quiet a (Ok answers.Dropped) row stop count = (stop, count)
  end_quiet a (Err (refusals.WrongPart kind)) row stop count = (stop, count)
  end_quiet a (Err refusal) row stop count = absurd row
  end_quiet a (Ok answer) row stop count = absurd row

  open_quiet : (name : List ℕ) (a : ℕ) (answer : Result Answer Refusal) → OpenRow name a answer c d → Quiet (steps.OpenRead name) answer
  open_quiet name a (Ok (answers.Opened count)) row stop same = (stop, same)
  open_quiet name a (Err refusals.Memory) row stop same = (stop, same)
  open_quiet name a (Err (refusals.WrongPart kind)) row stop same = (stop, same)
  open_quiet name a (Err refusals.BadName) row stop same = (stop, same)
  open_quiet name a (Err refusals.NoFile) row stop same = (stop, same)
  open_quiet name a (Err refusal) row stop same = absurd row.0.1
  open_quiet name a (Ok answer) row stop same = absurd row

  read_quiet : (a : ℕ) (answer : Result Answer Refusal) (buf : List ℕ) → ReadRow a answer buf c d → Quiet steps.ReadNext answer
  read_quiet a (Ok (answers.Bytes count)) buf row stop same = (stop, same)
  read_quiet a (Ok answers.End) buf row stop same = (stop, same)
  read_quiet a (Err refusals.DiskWrite) buf row stop same =
      absurd (no_write row.cause.rest (stays_so c.known c.breaks c.disk d.disk row.cause.was row.cause.rest refusals.DiskWrite row.cause.refused).1)
  read_quiet a (Err refusal) buf row stop same = (stop, same)
  read_quiet a (Ok answer) buf row stop same = absurd row

  claim_quiet : ((places : PlaceMap) × (c.known ≡ Some places)) → (seg : KindSegment) (a : ℕ) (answer : Result Answer Refusal) → ClaimRow seg a answer c d
      → Quiet (steps.Claim seg) answer
  claim_quiet told seg a (Ok answers.Held) row stop count = (stop, count)
  claim_quiet told seg a (Ok answers.Absent) row stop count = (stop, count)
  claim_quiet told seg a (Err refusals.DiskWrite) row stop count = absurd row.0.1.refused.2
  claim_quiet told seg a (Err refusal) row stop count = (stop, count)
  claim_quiet told seg a (Ok answer) row stop count = absurd row

  start_quiet : (percent : ℕ) (answer : Result Answer Refusal) → StartRow percent answer c d → Quiet (steps.GcStart percent) answer
  start_quiet percent (Ok (answers.Started snapshot)) row stop count = (stop, count)
  start_quiet percent (Err (refusals.Collecting phase)) row stop count = (stop, count)
  start_quiet percent (Err refusals.DiskWrite) row stop count = absurd row.cause.cause
  start_quiet percent (Err refusal) row stop count = (stop, count)
  start_quiet percent (Ok answer) row stop count = absurd row

  list_quiet : (answer : Result Answer Refusal) → ListRow answer c d → Quiet steps.ListNames answer
  list_quiet (Ok (answers.Listed files)) row stop count = (stop, count)
  list_quiet (Err refusals.Memory) row stop count = (stop, count)
  list_quiet (Ok answer) row stop count = absurd row
  list_quiet (Err refusal) row stop count = absurd row

  stat_quiet : {followed : Bool} {m : M} → IsMachine followed m c → (answer : Result Answer Refusal) → StatRow answer c d → Quiet steps.Stat answer
  stat_quiet {followed} {m} at (Ok answer) row stop count =
      let is : answer ≡ counts_of m.store = row.0.store_has m.store at.represents at.valid at.free in
      (subst (λ (x : Answer). StopsAfter steps.Stat (Ok x) c.acknowledged d.stop) is stop, subst (λ (x : Answer). d.acknowledged ≡ counted (Ok x) c.acknowledged) is count)
  stat_quiet at (Err refusal) row stop count = absurd row

  unique_quiet : ((places : PlaceMap) × (c.known ≡ Some places)) → (answer : Result Answer Refusal) → UniqueRow answer c d → Quiet steps.Unique answer
  unique_quiet told (Ok (answers.Unique segments bytes)) row stop count = (stop, count)
  unique_quiet told (Ok answer) row stop count = absurd row
  unique_quiet (places, told) (Err refusals.DiskWrite) row stop count =
      absurd (stops_trees places c.disk d.disk (listing_of c.tables.names) refusals.DiskWrite (row.cause places told))
  unique_quiet told (Err refusal) row stop count = (stop, count)

-- ---- a core that runs

module _ {followed : Bool} (c d : CoreState) (m : M) (at : IsMachine followed m c) (runs : m.state ≡ Running) (under : IsUnderWayIn c.tables.held c.collection)
    (a : ℕ) (buf : List ℕ) where
  own : HasIndex followed m.swept m.forgotten m.store.held c.known
  own = at.index runs

  abbrev Left : Result Answer Refusal → Asked Root → Type 0
  Left answer step = (n : M) × Answers of_roots a step (answered_by answer buf) m n × IsMachine followed n d

  -- with what a step of a collection did
  abbrev Named : StepValue → Result Answer Refusal → Type 0
  Named s answer = (n : M) × Answers of_roots a (asked_by s) (answered_by answer buf) m n × IsMachine followed n d × NamesStep s answer c d m n

  -- any other does nothing to name
  unnamed : (answer : Result Answer Refusal) (step : Asked Root) → Left answer step
      → (n : M) × Answers of_roots a step (answered_by answer buf) m n × IsMachine followed n d × Unit {0}
  unnamed answer step left = (left.0, left.1, left.2, tt)

  made_by : (s : StepValue) (answer : Result Answer Refusal) → Made s a answer buf c d → Collects s answer c d → StopsAfter s answer c.acknowledged d.stop
      → d.acknowledged ≡ counted answer c.acknowledged → (followed ≡ true → Follows answer c) → Named s answer
  made_by steps.Begin answer made collects stop count follows =
      let quiet = begin_quiet c d a answer made.row stop count in
      unnamed answer asked.Begin (begin_row c m at runs d a answer buf made.row
      (left_by c m at runs d made.effect.tables made.effect.disk.only.later.size_is quiet.1 (same_at c m at runs d collects) quiet.0))
  made_by steps.Abort answer made collects stop count follows =
      let quiet = abort_quiet c d a answer made.row stop count in
      unnamed answer asked.Abort (abort_row c m at runs d a answer buf made.row
      (left_by c m at runs d made.effect.tables made.effect.disk.only.later.size_is quiet.1 (same_at c m at runs d collects) quiet.0))
  made_by (steps.OpenRead name) answer made collects stop count follows =
      let quiet = open_quiet c d name a answer made.row stop count in
      unnamed answer (asked.OpenRead name) (open_row c m at runs d name a answer buf made.row
      (left_by c m at runs d made.effect.tables made.effect.disk.only.later.size_is quiet.1 (same_at c m at runs d collects) quiet.0))
  made_by steps.ReadNext answer made collects stop count follows =
      let quiet = read_quiet c d a answer buf made.row stop count in
      unnamed answer asked.ReadNext (read_row c m at runs d a answer buf made.row
      (left_by c m at runs d made.effect.tables made.effect.disk.only.later.size_is quiet.1 (same_at c m at runs d collects) quiet.0))
  made_by steps.EndRead answer made collects stop count follows =
      let quiet = end_quiet c d a answer made.row stop count in
      unnamed answer asked.EndRead (end_row c m at runs d a answer buf made.row
      (left_by c m at runs d made.effect.tables made.effect.disk.only.later.size_is quiet.1 (same_at c m at runs d collects) quiet.0))
  made_by (steps.Delete name) answer made collects stop count follows =
      unnamed answer (asked.Delete name) (delete_row c m at runs d name a answer buf made.row made.effect collects stop count)
  made_by (steps.Commit name root) answer made collects stop count follows =
      unnamed answer (asked.Commit name root) (commit_row c m at runs d name root a answer buf made.row made.effect collects stop count)
  made_by (steps.Claim seg) answer made collects stop count follows =
      let quiet = claim_quiet c d (own.places, own.known_is) seg a answer made.row stop count in
      unnamed answer (asked.Claim seg) (claim_row c m at runs d seg a answer buf made.row
      (left_by c m at runs d made.effect.tables made.effect.disk.only.later.size_is quiet.1
      (same_marks (IsKeptKey (steps.Claim seg) answer) c.tables.held m.swept m.collection c.collection d.collection collects at.collection) quiet.0))
  made_by steps.ListNames answer made collects stop count follows =
      let quiet = list_quiet c d answer made.row stop count in
      unnamed answer asked.ListNames (list_row c m at runs d a answer buf made.row
      (left_by c m at runs d made.effect.tables made.effect.disk.only.later.size_is quiet.1 (same_at c m at runs d collects) quiet.0))
  made_by steps.Stat answer made collects stop count follows =
      let quiet = stat_quiet c d at answer made.row stop count in
      unnamed answer asked.Stat (stat_row c m at runs d a answer buf made.row
      (left_by c m at runs d made.effect.tables made.effect.disk.only.later.size_is quiet.1 (same_at c m at runs d collects) quiet.0))
  made_by steps.Unique answer made collects stop count follows =
      let quiet = unique_quiet c d (own.places, own.known_is) answer made.row stop count in
      unnamed answer asked.Unique (unique_row c m at runs d a answer buf made.row
      (left_by c m at runs d made.effect.tables made.effect.disk.only.later.size_is quiet.1 (same_at c m at runs d collects) quiet.0))
  made_by (steps.GcStart percent) answer made collects stop count follows =
      let quiet = start_quiet c d percent answer made.row stop count in
      unnamed answer (asked.GcStart percent) (start_row c m at runs d percent a answer buf made.row made.effect under quiet.0 quiet.1)
  made_by steps.GcStep answer made collects stop count follows =
      gc_row c m at runs d a answer buf made.row made.effect under stop count follows
  made_by (steps.Seal offered) answer made collects stop count follows =
      unnamed answer (asked.Seal offered) (seal_row c d m at runs a offered buf answer made.row made.effect collects under stop count)

-- no step is an opening
by_state : (s : StepValue) (a : ℕ) (told : Result Done Refusal) (m n : M) → ByState of_roots m.state a (asked_by s) told m n → LegalBy of_roots (asked_by s) a told m n
by_state steps.Begin a told m n by = by
by_state other a told m n by = by

module _ {followed : Bool} (e : Event) (old new : CoreState) (m : M) (at : IsMachine followed m old) (follows : followed ≡ true → Follows e.answer old) where
  abbrev step : Asked Root
  step = asked_by e.step

  abbrev End : Type 0
  End = (n : M) × (ByState of_roots m.state e.actor step (answered_by e.answer e.buf) m n × IsMachine followed n new × NamesStep e.step e.answer old new m n)

  -- nothing was written, given back or forgotten
  none_named : (s : StepValue) (count : ℕ) → NamesStep s (Err (refusals.Stopped count)) old new m m
  none_named steps.GcStep count = tt
  none_named s count = tt

  -- one that is stopped refuses, and nothing changes
  refuses : (other : _) (stores : _) (stop : Stop) → m.state ≡ Stopped other stores → stop.at ≡ m.acknowledged → AnswersStopped stop.at e old new → End
  refuses other stores stop state count answers = (
    m,
    (
      subst (λ (s : RunState Root). ByState of_roots s e.actor step (answered_by e.answer e.buf) m m) (sym state)
          (ap (λ (r : Result Answer Refusal). answered_by r e.buf) answers.answer_is ∙ ap (λ (k : ℕ). Err (refusals.Stopped k)) count, refl),
      record {
        represents = subst (λ (t : _). Represents m.store None t) (sym answers.same.tables_are) at.represents;
        valid = subst (λ (s : ℕ). IsValidFor s m.store) (sym answers.same.disk.only.later.size_is) at.valid;
        free = at.free;
        names = at.names;
        last = at.last;
        last_id = at.last_id ∙ ap (λ (t : Tables). t.held.last_id) (sym answers.same.tables_are);
        last_within = at.last_within;
        parts = subst (SameParts m.parts) (sym answers.same.parts_are) at.parts;
        acknowledged = at.acknowledged ∙ sym answers.same.counted;
        index = λ running. absurd (let wrong : Stopped other stores ≡ Running = sym state ∙ running in cc);
        collection = subst (λ (t : Tables). SameCollection t.held m.swept m.collection new.collection) (sym answers.same.tables_are)
            (subst (SameCollection old.tables.held m.swept m.collection) (sym answers.same.collection_is) at.collection);
        state = subst (SameStop m.acknowledged m.state) (sym answers.same.stop_is) at.state;
      },
      subst (λ (r : Result Answer Refusal). NamesStep e.step r old new m m) (sym answers.answer_is) (none_named e.step stop.at),
    ),
  )

  steps_so : m.state ≡ Running → IsUp old → Steps e old new → End
  steps_so runs up s =
      let left = made_by old new m at runs up.under_way e.actor e.buf e.step e.answer s.made s.collects s.stops s.counted_is follows in
      (left.0, (subst (λ (st : RunState Root). ByState of_roots st e.actor step (answered_by e.answer e.buf) m left.0) (sym runs) left.1, left.2, left.3))

  by : (st : RunState Root) (stop : Option Stop) → m.state ≡ st → SameStop m.acknowledged st stop → UnlessStopped stop (IsUp old) → StepsOr stop e old new → End
  by Running None state same up made = steps_so state up made
  by Running (Some stop) state same up made = absurd same
  by (Stopped other stores) None state same up made = absurd same
  by (Stopped other stores) (Some stop) state same up made = refuses other stores stop state same made

pub core_refines : (C : Type 0) (state : C → CoreState) → CoreRefines C state
core_refines C state followed e old new m up at follows made =
    let end = by e (state old) (state new) m at follows m.state (state old).stop refl at.state up made in
    (end.0, (by_state e.step e.actor (answered_by e.answer e.buf) m end.0 end.1.0, end.1.1, end.1.2))

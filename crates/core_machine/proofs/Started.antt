-- A collection that begins in a core, or does not, as the machine of roots has it.
use Rattle.core_machine.proofs.Prelude.{◌≡◌, ℕ, suc, ◌<◌, List, [], ◌++◌, Some, None, Result, Ok, Err, refl, sym, ◌∙◌, subst, arith, Bool, Root, MOST_LEVEL, Answer, CoreCollection, mark_level, Refusal, last_id, StartRow, Rests, CoreState, IsUnderWayIn, marking, marks_of, sources_in, Answers, IsAtRightPart, Running, keys_kept, values_read, of_roots, SameCollection, SameRun, SameStage, IsMachine, answered_by}
use Rattle.std.specs.FinMap as finite
use Rattle.actor_parts.specs.declared.step.Answer.TheVariants as answers
use Rattle.refusals.specs.declared.refusal.Refusal.TheVariants as refusals
use Rattle.store_core.specs.Collecting as collecting
use Rattle.store_machine.specs.Asked as asked
use Rattle.store_machine.specs.Machine.{Collection}
use Rattle.core_machine.specs.Refines.{SameParts}
use Rattle.core_machine.proofs.Marked.{left_first, same_marking}
use Rattle.core_machine.proofs.Phases.{is_collecting, none_runs, one_runs}
use Rattle.core_machine.proofs.Rows.{M, as_it_was, goes_on, left_by, same_at}

module _ {followed : Bool} (c : CoreState) (m : M) (at : IsMachine followed m c) (runs : m.state ≡ Running) (d : CoreState) (percent a : ℕ) where
  abbrev Left : Result Answer Refusal → List ℕ → Type 0
  Left answer buf = (n : M) × Answers of_roots a (asked.GcStart percent) (answered_by answer buf) m n × IsMachine followed n d

  -- the collection that the machine begins
  abbrev first : ℕ → Collection Root
  first snapshot = record {
    percent = percent;
    snapshot = snapshot;
    stage = marking (marks_of m.store.held);
    recorded = [];
    changes = [];
    values = finite.values m.now.names ++ values_read m.parts;
    keys = keys_kept m.parts;
  }

  module _ (snapshot : ℕ) (begins : collecting.Begins percent snapshot c d) where
    abbrev k : CoreCollection
    k = begins.collection

    next : snapshot ≡ suc m.last_id
    next = omega (arith, begins.snapshot_is, begins.next_is, at.last_id, at.last_within)

    above : last_id m.store.held < k.snapshot
    above = omega (arith, next, begins.snapshot_is, at.last_id, at.represents.slots_hold.last_id_is)

    stage_so : (sources : List ℕ) → SameStage c.tables.held m.swept sources [] k.snapshot k.sweep (marking (marks_of m.store.held)) k.stage
    stage_so sources = subst (SameStage c.tables.held m.swept sources [] k.snapshot k.sweep (marking (marks_of m.store.held))) (sym begins.stage_is)
        (same_marking c.tables.held k.snapshot m.swept sources k.sweep (marks_of m.store.held) (mark_level k.snapshot c.tables.held MOST_LEVEL)
        (left_first m.store.held c.tables.held k.snapshot at.valid.headers at.represents.slots_hold above))

    run_so : SameRun c.tables.held m.swept (first snapshot) k
    run_so = record {
      percent_is = sym begins.percent_is;
      snapshot_is = begins.snapshot_is;
      recorded_is = sym begins.nothing_yet.0;
      stage_is = stage_so (sources_in (first snapshot));
    }

    begun : (tables : d.tables ≡ c.tables) → d.disk.size ≡ c.disk.size → d.parts ≡ c.parts → d.acknowledged ≡ c.acknowledged → d.known ≡ c.known → d.stop ≡ None
        → IsMachine followed (record m { collection = Some (first snapshot) }) d
    begun tables size parts count index stop =
        goes_on c m at d m.parts (Some (first snapshot)) tables size (subst (SameParts m.parts) (sym parts) at.parts) count index
        (subst (SameCollection c.tables.held m.swept (Some (first snapshot))) (sym begins.runs) run_so) runs stop

  none_at : c.collection ≡ None → m.collection ≡ None
  none_at none = none_runs c.tables.held m.swept m.collection c.collection at.collection none

  no_part : IsAtRightPart of_roots a (asked.GcStart percent) m
  no_part taken is = absurd (let wrong : None ≡ Some taken = is in cc)

  pub start_row : (answer : Result Answer Refusal) (buf : List ℕ) → StartRow percent answer c d → Rests answer c d → IsUnderWayIn c.tables.held c.collection
      → d.stop ≡ None → d.acknowledged ≡ c.acknowledged → Left answer buf
  start_row (Ok (answers.Started snapshot)) buf (begins, parts) rests under stop count = (
    record m { collection = Some (first snapshot) },
    (none_at begins.none_ran, next snapshot begins, refl),
    begun snapshot begins rests.tables.tables_are rests.disk.only.later.size_is parts count rests.tables.index_is stop,
  )
  start_row (Err (refusals.Collecting phase)) buf (is, same, parts) rests under stop count = (
    m,
    (
      no_part,
      (
        is_collecting m.store c.tables.held m.swept m.collection is.0 phase at.valid.headers at.represents.slots_hold (subst (IsUnderWayIn c.tables.held) is.1.0 under)
            (one_runs c.tables.held m.swept m.collection c.collection is.0 at.collection is.1.0) is.1.1,
        refl,
      ),
    ),
    as_it_was c m at runs d (left_by c m at runs d rests.tables rests.disk.only.later.size_is count (same_at c m at runs d same) stop) parts,
  )
  start_row (Err refusals.Memory) buf un rests under stop count = (
    m,
    (none_at un.none_ran, refl),
    as_it_was c m at runs d (left_by c m at runs d rests.tables rests.disk.only.later.size_is count (same_at c m at runs d un.none_runs) stop) un.parts_are,
  )
  start_row (Err refusals.DiskRead) buf un rests under stop count =
      absurd (let wrong : Some (at.index runs).places ≡ None = sym (at.index runs).known_is ∙ un.cause.cause in cc)
  start_row (Err (refusals.Missing key)) buf un rests under stop count = (
    m,
    (no_part, (none_at un.none_ran, ((λ known. known), refl))),
    as_it_was c m at runs d (left_by c m at runs d rests.tables rests.disk.only.later.size_is count (same_at c m at runs d un.none_runs) stop) un.parts_are,
  )
  start_row (Err (refusals.Damaged byte why)) buf un rests under stop count = (
    m,
    (no_part, (none_at un.none_ran, ((λ known. known), refl))),
    as_it_was c m at runs d (left_by c m at runs d rests.tables rests.disk.only.later.size_is count (same_at c m at runs d un.none_runs) stop) un.parts_are,
  )
  start_row (Err refusal) buf un rests under stop count = absurd un.cause.cause
  start_row (Ok answer) buf row rests under stop count = absurd row

-- What a step of the sweep does to the whole collection.
use Rattle.gc_steps.proofs.Prelude.{◌≡◌, ℕ, ◌<◌, Option, Some, None, refl, sym, ◌∙◌, ap, subst, arith, PlaceMap, Plan, MapStays, Ending, DiskView, size_of, slot_at, Refusal, Changes, KnownMap, Runs, Tables, Next, Flush, Release, SweepValue, CopiesSource, HasFlushed, HasReleased, HasFreed, steps_left, IsSweeping, Collection, Stage, Did, GoesBy, IsStepRefusal, Keeps, Makes, Moment, RunsOn, StepsTo, TablesAfter, Touches, answer_at, moment, steps_to_come, IsUnderWay}
use Rattle.base_model.specs.Known.{Known}
use Rattle.copy_forward.specs.Copying.{Forgets}
use Rattle.dd_disk.specs.View.{IsDurable}
use Rattle.ingest_steps.specs.Sealing.{places_with}
use Rattle.refusals.specs.declared.refusal.Phase.TheVariants as phases
use Rattle.gc_sweep.specs.declared.sweep.Next.TheVariants.{Copy}
use Rattle.gc_sweep.specs.Copying.{IsCopyStepRefusal, copy_step}
use Rattle.gc_sweep.specs.Flushing.{WritesCopies}
use Rattle.gc_sweep.proofs.Nears.{copy_nears, flush_nears, release_nears}
use Rattle.gc_steps.specs.declared.collection.Stage.TheVariants.{Sweep}
use Rattle.gc_steps.specs.Stepping.{Refuses, answer_of}
use Rattle.gc_steps.proofs.Nearer.{fewer_to_sweep}
use Rattle.gc_steps.proofs.TablesRun.{runs_emptied, runs_same}
use Rattle.gc_steps.proofs.UnderWay.{at_stage}

-- the collection with its sweep gone on
abbrev pub swept : Collection → SweepValue → Collection
swept c s = record c { sweep = s }

module _ (c : Collection) (stage : c.stage ≡ Sweep) (next : Next) (next_is : c.sweep.next ≡ next) where
  -- what is so where this comes next in the sweep
  at_next : (P : Stage → Next → Type 0) → P Sweep next → P c.stage c.sweep.next
  at_next P is = subst (λ (n : Next). P c.stage n) (sym next_is) (subst (λ (s : Stage). P s next) (sym stage) is)

  answers : answer_at Sweep next c.sweep.freed c.sweep.copied ≡ answer_of c
  answers = sym (
      ap (λ (s : Stage). answer_at s c.sweep.next c.sweep.freed c.sweep.copied) stage
      ∙ ap (λ (n : Next). answer_at Sweep n c.sweep.freed c.sweep.copied) next_is
      )

module _ (t u : Tables) (known now : Option PlaceMap) (old new : DiskView) (c : Collection) (s : SweepValue) (source entry : ℕ) (stage : c.stage ≡ Sweep)
    (under : IsUnderWay t.held c) where
  abbrev before : Moment
  before = moment t known old c

  abbrev after : Moment
  after = moment u now new (swept c s)

  sweeping : IsSweeping t.held c.snapshot c.sweep
  sweeping = at_stage t.held c Sweep under stage

  fewer : (chosen : ℕ) → steps_left s < steps_left c.sweep → steps_to_come chosen u.held (swept c s) < steps_to_come chosen t.held c
  fewer chosen less = fewer_to_sweep chosen t.held u.held c (swept c s) under stage refl less

  -- ---- a source was copied

  module _ (next_is : c.sweep.next ≡ Copy source entry) (same : u ≡ t) (size : new.size ≡ old.size) where
    runs_copied : (found : Option Plan) → Forgets known now found → Runs old.size known t → Runs new.size now u
    runs_copied None is runs = subst (Runs new.size now) (sym same) (runs_same old.size new.size known now t size is runs)
    runs_copied (Some plan) is runs = subst (Runs new.size now) (sym same) (runs_emptied old.size new.size known now t plan.dead.items size is.0 is.1 runs)

    pub copy_made : CopiesSource (copy_step t.held c.live known source entry c.sweep) now old new s → Makes before after (Did phases.Copy)
    copy_made copies = record {
      answer_is = answers c stage (Copy source entry) next_is;
      steps = at_next c stage (Copy source entry) next_is (λ st n. StepsTo st n before after) (copies, refl);
      tables = at_next c stage (Copy source entry) next_is (λ st n. TablesAfter st n before after) same;
      runs = at_next c stage (Copy source entry) next_is (λ st n. RunsOn st n before after) (runs_copied copies.found copies.forgets);
      nearer = λ chosen most. fewer chosen (copy_nears t.held c.snapshot source entry c.sweep s sweeping c.live known now old new next_is copies);
    }

    pub copy_refused : (refusal : Refusal) → s ≡ c.sweep → IsCopyStepRefusal (copy_step t.held c.live known source entry c.sweep) old new refusal → MapStays known now refusal
        → Refuses before after refusal
    copy_refused refusal stays cause map = record {
      cause = at_next c stage (Copy source entry) next_is (λ st n. IsStepRefusal st n before new refusal) cause;
      kept = at_next c stage (Copy source entry) next_is (λ st n. Keeps st n before after refusal) (ap (swept c) stays, map);
      tables_kept = same;
      runs_still = λ is runs. subst (Runs new.size now) (sym same) (runs_same old.size new.size known now t size is runs);
    }

  pub copy_goes : (next_is : c.sweep.next ≡ Copy source entry) (e : Ending) (slots : ℕ) → old.size ≡ size_of slots
      → ((n : ℕ) → old.size ≡ size_of n → Changes (slot_at n) e old new) → GoesBy c t e old new
  copy_goes next_is e slots size changes = record {
    later = (changes slots size).later;
    faults_are = (changes slots size).faults_are;
    touches = at_next c stage (Copy source entry) next_is (λ st n. Touches st n c.sweep t e old new) changes;
  }

  -- ---- what was copied was written

  pub flush_made : (next_is : c.sweep.next ≡ Flush source entry) (size : new.size ≡ old.size) (slot : ℕ) → WritesCopies t old.size known slot c.sweep.buffer u
      → Known old.content (λ _. KnownMap known (λ m. now ≡ places_with c.sweep.buffer slot (Some m))) → HasFlushed source entry c.sweep s → Makes before after (Did phases.Flush)
  flush_made next_is size slot writes places flushed = record {
    answer_is = answers c stage (Flush source entry) next_is;
    steps = at_next c stage (Flush source entry) next_is (λ st n. StepsTo st n before after)
        (record { slot = slot; writes = writes; places = places; flushed = flushed; sweeps = refl });
    tables = at_next c stage (Flush source entry) next_is (λ st n. TablesAfter st n before after) (slot, writes);
    runs = at_next c stage (Flush source entry) next_is (λ st n. RunsOn st n before after) (λ given content m is runs.
        subst (λ (n : ℕ). Runs n now u) (sym size)
        (subst (λ (k : Option PlaceMap). Runs old.size k u) (ap (places_with c.sweep.buffer slot) is ∙ sym (places given content m is))
        (writes.written.runs known (omega arith) runs)));
    nearer = λ chosen most. fewer chosen (flush_nears t.held c.snapshot source entry c.sweep s sweeping next_is flushed);
  }

  -- ---- what was ready was given back

  pub release_made : (next_is : c.sweep.next ≡ Release source entry) (size : new.size ≡ old.size) → HasFreed t c.sweep.ready.items u → HasReleased u.held source entry c.sweep s
      → IsDurable new
      → Known old.content (λ _. now ≡ known) → Makes before after (Did phases.Release)
  release_made next_is size freed released durable map = record {
    answer_is = answers c stage (Release source entry) next_is;
    steps = at_next c stage (Release source entry) next_is (λ st n. StepsTo st n before after) (released, refl, durable, map);
    tables = at_next c stage (Release source entry) next_is (λ st n. TablesAfter st n before after) freed;
    runs = at_next c stage (Release source entry) next_is (λ st n. RunsOn st n before after) (λ none same runs.
        subst (λ (n : ℕ). Runs n now u) (sym size)
        (subst (λ (k : Option PlaceMap). Runs old.size k u) (sym same) (freed.runs old.size known none runs)));
    nearer = λ chosen most. fewer chosen (release_nears t.held c.snapshot source entry c.sweep s sweeping u.held next_is released);
  }

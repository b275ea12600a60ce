-- A name that is not opened: what the promise says of it.
use Rattle.backup_engine.proofs.Prelude.{◌≡◌, inl, inr, ℕ, false, List, [], Option, Some, None, Result, Err, refl, sym, ◌∙◌, ap, subst, DiskView, Reads, ending_of, SourceView, SinkView, ACTORS, Idle, Refusal, Memory, NoFile, BadName, WrongPart, NameMap, blames, CoreStep, OpenRow, CoreState, Event, Restore, IsCaused, IsNotOpened, Keeps, ending_in}
use Rattle.std.proofs.Common.{is_some}
use Rattle.std.specs.Prelude.{replicate}
use Rattle.std.specs.FinMap as finite
use Rattle.dd_disk.proofs.Ended.{reads_on}
use Rattle.actor_parts.specs.declared.part.Part.{Part}
use Rattle.actor_parts.specs.Parts.{part_of}
use Rattle.actor_parts.specs.StepValue as asked
use Rattle.reply_text.specs.declared.ending.Ending.{Ending}
use Rattle.reply_text.specs.declared.ending.Ending.TheVariants as endings
use Rattle.store_model.specs.Image.{names_of}
use Rattle.read_steps.specs.Readers as readers
use Rattle.backup_engine.proofs.Called.{Called}
use Rattle.backup_engine.proofs.GivenOut.{reads_closed}
use Rattle.backup_engine.proofs.NotDone.{holds}
use Rattle.backup_engine.proofs.Reading.{reads_frame}
use Rattle.backup_engine.proofs.ReadSteps.{LeavesAll, open_leaves, steps_of}
use Rattle.backup_engine.specs.Seen.{devices}

-- no name has a file where its entry is none
is_none : {A : Type 0} (o : Option A) → o ≡ None → is_some o ≡ false
is_none o is = ap is_some is

-- the actors of a core that was opened just now
idle_first : part_of (replicate ACTORS Idle) 0 ≡ Idle
unfolding part_of
idle_first = refl

module _ (C : Type 0) (state : C → CoreState) (v w : DiskView) (old new : C) (was : Called C state v w old new) (name : List ℕ) (source : SourceView) (sink : SinkView)
    (refusal : Refusal) (buf : List ℕ) where
  abbrev asks : Event
  asks = record { actor = 0; step = asked.OpenRead name; answer = Err refusal; buf = buf }

  module _ (step : CoreStep (state old) asks (state new)) where
    leaves : LeavesAll (Err refusal) (state old) (state new)
    leaves = open_leaves name (Err refusal) buf (state old) (state new) was.opened.stop_is step

    of_core : Reads (ending_of (blames refusal)) (state old).disk w
    of_core = reads_closed (ending_of (blames refusal)) (state old).disk (state new).disk w leaves.reads was.last

    of_call : Reads (ending_of (blames refusal)) v w
    of_call = reads_on (ending_of (blames refusal)) v (state old).disk w was.first of_core

    row : OpenRow name 0 (Err refusal) (state old) (state new)
    row = (steps_of asks (state old) (state new) was.opened.stop_is step).made.row

    idle : part_of (state old).parts 0 ≡ Idle
    idle = ap (λ (parts : List Part). part_of parts 0) was.opened.parts_are ∙ idle_first

    -- ---- over any disk

    -- no reader has this name, since it is no name, or has no root; else there was no memory
    caused_by : (r : Refusal) → readers.IsOpenRefusal (state old).tables.names name (part_of (state old).parts 0) r →
        IsCaused (Restore name) [] (devices v w source source sink sink) (Some (endings.Refused r))
    caused_by Memory cause = tt
    caused_by BadName cause = inr (inl (holds C state v w old new was of_core.only.later, cause.1))
    caused_by NoFile cause =
        inr (inl (
          holds C state v w old new was of_core.only.later,
          (
            cause.1.0,
            is_none (finite.get (names_of was.opened.store) name) (ap (λ (names : NameMap). finite.get names name) (sym was.opened.represents.names_are.names_are)
                ∙ cause.1.1),
          ),
        ))
    caused_by (WrongPart kind) cause = absurd (cause.0 idle)
    caused_by r cause = absurd cause.1

    kept : Keeps (Restore name) [] (Some (endings.Refused refusal)) (devices v w source source sink sink)
    kept = record {
      any = record {
        took = (refl, refl);
        caused = caused_by refusal row.0;
        wrote = inl refl;
        faults_are = of_call.faults_are;
        durable = tt;
        source_faults = λ other. refl;
        sink_faults = λ other. refl;
      };
      frame = reads_frame (Restore name) (Some (endings.Refused refusal)) v w of_call.only;
      found = tt;
      blank = tt;
      untouched = tt;
    }

pub not_opened : (C : Type 0) (state : C → CoreState) (v w : DiskView) (old new : C) → Called C state v w old new →
    (name : List ℕ) (result : Result Unit Ending) (source : SourceView) (sink sink_now : SinkView)
    → IsNotOpened C state name result old new sink sink_now → Keeps (Restore name) [] (ending_in result) (devices v w source source sink sink_now)
not_opened C state v w old new was name result source sink sink_now is =
    subst (λ (r : Result Unit Ending). Keeps (Restore name) [] (ending_in r) (devices v w source source sink sink_now)) (sym is.result_is)
    (subst (λ (s : SinkView). Keeps (Restore name) [] (Some (endings.Refused is.refusal)) (devices v w source source sink s)) (sym is.sink_is)
    (kept C state v w old new was name source sink is.refusal is.buf is.asked))

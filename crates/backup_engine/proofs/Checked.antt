-- An inspection to its end, and then the last line.
use Rattle.backup_engine.proofs.Prelude.{◌≡◌, inr, ℕ, ◌+◌, ◌-◌, ◌^◌, List, [], ◌∷◌, length, min, Ok, Err, refl, ◌∙◌, subst, arith, flat_map, Rose, Appended, DiskView, shown_content, SinkView, AppendedPart, Sink}
use Rattle.inspection.specs.declared.damage.Damage.{Damage}
use Rattle.inspection.specs.declared.tally.Tally.{Tally}
use Rattle.recovery.specs.Inspecting.{IsInspected}
use Rattle.reply_text.specs.Text.{checked_line, damage_line}
use Rattle.backup_engine.specs.Checking.{Checks, ShowsAll, status_of_damages}
use Rattle.backup_engine.proofs.GiveRuns.{written_on, written_part}

-- none was counted only where there is none
none_bad : (damages : List Damage) (bad : ℕ) → bad ≡ min (0 + length damages) (2 ^ 64 - 1) → bad ≡ 0 → 0 ≡ status_of_damages damages
none_bad [] bad counted none = refl
none_bad (first ∷ more) bad counted none = absurd (omega (arith, counted, none))

some_bad : (damages : List Damage) (bad : ℕ) → bad ≡ min (0 + length damages) (2 ^ 64 - 1) → ¬ (bad ≡ 0) → 7 ≡ status_of_damages damages
some_bad [] bad counted some = absurd (some (omega (arith, counted)))
some_bad (first ∷ more) bad counted some = refl

module _ (old new : DiskView) (sink mid sink_now : SinkView) (tally : Tally) (inspected : IsInspected damage_line old new sink mid tally) where
  abbrev damages : List Damage
  damages = inspected.found.damages

  abbrev last_line : List ℕ
  last_line = checked_line tally.cells tally.copies tally.bad

  shows_all : ShowsAll inspected.found tally old new
  shows_all = record {
    slots = inspected.slots;
    sized = inspected.sized;
    shown = inspected.shown;
    counts = inspected.reports.counts;
    exact = λ image told. (shown_content old new _ image inspected.shown told, inspected.exact image told);
  }

  bad_is : tally.bad ≡ min (0 + length damages) (2 ^ 64 - 1)
  bad_is = inspected.reports.counts.bad (omega arith)

  module _ (last : Appended mid.written sink_now.written last_line) (same : sink_now.faults ≡ mid.faults) where
    checked : (status : ℕ) → status ≡ status_of_damages damages → Checks (Ok status) old new sink sink_now
    checked status is = (
      inspected.found,
      (
        record {
          tally = tally;
          all = shows_all;
          wrote = (
            written_on sink.written mid.written sink_now.written (flat_map damage_line damages) last_line inspected.reports.written.bytes last,
            same ∙ inspected.reports.written.no_fault,
          );
        },
        is,
      ),
    )

    pub checked_right : tally.bad ≡ 0 → Checks (Ok 0) old new sink sink_now
    checked_right none = checked 0 (none_bad damages tally.bad bad_is none)

    pub checked_damaged : ¬ (tally.bad ≡ 0) → Checks (Ok 7) old new sink sink_now
    checked_damaged some = checked 7 (some_bad damages tally.bad bad_is some)

  -- the sink failed at the last line
  pub last_lost : AppendedPart mid.written sink_now.written last_line → Rose mid.faults sink_now.faults → Checks (Err Sink) old new sink sink_now
  last_lost part rose = inr (
    inspected.found,
    record {
      tally = tally;
      all = shows_all;
      wrote = (
        written_part sink.written mid.written sink_now.written (flat_map damage_line damages) last_line inspected.reports.written.bytes part,
        subst (λ n. Rose n sink_now.faults) inspected.reports.written.no_fault rose,
      );
    },
  )

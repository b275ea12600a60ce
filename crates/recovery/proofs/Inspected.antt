-- An inspection of a disk, part by part.
use Rattle.recovery.proofs.Prelude.{ℕ, ◌+◌, ◌-◌, ◌^◌, ◌<◌, length, Some, List, [], Result, Ok, Err, OnOk, None, refl, subst, ◌∙◌, inl, inr, Shows, DiskView, IsLater, OnlyReads, reads_here, always, shown_content, since, until, weaker, Found, nothing, and_then, cell_with, Counts, Damage, Tally, Refusal, image_found, nothing_counted, AreCounted, IsFormatRefusal}
use Rattle.std.proofs.Common.{◌≡◌}
use Rattle.container_log.specs.Inspecting.{slots_found}
use Rattle.dd_io.specs.Flow.{SinkView}
use Rattle.inspection.specs.Handing.{Finds, Reports, Stops, StopsAmong}
use Rattle.inspection.specs.declared.halt.Halt.{Halt}
use Rattle.inspection.proofs.Steps.{finds_first, finds_on, finds_shown, reports_nothing, stops_first, stops_on, stops_shown, then_nothing}
use Rattle.journal_cells.specs.Inspecting.{journal_found}
use Rattle.recovery.specs.Inspecting.{IsInspected, IsUninspected, ended_by}
use Rattle.recovery.specs.Opening.{IsSized}
use Rattle.recovery.specs.declared.inspecting.Uninspected.{Uninspected}
use Rattle.recovery.specs.declared.inspecting.Uninspected.TheVariants.{Refused}
use Rattle.recovery.proofs.Small.{exact_counts, image_small}

pub ok_map : {T E : Type 0} (result : Result T E) {P Q : Type 0} → (P → Q) → OnOk result P → OnOk result Q
ok_map (Ok x) each holds = each holds
ok_map (Err e) each holds = tt

-- ---- the parts

module _ (line : Damage → List ℕ) (slots : ℕ) where
  after_format : List ℕ → Found
  after_format image = and_then (journal_found image) (slots_found slots 0 [] image)

  pub stops_at_format : (v : DiskView) (sink sink_now : SinkView) (halt : Halt) → Stops line (cell_with None) sink sink_now halt →
      StopsAmong line (image_found slots) v v sink sink_now halt
  unfolding after_format
  stops_at_format v sink sink_now halt stops = stops_shown line (cell_with None) (image_found slots) after_format v v sink sink_now halt (always v v _ (λ image sized. refl)) stops

  module _ (old : DiskView) (sink sink_1 : SinkView) (tally tally_1 : Tally) (format : Reports line (cell_with None) sink sink_1 tally tally_1) where
    finds_format : Finds line (image_found slots) after_format old old (sink, tally) (sink_1, tally_1)
    unfolding after_format
    finds_format = finds_shown line (cell_with None) (image_found slots) after_format old old sink sink_1 tally tally_1 (always old old _ (λ image sized. refl)) format

    module _ (mid : DiskView) (sink_2 : SinkView) (reads : OnlyReads old mid) where
      pub stops_in_journal : (halt : Halt) → StopsAmong line journal_found old mid sink_1 sink_2 halt → StopsAmong line (image_found slots) old mid sink sink_2 halt
      unfolding after_format
      stops_in_journal halt stops =
          stops_on line (image_found slots) after_format old old mid sink sink_1 sink_2 tally tally_1 finds_format (reads_here old) reads.later halt
          (stops_first line journal_found (slots_found slots 0 []) old mid sink_1 sink_2 halt stops)

      module _ (tally_2 : Tally) (journal : Finds line journal_found (λ image. nothing) old mid (sink_1, tally_1) (sink_2, tally_2)) where
        finds_journal : Finds line (image_found slots) (slots_found slots 0 []) old mid (sink, tally) (sink_2, tally_2)
        unfolding after_format
        finds_journal =
            finds_on line (image_found slots) after_format old old mid sink sink_1 sink_2 tally tally_1 finds_format (reads_here old) reads.later (slots_found slots 0 []) tally_2
            (finds_first line journal_found (slots_found slots 0 []) old mid sink_1 sink_2 tally_1 tally_2 journal)

        module _ (new : DiskView) (sink_3 : SinkView) (later : IsLater mid new) where
          pub finds_all : (tally_3 : Tally) → Finds line (slots_found slots 0 []) (λ image. nothing) mid new (sink_2, tally_2) (sink_3, tally_3) →
              Finds line (image_found slots) (λ image. nothing) old new (sink, tally) (sink_3, tally_3)
          finds_all tally_3 last = finds_on line (image_found slots) (slots_found slots 0 []) old mid new sink sink_2 sink_3 tally tally_2 finds_journal reads later
              (λ image. nothing) tally_3 last

          pub stops_in_slots : (halt : Halt) → StopsAmong line (slots_found slots 0 []) mid new sink_2 sink_3 halt → StopsAmong line (image_found slots) old new sink sink_3 halt
          stops_in_slots halt last = stops_on line (image_found slots) (slots_found slots 0 []) old mid new sink sink_2 sink_3 tally tally_2 finds_journal reads later halt last

-- ---- the whole

pub refused_so : (line : Damage → List ℕ) (old new : DiskView) (sink : SinkView) (refusal : Refusal) → IsFormatRefusal (Shows old new) old.size refusal →
    IsUninspected line old new sink sink (Refused refusal)
refused_so line old new sink refusal cause = inl (record { refusal = refusal; ending_is = refl; cause = cause; written = (reports_nothing line sink nothing_counted).written })

module _ (line : Damage → List ℕ) (slots : ℕ) (old mid new : DiskView) (sized : IsSized (Shows old mid) old.size slots) (before : OnlyReads old mid) (later : IsLater mid new)
    (sink sink_now : SinkView) where
  sized_still : IsSized (Shows old new) old.size slots
  sized_still = record { count = sized.count; size_is = sized.size_is; format = until old mid new sized.format before.later.clock_is later }

  exactly : (found : Found) (tally : Tally) → Shows old new (λ image. image_found slots image ≡ found) → Counts found nothing_counted tally → (image : List ℕ) →
      old.content ≡ Some image → AreCounted found tally
  exactly found tally shown counts image told =
      let is = shown_content old new _ image shown told in
      exact_counts found tally (subst (λ (f : Found). f.cells + f.copies + length f.damages < 2 ^ 64 - 1) is (image_small slots image sized.count.1)) counts

  pub inspected : (tally tally_now : Tally) → tally ≡ nothing_counted → Finds line (image_found slots) (λ image. nothing) mid new (sink, tally) (sink_now, tally_now) →
      IsInspected line old new sink sink_now tally_now
  inspected tally tally_now none finds =
      let shown : Shows old new (λ image. image_found slots image ≡ finds.found) = weaker old new (λ image sized is. is ∙ then_nothing finds.found)
      (since old mid new before finds.shown) in
      let reports = subst (λ (t : Tally). Reports line finds.found sink sink_now t tally_now) none finds.reports in
      record { slots = slots; sized = sized_still; found = finds.found; shown = shown; reports = reports; exact = exactly finds.found tally_now shown reports.counts }

  pub cut_short : (halt : Halt) (ending : Uninspected) → ending ≡ ended_by halt → StopsAmong line (image_found slots) mid new sink sink_now halt →
      IsUninspected line old new sink sink_now ending
  cut_short halt ending is stops = inr (record {
    slots = slots;
    sized = sized_still;
    halt = halt;
    ending_is = is;
    stops = record { damages = stops.damages; shown = since old mid new before stops.shown; written = stops.written };
  })

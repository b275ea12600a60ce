-- What was found and handed on, one after the other.
use Rattle.std.proofs.Common.{◌≡◌, ℕ, ◌+◌, List, [], ◌∷◌, ◌++◌, length, take, Option, Some, Err, refl, sym, ap, subst, ◌∙◌, arith, append_assoc, append-nil, length-append}
use Rattle.std.specs.List.{flat_map}
use Rattle.std.specs.Option.{option_to_list}
use Rattle.std.proofs.lemmas.Grind.{flat_map-append}
use Rattle.std.proofs.lemmas.List.Concat.{flat_map-cons}
use Rattle.std.proofs.Math.Seq.{take-append-add}
use Rattle.base_model.specs.Fault.{Rose}
use Rattle.base_model.specs.Known.{Appended}
use Rattle.dd_disk.specs.Shows.{Shows}
use Rattle.dd_disk.specs.View.{DiskView, IsLater, OnlyReads}
use Rattle.dd_disk.proofs.Shows.{also, always, weaker, both}
use Rattle.dd_io.specs.Flow.{SinkView, AppendedPart, Sends}
use Rattle.dd_io.specs.declared.sink.SinkFault.{SinkFault}
use Rattle.inspection.specs.Found.{Found, nothing, and_then, only_damage}
use Rattle.inspection.specs.Handing.{Rises, Counts, Written, PartlyWritten, WrittenUntil, Reports, Finds, Begins, Stops, StopsAmong}
use Rattle.inspection.specs.declared.damage.Damage.{Damage}
use Rattle.inspection.specs.declared.halt.Halt.{Halt}
use Rattle.inspection.specs.declared.halt.Halt.TheVariants.{Memory, DiskRead, Untaken}
use Rattle.inspection.specs.declared.tally.Tally.{Tally}

-- ---- counts

rises_none : (n : ℕ) → Rises 0 n n
rises_none n = λ small. omega (arith, small)

rises_on : (a b old mid new : ℕ) → Rises a old mid → Rises b mid new → Rises (a + b) old new
rises_on a b old mid new p q = λ small. (let first = p small in omega (arith, first, q (omega (arith, first))))

counts_none : (t : Tally) → Counts nothing t t
counts_none t = record { cells = rises_none t.cells; copies = rises_none t.copies; bad = rises_none t.bad }

counts_on : (f g : Found) (old mid new : Tally) → Counts f old mid → Counts g mid new → Counts (and_then f g) old new
counts_on f g old mid new first second = record {
  cells = rises_on f.cells g.cells old.cells mid.cells new.cells first.cells second.cells;
  copies = rises_on f.copies g.copies old.copies mid.copies new.copies first.copies second.copies;
  bad = subst (λ n. Rises n old.bad new.bad) (sym (length-append f.damages g.damages))
      (rises_on (length f.damages) (length g.damages) old.bad mid.bad new.bad first.bad second.bad);
}

-- ---- what was written

appended_none : (before : Option (List ℕ)) → Appended before before []
appended_none before = record { is = λ old told. told ∙ ap Some (sym (append-nil old)) }

appended_more : (before mid now : Option (List ℕ)) (front piece : List ℕ) → Appended before mid front → Appended mid now piece → Appended before now (front ++ piece)
appended_more before mid now front piece first second = record { is = λ old told. second.is (old ++ front) (first.is old told) ∙ ap Some (append_assoc old front piece) }

part_more : (before mid now : Option (List ℕ)) (front piece : List ℕ) → Appended before mid front → AppendedPart mid now piece → AppendedPart before now (front ++ piece)
part_more before mid now front piece first part = record {
  count = length front + part.count;
  fits = simp length-append (omega (arith, part.fits));
  is = record {
    is = λ old told. part.is.is (old ++ front) (first.is old told)
        ∙ ap Some (append_assoc old front (take part.count piece) ∙ ap (λ (t : List ℕ). old ++ t) (sym (take-append-add front piece part.count)));
  };
}

module _ (line : Damage → List ℕ) where
  written_none : (v : SinkView) → Written line [] v v
  written_none v = record { bytes = appended_none v.written; no_fault = refl }

  module _ (front ds : List Damage) (old mid new : SinkView) (first : Written line front old mid) where
    written_on : Written line ds mid new → Written line (front ++ ds) old new
    written_on second = record {
      bytes = subst (Appended old.written new.written) (sym (flat_map-append line front ds))
          (appended_more old.written mid.written new.written (flat_map line front) (flat_map line ds) first.bytes second.bytes);
      no_fault = second.no_fault ∙ first.no_fault;
    }

    partly_on : PartlyWritten line ds mid new → PartlyWritten line (front ++ ds) old new
    partly_on second = record {
      bytes = subst (AppendedPart old.written new.written) (sym (flat_map-append line front ds))
          (part_more old.written mid.written new.written (flat_map line front) (flat_map line ds) first.bytes second.bytes);
      fault = subst (λ n. Rose n new.faults) first.no_fault second.fault;
    }

    until_on : (halt : Halt) → WrittenUntil halt line ds mid new → WrittenUntil halt line (front ++ ds) old new
    until_on Memory second = written_on second
    until_on DiskRead second = written_on second
    until_on Untaken second = partly_on second

-- ---- what was found

-- the same numbers and the same damages
found_same : (f g : Found) → f.cells ≡ g.cells → f.copies ≡ g.copies → f.damages ≡ g.damages → f ≡ g
found_same f g cells copies damages =
    ap (λ (n : ℕ). record { cells = n; copies = f.copies; damages = f.damages }) cells
    ∙ ap (λ (n : ℕ). record { cells = g.cells; copies = n; damages = f.damages }) copies
    ∙ ap (λ (ds : List Damage). record { cells = g.cells; copies = g.copies; damages = ds }) damages

pub then_nothing : (f : Found) → and_then f nothing ≡ f
then_nothing f = found_same (and_then f nothing) f (omega arith) (omega arith) (append-nil f.damages)

pub nothing_then : (f : Found) → and_then nothing f ≡ f
nothing_then f = found_same (and_then nothing f) f (omega arith) (omega arith) refl

pub then_then : (f g h : Found) → and_then (and_then f g) h ≡ and_then f (and_then g h)
then_then f g h =
    found_same (and_then (and_then f g) h) (and_then f (and_then g h)) (omega arith) (omega arith) (append_assoc f.damages g.damages h.damages)

begins_more : (f g : Found) (ds : List Damage) → Begins ds g.damages → Begins (f.damages ++ ds) (and_then f g).damages
begins_more f g ds begins = (begins.0, ap (λ (t : List Damage). f.damages ++ t) begins.1 ∙ sym (append_assoc f.damages ds begins.0))

begins_first : (f g : Found) (ds : List Damage) → Begins ds f.damages → Begins ds (and_then f g).damages
begins_first f g ds begins = (begins.0 ++ g.damages, ap (λ (t : List Damage). t ++ g.damages) begins.1 ∙ append_assoc ds begins.0 g.damages)

one_line : (line : Damage → List ℕ) (d : Damage) → flat_map line (d ∷ []) ≡ line d
one_line line d = flat_map-cons line d [] ∙ append-nil (line d)

-- one was not taken
pub stops_one : (line : Damage → List ℕ) (given : Option Damage) (d : Damage) (old new : SinkView) (e : SinkFault) → given ≡ Some d →
    Sends {T = Unit {0}} {E = SinkFault} (line d) (Err e) old new → Stops line (only_damage given) old new Untaken
stops_one line given d old new e is sends = record {
  damages = option_to_list given;
  first = ([], sym (append-nil (option_to_list given)));
  written = record {
    bytes = subst (AppendedPart old.written new.written) (sym (ap (λ (o : Option Damage). flat_map line (option_to_list o)) is ∙ one_line line d)) sends.err;
    fault = sends.cause.failed;
  };
}

module _ (line : Damage → List ℕ) where
  -- nothing was done
  pub finds_none : (all : List ℕ → Found) (v : DiskView) (sink : SinkView) (tally : Tally) → Finds line all all v v (sink, tally) (sink, tally)
  finds_none all v sink tally = record {
    found = nothing;
    shown = always v v _ (λ image sized. sym (nothing_then (all image)));
    reports = record { counts = counts_none tally; written = written_none line sink };
  }

  -- and then more
  module _ (all rest : List ℕ → Found) (old mid new : DiskView) (sink sink_mid sink_now : SinkView) (tally tally_mid : Tally)
      (first : Finds line all rest old mid (sink, tally) (sink_mid, tally_mid)) (before : OnlyReads old mid) (later : IsLater mid new) where
    pub finds_on : (end : List ℕ → Found) (tally_now : Tally) → Finds line rest end mid new (sink_mid, tally_mid) (sink_now, tally_now) →
        Finds line all end old new (sink, tally) (sink_now, tally_now)
    finds_on end tally_now second = record {
      found = and_then first.found second.found;
      shown = weaker old new (λ image sized is. is.0 ∙ ap (and_then first.found) is.1 ∙ sym (then_then first.found second.found (end image)))
          (both old mid new first.shown before second.shown later);
      reports = record {
        counts = counts_on first.found second.found tally tally_mid tally_now first.reports.counts second.reports.counts;
        written = written_on line first.found.damages second.found.damages sink sink_mid sink_now first.reports.written second.reports.written;
      };
    }

    pub stops_on : (halt : Halt) → StopsAmong line rest mid new sink_mid sink_now halt → StopsAmong line all old new sink sink_now halt
    stops_on halt stops = record {
      damages = first.found.damages ++ stops.damages;
      shown = weaker old new (λ image sized is. subst (λ (f : Found). Begins (first.found.damages ++ stops.damages) f.damages) (sym is.0)
          (begins_more first.found (rest image) stops.damages is.1)) (both old mid new first.shown before stops.shown later);
      written = until_on line first.found.damages stops.damages sink sink_mid sink_now first.reports.written halt stops.written;
    }

  -- of what comes before more
  module _ (part rest : List ℕ → Found) (old new : DiskView) (sink sink_now : SinkView) where
    pub finds_first : (tally tally_now : Tally) → Finds line part (λ image. nothing) old new (sink, tally) (sink_now, tally_now) →
        Finds line (λ image. and_then (part image) (rest image)) rest old new (sink, tally) (sink_now, tally_now)
    finds_first tally tally_now finds = record {
      found = finds.found;
      shown = weaker old new (λ image sized is. ap (λ (f : Found). and_then f (rest image)) (is ∙ then_nothing finds.found)) finds.shown;
      reports = finds.reports;
    }

    pub stops_first : (halt : Halt) → StopsAmong line part old new sink sink_now halt → StopsAmong line (λ image. and_then (part image) (rest image)) old new sink sink_now halt
    stops_first halt stops = record {
      damages = stops.damages;
      shown = weaker old new (λ image sized is. begins_first (part image) (rest image) stops.damages is) stops.shown;
      written = stops.written;
    }

  -- ---- reports alone

  module _ (f g : Found) (sink sink_mid sink_now : SinkView) (tally tally_mid : Tally) (first : Reports line f sink sink_mid tally tally_mid) where
    pub reports_on : (tally_now : Tally) → Reports line g sink_mid sink_now tally_mid tally_now → Reports line (and_then f g) sink sink_now tally tally_now
    reports_on tally_now second = record {
      counts = counts_on f g tally tally_mid tally_now first.counts second.counts;
      written = written_on line f.damages g.damages sink sink_mid sink_now first.written second.written;
    }

    pub stops_after : (halt : Halt) → Stops line g sink_mid sink_now halt → Stops line (and_then f g) sink sink_now halt
    stops_after halt stops = record {
      damages = f.damages ++ stops.damages;
      first = begins_more f g stops.damages stops.first;
      written = until_on line f.damages stops.damages sink sink_mid sink_now first.written halt stops.written;
    }

  pub stops_before : (f g : Found) (sink sink_now : SinkView) (halt : Halt) → Stops line f sink sink_now halt → Stops line (and_then f g) sink sink_now halt
  stops_before f g sink sink_now halt stops = record { damages = stops.damages; first = begins_first f g stops.damages stops.first; written = stops.written }

  pub reports_nothing : (sink : SinkView) (tally : Tally) → Reports line nothing sink sink tally tally
  reports_nothing sink tally = record { counts = counts_none tally; written = written_none line sink }

  -- what reads showed to come first was reported
  pub finds_shown : (found : Found) (all rest : List ℕ → Found) (old new : DiskView) (sink sink_now : SinkView) (tally tally_now : Tally) →
      Shows old new (λ image. all image ≡ and_then found (rest image)) → Reports line found sink sink_now tally tally_now
      → Finds line all rest old new (sink, tally) (sink_now, tally_now)
  finds_shown found all rest old new sink sink_now tally tally_now shown reports = record { found = found; shown = shown; reports = reports }

  pub stops_shown : (found : Found) (all rest : List ℕ → Found) (old new : DiskView) (sink sink_now : SinkView) (halt : Halt) →
      Shows old new (λ image. all image ≡ and_then found (rest image)) → Stops line found sink sink_now halt
      → StopsAmong line all old new sink sink_now halt
  stops_shown found all rest old new sink sink_now halt shown stops = record {
    damages = stops.damages;
    shown = weaker old new (λ image sized is. subst (λ (f : Found). Begins stops.damages f.damages) (sym is) (begins_first found (rest image) stops.damages stops.first)) shown;
    written = stops.written;
  }

  -- memory or a read failed before anything was found
  pub stops_unread : (all : List ℕ → Found) (old new : DiskView) (sink : SinkView) → StopsAmong line all old new sink sink DiskRead
  stops_unread all old new sink = record { damages = []; shown = always old new _ (λ image sized. ((all image).damages, refl)); written = written_none line sink }

  pub stops_without : (all : List ℕ → Found) (old new : DiskView) (sink : SinkView) → StopsAmong line all old new sink sink Memory
  stops_without all old new sink = record { damages = []; shown = always old new _ (λ image sized. ((all image).damages, refl)); written = written_none line sink }

  -- what was found is the same by another name
  pub finds_as : (all other rest last : List ℕ → Found) (old new : DiskView) (sink sink_now : SinkView) (tally tally_now : Tally) →
      Shows old new (λ image. all image ≡ other image) → Shows old new (λ image. rest image ≡ last image)
      → Finds line all rest old new (sink, tally) (sink_now, tally_now) → Finds line other last old new (sink, tally) (sink_now, tally_now)
  finds_as all other rest last old new sink sink_now tally tally_now same end finds = record {
    found = finds.found;
    shown = weaker old new (λ image sized is. sym is.1.0 ∙ is.0 ∙ ap (and_then finds.found) is.1.1) (also old new finds.shown (also old new same end));
    reports = finds.reports;
  }

  pub stops_as : (all other : List ℕ → Found) (old new : DiskView) (sink sink_now : SinkView) (halt : Halt) → Shows old new (λ image. all image ≡ other image) →
      StopsAmong line all old new sink sink_now halt
      → StopsAmong line other old new sink sink_now halt
  stops_as all other old new sink sink_now halt same stops = record {
    damages = stops.damages;
    shown = weaker old new (λ image sized is. subst (λ (f : Found). Begins stops.damages f.damages) is.1 is.0) (also old new stops.shown same);
    written = stops.written;
  }

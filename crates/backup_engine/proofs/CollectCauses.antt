-- Why a step of a collection is refused, of the whole call: by what reads returned since it began.
use Rattle.backup_engine.proofs.Prelude.{each_so, ◌≡◌, ◌≢◌, inl, inr, ◌+◌, ◌<◌, ◌≤◌, ℕ, zero, suc, List, [], ◌∷◌, ◌++◌, drop, get_or, length, Option, None, Some, refl, sym, ◌∙◌, subst, arith, Contains, AllByRecursion, Contains-append_right, Contains-get_or, range, Known, Entry, Kind, PlaceMap, HeaderValue, Reads, Shows, DiskView, IsLater, Both, shown_content, SourceView, SinkView, LAST_ID, size_of, slot_at, IsScanFault, HasMarkedAll, Moment, Touches, HasStage, Stage, Mark, Filter, Select, SweepStage, Flush, Release, End, of_each, Refusal, Memory, DiskRead, DiskWrite, Corrupt, Numbers, Damaged, Refused, SameBefore, WereFound, HoldsSlot, IsIndexOf, bytes_at, FindsNames, Holds, IsCaused, IsUnmarked, IsUnwritten, ShownSince, ShownThere, Collect}
use Rattle.std.proofs.lemmas.List.Sums.{sum_by-append, sum_by-cons}
use Rattle.container_meta.specs.Spelling.{header_size}
use Rattle.container_meta.proofs.Again.{header_fits}
use Rattle.container_meta.specs.Segments.{Contents}
use Rattle.container_meta.specs.Spelling.{Follow, IsHeader, bytes_of}
use Rattle.copy_forward.specs.Copying.{IsCopyRefusal, copy_task}
use Rattle.copy_forward.specs.Headers.{IsHeaderRefusal}
use Rattle.copy_forward.specs.Planning.{IsOneRefusal, IsPlanRefusal, IsStuck, Planned, Source, planned, source_of}
use Rattle.dd_disk.specs.Ending.{Done, Ending}
use Rattle.dd_disk.specs.Shows.{Part}
use Rattle.disk_format.specs.Layout.{data_at}
use Rattle.gc_enumerate.specs.Live.{LiveKeys}
use Rattle.gc_steps.specs.Filtering.{IsRecordRefusal}
use Rattle.gc_steps.specs.Marking.{StopsScan, scan_for}
use Rattle.gc_steps.specs.Scanning.{ShowsAt}
use Rattle.gc_steps.specs.Stepping.{IsStepRefusal}
use Rattle.gc_sweep.specs.declared.sweep.Next.{Next}
use Rattle.gc_sweep.specs.declared.sweep.Next.TheVariants.{Copy}
use Rattle.gc_sweep.specs.Copying.{IsCopyStepRefusal, copy_step}
use Rattle.gc_sweep.specs.Flushing.{IsFlushStepRefusal}
use Rattle.store_model.proofs.Copies.{data_within}
use Rattle.backup_engine.proofs.CollectFaults.{fault_wider}
use Rattle.backup_engine.proofs.CollectSteps.{IsMarking, both_from}
use Rattle.backup_engine.proofs.OtherHeaders.{CameTo, copied_some, marked_some, other_header, recorded_some}
use Rattle.backup_engine.specs.Seen.{devices}

-- ---- entries

-- what an entry names lies in the data of its slot
all_within : (kind : Kind) (before entries : List Entry) → Follow kind before entries → bytes_of before + bytes_of entries ≤ 212480 →
    AllByRecursion (λ e. e.offset + e.length ≤ 212480) entries
all_within kind before [] follow few = tt
all_within kind before (e ∷ es) follow few =
    let more : bytes_of (before ++ e ∷ []) + bytes_of es ≤ 212480 =
    omega (arith, few, sum_by-cons (λ (y : Entry). y.length) e es, sum_by-append (λ (y : Entry). y.length) before (e ∷ []), sum_by-cons (λ (y : Entry). y.length) e []) in
    (omega (arith, follow.0.offset, few, sum_by-cons (λ (y : Entry). y.length) e es), all_within kind (before ++ e ∷ []) es follow.1 more)

entries_within : (h : HeaderValue) → IsHeader h → AllByRecursion (λ e. e.offset + e.length ≤ 212480) h.entries
entries_within h right = all_within h.kind [] h.entries right.entries (omega (arith, data_within h right))

-- one of those from a number on is one
of_rest : (from : ℕ) (entries : List Entry) (e : Entry) → Contains (drop from entries) e → Contains entries e
of_rest zero entries e is = is
of_rest (suc from) [] e is = is
of_rest (suc from) (x ∷ xs) e is = Contains-append_right (x ∷ []) xs e (of_rest from xs e is)

-- the entry at which a plan is stuck
record IsStuckAt (s : Source) (shown : (List ℕ → Type 0) → Type 0) (refusal : Refusal) (entries : List Entry) : Type 0 where
  entry : Entry
  one_of : Contains entries entry
  buffer : Contents
  cause : IsOneRefusal s shown entry buffer refusal

stuck_at : (s : Source) (shown : (List ℕ → Type 0) → Type 0) (refusal : Refusal) (entries : List Entry) (before : Planned) → IsStuck s shown entries before refusal →
    IsStuckAt s shown refusal entries
stuck_at s shown refusal [] before is = absurd is
stuck_at s shown refusal (e ∷ es) before (inl one) = record { entry = e; one_of = Contains-get_or (e ∷ es) 0 e (omega arith); buffer = before.buffer; cause = one }
stuck_at s shown refusal (e ∷ es) before (inr (mid, (one, stuck))) =
    let rest = stuck_at s shown refusal es mid stuck in
    record { entry = rest.entry; one_of = Contains-append_right (e ∷ []) es rest.entry rest.one_of; buffer = rest.buffer; cause = rest.cause }

-- ---- a step that was refused

-- The call began at v and ended at w; between them a step was refused, from one moment on to another.
module _ (percent : ℕ) (v w : DiskView) (source : SourceView) (sink : SinkView) (holds : Holds v w) (old : Moment) (new : DiskView) (first : IsLater v old.disk)
    (step : IsLater old.disk new) (last : Reads Done new w) where
  abbrev IsCausedBy : Refusal → Type 0
  IsCausedBy refusal = IsCaused (Collect percent) [] (devices v w source source sink sink) (Some (Refused refusal))

  -- what reads showed in the step, where the content has it still
  since : (P : List ℕ → Type 0) → Known w.content P → Shows old.disk new P → ShownSince v w P
  since P known shown = record {
    parts = shown.parts;
    returned = each_so (λ (part : Part). new.read_returned old.disk.clock part.at part.bytes) (λ (part : Part). w.read_returned v.clock part.at part.bytes) shown.parts
        (λ part was. last.only.later.returned v.clock part.at part.bytes (omega (arith, first.clock_is, step.clock_is))
        (new.returned_earlier v.clock old.disk.clock part.at part.bytes first.clock_is was)) shown.returned;
    known = known;
    shows = λ image sized has. shown.shows image (sized ∙ sym first.size_is) has;
  }

  -- after a step that only read
  since_reads : new.content ≡ old.disk.content → (P : List ℕ → Type 0) → Shows old.disk new P → ShownSince v w P
  since_reads same P shown = since P (λ image told. shown_content old.disk new P image shown (sym same ∙ (sym last.only.content_is ∙ told))) shown

  -- what the store came to, by the tables of the step
  abbrev Came : Type 0
  Came = CameTo holds.store old.tables.held

  -- the slot has a container, by them
  abbrev HasSome : ℕ → Type 0
  HasSome slot = get_or old.tables.held.ids.items slot 0 ≢ 0

  header_cause : Came → new.content ≡ old.disk.content → (slot : ℕ) → HasSome slot → (refusal : Refusal) → IsHeaderRefusal old.tables.held old.disk new slot refusal →
      IsCausedBy refusal
  header_cause came same slot some Memory cause = tt
  header_cause came same slot some DiskRead cause = tt
  header_cause came same slot some (Damaged at why) (at_is, inl damage) =
      inr (
        holds,
        inl (
          slot,
          (
            at_is,
            inl
                (record {
                  bytes = damage.bytes;
                  first = damage.first;
                  are_found = since_reads same (λ image. range (slot_at slot) (length damage.bytes) image ≡ damage.bytes) damage.are_found;
                }),
          ),
        ),
      )
  header_cause came same slot some (Damaged at why) (at_is, inr other) =
      inr (
        holds,
        inl (
          slot,
          (
            at_is,
            inr
                (other_header holds.store old.tables.held v w old.disk new slot why came some (λ h. since_reads same (λ image. HoldsSlot image slot (Some h))) other),
          ),
        ),
      )
  header_cause came same slot some refusal cause = absurd cause

  by_marks : (index : PlaceMap) → IsIndexOf holds.store.held index → (refusal : Refusal) → IsUnmarked index v w refusal → IsCausedBy refusal
  by_marks index all Memory unmarked = tt
  by_marks index all DiskRead unmarked = tt
  by_marks index all DiskWrite unmarked = tt
  by_marks index all refusal unmarked = inr (holds, inr (inl (index, (all, unmarked))))

  mark_cause : new.content ≡ old.disk.content → (index : PlaceMap) → IsIndexOf holds.store.held index → old.known ≡ Some index → (level slot : ℕ) (refusal : Refusal)
      → StopsScan old.tables.held old.known old.disk new level slot old.collection.live refusal → IsCausedBy refusal
  mark_cause same index all known level slot refusal stops =
      by_marks index all refusal (record {
        slot = slot;
        level = level;
        header = stops.header;
        right = stops.right;
        shown = since_reads same _ stops.shown;
        live = old.collection.live;
        fault = stops.fault;
        refusal_is = stops.refusal_is;
        cause = fault_wider (scan_for (Some index) old.collection.live slot level stops.header) (ShowsAt old.disk new) (ShownThere v w)
            (λ place bytes. since_reads same (λ image. bytes_at place image ≡ bytes))
            (λ at why. Some index ≡ None) (λ at why. ⊥) (λ at why none. let wrong = none in cc) stops.header.entries stops.fault
            (subst (λ (k : Option PlaceMap). IsScanFault (scan_for k old.collection.live slot level stops.header) (ShowsAt old.disk new) (λ at why. k ≡ None) stops.header.entries
            stops.fault) known stops.cause);
      })

  -- the index of a core is known, and so is not damaged
  untold : (tells : (places : PlaceMap) × (old.known ≡ Some places)) → old.known ≡ None → ⊥
  untold tells none = let wrong : Some tells.0 ≡ None = sym tells.1 ∙ none in cc

  record_cause : (tells : (places : PlaceMap) × (old.known ≡ Some places)) → Came → new.content ≡ old.disk.content → (slot : ℕ) → HasSome slot → (refusal : Refusal)
      → IsRecordRefusal old.tables.held old.known old.disk new slot refusal → IsCausedBy refusal
  record_cause tells came same slot some Memory cause = tt
  record_cause tells came same slot some DiskRead cause = tt
  record_cause tells came same slot some (Damaged at why) (inl cause) = header_cause came same slot some (Damaged at why) cause
  record_cause tells came same slot some (Damaged at why) (inr none) = absurd (untold tells none)
  record_cause tells came same slot some refusal cause = absurd cause

  -- ---- a source, whose slot lies before the end of the slots, where the content stays

  module _ (tells : (places : PlaceMap) × (old.known ≡ Some places)) (names : FindsNames holds.store v w) (slots slot : ℕ) (below : slot < slots)
      (moved : Both (SameBefore (slot_at slots)) old.disk.content new.content) where
    -- what was there is there
    since_before : (P : List ℕ → Type 0) → ((was image : List ℕ) → SameBefore (slot_at slots) was image → P was → P image) → Shows old.disk new P → ShownSince v w P
    since_before P still shown =
        since P
        (λ image told.
        let was = both_from (SameBefore (slot_at slots)) old.disk.content new.content image (sym last.only.content_is ∙ told) moved in
        still was.0 image was.1.1 (shown_content old.disk new P was.0 shown was.1.0)) shown

    since_header : (bytes : List ℕ) → length bytes ≤ 49664 → Shows old.disk new (λ image. range (slot_at slot) (length bytes) image ≡ bytes)
        → ShownSince v w (λ image. range (slot_at slot) (length bytes) image ≡ bytes)
    since_header bytes few = since_before (λ image. range (slot_at slot) (length bytes) image ≡ bytes) (λ was image same is. same.before (slot_at slot) (length bytes)
        (omega (arith, below, few)) ∙ is)

    since_held : (h : HeaderValue) → Shows old.disk new (λ image. HoldsSlot image slot (Some h)) → ShownSince v w (λ image. HoldsSlot image slot (Some h))
    since_held h = since_before (λ image. HoldsSlot image slot (Some h))
        (λ was image same is. (is.0, same.before (slot_at slot) (header_size h) (omega (arith, below, header_fits h is.0)) ∙ is.1))

    source_header : Came → HasSome slot → (refusal : Refusal) → IsHeaderRefusal old.tables.held old.disk new slot refusal → IsCausedBy refusal
    source_header came some Memory cause = tt
    source_header came some DiskRead cause = tt
    source_header came some (Damaged at why) (at_is, inl damage) =
        inr (holds, inl (slot, (at_is, inl (record { bytes = damage.bytes; first = damage.first; are_found = since_header damage.bytes damage.first.within damage.are_found }))))
    source_header came some (Damaged at why) (at_is, inr other) =
        inr (holds, inl (slot, (at_is, inr (other_header holds.store old.tables.held v w old.disk new slot why came some since_held other))))
    source_header came some refusal cause = absurd cause

    module _ (h : HeaderValue) (shown : Shows old.disk new (λ image. HoldsSlot image slot (Some h))) (e : Entry) (one_of : Contains h.entries e) where
      there : ShownSince v w (λ image. HoldsSlot image slot (Some h))
      there = since_held h shown

      -- what an entry names lies in the slot
      found_since : (at count : ℕ) (got : List ℕ) → at ≡ data_at slot + e.offset → count ≡ e.length → WereFound (Shows old.disk new) at count got →
          WereFound (ShownSince v w) at count got
      found_since at count got at_is count_is found = record {
        bytes = found.bytes;
        long = found.long;
        digest_is = found.digest_is;
        there = since (λ image. range at count image ≡ found.bytes)
            (λ image told.
            let was = both_from (SameBefore (slot_at slots)) old.disk.content new.content image (sym last.only.content_is ∙ told) moved in
            let right : IsHeader h = (shown_content old.disk new (λ c. HoldsSlot c slot (Some h)) was.0 shown was.1.0).0 in
            let within : e.offset + e.length ≤ 212480 = of_each (λ x. x.offset + x.length ≤ 212480) h.entries e (entries_within h right) one_of in
            was.1.1.before at count (omega (arith, at_is, count_is, within, below)) ∙ shown_content old.disk new (λ c. range at count c ≡ found.bytes) was.0 found.there was.1.0)
            found.there;
      }

      one_cause : (s : Source) (buffer : Contents) (refusal : Refusal) → s.known ≡ old.known → s.slot ≡ slot → IsOneRefusal s (Shows old.disk new) e buffer refusal →
          IsCausedBy refusal
      one_cause s buffer Memory known same cause = tt
      one_cause s buffer DiskRead known same cause = tt
      one_cause s buffer DiskWrite known same cause = tt
      one_cause s buffer (Damaged at why) known same cause = absurd (untold tells (sym known ∙ cause))
      one_cause s buffer (Corrupt other offset count want got) known same cause =
          let is = cause.1.1 in
          let slot_is : other ≡ slot = is.0 ∙ same in
          inr (
            holds,
            inr (inr (inl (
              record {
                slot = slot;
                header = h;
                shown = there;
                entry = e;
                one_of = one_of;
                cause = (slot_is, is.1, is.2, is.3, is.4, found_since (data_at other + offset) count got (omega (arith, slot_is, is.1)) is.2 is.5);
              },
              names,
            ))),
          )
      one_cause s buffer refusal known same cause = absurd cause.1.1

    source_cause : Came → HasSome slot → (live : LiveKeys) (from : ℕ) (buffer : Contents) (refusal : Refusal) →
        IsCopyRefusal (copy_task old.tables.held old.known live slot from buffer) old.disk new refusal → IsCausedBy refusal
    source_cause came some live from buffer refusal (inl (inl header)) = source_header came some refusal header
    source_cause came some live from buffer refusal (inl (inr (h, tabled, shown, kind, few, plan))) = by_plan refusal plan
      where
        s : Source
        s = source_of old.known live slot h.kind

        stuck : (r : Refusal) → IsStuck (source_of old.known live slot h.kind) (Shows old.disk new) (drop from h.entries) (planned buffer []) r → IsCausedBy r
        stuck r is =
            let at = stuck_at (source_of old.known live slot h.kind) (Shows old.disk new) r (drop from h.entries) (planned buffer []) is in
            one_cause h shown at.entry (of_rest from h.entries at.entry at.one_of) (source_of old.known live slot h.kind) at.buffer r refl refl at.cause

        by_plan : (r : Refusal) → IsPlanRefusal (source_of old.known live slot h.kind) (Shows old.disk new) (drop from h.entries) (planned buffer []) r → IsCausedBy r
        by_plan Memory is = tt
        by_plan r is = stuck r is
    source_cause came some live from buffer DiskWrite (inr remove) = tt
    source_cause came some live from buffer (Damaged at why) (inr none) = absurd (untold tells none)
    source_cause came some live from buffer refusal (inr remove) = absurd remove

  copy_cause : Came → HasStage old.tables.held old.collection SweepStage → (tells : (places : PlaceMap) × (old.known ≡ Some places)) → FindsNames holds.store v w → (slots : ℕ) →
      length old.tables.held.ids.items ≡ slots → Both (SameBefore (slot_at slots)) old.disk.content new.content → (source entry : ℕ) →
      old.collection.sweep.next ≡ Copy source entry → (refusal : Refusal)
      → IsCopyStepRefusal (copy_step old.tables.held old.collection.live old.known source entry old.collection.sweep) old.disk new refusal → IsCausedBy refusal
  copy_cause came has tells names slots many moved source entry next_is Memory cause = tt
  copy_cause came has tells names slots many moved source entry next_is refusal none =
      source_cause tells names slots none.slot (omega (arith, none.is_source.within, many)) moved came
      (copied_some old.tables.held old.collection source entry none.slot has next_is none.is_source.id_is) old.collection.live entry none.filling refusal none.cause

  flush_cause : (tells : (places : PlaceMap) × (old.known ≡ Some places)) → (LAST_ID ≤ old.tables.held.last_id → IsUnwritten holds.store) → FindsNames holds.store v w →
      (refusal : Refusal) → IsFlushStepRefusal old.tables old.known refusal → IsCausedBy refusal
  flush_cause tells none names Memory cause = tt
  flush_cause tells none names Numbers cause = inr (holds, inr (inr (inr (inl (refl, none cause, names)))))
  flush_cause tells none names DiskRead cause = tt
  flush_cause tells none names DiskWrite cause = tt
  flush_cause tells none names (Damaged at why) cause = absurd (untold tells cause.1)
  flush_cause tells none names refusal cause = absurd cause.1

  by_write : (refusal : Refusal) → refusal ≡ DiskWrite → IsCausedBy refusal
  by_write refusal is = subst IsCausedBy (sym is) tt

  by_memory : (refusal : Refusal) → refusal ≡ Memory → IsCausedBy refusal
  by_memory refusal is = subst IsCausedBy (sym is) tt

  -- by the stage
  pub stage_cause : (slots : ℕ) → old.disk.size ≡ size_of slots → length old.tables.held.ids.items ≡ slots → (index : PlaceMap) → IsIndexOf holds.store.held index →
      (tells : (places : PlaceMap) × (old.known ≡ Some places))
      → (LAST_ID ≤ old.tables.held.last_id → IsUnwritten holds.store) → Came → (stage : Stage) (next : Next) → HasStage old.tables.held old.collection stage →
      old.collection.sweep.next ≡ next → (IsMarking stage → old.known ≡ Some index)
      → (HasMarkedAll stage → FindsNames holds.store v w) → (e : Ending) → Touches stage next old.collection.sweep old.tables e old.disk new → (refusal : Refusal) →
      IsStepRefusal stage next old new refusal → IsCausedBy refusal
  stage_cause slots sized many index all tells none came (Mark level slot) next has next_is marks names e touches refusal (inl cause) =
      header_cause came touches.only.content_is slot (marked_some old.tables.held old.collection level slot has) refusal cause
  stage_cause slots sized many index all tells none came (Mark level slot) next has next_is marks names e touches refusal (inr stops) =
      mark_cause touches.only.content_is index all (marks tt) level slot refusal stops
  stage_cause slots sized many index all tells none came (Filter slot) next has next_is marks names e touches refusal cause =
      record_cause tells came touches.only.content_is slot (recorded_some old.tables.held old.collection slot has) refusal cause
  stage_cause slots sized many index all tells none came Select next has next_is marks names e touches refusal cause = by_memory refusal cause
  stage_cause slots sized many index all tells none came SweepStage (Copy source entry) has next_is marks names e touches refusal cause =
      copy_cause came has tells (names tt) slots many (touches slots sized).content_is source entry next_is refusal cause
  stage_cause slots sized many index all tells none came SweepStage (Flush source entry) has next_is marks names e touches refusal cause =
      flush_cause tells none (names tt) refusal cause
  stage_cause slots sized many index all tells none came SweepStage (Release source entry) has next_is marks names e touches refusal cause = by_write refusal cause
  stage_cause slots sized many index all tells none came SweepStage End has next_is marks names e touches refusal cause = absurd cause

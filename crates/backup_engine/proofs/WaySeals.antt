-- A seal on a way that was done: the segments of the containers that were sealed are held, and kept.
use Rattle.backup_engine.proofs.Prelude.{both_so, all_two, ◌≡◌, ◌≢◌, ℕ, suc, List, [], ◌∷◌, ◌++◌, length, map, Option, Some, None, option_map, Result, Ok, refl, sym, ◌∙◌, ap, subst, arith, AllByRecursion, Kind, Place, PlaceMap, KindSegment, Segment, segment_key, Writing, Answer, PinMap, IsStep, Refusal, HasPieceOf, Store, newest, StoreChange, last_id, lacks, key_of_seg, CoreStep, Makes, Steps, ChangesTo, next_id, kept_of, FileEvent, CoreState, IsRunning, all_map, all_then, one_of, AddsOnce, Way, AreKept, AreNew, length_in, IsOneOf, IsPutStep, seal_by, with_sealed}
use Rattle.std.proofs.Common.{take}
use Rattle.std.proofs.lemmas.List.{length-take-le}
use Rattle.std.specs.FinMap as finite
use Rattle.container_meta.specs.Segments.{Contents}
use Rattle.actor_parts.specs.declared.step.Answer.TheVariants as answers
use Rattle.actor_parts.specs.StepValue as asked
use Rattle.ingest_steps.specs.Offering.{with_pins_of}
use Rattle.store_model.proofs.Valid.{last_sealed}
use Rattle.store_core.proofs.ManySealed.{all_taken, room_left}
use Rattle.store_core.specs.Core.{AreSealed, SealRow, changed_by, seals_from}
use Rattle.store_core.specs.Keeping.{segments_in}
use Rattle.store_machine.proofs.Sealings.{AreApart}
use Rattle.backup_engine.proofs.FirstActor.{by_first, steps_of, first_part, up_of}
use Rattle.backup_engine.proofs.KeptPieces.{of_kind, pinned_in}
use Rattle.backup_engine.proofs.SealedIndex.{newest_still, now_told, sealed_long, sealed_others, sealed_ids}
use Rattle.backup_engine.proofs.WayClaims.{same_pins}
use Rattle.backup_engine.proofs.Ways.{AddsFromEach, Stays, IsStepOn, file_event, put_step, way_on}

-- containers of pieces of a file, whose keys no container has
abbrev pub ArePieces : List ℕ → List Contents → Type 0
ArePieces file cs = AllByRecursion (λ c. AllByRecursion (λ s. HasPieceOf file (of_kind c.kind s)) c.segments) cs

abbrev pub AreAllNew : PlaceMap → List Contents → Type 0
AreAllNew places cs = AllByRecursion (λ c. AreNew places c.kind c.segments) cs

abbrev AreLacked : Store → List Contents → Type 0
AreLacked s cs = AllByRecursion (λ c. AllByRecursion (λ x. newest 0 s.held (segment_key c.kind x) ≡ None) c.segments) cs

-- they are lacked still once another was sealed that has none of their keys
lacked_still : (id : ℕ) (c : Contents) (s t : Store) → ChangesTo (seals_from id (c ∷ [])) s t → (cs : List Contents)
    → AllByRecursion (λ d. AllByRecursion (λ y. AllByRecursion (λ x. segment_key d.kind y ≢ segment_key c.kind x) c.segments) d.segments) cs → AreLacked s cs → AreLacked t cs
lacked_still id c s t chain [] apart new = tt
lacked_still id c s t chain (d ∷ ds) apart new = (
  all_then (λ y. (AllByRecursion (λ x. segment_key d.kind y ≢ segment_key c.kind x) c.segments) × (newest 0 s.held (segment_key d.kind y) ≡ None))
      (λ y. newest 0 t.held (segment_key d.kind y) ≡ None) d.segments
      (λ y both. newest_still id (c ∷ []) s t chain (segment_key d.kind y)
      (all_then (λ x. segment_key d.kind y ≢ segment_key c.kind x) (λ x. segment_key c.kind x ≢ segment_key d.kind y) c.segments (λ x differ same. differ (sym same)) both.0, tt)
      ∙ both.1)
      (all_two (λ y. AllByRecursion (λ x. segment_key d.kind y ≢ segment_key c.kind x) c.segments) (λ y. newest 0 s.held (segment_key d.kind y) ≡ None) d.segments apart.0 new.0),
  lacked_still id c s t chain ds apart.1 new.1,
)

-- each is added once
once_all : (file : List ℕ) (id : ℕ) (cs : List Contents) (s t : Store) → ChangesTo (seals_from id cs) s t → id ≡ suc (last_id s.held) → ArePieces file cs → AreLacked s cs
    → AreApart cs → AddsOnce file (seals_from id cs) s
once_all file id [] s t chain is pieces new apart = tt
once_all file id (c ∷ cs) s t chain is pieces new apart =
    let mid : Store = with_sealed id c.kind c.segments s in (
      is,
      all_two (λ x. HasPieceOf file (of_kind c.kind x)) (λ x. newest 0 s.held (segment_key c.kind x) ≡ None) c.segments pieces.0 new.0,
      once_all file (suc id) cs mid t chain.1 (ap suc (sym (last_sealed id c.kind c.segments s chain.0))) pieces.1
          (lacked_still id c s mid (chain.0, refl) cs apart.0 new.1) apart.1,
    )

module _ (C : Type 0) (state : C → CoreState) (files : List ℕ → Type 0) (opens : Kind → List Segment) (start old new : C) (w : Way C state files opens start old)
    (offered : List Contents) (buf : List ℕ) where
  abbrev pub seal : Result Answer Refusal → FileEvent
  seal answer = file_event (asked.Seal offered) answer buf []

  pub seal_made : (answer : Result Answer Refusal) → CoreStep (state old) (by_first (asked.Seal offered) answer buf) (state new) → Steps (seal answer).event (state old) (state new)
  seal_made answer step = steps_of (state old) (state new) (seal answer).event w.runs step

  -- nothing else is answered
  pub only_sealed : (answer : Answer) → CoreStep (state old) (by_first (asked.Seal offered) (Ok answer) buf) (state new)
      → (id count : ℕ) × (answer ≡ answers.Sealed id count)
  only_sealed answer step = by_row answer (seal_made (Ok answer) step).made.row
    where
      by_row : (a : Answer) → SealRow offered 0 (Ok a) (state old) (state new) → (id count : ℕ) × (a ≡ answers.Sealed id count)
      by_row (answers.Sealed id count) row = (id, count, refl)
      by_row a row = absurd row

  module _ (right : IsStep (asked.Seal offered)) (pieces : (file : List ℕ) → files file → ArePieces file offered) where
    pub seal_put : (answer : Result Answer Refusal) (name file : List ℕ) → files file → IsPutStep name file (seal answer)
    seal_put answer name file is = put_step name file (asked.Seal offered) answer buf [] right (pieces file is)

    module _ (id count : ℕ) (step : CoreStep (state old) (by_first (asked.Seal offered) (Ok (answers.Sealed id count)) buf) (state new)) where
      abbrev pub sealed : List Contents
      sealed = take count offered

      pub sealed_row : AreSealed offered id count 0 (state old) (state new)
      sealed_row = (seal_made (Ok (answers.Sealed id count)) step).made.row

      made : Makes (seals_from (next_id (state old)) sealed) (state old) (state new)
      made = (seal_made (Ok (answers.Sealed id count)) step).made.effect.made

      many : length sealed ≡ count
      many = length-take-le count offered sealed_row.few

      seals_are : seals_from (next_id (state old)) sealed ≡ seal_by (asked.Seal offered) (Ok (answers.Sealed id count))
      seals_are = ap (λ (n : ℕ). seals_from n sealed) (omega (arith, sealed_row.id_is))

      module _ (fresh : AreAllNew w.places sealed) (apart : AreApart sealed) where
        -- their segments are pieces of the file that were not held
        adds : (file : List ℕ) → files file → AddsFromEach file (seal_by (asked.Seal offered) (Ok (answers.Sealed id count))) (state old) (state new)
        adds file is = subst (λ (changes : List StoreChange). AddsFromEach file changes (state old) (state new)) seals_are (record {
          store_has = λ s represents valid free whole.
              let chain = made.can.store_has s represents valid free in
              record {
                after = changed_by (seals_from (next_id (state old)) sealed) s;
                chain = chain;
                once = once_all file (next_id (state old)) sealed s (changed_by (seals_from (next_id (state old)) sealed) s) chain
                    (let last = w.ids.store_has s represents valid free in omega (arith, last))
                    (all_taken (λ c. AllByRecursion (λ x. HasPieceOf file (of_kind c.kind x)) c.segments) count offered (pieces file is))
                    (all_then (λ c. AreNew w.places c.kind c.segments) (λ c. AllByRecursion (λ x. newest 0 s.held (segment_key c.kind x) ≡ None) c.segments) sealed
                    (λ c all. all_then (λ x. finite.get w.places (segment_key c.kind x) ≡ None) (λ x. newest 0 s.held (segment_key c.kind x) ≡ None) c.segments
                    (λ x none. lacks s w.places (segment_key c.kind x) (whole w.places w.known) none) all) fresh)
                    apart;
                represents = made.represents.store_has s represents valid free;
                valid = made.valid.store_has s represents valid free;
                has_free =
                    let room = room_left (next_id (state old)) sealed s (changed_by (seals_from (next_id (state old)) sealed) s) (omega (arith, many, sealed_row.some)) chain in
                    omega (arith, room);
                whole = made.whole.store_has s represents valid free whole;
              };
        })

        -- ---- the index

        abbrev now : PlaceMap
        now = (now_told (state old) (state new) sealed made w.indexed w.places w.known).0

        others : (key : List ℕ) → AllByRecursion (λ c. AllByRecursion (λ y. segment_key c.kind y ≢ key) c.segments) sealed → finite.get now key ≡ finite.get w.places key
        others = sealed_others (state old) (state new) sealed made w.indexed w.places w.known

        not_there : (place : Option Place) → place ≡ None → (n : ℕ) → option_map (λ (p : Place). p.length) place ≡ Some n → ⊥
        not_there None none n some = absurd cc
        not_there (Some p) none n some = absurd cc

        -- what was kept has its place still
        long_still : (x : KindSegment) → length_in w.places (key_of_seg x) ≡ Some (length x.segment.bytes) → length_in now (key_of_seg x) ≡ Some (length x.segment.bytes)
        long_still x long =
            ap (option_map (λ (p : Place). p.length))
            (others (key_of_seg x)
            (all_then (λ c. AreNew w.places c.kind c.segments) (λ c. AllByRecursion (λ y. segment_key c.kind y ≢ key_of_seg x) c.segments) sealed
            (λ c all. all_then (λ y. finite.get w.places (segment_key c.kind y) ≡ None) (λ y. segment_key c.kind y ≢ key_of_seg x) c.segments
            (λ y none same. not_there (finite.get w.places (key_of_seg x)) (ap (finite.get w.places) (sym same) ∙ none) (length x.segment.bytes) long) all) fresh))
            ∙ long

        abbrev all : List KindSegment
        all = kept_of w.steps ++ segments_in sealed

        long_sealed : (cs : List Contents) → AllByRecursion (λ c. AllByRecursion (λ x. length_in now (segment_key c.kind x) ≡ Some (length x.bytes)) c.segments) cs
            → AllByRecursion (λ x. length_in now (key_of_seg x) ≡ Some (length x.segment.bytes)) (segments_in cs)
        long_sealed [] each = tt
        long_sealed (c ∷ cs) each =
            both_so (λ x. length_in now (key_of_seg x) ≡ Some (length x.segment.bytes)) (map (of_kind c.kind) c.segments) (segments_in cs)
            (all_map (λ x. length_in now (key_of_seg x) ≡ Some (length x.segment.bytes)) (of_kind c.kind) c.segments each.0) (long_sealed cs each.1)

        keeps_all : AreKept all (with_pins_of sealed w.pins) now
        keeps_all = record {
          long = both_so (λ x. length_in now (key_of_seg x) ≡ Some (length x.segment.bytes)) (kept_of w.steps) (segments_in sealed)
              (all_then (λ x. length_in w.places (key_of_seg x) ≡ Some (length x.segment.bytes)) (λ x. length_in now (key_of_seg x) ≡ Some (length x.segment.bytes))
              (kept_of w.steps) long_still w.kept.long)
              (long_sealed sealed (sealed_long (state old) (state new) sealed made w.indexed w.places w.known apart));
          pinned = pinned_in sealed (kept_of w.steps) w.pins w.kept.pinned;
        }

        -- ---- the way

        -- of what was still to be sealed, what the containers don't have
        module _ (less : Kind → List Segment)
            (fewer : (kind : Kind) → AllByRecursion (λ x. IsOneOf x (opens kind)
            × AllByRecursion (λ c. AllByRecursion (λ y. segment_key c.kind y ≢ segment_key kind x) c.segments) sealed) (less kind))
          where
            still_new : (kind : Kind) → AreNew now kind (less kind)
            still_new kind =
                all_then (λ x. IsOneOf x (opens kind) × AllByRecursion (λ c. AllByRecursion (λ y. segment_key c.kind y ≢ segment_key kind x) c.segments) sealed)
                (λ x. finite.get now (segment_key kind x) ≡ None) (less kind)
                (λ x is. others (segment_key kind x) is.1 ∙ one_of (λ y. finite.get w.places (segment_key kind y) ≡ None) (opens kind) x (w.fresh kind) is.0)
                (fewer kind)

            pub way_sealed : IsRunning (state new) → (v : Way C state files less start new) × (kept_of v.steps ≡ kept_of w.steps ++ segments_in sealed)
            way_sealed running =
                let steps = seal_made (Ok (answers.Sealed id count)) step in
                let may = sealed_row.may in
                let same : may.pins ≡ w.pins = same_pins may.pins w.pins (sym may.writing ∙ w.writing) in
                let stays : Stays all less (state new) = record {
                  up = up_of (state new) steps.stops running;
                  runs = steps.stops;
                  pins = with_pins_of sealed w.pins;
                  writing = first_part (state old) (state new) (Writing (with_pins_of sealed may.pins)) w.up sealed_row.parts_are
                      ∙ ap (λ (p : PinMap). Writing (with_pins_of sealed p)) same;
                  places = now;
                  known = (now_told (state old) (state new) sealed made w.indexed w.places w.known).1;
                  indexed = made.runs_indexed w.indexed;
                  ids = sealed_ids (state old) (state new) sealed made w.indexed w.places w.known (omega (arith, many, sealed_row.some))
                      (omega (arith, many, sealed_row.last_is, sealed_row.id_is));
                  kept = keeps_all;
                  fresh = still_new;
                } in
                let on : IsStepOn C state files opens start old w less (seal (Ok (answers.Sealed id count))) new = record {
                  made = step;
                  put = seal_put (Ok (answers.Sealed id count));
                  done = (tt, tt);
                  adds = adds;
                  stays = stays;
                } in
                let next = way_on C state files opens start old w less (seal (Ok (answers.Sealed id count))) new on in
                (next.0, next.1)

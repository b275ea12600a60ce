-- Which keys are pinned, with what is said of a segment that is kept: where more are.
use Rattle.store_machine.proofs.Prelude.{◌≡◌, ◌∙◌, ℕ, Bool, true, false, cond, [], ◌∷◌, Some, refl, sym, ap, slice_cmp, nat_list_cmp_total, nat_cmp, eq_by_cmp, AllByRecursion, PinMap, pin_by, Kind, Segment, segment_key, with_pins}
use Rattle.std.proofs.Common.{List}
use Rattle.std.specs.FinMap as finite
use Rattle.std.proofs.lemmas.Slice.Eq.{bytes_eq-Decides}
use Rattle.container_meta.specs.Segments.{Contents}
use Rattle.ingest_session.proofs.Members.{all_then}
use Rattle.store_model.proofs.Indexing.{tied}
use Rattle.store_machine.specs.Offers.{AllSegments}

-- the key has the pin of a segment of which K holds
abbrev pub HasPinOf : (Kind → Segment → Type 0) → PinMap → List ℕ → Type 0
HasPinOf K pins key = (kind : Kind) × (x : Segment) × K kind x × (segment_key kind x ≡ key) × (finite.get pins key ≡ Some (pin_by kind x))

same_key : (key : List ℕ) → eq_by_cmp (slice_cmp nat_cmp) key key ≡ true
same_key key = tied key key ∙ (bytes_eq-Decides key key).1 refl

-- of one of which another holds
pub pin_still : (K L : Kind → Segment → Type 0) (pins : PinMap) (key : List ℕ) → ((kind : Kind) (x : Segment) → K kind x → L kind x) → HasPinOf K pins key → HasPinOf L pins key
pin_still K L pins key still has = (has.0, has.1, still has.0 has.1 has.2, has.3, has.4)

module _ (K : Kind → Segment → Type 0) (kind : Kind) where
  module _ (x : Segment) (kept : K kind x) (pins : PinMap) where
    abbrev with_pin : PinMap
    with_pin = finite.insert pins (segment_key kind x) (pin_by kind x)

    -- a segment more is pinned
    pub last_pin : (key : List ℕ) → segment_key kind x ≡ key → HasPinOf K with_pin key
    last_pin key same = (
      kind,
      x,
      kept,
      same,
      ap (finite.get with_pin) (sym same)
          ∙ finite.get-insert nat_list_cmp_total pins (segment_key kind x) (pin_by kind x) (segment_key kind x)
          ∙ ap (λ (b : Bool). cond b (Some (pin_by kind x)) (finite.get pins (segment_key kind x))) (same_key (segment_key kind x)),
    )

    -- and the others are still
    pub next_pin : (key : List ℕ) → HasPinOf K pins key → HasPinOf K with_pin key
    next_pin key has = by_test (eq_by_cmp (slice_cmp nat_cmp) key (segment_key kind x)) refl
      where
        by_test : (b : Bool) → eq_by_cmp (slice_cmp nat_cmp) key (segment_key kind x) ≡ b → HasPinOf K with_pin key
        by_test true same = last_pin key ((bytes_eq-Decides (segment_key kind x) key).0 (sym (tied key (segment_key kind x)) ∙ same))
        by_test false other = (
          has.0,
          has.1,
          has.2,
          has.3,
          finite.get-insert nat_list_cmp_total pins (segment_key kind x) (pin_by kind x) key
              ∙ ap (λ (b : Bool). cond b (Some (pin_by kind x)) (finite.get pins key)) other ∙ has.4,
        )

  -- so it is with segments, one after the other
  pub pins_still : (xs : List Segment) (pins : PinMap) (key : List ℕ) → AllByRecursion (K kind) xs → HasPinOf K pins key → HasPinOf K (with_pins kind xs pins) key
  pins_still [] pins key kept has = has
  pins_still (x ∷ xs) pins key (one, more) has = pins_still xs (with_pin x one pins) key more (next_pin x one pins key has)

  pub pins_more : (xs : List Segment) (pins : PinMap) → AllByRecursion (K kind) xs → AllByRecursion (λ x. HasPinOf K (with_pins kind xs pins) (segment_key kind x)) xs
  pins_more [] pins kept = tt
  pins_more (x ∷ xs) pins (one, more) =
      (pins_still xs (with_pin x one pins) (segment_key kind x) more (last_pin x one pins (segment_key kind x) refl), pins_more xs (with_pin x one pins) more)

-- and with containers
abbrev pub with_pins_in : List Contents → PinMap → PinMap
with_pins_in [] pins = pins
with_pins_in (c ∷ cs) pins = with_pins_in cs (with_pins c.kind c.segments pins)

module _ (K : Kind → Segment → Type 0) where
  pub pins_stay : (cs : List Contents) (pins : PinMap) (key : List ℕ) → AllSegments K cs → HasPinOf K pins key → HasPinOf K (with_pins_in cs pins) key
  pins_stay [] pins key kept has = has
  pins_stay (c ∷ cs) pins key (all, more) has =
      pins_stay cs (with_pins c.kind c.segments pins) key more (pins_still K c.kind c.segments pins key all has)

  pub pins_come : (cs : List Contents) (pins : PinMap) → AllSegments K cs → AllSegments (λ kind x. HasPinOf K (with_pins_in cs pins) (segment_key kind x)) cs
  pins_come [] pins kept = tt
  pins_come (c ∷ cs) pins (all, more) =
      let next = with_pins c.kind c.segments pins in (
        all_then (λ x. HasPinOf K next (segment_key c.kind x)) (λ x. HasPinOf K (with_pins_in cs next) (segment_key c.kind x)) c.segments
            (λ x. pins_stay cs next (segment_key c.kind x) more) (pins_more K c.kind c.segments pins all),
        pins_come cs next more,
      )

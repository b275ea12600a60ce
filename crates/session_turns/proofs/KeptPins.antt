-- Keys that are pinned, where more are.
use Rattle.session_turns.proofs.Prelude.{◌≡◌, ◌∙◌, ℕ, zero, suc, Bool, true, false, cond, List, [], ◌∷◌, Some, refl, sym, ap, subst, slice_cmp, nat_list_cmp_total, nat_cmp, eq_by_cmp, Kind, Segment, segment_key, Pin, PinMap, with_pins, in_none, inl, inr, AllByRecursion}
use Rattle.std.specs.FinMap as finite
use Rattle.actor_parts.specs.Segments.{pin_by}
use Rattle.container_meta.specs.Segments.{Contents}
use Rattle.ingest_steps.specs.Offering.{with_pins_of}
use Rattle.std.proofs.lemmas.Slice.Eq.{bytes_eq-Decides}
use Rattle.store_model.proofs.Indexing.{tied}
use Rattle.ingest_session.specs.Due.{segments_of_all}
use Rattle.ingest_session.proofs.Members.{IsIn, in_either}

same_key : (key : List ℕ) → eq_by_cmp (slice_cmp nat_cmp) key key ≡ true
same_key key = tied key key ∙ (bytes_eq-Decides key key).1 refl

abbrev pub HasPin : PinMap → List ℕ → Type 0
HasPin pins key = (pin : Pin) × (finite.get pins key ≡ Some pin)

module _ (pins : PinMap) (own : List ℕ) (pin : Pin) (key : List ℕ) where
  found : (b : Bool) → eq_by_cmp (slice_cmp nat_cmp) key own ≡ b → finite.get (finite.insert pins own pin) key ≡ cond b (Some pin) (finite.get pins key)
  found b is = finite.get-insert nat_list_cmp_total pins own pin key ∙ ap (λ (c : Bool). cond c (Some pin) (finite.get pins key)) is

  -- one that was pinned is
  pub pin_on : HasPin pins key → HasPin (finite.insert pins own pin) key
  pin_on has = by (eq_by_cmp (slice_cmp nat_cmp) key own) refl
    where
      by : (b : Bool) → eq_by_cmp (slice_cmp nat_cmp) key own ≡ b → HasPin (finite.insert pins own pin) key
      by true is = (pin, found true is)
      by false is = (has.0, found false is ∙ has.1)

  -- and the one that is pinned now
  pub pin_now : key ≡ own → HasPin (finite.insert pins own pin) key
  pin_now is = (pin, found true (subst (λ (k : List ℕ). eq_by_cmp (slice_cmp nat_cmp) key k ≡ true) is (same_key key)))

-- so it is with segments, one after the other
module _ (kind : Kind) where
  pub pins_on : (xs : List Segment) (pins : PinMap) (key : List ℕ) → HasPin pins key → HasPin (with_pins kind xs pins) key
  pins_on [] pins key has = has
  pins_on (x ∷ xs) pins key has = pins_on xs (finite.insert pins (segment_key kind x) (pin_by kind x)) key (pin_on pins (segment_key kind x) (pin_by kind x) key has)

  pub pins_now : (xs : List Segment) (pins : PinMap) (x : Segment) → IsIn x xs → HasPin (with_pins kind xs pins) (segment_key kind x)
  pins_now [] pins x is = absurd (in_none x is)
  pins_now (y ∷ ys) pins x (zero, is) =
      let same : y ≡ x = cc in
      pins_on ys (finite.insert pins (segment_key kind y) (pin_by kind y)) (segment_key kind x)
      (pin_now pins (segment_key kind y) (pin_by kind y) (segment_key kind x) (ap (segment_key kind) (sym same)))
  pins_now (y ∷ ys) pins x (suc i, is) = pins_now ys (finite.insert pins (segment_key kind y) (pin_by kind y)) x (i, is)

-- ---- of several containers

pub pins_on_all : (cs : List Contents) (pins : PinMap) (key : List ℕ) → HasPin pins key → HasPin (with_pins_of cs pins) key
pins_on_all [] pins key has = has
pins_on_all (c ∷ cs) pins key has = pins_on_all cs (with_pins c.kind c.segments pins) key (pins_on c.kind c.segments pins key has)

pub pins_now_all : (kind : Kind) (cs : List Contents) (pins : PinMap) → AllByRecursion (λ c. c.kind ≡ kind) cs → (x : Segment) → IsIn x (segments_of_all cs)
    → HasPin (with_pins_of cs pins) (segment_key kind x)
pins_now_all kind [] pins are x there = absurd (in_none x there)
pins_now_all kind (c ∷ cs) pins are x there =
    let more : PinMap = with_pins c.kind c.segments pins in
    elim (in_either c.segments (segments_of_all cs) x there) [
      | inl here ↦ pins_on_all cs more (segment_key kind x) (subst (λ (k : Kind). HasPin more (segment_key k x)) are.0 (pins_now c.kind c.segments pins x here))
      | inr later ↦ pins_now_all kind cs more are.1 x later
    ]

-- What an actor keeps is right still once containers are sealed for it.
use Rattle.ingest_steps.proofs.Prelude.{◌≡◌, true, ℕ, suc, ◌+◌, ◌<◌, List, [], ◌∷◌, length, take, Option, Some, None, refl, sym, ◌∙◌, subst, arith, AllByRecursion, DiskView, Done, Kind, PlaceMap, Segment, Contents, entries_from, segment_key, HeaderValue, Part, Writing, part_of, with_part, PinMap, has_pin, IsOfKind, KeyPin, first_not_in, pin_by, apart, Store, with_entries, HasKey, HasNewest, ArePinsOf, HoldsPart, Tables, Runs, first_unpinned_of, with_pins}
use Rattle.std.specs.FinMap as finite
use Rattle.actor_parts.specs.Offers.{AreStepContents}
use Rattle.actor_parts.specs.Segments.{children_by}
use Rattle.container_log.specs.Many.{placed}
use Rattle.store_model.specs.Together.{Placed, with_all}
use Rattle.store_model.proofs.Indexing.{has_segments, still_has}
use Rattle.store_state.proofs.Parts.{part_kept}
use Rattle.store_state.specs.IndexingAll.{with_contents}
use Rattle.store_state.proofs.Indexed.{same_map}
use Rattle.ingest_steps.specs.Offering.{HasSlots, MayKeepAll, first_unpinned_in, offer_in, with_pins_of}
use Rattle.ingest_steps.specs.OfferStep.{KeepsOffered}
use Rattle.ingest_steps.specs.Pinning.{or_else}
use Rattle.ingest_steps.specs.SealStep.{store_moment}
use Rattle.ingest_steps.specs.SealingAll.{SealsOffer, places_with_all}
use Rattle.ingest_steps.proofs.Offered.{all_first}
use Rattle.ingest_steps.proofs.Pinned.{all_pinned, pinned_still, pins_with}
use Rattle.ingest_steps.proofs.PlacedOn.{offer_placed, places_are}
use Rattle.ingest_steps.proofs.SealedAll.{of_standing}

-- ---- the children are kept

both_none : (a b : Option (List ℕ)) → or_else a b ≡ None → (a ≡ None) × (b ≡ None)
both_none None b none = (refl, none)
both_none (Some key) b none = absurd cc

abbrev Kept : PinMap → List KeyPin → Type 0
Kept pins cs = AllByRecursion (λ c. has_pin pins c.key c.pin ≡ true) cs

abbrev AllChildren : Kind → PinMap → List Segment → Type 0
AllChildren kind pins ss = AllByRecursion (λ s. Kept pins (children_by kind s)) ss

all_children : (kind : Kind) (ss : List Segment) (pins : PinMap) → first_unpinned_of kind ss pins ≡ None → AllChildren kind pins ss
all_children kind [] pins none = tt
all_children kind (s ∷ ss) pins none =
    let parts = both_none (first_not_in pins (children_by kind s)) (first_unpinned_of kind ss pins) none in
    (all_pinned pins (children_by kind s) parts.0, all_children kind ss pins parts.1)

children_in : (filled : List Contents) (pins : PinMap) → first_unpinned_in filled pins ≡ None → AllByRecursion (λ c. AllChildren c.kind pins c.segments) filled
children_in [] pins none = tt
children_in (c ∷ cs) pins none =
    let parts = both_none (first_unpinned_of c.kind c.segments pins) (first_unpinned_in cs pins) none in
    (all_children c.kind c.segments pins parts.0, children_in cs pins parts.1)

module _ (pins more : PinMap) (each : (ks : List KeyPin) → Kept pins ks → Kept more ks) where
  children_still : (kind : Kind) (ss : List Segment) → AllChildren kind pins ss → AllChildren kind more ss
  children_still kind [] all = tt
  children_still kind (s ∷ ss) all = (each (children_by kind s) all.0, children_still kind ss all.1)

  all_still : (cs : List Contents) → AllByRecursion (λ c. AllChildren c.kind pins c.segments) cs → AllByRecursion (λ c. AllChildren c.kind more c.segments) cs
  all_still [] all = tt
  all_still (c ∷ cs) all = (children_still c.kind c.segments all.0, all_still cs all.1)

-- ---- the pins are right

abbrev AreNewest : List (Option HeaderValue) → List ℕ → Kind → List Segment → Type 0
AreNewest held image kind ss = AllByRecursion (λ s. HasNewest held (segment_key kind s) s.level s.bytes image) ss

module _ (P : List ℕ → Type 0) (held : List (Option HeaderValue)) (image : List ℕ) where
  -- of a container's segments; and what was kept before is kept beside them
  pins_of_all : (kind : Kind) (ss : List Segment) (pins : PinMap) → ArePinsOf P held image pins → AllByRecursion (λ s. IsOfKind kind s) ss → AreNewest held image kind ss
      → AllChildren kind pins ss → AllByRecursion (λ s. P (segment_key kind s)) ss
      → ArePinsOf P held image (with_pins kind ss pins) × ((ks : List KeyPin) → Kept pins ks → Kept (with_pins kind ss pins) ks)
  pins_of_all kind [] pins are right newest children count = (are, λ ks kept. kept)
  pins_of_all kind (s ∷ ss) pins are right newest children count =
      let one : PinMap = finite.insert pins (segment_key kind s) (pin_by kind s) in
      let still = pinned_still P held image pins (record { kind = kind; segment = s }) are right.0 newest.0 count.0 in
      let rest = pins_of_all kind ss one (pins_with P held image pins (record { kind = kind; segment = s }) are right.0 newest.0 count.0 children.0) right.1 newest.1
      (children_still pins one still kind ss children.1) count.1 in
      (rest.0, λ ks kept. rest.1 ks (still ks kept))

  -- of each container's
  pins_of_each : (cs : List Contents) (pins : PinMap) → ArePinsOf P held image pins → AreStepContents cs → AllByRecursion (λ c. AreNewest held image c.kind c.segments) cs
      → AllByRecursion (λ c. AllChildren c.kind pins c.segments) cs → AllByRecursion (λ c. AllByRecursion (λ s. P (segment_key c.kind s)) c.segments) cs
      → ArePinsOf P held image (with_pins_of cs pins)
  pins_of_each [] pins are right newest children count = are
  pins_of_each (c ∷ cs) pins are right newest children count =
      let one = pins_of_all c.kind c.segments pins are right.0 newest.0 children.0 count.0 in
      pins_of_each cs (with_pins c.kind c.segments pins) one.0 right.1 newest.1 (all_still pins (with_pins c.kind c.segments pins) one.1 cs children.1) count.1

-- ---- the map of the index

all_have : (slots : List ℕ) (cs : List Contents) (m : PlaceMap) (key : List ℕ) → HasKey m key → HasKey (with_contents slots cs m) key
all_have [] cs m key has = has
all_have (s ∷ ss) [] m key has = has
all_have (s ∷ ss) (c ∷ cs) m key has =
    all_have ss cs (with_entries c.kind s (entries_from 0 c.segments) m) key (still_has c.kind s (entries_from 0 c.segments) m key has)

each_has : (P Q : List ℕ → Type 0) (kind : Kind) (ss : List Segment) → ((key : List ℕ) → P key → Q key) → AllByRecursion (λ s. P (segment_key kind s)) ss
    → AllByRecursion (λ s. Q (segment_key kind s)) ss
each_has P Q kind [] each all = tt
each_has P Q kind (s ∷ ss) each all = (each (segment_key kind s) all.0, each_has P Q kind ss each all.1)

contents_have : (slots : List ℕ) (cs : List Contents) (m : PlaceMap) → length cs ≡ length slots
    → AllByRecursion (λ c. AllByRecursion (λ s. HasKey (with_contents slots cs m) (segment_key c.kind s)) c.segments) cs
contents_have slots [] m many = tt
contents_have [] (c ∷ cs) m many = absurd (omega (arith, many))
contents_have (s ∷ ss) (c ∷ cs) m many =
    let one : PlaceMap = with_entries c.kind s (entries_from 0 c.segments) m in (
      each_has (HasKey one) (HasKey (with_contents ss cs one)) c.kind c.segments (λ key has. all_have ss cs one key has) (has_segments c.kind s 0 c.segments m),
      contents_have ss cs one (omega (arith, many)),
    )

-- what is said of each of those that are placed
of_placed : (Q : Kind → List Segment → Type 0) (slots : List ℕ) (id : ℕ) (cs : List Contents) → length cs ≡ length slots
    → AllByRecursion (λ p. Q p.kind p.segments) (placed slots id cs) → AllByRecursion (λ c. Q c.kind c.segments) cs
of_placed Q slots id [] many all = tt
of_placed Q [] id (c ∷ cs) many all = absurd (omega (arith, many))
of_placed Q (s ∷ ss) id (c ∷ cs) many all = (all.0, of_placed Q ss (suc id) cs (omega (arith, many)) all.1)

-- ---- the actor's part

module _ (old new : DiskView) (known known_new : Option PlaceMap) (t now_tables : Tables) (parts parts_new : List Part) (actor : ℕ) (filled : List Contents) (slots : List ℕ)
    (runs : Runs old.size None t) (has : HasSlots t (length filled) slots) (first : List Contents) (is_first : first ≡ take (length slots) filled)
    (many : length first ≡ length slots) where
  pub keeps_offered : actor < length parts → AreStepContents filled → (may : MayKeepAll (part_of parts actor) filled)
      → parts_new ≡ with_part parts actor (Writing (with_pins_of first may.pins)) → SealsOffer t known filled Done old new
      → ((before : List ℕ) (m : PlaceMap) → old.content ≡ Some before → known ≡ Some m → known_new ≡ places_with_all (placed slots (t.held.last_id + 1) first) (Some m))
      → KeepsOffered (store_moment old known t parts) (store_moment new known_new now_tables parts_new) actor filled
  keeps_offered there step may parts_are seals places =
      λ among store files map more_map given now known_is more_is is content content_now stands distinct sealable holds.
      let id : ℕ = t.held.last_id + 1 in
      let kept = seals.holds among store files map given now known_is is content content_now stands distinct sealable in
      let equal = of_standing old.size None t runs (offer_placed t slots filled first has is_first many) among store known files given is stands in
      let after : Store = with_all (offer_in t filled store) store in
      let pins : PinMap = may.pins in
      let more : Part = Writing (with_pins_of first pins) in
      let map_is : with_contents slots first map ≡ more_map =
      same_map _ more_map (sym (places_are slots id first map) ∙ sym (places given map content known_is) ∙ more_is) in
      let Q : List ℕ → Type 0 = HasKey more_map in
      let count : (key : List ℕ) → HasKey map key → Q key = λ key had. subst (λ (m : PlaceMap). HasKey m key) map_is (all_have slots first map key had) in
      let counts : AllByRecursion (λ c. AllByRecursion (λ s. Q (segment_key c.kind s)) c.segments) first =
      subst (λ (m : PlaceMap). AllByRecursion (λ c. AllByRecursion (λ s. HasKey m (segment_key c.kind s)) c.segments) first) map_is (contents_have slots first map many) in
      let newest : AllByRecursion (λ c. AreNewest after.held now c.kind c.segments) first =
      of_placed (AreNewest after.held now) slots id first many
      (subst (λ (ps : List Placed). AllByRecursion (λ p. AreNewest after.held now p.kind p.segments) ps) (sym equal) kept.1) in
      let had : ArePinsOf Q after.held now pins =
      part_kept (HasKey map) Q store after given now kept.0 count (Writing pins) (subst (HoldsPart (HasKey map) store.held given) may.writing holds) in
      let step_first : AreStepContents first = subst AreStepContents (sym is_first) (all_first _ (length slots) filled step) in
      let children : AllByRecursion (λ c. AllChildren c.kind pins c.segments) first =
      subst (λ (cs : List Contents). AllByRecursion (λ c. AllChildren c.kind pins c.segments) cs) (sym is_first)
      (all_first _ (length slots) filled (children_in filled pins may.pinned)) in
      let all : HoldsPart Q after.held now more = pins_of_each Q after.held now first pins had step_first newest children counts in
      subst (λ (p : List Part). HoldsPart Q after.held now (part_of p actor)) (sym parts_are)
      (subst (HoldsPart Q after.held now) (sym (apart.same parts actor more there)) all)

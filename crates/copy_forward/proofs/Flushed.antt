-- A container that is written once the places of its keys were looked up.
use Rattle.std.proofs.Common.{◌≡◌, ◌++◌, ℕ, List, [], ◌∷◌, Option, Result, Ok, Err, IfOk, refl, sym, ◌∙◌, ap, subst}
use Rattle.container_meta.specs.declared.entry.Entry.{Entry}
use Rattle.container_meta.specs.declared.kind.Kind.{Kind}
use Rattle.container_meta.specs.declared.place.Place.{Place}
use Rattle.container_meta.specs.Places.{PlaceMap}
use Rattle.container_meta.specs.Segments.{Contents}
use Rattle.ingest_steps.specs.Sealing.{HasSlotBeside, HasWritten}
use Rattle.refusals.specs.declared.refusal.Refusal.{Refusal}
use Rattle.refusals.specs.declared.refusal.Refusal.TheVariants.{Memory, DiskWrite, Damaged}
use Rattle.store_state.specs.Indexing.{HaveHad, IsChangeRefusal}
use Rattle.store_state.specs.declared.tables.Tables.{Tables}
use Rattle.copy_forward.specs.Flushing.{IsFlushRefusal, places_in}

-- the places that the map has are those that the keys have
have_places : (m : PlaceMap) (kind : Kind) (es : List Entry) → HaveHad m kind es (places_in m kind es)
have_places m kind [] = tt
have_places m kind (e ∷ es) = (refl, have_places m kind es)

pub have_had : (m : PlaceMap) (kind k : Kind) (entries es : List Entry) (places none : List (Option Place)) → k ≡ kind → entries ≡ es → none ≡ []
    → places ≡ none ++ places_in m k entries
    → HaveHad m kind es places
have_had m kind k entries es places none same_kind same empty is =
    subst (HaveHad m kind es)
    (sym (is ∙ ap (λ (ps : List (Option Place)). ps ++ places_in m k entries) empty ∙ ap (λ (x : Kind). places_in m x entries) same_kind ∙ ap (places_in m kind) same))
    (have_places m kind es)

-- ---- what was written

pub written_on : (result : Result ℕ Refusal) (t new : Tables) (slot : ℕ) (filled : Contents) (size mid_size : ℕ) (known mid_known : Option PlaceMap) → mid_size ≡ size
    → mid_known ≡ known
    → IfOk result (λ id. (spares : ℕ) → HasSlotBeside spares t slot → HasWritten spares t mid_size mid_known slot filled new id)
    → IfOk result (λ id. (spares : ℕ) → HasSlotBeside spares t slot → HasWritten spares t size known slot filled new id)
written_on (Ok id) t new slot filled size mid_size known mid_known same_size same_known written = λ spares has.
    subst (λ (n : ℕ). HasWritten spares t n known slot filled new id) same_size
    (subst (λ (k : Option PlaceMap). HasWritten spares t mid_size k slot filled new id) same_known (written spares has))
written_on (Err e) t new slot filled size mid_size known mid_known same_size same_known written = tt

-- why it wasn't
pub flush_refused : (k l : Option PlaceMap) → k ≡ l → (refusal : Refusal) → IsChangeRefusal k refusal → IsFlushRefusal l refusal
flush_refused k l same Memory has = tt
flush_refused k l same DiskWrite has = tt
flush_refused k l same (Damaged at why) has = sym same ∙ has
flush_refused k l same refusal has = absurd has

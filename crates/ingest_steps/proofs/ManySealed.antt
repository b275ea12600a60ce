-- Containers of data that are sealed after they were compared.
use Rattle.ingest_steps.proofs.Prelude.{◌≡◌, ℕ, ◌+◌, List, length, Option, Result, Ok, Err, sym, ◌∙◌, ap, subst, PlaceMap, Contents, Refusal, Memory, DiskWrite, Tables, IsSealRefusal}
use Rattle.std.proofs.Common.{IfOk}
use Rattle.refusals.specs.declared.refusal.Refusal.TheVariants.{DiskRead, Damaged}
use Rattle.store_model.specs.Together.{Placed}
use Rattle.store_state.specs.Comparing.{IsAllRefusal}
use Rattle.ingest_steps.specs.Offering.{AreCompared, IsFirstUnlikeIn}
use Rattle.ingest_steps.specs.SealingAll.{HasPlacesOfAll, HaveSealed}

pub places_before_all : (ps : List Placed) (before now after : Option (List ℕ) → Option PlaceMap) (old mid new : Option (List ℕ)) → mid ≡ old → now mid ≡ before old
    → HasPlacesOfAll ps now after mid new → HasPlacesOfAll ps before after old new
places_before_all ps before now after old mid new same also has = record {
  told = λ given is m known. has.told given (same ∙ is) m (also ∙ known);
  untold = λ none m known. has.untold (same ∙ none) m (sym (ap now (same ∙ none)) ∙ also ∙ ap before none ∙ known);
}

pub all_refused : (size : ℕ) (known : Option PlaceMap) (shown : (List ℕ → Type 0) → Type 0) (filled : List Contents) (refusal : Refusal)
    → IsAllRefusal known (IsFirstUnlikeIn size known shown filled) refusal → IsSealRefusal known (AreCompared size known shown filled) refusal
all_refused size known shown filled Memory has = tt
all_refused size known shown filled DiskRead has = tt
all_refused size known shown filled DiskWrite has = absurd has.unlike.unlike.refused.2
all_refused size known shown filled (Damaged at why) has = has
all_refused size known shown filled refusal has = has

pub sealed_before : (result : Result ℕ Refusal) (t new : Tables) (filled : List Contents) (size mid_size : ℕ) (known mid_known : Option PlaceMap) (compared : Type 0)
    → mid_size ≡ size → mid_known ≡ known → compared
    → IfOk result (λ id. (id ≡ t.held.last_id + length filled) × HaveSealed t mid_size mid_known filled new)
    → IfOk result (λ id. (id ≡ t.held.last_id + length filled) × HaveSealed t size known filled new × compared)
sealed_before (Ok id) t new filled size mid_size known mid_known compared same_size same_known has sealed = (
  sealed.0,
  subst (λ (n : ℕ). HaveSealed t n known filled new) same_size (subst (λ (k : Option PlaceMap). HaveSealed t mid_size k filled new) same_known sealed.1),
  has,
)
sealed_before (Err e) t new filled size mid_size known mid_known compared same_size same_known has sealed = tt

-- What actors are at in a machine of files and in a core that is one: what writers keep is pinned, and what readers read is read.
use Rattle.core_machine.proofs.Prelude.{◌≡◌, ◌<◌, inl, inr, ℕ, zero, suc, List, [], ◌∷◌, length, refl, sym, ◌∙◌, ap, subst, arith, Contains-append_cases, Contains-append_left, Contains-append_right, Reader, PinMap, IsPartKey, contains_first, contains_none, keys_there, Reading, keys_kept, values_read, FilePart}
use Rattle.std.proofs.Common.{slice_index_or, Contains}
use Rattle.std.specs.FinMap as finite
use Rattle.actor_parts.specs.declared.part.Part as core_part
use Rattle.actor_parts.specs.declared.part.Part.TheVariants as core
use Rattle.actor_parts.specs.Parts.{part_of}
use Rattle.gc_steps.proofs.Marked.{contains_head, contains_next}
use Rattle.store_machine.specs.Machine.{Part, Idle, Writing}
use Rattle.core_machine.proofs.FileNeeds.{AllFit, PartsFit}

-- ---- an actor

pub fit_at : (ps : List FilePart) (qs : List core_part.Part) (i : ℕ) → AllFit ps qs → PartsFit (slice_index_or ps i Idle) (part_of qs i)
unfolding part_of
fit_at [] [] i fit = tt
fit_at [] (q ∷ qs) i fit = absurd fit
fit_at (p ∷ ps) [] i fit = absurd fit
fit_at (p ∷ ps) (q ∷ qs) zero fit = fit.0
fit_at (p ∷ ps) (q ∷ qs) (suc i) fit = fit_at ps qs i fit.1

pub many_same : (ps : List FilePart) (qs : List core_part.Part) → AllFit ps qs → length ps ≡ length qs
many_same [] [] fit = refl
many_same [] (q ∷ qs) fit = absurd fit
many_same (p ∷ ps) [] fit = absurd fit
many_same (p ∷ ps) (q ∷ qs) fit = ap suc (many_same ps qs fit.1)

pub writing_fits : (p : FilePart) (q : core_part.Part) (pins : PinMap) → PartsFit p q → p ≡ Writing pins → q ≡ core.Writing pins
writing_fits Idle q pins fit is = absurd (let wrong : Idle ≡ Writing pins = is in cc)
writing_fits (Writing own) core.Idle pins fit is = absurd fit
writing_fits (Writing own) (core.Writing others) pins fit is = ap core.Writing (fit ∙ (let same : own ≡ pins = cc in same))
writing_fits (Writing own) (core.Reading reader) pins fit is = absurd fit
writing_fits (Reading file rest) q pins fit is = absurd (let wrong : Reading file rest ≡ Writing pins = is in cc)

pub reading_fits : (p : FilePart) (q : core_part.Part) (file : List ℕ) (rest : List (List ℕ)) → PartsFit p q → p ≡ Reading file rest → (reader : Reader) × (q ≡ core.Reading reader)
reading_fits Idle q file rest fit is = absurd (let wrong : Idle ≡ Reading file rest = is in cc)
reading_fits (Writing own) q file rest fit is = absurd (let wrong : Writing own ≡ Reading file rest = is in cc)
reading_fits (Reading own left) core.Idle file rest fit is = absurd fit
reading_fits (Reading own left) (core.Writing pins) file rest fit is = absurd fit
reading_fits (Reading own left) (core.Reading reader) file rest fit is = (reader, refl)

-- ---- what writers keep

module _ {V R : Type 0} where
  -- A writer has the key pinned.
  pub record IsKeptBy (ps : List (Part V R)) (key : List ℕ) : Type 0 where
    pub actor : ℕ
    pub below : actor < length ps
    pub pins : PinMap
    pub writing : slice_index_or ps actor Idle ≡ Writing pins
    pub pinned : IsPartKey (core.Writing pins) key

  kept_later : (p : Part V R) (ps : List (Part V R)) (key : List ℕ) → IsKeptBy ps key → IsKeptBy (p ∷ ps) key
  kept_later p ps key by = record { actor = suc by.actor; below = omega (arith, by.below); pins = by.pins; writing = by.writing; pinned = by.pinned }

  pub kept_by : (ps : List (Part V R)) (key : List ℕ) → Contains (keys_kept ps) key → IsKeptBy ps key
  kept_by [] key there = absurd (contains_none key there)
  kept_by (Idle ∷ ps) key there = kept_later Idle ps key (kept_by ps key there)
  kept_by (Reading value rest ∷ ps) key there = kept_later (Reading value rest) ps key (kept_by ps key there)
  kept_by (Writing pins ∷ ps) key there = elim (Contains-append_cases (finite.keys pins) (keys_kept ps) key there) [
    | inl mine ↦ record { actor = 0; below = omega arith; pins = pins; writing = refl; pinned = (keys_there pins key).0 mine }
    | inr later ↦ kept_later (Writing pins) ps key (kept_by ps key later)
  ]

  pub kept_there : (ps : List (Part V R)) (i : ℕ) (pins : PinMap) (key : List ℕ) → slice_index_or ps i Idle ≡ Writing pins → IsPartKey (core.Writing pins) key
      → Contains (keys_kept ps) key
  kept_there [] i pins key is pinned = absurd (let wrong : Idle ≡ Writing pins = is in cc)
  kept_there (Idle ∷ ps) zero pins key is pinned = absurd (let wrong : Idle ≡ Writing pins = is in cc)
  kept_there (Reading value rest ∷ ps) zero pins key is pinned = absurd (let wrong : Reading value rest ≡ Writing pins = is in cc)
  kept_there (Writing own ∷ ps) zero pins key is pinned =
      Contains-append_left (finite.keys own) (keys_kept ps) key ((keys_there own key).1
      (subst (λ (m : PinMap). IsPartKey (core.Writing m) key) (let same : pins ≡ own = cc in same) pinned))
  kept_there (Idle ∷ ps) (suc i) pins key is pinned = kept_there ps i pins key is pinned
  kept_there (Reading value rest ∷ ps) (suc i) pins key is pinned = kept_there ps i pins key is pinned
  kept_there (Writing own ∷ ps) (suc i) pins key is pinned = Contains-append_right (finite.keys own) (keys_kept ps) key (kept_there ps i pins key is pinned)

-- ---- what readers read

-- A reader reads the file.
pub record IsReadBy (ps : List FilePart) (file : List ℕ) : Type 0 where
  pub actor : ℕ
  pub below : actor < length ps
  pub rest : List (List ℕ)
  pub reading : slice_index_or ps actor Idle ≡ Reading file rest

read_later : (p : FilePart) (ps : List FilePart) (file : List ℕ) → IsReadBy ps file → IsReadBy (p ∷ ps) file
read_later p ps file by = record { actor = suc by.actor; below = omega (arith, by.below); rest = by.rest; reading = by.reading }

pub read_by : (ps : List FilePart) (file : List ℕ) → Contains (values_read ps) file → IsReadBy ps file
read_by [] file there = absurd (contains_none file there)
read_by (Idle ∷ ps) file there = read_later Idle ps file (read_by ps file there)
read_by (Writing pins ∷ ps) file there = read_later (Writing pins) ps file (read_by ps file there)
read_by (Reading own rest ∷ ps) file there = elim (contains_first own file (values_read ps) there) [
  | inl same ↦ record { actor = 0; below = omega arith; rest = rest; reading = ap (λ (f : List ℕ). Reading f rest) (sym same) }
  | inr later ↦ read_later (Reading own rest) ps file (read_by ps file later)
]

pub read_there : (ps : List FilePart) (i : ℕ) (file : List ℕ) (rest : List (List ℕ)) → slice_index_or ps i Idle ≡ Reading file rest → Contains (values_read ps) file
read_there [] i file rest is = absurd (let wrong : Idle ≡ Reading file rest = is in cc)
read_there (Idle ∷ ps) zero file rest is = absurd (let wrong : Idle ≡ Reading file rest = is in cc)
read_there (Writing pins ∷ ps) zero file rest is = absurd (let wrong : Writing pins ≡ Reading file rest = is in cc)
read_there (Reading own left ∷ ps) zero file rest is = subst (Contains (own ∷ values_read ps)) (let same : own ≡ file = cc in same) (contains_head own (values_read ps))
read_there (Idle ∷ ps) (suc i) file rest is = read_there ps i file rest is
read_there (Writing pins ∷ ps) (suc i) file rest is = read_there ps i file rest is
read_there (Reading own left ∷ ps) (suc i) file rest is = contains_next own file (values_read ps) (read_there ps i file rest is)

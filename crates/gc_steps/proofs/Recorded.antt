-- A collection, once a container is recorded.
use Rattle.gc_steps.proofs.Prelude.{◌≡◌, ℕ, ◌+◌, List, [], ◌∷◌, ◌++◌, ap, ◌∙◌, ContainerLiveness, SlotTable, Collection, Stage, recorded, filter_from}

pub recorded_as : (c : Collection) (t : SlotTable) (slot live : ℕ) (one : ContainerLiveness) (liveness : List ContainerLiveness) (stage : Stage) → one ≡ recorded t slot live
    → liveness ≡ c.liveness ++ one ∷ [] → stage ≡ filter_from c.snapshot t (slot + 1)
    → (let new : Collection = record c { liveness = liveness; stage = stage } in new) ≡ record c {
      liveness = c.liveness ++ recorded t slot live ∷ [];
      stage =
          filter_from c.snapshot t (slot + 1);
    }
recorded_as c t slot live one liveness stage is pushed next =
    ap (λ (l : List ContainerLiveness). (let new : Collection = record c { liveness = l; stage = stage } in new)) (pushed ∙ ap (λ (x : ContainerLiveness). c.liveness ++ x ∷ []) is)
    ∙ ap (λ (s : Stage). (let new : Collection = record c { liveness = c.liveness ++ recorded t slot live ∷ []; stage = s } in new)) next

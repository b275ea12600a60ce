-- A step of a collection of the machine of files is one of a collection of roots, once all but the roots is forgotten.
use Rattle.store_machine.proofs.Prelude.{◌≡◌, inl, inr, ℕ, suc, [], ◌∷◌, ◌++◌, Some, sym, ◌∙◌, ap, subst, Phase, ContainerLiveness, ids_of, Store, FlushContainer, Chooses, Copies, Flushes, IsRecordOf, JustGoes, Marks, Records, Releases, ids_before, next_of, no_sweep, sources_in, Forgets, forget_collection, Collection, Sweeping, forgotten_beside, of_files, of_roots}
use Rattle.std.proofs.Common.{List, slice_get}
use Rattle.refusals.specs.declared.refusal.Phase.TheVariants as phases
use Rattle.store_machine.specs.Collecting.{Goes, StandIn, Went}
use Rattle.store_machine.proofs.Parts.{F, G}

module _ (m : F) (r : G) (same : Forgets m r) where
  on_store : (P : Store → Type 0) → P m.store → P r.store
  on_store P holds = subst P (sym same.store) holds

  just_goes : (c : Collection (List ℕ)) (w : Went) → JustGoes of_files c m w → JustGoes of_roots (forget_collection c) r w
  just_goes c w (recorded, changes, forgotten) = (recorded, changes, forgotten ∙ sym same.forgotten)

  record_same : (c : Collection (List ℕ)) (one : ContainerLiveness) → IsRecordOf of_files c m.store one → IsRecordOf of_roots (forget_collection c) r.store one
  record_same c one is = record {
    slot = is.slot;
    header = is.header;
    there = on_store (λ (s : Store). slice_get s.held is.slot ≡ Some (Some is.header)) is.there;
    before = is.before;
    id_is = is.id_is;
    kind_is = is.kind_is;
    all_is = is.all_is;
    live_is = λ known. absurd known;
  }

  marks_same : (c : Collection (List ℕ)) (w : Went) → Marks of_files c m w → Marks of_roots (forget_collection c) r w
  marks_same c w (left, stage, next, just) = (left, stage, next, just_goes c w just)

  records_same : (c : Collection (List ℕ)) (w : Went) → Records of_files c m w → Records of_roots (forget_collection c) r w
  records_same c w (one, stage, next, recorded, changes, forgotten, (rest, order), is) = (
    one,
    stage,
    next,
    recorded,
    changes,
    forgotten ∙ sym same.forgotten,
    (rest, on_store (λ (s : Store). ids_before c.snapshot s.held ≡ ids_of w.recorded ++ rest) order),
    record_same c one is,
  )

  chooses_same : (c : Collection (List ℕ)) (w : Went) → Chooses of_files c m w → Chooses of_roots (forget_collection c) r w
  chooses_same c w (stage, all, next, just) = (
    stage,
    on_store (λ (s : Store). ids_of c.recorded ≡ ids_before c.snapshot s.held) all,
    on_store (λ (s : Store). w.stage ≡ Sweeping (next_of s.held (sources_in c) no_sweep) no_sweep) next,
    just_goes c w just,
  )

  more_left : (filled now after : List (List ℕ)) → ((more gone : List (List ℕ)) × (now ≡ filled ++ more) × (after ≡ m.forgotten ++ gone))
      → (more gone : List (List ℕ)) × (now ≡ filled ++ more) × (after ≡ r.forgotten ++ gone)
  more_left filled now after (more, gone, filled_is, gone_is) = (more, gone, filled_is, gone_is ∙ ap (λ (fs : List (List ℕ)). fs ++ gone) (sym same.forgotten))

  copies_same : (c : Collection (List ℕ)) (w : Went) → Copies of_files c m w → Copies of_roots (forget_collection c) r w
  copies_same c w (s, t, next, stage, after, recorded, changes, left, ready, more, over, ends) = (
    s,
    t,
    next,
    stage,
    after,
    recorded,
    changes,
    left,
    ready,
    more_left s.filled t.filled w.forgotten more,
    (λ known. absurd known),
    elim ends [
      | inl (source, entry, next_is, inl ends) ↦ inl (source, entry, on_store (λ (x : Store). next ≡ next_of x.held (sources_in c) t) next_is, inl ends)
      | inl (source, entry, next_is, inr (inl ends)) ↦ inl (source, entry, on_store (λ (x : Store). next ≡ next_of x.held (sources_in c) t) next_is, inr (inl ends))
      | inl (source, entry, next_is, inr (inr ends)) ↦ absurd (ends.0 tt)
      | inr stops ↦ inr stops
    ],
  )

  flushes_same : (c : Collection (List ℕ)) (w : Went) → Flushes of_files c m w → Flushes of_roots (forget_collection c) r w
  flushes_same c w (s, t, kind, segments, stage, changes, keys, t_is, next, recorded, forgotten, known) = (
    s,
    t,
    kind,
    segments,
    stage,
    changes ∙ ap (λ (id : ℕ). FlushContainer (suc id) kind segments ∷ []) (sym same.last_id),
    keys,
    t_is,
    on_store (λ (x : Store). w.stage ≡ Sweeping (next_of x.held (sources_in c) t) t) next,
    recorded,
    forgotten ∙ ap (forgotten_beside s.filled) (sym same.forgotten),
    λ e. absurd e,
  )

  releases_same : (c : Collection (List ℕ)) (w : Went) → Releases of_files c m w → Releases of_roots (forget_collection c) r w
  releases_same c w (s, t, slots, stage, some, stand, changes, t_is, next, recorded, forgotten, known) = (
    s,
    t,
    slots,
    stage,
    some,
    on_store (λ (x : Store). StandIn x.held s.ready slots) stand,
    changes,
    t_is,
    on_store (λ (x : Store). w.stage ≡ Sweeping (next_of x.held (sources_in c) t) t) next,
    recorded,
    forgotten ∙ sym same.forgotten,
    λ e. absurd e,
  )

  pub goes_same : (phase : Phase) (c : Collection (List ℕ)) (w : Went) → Goes of_files phase c m w → Goes of_roots phase (forget_collection c) r w
  goes_same phases.Mark c w is = marks_same c w is
  goes_same phases.Filter c w is = records_same c w is
  goes_same phases.Select c w is = chooses_same c w is
  goes_same phases.Copy c w is = copies_same c w is
  goes_same phases.Flush c w is = flushes_same c w is
  goes_same phases.Release c w is = releases_same c w is
  goes_same phase c w is = absurd is

-- A step of a collection of the machine of roots is one of that of files.
use Rattle.store_machine.proofs.Prelude.{◌≡◌, inl, inr, ℕ, suc, [], ◌∷◌, ◌++◌, length, Some, None, refl, sym, ◌∙◌, ap, subst, Root, ids_of, Phase, Store, FlushContainer, StoreChange, Begins, Chooses, Copies, Flushes, GoesOn, GoesOver, JustGoes, Makes, Marks, Records, Releases, freed_in, ids_before, keys_written, next_of, no_sweep, phase_in, sources_in, Forgets, forget_collection, Collection, Sweeping, forgotten_beside, AddsToPhase, AddsToStep, of_files, of_roots}
use Rattle.std.proofs.Common.{List}
use Rattle.refusals.specs.declared.refusal.Phase.TheVariants as phases
use Rattle.store_machine.specs.Collecting.{Ends, Goes, StandIn, Went}
use Rattle.store_machine.proofs.Forgotten.{begun_same}
use Rattle.store_machine.proofs.Parts.{F, G, begun_by, gone_by, with_collection, with_step}
use Rattle.store_machine.proofs.Recalled.{Recalls, goes, none_runs, on_store, one_runs}
use Rattle.store_machine.specs.Machine.{Sweep}

module _ (m : F) (r : G) (same : Forgets m r) where
  -- what is left of a step, that is of this kind
  abbrev Left : (F → Type 0) → G → Type 0
  Left P t = Recalls m r same P t

  pub begun : (percent snapshot : ℕ) (t : G) → Begins of_roots percent snapshot r t → Left (λ n. Begins of_files percent snapshot m n) t
  begun percent snapshot t (none, is, others) =
      goes m r same (λ n. Begins of_files percent snapshot m n) t (record r { collection = Some (begun_by percent snapshot r) })
      (record m { collection = Some (begun_by percent snapshot m) }) others
      (none_runs m r same none, is ∙ ap suc same.last_id, refl)
      (with_collection m r same (Some (begun_by percent snapshot m)) (Some (begun_by percent snapshot r))
      (ap Some (begun_same m r same percent snapshot)))

  -- ---- what each kind of step does, of a collection c, to what it leaves, w

  -- what the collection of the machine of roots is then
  abbrev after : Collection (List ℕ) → Went → Collection Root
  after c w = record (forget_collection c) { stage = w.stage; recorded = w.recorded; changes = c.changes ++ w.changes }

  module _ (c : Collection (List ℕ)) (w : Went) (t : G) (left : t.forgotten ≡ w.forgotten) where
    just_goes : JustGoes of_roots (forget_collection c) r w → JustGoes of_files c m w
    just_goes (recorded, changes, forgotten) = (recorded, changes, forgotten ∙ same.forgotten)

    marks : Marks of_roots (forget_collection c) r w → Marks of_files c m w
    marks (left, stage, next, just) = (left, stage, next, just_goes just)

    records : Records of_roots (forget_collection c) r w → AddsToPhase phases.Filter c (after c w) m t → Records of_files c m w
    records (one, stage, next, recorded, changes, forgotten, (rest, order), is) adds = (
      one,
      stage,
      next,
      recorded,
      changes,
      forgotten ∙ same.forgotten,
      (rest, on_store m r same (λ (s : Store). ids_before c.snapshot s.held ≡ ids_of w.recorded ++ rest) order),
      adds one recorded,
    )

    chooses : Chooses of_roots (forget_collection c) r w → Chooses of_files c m w
    chooses (stage, all, next, just) = (
      stage,
      on_store m r same (λ (s : Store). ids_of c.recorded ≡ ids_before c.snapshot s.held) all,
      on_store m r same (λ (s : Store). w.stage ≡ Sweeping (next_of s.held (sources_in c) no_sweep) no_sweep) next,
      just_goes just,
    )

    more_left : (filled now : List (List ℕ)) → ((more gone : List (List ℕ)) × (now ≡ filled ++ more) × (w.forgotten ≡ r.forgotten ++ gone))
        → (more gone : List (List ℕ)) × (now ≡ filled ++ more) × (w.forgotten ≡ m.forgotten ++ gone)
    more_left filled now (more, gone, filled_is, gone_is) = (more, gone, filled_is, gone_is ∙ ap (λ (fs : List (List ℕ)). fs ++ gone) same.forgotten)

    -- a source that was left alone was none of the machine of files
    copies : Copies of_roots (forget_collection c) r w → AddsToPhase phases.Copy c (after c w) m t → Copies of_files c m w
    copies (s, u, next, stage, then, recorded, changes, some, ready, more, over, ends) adds =
        let told = adds s u next stage then in (
          s,
          u,
          next,
          stage,
          then,
          recorded,
          changes,
          some,
          ready,
          more_left s.filled u.filled more,
          (λ known. subst (GoesOver of_files c m.store s u m.forgotten) left told.0),
          elim ends [
            | inl (source, entry, next_is, inr (inr (unknown, filled, waiting, none))) ↦
                inl (source, entry, still s u next next_is, inr (inl (filled, waiting, told.1 source filled)))
            | inl (source, entry, next_is, inr (inl ends)) ↦ inl (source, entry, still s u next next_is, inr (inl ends))
            | inl (source, entry, next_is, inl ends) ↦ inl (source, entry, still s u next next_is, inl ends)
            | inr stops ↦ inr stops
          ],
        )
      where
        still : (s u : Sweep) (next : Phase) → next ≡ next_of r.store.held (sources_in (forget_collection c)) u → next ≡ next_of m.store.held (sources_in c) u
        still s u next next_is = on_store m r same (λ (x : Store). next ≡ next_of x.held (sources_in c) u) next_is

    flushes : Flushes of_roots (forget_collection c) r w → AddsToPhase phases.Flush c (after c w) m t → Flushes of_files c m w
    flushes (s, u, kind, segments, stage, changes, keys, u_is, next, recorded, forgotten, known) adds = (
      s,
      u,
      kind,
      segments,
      stage,
      changes ∙ ap (λ (id : ℕ). FlushContainer (suc id) kind segments ∷ []) same.last_id,
      keys,
      u_is,
      on_store m r same (λ (x : Store). w.stage ≡ Sweeping (next_of x.held (sources_in c) u) u) next,
      recorded,
      forgotten ∙ ap (forgotten_beside s.filled) same.forgotten,
      λ told. adds (suc r.last_id) kind segments (ap (λ (made : List StoreChange). c.changes ++ made) changes),
    )

    releases : Releases of_roots (forget_collection c) r w → AddsToPhase phases.Release c (after c w) m t → Releases of_files c m w
    releases (s, u, slots, stage, some, stand, changes, u_is, next, recorded, forgotten, known) adds = (
      s,
      u,
      slots,
      stage,
      some,
      on_store m r same (λ (x : Store). StandIn x.held s.ready slots) stand,
      changes,
      u_is,
      on_store m r same (λ (x : Store). w.stage ≡ Sweeping (next_of x.held (sources_in c) u) u) next,
      recorded,
      forgotten ∙ same.forgotten,
      λ told. adds slots (ap (λ (made : List StoreChange). c.changes ++ made) changes),
    )

    all_goes : (phase : Phase) → Goes of_roots phase (forget_collection c) r w → AddsToPhase phase c (after c w) m t → Goes of_files phase c m w
    all_goes phases.Mark is adds = marks is
    all_goes phases.Filter is adds = records is adds
    all_goes phases.Select is adds = chooses is
    all_goes phases.Copy is adds = copies is adds
    all_goes phases.Flush is adds = flushes is adds
    all_goes phases.Release is adds = releases is adds
    all_goes phase is adds = absurd is

  -- ---- a step

  -- The collection is one of files, of which the rest was forgotten.
  of_one : (phase : Phase) (c : Collection (List ℕ)) (w : Went) (t : G) → m.collection ≡ Some c → phase ≡ phase_in r.store c
      → Goes of_roots phase (forget_collection c) r w → Makes w.changes r.store t.store → t ≡ gone_by phase (forget_collection c) w t.store r → AddsToStep phase m t
      → Left (λ n. GoesOn of_files phase m n) t
  of_one phase c w t ran phase_is is makes others adds =
      goes m r same (λ n. GoesOn of_files phase m n) t (gone_by phase (forget_collection c) w t.store r) (gone_by phase c w t.store m) others
      (record {
        c = c;
        ran = ran;
        phase_is = on_store m r same (λ (s : Store). phase ≡ phase_in s c) phase_is;
        went = w;
        goes = all_goes c w t (ap (λ (x : G). x.forgotten) others) phase is (adds c (after c w) ran (ap (λ (x : G). x.collection) others));
        makes = on_store m r same (λ (s : Store). Makes w.changes s t.store) makes;
        others = refl;
      })
      (with_step m r same phase c w t.store)

  pub gone_on : (phase : Phase) (t : G) → GoesOn of_roots phase r t → AddsToStep phase m t → Left (λ n. GoesOn of_files phase m n) t
  gone_on phase t g adds =
      let (c, ran, d_is) = one_runs m r same g.c g.ran in
      of_one phase c g.went t ran (subst (λ (d : Collection Root). phase ≡ phase_in r.store d) d_is g.phase_is)
      (subst (λ (d : Collection Root). Goes of_roots phase d r g.went) d_is g.goes) g.makes
      (subst (λ (d : Collection Root). t ≡ gone_by phase d g.went t.store r) d_is g.others) adds

  pub ended : (freed copied : ℕ) (t : G) → Ends of_roots freed copied r t → Left (λ n. Ends of_files freed copied m n) t
  ended freed copied t e =
      let (c, ran, d_is) = one_runs m r same e.c e.ran in
      goes m r same (λ n. Ends of_files freed copied m n) t (record r { collection = None }) (record m { collection = None }) e.others
      (record {
        c = c;
        ran = ran;
        s = e.s;
        at_end = ap (λ (d : Collection Root). d.stage) (sym d_is) ∙ e.at_end;
        freed_is = e.freed_is ∙ ap (λ (d : Collection Root). freed_in d.changes) d_is;
        copied_is = e.copied_is ∙ ap (λ (d : Collection Root). length (keys_written d.changes)) d_is;
        others = refl;
      })
      (with_collection m r same None None refl)

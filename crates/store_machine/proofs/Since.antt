-- What holds of a collection that runs, since it began, whatever steps came between.
use Rattle.store_machine.proofs.Prelude.{◌≡◌, ◌≢◌, ◌⊎◌, ◌↔◌, ◌<◌, ◌≤◌, inl, inr, ⊎_elim, ℕ, zero, suc, [], ◌∷◌, ◌++◌, length, map, Contains, Option, Some, None, refl, sym, ◌∙◌, ap, subst, arith, cases_eq, Contains-append_left, Contains-push, Contains-push_cases, AllByRecursion, HeaderValue, first_free, free_slots, with_slot, there_before, with_freed, Store, FreeContainer, HasContainer, HasIds, Makes, Machine}
use Rattle.std.proofs.Common.{List, slice_get}
use Rattle.std.proofs.lemmas.List.{append-nil, append_assoc}
use Rattle.store_model.specs.Slots.{without_slot}
use Rattle.store_model.proofs.Free.{first_closed, some_free}
use Rattle.store_model.proofs.Freed.{other_there}
use Rattle.store_machine.specs.Collecting.{StandIn}
use Rattle.store_machine.proofs.Released.{made_stand, stand_then}

-- ---- containers of slots

-- a container that is put into a slot, and those of the others
put_there : (slot : ℕ) (h : HeaderValue) (held : List (Option HeaderValue)) → slot < length held → slice_get (with_slot slot h held) slot ≡ Some (Some h)
put_there slot h [] within = absurd (omega (arith, within))
put_there zero h (c ∷ cs) within = refl
put_there (suc slot) h (c ∷ cs) within = put_there slot h cs (omega (arith, within))

others_there : (slot other : ℕ) (h : HeaderValue) (held : List (Option HeaderValue)) → slot ≢ other → slice_get (with_slot slot h held) other ≡ slice_get held other
others_there slot other h [] differ = refl
others_there zero zero h (c ∷ cs) differ = absurd (differ refl)
others_there zero (suc other) h (c ∷ cs) differ = refl
others_there (suc slot) zero h (c ∷ cs) differ = refl
others_there (suc slot) (suc other) h (c ∷ cs) differ = others_there slot other h cs (λ is. differ (ap suc is))

module _ {V R : Type 0} where
  -- The containers of a machine, since another: those of then that were not given back, and those that were sealed or written since, whose
  -- ids are greater.
  pub record HoldsSince (m k : Machine V R) (S : HeaderValue → Type 0) (gone : List ℕ) : Type 0 where
    pub last : m.last_id ≤ k.last_id
    pub from : (slot : ℕ) (h : HeaderValue) → HasContainer k.store slot h → HasContainer m.store slot h ⊎ S h
    pub late : (h : HeaderValue) → S h → m.last_id < h.id
    pub given_out : (slot : ℕ) (h : HeaderValue) → HasContainer k.store slot h → h.id ≤ k.last_id
    pub stay : (slot : ℕ) (h : HeaderValue) → HasContainer m.store slot h → HasContainer k.store slot h ⊎ Contains gone h.id
    pub none : (slot : ℕ) (h : HeaderValue) → HasContainer k.store slot h → ¬ (Contains gone h.id)
    pub below : (id : ℕ) → Contains gone id → id ≤ m.last_id
    pub there : (h : HeaderValue) → S h → (slot : ℕ) × HasContainer k.store slot h

  module _ (m k n : Machine V R) (S T : HeaderValue → Type 0) (gone : List ℕ) (since : HoldsSince m k S gone) where
    -- the same containers, by other words
    pub same_since : n.store.held ≡ k.store.held → n.last_id ≡ k.last_id → ((h : HeaderValue) → S h ↔ T h) → HoldsSince m n T gone
    same_since held last words =
        let back : (slot : ℕ) (h : HeaderValue) → HasContainer n.store slot h → HasContainer k.store slot h =
        λ slot h has. subst (λ (cs : List (Option HeaderValue)). slice_get cs slot ≡ Some (Some h)) held has in
        let on : (slot : ℕ) (h : HeaderValue) → HasContainer k.store slot h → HasContainer n.store slot h =
        λ slot h has. subst (λ (cs : List (Option HeaderValue)). slice_get cs slot ≡ Some (Some h)) (sym held) has in
        record {
          last = omega (arith, since.last, last);
          from = λ slot h has. from_by slot h (since.from slot h (back slot h has));
          late = λ h is. since.late h ((words h).1 is);
          given_out = λ slot h has. omega (arith, since.given_out slot h (back slot h has), last);
          stay = λ slot h has. stay_by slot h on (since.stay slot h has);
          none = λ slot h has. since.none slot h (back slot h has);
          below = since.below;
          there = λ h is. let one = since.there h ((words h).1 is) in (one.0, on one.0 h one.1);
        }
      where
        from_by : (slot : ℕ) (h : HeaderValue) → HasContainer m.store slot h ⊎ S h → HasContainer m.store slot h ⊎ T h
        from_by slot h (inl was) = inl was
        from_by slot h (inr is) = inr ((words h).0 is)

        stay_by : (slot : ℕ) (h : HeaderValue) → ((slot : ℕ) (h : HeaderValue) → HasContainer k.store slot h → HasContainer n.store slot h)
            → HasContainer k.store slot h ⊎ Contains gone h.id → HasContainer n.store slot h ⊎ Contains gone h.id
        stay_by slot h on (inl has) = inl (on slot h has)
        stay_by slot h on (inr is) = inr is

    -- one more, in the closed slot of least number, under the next id
    pub one_since : (h : HeaderValue) → 1 ≤ free_slots k.store.held → h.id ≡ suc k.last_id → n.store.held ≡ with_slot (first_free k.store.held) h k.store.held
        → n.last_id ≡ suc k.last_id → ((g : HeaderValue) → T g ↔ (S g ⊎ (g ≡ h))) → HoldsSince m n T gone
    one_since h some id_is held last words = record {
      last = omega (arith, since.last, last);
      from = λ slot g has. from_by slot g has;
      late = λ g is. late_by g ((words g).0 is);
      given_out = λ slot g has. given_by slot g has;
      stay = λ slot g has. stay_by slot g (since.stay slot g has);
      none = λ slot g has gone_is. none_by slot g gone_is has;
      below = since.below;
      there = λ g is. there_by g ((words g).0 is);
    }
      where
        free : ℕ
        free = first_free k.store.held

        within : free < length k.store.held
        within = some_free k.store.held some

        -- what a slot has
        at_slot : (slot : ℕ) (g : HeaderValue) → HasContainer n.store slot g → ((slot ≡ free) × (g ≡ h)) ⊎ ((slot ≢ free) × HasContainer k.store slot g)
        at_slot slot g has =
            let now : slice_get (with_slot free h k.store.held) slot ≡ Some (Some g) = subst (λ (cs : List (Option HeaderValue)). slice_get cs slot ≡ Some (Some g)) held has in
            ⊎_elim
            (λ same. inl (
              same,
              (let one : Some (Some h) ≡ Some (Some g) = sym (put_there free h k.store.held within)
                  ∙ subst (λ (s : ℕ). slice_get (with_slot free h k.store.held) s ≡ Some (Some g)) same now in cc),
            ))
            (λ other. inr (other, sym (others_there free slot h k.store.held (λ is. other (sym is))) ∙ now))
            (cases_eq slot free)

        kept : (slot : ℕ) (g : HeaderValue) → HasContainer k.store slot g → HasContainer n.store slot g
        kept slot g has =
            let closed : slice_get k.store.held free ≡ Some None = first_closed k.store.held within in
            let other : free ≢ slot =
            λ same. (let wrong : Some None ≡ Some (Some g) = sym closed ∙ subst (λ (s : ℕ). slice_get k.store.held s ≡ Some (Some g)) (sym same) has in absurd cc) in
            subst (λ (cs : List (Option HeaderValue)). slice_get cs slot ≡ Some (Some g)) (sym held) (others_there free slot h k.store.held other ∙ has)

        new_there : HasContainer n.store free h
        new_there = subst (λ (cs : List (Option HeaderValue)). slice_get cs free ≡ Some (Some h)) (sym held) (put_there free h k.store.held within)

        from_by : (slot : ℕ) (g : HeaderValue) → HasContainer n.store slot g → HasContainer m.store slot g ⊎ T g
        from_by slot g has = by (at_slot slot g has)
          where
            before : HasContainer m.store slot g ⊎ S g → HasContainer m.store slot g ⊎ T g
            before (inl was) = inl was
            before (inr is) = inr ((words g).1 (inl is))

            by : ((slot ≡ free) × (g ≡ h)) ⊎ ((slot ≢ free) × HasContainer k.store slot g) → HasContainer m.store slot g ⊎ T g
            by (inl one) = inr ((words g).1 (inr one.1))
            by (inr was) = before (since.from slot g was.1)

        late_by : (g : HeaderValue) → S g ⊎ (g ≡ h) → m.last_id < g.id
        late_by g (inl is) = since.late g is
        late_by g (inr is) = omega (arith, since.last, id_is, ap (λ (x : HeaderValue). x.id) is)

        given_by : (slot : ℕ) (g : HeaderValue) → HasContainer n.store slot g → g.id ≤ n.last_id
        given_by slot g has = by (at_slot slot g has)
          where
            by : ((slot ≡ free) × (g ≡ h)) ⊎ ((slot ≢ free) × HasContainer k.store slot g) → g.id ≤ n.last_id
            by (inl one) = omega (arith, last, id_is, ap (λ (x : HeaderValue). x.id) one.1)
            by (inr was) = omega (arith, last, since.given_out slot g was.1)

        stay_by : (slot : ℕ) (g : HeaderValue) → HasContainer k.store slot g ⊎ Contains gone g.id → HasContainer n.store slot g ⊎ Contains gone g.id
        stay_by slot g (inl has) = inl (kept slot g has)
        stay_by slot g (inr is) = inr is

        none_by : (slot : ℕ) (g : HeaderValue) → Contains gone g.id → HasContainer n.store slot g → ⊥
        none_by slot g gone_is has = by (at_slot slot g has)
          where
            by : ((slot ≡ free) × (g ≡ h)) ⊎ ((slot ≢ free) × HasContainer k.store slot g) → ⊥
            by (inl one) = absurd (omega (arith, since.below g.id gone_is, since.last, id_is, ap (λ (x : HeaderValue). x.id) one.1))
            by (inr was) = since.none slot g was.1 gone_is

        there_by : (g : HeaderValue) → S g ⊎ (g ≡ h) → (slot : ℕ) × HasContainer n.store slot g
        there_by g (inl is) = let one = since.there g is in (one.0, kept one.0 g one.1)
        there_by g (inr is) = (free, subst (λ (x : HeaderValue). HasContainer n.store free x) (sym is) new_there)

    -- one fewer, that was there: its id is given back
    less_since : (slot id : ℕ) (h : HeaderValue) → HasIds m.store m.last_id → HasContainer k.store slot h → h.id ≡ id → id ≤ m.last_id
        → n.store.held ≡ without_slot slot k.store.held → n.last_id ≡ k.last_id → ((g : HeaderValue) → S g ↔ T g) → HoldsSince m n T (gone ++ id ∷ [])
    less_since slot id h ids has id_is old held last words = record {
      last = omega (arith, since.last, last);
      from = λ other g now. from_by other g (since.from other g (before other g now).1);
      late = λ g is. since.late g ((words g).1 is);
      given_out = λ other g now. omega (arith, last, since.given_out other g (before other g now).1);
      stay = λ other g was. stay_by other g (since.stay other g was);
      none = λ other g now gone_is. none_by other g now (Contains-push_cases gone id g.id gone_is);
      below = λ x is. below_by x (Contains-push_cases gone id x is);
      there = λ g is. there_by g ((words g).1 is);
    }
      where
        before : (other : ℕ) (g : HeaderValue) → HasContainer n.store other g → (slot ≢ other) × HasContainer k.store other g
        before other g now = there_before slot other g k.store.held (subst (λ (cs : List (Option HeaderValue)). slice_get cs other ≡ Some (Some g)) held now)

        kept : (other : ℕ) (g : HeaderValue) → slot ≢ other → HasContainer k.store other g → HasContainer n.store other g
        kept other g differ was = subst (λ (cs : List (Option HeaderValue)). slice_get cs other ≡ Some (Some g)) (sym held) (other_there slot other k.store.held differ ∙ was)

        same_one : (other : ℕ) (g : HeaderValue) → slot ≡ other → HasContainer k.store other g → g ≡ h
        same_one other g same was =
            let both : Some (Some h) ≡ Some (Some g) = sym has ∙ subst (λ (s : ℕ). slice_get k.store.held s ≡ Some (Some g)) (sym same) was in cc

        from_by : (other : ℕ) (g : HeaderValue) → HasContainer m.store other g ⊎ S g → HasContainer m.store other g ⊎ T g
        from_by other g (inl was) = inl was
        from_by other g (inr is) = inr ((words g).0 is)

        stay_by : (other : ℕ) (g : HeaderValue) → HasContainer k.store other g ⊎ Contains gone g.id → HasContainer n.store other g ⊎ Contains (gone ++ id ∷ []) g.id
        stay_by other g (inr is) = inr (Contains-append_left gone (id ∷ []) g.id is)
        stay_by other g (inl was) = ⊎_elim
            (λ same. inr (subst (Contains (gone ++ id ∷ [])) (sym (ap (λ (x : HeaderValue). x.id) (same_one other g same was) ∙ id_is)) (Contains-push gone id)))
            (λ differ. inl (kept other g differ was))
            (cases_eq slot other)

        -- it was there before
        was_there : (other : ℕ) (g : HeaderValue) → HasContainer k.store other g → g.id ≤ m.last_id → HasContainer m.store other g
        was_there other g now few = by (since.from other g now)
          where
            by : HasContainer m.store other g ⊎ S g → HasContainer m.store other g
            by (inl was) = was
            by (inr is) = absurd (omega (arith, few, since.late g is))

        none_by : (other : ℕ) (g : HeaderValue) → HasContainer n.store other g → Contains gone g.id ⊎ (id ≡ g.id) → ⊥
        none_by other g now (inl is) = since.none other g (before other g now).1 is
        none_by other g now (inr is) =
            let b = before other g now in
            b.0 (ids.differ slot other h g (was_there slot h has (omega (arith, id_is, old))) (was_there other g b.1 (omega (arith, is, old))) (id_is ∙ is))

        below_by : (x : ℕ) → Contains gone x ⊎ (id ≡ x) → x ≤ m.last_id
        below_by x (inl is) = since.below x is
        below_by x (inr is) = omega (arith, is, old)

        there_by : (g : HeaderValue) → S g → (other : ℕ) × HasContainer n.store other g
        there_by g is =
            let one = since.there g is in
            let differ : slot ≢ one.0 =
            λ same. (let g_is = same_one one.0 g same one.1 in absurd (omega (arith, since.late g is, ap (λ (x : HeaderValue). x.id) g_is, id_is, old))) in
            (one.0, kept one.0 g differ one.1)

  -- fewer, those in these slots, that were there: their ids are given back
  pub all_less : (m k n : Machine V R) (S T : HeaderValue → Type 0) (gone : List ℕ) → HoldsSince m k S gone → HasIds m.store m.last_id → (ids slots : List ℕ)
      → StandIn k.store.held ids slots → AllByRecursion (λ id. id ≤ m.last_id) ids → Makes (map FreeContainer slots) k.store n.store → n.last_id ≡ k.last_id
      → ((g : HeaderValue) → S g ↔ T g) → HoldsSince m n T (gone ++ ids)
  all_less m k n S T gone since had [] [] stand old makes last words =
      subst (HoldsSince m n T) (sym (append-nil gone)) (same_since m k n S T gone since (ap (λ (s : Store). s.held) makes) last words)
  all_less m k n S T gone since had [] (slot ∷ slots) stand old makes last words = absurd stand
  all_less m k n S T gone since had (id ∷ ids) [] stand old makes last words = absurd stand
  all_less m k n S T gone since had (id ∷ ids) (slot ∷ slots) ((h, there, is), stand) old (can, makes) last words =
      let mid : Machine V R = record k { store = with_freed slot k.store } in
      let one : HoldsSince m mid S (gone ++ id ∷ []) = less_since m k mid S S gone since slot id h had there is old.0 refl refl (λ g. ((λ was. was), (λ was. was))) in
      let still = stand_then slot ids slots k.store.held (made_stand slots (with_freed slot k.store) n.store makes) stand in
      subst (HoldsSince m n T) (append_assoc gone (id ∷ []) ids) (all_less m mid n S T (gone ++ id ∷ []) one had ids slots still old.1 makes last words)

-- The newest copy of a key, as one more slot is looked at.
use Rattle.std.proofs.Common.{◌≡◌, ℕ, zero, suc, ◌+◌, Bool, true, false, List, [], ◌∷◌, ◌++◌, length, map, max, get_or, Option, Some, None, refl, sym, ap, ◌∙◌, arith}
use Rattle.std.specs.Prelude.{nat_lt}
use Rattle.std.proofs.lemmas.Bool.{ltb-true, ltb-false}
use Rattle.container_meta.specs.Spelling.{HeaderValue}
use Rattle.store_model.specs.Slots.{Copy, copy_in, newer, newest, last_id, ids_of}
use Rattle.store_model.proofs.Copies.{some_same, lies}
use Rattle.store_state.specs.Tables.{count_of}

-- ---- the newer one

pub newer-none : (a : Option Copy) → newer a None ≡ a
newer-none None = refl
newer-none (Some a) = refl

three : (a b c : Copy) → newer (newer (Some a) (Some b)) (Some c) ≡ newer (Some a) (newer (Some b) (Some c))
three a b c = by_first (nat_lt a.id b.id) (nat_lt b.id c.id) (nat_lt a.id c.id) refl refl refl
  where
    by_first : (ab bc ac : Bool) → nat_lt a.id b.id ≡ ab → nat_lt b.id c.id ≡ bc → nat_lt a.id c.id ≡ ac →
        newer (newer (Some a) (Some b)) (Some c) ≡ newer (Some a) (newer (Some b) (Some c))
    by_first true true true ab bc ac = cc
    by_first true false ac ab bc e = cc
    by_first false true ac ab bc e = cc
    by_first false false false ab bc ac = cc
    by_first true true false ab bc ac = absurd (omega (arith, ltb-true a.id b.id ab, ltb-true b.id c.id bc, ltb-false a.id c.id ac))
    by_first false false true ab bc ac = absurd (omega (arith, ltb-false a.id b.id ab, ltb-false b.id c.id bc, ltb-true a.id c.id ac))

pub newer-assoc : (a b c : Option Copy) → newer (newer a b) c ≡ newer a (newer b c)
newer-assoc None b c = refl
newer-assoc (Some a) None c = refl
newer-assoc (Some a) (Some b) None = newer-none (newer (Some a) (Some b))
newer-assoc (Some a) (Some b) (Some c) = three a b c

pub newest-push : (slot : ℕ) (held : List (Option HeaderValue)) (c : Option HeaderValue) (key : List ℕ) →
    newest slot (held ++ c ∷ []) key ≡ newer (newest slot held key) (copy_in (slot + length held) c key)
newest-push slot [] c key = newer-none (copy_in slot c key) ∙ ap (λ (s : ℕ). copy_in s c key) (omega arith)
newest-push slot (h ∷ held) c key =
    ap (newer (copy_in slot h key)) (newest-push (slot + 1) held c key)
    ∙ sym (newer-assoc (copy_in slot h key) (newest (slot + 1) held key) (copy_in ((slot + 1) + length held) c key))
    ∙ ap (λ (s : ℕ). newer (newer (copy_in slot h key) (newest (slot + 1) held key)) (copy_in s c key)) (omega arith)

-- ---- ids

pub ids-push-none : (held : List (Option HeaderValue)) → ids_of (held ++ None ∷ []) ≡ ids_of held ++ 0 ∷ []
ids-push-none [] = refl
ids-push-none (None ∷ held) = ap (λ l. 0 ∷ l) (ids-push-none held)
ids-push-none (Some h ∷ held) = ap (λ l. h.id ∷ l) (ids-push-none held)

pub ids-push : (held : List (Option HeaderValue)) (h : HeaderValue) → ids_of (held ++ Some h ∷ []) ≡ ids_of held ++ h.id ∷ []
ids-push [] h = refl
ids-push (None ∷ held) h = ap (λ l. 0 ∷ l) (ids-push held h)
ids-push (Some g ∷ held) h = ap (λ l. g.id ∷ l) (ids-push held h)

pub counts-push : (held : List (Option HeaderValue)) (c : Option HeaderValue) → map count_of (held ++ c ∷ []) ≡ map count_of held ++ count_of c ∷ []
counts-push [] c = refl
counts-push (d ∷ held) c = ap (λ l. count_of d ∷ l) (counts-push held c)

pub last-push-none : (held : List (Option HeaderValue)) → last_id (held ++ None ∷ []) ≡ last_id held
last-push-none [] = refl
last-push-none (None ∷ held) = last-push-none held
last-push-none (Some h ∷ held) = ap (max h.id) (last-push-none held)

pub last-push : (held : List (Option HeaderValue)) (h : HeaderValue) → last_id (held ++ Some h ∷ []) ≡ max (last_id held) h.id
last-push [] h = omega arith
last-push (None ∷ held) h = last-push held h
last-push (Some g ∷ held) h = ap (max g.id) (last-push held h) ∙ omega arith

-- the id of a container in a slot
id_there : (held : List (Option HeaderValue)) (slot : ℕ) (h : HeaderValue) → get_or held slot None ≡ Some h → get_or (ids_of held) slot 0 ≡ h.id
id_there [] slot h there = absurd cc
id_there (None ∷ held) zero h there = absurd cc
id_there (None ∷ held) (suc slot) h there = id_there held slot h there
id_there (Some g ∷ held) zero h there = ap (λ (x : HeaderValue). x.id) (some_same g h there)
id_there (Some g ∷ held) (suc slot) h there = id_there held slot h there

-- the slot of a copy has the id of its container
pub id_of_copy : (held : List (Option HeaderValue)) (key : List ℕ) (a : Copy) → newest 0 held key ≡ Some a → get_or (ids_of held) a.place.slot 0 ≡ a.id
id_of_copy held key a is =
    let there = lies 0 held key a is in
    ap (λ (c : Copy). get_or (ids_of held) c.place.slot 0) there.copy_is
    ∙ ap (λ (slot : ℕ). get_or (ids_of held) slot 0) (omega arith)
    ∙ id_there held there.index there.header there.there
    ∙ sym (ap (λ (c : Copy). c.id) there.copy_is)

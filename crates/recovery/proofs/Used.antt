-- Which ids are used, by a set of them.
use Rattle.recovery.proofs.Prelude.{◌≢◌, ℕ, List, [], ◌∷◌, ◌++◌, Option, None, Some, sym, ap, ◌∙◌, arith, HeaderValue, IsUnusedId}
use Rattle.std.proofs.Common.{◌≡◌, Bool, true, false, cond, refl}
use Rattle.std.specs.Prelude.{◌==◌, nat_lt, not}
use Rattle.std.specs.Ordering.{nat_cmp, is_eq}
use Rattle.std.specs.declared.cmp.Ordering.TheVariants.{Less, Equal, Greater}
use Rattle.std.specs.BTreeSet.{BTreeSet, IsEmpty, Updates, contains}
use Rattle.std.proofs.lemmas.Bool.{eqb-false, eqb-true, ltb-true}
use Rattle.recovery.specs.Slots.{AreIdsOf}
use Rattle.recovery.proofs.Pushed.{unused-push, unused-push-none, unused_before, unused_last}

pub found_by : (b : Bool) → not b ≡ false → b ≡ true
found_by true h = refl
found_by false h = absurd cc

none_in : (ids : BTreeSet ℕ) (id : ℕ) → IsEmpty ids → contains nat_cmp ids id ≡ false
none_in ids id none = cc

-- no id yet
pub no_ids : (ids : BTreeSet ℕ) → IsEmpty ids → AreIdsOf [] ids
no_ids ids none = λ id. (λ unused. tt, λ found. absurd (let other = none_in ids id none in cc))

-- a slot more that is closed
pub ids_closed : (held : List (Option HeaderValue)) (ids : BTreeSet ℕ) → AreIdsOf held ids → AreIdsOf (held ++ None ∷ []) ids
ids_closed held ids are = λ id. (
  λ none. unused-push-none id held ((are id).0 none),
  λ found unused. (are id).1 found (unused_before id held None unused),
)

same_id : (a b : ℕ) (below same : Bool) → nat_lt a b ≡ below → (a == b) ≡ same → is_eq (cond below Less (cond same Equal Greater)) ≡ true → a ≡ b
same_id a b true same lt eq h = absurd cc
same_id a b false true lt eq h = eqb-true a b eq
same_id a b false false lt eq h = absurd cc

other_id : (a b : ℕ) (below same : Bool) → nat_lt a b ≡ below → (a == b) ≡ same → is_eq (cond below Less (cond same Equal Greater)) ≡ false → a ≢ b
other_id a b true same lt eq h = λ is. absurd (omega (arith, ltb-true a b lt, is))
other_id a b false true lt eq h = absurd cc
other_id a b false false lt eq h = eqb-false a b eq

-- one that has a container, under an id that was new
pub ids_open : (held : List (Option HeaderValue)) (h : HeaderValue) (ids now : BTreeSet ℕ) → AreIdsOf held ids → Updates nat_cmp ids now h.id true →
    AreIdsOf (held ++ Some h ∷ []) now
ids_open held h ids now are updates = λ id. by_order id (is_eq (nat_cmp h.id id)) refl
  where
    by_order : (id : ℕ) (b : Bool) → is_eq (nat_cmp h.id id) ≡ b
        → (contains nat_cmp now id ≡ false → IsUnusedId id (held ++ Some h ∷ [])) × (contains nat_cmp now id ≡ true → IsUnusedId id (held ++ Some h ∷ []) → ⊥)
    by_order id true is =
        let same : h.id ≡ id = same_id h.id id (nat_lt h.id id) (h.id == id) refl refl is in
        let found : contains nat_cmp now id ≡ true = updates.0 id ∙ ap (λ (c : Bool). cond c true (contains nat_cmp ids id)) is in (
          λ none. absurd cc,
          λ there unused. unused_last id held h unused same,
        )
    by_order id false is =
        let differ : h.id ≢ id = other_id h.id id (nat_lt h.id id) (h.id == id) refl refl is in
        let kept : contains nat_cmp now id ≡ contains nat_cmp ids id = updates.0 id ∙ ap (λ (c : Bool). cond c true (contains nat_cmp ids id)) is in (
          λ none. unused-push id held h ((are id).0 (sym kept ∙ none)) differ,
          λ there unused. (are id).1 (sym kept ∙ there) (unused_before id held (Some h) unused),
        )

-- When two places are one.
use Rattle.std.proofs.Common.{◌≡◌, ℕ, true, refl, ◌∙◌, ap}
use Rattle.std.specs.Prelude.{◌&&◌, ◌==◌}
use Rattle.std.proofs.lemmas.Bool.{eqb-true, eq-eqb}
use Rattle.base_model.proofs.Checks.{both, both_true}
use Rattle.container_meta.specs.declared.place.Place.{Place}
use Rattle.copy_forward.specs.Entries.{is_place}

eq_true : (a b : ℕ) → a == b ≡ true → a ≡ b
eq_true a b same = eqb-true a b same

eq_same : (a b : ℕ) → a ≡ b → a == b ≡ true
eq_same a b same = eq-eqb a b same

pub same_place : (a b : Place) → is_place a b ≡ true → a ≡ b
same_place a b same =
    let three = both ((a.slot == b.slot) && (a.offset == b.offset) && (a.length == b.length)) (a.level == b.level) same in
    let two = both ((a.slot == b.slot) && (a.offset == b.offset)) (a.length == b.length) three.0 in
    let one = both (a.slot == b.slot) (a.offset == b.offset) two.0 in
    let slots = eq_true a.slot b.slot one.0 in
    let offsets = eq_true a.offset b.offset one.1 in
    let lengths = eq_true a.length b.length two.1 in
    let levels = eq_true a.level b.level three.1 in
    ap (λ (n : ℕ). (let p : Place = record { slot = n; offset = a.offset; length = a.length; level = a.level } in p)) slots
    ∙ ap (λ (n : ℕ). (let p : Place = record { slot = b.slot; offset = n; length = a.length; level = a.level } in p)) offsets
    ∙ ap (λ (n : ℕ). (let p : Place = record { slot = b.slot; offset = b.offset; length = n; level = a.level } in p)) lengths
    ∙ ap (λ (n : ℕ). (let p : Place = record { slot = b.slot; offset = b.offset; length = b.length; level = n } in p)) levels

pub place_same : (a : Place) → is_place a a ≡ true
place_same a =
    both_true ((a.slot == a.slot) && (a.offset == a.offset) && (a.length == a.length)) (a.level == a.level)
    (both_true ((a.slot == a.slot) && (a.offset == a.offset)) (a.length == a.length)
    (both_true (a.slot == a.slot) (a.offset == a.offset) (eq_same a.slot a.slot refl) (eq_same a.offset a.offset refl))
    (eq_same a.length a.length refl)) (eq_same a.level a.level refl)

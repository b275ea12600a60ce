-- Pins of several containers, one after the other, and taken back.
use Rattle.ingest_steps.proofs.Prelude.{◌≡◌, ◌⊎◌, inl, inr, ℕ, suc, List, [], ◌∷◌, ◌++◌, length, take, Option, Some, refl, sym, ◌∙◌, ap, subst, arith, AllByRecursion, IfSome, Contents, Pin, PinMap, IsPin, WereHad, with_pins}
use Rattle.std.proofs.Common.{zero, slice_get, take_all}
use Rattle.std.specs.Global.{Vec}
use Rattle.ingest_steps.specs.Offering.{IsHadOf, WereHadIn, with_pins_of}
use Rattle.ingest_steps.proofs.PinList.{pins_whole}

-- one container more
pub pins_of_next : (filled : List Contents) (pins : PinMap) (i n : ℕ) (c : Contents) → slice_get filled i ≡ Some c → n ≡ suc i
    → with_pins_of (take n filled) pins ≡ with_pins c.kind c.segments (with_pins_of (take i filled) pins)
pins_of_next filled pins i n c here is = ap (λ (k : ℕ). with_pins_of (take k filled) pins) is ∙ one_more filled pins i here
  where
    one_more : (cs : List Contents) (pins : PinMap) (j : ℕ) → slice_get cs j ≡ Some c
        → with_pins_of (take (suc j) cs) pins ≡ with_pins c.kind c.segments (with_pins_of (take j cs) pins)
    one_more [] pins j here = absurd cc
    one_more (x ∷ xs) pins zero here = ap (λ (d : Contents). with_pins d.kind d.segments pins) (same x c here)
      where
        same : (a b : Contents) → Some a ≡ Some b → a ≡ b
        same a b is = cc
    one_more (x ∷ xs) pins (suc j) here = one_more xs (with_pins x.kind x.segments pins) j here

-- all of them
pub pins_of_whole : (filled : List Contents) (pins : PinMap) (n : ℕ) → n ≡ length filled → with_pins_of (take n filled) pins ≡ with_pins_of filled pins
pins_of_whole filled pins n is = ap (λ (cs : List Contents). with_pins_of cs pins) (ap (λ (k : ℕ). take k filled) is ∙ take_all (length filled) filled (omega arith))

-- what was said of the keys of one of them
module _ (filled : List Contents) (before : PinMap) (hads : List (Vec (Option Pin))) (were : WereHadIn filled before hads) (i n : ℕ) (c : Contents)
    (had : Vec (Option Pin)) (here : slice_get filled i ≡ Some c) (there : slice_get hads i ≡ Some had) (listed : List (Option Pin)) (value : listed ≡ had.items) where
  pub had_right : AllByRecursion (λ h. IfSome h IsPin) listed
  had_right = subst (AllByRecursion (λ h. IfSome h IsPin)) (sym value) (were i c had here there).right

  pub had_were : WereHad c.kind c.segments (with_pins_of (take i filled) before) listed
  had_were = subst (WereHad c.kind c.segments (with_pins_of (take i filled) before)) (sym value) (were i c had here there).were

  pub had_kept : (pins : PinMap) → pins ≡ with_pins_of (take n filled) before → n ≡ suc i
      → pins ≡ with_pins c.kind (take (length listed) c.segments) (with_pins_of (take i filled) before)
  had_kept pins are is =
      are ∙ pins_of_next filled before i n c here is
      ∙ sym (pins_whole c.kind c.segments (with_pins_of (take i filled) before) (length listed) (ap length value ∙ (were i c had here there).many))

-- ---- one more is noted

pub got_push : {X : Type 0} (xs : List X) (x y : X) (j : ℕ) → slice_get (xs ++ x ∷ []) j ≡ Some y → (slice_get xs j ≡ Some y) ⊎ ((j ≡ length xs) × (x ≡ y))
got_push [] x y zero is = inr (refl, same x y is)
  where
    same : {X : Type 0} (a b : X) → Some a ≡ Some b → a ≡ b
    same a b is = cc
got_push [] x y (suc j) is = absurd cc
got_push (z ∷ zs) x y zero is = inl is
got_push (z ∷ zs) x y (suc j) is = elim (got_push zs x y j is) [
  | inl old ↦ inl old
  | inr new ↦ inr (ap suc new.0, new.1)
]

pub had_in_push : (filled : List Contents) (pins : PinMap) (hads : List (Vec (Option Pin))) (had : Vec (Option Pin)) (i : ℕ) (c : Contents) → length hads ≡ i
    → WereHadIn filled pins hads → slice_get filled i ≡ Some c → IsHadOf c (with_pins_of (take i filled) pins) had.items → WereHadIn filled pins (hads ++ had ∷ [])
had_in_push filled pins hads had i c many were here is = λ j d h at there. elim (got_push hads had h j there) [
  | inl old ↦ were j d h at old
  | inr new ↦
      let j_is : j ≡ i = new.0 ∙ many in
      let same : c ≡ d = one c d (sym here ∙ sym (ap (slice_get filled) j_is) ∙ at) in
      subst (λ (k : ℕ). IsHadOf d (with_pins_of (take k filled) pins) h.items) (sym j_is)
      (subst (λ (v : Vec (Option Pin)). IsHadOf d (with_pins_of (take i filled) pins) v.items) new.1
      (subst (λ (x : Contents). IsHadOf x (with_pins_of (take i filled) pins) had.items) same is))
]
  where
    one : (a b : Contents) → Some a ≡ Some b → a ≡ b
    one a b is = cc

-- Pins of segments, one after the other, and taken back.
use Rattle.ingest_steps.proofs.Prelude.{◌≡◌, ◌⊎◌, inl, inr, ℕ, suc, ◌+◌, ◌<◌, Bool, true, false, cond, List, [], ◌∷◌, ◌++◌, length, take, get_or, Option, Some, None, IsSome, refl, sym, ◌∙◌, ap, subst, arith, slice_cmp, nat_list_cmp_total, AllByRecursion, nat_cmp, eq_by_cmp, bytes_eq-Decides, Entry, Kind, Segment, entries_from, segment_at, segment_key, Pin, PinMap, IsPin, IsOfKind, pin_by, tied, WereHad, had_again, with_pins}
use Rattle.std.proofs.Common.{zero}
use Rattle.std.specs.FinMap as finite
use Rattle.container_meta.specs.Format.{is_length}
use Rattle.container_meta.specs.Spelling.{Follow}
use Rattle.store_model.proofs.Copies.{length_within}
use Rattle.ingest_steps.proofs.Pinned.{pin_right}

-- ---- one segment

pub all_at : (P : Segment → Type 0) (ss : List Segment) (i : ℕ) → i < length ss → AllByRecursion P ss → P (segment_at ss i)
all_at P [] i within all = absurd (omega (arith, within))
all_at P (s ∷ ss) zero within all = all.0
all_at P (s ∷ ss) (suc i) within all = all_at P ss i (omega (arith, within)) all.1

pub length_at : (kind : Kind) (before : List Entry) (offset : ℕ) (ss : List Segment) (i : ℕ) → i < length ss → Follow kind before (entries_from offset ss)
    → is_length kind (length (segment_at ss i).bytes) ≡ true
length_at kind before offset [] i within follow = absurd (omega (arith, within))
length_at kind before offset (s ∷ ss) zero within follow = follow.0.length
length_at kind before offset (s ∷ ss) (suc i) within follow =
    length_at kind (before ++ _ ∷ []) (offset + length s.bytes) ss i (omega (arith, within)) follow.1

pub right_at : (kind : Kind) (ss : List Segment) (i : ℕ) → i < length ss → AllByRecursion (λ s. IsOfKind kind s) ss → is_length kind (length (segment_at ss i).bytes) ≡ true
    → IsPin (pin_by kind (segment_at ss i))
right_at kind ss i within all long =
    let sizes = length_within kind (length (segment_at ss i).bytes) long in
    pin_right kind (segment_at ss i) (all_at (λ s. IsOfKind kind s) ss i within all) sizes.0 sizes.1

-- ---- one more pin

with_pins_push : (kind : Kind) (ss : List Segment) (s : Segment) (pins : PinMap)
    → with_pins kind (ss ++ s ∷ []) pins ≡ finite.insert (with_pins kind ss pins) (segment_key kind s) (pin_by kind s)
with_pins_push kind [] s pins = refl
with_pins_push kind (t ∷ ss) s pins = with_pins_push kind ss s (finite.insert pins (segment_key kind t) (pin_by kind t))

take_next : (ss : List Segment) (i : ℕ) → i < length ss → take (suc i) ss ≡ take i ss ++ segment_at ss i ∷ []
take_next [] i within = absurd (omega (arith, within))
take_next (s ∷ ss) zero within = refl
take_next (s ∷ ss) (suc i) within = ap (λ (l : List Segment). s ∷ l) (take_next ss i (omega (arith, within)))

pub pins_next : (kind : Kind) (ss : List Segment) (pins : PinMap) (i n : ℕ) → i < length ss → n ≡ suc i
    → with_pins kind (take n ss) pins ≡ finite.insert (with_pins kind (take i ss) pins) (segment_key kind (segment_at ss i)) (pin_by kind (segment_at ss i))
pins_next kind ss pins i n within is =
    ap (λ (k : ℕ). with_pins kind (take k ss) pins) is
    ∙ ap (λ (l : List Segment). with_pins kind l pins) (take_next ss i within)
    ∙ with_pins_push kind (take i ss) (segment_at ss i) pins

take_all : (ss : List Segment) → take (length ss) ss ≡ ss
take_all [] = refl
take_all (s ∷ ss) = ap (λ (l : List Segment). s ∷ l) (take_all ss)

pub pins_whole : (kind : Kind) (ss : List Segment) (pins : PinMap) (n : ℕ) → n ≡ length ss → with_pins kind (take n ss) pins ≡ with_pins kind ss pins
pins_whole kind ss pins n is = ap (λ (k : ℕ). with_pins kind (take k ss) pins) is ∙ ap (λ (l : List Segment). with_pins kind l pins) (take_all ss)

-- ---- what was said

module _ {X : Type 0} (d : X) where
  pub pushed : (xs : List X) (x : X) (j : ℕ) → j < length xs + 1
      → (j < length xs × (get_or (xs ++ x ∷ []) j d ≡ get_or xs j d)) ⊎ ((j ≡ length xs) × (get_or (xs ++ x ∷ []) j d ≡ x))
  pushed [] x zero within = inr (refl, refl)
  pushed [] x (suc j) within = absurd (omega (arith, within))
  pushed (y ∷ ys) x zero within = inl (omega arith, refl)
  pushed (y ∷ ys) x (suc j) within = elim (pushed ys x j (omega (arith, within))) [
    | inl old ↦ inl (omega (arith, old.0), old.1)
    | inr new ↦ inr (omega (arith, new.0), new.1)
  ]

  pub all_got : (P : X → Type 0) (xs : List X) (j : ℕ) → j < length xs → AllByRecursion P xs → P (get_or xs j d)
  all_got P [] j within all = absurd (omega (arith, within))
  all_got P (x ∷ xs) zero within all = all.0
  all_got P (x ∷ xs) (suc j) within all = all_got P xs j (omega (arith, within)) all.1

pub length-push : {X : Type 0} (xs : List X) (x : X) → length (xs ++ x ∷ []) ≡ length xs + 1
length-push [] x = refl
length-push (y ∷ ys) x = omega (arith, length-push ys x)

pub had_push : (kind : Kind) (ss : List Segment) (pins : PinMap) (hads : List (Option Pin)) (h : Option Pin) (i : ℕ) → length hads ≡ i → WereHad kind ss pins hads
    → h ≡ finite.get (with_pins kind (take i ss) pins) (segment_key kind (segment_at ss i)) → WereHad kind ss pins (hads ++ h ∷ [])
had_push kind ss pins hads h i many were is j below = elim (pushed None hads h j (omega (arith, below, length-push hads h))) [
  | inl old ↦ old.1 ∙ were j old.0
  | inr new ↦ new.1 ∙ is ∙ ap (λ (k : ℕ). finite.get (with_pins kind (take k ss) pins) (segment_key kind (segment_at ss k))) (sym (new.0 ∙ many))
]

-- ---- taken back

pub there : (m : PinMap) (key : List ℕ) (pin : Pin) → finite.get (finite.insert m key pin) key ≡ Some pin
there m key pin =
    finite.get-insert nat_list_cmp_total m key pin key ∙ ap (λ (b : Bool). cond b (Some pin) (finite.get m key)) (tied key key ∙ (bytes_eq-Decides key key).1 refl)

pub there_after : (pins m : PinMap) (key other : List ℕ) (pin : Pin) → pins ≡ finite.insert m key pin → other ≡ key → IsSome (finite.get pins other)
there_after pins m key other pin is same =
    subst IsSome (sym (ap (finite.get pins) same ∙ ap (λ (x : PinMap). finite.get x key) is ∙ there m key pin)) refl

pub pin_back : (m : PinMap) (key : List ℕ) (pin : Pin) (had : Option Pin) → had ≡ finite.get m key → had_again had key (finite.insert m key pin) ≡ m
pin_back m key pin had is =
    finite.same_map nat_list_cmp_total (finite.slice_cmp-IsAntisymmetric finite.nat_cmp-IsAntisymmetric) (had_again had key (finite.insert m key pin)) m
    (λ q. seen had q ∙ by_test q (eq_by_cmp (slice_cmp nat_cmp) q key) refl)
  where
    seen : (o : Option Pin) (q : List ℕ)
        → finite.get (had_again o key (finite.insert m key pin)) q ≡ cond (eq_by_cmp (slice_cmp nat_cmp) q key) o
        (cond (eq_by_cmp (slice_cmp nat_cmp) q key) (Some pin) (finite.get m q))
    seen (Some p) q =
        finite.get-insert nat_list_cmp_total (finite.insert m key pin) key p q
        ∙ ap (λ (o : Option Pin). cond (eq_by_cmp (slice_cmp nat_cmp) q key) (Some p) o) (finite.get-insert nat_list_cmp_total m key pin q)
    seen None q =
        finite.get-remove nat_list_cmp_total (finite.insert m key pin) key q
        ∙ ap (λ (o : Option Pin). cond (eq_by_cmp (slice_cmp nat_cmp) q key) None o) (finite.get-insert nat_list_cmp_total m key pin q)

    by_test : (q : List ℕ) (b : Bool) → eq_by_cmp (slice_cmp nat_cmp) q key ≡ b → cond b had (cond b (Some pin) (finite.get m q)) ≡ finite.get m q
    by_test q true same = is ∙ ap (finite.get m) (sym (sym ((bytes_eq-Decides key q).0 (sym (tied q key) ∙ same))))
    by_test q false other = refl

-- Containers whose bodies are written, one after the other.
use Rattle.std.proofs.Common.{◌≡◌, inl, inr, ℕ, ◌+◌, ◌-◌, ◌<◌, ◌≤◌, List, [], length, take, drop, get_or, slice_get, Some, Result, Ok, Err, IfOk, refl, sym, ◌∙◌, ap, arith, subst, length-drop}
use Rattle.std.specs.Result.{IsErr}
use Rattle.std.proofs.Math.ListN.{set}
use Rattle.std.proofs.lemmas.Bool.{cases_lt}
use Rattle.std.proofs.lemmas.List.{get_or-set_other, get_or-set_same, take_rest}
use Rattle.base_model.specs.Bytes.{range}
use Rattle.base_model.proofs.Frames.{same_written}
use Rattle.base_model.proofs.Ranges.{range-written}
use Rattle.disk_format.specs.declared.numbers.TheConstants.{SLOT_BYTES}
use Rattle.disk_format.specs.Layout.{slot_at}
use Rattle.dd_disk.specs.Ending.{Ending, Done}
use Rattle.dd_disk.specs.View.{DiskView}
use Rattle.dd_disk.specs.Writes.{Puts, Torn}
use Rattle.dd_disk.specs.Wrote.{SameIn, Wrote}
use Rattle.dd_disk.proofs.Wrote.{same_in_on, same_in_torn, wrote_on}
use Rattle.container_meta.specs.Segments.{Contents}
use Rattle.container_meta.specs.Spelling.{header_digest, header_of}
use Rattle.container_log.specs.Many.{AreSlots, AreDigests, NoBody, IsSlotOf, HasBody, HaveBodies, spelling_of}

pub some_same : {A : Type 0} (a b : A) → Some a ≡ Some b → a ≡ b
some_same a b same = cc

-- an error gives no value
pub not_ok : {A E : Type 0} (result : Result A E) (P : A → Type 0) → IsErr result → IfOk result P
not_ok (Ok x) P is = absurd cc
not_ok (Err e) P is = tt

-- how long a container is without its gate
length_body : (cell : List ℕ) → length cell ≡ SLOT_BYTES → length (drop 1 cell) ≡ 262143
length_body cell long = length-drop 1 cell ∙ omega (arith, long)

-- the bytes after the gate are all but the first
pub wrote_rest : (place at : ℕ) (cell : List ℕ) (e : Ending) (old new : DiskView) → place ≡ at → Wrote (Torn (place + 1) (length (take (length cell - 1) (drop 1 cell))))
    (Puts (place + 1) (take (length cell - 1) (drop 1 cell))) e old new
    → Wrote (Torn (at + 1) (length (drop 1 cell))) (Puts (at + 1) (drop 1 cell)) e old new
wrote_rest place at cell e old new is wrote =
    subst (λ (p : ℕ). Wrote (Torn (p + 1) (length (drop 1 cell))) (Puts (p + 1) (drop 1 cell)) e old new) is
    (subst (λ (b : List ℕ). Wrote (Torn (place + 1) (length b)) (Puts (place + 1) b) e old new) (take_rest cell 1) wrote)

-- one digest more
pub digests_on : (index id : ℕ) (filled : List Contents) (digests : List (List ℕ)) (digest : List ℕ) (contents : Contents) → index < length digests →
    slice_get filled index ≡ Some contents → digest ≡ header_digest (header_of (id + index) contents.kind contents.segments)
    → AreDigests index id filled digests → AreDigests (index + 1) id filled (set digests index digest)
digests_on index id filled digests digest contents more there is are i c less c_is = elim (cases_lt i index) [
  | inl before ↦ get_or-set_other digests index i digest [] (λ same. absurd (omega (arith, same, before))) ∙ are i c before c_is
  | inr past ↦
      let same : index ≡ i = omega (arith, less, past) in
      let one : contents ≡ c = some_same contents c (sym there ∙ ap (slice_get filled) same ∙ c_is) in
      ap (λ (k : ℕ). get_or (set digests index digest) k []) (sym same) ∙ get_or-set_same digests index digest [] more ∙ is
      ∙ ap (λ (k : ℕ). header_digest (header_of (id + k) contents.kind contents.segments)) same
      ∙ ap (λ (x : Contents). header_digest (header_of (id + i) x.kind x.segments)) one
]

module _ (size : ℕ) (slots : List ℕ) (id : ℕ) (filled : List Contents) (are : AreSlots size slots) (index slot at : ℕ) (contents : Contents) (cell : List ℕ)
    (here : slice_get slots index ≡ Some slot) (there : slice_get filled index ≡ Some contents) (place : at ≡ slot_at slot + 1)
    (spelled : cell ≡ spelling_of (id + index) contents) (is : IsSlotOf (id + index) contents.kind contents.segments cell) where
  long : length (drop 1 cell) ≡ 262143
  long = length_body cell is.size

  fits : slot_at slot + SLOT_BYTES ≤ size
  fits = are.within index slot here

  body_torn : (d c : List ℕ) → length d ≡ size → Torn at (length (drop 1 cell)) d c → SameIn (NoBody slots) d c
  body_torn d c sized torn =
      same_in_torn (NoBody slots) at (length (drop 1 cell)) d c (omega (arith, long, fits, sized, place))
      (λ p count out. elim (out index slot here) [ inl before ↦ inl (omega (arith, before, place)) | inr after ↦ inr (omega (arith, after, place, long)) ])
      torn

  -- the body stands
  this_body : (m c : List ℕ) → length m ≡ size → Puts at (drop 1 cell) m c → HasBody c slot (id + index) contents
  this_body m c sized puts = record {
    is = subst (IsSlotOf (id + index) contents.kind contents.segments) spelled is;
    stands = subst (λ (p : ℕ). range p 262143 c ≡ drop 1 cell) place
        (ap (range at 262143) puts ∙ range-written at 262143 (drop 1 cell) m (omega (arith, fits, sized, place)) long) ∙ ap (drop 1) spelled;
  }

  -- and one that stood before it stands still
  that_body : (m c : List ℕ) → length m ≡ size → Puts at (drop 1 cell) m c → (i s : ℕ) (k : Contents) → i < index → slice_get slots i ≡ Some s → HasBody m s (id + i) k
      → HasBody c s (id + i) k
  that_body m c sized puts i s k less s_is has =
      let below : s < slot = are.rise i index s slot less s_is here in
      let same = same_written at (length (drop 1 cell)) (drop 1 cell) m refl (omega (arith, long, fits, sized, place)) in
      record { is = has.is; stands = ap (range (slot_at s + 1) 262143) puts ∙ same.before (slot_at s + 1) 262143 (omega (arith, below, place)) ∙ has.stands }

  bodies_on : (given m c : List ℕ) → length given ≡ size → length m ≡ size → HaveBodies index slots id filled given m → Puts at (drop 1 cell) m c
      → HaveBodies (index + 1) slots id filled given c
  bodies_on given m c given_sized sized part puts = record {
    rest = same_in_on (NoBody slots) given m c part.rest (body_torn m c sized (record { bytes = drop 1 cell; count = refl; holds = puts }));
    each = λ i s k less s_is k_is. elim (cases_lt i index) [
      | inl before ↦ that_body m c sized puts i s k before s_is (part.each i s k before s_is k_is)
      | inr past ↦
          let same : i ≡ index = omega (arith, less, past) in
          let s_same : slot ≡ s = some_same slot s (sym here ∙ ap (slice_get slots) (sym same) ∙ s_is) in
          let k_same : contents ≡ k = some_same contents k (sym there ∙ ap (slice_get filled) (sym same) ∙ k_is) in
          subst (λ (n : ℕ). HasBody c s (id + n) k) (sym same)
          (subst (HasBody c s (id + index)) k_same (subst (λ (x : ℕ). HasBody c x (id + index) contents) s_same (this_body m c sized puts)))
    ];
  }

  -- one more body
  pub wrote_body : (e : Ending) (old mid new : DiskView) → old.size ≡ size → Wrote (SameIn (NoBody slots)) (HaveBodies index slots id filled) Done old mid
      → Wrote (Torn at (length (drop 1 cell))) (Puts at (drop 1 cell)) e mid new → Wrote (SameIn (NoBody slots)) (HaveBodies (index + 1) slots id filled) e old new
  wrote_body e old mid new size_is first second =
      wrote_on (SameIn (NoBody slots)) (Torn at (length (drop 1 cell))) (HaveBodies index slots id filled) (Puts at (drop 1 cell)) (HaveBodies (index + 1) slots id filled)
      old mid new (same_in_on (NoBody slots)) first
      (λ d c sized torn. body_torn d c (sized ∙ first.later.size_is ∙ size_is) torn)
      (λ given m c given_sized sized part puts. bodies_on given m c (given_sized ∙ size_is) (sized ∙ size_is) part puts)
      e second

-- Lists of one slot and one container.
use Rattle.std.proofs.Common.{◌≡◌, ◌⊎◌, inl, inr, ℕ, suc, zero, ◌+◌, ◌≤◌, List, [], ◌∷◌, length, get_or, slice_get, Result, Ok, Err, OnOk, Some, None, refl, sym, ◌∙◌, ap, arith, subst}
use Rattle.base_model.specs.Bytes.{range}
use Rattle.base_model.specs.Known.{Known, KnownWith}
use Rattle.base_model.proofs.Ranges.{length-range, range-one}
use Rattle.disk_format.specs.declared.numbers.TheConstants.{SLOT_BYTES}
use Rattle.disk_format.specs.Layout.{slot_at}
use Rattle.dd_disk.specs.Ending.{Ending, Done, ending}
use Rattle.dd_disk.specs.View.{DiskView}
use Rattle.dd_disk.specs.Writes.{Puts, Writes}
use Rattle.dd_disk.specs.Wrote.{SameIn}
use Rattle.dd_disk.proofs.Writes.{writes_weaker}
use Rattle.dd_disk.proofs.Wrote.{puts_same, same_but}
use Rattle.container_meta.specs.Segments.{Contents}
use Rattle.container_meta.specs.Spelling.{header_digest, header_of}
use Rattle.store_model.specs.Slots.{HoldsSlot, HoldsContainer}
use Rattle.container_log.specs.declared.fault.LogFault.{LogFault}
use Rattle.container_log.specs.Faults.{blames}
use Rattle.container_log.specs.Many.{AreDigests, NoSlot, NoGate, SpellsOne, SealsAll, AreSealed, FreesAll, AreFreed, spelling_of}
use Rattle.container_log.specs.Writing.{SameButSlot, SameButGate, Seals, IsSealed, Frees, IsFreed}
use Rattle.container_log.proofs.Bodies.{some_same}

-- the one element of a list is so
pub one_so : {A : Type 0} (P : ℕ → A → Type 0) (x : A) → P 0 x → (i : ℕ) (y : A) → slice_get (x ∷ []) i ≡ Some y → P i y
one_so P x so zero y here = subst (P 0) (some_same x y here) so
one_so P x so (suc i) y here = absurd cc

module _ (slot : ℕ) (old new : List ℕ) where
  same_slot : SameIn (NoSlot (slot ∷ [])) old new → SameButSlot slot old new
  same_slot = same_but (NoSlot (slot ∷ [])) (slot_at slot) SLOT_BYTES old new
      (λ p count apart. one_so (λ i s. (p + count ≤ slot_at s) ⊎ (slot_at s + SLOT_BYTES ≤ p)) slot apart)

  same_gate : SameIn (NoGate (slot ∷ [])) old new → SameButGate slot old new
  same_gate = same_but (NoGate (slot ∷ [])) (slot_at slot) 1 old new
      (λ p count apart. one_so (λ i s. (p + count ≤ slot_at s) ⊎ (slot_at s + 1 ≤ p)) slot apart)

-- ---- a slot is closed

module _ (slot : ℕ) (old new : DiskView) where
  freed : (given c : List ℕ) → AreFreed (slot ∷ []) given c → IsFreed slot given c
  freed given c all = (same_gate slot given c all.rest, λ opened. absurd (omega (arith, all.each 0 slot (omega arith) refl, opened)))

  pub writes_freed : (e : Ending) → Writes (λ _. FreesAll (slot ∷ [])) (AreFreed (slot ∷ [])) e old new → Writes (λ _. Frees slot) (IsFreed slot) e old new
  writes_freed e =
      writes_weaker (λ _. FreesAll (slot ∷ [])) (λ _. Frees slot) (AreFreed (slot ∷ [])) (IsFreed slot) old new (λ given c known all. freed given c all) e
      (λ given d c known image all. (same_gate slot d c all.0, λ h held. all.1 0 slot h refl held))

  -- its gate was written, and nothing else
  pub freed_whole : {T : Type 0} (result : Result T LogFault) → slot_at slot + SLOT_BYTES ≤ old.size
      → Writes (λ _. FreesAll (slot ∷ [])) (AreFreed (slot ∷ [])) (ending blames result) old new
      → OnOk result (Known old.content (λ given. KnownWith new.content (Puts (slot_at slot) (0 ∷ []) given)))
  freed_whole (Ok x) fits writes = λ given known.
      let c = writes.written.0 given known in
      let room : slot_at slot + SLOT_BYTES ≤ length given = omega (arith, fits, old.sized given known) in (
        c.0,
        c.1,
        puts_same (slot_at slot) 1 (0 ∷ []) given c.0 refl (omega (arith, room)) (same_gate slot given c.0 c.2.rest)
            (range-one (slot_at slot) c.0 (omega (arith, room, c.2.rest.size)) ∙ ap (λ (b : ℕ). b ∷ []) (c.2.each 0 slot (omega arith) refl)),
      )
  freed_whole (Err e) fits writes = tt

-- ---- a container is sealed

module _ (slot id : ℕ) (contents : Contents) (filled : List Contents) (one : filled ≡ contents ∷ []) where
  here : id + 0 ≡ id
  here = omega arith

  first : slice_get filled 0 ≡ Some contents
  first = ap (λ (l : List Contents). slice_get l 0) one

  pub one_spelled : (image : List ℕ) → SpellsOne id filled image → image ≡ spelling_of id contents
  one_spelled image spells =
      let is = spells (omega (arith, ap length one)) in
      one_so (λ i c. image ≡ spelling_of (id + i) c → image ≡ spelling_of id contents) contents (λ e. e ∙ ap (λ (n : ℕ). spelling_of n contents) here) is.0 is.1
      (ap (λ (l : List Contents). slice_get l is.0) (sym one) ∙ is.2) is.3

  pub one_digest : (digests : List (List ℕ)) (none : List ℕ) → length digests ≡ 1 → AreDigests 1 id filled digests →
      get_or digests 0 none ≡ header_digest (header_of id contents.kind contents.segments)
  one_digest [] none many are = absurd (omega (arith, many))
  one_digest (x ∷ xs) none many are = are 0 contents (omega arith) first ∙ ap (λ (n : ℕ). header_digest (header_of n contents.kind contents.segments)) here

  seals : (given old new : List ℕ) → SealsAll (slot ∷ []) id filled given old new → Seals slot id contents.kind contents.segments given old new
  seals given old new (inl (same, still)) = inl (same_slot slot old new same, still 0 slot refl)
  seals given old new (inr (same, each)) =
      inr (
        same_slot slot given new same,
        subst (λ (n : ℕ). HoldsSlot new slot None ⊎ HoldsContainer new slot n contents.kind contents.segments) here
            (each 0 slot contents refl first),
      )

  sealed : (given new : List ℕ) → AreSealed (slot ∷ []) id filled given new → IsSealed slot id contents.kind contents.segments given new
  sealed given new all =
      (same_slot slot given new all.rest, subst (λ (n : ℕ). HoldsContainer new slot n contents.kind contents.segments) here (all.each 0 slot contents refl first))

  pub writes_sealed : (e : Ending) (old new : DiskView) → Writes (SealsAll (slot ∷ []) id filled) (AreSealed (slot ∷ []) id filled) e old new
      → Writes (Seals slot id contents.kind contents.segments) (IsSealed slot id contents.kind contents.segments) e old new
  writes_sealed e old new =
      writes_weaker (SealsAll (slot ∷ []) id filled) (Seals slot id contents.kind contents.segments) (AreSealed (slot ∷ []) id filled)
      (IsSealed slot id contents.kind contents.segments) old new (λ given c known all. sealed given c all) e (λ given d c known image all. seals given d c all)

  -- its bytes were written, and nothing else
  pub sealed_whole : (image : List ℕ) (old new : DiskView) → image ≡ spelling_of id contents → slot_at slot + SLOT_BYTES ≤ old.size
      → Writes (SealsAll (slot ∷ []) id filled) (AreSealed (slot ∷ []) id filled) Done old new
      → Known old.content (λ given. KnownWith new.content (Puts (slot_at slot) image given))
  sealed_whole image old new spelled fits writes = λ given known.
      let c = writes.written.0 given known in
      let room : slot_at slot + SLOT_BYTES ≤ length given = omega (arith, fits, old.sized given known) in
      let stands : range (slot_at slot) SLOT_BYTES c.0 ≡ image = c.2.whole 0 slot contents refl first ∙ ap (λ (n : ℕ). spelling_of n contents) here ∙ sym spelled in (
        c.0,
        c.1,
        puts_same (slot_at slot) SLOT_BYTES image given c.0 (ap length (sym stands) ∙ length-range (slot_at slot) SLOT_BYTES c.0 (omega (arith, room, c.2.rest.size))) room
            (same_slot slot given c.0 c.2.rest) stands,
      )

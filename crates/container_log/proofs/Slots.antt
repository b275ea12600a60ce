-- What is read of a slot: its gate, and the bytes after it.
use Rattle.std.specs.Prelude.{IsTrue}
use Rattle.std.specs.Result.{IsErrAnd}
use Rattle.std.proofs.Common.{◌≡◌, ◌≢◌, ℕ, ◌+◌, ◌-◌, ◌≤◌, List, [], ◌∷◌, ◌++◌, length, take, get_or, Option, Some, None, Result, Ok, Err, refl, sym, ◌∙◌, ap, subst, arith, append-nil}
use Rattle.std.proofs.Math.ListN.{set}
use Rattle.std.proofs.lemmas.List.{drop_all, length-take}
use borrow.Rule.Slice.PartMut.{put_mid}
use Rattle.base_model.specs.Bytes.{range, byte_at}
use Rattle.base_model.proofs.Ranges.{range-join, range-one, range-range, byte-range}
use Rattle.disk_format.specs.declared.numbers.TheConstants.{CONTAINER_GATE}
use Rattle.disk_format.specs.Layout.{slot_at}
use Rattle.dd_disk.specs.Ending.{UnlessFailed}
use Rattle.container_meta.specs.Reading.{ReachEnd}
use Rattle.container_meta.specs.Spelling.{HeaderValue, IsSpelled, header_size, header_spelling, front_spelling}
use Rattle.container_meta.proofs.Parts.{length-header_spelling}
use Rattle.container_meta.proofs.Again.{spelled_in}
use Rattle.store_model.specs.Slots.{HoldsSlot}
use Rattle.container_log.specs.declared.fault.LogFault.{LogFault}
use Rattle.container_log.specs.Faults.{fails}

-- a byte that was read alone
pub byte_read : (at place : ℕ) (image into : List ℕ) → place ≡ at → range place 1 image ≡ into → byte_at at image ≡ get_or into 0 0
byte_read at place image into there read =
    ap (λ (p : ℕ). byte_at p image) (omega (arith, there)) ∙ sym (byte-range 0 place 1 image (omega arith)) ∙ ap (λ (l : List ℕ). get_or l 0 0) read

-- a gate, and in place of what stood after it what was read
pub gate_put : (l into : List ℕ) (gate : ℕ) → 1 ≤ length l → put_mid 1 (length (set l 0 gate) - 1) (set l 0 gate) into ≡ gate ∷ into
gate_put [] into gate some = absurd (omega (arith, some))
gate_put (x ∷ l) into gate some = ap (λ (r : List ℕ). gate ∷ into ++ r) (drop_all (length (set (x ∷ l) 0 gate) - 1) l (omega arith))
    ∙ ap (λ (r : List ℕ). gate ∷ r) (append-nil into)

-- the gate and so many bytes that were read after it are the bytes from the gate on
pub joined : (n at place count gate : ℕ) (image l into : List ℕ) → at + (1 + n) ≤ length image → 1 ≤ length l → place ≡ at + 1 → count ≡ n → range place count image ≡ into →
    byte_at at image ≡ gate
    → range at (1 + n) image ≡ put_mid 1 (length (set l 0 gate) - 1) (set l 0 gate) into
joined n at place count gate image l into fits some there long read is =
    let after : range (at + 1) n image ≡ into = ap (λ p. range p n image) (sym there) ∙ ap (λ m. range place m image) (sym long) ∙ read in
    sym (range-join at 1 n (at + 1) image refl)
    ∙ ap (λ (b : List ℕ). b ++ range (at + 1) n image) (range-one at image (omega (arith, fits)))
    ∙ ap (λ (b : ℕ). b ∷ range (at + 1) n image) is
    ∙ ap (λ (b : List ℕ). gate ∷ b) after
    ∙ sym (gate_put l into gate some)

long_enough : (n : ℕ) (bytes l : List ℕ) → range 0 n bytes ≡ l → length l ≡ n → n ≤ length bytes
unfolding range
long_enough n bytes l is long = omega (arith, ap length is, long, length-take n bytes)

first_of : (raw : List ℕ) (count : ℕ) → 1 ≤ count → byte_at 0 (take count raw) ≡ byte_at 0 raw
unfolding range
first_of raw count some = byte-range 0 0 count raw (omega (arith, some))

-- a header's first byte is the gate
gate_of : (image : List ℕ) (slot : ℕ) (h : HeaderValue) → HoldsSlot image slot (Some h) → byte_at (slot_at slot) image ≡ CONTAINER_GATE
unfolding front_spelling
gate_of image slot h holds = ap (λ (p : ℕ). byte_at p image) (omega arith) ∙ sym (byte-range 0 (slot_at slot) (header_size h) image (omega arith)) ∙ ap (byte_at 0) holds.1

-- a slot whose gate is closed holds nothing else
pub closed_holds : (image : List ℕ) (slot : ℕ) (held : Option HeaderValue) → byte_at (slot_at slot) image ≢ CONTAINER_GATE → HoldsSlot image slot held → held ≡ None
closed_holds image slot None closed holds = refl
closed_holds image slot (Some h) closed holds = absurd (closed (gate_of image slot h holds))

-- and one whose gate is open a header, if anything
pub open_holds : (image : List ℕ) (slot : ℕ) (held : Option HeaderValue) → byte_at (slot_at slot) image ≡ CONTAINER_GATE → HoldsSlot image slot held →
    (h : HeaderValue) × (held ≡ Some h) × HoldsSlot image slot (Some h)
open_holds image slot None opened holds = absurd (holds opened)
open_holds image slot (Some h) opened holds = (h, refl, holds)

-- ---- by bytes that were read at a slot

module _ (slot : ℕ) (image bytes : List ℕ) (read : range (slot_at slot) (length bytes) image ≡ bytes) where
  -- it holds the header that they spell
  pub holds_spelled : (h : HeaderValue) → IsSpelled h bytes → HoldsSlot image slot (Some h)
  holds_spelled h spelled =
      let at : ℕ = slot_at slot in
      let here : at + 0 ≡ at = omega arith in
      let within : header_size h ≤ length bytes = long_enough (header_size h) bytes (header_spelling h) spelled.1 (length-header_spelling h spelled.0) in (
        spelled.0,
        ap (λ (p : ℕ). range p (header_size h) image) (sym here) ∙ sym (range-range 0 (header_size h) at (length bytes) image (omega (arith, within)))
            ∙ ap (range 0 (header_size h)) read ∙ spelled.1,
      )

  pub gate_read : (raw : List ℕ) (count : ℕ) → bytes ≡ take count raw → 512 ≤ length bytes → byte_at (slot_at slot) image ≡ byte_at 0 raw
  gate_read raw count is long =
      let at : ℕ = slot_at slot in
      let here : at + 0 ≡ at = omega arith in
      ap (λ (p : ℕ). byte_at p image) (sym here) ∙ sym (byte-range 0 at (length bytes) image (omega (arith, long))) ∙ ap (byte_at 0) (read ∙ is)
      ∙ first_of raw count (omega (arith, ap length is, long, length-take count raw))

  -- and only that
  pub spelled_of : ReachEnd bytes → (h : HeaderValue) → HoldsSlot image slot (Some h) → IsSpelled h bytes
  spelled_of reach h holds = spelled_in h bytes image (slot_at slot) reach read holds.0 holds.1

-- where an open slot's header was not given, the error that is handed on says nothing of what the slot holds
pub unless_open : {T : Type 0} (image : List ℕ) (slot : ℕ) (result : Result T LogFault) (P : Option HeaderValue → T → Type 0) (e : LogFault) → IsErrAnd result (λ y. y ≡ e)
    → byte_at (slot_at slot) image ≡ CONTAINER_GATE → ((h : HeaderValue) → HoldsSlot image slot (Some h) → IsTrue (fails e)) → (held : Option HeaderValue) →
    HoldsSlot image slot held → UnlessFailed fails (P held) result
unless_open image slot (Ok x) P e is opened failed held holds = absurd is
unless_open image slot (Err y) P e is opened failed held holds =
    let h = open_holds image slot held opened holds in
    subst (λ f. IsTrue (fails f)) (sym is) (failed h.0 h.2)

-- A store that is found where the containers of another stay has them.
use Rattle.script_runner.proofs.Prelude.{◌≡◌, ℕ, ◌+◌, ◌<◌, ◌≤◌, List, [], Option, Some, None, refl, sym, ◌∙◌, ap, subst, arith, byte_at, slot_at, HeaderValue, Store, Encodes, KeepsContainers}
use Rattle.std.proofs.Common.{get_or}
use Rattle.std.specs.Prelude.{slice_get}
use Rattle.std.proofs.lemmas.Option.{slice_get-get_or}
use Rattle.base_model.specs.Bytes.{range}
use Rattle.base_model.proofs.Ranges.{byte-range}
use Rattle.disk_format.specs.declared.numbers.TheConstants.{CONTAINER_GATE, SLOT_BYTES}
use Rattle.store_model.specs.Slots.{HoldsSlot}
use Rattle.container_meta.specs.Spelling.{header_size}
use Rattle.store_model.proofs.Spellings.{gate_of_header}
use Rattle.store_model.proofs.Freed.{slot_from}

-- ---- bytes

-- the first byte of a part
first_of : (at count : ℕ) (part image : List ℕ) → 1 ≤ count → range at count image ≡ part → byte_at at image ≡ byte_at 0 part
first_of at count part image some is =
    ap (λ (k : ℕ). byte_at k image) (omega arith) ∙ sym (byte-range 0 at count image (omega (arith, some))) ∙ ap (byte_at 0) is

-- parts that are the same begin with the same byte
same_first : (at count : ℕ) (old new : List ℕ) → 1 ≤ count → range at count new ≡ range at count old → byte_at at new ≡ byte_at at old
same_first at count old new some same = first_of at count (range at count old) new some same ∙ sym (first_of at count (range at count old) old some refl)

-- ---- slots

some_same : (a b : Option HeaderValue) → Some a ≡ Some b → a ≡ b
some_same a b is = cc

open_slot : (slot : ℕ) (h : HeaderValue) (image : List ℕ) → HoldsSlot image slot (Some h) → byte_at (slot_at slot) image ≡ CONTAINER_GATE
open_slot slot h image holds = first_of (slot_at slot) (header_size h) _ image (omega arith) holds.1 ∙ gate_of_header h

-- ---- the store

module _ (s t : Store) (base image : List ℕ) (keeps : KeepsContainers s base image) (was : Encodes base s) (is : Encodes image t) where
  slots_same : t.slots ≡ s.slots
  slots_same = omega (arith, is.size, was.size, keeps.size_is)

  -- where a container stood there is one
  module _ (slot : ℕ) (within : slot < s.slots) (h : HeaderValue) (held : slice_get s.held slot ≡ Some (Some h)) where
    still_open : byte_at (slot_at slot) image ≡ CONTAINER_GATE
    still_open =
        let place : 0 + slot ≡ slot = omega arith in
        let holds = subst (λ (k : ℕ). HoldsSlot base k (Some h)) place (slot_from 0 slot s.held (Some h) base was.slots_are held) in
        same_first (slot_at slot) SLOT_BYTES base image (omega arith) (keeps.slots slot within (h, held)) ∙ open_slot slot h base holds

    held_by : (c : Option HeaderValue) → slice_get t.held slot ≡ Some c → (g : HeaderValue) × (slice_get t.held slot ≡ Some (Some g))
    held_by None now =
        let place : 0 + slot ≡ slot = omega arith in
        let closed = subst (λ (k : ℕ). HoldsSlot image k None) place (slot_from 0 slot t.held None image is.slots_are now) in
        absurd (closed still_open)
    held_by (Some g) now = (g, now)

    held_still : (g : HeaderValue) × (slice_get t.held slot ≡ Some (Some g))
    held_still = held_by (get_or t.held slot None) (slice_get-get_or t.held slot None (omega (arith, within, is.many, slots_same)))

  -- So what stays of it stays of the first.
  pub keeps_on : (c : List ℕ) → KeepsContainers t image c → KeepsContainers s base c
  keeps_on c later = record {
    size_is = later.size_is ∙ keeps.size_is;
    format = later.format ∙ keeps.format;
    journal = λ none. absurd none;
    slots = λ slot within stays.
        later.slots slot (omega (arith, within, slots_same)) (held_still slot within stays.0 stays.1) ∙ keeps.slots slot within stays;
  }

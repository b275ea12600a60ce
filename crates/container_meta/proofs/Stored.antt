-- Segments stand in their container where their entries say.
use Rattle.container_meta.proofs.Prelude.{◌≡◌, ℕ, ◌+◌, ◌-◌, ◌*◌, ◌≤◌, List, [], ◌∷◌, ◌++◌, length, refl, ap, ◌∙◌, arith, append_assoc, length-append, flat_map-cons, range-first, range-second, range-whole, length-zeros, DATA_BYTES, HEADER_BYTES, MOST_ENTRIES, Kind, Segment, bytes_in, data_of, StandFrom, HeaderValue, IsHeader, IsSpelled, header_size, header_spelling, header_of, container_spelling}
use Rattle.std.proofs.lemmas.List.Concat.{length-flat_map}
use Rattle.base_model.specs.Bytes.{range, zeros}
use Rattle.disk_format.specs.declared.numbers.TheConstants.{SLOT_BYTES}
use Rattle.container_meta.proofs.Parts.{length-header_spelling}
use Rattle.container_meta.proofs.Again.{small_count}

-- a header and the zeros up to the data
abbrev filled_up : HeaderValue → List ℕ
filled_up h = header_spelling h ++ zeros (49152 - 48 * length h.entries)

length-filled_up : (h : HeaderValue) → IsHeader h → length (filled_up h) ≡ HEADER_BYTES
length-filled_up h allowed =
    let k : ℕ = 49152 - 48 * length h.entries in
    let few : length h.entries ≤ MOST_ENTRIES = small_count (length h.entries) allowed.count in
    length-append (header_spelling h) (zeros k) ∙ omega (arith, length-header_spelling h allowed, length-zeros k)

regrouped : (a b c d : List ℕ) → a ++ ((b ++ c) ++ d) ≡ (a ++ b) ++ (c ++ d)
regrouped a b c d = simp append_assoc

stand_after : (offset : ℕ) (ss : List Segment) (front rest slot : List ℕ) → length front ≡ HEADER_BYTES + offset → slot ≡ front ++ (data_of ss ++ rest) → StandFrom offset ss slot
stand_after offset [] front rest slot long is = tt
stand_after offset (s ∷ ss) front rest slot long is =
    let parts : slot ≡ front ++ ((s.bytes ++ data_of ss) ++ rest) = is ∙ ap (λ (l : List ℕ). front ++ (l ++ rest)) (flat_map-cons (λ (x : Segment). x.bytes) s ss) in
    let here : range (HEADER_BYTES + offset) (length s.bytes) slot ≡ s.bytes =
    ap (range (HEADER_BYTES + offset) (length s.bytes)) (parts ∙ ap (λ (l : List ℕ). front ++ l) (append_assoc s.bytes (data_of ss) rest))
    ∙ range-second 0 (length s.bytes) (HEADER_BYTES + offset) (HEADER_BYTES + offset) front (s.bytes ++ (data_of ss ++ rest)) long (omega arith)
    ∙ range-first 0 (length s.bytes) s.bytes (data_of ss ++ rest) (omega arith)
    ∙ range-whole (length s.bytes) s.bytes refl in (
      here,
      stand_after (offset + length s.bytes) ss (front ++ s.bytes) rest slot (omega (arith, length-append front s.bytes, long))
          (parts ∙ regrouped front s.bytes (data_of ss) rest),
    )

pub stand_in_spelling : (id : ℕ) (kind : Kind) (ss : List Segment) → IsHeader (header_of id kind ss) → StandFrom 0 ss (container_spelling id kind ss)
stand_in_spelling id kind ss allowed =
    stand_after 0 ss (filled_up (header_of id kind ss)) (zeros (DATA_BYTES - bytes_in ss)) (container_spelling id kind ss)
    (length-filled_up (header_of id kind ss) allowed)
    (append_assoc (filled_up (header_of id kind ss)) (data_of ss) (zeros (DATA_BYTES - bytes_in ss)))

-- a container begins with its header
pub header-container_spelling : (id : ℕ) (kind : Kind) (ss : List Segment) → IsHeader (header_of id kind ss) → IsSpelled (header_of id kind ss) (container_spelling id kind ss)
header-container_spelling id kind ss allowed =
    let h : HeaderValue = header_of id kind ss in
    let header : List ℕ = header_spelling h in
    let k : List ℕ = zeros (49152 - 48 * length h.entries) in
    let tail : List ℕ = zeros (DATA_BYTES - bytes_in ss) in
    let long : length header ≡ header_size h = length-header_spelling h allowed in (
      allowed,
      ap (range 0 (header_size h)) (grouped header k (data_of ss) tail)
          ∙ range-first 0 (header_size h) header (k ++ (data_of ss ++ tail)) (omega (arith, long))
          ∙ range-whole (header_size h) header long,
    )
  where
    grouped : (a b c d : List ℕ) → ((a ++ b) ++ c) ++ d ≡ a ++ (b ++ (c ++ d))
    grouped a b c d = simp append_assoc

-- Spellings as they are written, part by part.
use Rattle.container_meta.proofs.Prelude.{◌≡◌, ℕ, ◌+◌, List, [], ◌∷◌, ◌++◌, length, take, drop, refl, sym, ap, ◌∙◌, arith, append_assoc, w16, w32, w64, to_be_bytes, append-nil, sum_by-append, flat_map-cons, sha256, CONTAINER_GATE, Kind, Entry, magic, kind_byte, bytes_of}
use Rattle.base_model.specs.Bytes.{zeros}
use Rattle.std.specs.List.{flat_map}
use Rattle.std.proofs.lemmas.List.{drop-take}
use Rattle.std.proofs.lemmas.Grind.{flat_map-append}
use Rattle.container_meta.specs.Spelling.{entry_spelling, entries_spelling, fields_spelling, front_spelling}

pub entries_spelling-nil : entries_spelling [] ≡ []
unfolding entries_spelling
entries_spelling-nil = refl

pub entries_spelling-cons : (e : Entry) (es : List Entry) → entries_spelling (e ∷ es) ≡ entry_spelling e ++ entries_spelling es
unfolding entries_spelling
entries_spelling-cons e es = flat_map-cons entry_spelling e es

pub entries_spelling-push : (es : List Entry) (e : Entry) → entries_spelling (es ++ e ∷ []) ≡ entries_spelling es ++ entry_spelling e
unfolding entries_spelling
entries_spelling-push es e = flat_map-append entry_spelling es (e ∷ []) ∙ ap (λ (l : List ℕ). flat_map entry_spelling es ++ l)
    (flat_map-cons entry_spelling e [] ∙ append-nil (entry_spelling e))

regrouped : (a d o l z : List ℕ) (v : ℕ) → ((((a ++ d) ++ o) ++ l) ++ v ∷ []) ++ z ≡ a ++ (((d ++ o) ++ l) ++ v ∷ z)
regrouped a d o l z v = simp append_assoc

pub entry_written : (front : List ℕ) (e : Entry) (new : List ℕ) → new ≡ ((((front ++ e.digest) ++ to_be_bytes w32 e.offset) ++ to_be_bytes w32 e.length) ++ e.level ∷ []) ++ zeros
    7 → new ≡ front ++ entry_spelling e
unfolding entry_spelling
entry_written front e new h = h ∙ regrouped front e.digest (to_be_bytes w32 e.offset) (to_be_bytes w32 e.length) (zeros 7) e.level

pub fields_written : (id : ℕ) (kind : Kind) (count data_length : ℕ) (new : List ℕ) →
    new ≡ ((((CONTAINER_GATE ∷ magic) ++ to_be_bytes w64 id) ++ (kind_byte kind ∷ 0 ∷ [])) ++ to_be_bytes w16 count) ++ to_be_bytes w32 data_length →
    new ≡ CONTAINER_GATE ∷ fields_spelling id kind count data_length
unfolding fields_spelling
fields_written id kind count data_length new h = h

pub length-fields_spelling : (id : ℕ) (kind : Kind) (count data_length : ℕ) → length (fields_spelling id kind count data_length) ≡ 23
unfolding fields_spelling
length-fields_spelling id kind count data_length = refl

pub front_written : (fields entries digest out new : List ℕ) → digest ≡ sha256 (take 23 (drop 1 out) ++ entries) → take 24 out ≡ CONTAINER_GATE ∷ fields →
    new ≡ (take 24 out ++ digest) ++ zeros 456 → new ≡ front_spelling fields entries
unfolding front_spelling
front_written fields entries digest out new digested begun h =
    let inner : take 23 (drop 1 out) ≡ fields = sym (drop-take 1 23 out) ∙ ap (drop 1) begun in
    h ∙ ap (λ (l : List ℕ). (l ++ digest) ++ zeros 456) begun ∙ ap (λ (l : List ℕ). ((CONTAINER_GATE ∷ fields) ++ l) ++ zeros 456)
    (digested ∙ ap (λ (l : List ℕ). sha256 (l ++ entries)) inner)

-- the digest is taken of the fields that stand after the gate
pub fields_hashed : (fields entries out digest : List ℕ) → digest ≡ sha256 (take 23 (drop 1 out) ++ entries) → take 24 out ≡ CONTAINER_GATE ∷ fields →
    digest ≡ sha256 (fields ++ entries)
fields_hashed fields entries out digest digested begun =
    let inner : take 23 (drop 1 out) ≡ fields = sym (drop-take 1 23 out) ∙ ap (drop 1) begun in
    digested ∙ ap (λ (l : List ℕ). sha256 (l ++ entries)) inner

pub bytes_of-push : (es : List Entry) (e : Entry) → bytes_of (es ++ e ∷ []) ≡ bytes_of es + e.length
bytes_of-push es e = omega (arith, sum_by-append (λ (x : Entry). x.length) es (e ∷ []))

-- The header of the tables is that of the store, unless two headers share a digest.
use Rattle.std.proofs.Common.{◌≡◌, ◌≢◌, ◌⊎◌, inl, inr, ℕ, Bool, true, false, List, ◌++◌, length, take, drop, Option, Some, refl, sym, ap, ◌∙◌}
use Rattle.std.specs.Prelude.{slice_get}
use Rattle.std.specs.Str.{bytes_eq}
use Rattle.std.proofs.lemmas.List.{take_at}
use Rattle.std.proofs.Math.Seq.{drop-append_seam}
use Rattle.std.proofs.lemmas.Slice.Eq.{bytes_eq-Decides}
use Rattle.base_model.proofs.Checks.{unequal}
use Rattle.sha2.specs.Sha256.{sha256}
use Rattle.container_meta.specs.Spelling.{HeaderValue, IsHeader, entries_spelling, fields_spelling, front_spelling, header_digest}
use Rattle.container_meta.proofs.Spelled.{length-fields_spelling}
use Rattle.store_model.proofs.Spellings.{same_header}
use Rattle.store_state.specs.declared.slot_table.SlotCount.{SlotCount}
use Rattle.store_state.specs.declared.slot_table.SlotTable.{SlotTable}
use Rattle.store_state.specs.Tables.{RepresentsSlots, count_of}
use Rattle.copy_forward.specs.Collisions.{ShareDigest, hashed_bytes}
use Rattle.copy_forward.specs.Headers.{IsTabled}
use Rattle.copy_forward.proofs.Tabled.{held_tabled}

drop_at : (a x : List ℕ) (n : ℕ) → length a ≡ n → drop n (a ++ x) ≡ x
drop_at a x n la = ap (λ (k : ℕ). drop k (a ++ x)) (sym la) ∙ drop-append_seam a x

-- what stands after a part of one length is the same
same_rest : (a b x y : List ℕ) (n : ℕ) → length a ≡ n → length b ≡ n → a ++ x ≡ b ++ y → (a ≡ b) × (x ≡ y)
same_rest a b x y n la lb same = (
  sym (take_at a x n la) ∙ ap (take n) same ∙ take_at b y n lb,
  sym (drop_at a x n la) ∙ ap (drop n) same ∙ drop_at b y n lb,
)

-- headers of the same bytes are one
same_bytes : (g h : HeaderValue) → IsHeader g → IsHeader h → length h.entries ≡ length g.entries → hashed_bytes h ≡ hashed_bytes g → h ≡ g
same_bytes g h right also many same =
    let f : List ℕ = fields_spelling h.id h.kind (length h.entries) h.data_length in
    let k : List ℕ = fields_spelling g.id g.kind (length g.entries) g.data_length in
    let parts = same_rest f k (entries_spelling h.entries) (entries_spelling g.entries) 23 (length-fields_spelling h.id h.kind (length h.entries) h.data_length)
    (length-fields_spelling g.id g.kind (length g.entries) g.data_length) same in
    same_header h g also right
    (ap (λ (l : List ℕ). front_spelling l (entries_spelling h.entries) ++ entries_spelling h.entries) parts.0
    ∙ ap (λ (l : List ℕ). front_spelling k l ++ l) parts.1)

digests_of : (a b : SlotCount) → Some a ≡ Some b → a ≡ b
digests_of a b same = cc

by_bytes : (g h : HeaderValue) → IsHeader g → IsHeader h → length h.entries ≡ length g.entries → sha256 (hashed_bytes g) ≡ sha256 (hashed_bytes h)
    → (b : Bool) → bytes_eq (hashed_bytes h) (hashed_bytes g) ≡ b → (h ≡ g) ⊎ ShareDigest g h
by_bytes g h right also many digest true is = inl (same_bytes g h right also many ((bytes_eq-Decides (hashed_bytes h) (hashed_bytes g)).0 is))
by_bytes g h right also many digest false is =
    let differ : hashed_bytes h ≢ hashed_bytes g = unequal (hashed_bytes h) (hashed_bytes g) is in
    inr (record { differ = λ same. differ (sym same); same = digest })

pub stores_or_shared : (held : List (Option HeaderValue)) (t : SlotTable) (slot : ℕ) (g h : HeaderValue) → RepresentsSlots held t → slice_get held slot ≡ Some (Some g)
    → IsHeader g → IsHeader h → IsTabled t slot h
    → (h ≡ g) ⊎ ShareDigest g h
unfolding header_digest
stores_or_shared held t slot g h slots there right also tabled =
    let mine = held_tabled held t slot g slots there in
    let same : count_of (Some h) ≡ count_of (Some g) = digests_of (count_of (Some h)) (count_of (Some g)) (sym tabled.count_is ∙ mine.count_is) in
    by_bytes g h right also (ap (λ (c : SlotCount). c.entries) same) (sym (ap (λ (c : SlotCount). c.digest) same)) (bytes_eq (hashed_bytes h) (hashed_bytes g)) refl

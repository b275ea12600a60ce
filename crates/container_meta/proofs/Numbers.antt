-- Numbers and entries, as read and as spelled.
use Rattle.container_meta.proofs.Prelude.{◌≡◌, ℕ, zero, suc, ◌+◌, ◌^◌, ◌≤◌, ◌<◌, List, [], ◌∷◌, ◌++◌, length, drop, get_or, refl, sym, ap, ◌∙◌, arith, append_assoc, length-append, w32, w64, to_be_bytes, byte_at, IsBytes, spelled_4, length-range, range-range, range-join, range-first, range-second, range-one, range-whole, length-zeros, Entry, entry_at}
use Rattle.std.specs.Int.{from_be_bytes}
use Rattle.std.proofs.lemmas.Nat.{be_bytes_8, from_be_bytes-to_be_bytes_4}
use Rattle.base_model.specs.Bytes.{range, zeros}
use Rattle.base_model.specs.Numbers.{number_at, seven_at}
use Rattle.base_model.proofs.Numbers.{IsBytes-range}
use Rattle.container_meta.specs.Spelling.{entry_spelling}

IsBytes-cons : (bytes : List ℕ) → IsBytes bytes → IsBytes (0 ∷ bytes)
IsBytes-cons bytes h zero = omega arith
IsBytes-cons bytes h (suc i) = h i

pub spelled_zeros : (at : ℕ) (bytes : List ℕ) → at + 7 ≤ length bytes → IsBytes bytes → seven_at at bytes ≡ 0 → range at 7 bytes ≡ zeros 7
unfolding seven_at zeros
spelled_zeros at bytes fits h none =
    let eight : to_be_bytes w64 0 ≡ 0 ∷ range at 7 bytes = be_bytes_8 (0 ∷ range at 7 bytes) 0 (ap suc (length-range at 7 bytes fits))
    (IsBytes-cons (range at 7 bytes) (IsBytes-range at 7 bytes h)) (sym none) in
    sym (ap (drop 1) eight)

-- the entry at a place has the bytes there as its spelling
pub entry_spelled : (at : ℕ) (bytes : List ℕ) → at + 48 ≤ length bytes → IsBytes bytes → seven_at (at + 41) bytes ≡ 0 → entry_spelling (entry_at at bytes) ≡ range at 48 bytes
unfolding entry_spelling
entry_spelled at bytes fits h none =
    let digest : List ℕ = range at 32 bytes in
    let offset : to_be_bytes w32 (number_at w32 (at + 32) bytes) ≡ range (at + 32) 4 bytes = spelled_4 (at + 32) bytes (omega arith) h in
    let long : to_be_bytes w32 (number_at w32 (at + 36) bytes) ≡ range (at + 36) 4 bytes = spelled_4 (at + 36) bytes (omega arith) h in
    let level : byte_at (at + 40) bytes ∷ [] ≡ range (at + 40) 1 bytes = sym (range-one (at + 40) bytes (omega arith)) in
    let zero_bytes : zeros 7 ≡ range (at + 41) 7 bytes = sym (spelled_zeros (at + 41) bytes (omega arith) h none) in
    let a : digest ++ to_be_bytes w32 (number_at w32 (at + 32) bytes) ≡ range at 36 bytes = ap (λ (l : List ℕ). digest ++ l) offset ∙ range-join at 32 4 (at + 32) bytes refl in
    let b : (digest ++ to_be_bytes w32 (number_at w32 (at + 32) bytes)) ++ to_be_bytes w32 (number_at w32 (at + 36) bytes) ≡ range at 40 bytes =
    ap (λ (l : List ℕ). l ++ to_be_bytes w32 (number_at w32 (at + 36) bytes)) a ∙ ap (λ (l : List ℕ). range at 36 bytes ++ l) long ∙ range-join at 36 4 (at + 36) bytes
    refl in
    let d : byte_at (at + 40) bytes ∷ zeros 7 ≡ range (at + 40) 8 bytes = ap (λ (l : List ℕ). l ++ zeros 7) level ∙ ap (λ (l : List ℕ). range (at + 40) 1 bytes ++ l) zero_bytes
    ∙ range-join (at + 40) 1 7 (at + 41) bytes (omega arith) in
    ap (λ (l : List ℕ). l ++ byte_at (at + 40) bytes ∷ zeros 7) b ∙ ap (λ (l : List ℕ). range at 40 bytes ++ l) d ∙ range-join at 40 8 (at + 40) bytes refl

-- ---- as spelled

-- what stands after an entry's digest
tail_spelling : Entry → List ℕ
tail_spelling e = (to_be_bytes w32 e.offset ++ to_be_bytes w32 e.length) ++ e.level ∷ zeros 7

after_digest : (e : Entry) → entry_spelling e ≡ e.digest ++ tail_spelling e
unfolding entry_spelling tail_spelling
after_digest e = regroup e.digest (to_be_bytes w32 e.offset) (to_be_bytes w32 e.length) (e.level ∷ zeros 7)
  where
    regroup : (d o l z : List ℕ) → ((d ++ o) ++ l) ++ z ≡ d ++ ((o ++ l) ++ z)
    regroup d o l z = simp append_assoc

pub length-entry_spelling : (e : Entry) → length e.digest ≡ 32 → length (entry_spelling e) ≡ 48
unfolding tail_spelling
length-entry_spelling e long = ap length (after_digest e) ∙ omega (arith, length-append e.digest (tail_spelling e), length-zeros 7)

-- a part of an entry that stands at a place
part_of_entry : (at p n : ℕ) (bytes : List ℕ) (e : Entry) → length e.digest ≡ 32 → range at 48 bytes ≡ entry_spelling e → (32 + p) + n ≤ 48 →
    range (at + (32 + p)) n bytes ≡ range p n (tail_spelling e)
part_of_entry at p n bytes e long here within =
    sym (range-range (32 + p) n at 48 bytes within)
    ∙ ap (range (32 + p) n) (here ∙ after_digest e)
    ∙ range-second p n 32 (32 + p) e.digest (tail_spelling e) long refl

first_of_tail : (e : Entry) → range 0 4 (tail_spelling e) ≡ to_be_bytes w32 e.offset
unfolding tail_spelling range
first_of_tail e = refl

second_of_tail : (e : Entry) → range 4 4 (tail_spelling e) ≡ to_be_bytes w32 e.length
unfolding tail_spelling range
second_of_tail e = refl

level_of_tail : (e : Entry) → range 8 1 (tail_spelling e) ≡ e.level ∷ []
unfolding tail_spelling range
level_of_tail e = refl

zeros_of_tail : (e : Entry) → range 9 7 (tail_spelling e) ≡ zeros 7
unfolding tail_spelling range zeros
zeros_of_tail e = refl

pub same_entry : (d d' : List ℕ) (o o' l l' v v' : ℕ) → d ≡ d' → o ≡ o' → l ≡ l' → v ≡ v' → (let e : Entry = record { digest = d; offset = o; length = l; level = v } in e) ≡
    record { digest = d'; offset = o'; length = l'; level = v' }
same_entry d d' o o' l l' v v' hd ho hl hv = cc

-- an entry that stands at a place is read there
pub entry_again : (at : ℕ) (bytes : List ℕ) (e : Entry) → at + 48 ≤ length bytes → length e.digest ≡ 32 → e.offset < 2 ^ 32 → e.length < 2 ^ 32 →
    range at 48 bytes ≡ entry_spelling e → (entry_at at bytes ≡ e) × (seven_at (at + 41) bytes ≡ 0)
unfolding number_at seven_at zeros
entry_again at bytes e fits long offset_fits length_fits here =
    let digest : range at 32 bytes ≡ e.digest = ap (λ (k : ℕ). range k 32 bytes) (omega arith) ∙ sym (range-range 0 32 at 48 bytes (omega arith))
    ∙ ap (range 0 32) (here ∙ after_digest e) ∙ range-first 0 32 e.digest (tail_spelling e) (omega arith) ∙ whole e.digest long in
    let offset : number_at w32 (at + 32) bytes ≡ e.offset = ap (from_be_bytes w32) (part_of_entry at 0 4 bytes e long here (omega arith) ∙ first_of_tail e)
    ∙ from_be_bytes-to_be_bytes_4 e.offset offset_fits in
    let long_is : number_at w32 (at + 36) bytes ≡ e.length = ap (from_be_bytes w32) (part_of_entry at 4 4 bytes e long here (omega arith) ∙ second_of_tail e)
    ∙ from_be_bytes-to_be_bytes_4 e.length length_fits in
    let level : byte_at (at + 40) bytes ∷ [] ≡ e.level ∷ [] = sym (range-one (at + 40) bytes (omega arith)) ∙ part_of_entry at 8 1 bytes e long here (omega arith)
    ∙ level_of_tail e in
    let none : seven_at (at + 41) bytes ≡ 0 = ap (λ (l : List ℕ). from_be_bytes w64 (0 ∷ l)) (part_of_entry at 9 7 bytes e long here (omega arith) ∙ zeros_of_tail e) in
    (same_entry _ _ _ _ _ _ _ _ digest offset long_is (ap (λ (l : List ℕ). get_or l 0 0) level), none)
  where
    whole : (d : List ℕ) → length d ≡ 32 → range 0 32 d ≡ d
    whole d h = range-whole 32 d h

-- Fields of a node: what a check that found nothing tells, and that it finds nothing in what was written.
use Rattle.merkle_file.proofs.Prelude.{◌≡◌, ℕ, ◌+◌, ◌*◌, ◌^◌, ◌<◌, ◌≤◌, Bool, true, false, List, ◌++◌, length, get_or, take, drop, refl, sym, ap, ◌∙◌, append_assoc, arith, inl, inr, w16, to_be_bytes, cases_lt, eq-eqb, eqb-true, leb-true, le-leb, and_parts, take_at, drop_at, take-append-drop, length-append, length-take, length-drop, drop-drop, FieldFault, Child, Asked, MOST_CHILDREN, entry, child_in}
use Rattle.std.proofs.Common.{cond, Option, Some, None}
use Rattle.std.specs.Int.{w64, from_be_bytes}
use Rattle.std.proofs.lemmas.Bool.{lt-ltb, and_from, or_cases, or_left, or_right, ltb-true}
use Rattle.std.proofs.lemmas.List.{get_or-drop, get_or-take, get_or_past}
use Rattle.std.proofs.lemmas.Nat.{be_bytes_2, be_bytes_8, from_be_bytes-to_be_bytes_2, from_be_bytes-to_be_bytes_8}
use Rattle.merkle_file.specs.Node.{greatest_child}
use Rattle.merkle_file.specs.Reading.{short_number, long_number, is_right_count, is_right_length, or_else, entry_fault}

abbrev pub IsBytes : List ℕ → Type 0
IsBytes bytes = (i : ℕ) → get_or bytes i 0 < 256

pub IsBytes-drop : (n : ℕ) (bytes : List ℕ) → IsBytes bytes → IsBytes (drop n bytes)
IsBytes-drop n bytes h i = rw get_or-drop (h (n + i))

pub IsBytes-take : (n : ℕ) (bytes : List ℕ) → IsBytes bytes → IsBytes (take n bytes)
IsBytes-take n bytes h i =
    elim (cases_lt i n) [
      | inl lt ↦ rw (get_or-take n bytes i 0 lt) (h i)
      | inr le ↦ rw (get_or_past (take n bytes) i 0 (omega (arith, length-take n bytes))) (omega arith)
    ]

-- a test that found nothing wrong
pub nothing_if : {X : Type 0} (b : Bool) (x : X) (r : Option X) → cond b (Some x) r ≡ None → (b ≡ false) × (r ≡ None)
nothing_if true x r e = absurd cc
nothing_if false x r e = (refl, e)

pub nothing_unless : {X : Type 0} (b : Bool) (x : X) (r : Option X) → cond b r (Some x) ≡ None → (b ≡ true) × (r ≡ None)
nothing_unless true x r e = (refl, e)
nothing_unless false x r e = absurd cc

pub or_else_none : (a b : Option FieldFault) → or_else a b ≡ None → (a ≡ None) × (b ≡ None)
or_else_none None b e = (refl, e)
or_else_none (Some fault) b e = absurd cc

-- the numbers
pub long_back : (bytes : List ℕ) → 8 ≤ length bytes → IsBytes bytes → to_be_bytes w64 (long_number bytes) ≡ take 8 bytes
unfolding long_number
long_back bytes len fits = be_bytes_8 (take 8 bytes) _ (omega (arith, length-take 8 bytes)) (IsBytes-take 8 bytes fits) refl

pub long_again : (n : ℕ) (rest : List ℕ) → n < 2 ^ 64 → long_number (to_be_bytes w64 n ++ rest) ≡ n
unfolding long_number
long_again n rest lt = ap (from_be_bytes w64) (take_at (to_be_bytes w64 n) rest 8 refl) ∙ from_be_bytes-to_be_bytes_8 n lt

pub short_back : (bytes : List ℕ) → 2 ≤ length bytes → IsBytes bytes → to_be_bytes w16 (short_number bytes) ≡ take 2 bytes
unfolding short_number
short_back bytes len fits = be_bytes_2 (take 2 bytes) _ (omega (arith, length-take 2 bytes)) (IsBytes-take 2 bytes fits) refl

pub short_again : (n : ℕ) (rest : List ℕ) → n < 2 ^ 16 → short_number (to_be_bytes w16 n ++ rest) ≡ n
unfolding short_number
short_again n rest lt = ap (from_be_bytes w16) (take_at (to_be_bytes w16 n) rest 2 refl) ∙ from_be_bytes-to_be_bytes_2 n lt

-- what a right length keeps
pub record IsRight (asked : Asked) (level more before len : ℕ) : Type 0 where
  pub some : 1 ≤ len
  pub most : len ≤ greatest_child level
  pub below : before + len ≤ asked.most
  pub least : more ≡ 0 → asked.least ≤ before + len

pub right_takes : (asked : Asked) (level more before len : ℕ) → is_right_length asked level more before len ≡ true → IsRight asked level more before len
unfolding is_right_length
right_takes asked level more before len e =
    let a = and_parts _ _ e in
    let b = and_parts _ _ a.0 in
    let d = and_parts _ _ b.0 in
    record {
      some = leb-true _ _ d.0;
      most = leb-true _ _ d.1;
      below = leb-true _ _ b.1;
      least = λ none. elim (or_cases _ _ a.1) [
        | inl some_more ↦ (let lt : 0 < more = ltb-true 0 more some_more in absurd (omega arith))
        | inr enough ↦ leb-true _ _ enough
      ];
    }

pub right_again : (asked : Asked) (level more before len : ℕ) → IsRight asked level more before len → is_right_length asked level more before len ≡ true
unfolding is_right_length
right_again asked level more before len h =
    and_from _ _ (and_from _ _ (and_from _ _ (le-leb _ _ h.some) (le-leb _ _ h.most)) (le-leb _ _ h.below))
    (elim (cases_lt 0 more) [
      | inl lt ↦ or_left _ _ (lt-ltb _ _ lt)
      | inr le ↦ or_right _ _ (le-leb _ _ (h.least (omega arith)))
    ])

-- what a right number of children keeps
pub record IsCount (count size : ℕ) : Type 0 where
  pub some : 1 ≤ count
  pub most : count ≤ MOST_CHILDREN
  pub fills : size ≡ 4 + 40 * count

pub count_takes : (count size : ℕ) → is_right_count count size ≡ true → IsCount count size
unfolding is_right_count
count_takes count size e =
    let a = and_parts _ _ e in
    let b = and_parts _ _ a.0 in
    record { some = leb-true _ _ b.0; most = leb-true _ _ b.1; fills = eqb-true _ _ a.1 }

pub count_again : (count size : ℕ) → IsCount count size → is_right_count count size ≡ true
unfolding is_right_count
count_again count size h = and_from _ _ (and_from _ _ (le-leb _ _ h.some) (le-leb _ _ h.most)) (eq-eqb _ _ h.fills)

-- an entry with nothing wrong
pub entry_takes : (asked : Asked) (level more at before : ℕ) (bytes : List ℕ) → entry_fault asked level more at before bytes ≡ None
    → IsRight asked level more before (long_number (drop 32 bytes))
unfolding entry_fault
entry_takes asked level more at before bytes e = right_takes asked level more before _ (nothing_unless _ _ _ e).0

pub entry_parts : (bytes : List ℕ) → 40 ≤ length bytes → IsBytes bytes → bytes ≡ entry (child_in bytes) ++ drop 40 bytes
entry_parts bytes len fits =
    let back = long_back (drop 32 bytes) (omega (arith, length-drop 32 bytes)) (IsBytes-drop 32 bytes fits) in
    let one : take 32 bytes ++ drop 32 bytes ≡ bytes = take-append-drop 32 bytes in
    let two : take 8 (drop 32 bytes) ++ drop 8 (drop 32 bytes) ≡ drop 32 bytes = take-append-drop 8 (drop 32 bytes) in
    let three : drop 8 (drop 32 bytes) ≡ drop 40 bytes = drop-drop 8 32 bytes in
    rw back (sym one ∙ ap (λ (t : List ℕ). take 32 bytes ++ t) (sym two ∙ ap (λ (t : List ℕ). take 8 (drop 32 bytes) ++ t) three)
    ∙ sym (append_assoc (take 32 bytes) (take 8 (drop 32 bytes)) (drop 40 bytes)))

-- a child's entry is forty bytes, and is read again
pub length-entry : (c : Child) → length c.digest ≡ 32 → length (entry c) ≡ 40
length-entry c len = length-append c.digest (to_be_bytes w64 c.length) ∙ rw len refl

pub digest_again : (c : Child) (rest : List ℕ) → length c.digest ≡ 32 → take 32 (entry c ++ rest) ≡ c.digest
digest_again c rest len = rw append_assoc (take_at c.digest (to_be_bytes w64 c.length ++ rest) 32 len)

pub length_again : (c : Child) (rest : List ℕ) → length c.digest ≡ 32 → c.length < 2 ^ 64 → long_number (drop 32 (entry c ++ rest)) ≡ c.length
length_again c rest len lt =
    ap long_number (ap (drop 32) (append_assoc c.digest (to_be_bytes w64 c.length) rest) ∙ drop_at c.digest (to_be_bytes w64 c.length ++ rest) 32 len)
    ∙ long_again c.length rest lt

pub child_again : (c : Child) (rest : List ℕ) → length c.digest ≡ 32 → c.length < 2 ^ 64 → child_in (entry c ++ rest) ≡ c
child_again c rest len lt =
    let d = digest_again c rest len in
    let n = length_again c rest len lt in
    ap (λ (p : List ℕ × ℕ). let made : Child = record { digest = p.0; length = p.1 } in made)
    (ap (λ (x : List ℕ). (x, long_number (drop 32 (entry c ++ rest)))) d ∙ ap (λ (x : ℕ). (c.digest, x)) n)

pub entry_again : (asked : Asked) (level more at before : ℕ) (c : Child) (rest : List ℕ) → length c.digest ≡ 32 → c.length < 2 ^ 64 → IsRight asked level more before c.length
    → entry_fault asked level more at before (entry c ++ rest) ≡ None
unfolding entry_fault
entry_again asked level more at before c rest len lt right =
    rw (length_again c rest len lt, right_again asked level more before c.length right) refl

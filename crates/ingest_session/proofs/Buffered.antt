-- Segments that wait, in buffers.
use Rattle.ingest_session.proofs.Prelude.{◌≡◌, ◌≤◌, ◌<◌, ◌+◌, ◌-◌, ◌*◌, ◌++◌, List, [], ◌∷◌, ℕ, zero, suc, arith, drop, length, length-append, refl, sym, ◌∙◌, ap, subst, sum_by, append_assoc, append-nil}
use Rattle.std.proofs.Common.{deque_capacity, get_or, vec_capacity, ◌/◌, ◌%◌}
use Rattle.std.specs.Global.{Vec}
use Rattle.std.proofs.Math.Nat.{div-add-mod}
use Rattle.std.proofs.lemmas.List.{get_or_append_left}
use Rattle.std.proofs.Math.Seq.{drop-append_seam, get_or-append_right}
use Rattle.std.proofs.lemmas.Grind.{flat_map-append}
use Rattle.std.proofs.lemmas.List.{drop-append-le, drop-drop, drop_all, length-drop}
use Rattle.std.proofs.lemmas.List.Sums.{sum_by-cons}
use Rattle.std.specs.List.{AllByRecursion, flat_map}
use Rattle.disk_format.specs.declared.numbers.TheConstants.{MOST_SEGMENT}
use Rattle.digests.specs.Texts.{Texts}
use Rattle.merkle_file.proofs.Placing.{all_push}
use Rattle.ingest_session.specs.declared.chunks.TheConstants.{CHUNK}
use Rattle.ingest_session.specs.declared.chunks.Chunks.TheInside.{Inside}
use Rattle.ingest_session.specs.Buffers.{AreChunks, IsFull, IsSpare, Waiting, all_in}
use Rattle.ingest_session.proofs.Members.{all_after, all_before}

-- what is seen of the parts of one, and what is so of them
abbrev pub waiting : Inside → Waiting
waiting i = record { most = i.most; segments = drop i.gone (all_in i.full.items i.last) }

abbrev pub Stand : Inside → Type 0
Stand i = AreChunks i.most i.count i.gone i.full.items (deque_capacity i.full) i.last i.spare

abbrev in_all : List Texts → List (List ℕ)
in_all full = flat_map (λ (t : Texts). t.all) full

-- ---- how many there are

full_long : (full : List Texts) → AllByRecursion IsFull full → length (in_all full) ≡ CHUNK * length full
full_long [] each = refl
full_long (t ∷ full) each = length-append t.all (in_all full) ∙ omega (arith, each.0.1, full_long full each.1)

pub all_long : (full : List Texts) (last : Texts) → AllByRecursion IsFull full
    → length (all_in full last) ≡ CHUNK * length full + length last.all
all_long full last each = length-append (in_all full) last.all ∙ omega (arith, full_long full each)

-- so many wait
pub waiting_long : (gone count : ℕ) (xs : List (List ℕ)) → gone + count ≡ length xs → length (drop gone xs) ≡ count
waiting_long gone count xs is = length-drop gone xs ∙ omega (arith, is)

-- ---- where one of them is

nth_in : (full : List Texts) (q r : ℕ) (d : Texts) → AllByRecursion IsFull full → q < length full → r < CHUNK
    → get_or (in_all full) (CHUNK * q + r) [] ≡ get_or (get_or full q d).all r []
nth_in [] q r d each within small = absurd (omega (arith, within))
nth_in (t ∷ full) zero r d each within small =
    ap (λ n. get_or (in_all (t ∷ full)) n []) (let same : CHUNK * 0 + r ≡ r = omega arith in same)
    ∙ get_or_append_left t.all (in_all full) [] r (omega (arith, small, each.0.1))
nth_in (t ∷ full) (suc q) r d each within small =
    get_or-append_right t.all (in_all full) (CHUNK * suc q + r) [] (omega (arith, each.0.1))
    ∙ ap (λ n. get_or (in_all full) n []) (let same : CHUNK * suc q + r - length t.all ≡ CHUNK * q + r = omega (arith, each.0.1) in same)
    ∙ nth_in full q r d each.1 (omega (arith, within)) small

-- in a buffer that is full
pub nth_full : (full : List Texts) (last : Texts) (at : ℕ) (d : Texts) → AllByRecursion IsFull full → at / CHUNK < length full
    → get_or (all_in full last) at [] ≡ get_or (get_or full (at / CHUNK) d).all (at % CHUNK) []
nth_full full last at d each within =
    let parts = div-add-mod at CHUNK in
    get_or_append_left (in_all full) last.all [] at (omega (arith, parts, within, full_long full each))
    ∙ ap (λ n. get_or (in_all full) n []) (sym parts)
    ∙ nth_in full (at / CHUNK) (at % CHUNK) d each within (omega arith)

-- in the last one
pub nth_last : (full : List Texts) (last : Texts) (at : ℕ) → AllByRecursion IsFull full → CHUNK * length full ≤ at
    → get_or (all_in full last) at [] ≡ get_or last.all (at - CHUNK * length full) []
nth_last full last at each past =
    get_or-append_right (in_all full) last.all at [] (omega (arith, past, full_long full each))
    ∙ ap (λ n. get_or last.all (at - n) []) (full_long full each)

-- ---- how long they are

pub chunk_long : (xs : List (List ℕ)) → AllByRecursion (λ s. length s ≤ MOST_SEGMENT) xs → sum_by length xs ≤ MOST_SEGMENT * length xs
chunk_long [] each = omega arith
chunk_long (x ∷ xs) each = omega (arith, each.0, chunk_long xs each.1, sum_by-cons length x xs)

-- ---- one more

-- behind the others in the last buffer
pub in_last : (full : List Texts) (last next : Texts) (gone : ℕ) (s : List ℕ) → gone ≤ length (all_in full last) → next.all ≡ last.all ++ s ∷ []
    → drop gone (all_in full next) ≡ drop gone (all_in full last) ++ s ∷ []
in_last full last next gone s within added =
    ap (λ xs. drop gone (in_all full ++ xs)) added
    ∙ ap (drop gone) (sym (append_assoc (in_all full) last.all (s ∷ [])))
    ∙ drop-append-le gone (all_in full last) (s ∷ []) within

-- a buffer that is full stands before an empty one
pub then_spare : (full : List Texts) (last spare : Texts) → spare.all ≡ [] → all_in (full ++ last ∷ []) spare ≡ all_in full last
then_spare full last spare none =
    ap (λ xs. in_all (full ++ last ∷ []) ++ xs) none
    ∙ append-nil (in_all (full ++ last ∷ []))
    ∙ flat_map-append (λ (t : Texts). t.all) full (last ∷ [])
    ∙ ap (λ xs. in_all full ++ xs) (append-nil last.all)

-- a spare buffer is the last then
pub with_spare : (most count gone : ℕ) (full : List Texts) (capacity capacity_now : ℕ) (last next : Texts) (spare rest : Vec Texts)
    → AreChunks most count gone full capacity last spare → length last.all ≡ CHUNK → spare.items ≡ rest.items ++ next ∷ []
    → capacity_now ≡ capacity → vec_capacity rest ≡ vec_capacity spare
    → AreChunks most count gone (full ++ last ∷ []) capacity_now next rest × (next.all ≡ [])
with_spare most count gone full capacity capacity_now last next spare rest are whole popped same same_spare =
    let all = subst (AllByRecursion IsSpare) popped are.empty in
    let one = (all_after IsSpare rest.items (next ∷ []) all).0 in
    let there = then_spare full last next one.1 in
    let long = ap length popped ∙ length-append rest.items (next ∷ []) in (
      record {
        limit = are.limit;
        count_is = are.count_is ∙ ap length (sym there);
        at_most = are.at_most;
        begun = are.begun;
        all = omega (arith, are.all, long, length-append full (last ∷ []));
        room_full = omega (arith, are.room_full, same);
        room_spare = omega (arith, are.room_spare, same_spare);
        each = all_push IsFull full last are.each (are.filled, whole);
        filled = one.0;
        empty = all_before IsSpare rest.items (next ∷ []) all;
      },
      one.1,
    )

-- there is one, where a segment has room
pub has_spare : (most count gone : ℕ) (full : List Texts) (capacity : ℕ) (last : Texts) (spare : Vec Texts)
    → AreChunks most count gone full capacity last spare → length last.all ≡ CHUNK → count ≤ most → spare.items ≡ [] → ⊥
has_spare most count gone full capacity last spare are whole room none =
    let long = all_long full last are.each in
    let here = ap length none in
    omega (arith, are.count_is, are.begun, are.all, long, here, whole, room)

-- the last buffer has one more
pub with_segment : (most count gone : ℕ) (full : List Texts) (capacity : ℕ) (last next : Texts) (spare : Vec Texts) (s : List ℕ)
    → AreChunks most count gone full capacity last spare → length last.all < CHUNK → count ≤ most → length s ≤ MOST_SEGMENT
    → next.all ≡ last.all ++ s ∷ [] → last.places ≤ next.places → last.room ≤ next.room
    → AreChunks most (count + 1) gone full capacity next spare
with_segment most count gone full capacity last next spare s are few room short added places bytes =
    let long = ap length added ∙ length-append last.all (s ∷ []) in
    record {
      limit = are.limit;
      count_is = omega (arith, are.count_is, all_long full last are.each, all_long full next are.each, long);
      at_most = omega (arith, room);
      begun = are.begun;
      all = are.all;
      room_full = are.room_full;
      room_spare = are.room_spare;
      each = are.each;
      filled = record {
        places = omega (arith, are.filled.places, places);
        room = omega (arith, are.filled.room, bytes);
        few = omega (arith, long, few);
        each =
            subst (AllByRecursion (λ t. length t ≤ MOST_SEGMENT)) (sym added) (all_push (λ t. length t ≤ MOST_SEGMENT) last.all s are.filled.each short);
      };
      empty = are.empty;
    }

-- ---- one less

-- where others of the first buffer wait
pub one_gone : (gone : ℕ) (xs : List (List ℕ)) → drop (gone + 1) xs ≡ drop 1 (drop gone xs)
one_gone gone xs = sym (drop-drop 1 gone xs)

-- where it was the last of the first buffer
pub past_first : (first : Texts) (full : List Texts) (last : Texts) (gone : ℕ) → length first.all ≡ CHUNK → gone + 1 ≡ CHUNK
    → all_in full last ≡ drop 1 (drop gone (all_in (first ∷ full) last))
past_first first full last gone whole end =
    sym (drop-append_seam first.all (all_in full last))
    ∙ ap (λ xs. drop (length first.all) xs) (sym (append_assoc first.all (in_all full) last.all))
    ∙ ap (λ n. drop n (all_in (first ∷ full) last)) (whole ∙ sym end)
    ∙ one_gone gone (all_in (first ∷ full) last)

-- where it was the last of the only one
pub past_last : (xs : List (List ℕ)) (gone : ℕ) → length xs ≤ CHUNK → gone + 1 ≡ CHUNK → drop 1 (drop gone xs) ≡ []
past_last xs gone few end = sym (one_gone gone xs) ∙ drop_all (gone + 1) xs (omega (arith, few, end))

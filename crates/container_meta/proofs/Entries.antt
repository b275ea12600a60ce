-- Reading entries one after the other, as a loop does.
use Rattle.container_meta.proofs.Prelude.{◌≡◌, ℕ, suc, ◌+◌, ◌-◌, ◌≤◌, ◌<◌, List, [], ◌∷◌, ◌++◌, Result, Ok, Err, sym, ap, ◌∙◌, arith, ◌>>=◌, Kind, Entry, MetaFault, next_read}
use Rattle.container_meta.specs.Reading.{entries_at}

pub goes_on : (kind : Kind) (data_length count i : ℕ) (before : List Entry) (bytes : List ℕ) (e : Entry) (total : Result (List Entry) MetaFault) → i < count
    → Ok e ≡ next_read kind data_length (count - 1 - i) before bytes
    → entries_at kind data_length (count - i) before bytes ≡ total → entries_at kind data_length (count - (i + 1)) (before ++ e ∷ []) bytes ≡ total
unfolding entries_at
goes_on kind data_length count i before bytes e total lt h so_far =
    let k : count - i ≡ suc (count - (i + 1)) = omega arith in
    let j : count - 1 - i ≡ count - (i + 1) = omega arith in
    let read : next_read kind data_length (count - (i + 1)) before bytes ≡ Ok e = sym (h ∙ ap (λ (n : ℕ). next_read kind data_length n before bytes) j) in
    let one : entries_at kind data_length (count - i) before bytes ≡ entries_at kind data_length (count - (i + 1)) (before ++ e ∷ []) bytes =
    ap (λ (n : ℕ). entries_at kind data_length n before bytes) k
    ∙ ap (λ (r : Result Entry MetaFault). r >>= λ x. entries_at kind data_length (count - (i + 1)) (before ++ x ∷ []) bytes) read in
    sym one ∙ so_far

pub ends : (kind : Kind) (data_length count i : ℕ) (before : List Entry) (bytes : List ℕ) (e : MetaFault) (total : Result (List Entry) MetaFault) → i < count
    → Err e ≡ next_read kind data_length (count - 1 - i) before bytes
    → entries_at kind data_length (count - i) before bytes ≡ total → Err e ≡ total
unfolding entries_at
ends kind data_length count i before bytes e total lt h so_far =
    let k : count - i ≡ suc (count - (i + 1)) = omega arith in
    let j : count - 1 - i ≡ count - (i + 1) = omega arith in
    let read : next_read kind data_length (count - (i + 1)) before bytes ≡ Err e = sym (h ∙ ap (λ (n : ℕ). next_read kind data_length n before bytes) j) in
    let one : entries_at kind data_length (count - i) before bytes ≡ Err e = ap (λ (n : ℕ). entries_at kind data_length n before bytes) k
    ∙ ap (λ (r : Result Entry MetaFault). r >>= λ x. entries_at kind data_length (count - (i + 1)) (before ++ x ∷ []) bytes) read in
    sym one ∙ so_far

pub all_read : (kind : Kind) (data_length count i : ℕ) (before : List Entry) (bytes : List ℕ) (total : Result (List Entry) MetaFault) → count ≤ i →
    entries_at kind data_length (count - i) before bytes ≡ total → Ok before ≡ total
unfolding entries_at
all_read kind data_length count i before bytes total le so_far =
    let k : count - i ≡ 0 = omega arith in
    sym (ap (λ (n : ℕ). entries_at kind data_length n before bytes) k) ∙ so_far

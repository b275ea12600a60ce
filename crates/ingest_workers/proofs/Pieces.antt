-- A generated file, a piece longer.
use Rattle.std.proofs.Common.{◌≡◌, ◌⊎◌, inl, inr, ◌<◌, ◌≤◌, ◌+◌, ◌-◌, ℕ, List, ◌++◌, length, take, get_or, ap, ◌∙◌, arith, length-append, length-take-le}
use Rattle.std.proofs.lemmas.Bool.{cases_lt}
use Rattle.std.proofs.lemmas.List.{get_or-append_right, get_or-take, get_or_append_left}
use Rattle.load_stream.specs.Load.{LoadState, byte_of}
use Rattle.ingest_workers.specs.Giving.{BeginsFile}

pub longer : (given piece : List ℕ) (n count : ℕ) → length given ≡ n → count ≤ length piece → length (given ++ take count piece) ≡ n + count
longer given piece n count is few = let a = length-append given (take count piece) in let b = length-take-le count piece few in omega (arith, a, b, is)

pub begins_more : (file : LoadState) (given piece : List ℕ) (n count : ℕ) → BeginsFile file given → length given ≡ n → count ≤ length piece → n + count ≤ file.length
    → ((i : ℕ) → i < count → get_or piece i 0 ≡ byte_of file.seed file.file (n + i)) → BeginsFile file (given ++ take count piece)
begins_more file given piece n count begins is few room bytes = record {
  few = let a = longer given piece n count is few in omega (arith, a, room);
  each = λ i below. at i (let a = longer given piece n count is few in omega (arith, a, below)) (cases_lt i n);
}
  where
    at : (i : ℕ) → i < n + count → (i < n) ⊎ (n ≤ i) → get_or (given ++ take count piece) i 0 ≡ byte_of file.seed file.file i
    at i below (inl before) =
        let here : i < length given = omega (arith, before, is) in
        get_or_append_left given (take count piece) 0 i here ∙ begins.each i here
    at i below (inr after) =
        let here : i - n < count = omega (arith, below, after) in
        let same : n + (i - n) ≡ i = omega (arith, after) in
        get_or-append_right given (take count piece) n i 0 is after ∙ get_or-take count piece (i - n) 0 here ∙ bytes (i - n) here
        ∙ ap (λ (k : ℕ). byte_of file.seed file.file k) same

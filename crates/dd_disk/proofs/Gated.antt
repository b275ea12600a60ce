-- What is left where bytes are written and then the gate before them.
use Rattle.std.proofs.Common.{◌≡◌, ◌-◌, inl, inr, ℕ, ◌+◌, ◌≤◌, List, [], ◌∷◌, length, take, drop, Some, length-drop, refl, ◌∙◌, ap, subst, arith}
use Rattle.std.proofs.lemmas.List.{length-take-le, take_rest}
use Rattle.base_model.specs.Bytes.{written}
use Rattle.base_model.proofs.Ranges.{written-after}
use Rattle.dd_disk.specs.Writes.{Puts, Torn, Writes}
use Rattle.dd_disk.specs.Gated.{TornFrom, CellTorn}
use Rattle.dd_disk.specs.View.{DiskView}
use Rattle.dd_disk.specs.Ending.{Ending, Done}
use Rattle.dd_disk.proofs.Writes.{IsUnrefused, writes_on}

-- a list of one
one : (bytes : List ℕ) → length bytes ≡ 1 → (b : ℕ) × (bytes ≡ b ∷ [])
one [] long = absurd (omega arith)
one (b ∷ []) long = (b, refl)
one (b ∷ c ∷ bytes) long = absurd (omega arith)

length_rest : (cell : List ℕ) → length (take (length cell - 1) (drop 1 cell)) ≡ length cell - 1
length_rest cell = ap length (take_rest cell 1) ∙ length-drop 1 cell

-- before bytes that are there, some gate
pub gate_torn : (at n : ℕ) (cell old mid new : List ℕ) → mid ≡ written (at + 1) (drop 1 cell) old → 1 ≤ length cell → at + length cell ≤ length old → n ≡ 1 → Torn at n mid new →
    CellTorn at cell old new
gate_torn at n [] old mid new is some room single torn = absurd (omega arith)
gate_torn at n (first ∷ body) old mid new is some room single torn =
    let gate = one torn.bytes (torn.count ∙ single) in
    inr (
      gate.0,
      torn.holds ∙ ap (λ (l : List ℕ). written at torn.bytes l) is ∙ ap (λ (l : List ℕ). written at l (written (at + 1) body old)) gate.1
          ∙ written-after at gate.0 body old (omega arith),
    )

-- both writes are one
pub gate_written : (at : ℕ) (cell old : List ℕ) → 1 ≤ length cell → at + length cell ≤ length old → written at (take 1 cell) (written (at + 1) (drop 1 cell) old) ≡ written at cell
    old
gate_written at [] old some room = absurd (omega arith)
gate_written at (first ∷ body) old some room = written-after at first body old (omega arith)

-- bytes torn after the gate
pub body_torn : (at : ℕ) (cell bytes old new : List ℕ) → Torn (at + 1) (length (take (length cell - 1) (drop 1 cell))) old new → TornFrom at cell bytes old new
body_torn at cell bytes old new torn = inl (subst (λ n. Torn (at + 1) n old new) (length_rest cell) torn)

-- the bytes after the gate, and then the gate
pub writes_gated : (at : ℕ) (cell : List ℕ) (e : Ending) (old mid new : DiskView) → 1 ≤ length cell → at + length cell ≤ old.size → IsUnrefused e
    → Writes (λ _. Torn (at + 1) (length (take (length cell - 1) (drop 1 cell)))) (Puts (at + 1) (take (length cell - 1) (drop 1 cell))) Done old mid
    → Writes (λ _. Torn at (length (take 1 cell))) (Puts at (take 1 cell)) e mid new
    → Writes (TornFrom at cell) (Puts at cell) e old new
writes_gated at cell e old mid new some room un first second =
    let body = take (length cell - 1) (drop 1 cell) in
    let fits : (given : List ℕ) → old.content ≡ Some given → at + length cell ≤ length given = λ given known. omega (arith, room, old.sized given known) in
    let after : (given m : List ℕ) → Puts (at + 1) body given m → m ≡ written (at + 1) (drop 1 cell) given = λ given m is. is ∙ ap (λ (l : List ℕ). written (at + 1) l given)
    (take_rest cell 1) in
    writes_on (λ _. Torn (at + 1) (length body)) (λ _. Torn at (length (take 1 cell))) (TornFrom at cell) (Puts (at + 1) body) (Puts at (take 1 cell)) (Puts at cell) old mid new
    first
    (λ given m c known is stands. stands ∙ ap (written at (take 1 cell)) (after given m is) ∙ gate_written at cell given some (fits given known))
    e un second
    (λ given d c known torn. body_torn at cell given d c torn)
    (λ given m c known is torn. gate_torn at (length (take 1 cell)) cell given m c (after given m is) some (fits given known) (length-take-le 1 cell some) torn)

-- Few segments end in a short piece.
use Rattle.ingest_session.proofs.Prelude.{◌≡◌, ◌≤◌, ◌<◌, ◌+◌, ◌*◌, ◌⊎◌, inl, inr, ℕ, List, length, ap, arith, length-append, LEAST_SEGMENT, IsTaking, SessionState}
use Rattle.std.proofs.Math.Nat.{eq-or-lt_of_le}
use Rattle.ingest_session.specs.Cuts.{CutsOne, least_waiting}

-- The first segment that ends in so many bytes has one of them at least, and each later one the least length.
abbrev pub CutsFew : ℕ → SessionState → SessionState → Type 0
CutsFew taken old new = length old.queue < length new.queue → least_waiting new < LEAST_SEGMENT * (length old.queue + 1) + taken

few_by : (waited waits more hand later taken piece : ℕ) → waited ≤ waits
    → (waited < waits → LEAST_SEGMENT * waits + hand < LEAST_SEGMENT * (waited + 1) + taken)
    → ((more ≡ waits) ⊎ ((more ≡ waits + 1) × (later ≡ 0)))
    → LEAST_SEGMENT * more + later ≤ LEAST_SEGMENT * waits + hand + piece → 0 < piece
    → waited < more → LEAST_SEGMENT * more + later < LEAST_SEGMENT * (waited + 1) + (taken + piece)
few_by waited waits more hand later taken piece grows few (inl same) least some cut =
    let before = few (omega (arith, same, cut)) in omega (arith, before, least)
few_by waited waits more hand later taken piece grows few (inr one) least some cut =
    elim (eq-or-lt_of_le grows) [
      | inl none ↦ let waiting = one.0 in let empty = one.1 in omega (arith, none, waiting, empty, some)
      | inr other ↦ let before = few other in omega (arith, before, least)
    ]

pub cuts_few_more : (bytes : List ℕ) (taken piece : ℕ) (first second third : SessionState) → IsTaking bytes first second
    → CutsFew taken first second → CutsOne piece second third → 0 < piece → CutsFew (taken + piece) first third
cuts_few_more bytes taken piece first second third takes few one some =
    let queue = ap length takes.queue in
    let more = length-append first.queue takes.more in
    few_by (length first.queue) (length second.queue) (length third.queue) (length second.hand.bytes) (length third.hand.bytes) taken piece
    (omega (arith, queue, more)) few one.one one.least some

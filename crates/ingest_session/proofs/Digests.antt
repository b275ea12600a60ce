-- The digests that a queue keeps of its first segments.
use Rattle.ingest_session.proofs.Prelude.{◌≤◌, ◌++◌, List, [], ◌∷◌, ℕ, arith, drop, length, map, refl}
use Rattle.sha2.specs.Sha256.{sha256}
use Rattle.ingest_session.specs.Buffers.{AreDigests}

pub kept_are_few : (ds ss : List (List ℕ)) → AreDigests ds ss → length ds ≤ length ss
kept_are_few [] ss h = omega arith
kept_are_few (d ∷ ds) [] h = absurd h
kept_are_few (d ∷ ds) (s ∷ ss) h = let few = kept_are_few ds ss h.1 in omega arith

pub kept_stay : (ds ss more : List (List ℕ)) → AreDigests ds ss → AreDigests ds (ss ++ more)
kept_stay [] ss more h = tt
kept_stay (d ∷ ds) [] more h = absurd h
kept_stay (d ∷ ds) (s ∷ ss) more h = (h.0, kept_stay ds ss more h.1)

-- the digests of the others come after them
pub kept_of_all : (ds ss : List (List ℕ)) → AreDigests ds ss → AreDigests (ds ++ map sha256 (drop (length ds) ss)) ss
kept_of_all [] [] h = tt
kept_of_all [] (s ∷ ss) h = (refl, kept_of_all [] ss tt)
kept_of_all (d ∷ ds) [] h = absurd h
kept_of_all (d ∷ ds) (s ∷ ss) h = (h.0, kept_of_all ds ss h.1)

-- How much a session has to do until nothing is due: each answer makes it less.
use Rattle.std.specs.Prelude.{ℕ, ◌+◌, ◌*◌, Bool, true, false, List, [], ◌∷◌, length}
use Rattle.std.specs.Option.{option_to_list}
use Rattle.container_meta.specs.Segments.{Segment}
use Rattle.ingest_session.specs.State.{SessionState, ends_left, rest_of}

-- one seal for a container that isn't empty; of data it is set aside before
abbrev pub seals_left : List Segment → ℕ
seals_left [] = 0
seals_left (s ∷ ss) = 1

-- one for a claim that may still have to wait
abbrev pub waits_left : Bool → ℕ
waits_left true = 0
waits_left false = 1

-- the pieces that aren't in their place, as far as they are there, and the nodes that the end may still finish
abbrev pub pieces_left : SessionState → ℕ
pieces_left s = length (option_to_list s.ahead) + length s.line + length s.built.finished + ends_left s.top s.built

abbrev pub to_do : SessionState → ℕ
to_do s =
    64 * length (rest_of s) + 4 * pieces_left s
    + 2 * seals_left s.leaves.segments + length s.aside + seals_left s.nodes.segments + waits_left s.waits

-- What a seal offers: segments of the file, of keys of their own.
use Rattle.ingest_session.proofs.Prelude.{◌≡◌, ◌≤◌, ℕ, List, [], ◌∷◌, ◌++◌, sym, ap, subst, append-nil, append_assoc, arith, length, AllByRecursion, Kind, Leaf, Tree, Contents, Segment, Seal, due_in, offered_in, segments_of_all, HasHistory, History, MayFollow, HasPieceOf, unsealed, waiting, IsSession, SessionState, IsSettled}
use Rattle.ingest_session.proofs.Facts.{opens_are_pieces}
use Rattle.ingest_session.proofs.KeptPieces.{of_kind}
use Rattle.ingest_session.proofs.Members.{IsIn, all_before, in_first, in_left}
use Rattle.ingest_session.proofs.OpenOn.{AreApart, apart_before, unsealed_apart}
use Rattle.ingest_session.proofs.SealsSome.{is_offer}

-- what a seal doesn't offer of what is to be sealed
abbrev others : Kind → SessionState → List Segment
others Leaf s = s.leaves.segments ++ waiting Leaf s
others Tree s = waiting Tree s

unsealed_are : (s : SessionState) (kind : Kind) → segments_of_all (offered_in s kind) ++ others kind s ≡ unsealed kind s
unsealed_are s Leaf = sym (append_assoc (segments_of_all s.aside) s.leaves.segments (waiting Leaf s))
unsealed_are s Tree = ap (λ (xs : List Segment). xs ++ waiting Tree s) (append-nil s.nodes.segments)

pub offered_unsealed : (s : SessionState) (kind : Kind) (x : Segment) → IsIn x (segments_of_all (offered_in s kind)) → IsIn x (unsealed kind s)
offered_unsealed s kind x is = subst (IsIn x) (unsealed_are s kind) (in_left (segments_of_all (offered_in s kind)) (others kind s) x is)

pub offered_apart : (s : SessionState) (h : History) → HasHistory s h → (kind : Kind) → AreApart kind (segments_of_all (offered_in s kind))
offered_apart s h has kind =
    apart_before kind (segments_of_all (offered_in s kind)) (others kind s) (subst (AreApart kind) (sym (unsealed_are s kind)) (unsealed_apart s h kind has))

-- however the file goes on
pub offered_are_pieces : (s : SessionState) (h : History) (more : List ℕ) → HasHistory s h → MayFollow more s → (kind : Kind)
    → AllByRecursion (λ x. HasPieceOf (h.given ++ more) (of_kind kind x)) (segments_of_all (offered_in s kind))
offered_are_pieces s h more has may Leaf =
    all_before (λ x. HasPieceOf (h.given ++ more) (of_kind Leaf x)) (segments_of_all s.aside) s.leaves.segments (opens_are_pieces s h more has may Leaf)
offered_are_pieces s h more has may Tree =
    subst (AllByRecursion (λ x. HasPieceOf (h.given ++ more) (of_kind Tree x))) (sym (append-nil s.nodes.segments)) (opens_are_pieces s h more has may Tree)

-- a segment at least is offered
pub some_offered : (s : SessionState) (kind : Kind) → IsSession s → IsSettled s → due_in s ≡ Seal kind → (x : Segment) × IsIn x (segments_of_all (offered_in s kind))
some_offered s kind session settled due = let offer = is_offer s kind session settled due in by (offered_in s kind) offer.some offer.segments
  where
    first : (xs rest : List Segment) → 1 ≤ length xs → (x : Segment) × IsIn x (xs ++ rest)
    first [] rest some = absurd (omega (arith, some))
    first (x ∷ xs) rest some = (x, in_first x (xs ++ rest))

    by : (cs : List Contents) → 1 ≤ length cs → AllByRecursion (λ c. 1 ≤ length c.segments) cs → (x : Segment) × IsIn x (segments_of_all cs)
    by [] some each = absurd (omega (arith, some))
    by (c ∷ cs) some each = first c.segments (segments_of_all cs) each.0

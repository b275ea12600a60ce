-- What containers have, as one list of segments with their kinds.
use Rattle.backup_engine.proofs.Prelude.{◌≡◌, inl, inr, zero, suc, List, [], ◌∷◌, ◌++◌, map, Some, None, ap, subst, Kind, Segment, in_left, in_right, IsOneOf}
use Rattle.container_meta.specs.Segments.{Contents}
use Rattle.ingest_session.specs.Due.{segments_of_all}
use Rattle.ingest_session.proofs.Members.{IsIn, in_either, in_none}
use Rattle.store_core.specs.Keeping.{segments_in}
use Rattle.store_machine.proofs.OfOneKind.{AreOf}
use Rattle.backup_engine.proofs.KeptPieces.{of_kind}

one_of_map : {A B : Type 0} (f : A → B) (x : A) (xs : List A) → IsOneOf x xs → IsOneOf (f x) (map f xs)
one_of_map f x [] one = absurd (let none : None ≡ Some x = one.1 in cc)
one_of_map f x (y ∷ xs) (zero, is) = (0, ap (λ (z : _). Some (f z)) (same y x is))
  where
    same : {A : Type 0} (y x : A) → Some y ≡ Some x → y ≡ x
    same y x is = cc
one_of_map f x (y ∷ xs) (suc i, is) = let rest = one_of_map f x xs (i, is) in (suc rest.0, rest.1)

-- one of the segments of containers of a kind
pub one_in : (kind : Kind) (cs : List Contents) → AreOf kind cs → (x : Segment) → IsIn x (segments_of_all cs) → IsOneOf (of_kind kind x) (segments_in cs)
one_in kind [] are x is = absurd (in_none x is)
one_in kind (c ∷ cs) are x is = elim (in_either c.segments (segments_of_all cs) x is) [
  | inl here ↦
      subst (λ (k : Kind). IsOneOf (of_kind k x) (map (of_kind c.kind) c.segments ++ segments_in cs)) are.0
      (in_left (map (of_kind c.kind) c.segments) (segments_in cs) (of_kind c.kind x) (one_of_map (of_kind c.kind) x c.segments here))
  | inr later ↦ in_right (map (of_kind c.kind) c.segments) (segments_in cs) (of_kind kind x) (one_in kind cs are.1 x later)
]

-- Segments of containers that are of one kind.
use Rattle.store_machine.proofs.Prelude.{◌≡◌, zero, suc, [], ◌∷◌, sym, subst, AllByRecursion, ℕ, Kind, Segment, segment_key, IsIn, inl, inr}
use Rattle.std.proofs.Common.{List, take}
use Rattle.container_meta.specs.Segments.{Contents}
use Rattle.ingest_session.specs.Due.{segments_of_all}
use Rattle.ingest_session.proofs.Members.{all_after, all_before, all_of, in_either, in_none, one_of}
use Rattle.ingest_session.proofs.OpenOn as opens
use Rattle.ingest_session.proofs.OpenOn.{apart_back, apart_from}
use Rattle.store_machine.specs.Offers.{AllSegments}
use Rattle.store_machine.proofs.Sealings.{AreApart, LacksKey}

abbrev pub AreOf : Kind → List Contents → Type 0
AreOf kind cs = AllByRecursion (λ c. c.kind ≡ kind) cs

-- what holds of all of them holds of each container's
pub each_of : (P : Kind → Segment → Type 0) (kind : Kind) (cs : List Contents) → AreOf kind cs → AllByRecursion (P kind) (segments_of_all cs) → AllSegments P cs
each_of P kind [] are all = tt
each_of P kind (c ∷ cs) (is, are) all = (
  subst (λ (k : Kind). AllByRecursion (P k) c.segments) (sym is) (all_before (P kind) c.segments (segments_of_all cs) all),
  each_of P kind cs are (all_after (P kind) c.segments (segments_of_all cs) all),
)

-- and of one of them
pub one_of_all : (P : Kind → Segment → Type 0) (kind : Kind) (cs : List Contents) → AreOf kind cs → AllSegments P cs → (x : Segment)
    → IsIn x (segments_of_all cs) → P kind x
one_of_all P kind [] are all x there = absurd (in_none x there)
one_of_all P kind (c ∷ cs) (is, are) (one, more) x there = elim (in_either c.segments (segments_of_all cs) x there) [
  | inl here ↦ one_of (P kind) c.segments x (subst (λ (k : Kind). AllByRecursion (P k) c.segments) is one) here
  | inr later ↦ one_of_all P kind cs are more x later
]

pub apart_of : (kind : Kind) (cs : List Contents) → AreOf kind cs → opens.AreApart kind (segments_of_all cs) → AreApart cs
apart_of kind [] are apart = tt
apart_of kind (c ∷ cs) (is, are) apart = (
  each_of (λ k y. AllByRecursion (LacksKey (segment_key k y) c.kind) c.segments) kind cs are
      (subst (λ (k : Kind). AllByRecursion (λ y. AllByRecursion (LacksKey (segment_key kind y) k) c.segments) (segments_of_all cs)) (sym is)
      (all_of (λ y. AllByRecursion (LacksKey (segment_key kind y) kind) c.segments) (segments_of_all cs)
      (λ y there. apart_from kind c.segments (segments_of_all cs) y apart there))),
  apart_of kind cs are (apart_back kind c.segments (segments_of_all cs) apart),
)

-- ---- the first of them

pub all_taken : {X : Type 0} (P : X → Type 0) (k : ℕ) (xs : List X) → AllByRecursion P xs → AllByRecursion P (take k xs)
all_taken P zero xs all = tt
all_taken P (suc k) [] all = tt
all_taken P (suc k) (x ∷ xs) (one, all) = (one, all_taken P k xs all)

pub apart_taken : (k : ℕ) (cs : List Contents) → AreApart cs → AreApart (take k cs)
apart_taken zero cs apart = tt
apart_taken (suc k) [] apart = tt
apart_taken (suc k) (c ∷ cs) (one, more) =
    (all_taken (λ d. AllByRecursion (λ y. AllByRecursion (LacksKey (segment_key d.kind y) c.kind) c.segments) d.segments) k cs one, apart_taken k cs more)

-- A source that was copied: how many segments were.
use Rattle.gc_sweep.proofs.Prelude.{◌≡◌, ◌⊎◌, inl, inr, ℕ, suc, ◌+◌, ◌<◌, ◌≤◌, Bool, true, false, List, [], ◌∷◌, length, get_or, drop, Option, None, Some, ap, sym, subst, arith, length-append, if◌then◌else◌, nat_le, nat_lt, both, MOST_ENTRIES, Entry, Kind, PlaceMap, Contents, HeaderValue, IsHeader, IsCopyRefusal, Plan, IsPlan, Planned, Source, Takes, TakesOne, planned, source_of, Shows, DiskView, LiveKeys, Refusal, Memory, SlotTable, Sweep, IsCopyStepRefusal, IsFilling, IsSource, kind_in, IsSweeping, entry_in}
use Rattle.std.proofs.Common.{◌^◌}
use Rattle.std.specs.Prelude.{IfSome}
use Rattle.std.proofs.lemmas.Bool.{leb-true}
use Rattle.copy_forward.specs.Copying.{PlansSource, copy_task}
use Rattle.gc_sweep.specs.Copying.{copy_step}

-- ---- each entry adds a segment at most

module _ (s : Source) (S : (List ℕ → Type 0) → Type 0) where
  one_adds : (e : Entry) (before after : Planned) → TakesOne s S e before after → length after.buffer.segments ≤ suc (length before.buffer.segments)
  one_adds e before after (inl (passed, is)) = omega (arith, ap (λ (p : Planned). length p.buffer.segments) is)
  one_adds e before after (inr (inl (dead, is))) = omega (arith, ap (λ (p : Planned). length p.buffer.segments) is)
  one_adds e before after (inr (inr (live, inl (had, is), dead))) = omega (arith, ap (λ (c : Contents). length c.segments) is)
  one_adds e before after (inr (inr (live, inr (lacks, adds), dead))) =
      omega (arith, ap (λ (c : Contents). length c.segments) adds.after_is, length-append before.buffer.segments (record { level = e.level; bytes = adds.bytes } ∷ []))

  pub adds_few : (es : List Entry) (before after : Planned) (count : ℕ) → Takes s S es before after count → length after.buffer.segments ≤ length before.buffer.segments + count
  adds_few [] before after count none = omega (arith, ap (λ (p : Planned). length p.buffer.segments) none.0)
  adds_few (e ∷ es) before after count (inl full) = omega (arith, ap (λ (p : Planned). length p.buffer.segments) full.1)
  adds_few (e ∷ es) before after count (inr (mid, (rest, (more, one, others)))) =
      omega (arith, more, one_adds e before mid one, adds_few es mid after rest others)

  pub copied_few : (h : HeaderValue) (from : ℕ) (buffer : Contents) (plan : Plan) → IsHeader h → IsPlan s S h.entries from buffer plan → plan.copied ≤ MOST_ENTRIES
  copied_few h from buffer plan right is =
      omega (
        arith,
        is.copied_is,
        is.within,
        is.next_is,
        adds_few (drop from h.entries) (planned buffer []) (planned plan.buffer plan.dead.items) is.passed is.takes,
        leb-true (length h.entries) MOST_ENTRIES (both (nat_le 1 (length h.entries)) (nat_le (length h.entries) MOST_ENTRIES) right.count).1,
      )

-- so the number of those that were copied is one
pub copied_fits : (t : SlotTable) (snapshot : ℕ) (s : Sweep) (known : Option PlaceMap) (live : LiveKeys) (slot from : ℕ) (filling : Contents) (old new : DiskView)
    (found : Option Plan)
    → IsSweeping t snapshot s → PlansSource (copy_task t known live slot from filling) old new found → IfSome found (λ plan. s.copied + plan.copied < 2 ^ 64)
copied_fits t snapshot s known live slot from filling old new None under plans = tt
copied_fits t snapshot s known live slot from filling old new (Some plan) under plans =
    let few = copied_few (source_of known live slot plans.header.kind) (Shows old new) plans.header from filling plan plans.right plans.plans.1 in
    omega (arith, few, under.few_copied, under.few, under.before, one_at_most (nat_lt 0 (entry_in s.next)))
  where
    one_at_most : (b : Bool) → (if b then 1 else 0) ≤ 1
    one_at_most true = omega arith
    one_at_most false = omega arith

-- ---- why none was

pub is_source : (t : SlotTable) (source : ℕ) (s : Sweep) (slot : ℕ) (kind : Kind) → slot < length t.ids.items → get_or t.ids.items slot 0 ≡ get_or s.sources.items source 0
    → kind_in t slot ≡ Some kind
    → (filling : Contents) → IsFilling s.buffer kind filling → IsSource t source s slot kind filling
is_source t source s slot kind within id_is kind_is filling fills = record { within = within; id_is = id_is; kind_is = kind_is; filling_is = fills }

pub step_refused : (t : SlotTable) (known : Option PlaceMap) (live : LiveKeys) (source slot entry : ℕ) (kind : Kind) (s : Sweep) (old new : DiskView) (refusal : Refusal)
    → ((filling : Contents) → IsFilling s.buffer kind filling → IsSource t source s slot kind filling)
    → (refusal ≡ Memory) ⊎ ((filling : Contents) × IsFilling s.buffer kind filling × IsCopyRefusal (copy_task t known live slot entry filling) old new refusal)
    → IsCopyStepRefusal (copy_step t live known source entry s) old new refusal
step_refused t known live source slot entry kind s old new refusal is_source (inl is) = subst (IsCopyStepRefusal (copy_step t live known source entry s) old new) (sym is) tt
step_refused t known live source slot entry kind s old new Memory is_source (inr cause) = tt
step_refused t known live source slot entry kind s old new refusal is_source (inr (filling, fills, cause)) =
    record { slot = slot; kind = kind; filling = filling; is_source = is_source filling fills; cause = cause }

-- Names that are the replay of records whose numbers rise: each has a number of its own.
use Rattle.std.proofs.Common.{◌≡◌, ℕ, ◌<◌, ◌⊎◌, true, false, List, [], ◌∷◌, cond, None, Some, inl, inr, refl, sym, ap, ◌∙◌, arith}
use Rattle.std.specs.Ordering.{nat_cmp, eq_by_cmp}
use Rattle.std.specs.Cmp.Lexicographic.{slice_cmp, nat_list_cmp_total}
use Rattle.std.specs.FinMap as finite
use Rattle.std.proofs.lemmas.Map.Lookups.{exact_bytes}
use Rattle.disk_format.specs.Cells.{RecordValue, Change}
use Rattle.disk_format.specs.Cells.Change.{Put, Delete}
use Rattle.namespace.specs.declared.record.Named.{Named}
use Rattle.namespace.specs.Names.{NameMap, names_changed, names_with, names_after}
use Rattle.namespace.specs.Numbers.{Rise, last_of, AreNumbered}
use Rattle.namespace.proofs.Entries.{is_equal}

-- what is found after a put is what it says, or was there before
pub found_put : (names : NameMap) (name : List ℕ) (new : Named) (q : List ℕ) (x : Named) → finite.get (finite.insert names name new) q ≡ Some x →
    ((q ≡ name) × (x ≡ new)) ⊎ (finite.get names q ≡ Some x)
found_put names name new q x h =
    elim (eq_by_cmp (slice_cmp nat_cmp) q name) as (λ b. eq_by_cmp (slice_cmp nat_cmp) q name ≡ b → cond b (Some new) (finite.get names q) ≡ Some x →
    ((q ≡ name) × (x ≡ new)) ⊎ (finite.get names q ≡ Some x)) [
      | true ↦ λ same e. inl (exact_bytes q name (is_equal _ same), cc)
      | false ↦ λ _ e. inr e
    ] refl (sym (finite.get-insert nat_list_cmp_total names name new q) ∙ h)

found_kept : (names : NameMap) (name q : List ℕ) (x : Named) → finite.get (finite.remove names name) q ≡ Some x → finite.get names q ≡ Some x
found_kept names name q x h =
    elim (eq_by_cmp (slice_cmp nat_cmp) q name) as (λ b. cond b None (finite.get names q) ≡ Some x → finite.get names q ≡ Some x) [
      | true ↦ λ e. cc
      | false ↦ λ e. e
    ] (sym (finite.get-remove nat_list_cmp_total names name q) ∙ h)

nothing : (q : List ℕ) (x : Named) → finite.get (finite.empty {X = Named} {R = slice_cmp nat_cmp}) q ≡ Some x → ⊥
nothing q x h = let none = finite.get-empty {X = Named} (slice_cmp nat_cmp) q in cc

pub none_numbered : AreNumbered finite.empty 0
none_numbered = record { apart = λ a b x y h k e. absurd (nothing a x h); from_one = λ a x h. absurd (nothing a x h); most = λ a x h. absurd (nothing a x h) }

put_numbered : (names : NameMap) (name : List ℕ) (new : Named) (last : ℕ) → AreNumbered names last → last < new.sequence → AreNumbered (finite.insert names name new) new.sequence
put_numbered names name new last h above =
    let old : (q : List ℕ) (x : Named) → finite.get names q ≡ Some x → new.sequence ≡ x.sequence → ⊥ = λ q x found e. omega (arith, h.most q x found, above, e) in
    record {
      apart = λ a b x y found_a found_b e.
          elim (found_put names name new a x found_a) [
            | inl p ↦ elim (found_put names name new b y found_b) [
              | inl q ↦ p.0 ∙ sym q.0
              | inr was ↦ absurd (old b y was (sym (ap (λ n. n.sequence) p.1) ∙ e))
            ]
            | inr was ↦ elim (found_put names name new b y found_b) [
              | inl q ↦ absurd (old a x was (sym (e ∙ ap (λ n. n.sequence) q.1)))
              | inr also ↦ h.apart a b x y was also e
            ]
          ];
      from_one = λ a x found. elim (found_put names name new a x found) [ inl p ↦ omega (arith, above, ap (λ n. n.sequence) p.1) | inr was ↦ h.from_one a x was ];
      most = λ a x found. elim (found_put names name new a x found) [ inl p ↦ omega (arith, ap (λ n. n.sequence) p.1) | inr was ↦ omega (arith, above, h.most a x was) ];
    }

delete_numbered : (names : NameMap) (name : List ℕ) (last sequence : ℕ) → AreNumbered names last → last < sequence → AreNumbered (finite.remove names name) sequence
delete_numbered names name last sequence h above = record {
  apart = λ a b x y found also. h.apart a b x y (found_kept names name a x found) (found_kept names name b y also);
  from_one = λ a x found. h.from_one a x (found_kept names name a x found);
  most = λ a x found. omega (arith, above, h.most a x (found_kept names name a x found));
}

changed_numbered : (sequence : ℕ) (name : List ℕ) (change : Change) (names : NameMap) (last : ℕ) → AreNumbered names last → last < sequence →
    AreNumbered (names_changed sequence name change names) sequence
changed_numbered sequence name (Put root) names last h above = put_numbered names name (record { sequence = sequence; root = root }) last h above
changed_numbered sequence name Delete names last h above = delete_numbered names name last sequence h above

pub numbered_with : (r : RecordValue) (names : NameMap) (last : ℕ) → AreNumbered names last → last < r.sequence → AreNumbered (names_with r names) r.sequence
numbered_with r names last h above = changed_numbered r.sequence r.name r.change names last h above

-- after records whose numbers rise, the names have numbers up to the last record's
pub numbered_after : (rs : List RecordValue) (names : NameMap) (last : ℕ) → AreNumbered names last → Rise last rs → AreNumbered (names_after rs names) (last_of last rs)
numbered_after [] names last h rise = h
numbered_after (r ∷ rs) names last h rise = numbered_after rs (names_with r names) r.sequence (numbered_with r names last h rise.0) rise.1

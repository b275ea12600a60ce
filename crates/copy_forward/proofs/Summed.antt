-- The bytes of entries that are live copies, summed up one entry after the other.
use Rattle.std.proofs.Common.{◌≡◌, ◌∙◌, ◌⊎◌, ◌↔◌, inl, inr, ℕ, Bool, true, false, ◌+◌, ◌<◌, List, [], ◌∷◌, ◌++◌, length, take, get_or, refl, sym, ap, subst, arith}
use Rattle.std.specs.Prelude.{IsTrue}
use Rattle.std.proofs.lemmas.List.{take_more}
use Rattle.container_meta.specs.declared.entry.Entry.{Entry}
use Rattle.container_meta.specs.declared.kind.Kind.{Kind}
use Rattle.container_meta.specs.Places.{PlaceMap}
use Rattle.container_meta.specs.Spelling.{bytes_of}
use Rattle.container_meta.proofs.Spelled.{bytes_of-push}
use Rattle.gc_enumerate.specs.Live.{LiveKeys}
use Rattle.copy_forward.specs.Entries.{IsDead, IsLiveCopy, SumsLive}

module _ (index : PlaceMap) (live : LiveKeys) (kind : Kind) (slot : ℕ) where
  live_push : (es : List Entry) (e : Entry) (sum : ℕ) → IsLiveCopy index live kind slot e → SumsLive index live kind slot es sum
      → SumsLive index live kind slot (es ++ e ∷ []) (sum + e.length)
  live_push [] e sum is none = inl (is, (0, omega (arith, none), refl))
  live_push (x ∷ xs) e sum is (inl (here, (rest, more, sums))) = inl (here, (rest + e.length, omega (arith, more), live_push xs e rest is sums))
  live_push (x ∷ xs) e sum is (inr (dead, sums)) = inr (dead, live_push xs e sum is sums)

  dead_push : (es : List Entry) (e : Entry) (sum : ℕ) → IsDead index live kind slot e → SumsLive index live kind slot es sum → SumsLive index live kind slot (es ++ e ∷ []) sum
  dead_push [] e sum is none = inr (is, none)
  dead_push (x ∷ xs) e sum is (inl (here, (rest, more, sums))) = inl (here, (rest, more, dead_push xs e rest is sums))
  dead_push (x ∷ xs) e sum is (inr (dead, sums)) = inr (dead, dead_push xs e sum is sums)

  module _ (es : List Entry) (i : ℕ) (d : Entry) (within : i < length es) (sum : ℕ) (so_far : SumsLive index live kind slot (take i es) sum) where
    live_more : IsLiveCopy index live kind slot (get_or es i d) → SumsLive index live kind slot (take (i + 1) es) (sum + (get_or es i d).length)
    live_more is =
        subst (λ (xs : List Entry). SumsLive index live kind slot xs (sum + (get_or es i d).length)) (sym (take_more es i d within))
        (live_push (take i es) (get_or es i d) sum is so_far)

    dead_more : IsDead index live kind slot (get_or es i d) → SumsLive index live kind slot (take (i + 1) es) sum
    dead_more is = subst (λ (xs : List Entry). SumsLive index live kind slot xs sum) (sym (take_more es i d within)) (dead_push (take i es) (get_or es i d) sum is so_far)

  -- one entry more, which counts or doesn't
  pub summed_more : (es : List Entry) (i : ℕ) (d : Entry) (sum next : ℕ) (counts : Bool) → i < length es → SumsLive index live kind slot (take i es) sum
      → (IsTrue counts ↔ IsLiveCopy index live kind slot (get_or es i d)) → ((counts ≡ true) × (next ≡ sum + (get_or es i d).length)) ⊎ ((counts ≡ false) × (next ≡ sum))
      → SumsLive index live kind slot (take (i + 1) es) next
  summed_more es i d sum next counts within so_far tells (inl (counted, is)) =
      subst (λ (n : ℕ). SumsLive index live kind slot (take (i + 1) es) n) (sym is) (live_more es i d within sum so_far (tells.0 counted))
  summed_more es i d sum next counts within so_far tells (inr (dead, is)) =
      subst (λ (n : ℕ). SumsLive index live kind slot (take (i + 1) es) n) (sym is)
      (dead_more es i d within sum so_far (λ copy. absurd (let wrong : true ≡ false = sym (tells.1 copy) ∙ dead in cc)))

-- ---- their bytes

pub bytes_more : (es : List Entry) (i : ℕ) (d : Entry) → i < length es → bytes_of (take (i + 1) es) ≡ bytes_of (take i es) + (get_or es i d).length
bytes_more es i d within = ap bytes_of (take_more es i d within) ∙ bytes_of-push (take i es) (get_or es i d)

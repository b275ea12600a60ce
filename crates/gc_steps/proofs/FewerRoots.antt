-- Where no root comes after a step, and no container came or went, a collection goes on.
use Rattle.gc_steps.proofs.Prelude.{◌≡◌, inl, ℕ, List, Option, sym, ◌∙◌, ap, slice_get, Part, PlaceMap, HeaderValue, Store, names_of, HasKey, newest, KeepsCopies, Collection, IsRoot}
use Rattle.gc_steps.proofs.Carried.{KeepsBoth, carried, moves_none}

-- The store has the same containers, and the image the same copies of the keys that the index has; the roots after it are among those before.
pub fewer_roots : (index : PlaceMap) (s t : Store) (old new : List ℕ) (before after : List Part) (c : Collection) → t.held ≡ s.held → KeepsCopies (HasKey index) s old t new
    → ((key : List ℕ) → IsRoot (names_of t) after key → IsRoot (names_of s) before key) → KeepsBoth index index s t before after old new c c
fewer_roots index s t old new before after c held keeps fewer =
    carried index index c c.live s t old new before after
    (λ live. record {
      roots = λ key root. live key (fewer key root);
      keeps = keeps;
      has_still = λ key has. has;
      live_still = λ key is. is;
      each = λ key is. inl (is, ap (λ (h : List (Option HeaderValue)). newest 0 h key) held);
      slots = λ slot h there. inl (ap (λ (l : List (Option HeaderValue)). slice_get l slot) (sym held) ∙ there);
    })
    (moves_none index s t c.snapshot held)

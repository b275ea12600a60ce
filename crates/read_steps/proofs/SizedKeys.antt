-- Keys that a walk noted, each with how many bytes it has: what they come to, and what they are of a store that stands for files.
use Rattle.std.proofs.Common.{◌≡◌, ◌⊎◌, inl, inr, ℕ, zero, suc, Bool, true, false, cond, List, [], ◌∷◌, Some, None, refl, sym, ◌∙◌, ap, subst, arith}
use Rattle.std.specs.Cmp.Lexicographic.{nat_list_cmp_total, slice_cmp}
use Rattle.std.specs.FinMap as finite
use Rattle.std.specs.Cmp.{tied_itself}
use Rattle.std.specs.Ordering.{eq_by_cmp, is_eq, nat_cmp}
use Rattle.std.proofs.lemmas.Slice.Eq.{bytes_eq-Decides}
use Rattle.container_meta.specs.Places.{PlaceMap}
use Rattle.container_meta.specs.declared.place.Place.{Place}
use Rattle.dd_disk.specs.View.{DiskView}
use Rattle.merkle_file.specs.declared.top.Top.{Top}
use Rattle.namespace.specs.Listing.{NamedRoot}
use Rattle.store_model.proofs.Copies.{some_same}
use Rattle.store_model.proofs.Indexing.{tied}
use Rattle.store_model.specs.Unique.{KeySizes, bytes_in}
use Rattle.read_steps.specs.Trees.{NotesKeys, NotesTrees}
use Rattle.read_steps.specs.Unique.{CountsTrees}
use Rattle.read_steps.specs.Visiting.{IsVisited}
use Rattle.read_steps.specs.Walking.{top_key}
use Rattle.read_steps.proofs.Whole.{visited_right}

-- ---- what was noted

-- a key is given how many bytes its place has
abbrev pub NotesSize : KeySizes → List ℕ → Place → KeySizes → Type 0
NotesSize old key place new = new ≡ finite.insert old key place.length

abbrev HasSize : KeySizes → List ℕ → Type 0
HasSize sizes key = (size : ℕ) × (finite.get sizes key ≡ Some size)

abbrev pub no_sizes : KeySizes
no_sizes = finite.empty

no_size : (key : List ℕ) (size : ℕ) → finite.get no_sizes key ≡ Some size → ⊥
no_size key size is = let wrong : None ≡ Some size = sym (finite.get-empty (slice_cmp nat_cmp) key) ∙ is in cc

inserted_there : (sizes : KeySizes) (k : List ℕ) (n : ℕ) → finite.get (finite.insert sizes k n) k ≡ Some n
inserted_there sizes k n =
    finite.get-insert nat_list_cmp_total sizes k n k ∙ ap (λ o. cond (is_eq o) (Some n) (finite.get sizes k)) (tied_itself nat_list_cmp_total k)

-- once one is given another, a key has that, or what it had
inserted_cases : (sizes : KeySizes) (k key : List ℕ) (n : ℕ) →
    ((k ≡ key) × (finite.get (finite.insert sizes k n) key ≡ Some n)) ⊎ (finite.get (finite.insert sizes k n) key ≡ finite.get sizes key)
inserted_cases sizes k key n = by_test (eq_by_cmp (slice_cmp nat_cmp) key k) refl
  where
    by_test : (b : Bool) → eq_by_cmp (slice_cmp nat_cmp) key k ≡ b →
        ((k ≡ key) × (finite.get (finite.insert sizes k n) key ≡ Some n)) ⊎ (finite.get (finite.insert sizes k n) key ≡ finite.get sizes key)
    by_test true is = inl (
      (bytes_eq-Decides k key).0 (sym (tied key k) ∙ is),
      finite.get-insert nat_list_cmp_total sizes k n key ∙ ap (λ (b : Bool). cond b (Some n) (finite.get sizes key)) is,
    )
    by_test false is = inr (finite.get-insert nat_list_cmp_total sizes k n key ∙ ap (λ (b : Bool). cond b (Some n) (finite.get sizes key)) is)

visited_first : (t : Top) (ts : List Top) (key : List ℕ) → IsVisited (t ∷ ts) key → (top_key t ≡ key) ⊎ IsVisited ts key
visited_first t ts key (zero, within, is) = inl is
visited_first t ts key (suc k, within, is) = inr (k, omega (arith, within), is)

module _ (index : PlaceMap) where
  -- each key has as many bytes as the index says
  abbrev AreRight : KeySizes → Type 0
  AreRight sizes = (key : List ℕ) (size : ℕ) → finite.get sizes key ≡ Some size → (place : Place) × ((finite.get index key ≡ Some place) × (size ≡ place.length))

  right_more : (sizes : KeySizes) (k : List ℕ) (place : Place) → finite.get index k ≡ Some place → AreRight sizes → AreRight (finite.insert sizes k place.length)
  right_more sizes k place found right key size is = elim (inserted_cases sizes k key place.length) [
    | inl here ↦ (place, (ap (finite.get index) (sym here.0) ∙ found, some_same size place.length (sym is ∙ here.1)))
    | inr other ↦ right key size (sym other ∙ is)
  ]

  has_more : (sizes : KeySizes) (k key : List ℕ) (n : ℕ) → HasSize sizes key → HasSize (finite.insert sizes k n) key
  has_more sizes k key n has = elim (inserted_cases sizes k key n) [
    | inl here ↦ (n, here.1)
    | inr other ↦ (has.0, other ∙ has.1)
  ]

  -- what a walk that began with some sizes came to
  record CameTo (noted : List Top) (from to : KeySizes) : Type 0 where
    right : AreRight to
    noted_have : (key : List ℕ) → IsVisited noted key → HasSize to key
    had_have : (key : List ℕ) → HasSize from key → HasSize to key
    only : (key : List ℕ) → HasSize to key → IsVisited noted key ⊎ HasSize from key

  came_more : (t : Top) (ts : List Top) (place : Place) (from mid to : KeySizes) → mid ≡ finite.insert from (top_key t) place.length → CameTo ts mid to →
      CameTo (t ∷ ts) from to
  came_more t ts place from mid to is came = record {
    right = came.right;
    noted_have = λ key visited. elim (visited_first t ts key visited) [
      | inl here ↦
          came.had_have key (
            place.length,
            ap (λ (m : KeySizes). finite.get m key) is ∙ ap (finite.get (finite.insert from (top_key t) place.length)) (sym here)
                ∙ inserted_there from (top_key t) place.length,
          )
      | inr later ↦ came.noted_have key later
    ];
    had_have = λ key has. came.had_have key (subst (λ (m : KeySizes). HasSize m key) (sym is) (has_more from (top_key t) key place.length has));
    only = λ key has. elim (came.only key has) [
      | inl later ↦ inl (visited_right (t ∷ []) ts key later)
      | inr earlier ↦ first_or key (subst (λ (m : KeySizes). HasSize m key) is earlier)
    ];
  }
    where
      first_or : (key : List ℕ) → HasSize (finite.insert from (top_key t) place.length) key → IsVisited (t ∷ ts) key ⊎ HasSize from key
      first_or key has = elim (inserted_cases from (top_key t) key place.length) [
        | inl here ↦ inl (0, omega arith, here.0)
        | inr other ↦ inr (has.0, sym other ∙ has.1)
      ]

  came_to : (noted : List Top) (from to : KeySizes) → AreRight from → NotesKeys KeySizes NotesSize index noted from to → CameTo noted from to
  came_to [] from to right same = record {
    right = subst AreRight (sym same) right;
    noted_have = λ key is. absurd (let none : IsVisited [] key = is in omega (arith, none.1));
    had_have = λ key has. subst (λ (m : KeySizes). HasSize m key) (sym same) has;
    only = λ key has. inr (subst (λ (m : KeySizes). HasSize m key) same has);
  }
  came_to (t ∷ ts) from to right (place, (mid, (found, is, rest))) =
      came_more t ts place from mid to is
      (came_to ts mid to (subst AreRight (sym is) (right_more from (top_key t) place found right)) rest)

  -- trees that were walked, with no size at first
  pub sizes_of : (old new : DiskView) (roots : List NamedRoot) (sizes : KeySizes) (bytes : ℕ) → NotesTrees KeySizes NotesSize index old new roots no_sizes sizes →
      bytes ≡ bytes_in sizes
      → CountsTrees index old new roots (finite.len sizes) bytes
  sizes_of old new roots sizes bytes notes bytes_is =
      let came = came_to notes.noted no_sizes sizes (λ key size is. absurd (no_size key size is)) notes.notes in
      record {
        visited = notes.visited;
        visits = notes.visits;
        sizes = sizes;
        are = record {
          all = λ key visited. sized key (came.noted_have key (notes.all key visited)) came.right;
          only = λ key size is. elim (came.only key (size, is)) [
            | inl noted ↦ notes.only key noted
            | inr none ↦ absurd (no_size key none.0 none.1)
          ];
        };
        segments_is = refl;
        bytes_is = bytes_is;
      }
    where
      sized : (key : List ℕ) → HasSize sizes key → AreRight sizes
          → (place : Place) × ((finite.get index key ≡ Some place) × (finite.get sizes key ≡ Some place.length))
      sized key has right = let at = right key has.0 has.1 in (at.0, (at.1.0, has.1 ∙ ap Some at.1.1))

-- Keys that become live while a collection runs, and those of them that were not.
use Rattle.gc_steps.proofs.Prelude.{◌≡◌, ◌⊎◌, ◌<◌, ◌≤◌, ◌+◌, inl, inr, ℕ, Bool, true, false, List, [], ◌∷◌, ◌++◌, length, take, is_some, refl, sym, ◌∙◌, subst, take_all, take_more, Contains-append_left, Place, LiveKeys, HasMarked, IsAsLive, Unmarks, Marks}
use Rattle.std.proofs.Common.{◌↔◌, get_or}
use Rattle.std.specs.FinMap as finite
use Rattle.std.specs.List.{Contains}
use Rattle.gc_enumerate.specs.Live.{IsLiveAt}
use Rattle.gc_steps.specs.Fresh.{AreFresh}
use Rattle.gc_steps.proofs.Marked.{contains_more, contains_none, keys_turn, marks_none}
use Rattle.gc_sweep.proofs.InSlots.{live_anywhere}

-- ---- marks of keys

-- one that is the same is live, too
live_same : (live : LiveKeys) (key other : List ℕ) (here there : Place) → other ≡ key → IsLiveAt live key here → IsLiveAt live other there
live_same live key other here there same is = live_anywhere live other here there (subst (λ (k : List ℕ). IsLiveAt live k here) (sym same) is)

-- a key is live, or not
pub live_or : (live : LiveKeys) (key : List ℕ) (place : Place) → IsLiveAt live key place ⊎ (IsLiveAt live key place → ⊥)
unfolding IsLiveAt
live_or live key place = by_test (is_some (finite.get live key)) refl
  where
    by_test : (b : Bool) → is_some (finite.get live key) ≡ b → (is_some (finite.get live key) ≡ true) ⊎ (is_some (finite.get live key) ≡ true → ⊥)
    by_test true is = inl is
    by_test false is = inr (λ live_is. absurd (let wrong : false ≡ true = sym is ∙ live_is in cc))

-- where a key is live, marking it changes nothing
pub marked_already : (live : LiveKeys) (key : List ℕ) (here : Place) → IsLiveAt live key here → Marks (λ k. k ≡ key) live live
marked_already live key here is other there = (λ was. inl was, λ one. by_case one)
  where
    by_case : IsLiveAt live other there ⊎ (other ≡ key) → IsLiveAt live other there
    by_case (inl was) = was
    by_case (inr same) = live_same live key other here there same is

-- ---- one key after the other

-- These keys were made live, and the fresh ones are listed.
pub record AreMarked (keys fresh : List (List ℕ)) (old new : LiveKeys) : Type 0 where
  pub marks : Marks (Contains keys) old new
  pub fresh_are : AreFresh keys old fresh

-- A key was listed that was not live, or none.
abbrev pub AddsFresh : LiveKeys → List ℕ → List (List ℕ) → List (List ℕ) → Type 0
AddsFresh live key fresh after = (place : Place) → (after ≡ fresh) ⊎ ((IsLiveAt live key place → ⊥) × (after ≡ fresh ++ key ∷ []))

-- It was live, or it was listed.
abbrev pub TellsFresh : LiveKeys → List ℕ → List (List ℕ) → List (List ℕ) → Type 0
TellsFresh live key fresh after =
    (place : Place) → (IsLiveAt live key place × (after ≡ fresh)) ⊎ ((IsLiveAt live key place → ⊥) × (after ≡ fresh ++ key ∷ []))

pub none_marked : (keys fresh : List (List ℕ)) (live : LiveKeys) → keys ≡ [] → fresh ≡ [] → AreMarked keys fresh live live
none_marked keys fresh live none empty = record {
  marks = subst (λ (ks : List (List ℕ)). Marks (Contains ks) live live) (sym none) (marks_none (Contains []) live (λ key is. contains_none key is));
  fresh_are = λ key place. (
    λ is. absurd (contains_none key (subst (λ (ks : List (List ℕ)). Contains ks key) empty is)),
    λ is. absurd (contains_none key (subst (λ (ks : List (List ℕ)). Contains ks key) none is.0)),
  );
}

module _ (keys fresh after : List (List ℕ)) (key : List ℕ) (old mid : LiveKeys) (are : AreMarked keys fresh old mid) where
  -- which ones are fresh, with one key more
  fresh_turn : TellsFresh mid key fresh after → AreFresh (keys ++ key ∷ []) old after
  fresh_turn tells other place = by_case (tells place)
    where
      by_case : (IsLiveAt mid key place × (after ≡ fresh)) ⊎ ((IsLiveAt mid key place → ⊥) × (after ≡ fresh ++ key ∷ []))
          → Contains after other ↔ (Contains (keys ++ key ∷ []) other × (IsLiveAt old other place → ⊥))
      by_case (inl was) = (
        λ is.
            let before = (are.fresh_are other place).0 (subst (λ (ks : List (List ℕ)). Contains ks other) was.1 is) in
            ((contains_more keys key other).0 (inl before.0), before.1),
        λ is. subst (λ (ks : List (List ℕ)). Contains ks other) (sym was.1) (back ((contains_more keys key other).1 is.0) is.1),
      )
        where
          marked : IsLiveAt old key place ⊎ Contains keys key → other ≡ key → (IsLiveAt old other place → ⊥) → Contains fresh other
          marked (inl earlier) same not_live = absurd (not_live (live_same old key other place place same earlier))
          marked (inr there) same not_live = (are.fresh_are other place).1 (subst (λ (k : List ℕ). Contains keys k) (sym same) there, not_live)

          back : Contains keys other ⊎ (other ≡ key) → (IsLiveAt old other place → ⊥) → Contains fresh other
          back (inl there) not_live = (are.fresh_are other place).1 (there, not_live)
          back (inr same) not_live = marked ((are.marks key place).0 was.0) same not_live
      by_case (inr new) = (
        λ is. to ((contains_more fresh key other).1 (subst (λ (ks : List (List ℕ)). Contains ks other) new.1 is)),
        λ is. subst (λ (ks : List (List ℕ)). Contains ks other) (sym new.1) ((contains_more fresh key other).0 (back ((contains_more keys key other).1 is.0) is.1)),
      )
        where
          to : Contains fresh other ⊎ (other ≡ key) → Contains (keys ++ key ∷ []) other × (IsLiveAt old other place → ⊥)
          to (inl there) = let before = (are.fresh_are other place).0 there in ((contains_more keys key other).0 (inl before.0), before.1)
          to (inr same) = (
            (contains_more keys key other).0 (inr same),
            λ earlier. new.0 ((are.marks key place).1 (inl (live_same old other key place place (sym same) earlier))),
          )

          back : Contains keys other ⊎ (other ≡ key) → (IsLiveAt old other place → ⊥) → Contains fresh other ⊎ (other ≡ key)
          back (inl there) not_live = inl ((are.fresh_are other place).1 (there, not_live))
          back (inr same) not_live = inr same

  -- at each moment: each key that is live was live, or is fresh
  some_marked : HasMarked fresh old mid
  some_marked = record {
    stays = λ other place was. (are.marks other place).1 (inl was);
    just = λ other place is. by_case other place ((are.marks other place).0 is) (live_or old other place);
    apart = λ other place there was. ((are.fresh_are other place).0 there).1 was;
  }
    where
      by_case : (other : List ℕ) (place : Place) → IsLiveAt old other place ⊎ Contains keys other → IsLiveAt old other place ⊎ (IsLiveAt old other place → ⊥)
          → IsLiveAt old other place ⊎ Contains fresh other
      by_case other place (inl was) either = inl was
      by_case other place (inr there) (inl was) = inl was
      by_case other place (inr there) (inr not_live) = inr ((are.fresh_are other place).1 (there, not_live))

  -- and where one more may be listed that was not made live
  pub some_turn : AddsFresh mid key fresh after → HasMarked after old mid
  some_turn adds = record {
    stays = some_marked.stays;
    just = λ other place is. more other place (adds place) (some_marked.just other place is);
    apart = λ other place there was. apart other place (adds place) there was;
  }
    where
      more : (other : List ℕ) (place : Place) → (after ≡ fresh) ⊎ ((IsLiveAt mid key place → ⊥) × (after ≡ fresh ++ key ∷ [])) → IsLiveAt old other place ⊎ Contains fresh other
          → IsLiveAt old other place ⊎ Contains after other
      more other place which (inl was) = inl was
      more other place (inl same) (inr there) = inr (subst (λ (ks : List (List ℕ)). Contains ks other) (sym same) there)
      more other place (inr new) (inr there) = inr (subst (λ (ks : List (List ℕ)). Contains ks other) (sym new.1) (Contains-append_left fresh (key ∷ []) other there))

      apart : (other : List ℕ) (place : Place) → (after ≡ fresh) ⊎ ((IsLiveAt mid key place → ⊥) × (after ≡ fresh ++ key ∷ [])) → Contains after other → IsLiveAt old other place
          → ⊥
      apart other place (inl same) there was = some_marked.apart other place (subst (λ (ks : List (List ℕ)). Contains ks other) same there) was
      apart other place (inr new) there was = by_case ((contains_more fresh key other).1 (subst (λ (ks : List (List ℕ)). Contains ks other) new.1 there))
        where
          by_case : Contains fresh other ⊎ (other ≡ key) → ⊥
          by_case (inl earlier) = some_marked.apart other place earlier was
          by_case (inr same) = new.0 ((are.marks key place).1 (inl (live_same old other key place place (sym same) was)))

-- the loop's turn
pub marked_turn : (keys fresh after : List (List ℕ)) (i : ℕ) (old mid new : LiveKeys) → i < length keys → AreMarked (take i keys) fresh old mid
    → Marks (λ k. k ≡ get_or keys i []) mid new
    → TellsFresh mid (get_or keys i []) fresh after → AreMarked (take (i + 1) keys) after old new
marked_turn keys fresh after i old mid new within are marks tells = record {
  marks = keys_turn keys i old mid new within are.marks marks;
  fresh_are = subst (λ (ks : List (List ℕ)). AreFresh ks old after) (sym (take_more keys i [] within)) (fresh_turn (take i keys) fresh after (get_or keys i []) old mid are tells);
}

-- and its end
pub marked_whole : (keys fresh : List (List ℕ)) (i : ℕ) (old new : LiveKeys) → length keys ≤ i → AreMarked (take i keys) fresh old new → AreMarked keys fresh old new
marked_whole keys fresh i old new past are = subst (λ (ks : List (List ℕ)). AreMarked ks fresh old new) (take_all i keys past) are

pub marked_some : (keys fresh : List (List ℕ)) (old new : LiveKeys) → AreMarked keys fresh old new → HasMarked fresh old new
marked_some keys fresh old new are = some_marked keys fresh fresh [] old new are

-- ---- marks that are taken away

pub none_unmarked : (keys : List (List ℕ)) (live : LiveKeys) → keys ≡ [] → Unmarks keys live live
none_unmarked keys live none key place = (λ is. (is, λ there. contains_none key (subst (λ (ks : List (List ℕ)). Contains ks key) none there)), λ is. is.0)

pub unmarked_turn : (keys : List (List ℕ)) (i : ℕ) (old mid new : LiveKeys) → i < length keys → Unmarks (take i keys) old mid
    → ((key : List ℕ) (place : Place) → IsLiveAt new key place ↔ (IsLiveAt mid key place × (key ≡ get_or keys i [] → ⊥))) → Unmarks (take (i + 1) keys) old new
unmarked_turn keys i old mid new within first second = subst (λ (ks : List (List ℕ)). Unmarks ks old new) (sym (take_more keys i [] within)) both
  where
    both : Unmarks (take i keys ++ get_or keys i [] ∷ []) old new
    both key place = (
      λ is.
          let mid_is = (second key place).0 is in
          let old_is = (first key place).0 mid_is.0 in
          (old_is.0, λ there. either old_is.1 mid_is.1 ((contains_more (take i keys) (get_or keys i []) key).1 there)),
      λ is. (second key place).1 (
        (first key place).1 (is.0, λ there. is.1 ((contains_more (take i keys) (get_or keys i []) key).0 (inl there))),
        λ same. is.1
            ((contains_more (take i keys) (get_or keys i []) key).0 (inr same)),
      ),
    )
      where
        either : (Contains (take i keys) key → ⊥) → (key ≡ get_or keys i [] → ⊥) → Contains (take i keys) key ⊎ (key ≡ get_or keys i []) → ⊥
        either one other (inl there) = one there
        either one other (inr same) = other same

pub unmarked_whole : (keys : List (List ℕ)) (i : ℕ) (old new : LiveKeys) → length keys ≤ i → Unmarks (take i keys) old new → Unmarks keys old new
unmarked_whole keys i old new past unmarks = subst (λ (ks : List (List ℕ)). Unmarks ks old new) (take_all i keys past) unmarks

-- Once the fresh ones are unmarked each key is as live as before.
pub unmarked_again : (fresh : List (List ℕ)) (old mid new : LiveKeys) → HasMarked fresh old mid → Unmarks fresh mid new → IsAsLive old new
unmarked_again fresh old mid new has unmarks key place = (
  λ is. let mid_is = (unmarks key place).0 is in by_case (has.just key place mid_is.0) mid_is.1,
  λ was. (unmarks key place).1 (has.stays key place was, λ there. has.apart key place there was),
)
  where
    by_case : IsLiveAt old key place ⊎ Contains fresh key → (Contains fresh key → ⊥) → IsLiveAt old key place
    by_case (inl was) others = was
    by_case (inr there) others = absurd (others there)

pub unmarked_fresh : (keys fresh : List (List ℕ)) (old mid new : LiveKeys) → Marks (Contains keys) old mid → AreFresh keys old fresh → Unmarks fresh mid new → IsAsLive old new
unmarked_fresh keys fresh old mid new marks are unmarks = unmarked_again fresh old mid new (marked_some keys fresh old mid (record { marks = marks; fresh_are = are })) unmarks

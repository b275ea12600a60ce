-- From what the steps tell to what a turn is.
use Rattle.std.proofs.Common.{◌≡◌, ℕ, ◌-◌, List, [], ◌∷◌, ◌++◌, length, refl, sym, ap, ◌∙◌, subst, Some, ◌≤◌, ◌⊎◌, ⊎_elim, Bool, true, false, nat_le, leb-true, leb-false, if◌then◌else◌, arith, append-nil, length-append}
use Rattle.atomic_table.specs.Table.{rest}
use Rattle.turn_lock.specs.declared.history.Turn.{Turn}
use Rattle.turn_lock.specs.declared.history.Home.{Home}
use Rattle.turn_lock.specs.declared.history.Stage.TheVariants.{InTurn}
use Rattle.turn_lock.specs.declared.history.View.{View}
use Rattle.turn_lock.specs.declared.lock.TheConstants.{MOST_PASSES}
use Rattle.turn_lock.specs.History.{turn_of, turns_by, times, Begins}
use Rattle.turn_lock.specs.Rule.{view_at, nothing, known, Follows}
use Rattle.turn_lock.proofs.Histories.{follows_all}
use Rattle.turn_lock.specs.Plays.{Seated, ticket_of, in_turn, Posts, posted_with, Gives, given_with, new_number, Meets, left, both, longer}
use Rattle.turn_lock.specs.Lock.{TakesTurn, HasTurn, SplitsNone, Joins, own_of, resting, resting_at, with_second}

module _ {C : Type 0} where
  pub posted_is : (by count : ℕ) (others : List ℕ) (left : Home C) (me w : Seated C) → me.0.numbers ≡ by ∷ others → me.1 ≡ (0, Some left) ∷ [] → Posts me count w
      → w ≡ (view_at me.0.opening (me.0.seen ++ turn_of by left.value ∷ []) nothing me.0.numbers (InTurn (ticket_of me.0.stage) left) me.0.given, (0, Some left) ∷ [])
  posted_is by count others left me w numbers out p = p ∙ (λ i. (posted_with (numbers i) (out i) me.0, out i))

  pub given_is : (by count : ℕ) (others : List ℕ) (left : Home C) (me w : Seated C) → me.0.numbers ≡ by ∷ others → me.1 ≡ (0, Some left) ∷ [] → Gives me count w
      → (w ≡ (view_at me.0.opening me.0.seen nothing (by ∷ (left.given - 1) ∷ others) (InTurn (ticket_of me.0.stage) left) left.given, (0, Some left) ∷ [])) × (turns_by
      (left.given - 1) me.0.seen ≡ 0)
  given_is by count others left me w numbers out p = (p.0 ∙ (λ i. (given_with (numbers i) (out i) me.0, out i)), sym (ap (λ l. turns_by (new_number l) me.0.seen) out) ∙ p.1)

abbrev pub rest_of : List ℕ → List ℕ
rest_of [] = []
rest_of (x ∷ xs) = xs

pub cons_of : (xs : List ℕ) → 1 ≤ length xs → xs ≡ own_of xs ∷ rest_of xs
cons_of [] l = absurd (omega arith)
cons_of (x ∷ xs) l = refl

module _ {C : Type 0} (makes : ℕ → C → C → Type 0) where
  pub in_turn_of : (v : View C) (home : Home C) (w : Seated C) → 1 ≤ length v.numbers → TakesTurn makes v home w → HasTurn (own_of v.numbers) home w
  in_turn_of v home w some_number t = record {
    ticket = t.ticket;
    others = rest_of v.numbers;
    numbers_are = ap (λ (x : Seated C). x.0.numbers) t.is ∙ cons_of v.numbers some_number;
    stage_is = ap (λ (x : Seated C). x.0.stage) t.is;
    out = ap (λ (x : Seated C). x.1) t.is;
  }

  pub splits_none : (v : View C) (home : Home C) (w1 w2 : Seated C) → MOST_PASSES ≤ home.given → TakesTurn makes v home w1 → w2 ≡ resting w1.0 w1.0.seen w1.0.numbers
      → (lines : C → ℕ) (count : ℕ) → count ≡ lines home.value → SplitsNone makes lines v count w2
  splits_none v home w1 w2 many t is lines count counted = record {
    home = home;
    mid = w1;
    took = t;
    none_left = subst (λ (x : Seated C). MOST_PASSES ≤ x.0.given) (sym (is ∙ ap (λ (x : Seated C). resting x.0 x.0.seen x.0.numbers) t.is)) many;
    count_is = counted;
    is = is ∙ ap (λ (x : Seated C). resting x.0 x.0.seen x.0.numbers) t.is;
  }

  -- the numbers, once a number was given out
  pub second_there : (v w1 w2 : Seated C) (home : Home C) (n g : ℕ) → 1 ≤ length v.0.numbers → TakesTurn makes v.0 home w1
      → w2 ≡ resting_at w1.0 w1.0.seen (with_second w1.0.numbers n) g
      → w2.0.numbers ≡ own_of v.0.numbers ∷ n ∷ rest_of v.0.numbers
  second_there v w1 w2 home n g some_number t number =
      ap (λ (x : Seated C). x.0.numbers) number ∙ ap (λ (x : Seated C). with_second x.0.numbers n) t.is ∙ ap (λ (ns : List ℕ). with_second ns n) (cons_of v.0.numbers some_number)

module _ {C : Type 0} where
  -- after a join and a look
  pub meets_of : (v u : View C) (m w : Seated C) → m ≡ (both v u, []) → Meets m 0 w → Joins v u w
  meets_of v u m w is meets =
      let whole : w ≡ (both v u, []) = meets.0 ∙ is in
      let either = subst (λ (x : Seated C). Follows x.0.beside.numbers x.0.beside.seen x.0.seen ⊎ Begins x.0.seen x.0.beside.seen) is meets.1 in
      let b : Follows v.numbers v.seen (longer v.seen u.seen) × Follows u.numbers u.seen (longer v.seen u.seen) = longest v u (nat_le (length v.seen)
      (length u.seen)) refl either in record {
        is = whole;
        first = subst (λ (x : Seated C). Follows v.numbers v.seen x.0.seen) (sym whole) b.0;
        second = subst (λ (x : Seated C). Follows u.numbers u.seen x.0.seen) (sym whole) b.1;
        few = subst (λ (x : Seated C). length x.0.numbers ≤ MOST_PASSES) (sym meets.0) meets.2;
        once = λ x. subst (λ (y : Seated C). times x y.0.numbers ≤ 1) (sym meets.0) (meets.3 x);
      }
    where
      whole_of : (xs ys rest : List (Turn C)) → xs ≡ ys ++ rest → length xs ≤ length ys → xs ≡ ys
      whole_of xs ys [] e l = e ∙ append-nil ys
      whole_of xs ys (z ∷ rest) e l = let k = ap length e in absurd (omega (arith, length-append ys (z ∷ rest)))

      same : (numbers : List ℕ) (xs ys : List (Turn C)) → Begins ys xs → length xs ≤ length ys → Follows numbers xs ys
      same numbers xs ys b l = subst (Follows numbers xs) (whole_of xs ys b.0 b.1 l) (follows_all numbers xs)

      longest : (v u : View C) (b : Bool) → nat_le (length v.seen) (length u.seen) ≡ b
          → Follows (if b then known v.seen v.numbers else known u.seen u.numbers).numbers (if b then known v.seen v.numbers else known u.seen u.numbers).seen
          (if b then u.seen else v.seen)
          ⊎ Begins (if b then u.seen else v.seen) (if b then known v.seen v.numbers else known u.seen u.numbers).seen
          → Follows v.numbers v.seen (if b then u.seen else v.seen) × Follows u.numbers u.seen (if b then u.seen else v.seen)
      longest v u true is e = let l = leb-true (length v.seen) (length u.seen) is in (⊎_elim (λ k. k) (λ k. same v.numbers v.seen u.seen k l) e, follows_all u.numbers u.seen)
      longest v u false is e = let l = leb-false (length v.seen) (length u.seen) is in (
        follows_all v.numbers v.seen,
        ⊎_elim (λ k. k) (λ k. same u.numbers u.seen v.seen k
            (omega arith)) e,
      )

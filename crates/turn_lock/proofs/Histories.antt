-- Facts about turns that were made.
use Rattle.std.proofs.Common.{◌≡◌, ◌⊎◌, ℕ, ◌+◌, ◌≤◌, List, [], ◌∷◌, ◌++◌, length, refl, sym, ap, ◌∙◌, inl, inr, arith, append_assoc, append-nil, Bool, true, false, nat_le, leb-true, leb-false, if◌then◌else◌, lt_of_not-le}
use mathlib.Core.Logic.{dite}
use native.Mathlib.Decide.{dec_le}
use Rattle.turn_lock.specs.declared.history.Turn.{Turn}
use Rattle.turn_lock.specs.History.{last_of, IsHistory, turns_by, times, Begins}
use Rattle.turn_lock.specs.declared.history.Known.{Known}
use Rattle.turn_lock.specs.declared.history.View.{View}
use Rattle.turn_lock.specs.Rule.{Follows, known}
use Rattle.turn_lock.specs.Plays.{longer, shorter}
use Rattle.turn_lock.proofs.Totals.{times_append}

abbrev tail_of : {A : Type 0} → List A → List A
tail_of [] = []
tail_of (x ∷ xs) = xs

abbrev head_or : {A : Type 0} → A → List A → A
head_or d [] = d
head_or d (x ∷ xs) = x

module _ {C : Type 0} where
  pub last_snoc : (o : C) (xs : List (Turn C)) (e : Turn C) → last_of o (xs ++ e ∷ []) ≡ e.value
  last_snoc o [] e = refl
  last_snoc o (x ∷ xs) e = last_snoc x.value xs e

  pub history_snoc : (makes : ℕ → C → C → Type 0) (o : C) (xs : List (Turn C)) (e : Turn C) → IsHistory makes o xs → makes e.by (last_of o xs) e.value
      → IsHistory makes o (xs ++ e ∷ [])
  history_snoc makes o [] e h m = (m, tt)
  history_snoc makes o (x ∷ xs) e h m = (h.0, history_snoc makes x.value xs e h.1 m)

  pub turns_append : (x : ℕ) (xs ys : List (Turn C)) → turns_by x (xs ++ ys) ≡ turns_by x xs + turns_by x ys
  turns_append x [] ys = omega arith
  turns_append x (y ∷ xs) ys = let h = turns_append x xs ys in omega arith

  pub follows_all : (numbers : List ℕ) (xs : List (Turn C)) → Follows numbers xs xs
  follows_all numbers xs = ([], sym (append-nil xs), λ x some. refl)

  pub follows_append : (numbers : List ℕ) (xs ys zs : List (Turn C)) → ((x : ℕ) → 1 ≤ times x numbers → turns_by x zs ≡ 0) → Follows numbers xs ys → Follows numbers xs (ys ++ zs)
  follows_append numbers xs ys zs none f = (
    f.0 ++ zs,
    ap (λ l. l ++ zs) f.1 ∙ append_assoc xs f.0 zs,
    λ x some. let a = f.2 x some in let b = none x some in
        omega (arith, turns_append x f.0 zs),
  )

  -- of two beginnings of one list the shorter one begins the longer one
  pub shorter_begins : (xs ys r q : List (Turn C)) → xs ++ r ≡ ys ++ q → length xs ≤ length ys → (m : List (Turn C)) × (ys ≡ xs ++ m) × (r ≡ m ++ q)
  shorter_begins [] ys r q e l = (ys, refl, e)
  shorter_begins (x ∷ xs) [] r q e l = absurd (omega arith)
  shorter_begins (x ∷ xs) (y ∷ ys) r q e l = let t = shorter_begins xs ys r q (ap tail_of e) (omega arith) in let h : y ≡ x = sym (ap (head_or x) e) in
      (t.0, (λ i. h i ∷ t.1 i), t.2)

  follows_when : (n1 n2 : List ℕ) (xs ys log : List (Turn C)) → Follows n1 xs log → Follows n2 ys log → (b : Bool) → nat_le (length xs) (length ys) ≡ b
      → Follows (n1 ++ n2) (if b then ys else xs) log
  follows_when n1 n2 xs ys log f g true is =
      let m = shorter_begins xs ys f.0 g.0 (sym f.1 ∙ g.1) (leb-true (length xs) (length ys) is) in (
        g.0,
        g.1,
        λ x some_x. dite (dec_le 1 (times x n1))
            (λ one. let a = f.2 x one in let t = turns_append x m.0 g.0 in let e = ap (turns_by x) m.2 in omega arith)
            (λ no. g.2 x (let t = times_append x n1 n2 in let l = lt_of_not-le no in omega arith)),
      )
  follows_when n1 n2 xs ys log f g false is =
      let l = leb-false (length xs) (length ys) is in
      let m = shorter_begins ys xs g.0 f.0 (sym g.1 ∙ f.1) (omega arith) in (
        f.0,
        f.1,
        λ x some_x. dite (dec_le 1 (times x n2))
            (λ one. let a = g.2 x one in let t = turns_append x m.0 f.0 in let e = ap (turns_by x) m.2 in omega arith)
            (λ no. f.2 x (let t = times_append x n1 n2 in let l = lt_of_not-le no in omega arith)),
      )

  pub follows_both : (n1 n2 : List ℕ) (xs ys log : List (Turn C)) → Follows n1 xs log → Follows n2 ys log → Follows (n1 ++ n2) (longer xs ys) log
  follows_both n1 n2 xs ys log f g = follows_when n1 n2 xs ys log f g (nat_le (length xs) (length ys)) refl

  follows_if : (b : Bool) (v w : Known C) (log : List (Turn C)) → Follows v.numbers v.seen log → Follows w.numbers w.seen log
      → Follows (if b then v else w).numbers (if b then v else w).seen log
  follows_if true v w log f g = f
  follows_if false v w log f g = g

  pub follows_shorter : (v w : View C) (log : List (Turn C)) → Follows v.numbers v.seen log → Follows w.numbers w.seen log → Follows (shorter v w).numbers (shorter v w).seen log
  follows_shorter v w log f g = follows_if (nat_le (length v.seen) (length w.seen)) (known v.seen v.numbers) (known w.seen w.numbers) log f g

  -- of two beginnings of one history one begins the other
  pub comparable : (numbers : List ℕ) (xs ys log : List (Turn C)) → Follows numbers xs log → Begins ys log → Follows numbers xs ys ⊎ Begins ys xs
  comparable numbers xs ys log f g = dite (dec_le (length xs) (length ys))
      (λ l. let m = shorter_begins xs ys f.0 g.0 (sym f.1 ∙ g.1) l in
      inl (m.0, m.1, λ x one. let a = f.2 x one in let t = turns_append x m.0 g.0 in let e = ap (turns_by x) m.2 in omega arith))
      (λ no. let l = lt_of_not-le no in let m = shorter_begins ys xs g.0 f.0 (sym g.1 ∙ f.1) (omega arith) in inr (m.0, m.1))

-- What a writer of the standard library tells of its bytes, over several writes.
use Rattle.std.proofs.Common.{◌≡◌, List, ℕ, ◌+◌, ◌-◌, ◌++◌, length, take, drop, Option, Some, None, ◌∙◌, ap, sym, subst, append_assoc}
use Rattle.std.proofs.Math.Seq.{take-add}
use Rattle.std.proofs.lemmas.List.{take_rest}
use Rattle.std.specs.Io.KnownBytes.{Keeps, Appends}

pub appends_kept : (a b c : Option (List ℕ)) (bytes : List ℕ) → Appends a b bytes → Keeps b c → Appends a c bytes
appends_kept None b c bytes first second = tt
appends_kept (Some xs) None c bytes first second = absurd first
appends_kept (Some xs) (Some ys) None bytes first second = absurd second
appends_kept (Some xs) (Some ys) (Some zs) bytes first second = second ∙ first

pub appends_on : (a b c : Option (List ℕ)) (one two : List ℕ) → Appends a b one → Appends b c two → Appends a c (one ++ two)
appends_on None b c one two first second = tt
appends_on (Some xs) None c one two first second = absurd first
appends_on (Some xs) (Some ys) None one two first second = absurd second
appends_on (Some xs) (Some ys) (Some zs) one two first second = second ∙ ap (λ (l : List ℕ). l ++ two) first ∙ append_assoc xs one two

-- one write more, of what was left of the piece
pub more_written : (a b c : Option (List ℕ)) (xs : List ℕ) (done count now : ℕ) → now ≡ done + count → Appends a b (take done xs) →
    Appends b c (take count (take (length xs - done) (drop done xs)))
    → Appends a c (take now xs)
more_written a b c xs done count now is first second =
    let parts : take done xs ++ take count (take (length xs - done) (drop done xs)) ≡ take now xs =
    ap (λ (l : List ℕ). take done xs ++ take count l) (take_rest xs done) ∙ sym (take-add done count xs) ∙ ap (λ (k : ℕ). take k xs) (sym is) in
    subst (Appends a c) parts (appends_on a b c _ _ first second)

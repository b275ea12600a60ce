use Rattle.std.proofs.Common.{◌≡◌, ℕ, ◌+◌, List, [], ◌∷◌, map, ap, sym, subst, ◌∙◌, arith}
use Rattle.std.specs.Prelude.{sum_by}
use Rattle.std.proofs.lemmas.List.Sums.{sum_by-cons}
use Rattle.store_model.specs.Unique.{bytes_in}
use Rattle.container_meta.proofs.KeyEntries.{entries_seen}
use Rattle.read_steps.proofs.sizes.Sizes.bytes.Goals as goal

abbrev sum_of : List ℕ → ℕ
sum_of ns = sum_by (λ n. n) ns

from_none : (sum all : ℕ) → sum ≡ all → 0 + sum ≡ all
from_none sum all h = omega (arith, h)

pub loop-size-init : goal.loop-size-init
loop-size-init c =
    from_none (sum_of c.into_iter-size-iterator.result) (bytes_in c.args.self.now)
    (ap sum_of (c.into_iter-size-iterator.ensures.into_iter_gives ∙ c.values-size-items.ensures.rest
    ∙ ap (map (λ e. e.1)) (sym (entries_seen c.self.inside.keys.entries c.values-size-items.ensures.ordered)))
    ∙ ap bytes_in c.self.view_is)

one_more : (bytes more one all : ℕ) (left rest : List ℕ) → more ≡ bytes + one → left ≡ one ∷ rest → bytes + sum_of left ≡ all → more + sum_of rest ≡ all
one_more bytes more one all left rest added first h =
    let whole : bytes + sum_of (one ∷ rest) ≡ all = subst (λ (ns : List ℕ). bytes + sum_of ns ≡ all) first h in
    omega (arith, added, whole, sum_by-cons (λ n. n) one rest)

none_left : (bytes all : ℕ) (left : List ℕ) → left ≡ [] → bytes + sum_of left ≡ all → bytes ≡ all
none_left bytes all left none h =
    let whole : bytes + sum_of [] ≡ all = subst (λ (ns : List ℕ). bytes + sum_of ns ≡ all) none h in
    omega (arith, whole)

pub loop-size-preserved : goal.loop-size-preserved
loop-size-preserved c =
    one_more c.loop-size.bytes c.in_ok-bytes.bytes c.in-Some.size.now (bytes_in c.args.self.now) c.loop-size.size-iterator c.next.new.self
    (c.in_ok-bytes.ensures.1 ∙ ap (λ (n : ℕ). c.loop-size.bytes + n) c.from.ensures) c.in-Some.ensures.steps c.loop-size.invariant

pub returns : goal.returns
returns c = none_left c.loop-size.bytes (bytes_in c.args.self.now) c.loop-size.size-iterator c.in-None.ensures.steps.0 c.loop-size.invariant

-- What is written of a half that is to count.
use Rattle.journal_cells.proofs.Prelude.{◌≡◌, ℕ, suc, ◌-◌, ◌*◌, ◌^◌, ◌<◌, ◌≤◌, List, [], ◌∷◌, length, map, Some, sym, ap, subst, ◌∙◌, arith, All-nil, All-cons, All-head, All-tail, length-zeros, CELL_BYTES, HALF_BYTES, MOST_NAME, MOST_NAMES, SelectorValue, IsName, selector_cell, NameMap, record_value, puts_of, last_of, FreshHalf, cells_of, IsFreshHalf}
use Rattle.std.specs.Prelude.{slice_get}
use Rattle.std.specs.List.{All}
use Rattle.std.proofs.lemmas.List.{length-map}
use Rattle.base_model.specs.Bytes.{zeros}
use Rattle.namespace.specs.declared.record.Record.{Record}
use Rattle.namespace.specs.Names.{AreNames}
use Rattle.namespace.proofs.Puts.{puts_named, length-puts}

-- the last of some
same_record : (a b : Record) → Some a ≡ Some b → a ≡ b
same_record a b is = cc

pub last_one : (n : ℕ) (rs : List Record) (last : Record) → Some last ≡ slice_get rs (length rs - 1) → last_of n (map record_value rs) ≡ last.sequence
last_one n [] last is = absurd cc
last_one n (r ∷ []) last is = ap (λ (x : Record). x.sequence) (sym (same_record last r is))
last_one n (r ∷ s ∷ rs) last is =
    let place : length (r ∷ s ∷ rs) - 1 ≡ suc (length (s ∷ rs) - 1) = omega arith in
    last_one r.sequence (s ∷ rs) last (is ∙ ap (λ (k : ℕ). slice_get (r ∷ s ∷ rs) k) place)

short_each : (puts : List Record) → All (λ r. IsName r.name) (map record_value puts) → All (λ r. length r.name.items ≤ MOST_NAME) puts
short_each [] named = All-nil _
short_each (p ∷ ps) named =
    All-cons (λ r. length r.name.items ≤ MOST_NAME) p ps (All-head (λ r. IsName r.name) (record_value p) (map record_value ps) named).not_long
    (short_each ps (All-tail (λ r. IsName r.name) (record_value p) (map record_value ps) named))

module _ (names : NameMap) (puts : List Record) (good : AreNames names) (is : map record_value puts ≡ puts_of names) where
  -- no name is longer than a record has room for
  pub short : All (λ r. length r.name.items ≤ MOST_NAME) puts
  short = short_each puts (subst (All (λ r. IsName r.name)) (sym is) (puts_named names good))

  pub count_is : length puts ≡ length (puts_of names)
  count_is = sym (length-map puts record_value) ∙ ap length is

  pub few : length puts ≤ MOST_NAMES
  few = omega (arith, count_is, length-puts names, good.few)

  pub half_of : (selector : SelectorValue) (new : FreshHalf) → new.count ≡ length puts → new.previous ≡ last_of 0 (map record_value puts) → new.blanks.items ≡ zeros HALF_BYTES
      → new.cells.items ≡ cells_of (map record_value puts) → length new.cells.items ≡ CELL_BYTES * length puts → new.selector.items ≡ selector_cell selector →
      length new.selector.items ≡ CELL_BYTES → new.next ≡ selector → selector.generation < 2 ^ 64
      → IsFreshHalf selector names new
  half_of selector new count previous blanks cells long selector_is whole next below = record {
    count = count ∙ count_is;
    few = omega (arith, count, few);
    previous = previous ∙ ap (last_of 0) is;
    blanks = blanks;
    cells = cells ∙ ap cells_of is;
    selector_is = selector_is;
    next_is = next;
    below = below;
    fits = record { blanks = ap length blanks ∙ length-zeros HALF_BYTES; cells = omega (arith, long, few); selector = whole };
  }

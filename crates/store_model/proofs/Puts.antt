-- The puts of the names that records leave: they follow each other, and leave the same names.
use Rattle.store_model.proofs.Prelude.{◌≡◌, ℕ, ◌^◌, ◌<◌, ◌≤◌, List, [], ◌∷◌, length, refl, subst, arith, RecordValue, Change, IsName, IsRecord, half_cells, NameMap, HasPlace, names_changed, names_with, names_after, last_of}
use Rattle.std.specs.FinMap as finite
use Rattle.std.specs.List.{All}
use Rattle.std.proofs.lemmas.List.Elements.{All-nil, All-cons, All-head, All-tail}
use Rattle.disk_format.specs.Cells.Change.{Put, Delete}
use Rattle.namespace.specs.Names.{AreNames, AreTaken}
use Rattle.namespace.specs.Numbers.{Rise, AreNumbered, AreInOrder}
use Rattle.namespace.specs.Numbers.{last_of as last_number}
use Rattle.namespace.specs.Puts.{puts_of}
use Rattle.namespace.proofs.Again.{IsOf, IsPutOf, each_put}
use Rattle.namespace.proofs.Kept.{no_names, with_put, without}
use Rattle.namespace.proofs.Numbered.{none_numbered, numbered_after}
use Rattle.namespace.proofs.Puts.{puts_moved, puts_in_order, puts_named, length-puts}
use Rattle.store_model.specs.Journal.{Follow}
use Rattle.store_model.proofs.Roots.{no_roots, roots_after}

-- ---- what records that follow each other leave

rise_of : (previous : ℕ) (names : NameMap) (rs : List RecordValue) → Follow previous names rs → Rise previous rs
rise_of previous names [] follow = tt
rise_of previous names (r ∷ rs) follow = (follow.1, rise_of r.sequence (names_with r names) rs follow.3)

last_is : (previous : ℕ) (rs : List RecordValue) → last_number previous rs ≡ last_of previous rs
last_is previous [] = refl
last_is previous (r ∷ rs) = last_is r.sequence rs

pub last_below : (previous : ℕ) (names : NameMap) (rs : List RecordValue) → previous < 2 ^ 64 → Follow previous names rs → last_of previous rs < 2 ^ 64
last_below previous names [] below follow = below
last_below previous names (r ∷ rs) below follow = last_below r.sequence (names_with r names) rs follow.0.sequence follow.3

names_changed_right : (sequence : ℕ) (name : List ℕ) (change : Change) (names : NameMap) → IsName name → HasPlace names name change → AreNames names →
    AreNames (names_changed sequence name change names)
names_changed_right sequence name (Put root) names named place good = with_put names name (record { sequence = sequence; root = root }) good named place
names_changed_right sequence name Delete names named place good = without names name good

names_right : (previous : ℕ) (names : NameMap) (rs : List RecordValue) → AreNames names → Follow previous names rs → AreNames (names_after rs names)
names_right previous names [] good follow = good
names_right previous names (r ∷ rs) good follow =
    names_right r.sequence (names_with r names) rs (names_changed_right r.sequence r.name r.change names follow.2.0 follow.2.1 good) follow.3

module _ (rs : List RecordValue) (follow : Follow 0 finite.empty rs) where
  abbrev left : NameMap
  left = names_after rs finite.empty

  good : AreNames left
  good = names_right 0 finite.empty rs (no_names finite.empty refl) follow

  numbered : AreNumbered left (last_of 0 rs)
  numbered = subst (AreNumbered left) (last_is 0 rs) (numbered_after rs finite.empty 0 none_numbered (rise_of 0 finite.empty rs follow))

  ordered : AreInOrder (puts_of left) left (last_of 0 rs)
  ordered = puts_in_order left (last_of 0 rs) good numbered

  change_right : (sequence : ℕ) (name : List ℕ) (change : Change) → IsOf left sequence name change → IsName name →
      IsRecord (record { sequence = sequence; name = name; change = change })
  change_right sequence name (Put root) of named = record {
    from_one = numbered.from_one name _ of;
    sequence = omega (arith, numbered.most name _ of, last_below 0 finite.empty rs (omega arith) follow);
    name = named;
    change = roots_after 0 finite.empty rs follow no_roots name _ of;
  }
  change_right sequence name Delete of named = absurd of

  all_right : (puts : List RecordValue) → All (IsPutOf left) puts → All (λ r. IsName r.name) puts → All IsRecord puts
  all_right [] of named = All-nil IsRecord
  all_right (p ∷ ps) of named =
      All-cons IsRecord p ps (change_right p.sequence p.name p.change (All-head (IsPutOf left) p ps of) (All-head (λ r. IsName r.name) p ps named))
      (all_right ps (All-tail (IsPutOf left) p ps of) (All-tail (λ r. IsName r.name) p ps named))

  follow_from : (previous : ℕ) (names : NameMap) (puts : List RecordValue) → Rise previous puts → AreTaken names puts → All IsRecord puts → Follow previous names puts
  follow_from previous names [] rise taken right = tt
  follow_from previous names (p ∷ ps) rise taken right = (
    All-head IsRecord p ps right,
    rise.0,
    taken.0,
    follow_from p.sequence (names_with p names) ps rise.1 taken.1 (All-tail IsRecord p ps right),
  )

  -- ---- and of the puts of the names

  pub puts_follow : Follow 0 finite.empty (puts_of left)
  puts_follow =
      follow_from 0 finite.empty (puts_of left) ordered.rise ordered.taken
      (all_right (puts_of left) (each_put left (puts_of left) (puts_moved left)) (puts_named left good))

  pub puts_leave : names_after (puts_of left) finite.empty ≡ left
  puts_leave = ordered.replay

  pub puts_last : last_of 0 (puts_of left) ≤ last_of 0 rs
  puts_last = omega (arith, ordered.most, last_is 0 (puts_of left))

  -- a cell is left after them
  pub puts_room : length (puts_of left) < half_cells
  puts_room = omega (arith, length-puts left, good.few)

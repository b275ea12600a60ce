-- What a change of a name makes of the last sequence number, of the names and of the files.
use Rattle.store_model.proofs.Prelude.{◌≡◌, ℕ, suc, ◌-◌, ◌^◌, ◌<◌, max, Bool, true, false, cond, List, Option, None, Some, refl, sym, ◌∙◌, ap, arith, subst, nat_cmp, eq_by_cmp, slice_cmp, nat_list_cmp_total, Change, IsChange, IsName, IsRecord, HeaderValue, Named, NameMap, names_changed, Files, Command, files_after, last_of, Store, names_of, last_sequence, root_of, IsFileOf, AreFilesOf, HoldsFor, appended, change_of, name_of, record_of, with_cell, with_change}
use Rattle.std.proofs.Math.Nat.{le-max_left, le-max_right, max-eq_right}
use Rattle.std.specs.FinMap as finite
use Rattle.store_model.specs.Files.{Put, Delete}
use Rattle.store_model.specs.Journal.{Follow}
use Rattle.store_model.proofs.Cells.{last_with_cell, names_with_cell}
use Rattle.store_model.proofs.Records.{last_of_push, names_after_push}

-- ---- the record

module _ (name : List ℕ) (change : Change) (store : Store) where
  -- it has a spelling
  pub record_right : IsName name → last_sequence store < 2 ^ 64 - 1 → IsChange change → IsRecord (record_of name change store)
  record_right named below right = record { from_one = omega arith; sequence = omega (arith, below); name = named; change = right }

  -- its sequence number is above those that were given out
  pub record_rises : last_of 0 store.records < (record_of name change store).sequence
  record_rises = omega (arith, le-max_right store.selector.last (last_of 0 store.records))

  -- after the others: the last sequence number is one more, and the names are those of before, with this change
  pub last_appended : last_sequence (appended name change store) ≡ suc (last_sequence store)
  last_appended =
      ap (max store.selector.last) (last_of_push 0 store.records (record_of name change store))
      ∙ max-eq_right (omega (arith, le-max_left store.selector.last (last_of 0 store.records)))

  pub names_appended : names_of (appended name change store) ≡ names_changed (suc (last_sequence store)) name change (names_of store)
  names_appended = names_after_push store.records (record_of name change store) finite.empty

module _ (name : List ℕ) (change : Change) (store : Store) (follow : Follow 0 finite.empty store.records) where
  -- the same where a cell was made for it
  pub last_changed : last_sequence (with_change name change store) ≡ suc (last_sequence store)
  last_changed = last_appended name change (with_cell store) ∙ ap suc (last_with_cell store follow)

  pub names_after_change : names_of (with_change name change store) ≡ names_changed (suc (last_sequence store)) name change (names_of store)
  names_after_change =
      names_appended name change (with_cell store)
      ∙ ap (λ (n : ℕ). names_changed (suc n) name change (names_of (with_cell store))) (last_with_cell store follow)
      ∙ ap (names_changed (suc (last_sequence store)) name change) (names_with_cell store follow)

-- ---- the files

-- what a command makes of the file of each name
abbrev file_by : Command → Option (List ℕ) → Option (List ℕ)
file_by (Put name bytes) file = Some bytes
file_by (Delete name) file = None

-- and of what the name has
abbrev named_by : ℕ → Command → Option Named → Option Named
named_by number (Put name bytes) named = Some (record { sequence = number; root = root_of bytes })
named_by number (Delete name) named = None

module _ (number : ℕ) (held : List (Option HeaderValue)) (image : List ℕ) where
  one_changed : (command : Command) (same : Bool) (named : Option Named) (file : Option (List ℕ)) → HoldsFor command held image
      → IsFileOf held image named file
      → IsFileOf held image (cond same (named_by number command named) named) (cond same (file_by command file) file)
  one_changed (Put name bytes) true named file holds is = (refl, holds)
  one_changed (Delete name) true named file holds is = tt
  one_changed command false named file holds is = is

name_found : (number : ℕ) (command : Command) (names : NameMap) (q : List ℕ)
    → finite.get (names_changed number (name_of command) (change_of command) names) q
    ≡ cond (eq_by_cmp (slice_cmp nat_cmp) q (name_of command)) (named_by number command (finite.get names q)) (finite.get names q)
name_found number (Put name bytes) names q = finite.get-insert nat_list_cmp_total names name (record { sequence = number; root = root_of bytes }) q
name_found number (Delete name) names q = finite.get-remove nat_list_cmp_total names name q

file_found : (command : Command) (files : Files) (q : List ℕ)
    → finite.get (files_after command files) q
    ≡ cond (eq_by_cmp (slice_cmp nat_cmp) q (name_of command)) (file_by command (finite.get files q)) (finite.get files q)
file_found (Put name bytes) files q = finite.get-insert nat_list_cmp_total files name bytes q
file_found (Delete name) files q = finite.get-remove nat_list_cmp_total files name q

-- The files after a command are those of the names after its change.
module _ (command : Command) (image : List ℕ) (store : Store) (files : Files) (holds : HoldsFor command store.held image) where
  abbrev after : Store
  after = appended (name_of command) (change_of command) store

  pub files_changed : AreFilesOf store.held (names_of store) image files → AreFilesOf store.held (names_of after) image (files_after command files)
  files_changed are q =
      let number = suc (last_sequence store) in
      let same : Bool = eq_by_cmp (slice_cmp nat_cmp) q (name_of command) in
      let found : finite.get (names_of after) q ≡ cond same (named_by number command (finite.get (names_of store) q)) (finite.get (names_of store) q) =
      ap (λ (names : NameMap). finite.get names q) (names_appended (name_of command) (change_of command) store)
      ∙ name_found number command (names_of store) q in
      subst (λ (o : Option Named). IsFileOf store.held image o (finite.get (files_after command files) q)) (sym found)
      (subst (λ (o : Option (List ℕ)). IsFileOf store.held image (cond same (named_by number command (finite.get (names_of store) q)) (finite.get (names_of store) q)) o)
      (sym (file_found command files q))
      (one_changed number store.held image command same (finite.get (names_of store) q) (finite.get files q) holds (are q)))

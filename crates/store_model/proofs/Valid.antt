-- What is so of a store still, once a container was sealed or a record was added.
use Rattle.store_model.proofs.Prelude.{◌≡◌, ℕ, suc, ◌<◌, ◌≤◌, List, [], ◌∷◌, ◌++◌, sym, ◌∙◌, subst, arith, length-append, Change, RecordValue, IsChange, IsRecord, Kind, Segment, HeaderValue, header_of, NameMap, HasPlace, names_with, names_after, last_of, last_id, free_slots, first_free, Store, IsValidFor, names_of, CanHold, with_sealed, record_of, with_cell, with_change}
use Rattle.std.specs.FinMap as finite
use Rattle.namespace.specs.Names.{IsTaken}
use Rattle.store_model.specs.Journal.{Follow}
use Rattle.store_model.specs.Steps.{CanChangeName}
use Rattle.store_model.proofs.Filled.{length-with_slot, free_less, headers_with, last_new, different_with}
use Rattle.store_model.proofs.Cells.{names_with_cell, last_with_cell, room_with_cell, valid_with_cell}
use Rattle.store_model.proofs.NameChanges.{record_right, record_rises}

-- ---- a record more

-- a record that is right after others
pub follow_push : (previous : ℕ) (names : NameMap) (rs : List RecordValue) (r : RecordValue) → Follow previous names rs → IsRecord r → last_of previous rs < r.sequence
    → IsTaken (names_after rs names) r → Follow previous names (rs ++ r ∷ [])
follow_push previous names [] r follow right rises taken = (right, rises, taken, tt)
follow_push previous names (s ∷ rs) r follow right rises taken = (follow.0, follow.1, follow.2, follow_push s.sequence (names_with s names) rs r follow.3 right rises taken)

-- a store with one record more
pub valid_change : (size : ℕ) (name : List ℕ) (change : Change) (store : Store) → IsValidFor size store → CanChangeName name change store → IsChange change →
    IsValidFor size (with_change name change store)
valid_change size name change store sound can right =
    let base : Store = with_cell store in
    let valid : IsValidFor size base = valid_with_cell store size sound can.rise in
    let place : HasPlace (names_of base) name change = subst (λ (n : NameMap). HasPlace n name change) (sym (names_with_cell store sound.follow)) can.place in
    record {
      count = valid.count;
      size_is = valid.size_is;
      selector_right = valid.selector_right;
      few = omega (arith, room_with_cell store sound.follow, length-append base.records (record_of name change base ∷ []));
      follow = follow_push 0 finite.empty base.records (record_of name change base) valid.follow
          (record_right name change base can.named (omega (arith, can.number, last_with_cell store sound.follow)) right) (record_rises name change base) (can.named, place);
      many = valid.many;
      headers = valid.headers;
      different = valid.different;
    }

-- ---- a container more

module _ {spare : ℕ} (id : ℕ) (kind : Kind) (segments : List Segment) (store : Store) (can : CanHold spare id kind segments store) where
  abbrev new_header : HeaderValue
  new_header = header_of id kind segments

  some : 1 ≤ free_slots store.held
  some = omega (arith, can.slot)

  -- its id is the last
  pub last_sealed : last_id (with_sealed id kind segments store).held ≡ id
  last_sealed = last_new new_header store.held some can.new_id

  -- one slot fewer is closed
  pub free_sealed : suc (free_slots (with_sealed id kind segments store).held) ≡ free_slots store.held
  free_sealed = free_less new_header store.held some

  pub valid_sealed : (size : ℕ) → IsValidFor size store → IsValidFor size (with_sealed id kind segments store)
  valid_sealed size sound = record {
    count = sound.count;
    size_is = sound.size_is;
    selector_right = sound.selector_right;
    few = sound.few;
    follow = sound.follow;
    many = length-with_slot (first_free store.held) new_header store.held ∙ sound.many;
    headers = headers_with (first_free store.held) new_header store.held sound.headers can.right;
    different = different_with (first_free store.held) new_header store.held sound.different can.new_id;
  }

-- ---- roots

-- A header beside what the tables have for its slot.
use Rattle.std.proofs.Common.{◌≡◌, ℕ, zero, suc, true, List, [], ◌∷◌, length, get_or, Option, None, Some, Ok, Err, refl, sym, ap, subst, ◌∙◌, eq-eqb}
use Rattle.std.specs.Prelude.{slice_get, option_map}
use Rattle.std.specs.Str.{bytes_eq}
use Rattle.std.proofs.lemmas.Bool.{eqb-true}
use Rattle.std.proofs.lemmas.Slice.Eq.{bytes_eq-Decides}
use Rattle.std.proofs.lemmas.Option.{slice_get-map}
use Rattle.base_model.specs.Checks.{passes}
use Rattle.base_model.proofs.Checks.{AllHold, checked_all, checked_ok}
use Rattle.container_meta.specs.declared.kind.Kind.{Kind}
use Rattle.container_meta.specs.declared.kind.Kind.TheVariants.{Leaf, Tree}
use Rattle.container_meta.specs.Format.{kind_byte}
use Rattle.container_meta.specs.Spelling.{HeaderValue, header_digest}
use Rattle.dd_disk.specs.View.{DiskView}
use Rattle.dd_disk.proofs.Shows.{shown_content}
use Rattle.disk_format.specs.declared.why.Why.{Why}
use Rattle.store_model.specs.Slots.{HoldsSlot, ids_of}
use Rattle.store_model.proofs.Once.{slot_once}
use Rattle.store_state.specs.declared.slot_table.SlotCount.{SlotCount}
use Rattle.store_state.specs.declared.slot_table.SlotTable.{SlotTable}
use Rattle.store_state.specs.Tables.{RepresentsSlots, count_of}
use Rattle.copy_forward.specs.Headers.{IsOtherHeader, IsTabled, header_checks}

same_kind : (a b : Kind) → kind_byte a ≡ kind_byte b → a ≡ b
same_kind Leaf Leaf same = refl
same_kind Leaf Tree same = absurd cc
same_kind Tree Leaf same = absurd cc
same_kind Tree Tree same = refl

same_count : (kind : Kind) (entries bytes : ℕ) (digest : List ℕ) (h : HeaderValue) → h.kind ≡ kind → length h.entries ≡ entries → h.data_length ≡ bytes → digest ≡ header_digest h
    → (let c : SlotCount = record { kind = kind; entries = entries; bytes = bytes; digest = digest } in c) ≡ count_of (Some h)
same_count kind entries bytes digest h same many long hashed = cc

-- the digest is compared by its bytes
same_bytes : (a b : List ℕ) → bytes_eq a b ≡ true → a ≡ b
same_bytes a b same = (bytes_eq-Decides a b).0 same

-- where nothing differs it is that of the tables
pub tabled_by : (t : SlotTable) (slot : ℕ) (c : SlotCount) (h : HeaderValue) → slice_get t.counts.items slot ≡ Some c
    → passes (header_checks (get_or t.ids.items slot 0) c h) ≡ Ok tt → IsTabled t slot h
tabled_by t slot c h there none =
    let all : AllHold (header_checks (get_or t.ids.items slot 0) c h) = (checked_ok (header_checks (get_or t.ids.items slot 0) c h) tt tt none).0 in
    record {
      id_is = sym (eqb-true h.id (get_or t.ids.items slot 0) all.0);
      count_is = there
          ∙ ap (λ (x : SlotCount). Some x) (same_count c.kind c.entries c.bytes c.digest h (same_kind h.kind c.kind (eqb-true (kind_byte h.kind) (kind_byte c.kind) all.1.0))
          (eqb-true (length h.entries) c.entries all.1.1.0) (eqb-true h.data_length c.bytes all.1.1.1.0) (same_bytes c.digest (header_digest h) all.1.1.1.1.0));
    }

-- and of the one of the tables nothing does
pub none_differs : (t : SlotTable) (slot : ℕ) (c : SlotCount) (h : HeaderValue) → slice_get t.counts.items slot ≡ Some c → IsTabled t slot h
    → passes (header_checks (get_or t.ids.items slot 0) c h) ≡ Ok tt
none_differs t slot c h there tabled =
    let id = get_or t.ids.items slot 0 in
    let same : count_of (Some h) ≡ c = some_is (sym tabled.count_is ∙ there) in
    subst (λ (x : SlotCount). passes (header_checks id x h) ≡ Ok tt) same
    (checked_all (header_checks id (count_of (Some h)) h) tt (
      eq-eqb h.id id (sym tabled.id_is),
      (
        eq-eqb (kind_byte h.kind) (kind_byte h.kind) refl,
        (eq-eqb (length h.entries) (length h.entries) refl, (eq-eqb h.data_length h.data_length refl, ((bytes_eq-Decides (header_digest h) (header_digest h)).1 refl, tt))),
      ),
    ))
  where
    some_is : (let o : Option SlotCount = Some (count_of (Some h)) in o) ≡ Some c → count_of (Some h) ≡ c
    some_is e = cc

pub one_differs : (t : SlotTable) (slot : ℕ) (c : SlotCount) (h k : HeaderValue) (why : Why) → slice_get t.counts.items slot ≡ Some c
    → (let found : Option HeaderValue = Some h in found) ≡ Some k → passes (header_checks (get_or t.ids.items slot 0) c h) ≡ Err why → IsTabled t slot k → ⊥
one_differs t slot c h k why there same differs tabled =
    let none : passes (header_checks (get_or t.ids.items slot 0) c h) ≡ Ok tt = none_differs t slot c h there (subst (IsTabled t slot) (header_is same) tabled) in
    cc
  where
    header_is : (let found : Option HeaderValue = Some h in found) ≡ Some k → k ≡ h
    header_is e = cc

-- ---- the header of a container that the table stands for

id_at : (held : List (Option HeaderValue)) (slot : ℕ) (h : HeaderValue) → slice_get held slot ≡ Some (Some h) → get_or (ids_of held) slot 0 ≡ h.id
id_at [] slot h there = absurd cc
id_at (None ∷ cs) zero h there = absurd cc
id_at (Some g ∷ cs) zero h there = let same : g ≡ h = cc in ap (λ (x : HeaderValue). x.id) same
id_at (None ∷ cs) (suc slot) h there = id_at cs slot h there
id_at (Some g ∷ cs) (suc slot) h there = id_at cs slot h there

pub held_tabled : (held : List (Option HeaderValue)) (t : SlotTable) (slot : ℕ) (h : HeaderValue) → RepresentsSlots held t → slice_get held slot ≡ Some (Some h) → IsTabled t slot h
held_tabled held t slot h slots there = record {
  id_is = ap (λ (ids : List ℕ). get_or ids slot 0) slots.ids_are ∙ id_at held slot h there;
  count_is = ap (λ (counts : List SlotCount). slice_get counts slot) slots.counts_are ∙ slice_get-map count_of held slot ∙ ap (option_map count_of) there;
}

-- over a disk that tells its content it is not read as another
pub never_other : (held : List (Option HeaderValue)) (t : SlotTable) (slot : ℕ) (h : HeaderValue) (image : List ℕ) (old new : DiskView) (why : Why) → RepresentsSlots held t
    → slice_get held slot ≡ Some (Some h) → HoldsSlot image slot (Some h) → old.content ≡ Some image → IsOtherHeader t old new slot why → ⊥
never_other held t slot h image old new why slots there holds content other =
    let read : HoldsSlot image slot (Some other.header) = shown_content old new (λ (i : List ℕ). HoldsSlot i slot (Some other.header)) image other.shown content in
    one_differs t slot other.count other.header h why other.there (slot_once slot (Some other.header) (Some h) image read holds) other.first (held_tabled held t slot h slots there)

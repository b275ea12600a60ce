use Rattle.recovery.proofs.Prelude.{Option, sym, subst, passed_on, IsHeader, Shows, weaker, Field, HoldsSlot, HoldsDamage, IsSlotDamage}
use Rattle.base_model.proofs.Checks.{not_true}
use Rattle.recovery.specs.Slots.{AreIdsOf, MayFollow}
use Rattle.recovery.proofs.Used.{found_by, ids_closed, ids_open}
use Rattle.std.proofs.Common.{ℕ, [], ◌∷◌, ◌++◌, ap, ◌∙◌, IfSome}
use Rattle.container_meta.specs.declared.entry.Header.{Header}
use Rattle.container_meta.specs.Spelling.{held_with, with_entries}
use Rattle.container_meta.proofs.Parts.{length-header_spelling}
use Rattle.base_model.specs.Bytes.{range}
use Rattle.disk_format.specs.Layout.{slot_at}
use Rattle.store_model.proofs.Once.{slot_once}
use Rattle.recovery.proofs.Reading.{damage_of, used_id, not_used}
use Rattle.recovery.proofs.slots.read_next.Goals as goal

pub returns-in_err-held-clause-refused : goal.returns-in_err-held-clause-refused
returns-in_err-held-clause-refused g c =
    passed_on c.from_residual.result _ c.in_err-held.field-0.0 c.from_residual.ensures.1
    (λ before are. damage_of _ before c.args.slot c.in_err-held.field-0.0 c.in_err-held.ensures.refused)

pub returns-then-not-branch-clause-only : goal.returns-then-not-branch-clause-only
returns-then-not-branch-clause-only g c = λ before are.
    let header : Header = c.in-Some.header in
    let view = g.D.Disk.view in
    let es = c.read_one.new.room.entries.items in
    let seen = subst (λ (o : Option Header). Shows (view c.args.disk.now) (view c.read_one.new.disk) (λ image. HoldsSlot image c.args.slot (held_with o es))) c.in-Some.is
    c.in_ok-held.ensures.shown in
    weaker _ _ (λ image sized here held holds may. not_used before held (with_entries header es) _ (slot_once c.args.slot held _ image holds here) may
    ((are header.id).1 (found_by _ (sym c.in_ok-insert.ensures.added ∙ c.if-not-branch.true)))) seen

pub returns-then-not-branch-clause-refused : goal.returns-then-not-branch-clause-refused
returns-then-not-branch-clause-refused g c = λ before are.
    let header : Header = c.in-Some.header in
    let view = g.D.Disk.view in
    let es = c.read_one.new.room.entries.items in
    let h = with_entries header es in
    let right : IsHeader h = subst (λ (o : Option Header). IfSome o (λ x. IsHeader (with_entries x es))) c.in-Some.is c.in_ok-held.ensures.right in
    let seen = subst (λ (o : Option Header). Shows (view c.args.disk.now) (view c.read_one.new.disk) (λ image. HoldsSlot image c.args.slot (held_with o es))) c.in-Some.is
    c.in_ok-held.ensures.shown in
    let used = (are header.id).1 (found_by _ (sym c.in_ok-insert.ensures.added ∙ c.if-not-branch.true)) in (
      c.slot_at.ensures,
      subst (HoldsDamage (Shows (view c.args.disk.now) (view c.read_one.new.disk)) (λ bytes. IsSlotDamage before bytes (Field 8 header.id))) (sym c.slot_at.ensures)
          (used_id _ before c.args.slot h right used (weaker _ _
          (λ image sized holds. ap (λ (n : ℕ). range (slot_at c.args.slot) n image) (length-header_spelling h right) ∙ holds.1)
          seen)),
    )

pub returns-else-not-branch-clause-follows : goal.returns-else-not-branch-clause-follows
returns-else-not-branch-clause-follows g c = λ before are.
    let header : Header = c.in-Some.header in
    let es = c.read_one.new.room.entries.items in
    let h = with_entries header es in
    let right : IsHeader h = subst (λ (o : Option Header). IfSome o (λ x. IsHeader (with_entries x es))) c.in-Some.is c.in_ok-held.ensures.right in
    let unused = (are header.id).0 (not_true _ (sym c.in_ok-insert.ensures.added ∙ c.if-not-branch.false)) in
    subst (λ (o : Option Header). MayFollow before (held_with o es) × AreIdsOf (before ++ held_with o es ∷ []) c.insert.new.self) (sym c.in-Some.is)
    ((right, unused), ids_open before h c.args.ids.now c.insert.new.self are c.in_ok-insert.ensures.updates)

pub returns-in_default-clause-follows : goal.returns-in_default-clause-follows
returns-in_default-clause-follows g c = λ before are.
    subst (λ (o : Option Header). MayFollow before (held_with o c.read_one.new.room.entries.items) × AreIdsOf (before ++ held_with o c.read_one.new.room.entries.items ∷ [])
    c.args.ids.now) (sym c.in_default.is)
    (tt, ids_closed before c.args.ids.now are)

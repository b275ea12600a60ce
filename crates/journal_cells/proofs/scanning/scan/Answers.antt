use Rattle.journal_cells.proofs.Prelude.{◌≡◌, ℕ, sym, ap, subst, Err, passed_on, Shows, weaker, IsRecordBreak, IsCellFault, IsScanned, IsTold, JournalValue, replay, IsWhole}
use Rattle.journal_cells.specs.Records.{half_in}
use Rattle.journal_cells.proofs.Outcomes.{failed_on}
use Rattle.journal_cells.proofs.Whole.{selector_fault, half_fault, scanned, only_one, fails_alone}
use Rattle.journal_cells.proofs.scanning.scan.Goals as goal

pub returns-in_err-selection-clause-cause : goal.returns-in_err-selection-clause-cause
returns-in_err-selection-clause-cause g c =
    passed_on c.from_residual.result _ c.in_err-selection.field-0.0 c.from_residual.ensures.1 (selector_fault _ _ c.in_err-selection.field-0.0 c.in_err-selection.ensures.cause)

pub returns-in_err-left-clause-only : goal.returns-in_err-left-clause-only
returns-in_err-left-clause-only g c =
    let fault = subst (λ (h : ℕ). IsCellFault (IsRecordBreak h)
    (λ f. Shows (g.D.Disk.view c.read_selectors.new.disk) (g.D.Disk.view c.read_half.new.disk) (λ image. half_in h image ≡ Err f)) c.in_err-left.field-0.0)
    (ap (λ v. v.selector.half) c.selection.view_is) c.in_err-left.ensures.cause in
    weaker _ _ (λ image sized none t records is_open held knows. failed_on _ c.from_residual-in_err-left.result c.in_err-left.field-0.0 c.from_residual-in_err-left.ensures.1
    (none t records is_open held knows))
    (fails_alone c.in_ok-selection.selection _ _ _ c.in_ok-selection.ensures.reads.only c.in_err-left.ensures.reads.only c.in_err-left.field-0.0 c.in_ok-selection.ensures.only
    fault)

pub returns-in_err-left-clause-cause : goal.returns-in_err-left-clause-cause
returns-in_err-left-clause-cause g c =
    let fault = subst (λ (h : ℕ). IsCellFault (IsRecordBreak h)
    (λ f. Shows (g.D.Disk.view c.read_selectors.new.disk) (g.D.Disk.view c.read_half.new.disk) (λ image. half_in h image ≡ Err f)) c.in_err-left.field-0.0)
    (ap (λ v. v.selector.half) c.selection.view_is) c.in_err-left.ensures.cause in
    passed_on c.from_residual-in_err-left.result _ c.in_err-left.field-0.0 c.from_residual-in_err-left.ensures.1
    (half_fault c.in_ok-selection.selection _ _ _ c.in_ok-selection.ensures.reads.only c.in_err-left.ensures.reads.only c.in_err-left.field-0.0
    c.in_ok-selection.ensures.right.half c.in_ok-selection.ensures.read fault)

pub returns-clause-found : goal.returns-clause-found
returns-clause-found g c =
    let old = g.D.Disk.view c.args.disk.now in
    let mid = g.D.Disk.view c.read_selectors.new.disk in
    let new = g.D.Disk.view c.read_half.new.disk in
    let whole = subst (λ (h : ℕ). IsWhole (Shows mid new) h (replay c.in_ok-left.left)) (ap (λ v. v.selector.half) c.selection.view_is) c.in_ok-left.ensures.whole in
    let is = scanned c.in_ok-selection.selection old mid new c.in_ok-selection.ensures.reads.only c.in_ok-left.ensures.reads.only (replay c.in_ok-left.left) whole
    c.in_ok-selection.ensures.right c.in_ok-selection.ensures.shown in
    subst (λ last. IsScanned (Shows old new) c.journal_of-journal.result c.in_ok-left.left.names last) (sym c.last-last.ensures.last)
    (subst (λ (j : JournalValue). IsScanned (Shows old new) j c.in_ok-left.left.names j.last) (sym c.journal_of-journal.ensures) is)

pub returns-clause-only : goal.returns-clause-only
returns-clause-only g c =
    let mid = g.D.Disk.view c.read_selectors.new.disk in
    let new = g.D.Disk.view c.read_half.new.disk in
    let whole = subst (λ (h : ℕ). IsWhole (Shows mid new) h (replay c.in_ok-left.left)) (ap (λ v. v.selector.half) c.selection.view_is) c.in_ok-left.ensures.whole in
    weaker _ _ (λ image sized is t records is_open held knows.
    subst (λ last. IsTold is_open t records c.journal_of-journal.result c.in_ok-left.left.names last) (sym c.last-last.ensures.last)
    (subst (λ (j : JournalValue). IsTold is_open t records j c.in_ok-left.left.names j.last) (sym c.journal_of-journal.ensures) (is t records is_open held knows)))
    (only_one c.in_ok-selection.selection _ mid new c.in_ok-selection.ensures.reads.only c.in_ok-left.ensures.reads.only (replay c.in_ok-left.left) whole
    c.in_ok-selection.ensures.shown c.in_ok-selection.ensures.only)

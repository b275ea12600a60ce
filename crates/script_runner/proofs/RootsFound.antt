-- What has been opened on any disk, as the machine of roots: a store that reads showed, whose records name the roots of its names.
use Rattle.script_runner.proofs.Prelude.{◌≡◌, ◌≤◌, inl, inr, ◌∙◌, List, [], Option, Some, None, refl, sym, Shows, DiskView, IsLater, later_here, Root, Top, Store, OpensCore, CoreState, Machine, false}
use Rattle.dd_disk.specs.Shows.{Part}
use Rattle.std.specs.Prelude.{option_map}
use Rattle.store_model.specs.Image.{Encodes}
use Rattle.store_machine.specs.Opening.{IsNamedBy}
use Rattle.store_machine.specs.Values.{of_roots}
use Rattle.core_machine.specs.Openings.{store_read}
use Rattle.core_machine.specs.Refines.{IsMachine}
use Rattle.script_runner.specs.Shown.{WasShown}
use Rattle.ingest_session.proofs.Members.{all_then}

-- ---- what was shown

-- it was shown meanwhile
pub shown_in : (v old mid w : DiskView) (store : Store) → IsLater v old → old.clock ≤ mid.clock → IsLater mid w → Shows old mid (λ image. Encodes image store) → WasShown v w store
shown_in v old mid w store before between after shown = record {
  parts = shown.parts;
  returned = all_then (λ (part : Part). mid.read_returned old.clock part.at part.bytes) (λ (part : Part). w.read_returned v.clock part.at part.bytes) shown.parts
      (λ part was. w.returned_earlier v.clock old.clock part.at part.bytes before.clock_is (after.returned old.clock part.at part.bytes between was)) shown.returned;
  shows = λ image sized has. shown.shows image (sized ∙ sym before.size_is) has;
}

-- so it was in any longer time
pub shown_longer : (v old mid w : DiskView) (store : Store) → IsLater v old → old.clock ≤ mid.clock → IsLater mid w → WasShown old mid store → WasShown v w store
shown_longer v old mid w store before between after shown = record {
  parts = shown.parts;
  returned = all_then (λ (part : Part). mid.read_returned old.clock part.at part.bytes) (λ (part : Part). w.read_returned v.clock part.at part.bytes) shown.parts
      (λ part was. w.returned_earlier v.clock old.clock part.at part.bytes before.clock_is (after.returned old.clock part.at part.bytes between was)) shown.returned;
  shows = λ image sized has. shown.shows image (sized ∙ sym before.size_is) has;
}

-- what was read as the core was opened
pub shown_read : (D : Type 0) (view : D → DiskView) (old : DiskView) (c : CoreState) (opens : OpensCore D view old c) → WasShown old c.disk (store_read D view old c opens)
shown_read D view old c (inl read) = shown_in old old c.disk c.disk read.opened.store (later_here old) read.reads.only.later.clock_is (later_here c.disk) read.opened.right
shown_read D view old c (inr (mid, (made, read))) =
    shown_in old (view mid) c.disk c.disk read.opened.store made.later read.reads.only.later.clock_is (later_here c.disk) read.opened.right

-- ---- names

same_roots : (x : Option Root) → option_map of_roots.root x ≡ x
same_roots None = refl
same_roots (Some root) = refl

pub roots_named : (m : Machine Root (List Top)) (c : CoreState) → IsMachine false m c → IsNamedBy of_roots m.now m.store
roots_named m c is = record { names = λ name. same_roots _ ∙ is.names name; last_is = sym is.last }

-- What has been opened on any disk is a machine of roots, and what could not be opened is the one that it was, or is stopped.
use Rattle.core_machine.proofs.Prelude.{◌≡◌, inl, inr, ℕ, zero, suc, false, List, [], ◌++◌, replicate, Some, None, Ok, refl, sym, ◌∙◌, ap, subst, arith, Bool, ACTORS, PlaceMap, Root, ending_of, Shows, DiskView, Named, RoomUnmade, Refusal, IsValidFor, Store, last_sequence, names_of, IsIndexOf, last_id, Represents, IsReadFrom, OpensNone, WritesUnread, CoreState, IsRunning, blames, Tables, Found, RunState, Running, Stopped, all_idle, MayRefuseOpening, freeing, of_roots, len_changed, stores_left, SameCollection, IsMachine, SameStop}
use Rattle.std.specs.FinMap as finite
use Rattle.actor_parts.specs.declared.part.Part.TheVariants as core
use Rattle.dd_disk.specs.Ending.{Reads}
use Rattle.recovery.specs.Opening.{IsOpenRefusal}
use Rattle.refusals.specs.declared.refusal.Refusal.TheVariants as refusals
use Rattle.store_model.proofs.Sound.{last_within}
use Rattle.store_core.specs.Opening.{IsKept, IsNew, StopsUnopened}
use Rattle.store_core.proofs.SafeSteps.{alone}
use Rattle.store_machine.specs.Done as done
use Rattle.store_machine.specs.Machine.{Idle}
use Rattle.store_machine.proofs.SameNames.{get_mapped, mapped}
use Rattle.core_machine.specs.Openings.{OpenedRefines, Reopens, UnopenedRefines}
use Rattle.core_machine.specs.Refines.{SameParts}
use Rattle.core_machine.proofs.KeysForgotten.{opened_told}
use Rattle.core_machine.proofs.Rows.{M}

all_same : (count : ℕ) → SameParts (replicate count Idle) (replicate count core.Idle)
all_same zero = tt
all_same (suc count) = (tt, all_same count)

-- ---- a store that was read

abbrev root_in : Named → Root
root_in n = n.root

abbrev found_in : Store → Found Root
found_in store = record { names = mapped Named Root root_in (names_of store); last = last_sequence store }

-- the machine of a store, at rest
abbrev at_rest : Store → M
at_rest store = record {
  now = found_in store;
  parts = all_idle;
  store = store;
  last_id = last_id store.held;
  forgotten = [];
  swept = false;
  collection = None;
  acknowledged = 0;
  state = Running;
}

module _ (before : DiskView) (c : CoreState) (read : IsReadFrom before c) (runs : IsRunning c) where
  abbrev opened : IsNew (Shows before c.disk) before.size c
  opened = read.opened

  is_index : (places : PlaceMap) → c.known ≡ Some places → IsIndexOf opened.store.held places
  is_index places is = opened.whole places is

  rests : (followed : Bool) → IsMachine followed (at_rest opened.store) c
  rests followed = record {
    represents = alone opened.store c.known c.tables opened.represents;
    valid = subst (λ (size : ℕ). IsValidFor size opened.store) (sym read.reads.only.later.size_is) opened.valid;
    free = omega (arith, opened.reserve);
    names = get_mapped Named Root root_in (names_of opened.store);
    last = refl;
    last_id = sym opened.last_id_is;
    last_within = omega (arith, last_within opened.store.held opened.valid.headers);
    parts = subst (SameParts all_idle) (sym opened.parts_are) (all_same ACTORS);
    acknowledged = sym opened.counted;
    index = λ _. record {
      places = opened.told.0;
      known_is = opened.told.1;
      newest = λ _. (refl, is_index opened.told.0 opened.told.1);
      told = λ _. opened_told opened.store.held opened.told.0 (is_index opened.told.0 opened.told.1);
    };
    collection = subst (SameCollection c.tables.held false None) (sym opened.collection_is) tt;
    state = subst (SameStop 0 Running) (sym opened.stop_is) tt;
  }

  as_many : finite.len c.tables.names ≡ finite.len (found_in opened.store).names
  as_many =
      ap finite.len opened.represents.names_are.names_are
      ∙ sym (len_changed Named Root root_in (names_of opened.store) (found_in opened.store).names (get_mapped Named Root root_in (names_of opened.store)))

  comes : (actor : ℕ) (m : M) → Reopens actor (Ok (done.Reopened (finite.len c.tables.names))) m (at_rest opened.store)
  comes actor m = record {
    found = found_in opened.store;
    may = λ known. absurd known;
    files_are = as_many;
    before = opened.store;
    same = λ known. absurd known;
    named = λ known. absurd known;
    freed = [];
    frees = λ known. absurd known;
    reserve = opened.reserve;
    others = refl;
  }

module _ (D : Type 0) (view : D → DiskView) (C : Type 0) (state : C → CoreState) where
  pub opened_refines : OpenedRefines D view C state
  opened_refines actor before c (inl read) runs =
      (at_rest read.opened.store, (rests (view before) (state c) read runs, refl, comes (view before) (state c) read runs actor))
  opened_refines actor before c (inr (mid, (made, read))) runs =
      (at_rest read.opened.store, (rests (view mid) (state c) read runs, refl, comes (view mid) (state c) read runs actor))

-- ---- one that was not

by_open : (shown : (List ℕ → Type 0) → Type 0) (size : ℕ) (refusal : Refusal) → IsOpenRefusal shown size refusal → MayRefuseOpening of_roots refusal
by_open shown size refusals.Memory is = tt
by_open shown size refusals.DiskRead is = tt
by_open shown size refusals.DiskWrite is = tt
by_open shown size (refusals.WrongSize want got) is = λ known. known
by_open shown size (refusals.NotAStore gate magic) is = λ known. known
by_open shown size (refusals.Version n) is = λ known. known
by_open shown size (refusals.Damaged at why) is = λ known. known
by_open shown size (refusals.Full free) is = λ known. known
by_open shown size refusal is = absurd is

by_room : (refusal : Refusal) (old new : DiskView) → RoomUnmade refusal old new → MayRefuseOpening of_roots refusal
by_room refusals.Memory old new un = tt
by_room refusals.DiskRead old new un = tt
by_room refusals.DiskWrite old new un = tt
by_room (refusals.Corrupt slot offset count want got) old new un = λ known. known
by_room (refusals.Missing key) old new un = λ known. known
by_room (refusals.Damaged at why) old new un = λ known. known
by_room refusal old new un = absurd un.cause

module _ (D : Type 0) (view : D → DiskView) where
  may_refuse : (refusal : Refusal) (old new : DiskView) → OpensNone D view refusal old new → MayRefuseOpening of_roots refusal
  may_refuse refusal old new (inl (not, full)) = by_open (Shows old new) old.size refusal not.cause
  may_refuse refusal old new (inr (inl (mid, (made, not)))) = by_open (Shows (view mid) new) (view mid).size refusal not.cause
  may_refuse refusal old new (inr (inr un)) = by_room refusal old new un

  same_size : (refusal : Refusal) (old new : DiskView) → WritesUnread D view refusal old new → new.size ≡ old.size
  same_size refusal old new (inl (mid, (made, not))) = not.reads.only.later.size_is ∙ made.later.size_is
  same_size refusal old new (inr (failed, un)) = un.later.size_is

  -- it is stopped, whatever it was
  never_runs : (stores : List Store) (state : RunState Root) → freeing of_roots stores state ≡ Running → ⊥
  never_runs stores Running is = absurd (let wrong : Stopped None stores ≡ Running = is in cc)
  never_runs stores (Stopped other before) is = absurd (let wrong : Stopped other (before ++ stores) ≡ Running = is in cc)

  stops_so : (count at : ℕ) (stores : List Store) (refusal : Refusal) (state : RunState Root) → at ≡ count
      → SameStop count (freeing of_roots stores state) (Some (record { refusal = refusal; at = at }))
  stops_so count at stores refusal Running is = is
  stops_so count at stores refusal (Stopped other before) is = is

  module _ {followed : Bool} (refusal : Refusal) (old new : CoreState) (m : M) (at : IsMachine followed m old) where
    as_it_was : IsKept old new → Reads (ending_of (blames refusal)) old.disk new.disk → IsMachine followed m new
    as_it_was kept reads = record {
      represents = subst (Represents m.store None) (sym kept.tables_are) at.represents;
      valid = subst (λ (size : ℕ). IsValidFor size m.store) (sym reads.only.later.size_is) at.valid;
      free = at.free;
      names = at.names;
      last = at.last;
      last_id = at.last_id ∙ ap (λ (t : Tables). t.held.last_id) (sym kept.tables_are);
      last_within = at.last_within;
      parts = subst (SameParts m.parts) (sym kept.parts_are) at.parts;
      acknowledged = at.acknowledged ∙ sym kept.counted;
      index = λ running. let own = at.index running in record { places = own.places; known_is = kept.index_is ∙ own.known_is; newest = own.newest; told = own.told };
      collection = subst (λ (t : Tables). SameCollection t.held m.swept m.collection new.collection) (sym kept.tables_are)
          (subst (SameCollection old.tables.held m.swept m.collection) (sym kept.collection_is) at.collection);
      state = subst (SameStop m.acknowledged m.state) (sym kept.stop_is) at.state;
    }

    stopped_so : (stores : List Store) → StopsUnopened D view refusal old new → IsMachine followed (record m { state = freeing of_roots stores m.state }) new
    stopped_so stores stops = record {
      represents = subst (Represents m.store None) (sym stops.tables_are) at.represents;
      valid = subst (λ (size : ℕ). IsValidFor size m.store) (sym (same_size refusal old.disk new.disk stops.wrote)) at.valid;
      free = at.free;
      names = at.names;
      last = at.last;
      last_id = at.last_id ∙ ap (λ (t : Tables). t.held.last_id) (sym stops.tables_are);
      last_within = at.last_within;
      parts = subst (SameParts m.parts) (sym stops.parts_are) at.parts;
      acknowledged = at.acknowledged ∙ sym stops.counted;
      index = λ running. absurd (never_runs stores m.state running);
      collection = subst (λ (t : Tables). SameCollection t.held m.swept m.collection new.collection) (sym stops.tables_are)
          (subst (SameCollection old.tables.held m.swept m.collection) (sym stops.collection_is) at.collection);
      state = subst (SameStop m.acknowledged (freeing of_roots stores m.state)) (sym stops.stop_is)
          (stops_so m.acknowledged old.acknowledged stores refusal m.state (sym at.acknowledged));
    }

-- none may stand beside the store of before only where a write failed
pub some_left : (D : Type 0) (view : D → DiskView) (refusal : Refusal) (old new : DiskView) (wrote : WritesUnread D view refusal old new) →
    stores_left D view refusal old new wrote ≡ []
    → refusal ≡ refusals.DiskWrite
some_left D view refusal old new (inl (mid, (made, read))) none = absurd cc
some_left D view refusal old new (inr (failed, unmade)) none = failed

module _ (D : Type 0) (view : D → DiskView) (C : Type 0) (state : C → CoreState) where
  pub unopened_refines : UnopenedRefines D view C state
  unopened_refines followed actor refusal old new m at none (inl (kept, reads)) = (
    m,
    ((may_refuse D view refusal (state old).disk (state new).disk none, inl refl), as_it_was D view refusal (state old) (state new) m at kept reads, refl),
  )
  unopened_refines followed actor refusal old new m at none (inr stops) =
      let stores = stores_left D view refusal (state old).disk (state new).disk stops.wrote in (
        record m { state = freeing of_roots stores m.state },
        (
          (
            may_refuse D view refusal (state old).disk (state new).disk none,
            inr
                (stores, refl, some_left D view refusal (state old).disk (state new).disk stops.wrote, (λ known. absurd known)),
          ),
          stopped_so D view refusal (state old) (state new) m at stores stops,
          refl,
        ),
      )

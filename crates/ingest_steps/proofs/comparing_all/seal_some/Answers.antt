use Rattle.ingest_steps.proofs.Prelude.{◌≡◌, ◌+◌, ℕ, List, [], ◌∷◌, None, get_or, refl, sym, subst, arith, ending, map_err, Contents, Shows, HasPlacesOf, HasSlot, IsCompared, IsSealRefusal, Option, slot_at, Done, PlaceMap, Refusal, passed, passed_on, IsChangeRefusal}
use Rattle.std.proofs.lemmas.Option.{slice_get_read}
use Rattle.container_log.specs.Many.{placed}
use Rattle.store_state.specs.Refused.{blames}
use Rattle.ingest_steps.specs.Offering.{AreCompared, in_free, WereCompared}
use Rattle.ingest_steps.specs.SealingAll.{HasPlacesOfAll, SealsPlaced}
use Rattle.ingest_steps.proofs.AfterReads.{map_on_ok, change_refused, steps_after}
use Rattle.ingest_steps.proofs.OneSealed.{one_list, one_places, one_placed, one_refused, one_sealed, one_slot_list, slot_one}
use Rattle.ingest_steps.proofs.ComparedAll.{had_on, whole_compared}
use Rattle.ingest_steps.proofs.ManySealed.{all_refused, places_before_all, sealed_before}
use Rattle.ingest_steps.proofs.PlacedOn.{changes_read, placed_as, placed_on, placed_read, slots_as}
use Rattle.ingest_steps.proofs.comparing_all.seal_some.Goals as goal

pub seal_compared-requires-clause-slot : goal.seal_compared-requires-clause-slot
seal_compared-requires-clause-slot g c =
    let old = g.D.Disk.view c.args.disk.now in
    slot_one c.args.tables.now c.requires.slots.0 c.args.slots.now old.size c.requires.state c.requires.slots.1 (omega (arith, c.if-filled-eq1.true, c.requires.many))

pub seal_compared-requires-clause-there : goal.seal_compared-requires-clause-there
seal_compared-requires-clause-there g c =
    let x = c.index-filled-0.result in
    c.requires.there 0 x (slice_get_read c.args.filled.now _ 0 x refl (omega (arith, c.if-filled-eq1.true)) c.index-filled-0.is)

pub returns-then-filled-eq1-clause-ok : goal.returns-then-filled-eq1-clause-ok
returns-then-filled-eq1-clause-ok g c =
    let view = g.D.Disk.view in
    let places = g.X.Index.places in
    let old = view c.args.disk.now in
    let new = view c.seal_compared.new.disk in
    let t = c.args.tables.now in
    let slots = c.args.slots.now in
    let known = places c.args.index.now old.content in
    let x = c.index-filled-0.result in
    let here = slice_get_read c.args.filled.now _ 0 x refl (omega (arith, c.if-filled-eq1.true)) c.index-filled-0.is in
    let is : c.args.filled.now ≡ x ∷ [] = one_list c.args.filled.now x c.if-filled-eq1.true here in
    let slot : ℕ = get_or slots 0 0 in
    let has : HasSlot t slot = slot_one t c.requires.slots.0 slots old.size c.requires.state c.requires.slots.1 (omega (arith, c.if-filled-eq1.true, c.requires.many)) in
    one_sealed c.seal_compared.result t c.seal_compared.new.tables old.size known (Shows old new) slot x c.args.filled.now is has c.seal_compared.ensures.ok

pub returns-then-filled-eq1-clause-map : goal.returns-then-filled-eq1-clause-map
returns-then-filled-eq1-clause-map g c =
    let view = g.D.Disk.view in
    let places = g.X.Index.places in
    let old = view c.args.disk.now in
    let new = view c.seal_compared.new.disk in
    let t = c.args.tables.now in
    let slots = c.args.slots.now in
    let x = c.index-filled-0.result in
    let here = slice_get_read c.args.filled.now _ 0 x refl (omega (arith, c.if-filled-eq1.true)) c.index-filled-0.is in
    let is : c.args.filled.now ≡ x ∷ [] = one_list c.args.filled.now x c.if-filled-eq1.true here in
    let slot : ℕ = get_or slots 0 0 in
    let there : slots ≡ slot ∷ [] = one_slot_list slots (omega (arith, c.if-filled-eq1.true, c.requires.many)) in
    map_on_ok c.seal_compared.result (HasPlacesOf x slot (places c.args.index.now) (places c.seal_compared.new.index) old.content new.content)
    (HasPlacesOfAll (placed slots (t.held.last_id + 1) c.args.filled.now) (places c.args.index.now) (places c.seal_compared.new.index) old.content new.content)
    (λ one. subst (λ (l : List ℕ). HasPlacesOfAll (placed l (t.held.last_id + 1) c.args.filled.now) (places c.args.index.now)
    (places c.seal_compared.new.index) old.content new.content) (sym there)
    (subst (λ (cs : List Contents). HasPlacesOfAll (placed (slot ∷ []) (t.held.last_id + 1) cs) (places c.args.index.now)
    (places c.seal_compared.new.index) old.content new.content) (sym is)
    (one_places x slot (t.held.last_id + 1) (places c.args.index.now) (places c.seal_compared.new.index) old.content new.content one)))
    c.seal_compared.ensures.map

pub returns-then-filled-eq1-clause-refused : goal.returns-then-filled-eq1-clause-refused
returns-then-filled-eq1-clause-refused g c =
    let view = g.D.Disk.view in
    let places = g.X.Index.places in
    let old = view c.args.disk.now in
    let new = view c.seal_compared.new.disk in
    let t = c.args.tables.now in
    let slots = c.args.slots.now in
    let known = places c.args.index.now old.content in
    let x = c.index-filled-0.result in
    let here = slice_get_read c.args.filled.now _ 0 x refl (omega (arith, c.if-filled-eq1.true)) c.index-filled-0.is in
    let is : c.args.filled.now ≡ x ∷ [] = one_list c.args.filled.now x c.if-filled-eq1.true here in
    let slot : ℕ = get_or slots 0 0 in
    let has : HasSlot t slot = slot_one t c.requires.slots.0 slots old.size c.requires.state c.requires.slots.1 (omega (arith, c.if-filled-eq1.true, c.requires.many)) in
    map_err c.seal_compared.result (IsSealRefusal known (IsCompared old.size known (Shows old new) x)) (IsSealRefusal known (AreCompared old.size known
    (Shows old new) c.args.filled.now))
    (λ refusal has. subst (λ (cs : List Contents). IsSealRefusal known (AreCompared old.size known (Shows old new) cs) refusal) (sym is)
    (one_refused old.size known (Shows old new) x refusal has)) c.seal_compared.ensures.refused

pub returns-then-filled-eq1-clause-moves : goal.returns-then-filled-eq1-clause-moves
returns-then-filled-eq1-clause-moves g c =
    let view = g.D.Disk.view in
    let places = g.X.Index.places in
    let old = view c.args.disk.now in
    let new = view c.seal_compared.new.disk in
    let t = c.args.tables.now in
    let slots = c.args.slots.now in
    let known = places c.args.index.now old.content in
    let x = c.index-filled-0.result in
    let here = slice_get_read c.args.filled.now _ 0 x refl (omega (arith, c.if-filled-eq1.true)) c.index-filled-0.is in
    let is : c.args.filled.now ≡ x ∷ [] = one_list c.args.filled.now x c.if-filled-eq1.true here in
    let slot : ℕ = get_or slots 0 0 in
    let has : HasSlot t slot = slot_one t c.requires.slots.0 slots old.size c.requires.state c.requires.slots.1 (omega (arith, c.if-filled-eq1.true, c.requires.many)) in
    subst (λ (cs : List Contents). SealsPlaced t known (in_free (t.held.last_id + 1) cs) (ending blames c.seal_compared.result) old new) (sym is)
    (one_placed (t.held.last_id + 1) x old.size None t slot c.requires.state has known (ending blames c.seal_compared.result) old new c.seal_compared.ensures.moves)

pub returns-in_err-befores-clause-refused : goal.returns-in_err-befores-clause-refused
returns-in_err-befores-clause-refused g c =
    let view = g.D.Disk.view in
    let places = g.X.Index.places in
    let old = view c.args.disk.now in
    let filled = c.args.filled.now in
    let known = places c.args.index.now old.content in
    let e = c.in_err-befores.field-0.0 in
    let shown : (List ℕ → Type 0) → Type 0 = Shows old (view c.compare_each.new.disk) in
    passed_on c.from_residual.result (IsSealRefusal known (AreCompared old.size known shown filled)) e c.from_residual.ensures.1
    (all_refused old.size known shown filled e c.in_err-befores.ensures.refused)

pub returns-in_err-befores-clause-moves : goal.returns-in_err-befores-clause-moves
returns-in_err-befores-clause-moves g c =
    let view = g.D.Disk.view in
    let places = g.X.Index.places in
    let old = view c.args.disk.now in
    let t = c.args.tables.now in
    let filled = c.args.filled.now in
    let known = places c.args.index.now old.content in
    let new = view c.compare_each.new.disk in
    let e = c.in_err-befores.field-0.0 in
    let f = in_free (t.held.last_id + 1) filled in
    passed (λ x. SealsPlaced t known f x old new) blames c.from_residual.result e c.from_residual.ensures.1
    (placed_read t known f (blames e) old new c.in_err-befores.ensures.reads.only)

pub seal_indexed_all-requires-clause-had : goal.seal_indexed_all-requires-clause-had
seal_indexed_all-requires-clause-had g c =
    let view = g.D.Disk.view in
    let places = g.X.Index.places in
    let old = view c.args.disk.now in
    let filled = c.args.filled.now in
    let known = places c.args.index.now old.content in
    let mid = view c.compare_each.new.disk in
    had_on old.size mid.size known (places c.compare_each.new.index mid.content) (Shows old mid) filled c.deref.result.now c.in_ok-befores.befores.items
    c.in_ok-befores.ensures.reads.only.later.size_is c.in_ok-befores.ensures.map c.deref.ensures.value c.in_ok-befores.ensures.fit

pub returns-clause-ok : goal.returns-clause-ok
returns-clause-ok g c =
    let view = g.D.Disk.view in
    let places = g.X.Index.places in
    let old = view c.args.disk.now in
    let t = c.args.tables.now in
    let filled = c.args.filled.now in
    let known = places c.args.index.now old.content in
    let mid = view c.compare_each.new.disk in
    let new = view c.seal_indexed_all.new.disk in
    let now = places c.compare_each.new.index mid.content in
    let reads = c.in_ok-befores.ensures.reads in
    let compared : WereCompared old.size known (Shows old new) filled = whole_compared old.size known old mid new filled c.in_ok-befores.befores.items reads.only
    c.seal_indexed_all.ensures.disk.later c.in_ok-befores.ensures.fit c.in_ok-befores.ensures.many in
    sealed_before c.seal_indexed_all.result t c.seal_indexed_all.new.tables filled old.size mid.size known now (WereCompared old.size known (Shows old new) filled)
    reads.only.later.size_is c.in_ok-befores.ensures.map compared c.seal_indexed_all.ensures.ok

pub returns-clause-map : goal.returns-clause-map
returns-clause-map g c =
    let view = g.D.Disk.view in
    let places = g.X.Index.places in
    let old = view c.args.disk.now in
    let t = c.args.tables.now in
    let filled = c.args.filled.now in
    let ps = placed c.args.slots.now (t.held.last_id + 1) filled in
    let mid = view c.compare_each.new.disk in
    let new = view c.seal_indexed_all.new.disk in
    let reads = c.in_ok-befores.ensures.reads in
    map_on_ok c.seal_indexed_all.result (HasPlacesOfAll ps (places c.compare_each.new.index) (places c.seal_indexed_all.new.index) mid.content new.content)
    (HasPlacesOfAll ps (places c.args.index.now) (places c.seal_indexed_all.new.index) old.content new.content)
    (places_before_all ps (places c.args.index.now) (places c.compare_each.new.index) (places c.seal_indexed_all.new.index) old.content mid.content new.content
    reads.only.content_is c.in_ok-befores.ensures.map)
    c.seal_indexed_all.ensures.map

pub returns-clause-refused : goal.returns-clause-refused
returns-clause-refused g c =
    let view = g.D.Disk.view in
    let places = g.X.Index.places in
    let old = view c.args.disk.now in
    let filled = c.args.filled.now in
    let known = places c.args.index.now old.content in
    let mid = view c.compare_each.new.disk in
    let new = view c.seal_indexed_all.new.disk in
    let now = places c.compare_each.new.index mid.content in
    let reads = c.in_ok-befores.ensures.reads in
    let compared : WereCompared old.size known (Shows old new) filled = whole_compared old.size known old mid new filled c.in_ok-befores.befores.items reads.only
    c.seal_indexed_all.ensures.disk.later c.in_ok-befores.ensures.fit c.in_ok-befores.ensures.many in
    let how : Refusal → Type 0 = AreCompared old.size known (Shows old new) filled in
    map_err c.seal_indexed_all.result (IsChangeRefusal now) (IsSealRefusal known how) (change_refused now known how c.in_ok-befores.ensures.map compared)
    c.seal_indexed_all.ensures.refused

pub returns-clause-disk : goal.returns-clause-disk
returns-clause-disk g c =
    let view = g.D.Disk.view in
    let old = view c.args.disk.now in
    let t = c.args.tables.now in
    let mid = view c.compare_each.new.disk in
    let new = view c.seal_indexed_all.new.disk in
    let reads = c.in_ok-befores.ensures.reads in
    steps_after t.slots old mid new reads (ending blames c.seal_indexed_all.result) c.seal_indexed_all.ensures.disk

pub returns-clause-moves : goal.returns-clause-moves
returns-clause-moves g c =
    let view = g.D.Disk.view in
    let places = g.X.Index.places in
    let old = view c.args.disk.now in
    let t = c.args.tables.now in
    let filled = c.args.filled.now in
    let known = places c.args.index.now old.content in
    let slots = c.args.slots.now in
    let ps = placed slots (t.held.last_id + 1) filled in
    let mid = view c.compare_each.new.disk in
    let new = view c.seal_indexed_all.new.disk in
    let e = ending blames c.seal_indexed_all.result in
    placed_as old.size None t c.requires.state known (λ _. ps) (in_free (t.held.last_id + 1) filled) e old new
    (slots_as t c.requires.slots.0 slots filled c.requires.slots.1 c.requires.many)
    (placed_on t known (λ _. ps) e old mid new (changes_read (slot_at t.slots) Done old mid c.in_ok-befores.ensures.reads) c.seal_indexed_all.ensures.disk.later
    (subst (λ (k : Option PlaceMap). SealsPlaced t k (λ _. ps) e mid new) c.in_ok-befores.ensures.map c.seal_indexed_all.ensures.moves))

-- What an inspection of cells finds, step by step.
use Rattle.journal_cells.proofs.Prelude.{◌≡◌, ◌≢◌, ◌⊎◌, inl, inr, ℕ, suc, ◌+◌, ◌-◌, ◌<◌, ◌≤◌, Bool, true, false, List, Option, None, Some, Result, Ok, Err, IfErr, ◌||◌, refl, sym, ap, subst, ◌∙◌, arith, eq-eqb, le-ltb, byte_at, passes, Shows, DiskView, Reads, ending, always, weaker, Change, RecordValue, SelectorValue, IsName, Put, Delete, MOST_NAMES, RECORD_GATE, cell_at, half_cells, selector_at, nothing, and_then, cell_with, Damage, StopsAmong, NameMap, IsTaken, names_with, ClosedFrom, CellFault, Memory, DiskRead, DiskWrite, Damaged, NotAStore, Version, Numbers, IsReadFault, IsRecordBreak, names_taking, halves_found, AreSelectorCells, Replay, nothing_yet, has_place, open_cell, own_checks, record_in_cell, IsOpenFault}
use Rattle.std.proofs.Common.{OnOk, is_some, nat_lt, ◌==◌, if◌then◌else◌}
use Rattle.std.specs.FinMap as finite
use Rattle.std.specs.Result.{is_ok}
use Rattle.base_model.specs.Bytes.{range}
use Rattle.dd_disk.specs.Ending.{Refused, ending_of}
use Rattle.dd_io.specs.Flow.{SinkView}
use Rattle.inspection.specs.Found.{Found, only_damage}
use Rattle.inspection.specs.declared.halt.Halt.{Halt}
use Rattle.inspection.specs.declared.halt.Halt.TheVariants as halts_of
use Rattle.inspection.specs.declared.tally.Tally.{Tally}
use Rattle.inspection.specs.Handing.{Reports, Stops, blames as halts}
use Rattle.inspection.proofs.Steps.{nothing_then, then_nothing, reports_on, stops_after, stops_before, stops_without}
use Rattle.namespace.specs.Names.{HasNoPlace, IsRefused}
use Rattle.namespace.specs.declared.fault.NameFault.{NameFault}
use Rattle.namespace.specs.declared.fault.NameFault.TheVariants as fault_of
use Rattle.journal_cells.specs.Faults.{blames as cell_blames}
use Rattle.journal_cells.specs.Inspecting.{damage_in, damage_of, is_open, right_one, none_open, selector_found, selectors_found, is_right_alone, after_cell, first_past, past_found, records_found, half_found, journal_found}
use Rattle.journal_cells.specs.Heads.{selector_in}
use Rattle.journal_cells.specs.Records.{first_open, record_in}
use Rattle.journal_cells.proofs.Names.{place_again}
use Rattle.journal_cells.proofs.Past.{first_none, first_some}
use Rattle.journal_cells.proofs.Replays.{if_false, if_true, other_gate}
use Rattle.journal_cells.proofs.Scanned.{gate_read, left_after}

-- ---- one record more

pub after_broken : (at : ℕ) (replay : Replay) (cell : List ℕ) → is_right_alone at cell ≡ false → after_cell at replay cell ≡ record replay { count = suc replay.count }
unfolding after_cell
after_broken at replay cell broken = if_false (is_right_alone at cell) _ _ broken

pub after_right : (at : ℕ) (replay : Replay) (cell : List ℕ) → is_right_alone at cell ≡ true
    → after_cell at replay cell ≡ record { count = suc replay.count; previous = (record_in_cell cell).sequence; names = names_taking replay.names (record_in_cell cell) }
unfolding after_cell
after_right at replay cell right = if_true (is_right_alone at cell) _ _ right

-- names take a record that they have a place for
pub names_take : (names : NameMap) (r : RecordValue) → IsTaken names r → names_taking names r ≡ names_with r names
names_take names r taken = if_true (has_place names r.name r.change) _ _ (place_again names r.name r.change taken.1)

neither : (a b : Bool) → a ≡ false → b ≡ false → a || b ≡ false
neither true b p q = absurd cc
neither false b p q = q

no_place : (names : NameMap) (name : List ℕ) (change : Change) (fault : NameFault) → HasNoPlace names name change fault → has_place names name change ≡ false
no_place names name (Put root) fault_of.TooMany full =
    neither (is_some (finite.get names name)) (nat_lt (finite.len names) MOST_NAMES) (ap is_some full.0) (le-ltb (finite.len names) MOST_NAMES full.1)
no_place names name (Put root) fault_of.NoFile full = absurd full
no_place names name (Put root) fault_of.BadName full = absurd full
no_place names name (Put root) fault_of.Memory full = absurd full
no_place names name Delete fault_of.NoFile none = ap is_some none
no_place names name Delete fault_of.TooMany none = absurd none
no_place names name Delete fault_of.BadName none = absurd none
no_place names name Delete fault_of.Memory none = absurd none

no_memory : (names : NameMap) (name : List ℕ) (change : Change) → HasNoPlace names name change fault_of.Memory → ⊥
no_memory names name (Put root) full = full
no_memory names name Delete none = none

-- and are as they were after another
pub names_refuse : (names : NameMap) (r : RecordValue) (fault : NameFault) → IsName r.name → IsRefused names r fault → names_taking names r ≡ names
names_refuse names r fault_of.BadName named refused = absurd (refused named)
names_refuse names r fault_of.TooMany named refused = if_false (has_place names r.name r.change) _ _ (no_place names r.name r.change fault_of.TooMany refused.1)
names_refuse names r fault_of.NoFile named refused = if_false (has_place names r.name r.change) _ _ (no_place names r.name r.change fault_of.NoFile refused.1)
names_refuse names r fault_of.Memory named refused = absurd (no_memory names r.name r.change refused.1)

pub names_keep : (names : NameMap) (r : RecordValue) (fault : NameFault) → IsName r.name → (fault ≡ fault_of.Memory) ⊎ IsRefused names r fault → fault ≢ fault_of.Memory →
    names_taking names r ≡ names
names_keep names r fault named (inl is) other = absurd (other is)
names_keep names r fault named (inr refused) other = names_refuse names r fault named refused

replay_is : (r s : Replay) → r.count ≡ s.count → r.previous ≡ s.previous → r.names ≡ s.names → r ≡ s
replay_is r s count previous names =
    ap (λ (n : ℕ). record { count = n; previous = r.previous; names = r.names }) count
    ∙ ap (λ (n : ℕ). record { count = s.count; previous = n; names = r.names }) previous
    ∙ ap (λ (n : NameMap). record { count = s.count; previous = s.previous; names = n }) names

-- one that is left out
pub passes_by : (at : ℕ) (replay next : Replay) (cell : List ℕ) (fault : CellFault) → passes (own_checks at cell) ≡ Err fault → next.count ≡ replay.count + 1 →
    next.previous ≡ replay.previous → next.names ≡ replay.names → next ≡ after_cell at replay cell
passes_by at replay next cell fault broken count previous names =
    replay_is next (record replay { count = suc replay.count }) (omega (arith, count)) previous names ∙ sym (after_broken at replay cell (ap is_ok broken))

-- one that isn't
pub takes_part : (at : ℕ) (replay next : Replay) (cell : List ℕ) → passes (own_checks at cell) ≡ Ok tt → next.count ≡ replay.count + 1 →
    next.previous ≡ (record_in_cell cell).sequence → next.names ≡ names_taking replay.names (record_in_cell cell)
    → next ≡ after_cell at replay cell
takes_part at replay next cell right count previous names =
    replay_is next (record { count = suc replay.count; previous = (record_in_cell cell).sequence; names = names_taking replay.names (record_in_cell cell) }) (omega (arith, count))
    previous names ∙ sym (after_right at replay cell (ap is_ok right))

count_of : (b : Bool) (r s : Replay) (n : ℕ) → r.count ≡ n → s.count ≡ n → (if b then r else s).count ≡ n
count_of true r s n p q = p
count_of false r s n p q = q

pub after_count : (at : ℕ) (replay : Replay) (cell : List ℕ) → (after_cell at replay cell).count ≡ suc replay.count
unfolding after_cell
after_count at replay cell = count_of (is_right_alone at cell) _ _ (suc replay.count) refl refl

-- ---- by the definitions

none_left : (half : ℕ) (counts : Bool) (replay : Replay) (image : List ℕ) → records_found half counts 0 replay image ≡ past_found half counts replay.count image
unfolding records_found
none_left half counts replay image = refl

past_other : (half from : ℕ) (image : List ℕ) → past_found half false from image ≡ nothing
unfolding past_found
past_other half from image = refl

past_first : (half from : ℕ) (image : List ℕ) (found : Option ℕ) → first_open half (half_cells - from) from image ≡ found → past_found half true from image ≡ first_past half found
unfolding past_found
past_first half from image found is = ap (first_past half) is

-- ---- the next cell

module _ (half left : ℕ) (counts : Bool) (replay : Replay) (image : List ℕ) where
  open_next : byte_at (cell_at half replay.count) image ≡ RECORD_GATE → (let cell = range (cell_at half replay.count) 512 image in
      records_found half counts (suc left) replay image
      ≡ and_then (cell_with (damage_in (cell_at half replay.count) (record_in (cell_at half replay.count) replay.previous replay.names cell)))
      (records_found half counts left (after_cell (cell_at half replay.count) replay cell) image))
  unfolding records_found
  open_next gate = if_true (byte_at (cell_at half replay.count) image == RECORD_GATE) _ _ (eq-eqb (byte_at (cell_at half replay.count) image) RECORD_GATE gate)

  closed_next : byte_at (cell_at half replay.count) image ≢ RECORD_GATE → records_found half counts (suc left) replay image ≡ past_found half counts replay.count image
  unfolding records_found
  closed_next closed = if_false (byte_at (cell_at half replay.count) image == RECORD_GATE) _ _ (other_gate (byte_at (cell_at half replay.count) image) closed)

module _ (half at : ℕ) (counts : Bool) (replay : Replay) (cell : List ℕ) (old new : DiskView) (place : at ≡ cell_at half replay.count) (room : replay.count < half_cells)
    (read : Shows old new (λ image. range at 512 image ≡ cell)) where
  there : (image : List ℕ) → range at 512 image ≡ cell → range (cell_at half replay.count) 512 image ≡ cell
  there image same = ap (λ (p : ℕ). range p 512 image) (sym place) ∙ same

  gate_there : (image : List ℕ) → range at 512 image ≡ cell → byte_at (cell_at half replay.count) image ≡ byte_at 0 cell
  gate_there image same = gate_read (cell_at half replay.count) image cell (there image same)

  pub shows_open : (damage : Option Damage) (next : Replay) → byte_at 0 cell ≡ RECORD_GATE → damage ≡ damage_in at (record_in at replay.previous replay.names cell) →
      next ≡ after_cell at replay cell
      → Shows old new (λ image. records_found half counts (half_cells - replay.count) replay image ≡ and_then (cell_with damage)
      (records_found half counts (half_cells - next.count) next image))
  shows_open damage next gate damaged is =
      weaker old new (λ image sized same.
      let n : next.count ≡ suc replay.count = ap (λ (r : Replay). r.count) is ∙ after_count at replay cell in
      ap (λ (left : ℕ). records_found half counts left replay image) (left_after replay.count room)
      ∙ open_next half (half_cells - suc replay.count) counts replay image (gate_there image same ∙ gate)
      ∙ ap (λ (bytes : List ℕ). and_then (cell_with (damage_in (cell_at half replay.count) (record_in (cell_at half replay.count) replay.previous replay.names bytes)))
      (records_found half counts (half_cells - suc replay.count) (after_cell (cell_at half replay.count) replay bytes) image)) (there image same)
      ∙ ap (λ (p : ℕ). and_then (cell_with (damage_in p (record_in p replay.previous replay.names cell)))
      (records_found half counts (half_cells - suc replay.count) (after_cell p replay cell) image)) (sym place)
      ∙ ap (λ (d : Option Damage). and_then (cell_with d) (records_found half counts (half_cells - suc replay.count) (after_cell at replay cell) image)) (sym damaged)
      ∙ ap (λ (r : Replay). and_then (cell_with damage) (records_found half counts (half_cells - suc replay.count) r image)) (sym is)
      ∙ ap (λ (m : ℕ). and_then (cell_with damage) (records_found half counts (half_cells - m) next image)) (sym n)) read

  pub shows_closed : byte_at 0 cell ≢ RECORD_GATE →
      Shows old new (λ image. records_found half counts (half_cells - replay.count) replay image ≡ and_then nothing (past_found half counts replay.count image))
  shows_closed closed =
      weaker old new (λ image sized same.
      ap (λ (left : ℕ). records_found half counts left replay image) (left_after replay.count room)
      ∙ closed_next half (half_cells - suc replay.count) counts replay image (λ gate. closed (sym (gate_there image same) ∙ gate))
      ∙ sym (nothing_then (past_found half counts replay.count image))) read

-- at the end of a half
pub shows_full : (half : ℕ) (counts : Bool) (replay : Replay) (image : List ℕ) → replay.count ≡ half_cells →
    records_found half counts (half_cells - replay.count) replay image ≡ past_found half counts replay.count image
shows_full half counts replay image full = ap (λ (left : ℕ). records_found half counts left replay image) (omega (arith, full)) ∙ none_left half counts replay image

-- ---- past the records

module _ (half : ℕ) (counts : Bool) (from : ℕ) (old new : DiskView) where
  pub past_uncounted : counts ≡ false → Shows old new (λ image. past_found half counts from image ≡ and_then nothing nothing)
  past_uncounted is = always old new _ (λ image sized. ap (λ (b : Bool). past_found half b from image) is ∙ past_other half from image)

  pub past_closed : counts ≡ true → from ≤ half_cells → Shows old new (ClosedFrom half from) → Shows old new (λ image. past_found half counts from image ≡ and_then nothing nothing)
  past_closed is few closed =
      weaker old new (λ image sized shut.
      ap (λ (b : Bool). past_found half b from image) is
      ∙ past_first half from image None (first_none half (half_cells - from) from image (λ c above below. shut c above (omega (arith, below, few))))) closed

  open_damage : (fault : CellFault) (cell : ℕ) → fault ≡ open_cell half cell → damage_of (cell_at half cell) (open_cell half cell) ≡ damage_of 0 fault
  open_damage fault cell is = ap (damage_of 0) (sym is)

  past_one : (fault : CellFault) → counts ≡ true → from ≤ half_cells → IsOpenFault (Shows old new) half from fault →
      Shows old new (λ image. past_found half counts from image ≡ and_then (cell_with (damage_of 0 fault)) nothing)
  past_one fault is few open_fault =
      weaker old new (λ image sized seen.
      ap (λ (b : Bool). past_found half b from image) is
      ∙ past_first half from image (Some open_fault.cell) (first_some half (half_cells - from) from open_fault.cell image (omega (arith, few, open_fault.within)) seen)
      ∙ ap cell_with (open_damage fault open_fault.cell open_fault.fault_is)
      ∙ sym (then_nothing (cell_with (damage_of 0 fault)))) open_fault.seen

  pub past_open : (fault : CellFault) → fault ≢ DiskRead → counts ≡ true → from ≤ half_cells → IsReadFault (IsRecordBreak half) (IsOpenFault (Shows old new) half from) fault
      → Shows old new (λ image. past_found half counts from image ≡ and_then (cell_with (damage_of 0 fault)) nothing)
  past_open Memory other is few found = absurd found
  past_open DiskRead other is few found = absurd (other refl)
  past_open DiskWrite other is few found = absurd found
  past_open (Damaged at why) other is few found = past_one (Damaged at why) is few found.1
  past_open (NotAStore g m) other is few found = absurd found.0
  past_open (Version n) other is few found = absurd found.0
  past_open Numbers other is few found = absurd found

  pub reads_past : (fault : CellFault) → fault ≢ DiskRead → IsReadFault (IsRecordBreak half) (IsOpenFault (Shows old new) half from) fault →
      Reads (ending_of (cell_blames fault)) old new → Reads Refused old new
  reads_past Memory other found reads = absurd found
  reads_past DiskRead other found reads = absurd (other refl)
  reads_past DiskWrite other found reads = absurd found
  reads_past (Damaged at why) other found reads = reads
  reads_past (NotAStore g m) other found reads = absurd found.0
  reads_past (Version n) other found reads = absurd found.0
  reads_past Numbers other found reads = absurd found

-- ---- both selectors

pub ok_map : {T E : Type 0} (result : Result T E) {P Q : Type 0} → (P → Q) → OnOk result P → OnOk result Q
ok_map (Ok x) each holds = each holds
ok_map (Err e) each holds = tt

module _ (line : Damage → List ℕ) (first second : List ℕ) where
  pub stops_one_selector : (sink sink_now : SinkView) (halt : Halt) → Stops line (selector_found 0 None first) sink sink_now halt →
      Stops line (selectors_found first second) sink sink_now halt
  unfolding selectors_found
  stops_one_selector sink sink_now halt stops = stops_before line (selector_found 0 None first) _ sink sink_now halt stops

  module _ (one : Option SelectorValue) (right : one ≡ right_one (selector_in 0 None first)) (sink sink_1 : SinkView) (tally tally_1 : Tally)
      (done : Reports line (selector_found 0 None first) sink sink_1 tally tally_1) where
    pub stops_other : (sink_2 : SinkView) (halt : Halt) → Stops line (selector_found 1 one second) sink_1 sink_2 halt → Stops line (selectors_found first second) sink sink_2 halt
    unfolding selectors_found
    stops_other sink_2 halt stops =
        stops_after line (selector_found 0 None first) _ sink sink_1 sink_2 tally tally_1 done halt
        (stops_before line (selector_found 1 (right_one (selector_in 0 None first)) second) _ sink_1 sink_2 halt
        (subst (λ (o : Option SelectorValue). Stops line (selector_found 1 o second) sink_1 sink_2 halt) right stops))

    module _ (sink_2 : SinkView) (tally_2 : Tally) (later : Reports line (selector_found 1 one second) sink_1 sink_2 tally_1 tally_2) (damage : Option Damage)
        (is : damage ≡ none_open first second) (sink_3 : SinkView) where
      other : Reports line (selector_found 1 (right_one (selector_in 0 None first)) second) sink_1 sink_2 tally_1 tally_2
      other = subst (λ (o : Option SelectorValue). Reports line (selector_found 1 o second) sink_1 sink_2 tally_1 tally_2) right later

      pub reports_both : (tally_3 : Tally) → Reports line (only_damage damage) sink_2 sink_3 tally_2 tally_3 → Reports line (selectors_found first second) sink sink_3 tally tally_3
      unfolding selectors_found
      reports_both tally_3 last =
          reports_on line (selector_found 0 None first) _ sink sink_1 sink_3 tally tally_1 done tally_3
          (reports_on line (selector_found 1 (right_one (selector_in 0 None first)) second) _ sink_1 sink_2 sink_3 tally_1 tally_2 other tally_3
          (subst (λ (d : Option Damage). Reports line (only_damage d) sink_2 sink_3 tally_2 tally_3) is last))

      pub stops_last : (halt : Halt) → Stops line (only_damage damage) sink_2 sink_3 halt → Stops line (selectors_found first second) sink sink_3 halt
      unfolding selectors_found
      stops_last halt last =
          stops_after line (selector_found 0 None first) _ sink sink_1 sink_3 tally tally_1 done halt
          (stops_after line (selector_found 1 (right_one (selector_in 0 None first)) second) _ sink_1 sink_2 sink_3 tally_1 tally_2 other halt
          (subst (λ (d : Option Damage). Stops line (only_damage d) sink_2 sink_3 halt) is last))

-- ---- halts

-- memory ran out before anything was found
pub stops_by_memory : (line : Damage → List ℕ) (all : List ℕ → Found) (old new : DiskView) (sink : SinkView) (halt : Halt) → halt ≡ halts_of.Memory →
    StopsAmong line all old new sink sink halt
stops_by_memory line all old new sink halt is = subst (λ (h : Halt). StopsAmong line all old new sink sink h) (sym is) (stops_without line all old new sink)

-- what is not taken blames no call of the disk
pub reads_taken : (result : Result (Unit {0}) Halt) (P : Halt → Type 0) (old new : DiskView) → IfErr result (λ h. (h ≡ halts_of.Untaken) × P h) → Reads Refused old new →
    Reads (ending halts result) old new
reads_taken (Ok x) P old new untaken reads = record { only = reads.only; faults_are = reads.faults_are }
reads_taken (Err h) P old new untaken reads = subst (λ (e : Halt). Reads (ending_of (halts e)) old new) (sym untaken.0) reads

-- ---- both halves

module _ (half : ℕ) (selector : List ℕ) (counts : Bool) (image : List ℕ) where
  pub half_shut : is_open selector ≡ false → half_found half selector counts image ≡ and_then nothing nothing
  unfolding half_found
  half_shut shut = if_false (is_open selector) _ _ shut

  pub half_opened : is_open selector ≡ true → records_found half counts half_cells nothing_yet image ≡ half_found half selector counts image
  unfolding half_found
  half_opened opened = sym (if_true (is_open selector) _ _ opened)

pub journal_of_cells : (first second image : List ℕ) → AreSelectorCells first second image →
    journal_found image ≡ and_then (selectors_found first second) (halves_found first second image)
unfolding journal_found
journal_of_cells first second image are =
    ap (λ (bytes : List ℕ). and_then (selectors_found bytes (range (selector_at 1) 512 image)) (halves_found bytes (range (selector_at 1) 512 image) image)) are.0
    ∙ ap (λ (bytes : List ℕ). and_then (selectors_found first bytes) (halves_found first bytes image)) are.1

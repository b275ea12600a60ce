-- What an inspection of slots finds, step by step.
use Rattle.std.proofs.Common.{◌≡◌, ◌≢◌, ℕ, suc, ◌+◌, ◌<◌, ◌≤◌, Bool, true, false, List, [], ◌∷◌, ◌++◌, length, take, drop, get_or, Option, Result, Ok, Err, OnOk, nat_le, ◌==◌, if◌then◌else◌, refl, sym, ap, subst, ◌∙◌, arith, eq-eqb}
use Rattle.std.specs.Option.{option_to_list}
use Rattle.std.proofs.lemmas.Bool.{eqb-true, leb-true}
use Rattle.std.proofs.lemmas.List.Elements.{All-nil, All-cons}
use Rattle.std.proofs.lemmas.List.{take_more}
use Rattle.std.proofs.lemmas.List.Sums.{sum_by-append, sum_by-cons}
use Rattle.std.proofs.Math.Seq.{split_at}
use Rattle.base_model.specs.Bytes.{byte_at}
use Rattle.base_model.proofs.Checks.{both}
use Rattle.container_meta.specs.declared.entry.Entry.{Entry}
use Rattle.container_meta.specs.declared.kind.Kind.{Kind}
use Rattle.container_meta.specs.Reading.{header_at}
use Rattle.container_meta.specs.Spelling.{HeaderValue, IsHeader, Follow, bytes_of}
use Rattle.dd_disk.specs.Shows.{Shows}
use Rattle.dd_disk.specs.View.{DiskView, OnlyReads}
use Rattle.dd_disk.proofs.Later.{reads_here}
use Rattle.dd_disk.proofs.Shows.{weaker}
use Rattle.dd_io.specs.Flow.{SinkView}
use Rattle.disk_format.specs.declared.numbers.TheConstants.{CONTAINER_GATE, DATA_BYTES}
use Rattle.disk_format.specs.Layout.{slot_at}
use Rattle.inspection.specs.Found.{Found, nothing, and_then, cell_with}
use Rattle.inspection.specs.Handing.{Finds, Reports, Stops, StopsAmong}
use Rattle.inspection.specs.declared.damage.Damage.{Damage}
use Rattle.inspection.specs.declared.halt.Halt.{Halt}
use Rattle.inspection.specs.declared.halt.Halt.TheVariants as halts_of
use Rattle.inspection.specs.declared.tally.Tally.{Tally}
use Rattle.inspection.proofs.Steps.{nothing_then, then_nothing, then_then, finds_shown, reports_on, stops_after, stops_before, stops_on, stops_shown, stops_unread, stops_without}
use Rattle.container_log.specs.Inspecting.{AreInSlot, copy_found, copies_found, header_found, id_damage, ids_with, slot_bytes, slot_found, slots_found, ReadsSlot}

pub ok_map : {T E : Type 0} (result : Result T E) {P Q : Type 0} → (P → Q) → OnOk result P → OnOk result Q
ok_map (Ok x) each holds = each holds
ok_map (Err e) each holds = tt

-- ---- entries lie in their slot

ends : (kind : Kind) (before entries : List Entry) → Follow kind before entries → bytes_of before + bytes_of entries ≤ 212480 → AreInSlot entries
ends kind before [] follow fits = All-nil (λ (e : Entry). e.offset + e.length ≤ DATA_BYTES)
ends kind before (e ∷ es) follow fits =
    let more : bytes_of (before ++ e ∷ []) + bytes_of es ≤ 212480 =
    omega (arith, fits, sum_by-cons (λ (y : Entry). y.length) e es, sum_by-append (λ (y : Entry). y.length) before (e ∷ []), sum_by-cons (λ (y : Entry). y.length) e []) in
    All-cons (λ (y : Entry). y.offset + y.length ≤ DATA_BYTES) e es (omega (arith, follow.0.offset, fits, sum_by-cons (λ (y : Entry). y.length) e es))
    (ends kind (before ++ e ∷ []) es follow.1 more)

pub are_in_slot : (h : HeaderValue) → IsHeader h → AreInSlot h.entries
are_in_slot h right =
    let most : h.data_length ≤ 212480 = leb-true h.data_length 212480 (both (nat_le 1 h.data_length) (nat_le h.data_length 212480) right.data_length).1 in
    ends h.kind [] h.entries right.entries (omega (arith, right.whole, most))

-- ---- copies, one after the other

module _ (slot : ℕ) (bytes : List ℕ) where
  copies_none : copies_found slot [] bytes ≡ nothing
  unfolding copies_found
  copies_none = refl

  copies_first : (e : Entry) (es : List Entry) → copies_found slot (e ∷ es) bytes ≡ and_then (copy_found slot e bytes) (copies_found slot es bytes)
  unfolding copies_found
  copies_first e es = refl

  copies-append : (es fs : List Entry) → copies_found slot (es ++ fs) bytes ≡ and_then (copies_found slot es bytes) (copies_found slot fs bytes)
  copies-append [] fs = sym (nothing_then (copies_found slot fs bytes)) ∙ ap (λ (f : Found). and_then f (copies_found slot fs bytes)) (sym copies_none)
  copies-append (e ∷ es) fs =
      copies_first e (es ++ fs) ∙ ap (and_then (copy_found slot e bytes)) (copies-append es fs)
      ∙ sym (then_then (copy_found slot e bytes) (copies_found slot es bytes) (copies_found slot fs bytes))
      ∙ ap (λ (f : Found). and_then f (copies_found slot fs bytes)) (sym (copies_first e es))

  copies_one : (e : Entry) → copies_found slot (e ∷ []) bytes ≡ copy_found slot e bytes
  copies_one e = copies_first e [] ∙ ap (and_then (copy_found slot e bytes)) copies_none ∙ then_nothing (copy_found slot e bytes)

  module _ (entries : List Entry) (i : ℕ) (d : Entry) (below : i < length entries) where
    copies_more : copies_found slot (take (i + 1) entries) bytes ≡ and_then (copies_found slot (take i entries) bytes) (copy_found slot (get_or entries i d) bytes)
    copies_more =
        ap (λ (es : List Entry). copies_found slot es bytes) (take_more entries i d below) ∙ copies-append (take i entries) (get_or entries i d ∷ [])
        ∙ ap (and_then (copies_found slot (take i entries) bytes)) (copies_one (get_or entries i d))

    copies_split : copies_found slot entries bytes ≡ and_then (copies_found slot (take i entries) bytes)
        (and_then (copy_found slot (get_or entries i d) bytes) (copies_found slot (drop (suc i) entries) bytes))
    copies_split =
        ap (λ (es : List Entry). copies_found slot es bytes) (split_at entries i d below) ∙ copies-append (take i entries) (get_or entries i d ∷ drop (suc i) entries)
        ∙ ap (and_then (copies_found slot (take i entries) bytes)) (copies_first (get_or entries i d) (drop (suc i) entries))

    module _ (line : Damage → List ℕ) (sink sink_mid sink_now : SinkView) (tally tally_mid : Tally)
        (first : Reports line (copies_found slot (take i entries) bytes) sink sink_mid tally tally_mid) where
      pub reports_copy : (tally_now : Tally) → Reports line (copy_found slot (get_or entries i d) bytes) sink_mid sink_now tally_mid tally_now →
          Reports line (copies_found slot (take (i + 1) entries) bytes) sink sink_now tally tally_now
      reports_copy tally_now next =
          subst (λ (f : Found). Reports line f sink sink_now tally tally_now) (sym copies_more)
          (reports_on line (copies_found slot (take i entries) bytes) (copy_found slot (get_or entries i d) bytes) sink sink_mid sink_now tally tally_mid first tally_now next)

      pub stops_copy : (halt : Halt) → Stops line (copy_found slot (get_or entries i d) bytes) sink_mid sink_now halt →
          Stops line (copies_found slot entries bytes) sink sink_now halt
      stops_copy halt next =
          subst (λ (f : Found). Stops line f sink sink_now halt) (sym copies_split)
          (stops_after line (copies_found slot (take i entries) bytes) _ sink sink_mid sink_now tally tally_mid first halt
          (stops_before line (copy_found slot (get_or entries i d) bytes) (copies_found slot (drop (suc i) entries) bytes) sink_mid sink_now halt next))

  pub reports_no_copy : (line : Damage → List ℕ) (sink : SinkView) (tally : Tally) → Reports line nothing sink sink tally tally →
      Reports line (copies_found slot [] bytes) sink sink tally tally
  reports_no_copy line sink tally none = subst (λ (f : Found). Reports line f sink sink tally tally) (sym copies_none) none

-- ---- slots, one after the other

module _ (left slot : ℕ) (ids : List ℕ) (image : List ℕ) where
  next_open : byte_at (slot_at slot) image ≡ CONTAINER_GATE
      → slots_found (suc left) slot ids image ≡ and_then (slot_found slot ids (slot_bytes slot image))
      (slots_found left (suc slot) (ids_with ids (header_at (slot_bytes slot image))) image)
  unfolding slots_found
  next_open gate = if_true (byte_at (slot_at slot) image == CONTAINER_GATE) _ _ (eq-eqb (byte_at (slot_at slot) image) CONTAINER_GATE gate)
    where
      if_true : {A : Type 0} (b : Bool) (x y : A) → b ≡ true → (if b then x else y) ≡ x
      if_true true x y h = refl
      if_true false x y h = absurd cc

  next_closed : byte_at (slot_at slot) image ≢ CONTAINER_GATE → slots_found (suc left) slot ids image ≡ slots_found left (suc slot) ids image
  unfolding slots_found
  next_closed closed = if_false (byte_at (slot_at slot) image == CONTAINER_GATE) _ _ (other_byte (byte_at (slot_at slot) image == CONTAINER_GATE) refl)
    where
      if_false : {A : Type 0} (b : Bool) (x y : A) → b ≡ false → (if b then x else y) ≡ y
      if_false true x y h = absurd cc
      if_false false x y h = refl

      other_byte : (b : Bool) → (byte_at (slot_at slot) image == CONTAINER_GATE) ≡ b → (byte_at (slot_at slot) image == CONTAINER_GATE) ≡ false
      other_byte true is = absurd (closed (eqb-true (byte_at (slot_at slot) image) CONTAINER_GATE is))
      other_byte false is = is

pub no_slots : (slot : ℕ) (ids image : List ℕ) → slots_found 0 slot ids image ≡ nothing
unfolding slots_found
no_slots slot ids image = refl

module _ (slot : ℕ) (ids bytes : List ℕ) (left : ℕ) (old new : DiskView) where
  pub shows_closed : Shows old new (ReadsSlot slot false bytes) →
      Shows old new (λ image. slots_found (suc left) slot ids image ≡ and_then nothing (slots_found left (suc slot) ids image))
  shows_closed read = weaker old new (λ image sized closed. next_closed left slot ids image closed ∙ sym (nothing_then (slots_found left (suc slot) ids image))) read

  pub shows_open : (given now : List ℕ) → given ≡ ids → ids_with given (header_at bytes) ≡ now → Shows old new (ReadsSlot slot true bytes)
      → Shows old new (λ image. slots_found (suc left) slot ids image ≡ and_then (slot_found slot given bytes) (slots_found left (suc slot) now image))
  shows_open given now same is read =
      weaker old new (λ image sized opened.
      next_open left slot ids image opened.0
      ∙ ap (λ (b : List ℕ). and_then (slot_found slot ids b) (slots_found left (suc slot) (ids_with ids (header_at b)) image)) opened.1
      ∙ ap (λ (l : List ℕ). and_then (slot_found slot l bytes) (slots_found left (suc slot) (ids_with l (header_at bytes)) image)) (sym same)
      ∙ ap (λ (l : List ℕ). and_then (slot_found slot given bytes) (slots_found left (suc slot) l image)) is) read

-- ---- a right header

module _ (slot : ℕ) (ids bytes : List ℕ) (h : HeaderValue) (right : header_at bytes ≡ Ok h) where
  right_slot : slot_found slot ids bytes ≡ and_then (cell_with (id_damage slot ids h.id)) (copies_found slot h.entries bytes)
  unfolding slot_found
  right_slot = ap (header_found slot ids bytes) right

  module _ (line : Damage → List ℕ) (damage : Option Damage) (is : damage ≡ id_damage slot ids h.id) (entries : List Entry) (are : entries ≡ h.entries)
      (sink sink_mid sink_now : SinkView) (tally tally_mid : Tally)
      (first : Reports line (cell_with damage) sink sink_mid tally tally_mid) where
    first_so : Reports line (cell_with (id_damage slot ids h.id)) sink sink_mid tally tally_mid
    first_so = subst (λ (d : Option Damage). Reports line (cell_with d) sink sink_mid tally tally_mid) is first

    pub reports_right : (tally_now : Tally) → Reports line (copies_found slot entries bytes) sink_mid sink_now tally_mid tally_now →
        Reports line (slot_found slot ids bytes) sink sink_now tally tally_now
    reports_right tally_now next =
        subst (λ (f : Found). Reports line f sink sink_now tally tally_now) (sym right_slot)
        (reports_on line (cell_with (id_damage slot ids h.id)) (copies_found slot h.entries bytes) sink sink_mid sink_now tally tally_mid first_so tally_now
        (subst (λ (es : List Entry). Reports line (copies_found slot es bytes) sink_mid sink_now tally_mid tally_now) are next))

    pub stops_right : (halt : Halt) → Stops line (copies_found slot entries bytes) sink_mid sink_now halt → Stops line (slot_found slot ids bytes) sink sink_now halt
    stops_right halt next =
        subst (λ (f : Found). Stops line f sink sink_now halt) (sym right_slot)
        (stops_after line (cell_with (id_damage slot ids h.id)) (copies_found slot h.entries bytes) sink sink_mid sink_now tally tally_mid first_so halt
        (subst (λ (es : List Entry). Stops line (copies_found slot es bytes) sink_mid sink_now halt) are next))

-- ---- halts

pub stops_by_read : (line : Damage → List ℕ) (all : List ℕ → Found) (old new : DiskView) (sink : SinkView) (halt : Halt) → halt ≡ halts_of.DiskRead →
    StopsAmong line all old new sink sink halt
stops_by_read line all old new sink halt is = subst (λ (h : Halt). StopsAmong line all old new sink sink h) (sym is) (stops_unread line all old new sink)

-- memory ran out after something was found
pub stops_then : (line : Damage → List ℕ) (all rest : List ℕ → Found) (old new : DiskView) (sink sink_now : SinkView) (tally tally_now : Tally) (halt : Halt) →
    halt ≡ halts_of.Memory → OnlyReads old new → Finds line all rest old new (sink, tally) (sink_now, tally_now)
    → StopsAmong line all old new sink sink_now halt
stops_then line all rest old new sink sink_now tally tally_now halt is reads finds =
    subst (λ (h : Halt). StopsAmong line all old new sink sink_now h) (sym is)
    (stops_on line all rest old new new sink sink_now sink_now tally tally_now finds reads (reads_here new).later halts_of.Memory (stops_without line rest new new sink_now))

-- ---- a slot that is open

module _ (line : Damage → List ℕ) (slot : ℕ) (ids given bytes : List ℕ) (same : given ≡ ids) (old new : DiskView) (read : Shows old new (ReadsSlot slot true bytes))
    (sink sink_now : SinkView) where
  pub stops_open : (halt : Halt) → Stops line (slot_found slot given bytes) sink sink_now halt → (left : ℕ) →
      StopsAmong line (slots_found (suc left) slot ids) old new sink sink_now halt
  stops_open halt stops left =
      stops_shown line (slot_found slot given bytes) (slots_found (suc left) slot ids) (slots_found left (suc slot) (ids_with given (header_at bytes))) old new sink sink_now halt
      (shows_open slot ids bytes left old new given (ids_with given (header_at bytes)) same refl read) stops

  module _ (tally tally_now : Tally) (id : Option ℕ) (is : ids_with given (header_at bytes) ≡ given ++ option_to_list id)
      (done : Reports line (slot_found slot given bytes) sink sink_now tally tally_now) where
    pub finds_open : (now : List ℕ) → now ≡ ids ++ option_to_list id → (left : ℕ)
        → Finds line (slots_found (suc left) slot ids) (slots_found left (suc slot) now) old new (sink, tally) (sink_now, tally_now)
    finds_open now are left =
        finds_shown line (slot_found slot given bytes) (slots_found (suc left) slot ids) (slots_found left (suc slot) now) old new sink sink_now tally tally_now
        (shows_open slot ids bytes left old new given now same (is ∙ ap (λ (l : List ℕ). l ++ option_to_list id) same ∙ sym are) read) done

    pub stops_without_id : (halt : Halt) → halt ≡ halts_of.Memory → OnlyReads old new → (left : ℕ) → StopsAmong line (slots_found (suc left) slot ids) old new sink sink_now halt
    stops_without_id halt memory reads left = stops_then line (slots_found (suc left) slot ids) (slots_found left (suc slot) (ids ++ option_to_list id)) old new sink sink_now
        tally tally_now halt memory reads (finds_open (ids ++ option_to_list id) refl left)

pub stops_by_memory : (line : Damage → List ℕ) (all : List ℕ → Found) (old new : DiskView) (sink : SinkView) (halt : Halt) → halt ≡ halts_of.Memory →
    StopsAmong line all old new sink sink halt
stops_by_memory line all old new sink halt is = subst (λ (h : Halt). StopsAmong line all old new sink sink h) (sym is) (stops_without line all old new sink)

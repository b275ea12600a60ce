-- What settling keeps.
use Rattle.ingest_session.proofs.Prelude.{◌≡◌, ◌⊎◌, inl, inr, ◌∙◌, ℕ, Bool, true, false, List, [], ◌++◌, refl, sym, ap, subst, append_assoc, append-nil, Kind, Piece, HasHistory, Moved, Asked, moved, fits, item_of, IsClosing, Settles, SettleStep, Then, Turned, Spelled, Advanced, Closed, PlacedNode, PlacedFront, SetAside, IsSession, SessionState, absent_item, added_item, placed_item, put_aside, item_kind, turn_node, unsealed}
use Rattle.std.proofs.Common.{if◌then◌else◌}
use Rattle.ingest_session.specs.History.{KeepsOpen, Places}
use Rattle.ingest_session.specs.Settling.{Stays}
use Rattle.ingest_session.proofs.Sealing.{no_step_off, step_unsealed, unsealed_alike, waits_placed, waits_with}
use Rattle.ingest_session.proofs.Staying.{set_apart}
use Rattle.ingest_session.proofs.Waiting.{on_and_off}

pub settles_on : {first second third : SessionState} → Settles first second → Settles second third → Settles first third
settles_on one (Stays s) = one
settles_on one (Then s t u two is step) = Then _ t u (settles_on one two) is step

pub settles_by : {first second : SessionState} → IsSession second → SettleStep first second → Settles first second
settles_by {first} {second} is step = Then first first second (Stays first) is step

pub settles_closing : (first second third : SessionState) → Settles first second → IsSession third → (third ≡ second) ⊎ IsClosing second third →
    Settles first third
settles_closing first second third one is (inl same) = subst (λ (t : SessionState). Settles first t) (sym same) one
settles_closing first second third one is (inr closing) = Then first second third one is (Closed second third closing)

-- ---- histories

pub settling_places : (s t : SessionState) → Settles s t → Places s t
settling_places s t (Stays r) h has =
    ([], subst (λ (ps : List Piece). HasHistory s (record h { placed = ps })) (sym (append-nil h.placed)) has)
settling_places s t (Then first second third settles is step) h has =
    let before = settling_places first second settles h has in (
      before.0 ++ moved step,
      subst (λ (ps : List Piece). HasHistory third (record h { placed = ps })) (append_assoc h.placed before.0 (moved step))
          (Moved second third (record h { placed = h.placed ++ before.0 }) before.1 is step),
    )

pub asking_places : (s t u : SessionState) → Settles s t → IsSession u → u ≡ record t { unseen = 0 } → Places s u
asking_places s t u settles is asked h has =
    let before = settling_places s t settles h has in
    (before.0, Asked t u (record h { placed = h.placed ++ before.0 }) before.1 is asked)

-- ---- what is still to be sealed

-- an item that waits is one that waited
abbrev KeepsWaiting : SessionState → SessionState → Type 0
KeepsWaiting old new =
    new.waits ≡ true → (old.waits ≡ true) × (turn_node new ≡ turn_node old) × (item_of (turn_node new) new.queue ≡ item_of (turn_node old) old.queue)

pub keeps_on : (first second third : SessionState) → KeepsOpen first second → KeepsOpen second third → KeepsOpen first third
keeps_on first second third one two = record {
  count = two.count ∙ one.count;
  ended = two.ended ∙ one.ended;
  most = two.most ∙ one.most;
  unsealed = λ kind. two.unsealed kind ∙ one.unsealed kind;
  item = λ on.
      let after = two.item on in
      let before = one.item after.0 in (before.0, after.1 ∙ before.1, after.2 ∙ before.2);
}

absent_waits : (more : ℕ) (s : SessionState) (fit : Bool) → s.waits ≡ false →
    let t : SessionState = if fit then placed_item more (turn_node s) (added_item s) else record s { waits = true } in
    t.waits ≡ true → (turn_node t ≡ turn_node s) × (item_of (turn_node t) t.queue ≡ item_of (turn_node s) s.queue)
absent_waits more s true off on = on_and_off _ on (waits_placed more (turn_node s) (added_item s) ∙ waits_with s (item_kind (turn_node s)) _ ∙ off)
absent_waits more s false off on = (refl, refl)

resumed_waits : (more : ℕ) (s : SessionState) (waits : Bool) → s.waits ≡ waits →
    KeepsWaiting s (if waits then absent_item more (record s { waits = false }) else s)
resumed_waits more s true was on =
    let t : SessionState = record s { waits = false } in
    let same = absent_waits more t (fits t) refl on in (was, same.0, same.1)
resumed_waits more s false off on = (on, refl, refl)

step_waits : (s t : SessionState) → SettleStep s t → KeepsWaiting s t
step_waits s t (Turned old new off is) = rw is (λ on. on_and_off old.waits on off)
step_waits s t (Spelled old new is) = rw is (λ on. (on, refl, refl))
step_waits s t (Advanced old new is) = rw is.others (λ on. (on, refl, refl))
step_waits s t (Closed old new is) = rw is.others (λ on. (on, refl, refl))
step_waits s t (PlacedNode old new none right some is) = rw is (λ on. on_and_off old.waits on (no_step_off old.waits _ none))
step_waits s t (PlacedFront old new none right empty is) = rw is (λ on. on_and_off old.waits on (no_step_off old.waits _ none))
step_waits s t (SetAside old new sound some right puts is) = rw is (resumed_waits 1 (put_aside old) old.waits refl)

step_keeps : (s t : SessionState) → SettleStep s t → KeepsOpen s t
step_keeps s t step = record {
  count = count step;
  ended = ended step;
  most = most step;
  unsealed = λ kind. step_unsealed kind s t step;
  item = step_waits s t step;
}
  where
    count : SettleStep s t → t.count ≡ s.count
    count (Turned old new off is) = ap (λ (u : SessionState). u.count) is
    count (Spelled old new is) = ap (λ (u : SessionState). u.count) is
    count (Advanced old new is) = ap (λ (u : SessionState). u.count) is.others
    count (Closed old new is) = ap (λ (u : SessionState). u.count) is.others
    count (PlacedNode old new none right some is) = ap (λ (u : SessionState). u.count) is
    count (PlacedFront old new none right empty is) = ap (λ (u : SessionState). u.count) is
    count (SetAside old new sound some right puts is) = ap (λ (u : SessionState). u.count) is ∙ (set_apart old).count

    ended : SettleStep s t → t.ended ≡ s.ended
    ended (Turned old new off is) = ap (λ (u : SessionState). u.ended) is
    ended (Spelled old new is) = ap (λ (u : SessionState). u.ended) is
    ended (Advanced old new is) = ap (λ (u : SessionState). u.ended) is.others
    ended (Closed old new is) = ap (λ (u : SessionState). u.ended) is.others
    ended (PlacedNode old new none right some is) = ap (λ (u : SessionState). u.ended) is
    ended (PlacedFront old new none right empty is) = ap (λ (u : SessionState). u.ended) is
    ended (SetAside old new sound some right puts is) = ap (λ (u : SessionState). u.ended) is ∙ (set_apart old).ended

    most : SettleStep s t → t.most ≡ s.most
    most (Turned old new off is) = ap (λ (u : SessionState). u.most) is
    most (Spelled old new is) = ap (λ (u : SessionState). u.most) is
    most (Advanced old new is) = ap (λ (u : SessionState). u.most) is.others
    most (Closed old new is) = ap (λ (u : SessionState). u.most) is.others
    most (PlacedNode old new none right some is) = ap (λ (u : SessionState). u.most) is
    most (PlacedFront old new none right empty is) = ap (λ (u : SessionState). u.most) is
    most (SetAside old new sound some right puts is) = ap (λ (u : SessionState). u.most) is ∙ (set_apart old).most

pub settling_keeps : (s t : SessionState) → Settles s t → KeepsOpen s t
settling_keeps s t (Stays r) = record { count = refl; ended = refl; most = refl; unsealed = λ kind. refl; item = λ on. (on, refl, refl) }
settling_keeps s t (Then first second third settles is step) =
    keeps_on first second third (settling_keeps first second settles) (step_keeps second third step)

pub asking_keeps : (s t u : SessionState) → Settles s t → u ≡ record t { unseen = u.unseen } → KeepsOpen s u
asking_keeps s t u settles asked =
    keeps_on s t u (settling_keeps s t settles)
    (record {
      count = ap (λ (x : SessionState). x.count) asked;
      ended = ap (λ (x : SessionState). x.ended) asked;
      most = ap (λ (x : SessionState). x.most) asked;
      unsealed = λ kind. unsealed_asked kind;
      item = λ on. (
        sym (ap (λ (x : SessionState). x.waits) asked) ∙ on,
        ap (λ (x : SessionState). (turn_node x)) asked,
        ap (λ (x : SessionState). item_of (turn_node x) x.queue) asked,
      );
    })
  where
    unsealed_asked : (kind : Kind) → unsealed kind u ≡ unsealed kind t
    unsealed_asked kind = unsealed_alike kind t u _ asked refl refl refl refl

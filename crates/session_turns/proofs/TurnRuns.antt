-- Turns of a session, one after the other.
use Rattle.std.proofs.Common.{◌<◌, ℕ, List, [], ◌∷◌, ◌++◌, Option, Some, None, Ok, Err, refl, sym, subst, append_assoc}
use Rattle.std.proofs.lemmas.List.{append-nil}
use Rattle.actor_parts.specs.declared.step.Answer.{Answer}
use Rattle.refusals.specs.declared.refusal.Refusal.{Refusal}
use Rattle.ingest_session.specs.History.{HasHistory}
use Rattle.ingest_session.specs.Settling.{most_waiting, seen}
use Rattle.ingest_session.specs.State.{SessionState}
use Rattle.store_core.specs.State.{CoreState}
use Rattle.session_turns.specs.Turning.{AllForRoom, Doing, IsCrowded, IsPaused, Maker, MakesRoomBy, RunBy, TakesTurnBy, TakesTurnsBy, Turn, does, session_at}
use Rattle.session_turns.specs.Turns.{TurnRun, core_maker}
use Rattle.ingest_session.proofs.Settled.{keeps_on}
use Rattle.ingest_session.proofs.Staying.{Stays, after, told}

-- ---- pauses

pub paused_still : (s : SessionState) → IsPaused s s
paused_still s = record {
  places = λ h has. ([], subst (λ (placed : List _). HasHistory s (record h { placed = placed })) (sym (append-nil h.placed)) has);
  keeps = record { count = refl; ended = refl; most = refl; unsealed = λ kind. refl; item = λ on. (on, refl, refl) };
}

pub paused_on : (s t u : SessionState) → IsPaused s t → IsPaused t u → IsPaused s u
paused_on s t u one two = record {
  places = λ h has.
      let first = one.places h has in
      let second = two.places (record h { placed = h.placed ++ first.0 }) first.1 in
      (first.0 ++ second.0, subst (λ (placed : List _). HasHistory u (record h { placed = placed })) (append_assoc h.placed first.0 second.0) second.1);
  keeps = keeps_on s t u one.keeps two.keeps;
}

-- a pause before a turn is of the turn
pub pause_then_turn : (runs : Type 0) (did : Doing) (answer : Answer) (s t u : SessionState) → IsPaused s t → Turn runs did answer t u → Turn runs did answer s u
pause_then_turn runs did answer s t u pause turn = record {
  before = turn.before;
  paused = paused_on s t turn.before pause turn.paused;
  settled = turn.settled;
  asks = turn.asks;
  running = turn.running;
  fits = turn.fits;
  told = turn.told;
  history = turn.history;
}

-- ---- what turns leave as it is

pause_stays : (s t : SessionState) → IsPaused s t → Stays s t
pause_stays s t pause = record { ended = pause.keeps.ended; count = pause.keeps.count; most = pause.keeps.most }

pub turn_stays : (runs : Type 0) (did : Doing) (answer : Answer) (s t : SessionState) → Turn runs did answer s t → Stays s t
turn_stays runs did answer s t turn =
    after s turn.before t (pause_stays s turn.before turn.paused) (subst (Stays turn.before) (sym turn.told) (told answer turn.before))

module _ (M : Type 0) (maker : Maker M) (actor : ℕ) where
  pub turns_stay_by : (answers : List Answer) (s t : SessionState) (old new : M) → RunBy maker actor answers s t old new → Stays s t
  turns_stay_by [] s t old new run = pause_stays s t run.0
  turns_stay_by (answer ∷ answers) s t old new run =
      after s run.0 t (turn_stays (maker.runs run.1) (does maker actor old run.1) answer s run.0 run.2) (turns_stay_by answers run.0 t run.1 new run.3)

  pub no_turns : (s : SessionState) (c : M) → RunBy maker actor [] s s c c
  no_turns s c = (paused_still s, refl)

  -- ---- one more

  pub turns_then_pause : (answers : List Answer) (s t u : SessionState) (old new : M) → RunBy maker actor answers s t old new → IsPaused t u
      → RunBy maker actor answers s u old new
  turns_then_pause [] s t u old new run pause = (paused_on s t u run.0 pause, run.1)
  turns_then_pause (answer ∷ answers) s t u old new run pause = (run.0, run.1, run.2, turns_then_pause answers run.0 t u run.1 new run.3 pause)

  pub turns_then_one : (answers : List Answer) (answer : Answer) (s t u : SessionState) (old mid new : M) → RunBy maker actor answers s t old mid
      → Turn (maker.runs new) (does maker actor mid new) answer t u
      → RunBy maker actor (answers ++ answer ∷ []) s u old new
  turns_then_one [] answer s t u old mid new run turn = (
    u,
    new,
    subst (λ (c : M). Turn (maker.runs new) (does maker actor c new) answer s u) run.1
        (pause_then_turn (maker.runs new) (does maker actor mid new) answer s t u run.0 turn),
    no_turns u new,
  )
  turns_then_one (first ∷ answers) answer s t u old mid new run turn = (run.0, run.1, run.2, turns_then_one answers answer run.0 t u run.1 mid new run.3 turn)

  pub turns_then : (T U : Type 0) (x : T) (y : U) (s t u : SessionState) (old mid new : M) → TakesTurnsBy maker actor (Ok x) s t old mid → (answer : Answer)
      → TakesTurnBy maker actor (Ok (Some answer)) t u mid new
      → TakesTurnsBy maker actor (Ok y) s u old new
  turns_then T U x y s t u old mid new run answer turn = (run.0 ++ answer ∷ [], turns_then_one run.0 answer s t u old mid new run.1 turn)

  pub turns_then_none : (T U : Type 0) (x : T) (y : U) (s t u : SessionState) (old mid new : M) → TakesTurnsBy maker actor (Ok x) s t old mid
      → TakesTurnBy maker actor (Ok None) t u mid new
      → TakesTurnsBy maker actor (Ok y) s u old new
  turns_then_none T U x y s t u old mid new run none =
      (run.0, subst (λ (c : M). RunBy maker actor run.0 s u old c) (sym none.3) (turns_then_pause run.0 s t u old mid run.1 none.0))

  pub turns_then_stop : (T U : Type 0) (x : T) (refusal : Refusal) (s t u : SessionState) (old mid new : M) → TakesTurnsBy maker actor (Ok x) s t old mid
      → TakesTurnBy maker actor (Err refusal) t u mid new
      → TakesTurnsBy maker actor {T = U} (Err refusal) s u old new
  turns_then_stop T U x refusal s t u old mid new run stop = (run.0, t, mid, run.1, stop)

  -- whether there was a turn or none
  pub turns_then_any : (T U : Type 0) (x : T) (y : U) (s t u : SessionState) (old mid new : M) → TakesTurnsBy maker actor (Ok x) s t old mid → (made : Option Answer)
      → TakesTurnBy maker actor (Ok made) t u mid new
      → TakesTurnsBy maker actor (Ok y) s u old new
  turns_then_any T U x y s t u old mid new run None none = turns_then_none T U x y s t u old mid new run none
  turns_then_any T U x y s t u old mid new run (Some answer) turn = turns_then T U x y s t u old mid new run answer turn

  -- ---- one more, for room

  pause_for_room : (answers : List Answer) (s t u : SessionState) (old new : M) (run : RunBy maker actor answers s t old new) (pause : IsPaused t u) →
      AllForRoom maker actor answers (session_at s old) (session_at t new) run
      → AllForRoom maker actor answers (session_at s old) (session_at u new) (turns_then_pause answers s t u old new run pause)
  unfolding turns_then_pause
  pause_for_room [] s t u old new run pause room = tt
  pause_for_room (answer ∷ answers) s t u old new run pause room = (room.0, pause_for_room answers run.0 t u run.1 new run.3 pause room.1)

  one_for_room : (answers : List Answer) (answer : Answer) (s t u : SessionState) (old mid new : M) (run : RunBy maker actor answers s t old mid)
      (turn : Turn (maker.runs new) (does maker actor mid new) answer t u)
      → AllForRoom maker actor answers (session_at s old) (session_at t mid) run → IsCrowded t
      → AllForRoom maker actor (answers ++ answer ∷ []) (session_at s old) (session_at u new) (turns_then_one answers answer s t u old mid new run turn)
  unfolding turns_then_one
  one_for_room [] answer s t u old mid new run turn room crowded = ((crowded.0, paused_on s t crowded.0 run.0 crowded.1, crowded.2), tt)
  one_for_room (first ∷ answers) answer s t u old mid new run turn room crowded = (room.0, one_for_room answers answer run.0 t u run.1 mid new run.3 turn room.1 crowded)

  pub room_then_any : (T U : Type 0) (x : T) (y : U) (s t u : SessionState) (old mid new : M) → MakesRoomBy maker actor (Ok x) s t old mid → most_waiting t < seen t →
      (made : Option Answer)
      → TakesTurnBy maker actor (Ok made) t u mid new
      → MakesRoomBy maker actor (Ok y) s u old new
  room_then_any T U x y s t u old mid new room many None none =
      let paused = turns_then_pause room.0 s t u old mid room.1 none.0 in
      subst (λ (c : M). MakesRoomBy maker actor (Ok y) s u old c) (sym none.3) (room.0, paused, pause_for_room room.0 s t u old mid room.1 none.0 room.2)
  room_then_any T U x y s t u old mid new room many (Some answer) turn = (
    room.0 ++ answer ∷ [],
    turns_then_one room.0 answer s t u old mid new room.1 turn,
    one_for_room room.0 answer s t u old mid new room.1 turn room.2 (t, paused_still t, many),
  )

  pub room_then_stop : (T U : Type 0) (x : T) (refusal : Refusal) (s t u : SessionState) (old mid new : M) → MakesRoomBy maker actor (Ok x) s t old mid → most_waiting t < seen t
      → TakesTurnBy maker actor (Err refusal) t u mid new
      → MakesRoomBy maker actor {T = U} (Err refusal) s u old new
  room_then_stop T U x refusal s t u old mid new room many stop = ((room.0, t, mid, room.1, stop), (room.2, (t, paused_still t, many)))

-- ---- of a core

pub turns_stay : (C : Type 0) (state : C → CoreState) (actor : ℕ) (answers : List Answer) (s t : SessionState) (old new : C) → TurnRun C state actor answers s t old new → Stays s t
turns_stay C state = turns_stay_by C (core_maker C state)

-- A session that is fed a file, call by call.
use Rattle.backup_engine.proofs.Prelude.{◌≡◌, ◌⊎◌, inl, inr, ◌∙◌, ℕ, false, List, [], ◌∷◌, ◌++◌, Some, None, refl, sym, ap, subst, Kind, KindSegment, Segment, Answer, kept_of, FileEvent, CoreState, Claim, Seal, IsEnding, due_in, item_kind, History, HasHistory, IsBegun, answered, no_history, IsItem, SessionState, turn_node, told_by, in_left, in_right, IsFed, MayBe, opens_of, AreNew, Way, IsOneOf, item_is, one_item}
use Rattle.std.proofs.Common.{append_assoc, take}
use Rattle.container_meta.specs.Segments.{Contents}
use Rattle.actor_parts.specs.declared.step.Answer.TheVariants as answers
use Rattle.ingest_session.specs.Calls.{IsTaking}
use Rattle.ingest_session.specs.Facts.{IsKept}
use Rattle.ingest_session.specs.Due.{offered_in}
use Rattle.ingest_session.specs.History.{KeepsOpen, Places}
use Rattle.ingest_session.proofs.Staying.{told}
use Rattle.ingest_session.proofs.KeptPieces.{kept_absent, kept_held, kept_sealed}
use Rattle.ingest_session.proofs.SealsSome.{offer_kinds}
use Rattle.ingest_session.proofs.Waiting.{session_of}
use Rattle.ingest_session.proofs.Sealing.{ending_unsealed, new_unsealed, taking_unsealed}
use Rattle.ingest_session.proofs.OpenOn.{opens_held}
use Rattle.store_core.specs.Keeping.{segments_in}
use Rattle.store_machine.proofs.OfOneKind.{all_taken}
use Rattle.backup_engine.proofs.FedOpens.{one_in}
use Rattle.backup_engine.proofs.Ways.{way_as}

-- ---- which files it may be

pub may_be_still : (given : List ℕ) (s t : SessionState) (file : List ℕ) → t.ended ≡ s.ended → MayBe given t file → MayBe given s file
may_be_still given s t file same is = (is.0, λ on. is.1 (same ∙ on), is.2)

module _ (C : Type 0) (state : C → CoreState) where
  -- The session is another, which says no more of what is kept and of the file, and has as much to seal.
  fed_as : (given now : List ℕ) (s t : SessionState) (start old : C) (fed : IsFed C state given s start old) (h : History) → HasHistory t h → h.given ≡ now
      → ((kind : Kind) (x : Segment) → IsKept h kind x → IsKept fed.history kind x) → ((file : List ℕ) → MayBe now t file → MayBe given s file) →
      ((kind : Kind) → opens_of t kind ≡ opens_of s kind)
      → IsFed C state now t start old
  fed_as given now s t start old fed h has given_is kept files opens =
      let way = way_as C state (MayBe given s) (opens_of s) start old fed.way (MayBe now t) (opens_of t) files
      (λ kind places fresh. subst (AreNew places kind) (sym (opens kind)) fresh) in
      record {
        history = h;
        has = has;
        given_is = given_is;
        way = way.0;
        told = λ kind x is.
            subst (λ (steps : List FileEvent). IsOneOf (record { kind = kind; segment = x }) (kept_of steps)) (sym way.1) (fed.told kind x (kept kind x is));
      }

  -- ---- the calls

  pub fed_begun : (s : SessionState) (start old : C) → IsBegun s → HasHistory s no_history → (w : Way C state (MayBe [] s) (λ kind. []) start old) → IsFed C state [] s start old
  fed_begun s start old begun has w =
      let none : (kind : Kind) → opens_of s kind ≡ [] = λ kind. new_unsealed kind s begun in
      let way = way_as C state (MayBe [] s) (λ kind. []) start old w (MayBe [] s) (opens_of s) (λ file is. is)
      (λ kind places fresh. subst (AreNew places kind) (sym (none kind)) tt) in
      record { history = no_history; has = has; given_is = refl; way = way.0; told = λ kind x is. absurd (let no : None ≡ Some x = is.1 in cc) }

  pub fed_due : (given : List ℕ) (s t : SessionState) (start old : C) → IsFed C state given s start old → Places s t → KeepsOpen s t → IsFed C state given t start old
  fed_due given s t start old fed places keeps =
      let moved = places fed.history fed.has in
      fed_as given given s t start old fed (record fed.history { placed = fed.history.placed ++ moved.0 }) moved.1 fed.given_is (λ kind x is. is)
      (λ file is. may_be_still given s t file keeps.ended is) keeps.unsealed

  pub fed_pushed : (given bytes : List ℕ) (s t : SessionState) (start old : C) → IsFed C state given s start old → s.ended ≡ false → IsTaking bytes s t
      → ((h : History) → HasHistory s h → HasHistory t (record h { given = h.given ++ bytes })) → IsFed C state (given ++ bytes) t start old
  fed_pushed given bytes s t start old fed ongoing taking history =
      fed_as given (given ++ bytes) s t start old fed (record fed.history { given = fed.history.given ++ bytes }) (history fed.history fed.has)
      (ap (λ (l : List ℕ). l ++ bytes) fed.given_is) (λ kind x is. is)
      (λ file is. (bytes ++ is.0, λ on. absurd (let both = sym ongoing ∙ on in cc), is.2 ∙ append_assoc given bytes is.0))
      (λ kind. taking_unsealed kind bytes s t taking)

  pub fed_ended : (given : List ℕ) (s t : SessionState) (start old : C) → IsFed C state given s start old → IsEnding s t → ((h : History) → HasHistory s h → HasHistory t h) →
      IsFed C state given t start old
  fed_ended given s t start old fed ending history =
      fed_as given given s t start old fed fed.history (history fed.history fed.has) fed.given_is (λ kind x is. is)
      (λ file is. (is.0, λ on. absurd (let both = sym ending.ongoing ∙ on in cc), is.2))
      (λ kind. ending_unsealed kind s t ending)

  -- ---- what it is told

  module _ (given : List ℕ) (s : SessionState) (start old new : C) (fed : IsFed C state given s start old) where
    abbrev kept_before : List KindSegment
    kept_before = kept_of fed.way.steps

    -- the way on, with what was kept
    abbrev pub WayOn : (Kind → List Segment) → List KindSegment → Type 0
    WayOn opens more = (v : Way C state (MayBe given s) opens start new) × (kept_of v.steps ≡ kept_before ++ more)

    fed_on : (answer : Answer) (more : List KindSegment) → WayOn (opens_of (told_by answer s)) more → HasHistory (told_by answer s) (answered answer s fed.history)
        → ((kind : Kind) (x : Segment) → IsKept (answered answer s fed.history) kind x → IsKept fed.history kind x ⊎ IsOneOf (record { kind = kind; segment = x }) more)
        → IsFed C state given (told_by answer s) start new
    fed_on answer more on has kept =
        let narrow = way_as C state (MayBe given s) (opens_of (told_by answer s)) start new on.0 (MayBe given (told_by answer s)) (opens_of (told_by answer s))
        (λ file is. may_be_still given s (told_by answer s) file (told answer s).ended is) (λ kind places fresh. fresh) in
        record {
          history = answered answer s fed.history;
          has = has;
          given_is = fed.given_is;
          way = narrow.0;
          told = λ kind x is.
              let seg : KindSegment = record { kind = kind; segment = x } in
              subst (IsOneOf seg) (sym (ap kept_of narrow.1 ∙ on.1))
              (elim (kept kind x is) [
                | inl before ↦ in_left kept_before more seg (fed.told kind x before)
                | inr now ↦ in_right kept_before more seg now
              ]);
        }

    pub fed_held : (seg : KindSegment) → due_in s ≡ Claim → IsItem (turn_node s) s.queue seg → WayOn (opens_of s) (seg ∷ []) →
        HasHistory (told_by answers.Held s) (answered answers.Held s fed.history)
        → IsFed C state given (told_by answers.Held s) start new
    fed_held seg due item on has =
        let opens = way_as C state (MayBe given s) (opens_of s) start new on.0 (MayBe given s) (opens_of (told_by answers.Held s)) (λ file is. is)
        (λ kind places fresh. subst (AreNew places kind) (sym (opens_held s kind due)) fresh) in
        fed_on answers.Held (seg ∷ []) (opens.0, ap kept_of opens.1 ∙ on.1) has
        (λ kind x is. elim (kept_held s fed.history kind x is) [
          | inl before ↦ inl before
          | inr now ↦
              let same = one_item s kind x now in
              let whole : record { kind = kind; segment = x } ≡ seg =
              ap (λ (k : Kind). let y : KindSegment = record { kind = k; segment = x } in y) same.0
              ∙ ap (λ (z : Segment). let y : KindSegment = record { kind = item_kind (turn_node s); segment = z } in y) same.1
              ∙ sym (item_is (turn_node s) s.queue seg item) in
              inr (0, ap Some (sym whole))
        ])

    pub fed_absent : WayOn (opens_of (told_by answers.Absent s)) [] → HasHistory (told_by answers.Absent s) (answered answers.Absent s fed.history)
        → IsFed C state given (told_by answers.Absent s) start new
    fed_absent on has = fed_on answers.Absent [] on has (λ kind x is. inl (kept_absent s fed.history kind x is))

    pub fed_sealed : (id count : ℕ) (mine : Kind) → due_in s ≡ Seal mine
        → WayOn (opens_of (told_by (answers.Sealed id count) s)) (segments_in (take count (offered_in s mine)))
        → HasHistory (told_by (answers.Sealed id count) s) (answered (answers.Sealed id count) s fed.history)
        → IsFed C state given (told_by (answers.Sealed id count) s) start new
    fed_sealed id count mine due on has =
        let sealed : List Contents = take count (offered_in s mine) in
        fed_on (answers.Sealed id count) (segments_in sealed) on has
        (λ kind x is. elim (kept_sealed s fed.history kind x id count mine due is) [
          | inl before ↦ inl before
          | inr now ↦ inr (subst (λ (k : Kind). IsOneOf (record { kind = k; segment = x }) (segments_in sealed)) (sym now.0)
              (one_in mine sealed (all_taken (λ c. c.kind ≡ mine) count (offered_in s mine) (offer_kinds s mine (session_of s fed.history fed.has))) x now.1))
        ])

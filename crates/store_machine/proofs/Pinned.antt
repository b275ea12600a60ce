-- All that is kept of what an actor gives it has pinned: so it is as more is given, and after each turn.
use Rattle.store_machine.proofs.Prelude.{◌≡◌, inl, inr, ◌∙◌, ℕ, Bool, true, false, [], ◌∷◌, ◌++◌, Some, refl, sym, ap, subst, Kind, KindSegment, Segment, segment_key, segments_of, Answer, PinMap, first_unpinned, pin_of, root_key, Claim, Nothing, due_in, IsDueFor, History, HasHistory, SessionState, turn_node, IsSettled, of_kind, Session, new_session, HasTwins}
use Rattle.std.proofs.Common.{List, append_assoc, take}
use Rattle.std.specs.FinMap as finite
use Rattle.container_meta.specs.Segments.{Contents}
use Rattle.actor_parts.specs.declared.step.Answer.TheVariants as answers
use Rattle.store_model.specs.Trees.{root_of}
use Rattle.ingest_session.specs.declared.due.Due.{Due}
use Rattle.ingest_session.specs.declared.due.Due.TheVariants.{Seal}
use Rattle.ingest_session.specs.Due.{item_kind, offered_in, segments_of_all}
use Rattle.ingest_session.specs.Facts.{IsKept, MayFollow}
use Rattle.ingest_session.specs.History.{answered}
use Rattle.ingest_session.specs.Items.{item_of}
use Rattle.ingest_session.specs.Moving.{IsOffered}
use Rattle.ingest_session.specs.Told.{IsAnswerFor}
use Rattle.ingest_session.proofs.KeptOn.{KeptBy, after_kept, here_kept, kept_after, kept_here, none_kept}
use Rattle.ingest_session.proofs.KeptPieces.{held_kept, item_in, item_is, kept_absent, kept_held, kept_sealed, kept_still, one_item, sealed_kept}
use Rattle.ingest_session.proofs.Members.{all_of}
use Rattle.ingest_session.proofs.SealsSome.{offer_kinds}
use Rattle.ingest_session.proofs.Waiting.{session_of}
use Rattle.store_machine.specs.Needs as needs
use Rattle.store_machine.specs.Offers.{AllSegments, first_unkept_in}
use Rattle.store_machine.proofs.OfOneKind.{AreOf, all_taken, each_of, one_of_all}
use Rattle.store_machine.proofs.Lacking.{claim_twins, root_twins, seal_twins}
use Rattle.store_machine.proofs.Pins.{HasPinOf, last_pin, next_pin, pin_still, pins_come, pins_stay, with_pins_in}

-- However the file goes on, the key of each segment that is kept has the pin of one that is.
pub record Pinned (s : Session) (pins : PinMap) : Type 0 where
  pub each : (more : List ℕ) → (s.ended ≡ true → more ≡ []) → (kind : Kind) (x : Segment) → KeptBy (segments_of (s.given ++ more)) s.answers kind x
      → HasPinOf (KeptBy (segments_of (s.given ++ more)) s.answers) pins (segment_key kind x)

pub new_pinned : Pinned new_session finite.empty
new_pinned = record { each = λ more follow kind x is. absurd (none_kept (segments_of ([] ++ more)) kind x is) }

-- more is given
pub pinned_more : (s : Session) (pins : PinMap) (bytes : List ℕ) → s.ended ≡ false → Pinned s pins → Pinned (record s { given = s.given ++ bytes }) pins
pinned_more s pins bytes off pinned = record {
  each = λ more follow kind x is.
      subst (λ (file : List ℕ). HasPinOf (KeptBy (segments_of file) s.answers) pins (segment_key kind x)) (sym (append_assoc s.given bytes more))
      (pinned.each (bytes ++ more) (λ on. absurd (let both : true ≡ false = sym on ∙ off in cc)) kind x
      (subst (λ (file : List ℕ). KeptBy (segments_of file) s.answers kind x) (append_assoc s.given bytes more) is));
}

-- that was all of it
pub pinned_ended : (s : Session) (pins : PinMap) → s.ended ≡ false → Pinned s pins → Pinned (record s { ended = true }) pins
pinned_ended s pins off pinned =
    record { each = λ more follow kind x is. pinned.each more (λ on. absurd (let both : true ≡ false = sym on ∙ off in cc)) kind x is }

-- ---- beside the history of a session

-- what it was given and told
abbrev pub told_of : SessionState → History → Session
told_of s h = record { given = h.given; ended = s.ended; answers = h.answers }

pub same_told : (s : Session) (due : Due) (is : IsDueFor s.given s.ended s.answers due) → told_of is.session is.history ≡ s
same_told s due is =
    ap (λ (g : List ℕ). let t : Session = record { given = g; ended = is.session.ended; answers = is.history.answers } in t) is.given_is
    ∙ ap (λ (b : Bool). let t : Session = record { given = s.given; ended = b; answers = is.history.answers } in t) is.ended_is
    ∙ ap (λ (told : List Answer). let t : Session = record { given = s.given; ended = s.ended; answers = told } in t) is.answers_are

module _ (s : SessionState) (h : History) (has : HasHistory s h) (pins : PinMap) (pinned : Pinned (told_of s h) pins) where
  kept_pinned : (kind : Kind) (x : Segment) → IsKept h kind x → HasPinOf (IsKept h) pins (segment_key kind x)
  kept_pinned kind x is =
      pin_still (KeptBy (segments_of (h.given ++ [])) h.answers) (IsKept h) pins (segment_key kind x) (here_kept s h [] has (λ ended. refl))
      (pinned.each [] (λ ended. refl) kind x (kept_here s h [] has (λ ended. refl) kind x is))

  abbrev Twins : List ℕ → Type 0
  Twins key = HasTwins h.given s.ended key

  pub claim_lacks : IsSettled s → due_in s ≡ Claim → (seg : KindSegment) → IsOffered s seg → (key : List ℕ) → first_unpinned seg pins ≡ Some key → Twins key
  claim_lacks settled due seg offered key unpinned = claim_twins s h has pins kept_pinned settled due seg offered.is key unpinned

  pub seal_lacks : (kind : Kind) (key : List ℕ) → first_unkept_in (offered_in s kind) pins ≡ Some key → Twins key
  seal_lacks kind key unpinned = seal_twins s h has pins kept_pinned kind key unpinned

  pub root_lacks : s.ended ≡ true → due_in s ≡ Nothing → ¬ (needs.IsKept pins (root_of h.given)) → Twins (root_key (root_of h.given))
  root_lacks ended due unkept = root_twins s h has pins kept_pinned ended due unkept

  -- ---- after an answer

  module _ (answer : Answer) (settled : IsSettled s) (right : IsAnswerFor answer s) where
    abbrev pub next : Session
    next = record { given = h.given; ended = s.ended; answers = h.answers ++ answer ∷ [] }

    module _ (more : List ℕ) (follow : MayFollow more s) where
      abbrev KeptNow : Kind → Segment → Type 0
      KeptNow = KeptBy (segments_of (h.given ++ more)) (h.answers ++ answer ∷ [])

      now : (kind : Kind) (x : Segment) → IsKept (answered answer s h) kind x → KeptNow kind x
      now kind x is = kept_after s h more has follow answer settled right kind x is

      -- what was kept is pinned still
      before : (kind : Kind) (x : Segment) → IsKept h kind x → HasPinOf KeptNow pins (segment_key kind x)
      before kind x is =
          pin_still (KeptBy (segments_of (h.given ++ more)) h.answers) KeptNow pins (segment_key kind x)
          (λ k y kept. now k y (kept_still s h k y answer (here_kept s h more has follow k y kept)))
          (pinned.each more follow kind x (kept_here s h more has follow kind x is))

  pub absent_pinned : (settled : IsSettled s) (right : IsAnswerFor answers.Absent s) → Pinned (next answers.Absent settled right) pins
  absent_pinned settled right = record {
    each = λ more follow kind x is.
        before answers.Absent settled right more follow kind x (kept_absent s h kind x (after_kept s h more has follow answers.Absent settled right kind x is));
  }

  pub held_pinned : (settled : IsSettled s) (right : IsAnswerFor answers.Held s) (seg : KindSegment) → IsOffered s seg
      → Pinned (next answers.Held settled right) (finite.insert pins (segment_key seg.kind seg.segment) (pin_of seg))
  held_pinned settled right seg offered = record { each = each }
    where
      seg_is : seg ≡ of_kind (item_kind (turn_node s)) (item_of (turn_node s) s.queue)
      seg_is = item_is (turn_node s) s.queue seg offered.is

      own : IsKept (answered answers.Held s h) seg.kind seg.segment
      own = subst (λ (y : KindSegment). IsKept (answered answers.Held s h) y.kind y.segment) (sym seg_is)
          (held_kept s h (item_kind (turn_node s)) (item_of (turn_node s) s.queue) (item_in s))

      each : (more : List ℕ) → MayFollow more s → (kind : Kind) (x : Segment) → KeptBy (segments_of (h.given ++ more)) (h.answers ++ answers.Held ∷ []) kind x
          → HasPinOf (KeptBy (segments_of (h.given ++ more)) (h.answers ++ answers.Held ∷ [])) (finite.insert pins (segment_key seg.kind seg.segment) (pin_of seg))
          (segment_key kind x)
      each more follow kind x is =
          let K = KeptNow answers.Held settled right more follow in
          let mine = now answers.Held settled right more follow seg.kind seg.segment own in
          elim (kept_held s h kind x (after_kept s h more has follow answers.Held settled right kind x is)) [
            | inl was ↦ next_pin K seg.kind seg.segment mine pins (segment_key kind x) (before answers.Held settled right more follow kind x was)
            | inr item ↦
                let one = one_item s kind x item in
                let same : of_kind kind x ≡ seg =
                ap (λ (k : Kind). of_kind k x) one.0 ∙ ap (of_kind (item_kind (turn_node s))) one.1 ∙ sym seg_is in
                last_pin K seg.kind seg.segment mine pins (segment_key kind x) (ap (λ (y : KindSegment). segment_key y.kind y.segment) (sym same))
          ]

  pub sealed_pinned : (id count : ℕ) (mine : Kind) (settled : IsSettled s) (right : IsAnswerFor (answers.Sealed id count) s) → due_in s ≡ Seal mine
      → Pinned (next (answers.Sealed id count) settled right) (with_pins_in (take count (offered_in s mine)) pins)
  sealed_pinned id count mine settled right due = record { each = each }
    where
      taken : List Contents
      taken = take count (offered_in s mine)

      kinds : AreOf mine taken
      kinds = all_taken (λ c. c.kind ≡ mine) count (offered_in s mine) (offer_kinds s mine (session_of s h has))

      each : (more : List ℕ) → MayFollow more s → (kind : Kind) (x : Segment) → KeptBy (segments_of (h.given ++ more)) (h.answers ++ answers.Sealed id count ∷ []) kind x
          → HasPinOf (KeptBy (segments_of (h.given ++ more)) (h.answers ++ answers.Sealed id count ∷ [])) (with_pins_in taken pins) (segment_key kind x)
      each more follow kind x is =
          let K = KeptNow (answers.Sealed id count) settled right more follow in
          let all : AllSegments K taken =
          each_of K mine taken kinds
          (all_of (K mine) (segments_of_all taken) (λ y there. now (answers.Sealed id count) settled right more follow mine y (sealed_kept s h mine y id count due there))) in
          elim (kept_sealed s h kind x id count mine due (after_kept s h more has follow (answers.Sealed id count) settled right kind x is)) [
            | inl was ↦ pins_stay K taken pins (segment_key kind x) all (before (answers.Sealed id count) settled right more follow kind x was)
            | inr now ↦
                subst (λ (k : Kind). HasPinOf K (with_pins_in taken pins) (segment_key k x)) (sym now.0)
                (one_of_all (λ k y. HasPinOf K (with_pins_in taken pins) (segment_key k y)) mine taken kinds (pins_come K taken pins all) x now.1)
          ]

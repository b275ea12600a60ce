-- What the turns of a session have put into a store, and left out of it: pieces of its file, each of them once.
use Rattle.store_machine.proofs.Prelude.{AllByRecursion, Answer, AreTurns, Asked, ChangeName, Claim, Claims, Contains, Does, Done, HasHistory, History, IsDueFor, IsDueOf, IsDueStep, IsIn, IsSettled, Kind, KindSegment, Legal, Makes, None, NothingIsDue, Ok, Refusal, Result, Run, Running, SealContainer, Seals, Segment, Session, SessionState, Some, Store, StoreChange, [], answer_of, ap, arith, due_in, false, inl, inr, last_id, length, new_session, of_files, of_kind, refl, segment_key, segments_of, subst, sym, true, turn_node, ℕ, ◌++◌, ◌∙◌, ◌∷◌, ◌≡◌, ◌≤◌}
use Rattle.std.proofs.Common.{List, append_assoc, append-nil, take}
use Rattle.std.proofs.lemmas.Option.{same_Some}
use Rattle.actor_parts.specs.declared.step.Answer.TheVariants as answers
use Rattle.container_meta.specs.Segments.{Contents}
use Rattle.store_model.specs.Pieces.{HasPieceOf, piece_segment}
use Rattle.store_model.specs.Slots.{newest}
use Rattle.ingest_session.specs.declared.due.Due.{Due}
use Rattle.ingest_session.specs.declared.due.Due.TheVariants as dues
use Rattle.ingest_session.specs.Due.{item_kind, offered_in, segments_of_all}
use Rattle.ingest_session.specs.Facts.{IsKept, MayFollow}
use Rattle.ingest_session.specs.History.{item_if, unsealed}
use Rattle.ingest_session.specs.Moving.{IsOffered}
use Rattle.ingest_session.specs.Told.{IsAnswerFor}
use Rattle.ingest_session.proofs.Ends.{all_is_kept, bytes_are_counted}
use Rattle.ingest_session.proofs.Facts.{turns_are_pieces}
use Rattle.ingest_session.proofs.KeptOn.{KeptBy, after_kept, kept_here, none_kept}
use Rattle.ingest_session.proofs.KeptPieces.{item_is, item_piece, kept_absent, kept_held, kept_sealed, one_item}
use Rattle.ingest_session.proofs.Members.{all_append, all_of, in_either, one_of}
use Rattle.ingest_session.proofs.Offered.{offered_apart, offered_are_pieces, offered_unsealed, some_offered}
use Rattle.ingest_session.proofs.SealsSome.{offer_kinds}
use Rattle.ingest_session.proofs.OpenOn.{OpenBy, after_open, left_differs, none_open, open_here, opens_absent, opens_held}
use Rattle.ingest_session.proofs.Waiting.{claimed_has_turn, session_of}
use Rattle.store_machine.specs.Asked as asked
use Rattle.store_machine.specs.Done as done
use Rattle.store_machine.specs.Ingests.{IsSealFor}
use Rattle.store_machine.specs.Needs.{HasLength, IsLacked}
use Rattle.store_machine.specs.Offers.{AddsContainers, AllSegments}
use Rattle.store_machine.specs.Storing.{AddsOnce, AsksPieces, HoldsFile, LacksPiece}
use Rattle.store_machine.proofs.OfOneKind.{AreOf, all_taken, apart_of, apart_taken, each_of, one_of_all}
use Rattle.store_machine.proofs.Added.{seals_few}
use Rattle.store_machine.proofs.Lacking.{key_is}
use Rattle.store_machine.proofs.Pinned.{same_told, told_of}
use Rattle.store_machine.proofs.Quiet.{F, Step, answers as answers_of, by_of, due_is_quiet, step_done, told_ok}
use Rattle.store_machine.proofs.Sealings.{AreApart, Holds, Lacks, LacksKey, adds_then, beside_all, forgotten_all, held_all, hold_all, last_all, makes_all, once_all, seals_are_for, seals_of}
use Rattle.store_machine.proofs.SweptAlone.{makes_then}

-- ---- what was sealed, of a longer file

seal_on : (given more : List ℕ) (change : StoreChange) → IsSealFor given change → IsSealFor (given ++ more) change
seal_on given more (SealContainer id kind segments) (offered, (part, rest, is, due), one) =
    (offered, (part, rest ++ more, ap (λ (g : List ℕ). g ++ more) is ∙ append_assoc part rest more, due), one)
seal_on given more (ChangeName name change) is = absurd is
seal_on given more other is = absurd is

seals_on : (given more : List ℕ) (changes : List StoreChange) → AllByRecursion (IsSealFor given) changes → AllByRecursion (IsSealFor (given ++ more)) changes
seals_on given more [] all = tt
seals_on given more (x ∷ xs) (one, all) = (seal_on given more x one, seals_on given more xs all)

none_in : (key : List ℕ) → Contains (let keys : List (List ℕ) = [] in keys) key → ⊥
none_in key (place, below, is) = absurd (omega (arith, below))

-- more bytes of a session's file
abbrev pub GoesOn : List ℕ → Session → Type 0
GoesOn more s = s.ended ≡ true → more ≡ []

-- Containers were added to the store that was opened, each of them once; however the file goes on, each segment that was answered Held, or
-- sealed, has a copy of its length, and what is to be sealed has none.
pub record Stores (opened : Store) (s : Session) (m : F) : Type 0 where
  pub changes : List StoreChange
  pub makes : Makes changes opened m.store
  pub seals : AllByRecursion (IsSealFor s.given) changes
  pub once : (more : List ℕ) → GoesOn more s → AddsOnce (s.given ++ more) changes opened
  pub kept : (more : List ℕ) → GoesOn more s → (kind : Kind) (x : Segment) → KeptBy (segments_of (s.given ++ more)) s.answers kind x → HasLength m.store (of_kind kind x)
  pub fresh : (more : List ℕ) → GoesOn more s → (kind : Kind) (x : Segment) → OpenBy (segments_of (s.given ++ more)) s.answers kind x
      → newest 0 m.store.held (segment_key kind x) ≡ None
  pub forgotten : m.forgotten ≡ []
  pub last : m.last_id ≡ last_id m.store.held

module _ (opened : Store) where
  pub new_stores : (m : F) → m.store ≡ opened → m.forgotten ≡ [] → m.last_id ≡ last_id m.store.held → Stores opened new_session m
  new_stores m is none last = record {
    changes = [];
    makes = is;
    seals = tt;
    once = λ more on. tt;
    kept = λ more on kind x by. absurd (none_kept (segments_of ([] ++ more)) kind x by);
    fresh = λ more on kind x by. absurd (none_open (segments_of ([] ++ more)) kind x by);
    forgotten = none;
    last = last;
  }

  -- on a machine of the same store
  pub stores_still : (s : Session) (m n : F) → n.store ≡ m.store → n.forgotten ≡ m.forgotten → n.last_id ≡ m.last_id → Stores opened s m → Stores opened s n
  stores_still s m n store forgotten last stores = record {
    changes = stores.changes;
    makes = subst (Makes stores.changes opened) (sym store) stores.makes;
    seals = stores.seals;
    once = stores.once;
    kept = λ more on kind x by. subst (λ (t : Store). HasLength t (of_kind kind x)) (sym store) (stores.kept more on kind x by);
    fresh = λ more on kind x by. subst (λ (t : Store). newest 0 t.held (segment_key kind x) ≡ None) (sym store) (stores.fresh more on kind x by);
    forgotten = forgotten ∙ stores.forgotten;
    last = last ∙ stores.last ∙ sym (ap (λ (t : Store). last_id t.held) store);
  }

  module _ (s : Session) (m : F) (off : s.ended ≡ false) (stores : Stores opened s m) where
    on_not : {A : Type 0} → s.ended ≡ true → A
    on_not on = absurd (let both : true ≡ false = sym on ∙ off in cc)

    -- more is given
    pub stores_more : (bytes : List ℕ) → Stores opened (record s { given = s.given ++ bytes }) m
    stores_more bytes = record {
      changes = stores.changes;
      makes = stores.makes;
      seals = seals_on s.given bytes stores.changes stores.seals;
      once = λ more on.
          subst (λ (file : List ℕ). AddsOnce file stores.changes opened) (sym (append_assoc s.given bytes more)) (stores.once (bytes ++ more) on_not);
      kept = λ more on kind x by. stores.kept (bytes ++ more) on_not kind x
          (subst (λ (file : List ℕ). KeptBy (segments_of file) s.answers kind x) (append_assoc s.given bytes more) by);
      fresh = λ more on kind x by. stores.fresh (bytes ++ more) on_not kind x
          (subst (λ (file : List ℕ). OpenBy (segments_of file) s.answers kind x) (append_assoc s.given bytes more) by);
      forgotten = stores.forgotten;
      last = stores.last;
    }

    -- that was all of it
    pub stores_ended : Stores opened (record s { ended = true }) m
    stores_ended = record {
      changes = stores.changes;
      makes = stores.makes;
      seals = stores.seals;
      once = λ more on. stores.once more on_not;
      kept = λ more on. stores.kept more on_not;
      fresh = λ more on. stores.fresh more on_not;
      forgotten = stores.forgotten;
      last = stores.last;
    }

  -- ---- beside the history of a session

  module _ (x : SessionState) (h : History) (has : HasHistory x h) (m n : F) (stores : Stores opened (told_of x h) m) where
    abbrev opens : Kind → List Segment
    opens kind = unsealed kind x

    was_kept : (more : List ℕ) → MayFollow more x → (kind : Kind) (y : Segment) → IsKept h kind y → HasLength m.store (of_kind kind y)
    was_kept more on kind y is = stores.kept more on kind y (kept_here x h more has on kind y is)

    was_open : (more : List ℕ) → MayFollow more x → (kind : Kind) (y : Segment) → IsIn y (opens kind) → newest 0 m.store.held (segment_key kind y) ≡ None
    was_open more on kind y is = stores.fresh more on kind y (open_here x h more has on kind y is)

    -- what is offered to be sealed is held by nothing
    pub offered_lacks : (kind : Kind) → AllSegments (Lacks m.store) (offered_in x kind)
    offered_lacks kind =
        each_of (Lacks m.store) kind (offered_in x kind) (offer_kinds x kind (session_of x h has))
        (all_of (Lacks m.store kind) (segments_of_all (offered_in x kind)) (λ y is. was_open [] (λ on. refl) kind y (offered_unsealed x kind y is)))

    abbrev next : Answer → Session
    next told = record { given = h.given; ended = x.ended; answers = h.answers ++ told ∷ [] }

    item_key : (seg : KindSegment) → IsOffered x seg → (kind : Kind) (y : Segment) → IsIn y (item_if kind x) → of_kind kind y ≡ seg
    item_key seg offered kind y item =
        let one = one_item x kind y item in
        ap (λ (k : Kind). of_kind k y) one.0 ∙ ap (of_kind (item_kind (turn_node x))) one.1 ∙ sym (item_is (turn_node x) x.queue seg offered.is)

    pub held_stores : IsSettled x → (due : due_in x ≡ Claim) → (seg : KindSegment) → IsOffered x seg → Claims of_files 0 seg m n → Stores opened (next answers.Held) n
    held_stores settled due seg offered does =
        stores_still (next answers.Held) m n (ap (λ (z : F). z.store) does.others) (ap (λ (z : F). z.forgotten) does.others) (ap (λ (z : F). z.last_id) does.others) (record {
          changes = stores.changes;
          makes = stores.makes;
          seals = stores.seals;
          once = stores.once;
          kept = λ more on kind y by. elim (kept_held x h kind y (after_kept x h more has on answers.Held settled due kind y by)) [
            | inl was ↦ was_kept more on kind y was
            | inr item ↦ subst (HasLength m.store) (sym (item_key seg offered kind y item)) (does.held (inl tt)).0
          ];
          fresh = λ more on kind y by.
              was_open more on kind y (subst (IsIn y) (opens_held x kind due) (after_open x h more has on answers.Held settled due kind y by));
          forgotten = stores.forgotten;
          last = stores.last;
        })

    pub absent_stores : IsSettled x → (due : due_in x ≡ Claim) → (seg : KindSegment) → IsOffered x seg → IsLacked m.store m.forgotten (segment_key seg.kind seg.segment) → n ≡ m
        → Stores opened (next answers.Absent) n
    absent_stores settled due seg offered lacks others =
        stores_still (next answers.Absent) m n (ap (λ (z : F). z.store) others) (ap (λ (z : F). z.forgotten) others) (ap (λ (z : F). z.last_id) others) (record {
          changes = stores.changes;
          makes = stores.makes;
          seals = stores.seals;
          once = stores.once;
          kept = λ more on kind y by. was_kept more on kind y (kept_absent x h kind y (after_kept x h more has on answers.Absent settled due kind y by));
          fresh = λ more on kind y by.
              elim (in_either (opens kind) (item_if kind x) y (subst (IsIn y) (opens_absent x kind due) (after_open x h more has on answers.Absent settled due kind y by))) [
                | inl was ↦ was_open more on kind y was
                | inr item ↦ subst (λ (z : KindSegment). newest 0 m.store.held (segment_key z.kind z.segment) ≡ None) (sym (item_key seg offered kind y item)) (none lacks)
              ];
          forgotten = stores.forgotten;
          last = stores.last;
        })
      where
        none : IsLacked m.store m.forgotten (segment_key seg.kind seg.segment) → newest 0 m.store.held (segment_key seg.kind seg.segment) ≡ None
        none (inl is) = is
        none (inr there) = absurd (none_in _ (subst (λ (keys : List (List ℕ)). Contains keys (segment_key seg.kind seg.segment)) stores.forgotten there))

    module _ (id count : ℕ) (mine : Kind) (settled : IsSettled x) (due : due_in x ≡ dues.Seal mine) (some : 1 ≤ count)
        (few : count ≤ length (offered_in x mine)) where
      right : IsAnswerFor (answers.Sealed id count) x
      right = (mine, due, some, few)

      abbrev taken : List Contents
      taken = take count (offered_in x mine)

      kinds : AreOf mine taken
      kinds = all_taken (λ c. c.kind ≡ mine) count (offered_in x mine) (offer_kinds x mine (session_of x h has))

      lacks : AllSegments (Lacks m.store) taken
      lacks = all_taken (λ c. AllByRecursion (Lacks m.store c.kind) c.segments) count (offered_in x mine) (offered_lacks mine)

      apart : AreApart taken
      apart = apart_taken count (offered_in x mine) (apart_of mine (offered_in x mine) (offer_kinds x mine (session_of x h has)) (offered_apart x h has mine))

      pieces : (more : List ℕ) → MayFollow more x → AllSegments (λ kind y. HasPieceOf (h.given ++ more) (of_kind kind y)) taken
      pieces more on = all_taken (λ c. AllByRecursion (λ y. HasPieceOf (h.given ++ more) (of_kind c.kind y)) c.segments) count (offered_in x mine)
          (each_of (λ kind y. HasPieceOf (h.given ++ more) (of_kind kind y)) mine (offered_in x mine) (offer_kinds x mine (session_of x h has))
          (offered_are_pieces x h more has on mine))

      module _ (adds : AddsContainers 0 taken m n) where
        kept_now : (more : List ℕ) → MayFollow more x → (kind : Kind) (y : Segment)
            → KeptBy (segments_of (h.given ++ more)) (h.answers ++ answers.Sealed id count ∷ []) kind y → HasLength n.store (of_kind kind y)
        kept_now more on kind y by =
            elim (kept_sealed x h kind y id count mine due (after_kept x h more has on (answers.Sealed id count) settled right kind y by)) [
              | inl was ↦ held_all 0 taken m n adds lacks kind y (was_kept more on kind y was)
              | inr now ↦
                  subst (λ (k : Kind). HasLength n.store (of_kind k y)) (sym now.0)
                  (one_of_all (Holds n.store) mine taken kinds (hold_all 0 taken m n adds apart lacks) y now.1)
            ]

        fresh_now : (more : List ℕ) → MayFollow more x → (kind : Kind) (y : Segment)
            → OpenBy (segments_of (h.given ++ more)) (h.answers ++ answers.Sealed id count ∷ []) kind y → newest 0 n.store.held (segment_key kind y) ≡ None
        fresh_now more on kind y by =
            let one = one_of _ _ y (left_differs x h has id count mine due some few kind)
            (after_open x h more has on (answers.Sealed id count) settled right kind y by) in
            beside_all 0 (segment_key kind y) taken m n adds
            (each_of (LacksKey (segment_key kind y)) mine taken kinds one.1)
            ∙ was_open more on kind y one.0

      pub sealed_stores : IsDueOf h.given (asked.Seal (offered_in x mine)) → AddsContainers 0 taken m n → Stores opened (next (answers.Sealed id count)) n
      sealed_stores due_of adds = record {
        changes = stores.changes ++ seals_of m.last_id taken;
        makes = makes_then stores.changes (seals_of m.last_id taken) opened m.store n.store stores.makes (makes_all 0 taken m n adds);
        seals = all_append (IsSealFor h.given) stores.changes (seals_of m.last_id taken) stores.seals
            (seals_are_for h.given (offered_in x mine) m.last_id count (h.given, [], sym (append-nil h.given), due_of));
        once = λ more on. adds_then (h.given ++ more) stores.changes (seals_of m.last_id taken) opened m.store stores.makes (stores.once more on)
            (once_all 0 (h.given ++ more) taken m n adds apart lacks (pieces more on) stores.last);
        kept = kept_now adds;
        fresh = fresh_now adds;
        forgotten = forgotten_all 0 taken m n adds stores.forgotten;
        last = last_all 0 taken m n adds stores.last;
      }

  -- ---- a turn

  module _ (s : Session) (m n : F) (stores : Stores opened s m) where
    abbrev After : Answer → Type 0
    After told = Stores opened (record s { answers = s.answers ++ told ∷ [] }) n

    module _ (due : Due) (is : IsDueFor s.given s.ended s.answers due) where
      here : Stores opened (told_of is.session is.history) m
      here = subst (λ (t : Session). Stores opened t m) (sym (same_told s due is)) stores

      there : (told : Answer) → Stores opened (record (told_of is.session is.history) { answers = is.history.answers ++ told ∷ [] }) n → After told
      there told after = subst (λ (t : Session). Stores opened (record t { answers = t.answers ++ told ∷ [] }) n) (same_told s due is) after

    held_turn : (seg : KindSegment) → IsDueStep of_files s (asked.Claim seg) → Claims of_files 0 seg m n → After answers.Held
    held_turn seg (dues.Claim, is, offered) does =
        there dues.Claim is answers.Held (held_stores is.session is.history is.has m n (here dues.Claim is) is.settled is.due_is seg offered does)
    held_turn seg (dues.Seal kind, is, asks) does = absurd asks
    held_turn seg (dues.Nothing, is, asks) does = absurd asks

    absent_turn : (seg : KindSegment) → IsDueStep of_files s (asked.Claim seg) → IsLacked m.store m.forgotten (segment_key seg.kind seg.segment) → n ≡ m → After answers.Absent
    absent_turn seg (dues.Claim, is, offered) lacks others =
        there dues.Claim is answers.Absent (absent_stores is.session is.history is.has m n (here dues.Claim is) is.settled is.due_is seg offered lacks others)
    absent_turn seg (dues.Seal kind, is, asks) lacks others = absurd asks
    absent_turn seg (dues.Nothing, is, asks) lacks others = absurd asks

    seal_turn : (offered : List Contents) (id count : ℕ) → IsDueStep of_files s (asked.Seal offered) → Seals of_files 0 offered id count m n
        → After (answers.Sealed id count)
    seal_turn offered id count (dues.Seal kind, is, offered_is) does =
        let due_of : IsDueOf is.history.given (asked.Seal (offered_in is.session kind)) = (
          s.ended,
          s.answers,
          subst (λ (g : List ℕ). IsDueStep of_files (record { given = g; ended = s.ended; answers = s.answers }) (asked.Seal (offered_in is.session kind))) (sym is.given_is)
              (dues.Seal kind, is, refl),
        ) in
        there (dues.Seal kind) is (answers.Sealed id count)
        (sealed_stores is.session is.history is.has m n (here (dues.Seal kind) is) id count kind is.settled is.due_is does.some
        (subst (λ (cs : List Contents). count ≤ length cs) offered_is (seals_few of_files 0 offered id count m n does)) due_of
        (subst (λ (cs : List Contents). AddsContainers 0 (take count cs) m n) offered_is does.adds))
    seal_turn offered id count (dues.Claim, is, asks) does = absurd asks
    seal_turn offered id count (dues.Nothing, is, asks) does = absurd asks

    turn_stores : (step : Asked (List ℕ)) (answer : Done) (told : Answer) → IsDueStep of_files s step → answer_of (Ok answer) ≡ Some told
        → Does of_files 0 step answer m n → After told
    turn_stores (asked.Claim seg) done.Held told due is does = subst After (same_Some answers.Held told is) (held_turn seg due does)
    turn_stores (asked.Claim seg) done.Absent told due is (keeps, lacks, others) = subst After (same_Some answers.Absent told is) (absent_turn seg due (lacks (inl tt)) others)
    turn_stores (asked.Seal offered) (done.Sealed id count) told due is does = subst After (same_Some (answers.Sealed id count) told is) (seal_turn offered id count due does)
    turn_stores (asked.Claim seg) answer told due is does = absurd does
    turn_stores (asked.Seal offered) answer told due is does = absurd does
    turn_stores step answer told (dues.Claim, by, asks) is does = absurd asks
    turn_stores step answer told (dues.Seal kind, by, asks) is does = absurd asks
    turn_stores step answer told (dues.Nothing, by, asks) is does = absurd asks

  -- ---- what is so at a moment

  module _ (s : Session) (m : F) (stores : Stores opened s m) where
    -- what is to be sealed is held by nothing, a piece at least
    pub seal_lacks_piece : (offered : List Contents) → IsDueStep of_files s (asked.Seal offered) → (more : List ℕ) → GoesOn more s → LacksPiece (s.given ++ more) m.store
    seal_lacks_piece offered (dues.Seal kind, is, offered_is) more on =
        let first = some_offered is.session kind (session_of is.session is.history is.has) is.settled is.due_is in
        subst (λ (g : List ℕ). LacksPiece (g ++ more) m.store) is.given_is
        (by first.0 first.1)
      where
        by : (x : Segment) → IsIn x (segments_of_all (offered_in is.session kind)) → LacksPiece (is.history.given ++ more) m.store
        by x there =
            let piece = one_of (λ y. HasPieceOf (is.history.given ++ more) (of_kind kind y)) (segments_of_all (offered_in is.session kind)) x
            (offered_are_pieces is.session is.history more is.has (λ end. on (sym is.ended_is ∙ end)) kind) there in
            let none = was_open is.session is.history is.has m m (here s m m stores (dues.Seal kind) is) more (λ end. on (sym is.ended_is ∙ end)) kind x
            (offered_unsealed is.session kind x there) in (
              piece.0,
              (piece.1, ap (newest 0 m.store.held) (sym (ap (λ (y : KindSegment). segment_key y.kind y.segment) piece.2 ∙ key_is piece.0)) ∙ none),
            )
    seal_lacks_piece offered (dues.Claim, is, asks) more on = absurd asks
    seal_lacks_piece offered (dues.Nothing, is, asks) more on = absurd asks

    -- once nothing is due of all of the file each piece of it has a copy
    pub holds_file : s.ended ≡ true → NothingIsDue of_files s → HoldsFile s.given m.store
    holds_file ended is =
        subst (λ (g : List ℕ). HoldsFile g m.store) is.given_is (
          (bytes_are_counted is.session is.history is.has).1,
          λ p piece.
              was_kept is.session is.history is.has m m (here s m m stores dues.Nothing is) [] (λ on. refl) (piece_segment p).kind (piece_segment p).segment
              ((all_is_kept is.session is.history is.has (is.ended_is ∙ ended) is.due_is).kept p piece),
        )

  -- what is due is of pieces
  pub due_asks : (s : Session) (step : Asked (List ℕ)) → IsDueStep of_files s step → (more : List ℕ) → GoesOn more s → AsksPieces (s.given ++ more) step
  due_asks s (asked.Claim seg) (dues.Claim, is, offered) more on =
      subst (λ (g : List ℕ). HasPieceOf (g ++ more) seg) is.given_is
      (subst (HasPieceOf (is.history.given ++ more)) (sym (item_is (turn_node is.session) is.session.queue seg offered.is))
      (item_piece (is.history.given ++ more) (turn_node is.session) is.session.queue (claimed_has_turn is.session is.settled is.due_is)
      (turns_are_pieces is.session is.history more is.has (λ end. on (sym is.ended_is ∙ end)))))
  due_asks s (asked.Seal offered) (dues.Seal kind, is, offered_is) more on =
      subst (λ (cs : List Contents). AsksPieces (s.given ++ more) (asked.Seal cs)) (sym offered_is)
      (subst (λ (g : List ℕ). AsksPieces (g ++ more) (asked.Seal (offered_in is.session kind))) is.given_is
      (each_of (λ k y. HasPieceOf (is.history.given ++ more) (of_kind k y)) kind (offered_in is.session kind)
      (offer_kinds is.session kind (session_of is.session is.history is.has))
      (offered_are_pieces is.session is.history more is.has (λ end. on (sym is.ended_is ∙ end)) kind)))
  due_asks s (asked.Claim seg) (dues.Seal kind, is, asks) more on = absurd asks
  due_asks s (asked.Claim seg) (dues.Nothing, is, asks) more on = absurd asks
  due_asks s (asked.Seal offered) (dues.Claim, is, asks) more on = absurd asks
  due_asks s (asked.Seal offered) (dues.Nothing, is, asks) more on = absurd asks
  due_asks s step (dues.Claim, is, asks) more on = absurd asks
  due_asks s step (dues.Seal kind, is, asks) more on = absurd asks
  due_asks s step (dues.Nothing, is, asks) more on = absurd asks

  pub turns_store : (xs : List Step) (s t : Session) (m n : F) → m.state ≡ Running → AreTurns of_files 0 xs s t → Run of_files xs m n → Stores opened s m → Stores opened t n
  turns_store [] s t m n runs turns run stores = subst (Stores opened t) (sym run) (subst (λ (u : Session). Stores opened u m) (sym turns) stores)
  turns_store (x ∷ xs) s t m n runs (actor, due, (answer, told, more)) (mid, (legal, run)) stores =
      let d = told_ok x.answer answer told in
      let quiet = due_is_quiet s x.asked due in
      let own : Legal of_files (record { actor = 0; asked = x.asked; answer = Ok d.0 }) m mid =
      subst (λ (a : ℕ). Legal of_files (record { actor = a; asked = x.asked; answer = Ok d.0 }) m mid) actor
      (subst (λ (r : Result Done Refusal). Legal of_files (record { actor = x.actor; asked = x.asked; answer = r }) m mid) d.1 legal) in
      let does : Does of_files 0 x.asked d.0 m mid = answers_of 0 x.asked (Ok d.0) m mid quiet runs (by_of 0 x.asked (Ok d.0) m mid quiet own) in
      let one = step_done 0 x.asked d.0 m mid quiet runs own in
      turns_store xs (record s { answers = s.answers ++ answer ∷ [] }) t mid n one.state more run
      (turn_stores s m mid stores x.asked d.0 answer due (ap answer_of (sym d.1) ∙ told) does)

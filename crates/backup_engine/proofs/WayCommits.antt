-- The commit at the end of a way: each piece of the file is held, or why the name isn't given the root.
use Rattle.backup_engine.proofs.Prelude.{[], ◌∷◌, ◌≡◌, ◌⊎◌, inl, inr, ◌≤◌, ℕ, false, List, length, Option, Some, None, option_map, Result, Ok, Err, refl, sym, ◌∙◌, ap, subst, arith, IsSome, MOST_FILE, Put, Kind, Place, PlaceMap, KindSegment, Segment, HeaderValue, Answer, PinMap, has_pin, pin_of, NameMap, Refusal, Store, Piece, IsPieceOf, piece_bytes, piece_key, piece_segment, IsPartialIndexOf, newest, ChangeName, root_of, Represents, key_of_seg, CoreStep, KeepsTables, Makes, Steps, kept_of, FileEvent, CoreState, one_of, room_in, Ingest, HasNoRoomForName, HasTwins, LacksNumbers, Way, length_in, HoldsPieces, IsOneOf, IsPutRefusal, IsPutStep, PutRun}
use Rattle.std.specs.Prelude.{is_some}
use Rattle.std.specs.FinMap as finite
use Rattle.disk_format.specs.declared.numbers.TheConstants.{MOST_NAMES}
use Rattle.actor_parts.specs.Kinds.{kind_of}
use Rattle.actor_parts.specs.Parts.{part_of}
use Rattle.actor_parts.specs.StepValue as asked
use Rattle.namespace.specs.declared.record.Named.{Named}
use Rattle.namespace.specs.Names.{HasRoom, IsFull}
use Rattle.refusals.specs.declared.refusal.PartKind.TheVariants as kinds
use Rattle.refusals.specs.declared.refusal.Refusal.TheVariants as refusals
use Rattle.store_model.specs.Image.{names_of}
use Rattle.store_model.specs.Refusals.{root_key}
use Rattle.store_model.specs.Slots.{Copy}
use Rattle.ingest_steps.specs.Writers.{IsCommitRefusal, IsNotStored, empty_root}
use Rattle.ingest_steps.specs.Naming as naming
use Rattle.backup_engine.specs.Causes.{HasPieces}
use Rattle.backup_engine.proofs.FirstActor.{by_first, kept_represents, no_other, steps_of}
use Rattle.store_machine.proofs.RootPieces.{HasRootPiece, root_piece}
use Rattle.backup_engine.proofs.KeptPieces.{key_of_piece, kept_pieces, long_as_piece, twins}
use Rattle.backup_engine.proofs.WayClaims.{same_pins}
use Rattle.backup_engine.proofs.Ways.{file_event, put_step, with_last}

-- ---- names

no_some : (named : Option Named) → IsSome named → is_some named ≡ false → ⊥
no_some None some none = absurd cc
no_some (Some n) some none = absurd cc

pub has_room : (names : NameMap) (name : List ℕ) → HasRoom names name → is_some (finite.get names name) ≡ false → MOST_NAMES ≤ finite.len names → ⊥
has_room names name (inl some) none many = no_some (finite.get names name) some none
has_room names name (inr below) none many = absurd (omega (arith, below, many))

-- ---- lengths

mapped : (copy : Option Copy) → option_map (λ (c : Copy). c.place.length) copy ≡ option_map (λ (p : Place). p.length) (option_map (λ (c : Copy). c.place) copy)
mapped None = refl
mapped (Some c) = refl

-- a length that the map has is that of the newest copy
newest_long : (places : PlaceMap) (held : List (Option HeaderValue)) → IsPartialIndexOf held places → (key : List ℕ) (long : ℕ) → length_in places key ≡ Some long
    → option_map (λ (p : Place). p.length) (option_map (λ (c : Copy). c.place) (newest 0 held key)) ≡ Some long
newest_long places held index key long is = by_place (finite.get places key) refl is
  where
    by_place : (o : Option Place) → finite.get places key ≡ o → option_map (λ (p : Place). p.length) o ≡ Some long →
        option_map (λ (p : Place). p.length) (option_map (λ (c : Copy). c.place) (newest 0 held key)) ≡ Some long
    by_place None found is = absurd cc
    by_place (Some place) found is = ap (option_map (λ (p : Place). p.length)) (index key place found) ∙ is

module _ (C : Type 0) (state : C → CoreState) (files : List ℕ → Type 0) (opens : Kind → List Segment) (start old new : C) (w : Way C state files opens start old)
    (buf name file : List ℕ) (is : files file) (few : length file ≤ MOST_FILE)
    (whole : (p : Piece) → IsPieceOf file p → IsOneOf (piece_segment p) (kept_of w.steps)) where
  abbrev commit : Result Answer Refusal → FileEvent
  commit answer = file_event (asked.Commit name (root_of file)) answer buf file

  commit_made : (answer : Result Answer Refusal) → CoreStep (state old) (by_first (asked.Commit name (root_of file)) answer buf) (state new) →
      Steps (commit answer).event (state old) (state new)
  commit_made answer step = steps_of (state old) (state new) (commit answer).event w.runs step

  commit_put : (answer : Result Answer Refusal) → IsPutStep name file (commit answer)
  commit_put answer = put_step name file (asked.Commit name (root_of file)) answer buf file tt (refl, refl, refl, few)

  -- ---- what is held

  piece_long : (p : Piece) → IsPieceOf file p → length_in w.places (piece_key p) ≡ Some (length (piece_bytes p))
  piece_long p piece =
      ap (length_in w.places) (sym (key_of_piece p))
      ∙ one_of (λ (x : KindSegment). length_in w.places (key_of_seg x) ≡ Some (length x.segment.bytes)) (kept_of w.steps) (piece_segment p) w.kept.long (whole p piece)
      ∙ ap (λ (n : ℕ). Some n) (long_as_piece p)

  -- by a store for which this map is right
  has_pieces : (store : Store) → IsPartialIndexOf store.held w.places → HasPieces file (room_in (Ingest name) store)
  has_pieces store index key count piece =
      ap (λ (k : List ℕ). option_map (λ (c : Copy). c.place.length) (newest 0 store.held k)) piece.2
      ∙ mapped (newest 0 store.held (piece_key piece.0)) ∙ newest_long w.places store.held index (piece_key piece.0) (length (piece_bytes piece.0)) (piece_long piece.0 piece.1)
      ∙ ap (λ (n : ℕ). Some n) (sym piece.3)

  -- a name that is put leaves the index
  index_put : Makes (ChangeName name (Put (root_of file)) ∷ []) (state old) (state new) → (store : Store) → Represents store (state new).known (state new).tables →
      IsPartialIndexOf store.held w.places
  index_put made store represents key place found =
      let runs = w.indexed in
      let told = made.tells w.places w.known in
      let put = made.represents.store_has runs.store runs.represents runs.valid runs.has_free in
      let has = made.keeps_keys w.places w.known told.0 told.1 key (place, found) in
      represents.index_is_newest told.0 told.1 key has.0 has.1 ∙ sym (put.index_is_newest told.0 told.1 key has.0 has.1) ∙ runs.represents.index_is_newest w.places w.known key
      place found

  pub way_commits : (answer : Answer) → CoreStep (state old) (by_first (asked.Commit name (root_of file)) (Ok answer) buf) (state new)
      → PutRun C state name file (Ok tt) start new × HoldsPieces name file (state new)
  way_commits answer step =
      let made = (commit_made (Ok answer) step).made.effect.made in (
        with_last C state files opens start old w name file (Ok tt) (commit (Ok answer)) new is step (commit_put (Ok answer)) refl tt whole,
        record { store_has = λ store represents valid free. has_pieces store (index_put made store represents) },
      )

  -- ---- why it is refused

  -- the root's piece is kept, and has a twin where its key has another pin
  root_twins : (key : List ℕ) → IsNotStored w.pins (root_of file) key → HasTwins file key
  root_twins key not_stored = by_root (root_piece file few)
    where
      by_root : (root_of file ≡ empty_root) ⊎ HasRootPiece file → HasTwins file key
      by_root (inl empty) = absurd (not_stored.some empty)
      by_root (inr has) =
          let seg : KindSegment = piece_segment has.piece in
          let key_is : key ≡ key_of_seg seg = not_stored.key_is ∙ has.key_is ∙ sym (key_of_piece has.piece) in
          let unpinned : has_pin w.pins (key_of_seg seg) (pin_of seg) ≡ false =
          ap (λ (k : List ℕ). has_pin w.pins k (pin_of seg)) (key_of_piece has.piece ∙ sym has.key_is) ∙ ap (has_pin w.pins (root_key (root_of file))) has.pin_is
          ∙ not_stored.unpinned in
          subst (HasTwins file) (sym key_is)
          (twins file (kept_of w.steps) w.pins w.places w.kept (kept_pieces name file w.steps (w.each name file is)) seg (whole has.piece has.is_of) unpinned)

  module _ (same : KeepsTables (state old) (state new)) (store : Store) (represents : Represents store (state new).known (state new).tables) where
    before : Represents store (state old).known (state old).tables
    before = kept_represents (state old) (state new) same store represents

    pieces : HasPieces file (room_in (Ingest name) store)
    pieces = has_pieces store (before.index_is_newest w.places w.known)

    names_are : (state old).tables.names ≡ names_of store
    names_are = before.names_are.names_are

    -- a name that may be put has room
    has_place : HasRoom (state old).tables.names name → HasNoRoomForName (room_in (Ingest name) store) → ⊥
    has_place room full = has_room (names_of store) name (subst (λ (names : NameMap). HasRoom names name) names_are room) full.0 full.1

    no_place : IsFull (state old).tables.names name → HasNoRoomForName (room_in (Ingest name) store)
    no_place full =
        let here = subst (λ (names : NameMap). IsFull names name) names_are full in
        (ap is_some here.0, here.1)

    no_numbers : naming.LacksNumbers (state old).tables → LacksNumbers (room_in (Ingest name) store)
    no_numbers (inl most) = inl (sym before.names_are.last_is ∙ most)
    no_numbers (inr full) = inr (omega (arith, full.0, before.names_are.count), sym before.names_are.generation ∙ full.1)

  commit_cause : (refusal : Refusal) → KeepsTables (state old) (state new) → IsCommitRefusal (part_of (state old).parts 0) (state old).tables name (root_of file) refusal →
      IsPutRefusal name file (state start).disk (state new) refusal
  commit_cause refusals.Memory same cause = tt
  commit_cause refusals.DiskRead same cause = tt
  commit_cause refusals.DiskWrite same cause = tt
  commit_cause refusals.Numbers same cause = record {
    store_has = λ store represents valid free whole.
        let may = cause.0.may_name in
        inl (inr (
          record { few = few; pieces = pieces same store represents; named = may.named; place = has_place same store represents may.room },
          no_numbers same store represents cause.1,
        ));
  }
  commit_cause refusals.BadName same cause = record {
    store_has = λ store represents valid free whole. inl (few, pieces same store represents, cause.1);
  }
  commit_cause refusals.TooMany same cause = record {
    store_has = λ store represents valid free whole. inl (few, pieces same store represents, cause.1.0, no_place same store represents cause.1.1);
  }
  commit_cause (refusals.WrongPart kind) same cause = absurd (no_other kinds.Writing (part_of (state old).parts 0) (refusals.WrongPart kind) (ap kind_of w.writing) cause)
  commit_cause (refusals.Unpinned key) same cause = record {
    store_has = λ store represents valid free whole.
        inl (root_twins key (subst (λ (p : PinMap). IsNotStored p (root_of file) key) (same_pins cause.0 w.pins (sym cause.1 ∙ w.writing)) cause.3));
  }
  commit_cause refusal same cause = absurd cause.1

  pub way_uncommitted : (refusal : Refusal) → CoreStep (state old) (by_first (asked.Commit name (root_of file)) (Err refusal) buf) (state new)
      → PutRun C state name file (Err refusal) start new × IsPutRefusal name file (state start).disk (state new) refusal
  way_uncommitted refusal step =
      let steps = commit_made (Err refusal) step in (
        with_last C state files opens start old w name file (Err refusal) (commit (Err refusal)) new is step (commit_put (Err refusal)) refl (inl refl) whole,
        commit_cause refusal steps.made.effect.kept steps.made.row.0,
      )

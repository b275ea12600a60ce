-- What the lines of an `ingest` come to: what they are refused by, what they add to the store, and what they print.
use Rattle.store_machine.proofs.Prelude.{◌≡◌, ◌≢◌, ◌⊎◌, inl, inr, ◌≤◌, ◌<◌, ℕ, zero, suc, true, false, [], ◌∷◌, ◌++◌, Option, Some, None, Err, refl, sym, ◌∙◌, ap, subst, AllByRecursion, PinMap, first_unpinned, Kind, KindSegment, Segment, Put, LAST_ID, MOST_NAMES, RESERVE, PartKind, Refusal, LineValue, ReplyValue, Store, StoreChange, with_change, root_key, free_slots, last_id, Asked, AfterOpening, AllFollow, AreLinesOf, EndsRefused, EndsWith, Follows, Ingest, IsDone, IsNotOpened, Lines, MakesRoom, Makes, OnceOpened, Replied, desk, given_after, given_by, last_of, printed, text_of, AddsIn, IsDueOf, HasRoom, LacksNumbers, Refuses, RefusesClaim, RefusesCommit, RefusesSeal, IsDueStep, Line, NothingIsDue, Session, new_session, reply_of, step_of, Found, Running, kind_of, part_in, first_unkept, or_else, Reopens, of_files}
use Rattle.std.proofs.Common.{List, slice_get, take}
use Rattle.std.proofs.lemmas.Option.{same_Some}
use Rattle.std.specs.FinMap as finite
use Rattle.std.proofs.lemmas.List.{append-nil}
use Rattle.container_meta.specs.Segments.{Contents}
use Rattle.refusals.specs.declared.refusal.Difference.{Difference}
use Rattle.refusals.specs.declared.refusal.PartKind.TheVariants as kinds
use Rattle.refusals.specs.declared.refusal.Refusal.TheVariants as refusals
use Rattle.reply_text.specs.Text.{stored_line}
use Rattle.script_lines.specs.Grammar as lines
use Rattle.script_lines.specs.ReplyValue as replies
use Rattle.store_model.specs.Trees.{root_of}
use Rattle.store_machine.specs.Asked as asked
use Rattle.store_machine.specs.Ingests.{AsksName, HasSegment, IngestRefusal, IngestsByMap, IngestsClash, IsBroken, IsSealFor}
use Rattle.store_machine.specs.Legal.{IsFirstClash}
use Rattle.store_machine.specs.Needs.{IsClash, IsKept}
use Rattle.store_machine.specs.Offers.{first_unkept_in, sealed_in}
use Rattle.store_machine.specs.Twins.{HasTwins, PiecesAreTwins}
use Rattle.store_machine.specs.Storing.{AddsOnce, AsksPieces, HoldsFile, LacksPiece, MayCome, OfWhole}
use Rattle.store_machine.proofs.IngestLines.{After, Goes, How, Refused, Writes, all_after}
use Rattle.store_machine.proofs.IngestStore.{IsOther, IsTurn, Rests, committed_leaves, due_is_turn, stays, turn_leaves}
use Rattle.store_machine.proofs.Ingesting.{D, Kept, Stage, Went, ingests_kept, opened_went, reply_by, run_one}
use Rattle.store_machine.proofs.Passing.{sure_found}
use Rattle.store_machine.proofs.Quiet.{F, Step, same_refusal}
use Rattle.store_machine.proofs.Stepwise.{IsFailure, Opened, Over, ends_from, ends_over, ends_so, last_from, last_is, opened_by, opened_store}
use Rattle.store_machine.proofs.TwinSteps.{commit_lacks, turn_lacks}
use Rattle.store_machine.proofs.Storing.{GoesOn, Stores, due_asks, holds_file, new_stores, seal_lacks_piece}

-- the first segment that lacks a child
unkept_one : (kind : Kind) (ss : List Segment) (pins : PinMap) (key : List ℕ) → first_unkept kind ss pins ≡ Some key
    → (i : ℕ) × (x : Segment) × (slice_get ss i ≡ Some x) × (first_unpinned (record { kind = kind; segment = x }) pins ≡ Some key)
unkept_one kind [] pins key is = absurd (let wrong : None ≡ Some key = is in cc)
unkept_one kind (s ∷ ss) pins key is = by (first_unpinned (record { kind = kind; segment = s }) pins) refl is (unkept_one kind ss pins key)
  where
    by : (o : Option (List ℕ)) → first_unpinned (record { kind = kind; segment = s }) pins ≡ o → or_else o (first_unkept kind ss pins) ≡ Some key
        → (first_unkept kind ss pins ≡ Some key
        → (i : ℕ) × (x : Segment) × (slice_get ss i ≡ Some x) × (first_unpinned (record { kind = kind; segment = x }) pins ≡ Some key))
        → (i : ℕ) × (x : Segment) × (slice_get (s ∷ ss) i ≡ Some x) × (first_unpinned (record { kind = kind; segment = x }) pins ≡ Some key)
    by (Some k) here same on = (0, s, refl, here ∙ same)
    by None here same on = let rest = on same in (suc rest.0, rest.1, rest.2, rest.3)

-- of what is offered
unkept_of : (cs : List Contents) (pins : PinMap) (key : List ℕ) → first_unkept_in cs pins ≡ Some key
    → (seg : KindSegment) × HasSegment (asked.Seal cs) seg × (first_unpinned seg pins ≡ Some key)
unkept_of [] pins key is = absurd (let wrong : None ≡ Some key = is in cc)
unkept_of (c ∷ cs) pins key is = by (first_unkept c.kind c.segments pins) refl is (unkept_of cs pins key)
  where
    by : (o : Option (List ℕ)) → first_unkept c.kind c.segments pins ≡ o → or_else o (first_unkept_in cs pins) ≡ Some key
        → (first_unkept_in cs pins ≡ Some key → (seg : KindSegment) × HasSegment (asked.Seal cs) seg × (first_unpinned seg pins ≡ Some key))
        → (seg : KindSegment) × HasSegment (asked.Seal (c ∷ cs)) seg × (first_unpinned seg pins ≡ Some key)
    by (Some k) here same on =
        let one = unkept_one c.kind c.segments pins key (here ∙ same) in
        (record { kind = c.kind; segment = one.1 }, inl (refl, (one.0, one.2)), one.3)
    by None here same on = let rest = on same in (rest.0, inr rest.1, rest.2)

clash_of : (cs : List Contents) (key : List ℕ) (at : Difference) (m : F) → IsFirstClash of_files cs key at m
    → (seg : KindSegment) × HasSegment (asked.Seal cs) seg × IsClash m.store m.forgotten seg key at
clash_of [] key at m none = absurd none
clash_of (c ∷ cs) key at m (inl one) = (record { kind = c.kind; segment = one.1 }, inl (refl, (one.0, one.2)), one.4)
clash_of (c ∷ cs) key at m (inr (fits, more)) = let rest = clash_of cs key at m more in (rest.0, inr rest.1, rest.2)

has_taken : (k : ℕ) (cs : List Contents) (seg : KindSegment) → HasSegment (asked.Seal (take k cs)) seg → HasSegment (asked.Seal cs) seg
has_taken zero cs seg has = absurd has
has_taken (suc k) [] seg has = absurd has
has_taken (suc k) (c ∷ cs) seg (inl here) = inl here
has_taken (suc k) (c ∷ cs) seg (inr there) = inr (has_taken k cs seg there)

-- ---- what was refused

module _ (name : List ℕ) (now : Found (List ℕ)) (opened : Store) (given : List ℕ) (line : LineValue) where
  abbrev Cause : F → Refusal → Type 0
  Cause n refusal = IngestRefusal name given now n line refusal

  module _ (s : Session) (given_is : s.given ≡ given) (follow : (more : List ℕ) → MayCome more line → GoesOn more s) (m n : F) (stores : Stores opened s m) (w : Writes m s) where
    -- ---- by a turn

    due_of : (step : Asked (List ℕ)) → IsDueStep of_files s step → IsDueOf given step
    due_of step due = (s.ended, s.answers, subst (λ (g : List ℕ). IsDueStep of_files (record { given = g; ended = s.ended; answers = s.answers }) step) given_is due)

    lacks : (offered : List Contents) → IsDueStep of_files s (asked.Seal offered) → n ≡ m → OfWhole given line (λ file. LacksPiece file n.store)
    lacks offered due others more come =
        subst (λ (g : List ℕ). LacksPiece (g ++ more) n.store) given_is
        (subst (λ (x : F). LacksPiece (s.given ++ more) x.store) (sym others) (seal_lacks_piece opened s m stores offered due more (follow more come)))

    -- where a pin was lacked, however the file goes on
    twins : (key : List ℕ) → HasTwins s.given s.ended key → OfWhole given line (λ file. PiecesAreTwins file key)
    twins key has more come = subst (λ (g : List ℕ). PiecesAreTwins (g ++ more) key) given_is (has.whole more (follow more come))

    claim_cause : (seg : KindSegment) → IsDueStep of_files s (asked.Claim seg) → (refusal : Refusal) → RefusesClaim of_files 0 seg refusal m n → Cause n refusal
    claim_cause seg due (refusals.Unpinned key) ((pins, was, un), others) = (
      (pins, ap (λ (x : F). part_in x 0) others ∙ was, inl (seg, (asked.Claim seg, due_of (asked.Claim seg) due, refl), un)),
      twins key (turn_lacks of_files 0 s m n w.some w.keeps (asked.Claim seg) key due ((pins, was, un), others)),
    )
    claim_cause seg due refusals.Memory others = tt
    claim_cause seg due refusals.DiskRead refuses = tt
    claim_cause seg due (refusals.Clash key at) (keeps, known, others) =
        (seg, (asked.Claim seg, due_of (asked.Claim seg) due, refl), subst (λ (x : F). IsClash x.store x.forgotten seg key at) (sym others) (known tt))
    claim_cause seg due (refusals.Corrupt slot offset count want got) (keeps, (unknown, others)) = absurd (unknown tt)
    claim_cause seg due refusal refuses = absurd refuses

    seal_cause : (offered : List Contents) → IsDueStep of_files s (asked.Seal offered) → (refusal : Refusal) → RefusesSeal of_files 0 offered refusal m n → Cause n refusal
    seal_cause offered due refusals.Memory others = tt
    seal_cause offered due (refusals.Unpinned key) ((pins, was, un), others) =
        let one = unkept_of offered pins key un in (
          (pins, ap (λ (x : F). part_in x 0) others ∙ was, inl (one.0, (asked.Seal offered, due_of (asked.Seal offered) due, one.1), one.2)),
          twins key (turn_lacks of_files 0 s m n w.some w.keeps (asked.Seal offered) key due ((pins, was, un), others)),
        )
    seal_cause offered due (refusals.Full free) (keeps, free_is, few, others) =
        (free_is ∙ sym (ap (λ (x : F). free_slots x.store.held) others), few, lacks offered due others)
    seal_cause offered due refusals.Numbers (slot, least, others) = inl (
      subst (λ (x : F). LAST_ID ≤ x.last_id) (sym others) least,
      subst (λ (x : F). x.last_id ≡ last_id x.store.held) (sym others) stores.last,
      subst (λ (x : F). RESERVE < free_slots x.store.held) (sym others) slot.1,
      lacks offered due others,
    )
    seal_cause offered due refusals.DiskRead refuses = tt
    seal_cause offered due (refusals.Clash key at) (slot, known, others) =
        let first = clash_of (sealed_in offered m) key at m (known tt) in (
          first.0,
          (asked.Seal offered, due_of (asked.Seal offered) due, has_taken _ offered first.0 first.1),
          subst (λ (x : F). IsClash x.store x.forgotten first.0 key at) (sym others) first.2,
        )
    seal_cause offered due (refusals.Corrupt slot offset count want got) (has, (unknown, others)) = absurd (unknown tt)
    seal_cause offered due refusals.DiskWrite refuses = tt
    seal_cause offered due refusal refuses = absurd refuses

    -- it writes, as a turn and a commit take it
    right_part : (kind : PartKind) → kind ≡ kind_of (part_in m 0) → kind ≢ kinds.Writing → ⊥
    right_part kind is differ = differ (is ∙ ap kind_of w.keeps.is)

    turn_cause : (step : Asked (List ℕ)) → IsTurn step → IsDueStep of_files s step → (refusal : Refusal) → Refuses of_files 0 step refusal m n → Cause n refusal
    turn_cause (asked.Claim seg) turn due (refusals.WrongPart kind) ((kind_is, (taken, by, differ)), others) =
        absurd (right_part kind kind_is (λ e. differ (e ∙ (let both : Some kinds.Writing ≡ Some taken = by in cc))))
    turn_cause (asked.Claim seg) turn due refusals.Memory refuses = claim_cause seg due refusals.Memory refuses
    turn_cause (asked.Claim seg) turn due refusal (right, refuses) = claim_cause seg due refusal refuses
    turn_cause (asked.Seal offered) turn due (refusals.WrongPart kind) ((kind_is, (taken, by, differ)), others) =
        absurd (right_part kind kind_is (λ e. differ (e ∙ (let both : Some kinds.Writing ≡ Some taken = by in cc))))
    turn_cause (asked.Seal offered) turn due refusals.Memory refuses = seal_cause offered due refusals.Memory refuses
    turn_cause (asked.Seal offered) turn due refusal (right, refuses) = seal_cause offered due refusal refuses
    turn_cause step turn due refusal refuses = absurd turn

    -- ---- by the commit

    module _ (same : m.now ≡ now) (ended : s.ended ≡ true) (nothing : NothingIsDue of_files s) (commits : line ≡ lines.Commit 0 name) where
      holds : n ≡ m → AsksName name given n.store line
      holds others = (
        commits,
        subst (λ (g : List ℕ). HoldsFile g n.store) given_is
            (subst (λ (x : F). HoldsFile s.given x.store) (sym others) (holds_file opened s m stores ended nothing)),
      )

      commit_cause : (refusal : Refusal) → RefusesCommit of_files 0 name s.given refusal m n → Cause n refusal
      commit_cause refusals.Memory refuses = tt
      commit_cause refusals.BadName (bad, others) = (bad, holds others)
      commit_cause refusals.TooMany (good, none, many, others) =
          let has = subst (λ (f : Found (List ℕ)). (finite.get f.names name ≡ None) × (MOST_NAMES ≤ finite.len f.names)) same (none, many) in
          (good, has.0, has.1, holds others)
      commit_cause (refusals.Unpinned key) (good, room, key_is, (pins, was, not), others) = (
        (
          pins,
          ap (λ (x : F). part_in x 0) others ∙ was,
          inr (
            key_is ∙ ap (λ (f : List ℕ). root_key (root_of f)) given_is,
            λ kept. not (subst (λ (f : List ℕ). IsKept pins (root_of f)) (sym given_is) kept),
          ),
        ),
        twins key (commit_lacks of_files 0 s m n w.some w.keeps (λ file. refl) name key ended nothing (good, room, key_is, (pins, was, not), others)),
      )
      commit_cause refusals.Numbers (may, lacks, others) =
          inr (may.named, subst (HasRoom of_files name) (sym others) may.room, subst (LacksNumbers of_files) (sym others) lacks, holds others)
      commit_cause refusals.DiskWrite refuses = tt
      commit_cause refusal refuses = absurd refuses

      committed_cause : (refusal : Refusal) → Refuses of_files 0 (asked.Commit name s.given) refusal m n → Cause n refusal
      committed_cause (refusals.WrongPart kind) ((kind_is, (taken, by, differ)), others) =
          let taken_is : taken ≡ kinds.Writing = (let both : Some taken ≡ Some kinds.Writing = sym by in cc) in
          absurd (differ (kind_is ∙ ap kind_of w.keeps.is ∙ sym taken_is))
      committed_cause refusals.Memory refuses = commit_cause refusals.Memory refuses
      committed_cause refusal (right, refuses) = commit_cause refusal refuses

  -- ---- of a line that was refused

  module _ (refusal : Refusal) (ss : List Step) (n : F) (is : Refused name now opened given line refusal ss n) where
    cause_of : Cause n refusal
    cause_of = by is.how
      where
        by : How name now opened given line refusal ss is.session is.at n → Cause n refusal
        by (inl (memory, same)) = subst (Cause n) (sym memory) tt
        by (inr (inl (too_long, long, same))) = subst (Cause n) (sym too_long) long
        by (inr (inr (inl (step, writes, due, refuses, last)))) =
            turn_cause is.session is.given_is is.follow is.at n is.stores writes step (due_is_turn is.session step due) due refusal refuses
        by (inr (inr (inr (commits, writes, ended, nothing, refuses)))) =
            committed_cause is.session is.given_is is.follow is.at n is.stores writes is.same ended nothing commits refusal refuses

    leaves_of : Rests name now given refusal is.at n
    leaves_of = by is.how
      where
        by : How name now opened given line refusal ss is.session is.at n → Rests name now given refusal is.at n
        by (inl (memory, same)) = stays name now given refusal is.at n is.runs (subst IsOther (sym memory) tt) same
        by (inr (inl (too_long, long, same))) = stays name now given refusal is.at n is.runs (subst IsOther (sym too_long) tt) same
        by (inr (inr (inl (step, writes, due, refuses, last)))) =
            turn_leaves name now given is.at n is.runs step refusal (due_is_turn is.session step due)
            (due_of is.session is.given_is is.follow is.at n is.stores writes step due) refuses
        by (inr (inr (inr (commits, writes, ended, nothing, refuses)))) =
            committed_leaves name now given is.at n is.runs is.session.given is.given_is is.same refusal refuses

-- ---- after a line

module _ (name : List ℕ) (now : Found (List ℕ)) (opened : Store) where
  -- what was added by then
  record Adds (given : List ℕ) (line : LineValue) (store : Store) : Type 0 where
    changes : List StoreChange
    seals : AllByRecursion (IsSealFor given) changes
    makes : Makes changes opened store
    once : (more : List ℕ) → MayCome more line → AddsOnce (given ++ more) changes opened

  adds_by : (s : Session) (k : F) (given : List ℕ) (line : LineValue) → s.given ≡ given → ((more : List ℕ) → MayCome more line → GoesOn more s) → Stores opened s k
      → Adds given line k.store
  adds_by s k given line is follow stores = record {
    changes = stores.changes;
    seals = subst (λ (g : List ℕ). AllByRecursion (IsSealFor g) stores.changes) is stores.seals;
    makes = stores.makes;
    once = λ more come. subst (λ (g : List ℕ). AddsOnce (g ++ more) stores.changes opened) is (stores.once more (follow more come));
  }

  -- and what the line left
  record Left (given : List ℕ) (line : LineValue) (reply : ReplyValue) (n : F) : Type 0 where
    after : Store
    adds : Adds given line after
    done : IsDone (Ingest name) reply → n.store ≡ with_change name (Put (root_of given)) after
    undone : (IsDone (Ingest name) reply → ⊥) → n.store ≡ after
    runs : (reply ≡ replies.Refused refusals.DiskWrite → ⊥) → n.state ≡ Running
    broke : reply ≡ replies.Refused refusals.DiskWrite → IsBroken name given now n

  still_left : (given : List ℕ) (line : LineValue) (reply : ReplyValue) (n : F) → Adds given line n.store → n.state ≡ Running → (IsDone (Ingest name) reply → ⊥)
      → (reply ≡ replies.Refused refusals.DiskWrite → ⊥) → Left given line reply n
  still_left given line reply n adds runs undone told =
      record { after = n.store; adds = adds; done = λ d. absurd (undone d); undone = λ _. refl; runs = λ _. runs; broke = λ is. absurd (told is) }

  goes_left : (given : List ℕ) (line : LineValue) (reply : ReplyValue) (d : D) → Goes name now opened given false d → (IsDone (Ingest name) reply → ⊥)
      → (reply ≡ replies.Refused refusals.DiskWrite → ⊥) → Left given line reply d.machine
  goes_left given line reply d goes undone told =
      still_left given line reply d.machine
      (adds_by goes.gives.session d.machine given line goes.gives.given_is (λ more come on. absurd (let both : true ≡ false = sym on ∙ goes.gives.ended_is in cc)) goes.stores)
      goes.ready.runs undone told

  left_of : (line : LineValue) (reply : ReplyValue) (given : List ℕ) (ss : List Step) (d : D) → After name now opened line reply given ss d → Left given line reply d.machine
  left_of line (replies.Opened files) given ss d (opens, none) =
      still_left given line (replies.Opened files) d.machine
      (adds_by new_session d.machine given line (sym none) (λ more come on. absurd cc) opens.stores) opens.ready.runs (λ d. d) (λ is. cc)
  left_of line (replies.Begun a) given ss d goes = goes_left given line (replies.Begun a) d goes (λ d. d) (λ is. cc)
  left_of line (replies.Pushed a count) given ss d goes = goes_left given line (replies.Pushed a count) d goes (λ d. d) (λ is. cc)
  left_of line (replies.Finished a count) given ss d (goes, is) =
      still_left given line (replies.Finished a count) d.machine
      (adds_by goes.gives.session d.machine given line goes.gives.given_is (λ more come on. subst (MayCome more) is come) goes.stores) goes.ready.runs (λ d. d) (λ is. cc)
  left_of line (replies.Refused refusal) given ss d is =
      let rests = leaves_of name now opened given line refusal ss d.machine is in
      record {
        after = is.at.store;
        adds = adds_by is.session is.at given line is.given_is is.follow is.stores;
        done = λ d. absurd d;
        undone = λ _. rests.store;
        runs = λ not. rests.runs (λ e. not (ap replies.Refused e));
        broke = λ e. rests.broke (same_refusal refusal refusals.DiskWrite e);
      }
  left_of line (replies.Committed a sequence) given ss d (is, commits) = record {
    after = is.at.store;
    adds = adds_by is.session is.at given line is.given_is (λ more come on. subst (MayCome more) commits come) is.stores;
    done = λ _. ap (λ (x : F). x.store) is.does.others ∙ ap (λ (f : List ℕ). with_change name (Put (root_of f)) is.at.store) is.given_is;
    undone = λ not. absurd (not tt);
    runs = λ _. ap (λ (x : F). x.state) is.does.others ∙ is.runs;
    broke = λ e. absurd (let no : replies.Committed a sequence ≡ replies.Refused refusals.DiskWrite = e in cc);
  }
  left_of line reply given ss d after = absurd after

  over_of : (line : LineValue) (reply : ReplyValue) (given : List ℕ) (ss : List Step) (d : D) → After name now opened line reply given ss d → Over (Ingest name) reply
  over_of line (replies.Opened files) given ss d after = inr (lines.Begin 0, refl)
  over_of line (replies.Begun a) given ss d after = inr (lines.Finish 0, inr refl)
  over_of line (replies.Pushed a count) given ss d after = inr (lines.Finish 0, inr refl)
  over_of line (replies.Finished a count) given ss d after = inr (lines.Commit 0 name, refl)
  over_of line (replies.Refused refusal) given ss d after = inl (inr (refusal, refl))
  over_of line (replies.Committed a sequence) given ss d after = inl (inl tt)
  over_of line reply given ss d after = absurd after

  -- at the end of all lines
  adds_in : (given : List ℕ) (one : Replied) (more : List Replied) (n : F) → Left given (last_from one more).line (last_from one more).reply n
      → AddsIn name given (one ∷ more) now n opened
  adds_in given one more n left = record {
    changes = left.adds.changes;
    after = left.after;
    seals = left.adds.seals;
    makes = left.adds.makes;
    once = λ on end. left.adds.once on (ends_so (λ x. MayCome on x.line) one more end);
    done = λ end. left.done (ends_so (λ x. IsDone (Ingest name) x.reply) one more end);
    undone = λ not. left.undone (λ d. not (ends_from (λ x. IsDone (Ingest name) x.reply) one more d));
    runs = λ not. left.runs (λ is. not (ends_from (λ x. x.reply ≡ replies.Refused refusals.DiskWrite) one more is));
    broke = λ end. left.broke (ends_so (λ x. x.reply ≡ replies.Refused refusals.DiskWrite) one more end);
  }

-- ---- what is printed

-- a line that another follows prints nothing
silent : (name given : List ℕ) (prev : Replied) (line : LineValue) → Follows (Ingest name) prev.reply line → text_of (Ingest name) given prev.line prev.reply ≡ []
silent name given prev line follows = by prev.reply follows
  where
    by : (reply : ReplyValue) → Follows (Ingest name) reply line → text_of (Ingest name) given prev.line reply ≡ []
    by (replies.Opened files) follows = refl
    by (replies.Begun a) follows = refl
    by (replies.Pushed a count) follows = refl
    by (replies.Finished a count) follows = refl
    by reply follows = absurd follows

prints_last : (name given : List ℕ) (one : Replied) (more : List Replied) → AllFollow (Ingest name) one more
    → printed (Ingest name) given (one ∷ more) ≡ text_of (Ingest name) given (last_from one more).line (last_from one more).reply
prints_last name given one [] follow = append-nil (text_of (Ingest name) given one.line one.reply)
prints_last name given one (x ∷ xs) (ends, follows, rest) =
    ap (λ (t : List ℕ). t ++ printed (Ingest name) given (x ∷ xs)) (silent name given one x.line follows) ∙ prints_last name given x xs rest

prints_done : (name given : List ℕ) (line : LineValue) (reply : ReplyValue) → IsDone (Ingest name) reply → text_of (Ingest name) given line reply ≡ stored_line name (root_of given)
prints_done name given line (replies.Committed a sequence) done = refl
prints_done name given line reply done = absurd done

-- what is not done prints nothing, a line that goes on or one that was refused
prints_none : (name given : List ℕ) (line : LineValue) (reply : ReplyValue) → Over (Ingest name) reply → (IsDone (Ingest name) reply → ⊥)
    → text_of (Ingest name) given line reply ≡ []
prints_none name given line reply (inl (inl done)) not = absurd (not done)
prints_none name given line reply (inl (inr (refusal, is))) not = ap (text_of (Ingest name) given line) is
prints_none name given line reply (inr (next, follows)) not = silent name given (record { line = line; reply = reply }) next follows

-- ---- all lines

failure : (name given : List ℕ) (now : Found (List ℕ)) (n : F) (line : LineValue) (refusal : Refusal) → IsFailure refusal → IngestRefusal name given now n line refusal
failure name given now n line refusals.Memory is = tt
failure name given now n line refusals.DiskRead is = tt
failure name given now n line refusals.DiskWrite is = tt
failure name given now n line refusal is = absurd is

-- what is so of all lines, by the last of them
record Facts (name given : List ℕ) (one : Replied) (more : List Replied) (m n : F) : Type 0 where
  over : Over (Ingest name) (last_from one more).reply
  refused : (refusal : Refusal) → (last_from one more).reply ≡ replies.Refused refusal → IngestRefusal name given m.now n (last_from one more).line refusal
  store : AfterOpening (AddsIn name given (one ∷ more) m.now n) (one ∷ more) m n

-- The opening of all lines: it was done, and this is so at the end; or it was refused, and is all.
module _ (name : List ℕ) (one : Replied) (more : List Replied) (ss : List Step) (m : F) (e : D) (running : m.state ≡ Running) (are : AreLinesOf (Ingest name) (one ∷ more))
    (ran : Lines of_files (one ∷ more) ss (desk m) e) where
  abbrev given : List ℕ
  given = given_by 0 [] (one ∷ more)

  abbrev last : Replied
  last = last_from one more

  record WasOpened : Type 0 where
    opened : Store
    files : ℕ
    is : one.reply ≡ replies.Opened files
    room : MakesRoom m opened
    after : After name m.now opened last.line last.reply given ss e

  record NotOpened : Type 0 where
    refusal : Refusal
    is : one.reply ≡ replies.Refused refusal
    fails : IsFailure refusal
    none : more ≡ []
    left : IsNotOpened refusal m e.machine

  was_opened : WasOpened ⊎ NotOpened
  was_opened = by ran
    where
      by : Lines of_files (one ∷ more) ss (desk m) e → WasOpened ⊎ NotOpened
      by (made, later, mid, is, line, rest) =
          let opening : Line of_files lines.Reopen one.reply made (desk m) mid = subst (λ (l : LineValue). Line of_files l one.reply made (desk m) mid) are.0 line in
          let a = opening.1.0.0 in
          let told = opening.1.0.1.0 in
          let legal : Reopens of_files told m mid.machine = run_one (step_of of_files a asked.Reopen told) made m mid.machine opening.1.0.1.1 opening.0 in
          let reply_is : one.reply ≡ reply_of 0 told = opening.1.0.1.2 ∙ reply_by a 0 told m mid.machine legal in
          opened_so (opened_went m mid made one.reply told running reply_is legal opening.1.1) (opened_by m mid one.reply told running reply_is legal opening.1.1)
        where
          none_given : given_after 0 one.line one.reply [] ≡ []
          none_given = ap (λ (l : LineValue). given_after 0 l one.reply []) are.0

          opened_so : Went m.now one.reply [] mid → Opened m one.reply mid → WasOpened ⊎ NotOpened
          opened_so went (inl (files, reply_is, at, fresh)) =
              let begins : After name m.now mid.machine.store one.line one.reply [] made mid =
              subst (λ (r : ReplyValue). After name m.now mid.machine.store one.line r [] made mid) (sym reply_is) (
                record {
                  ready = subst (λ (r : ReplyValue). Stage m.now r [] mid) reply_is went.stage;
                  rests = record { part = at.part_is; none = at.none; some = at.some };
                  stores = new_stores mid.machine.store mid.machine refl fresh.none_forgotten fresh.last;
                },
                refl,
              ) in
              inl (record {
                opened = mid.machine.store;
                files = files;
                is = reply_is;
                room = fresh.room;
                after = subst (λ (xs : List Step). After name m.now mid.machine.store last.line last.reply given xs e) (sym is)
                    (subst (λ (g : List ℕ). After name m.now mid.machine.store last.line last.reply (given_by 0 g more) (made ++ later) e) (sym none_given)
                    (all_after name m.now mid.machine.store more one [] made mid e later begins are.1 rest));
              })
          opened_so went (inr (refusal, reply_is, failed, left)) =
              let end = ends more are.1 rest in inr (record { refusal = refusal; is = reply_is; fails = failed; none = end.0; left = end.1 })
            where
              ends : (xs : List Replied) → AllFollow (Ingest name) one xs → Lines of_files xs later mid e → (xs ≡ []) × IsNotOpened refusal m e.machine
              ends [] follow (none, same) = (refl, subst (λ (x : D). IsNotOpened refusal m x.machine) (sym same) left)
              ends (x ∷ xs) (goes, follows, others) ran = absurd (subst (λ (r : ReplyValue). Follows (Ingest name) r x.line) reply_is follows)

  facts : Facts name given one more m e.machine
  facts = by was_opened
    where
      by : WasOpened ⊎ NotOpened → Facts name given one more m e.machine
      by (inl was) = record {
        over = over_of name m.now was.opened last.line last.reply given ss e was.after;
        refused = λ refusal is.
            cause_of name m.now was.opened given last.line refusal ss e.machine
            (subst (λ (r : ReplyValue). After name m.now was.opened last.line r given ss e) is was.after);
        store = opened_store (AddsIn name given (one ∷ more) m.now e.machine) one more m e.machine was.files was.is was.opened was.room
            (adds_in name m.now was.opened given one more e.machine (left_of name m.now was.opened last.line last.reply given ss e was.after));
      }
      by (inr not) =
          let is : last.reply ≡ replies.Refused not.refusal = ap (λ (xs : List Replied). (last_from one xs).reply) not.none ∙ not.is in
          record {
            over = inl (inr (not.refusal, is));
            refused = λ refusal other.
                failure name given m.now e.machine last.line refusal (subst IsFailure (same_refusal not.refusal refusal (sym is ∙ other)) not.fails);
            store = subst (λ (r : ReplyValue). OnceOpened (AddsIn name given (one ∷ more) m.now e.machine) r m e.machine) (sym not.is) not.left;
          }

  -- what clashes is of the file
  abbrev Asks : List ℕ → Difference → Type 0
  Asks key at = (before : List Step) × ((step : Asked (List ℕ))
      × ((ss ≡ before ++ step_of of_files 0 step (Err (refusals.Clash key at)) ∷ []) × OfWhole given last.line (λ file. AsksPieces file step)))

  clash_asks : (key : List ℕ) (at : Difference) → last.reply ≡ replies.Refused (refusals.Clash key at) → Asks key at
  clash_asks key at clash = by was_opened
    where
      by_how : (opened : Store) → Refused name m.now opened given last.line (refusals.Clash key at) ss e.machine → Asks key at
      by_how opened is = how is.how
        where
          how : How name m.now opened given last.line (refusals.Clash key at) ss is.session is.at e.machine → Asks key at
          how (inl (memory, same)) = absurd cc
          how (inr (inl (too_long, long, same))) = absurd cc
          how (inr (inr (inl (step, writes, due, refuses, (before, steps))))) = (
            before,
            (
              step,
              (
                steps,
                λ more come. subst (λ (g : List ℕ). AsksPieces (g ++ more) step) is.given_is
                    (due_asks opened is.session step due more (is.follow more come)),
              ),
            ),
          )
          how (inr (inr (inr (commits, writes, ended, nothing, (right, refuses))))) = absurd refuses

      by : WasOpened ⊎ NotOpened → Asks key at
      by (inl was) = by_how was.opened (subst (λ (r : ReplyValue). After name m.now was.opened last.line r given ss e) clash was.after)
      by (inr not) = absurd (subst IsFailure (same_refusal not.refusal (refusals.Clash key at)
          (sym (ap (λ (xs : List Replied). (last_from one xs).reply) not.none ∙ not.is) ∙ clash)) not.fails)

same_last : (one : Replied) (more : List Replied) (other : Replied) → last_of (one ∷ more) ≡ Some other → last_from one more ≡ other
same_last one more other is = same_Some (last_from one more) other (sym (last_is one more) ∙ is)

pub ingests_by_map : IngestsByMap
ingests_by_map name [] ss m e runs lines_are ran =
    let kept = ingests_kept name [] ss m e runs lines_are ran in
    record {
      ends = inr tt;
      found = kept.found;
      store = ap (λ (y : D). y.machine) ran.1;
      done = λ end. absurd (let wrong : None ≡ Some end.0 = end.1 in cc);
      undone = λ not. (kept.same not, refl);
      refused = λ refusal end. absurd (let wrong : None ≡ Some end.0 = end.1 in cc);
    }
ingests_by_map name (one ∷ more) ss m e runs are ran =
    record {
      ends = ends_over (Ingest name) one more so.over;
      found = kept.found;
      store = so.store;
      done = λ end.
          let d = kept.done end in
          (d.0, d.1, prints ∙ prints_done name all (last_from one more).line (last_from one more).reply (ends_so (λ x. IsDone (Ingest name) x.reply) one more end));
      undone = λ not. (
        kept.same not,
        prints ∙ prints_none name all (last_from one more).line (last_from one more).reply so.over (λ d. not (ends_from (λ x. IsDone (Ingest name) x.reply) one more d)),
      );
      refused = λ refusal end. (
        subst (λ (x : Replied). IngestRefusal name all m.now e.machine x.line refusal) (same_last one more end.0 end.1)
            (so.refused refusal (ends_so (λ x. x.reply ≡ replies.Refused refusal) one more end)),
        λ other x may. sure_found e.machine.state e.machine.now x (kept.sure refusal end other) may
            ∙ kept.same (λ d. undone_by refusal end d),
      );
    }
  where
    all : List ℕ
    all = given_by 0 [] (one ∷ more)

    so : Facts name all one more m e.machine
    so = facts name one more ss m e runs are ran

    kept : Kept name all (one ∷ more) m.now e.machine
    kept = ingests_kept name (one ∷ more) ss m e runs are ran

    prints : printed (Ingest name) all (one ∷ more) ≡ text_of (Ingest name) all (last_from one more).line (last_from one more).reply
    prints = prints_last name all one more are.1

    undone_by : (refusal : Refusal) → EndsRefused refusal (one ∷ more) → EndsWith (λ x. IsDone (Ingest name) x.reply) (one ∷ more) → ⊥
    undone_by refusal end d = subst (IsDone (Ingest name)) (ends_so (λ x. x.reply ≡ replies.Refused refusal) one more end)
        (ends_so (λ x. IsDone (Ingest name) x.reply) one more d)

pub ingests_clash : IngestsClash
ingests_clash name [] ss m e runs are ran key at end = absurd (let wrong : None ≡ Some end.0 = end.1 in cc)
ingests_clash name (one ∷ more) ss m e runs are ran key at end =
    let asks = clash_asks name one more ss m e runs are ran key at (ends_so (λ x. x.reply ≡ replies.Refused (refusals.Clash key at)) one more end) in (
      asks.0,
      (
        asks.1.0,
        (
          asks.1.1.0,
          subst (λ (x : Replied). OfWhole (given_by 0 [] (one ∷ more)) x.line (λ file. AsksPieces file asks.1.0)) (same_last one more end.0 end.1) asks.1.1.1,
        ),
      ),
    )

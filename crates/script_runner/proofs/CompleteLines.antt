-- Why a line is refused, where no call of the disk fails and nothing has twins or clashes; and that the machine runs on.
use Rattle.script_runner.proofs.Prelude.{◌≡◌, ◌⊎◌, inl, inr, ◌∙◌, ℕ, List, [], ◌∷◌, ◌++◌, Some, None, Result, Ok, Err, refl, sym, ap, subst, Tree, KindSegment, Refusal, LineValue, ReplyValue, HasNoCollisions, Piece, Node, IsPieceOf, Asked, FileMachine, HasSegment, Legal, AreDid, AreTurns, Ends, IsDueStep, Says, Session, reply_of, step_of, Running, Stopped, Run, of_files, IsNoOpening, IsLeft, IsUnblamed, MayReply, FileDesk, Traced}
use Rattle.refusals.specs.declared.refusal.Refusal.TheVariants as refusals
use Rattle.script_lines.specs.declared.reply.Turned.TheVariants as turned
use Rattle.script_lines.specs.Grammar as lines
use Rattle.script_lines.specs.ReplyValue as replies
use Rattle.store_machine.specs.Asked as asked
use Rattle.store_machine.specs.Done.{Done}
use Rattle.store_machine.specs.Done as done
use Rattle.store_machine.specs.Lines.{Acts, Admits, Bars, IsStep, StopsAfter, TurnsStop, session_of}
use Rattle.store_machine.specs.Opening.{Reopens}
use Rattle.store_machine.specs.Twins.{GivesTwins, IsGivenAt}
use Rattle.store_machine.proofs.IngestStore.{IsRefusal, unrefused}
use Rattle.store_machine.proofs.Quiet.{same_refusal, told_ok}
use Rattle.store_machine.proofs.TwinSteps.{due_opens}
use Rattle.store_machine.proofs.Writers.{IsOther, no_opening}
use Rattle.script_runner.proofs.CompleteNodes.{PieceAmong, due_node, no_clash, no_twins}
use Rattle.script_runner.proofs.CompleteSteps.{Left, NoClash, opening_left, step_left, step_runs}
use Rattle.script_runner.proofs.CompleteTrace.{Content, DoesAmong, Made, Step, made_as, made_parts}

-- the disk tells something
abbrev pub Tells : Content → Type 0
Tells was = (content : List ℕ) × (was ≡ Some content)

-- steps of no session have no segment
none_has : (step : Asked (List ℕ)) (seg : KindSegment) → IsOther of_files step → HasSegment step seg → ⊥
none_has (asked.Claim offered) seg other has = other
none_has (asked.Seal offered) seg other has = other
none_has step seg other has = has

may_other : (line : LineValue) (reply : ReplyValue) → (line ≡ lines.Reopen → ⊥) → ((refusal : Refusal) → reply ≡ replies.Refused refusal → IsLeft refusal) → MayReply line reply
may_other lines.Reopen (replies.Refused refusal) none left = absurd (none refl)
may_other line (replies.Refused refusal) none left = left refusal refl
may_other line reply none left = tt

-- turns leave what was given
same_given : (a : ℕ) (xs : List Step) (s t : Session) → AreTurns of_files a xs s t → t.given ≡ s.given
same_given a [] s t is = ap (λ (x : Session). x.given) is
same_given a (x ∷ xs) s t (actor, due, (answer, told, more)) = same_given a xs (record s { answers = s.answers ++ answer ∷ [] }) t more

module _ (D S : List ℕ → Type 0) (no_data : HasNoCollisions D) (no_nodes : HasNoCollisions S) where
  abbrev Q : Step → FileMachine → FileMachine → Content → Content → Type 0
  Q = DoesAmong S

  -- what a disk tells is known on
  pub tells_on : (ss : List Step) (m n : FileMachine) (run : Run of_files ss m n) (was now : Content) → Traced of_files Q ss m n run was now → Tells was → Tells now
  tells_on [] m n run was now traced known = (known.0, traced ∙ known.1)
  tells_on (s ∷ ss) m n run was now traced known =
      let after = traced.1.0.0 known.0 known.1 in tells_on ss run.0 n run.1.1 traced.0 now traced.1.1 (after.0, after.1)

  -- what the actors of a desk give is among these
  abbrev pub GivesAmong : FileDesk → Type 0
  GivesAmong d = (p : Piece) → IsGivenAt of_files d p → PieceAmong D S p

  module _ (d e : FileDesk) (among : GivesAmong d) (runs : d.machine.state ≡ Running) (reply : ReplyValue)
      (lacks : (key : List ℕ) → reply ≡ replies.Refused (refusals.Unpinned key) → GivesTwins of_files d key) (calm : IsUnblamed reply) where
    no_lack : (key : List ℕ) → reply ≡ replies.Refused (refusals.Unpinned key) → ⊥
    no_lack key is =
        let gives = lacks key is in
        no_twins D S no_data no_nodes gives.1.given gives.1.ended key (λ p given. among p (gives.0, gives.1, gives.2, given)) gives.3

    -- it is done, or refused by what is left; and it runs on
    abbrev pub Went : Type 0
    Went = ((refusal : Refusal) → reply ≡ replies.Refused refusal → IsLeft refusal) × (e.machine.state ≡ Running)

    left_by : (refusal other : Refusal) → reply ≡ replies.Refused refusal → IsLeft refusal → reply ≡ replies.Refused other → IsLeft other
    left_by refusal other is left same = subst IsLeft (same_refusal refusal other (sym is ∙ same)) left

    not_refused : (told : ReplyValue) → reply ≡ told → (IsRefusal told → ⊥) → (refusal : Refusal) → reply ≡ replies.Refused refusal → IsLeft refusal
    not_refused told is not refusal same = absurd (not (subst IsRefusal (sym same ∙ is) tt))

    -- ---- the last step

    -- the nodes that it has are among these
    abbrev HasAmong : Asked (List ℕ) → Type 0
    HasAmong step = (seg : KindSegment) → HasSegment step seg → seg.kind ≡ Tree → S seg.segment.bytes

    last_left : (a : ℕ) (step : Asked (List ℕ)) (refusal : Refusal) (k mid : FileMachine) (was now : Content) → Tells was → k.state ≡ Running
        → IsNoOpening of_files step → Legal of_files (step_of of_files a step (Err refusal)) k mid → Q (step_of of_files a step (Err refusal)) k mid was now
        → HasAmong step → reply ≡ replies.Refused refusal → Left refusal mid
    last_left a step refusal k mid was now known up none legal did own is =
        let after = did.0 known.0 known.1 in
        let clear : NoClash step known.0 = λ seg key at has clash.
        no_clash D S no_data no_nodes known.0 seg key at (own seg has) (λ bytes held. did.1 bytes (known.0, known.1, held)) clash in
        step_left k mid up known.0 after.0 a step refusal none legal after.2 (subst IsUnblamed is calm) clear

    last : (a : ℕ) (step : Asked (List ℕ)) (told : Result Done Refusal) (k : FileMachine) (was now : Content) → Tells was → k.state ≡ Running
        → IsNoOpening of_files step → HasAmong step → reply ≡ reply_of a told → Made Q (step_of of_files a step told ∷ []) k e.machine was now → Went
    last a step (Ok answer) k was now known up none own is ((mid, (legal, same)), traced) = (
      not_refused (reply_of a (Ok answer)) is (unrefused a answer),
      ap (λ (x : FileMachine). x.state) same ∙ step_runs k mid up [] [] a step answer none legal,
    )
    last a step (Err refusal) k was now known up none own is ((mid, (legal, same)), (then, (did, rest))) =
        let one = last_left a step refusal k mid was then known up none legal did own is in (
          λ other other_is. elim one.0 [
            | inl left ↦ left_by refusal other is left other_is
            | inr unpinned ↦ absurd (no_lack unpinned.0 (is ∙ ap replies.Refused unpinned.1))
          ],
          ap (λ (x : FileMachine). x.state) same ∙ one.1,
        )

    -- ---- turns

    turns_run : (a : ℕ) (xs : List Step) (s t : Session) (m k : FileMachine) → m.state ≡ Running → AreTurns of_files a xs s t → Run of_files xs m k
        → k.state ≡ Running
    turns_run a [] s t m k up is run = ap (λ (x : FileMachine). x.state) run ∙ up
    turns_run a (x ∷ xs) s t m k up (actor, due, (answer, told, more)) (mid, (legal, run)) =
        let d = told_ok x.answer answer told in
        let one : mid.state ≡ Running =
        step_runs m mid up [] [] x.actor x.asked d.0 (due_opens of_files s x.asked due)
        (subst (λ (r : Result Done Refusal). Legal of_files (step_of of_files x.actor x.asked r) m mid) d.1 legal) in
        turns_run a xs (record s { answers = s.answers ++ answer ∷ [] }) t mid k one more run

    module _ (ss : List Step) (was now : Content) (known : Tells was) (made : Made Q ss d.machine e.machine was now) where
      made_so : (xs : List Step) → ss ≡ xs → Made Q xs d.machine e.machine was now
      made_so xs is = made_as Q ss xs d.machine e.machine was now is made

      -- no step was made
      none_made : ss ≡ [] → e.machine.state ≡ Running
      none_made none = ap (λ (x : FileMachine). x.state) (made_so [] none).0 ∙ runs

      -- after these steps one more
      after : (xs : List Step) (a : ℕ) (step : Asked (List ℕ)) (told : Result Done Refusal) → ss ≡ xs ++ step_of of_files a step told ∷ []
          → ((k : FileMachine) → Run of_files xs d.machine k → k.state ≡ Running) → IsNoOpening of_files step → HasAmong step → reply ≡ reply_of a told → Went
      after xs a step told is up none own by =
          let parts = made_parts Q xs (step_of of_files a step told ∷ []) d.machine e.machine was now (made_so (xs ++ step_of of_files a step told ∷ []) is) in
          last a step told parts.0 parts.1 now (tells_on xs d.machine parts.0 parts.2.0 was parts.1 parts.2.1 known) (up parts.0 parts.2.0) none own by parts.3

      one_step : (a : ℕ) (step : Asked (List ℕ)) → IsOther of_files step → Ends of_files a [] step reply ss → Went
      one_step a step other (told, is, by) =
          after [] a step told is (λ k run. ap (λ (x : FileMachine). x.state) run ∙ runs) (no_opening of_files step other)
          (λ seg has tree. absurd (none_has step seg other has)) by

      -- ---- sessions

      module _ (a : ℕ) (s : Session) (is_session : session_of of_files d a ≡ Some s) where
        own_nodes : (t : Session) (step : Asked (List ℕ)) → t.given ≡ s.given → IsDueStep of_files t step → HasAmong step
        own_nodes t step given due seg has tree =
            let n = due_node t step seg due has tree in
            subst S (sym n.2) (among (Node n.0) (a, s, is_session, subst (λ (file : List ℕ). IsPieceOf file (Node n.0)) given n.1))

        stops : (xs : List Step) (t : Session) → AreTurns of_files a xs s t → StopsAfter of_files a xs t reply ss → Went
        stops xs t turns (refusal, refused, inl (memory, is)) = (
          λ other same. left_by refusals.Memory other (refused ∙ ap replies.Refused memory) tt same,
          turns_run a xs s t d.machine e.machine runs turns (made_so xs is).0,
        )
        stops xs t turns (refusal, refused, inr (step, due, (told, is, by))) =
            after xs a step told is (λ k run. turns_run a xs s t d.machine k runs turns run) (due_opens of_files t step due)
            (own_nodes t step (same_given a xs s t turns) due) by

        stopped : (t : Session) → TurnsStop of_files a s reply ss t → Went
        stopped t (xs, turns, stop) = stops xs t turns stop

        turn_told : (t : Session) (step : Asked (List ℕ)) (told : Result Done Refusal) → ss ≡ step_of of_files a step told ∷ []
            → AreTurns of_files a ss s t → reply ≡ reply_of a told → Went
        turn_told t step (Ok answer) is turns by = (not_refused (reply_of a (Ok answer)) by (unrefused a answer), turns_run a ss s t d.machine e.machine runs turns made.0)
        turn_told t step (Err refusal) is turns by = absurd (not_told (subst (λ (xs : List Step). AreTurns of_files a xs s t) is turns))
          where
            not_told : AreTurns of_files a (step_of of_files a step (Err refusal) ∷ []) s t → ⊥
            not_told (actor, due, (answer, wrong, more)) = let no : None ≡ Some answer = wrong in cc

      -- ---- a collection goes on

      did_run : (xs : List Step) (m k : FileMachine) → m.state ≡ Running → AreDid of_files xs → Run of_files xs m k → k.state ≡ Running
      did_run [] m k up did run = ap (λ (x : FileMachine). x.state) run ∙ up
      did_run (x ∷ xs) m k up (is, (phase, told), more) (mid, (legal, run)) =
          did_run xs mid k (step_runs m mid up [] [] x.actor x.asked (done.Did phase) (no_opening of_files x.asked (subst (IsOther of_files) (sym is) tt))
          (subst (λ (r : Result Done Refusal). Legal of_files (step_of of_files x.actor x.asked r) m mid) told legal)) more run

      is_other : (line : LineValue) (a : ℕ) (step : Asked (List ℕ)) → IsStep of_files line a step → IsOther of_files step
      is_other (lines.Read a name) actor step (own, is) = subst (IsOther of_files) (sym is) tt
      is_other (lines.Next a) actor step (own, is) = subst (IsOther of_files) (sym is) tt
      is_other (lines.Drop a) actor step (own, is) = subst (IsOther of_files) (sym is) tt
      is_other (lines.Delete name) actor step is = subst (IsOther of_files) (sym is) tt
      is_other lines.ListNames actor step is = subst (IsOther of_files) (sym is) tt
      is_other (lines.Gc percent) actor step is = subst (IsOther of_files) (sym is) tt
      is_other lines.GcStep actor step is = subst (IsOther of_files) (sym is) tt
      is_other lines.Stat actor step is = subst (IsOther of_files) (sym is) tt
      is_other lines.Unique actor step is = subst (IsOther of_files) (sym is) tt
      is_other line actor step is = absurd is

      step_acts : (line : LineValue) → (a : ℕ) × (step : Asked (List ℕ)) × IsStep of_files line a step × Ends of_files a [] step reply ss × (e.sessions ≡ d.sessions) → Went
      step_acts line (a, step, is, ends, sessions) = one_step a step (is_other line a step is) ends

      -- ---- each line

      acts : (line : LineValue) → Acts of_files line reply ss d e → Went
      acts (lines.Begin a) (sessions, inl ends) = one_step a asked.Begin tt ends
      acts (lines.Begin a) (sessions, inr (memory, none)) = (λ other same. left_by refusals.Memory other memory tt same, none_made none)
      acts (lines.Push a digits) (s, t, (was_so, sessions), room, inl (turns, inl (is, few))) =
          (not_refused (replies.Pushed a _) is (λ no. no), turns_run a ss s t d.machine e.machine runs turns made.0)
      acts (lines.Push a digits) (s, t, (was_so, sessions), room, inl (turns, inr (is, long))) =
          (λ other same. left_by refusals.TooLong other is tt same, turns_run a ss s t d.machine e.machine runs turns made.0)
      acts (lines.Push a digits) (s, t, (was_so, sessions), room, inr stop) = stopped a s was_so t stop
      acts (lines.Finish a) (s, (was_so, sessions), none, inl is) = (not_refused (replies.Finished a _) is (λ no. no), none_made none)
      acts (lines.Finish a) (s, (was_so, sessions), none, inr memory) = (λ other same. left_by refusals.Memory other memory tt same, none_made none)
      acts (lines.Turn a) (s, t, (was_so, sessions), inl (step, told, is, turns, by)) = turn_told a s was_so t step told is turns by
      acts (lines.Turn a) (s, t, (was_so, sessions), inr (inl (none, same, nothing, is))) = (not_refused (replies.Turn a turned.Idle) is (λ no. no), none_made none)
      acts (lines.Turn a) (s, t, (was_so, sessions), inr (inr (same, stop))) = stops a s was_so [] s refl stop
      acts (lines.Commit a name) (s, t, (was_so, sessions), inl (xs, turns, nothing, (told, is, by))) =
          after xs a (asked.Commit name (of_files.of t.given)) told is (λ k run. turns_run a xs s t d.machine k runs turns run) tt (λ seg has tree. absurd has) by
      acts (lines.Commit a name) (s, t, (was_so, sessions), inr stop) = stopped a s was_so t stop
      acts (lines.Abort a) (s, (was_so, sessions), (told, is, by)) =
          after [] a asked.Abort told is (λ k run. ap (λ (x : FileMachine). x.state) run ∙ runs) tt (λ seg has tree. absurd has) by
      acts lines.Sweep (xs, a, did, (told, is, by), final, sessions) =
          after xs a asked.GcStep told is (λ k run. did_run xs d.machine k runs did run) tt (λ seg has tree. absurd has) by
      acts (lines.Read a name) act = step_acts (lines.Read a name) act
      acts (lines.Next a) act = step_acts (lines.Next a) act
      acts (lines.Drop a) act = step_acts (lines.Drop a) act
      acts (lines.Delete name) act = step_acts (lines.Delete name) act
      acts lines.ListNames act = step_acts lines.ListNames act
      acts (lines.Gc percent) act = step_acts (lines.Gc percent) act
      acts lines.GcStep act = step_acts lines.GcStep act
      acts lines.Stat act = step_acts lines.Stat act
      acts lines.Unique act = step_acts lines.Unique act
      acts lines.Reopen act = step_acts lines.Reopen act

      barred : (line : LineValue) (refusal : Refusal) → Bars of_files line d refusal → reply ≡ replies.Refused refusal → ss ≡ [] → Went
      barred line (refusals.Stopped at) ((other, stores, is), at_is) by none =
          absurd (let wrong : Stopped other stores ≡ Running = sym is ∙ runs in cc)
      barred line (refusals.WrongPart kind) bars by none = (λ other same. left_by (refusals.WrongPart kind) other by tt same, none_made none)
      barred line refusal bars by none = absurd bars

      -- the line may be replied to so, and it runs; or there was no memory to open it again
      abbrev pub Replied : LineValue → Type 0
      Replied line = MayReply line reply × ((e.machine.state ≡ Running) ⊎ ((line ≡ lines.Reopen) × (reply ≡ replies.Refused refusals.Memory)))

      opened : (a : ℕ) (told : Result Done Refusal) (mid : FileMachine) → Reopens of_files told d.machine mid → e.machine ≡ mid → reply ≡ reply_of a told → Replied lines.Reopen
      opened a (Ok (done.Reopened files)) mid opens same by = (
        subst (MayReply lines.Reopen) (sym by) tt,
        inl (ap (λ (x : FileMachine). x.state) same ∙ ap (λ (x : FileMachine). x.state) opens.others),
      )
      opened a (Ok answer) mid opens same by = absurd opens
      opened a (Err refusal) mid opens same by =
          let memory : refusal ≡ refusals.Memory = opening_left refusal opens.0 (subst IsUnblamed by calm) in
          (subst (MayReply lines.Reopen) (sym by) memory, inr (refl, by ∙ ap replies.Refused memory))

      went_on : (line : LineValue) → (line ≡ lines.Reopen → ⊥) → Went → Replied line
      went_on line none went = (may_other line reply none went.0, inl went.1)

      says_other : (line : LineValue) → (line ≡ lines.Reopen → ⊥) → (Admits of_files line d × Acts of_files line reply ss d e)
          ⊎ ((refusal : Refusal) × Bars of_files line d refusal × (reply ≡ replies.Refused refusal) × (ss ≡ []) × (e.sessions ≡ d.sessions)) → Replied line
      says_other line none (inl (admits, act)) = went_on line none (acts line act)
      says_other line none (inr (refusal, bars, is, nothing, sessions)) = went_on line none (barred line refusal bars is nothing)

      pub says : (line : LineValue) → Says of_files line reply ss d e → Replied line
      says lines.Reopen ((a, (told, is, by)), sessions) =
          let one = made_so (step_of of_files a asked.Reopen told ∷ []) is in opened a told one.0.0 one.0.1.0 one.0.1.1 by
      says line said = says_other line (λ is. absurd (let wrong : _ ≡ _ = is in cc)) said

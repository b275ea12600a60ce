-- What is so after each line of an `ingest`: what its session has stored by then, and which step was refused.
use Rattle.store_machine.proofs.Prelude.{◌≡◌, ◌⊎◌, inl, inr, ◌<◌, ℕ, Bool, true, false, [], ◌∷◌, ◌++◌, length, slice_index_or, slice_set, Option, Some, None, Result, Ok, Err, refl, sym, ◌∙◌, ap, subst, MOST_FILE, Refusal, LineValue, pushed_bytes, ReplyValue, Store, Asked, AllFollow, Follows, Ingest, IsPush, Lines, Replied, given_after, given_by, Done, Answers, ByState, Refuses, AreTurns, Bars, Finishes, IsDueStep, Line, NothingIsDue, Pushes, Session, TurnsStop, actor_of, kind_at, kind_by, new_session, reply_of, session_of, step_of, takes, unless_refused, Found, Part, Idle, RunState, Running, Stopped, Writing, kind_of, part_in, Run, of_files}
use Rattle.std.proofs.Common.{List, append-nil, append_assoc}
use Rattle.std.specs.FinMap as finite
use Rattle.refusals.specs.declared.refusal.PartKind.TheVariants as kinds
use Rattle.refusals.specs.declared.refusal.Refusal.TheVariants as refusals
use Rattle.script_lines.specs.Grammar as lines
use Rattle.script_lines.specs.ReplyValue as replies
use Rattle.store_machine.specs.Asked as asked
use Rattle.store_machine.specs.Done as done
use Rattle.store_machine.specs.Ingests.{IsTooLong}
use Rattle.store_machine.specs.Legal.{Commits as IsCommitted}
use Rattle.store_machine.specs.Lines.{Commits}
use Rattle.store_machine.specs.Storing.{MayCome}
use Rattle.store_machine.proofs.IngestStore.{IsRefusal, unrefused}
use Rattle.store_machine.proofs.Ingesting.{D, Gives, Ready, index_set as session_set, length_set as sessions_set, run_one, run_parts, same_session}
use Rattle.store_machine.proofs.Pinned.{new_pinned, pinned_ended, pinned_more}
use Rattle.store_machine.proofs.Quiet.{F, Step, answers, by_of, due_is_quiet, turns_go}
use Rattle.store_machine.proofs.Restoring.{index_set, length_set}
use Rattle.store_machine.proofs.Stepwise.{last_from}
use Rattle.store_machine.proofs.TwinSteps.{Writes as Keeps, turns_on}
use Rattle.store_machine.proofs.Storing.{GoesOn, Stores, stores_ended, stores_more, stores_still, turns_store}

-- ---- the first actor writes

-- and has pinned what is kept of what it gives
pub record Writes (m : F) (s : Session) : Type 0 where
  pub keeps : Keeps m 0 s
  pub some : 0 < length m.parts

turns_write : (xs : List Step) (s t : Session) (m n : F) → AreTurns of_files 0 xs s t → Run of_files xs m n → Writes m s → Writes n t
turns_write xs s t m n turns run w =
    let went = turns_on of_files 0 xs s t m n turns run w.some w.keeps in
    record { keeps = went.writes; some = subst (λ (count : ℕ). 0 < count) (sym went.beside.many) w.some }

-- more is given, or that was all of it
more_writes : (m : F) (s : Session) (bytes : List ℕ) → s.ended ≡ false → Writes m s → Writes m (record s { given = s.given ++ bytes })
more_writes m s bytes off w =
    record { keeps = record { pins = w.keeps.pins; is = w.keeps.is; pinned = pinned_more s w.keeps.pins bytes off w.keeps.pinned }; some = w.some }

ended_writes : (m : F) (s : Session) → s.ended ≡ false → Writes m s → Writes m (record s { ended = true })
ended_writes m s off w =
    record { keeps = record { pins = w.keeps.pins; is = w.keeps.is; pinned = pinned_ended s w.keeps.pins off w.keeps.pinned }; some = w.some }

-- at the opening the first actor is at nothing
pub record Rests (d : D) : Type 0 where
  pub part : part_in d.machine 0 ≡ Idle
  pub none : session_of of_files d 0 ≡ None
  pub some : 0 < length d.machine.parts

-- the store runs, and the actor is at what the line takes, so that it is not barred
unbarred : (line : LineValue) (d : D) (refusal : Refusal) → d.machine.state ≡ Running → actor_of line ≡ Some 0 → takes line (kind_at of_files d 0) ≡ true
    → Bars of_files line d refusal → ⊥
unbarred line d (refusals.Stopped count) runs first taken ((other, stores, is), count_is) = absurd (let wrong : Stopped other stores ≡ Running = sym is ∙ runs in cc)
unbarred line d (refusals.WrongPart kind) runs first taken (up, (a, actor, kind_is, not)) =
    let own : a ≡ 0 = (let both : Some a ≡ Some 0 = sym actor ∙ first in cc) in
    absurd (let wrong : true ≡ false = sym taken ∙ ap (takes line) (sym (kind_is ∙ ap (kind_at of_files d) own)) ∙ not in cc)
unbarred line d refusal runs first taken bars = absurd bars

-- ---- after a line

module _ (name : List ℕ) (now : Found (List ℕ)) (opened : Store) where
  -- it was opened, and nothing is given yet
  pub record Opens (d : D) : Type 0 where
    pub ready : Ready now d
    pub rests : Rests d
    pub stores : Stores opened new_session d.machine

  -- a file is given, and what it has stored is so
  pub record Goes (given : List ℕ) (ended : Bool) (d : D) : Type 0 where
    pub ready : Ready now d
    pub gives : Gives given ended d
    pub writes : Writes d.machine gives.session
    pub stores : Stores opened gives.session d.machine

  -- why a line was refused: there was no memory, or the file is too long; or by a turn, the last of these steps; or by the commit
  abbrev pub How : List ℕ → LineValue → Refusal → List Step → Session → F → F → Type 0
  How given line refusal ss s k n = ((refusal ≡ refusals.Memory) × (n ≡ k))
      ⊎ ((refusal ≡ refusals.TooLong) × IsTooLong given line × (n ≡ k))
      ⊎ ((step : Asked (List ℕ)) × Writes k s × IsDueStep of_files s step × Refuses of_files 0 step refusal k n
      × ((before : List Step) × (ss ≡ before ++ step_of of_files 0 step (Err refusal) ∷ [])))
      ⊎ ((line ≡ lines.Commit 0 name) × Writes k s × (s.ended ≡ true) × NothingIsDue of_files s
      × Refuses of_files 0 (asked.Commit name s.given) refusal k n)

  -- it was, and at this machine the session had stored so much
  pub record Refused (given : List ℕ) (line : LineValue) (refusal : Refusal) (ss : List Step) (n : F) : Type 0 where
    pub session : Session
    pub at : F
    pub given_is : session.given ≡ given
    pub follow : (more : List ℕ) → MayCome more line → GoesOn more session
    pub same : at.now ≡ now
    pub runs : at.state ≡ Running
    pub stores : Stores opened session at
    pub how : How given line refusal ss session at n

  -- the name was put
  pub record Committed (given : List ℕ) (n : F) : Type 0 where
    pub session : Session
    pub at : F
    pub given_is : session.given ≡ given
    pub ended : session.ended ≡ true
    pub runs : at.state ≡ Running
    pub stores : Stores opened session at
    pub sequence : ℕ
    pub does : IsCommitted of_files 0 name session.given sequence at n

  abbrev pub After : LineValue → ReplyValue → List ℕ → List Step → D → Type 0
  After line (replies.Opened files) given ss d = Opens d × (given ≡ [])
  After line (replies.Begun a) given ss d = Goes given false d
  After line (replies.Pushed a count) given ss d = Goes given false d
  After line (replies.Finished a count) given ss d = Goes given true d × (line ≡ lines.Finish 0)
  After line (replies.Refused refusal) given ss d = Refused given line refusal ss d.machine
  After line (replies.Committed a sequence) given ss d = Committed given d.machine × (line ≡ lines.Commit 0 name)
  After line reply given ss d = ⊥

  module _ (d mid : D) (ss : List Step) (reply : ReplyValue) (given : List ℕ) (acc : List Step) (run : Run of_files ss d.machine mid.machine) where
    abbrev So : LineValue → Type 0
    So line = After line reply (given_after 0 line reply given) (acc ++ ss) mid

    -- by a reply that is this one
    so : (line : LineValue) (is_so : ReplyValue) → reply ≡ is_so → After line is_so (given_after 0 line is_so given) (acc ++ ss) mid → So line
    so line is_so is after = subst (λ (r : ReplyValue). After line r (given_after 0 line r given) (acc ++ ss) mid) (sym is) after

    -- one that was refused gave nothing
    abbrev GivesNone : LineValue → Type 0
    GivesNone line = (refusal : Refusal) → given_after 0 line (replies.Refused refusal) given ≡ given

    refused_so : (line : LineValue) (refusal : Refusal) → GivesNone line → reply ≡ replies.Refused refusal → Refused given line refusal (acc ++ ss) mid.machine → So line
    refused_so line refusal none is refused =
        so line (replies.Refused refusal) is (subst (λ (g : List ℕ). Refused g line refusal (acc ++ ss) mid.machine) (sym (none refusal)) refused)

    run_as : (xs : List Step) → ss ≡ xs → Run of_files xs d.machine mid.machine
    run_as xs is = subst (λ (ys : List Step). Run of_files ys d.machine mid.machine) is run

    -- ---- it begins

    module _ (opens : Opens d) where
      begun_so : (told : Result Done Refusal) → ss ≡ step_of of_files 0 asked.Begin told ∷ [] → reply ≡ reply_of 0 told
          → mid.sessions ≡ slice_set d.sessions 0 (unless_refused reply (Some new_session) (session_of of_files d 0)) → Answers of_files 0 asked.Begin told d.machine mid.machine
          → So (lines.Begin 0)
      begun_so (Ok done.Begun) is reply_is sessions (idle, others) =
          let sessions_are : mid.sessions ≡ slice_set d.sessions 0 (Some new_session) =
          sessions ∙ ap (λ (r : ReplyValue). slice_set d.sessions 0 (unless_refused r (Some new_session) (session_of of_files d 0))) reply_is in
          so (lines.Begin 0) (replies.Begun 0) reply_is (record {
            ready = record {
              same = ap (λ (x : F). x.now) others ∙ opens.ready.same;
              runs = ap (λ (x : F). x.state) others ∙ opens.ready.runs;
              some = subst (λ (l : List (Option Session)). 0 < length l) (sym sessions_are) (sessions_set d.sessions (Some new_session) opens.ready.some);
            };
            gives = record {
              session = new_session;
              is = ap (λ (l : List (Option Session)). slice_index_or l 0 None) sessions_are ∙ session_set d.sessions (Some new_session) opens.ready.some;
              given_is = refl;
              ended_is = refl;
            };
            writes = record {
              keeps = record {
                pins = finite.empty;
                is = ap (λ (ps : List (Part (List ℕ) (List (List ℕ)))). slice_index_or ps 0 Idle) (ap (λ (x : F). x.parts) others)
                    ∙ index_set d.machine.parts (Writing finite.empty) opens.rests.some;
                pinned = new_pinned;
              };
              some = subst (λ (ps : List (Part (List ℕ) (List (List ℕ)))). 0 < length ps) (sym (ap (λ (x : F). x.parts) others))
                  (length_set d.machine.parts (Writing finite.empty) opens.rests.some);
            };
            stores = stores_still opened new_session d.machine mid.machine (ap (λ (x : F). x.store) others) (ap (λ (x : F). x.forgotten) others)
                (ap (λ (x : F). x.last_id) others) opens.stores;
          })
      begun_so (Ok answer) is reply_is sessions does = absurd does
      begun_so (Err (refusals.WrongPart kind)) is reply_is sessions ((kind_is, (taken, by, differ)), others) =
          let taken_is : taken ≡ kinds.Idle = (let both : Some taken ≡ Some kinds.Idle = sym by in cc) in
          absurd (differ (kind_is ∙ ap kind_of opens.rests.part ∙ sym taken_is))
      begun_so (Err refusals.Memory) is reply_is sessions refuses = absurd refuses
      begun_so (Err refusal) is reply_is sessions (right, refuses) = absurd refuses

      begin_after : Line of_files (lines.Begin 0) reply ss d mid → So (lines.Begin 0)
      begin_after (own, inl (admits, (sessions, inr (memory, none)))) =
          refused_so (lines.Begin 0) refusals.Memory (λ refusal. refl) memory (record {
            session = record new_session { given = given };
            at = d.machine;
            given_is = refl;
            follow = λ more come on. absurd cc;
            same = opens.ready.same;
            runs = opens.ready.runs;
            stores = none_given;
            how = inl (refl, run_as [] none);
          })
        where
          none_given : Stores opened (record new_session { given = given }) d.machine
          none_given = stores_more opened new_session d.machine refl opens.stores given
      begin_after (own, inl (admits, (sessions, inl (told, is, reply_is)))) =
          begun_so told is reply_is sessions
          (answers 0 asked.Begin told d.machine mid.machine tt opens.ready.runs (run_one (step_of of_files 0 asked.Begin told) ss d.machine mid.machine is run))
      begin_after (own, inr (refusal, bars, is, none, sessions)) = absurd (unbarred (lines.Begin 0) d refusal opens.ready.runs refl
          (ap (takes (lines.Begin 0)) (ap (λ (s : Option Session). kind_by s (kind_of (part_in d.machine 0))) opens.rests.none ∙ ap kind_of opens.rests.part)) bars)

    -- ---- a file is given

    module _ (ended : Bool) (goes : Goes given ended d) where
      own : (s : Session) → session_of of_files d 0 ≡ Some s → s ≡ goes.gives.session
      own s was = same_session s goes.gives.session (sym was ∙ goes.gives.is)

      stores_of : (s : Session) → session_of of_files d 0 ≡ Some s → Stores opened s d.machine
      stores_of s was = subst (λ (u : Session). Stores opened u d.machine) (sym (own s was)) goes.stores

      writes_of : (s : Session) → session_of of_files d 0 ≡ Some s → Writes d.machine s
      writes_of s was = subst (λ (u : Session). Writes d.machine u) (sym (own s was)) goes.writes

      given_of : (s : Session) → session_of of_files d 0 ≡ Some s → s.given ≡ given
      given_of s was = ap (λ (u : Session). u.given) (own s was) ∙ goes.gives.given_is

      ended_of : (s : Session) → session_of of_files d 0 ≡ Some s → s.ended ≡ ended
      ended_of s was = ap (λ (u : Session). u.ended) (own s was) ∙ goes.gives.ended_is

      -- what the actor is at
      kind_here : kind_at of_files d 0 ≡ kind_by (Some (record { given = []; ended = ended; answers = [] })) kinds.Writing
      kind_here =
          ap (λ (s : Option Session). kind_by s (kind_of (part_in d.machine 0))) goes.gives.is
          ∙ ap (λ (b : Bool). kind_by (Some (record { given = []; ended = b; answers = [] })) kinds.Writing) goes.gives.ended_is

      -- a turn was refused, or there was no memory for it
      stopped_so : (line : LineValue) → GivesNone line → (s t : Session) → session_of of_files d 0 ≡ Some s → ((more : List ℕ) → MayCome more line → ended ≡ true → more ≡ [])
          → TurnsStop of_files 0 s reply ss t → So line
      stopped_so line none s t was follow (made, turns, (refusal, reply_is, inl (memory, is))) =
          let ran = run_as made is in
          let turned = turns_go 0 made s t d.machine mid.machine goes.ready.runs turns ran in
          refused_so line refusal none reply_is (record {
            session = t;
            at = mid.machine;
            given_is = turned.given ∙ given_of s was;
            follow = λ more come on. follow more come (sym (turned.ended ∙ ended_of s was) ∙ on);
            same = turned.goes.now ∙ goes.ready.same;
            runs = turned.goes.state;
            stores = turns_store opened made s t d.machine mid.machine goes.ready.runs turns ran (stores_of s was);
            how = inl (memory, refl);
          })
      stopped_so line none s t was follow (made, turns, (refusal, reply_is, inr (step, due, (told, is, by)))) =
          let parts = run_parts of_files made (step_of of_files 0 step told ∷ []) d.machine mid.machine (run_as _ is) in
          let turned = turns_go 0 made s t d.machine parts.0 goes.ready.runs turns parts.1 in
          let quiet = due_is_quiet t step due in
          let legal = run_one (step_of of_files 0 step told) (step_of of_files 0 step told ∷ []) parts.0 mid.machine refl parts.2 in
          told_so parts.0 told is by turned.goes.state (answers 0 step told parts.0 mid.machine quiet turned.goes.state (by_of 0 step told parts.0 mid.machine quiet legal))
          (turned.goes.now ∙ goes.ready.same) (turned.given ∙ given_of s was) (turned.ended ∙ ended_of s was)
          (turns_store opened made s t d.machine parts.0 goes.ready.runs turns parts.1 (stores_of s was))
          (turns_write made s t d.machine parts.0 turns parts.1 (writes_of s was))
        where
          told_so : (k : F) (told : Result Done Refusal) → ss ≡ made ++ step_of of_files 0 step told ∷ [] → reply ≡ reply_of 0 told → k.state ≡ Running
              → Answers of_files 0 step told k mid.machine → k.now ≡ now → t.given ≡ given → t.ended ≡ ended → Stores opened t k → Writes k t → So line
          told_so k (Ok answer) is by up does same given_is ended_is stores writes = absurd (unrefused 0 answer (subst IsRefusal (sym reply_is ∙ by) tt))
          told_so k (Err other) is by up refuses same given_is ended_is stores writes =
              refused_so line other none by (record {
                session = t;
                at = k;
                given_is = given_is;
                follow = λ more come on. follow more come (sym ended_is ∙ on);
                same = same;
                runs = up;
                stores = stores;
                how = inr (inr (inl (step, writes, due, refuses, (acc ++ made, ap (λ (xs : List Step). acc ++ xs) is ∙ sym (append_assoc acc made _)))));
              })

      -- it is given by the session, which has the place of the old one
      gives_now : (after : Session) → mid.sessions ≡ slice_set d.sessions 0 (Some after) → (bytes : List ℕ) (end : Bool) → after.given ≡ bytes → after.ended ≡ end
          → mid.machine.now ≡ now → mid.machine.state ≡ Running → Writes mid.machine after → Stores opened after mid.machine → Goes bytes end mid
      gives_now after sessions bytes end given_is ended_is same runs writes stores = record {
        ready = record {
          same = same;
          runs = runs;
          some = subst (λ (l : List (Option Session)). 0 < length l) (sym sessions) (sessions_set d.sessions (Some after) goes.ready.some);
        };
        gives = record {
          session = after;
          is = ap (λ (l : List (Option Session)). slice_index_or l 0 None) sessions ∙ session_set d.sessions (Some after) goes.ready.some;
          given_is = given_is;
          ended_is = ended_is;
        };
        writes = writes;
        stores = stores;
      }

      push_acts : (digits : List ℕ) → ended ≡ false → Pushes of_files 0 (pushed_bytes digits) reply ss d mid → So (lines.Push 0 digits)
      push_acts digits off (s, t, (was, sessions), room, inr stop) =
          stopped_so (lines.Push 0 digits) (λ refusal. refl) s t was (λ more come on. absurd (let both : true ≡ false = sym on ∙ off in cc)) stop
      push_acts digits off (s, t, (was, sessions), room, inl (turns, inl (is, few))) =
          let bytes = pushed_bytes digits in
          let turned = turns_go 0 ss s t d.machine mid.machine goes.ready.runs turns run in
          let still : t.ended ≡ false = turned.ended ∙ ended_of s was ∙ off in
          so (lines.Push 0 digits) (replies.Pushed 0 _) is
          (gives_now (record t { given = t.given ++ bytes })
          (sessions ∙ ap (λ (r : ReplyValue). slice_set d.sessions 0 (Some (unless_refused r (record t { given = t.given ++ bytes }) t))) is) (given ++ bytes) false
          (ap (λ (g : List ℕ). g ++ bytes) (turned.given ∙ given_of s was)) still (turned.goes.now ∙ goes.ready.same) turned.goes.state
          (more_writes mid.machine t bytes still (turns_write ss s t d.machine mid.machine turns run (writes_of s was)))
          (stores_more opened t mid.machine still (turns_store opened ss s t d.machine mid.machine goes.ready.runs turns run (stores_of s was)) bytes))
      push_acts digits off (s, t, (was, sessions), room, inl (turns, inr (is, long))) =
          let turned = turns_go 0 ss s t d.machine mid.machine goes.ready.runs turns run in
          let given_is : t.given ≡ given = turned.given ∙ given_of s was in
          refused_so (lines.Push 0 digits) refusals.TooLong (λ refusal. refl) is (record {
            session = t;
            at = mid.machine;
            given_is = given_is;
            follow = λ more come on. absurd (let both : true ≡ false = sym on ∙ turned.ended ∙ ended_of s was ∙ off in cc);
            same = turned.goes.now ∙ goes.ready.same;
            runs = turned.goes.state;
            stores = turns_store opened ss s t d.machine mid.machine goes.ready.runs turns run (stores_of s was);
            how = inr (inl (refl, subst (λ (g : List ℕ). MOST_FILE < length (g ++ pushed_bytes digits)) given_is long, refl));
          })

      finish_acts : ended ≡ false → Finishes of_files 0 reply ss d mid → So (lines.Finish 0)
      finish_acts off (s, (was, sessions), none, inl is) =
          let same : mid.machine ≡ d.machine = run_as [] none in
          so (lines.Finish 0) (replies.Finished 0 (length s.given)) is (
            (gives_now (record s { ended = true })
                (sessions ∙ ap (λ (r : ReplyValue). slice_set d.sessions 0 (Some (unless_refused r (record s { ended = true }) s))) is) given true
                (given_of s was) refl (ap (λ (x : F). x.now) same ∙ goes.ready.same) (ap (λ (x : F). x.state) same ∙ goes.ready.runs)
                (subst (λ (x : F). Writes x (record s { ended = true })) (sym same) (ended_writes d.machine s (ended_of s was ∙ off) (writes_of s was)))
                (subst (λ (x : F). Stores opened (record s { ended = true }) x) (sym same) (stores_ended opened s d.machine (ended_of s was ∙ off) (stores_of s was)))),
            refl,
          )
      finish_acts off (s, (was, sessions), none, inr is) =
          refused_so (lines.Finish 0) refusals.Memory (λ refusal. refl) is (record {
            session = s;
            at = d.machine;
            given_is = given_of s was;
            follow = λ more come on. come;
            same = goes.ready.same;
            runs = goes.ready.runs;
            stores = stores_of s was;
            how = inl (refl, run_as [] none);
          })

      -- ---- it commits

      committed_so : (t : Session) (k : F) (told : Result Done Refusal) → reply ≡ reply_of 0 told → k.state ≡ Running → k.now ≡ now → t.given ≡ given → t.ended ≡ true
          → NothingIsDue of_files t → Stores opened t k → Writes k t → Answers of_files 0 (asked.Commit name t.given) told k mid.machine → So (lines.Commit 0 name)
      committed_so t k (Ok (done.Committed sequence)) is up same given_is on nothing stores writes does =
          so (lines.Commit 0 name) (replies.Committed 0 sequence) is
          ((record { session = t; at = k; given_is = given_is; ended = on; runs = up; stores = stores; sequence = sequence; does = does }), refl)
      committed_so t k (Ok answer) is up same given_is on nothing stores writes does = absurd does
      committed_so t k (Err refusal) is up same given_is on nothing stores writes refuses =
          refused_so (lines.Commit 0 name) refusal (λ refusal. refl) is (record {
            session = t;
            at = k;
            given_is = given_is;
            follow = λ more come on. come;
            same = same;
            runs = up;
            stores = stores;
            how = inr (inr (inr (refl, writes, on, nothing, refuses)));
          })

      commit_acts : ended ≡ true → Commits of_files 0 name reply ss d mid → So (lines.Commit 0 name)
      commit_acts end (s, t, (was, sessions), inr stop) = stopped_so (lines.Commit 0 name) (λ refusal. refl) s t was (λ more come on. come) stop
      commit_acts end (s, t, (was, sessions), inl (made, turns, nothing, (told, is, by))) =
          let step = step_of of_files 0 (asked.Commit name t.given) told in
          let parts = run_parts of_files made (step ∷ []) d.machine mid.machine (run_as _ is) in
          let turned = turns_go 0 made s t d.machine parts.0 goes.ready.runs turns parts.1 in
          let legal = run_one step (step ∷ []) parts.0 mid.machine refl parts.2 in
          committed_so t parts.0 told by turned.goes.state (turned.goes.now ∙ goes.ready.same) (turned.given ∙ given_of s was) (turned.ended ∙ ended_of s was ∙ end) nothing
          (turns_store opened made s t d.machine parts.0 goes.ready.runs turns parts.1 (stores_of s was))
          (turns_write made s t d.machine parts.0 turns parts.1 (writes_of s was))
          (subst (λ (st : RunState (List ℕ)). ByState of_files st 0 (asked.Commit name t.given) told parts.0 mid.machine) turned.goes.state legal)

    push_after : (digits : List ℕ) → Goes given false d → Line of_files (lines.Push 0 digits) reply ss d mid → So (lines.Push 0 digits)
    push_after digits goes (own_run, inl (admits, acts)) = push_acts false goes digits refl acts
    push_after digits goes (own_run, inr (refusal, bars, is, none, sessions)) =
        absurd (unbarred (lines.Push 0 digits) d refusal goes.ready.runs refl (ap (takes (lines.Push 0 digits)) (kind_here false goes)) bars)

    finish_after : Goes given false d → Line of_files (lines.Finish 0) reply ss d mid → So (lines.Finish 0)
    finish_after goes (own_run, inl (admits, acts)) = finish_acts false goes refl acts
    finish_after goes (own_run, inr (refusal, bars, is, none, sessions)) =
        absurd (unbarred (lines.Finish 0) d refusal goes.ready.runs refl (ap (takes (lines.Finish 0)) (kind_here false goes)) bars)

    commit_after : Goes given true d → Line of_files (lines.Commit 0 name) reply ss d mid → So (lines.Commit 0 name)
    commit_after goes (own_run, inl (admits, acts)) = commit_acts true goes refl acts
    commit_after goes (own_run, inr (refusal, bars, is, none, sessions)) =
        absurd (unbarred (lines.Commit 0 name) d refusal goes.ready.runs refl (ap (takes (lines.Commit 0 name)) (kind_here true goes)) bars)

    -- a push, or the end
    gives_after : (line : LineValue) → Goes given false d → IsPush line ⊎ (line ≡ lines.Finish 0) → Line of_files line reply ss d mid → So line
    gives_after (lines.Push a digits) goes (inl is) made =
        subst (λ (l : LineValue). So l) (ap (λ (x : ℕ). lines.Push x digits) (sym is))
        (push_after digits goes (subst (λ (x : ℕ). Line of_files (lines.Push x digits) reply ss d mid) is made))
    gives_after line goes (inr is) made =
        subst (λ (l : LineValue). So l) (sym is) (finish_after goes (subst (λ (l : LineValue). Line of_files l reply ss d mid) is made))
    gives_after line goes (inl is) made = absurd is

  -- ---- line after line

  line_after : (line : LineValue) (prev : ReplyValue) (one : Replied) (given : List ℕ) (acc : List Step) (d mid : D) (ss : List Step) → After line prev given acc d
      → Follows (Ingest name) prev one.line → Line of_files one.line one.reply ss d mid → Run of_files ss d.machine mid.machine
      → After one.line one.reply (given_after 0 one.line one.reply given) (acc ++ ss) mid
  line_after line (replies.Opened files) one given acc d mid ss (opens, none) is made run =
      subst (λ (l : LineValue). After l one.reply (given_after 0 l one.reply given) (acc ++ ss) mid) (sym is)
      (begin_after d mid ss one.reply given acc run opens (subst (λ (l : LineValue). Line of_files l one.reply ss d mid) is made))
  line_after line (replies.Begun a) one given acc d mid ss goes follows made run = gives_after d mid ss one.reply given acc run one.line goes follows made
  line_after line (replies.Pushed a count) one given acc d mid ss goes follows made run = gives_after d mid ss one.reply given acc run one.line goes follows made
  line_after line (replies.Finished a count) one given acc d mid ss goes is made run =
      subst (λ (l : LineValue). After l one.reply (given_after 0 l one.reply given) (acc ++ ss) mid) (sym is)
      (commit_after d mid ss one.reply given acc run goes.0 (subst (λ (l : LineValue). Line of_files l one.reply ss d mid) is made))
  line_after line reply one given acc d mid ss after follows made run = absurd follows

  pub all_after : (rs : List Replied) (prev : Replied) (given : List ℕ) (acc : List Step) (d e : D) (ss : List Step) → After prev.line prev.reply given acc d
      → AllFollow (Ingest name) prev rs → Lines of_files rs ss d e
      → After (last_from prev rs).line (last_from prev rs).reply (given_by 0 given rs) (acc ++ ss) e
  all_after [] prev given acc d e ss after follow (none, is) =
      subst (λ (xs : List Step). After prev.line prev.reply given (acc ++ xs) e) (sym none)
      (subst (λ (xs : List Step). After prev.line prev.reply given xs e) (sym (append-nil acc)) (subst (After prev.line prev.reply given acc) (sym is) after))
  all_after (one ∷ more) prev given acc d e ss after (ends, follows, rest) (first, later, mid, is, line, ran) =
      subst (λ (xs : List Step). After (last_from one more).line (last_from one more).reply (given_by 0 (given_after 0 one.line one.reply given) more) xs e)
      (append_assoc acc first later ∙ ap (λ (xs : List Step). acc ++ xs) (sym is))
      (all_after more one (given_after 0 one.line one.reply given) (acc ++ first) mid e later
      (line_after prev.line prev.reply one given acc d mid first after follows line line.0) rest ran)

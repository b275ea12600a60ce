-- In lines a segment lacks a pin only where there are twins.
use Rattle.store_machine.proofs.Prelude.{◌≡◌, ◌⊎◌, ◌<◌, ◌≤◌, inl, inr, ◌∙◌, ℕ, zero, suc, Bool, true, false, [], ◌∷◌, ◌++◌, length, slice_index_or, slice_set, replicate, Option, Some, None, Result, Ok, Err, refl, sym, ap, subst, arith, cases_lt, get_or-set_other, get_or_past, length-set, ACTORS, Top, Refusal, LineValue, pushed_bytes, ReplyValue, Asked, Lines, Replied, desk, Done, Does, Legal, RefusesOn, Acts, AreDid, AreTurns, NothingIsDue, Bars, Desk, IsDueStep, Session, TurnsStop, all_none, kind_at, kind_by, new_session, reply_of, session_of, step_of, takes, unless_refused, Machine, Part, Idle, Writing, Stepped, kind_of, part_in, MayRefuseOpening, Reopens, Run, HasTwins, Values, of_files, of_roots}
use Rattle.std.proofs.Common.{List, if◌then◌else◌}
use Rattle.std.proofs.lemmas.Option.{same_Some}
use Rattle.std.specs.FinMap as finite
use Rattle.std.proofs.lemmas.List.{get_or-replicate, length-replicate, set-get_or}
use Rattle.refusals.specs.declared.refusal.PartKind.TheVariants as kinds
use Rattle.refusals.specs.declared.refusal.Refusal.TheVariants as refusals
use Rattle.script_lines.specs.Grammar as lines
use Rattle.script_lines.specs.declared.reply.Turned.TheVariants as turns
use Rattle.script_lines.specs.ReplyValue as replies
use Rattle.store_model.specs.Trees.{root_of}
use Rattle.store_machine.specs.Asked as asked
use Rattle.store_machine.specs.Done as done
use Rattle.store_machine.specs.Lines.{Admits, Ends, IsStep, Says, StopsAfter}
use Rattle.store_machine.specs.Twins.{GivesTwins, UnpinnedByTwins, UnpinnedHasTwins}
use Rattle.store_machine.proofs.IngestStore.{IsRefusal, unrefused}
use Rattle.store_machine.proofs.Pinned.{new_pinned, pinned_ended, pinned_more}
use Rattle.store_machine.proofs.Quiet.{same_refusal}
use Rattle.store_machine.proofs.TwinSteps.{Beside, WentOn, Writes, beside_here, beside_on, commit_lacks, due_opens, keeps_beside, lacks_of, puts_beside, turn_lacks, turns_on, writes_on}
use Rattle.store_machine.proofs.Writers.{IsNoOpening, IsOther, KeepsWriters, apart_writers, does_of, no_opening, other_keeps, puts, refused_keeps, same_or_not, was_set, within, writers_here, writers_on}
use Rattle.store_machine.proofs.Ingesting.{run_parts}

-- ---- replies

none_left : (sessions : List (Option Session)) (a : ℕ) → slice_index_or (all_none sessions) a None ≡ None
none_left [] a = refl
none_left (s ∷ ss) zero = refl
none_left (s ∷ ss) (suc a) = none_left ss a

many_left : (sessions : List (Option Session)) → length (all_none sessions) ≡ length sessions
many_left [] = refl
many_left (s ∷ ss) = ap suc (many_left ss)

no_session : (n a : ℕ) → slice_index_or (replicate n (let none : Option Session = None in none)) a None ≡ None
no_session n a = elim (cases_lt a n) [
  | inl below ↦ get_or-replicate n a None None below
  | inr past ↦ get_or_past (replicate n None) a None (omega (arith, past, length-replicate {A = Option Session} n None))
]

module _ {V R : Type 0} (v : Values V R) where
  one_of : (x : Stepped V) (m n : Machine V R) → Run v (x ∷ []) m n → Legal v x m n
  one_of x m n (mid, (legal, is)) = subst (Legal v x m) (sym is) legal

  -- ---- desks

  -- each actor that gives a file writes, and has pinned what is kept of it
  pub record Holds (d : Desk V R) : Type 0 where
    pub sessions : length d.sessions ≡ ACTORS
    pub parts : length d.machine.parts ≡ ACTORS
    pub each : (a : ℕ) (s : Session) → session_of v d a ≡ Some s → Writes d.machine a s

  within_parts : (d : Desk V R) → Holds d → (a : ℕ) (s : Session) → session_of v d a ≡ Some s → a < length d.machine.parts
  within_parts d holds a s is = subst (λ (n : ℕ). a < n) (holds.sessions ∙ sym holds.parts) (within d.sessions a s is)

  stay_holds : (d e : Desk V R) → Holds d → e.sessions ≡ d.sessions → KeepsWriters d.machine e.machine → Holds e
  stay_holds d e holds sessions keeps = record {
    sessions = ap length sessions ∙ holds.sessions;
    parts = keeps.many ∙ holds.parts;
    each = λ a s is. writes_on d.machine e.machine a s keeps (holds.each a s (ap (λ (l : List (Option Session)). slice_index_or l a None) (sym sessions) ∙ is));
  }

  put_holds : (d e : Desk V R) (a : ℕ) (o : Option Session) → Holds d → e.sessions ≡ slice_set d.sessions a o → Beside a d.machine e.machine
      → ((s : Session) → o ≡ Some s → Writes e.machine a s) → Holds e
  put_holds d e a o holds sessions beside own = record {
    sessions = ap length sessions ∙ length-set d.sessions a o ∙ holds.sessions;
    parts = beside.many ∙ holds.parts;
    each = λ b s is.
        let found : slice_index_or (slice_set d.sessions a o) b None ≡ Some s = ap (λ (l : List (Option Session)). slice_index_or l b None) (sym sessions) ∙ is in
        elim (same_or_not b a) [
          | inl same ↦
              subst (λ (x : ℕ). Writes e.machine x s) (sym same)
              (own s (was_set d.sessions a o s (subst (λ (x : ℕ). slice_index_or (slice_set d.sessions a o) x None ≡ Some s) same found)))
          | inr other ↦
              let w = holds.each b s (sym (get_or-set_other d.sessions a b o None other) ∙ found) in
              record { pins = w.pins; is = beside.others b other w.pins w.is; pinned = w.pinned }
        ];
  }

  -- so it is after a line, which was refused since a segment lacks a pin only where there are twins
  pub record Kept (d e : Desk V R) (reply : ReplyValue) : Type 0 where
    pub holds : Holds e
    pub lacks : (key : List ℕ) → reply ≡ replies.Refused (refusals.Unpinned key) → GivesTwins v d key

  -- of a reply that is this one
  no_lack : (d : Desk V R) (reply other : ReplyValue) → reply ≡ other → ((key : List ℕ) → other ≡ replies.Refused (refusals.Unpinned key) → ⊥)
      → (key : List ℕ) → reply ≡ replies.Refused (refusals.Unpinned key) → GivesTwins v d key
  no_lack d reply other is none key lacks = absurd (none key (sym is ∙ lacks))

  memory_not : (key : List ℕ) → replies.Refused refusals.Memory ≡ replies.Refused (refusals.Unpinned key) → ⊥
  memory_not key is = let wrong = same_refusal refusals.Memory (refusals.Unpinned key) is in cc

  long_not : (key : List ℕ) → replies.Refused refusals.TooLong ≡ replies.Refused (refusals.Unpinned key) → ⊥
  long_not key is = let wrong = same_refusal refusals.TooLong (refusals.Unpinned key) is in cc

  done_not : (a : ℕ) (answer : Done) (key : List ℕ) → reply_of a (Ok answer) ≡ replies.Refused (refusals.Unpinned key) → ⊥
  done_not a answer key is = unrefused a answer (subst IsRefusal (sym is) tt)

  -- ---- a line that was stopped by a turn, or by want of memory

  module _ (d e : Desk V R) (holds : Holds d) (reply : ReplyValue) (ss : List (Stepped V)) (run : Run v ss d.machine e.machine) (a : ℕ) (s : Session)
      (was : session_of v d a ≡ Some s) where
    w : Writes d.machine a s
    w = holds.each a s was

    below : a < length d.machine.parts
    below = within_parts d holds a s was

    run_as : (xs : List (Stepped V)) → ss ≡ xs → Run v xs d.machine e.machine
    run_as xs is = subst (λ (ys : List (Stepped V)). Run v ys d.machine e.machine) is run

    turns_made : (made : List (Stepped V)) (t : Session) (k : Machine V R) → AreTurns v a made s t → Run v made d.machine k → WentOn a s t d.machine k
    turns_made made t k turns first = turns_on v a made s t d.machine k turns first below w

    -- these are twins of what is given at the desk
    gives : (t : Session) (key : List ℕ) → t.given ≡ s.given → t.ended ≡ s.ended → HasTwins t.given t.ended key → GivesTwins v d key
    gives t key given ended twins =
        (a, s, was, subst (λ (g : List ℕ). HasTwins g s.ended key) given (subst (λ (b : Bool). HasTwins t.given b key) ended twins))

    pub record Stopped (t : Session) : Type 0 where
      pub writes : Writes e.machine a t
      pub beside : Beside a d.machine e.machine
      pub given : t.given ≡ s.given
      pub ended : t.ended ≡ s.ended
      pub lacks : (key : List ℕ) → reply ≡ replies.Refused (refusals.Unpinned key) → GivesTwins v d key
      pub refused : (refusal : Refusal) × (reply ≡ replies.Refused refusal)

    -- after turns a step was refused
    refused_after : (t : Session) (k : Machine V R) (step : Asked V) (refusal : Refusal) → WentOn a s t d.machine k
        → Legal v (step_of v a step (Err refusal)) k e.machine → IsNoOpening v step → reply ≡ replies.Refused refusal
        → ((key : List ℕ) → RefusesOn v a step (refusals.Unpinned key) k e.machine → HasTwins t.given t.ended key) → Stopped t
    refused_after t k step refusal went legal none is twins =
        let keeps = refused_keeps v a step refusal k e.machine none legal in
        record {
          writes = writes_on k e.machine a t keeps went.writes;
          beside = beside_on a d.machine k e.machine went.beside (keeps_beside a k e.machine keeps);
          given = went.given;
          ended = went.ended;
          lacks = λ key lacks.
              let same : refusal ≡ refusals.Unpinned key = same_refusal refusal (refusals.Unpinned key) (sym is ∙ lacks) in
              gives t key went.given went.ended (twins key (lacks_of v a step key k e.machine none
              (subst (λ (r : Refusal). Legal v (step_of v a step (Err r)) k e.machine) same legal)));
          refused = (refusal, is);
        }

    by_turn : (t : Session) (k : Machine V R) (step : Asked V) (refusal : Refusal) → WentOn a s t d.machine k → IsDueStep v t step → (told : Result Done Refusal)
        → reply ≡ replies.Refused refusal → reply ≡ reply_of a told → Legal v (step_of v a step told) k e.machine → Stopped t
    by_turn t k step refusal went due (Ok answer) refused is legal = absurd (unrefused a answer (subst IsRefusal (sym refused ∙ is) tt))
    by_turn t k step refusal went due (Err other) refused is legal =
        refused_after t k step other went legal (due_opens v t step due) is
        (λ key on. turn_lacks v a t k e.machine (subst (λ (n : ℕ). a < n) (sym went.beside.many) below) went.writes step key due on)

    stops : (made : List (Stepped V)) (t : Session) → AreTurns v a made s t → StopsAfter v a made t reply ss → Stopped t
    stops made t turns (refusal, refused, inl (memory, is)) =
        let went = turns_made made t e.machine turns (run_as made is) in
        record {
          writes = went.writes;
          beside = went.beside;
          given = went.given;
          ended = went.ended;
          lacks = no_lack d reply (replies.Refused refusals.Memory) (refused ∙ ap replies.Refused memory) memory_not;
          refused = (refusal, refused);
        }
    stops made t turns (refusal, refused, inr (step, due, (told, is, by))) =
        let parts = run_parts v made (step_of v a step told ∷ []) d.machine e.machine (run_as (made ++ step_of v a step told ∷ []) is) in
        by_turn t parts.0 step refusal (turns_made made t parts.0 turns parts.1) due told refused by (one_of (step_of v a step told) parts.0 e.machine parts.2)

    -- where a line was refused, the session is this
    kept_stopped : (t : Session) (o : Option Session) → Stopped t → ((refusal : Refusal) → reply ≡ replies.Refused refusal → o ≡ Some t)
        → e.sessions ≡ slice_set d.sessions a o → Kept d e reply
    kept_stopped t o stopped left sessions = record {
      holds = put_holds d e a o holds sessions stopped.beside
          (λ x is. subst (Writes e.machine a) (same_Some t x (sym (left stopped.refused.0 stopped.refused.1) ∙ is)) stopped.writes);
      lacks = stopped.lacks;
    }

    -- ---- lines of sessions

    pushed : (bytes : List ℕ) (t : Session) → s.ended ≡ false → e.sessions ≡ slice_set d.sessions a (Some (unless_refused reply (record t { given = t.given ++ bytes }) t))
        → ((AreTurns v a ss s t × (((count : ℕ) × (reply ≡ replies.Pushed a count)) ⊎ (reply ≡ replies.Refused refusals.TooLong))) ⊎ TurnsStop v a s reply ss t)
        → Kept d e reply
    pushed bytes t off sessions (inr (made, turns, stop)) =
        kept_stopped t (Some (unless_refused reply (record t { given = t.given ++ bytes }) t)) (stops made t turns stop)
        (λ refusal is. ap (λ (r : ReplyValue). Some (unless_refused r (record t { given = t.given ++ bytes }) t)) is) sessions
    pushed bytes t off sessions (inl (turns, inr long)) =
        let went = turns_made ss t e.machine turns run in
        record {
          holds = put_holds d e a (Some t) holds (sessions ∙ ap (λ (r : ReplyValue). slice_set d.sessions a (Some (unless_refused r (record t { given = t.given ++ bytes }) t)))
              long)
              went.beside (λ x is. subst (Writes e.machine a) (same_Some t x is) went.writes);
          lacks = no_lack d reply (replies.Refused refusals.TooLong) long long_not;
        }
    pushed bytes t off sessions (inl (turns, inl (count, is))) =
        let went = turns_made ss t e.machine turns run in
        let after : Session = record t { given = t.given ++ bytes } in
        let now : Writes e.machine a after =
        record { pins = went.writes.pins; is = went.writes.is; pinned = pinned_more t went.writes.pins bytes (went.ended ∙ off) went.writes.pinned } in
        record {
          holds = put_holds d e a (Some after) holds (sessions ∙ ap (λ (r : ReplyValue). slice_set d.sessions a (Some (unless_refused r after t))) is)
              went.beside (λ x same. subst (Writes e.machine a) (same_Some after x same) now);
          lacks = no_lack d reply (replies.Pushed a count) is (λ key wrong. absurd (let no : replies.Pushed a count ≡ replies.Refused (refusals.Unpinned key) = wrong in cc));
        }

    finished : s.ended ≡ false → e.sessions ≡ slice_set d.sessions a (Some (unless_refused reply (record s { ended = true }) s)) → ss ≡ []
        → (((count : ℕ) × (reply ≡ replies.Finished a count)) ⊎ (reply ≡ replies.Refused refusals.Memory)) → Kept d e reply
    finished off sessions none (inr memory) =
        let same : e.machine ≡ d.machine = run_as [] none in
        record {
          holds = put_holds d e a (Some s) holds (sessions ∙ ap (λ (r : ReplyValue). slice_set d.sessions a (Some (unless_refused r (record s { ended = true }) s))) memory)
              (beside_here a d.machine e.machine same)
              (λ x is. subst (Writes e.machine a) (same_Some s x is) (writes_on d.machine e.machine a s (writers_here d.machine e.machine same) w));
          lacks = no_lack d reply (replies.Refused refusals.Memory) memory memory_not;
        }
    finished off sessions none (inl (count, is)) =
        let same : e.machine ≡ d.machine = run_as [] none in
        let after : Session = record s { ended = true } in
        let still = writes_on d.machine e.machine a s (writers_here d.machine e.machine same) w in
        let now : Writes e.machine a after = record { pins = still.pins; is = still.is; pinned = pinned_ended s still.pins off still.pinned } in
        record {
          holds = put_holds d e a (Some after) holds (sessions ∙ ap (λ (r : ReplyValue). slice_set d.sessions a (Some (unless_refused r after s))) is)
              (beside_here a d.machine e.machine same) (λ x there. subst (Writes e.machine a) (same_Some after x there) now);
          lacks = no_lack d reply (replies.Finished a count) is (λ key wrong. absurd (let no : replies.Finished a count ≡ replies.Refused (refusals.Unpinned key) = wrong in cc));
        }

    -- one turn that was made
    turn_told : (t : Session) (step : Asked V) (told : Result Done Refusal) → ss ≡ step_of v a step told ∷ [] → AreTurns v a ss s t → reply ≡ reply_of a told
        → e.sessions ≡ slice_set d.sessions a (Some t) → Kept d e reply
    turn_told t step (Ok answer) is turns by sessions =
        let went = turns_made ss t e.machine turns run in
        record {
          holds = put_holds d e a (Some t) holds sessions went.beside (λ x same. subst (Writes e.machine a) (same_Some t x same) went.writes);
          lacks = no_lack d reply (reply_of a (Ok answer)) by (done_not a answer);
        }
    turn_told t step (Err refusal) is turns by sessions = absurd (not_told (subst (λ (xs : List (Stepped V)). AreTurns v a xs s t) is turns))
      where
        not_told : AreTurns v a (step_of v a step (Err refusal) ∷ []) s t → ⊥
        not_told (actor, due, (answer, wrong, more)) = let no : None ≡ Some answer = wrong in cc

    idle : (t : Session) → ss ≡ [] → t ≡ s → reply ≡ replies.Turn a turns.Idle → e.sessions ≡ slice_set d.sessions a (Some t) → Kept d e reply
    idle t none same is sessions =
        let here : e.machine ≡ d.machine = run_as [] none in
        record {
          holds = put_holds d e a (Some t) holds sessions (beside_here a d.machine e.machine here)
              (λ x there. subst (Writes e.machine a) (sym same ∙ same_Some t x there) (writes_on d.machine e.machine a s (writers_here d.machine e.machine here) w));
          lacks = no_lack d reply (replies.Turn a turns.Idle) is (λ key wrong. absurd (let no : replies.Turn a turns.Idle ≡ replies.Refused (refusals.Unpinned key) = wrong in cc));
        }

    turn_line : (t : Session) → e.sessions ≡ slice_set d.sessions a (Some t)
        → (((step : Asked V) × (told : Result Done Refusal) × (ss ≡ step_of v a step told ∷ []) × AreTurns v a ss s t × (reply ≡ reply_of a told))
        ⊎ ((ss ≡ []) × (t ≡ s) × NothingIsDue v s × (reply ≡ replies.Turn a turns.Idle))
        ⊎ ((t ≡ s) × StopsAfter v a [] s reply ss)) → Kept d e reply
    turn_line t sessions (inl (step, told, is, turns, by)) = turn_told t step told is turns by sessions
    turn_line t sessions (inr (inl (none, same, nothing, is))) = idle t none same is sessions
    turn_line t sessions (inr (inr (same, stop))) =
        kept_stopped s (Some t) (stops [] s refl stop) (λ refusal is. ap (λ (x : Session). Some x) same) sessions

    -- the name is given
    module _ (root_is : (file : List ℕ) → v.root (v.of file) ≡ root_of file) (name : List ℕ) (ended : s.ended ≡ true) where
      commit_told : (t : Session) (k : Machine V R) → WentOn a s t d.machine k → NothingIsDue v t → (told : Result Done Refusal) → reply ≡ reply_of a told
          → Legal v (step_of v a (asked.Commit name (v.of t.given)) told) k e.machine → e.sessions ≡ slice_set d.sessions a (unless_refused reply None (Some t))
          → Kept d e reply
      commit_told t k went nothing (Err refusal) is legal sessions =
          kept_stopped t (unless_refused reply None (Some t))
          (refused_after t k (asked.Commit name (v.of t.given)) refusal went legal tt is
          (λ key on. commit_lacks v a t k e.machine (subst (λ (n : ℕ). a < n) (sym went.beside.many) below) went.writes root_is name key (went.ended ∙ ended) nothing on))
          (λ other same. ap (λ (r : ReplyValue). unless_refused r None (Some t)) same) sessions
      commit_told t k went nothing (Ok answer) is legal sessions =
          by_answer answer is (does_of v a (asked.Commit name (v.of t.given)) answer k e.machine tt legal)
        where
          by_answer : (answer : Done) → reply ≡ reply_of a (Ok answer) → Does v a (asked.Commit name (v.of t.given)) answer k e.machine → Kept d e reply
          by_answer (done.Committed sequence) is does = record {
            holds = put_holds d e a None holds (sessions ∙ ap (λ (r : ReplyValue). slice_set d.sessions a (unless_refused r None (Some t))) is)
                (beside_on a d.machine k e.machine went.beside (puts_beside a Idle k e.machine (ap (λ (x : Machine V R). x.parts) does.others)))
                (λ x wrong. absurd (let no : None ≡ Some x = wrong in cc));
            lacks = no_lack d reply (replies.Committed a sequence) is (done_not a (done.Committed sequence));
          }
          by_answer other is does = absurd does

      commit_line : (t : Session) → e.sessions ≡ slice_set d.sessions a (unless_refused reply None (Some t))
          → (((made : List (Stepped V)) × AreTurns v a made s t × NothingIsDue v t × Ends v a made (asked.Commit name (v.of t.given)) reply ss)
          ⊎ TurnsStop v a s reply ss t) → Kept d e reply
      commit_line t sessions (inl (made, turns, nothing, (told, is, by))) =
          let last = step_of v a (asked.Commit name (v.of t.given)) told in
          let parts = run_parts v made (last ∷ []) d.machine e.machine (run_as (made ++ last ∷ []) is) in
          commit_told t parts.0 (turns_made made t parts.0 turns parts.1) nothing told by (one_of last parts.0 e.machine parts.2) sessions
      commit_line t sessions (inr (made, turns, stop)) =
          kept_stopped t (unless_refused reply None (Some t)) (stops made t turns stop) (λ other same. ap (λ (r : ReplyValue). unless_refused r None (Some t)) same) sessions

    -- it is given up
    abort_line : e.sessions ≡ slice_set d.sessions a (unless_refused reply None (Some s)) → Ends v a [] asked.Abort reply ss → Kept d e reply
    abort_line sessions (Err refusal, is, by) =
        let here : WentOn a s s d.machine d.machine = turns_made [] s d.machine refl refl in
        kept_stopped s (unless_refused reply None (Some s))
        (refused_after s d.machine asked.Abort refusal here
        (one_of (step_of v a asked.Abort (Err refusal)) d.machine e.machine (run_as (step_of v a asked.Abort (Err refusal) ∷ []) is)) tt by (λ key on. absurd on))
        (λ other same. ap (λ (r : ReplyValue). unless_refused r None (Some s)) same) sessions
    abort_line sessions (Ok answer, is, by) = by_answer answer by (does_of v a asked.Abort answer d.machine e.machine tt
        (one_of (step_of v a asked.Abort (Ok answer)) d.machine e.machine (run_as (step_of v a asked.Abort (Ok answer) ∷ []) is)))
      where
        by_answer : (answer : Done) → reply ≡ reply_of a (Ok answer) → Does v a asked.Abort answer d.machine e.machine → Kept d e reply
        by_answer done.Aborted is (kind, others) = record {
          holds = put_holds d e a None holds (sessions ∙ ap (λ (r : ReplyValue). slice_set d.sessions a (unless_refused r None (Some s))) is)
              (puts_beside a Idle d.machine e.machine (ap (λ (x : Machine V R). x.parts) others)) (λ x wrong. absurd (let no : None ≡ Some x = wrong in cc));
          lacks = no_lack d reply (replies.Aborted a) is (done_not a done.Aborted);
        }
        by_answer other is does = absurd does

  -- ---- other lines

  module _ (stays_not : (rest : R) (key : List ℕ) (after : R) → v.Stays rest (refusals.Unpinned key) after → ⊥) where
    -- a step that is none of a session lacks no pin
    none_lacks : (a : ℕ) (step : Asked V) (key : List ℕ) (m n : Machine V R) → IsOther v step → RefusesOn v a step (refusals.Unpinned key) m n → ⊥
    none_lacks a asked.Begin key m n other on = on
    none_lacks a (asked.OpenRead name) key m n other on = on
    none_lacks a asked.ReadNext key m n other (value, rest, after, was, stays, others) = stays_not rest key after stays
    none_lacks a asked.EndRead key m n other on = on
    none_lacks a (asked.Delete name) key m n other on = on
    none_lacks a asked.ListNames key m n other on = on
    none_lacks a (asked.GcStart percent) key m n other on = on
    none_lacks a asked.GcStep key m n other on = on
    none_lacks a asked.Stat key m n other on = on
    none_lacks a asked.Unique key m n other on = on
    none_lacks a step key m n other on = other

    told_not : (a : ℕ) (step : Asked V) (told : Result Done Refusal) (m n : Machine V R) → IsOther v step → Legal v (step_of v a step told) m n
        → (key : List ℕ) → reply_of a told ≡ replies.Refused (refusals.Unpinned key) → ⊥
    told_not a step (Ok answer) m n other legal key is = done_not a answer key is
    told_not a step (Err refusal) m n other legal key is =
        none_lacks a step key m n other
        (lacks_of v a step key m n (no_opening v step other)
        (subst (λ (r : Refusal). Legal v (step_of v a step (Err r)) m n) (same_refusal refusal (refusals.Unpinned key) is) legal))

    module _ (d e : Desk V R) (holds : Holds d) (reply : ReplyValue) (ss : List (Stepped V)) (run : Run v ss d.machine e.machine) where
      ran_as : (xs : List (Stepped V)) → ss ≡ xs → Run v xs d.machine e.machine
      ran_as xs is = subst (λ (ys : List (Stepped V)). Run v ys d.machine e.machine) is run

      -- no step was made
      nothing : ss ≡ [] → e.sessions ≡ d.sessions → ((key : List ℕ) → reply ≡ replies.Refused (refusals.Unpinned key) → ⊥) → Kept d e reply
      nothing none sessions not = record {
        holds = stay_holds d e holds sessions (writers_here d.machine e.machine (ran_as [] none));
        lacks = λ key is. absurd (not key is);
      }

      one_line : (a : ℕ) (step : Asked V) → IsOther v step → Ends v a [] step reply ss → e.sessions ≡ d.sessions → Kept d e reply
      one_line a step other (told, is, by) sessions =
          let legal = one_of (step_of v a step told) d.machine e.machine (ran_as (step_of v a step told ∷ []) is) in
          record {
            holds = stay_holds d e holds sessions (other_keeps v a step told d.machine e.machine other legal);
            lacks = no_lack d reply (reply_of a told) by (told_not a step told d.machine e.machine other legal);
          }

      is_other : (line : LineValue) (a : ℕ) (step : Asked V) → IsStep v line a step → IsOther v step
      is_other (lines.Read a name) actor step (own, is) = subst (IsOther v) (sym is) tt
      is_other (lines.Next a) actor step (own, is) = subst (IsOther v) (sym is) tt
      is_other (lines.Drop a) actor step (own, is) = subst (IsOther v) (sym is) tt
      is_other (lines.Delete name) actor step is = subst (IsOther v) (sym is) tt
      is_other lines.ListNames actor step is = subst (IsOther v) (sym is) tt
      is_other (lines.Gc percent) actor step is = subst (IsOther v) (sym is) tt
      is_other lines.GcStep actor step is = subst (IsOther v) (sym is) tt
      is_other lines.Stat actor step is = subst (IsOther v) (sym is) tt
      is_other lines.Unique actor step is = subst (IsOther v) (sym is) tt
      is_other line actor step is = absurd is

      -- ---- a collection goes on

      did_keeps : (xs : List (Stepped V)) (m n : Machine V R) → AreDid v xs → Run v xs m n → KeepsWriters m n
      did_keeps [] m n did run = writers_here m n run
      did_keeps (x ∷ xs) m n (is, answer, more) (mid, (legal, run)) =
          writers_on m mid n (other_keeps v x.actor x.asked x.answer m mid (subst (IsOther v) (sym is) tt) legal) (did_keeps xs mid n more run)

      sweep_line : (made : List (Stepped V)) (a : ℕ) → AreDid v made → Ends v a made asked.GcStep reply ss → e.sessions ≡ d.sessions → Kept d e reply
      sweep_line made a did (told, is, by) sessions =
          let last = step_of v a asked.GcStep told in
          let parts = run_parts v made (last ∷ []) d.machine e.machine (ran_as (made ++ last ∷ []) is) in
          let legal = one_of last parts.0 e.machine parts.2 in
          record {
            holds = stay_holds d e holds sessions
                (writers_on d.machine parts.0 e.machine (did_keeps made d.machine parts.0 did parts.1)
                (other_keeps v a asked.GcStep told parts.0 e.machine tt legal));
            lacks = no_lack d reply (reply_of a told) by (told_not a asked.GcStep told parts.0 e.machine tt legal);
          }

      -- ---- an actor begins

      begun_holds : (a : ℕ) → e.sessions ≡ slice_set d.sessions a (Some new_session) → Beside a d.machine e.machine
          → (a < length d.machine.parts → part_in e.machine a ≡ Writing finite.empty) → Holds e
      begun_holds a set beside here = by_place (cases_lt a (length d.machine.parts))
        where
          by_place : (a < length d.machine.parts) ⊎ (length d.machine.parts ≤ a) → Holds e
          by_place (inl below) =
              put_holds d e a (Some new_session) holds set beside
              (λ x is. subst (Writes e.machine a) (same_Some new_session x is) (record { pins = finite.empty; is = here below; pinned = new_pinned }))
          by_place (inr past) = record {
            sessions = ap length set ∙ length-set d.sessions a (Some new_session) ∙ holds.sessions;
            parts = beside.many ∙ holds.parts;
            each = λ b s is.
                let found : slice_index_or (slice_set d.sessions a (Some new_session)) b None ≡ Some s =
                ap (λ (l : List (Option Session)). slice_index_or l b None) (sym set) ∙ is in
                elim (same_or_not b a) [
                  | inl same ↦
                      let place : b < length (slice_set d.sessions a (Some new_session)) = within (slice_set d.sessions a (Some new_session)) b s found in
                      absurd (omega (arith, place, past, same, length-set d.sessions a (Some new_session), holds.sessions, holds.parts))
                  | inr other ↦
                      let w = holds.each b s (sym (get_or-set_other d.sessions a b (Some new_session) None other) ∙ found) in
                      record { pins = w.pins; is = beside.others b other w.pins w.is; pinned = w.pinned }
                ];
          }

      begin_told : (a : ℕ) (told : Result Done Refusal) → reply ≡ reply_of a told → Legal v (step_of v a asked.Begin told) d.machine e.machine
          → e.sessions ≡ slice_set d.sessions a (unless_refused reply (Some new_session) (session_of v d a)) → Kept d e reply
      begin_told a (Err refusal) by legal sessions = record {
        holds = stay_holds d e holds
            (sessions ∙ ap (λ (r : ReplyValue). slice_set d.sessions a (unless_refused r (Some new_session) (session_of v d a))) by ∙ set-get_or d.sessions a None)
            (other_keeps v a asked.Begin (Err refusal) d.machine e.machine tt legal);
        lacks = no_lack d reply (reply_of a (Err refusal)) by (told_not a asked.Begin (Err refusal) d.machine e.machine tt legal);
      }
      begin_told a (Ok answer) by legal sessions = by_answer answer by (does_of v a asked.Begin answer d.machine e.machine tt legal)
        where
          by_answer : (answer : Done) → reply ≡ reply_of a (Ok answer) → Does v a asked.Begin answer d.machine e.machine → Kept d e reply
          by_answer done.Begun is (was, others) =
              let parts = ap (λ (x : Machine V R). x.parts) others in
              let put = puts a (Writing finite.empty) d.machine e.machine parts in
              let set : e.sessions ≡ slice_set d.sessions a (Some new_session) =
              sessions ∙ ap (λ (r : ReplyValue). slice_set d.sessions a (unless_refused r (Some new_session) (session_of v d a))) is in
              record {
                holds = begun_holds a set (puts_beside a (Writing finite.empty) d.machine e.machine parts) put.here;
                lacks = no_lack d reply (replies.Begun a) is (done_not a done.Begun);
              }
          by_answer other is does = absurd does

      -- ---- it is opened again

      reopen_told : (a : ℕ) (told : Result Done Refusal) → reply ≡ reply_of a told → Reopens v told d.machine e.machine
          → e.sessions ≡ unless_refused reply (all_none d.sessions) d.sessions → Kept d e reply
      reopen_told a (Ok (done.Reopened files)) by opens sessions =
          let set : e.sessions ≡ all_none d.sessions = sessions ∙ ap (λ (r : ReplyValue). unless_refused r (all_none d.sessions) d.sessions) by in
          record {
            holds = record {
              sessions = ap length set ∙ many_left d.sessions ∙ holds.sessions;
              parts = ap (λ (x : Machine V R). length x.parts) opens.others ∙ length-replicate {A = Part V R} ACTORS Idle;
              each = λ b s is. absurd (let wrong : None ≡ Some s =
                  sym (none_left d.sessions b) ∙ ap (λ (l : List (Option Session)). slice_index_or l b None) (sym set) ∙ is in cc);
            };
            lacks = no_lack d reply (replies.Opened files) by (done_not a (done.Reopened files));
          }
      reopen_told a (Ok answer) by opens sessions = absurd opens
      reopen_told a (Err refusal) by (may, left) sessions = record {
        holds = stay_holds d e holds (sessions ∙ ap (λ (r : ReplyValue). unless_refused r (all_none d.sessions) d.sessions) by)
            (elim left [
              | inl same ↦ writers_here d.machine e.machine same
              | inr gives ↦ apart_writers 0 d.machine e.machine (inl (ap (λ (x : Machine V R). x.parts) gives.1))
            ]);
        lacks = no_lack d reply (replies.Refused refusal) by (λ key is. subst (MayRefuseOpening v) (same_refusal refusal (refusals.Unpinned key) is) may);
      }

    -- ---- each line

    module _ (root_is : (file : List ℕ) → v.root (v.of file) ≡ root_of file) where
      -- what an actor has to be at, which gives a file
      at_kind : (d : Desk V R) (a : ℕ) (s : Session) → session_of v d a ≡ Some s → kind_at v d a ≡ kind_by (Some s) (kind_of (part_in d.machine a))
      at_kind d a s was = ap (λ (o : Option Session). kind_by o (kind_of (part_in d.machine a))) was

      gives_on : (a : ℕ) (digits : _) (d : Desk V R) (s : Session) → session_of v d a ≡ Some s → Admits v (lines.Push a digits) d → s.ended ≡ false
      gives_on a digits d s was admits = by_end s.ended refl (ap (takes (lines.Push a digits)) (sym (at_kind d a s was)) ∙ admits.1 a refl)
        where
          by_end : (b : Bool) → s.ended ≡ b → takes (lines.Push a digits) (kind_by (Some s) (kind_of (part_in d.machine a))) ≡ true → s.ended ≡ false
          by_end false off is = off
          by_end true on is = absurd (let wrong : false ≡ true =
              sym (ap (λ (b : Bool). takes (lines.Push a digits) (if b then kinds.Finished else kinds.Writing)) on) ∙ is in cc)

      unfinished : (a : ℕ) (d : Desk V R) (s : Session) → session_of v d a ≡ Some s → Admits v (lines.Finish a) d → s.ended ≡ false
      unfinished a d s was admits = by_end s.ended refl (ap (takes (lines.Finish a)) (sym (at_kind d a s was)) ∙ admits.1 a refl)
        where
          by_end : (b : Bool) → s.ended ≡ b → takes (lines.Finish a) (kind_by (Some s) (kind_of (part_in d.machine a))) ≡ true → s.ended ≡ false
          by_end false off is = off
          by_end true on is = absurd (let wrong : false ≡ true =
              sym (ap (λ (b : Bool). takes (lines.Finish a) (if b then kinds.Finished else kinds.Writing)) on) ∙ is in cc)

      all_given : (a : ℕ) (name : List ℕ) (d : Desk V R) (s : Session) → session_of v d a ≡ Some s → Admits v (lines.Commit a name) d → s.ended ≡ true
      all_given a name d s was admits = by_end s.ended refl (ap (takes (lines.Commit a name)) (sym (at_kind d a s was)) ∙ admits.1 a refl)
        where
          by_end : (b : Bool) → s.ended ≡ b → takes (lines.Commit a name) (kind_by (Some s) (kind_of (part_in d.machine a))) ≡ true → s.ended ≡ true
          by_end true on is = on
          by_end false off is = absurd (let wrong : false ≡ true =
              sym (ap (λ (b : Bool). takes (lines.Commit a name) (if b then kinds.Finished else kinds.Writing)) off) ∙ is in cc)

      step_acts : (line : LineValue) (reply : ReplyValue) (ss : List (Stepped V)) (d e : Desk V R) → Holds d → Run v ss d.machine e.machine
          → (a : ℕ) × (step : Asked V) × IsStep v line a step × Ends v a [] step reply ss × (e.sessions ≡ d.sessions) → Kept d e reply
      step_acts line reply ss d e holds run (a, step, is, ends, sessions) =
          one_line d e holds reply ss run a step (is_other d e holds reply ss run line a step is) ends sessions

      acts : (line : LineValue) (reply : ReplyValue) (ss : List (Stepped V)) (d e : Desk V R) → Holds d → Run v ss d.machine e.machine → Admits v line d
          → Acts v line reply ss d e → Kept d e reply
      acts (lines.Begin a) reply ss d e holds run admits (sessions, inl (told, is, by)) =
          begin_told d e holds reply ss run a told by
          (one_of (step_of v a asked.Begin told) d.machine e.machine (ran_as d e holds reply ss run (step_of v a asked.Begin told ∷ []) is)) sessions
      acts (lines.Begin a) reply ss d e holds run admits (sessions, inr (memory, none)) =
          nothing d e holds reply ss run none
          (sessions ∙ ap (λ (r : ReplyValue). slice_set d.sessions a (unless_refused r (Some new_session) (session_of v d a))) memory ∙ set-get_or d.sessions a None)
          (λ key is. memory_not key (sym memory ∙ is))
      acts (lines.Push a digits) reply ss d e holds run admits (s, t, (was, sessions), room, inl (turns, inl (is, few))) =
          pushed d e holds reply ss run a s was (pushed_bytes digits) t (gives_on a digits d s was admits) sessions (inl (turns, inl (_, is)))
      acts (lines.Push a digits) reply ss d e holds run admits (s, t, (was, sessions), room, inl (turns, inr (is, long))) =
          pushed d e holds reply ss run a s was (pushed_bytes digits) t (gives_on a digits d s was admits) sessions (inl (turns, inr is))
      acts (lines.Push a digits) reply ss d e holds run admits (s, t, (was, sessions), room, inr stop) =
          pushed d e holds reply ss run a s was (pushed_bytes digits) t (gives_on a digits d s was admits) sessions (inr stop)
      acts (lines.Finish a) reply ss d e holds run admits (s, (was, sessions), none, inl is) =
          finished d e holds reply ss run a s was (unfinished a d s was admits) sessions none (inl (_, is))
      acts (lines.Finish a) reply ss d e holds run admits (s, (was, sessions), none, inr memory) =
          finished d e holds reply ss run a s was (unfinished a d s was admits) sessions none (inr memory)
      acts (lines.Turn a) reply ss d e holds run admits (s, t, (was, sessions), how) = turn_line d e holds reply ss run a s was t sessions how
      acts (lines.Commit a name) reply ss d e holds run admits (s, t, (was, sessions), how) =
          commit_line d e holds reply ss run a s was root_is name (all_given a name d s was admits) t sessions how
      acts (lines.Abort a) reply ss d e holds run admits (s, (was, sessions), ends) = abort_line d e holds reply ss run a s was sessions ends
      acts lines.Sweep reply ss d e holds run admits (made, a, did, ends, last, sessions) = sweep_line d e holds reply ss run made a did ends sessions
      acts (lines.Read a name) reply ss d e holds run admits act = step_acts (lines.Read a name) reply ss d e holds run act
      acts (lines.Next a) reply ss d e holds run admits act = step_acts (lines.Next a) reply ss d e holds run act
      acts (lines.Drop a) reply ss d e holds run admits act = step_acts (lines.Drop a) reply ss d e holds run act
      acts (lines.Delete name) reply ss d e holds run admits act = step_acts (lines.Delete name) reply ss d e holds run act
      acts lines.ListNames reply ss d e holds run admits act = step_acts lines.ListNames reply ss d e holds run act
      acts (lines.Gc percent) reply ss d e holds run admits act = step_acts (lines.Gc percent) reply ss d e holds run act
      acts lines.GcStep reply ss d e holds run admits act = step_acts lines.GcStep reply ss d e holds run act
      acts lines.Stat reply ss d e holds run admits act = step_acts lines.Stat reply ss d e holds run act
      acts lines.Unique reply ss d e holds run admits act = step_acts lines.Unique reply ss d e holds run act
      acts lines.Reopen reply ss d e holds run admits act = step_acts lines.Reopen reply ss d e holds run act

      bars_not : (line : LineValue) (d : Desk V R) (key : List ℕ) (refusal : Refusal) → Bars v line d refusal → refusal ≡ refusals.Unpinned key → ⊥
      bars_not line d key (refusals.Stopped at) bars is = let wrong : refusals.Stopped at ≡ refusals.Unpinned key = is in cc
      bars_not line d key (refusals.WrongPart kind) bars is = let wrong : refusals.WrongPart kind ≡ refusals.Unpinned key = is in cc
      bars_not line d key refusal bars is = absurd bars

      says_other : (line : LineValue) (reply : ReplyValue) (ss : List (Stepped V)) (d e : Desk V R) → Holds d → Run v ss d.machine e.machine
          → (Admits v line d × Acts v line reply ss d e)
          ⊎ ((refusal : Refusal) × Bars v line d refusal × (reply ≡ replies.Refused refusal) × (ss ≡ []) × (e.sessions ≡ d.sessions)) → Kept d e reply
      says_other line reply ss d e holds run (inl (admits, act)) = acts line reply ss d e holds run admits act
      says_other line reply ss d e holds run (inr (refusal, bars, is, none, sessions)) =
          nothing d e holds reply ss run none sessions
          (λ key lacks. bars_not line d key refusal bars (same_refusal refusal (refusals.Unpinned key) (sym is ∙ lacks)))

      says : (line : LineValue) (reply : ReplyValue) (ss : List (Stepped V)) (d e : Desk V R) → Holds d → Run v ss d.machine e.machine → Says v line reply ss d e → Kept d e reply
      says lines.Reopen reply ss d e holds run ((a, (told, is, by)), sessions) =
          reopen_told d e holds reply ss run a told by
          (one_of (step_of v a asked.Reopen told) d.machine e.machine (ran_as d e holds reply ss run (step_of v a asked.Reopen told ∷ []) is)) sessions
      says line reply ss d e holds run said = says_other line reply ss d e holds run said

      all_lines : (rs : List Replied) (ss : List (Stepped V)) (d e : Desk V R) (ran : Lines v rs ss d e) → Holds d → UnpinnedByTwins v rs ss d e ran
      all_lines [] ss d e ran holds = tt
      all_lines (one ∷ more) ss d e (first, rest, mid, is, (run, line), next) holds =
          let kept = says one.line one.reply first d mid holds run line in
          (kept.lacks, all_lines more rest mid e next kept.holds)

pub unpinned_has_twins : {V R : Type 0} (v : Values V R) → ((file : List ℕ) → v.root (v.of file) ≡ root_of file)
    → ((rest : R) (key : List ℕ) (after : R) → v.Stays rest (refusals.Unpinned key) after → ⊥) → UnpinnedHasTwins v
unpinned_has_twins {V} {R} v root_is stays_not rs ss m e none ran =
    all_lines v stays_not root_is rs ss (desk m) e ran (record {
      sessions = length-replicate {A = Option Session} ACTORS None;
      parts = ap length none ∙ length-replicate {A = Part V R} ACTORS Idle;
      each = λ a s is. absurd (let wrong : None ≡ Some s = sym (no_session ACTORS a) ∙ is in cc);
    })

-- no read of a file, nor of what a root names, lacks a pin
pub file_reads : (rest : List (List ℕ)) (key : List ℕ) (after : List (List ℕ)) → of_files.Stays rest (refusals.Unpinned key) after → ⊥
file_reads [] key after stays = stays
file_reads (bytes ∷ rest) key after stays = stays

pub root_reads : (rest : List Top) (key : List ℕ) (after : List Top) → of_roots.Stays rest (refusals.Unpinned key) after → ⊥
root_reads rest key [] stays = stays.1
root_reads rest key (t ∷ ts) stays = stays.1

-- Commands of which each line is one step of the first actor: what is so after each line, and so at the end.
use Rattle.store_machine.proofs.Prelude.{◌≡◌, ◌⊎◌, inl, inr, ◌<◌, ℕ, true, false, ListOf, [], ◌∷◌, ◌++◌, length, Option, Some, None, Result, Ok, Err, refl, sym, ◌∙◌, ap, subst, arith, Refusal, LineValue, ReplyValue, FreesTo, Store, last_id, Asked, AfterOpening, FileMachine, IsNotOpened, MakesRoom, OnceOpened, AllFollow, AreLinesOf, Command, EndsRefused, EndsWith, Follows, IsDone, Lines, Replied, desk, last_of, printed, text_of, Done, Answers, ByState, Legal, Bars, Desk, Line, Session, actor_of, all_none, kind_at, kind_by, reply_of, session_of, step_of, takes, unless_refused, Found, Part, Idle, RunState, Running, Stopped, Stepped, all_idle, kind_of, part_in, NamesNeed, MayBeFound, MayRefuseOpening, Reopens, freeing, Run, of_files}
use Rattle.std.proofs.lemmas.Option.{same_Some}
use Rattle.std.proofs.lemmas.List.{append-nil, append_assoc}
use Rattle.refusals.specs.declared.refusal.Refusal.TheVariants as refusals
use Rattle.script_lines.specs.Grammar as lines
use Rattle.script_lines.specs.ReplyValue as replies
use Rattle.store_machine.specs.Asked as asked
use Rattle.store_machine.specs.Commands.{IsEnded, MayGoOn}
use Rattle.store_machine.specs.Done as done
use Rattle.store_machine.specs.Lines.{Ends}
use Rattle.store_machine.specs.Opening.{Stands}
use Rattle.store_machine.proofs.Ingesting.{reply_by, run_one}
use Rattle.store_machine.proofs.Passing.{sure_found}
use Rattle.store_machine.proofs.Quiet.{IsSure, running_sure}

abbrev pub Desks : Type 0
Desks = Desk (ListOf ℕ) (ListOf (ListOf ℕ))

abbrev pub Step : Type 0
Step = Stepped (ListOf ℕ)

-- ---- lists of lines

-- the last of some lines, or the one before them
abbrev pub last_from : Replied → ListOf Replied → Replied
last_from prev [] = prev
last_from prev (one ∷ more) = last_from one more

pub last_is : (one : Replied) (more : ListOf Replied) → last_of (one ∷ more) ≡ Some (last_from one more)
last_is one [] = refl
last_is one (next ∷ more) = last_is next more

pub ends_so : (P : Replied → Type 0) (one : Replied) (more : ListOf Replied) → EndsWith P (one ∷ more) → P (last_from one more)
ends_so P one more (last, is, holds) = subst P (same_Some last (last_from one more) (sym is ∙ last_is one more)) holds

pub ends_from : (P : Replied → Type 0) (one : Replied) (more : ListOf Replied) → P (last_from one more) → EndsWith P (one ∷ more)
ends_from P one more holds = (last_from one more, last_is one more, holds)

-- What is so after a line, by its reply and the text so far, is so after all.
module _ (command : Command) (After : ReplyValue → ListOf ℕ → Desks → Type 0)
    (next : (prev : ReplyValue) (one : Replied) (text : ListOf ℕ) (d mid : Desks) (ss : ListOf Step) → After prev text d → Follows command prev one.line
    → Line of_files one.line one.reply ss d mid → After one.reply (text ++ text_of command [] one.line one.reply) mid) where
  all_after : (rs : ListOf Replied) (prev : Replied) (text : ListOf ℕ) (d e : Desks) (ss : ListOf Step) → After prev.reply text d → AllFollow command prev rs
      → Lines of_files rs ss d e → After (last_from prev rs).reply (text ++ printed command [] rs) e
  all_after [] prev text d e ss after follow (none, is) =
      subst (After prev.reply (text ++ [])) (sym is) (subst (λ (t : ListOf ℕ). After prev.reply t d) (sym (append-nil text)) after)
  all_after (one ∷ more) prev text d e ss after (ends, follows, rest) (first, later, mid, is, line, ran) =
      subst (λ (t : ListOf ℕ). After (last_from one more).reply t e) (append_assoc text (text_of command [] one.line one.reply) (printed command [] more))
      (all_after more one (text ++ text_of command [] one.line one.reply) mid e later (next prev.reply one text d mid first after follows line) rest ran)

-- ---- the machine between lines

-- The names are these, it runs, with this store, and the first actor, who gives no file, is at this.
pub record At (now : Found (ListOf ℕ)) (opened : Store) (part : Part (ListOf ℕ) (ListOf (ListOf ℕ))) (d : Desks) : Type 0 where
  pub same : d.machine.now ≡ now
  pub runs : d.machine.state ≡ Running
  pub store : d.machine.store ≡ opened
  pub none : session_of of_files d 0 ≡ None
  pub some : 0 < length d.machine.parts
  pub part_is : part_in d.machine 0 ≡ part

-- ---- the opening

-- why one is refused where the disk tells its content
abbrev pub IsFailure : Refusal → Type 0
IsFailure refusals.Memory = Unit {0}
IsFailure refusals.DiskRead = Unit {0}
IsFailure refusals.DiskWrite = Unit {0}
IsFailure refusal = ⊥

fails : (refusal : Refusal) → MayRefuseOpening of_files refusal → IsFailure refusal
fails refusals.Memory may = tt
fails refusals.DiskRead may = tt
fails refusals.DiskWrite may = tt
fails (refusals.Full free) may = absurd (may tt)
fails (refusals.NotAStore gate magic) may = absurd (may tt)
fails (refusals.Version number) may = absurd (may tt)
fails (refusals.Damaged at why) may = absurd (may tt)
fails (refusals.WrongSize want got) may = absurd (may tt)
fails (refusals.Corrupt slot offset count want got) may = absurd (may tt)
fails (refusals.Missing key) may = absurd (may tt)
fails refusal may = absurd may

-- Room was made in the store, all actors are at nothing, no collection runs, the last id is that of the containers, and
-- nothing is forgotten.
pub record Fresh (start : FileMachine) (d : Desks) : Type 0 where
  pub room : MakesRoom start d.machine.store
  pub idle : d.machine.parts ≡ all_idle
  pub none_runs : d.machine.collection ≡ None
  pub last : d.machine.last_id ≡ last_id d.machine.store.held
  pub none_forgotten : d.machine.forgotten ≡ []

-- it was done, and all is at rest; or it was refused
abbrev pub Opened : FileMachine → ReplyValue → Desks → Type 0
Opened start reply d =
    ((files : ℕ) × (reply ≡ replies.Opened files) × At start.now d.machine.store Idle d × Fresh start d)
    ⊎ ((refusal : Refusal) × (reply ≡ replies.Refused refusal) × IsFailure refusal × IsNotOpened refusal start d.machine)

pub opened_by : (m : FileMachine) (mid : Desks) (reply : ReplyValue) (told : Result Done Refusal) → m.state ≡ Running → reply ≡ reply_of 0 told
    → Reopens of_files told m mid.machine → mid.sessions ≡ unless_refused reply (all_none (desk m).sessions) (desk m).sessions → Opened m reply mid
opened_by m mid reply (Err refusal) runs is (may, left) sessions = inr (refusal, is, fails refusal may, left)
opened_by m mid reply (Ok (done.Reopened files)) runs is opens sessions =
    let found : opens.found ≡ m.now = subst (λ (st : RunState (ListOf ℕ)). MayBeFound of_files st m.now opens.found) runs (opens.may tt) in
    let before : opens.before ≡ m.store = subst (λ (st : RunState (ListOf ℕ)). Stands of_files st m.store opens.before) runs (opens.same tt) in
    let sessions_are : mid.sessions ≡ all_none (desk m).sessions =
    sessions ∙ ap (λ (r : ReplyValue). unless_refused r (all_none (desk m).sessions) (desk m).sessions) is in
    inl (
      files,
      is,
      record {
        same = ap (λ (x : FileMachine). x.now) opens.others ∙ found;
        runs = ap (λ (x : FileMachine). x.state) opens.others;
        store = refl;
        none = ap (λ (s : ListOf (Option _)). session_of of_files (record mid { sessions = s }) 0) sessions_are;
        some = subst (λ (x : FileMachine). 0 < length x.parts) (sym opens.others) (omega arith);
        part_is = ap (λ (x : FileMachine). part_in x 0) opens.others;
      },
      record {
        room = (
          opens.freed,
          subst (λ (s : Store). FreesTo (NamesNeed of_files m.now) opens.freed s mid.machine.store) before
              (subst (λ (f : Found (ListOf ℕ)). FreesTo (NamesNeed of_files f) opens.freed opens.before mid.machine.store) found (opens.frees tt)),
        );
        idle = ap (λ (x : FileMachine). x.parts) opens.others;
        none_runs = ap (λ (x : FileMachine). x.collection) opens.others;
        last = ap (λ (x : FileMachine). x.last_id) opens.others;
        none_forgotten = ap (λ (x : FileMachine). x.forgotten) opens.others;
      },
    )
opened_by m mid reply (Ok answer) runs is opens sessions = absurd opens

-- ---- all lines

-- the opening was refused, and no line came after it
pub record NotOpened (start : FileMachine) (one : Replied) (more : ListOf Replied) (n : FileMachine) : Type 0 where
  pub refusal : Refusal
  pub reply_is : one.reply ≡ replies.Refused refusal
  pub fails : IsFailure refusal
  pub last : more ≡ []
  pub left : IsNotOpened refusal start n

-- it was done, by a store in which room was made, and this is so after the last line
pub record WasOpened (command : Command) (start : FileMachine) (After : Store → ReplyValue → ListOf ℕ → Desks → Type 0)
    (one : Replied) (more : ListOf Replied) (e : Desks) : Type 0 where
  pub files : ℕ
  pub reply_is : one.reply ≡ replies.Opened files
  pub opened : Store
  pub room : MakesRoom start opened
  pub after : After opened (last_from one more).reply (printed command [] (one ∷ more)) e

-- The lines of a command: what is so once it was opened, and after each line, is so at the end, unless the opening was refused.
module _ (command : Command) (start : FileMachine) (After : Store → ReplyValue → ListOf ℕ → Desks → Type 0)
    (next : (opened : Store) (prev : ReplyValue) (one : Replied) (text : ListOf ℕ) (d mid : Desks) (ss : ListOf Step) → After opened prev text d → Follows command prev one.line
    → Line of_files one.line one.reply ss d mid → After opened one.reply (text ++ text_of command [] one.line one.reply) mid)
    (begun : (files : ℕ) (d : Desks) → At start.now d.machine.store Idle d → Fresh start d
    → After d.machine.store (replies.Opened files) (text_of command [] lines.Reopen (replies.Opened files)) d)
    (ended : (refusal : Refusal) (line : LineValue) → Follows command (replies.Refused refusal) line → ⊥) where
  none_after : (refusal : Refusal) (one : Replied) (more : ListOf Replied) → one.reply ≡ replies.Refused refusal → AllFollow command one more → more ≡ []
  none_after refusal one [] is follow = refl
  none_after refusal one (x ∷ xs) is (goes, follows, rest) = absurd (ended refusal x.line (subst (λ (r : ReplyValue). Follows command r x.line) is follows))

  pub lines_after : (one : Replied) (more : ListOf Replied) (ss : ListOf Step) (e : Desks) → start.state ≡ Running → AreLinesOf command (one ∷ more)
      → Lines of_files (one ∷ more) ss (desk start) e → NotOpened start one more e.machine ⊎ WasOpened command start After one more e
  lines_after one more ss e runs (first, follow) (made, later, mid, is, line, ran) =
      let opening : Line of_files lines.Reopen one.reply made (desk start) mid = subst (λ (l : LineValue). Line of_files l one.reply made (desk start) mid) first line in
      let a = opening.1.0.0 in
      let told = opening.1.0.1.0 in
      let legal : Reopens of_files told start mid.machine = run_one (step_of of_files a asked.Reopen told) made start mid.machine opening.1.0.1.1 opening.0 in
      let reply_is : one.reply ≡ reply_of 0 told = opening.1.0.1.2 ∙ reply_by a 0 told start mid.machine legal in
      by mid later ran (opened_by start mid one.reply told runs reply_is legal opening.1.1)
    where
      by : (mid : Desks) (later : ListOf Step) → Lines of_files more later mid e → Opened start one.reply mid
          → NotOpened start one more e.machine ⊎ WasOpened command start After one more e
      by mid later ran (inr (refusal, is, fails, left)) =
          let none = none_after refusal one more is follow in
          let same = subst (λ (xs : ListOf Replied). Lines of_files xs later mid e) none ran in
          inl (record { refusal = refusal; reply_is = is; fails = fails; last = none; left = subst (λ (x : Desks). IsNotOpened refusal start x.machine) (sym same.1) left })
      by mid later ran (inl (files, is, at, fresh)) =
          let after : After mid.machine.store one.reply (text_of command [] one.line one.reply) mid =
          subst (λ (l : LineValue). After mid.machine.store one.reply (text_of command [] l one.reply) mid) (sym first)
          (subst (λ (r : ReplyValue). After mid.machine.store r (text_of command [] lines.Reopen r) mid) (sym is) (begun files mid at fresh)) in
          inr (record {
            files = files;
            reply_is = is;
            opened = mid.machine.store;
            room = fresh.room;
            after = all_after command (After mid.machine.store) (next mid.machine.store) more one (text_of command [] one.line one.reply) mid e later after follow ran;
          })

-- ---- an opening that was refused

module _ (start : FileMachine) (one : Replied) (more : ListOf Replied) (n : FileMachine) (runs : start.state ≡ Running) (un : NotOpened start one more n) where
  -- the names stay
  pub unopened_same : n.now ≡ start.now
  unopened_same = by un.left
    where
      by : IsNotOpened un.refusal start n → n.now ≡ start.now
      by (inl is) = ap (λ (x : FileMachine). x.now) is
      by (inr (stores, is, why, known)) = ap (λ (x : FileMachine). x.now) is

  pub unopened_found : (x : Found (ListOf ℕ)) → MayBeFound of_files n.state n.now x → x ≡ start.now
  unopened_found x may = sure_found n.state n.now x (by un.left) may ∙ unopened_same
    where
      by : IsNotOpened un.refusal start n → IsSure n.state
      by (inl is) = running_sure n.state (ap (λ (x : FileMachine). x.state) is ∙ runs)
      by (inr (stores, is, why, known)) = subst IsSure (sym (ap (λ (x : FileMachine). x.state) is ∙ ap (freeing of_files stores) runs)) tt

  -- that reply was the last
  last_unopened : (last_from one more).reply ≡ replies.Refused un.refusal
  last_unopened = ap (λ (xs : ListOf Replied). (last_from one xs).reply) un.last ∙ un.reply_is

  pub unopened_refusal : (refusal : Refusal) → EndsRefused refusal (one ∷ more) → IsFailure refusal
  unopened_refusal refusal end =
      let is = ends_so (λ one. one.reply ≡ replies.Refused refusal) one more end in
      subst IsFailure (let same : replies.Refused un.refusal ≡ replies.Refused refusal = sym last_unopened ∙ is in cc) un.fails

  pub unopened_ends : (command : Command) → IsEnded command (one ∷ more)
  unopened_ends command = inr (un.refusal, ends_from (λ one. one.reply ≡ replies.Refused un.refusal) one more last_unopened)

  pub unopened_undone : (command : Command) → (IsDone command (replies.Refused un.refusal) → ⊥) → EndsWith (λ one. IsDone command one.reply) (one ∷ more) → ⊥
  unopened_undone command none end = none (subst (IsDone command) last_unopened (ends_so (λ one. IsDone command one.reply) one more end))

  pub unopened_printed : (command : Command) → text_of command [] one.line (replies.Refused un.refusal) ≡ [] → printed command [] (one ∷ more) ≡ []
  unopened_printed command none =
      ap (λ (xs : ListOf Replied). printed command [] (one ∷ xs)) un.last
      ∙ (append-nil (text_of command [] one.line one.reply) ∙ (ap (text_of command [] one.line) un.reply_is ∙ none))

  pub unopened_store : (P : Store → Type 0) → AfterOpening P (one ∷ more) start n
  unopened_store P = subst (λ (r : ReplyValue). OnceOpened P r start n) (sym un.reply_is) un.left

-- of one that was done this is so of the store that it left
pub opened_store : (P : Store → Type 0) (one : Replied) (more : ListOf Replied) (start n : FileMachine) (files : ℕ) → one.reply ≡ replies.Opened files → (opened : Store)
    → MakesRoom start opened → P opened → AfterOpening P (one ∷ more) start n
opened_store P one more start n files is opened room holds = subst (λ (r : ReplyValue). OnceOpened P r start n) (sym is) (opened, room, holds)

-- ---- a command that came to its end, or goes on

-- after this reply
abbrev pub Over : Command → ReplyValue → Type 0
Over command reply = (IsDone command reply ⊎ ((refusal : Refusal) × (reply ≡ replies.Refused refusal))) ⊎ ((line : LineValue) × Follows command reply line)

pub ends_over : (command : Command) (one : Replied) (more : ListOf Replied) → Over command (last_from one more).reply → IsEnded command (one ∷ more) ⊎ MayGoOn command (one ∷ more)
ends_over command one more (inl (inl done)) = inl (inl (ends_from (λ one. IsDone command one.reply) one more done))
ends_over command one more (inl (inr (refusal, is))) = inl (inr (refusal, ends_from (λ one. one.reply ≡ replies.Refused refusal) one more is))
ends_over command one more (inr (line, follows)) = inr (ends_from (λ last. (line : LineValue) × Follows command last.reply line) one more (line, follows))

-- ---- a line that is one step

-- a line that is the first actor's, who is at what it takes; or no actor's
abbrev pub IsFree : LineValue → Part (ListOf ℕ) (ListOf (ListOf ℕ)) → Type 0
IsFree line part = (a : ℕ) → actor_of line ≡ Some a → (a ≡ 0) × (takes line (kind_of part) ≡ true)

pub first_actor : (line : LineValue) (part : Part (ListOf ℕ) (ListOf (ListOf ℕ))) → actor_of line ≡ Some 0 → takes line (kind_of part) ≡ true → IsFree line part
first_actor line part first taken a is = ((let same : Some a ≡ Some 0 = sym is ∙ first in cc), taken)

pub no_actor : (line : LineValue) (part : Part (ListOf ℕ) (ListOf (ListOf ℕ))) → actor_of line ≡ None → IsFree line part
no_actor line part none a is = absurd (let wrong : None ≡ Some a = sym none ∙ is in cc)

-- the step of an actor was answered so
pub record Answered (a : ℕ) (step : Asked (ListOf ℕ)) (reply : ReplyValue) (d mid : Desks) : Type 0 where
  pub told : Result Done Refusal
  pub answers : Answers of_files a step told d.machine mid.machine
  pub reply_is : reply ≡ reply_of a told

module _ (now : Found (ListOf ℕ)) (opened : Store) (part : Part (ListOf ℕ) (ListOf (ListOf ℕ))) (d mid : Desks) (at : At now opened part d) where
  kind_here : kind_at of_files d 0 ≡ kind_of part
  kind_here = ap (λ (s : Option Session). kind_by s (kind_of (part_in d.machine 0))) at.none ∙ ap kind_of at.part_is

  -- where the actor is at what the line takes it is not barred
  pub not_barred : (line : LineValue) (refusal : Refusal) → IsFree line part → Bars of_files line d refusal → ⊥
  not_barred line (refusals.Stopped count) free ((other, stores, is), count_is) = absurd (let wrong : Stopped other stores ≡ Running = sym is ∙ at.runs in cc)
  not_barred line (refusals.WrongPart kind) free (runs, (a, actor, kind_is, not)) =
      let own = free a actor in
      let kind_so : kind ≡ kind_of part = kind_is ∙ ap (kind_at of_files d) own.0 ∙ kind_here in
      absurd (let wrong : true ≡ false = sym own.1 ∙ ap (takes line) (sym kind_so) ∙ not in cc)
  not_barred line refusal free bars = absurd bars

  pub one_step : (a : ℕ) (step : Asked (ListOf ℕ)) (reply : ReplyValue) (ss : ListOf Step) → Run of_files ss d.machine mid.machine
      → ((told : Result Done Refusal) → Legal of_files (step_of of_files a step told) d.machine mid.machine → ByState of_files d.machine.state a step told d.machine mid.machine)
      → Ends of_files a [] step reply ss → Answered a step reply d mid
  one_step a step reply ss run by (told, is, reply_is) = record {
    told = told;
    answers = subst (λ (st : RunState (ListOf ℕ)). ByState of_files st a step told d.machine mid.machine) at.runs
        (by told (run_one (step_of of_files a step told) ss d.machine mid.machine is run));
    reply_is = reply_is;
  }

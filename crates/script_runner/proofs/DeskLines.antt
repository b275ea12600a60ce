-- Each line that is run is one of a machine that fits the core; and so of the machine of roots, on any disk.
use Rattle.script_runner.proofs.Prelude.{Lines, Shows, Store, ◌≡◌, inl, inr, ◌∙◌, ℕ, Bool, zero, suc, false, List, [], ◌∷◌, ◌++◌, length, replicate, Option, Some, None, refl, sym, ap, subst, length-replicate, Root, DiskView, Top, ACTORS, StepValue, SessionState, LineValue, ReplyValue, Stop, CoreState, Event, Replied, Asked, Legal, Desk, Session, step_of, Machine, RunState, Running, Stepped, Stopped, answered_by, asked_as, IsOfActor, RunnerState, RunsLine, Kept, SameSessions, AreOfActors, RunsLines, Values, later_here, OpensCore}
use Rattle.std.proofs.Common.{slice_index_or}
use Rattle.actor_parts.specs.declared.part.Part as core_part
use Rattle.actor_parts.specs.declared.part.Part.TheVariants as core_parts
use Rattle.actor_parts.specs.Kinds as core_kinds
use Rattle.actor_parts.specs.Parts.{part_of}
use Rattle.actor_parts.specs.StepValue as steps
use Rattle.script_lines.specs.Grammar as lines
use Rattle.store_machine.specs.Asked as asked
use Rattle.store_machine.specs.Lines as machine
use Rattle.store_machine.specs.Machine.{Idle, Part, Reading, Writing, kind_of}
use Rattle.store_machine.specs.Values.{of_roots}
use Rattle.core_machine.specs.Openings.{store_read}
use Rattle.std.specs.FinMap as finite
use Rattle.store_machine.specs.Commands.{desk}
use Rattle.store_machine.specs.Opening.{Opens}
use Rattle.store_model.specs.Image.{Encodes}
use Rattle.dd_disk.proofs.Shows.{until}
use Rattle.core_machine.specs.Refines.{SamePart, SameParts, SameStop, asked_by, IsMachine}
use Rattle.core_machine.proofs.Opened.{opened_refines, unopened_refines}
use Rattle.core_machine.proofs.Refined.{core_refines}
use Rattle.script_runner.specs.LinesAreRuns.{AllLeadTo, AllOpened, BeginsAtDesk, LinesAreRuns, OpenedRunsByRoots, RootDesk, ScriptsAreRuns, beside_roots}
use Rattle.script_runner.specs.Shown.{WasShown}
use Rattle.script_runner.proofs.DeskGiving.{abort_acts, begin_acts, finish_acts}
use Rattle.script_runner.proofs.DeskReopens.{idle_give, read_runs, reopen_line}
use Rattle.script_runner.proofs.DeskRuns.{lines_done, ran_none}
use Rattle.script_runner.proofs.DeskSessions.{none_same}
use Rattle.script_runner.proofs.DeskSteps.{taken_or_not}
use Rattle.script_runner.proofs.DeskTaking.{delete_acts, drop_acts, gc_acts, gc_step_acts, list_acts, next_acts, read_acts, stat_acts, sweep_acts, unique_acts}
use Rattle.script_runner.proofs.DeskTurnLines.{commit_acts, push_acts, turn_acts}
use Rattle.script_runner.proofs.FaultsCounted.{line_went, lines_go_on}
use Rattle.script_runner.proofs.Fitting.{AtDesk, Fitted, Fitting, IsOfGiven, Keeps, Leads, LeavesEither}
use Rattle.script_runner.proofs.RootsFound.{roots_named, shown_longer, shown_read}

-- ---- a machine that fits

-- what is given at a desk is allowed
abbrev pub AllowedAt : (F : Fitted) → Desk F.V F.R → Type 0
AllowedAt F d = (a : ℕ) (t : Session) → machine.session_of F.v d a ≡ Some t → F.Allowed t.given t.ended

module _ (F : Fitted) (r s : RunnerState F.C) (d : Desk F.V F.R) (at : AtDesk F d r) (allowed : AllowedAt F d) where
  open F use {V, R, v, C, state, Allowed, beside, fitting}
  open F.beside use {Fits, Owns}

  pub line_runs : (line : LineValue) (reply : ReplyValue) → IsOfActor line → RunsLine C state line reply r s → Leads F line reply d r s
  line_runs (lines.Begin a) reply actor runs =
      taken_or_not F r d at (lines.Begin a) reply s (λ is. cc) (λ admits acts. begin_acts F r d at s a (actor a refl) admits reply acts) runs
  line_runs (lines.Push a digits) reply actor runs =
      taken_or_not F r d at (lines.Push a digits) reply s (λ is. cc) (λ admits acts. push_acts F r d at s a (actor a refl) allowed digits reply admits acts) runs
  line_runs (lines.Finish a) reply actor runs =
      taken_or_not F r d at (lines.Finish a) reply s (λ is. cc) (λ admits acts. finish_acts F r d at s a (actor a refl) admits reply acts) runs
  line_runs (lines.Turn a) reply actor runs =
      taken_or_not F r d at (lines.Turn a) reply s (λ is. cc) (λ admits acts. turn_acts F r d at s a (actor a refl) allowed reply acts) runs
  line_runs (lines.Commit a name) reply actor runs =
      taken_or_not F r d at (lines.Commit a name) reply s (λ is. cc) (λ admits acts. commit_acts F r d at s a (actor a refl) allowed name reply acts) runs
  line_runs (lines.Abort a) reply actor runs =
      taken_or_not F r d at (lines.Abort a) reply s (λ is. cc) (λ admits acts. abort_acts F r d at s a admits reply acts) runs
  line_runs (lines.Read a name) reply actor runs =
      taken_or_not F r d at (lines.Read a name) reply s (λ is. cc) (λ admits acts. read_acts F r d at s a name reply acts) runs
  line_runs (lines.Next a) reply actor runs =
      taken_or_not F r d at (lines.Next a) reply s (λ is. cc) (λ admits acts. next_acts F r d at s a reply acts) runs
  line_runs (lines.Drop a) reply actor runs =
      taken_or_not F r d at (lines.Drop a) reply s (λ is. cc) (λ admits acts. drop_acts F r d at s a reply admits acts) runs
  line_runs (lines.Delete name) reply actor runs =
      taken_or_not F r d at (lines.Delete name) reply s (λ is. cc) (λ admits acts. delete_acts F r d at s name admits reply acts) runs
  line_runs lines.ListNames reply actor runs =
      taken_or_not F r d at lines.ListNames reply s (λ is. cc) (λ admits acts. list_acts F r d at s reply acts) runs
  line_runs (lines.Gc percent) reply actor runs =
      taken_or_not F r d at (lines.Gc percent) reply s (λ is. cc) (λ admits acts. gc_acts F r d at s percent reply acts) runs
  line_runs lines.GcStep reply actor runs =
      taken_or_not F r d at lines.GcStep reply s (λ is. cc) (λ admits acts. gc_step_acts F r d at s reply acts) runs
  line_runs lines.Sweep reply actor runs =
      taken_or_not F r d at lines.Sweep reply s (λ is. cc) (λ admits acts. sweep_acts F r d at s reply acts) runs
  line_runs lines.Stat reply actor runs =
      taken_or_not F r d at lines.Stat reply s (λ is. cc) (λ admits acts. stat_acts F r d at s reply acts) runs
  line_runs lines.Unique reply actor runs =
      taken_or_not F r d at lines.Unique reply s (λ is. cc) (λ admits acts. unique_acts F r d at s reply acts) runs
  line_runs lines.Reopen reply actor runs = reopen_line F r d at s reply runs

-- ---- lines, one after the other

-- at each desk to which they may lead
abbrev pub AllowedBy : (F : Fitted) → List Replied → Desk F.V F.R → Type 0
AllowedBy F [] d = Unit {0}
AllowedBy F (one ∷ more) d =
    AllowedAt F d × ((steps : List (Stepped F.V)) (mid : Desk F.V F.R) → machine.Line F.v one.line one.reply steps d mid → AllowedBy F more mid)

-- what holds of each machine that lines opened
pub opened_so : {V R : Type 0} (v : Values V R) (P Q : Machine V R → Type 0) → ((m : Machine V R) → P m → Q m) → (rs : List Replied) (ss : List (Stepped V))
    (d e : Desk V R) (ran : Lines v rs ss d e) → AllOpened v P rs ss d e ran → AllOpened v Q rs ss d e ran
opened_so v P Q each [] ss d e ran all = tt
opened_so v P Q each (one ∷ more) ss d e ran all =
    (λ files is told. each ran.2.machine (all.0 files is told), opened_so v P Q each more ran.1 ran.2 e ran.5 all.1)

module _ (F : Fitted) where
  open F use {V, R, v, C, state, beside, fitting}
  open F.beside use {Fits}

  pub script_runs : (rs : List Replied) (r s : RunnerState C) (d : Desk V R) → AreOfActors rs → AllowedBy F rs d → AtDesk F d r → RunsLines C state rs r s
      → AllLeadTo v state beside rs d r s
  script_runs [] r s d actors allowed at run =
      let none = ran_none F d.machine r.core s.core at.fits (ap (λ (t : RunnerState C). t.core) run) in
      record {
        steps = [];
        next = d;
        lines_are = (refl, refl);
        at = subst (λ (t : RunnerState C). AtDesk F d t) (sym run) at;
        did = record { leaves = none.did.leaves; changes = none.did.changes };
        found = tt;
      }
  script_runs (one ∷ more) r s d actors allowed at run =
      let mid = run.1.0 in
      let went = (line_went C state one.line one.reply r mid run.1.1.0).later in
      let goes_on = (lines_go_on C state more mid s run.1.1.1).later in
      let first = line_runs F r mid d at allowed.0 one.line one.reply actors.0 run.1.1.0 in
      let rest = script_runs more mid s first.next actors.1 (allowed.1 first.steps first.next first.line_is) first.at run.1.1.1 in
      record {
        steps = first.steps ++ rest.steps;
        next = rest.next;
        lines_are = (first.steps, rest.steps, first.next, refl, first.line_is, rest.lines_are);
        at = rest.at;
        did = lines_done v beside one more first.steps rest.steps d first.next rest.next first.line_is rest.lines_are
            (state r.core).disk (state mid.core).disk (state s.core).disk went.clock_is first.did rest.did;
        found = (
          λ files is told.
              fitting.longer first.next.machine (state r.core).disk (state r.core).disk (state mid.core).disk (state s.core).disk
              (later_here (state r.core).disk) went.clock_is goes_on
              (first.found files is told),
          opened_so v (λ m. F.beside.Finds m (state mid.core).disk (state s.core).disk) (λ m. F.beside.Finds m (state r.core).disk (state s.core).disk)
              (λ m. fitting.longer m (state r.core).disk (state mid.core).disk (state s.core).disk (state s.core).disk went goes_on.clock_is (later_here (state s.core).disk))
              more rest.steps first.next rest.next rest.lines_are rest.found,
        );
      }

-- ---- the machine of roots

-- any bytes may be given, and nothing is said of what is kept
abbrev Any : List ℕ → Bool → Type 0
Any given ended = Unit {0}

keeps_any : (e : Event) (m n : Machine Root (List Top)) (old new : CoreState) → Keeps beside_roots.Owns e m n old new
keeps_any e m n old new = record {
  others = λ b k differs owns. tt;
  quiet = λ k quiet owns. tt;
  refused = λ k refusal is owns. tt;
  begun = λ answer below step is. tt;
  turned = λ x h answer has asks is told owns. tt;
}

any_left : (m n : Machine Root (List Top)) (old new : DiskView) → LeavesEither beside_roots.Left m n old new
any_left m n old new = record { now = λ image there. inl tt; since = λ t image before there. inr (inl tt) }

-- a commit asks for the root of what was given
asked_so : (P : Kept → Type 0) (step : StepValue) (given : List ℕ) → IsOfGiven Any P step given → asked_by step ≡ asked_as (λ root. of_roots.of given) step
asked_so P (steps.Commit name root) given right = ap (asked.Commit name) right.3
asked_so P steps.Begin given right = refl
asked_so P steps.Abort given right = refl
asked_so P (steps.OpenRead name) given right = refl
asked_so P steps.ReadNext given right = refl
asked_so P steps.EndRead given right = refl
asked_so P (steps.Delete name) given right = refl
asked_so P (steps.Claim seg) given right = refl
asked_so P (steps.Seal filled) given right = refl
asked_so P steps.ListNames given right = refl
asked_so P (steps.GcStart percent) given right = refl
asked_so P steps.GcStep given right = refl
asked_so P steps.Stat given right = refl
asked_so P steps.Unique given right = refl

pub runs_by : (count : ℕ) (m : RunState Root) (stop : Option Stop) → SameStop count m stop → stop ≡ None → m ≡ Running
runs_by count Running stop same none = refl
runs_by count (Stopped other stores) (Some stop) same none = absurd cc
runs_by count (Stopped other stores) None same none = absurd same

pub stops_by : (count : ℕ) (m : RunState Root) (o : Option Stop) (stop : Stop) → SameStop count m o → o ≡ Some stop
    → ((other : _) × (stores : _) × (m ≡ Stopped other stores)) × (stop.at ≡ count)
stops_by count Running (Some other) stop same is = absurd same
stops_by count Running None stop same is = absurd cc
stops_by count (Stopped other stores) (Some one) stop same is = ((other, stores, refl), ap (λ (x : Stop). x.at) (let so : stop ≡ one = cc in so) ∙ same)
stops_by count (Stopped other stores) None stop same is = absurd same

part_kind : (p : Part Root (List Top)) (q : core_part.Part) → SamePart p q → kind_of p ≡ core_kinds.kind_of q
part_kind Idle core_parts.Idle same = refl
part_kind (Writing pins) (core_parts.Writing others) same = refl
part_kind (Reading root rest) (core_parts.Reading reader) same = refl
part_kind p q same = absurd same

pub part_kinds : (ps : List (Part Root (List Top))) (qs : List core_part.Part) → SameParts ps qs → (a : ℕ) → kind_of (slice_index_or ps a Idle) ≡ core_kinds.kind_of (part_of qs a)
unfolding part_of
part_kinds [] [] same a = refl
part_kinds [] (q ∷ qs) same a = absurd same
part_kinds (p ∷ ps) [] same a = absurd same
part_kinds (p ∷ ps) (q ∷ qs) same zero = part_kind p q same.0
part_kinds (p ∷ ps) (q ∷ qs) same (suc a) = part_kinds ps qs same.1 a

module _ (C : Type 0) (state : C → CoreState) where
  abbrev view : C → DiskView
  view c = (state c).disk

  -- what was opened is a store that reads showed
  found_read : (D : Type 0) (view : D → DiskView) (old : DiskView) (c : CoreState) (n : Machine Root (List Top)) → IsMachine false n c → (opens : OpensCore D view old c)
      → n.store ≡ store_read D view old c opens → beside_roots.Finds n old c.disk
  found_read D view old c n is opens same = (roots_named n c is, subst (WasShown old c.disk) (sym same) (shown_read D view old c opens))

  roots_fit : Fitting of_roots C state beside_roots Any
  roots_fit = record {
    step = λ e given old new m runs fits right step.
        let one = core_refines C state false e old new m runs fits (λ is. absurd cc) step in (
          one.0,
          (
            subst (λ (x : Asked Root). Legal of_roots (step_of of_roots e.actor x (answered_by e.answer e.buf)) m one.0)
                (asked_so (λ k. Unit {0}) e.step given right) one.1.0,
            one.1.1,
            keeps_any e m one.0 (state old) (state new),
            any_left m one.0 (state old).disk (state new).disk,
            tt,
          ),
        );
    here = λ m c fits image there. tt;
    runs = λ m c fits none. runs_by m.acknowledged m.state c.stop fits.state none;
    stops = λ m c stop fits is. stops_by m.acknowledged m.state c.stop stop fits.state is;
    kinds = λ m c fits a. part_kinds m.parts c.parts fits.parts a;
    opened = λ a old new m fits opens runs. let one = opened_refines C view C state a old new opens runs in (
      one.0,
      (
        one.1.2 m,
        one.1.0 false,
        any_left m one.0 (state old).disk (state new).disk,
        tt,
        found_read C view (state old).disk (state new) one.0 (one.1.0 false) opens one.1.1,
      ),
    );
    longer = λ m first old new last before between after is. (is.0, shown_longer first old new last m.store before between after is.1);
    unopened = λ a refusal old new m fits none leaves. let one = unopened_refines C view C state false a refusal old new m fits none leaves in
        (one.0, (one.1.0, one.1.1, λ b k owns. tt, any_left m one.0 (state old).disk (state new).disk, tt));
    unmade = λ a step m c fits is. tt;
  }

  abbrev roots_fitted : Fitted
  roots_fitted = record {
    V = Root;
    R = List Top;
    v = of_roots;
    C = C;
    state = state;
    beside = beside_roots;
    Allowed = Any;
    fitting = roots_fit;
  }

  pub lines_are_runs : LinesAreRuns C state
  lines_are_runs one r s d actor at runs = line_runs roots_fitted r s d at (λ a t there. tt) one.line one.reply actor runs

  pub begins_at_desk : BeginsAtDesk C state
  begins_at_desk m r runs fits parts sessions = record {
    runs = runs;
    fits = fits;
    same = subst (SameSessions (λ b k. Unit {0}) (replicate ACTORS None)) (sym sessions) (none_same (λ b k. Unit {0}) ACTORS);
    many = ap length sessions ∙ length-replicate {A = Option SessionState} ACTORS None;
    give = idle_give r.sessions (state r.core).parts parts;
  }

  any_allowed : (rs : List Replied) (d : RootDesk) → AllowedBy roots_fitted rs d
  any_allowed [] d = tt
  any_allowed (one ∷ more) d = (λ a t there. tt, λ steps mid line. any_allowed more mid)

  pub scripts_are_runs : ScriptsAreRuns C state
  scripts_are_runs rs r s d actors at run = script_runs roots_fitted rs r s d actors (any_allowed rs d) at run

  -- ---- from an opening on

  pub opened_runs_by_roots : (D : Type 0) (disk_of : D → DiskView) → OpenedRunsByRoots D disk_of C state
  opened_runs_by_roots D disk_of rs before r s read none actors runs =
      let old = disk_of before in
      let c = state r.core in
      let running = read_runs old c read in
      let opens : OpensCore D disk_of old c = inl read in
      let one = opened_refines D disk_of C state 0 before r.core opens running in
      let n = one.0 in
      let is = one.1.0 false in
      let goes_on = (lines_go_on C state rs r s runs).later in
      let all = scripts_are_runs rs r s (desk n) actors (begins_at_desk n r running is read.opened.parts_are none) runs in
      record {
        opened = n;
        opens = λ m.
            let first : Opens of_roots (finite.len c.tables.names) m n = one.1.2 m in
            subst (λ (files : ℕ). Opens of_roots files m n) (first.files_are ∙ ap (λ (k : Machine Root (List Top)). finite.len k.now.names) (sym first.others)) first;
        named = roots_named n c is;
        shown = until old c.disk (state s.core).disk (subst (λ (store : Store). Shows old c.disk (λ image. Encodes image store)) (sym one.1.1) read.opened.right)
            read.reads.only.later.clock_is goes_on;
        steps = all.steps;
        next = all.next;
        lines_are = all.lines_are;
        found = opened_so of_roots (λ m. beside_roots.Finds m c.disk (state s.core).disk) (λ m. beside_roots.Finds m old (state s.core).disk)
            (λ m found. (
              found.0,
              shown_longer old c.disk (state s.core).disk (state s.core).disk m.store read.reads.only.later goes_on.clock_is
                  (later_here (state s.core).disk) found.1,
            )) rs all.steps (desk n) all.next all.lines_are all.found;
      }

-- What the content of a disk adds to a step of the machine of roots, so that it is one of the machine of files: each row of Legal.antt,
-- Collecting.antt and Opening.antt that says more of files, in their order, with what it says more. A row that is not here says as much of
-- roots as of files; so do an opened read and its end, by the names and the rests that Forgetting.antt ties. It is said of the machine of
-- files, m, before the step; and of that of roots after it, t, only where a row speaks of what the step made.
use Rattle.std.specs.Prelude.{◌≡◌, ℕ, suc, ◌≤◌, List, [], ◌∷◌, ◌++◌, get_or, length, map, take, Contains, Some, None, Result, Ok, Err}
use Rattle.std.specs.FinMap as finite
use Rattle.std.specs.List.{AllByRecursion}
use Rattle.container_meta.specs.declared.kind.Kind.{Kind}
use Rattle.container_meta.specs.Segments.{Segment, segment_key}
use Rattle.disk_format.specs.Cells.{Root}
use Rattle.disk_format.specs.declared.numbers.TheConstants.{MOST_FILE}
use Rattle.gc_select.specs.declared.liveness.ContainerLiveness.{ContainerLiveness}
use Rattle.merkle_file.specs.declared.top.Top.{Top}
use Rattle.refusals.specs.declared.refusal.Phase.{Phase}
use Rattle.refusals.specs.declared.refusal.Phase.TheVariants as phases
use Rattle.refusals.specs.declared.refusal.Refusal.{Refusal}
use Rattle.refusals.specs.declared.refusal.Refusal.TheVariants.{Clash, DiskRead, DiskWrite, Corrupt, Missing, Damaged}
use Rattle.store_model.specs.Freeing.{FreesTo}
use Rattle.store_model.specs.Image.{Store}
use Rattle.store_model.specs.Reserve.{IsSpare}
use Rattle.store_model.specs.Steps.{FlushContainer, FreeContainer}
use Rattle.store_machine.specs.Asked.{Asked}
use Rattle.store_machine.specs.Asked as asked
use Rattle.store_machine.specs.ByMap.{FileMachine}
use Rattle.store_machine.specs.Collecting.{GoesOver, IsCopyOf, IsRecordOf, MayBreak, sources_in}
use Rattle.store_machine.specs.Done.{Done}
use Rattle.store_machine.specs.Done as done
use Rattle.store_machine.specs.Forgetting.{Forgets, SameNow, SamePart, forget_step}
use Rattle.store_machine.specs.Legal.{AllFit, HoldsValue, IsFirstClash, Legal}
use Rattle.store_machine.specs.Machine.{Collection, Found, Machine, Reading, Stepped, Stopped, Sweep, Sweeping, part_in}
use Rattle.store_machine.specs.Needs.{HasCopy, IsLacked, IsNeeded, NamesNeed, IsClash}
use Rattle.store_machine.specs.Offers.{sealed_in}
use Rattle.store_machine.specs.Opening.{IsGivenBack, IsNamedBy, MayBeFound, MayRefuseOpening, Stands, freeing}
use Rattle.store_machine.specs.Values.{of_files, of_roots}

abbrev pub RootMachine : Type 0
RootMachine = Machine Root (List Top)

-- ---- a step that is done

-- the file may be put under a name: it is no longer than one may be, and the index has each key of its tree
abbrev pub IsWhole : List ℕ → FileMachine → Type 0
IsWhole file m = (length file ≤ MOST_FILE) × HoldsValue of_files file m

-- The bytes come first of what is to come of the file that the actor reads; and then the trees that the machine of roots has to come are
-- those of the rest of the file. The digests by which it came to them don't tell that.
abbrev pub ComesNext : ℕ → List ℕ → FileMachine → RootMachine → Type 0
ComesNext a bytes m t = (file : List ℕ) × (after : List (List ℕ)) × (part_in m a ≡ Reading file (bytes ∷ after))
    × SamePart (Reading file after) (part_in t a)

-- ---- a step of a collection: c of the machine of files before it, and d of that of roots after it

-- the source was not left alone: where no copies of it are to be written, it is ready
abbrev pub IsReady : Collection (List ℕ) → Sweep → Sweep → Type 0
IsReady c s t = t.source ≡ suc s.source → t.filled ≡ s.filled → t.ready ≡ get_or (sources_in c) s.source 0 ∷ []

-- What was recorded of a container counts what is needed; a copying step took what is needed of its source; what was written are copies;
-- and each container that was given back holds the newest copy of nothing that is needed.
abbrev pub AddsToPhase : Phase → Collection (List ℕ) → Collection Root → FileMachine → RootMachine → Type 0
AddsToPhase phases.Filter c d m t =
    (one : ContainerLiveness) → d.recorded ≡ c.recorded ++ one ∷ [] → IsRecordOf of_files c m.store one
AddsToPhase phases.Copy c d m t = (before after : Sweep) (next : Phase) → c.stage ≡ Sweeping phases.Copy before
    → d.stage ≡ Sweeping next after → GoesOver of_files c m.store before after m.forgotten t.forgotten × IsReady c before after
AddsToPhase phases.Flush c d m t = (id : ℕ) (kind : Kind) (segments : List Segment)
    → d.changes ≡ c.changes ++ FlushContainer id kind segments ∷ [] → AllByRecursion (IsCopyOf c m.store kind) segments
AddsToPhase phases.Release c d m t =
    (slots : List ℕ) → d.changes ≡ c.changes ++ map FreeContainer slots
    → AllByRecursion (IsSpare (IsNeeded of_files m) m.store.held) slots
AddsToPhase phase c d m t = Unit {0}

abbrev pub AddsToStep : Phase → FileMachine → RootMachine → Type 0
AddsToStep phase m t = (c : Collection (List ℕ)) (d : Collection Root) → m.collection ≡ Some c → t.collection ≡ Some d
    → AddsToPhase phase c d m t

abbrev pub AddsToDone : ℕ → Asked (List ℕ) → Done → FileMachine → RootMachine → Type 0
AddsToDone a (asked.Claim seg) done.Held m t = HasCopy m.store seg × ¬ (Contains m.forgotten (segment_key seg.kind seg.segment))
AddsToDone a (asked.Claim seg) done.Absent m t = IsLacked m.store m.forgotten (segment_key seg.kind seg.segment)
AddsToDone a (asked.Seal offered) (done.Sealed id count) m t = AllFit of_files (take count offered) m
AddsToDone a (asked.Commit name file) (done.Committed sequence) m t = IsWhole file m
AddsToDone a asked.ReadNext (done.Bytes bytes) m t = ComesNext a bytes m t
AddsToDone a asked.GcStep (done.Did phase) m t = AddsToStep phase m t
-- the counts are of the trees of the files that the names have
AddsToDone a asked.Unique (done.Unique segments bytes) m t = of_files.AreUnique (finite.values m.now.names) segments bytes
AddsToDone a step answer m t = Unit {0}

-- ---- a step that is refused: what tells that a disk holds other than was written never comes where it tells its content

abbrev pub AddsToRefused : ℕ → Asked (List ℕ) → Refusal → FileMachine → RootMachine → Type 0
AddsToRefused a (asked.Claim seg) (Clash key at) m t = IsClash m.store m.forgotten seg key at
AddsToRefused a (asked.Claim seg) (Corrupt slot offset count want got) m t = ⊥
AddsToRefused a (asked.Seal offered) (Clash key at) m t = IsFirstClash of_files (sealed_in offered m) key at m
AddsToRefused a (asked.Seal offered) (Corrupt slot offset count want got) m t = ⊥
AddsToRefused a (asked.Seal offered) DiskWrite m t = AllFit of_files (sealed_in offered m) m
AddsToRefused a (asked.Commit name file) DiskWrite m t = IsWhole file m
-- what was to come is to come still, whatever nodes the machine of roots came to before
AddsToRefused a asked.ReadNext DiskRead m t = SamePart (part_in m a) (part_in t a)
AddsToRefused a asked.ReadNext (Corrupt slot offset count want got) m t = ⊥
AddsToRefused a asked.ReadNext (Missing key) m t = ⊥
AddsToRefused a asked.ReadNext (Damaged at why) m t = ⊥
AddsToRefused a (asked.GcStart percent) (Missing key) m t = ⊥
AddsToRefused a (asked.GcStart percent) (Damaged at why) m t = ⊥
-- the stores that may stand are those that may of the machine of files
AddsToRefused a asked.GcStep DiskWrite m t = (stores : List Store) → t.state ≡ Stopped None stores → MayBreak of_files m stores
AddsToRefused a asked.GcStep (Corrupt slot offset count want got) m t = ⊥
AddsToRefused a asked.GcStep (Missing key) m t = ⊥
AddsToRefused a asked.GcStep (Damaged at why) m t = ⊥
AddsToRefused a asked.Unique (Corrupt slot offset count want got) m t = ⊥
AddsToRefused a asked.Unique (Missing key) m t = ⊥
AddsToRefused a asked.Unique (Damaged at why) m t = ⊥
AddsToRefused a step refusal m t = Unit {0}

-- ---- an opening

-- What is found are files that may be, by their roots, in a store that stands, from which only containers that they don't need were given
-- back.
pub record FindsFiles (m : FileMachine) (t : RootMachine) : Type 0 where
  pub found : Found (List ℕ)
  pub may : MayBeFound of_files m.state m.now found
  pub roots : SameNow found t.now
  pub before : Store
  pub stands : Stands of_files m.state m.store before
  pub named : IsNamedBy of_files found before
  pub freed : List ℕ
  pub frees : FreesTo (NamesNeed of_files found) freed before t.store

abbrev pub AddsToOpening : Result Done Refusal → FileMachine → RootMachine → RootMachine → Type 0
AddsToOpening (Ok answer) m r t = FindsFiles m t
AddsToOpening (Err refusal) m r t = MayRefuseOpening of_files refusal
    × ((stores : List Store) → t.state ≡ freeing of_roots stores r.state → AllByRecursion (IsGivenBack of_files m) stores)

-- ---- a step

abbrev pub AddsToAnswer : ℕ → Asked (List ℕ) → Result Done Refusal → FileMachine → RootMachine → Type 0
AddsToAnswer a step (Ok answer) m t = AddsToDone a step answer m t
AddsToAnswer a step (Err refusal) m t = AddsToRefused a step refusal m t

abbrev pub AddsBy : Asked (List ℕ) → ℕ → Result Done Refusal → FileMachine → RootMachine → RootMachine → Type 0
AddsBy asked.Reopen a told m r t = AddsToOpening told m r t
AddsBy step a told m r t = AddsToAnswer a step told m t

abbrev pub Adds : Stepped (List ℕ) → FileMachine → RootMachine → RootMachine → Type 0
Adds s m r t = AddsBy s.asked s.actor s.answer m r t

-- A step of the machine of roots is one of the machine of files, where what the content adds is so.
abbrev pub StepsAreRemembered : Type 0
StepsAreRemembered = (s : Stepped (List ℕ)) (m : FileMachine) (r t : RootMachine) → Forgets m r → Legal of_roots (forget_step s) r t
    → Adds s m r t → (n : FileMachine) × (Legal of_files s m n × Forgets n t)

-- And it adds no more than that needs: it is so of each step of the machine of files, and of what is left of that once the rest is
-- forgotten.
abbrev pub AddsNoMore : Type 0
AddsNoMore = (s : Stepped (List ℕ)) (m n : FileMachine) (r t : RootMachine) → Forgets m r → Legal of_files s m n → Forgets n t
    → Adds s m r t

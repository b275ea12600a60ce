-- What the lines of a `collect` come to, in a run of the machine of files: the names stay, it chose by what they need, and what it gave
-- back held nothing that they need.
use Rattle.std.specs.Prelude.{◌≡◌, ◌⊎◌, ◌+◌, ◌<◌, ◌≤◌, ℕ, suc, List as ListOf, [], ◌∷◌, length, Some, None}
use Rattle.std.specs.List.{AllByRecursion}
use Rattle.container_meta.specs.declared.kind.Kind.{Kind}
use Rattle.container_meta.specs.Segments.{Segment, segment_key}
use Rattle.container_meta.specs.Spelling.{HeaderValue, bytes_of}
use Rattle.disk_format.specs.declared.numbers.TheConstants.{LAST_ID, RESERVE}
use Rattle.gc_select.specs.declared.liveness.ContainerLiveness.{ContainerLiveness}
use Rattle.gc_select.specs.Selecting.{ids_of}
use Rattle.refusals.specs.declared.refusal.Refusal.{Refusal}
use Rattle.refusals.specs.declared.refusal.Refusal.TheVariants.{Memory, Numbers, DiskRead, DiskWrite}
use Rattle.script_lines.specs.ReplyText.{reply_line}
use Rattle.script_lines.specs.ReplyValue as replies
use Rattle.store_model.specs.Image.{Store}
use Rattle.store_model.specs.Needed.{Needs}
use Rattle.store_model.specs.Reserve.{IsReachable, IsSpare}
use Rattle.store_model.specs.Slots.{AreHeaders, free_slots, last_id}
use Rattle.store_model.specs.Steps.{FlushContainer, FreeContainer, StoreChange, changed}
use Rattle.store_machine.specs.ByMap.{AfterOpening, ByMap, FileMachine, Through}
use Rattle.store_machine.specs.Collected.{Collected, HasContainer, HasIds}
use Rattle.store_machine.specs.Collecting.{Makes, MayBreak, freed_in, ids_before, keys_written}
use Rattle.store_machine.specs.CollectsByNeed.{FreesUpTo, GivesBackByNeed, TakesIds, written_in}
use Rattle.store_machine.specs.Commands.{Collect, EndsRefused, EndsWith, IsDone, IsEnded, MayGoOn, Replied, printed}
use Rattle.store_machine.specs.Lines.{AreDid}
use Rattle.store_machine.specs.Machine.{Collection, Found, Running, Stepped, stopped}
use Rattle.store_machine.specs.Needs.{HasCopy, NamesNeed}
use Rattle.store_machine.specs.Opening.{MayBeFound}
use Rattle.store_machine.specs.Runs.{Run}
use Rattle.store_machine.specs.Values.{of_files}

-- ---- what it changed

-- a copy of the newest copy of its key, which the file of a name has
abbrev pub IsNeededCopy : Found (ListOf ℕ) → Store → Kind → Segment → Type 0
IsNeededCopy now store kind x =
    NamesNeed of_files now (segment_key kind x) × HasCopy store (record { kind = kind; segment = x })

-- In its turn each container that is given back holds the newest copy of no key that the file of a name has; and each segment that is
-- written is a copy of one that is needed.
abbrev pub KeepsNeeded : Found (ListOf ℕ) → ListOf StoreChange → Store → Type 0
KeepsNeeded now [] store = Unit {0}
KeepsNeeded now (FreeContainer slot ∷ more) store = IsSpare (NamesNeed of_files now) store.held slot
    × KeepsNeeded now more (changed (FreeContainer slot) store)
KeepsNeeded now (FlushContainer id kind segments ∷ more) store = AllByRecursion (IsNeededCopy now store kind) segments
    × KeepsNeeded now more (changed (FlushContainer id kind segments) store)
KeepsNeeded now (change ∷ more) store = KeepsNeeded now more (changed change store)

-- a change that a collection makes
abbrev pub IsOfSweep : StoreChange → Type 0
IsOfSweep (FlushContainer id kind segments) = Unit {0}
IsOfSweep (FreeContainer slot) = Unit {0}
IsOfSweep change = ⊥

-- The store that was opened came to this one by these changes, each made where it could be.
pub record Sweeps (now : Found (ListOf ℕ)) (changes : ListOf StoreChange) (opened store : Store) : Type 0 where
  pub each : AllByRecursion IsOfSweep changes
  pub makes : Makes changes opened store
  pub keeps : KeepsNeeded now changes opened

-- ---- what it chose

-- What was recorded of a container of the store: how many bytes it has, and how many of these are of newest copies of keys that the names
-- need.
pub record IsRecorded (now : Found (ListOf ℕ)) (store : Store) (r : ContainerLiveness) : Type 0 where
  pub slot : ℕ
  pub header : HeaderValue
  pub there : HasContainer store slot header
  pub id_is : r.id ≡ header.id
  pub kind_is : r.kind ≡ header.kind
  pub all_is : r.all ≡ bytes_of header.entries
  pub live_is : Needs (NamesNeed of_files now) store.held slot header r.live

-- By this it chose: the percentage that was asked for, and what was recorded of each container that was there when it began. So it rewrites
-- those of which less is needed, or nothing (`selected`).
pub record HasChosen (percent : ℕ) (now : Found (ListOf ℕ)) (opened : Store) (c : Collection (ListOf ℕ)) : Type 0 where
  pub percent_is : c.percent ≡ percent
  pub snapshot_is : c.snapshot ≡ suc (last_id opened.held)
  pub all : ids_of c.recorded ≡ ids_before c.snapshot opened.held
  pub each : AllByRecursion (IsRecorded now opened) c.recorded

-- ---- how far it came

-- It wrote its containers under the ids after the last, one after the other, and that is the last one now. It gave back only containers
-- that were there when it began; and wrote fewer than there are slots, where one was closed then.
pub record CountsIds (changes : ListOf StoreChange) (opened : Store) (last : ℕ) : Type 0 where
  pub ids : TakesIds (last_id opened.held) changes
  pub last_is : last ≡ last_id opened.held + written_in changes
  pub earlier : FreesUpTo (last_id opened.held) changes opened
  pub few : 1 ≤ free_slots opened.held → written_in changes < length opened.held

-- the slots of the reserve are closed, if they were
abbrev pub HasRoomStill : Store → Store → Type 0
HasRoomStill opened store = RESERVE ≤ free_slots opened.held → RESERVE ≤ free_slots store.held

-- It came to its end: so many containers were given back, and so many segments written; the machine runs, and no collection does. Its steps
-- did what it had selected (Collected.antt), and by what the names need (CollectsByNeed.antt), if no two containers had one id.
pub record HasSwept (percent freed copied : ℕ) (m n : FileMachine) (opened : Store) : Type 0 where
  pub begun : FileMachine
  pub last : FileMachine
  pub made : ListOf (Stepped (ListOf ℕ))
  pub did : AreDid of_files made
  pub run : Run of_files made begun last
  pub store_is : begun.store ≡ opened
  pub c : Collection (ListOf ℕ)
  pub ran : last.collection ≡ Some c
  pub chosen : HasChosen percent m.now opened c
  pub sweeps : Sweeps m.now c.changes opened n.store
  pub counts : CountsIds c.changes opened n.last_id
  pub room : HasRoomStill opened n.store
  pub collected : HasIds m.store m.last_id → Collected of_files freed copied made begun last n run
  pub by_need : HasIds m.store m.last_id → AreHeaders opened.held
      → GivesBackByNeed (IsReachable m.now.names) percent opened n.store c.changes
  pub freed_is : freed ≡ freed_in c.changes
  pub copied_is : copied ≡ length (keys_written c.changes)
  pub runs : n.state ≡ Running
  pub none_runs : n.collection ≡ None

-- A write failed: the machine is stopped, by what the changes that were due, or some of them, would have made of its store.
abbrev pub HasBroken : FileMachine → Type 0
HasBroken n = (before : FileMachine) × (stores : ListOf Store) × (n ≡ stopped None stores before) × MayBreak of_files before stores

-- It came so far: this was changed until then; and only where a write failed the machine is stopped, by that store, or one that the changes
-- that were due, or some of them, would have made, and fewer slots may be closed.
pub record SweptSoFar (rs : ListOf Replied) (m n : FileMachine) (opened : Store) : Type 0 where
  pub changes : ListOf StoreChange
  pub sweeps : Sweeps m.now changes opened n.store
  pub counts : CountsIds changes opened n.last_id
  pub room : (EndsRefused DiskWrite rs → ⊥) → HasRoomStill opened n.store
  pub runs : (EndsRefused DiskWrite rs → ⊥) → n.state ≡ Running
  pub broke : EndsRefused DiskWrite rs → HasBroken n

-- why one is refused: memory or the disk failed, or no id is left for copies
abbrev pub CollectRefusal : FileMachine → Refusal → Type 0
CollectRefusal n Memory = Unit {0}
CollectRefusal n DiskRead = Unit {0}
CollectRefusal n DiskWrite = Unit {0}
CollectRefusal n Numbers = LAST_ID ≤ n.last_id
CollectRefusal n refusal = ⊥

-- It came to its end, or a line is to come. What may be found is what was. Where the last line was done it is printed how many containers
-- were given back, and how many segments copied; and else nothing.
pub record CollectedAlone (percent : ℕ) (rs : ListOf Replied) (m n : FileMachine) : Type 0 where
  pub ends : IsEnded (Collect percent) rs ⊎ MayGoOn (Collect percent) rs
  pub found : (x : Found (ListOf ℕ)) → MayBeFound of_files n.state n.now x → x ≡ m.now
  pub done : EndsWith (λ one. IsDone (Collect percent) one.reply) rs
      → (freed copied : ℕ) × (printed (Collect percent) [] rs ≡ reply_line (replies.Collected freed copied))
      × AfterOpening (HasSwept percent freed copied m n) rs m n
  pub undone : (EndsWith (λ one. IsDone (Collect percent) one.reply) rs → ⊥)
      → (printed (Collect percent) [] rs ≡ []) × AfterOpening (SweptSoFar rs m n) rs m n
  pub refused : (refusal : Refusal) → EndsRefused refusal rs → CollectRefusal n refusal

abbrev pub CollectsByMap : Type 0
CollectsByMap = (percent : ℕ) → ByMap (Collect percent) (CollectedAlone percent)

abbrev pub CollectsThrough : Type 0
CollectsThrough = (percent : ℕ) → Through (Collect percent)

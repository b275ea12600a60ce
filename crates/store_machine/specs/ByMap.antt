-- What the lines of a `restore`, a `delete` and a `list` come to, in a run of the machine of files: what the plain map makes of them.
use Rattle.std.specs.Prelude.{◌≡◌, ◌⊎◌, ◌≤◌, ◌<◌, ◌-◌, ◌^◌, ℕ, List as ListOf, [], ◌∷◌, ◌++◌, Some, None}
use Rattle.std.specs.FinMap as finite
use Rattle.disk_format.specs.Cells.{IsName}
use Rattle.disk_format.specs.Cells.Change.{Delete as Gone}
use Rattle.refusals.specs.declared.refusal.Refusal.{Refusal}
use Rattle.refusals.specs.declared.refusal.Refusal.TheVariants.{Memory, NoFile, BadName, Numbers, DiskRead, DiskWrite}
use Rattle.reply_text.specs.Text.{deleted_line, listing_text}
use Rattle.script_lines.specs.ReplyValue.{ReplyValue}
use Rattle.script_lines.specs.ReplyValue as replies
use Rattle.store_model.specs.Freeing.{FreesTo}
use Rattle.store_model.specs.Image.{Store}
use Rattle.store_model.specs.Steps.{CanRise, with_change}
use Rattle.store_machine.specs.Commands.{AreLinesOf, Command, Delete, EndsRefused, EndsWith, IsDone, IsEnded, Lines, List, MayGoOn, Replied, Restore, desk, printed, run_of}
use Rattle.store_machine.specs.Legal.{HasName, LacksNumbers, broken_by, listing, without_name}
use Rattle.store_machine.specs.Lines.{Desk}
use Rattle.store_machine.specs.Machine.{Found, Machine, Running, Stepped, Stopped}
use Rattle.store_machine.specs.Needs.{NamesNeed}
use Rattle.store_machine.specs.Opening.{GivesBackSome, MayBeFound}
use Rattle.store_machine.specs.Runs.{IsPassedFrom}
use Rattle.store_machine.specs.Values.{of_files}

-- the machine of files
abbrev pub FileMachine : Type 0
FileMachine = Machine (ListOf ℕ) (ListOf (ListOf ℕ))

-- what is so of the lines of a command, whatever they were, that began with this machine and left this one
abbrev pub ByMap : Command → (ListOf Replied → FileMachine → FileMachine → Type 0) → Type 0
ByMap command P = (rs : ListOf Replied) (ss : ListOf (Stepped (ListOf ℕ))) (m : FileMachine) (e : Desk (ListOf ℕ) (ListOf (ListOf ℕ)))
    → m.state ≡ Running → AreLinesOf command rs → Lines of_files rs ss (desk m) e → P rs m e.machine

-- ---- the store

-- Room was made in the store that was there, where it had to be: containers that hold the newest copy of nothing that the names need were
-- given back, the one of the least id first, until two slots were closed, or no such container was left.
abbrev pub MakesRoom : FileMachine → Store → Type 0
MakesRoom m opened = (slots : ListOf ℕ) × FreesTo (NamesNeed of_files m.now) slots m.store opened

-- an opening was refused so: the machine is what it was, or it is stopped in the middle of that
abbrev pub IsNotOpened : Refusal → FileMachine → FileMachine → Type 0
IsNotOpened refusal m n = (n ≡ m) ⊎ GivesBackSome of_files refusal m n

-- what is so by the reply to the opening: where it was done, P of the store that it left
abbrev pub OnceOpened : (Store → Type 0) → ReplyValue → FileMachine → FileMachine → Type 0
OnceOpened P (replies.Refused refusal) m n = IsNotOpened refusal m n
OnceOpened P reply m n = (opened : Store) × MakesRoom m opened × P opened

abbrev pub AfterOpening : (Store → Type 0) → ListOf Replied → FileMachine → FileMachine → Type 0
AfterOpening P [] m n = n ≡ m
AfterOpening P (first ∷ more) m n = OnceOpened P first.reply m n

-- it runs, and has this store
abbrev pub RunsWith : FileMachine → Store → Type 0
RunsWith n store = (n.state ≡ Running) × (n.store ≡ store)

-- ---- restore

-- nothing, or a first part of the file
abbrev pub IsPartOfFile : ListOf ℕ → Found (ListOf ℕ) → ListOf ℕ → Type 0
IsPartOfFile name now text =
    (text ≡ []) ⊎ ((file : ListOf ℕ) × (finite.get now.names name ≡ Some file) × ((rest : ListOf ℕ) × (file ≡ text ++ rest)))

-- why it is refused; want of memory is free, and a call of the disk that failed is told by its count of faults
abbrev pub RestoreRefusal : ListOf ℕ → Found (ListOf ℕ) → Refusal → Type 0
RestoreRefusal name now BadName = ¬ (IsName name)
RestoreRefusal name now NoFile = IsName name × (finite.get now.names name ≡ None)
RestoreRefusal name now Memory = Unit {0}
RestoreRefusal name now DiskRead = Unit {0}
RestoreRefusal name now DiskWrite = Unit {0}
RestoreRefusal name now refusal = ⊥

-- It came to its end, or a line is to come. What may be found is what was, and the store is what the opening left. A first part of the
-- name's file is printed, and where the last line was done all of it.
pub record RestoredFile (name : ListOf ℕ) (rs : ListOf Replied) (m n : FileMachine) : Type 0 where
  pub ends : IsEnded (Restore name) rs ⊎ MayGoOn (Restore name) rs
  pub found : (x : Found (ListOf ℕ)) → MayBeFound of_files n.state n.now x → x ≡ m.now
  pub store : AfterOpening (RunsWith n) rs m n
  pub part : IsPartOfFile name m.now (printed (Restore name) [] rs)
  pub done : EndsWith (λ one. IsDone (Restore name) one.reply) rs → finite.get m.now.names name ≡ Some (printed (Restore name) [] rs)
  pub refused : (refusal : Refusal) → EndsRefused refusal rs → RestoreRefusal name m.now refusal

abbrev pub RestoresByMap : Type 0
RestoresByMap = (name : ListOf ℕ) → ByMap (Restore name) (RestoredFile name)

-- ---- delete

abbrev pub DeleteRefusal : ListOf ℕ → Found (ListOf ℕ) → FileMachine → Refusal → Type 0
DeleteRefusal name now n BadName = ¬ (IsName name)
DeleteRefusal name now n NoFile = IsName name × (finite.get now.names name ≡ None)
DeleteRefusal name now n Numbers = IsName name × HasName of_files name n × LacksNumbers of_files n
DeleteRefusal name now n Memory = Unit {0}
DeleteRefusal name now n DiskRead = Unit {0}
DeleteRefusal name now n DiskWrite = Unit {0}
DeleteRefusal name now n refusal = ⊥

-- the name is gone, which had a file, and a number was left
abbrev pub IsGone : ListOf ℕ → Found (ListOf ℕ) → Found (ListOf ℕ) → Type 0
IsGone name now x = (x ≡ without_name of_files name now) × IsName name
    × ((file : ListOf ℕ) × (finite.get now.names name ≡ Some file)) × (now.last < 2 ^ 64 - 1)

-- Once the store was opened the name's record is put into it, where the last line was done, and else it is what the opening left; where its
-- write failed it is stopped, and may be found with the record, or with a part of the checkpoint before it.
pub record DeletesIn (name : ListOf ℕ) (rs : ListOf Replied) (now : Found (ListOf ℕ)) (n : FileMachine) (opened : Store) : Type 0 where
  pub done : EndsWith (λ one. IsDone (Delete name) one.reply) rs → RunsWith n (with_change name Gone opened) × CanRise opened
  pub undone : (EndsWith (λ one. IsDone (Delete name) one.reply) rs → ⊥) → n.store ≡ opened
  pub runs : (EndsRefused DiskWrite rs → ⊥) → n.state ≡ Running
  pub broke : EndsRefused DiskWrite rs
      → (n.state ≡ Stopped (Some (without_name of_files name now)) (broken_by of_files name Gone opened)) × CanRise opened

-- It came to its end, or a line is to come. What may be found is what was, or that without the name, which had a file, and a number was
-- left; where the last line was done it is the latter, and that is printed, and else nothing. Only a write that failed leaves a doubt.
pub record DeletedName (name : ListOf ℕ) (rs : ListOf Replied) (m n : FileMachine) : Type 0 where
  pub ends : IsEnded (Delete name) rs ⊎ MayGoOn (Delete name) rs
  pub found : (x : Found (ListOf ℕ)) → MayBeFound of_files n.state n.now x → (x ≡ m.now) ⊎ IsGone name m.now x
  pub store : AfterOpening (DeletesIn name rs m.now n) rs m n
  pub done : EndsWith (λ one. IsDone (Delete name) one.reply) rs
      → IsGone name m.now n.now × (n.state ≡ Running) × (printed (Delete name) [] rs ≡ deleted_line name)
  pub undone : (EndsWith (λ one. IsDone (Delete name) one.reply) rs → ⊥) → (n.now ≡ m.now) × (printed (Delete name) [] rs ≡ [])
  pub refused : (refusal : Refusal) → EndsRefused refusal rs → DeleteRefusal name m.now n refusal
      × (((refusal ≡ DiskWrite) → ⊥) → (x : Found (ListOf ℕ)) → MayBeFound of_files n.state n.now x → x ≡ m.now)

abbrev pub DeletesByMap : Type 0
DeletesByMap = (name : ListOf ℕ) → ByMap (Delete name) (DeletedName name)

-- ---- list

abbrev pub ListRefusal : Refusal → Type 0
ListRefusal Memory = Unit {0}
ListRefusal DiskRead = Unit {0}
ListRefusal DiskWrite = Unit {0}
ListRefusal refusal = ⊥

-- It came to its end, or a line is to come. What may be found is what was, and the store is what the opening left. Where the last line was
-- done the names are printed, with the lengths and the roots of their files; and else nothing.
pub record ListedNames (rs : ListOf Replied) (m n : FileMachine) : Type 0 where
  pub ends : IsEnded List rs ⊎ MayGoOn List rs
  pub found : (x : Found (ListOf ℕ)) → MayBeFound of_files n.state n.now x → x ≡ m.now
  pub store : AfterOpening (RunsWith n) rs m n
  pub done : EndsWith (λ one. IsDone List one.reply) rs → printed List [] rs ≡ listing_text (listing of_files m.now)
  pub undone : (EndsWith (λ one. IsDone List one.reply) rs → ⊥) → printed List [] rs ≡ []
  pub refused : (refusal : Refusal) → EndsRefused refusal rs → ListRefusal refusal

abbrev pub ListsByMap : Type 0
ListsByMap = ByMap List ListedNames

-- ---- at each moment of their steps

-- what was, where its last number isn't too low: so no longer than that nothing later was acknowledged
abbrev pub IsStill : ℕ → Found (ListOf ℕ) → Found (ListOf ℕ) → Type 0
IsStill first now x = (x ≡ now) × (first ≤ now.last)

-- it may be found at this machine, whose last number isn't too low
abbrev pub IsFoundAt : ℕ → FileMachine → Found (ListOf ℕ) → Type 0
IsFoundAt first m x = (first ≤ m.now.last) × MayBeFound of_files m.state m.now x

-- what may be found then is what was, or it may be found at the end
abbrev pub Through : Command → Type 0
Through command = (first : ℕ) (rs : ListOf Replied) (ss : ListOf (Stepped (ListOf ℕ))) (m : FileMachine)
    (e : Desk (ListOf ℕ) (ListOf (ListOf ℕ))) → m.state ≡ Running → AreLinesOf command rs → (ran : Lines of_files rs ss (desk m) e)
    → (x : Found (ListOf ℕ)) → IsPassedFrom of_files first ss m e.machine (run_of of_files rs ss (desk m) e ran) x
    → IsStill first m.now x ⊎ IsFoundAt first e.machine x

abbrev pub RestoresThrough : Type 0
RestoresThrough = (name : ListOf ℕ) → Through (Restore name)

abbrev pub DeletesThrough : Type 0
DeletesThrough = (name : ListOf ℕ) → Through (Delete name)

abbrev pub ListsThrough : Type 0
ListsThrough = Through List

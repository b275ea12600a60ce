-- The steps of an actor that takes a file (docs/MODEL.md, 'Reading').
use Rattle.std.specs.Prelude.{◌≡◌, ◌≢◌, ℕ, List, Option, Result}
use Rattle.dd_disk.specs.View.{DiskView}
use Rattle.disk_format.specs.Cells.{Root}
use Rattle.disk_format.specs.declared.why.Why.{Why}
use Rattle.container_meta.specs.Places.{PlaceMap}
use Rattle.container_meta.specs.Spelling.{HeaderValue}
use Rattle.merkle_file.specs.declared.top.Top.{Top}
use Rattle.namespace.specs.Names.{NameMap}
use Rattle.refusals.specs.declared.refusal.PartKind.{PartKind}
use Rattle.refusals.specs.declared.refusal.Refusal.{Refusal}
use Rattle.refusals.specs.declared.refusal.Refusal.TheVariants.{Memory, WrongPart}
use Rattle.actor_parts.specs.declared.part.Part.{Part}
use Rattle.actor_parts.specs.declared.part.Part.TheVariants.{Idle, Reading}
use Rattle.actor_parts.specs.Kinds.{kind_of}
use Rattle.actor_parts.specs.Parts.{part_of, with_part}
use Rattle.store_model.specs.Collisions.{ByteSet}
use Rattle.store_model.specs.Files.{Files}
use Rattle.store_model.specs.Image.{Store}
use Rattle.read_steps.specs.Opening.{Begins, IsNameRefusal, IsFileAhead}
use Rattle.read_steps.specs.Walking.{WasRead, IsAnswer, IsWalkRefusal, IsHeldAnswer}

-- a file of this root is taken, and this is to come of it
abbrev pub reading : Root → List Top → Part
reading root ahead = Reading (record { root = root; cursor = ahead })

abbrev pub IsReading : Part → Type 0
IsReading (Reading reader) = Unit {0}
IsReading part = ⊥

-- ---- a file is opened

-- The actor was idle, and is given the file of the name.
pub record Opens (names : NameMap) (name : List ℕ) (actor : ℕ) (old new : List Part) (count : ℕ) : Type 0 where
  pub idle : part_of old actor ≡ Idle
  pub root : Root
  pub ahead : List Top
  pub begins : Begins names name root ahead
  pub count_is : count ≡ root.length
  pub parts_are : new ≡ with_part old actor (reading root ahead)

-- why it is not
abbrev pub IsOpenRefusal : NameMap → List ℕ → Part → Refusal → Type 0
IsOpenRefusal names name part Memory = Unit {0}
IsOpenRefusal names name part (WrongPart kind) = (part ≢ Idle) × (kind ≡ kind_of part)
IsOpenRefusal names name part refusal = (part ≡ Idle) × IsNameRefusal names name refusal

-- where a store stands for files, the file of the name is to come
pub record OpensFile (store : Store) (files : Files) (image name : List ℕ) (actor : ℕ) (old new : List Part) : Type 0 where
  pub root : Root
  pub ahead : List Top
  pub parts_are : new ≡ with_part old actor (reading root ahead)
  pub file : IsFileAhead store files image name root ahead

-- ---- it is read on

-- The actor takes a file, and another rest of it is to come.
pub record GoesOn (actor : ℕ) (old new : List Part) (before after : List Top) : Type 0 where
  pub root : Root
  pub part_is : part_of old actor ≡ reading root before
  pub parts_are : new ≡ with_part old actor (reading root after)

-- what is answered
pub record GivesNext (known : Option PlaceMap) (old new : DiskView) (actor : ℕ) (before after : List Part) (buf : List ℕ)
    (answer : Option ℕ) : Type 0 where
  pub was : List Top
  pub rest : List Top
  pub goes_on : GoesOn actor before after was rest
  pub given : IsAnswer (WasRead known old new) was rest buf answer

-- why it is refused on the way
pub record IsStuck (known : Option PlaceMap) (breaks : ℕ → Why → List ℕ → Type 0) (old new : DiskView) (actor : ℕ)
    (before after : List Part) (refusal : Refusal) : Type 0 where
  pub was : List Top
  pub rest : List Top
  pub goes_on : GoesOn actor before after was rest
  pub refused : IsWalkRefusal known breaks old new was rest refusal

-- the part is none that takes a file, and stays
pub record IsNoReader (actor : ℕ) (before after : List Part) (kind : PartKind) : Type 0 where
  pub differs : IsReading (part_of before actor) → ⊥
  pub kind_is : kind ≡ kind_of (part_of before actor)
  pub same : after ≡ before

abbrev pub IsReadRefusal : Option PlaceMap → (ℕ → Why → List ℕ → Type 0) → DiskView → DiskView → ℕ → List Part → List Part → Refusal
    → Type 0
IsReadRefusal known breaks old new actor before after (WrongPart kind) = IsNoReader actor before after kind
IsReadRefusal known breaks old new actor before after refusal = IsStuck known breaks old new actor before after refusal

-- What is answered where segments of held trees are to come; IsRest says what is to come then.
pub record GivesHeld (counts : ByteSet) (held : List (Option HeaderValue)) (image : List ℕ) (IsRest : List Top → Type 0)
    (segments : List (List ℕ)) (buf : List ℕ) (result : Result (Option ℕ) Refusal) : Type 0 where
  pub rest : List Top
  pub goes_on : IsRest rest
  pub given : IsHeldAnswer counts held image rest segments buf result

-- ---- it is given up

pub record GivesUp (actor : ℕ) (old new : List Part) : Type 0 where
  pub was_reading : IsReading (part_of old actor)
  pub parts_are : new ≡ with_part old actor Idle

abbrev pub IsEndRefusal : ℕ → List Part → List Part → Refusal → Type 0
IsEndRefusal actor old new (WrongPart kind) = IsNoReader actor old new kind
IsEndRefusal actor old new refusal = ⊥

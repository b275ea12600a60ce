-- What a collection that ran alone gave back and copied, by what is needed (docs/MODEL.md, 'Collection').
use Rattle.std.specs.Prelude.{◌≡◌, ◌⊎◌, ℕ, suc, ◌+◌, ◌*◌, ◌<◌, ◌≤◌, List, [], ◌∷◌, slice_get, Contains, Option, Some}
use Rattle.std.specs.List.{AllByRecursion}
use Rattle.container_meta.specs.declared.entry.Entry.{Entry}
use Rattle.container_meta.specs.declared.kind.Kind.{Kind}
use Rattle.container_meta.specs.Spelling.{HeaderValue, bytes_of}
use Rattle.store_model.specs.Freeing.{with_freed}
use Rattle.store_model.specs.Image.{Store}
use Rattle.store_model.specs.Indexing.{entry_key}
use Rattle.store_model.specs.Needed.{IsNeededCopy, Needs}
use Rattle.store_model.specs.Reserve.{IsSpare}
use Rattle.store_model.specs.Slots.{Copy, last_id, newest}
use Rattle.store_model.specs.Steps.{FlushContainer, FreeContainer, StoreChange, changed}
use Rattle.store_machine.specs.Collected.{EachOnce, HasContainer}
use Rattle.store_machine.specs.Collecting.{keys_written}

-- ---- which containers

-- less of a container than the percentage is needed, or nothing is
abbrev pub IsLittle : (percent needed all : ℕ) → Type 0
IsLittle percent needed all = (needed * 100 < percent * all) ⊎ (needed ≡ 0)

-- of the container in the slot little is needed
pub record IsChosen (P : List ℕ → Type 0) (percent : ℕ) (held : List (Option HeaderValue)) (slot : ℕ) : Type 0 where
  pub header : HeaderValue
  pub there : slice_get held slot ≡ Some (Some header)
  pub needed : ℕ
  pub sums : Needs P held slot header needed
  pub little : IsLittle percent needed (bytes_of header.entries)

-- no container of this id is left
abbrev pub IsGone : List (Option HeaderValue) → ℕ → Type 0
IsGone held id = (slot : ℕ) (h : HeaderValue) → slice_get held slot ≡ Some (Some h) → ¬ (h.id ≡ id)

-- the key is needed, and its newest copy lay in a container of which little is
abbrev pub IsToCopy : (List ℕ → Type 0) → ℕ → List (Option HeaderValue) → List ℕ → Type 0
IsToCopy P percent held key = P key × ((copy : Copy) × ((newest 0 held key ≡ Some copy) × IsChosen P percent held copy.place.slot))

-- Of each container that was there it is known how many of its bytes are needed: where that is little no container of its id is left, and
-- else it stands where it stood. Copied were just the needed keys whose newest copies lay in containers of which it is little, each once.
pub record Chooses (P : List ℕ → Type 0) (percent : ℕ) (held held_now : List (Option HeaderValue)) (changes : List StoreChange)
    : Type 0 where
  pub each : (slot : ℕ) (h : HeaderValue) → slice_get held slot ≡ Some (Some h) → (needed : ℕ) × (Needs P held slot h needed
      × ((IsLittle percent needed (bytes_of h.entries) × IsGone held_now h.id)
      ⊎ ((¬ (IsLittle percent needed (bytes_of h.entries))) × (slice_get held_now slot ≡ Some (Some h)))))
  pub only : (key : List ℕ) → Contains (keys_written changes) key → IsToCopy P percent held key
  pub all : (key : List ℕ) → IsToCopy P percent held key → Contains (keys_written changes) key
  pub once : EachOnce (keys_written changes)

-- ---- ids

-- how many containers of copies changes write
abbrev pub written_in : List StoreChange → ℕ
written_in [] = 0
written_in (FlushContainer id kind segments ∷ more) = 1 + written_in more
written_in (change ∷ more) = written_in more

-- they are written under the ids after this one, one after the other
abbrev pub TakesIds : ℕ → List StoreChange → Type 0
TakesIds last [] = Unit {0}
TakesIds last (FlushContainer id kind segments ∷ more) = (id ≡ suc last) × TakesIds (suc last) more
TakesIds last (change ∷ more) = TakesIds last more

-- each container that these changes give back has an id up to this one
abbrev pub FreesUpTo : ℕ → List StoreChange → Store → Type 0
FreesUpTo last [] s = Unit {0}
FreesUpTo last (FreeContainer slot ∷ more) s =
    ((h : HeaderValue) → slice_get s.held slot ≡ Some (Some h) → h.id ≤ last) × FreesUpTo last more (with_freed slot s)
FreesUpTo last (change ∷ more) s = FreesUpTo last more (changed change s)

-- ---- what is left

-- The entry is the newest copy of a key that is needed. The newest copy that the key had before lay in a container of which little is.
abbrev pub IsMoved : (List ℕ → Type 0) → ℕ → List (Option HeaderValue) → List (Option HeaderValue) → Kind → ℕ → Entry → Type 0
IsMoved P percent held held_now kind slot e =
    IsNeededCopy P held_now kind slot e
    × ((copy : Copy) × ((newest 0 held (entry_key kind e) ≡ Some copy) × IsChosen P percent held copy.place.slot))

-- A collection that came to its end chose so, P being what is needed. Each container that is left was there, in the same slot, or came
-- since, under an id above all of before. Each entry of one that came is the newest copy of a key that had to be copied, and each such
-- key has its newest copy in one; each needed key that had a copy has one. At the percentage 0 nothing was copied. Each container that is
-- left holds the newest copy of some needed key; at 100 they hold nothing else.
pub record GivesBackByNeed (P : List ℕ → Type 0) (percent : ℕ) (opened after : Store) (changes : List StoreChange) : Type 0 where
  pub chooses : Chooses P percent opened.held after.held changes
  pub since : (slot : ℕ) (h : HeaderValue) → HasContainer after slot h → HasContainer opened slot h ⊎ (last_id opened.held < h.id)
  pub moved : (slot : ℕ) (h : HeaderValue) → HasContainer after slot h → last_id opened.held < h.id
      → AllByRecursion (IsMoved P percent opened.held after.held h.kind slot) h.entries
  pub all_moved : (key : List ℕ) → IsToCopy P percent opened.held key
      → (now : Copy) × ((newest 0 after.held key ≡ Some now) × (last_id opened.held < now.id))
  pub kept : (key : List ℕ) (copy : Copy) → P key → newest 0 opened.held key ≡ Some copy
      → (now : Copy) × (newest 0 after.held key ≡ Some now)
  pub none_copied : percent ≡ 0 → keys_written changes ≡ []
  pub none_spare : (slot : ℕ) → ¬ (IsSpare P after.held slot)
  pub full : percent ≡ 100 → (slot : ℕ) (h : HeaderValue) → HasContainer after slot h
      → AllByRecursion (IsNeededCopy P after.held h.kind slot) h.entries

-- An opening of a store: at first, and whenever it is asked for.
use Rattle.std.specs.Prelude.{◌≡◌, ◌≢◌, ◌⊎◌, ℕ, ◌<◌, ◌≤◌, false, List, [], ◌∷◌, ◌++◌, Contains, Some, None, Result, Ok, Err, option_map}
use Rattle.std.specs.List.{AllByRecursion}
use Rattle.std.specs.FinMap as finite
use Rattle.disk_format.specs.declared.numbers.TheConstants.{RESERVE}
use Rattle.namespace.specs.declared.record.Named.{Named}
use Rattle.refusals.specs.declared.refusal.Refusal.{Refusal}
use Rattle.refusals.specs.declared.refusal.Refusal.TheVariants.{Memory, Full, DiskRead, DiskWrite, Corrupt, Missing, Damaged, NotAStore, Version, WrongSize}
use Rattle.store_model.specs.Freeing.{FreesSome, FreesTo, with_all_freed}
use Rattle.store_model.specs.Image.{Store, last_sequence, names_of}
use Rattle.store_model.specs.Slots.{free_slots, last_id}
use Rattle.store_machine.specs.Done.{Done}
use Rattle.store_machine.specs.Done as done
use Rattle.store_machine.specs.Machine.{Found, Machine, RunState, Running, Stopped, all_idle}
use Rattle.store_machine.specs.Needs.{NamesNeed}
use Rattle.store_machine.specs.Values.{Values}

module _ {V R : Type 0} (v : Values V R) where
  abbrev pub MayBeFound : RunState V → Found V → Found V → Type 0
  MayBeFound Running now found = found ≡ now
  MayBeFound (Stopped None stores) now found = found ≡ now
  MayBeFound (Stopped (Some other) stores) now found = (found ≡ now) ⊎ (found ≡ other)

  -- which store stands: the one that it has; where a write had failed, perhaps another
  abbrev pub Stands : RunState V → Store → Store → Type 0
  Stands Running store before = before ≡ store
  Stands (Stopped other stores) store before = Contains (store ∷ stores) before

  -- the store's records name the roots of what is found, under its last number
  pub record IsNamedBy (found : Found V) (store : Store) : Type 0 where
    pub names : (name : List ℕ) → option_map v.root (finite.get found.names name)
        ≡ option_map (λ (n : Named). n.root) (finite.get (names_of store) name)
    pub last_is : last_sequence store ≡ found.last

  -- All actors end. The store is what it was, where no write had failed; where fewer than two slots are closed, containers that nothing
  -- needs are given back, the one of the least id first, until two are, or no such is left.
  pub record Opens (files : ℕ) (m n : Machine V R) : Type 0 where
    pub found : Found V
    pub may : v.Known → MayBeFound m.state m.now found
    pub files_are : files ≡ finite.len found.names
    pub before : Store
    pub same : v.Known → Stands m.state m.store before
    pub named : v.Known → IsNamedBy found before
    pub freed : List ℕ
    pub frees : v.Known → FreesTo (NamesNeed v found) freed before n.store
    pub reserve : RESERVE ≤ free_slots n.store.held
    pub others : n ≡ record {
      now = found;
      parts = all_idle;
      store = n.store;
      last_id = last_id n.store.held;
      forgotten = [];
      swept = false;
      collection = None;
      acknowledged = 0;
      state = Running;
    }

  -- it is stopped, in the middle of giving containers back
  abbrev pub freeing : List Store → RunState V → RunState V
  freeing stores Running = Stopped None stores
  freeing stores (Stopped other before) = Stopped other (before ++ stores)

  -- what it may be refused by; containers may have been given back before, and then it is stopped
  abbrev pub MayRefuseOpening : Refusal → Type 0
  MayRefuseOpening Memory = Unit {0}
  MayRefuseOpening DiskRead = Unit {0}
  MayRefuseOpening DiskWrite = Unit {0}
  MayRefuseOpening (Full free) = ¬ v.Known
  MayRefuseOpening (NotAStore gate magic) = ¬ v.Known
  MayRefuseOpening (Version number) = ¬ v.Known
  MayRefuseOpening (Damaged at why) = ¬ v.Known
  MayRefuseOpening (WrongSize want got) = ¬ v.Known
  MayRefuseOpening (Corrupt slot offset count want got) = ¬ v.Known
  MayRefuseOpening (Missing key) = ¬ v.Known
  MayRefuseOpening refusal = ⊥

  -- A store that stands had too few closed slots, and some of its containers were given back, one at least, the one of the least id first,
  -- none of which the names need that may be found.
  pub record IsGivenBack (m : Machine V R) (t : Store) : Type 0 where
    pub found : Found V
    pub may : MayBeFound m.state m.now found
    pub before : Store
    pub stands : Stands m.state m.store before
    pub named : IsNamedBy found before
    pub few : free_slots before.held < RESERVE
    pub freed : List ℕ
    pub some : freed ≢ []
    pub frees : FreesSome (NamesNeed v found) freed before
    pub left : t ≡ with_all_freed freed before

  -- So the store is one of these, and then the opening was refused. There may be none only where a write failed.
  abbrev pub GivesBackSome : Refusal → Machine V R → Machine V R → Type 0
  GivesBackSome refusal m n = (stores : List Store) × (n ≡ record m { state = freeing stores m.state })
      × (stores ≡ [] → refusal ≡ DiskWrite) × (v.Known → AllByRecursion (IsGivenBack m) stores)

  abbrev pub Reopens : Result Done Refusal → Machine V R → Machine V R → Type 0
  Reopens (Ok (done.Reopened files)) m n = Opens files m n
  Reopens (Ok answer) m n = ⊥
  Reopens (Err refusal) m n = MayRefuseOpening refusal × ((n ≡ m) ⊎ GivesBackSome refusal m n)

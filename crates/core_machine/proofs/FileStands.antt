-- A core that is at the files of a machine stands for them; so does the disk of each core of a machine, also where it is stopped.
use Rattle.core_machine.proofs.Prelude.{◌≡◌, ℕ, List, refl, sym, subst, IsIn, OpensAs, CoreState, last_at, opens_at, FileMachine, RunState, Running, Stopped, MayBeFound, of_files, FitsBy, IsAtFiles, IsFileMachine, MayStand, StandsFor, stored_in}
use Rattle.store_machine.specs.Opening.{Stands}
use Rattle.core_machine.specs.FileOpenings.{DisksStand}

-- an image that may stand can be opened as its files
pub stands_opens : (S : List ℕ → Type 0) (m : FileMachine) (image : List ℕ) → (stand : MayStand S m image) → OpensAs S (stored_in stand.found) image
stands_opens S m image stand = record { store = stand.store; stands = stand.is; opens = stand.opens; last_is = stand.last_is }

module _ (S : List ℕ → Type 0) (m : FileMachine) (c : CoreState) where
  -- each image is its store, of its files
  stands_here : m.state ≡ Running → IsAtFiles S m c → (image : List ℕ) → c.disk.images image → MayStand S m image
  stands_here runs at image left = record {
    found = m.now;
    may = subst (λ (state : RunState (List ℕ)). MayBeFound of_files state m.now m.now) (sym runs) refl;
    store = m.store;
    stands = subst (λ (state : RunState (List ℕ)). Stands of_files state m.store m.store) (sym runs) refl;
    is = at.is_at.stands.each image left;
    opens = opens_at S m.store (stored_in m.now) c at.is_at;
    last_is = last_at S m.store (stored_in m.now) c at.is_at;
  }

  pub files_stand : m.state ≡ Running → IsAtFiles S m c → StandsFor S m c.disk
  files_stand runs at =
      let (image, told) = at.is_at.stands.known in
      record { content = (image, told, stands_here runs at image (c.disk.as_read image told)); images = stands_here runs at }

  disk_by : (state : RunState (List ℕ)) → m.state ≡ state → FitsBy state S m c → StandsFor S m c.disk
  disk_by Running runs at = files_stand runs at
  disk_by (Stopped other stores) is stands = stands

  pub disk_stands : IsFileMachine S m c → StandsFor S m c.disk
  disk_stands is = disk_by m.state refl is.fits

pub disks_stand : (C : Type 0) (state : C → CoreState) → DisksStand C state
disks_stand C state among c m is = disk_stands (IsIn among) m (state c) is

-- Which store the tables in memory represent (docs/MODEL.md, 'The opened store').
use Rattle.std.specs.Prelude.{◌≡◌}
use Rattle.journal_cells.specs.Journal.{IsTold}
use Rattle.store_model.specs.Image.{Store}
use Rattle.store_state.specs.declared.open_store.OpenStore.{OpenStore}
use Rattle.store_state.specs.Containers.{RepresentsContainers}

-- the journal and the names are those of the store
abbrev pub RepresentsNames : Store → OpenStore → Type 0
RepresentsNames store o = IsTold store.other_open store.selector store.records o.journal o.names o.journal.last

-- the tables are those of the store
pub record Represents (store : Store) (o : OpenStore) : Type 0 where
  pub slots_are : o.slots ≡ store.slots
  pub journal : RepresentsNames store o
  pub containers : RepresentsContainers store.held o.containers

-- The machine of files, once all but the roots of the files is forgotten, is the machine of roots.
use Rattle.std.specs.Prelude.{◌≡◌, ◌≤◌, ℕ, List, [], ◌∷◌, length, map, Some, None, option_map}
use Rattle.std.specs.FinMap as finite
use Rattle.disk_format.specs.Cells.{Root}
use Rattle.disk_format.specs.declared.numbers.TheConstants.{MOST_FILE}
use Rattle.merkle_file.specs.declared.top.Top.{Top}
use Rattle.merkle_file.specs.Tree.{Tree}
use Rattle.merkle_file.specs.Walk.{Ahead, segments_in}
use Rattle.store_model.specs.Trees.{root_of}
use Rattle.store_machine.specs.Asked.{Asked}
use Rattle.store_machine.specs.Asked as asked
use Rattle.store_machine.specs.Legal.{Legal}
use Rattle.store_machine.specs.Machine.{Collection, Found, Machine, Part, Idle, Writing, Reading, RunState, Running, Stopped, Stepped}
use Rattle.store_machine.specs.Runs.{Run}
use Rattle.store_machine.specs.Values.{of_files, of_roots}

-- ---- what is asked

abbrev pub asked_of : Asked (List ℕ) → Asked Root
asked_of asked.Begin = asked.Begin
asked_of (asked.Claim seg) = asked.Claim seg
asked_of (asked.Seal offered) = asked.Seal offered
asked_of (asked.Commit name file) = asked.Commit name (root_of file)
asked_of asked.Abort = asked.Abort
asked_of (asked.OpenRead name) = asked.OpenRead name
asked_of asked.ReadNext = asked.ReadNext
asked_of asked.EndRead = asked.EndRead
asked_of (asked.Delete name) = asked.Delete name
asked_of asked.ListNames = asked.ListNames
asked_of (asked.GcStart percent) = asked.GcStart percent
asked_of asked.GcStep = asked.GcStep
asked_of asked.Stat = asked.Stat
asked_of asked.Unique = asked.Unique
asked_of asked.Reopen = asked.Reopen

abbrev pub forget_step : Stepped (List ℕ) → Stepped Root
forget_step s = record { actor = s.actor; asked = asked_of s.asked; answer = s.answer }

-- ---- names, actors, the collection

-- each name has the root of its file, and no file is longer than one may be
pub record SameNow (files : Found (List ℕ)) (roots : Found Root) : Type 0 where
  pub get_is : (name : List ℕ) → finite.get roots.names name ≡ option_map root_of (finite.get files.names name)
  pub few : (name file : List ℕ) → finite.get files.names name ≡ Some file → length file ≤ MOST_FILE
  pub last_is : roots.last ≡ files.last

-- these trees are to come, and these are their segments
pub record Rests (rest : List (List ℕ)) (tops : List Top) : Type 0 where
  pub trees : List (Tree (List ℕ))
  pub ahead : Ahead tops trees
  pub segments : rest ≡ segments_in trees

abbrev pub SamePart : Part (List ℕ) (List (List ℕ)) → Part Root (List Top) → Type 0
SamePart Idle Idle = Unit {0}
SamePart (Writing pins) (Writing others) = others ≡ pins
SamePart (Reading file rest) (Reading root tops) = (root ≡ root_of file) × Rests rest tops
SamePart part other = ⊥

abbrev pub SameParts : List (Part (List ℕ) (List (List ℕ))) → List (Part Root (List Top)) → Type 0
SameParts [] [] = Unit {0}
SameParts (p ∷ ps) (q ∷ qs) = SamePart p q × SameParts ps qs
SameParts ps qs = ⊥

abbrev pub forget_collection : Collection (List ℕ) → Collection Root
forget_collection c = record {
  percent = c.percent;
  snapshot = c.snapshot;
  stage = c.stage;
  recorded = c.recorded;
  changes = c.changes;
  values = map root_of c.values;
  keys = c.keys;
}

abbrev pub SameState : RunState (List ℕ) → RunState Root → Type 0
SameState Running Running = Unit {0}
SameState (Stopped None stores) (Stopped None others) = others ≡ stores
SameState (Stopped (Some found) stores) (Stopped (Some other) others) = SameNow found other × (others ≡ stores)
SameState state other = ⊥

-- ---- the machine

pub record Forgets (m : Machine (List ℕ) (List (List ℕ))) (r : Machine Root (List Top)) : Type 0 where
  pub now : SameNow m.now r.now
  pub parts : SameParts m.parts r.parts
  pub store : r.store ≡ m.store
  pub last_id : r.last_id ≡ m.last_id
  pub forgotten : r.forgotten ≡ m.forgotten
  pub swept : r.swept ≡ m.swept
  pub collection : r.collection ≡ option_map forget_collection m.collection
  pub acknowledged : r.acknowledged ≡ m.acknowledged
  pub state : SameState m.state r.state

-- A step of the one is a step of the other, and so is a run.
abbrev pub StepsAreForgotten : Type 0
StepsAreForgotten =
    (s : Stepped (List ℕ)) (m n : Machine (List ℕ) (List (List ℕ))) (r : Machine Root (List Top)) → Forgets m r → Legal of_files s m n
    → (t : Machine Root (List Top)) × (Legal of_roots (forget_step s) r t × Forgets n t)

abbrev pub RunsAreForgotten : Type 0
RunsAreForgotten =
    (ss : List (Stepped (List ℕ))) (m n : Machine (List ℕ) (List (List ℕ))) (r : Machine Root (List Top)) → Forgets m r
    → Run of_files ss m n
    → (t : Machine Root (List Top)) × (Run of_roots (map forget_step ss) r t × Forgets n t)

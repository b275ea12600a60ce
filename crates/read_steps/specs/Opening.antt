-- The file of a name, and a walk down its tree that begins (docs/MODEL.md, 'Reading').
use Rattle.std.specs.Prelude.{◌≡◌, ℕ, List, Some, None}
use Rattle.std.specs.FinMap as finite
use Rattle.disk_format.specs.Cells.{Root, IsName}
use Rattle.merkle_file.specs.declared.top.Top.{Top}
use Rattle.merkle_file.specs.Walk.{start_of, trees_in}
use Rattle.namespace.specs.Names.{NameMap}
use Rattle.refusals.specs.declared.refusal.Refusal.{Refusal}
use Rattle.refusals.specs.declared.refusal.Refusal.TheVariants.{Memory, NoFile, BadName}
use Rattle.segmenter.specs.Segments.{segments_of}
use Rattle.store_model.specs.Files.{Files}
use Rattle.store_model.specs.Image.{Store}
use Rattle.store_model.specs.Reserve.{key_set, tree_keys}
use Rattle.store_model.specs.Trees.{HoldsTree, root_of, file_tree}
use Rattle.read_steps.specs.Walking.{HeldAhead, SegmentsAhead}

abbrev pub top_of : Root → Top
top_of root = record { length = root.length; level = root.level; digest = root.digest }

-- a good name has this root
pub record HasRoot (names : NameMap) (name : List ℕ) (root : Root) : Type 0 where
  pub named : IsName name
  pub sequence : ℕ
  pub found : finite.get names name ≡ Some (record { sequence = sequence; root = root })

-- and this is to come of its file: all of it
pub record Begins (names : NameMap) (name : List ℕ) (root : Root) (ahead : List Top) : Type 0 where
  pub has_root : HasRoot names name root
  pub all : ahead ≡ start_of (top_of root)

-- why no file is given
abbrev pub IsNameRefusal : NameMap → List ℕ → Refusal → Type 0
IsNameRefusal names name Memory = Unit {0}
IsNameRefusal names name BadName = ¬ (IsName name)
IsNameRefusal names name NoFile = IsName name × (finite.get names name ≡ None)
IsNameRefusal names name refusal = ⊥

-- The root is that of the file of the name, whose tree is held and is to come.
pub record IsFileAhead (store : Store) (files : Files) (image name : List ℕ) (root : Root) (ahead : List Top) : Type 0 where
  pub bytes : List ℕ
  pub filed : finite.get files name ≡ Some bytes
  pub root_is : root ≡ root_of bytes
  pub tree_is_held : HoldsTree store.held image (file_tree bytes)
  pub held_ahead : HeldAhead (key_set (tree_keys (file_tree bytes))) store.held image ahead (trees_in (file_tree bytes))
  pub segments_ahead : SegmentsAhead (key_set (tree_keys (file_tree bytes))) store.held image ahead (segments_of bytes)

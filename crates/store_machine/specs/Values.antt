-- What a name may have, and what is told of it: a file, where the disk tells its content; on any disk the root of one.
use Rattle.std.specs.Prelude.{◌≡◌, ◌≢◌, ◌≤◌, ℕ, ◌==◌, if◌then◌else◌, List, [], ◌∷◌, ◌++◌, length, drop, Contains}
use Rattle.sha2.specs.Sha256.{sha256}
use Rattle.base_model.specs.Bytes.{key_of}
use Rattle.disk_format.specs.Cells.{Root}
use Rattle.disk_format.specs.declared.numbers.TheConstants.{MOST_FILE}
use Rattle.merkle_file.specs.declared.top.Top.{Top}
use Rattle.merkle_file.specs.Reading.{contents_in}
use Rattle.merkle_file.specs.Walk.{SpellsNext, opened, start_of}
use Rattle.refusals.specs.declared.refusal.Refusal.{Refusal}
use Rattle.refusals.specs.declared.refusal.Refusal.TheVariants.{Corrupt, Damaged, DiskRead, Missing}
use Rattle.segmenter.specs.Segments.{segments_of}
use Rattle.store_model.specs.Reserve.{tree_keys}
use Rattle.store_model.specs.Trees.{file_tree, root_of}
use Rattle.store_model.specs.Unique.{AreUnique}

-- V is what a name has, R what is still to come of it for one who reads it.
pub record Values (V R : Type 0) : Type 1 where
  -- The disk tells its content, and that is of such values: what is said only then is given by this.
  pub Known : Type 0
  -- that of a file that was given
  pub of : List ℕ → V
  -- how the journal names it
  pub root : V → Root
  -- it may be put under a name
  pub IsValue : V → Type 0
  -- all of it is to come
  pub Starts : V → R → Type 0
  -- these bytes come next, and then the rest
  pub Gives : R → List ℕ → R → Type 0
  -- nothing is to come
  pub Ends : R → Type 0
  -- a read was refused so, and this is to come still
  pub Stays : R → Refusal → R → Type 0
  -- it has this key
  pub Needs : V → List ℕ → Type 0
  -- the values have so many keys, each counted once, which have so many bytes
  pub AreUnique : List V → (segments bytes : ℕ) → Type 0

-- ---- files

abbrev pub StaysAt : List (List ℕ) → Refusal → List (List ℕ) → Type 0
StaysAt [] refusal after = ⊥
StaysAt (bytes ∷ rest) DiskRead after = after ≡ bytes ∷ rest
StaysAt (bytes ∷ rest) refusal after = ⊥

abbrev pub of_files : Values (List ℕ) (List (List ℕ))
of_files = record {
  Known = Unit {0};
  of = λ file. file;
  root = root_of;
  IsValue = λ file. length file ≤ MOST_FILE;
  Starts = λ file rest. rest ≡ segments_of file;
  Gives = λ rest bytes after. rest ≡ bytes ∷ after;
  Ends = λ rest. rest ≡ [];
  Stays = StaysAt;
  Needs = λ file key. Contains (tree_keys (file_tree file)) key;
  AreUnique = AreUnique;
}

-- ---- roots: what comes next is named by digest, level and length, and is checked by these

-- a node comes first, and these bytes spell it
abbrev pub IsNodeNext : List Top → List ℕ → Type 0
IsNodeNext [] bytes = ⊥
IsNodeNext (t ∷ ts) bytes = (1 ≤ t.level) × (sha256 bytes ≡ t.digest) × SpellsNext (t ∷ ts) bytes

-- nodes were opened, each where it came first, and put their children in their place
abbrev pub Opens : List (List ℕ) → List Top → List Top → Type 0
Opens [] before after = after ≡ before
Opens (b ∷ bs) before after = IsNodeNext before b × Opens bs (opened (contents_in b) ++ drop 1 before) after

abbrev pub Walked : List Top → List Top → Type 0
Walked before after = (nodes : List (List ℕ)) × Opens nodes before after

-- the bytes are the segment that comes first once some nodes are opened
pub record GivesLeaf (before : List Top) (bytes : List ℕ) (after : List Top) : Type 0 where
  pub next : Top
  pub walked : Walked before (next ∷ after)
  pub leaf : next.level ≡ 0
  pub digest : sha256 bytes ≡ next.digest
  pub named : next.length ≡ length bytes
  pub some : 1 ≤ length bytes

abbrev pub top_key : Top → List ℕ
top_key t = key_of (if t.level == 0 then 0 else 1) t.digest

-- what comes first is not given: a read failed, or other bytes are held in its place, or none, or they aren't as it was named
abbrev pub IsStuck : List Top → Refusal → Type 0
IsStuck [] refusal = ⊥
IsStuck (t ∷ ts) DiskRead = Unit {0}
IsStuck (t ∷ ts) (Corrupt slot offset count want got) = (want ≡ t.digest) × (got ≢ want)
IsStuck (t ∷ ts) (Missing key) = key ≡ top_key t
IsStuck (t ∷ ts) (Damaged at why) = Unit {0}
IsStuck (t ∷ ts) refusal = ⊥

abbrev pub top_of : Root → Top
top_of root = record { length = root.length; level = root.level; digest = root.digest }

abbrev pub of_roots : Values Root (List Top)
of_roots = record {
  Known = ⊥;
  of = root_of;
  root = λ root. root;
  IsValue = λ root. Unit {0};
  Starts = λ root rest. rest ≡ start_of (top_of root);
  Gives = GivesLeaf;
  Ends = λ rest. rest ≡ [];
  Stays = λ rest refusal after. Walked rest after × IsStuck after refusal;
  Needs = λ root key. ⊥;
  AreUnique = λ roots segments bytes. Unit {0};
}

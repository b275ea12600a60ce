-- What an image stands for where the journal alone has changed: the same files, or those after a command.
use Rattle.store_model.proofs.Prelude.{◌≡◌, ℕ, ◌≤◌, Bool, List, length, sym, ◌∙◌, arith, subst, range, FIRST_SLOT, RecordValue, SelectorValue, NameMap, names_after, Files, Command, files_after, AreHeaders, Store, Encodes, names_of, HasNewest, HoldsTree, AreFilesOf, HasJournal, Stands, HoldsFor, appended, change_of, name_of}
use Rattle.std.specs.FinMap as finite
use Rattle.merkle_file.specs.Tree.{Tree}
use Rattle.store_model.specs.Files.{Put, Delete}
use Rattle.store_model.specs.Trees.{file_tree}
use Rattle.store_model.proofs.Copies.{headers_of_right}
use Rattle.store_model.proofs.Frames.{SameTo, SameSlots, slots_kept, copies_kept, other_kept, journal_kept}
use Rattle.store_model.proofs.HeldKept.{nodes_kept, among_kept, newest_kept, tree_held, file_held}
use Rattle.store_model.proofs.NameChanges.{files_changed}

-- all bytes but those of the journal are as they were: the format cell, and the slots
pub record SameButJournal (old new : List ℕ) : Type 0 where
  pub size : length new ≡ length old
  pub format : range 0 512 new ≡ range 0 512 old
  pub slots : (p n : ℕ) → FIRST_SLOT ≤ p → range p n new ≡ range p n old

-- a store with another journal
abbrev pub with_journal : SelectorValue → Bool → List RecordValue → Store → Store
with_journal selector other_open records store = record store { selector = selector; other_open = other_open; records = records }

-- the journal of an image that holds a store
pub has_journal : (store : Store) (image : List ℕ) → Encodes image store → HasJournal store image
has_journal store image right = record { holds = right.journal; other = right.other }

-- of one that is of files
pub journal_in : (S : List ℕ → Type 0) (store : Store) (files : Files) (image : List ℕ) → Stands S store files image → HasJournal store image
journal_in S store files image is = has_journal store image is.holds.right

-- and of one that is as it was before the slots
pub has_kept : (store : Store) (old new : List ℕ) → SameTo FIRST_SLOT old new → HasJournal store old → HasJournal store new
has_kept store old new same has = record {
  holds = journal_kept old new same store.selector store.records has.holds;
  other = other_kept old new (λ p n within. same p n (omega (arith, within))) store.other_open store.selector.half has.other;
}

module _ (image new : List ℕ) (store : Store) (right : Encodes image store) (same : SameButJournal image new) where
  slots : SameSlots 0 (length store.held) image new
  slots slot from below p n above ends = same.slots p n (omega (arith, above))

  headers : AreHeaders store.held
  headers = headers_of_right image store right

  -- each newest copy is the same
  pub newest_on : (key : List ℕ) (level : ℕ) (bytes : List ℕ) → HasNewest store.held key level bytes image → HasNewest store.held key level bytes new
  newest_on = newest_kept image new store.held slots headers

  -- each tree is held on
  pub tree_on : (t : Tree (List ℕ)) → HoldsTree store.held image t → HoldsTree store.held new t
  tree_on = tree_held store.held store.held image new newest_on

  -- what isn't of the journal goes on
  pub right_where : (selector : SelectorValue) (other_open : Bool) (records : List RecordValue) → HasJournal (with_journal selector other_open records store) new
      → Encodes new (with_journal selector other_open records store)
  right_where selector other_open records has = record {
    count = right.count;
    size = same.size ∙ right.size;
    format = same.format ∙ right.format;
    journal = has.holds;
    other = has.other;
    many = right.many;
    slots_are = slots_kept image new 0 store.held slots right.slots_are;
    different = right.different;
  }

  -- what a command puts is held on
  pub held_for : (command : Command) → HoldsFor command store.held image → HoldsFor command store.held new
  held_for (Put name bytes) holds = tree_on (file_tree bytes) holds
  held_for (Delete name) holds = tt

module _ (S : List ℕ → Type 0) (image new : List ℕ) (store : Store) (files : Files) (is : Stands S store files image) (same : SameButJournal image new) where
  abbrev encodes : Encodes image store
  encodes = is.holds.right

  pub files_on : AreFilesOf store.held (names_of store) new files
  files_on name =
      file_held store.held store.held image new (tree_on image new store encodes same) (finite.get (names_of store) name) (finite.get files name) (is.holds.files_are name)

  pub stands_where : (selector : SelectorValue) (other_open : Bool) (records : List RecordValue) (filed : Files) → HasJournal (with_journal selector other_open records store) new
      → AreFilesOf store.held (names_after records finite.empty) new filed → Stands S (with_journal selector other_open records store) filed new
  stands_where selector other_open records filed has files_are = record {
    holds = record {
      right = right_where image new store encodes same selector other_open records has;
      copies = copies_kept image new 0 store.held (slots image new store encodes same) (headers image new store encodes same) is.holds.copies;
      nodes = nodes_kept image new 0 store.held (slots image new store encodes same) (headers image new store encodes same) is.holds.nodes;
      files_are = files_are;
    };
    among = among_kept image new S 0 store.held (slots image new store encodes same) (headers image new store encodes same) is.among;
  }

  -- the same names: the same files
  pub still_stands : (selector : SelectorValue) (other_open : Bool) (records : List RecordValue) → names_after records finite.empty ≡ names_of store
      → HasJournal (with_journal selector other_open records store) new → Stands S (with_journal selector other_open records store) files new
  still_stands selector other_open records names has =
      stands_where selector other_open records files has (subst (λ (n : NameMap). AreFilesOf store.held n new files) (sym names) files_on)

-- And the record of a command after records that leave the same names: the files after the command, where a file that it puts is
-- held.
module _ (S : List ℕ → Type 0) (image new : List ℕ) (store : Store) (files : Files) (is : Stands S store files image) (same : SameButJournal image new)
    (selector : SelectorValue) (is_open : Bool) (records : List RecordValue) (names : names_after records finite.empty ≡ names_of store) where
  abbrev base : Store
  base = with_journal selector is_open records store

  pub change_stands : (command : Command) → HoldsFor command store.held image
      → HasJournal (appended (name_of command) (change_of command) base) new
      → Stands S (appended (name_of command) (change_of command) base) (files_after command files) new
  change_stands command holds has =
      stands_where S image new store files is same selector is_open (appended (name_of command) (change_of command) base).records (files_after command files) has
      (files_changed command new base files (held_for image new store is.holds.right same command holds)
      (subst (λ (n : NameMap). AreFilesOf store.held n new files) (sym names) (files_on S image new store files is same)))

-- ---- what stands on a journal

-- What images of a store have that have its journal, and go on having where the journal alone becomes another of the same names.
pub record IsAbove (Base : Store → List ℕ → Type 0) : Type 0 where
  pub journal : (store : Store) (image : List ℕ) → Base store image → HasJournal store image
  pub still : (store : Store) (old new : List ℕ) → Base store old → SameButJournal old new
      → (selector : SelectorValue) (other_open : Bool) (records : List RecordValue) → names_after records finite.empty ≡ names_of store
      → HasJournal (with_journal selector other_open records store) new → Base (with_journal selector other_open records store) new

-- the journal itself
pub journal_above : IsAbove HasJournal
journal_above = record { journal = λ store image has. has; still = λ store old new was same selector other_open records names has. has }

-- a store of files
pub files_above : (S : List ℕ → Type 0) (files : Files) → IsAbove (λ store. Stands S store files)
files_above S files = record {
  journal = λ store image is. journal_in S store files image is;
  still = λ store old new was same selector other_open records names has. still_stands S old new store files was same selector other_open records names has;
}

-- An image that can be opened as files may be that of a machine that is not open yet and has them.
use Rattle.core_machine.proofs.Prelude.{ℕ, zero, suc, ◌+◌, List, replicate, None, refl, arith, IsIn, IsOf, IsReachable}
use Rattle.store_model.specs.Collisions.{AreAmong}
use Rattle.store_model.specs.Files.{no_files}
use Rattle.store_model.specs.Image.{empty_store}
use Rattle.store_model.specs.Standing.{IsFormatted}
use Rattle.store_model.proofs.FreedFiles.{free_reserve}
use Rattle.core_machine.specs.Unopened.{FilesBegin, FormattedBegins}

pub files_begin : FilesBegin
files_begin among stored image opens = record {
  found = record { names = stored.files; last = stored.last };
  may = refl;
  store = opens.store;
  stands = (0, omega arith, refl);
  is = opens.stands;
  opens = opens.opens;
  last_is = opens.last_is;
}

module _ (S : List ℕ → Type 0) (image : List ℕ) where
  pub none_among : (slot count : ℕ) → AreAmong S slot (replicate count None) image
  none_among slot zero = tt
  none_among slot (suc count) = none_among (slot + 1) count

  -- what was formatted is a store without files
  abbrev pub of_formatted : (slots : ℕ) → IsFormatted slots image → IsOf S (record { files = no_files; last = 0 }) image
  of_formatted slots formatted = record {
    store = empty_store slots;
    stands = record { holds = formatted.0; among = none_among 0 slots };
    reserve = formatted.1;
    last_is = refl;
  }

pub formatted_begins : FormattedBegins
formatted_begins among slots image formatted =
    let is = of_formatted (IsIn among) image slots formatted in
    files_begin among (record { files = no_files; last = 0 }) image (record {
      store = is.store;
      stands = is.stands;
      opens = free_reserve (IsReachable no_files) is.store.held is.reserve;
      last_is = is.last_is;
    })

use Rattle.backup_engine.proofs.Prelude.{◌≡◌, ◌∙◌, codes, Option, Some, None, refl, ap, option_map}
use Rattle.clap.proofs.WalkLemmas.{first_value-rows}
use Rattle.clap.specs.Walk.{Text}
use Rattle.clap.specs.Words.{first_value, found_of, rows_of}
use Rattle.clap.specs.declared.parser.matches.Found.{Found}
use Rattle.backup_engine.specs.LineValue.{load_value}
use Rattle.backup_engine.specs.Words.{load_found, load_matched}
use Rattle.backup_engine.proofs.words.matched_load.Goals as goal

-- the load, by what was found of each word
module _ (f : Found) where
  abbrev word : Text → Option Text
  word id = first_value f id

  found : (workers seed files bytes percent : Option Text) → workers ≡ word (codes "workers") → seed ≡ word (codes "seed") → files ≡ word (codes "files")
      → bytes ≡ word (codes "bytes") → percent ≡ word (codes "percent") → load_found workers seed files bytes percent ≡ load_matched (rows_of f)
  found workers seed files bytes percent w s fs b p =
      let workers_is = w ∙ first_value-rows f (codes "workers") in
      let seed_is = s ∙ first_value-rows f (codes "seed") in
      let files_is = fs ∙ first_value-rows f (codes "files") in
      let bytes_is = b ∙ first_value-rows f (codes "bytes") in
      let percent_is = p ∙ first_value-rows f (codes "percent") in
      rw (workers_is, seed_is, files_is, bytes_is, percent_is) refl

pub returns-in_err-get_str-clause-load : goal.returns-in_err-get_str-clause-load
returns-in_err-get_str-clause-load c =
    ap (option_map load_value) c.from_residual.ensures
    ∙ found (found_of c.args.matches.now) None _ _ _ _
    c.in_err-get_str.ensures refl refl refl refl

pub returns-in_err-get_str-2-clause-load : goal.returns-in_err-get_str-2-clause-load
returns-in_err-get_str-2-clause-load c =
    ap (option_map load_value) c.from_residual-in_err-get_str-2.ensures
    ∙ found (found_of c.args.matches.now) (Some c.in_ok-get_str.field-0.now) None _ _ _
    c.in_ok-get_str.ensures c.in_err-get_str-2.ensures refl refl refl

pub returns-in_err-get_str-3-clause-load : goal.returns-in_err-get_str-3-clause-load
returns-in_err-get_str-3-clause-load c =
    ap (option_map load_value) c.from_residual-in_err-get_str-3.ensures
    ∙ found (found_of c.args.matches.now) (Some c.in_ok-get_str.field-0.now) (Some c.in_ok-get_str-2.field-0.now) None _ _
    c.in_ok-get_str.ensures c.in_ok-get_str-2.ensures c.in_err-get_str-3.ensures refl refl

pub returns-in_err-get_str-4-clause-load : goal.returns-in_err-get_str-4-clause-load
returns-in_err-get_str-4-clause-load c =
    ap (option_map load_value) c.from_residual-in_err-get_str-4.ensures
    ∙ found (found_of c.args.matches.now) (Some c.in_ok-get_str.field-0.now) (Some c.in_ok-get_str-2.field-0.now) (Some c.in_ok-get_str-3.field-0.now) None _
    c.in_ok-get_str.ensures c.in_ok-get_str-2.ensures c.in_ok-get_str-3.ensures c.in_err-get_str-4.ensures refl

pub returns-in_err-get_str-5-clause-load : goal.returns-in_err-get_str-5-clause-load
returns-in_err-get_str-5-clause-load c =
    ap (option_map load_value) c.from_residual-in_err-get_str-5.ensures
    ∙ found (found_of c.args.matches.now) (Some c.in_ok-get_str.field-0.now) (Some c.in_ok-get_str-2.field-0.now) (Some c.in_ok-get_str-3.field-0.now)
    (Some c.in_ok-get_str-4.field-0.now) None
    c.in_ok-get_str.ensures c.in_ok-get_str-2.ensures c.in_ok-get_str-3.ensures c.in_ok-get_str-4.ensures c.in_err-get_str-5.ensures

pub returns-clause-load : goal.returns-clause-load
returns-clause-load c =
    c.read_load.ensures.load
    ∙ found (found_of c.args.matches.now) (Some c.in_ok-get_str.field-0.now) (Some c.in_ok-get_str-2.field-0.now) (Some c.in_ok-get_str-3.field-0.now)
    (Some c.in_ok-get_str-4.field-0.now) (Some c.in_ok-get_str-5.field-0.now)
    c.in_ok-get_str.ensures c.in_ok-get_str-2.ensures c.in_ok-get_str-3.ensures c.in_ok-get_str-4.ensures c.in_ok-get_str-5.ensures

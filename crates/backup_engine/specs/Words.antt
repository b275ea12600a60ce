-- The command that clap reads the words by, and the line that its matches are.
use Rattle.std.specs.Prelude.{ℕ, List, [], codes, true, Option, Some, None, option_map, option_and_then, if◌then◌else◌}
use Rattle.std.specs.Str.{bytes_eq}
use Rattle.clap.specs.Words.{App, Row, Rule, first_of, new_app, new_rule, with_rule, with_subcommand}
use Rattle.clap.specs.Simple.{new_shape}
use Rattle.clap.specs.declared.builder.action.ArgAction.TheVariants.{Set}
use Rattle.backup_engine.specs.Line.{Load, TableLine, Single, Run, Check, Work, command_of, load_by}
use Rattle.backup_engine.specs.Line as table

-- an argument that has to be there, as one word
abbrev pub argument_rule : List ℕ → Rule
argument_rule id = record (new_rule id) { required = true; action = Some Set }

-- a command with one argument
abbrev pub one_argument : List ℕ → App
one_argument name = with_rule (new_app name) (argument_rule (codes "argument"))

-- the command with the arguments of a load
abbrev pub load_arguments : App
load_arguments =
    with_rule (with_rule (with_rule (with_rule (with_rule (new_app (codes "work")) (argument_rule (codes "workers")))
    (argument_rule (codes "seed"))) (argument_rule (codes "files"))) (argument_rule (codes "bytes"))) (argument_rule (codes "percent"))

-- words with no name of a program before them, the first of which is a subcommand; none asks for help or a version
abbrev pub no_commands : App
no_commands = record {
  top = record (new_shape (codes "ddfs")) {
    no_binary_name = true;
    disable_help_flag = true;
    disable_help_subcommand = true;
    disable_version_flag = true;
    subcommand_required = true;
  };
  subs = [];
}

abbrev pub with_one : App → List ℕ → App
with_one app name = with_subcommand app (one_argument name).top

abbrev pub with_none : App → List ℕ → App
with_none app name = with_subcommand app (new_app name).top

abbrev pub with_load : App → App
with_load app = with_subcommand app load_arguments.top

abbrev pub table_app : App
table_app = with_load (with_none (with_none (with_none (with_one
    (with_one (with_one (with_one (with_one no_commands (codes "format")) (codes "ingest")) (codes "restore")) (codes "delete"))
    (codes "collect")) (codes "list")) (codes "run")) (codes "check"))

-- the line of a command and its argument, where it has one
abbrev pub line_named : List ℕ → Option (List ℕ) → Option TableLine
line_named name argument =
    if bytes_eq name (codes "run") then Some Run
    else if bytes_eq name (codes "check") then Some Check
    else if bytes_eq name (codes "list") then Some (Single table.List)
    else option_map Single (option_and_then (command_of name) argument)

-- the load of five words, where all are there
abbrev pub load_found : (workers seed files bytes percent : Option (List ℕ)) → Option Load
load_found (Some workers) (Some seed) (Some files) (Some bytes) (Some percent) = load_by workers seed files bytes percent
load_found _ _ _ _ _ = None

abbrev pub load_matched : List Row → Option Load
load_matched rows =
    load_found (first_of (codes "workers") rows) (first_of (codes "seed") rows) (first_of (codes "files") rows)
    (first_of (codes "bytes") rows) (first_of (codes "percent") rows)

-- the line of a command with the matches of its arguments
abbrev pub line_found : List ℕ → List Row → Option TableLine
line_found name rows =
    if bytes_eq name (codes "work") then option_map Work (load_matched rows)
    else line_named name (first_of (codes "argument") rows)

abbrev pub line_matched : Option (List ℕ × List Row) → Option TableLine
line_matched = option_and_then (λ found. line_found found.0 found.1)

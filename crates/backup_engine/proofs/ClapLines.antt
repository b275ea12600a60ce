-- The line that clap's matches are.
use Rattle.backup_engine.proofs.Prelude.{◌≡◌, ◌∙◌, ◌++◌, ◌⊎◌, inl, inr, ℕ, Bool, true, false, List, [], ◌∷◌, codes, map, Option, Some, None, option_map, refl, sym, ap, ap₂, subst, slice_get, IsUtf8, bytes_eq, chars, bytes_eq-Decides, long_of, short_of, first_of, nothing_held, rows_after, App, Shape, Kinds, TableLine, Single, Check, Work, arguments_of, is_separator, line_matched, one_argument, table_app}
use Rattle.std.proofs.Common.{fold, is_some, option_and_then}
use Rattle.std.specs.Prelude.{string_bytes, String}
use Rattle.std.specs.Global.{Global}
use Rattle.std.proofs.lemmas.Str.{IsUtf8-string_bytes}
use Rattle.clap.specs.Walk.{Names, Walk, finished, idle, settled, subcommand_met, walk, walk_from, walked}
use Rattle.clap.specs.Simple.{built, built_leaf, entered, inherited, is_simple, marked_built, names_of, new_app, subcommand_of, with_leaf_noted}
use Rattle.clap.specs.Kinds.{IsAmong, or_else}
use Rattle.clap.specs.Faults.{check_fault, defaults_fault, entered_fault, fault_of, is_simple_and_free, level_fault, settle_fault, turn_fault, walk_fault}
use Rattle.clap.proofs.OnLiterals.{clap_on_literals}
use Rattle.clap.proofs.WalkLemmas.{walk_stopped}
use Rattle.backup_engine.specs.Line.{Run, alone, command_of, line_by, line_of, line_with, load_of, only_one}
use Rattle.backup_engine.specs.Line as table
use Rattle.backup_engine.specs.Words.{load_arguments, load_matched}
use Rattle.backup_engine.proofs.ClapWords.{AreTexts, Look, answered, long, look_of, plain, separator, short, stage, taken, unless}
use Rattle.clap.specs.Words.{Row, Text, subcommand_name_of, subcommand_rows_of}
use Rattle.clap.specs.declared.error.ErrorKind.{ErrorKind}
use Rattle.clap.specs.declared.parser.ArgMatches.{ArgMatches}

paired : {B X Y : Type 0} (f : B → X) (g : B → Y) (entered : Option B) (x : X) (y : Y) → Some x ≡ option_map f entered
    → Some y ≡ option_map (λ (p : X × Y). p.1) (option_map {U = X × Y} (λ b. (f b, g b)) entered) → option_map {U = X × Y} (λ b. (f b, g b)) entered ≡ Some (x, y)
paired f g None x y named found = absurd (cc)
paired f g (Some b) x y named found =
    let first : x ≡ f b = cc in
    let second : y ≡ g b = cc in
    rw (first, second) refl

-- the subcommand that was entered, by its name and its rows
pub subcommand_is : (m : ArgMatches) (name : Text) (rows : List Row) → Some name ≡ subcommand_name_of m
    → Some rows ≡ option_map (λ found. found.1) (subcommand_rows_of m) → subcommand_rows_of m ≡ Some (name, rows)
subcommand_is m name rows named found = paired _ _ _ name rows named found

-- ---- words of which the first names a command

abbrev names : Names
names = names_of (built table_app)

abbrev start : Walk
start = walk_from nothing_held

-- the walk goes no further than the name, and leaves the other words to the command
end_is : (name : Text) (words : List Text) → walked [] names start name ≡ record start { stopped = Some (name, []) }
    → walk [] names nothing_held (name ∷ words) ≡ record start { stopped = Some (name, words) }
end_is name words met = ap (λ (w : Walk). fold (walked [] names) w words) met ∙ sym (walk_stopped [] names start name [] words)

stopped_fault : (shape : Shape) (c : Names) (w : Walk) (name : Text) (seen words : List Text)
    → walk_fault shape c (record w { stopped = Some (name, seen) }) words ≡ []
unfolding walk_fault walked
stopped_fault shape c w name seen [] = refl
stopped_fault shape c w name seen (x ∷ xs) = stopped_fault shape c w name (seen ++ x ∷ []) xs

no_walk_fault : (name : Text) (words : List Text) → walked [] names start name ≡ record start { stopped = Some (name, []) }
    → turn_fault (built table_app).top names start name ≡ [] → walk_fault (built table_app).top names start (name ∷ words) ≡ []
unfolding walk_fault
no_walk_fault name words met turn =
    ap₂ (λ (k : Kinds) (w : Walk). or_else k (walk_fault (built table_app).top names w words)) turn met
    ∙ stopped_fault (built table_app).top names start name [] words

-- the faults, by the end of the walk and the faults on its way
abbrev fault_at : Kinds → Walk → Kinds
fault_at way end = or_else way (or_else (entered_fault (built table_app) end.stopped) (or_else (settle_fault [] false end.held)
    (or_else (defaults_fault (settled [] end.held).rows [])
    (check_fault (built table_app).top (finished [] end.held) (is_some (entered (built table_app) end.stopped))))))

abbrev line_at : Walk → Option TableLine
line_at end = line_matched (entered (built table_app) end.stopped)

abbrev clap_line : List Text → Option TableLine
clap_line words = unless (fault_of table_app words) (line_matched (subcommand_of table_app words))

named : (name : Text) (words : List Text) → walked [] names start name ≡ record start { stopped = Some (name, []) }
    → turn_fault (built table_app).top names start name ≡ []
    → clap_line (name ∷ words) ≡ unless (fault_at [] (record start { stopped = Some (name, words) })) (line_at (record start { stopped = Some (name, words) }))
named name words met turn =
    ap₂ (λ (way : Kinds) (end : Walk). unless (fault_at way end) (line_at end)) (no_walk_fault name words met turn) (end_is name words met)

-- ---- the words after the name

abbrev leaf : App → Shape
leaf app = built_leaf (inherited (with_leaf_noted (marked_built table_app.top)) app.top)

-- a command with one argument, one with none, and that with the arguments of a load, as they are built
abbrev one : Text → Shape
one name = leaf (one_argument name)

abbrev none : Text → Shape
none name = leaf (new_app name)

abbrev five : Shape
five = leaf load_arguments

abbrev one_line : Text → Option Text → Option TableLine
one_line name argument = option_map Single (option_and_then (command_of name) argument)

-- what each makes of its arguments
one_word : (name : Text) (words : List Text)
    → answered (one name) (λ rows. one_line name (first_of (codes "argument") rows)) (stage nothing_held 1 true) words ≡ one_line name (only_one words)
unfolding clap_on_literals
one_word name [] = refl
one_word name (word ∷ []) = refl
one_word name (word ∷ second ∷ words) = refl

no_word : (name : Text) (line : TableLine) (words : List Text) → answered (none name) (λ rows. Some line) (stage nothing_held 1 true) words ≡ alone line words
unfolding clap_on_literals
no_word name line [] = refl
no_word name line (word ∷ words) = refl

five_words : (words : List Text)
    → answered five (λ rows. option_map Work (load_matched rows)) (stage nothing_held 1 true) words ≡ option_map Work (load_of words)
unfolding clap_on_literals
five_words [] = refl
five_words (a ∷ []) = refl
five_words (a ∷ b ∷ []) = refl
five_words (a ∷ b ∷ c ∷ []) = refl
five_words (a ∷ b ∷ c ∷ d ∷ []) = refl
five_words (a ∷ b ∷ c ∷ d ∷ e ∷ []) = refl
five_words (a ∷ b ∷ c ∷ d ∷ e ∷ f ∷ words) = refl

by_arguments : {X : Type 0} (f g : List Text → Option X) → ((words : List Text) → f words ≡ g words) → (o : Option (List Text))
    → option_and_then f o ≡ option_and_then g o
by_arguments f g same None = refl
by_arguments f g same (Some words) = same words

module _ (words : List Text) (texts : AreTexts words) where
  abbrev fault_in : Shape → Kinds
  fault_in shape = or_else (level_fault shape [] nothing_held words false []) []

  one_answers : (name : Text) → unless (fault_in (one name)) (one_line name (first_of (codes "argument") (rows_after (one name).rules [] words)))
      ≡ option_and_then (λ (arguments : List Text). one_line name (only_one arguments)) (arguments_of words)
  one_answers name =
      taken (one name) (λ rows. one_line name (first_of (codes "argument") rows)) refl words texts ∙ by_arguments _ _ (one_word name) (arguments_of words)

  none_answers : (name : Text) (line : TableLine) → unless (fault_in (none name)) (Some line) ≡ option_and_then (alone line) (arguments_of words)
  none_answers name line = taken (none name) (λ rows. Some line) refl words texts ∙ by_arguments _ _ (no_word name line) (arguments_of words)

  format_line : clap_line (codes "format" ∷ words) ≡ line_by (codes "format") words
  unfolding clap_on_literals
  format_line = named (codes "format") words refl refl ∙ one_answers (codes "format")

  ingest_line : clap_line (codes "ingest" ∷ words) ≡ line_by (codes "ingest") words
  unfolding clap_on_literals
  ingest_line = named (codes "ingest") words refl refl ∙ one_answers (codes "ingest")

  restore_line : clap_line (codes "restore" ∷ words) ≡ line_by (codes "restore") words
  unfolding clap_on_literals
  restore_line = named (codes "restore") words refl refl ∙ one_answers (codes "restore")

  delete_line : clap_line (codes "delete" ∷ words) ≡ line_by (codes "delete") words
  unfolding clap_on_literals
  delete_line = named (codes "delete") words refl refl ∙ one_answers (codes "delete")

  collect_line : clap_line (codes "collect" ∷ words) ≡ line_by (codes "collect") words
  unfolding clap_on_literals
  collect_line = named (codes "collect") words refl refl ∙ one_answers (codes "collect")

  list_line : clap_line (codes "list" ∷ words) ≡ line_by (codes "list") words
  unfolding clap_on_literals
  list_line = named (codes "list") words refl refl ∙ none_answers (codes "list") (Single table.List)

  run_line : clap_line (codes "run" ∷ words) ≡ line_by (codes "run") words
  unfolding clap_on_literals
  run_line = named (codes "run") words refl refl ∙ none_answers (codes "run") Run

  check_line : clap_line (codes "check" ∷ words) ≡ line_by (codes "check") words
  unfolding clap_on_literals
  check_line = named (codes "check") words refl refl ∙ none_answers (codes "check") Check

  work_line : clap_line (codes "work" ∷ words) ≡ line_by (codes "work") words
  unfolding clap_on_literals
  work_line =
      named (codes "work") words refl refl ∙ taken five (λ rows. option_map Work (load_matched rows)) refl words texts
      ∙ by_arguments _ _ five_words (arguments_of words)

-- ---- words of which the first names no command

record IsNoName (word : Text) : Type 0 where
  run : (bytes_eq (codes "run") word ≡ false) × (bytes_eq word (codes "run") ≡ false)
  work : (bytes_eq (codes "work") word ≡ false) × (bytes_eq word (codes "work") ≡ false)
  check : (bytes_eq (codes "check") word ≡ false) × (bytes_eq word (codes "check") ≡ false)
  list : (bytes_eq (codes "list") word ≡ false) × (bytes_eq word (codes "list") ≡ false)
  format : (bytes_eq (codes "format") word ≡ false) × (bytes_eq word (codes "format") ≡ false)
  ingest : (bytes_eq (codes "ingest") word ≡ false) × (bytes_eq word (codes "ingest") ≡ false)
  restore : (bytes_eq (codes "restore") word ≡ false) × (bytes_eq word (codes "restore") ≡ false)
  delete : (bytes_eq (codes "delete") word ≡ false) × (bytes_eq word (codes "delete") ≡ false)
  collect : (bytes_eq (codes "collect") word ≡ false) × (bytes_eq word (codes "collect") ≡ false)

not_met : (word : Text) → IsNoName word → subcommand_met names idle word ≡ None
not_met word other =
    rw (other.format.0, other.ingest.0, other.restore.0, other.delete.0, other.collect.0, other.list.0, other.run.0, other.check.0, other.work.0) refl

no_line : (word : Text) (words : List Text) → IsNoName word → line_by word words ≡ None
no_line word words other = by (arguments_of words)
  where
    go : (argument : Option Text) → one_line word argument ≡ None
    go None = refl
    go (Some a) = rw (other.format.1, other.ingest.1, other.restore.1, other.delete.1, other.collect.1) refl

    by : (o : Option (List Text)) → option_and_then (line_with word) o ≡ None
    by None = refl
    by (Some arguments) = rw (other.run.1, other.check.1, other.list.1, other.work.1) (go (only_one arguments))

separator_first : (words : List Text) (answer : Option TableLine) → unless (fault_of table_app (codes "--" ∷ words)) answer ≡ None
unfolding clap_on_literals
separator_first [] answer = refl
separator_first (word ∷ words) answer = refl

module _ (word : Text) (words : List Text) (answer : Option TableLine) (met : subcommand_met names idle word ≡ None) (other : is_separator word ≡ false) where
  long_first : (option : Text × Option Text) → long_of word ≡ Some option → unless (fault_of table_app (word ∷ words)) answer ≡ None
  unfolding clap_on_literals
  long_first option is_long = rw (met, other, is_long) refl

  short_first : (x : ℕ) (xs : Text) (first : ℕ) → long_of word ≡ None → short_of word ≡ Some (x ∷ xs)
      → slice_get (chars (x ∷ xs)) 0 ≡ Some first → unless (fault_of table_app (word ∷ words)) answer ≡ None
  unfolding clap_on_literals
  short_first x xs first no_long is_short first_is = rw (met, other, no_long, is_short, first_is) refl

  plain_first : long_of word ≡ None → short_of word ≡ None → unless (fault_of table_app (word ∷ words)) answer ≡ None
  unfolding clap_on_literals
  plain_first no_long no_short = rw (met, other, no_long, no_short) refl

unnamed : (word : Text) (words : List Text) → Look word → IsNoName word → clap_line (word ∷ words) ≡ line_by word words
unnamed word words look other = refused look (line_matched (subcommand_of table_app (word ∷ words))) ∙ sym (no_line word words other)
  where
    refused : Look word → (answer : Option TableLine) → unless (fault_of table_app (word ∷ words)) answer ≡ None
    refused (separator is) answer = subst (λ (w : Text). unless (fault_of table_app (w ∷ words)) answer ≡ None) (sym is) (separator_first words answer)
    refused (long _ apart option is_long) answer = long_first word words answer (not_met word other) apart option is_long
    refused (short _ apart no_long x xs is_short first first_is) answer =
        short_first word words answer (not_met word other) apart x xs first no_long is_short first_is
    refused (plain _ apart no_long no_short) answer = plain_first word words answer (not_met word other) apart no_long no_short

-- ---- any words

is_name : (name word : Text) → (word ≡ name) ⊎ ((bytes_eq name word ≡ false) × (bytes_eq word name ≡ false))
is_name name word = go (bytes_eq word name) (bytes_eq name word) refl refl
  where
    go : (b d : Bool) → bytes_eq word name ≡ b → bytes_eq name word ≡ d → (word ≡ name) ⊎ ((bytes_eq name word ≡ false) × (bytes_eq word name ≡ false))
    go true d e f = inl ((bytes_eq-Decides word name).0 e)
    go false true e f = inl (sym ((bytes_eq-Decides name word).0 f))
    go false false e f = inr (f, e)

first_line : (word : Text) (words : List Text) → IsUtf8 word → AreTexts words → clap_line (word ∷ words) ≡ line_by word words
first_line word words text texts = elim (is_name (codes "run") word) [
  | inl is ↦ at_name (codes "run") is (run_line words texts)
  | inr run ↦ elim (is_name (codes "check") word) [
    | inl is ↦ at_name (codes "check") is (check_line words texts)
    | inr check ↦ elim (is_name (codes "list") word) [
      | inl is ↦ at_name (codes "list") is (list_line words texts)
      | inr list ↦ elim (is_name (codes "format") word) [
        | inl is ↦ at_name (codes "format") is (format_line words texts)
        | inr format ↦ elim (is_name (codes "ingest") word) [
          | inl is ↦ at_name (codes "ingest") is (ingest_line words texts)
          | inr ingest ↦ elim (is_name (codes "restore") word) [
            | inl is ↦ at_name (codes "restore") is (restore_line words texts)
            | inr restore ↦ elim (is_name (codes "delete") word) [
              | inl is ↦ at_name (codes "delete") is (delete_line words texts)
              | inr delete ↦ elim (is_name (codes "collect") word) [
                | inl is ↦ at_name (codes "collect") is (collect_line words texts)
                | inr collect ↦ elim (is_name (codes "work") word) [
                  | inl is ↦ at_name (codes "work") is (work_line words texts)
                  | inr work ↦ unnamed word words (look_of word text) (record {
                    run = run;
                    work = work;
                    check = check;
                    list = list;
                    format = format;
                    ingest = ingest;
                    restore = restore;
                    delete = delete;
                    collect = collect;
                  })
                ]
              ]
            ]
          ]
        ]
      ]
    ]
  ]
]
  where
    at_name : (name : Text) → word ≡ name → clap_line (name ∷ words) ≡ line_by name words → clap_line (word ∷ words) ≡ line_by word words
    at_name name is line = subst (λ (w : Text). clap_line (w ∷ words) ≡ line_by w words) (sym is) line

no_words : clap_line [] ≡ None
unfolding clap_on_literals
no_words = refl

-- clap takes the words of each line of the table and no others, and has the line's command and argument
clap_line_is : (words : List Text) → AreTexts words → clap_line words ≡ line_of words
clap_line_is [] texts = no_words
clap_line_is (word ∷ words) texts = first_line word words texts.0 texts.1

are_texts : (words : List (String Global)) → AreTexts (map string_bytes words)
are_texts [] = tt
are_texts (word ∷ words) = (IsUtf8-string_bytes word, are_texts words)

pub is_simple_table : is_simple table_app ≡ true
unfolding clap_on_literals
is_simple_table = refl

pub is_free_table : is_simple_and_free table_app ≡ true
unfolding clap_on_literals
is_free_table = refl

-- where clap took the words
pub taken_line : (words : List (String Global)) → fault_of table_app (map string_bytes words) ≡ []
    → line_matched (subcommand_of table_app (map string_bytes words)) ≡ line_of (map string_bytes words)
taken_line words taken =
    ap (λ (faults : Kinds). unless faults (line_matched (subcommand_of table_app (map string_bytes words)))) (sym taken)
    ∙ clap_line_is (map string_bytes words) (are_texts words)

-- where it refused them
pub refused_line : (words : List (String Global)) (kind : ErrorKind) → IsAmong kind (fault_of table_app (map string_bytes words))
    → None ≡ line_of (map string_bytes words)
refused_line words kind among =
    go (fault_of table_app (map string_bytes words)) among (line_matched (subcommand_of table_app (map string_bytes words)))
    ∙ clap_line_is (map string_bytes words) (are_texts words)
  where
    go : (faults : Kinds) → IsAmong kind faults → (answer : Option TableLine) → None ≡ unless faults answer
    go [] none answer = absurd none
    go (fault ∷ more) some answer = refl

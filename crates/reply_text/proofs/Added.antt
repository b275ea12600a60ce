-- Lines that are added to a text.
use Rattle.std.proofs.Common.{◌≡◌, ℕ, ◌+◌, ◌<◌, List, [], ◌∷◌, ◌++◌, codes, decimal, map, length, get_or, take, sym, ◌∙◌, ap, append_assoc, append-nil}
use Rattle.std.specs.List.{flat_map}
use Rattle.std.proofs.lemmas.Grind.{flat_map-append}
use Rattle.std.proofs.lemmas.List.{take_more, map-append}
use Rattle.std.proofs.lemmas.List.Concat.{flat_map-cons}
use Rattle.hex.specs.Hex.{encode_lower}
use Rattle.disk_format.specs.Cells.{Root}
use Rattle.namespace.specs.declared.listing.ListedName.{ListedName}
use Rattle.namespace.specs.Listing.{listed_value}
use Rattle.reply_text.specs.Text.{named_line, file_line, unique_line}

-- a word, a name and a root, added piece by piece
pub named_added : (text word name length_text level_text digits : List ℕ) (root : Root) → length_text ≡ decimal root.length → level_text ≡ decimal root.level →
    digits ≡ encode_lower root.digest
    → ((((((((text ++ word) ++ name) ++ codes " ") ++ length_text) ++ codes " ") ++ level_text) ++ codes " ") ++ digits) ++ codes "\n" ≡ text ++ named_line word name root
named_added text word name length_text level_text digits root is_length is_level is_digest = rw (is_length, is_level, is_digest) (simp append_assoc)

-- what trees have, added piece by piece
pub unique_added : (text segments_text : List ℕ) (segments bytes : ℕ) → segments_text ≡ decimal segments
    → ((text ++ codes "unique segments ") ++ segments_text) ++ (codes " bytes " ++ decimal bytes ++ codes "\n") ≡ text ++ unique_line segments bytes
unfolding unique_line
unique_added text segments_text segments bytes is_segments = rw is_segments (simp append_assoc)

-- the lines of one more name
pub files_more : (text : List ℕ) (names : List ListedName) (i : ℕ) (d : ListedName) → i < length names
    → (text ++ flat_map file_line (map listed_value (take i names))) ++ file_line (listed_value (get_or names i d)) ≡ text ++ flat_map file_line
    (map listed_value (take (i + 1) names))
files_more text names i d below =
    append_assoc text _ _ ∙ ap (λ (t : List ℕ). text ++ t) (sym (
    ap (λ (l : List ListedName). flat_map file_line (map listed_value l)) (take_more names i d below)
    ∙ ap (flat_map file_line) (map-append listed_value (take i names) (get_or names i d ∷ []))
    ∙ flat_map-append file_line (map listed_value (take i names)) (listed_value (get_or names i d) ∷ [])
    ∙ ap (λ (t : List ℕ). flat_map file_line (map listed_value (take i names)) ++ t) (flat_map-cons file_line (listed_value (get_or names i d)) [] ∙ append-nil _)))

-- What the files of a machine need, its actors and its collection, the index of a core that is at them has.
use Rattle.core_machine.proofs.Prelude.{◌≡◌, inl, inr, ℕ, suc, List, [], ◌∷◌, Option, refl, sym, ◌∙◌, subst, AllByRecursion, Contains-append_cases, PlaceMap, HeaderValue, Reader, PinMap, Root, Top, keys_there, tree_keys, HasKey, file_tree, HoldsPart, Machine, Reading, CollectionNeeds, keys_kept, values_read, of_files, none_in}
use Rattle.std.proofs.Common.{Contains}
use Rattle.std.specs.Prelude.{slice_index_or}
use Rattle.std.specs.FinMap as finite
use Rattle.actor_parts.specs.declared.part.Part as core_part
use Rattle.actor_parts.specs.declared.part.Part.TheVariants as core
use Rattle.actor_parts.specs.Parts.{part_of}
use Rattle.store_state.specs.Invariant.{IndexesFiles}
use Rattle.store_machine.specs.Forgetting as forgetting
use Rattle.store_machine.specs.Machine.{Part, Idle, Writing}
use Rattle.store_machine.specs.Needs.{IsNeeded}
use Rattle.store_machine.proofs.Swept.{in_cases}
use Rattle.core_machine.specs.Refines as refines
use Rattle.store_machine.proofs.Reached.{needs_reach}

-- ---- the parts of actors

abbrev FilePart : Type 0
FilePart = Part (List ℕ) (List (List ℕ))

abbrev RootPart : Type 0
RootPart = Part Root (List Top)

-- a part of the machine, and that of the core
abbrev pub PartsFit : FilePart → core_part.Part → Type 0
PartsFit Idle core.Idle = Unit {0}
PartsFit (Writing pins) (core.Writing others) = others ≡ pins
PartsFit (Reading file rest) (core.Reading reader) = Unit {0}
PartsFit part other = ⊥

abbrev pub AllFit : List FilePart → List core_part.Part → Type 0
AllFit [] [] = Unit {0}
AllFit (p ∷ ps) (q ∷ qs) = PartsFit p q × AllFit ps qs
AllFit ps qs = ⊥

part_fits : (p : FilePart) (r : RootPart) (q : core_part.Part) → forgetting.SamePart p r → refines.SamePart r q → PartsFit p q
part_fits Idle Idle core.Idle one other = tt
part_fits Idle (Writing pins) q one other = absurd one
part_fits Idle (Reading root tops) q one other = absurd one
part_fits (Writing pins) Idle q one other = absurd one
part_fits (Writing pins) (Writing mine) (core.Writing others) one other = other ∙ one
part_fits (Writing pins) (Reading root tops) q one other = absurd one
part_fits (Reading file rest) Idle q one other = absurd one
part_fits (Reading file rest) (Writing pins) q one other = absurd one
part_fits (Reading file rest) (Reading root tops) (core.Reading reader) one other = tt
part_fits it more third one other = absurd other

pub all_fit : (ps : List FilePart) (rs : List RootPart) (qs : List core_part.Part) → forgetting.SameParts ps rs → refines.SameParts rs qs → AllFit ps qs
all_fit [] [] [] one other = tt
all_fit [] [] (q ∷ qs) one other = absurd other
all_fit [] (r ∷ rs) qs one other = absurd one
all_fit (p ∷ ps) [] qs one other = absurd one
all_fit (p ∷ ps) (r ∷ rs) [] one other = absurd other
all_fit (p ∷ ps) (r ∷ rs) (q ∷ qs) one other = (part_fits p r q one.0 other.0, all_fit ps rs qs one.1 other.1)

-- ---- what actors need

part_at : (p : core_part.Part) (ps : List core_part.Part) (i : ℕ) → part_of (p ∷ ps) (suc i) ≡ part_of ps i
unfolding part_of
part_at p ps i = refl

part_first : (p : core_part.Part) (ps : List core_part.Part) → part_of (p ∷ ps) 0 ≡ p
unfolding part_of
part_first p ps = refl

-- of what each actor reads Q holds
abbrev pub ReadsSo : (List ℕ → Type 0) → List FilePart → List core_part.Part → Type 0
ReadsSo Q ps qs = (actor : ℕ) (file : List ℕ) (rest : List (List ℕ)) (reader : Reader) → slice_index_or ps actor Idle ≡ Reading file rest
    → part_of qs actor ≡ core.Reading reader → Q file

module _ (index : PlaceMap) (held : List (Option HeaderValue)) (image : List ℕ) where
  abbrev Held : List core_part.Part → Type 0
  Held qs = AllByRecursion (HoldsPart (HasKey index) held image) qs

  kept_has : (ps : List FilePart) (qs : List core_part.Part) → AllFit ps qs → Held qs → (key : List ℕ) → Contains (keys_kept ps) key → HasKey index key
  kept_has [] qs fit held_is key is = absurd (none_in key is)
  kept_has (p ∷ ps) [] fit held_is key is = absurd fit
  kept_has (Idle ∷ ps) (q ∷ qs) fit held_is key is = kept_has ps qs fit.1 held_is.1 key is
  kept_has (Reading file rest ∷ ps) (q ∷ qs) fit held_is key is = kept_has ps qs fit.1 held_is.1 key is
  kept_has (Writing pins ∷ ps) (core.Idle ∷ qs) fit held_is key is = absurd fit.0
  kept_has (Writing pins ∷ ps) (core.Reading reader ∷ qs) fit held_is key is = absurd fit.0
  kept_has (Writing pins ∷ ps) (core.Writing others ∷ qs) fit held_is key is = elim (Contains-append_cases (finite.keys pins) (keys_kept ps) key is) [
    | inl here ↦ (
        let pin = (keys_there others key).0 (subst (λ (m : PinMap). Contains (finite.keys m) key) (sym fit.0) here) in
        (held_is.0 key pin.0 pin.1).counts
        )
    | inr later ↦ kept_has ps qs fit.1 held_is.1 key later
  ]

later_so : (Q : List ℕ → Type 0) (p : FilePart) (ps : List FilePart) (q : core_part.Part) (qs : List core_part.Part) → ReadsSo Q (p ∷ ps) (q ∷ qs) → ReadsSo Q ps qs
later_so Q p ps q qs reads actor file rest reader at of = reads (suc actor) file rest reader at (part_at q qs actor ∙ of)

-- one of the values that are read is read by an actor
read_so : (Q : List ℕ → Type 0) (ps : List FilePart) (qs : List core_part.Part) → AllFit ps qs → ReadsSo Q ps qs → (value : List ℕ) → Contains (values_read ps) value → Q value
read_so Q [] qs fit reads value is = absurd (none_in value is)
read_so Q (p ∷ ps) [] fit reads value is = absurd fit
read_so Q (Idle ∷ ps) (q ∷ qs) fit reads value is = read_so Q ps qs fit.1 (later_so Q Idle ps q qs reads) value is
read_so Q (Writing pins ∷ ps) (q ∷ qs) fit reads value is = read_so Q ps qs fit.1 (later_so Q (Writing pins) ps q qs reads) value is
read_so Q (Reading file rest ∷ ps) (core.Idle ∷ qs) fit reads value is = absurd fit.0
read_so Q (Reading file rest ∷ ps) (core.Writing pins ∷ qs) fit reads value is = absurd fit.0
read_so Q (Reading file rest ∷ ps) (core.Reading reader ∷ qs) fit reads value is = elim (in_cases file (values_read ps) value is) [
  | inl same ↦ subst Q same (reads 0 file rest reader refl (part_first (core.Reading reader) qs))
  | inr later ↦ read_so Q ps qs fit.1 (later_so Q (Reading file rest) ps (core.Reading reader) qs reads) value later
]

-- ---- all that is needed

-- the index has each key of the file
abbrev pub IsIndexedFile : PlaceMap → List ℕ → Type 0
IsIndexedFile index file = (key : List ℕ) → Contains (tree_keys (file_tree file)) key → HasKey index key

pub needed_has : (index : PlaceMap) (held : List (Option HeaderValue)) (image : List ℕ) (m : Machine (List ℕ) (List (List ℕ))) (qs : List core_part.Part)
    → IndexesFiles index m.now.names → AllFit m.parts qs → AllByRecursion (HoldsPart (HasKey index) held image) qs → ReadsSo (IsIndexedFile index) m.parts qs
    → ((key : List ℕ) → CollectionNeeds of_files m.collection key → HasKey index key) → (key : List ℕ) → IsNeeded of_files m key → HasKey index key
needed_has index held image m qs files fit holds reads since key (inl names) = files key (needs_reach m.now key names)
needed_has index held image m qs files fit holds reads since key (inr (inl (inl kept))) = kept_has index held image m.parts qs fit holds key kept
needed_has index held image m qs files fit holds reads since key (inr (inl (inr read))) = read_so (IsIndexedFile index) m.parts qs fit reads read.0 read.1.0 key read.1.1
needed_has index held image m qs files fit holds reads since key (inr (inr needed)) = since key needed

-- By what a step is refused that is asked for by one who is at what it takes, of a name that is there, or of a collection that runs.
use Rattle.std.proofs.Common.{◌≡◌, ◌≤◌, ◌<◌, ℕ, true, false, List, [], ◌∷◌, is_some, Option, Some, None, ◌∙◌, arith}
use Rattle.std.specs.FinMap as finite
use Rattle.container_meta.specs.Segments.{Contents, KindSegment}
use Rattle.disk_format.specs.Cells.{IsName}
use Rattle.disk_format.specs.declared.numbers.TheConstants.{MOST_NAMES}
use Rattle.refusals.specs.declared.refusal.PartKind.{PartKind}
use Rattle.refusals.specs.declared.refusal.Refusal.{Refusal}
use Rattle.refusals.specs.declared.refusal.Refusal.TheVariants as refusals
use Rattle.store_machine.specs.Asked.{Asked}
use Rattle.store_machine.specs.Asked as asked
use Rattle.store_machine.specs.ByMap.{FileMachine}
use Rattle.store_machine.specs.Collecting.{IsCollecting}
use Rattle.store_machine.specs.Legal.{HasName, Refuses, RefusesClaim, RefusesCommit, RefusesDelete, RefusesGcStep, RefusesOn, RefusesSeal, RefusesUnique, taken_by}
use Rattle.store_machine.specs.Machine.{Collection, kind_of, part_in}
use Rattle.store_machine.specs.Values.{StaysAt, of_files}
use Rattle.shared_work.specs.Complete.{MayRefuse}

-- what a step takes, if it takes anything, is this
abbrev pub Suits : Option PartKind → PartKind → Type 0
Suits None kind = Unit {0}
Suits (Some taken) kind = kind ≡ taken

-- names are right, and there where they have to be, or one more has room; and a collection runs where it is to go on, and none where one begins
abbrev pub IsSure : FileMachine → Asked (List ℕ) → Type 0
IsSure m (asked.Commit name value) = IsName name × (finite.get m.now.names name ≡ None → finite.len m.now.names < MOST_NAMES)
IsSure m (asked.OpenRead name) = IsName name × HasName of_files name m
IsSure m (asked.Delete name) = IsName name × HasName of_files name m
IsSure m (asked.GcStart percent) = is_some m.collection ≡ false
IsSure m asked.GcStep = is_some m.collection ≡ true
IsSure m asked.Reopen = ⊥
IsSure m step = Unit {0}

-- ---- one row after the other

some_none : {T : Type 0} (o : Option T) → is_some o ≡ true → o ≡ None → ⊥
some_none None some none = absurd (cc)
some_none (Some x) some none = absurd (cc)

none_some : {T : Type 0} (o : Option T) → is_some o ≡ false → (x : T) → o ≡ Some x → ⊥
none_some None some x is = absurd (cc)
none_some (Some y) some x is = absurd (cc)

-- no name is missing, bad, or one too many
no_file : (m : FileMachine) (name : List ℕ) → HasName of_files name m → finite.get m.now.names name ≡ None → ⊥
no_file m name has none = some_none (finite.get m.now.names name) has none

no_room : (m : FileMachine) (name : List ℕ) → (finite.get m.now.names name ≡ None → finite.len m.now.names < MOST_NAMES) → finite.get m.now.names name ≡ None
    → MOST_NAMES ≤ finite.len m.now.names → ⊥
no_room m name room none many = let few = room none in omega (arith, few, many)

-- who is at what the step takes is not at another thing
pub no_other : (taken : Option PartKind) (kind : PartKind) → Suits taken kind → (t : PartKind) → taken ≡ Some t → (kind ≡ t → ⊥) → ⊥
no_other None kind suits t is differ = absurd (let wrong : ◌≡◌ {A = Option PartKind} None (Some t) = is in cc)
no_other (Some taken) kind suits t is differ = differ (suits ∙ same)
  where
    same : taken ≡ t
    same = cc

-- what is read is held
reads_may : (rest after : List (List ℕ)) (refusal : Refusal) → StaysAt rest refusal after → MayRefuse refusal
reads_may [] after refusal stays = absurd stays
reads_may (bytes ∷ rest) after refusals.DiskRead stays = tt
reads_may (bytes ∷ rest) after refusal stays = absurd stays

module _ (a : ℕ) (m n : FileMachine) where
  claim_may : (seg : KindSegment) (refusal : Refusal) → RefusesClaim of_files a seg refusal m n → MayRefuse refusal
  claim_may seg (refusals.Unpinned key) is = tt
  claim_may seg refusals.Memory is = tt
  claim_may seg refusals.DiskRead is = tt
  claim_may seg (refusals.Clash key at) is = tt
  claim_may seg (refusals.Corrupt slot offset count want got) (keeps, (unknown, others)) = absurd (unknown tt)
  claim_may seg refusal is = absurd is

  seal_may : (offered : List Contents) (refusal : Refusal) → RefusesSeal of_files a offered refusal m n → MayRefuse refusal
  seal_may offered refusals.Memory is = tt
  seal_may offered (refusals.Unpinned key) is = tt
  seal_may offered (refusals.Full free) (keeps, is, few, others) = few
  seal_may offered refusals.Numbers is = tt
  seal_may offered refusals.DiskRead is = tt
  seal_may offered (refusals.Clash key at) is = tt
  seal_may offered (refusals.Corrupt slot offset count want got) (has, (unknown, others)) = absurd (unknown tt)
  seal_may offered refusals.DiskWrite is = tt
  seal_may offered refusal is = absurd is

  commit_may : (name value : List ℕ) (refusal : Refusal) → IsSure m (asked.Commit name value) → RefusesCommit of_files a name value refusal m n → MayRefuse refusal
  commit_may name value refusals.Memory sure is = tt
  commit_may name value refusals.BadName sure (bad, others) = absurd (bad sure.0)
  commit_may name value refusals.TooMany sure (named, none, many, others) = absurd (no_room m name sure.1 none many)
  commit_may name value (refusals.Unpinned key) sure is = tt
  commit_may name value refusals.Numbers sure is = tt
  commit_may name value refusals.DiskWrite sure is = tt
  commit_may name value refusal sure is = absurd is

  delete_may : (name : List ℕ) (refusal : Refusal) → IsSure m (asked.Delete name) → RefusesDelete of_files name refusal m n → MayRefuse refusal
  delete_may name refusals.Memory sure is = tt
  delete_may name refusals.BadName sure (bad, others) = absurd (bad sure.0)
  delete_may name refusals.NoFile sure (named, none, others) = absurd (no_file m name sure.1 none)
  delete_may name refusals.Numbers sure is = tt
  delete_may name refusals.DiskWrite sure is = tt
  delete_may name refusal sure is = absurd is

  open_may : (name : List ℕ) (refusal : Refusal) → IsSure m (asked.OpenRead name) → RefusesOn of_files a (asked.OpenRead name) refusal m n → MayRefuse refusal
  open_may name refusals.Memory sure is = tt
  open_may name refusals.BadName sure (bad, others) = absurd (bad sure.0)
  open_may name refusals.NoFile sure (named, none, others) = absurd (no_file m name sure.1 none)
  open_may name refusal sure is = absurd is

  start_may : (percent : ℕ) (refusal : Refusal) → IsSure m (asked.GcStart percent) → RefusesOn of_files a (asked.GcStart percent) refusal m n → MayRefuse refusal
  start_may percent refusals.Memory sure is = tt
  start_may percent (refusals.Missing key) sure (none, (unknown, others)) = absurd (unknown tt)
  start_may percent (refusals.Damaged at why) sure (none, (unknown, others)) = absurd (unknown tt)
  start_may percent (refusals.Collecting phase) sure (is, others) = absurd (runs m.collection sure is)
    where
      runs : (o : Option (Collection (List ℕ))) → is_some o ≡ false → IsCollecting phase m.store o → ⊥
      runs None none is = is
      runs (Some c) none is = absurd (cc)
  start_may percent refusal sure is = absurd is

  collect_may : (refusal : Refusal) → IsSure m asked.GcStep → RefusesGcStep of_files refusal m n → MayRefuse refusal
  collect_may refusals.NotCollecting sure (none, others) = absurd (some_none m.collection sure none)
  collect_may refusals.Memory sure is = tt
  collect_may refusals.Numbers sure is = tt
  collect_may refusals.DiskRead sure is = tt
  collect_may refusals.DiskWrite sure is = tt
  collect_may (refusals.Corrupt slot offset count want got) sure (is, (unknown, others)) = absurd (unknown tt)
  collect_may (refusals.Missing key) sure (is, (unknown, others)) = absurd (unknown tt)
  collect_may (refusals.Damaged at why) sure (is, (unknown, others)) = absurd (unknown tt)
  collect_may refusal sure is = absurd is

  unique_may : (refusal : Refusal) → RefusesUnique of_files refusal m n → MayRefuse refusal
  unique_may refusals.Memory is = tt
  unique_may refusals.DiskRead is = tt
  unique_may (refusals.Corrupt slot offset count want got) (unknown, others) = absurd (unknown tt)
  unique_may (refusals.Missing key) (unknown, others) = absurd (unknown tt)
  unique_may (refusals.Damaged at why) (unknown, others) = absurd (unknown tt)
  unique_may refusal is = absurd is

  list_may : (refusal : Refusal) → RefusesOn of_files a asked.ListNames refusal m n → MayRefuse refusal
  list_may refusals.Memory is = tt
  list_may refusal is = absurd is

  on_may : (step : Asked (List ℕ)) (refusal : Refusal) → IsSure m step → RefusesOn of_files a step refusal m n → MayRefuse refusal
  on_may (asked.Claim seg) refusal sure is = claim_may seg refusal is
  on_may (asked.Seal offered) refusal sure is = seal_may offered refusal is
  on_may (asked.Commit name value) refusal sure is = commit_may name value refusal sure is
  on_may (asked.OpenRead name) refusal sure is = open_may name refusal sure is
  on_may asked.ReadNext refusal sure (value, rest, after, was, stays, others) = reads_may rest after refusal stays
  on_may (asked.Delete name) refusal sure is = delete_may name refusal sure is
  on_may asked.ListNames refusal sure is = list_may refusal is
  on_may (asked.GcStart percent) refusal sure is = start_may percent refusal sure is
  on_may asked.GcStep refusal sure is = collect_may refusal sure is
  on_may asked.Unique refusal sure is = unique_may refusal is
  on_may step refusal sure is = absurd is

  -- ---- any step

  pub refused_may : (step : Asked (List ℕ)) (refusal : Refusal) → Suits (taken_by step) (kind_of (part_in m a)) → IsSure m step → Refuses of_files a step refusal m n
      → MayRefuse refusal
  refused_may step (refusals.WrongPart kind) suits sure ((is, (t, takes, differ)), others) =
      absurd (no_other (taken_by step) (kind_of (part_in m a)) suits t takes (λ same. differ (is ∙ same)))
  refused_may step refusals.Memory suits sure is = tt
  refused_may step refusal suits sure (right, is) = on_may step refusal sure is

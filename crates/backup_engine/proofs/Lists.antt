-- What holds of calls one after the other, from what each keeps of the map that it finds.
use Rattle.backup_engine.proofs.Prelude.{DoesCommand, ◌≡◌, ◌⊎◌, inl, inr, ℕ, zero, suc, ◌+◌, List, [], ◌∷◌, ◌++◌, Option, Some, None, refl, sym, ◌∙◌, subst, arith, AllByRecursion, KnownWith, DiskView, IsDurable, OnlyReads, Refusal, Memory, NoFile, BadName, TooLong, Full, Clash, WrongPart, DiskRead, DiskWrite, Corrupt, Missing, Numbers, NotAStore, Version, Damaged, AlreadyStore, WrongSize, Words, Sink, Script, Refused, HasNoCollisions, ByteSet, IsIn, IsOf, OpensAs, Stored, Store, Replied, Found, IsOfFound, MayStand, stored_in, Formats, CommandLine, Format, Ingest, Restore, Collect, TableLine, Single, Work, alone_line, Check, RefusedByFiles, RunsByFiles, status_by, SinceStart, Does, Promise, Call}
use Rattle.std.proofs.Common.{replicate}
use Rattle.refusals.specs.declared.refusal.Refusal.TheVariants.{TooMany, Collecting, NotCollecting, Stopped, Unpinned, NoActor, NotEmpty}
use Rattle.reply_text.specs.declared.ending.Ending.{Ending}
use Rattle.reply_text.specs.declared.ending.Ending.TheVariants.{Source, Line}
use Rattle.reply_text.specs.Table.{status_of_refusal}
use Rattle.store_model.specs.Collisions.{AreAmong}
use Rattle.store_model.specs.Files.{no_files}
use Rattle.store_model.specs.Image.{empty_store}
use Rattle.store_model.specs.Standing.{IsFormatted}
use Rattle.backup_engine.specs.Line.{Delete, Run}
use Rattle.backup_engine.specs.Line as table
use Rattle.backup_engine.specs.Promise.{Stands}
use Rattle.backup_engine.specs.Lists.{AnswersBy, KeepsAs, KeepsCall, seen_by, CallRun, IsGivenAmong, IsPromised, BeginsOfMap, MayLead, MayPass, LeadsTo, Passed, Possible, RunsByTheMap, RunsFromMap, StandsEmpty, FormatBegins, LeavesPossible, AnswersByTheMap, SurvivesACrash}
use Rattle.backup_engine.specs.AnswersByMap.{AnswersByMap, AnswersEachCall, BeginsBy, IsAfter, LeavesBy, rest, rested}
use Rattle.core_machine.specs.FileOpenings.{LeavesFound}
use Rattle.script_lines.specs.ReplyValue.{ReplyValue}
use Rattle.script_lines.specs.ReplyValue as replies
use Rattle.backup_engine.proofs.AnswersByMap.{stays_after}
use Rattle.backup_engine.proofs.ListScripts.{no_lines, opens_found, passes_of, refused_leads, script_leads}
use Rattle.backup_engine.proofs.ListsFormat.{formats_nothing}
use Rattle.backup_engine.proofs.Reading.{same_reads, since_start}
use Rattle.backup_engine.specs.Seen.{devices, disk_and_sink}

-- ---- one call

-- a promise is what the call keeps, with the ending and the bytes that it names
pub promised : (D : Type 0) (view : D → DiskView) → IsPromised D view
promised D view c old new alone promise = go c.line alone promise
  where
    go : (line : Option TableLine) → alone_line line ≡ line → Promise D view line c.status (seen_by c (view old) (view new))
        → (ending : Option Ending) × ((given : List ℕ) × ((rs : List Replied)
        × KeepsAs D view line (record c { ending = ending; given = given; rs = rs }) (view old) (view new)))
    go None alone promise = promise
    go (Some (Single command)) alone promise = promise
    go (Some Run) alone promise = promise
    go (Some Check) alone promise = (c.ending, (c.given, (c.rs, promise)))
    go (Some (Work load)) alone promise = absurd (let wrong : ◌≡◌ {A = Option TableLine} None (Some (Work load)) = alone in cc)

-- the image can be opened as a map that has P
abbrev pub OfSome : (List ℕ → Type 0) → (Stored → Type 0) → List ℕ → Type 0
OfSome S P image = (next : Stored) × (P next × OpensAs S next image)

-- nothing was written, and images of before may last
record Stays (v w : DiskView) : Type 0 where
  content : w.content ≡ v.content
  images : (image : List ℕ) → SinceStart v w image → v.images image

read_stays : (v w : DiskView) → OnlyReads v w → Stays v w
read_stays v w reads = record { content = reads.content_is; images = λ image since. since_start v w reads image since }

-- what a call does to a map that it finds
abbrev Answers : Option TableLine → (List ℕ → Type 0) → Call → Stored → DiskView → DiskView → Type 0
Answers (Some (Single (Format slots))) S c m v w = Stays v w
Answers (Some (Single command)) S c m v w = (store : Store) × AnswersByMap S command c.given c.rs c.ending (rested m store) (disk_and_sink v c.sink) (disk_and_sink w c.sink_now)
Answers (Some Run) S c m v w = (store : Store) × (RunsByFiles S c.rs (rested m store) v w ⊎ RefusedByFiles S c.ending c.rs (rested m store) v w)
Answers line S c m v w = Stays v w

-- the maps after a call, from those that have P
abbrev After : (Stored → Type 0) → Option TableLine → Call → Stored → Type 0
After P line c next = (m : Stored) × (P m × MayLead line c m next)

-- those of a command
abbrev AfterOne : (Stored → Type 0) → CommandLine → Call → Stored → Type 0
AfterOne P command c next = (m : Stored) × (P m × IsAfter command c.given c.ending (rest m) (rest next))

-- a command that was refused may leave each map as it was
refused_stays : (command : CommandLine) (given : List ℕ) (ending : Option Ending) (refusal : Refusal) → ending ≡ Some (Refused refusal) → (m : Stored)
    → IsAfter command given ending (rest m) (rest m)
refused_stays command given ending refusal is m =
    subst (λ (e : Option Ending). IsAfter command given e (rest m) (rest m)) (sym is) (stays_after command given refusal (rest m) (rest m) refl)

module _ (S : List ℕ → Type 0) (P : Stored → Type 0) (c : Call) (m : Stored) (v w : DiskView) (has : P m) (stands : Stands (OfSome S P) v) where
  -- lines of a machine that was opened
  module _ (store : Store) (runs : RunsByFiles S c.rs (rested m store) v w) where
    ran_leads : (d : List ℕ) → MayStand S runs.next.machine d → OfSome S (After P (Some Run) c) d
    ran_leads d may = let led = script_leads S c.rs m store v w runs d may in (led.0, ((m, (has, led.1.0)), led.1.1))

    ran_stands : Stands (OfSome S (After P (Some Run) c)) w
    ran_stands = ((runs.stands.content.0, runs.stands.content.1, ran_leads runs.stands.content.0 runs.stands.content.2), λ d is. ran_leads d (runs.stands.images d is))

    ran_crash : (d : List ℕ) → SinceStart v w d → OfSome S P d ⊎ OfSome S (MayPass (Some Run) c m) d
    ran_crash d (inl is) = inr (passes_of S c.rs m store v w runs d (runs.crash.now d is))
    ran_crash d (inr since) = elim (runs.crash.since v.clock d (omega arith) since.1) [
      | inl was ↦ inl (stands.1 d (v.only_now d since.0 was))
      | inr passed ↦ inr (passes_of S c.rs m store v w runs d passed)
    ]

  -- what might be found before is the map
  found_before : (store : Store) (d : List ℕ) → v.images d ⊎ IsOfFound S (rested m store) d → OfSome S P d
  found_before store d (inl was) = stands.1 d was
  found_before store d (inr found) = (m, (has, subst (λ (x : Found (List ℕ)). OpensAs S (stored_in x) d) found.1 found.2))

  unopened_crash : (store : Store) → LeavesFound S (rested m store) v w → (d : List ℕ) → SinceStart v w d → OfSome S P d
  unopened_crash store crash d (inl is) = found_before store d (crash.now d is)
  unopened_crash store crash d (inr since) = elim (crash.since v.clock d (omega arith) since.1) [
    | inl was ↦ stands.1 d (v.only_now d since.0 was)
    | inr same ↦ found_before store d same
  ]

  -- or of one that was not
  module _ (store : Store) (none : RefusedByFiles S c.ending c.rs (rested m store) v w) where
    none_leads : (d : List ℕ) → MayStand S none.next d → OfSome S (After P (Some Run) c) d
    none_leads d may = let led = refused_leads S c.ending c.rs m store v w none d may in (led.0, ((m, (has, led.1.0)), led.1.1))

    none_before : (d : List ℕ) → OfSome S P d → OfSome S (After P (Some Run) c) d
    none_before d (next, (was, opens)) = (next, ((next, (was, no_lines S c.rs next d opens none.none)), opens))

    none_stands : Stands (OfSome S (After P (Some Run) c)) w
    none_stands = (
      (none.leaves.content.0, none.leaves.content.1, none_leads none.leaves.content.0 none.leaves.content.2),
      λ d is. elim (none.leaves.images d is) [ inl was ↦ none_before d (stands.1 d was) | inr may ↦ none_leads d may ],
    )

  script_leaves : Answers (Some Run) S c m v w → Stands (OfSome S (After P (Some Run) c)) w
  script_leaves (store, inl runs) = ran_stands store runs
  script_leaves (store, inr none) = none_stands store none

  script_crash : Answers (Some Run) S c m v w → (d : List ℕ) → SinceStart v w d → OfSome S P d ⊎ OfSome S (MayPass (Some Run) c m) d
  script_crash (store, inl runs) d since = ran_crash store runs d since
  script_crash (store, inr none) d since = inl (unopened_crash store none.crash d since)

  -- a command
  module _ (command : CommandLine) (store : Store) (is : AnswersByMap S command c.given c.rs c.ending (rested m store) (disk_and_sink v c.sink) (disk_and_sink w c.sink_now)) where
    may_after : (d : List ℕ) → MayStand S is.next d → OfSome S (AfterOne P command c) d
    may_after d may = (stored_in may.found, ((m, (has, is.found may.found may.may)), opens_found S is.next d may))

    of_after : (d : List ℕ) → IsOfFound S (rested m store) d ⊎ IsOfFound S is.next d
        → OfSome S P d ⊎ OfSome S (λ x. IsAfter command c.given c.ending (rest m) (rest x)) d
    of_after d (inl before) = inl (found_before store d (inr before))
    of_after d (inr found) = inr (stored_in found.0, (is.found found.0 found.1, found.2))

    still : (refusal : Refusal) → c.ending ≡ Some (Refused refusal) → (d : List ℕ) → OfSome S P d → OfSome S (AfterOne P command c) d
    still refusal ended d (next, (was, opens)) = (next, ((next, (was, refused_stays command c.given c.ending refusal ended next)), opens))

    command_leaves : Stands (OfSome S (AfterOne P command c)) w
    command_leaves = by is.first is.begins is.left
      where
        by : (first : ReplyValue) → BeginsBy first c.rs c.ending → LeavesBy first S (rested m store) is.next v w → Stands (OfSome S (AfterOne P command c)) w
        by (replies.Opened files) begins (left, crash) =
            ((left.content.0, left.content.1, may_after left.content.0 left.content.2), λ d image. may_after d (left.images d image))
        by (replies.Refused refusal) begins (left, crash) = (
          (left.content.0, left.content.1, may_after left.content.0 left.content.2),
          λ d image. elim (left.images d image) [ inl was ↦ still refusal begins.1 d (stands.1 d was) | inr may ↦ may_after d may ],
        )
        by first begins left = absurd begins

    command_crash : (d : List ℕ) → SinceStart v w d → OfSome S P d ⊎ OfSome S (λ x. IsAfter command c.given c.ending (rest m) (rest x)) d
    command_crash d since = by is.first is.begins is.left since
      where
        by : (first : ReplyValue) → BeginsBy first c.rs c.ending → LeavesBy first S (rested m store) is.next v w → SinceStart v w d
            → OfSome S P d ⊎ OfSome S (λ x. IsAfter command c.given c.ending (rest m) (rest x)) d
        by (replies.Opened files) begins (left, crash) (inl now) = of_after d (crash.now d now)
        by (replies.Opened files) begins (left, crash) (inr since) = elim (crash.since v.clock d (omega arith) since.1) [
          | inl was ↦ inl (stands.1 d (v.only_now d since.0 was))
          | inr found ↦ of_after d found
        ]
        by (replies.Refused refusal) begins (left, crash) since = inl (unopened_crash store crash d since)
        by first begins left since = absurd begins

  same_leads : (line : Option TableLine) → ((next : Stored) → MayLead line c next next) → Stays v w → Stands (OfSome S (After P line c)) w
  same_leads line same stays = ((stands.0.0, stays.content ∙ stands.0.1, by stands.0.0 stands.0.2), λ d is. by d (stands.1 d (stays.images d (inl is))))
    where
      by : (image : List ℕ) → OfSome S P image → OfSome S (After P line c) image
      by image (next, (was, of)) = (next, ((next, (was, same next)), of))

  -- what it leaves
  leaves : (line : Option TableLine) → Answers line S c m v w → Stands (OfSome S (After P line c)) w
  leaves None stays = same_leads None (λ next. refl) stays
  leaves (Some Check) stays = same_leads (Some Check) (λ next. refl) stays
  leaves (Some (Work load)) stays = same_leads (Some (Work load)) (λ next. refl) stays
  leaves (Some Run) runs = script_leaves runs
  leaves (Some (Single (Format slots))) stays = same_leads (Some (Single (Format slots))) (λ next. refl) stays
  leaves (Some (Single (Ingest name))) (store, is) = command_leaves (Ingest name) store is
  leaves (Some (Single (Restore name))) (store, is) = command_leaves (Restore name) store is
  leaves (Some (Single (Delete name))) (store, is) = command_leaves (Delete name) store is
  leaves (Some (Single table.List)) (store, is) = command_leaves table.List store is
  leaves (Some (Single (Collect percent))) (store, is) = command_leaves (Collect percent) store is

  -- and what a crash since it began leaves
  crash_leaves : (line : Option TableLine) → Answers line S c m v w → (image : List ℕ) → SinceStart v w image → OfSome S P image ⊎ OfSome S (MayPass line c m) image
  crash_leaves None stays image since = inl (stands.1 image (stays.images image since))
  crash_leaves (Some Check) stays image since = inl (stands.1 image (stays.images image since))
  crash_leaves (Some (Work load)) stays image since = inl (stands.1 image (stays.images image since))
  crash_leaves (Some Run) runs image since = script_crash runs image since
  crash_leaves (Some (Single (Format slots))) stays image since = inl (stands.1 image (stays.images image since))
  crash_leaves (Some (Single (Ingest name))) (store, is) image since = command_crash (Ingest name) store is image since
  crash_leaves (Some (Single (Restore name))) (store, is) image since = command_crash (Restore name) store is image since
  crash_leaves (Some (Single (Delete name))) (store, is) image since = command_crash (Delete name) store is image since
  crash_leaves (Some (Single table.List)) (store, is) image since = command_crash table.List store is image since
  crash_leaves (Some (Single (Collect percent))) (store, is) image since = command_crash (Collect percent) store is image since

-- ---- calls, one after the other

-- the maps after calls, from those that have P
abbrev AfterAll : (Stored → Type 0) → List Call → Stored → Type 0
AfterAll P calls next = (m : Stored) × (P m × LeadsTo calls m next)

weaker : (S : List ℕ → Type 0) (P Q : Stored → Type 0) (v : DiskView) → ((m : Stored) → P m → Q m) → Stands (OfSome S P) v → Stands (OfSome S Q) v
weaker S P Q v goes ((image, told, (next, (has, of))), each) =
    ((image, told, (next, (goes next has, of))), λ d is. let one = each d is in (one.0, (goes one.0 one.1.0, one.1.1)))

given_before : (among : ByteSet) (calls : List Call) (last : Call) → AllByRecursion (IsGivenAmong among) (calls ++ last ∷ []) → AllByRecursion (IsGivenAmong among) calls
given_before among [] last given = tt
given_before among (c ∷ cs) last given = (given.0, given_before among cs last given.1)

given_last : (among : ByteSet) (calls : List Call) (last : Call) → AllByRecursion (IsGivenAmong among) (calls ++ last ∷ []) → IsGivenAmong among last
given_last among [] last given = given.0
given_last among (c ∷ cs) last given = given_last among cs last given.1

-- the content may be that of the machine at rest which has the map
rested_stands : (S : List ℕ → Type 0) (m : Stored) (image : List ℕ) (opens : OpensAs S m image) → MayStand S (rested m opens.store) image
rested_stands S m image opens = record {
  found = record { names = m.files; last = m.last };
  may = refl;
  store = opens.store;
  stands = refl;
  is = opens.stands;
  opens = opens.opens;
  last_is = opens.last_is;
}

-- each command answers by the map
pub record ByTheMap (D : Type 0) (view : D → DiskView) : Type 0 where
  pub list : AnswersEachCall D view table.List
  pub restore : (name : List ℕ) → AnswersEachCall D view (Restore name)
  pub delete : (name : List ℕ) → AnswersEachCall D view (Delete name)
  pub ingest : (name : List ℕ) → AnswersEachCall D view (Ingest name)
  pub collect : (percent : ℕ) → AnswersEachCall D view (Collect percent)

pub by_the_map : (D : Type 0) (view : D → DiskView) → AnswersEachCall D view table.List → ((name : List ℕ) → AnswersEachCall D view (Restore name))
    → ((name : List ℕ) → AnswersEachCall D view (Delete name)) → ((name : List ℕ) → AnswersEachCall D view (Ingest name))
    → ((percent : ℕ) → AnswersEachCall D view (Collect percent)) → ByTheMap D view
by_the_map D view list restore delete ingest collect = record { list = list; restore = restore; delete = delete; ingest = ingest; collect = collect }

module _ (D : Type 0) (view : D → DiskView) (laws : ByTheMap D view) (among : ByteSet) (apart : HasNoCollisions (IsIn among)) where
  -- from the machine at rest that the content stands for
  module _ (c : Call) (m : Stored) (v w : D) (image : List ℕ) (given : IsGivenAmong among c) (told : (view v).content ≡ Some image) (opens : OpensAs (IsIn among) m image) where
    abbrev At : KnownWith (view v).content (MayStand (IsIn among) (rested m opens.store))
    At = (image, told, rested_stands (IsIn among) m image opens)

    law_at : (command : CommandLine) → AnswersEachCall D view command
        → DoesCommand D view command c.given c.rs c.ending (devices (view v) (view w) c.source c.source_now c.sink c.sink_now)
        → AnswersByMap (IsIn among) command c.given c.rs c.ending (rested m opens.store) (disk_and_sink (view v) c.sink) (disk_and_sink (view w) c.sink_now)
    law_at command law does =
        law c.given c.rs c.ending v w c.source c.source_now c.sink c.sink_now does among (rested m opens.store) apart given.given refl At

    answers_line : (line : Option TableLine) → KeepsAs D view line c (view v) (view w) → Answers line (IsIn among) c m (view v) (view w)
    answers_line None keeps = read_stays (view v) (view w) (same_reads (view v) (view w) keeps.does.disk_is)
    answers_line (Some Check) keeps = read_stays (view v) (view w) keeps.reads.only
    answers_line (Some (Work load)) keeps = absurd keeps
    answers_line (Some Run) keeps = (opens.store, keeps.does.by_files among (rested m opens.store) apart (given.cut (rested m opens.store)) At)
    answers_line (Some (Single (Format slots))) keeps =
        let none = formats_nothing (IsIn among) slots c m (view v) (view w) image told opens keeps.does.0 in
        record { content = none.content; images = none.images }
    answers_line (Some (Single (Ingest name))) keeps = (opens.store, law_at (Ingest name) (laws.ingest name) keeps.does)
    answers_line (Some (Single (Restore name))) keeps = (opens.store, law_at (Restore name) (laws.restore name) keeps.does)
    answers_line (Some (Single (Delete name))) keeps = (opens.store, law_at (Delete name) (laws.delete name) keeps.does)
    answers_line (Some (Single table.List)) keeps = (opens.store, law_at table.List laws.list keeps.does)
    answers_line (Some (Single (Collect percent))) keeps = (opens.store, law_at (Collect percent) (laws.collect percent) keeps.does)

    -- the same, as the law of lists has it
    command_answers : (command : CommandLine) → KeepsAs D view (Some (Single command)) c (view v) (view w) → AnswersBy (IsIn among) command c m (view v) (view w)
    command_answers (Format slots) keeps = formats_nothing (IsIn among) slots c m (view v) (view w) image told opens keeps.does.0
    command_answers (Ingest name) keeps = (opens.store, At, law_at (Ingest name) (laws.ingest name) keeps.does)
    command_answers (Restore name) keeps = (opens.store, At, law_at (Restore name) (laws.restore name) keeps.does)
    command_answers (Delete name) keeps = (opens.store, At, law_at (Delete name) (laws.delete name) keeps.does)
    command_answers table.List keeps = (opens.store, At, law_at table.List laws.list keeps.does)
    command_answers (Collect percent) keeps = (opens.store, At, law_at (Collect percent) (laws.collect percent) keeps.does)

    run_answers : KeepsAs D view (Some Run) c (view v) (view w) → RunsFromMap (IsIn among) c m (view v) (view w)
    run_answers keeps = (opens.store, At, keeps.does.by_files among (rested m opens.store) apart (given.cut (rested m opens.store)) At)

  -- the map that a call finds in the content
  found : (P : Stored → Type 0) (c : Call) (v w : D) → IsGivenAmong among c → Stands (OfSome (IsIn among) P) (view v) → KeepsCall D view c (view v) (view w)
      → (m : Stored) × (P m × KnownWith (view v).content (OpensAs (IsIn among) m) × Answers c.line (IsIn among) c m (view v) (view w))
  found P c v w given ((image, told, (m, (has, opens))), each) keeps = (m, (has, (image, told, opens), answers_line c m v w image given told opens c.line keeps))

  one_call : (P : Stored → Type 0) (c : Call) (v w : D) → IsGivenAmong among c → Stands (OfSome (IsIn among) P) (view v) → KeepsCall D view c (view v) (view w)
      → Stands (OfSome (IsIn among) (After P c.line c)) (view w)
  one_call P c v w given stands keeps =
      let one = found P c v w given stands keeps in
      leaves (IsIn among) P c one.0 (view v) (view w) one.1.0 stands c.line one.1.2

  all_calls : (P : Stored → Type 0) (calls : List Call) (old new : D) → AllByRecursion (IsGivenAmong among) calls
      → Stands (OfSome (IsIn among) P) (view old) → CallRun D view calls old new → Stands (OfSome (IsIn among) (AfterAll P calls)) (view new)
  all_calls P [] old new given stands run =
      subst (λ (d : D). Stands (OfSome (IsIn among) (AfterAll P [])) (view d)) (sym run) (weaker (IsIn among) P (AfterAll P []) (view old) (λ m has. (m, (has, refl))) stands)
  all_calls P (c ∷ cs) old new given stands (mid, (keeps, rest)) =
      weaker (IsIn among) (AfterAll (After P c.line c) cs) (AfterAll P (c ∷ cs)) (view new) (λ next all. (all.1.0.0, (all.1.0.1.0, (all.0, (all.1.0.1.1, all.1.1)))))
      (all_calls (After P c.line c) cs mid new given.1 (one_call P c old mid given.0 stands keeps) rest)

-- ---- the theorem

only_one : (S : List ℕ → Type 0) (m : Stored) (v : DiskView) → Stands (OpensAs S m) v → Stands (OfSome S (λ s. s ≡ m)) v
only_one S m v stands = ((stands.0.0, stands.0.1, (m, (refl, stands.0.2))), λ d is. (m, (refl, stands.1 d is)))

pub leaves_possible : (D : Type 0) (view : D → DiskView) → ByTheMap D view → LeavesPossible D view
leaves_possible D view laws among m calls old new begins run =
    weaker (IsIn among) (AfterAll (λ s. s ≡ m) calls) (LeadsTo calls m) (view new) (λ next all. subst (λ (s : Stored). LeadsTo calls s next) all.1.0 all.1.1)
    (all_calls D view laws among begins.apart (λ s. s ≡ m) calls old new begins.given (only_one (IsIn among) m (view old) begins.stands) run)

module _ (D : Type 0) (view : D → DiskView) (laws : ByTheMap D view) (among : ByteSet) (m : Stored) (calls : List Call) (last : Call) (old mid new : D)
    (begins : BeginsOfMap among (calls ++ last ∷ []) m (view old))
    (run : CallRun D view calls old mid) (keeps : KeepsCall D view last (view mid) (view new)) where
  before : Stands (Possible (IsIn among) calls m) (view mid)
  before = leaves_possible D view laws among m calls old mid (record { apart = begins.apart; given = given_before among calls last begins.given; stands = begins.stands }) run

  given : IsGivenAmong among last
  given = given_last among calls last begins.given

  last_finds : (now : Stored) × (LeadsTo calls m now × KnownWith (view mid).content (OpensAs (IsIn among) now) × Answers last.line (IsIn among) last now (view mid) (view new))
  last_finds = found D view laws among begins.apart (LeadsTo calls m) last mid new given before keeps

  by_led : (now : Stored) → LeadsTo calls m now → (c : List ℕ) → Possible (IsIn among) calls m c ⊎ OfSome (IsIn among) (MayPass last.line last now) c
      → Possible (IsIn among) calls m c ⊎ Passed (IsIn among) calls last m c
  by_led now leads c (inl possible) = inl possible
  by_led now leads c (inr led) = inr (now, (leads, led))

pub answers_by_the_map : (D : Type 0) (view : D → DiskView) → ByTheMap D view → AnswersByTheMap D view
answers_by_the_map D view laws among m calls last command old mid new begins run keeps line_is =
    let one = last_finds D view laws among m calls last old mid new begins run keeps in (
      one.0,
      (
        one.1.0,
        one.1.1,
        command_answers D view laws among begins.apart last one.0 mid new one.1.1.0 (given_last among calls last begins.given) one.1.1.1 one.1.1.2 command
            (subst (λ (l : Option TableLine). KeepsAs D view l last (view mid) (view new)) line_is keeps),
      ),
    )

pub runs_by_the_map : (D : Type 0) (view : D → DiskView) → ByTheMap D view → RunsByTheMap D view
runs_by_the_map D view laws among m calls last old mid new begins run keeps line_is =
    let one = last_finds D view laws among m calls last old mid new begins run keeps in (
      one.0,
      (
        one.1.0,
        one.1.1,
        run_answers D view laws among begins.apart last one.0 mid new one.1.1.0 (given_last among calls last begins.given) one.1.1.1 one.1.1.2
            (subst (λ (l : Option TableLine). KeepsAs D view l last (view mid) (view new)) line_is keeps),
      ),
    )

pub survives_a_crash : (D : Type 0) (view : D → DiskView) → ByTheMap D view → SurvivesACrash D view
survives_a_crash D view laws among m calls last old mid new begins run keeps c since =
    let one = last_finds D view laws among m calls last old mid new begins run keeps in
    by_led D view laws among m calls last old mid new begins run keeps one.0 one.1.0 c
    (crash_leaves (IsIn among) (LeadsTo calls m) last one.0 (view mid) (view new) one.1.0 (before D view laws among m calls last old mid new begins run keeps) last.line one.1.2 c
    since)

-- ---- the empty map

abbrev pub empty_map : Stored
empty_map = record { files = no_files; last = 0 }

module _ (S : List ℕ → Type 0) (image : List ℕ) where
  none_among : (slot count : ℕ) → AreAmong S slot (replicate count None) image
  none_among slot zero = tt
  none_among slot (suc count) = none_among (slot + 1) count

  of_empty : (slots : ℕ) → IsFormatted slots image → IsOf S empty_map image
  of_empty slots formatted = record { store = empty_store slots; stands = record { holds = formatted.0; among = none_among 0 slots }; reserve = formatted.1; last_is = refl }

pub stands_empty : (D : Type 0) (view : D → DiskView) → StandsEmpty D view
stands_empty D view among slots old new (bytes, told, u) formats durable =
    let there = formats.stands bytes told in
    let of = of_empty (IsIn among) there.0 slots there.2 in
    ((there.0, there.1, of), λ c is. subst (IsOf (IsIn among) empty_map) (sym (durable there.0 there.1 c is)) of)

-- no refusal has the status 0
refused : (refusal : Refusal) → ¬ (status_of_refusal refusal ≡ 0)
refused Memory = λ is. cc
refused NoFile = λ is. cc
refused BadName = λ is. cc
refused TooMany = λ is. cc
refused TooLong = λ is. cc
refused (Full free) = λ is. cc
refused (Clash key at) = λ is. cc
refused (WrongPart part) = λ is. cc
refused (Collecting phase) = λ is. cc
refused NotCollecting = λ is. cc
refused DiskRead = λ is. cc
refused DiskWrite = λ is. cc
refused (Stopped at) = λ is. cc
refused (Corrupt slot offset length want got) = λ is. cc
refused (Missing key) = λ is. cc
refused Numbers = λ is. cc
refused (NotAStore gate magic) = λ is. cc
refused (Version n) = λ is. cc
refused (Damaged at why) = λ is. cc
refused (Unpinned key) = λ is. cc
refused AlreadyStore = λ is. cc
refused (WrongSize want got) = λ is. cc
refused NoActor = λ is. cc
refused (NotEmpty files) = λ is. cc

done_at_zero : (ending : Option Ending) → status_by ending ≡ 0 → ending ≡ None
done_at_zero None is = refl
done_at_zero (Some Words) is = cc
done_at_zero (Some Source) is = cc
done_at_zero (Some Sink) is = cc
done_at_zero (Some (Line number)) is = cc
done_at_zero (Some Script) is = cc
done_at_zero (Some (Refused refusal)) is = absurd (refused refusal is)

module _ (D : Type 0) (view : D → DiskView) (slots : ℕ) (c : Call) (v w : DiskView) where
  abbrev DoesBy : Option TableLine → Option Ending → Type 0
  DoesBy line ending = Does D view line c.given c.rs ending (devices v w c.source c.source_now c.sink c.sink_now)

  format_done : KeepsCall D view c v w → c.line ≡ Some (Single (Format slots)) → c.status ≡ 0 → Formats slots v w × IsDurable w
  format_done keeps line_is zero_is =
      let kept = subst (λ (l : Option TableLine). KeepsAs D view l c v w) line_is keeps in
      let done = subst (DoesBy (Some (Single (Format slots)))) (done_at_zero c.ending (sym kept.status_is ∙ zero_is)) kept.does in
      (done.0.any.caused, done.0.any.durable)

pub format_begins : (D : Type 0) (view : D → DiskView) → FormatBegins D view
format_begins D view among slots c old new told keeps line_is zero_is =
    let done = format_done D view slots c (view old) (view new) keeps line_is zero_is in
    stands_empty D view among slots old new told done.0 done.1

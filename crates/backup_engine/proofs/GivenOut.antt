-- A file that is given back, or not: what the promise says of it.
use Rattle.backup_engine.proofs.Prelude.{◌≡◌, inl, inr, ◌<◌, ◌≤◌, ℕ, List, [], ◌∷◌, length, Option, Some, None, Result, Ok, Err, refl, sym, ◌∙◌, ap, subst, arith, length-replicate, AllByRecursion, concat, DiskView, IsLater, OnlyReads, Reads, CountsFault, Shows, until, since, SourceView, SinkView, Why, Root, PlaceMap, Top, ACTORS, Idle, Answer, with_part, apart, Refusal, Memory, DiskRead, DiskWrite, Corrupt, Missing, Damaged, WrongPart, NameMap, reading, WasRead, IsNextRefusal, IsTopRefusal, top_key, ReadRow, given_to, CoreState, Event, Restore, GivesBack, IsCaused, WroteOnAny, OnAnyDisk, disk_ending, IsRead, EndsGiving, WroteGiven, IsGivenOut, ending_in}
use Rattle.dd_disk.specs.Ending.{Ending as DiskEnding, Done}
use Rattle.dd_disk.proofs.Ended.{reads_on}
use Rattle.dd_disk.proofs.Later.{reads_on as only_reads_on}
use Rattle.actor_parts.specs.declared.part.Part.{Part}
use Rattle.actor_parts.specs.declared.step.Answer.TheVariants as answers
use Rattle.actor_parts.specs.Parts.{part_of}
use Rattle.reply_text.specs.declared.ending.Ending.{Ending}
use Rattle.reply_text.specs.declared.ending.Ending.TheVariants as endings
use Rattle.segment_index.specs.Places.{IsPlace}
use Rattle.store_model.specs.Image.{names_of}
use Rattle.read_steps.specs.Opening.{HasRoot}
use Rattle.read_steps.specs.Readers.{IsReading}
use Rattle.read_steps.specs.Walking.{IsCopyRefusal}
use Rattle.store_core.proofs.CheckedReads.{GivesByTree, IsReadNext, ReadsAlone, reads_are_checked}
use Rattle.store_core.proofs.OwnParts.{same_reader}
use Rattle.backup_engine.specs.AnyDisk.{WroteSegments}
use Rattle.backup_engine.proofs.Called.{Called}
use Rattle.backup_engine.proofs.NotDone.{holds}
use Rattle.backup_engine.proofs.ReadSteps.{LeavesAll, open_leaves, Came, came, last_made, last_reads}
use Rattle.backup_engine.specs.Seen.{devices}

-- ---- a walk that is stuck, as it is shown of the whole call

module _ (index : PlaceMap) (breaks : ℕ → Why → List ℕ → Type 0) (a b v w : DiskView) (size_is : a.size ≡ v.size) (each : (P : List ℕ → Type 0) → Shows a b P → Shows v w P) where
  abbrev none : ℕ → Why → List ℕ → Type 0
  none at why image = ⊥

  abbrev read : (key bytes : List ℕ) → WasRead (Some index) a b key bytes → WasRead (Some index) v w key bytes
  read key bytes is = record {
    place = is.place;
    copy = record {
      place_is = is.copy.place_is;
      right = subst (λ (n : ℕ). IsPlace n is.place) size_is is.copy.right;
      long = is.copy.long;
      there = each _ is.copy.there;
    };
  }

  copy_stuck : (key digest : List ℕ) (refusal : Refusal) → IsCopyRefusal (Some index) breaks a b key digest refusal → IsCopyRefusal (Some index) none v w key digest refusal
  copy_stuck key digest (Corrupt slot offset count want got) is = record {
    want_is = is.want_is;
    differ = is.differ;
    placed = is.placed;
    found = record { bytes = is.found.bytes; long = is.found.long; digest_is = is.found.digest_is; there = each _ is.found.there };
  }
  copy_stuck key digest DiskRead is = is
  copy_stuck key digest (Missing k) is = is
  copy_stuck key digest (Damaged at why) is = absurd (let unknown = is.unknown in cc)
  copy_stuck key digest refusal is = absurd is

  top_stuck : (t : Top) (refusal : Refusal) → IsTopRefusal (Some index) breaks a b t refusal → IsTopRefusal (Some index) none v w t refusal
  top_stuck t (Damaged at why) (inl is) = absurd (let unknown = is.unknown in cc)
  top_stuck t (Damaged at why) (inr is) =
      inr (record { bytes = is.bytes; was_read = read (top_key t) is.bytes is.was_read; at_is = is.at_is; digest = is.digest; wrong = is.wrong })
  top_stuck t refusal is = copy_stuck (top_key t) t.digest refusal is

  pub next_stuck : (ahead : List Top) (refusal : Refusal) → IsNextRefusal (Some index) breaks a b ahead refusal → IsNextRefusal (Some index) none v w ahead refusal
  next_stuck [] refusal is = absurd is
  next_stuck (t ∷ ts) refusal is = top_stuck t refusal is

-- ---- calls, and the closing after them

counts_then : (e : DiskEnding) (before mid now : ℕ) → CountsFault e before mid → now ≡ mid → CountsFault e before now
counts_then e before mid now counts stays = subst (λ (n : ℕ). CountsFault e before n) (sym stays) counts

pub reads_closed : (e : DiskEnding) (old mid new : DiskView) → Reads e old mid → Reads Done mid new → Reads e old new
reads_closed e old mid new first second = record {
  only = only_reads_on old mid new first.only second.only;
  faults_are = counts_then e old.faults mid.faults new.faults first.faults_are second.faults_are;
}

-- what was shown by a part of the calls is shown by all of them
pub shown_by_all : (v a b w : DiskView) → OnlyReads v a → a.clock ≤ b.clock → IsLater b w → (P : List ℕ → Type 0) → Shows a b P → Shows v w P
shown_by_all v a b w first before last P shown = until v b w (since v a b first shown) (omega (arith, first.later.clock_is, before)) last

-- ---- over any disk

module _ (C : Type 0) (state : C → CoreState) (v w : DiskView) (old new : C) (was : Called C state v w old new) (name : List ℕ) (source : SourceView) (sink sink_now : SinkView)
  where
    same_names : (state old).tables.names ≡ names_of was.opened.store
    same_names = was.opened.represents.names_are.names_are

    pub some_actors : 0 < length (state old).parts
    some_actors = omega (arith, ap length was.opened.parts_are, length-replicate ACTORS Idle)

    module _ (result : Result Unit Ending) (out : IsGivenOut C state name result old new sink sink_now) where
      pub opening : LeavesAll (Ok (answers.Opened out.count)) (state old) (state out.mid)
      opening = open_leaves name (Ok (answers.Opened out.count)) out.buf (state old) (state out.mid) was.opened.stop_is out.opened

      pub way : Came C state result out.mid new
      way = came C state out.reads result out.mid new out.each out.ends opening.runs (subst (λ (n : ℕ). 0 < n) (sym opening.many) some_actors) out.ran

      abbrev last : CoreState
      last = state way.before

      -- ---- how it reads

      to_last : Reads Done (state old).disk last.disk
      to_last = reads_on Done (state old).disk (state out.mid).disk last.disk opening.reads way.reads

      from_last : Reads (disk_ending (ending_in result)) last.disk w
      from_last = reads_closed (disk_ending (ending_in result)) last.disk (state new).disk w (last_reads C state result out.mid new way) was.last

      pub of_core : Reads (disk_ending (ending_in result)) (state old).disk w
      of_core = reads_on (disk_ending (ending_in result)) (state old).disk last.disk w to_last from_last

      pub of_call : Reads (disk_ending (ending_in result)) v w
      of_call = reads_on (disk_ending (ending_in result)) v (state old).disk w was.first of_core

      -- ---- what is given

      alone_each : (reads : List Event) → AllByRecursion IsRead reads → ReadsAlone 0 reads
      alone_each [] each = tt
      alone_each (e ∷ es) each = (λ own. subst IsReadNext (sym each.0.1) tt, alone_each es each.1)

      pub alone : ReadsAlone 0 out.reads
      alone = alone_each out.reads out.each

      checked : GivesByTree (state old).tables.names name 0 out.count out.reads (state new)
      checked = reads_are_checked C state 0 name out.count out.buf out.reads old out.mid new some_actors was.opened.stop_is out.opened out.ran alone

      abbrev segments : List (List ℕ)
      segments = given_to 0 out.reads

      abbrev ahead : List Top
      ahead = checked.given.rest

      abbrev given_back : (ending : Option Ending) → WroteSegments ahead segments ending sink sink_now → GivesBack name ending v w sink sink_now
      given_back ending wrote = record {
        holds = holds C state v w old new was of_core.only.later;
        root = checked.root;
        has_root = subst (λ (names : NameMap). HasRoot names name checked.root) same_names checked.has_root;
        segments = segments;
        ahead = ahead;
        given = checked.given.gives;
        whole = λ ended. checked.whole ended ∙ checked.count_is;
        wrote = wrote;
      }

      -- what the last read left is ahead
      left_ahead : (root : Root) (rest : List Top) → (state new).parts ≡ with_part last.parts 0 (reading root rest) → rest ≡ ahead
      left_ahead root rest parts_are =
          let part : part_of (state new).parts 0 ≡ reading root rest = ap (λ (parts : List Part). part_of parts 0) parts_are ∙ apart.same last.parts 0 (reading root rest) way.below
          in
          (same_reader root checked.root rest ahead (sym part ∙ checked.given.part_is)).1

      last_row : (answer : Result Answer Refusal) → way.event.answer ≡ answer → ReadRow 0 answer way.event.buf last (state new)
      last_row answer is = subst (λ (a : Result Answer Refusal). ReadRow 0 a way.event.buf last (state new)) is (last_made C state result out.mid new way).row

      -- at the end nothing is
      none_ahead : way.event.answer ≡ Ok answers.End → ahead ≡ []
      none_ahead is =
          let next = (last_row (Ok answers.End) is).next in
          sym (left_ahead next.goes_on.root next.rest next.goes_on.parts_are) ∙ next.given.1

      -- ---- why it is not

      known_there : last.known ≡ Some was.opened.told.0
      known_there = way.tables.index_is ∙ opening.tables.index_is ∙ was.opened.told.1

      next_refused : (root : Root) (rest : List Top) (refusal : Refusal) → (state new).parts ≡ with_part last.parts 0 (reading root rest) →
          IsNextRefusal last.known last.breaks last.disk (state new).disk rest refusal
          → IsNextRefusal (Some was.opened.told.0) (λ at why image. ⊥) v w ahead refusal
      next_refused root rest refusal parts_are cause =
          let first = reads_on Done v (state old).disk last.disk was.first to_last in
          let of_last = last_reads C state result out.mid new way in
          subst (λ (tops : List Top). IsNextRefusal (Some was.opened.told.0) (λ at why image. ⊥) v w tops refusal) (left_ahead root rest parts_are)
          (next_stuck was.opened.told.0 last.breaks last.disk (state new).disk v w first.only.later.size_is
          (shown_by_all v last.disk (state new).disk w first.only of_last.only.later.clock_is was.last.only.later) rest refusal
          (subst (λ (known : Option PlaceMap). IsNextRefusal known last.breaks last.disk (state new).disk rest refusal) known_there cause))

      refused_caused : (refusal : Refusal) → ReadRow 0 (Err refusal) way.event.buf last (state new) → WroteSegments ahead segments (Some (endings.Refused refusal)) sink sink_now
          → IsCaused (Restore name) [] (devices v w source source sink sink_now) (Some (endings.Refused refusal))
      refused_caused Memory row wrote = tt
      refused_caused DiskRead row wrote = tt
      refused_caused DiskWrite row wrote = tt
      refused_caused (WrongPart kind) row wrote =
          absurd (row.cause.differs (subst IsReading (sym (ap (λ (parts : List Part). part_of parts 0) (sym row.cause.same) ∙ checked.given.part_is)) tt))
      refused_caused refusal row wrote =
          inr (inr (
            given_back (Some (endings.Refused refusal)) wrote,
            (
              was.opened.told.0,
              was.opened.whole was.opened.told.0 was.opened.told.1,
              next_refused row.cause.goes_on.root row.cause.rest refusal row.cause.goes_on.parts_are row.cause.refused.cause,
            ),
          ))

      caused : (r : Result Unit Ending) → EndsGiving (way.event ∷ []) r → WroteGiven r (concat segments) sink sink_now →
          IsCaused (Restore name) [] (devices v w source source sink sink_now) (ending_in r)
      caused (Ok u) ends wrote = tt
      caused (Err (endings.Refused refusal)) ends wrote = refused_caused refusal (last_row (Err refusal) ends) wrote.0
      caused (Err endings.Sink) ends wrote = (tt, wrote.1)
      caused (Err ending) ends wrote = absurd ends

      written : (r : Result Unit Ending) → EndsGiving (way.event ∷ []) r → WroteGiven r (concat segments) sink sink_now →
          WroteOnAny (Restore name) [] (ending_in r) v w sink sink_now
      written (Ok u) ends wrote = given_back None (none_ahead ends, wrote.0)
      written (Err endings.Sink) ends wrote = given_back (Some endings.Sink) wrote.0
      written (Err ending) ends wrote = inr (given_back (Some ending) wrote.0)

      faultless : (r : Result Unit Ending) → WroteGiven r (concat segments) sink sink_now → ¬ (ending_in r ≡ Some endings.Sink) → sink_now.faults ≡ sink.faults
      faultless (Ok u) wrote other = wrote.1
      faultless (Err endings.Sink) wrote other = absurd (other refl)
      faultless (Err ending) wrote other = wrote.1

      pub given_on_any : OnAnyDisk (Restore name) [] (ending_in result) (devices v w source source sink sink_now)
      given_on_any = record {
        took = (refl, refl);
        caused = caused result way.ends out.wrote;
        wrote = written result way.ends out.wrote;
        faults_are = of_call.faults_are;
        durable = tt;
        source_faults = λ other. refl;
        sink_faults = λ other. faultless result out.wrote other;
      }

-- Rows of the core, as rows of the machine of roots.
use Rattle.core_machine.proofs.Prelude.{PinMap, pin_of, KindSegment, segment_key, len_changed, order, length, arith, ◌≡◌, ◌≢◌, inl, inr, Bool, true, false, cond, ◌≤◌, ◌<◌, ◌-◌, ◌++◌, ℕ, zero, suc, List, [], ◌∷◌, take, drop, slice_set, Option, Some, None, option_map, Result, Ok, Err, refl, sym, ◌∙◌, ap, subst, Root, Gone, Put, DiskView, PlaceMap, Top, contents_in, Named, NameMap, Refusal, newest, Store, last_sequence, IsValidFor, names_of, Represents, SlotTable, Tables, CoreCollection, MarksIn, HeaderValue, SameCollection, AbortRow, BeginRow, ClaimRow, CommitRow, ListRow, StatRow, DeleteRow, EndRow, NamesOne, OpenRow, ReadRow, StopsAfter, UniqueRow, counted, eq_by_cmp, nat_list_cmp_total, half_cells, with_change, CoreState, Answer, Asked, Answers, with_name, IsAtRightPart, IsLacked, broken_by, without_name, Found, Machine, Reading, RunState, Running, Stopped, keeping, part_in, put_at, of_roots, HasIndex, IsMachine, SameStop, answered_by}
use Rattle.actor_parts.specs.Segments.{first_unpinned}
use Rattle.disk_format.specs.declared.numbers.TheConstants.{MOST_NAMES}
use Rattle.ingest_steps.specs.Claiming as claiming
use Rattle.ingest_steps.specs.Writers as writers
use Rattle.namespace.specs.Names.{HasRoom as HasRoomIn}
use Rattle.namespace.specs.Listing.{NamedRoot, listing_of, named_root}
use Rattle.store_machine.proofs.SameNames.{changed, entries_changed}
use Rattle.std.proofs.Common.{map, Contains, ◌^◌, slice_index_or, is_some}
use Rattle.std.specs.Prelude.{IsSome}
use Rattle.std.specs.FinMap as finite
use Rattle.disk_format.specs.Cells.{IsName}
use Rattle.disk_format.specs.declared.why.Why.{Why}
use Rattle.merkle_file.specs.Walk.{opened as opened_node}
use Rattle.actor_parts.specs.declared.part.Part as core_part
use Rattle.actor_parts.specs.declared.part.Part.TheVariants as core
use Rattle.actor_parts.specs.Kinds as core_kinds
use Rattle.actor_parts.specs.Parts.{part_of, with_part}
use Rattle.refusals.specs.declared.refusal.PartKind.{PartKind}
use Rattle.refusals.specs.declared.refusal.PartKind.TheVariants as kinds
use Rattle.refusals.specs.declared.refusal.Refusal.TheVariants as refusals
use Rattle.container_meta.specs.declared.place.Place.{Place as PlaceValue}
use Rattle.segment_index.specs.Places.{KnownMap}
use Rattle.store_model.specs.Slots.{Copy as KeyCopy}
use Rattle.store_machine.specs.Needs.{HasLength, IsKept}
use Rattle.store_core.specs.Core.{KeepsTables, IsAtOther}
use Rattle.actor_parts.specs.StepValue as steps
use Rattle.ingest_steps.specs.Naming as naming
use Rattle.store_model.proofs.NameChanges.{last_changed, names_after_change}
use Rattle.std.specs.Ordering.{nat_cmp}
use Rattle.std.specs.Cmp.Lexicographic.{slice_cmp}
use Rattle.read_steps.specs.Readers as readers
use Rattle.read_steps.specs.Trees.{IsTreesRefusal}
use Rattle.read_steps.specs.Visiting.{IsVisitRefusal}
use Rattle.read_steps.specs.Walking as walking
use Rattle.actor_parts.specs.declared.step.Answer.TheVariants as answers
use Rattle.store_machine.specs.Asked as asked
use Rattle.store_machine.specs.Done.{Done}
use Rattle.store_machine.specs.Legal.{Keeps, listing, counted as counted_of, HasName, HasRoom, MayCommit, HasNumbers, IsIndexed, LacksNumbers, RefusesRead, taken_by}
use Rattle.std.proofs.lemmas.List.{set-get_or}
use Rattle.store_machine.specs.Machine.{Collection, Part, Idle, Writing, kind_of, one_more}
use Rattle.store_machine.specs.Values.{GivesLeaf, IsStuck, Opens, Walked}
use Rattle.core_machine.specs.Refines.{SamePart, SameParts}

-- ---- what a walk shows

opened_so : (P : List ℕ → List ℕ → Type 0) (nodes : List (List ℕ)) (before after : List Top) → walking.Opened P nodes before after → Opens nodes before after
opened_so P [] before after way = way
opened_so P (b ∷ bs) [] after way = absurd way.0
opened_so P (b ∷ bs) (t ∷ ts) after way = ((way.0.0, way.0.2, way.0.3), opened_so P bs (opened_node (contents_in b) ++ drop 1 (t ∷ ts)) after way.1)

walked_so : (P : List ℕ → List ℕ → Type 0) (before after : List Top) → walking.Walked P before after → Walked before after
walked_so P before after walked = (walked.nodes, opened_so P walked.nodes before after walked.way)

pub gives_so : (P : List ℕ → List ℕ → Type 0) (before after : List Top) (count : ℕ) (bytes : List ℕ) → walking.Gives P before after count bytes → GivesLeaf before bytes after
gives_so P before after count bytes g = record {
  next = g.next;
  walked = walked_so P before (g.next ∷ after) g.walked;
  leaf = g.leaf;
  digest = g.read.digest;
  named = g.read.named ∙ sym g.read.long;
  some = subst (λ (k : ℕ). 1 ≤ k) (sym g.read.long) g.read.some;
}

stuck_by : (known : Option PlaceMap) (breaks : ℕ → Why → List ℕ → Type 0) (old new : DiskView) (after : List Top) (refusal : Refusal)
    → walking.IsNextRefusal known breaks old new after refusal → IsStuck after refusal
stuck_by known breaks old new [] refusal cause = absurd cause
stuck_by known breaks old new (t ∷ ts) refusals.DiskRead cause = tt
stuck_by known breaks old new (t ∷ ts) (refusals.Corrupt slot offset count want got) cause = (cause.want_is, λ same. cause.differ (sym same))
stuck_by known breaks old new (t ∷ ts) (refusals.Missing key) cause = cause.0
stuck_by known breaks old new (t ∷ ts) (refusals.Damaged at why) cause = tt
stuck_by known breaks old new (t ∷ ts) refusal cause = absurd cause

pub stays_so : (known : Option PlaceMap) (breaks : ℕ → Why → List ℕ → Type 0) (old new : DiskView) (before after : List Top) (refusal : Refusal)
    → walking.IsWalkRefusal known breaks old new before after refusal
    → Walked before after × IsStuck after refusal
stays_so known breaks old new before after refusal r = (walked_so (walking.WasRead known old new) before after r.walked, stuck_by known breaks old new after refusal r.cause)

-- ---- why trees are not walked

abbrev pub StopsTrees : Refusal → Type 0
StopsTrees refusals.Memory = Unit {0}
StopsTrees refusals.DiskRead = Unit {0}
StopsTrees (refusals.Corrupt slot offset count want got) = Unit {0}
StopsTrees (refusals.Missing key) = Unit {0}
StopsTrees (refusals.Damaged at why) = Unit {0}
StopsTrees refusal = ⊥

stops_visit : (known : Option PlaceMap) (breaks : ℕ → Why → List ℕ → Type 0) (old new : DiskView) (ahead : List Top) (refusal : Refusal)
    → IsVisitRefusal known breaks old new ahead refusal → StopsTrees refusal
stops_visit known breaks old new [] refusal cause = absurd cause
stops_visit known breaks old new (t ∷ ts) refusals.DiskRead cause = tt
stops_visit known breaks old new (t ∷ ts) (refusals.Corrupt slot offset count want got) cause = tt
stops_visit known breaks old new (t ∷ ts) (refusals.Missing key) cause = tt
stops_visit known breaks old new (t ∷ ts) (refusals.Damaged at why) cause = tt
stops_visit known breaks old new (t ∷ ts) refusal (inl segment) = absurd segment.1
stops_visit known breaks old new (t ∷ ts) refusal (inr node) = absurd node.1

pub stops_trees : (index : PlaceMap) (old new : DiskView) (roots : List NamedRoot) (refusal : Refusal) → IsTreesRefusal index old new roots refusal → StopsTrees refusal
stops_trees index old new roots refusal (inl memory) = subst StopsTrees (sym memory) tt
stops_trees index old new roots refusal (inr among) = stops_visit (Some index) (λ at why image. ⊥) old new among.stuck.ahead refusal among.stuck.cause

-- ---- parts

abbrev pub M : Type 0
M = Machine Root (List Top)

abbrev RootPart : Type 0
RootPart = Part Root (List Top)

part_at : (ps : List RootPart) (qs : List core_part.Part) (i : ℕ) → SameParts ps qs → SamePart (slice_index_or ps i Idle) (part_of qs i)
unfolding part_of
part_at [] [] i same = tt
part_at [] (q ∷ qs) i same = absurd same
part_at (p ∷ ps) [] i same = absurd same
part_at (p ∷ ps) (q ∷ qs) zero same = same.0
part_at (p ∷ ps) (q ∷ qs) (suc i) same = part_at ps qs i same.1

pub set_at : (ps : List RootPart) (qs : List core_part.Part) (i : ℕ) (p : RootPart) (q : core_part.Part) → SameParts ps qs → SamePart p q
    → SameParts (slice_set ps i p) (with_part qs i q)
unfolding with_part
set_at [] [] i p q same one = tt
set_at [] (y ∷ qs) i p q same one = absurd same
set_at (x ∷ ps) [] i p q same one = absurd same
set_at (x ∷ ps) (y ∷ qs) zero p q same one = (one, same.1)
set_at (x ∷ ps) (y ∷ qs) (suc i) p q same one = (same.0, set_at ps qs i p q same.1 one)

kind_same : (p : RootPart) (q : core_part.Part) → SamePart p q → core_kinds.kind_of q ≡ kind_of p
kind_same Idle core.Idle same = refl
kind_same (Writing pins) (core.Writing others) same = refl
kind_same (Reading root rest) (core.Reading reader) same = refl
kind_same other it same = absurd same

idle_so : (p : RootPart) → kind_of p ≡ kinds.Idle → p ≡ Idle
idle_so Idle is = refl
idle_so (Writing pins) is = absurd (let wrong : kinds.Writing ≡ kinds.Idle = is in cc)
idle_so (Reading root rest) is = absurd (let wrong : kinds.Reading ≡ kinds.Idle = is in cc)

-- the one that reads
reading_so : (p : RootPart) (q : core_part.Part) (root : Root) (rest : List Top) → SamePart p q → q ≡ readers.reading root rest → p ≡ Reading root rest
reading_so Idle q root rest same is = absurd (subst (SamePart Idle) is same)
reading_so (Writing pins) q root rest same is = absurd (subst (SamePart (Writing pins)) is same)
reading_so (Reading own left) q root rest same is =
    let both = subst (SamePart (Reading own left)) is same in
    ap (λ (r : Root). Reading r left) (sym both.0) ∙ ap (λ (l : List Top). Reading root l) (sym both.1)

not_reading : (q : core_part.Part) → (readers.IsReading q → ⊥) → core_kinds.kind_of q ≢ kinds.Reading
not_reading core.Idle differs is = absurd (let wrong : kinds.Idle ≡ kinds.Reading = is in cc)
not_reading (core.Writing pins) differs is = absurd (let wrong : kinds.Writing ≡ kinds.Reading = is in cc)
not_reading (core.Reading reader) differs is = differs tt

is_reading : (q : core_part.Part) → readers.IsReading q → core_kinds.kind_of q ≡ kinds.Reading
is_reading core.Idle is = absurd is
is_reading (core.Writing pins) is = absurd is
is_reading (core.Reading reader) is = refl

not_idle : (q : core_part.Part) → q ≢ core.Idle → core_kinds.kind_of q ≢ kinds.Idle
not_idle core.Idle differs is = differs refl
not_idle (core.Writing pins) differs is = absurd (let wrong : kinds.Writing ≡ kinds.Idle = is in cc)
not_idle (core.Reading reader) differs is = absurd (let wrong : kinds.Reading ≡ kinds.Idle = is in cc)

-- ---- collections

-- what is needed or live doesn't matter
pub kept_same : (keys : List (List ℕ)) (t : SlotTable) (swept : Bool) (a : Option (Collection Root)) (b : Option CoreCollection) → SameCollection t swept a b
    → SameCollection t swept (keeping keys a) b
kept_same keys t swept None None same = tt
kept_same keys t swept None (Some k) same = absurd same
kept_same keys t swept (Some c) None same = absurd same
kept_same keys t swept (Some c) (Some k) same =
    record { percent_is = same.percent_is; snapshot_is = same.snapshot_is; recorded_is = same.recorded_is; stage_is = same.stage_is }

pub same_marks : (P : List ℕ → Type 0) (t : SlotTable) (swept : Bool) (a : Option (Collection Root)) (b after : Option CoreCollection) → MarksIn P b after
    → SameCollection t swept a b → SameCollection t swept a after
same_marks P t swept None None after marks same = subst (SameCollection t swept None) (sym marks) tt
same_marks P t swept (Some c) None after marks same = absurd same
same_marks P t swept None (Some k) after marks same = absurd same
same_marks P t swept (Some c) (Some k) after (live, (is, marks)) same = subst (SameCollection t swept (Some c)) (sym is) so
  where
    so : SameCollection t swept (Some c) (Some (record k { live = live }))
    so = record { percent_is = same.percent_is; snapshot_is = same.snapshot_is; recorded_is = same.recorded_is; stage_is = same.stage_is }

-- ---- the core and its machine

module _ {followed : Bool} (c : CoreState) (m : M) (at : IsMachine followed m c) where
  kind_is : (a : ℕ) → kind_of (part_in m a) ≡ core_kinds.kind_of (part_of c.parts a)
  kind_is a = sym (kind_same (part_in m a) (part_of c.parts a) (part_at m.parts c.parts a at.parts))

  idle_at : (a : ℕ) → core_kinds.kind_of (part_of c.parts a) ≡ kinds.Idle → part_in m a ≡ Idle
  idle_at a is = idle_so (part_in m a) (kind_is a ∙ is)

  reads_at : (a : ℕ) (root : Root) (rest : List Top) → part_of c.parts a ≡ readers.reading root rest → part_in m a ≡ Reading root rest
  reads_at a root rest is = reading_so (part_in m a) (part_of c.parts a) root rest (part_at m.parts c.parts a at.parts) is

  -- the names of the tables are those of its store
  names_so : (P : NameMap → Type 0) → P c.tables.names → P (names_of m.store)
  names_so P is = subst P at.represents.names_are.names_are is

  same_index : {swept : Bool} {forgotten : List (List ℕ)} {held : List (Option HeaderValue)} {known : Option PlaceMap} → known ≡ c.known
      → HasIndex followed swept forgotten held c.known → HasIndex followed swept forgotten held known
  same_index is has = record { places = has.places; known_is = is ∙ has.known_is; newest = has.newest; told = has.told }

  -- tables, disk's size and count as before, and the parts of these: it is the machine with these parts and this collection
  pub goes_on : (d : CoreState) (parts : List RootPart) (k : Option (Collection Root)) → d.tables ≡ c.tables → d.disk.size ≡ c.disk.size → SameParts parts d.parts
      → d.acknowledged ≡ c.acknowledged → d.known ≡ c.known → SameCollection c.tables.held m.swept k d.collection → m.state ≡ Running → d.stop ≡ None
      → IsMachine followed (record m { parts = parts; collection = k }) d
  goes_on d parts k tables size same count index collects runs stop = record {
    represents = subst (Represents m.store None) (sym tables) at.represents;
    valid = subst (λ (s : ℕ). IsValidFor s m.store) (sym size) at.valid;
    free = at.free;
    names = at.names;
    last = at.last;
    last_id = at.last_id ∙ ap (λ (t : Tables). t.held.last_id) (sym tables);
    last_within = at.last_within;
    parts = same;
    acknowledged = at.acknowledged ∙ sym count;
    index = λ running. same_index index (at.index running);
    collection = subst (λ (t : Tables). SameCollection t.held m.swept k d.collection) (sym tables) collects;
    state = subst (λ (s : RunState Root). SameStop m.acknowledged s d.stop) (sym runs) (subst (SameStop m.acknowledged Running) (sym stop) tt);
  }

  -- ---- rows, of a core that runs

  module _ (runs : m.state ≡ Running) (d : CoreState) where
    abbrev pub Left : ℕ → Asked Root → Result Done Refusal → Type 0
    Left a step told = (n : M) × Answers of_roots a step told m n × IsMachine followed n d

    -- a step that changes nothing but what actors are at
    pub record Rested : Type 0 where
      pub tables : d.tables ≡ c.tables
      pub size : d.disk.size ≡ c.disk.size
      pub count : d.acknowledged ≡ c.acknowledged
      pub index : d.known ≡ c.known
      pub collects : SameCollection c.tables.held m.swept m.collection d.collection
      pub stop : d.stop ≡ None

    -- the collection is what it was
    pub same_at : d.collection ≡ c.collection → SameCollection c.tables.held m.swept m.collection d.collection
    same_at same = subst (SameCollection c.tables.held m.swept m.collection) (sym same) at.collection

    pub left_by : KeepsTables c d → d.disk.size ≡ c.disk.size → d.acknowledged ≡ c.acknowledged → SameCollection c.tables.held m.swept m.collection d.collection → d.stop ≡ None
        → Rested
    left_by kept size count collects stop =
        record { tables = kept.tables_are; size = size; count = count; index = kept.index_is; collects = collects; stop = stop }

    with_parts : Rested → (parts : List RootPart) → SameParts parts d.parts → IsMachine followed (record m { parts = parts }) d
    with_parts r parts same = goes_on d parts m.collection r.tables r.size same r.count r.index r.collects runs r.stop

    pub as_it_was : Rested → d.parts ≡ c.parts → IsMachine followed m d
    as_it_was r same = with_parts r m.parts (subst (SameParts m.parts) (sym same) at.parts)

    put_part : Rested → (a : ℕ) (p : RootPart) (q : core_part.Part) → SamePart p q → d.parts ≡ with_part c.parts a q → IsMachine followed (put_at m a p) d
    put_part r a p q one is = with_parts r (slice_set m.parts a p) (subst (SameParts (slice_set m.parts a p)) (sym is) (set_at m.parts c.parts a p q at.parts one))

    -- ---- the actor is at another thing

    pub wrong : (a : ℕ) (step : Asked Root) (kind taken : PartKind) → taken_by step ≡ Some taken → kind ≡ core_kinds.kind_of (part_of c.parts a) → kind ≢ taken → Rested
        → d.parts ≡ c.parts → Left a step (Err (refusals.WrongPart kind))
    wrong a step kind taken by is differs r same = (m, ((is ∙ sym (kind_is a), (taken, by, differs)), refl), as_it_was r same)

    pub right_at : (a : ℕ) (step : Asked Root) (taken : PartKind) → taken_by step ≡ Some taken → core_kinds.kind_of (part_of c.parts a) ≡ taken → IsAtRightPart of_roots a step m
    right_at a step taken by is other also = kind_is a ∙ is ∙ (let same : Some taken ≡ Some other = sym by ∙ also in cc)

    at_other : (a : ℕ) (step : Asked Root) (taken : PartKind) → taken_by step ≡ Some taken → (refusal : Refusal) → IsAtOther taken a refusal c d → Rested
        → Left a step (Err refusal)
    at_other a step taken by (refusals.WrongPart kind) ((is, differs), same) r = wrong a step kind taken by is differs r same
    at_other a step taken by refusal (is, same) r = absurd is

    no_reader : (a : ℕ) (step : Asked Root) (kind : PartKind) → taken_by step ≡ Some kinds.Reading → readers.IsNoReader a c.parts d.parts kind → Rested
        → Left a step (Err (refusals.WrongPart kind))
    no_reader a step kind by is r = wrong a step kind kinds.Reading by is.kind_is (λ same. not_reading (part_of c.parts a) is.differs (sym is.kind_is ∙ same)) r is.same

    -- ---- each step

    pub begin_row : (a : ℕ) (answer : Result Answer Refusal) (buf : List ℕ) → BeginRow a answer c d → Rested → Left a asked.Begin (answered_by answer buf)
    begin_row a (Ok answers.Begun) buf (kind, is) r =
        (put_at m a (Writing finite.empty), (idle_at a kind, refl), put_part r a (Writing finite.empty) (core.Writing finite.empty) refl is)
    begin_row a (Err refusal) buf row r = at_other a asked.Begin kinds.Idle refl refusal row r
    begin_row a (Ok answer) buf row r = absurd row

    pub abort_row : (a : ℕ) (answer : Result Answer Refusal) (buf : List ℕ) → AbortRow a answer c d → Rested → Left a asked.Abort (answered_by answer buf)
    abort_row a (Ok answers.Aborted) buf (kind, is) r = (put_at m a Idle, (kind_is a ∙ kind, refl), put_part r a Idle core.Idle tt is)
    abort_row a (Err refusal) buf row r = at_other a asked.Abort kinds.Writing refl refusal row r
    abort_row a (Ok answer) buf row r = absurd row

    pub end_row : (a : ℕ) (answer : Result Answer Refusal) (buf : List ℕ) → EndRow a answer c d → Rested → Left a asked.EndRead (answered_by answer buf)
    end_row a (Ok answers.Dropped) buf up r = (put_at m a Idle, (kind_is a ∙ is_reading (part_of c.parts a) up.was_reading, refl), put_part r a Idle core.Idle tt up.parts_are)
    end_row a (Err (refusals.WrongPart kind)) buf is r = no_reader a asked.EndRead kind refl is r
    end_row a (Err refusal) buf row r = absurd row
    end_row a (Ok answer) buf row r = absurd row

    root_of_name : (name : List ℕ) (root : Root) (sequence : ℕ) → finite.get c.tables.names name ≡ Some (record { sequence = sequence; root = root })
        → finite.get m.now.names name ≡ Some root
    root_of_name name root sequence found =
        at.names name ∙ ap (option_map (λ (n : Named). n.root)) (names_so (λ names. finite.get names name ≡ Some (record { sequence = sequence; root = root })) found)

    no_name : (name : List ℕ) → finite.get c.tables.names name ≡ None → finite.get m.now.names name ≡ None
    no_name name none = at.names name ∙ ap (option_map (λ (n : Named). n.root)) (names_so (λ names. finite.get names name ≡ None) none)

    pub open_row : (name : List ℕ) (a : ℕ) (answer : Result Answer Refusal) (buf : List ℕ) → OpenRow name a answer c d → Rested
        → Left a (asked.OpenRead name) (answered_by answer buf)
    open_row name a (Ok (answers.Opened count)) buf is r =
        let opens = is.opens in (
          put_at m a (Reading opens.root opens.ahead),
          (
            opens.begins.has_root.named,
            idle_at a (ap core_kinds.kind_of opens.idle),
            (opens.root, opens.ahead, root_of_name name opens.root opens.begins.has_root.sequence opens.begins.has_root.found, opens.begins.all, opens.count_is, refl),
          ),
          put_part r a (Reading opens.root opens.ahead) (readers.reading opens.root opens.ahead) (refl, refl) opens.parts_are,
        )
    open_row name a (Err refusals.Memory) buf (is, same) r = (m, refl, as_it_was r same)
    open_row name a (Err (refusals.WrongPart kind)) buf (is, same) r =
        wrong a (asked.OpenRead name) kind kinds.Idle refl is.1 (λ idle. not_idle (part_of c.parts a) is.0 (sym is.1 ∙ idle)) r same
    open_row name a (Err refusals.BadName) buf (is, same) r = (m, (right_at a (asked.OpenRead name) kinds.Idle refl (ap core_kinds.kind_of is.0), (is.1, refl)), as_it_was r same)
    open_row name a (Err refusals.NoFile) buf (is, same) r =
        (m, (right_at a (asked.OpenRead name) kinds.Idle refl (ap core_kinds.kind_of is.0), (is.1.0, no_name name is.1.1, refl)), as_it_was r same)
    open_row name a (Err refusal) buf (is, same) r = absurd is.1
    open_row name a (Ok answer) buf row r = absurd row

    stays_read : (a : ℕ) (was rest : List Top) (goes : readers.GoesOn a c.parts d.parts was rest) → Rested → (refusal : Refusal) → Walked was rest × IsStuck rest refusal
        → (n : M) × RefusesRead of_roots a refusal m n × IsMachine followed n d
    stays_read a was rest goes r refusal stays = (
      put_at m a (Reading goes.root rest),
      (goes.root, was, rest, reads_at a goes.root was goes.part_is, stays, refl),
      put_part r a (Reading goes.root rest) (readers.reading goes.root rest) (refl, refl) goes.parts_are,
    )

    pub read_row : (a : ℕ) (answer : Result Answer Refusal) (buf : List ℕ) → ReadRow a answer buf c d → Rested → Left a asked.ReadNext (answered_by answer buf)
    read_row a (Ok (answers.Bytes count)) buf is r =
        let g = is.next.goes_on in (
          put_at m a (Reading g.root is.next.rest),
          (
            g.root,
            is.next.was,
            is.next.rest,
            reads_at a g.root is.next.was g.part_is,
            gives_so (walking.WasRead c.known c.disk d.disk) is.next.was is.next.rest count (take count buf) is.next.given,
            refl,
          ),
          put_part r a (Reading g.root is.next.rest) (readers.reading g.root is.next.rest) (refl, refl) g.parts_are,
        )
    read_row a (Ok answers.End) buf is r =
        let g = is.next.goes_on in
        let reads = reads_at a g.root is.next.was g.part_is in
        let same : slice_set m.parts a (Reading g.root is.next.rest) ≡ m.parts =
        ap (λ (l : List Top). slice_set m.parts a (Reading g.root l)) (is.next.given.1 ∙ sym is.next.given.0) ∙ ap (slice_set m.parts a) (sym reads)
        ∙ set-get_or m.parts a Idle in (
          m,
          (g.root, is.next.was, reads, is.next.given.0, refl),
          subst (λ (ps : List RootPart). IsMachine followed (record m { parts = ps }) d) same
              (put_part r a (Reading g.root is.next.rest) (readers.reading g.root is.next.rest) (refl, refl) g.parts_are),
        )
    read_row a (Err (refusals.WrongPart kind)) buf is r = no_reader a asked.ReadNext kind refl is.cause r
    read_row a (Err refusals.Memory) buf is r =
        stays_read a is.cause.was is.cause.rest is.cause.goes_on r refusals.Memory
        (stays_so c.known c.breaks c.disk d.disk is.cause.was is.cause.rest refusals.Memory is.cause.refused)
    read_row a (Err refusal) buf is r =
        let left =
        stays_read a is.cause.was is.cause.rest is.cause.goes_on r refusal (stays_so c.known c.breaks c.disk d.disk is.cause.was is.cause.rest refusal is.cause.refused) in
        (left.0, (right_at a asked.ReadNext kinds.Reading refl (ap core_kinds.kind_of is.cause.goes_on.part_is), left.1), left.2)
    read_row a (Ok answer) buf row r = absurd row

    -- ---- a delete

    abbrev remove : List ℕ → M
    remove name = record m { now = without_name of_roots name m.now; store = with_change name Gone m.store; acknowledged = one_more m.acknowledged }

    name_there : (name : List ℕ) → IsSome (finite.get c.tables.names name) → HasName of_roots name m
    name_there name there =
        by (finite.get (names_of m.store) name) (finite.get m.now.names name) (at.names name) (names_so (λ names. IsSome (finite.get names name)) there)
      where
        by : (o : Option Named) (q : Option Root) → q ≡ option_map (λ (n : Named). n.root) o → IsSome o → is_some q ≡ true
        by None q is there = ap is_some is ∙ there
        by (Some n) q is there = ap is_some is

    has_numbers : naming.HasNumbers c.tables → HasNumbers of_roots m
    has_numbers has =
        let told = at.represents.names_are in (
          subst (λ (k : ℕ). k < 2 ^ 64 - 1) (told.last_is ∙ sym at.last) has.sequence,
          λ full. subst (λ (k : ℕ). k < 2 ^ 64 - 1) told.generation (has.generation (subst (λ (k : ℕ). half_cells ≤ k) (sym told.count) full)),
        )

    lacks_numbers : naming.LacksNumbers c.tables → LacksNumbers of_roots m
    lacks_numbers (inl is) = inl (at.last ∙ sym at.represents.names_are.last_is ∙ is)
    lacks_numbers (inr (full, most)) = inr (subst (λ (k : ℕ). half_cells ≤ k) at.represents.names_are.count full, sym at.represents.names_are.generation ∙ most)

    -- slots and collection are what they were
    still : d.tables.held ≡ c.tables.held → d.collection ≡ c.collection → SameCollection d.tables.held m.swept m.collection d.collection
    still held same = subst (λ (t : SlotTable). SameCollection t m.swept m.collection d.collection) (sym held) (same_at same)

    -- what a delete that was done makes of the tables
    deleted : (name : List ℕ) (sequence : ℕ) (effect : NamesOne name Gone (Ok (answers.Deleted sequence)) c d) → d.parts ≡ c.parts → d.acknowledged ≡ one_more c.acknowledged
        → d.tables.held ≡ c.tables.held → d.collection ≡ c.collection → d.stop ≡ None → IsMachine followed (remove name) d
    deleted name sequence effect same count held collects stop =
        let made = effect.made.alone.store_has m.store at.represents at.valid at.free in
        record {
          represents = made.represents;
          valid = made.valid;
          free = at.free;
          names =
              λ q. finite.get-remove nat_list_cmp_total m.now.names name q ∙ ap (cond (eq_by_cmp (slice_cmp nat_cmp) q name) None) (at.names q)
              ∙ gone (eq_by_cmp (slice_cmp nat_cmp) q name) (finite.get (names_of m.store) q)
              ∙ ap (option_map (λ (n : Named). n.root)) (sym (finite.get-remove nat_list_cmp_total (names_of m.store) name q))
              ∙ ap (λ (ns : NameMap). option_map (λ (n : Named). n.root) (finite.get ns q)) (sym (names_after_change name Gone m.store at.valid.follow));
          last = ap suc at.last ∙ sym (last_changed name Gone m.store at.valid.follow);
          last_id = at.last_id ∙ ap (λ (t : SlotTable). t.last_id) (sym held);
          last_within = at.last_within;
          parts = subst (SameParts m.parts) (sym same) at.parts;
          acknowledged = ap one_more at.acknowledged ∙ sym count;
          index = λ running. same_index effect.index (at.index running);
          collection = still held collects;
          state = subst (λ (s : RunState Root). SameStop (one_more m.acknowledged) s d.stop) (sym runs) (subst (SameStop (one_more m.acknowledged) Running) (sym stop) tt);
        }
      where
        gone : (b : Bool) (o : Option Named) → cond b None (option_map (λ (n : Named). n.root) o) ≡ option_map (λ (n : Named). n.root) (cond b None o)
        gone true o = refl
        gone false o = refl

    -- a write failed: nothing of the tables is another, and it is stopped
    pub stopped_at : (found : Option (Found Root)) (stores : List Store) → d.tables ≡ c.tables → d.disk.size ≡ c.disk.size → d.parts ≡ c.parts
        → d.acknowledged ≡ c.acknowledged → SameCollection c.tables.held m.swept m.collection d.collection → (refusal : Refusal)
        → d.stop ≡ Some (record { refusal = refusal; at = c.acknowledged })
        → IsMachine followed (record m { state = Stopped found stores }) d
    stopped_at found stores tables size same count collects refusal stop = record {
      represents = subst (Represents m.store None) (sym tables) at.represents;
      valid = subst (λ (s : ℕ). IsValidFor s m.store) (sym size) at.valid;
      free = at.free;
      names = at.names;
      last = at.last;
      last_id = at.last_id ∙ ap (λ (t : Tables). t.held.last_id) (sym tables);
      last_within = at.last_within;
      parts = subst (SameParts m.parts) (sym same) at.parts;
      acknowledged = at.acknowledged ∙ sym count;
      index = λ running. absurd (let wrong : Stopped found stores ≡ Running = running in cc);
      collection = subst (λ (t : Tables). SameCollection t.held m.swept m.collection d.collection) (sym tables) collects;
      state = subst (SameStop m.acknowledged (Stopped found stores)) (sym stop) (sym at.acknowledged);
    }

    may_delete : (name : List ℕ) → naming.MayDelete c.tables name → IsName name × HasName of_roots name m
    may_delete name may = (may.named, name_there name may.there)

    pub delete_row : (name : List ℕ) (a : ℕ) (answer : Result Answer Refusal) (buf : List ℕ) → DeleteRow name answer c d → NamesOne name Gone answer c d
        → d.collection ≡ c.collection
        → StopsAfter (steps.Delete name) answer c.acknowledged d.stop → d.acknowledged ≡ counted answer c.acknowledged
        → Left a (asked.Delete name) (answered_by answer buf)
    delete_row name a (Ok (answers.Deleted sequence)) buf (may, is, same, held) effect collects stop count =
        let can = (effect.made.alone.store_has m.store at.represents at.valid at.free).can.0.0 in (
          remove name,
          record {
            named = may.named;
            there = name_there name may.there;
            numbers = (subst (λ (k : ℕ). k < 2 ^ 64 - 1) (sym at.last) can.number, can.rise);
            sequence_is = is ∙ ap suc (at.represents.names_are.last_is ∙ sym at.last);
            others = refl;
          },
          deleted name sequence effect same count held collects stop,
        )
    delete_row name a (Err refusals.Memory) buf (cause, same) effect collects stop count =
        (m, refl, as_it_was (left_by effect.kept effect.disk.later.size_is count (same_at collects) stop) same)
    delete_row name a (Err refusals.BadName) buf (cause, same) effect collects stop count = (
      m,
      ((λ taken is. absurd (let wrong : None ≡ Some taken = is in cc)), (cause, refl)),
      as_it_was (left_by effect.kept effect.disk.later.size_is count (same_at collects) stop) same,
    )
    delete_row name a (Err refusals.NoFile) buf (cause, same) effect collects stop count = (
      m,
      ((λ taken is. absurd (let wrong : None ≡ Some taken = is in cc)), (cause.0, no_name name cause.1, refl)),
      as_it_was (left_by effect.kept effect.disk.later.size_is count (same_at collects) stop) same,
    )
    delete_row name a (Err refusals.Numbers) buf (cause, same) effect collects stop count =
        let may = may_delete name cause.0 in (
          m,
          ((λ taken is. absurd (let wrong : None ≡ Some taken = is in cc)), (may.0, may.1, lacks_numbers cause.1, refl)),
          as_it_was (left_by effect.kept effect.disk.later.size_is count (same_at collects) stop) same,
        )
    delete_row name a (Err refusals.DiskWrite) buf (cause, same) effect collects stop count =
        let may = may_delete name cause.0 in (
          record m { state = Stopped (Some (without_name of_roots name m.now)) (broken_by of_roots name Gone m.store) },
          ((λ taken is. absurd (let wrong : None ≡ Some taken = is in cc)), (may.0, may.1, has_numbers cause.1, refl)),
          stopped_at (Some (without_name of_roots name m.now)) (broken_by of_roots name Gone m.store) effect.kept.tables_are effect.disk.later.size_is same count
              (same_at collects) refusals.DiskWrite stop,
        )
    delete_row name a (Err refusal) buf (cause, same) effect collects stop count = absurd cause
    delete_row name a (Ok answer) buf row effect collects stop count = absurd row

    -- ---- a list, and counts

    pub list_row : (a : ℕ) (answer : Result Answer Refusal) (buf : List ℕ) → ListRow answer c d → Rested → Left a asked.ListNames (answered_by answer buf)
    list_row a (Ok (answers.Listed files)) buf (is, same) r =
        (m, (is ∙ ap listing_of at.represents.names_are.names_are ∙ sym listed, refl), as_it_was r same)
      where
        of_map : (es : List (List ℕ × Named))
            → map (λ (e : List ℕ × Root). let n : NamedRoot = record { name = e.0; root = e.1 } in n) (changed (List ℕ) Named Root order (λ (n : Named). n.root) es)
            ≡ map named_root es
        of_map [] = refl
        of_map (e ∷ es) = ap (λ (ns : List NamedRoot). named_root e ∷ ns) (of_map es)

        listed : listing of_roots m.now ≡ listing_of (names_of m.store)
        listed =
            ap (map (λ (e : List ℕ × Root). record { name = e.0; root = e.1 })) (entries_changed Named Root (λ (n : Named). n.root) (names_of m.store) m.now.names at.names)
            ∙ of_map (finite.entries (names_of m.store))
    list_row a (Err refusals.Memory) buf same r = (m, refl, as_it_was r same)
    list_row a (Ok answer) buf row r = absurd row
    list_row a (Err refusal) buf row r = absurd row

    names_many : finite.len m.now.names ≡ finite.len (names_of m.store)
    names_many = len_changed Named Root (λ (n : Named). n.root) (names_of m.store) m.now.names at.names

    pub stat_row : (a : ℕ) (answer : Result Answer Refusal) (buf : List ℕ) → StatRow answer c d → Rested → Left a asked.Stat (answered_by answer buf)
    stat_row a (Ok answer) buf (is, same) r =
        subst (λ (x : Answer). Left a asked.Stat (answered_by (Ok x) buf)) (sym (is.store_has m.store at.represents at.valid at.free))
        (m, (ap (λ (k : ℕ). counted_of k m.store) (sym names_many), refl), as_it_was r same)
    stat_row a (Err refusal) buf row r = absurd row

    -- nothing is said of roots
    no_part : (a : ℕ) → IsAtRightPart of_roots a asked.Unique m
    no_part a taken is = absurd (let wrong : None ≡ Some taken = is in cc)

    pub unique_row : (a : ℕ) (answer : Result Answer Refusal) (buf : List ℕ) → UniqueRow answer c d → Rested → Left a asked.Unique (answered_by answer buf)
    unique_row a (Ok (answers.Unique segments bytes)) buf row r = (m, (tt, refl), as_it_was r row.parts_are)
    unique_row a (Ok answer) buf row r = absurd row
    unique_row a (Err refusals.Memory) buf row r = (m, refl, as_it_was r row.parts_are)
    unique_row a (Err refusals.DiskRead) buf row r = (m, (no_part a, refl), as_it_was r row.parts_are)
    unique_row a (Err (refusals.Corrupt slot offset count want got)) buf row r = (m, (no_part a, ((λ known. known), refl)), as_it_was r row.parts_are)
    unique_row a (Err (refusals.Missing key)) buf row r = (m, (no_part a, ((λ known. known), refl)), as_it_was r row.parts_are)
    unique_row a (Err (refusals.Damaged byte why)) buf row r = (m, (no_part a, ((λ known. known), refl)), as_it_was r row.parts_are)
    unique_row a (Err refusal) buf row r =
        let own : HasIndex followed m.swept m.forgotten m.store.held c.known = at.index runs in
        absurd (stops_trees own.places c.disk d.disk (listing_of c.tables.names) refusal (row.cause own.places own.known_is))

    -- ---- a claim

    pub writing_at : (a : ℕ) (pins : PinMap) → part_of c.parts a ≡ core.Writing pins → part_in m a ≡ Writing pins
    writing_at a pins is = by (part_in m a) (subst (SamePart (part_in m a)) is (part_at m.parts c.parts a at.parts))
      where
        by : (p : RootPart) → SamePart p (core.Writing pins) → p ≡ Writing pins
        by Idle same = absurd same
        by (Writing own) same = ap Writing (sym same)
        by (Reading root rest) same = absurd same

    keeps_at : (a : ℕ) (seg : KindSegment) (may : claiming.MayClaim (part_of c.parts a) seg) → Keeps of_roots a (first_unpinned seg) m
    keeps_at a seg may = record { pins = may.pins; writing = writing_at a may.pins may.writing; children = may.pinned }

    -- what the index says of a key, where no collection copied
    looked_up : (P : Option PlaceValue → Type 0) (key : List ℕ) → KnownMap c.known (λ index. P (finite.get index key)) → m.swept ≡ false
        → P (option_map (λ (x : KeyCopy). x.place) (newest 0 m.store.held key))
    looked_up P key found swept =
        let own : HasIndex followed m.swept m.forgotten m.store.held c.known = at.index runs in
        subst P ((own.newest swept).1 key) (found own.places own.known_is)

    copy_of : (o : Option KeyCopy) (place : PlaceValue) → option_map (λ (x : KeyCopy). x.place) o ≡ Some place → (copy : KeyCopy) × (o ≡ Some copy) × (copy.place ≡ place)
    copy_of None place is = absurd (let wrong : None ≡ Some place = is in cc)
    copy_of (Some copy) place is = (copy, refl, (let same : Some copy.place ≡ Some place = is in cc))

    no_copy : (o : Option KeyCopy) → option_map (λ (x : KeyCopy). x.place) o ≡ None → o ≡ None
    no_copy None is = refl
    no_copy (Some copy) is = absurd (let wrong : Some copy.place ≡ None = is in cc)

    none_forgotten : (key : List ℕ) → m.swept ≡ false → ¬ (Contains m.forgotten key)
    none_forgotten key swept is = absurd (omega (arith, (subst (λ (keys : List (List ℕ)). Contains keys key) ((at.index runs).newest swept).0 is).1))

    held_at : (seg : KindSegment) (place : PlaceValue) → KnownMap c.known (λ index. finite.get index (segment_key seg.kind seg.segment) ≡ Some place)
        → place.length ≡ length seg.segment.bytes → IsIndexed of_roots m → HasLength m.store seg × ¬ (Contains m.forgotten (segment_key seg.kind seg.segment))
    held_at seg place found long (inl known) = absurd known
    held_at seg place found long (inr swept) =
        let key = segment_key seg.kind seg.segment in
        let copy = copy_of (newest 0 m.store.held key) place (looked_up (λ o. o ≡ Some place) key found swept) in
        ((copy.0, copy.1, ap (λ (p : PlaceValue). p.length) copy.2 ∙ long), none_forgotten key swept)

    lacked_at : (seg : KindSegment) → KnownMap c.known (λ index. finite.get index (segment_key seg.kind seg.segment) ≡ None) → IsIndexed of_roots m
        → IsLacked m.store m.forgotten (segment_key seg.kind seg.segment)
    lacked_at seg none (inl known) = absurd known
    lacked_at seg none (inr swept) =
        let key = segment_key seg.kind seg.segment in
        inl (no_copy (newest 0 m.store.held key) (looked_up (λ o. o ≡ None) key none swept))

    pub claim_row : (seg : KindSegment) (a : ℕ) (answer : Result Answer Refusal) (buf : List ℕ) → ClaimRow seg a answer c d → Rested
        → Left a (asked.Claim seg) (answered_by answer buf)
    claim_row seg a (Ok answers.Held) buf is r =
        let may = is.claimed.may in
        let pins : PinMap = finite.insert may.pins (segment_key seg.kind seg.segment) (pin_of seg) in
        let collection = keeping (segment_key seg.kind seg.segment ∷ []) m.collection in (
          record (put_at m a (Writing pins)) { collection = collection },
          record {
            may = record { pins = may.pins; writing = writing_at a may.pins may.writing; children = may.pinned };
            held = λ indexed. held_at seg is.claimed.looked_up.place is.claimed.looked_up.found is.claimed.looked_up.length_is indexed;
            same = λ known. absurd known;
            others = refl;
          },
          goes_on d (slice_set m.parts a (Writing pins)) collection r.tables r.size
              (subst (SameParts (slice_set m.parts a (Writing pins))) (sym is.claimed.parts_are) (set_at m.parts c.parts a (Writing pins) (core.Writing pins) at.parts refl))
              r.count r.index (kept_same (segment_key seg.kind seg.segment ∷ []) c.tables.held m.swept m.collection d.collection r.collects) runs r.stop,
        )
    claim_row seg a (Ok answers.Absent) buf is r =
        (m, (keeps_at a seg is.claimed.may, (λ indexed. lacked_at seg is.claimed.looked_up indexed), refl), as_it_was r is.claimed.parts_are)
    claim_row seg a (Err refusals.Memory) buf (cause, same) r = (m, refl, as_it_was r same)
    claim_row seg a (Err (refusals.WrongPart kind)) buf (cause, same) r = wrong a (asked.Claim seg) kind kinds.Writing refl cause.0 cause.1 r same
    claim_row seg a (Err (refusals.Unpinned key)) buf ((pins, is, first), same) r =
        (m, (right_at a (asked.Claim seg) kinds.Writing refl (ap core_kinds.kind_of is), ((pins, writing_at a pins is, first), refl)), as_it_was r same)
    claim_row seg a (Err refusals.DiskRead) buf ((may, cause), same) r =
        (m, (right_at a (asked.Claim seg) kinds.Writing refl (ap core_kinds.kind_of may.writing), (keeps_at a seg may, refl)), as_it_was r same)
    claim_row seg a (Err (refusals.Clash key other)) buf ((may, cause), same) r =
        (m, (right_at a (asked.Claim seg) kinds.Writing refl (ap core_kinds.kind_of may.writing), (keeps_at a seg may, (λ known. absurd known), refl)), as_it_was r same)
    claim_row seg a (Err (refusals.Corrupt slot offset count want got)) buf ((may, cause), same) r =
        (m, (right_at a (asked.Claim seg) kinds.Writing refl (ap core_kinds.kind_of may.writing), (keeps_at a seg may, ((λ known. known), refl))), as_it_was r same)
    claim_row seg a (Err (refusals.Damaged byte why)) buf ((may, cause), same) r =
        absurd (let wrong : None ≡ Some (at.index runs).places = sym cause.0 ∙ (at.index runs).known_is in cc)
    claim_row seg a (Err refusal) buf row r = absurd row.0.1.refused.2
    claim_row seg a (Ok answer) buf row r = absurd row

    -- ---- a commit

    abbrev named : ℕ → List ℕ → Root → M
    named a name root = record (put_at m a Idle) { now = with_name of_roots name root m.now; store = with_change name (Put root) m.store; acknowledged = one_more m.acknowledged }

    committed : (a : ℕ) (name : List ℕ) (root : Root) (sequence : ℕ) (effect : NamesOne name (Put root) (Ok (answers.Committed sequence)) c d)
        → d.parts ≡ with_part c.parts a core.Idle → d.acknowledged ≡ one_more c.acknowledged → d.tables.held ≡ c.tables.held → d.collection ≡ c.collection → d.stop ≡ None
        → IsMachine followed (named a name root) d
    committed a name root sequence effect parts_are count held collects stop =
        let made = effect.made.alone.store_has m.store at.represents at.valid at.free in
        record {
          represents = made.represents;
          valid = made.valid;
          free = at.free;
          names = λ q. finite.get-insert nat_list_cmp_total m.now.names name root q ∙ ap (cond (eq_by_cmp (slice_cmp nat_cmp) q name) (Some root)) (at.names q)
              ∙ here (eq_by_cmp (slice_cmp nat_cmp) q name) (suc (last_sequence m.store)) (finite.get (names_of m.store) q)
              ∙ ap (option_map (λ (n : Named). n.root))
              (sym (finite.get-insert nat_list_cmp_total (names_of m.store) name (record { sequence = suc (last_sequence m.store); root = root }) q))
              ∙ ap (λ (ns : NameMap). option_map (λ (n : Named). n.root) (finite.get ns q)) (sym (names_after_change name (Put root) m.store at.valid.follow));
          last = ap suc at.last ∙ sym (last_changed name (Put root) m.store at.valid.follow);
          last_id = at.last_id ∙ ap (λ (t : SlotTable). t.last_id) (sym held);
          last_within = at.last_within;
          parts = subst (SameParts (slice_set m.parts a Idle)) (sym parts_are) (set_at m.parts c.parts a Idle core.Idle at.parts tt);
          acknowledged = ap one_more at.acknowledged ∙ sym count;
          index = λ running. same_index effect.index (at.index running);
          collection = still held collects;
          state = subst (λ (s : RunState Root). SameStop (one_more m.acknowledged) s d.stop) (sym runs) (subst (SameStop (one_more m.acknowledged) Running) (sym stop) tt);
        }
      where
        here : (b : Bool) (k : ℕ) (o : Option Named)
            → cond b (Some root) (option_map (λ (n : Named). n.root) o) ≡ option_map (λ (n : Named). n.root) (cond b (Some (record { sequence = k; root = root })) o)
        here true k o = refl
        here false k o = refl

    room_at : (name : List ℕ) → HasRoomIn c.tables.names name → HasRoom of_roots name m
    room_at name (inl there) = inl (name_there name there)
    room_at name (inr few) = inr (subst (λ (k : ℕ). k < MOST_NAMES) (sym names_many) (names_so (λ names. finite.len names < MOST_NAMES) few))

    may_commit : (a : ℕ) (name : List ℕ) (root : Root) → writers.MayCommit (part_of c.parts a) c.tables name root → MayCommit of_roots a name root m
    may_commit a name root may =
        record { pins = may.pins; writing = writing_at a may.pins may.writing; named = may.may_name.named; room = room_at name may.may_name.room; kept = may.stored }

    unkept : (pins : PinMap) (root : Root) (key : List ℕ) → writers.IsNotStored pins root key → IsKept pins root → ⊥
    unkept pins root key is (inl empty) = is.some empty
    unkept pins root key is (inr there) = absurd (let wrong : false ≡ true = sym is.unpinned ∙ there in cc)

    pub commit_row : (name : List ℕ) (root : Root) (a : ℕ) (answer : Result Answer Refusal) (buf : List ℕ) → CommitRow name root a answer c d
        → NamesOne name (Put root) answer c d → d.collection ≡ c.collection → StopsAfter (steps.Commit name root) answer c.acknowledged d.stop
        → d.acknowledged ≡ counted answer c.acknowledged → Left a (asked.Commit name root) (answered_by answer buf)
    commit_row name root a (Ok (answers.Committed sequence)) buf (may, is, parts_are, held) effect collects stop count =
        let can = (effect.made.alone.store_has m.store at.represents at.valid at.free).can.0 in (
          named a name root,
          record {
            may = may_commit a name root may;
            right = tt;
            whole = λ key needs. absurd needs;
            numbers = (subst (λ (k : ℕ). k < 2 ^ 64 - 1) (sym at.last) can.0.number, can.0.rise);
            sequence_is = is ∙ ap suc (at.represents.names_are.last_is ∙ sym at.last);
            others = refl;
          },
          committed a name root sequence effect parts_are count held collects stop,
        )
    commit_row name root a (Err refusals.Memory) buf row effect collects stop count =
        (m, refl, as_it_was (left_by effect.kept effect.disk.later.size_is count (same_at collects) stop) row.1)
    commit_row name root a (Err refusals.Numbers) buf row effect collects stop count =
        let may = may_commit a name root row.0.0 in (
          m,
          (right_at a (asked.Commit name root) kinds.Writing refl (ap core_kinds.kind_of row.0.0.writing), (may, lacks_numbers row.0.1, refl)),
          as_it_was (left_by effect.kept effect.disk.later.size_is count (same_at collects) stop) row.1,
        )
    commit_row name root a (Err refusals.DiskWrite) buf row effect collects stop count =
        let may = may_commit a name root row.0.0 in (
          record m { state = Stopped (Some (with_name of_roots name root m.now)) (broken_by of_roots name (Put root) m.store) },
          (right_at a (asked.Commit name root) kinds.Writing refl (ap core_kinds.kind_of row.0.0.writing), (may, has_numbers row.0.1, tt, (λ key needs. absurd needs), refl)),
          stopped_at (Some (with_name of_roots name root m.now)) (broken_by of_roots name (Put root) m.store) effect.kept.tables_are effect.disk.later.size_is row.1
              count (same_at collects) refusals.DiskWrite stop,
        )
    commit_row name root a (Err (refusals.WrongPart kind)) buf row effect collects stop count =
        wrong a (asked.Commit name root) kind kinds.Writing refl row.0.0 row.0.1 (left_by effect.kept effect.disk.later.size_is count (same_at collects) stop) row.1
    commit_row name root a (Err (refusals.Unpinned key)) buf row effect collects stop count =
        let pins = row.0.0 in
        let is = row.0.1 in
        let may = row.0.2 in
        let not = row.0.3 in (
          m,
          (
            right_at a (asked.Commit name root) kinds.Writing refl (ap core_kinds.kind_of is),
            (may.named, room_at name may.room, not.key_is, (pins, writing_at a pins is, unkept pins root key not), refl),
          ),
          as_it_was (left_by effect.kept effect.disk.later.size_is count (same_at collects) stop) row.1,
        )
    commit_row name root a (Err refusals.BadName) buf row effect collects stop count = (
      m,
      (right_at a (asked.Commit name root) kinds.Writing refl row.0.0, (row.0.1, refl)),
      as_it_was (left_by effect.kept effect.disk.later.size_is count (same_at collects) stop) row.1,
    )
    commit_row name root a (Err refusals.TooMany) buf row effect collects stop count = (
      m,
      (
        right_at a (asked.Commit name root) kinds.Writing refl row.0.0,
        (row.0.1.0, no_name name row.0.1.1.0, subst (λ (k : ℕ). MOST_NAMES ≤ k) (sym names_many) (names_so (λ names. MOST_NAMES ≤ finite.len names) row.0.1.1.1), refl),
      ),
      as_it_was (left_by effect.kept effect.disk.later.size_is count (same_at collects) stop) row.1,
    )
    commit_row name root a (Err refusal) buf row effect collects stop count = absurd row.0.1
    commit_row name root a (Ok answer) buf row effect collects stop count = absurd row

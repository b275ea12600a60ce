-- A step of the machine of files is one of the machine of roots, once all but the roots is forgotten.
use Rattle.store_machine.proofs.Prelude.{◌≡◌, inl, inr, ◌≤◌, ◌<◌, ◌+◌, ◌-◌, ◌^◌, ℕ, suc, [], ◌∷◌, ◌++◌, length, map, Contains, Option, Some, None, option_map, Result, Ok, Err, refl, sym, ◌∙◌, ap, subst, PinMap, pin_of, KindSegment, segment_key, Root, Put, Gone, half_cells, LAST_ID, MOST_NAMES, RESERVE, Top, start_of, PartKind, Phase, Refusal, Store, free_slots, CanRise, with_change, with_sealed, Asked, Begins, GoesOn, IsCollecting, Makes, MayBreak, marking, marks_of, phase_in, Done, Forgets, Rests, SameNow, SamePart, SameState, asked_of, forget_collection, Answers, ByState, Claims, Deletes, Does, GivesBytes, GivesUp, HasName, HasNumbers, HasRoom, HasSlot, IsAtEnd, IsAtRightPart, IsUnkept, broken_by, Keeps, LacksNumbers, MayCommit, OpensValue, Refuses, RefusesClaim, RefusesCommit, RefusesDelete, RefusesGcStep, RefusesOn, RefusesRead, RefusesSeal, RefusesUnique, Seals, LegalBy, counted, with_name, without_name, Collection, Found, Idle, Writing, Reading, RunState, Running, Stopped, keeping, kind_of, one_more, part_in, put_at, values_read, MayBeFound, MayRefuseOpening, Reopens, freeing, IsStuck, of_files, of_roots, top_of}
use Rattle.std.proofs.Common.{List, take}
use Rattle.std.specs.FinMap as finite
use Rattle.container_meta.specs.Segments.{Contents}
use Rattle.refusals.specs.declared.refusal.PartKind.TheVariants as kinds
use Rattle.refusals.specs.declared.refusal.Phase.TheVariants as phases
use Rattle.refusals.specs.declared.refusal.Refusal.TheVariants as refusals
use Rattle.store_model.specs.Slots.{newest}
use Rattle.store_model.specs.Trees.{root_of}
use Rattle.store_machine.specs.Asked as asked
use Rattle.store_machine.specs.Collecting.{Ends, StandIn, stores_without_some}
use Rattle.store_machine.specs.Done as done
use Rattle.store_machine.specs.Forgetting.{RunsAreForgotten, StepsAreForgotten}
use Rattle.store_machine.specs.Legal.{Commits, taken_by}
use Rattle.store_machine.specs.Needs.{HasLength, IsLacked}
use Rattle.store_machine.specs.Offers.{sealed_in, stores_with_some}
use Rattle.store_machine.specs.Opening.{Opens}
use Rattle.store_machine.proofs.AddedSame.{all_added, sealed_same, stores_same}
use Rattle.store_machine.proofs.ForgottenCollection.{goes_same}
use Rattle.store_machine.proofs.Parts.{F, G, begun_by, collecting, fresh, fresh_same, gone_by, idle_same, kept_map, keys_same, kind_same, map_two, part_at, put, read_same, reading_same, with_collection, with_names, with_state, with_step, writing_same}
use Rattle.store_machine.proofs.SameNames.{gone_same, knows_same, len_same, listing_same, none_same, put_same, some_same, values_same}
use Rattle.store_machine.proofs.Walks.{ends_both, more_both, next_leaf, start_both}

module _ (m : F) (r : G) (same : Forgets m r) where
  -- ---- where it is said of one, it is of the other

  part_same : (a : ℕ) → SamePart (part_in m a) (part_in r a)
  part_same a = part_at m.parts r.parts a same.parts

  kind_is : (a : ℕ) → kind_of (part_in r a) ≡ kind_of (part_in m a)
  kind_is a = kind_same (part_in m a) (part_in r a) (part_same a)

  idle : (a : ℕ) → part_in m a ≡ Idle → part_in r a ≡ Idle
  idle a is = idle_same (part_in m a) (part_in r a) (part_same a) is

  writing : (a : ℕ) (pins : PinMap) → part_in m a ≡ Writing pins → part_in r a ≡ Writing pins
  writing a pins is = writing_same (part_in m a) (part_in r a) pins (part_same a) is

  reading : (a : ℕ) (file : List ℕ) (rest : List (List ℕ)) → part_in m a ≡ Reading file rest → (tops : List Top) × (part_in r a ≡ Reading (root_of file) tops) × Rests rest tops
  reading a file rest is = reading_same (part_in m a) (part_in r a) file rest (part_same a) is

  on_store : (P : Store → Type 0) → P m.store → P r.store
  on_store P holds = subst P (sym same.store) holds

  on_forgotten : (P : List (List ℕ) → Type 0) → P m.forgotten → P r.forgotten
  on_forgotten P holds = subst P (sym same.forgotten) holds

  runs : (phase : Phase) → IsCollecting phase m.store m.collection → IsCollecting phase r.store r.collection
  runs phase is = on_store (λ (s : Store). IsCollecting phase s r.collection)
      (subst (IsCollecting phase m.store) (sym same.collection) (collecting phase m.store m.collection is))

  none_runs : m.collection ≡ None → r.collection ≡ None
  none_runs none = same.collection ∙ ap (option_map forget_collection) none

  one_runs : (c : Collection (List ℕ)) → m.collection ≡ Some c → r.collection ≡ Some (forget_collection c)
  one_runs c ran = same.collection ∙ ap (option_map forget_collection) ran

  -- what is left of a step
  abbrev Left : (G → Type 0) → F → Type 0
  Left P n = (t : G) × P t × Forgets n t

  stays : (P : G → Type 0) (n : F) → n ≡ m → P r → Left P n
  stays P n is holds = (r, holds, subst (λ (x : F). Forgets x r) (sym is) same)

  goes : (P : G → Type 0) (n o : F) (t : G) → n ≡ o → P t → Forgets o t → Left P n
  goes P n o t is holds left = (t, holds, subst (λ (x : F). Forgets x t) (sym is) left)

  -- ---- steps that are done

  abbrev keeps_same : (a : ℕ) (unkept : PinMap → Option (List ℕ)) → Keeps of_files a unkept m → Keeps of_roots a unkept r
  keeps_same a unkept k = record { pins = k.pins; writing = writing a k.pins k.writing; children = k.children }

  kept_now : (keys : List (List ℕ)) → keeping keys r.collection ≡ option_map forget_collection (keeping keys m.collection)
  kept_now keys = ap (keeping keys) same.collection ∙ kept_map keys m.collection

  claimed : (a : ℕ) (seg : KindSegment) (n : F) → Claims of_files a seg m n → Left (λ t. Claims of_roots a seg r t) n
  claimed a seg n c =
      let keys = segment_key seg.kind seg.segment ∷ [] in
      let part : PinMap = finite.insert c.may.pins (segment_key seg.kind seg.segment) (pin_of seg) in
      let t : G = record (put_at r a (Writing part)) { collection = keeping keys r.collection } in
      goes (λ t. Claims of_roots a seg r t) n (record (put_at m a (Writing part)) { collection = keeping keys m.collection }) t c.others
      (record {
        may = keeps_same a _ c.may;
        held =
            λ indexed. (on_store (λ (s : Store). HasLength s seg) (c.held (inl tt)).0, on_forgotten (λ fs. ¬ (Contains fs (segment_key seg.kind seg.segment))) (c.held (inl tt)).1);
        same = λ known. absurd known;
        others = refl;
      })
      (with_collection (put_at m a (Writing part)) (put_at r a (Writing part)) (put m r same a (Writing part) (Writing part) refl)
      (keeping keys m.collection) (keeping keys r.collection) (kept_now keys))

  sealed : (a : ℕ) (offered : List Contents) (id count : ℕ) (n : F) → Seals of_files a offered id count m n → Left (λ t. Seals of_roots a offered id count r t) n
  sealed a offered id count n c =
      let left = all_added a (take count offered) m n r same c.adds in (
        left.0,
        record {
          offer = c.offer;
          may = keeps_same a _ c.may;
          count_is = c.count_is ∙ sym (sealed_same m r same offered);
          some = c.some;
          fits = λ told. absurd told;
          id_is = c.id_is ∙ ap (λ (k : ℕ). k + count) (sym same.last_id);
          adds = left.1;
        },
        left.2,
      )

  knows : (name : List ℕ) → HasName of_files name m → HasName of_roots name r
  knows name is = knows_same m.now r.now same.now name ∙ is

  rooms : (name : List ℕ) → HasRoom of_files name m → HasRoom of_roots name r
  rooms name (inl is) = inl (knows name is)
  rooms name (inr few) = inr (subst (λ (k : ℕ). k < MOST_NAMES) (sym (len_same m.now r.now same.now)) few)

  numbers : HasNumbers of_files m → HasNumbers of_roots r
  numbers has = (subst (λ (k : ℕ). k < 2 ^ 64 - 1) (sym same.now.last_is) has.0, subst CanRise (sym same.store) has.1)

  no_numbers : LacksNumbers of_files m → LacksNumbers of_roots r
  no_numbers (inl is) = inl (same.now.last_is ∙ is)
  no_numbers (inr is) = inr (subst (λ (s : Store). (half_cells ≤ length s.records) × (s.selector.generation ≡ 2 ^ 64 - 1)) (sym same.store) is)

  may_commit : (a : ℕ) (name file : List ℕ) → MayCommit of_files a name file m → MayCommit of_roots a name (root_of file) r
  may_commit a name file may = record { pins = may.pins; writing = writing a may.pins may.writing; named = may.named; room = rooms name may.room; kept = may.kept }

  committed : (a : ℕ) (name file : List ℕ) (sequence : ℕ) (n : F) → Commits of_files a name file sequence m n → Left (λ t. Commits of_roots a name (root_of file) sequence r t) n
  committed a name file sequence n c =
      let t : G =
      record (put_at r a Idle) {
        now = with_name of_roots name (root_of file) r.now;
        store = with_change name
            (Put (root_of file)) r.store;
        acknowledged = one_more r.acknowledged;
      } in
      goes (λ t. Commits of_roots a name (root_of file) sequence r t) n
      (record (put_at m a Idle) {
        now = with_name of_files name file m.now;
        store = with_change name
            (Put (root_of file)) m.store;
        acknowledged = one_more m.acknowledged;
      }) t c.others
      (record {
        may = may_commit a name file c.may;
        right = tt;
        whole = λ key needs. absurd needs;
        numbers = numbers c.numbers;
        sequence_is = c.sequence_is ∙ ap suc (sym same.now.last_is);
        others = refl;
      })
      (with_names (put_at m a Idle) (put_at r a Idle) (put m r same a Idle Idle tt) (with_name of_files name file m.now)
      (with_name of_roots name (root_of file) r.now) (with_change name (Put (root_of file))) (put_same m.now r.now same.now name file c.right))

  deleted : (name : List ℕ) (sequence : ℕ) (n : F) → Deletes of_files name sequence m n → Left (λ t. Deletes of_roots name sequence r t) n
  deleted name sequence n c =
      let t : G = record r { now = without_name of_roots name r.now; store = with_change name Gone r.store; acknowledged = one_more r.acknowledged } in
      goes (λ t. Deletes of_roots name sequence r t) n
      (record m { now = without_name of_files name m.now; store = with_change name Gone m.store; acknowledged = one_more m.acknowledged }) t c.others
      (record { named = c.named; there = knows name c.there; numbers = numbers c.numbers; sequence_is = c.sequence_is ∙ ap suc (sym same.now.last_is); others = refl })
      (with_names m r same (without_name of_files name m.now) (without_name of_roots name r.now) (with_change name Gone) (gone_same m.now r.now same.now name))

  opened : (a : ℕ) (name : List ℕ) (count : ℕ) (n : F) → OpensValue of_files a name count m n → Left (λ t. OpensValue of_roots a name count r t) n
  opened a name count n (named, is_idle, (file, rest, found, starts, count_is, others)) =
      let tops : List Top = start_of (top_of (root_of file)) in
      goes (λ t. OpensValue of_roots a name count r t) n (put_at m a (Reading file rest)) (put_at r a (Reading (root_of file) tops)) others
      (named, idle a is_idle, (root_of file, tops, some_same m.now r.now same.now name file found, refl, count_is, refl))
      (put m r same a (Reading file rest) (Reading (root_of file) tops)
      (refl, subst (λ (l : List (List ℕ)). Rests l tops) (sym starts) (start_both file (same.now.few name file found))))

  given : (a : ℕ) (bytes : List ℕ) (n : F) → GivesBytes of_files a bytes m n → Left (λ t. GivesBytes of_roots a bytes r t) n
  given a bytes n (file, rest, after, was, gives, others) =
      let read = reading a file rest was in
      let next = next_leaf bytes after read.0 (subst (λ (l : List (List ℕ)). Rests l read.0) gives read.2) in
      goes (λ t. GivesBytes of_roots a bytes r t) n (put_at m a (Reading file after)) (put_at r a (Reading (root_of file) next.0)) others
      (root_of file, read.0, next.0, read.1, next.1, refl)
      (put m r same a (Reading file after) (Reading (root_of file) next.0) (refl, next.2))

  at_end : (a : ℕ) (n : F) → IsAtEnd of_files a m n → Left (λ t. IsAtEnd of_roots a r t) n
  at_end a n (file, rest, was, ends, others) =
      let read = reading a file rest was in
      stays (λ t. IsAtEnd of_roots a r t) n others (root_of file, read.0, read.1, ends_both read.0 (subst (λ (l : List (List ℕ)). Rests l read.0) ends read.2), refl)

  given_up : (a : ℕ) (kind : PartKind) (n : F) → GivesUp of_files a kind m n → Left (λ t. GivesUp of_roots a kind r t) n
  given_up a kind n (is, others) = goes (λ t. GivesUp of_roots a kind r t) n (put_at m a Idle) (put_at r a Idle) others (kind_is a ∙ is, refl) (put m r same a Idle Idle tt)

  -- ---- a collection

  started_same : (percent snapshot : ℕ) → finite.values r.now.names ++ values_read r.parts ≡ map root_of (finite.values m.now.names ++ values_read m.parts)
      → begun_by percent snapshot r ≡ forget_collection (begun_by percent snapshot m)
  started_same percent snapshot values_are = λ i. record {
    percent = percent;
    snapshot = snapshot;
    stage = marking (marks_of (same.store i).held);
    recorded = [];
    changes = [];
    values = values_are i;
    keys = keys_same m.parts r.parts same.parts i;
  }

  pub begun_same : (percent snapshot : ℕ) → begun_by percent snapshot r ≡ forget_collection (begun_by percent snapshot m)
  begun_same percent snapshot = started_same percent snapshot
      (ap (λ (vs : List Root). vs ++ values_read r.parts) (values_same m.now r.now same.now)
      ∙ ap (λ (vs : List Root). map root_of (finite.values m.now.names) ++ vs) (read_same m.parts r.parts same.parts)
      ∙ sym (map_two (finite.values m.now.names) (values_read m.parts)))

  begun : (percent snapshot : ℕ) (n : F) → Begins of_files percent snapshot m n → Left (λ t. Begins of_roots percent snapshot r t) n
  begun percent snapshot n (none, is, others) =
      goes (λ t. Begins of_roots percent snapshot r t) n (record m { collection = Some (begun_by percent snapshot m) })
      (record r { collection = Some (begun_by percent snapshot r) }) others
      (none_runs none, is ∙ ap suc (sym same.last_id), refl)
      (with_collection m r same (Some (begun_by percent snapshot m)) (Some (begun_by percent snapshot r)) (ap Some (begun_same percent snapshot)))

  gone_on : (phase : Phase) (n : F) → GoesOn of_files phase m n → Left (λ t. GoesOn of_roots phase r t) n
  gone_on phase n g =
      let w = g.went in
      goes (λ t. GoesOn of_roots phase r t) n (gone_by phase g.c w n.store m) (gone_by phase (forget_collection g.c) w n.store r) g.others
      (record {
        c = forget_collection g.c;
        ran = one_runs g.c g.ran;
        phase_is = on_store (λ (s : Store). phase ≡ phase_in s g.c) g.phase_is;
        went = w;
        goes = goes_same m r same phase g.c w g.goes;
        makes = on_store (λ (s : Store). Makes w.changes s n.store) g.makes;
        others = refl;
      })
      (with_step m r same phase g.c w n.store)

  ended : (freed copied : ℕ) (n : F) → Ends of_files freed copied m n → Left (λ t. Ends of_roots freed copied r t) n
  ended freed copied n e =
      goes (λ t. Ends of_roots freed copied r t) n (record m { collection = None }) (record r { collection = None }) e.others
      (record { c = forget_collection e.c; ran = one_runs e.c e.ran; s = e.s; at_end = e.at_end; freed_is = e.freed_is; copied_is = e.copied_is; others = refl })
      (with_collection m r same None None refl)

  lacks_same : (key : List ℕ) → IsLacked m.store m.forgotten key → IsLacked r.store r.forgotten key
  lacks_same key (inl none) = inl (on_store (λ (s : Store). newest 0 s.held key ≡ None) none)
  lacks_same key (inr gone) = inr (on_forgotten (λ fs. Contains fs key) gone)

  -- ---- every step that is done

  done_same : (a : ℕ) (step : Asked (List ℕ)) (answer : Done) (n : F) → Does of_files a step answer m n → Left (λ t. Does of_roots a (asked_of step) answer r t) n
  done_same a asked.Begin done.Begun n (is, others) =
      goes (λ t. Does of_roots a asked.Begin done.Begun r t) n (put_at m a (Writing finite.empty)) (put_at r a (Writing finite.empty)) others (idle a is, refl)
      (put m r same a (Writing finite.empty) (Writing finite.empty) refl)
  done_same a (asked.Claim seg) done.Held n does = claimed a seg n does
  done_same a (asked.Claim seg) done.Absent n (keeps, told, others) =
      stays (λ t. Does of_roots a (asked.Claim seg) done.Absent r t) n others
      (keeps_same a _ keeps, (λ indexed. lacks_same (segment_key seg.kind seg.segment) (told (inl tt))), refl)
  done_same a (asked.Seal offered) (done.Sealed id count) n does = sealed a offered id count n does
  done_same a (asked.Commit name file) (done.Committed sequence) n does = committed a name file sequence n does
  done_same a asked.Abort done.Aborted n does = given_up a kinds.Writing n does
  done_same a (asked.OpenRead name) (done.Opened count) n does = opened a name count n does
  done_same a asked.ReadNext (done.Bytes bytes) n does = given a bytes n does
  done_same a asked.ReadNext done.End n does = at_end a n does
  done_same a asked.EndRead done.Dropped n does = given_up a kinds.Reading n does
  done_same a (asked.Delete name) (done.Deleted sequence) n does = deleted name sequence n does
  done_same a asked.ListNames (done.Listed files) n (is, others) =
      stays (λ t. Does of_roots a asked.ListNames (done.Listed files) r t) n others (is ∙ sym (listing_same m.now r.now same.now), refl)
  done_same a (asked.GcStart percent) (done.Started snapshot) n does = begun percent snapshot n does
  done_same a asked.GcStep (done.Did phase) n does = gone_on phase n does
  done_same a asked.GcStep (done.Collected freed copied) n does = ended freed copied n does
  done_same a asked.Stat (done.Counted files segments bytes used free) n (is, others) =
      stays (λ t. Does of_roots a asked.Stat (done.Counted files segments bytes used free) r t) n others
      (is ∙ ap (λ (k : ℕ). counted k m.store) (sym (len_same m.now r.now same.now)) ∙ ap (counted (finite.len r.now.names)) (sym same.store), refl)
  done_same a asked.Unique (done.Unique segments bytes) n (is, others) =
      stays (λ t. Does of_roots a asked.Unique (done.Unique segments bytes) r t) n others (tt, refl)
  done_same a step answer n does = absurd does

  -- ---- steps that are refused

  unkept_same : (a : ℕ) (unkept : PinMap → Option (List ℕ)) (key : List ℕ) → IsUnkept of_files a unkept key m → IsUnkept of_roots a unkept key r
  unkept_same a unkept key (pins, is, first) = (pins, writing a pins is, first)

  stop : (P : G → Type 0) (n : F) (other : Option (Found (List ℕ))) (found : Option (Found Root)) (stores others : List Store) → n ≡ record m { state = Stopped other stores }
      → SameState (Stopped other stores) (Stopped found others) → P (record r { state = Stopped found others }) → Left P n
  stop P n other found stores others is one holds = goes P n (record m { state = Stopped other stores }) (record r { state = Stopped found others }) is holds
      (with_state m r same (Stopped other stores) (Stopped found others) one)

  on_id : (P : ℕ → Type 0) → P m.last_id → P r.last_id
  on_id P is = subst P (sym same.last_id) is

  slot_same : (a : ℕ) (offered : List Contents) → HasSlot of_files a offered m → HasSlot of_roots a offered r
  slot_same a offered (keeps, free) = (keeps_same a _ keeps, on_store (λ s. RESERVE < free_slots s.held) free)

  unclaimed : (a : ℕ) (seg : KindSegment) (refusal : Refusal) (n : F) → RefusesClaim of_files a seg refusal m n → Left (λ t. RefusesClaim of_roots a seg refusal r t) n
  unclaimed a seg (refusals.Unpinned key) n (is, others) = stays (λ t. RefusesClaim of_roots a seg (refusals.Unpinned key) r t) n others (unkept_same a _ key is, refl)
  unclaimed a seg refusals.Memory n others = stays (λ t. RefusesClaim of_roots a seg refusals.Memory r t) n others refl
  unclaimed a seg refusals.DiskRead n (keeps, others) = stays (λ t. RefusesClaim of_roots a seg refusals.DiskRead r t) n others (keeps_same a _ keeps, refl)
  unclaimed a seg (refusals.Clash key at) n (keeps, known, others) =
      stays (λ t. RefusesClaim of_roots a seg (refusals.Clash key at) r t) n others (keeps_same a _ keeps, (λ e. absurd e), refl)
  unclaimed a seg (refusals.Corrupt slot offset count want got) n (keeps, (unknown, others)) = absurd (unknown tt)
  unclaimed a seg refusal n refuses = absurd refuses

  unsealed : (a : ℕ) (offered : List Contents) (refusal : Refusal) (n : F) → RefusesSeal of_files a offered refusal m n → Left (λ t. RefusesSeal of_roots a offered refusal r t) n
  unsealed a offered refusals.Memory n others = stays (λ t. RefusesSeal of_roots a offered refusals.Memory r t) n others refl
  unsealed a offered (refusals.Unpinned key) n (is, others) = stays (λ t. RefusesSeal of_roots a offered (refusals.Unpinned key) r t) n others (unkept_same a _ key is, refl)
  unsealed a offered (refusals.Full free) n (keeps, is, few, others) =
      stays (λ t. RefusesSeal of_roots a offered (refusals.Full free) r t) n others (keeps_same a _ keeps, on_store (λ s. free ≡ free_slots s.held) is, few, refl)
  unsealed a offered refusals.Numbers n (slot, none, others) =
      stays (λ t. RefusesSeal of_roots a offered refusals.Numbers r t) n others (slot_same a offered slot, on_id (λ id. LAST_ID ≤ id) none, refl)
  unsealed a offered refusals.DiskRead n ((slot, id), others) =
      stays (λ t. RefusesSeal of_roots a offered refusals.DiskRead r t) n others ((slot_same a offered slot, on_id (λ id. id < LAST_ID) id), refl)
  unsealed a offered (refusals.Clash key at) n ((slot, id), known, others) =
      stays (λ t. RefusesSeal of_roots a offered (refusals.Clash key at) r t) n others ((slot_same a offered slot, on_id (λ id. id < LAST_ID) id), (λ e. absurd e), refl)
  unsealed a offered (refusals.Corrupt at offset count want got) n (slot, (unknown, others)) = absurd (unknown tt)
  unsealed a offered refusals.DiskWrite n ((slot, id), fits, others) =
      stop (λ t. RefusesSeal of_roots a offered refusals.DiskWrite r t) n None None (stores_with_some m.last_id (sealed_in offered m) m.store)
      (stores_with_some r.last_id (sealed_in offered r) r.store) others (stores_same m r same offered)
      ((slot_same a offered slot, on_id (λ id. id < LAST_ID) id), (λ e. absurd e), refl)
  unsealed a offered refusal n refuses = absurd refuses

  uncommitted : (a : ℕ) (name file : List ℕ) (refusal : Refusal) (n : F) → RefusesCommit of_files a name file refusal m n
      → Left (λ t. RefusesCommit of_roots a name (root_of file) refusal r t) n
  uncommitted a name file refusals.Memory n others = stays (λ t. RefusesCommit of_roots a name (root_of file) refusals.Memory r t) n others refl
  uncommitted a name file refusals.BadName n (bad, others) = stays (λ t. RefusesCommit of_roots a name (root_of file) refusals.BadName r t) n others (bad, refl)
  uncommitted a name file refusals.TooMany n (named, none, many, others) =
      stays (λ t. RefusesCommit of_roots a name (root_of file) refusals.TooMany r t) n others
      (named, none_same m.now r.now same.now name none, subst (λ (k : ℕ). MOST_NAMES ≤ k) (sym (len_same m.now r.now same.now)) many, refl)
  uncommitted a name file (refusals.Unpinned key) n (named, room, is, (pins, was, unkept), others) =
      stays (λ t. RefusesCommit of_roots a name (root_of file) (refusals.Unpinned key) r t) n others (named, rooms name room, is, (pins, writing a pins was, unkept), refl)
  uncommitted a name file refusals.Numbers n (may, lacks, others) =
      stays (λ t. RefusesCommit of_roots a name (root_of file) refusals.Numbers r t) n others (may_commit a name file may, no_numbers lacks, refl)
  uncommitted a name file refusals.DiskWrite n (may, has, right, whole, others) =
      stop (λ t. RefusesCommit of_roots a name (root_of file) refusals.DiskWrite r t) n (Some (with_name of_files name file m.now))
      (Some (with_name of_roots name (root_of file) r.now))
      (broken_by of_files name (Put (root_of file)) m.store) (broken_by of_roots name (Put (root_of file)) r.store) others
      (put_same m.now r.now same.now name file right, ap (broken_by of_files name (Put (root_of file))) same.store)
      (may_commit a name file may, numbers has, tt, (λ key needs. absurd needs), refl)
  uncommitted a name file refusal n refuses = absurd refuses

  undeleted : (name : List ℕ) (refusal : Refusal) (n : F) → RefusesDelete of_files name refusal m n → Left (λ t. RefusesDelete of_roots name refusal r t) n
  undeleted name refusals.Memory n others = stays (λ t. RefusesDelete of_roots name refusals.Memory r t) n others refl
  undeleted name refusals.BadName n (bad, others) = stays (λ t. RefusesDelete of_roots name refusals.BadName r t) n others (bad, refl)
  undeleted name refusals.NoFile n (named, none, others) =
      stays (λ t. RefusesDelete of_roots name refusals.NoFile r t) n others (named, none_same m.now r.now same.now name none, refl)
  undeleted name refusals.Numbers n (named, there, lacks, others) =
      stays (λ t. RefusesDelete of_roots name refusals.Numbers r t) n others (named, knows name there, no_numbers lacks, refl)
  undeleted name refusals.DiskWrite n (named, there, has, others) =
      stop (λ t. RefusesDelete of_roots name refusals.DiskWrite r t) n (Some (without_name of_files name m.now)) (Some (without_name of_roots name r.now))
      (broken_by of_files name Gone m.store) (broken_by of_roots name Gone r.store) others
      (gone_same m.now r.now same.now name, ap (broken_by of_files name Gone) same.store) (named, knows name there, numbers has, refl)
  undeleted name refusal n refuses = absurd refuses

  unread : (a : ℕ) (refusal : Refusal) (n : F) → RefusesRead of_files a refusal m n → Left (λ t. RefusesRead of_roots a refusal r t) n
  unread a refusals.DiskRead n (file, [], after, was, gone, others) = absurd gone
  unread a refusals.DiskRead n (file, bytes ∷ rest, after, was, kept, others) =
      let read = reading a file (bytes ∷ rest) was in
      let more = more_both bytes rest read.0 read.2 in
      let stuck : IsStuck read.0 refusals.DiskRead = subst (λ (tops : List Top). IsStuck tops refusals.DiskRead) (sym more.1.1) tt in
      goes (λ t. RefusesRead of_roots a refusals.DiskRead r t) n (put_at m a (Reading file after)) (put_at r a (Reading (root_of file) read.0)) others
      (root_of file, read.0, read.0, read.1, (([], refl), stuck), refl)
      (put m r same a (Reading file after) (Reading (root_of file) read.0) (refl, subst (λ (l : List (List ℕ)). Rests l read.0) (sym kept) read.2))
  unread a refusal n (file, [], after, was, gone, others) = absurd gone
  unread a refusal n (file, bytes ∷ rest, after, was, gone, others) = absurd gone

  -- which stores may stand once a step of a collection broke off
  broken : (stores : List Store) → MayBreak of_files m stores → MayBreak of_roots r stores
  broken stores (inl (is, none)) = inl (runs phases.Copy is, none)
  broken stores (inr (inl b)) = inr (inl (record {
    c = forget_collection b.c;
    ran = one_runs b.c b.ran;
    s = b.s;
    stage_is = b.stage_is;
    left = on_id (λ id. id < LAST_ID) b.left;
    kind = b.kind;
    segments = b.segments;
    keys_are = b.keys_are;
    copies = λ e. absurd e;
    stores_are = b.stores_are ∙ sym (λ i. with_sealed (suc (same.last_id i)) b.kind b.segments (same.store i) ∷ []);
  }))
  broken stores (inr (inr b)) = inr (inr (record {
    c = forget_collection b.c;
    ran = one_runs b.c b.ran;
    s = b.s;
    stage_is = b.stage_is;
    some = b.some;
    slots = b.slots;
    stand = on_store (λ (x : Store). StandIn x.held b.s.ready b.slots) b.stand;
    spare = λ e. absurd e;
    stores_are = b.stores_are ∙ sym (ap (stores_without_some b.slots) same.store);
  }))

  uncollected : (refusal : Refusal) (n : F) → RefusesGcStep of_files refusal m n → Left (λ t. RefusesGcStep of_roots refusal r t) n
  uncollected refusals.NotCollecting n (none, others) = stays (λ t. RefusesGcStep of_roots refusals.NotCollecting r t) n others (none_runs none, refl)
  uncollected refusals.Memory n (some, others) = stays (λ t. RefusesGcStep of_roots refusals.Memory r t) n others ((some.0, runs some.0 some.1, some.2), refl)
  uncollected refusals.Numbers n (is, none, others) =
      stays (λ t. RefusesGcStep of_roots refusals.Numbers r t) n others (runs phases.Flush is, on_id (λ id. LAST_ID ≤ id) none, refl)
  uncollected refusals.DiskRead n (inl is, others) = stays (λ t. RefusesGcStep of_roots refusals.DiskRead r t) n others (inl (runs phases.Mark is), refl)
  uncollected refusals.DiskRead n (inr (inl is), others) = stays (λ t. RefusesGcStep of_roots refusals.DiskRead r t) n others (inr (inl (runs phases.Filter is)), refl)
  uncollected refusals.DiskRead n (inr (inr (inl is)), others) = stays (λ t. RefusesGcStep of_roots refusals.DiskRead r t) n others (inr (inr (inl (runs phases.Copy is))), refl)
  uncollected refusals.DiskRead n (inr (inr (inr is)), others) =
      stays (λ t. RefusesGcStep of_roots refusals.DiskRead r t) n others (inr (inr (inr (runs phases.Flush is.0, on_id (λ id. id < LAST_ID) is.1))), refl)
  uncollected refusals.DiskWrite n (stores, may, others) =
      stop (λ t. RefusesGcStep of_roots refusals.DiskWrite r t) n None None stores stores others refl (stores, broken stores may, refl)
  uncollected (refusals.Corrupt slot offset count want got) n (is, (unknown, others)) = absurd (unknown tt)
  uncollected (refusals.Missing key) n (is, (unknown, others)) = absurd (unknown tt)
  uncollected (refusals.Damaged at why) n (is, (unknown, others)) = absurd (unknown tt)
  uncollected refusal n refuses = absurd refuses

  uncounted : (refusal : Refusal) (n : F) → RefusesUnique of_files refusal m n → Left (λ t. RefusesUnique of_roots refusal r t) n
  uncounted refusals.Memory n others = stays (λ t. RefusesUnique of_roots refusals.Memory r t) n others refl
  uncounted refusals.DiskRead n others = stays (λ t. RefusesUnique of_roots refusals.DiskRead r t) n others refl
  uncounted (refusals.Corrupt slot offset count want got) n (unknown, others) = absurd (unknown tt)
  uncounted (refusals.Missing key) n (unknown, others) = absurd (unknown tt)
  uncounted (refusals.Damaged at why) n (unknown, others) = absurd (unknown tt)
  uncounted refusal n refuses = absurd refuses

  refused_on : (a : ℕ) (step : Asked (List ℕ)) (refusal : Refusal) (n : F) → RefusesOn of_files a step refusal m n
      → Left (λ t. RefusesOn of_roots a (asked_of step) refusal r t) n
  refused_on a (asked.Claim seg) refusal n refuses = unclaimed a seg refusal n refuses
  refused_on a (asked.Seal offered) refusal n refuses = unsealed a offered refusal n refuses
  refused_on a (asked.Commit name file) refusal n refuses = uncommitted a name file refusal n refuses
  refused_on a (asked.OpenRead name) refusals.Memory n others = stays (λ t. RefusesOn of_roots a (asked.OpenRead name) refusals.Memory r t) n others refl
  refused_on a (asked.OpenRead name) refusals.BadName n (bad, others) = stays (λ t. RefusesOn of_roots a (asked.OpenRead name) refusals.BadName r t) n others (bad, refl)
  refused_on a (asked.OpenRead name) refusals.NoFile n (named, none, others) =
      stays (λ t. RefusesOn of_roots a (asked.OpenRead name) refusals.NoFile r t) n others (named, none_same m.now r.now same.now name none, refl)
  refused_on a asked.ReadNext refusal n refuses = unread a refusal n refuses
  refused_on a (asked.Delete name) refusal n refuses = undeleted name refusal n refuses
  refused_on a asked.ListNames refusals.Memory n others = stays (λ t. RefusesOn of_roots a asked.ListNames refusals.Memory r t) n others refl
  refused_on a (asked.GcStart percent) refusals.Memory n (none, others) =
      stays (λ t. RefusesOn of_roots a (asked.GcStart percent) refusals.Memory r t) n others (none_runs none, refl)
  refused_on a (asked.GcStart percent) (refusals.Missing key) n (none, (unknown, others)) = absurd (unknown tt)
  refused_on a (asked.GcStart percent) (refusals.Damaged at why) n (none, (unknown, others)) = absurd (unknown tt)
  refused_on a (asked.GcStart percent) (refusals.Collecting phase) n (is, others) =
      stays (λ t. RefusesOn of_roots a (asked.GcStart percent) (refusals.Collecting phase) r t) n others (runs phase is, refl)
  refused_on a asked.GcStep refusal n refuses = uncollected refusal n refuses
  refused_on a asked.Unique refusal n refuses = uncounted refusal n refuses
  refused_on a step refusal n refuses = absurd refuses

  pub taken_same : (step : Asked (List ℕ)) → taken_by (asked_of step) ≡ taken_by step
  taken_same asked.Begin = refl
  taken_same other = refl

  right_part : (a : ℕ) (step : Asked (List ℕ)) → IsAtRightPart of_files a step m → IsAtRightPart of_roots a (asked_of step) r
  right_part a step right taken is = kind_is a ∙ right taken (sym (taken_same step) ∙ is)

  refused_same : (a : ℕ) (step : Asked (List ℕ)) (refusal : Refusal) (n : F) → Refuses of_files a step refusal m n → Left (λ t. Refuses of_roots a (asked_of step) refusal r t) n
  refused_same a step (refusals.WrongPart kind) n ((is, (taken, by, wrong)), others) =
      stays (λ t. Refuses of_roots a (asked_of step) (refusals.WrongPart kind) r t) n others ((is ∙ sym (kind_is a), (taken, taken_same step ∙ by, wrong)), refl)
  refused_same a step refusals.Memory n on = refused_on a step refusals.Memory n on
  refused_same a step refusal n (right, on) = let left = refused_on a step refusal n on in (left.0, (right_part a step right, left.1), left.2)

  answered_same : (a : ℕ) (step : Asked (List ℕ)) (told : Result Done Refusal) (n : F) → Answers of_files a step told m n
      → Left (λ t. Answers of_roots a (asked_of step) told r t) n
  answered_same a step (Ok answer) n does = done_same a step answer n does
  answered_same a step (Err refusal) n refuses = refused_same a step refusal n refuses

  state_same : (s : RunState (List ℕ)) (u : RunState Root) → SameState s u → (a : ℕ) (step : Asked (List ℕ)) (told : Result Done Refusal) (n : F)
      → ByState of_files s a step told m n → Left (λ t. ByState of_roots u a (asked_of step) told r t) n
  state_same Running Running one a step told n by = answered_same a step told n by
  state_same Running (Stopped other stores) one a step told n by = absurd one
  state_same (Stopped None stores) Running one a step told n by = absurd one
  state_same (Stopped (Some found) stores) Running one a step told n by = absurd one
  state_same (Stopped found stores) (Stopped other now) one a step told n (is, others) =
      stays (λ t. ByState of_roots (Stopped other now) a (asked_of step) told r t) n others (is ∙ ap (λ (k : ℕ). Err (refusals.Stopped k)) (sym same.acknowledged), refl)

  -- ---- an opening

  found_same : (s : RunState (List ℕ)) (u : RunState Root) (found : Found (List ℕ)) → SameState s u → MayBeFound of_files s m.now found
      → (other : Found Root) × SameNow found other
  found_same Running u found one is = (r.now, subst (λ (x : Found (List ℕ)). SameNow x r.now) (sym is) same.now)
  found_same (Stopped None stores) u found one is = (r.now, subst (λ (x : Found (List ℕ)). SameNow x r.now) (sym is) same.now)
  found_same (Stopped (Some next) stores) u found one (inl is) = (r.now, subst (λ (x : Found (List ℕ)). SameNow x r.now) (sym is) same.now)
  found_same (Stopped (Some next) stores) Running found one (inr is) = absurd one
  found_same (Stopped (Some next) stores) (Stopped None now) found one (inr is) = absurd one
  found_same (Stopped (Some next) stores) (Stopped (Some other) now) found one (inr is) = (other, subst (λ (x : Found (List ℕ)). SameNow x other) (sym is) one.0)

  opened_again : (files : ℕ) (n : F) → Opens of_files files m n → Left (λ t. Opens of_roots files r t) n
  opened_again files n o =
      let found = found_same m.state r.state o.found same.state (o.may tt) in
      let t : G = fresh found.0 n.store in
      goes (λ t. Opens of_roots files r t) n (fresh o.found n.store) t o.others
      (record {
        found = found.0;
        may = λ told. absurd told;
        files_are = o.files_are ∙ sym (len_same o.found found.0 found.1);
        before = o.before;
        same = λ told. absurd told;
        named = λ told. absurd told;
        freed = o.freed;
        frees = λ told. absurd told;
        reserve = o.reserve;
        others = refl;
      })
      (fresh_same o.found found.0 n.store found.1)

  pub still_same : (stores : List Store) (s : RunState (List ℕ)) (u : RunState Root) → SameState s u → SameState (freeing of_files stores s) (freeing of_roots stores u)
  still_same stores Running Running one = refl
  still_same stores Running (Stopped other now) one = absurd one
  still_same stores (Stopped None before) Running one = absurd one
  still_same stores (Stopped (Some found) before) Running one = absurd one
  still_same stores (Stopped None before) (Stopped None now) one = ap (λ (ss : List Store). ss ++ stores) one
  still_same stores (Stopped None before) (Stopped (Some other) now) one = absurd one
  still_same stores (Stopped (Some found) before) (Stopped None now) one = absurd one
  still_same stores (Stopped (Some found) before) (Stopped (Some other) now) one = (one.0, ap (λ (ss : List Store). ss ++ stores) one.1)

  refuse_same : (refusal : Refusal) → MayRefuseOpening of_files refusal → MayRefuseOpening of_roots refusal
  refuse_same refusals.Memory may = tt
  refuse_same refusals.DiskRead may = tt
  refuse_same refusals.DiskWrite may = tt
  refuse_same (refusals.Full free) may = absurd (may tt)
  refuse_same (refusals.NotAStore gate magic) may = absurd (may tt)
  refuse_same (refusals.Version number) may = absurd (may tt)
  refuse_same (refusals.Damaged at why) may = absurd (may tt)
  refuse_same (refusals.WrongSize want got) may = absurd (may tt)
  refuse_same (refusals.Corrupt slot offset count want got) may = absurd (may tt)
  refuse_same (refusals.Missing key) may = absurd (may tt)
  refuse_same refusal may = absurd may

  reopened : (told : Result Done Refusal) (n : F) → Reopens of_files told m n → Left (λ t. Reopens of_roots told r t) n
  reopened (Ok (done.Reopened files)) n opens = opened_again files n opens
  reopened (Ok answer) n opens = absurd opens
  reopened (Err refusal) n (may, inl others) = stays (λ t. Reopens of_roots (Err refusal) r t) n others (refuse_same refusal may, inl refl)
  reopened (Err refusal) n (may, inr (stores, others, why, known)) =
      goes (λ t. Reopens of_roots (Err refusal) r t) n (record m { state = freeing of_files stores m.state }) (record r { state = freeing of_roots stores r.state }) others
      (refuse_same refusal may, inr (stores, refl, why, λ e. absurd e))
      (with_state m r same (freeing of_files stores m.state) (freeing of_roots stores r.state) (still_same stores m.state r.state same.state))

  -- ---- a step

  step_same : (step : Asked (List ℕ)) (a : ℕ) (told : Result Done Refusal) (n : F) → LegalBy of_files step a told m n → Left (λ t. LegalBy of_roots (asked_of step) a told r t) n
  step_same asked.Reopen a told n legal = reopened told n legal
  step_same step a told n legal = state_same m.state r.state same.state a step told n legal

pub steps_are_forgotten : StepsAreForgotten
steps_are_forgotten s m n r same legal = let left = step_same m r same s.asked s.actor s.answer n legal in (left.0, (left.1, left.2))

pub runs_are_forgotten : RunsAreForgotten
runs_are_forgotten [] m n r same run = (r, (refl, subst (λ (x : F). Forgets x r) (sym run) same))
runs_are_forgotten (s ∷ ss) m n r same (mid, (legal, run)) =
    let first = steps_are_forgotten s m mid r same legal in
    let rest = runs_are_forgotten ss mid n first.0 first.1.1 run in
    (rest.0, ((first.0, (first.1.0, rest.1.0)), rest.1.1))

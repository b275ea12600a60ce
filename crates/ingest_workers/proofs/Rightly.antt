-- Steps that are owed are right, whatever others do between.
use Rattle.std.proofs.Common.{◌≡◌, ◌<◌, ◌≤◌, ◌+◌, ◌-◌, ◌==◌, if◌then◌else◌, ℕ, zero, suc, Bool, true, false, List, [], ◌∷◌, ◌++◌, length, get_or, Option, Some, None, refl, sym, ap, ◌∙◌, subst, arith, append_assoc, append-nil, eq-eqb}
use Rattle.std.specs.List.{AllByRecursion, Contains}
use Rattle.disk_format.specs.Cells.{Root}
use Rattle.actor_parts.specs.declared.actor.TheConstants.{ACTORS}
use Rattle.actor_parts.specs.Asking.{Ask}
use Rattle.actor_parts.specs.StepValue as asked
use Rattle.actor_parts.specs.StepValue.{IsStep, StepValue}
use Rattle.container_meta.specs.Segments.{Contents, KindSegment}
use Rattle.load_stream.specs.Load.{LoadState, byte_of}
use Rattle.merkle_file.specs.declared.top.Top.{Top}
use Rattle.store_model.specs.Collisions.{ByteSet, HasNoCollisions, IsIn}
use Rattle.store_model.specs.Files.{Stored}
use Rattle.store_model.specs.Image.{Store}
use Rattle.store_model.specs.Standing.{IsSegmentOf}
use Rattle.store_model.specs.Trees.{root_of}
use Rattle.store_state.specs.Settled.{IsSettled}
use Rattle.ingest_session.specs.declared.due.Due.{Due}
use Rattle.ingest_session.specs.declared.due.Due.TheVariants as dues
use Rattle.ingest_session.specs.Calls.{ready_by}
use Rattle.ingest_session.specs.Due.{due_in, offered_in}
use Rattle.ingest_session.specs.History.{History}
use Rattle.ingest_session.specs.Moving.{IsOffered}
use Rattle.ingest_session.specs.State.{SessionState}
use Rattle.ingest_session.proofs.Ends.{all_is_kept, bytes_are_counted}
use Rattle.store_core.specs.Core.{CoreStep}
use Rattle.store_core.specs.Runs.{AreAmong, CoreRun, FileEvent, FileRun, FileStep, IsAt, IsGivenRight, events_of}
use Rattle.store_core.specs.State.{CoreState, Event}
use Rattle.session_turns.specs.Owning.{Ingests, IsAskedFor, IsCutOf, RunsFrom}
use Rattle.session_turns.proofs.Ingested.{ingested_commit_is_right}
use Rattle.session_turns.proofs.TurnSteps.{claim_among, seal_among}
use Rattle.ingest_workers.specs.Giving.{BeginsFile, SessionOf}
use Rattle.ingest_workers.specs.Ingesting.{ask_of, asks_by, asks_of}
use Rattle.ingest_workers.specs.Owing.{AreAllOwed, AreOwed, AreRight, IsDueOf, IsOfStream, IsOwed, IsReadyOf, OwedRunsAreRight, stream_from, stream_of}
use Rattle.ingest_workers.proofs.Ingesting.{gives_are_ingests}

-- ---- bytes that begin a file, and the others

module _ (file : LoadState) where
  same_rest : (at at_too count count_too : ℕ) → at ≡ at_too → count ≡ count_too → stream_from file at count ≡ stream_from file at_too count_too
  same_rest at at_too count count_too one other = ap (λ (n : ℕ). stream_from file n count) one ∙ ap (stream_from file at_too) other

  same_byte : (at at_too : ℕ) → at ≡ at_too → byte_of file.seed file.file at ≡ byte_of file.seed file.file at_too
  same_byte at at_too is = ap (byte_of file.seed file.file) is

  rest_is : (given : List ℕ) (at count : ℕ) → length given ≤ count → ((i : ℕ) → i < length given → get_or given i 0 ≡ byte_of file.seed file.file (at + i))
      → given ++ stream_from file (at + length given) (count - length given) ≡ stream_from file at count
  rest_is [] at count few each = same_rest (at + 0) at (count - 0) count (omega arith) (omega arith)
  rest_is (x ∷ xs) at zero few each = absurd (omega (arith, few))
  rest_is (x ∷ xs) at (suc n) few each =
      let first : x ≡ byte_of file.seed file.file at = each 0 (omega arith) ∙ same_byte (at + 0) at (omega arith) in
      let others : xs ++ stream_from file (suc at + length xs) (n - length xs) ≡ stream_from file (suc at) n =
      rest_is xs (suc at) n (omega (arith, few)) (λ i within. each (suc i) (omega (arith, within)) ∙ same_byte (at + suc i) (suc at + i) (omega arith)) in
      let moved : stream_from file (at + suc (length xs)) (suc n - suc (length xs)) ≡ stream_from file (suc at + length xs) (n - length xs) =
      same_rest (at + suc (length xs)) (suc at + length xs) (suc n - suc (length xs)) (n - length xs) (omega arith) (omega arith) in
      ap (λ (l : List ℕ). x ∷ (xs ++ l)) moved ∙ ap (λ (l : List ℕ). x ∷ l) others ∙ ap (λ (b : ℕ). b ∷ stream_from file (suc at) n) first

  abbrev pub rest_of : List ℕ → List ℕ
  rest_of given = stream_from file (0 + length given) (file.length - length given)

  pub begun : (given : List ℕ) → BeginsFile file given → given ++ rest_of given ≡ stream_of file
  begun given begins = rest_is given 0 file.length begins.few (λ i within. begins.each i within ∙ same_byte i (0 + i) (omega arith))

  pub none_left : (given : List ℕ) → length given ≡ file.length → rest_of given ≡ []
  none_left given whole = same_rest (0 + length given) (0 + length given) (file.length - length given) 0 refl (omega (arith, whole))

  whole_is : (given : List ℕ) → BeginsFile file given → length given ≡ file.length → given ≡ stream_of file
  whole_is given begins whole = sym (append-nil given) ∙ ap (λ (l : List ℕ). given ++ l) (sym (none_left given whole)) ∙ begun given begins

  -- what is cut of them by now is a segment of the file
  cut_is : (s : SessionState) (h : History) → SessionOf file s h → (bytes : List ℕ) → IsCutOf h.given s.ended bytes → IsSegmentOf (stream_of file) bytes
  cut_is s h of bytes cut =
      subst (λ (l : List ℕ). IsSegmentOf l bytes) (begun h.given of.begins)
      (cut (rest_of h.given) (λ ended. none_left h.given (of.whole ended)))

-- ---- what is due, and what is ready

claim_due : (due : Due) (s : SessionState) (seg : KindSegment) → IsAskedFor due s (asked.Claim seg) → IsOffered s seg
claim_due dues.Claim s seg is = is
claim_due due s seg is = absurd is

seal_due : (due : Due) (s : SessionState) (offered : List Contents) → IsAskedFor due s (asked.Seal offered) → (kind : _) × (offered ≡ offered_in s kind)
seal_due (dues.Seal kind) s offered is = (kind, is)
seal_due due s offered is = absurd is

pub ready_done : (ended : Bool) (due : Due) (count : ℕ) (top : Option Top) (root : Root) → ready_by ended due count top ≡ Some root → (ended ≡ true) × (due ≡ dues.Nothing)
ready_done true dues.Nothing count top root is = (refl, refl)
ready_done ended due count top root is = absurd (let wrong : ◌≡◌ {A = Option Root} None (Some root) = is in cc)

same_root : (x y : Root) → ◌≡◌ {A = Option Root} (Some x) (Some y) → x ≡ y
same_root x y is = cc

-- ---- what was owed at a place

pub owed_at : (own : List LoadState) (before xs : List Ask) (a : Ask) (ys : List Ask) → AreOwed own before (xs ++ a ∷ ys) → IsOwed own (before ++ xs) a.step
owed_at own before [] a ys owed = subst (λ (l : List Ask). IsOwed own l a.step) (sym (append-nil before)) owed.0
owed_at own before (x ∷ xs) a ys owed =
    subst (λ (l : List Ask). IsOwed own l a.step) (append_assoc before (x ∷ []) xs) (owed_at own (before ++ x ∷ []) xs a ys owed.1)

pub mine_of : (mine : Bool) (a : Ask) (xs ys : List Ask) → (if mine then a ∷ (xs ++ ys) else xs ++ ys) ≡ (if mine then a ∷ xs else xs) ++ ys
mine_of true a xs ys = refl
mine_of false a xs ys = refl

asks_append : (actor : ℕ) (fs : List FileEvent) (es : List Event) → asks_of actor (events_of fs ++ es) ≡ asks_by actor fs ++ asks_of actor es
asks_append actor [] es = refl
asks_append actor (f ∷ fs) es =
    ap (λ (l : List Ask). if f.event.actor == actor then ask_of f.event ∷ l else l) (asks_append actor fs es)
    ∙ mine_of (f.event.actor == actor) (ask_of f.event) (asks_by actor fs) (asks_of actor es)

pub own_first : (e : Event) (es : List Event) → asks_of e.actor (e ∷ es) ≡ ask_of e ∷ asks_of e.actor es
own_first e es = ap (λ (b : Bool). if b then ask_of e ∷ asks_of e.actor es else asks_of e.actor es) (eq-eqb e.actor e.actor refl)

events_push : (fs : List FileEvent) (f : FileEvent) (es : List Event) → events_of (fs ++ f ∷ []) ++ es ≡ events_of fs ++ f.event ∷ es
events_push [] f es = refl
events_push (g ∷ fs) f es = ap (λ (l : List Event). g.event ∷ l) (events_push fs f es)

all_push : (P : FileEvent → Type 0) (fs : List FileEvent) (f : FileEvent) → AllByRecursion P fs → P f → AllByRecursion P (fs ++ f ∷ [])
all_push P [] f all is = (is, tt)
all_push P (g ∷ fs) f all is = (all.0, all_push P fs f all.1 is)

module _ (C : Type 0) (state : C → CoreState) (among : ByteSet) (own : ℕ → List LoadState) (distinct : HasNoCollisions (IsIn among))
    (segments : (actor : ℕ) (file : LoadState) (bytes : List ℕ) → Contains (own actor) file → IsSegmentOf (stream_of file) bytes → IsIn among bytes) where
  abbrev S : List ℕ → Type 0
  S = IsIn among

  run_push : (fs : List FileEvent) (f : FileEvent) (old mid new : C) → FileRun C state S fs old mid → FileStep S f (state mid) (state new)
      → FileRun C state S (fs ++ f ∷ []) old new
  run_push [] f old mid new run step = (new, (subst (λ (c : C). FileStep S f (state c) (state new)) run step, refl))
  run_push (g ∷ fs) f old mid new run step = (run.0, (run.1.0, run_push fs f run.0 mid new run.1.1 step))

  cut_among : (actor : ℕ) (file : LoadState) (s : SessionState) (h : History) → Contains (own actor) file → SessionOf file s h → (bytes : List ℕ)
      → IsCutOf h.given s.ended bytes → S bytes
  cut_among actor file s h is_file of bytes cut = segments actor file bytes is_file (cut_is file s h of bytes cut)

  -- ---- one step

  module _ (s : Store) (stored : Stored) (old mid new : C) (is_at : IsAt S s stored (state old)) (settled : IsSettled (state old).tables.slots (state old).disk)
      (fs : List FileEvent) (run : FileRun C state S fs old mid) where
    abbrev Rightly : Event → StepValue → Type 0
    Rightly e step = (bytes : List ℕ) × FileStep S (record { event = e; bytes = bytes }) (state mid) (state new) × IsOfStream (own e.actor) step bytes

    from : RunsFrom C state S fs s stored old mid
    from = record { is_at = is_at; settled = settled; run = run }

    given_so : (e : Event) (step : StepValue) → e.step ≡ step → IsStep e.step → CoreStep (state mid) e (state new) → (bytes : List ℕ)
        → IsGivenRight S step e.answer bytes (state mid)
        → FileStep S (record { event = e; bytes = bytes }) (state mid) (state new)
    given_so e step is right made bytes given = record {
      asked = right;
      given = subst (λ (x : StepValue). IsGivenRight S x e.answer bytes (state mid)) (sym is) given;
      made = made;
    }

    module _ (e : Event) (below : e.actor < ACTORS) (right : IsStep e.step) (made : CoreStep (state mid) e (state new)) where
      commit_rightly : (name : List ℕ) (root : Root) → e.step ≡ asked.Commit name root → IsReadyOf (own e.actor) (asks_by e.actor fs) name root → Rightly e (asked.Commit name root)
      commit_rightly name root is owed =
          let x = owed.session in
          let h = owed.history in
          let has = owed.giving.of_file.has in
          let done = ready_done x.ended (due_in x) x.count x.top root owed.ready in
          let ends = all_is_kept x h has done.0 done.1 in
          let ingests : Ingests e.actor fs h =
          gives_are_ingests owed.file e.actor fs owed.giving.earlier owed.giving.gave h owed.giving.before_is owed.giving.gives in (
            h.given,
            ingested_commit_is_right C state among fs s stored e.actor x h name root e old mid new distinct from below ingests has owed.ready is made,
            (
              owed.file,
              owed.is_file,
              whole_is owed.file h.given owed.giving.of_file.begins (owed.giving.of_file.whole done.0),
              same_root root (root_of h.given) (sym owed.ready ∙ ends.root),
              (bytes_are_counted x h has).1,
              owed.named,
            ),
          )

      claim_rightly : (seg : KindSegment) → e.step ≡ asked.Claim seg → IsDueOf (own e.actor) (asks_by e.actor fs) (asked.Claim seg) → Rightly e (asked.Claim seg)
      claim_rightly seg is owed = (
        [],
        given_so e (asked.Claim seg) is right made []
            (claim_among S owed.session owed.history owed.giving.of_file.has (cut_among e.actor owed.file owed.session owed.history owed.is_file owed.giving.of_file) seg
            (claim_due (due_in owed.session) owed.session seg owed.due)),
        tt,
      )

      seal_rightly : (offered : List Contents) → e.step ≡ asked.Seal offered → IsDueOf (own e.actor) (asks_by e.actor fs) (asked.Seal offered) → Rightly e (asked.Seal offered)
      seal_rightly offered is owed =
          let sealed = seal_due (due_in owed.session) owed.session offered owed.due in (
            [],
            given_so e (asked.Seal offered) is right made []
                (subst (AreAmong S) (sym sealed.1)
                (seal_among S owed.session owed.history owed.giving.of_file.has (cut_among e.actor owed.file owed.session owed.history owed.is_file owed.giving.of_file) sealed.0)),
            tt,
          )

      rightly : (step : StepValue) → e.step ≡ step → IsOwed (own e.actor) (asks_by e.actor fs) step → Rightly e step
      rightly (asked.Commit name root) is owed = commit_rightly name root is owed
      rightly (asked.Claim seg) is owed = claim_rightly seg is owed
      rightly (asked.Seal offered) is owed = seal_rightly offered is owed
      rightly (asked.Delete name) is owed = ([], given_so e (asked.Delete name) is right made [] tt, owed)
      rightly asked.Begin is owed = ([], given_so e asked.Begin is right made [] tt, tt)
      rightly asked.Abort is owed = ([], given_so e asked.Abort is right made [] tt, tt)
      rightly (asked.OpenRead name) is owed = ([], given_so e (asked.OpenRead name) is right made [] tt, tt)
      rightly asked.ReadNext is owed = ([], given_so e asked.ReadNext is right made [] tt, tt)
      rightly asked.EndRead is owed = ([], given_so e asked.EndRead is right made [] tt, tt)
      rightly asked.ListNames is owed = ([], given_so e asked.ListNames is right made [] tt, tt)
      rightly (asked.GcStart percent) is owed = ([], given_so e (asked.GcStart percent) is right made [] tt, tt)
      rightly asked.GcStep is owed = ([], given_so e asked.GcStep is right made [] tt, tt)
      rightly asked.Stat is owed = ([], given_so e asked.Stat is right made [] tt, tt)
      rightly asked.Unique is owed = ([], given_so e asked.Unique is right made [] tt, tt)

  -- ---- all of them

  abbrev OfStream : FileEvent → Type 0
  OfStream f = IsOfStream (own f.event.actor) f.event.step f.bytes

  all_right : (s : Store) (stored : Stored) (old : C) → IsAt S s stored (state old) → IsSettled (state old).tables.slots (state old).disk → (es : List Event) (fs : List FileEvent)
      (mid new : C) → FileRun C state S fs old mid → AllByRecursion OfStream fs → AllByRecursion (λ e. IsStep e.step × (e.actor < ACTORS)) es → CoreRun C state es mid new
      → AreAllOwed own (events_of fs ++ es) → AreRight C state S own (events_of fs ++ es) old new
  all_right s stored old is_at settled [] fs mid new run streams each steps owed = record {
    files = fs;
    events_are = sym (append-nil (events_of fs));
    run = subst (λ (c : C). FileRun C state S fs old c) (sym steps) run;
    of_streams = streams;
  }
  all_right s stored old is_at settled (e ∷ es) fs mid new run streams each steps owed =
      let all : asks_of e.actor (events_of fs ++ e ∷ es) ≡ asks_by e.actor fs ++ ask_of e ∷ asks_of e.actor es =
      asks_append e.actor fs (e ∷ es) ∙ ap (λ (l : List Ask). asks_by e.actor fs ++ l) (own_first e es) in
      let here : IsOwed (own e.actor) (asks_by e.actor fs) e.step =
      owed_at (own e.actor) [] (asks_by e.actor fs) (ask_of e) (asks_of e.actor es) (subst (AreOwed (own e.actor) []) all (owed e.actor)) in
      let one = rightly s stored old mid steps.0 is_at settled fs run e each.0.1 each.0.0 steps.1.0 e.step refl here in
      let f : FileEvent = record { event = e; bytes = one.0 } in
      let more = all_right s stored old is_at settled es (fs ++ f ∷ []) steps.0 new
      (run_push fs f old mid steps.0 run one.1) (all_push OfStream fs f streams one.2) each.1 steps.1.1
      (subst (AreAllOwed own) (sym (events_push fs f es)) owed) in
      subst (λ (l : List Event). AreRight C state S own l old new) (events_push fs f es) more

pub owed_runs_are_right : (C : Type 0) (state : C → CoreState) → OwedRunsAreRight C state
owed_runs_are_right C state among own es s stored old new distinct segments is_at settled each steps owed =
    all_right C state among own distinct segments s stored old is_at settled es [] old new refl tt each steps owed

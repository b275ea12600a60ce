-- How what is planned of one entry after the other is put together.
use Rattle.std.proofs.Common.{◌≡◌, inl, inr, ℕ, suc, ◌+◌, ◌<◌, ◌≤◌, Bool, true, false, List, [], ◌∷◌, ◌++◌, length, drop, get_or, take, zero, refl, sym, ap, subst, ◌∙◌, arith, length-append}
use Rattle.std.specs.List.{AllByRecursion, sum_by}
use Rattle.std.specs.Prelude.{nat_le, nat_lt}
use Rattle.std.proofs.lemmas.Bool.{le-leb, leb-true, lt-ltb}
use Rattle.std.proofs.lemmas.List.Sums.{sum_by-append, sum_by-cons, sum_by_push}
use Rattle.std.proofs.Math.Seq.{drop-cons}
use Rattle.std.proofs.lemmas.List.{append-nil, length-drop, length-take-le, take-append-drop, take_all, take_more}
use Rattle.base_model.proofs.Checks.{both, both_true}
use Rattle.disk_format.specs.declared.numbers.TheConstants.{DATA_BYTES, MOST_ENTRIES}
use Rattle.container_meta.specs.declared.entry.Entry.{Entry}
use Rattle.container_meta.specs.declared.kind.Kind.{Kind}
use Rattle.container_meta.specs.declared.place.Place.{Place}
use Rattle.container_meta.specs.Segments.{Contents, Segment, bytes_in, has_room}
use Rattle.container_meta.specs.Spelling.{Follow, HeaderValue, IsHeader, bytes_of}
use Rattle.gc_enumerate.specs.Live.{IsLiveAt}
use Rattle.refusals.specs.declared.refusal.Refusal.{Refusal}
use Rattle.refusals.specs.declared.refusal.Refusal.TheVariants.{Memory, DiskRead, Damaged, Corrupt}
use Rattle.segment_index.specs.Places.{KnownMap}
use Rattle.store_model.specs.Indexing.{entry_key}
use Rattle.store_model.specs.Slots.{place_of}
use Rattle.store_state.specs.Comparing.{IsCopyRefusal}
use Rattle.copy_forward.specs.Entries.{is_copy}
use Rattle.copy_forward.specs.Planning.{Adds, AddsLive, IsAllowed, IsFull, IsLiveIn, IsLiveRefusal, IsOneRefusal, IsPlan, IsPlanRefusal, IsStuck, Planned, Source, planned, Takes, TakesOne}
use Rattle.copy_forward.specs.declared.plan.Plan.{Plan}

-- ---- a live copy

pub live_in : (s : Source) (e : Entry) (copy : Bool) (key : List ℕ) (place : Place) → KnownMap s.known (λ m. copy ≡ is_copy m s.kind s.slot e) → copy ≡ true
    → key ≡ entry_key s.kind e
    → place ≡ place_of s.slot e → IsLiveAt s.live key place → IsLiveIn s e
live_in s e copy key place is flag key_is place_is live =
    (λ m known. sym (is m known) ∙ flag, subst (λ (k : List ℕ). IsLiveAt s.live k (place_of s.slot e)) key_is (subst (IsLiveAt s.live key) place_is live))

-- ---- what more reads show

module _ (S T : (List ℕ → Type 0) → Type 0) (wider : (P : List ℕ → Type 0) → S P → T P) where
  live_wider : (kind : Kind) (slot : ℕ) (e : Entry) (before after : Contents) → AddsLive kind slot S e before after → AddsLive kind slot T e before after
  live_wider kind slot e before after (inl had) = inl had
  live_wider kind slot e before after (inr (lacks, adds)) = inr (
    lacks,
    record {
      bytes = adds.bytes;
      long = adds.long;
      there = wider _ adds.there;
      digest_is = adds.digest_is;
      after_is = adds.after_is;
    },
  )

  pub takes_live : (s : Source) (e : Entry) (before after : Planned) → IsLiveIn s e → AddsLive s.kind s.slot S e before.buffer after.buffer → after.dead ≡ before.dead
      → TakesOne s T e before after
  takes_live s e before after live adds dead = inr (inr (live, live_wider s.kind s.slot e before.buffer after.buffer adds, dead))

  one_wider : (s : Source) (e : Entry) (before after : Planned) → TakesOne s S e before after → TakesOne s T e before after
  one_wider s e before after (inl passed) = inl passed
  one_wider s e before after (inr (inl dead)) = inr (inl dead)
  one_wider s e before after (inr (inr (live, adds, dead))) = takes_live s e before after live adds dead

  takes_wider : (s : Source) (es : List Entry) (before after : Planned) (count : ℕ) → Takes s S es before after count → Takes s T es before after count
  takes_wider s [] before after count none = none
  takes_wider s (e ∷ es) before after count (inl full) = inl full
  takes_wider s (e ∷ es) before after count (inr (mid, (rest, (more, one, others)))) =
      inr (mid, (rest, (more, one_wider s e before mid one, takes_wider s es mid after rest others)))

  copy_wider : (place : Place) (digest : List ℕ) (refusal : Refusal) → IsCopyRefusal S place digest refusal → IsCopyRefusal T place digest refusal
  copy_wider place digest DiskRead cause = tt
  copy_wider place digest (Corrupt slot offset count want got) cause =
      (cause.0, cause.1, cause.2, cause.3, cause.4, record { bytes = cause.5.bytes; long = cause.5.long; digest_is = cause.5.digest_is; there = wider _ cause.5.there })
  copy_wider place digest _ cause = absurd cause

  pub live_refused : (s : Source) (e : Entry) (buffer : Contents) → IsLiveIn s e → (refusal : Refusal) → IsLiveRefusal s.kind s.slot S e buffer refusal
      → IsOneRefusal s T e buffer refusal
  live_refused s e buffer live Memory cause = tt
  live_refused s e buffer live DiskRead cause = tt
  live_refused s e buffer live (Corrupt slot offset count want got) cause = (live, (cause.0, copy_wider (place_of s.slot e) e.digest (Corrupt slot offset count want got) cause.1))
  live_refused s e buffer live _ cause = absurd cause.1

  one_refusal_wider : (s : Source) (e : Entry) (buffer : Contents) (refusal : Refusal) → IsOneRefusal s S e buffer refusal → IsOneRefusal s T e buffer refusal
  one_refusal_wider s e buffer Memory cause = tt
  one_refusal_wider s e buffer DiskRead cause = tt
  one_refusal_wider s e buffer (Damaged at why) cause = cause
  one_refusal_wider s e buffer (Corrupt slot offset count want got) cause = live_refused s e buffer cause.0 (Corrupt slot offset count want got) cause.1
  one_refusal_wider s e buffer _ cause = absurd cause.1.1

  stuck_wider : (s : Source) (es : List Entry) (before : Planned) (refusal : Refusal) → IsStuck s S es before refusal → IsStuck s T es before refusal
  stuck_wider s [] before refusal cause = cause
  stuck_wider s (e ∷ es) before refusal (inl cause) = inl (one_refusal_wider s e before.buffer refusal cause)
  stuck_wider s (e ∷ es) before refusal (inr (mid, (one, cause))) = inr (mid, (one_wider s e before mid one, stuck_wider s es mid refusal cause))

  -- a whole plan, and why there is none
  pub plan_wider : (s : Source) (es : List Entry) (from : ℕ) (buffer : Contents) (plan : Plan) → IsPlan s S es from buffer plan → IsPlan s T es from buffer plan
  plan_wider s es from buffer plan is = record {
    passed = is.passed;
    takes = takes_wider s (drop from es) (planned buffer []) (planned plan.buffer plan.dead.items) is.passed is.takes;
    next_is = is.next_is;
    within = is.within;
    whole = is.whole;
    ended_is = is.ended_is;
    kind_is = is.kind_is;
    copied_is = is.copied_is;
  }

  pub plan_refused_wider : (s : Source) (es : List Entry) (before : Planned) (refusal : Refusal) → IsPlanRefusal s S es before refusal → IsPlanRefusal s T es before refusal
  plan_refused_wider s es before Memory cause = tt
  plan_refused_wider s es before refusal cause = stuck_wider s es before refusal cause

-- ---- one entry after the other

-- Each of these entries was planned, the first of them first.
abbrev pub TakesAll : Source → ((List ℕ → Type 0) → Type 0) → List Entry → Planned → Planned → Type 0
TakesAll s S [] before after = after ≡ before
TakesAll s S (e ∷ es) before after = (mid : Planned) × (TakesOne s S e before mid × TakesAll s S es mid after)

-- by other reads
all_wider : (S T : (List ℕ → Type 0) → Type 0) → ((P : List ℕ → Type 0) → S P → T P) → (s : Source) (es : List Entry) (before after : Planned) → TakesAll s S es before after
    → TakesAll s T es before after
all_wider S T wider s [] before after same = same
all_wider S T wider s (e ∷ es) before after (mid, (one, others)) = (mid, (one_wider S T wider s e before mid one, all_wider S T wider s es mid after others))

module _ (s : Source) (S : (List ℕ → Type 0) → Type 0) where
  takes_push : (es : List Entry) (e : Entry) (before mid after : Planned) → TakesAll s S es before mid → TakesOne s S e mid after → TakesAll s S (es ++ e ∷ []) before after
  takes_push [] e before mid after same one = (after, (subst (λ (p : Planned). TakesOne s S e p after) same one, refl))
  takes_push (x ∷ xs) e before mid after (next, (first, others)) one = (next, (first, takes_push xs e next mid after others one))

  -- and then the others
  takes_then : (xs es : List Entry) (before mid after : Planned) (count : ℕ) → TakesAll s S xs before mid → Takes s S es mid after count
      → Takes s S (xs ++ es) before after (length xs + count)
  takes_then [] es before mid after count same takes =
      let none : count ≡ 0 + count = omega arith in
      subst (λ (n : ℕ). Takes s S es before after n) none (subst (λ (p : Planned). Takes s S es p after count) same takes)
  takes_then (x ∷ xs) es before mid after count (next, (first, others)) takes =
      inr (next, (length xs + count, (omega arith, first, takes_then xs es next mid after count others takes)))

  stuck_then : (xs es : List Entry) (before mid : Planned) (refusal : Refusal) → TakesAll s S xs before mid → IsStuck s S es mid refusal → IsStuck s S (xs ++ es) before refusal
  stuck_then [] es before mid refusal same stuck = subst (λ (p : Planned). IsStuck s S es p refusal) same stuck
  stuck_then (x ∷ xs) es before mid refusal (next, (first, others)) stuck = inr (next, (first, stuck_then xs es next mid refusal others stuck))

split_at : (es : List Entry) (i : ℕ) (d : Entry) → i < length es → es ≡ take i es ++ get_or es i d ∷ drop (suc i) es
split_at es i d within = sym (take-append-drop i es) ∙ ap (λ (xs : List Entry). take i es ++ xs) (drop-cons es i d within)

-- at an entry, where those before it were planned by what reads showed until then
module _ (s next : Source) (same : next ≡ s) (S R T : (List ℕ → Type 0) → Type 0) (first : (P : List ℕ → Type 0) → S P → T P) (others : (P : List ℕ → Type 0) → R P → T P)
    (es : List Entry) (i : ℕ) (d : Entry) (within : i < length es) (before mid : Planned) (so_far : TakesAll s S (take i es) before mid) where
  earlier : TakesAll s T (take i es) before mid
  earlier = all_wider S T first s (take i es) before mid so_far

  pub takes_more : (after : Planned) → TakesOne next R (get_or es i d) mid after → TakesAll s T (take (i + 1) es) before after
  takes_more after one =
      subst (λ (xs : List Entry). TakesAll s T xs before after) (sym (take_more es i d within))
      (takes_push s T (take i es) (get_or es i d) before mid after earlier
      (one_wider R T others s (get_or es i d) mid after (subst (λ (x : Source). TakesOne x R (get_or es i d) mid after) same one)))

  pub stops_there : (after : Planned) (count : ℕ) → count ≡ i → IsFull next (get_or es i d) mid.buffer → after ≡ mid → Takes s T es before after count
  stops_there after count count_is full stays =
      let full_is : IsFull s (get_or es i d) mid.buffer = subst (λ (x : Source). IsFull x (get_or es i d) mid.buffer) same full in
      let all = takes_then s T (take i es) (get_or es i d ∷ drop (suc i) es) before mid after 0 earlier (inl (full_is, stays, refl)) in
      let many : length (take i es) + 0 ≡ count = omega (arith, count_is, length-take-le i es (omega (arith, within))) in
      subst (λ (xs : List Entry). Takes s T xs before after count) (sym (split_at es i d within))
      (subst (λ (n : ℕ). Takes s T (take i es ++ get_or es i d ∷ drop (suc i) es) before after n) many all)

  pub stuck_there : (refusal : Refusal) → IsOneRefusal next R (get_or es i d) mid.buffer refusal → IsStuck s T es before refusal
  stuck_there refusal cause =
      let on : IsOneRefusal s T (get_or es i d) mid.buffer refusal = one_refusal_wider R T others s (get_or es i d) mid.buffer refusal
      (subst (λ (x : Source). IsOneRefusal x R (get_or es i d) mid.buffer refusal) same cause) in
      subst (λ (xs : List Entry). IsStuck s T xs before refusal) (sym (split_at es i d within))
      (stuck_then s T (take i es) (get_or es i d ∷ drop (suc i) es) before mid refusal earlier (inl on))

-- after the last of them
pub takes_whole : (s : Source) (S : (List ℕ → Type 0) → Type 0) (es : List Entry) (n count : ℕ) (before after : Planned) → length es ≤ n → n ≤ length es → count ≡ n
    → TakesAll s S (take n es) before after
    → Takes s S es before after count
takes_whole s S es n count before after past few is all =
    let whole : TakesAll s S es before after = subst (λ (xs : List Entry). TakesAll s S xs before after) (take_all n es past) all in
    let then = takes_then s S es [] before after after 0 whole (refl, refl) in
    let many : length es + 0 ≡ count = omega (arith, past, few, is) in
    subst (λ (xs : List Entry). Takes s S xs before after count) (append-nil es)
    (subst (λ (k : ℕ). Takes s S (es ++ []) before after k) many then)

-- ---- what follows of a plan

-- The container that is filled keeps its kind, and loses nothing.
pub record Grows (before after : Contents) : Type 0 where
  pub kind_is : after.kind ≡ before.kind
  pub more : length before.segments ≤ length after.segments

grows_not : (before after : Contents) → after ≡ before → Grows before after
grows_not before after is = record { kind_is = ap (λ (c : Contents). c.kind) is; more = omega (arith, ap (λ (c : Contents). length c.segments) is) }

grows_on : (a b c : Contents) → Grows a b → Grows b c → Grows a c
grows_on a b c first second = record { kind_is = second.kind_is ∙ first.kind_is; more = omega (arith, first.more, second.more) }

module _ (s : Source) (S : (List ℕ → Type 0) → Type 0) where
  adds_grow : (e : Entry) (before after : Contents) → Adds s.slot S e before after → Grows before after
  adds_grow e before after adds = record {
    kind_is = ap (λ (c : Contents). c.kind) adds.after_is;
    more = omega (arith, ap (λ (c : Contents). length c.segments) adds.after_is, length-append before.segments (record { level = e.level; bytes = adds.bytes } ∷ []));
  }

  one_grows : (e : Entry) (before after : Planned) → TakesOne s S e before after → Grows before.buffer after.buffer
  one_grows e before after (inl (passed, is)) = grows_not before.buffer after.buffer (ap (λ (p : Planned). p.buffer) is)
  one_grows e before after (inr (inl (dead, is))) = grows_not before.buffer after.buffer (ap (λ (p : Planned). p.buffer) is)
  one_grows e before after (inr (inr (live, inl (had, is), dead))) = grows_not before.buffer after.buffer is
  one_grows e before after (inr (inr (live, inr (lacks, adds), dead))) = adds_grow e before.buffer after.buffer adds

  pub grows : (es : List Entry) (before after : Planned) (count : ℕ) → Takes s S es before after count → Grows before.buffer after.buffer
  grows [] before after count none = grows_not before.buffer after.buffer (ap (λ (p : Planned). p.buffer) none.0)
  grows (e ∷ es) before after count (inl full) = grows_not before.buffer after.buffer (ap (λ (p : Planned). p.buffer) full.1)
  grows (e ∷ es) before after count (inr (mid, (rest, (more, one, others)))) =
      grows_on before.buffer mid.buffer after.buffer (one_grows e before mid one) (grows es mid after rest others)

-- ---- the entries of a header

pub all_allowed : (kind : Kind) (before es : List Entry) → Follow kind before es → AllByRecursion (IsAllowed kind) es
all_allowed kind before [] follow = tt
all_allowed kind before (e ∷ es) follow = (record { length_is = follow.0.length; level_is = follow.0.level }, all_allowed kind (before ++ e ∷ []) es follow.1)

pub allowed_from : (kind : Kind) (n : ℕ) (es : List Entry) → AllByRecursion (IsAllowed kind) es → AllByRecursion (IsAllowed kind) (drop n es)
allowed_from kind zero es all = all
allowed_from kind (suc n) [] all = tt
allowed_from kind (suc n) (e ∷ es) all = allowed_from kind n es all.1

-- ---- a whole plan

-- with what the container had at first
pub from_first : (s : Source) (S : (List ℕ → Type 0) → Type 0) (es rest : List Entry) (copy buffer : Contents) (dead : List (List ℕ)) (after : Planned) (count : ℕ) → es ≡ rest
    → copy ≡ buffer → dead ≡ []
    → Takes s S es (planned copy dead) after count → Takes s S rest (planned buffer []) after count
from_first s S es rest copy buffer dead after count entries_are same none takes =
    subst (λ (xs : List Entry). Takes s S xs (planned buffer []) after count) entries_are
    (subst (λ (c : Contents). Takes s S es (planned c []) after count) same (subst (λ (ks : List (List ℕ)). Takes s S es (planned copy ks) after count) none takes))

-- There is room for these entries' segments, beside what a container has.
pub record HasRoomFor (es : List Entry) (buffer : Contents) : Type 0 where
  pub few : length buffer.segments + length es ≤ MOST_ENTRIES
  pub small : bytes_in buffer.segments + bytes_of es ≤ DATA_BYTES

module _ (s : Source) (S : (List ℕ → Type 0) → Type 0) where
  has_room_first : (e : Entry) (es : List Entry) (buffer : Contents) → HasRoomFor (e ∷ es) buffer → has_room buffer e.length ≡ true
  has_room_first e es buffer room =
      both_true (nat_lt (length buffer.segments) MOST_ENTRIES) (nat_le (bytes_in buffer.segments + e.length) DATA_BYTES)
      (lt-ltb (length buffer.segments) MOST_ENTRIES (omega (arith, room.few)))
      (le-leb (bytes_in buffer.segments + e.length) DATA_BYTES (omega (arith, room.small, sum_by-cons (λ (x : Entry). x.length) e es)))

  -- where nothing is added
  still_room : (e : Entry) (es : List Entry) (before after : Contents) → after ≡ before → HasRoomFor (e ∷ es) before → HasRoomFor es after
  still_room e es before after is room = subst (HasRoomFor es) (sym is) (record {
    few = omega (arith, room.few);
    small = omega (arith, room.small, sum_by-cons (λ (x : Entry). x.length) e es);
  })

  added_room : (e : Entry) (es : List Entry) (before after : Contents) → Adds s.slot S e before after → HasRoomFor (e ∷ es) before → HasRoomFor es after
  added_room e es before after adds room =
      let more : Segment = record { level = e.level; bytes = adds.bytes } in
      subst (HasRoomFor es) (sym adds.after_is) (record {
        few = omega (arith, room.few, length-append before.segments (more ∷ []));
        small = omega (arith, room.small, sum_by-cons (λ (x : Entry). x.length) e es, sum_by_push (λ (x : Segment). length x.bytes) before.segments more, adds.long);
      })

  room_after : (e : Entry) (es : List Entry) (before after : Planned) → TakesOne s S e before after → HasRoomFor (e ∷ es) before.buffer → HasRoomFor es after.buffer
  room_after e es before after (inl (passed, is)) room = still_room e es before.buffer after.buffer (ap (λ (p : Planned). p.buffer) is) room
  room_after e es before after (inr (inl (dead, is))) room = still_room e es before.buffer after.buffer (ap (λ (p : Planned). p.buffer) is) room
  room_after e es before after (inr (inr (live, inl (had, is), dead))) room = still_room e es before.buffer after.buffer is room
  room_after e es before after (inr (inr (live, inr (lacks, adds), dead))) room = added_room e es before.buffer after.buffer adds room

  -- so all of them are planned
  pub all_planned : (es : List Entry) (before after : Planned) (count : ℕ) → HasRoomFor es before.buffer → Takes s S es before after count → count ≡ length es
  all_planned [] before after count room none = none.1
  all_planned (e ∷ es) before after count room (inl full) = absurd (let wrong : true ≡ false = sym (has_room_first e es before.buffer room) ∙ full.0.1.1 in cc)
  all_planned (e ∷ es) before after count room (inr (mid, (rest, (more, one, others)))) =
      omega (arith, more, all_planned es mid after rest (room_after e es before mid one room) others)

-- a container with no segment has room for those of a header, from one on
pub room_in_none : (h : HeaderValue) (from : ℕ) (buffer : Contents) → IsHeader h → from ≤ length h.entries → buffer.segments ≡ [] → HasRoomFor (drop from h.entries) buffer
room_in_none h from buffer right within none =
    let no_entries : length buffer.segments ≡ 0 = ap length none in
    let no_bytes : bytes_in buffer.segments ≡ 0 = ap bytes_in none in
    let length_of : Entry → ℕ = λ e. e.length in
    let parts : sum_by length_of (take from h.entries ++ drop from h.entries) ≡ sum_by length_of (take from h.entries) + sum_by length_of (drop from h.entries) =
    sum_by-append length_of (take from h.entries) (drop from h.entries) in
    let all : bytes_of h.entries ≡ sum_by length_of (take from h.entries) + bytes_of (drop from h.entries) =
    ap bytes_of (sym (take-append-drop from h.entries)) ∙ parts in
    record {
      few = omega (
        arith,
        no_entries,
        length-drop from h.entries,
        leb-true (length h.entries) MOST_ENTRIES
            (both (nat_le 1 (length h.entries)) (nat_le (length h.entries) MOST_ENTRIES) right.count).1,
        within,
      );
      small = omega (arith, no_bytes, all, right.whole, leb-true h.data_length DATA_BYTES (both (nat_le 1 h.data_length) (nat_le h.data_length DATA_BYTES) right.data_length).1);
    }

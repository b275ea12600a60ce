-- What a collection that ran alone gave back and copied, by what the names need.
use Rattle.store_machine.proofs.Prelude.{◌≡◌, ◌⊎◌, ◌↔◌, ◌+◌, ◌<◌, ◌≤◌, inl, inr, ⊎_elim, ℕ, zero, suc, Bool, true, false, nat_lt, ListOf, [], ◌∷◌, ◌++◌, length, ◌==◌, Contains, Option, Some, None, option_map, refl, sym, ◌∙◌, ap, subst, arith, AllByRecursion, Entry, Kind, HeaderValue, header_of, ContainerLiveness, ids_of, there_before, with_freed, Store, IsSpare, last_id, ChangeName, FlushContainer, FreeContainer, SealContainer, StoreChange, with_sealed, cases_lt, EachOnce, HasContainer, HasIds, ids_before, keys_written, sources_in, Sweeps, Found, NamesNeed, of_files}
use Rattle.std.proofs.Common.{◌*◌, slice_get}
use Rattle.std.specs.Prelude.{◌||◌, nat_le, if◌then◌else◌}
use Rattle.disk_format.specs.declared.numbers.TheConstants.{MOST_ENTRIES}
use Rattle.container_meta.specs.Format.{is_count}
use Rattle.std.proofs.lemmas.Bool.{eq-eqb, eqb-true, leb-true, lt-ltb, ltb-true}
use Rattle.std.proofs.lemmas.Bool.Decides.{eqb_tells, leb_tells}
use Rattle.std.proofs.lemmas.List.Elements.{All-contains, All-from_recursion}
use Rattle.std.proofs.lemmas.List.Sums.{sum_by-cons}
use Rattle.std.proofs.lemmas.Option.{slice_get-get_or}
use Rattle.base_model.proofs.Checks.{both, both_true}
use Rattle.container_meta.specs.declared.place.Place.{Place}
use Rattle.container_meta.specs.Spelling.{Follow, IsHeader, bytes_of}
use Rattle.gc_select.proofs.Chosen.{chosen_which}
use Rattle.gc_select.specs.Selecting.{IsSelectedId, is_selected}
use Rattle.store_model.specs.Indexing.{entry_key}
use Rattle.store_model.specs.Needed.{IsNeededCopy, Needs, SumsNeeded}
use Rattle.store_model.specs.Slots.{AreHeaders, Copy, newest, place_of}
use Rattle.store_model.proofs.Copies.{length_within, lies, newest_within, some_same}
use Rattle.store_machine.specs.CollectsAlone.{HasChosen, IsRecorded}
use Rattle.store_machine.specs.CollectsByNeed.{Chooses, GivesBackByNeed, IsChosen, IsGone, IsLittle, IsMoved, IsToCopy, TakesIds}
use Rattle.store_machine.proofs.Moved.{Spares, needs_written, spares_as, all_so, carried, filled_there, found_key, none_needed, rank, rank_least, spares_of, still_newest, written}
use Rattle.store_machine.proofs.Sources.{IsOfSource, is_in}
use Rattle.store_machine.proofs.SweptAlone.{C, id_within, sums_same}
use Rattle.store_machine.proofs.Swept.{head_of, in_tail}

-- ---- tests

or_cases : (a b : Bool) → (a || b) ≡ true → (a ≡ true) ⊎ (b ≡ true)
or_cases true b is = inl refl
or_cases false b is = inr is

or_first : (a b : Bool) → a ≡ true → (a || b) ≡ true
or_first true b is = refl
or_first false b is = absurd cc

or_second : (a b : Bool) → b ≡ true → (a || b) ≡ true
or_second true b is = refl
or_second false b is = is

-- ---- little of a container

apart : (x y : ℕ) → x < y → y ≤ x → ⊥
apart x y less more = omega (arith, less, more)

little_tells : (percent needed all : ℕ) → IsLittle percent needed all ⊎ (IsLittle percent needed all → ⊥)
little_tells percent needed all = elim (leb_tells (percent * all) (needed * 100)) [
  | inr less ↦ inl (inl less.1)
  | inl more ↦ elim (eqb_tells needed 0) [
    | inl none ↦ inl (inr none.1)
    | inr some ↦ inr (neither more.1 some.1)
  ]
]
  where
    neither : percent * all ≤ needed * 100 → (needed ≡ 0 → ⊥) → IsLittle percent needed all → ⊥
    neither more some (inl less) = apart (needed * 100) (percent * all) less more
    neither more some (inr none) = some none

little_selected : (snapshot percent : ℕ) (r : ContainerLiveness) → r.id < snapshot → IsLittle percent r.live r.all → is_selected snapshot percent r ≡ true
little_selected snapshot percent r old little =
    both_true (nat_lt r.id snapshot) _ (lt-ltb r.id snapshot old) (by_case little)
  where
    by_case : IsLittle percent r.live r.all → (nat_lt (r.live * 100) (percent * r.all) || r.live == 0) ≡ true
    by_case (inl less) = or_first (nat_lt (r.live * 100) (percent * r.all)) _ (lt-ltb (r.live * 100) (percent * r.all) less)
    by_case (inr none) = or_second (nat_lt (r.live * 100) (percent * r.all)) _ (eq-eqb r.live 0 none)

selected_little : (snapshot percent : ℕ) (r : ContainerLiveness) → is_selected snapshot percent r ≡ true → IsLittle percent r.live r.all
selected_little snapshot percent r passes =
    let parts = both (nat_lt r.id snapshot) (nat_lt (r.live * 100) (percent * r.all) || r.live == 0) passes in
    elim (or_cases (nat_lt (r.live * 100) (percent * r.all)) (r.live == 0) parts.1) [
      | inl less ↦ inl (ltb-true (r.live * 100) (percent * r.all) less)
      | inr none ↦ inr (eqb-true r.live 0 none)
    ]

-- ---- how much of a container is needed

-- a copy has the place that the index would have
copy_at : (x : Option Copy) (place : Place) → option_map (λ (c : Copy). c.place) x ≡ Some place → (copy : Copy) × ((x ≡ Some copy) × (copy.place ≡ place))
copy_at None place is = absurd (let wrong : None ≡ Some place = is in cc)
copy_at (Some copy) place is = (copy, (refl, some_same copy.place place is))

module _ (P : ListOf ℕ → Type 0) (held : ListOf (Option HeaderValue)) (kind : Kind) (slot : ℕ) where
  -- the sum is one
  sum_once : (es : ListOf Entry) (a b : ℕ) → SumsNeeded P held kind slot es a → SumsNeeded P held kind slot es b → a ≡ b
  sum_once [] a b one other = one ∙ sym other
  sum_once (e ∷ es) a b (inl one) (inl other) = omega (arith, one.1.1, other.1.1, sum_once es one.1.0 other.1.0 one.1.2 other.1.2)
  sum_once (e ∷ es) a b (inl one) (inr other) = absurd (other.0 one.0)
  sum_once (e ∷ es) a b (inr one) (inl other) = absurd (one.0 other.0)
  sum_once (e ∷ es) a b (inr one) (inr other) = sum_once es a b one.1 other.1

  -- where something is needed, some entry is
  some_needed : (es : ListOf Entry) (sum : ℕ) → SumsNeeded P held kind slot es sum → ¬ (sum ≡ 0) → (e : Entry) × IsNeededCopy P held kind slot e
  some_needed [] sum is some = absurd (some is)
  some_needed (e ∷ es) sum (inl one) some = (e, one.0)
  some_needed (e ∷ es) sum (inr more) some = some_needed es sum more.1 some

  sum_within : (es : ListOf Entry) (sum : ℕ) → SumsNeeded P held kind slot es sum → sum ≤ bytes_of es
  sum_within [] sum is = omega (arith, is)
  sum_within (e ∷ es) sum (inl one) = omega (arith, one.1.1, sum_within es one.1.0 one.1.2, sum_by-cons (λ (x : Entry). x.length) e es)
  sum_within (e ∷ es) sum (inr more) = omega (arith, sum_within es sum more.1, sum_by-cons (λ (x : Entry). x.length) e es)

  -- where all is needed, each entry is
  all_needed : (es : ListOf Entry) (sum : ℕ) → SumsNeeded P held kind slot es sum → AllByRecursion (λ (e : Entry). 1 ≤ e.length) es → bytes_of es ≤ sum
      → AllByRecursion (IsNeededCopy P held kind slot) es
  all_needed [] sum is long whole = tt
  all_needed (e ∷ es) sum (inl one) long whole =
      (one.0, all_needed es one.1.0 one.1.2 long.1 (omega (arith, one.1.1, whole, sum_by-cons (λ (x : Entry). x.length) e es)))
  all_needed (e ∷ es) sum (inr more) long whole =
      absurd (omega (arith, whole, long.0, sum_within es sum more.1, sum_by-cons (λ (x : Entry). x.length) e es))

-- ---- headers

count_within : (count : ℕ) → is_count count ≡ true → 1 ≤ count
count_within count is = leb-true 1 count (both (nat_le 1 count) (nat_le count MOST_ENTRIES) is).0

lengths_of : (kind : Kind) (before es : ListOf Entry) → Follow kind before es → AllByRecursion (λ (e : Entry). 1 ≤ e.length) es
lengths_of kind before [] follow = tt
lengths_of kind before (e ∷ es) follow = ((length_within kind e.length follow.0.length).0, lengths_of kind (before ++ e ∷ []) es follow.1)

header_in : (held : ListOf (Option HeaderValue)) (slot : ℕ) (h : HeaderValue) → AreHeaders held → slice_get held slot ≡ Some (Some h) → IsHeader h
header_in [] slot h are there = absurd (let wrong : None ≡ Some (Some h) = there in cc)
header_in (None ∷ cs) zero h are there = absurd (let wrong : Some None ≡ Some (Some h) = there in cc)
header_in (Some g ∷ cs) zero h are there = subst IsHeader (some_same g h (some_same (Some g) (Some h) there)) are.0
header_in (None ∷ cs) (suc slot) h are there = header_in cs slot h are there
header_in (Some g ∷ cs) (suc slot) h are there = header_in cs slot h are.1 there

-- each container was there, or came since, with a right header
since_by : (P : ListOf ℕ → Type 0) (changes : ListOf StoreChange) (last from : ℕ) (s t : Store) → Spares P changes s t → TakesIds from changes → last ≤ from
    → (slot : ℕ) (h : HeaderValue) → HasContainer t slot h → HasContainer s slot h ⊎ ((last < h.id) × IsHeader h)
since_by P [] last from s t spares ids low slot h has = inl (subst (λ (x : Store). HasContainer x slot h) spares has)
since_by P (SealContainer id kind segments ∷ more) last from s t spares ids low slot h has = absurd spares
since_by P (ChangeName name change ∷ more) last from s t spares ids low slot h has = absurd spares
since_by P (FlushContainer id kind segments ∷ more) last from s t spares ids low slot h has =
    elim (since_by P more last (suc from) (with_sealed id kind segments s) t spares.1 ids.1 (omega (arith, low)) slot h has) [
      | inr new ↦ inr new
      | inl was ↦ elim (filled_there (header_of id kind segments) h s.held slot (omega (arith, spares.0.slot)) was) [
        | inl here ↦ inr (omega (arith, ap (λ (x : HeaderValue). x.id) here.1, ids.0, low), subst IsHeader (sym here.1) spares.0.right)
        | inr before ↦ inl before
      ]
    ]
since_by P (FreeContainer slot ∷ more) last from s t spares ids low other h has =
    elim (since_by P more last from (with_freed slot s) t spares.1 ids low other h has) [
      | inr new ↦ inr new
      | inl was ↦ inl (there_before slot other h s.held was).1
    ]

-- ---- what was recorded

each_of : {X : Type 0} (P : X → Type 0) (xs : ListOf X) (x : X) → AllByRecursion P xs → Contains xs x → P x
each_of P xs x all has = All-contains P xs x (All-from_recursion P xs all) has

later : (b : Bool) (first : ℕ) (rest : ListOf ℕ) (id : ℕ) → Contains rest id → Contains (if b then first ∷ rest else rest) id
later true first rest id has = in_tail first rest id has
later false first rest id has = has

-- the id of a container of before the snapshot is among those that were recorded
id_before : (snapshot : ℕ) (held : ListOf (Option HeaderValue)) (slot : ℕ) (h : HeaderValue) → slice_get held slot ≡ Some (Some h) → h.id < snapshot
    → Contains (ids_before snapshot held) h.id
id_before snapshot [] slot h there old = absurd (let wrong : None ≡ Some (Some h) = there in cc)
id_before snapshot (None ∷ cs) zero h there old = absurd (let wrong : Some None ≡ Some (Some h) = there in cc)
id_before snapshot (Some g ∷ cs) zero h there old =
    let same : g ≡ h = some_same g h (some_same (Some g) (Some h) there) in
    let low : g.id < snapshot = omega (arith, old, ap (λ (x : HeaderValue). x.id) same) in
    subst (λ (b : Bool). Contains (if b then g.id ∷ ids_before snapshot cs else ids_before snapshot cs) h.id) (sym (lt-ltb g.id snapshot low))
    (0, omega arith, ap (λ (x : HeaderValue). x.id) same)
id_before snapshot (None ∷ cs) (suc slot) h there old = id_before snapshot cs slot h there old
id_before snapshot (Some g ∷ cs) (suc slot) h there old = later (nat_lt g.id snapshot) g.id (ids_before snapshot cs) h.id (id_before snapshot cs slot h there old)

-- a record of an id
find_record : (rs : ListOf ContainerLiveness) (id : ℕ) → Contains (ids_of rs) id → (r : ContainerLiveness) × ((r.id ≡ id) × Contains rs r)
find_record [] id (k, below, is) = absurd (omega (arith, below))
find_record (r ∷ rs) id (zero, below, is) = (r, (is, head_of r rs))
find_record (r ∷ rs) id (suc k, below, is) = let rest = find_record rs id (k, omega (arith, below), is) in (rest.0, (rest.1.0, in_tail r rs rest.0 rest.1.1))

module _ (P : ListOf ℕ → Type 0) (percent : ℕ) (now : Found (ListOf ℕ))
    (words : (key : ListOf ℕ) → P key ↔ NamesNeed of_files now key) (opened after : Store) (c : C) (ids : HasIds opened (last_id opened.held)) (headers : AreHeaders opened.held)
    (chosen : HasChosen percent now opened c) (sweeps : Sweeps now c.changes opened after) (takes : TakesIds (last_id opened.held) c.changes)
    (copied : (key : ListOf ℕ) → Contains (keys_written c.changes) key → IsOfSource opened c key)
    (gone : (slot : ℕ) (h : HeaderValue) → HasContainer after slot h → ¬ (Contains (sources_in c) h.id))
    (stay : (slot : ℕ) (h : HeaderValue) → HasContainer opened slot h → ¬ (Contains (sources_in c) h.id) → HasContainer after slot h)
    (once : EachOnce (keys_written c.changes)) where
  abbrev Names : ListOf ℕ → Type 0
  Names = NamesNeed of_files now

  abbrev held : ListOf (Option HeaderValue)
  held = opened.held

  spares : Spares P c.changes opened after
  spares = spares_as Names P (λ key. (words key).0) c.changes opened after (spares_of now c.changes opened after sweeps)

  -- ---- what is known of a container

  low : (slot : ℕ) (h : HeaderValue) → HasContainer opened slot h → h.id < c.snapshot
  low slot h there = omega (arith, id_within held slot h there, chosen.snapshot_is)

  -- one that was recorded under its id is of it
  of_header : (slot : ℕ) (h : HeaderValue) → HasContainer opened slot h → (r : ContainerLiveness) → Contains c.recorded r → r.id ≡ h.id
      → Needs P held slot h r.live × (r.all ≡ bytes_of h.entries)
  of_header slot h there r contained same =
      let is : IsRecorded now opened r = each_of (IsRecorded now opened) c.recorded r chosen.each contained in
      let slot_is : is.slot ≡ slot = ids.differ is.slot slot is.header h is.there there (sym is.id_is ∙ same) in
      let header_is : is.header ≡ h = some_same is.header h (some_same (Some is.header) (Some h) (sym is.there ∙ ap (slice_get held) slot_is ∙ there)) in (
        subst (λ (k : ℕ). SumsNeeded P held h.kind k h.entries r.live) slot_is
            (subst (λ (g : HeaderValue). SumsNeeded P held g.kind is.slot g.entries r.live) header_is
            (sums_same Names P (λ key. (words key).1) (λ key. (words key).0) held is.header.kind is.slot is.header.entries r.live is.live_is)),
        is.all_is ∙ ap (λ (g : HeaderValue). bytes_of g.entries) header_is,
      )

  -- What is known of a container: how many of its bytes are needed; and it is a source just where these are few.
  record IsWeighed (slot : ℕ) (h : HeaderValue) : Type 0 where
    needed : ℕ
    needs : Needs P held slot h needed
    selects : IsLittle percent needed (bytes_of h.entries) → Contains (sources_in c) h.id
    selected : Contains (sources_in c) h.id → IsLittle percent needed (bytes_of h.entries)

  which : (id : ℕ) → (Contains (sources_in c) id → IsSelectedId c.snapshot c.percent c.recorded id) × (IsSelectedId c.snapshot c.percent c.recorded id → Contains (sources_in c) id)
  which id = let w = chosen_which c.snapshot c.percent c.recorded (sources_in c) refl id in (w.0, w.1)

  weighed : (slot : ℕ) (h : HeaderValue) → HasContainer opened slot h → IsWeighed slot h
  weighed slot h there = record {
    needed = r.live;
    needs = of.0;
    selects = λ little. (which h.id).1 (
      found.1.1.0,
      r,
      found.1.1.1,
      found.1.1.2,
      (
        found.1.0,
        little_selected c.snapshot c.percent r (omega (arith, found.1.0, low slot h there))
            (subst (λ (p : ℕ). IsLittle p r.live r.all) (sym chosen.percent_is) (subst (IsLittle percent r.live) (sym of.1) little)),
      ),
    );
    selected = λ source. by ((which h.id).0 source);
  }
    where
      found : (r : ContainerLiveness) × ((r.id ≡ h.id) × Contains c.recorded r)
      found = find_record c.recorded h.id (subst (λ (l : ListOf ℕ). Contains l h.id) (sym chosen.all) (id_before c.snapshot held slot h there (low slot h there)))

      r : ContainerLiveness
      r = found.0

      of : Needs P held slot h r.live × (r.all ≡ bytes_of h.entries)
      of = of_header slot h there r found.1.1 found.1.0

      by : IsSelectedId c.snapshot c.percent c.recorded h.id → IsLittle percent r.live (bytes_of h.entries)
      by (k, other, below, is, (same, passes)) =
          let also = of_header slot h there other (k, below, is) same in
          subst (λ (n : ℕ). IsLittle percent n (bytes_of h.entries)) (sum_once P held h.kind slot h.entries other.live r.live also.0 of.0)
          (subst (IsLittle percent other.live) also.1
          (subst (λ (p : ℕ). IsLittle p other.live other.all) chosen.percent_is (selected_little c.snapshot c.percent other passes)))

  chosen_of : (slot : ℕ) (h : HeaderValue) → HasContainer opened slot h → Contains (sources_in c) h.id → IsChosen P percent held slot
  chosen_of slot h there source =
      let is = weighed slot h there in record { header = h; there = there; needed = is.needed; sums = is.needs; little = is.selected source }

  source_of : (slot : ℕ) (is : IsChosen P percent held slot) → Contains (sources_in c) is.header.id
  source_of slot is =
      let w = weighed slot is.header is.there in
      w.selects (subst (λ (n : ℕ). IsLittle percent n (bytes_of is.header.entries))
      (sum_once P held is.header.kind slot is.header.entries is.needed w.needed is.sums w.needs) is.little)

  -- ---- where copies lie

  -- the container of the newest copy of a key
  record Lies (store : Store) (copy : Copy) : Type 0 where
    header : HeaderValue
    there : HasContainer store copy.place.slot header
    id_is : header.id ≡ copy.id

  lies_in : (store : Store) (key : ListOf ℕ) (copy : Copy) → newest 0 store.held key ≡ Some copy → Lies store copy
  lies_in store key copy is =
      let at = lies 0 store.held key copy is in
      let slot_is : copy.place.slot ≡ 0 + at.index = ap (λ (x : Copy). x.place.slot) at.copy_is in
      let same : at.index ≡ copy.place.slot = omega (arith, slot_is) in
      record {
        header = at.header;
        there = subst (λ (k : ℕ). slice_get store.held k ≡ Some (Some at.header)) same (slice_get-get_or store.held at.index None at.within ∙ ap Some at.there);
        id_is = sym (ap (λ (x : Copy). x.id) at.copy_is);
      }

  needed_of_written : (key : ListOf ℕ) → Contains (keys_written c.changes) key → P key
  needed_of_written key has = (words key).1 (needs_written now c.changes opened after sweeps key has)

  -- ---- what it chose

  only : (key : ListOf ℕ) → Contains (keys_written c.changes) key → IsToCopy P percent held key
  only key has =
      let of = copied key has in
      let at = lies_in opened key of.copy of.newest_is in (
        needed_of_written key has,
        (of.copy, (of.newest_is, chosen_of of.copy.place.slot at.header at.there (subst (Contains (sources_in c)) (sym at.id_is) of.source))),
      )

  all : (key : ListOf ℕ) → IsToCopy P percent held key → Contains (keys_written c.changes) key
  all key (needed, (copy, (is, little))) = ⊎_elim (λ has. has) (λ not. absurd (by not)) (is_in (keys_written c.changes) key)
    where
      by : ¬ (Contains (keys_written c.changes) key) → ⊥
      by not =
          let at = lies_in after key copy (still_newest P c.changes opened after key spares needed not ∙ is) in
          let was = lies_in opened key copy is in
          let same : little.header ≡ was.header = some_same little.header was.header (some_same (Some little.header) (Some was.header) (sym little.there ∙ was.there)) in
          let id_is : little.header.id ≡ at.header.id = ap (λ (x : HeaderValue). x.id) same ∙ was.id_is ∙ sym at.id_is in
          gone copy.place.slot at.header at.there (subst (Contains (sources_in c)) id_is (source_of copy.place.slot little))

  chooses : Chooses P percent held after.held c.changes
  chooses = record {
    each = λ slot h there.
        let is = weighed slot h there in (
          is.needed,
          (
            is.needs,
            elim (little_tells percent is.needed (bytes_of h.entries)) [
              | inl little ↦ inl (little, λ other g here same. gone other g here (subst (Contains (sources_in c)) (sym same) (is.selects little)))
              | inr much ↦ inr (much, stay slot h there (λ source. much (is.selected source)))
            ],
          ),
        );
    only = only;
    all = all;
    once = once;
  }

  -- ---- what is left

  since_right : (slot : ℕ) (h : HeaderValue) → HasContainer after slot h → HasContainer opened slot h ⊎ ((last_id held < h.id) × IsHeader h)
  since_right slot h has = since_by P c.changes (last_id held) (last_id held) opened after spares takes (omega arith) slot h has

  since : (slot : ℕ) (h : HeaderValue) → HasContainer after slot h → HasContainer opened slot h ⊎ (last_id held < h.id)
  since slot h has = elim (since_right slot h has) [ inl was ↦ inl was | inr new ↦ inr new.0 ]

  moved : (slot : ℕ) (h : HeaderValue) → HasContainer after slot h → last_id held < h.id → AllByRecursion (IsMoved P percent held after.held h.kind slot) h.entries
  moved slot h there above =
      elim (written P c.changes opened after spares once needed_of_written slot h there) [
        | inl was ↦ absurd (omega (arith, above, id_within held slot h was))
        | inr each ↦ all_so _ _ h.entries (λ e is.
            let of = only (entry_key h.kind e) is.0 in
            ((of.0, ap (option_map (λ (x : Copy). x.place)) is.1), of.1)) each
      ]

  carried_on : (key : ListOf ℕ) (copy : Copy) → Contains (keys_written c.changes) key → P key → newest 0 held key ≡ Some copy
      → (now : Copy) × ((newest 0 after.held key ≡ Some now) × (copy.id < now.id))
  carried_on key copy has needed is = carried P c.changes opened after key copy spares once needed_of_written has needed is

  all_moved : (key : ListOf ℕ) → IsToCopy P percent held key → (now : Copy) × ((newest 0 after.held key ≡ Some now) × (last_id held < now.id))
  all_moved key (needed, (copy, (is, little))) =
      let newer_one = carried_on key copy (all key (needed, (copy, (is, little)))) needed is in
      let at = lies 0 after.held key newer_one.0 newer_one.1.0 in
      let same : newer_one.0.id ≡ at.header.id = ap (λ (x : Copy). x.id) at.copy_is in (
        newer_one.0,
        (
          newer_one.1.0,
          elim (since at.index at.header (slice_get-get_or after.held at.index None at.within ∙ ap Some at.there)) [
            | inr above ↦ omega (arith, above, same)
            | inl was ↦ absurd (omega (arith, newer_one.1.1, same, rank_least 0 held key at.index at.header at.entry was at.found, ap rank is))
          ],
        ),
      )

  kept : (key : ListOf ℕ) (copy : Copy) → P key → newest 0 held key ≡ Some copy → (now : Copy) × (newest 0 after.held key ≡ Some now)
  kept key copy needed is = ⊎_elim
      (λ has. let one = carried_on key copy has needed is in (one.0, one.1.0))
      (λ not. (copy, still_newest P c.changes opened after key spares needed not ∙ is)) (is_in (keys_written c.changes) key)

  -- an entry of which the newest copy is needed, in a container of which not little is, was not copied
  not_copied : (slot : ℕ) (h : HeaderValue) (needed : ℕ) → HasContainer opened slot h → Needs P held slot h needed → ¬ (IsLittle percent needed (bytes_of h.entries)) → (e : Entry)
      → IsNeededCopy P held h.kind slot e → ¬ (Contains (keys_written c.changes) (entry_key h.kind e))
  not_copied slot h needed there sums much e is has =
      let of = only (entry_key h.kind e) has in
      let at = copy_at (newest 0 held (entry_key h.kind e)) (place_of slot e) is.1 in
      let same : of.1.0 ≡ at.0 = some_same of.1.0 at.0 (sym of.1.1.0 ∙ at.1.0) in
      let slot_is : of.1.0.place.slot ≡ slot = ap (λ (x : Copy). x.place.slot) same ∙ ap (λ (p : Place). p.slot) at.1.1 in
      by (subst (IsChosen P percent held) slot_is of.1.1.1)
    where
      by : IsChosen P percent held slot → ⊥
      by little =
          let header_is : little.header ≡ h = some_same little.header h (some_same (Some little.header) (Some h) (sym little.there ∙ there)) in
          let sums_h : Needs P held slot h little.needed = subst (λ (g : HeaderValue). Needs P held slot g little.needed) header_is little.sums in
          much (subst (λ (n : ℕ). IsLittle percent n (bytes_of h.entries)) (sum_once P held h.kind slot h.entries little.needed needed sums_h sums)
          (subst (λ (g : HeaderValue). IsLittle percent little.needed (bytes_of g.entries)) header_is little.little))

  still_there : (slot : ℕ) (h : HeaderValue) (needed : ℕ) → HasContainer opened slot h → Needs P held slot h needed → ¬ (IsLittle percent needed (bytes_of h.entries)) → (e : Entry)
      → IsNeededCopy P held h.kind slot e → IsNeededCopy P after.held h.kind slot e
  still_there slot h needed there sums much e is = (
    is.0,
    ap (option_map (λ (x : Copy). x.place))
        (still_newest P c.changes opened after (entry_key h.kind e) spares is.0 (not_copied slot h needed there sums much e is))
        ∙ is.1,
  )

  -- one that holds such a copy is not to spare
  not_spare : (slot : ℕ) (h : HeaderValue) (e : Entry) → IsNeededCopy P after.held h.kind slot e → IsSpare P after.held slot → ⊥
  not_spare slot h e is spare =
      let at = copy_at (newest 0 after.held (entry_key h.kind e)) (place_of slot e) is.1 in
      spare.none (entry_key h.kind e) at.0 is.0 at.1.0 (ap (λ (p : Place). p.slot) at.1.1)

  none_spare : (slot : ℕ) → ¬ (IsSpare P after.held slot)
  none_spare slot spare = by (since_right slot spare.header spare.holds)
    where
      h : HeaderValue
      h = spare.header

      first_of : (es : ListOf Entry) → 1 ≤ length es → AllByRecursion (IsMoved P percent held after.held h.kind slot) es → ⊥
      first_of [] some each = absurd (omega (arith, some))
      first_of (e ∷ es) some each = not_spare slot h e each.0.0 spare

      stays : (needed : ℕ) → HasContainer opened slot h → Needs P held slot h needed
          → (IsLittle percent needed (bytes_of h.entries) × IsGone after.held h.id)
          ⊎ ((¬ (IsLittle percent needed (bytes_of h.entries))) × (slice_get after.held slot ≡ Some (Some h))) → ⊥
      stays needed was sums (inl (little, none)) = none slot h spare.holds refl
      stays needed was sums (inr (much, there)) =
          let one = some_needed P held h.kind slot h.entries needed sums (λ z. much (inr z)) in
          not_spare slot h one.0 (still_there slot h needed was sums much one.0 one.1) spare

      by : HasContainer opened slot h ⊎ ((last_id held < h.id) × IsHeader h) → ⊥
      by (inl was) = let each = chooses.each slot h was in stays each.0 was each.1.0 each.1.1
      by (inr (above, right)) = first_of h.entries (count_within (length h.entries) right.count) (moved slot h spare.holds above)

  full : percent ≡ 100 → (slot : ℕ) (h : HeaderValue) → HasContainer after slot h → AllByRecursion (IsNeededCopy P after.held h.kind slot) h.entries
  full whole slot h has = by (since_right slot h has)
    where
      stays : (needed : ℕ) → HasContainer opened slot h → Needs P held slot h needed
          → (IsLittle percent needed (bytes_of h.entries) × IsGone after.held h.id)
          ⊎ ((¬ (IsLittle percent needed (bytes_of h.entries))) × (slice_get after.held slot ≡ Some (Some h)))
          → AllByRecursion (IsNeededCopy P after.held h.kind slot) h.entries
      stays needed was sums (inl (little, none)) = absurd (none slot h has refl)
      stays needed was sums (inr (much, there)) =
          let enough : bytes_of h.entries ≤ needed = elim (cases_lt needed (bytes_of h.entries)) [
            | inl less ↦ absurd (much (inl (subst (λ (p : ℕ). needed * 100 < p * bytes_of h.entries) (sym whole) (omega (arith, less)))))
            | inr more ↦ more
          ] in
          all_so _ _ h.entries (λ e is. still_there slot h needed was sums much e is)
          (all_needed P held h.kind slot h.entries needed sums (lengths_of h.kind [] h.entries (header_in held slot h headers was).entries) enough)

      by : HasContainer opened slot h ⊎ ((last_id held < h.id) × IsHeader h) → AllByRecursion (IsNeededCopy P after.held h.kind slot) h.entries
      by (inl was) = let each = chooses.each slot h was in stays each.0 was each.1.0 each.1.1
      by (inr (above, right)) = all_so _ _ h.entries (λ e is. is.0) (moved slot h has above)

  -- ---- none is copied at 0 percent

  none_there : percent ≡ 0 → (key : ListOf ℕ) → Contains (keys_written c.changes) key → ⊥
  none_there zero_is key has =
      let of = only key has in
      let copy = of.1.0 in
      let little = of.1.1.1 in
      let at = lies 0 held key copy of.1.1.0 in
      let place_is : copy.place ≡ place_of (0 + at.index) at.entry = ap (λ (x : Copy). x.place) at.copy_is in
      let slot_is : copy.place.slot ≡ at.index = (let is : copy.place.slot ≡ 0 + at.index = ap (λ (p : Place). p.slot) place_is in omega (arith, is)) in
      let header_is : little.header ≡ at.header =
      some_same little.header at.header (some_same (Some little.header) (Some at.header)
      (sym little.there ∙ ap (slice_get held) slot_is ∙ slice_get-get_or held at.index None at.within ∙ ap Some at.there)) in
      let none : little.needed ≡ 0 = nothing little.needed _ little.little in
      let key_is : entry_key at.header.kind at.entry ≡ key = found_key at.header.kind key at.header.entries at.entry at.found in
      let needed : IsNeededCopy P held at.header.kind copy.place.slot at.entry = (
        subst P (sym key_is) of.0,
        ap (λ (k : ListOf ℕ). option_map (λ (x : Copy). x.place) (newest 0 held k)) key_is ∙ ap (option_map (λ (x : Copy). x.place)) of.1.1.0
            ∙ ap Some (place_is ∙ ap (λ (n : ℕ). place_of n at.entry) (let is : 0 + at.index ≡ copy.place.slot = omega (arith, slot_is) in is)),
      ) in
      let some : 1 ≤ at.entry.length = omega (arith, (newest_within held key copy headers of.1.1.0).some, ap (λ (p : Place). p.length) place_is) in
      none_needed P held at.header.kind copy.place.slot _ at.header.entries at.entry little.needed
      (subst (λ (h : HeaderValue). Needs P held copy.place.slot h little.needed) header_is little.sums) none at.found some needed
    where
      nothing : (needed all : ℕ) → IsLittle percent needed all → needed ≡ 0
      nothing needed all (inl less) = absurd (let less_now : needed * 100 < 0 * all = subst (λ (p : ℕ). needed * 100 < p * all) zero_is less in omega (arith, less_now))
      nothing needed all (inr is) = is

  no_keys : (keys : ListOf (ListOf ℕ)) → ((key : ListOf ℕ) → Contains keys key → ⊥) → keys ≡ []
  no_keys [] none = refl
  no_keys (key ∷ keys) none = absurd (none key (head_of key keys))

  pub gives_back : GivesBackByNeed P percent opened after c.changes
  gives_back = record {
    chooses = chooses;
    since = since;
    moved = moved;
    all_moved = all_moved;
    kept = kept;
    none_copied = λ zero_is. no_keys (keys_written c.changes) (none_there zero_is);
    none_spare = none_spare;
    full = full;
  }

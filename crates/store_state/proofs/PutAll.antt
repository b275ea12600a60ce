-- Places of several containers put into an index, and all given back what they had.
use Rattle.std.proofs.Common.{◌≡◌, ◌≢◌, ◌⊎◌, inl, inr, ℕ, zero, suc, ◌+◌, ◌<◌, Bool, true, false, cond, List, [], ◌∷◌, ◌++◌, length, take, get_or, slice_get, Option, Some, None, Result, Ok, Err, OnOk, refl, sym, ◌∙◌, ap, subst, arith}
use Rattle.std.specs.Prelude.{IsSome, IfSome}
use Rattle.std.specs.Global.{Vec}
use Rattle.std.specs.Cmp.Lexicographic.{slice_cmp, nat_list_cmp_total}
use Rattle.std.specs.Ordering.{nat_cmp, eq_by_cmp}
use Rattle.std.specs.FinMap as finite
use Rattle.std.proofs.lemmas.List.{take_more}
use Rattle.std.proofs.lemmas.Slice.Eq.{bytes_eq-Decides}
use Rattle.container_meta.specs.declared.entry.Entry.{Entry}
use Rattle.container_meta.specs.declared.kind.Kind.{Kind}
use Rattle.container_meta.specs.declared.place.Place.{Place}
use Rattle.container_meta.specs.Places.{PlaceMap}
use Rattle.container_meta.specs.Segments.{Contents, entries_from}
use Rattle.segment_index.specs.Places.{KnownMap}
use Rattle.store_model.specs.Indexing.{entry_key, with_entries}
use Rattle.store_model.specs.Slots.{place_of}
use Rattle.store_model.proofs.Indexing.{tied}
use Rattle.store_state.specs.Indexing.{HaveHad, Stays, with_had}
use Rattle.store_state.specs.IndexingAll.{AreHadIn, AreListed, Covers, HaveHadIn, IsCovered, IsCoveredIn, IsOver, IsOverIn, IsRestored, Lacks, LacksIn, PutSome, Restores, RestoresIn, TakesAllBack, with_contents}
use Rattle.store_state.proofs.Indexed.{same_map}
use Rattle.store_state.proofs.PutBack.{had_at}

-- ---- one key

got_had : (had : Option Place) (key : List ℕ) (m : PlaceMap) (q : List ℕ)
    → finite.get (with_had had key m) q ≡ cond (eq_by_cmp (slice_cmp nat_cmp) q key) had (finite.get m q)
got_had (Some p) key m q = finite.get-insert nat_list_cmp_total m key p q
got_had None key m q = finite.get-remove nat_list_cmp_total m key q

key_tied : (q key : List ℕ) → eq_by_cmp (slice_cmp nat_cmp) q key ≡ true → q ≡ key
key_tied q key tie = sym ((bytes_eq-Decides key q).0 (sym (tied q key) ∙ tie))

key_here : (key : List ℕ) → eq_by_cmp (slice_cmp nat_cmp) key key ≡ true
key_here key = tied key key ∙ (bytes_eq-Decides key key).1 refl

key_apart : (q key : List ℕ) → eq_by_cmp (slice_cmp nat_cmp) q key ≡ false → key ≢ q
key_apart q key differ same = absurd (let wrong : true ≡ false = sym (key_here key) ∙ ap (λ (x : List ℕ). eq_by_cmp (slice_cmp nat_cmp) x key) same ∙ differ in cc)

-- what it has then, by whether it is the key
by_key : (had : Option Place) (key : List ℕ) (m : PlaceMap) (q : List ℕ)
    → ((q ≡ key) × (finite.get (with_had had key m) q ≡ had)) ⊎ ((key ≢ q) × (finite.get (with_had had key m) q ≡ finite.get m q))
by_key had key m q = by_tie (eq_by_cmp (slice_cmp nat_cmp) q key) refl
  where
    by_tie : (b : Bool) → eq_by_cmp (slice_cmp nat_cmp) q key ≡ b
        → ((q ≡ key) × (finite.get (with_had had key m) q ≡ had)) ⊎ ((key ≢ q) × (finite.get (with_had had key m) q ≡ finite.get m q))
    by_tie true tie = inl (key_tied q key tie, got_had had key m q ∙ ap (λ (b : Bool). cond b had (finite.get m q)) tie)
    by_tie false tie = inr (key_apart q key tie, got_had had key m q ∙ ap (λ (b : Bool). cond b had (finite.get m q)) tie)

-- ---- places are put over a base

some_on : (a b : Option Place) → a ≡ b → IsSome b → IsSome a
some_on a b is some = subst IsSome (sym is) some

over_on : (P Q R : List ℕ → Type 0) (a b c : PlaceMap) → ((key : List ℕ) → R key → P key) → ((key : List ℕ) → R key → Q key) → IsOver P a b → IsOver Q b c → IsOver R a c
over_on P Q R a b c one two first second = record {
  same = λ key lacks. second.same key (two key lacks) ∙ first.same key (one key lacks);
  covers = λ key some. second.covers key (first.covers key some);
}

over_put : (m : PlaceMap) (key : List ℕ) (place : Place) → IsOver (λ q. key ≢ q) m (finite.insert m key place)
over_put m key place = record {
  same = λ q apart. elim (by_key (Some place) key m q) [
    | inl same ↦ absurd (apart (sym same.0))
    | inr other ↦ other.1
  ];
  covers = λ q some. elim (by_key (Some place) key m q) [
    | inl same ↦ some_on _ (Some place) same.1 refl
    | inr other ↦ some_on _ (finite.get m q) other.1 some
  ];
}

over_none : (P : List ℕ → Type 0) (m : PlaceMap) → IsOver P m m
over_none P m = record { same = λ key lacks. refl; covers = λ key some. some }

pub over_entries : (kind : Kind) (slot : ℕ) (es : List Entry) (m : PlaceMap) → IsOver (Lacks kind es) m (with_entries kind slot es m)
over_entries kind slot [] m = over_none (Lacks kind []) m
over_entries kind slot (e ∷ es) m =
    over_on (λ q. entry_key kind e ≢ q) (Lacks kind es) (Lacks kind (e ∷ es)) m (finite.insert m (entry_key kind e) (place_of slot e))
    (with_entries kind slot (e ∷ es) m) (λ key lacks. lacks.0) (λ key lacks. lacks.1) (over_put m (entry_key kind e) (place_of slot e))
    (over_entries kind slot es (finite.insert m (entry_key kind e) (place_of slot e)))

lacks_taken : (kind : Kind) (es : List Entry) (n : ℕ) (key : List ℕ) → Lacks kind es key → Lacks kind (take n es) key
lacks_taken kind es zero key lacks = tt
lacks_taken kind [] (suc n) key lacks = tt
lacks_taken kind (e ∷ es) (suc n) key lacks = (lacks.0, lacks_taken kind es n key lacks.1)

-- of the first entries, so many
pub put_first : (kind : Kind) (slot : ℕ) (es : List Entry) (n : ℕ) (old mid new : Option PlaceMap) → KnownMap old (λ m. mid ≡ Some (with_entries kind slot (take n es) m))
    → new ≡ mid → PutSome kind es old new
put_first kind slot es n old mid new are same = λ m is. (
  with_entries kind slot (take n es) m,
  same ∙ are m is,
  over_on (λ q. Lacks kind (take n es) q) (λ q. Lacks kind (take n es) q) (Lacks kind es) m (with_entries kind slot (take n es) m) (with_entries kind slot (take n es) m)
      (lacks_taken kind es n) (lacks_taken kind es n) (over_entries kind slot (take n es) m) (over_none (Lacks kind (take n es)) (with_entries kind slot (take n es) m)),
)

-- those of a container among others
lacks_one : (filled : List Contents) (i : ℕ) (c : Contents) (key : List ℕ) → slice_get filled i ≡ Some c → LacksIn filled key → Lacks c.kind (entries_from 0 c.segments) key
lacks_one [] i c key here lacks = absurd cc
lacks_one (x ∷ xs) zero c key here lacks = subst (λ (y : Contents). Lacks y.kind (entries_from 0 y.segments) key) (same x c here) lacks.0
  where
    same : (a b : Contents) → Some a ≡ Some b → a ≡ b
    same a b e = cc
lacks_one (x ∷ xs) (suc i) c key here lacks = lacks_one xs i c key here lacks.1

pub over_one : (filled : List Contents) (i : ℕ) (c : Contents) → slice_get filled i ≡ Some c → (base m r : PlaceMap) → IsOver (LacksIn filled) base m
    → IsOver (Lacks c.kind (entries_from 0 c.segments)) m r → IsOver (LacksIn filled) base r
over_one filled i c here base m r first second =
    over_on (LacksIn filled) (Lacks c.kind (entries_from 0 c.segments)) (LacksIn filled) base m r (λ key lacks. lacks)
    (λ key lacks. lacks_one filled i c key here lacks) first second

-- ---- keys are given what they had

lacks_push : (kind : Kind) (es : List Entry) (e : Entry) (key : List ℕ) → Lacks kind es key → entry_key kind e ≢ key → Lacks kind (es ++ e ∷ []) key
lacks_push kind [] e key all one = (one, tt)
lacks_push kind (x ∷ xs) e key all one = (all.0, lacks_push kind xs e key all.1 one)

restored_covers : (P : List ℕ → Type 0) (base m r : PlaceMap) → Covers base m → IsRestored P base m r → Covers base r
restored_covers P base m r covers back = λ key some. elim (back key) [
  | inl same ↦ some_on (finite.get r key) (finite.get base key) same some
  | inr other ↦ some_on (finite.get r key) (finite.get m key) other.1 (covers key some)
]

module _ (kind : Kind) (es : List Entry) (hads : List (Option Place)) where
  -- of the first entries, so many
  pub record AreGiven (count : ℕ) (old now : Option PlaceMap) : Type 0 where
    pub back : (base m : PlaceMap) → HaveHad base kind es hads → Covers base m → old ≡ Some m → (r : PlaceMap) × (now ≡ Some r) × IsRestored (Lacks kind (take count es)) base m r
    pub stays : Stays old now
    pub unknown : now ≡ None → old ≡ None

  pub none_given : (old : Option PlaceMap) → AreGiven 0 old old
  none_given old = record { back = λ base m had covers is. (m, is, λ key. inr (tt, refl)); stays = λ none. none; unknown = λ none. none }

  pub all_given : (count : ℕ) (old now : Option PlaceMap) → take count es ≡ es → AreGiven count old now → Restores kind es hads old now
  all_given count old now whole are = λ base m had covers is.
      let was = are.back base m had covers is in
      (was.0, was.1, subst (λ (l : List Entry). IsRestored (Lacks kind l) base m was.0) whole was.2)

  module _ (i : ℕ) (d : Entry) (o : Option Place) (within : i < length es) (key : List ℕ) (key_is : key ≡ entry_key kind (get_or es i d)) (old mid : Option PlaceMap)
      (are : AreGiven i old mid) where
    -- the next has a place, if it had one
    pub next_there : KnownMap old (IsCovered kind es hads) → IfSome (get_or hads i o) (λ _. KnownMap mid (λ n. IsSome (finite.get n key)))
    next_there covered = by_had (get_or hads i o) refl
      where
        from_old : (p : Place) → get_or hads i o ≡ Some p → (n : PlaceMap) → mid ≡ Some n → (x : Option PlaceMap) → old ≡ x → IsSome (finite.get n key)
        from_old p had n there None none = absurd (let wrong : None ≡ Some n = sym (are.stays none) ∙ there in cc)
        from_old p had n there (Some m) is =
            let base = covered m is in
            let was = are.back base.0 m base.1 base.2 is in
            let same : was.0 ≡ n = same_map was.0 n (sym was.1 ∙ there) in
            let has : finite.get base.0 key ≡ Some p = ap (finite.get base.0) key_is ∙ sym (had_at base.0 kind es hads i d o within base.1) ∙ had in
            subst (λ (x : PlaceMap). IsSome (finite.get x key)) same
            (restored_covers (Lacks kind (take i es)) base.0 m was.0 base.2 was.2 key (some_on (finite.get base.0 key) (Some p) has refl))

        by_had : (h : Option Place) → get_or hads i o ≡ h → IfSome h (λ _. KnownMap mid (λ n. IsSome (finite.get n key)))
        by_had None is = tt
        by_had (Some p) is = λ n there. from_old p is n there old refl

    module _ (now : Option PlaceMap) (given : KnownMap mid (λ n. now ≡ Some (with_had (get_or hads i o) key n))) (given_stays : Stays mid now) where
      none_now : (m : Option PlaceMap) → mid ≡ m → now ≡ None → mid ≡ None
      none_now None is none = is
      none_now (Some n) is none = absurd (let wrong : None ≡ Some (with_had (get_or hads i o) key n) = sym none ∙ given n is in cc)

      one_given : (base m r : PlaceMap) → HaveHad base kind es hads → IsRestored (Lacks kind (take i es)) base m r
          → IsRestored (Lacks kind (take (i + 1) es)) base m (with_had (get_or hads i o) key r)
      one_given base m r had back = λ q. elim (by_key (get_or hads i o) key r q) [
        | inl same ↦
            inl (same.1 ∙ had_at base kind es hads i d o within had ∙ ap (finite.get base) (sym key_is ∙ sym same.0))
        | inr other ↦ elim (back q) [
          | inl is ↦ inl (other.1 ∙ is)
          | inr still ↦ inr (
            subst (λ (l : List Entry). Lacks kind l q) (sym (take_more es i d within))
                (lacks_push kind (take i es) (get_or es i d) q still.0 (λ e. other.0 (key_is ∙ e))),
            other.1 ∙ still.1,
          )
        ]
      ]

      pub more_given : AreGiven (i + 1) old now
      more_given = record {
        back = λ base m had covers is.
            let was = are.back base m had covers is in
            (with_had (get_or hads i o) key was.0, given was.0 was.1, one_given base m was.0 had was.2);
        stays = λ none. given_stays (are.stays none);
        unknown = λ none. are.unknown (none_now mid refl none);
      }

-- ---- container by container

lacks_in_push : (filled : List Contents) (i : ℕ) (c : Contents) (key : List ℕ) → slice_get filled i ≡ Some c → LacksIn (take i filled) key
    → Lacks c.kind (entries_from 0 c.segments) key
    → LacksIn (take (suc i) filled) key
lacks_in_push [] i c key here all one = absurd cc
lacks_in_push (x ∷ xs) zero c key here all one = (subst (λ (y : Contents). Lacks y.kind (entries_from 0 y.segments) key) (sym (same x c here)) one, tt)
  where
    same : (a b : Contents) → Some a ≡ Some b → a ≡ b
    same a b e = cc
lacks_in_push (x ∷ xs) (suc i) c key here all one = (all.0, lacks_in_push xs i c key here all.1 one)

module _ (filled : List Contents) (befores : List (Vec (Option Place))) where
  pub record AreGivenIn (count : ℕ) (old now : Option PlaceMap) : Type 0 where
    pub back : (base m : PlaceMap) → HaveHadIn base filled befores → Covers base m → old ≡ Some m
        → (r : PlaceMap) × (now ≡ Some r) × IsRestored (LacksIn (take count filled)) base m r
    pub stays : Stays old now
    pub unknown : now ≡ None → old ≡ None

  pub none_given_in : (old : Option PlaceMap) → AreGivenIn 0 old old
  none_given_in old = record { back = λ base m had covers is. (m, is, λ key. inr (tt, refl)); stays = λ none. none; unknown = λ none. none }

  pub all_given_in : (count : ℕ) (old now : Option PlaceMap) → take count filled ≡ filled → AreGivenIn count old now → RestoresIn filled befores old now
  all_given_in count old now whole are = λ base m had covers is.
      let was = are.back base m had covers is in
      (was.0, was.1, subst (λ (l : List Contents). IsRestored (LacksIn l) base m was.0) whole was.2)

  module _ (i : ℕ) (c : Contents) (before : Vec (Option Place)) (here : slice_get filled i ≡ Some c) (there : slice_get befores i ≡ Some before) (old mid : Option PlaceMap)
      (are : AreGivenIn i old mid) (kind : Kind) (es : List Entry) (hads : List (Option Place)) (kind_is : kind ≡ c.kind) (es_are : es ≡ entries_from 0 c.segments)
      (hads_are : hads ≡ before.items) where
    had_on : (base : PlaceMap) → HaveHadIn base filled befores → HaveHad base kind es hads
    had_on base had =
        subst (λ (k : Kind). HaveHad base k es hads) (sym kind_is)
        (subst (λ (l : List Entry). HaveHad base c.kind l hads) (sym es_are)
        (subst (λ (h : List (Option Place)). HaveHad base c.kind (entries_from 0 c.segments) h) (sym hads_are) (had i c before here there)))

    -- the next is covered
    pub next_covered : KnownMap old (IsCoveredIn filled befores) → KnownMap mid (IsCovered kind es hads)
    next_covered covered n is = from_old old refl
      where
        from_old : (x : Option PlaceMap) → old ≡ x → IsCovered kind es hads n
        from_old None none = absurd (let wrong : None ≡ Some n = sym (are.stays none) ∙ is in cc)
        from_old (Some m) known =
            let base = covered m known in
            let was = are.back base.0 m base.1 base.2 known in
            let same : was.0 ≡ n = same_map was.0 n (sym was.1 ∙ is) in
            (base.0, had_on base.0 base.1, subst (Covers base.0) same (restored_covers (LacksIn (take i filled)) base.0 m was.0 base.2 was.2))

    module _ (now : Option PlaceMap) (given : Restores kind es hads mid now) (given_stays : Stays mid now) (given_unknown : now ≡ None → mid ≡ None) where
      both_given : (base m r s : PlaceMap) → IsRestored (LacksIn (take i filled)) base m r → IsRestored (Lacks kind es) base r s
          → IsRestored (LacksIn (take (suc i) filled)) base m s
      both_given base m r s first second = λ key. elim (second key) [
        | inl same ↦ inl same
        | inr other ↦ elim (first key) [
          | inl same ↦ inl (other.1 ∙ same)
          | inr still ↦ inr (
            lacks_in_push filled i c key here still.0
                (subst (λ (k : Kind). Lacks k (entries_from 0 c.segments) key) kind_is (subst (λ (l : List Entry). Lacks kind l key) es_are other.0)),
            other.1 ∙ still.1,
          )
        ]
      ]

      pub more_given_in : (n : ℕ) → n ≡ suc i → AreGivenIn n old now
      more_given_in n is = subst (λ (k : ℕ). AreGivenIn k old now) (sym is) (record {
        back = λ base m had covers known.
            let was = are.back base m had covers known in
            let next = given base was.0 (had_on base had) (restored_covers (LacksIn (take i filled)) base m was.0 covers was.2) was.1 in
            (next.0, next.1, both_given base m was.0 next.0 was.2 next.2);
        stays = λ none. given_stays (are.stays none);
        unknown = λ none. are.unknown (given_unknown none);
      })

-- ---- all of it is taken back

restored_whole : (filled : List Contents) (base m r : PlaceMap) → IsOver (LacksIn filled) base m → IsRestored (LacksIn filled) base m r → r ≡ base
restored_whole filled base m r over back =
    finite.same_map nat_list_cmp_total (finite.slice_cmp-IsAntisymmetric finite.nat_cmp-IsAntisymmetric) r base (λ key. elim (back key) [
      | inl same ↦ same
      | inr other ↦ other.1 ∙ over.same key other.0
    ])

pub taken_all_back : (filled : List Contents) (befores : List (Vec (Option Place))) (i : ℕ) (c : Contents) → slice_get filled i ≡ Some c → (kind : Kind) (es : List Entry)
    → kind ≡ c.kind → es ≡ entries_from 0 c.segments → (old mid now : Option PlaceMap) → PutSome kind es old mid → RestoresIn filled befores mid now
    → TakesAllBack filled befores old now
taken_all_back filled befores i c here kind es kind_is es_are old mid now put back = λ base m had over is.
    let r = put m is in
    let also : IsOver (Lacks c.kind (entries_from 0 c.segments)) m r.0 =
    subst (λ (k : Kind). IsOver (Lacks k (entries_from 0 c.segments)) m r.0) kind_is (subst (λ (l : List Entry). IsOver (Lacks kind l) m r.0) es_are r.2) in
    let whole = over_one filled i c here base m r.0 over also in
    let last = back base r.0 had whole.covers r.1 in
    last.1 ∙ ap Some (restored_whole filled base r.0 last.0 whole last.2)

-- the first so many containers are over it
pub over_first : (slots : List ℕ) (filled : List Contents) (n : ℕ) (m : PlaceMap) → IsOver (LacksIn filled) m (with_contents (take n slots) (take n filled) m)
over_first slots filled n m = over_all (take n slots) (take n filled) m (taken n filled)
  where
    taken : (k : ℕ) (cs : List Contents) (key : List ℕ) → LacksIn cs key → LacksIn (take k cs) key
    taken zero cs key lacks = tt
    taken (suc k) [] key lacks = tt
    taken (suc k) (x ∷ xs) key lacks = (lacks.0, taken k xs key lacks.1)

    over_all : (ss : List ℕ) (cs : List Contents) (m : PlaceMap) → ((key : List ℕ) → LacksIn filled key → LacksIn cs key) → IsOver (LacksIn filled) m (with_contents ss cs m)
    over_all [] cs m each = over_none (LacksIn filled) m
    over_all (s ∷ ss) [] m each = over_none (LacksIn filled) m
    over_all (s ∷ ss) (x ∷ xs) m each =
        over_on (Lacks x.kind (entries_from 0 x.segments)) (LacksIn filled) (LacksIn filled) m (with_entries x.kind s (entries_from 0 x.segments) m)
        (with_contents (s ∷ ss) (x ∷ xs) m) (λ key lacks. (each key lacks).0) (λ key lacks. lacks) (over_entries x.kind s (entries_from 0 x.segments) m)
        (over_all ss xs (with_entries x.kind s (entries_from 0 x.segments) m) (λ key lacks. (each key lacks).1))

-- one container more is in
pub with_next_contents : (slots : List ℕ) (filled : List Contents) (i n slot : ℕ) (c : Contents) (m : PlaceMap) → slice_get slots i ≡ Some slot
    → slice_get filled i ≡ Some c → n ≡ suc i
    → with_contents (take n slots) (take n filled) m ≡ with_entries c.kind slot (entries_from 0 c.segments) (with_contents (take i slots) (take i filled) m)
with_next_contents slots filled i n slot c m here there is =
    ap (λ (k : ℕ). with_contents (take k slots) (take k filled) m) is ∙ next slots filled i m here there
  where
    next : (ss : List ℕ) (cs : List Contents) (j : ℕ) (m : PlaceMap) → slice_get ss j ≡ Some slot → slice_get cs j ≡ Some c
        → with_contents (take (suc j) ss) (take (suc j) cs) m ≡ with_entries c.kind slot (entries_from 0 c.segments) (with_contents (take j ss) (take j cs) m)
    next [] cs j m here there = absurd cc
    next (s ∷ ss) [] j m here there = absurd cc
    next (s ∷ ss) (x ∷ xs) zero m here there =
        ap (λ (k : ℕ). with_entries x.kind k (entries_from 0 x.segments) m) (same_slot s slot here)
        ∙ ap (λ (y : Contents). with_entries y.kind slot (entries_from 0 y.segments) m) (same x c there)
      where
        same_slot : (a b : ℕ) → Some a ≡ Some b → a ≡ b
        same_slot a b e = cc

        same : (a b : Contents) → Some a ≡ Some b → a ≡ b
        same a b e = cc
    next (s ∷ ss) (x ∷ xs) (suc j) m here there = next ss xs j (with_entries x.kind s (entries_from 0 x.segments) m) here there

-- ---- before and after one of them

module _ (filled : List Contents) (befores : List (Vec (Option Place))) (old mid : Option PlaceMap) (stays : Stays old mid) where
  -- where some of one were put over a base
  pub covered_then : (kind : Kind) (es : List Entry) → KnownMap old (IsOverIn filled befores) → PutSome kind es old mid → KnownMap mid (IsCoveredIn filled befores)
  covered_then kind es over put n is = from_old old refl
    where
      from_old : (x : Option PlaceMap) → old ≡ x → IsCoveredIn filled befores n
      from_old None none = absurd (let wrong : None ≡ Some n = sym (stays none) ∙ is in cc)
      from_old (Some m) known =
          let base = over m known in
          let r = put m known in
          let same : r.0 ≡ n = same_map r.0 n (sym r.1 ∙ is) in
          (base.0, base.1, subst (Covers base.0) same (λ key some. r.2.covers key (base.2.covers key some)))

  module _ (size : ℕ) (slots : List ℕ) (i : ℕ) (had : AreHadIn size old filled befores)
      (are : KnownMap old (λ m. mid ≡ Some (with_contents (take i slots) (take i filled) m))) where
    had_in : (m : PlaceMap) → old ≡ Some m → HaveHadIn m filled befores
    had_in m known = λ j c before here there. (had j c before here there).had m known

    -- the first so many are over what there was
    pub over_then : KnownMap mid (IsOverIn filled befores)
    over_then n is = from_old old refl
      where
        from_old : (x : Option PlaceMap) → old ≡ x → IsOverIn filled befores n
        from_old None none = absurd (let wrong : None ≡ Some n = sym (stays none) ∙ is in cc)
        from_old (Some m) known =
            let same : with_contents (take i slots) (take i filled) m ≡ n = same_map (with_contents (take i slots) (take i filled) m) n (sym (are m known) ∙ is) in
            (m, had_in m known, subst (IsOver (LacksIn filled) m) same (over_first slots filled i m))

    -- and where memory ran out all is as it was
    pub as_at_first : (now : Option PlaceMap) → TakesAllBack filled befores mid now → Stays mid now → now ≡ old
    as_at_first now back back_stays = from_old old refl
      where
        from_old : (x : Option PlaceMap) → old ≡ x → now ≡ old
        from_old None none = back_stays (stays none) ∙ sym none
        from_old (Some m) known =
            back m (with_contents (take i slots) (take i filled) m) (had_in m known) (over_first slots filled i m) (are m known) ∙ sym known

pub listed_had : (size : ℕ) (known : Option PlaceMap) (filled : List Contents) (befores : List (Vec (Option Place))) → AreHadIn size known filled befores →
    AreListed size filled befores
listed_had size known filled befores had = λ i c before here there. let one = had i c before here there in (one.many, one.lie)

pub ok_on : {T E : Type 0} (result : Result T E) (P Q : Type 0) → (P → Q) → OnOk result P → OnOk result Q
ok_on (Ok x) P Q each has = each has
ok_on (Err e) P Q each has = tt

-- a map that is restored is known where it was
pub none_restored : (kind : Kind) (es : List Entry) (hads : List (Option Place)) (old new : Option PlaceMap) → KnownMap old (IsCovered kind es hads) → Restores kind es hads old new
    → new ≡ None → old ≡ None
none_restored kind es hads None new covered back none = refl
none_restored kind es hads (Some m) new covered back none =
    absurd (
    let base = covered m refl in
    let r = back base.0 m base.1 base.2 refl in
    let wrong : None ≡ Some r.0 = sym none ∙ r.1 in cc)

pub listed_on : (size mid_size : ℕ) (filled : List Contents) (befores : List (Vec (Option Place))) → mid_size ≡ size → AreListed size filled befores
    → AreListed mid_size filled befores
listed_on size mid_size filled befores same lie = subst (λ (n : ℕ). AreListed n filled befores) (sym same) lie

pub entries_on : (x z : Contents) (kind : Kind) (slot : ℕ) (es : List Entry) (m : PlaceMap) → x ≡ z → kind ≡ x.kind → es ≡ entries_from 0 x.segments
    → with_entries kind slot es m ≡ with_entries z.kind slot (entries_from 0 z.segments) m
entries_on x z kind slot es m same kind_is es_are =
    ap (λ (k : Kind). with_entries k slot es m) kind_is
    ∙ ap (λ (l : List Entry). with_entries x.kind slot l m) es_are
    ∙ ap (λ (y : Contents). with_entries y.kind slot (entries_from 0 y.segments) m) same

pub one_there : (filled : List Contents) (i : ℕ) → i < length filled → (c : Contents) × (slice_get filled i ≡ Some c)
one_there [] i within = absurd (omega (arith, within))
one_there (c ∷ cs) zero within = (c, refl)
one_there (c ∷ cs) (suc i) within = one_there cs i (omega (arith, within))

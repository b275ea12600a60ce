-- Entries put into an index one after the other, and taken back the last of them first.
use Rattle.std.proofs.Common.{◌≡◌, ℕ, zero, suc, ◌+◌, ◌<◌, false, List, [], ◌∷◌, ◌++◌, length, take, drop, get_or, Option, Some, None, refl, sym, ◌∙◌, ap, subst, arith}
use Rattle.std.specs.Prelude.{IfSome, IsSome}
use Rattle.std.specs.List.{AllByRecursion}
use Rattle.std.specs.Str.{bytes_eq}
use Rattle.std.specs.FinMap as finite
use Rattle.std.proofs.Math.Seq.{drop-cons}
use Rattle.std.proofs.lemmas.List.{take_more}
use Rattle.container_meta.specs.declared.entry.Entry.{Entry}
use Rattle.container_meta.specs.declared.kind.Kind.{Kind}
use Rattle.container_meta.specs.declared.place.Place.{Place}
use Rattle.container_meta.specs.Places.{PlaceMap}
use Rattle.container_meta.specs.Spelling.{Follow}
use Rattle.dd_disk.specs.Ending.{Done}
use Rattle.dd_disk.specs.View.{DiskView}
use Rattle.disk_format.specs.Layout.{size_of, slot_at}
use Rattle.segment_index.specs.Changes.{Changes}
use Rattle.segment_index.specs.Places.{KnownMap}
use Rattle.store_model.specs.Indexing.{entry_key, with_entries}
use Rattle.store_model.specs.Slots.{place_of}
use Rattle.store_state.specs.Indexing.{AreHad, ArePart, HaveHad, IsOfSlots, IsPutOver, PutOver, Stays, TakesBack, with_entry, with_had}
use Rattle.store_state.proofs.Indexed.{given_back, got_other, got_put, later_differ, same_map}

-- ---- lists

pub all_got : {X : Type 0} (P : X → Type 0) (d : X) (xs : List X) (j : ℕ) → j < length xs → AllByRecursion P xs → P (get_or xs j d)
all_got P d [] j within all = absurd (omega (arith, within))
all_got P d (x ∷ xs) zero within all = all.0
all_got P d (x ∷ xs) (suc j) within all = all_got P d xs j (omega (arith, within)) all.1

pub if_some : {X : Type 0} (o : Option X) (P : Type 0) → P → IfSome o (λ _. P)
if_some None P has = tt
if_some (Some x) P has = has

one_taken : (es : List Entry) (i : ℕ) (d : Entry) → i < length es → take 1 (drop i es) ≡ get_or es i d ∷ []
one_taken es i d within = ap (take 1) (drop-cons es i d within)

-- ---- one entry more

with_push : (kind : Kind) (slot : ℕ) (es : List Entry) (e : Entry) (m : PlaceMap) → with_entries kind slot (es ++ e ∷ []) m ≡ finite.insert (with_entries kind slot es m)
    (entry_key kind e) (place_of slot e)
with_push kind slot [] e m = refl
with_push kind slot (x ∷ xs) e m = with_push kind slot xs e (finite.insert m (entry_key kind x) (place_of slot x))

module _ (kind : Kind) (slot : ℕ) (es : List Entry) (i : ℕ) (d : Entry) (within : i < length es) where
  pub with_more : (m : PlaceMap) → with_entries kind slot (take (i + 1) es) m ≡ finite.insert (with_entries kind slot (take i es) m) (entry_key kind (get_or es i d))
      (place_of slot (get_or es i d))
  with_more m = ap (λ (xs : List Entry). with_entries kind slot xs m) (take_more es i d within) ∙ with_push kind slot (take i es) (get_or es i d) m

  -- as the call says it
  pub with_one : (m : PlaceMap) → with_entry kind slot es i m ≡ finite.insert m (entry_key kind (get_or es i d)) (place_of slot (get_or es i d))
  with_one m = ap (λ (xs : List Entry). with_entries kind slot xs m) (one_taken es i d within)

  pub with_next : (m : PlaceMap) → with_entry kind slot es i (with_entries kind slot (take i es) m) ≡ with_entries kind slot (take (i + 1) es) m
  with_next m = with_one (with_entries kind slot (take i es) m) ∙ sym (with_more m)

-- the key of an entry has what it had before those in front of it were put
got_before : (kind : Kind) (slot : ℕ) (first es : List Entry) (i : ℕ) (d : Entry) → i < length es → Follow kind first es → (m : PlaceMap)
    → finite.get (with_entries kind slot (take i es) m) (entry_key kind (get_or es i d)) ≡ finite.get m (entry_key kind (get_or es i d))
got_before kind slot first [] i d within follow m = absurd (omega (arith, within))
got_before kind slot first (e ∷ es) zero d within follow m = refl
got_before kind slot first (e ∷ es) (suc i) d within follow m =
    got_before kind slot (first ++ e ∷ []) es i d (omega (arith, within)) follow.1 (finite.insert m (entry_key kind e) (place_of slot e))
    ∙ got_other m (entry_key kind e) (entry_key kind (get_or es i d)) (place_of slot e)
    (all_got (λ (x : Entry). bytes_eq (entry_key kind e) (entry_key kind x) ≡ false) d es i (omega (arith, within)) (later_differ kind first e es follow))

pub had_at : (m : PlaceMap) (kind : Kind) (es : List Entry) (hads : List (Option Place)) (i : ℕ) (d : Entry) (o : Option Place) → i < length es → HaveHad m kind es hads →
    get_or hads i o ≡ finite.get m (entry_key kind (get_or es i d))
had_at m kind [] hads i d o within had = absurd (omega (arith, within))
had_at m kind (e ∷ es) [] i d o within had = absurd had
had_at m kind (e ∷ es) (p ∷ ps) zero d o within had = had.0
had_at m kind (e ∷ es) (p ∷ ps) (suc i) d o within had = had_at m kind es ps i d o (omega (arith, within)) had.1

-- ---- one entry is taken back

module _ (kind : Kind) (es : List Entry) (hads : List (Option Place)) (i : ℕ) (d : Entry) (o : Option Place) (within : i < length es) (key : List ℕ)
    (key_is : key ≡ entry_key kind (get_or es i d)) where
  -- it has a place
  pub there_now : (after : PlaceMap) → IsPutOver kind es hads (i + 1) after → IsSome (finite.get after key)
  there_now after (before, put) =
      let e = get_or es i d in
      let there = got_put (with_entries kind put.slot (take i es) before) (entry_key kind e) (place_of put.slot e) in
      let is : finite.get after key ≡ Some (place_of put.slot e) =
      ap (finite.get after) key_is ∙ ap (λ (m : PlaceMap). finite.get m (entry_key kind e)) (put.is ∙ with_more kind put.slot es i d within before) ∙ there in
      subst IsSome (sym is) refl

  -- and then that which it had
  fewer : (before after : PlaceMap) → (put : PutOver kind es hads (i + 1) before after) → with_had (get_or hads i o) key after ≡ with_entries kind put.slot (take i es) before
  fewer before after put =
      let e = get_or es i d in
      let m = with_entries kind put.slot (take i es) before in
      ap (λ (k : List ℕ). with_had (get_or hads i o) k after) key_is
      ∙ ap (λ (n : PlaceMap). with_had (get_or hads i o) (entry_key kind e) n) (put.is ∙ with_more kind put.slot es i d within before)
      ∙ given_back m (entry_key kind e) (place_of put.slot e) (get_or hads i o)
      (had_at before kind es hads i d o within put.had ∙ sym (got_before kind put.slot put.first es i d within put.follow before))

  pub one_back : (before after last : PlaceMap) → PutOver kind es hads (i + 1) before after → last ≡ with_had (get_or hads i o) key after → PutOver kind es hads i before last
  one_back before after last put is = record {
    slot = put.slot;
    first = put.first;
    follow = put.follow;
    had = put.had;
    is = is ∙ fewer before after put;
  }

-- ---- entries are taken back, the last of them first

-- what is left of them: the map is that with the first ones, so many
pub record AreBack (kind : Kind) (es : List Entry) (hads : List (Option Place)) (count left : ℕ) (old now : Option PlaceMap) : Type 0 where
  pub over : KnownMap now (IsPutOver kind es hads left)
  pub back : (before after : PlaceMap) → PutOver kind es hads count before after → old ≡ Some after → (x : PlaceMap) × (PutOver kind es hads left before x × (now ≡ Some x))
  pub stays : Stays old now
  pub unknown : now ≡ None → old ≡ None

pub none_back : (kind : Kind) (es : List Entry) (hads : List (Option Place)) (count : ℕ) (old : Option PlaceMap) → KnownMap old (IsPutOver kind es hads count) →
    AreBack kind es hads count count old old
none_back kind es hads count old over = record { over = over; back = λ before after put is. (after, (put, is)); stays = λ none. none; unknown = λ none. none }

module _ (kind : Kind) (es : List Entry) (hads : List (Option Place)) (count left i : ℕ) (d : Entry) (o : Option Place) (within : i < length es) (left_is : left ≡ i + 1)
    (key : List ℕ) (key_is : key ≡ entry_key kind (get_or es i d))
    (old mid : Option PlaceMap) (so_far : AreBack kind es hads count left old mid) where
  over_now : KnownMap mid (IsPutOver kind es hads (i + 1))
  over_now n is = subst (λ (k : ℕ). IsPutOver kind es hads k n) left_is (so_far.over n is)

  pub there_back : KnownMap mid (λ n. IsSome (finite.get n key))
  there_back n is = there_now kind es hads i d o within key key_is n (over_now n is)

  module _ (now : Option PlaceMap) (given : KnownMap mid (λ n. now ≡ Some (with_had (get_or hads i o) key n))) (given_stays : Stays mid now) where
    pub one_more_back : AreBack kind es hads count i old now
    one_more_back = record {
      over = by_mid mid refl;
      back = λ before after put is.
          let had = so_far.back before after put is in
          let over : PutOver kind es hads (i + 1) before had.0 = subst (λ (k : ℕ). PutOver kind es hads k before had.0) left_is had.1.0 in (
            with_had (get_or hads i o) key had.0,
            (
              one_back kind es hads i d o within key key_is before had.0 (with_had (get_or hads i o) key had.0) over refl,
              given had.0
                  had.1.1,
            ),
          );
      stays = λ none. given_stays (so_far.stays none);
      unknown = λ none. so_far.unknown (before_none mid refl none);
    }
      where
        before_none : (m : Option PlaceMap) → mid ≡ m → now ≡ None → mid ≡ None
        before_none None is none = is
        before_none (Some n) is none = absurd (let wrong : None ≡ Some (with_had (get_or hads i o) key n) = sym none ∙ given n is in cc)

        by_mid : (m : Option PlaceMap) → mid ≡ m → KnownMap now (IsPutOver kind es hads i)
        by_mid None is n there = absurd (let wrong : None ≡ Some n = sym (given_stays is) ∙ there in cc)
        by_mid (Some x) is n there =
            let over = over_now x is in
            let last = with_had (get_or hads i o) key x in
            let same : n ≡ last = same_map n last (sym there ∙ given x is) in
            (over.0, one_back kind es hads i d o within key key_is over.0 x n over.1 same)

-- all of them
pub all_back : (kind : Kind) (es : List Entry) (hads : List (Option Place)) (count left : ℕ) (old now : Option PlaceMap) → left ≡ 0 → AreBack kind es hads count left old now →
    TakesBack kind es hads count old now
all_back kind es hads count left old now none are before after put is =
    let had = are.back before after put is in
    let over : PutOver kind es hads 0 before had.0 = subst (λ (k : ℕ). PutOver kind es hads k before had.0) none had.1.0 in
    had.1.1 ∙ ap Some over.is

-- ---- entries are put, the first of them first

-- the first of them are in
abbrev pub AreIn : Kind → ℕ → List Entry → ℕ → Option PlaceMap → Option PlaceMap → Type 0
AreIn kind slot es count old now = KnownMap old (λ m. now ≡ Some (with_entries kind slot (take count es) m))

pub in_more : (kind : Kind) (slot : ℕ) (es : List Entry) (i : ℕ) (d : Entry) → i < length es → (old mid now : Option PlaceMap) → AreIn kind slot es i old mid →
    KnownMap mid (λ m. now ≡ Some (with_entry kind slot es i m))
    → AreIn kind slot es (i + 1) old now
in_more kind slot es i d within old mid now are one m is = one (with_entries kind slot (take i es) m) (are m is) ∙ ap Some (with_next kind slot es i d within m)

module _ (size : ℕ) (kind : Kind) (slot : ℕ) (es : List Entry) (hads : List (Option Place)) (count : ℕ) (old mid : Option PlaceMap) (part : ArePart size slot kind es)
    (had : AreHad size old kind es hads)
    (are : AreIn kind slot es count old mid) (stays : Stays old mid) where
  put_over : (m : PlaceMap) → old ≡ Some m → PutOver kind es hads count m (with_entries kind slot (take count es) m)
  put_over m is = record { slot = slot; first = part.before; follow = part.follow; had = had.had m is; is = refl }

  pub over_in : KnownMap mid (IsPutOver kind es hads count)
  over_in n there = by_old old refl
    where
      by_old : (o : Option PlaceMap) → old ≡ o → IsPutOver kind es hads count n
      by_old None none = absurd (let wrong : None ≡ Some n = sym (stays none) ∙ there in cc)
      by_old (Some m) is =
          let same : with_entries kind slot (take count es) m ≡ n = same_map (with_entries kind slot (take count es) m) n (sym (are m is) ∙ there) in
          (m, subst (λ (x : PlaceMap). PutOver kind es hads count m x) same (put_over m is))

  -- where they were taken back
  pub as_before : (now : Option PlaceMap) → TakesBack kind es hads count mid now → Stays mid now → now ≡ old
  as_before now back back_stays = by_old old refl
    where
      by_old : (o : Option PlaceMap) → old ≡ o → now ≡ old
      by_old None none = back_stays (stays none) ∙ sym none
      by_old (Some m) is = back m (with_entries kind slot (take count es) m) (put_over m is) (are m is) ∙ sym is

-- ---- the size of the disk

pub size_in : (old new : DiskView) → IsOfSlots old.size → ((slots : ℕ) → old.size ≡ size_of slots → Changes (slot_at slots) Done old new) → new.size ≡ old.size
size_in old new of_slots changes = (changes of_slots.slots of_slots.size_is).later.size_is

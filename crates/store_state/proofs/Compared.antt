-- Segments that are offered, and their copies, one after the other.
use Rattle.std.proofs.Common.{◌≡◌, ℕ, suc, ◌+◌, ◌<◌, List, [], ◌∷◌, ◌++◌, length, take, Option, Some, None, refl, sym, ap, subst, ◌∙◌, arith, length-append}
use Rattle.std.specs.Prelude.{IfSome}
use Rattle.std.specs.List.{AllByRecursion}
use Rattle.std.specs.FinMap as finite
use Rattle.sha2.specs.Sha256.{sha256}
use Rattle.base_model.specs.Bytes.{key_of}
use Rattle.disk_format.specs.declared.why.Why.{Why}
use Rattle.dd_disk.specs.View.{DiskView, OnlyReads, IsLater}
use Rattle.dd_disk.specs.Shows.{Shows}
use Rattle.dd_disk.proofs.Shows.{always, weaker, since, both, until}
use Rattle.container_meta.specs.declared.entry.Entry.{Entry}
use Rattle.container_meta.specs.declared.kind.Kind.{Kind}
use Rattle.container_meta.specs.declared.kind.Kind.TheVariants as kinds
use Rattle.container_meta.specs.declared.place.Place.{Place}
use Rattle.container_meta.specs.Format.{kind_byte}
use Rattle.container_meta.specs.Places.{PlaceMap}
use Rattle.container_meta.specs.Segments.{Segment, bytes_in, entries_from, segment_at, segment_key}
use Rattle.container_meta.proofs.Packing.{entries_from-push, entry_for}
use Rattle.refusals.specs.declared.refusal.Difference.TheVariants.{Length, Byte}
use Rattle.refusals.specs.declared.refusal.Refusal.{Refusal}
use Rattle.refusals.specs.declared.refusal.Refusal.TheVariants.{Memory, DiskRead, Clash, Corrupt, Damaged}
use Rattle.segment_index.specs.Places.{KnownMap, IsPlace}
use Rattle.store_model.specs.Image.{Store}
use Rattle.store_model.specs.Indexing.{entry_key}
use Rattle.store_model.specs.Slots.{Copy, HasKey, IsPartialIndexOf, newest}
use Rattle.store_model.specs.Steps.{FitsCopy, FitsHeld}
use Rattle.store_state.specs.Comparing.{IsSameRefusal, IsUnlike, IsOneRefusal, FitsHad, AllFit, FitSoFar, IsFirstUnlike, IsAllRefusal}
use Rattle.store_state.specs.Indexing.{HaveHad}

-- what was found after calls that only read
pub same_since : (old mid new : DiskView) → OnlyReads old mid → (kind : Kind) (digest offered : List ℕ) (place : Place) (refusal : Refusal)
    → IsSameRefusal (Shows mid new) kind digest offered place refusal → IsSameRefusal (Shows old new) kind digest offered place refusal
same_since old mid new reads kind digest offered place (Clash key (Length mine other)) has = has
same_since old mid new reads kind digest offered place (Clash key (Byte at mine other)) has = (has.0, has.1, (has.2.0, since old mid new reads has.2.1))
same_since old mid new reads kind digest offered place (Corrupt slot offset count want got) has =
    let c = has.2 in
    (has.0, has.1, (c.0, c.1, c.2, c.3, c.4, record { bytes = c.5.bytes; long = c.5.long; digest_is = c.5.digest_is; there = since old mid new reads c.5.there }))
same_since old mid new reads kind digest offered place DiskRead has = has
same_since old mid new reads kind digest offered place refusal has = absurd has.2

pub of_one : (damaged : ℕ → Why → Type 0) (size : ℕ) (known : Option PlaceMap) (shown : (List ℕ → Type 0) → Type 0) (kind : Kind) (digest offered : List ℕ) (place : Place)
    → KnownMap known (λ m. finite.get m (key_of (kind_byte kind) digest) ≡ Some place) → IsPlace size place → (refusal : Refusal) →
    IsSameRefusal shown kind digest offered place refusal
    → IsOneRefusal damaged (IsUnlike size known shown kind digest offered) refusal
of_one damaged size known shown kind digest offered place there lies DiskRead has = tt
of_one damaged size known shown kind digest offered place there lies (Damaged at why) has = absurd has.2
of_one damaged size known shown kind digest offered place there lies refusal has = record { place = place; there = there; lies = lies; refused = has }

-- ---- one segment more

-- what was found for the digest of a segment is what the map has of its key
pub found_by_key : (m : PlaceMap) (had : Option Place) (asked kind : Kind) (digest : List ℕ) (s : Segment) → asked ≡ kind → digest ≡ sha256 s.bytes →
    had ≡ finite.get m (key_of (kind_byte asked) digest)
    → had ≡ finite.get m (segment_key kind s)
found_by_key m had asked kind digest s same is found = found ∙ ap (λ (k : Kind). finite.get m (key_of (kind_byte k) digest)) same
    ∙ ap (λ (d : List ℕ). finite.get m (key_of (kind_byte kind) d)) is

-- and what fits what was offered fits the bytes of the segment
pub fits_bytes : (old new : DiskView) (had : Option Place) (asked kind : Kind) (offered bytes : List ℕ) → asked ≡ kind → offered ≡ bytes → Shows old new (FitsHad asked offered had)
    → Shows old new (FitsHad kind bytes had)
fits_bytes old new had asked kind offered bytes same is fits = subst (λ (k : Kind). Shows old new (FitsHad k bytes had)) same
    (subst (λ (l : List ℕ). Shows old new (FitsHad asked l had)) is fits)

fit_more : (kind : Kind) (ss : List Segment) (hads : List (Option Place)) (s : Segment) (had : Option Place) (image : List ℕ) → length hads ≡ length ss →
    AllFit kind ss hads image → FitsHad kind s.bytes had image
    → AllFit kind (ss ++ s ∷ []) (hads ++ had ∷ []) image
fit_more kind [] [] s had image many all one = (one, tt)
fit_more kind [] (h ∷ hads) s had image many all one = absurd (omega (arith, many))
fit_more kind (x ∷ ss) [] s had image many all one = absurd all
fit_more kind (x ∷ ss) (h ∷ hads) s had image many all one = (all.0, fit_more kind ss hads s had image (omega (arith, many)) all.1 one)

had_more : (m : PlaceMap) (kind : Kind) (es : List Entry) (hads : List (Option Place)) (e : Entry) (had : Option Place) → length hads ≡ length es → HaveHad m kind es hads →
    had ≡ finite.get m (entry_key kind e)
    → HaveHad m kind (es ++ e ∷ []) (hads ++ had ∷ [])
had_more m kind [] [] e had many all one = (one, tt)
had_more m kind [] (h ∷ hads) e had many all one = absurd (omega (arith, many))
had_more m kind (x ∷ es) [] e had many all one = absurd all
had_more m kind (x ∷ es) (h ∷ hads) e had many all one = (all.0, had_more m kind es hads e had (omega (arith, many)) all.1 one)

lie_more : (P : Option Place → Type 0) (hads : List (Option Place)) (had : Option Place) → AllByRecursion P hads → P had → AllByRecursion P (hads ++ had ∷ [])
lie_more P [] had all one = (one, tt)
lie_more P (h ∷ hads) had all one = (all.0, lie_more P hads had all.1 one)

pub length-entries : (offset : ℕ) (segments : List Segment) → length (entries_from offset segments) ≡ length segments
length-entries offset [] = refl
length-entries offset (s ∷ ss) = ap suc (length-entries (offset + length s.bytes) ss)

pub more : (size : ℕ) (known : Option PlaceMap) (old mid new : DiskView) (kind : Kind) (ss next : List Segment) (s : Segment) (hads after : List (Option Place))
    (had : Option Place)
    → next ≡ ss ++ s ∷ [] → after ≡ hads ++ had ∷ [] → OnlyReads old mid → IsLater mid new → FitSoFar size known (Shows old mid) kind ss hads
    → IfSome had (IsPlace size) → KnownMap known (λ m. had ≡ finite.get m (segment_key kind s)) → Shows mid new (FitsHad kind s.bytes had)
    → FitSoFar size known (Shows old new) kind next after
more size known old mid new kind ss next s hads after had is after_is reads later so_far lies found fits = subst (FitSoFar size known (Shows old new) kind next) (sym after_is) (
    let many : length hads ≡ length ss = so_far.had.many ∙ length-entries 0 ss in
    let pushed : entries_from 0 next ≡ entries_from 0 ss ++ entry_for (0 + bytes_in ss) s ∷ [] = ap (entries_from 0) is ∙ entries_from-push 0 ss s in
    record {
      had = record {
        many = length-append hads (had ∷ []) ∙ omega (arith, many, length-entries 0 next, ap length is, length-append ss (s ∷ []));
        lie = lie_more (λ h. IfSome h (IsPlace size)) hads had so_far.had.lie lies;
        had = λ m known_is. subst (λ (l : List Entry). HaveHad m kind l (hads ++ had ∷ [])) (sym pushed)
            (had_more m kind (entries_from 0 ss) hads (entry_for (0 + bytes_in ss) s) had so_far.had.many (so_far.had.had m known_is) (found m known_is));
      };
      fit = subst (λ (l : List Segment). Shows old new (AllFit kind l (hads ++ had ∷ []))) (sym is)
          (weaker old new (λ image sized fit. fit_more kind ss hads s had image many fit.0 fit.1) (both old mid new so_far.fit reads fits later));
    })

-- none yet
pub none_yet : (size : ℕ) (known : Option PlaceMap) (v : DiskView) (kind : Kind) (hads : List (Option Place)) → hads ≡ [] → FitSoFar size known (Shows v v) kind [] hads
none_yet size known v kind hads none = subst (FitSoFar size known (Shows v v) kind []) (sym none) (record {
  had = record { many = refl; lie = tt; had = λ m is. tt };
  fit = always v v (AllFit kind [] []) (λ image sized. tt);
})

-- the next is refused
pub of_all : (damaged : ℕ → Why → Type 0) (size mid_size : ℕ) (known mid_known : Option PlaceMap) (old mid new : DiskView) → mid_size ≡ size → mid_known ≡ known →
    OnlyReads old mid → IsLater mid new
    → (kind same_kind : Kind) (segments : List Segment) (i : ℕ) → i < length segments → (hads : List (Option Place)) →
    FitSoFar size known (Shows old mid) kind (take i segments) hads → same_kind ≡ kind
    → (digest offered : List ℕ) → digest ≡ sha256 (segment_at segments i).bytes → offered ≡ (segment_at segments i).bytes → ((at : ℕ) (why : Why) → damaged at why → known ≡ None)
    → (refusal : Refusal) → IsOneRefusal damaged (IsUnlike mid_size mid_known (Shows mid new) same_kind digest offered) refusal →
    IsAllRefusal known (IsFirstUnlike size known (Shows old new) kind segments) refusal
of_all damaged size mid_size known mid_known old mid new same_size same_known reads later kind same_kind segments i within hads so_far kind_is digest offered digest_is offered_is
    unknown Memory has = tt
of_all damaged size mid_size known mid_known old mid new same_size same_known reads later kind same_kind segments i within hads so_far kind_is digest offered digest_is offered_is
    unknown DiskRead has = tt
of_all damaged size mid_size known mid_known old mid new same_size same_known reads later kind same_kind segments i within hads so_far kind_is digest offered digest_is offered_is
    unknown (Damaged at why) has = unknown at why has
of_all damaged size mid_size known mid_known old mid new same_size same_known reads later kind same_kind segments i within hads so_far kind_is digest offered digest_is offered_is
    unknown refusal has =
    let one : IsUnlike size known (Shows old new) same_kind digest offered refusal = record {
      place = has.place;
      there = λ m is. has.there m (same_known ∙ is);
      lies = subst (λ (n : ℕ). IsPlace n has.place) same_size has.lies;
      refused = same_since old mid new reads same_kind digest offered has.place refusal has.refused;
    } in
    record {
      number = i;
      within = within;
      hads = hads;
      before = record { had = so_far.had; fit = until old mid new so_far.fit reads.later.clock_is later };
      unlike = subst (λ (k : Kind). IsUnlike size known (Shows old new) k (sha256 (segment_at segments i).bytes) (segment_at segments i).bytes refusal) kind_is
          (subst (λ (l : List ℕ). IsUnlike size known (Shows old new) same_kind l (segment_at segments i).bytes refusal) digest_is
          (subst (λ (l : List ℕ). IsUnlike size known (Shows old new) same_kind digest l refusal) offered_is one));
    }

-- ---- what is so of the store of an index

pub held_fit : (kind : Kind) (store : Store) (m : PlaceMap) (image : List ℕ) (offset : ℕ) (ss : List Segment) (hads : List (Option Place)) → IsPartialIndexOf store.held m →
    HaveHad m kind (entries_from offset ss) hads → AllFit kind ss hads image
    → AllByRecursion (FitsHeld (HasKey m) kind store image) ss
held_fit kind store m image offset [] hads index had fit = tt
held_fit kind store m image offset (s ∷ ss) [] index had fit = absurd fit
held_fit kind store m image offset (s ∷ ss) (h ∷ hads) index had fit = (
  λ copy there is. by_kind kind copy.place (subst (λ (o : Option Place). FitsHad kind s.bytes o image) (had.0 ∙ found there ∙ ap place_there is) fit.0),
  held_fit kind store m image (offset + length s.bytes) ss hads index had.1 fit.1,
)
  where
    place_there : Option Copy → Option Place
    place_there None = None
    place_there (Some c) = Some c.place

    found : HasKey m (segment_key kind s) → finite.get m (segment_key kind s) ≡ place_there (newest 0 store.held (segment_key kind s))
    found there = there.1 ∙ sym (index (segment_key kind s) there.0 there.1)

    by_kind : (k : Kind) (place : Place) → FitsHad k s.bytes (Some place) image → FitsCopy k s place image
    by_kind kinds.Leaf place fits = fits
    by_kind kinds.Tree place fits = fits

pub held_all : (size : ℕ) (known : Option PlaceMap) (old new : DiskView) (kind : Kind) (ss : List Segment) (hads : List (Option Place)) →
    FitSoFar size known (Shows old new) kind ss hads
    → Shows old new (λ image. (store : Store) (m : PlaceMap) → known ≡ Some m → IsPartialIndexOf store.held m → AllByRecursion (FitsHeld (HasKey m) kind store image) ss)
held_all size known old new kind ss hads so_far = weaker old new (λ image sized fit store m is index. held_fit kind store m image 0 ss hads index (so_far.had.had m is) fit)
    so_far.fit

-- Nodes that are opened, one after the other, and what was read of each.
use Rattle.std.proofs.Common.{◌≡◌, ◌≢◌, inl, inr, ℕ, ◌+◌, ◌<◌, ◌≤◌, List, [], ◌∷◌, ◌++◌, length, map, drop, take, Option, None, Some, Result, Ok, Err, IfOk, IfErr, refl, sym, ◌∙◌, ap, subst, arith}
use Rattle.std.specs.Prelude.{sum_by, Bool, true, false, ◌==◌, if◌then◌else◌}
use Rattle.std.proofs.lemmas.Bool.{eqb-true, ne_eqb}
use Rattle.std.proofs.lemmas.List.Sums.{sum_by-cons}
use Rattle.std.specs.Result.{IsErrAnd}
use Rattle.std.proofs.lemmas.List.{length-take-le}
use Rattle.sha2.specs.Sha256.{sha256}
use Rattle.disk_format.specs.declared.numbers.TheConstants.{MOST_SEGMENT}
use Rattle.disk_format.specs.declared.why.Why.{Why}
use Rattle.disk_format.specs.declared.why.Why.TheVariants.{Field}
use Rattle.disk_format.specs.Layout.{data_at}
use Rattle.container_meta.specs.declared.place.Place.{Place}
use Rattle.merkle_file.specs.declared.want.Want.TheVariants as wants
use Rattle.store_model.specs.Trees.{bytes_at}
use Rattle.dd_disk.specs.View.{DiskView, OnlyReads}
use Rattle.dd_disk.specs.Shows.{Shows}
use Rattle.dd_disk.proofs.Shows.{until, since}
use Rattle.container_meta.specs.Places.{PlaceMap}
use Rattle.merkle_file.specs.declared.node.Child.{Child}
use Rattle.merkle_file.specs.declared.top.Top.{Top}
use Rattle.merkle_file.specs.Node.{Contents, total}
use Rattle.merkle_file.specs.Reading.{contents_in}
use Rattle.merkle_file.specs.Walk.{SpellsNext, below, fault_for, opened, start_of, wanted}
use Rattle.refusals.specs.declared.refusal.Refusal.{Refusal}
use Rattle.refusals.specs.declared.refusal.Refusal.TheVariants.{DiskRead, Corrupt, Missing, Damaged}
use Rattle.segment_index.specs.Places.{IsPlace}
use Rattle.store_model.specs.Refusals.{WereFound}
use Rattle.store_state.specs.Comparing as copies
use Rattle.read_steps.specs.Visiting.{HasPlace, IsVisitRefusal}
use Rattle.read_steps.specs.Walking.{IsPlaceOf, IsLookupRefusal, IsCopyRefusal, IsAnswer, IsCopyAt, WasRead, Opened, Walked, IsLeafRead, Gives, IsDamage, IsTopRefusal, IsNextRefusal, IsWalkRefusal, IsNodeNamed, top_key, level_ahead, leaf_top, bytes_ahead, GivesAll, AnyBytes, ReadsAreWhole}

-- the key of a node that is to come
pub key_of_node : (t : Top) → 1 ≤ t.level → top_key t ≡ 1 ∷ t.digest
key_of_node t above = ap (λ (leaf : Bool). (if leaf then 0 else 1) ∷ t.digest) (ne_eqb t.level 0 (λ zero. omega (arith, above, zero)))

-- ---- opening goes on

opened_on : (P : List ℕ → List ℕ → Type 0) (nodes more : List (List ℕ)) (a b c : List Top) → Opened P nodes a b → Opened P more b c → Opened P (nodes ++ more) a c
opened_on P [] more a b c first second = subst (λ (ts : List Top). Opened P more ts c) first second
opened_on P (n ∷ ns) more a b c first second = (first.0, opened_on P ns more (opened (contents_in n) ++ drop 1 a) b c first.1 second)

opened_map : (P Q : List ℕ → List ℕ → Type 0) → ((key bytes : List ℕ) → P key bytes → Q key bytes) → (nodes : List (List ℕ)) (a b : List Top) → Opened P nodes a b →
    Opened Q nodes a b
opened_map P Q each [] a b way = way
opened_map P Q each (n ∷ ns) [] b way = absurd way.0
opened_map P Q each (n ∷ ns) (t ∷ ts) b way =
    ((way.0.0, each _ n way.0.1, way.0.2, way.0.3), opened_map P Q each ns (opened (contents_in n) ++ drop 1 (t ∷ ts)) b way.1)

pub walked_map : (P Q : List ℕ → List ℕ → Type 0) → ((key bytes : List ℕ) → P key bytes → Q key bytes) → (a b : List Top) → Walked P a b → Walked Q a b
walked_map P Q each a b walked = record { nodes = walked.nodes; way = opened_map P Q each walked.nodes a b walked.way }

pub walked_on : (P : List ℕ → List ℕ → Type 0) (a b c : List Top) → Walked P a b → Walked P b c → Walked P a c
walked_on P a b c first second = record { nodes = first.nodes ++ second.nodes; way = opened_on P first.nodes second.nodes a b c first.way second.way }

pub walked_none : (P : List ℕ → List ℕ → Type 0) (a : List Top) → Walked P a a
walked_none P a = record { nodes = []; way = refl }

-- one node
pub walked_one : (P : List ℕ → List ℕ → Type 0) (before after : List Top) (digest bytes : List ℕ) → IsNodeNamed before digest → P (1 ∷ digest) bytes → sha256 bytes ≡ digest →
    SpellsNext before bytes
    → after ≡ opened (contents_in bytes) ++ drop 1 before → Walked P before after
walked_one P [] after digest bytes named was is spells e = absurd named
walked_one P (t ∷ ts) after digest bytes named was is spells e = record {
  nodes = bytes ∷ [];
  way = ((named.0, subst (λ (d : List ℕ). P (1 ∷ d) bytes) named.1 was, is ∙ named.1, spells), e);
}

-- the children of a node are one level lower
pub falls_one : (before after : List Top) (digest bytes : List ℕ) → IsNodeNamed before digest → SpellsNext before bytes → after ≡ opened (contents_in bytes) ++ drop 1 before →
    level_ahead after < level_ahead before
falls_one [] after digest bytes named spells e = absurd named
falls_one (t ∷ ts) after digest bytes named spells e = by_children (contents_in bytes) after spells.1.some spells.2.level e
  where
    by_children : (n : Contents) (after : List Top) → 1 ≤ length n.children → n.level ≡ t.level → after ≡ opened n ++ drop 1 (t ∷ ts) → level_ahead after < t.level
    by_children n after some level e = by_list n.children after some e
      where
        by_list : (children : List Child) (after : List Top) → 1 ≤ length children → after ≡ map (below n.level) children ++ drop 1 (t ∷ ts) → level_ahead after < t.level
        by_list [] after some e = absurd (omega (arith, some))
        by_list (c ∷ cs) after some e = omega (arith, ap level_ahead e, level, named.0)

-- ---- the same, seen over more calls

pub same_on : (a b c : Option PlaceMap) → b ≡ a → c ≡ b → c ≡ a
same_on a b c first second = second ∙ first

module _ (known : Option PlaceMap) (old mid new : DiskView) where
  -- calls that only read follow
  pub read_until : OnlyReads old mid → OnlyReads mid new → (key bytes : List ℕ) → WasRead known old mid key bytes → WasRead known old new key bytes
  read_until first second key bytes was = record {
    place = was.place;
    copy = record {
      place_is = was.copy.place_is;
      right = was.copy.right;
      long = was.copy.long;
      there = until old mid new was.copy.there first.later.clock_is second.later;
    };
  }

  -- calls that only read were before
  pub read_since : (sooner : Option PlaceMap) → sooner ≡ known → OnlyReads old mid → (key bytes : List ℕ) → WasRead sooner mid new key bytes → WasRead known old new key bytes
  read_since sooner same reads key bytes was = record {
    place = was.place;
    copy = record {
      place_is = λ m is. was.copy.place_is m (same ∙ is);
      right = subst (λ (n : ℕ). IsPlace n was.place) reads.later.size_is was.copy.right;
      long = was.copy.long;
      there = since old mid new reads was.copy.there;
    };
  }

  pub placed_since : (sooner : Option PlaceMap) → sooner ≡ known → (key : List ℕ) → HasPlace sooner key → HasPlace known key
  placed_since sooner same key has = (has.0, λ m is. has.1 m (same ∙ is))

  pub walked_then : (sooner : Option PlaceMap) → sooner ≡ known → OnlyReads old mid → OnlyReads mid new → (a b c : List Top)
      → Walked (WasRead known old mid) a b → Walked (WasRead sooner mid new) b c → Walked (WasRead known old new) a c
  walked_then sooner same first second a b c one other =
      walked_on (WasRead known old new) a b c
      (walked_map (WasRead known old mid) (WasRead known old new) (read_until first second) a b one)
      (walked_map (WasRead sooner mid new) (WasRead known old new) (read_since sooner same first) b c other)

  module _ (sooner : Option PlaceMap) (same : sooner ≡ known) (breaks broke : ℕ → Why → List ℕ → Type 0)
      (form : (at : ℕ) (why : Why) (bytes : List ℕ) → broke at why bytes → breaks at why bytes) (first : OnlyReads old mid) where
    found_since : (at count : ℕ) (digest : List ℕ) → WereFound (Shows mid new) at count digest → WereFound (Shows old new) at count digest
    found_since at count digest found = record { bytes = found.bytes; long = found.long; digest_is = found.digest_is; there = since old mid new first found.there }

    damage_since : (at : ℕ) (why : Why) → IsDamage sooner broke mid new at why → IsDamage known breaks old new at why
    damage_since at why damage = record {
      unknown = sym same ∙ damage.unknown;
      there = since old mid new first (record {
        parts = damage.there.parts;
        returned = damage.there.returned;
        known = damage.there.known;
        shows =
            λ image sized has. form at why image (damage.there.shows image sized has);
      });
    }

    top_since : (t : Top) (refusal : Refusal) → IsTopRefusal sooner broke mid new t refusal → IsTopRefusal known breaks old new t refusal
    unfolding read_since
    top_since t DiskRead cause = tt
    top_since t (Missing key) cause = (cause.0, λ m is. cause.1 m (same ∙ is))
    top_since t (Corrupt slot offset count want got) cause = record {
      want_is = cause.want_is;
      differ = cause.differ;
      placed = record {
        place = cause.placed.place;
        place_is = λ m is. cause.placed.place_is m (same ∙ is);
        slot_is = cause.placed.slot_is;
        offset_is = cause.placed.offset_is;
        count_is = cause.placed.count_is;
      };
      found = found_since _ count got cause.found;
    }
    top_since t (Damaged at why) (inl damage) = inl (damage_since at why damage)
    top_since t (Damaged at why) (inr wrong) = inr (record {
      bytes = wrong.bytes;
      was_read = read_since sooner same first (top_key t) wrong.bytes wrong.was_read;
      at_is = wrong.at_is;
      digest = wrong.digest;
      wrong = wrong.wrong;
    })
    top_since t refusal cause = absurd cause

    next_since : (ahead : List Top) (refusal : Refusal) → IsNextRefusal sooner broke mid new ahead refusal → IsNextRefusal known breaks old new ahead refusal
    next_since [] refusal cause = absurd cause
    next_since (t ∷ ts) refusal cause = top_since t refusal cause

    lookup_since : (key : List ℕ) (refusal : Refusal) → IsLookupRefusal sooner broke mid new key refusal → IsLookupRefusal known breaks old new key refusal
    lookup_since key DiskRead cause = tt
    lookup_since key (Missing k) cause = (cause.0, λ m is. cause.1 m (same ∙ is))
    lookup_since key (Damaged at why) cause = damage_since at why cause
    lookup_since key refusal cause = absurd cause

    pub visit_since : (ahead : List Top) (refusal : Refusal) → IsVisitRefusal sooner broke mid new ahead refusal → IsVisitRefusal known breaks old new ahead refusal
    visit_since [] refusal cause = absurd cause
    visit_since (t ∷ ts) refusal (inl leaf) = inl (leaf.0, lookup_since (top_key t) refusal leaf.1)
    visit_since (t ∷ ts) refusal (inr node) = inr (node.0, top_since t refusal node.1)

    -- a refusal after some nodes were opened
    pub refused_then : OnlyReads mid new → (a b c : List Top) (refusal : Refusal) → Walked (WasRead known old mid) a b → IsWalkRefusal sooner broke mid new b c refusal
        → IsWalkRefusal known breaks old new a c refusal
    refused_then second a b c refusal walked refused = record {
      walked = walked_then sooner same first second a b c walked refused.walked;
      cause = next_since c refusal refused.cause;
    }

-- ---- the end

opened_ends : (P : List ℕ → List ℕ → Type 0) (nodes : List (List ℕ)) (before after : List Top) → Opened P nodes before after → after ≡ [] → before ≡ []
opened_ends P [] before after way end = sym way ∙ end
opened_ends P (n ∷ ns) [] after way end = refl
opened_ends P (n ∷ ns) (t ∷ ts) after way end =
    absurd (by_children (contents_in n).children way.0.3.1.some (opened_ends P ns (opened (contents_in n) ++ drop 1 (t ∷ ts)) after way.1 end))
  where
    by_children : (children : List Child) → 1 ≤ length children → map (below (contents_in n).level) children ++ drop 1 (t ∷ ts) ≡ [] → ⊥
    by_children [] some e = omega (arith, some)
    by_children (c ∷ cs) some e = cc

pub walk_ends : (P : List ℕ → List ℕ → Type 0) (before after : List Top) → Walked P before after → after ≡ [] → before ≡ []
walk_ends P before after walked = opened_ends P walked.nodes before after walked.way

opened_begins : (P : List ℕ → List ℕ → Type 0) (nodes : List (List ℕ)) (before after : List Top) → Opened P nodes before after → before ≡ [] → after ≡ []
opened_begins P [] before after way begin = way ∙ begin
opened_begins P (n ∷ ns) [] after way begin = absurd way.0
opened_begins P (n ∷ ns) (t ∷ ts) after way begin = absurd cc

pub walk_begins : (P : List ℕ → List ℕ → Type 0) (before after : List Top) → Walked P before after → before ≡ [] → after ≡ []
walk_begins P before after walked = opened_begins P walked.nodes before after walked.way

-- ---- how many bytes are to come

sum_below : (level : ℕ) (children : List Child) (rest : List Top) → bytes_ahead (map (below level) children ++ rest) ≡ total children + bytes_ahead rest
sum_below level [] rest = omega arith
sum_below level (c ∷ cs) rest =
    omega (arith, sum_by-cons (λ (t : Top). t.length) (below level c) (map (below level) cs ++ rest), sum_by-cons (λ (d : Child). d.length) c cs, sum_below level cs rest)

opened_bytes : (P : List ℕ → List ℕ → Type 0) (nodes : List (List ℕ)) (before after : List Top) → Opened P nodes before after → bytes_ahead before ≡ bytes_ahead after
opened_bytes P [] before after way = ap bytes_ahead (sym way)
opened_bytes P (n ∷ ns) [] after way = absurd way.0
opened_bytes P (n ∷ ns) (t ∷ ts) after way =
    let rest = opened_bytes P ns (opened (contents_in n) ++ drop 1 (t ∷ ts)) after way.1 in
    omega (arith, sum_by-cons (λ (u : Top). u.length) t ts, sum_below (contents_in n).level (contents_in n).children ts, way.0.3.2.length, rest)

pub walked_bytes : (P : List ℕ → List ℕ → Type 0) (before after : List Top) → Walked P before after → bytes_ahead before ≡ bytes_ahead after
walked_bytes P before after walked = opened_bytes P walked.nodes before after walked.way

pub given_bytes : (P : List ℕ → List ℕ → Type 0) (before after : List Top) (count : ℕ) (bytes : List ℕ) → Gives P before after count bytes →
    bytes_ahead before ≡ count + bytes_ahead after
given_bytes P before after count bytes gives =
    omega (arith, walked_bytes P before (gives.next ∷ after) gives.walked, sum_by-cons (λ (t : Top). t.length) gives.next after, gives.read.named)

pub all_bytes : (before after : List Top) (segments : List (List ℕ)) → GivesAll before segments after → bytes_ahead before ≡ sum_by length segments + bytes_ahead after
all_bytes before after [] walked = omega (arith, walked_bytes AnyBytes before after walked)
all_bytes before after (s ∷ ss) gives =
    omega (
      arith,
      walked_bytes AnyBytes before gives.0 gives.1.1,
      given_bytes AnyBytes gives.0 gives.1.0 (length s) s gives.1.2,
      all_bytes gives.1.0 after ss gives.1.3,
      sum_by-cons length s ss,
    )

start_of_some : (top : Top) (tops : List Top) → tops ≡ top ∷ [] → bytes_ahead tops ≡ top.length
start_of_some top tops is = ap bytes_ahead is ∙ omega (arith, sum_by-cons (λ (t : Top). t.length) top [])

start_by : (top : Top) (no_bytes flat : Bool) → (top.length == 0) ≡ no_bytes → bytes_ahead (if no_bytes then (if flat then [] else top ∷ []) else top ∷ []) ≡ top.length
start_by top true true none = omega (arith, eqb-true top.length 0 none)
start_by top true false none = start_of_some top (top ∷ []) refl
start_by top false flat none = start_of_some top (top ∷ []) refl

pub start_bytes : (top : Top) → bytes_ahead (start_of top) ≡ top.length
start_bytes top = start_by top (top.length == 0) (top.level == 0) refl

pub reads_are_whole : ReadsAreWhole
reads_are_whole top segments gives = omega (arith, all_bytes (start_of top) [] segments gives, start_bytes top)

-- ---- what the functions found

length_taken : (count : ℕ) (buf : List ℕ) → count ≤ MOST_SEGMENT → MOST_SEGMENT ≤ length buf → length (take count buf) ≡ count
length_taken count buf few room = length-take-le count buf (omega (arith, few, room))

-- bytes that were read at the place of a key
pub copy_at : (known : Option PlaceMap) (old mid new : DiskView) (key : List ℕ) (place : Place) (buf : List ℕ) → IsPlaceOf known key place → IsPlace old.size place →
    MOST_SEGMENT ≤ length buf → OnlyReads old mid
    → Shows mid new (λ image. bytes_at place image ≡ take place.length buf) → IsCopyAt known old new key place (take place.length buf)
copy_at known old mid new key place buf is right room reads there = record {
  place_is = is;
  right = right;
  long = length_taken place.length buf right.length_is room;
  there = since old mid new reads there;
}

-- why they could not be given
pub copy_unread : (known : Option PlaceMap) (breaks : ℕ → Why → List ℕ → Type 0) (old mid new : DiskView) (key : List ℕ) (place : Place) (digest : List ℕ) →
    IsPlaceOf known key place → OnlyReads old mid
    → (refusal : Refusal) → copies.IsCopyRefusal (Shows mid new) place digest refusal → IsCopyRefusal known breaks old new key digest refusal
copy_unread known breaks old mid new key place digest is reads DiskRead why = tt
copy_unread known breaks old mid new key place digest is reads (Corrupt slot offset count want got) why = record {
  want_is = why.3;
  differ = why.4;
  placed = record { place = place; place_is = is; slot_is = why.0; offset_is = why.1; count_is = why.2 };
  found = record { bytes = why.5.bytes; long = why.5.long; digest_is = why.5.digest_is; there = since old mid new reads why.5.there };
}
copy_unread known breaks old mid new key place digest is reads refusal why = absurd why

-- a node by its first wrong field
pub misnamed_node : (known : Option PlaceMap) (breaks : ℕ → Why → List ℕ → Type 0) (old new : DiskView) (before after : List Top) (digest : List ℕ) (place : Place)
    (bytes : List ℕ) (offset got : ℕ)
    → IsNodeNamed before digest → IsCopyAt known old new (1 ∷ digest) place bytes → sha256 bytes ≡ digest → Some (record { offset = offset; got = got }) ≡ fault_for before bytes →
    after ≡ before
    → (refusal : Refusal) → refusal ≡ Damaged (data_at place.slot + place.offset) (Field offset got) → IsWalkRefusal known breaks old new before after refusal
misnamed_node known breaks old new [] after digest place bytes offset got named copy is fault e refusal refused = absurd named
misnamed_node known breaks old new (t ∷ ts) after digest place bytes offset got named copy is fault e refusal refused = record {
  walked = record { nodes = []; way = e };
  cause = subst (λ (tops : List Top). IsNextRefusal known breaks old new tops refusal) (sym e)
      (subst (IsTopRefusal known breaks old new t) (sym refused) (inr (record {
        bytes = bytes;
        was_read = record {
          place = place;
          copy = subst (λ (key : List ℕ). IsCopyAt known old new key place bytes)
              (ap (λ (d : List ℕ). 1 ∷ d) named.1 ∙ sym (key_of_node t named.0)) copy;
        };
        at_is = refl;
        digest = is ∙ named.1;
        wrong = inl (named.0, sym fault);
      })));
}

-- a segment by its length
pub misnamed_leaf : (known : Option PlaceMap) (breaks : ℕ → Why → List ℕ → Type 0) (old new : DiskView) (count : ℕ) (digest : List ℕ) (place : Place) (bytes : List ℕ) (got : ℕ)
    → IsCopyAt known old new (0 ∷ digest) place bytes → sha256 bytes ≡ digest → got ≡ place.length → got ≢ count
    → (refusal : Refusal) → refusal ≡ Damaged (data_at place.slot + place.offset) (Field 0 got) → IsTopRefusal known breaks old new (leaf_top count digest) refusal
misnamed_leaf known breaks old new count digest place bytes got copy is long differ refusal refused =
    subst (IsTopRefusal known breaks old new (leaf_top count digest)) (sym refused) (inr (record {
      bytes = bytes;
      was_read = record { place = place; copy = copy };
      at_is = refl;
      digest = is;
      wrong = inr (refl, refl, long ∙ sym copy.long, differ);
    }))

-- a copy that could not be given is what comes first
pub copy_refused : (known : Option PlaceMap) (breaks : ℕ → Why → List ℕ → Type 0) (old new : DiskView) (t : Top) (refusal : Refusal) →
    IsCopyRefusal known breaks old new (top_key t) t.digest refusal
    → IsTopRefusal known breaks old new t refusal
copy_refused known breaks old new t (Damaged at why) cause = inl cause
copy_refused known breaks old new t refusal cause = cause

-- ---- what a walk wants

same_top : (k l m n : ℕ) (d e : List ℕ) → k ≡ l → m ≡ n → d ≡ e → (let t : Top = record { length = k; level = m; digest = d } in t) ≡ record { length = l; level = n; digest = e }
same_top k l m n d e p q r = cc

-- the segment that is wanted comes first
pub leaf_wanted : (ahead : List Top) (digest : List ℕ) (level count : ℕ) → wanted ahead ≡ wants.Leaf digest level count → (rest : List Top) × (ahead ≡ leaf_top count digest ∷ rest)
leaf_wanted [] digest level count e = absurd cc
leaf_wanted (t ∷ ts) digest level count e = (ts, ap (λ (u : Top). u ∷ ts) (by_level (t.level == 0) refl e))
  where
    by_level : (flat : Bool) → (t.level == 0) ≡ flat → (if flat then wants.Leaf t.digest t.level t.length else wants.Node t.digest t.level t.length) ≡ wants.Leaf digest level
        count → t ≡ leaf_top count digest
    by_level true is e =
        let long : t.length ≡ count = cc in
        let named : t.digest ≡ digest = cc in
        same_top t.length count t.level 0 t.digest digest long (eqb-true t.level 0 is) named
    by_level false is e = absurd cc

-- it is given
pub leaf_gives : (known sooner : Option PlaceMap) (old mid new : DiskView) (before ahead after : List Top) (digest : List ℕ) (level named count : ℕ) (bytes : List ℕ) →
    wanted ahead ≡ wants.Leaf digest level named
    → after ≡ drop 1 ahead → sooner ≡ known → OnlyReads old mid → OnlyReads mid new → Walked (WasRead known old mid) before ahead →
    IsLeafRead (WasRead sooner mid new) (leaf_top named digest) count bytes
    → Gives (WasRead known old new) before after count bytes
leaf_gives known sooner old mid new before ahead after digest level named count bytes wants passed same first second walked leaf =
    let is = leaf_wanted ahead digest level named wants in
    let rest : after ≡ is.0 = passed ∙ ap (drop 1) is.1 in
    record {
      next = leaf_top named digest;
      walked = walked_map (WasRead known old mid) (WasRead known old new) (read_until known old mid new first second) before (leaf_top named digest ∷ after)
          (subst (Walked (WasRead known old mid) before) (is.1 ∙ ap (λ (tops : List Top). leaf_top named digest ∷ tops) (sym rest)) walked);
      leaf = refl;
      read = record {
        was_read = read_since known old mid new sooner same first (0 ∷ digest) bytes leaf.was_read;
        digest = leaf.digest;
        named = leaf.named;
        long = leaf.long;
        some = leaf.some;
      };
    }

-- or it is refused
pub leaf_refused : (known sooner : Option PlaceMap) (breaks broke : ℕ → Why → List ℕ → Type 0) (old mid new : DiskView) (before ahead : List Top) (digest : List ℕ)
    (level named : ℕ) → wanted ahead ≡ wants.Leaf digest level named
    → sooner ≡ known → ((at : ℕ) (why : Why) (bytes : List ℕ) → broke at why bytes → breaks at why bytes) → OnlyReads old mid → OnlyReads mid new →
    Walked (WasRead known old mid) before ahead
    → (refusal : Refusal) → IsNextRefusal sooner broke mid new (leaf_top named digest ∷ []) refusal → IsWalkRefusal known breaks old new before ahead refusal
leaf_refused known sooner breaks broke old mid new before ahead digest level named wants same form first second walked refusal cause =
    let is = leaf_wanted ahead digest level named wants in
    refused_then known old mid new sooner same breaks broke form first second before ahead ahead refusal walked (record {
      walked = walked_none (WasRead sooner mid new) ahead;
      cause = subst (λ (tops : List Top). IsNextRefusal sooner broke mid new tops refusal) (sym is.1) cause;
    })

-- ---- an answer, and the end

not_none : (before after : List Top) (buf : List ℕ) (P : List ℕ → List ℕ → Type 0) (count : ℕ) → IsAnswer P before after buf (Some count) → before ≢ []
not_none before after buf P count gives begin = let wrong : gives.next ∷ after ≡ [] = walk_begins P before (gives.next ∷ after) gives.walked begin in cc

refused_some : (known : Option PlaceMap) (breaks : ℕ → Why → List ℕ → Type 0) (old new : DiskView) (before after : List Top) (refusal : Refusal) →
    IsWalkRefusal known breaks old new before after refusal → before ≢ []
refused_some known breaks old new before after refusal refused begin =
    subst (λ (tops : List Top). IsNextRefusal known breaks old new tops refusal) (walk_begins (WasRead known old new) before after refused.walked begin) refused.cause

-- nothing is answered exactly where nothing is to come
pub answer_ends : (known : Option PlaceMap) (breaks : ℕ → Why → List ℕ → Type 0) (old new : DiskView) (before after : List Top) (buf : List ℕ) (result : Result (Option ℕ) Refusal)
    → IfOk result (IsAnswer (WasRead known old new) before after buf) → IfErr result (IsWalkRefusal known breaks old new before after) →
    (result ≡ Ok None → before ≡ []) × (before ≡ [] → result ≡ Ok None)
answer_ends known breaks old new before after buf (Ok None) ok err = (λ is. ok.0, λ is. refl)
answer_ends known breaks old new before after buf (Ok (Some count)) ok err = (λ is. absurd cc, λ begin. absurd (not_none before after buf (WasRead known old new) count ok begin))
answer_ends known breaks old new before after buf (Err refusal) ok err = (λ is. absurd cc, λ begin. absurd (refused_some known breaks old new before after refusal err begin))

pub no_answer : {T E : Type 0} (result : Result T E) (P : T → Type 0) (e : E) → IsErrAnd result (λ y. y ≡ e) → IfOk result P
no_answer (Ok x) P e passed = absurd passed
no_answer (Err y) P e passed = tt

-- ---- reads one after the other, for those who make them

pub gives_any : (P : List ℕ → List ℕ → Type 0) (before after : List Top) (count : ℕ) (bytes : List ℕ) → Gives P before after count bytes →
    Gives AnyBytes before after (length bytes) bytes
gives_any P before after count bytes gives = record {
  next = gives.next;
  walked = walked_map P AnyBytes (λ key read was. tt) before (gives.next ∷ after) gives.walked;
  leaf = gives.leaf;
  read = record {
    was_read = tt;
    digest = gives.read.digest;
    named = gives.read.named ∙ sym gives.read.long;
    long = refl;
    some = omega (arith, gives.read.some, gives.read.long);
  };
}

-- a read that was refused after others
pub all_walked : (P : List ℕ → List ℕ → Type 0) (start ahead after : List Top) (segments : List (List ℕ)) → GivesAll start segments ahead → Walked P ahead after →
    GivesAll start segments after
all_walked P start ahead after [] all walked = walked_on AnyBytes start ahead after all (walked_map P AnyBytes (λ key read was. tt) ahead after walked)
all_walked P start ahead after (s ∷ ss) all walked = (all.0, (all.1.0, all.1.1, all.1.2, all_walked P all.1.0 ahead after ss all.1.3 walked))

-- one that gave a segment
pub all_given : (P : List ℕ → List ℕ → Type 0) (start ahead after : List Top) (segments : List (List ℕ)) (count : ℕ) (bytes : List ℕ) → GivesAll start segments ahead →
    Gives P ahead after count bytes
    → GivesAll start (segments ++ bytes ∷ []) after
all_given P start ahead after [] count bytes all gives = (ahead, (after, all, gives_any P ahead after count bytes gives, walked_none AnyBytes after))
all_given P start ahead after (s ∷ ss) count bytes all gives = (all.0, (all.1.0, all.1.1, all.1.2, all_given P all.1.0 ahead after ss count bytes all.1.3 gives))

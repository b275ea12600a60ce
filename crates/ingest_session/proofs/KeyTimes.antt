-- How often a key was counted, and how often it is among those of containers.
use Rattle.ingest_session.proofs.Prelude.{◌≡◌, ◌∙◌, ◌+◌, ◌-◌, ◌≤◌, ◌<◌, ◌*◌, ℕ, zero, suc, Bool, true, false, List, [], ◌∷◌, ◌++◌, Some, length, length-map, length-take-le, take, drop, map, refl, ap, sym, subst, arith, AllByRecursion, list_any, Contents, Kind, Leaf, Segment, has_key, segment_key, zero-add}
use Rattle.std.proofs.Common.{◌||◌}
use Rattle.std.proofs.lemmas.Bool.{lt-ltb, or_left, or_parts}
use Rattle.std.proofs.lemmas.List.{take-append-drop}
use Rattle.std.proofs.lemmas.List.Sums.{count_by-le-length, sum_by-cons, sum_by-take-drop, sum_by_more, sum_by_push}
use Rattle.std.specs.Prelude.{Option, None, cond, count_by, get_or, sum_by, nat_lt}
use Rattle.std.specs.Cmp.Lexicographic.{nat_list_cmp_total, slice_cmp}
use Rattle.std.specs.FinMap as finite
use Rattle.std.specs.Ordering.{eq_by_cmp, nat_cmp}
use Rattle.std.specs.Str.{bytes_eq}
use Rattle.std.proofs.lemmas.Slice.Eq.{bytes_eq-Decides}
use Rattle.sha2.specs.Sha256.{sha256}
use Rattle.actor_parts.specs.declared.step.TheConstants.{MOST_TOGETHER}
use Rattle.disk_format.specs.declared.numbers.TheConstants.{MOST_ENTRIES}
use Rattle.container_meta.specs.Segments.{entries_from, has_segment, keys_of}
use Rattle.container_meta.specs.Spelling.{IsHeader, header_of}
use Rattle.container_meta.specs.declared.entry.Entry.{Entry}
use Rattle.store_model.specs.Indexing.{entry_key}
use Rattle.store_model.proofs.IndexSize.{entries_within}
use Rattle.store_model.proofs.Indexing.{tied}
use Rattle.ingest_session.specs.Sound.{IsAside}
use Rattle.ingest_session.proofs.Lists.{all_and_one}
use Rattle.ingest_session.proofs.Members.{all_after, found_in, key_there}
use Rattle.ingest_session.proofs.Waiting.{on_and_off}
use Rattle.ingest_session.specs.declared.counting.Known.{Known}
use Rattle.ingest_session.specs.KeyTimes.{IsCounted, KnownKeys, once, times, times_among, times_in, times_known}

-- ---- a key is counted

-- another key was given a value, or taken away
changed : (op : ℕ → ℕ → ℕ) (m n : KnownKeys) (own : List ℕ) (put : Option Known) → ((a : ℕ) → a ≡ op a 0) →
    ((key : List ℕ) → finite.get n key ≡ cond (eq_by_cmp (slice_cmp nat_cmp) key own) put (finite.get m key)) → times_known put ≡ op (times m own) 1 →
    (key : List ℕ) → times n key ≡ op (times m key) (once own key)
changed op m n own put stays got new key =
    ap times_known (got key) ∙ ap (λ (b : Bool). times_known (cond b put (finite.get m key))) (tied key own) ∙ by_test (bytes_eq own key) refl
  where
    by_test : (b : Bool) → bytes_eq own key ≡ b → times_known (cond b put (finite.get m key)) ≡ op (times m key) (cond b 1 0)
    by_test true same = new ∙ ap (λ (k : List ℕ). op (times m k) 1) ((bytes_eq-Decides own key).0 same)
    by_test false other = stays (times m key)

inserted : (m n : KnownKeys) (own : List ℕ) (known : Known) → n ≡ finite.insert m own known → (key : List ℕ) →
    finite.get n key ≡ cond (eq_by_cmp (slice_cmp nat_cmp) key own) (Some known) (finite.get m key)
inserted m n own known is key = ap (λ (x : KnownKeys). finite.get x key) is ∙ finite.get-insert nat_list_cmp_total m own known key

pub counted_more : (m n : KnownKeys) (own : List ℕ) (known : Known) → n ≡ finite.insert m own known → known.times ≡ times m own + 1 → (key : List ℕ) →
    times n key ≡ times m key + once own key
counted_more m n own known is = changed (λ a b. a + b) m n own (Some known) (λ a. omega arith) (inserted m n own known is)

pub counted_less : (m n : KnownKeys) (own : List ℕ) (known : Known) → n ≡ finite.insert m own known → known.times ≡ times m own - 1 → (key : List ℕ) →
    times n key ≡ times m key - once own key
counted_less m n own known is = changed (λ a b. a - b) m n own (Some known) (λ a. omega arith) (inserted m n own known is)

pub counted_none : (m n : KnownKeys) (own : List ℕ) → n ≡ finite.remove m own → 0 ≡ times m own - 1 → (key : List ℕ) → times n key ≡ times m key - once own key
counted_none m n own is =
    changed (λ a b. a - b) m n own None (λ a. omega arith)
    (λ key. ap (λ (x : KnownKeys). finite.get x key) is ∙ finite.get-remove nat_list_cmp_total m own key)

pub among_few : (kind : Kind) (entries : List Entry) (i : ℕ) (key : List ℕ) → i < length entries → times_among kind (take i entries) key < length entries
among_few kind entries i key within =
    let all = count_by-le-length (λ (e : Entry). bytes_eq (entry_key kind e) key) (take i entries) in
    let taken = length-take-le i entries (omega (arith, within)) in
    omega (arith, within, all, taken)

-- ---- the keys of containers

entries_have : (kind : Kind) (offset : ℕ) (segments : List Segment) (key : List ℕ) →
    times_among kind (entries_from offset segments) key ≡ count_by (λ own. bytes_eq own key) (map (segment_key kind) segments)
entries_have kind offset [] key = refl
entries_have kind offset (s ∷ ss) key =
    let rest : List Entry = entries_from (offset + length s.bytes) ss in
    let first : Entry = record { digest = sha256 s.bytes; offset = offset; length = length s.bytes; level = s.level } in
    sum_by-cons (λ (e : Entry). once (entry_key kind e) key) first rest
    ∙ ap (λ (n : ℕ). once (segment_key kind s) key + n) (entries_have kind (offset + length s.bytes) ss key)
    ∙ sym (sum_by-cons (λ (own : List ℕ). once own key) (segment_key kind s) (map (segment_key kind) ss))

keys_among : (c : Contents) (kind : Kind) (entries : List Entry) (key : List ℕ) → kind ≡ c.kind → entries ≡ entries_from 0 c.segments →
    times_among kind entries key ≡ count_by (λ own. bytes_eq own key) (keys_of c)
keys_among c kind entries key kind_is entries_are =
    ap (λ (k : Kind). times_among k entries key) kind_is ∙ ap (λ (es : List Entry). times_among c.kind es key) entries_are ∙ entries_have c.kind 0 c.segments key

length-entries : (offset : ℕ) (segments : List Segment) → length (entries_from offset segments) ≡ length segments
length-entries offset [] = refl
length-entries offset (s ∷ ss) = ap suc (length-entries (offset + length s.bytes) ss)

few_entries : (c : Contents) → IsHeader (header_of 1 c.kind c.segments) → length c.segments ≤ MOST_ENTRIES
few_entries c right = omega (arith, entries_within (header_of 1 c.kind c.segments) right, length-entries 0 c.segments)

-- of so many containers
times_few : (cs : List Contents) (key : List ℕ) → AllByRecursion (λ c. length c.segments ≤ MOST_ENTRIES) cs → times_in cs key ≤ MOST_ENTRIES * length cs
times_few [] key few = omega arith
times_few (c ∷ cs) key few =
    let here = count_by-le-length (λ (own : List ℕ). bytes_eq own key) (keys_of c) in
    let sum = sum_by-cons (λ (d : Contents). count_by (λ own. bytes_eq own key) (keys_of d)) c cs in
    omega (arith, here, sum, length-map c.segments (segment_key c.kind), few.0, times_few cs key few.1)

pub room : (m : KnownKeys) (cs : List Contents) (c : Contents) (entries : List Entry) → IsCounted m cs → length cs < MOST_TOGETHER → entries ≡ entries_from 0 c.segments →
    IsHeader (header_of 1 c.kind c.segments) → (key : List ℕ) → times m key + length entries ≤ MOST_TOGETHER * MOST_ENTRIES
room m cs c entries is less_than entries_are right key =
    omega (arith, is.times key, times_few cs key is.few, less_than, ap length entries_are, length-entries 0 c.segments, few_entries c right)

pub pushed : (m n : KnownKeys) (cs : List Contents) (c : Contents) (kind : Kind) (entries : List Entry) → IsCounted m cs → kind ≡ c.kind → entries ≡ entries_from 0 c.segments →
    IsHeader (header_of 1 c.kind c.segments) → ((key : List ℕ) → times n key ≡ times m key + times_among kind entries key) → IsCounted n (cs ++ c ∷ [])
pushed m n cs c kind entries is kind_is entries_are right counts = record {
  times = λ key.
      let push = sum_by_push (λ (d : Contents). count_by (λ own. bytes_eq own key) (keys_of d)) cs c in
      omega (arith, counts key, is.times key, keys_among c kind entries key kind_is entries_are, push);
  few = all_and_one (λ d. length d.segments ≤ MOST_ENTRIES) cs c is.few (few_entries c right);
}

-- one container more is taken
pub taken : (before m n : KnownKeys) (cs : List Contents) (i : ℕ) (c : Contents) (kind : Kind) (entries : List Entry) → i < length cs → c ≡ get_or cs i c → kind ≡ c.kind →
    entries ≡ entries_from 0 c.segments → (key : List ℕ) → times m key ≡ times before key - times_in (take i cs) key →
    times n key ≡ times m key - times_among kind entries key → times n key ≡ times before key - times_in (take (i + 1) cs) key
taken before m n cs i c kind entries within c_is kind_is entries_are key were are =
    let more_in = sum_by_more (λ (d : Contents). count_by (λ own. bytes_eq own key) (keys_of d)) cs i c within in
    let here = ap (λ (d : Contents). count_by (λ own. bytes_eq own key) (keys_of d)) c_is in
    omega (arith, were, are, keys_among c kind entries key kind_is entries_are, more_in, here)

pub dropped : (m n : KnownKeys) (cs : List Contents) (count : ℕ) → IsCounted m cs → ((key : List ℕ) → times n key ≡ times m key - times_in (take count cs) key) →
    IsCounted n (drop count cs)
dropped m n cs count is counts = record {
  times = λ key.
      let parted = sum_by-take-drop (λ (d : Contents). count_by (λ own. bytes_eq own key) (keys_of d)) cs count in
      omega (arith, counts key, is.times key, parted);
  few = all_after (λ c. length c.segments ≤ MOST_ENTRIES) (take count cs) (drop count cs)
      (subst (AllByRecursion (λ c. length c.segments ≤ MOST_ENTRIES)) (sym (take-append-drop count cs)) is.few);
}

pub none_counted : (m : KnownKeys) (cs : List Contents) → m ≡ finite.empty → cs ≡ [] → IsCounted m cs
none_counted m cs empty none = record {
  times = λ key.
      ap (λ (x : KnownKeys). times x key) empty ∙ ap times_known (finite.get-empty (slice_cmp nat_cmp) key)
      ∙ ap (λ (ds : List Contents). times_in ds key) (sym none);
  few = subst (AllByRecursion (λ c. length c.segments ≤ MOST_ENTRIES)) (sym none) tt;
}

-- ---- what a look-up finds

some_of : (a b : ℕ) → nat_lt 0 (a + b) ≡ (nat_lt 0 a || nat_lt 0 b)
some_of zero b = ap (nat_lt 0) (zero-add b)
some_of (suc a) b = lt-ltb 0 (suc a + b) (omega arith) ∙ sym (or_left (nat_lt 0 (suc a)) (nat_lt 0 b) (lt-ltb 0 (suc a) (omega arith)))

some_sum : {X : Type 0} (f : X → ℕ) (test : X → Bool) → ((x : X) → nat_lt 0 (f x) ≡ test x) → (xs : List X) → nat_lt 0 (sum_by f xs) ≡ list_any test xs
some_sum f test each [] = refl
some_sum f test each (x ∷ xs) =
    ap (nat_lt 0) (sum_by-cons f x xs) ∙ some_of (f x) (sum_by f xs) ∙ ap (λ (b : Bool). b || nat_lt 0 (sum_by f xs)) (each x)
    ∙ ap (λ (b : Bool). test x || b) (some_sum f test each xs)

some_one : (b : Bool) → nat_lt 0 (cond b 1 0) ≡ b
some_one true = refl
some_one false = refl

pub key_found : (cs : List Contents) (key : List ℕ) → nat_lt 0 (times_in cs key) ≡ list_any (λ c. has_key c key) cs
key_found cs key =
    some_sum (λ (c : Contents). count_by (λ own. bytes_eq own key) (keys_of c)) (λ c. has_key c key)
    (λ c. some_sum (λ (own : List ℕ). once own key) (λ own. bytes_eq own key) (λ own. some_one (bytes_eq own key)) (keys_of c)) cs

has_none : (cs : List Contents) (x : Segment) → AllByRecursion IsAside cs → list_any (λ c. has_key c (segment_key Leaf x)) cs ≡ false →
    false ≡ list_any (λ c. has_segment c x) cs
has_none [] x data_all none = refl
has_none (c ∷ cs) x data_all none =
    let parts = or_parts (has_key c (segment_key Leaf x)) (list_any (λ d. has_key d (segment_key Leaf x)) cs) none in
    has_none cs x data_all.1 parts.1 ∙ ap (λ (b : Bool). b || list_any (λ d. has_segment d x) cs) (lacks (has_segment c x) refl parts.0)
  where
    lacks : (b : Bool) → has_segment c x ≡ b → has_key c (segment_key Leaf x) ≡ false → false ≡ has_segment c x
    lacks false is lacked = sym is
    lacks true is lacked =
        let there = sym (ap (λ (k : Kind). has_key c (segment_key k x)) data_all.0.0) ∙ key_there c x (found_in c.segments x is) in
        on_and_off (has_key c (segment_key Leaf x)) there lacked

-- a segment whose key was not counted is in none of the containers, where these are of data
pub not_found : (m : KnownKeys) (cs : List Contents) (x : Segment) (key : List ℕ) → IsCounted m cs → AllByRecursion IsAside cs → key ≡ segment_key Leaf x →
    None ≡ finite.get m key → false ≡ list_any (λ c. has_segment c x) cs
not_found m cs x key is data_all key_is none =
    has_none cs x data_all
    (ap (λ (k : List ℕ). list_any (λ c. has_key c k) cs) (sym key_is) ∙ sym (key_found cs key) ∙ ap (nat_lt 0) (sym (is.times key) ∙ ap times_known (sym none)))

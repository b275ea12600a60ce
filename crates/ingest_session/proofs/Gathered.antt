-- What is still to be sealed of a kind, as if one container had it.
use Rattle.ingest_session.proofs.Prelude.{◌≡◌, ◌∙◌, ◌≤◌, ℕ, zero, suc, Bool, List, [], ◌∷◌, ◌++◌, Some, false, append_assoc, map, take, drop, refl, sym, ap, append-nil, arith, map-append, AllByRecursion, list_any, Kind, Leaf, Tree, Contents, Segment, has_key, segment_key, gathered, segments_of_all, SessionState, IsSession, placed_item, put_aside}
use Rattle.std.proofs.Common.{◌||◌, Option, None}
use Rattle.std.proofs.lemmas.Bool.{or_parts}
use Rattle.std.proofs.lemmas.Grind.{flat_map-append}
use Rattle.std.proofs.lemmas.List.{take-append-drop}
use Rattle.std.proofs.lemmas.List.Folds.{list_any-append}
use Rattle.std.specs.Str.{bytes_eq}
use Rattle.container_meta.specs.Segments.{has_segment, is_segment}
use Rattle.merkle_file.specs.Node as node
use Rattle.ingest_session.specs.Sound.{IsAside}
use Rattle.ingest_session.proofs.Members.{all_then}

-- ---- the segments of containers

-- those of the first, and those of the rest
pub segments_parted : (count : ℕ) (cs : List Contents) → segments_of_all (take count cs) ++ segments_of_all (drop count cs) ≡ segments_of_all cs
segments_parted count cs =
    sym (flat_map-append (λ (c : Contents). c.segments) (take count cs) (drop count cs)) ∙ ap segments_of_all (take-append-drop count cs)

-- what is left after a seal of the first, behind these
pub left_parted : (count : ℕ) (s : SessionState) →
    segments_of_all (take count s.aside) ++ (segments_of_all (drop count s.aside) ++ s.leaves.segments) ≡ segments_of_all s.aside ++ s.leaves.segments
left_parted count s =
    sym (append_assoc (segments_of_all (take count s.aside)) (segments_of_all (drop count s.aside)) s.leaves.segments)
    ∙ ap (λ (ss : List Segment). ss ++ s.leaves.segments) (segments_parted count s.aside)

pub segments_and_one : (cs : List Contents) (c : Contents) → segments_of_all (cs ++ c ∷ []) ≡ segments_of_all cs ++ c.segments
segments_and_one cs c =
    flat_map-append (λ (d : Contents). d.segments) cs (c ∷ []) ∙ ap (λ (ss : List Segment). segments_of_all cs ++ ss) (append-nil c.segments)

-- of one container the first ones are all
pub one_taken : (count : ℕ) (c : Contents) → 1 ≤ count → segments_of_all (take count (c ∷ [])) ≡ c.segments
one_taken zero c some = absurd (omega (arith, some))
one_taken (suc zero) c some = append-nil c.segments
one_taken (suc (suc n)) c some = append-nil c.segments

-- ---- what leaves it as it is

pub gathered_placed : (more : ℕ) (n : Option node.Contents) (s : SessionState) (kind : Kind) → gathered (placed_item more n s) kind ≡ gathered s kind
gathered_placed more None s Leaf = refl
gathered_placed more None s Tree = refl
gathered_placed more (Some n) s Leaf = refl
gathered_placed more (Some n) s Tree = refl

pub gathered_waits : (s : SessionState) (waits : Bool) (kind : Kind) → gathered (record s { waits = waits }) kind ≡ gathered s kind
gathered_waits s waits Leaf = refl
gathered_waits s waits Tree = refl

pub gathered_same : (s t : SessionState) → t.leaves ≡ s.leaves → t.nodes ≡ s.nodes → t.aside ≡ s.aside → (kind : Kind) → gathered t kind ≡ gathered s kind
gathered_same s t leaves nodes aside Leaf =
    ap (λ (c : Contents). record c { segments = segments_of_all t.aside ++ c.segments }) leaves
    ∙ ap (λ (cs : List Contents). record s.leaves { segments = segments_of_all cs ++ s.leaves.segments }) aside
gathered_same s t leaves nodes aside Tree = nodes

-- a container is set aside
pub gathered_put : (s : SessionState) (kind : Kind) → gathered (put_aside s) kind ≡ gathered s kind
gathered_put s Leaf = ap (λ (ss : List Segment). record s.leaves { segments = ss }) (append-nil _ ∙ segments_and_one s.aside s.leaves)
gathered_put s Tree = refl

-- ---- what is in one of them

has_key_in : List ℕ → Kind → List Segment → Bool
has_key_in key kind segments = list_any (λ k. bytes_eq k key) (map (segment_key kind) segments)

key_in_both : (key : List ℕ) (kind : Kind) (one other : List Segment) → has_key_in key kind (one ++ other) ≡ (has_key_in key kind one || has_key_in key kind other)
unfolding has_key_in
key_in_both key kind one other =
    ap (list_any (λ k. bytes_eq k key)) (map-append (segment_key kind) one other)
    ∙ list_any-append (λ k. bytes_eq k key) (map (segment_key kind) one) (map (segment_key kind) other)

-- where nothing that is not sealed has a key, what is left after a seal lacks it
pub key_left : (count : ℕ) (s : SessionState) (key : List ℕ) → has_key (gathered s Leaf) key ≡ false →
    has_key (gathered (record s { aside = drop count s.aside }) Leaf) key ≡ false
unfolding has_key_in
key_left count s key none =
    let first = segments_of_all (take count s.aside) in
    let rest = segments_of_all (drop count s.aside) ++ s.leaves.segments in
    (or_parts (has_key_in key s.leaves.kind first) (has_key_in key s.leaves.kind rest)
    (sym (key_in_both key s.leaves.kind first rest) ∙ ap (has_key_in key s.leaves.kind) (left_parted count s) ∙ none)).1

key_in_all : (key : List ℕ) (kind : Kind) (cs : List Contents) → AllByRecursion (λ c. c.kind ≡ kind) cs →
    has_key_in key kind (segments_of_all cs) ≡ list_any (λ c. has_key c key) cs
unfolding has_key_in
key_in_all key kind [] kinds = refl
key_in_all key kind (c ∷ cs) kinds =
    key_in_both key kind c.segments (segments_of_all cs)
    ∙ ap (λ (b : Bool). has_key_in key kind c.segments || b) (key_in_all key kind cs kinds.1)
    ∙ ap (λ (k : Kind). has_key_in key k c.segments || list_any (λ d. has_key d key) cs) (sym kinds.0)

pub key_gathered : (s : SessionState) → IsSession s → (key : List ℕ) →
    has_key (gathered s Leaf) key ≡ (list_any (λ c. has_key c key) s.aside || has_key s.leaves key)
unfolding has_key_in
key_gathered s is key =
    let kinds = all_then IsAside (λ c. c.kind ≡ s.leaves.kind) s.aside (λ c this. this.0 ∙ sym is.data_kind) is.aside in
    key_in_both key s.leaves.kind (segments_of_all s.aside) s.leaves.segments
    ∙ ap (λ (b : Bool). b || has_key s.leaves key) (key_in_all key s.leaves.kind s.aside kinds)

segment_in_all : (x : Segment) (cs : List Contents) → list_any (is_segment x) (segments_of_all cs) ≡ list_any (λ c. has_segment c x) cs
segment_in_all x [] = refl
segment_in_all x (c ∷ cs) =
    list_any-append (is_segment x) c.segments (segments_of_all cs) ∙ ap (λ (b : Bool). has_segment c x || b) (segment_in_all x cs)

pub segment_gathered : (s : SessionState) (x : Segment) →
    has_segment (gathered s Leaf) x ≡ (list_any (λ c. has_segment c x) s.aside || has_segment s.leaves x)
segment_gathered s x =
    list_any-append (is_segment x) (segments_of_all s.aside) s.leaves.segments ∙ ap (λ (b : Bool). b || has_segment s.leaves x) (segment_in_all x s.aside)

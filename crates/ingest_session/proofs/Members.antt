-- Elements of lists, and the pieces that are in their place.
use Rattle.ingest_session.proofs.Prelude.{◌≡◌, ◌⊎◌, ◌∙◌, ℕ, zero, suc, Bool, true, false, List, [], ◌∷◌, ◌++◌, Some, map, inl, inr, refl, sym, ap, subst, and_parts, or_left, or_right, AllByRecursion, list_any, ◌==◌, Kind, Contents, Segment, has_key, segment_key, Piece, Data, Node, piece_segment, item_kind, data_in, nodes_in, turn_of, item_of}
use Rattle.std.proofs.Common.{slice_get}
use Rattle.std.proofs.lemmas.Bool.{eqb-true, or_cases, or_parts}
use Rattle.std.proofs.lemmas.Option.{same_Some}
use Rattle.std.proofs.lemmas.Slice.Eq.{bytes_eq-Decides}
use Rattle.std.specs.Str.{bytes_eq}
use Rattle.std.specs.Prelude.{Option, None}
use Rattle.container_meta.specs.Segments.{is_segment}
use Rattle.merkle_file.specs.Node as node

-- ---- an element of a list

abbrev pub IsIn : {X : Type 0} → X → List X → Type 0
IsIn x xs = (index : ℕ) × (slice_get xs index ≡ Some x)

pub in_none : {X : Type 0} (x : X) → IsIn x [] → ⊥
in_none x is = let none = is.1 in cc

pub in_first : {X : Type 0} (x : X) (xs : List X) → IsIn x (x ∷ xs)
in_first x xs = (0, refl)

pub in_rest : {X : Type 0} (x y : X) (ys : List X) → IsIn x ys → IsIn x (y ∷ ys)
in_rest x y ys is = (suc is.0, is.1)

at_left : {X : Type 0} (xs ys : List X) (index : ℕ) (x : X) → slice_get xs index ≡ Some x → slice_get (xs ++ ys) index ≡ Some x
at_left [] ys index x is = absurd (cc)
at_left (z ∷ zs) ys zero x is = is
at_left (z ∷ zs) ys (suc index) x is = at_left zs ys index x is

pub in_left : {X : Type 0} (xs ys : List X) (x : X) → IsIn x xs → IsIn x (xs ++ ys)
in_left xs ys x is = (is.0, at_left xs ys is.0 x is.1)

pub in_right : {X : Type 0} (xs ys : List X) (x : X) → IsIn x ys → IsIn x (xs ++ ys)
in_right [] ys x is = is
in_right (z ∷ zs) ys x is = in_rest x z (zs ++ ys) (in_right zs ys x is)

at_either : {X : Type 0} (xs ys : List X) (index : ℕ) (x : X) → slice_get (xs ++ ys) index ≡ Some x → IsIn x xs ⊎ IsIn x ys
at_either [] ys index x is = inr (index, is)
at_either (z ∷ zs) ys zero x is = inl (0, is)
at_either (z ∷ zs) ys (suc index) x is = elim (at_either zs ys index x is) [ inl left ↦ inl (suc left.0, left.1) | inr right ↦ inr right ]

pub in_either : {X : Type 0} (xs ys : List X) (x : X) → IsIn x (xs ++ ys) → IsIn x xs ⊎ IsIn x ys
in_either xs ys x is = at_either xs ys is.0 x is.1

at_one : {X : Type 0} (y : X) (index : ℕ) (x : X) → slice_get (y ∷ []) index ≡ Some x → x ≡ y
at_one y zero x is = cc
at_one y (suc index) x is = absurd (cc)

pub in_one : {X : Type 0} (y x : X) → IsIn x (y ∷ []) → x ≡ y
in_one y x is = at_one y is.0 x is.1

at_map : {X Y : Type 0} (f : X → Y) (xs : List X) (index : ℕ) (y : Y) → slice_get (map f xs) index ≡ Some y → (x : X) × IsIn x xs × (f x ≡ y)
at_map f [] index y is = absurd (cc)
at_map f (x ∷ xs) zero y is = (x, (0, refl), cc)
at_map f (x ∷ xs) (suc index) y is = let found = at_map f xs index y is in (found.0, (suc found.1.0, found.1.1), found.2)

pub in_map : {X Y : Type 0} (f : X → Y) (xs : List X) (y : Y) → IsIn y (map f xs) → (x : X) × IsIn x xs × (f x ≡ y)
in_map f xs y is = at_map f xs is.0 y is.1

-- ---- all elements

pub all_of : {X : Type 0} (P : X → Type 0) (xs : List X) → ((x : X) → IsIn x xs → P x) → AllByRecursion P xs
all_of P [] each = tt
all_of P (x ∷ xs) each = (each x (in_first x xs), all_of P xs (λ y is. each y (in_rest y x xs is)))

at_all : {X : Type 0} (P : X → Type 0) (xs : List X) (index : ℕ) (x : X) → AllByRecursion P xs → slice_get xs index ≡ Some x → P x
at_all P [] index x all is = absurd (cc)
at_all P (y ∷ ys) zero x all is = rw (same_Some x y (sym is)) all.0
at_all P (y ∷ ys) (suc index) x all is = at_all P ys index x all.1 is

pub one_of : {X : Type 0} (P : X → Type 0) (xs : List X) (x : X) → AllByRecursion P xs → IsIn x xs → P x
one_of P xs x all is = at_all P xs is.0 x all is.1

pub all_map : {X Y : Type 0} (P : Y → Type 0) (f : X → Y) (xs : List X) → AllByRecursion (λ x. P (f x)) xs → AllByRecursion P (map f xs)
all_map P f [] all = tt
all_map P f (x ∷ xs) all = (all.0, all_map P f xs all.1)

pub all_then : {X : Type 0} (P Q : X → Type 0) (xs : List X) → ((x : X) → P x → Q x) → AllByRecursion P xs → AllByRecursion Q xs
all_then P Q [] step all = tt
all_then P Q (x ∷ xs) step all = (step x all.0, all_then P Q xs step all.1)

-- of two lists, one after the other
pub all_append : {X : Type 0} (P : X → Type 0) (xs ys : List X) → AllByRecursion P xs → AllByRecursion P ys → AllByRecursion P (xs ++ ys)
all_append P [] ys all more = more
all_append P (x ∷ xs) ys all more = (all.0, all_append P xs ys all.1 more)

pub all_before : {X : Type 0} (P : X → Type 0) (xs ys : List X) → AllByRecursion P (xs ++ ys) → AllByRecursion P xs
all_before P [] ys all = tt
all_before P (x ∷ xs) ys all = (all.0, all_before P xs ys all.1)

pub all_after : {X : Type 0} (P : X → Type 0) (xs ys : List X) → AllByRecursion P (xs ++ ys) → AllByRecursion P ys
all_after P [] ys all = all
all_after P (x ∷ xs) ys all = all_after P xs ys all.1

-- ---- what a container has

pub any_first : {X : Type 0} (test : X → Bool) (x : X) (xs : List X) → list_any test (x ∷ xs) ≡ false → (test x ≡ false) × (list_any test xs ≡ false)
any_first test x xs none = or_parts (test x) (list_any test xs) none

same_segment : (x y : Segment) → is_segment x y ≡ true → x ≡ y
same_segment x y is =
    let parts = and_parts (y.level == x.level) (bytes_eq y.bytes x.bytes) is in
    let level = eqb-true y.level x.level parts.0 in
    let bytes = (bytes_eq-Decides y.bytes x.bytes).0 parts.1 in
    sym (ap (λ (l : ℕ). record { level = l; bytes = y.bytes }) level ∙ ap (λ (b : List ℕ). record { level = x.level; bytes = b }) bytes)

pub found_in : (segments : List Segment) (x : Segment) → list_any (is_segment x) segments ≡ true → IsIn x segments
found_in [] x there = absurd (cc)
found_in (y ∷ ys) x there =
    elim (or_cases (is_segment x y) (list_any (is_segment x) ys) there) [
      | inl is ↦ (0, ap Some (sym (same_segment x y is)))
      | inr later ↦ in_rest x y ys (found_in ys x later)
    ]

same_bytes : (bytes : List ℕ) → bytes_eq bytes bytes ≡ true
same_bytes bytes = (bytes_eq-Decides bytes bytes).1 refl

key_in : (kind : Kind) (segments : List Segment) (index : ℕ) (x : Segment) → slice_get segments index ≡ Some x →
    list_any (λ (k : List ℕ). bytes_eq k (segment_key kind x)) (map (segment_key kind) segments) ≡ true
key_in kind [] index x is = absurd (cc)
key_in kind (y ∷ ys) zero x is =
    or_left _ _ (ap (λ (s : Segment). bytes_eq (segment_key kind s) (segment_key kind x)) (same_Some y x is) ∙ same_bytes (segment_key kind x))
key_in kind (y ∷ ys) (suc index) x is = or_right _ _ (key_in kind ys index x is)

pub key_there : (filled : Contents) (x : Segment) → IsIn x filled.segments → has_key filled (segment_key filled.kind x) ≡ true
key_there filled x is = key_in filled.kind filled.segments is.0 x is.1

-- ---- the segments and the nodes among pieces

pub data_append : (ps qs : List Piece) → data_in (ps ++ qs) ≡ data_in ps ++ data_in qs
data_append [] qs = refl
data_append (Data bytes ∷ ps) qs = ap (λ (ds : List (List ℕ)). bytes ∷ ds) (data_append ps qs)
data_append (Node n ∷ ps) qs = data_append ps qs

pub nodes_append : (ps qs : List Piece) → nodes_in (ps ++ qs) ≡ nodes_in ps ++ nodes_in qs
nodes_append [] qs = refl
nodes_append (Data bytes ∷ ps) qs = nodes_append ps qs
nodes_append (Node n ∷ ps) qs = ap (λ (ns : List node.Contents). n ∷ ns) (nodes_append ps qs)

data_at : (ps : List Piece) (index : ℕ) (bytes : List ℕ) → slice_get (data_in ps) index ≡ Some bytes → IsIn (Data bytes) ps
data_at [] index bytes is = absurd (cc)
data_at (Data x ∷ ps) zero bytes is = (0, ap (λ (b : List ℕ). Some (Data b)) (same_Some x bytes is))
data_at (Data x ∷ ps) (suc index) bytes is = in_rest (Data bytes) (Data x) ps (data_at ps index bytes is)
data_at (Node n ∷ ps) index bytes is = in_rest (Data bytes) (Node n) ps (data_at ps index bytes is)

pub data_is_placed : (ps : List Piece) (bytes : List ℕ) → IsIn bytes (data_in ps) → IsIn (Data bytes) ps
data_is_placed ps bytes is = data_at ps is.0 bytes is.1

node_at : (ps : List Piece) (index : ℕ) (n : node.Contents) → slice_get (nodes_in ps) index ≡ Some n → IsIn (Node n) ps
node_at [] index n is = absurd (cc)
node_at (Node m ∷ ps) zero n is = (0, ap (λ (k : node.Contents). Some (Node k)) (same_Some m n is))
node_at (Node m ∷ ps) (suc index) n is = in_rest (Node n) (Node m) ps (node_at ps index n is)
node_at (Data x ∷ ps) index n is = in_rest (Node n) (Data x) ps (node_at ps index n is)

pub node_is_placed : (ps : List Piece) (n : node.Contents) → IsIn n (nodes_in ps) → IsIn (Node n) ps
node_is_placed ps n is = node_at ps is.0 n is.1

-- a segment or a node that is in its place is one of these
abbrev pub IsAmong : List (List ℕ) → List node.Contents → Piece → Type 0
IsAmong segments nodes (Data bytes) = IsIn bytes segments
IsAmong segments nodes (Node n) = IsIn n nodes

among_rest : (x : List ℕ) (segments : List (List ℕ)) (nodes : List node.Contents) (p : Piece) → IsAmong segments nodes p → IsAmong (x ∷ segments) nodes p
among_rest x segments nodes (Data bytes) is = in_rest bytes x segments is
among_rest x segments nodes (Node n) is = is

among_later : (m : node.Contents) (segments : List (List ℕ)) (nodes : List node.Contents) (p : Piece) → IsAmong segments nodes p → IsAmong segments (m ∷ nodes) p
among_later m segments nodes (Data bytes) is = is
among_later m segments nodes (Node n) is = in_rest n m nodes is

pub all_among : (ps : List Piece) → (index : ℕ) (p : Piece) → slice_get ps index ≡ Some p → IsAmong (data_in ps) (nodes_in ps) p
all_among [] index p is = absurd (cc)
all_among (Data x ∷ ps) zero p is = subst (IsAmong (x ∷ data_in ps) (nodes_in ps)) (same_Some (Data x) p is) (in_first x (data_in ps))
all_among (Data x ∷ ps) (suc index) p is = among_rest x (data_in ps) (nodes_in ps) p (all_among ps index p is)
all_among (Node n ∷ ps) zero p is = subst (IsAmong (data_in ps) (n ∷ nodes_in ps)) (same_Some (Node n) p is) (in_first n (nodes_in ps))
all_among (Node n ∷ ps) (suc index) p is = among_later n (data_in ps) (nodes_in ps) p (all_among ps index p is)

-- ---- the item whose turn it is, as a piece

-- a container has of it what it has of the item
pub turn_is : (n : Option node.Contents) (queue : List (List ℕ)) (p : Piece) → IsIn p (turn_of n queue) →
    piece_segment p ≡ record { kind = item_kind n; segment = item_of n queue }
turn_is (Some n) queue p is = ap piece_segment (in_one (Node n) p is)
turn_is None [] p is = absurd (in_none p is)
turn_is None (x ∷ xs) p is = ap piece_segment (in_one (Data x) p is)

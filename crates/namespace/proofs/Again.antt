-- The puts of names, in any order, replayed.
use Rattle.std.proofs.Common.{◌≡◌, ℕ, ◌+◌, ◌≤◌, List, [], ◌∷◌, Bool, true, false, ◌&&◌, cond, is_some, Option, None, Some, map, length, refl, sym, ap, ◌∙◌, inl, inr, arith}
use Rattle.std.specs.Prelude.{T}
use Rattle.std.specs.List.{All}
use Rattle.std.specs.List.Sorted.{IsPermutation}
use Rattle.std.specs.Ordering.{nat_cmp, is_lt, is_eq, eq_by_cmp}
use Rattle.std.specs.Cmp.{tied_itself}
use Rattle.std.specs.declared.cmp.Ordering.{Ordering}
use Rattle.std.specs.declared.cmp.Ordering.TheVariants.{Less, Equal, Greater}
use Rattle.std.specs.Cmp.Lexicographic.{slice_cmp, nat_list_cmp_total}
use Rattle.std.specs.FinMap as finite
use Rattle.std.specs.FinMap.Entries.{below_all}
use Rattle.std.proofs.lemmas.Map.Lookups.{exact_bytes}
use Rattle.std.proofs.lemmas.List.{length-map}
use Rattle.std.proofs.lemmas.List.Elements.{All-nil, All-cons, All-head, All-tail, All-map, All-weaker}
use Rattle.std.proofs.lemmas.List.Sorted.{All-permutation, IsPermutation-sym, length_permutation}
use Rattle.disk_format.specs.declared.numbers.TheConstants.{MOST_NAMES}
use Rattle.disk_format.specs.Cells.{RecordValue, IsName, Change}
use Rattle.disk_format.specs.Cells.Change.{Put, Delete}
use Rattle.namespace.specs.declared.record.Named.{Named}
use Rattle.namespace.specs.Names.{NameMap, AreNames, AreTaken, HasPlace, put_of, names_changed, names_with, names_after}
use Rattle.namespace.proofs.Entries.{is_equal}
use Rattle.namespace.proofs.Kept.{found_name}
use Rattle.namespace.proofs.Numbered.{found_put}

pub first : (a b : Bool) → T (a && b) → T a
first true b h = tt
first false b h = h

pub second : (a b : Bool) → T (a && b) → T b
second true b h = h
second false b h = absurd h

pub is_less : (o : Ordering) → T (is_lt o) → o ≡ Less
is_less Less h = refl
is_less Equal h = absurd h
is_less Greater h = absurd h

-- a change that is a put, and the names have it
abbrev pub IsOf : NameMap → ℕ → List ℕ → Change → Type 0
IsOf names sequence name (Put root) = finite.get names name ≡ Some (record { sequence = sequence; root = root })
IsOf names sequence name Delete = ⊥

-- a record that is a put of the names
abbrev pub IsPutOf : NameMap → RecordValue → Type 0
IsPutOf names r = IsOf names r.sequence r.name r.change

none_below : (q k : List ℕ) (es : List (List ℕ × Named)) → slice_cmp nat_cmp q k ≡ Equal → T (below_all (slice_cmp nat_cmp) k es) → finite.find (slice_cmp nat_cmp) q es ≡ None
none_below q k [] same h = refl
none_below q k (e ∷ es) same h =
    let less : slice_cmp nat_cmp q e.0 ≡ Less = nat_list_cmp_total.congr q k e.0 same ∙ is_less _ (first _ _ h) in
    ap (λ o. cond (is_eq o) (Some e.1) (finite.find (slice_cmp nat_cmp) q es)) less ∙ none_below q k es same (second _ _ h)

found_later : (e x : List ℕ × Named) (es : List (List ℕ × Named)) → T (below_all (slice_cmp nat_cmp) e.0 es) → finite.find (slice_cmp nat_cmp) x.0 es ≡ Some x.1 →
    finite.find (slice_cmp nat_cmp) x.0 (e ∷ es) ≡ Some x.1
found_later e x es below found =
    elim (eq_by_cmp (slice_cmp nat_cmp) x.0 e.0) as (λ b. eq_by_cmp (slice_cmp nat_cmp) x.0 e.0 ≡ b → cond b (Some e.1) (finite.find (slice_cmp nat_cmp) x.0 es) ≡ Some x.1) [
      | true ↦ λ same. let none = none_below x.0 e.0 es (is_equal _ same) below in cc
      | false ↦ λ _. found
    ] refl

found_each : (es : List (List ℕ × Named)) → T (finite.is_sorted (slice_cmp nat_cmp) es) → All (λ e. finite.find (slice_cmp nat_cmp) e.0 es ≡ Some e.1) es
found_each [] h = All-nil _
found_each (e ∷ es) h =
    All-cons (λ x. finite.find (slice_cmp nat_cmp) x.0 (e ∷ es) ≡ Some x.1) e es
    (ap (λ o. cond (is_eq o) (Some e.1) (finite.find (slice_cmp nat_cmp) e.0 es)) (tied_itself nat_list_cmp_total e.0))
    (All-weaker (λ x. finite.find (slice_cmp nat_cmp) x.0 es ≡ Some x.1) (λ x. finite.find (slice_cmp nat_cmp) x.0 (e ∷ es) ≡ Some x.1) (λ x. found_later e x es (first _ _ h)) es
    (found_each es (second _ _ h)))

-- each entry is found
pub entries_found : (names : NameMap) → All (λ e. finite.get names e.0 ≡ Some e.1) (finite.entries names)
entries_found names = All-weaker (λ e. finite.find (slice_cmp nat_cmp) e.0 (finite.entries names) ≡ Some e.1) (λ e. finite.get names e.0 ≡ Some e.1)
    (λ e found. finite.get-entries names e.0 ∙ found) (finite.entries names) (found_each (finite.entries names) (finite.entries_sorted names))

-- each of the puts, in any order, is one of the names
pub each_put : (names : NameMap) (puts : List RecordValue) → IsPermutation (map put_of (finite.entries names)) puts → All (IsPutOf names) puts
each_put names puts same = All-permutation (IsPutOf names) (map put_of (finite.entries names)) puts same
    (All-map (IsPutOf names) put_of (finite.entries names) (entries_found names))

-- what holds of each key holds of each put's name, and the other way round
over_puts : (P : List ℕ → Type 0) (es : List (List ℕ × Named)) → All P (map (λ e. e.0) es) → All (λ r. P r.name) (map put_of es)
over_puts P [] h = All-nil _
over_puts P (e ∷ es) h = All-cons (λ r. P r.name) (put_of e) (map put_of es) (All-head P e.0 (map (λ x. x.0) es) h) (over_puts P es (All-tail P e.0 (map (λ x. x.0) es) h))

over_keys : (P : List ℕ → Type 0) (es : List (List ℕ × Named)) → All (λ r. P r.name) (map put_of es) → All P (map (λ e. e.0) es)
over_keys P [] h = All-nil _
over_keys P (e ∷ es) h = All-cons P e.0 (map (λ x. x.0) es) (All-head (λ r. P r.name) (put_of e) (map put_of es) h)
    (over_keys P es (All-tail (λ r. P r.name) (put_of e) (map put_of es) h))

pub named_puts : (names : NameMap) (puts : List RecordValue) → AreNames names → IsPermutation (map put_of (finite.entries names)) puts → All (λ r. IsName r.name) puts
named_puts names puts h same = All-permutation (λ r. IsName r.name) (map put_of (finite.entries names)) puts same (over_puts IsName (finite.entries names) h.named)

-- what one map finds another finds
abbrev FindsIn : NameMap → NameMap → Type 0
FindsIn part names = (q : List ℕ) (x : Named) → finite.get part q ≡ Some x → finite.get names q ≡ Some x

change_finds : (names part : NameMap) (sequence : ℕ) (name : List ℕ) (change : Change) → IsOf names sequence name change → FindsIn part names →
    FindsIn (names_changed sequence name change part) names
change_finds names part sequence name (Put root) of h = λ q x found.
    elim (found_put part name (record { sequence = sequence; root = root }) q x found) [
      | inl p ↦ ap (finite.get names) p.0 ∙ of ∙ ap Some (sym p.1)
      | inr was ↦ h q x was
    ]
change_finds names part sequence name Delete of h = absurd of

replay_finds : (names : NameMap) (puts : List RecordValue) (part : NameMap) → All (IsPutOf names) puts → FindsIn part names → FindsIn (names_after puts part) names
replay_finds names [] part of h = h
replay_finds names (r ∷ rs) part of h =
    replay_finds names rs (names_with r part) (All-tail (IsPutOf names) r rs of) (change_finds names part r.sequence r.name r.change (All-head (IsPutOf names) r rs of) h)

still : (b : Bool) (new : Named) (o : Option Named) → is_some o ≡ true → is_some (cond b (Some new) o) ≡ true
still true new o h = refl
still false new o h = h

change_keeps : (names part : NameMap) (sequence : ℕ) (name : List ℕ) (change : Change) (q : List ℕ) → IsOf names sequence name change → is_some (finite.get part q) ≡ true →
    is_some (finite.get (names_changed sequence name change part) q) ≡ true
change_keeps names part sequence name (Put root) q of h =
    let new : Named = record { sequence = sequence; root = root } in
    ap is_some (finite.get-insert nat_list_cmp_total part name new q) ∙ still (eq_by_cmp (slice_cmp nat_cmp) q name) new (finite.get part q) h
change_keeps names part sequence name Delete q of h = absurd of

replay_keeps : (names : NameMap) (puts : List RecordValue) (part : NameMap) (q : List ℕ) → All (IsPutOf names) puts → is_some (finite.get part q) ≡ true →
    is_some (finite.get (names_after puts part) q) ≡ true
replay_keeps names [] part q of h = h
replay_keeps names (r ∷ rs) part q of h =
    replay_keeps names rs (names_with r part) q (All-tail (IsPutOf names) r rs of) (change_keeps names part r.sequence r.name r.change q (All-head (IsPutOf names) r rs of) h)

change_adds : (names part : NameMap) (sequence : ℕ) (name : List ℕ) (change : Change) → IsOf names sequence name change →
    is_some (finite.get (names_changed sequence name change part) name) ≡ true
change_adds names part sequence name (Put root) of =
    let new : Named = record { sequence = sequence; root = root } in
    ap is_some (finite.get-insert nat_list_cmp_total part name new name) ∙ ap (λ o. is_some (cond (is_eq o) (Some new) (finite.get part name)))
    (tied_itself nat_list_cmp_total name)
change_adds names part sequence name Delete of = absurd of

replay_adds : (names : NameMap) (puts : List RecordValue) (part : NameMap) → All (IsPutOf names) puts → All (λ r. is_some (finite.get (names_after puts part) r.name) ≡ true) puts
replay_adds names [] part of = All-nil _
replay_adds names (r ∷ rs) part of =
    let rest = All-tail (IsPutOf names) r rs of in
    let after = names_with r part in
    All-cons (λ x. is_some (finite.get (names_after rs after) x.name) ≡ true) r rs
    (replay_keeps names rs after r.name rest (change_adds names part r.sequence r.name r.change (All-head (IsPutOf names) r rs of)))
    (replay_adds names rs after rest)

agree : (o p : Option Named) → ((x : Named) → o ≡ Some x → p ≡ Some x) → (is_some p ≡ true → is_some o ≡ true) → o ≡ p
agree None None finds adds = refl
agree None (Some x) finds adds = let none = adds refl in cc
agree (Some x) p finds adds = sym (finds x refl)

nothing : (names : NameMap) → FindsIn finite.empty names
nothing names = λ q x found. let none = finite.get-empty {X = Named} (slice_cmp nat_cmp) q in cc

-- the puts of names, in any order, replay to the names
pub replays : (names : NameMap) (puts : List RecordValue) → IsPermutation (map put_of (finite.entries names)) puts → names_after puts finite.empty ≡ names
replays names puts same =
    let of = each_put names puts same in
    let again = names_after puts finite.empty in
    let there : All (λ r. is_some (finite.get again r.name) ≡ true) (map put_of (finite.entries names)) = All-permutation (λ r. is_some (finite.get again r.name) ≡ true) puts
    (map put_of (finite.entries names)) (IsPermutation-sym _ _ same) (replay_adds names puts finite.empty of) in
    finite.same_map nat_list_cmp_total exact_bytes again names (λ q.
    agree (finite.get again q) (finite.get names q) (replay_finds names puts finite.empty of (nothing names) q) (λ found.
    found_name (λ n. is_some (finite.get again n) ≡ true) q (finite.entries names) (over_keys (λ n. is_some (finite.get again n) ≡ true) (finite.entries names) there)
    (ap is_some (sym (finite.get-entries names q)) ∙ found)))

room_later : (b : Bool) (n m k : ℕ) → m ≡ cond b n (n + 1) → (n + (k + 1)) ≤ MOST_NAMES → (m + k) ≤ MOST_NAMES
room_later true n m k e h = omega (arith, e, h)
room_later false n m k e h = omega (arith, e, h)

change_taken : (names part : NameMap) (sequence : ℕ) (name : List ℕ) (change : Change) (more : ℕ) → IsOf names sequence name change → (finite.len part + (more + 1)) ≤ MOST_NAMES →
    HasPlace part name change × ((finite.len (names_changed sequence name change part) + more) ≤ MOST_NAMES)
change_taken names part sequence name (Put root) more of room =
    let new : Named = record { sequence = sequence; root = root } in
    (inr (omega (arith, room)), room_later (is_some (finite.get part name)) (finite.len part) _ more (finite.len-insert nat_list_cmp_total part name new) room)
change_taken names part sequence name Delete more of room = absurd of

taken_each : (names : NameMap) (puts : List RecordValue) (part : NameMap) → All (IsPutOf names) puts → All (λ r. IsName r.name) puts →
    (finite.len part + length puts) ≤ MOST_NAMES → AreTaken part puts
taken_each names [] part of named room = tt
taken_each names (r ∷ rs) part of named room =
    let one = change_taken names part r.sequence r.name r.change (length rs) (All-head (IsPutOf names) r rs of) (omega (arith, room)) in
    ((All-head (λ x. IsName x.name) r rs named, one.0), taken_each names rs (names_with r part) (All-tail (IsPutOf names) r rs of) (All-tail (λ x. IsName x.name) r rs named) one.1)

-- and none of them is refused
pub taken : (names : NameMap) (puts : List RecordValue) → AreNames names → IsPermutation (map put_of (finite.entries names)) puts → AreTaken finite.empty puts
taken names puts h same =
    let none : finite.len (finite.empty {R = slice_cmp nat_cmp}) ≡ 0 = finite.len-empty (slice_cmp nat_cmp) Named in
    let count : length puts ≡ finite.len names = length_permutation _ _ same ∙ length-map (finite.entries names) put_of ∙ sym (finite.len-entries names) in
    taken_each names puts finite.empty (each_put names puts same) (named_puts names puts h same) (omega (arith, none, h.few, count))

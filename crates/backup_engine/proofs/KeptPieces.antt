-- What steps kept of a file: its pieces, each pinned, and what two of one key are.
use Rattle.backup_engine.proofs.Prelude.{both_so, ◌≡◌, ◌≢◌, ℕ, ◌==◌, Bool, true, false, cond, List, [], ◌∷◌, ◌++◌, length, map, Option, Some, None, Result, Ok, refl, sym, ◌∙◌, ap, subst, arith, AllByRecursion, bytes_eq-Decides, sha256, Kind, PlaceMap, KindSegment, Segment, segment_key, node_digest, Answer, PinMap, has_pin, KeyPin, children_by, pin_of, StepValue, Refusal, Piece, Data, Node, HasPieceOf, IsPieceOf, piece_bytes, piece_key, piece_segment, key_of_seg, first_unpinned_of, with_pins, kept_by, kept_of, FileEvent, all_map, all_then, in_left, in_right, one_of, HasTwins, IsPiece, AreKept, length_in, IsAskedFor, IsOneOf, IsPutStep}
use Rattle.std.specs.Prelude.{if◌then◌else◌, take}
use Rattle.std.specs.FinMap as finite
use Rattle.std.specs.Cmp.Lexicographic.{slice_cmp, nat_list_cmp_total}
use Rattle.std.specs.Ordering.{nat_cmp, eq_by_cmp}
use Rattle.std.proofs.lemmas.List.{append-nil, append_assoc}
use Rattle.container_meta.specs.Segments as containers
use Rattle.merkle_file.specs.Node.{Contents}
use Rattle.actor_parts.specs.declared.pins.Pin.{Pin}
use Rattle.actor_parts.specs.declared.step.Answer.TheVariants as answers
use Rattle.actor_parts.specs.PinMap.{is_pin}
use Rattle.actor_parts.specs.Segments.{first_not_in, pin_by}
use Rattle.actor_parts.specs.StepValue as asked
use Rattle.store_model.proofs.Indexing.{tied}
use Rattle.store_core.proofs.ManySealed.{all_taken}
use Rattle.store_core.specs.Keeping.{segments_in}
use Rattle.ingest_steps.specs.Offering.{first_unpinned_in, with_pins_of}
use Rattle.ingest_steps.specs.Pinning.{or_else}
use Rattle.ingest_session.proofs.Members.{in_first}
use Rattle.backup_engine.specs.Putting.{HasPinOf}

-- ---- pieces

abbrev pub of_kind : Kind → Segment → KindSegment
of_kind kind s = record { kind = kind; segment = s }

pub key_of_piece : (p : Piece) → key_of_seg (piece_segment p) ≡ piece_key p
key_of_piece (Data bytes) = refl
key_of_piece (Node n) = refl

pub long_as_piece : (p : Piece) → length (piece_segment p).segment.bytes ≡ length (piece_bytes p)
long_as_piece (Data bytes) = refl
long_as_piece (Node n) = refl

-- what is a piece of the file is one by its key and its length
pub is_piece : (file : List ℕ) (seg : KindSegment) → HasPieceOf file seg → IsPiece file (key_of_seg seg) (length seg.segment.bytes)
is_piece file seg has = (
  has.0,
  has.1,
  ap key_of_seg has.2 ∙ key_of_piece has.0,
  ap (λ (x : KindSegment). length x.segment.bytes) has.2 ∙ long_as_piece has.0,
)

pieces_in : (file : List ℕ) (cs : List containers.Contents) → AllByRecursion (λ c. AllByRecursion (λ s. HasPieceOf file (of_kind c.kind s)) c.segments) cs
    → AllByRecursion (HasPieceOf file) (segments_in cs)
pieces_in file [] all = tt
pieces_in file (c ∷ cs) all =
    both_so (HasPieceOf file) (map (of_kind c.kind) c.segments) (segments_in cs) (all_map (HasPieceOf file) (of_kind c.kind) c.segments all.0) (pieces_in file cs all.1)

-- what steps kept are pieces of the file
kept_by_step : (name file : List ℕ) (step : StepValue) (answer : Result Answer Refusal) (put : List ℕ) → IsAskedFor name file step put →
    AllByRecursion (HasPieceOf file) (kept_by step answer)
kept_by_step name file (asked.Claim seg) (Ok answers.Held) put has = (has, tt)
kept_by_step name file (asked.Seal offered) (Ok (answers.Sealed id count)) put has =
    pieces_in file (take count offered) (all_taken (λ c. AllByRecursion (λ s. HasPieceOf file (of_kind c.kind s)) c.segments) count offered has)
kept_by_step name file step answer put has = tt

pub kept_pieces : (name file : List ℕ) (steps : List FileEvent) → AllByRecursion (IsPutStep name file) steps → AllByRecursion (HasPieceOf file) (kept_of steps)
kept_pieces name file [] each = tt
kept_pieces name file (f ∷ fs) each =
    both_so (HasPieceOf file) (kept_by f.event.step f.event.answer) (kept_of fs) (kept_by_step name file f.event.step f.event.answer f.bytes each.0.asked_for)
    (kept_pieces name file fs each.1)

-- ---- pins

same_key : (key : List ℕ) → eq_by_cmp (slice_cmp nat_cmp) key key ≡ true
same_key key = tied key key ∙ (bytes_eq-Decides key key).1 refl

same_number : (n : ℕ) → (n == n) ≡ true
same_number n = grind arith

pub is_itself : (pin : Pin) → is_pin pin (Some pin) ≡ true
is_itself pin = rw (same_number pin.level, same_number pin.length) refl

-- the key of each of these has the pin of one of them
abbrev pub ArePinned : List KindSegment → PinMap → Type 0
ArePinned kept pins = AllByRecursion (λ x. HasPinOf kept pins (key_of_seg x)) kept

module _ (kept : List KindSegment) (seg : KindSegment) (pins : PinMap) where
  abbrev with_seg : PinMap
  with_seg = finite.insert pins (key_of_seg seg) (pin_of seg)

  abbrev HasPin : List ℕ → Type 0
  HasPin key = HasPinOf (kept ++ seg ∷ []) with_seg key

  last_pin : (key : List ℕ) → key_of_seg seg ≡ key → HasPin key
  last_pin key same = (
    seg,
    in_right kept (seg ∷ []) seg (in_first seg []),
    same,
    ap (finite.get with_seg) (sym same) ∙ finite.get-insert nat_list_cmp_total pins (key_of_seg seg) (pin_of seg) (key_of_seg seg)
        ∙ ap (λ (b : Bool). cond b (Some (pin_of seg)) (finite.get pins (key_of_seg seg))) (same_key (key_of_seg seg)),
  )

  next_pin : (key : List ℕ) → HasPinOf kept pins key → HasPin key
  next_pin key has = by_test (eq_by_cmp (slice_cmp nat_cmp) key (key_of_seg seg)) refl
    where
      by_test : (b : Bool) → eq_by_cmp (slice_cmp nat_cmp) key (key_of_seg seg) ≡ b → HasPin key
      by_test true same = last_pin key ((bytes_eq-Decides (key_of_seg seg) key).0 (sym (tied key (key_of_seg seg)) ∙ same))
      by_test false other = (
        has.0,
        in_left kept (seg ∷ []) has.0 has.1,
        has.2,
        finite.get-insert nat_list_cmp_total pins (key_of_seg seg) (pin_of seg) key ∙ ap (λ (b : Bool). cond b (Some (pin_of seg)) (finite.get pins key)) other ∙ has.3,
      )

  pub pinned_next : ArePinned kept pins → ArePinned (kept ++ seg ∷ []) with_seg
  pinned_next are =
      both_so (λ x. HasPin (key_of_seg x)) kept (seg ∷ []) (all_then (λ x. HasPinOf kept pins (key_of_seg x)) (λ x. HasPin (key_of_seg x)) kept (λ x. next_pin (key_of_seg x)) are)
      (last_pin (key_of_seg seg) refl, tt)

pub pinned_all : (kind : Kind) (ss : List Segment) (kept : List KindSegment) (pins : PinMap) → ArePinned kept pins →
    ArePinned (kept ++ map (of_kind kind) ss) (with_pins kind ss pins)
pinned_all kind [] kept pins are = subst (λ (l : List KindSegment). ArePinned l pins) (sym (append-nil kept)) are
pinned_all kind (s ∷ ss) kept pins are =
    let more : PinMap = finite.insert pins (segment_key kind s) (pin_by kind s) in
    subst (λ (l : List KindSegment). ArePinned l (with_pins kind ss more)) (append_assoc kept (of_kind kind s ∷ []) (map (of_kind kind) ss))
    (pinned_all kind ss (kept ++ of_kind kind s ∷ []) more (pinned_next kept (of_kind kind s) pins are))

-- and so it is with those of containers
pub pinned_in : (cs : List containers.Contents) (kept : List KindSegment) (pins : PinMap) → ArePinned kept pins → ArePinned (kept ++ segments_in cs) (with_pins_of cs pins)
pinned_in [] kept pins are = subst (λ (l : List KindSegment). ArePinned l pins) (sym (append-nil kept)) are
pinned_in (c ∷ cs) kept pins are =
    let more : PinMap = with_pins c.kind c.segments pins in
    subst (λ (l : List KindSegment). ArePinned l (with_pins_of cs more)) (append_assoc kept (map (of_kind c.kind) c.segments) (segments_in cs))
    (pinned_in cs (kept ++ map (of_kind c.kind) c.segments) more (pinned_all c.kind c.segments kept pins are))

-- ---- twins

same_length : (m n : ℕ) → Some m ≡ Some n → m ≡ n
same_length m n is = cc

first_same : (a b : ℕ) (xs ys : List ℕ) → a ∷ xs ≡ b ∷ ys → a ≡ b
first_same a b xs ys is = cc

-- two pieces of one key, of which the index has one length, are one, or two nodes
two_pieces : (file : List ℕ) (p q : Piece) (places : PlaceMap) → IsPieceOf file p → IsPieceOf file q → piece_key p ≡ piece_key q →
    length_in places (piece_key p) ≡ Some (length (piece_bytes p))
    → length_in places (piece_key q) ≡ Some (length (piece_bytes q)) → pin_of (piece_segment p) ≢ pin_of (piece_segment q) → HasTwins file (piece_key p)
two_pieces file (Data a) (Data b) places here there same long other_long differ =
    absurd (differ (ap (λ (n : ℕ). let pin : Pin = record { level = 0; length = n } in pin)
    (same_length (length a) (length b) (sym long ∙ ap (length_in places) same ∙ other_long))))
two_pieces file (Data a) (Node m) places here there same long other_long differ = absurd (omega (arith, first_same 0 1 (sha256 a) (node_digest m) same))
two_pieces file (Node n) (Data b) places here there same long other_long differ = absurd (omega (arith, first_same 1 0 (node_digest n) (sha256 b) same))
two_pieces file (Node n) (Node m) places here there same long other_long differ =
    (n, m, here, there, λ is. differ (ap (λ (c : Contents). pin_of (piece_segment (Node c))) is), refl, same)

-- a child that is kept
abbrev pub IsKeptChild : List KindSegment → KeyPin → Type 0
IsKeptChild kept c = (y : KindSegment) × IsOneOf y kept × (key_of_seg y ≡ c.key) × (pin_of y ≡ c.pin)

module _ (file : List ℕ) (kept : List KindSegment) (pins : PinMap) (places : PlaceMap) (are : AreKept kept pins places) (pieces : AllByRecursion (HasPieceOf file) kept) where
  long_of : (y : KindSegment) → IsOneOf y kept → (p : Piece) → y ≡ piece_segment p → length_in places (piece_key p) ≡ Some (length (piece_bytes p))
  long_of y is p same =
      ap (length_in places) (sym (key_of_piece p) ∙ ap key_of_seg (sym same)) ∙ one_of (λ x. length_in places (key_of_seg x) ≡ Some (length x.segment.bytes)) kept y are.long is
      ∙ ap (λ (n : ℕ). Some n) (ap (λ (x : KindSegment). length x.segment.bytes) same ∙ long_as_piece p)

  two_kept : (y z : KindSegment) → IsOneOf y kept → IsOneOf z kept → key_of_seg z ≡ key_of_seg y → pin_of y ≢ pin_of z → HasTwins file (key_of_seg y)
  two_kept y z one other same differ =
      let p = one_of (HasPieceOf file) kept y pieces one in
      let q = one_of (HasPieceOf file) kept z pieces other in
      let is_key : key_of_seg y ≡ piece_key p.0 = ap key_of_seg p.2 ∙ key_of_piece p.0 in
      let is_other : key_of_seg z ≡ piece_key q.0 = ap key_of_seg q.2 ∙ key_of_piece q.0 in
      subst (HasTwins file) (sym is_key)
      (two_pieces file p.0 q.0 places p.1 q.1 (sym is_key ∙ sym same ∙ is_other) (long_of y one p.0 p.2) (long_of z other q.0 q.2)
      (λ is. differ (ap pin_of p.2 ∙ is ∙ ap pin_of (sym q.2))))

  -- what is kept, and whose key has another pin, has a twin
  pub twins : (y : KindSegment) → IsOneOf y kept → has_pin pins (key_of_seg y) (pin_of y) ≡ false → HasTwins file (key_of_seg y)
  twins y one unpinned =
      let z = one_of (λ x. HasPinOf kept pins (key_of_seg x)) kept y are.pinned one in
      two_kept y z.0 one z.1 z.2 (λ is. absurd (let both = sym (ap (is_pin (pin_of y)) (z.3 ∙ ap (λ (pin : Pin). Some pin) (sym is)) ∙ is_itself (pin_of y)) ∙ unpinned in cc))

  child_twins : (c : KeyPin) → IsKeptChild kept c → has_pin pins c.key c.pin ≡ false → HasTwins file c.key
  child_twins c has unpinned =
      subst (HasTwins file) has.2 (twins has.0 has.1 (ap (λ (pin : Pin). has_pin pins (key_of_seg has.0) pin) has.3 ∙ ap (λ (key : List ℕ). has_pin pins key c.pin) has.2
      ∙ unpinned))

  some_key : (a b : List ℕ) → Some a ≡ Some b → a ≡ b
  some_key a b is = cc

  -- so a segment whose children are kept, and are not pinned all, has a child with a twin
  pub unpinned_twins : (cs : List KeyPin) (key : List ℕ) → AllByRecursion (IsKeptChild kept) cs → first_not_in pins cs ≡ Some key → HasTwins file key
  unpinned_twins [] key all is = absurd cc
  unpinned_twins (c ∷ cs) key all is = by_test (has_pin pins c.key c.pin) refl (λ more. unpinned_twins cs key all.1 more)
    where
      by_test : (b : Bool) → has_pin pins c.key c.pin ≡ b → (first_not_in pins cs ≡ Some key → HasTwins file key) → HasTwins file key
      by_test true same further = further (sym (ap (λ (b : Bool). if b then first_not_in pins cs else Some c.key) same) ∙ is)
      by_test false other further =
          subst (HasTwins file) (some_key c.key key (sym (ap (λ (b : Bool). if b then first_not_in pins cs else Some c.key) other) ∙ is)) (child_twins c all.0 other)

  pub all_unpinned_twins : (kind : Kind) (ss : List Segment) (key : List ℕ) → AllByRecursion (λ s. AllByRecursion (IsKeptChild kept) (children_by kind s)) ss →
      first_unpinned_of kind ss pins ≡ Some key → HasTwins file key
  all_unpinned_twins kind [] key all is = absurd cc
  all_unpinned_twins kind (s ∷ ss) key all is = by_child (first_not_in pins (children_by kind s)) refl (λ more. all_unpinned_twins kind ss key all.1 more)
    where
      by_child : (o : Option (List ℕ)) → first_not_in pins (children_by kind s) ≡ o → (first_unpinned_of kind ss pins ≡ Some key → HasTwins file key) → HasTwins file key
      by_child None none further = further (sym (ap (λ (o : Option (List ℕ)). or_else o (first_unpinned_of kind ss pins)) none) ∙ is)
      by_child (Some k) found further =
          unpinned_twins (children_by kind s) key all.0 (found ∙ sym (ap (λ (o : Option (List ℕ)). or_else o (first_unpinned_of kind ss pins)) found) ∙ is)

  pub in_unpinned_twins : (cs : List containers.Contents) (key : List ℕ)
      → AllByRecursion (λ c. AllByRecursion (λ s. AllByRecursion (IsKeptChild kept) (children_by c.kind s)) c.segments) cs
      → first_unpinned_in cs pins ≡ Some key → HasTwins file key
  in_unpinned_twins [] key all is = absurd cc
  in_unpinned_twins (c ∷ cs) key all is = by_first (first_unpinned_of c.kind c.segments pins) refl (λ more. in_unpinned_twins cs key all.1 more)
    where
      by_first : (o : Option (List ℕ)) → first_unpinned_of c.kind c.segments pins ≡ o → (first_unpinned_in cs pins ≡ Some key → HasTwins file key) → HasTwins file key
      by_first None none further = further (sym (ap (λ (o : Option (List ℕ)). or_else o (first_unpinned_in cs pins)) none) ∙ is)
      by_first (Some k) found further =
          all_unpinned_twins c.kind c.segments key all.0 (found ∙ sym (ap (λ (o : Option (List ℕ)). or_else o (first_unpinned_in cs pins)) found) ∙ is)

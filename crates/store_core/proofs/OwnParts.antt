-- What the actor of a step is at afterwards is held.
use Rattle.store_core.proofs.Prelude.{◌≡◌, ◌≤◌, ℕ, zero, suc, List, [], ◌∷◌, length, Some, None, Result, Ok, Err, refl, sym, ◌∙◌, ap, subst, AllByRecursion, Root, PlaceMap, KindSegment, Top, Part, Idle, Writing, Answer, Refusal, SegmentsAhead, HasNoCollisions, ByteSet, IsIn, IsAmong, Stands, Files, Store, names_of, MOST_FILE, FitsFile, files_fit, root_of_tree, top_of, key_set, tree_keys, HasKey, IsPartialIndexOf, file_tree, contained, HoldsPart, HoldsRest, IndexesFiles, BeginRow, ClaimRow, AbortRow, OpenRow, ReadRow, EndRow, StatRow, UniqueRow, ListRow, IsNotGiven, CoreState}
use Rattle.std.specs.FinMap as finite
use Rattle.std.specs.Ordering.{nat_cmp}
use Rattle.std.specs.Cmp.Lexicographic.{slice_cmp}
use Rattle.merkle_file.specs.Tree.{Tree}
use Rattle.merkle_file.specs.Walk.{segments_in}
use Rattle.actor_parts.specs.declared.part.Part.TheVariants.{Reading}
use Rattle.actor_parts.specs.declared.step.Answer.TheVariants as answers
use Rattle.actor_parts.specs.Parts.{part_of, with_part}
use Rattle.refusals.specs.declared.refusal.Refusal.TheVariants as refusals
use Rattle.read_steps.specs.Readers as readers
use Rattle.read_steps.specs.Walking.{IsIndexed, IsHeldAnswer}
use Rattle.store_core.specs.Core.{IsGiven}

-- a part that takes a file says of which root, and what is to come
abbrev root_in : Root → Part → Root
root_in other (Reading reader) = reader.root
root_in other part = other

abbrev rest_in : Part → List Top
rest_in (Reading reader) = reader.cursor
rest_in part = []

pub same_reader : (a b : Root) (x y : List Top) → readers.reading a x ≡ readers.reading b y → (a ≡ b) × (x ≡ y)
same_reader a b x y same = (ap (root_in a) same, ap rest_in same)

-- ---- a list of parts

module _ (P : Part → Type 0) where
  pub all_part : (parts : List Part) (actor : ℕ) → P Idle → AllByRecursion P parts → P (part_of parts actor)
  unfolding part_of
  all_part [] actor idle all = idle
  all_part (p ∷ ps) zero idle all = all.0
  all_part (p ∷ ps) (suc actor) idle all = all_part ps actor idle all.1

  pub own_set : (parts : List Part) (actor : ℕ) (part : Part) → P Idle → P part → P (part_of (with_part parts actor part) actor)
  unfolding part_of with_part
  own_set [] actor part idle is = idle
  own_set (p ∷ ps) zero part idle is = is
  own_set (p ∷ ps) (suc actor) part idle is = own_set ps actor part idle is

  pub all_own : (parts : List Part) (actor : ℕ) (part : Part) → AllByRecursion P parts → P (part_of (with_part parts actor part) actor)
      → AllByRecursion P (with_part parts actor part)
  unfolding part_of with_part
  all_own [] actor part all is = all
  all_own (p ∷ ps) zero part all is = (is, all.1)
  all_own (p ∷ ps) (suc actor) part all is = (all.0, all_own ps actor part all.1 is)

-- ---- a step that changes nothing of the store

module _ (among : ByteSet) (store : Store) (files : Files) (image : List ℕ) (places : PlaceMap) (actor : ℕ) (buf : List ℕ) (old new : CoreState)
    (told : old.disk.content ≡ Some image) (known : old.known ≡ Some places) (index : IsPartialIndexOf store.held places) (files_indexed : IndexesFiles places files)
    (names : old.tables.names ≡ names_of store)
    (stands : Stands (IsIn among) store files image) (distinct : HasNoCollisions (IsIn among)) (hold : AllByRecursion (HoldsPart (HasKey places) store.held image) old.parts) where
  abbrev Holds : Part → Type 0
  Holds part = HoldsPart (HasKey places) store.held image part

  abbrev Own : Type 0
  Own = Holds (part_of new.parts actor)

  own_old : Holds (part_of old.parts actor)
  own_old = all_part Holds old.parts actor tt hold

  own_same : new.parts ≡ old.parts → Own
  own_same same = subst (λ (parts : List Part). Holds (part_of parts actor)) (sym same) own_old

  own_one : (part : Part) → new.parts ≡ with_part old.parts actor part → Holds part → Own
  own_one part is holds = subst (λ (parts : List Part). Holds (part_of parts actor)) (sym is) (own_set Holds old.parts actor part tt holds)

  no_pins : Holds (Writing finite.empty)
  no_pins = λ key pin has. absurd (let none = sym (finite.get-empty (slice_cmp nat_cmp) key) ∙ has in cc)

  pub own_begin : (answer : Result Answer Refusal) → BeginRow actor answer old new → Own
  own_begin (Ok answers.Begun) row = own_one (Writing finite.empty) row.1 no_pins
  own_begin (Err refusal) row = own_same row.1
  own_begin answer row = absurd row

  pub own_claim : (seg : KindSegment) (answer : Result Answer Refusal) → IsAmong (IsIn among) seg.kind seg.segment.bytes → ClaimRow seg actor answer old new → Own
  own_claim seg (Ok answers.Held) is row = row.kept among store files image places told known index stands distinct is own_old
  own_claim seg (Ok answers.Absent) is row = own_same row.claimed.parts_are
  own_claim seg (Err refusal) is row = own_same row.1
  own_claim seg answer is row = absurd row

  pub own_abort : (answer : Result Answer Refusal) → AbortRow actor answer old new → Own
  own_abort (Ok answers.Aborted) row = own_one Idle row.1 tt
  own_abort (Err refusal) row = own_same row.1
  own_abort answer row = absurd row

  pub own_open : (name : List ℕ) (answer : Result Answer Refusal) → OpenRow name actor answer old new → Own
  own_open name (Ok (answers.Opened count)) row =
      let file = row.file store files image names stands.holds in
      let few : length file.file.bytes ≤ MOST_FILE = subst FitsFile file.file.filed (files_fit store files image stands.holds name) in
      own_one (readers.reading file.root file.ahead) file.parts_are (record {
        whole = file_tree file.file.bytes;
        right = file.file.held_ahead.trees.each;
        top_is = ap top_of (file.file.root_is ∙ root_of_tree file.file.bytes few);
        is_held = record { tree_is_held = file.file.tree_is_held; count = λ key there. files_indexed key (name, (file.file.bytes, (file.file.filed, there))) };
        trees = _;
        ahead = file.file.held_ahead.trees;
        are_held = file.file.held_ahead.each;
      })
  own_open name (Err refusal) row = own_same row.1
  own_open name answer row = absurd row

  -- what is to come of the file that it takes
  abbrev keys_of : Tree (List ℕ) → ByteSet
  keys_of t = key_set (tree_keys t)

  abbrev Rest : Root → List Top → Type 0
  Rest root ahead = HoldsRest (HasKey places) store.held image (record { root = root; cursor = ahead })

  ahead_is : (root : Root) (ahead : List Top) → part_of old.parts actor ≡ readers.reading root ahead → Rest root ahead
  ahead_is root ahead is = subst Holds is own_old

  indexed : (root : Root) (ahead : List Top) (rest : Rest root ahead) → IsIndexed (keys_of rest.whole) store.held old.known old.disk.content image
  indexed root ahead rest = record {
    told = told;
    index = places;
    index_known = known;
    index_is_newest = index;
    has = λ key there. rest.is_held.count key (contained key (tree_keys rest.whole) there);
  }

  some_ahead : (root : Root) (ahead : List Top) (rest : Rest root ahead) → SegmentsAhead (keys_of rest.whole) store.held image ahead (segments_in rest.trees)
  some_ahead root ahead rest = record { trees = rest.trees; held_ahead = record { trees = rest.ahead; each = rest.are_held }; segments_are = refl }

  -- another rest of the same file
  rest_on : (root other : Root) (was ahead : List Top) (rest : Rest root was) (segments : List (List ℕ)) → root ≡ other
      → SegmentsAhead (keys_of rest.whole) store.held image ahead segments → Holds (readers.reading other ahead)
  rest_on root other was ahead rest segments same is = record {
    whole = rest.whole;
    right = rest.right;
    top_is = ap top_of (sym same) ∙ rest.top_is;
    is_held = rest.is_held;
    trees = is.trees;
    ahead = is.held_ahead.trees;
    are_held = is.held_ahead.each;
  }

  same_root : (a b : Root) (x y : List Top) → part_of old.parts actor ≡ readers.reading a x → part_of old.parts actor ≡ readers.reading b y → a ≡ b
  same_root a b x y first second = (same_reader a b x y (sym first ∙ second)).0

  own_given : (count : ℕ) → IsGiven (Some count) buf actor old new → Own
  own_given count row =
      let before = row.next.goes_on in
      let rest = ahead_is before.root row.next.was before.part_is in
      let held = row.held before.root row.next.was (keys_of rest.whole) store.held image (segments_in rest.trees) before.part_is (indexed before.root row.next.was rest)
      (some_ahead before.root row.next.was rest) in
      own_one (readers.reading held.goes_on.root held.rest) held.goes_on.parts_are
      (rest_on before.root held.goes_on.root row.next.was held.rest rest held.given.others
      (same_root before.root held.goes_on.root row.next.was row.next.was before.part_is held.goes_on.part_is) held.given.ahead)

  own_end : IsGiven None buf actor old new → Own
  own_end row =
      let before = row.next.goes_on in
      let rest = ahead_is before.root row.next.was before.part_is in
      own_one (readers.reading before.root row.next.rest) before.parts_are
      (rest_on before.root before.root row.next.was row.next.rest rest [] refl
      (record { trees = []; held_ahead = record { trees = record { tops = row.next.given.1; each = tt }; each = tt }; segments_are = refl }))

  -- why a read is refused on its way, where what is to come is held
  pub stuck_held : (refusal : Refusal) → IsNotGiven refusal buf actor old new → readers.IsStuck old.known old.breaks old.disk new.disk actor old.parts new.parts refusal
      → (counts : ByteSet) × ((rest : List Top) × ((segments : List (List ℕ)) × IsHeldAnswer counts store.held image rest segments buf (Err refusal)))
  stuck_held refusal row cause =
      let before = cause.goes_on in
      let rest = ahead_is before.root cause.was before.part_is in
      let held = row.held before.root cause.was (keys_of rest.whole) store.held image (segments_in rest.trees) before.part_is (indexed before.root cause.was rest)
      (some_ahead before.root cause.was rest) in
      (keys_of rest.whole, (held.rest, (segments_in rest.trees, held.given)))

  own_stuck : (refusal : Refusal) → IsNotGiven refusal buf actor old new → Own
  own_stuck (refusals.WrongPart kind) row = own_same row.cause.same
  own_stuck refusals.DiskRead row =
      let before = row.cause.goes_on in
      let rest = ahead_is before.root row.cause.was before.part_is in
      let held = row.held before.root row.cause.was (keys_of rest.whole) store.held image (segments_in rest.trees) before.part_is (indexed before.root row.cause.was rest)
      (some_ahead before.root row.cause.was rest) in
      own_one (readers.reading held.goes_on.root held.rest) held.goes_on.parts_are
      (rest_on before.root held.goes_on.root row.cause.was held.rest rest (segments_in rest.trees)
      (same_root before.root held.goes_on.root row.cause.was row.cause.was before.part_is held.goes_on.part_is) held.given)
  own_stuck refusal row = absurd (stuck_held refusal row row.cause).1.1.1

  pub own_read : (answer : Result Answer Refusal) → ReadRow actor answer buf old new → Own
  own_read (Ok (answers.Bytes count)) row = own_given count row
  own_read (Ok answers.End) row = own_end row
  own_read (Err refusal) row = own_stuck refusal row
  own_read answer row = absurd row

  pub own_drop : (answer : Result Answer Refusal) → EndRow actor answer old new → Own
  own_drop (Ok answers.Dropped) row = own_one Idle row.parts_are tt
  own_drop (Err (refusals.WrongPart kind)) row = own_same row.same
  own_drop answer row = absurd row

  pub own_stat : (answer : Result Answer Refusal) → StatRow answer old new → Own
  own_stat (Ok answer) row = own_same row.1
  own_stat (Err refusal) row = absurd row

  pub own_unique : (answer : Result Answer Refusal) → UniqueRow answer old new → Own
  own_unique (Ok (answers.Unique segments bytes)) row = own_same row.parts_are
  own_unique (Err refusal) row = own_same row.parts_are
  own_unique answer row = absurd row

  pub own_list : (answer : Result Answer Refusal) → ListRow answer old new → Own
  own_list (Ok (answers.Listed listed)) row = own_same row.1
  own_list (Err refusals.Memory) row = own_same row
  own_list answer row = absurd row

  pub own_refused : new.parts ≡ old.parts → Own
  own_refused = own_same

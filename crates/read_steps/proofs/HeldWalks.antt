-- A walk down trees that are held: what is read of each is what it is.
use Rattle.std.proofs.Common.{◌≡◌, inl, inr, ℕ, ◌+◌, List, [], ◌∷◌, ◌++◌, map, drop, take, Option, Some, None, Result, Ok, Err, IfOk, IfErr, option_map, refl, sym, ◌∙◌, ap, subst, append_assoc, arith}
use Rattle.std.specs.List.{AllByRecursion, Contains, flat_map}
use Rattle.std.proofs.lemmas.List.Concat.{flat_map-cons}
use Rattle.std.proofs.lemmas.List.Elements.{Contains-append_left, Contains-append_right}
use Rattle.sha2.specs.Sha256.{sha256}
use Rattle.base_model.specs.Bytes.{key_of, range}
use Rattle.disk_format.specs.declared.why.Why.{Why}
use Rattle.disk_format.specs.declared.why.Why.TheVariants.{Digest, Field}
use Rattle.disk_format.specs.Layout.{data_at}
use Rattle.dd_disk.specs.View.{DiskView}
use Rattle.dd_disk.proofs.Shows.{shown_content}
use Rattle.container_meta.specs.declared.place.Place.{Place}
use Rattle.container_meta.specs.Places.{PlaceMap}
use Rattle.container_meta.specs.Spelling.{HeaderValue}
use Rattle.merkle_file.specs.declared.top.Top.{Top}
use Rattle.merkle_file.specs.Node.{Contents, IsNode, spelling, node_digest}
use Rattle.merkle_file.specs.Reading.{contents_in, any_node}
use Rattle.merkle_file.specs.Tree as tree
use Rattle.merkle_file.specs.Tree.{Tree, Trees, of_segment, root_of, leaves}
use Rattle.merkle_file.specs.Walk.{contents_of, list_of, opened, segments_in, asked_for}
use Rattle.merkle_file.proofs.Nodes.{node_again}
use Rattle.merkle_file.proofs.Unfolding.{walk_law}
use Rattle.merkle_file.proofs.Walking.{is_within, may_ask}
use Rattle.refusals.specs.declared.refusal.Refusal.{Refusal}
use Rattle.refusals.specs.declared.refusal.Refusal.TheVariants.{DiskRead, Corrupt, Missing, Damaged}
use Rattle.store_model.specs.Collisions.{ByteSet, IsIn}
use Rattle.store_model.specs.Reserve.{HoldsCounted, tree_keys, keys_below}
use Rattle.store_model.specs.Slots.{Copy, HasKey}
use Rattle.store_model.specs.Trees.{HasNewest, HoldsTrees, bytes_at, leaf_key, node_key}
use Rattle.store_model.proofs.Copies.{some_same}
use Rattle.store_model.proofs.FreedTrees.{in_head, in_tail}
use Rattle.read_steps.specs.Walking.{IsPlaceOf, WasRead, IsNodeRead, Opened, Walked, Gives, IsAnswer, IsWrong, IsTopRefusal, IsNextRefusal, IsWalkRefusal, IsIndexed, HeldAhead, SegmentsAhead, GivesFirst, IsHeldAnswer, top_key}
use Rattle.read_steps.proofs.Walks.{key_of_node}

module _ (counts : ByteSet) (held : List (Option HeaderValue)) (known : Option PlaceMap) (old new : DiskView) (image : List ℕ)
    (indexed : IsIndexed counts held known old.content image) where
  -- ---- one key

  -- the place that the index has for a key is that of its newest copy
  place_newest : (key : List ℕ) (level : ℕ) (bytes : List ℕ) (has : HasNewest held key level bytes image) (place : Place) → IsPlaceOf known key place → place ≡ has.copy.place
  place_newest key level bytes has place is =
      some_same place has.copy.place
      (sym (indexed.index_is_newest key place (is indexed.index indexed.index_known)) ∙ ap (option_map (λ (c : Copy). c.place)) has.copy_is)

  -- what was read of it is the copy
  read_newest : (key : List ℕ) (level : ℕ) (bytes read : List ℕ) → HasNewest held key level bytes image → WasRead known old new key read → read ≡ bytes
  read_newest key level bytes read has was =
      sym (shown_content old new (λ (c : List ℕ). bytes_at was.place c ≡ read) image was.copy.there indexed.told)
      ∙ ap (λ (p : Place). bytes_at p image) (place_newest key level bytes has was.place was.copy.place_is) ∙ has.bytes_are

  -- ---- what comes first

  -- the tree that comes first has a newest copy, which is as it was named
  record HasFirst (t : Top) : Type 0 where
    level : ℕ
    bytes : List ℕ
    has : HasNewest held (top_key t) level bytes image
    digest : sha256 bytes ≡ t.digest
    right : (why : Why) → IsWrong t bytes why → ⊥
    indexed_key : HasKey indexed.index (top_key t)

  first_leaf : (segment : List ℕ) → HoldsCounted (IsIn counts) held image (tree.Leaf segment) → HasFirst (root_of of_segment (tree.Leaf segment))
  first_leaf segment holds = record {
    level = 0;
    bytes = segment;
    has = holds.tree_is_held;
    digest = refl;
    right = not_wrong;
    indexed_key = indexed.has (leaf_key segment) (holds.count (leaf_key segment) (in_head (leaf_key segment) []));
  }
    where
      not_wrong : (why : Why) → IsWrong (root_of of_segment (tree.Leaf segment)) segment why → ⊥
      not_wrong (Field offset got) (inl node) = omega (arith, node.0)
      not_wrong (Field offset got) (inr leaf) = leaf.3 leaf.2
      not_wrong (Digest want got) wrong = absurd wrong

  first_node : (level : ℕ) (ts : Trees (List ℕ)) → IsNode (contents_of level ts) → HoldsCounted (IsIn counts) held image (tree.Node level ts) →
      HasFirst (root_of of_segment (tree.Node level ts))
  first_node level ts right holds =
      let key : List ℕ = node_key (contents_of level ts) in
      let key_is : top_key (root_of of_segment (tree.Node level ts)) ≡ key = key_of_node (root_of of_segment (tree.Node level ts)) right.above in
      record {
        level = level;
        bytes = spelling (contents_of level ts);
        has = subst (λ (k : List ℕ). HasNewest held k level (spelling (contents_of level ts)) image) (sym key_is) holds.tree_is_held.0;
        digest = refl;
        right = not_wrong;
        indexed_key = subst (HasKey indexed.index) (sym key_is) (indexed.has key (holds.count key (in_head key (keys_below ts))));
      }
    where
      n : Contents
      n = contents_of level ts

      top : Top
      top = root_of of_segment (tree.Node level ts)

      not_wrong : (why : Why) → IsWrong top (spelling n) why → ⊥
      not_wrong (Field offset got) (inl node) =
          absurd (let none = (node_again (asked_for top) n (may_ask top right.above) right (is_within top n right (record { level = refl; length = refl }))).0 in
          let some = sym none ∙ node.1 in cc)
      not_wrong (Field offset got) (inr leaf) = absurd (omega (arith, leaf.0, right.above))
      not_wrong (Digest want got) wrong = absurd wrong

  pub first_same : (t u : Top) (ts us : List Top) → t ∷ ts ≡ u ∷ us → t ≡ u
  first_same t u ts us same = cc

  first_of : (t : Top) (tops : List Top) (ts : List (Tree (List ℕ))) → HeldAhead counts held image (t ∷ tops) ts → HasFirst t
  first_of t tops [] ahead = absurd (let wrong : t ∷ tops ≡ [] = ahead.trees.tops in cc)
  first_of t tops (tree.Empty ∷ us) ahead = absurd ahead.trees.each.0
  first_of t tops (tree.Leaf segment ∷ us) ahead =
      subst HasFirst (sym (first_same t _ tops _ ahead.trees.tops)) (first_leaf segment ahead.each.0)
  first_of t tops (tree.Node level ts ∷ us) ahead =
      subst HasFirst (sym (first_same t _ tops _ ahead.trees.tops)) (first_node level ts ahead.trees.each.0.0 ahead.each.0)

  -- so it is never refused but for a read that failed
  module _ (breaks : ℕ → Why → List ℕ → Type 0) where
    never_missing : (t : Top) → HasFirst t → (key : List ℕ) → IsTopRefusal known breaks old new t (Missing key) → ⊥
    never_missing t first key cause =
        let none = sym (cause.1 indexed.index indexed.index_known) ∙ first.indexed_key.1 in cc

    never_corrupt : (t : Top) → HasFirst t → (slot offset count : ℕ) (want got : List ℕ) → IsTopRefusal known breaks old new t (Corrupt slot offset count want got) → ⊥
    never_corrupt t first slot offset count want got cause =
        let place = cause.placed.place in
        let is : place ≡ first.has.copy.place = place_newest (top_key t) first.level first.bytes first.has place cause.placed.place_is in
        let there : range (data_at slot + offset) count image ≡ cause.found.bytes =
        shown_content old new (λ (c : List ℕ). range (data_at slot + offset) count c ≡ cause.found.bytes) image cause.found.there indexed.told in
        let at : data_at slot + offset ≡ data_at place.slot + place.offset = ap (λ (s : ℕ). data_at s + offset) cause.placed.slot_is ∙ ap (λ (o : ℕ). data_at place.slot + o)
        cause.placed.offset_is in
        let same : range (data_at slot + offset) count image ≡ bytes_at place image =
        ap (λ (p : ℕ). range p count image) at ∙ ap (λ (n : ℕ). range (data_at place.slot + place.offset) n image) cause.placed.count_is in
        let found : cause.found.bytes ≡ first.bytes = sym there ∙ same ∙ ap (λ (p : Place). bytes_at p image) is ∙ first.has.bytes_are in
        cause.differ (cause.want_is ∙ sym first.digest ∙ ap sha256 (sym found) ∙ cause.found.digest_is)

    never_damaged : (t : Top) → HasFirst t → (at : ℕ) (why : Why) → IsTopRefusal known breaks old new t (Damaged at why) → ⊥
    never_damaged t first at why (inl damage) = let wrong = sym damage.unknown ∙ indexed.index_known in cc
    never_damaged t first at why (inr wrong) =
        first.right why (subst (λ (bytes : List ℕ). IsWrong t bytes why) (read_newest (top_key t) first.level first.bytes wrong.bytes first.has wrong.was_read) wrong.wrong)

    read_failed : (t : Top) → HasFirst t → (refusal : Refusal) → IsTopRefusal known breaks old new t refusal → refusal ≡ DiskRead
    read_failed t first DiskRead cause = refl
    read_failed t first (Missing key) cause = absurd (never_missing t first key cause)
    read_failed t first (Corrupt slot offset count want got) cause = absurd (never_corrupt t first slot offset count want got cause)
    read_failed t first (Damaged at why) cause = absurd (never_damaged t first at why cause)
    read_failed t first refusal cause = absurd cause

    pub next_failed : (ahead : List Top) (ts : List (Tree (List ℕ))) (refusal : Refusal) → HeldAhead counts held image ahead ts →
        IsNextRefusal known breaks old new ahead refusal → refusal ≡ DiskRead
    next_failed [] ts refusal ahead cause = absurd cause
    next_failed (t ∷ tops) ts refusal ahead cause = read_failed t (first_of t tops ts ahead) refusal cause

  -- ---- nodes that are opened

  all_held : (ts : Trees (List ℕ)) (others : List (Tree (List ℕ))) → HoldsTrees held image ts → ((key : List ℕ) → Contains (keys_below ts) key → IsIn counts key)
      → AllByRecursion (HoldsCounted (IsIn counts) held image) others → AllByRecursion (HoldsCounted (IsIn counts) held image) (list_of ts ++ others)
  all_held tree.NoTree others here count rest = rest
  all_held (tree.Then t ts) others here count rest = (
    record { tree_is_held = here.0; count = λ key there. count key (Contains-append_left (tree_keys t) (keys_below ts) key there) },
    all_held ts others here.1 (λ key there. count key (Contains-append_right (tree_keys t) (keys_below ts) key there)) rest,
  )

  right_any : (n : Contents) → IsNode n → contents_in (spelling n) ≡ n
  right_any n right =
      (node_again any_node n (record { lowest = omega arith; greatest = omega arith; most = omega arith }) right
      (record { lowest = right.above; greatest = right.level; least = omega arith; most = right.total })).1

  keys_opened : (ts : Trees (List ℕ)) (us : List (Tree (List ℕ))) → flat_map tree_keys (list_of ts ++ us) ≡ keys_below ts ++ flat_map tree_keys us
  keys_opened tree.NoTree us = refl
  keys_opened (tree.Then t ts) us =
      flat_map-cons tree_keys t (list_of ts ++ us) ∙ ap (λ (keys : List (List ℕ)). tree_keys t ++ keys) (keys_opened ts us)
      ∙ sym (append_assoc (tree_keys t) (keys_below ts) (flat_map tree_keys us))

  pub open_held : (t : Top) (tops : List Top) (bytes : List ℕ) (ts : List (Tree (List ℕ))) → IsNodeRead (WasRead known old new) (t ∷ tops) bytes →
      HeldAhead counts held image (t ∷ tops) ts
      → (us : List (Tree (List ℕ))) × HeldAhead counts held image (opened (contents_in bytes) ++ drop 1 (t ∷ tops)) us × (segments_in us ≡ segments_in ts)
      × (flat_map tree_keys ts ≡ top_key t ∷ flat_map tree_keys us)
  open_held t tops bytes [] read ahead = absurd (let wrong : t ∷ tops ≡ [] = ahead.trees.tops in cc)
  open_held t tops bytes (tree.Empty ∷ us) read ahead = absurd ahead.trees.each.0
  open_held t tops bytes (tree.Leaf segment ∷ us) read ahead =
      absurd (omega (arith, read.0, ap (λ (u : Top). u.level) (first_same t _ tops _ ahead.trees.tops)))
  open_held t tops bytes (tree.Node level ts ∷ us) read ahead =
      let n : Contents = contents_of level ts in
      let digest : t.digest ≡ node_digest n = ap (λ (u : Top). u.digest) (first_same t _ tops _ ahead.trees.tops) in
      let was : WasRead known old new (node_key n) bytes = subst (λ (d : List ℕ). WasRead known old new (1 ∷ d) bytes) digest read.1 in
      let is : bytes ≡ spelling n = read_newest (node_key n) level (spelling n) bytes ahead.each.0.tree_is_held.0 was in
      let law = walk_law (t ∷ tops) (opened (contents_in bytes) ++ drop 1 (t ∷ tops)) bytes level ts us (Ok tt) (λ m right named e. (refl, ap contents_in e ∙ right_any m right))
      refl ahead.trees is in
      let key : node_key n ≡ top_key t = ap (λ (d : List ℕ). 1 ∷ d) (sym digest) ∙ sym (key_of_node t read.0) in
      let keys : flat_map tree_keys (tree.Node level ts ∷ us) ≡ top_key t ∷ flat_map tree_keys (list_of ts ++ us) =
      flat_map-cons tree_keys (tree.Node level ts) us ∙ ap (λ (rest : List (List ℕ)). node_key n ∷ rest) (sym (keys_opened ts us))
      ∙ ap (λ (k : List ℕ). k ∷ flat_map tree_keys (list_of ts ++ us)) key in (
        list_of ts ++ us,
        record {
          trees = law.1;
          each = all_held ts us ahead.each.0.tree_is_held.1 (λ k there. ahead.each.0.count k (in_tail (node_key n) k (keys_below ts) there))
              ahead.each.1;
        },
        law.2,
        keys,
      )

  opened_held : (nodes : List (List ℕ)) (before after : List Top) (ts : List (Tree (List ℕ))) → Opened (WasRead known old new) nodes before after →
      HeldAhead counts held image before ts
      → (us : List (Tree (List ℕ))) × HeldAhead counts held image after us × (segments_in us ≡ segments_in ts)
  opened_held [] before after ts way ahead = (ts, subst (λ (tops : List Top). HeldAhead counts held image tops ts) (sym way) ahead, refl)
  opened_held (b ∷ bs) [] after ts way ahead = absurd way.0
  opened_held (b ∷ bs) (t ∷ tops) after ts way ahead =
      let one = open_held t tops b ts way.0 ahead in
      let rest = opened_held bs (opened (contents_in b) ++ drop 1 (t ∷ tops)) after one.0 way.1 one.1 in
      (rest.0, rest.1, rest.2 ∙ one.2)

  -- the segments to come stay
  pub walked_held : (before after : List Top) (segments : List (List ℕ)) → Walked (WasRead known old new) before after → SegmentsAhead counts held image before segments →
      SegmentsAhead counts held image after segments
  walked_held before after segments walked ahead =
      let all = opened_held walked.nodes before after ahead.trees walked.way ahead.held_ahead in
      record { trees = all.0; held_ahead = all.1; segments_are = ahead.segments_are ∙ sym all.2 }

  -- ---- what is answered

  none_ahead : (ts : List (Tree (List ℕ))) → HeldAhead counts held image [] ts → segments_in ts ≡ []
  none_ahead [] ahead = refl
  none_ahead (t ∷ ts) ahead = absurd (let wrong : [] ≡ root_of of_segment t ∷ map (root_of of_segment) ts = ahead.trees.tops in cc)

  pub rest_same : (t u : Top) (ts us : List Top) → t ∷ ts ≡ u ∷ us → ts ≡ us
  rest_same t u ts us same = cc

  leaf_given : (t : Top) (tops : List Top) (bytes : List ℕ) (ts : List (Tree (List ℕ))) → t.level ≡ 0 → WasRead known old new (key_of 0 t.digest) bytes →
      HeldAhead counts held image (t ∷ tops) ts
      → GivesFirst counts held image tops (segments_in ts) bytes
  leaf_given t tops bytes [] flat was ahead = absurd (let wrong : t ∷ tops ≡ [] = ahead.trees.tops in cc)
  leaf_given t tops bytes (tree.Empty ∷ us) flat was ahead = absurd ahead.trees.each.0
  leaf_given t tops bytes (tree.Leaf segment ∷ us) flat was ahead =
      let digest : t.digest ≡ sha256 segment = ap (λ (u : Top). u.digest) (first_same t _ tops _ ahead.trees.tops) in
      let is : bytes ≡ segment = read_newest (leaf_key segment) 0 segment bytes ahead.each.0.tree_is_held (subst (λ (d : List ℕ). WasRead known old new (0 ∷ d) bytes) digest was)
      in
      record {
        others = segments_in us;
        segments_are = flat_map-cons leaves (tree.Leaf segment) us ∙ ap (λ (s : List ℕ). s ∷ segments_in us) (sym is);
        ahead = record {
          trees = us;
          held_ahead = record { trees = record { tops = rest_same t _ tops _ ahead.trees.tops; each = ahead.trees.each.1 }; each = ahead.each.1 };
          segments_are = refl;
        };
      }
  leaf_given t tops bytes (tree.Node level ts ∷ us) flat was ahead =
      absurd (omega (arith, flat, ap (λ (u : Top). u.level) (first_same t _ tops _ ahead.trees.tops), ahead.trees.each.0.0.above))

  pub given_held : (before after : List Top) (count : ℕ) (bytes : List ℕ) (segments : List (List ℕ)) → Gives (WasRead known old new) before after count bytes →
      SegmentsAhead counts held image before segments
      → GivesFirst counts held image after segments bytes
  given_held before after count bytes segments gives ahead =
      let then = walked_held before (gives.next ∷ after) segments gives.walked ahead in
      subst (λ (ss : List (List ℕ)). GivesFirst counts held image after ss bytes) (sym then.segments_are)
      (leaf_given gives.next after bytes then.trees gives.leaf gives.read.was_read then.held_ahead)

  pub ended_held : (before after : List Top) (segments : List (List ℕ)) → before ≡ [] → SegmentsAhead counts held image before segments → segments ≡ []
  ended_held before after segments end ahead =
      ahead.segments_are ∙ none_ahead ahead.trees (subst (λ (tops : List Top). HeldAhead counts held image tops ahead.trees) end ahead.held_ahead)

  pub refused_held : (breaks : ℕ → Why → List ℕ → Type 0) (before after : List Top) (segments : List (List ℕ)) (buf : List ℕ) (refusal : Refusal) →
      IsWalkRefusal known breaks old new before after refusal
      → SegmentsAhead counts held image before segments → IsHeldAnswer counts held image after segments buf (Err refusal)
  refused_held breaks before after segments buf refusal refused ahead =
      let then = walked_held before after segments refused.walked ahead in
      subst (λ (e : Refusal). IsHeldAnswer counts held image after segments buf (Err e)) (sym (next_failed breaks after then.trees refusal then.held_ahead refused.cause)) then

  pub answer_held : (breaks : ℕ → Why → List ℕ → Type 0) (before after : List Top) (segments : List (List ℕ)) (buf : List ℕ) (result : Result (Option ℕ) Refusal)
      → IfOk result (IsAnswer (WasRead known old new) before after buf) → IfErr result (IsWalkRefusal known breaks old new before after) →
      SegmentsAhead counts held image before segments
      → IsHeldAnswer counts held image after segments buf result
  answer_held breaks before after segments buf (Ok None) ok err ahead = ended_held before after segments ok.0 ahead
  answer_held breaks before after segments buf (Ok (Some count)) ok err ahead = given_held before after count (take count buf) segments ok ahead
  answer_held breaks before after segments buf (Err refusal) ok err ahead = refused_held breaks before after segments buf refusal err ahead

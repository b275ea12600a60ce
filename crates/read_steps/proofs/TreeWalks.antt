-- The trees of names, as a walk that notes keys goes on.
use Rattle.std.proofs.Common.{◌≡◌, ◌⊎◌, inl, inr, ℕ, zero, suc, ◌+◌, ◌<◌, ◌≤◌, Bool, true, false, IsTrue, List, [], ◌∷◌, ◌++◌, length, map, take, drop, get_or, Option, Some, None, Result, Ok, refl, sym, ◌∙◌, ap, subst, append_assoc, arith}
use Rattle.std.specs.Cmp.Lexicographic.{slice_cmp}
use Rattle.std.specs.FinMap as finite
use Rattle.std.specs.List.{Contains}
use Rattle.std.specs.Ordering.{nat_cmp}
use Rattle.std.proofs.lemmas.List.{append-nil, drop_more, length-map, take-append-drop, take_more}
use Rattle.std.proofs.lemmas.List.Elements.{Contains-append_left, Contains-push}
use Rattle.container_meta.specs.Places.{PlaceMap}
use Rattle.container_meta.specs.Spelling.{HeaderValue}
use Rattle.container_meta.specs.declared.place.Place.{Place}
use Rattle.dd_disk.proofs.Ended.{reads_none, reads_on}
use Rattle.dd_disk.specs.Ending.{Done, Reads}
use Rattle.dd_disk.specs.View.{DiskView, OnlyReads}
use Rattle.merkle_file.specs.Tree.{of_segment, root_of}
use Rattle.merkle_file.specs.Walk.{start_of}
use Rattle.merkle_file.specs.declared.top.Top.{Top}
use Rattle.namespace.specs.Listing.{NamedRoot, listed_value}
use Rattle.namespace.specs.declared.listing.ListedName.{ListedName}
use Rattle.refusals.specs.declared.refusal.Refusal.{Refusal}
use Rattle.refusals.specs.declared.refusal.Refusal.TheVariants.{Memory}
use Rattle.segment_index.specs.Places.{IsPlace}
use Rattle.store_model.specs.Collisions.{ByteSet}
use Rattle.store_state.specs.Refused.{fails}
use Rattle.read_steps.specs.Opening.{top_of}
use Rattle.read_steps.specs.Passed.{HasNode, IsSized, NodeSet, NotesNext, WasNoted, node_key}
use Rattle.read_steps.specs.Trees.{AllHeld, AreAmong, IsHeld, IsStepsRefusal, IsStuckAmong, IsStuckOn, IsTreesRefusal, NotesKeys, NotesTrees, TakesStep, TakesSteps, WalkState, Walks, WalksRoots, WhereHeld, key_ahead, walk_state}
use Rattle.read_steps.proofs.Walked.{AreWalked, IsTreeRefusal, IsWalked, IsWalking, IsWalkingAll, ahead_of}
use Rattle.read_steps.specs.Visiting.{HasPlace, IsVisited, IsVisitRefusal, Visits, VisitsPlaced, VisitsRoots, VisitsTo}
use Rattle.read_steps.specs.Walking.{IsIndexed, WasRead, top_key}
use Rattle.read_steps.proofs.Named.{among_more}
use Rattle.read_steps.proofs.Visited.{roots_more, roots_wider, visits_more, visits_wider}
use Rattle.read_steps.proofs.Walks.{placed_since, read_since, read_until, visit_since}
use Rattle.read_steps.proofs.Whole.{NotBelow, beside, complete, head_is, tail_is, visited_cases, visited_left, visited_right}

-- ---- keys among others

both_among : (a b all : List Top) → AreAmong a all → AreAmong b all → AreAmong (a ++ b) all
both_among a b all one other key is = elim (visited_cases a b key is) [
  | inl first ↦ one key first
  | inr second ↦ other key second
]

beside_among : (a b some all : List Top) → AreAmong a some → AreAmong b all → AreAmong (a ++ b) (some ++ all)
beside_among a b some all one other =
    both_among a b (some ++ all) (λ key is. visited_left some all key (one key is)) (λ key is. visited_right some all key (other key is))

none_among : (all : List Top) → AreAmong [] all
none_among all key is = absurd (let none : Contains [] key = is in omega (arith, none.1))

-- ---- the walk of a tree

pub indexed_on : (first i : PlaceMap) (old mid : DiskView) (counts : ByteSet) (held : List (Option HeaderValue)) (image : List ℕ) → i ≡ first → OnlyReads old mid →
    IsIndexed counts held (Some first) old.content image
    → IsIndexed counts held (Some i) mid.content image
indexed_on first i old mid counts held image is reads indexed = record {
  told = reads.content_is ∙ indexed.told;
  index = indexed.index;
  index_known = ap Some is ∙ indexed.index_known;
  index_is_newest = indexed.index_is_newest;
  has = indexed.has;
}

module _ (first i : PlaceMap) (old mid new : DiskView) (is : i ≡ first) (before : OnlyReads old mid) (after : OnlyReads mid new) where
  abbrev placed : List ℕ → Type 0
  placed = HasPlace (Some first)

  way_until : (start visited ahead : List Top) → VisitsTo (WasRead (Some first) old mid) placed start visited ahead →
      VisitsTo (WasRead (Some first) old new) placed start visited ahead
  way_until start visited ahead way =
      visits_wider (WasRead (Some first) old mid) (WasRead (Some first) old new) placed placed start visited ahead way (read_until (Some first) old mid new before after)
      (λ key has. has)

  way_since : (start visited ahead : List Top) → VisitsTo (WasRead (Some i) mid new) (HasPlace (Some i)) start visited ahead →
      VisitsTo (WasRead (Some first) old new) placed start visited ahead
  way_since start visited ahead way =
      visits_wider (WasRead (Some i) mid new) (WasRead (Some first) old new) (HasPlace (Some i)) placed start visited ahead way
      (read_since (Some first) old mid new (Some i) (ap Some is) before)
      (placed_since (Some first) old mid new (Some i) (ap Some is))

  roots_until : (roots : List NamedRoot) (visited : List Top) → VisitsRoots (WasRead (Some first) old mid) placed roots visited →
      VisitsRoots (WasRead (Some first) old new) placed roots visited
  roots_until roots visited way =
      roots_wider (WasRead (Some first) old mid) (WasRead (Some first) old new) placed placed roots visited way (read_until (Some first) old mid new before after) (λ key has. has)

  cause_since : (ahead : List Top) (refusal : Refusal) → IsVisitRefusal (Some i) (λ at why image. ⊥) mid new ahead refusal →
      IsVisitRefusal (Some first) (λ at why image. ⊥) old new ahead refusal
  cause_since = visit_since (Some first) old mid new (Some i) (ap Some is) (λ at why image. ⊥) (λ at why image. ⊥) (λ at why bytes broken. broken) before

  stuck_since : (start : List Top) (refusal : Refusal) → IsStuckOn i mid new start refusal → IsStuckOn first old new start refusal
  stuck_since start refusal stuck = record {
    visited = stuck.visited;
    ahead = stuck.ahead;
    way = way_since start stuck.visited stuck.ahead stuck.way;
    cause = cause_since stuck.ahead refusal stuck.cause;
  }

  pub tree_refused : (roots rest all : List NamedRoot) (n : NamedRoot) (visited : List Top) (refusal : Refusal) → all ≡ roots ++ n ∷ rest →
      VisitsRoots (WasRead (Some first) old mid) placed roots visited
      → IsTreeRefusal first old new (start_of (top_of n.root)) refusal → IsTreesRefusal first old new all refusal
  tree_refused roots rest all n visited refusal are visits (inl memory) = inl memory
  tree_refused roots rest all n visited refusal are visits (inr stuck) = inr (record {
    before = roots;
    at = n;
    rest = rest;
    roots_are = are;
    visited = visited;
    visits = roots_until roots visited visits;
    stuck = stuck;
  })

  pub among_since : (roots : List NamedRoot) (refusal : Refusal) → IsStuckAmong i mid new roots refusal → IsStuckAmong first old new roots refusal
  among_since roots refusal stuck = record {
    before = stuck.before;
    at = stuck.at;
    rest = stuck.rest;
    roots_are = stuck.roots_are;
    visited = stuck.visited;
    visits = roots_wider (WasRead (Some i) mid new) (WasRead (Some first) old new) (HasPlace (Some i)) placed stuck.before stuck.visited stuck.visits
        (read_since (Some first) old mid new (Some i) (ap Some is) before) (placed_since (Some first) old mid new (Some i) (ap Some is));
    stuck = stuck_since (start_of (top_of stuck.at.root)) refusal stuck.stuck;
  }

  -- ---- visits, by more reads before or after

  visits_since : (ahead then_ahead : List Top) (place : Place) (visits : VisitsPlaced (Some i) mid new ahead then_ahead place) →
      (wide : VisitsPlaced (Some first) old new ahead then_ahead place) × (wide.0 ≡ visits.0)
  visits_since ahead then_ahead place visits =
      let way = way_since ahead (visits.0 ∷ []) then_ahead (then_ahead, (visits.1.0, refl)) in (
        (
          visits.0,
          (
            subst (λ (l : List Top). Visits (WasRead (Some first) old new) (HasPlace (Some first)) ahead visits.0 l) (sym way.1.1) way.1.0,
            (λ m known. visits.1.1 m (ap Some is ∙ known)),
            subst (λ (n : ℕ). IsPlace n place) before.later.size_is visits.1.2,
          ),
        ),
        refl,
      )

  visits_until : (ahead then_ahead : List Top) (place : Place) (visits : VisitsPlaced (Some first) old mid ahead then_ahead place) →
      (wide : VisitsPlaced (Some first) old new ahead then_ahead place) × (wide.0 ≡ visits.0)
  visits_until ahead then_ahead place visits =
      let way = way_until ahead (visits.0 ∷ []) then_ahead (then_ahead, (visits.1.0, refl)) in (
        (
          visits.0,
          (
            subst (λ (l : List Top). Visits (WasRead (Some first) old new) (HasPlace (Some first)) ahead visits.0 l) (sym way.1.1) way.1.0,
            visits.1.1,
            visits.1.2,
          ),
        ),
        refl,
      )

-- ---- steps

abbrev told : Bool → Result Bool Refusal
told more = Ok more

-- the key of what comes first
pub key_is : (ahead others : List Top) (t : Top) (key : List ℕ) → ahead ≡ t ∷ others → key_ahead ahead ≡ Some key → key ≡ top_key t
key_is [] others t key is found = absurd (let wrong : [] ≡ t ∷ others = is in cc)
key_is (x ∷ xs) others t key is found =
    let same : x ≡ t = head_is x t xs others is in
    let keys : Some (top_key x) ≡ Some key = found in
    let inner : top_key x ≡ key = cc in
    sym inner ∙ ap top_key same

-- ---- trees that are held

-- they are to come beside one that is passed
pub held_past : (counts : ByteSet) (held : List (Option HeaderValue)) (image : List ℕ) (nodes : NodeSet) (ahead : List Top) → WasNoted nodes ahead →
    IsHeld counts held image ahead → IsHeld counts held image (drop 1 ahead)
held_past counts held image nodes [] was is = absurd was
held_past counts held image nodes (u ∷ us) was ([], is) = absurd (let wrong : u ∷ us ≡ [] = is.trees.tops in cc)
held_past counts held image nodes (u ∷ us) was (t ∷ ts, is) =
    (ts, record { trees = record { tops = tail_is u (root_of of_segment t) us (map (root_of of_segment) ts) is.trees.tops; each = is.trees.each.1 }; each = is.each.1 })

module _ (M : Type 0) (R : M → List ℕ → Place → M → Type 0) where
  abbrev State : Type 0
  State = WalkState M

  notes_more : (index : PlaceMap) (a b : List Top) (x y z : M) → NotesKeys M R index a x y → NotesKeys M R index b y z → NotesKeys M R index (a ++ b) x z
  notes_more index [] b x y z same second = subst (λ (m : M). NotesKeys M R index b m z) same second
  notes_more index (t ∷ ts) b x y z first second =
      (first.0, (first.1.0, (first.1.1.0, first.1.1.1, notes_more index ts b first.1.0 y z first.1.1.2 second)))

  pub steps_push : (index : PlaceMap) (old new : DiskView) (n : ℕ) (a b c : State) → TakesSteps M R index old new n a b → TakesStep M R index old new b c →
      TakesSteps M R index old new (suc n) a c
  steps_push index old new zero a b c same step = (c, (subst (λ (s : State). TakesStep M R index old new s c) same step, refl))
  steps_push index old new (suc n) a b c (mid, (first, others)) step = (mid, (first, steps_push index old new n mid b c others step))

  module _ (first i : PlaceMap) (old mid new : DiskView) (is : i ≡ first) (before : OnlyReads old mid) (after : OnlyReads mid new) where
    pub step_since : (a b : State) → TakesStep M R i mid new a b → TakesStep M R first old new a b
    step_since a b (inl passed) = inl passed
    step_since a b (inr visited) =
        let wide = visits_since first i old mid new is before after a.ahead b.ahead visited.1.0 visited.1.1.0 in
        inr (visited.0, (visited.1.0, (wide.0, subst (λ (t : Top). R a.notes (top_key t) visited.1.0 b.notes) (sym wide.1) visited.1.1.1)))

    step_until : (a b : State) → TakesStep M R first old mid a b → TakesStep M R first old new a b
    step_until a b (inl passed) = inl passed
    step_until a b (inr visited) =
        let wide = visits_until first i old mid new is before after a.ahead b.ahead visited.1.0 visited.1.1.0 in
        inr (visited.0, (visited.1.0, (wide.0, subst (λ (t : Top). R a.notes (top_key t) visited.1.0 b.notes) (sym wide.1) visited.1.1.1)))

    pub steps_until : (n : ℕ) (a b : State) → TakesSteps M R first old mid n a b → TakesSteps M R first old new n a b
    steps_until zero a b same = same
    steps_until (suc n) a b (c, (one, others)) = (c, (step_until a c one, steps_until n c b others))

    pub steps_since : (n : ℕ) (a b : State) → TakesSteps M R i mid new n a b → TakesSteps M R first old new n a b
    steps_since zero a b same = same
    steps_since (suc n) a b (c, (one, others)) = (c, (step_since a c one, steps_since n c b others))

    -- one step more
    pub walks_more : (a b c : State) → Walks M R first old mid a b → TakesStep M R i mid new b c → Walks M R first old new a c
    walks_more a b c walks step = record {
      count = suc walks.count;
      steps = steps_push first old new walks.count a b c (steps_until walks.count a b walks.steps) (step_since b c step);
    }

    -- or none
    pub walks_until : (a b : State) → Walks M R first old mid a b → Walks M R first old new a b
    walks_until a b walks = record { count = walks.count; steps = steps_until walks.count a b walks.steps }

    pub walks_next : (more : Bool) (a : State) (ahead ahead_now : List Top) (nodes nodes_now : NodeSet) (notes notes_now : M) →
        Walks M R first old mid a (walk_state M ahead nodes notes)
        → (told more ≡ told true → TakesStep M R i mid new (walk_state M ahead nodes notes) (walk_state M ahead_now nodes_now notes_now))
        → (told more ≡ told false → (ahead ≡ []) × (nodes_now ≡ nodes) × (notes_now ≡ notes)) →
        Walks M R first old new a (walk_state M (ahead_of more ahead_now) nodes_now notes_now)
    walks_next true a ahead ahead_now nodes nodes_now notes notes_now walks step end =
        walks_more a (walk_state M ahead nodes notes) (walk_state M ahead_now nodes_now notes_now) walks (step refl)
    walks_next false a ahead ahead_now nodes nodes_now notes notes_now walks step end =
        let none = end refl in
        walks_until a (walk_state M [] nodes_now notes_now) (
        subst (λ (m : M). Walks M R first old mid a (walk_state M [] nodes_now m)) (sym none.2)
        (subst (λ (s : NodeSet). Walks M R first old mid a (walk_state M [] s notes)) (sym none.1)
        (subst (λ (l : List Top). Walks M R first old mid a (walk_state M l nodes notes)) none.0 walks)))

    pub walk_stops : (a b : State) (refusal : Refusal) → Walks M R first old mid a b
        → (refusal ≡ Memory) ⊎ IsVisitRefusal (Some i) (λ at why image. ⊥) mid new b.ahead refusal
        → IsStepsRefusal M R first old new a refusal
    walk_stops a b refusal walks (inl memory) = inl memory
    walk_stops a b refusal walks (inr cause) = inr (record { at = b; walks = walks_until a b walks; cause = cause_since first i old mid new is before after b.ahead refusal cause })

  -- ---- what a walk comes to

  module _ (index : PlaceMap) (old new : DiskView) (start earlier : List Top) (initial : M) where
    abbrev To : List Top → List Top → List Top → Type 0
    To = VisitsTo (WasRead (Some index) old new) (HasPlace (Some index))

    abbrev Walking : State → Type 0
    Walking = IsWalking M R index old new start earlier initial

    -- before its first step
    pub walking_none : (nodes : NodeSet) → AreWalked index old new earlier nodes → Walking (walk_state M start nodes initial)
    walking_none nodes walked = record {
      visited = [];
      noted = [];
      way = refl;
      notes = refl;
      all = none_among (earlier ++ []);
      only = none_among [];
      came = λ t sized has. inl (subst (λ (l : List Top). IsWalked index old new l t) (sym (append-nil earlier)) (walked t sized has));
    }

    -- what was walked stays so, as more is noted
    walked_on : (some all : List Top) (t : Top) → AreAmong some all → IsWalked index old new some t → IsWalked index old new all t
    walked_on some all t stays walked = record {
      visited = walked.visited;
      way = walked.way;
      among = λ key is. stays key (walked.among key is);
    }

    -- a visit
    module _ (ahead then_ahead : List Top) (nodes nodes_now : NodeSet) (notes notes_now : M) (place : Place) (walking : Walking (walk_state M ahead nodes notes))
        (keeps : NotesNext ahead nodes nodes_now) (visits : VisitsPlaced (Some index) old new ahead then_ahead place)
        (one : R notes (top_key visits.0) place notes_now) where
      abbrev t : Top
      t = visits.0

      abbrev was : List Top
      was = walking.visited

      abbrev until : List Top
      until = walking.noted

      stays : AreAmong (earlier ++ until) (earlier ++ (until ++ t ∷ []))
      stays key is = subst (λ (l : List Top). IsVisited l key) (append_assoc earlier until (t ∷ [])) (visited_left (earlier ++ until) (t ∷ []) key is)

      abbrev Came : Top → Type 0
      Came u = IsWalked index old new (earlier ++ (until ++ t ∷ [])) u ⊎ ((1 ≤ u.level) × Contains (was ++ t ∷ []) u)

      came_earlier : (u : Top) → IsSized u → HasNode nodes u → Came u
      came_earlier u sized has = elim (walking.came u sized has) [
        | inl walked ↦ inl (walked_on (earlier ++ until) (earlier ++ (until ++ t ∷ [])) u stays walked)
        | inr came ↦ inr (came.0, Contains-append_left was (t ∷ []) u came.1)
      ]

      came_by : (others all : List Top) → all ≡ t ∷ others → NotesNext all nodes nodes_now → (u : Top) → IsSized u → HasNode nodes_now u → Came u
      came_by others [] is none u sized has = absurd (let wrong : [] ≡ t ∷ others = is in cc)
      came_by others (x ∷ xs) is (inl leaf) u sized has = came_earlier u sized (subst (λ (s : NodeSet). HasNode s u) leaf.1 has)
      came_by others (x ∷ xs) is (inr node) u sized has =
          let same : x ≡ t = head_is x t xs others is in
          elim (among_more nodes x u node.1 sized (subst (λ (s : NodeSet). HasNode s u) node.3 has)) [
            | inl here ↦
                inr (
                  subst (λ (y : Top). 1 ≤ y.level) here node.0,
                  subst (λ (y : Top). Contains (was ++ t ∷ []) y) (sym same ∙ here) (Contains-push was t),
                )
            | inr earlier ↦ came_earlier u sized earlier
          ]

      walking_visited : Walking (walk_state M then_ahead nodes_now notes_now)
      walking_visited = record {
        visited = was ++ t ∷ [];
        noted = until ++ t ∷ [];
        way = visits_more (WasRead (Some index) old new) (HasPlace (Some index)) start was ahead (t ∷ []) then_ahead walking.way (then_ahead, (visits.1.0, refl));
        notes = notes_more index until (t ∷ []) initial notes notes_now walking.notes (place, (notes_now, (visits.1.1 index refl, one, refl)));
        all = subst (λ (l : List Top). AreAmong (was ++ t ∷ []) l) (append_assoc earlier until (t ∷ []))
            (beside_among was (t ∷ []) (earlier ++ until) (t ∷ []) walking.all (λ key is. is));
        only = beside_among until (t ∷ []) was (t ∷ []) walking.only (λ key is. is);
        came = came_by visits.1.0.0 ahead visits.1.0.1.0 keeps;
      }

    -- a node that was come to before
    module _ (nodes : NodeSet) (notes : M) where
      from_complete : (visited noted ahead : List Top) (t : Top) → To start visited ahead → AreAmong visited noted → Contains visited t → 1 ≤ t.level → NotBelow t.level ahead →
          IsWalked index old new noted t
      from_complete visited noted ahead t way are has some high =
          let whole = complete (WasRead (Some index) old new) (HasPlace (Some index)) visited start ahead t way has some high in
          record { visited = whole.inside; way = whole.way; among = λ key is. are key (whole.among key is) }

      walked_there : (u : Top) (us : List Top) → (walking : Walking (walk_state M (u ∷ us) nodes notes)) → WasNoted nodes (u ∷ us) →
          IsWalked index old new (earlier ++ walking.noted) u
      walked_there u us walking was = elim (walking.came u was.1 was.2) [
        | inl walked ↦ walked
        | inr came ↦ from_complete walking.visited (earlier ++ walking.noted) (u ∷ us) u walking.way walking.all came.1 came.0 (omega arith)
      ]

      passed_by : (u : Top) (us : List Top) → Walking (walk_state M (u ∷ us) nodes notes) → WasNoted nodes (u ∷ us) → Walking (walk_state M us nodes notes)
      passed_by u us walking was =
          let walked = walked_there u us walking was in
          record {
            visited = walking.visited ++ walked.visited;
            noted = walking.noted;
            way = visits_more (WasRead (Some index) old new) (HasPlace (Some index)) start walking.visited (u ∷ us) walked.visited us walking.way
                (beside (WasRead (Some index) old new) (HasPlace (Some index)) (u ∷ []) us walked.visited [] walked.way);
            notes = walking.notes;
            all = both_among walking.visited walked.visited (earlier ++ walking.noted) walking.all walked.among;
            only = λ key is. visited_left walking.visited walked.visited key (walking.only key is);
            came = λ t sized has. elim (walking.came t sized has) [
              | inl whole ↦ inl whole
              | inr came ↦ inr (came.0, Contains-append_left walking.visited walked.visited t came.1)
            ];
          }

      walking_past : (ahead : List Top) → Walking (walk_state M ahead nodes notes) → WasNoted nodes ahead → Walking (walk_state M (drop 1 ahead) nodes notes)
      walking_past [] walking was = absurd was
      walking_past (u ∷ us) walking was = passed_by u us walking was

      -- at its end
      pub all_walked : (walking : Walking (walk_state M [] nodes notes)) → AreWalked index old new (earlier ++ walking.noted) nodes
      all_walked walking t sized has = elim (walking.came t sized has) [
        | inl walked ↦ walked
        | inr came ↦ from_complete walking.visited (earlier ++ walking.noted) [] t walking.way walking.all came.1 came.0 tt
      ]

    -- step by step
    walking_step : (a b : State) → Walking a → TakesStep M R index old new a b → Walking b
    walking_step a b walking (inl passed) = subst Walking (sym passed.1) (walking_past a.nodes a.notes a.ahead walking passed.0)
    walking_step a b walking (inr visited) =
        walking_visited a.ahead b.ahead a.nodes b.nodes a.notes b.notes visited.1.0 walking visited.0 visited.1.1.0 visited.1.1.1

    pub walking_steps : (n : ℕ) (a b : State) → Walking a → TakesSteps M R index old new n a b → Walking b
    walking_steps zero a b walking same = subst Walking (sym same) walking
    walking_steps (suc n) a b walking (c, (one, others)) = walking_steps n c b (walking_step a c walking one) others

  -- ---- all trees

  roots_push : (index : PlaceMap) (old new : DiskView) (roots : List NamedRoot) (n : NamedRoot) (a b c : State) → WalksRoots M R index old new roots a b →
      Walks M R index old new (walk_state M (start_of (top_of n.root)) b.nodes b.notes) c
      → c.ahead ≡ [] → WalksRoots M R index old new (roots ++ n ∷ []) a c
  roots_push index old new [] n a b c same walks none =
      (c, (subst (λ (s : State). Walks M R index old new (walk_state M (start_of (top_of n.root)) s.nodes s.notes) c) same walks, none, refl))
  roots_push index old new (m ∷ ms) n a b c (mid, (one, end, others)) walks none = (mid, (one, end, roots_push index old new ms n mid b c others walks none))

  -- what was walked stays so
  module _ (first i : PlaceMap) (old mid new : DiskView) (is : i ≡ first) (before : OnlyReads old mid) (after : OnlyReads mid new) where
    walked_until : (noted : List Top) (nodes : NodeSet) → AreWalked first old mid noted nodes → AreWalked first old new noted nodes
    walked_until noted nodes walked t sized has =
        let was = walked t sized has in
        record { visited = was.visited; way = way_until first i old mid new is before after (t ∷ []) was.visited [] was.way; among = was.among }

    -- a tree, from where the walk of it begins, as far as steps lead
    pub walking_to : (start earlier : List Top) (nodes : NodeSet) (notes : M) (b : State) → AreWalked first old mid earlier nodes
        → Walks M R i mid new (walk_state M start nodes notes) b → IsWalking M R first old new start earlier notes b
    walking_to start earlier nodes notes b walked walks =
        walking_steps first old new start earlier notes walks.count (walk_state M start nodes notes) b
        (walking_none first old new start earlier notes nodes (walked_until earlier nodes walked))
        (steps_since first i old mid new is before after walks.count (walk_state M start nodes notes) b walks.steps)

    walks_roots_until : (roots : List NamedRoot) (a b : State) → WalksRoots M R first old mid roots a b → WalksRoots M R first old new roots a b
    walks_roots_until [] a b same = same
    walks_roots_until (n ∷ ns) a b (c, (one, none, others)) =
        (c, (walks_until first i old mid new is before after (walk_state M (start_of (top_of n.root)) a.nodes a.notes) c one, none, walks_roots_until ns c b others))

    pub walks_roots_more : (roots : List NamedRoot) (n : NamedRoot) (a : State) (nodes then_nodes : NodeSet) (notes then_notes : M) →
        WalksRoots M R first old mid roots a (walk_state M [] nodes notes)
        → Walks M R i mid new (walk_state M (start_of (top_of n.root)) nodes notes) (walk_state M [] then_nodes then_notes) →
        WalksRoots M R first old new (roots ++ n ∷ []) a (walk_state M [] then_nodes then_notes)
    walks_roots_more roots n a nodes then_nodes notes then_notes walks tree =
        roots_push first old new roots n a (walk_state M [] nodes notes) (walk_state M [] then_nodes then_notes)
        (walks_roots_until roots a (walk_state M [] nodes notes) walks) (record {
          count = tree.count;
          steps = steps_since first i old mid new is before after tree.count (walk_state M (start_of (top_of n.root)) nodes notes)
              (walk_state M [] then_nodes then_notes) tree.steps;
        }) refl

    pub tree_stuck : (start earlier : List Top) (nodes : NodeSet) (notes : M) (refusal : Refusal) → AreWalked first old mid earlier nodes
        → IsStepsRefusal M R i mid new (walk_state M start nodes notes) refusal → IsTreeRefusal first old new start refusal
    tree_stuck start earlier nodes notes refusal walked (inl memory) = inl memory
    tree_stuck start earlier nodes notes refusal walked (inr stops) =
        let walking = walking_to start earlier nodes notes stops.at walked stops.walks in
        inr (record {
          visited = walking.visited;
          ahead = stops.at.ahead;
          way = walking.way;
          cause = cause_since first i old mid new is before after stops.at.ahead refusal stops.cause;
        })

    -- one tree more
    pub tree_more : (roots : List NamedRoot) (n : NamedRoot) (nodes : NodeSet) (from mid_notes to : M) (so_far : NotesTrees M R first old mid roots from mid_notes)
        → IsWalking M R first old new (start_of (top_of n.root)) so_far.noted mid_notes (walk_state M [] nodes to) →
        NotesTrees M R first old new (roots ++ n ∷ []) from to
    tree_more roots n nodes from mid_notes to so_far tree = record {
      visited = so_far.visited ++ tree.visited;
      noted = so_far.noted ++ tree.noted;
      visits = roots_more (WasRead (Some first) old new) (HasPlace (Some first)) roots so_far.visited n tree.visited
          (roots_until first i old mid new is before after roots so_far.visited so_far.visits) tree.way;
      notes = notes_more first so_far.noted tree.noted from mid_notes to so_far.notes tree.notes;
      all = both_among so_far.visited tree.visited (so_far.noted ++ tree.noted) (λ key is. visited_left so_far.noted tree.noted key (so_far.all key is)) tree.all;
      only = beside_among so_far.noted tree.noted so_far.visited tree.visited so_far.only tree.only;
    }

  -- none was walked yet
  pub walking_all_none : (index : PlaceMap) (v : DiskView) (roots : List NamedRoot) (nodes : NodeSet) (notes : M) → roots ≡ [] → nodes ≡ finite.empty →
      IsWalkingAll M R index index v v roots nodes notes notes
  walking_all_none index v roots nodes notes none empty =
      subst (λ (ns : List NamedRoot). IsWalkingAll M R index index v v ns nodes notes notes) (sym none) (record {
        notes = record { visited = []; noted = []; visits = refl; notes = refl; all = none_among []; only = none_among [] };
        walked = λ u sized has. absurd (no_node u (subst (λ (s : NodeSet). HasNode s u) empty has));
        walks = ap (λ (s : NodeSet). walk_state M [] s notes) empty;
        index_is = refl;
        reads = reads_none v;
      })
    where
      no_node : (u : Top) → HasNode finite.empty u → ⊥
      no_node u has = let wrong : None ≡ Some tt = sym (finite.get-empty (slice_cmp nat_cmp) (node_key u)) ∙ has in cc

  -- one tree more
  pub walking_all_more : (first i j : PlaceMap) (old mid new : DiskView) (roots more : List NamedRoot) (n : NamedRoot) (nodes nodes_now : NodeSet) (from mid_notes to : M)
      → IsWalkingAll M R first i old mid roots nodes from mid_notes → more ≡ roots ++ n ∷ []
      → Walks M R i mid new (walk_state M (start_of (top_of n.root)) nodes mid_notes) (walk_state M [] nodes_now to) → j ≡ i → Reads Done mid new →
      IsWalkingAll M R first j old new more nodes_now from to
  unfolding tree_more
  walking_all_more first i j old mid new roots more n nodes nodes_now from mid_notes to so_far are walks same reads =
      let start = start_of (top_of n.root) in
      let earlier = so_far.notes.noted in
      let tree = walking_to first i old mid new so_far.index_is so_far.reads.only reads.only start earlier nodes mid_notes (walk_state M [] nodes_now to) so_far.walked walks in
      subst (λ (all : List NamedRoot). IsWalkingAll M R first j old new all nodes_now from to) (sym are) (record {
        notes = tree_more first i old mid new so_far.index_is so_far.reads.only reads.only roots n nodes_now from mid_notes to so_far.notes tree;
        walked = all_walked first old new start earlier mid_notes nodes_now to tree;
        walks = walks_roots_more first i old mid new so_far.index_is so_far.reads.only reads.only roots n (walk_state M [] finite.empty from) nodes nodes_now mid_notes to
            so_far.walks walks;
        index_is = same ∙ so_far.index_is;
        reads = reads_on Done old mid new so_far.reads reads;
      })

-- ---- names that are listed

listed_at : (files : List ListedName) (k : ℕ) (d : ListedName) → k < length files → get_or (map listed_value files) k (listed_value d) ≡ listed_value (get_or files k d)
listed_at [] k d within = refl
listed_at (f ∷ fs) zero d within = refl
listed_at (f ∷ fs) (suc k) d within = listed_at fs k d (omega (arith, within))

held_at : (counts : ByteSet) (held : List (Option HeaderValue)) (image : List ℕ) (roots : List NamedRoot) (k : ℕ) (d : NamedRoot) → k < length roots →
    AllHeld counts held image roots → IsHeld counts held image (start_of (top_of (get_or roots k d).root))
held_at counts held image [] k d within all = absurd (omega (arith, within))
held_at counts held image (n ∷ ns) zero d within all = all.0
held_at counts held image (n ∷ ns) (suc k) d within all = held_at counts held image ns k d (omega (arith, within)) all.1

module _ (files : List ListedName) (k : ℕ) (file : ListedName) (within : k < length files) (is : file ≡ get_or files k file) where
  abbrev roots_in : List NamedRoot
  roots_in = map listed_value files

  file_at : get_or roots_in k (listed_value file) ≡ listed_value file
  file_at = listed_at files k file within ∙ ap listed_value (sym is)

  within_roots : k < length roots_in
  within_roots = omega (arith, within, length-map files listed_value)

  pub file_taken : take (k + 1) roots_in ≡ take k roots_in ++ listed_value file ∷ []
  file_taken = take_more roots_in k (listed_value file) within_roots ∙ ap (λ (n : NamedRoot). take k roots_in ++ n ∷ []) file_at

  pub file_among : roots_in ≡ take k roots_in ++ listed_value file ∷ drop (k + 1) roots_in
  file_among =
      sym (take-append-drop k roots_in) ∙ ap (λ (rest : List NamedRoot). take k roots_in ++ rest) (drop_more roots_in k (listed_value file) within_roots)
      ∙ ap (λ (n : NamedRoot). take k roots_in ++ n ∷ drop (k + 1) roots_in) file_at

  pub file_held : (counts : ByteSet) (held : List (Option HeaderValue)) (image : List ℕ) → AllHeld counts held image roots_in →
      IsHeld counts held image (start_of (top_of file.root))
  file_held counts held image all =
      subst (λ (n : NamedRoot). IsHeld counts held image (start_of (top_of n.root))) file_at (held_at counts held image roots_in k (listed_value file) within_roots all)

-- a tree whose walk failed is one of all
pub tree_failed : (first i : PlaceMap) (old mid : DiskView) (files : List ListedName) (k : ℕ) (file : ListedName) (refusal : Refusal) → k < length files →
    file ≡ get_or files k file → i ≡ first → OnlyReads old mid
    → WhereHeld i mid.content (λ counts held image. IsHeld counts held image (start_of (top_of file.root))) (λ counts held image. IsTrue (fails refusal))
    → WhereHeld first old.content (λ counts held image. AllHeld counts held image (map listed_value files)) (λ counts held image. IsTrue (fails refusal))
tree_failed first i old mid files k file refusal within is same reads failed counts held image indexed all =
    failed counts held image (indexed_on first i old mid counts held image same reads indexed) (file_held files k file within is counts held image all)

-- While a collection marks, whatever others do and whatever the disk holds, each live key that the index has is that of data, or of a node whose
-- children are so, too, or of a node that marking has yet to come to. So once it has marked, the index has each key of the trees of all roots.
use Rattle.gc_steps.proofs.Prelude.{All, All-contains, All-weaker, AllByRecursion, AreFound, AreHeaders, Child, Collection, Contains-get_or, DiskView, Filter, HasKey, HasMarkedAll, HeaderValue, HeadersAreApart, IsAmong, IsDataKey, IsLive, IsOfKind, IsPartKey, IsPartialIndexOf, IsRoot, KeepsMarks, Kind, Leaf, List, LiveKeys, MOST_LEVEL, Mark, Marks, MarksOnly, Memory, NameMap, Option, Part, PinMap, Place, PlaceMap, Refusal, RepresentsSlots, RootKey, Scans, Segment, SlotCount, SlotTable, Some, Stage, Store, WasScanned, Writing, [], among_keys, ap, arith, child_key, child_keys, child_pin, children_by, contents_in, eqb_tells, has_pin, header_digest, inl, inr, key_at, key_of, last_id, leb_tells, map, mark_level, refl, roots_of, segment_key, sha256, slice_get, some_same, subst, suc, sym, true, zero, ℕ, ◌++◌, ◌-◌, ◌<◌, ◌∙◌, ◌∷◌, ◌≡◌, ◌≤◌, ◌⊎◌}
use Rattle.std.proofs.Common.{◌↔◌, get_or}
use Rattle.std.specs.FinMap as finite
use Rattle.std.proofs.lemmas.List.Elements.{All-append, All-map}
use Rattle.container_meta.specs.declared.kind.Kind.TheVariants.{Tree}
use Rattle.gc_enumerate.specs.Live.{IsLiveAt}
use Rattle.gc_steps.specs.Finding.{FindsTrees, HasChildren}
use Rattle.gc_steps.specs.Roots.{RootKeys}
use Rattle.gc_steps.proofs.AllFound.{Entered, HasLive, all_passed, below_it, data_or_node, entered, grows, node_here, none_yet, not_later, passed, some_among, some_grows, tabled_held}
use Rattle.gc_steps.proofs.FirstStage.{id_below}
use Rattle.gc_steps.proofs.PinnedTrees.{pin_found}
use Rattle.gc_steps.proofs.RootKeys.{root_live, roots_have}
use Rattle.gc_sweep.proofs.InSlots.{live_anywhere}

-- ---- what is so while it marks

-- a node in a container that came before the collection, to which marking has yet to come
pub record IsToCome (held : List (Option HeaderValue)) (c : Collection) (place : Place) : Type 0 where
  pub header : HeaderValue
  pub there : slice_get held place.slot ≡ Some (Some header)
  pub old : header.id < c.snapshot
  pub node : 1 ≤ place.level
  pub ahead : WasScanned c.stage place.level place.slot → ⊥

-- a live key that the index has at a place is followed up
abbrev pub IsFollowed : List (Option HeaderValue) → PlaceMap → Collection → List ℕ → Place → Type 0
IsFollowed held index c key place = IsDataKey key ⊎ (HasChildren (IsLive index c.live) key ⊎ IsToCome held c place)

-- Of slots whose containers that came before the collection are those of the first slots: each live key is followed up; each key of a container
-- that came since is live; and so are all roots, and those of before.
pub record FindsSoFar (first held : List (Option HeaderValue)) (index : PlaceMap) (c : Collection) (names : NameMap) (parts : List Part) (roots : RootKeys) : Type 0 where
  pub stood : (slot : ℕ) (h : HeaderValue) → slice_get held slot ≡ Some (Some h) → h.id < c.snapshot → slice_get first slot ≡ Some (Some h)
  pub followed : (key : List ℕ) (place : Place) → finite.get index key ≡ Some place → IsLiveAt c.live key place → IsFollowed held index c key place
  pub since_live : (key : List ℕ) (place : Place) (h : HeaderValue) → finite.get index key ≡ Some place → slice_get held place.slot ≡ Some (Some h) → c.snapshot ≤ h.id
      → IsLiveAt c.live key place
  pub roots_live : (key : List ℕ) → IsRoot names parts key → IsLive index c.live key
  pub before_live : All (λ r. IsLive index c.live r.key) roots

children_weaker : (P Q : List ℕ → Type 0) (key : List ℕ) → ((k : List ℕ) → P k → Q k) → HasChildren P key → HasChildren Q key
children_weaker P Q key on has = record { node = has.node; right = has.right; key_is = has.key_is; children = All-weaker P Q on (child_keys has.node) has.children }

-- whether a level was scanned in a slot
scanned_or_not : (stage : Stage) (level slot : ℕ) → WasScanned stage level slot ⊎ (WasScanned stage level slot → ⊥)
scanned_or_not (Mark at next) level slot = elim (leb_tells (suc at) level) [
  | inl above ↦ inl (inl (omega (arith, above.1)))
  | inr low ↦ elim (eqb_tells level at) [
    | inr differ ↦ inr (λ is. elim is [ inl high ↦ omega (arith, low.1, high) | inr here ↦ differ.1 here.0 ])
    | inl same ↦ elim (leb_tells (suc slot) next) [
      | inl before ↦ inl (inr (same.1, omega (arith, before.1)))
      | inr later ↦ inr (λ is. elim is [ inl high ↦ omega (arith, low.1, high) | inr here ↦ omega (arith, later.1, here.1) ])
    ]
  ]
]
scanned_or_not (Filter at) level slot = inl tt
scanned_or_not other level slot = inl tt

module _ (index : PlaceMap) (store : Store) (headers : AreHeaders store.held) (partial : IsPartialIndexOf store.held index) where
  -- ---- it begins

  pub begins : (t : SlotTable) (c : Collection) (names : NameMap) (parts : List Part) → RepresentsSlots store.held t → last_id store.held < c.snapshot
      → c.stage ≡ mark_level c.snapshot t MOST_LEVEL
      → AreFound (Some index) (roots_of names parts) → ((key : List ℕ) (place : Place) → IsLiveAt c.live key place ↔ IsRoot names parts key)
      → FindsSoFar store.held store.held index c names parts (roots_of names parts)
  begins t c names parts slots above stage found live = record {
    stood = λ slot h there old. there;
    followed = λ key place has is_live. by_kind key place (entered index store headers partial key place has)
        (data_or_node index store headers partial key place (entered index store headers partial key place has));
    since_live = λ key place h has there new. absurd (omega (arith, id_below store.held place.slot h there, above, new));
    roots_live = λ key root. All-contains (IsLive index c.live) (map key_at roots) key (All-map (IsLive index c.live) key_at roots all) ((roots_have names parts key).1 root);
    before_live = all;
  }
    where
      roots : RootKeys
      roots = roots_of names parts

      all : All (λ (r : RootKey). IsLive index c.live r.key) roots
      all = λ k d within.
          let r = get_or roots k d in
          let has = found k d within in
          (has.0, (has.1.0 index refl, (live r.key has.0).1 (root_live names parts r (Contains-get_or roots k d within))))

      by_kind : (key : List ℕ) (place : Place) (e : Entered index store headers partial key place) → IsDataKey key ⊎ (1 ≤ place.level) → IsFollowed store.held index c key place
      by_kind key place e (inl leaf) = inl leaf
      by_kind key place e (inr node) =
          let low : e.header.id < c.snapshot = omega (arith, id_below store.held place.slot e.header e.there, above) in
          inr (inr (record {
            header = e.header;
            there = e.there;
            old = low;
            node = node;
            ahead = λ is. none_yet index store headers partial t slots c.snapshot key place node e low (subst (λ (s : Stage). WasScanned s place.level place.slot) stage is);
          }))

  -- ---- a container is scanned

  module _ (first : List (Option HeaderValue)) (names : NameMap) (parts : List Part) (roots : RootKeys) (before after : Collection)
      (finds : FindsSoFar first store.held index before names parts roots)
      (same : after.snapshot ≡ before.snapshot) (more : (key : List ℕ) (place : Place) → IsLiveAt before.live key place → IsLiveAt after.live key place) where
    still : (key : List ℕ) → IsLive index before.live key → IsLive index after.live key
    still key is = (is.0, (is.1.0, more key is.0 is.1.1))

    -- where each key that is live then is followed up
    followed_on : ((key : List ℕ) (place : Place) → finite.get index key ≡ Some place → IsLiveAt after.live key place → IsFollowed store.held index after key place)
        → FindsSoFar first store.held index after names parts roots
    followed_on followed = record {
      stood = λ slot h there old. finds.stood slot h there (omega (arith, old, same));
      followed = followed;
      since_live = λ key place h has there new. more key place (finds.since_live key place h has there (omega (arith, new, same)));
      roots_live = λ key root. still key (finds.roots_live key root);
      before_live = All-weaker (λ (r : RootKey). IsLive index before.live r.key) (λ (r : RootKey). IsLive index after.live r.key) (λ r is. still r.key is) roots finds.before_live;
    }

    -- A key that was live is followed up, if a node to which marking has come by then is.
    was_followed : (key : List ℕ) (place : Place) → finite.get index key ≡ Some place → IsLiveAt before.live key place
        → (IsToCome store.held before place → HasChildren (IsLive index after.live) key ⊎ IsToCome store.held after place) → IsFollowed store.held index after key place
    was_followed key place has is_live on = by_case (finds.followed key place has is_live)
      where
        by_case : IsFollowed store.held index before key place → IsFollowed store.held index after key place
        by_case (inl leaf) = inl leaf
        by_case (inr (inl children)) = inr (inl (children_weaker (IsLive index before.live) (IsLive index after.live) key still children))
        by_case (inr (inr ahead)) = inr (on ahead)

    -- so is one that became live, which marking has yet to come to, unless it lies in a container that came since, and was live
    newly_followed : (key : List ℕ) (place : Place) → finite.get index key ≡ Some place
        → (1 ≤ place.level → (e : Entered index store headers partial key place) → e.header.id < before.snapshot → WasScanned after.stage place.level place.slot → ⊥)
        → (IsLiveAt before.live key place → IsFollowed store.held index after key place) → IsFollowed store.held index after key place
    newly_followed key place has ahead was =
        let e = entered index store headers partial key place has in
        elim (data_or_node index store headers partial key place e) [
          | inl leaf ↦ inl leaf
          | inr node ↦ elim (leb_tells (suc e.header.id) before.snapshot) [
            | inl old ↦ inr (inr (record { header = e.header; there = e.there; old = omega (arith, old.1, same); node = node; ahead = ahead node e (omega (arith, old.1)) }))
            | inr new ↦ was (finds.since_live key place e.header has e.there (omega (arith, new.1)))
          ]
        ]

  module _ (t : SlotTable) (slots : RepresentsSlots store.held t) (first : List (Option HeaderValue)) (names : NameMap) (parts : List Part) (roots : RootKeys) (old new : DiskView)
      (level slot : ℕ) (some : 1 ≤ level)
      (before after : Collection) (was : before.stage ≡ Mark level slot) (finds : FindsSoFar first store.held index before names parts roots) where
    -- by what `mark_container` says
    pub scan_finds : HeadersAreApart first old new → ((h : HeaderValue) → slice_get store.held slot ≡ Some (Some h) → h.id < before.snapshot)
        → Scans t (Some index) old new level slot before after
        → FindsSoFar first store.held index after names parts roots
    scan_finds apart age scans = followed_on first names parts roots before after finds snapshot_is more
        (λ key place has is_live. by_case key place has ((scans.scanned.marks.marks key place).0 is_live))
      where
        held : (h : HeaderValue) × (slice_get store.held slot ≡ Some (Some h)) × (header_digest h ≡ header_digest scans.header)
        held = tabled_held store.held slot scans.header scans.right (ap (λ (counts : List SlotCount). slice_get counts slot) (sym slots.counts_are) ∙ scans.tabled.count_is)

        there : slice_get store.held slot ≡ Some (Some scans.header)
        there = held.1
            ∙ ap (λ (h : HeaderValue). Some (Some h)) (sym (apart slot held.0 scans.header (finds.stood slot held.0 held.1 (age held.0 held.1)) scans.shown (sym held.2)))

        snapshot_is : after.snapshot ≡ before.snapshot
        snapshot_is = ap (λ (c : Collection). c.snapshot) scans.collection_is

        more : (key : List ℕ) (place : Place) → IsLiveAt before.live key place → IsLiveAt after.live key place
        more = grows index store headers partial old new level slot some scans.header before after was there scans.scanned

        passes : (key : List ℕ) (place : Place) → 1 ≤ place.level → (e : Entered index store headers partial key place) → e.header.id < before.snapshot
            → WasScanned after.stage place.level place.slot
            → WasScanned (Mark level slot) place.level place.slot ⊎ ((place.level ≡ level) × (place.slot ≡ slot))
        passes = passed index store headers partial old new level slot some scans.header before after was t slots (ap (λ (c : Collection). c.stage) scans.collection_is)

        -- a node that was to come is scanned here, or is to come still
        on : (key : List ℕ) (place : Place) → finite.get index key ≡ Some place → IsLiveAt before.live key place → IsToCome store.held before place
            → HasChildren (IsLive index after.live) key ⊎ IsToCome store.held after place
        on key place has is_live ahead = by_scan (scanned_or_not after.stage place.level place.slot)
          where
            e : Entered index store headers partial key place
            e = entered index store headers partial key place has

            low : e.header.id < before.snapshot
            low = let one : e.header ≡ ahead.header = some_same e.header ahead.header (some_same (Some e.header) (Some ahead.header) (sym e.there ∙ ahead.there)) in
                omega (arith, ahead.old, ap (λ (h : HeaderValue). h.id) one)

            by_place : WasScanned (Mark level slot) place.level place.slot ⊎ ((place.level ≡ level) × (place.slot ≡ slot)) → HasChildren (IsLive index after.live) key
            by_place (inl earlier) = absurd (ahead.ahead (subst (λ (s : Stage). WasScanned s place.level place.slot) (sym was) earlier))
            by_place (inr here) =
                let node = node_here index store headers partial old new level slot some scans.header before after was there scans.scanned key place has is_live ahead.node e
                here.0 here.1 in
                record {
                  node = node.node;
                  right = node.right;
                  key_is = node.key_is;
                  children = All-weaker (HasLive index store headers partial after.live (place.level - 1)) (IsLive index after.live)
                      (λ k is. (is.place, (is.place_is, is.is_live))) (child_keys node.node) node.children;
                }

            by_scan : WasScanned after.stage place.level place.slot ⊎ (WasScanned after.stage place.level place.slot → ⊥) → HasChildren (IsLive index after.live) key
                ⊎ IsToCome store.held after place
            by_scan (inl scanned) = inl (by_place (passes key place ahead.node e low scanned))
            by_scan (inr not_yet) = inr (record { header = ahead.header; there = ahead.there; old = omega (arith, ahead.old, snapshot_is); node = ahead.node; ahead = not_yet })

        earlier : (key : List ℕ) (place : Place) → finite.get index key ≡ Some place → IsLiveAt before.live key place → IsFollowed store.held index after key place
        earlier key place has is_live = was_followed first names parts roots before after finds snapshot_is more key place has is_live (on key place has is_live)

        by_case : (key : List ℕ) (place : Place) → finite.get index key ≡ Some place → IsLiveAt before.live key place ⊎ IsAmong key place scans.scanned.marks.found
            → IsFollowed store.held index after key place
        by_case key place has (inl is_live) = earlier key place has is_live
        by_case key place has (inr among) =
            let below = below_it index store headers partial old new level slot some scans.header before after was scans.scanned.marks.found (λ f. f.key)
            (λ f. f.place) scans.scanned.marks.finds.placed key place has
            (among_keys key place scans.scanned.marks.found among) in
            newly_followed first names parts roots before after finds snapshot_is more key place has
            (λ node e low is. not_later index store headers partial old new level slot some scans.header before after was place.level place.slot below
            (passes key place node e low is)) (earlier key place has)

    -- some of it, as memory ran out
    only_finds : MarksOnly (Some index) old new level slot before after → FindsSoFar first store.held index after names parts roots
    only_finds only = followed_on first names parts roots before after finds snapshot_is more
        (λ key place has is_live. by_case key place has ((only.scanned.marks.1.1.1 key place).0 is_live))
      where
        snapshot_is : after.snapshot ≡ before.snapshot
        snapshot_is = ap (λ (c : Collection). c.snapshot) only.collection_is

        now : after.stage ≡ before.stage
        now = ap (λ (c : Collection). c.stage) only.collection_is

        more : (key : List ℕ) (place : Place) → IsLiveAt before.live key place → IsLiveAt after.live key place
        more = some_grows index store headers partial old new level slot some only.header before after was now only.scanned

        earlier : (key : List ℕ) (place : Place) → finite.get index key ≡ Some place → IsLiveAt before.live key place → IsFollowed store.held index after key place
        earlier key place has is_live = was_followed first names parts roots before after finds snapshot_is more key place has is_live (λ ahead. inr (record {
          header = ahead.header;
          there = ahead.there;
          old = omega (arith, ahead.old, snapshot_is);
          node = ahead.node;
          ahead = λ is. ahead.ahead (subst (λ (s : Stage). WasScanned s place.level place.slot) now is);
        }))

        by_case : (key : List ℕ) (place : Place) → finite.get index key ≡ Some place → IsLiveAt before.live key place ⊎ IsAmong key place only.scanned.marks.0
            → IsFollowed store.held index after key place
        by_case key place has (inl is_live) = earlier key place has is_live
        by_case key place has (inr among) =
            let below = below_it index store headers partial old new level slot some only.header before after was only.scanned.found (λ f. f.key)
            (λ f. f.place) only.scanned.finds.placed key place has
            (some_among index store headers partial old new level slot some only.header before after was now only.scanned key place among) in
            newly_followed first names parts roots before after finds snapshot_is more key place has
            (λ node e low is. not_later index store headers partial old new level slot some only.header before after was place.level place.slot below
            (inl (subst (λ (s : Stage). WasScanned s place.level place.slot) (now ∙ was) is))) (earlier key place has)

    same_finds : after ≡ before → FindsSoFar first store.held index after names parts roots
    same_finds is = subst (λ (c : Collection). FindsSoFar first store.held index c names parts roots) (sym is) finds

    -- and where it is refused
    pub refusal_finds : (refusal : Refusal) → KeepsMarks (Some index) old new level slot before after refusal → FindsSoFar first store.held index after names parts roots
    refusal_finds Memory (inl is) = same_finds is
    refusal_finds Memory (inr only) = only_finds only
    refusal_finds _ kept = same_finds kept

  -- ---- a step of another

  -- What it does: just the keys of which P holds became live; the index has them, and no other key another place; no container goes, and one that
  -- comes has no id of before; and each root is one of before, or P holds of it.
  pub record Gains (P : List ℕ → Type 0) (held : List (Option HeaderValue)) (later : PlaceMap) (c : Collection) (live : LiveKeys) (names now : NameMap)
      (parts after : List Part) : Type 1 where
    pub marks : Marks P c.live live
    pub decided : (key : List ℕ) → P key ⊎ (P key → ⊥)
    pub has_still : (key : List ℕ) → HasKey index key → HasKey later key
    pub others_stay : (key : List ℕ) → (P key → ⊥) → finite.get later key ≡ finite.get index key
    pub has : (key : List ℕ) → P key → HasKey later key
    pub stands : (slot : ℕ) (h : HeaderValue) → slice_get store.held slot ≡ Some (Some h) → slice_get held slot ≡ Some (Some h)
    pub came : (slot : ℕ) (h : HeaderValue) → slice_get held slot ≡ Some (Some h) → (slice_get store.held slot ≡ Some (Some h)) ⊎ (c.snapshot ≤ h.id)
    pub roots_are : (key : List ℕ) → IsRoot now after key → IsRoot names parts key ⊎ P key
    -- where all roots of before have Q, such a key is that of data, or of a node whose children have Q
    pub nodes : (Q : List ℕ → Type 0) → ((key : List ℕ) → IsRoot names parts key → Q key) → (key : List ℕ) → P key → IsDataKey key ⊎ HasChildren Q key

  module _ (P : List ℕ → Type 0) (first held : List (Option HeaderValue)) (later : PlaceMap) (c : Collection) (live : LiveKeys) (names now : NameMap) (parts after : List Part)
      (roots : RootKeys)
      (gains : Gains P held later c live names now parts after) (finds : FindsSoFar first store.held index c names parts roots) where
    abbrev next : Collection
    next = record c { live = live }

    live_still : (key : List ℕ) (place : Place) → IsLiveAt c.live key place → IsLiveAt live key place
    live_still key place is = (gains.marks key place).1 (inl is)

    kept : (key : List ℕ) → IsLive index c.live key → IsLive later live key
    kept key is =
        let has = gains.has_still key (is.0, is.1.0) in
        (has.0, (has.1, live_anywhere live key is.0 has.0 (live_still key is.0 is.1.1)))

    gained : (key : List ℕ) → P key → IsLive later live key
    gained key p =
        let has = gains.has key p in
        (has.0, (has.1, (gains.marks key has.0).1 (inr p)))

    -- one of which P doesn't hold lies where it lay
    others_followed : (key : List ℕ) (place : Place) → (P key → ⊥) → finite.get later key ≡ Some place → IsLiveAt live key place → IsFollowed held later next key place
    others_followed key place other has is_live = by_case (finds.followed key place (sym (gains.others_stay key other) ∙ has) (was ((gains.marks key place).0 is_live)))
      where
        was : IsLiveAt c.live key place ⊎ P key → IsLiveAt c.live key place
        was (inl before) = before
        was (inr p) = absurd (other p)

        by_case : IsFollowed store.held index c key place → IsFollowed held later next key place
        by_case (inl leaf) = inl leaf
        by_case (inr (inl children)) = inr (inl (children_weaker (IsLive index c.live) (IsLive later live) key kept children))
        by_case (inr (inr ahead)) = inr
            (inr (record { header = ahead.header; there = gains.stands place.slot ahead.header ahead.there; old = ahead.old; node = ahead.node; ahead = ahead.ahead }))

    others_since : (key : List ℕ) (place : Place) (h : HeaderValue) → (P key → ⊥) → finite.get later key ≡ Some place → slice_get held place.slot ≡ Some (Some h)
        → c.snapshot ≤ h.id → IsLiveAt live key place
    others_since key place h other has there new =
        let before : finite.get index key ≡ Some place = sym (gains.others_stay key other) ∙ has in
        let e = entered index store headers partial key place before in
        let one : e.header ≡ h = some_same e.header h (some_same (Some e.header) (Some h) (sym (gains.stands place.slot e.header e.there) ∙ there)) in
        live_still key place (finds.since_live key place e.header before e.there (omega (arith, new, ap (λ (x : HeaderValue). x.id) one)))

    pub gain_finds : FindsSoFar first held later next now after roots
    gain_finds = record {
      stood = λ slot h there old. stays slot h old (gains.came slot h there);
      followed = λ key place has is_live. elim (gains.decided key) [
        | inl p ↦ seen key place (gains.nodes (IsLive later live) (λ k root. kept k (finds.roots_live k root)) key p)
        | inr other ↦ others_followed key place other has is_live
      ];
      since_live = λ key place h has there new. elim (gains.decided key) [
        | inl p ↦ (gains.marks key place).1 (inr p)
        | inr other ↦ others_since key place h other has there new
      ];
      roots_live = λ key root. elim (gains.roots_are key root) [ inl was ↦ kept key (finds.roots_live key was) | inr p ↦ gained key p ];
      before_live = All-weaker (λ (r : RootKey). IsLive index c.live r.key) (λ (r : RootKey). IsLive later live r.key) (λ r is. kept r.key is) roots finds.before_live;
    }
      where
        seen : (key : List ℕ) (place : Place) → IsDataKey key ⊎ HasChildren (IsLive later live) key → IsFollowed held later next key place
        seen key place (inl leaf) = inl leaf
        seen key place (inr children) = inr (inl children)

        stays : (slot : ℕ) (h : HeaderValue) → h.id < c.snapshot → (slice_get store.held slot ≡ Some (Some h)) ⊎ (c.snapshot ≤ h.id) → slice_get first slot ≡ Some (Some h)
        stays slot h old (inl there) = finds.stood slot h there old
        stays slot h old (inr new) = absurd (omega (arith, old, new))

-- ---- a segment whose children are pinned

module _ (Q : List ℕ → Type 0) (pins : PinMap) (has : (key : List ℕ) → IsPartKey (Writing pins) key → Q key) where
  pinned_children : (level : ℕ) (cs : List Child) → AllByRecursion (λ c. has_pin pins c.key c.pin ≡ true) (map (child_pin level) cs) → All Q (map (child_key level) cs)
  pinned_children level [] pinned k d within = absurd (omega (arith, within))
  pinned_children level (c ∷ cs) pinned zero d within =
      has (child_pin level c).key ((child_pin level c).pin, pin_found (child_pin level c).pin (finite.get pins (child_pin level c).key) pinned.0)
  pinned_children level (c ∷ cs) pinned (suc k) d within = pinned_children level cs pinned.1 k d (omega (arith, within))

  pub pinned_node : (kind : Kind) (s : Segment) → IsOfKind kind s → AllByRecursion (λ c. has_pin pins c.key c.pin ≡ true) (children_by kind s)
      → IsDataKey (segment_key kind s) ⊎ HasChildren Q (segment_key kind s)
  pinned_node Leaf s right pinned = inl refl
  pinned_node Tree s right pinned = inr (record {
    node = contents_in s.bytes;
    right = right.bytes.node;
    key_is = ap (λ (bytes : List ℕ). key_of 1 (sha256 bytes)) (sym right.bytes.spelled);
    children = subst (λ (l : ℕ). All Q (map (child_key l) (contents_in s.bytes).children)) right.level (pinned_children s.level (contents_in s.bytes).children pinned);
  })

-- ---- once it has marked

-- its live keys stay as they are, so it goes on
pub marked_on : (first held : List (Option HeaderValue)) (index : PlaceMap) (before after : Collection) (names : NameMap) (parts : List Part) (roots : RootKeys)
    → HasMarkedAll before.stage → after.live ≡ before.live
    → after.snapshot ≡ before.snapshot → FindsSoFar first held index before names parts roots → FindsSoFar first held index after names parts roots
marked_on first held index before after names parts roots marked live snapshot finds = record {
  stood = λ slot h there old. finds.stood slot h there (omega (arith, old, snapshot));
  followed = λ key place has is_live. by_case key place (finds.followed key place has (subst (λ (l : LiveKeys). IsLiveAt l key place) live is_live));
  since_live = λ key place h has there new. subst (λ (l : LiveKeys). IsLiveAt l key place) (sym live) (finds.since_live key place h has there (omega (arith, new, snapshot)));
  roots_live = λ key root. subst (λ (l : LiveKeys). IsLive index l key) (sym live) (finds.roots_live key root);
  before_live = subst (λ (l : LiveKeys). All (λ (r : RootKey). IsLive index l r.key) roots) (sym live) finds.before_live;
}
  where
    by_case : (key : List ℕ) (place : Place) → IsFollowed held index before key place → IsFollowed held index after key place
    by_case key place (inl leaf) = inl leaf
    by_case key place (inr (inl children)) = inr (inl (subst (λ (l : LiveKeys). HasChildren (IsLive index l) key) (sym live) children))
    by_case key place (inr (inr ahead)) = absurd (ahead.ahead (all_passed before.stage marked place.level place.slot))

pub found_trees : (first held : List (Option HeaderValue)) (index : PlaceMap) (c : Collection) (names : NameMap) (parts : List Part) (roots : RootKeys)
    → FindsSoFar first held index c names parts roots → HasMarkedAll c.stage
    → FindsTrees index c.live (roots ++ roots_of names parts)
found_trees first held index c names parts roots finds marked = record {
  roots_are = All-append (λ (r : RootKey). IsLive index c.live r.key) roots (roots_of names parts) finds.before_live
      (λ k d within. finds.roots_live (get_or (roots_of names parts) k d).key
      (root_live names parts (get_or (roots_of names parts) k d) (Contains-get_or (roots_of names parts) k d within)));
  closed = λ key is. by_case key is.0 (finds.followed key is.0 is.1.0 is.1.1);
}
  where
    by_case : (key : List ℕ) (place : Place) → IsFollowed held index c key place → IsDataKey key ⊎ HasChildren (IsLive index c.live) key
    by_case key place (inl leaf) = inl leaf
    by_case key place (inr (inl children)) = inr children
    by_case key place (inr (inr ahead)) = absurd (ahead.ahead (all_passed c.stage marked place.level place.slot))

-- Why a store was not opened again, as reads since the start of the call showed.
use Rattle.backup_engine.proofs.Prelude.{◌≡◌, ◌⊎◌, inl, inr, ℕ, List, [], ◌∷◌, None, Some, refl, Shows, DiskView, PlaceMap, Why, Top, HasPlace, IsVisitRefusal, WasRead, top_key, roots_wider, visits_wider, IsOpenRefusal, IsRoomRefusal, IsShort, Refusal, Corrupt, Damaged, DiskRead, DiskWrite, Memory, Missing, HasNoRoom}
use Rattle.recovery.specs.Room.{IsStuck}
use Rattle.backup_engine.specs.Reopening.{IsBarrier, IsReadFor}

-- ---- what is shown by one thing is shown by another

module _ (shown other : (List ℕ → Type 0) → Type 0) (size : ℕ) (each : (P : List ℕ → Type 0) → shown P → other P) (index : PlaceMap) where
  abbrev read_so : (key bytes : List ℕ) → IsReadFor shown size index key bytes → IsReadFor other size index key bytes
  read_so key bytes is = record { place = is.place; place_is = is.place_is; right = is.right; long = is.long; there = each _ is.there }

  barrier_so : (ahead : List Top) (refusal : Refusal) → IsBarrier shown size index ahead refusal → IsBarrier other size index ahead refusal
  barrier_so (t ∷ ts) (Missing key) is = is
  barrier_so (t ∷ ts) (Corrupt slot offset count want got) is =
      (is.0, is.1, is.2, is.3, record { bytes = is.4.bytes; long = is.4.long; digest_is = is.4.digest_is; there = each _ is.4.there })
  barrier_so (t ∷ ts) (Damaged at why) is =
      let was = is.1 in
      (is.0, record { bytes = was.bytes; was_read = read_so _ was.bytes was.was_read; at_is = was.at_is; digest = was.digest; wrong = was.wrong })
  barrier_so ahead refusal is = absurd is

pub room_so : (shown other : (List ℕ → Type 0) → Type 0) (size : ℕ) → ((P : List ℕ → Type 0) → shown P → other P) → (refusal : Refusal) → HasNoRoom shown size refusal →
    HasNoRoom other size refusal
room_so shown other size each refusal is = record {
  store = is.store;
  right = each _ is.right;
  valid = is.valid;
  few = is.few;
  index = is.index;
  index_is = is.index_is;
  before = is.before;
  at = is.at;
  rest = is.rest;
  names_are = is.names_are;
  visited = is.visited;
  visits = roots_wider (IsReadFor shown size is.index) (IsReadFor other size is.index) (HasPlace (Some is.index)) (HasPlace (Some is.index)) is.before is.visited is.visits
      (read_so shown other size each is.index) (λ key has. has);
  visited_there = is.visited_there;
  ahead = is.ahead;
  way = visits_wider (IsReadFor shown size is.index) (IsReadFor other size is.index) (HasPlace (Some is.index)) (HasPlace (Some is.index)) _ is.visited_there is.ahead is.way
      (read_so shown other size each is.index) (λ key has. has);
  cause = barrier_so shown other size each is.index is.ahead refusal is.cause;
}

-- ---- as an opening tells it

module _ (old new : DiskView) where
  module _ (index : PlaceMap) where
    abbrev read_for : (key bytes : List ℕ) → WasRead (Some index) old new key bytes → IsReadFor (Shows old new) old.size index key bytes
    read_for key bytes was = record { place = was.place; place_is = was.copy.place_is index refl; right = was.copy.right; long = was.copy.long; there = was.copy.there }

    abbrev Stops : List Top → Refusal → Type 0
    Stops ahead refusal = IsVisitRefusal (Some index) (λ at why image. ⊥) old new ahead refusal

    abbrev Bars : List Top → Refusal → Type 0
    Bars ahead refusal = IsBarrier (Shows old new) old.size index ahead refusal

    missing : (ahead : List Top) (key : List ℕ) → Stops ahead (Missing key) → Bars ahead (Missing key)
    missing [] key is = absurd is
    missing (t ∷ ts) key (inl leaf) = (leaf.1.0, leaf.1.1 index refl)
    missing (t ∷ ts) key (inr node) = (node.1.0, node.1.1 index refl)

    corrupt : (ahead : List Top) (slot offset count : ℕ) (want got : List ℕ) → Stops ahead (Corrupt slot offset count want got) → Bars ahead (Corrupt slot offset count want got)
    corrupt [] slot offset count want got is = absurd is
    corrupt (t ∷ ts) slot offset count want got (inl leaf) = absurd leaf.1
    corrupt (t ∷ ts) slot offset count want got (inr node) = (node.0, node.1.want_is, node.1.differ, node.1.placed, node.1.found)

    -- the map of the index is known, so it has no damage
    known_map : Some index ≡ None → ⊥
    known_map is = cc

    damaged : (ahead : List Top) (at : ℕ) (why : Why) → Stops ahead (Damaged at why) → Bars ahead (Damaged at why)
    damaged [] at why is = absurd is
    damaged (t ∷ ts) at why (inl leaf) = absurd (known_map leaf.1.unknown)
    damaged (t ∷ ts) at why (inr (node, inl damage)) = absurd (known_map damage.unknown)
    damaged (t ∷ ts) at why (inr (node, inr wrong)) =
        (node, record { bytes = wrong.bytes; was_read = read_for (top_key t) wrong.bytes wrong.was_read; at_is = wrong.at_is; digest = wrong.digest; wrong = wrong.wrong })

  module _ (short : IsShort (Shows old new) old.size) where
    none_for : (refusal : Refusal) (stuck : IsStuck old new short refusal) → IsBarrier (Shows old new) old.size short.index stuck.ahead refusal →
        HasNoRoom (Shows old new) old.size refusal
    none_for refusal stuck cause = record {
      store = short.store;
      right = short.right;
      valid = short.valid;
      few = short.few;
      index = short.index;
      index_is = short.index_is;
      before = stuck.before;
      at = stuck.at;
      rest = stuck.rest;
      names_are = stuck.names_are;
      visited = stuck.visited;
      visits = roots_wider (WasRead (Some short.index) old new) (IsReadFor (Shows old new) old.size short.index) (HasPlace (Some short.index)) (HasPlace (Some short.index))
          stuck.before stuck.visited stuck.visits
          (read_for short.index) (λ key has. has);
      visited_there = stuck.visited_there;
      ahead = stuck.ahead;
      way = visits_wider (WasRead (Some short.index) old new) (IsReadFor (Shows old new) old.size short.index) (HasPlace (Some short.index)) (HasPlace (Some short.index)) _
          stuck.visited_there stuck.ahead stuck.way
          (read_for short.index) (λ key has. has);
      cause = cause;
    }

    -- why no room is made
    pub room_cause : (refusal : Refusal) → IsRoomRefusal old new short refusal → IsOpenRefusal (Shows old new) old.size refusal ⊎ HasNoRoom (Shows old new) old.size refusal
    room_cause Memory is = inl tt
    room_cause DiskRead is = inl tt
    room_cause DiskWrite is = inl tt
    room_cause (Corrupt slot offset count want got) is = inr (none_for _ is (corrupt short.index is.ahead slot offset count want got is.cause))
    room_cause (Missing key) is = inr (none_for _ is (missing short.index is.ahead key is.cause))
    room_cause (Damaged at why) is = inr (none_for _ is (damaged short.index is.ahead at why is.cause))
    room_cause refusal is = absurd is

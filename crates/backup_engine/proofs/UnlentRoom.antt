-- Room that was made, or wasn't, on a disk that was lent: so it is of the disk.
use Rattle.backup_engine.proofs.Prelude.{◌≡◌, inl, inr, List, [], ◌∷◌, ℕ, Option, Some, PlaceMap, Shows, CrashLeaves, DiskView, OnlyReads, Why, Top, HasPlace, IsVisitRefusal, WasRead, top_key, roots_wider, visits_wider, IsRoomRefusal, IsShort, RoomMade, RoomUnmade, Refusal, Memory, DiskRead, DiskWrite, Corrupt, Missing, Damaged}
use Rattle.read_steps.specs.Walking.{IsLookupRefusal}
use Rattle.recovery.specs.Room.{FreesAfterAll, IsStuck, WalksAll}
use Rattle.backup_engine.proofs.Kept.{later_back}
use Rattle.backup_engine.proofs.Unlent.{next_refusal, read, shows}

module _ (loans loans_now : List ℕ) (v w : DiskView) where
  abbrev lent : DiskView
  lent = record v { loans = loans }

  abbrev lent_now : DiskView
  lent_now = record w { loans = loans_now }

  abbrev short_back : IsShort (Shows lent lent_now) v.size → IsShort (Shows v w) v.size
  short_back is = record {
    store = is.store;
    right = shows loans loans_now v w _ is.right;
    valid = is.valid;
    few = is.few;
    index = is.index;
    index_is = is.index_is;
  }

  abbrev walk_back : (is : IsShort (Shows lent lent_now) v.size) → WalksAll lent lent_now is → WalksAll v w (short_back is)
  walk_back is walk = record {
    visited = walk.visited;
    visits = roots_wider (WasRead _ lent lent_now) (WasRead _ v w) (HasPlace (Some is.index)) (HasPlace (Some is.index)) _ walk.visited walk.visits (read loans loans_now v w _)
        (λ key has. has);
  }

  crashes_back : (P : List ℕ → Type 0) → CrashLeaves P lent lent_now → CrashLeaves P v w
  crashes_back P leaves = record { now = leaves.now; since = leaves.since }

  pub made_back : v.loans ≡ w.loans → RoomMade lent lent_now → RoomMade v w
  made_back same made = record {
    later = later_back loans loans_now v w same made.later;
    faults_are = made.faults_are;
    durable = made.durable;
    short = short_back made.short;
    walk = walk_back made.short made.walk;
    freed = made.freed;
    after = made.after;
    frees = made.frees;
    content = made.content;
    crash = λ given told. crashes_back _ (made.crash given told);
  }

  -- ---- a walk that is stuck

  module _ (known : Option PlaceMap) where
    abbrev breaks : ℕ → Why → List ℕ → Type 0
    breaks at why image = ⊥

    lookup_back : (key : List ℕ) (refusal : Refusal) → IsLookupRefusal known breaks lent lent_now key refusal → IsLookupRefusal known breaks v w key refusal
    lookup_back key DiskRead is = is
    lookup_back key (Missing k) is = is
    lookup_back key (Damaged at why) is = record { unknown = is.unknown; there = shows loans loans_now v w _ is.there }
    lookup_back key refusal is = absurd is

    visit_back : (ahead : List Top) (refusal : Refusal) → IsVisitRefusal known breaks lent lent_now ahead refusal → IsVisitRefusal known breaks v w ahead refusal
    visit_back [] refusal is = absurd is
    visit_back (t ∷ ts) refusal (inl leaf) = inl (leaf.0, lookup_back (top_key t) refusal leaf.1)
    visit_back (t ∷ ts) refusal (inr node) = inr (node.0, next_refusal loans loans_now v w known (t ∷ ts) refusal node.1)

  stuck_back : (is : IsShort (Shows lent lent_now) v.size) (refusal : Refusal) → IsStuck lent lent_now is refusal → IsStuck v w (short_back is) refusal
  stuck_back is refusal stuck = record {
    before = stuck.before;
    at = stuck.at;
    rest = stuck.rest;
    names_are = stuck.names_are;
    visited = stuck.visited;
    visits = roots_wider (WasRead _ lent lent_now) (WasRead _ v w) (HasPlace (Some is.index)) (HasPlace (Some is.index)) _ stuck.visited stuck.visits (read loans loans_now v w _)
        (λ key has. has);
    visited_there = stuck.visited_there;
    ahead = stuck.ahead;
    way = visits_wider (WasRead _ lent lent_now) (WasRead _ v w) (HasPlace (Some is.index)) (HasPlace (Some is.index)) _ stuck.visited_there stuck.ahead stuck.way
        (read loans loans_now v w _) (λ key has. has);
    cause = visit_back (Some is.index) stuck.ahead refusal stuck.cause;
  }

  refusal_back : (is : IsShort (Shows lent lent_now) v.size) (refusal : Refusal) → IsRoomRefusal lent lent_now is refusal → IsRoomRefusal v w (short_back is) refusal
  refusal_back is Memory cause = cause
  refusal_back is DiskRead cause = cause
  refusal_back is DiskWrite cause = cause
  refusal_back is (Corrupt slot offset count want got) cause = stuck_back is (Corrupt slot offset count want got) cause
  refusal_back is (Missing key) cause = stuck_back is (Missing key) cause
  refusal_back is (Damaged at why) cause = stuck_back is (Damaged at why) cause
  refusal_back is refusal cause = absurd cause

  frees_back : (is : IsShort (Shows lent lent_now) v.size) (refusal : Refusal) (freed : List ℕ) → FreesAfterAll refusal lent lent_now is freed →
      FreesAfterAll refusal v w (short_back is) freed
  frees_back is refusal freed (inl none) = inl none
  frees_back is refusal freed (inr some) = inr (some.0, (walk_back is some.1.0, some.1.1))

  only_back : v.loans ≡ w.loans → OnlyReads lent lent_now → OnlyReads v w
  only_back same only = record {
    later = later_back loans loans_now v w same only.later;
    content_is = only.content_is;
    images_are = only.images_are;
    since_are = only.since_are;
  }

  pub unmade_back : (refusal : Refusal) → v.loans ≡ w.loans → RoomUnmade refusal lent lent_now → RoomUnmade refusal v w
  unmade_back refusal same unmade = record {
    later = later_back loans loans_now v w same unmade.later;
    faults_are = unmade.faults_are;
    short = short_back unmade.short;
    cause = refusal_back unmade.short refusal unmade.cause;
    only = elim unmade.only [ inl write ↦ inl write | inr reads ↦ inr (only_back same reads) ];
    freed = unmade.freed;
    frees = frees_back unmade.short refusal unmade.freed unmade.frees;
    content = unmade.content;
    images = unmade.images;
    crash = λ given told. crashes_back _ (unmade.crash given told);
    files = unmade.files;
    spares = unmade.spares;
  }

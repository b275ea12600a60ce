-- What a step of a sweep leaves of the running store, over a disk that tells its content: its invariant goes on, and no live key is lost.
use Rattle.gc_sweep.proofs.Prelude.{◌≡◌, ℕ, zero, suc, ◌+◌, List, [], ◌∷◌, map, Option, Some, refl, sym, ◌∙◌, subst, arith, AllByRecursion, Kind, Place, PlaceMap, Contents, Segment, entries_from, segment_key, HeaderValue, Done, DiskView, LiveKeys, IsIn, Stands, Files, with_all_freed, Store, with_entries, HasReserve, HasKey, IsPartialIndexOf, KeepsCopies, MaySeal, with_sealed, HasNewest, some_same, still_has, Represents, Tables, WritesCopies, IsCopied, IsLive, GivesBack, HasFreed, HasNoEntryInAny}
use Rattle.std.specs.Prelude.{slice_get}
use Rattle.std.specs.FinMap as finite
use Rattle.std.specs.List.{Contains}
use Rattle.actor_parts.specs.declared.part.Part.{Part}
use Rattle.dd_disk.specs.Moves.{StandsFor}
use Rattle.dd_disk.specs.View.{IsLater}
use Rattle.ingest_steps.specs.Sealing.{FitBeside, SealsIndexed}
use Rattle.store_model.specs.Collisions.{ByteSet}
use Rattle.store_model.specs.Image.{IsValidFor}
use Rattle.store_model.specs.Reserve.{IsReachable}
use Rattle.store_model.specs.Slots.{HasFree}
use Rattle.store_model.proofs.FreedAll.{free_all, reserve_all, valid_all}
use Rattle.store_model.proofs.FreedFiles.{reserve_by}
use Rattle.store_model.proofs.Valid.{valid_sealed}
use Rattle.store_state.specs.Invariant.{CoreInvariant, HoldsPart}
use Rattle.store_state.proofs.Parts.{parts_kept}
use Rattle.gc_sweep.proofs.Released.{none_held_any}
use Rattle.gc_sweep.proofs.InSlots.{live_anywhere}

-- each key that was copied is live
pub live_keys : (index : PlaceMap) (live : LiveKeys) (held : List (Option HeaderValue)) (image : List ℕ) (kind : Kind) (xs : List Segment)
    → AllByRecursion (IsCopied index live held image kind) xs → (key : List ℕ)
    → Contains (map (segment_key kind) xs) key → IsLive index live key
live_keys index live held image kind [] all key there = absurd (omega (arith, there.1))
live_keys index live held image kind (x ∷ xs) all key (zero, within, is) = subst (IsLive index live) is all.0.is_live
live_keys index live held image kind (x ∷ xs) all key (suc k, within, is) = live_keys index live held image kind xs all.1 key (k, omega (arith, within), is)

-- The tables are those of a store of the same files, and the map of the index is its; the invariant goes on. Just the same keys are live, and
-- their newest copies are what they were.
pub record LeavesStore (index later : PlaceMap) (store store_now : Store) (files : Files) (parts : List Part) (image now : List ℕ) (among : ByteSet) (u : Tables) (new : DiskView)
    (live : LiveKeys) : Type 0 where
  pub represents : Represents store_now (Some later) u
  pub valid : IsValidFor new.size store_now
  pub stands : StandsFor (Stands (IsIn among) store_now files) new
  pub core : CoreInvariant later store_now files parts now
  pub stays : (key : List ℕ) → IsLive index live key → IsLive later live key
  pub was : (key : List ℕ) → IsLive later live key → IsLive index live key
  pub copies : (key : List ℕ) (level : ℕ) (bytes : List ℕ) → IsLive index live key → HasNewest store.held key level bytes image → HasNewest store_now.held key level bytes now

module _ (index : PlaceMap) (store : Store) (files : Files) (parts : List Part) (image now : List ℕ) (among : ByteSet) (t u : Tables) (old new : DiskView) (live : LiveKeys)
    (core : CoreInvariant index store files parts image) (represents : Represents store (Some index) t) (valid : IsValidFor old.size store) (content : old.content ≡ Some image)
    (content_now : new.content ≡ Some now)
    (stands : StandsFor (Stands (IsIn among) store files) old) where
  has_live : (key : List ℕ) → IsLive index live key → HasKey index key
  has_live key is = (is.0, is.1.0)

  -- ---- keys that are not live left the index

  -- all that is needed is live
  module _ (later : PlaceMap) (same : u ≡ t) (same_size : new.size ≡ old.size) (after : StandsFor (Stands (IsIn among) store files) new)
      (keeps : (key : List ℕ) (level : ℕ) (bytes : List ℕ) → HasNewest store.held key level bytes image → HasNewest store.held key level bytes now)
      (stays : (key : List ℕ) → IsLive index live key → finite.get later key ≡ finite.get index key)
      (had : (key : List ℕ) (place : Place) → finite.get later key ≡ Some place → finite.get index key ≡ Some place)
      (needed : (key : List ℕ) → IsReachable files key → IsLive index live key) (held : AllByRecursion (HoldsPart (IsLive index live) store.held image) parts) where
    live_on : (key : List ℕ) → IsLive index live key → IsLive later live key
    live_on key is = (is.0, (stays key is ∙ is.1.0, is.1.1))

    partial : IsPartialIndexOf store.held later
    partial key place is = core.index_is_newest key place (had key place is)

    pub copy_leaves : LeavesStore index later store store files parts image now among u new live
    copy_leaves = record {
      represents = subst (λ (x : Tables). Represents store (Some later) x) (sym same)
          (record {
            slots_are = represents.slots_are;
            names_are = represents.names_are;
            slots_hold = represents.slots_hold;
            index_is_newest = λ m is. subst (IsPartialIndexOf store.held) (some_same later m is) partial;
          });
      valid = subst (λ (n : ℕ). IsValidFor n store) (sym same_size) valid;
      stands = after;
      core = record {
        index_is_newest = partial;
        files_are_indexed = λ key reach. let on = live_on key (needed key reach) in (on.0, on.1.0);
        pins_are_closed = parts_kept (IsLive index live) (HasKey later) store store image now (λ key level bytes is has. keeps key level bytes has)
            (λ key is. let on = live_on key is in (on.0, on.1.0)) parts held;
        reserve_holds = reserve_by (HasKey index) (HasKey later) store.held (λ key has. (has.0, had key has.0 has.1)) core.reserve_holds;
        has_free = core.has_free;
      };
      stays = live_on;
      was = λ key is. (is.0, (had key is.0 is.1.0, is.1.1));
      copies = λ key level bytes is has. keeps key level bytes has;
    }

  -- ---- what was copied was written

  module _ (slot : ℕ) (filled : Contents) (writes : WritesCopies t old.size (Some index) slot filled u) (goes : IsLater old new)
      (moves : SealsIndexed t (t.held.last_id + 1) filled Done old new)
      (may : AllByRecursion (MaySeal (IsIn among) filled.kind) filled.segments) (fit : FitBeside (IsIn among) index filled.kind filled.segments store image)
      (in_index : (key : List ℕ) → HasKey (with_entries filled.kind slot (entries_from 0 filled.segments) index) key → HasKey index key) where
    abbrev more : PlaceMap
    more = with_entries filled.kind slot (entries_from 0 filled.segments) index

    abbrev written : Store
    written = with_sealed (t.held.last_id + 1) filled.kind filled.segments store

    after : Represents written (Some more) u
    after = writes.written.represents.store_has store represents valid core.has_free

    copies_on : KeepsCopies (HasKey index) store image written now
    copies_on =
        (moves.holds among store (Some index) index files image now represents content content_now (stands.each image (old.as_read image content)) may fit).0

    keys_on : (key : List ℕ) → HasKey index key → HasKey more key
    keys_on key has = still_has filled.kind slot (entries_from 0 filled.segments) index key has

    pub flush_leaves : HasReserve (HasKey more) written.held → HasFree written.held → LeavesStore index more store written files parts image now among u new live
    flush_leaves reserve free = record {
      represents = after;
      valid = subst (λ (n : ℕ). IsValidFor n written) (sym goes.size_is)
          (valid_sealed (t.held.last_id + 1) filled.kind filled.segments store (writes.written.can.store_has store represents valid core.has_free) old.size valid);
      stands = (moves.moves among store (Some index) index files image represents content may core.files_are_indexed fit stands).arrives;
      core = record {
        index_is_newest = after.index_is_newest more refl;
        files_are_indexed = λ key reach. keys_on key (core.files_are_indexed key reach);
        pins_are_closed = parts_kept (HasKey index) (HasKey more) store written image now copies_on keys_on parts core.pins_are_closed;
        reserve_holds = reserve;
        has_free = free;
      };
      stays = λ key is. let on = keys_on key (has_live key is) in (on.0, (on.1, live_anywhere live key is.0 on.0 is.1.1));
      was = λ key is. let before = in_index key (is.0, is.1.0) in (before.0, (before.1, live_anywhere live key is.0 before.0 is.1.1));
      copies = λ key level bytes is has. copies_on key level bytes (has_live key is) has;
    }

  -- ---- sources were given back

  module _ (slots : List ℕ) (none : HasNoEntryInAny index slots) (freed : HasFreed t slots u) (goes : IsLater old new) (gives : GivesBack t slots Done old new) where
    abbrev fewer : Store
    fewer = with_all_freed slots store

    less : Represents fewer (Some index) u
    less = freed.represents store (Some index) (λ m is. subst (λ (x : PlaceMap). HasNoEntryInAny x slots) (some_same index m is) none) represents

    copies_left : KeepsCopies (HasKey index) store image fewer now
    copies_left =
        gives.holds among store index files image now represents core.files_are_indexed none content content_now (stands.each image (old.as_read image content))

    pub release_leaves : LeavesStore index index store fewer files parts image now among u new live
    release_leaves = record {
      represents = less;
      valid = subst (λ (n : ℕ). IsValidFor n fewer) (sym goes.size_is) (valid_all old.size slots store valid);
      stands = (gives.moves among store index files represents core.files_are_indexed none stands).arrives;
      core = record {
        index_is_newest = less.index_is_newest index refl;
        files_are_indexed = core.files_are_indexed;
        pins_are_closed = parts_kept (HasKey index) (HasKey index) store fewer image now copies_left (λ key has. has) parts core.pins_are_closed;
        reserve_holds = reserve_all (HasKey index) slots store (none_held_any store index slots core.index_is_newest none) core.reserve_holds;
        has_free = omega (arith, core.has_free, free_all slots store);
      };
      stays = λ key is. is;
      was = λ key is. is;
      copies = λ key level bytes is has. copies_left key level bytes (has_live key is) has;
    }

-- An opening over a disk that was lent to a core: so it is of the disk.
use Rattle.backup_engine.proofs.Prelude.{◌≡◌, inl, inr, List, ◌∷◌, ℕ, sym, MutBor, Reads, Shows, DiskView, IsLater, RoomMade, Refusal, IsNotRead, OpensNone, later_on}
use Rattle.dd_disk.specs.Ending.{Ending}
use Rattle.backup_engine.proofs.Kept.{later_back}
use Rattle.backup_engine.proofs.Returned.{rest_same}
use Rattle.backup_engine.proofs.Unlent.{open_refusal, shows}
use Rattle.backup_engine.proofs.UnlentRoom.{made_back, unmade_back}

-- ---- calls that read

module _ (loans loans_now : List ℕ) (v w : DiskView) (same : v.loans ≡ w.loans) where
  abbrev lent : DiskView
  lent = record v { loans = loans }

  abbrev lent_now : DiskView
  lent_now = record w { loans = loans_now }

  reads_back : (e : Ending) → Reads e lent lent_now → Reads e v w
  reads_back e reads = record {
    only = record {
      later = later_back loans loans_now v w same reads.only.later;
      content_is = reads.only.content_is;
      images_are = reads.only.images_are;
      since_are = reads.only.since_are;
    };
    faults_are = reads.faults_are;
  }

  pub not_read_back : (refusal : Refusal) → IsNotRead refusal lent lent_now → IsNotRead refusal v w
  not_read_back refusal is = record {
    cause = open_refusal (Shows lent lent_now) (Shows v w) (shows loans loans_now v w) v.size refusal is.cause;
    given_up = shows loans loans_now v w _ is.given_up;
    reads = reads_back _ is.reads;
  }

-- ---- what is lent

module _ (D : Type 0) (view : D → DiskView) where
  abbrev pub lent_view : MutBor D → DiskView
  lent_view b = record (view b.now) { loans = b.ghost_name ∷ (view b.now).loans }

  -- the loans below are those of before, where the disk is the same one, later
  pub below : (b : MutBor D) (n : ℕ) (w : DiskView) → IsLater (lent_view b) (record w { loans = n ∷ w.loans }) → (view b.now).loans ≡ w.loans
  below b n w later = sym (rest_same n b.ghost_name w.loans (view b.now).loans later.loans_are)

  module _ (first : MutBor D) (n : ℕ) (w : DiskView) where
    abbrev pub lent_end : DiskView
    lent_end = record w { loans = n ∷ w.loans }

    -- ---- no core was opened

    pub none_later : (refusal : Refusal) → OpensNone (MutBor D) lent_view refusal (lent_view first) lent_end → IsLater (lent_view first) lent_end
    none_later refusal (inl is) = is.0.reads.only.later
    none_later refusal (inr (inl is)) = later_on (lent_view first) (lent_view is.0) lent_end is.1.0.later is.1.1.reads.only.later
    none_later refusal (inr (inr is)) = is.later

    pub none_back : (refusal : Refusal) → OpensNone (MutBor D) lent_view refusal (lent_view first) lent_end → OpensNone D view refusal (view first.now) w
    none_back refusal (inl is) = inl (not_read_back _ _ (view first.now) w (below first n w is.0.reads.only.later) refusal is.0, is.1)
    none_back refusal (inr (inl is)) =
        inr (inl (
          is.0.now,
          (
            made_back _ _ (view first.now) (view is.0.now) (below first is.0.ghost_name (view is.0.now) is.1.0.later) is.1.0,
            not_read_back _ _ (view is.0.now) w (below is.0 n w is.1.1.reads.only.later) refusal is.1.1,
          ),
        ))
    none_back refusal (inr (inr is)) = inr (inr (unmade_back _ _ (view first.now) w refusal (below first n w is.later) is))

  -- ---- one was

  pub made_there : (first mid : MutBor D) → RoomMade (lent_view first) (lent_view mid) → RoomMade (view first.now) (view mid.now)
  made_there first mid made = made_back _ _ (view first.now) (view mid.now) (below first mid.ghost_name (view mid.now) made.later) made

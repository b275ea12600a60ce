-- What an image has while a record is written, and after: a cell alone changes, or the other half of the journal too.
use Rattle.ingest_steps.proofs.Prelude.{◌≡◌, ◌⊎◌, inl, inr, ℕ, ◌-◌, ◌<◌, ◌≤◌, Bool, true, false, List, [], ◌∷◌, ◌++◌, refl, sym, ◌∙◌, ap, subst, arith, Change, RecordValue, SelectorValue, half_cells, NameMap, HasPlace, puts_of, SameButNext, Appends, IsAppended, SameButHalf, Checkpoints, IsCheckpointed, JournalValue, IsTold, Store, names_of, HasJournal, appended, record_of, with_checkpoint, SameTo, SameButJournal, IsAbove, names_checkpoint}
use Rattle.disk_format.specs.declared.numbers.TheConstants.{FIRST_HALF}
use Rattle.disk_format.specs.Cells.{IsName}
use Rattle.base_model.specs.Bytes.{byte_at}
use Rattle.disk_format.specs.Layout.{selector_at}
use Rattle.journal_cells.specs.Appending.{CanFollow}
use Rattle.journal_cells.specs.Checkpoints.{HoldsStill, IsFoundIn, IsOtherOpen, HasMoved, next_selector}
use Rattle.journal_cells.specs.Journal.{IsJournalOf, with_record}
use Rattle.store_model.specs.Journal.{HoldsRecords, KnowsOther, last_of}
use Rattle.store_model.specs.Steps.{with_other}
use Rattle.store_model.proofs.Frames.{selector_kept, older_kept, other_kept}
use Rattle.store_model.proofs.NameChanges.{record_rises}
use Rattle.store_model.proofs.Once.{other_known}

-- ---- frames

pub next_alone : (journal : JournalValue) (old new : List ℕ) → journal.half ≤ 1 → journal.count < half_cells → SameButNext journal old new → SameButJournal old new
next_alone journal old new low room same = record {
  size = same.size;
  format = same.before 0 512 (omega arith);
  slots = λ p n above. same.after p n (omega (arith, low, room, above));
}

pub half_alone : (half : ℕ) (old new : List ℕ) → half ≤ 1 → SameButHalf half old new → SameButJournal old new
half_alone half old new low same = record {
  size = same.size;
  format = same.same 0 512 (inl (omega arith)) (inl (omega arith));
  slots = λ p n above. same.same p n (inr (omega (arith, low, above))) (inr (omega (arith, low, above)));
}

-- ---- a record in a free cell

module _ (name : List ℕ) (change : Change) (Base : Store → List ℕ → Type 0) (above : IsAbove Base) (base : Store) (journal : JournalValue) (names : NameMap)
    (told : IsTold base.other_open base.selector base.records journal names journal.last) (room : journal.count < half_cells)
    (r : RecordValue) (is : r ≡ record_of name change base) (named : IsName name) (place : HasPlace (names_of base) name change) where
  -- the journal is that of the image
  journal_of : (image : List ℕ) → HasJournal base image → IsJournalOf journal base.records image
  journal_of image has = record {
    count = sym told.count;
    previous = sym told.previous;
    holds = subst (λ (h : ℕ). HoldsRecords h base.records image) (sym told.half) has.holds.records_are;
  }

  can_follow : (image : List ℕ) → HasJournal base image → CanFollow journal r base.records image
  can_follow image has = record {
    journal_is = journal_of image has;
    rises = subst (λ (v : RecordValue). last_of 0 base.records < v.sequence) (sym is) (record_rises name change base);
    taken = subst (λ (v : RecordValue). IsName v.name × HasPlace (names_of base) v.name v.change) (sym is) (named, place);
  }

  front : (old new : List ℕ) → SameButNext journal old new → SameTo FIRST_HALF old new
  front old new same p n within = same.before p n (omega (arith, within))

  pub alone : (old new : List ℕ) → HasJournal base old → SameButNext journal old new → SameButJournal old new
  alone old new has same = next_alone journal old new (omega (arith, told.half, has.holds.selector_is.0.half)) room same

  -- records of the half that counts, with the selectors of before
  has_these : (records : List RecordValue) (old new : List ℕ) → HasJournal base old → SameButNext journal old new → HoldsRecords journal.half records new
      → HasJournal (record base { records = records }) new
  has_these records old new has same holds = record {
    holds = record {
      selector_is = selector_kept old new (front old new same) base.selector has.holds.selector_is;
      older = older_kept old new (front old new same) base.selector has.holds.older;
      records_are = subst (λ (h : ℕ). HoldsRecords h records new) told.half holds;
    };
    other = other_kept old new (front old new same) base.other_open base.selector.half has.other;
  }

  -- the records of before, and none after them
  still : (old new : List ℕ) → Base base old → SameButNext journal old new → IsJournalOf journal base.records new → Base base new
  still old new was same of =
      let has = above.journal base old was in
      above.still base old new was (alone old new has same) base.selector base.other_open base.records refl
      (has_these base.records old new has same of.holds)

  -- and one more
  more : (old new : List ℕ) → HasJournal base old → SameButNext journal old new → IsJournalOf (with_record r journal) (base.records ++ r ∷ []) new
      → HasJournal (appended name change base) new
  more old new has same of =
      has_these (appended name change base).records old new has same
      (subst (λ (v : RecordValue). HoldsRecords journal.half (base.records ++ v ∷ []) new) is of.holds)

  pub append_after : (given c : List ℕ) → HasJournal base given → IsAppended journal r given c → HasJournal (appended name change base) c
  append_after given c has of = more given c has of.same (of.records_are base.records (can_follow given has))

  pub append_between : (given d c : List ℕ) → Base base given → Base base d → Appends journal r given d c
      → Base base c ⊎ (SameButJournal given c × HasJournal (appended name change base) c)
  append_between given d c before was (inl stays) = inl (still d c was stays.same (stays.records_are base.records (journal_of d (above.journal base d was))))
  append_between given d c before was (inr follows) =
      let has = above.journal base given before in
      elim (follows.records_are base.records (can_follow given has)) [
        | inl without ↦ inl (still given c before follows.same without)
        | inr with ↦ inr (alone given c has follows.same, more given c has follows.same with)
      ]

-- ---- a checkpoint

module _ (Base : Store → List ℕ → Type 0) (above : IsAbove Base) (store : Store) (journal : JournalValue) (names : NameMap)
    (told : IsTold store.other_open store.selector store.records journal names journal.last) where
  own_told : IsTold journal.other_open store.selector store.records journal names journal.last
  own_told = subst (λ (b : Bool). IsTold b store.selector store.records journal names journal.last) (sym told.other) told

  found_in : (image : List ℕ) → HasJournal store image → IsFoundIn journal names store.selector store.records image
  found_in image has = record {
    holds = has.holds;
    other = subst (λ (b : Bool). KnowsOther b journal.half image) (sym told.other)
        (subst (λ (h : ℕ). KnowsOther store.other_open h image) (sym told.half) has.other);
    told = own_told;
  }

  pub half_of : (old new : List ℕ) → SameButHalf (1 - journal.half) old new → SameButJournal old new
  half_of old new same = half_alone (1 - journal.half) old new (omega arith) same

  -- the journal stands still; the other gate is open only where it was
  checkpoint_still : (old new : List ℕ) → Base store old → SameButHalf (1 - journal.half) old new → HoldsStill journal store.selector store.records old new
      → Base store new ⊎ Base (with_other false store) new
  checkpoint_still old new was same stays = by (other_known store.selector.half new)
    where
      by : (is_open : Bool) × KnowsOther is_open store.selector.half new → Base store new ⊎ Base (with_other false store) new
      by (true, known) =
          let open_there : IsOtherOpen journal new = ap (λ (h : ℕ). byte_at (selector_at (1 - h)) new) told.half ∙ known.0 refl in
          let was_open : store.other_open ≡ true = sym told.other ∙ (stays.opens open_there).0 in
          inl (above.still store old new was (half_of old new same) store.selector store.other_open store.records refl
          (record { holds = stays.holds; other = subst (λ (b : Bool). KnowsOther b store.selector.half new) (sym was_open) known }))
      by (false, known) = inr (above.still store old new was (half_of old new same) store.selector false store.records refl (record { holds = stays.holds; other = known }))

  -- or the new one stands
  checkpoint_stands : (old new : List ℕ) → Base store old → SameButHalf (1 - journal.half) old new → HasMoved journal names new → Base (with_checkpoint store) new
  checkpoint_stands old new was same moved =
      let after : Store = with_checkpoint store in
      let selector_is : next_selector journal ≡ after.selector = cc in
      let puts_are : puts_of names ≡ after.records = ap puts_of told.names_are in
      let found = moved.found in
      let has : HasJournal
      (record store { selector = next_selector journal; other_open = true; records = puts_of names }) new = record { holds = found.holds; other = found.other } in
      above.still store old new was (half_of old new same) after.selector true after.records
      (names_checkpoint store (above.journal store old was).holds.records_are.right)
      (subst (λ (s : SelectorValue). HasJournal (record store { selector = s; other_open = true; records = after.records }) new) selector_is
      (subst (λ (rs : List RecordValue). HasJournal (record store { selector = next_selector journal; other_open = true; records = rs }) new) puts_are has))

  pub checkpoint_after : (given c : List ℕ) → Base store given → IsCheckpointed journal names given c → Base (with_checkpoint store) c
  checkpoint_after given c was is = checkpoint_stands given c was is.same (is.stands store.selector store.records (found_in given (above.journal store given was)))

  pub checkpoint_between : (given d c : List ℕ) → Base store given → Base store d → Checkpoints journal names given d c
      → (Base store c ⊎ Base (with_other false store) c) ⊎ Base (with_checkpoint store) c
  checkpoint_between given d c before was (inl stays) =
      inl (checkpoint_still d c was stays.same (stays.stands names store.selector store.records (found_in d (above.journal store d was))))
  checkpoint_between given d c before was (inr either) = elim (either.stands store.selector store.records (found_in given (above.journal store given before))) [
    | inl stays ↦ inl (checkpoint_still given c before either.same stays)
    | inr moved ↦ inr (checkpoint_stands given c before either.same moved)
  ]

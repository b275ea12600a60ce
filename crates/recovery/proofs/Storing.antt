-- How an empty store is written, on a disk whose content is blank.
use Rattle.recovery.proofs.Prelude.{◌≢◌, ◌⊎◌, inl, inr, ℕ, List, Some, refl, sym, ◌∙◌, ap, subst, byte_at, written, Known, KnownWith, FORMAT_GATE, IsSlotCount, size_of, format_cell, DiskView, OnlyReads, IsDurable, CrashLeaves, SteppedFrom, Done, Broken, CountsFault, Reads, Shows, Puts, Writes, TornFrom, counts_on, later_on, leaves_on, leaves_weaker, reads_leave, shown_content, IsBlankOf, IsFormatted, IsBlankOrFormatted, StaysBlank}
use Rattle.std.proofs.Common.{◌≡◌, option_map}
use Rattle.dd_disk.specs.Ending.{Ending, Refused, Unread}
use Rattle.dd_disk.specs.Writes.{Written}
use Rattle.dd_disk.specs.Moves.{Acts, Ends}
use Rattle.dd_disk.proofs.Later.{reads_on}
use Rattle.dd_disk.proofs.Writes.{IsUnrefused, writes_on}
use Rattle.recovery.specs.Formatting.{IsLeftByFormat, laid_out}
use Rattle.recovery.proofs.Formatted.{is_formatted, blank_or_formatted}

-- each image that a crash may leave has no store
abbrev pub AreBlank : ℕ → DiskView → Type 0
AreBlank slots v = (c : List ℕ) → v.images c → IsBlankOf slots c

-- an empty store is written, or the writes broke
abbrev pub WritesStore : ℕ → Ending → DiskView → DiskView → Type 0
WritesStore slots e old new = Writes (λ _ _. IsBlankOrFormatted slots) (λ _. IsFormatted slots) e old new

module _ (slots : ℕ) where
  -- ---- the cells

  -- what was laid out when it broke
  pub laid_broken : (old new : DiskView) → Known old.content (λ _. AreBlank slots old) → StaysBlank slots old new → CountsFault Broken old.faults new.faults →
      WritesStore slots Broken old new
  laid_broken old new blank stays counts = record {
    later = stays.later;
    steps = λ given known. leaves_weaker (IsBlankOf slots) (SteppedFrom (λ _. IsBlankOrFormatted slots) old) old new (λ c left. inr (given, old.as_read given known, inl left))
        (stays.left (blank given known));
    written = tt;
    faults_are = counts;
  }

  module _ (old mid new : DiskView) (cell : List ℕ) (count : IsSlotCount slots) (size : old.size ≡ size_of slots) (spelled : cell ≡ format_cell slots)
      (blank : Known old.content (λ _. AreBlank slots old))
      (laid : mid.content ≡ option_map (laid_out slots) old.content) (stays : StaysBlank slots old mid) where
    laid_there : (given : List ℕ) → old.content ≡ Some given → mid.content ≡ Some (laid_out slots given)
    laid_there given known = laid ∙ ap (option_map (laid_out slots)) known

    whole : (e : Ending) → IsUnrefused e → Written (Puts 0 cell) e mid new → Written (λ _. IsFormatted slots) e old new
    whole Done un puts = (
      λ given known.
          let c = puts.0 (laid_out slots given) (laid_there given known) in (
            c.0,
            c.1,
            subst (IsFormatted slots) (sym (c.2 ∙ ap (λ (l : List ℕ). written 0 l (laid_out slots given)) spelled))
                (is_formatted slots given count (old.sized given known ∙ size)),
          ),
      puts.1,
    )
    whole Refused un puts = absurd un
    whole Unread un puts = absurd un
    whole Broken un puts = tt

    -- the format cell after the rest
    pub cell_on : (e : Ending) → IsUnrefused e → mid.faults ≡ old.faults → Writes (TornFrom 0 cell) (Puts 0 cell) e mid new → WritesStore slots e old new
    cell_on e un counts writes = record {
      later = later_on old mid new stays.later writes.later;
      steps = λ given known.
          let left = stays.left (blank given known) in
          let step = SteppedFrom (λ _. IsBlankOrFormatted slots) old in
          leaves_on (IsBlankOf slots) (SteppedFrom (TornFrom 0 cell (laid_out slots given)) mid) step old mid new stays.later.clock_is left
          (writes.steps (laid_out slots given) (laid_there given known))
          (λ c none. inr (given, old.as_read given known, inl none))
          (λ c from. elim from [
            | inl same ↦ inr (given, old.as_read given known, inl (left.now c same))
            | inr stepped ↦ inr (
              given,
              old.as_read given known,
              blank_or_formatted slots given count (old.sized given known ∙ size) cell (laid_out slots given) stepped.0 c
                  spelled refl (left.now stepped.0 stepped.1) stepped.2,
            )
          ]);
      written = whole e un writes.written;
      faults_are = counts_on e old.faults mid.faults new.faults counts writes.faults_are;
    }

  -- ---- after a sync

  -- the sync failed
  pub sync_broken : (old new : DiskView) → Reads Broken old new → WritesStore slots Broken old new
  sync_broken old new reads = record {
    later = reads.only.later;
    steps = λ given known. reads_leave (SteppedFrom (λ _. IsBlankOrFormatted slots) old) old new (λ c image. inl image) reads.only;
    written = tt;
    faults_are = reads.faults_are;
  }

  pub sync_left : (old new : DiskView) → Known old.content (IsBlankOf slots) → OnlyReads old new → Known old.content (λ _. KnownWith new.content (IsBlankOrFormatted slots))
  sync_left old new blank reads given known = (given, reads.content_is ∙ known, inl (blank given known))

  -- a crash leaves the content, and so no store
  pub all_blank : (old mid : DiskView) → Known old.content (IsBlankOf slots) → Reads Done old mid → IsDurable mid → Known mid.content (λ _. AreBlank slots mid)
  all_blank old mid blank reads durable given known c image = subst (IsBlankOf slots) (sym (durable given known c image)) (blank given (sym reads.only.content_is ∙ known))

  module _ (old mid new : DiskView) (blank : Known old.content (IsBlankOf slots)) (reads : Reads Done old mid) (durable : IsDurable mid) where
    synced : Writes (λ _ _ _. ⊥) (λ given c. c ≡ given) Done old mid
    synced = record {
      later = reads.only.later;
      steps = λ given known. reads_leave (SteppedFrom (λ _ _. ⊥) old) old mid (λ c image. inl image) reads.only;
      written = (λ given known. (given, reads.only.content_is ∙ known, refl), durable);
      faults_are = reads.faults_are;
    }

    pub store_on : (e : Ending) → IsUnrefused e → WritesStore slots e mid new → WritesStore slots e old new
    store_on e un writes =
        writes_on (λ _ _ _. ⊥) (λ _ _. IsBlankOrFormatted slots) (λ _ _. IsBlankOrFormatted slots) (λ given c. c ≡ given) (λ _. IsFormatted slots) (λ _. IsFormatted slots) old mid
        new
        synced (λ given m c known same there. there) e un writes (λ given d c known none. absurd none) (λ given m c known same step. step)

    pub store_left : (e : Ending) → WritesStore slots e mid new → Known old.content (λ _. KnownWith new.content (IsBlankOrFormatted slots))
    store_left e writes given known =
        let there = reads.only.content_is ∙ known in
        let now = writes.later.tells given there in (
          now.0,
          now.1,
          elim ((writes.steps given there).now now.0 (new.as_read now.0 now.1)) [
            | inl same ↦ inl (all_blank old mid blank reads durable given there now.0 same)
            | inr stepped ↦ stepped.2
          ],
        )

  -- ---- on a disk that was looked at

  pub blank_content : (old mid : DiskView) → IsSlotCount slots → old.size ≡ size_of slots → OnlyReads old mid → Shows old mid (λ image. byte_at 0 image ≢ FORMAT_GATE) →
      Known mid.content (IsBlankOf slots)
  blank_content old mid count size reads closed image known = record {
    count = count;
    size = mid.sized image known ∙ reads.later.size_is ∙ size;
    closed = shown_content old mid (λ c. byte_at 0 c ≢ FORMAT_GATE) image closed (sym reads.content_is ∙ known);
  }

  -- what the content is at the end
  pub format_left : (old mid new : DiskView) → old.size ≡ size_of slots → OnlyReads old mid → Shows old mid (λ image. byte_at 0 image ≢ FORMAT_GATE) →
      Known mid.content (λ _. KnownWith new.content (IsBlankOrFormatted slots))
      → Known old.content (λ image. KnownWith new.content (IsLeftByFormat slots image))
  format_left old mid new size reads closed left image known =
      let there = left image (reads.content_is ∙ known) in
      (there.0, there.1, inr (old.sized image known ∙ size, shown_content old mid (λ c. byte_at 0 c ≢ FORMAT_GATE) image closed known, there.2))

  module _ (old mid new : DiskView) (reads : Reads Done old mid) where
    -- what a crash leaves
    pub format_leaves : (e : Ending) → WritesStore slots e mid new → Known old.content (λ _. CrashLeaves (λ c. old.images c ⊎ IsBlankOrFormatted slots c) old new)
    format_leaves e writes given known =
        leaves_on old.images (SteppedFrom (λ _. IsBlankOrFormatted slots) mid) (λ c. old.images c ⊎ IsBlankOrFormatted slots c) old mid new reads.only.later.clock_is
        (reads_leave old.images old mid (λ c image. image) reads.only) (writes.steps given (reads.only.content_is ∙ known))
        (λ c image. inl image)
        (λ c from. elim from [ inl same ↦ inl (reads.only.images_are c same) | inr stepped ↦ inr stepped.2 ])

    ends_on : (e : Ending) → Written (λ _. IsFormatted slots) e mid new → Ends OnlyReads e old new
    ends_on Done written = λ durable. written.1
    ends_on Refused written = reads_on old mid new reads.only written
    ends_on Unread written = reads_on old mid new reads.only written
    ends_on Broken written = tt

    pub format_acts : (e : Ending) → WritesStore slots e mid new → Acts e old new
    format_acts e writes = record {
      later = later_on old mid new reads.only.later writes.later;
      ends = ends_on e writes.written;
      faults_are = counts_on e old.faults mid.faults new.faults reads.faults_are writes.faults_are;
    }

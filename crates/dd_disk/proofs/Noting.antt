-- One more call of a disk in memory.
use Rattle.std.proofs.Common.{◌≡◌, ◌⊎◌, inl, inr, ⊎_elim, ℕ, ◌+◌, ◌<◌, ◌≤◌, Bool, true, false, List, [], ◌∷◌, ◌++◌, length, take, drop, refl, sym, ◌∙◌, ap, subst, arith, take-append-drop}
use Rattle.dd_disk.specs.Writes.{Torn}
use Rattle.dd_disk.specs.Calls.{shown_length, lengths, first_of, end_of, shown_by, images_by, shown_after, images_after, images_before, images_of, images_past, IsPast, Made, Skipped, Notes}
use Rattle.dd_disk.proofs.Memories.{CrashSteps, TimeAdvances}
use Rattle.dd_disk.specs.declared.mem.MemDisk.{MemDisk}
use Rattle.dd_disk.specs.declared.call.Call.{Call}
use Rattle.dd_disk.specs.declared.call.Asked.{Asked}
use Rattle.dd_disk.specs.declared.call.Noted.{Noted}
use Rattle.dd_disk.specs.declared.call.Noted.TheVariants.{Done, Failed, Missed}
use Rattle.dd_disk.proofs.Images.{torn_same}

module _ (last : Call) where
  shown-push : (calls : List Call) (shown : List ℕ) → shown_after shown (calls ++ last ∷ []) ≡ shown_by last.asked (shown_after shown calls)
  shown-push [] shown = refl
  shown-push (call ∷ calls) shown = shown-push calls (shown_by call.asked shown)

  images_push : (calls : List Call) (shown : List ℕ) (images : List ℕ → Type 0) (c : List ℕ) → images_after shown images (calls ++ last ∷ []) c
      → images_by last.asked last.done (shown_after shown calls) (images_after shown images calls) c
  images_push [] shown images c left = left
  images_push (call ∷ calls) shown images c left = images_push calls _ _ c left

  images_more : (calls : List Call) (shown : List ℕ) (images : List ℕ → Type 0) (c : List ℕ) →
      images_by last.asked last.done (shown_after shown calls) (images_after shown images calls) c
      → images_after shown images (calls ++ last ∷ []) c
  images_more [] shown images c left = left
  images_more (call ∷ calls) shown images c left = images_more calls _ _ c left

  before_push : (calls : List Call) (shown : List ℕ) (images : List ℕ → Type 0) (t : ℕ) (c : List ℕ) → images_before shown images (calls ++ last ∷ []) t c
      → images_before shown images calls t c ⊎ images_after shown images calls c
  before_push [] shown images t c (inl here) = inr here.1
  before_push [] shown images t c (inr none) = absurd none
  before_push (call ∷ calls) shown images t c (inl here) = inl (inl here)
  before_push (call ∷ calls) shown images t c (inr there) = ⊎_elim (λ old. inl (inr old)) (λ now. inr now) (before_push calls _ _ t c there)

  before_kept : (calls : List Call) (shown : List ℕ) (images : List ℕ → Type 0) (t : ℕ) (c : List ℕ) → images_before shown images calls t c →
      images_before shown images (calls ++ last ∷ []) t c
  before_kept [] shown images t c left = absurd left
  before_kept (call ∷ calls) shown images t c (inl here) = inl here
  before_kept (call ∷ calls) shown images t c (inr there) = inr (before_kept calls _ _ t c there)

  before_last : (calls : List Call) (shown : List ℕ) (images : List ℕ → Type 0) (t : ℕ) (c : List ℕ) → t < last.number → images_after shown images calls c →
      images_before shown images (calls ++ last ∷ []) t c
  before_last [] shown images t c lt left = inl (lt, left)
  before_last (call ∷ calls) shown images t c lt left = inr (before_last calls _ _ t c lt left)

  past_push : (calls : List Call) (size count : ℕ) → last.number ≡ count + 1 → end_of last.asked ≤ size → IsPast size count calls → IsPast size (count + 1) (calls ++ last ∷ [])
  past_push [] size count is fits past = (omega (arith, is), (fits, tt))
  past_push (call ∷ calls) size count is fits past = (omega (arith, past.0), (past.1.0, past_push calls size count is fits past.1.1))

past_later : (calls : List Call) (size count now : ℕ) → count ≤ now → IsPast size count calls → IsPast size now calls
past_later [] size count now le past = tt
past_later (call ∷ calls) size count now le past = (omega (arith, le, past.0), (past.1.0, past_later calls size count now le past.1.1))

-- what a disk in memory keeps: its calls made again give what reads give, and they lie in the past
pub record Stands (first bytes : List ℕ) (count : ℕ) (calls : List Call) : Type 0 where
  pub replayed : shown_after first calls ≡ bytes
  pub past : IsPast (length first) count calls

pub stands : (d : MemDisk) → Stands (first_of d.first d.bytes.items) d.bytes.items d.log.count d.log.calls.items
stands d = record { replayed = d.replayed; past = d.past }

module _ (first bytes : List ℕ) (count : ℕ) (calls : List Call) (before : Stands first bytes count calls) where
  both : (length (shown_after first calls) ≡ length first) × ((c : List ℕ) → images_of first calls c → length c ≡ length first)
  both = lengths calls (length first) count first (λ d. d ≡ first) before.past refl (λ c is. ap length is)

  same_size : length bytes ≡ length first
  same_size = ap length (sym before.replayed) ∙ both.0

  module _ (first' : List ℕ) (kept : first' ≡ first) (new : List Call) (now : ℕ) where
    -- a call that couldn't be noted
    pub missed_stands : Skipped count now × (new ≡ calls) → Stands first' bytes now new
    missed_stands missed = record {
      replayed = ap (λ (f : List ℕ). shown_after f new) kept ∙ ap (shown_after first) missed.1 ∙ before.replayed;
      past = subst (λ (f : List ℕ). IsPast (length f) now new) (sym kept) (
          subst (λ (l : List Call). IsPast (length first) now l) (sym missed.1) (past_later calls (length first) count now missed.0.later before.past)
          );
    }

    -- it leaves each image as after a write that didn't come to the disk
    pub missed_follows : (at n : ℕ) → at + n ≤ length bytes → new ≡ calls → CrashSteps (Torn at n) (images_of first calls) (images_of first' new)
    missed_follows at n fits same c left =
        let had = subst (λ (l : List Call). images_of first l c) same (subst (λ (f : List ℕ). images_of f new c) kept left) in
        (c, had, torn_same at n c (omega (arith, fits, same_size, both.1 c had)))

    -- a call that was noted
    module _ (asked : Asked) (done : Bool) (made : Made asked done count now calls new) where
      abbrev last : Call
      last = record { number = now; done = done; asked = asked }

      pub made_stands : (bytes' : List ℕ) → bytes' ≡ shown_by asked bytes → end_of asked ≤ length bytes → Stands first' bytes' now new
      made_stands bytes' shows fits = record {
        replayed = ap (λ (f : List ℕ). shown_after f new) kept ∙ ap (shown_after first) made.noted ∙ shown-push last calls first ∙ ap (shown_by asked) before.replayed ∙ sym shows;
        past = subst (λ (f : List ℕ). IsPast (length f) now new) (sym kept) (
            subst (λ n. IsPast (length first) n new) (sym made.time) (
            subst (λ (l : List Call). IsPast (length first) (count + 1) l) (sym made.noted)
            (past_push last calls (length first) count made.time (omega (arith, fits, same_size)) before.past)
            )
            );
      }

      pub made_images : (c : List ℕ) → images_of first' new c → images_by asked done bytes (images_of first calls) c
      made_images c left =
          let had = subst (λ (f : List ℕ). images_of f new c) kept left in
          subst (λ (s : List ℕ). images_by asked done s (images_of first calls) c) before.replayed
          (images_push last calls first _ c (subst (λ (l : List Call). images_of first l c) made.noted had))

      -- and the other way round
      pub made_leaves : (c : List ℕ) → images_by asked done bytes (images_of first calls) c → images_of first' new c
      made_leaves c left =
          let had = images_more last calls first _ c (subst (λ (s : List ℕ). images_by asked done s (images_of first calls) c) (sym before.replayed) left) in
          subst (λ (f : List ℕ). images_of f new c) (sym kept) (subst (λ (l : List Call). images_of first l c) (sym made.noted) had)

      time_of_first : TimeAdvances count now (images_past first calls) (images_past first new) (images_of first new)
      time_of_first = record {
        later = omega (arith, made.time);
        nothing_else = λ t c le left. ⊎_elim (λ here. inr here)
            (λ had. inl (was t c (before_push last calls first _ t c (subst (λ (l : List Call). images_before first (λ d. d ≡ first) l t c) made.noted had)))) left;
        keeps = λ t c le left. inr (subst (λ (l : List Call). images_before first (λ d. d ≡ first) l t c) (sym made.noted)
            (⊎_elim (before_last last calls first _ t c (omega (arith, made.time, le))) (before_kept last calls first _ t c) left));
      }
        where
          was : (t : ℕ) (c : List ℕ) → images_before first (λ d. d ≡ first) calls t c ⊎ images_of first calls c → images_past first calls t c
          was t c (inl had) = inr had
          was t c (inr here) = inl here

      pub made_time : TimeAdvances count now (images_past first calls) (images_past first' new) (images_of first' new)
      made_time = subst (λ (f : List ℕ). TimeAdvances count now (images_past first calls) (images_past f new) (images_of f new)) (sym kept) time_of_first

    missed_time_of_first : Skipped count now × (new ≡ calls) → TimeAdvances count now (images_past first calls) (images_past first new) (images_of first new)
    missed_time_of_first missed = subst (λ (l : List Call). TimeAdvances count now (images_past first calls) (images_past first l) (images_of first l)) (sym missed.1) record {
      later = missed.0.later;
      nothing_else = λ t c le left. inl left;
      keeps = λ t c le left. left;
    }

    pub missed_time : Skipped count now × (new ≡ calls) → TimeAdvances count now (images_past first calls) (images_past first' new) (images_of first' new)
    missed_time missed = subst (λ (f : List ℕ). TimeAdvances count now (images_past first calls) (images_past f new) (images_of f new)) (sym kept) (missed_time_of_first missed)

  -- a call that changes no byte
  pub still : (outcome : Noted) (asked : Asked) (now : ℕ) (new : List Call) → shown_by asked bytes ≡ bytes → end_of asked ≤ length bytes → Notes outcome asked count now calls new
      → Stands first bytes now new
  still Done asked now new same fits made = made_stands first refl new now asked true made bytes (sym same) fits
  still Failed asked now new same fits made = made_stands first refl new now asked false made bytes (sym same) fits
  still Missed asked now new same fits missed = missed_stands first refl new now missed

module _ (last : Call) where
  pub before_at : (calls after : List Call) (shown : List ℕ) (images : List ℕ → Type 0) (t : ℕ) (c : List ℕ) → t < last.number → images_after shown images calls c →
      images_before shown images (calls ++ last ∷ after) t c
  before_at [] after shown images t c lt left = inl (lt, left)
  before_at (next ∷ calls) after shown images t c lt left = inr (before_at calls after _ _ t c lt left)

past_split : (calls after : List Call) (size count : ℕ) → IsPast size count (calls ++ after) → IsPast size count calls × IsPast size count after
past_split [] after size count past = (tt, past)
past_split (call ∷ calls) after size count past =
    let rest = past_split calls after size count past.1.1 in
    ((past.0, (past.1.0, rest.0)), rest.1)

pub past_front : (calls : List Call) (n size count : ℕ) → IsPast size count calls → IsPast size count (take n calls)
past_front calls n size count past = (past_split (take n calls) (drop n calls) size count (subst (λ (l : List Call). IsPast size count l) (sym (take-append-drop n calls)) past)).0

-- what is left of a replay
pub record Replaying (first : List ℕ) (calls rest : List Call) (shown : List ℕ) : Type 0 where
  pub gives : shown_after shown rest ≡ shown_after first calls
  pub count : ℕ
  pub past : IsPast (length first) count rest
  pub size : length shown ≡ length first

pub replays_on : (first : List ℕ) (calls rest after : List Call) (call : Call) (shown shown' : List ℕ) → rest ≡ call ∷ after → Replaying first calls rest shown →
    shown' ≡ shown_by call.asked shown
    → Replaying first calls after shown'
replays_on first calls rest after call shown shown' is so_far shows =
    let past = subst (λ (l : List Call). IsPast (length first) so_far.count l) is so_far.past in
    record {
      gives = ap (λ s. shown_after s after) shows ∙ ap (shown_after shown) (sym is) ∙ so_far.gives;
      count = so_far.count;
      past = past.1.1;
      size = ap length shows ∙ shown_length call.asked shown (omega (arith, past.1.0, so_far.size)) ∙ so_far.size;
    }

-- Writes that lie over each other, and a half that is written with its selector.
use Rattle.journal_cells.proofs.Prelude.{◌≡◌, inl, inr, ℕ, ◌+◌, ◌≤◌, Bool, true, false, List, [], ◌∷◌, ◌++◌, length, take, drop, Option, None, Some, refl, sym, ap, subst, ◌∙◌, arith, append_assoc, length-append, option_map, length-take-le, length-range, HALF_BYTES, selector_at, cell_at, DiskView, Ending, Done, TornFrom, Puts, Torn, Writes, FreshHalf, cells_filled, half_filled, Replaces, replaced, gate_closed}
use Rattle.std.proofs.Common.{append-nil, length-drop, take-append-drop}
use Rattle.std.proofs.lemmas.List.{drop-append-le, drop-drop, drop_at, take-append-le, take-take}
use Rattle.std.proofs.Math.Seq.{take-add}
use Rattle.base_model.specs.Bytes.{range, written}
use Rattle.dd_disk.specs.View.{IsLater, CrashLeaves, SteppedFrom}
use Rattle.dd_disk.proofs.Later.{leaves_on}
use Rattle.dd_disk.proofs.Writes.{IsUnrefused, writes_on}
use Rattle.journal_cells.specs.Checkpoints.{FillsHalf}

-- ---- bytes over bytes

-- nothing is written
pub written_none : (at : ℕ) (bytes old : List ℕ) → length bytes ≡ 0 → written at bytes old ≡ old
unfolding written
written_none at [] old none =
    ap (λ (l : List ℕ). l ++ drop (at + 0) old) (append-nil (take at old)) ∙ ap (λ (k : ℕ). take at old ++ drop k old) (omega arith) ∙ take-append-drop at old
written_none at (b ∷ bs) old none = absurd (omega (arith, none))

pub none_written : (at : ℕ) (bytes : List ℕ) (content : Option (List ℕ)) → length bytes ≡ 0 → content ≡ option_map (written at bytes) content
none_written at bytes None none = refl
none_written at bytes (Some old) none = ap Some (sym (written_none at bytes old none))

-- both writes are one
written_over : (at : ℕ) (under over old : List ℕ) → at + length under ≤ length old → length over ≤ length under
    → written at over (written at under old) ≡ written at (over ++ drop (length over) under) old
unfolding written
written_over at under over old fits less =
    let front = take at old in
    let rest = drop (at + length under) old in
    let kept = drop (length over) under in
    let long : length front ≡ at = length-take-le at old (omega arith) in
    let split : (front ++ under) ++ rest ≡ front ++ (under ++ rest) = append_assoc front under rest in
    let before : take at ((front ++ under) ++ rest) ≡ front =
    ap (λ (l : List ℕ). take at l) split ∙ take-append-le at front (under ++ rest) (omega (arith, long)) ∙ take-take at at old (omega arith) in
    let after : drop (at + length over) ((front ++ under) ++ rest) ≡ kept ++ rest =
    ap (λ (l : List ℕ). drop (at + length over) l) split
    ∙ sym (drop-drop (length over) at (front ++ (under ++ rest)))
    ∙ ap (λ (l : List ℕ). drop (length over) l) (drop_at front (under ++ rest) at long)
    ∙ drop-append-le (length over) under rest less in
    let same : length (over ++ kept) ≡ length under = omega (arith, length-append over kept, length-drop (length over) under, less) in
    ap (λ (l : List ℕ). (l ++ over) ++ drop (at + length over) ((front ++ under) ++ rest)) before
    ∙ ap (λ (l : List ℕ). (front ++ over) ++ l) after
    ∙ append_assoc front over (kept ++ rest)
    ∙ ap (λ (l : List ℕ). front ++ l) (sym (append_assoc over kept rest))
    ∙ sym (append_assoc front (over ++ kept) rest)
    ∙ ap (λ (k : ℕ). (front ++ (over ++ kept)) ++ drop (at + k) old) (sym same)

torn_over : (at n m : ℕ) (old mid new : List ℕ) → at + n ≤ length old → m ≤ n → Torn at n old mid → Torn at m mid new → Torn at n old new
torn_over at n m old mid new fits less first second = record {
  bytes = second.bytes ++ drop (length second.bytes) first.bytes;
  count = omega (arith, length-append second.bytes (drop (length second.bytes) first.bytes), length-drop (length second.bytes) first.bytes, first.count, second.count, less);
  holds = second.holds ∙ ap (written at second.bytes) first.holds
      ∙ written_over at first.bytes second.bytes old (omega (arith, fits, first.count)) (omega (arith, less, first.count, second.count));
}

-- what stands there may have been written
torn_here : (at n : ℕ) (old : List ℕ) → at + n ≤ length old → Torn at n old old
unfolding written range
torn_here at n old fits =
    let long : length (range at n old) ≡ n = length-range at n old fits in
    record {
      bytes = range at n old;
      count = long;
      holds = sym (ap (λ (l : List ℕ). l ++ drop (at + length (range at n old)) old) (sym (take-add at n old))
          ∙ ap (λ (k : ℕ). take (at + n) old ++ drop (at + k) old) long ∙ take-append-drop (at + n) old);
    }

-- a write, and one over a part of it
pub leaves_over : (at n m : ℕ) (old mid new : DiskView) → at + n ≤ old.size → m ≤ n → IsLater old mid
    → CrashLeaves (SteppedFrom (Torn at n) old) old mid → CrashLeaves (SteppedFrom (Torn at m) mid) mid new → CrashLeaves (SteppedFrom (Torn at n) old) old new
leaves_over at n m old mid new fits less later first second =
    leaves_on (SteppedFrom (Torn at n) old) (SteppedFrom (Torn at m) mid) (SteppedFrom (Torn at n) old) old mid new later.clock_is first second (λ c from. from)
    (λ c from. elim from [ inl same ↦ first.now c same | inr stepped ↦ again stepped.0 c (first.now stepped.0 stepped.1) stepped.2 ])
  where
    again : (d c : List ℕ) → SteppedFrom (Torn at n) old d → Torn at m d c → SteppedFrom (Torn at n) old c
    again d c (inl was) torn =
        let long : at + n ≤ length d = omega (arith, fits, old.image_sized d was) in
        inr (d, was, torn_over at n m d d c long less (torn_here at n d long) torn)
    again d c (inr stepped) torn =
        let long : at + n ≤ length stepped.0 = omega (arith, fits, old.image_sized stepped.0 stepped.1) in
        inr (stepped.0, stepped.1, torn_over at n m stepped.0 d c long less stepped.2 torn)

-- ---- a half, and its selector

module _ (half : ℕ) (new : FreshHalf) (at sel : ℕ) (blanks cells cell : List ℕ) (here : at ≡ cell_at half 0) (there : sel ≡ selector_at half)
    (blanks_are : blanks ≡ new.blanks.items) (cells_are : cells ≡ new.cells.items) (cell_is : cell ≡ new.selector.items) (long : length new.blanks.items ≡ HALF_BYTES) where
  filled_is : (given m : List ℕ) → Puts at cells (written at blanks given) m → m ≡ cells_filled half new given
  filled_is given m is = cc

  half_torn : (given d c : List ℕ) → Torn at (length blanks) d c → FillsHalf half new given d c
  half_torn given d c torn = inl (subst (λ (n : ℕ). Torn (cell_at half 0) n d c) (ap length blanks_are ∙ long) (subst (λ (p : ℕ). Torn p (length blanks) d c) here torn))

  selector_torn : (given m c : List ℕ) → Puts at cells (written at blanks given) m → TornFrom sel cell m m c → FillsHalf half new given given c
  selector_torn given m c is torn =
      inr (subst (λ (l : List ℕ). TornFrom (selector_at half) new.selector.items l l c) (filled_is given m is)
      (subst (λ (p : ℕ). TornFrom p new.selector.items m m c) there (subst (λ (l : List ℕ). TornFrom sel l m m c) cell_is torn)))

  both_written : (given m c : List ℕ) → Puts at cells (written at blanks given) m → Puts sel cell m c → c ≡ half_filled half new given
  both_written given m c is put = let filled = filled_is given m is in cc

  pub fills_half : (e : Ending) (old mid after : DiskView) → IsUnrefused e → Writes (λ _. Torn at (length blanks)) (λ given. Puts at cells (written at blanks given)) Done old mid
      → Writes (TornFrom sel cell) (Puts sel cell) e mid after → Writes (FillsHalf half new) (λ given c. c ≡ half_filled half new given) e old after
  fills_half e old mid after un first second =
      writes_on (λ _. Torn at (length blanks)) (TornFrom sel cell) (FillsHalf half new) (λ given. Puts at cells (written at blanks given)) (Puts sel cell)
      (λ given c. c ≡ half_filled half new given) old mid after
      first (λ given m c known is put. both_written given m c is put) e un second
      (λ given d c known torn. half_torn given d c torn) (λ given m c known is torn. selector_torn given m c is torn)

-- ---- a gate that is open is closed before

pub replaces_closed : (open_gate : Bool) (half : ℕ) (new : FreshHalf) (e : Ending) (old after : DiskView) → open_gate ≡ false →
    Writes (FillsHalf half new) (λ given c. c ≡ half_filled half new given) e old after
    → Writes (Replaces open_gate half new) (λ given c. c ≡ replaced open_gate half new given) e old after
replaces_closed open_gate half new e old after is writes = subst (λ (b : Bool). Writes (Replaces b half new) (λ given c. c ≡ replaced b half new given) e old after) (sym is) writes

module _ (half : ℕ) (new : FreshHalf) (at : ℕ) (zero : List ℕ) (here : at ≡ selector_at half) (zero_is : zero ≡ 0 ∷ []) where
  shut_is : (given m : List ℕ) → Puts at zero given m → m ≡ gate_closed true half given
  shut_is given m is = cc

  gate_torn : (given d c : List ℕ) → Torn at (length zero) d c → Replaces true half new given d c
  gate_torn given d c torn = inl (subst (λ (p : ℕ). Torn p 1 d c) here (subst (λ (l : List ℕ). Torn at (length l) d c) zero_is torn))

  pub opened_replaces : (e : Ending) (old mid after : DiskView) → IsUnrefused e → Writes (λ _. Torn at (length zero)) (Puts at zero) Done old mid
      → Writes (FillsHalf half new) (λ given c. c ≡ half_filled half new given) e mid after → Writes (Replaces true half new) (λ given c. c ≡ replaced true half new given) e old
      after
  opened_replaces e old mid after un first second =
      writes_on (λ _. Torn at (length zero)) (FillsHalf half new) (Replaces true half new) (Puts at zero) (λ given c. c ≡ half_filled half new given)
      (λ given c. c ≡ replaced true half new given) old mid after
      first (λ given m c known is filled. filled ∙ ap (half_filled half new) (shut_is given m is)) e un second
      (λ given d c known torn. gate_torn given d c torn)
      (λ given m c known is fills. inr (subst (λ (l : List ℕ). FillsHalf half new l l c) (shut_is given m is) fills))

pub replaces_opened : (open_gate : Bool) (half : ℕ) (new : FreshHalf) (e : Ending) (old after : DiskView) → open_gate ≡ true →
    Writes (Replaces true half new) (λ given c. c ≡ replaced true half new given) e old after
    → Writes (Replaces open_gate half new) (λ given c. c ≡ replaced open_gate half new given) e old after
replaces_opened open_gate half new e old after is writes = subst (λ (b : Bool). Writes (Replaces b half new) (λ given c. c ≡ replaced b half new given) e old after) (sym is) writes

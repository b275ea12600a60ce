use Rattle.std.proofs.Common.{◌≡◌, ℕ, ◌+◌, ◌<◌, ◌==◌, if◌then◌else◌, List, [], ◌∷◌, ◌++◌, length, slice_index, refl, sym, ◌∙◌, ap, arith}
use Rattle.std.proofs.lemmas.List.{take_more}
use Rattle.dd_disk.specs.Lies.{lied, TellsLies}
use Rattle.dd_disk.proofs.blind.tell_lies.Goals as goal

lied-push : (lies : List (ℕ × ℕ)) (lie : ℕ × ℕ) (place byte : ℕ) → lied (lies ++ lie ∷ []) place byte ≡ lied (lie ∷ []) place (lied lies place byte)
lied-push [] lie place byte = refl
lied-push (next ∷ lies) lie place byte = lied-push lies lie place (if next.0 == place then next.1 else byte)

one_more : (lies : List (ℕ × ℕ)) (lie : ℕ × ℕ) (at : ℕ) (held given now : List ℕ) → TellsLies lies at held given → TellsLies (lie ∷ []) at given now →
    TellsLies (lies ++ lie ∷ []) at held now
one_more lies lie at held given now before after = record {
  long = after.long ∙ before.long;
  each = λ k in_range.
      after.each k (omega (arith, before.long, in_range))
      ∙ ap (lied (lie ∷ []) (at + k)) (before.each k in_range)
      ∙ sym (lied-push lies lie (at + k) (slice_index held k));
}

pub loop-lie-preserved : goal.loop-lie-preserved
loop-lie-preserved c =
    let more : c.loop-lie.lie-index < length c.args.lies.now = omega arith in
    rw (take_more c.args.lies.now c.loop-lie.lie-index (0, 0) more) (one_more _ _ _ _ _ _ c.loop-lie.invariant c.tell_lie.ensures)

-- Records, and one more after them.
use Rattle.store_model.proofs.Prelude.{◌≡◌, ℕ, List, [], ◌∷◌, ◌++◌, refl, RecordValue, NameMap, names_with, names_after, last_of}

-- the last sequence number is that of the new one
pub last_of_push : (previous : ℕ) (rs : List RecordValue) (r : RecordValue) → last_of previous (rs ++ r ∷ []) ≡ r.sequence
last_of_push previous [] r = refl
last_of_push previous (s ∷ rs) r = last_of_push s.sequence rs r

-- the names are those of before, with the new one
pub names_after_push : (rs : List RecordValue) (r : RecordValue) (names : NameMap) → names_after (rs ++ r ∷ []) names ≡ names_with r (names_after rs names)
names_after_push [] r names = refl
names_after_push (s ∷ rs) r names = names_after_push rs r (names_with s names)

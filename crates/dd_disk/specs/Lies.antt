-- What a disk that lies gives in place of the bytes that it holds.
use Rattle.std.specs.Prelude.{◌≡◌, ℕ, ◌+◌, ◌<◌, ◌==◌, if◌then◌else◌, List, [], ◌∷◌, length, slice_index}

-- the byte that is given at a place: the last lie about it, or else the byte that is there
abbrev pub lied : List (ℕ × ℕ) → ℕ → ℕ → ℕ
lied [] place byte = byte
lied (lie ∷ lies) place byte = lied lies place (if lie.0 == place then lie.1 else byte)

-- each byte of what was read from a place on is given as the lies have it
pub record TellsLies (lies : List (ℕ × ℕ)) (at : ℕ) (held given : List ℕ) : Type 0 where
  pub long : length given ≡ length held
  pub each : (k : ℕ) → k < length held → slice_index given k ≡ lied lies (at + k) (slice_index held k)

-- How much of a container is needed, by keys (docs/MODEL.md, 'The reserve').
use Rattle.std.specs.Prelude.{◌≡◌, ◌⊎◌, ℕ, ◌+◌, List, [], ◌∷◌, Option, Some, option_map}
use Rattle.container_meta.specs.declared.entry.Entry.{Entry}
use Rattle.container_meta.specs.declared.kind.Kind.{Kind}
use Rattle.container_meta.specs.Spelling.{HeaderValue}
use Rattle.store_model.specs.Indexing.{entry_key}
use Rattle.store_model.specs.Slots.{newest, place_of}

-- the entry is the newest copy of a key of which P holds
abbrev pub IsNeededCopy : (List ℕ → Type 0) → List (Option HeaderValue) → Kind → ℕ → Entry → Type 0
IsNeededCopy P held kind slot e =
    P (entry_key kind e) × (option_map (λ c. c.place) (newest 0 held (entry_key kind e)) ≡ Some (place_of slot e))

-- the sum of the lengths of those entries that are
abbrev pub SumsNeeded : (List ℕ → Type 0) → List (Option HeaderValue) → Kind → ℕ → List Entry → ℕ → Type 0
SumsNeeded P held kind slot [] sum = sum ≡ 0
SumsNeeded P held kind slot (e ∷ es) sum =
    (IsNeededCopy P held kind slot e × ((rest : ℕ) × (sum ≡ e.length + rest) × SumsNeeded P held kind slot es rest))
    ⊎ ((¬ (IsNeededCopy P held kind slot e)) × SumsNeeded P held kind slot es sum)

-- so many bytes of the container in the slot are needed
abbrev pub Needs : (List ℕ → Type 0) → List (Option HeaderValue) → ℕ → HeaderValue → ℕ → Type 0
Needs P held slot h needed = SumsNeeded P held h.kind slot h.entries needed

-- How often keys stand among those of containers.
use Rattle.std.specs.Prelude.{◌≡◌, ◌≤◌, ℕ, List, cond, length, count_by, sum_by, Option, Some, None}
use Rattle.std.specs.List.{AllByRecursion}
use Rattle.std.specs.Ordering.{nat_cmp}
use Rattle.std.specs.Str.{bytes_eq}
use Rattle.std.specs.Cmp.Lexicographic.{slice_cmp}
use Rattle.std.specs.FinMap as finite
use Rattle.disk_format.specs.declared.numbers.TheConstants.{MOST_ENTRIES}
use Rattle.container_meta.specs.declared.entry.Entry.{Entry}
use Rattle.container_meta.specs.declared.kind.Kind.{Kind}
use Rattle.container_meta.specs.Segments.{Contents, keys_of}
use Rattle.store_model.specs.Indexing.{entry_key}
use Rattle.ingest_session.specs.declared.counting.Known.{Known}

-- what is known of keys
abbrev pub KnownKeys : Type 0
KnownKeys = finite.FinMap (slice_cmp nat_cmp) Known

abbrev pub times_known : Option Known → ℕ
times_known None = 0
times_known (Some known) = known.times

-- how often a key was counted
abbrev pub times : KnownKeys → List ℕ → ℕ
times counts key = times_known (finite.get counts key)

-- 1 where one key is the other
abbrev pub once : List ℕ → List ℕ → ℕ
once own key = cond (bytes_eq own key) 1 0

-- how often a key is that of an entry
abbrev pub times_among : Kind → List Entry → List ℕ → ℕ
times_among kind entries key = count_by (λ e. bytes_eq (entry_key kind e) key) entries

-- how often it is that of a segment in containers
abbrev pub times_in : List Contents → List ℕ → ℕ
times_in containers key = sum_by (λ c. count_by (λ own. bytes_eq own key) (keys_of c)) containers

-- Each key was counted as often as it is in the containers, each of which has at most as many entries as it may.
pub record IsCounted (counts : KnownKeys) (containers : List Contents) : Type 0 where
  pub times : (key : List ℕ) → times counts key ≡ times_in containers key
  pub few : AllByRecursion (λ c. length c.segments ≤ MOST_ENTRIES) containers

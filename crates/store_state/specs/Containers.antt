-- Which containers of a store the tables in memory represent.
use Rattle.std.specs.Prelude.{◌≡◌, ℕ, List, length, map, Bool, true, nat_lt, get_or, find, option_map, Option, Some, None}
use Rattle.std.specs.FinMap as finite
use Rattle.std.specs.Str.{bytes_eq}
use Rattle.base_model.specs.Bytes.{key_of}
use Rattle.container_meta.specs.declared.entry.Entry.{Entry}
use Rattle.container_meta.specs.declared.kind.Kind.{Kind}
use Rattle.container_meta.specs.declared.place.Place.{Place}
use Rattle.container_meta.specs.Format.{kind_byte}
use Rattle.container_meta.specs.Places.{PlaceMap}
use Rattle.container_meta.specs.Spelling.{HeaderValue}
use Rattle.store_model.specs.Slots.{Copy, place_of, newer, newest, IsIndexOf, ids_of, last_id}
use Rattle.store_state.specs.declared.containers.Containers.{Containers}
use Rattle.store_state.specs.Tables.{count_of}

-- the tables are those of these containers
pub record RepresentsContainers (held : List (Option HeaderValue)) (tables : Containers) : Type 0 where
  pub index : IsIndexOf held tables.index
  pub ids : tables.ids.items ≡ ids_of held
  pub counts : tables.counts.items ≡ map count_of held
  pub last : tables.last_id ≡ last_id held

-- the copy of a key among the first entries of a container
abbrev pub copy_from : ℕ → ℕ → Kind → List Entry → List ℕ → Option Copy
copy_from slot id kind entries key =
    option_map (λ e. record { id = id; place = place_of slot e }) (find (λ e. bytes_eq (key_of (kind_byte kind) e.digest) key) entries)

-- and of the first entries of one container more
pub record ArePart (held : List (Option HeaderValue)) (slot id : ℕ) (kind : Kind) (entries : List Entry) (tables : Containers) : Type 0
  where
    pub slot_is : slot ≡ length held
    pub index : (key : List ℕ)
        → finite.get tables.index key ≡ option_map (λ c. c.place) (newer (newest 0 held key) (copy_from slot id kind entries key))
    pub ids : tables.ids.items ≡ ids_of held
    pub counts : tables.counts.items ≡ map count_of held
    pub last : tables.last_id ≡ last_id held

-- a container of this id is newer than the one in the slot of a place, if there is one
abbrev pub is_older_place : List ℕ → ℕ → Option Place → Bool
is_older_place ids id None = true
is_older_place ids id (Some place) = nat_lt (get_or ids place.slot 0) id

-- and than the one that has a key's copy
abbrev pub is_newer : PlaceMap → List ℕ → List ℕ → ℕ → Bool
is_newer places ids key id = is_older_place ids id (finite.get places key)

-- The lines of a script, each without the byte that ends it (docs/FORMAT.md, 'Scripts').
use Rattle.std.specs.Prelude.{◌≡◌, ◌<◌, ◌≤◌, ◌%◌, ◌==◌, ◌&&◌, ℕ, Bool, true, false, not, List, [], ◌++◌, length, codes, decimal}
use Rattle.std.specs.List.{list_all, list_any}
use Rattle.std.specs.Result.{result_unwrap_or}
use Rattle.std.specs.Char.{is_ascii_hexdigit}
use Rattle.hex.specs.Hex.{decode_of}
use Rattle.actor_parts.specs.declared.actor.TheConstants.{ACTORS}

-- what a line says
pub data LineValue : Type 0 where
  Begin : (actor : ℕ) → LineValue
  Push : (actor : ℕ) (digits : List ℕ) → LineValue
  Finish : (actor : ℕ) → LineValue
  Turn : (actor : ℕ) → LineValue
  Commit : (actor : ℕ) (name : List ℕ) → LineValue
  Abort : (actor : ℕ) → LineValue
  Read : (actor : ℕ) (name : List ℕ) → LineValue
  Next : (actor : ℕ) → LineValue
  Drop : (actor : ℕ) → LineValue
  Delete : (name : List ℕ) → LineValue
  ListNames : LineValue
  Gc : (percent : ℕ) → LineValue
  GcStep : LineValue
  Sweep : LineValue
  Stat : LineValue
  Unique : LineValue
  Reopen : LineValue

-- a number that an actor has
abbrev pub IsActor : ℕ → Type 0
IsActor number = number < ACTORS

-- a percentage that a collection may have
abbrev pub IsPercent : ℕ → Type 0
IsPercent percent = percent ≤ 100

-- hexadecimal digits of either case, an even number of them and two at least
pub record IsHex (digits : List ℕ) : Type 0 where
  pub some : 2 ≤ length digits
  pub even : length digits % 2 ≡ 0
  pub each : list_all is_ascii_hexdigit digits ≡ true

-- neither a space nor LF
abbrev pub is_word_byte : ℕ → Bool
is_word_byte byte = not (byte == 32) && not (byte == 10)

-- one byte or more, none of them a space or LF
pub record IsWord (bytes : List ℕ) : Type 0 where
  pub some : 1 ≤ length bytes
  pub each : list_all is_word_byte bytes ≡ true

-- The bytes are the line. Numbers are decimal with no zero before another digit, as `decimal` writes them.
abbrev pub IsLine : LineValue → List ℕ → Type 0
IsLine (Begin a) bytes = IsActor a × (bytes ≡ codes "begin " ++ decimal a)
IsLine (Push a digits) bytes = IsActor a × IsHex digits × (bytes ≡ codes "push " ++ decimal a ++ codes " " ++ digits)
IsLine (Finish a) bytes = IsActor a × (bytes ≡ codes "finish " ++ decimal a)
IsLine (Turn a) bytes = IsActor a × (bytes ≡ codes "turn " ++ decimal a)
IsLine (Commit a name) bytes = IsActor a × IsWord name × (bytes ≡ codes "commit " ++ decimal a ++ codes " " ++ name)
IsLine (Abort a) bytes = IsActor a × (bytes ≡ codes "abort " ++ decimal a)
IsLine (Read a name) bytes = IsActor a × IsWord name × (bytes ≡ codes "read " ++ decimal a ++ codes " " ++ name)
IsLine (Next a) bytes = IsActor a × (bytes ≡ codes "next " ++ decimal a)
IsLine (Drop a) bytes = IsActor a × (bytes ≡ codes "drop " ++ decimal a)
IsLine (Delete name) bytes = IsWord name × (bytes ≡ codes "delete " ++ name)
IsLine ListNames bytes = bytes ≡ codes "list"
IsLine (Gc percent) bytes = IsPercent percent × (bytes ≡ codes "gc " ++ decimal percent)
IsLine GcStep bytes = bytes ≡ codes "step"
IsLine Sweep bytes = bytes ≡ codes "sweep"
IsLine Stat bytes = bytes ≡ codes "stat"
IsLine Unique bytes = bytes ≡ codes "unique"
IsLine Reopen bytes = bytes ≡ codes "reopen"

-- no byte of them is a space
abbrev pub HasNoSpace : List ℕ → Type 0
HasNoSpace bytes = list_any (λ byte. byte == 32) bytes ≡ false

-- what the digits of a push mean: a byte for each two of them
abbrev pub pushed_bytes : List ℕ → List ℕ
pushed_bytes digits = result_unwrap_or (decode_of digits) []

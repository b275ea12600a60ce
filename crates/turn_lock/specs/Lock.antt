-- What callers see of a lock and its passes.
use Rattle.std.specs.Prelude.{◌≡◌, ℕ, suc, ◌≤◌, List, [], ◌∷◌, length, Option, None, Some}
use Rattle.atomic_table.specs.declared.shared.Seat.{Seat}
use Rattle.atomic_table.specs.Seated.{TableId}
use Rattle.turn_lock.specs.declared.lock.TheConstants.{MOST_PASSES}
use Rattle.turn_lock.specs.declared.lock.TurnLock.{TurnLock}
use Rattle.turn_lock.specs.declared.history.Turn.{Turn}
use Rattle.turn_lock.specs.declared.history.Home.{Home}
use Rattle.turn_lock.specs.declared.history.Stage.TheVariants.{Idle, InTurn}
use Rattle.turn_lock.specs.declared.history.View.{View}
use Rattle.turn_lock.specs.History.{last_of, IsHistory, turns_by, times}
use Rattle.turn_lock.specs.Rule.{Follows, nothing, view_at}
use Rattle.turn_lock.specs.Plays.{Seated, SeesAll, in_turn, both}

abbrev pub PassOf : Type 0 → Type 0
PassOf C = Seat (Option (Home C)) (View C)

-- a pass's own number
abbrev pub own_of : List ℕ → ℕ
own_of [] = 0
own_of (x ∷ xs) = x

-- one that it was given, until it is split
abbrev pub with_second : List ℕ → ℕ → List ℕ
with_second [] n = []
with_second (x ∷ xs) n = x ∷ n ∷ xs

module _ {C : Type 0} where
  -- which lock it is
  abbrev pub lock_id : TurnLock C → TableId
  lock_id lock = lock.table.shared.table_id

  -- a pass between two calls, with a number
  pub record Rests (p : PassOf C) : Type 0 where
    pub empty : p.me.1 ≡ []
    pub idle : p.me.0.stage ≡ Idle
    pub numbered : 1 ≤ length p.me.0.numbers

  -- of the same lock, and in the same place of it
  abbrev pub IsSamePass : PassOf C → PassOf C → Type 0
  IsSamePass p q = (q.table_id ≡ p.table_id) × (q.id ≡ p.id)

  -- the pass is in turn, has taken this out, and has seen the whole history
  pub record TakesTurn (makes : ℕ → C → C → Type 0) (v : View C) (home : Home C) (w : Seated C) : Type 0 where
    pub ticket : ℕ
    pub seen : List (Turn C)
    pub is : w ≡ (in_turn v seen ticket home, (0, None) ∷ [])
    pub all : SeesAll makes v home seen

  -- the pass of this number is in turn, and has taken this out
  pub record HasTurn (by : ℕ) (found : Home C) (m : Seated C) : Type 0 where
    pub ticket : ℕ
    pub others : List ℕ
    pub numbers_are : m.0.numbers ≡ by ∷ others
    pub stage_is : m.0.stage ≡ InTurn ticket found
    pub out : m.1 ≡ (0, None) ∷ []

  -- what a pass knows, with another history and other numbers, between two calls
  abbrev pub resting : View C → List (Turn C) → List ℕ → Seated C
  resting v seen numbers = (view_at v.opening seen nothing numbers Idle v.given, [])

  -- and of a count of numbers that were given out
  abbrev pub resting_at : View C → List (Turn C) → List ℕ → ℕ → Seated C
  resting_at v seen numbers given = (view_at v.opening seen nothing numbers Idle given, [])

  -- A pass was given the next number, of which no turn was made; both have seen the whole history, and this is how many lines the book
  -- has after it.
  pub record Splits (makes : ℕ → C → C → Type 0) (lines : C → ℕ) (v : View C) (number count : ℕ) (w u : Seated C) : Type 0 where
    pub seen : List (Turn C)
    pub follows : Follows v.numbers v.seen seen
    pub legal : (opening : C) → v.opening ≡ Some opening → IsHistory makes opening seen × (count ≡ lines (last_of opening seen))
    pub is : w ≡ resting_at v seen v.numbers (suc number)
    pub other_is : u ≡ resting_at v seen (number ∷ []) (suc number)
    pub fresh : turns_by number seen ≡ 0
    pub other : times number v.numbers ≡ 0

  -- All numbers were given out. The pass has seen the whole history, after which the book has so many lines.
  pub record SplitsNone (makes : ℕ → C → C → Type 0) (lines : C → ℕ) (v : View C) (count : ℕ) (w : Seated C) : Type 0 where
    pub home : Home C
    pub mid : Seated C
    pub took : TakesTurn makes v home mid
    pub none_left : MOST_PASSES ≤ w.0.given
    pub count_is : count ≡ lines home.value
    pub is : w ≡ resting_at v took.seen v.numbers home.given

  -- two passes met: one has seen a beginning of what the other has seen, and past it no turn was made of its numbers
  pub record Joins (v u : View C) (w : Seated C) : Type 0 where
    pub is : w ≡ (both v u, [])
    pub first : Follows v.numbers v.seen w.0.seen
    pub second : Follows u.numbers u.seen w.0.seen
    pub few : length w.0.numbers ≤ MOST_PASSES
    pub once : (x : ℕ) → times x w.0.numbers ≤ 1

  -- A value at the end: what all turns have left, of which none is of a number that the pass hasn't; it has all that were given out.
  pub record Ends (makes : ℕ → C → C → Type 0) (v : View C) (value : C) : Type 0 where
    pub seen : List (Turn C)
    pub follows : Follows v.numbers v.seen seen
    pub legal : (opening : C) → v.opening ≡ Some opening → IsHistory makes opening seen × (value ≡ last_of opening seen)
    pub whole : (x : ℕ) → times x v.numbers ≡ 0 → turns_by x seen ≡ 0
    pub all_in : v.given ≤ length v.numbers

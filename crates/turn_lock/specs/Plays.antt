-- What each kind of step tells its pass.
use Rattle.std.specs.Prelude.{◌≡◌, ℕ, ◌-◌, ◌%◌, ◌^◌, ◌==◌, ◌≤◌, ◌⊎◌, nat_le, if◌then◌else◌, MatchBool, List, [], ◌∷◌, ◌++◌, length, Option, None, Some}
use Rattle.atomic_table.specs.Table.{Me}
use Rattle.turn_lock.specs.declared.history.Turn.{Turn}
use Rattle.turn_lock.specs.declared.history.Home.{Home}
use Rattle.turn_lock.specs.declared.history.Known.{Known}
use Rattle.turn_lock.specs.declared.history.Stage.{Stage}
use Rattle.turn_lock.specs.declared.history.Stage.TheVariants.{Idle, Waits, InTurn}
use Rattle.turn_lock.specs.declared.history.View.{View}
use Rattle.turn_lock.specs.declared.lock.TheConstants.{MOST_PASSES}
use Rattle.turn_lock.specs.History.{last_of, IsHistory, turns_by, turn_of, times, once_below, Begins}
use Rattle.turn_lock.specs.Rule.{Follows, known, nothing, view_at}

-- ---- numbers

abbrev pub without_second : List ℕ → List ℕ
without_second (x ∷ y ∷ ys) = x ∷ ys
without_second xs = xs

abbrev pub second_of : List ℕ → List ℕ
second_of (x ∷ y ∷ ys) = y ∷ []
second_of xs = []

abbrev pub greater : ℕ → ℕ → ℕ
greater x y = if nat_le x y then y else x

-- what a pass knows, and what it has taken out of the slot
abbrev pub Seated : Type 0 → Type 0
Seated C = Me (Option (Home C)) (View C)

module _ {C : Type 0} where
  abbrev pub ticket_of : Stage C → ℕ
  ticket_of Idle = 0
  ticket_of (Waits n) = n
  ticket_of (InTurn n h) = n

  abbrev pub waiting : View C → ℕ → View C
  waiting v n = view_at v.opening v.seen nothing v.numbers (Waits n) v.given

  abbrev pub in_turn : View C → List (Turn C) → ℕ → Home C → View C
  in_turn v seen n h = view_at v.opening seen nothing v.numbers (InTurn n h) h.given

  abbrev pub idle : View C → View C
  idle v = view_at v.opening v.seen nothing v.numbers Idle v.given

  -- a ticket was drawn
  abbrev pub Draws : Seated C → ℕ → Seated C → Type 0
  Draws m r w = (n : ℕ) × (n % 2 ^ 64 ≡ r) × (w ≡ (waiting m.0 n, m.1))

  -- The whole history, as a pass learns it whose turn it is: it is legal, and has left this; no turn of the pass is in it that the pass
  -- had not seen, and none of a number that was not given out.
  pub record SeesAll (makes : ℕ → C → C → Type 0) (v : View C) (home : Home C) (seen : List (Turn C)) : Type 0 where
    pub follows : Follows v.numbers v.seen seen
    pub legal : (opening : C) → v.opening ≡ Some opening → IsHistory makes opening seen × (home.value ≡ last_of opening seen)
    pub below : (x : ℕ) → times x v.numbers ≤ once_below x home.given
    pub unused : (x : ℕ) → home.given ≤ x → turns_by x seen ≡ 0
    pub counted : v.given ≤ home.given

  -- its ticket is served: the pass is in turn, and the slot is its own
  pub record IsServed (makes : ℕ → C → C → Type 0) (v : View C) (n : ℕ) (w : Seated C) : Type 0 where
    pub found : Home C
    pub seen : List (Turn C)
    pub is : w ≡ (in_turn v seen n found, (0, Some found) ∷ [])
    pub all : SeesAll makes v found seen

  -- a look at the ticket that is served
  abbrev pub Looks : (ℕ → C → C → Type 0) → Seated C → ℕ → Seated C → Type 0
  Looks makes m r w = MatchBool (r == ticket_of m.0.stage % 2 ^ 64) (IsServed makes m.0 (ticket_of m.0.stage) w) (w ≡ m)

  -- by what it is about to leave
  abbrev pub posted_with : List ℕ → List (ℕ × Option (Home C)) → View C → View C
  posted_with (by ∷ others) ((k, Some left) ∷ rest) v =
      view_at v.opening (v.seen ++ turn_of by left.value ∷ []) nothing v.numbers (InTurn (ticket_of v.stage) left) v.given
  posted_with numbers carried v = v

  -- the turn is one of the history from now on
  abbrev pub Posts : Seated C → ℕ → Seated C → Type 0
  Posts m r w = w ≡ (posted_with m.0.numbers m.1 m.0, m.1)

  -- with a number more, the last that was given out
  abbrev pub given_with : List ℕ → List (ℕ × Option (Home C)) → View C → View C
  given_with (by ∷ others) ((k, Some left) ∷ rest) v =
      view_at v.opening v.seen nothing (by ∷ (left.given - 1) ∷ others) (InTurn (ticket_of v.stage) left) left.given
  given_with numbers carried v = v

  abbrev pub new_number : List (ℕ × Option (Home C)) → ℕ
  new_number ((k, Some left) ∷ rest) = left.given - 1
  new_number carried = 0

  -- a number was given out, of which no turn was made
  abbrev pub Gives : Seated C → ℕ → Seated C → Type 0
  Gives m r w = (w ≡ (given_with m.0.numbers m.1 m.0, m.1)) × (turns_by (new_number m.1) m.0.seen ≡ 0)

  -- the next ticket is served
  abbrev pub PassesOn : Seated C → ℕ → Seated C → Type 0
  PassesOn m r w = w ≡ (idle m.0, [])

  -- Of two passes that met one had seen a beginning of what the other had seen; and a pass has no number twice, and no more than there are.
  abbrev pub Meets : Seated C → ℕ → Seated C → Type 0
  Meets m r w = (w ≡ m) × (Follows m.0.beside.numbers m.0.beside.seen m.0.seen ⊎ Begins m.0.seen m.0.beside.seen)
      × (length m.0.numbers ≤ MOST_PASSES) × ((x : ℕ) → times x m.0.numbers ≤ 1)

  -- ---- one pass is made two

  abbrev pub left : View C → View C
  left v = view_at v.opening v.seen nothing (without_second v.numbers) v.stage v.given

  abbrev pub right : View C → View C
  right v = view_at v.opening v.seen nothing (second_of v.numbers) Idle v.given

  -- ---- two passes are made one

  abbrev pub longer : List (Turn C) → List (Turn C) → List (Turn C)
  longer xs ys = if nat_le (length xs) (length ys) then ys else xs

  abbrev pub shorter : View C → View C → Known C
  shorter v w = if nat_le (length v.seen) (length w.seen) then known v.seen v.numbers else known w.seen w.numbers

  abbrev pub both : View C → View C → View C
  both v w = view_at v.opening (longer v.seen w.seen) (shorter v w) (v.numbers ++ w.numbers) v.stage (greater v.given w.given)

  -- a pass that another has taken in
  abbrev pub spent : View C
  spent = view_at None [] nothing [] Idle 0

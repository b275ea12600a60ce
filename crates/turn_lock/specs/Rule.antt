-- The rule of the lock: there is one history, the tickets are in order, and one pass at most is in turn.
use Rattle.std.specs.Prelude.{◌≡◌, ◌≢◌, ℕ, ◌+◌, ◌%◌, ◌^◌, ◌<◌, ◌≤◌, List, [], ◌∷◌, ◌++◌, length, Option as Opt, None, Some}
use mathlib.Core.Option.{Option, none, some}
use lib.ListN.{get_elem?}
use Rattle.atomic_table.specs.Table.{State}
use Rattle.turn_lock.specs.declared.history.Home.{Home}
use Rattle.turn_lock.specs.declared.history.Known.{Known}
use Rattle.turn_lock.specs.declared.history.Stage.{Stage}
use Rattle.turn_lock.specs.declared.history.Stage.TheVariants.{Idle, Waits, InTurn}
use Rattle.turn_lock.specs.declared.history.Turn.{Turn}
use Rattle.turn_lock.specs.declared.history.View.{View}
use Rattle.turn_lock.specs.declared.lock.TheConstants.{MOST_PASSES}
use Rattle.turn_lock.specs.History.{last_of, IsHistory, turns_by, times, once_below}

-- f of each, added up
abbrev pub total : {V : Type 0} → (V → ℕ) → List V → ℕ
total f [] = 0
total f (v ∷ vs) = f v + total f vs

module _ {C : Type 0} where
  -- ---- tickets and numbers

  abbrev pub tickets_in : Stage C → ℕ
  tickets_in Idle = 0
  tickets_in (Waits n) = 1
  tickets_in (InTurn n h) = 1

  abbrev pub tickets : View C → ℕ
  tickets v = tickets_in v.stage

  abbrev pub numbers_of : View C → ℕ
  numbers_of v = length v.numbers

  abbrev pub HasTicket : ℕ → Stage C → Type 0
  HasTicket n Idle = ⊥
  HasTicket n (Waits m) = m ≡ n
  HasTicket n (InTurn m h) = m ≡ n

  -- ---- the slot

  abbrev pub home_of : ℕ → C → Home C
  home_of given value = record { given = given; value = value }

  -- it is empty while a pass is in turn
  abbrev pub at_home : Opt ℕ → Home C → Option (Opt (Home C))
  at_home None h = some (Some h)
  at_home (Some p) h = none

  -- ---- what a pass knows

  module _ (h : Home C) (log : List (Turn C)) (drawn served : ℕ) (turn : Opt ℕ) where
    -- Where the pass p stands, as its view says. One that waits has a ticket that is not served before its time; the one in turn has
    -- the ticket that is served, the value, and has seen the whole history.
    abbrev pub StandsAt : ℕ → View C → Stage C → Type 0
    StandsAt p v Idle = turn ≢ Some p
    StandsAt p v (Waits n) = (turn ≢ Some p) × (served ≤ n) × (n < drawn) × (1 ≤ length v.numbers)
    StandsAt p v (InTurn n found) =
        (turn ≡ Some p) × (n ≡ served) × (served < drawn) × (1 ≤ length v.numbers) × (found ≡ h) × (v.seen ≡ log)

  -- the history goes on from what was seen, and past it has no turn of these numbers
  abbrev pub Follows : List ℕ → List (Turn C) → List (Turn C) → Type 0
  Follows numbers seen log = (rest : List (Turn C)) × (log ≡ seen ++ rest) × ((x : ℕ) → 1 ≤ times x numbers → turns_by x rest ≡ 0)

  -- what the view of the pass p knows is so
  pub record Fits (opening : C) (h : Home C) (log : List (Turn C)) (drawn served : ℕ) (turn : Opt ℕ) (p : ℕ) (v : View C) : Type 0 where
    pub opened : (o : C) → v.opening ≡ Some o → o ≡ opening
    pub follows : Follows v.numbers v.seen log
    pub beside : Follows v.beside.numbers v.beside.seen log
    pub within : (x : ℕ) → 1 ≤ times x v.beside.numbers → 1 ≤ times x v.numbers
    pub stands : StandsAt h log drawn served turn p v v.stage
    pub counted : v.given ≤ h.given

  -- What holds at every moment: how many tickets were drawn and which is served, modulo 2 ^ 64; who is in turn; the history, and how
  -- many numbers were given out, each of which is in one view, once, and none of the others has a turn.
  pub record Kept (makes : ℕ → C → C → Type 0) (lines : C → ℕ) (opening : C) (s : State (Opt (Home C)) (View C)) : Type 0 where
    pub log : List (Turn C)
    pub given : ℕ
    pub drawn : ℕ
    pub served : ℕ
    pub turn : Opt ℕ
    pub holder : (p : ℕ) → turn ≡ Some p → (v : View C) × (get_elem? s.views p ≡ some v)
    pub legal : IsHistory makes opening log
    pub few : given ≤ MOST_PASSES
    pub words_are : s.words ≡ drawn % 2 ^ 64 ∷ served % 2 ^ 64 ∷ lines (last_of opening log) ∷ []
    pub homes_are : s.homes ≡ at_home turn (home_of given (last_of opening log)) ∷ []
    pub queue : served + total tickets s.views ≡ drawn
    pub numbers : total numbers_of s.views ≡ given
    pub once : (x : ℕ) → total (λ v. times x v.numbers) s.views ≡ once_below x given
    pub unused : (x : ℕ) → given ≤ x → turns_by x log ≡ 0
    pub apart : (p q n : ℕ) (v w : View C) → get_elem? s.views p ≡ some v → get_elem? s.views q ≡ some w
        → HasTicket n v.stage → HasTicket n w.stage → p ≡ q
    pub each : (p : ℕ) (v : View C) → get_elem? s.views p ≡ some v
        → Fits opening (home_of given (last_of opening log)) log drawn served turn p v

  -- ---- views

  abbrev pub known : List (Turn C) → List ℕ → Known C
  known seen numbers = record { seen = seen; numbers = numbers }

  abbrev pub nothing : Known C
  nothing = known [] []

  abbrev pub view_at : Opt C → List (Turn C) → Known C → List ℕ → Stage C → ℕ → View C
  view_at opening seen beside numbers stage given =
      record { opening = opening; seen = seen; beside = beside; numbers = numbers; stage = stage; given = given }

  -- of the first pass, whose number is 0
  abbrev pub first_view : C → View C
  first_view opening = view_at (Some opening) [] nothing (0 ∷ []) Idle 1

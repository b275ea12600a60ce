-- Answers, one after the other, to the session over a whole file: they make one of it.
use Rattle.ingest_session.proofs.Prelude.{◌≡◌, ◌∙◌, ℕ, Bool, true, false, List, [], ◌∷◌, ◌++◌, refl, sym, ap, subst, Kind, Leaf, Tree, Segment, Answer, Piece, needs_no_step, puts_aside, held_by, placed_by, placed_resumed, put_aside, set_aside, turn, SessionState, told_by}
use Rattle.std.proofs.Common.{None}
use Rattle.ingest_session.specs.History.{absent_by, sealed_by}
use Rattle.ingest_session.proofs.Replaying.{Core, core_of, session_at}
use Rattle.ingest_session.proofs.Waiting.{on_and_off}

-- how far a session came: its containers, and the pieces in their place
pub record Spot : Type 0 where
  pub core : Core
  pub placed : List Piece

abbrev pub session_on : Bool → List (List ℕ) → Spot → SessionState
session_on ended segments p = session_at ended segments p.core p.placed

-- one item more is in its place
abbrev pub place_on : Bool → List (List ℕ) → Spot → Spot
place_on ended segments p = record p { placed = p.placed ++ turn (session_on ended segments p) }

-- the open container of data is aside
abbrev pub aside_on : Bool → List (List ℕ) → Spot → Spot
aside_on ended segments p = record {
  core = core_of (set_aside (session_on ended segments p));
  placed = p.placed ++ placed_resumed (put_aside (session_on ended segments p));
}

-- Items that need no step go to their place, and containers that are to be sealed are set aside, one after the other.
pub data Skips (ended : Bool) (segments : List (List ℕ)) : Spot → Spot → Type 0 where
  Stays : (p : Spot) → Skips ended segments p p
  Then : (p q : Spot) → needs_no_step (session_on ended segments p) ≡ true → Skips ended segments (place_on ended segments p) q → Skips ended segments p q
  Apart : (p q : Spot) → needs_no_step (session_on ended segments p) ≡ false → puts_aside (session_on ended segments p) ≡ true
      → Skips ended segments (aside_on ended segments p) q → Skips ended segments p q

-- there a step is due
pub record IsStuck (ended : Bool) (segments : List (List ℕ)) (p : Spot) : Type 0 where
  pub none : needs_no_step (session_on ended segments p) ≡ false
  pub aside : puts_aside (session_on ended segments p) ≡ false

-- how far answers came
pub record Point : Type 0 where
  pub spot : Spot
  pub held : Kind → List Segment
  pub absent : Kind → List Segment
  pub sealed : Kind → List Segment

pub record IsSame (p q : Point) : Type 0 where
  pub spot : p.spot ≡ q.spot
  pub held : (kind : Kind) → p.held kind ≡ q.held kind
  pub absent : (kind : Kind) → p.absent kind ≡ q.absent kind
  pub sealed : (kind : Kind) → p.sealed kind ≡ q.sealed kind

abbrev pub start : Core
start = record { leaves = record { kind = Leaf; segments = [] }; nodes = record { kind = Tree; segments = [] }; aside = []; waits = None }

module _ (ended : Bool) (segments : List (List ℕ)) where
  abbrev pub at_point : Point → SessionState
  at_point p = session_on ended segments p.spot

  -- one answer more
  abbrev pub told_at : Answer → Point → Point
  told_at answer p = record {
    spot = record { core = core_of (told_by answer (at_point p)); placed = p.spot.placed ++ placed_by answer (at_point p) };
    held = λ kind. p.held kind ++ held_by kind answer (at_point p);
    absent = λ kind. p.absent kind ++ absent_by kind answer (at_point p);
    sealed = λ kind. p.sealed kind ++ sealed_by kind answer (at_point p);
  }

  -- These answers, the last of them first, were told, each where an item needs a step.
  abbrev pub Came : List Answer → Point → Type 0
  Came [] p = IsSame p (record { spot = record { core = start; placed = [] }; held = λ kind. []; absent = λ kind. []; sealed = λ kind. [] })
  Came (answer ∷ before) p =
      (from : Point) × (stuck : Spot) × Came before from × Skips ended segments from.spot stuck
      × IsStuck ended segments stuck × IsSame p (told_at answer (record from { spot = stuck }))

  -- ---- there is one such point

  pub skip_on : (p q r : Spot) → Skips ended segments p q → Skips ended segments q r → Skips ended segments p r
  skip_on _ _ r (Stays p) more = more
  skip_on _ _ r (Then p q first skips) more = Then p r first (skip_on _ q r skips more)
  skip_on _ _ r (Apart p q some puts skips) more = Apart p r some puts (skip_on _ q r skips more)

  pub one_end : (p one other : Spot) → Skips ended segments p one → Skips ended segments p other → IsStuck ended segments one
      → IsStuck ended segments other → one ≡ other
  one_end _ _ _ (Stays p) (Stays _) stuck also = refl
  one_end _ _ _ (Stays p) (Then _ q there skips) stuck also = on_and_off _ there stuck.none
  one_end _ _ _ (Stays p) (Apart _ q some puts skips) stuck also = on_and_off _ puts stuck.aside
  one_end _ _ _ (Then p one there skips) (Stays _) stuck also = on_and_off _ there also.none
  one_end _ _ _ (Then p one there skips) (Then _ other _ others) stuck also = one_end _ one other skips others stuck also
  one_end _ _ _ (Then p one there skips) (Apart _ other some puts others) stuck also = on_and_off _ there some
  one_end _ _ _ (Apart p one some puts skips) (Stays _) stuck also = on_and_off _ puts also.aside
  one_end _ _ _ (Apart p one some puts skips) (Then _ other there others) stuck also = on_and_off _ there some
  one_end _ _ _ (Apart p one some puts skips) (Apart _ other _ _ others) stuck also = one_end _ one other skips others stuck also

  same_back : (p q : Point) → IsSame p q → IsSame q p
  same_back p q is = record {
    spot = sym is.spot;
    held = λ kind. sym (is.held kind);
    absent = λ kind. sym (is.absent kind);
    sealed = λ kind. sym (is.sealed kind);
  }

  same_on : (p q r : Point) → IsSame p q → IsSame q r → IsSame p r
  same_on p q r is then = record {
    spot = is.spot ∙ then.spot;
    held = λ kind. is.held kind ∙ then.held kind;
    absent = λ kind. is.absent kind ∙ then.absent kind;
    sealed = λ kind. is.sealed kind ∙ then.sealed kind;
  }

  told_same : (answer : Answer) (p q : Point) → IsSame p q → IsSame (told_at answer p) (told_at answer q)
  told_same answer p q is = record {
    spot = ap (λ (x : Spot). record {
      core = core_of (told_by answer (session_on ended segments x));
      placed = x.placed ++ placed_by answer (session_on ended segments x);
    }) is.spot;
    held = λ kind.
        ap (λ (x : Spot). p.held kind ++ held_by kind answer (session_on ended segments x)) is.spot
        ∙ ap (λ (ss : List Segment). ss ++ held_by kind answer (at_point q)) (is.held kind);
    absent = λ kind.
        ap (λ (x : Spot). p.absent kind ++ absent_by kind answer (session_on ended segments x)) is.spot
        ∙ ap (λ (ss : List Segment). ss ++ absent_by kind answer (at_point q)) (is.absent kind);
    sealed = λ kind.
        ap (λ (x : Spot). p.sealed kind ++ sealed_by kind answer (session_on ended segments x)) is.spot
        ∙ ap (λ (ss : List Segment). ss ++ sealed_by kind answer (at_point q)) (is.sealed kind);
  }

  -- two points that are the same come to the same where a step is due
  pub same_stuck : (p q : Point) (one other : Spot) → IsSame p q → Skips ended segments p.spot one → Skips ended segments q.spot other
      → IsStuck ended segments one → IsStuck ended segments other → one ≡ other
  same_stuck p q one other is first second stuck also =
      one_end q.spot one other (subst (λ (x : Spot). Skips ended segments x one) is.spot first) second stuck also

  pub one_point : (answers : List Answer) (p q : Point) → Came answers p → Came answers q → IsSame p q
  one_point [] p q one other = same_on p _ q one (same_back q _ other)
  one_point (answer ∷ before) p q one other =
      let earlier = one_point before one.0 other.0 one.2 other.2 in
      let stuck = same_stuck one.0 other.0 one.1 other.1 earlier one.3 other.3 one.4 other.4 in
      let here : IsSame (record one.0 { spot = one.1 }) (record other.0 { spot = other.1 }) =
      record { spot = stuck; held = earlier.held; absent = earlier.absent; sealed = earlier.sealed } in
      same_on p _ q one.5 (same_on _ _ q (told_same answer (record one.0 { spot = one.1 }) (record other.0 { spot = other.1 }) here) (same_back q _ other.5))

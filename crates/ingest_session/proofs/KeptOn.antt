-- What is kept of a file that goes on from what was given, after some answers: however the bytes came between these, it is one.
use Rattle.ingest_session.proofs.Prelude.{◌∙◌, ℕ, true, List, [], ◌∷◌, ◌++◌, refl, sym, subst, reverse, Kind, Segment, segments_of, Answer, IsKept, MayFollow, History, HasHistory, answered, SessionState, IsAnswerFor, IsSettled, told_by}
use Rattle.ingest_session.proofs.Answering.{known}
use Rattle.ingest_session.proofs.Growing as growing
use Rattle.ingest_session.proofs.Members.{IsIn, in_none}
use Rattle.ingest_session.proofs.Replayed.{Extends, Reaches, reaches, told_reach}
use Rattle.ingest_session.proofs.Runs.{Came, IsSame, Point, one_point}
use Rattle.ingest_session.proofs.Waiting.{session_of}

-- of the segments of a whole file the answers come to a point at which this one is kept
pub record KeptBy (segments : List (List ℕ)) (answers : List Answer) (kind : Kind) (x : Segment) : Type 0 where
  pub from : Point
  pub came : Came true segments (reverse answers) from
  pub there : IsIn x (from.held kind ++ from.sealed kind)

pub none_kept : (segments : List (List ℕ)) (kind : Kind) (x : Segment) → KeptBy segments [] kind x → ⊥
none_kept segments kind x is =
    in_none x (subst (λ (xs : List Segment). IsIn x (xs ++ [])) (is.came.held kind)
    (subst (λ (xs : List Segment). IsIn x (is.from.held kind ++ xs)) (is.came.sealed kind) is.there))

module _ (s : SessionState) (h : History) (more : List ℕ) (has : HasHistory s h) (follow : MayFollow more s) where
  abbrev pub all : List (List ℕ)
  all = segments_of (h.given ++ more)

  extends : Extends true all s h
  extends =
      let on = growing.segments_go_on s h.given h.placed (session_of s h has) (known s h has).follows more follow in
      record { extra = on.0; all = on.1; whole = λ end. (refl, on.2 end) }

  -- at a point that a session came to, that is kept which its history has
  module _ (t : SessionState) (g : History) (comes : Reaches true all t g) (kind : Kind) (x : Segment) where
    kept_then : IsKept g kind x → KeptBy all g.answers kind x
    kept_then is = record {
      from = comes.from;
      came = comes.came;
      there = subst (λ (xs : List Segment). IsIn x (xs ++ comes.from.sealed kind)) (comes.held kind)
          (subst (λ (xs : List Segment). IsIn x (g.held kind ++ xs)) (comes.sealed kind) is);
    }

    then_kept : KeptBy all g.answers kind x → IsKept g kind x
    then_kept is =
        let same : IsSame is.from comes.from = one_point true all (reverse g.answers) is.from comes.from is.came comes.came in
        subst (λ (xs : List Segment). IsIn x (xs ++ g.sealed kind)) (same.held kind ∙ sym (comes.held kind))
        (subst (λ (xs : List Segment). IsIn x (is.from.held kind ++ xs)) (same.sealed kind ∙ sym (comes.sealed kind)) is.there)

  pub here : Reaches true all s h
  here = reaches true all s h has extends

  pub kept_here : (kind : Kind) (x : Segment) → IsKept h kind x → KeptBy all h.answers kind x
  kept_here kind x is = kept_then s h here kind x is

  pub here_kept : (kind : Kind) (x : Segment) → KeptBy all h.answers kind x → IsKept h kind x
  here_kept kind x is = then_kept s h here kind x is

  -- so it is after an answer more
  module _ (answer : Answer) (settled : IsSettled s) (right : IsAnswerFor answer s) where
    pub after : Reaches true all (told_by answer s) (answered answer s h)
    after = told_reach true all s h answer has extends settled right here

    pub kept_after : (kind : Kind) (x : Segment) → IsKept (answered answer s h) kind x → KeptBy all (h.answers ++ answer ∷ []) kind x
    kept_after kind x is = kept_then (told_by answer s) (answered answer s h) after kind x is

    pub after_kept : (kind : Kind) (x : Segment) → KeptBy all (h.answers ++ answer ∷ []) kind x → IsKept (answered answer s h) kind x
    after_kept kind x is = then_kept (told_by answer s) (answered answer s h) after kind x is

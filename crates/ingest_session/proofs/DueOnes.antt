-- What was given and answered fixes what is due.
use Rattle.ingest_session.proofs.Prelude.{◌≡◌, ◌∙◌, ℕ, Bool, true, List, [], ◌++◌, refl, sym, ap, subst, append-nil, reverse, drop-append_seam, Answer, Piece, due_in, data_in, History, HasHistory, SessionState, IsSettled}
use Rattle.ingest_session.specs.DueFor.{DueIsOne, OfferIsOne}
use Rattle.ingest_session.proofs.Replayed.{Extends, Reaches, cut_same, like_over, reaches, spot_of}
use Rattle.ingest_session.proofs.Replaying.{Core, IsLike, core_of, offer_alike, puts_alike, queue_at, session_at}
use Rattle.ingest_session.proofs.Runs.{Came, IsSame, Skips, Spot, one_end, one_point}

-- the segments that were given are all that there are
all_extends : (s : SessionState) (h : History) (segments : List (List ℕ)) → segments ≡ data_in h.placed ++ s.queue → (ended : Bool) → (s.ended ≡ true → ended ≡ true)
    → Extends ended segments s h
all_extends s h segments all ended end = record {
  extra = [];
  all = all ∙ sym (append-nil (data_in h.placed ++ s.queue));
  whole = λ is. (end is, refl);
}

module _ (s t : SessionState) (h g : History) (has : HasHistory s h) (gas : HasHistory t g) (given : h.given ≡ g.given) (ended : s.ended ≡ t.ended)
    (answers : h.answers ≡ g.answers) (settled : IsSettled s) (other : IsSettled t) where
  mine : Extends s.ended (data_in h.placed ++ s.queue) s h
  mine = all_extends s h (data_in h.placed ++ s.queue) refl s.ended (λ is. is)

  its : Extends s.ended (data_in h.placed ++ s.queue) t g
  its = all_extends t g (data_in h.placed ++ s.queue) (cut_same s t h g has gas given ended) s.ended (λ is. ended ∙ is)

  like_mine : IsLike s (session_at s.ended (data_in h.placed ++ s.queue) (core_of s) h.placed)
  like_mine = like_over s.ended (data_in h.placed ++ s.queue) s h has mine settled.placed.turn (λ none. (refl, drop-append_seam (data_in h.placed) s.queue))

  like_its : IsLike t (session_at s.ended (data_in h.placed ++ s.queue) (core_of t) g.placed)
  like_its =
      like_over s.ended (data_in h.placed ++ s.queue) t g gas its other.placed.turn
      (λ none. (
        ended,
        ap (λ (ss : List (List ℕ)). queue_at ss g.placed) (cut_same s t h g has gas given ended) ∙ drop-append_seam (data_in g.placed) t.queue,
      ))

  one : Reaches s.ended (data_in h.placed ++ s.queue) s h
  one = reaches s.ended (data_in h.placed ++ s.queue) s h has mine

  two : Reaches s.ended (data_in h.placed ++ s.queue) t g
  two = reaches s.ended (data_in h.placed ++ s.queue) t g gas its

  same_from : IsSame one.from two.from
  same_from =
      one_point s.ended (data_in h.placed ++ s.queue) (reverse h.answers) one.from two.from one.came
      (subst (λ (told : List Answer). Came s.ended (data_in h.placed ++ s.queue) (reverse told) two.from) (sym answers) two.came)

  -- both came to where a step is due, from the same
  spot_same : spot_of s.ended (data_in h.placed ++ s.queue) s h ≡ spot_of s.ended (data_in h.placed ++ s.queue) t g
  spot_same =
      one_end s.ended (data_in h.placed ++ s.queue) two.from.spot _ _
      (subst (λ (x : Spot). Skips s.ended (data_in h.placed ++ s.queue) x (spot_of s.ended (data_in h.placed ++ s.queue) s h)) same_from.spot one.skips)
      two.skips
      (record { none = like_mine.there ∙ settled.placed.none; aside = puts_alike s _ like_mine ∙ settled.aside })
      (record { none = like_its.there ∙ other.placed.none; aside = puts_alike t _ like_its ∙ other.aside })

  core_same : core_of s ≡ core_of t
  core_same = ap (λ (x : Spot). x.core) spot_same

  placed_same : h.placed ≡ g.placed
  placed_same = ap (λ (x : Spot). x.placed) spot_same

  due_same : due_in s ≡ due_in t
  due_same =
      sym like_mine.due
      ∙ ap (λ (c : Core). due_in (session_at s.ended (data_in h.placed ++ s.queue) c h.placed)) core_same
      ∙ ap (λ (ps : List Piece). due_in (session_at s.ended (data_in h.placed ++ s.queue) (core_of t) ps)) placed_same
      ∙ like_its.due

pub due_is_one : DueIsOne
due_is_one given ended answers _ _ first second =
    sym first.due_is
    ∙ due_same first.session second.session first.history second.history first.has second.has (first.given_is ∙ sym second.given_is)
    (first.ended_is ∙ sym second.ended_is) (first.answers_are ∙ sym second.answers_are) first.settled second.settled
    ∙ second.due_is

pub offer_is_one : OfferIsOne
offer_is_one given ended answers due also first second kind =
    sym (offer_alike kind first.session second.session
    (sym (core_same first.session second.session first.history second.history first.has second.has (first.given_is ∙ sym second.given_is)
    (first.ended_is ∙ sym second.ended_is) (first.answers_are ∙ sym second.answers_are) first.settled second.settled)))

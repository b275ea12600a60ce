-- What was given and answered fixes what is kept.
use Rattle.ingest_session.proofs.Prelude.{◌≡◌, ◌∙◌, ℕ, Bool, true, false, List, [], ◌++◌, refl, sym, ap, subst, append-nil, reverse, Segment, Hand, segments_of, HasCut-finish, Answer, data_in, History, HasHistory, SessionState, IsCutInto}
use Rattle.ingest_session.specs.DueFor.{KeptIsOne}
use Rattle.ingest_session.proofs.Answering.{known}
use Rattle.ingest_session.proofs.Replayed.{Extends, reaches}
use Rattle.ingest_session.proofs.Runs.{Came, IsSame, one_point}

-- the segments of a session are the first of those of the bytes that were given, and all of them after the end
cut_on : (ended : Bool) (given : List ℕ) (segments : List (List ℕ)) (hand : Hand) → IsCutInto ended given segments hand →
    (extra : List (List ℕ)) × (segments_of given ≡ segments ++ extra) × (ended ≡ true → extra ≡ [])
cut_on true given segments hand cut = ([], cut.0 ∙ sym (append-nil segments), λ on. refl)
cut_on false given segments hand cut = (segments_of hand.bytes, HasCut-finish given segments hand cut, λ on. absurd (cc))

given_extends : (s : SessionState) (h : History) → HasHistory s h → Extends true (segments_of h.given) s h
given_extends s h has =
    let on = cut_on s.ended h.given (data_in h.placed ++ s.queue) s.hand (known s h has).follows.cut in
    record { extra = on.0; all = on.1; whole = λ end. (refl, on.2 end) }

pub kept_is_one : KeptIsOne
kept_is_one s t h g has gas given answers kind =
    let one = reaches true (segments_of h.given) s h has (given_extends s h has) in
    let two = reaches true (segments_of h.given) t g gas
    (subst (λ (b : List ℕ). Extends true (segments_of b) t g) (sym given) (given_extends t g gas)) in
    let same : IsSame one.from two.from =
    one_point true (segments_of h.given) (reverse h.answers) one.from two.from one.came
    (subst (λ (told : List Answer). Came true (segments_of h.given) (reverse told) two.from) (sym answers) two.came) in
    ap (λ (ss : List Segment). ss ++ h.sealed kind) (one.held kind ∙ same.held kind ∙ sym (two.held kind))
    ∙ ap (λ (ss : List Segment). g.held kind ++ ss) (one.sealed kind ∙ same.sealed kind ∙ sym (two.sealed kind))

-- The sessions of a desk beside those of a runner, and what actors are at.
use Rattle.script_runner.proofs.Prelude.{◌≡◌, ◌≢◌, ◌∙◌, ◌==◌, ◌<◌, ℕ, zero, suc, Bool, true, false, if◌then◌else◌, List, [], ◌∷◌, length, slice_set, replicate, Option, Some, None, refl, sym, ap, subst, arith, eqb-true, eqb-false, get_or-set_same, PartKind, kept, SessionState, Session, all_none, IsSessionOf, Kept, SameSession, SameSessions, WritersGive, Sessions, has_ended, kind_by, with_session}
use Rattle.std.proofs.Common.{slice_index_or}
use Rattle.actor_parts.specs.declared.part.Part as core_part
use Rattle.actor_parts.specs.declared.part.Part.TheVariants as core_parts
use Rattle.actor_parts.specs.Kinds as core_kinds
use Rattle.actor_parts.specs.Parts.{part_of}
use Rattle.refusals.specs.declared.refusal.PartKind.TheVariants as kinds
use Rattle.store_machine.specs.Lines as machine
use Rattle.script_runner.specs.Sessions.{session_of}

-- ---- lists of sessions

pub same_at : (P : ℕ → Kept → Type 0) (ds : List (Option Session)) (xs : Sessions) → SameSessions P ds xs → (a : ℕ)
    → SameSession (P a) (slice_index_or ds a None) (slice_index_or xs a None)
same_at P [] [] same a = tt
same_at P [] (x ∷ xs) same a = absurd same
same_at P (d ∷ ds) [] same a = absurd same
same_at P (d ∷ ds) (x ∷ xs) same zero = same.0
same_at P (d ∷ ds) (x ∷ xs) same (suc a) = same_at (λ b. P (suc b)) ds xs same.1 a

-- where more is owned
pub session_on : (P Q : Kept → Type 0) (s : Session) (x : SessionState) → ((k : Kept) → P k → Q k) → IsSessionOf P s x → IsSessionOf Q s x
session_on P Q s x on is = record {
  history = is.history;
  has = is.has;
  given_is = is.given_is;
  answers_are = is.answers_are;
  ended_is = is.ended_is;
  owns = on (kept is.history) is.owns;
}

one_on : (P Q : Kept → Type 0) (d : Option Session) (x : Option SessionState) → ((k : Kept) → P k → Q k) → SameSession P d x → SameSession Q d x
one_on P Q None None on same = tt
one_on P Q (Some s) (Some x) on same = session_on P Q s x on same
one_on P Q None (Some x) on same = absurd same
one_on P Q (Some s) None on same = absurd same

pub same_on : (P Q : ℕ → Kept → Type 0) (ds : List (Option Session)) (xs : Sessions) → ((b : ℕ) (k : Kept) → P b k → Q b k) → SameSessions P ds xs → SameSessions Q ds xs
same_on P Q [] [] on same = tt
same_on P Q [] (x ∷ xs) on same = absurd same
same_on P Q (d ∷ ds) [] on same = absurd same
same_on P Q (d ∷ ds) (x ∷ xs) on same = (one_on (P 0) (Q 0) d x (on 0) same.0, same_on (λ b. P (suc b)) (λ b. Q (suc b)) ds xs (λ b k. on (suc b) k) same.1)

-- the session of an actor is put, and the others stay
pub same_put : (P Q : ℕ → Kept → Type 0) (ds : List (Option Session)) (xs : Sessions) → SameSessions P ds xs → (a : ℕ) (d : Option Session) (x : Option SessionState)
    → SameSession (Q a) d x
    → ((b : ℕ) (k : Kept) → b ≢ a → P b k → Q b k) → SameSessions Q (slice_set ds a d) (slice_set xs a x)
same_put P Q [] [] same a d x is on = tt
same_put P Q [] (y ∷ xs) same a d x is on = absurd same
same_put P Q (e ∷ ds) [] same a d x is on = absurd same
same_put P Q (e ∷ ds) (y ∷ xs) same zero d x is on = (is, same_on (λ b. P (suc b)) (λ b. Q (suc b)) ds xs (λ b k. on (suc b) k (λ wrong. absurd (omega (arith, wrong)))) same.1)
same_put P Q (e ∷ ds) (y ∷ xs) same (suc a) d x is on = (
  one_on (P 0) (Q 0) e y (λ k. on 0 k (λ wrong. absurd (omega (arith, wrong)))) same.0,
  same_put (λ b. P (suc b)) (λ b. Q (suc b)) ds xs same.1 a d x is (λ b k differs. on (suc b) k (λ so. differs (omega (arith, so)))),
)

pub same_none : (P Q : ℕ → Kept → Type 0) (n : ℕ) (ds : List (Option Session)) (xs : Sessions) → SameSessions P ds xs → length xs ≡ n
    → SameSessions Q (all_none ds) (replicate n None)
same_none P Q zero [] [] same many = tt
same_none P Q (suc n) (d ∷ ds) (x ∷ xs) same many = (tt, same_none (λ b. P (suc b)) (λ b. Q (suc b)) n ds xs same.1 (omega (arith, many)))
same_none P Q (suc n) [] [] same many = absurd (omega (arith, many))
same_none P Q zero (d ∷ ds) (x ∷ xs) same many = absurd (omega (arith, many))
same_none P Q n [] (x ∷ xs) same many = absurd same
same_none P Q n (d ∷ ds) [] same many = absurd same

pub none_same : (P : ℕ → Kept → Type 0) (n : ℕ) → SameSessions P (replicate n None) (replicate n None)
none_same P zero = tt
none_same P (suc n) = (tt, none_same (λ b. P (suc b)) n)

-- where a runner has a session the desk has one
pub record DeskSession (P : Kept → Type 0) (ds : List (Option Session)) (a : ℕ) (x : SessionState) : Type 0 where
  pub s : Session
  pub there : slice_index_or ds a None ≡ Some s
  pub is : IsSessionOf P s x

pub desk_session : (P : ℕ → Kept → Type 0) (ds : List (Option Session)) (xs : Sessions) → SameSessions P ds xs → (a : ℕ) (x : SessionState) → session_of xs a ≡ Some x
    → DeskSession (P a) ds a x
desk_session P ds xs same a x is = by (slice_index_or ds a None) refl (subst (SameSession (P a) (slice_index_or ds a None)) is (same_at P ds xs same a))
  where
    by : (d : Option Session) → slice_index_or ds a None ≡ d → SameSession (P a) d (Some x) → DeskSession (P a) ds a x
    by None there h = absurd h
    by (Some s) there h = record { s = s; there = there; is = h }

-- ---- what an actor is at

module _ (p : core_part.Part) where
  by_end : (b c : Bool) → c ≡ b → (if b then kinds.Finished else kinds.Writing) ≡ kind_by (Some c) (core_kinds.kind_of p)
  by_end true true is = refl
  by_end false false is = refl
  by_end true false is = absurd cc
  by_end false true is = absurd cc

-- the desk's kind is the runner's
pub same_kind : (P : Kept → Type 0) (d : Option Session) (x : Option SessionState) (k : PartKind) (p : core_part.Part) → SameSession P d x → k ≡ core_kinds.kind_of p
    → (x ≡ None → core_kinds.kind_of p ≢ kinds.Writing) → machine.kind_by d k ≡ kind_by (has_ended x) (core_kinds.kind_of p)
same_kind P None None k core_parts.Idle same is gives = is
same_kind P None None k (core_parts.Writing pins) same is gives = absurd (gives refl refl)
same_kind P None None k (core_parts.Reading reader) same is gives = is
same_kind P (Some s) (Some x) k p same is gives = by_end p s.ended x.ended same.ended_is
same_kind P None (Some x) k p same is gives = absurd same
same_kind P (Some s) None k p same is gives = absurd same

-- ---- who gives a file

pub gives_on : (a : ℕ) (xs ys : Sessions) (old new : List core_part.Part) → WritersGive xs old → ((b : ℕ) → b ≢ a → session_of ys b ≡ session_of xs b)
    → ((b : ℕ) → b ≢ a → part_of new b ≡ part_of old b) → (session_of ys a ≡ None → core_kinds.kind_of (part_of new a) ≢ kinds.Writing) → WritersGive ys new
gives_on a xs ys old new gives sessions parts own b none = by (b == a) refl
  where
    by : (same : Bool) → (b == a) ≡ same → core_kinds.kind_of (part_of new b) ≢ kinds.Writing
    by true is =
        let e = eqb-true b a is in
        subst (λ (c : ℕ). core_kinds.kind_of (part_of new c) ≢ kinds.Writing) (sym e) (own (subst (λ (c : ℕ). session_of ys c ≡ None) e none))
    by false is =
        let differs = eqb-false b a is in
        λ writes. gives b (sym (sessions b differs) ∙ none) (sym (ap core_kinds.kind_of (parts b differs)) ∙ writes)

-- a session that is put there is there
pub is_put : (xs : Sessions) (a : ℕ) (x : SessionState) → a < length xs → session_of (with_session xs a (Some x)) a ≡ None → ⊥
is_put xs a x below none = let both = sym (get_or-set_same xs a (Some x) None below) ∙ none in absurd cc

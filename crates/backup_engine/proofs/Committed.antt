-- The name of a file that a session was fed is given its root.
use Rattle.backup_engine.proofs.Prelude.{◌≡◌, ◌≤◌, ◌∙◌, ℕ, List, [], length, Ok, Err, refl, sym, ap, subst, MOST_FILE, Root, KindSegment, Answer, Refusal, Piece, Data, Node, IsPieceOf, piece_segment, root_of, CoreStep, kept_of, CoreState, BytesAreCounted, SessionState, MayBe, opens_of, IsOneOf}
use Rattle.std.proofs.Common.{append-nil}
use Rattle.actor_parts.specs.StepValue as asked
use Rattle.ingest_session.specs.Facts.{AllIsKept}
use Rattle.backup_engine.specs.Feeding.{IsAllFed, IsPut}
use Rattle.backup_engine.proofs.FirstActor.{by_first}
use Rattle.backup_engine.proofs.WayCommits.{way_commits, way_uncommitted}

pub commit_is : (was name : List ℕ) (root other : Root) → was ≡ name → root ≡ other → asked.Commit was root ≡ asked.Commit name other
commit_is was name root other same_name same_root = ap (λ (n : List ℕ). asked.Commit n root) same_name ∙ ap (λ (r : Root). asked.Commit name r) same_root

-- a piece as a container has it
itself : (p : Piece) (xs : List KindSegment) → IsOneOf (record { kind = (piece_segment p).kind; segment = (piece_segment p).segment }) xs → IsOneOf (piece_segment p) xs
itself (Data bytes) xs one = one
itself (Node n) xs one = one

module _ (C : Type 0) (state : C → CoreState) (name given : List ℕ) (s : SessionState) (start old new : C) (all : IsAllFed C state given s start old) (kept : AllIsKept)
    (counted : BytesAreCounted) (buf : List ℕ) where
  few : length given ≤ MOST_FILE
  few = subst (λ (l : List ℕ). length l ≤ MOST_FILE) all.fed.given_is (counted s all.fed.history all.fed.has).1

  whole : (p : Piece) → IsPieceOf given p → IsOneOf (piece_segment p) (kept_of all.fed.way.steps)
  whole p is =
      let ends = kept s all.fed.history all.fed.has all.ended all.done in
      itself p (kept_of all.fed.way.steps)
      (all.fed.told (piece_segment p).kind (piece_segment p).segment (ends.kept p (subst (λ (l : List ℕ). IsPieceOf l p) (sym all.fed.given_is) is)))

  may_be : MayBe given s given
  may_be = ([], λ on. refl, sym (append-nil given))

  pub put_done : (answer : Answer) → CoreStep (state old) (by_first (asked.Commit name (root_of given)) (Ok answer) buf) (state new) → IsPut C state name given (Ok tt) start new
  put_done answer step =
      let put = way_commits C state (MayBe given s) (opens_of s) start old new all.fed.way buf name given may_be few whole answer step in
      record { ran = put.0; few = few; held = put.1; refused = tt }

  pub put_refused : (refusal : Refusal) → CoreStep (state old) (by_first (asked.Commit name (root_of given)) (Err refusal) buf) (state new) →
      IsPut C state name given (Err refusal) start new
  put_refused refusal step =
      let put = way_uncommitted C state (MayBe given s) (opens_of s) start old new all.fed.way buf name given may_be few whole refusal step in
      record { ran = put.0; few = tt; held = tt; refused = put.1 }

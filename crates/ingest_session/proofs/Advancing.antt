-- The builder gets the first segment of the queue, and is ended after the last.
use Rattle.ingest_session.proofs.Prelude.{◌≡◌, ℕ, Bool, true, false, List, [], ◌∷◌, length, Some, IsSome, refl, sym, ap, subst, KindSegment, Top, of_segment, Progress, BuildsFront, Finishes, IsAdvanced, IsClosing, front_of, SessionState, is_last, leaf_segment, rest_after}
use Rattle.std.proofs.Common.{Option, None}
use Rattle.ingest_session.specs.Moving.{Builds}

builds_front : (queue : List (List ℕ)) (seg : KindSegment) (old new : Progress) → front_of queue ≡ Some seg →
    Builds (of_segment seg.segment.bytes) old new → BuildsFront queue old new
builds_front [] seg old new is builds = absurd (cc)
builds_front (x ∷ xs) seg old new is builds =
    let same : leaf_segment x ≡ seg = cc in
    subst (λ (bytes : List ℕ). Builds (of_segment bytes) old new) (sym (ap (λ s. s.segment.bytes) same)) builds

pub is_advanced : (s : SessionState) (seg : KindSegment) (b : Progress) → s.ahead ≡ None → front_of s.queue ≡ Some seg →
    Builds (of_segment seg.segment.bytes) s.built b → IsAdvanced s (record s { ahead = Some seg; built = b })
is_advanced s seg b none is builds = record {
  none = none;
  ahead = sym is;
  builds = builds_front s.queue seg s.built b is builds;
  others = refl;
}

-- ---- the last segment

one_is_last : (ended : Bool) (ahead : Option KindSegment) (queue : List (List ℕ)) → ended ≡ true → IsSome ahead → length queue ≡ 1 →
    is_last ended (rest_after ahead queue) ≡ true
one_is_last false ahead queue on some one = absurd (cc)
one_is_last true None queue on some one = absurd (cc)
one_is_last true (Some seg) [] on some one = absurd (cc)
one_is_last true (Some seg) (x ∷ []) on some one = refl
one_is_last true (Some seg) (x ∷ (y ∷ ys)) on some one = absurd (cc)

pub is_closing : (s : SessionState) (top : Top) (b : Progress) → s.top ≡ None → s.ended ≡ true → IsSome s.ahead → length s.queue ≡ 1 →
    Finishes top s.built b → IsClosing s (record s { built = b; top = Some top })
is_closing s top b none ended some one finishes = record {
  none = none;
  last = one_is_last s.ended s.ahead s.queue ended some one;
  root = top;
  top = refl;
  finishes = finishes;
  others = refl;
}

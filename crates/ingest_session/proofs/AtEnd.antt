-- The end of a file.
use Rattle.ingest_session.proofs.Prelude.{◌≡◌, ◌≤◌, ◌+◌, ◌∙◌, ℕ, Bool, true, false, List, [], ◌∷◌, ◌++◌, Some, length, refl, sym, ap, subst, arith, sum_by, length-append, zero-add, sum_by-append, KindSegment, empty_hand, IsSession, SessionState, AreLong, is_last, rest_after, rest_of}
use Rattle.std.proofs.Common.{Option, None}
use Rattle.disk_format.specs.declared.numbers.TheConstants.{MOST_SEGMENT}
use Rattle.ingest_session.proofs.Lists.{all_and_one}
use Rattle.ingest_session.proofs.Uncut.{empty_is_uncut}
use Rattle.ingest_session.proofs.Rests.{rest_grows, ahead_stays, full_stays, never_whole, not_last_and_one, ongoing_last}
use Rattle.ingest_session.proofs.Waiting.{on_and_off}

-- ---- the segments that are still to come

last_long : (ended : Bool) (rest : List (List ℕ)) (x : List ℕ) → ended ≡ false → AreLong ended rest → AreLong true (rest ++ x ∷ [])
last_long true rest x on long = absurd (cc)
last_long false [] x on long = (λ last. absurd (cc), tt)
last_long false (y ∷ ys) x on long = (λ _. long.0 refl, last_long false ys x refl long.1)

still_long : (ended : Bool) (rest : List (List ℕ)) → ended ≡ false → AreLong ended rest → AreLong true rest
still_long true rest on long = absurd (cc)
still_long false [] on long = tt
still_long false (y ∷ ys) on long = (λ _. long.0 refl, still_long false ys refl long.1)

empty_has_no_rest : (ahead : Option KindSegment) (queue : List (List ℕ)) → is_last true queue ≡ true → is_last true (rest_after ahead queue) ≡ true
empty_has_no_rest None queue last = last
empty_has_no_rest (Some seg) [] last = refl
empty_has_no_rest (Some seg) (x ∷ xs) last = absurd (cc)

module _ (s : SessionState) (is : IsSession s) (ongoing : s.ended ≡ false) where
  pub ended_with_rest : (x : List ℕ) → s.hand.bytes ≡ x → 1 ≤ length x → length x ≤ MOST_SEGMENT →
      IsSession (record s { ended = true; hand = empty_hand; queue = s.queue ++ x ∷ [] })
  ended_with_rest x hand some few =
      let grows = rest_grows s.ahead s.queue x is.ahead in
      let more : length (s.queue ++ x ∷ []) ≡ length s.queue + 1 = length-append s.queue (x ∷ []) in
      let last = ongoing_last s.ended (rest_of s) ongoing in
      record {
        data_kind = is.data_kind;
        tree_kind = is.tree_kind;
        few = is.few;
        hand = refl;
        uncut = empty_is_uncut;
        room = λ on. absurd (cc);
        least = is.least;
        limit = is.limit;
        at_end = omega (arith, more, is.room ongoing);
        sized = all_and_one _ s.queue x is.sized (some, few);
        ahead = ahead_stays s.ahead s.queue x is.ahead;
        spelled = is.spelled;
        building = record {
          bytes = λ on.
              let before = is.building.bytes on in
              let sum = ap (sum_by length) grows ∙ sum_by-append length (rest_of s) (x ∷ []) ∙ ap (λ n. sum_by length (rest_of s) + n) (zero-add (length x)) in
              let long = ap length hand in omega (arith, before, sum, long);
          long = subst (λ (r : List (List ℕ)). AreLong true r) (sym grows) (last_long s.ended (rest_of s) x ongoing is.building.long);
          counted = λ on _. is.building.counted on last;
        };
        whole = never_whole s.top (is_last s.ended (rest_of s)) _ is.whole last;
        closed = λ at_end. absurd (not_last_and_one true s.queue x at_end);
        next = is.next;
        nodes_right = is.nodes_right;
        aside = is.aside;
        together = is.together;
        full = λ on. full_stays s x (is.waits on).0 is.ahead (is.full on);
        line = is.line;
        waits = λ on. ((is.waits on).0, λ _ at_end. absurd (not_last_and_one true (rest_of s) x (ap (is_last true) (sym grows) ∙ at_end)));
      }

  pub ended_before_last : s.hand.bytes ≡ [] → is_last true (rest_of s) ≡ false → IsSession (record s { ended = true; hand = empty_hand })
  ended_before_last hand not_last =
      let last = ongoing_last s.ended (rest_of s) ongoing in
      record {
        data_kind = is.data_kind;
        tree_kind = is.tree_kind;
        few = is.few;
        hand = refl;
        uncut = empty_is_uncut;
        room = λ on. absurd (cc);
        least = is.least;
        limit = is.limit;
        at_end = is.at_end;
        sized = is.sized;
        ahead = is.ahead;
        spelled = is.spelled;
        building = record {
          bytes = λ on. let before = is.building.bytes on in let none = ap length hand in omega (arith, before, none);
          long = still_long s.ended (rest_of s) ongoing is.building.long;
          counted = λ on _. is.building.counted on last;
        };
        whole = never_whole s.top (is_last s.ended (rest_of s)) _ is.whole last;
        closed = λ at_end. on_and_off _ (empty_has_no_rest s.ahead s.queue at_end) not_last;
        next = is.next;
        nodes_right = is.nodes_right;
        aside = is.aside;
        together = is.together;
        full = is.full;
        line = is.line;
        waits = λ on. ((is.waits on).0, λ _ at_end. on_and_off _ at_end not_last);
      }

-- A segment that is whole is put into the queue.
use Rattle.ingest_session.proofs.Prelude.{◌≡◌, ◌≤◌, ◌<◌, ◌+◌, ◌∙◌, ℕ, Bool, true, false, List, [], ◌∷◌, ◌++◌, length, take, refl, sym, ap, subst, arith, sum_by, append_assoc, length-append, zero-add, length-take-le, sum_by-append, LEAST_SEGMENT, MOST_FILE, Hand, HasCut, empty_hand, IsTaking, KeepsItem, IsSession, SessionState, rest_of, rest_after, is_last, AreLong, turn_node, IsCutInto}
use Rattle.segmenter.specs.declared.cutting.Taken.{Taken}
use Rattle.segmenter.specs.Cutting.{Takes, IsOne}
use Rattle.ingest_session.proofs.Lists.{all_and_one}
use Rattle.ingest_session.proofs.Uncut.{empty_is_uncut}
use Rattle.ingest_session.proofs.Rests.{rest_grows, ahead_stays, full_stays, item_stays, long_and_one, never_whole, not_last_and_one, ongoing_last}

-- a segment was cut off, and waits
abbrev pub cut_off : SessionState → ℕ → List ℕ → SessionState
cut_off s n x = record s { count = s.count + n; hand = empty_hand; queue = s.queue ++ x ∷ [] }

sum_and_one : (rest : List (List ℕ)) (x : List ℕ) → sum_by length (rest ++ x ∷ []) ≡ sum_by length rest + length x
sum_and_one rest x = sum_by-append length rest (x ∷ []) ∙ ap (λ n. sum_by length rest + n) (zero-add (length x))

long_more : (ended : Bool) (rest : List (List ℕ)) (x : List ℕ) → ended ≡ false → AreLong ended rest → LEAST_SEGMENT ≤ length x → AreLong ended (rest ++ x ∷ [])
long_more false rest x on long one = long_and_one rest x long one
long_more true rest x on long one = absurd (cc)

module _ (s : SessionState) (bytes : List ℕ) (taken : Taken) (hand : Hand) (is : IsSession s) (ongoing : s.ended ≡ false) where
  pub cut_off_is_session : s.count + length bytes ≤ MOST_FILE → length s.queue + s.unseen < s.most → Takes s.hand bytes taken hand → taken.whole ≡ true
      → LEAST_SEGMENT ≤ length hand.bytes → IsOne hand.bytes → IsSession (cut_off s taken.taken hand.bytes)
  cut_off_is_session few room takes whole least one =
      let grows = rest_grows s.ahead s.queue hand.bytes is.ahead in
      let long : length hand.bytes ≡ length s.hand.bytes + taken.taken =
      ap length takes.bytes ∙ length-append s.hand.bytes (take taken.taken bytes) ∙ ap (λ n. length s.hand.bytes + n) (length-take-le taken.taken bytes takes.within) in
      let more : length (s.queue ++ hand.bytes ∷ []) ≡ length s.queue + 1 = length-append s.queue (hand.bytes ∷ []) in
      record {
        data_kind = is.data_kind;
        tree_kind = is.tree_kind;
        few = omega (arith, few, takes.within);
        hand = refl;
        uncut = empty_is_uncut;
        least = is.least;
        limit = is.limit;
        room = λ _. omega (arith, more, room);
        at_end = omega (arith, more, room);
        sized = all_and_one _ s.queue hand.bytes is.sized (omega (arith, least), one.at_most);
        ahead = ahead_stays s.ahead s.queue hand.bytes is.ahead;
        spelled = is.spelled;
        building = record {
          bytes = λ on. let before = is.building.bytes on in
              let sum = ap (sum_by length) grows ∙ sum_and_one (rest_of s) hand.bytes in omega (arith, before, sum, long);
          long = subst (λ (r : List (List ℕ)). AreLong s.ended r) (sym grows) (long_more s.ended (rest_of s) hand.bytes ongoing is.building.long least);
          counted = λ on _. is.building.counted on (ongoing_last s.ended (rest_of s) ongoing);
        };
        whole = never_whole s.top (is_last s.ended (rest_of s)) _ is.whole (ongoing_last s.ended (rest_of s) ongoing);
        closed = λ last. absurd (not_last_and_one s.ended s.queue hand.bytes last);
        next = is.next;
        nodes_right = is.nodes_right;
        aside = is.aside;
        together = is.together;
        line = is.line;
        full = λ on. full_stays s hand.bytes (is.waits on).0 is.ahead (is.full on);
        waits = λ on. ((is.waits on).0, λ _ last. absurd (not_last_and_one s.ended (rest_of s) hand.bytes (ap (is_last s.ended) (sym grows) ∙ last)));
      }

  cut_more : (ended : Bool) (given more x : List ℕ) (segments : List (List ℕ)) → ended ≡ false →
      (HasCut given (segments ++ rest_of s) s.hand → HasCut more ((segments ++ rest_of s) ++ x ∷ []) empty_hand) →
      IsCutInto ended given (segments ++ rest_of s) s.hand → IsCutInto ended more (segments ++ rest_after s.ahead (s.queue ++ x ∷ [])) empty_hand
  cut_more true given more x segments on step cut = absurd (cc)
  cut_more false given more x segments on step cut =
      subst (λ (r : List (List ℕ)). HasCut more r empty_hand)
      (append_assoc segments (rest_of s) (x ∷ []) ∙ ap (λ (r : List (List ℕ)). segments ++ r) (sym (rest_grows s.ahead s.queue x is.ahead)))
      (step cut)

  -- an item that waits is not the last
  item_waits : (x : List ℕ) → KeepsItem s (record s { queue = s.queue ++ x ∷ [] })
  item_waits x on = (refl, item_stays (turn_node s) s.spelled s.ahead s.queue x (is.waits on).0 is.ahead)

  pub cut_off_takes : taken.taken ≤ length bytes →
      ((given : List ℕ) (segments : List (List ℕ)) → HasCut given segments s.hand
      → HasCut (given ++ take taken.taken bytes) (segments ++ hand.bytes ∷ []) empty_hand) →
      IsTaking (take taken.taken bytes) s (cut_off s taken.taken hand.bytes)
  cut_off_takes within step = record {
    ongoing = ongoing;
    count = ap (λ n. s.count + n) (sym (length-take-le taken.taken bytes within));
    more = hand.bytes ∷ [];
    queue = refl;
    item = item_waits hand.bytes;
    cut = λ given segments cut.
        cut_more s.ended given (given ++ take taken.taken bytes) hand.bytes segments ongoing (step given (segments ++ rest_of s)) cut;
    others = refl;
  }

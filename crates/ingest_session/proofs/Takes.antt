-- Bytes that are taken piece by piece.
use Rattle.ingest_session.proofs.Prelude.{◌≡◌, ◌∙◌, false, ◌++◌, ℕ, List, [], ap, sym, refl, subst, append_assoc, append-nil, length-append, arith, SessionState, rest_of, IsCutInto, IsTaking}

pub takes_none : (s : SessionState) → s.ended ≡ false → IsTaking [] s s
takes_none s ongoing = record {
  ongoing = ongoing;
  count = omega arith;
  more = [];
  queue = sym (append-nil s.queue);
  item = λ on. (refl, refl);
  cut = λ given segments cut.
      subst (λ (g : List ℕ). IsCutInto s.ended g (segments ++ rest_of s) s.hand) (sym (append-nil given)) cut;
  others = refl;
}

pub takes_more : (bytes others : List ℕ) (first second third : SessionState) → IsTaking bytes first second → IsTaking others second third →
    IsTaking (bytes ++ others) first third
takes_more bytes others first second third one two = record {
  ongoing = one.ongoing;
  count = let long = length-append bytes others in omega (arith, one.count, two.count, long);
  more = one.more ++ two.more;
  queue = two.queue ∙ ap (λ (q : List (List ℕ)). q ++ two.more) one.queue ∙ append_assoc first.queue one.more two.more;
  item = λ on.
      let before = one.item on in
      let after = two.item (ap (λ (s : SessionState). s.waits) one.others ∙ on) in (after.0 ∙ before.0, after.1 ∙ before.1);
  cut = λ given segments cut.
      subst (λ (g : List ℕ). IsCutInto third.ended g (segments ++ rest_of third) third.hand) (append_assoc given bytes others)
      (two.cut (given ++ bytes) segments (one.cut given segments cut));
  others = two.others ∙ ap (λ (s : SessionState). record s { count = third.count; hand = third.hand; queue = third.queue }) one.others;
}

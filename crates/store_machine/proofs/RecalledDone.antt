-- A step that the machine of roots does, no step of a collection, is one that the machine of files does.
use Rattle.store_machine.proofs.Prelude.{◌≡◌, ◌+◌, ℕ, suc, [], ◌∷◌, Contains, refl, sym, ◌∙◌, ap, subst, PinMap, pin_of, KindSegment, segment_key, Root, Put, Gone, start_of, PartKind, segments_of, with_change, Forgets, Rests, SamePart, Claims, Deletes, GivesBytes, GivesUp, IsAtEnd, OpensValue, Seals, with_name, without_name, Idle, Writing, Reading, keeping, one_more, part_in, put_at, HasCopy, ComesNext, of_files, of_roots, top_of}
use Rattle.std.proofs.Common.{List, slice_set, take}
use Rattle.std.specs.FinMap as finite
use Rattle.container_meta.specs.Segments.{Contents}
use Rattle.store_model.specs.Trees.{root_of}
use Rattle.store_machine.specs.Legal.{AllFit, Commits}
use Rattle.store_machine.specs.Remembering.{IsWhole}
use Rattle.store_machine.proofs.AddedSame.{all_added_back, sealed_same}
use Rattle.store_machine.proofs.Parts.{F, G, put, set_told, with_collection, with_names, with_parts}
use Rattle.store_machine.proofs.Recalled.{Recalls, goes, stays, idle, kept_now, keeps_back, kind_is, knows, may_commit, numbers, reading}
use Rattle.store_machine.proofs.SameNames.{file_back, gone_same, put_same}
use Rattle.store_machine.proofs.Walks.{ends_back, start_both}

module _ (m : F) (r : G) (same : Forgets m r) where
  -- what is left of a step, that is of this kind
  abbrev Left : (F → Type 0) → G → Type 0
  Left P t = Recalls m r same P t

  pub claimed : (a : ℕ) (seg : KindSegment) (t : G) → Claims of_roots a seg r t → HasCopy m.store seg → ¬ (Contains m.forgotten (segment_key seg.kind seg.segment))
      → Left (λ n. Claims of_files a seg m n) t
  claimed a seg t c copy there =
      let keys = segment_key seg.kind seg.segment ∷ [] in
      let part : PinMap = finite.insert c.may.pins (segment_key seg.kind seg.segment) (pin_of seg) in
      goes m r same (λ n. Claims of_files a seg m n) t (record (put_at r a (Writing part)) { collection = keeping keys r.collection })
      (record (put_at m a (Writing part)) { collection = keeping keys m.collection }) c.others
      (record {
        may = keeps_back m r same a _ c.may;
        held = λ indexed. ((copy.copy, copy.copy_is, copy.length_is), there);
        same = λ known. copy;
        others = refl;
      })
      (with_collection (put_at m a (Writing part)) (put_at r a (Writing part)) (put m r same a (Writing part) (Writing part) refl)
      (keeping keys m.collection) (keeping keys r.collection) (kept_now m r same keys))

  pub sealed : (a : ℕ) (offered : List Contents) (id count : ℕ) (t : G) → Seals of_roots a offered id count r t → AllFit of_files (take count offered) m
      → Left (λ n. Seals of_files a offered id count m n) t
  sealed a offered id count t c fits =
      let left = all_added_back a (take count offered) m r t same c.adds in (
        left.0,
        record {
          offer = c.offer;
          may = keeps_back m r same a _ c.may;
          count_is = c.count_is ∙ sealed_same m r same offered;
          some = c.some;
          fits = λ told. fits;
          id_is = c.id_is ∙ ap (λ (k : ℕ). k + count) same.last_id;
          adds = left.1;
        },
        left.2,
      )

  pub committed : (a : ℕ) (name file : List ℕ) (sequence : ℕ) (t : G) → Commits of_roots a name (root_of file) sequence r t → IsWhole file m
      → Left (λ n. Commits of_files a name file sequence m n) t
  committed a name file sequence t c (few, whole) =
      let o : G =
      record (put_at r a Idle) {
        now = with_name of_roots name (root_of file) r.now;
        store = with_change name (Put (root_of file)) r.store;
        acknowledged = one_more r.acknowledged;
      } in
      let n : F =
      record (put_at m a Idle) {
        now = with_name of_files name file m.now;
        store = with_change name (Put (root_of file)) m.store;
        acknowledged = one_more m.acknowledged;
      } in
      goes m r same (λ n. Commits of_files a name file sequence m n) t o n c.others
      (record {
        may = may_commit m r same a name file c.may;
        right = few;
        whole = whole;
        numbers = numbers m r same c.numbers;
        sequence_is = c.sequence_is ∙ ap suc same.now.last_is;
        others = refl;
      })
      (with_names (put_at m a Idle) (put_at r a Idle) (put m r same a Idle Idle tt) (with_name of_files name file m.now)
      (with_name of_roots name (root_of file) r.now) (with_change name (Put (root_of file))) (put_same m.now r.now same.now name file few))

  pub deleted : (name : List ℕ) (sequence : ℕ) (t : G) → Deletes of_roots name sequence r t → Left (λ n. Deletes of_files name sequence m n) t
  deleted name sequence t c =
      let o : G = record r { now = without_name of_roots name r.now; store = with_change name Gone r.store; acknowledged = one_more r.acknowledged } in
      let n : F = record m { now = without_name of_files name m.now; store = with_change name Gone m.store; acknowledged = one_more m.acknowledged } in
      goes m r same (λ n. Deletes of_files name sequence m n) t o n c.others
      (record {
        named = c.named;
        there = knows m r same name c.there;
        numbers = numbers m r same c.numbers;
        sequence_is = c.sequence_is ∙ ap suc same.now.last_is;
        others = refl;
      })
      (with_names m r same (without_name of_files name m.now) (without_name of_roots name r.now) (with_change name Gone) (gone_same m.now r.now same.now name))

  -- the name's root is that of its file, and all of it is to come either way
  pub opened : (a : ℕ) (name : List ℕ) (count : ℕ) (t : G) → OpensValue of_roots a name count r t → Left (λ n. OpensValue of_files a name count m n) t
  opened a name count t (named, is_idle, (root, tops, found, starts, count_is, others)) =
      let (file, file_is, root_is) = file_back m.now r.now same.now name root found in
      let tops_are : tops ≡ start_of (top_of (root_of file)) = starts ∙ ap (λ (x : Root). start_of (top_of x)) root_is in
      let rests : Rests (segments_of file) tops = subst (Rests (segments_of file)) (sym tops_are) (start_both file (same.now.few name file file_is)) in
      goes m r same (λ n. OpensValue of_files a name count m n) t (put_at r a (Reading root tops)) (put_at m a (Reading file (segments_of file))) others
      (named, idle m r same a is_idle, (file, segments_of file, file_is, refl, count_is ∙ ap (λ (x : Root). x.length) root_is, refl))
      (put m r same a (Reading file (segments_of file)) (Reading root tops) (root_is, rests))

  pub given : (a : ℕ) (bytes : List ℕ) (t : G) → GivesBytes of_roots a bytes r t → ComesNext a bytes m t → Left (λ n. GivesBytes of_files a bytes m n) t
  given a bytes t (root, tops, after, was, gives, others) (file, rest, is, one) =
      goes m r same (λ n. GivesBytes of_files a bytes m n) t (put_at r a (Reading root after)) (put_at m a (Reading file rest)) others
      (file, bytes ∷ rest, rest, is, refl, refl)
      (with_parts m r same (slice_set m.parts a (Reading file rest)) (slice_set r.parts a (Reading root after))
      (set_told m.parts r.parts a (Reading file rest) (Reading root after) same.parts (subst (λ (x : G). SamePart (Reading file rest) (part_in x a)) others one)))

  pub at_end : (a : ℕ) (t : G) → IsAtEnd of_roots a r t → Left (λ n. IsAtEnd of_files a m n) t
  at_end a t (root, tops, was, ends, others) =
      let reads = reading m r same a root tops was in
      stays m r same (λ n. IsAtEnd of_files a m n) t others (reads.file, reads.rest, reads.reads, ends_back reads.rest tops reads.rests ends, refl)

  pub given_up : (a : ℕ) (kind : PartKind) (t : G) → GivesUp of_roots a kind r t → Left (λ n. GivesUp of_files a kind m n) t
  given_up a kind t (is, others) =
      goes m r same (λ n. GivesUp of_files a kind m n) t (put_at r a Idle) (put_at m a Idle) others (kind_is m r same a ∙ is, refl) (put m r same a Idle Idle tt)

-- Just the keys of which a predicate holds are live as a collection begins: where its roots are such, and with a node its children, and each
-- such key lies below a root.
use Rattle.core_machine.proofs.Prelude.{◌≡◌, ℕ, List, Some, sym, ◌∙◌, subst, PlaceMap, IsRoot, IsSafe, root_whole, IsLive, NameMap, Stored, Store, names_of, IsAt, CoreState, same_some, IsBelowLive, IsLiveAtStage, LivesJust}
use Rattle.gc_steps.specs.declared.collection.Collection.{Collection}
use Rattle.gc_steps.proofs.RootTrees.{whole_indexed}
use Rattle.gc_steps.proofs.Safe.{start_safe}
use Rattle.store_core.specs.Collecting.{Begins}
use Rattle.core_machine.proofs.CollectNeeds.{needs_here, told_here}
use Rattle.core_machine.proofs.Lives.{IsClosed, below_at, closed_at}

module _ (S : List ℕ → Type 0) (s : Store) (stored : Stored) (old new : CoreState) (at : IsAt S s stored old) (content : List ℕ) (content_is : old.disk.content ≡ Some content)
    (percent snapshot : ℕ)
    (begun : Begins percent snapshot old new) where
  names_same : old.tables.names ≡ names_of s
  names_same = at.represents.names_are.names_are

  -- its roots are live
  pub roots_live : (key : List ℕ) → IsRoot (names_of s) old.parts key → IsLive at.index begun.collection.live key
  roots_live key root =
      let has = whole_indexed at.index s.held content key (root_whole at.index s stored.files old.parts content (at.invariant content content_is)
      (needs_here S s stored old at content content_is) key root) in
      (has.0, (has.1, (begun.live key has.0).1 (subst (λ (names : NameMap). IsRoot names old.parts key) (sym names_same) root)))

  safe_then : IsSafe at.index s old.parts content begun.collection
  safe_then =
      start_safe at.index s old.parts content stored.files (at.invariant content content_is) (needs_here S s stored old at content content_is) old.tables begun.collection
      (told_here S s stored old at) begun.next_is
      begun.stage_is begun.live

  pub lives_begun : (P : List ℕ → Type 0) → new.known ≡ old.known → new.disk.content ≡ old.disk.content → ((key : List ℕ) → IsRoot (names_of s) old.parts key → P key)
      → IsClosed P s content
      → ((key : List ℕ) → P key → IsBelowLive at.index s.held content begun.collection.live key) → (collection : Collection) → new.collection ≡ Some collection
      → LivesJust P s new collection
  lives_begun P known_same content_same roots closed below collection runs =
      subst (LivesJust P s new) (same_some begun.collection collection new.collection begun.runs runs) (record {
        within = λ key place is. roots key (subst (λ (names : NameMap). IsRoot names old.parts key) names_same ((begun.live key place).0 is));
        closed = λ image told. closed_at P s image begun.collection.stage (subst (IsClosed P s) (same_content image told) closed);
        all = λ index image known told key such.
            subst (λ (b : List ℕ). IsLiveAtStage begun.collection.stage index s.held b begun.collection.live key) (same_content image told)
            (subst (λ (i : PlaceMap). IsLiveAtStage begun.collection.stage i s.held content begun.collection.live key) (same_index index known)
            (below_at begun.collection.stage at.index s old.parts content begun.collection safe_then key (below key such)));
      })
    where
      same_content : (image : List ℕ) → new.disk.content ≡ Some image → content ≡ image
      same_content image told = let both : Some content ≡ Some image = sym content_is ∙ sym content_same ∙ told in cc

      same_index : (index : PlaceMap) → new.known ≡ Some index → at.index ≡ index
      same_index index known = let both : Some at.index ≡ Some index = sym at.index_known ∙ sym known_same ∙ known in cc

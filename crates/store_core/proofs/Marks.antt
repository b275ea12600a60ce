-- What becomes live where a collection runs.
use Rattle.store_core.proofs.Prelude.{some_same, ◌≡◌, ◌↔◌, ◌⊎◌, ◌≤◌, ◌+◌, inl, inr, ℕ, zero, suc, List, [], ◌∷◌, length, map, take, Option, Some, None, Result, Ok, Err, refl, sym, ◌∙◌, ap, subst, Entry, Kind, Segment, entries_from, segment_key, IsLiveAt, LiveKeys, Collection, Marks, contains_none, marks_none, MarksIn, Restores}
use Rattle.std.proofs.Common.{OnOk, OnErr, IfOk}
use Rattle.std.specs.List.{Contains}
use Rattle.std.specs.Prelude.{◌++◌, slice_get}
use Rattle.std.proofs.lemmas.List.{append-nil, append_assoc, take_all}
use Rattle.container_meta.specs.Segments.{Contents, keys_of}
use Rattle.store_model.specs.Indexing.{entry_key}
use Rattle.store_core.specs.Collecting.{keys_in}
use Rattle.gc_steps.specs.Fresh.{AreFresh, IsAsLive, Unmarks}
use Rattle.gc_steps.proofs.FreshMarks.{unmarked_fresh}
use Rattle.gc_steps.proofs.Marked.{contains_more, marks_as}

-- a list of one key has it alone
pub contains_one : (key k : List ℕ) → Contains (key ∷ []) k ↔ (k ≡ key)
contains_one key k = (λ there. by_case ((contains_more [] key k).1 there), λ same. (contains_more [] key k).0 (inr same))
  where
    by_case : Contains [] k ⊎ (k ≡ key) → k ≡ key
    by_case (inl there) = absurd (contains_none k there)
    by_case (inr same) = same

pub contains_same : (keys others : List (List ℕ)) → keys ≡ others → (k : List ℕ) → Contains keys k ↔ Contains others k
contains_same keys others same k = (λ there. subst (λ (ks : List (List ℕ)). Contains ks k) same there, λ there. subst (λ (ks : List (List ℕ)). Contains ks k) (sym same) there)

-- each key is as live as it was
marks_nothing : (old new : LiveKeys) → IsAsLive old new → Marks (λ k. ⊥) old new
marks_nothing old new same key place = (λ is. inl ((same key place).0 is), λ is. (same key place).1 (by_case is))
  where
    by_case : IsLiveAt old key place ⊎ ⊥ → IsLiveAt old key place
    by_case (inl was) = was
    by_case (inr none) = absurd none

-- ---- the collection that runs

module _ (old : Option Collection) (c new : Collection) (ran : old ≡ Some c) (others : new ≡ record c { live = new.live }) where
  some_marks : (P : List ℕ → Type 0) → Marks P c.live new.live → MarksIn P old (Some new)
  some_marks P marks = subst (λ (o : Option Collection). MarksIn P o (Some new)) (sym ran) (new.live, (ap (λ (x : Collection). Some x) others, marks))

  -- keys were marked
  pub marks_all : (keys : List (List ℕ)) {T E : Type 0} (result : Result T E) (P : List ℕ → Type 0) → ((key : List ℕ) → Contains keys key ↔ P key)
      → OnOk result (Marks (Contains keys) c.live new.live)
      → OnOk result (MarksIn P old (Some new))
  marks_all keys (Ok x) P same marks = some_marks P (marks_as (Contains keys) P c.live new.live same marks)
  marks_all keys (Err e) P same marks = tt

  -- those that were not live can be taken away again
  restores_all : (keys fresh : List (List ℕ)) → Marks (Contains keys) c.live new.live → AreFresh keys c.live fresh → Restores old (Some new) fresh
  restores_all keys fresh marks are = subst (λ (o : Option Collection). Restores o (Some new) fresh) (sym ran)
      (new.live, (ap (λ (x : Collection). Some x) others, λ after unmarks. unmarked_fresh keys fresh c.live new.live after marks are unmarks))

  pub restores_ok : (keys : List (List ℕ)) {T E : Type 0} (result : Result T E) (items : T → List (List ℕ)) → OnOk result (Marks (Contains keys) c.live new.live)
      → IfOk result (λ fresh. AreFresh keys c.live (items fresh)) → IfOk result (λ fresh. Restores old (Some new) (items fresh))
  restores_ok keys (Ok x) items marks are = restores_all keys (items x) marks are
  restores_ok keys (Err e) items marks are = tt

  -- none could be
  pub marks_kept : {T E : Type 0} (result : Result T E) → OnErr result (IsAsLive c.live new.live) → OnErr result (MarksIn (λ k. ⊥) old (Some new))
  marks_kept (Ok x) kept = tt
  marks_kept (Err e) kept = some_marks (λ k. ⊥) (marks_nothing c.live new.live kept)

-- it is the same
pub marks_same : {T E : Type 0} (result : Result T E) (old : Option Collection) (c : Collection) → old ≡ Some c → OnErr result (MarksIn (λ k. ⊥) old (Some c))
marks_same (Ok x) old c ran = tt
marks_same (Err e) old c ran = some_marks old c c ran refl (λ k. ⊥) (marks_none (λ k. ⊥) c.live (λ k none. none))

-- ---- marks that are taken away

pub unmarks_some : (before now : Option Collection) (fresh : List (List ℕ)) (mid new : Collection) → now ≡ Some mid → new ≡ record mid { live = new.live }
    → Unmarks fresh mid.live new.live
    → Restores before now fresh → MarksIn (λ k. ⊥) before (Some new)
unmarks_some None now fresh mid new ran others unmarks restores = absurd (let wrong : None ≡ Some mid = sym restores ∙ ran in cc)
unmarks_some (Some c) now fresh mid new ran others unmarks restores =
    let same : mid ≡ record c { live = restores.0 } = some_same mid (record c { live = restores.0 }) (sym ran ∙ restores.1.0) in (
      new.live,
      (
        ap (λ (x : Collection). Some x) (others ∙ ap (λ (x : Collection). record x { live = new.live }) same),
        marks_nothing c.live new.live (restores.1.1 new.live (subst (λ (x : Collection). Unmarks fresh x.live new.live) same unmarks)),
      ),
    )

-- ---- the keys of a container

entry_keys : (kind : Kind) (offset : ℕ) (ss : List Segment) → map (entry_key kind) (entries_from offset ss) ≡ map (segment_key kind) ss
entry_keys kind offset [] = refl
entry_keys kind offset (s ∷ ss) = ap (λ (ks : List (List ℕ)). segment_key kind s ∷ ks) (entry_keys kind (offset + length s.bytes) ss)

-- the loop's end
pub keys_whole : (filled : Contents) (entries : List Entry) (i : ℕ) (before keys : List (List ℕ)) → length entries ≤ i
    → keys ≡ before ++ map (entry_key filled.kind) (take i entries) → entries ≡ entries_from 0 filled.segments
    → keys ≡ before ++ keys_of filled
keys_whole filled entries i before keys past are is =
    are ∙ ap (λ (ks : List (List ℕ)). before ++ ks) (ap (map (entry_key filled.kind)) (take_all i entries past ∙ is) ∙ entry_keys filled.kind 0 filled.segments)

-- those of one container more
pub keys_next : (cs : List Contents) (i : ℕ) (c : Contents) → slice_get cs i ≡ Some c → keys_in (take (suc i) cs) ≡ keys_in (take i cs) ++ keys_of c
keys_next [] i c here = absurd cc
keys_next (x ∷ xs) zero c here =
    append-nil (keys_of x) ∙ ap keys_of (some_same x c here)
keys_next (x ∷ xs) (suc i) c here = ap (λ (ks : List (List ℕ)). keys_of x ++ ks) (keys_next xs i c here) ∙ sym (append_assoc (keys_of x) (keys_in (take i xs)) (keys_of c))

-- What a collection has done at its end, whatever steps came between (docs/MODEL.md, 'Collection').
use Rattle.std.specs.Prelude.{◌≡◌, ◌≢◌, ◌⊎◌, ◌↔◌, ℕ, ◌+◌, ◌≤◌, List, [], ◌∷◌, length, slice_get, take, Contains, Some, Ok}
use Rattle.container_meta.specs.Segments.{Contents}
use Rattle.container_meta.specs.Spelling.{HeaderValue, header_of}
use Rattle.gc_select.specs.Selecting.{selected}
use Rattle.refusals.specs.declared.refusal.Phase.{Phase}
use Rattle.refusals.specs.declared.refusal.Phase.TheVariants.{Copy}
use Rattle.store_model.specs.Image.{Store}
use Rattle.store_model.specs.Steps.{FlushContainer, StoreChange}
use Rattle.store_machine.specs.Asked as asked
use Rattle.store_machine.specs.Collecting.{keys_written, sources_in}
use Rattle.store_machine.specs.Done as done
use Rattle.store_machine.specs.Legal.{Legal}
use Rattle.store_machine.specs.Machine.{Collection, Machine, Stepped, Sweep, Sweeping}
use Rattle.store_machine.specs.Offers.{IsHeaderOfOne}
use Rattle.store_machine.specs.Runs.{Run}
use Rattle.store_machine.specs.Values.{Values}

-- a slot has the container
abbrev pub HasContainer : Store → ℕ → HeaderValue → Type 0
HasContainer store slot h = slice_get store.held slot ≡ Some (Some h)

-- no two containers have one id, and none has a greater one than was given out
pub record HasIds (store : Store) (last : ℕ) : Type 0 where
  pub differ : (slot other : ℕ) (h g : HeaderValue) → HasContainer store slot h → HasContainer store other g → h.id ≡ g.id → slot ≡ other
  pub given_out : (slot : ℕ) (h : HeaderValue) → HasContainer store slot h → h.id ≤ last

-- no key comes twice
abbrev pub EachOnce : List (List ℕ) → Type 0
EachOnce [] = Unit {0}
EachOnce (key ∷ keys) = ¬ (Contains keys key) × EachOnce keys

-- a container that changes wrote
abbrev pub IsWrittenBy : List StoreChange → HeaderValue → Type 0
IsWrittenBy [] h = ⊥
IsWrittenBy (FlushContainer id kind segments ∷ more) h = (h ≡ header_of id kind segments) ⊎ IsWrittenBy more h
IsWrittenBy (change ∷ more) h = IsWrittenBy more h

-- a container that an actor sealed by this step
pub record IsSealOf {V : Type 0} (s : Stepped V) (h : HeaderValue) : Type 0 where
  pub offered : List Contents
  pub last : ℕ
  pub count : ℕ
  pub asked_is : s.asked ≡ asked.Seal offered
  pub answer_is : s.answer ≡ Ok (done.Sealed (last + count) count)
  pub header_is : IsHeaderOfOne last (take count offered) h

abbrev pub IsSealedBy : {V : Type 0} → List (Stepped V) → HeaderValue → Type 0
IsSealedBy [] h = ⊥
IsSealedBy (s ∷ ss) h = IsSealOf s h ⊎ IsSealedBy ss h

-- neither an opening nor the end of a collection is among the steps
abbrev pub IsBetween : {V : Type 0} → Stepped V → Type 0
IsBetween s = (s.asked ≢ asked.Reopen) × ((freed copied : ℕ) → s.answer ≢ Ok (done.Collected freed copied))

abbrev pub AreBetween : {V : Type 0} → List (Stepped V) → Type 0
AreBetween [] = Unit {0}
AreBetween (s ∷ ss) = IsBetween s × AreBetween ss

module _ {V R : Type 0} where
  -- a copying step took the key
  pub record TakesKey (m n : Machine V R) (key : List ℕ) : Type 0 where
    pub before : Collection V
    pub after : Collection V
    pub ran : m.collection ≡ Some before
    pub runs : n.collection ≡ Some after
    pub s : Sweep
    pub t : Sweep
    pub next : Phase
    pub was : before.stage ≡ Sweeping Copy s
    pub is : after.stage ≡ Sweeping next t
    pub new : ¬ (Contains s.filled key)
    pub taken : Contains t.filled key

  module _ (v : Values V R) where
    abbrev pub WasTaken : (ss : List (Stepped V)) (m n : Machine V R) → Run v ss m n → List ℕ → Type 0
    WasTaken [] m n run key = ⊥
    WasTaken (s ∷ ss) m n run key = ((s.asked ≡ asked.GcStep) × TakesKey m run.0 key) ⊎ WasTaken ss run.0 n run.1.1 key

    -- From the machine at which a collection had begun to that of its end, with the steps between: no container that was selected is there;
    -- each other one that was there when it began is, where it was; and so is each that an actor sealed or that it wrote since, and no
    -- other. It wrote just the keys that copying steps took, each once; and it tells how many of them, and how many containers it gave
    -- back.
    pub record Collected (freed copied : ℕ) (ss : List (Stepped V)) (m k n : Machine V R) (run : Run v ss m k) : Type 0 where
      pub c : Collection V
      pub ran : k.collection ≡ Some c
      pub gone : (slot : ℕ) (h : HeaderValue) → HasContainer n.store slot h → ¬ (Contains (sources_in c) h.id)
      pub stay : (slot : ℕ) (h : HeaderValue) → HasContainer m.store slot h → ¬ (Contains (sources_in c) h.id)
          → HasContainer n.store slot h
      pub sealed : (h : HeaderValue) → IsSealedBy ss h → (slot : ℕ) × HasContainer n.store slot h
      pub written : (h : HeaderValue) → IsWrittenBy c.changes h → (slot : ℕ) × HasContainer n.store slot h
      pub no_other : (slot : ℕ) (h : HeaderValue) → HasContainer n.store slot h
          → HasContainer m.store slot h ⊎ IsSealedBy ss h ⊎ IsWrittenBy c.changes h
      pub freed_is : freed ≡ length (selected c.snapshot c.percent c.recorded)
      pub copied_is : copied ≡ length (keys_written c.changes)
      pub keys_are : (key : List ℕ) → Contains (keys_written c.changes) key ↔ WasTaken ss m k run key
      pub once : EachOnce (keys_written c.changes)

    -- A collection that comes to its end has done this.
    abbrev pub CollectsWhatItSelected : Type 0
    CollectsWhatItSelected =
        v.Known → (percent snapshot freed copied : ℕ) (first last : Stepped V) (ss : List (Stepped V)) (m k n : Machine V R)
        → (old : Machine V R) → HasIds old.store old.last_id → first.asked ≡ asked.GcStart percent
        → first.answer ≡ Ok (done.Started snapshot)
        → Legal v first old m → (run : Run v ss m k) → AreBetween ss → last.asked ≡ asked.GcStep
        → last.answer ≡ Ok (done.Collected freed copied) → Legal v last k n → Collected freed copied ss m k n run

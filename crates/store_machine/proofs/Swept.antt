-- What holds of a collection since it began, whatever steps came between; and so, at its end, what it has done.
use Rattle.store_machine.proofs.Prelude.{◌≡◌, ◌⊎◌, ◌↔◌, ◌<◌, ◌≤◌, ◌+◌, inl, inr, ⊎_elim, ℕ, zero, suc, true, false, Bool, nat_lt, [], ◌∷◌, ◌++◌, get_or, length, Contains, Option, refl, sym, ◌∙◌, ap, subst, arith, Contains-append_cases, Contains-append_left, Contains-push_cases, Entry, Kind, HeaderValue, Phase, Store, FlushContainer, FreeContainer, StoreChange, EachOnce, IsWrittenBy, Gathered, TakesAll, TakesOne, freed_in, keys_written, marking, sources_in, Collection, Marking, Recording, Sweeping, Sweep, keys_of, Values}
use Rattle.std.proofs.Common.{List, if◌then◌else◌}
use Rattle.std.proofs.lemmas.Bool.{ltb-false}
use Rattle.refusals.specs.declared.refusal.Phase.TheVariants as phases
use Rattle.store_machine.specs.Collecting.{next_by}
use Rattle.store_machine.specs.Machine.{Stage}

-- ---- lists

-- what an empty list has
pub none_in : {X : Type 0} (x : X) → Contains [] x → ⊥
none_in x is = absurd (omega (arith, is.1))

pub head_of : {X : Type 0} (x : X) (xs : List X) → Contains (x ∷ xs) x
head_of x xs = (0, omega arith, refl)

pub in_tail : {X : Type 0} (y : X) (xs : List X) (x : X) → Contains xs x → Contains (y ∷ xs) x
in_tail y xs x is = (suc is.0, omega (arith, is.1), is.2)

pub in_cases : {X : Type 0} (y : X) (xs : List X) (x : X) → Contains (y ∷ xs) x → (y ≡ x) ⊎ Contains xs x
in_cases y xs x (zero, within, is) = inl is
in_cases y xs x (suc i, within, is) = inr (i, omega (arith, within), is)

-- keys of which none is in the other list, each once
pub once_both : (xs ys : List (List ℕ)) → EachOnce xs → EachOnce ys → ((key : List ℕ) → Contains ys key → ¬ (Contains xs key)) → EachOnce (xs ++ ys)
once_both [] ys one other apart = other
once_both (x ∷ xs) ys one other apart = (
  (λ is. ⊎_elim (λ here. one.0 here) (λ there. apart x there (head_of x xs)) (Contains-append_cases xs ys x is)),
  once_both xs ys one.1 other (λ key is among. apart key is (in_tail x xs key among)),
)

-- ---- changes

pub freed_more : (xs ys : List StoreChange) → freed_in (xs ++ ys) ≡ freed_in xs + freed_in ys
freed_more [] ys = omega arith
freed_more (FreeContainer slot ∷ xs) ys = omega (arith, freed_more xs ys)
freed_more (x ∷ xs) ys = freed_more xs ys

pub append_keys : (xs ys zs : List (List ℕ)) → (xs ++ ys) ++ zs ≡ xs ++ (ys ++ zs)
append_keys [] ys zs = refl
append_keys (x ∷ xs) ys zs = ap (λ (l : List (List ℕ)). x ∷ l) (append_keys xs ys zs)

pub written_more : (xs ys : List StoreChange) → keys_written (xs ++ ys) ≡ keys_written xs ++ keys_written ys
written_more [] ys = refl
written_more (FlushContainer id kind segments ∷ xs) ys =
    ap (λ (l : List (List ℕ)). keys_of kind segments ++ l) (written_more xs ys) ∙ sym (append_keys (keys_of kind segments) (keys_written xs) (keys_written ys))
written_more (x ∷ xs) ys = written_more xs ys

one_more : {A B C D : Type 0} → D ↔ (B ⊎ C) → (A ⊎ D) ↔ ((A ⊎ B) ⊎ C)
one_more {A} {B} {C} {D} rest = (to, from)
  where
    to : A ⊎ D → (A ⊎ B) ⊎ C
    to (inl is) = inl (inl is)
    to (inr is) = ⊎_elim (λ one. inl (inr one)) (λ other. inr other) (rest.0 is)

    from : (A ⊎ B) ⊎ C → A ⊎ D
    from (inl (inl is)) = inl is
    from (inl (inr is)) = inr (rest.1 (inl is))
    from (inr is) = inr (rest.1 (inr is))

pub by_more : (xs ys : List StoreChange) (h : HeaderValue) → IsWrittenBy (xs ++ ys) h ↔ (IsWrittenBy xs h ⊎ IsWrittenBy ys h)
by_more [] ys h = (inr, (λ is. ⊎_elim (λ none. absurd none) (λ one. one) is))
by_more (FlushContainer id kind segments ∷ xs) ys h = one_more (by_more xs ys h)
by_more (x ∷ xs) ys h = by_more xs ys h

-- ---- what a copying step takes

module _ {V R : Type 0} (v : Values V R) (c : Collection V) (store : Store) (slot : ℕ) (kind : Kind) where
  -- what was to be written still is; what is new is in no list before; and no key comes twice
  pub record Adds (before after : List (List ℕ)) : Type 0 where
    pub stays : (key : List ℕ) → Contains before key → Contains after key
    pub cases : (key : List ℕ) → Contains after key → Contains before key ⊎ ¬ (Contains before key)
    pub once : EachOnce before → EachOnce after

  adds_none : (g : List (List ℕ)) → Adds g g
  adds_none g = record { stays = λ key is. is; cases = λ key is. inl is; once = λ is. is }

  adds_one : (g : List (List ℕ)) (key : List ℕ) → ¬ (Contains g key) → Adds g (g ++ key ∷ [])
  adds_one g key new = record {
    stays = λ other is. Contains-append_left g (key ∷ []) other is;
    cases = λ other is. ⊎_elim (λ here. inl here) (λ same. inr (subst (λ (k : List ℕ). ¬ (Contains g k)) same new)) (Contains-push_cases g key other is);
    once = λ is. once_both g (key ∷ []) is ((λ none. none_in key none), tt)
        (λ other one. subst (λ (k : List ℕ). ¬ (Contains g k)) (⊎_elim (λ same. same) (λ none. absurd (none_in other none)) (in_cases key [] other one)) new);
  }

  adds_on : (a b d : List (List ℕ)) → Adds a b → Adds b d → Adds a d
  adds_on a b d one other = record {
    stays = λ key is. other.stays key (one.stays key is);
    cases = λ key is. ⊎_elim (λ here. one.cases key here) (λ new. inr (λ was. new (one.stays key was))) (other.cases key is);
    once = λ is. other.once (one.once is);
  }

  takes_one : (e : Entry) (g after : Gathered) → TakesOne v c store slot kind e g after → Adds g.filled after.filled
  takes_one e g after (inl (other, is)) = subst (λ (x : Gathered). Adds g.filled x.filled) (sym is) (adds_none g.filled)
  takes_one e g after (inr (has, inl (dead, is))) = subst (λ (x : Gathered). Adds g.filled x.filled) (sym is) (adds_none g.filled)
  takes_one e g after (inr (has, inr (needed, inl (there, is)))) = subst (λ (x : Gathered). Adds g.filled x.filled) (sym is) (adds_none g.filled)
  takes_one e g after (inr (has, inr (needed, inr (new, room, is)))) = subst (λ (x : Gathered). Adds g.filled x.filled) (sym is) (adds_one g.filled _ new)

  pub takes_all : (es : List Entry) (g after : Gathered) → TakesAll v c store slot kind es g after → Adds g.filled after.filled
  takes_all [] g after is = subst (λ (x : Gathered). Adds g.filled x.filled) (sym is) (adds_none g.filled)
  takes_all (e ∷ es) g after (mid, one, rest) = adds_on g.filled mid.filled after.filled (takes_one e g mid one) (takes_all es mid after rest)

-- ---- the sources, as far as they were swept

-- what is to be written, at a stage
abbrev pub filled_at : Stage → List (List ℕ)
filled_at (Sweeping next s) = s.filled
filled_at stage = []

-- nothing before the sweep
pub none_filled : (left : ℕ) → filled_at (marking left) ≡ []
none_filled zero = refl
none_filled (suc left) = refl

-- Of the sources so many came to their end, and each of these was given back, waits or is ready; some wait only where something is to be
-- written. At the end nothing is to be done.
pub record SweepsSince (sources gone : List ℕ) (next : Phase) (s : Sweep) : Type 0 where
  pub before : s.source ≤ length sources
  pub counted : length gone + length s.waiting + length s.ready ≡ s.source
  pub into : (i : ℕ) → i < s.source → Contains gone (get_or sources i 0) ⊎ Contains s.waiting (get_or sources i 0) ⊎ Contains s.ready (get_or sources i 0)
  pub from : (id : ℕ) → Contains gone id ⊎ Contains s.waiting id ⊎ Contains s.ready id → Contains sources id
  pub waits : s.filled ≡ [] → s.waiting ≡ []
  pub flushes : next ≡ phases.Flush → s.ready ≡ []
  pub ends : next ≡ phases.End → (s.filled ≡ []) × (s.ready ≡ []) × (length sources ≤ s.source)

abbrev pub AtStage : {V : Type 0} → Collection V → (gone : List ℕ) → Stage → Type 0
AtStage c gone (Marking left) = gone ≡ []
AtStage c gone Recording = gone ≡ []
AtStage c gone (Sweeping next s) = SweepsSince (sources_in c) gone next s

-- what next_of comes to
pub ends_by : (held : List (Option HeaderValue)) (sources : List ℕ) (source : ℕ) (ready : List ℕ) (filled : List (List ℕ)) → next_by held sources source ready filled ≡ phases.End
    → (filled ≡ []) × (ready ≡ []) × (length sources ≤ source)
ends_by held sources source (id ∷ ids) filled is = absurd (let wrong : phases.Release ≡ phases.End = is in cc)
ends_by held sources source [] [] is = (refl, refl, by (nat_lt source (length sources)) refl is)
  where
    by : (b : Bool) → nat_lt source (length sources) ≡ b → (if b then phases.Copy else phases.End) ≡ phases.End → length sources ≤ source
    by true same wrong = absurd (let no : phases.Copy ≡ phases.End = wrong in cc)
    by false same wrong = omega (arith, ltb-false source (length sources) same)
ends_by held sources source [] (key ∷ keys) is = absurd (by (nat_lt source (length sources)) _ is)
  where
    by : (b c : Bool) → (if b then (if c then phases.Copy else phases.Flush) else phases.Flush) ≡ phases.End → ⊥
    by true true wrong = absurd (let no : phases.Copy ≡ phases.End = wrong in cc)
    by true false wrong = absurd (let no : phases.Flush ≡ phases.End = wrong in cc)
    by false c wrong = absurd (let no : phases.Flush ≡ phases.End = wrong in cc)

-- what is ready is given back first
pub none_ready : (held : List (Option HeaderValue)) (sources : List ℕ) (source : ℕ) (ready : List ℕ) (filled : List (List ℕ))
    → next_by held sources source ready filled ≡ phases.Flush
    → ready ≡ []
none_ready held sources source [] filled is = refl
none_ready held sources source (id ∷ ids) filled is = absurd (let wrong : phases.Release ≡ phases.Flush = is in cc)

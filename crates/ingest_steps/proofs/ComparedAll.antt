-- Several containers that are compared with what is held, one after the other.
use Rattle.ingest_steps.proofs.Prelude.{◌≡◌, ℕ, suc, List, [], ◌∷◌, ◌++◌, length, take, Option, Some, refl, sym, ◌∙◌, ap, subst, arith, inl, inr, DiskView, IsLater, OnlyReads, Shows, Place, PlaceMap, Contents, entries_from, Refusal, Memory}
use Rattle.std.proofs.Common.{zero, slice_get, take_all}
use Rattle.store_state.specs.Indexing.{AreHad}
use Rattle.store_state.specs.IndexingAll.{AreHadIn}
use Rattle.std.specs.Global.{Vec}
use Rattle.dd_disk.proofs.Shows.{since, until}
use Rattle.refusals.specs.declared.refusal.Refusal.TheVariants.{DiskRead, Damaged}
use Rattle.sha2.specs.Sha256.{sha256}
use Rattle.container_meta.specs.Segments.{segment_at}
use Rattle.store_state.specs.Comparing.{FitSoFar, IsAllRefusal, IsFirstUnlike}
use Rattle.store_state.proofs.Compared.{same_since}
use Rattle.ingest_steps.specs.Offering.{FitIn, IsFirstUnlikeIn, WereCompared}
use Rattle.ingest_steps.proofs.PinnedAll.{got_push}

-- what is said of a map stays so of another that is the same
fit_on : (size mid_size : ℕ) (known mid_known : Option PlaceMap) (shown : (List ℕ → Type 0) → Type 0) (c : Contents) (hads : List (Option Place)) → mid_size ≡ size
    → mid_known ≡ known → FitSoFar mid_size mid_known shown c.kind c.segments hads → FitSoFar size known shown c.kind c.segments hads
fit_on size mid_size known mid_known shown c hads same_size same_known fit =
    subst (λ (n : ℕ). FitSoFar n known shown c.kind c.segments hads) same_size
    (subst (λ (k : Option PlaceMap). FitSoFar mid_size k shown c.kind c.segments hads) same_known fit)

module _ (size : ℕ) (known : Option PlaceMap) (old mid new : DiskView) (reads : OnlyReads old mid) (later : IsLater mid new) where
  -- after more calls
  fit_until : (c : Contents) (hads : List (Option Place)) → FitSoFar size known (Shows old mid) c.kind c.segments hads → FitSoFar size known (Shows old new) c.kind c.segments hads
  fit_until c hads fit = record { had = fit.had; fit = until old mid new fit.fit reads.later.clock_is later }

  -- after calls that only read
  fit_since : (c : Contents) (hads : List (Option Place)) → FitSoFar size known (Shows mid new) c.kind c.segments hads → FitSoFar size known (Shows old new) c.kind c.segments hads
  fit_since c hads fit = record { had = fit.had; fit = since old mid new reads fit.fit }

  module _ (filled : List Contents) (befores : List (Vec (Option Place))) (so_far : FitIn size known (Shows old mid) filled befores) where
    pub fit_on_until : FitIn size known (Shows old new) filled befores
    fit_on_until i c before here there = fit_until c before.items (so_far i c before here there)

    -- one container more
    pub fit_more : (i : ℕ) (c : Contents) (before : Vec (Option Place)) → length befores ≡ i → slice_get filled i ≡ Some c
        → (mid_size : ℕ) (mid_known : Option PlaceMap) → mid_size ≡ size → mid_known ≡ known → FitSoFar mid_size mid_known (Shows mid new) c.kind c.segments before.items
        → FitIn size known (Shows old new) filled (befores ++ before ∷ [])
    fit_more i c before many here mid_size mid_known same_size same_known fit = λ j d b at there. elim (got_push befores before b j there) [
      | inl earlier ↦ fit_until d b.items (so_far j d b at earlier)
      | inr now ↦
          let same : c ≡ d = one c d (sym here ∙ sym (ap (slice_get filled) (now.0 ∙ many)) ∙ at) in
          subst (λ (v : Vec (Option Place)). FitSoFar size known (Shows old new) d.kind d.segments v.items) now.1
          (subst (λ (x : Contents). FitSoFar size known (Shows old new) x.kind x.segments before.items) same
          (fit_since c before.items (fit_on size mid_size known mid_known (Shows mid new) c before.items same_size same_known fit)))
    ]
      where
        one : (a b : Contents) → Some a ≡ Some b → a ≡ b
        one a b is = cc

-- each of the first so many was compared
pub were_compared : (size : ℕ) (known : Option PlaceMap) (shown : (List ℕ → Type 0) → Type 0) (filled : List Contents) (befores : List (Vec (Option Place)))
    → FitIn size known shown filled befores → (n : ℕ) → length befores ≡ n → WereCompared size known shown (take n filled)
were_compared size known shown filled befores fit zero many = tt
were_compared size known shown [] befores fit (suc n) many = tt
were_compared size known shown (c ∷ cs) [] fit (suc n) many = absurd (omega (arith, many))
were_compared size known shown (c ∷ cs) (b ∷ bs) fit (suc n) many = (
  record { hads = b.items; fit = fit 0 c b refl refl },
  were_compared size known shown cs bs (λ i x y here there. fit (suc i) x y here there) n (omega (arith, many)),
)

-- the next is refused
module _ (size mid_size : ℕ) (known mid_known : Option PlaceMap) (old mid new : DiskView) (same_size : mid_size ≡ size) (same_known : mid_known ≡ known) (reads : OnlyReads old mid)
    (later : IsLater mid new) (filled : List Contents) (befores : List (Vec (Option Place))) (so_far : FitIn size known (Shows old mid) filled befores) (i : ℕ)
    (c : Contents) (many : length befores ≡ i) (here : slice_get filled i ≡ Some c) where
  first_unlike : (refusal : Refusal) → IsFirstUnlike mid_size mid_known (Shows mid new) c.kind c.segments refusal
      → IsFirstUnlikeIn size known (Shows old new) filled refusal
  first_unlike refusal unlike =
      let one : IsFirstUnlike size known (Shows mid new) c.kind c.segments refusal =
      subst (λ (n : ℕ). IsFirstUnlike n known (Shows mid new) c.kind c.segments refusal) same_size
      (subst (λ (k : Option PlaceMap). IsFirstUnlike mid_size k (Shows mid new) c.kind c.segments refusal) same_known unlike) in
      record {
        number = i;
        contents = c;
        contents_are = here;
        before = were_compared size known (Shows old new) filled befores (fit_on_until size known old mid new reads later filled befores so_far) i many;
        unlike = record {
          number = one.number;
          within = one.within;
          hads = one.hads;
          before = record { had = one.before.had; fit = since old mid new reads one.before.fit };
          unlike = record {
            place = one.unlike.place;
            there = one.unlike.there;
            lies = one.unlike.lies;
            refused = same_since old mid new reads c.kind (sha256 (segment_at c.segments one.number).bytes) (segment_at c.segments one.number).bytes one.unlike.place refusal
                one.unlike.refused;
          };
        };
      }

  pub of_next : (refusal : Refusal) → IsAllRefusal mid_known (IsFirstUnlike mid_size mid_known (Shows mid new) c.kind c.segments) refusal
      → IsAllRefusal known (IsFirstUnlikeIn size known (Shows old new) filled) refusal
  of_next Memory has = tt
  of_next DiskRead has = tt
  of_next (Damaged at why) has = sym same_known ∙ has
  of_next refusal has = first_unlike refusal has

-- all were
pub whole_compared : (size : ℕ) (known : Option PlaceMap) (old mid new : DiskView) (filled : List Contents) (befores : List (Vec (Option Place))) → OnlyReads old mid
    → IsLater mid new
    → FitIn size known (Shows old mid) filled befores → length befores ≡ length filled → WereCompared size known (Shows old new) filled
whole_compared size known old mid new filled befores reads later fit many =
    subst (WereCompared size known (Shows old new)) (take_all (length filled) filled (omega arith))
    (were_compared size known (Shows old new) filled befores (fit_on_until size known old mid new reads later filled befores fit) (length filled) many)

-- what the map had then is what it has
pub had_on : (size mid_size : ℕ) (known mid_known : Option PlaceMap) (shown : (List ℕ → Type 0) → Type 0) (filled : List Contents) (listed befores : List (Vec (Option Place)))
    → mid_size ≡ size → mid_known ≡ known → listed ≡ befores → FitIn size known shown filled befores → AreHadIn mid_size mid_known filled listed
had_on size mid_size known mid_known shown filled listed befores same_size same_known is fit = λ i c before here there.
    subst (λ (n : ℕ). AreHad n mid_known c.kind (entries_from 0 c.segments) before.items) (sym same_size)
    (subst (λ (k : Option PlaceMap). AreHad size k c.kind (entries_from 0 c.segments) before.items) (sym same_known)
    (fit i c before here (ap (λ (l : List (Vec (Option Place))). slice_get l i) (sym is) ∙ there)).had)

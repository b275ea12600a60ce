-- What holds of a sweep by the store, as it begins, as the disk changes beside its copies, and as it ends.
use Rattle.gc_sweep.proofs.Prelude.{◌≡◌, ◌≢◌, ℕ, suc, true, false, List, [], ◌∷◌, map, nat_eq, Option, refl, sym, ◌∙◌, ap, subst, arith, AllByRecursion, Contains-append_right, PlaceMap, Contents, Segment, has_key, segment_key, HeaderValue, LiveKeys, HasNewest, RepresentsSlots, SlotTable, Next, CopyNext, Flush, Release, End, Sweep, Begins, HoldsSweep, IsCopied, IsNext, HasNoEntryIn, HasNoEntryInAny, HasNext, IsSweeping, entry_in, sources_before}
use Rattle.std.specs.List.{Contains, IsDistinct}
use Rattle.std.proofs.lemmas.List.Elements.{Contains-get_or}
use Rattle.gc_sweep.proofs.Freed.{second_apart}
use Rattle.gc_sweep.proofs.InSlots.{IsSourceIn, none_in, stands_in}
use Rattle.gc_sweep.proofs.KeyLists.{each_so, listed}

-- ---- what is filled

-- where it has nothing it has no key
pub no_key : (c : Contents) (key : List ℕ) → c.segments ≡ [] → has_key c key ≡ true → ⊥
no_key c key none has = let wrong : true ≡ false = sym has ∙ ap (λ (ss : List Segment). listed (map (segment_key c.kind) ss) key) none in cc

pub none_copied : (P : Segment → Type 0) (c : Contents) → c.segments ≡ [] → AllByRecursion P c.segments
none_copied P c none = subst (AllByRecursion P) (sym none) tt

-- ---- a sweep that begins

pub begun_holds : (t : SlotTable) (sources : List ℕ) (s : Sweep) (index : PlaceMap) (held : List (Option HeaderValue)) (image : List ℕ) (live : LiveKeys) (snapshot : ℕ)
    → Begins t sources s
    → HoldsSweep index held image live snapshot s
begun_holds t sources s index held image live snapshot begins = record {
  copied = none_copied (IsCopied index live held image s.buffer.kind) s.buffer begins.empty;
  origin = λ key place has found. absurd (no_key s.buffer key begins.empty has);
  waiting = λ slot there. absurd (none_in s.waiting.items slot begins.none_waits there);
  ready = λ slot there. absurd (none_in s.ready.items slot begins.none_ready there);
  half = λ slot h half. absurd (omega (arith, half.some, first));
}
  where
    by_next : (n : Next) → IsNext t sources s.buffer 0 0 n → entry_in n ≡ 0
    by_next (CopyNext source entry) is = is.1
    by_next (Flush source entry) is = is.1
    by_next (Release source entry) is = absurd is
    by_next End is = refl

    first : entry_in s.next ≡ 0
    first = by_next s.next begins.next_is

-- ---- a disk whose newest copies stay

pub holds_on_disk : (index : PlaceMap) (held : List (Option HeaderValue)) (image now : List ℕ) (live : LiveKeys) (snapshot : ℕ) (s : Sweep)
    → ((key : List ℕ) (level : ℕ) (bytes : List ℕ) → HasNewest held key level bytes image → HasNewest held key level bytes now)
    → HoldsSweep index held image live snapshot s → HoldsSweep index held now live snapshot s
holds_on_disk index held image now live snapshot s keeps holds = record {
  copied = each_so (IsCopied index live held image s.buffer.kind) (IsCopied index live held now s.buffer.kind) s.buffer.segments
      (λ x is.
      (let one : IsCopied index live held now s.buffer.kind x = record {
        is_live = is.is_live;
        newest = keeps
            (segment_key s.buffer.kind x) x.level x.bytes is.newest;
      } in one)) holds.copied;
  origin = holds.origin;
  waiting = holds.waiting;
  ready = holds.ready;
  half = holds.half;
}

-- ---- the sources that are ready

-- The sources that are ready are given back next: each stands in its slot, was there as the collection began, and the index has no entry in it.
pub record AreInTurn (index : PlaceMap) (held : List (Option HeaderValue)) (snapshot : ℕ) (s : Sweep) : Type 0 where
  pub some : s.ready.items ≢ []
  pub stand : AllByRecursion (IsSourceIn held snapshot s.sources.items (sources_before s s.next)) s.ready.items
  pub apart : IsDistinct nat_eq s.ready.items
  pub none : HasNoEntryInAny index s.ready.items

-- what is so of each that is ready is so of all of these
each_ready : (P : ℕ → Type 0) (xs ready : List ℕ) → ((slot : ℕ) → Contains xs slot → Contains ready slot) → ((slot : ℕ) → Contains ready slot → P slot) → AllByRecursion P xs
each_ready P [] ready among each = tt
each_ready P (x ∷ xs) ready among each = (
  each x (among x (Contains-get_or (x ∷ xs) 0 0 (omega arith))),
  each_ready P xs ready (λ slot there. among slot (suc there.0, omega (arith, there.1), there.2)) each,
)

pub in_turn : (t : SlotTable) (index : PlaceMap) (held : List (Option HeaderValue)) (image : List ℕ) (live : LiveKeys) (snapshot source entry : ℕ) (s : Sweep)
    → RepresentsSlots held t → IsSweeping t snapshot s
    → s.next ≡ Release source entry → HoldsSweep index held image live snapshot s → AreInTurn index held snapshot s
in_turn t index held image live snapshot source entry s slots under stage holds =
    let has : HasNext t s (Release source entry) = subst (HasNext t s) stage under.next_is in
    record {
      some = has.0;
      stand = each_ready (IsSourceIn held snapshot s.sources.items (sources_before s s.next)) s.ready.items s.ready.items (λ slot there. there)
          (λ slot there. stands_in held t snapshot s under slots slot (Contains-append_right s.waiting.items s.ready.items slot there));
      apart = second_apart s.waiting.items s.ready.items under.apart;
      none = each_ready (HasNoEntryIn index) s.ready.items s.ready.items (λ slot there. there) holds.ready;
    }

-- Slots that are read one after the other.
use Rattle.recovery.proofs.Prelude.{◌≢◌, inl, inr, ℕ, zero, suc, ◌+◌, ◌<◌, List, [], ◌∷◌, ◌++◌, length, Option, None, Some, refl, sym, ap, ◌∙◌, subst, arith, length-append, range, Field, slot_at, DiskView, OnlyReads, Shows, always, weaker, until, since, HeaderValue, IsHeader, Refusal, Memory, DiskRead, Damaged, HoldsSlot, HoldSlots, AreHeaders, IsUnusedId, DifferentIds, fails, AreSlots, IsSlotDamage, HoldsDamage, IsSlotsRefusal}
use Rattle.std.proofs.Common.{◌≡◌}
use Rattle.std.specs.Prelude.{IsTrue}
use Rattle.base_model.proofs.Ranges.{range-whole}
use Rattle.dd_disk.proofs.Shows.{both}
use Rattle.container_meta.specs.Spelling.{header_size, header_spelling}
use Rattle.container_meta.proofs.Parts.{length-header_spelling}
use Rattle.store_model.proofs.Once.{slots_once}
use Rattle.store_model.proofs.Spellings.{gate_of_header}
use Rattle.store_state.specs.declared.containers.Containers.{Containers}
use Rattle.store_state.specs.Containers.{RepresentsContainers}
use Rattle.recovery.specs.Slots.{MayFollow, BreaksHeader, IsSlotRefusal}
use Rattle.recovery.proofs.Pushed.{hold-push, different-push, different-push-none}

-- ---- a slot among others

unused_apart : (id : ℕ) (c : Option HeaderValue) (h : HeaderValue) (held : List (Option HeaderValue)) → c ≡ Some h → IsUnusedId id (c ∷ held) → h.id ≢ id
unused_apart id None h held is unused = absurd cc
unused_apart id (Some g) h held is unused = λ same. unused.0 (ap (λ (x : HeaderValue). x.id) (same_header g h is) ∙ same)
  where
    same_header : (g h : HeaderValue) → (let o : Option HeaderValue = Some g in o) ≡ Some h → g ≡ h
    same_header g h e = cc

unused_rest : (id : ℕ) (c : Option HeaderValue) (held : List (Option HeaderValue)) → IsUnusedId id (c ∷ held) → IsUnusedId id held
unused_rest id None held unused = unused
unused_rest id (Some g) held unused = unused.1

different_rest : (c : Option HeaderValue) (held : List (Option HeaderValue)) → DifferentIds (c ∷ held) → DifferentIds held
different_rest None held differ = differ
different_rest (Some g) held differ = differ.1

-- the slots before one, and what it holds
record Split (slot k : ℕ) (held : List (Option HeaderValue)) (image : List ℕ) : Type 0 where
  before : List (Option HeaderValue)
  here : Option HeaderValue
  count : length before ≡ k
  hold_before : HoldSlots slot before image
  holds : HoldsSlot image (slot + k) here
  apart : (h : HeaderValue) → here ≡ Some h → IsUnusedId h.id before
  unused : (id : ℕ) (h : HeaderValue) → here ≡ Some h → IsUnusedId id held → h.id ≢ id

push_unused : (c : Option HeaderValue) (rest before : List (Option HeaderValue)) (h : HeaderValue) → DifferentIds (c ∷ rest) → ((id : ℕ) → IsUnusedId id rest → h.id ≢ id)
    → IsUnusedId h.id before → IsUnusedId h.id (c ∷ before)
push_unused None rest before h differ other unused = unused
push_unused (Some g) rest before h differ other unused = (λ same. other g.id differ.0 (sym same), unused)

split : (slot k : ℕ) (held : List (Option HeaderValue)) (image : List ℕ) → k < length held → HoldSlots slot held image → DifferentIds held → Split slot k held image
split slot k [] image within holds differ = absurd (omega arith)
split slot zero (c ∷ held) image within holds differ =
    record {
      before = [];
      here = c;
      count = refl;
      hold_before = tt;
      holds = subst (λ s. HoldsSlot image s c) (omega arith) holds.0;
      apart = λ h is. tt;
      unused = λ id h is unused. unused_apart id c h held is unused;
    }
split slot (suc k) (c ∷ held) image within holds differ =
    let rest = split (slot + 1) k held image (omega (arith, within)) holds.1 (different_rest c held differ) in
    record {
      before = c ∷ rest.before;
      here = rest.here;
      count = ap suc rest.count;
      hold_before = (holds.0, rest.hold_before);
      holds = subst (λ s. HoldsSlot image s rest.here) (omega arith) rest.holds;
      apart = λ h is. push_unused c held rest.before h differ (λ id unused. rest.unused id h is unused) (rest.apart h is);
      unused = λ id h is unused. rest.unused id h is (unused_rest id c held unused);
    }

-- a slot that is right among others may follow those before it
may_follow : (slot k : ℕ) (held : List (Option HeaderValue)) (image : List ℕ) (s : Split slot k held image) → MayFollow s.before s.here
may_follow slot k held image s = by_here s.here refl
  where
    by_here : (c : Option HeaderValue) → s.here ≡ c → MayFollow s.before c
    by_here None is = tt
    by_here (Some h) is = ((subst (HoldsSlot image (slot + k)) is s.holds).0, s.apart h is)

-- ---- what is read

pub headers_push : (held : List (Option HeaderValue)) (c : Option HeaderValue) → AreHeaders held → MayFollow held c → AreHeaders (held ++ c ∷ [])
headers_push [] None right may = tt
headers_push [] (Some h) right may = (may.0, tt)
headers_push (None ∷ held) None right may = headers_push held None right tt
headers_push (None ∷ held) (Some h) right may = headers_push held (Some h) right may
headers_push (Some g ∷ held) None right may = (right.0, headers_push held None right.1 tt)
headers_push (Some g ∷ held) (Some h) right may = (right.0, headers_push held (Some h) right.1 (may.0, may.1.1))

pub differ_push : (held : List (Option HeaderValue)) (c : Option HeaderValue) → DifferentIds held → MayFollow held c → DifferentIds (held ++ c ∷ [])
differ_push held None differ may = different-push-none held differ
differ_push held (Some h) differ may = different-push held h differ may.1

-- a used id is damage
pub used_id : (shown : (List ℕ → Type 0) → Type 0) (before : List (Option HeaderValue)) (slot : ℕ) (h : HeaderValue) → IsHeader h → (IsUnusedId h.id before → ⊥)
    → shown (λ image. range (slot_at slot) (length (header_spelling h)) image ≡ header_spelling h)
    → HoldsDamage shown (λ bytes. IsSlotDamage before bytes (Field 8 h.id)) (slot_at slot)
used_id shown before slot h right used read =
    record {
      bytes = header_spelling h;
      gate = gate_of_header h;
      damage_is = inr (record {
        header = h;
        spelled = (right, range-whole (header_size h) (header_spelling h) (length-header_spelling h right));
        used = used;
        named = refl;
      });
      read_as = read;
    }

-- a header that breaks the format is damage, after whatever slots
pub damage_of : (shown : (List ℕ → Type 0) → Type 0) (before : List (Option HeaderValue)) (slot : ℕ) (r : Refusal) → IsSlotRefusal shown BreaksHeader slot r →
    IsSlotRefusal shown (IsSlotDamage before) slot r
damage_of shown before slot Memory is = tt
damage_of shown before slot DiskRead is = tt
damage_of shown before slot (Damaged at why) is = (is.0, record { bytes = is.1.bytes; gate = is.1.gate; damage_is = inl is.1.damage_is; read_as = is.1.read_as })
damage_of shown before slot _ is = absurd is

-- no slot yet
abbrev pub none_yet : (v : DiskView) (tables : Containers) → RepresentsContainers [] tables → AreSlots (Shows v v) 0 tables
none_yet v tables are = record { held = []; many = refl; right = tt; different = tt; represents = are; holds = always v v _ (λ image sized. tt) }

module _ (old mid new : DiskView) (slot : ℕ) (tables : Containers) (part : AreSlots (Shows old mid) slot tables) (before : OnlyReads old mid) (reads : OnlyReads mid new) where
  -- one more slot
  abbrev pub more : (after : Containers) (c : Option HeaderValue) → MayFollow part.held c → Shows mid new (λ image. HoldsSlot image slot c) →
      RepresentsContainers (part.held ++ c ∷ []) after
      → AreSlots (Shows old new) (slot + 1) after
  more after c may seen are =
      let here : slot ≡ 0 + length part.held = omega (arith, part.many) in
      record {
        held = part.held ++ c ∷ [];
        many = omega (arith, length-append part.held (c ∷ []), part.many);
        right = headers_push part.held c part.right may;
        different = differ_push part.held c part.different may;
        represents = are;
        holds = weaker old new (λ image sized seen. hold-push 0 part.held c image seen.0 (subst (λ s. HoldsSlot image s c) here seen.1))
            (both old mid new part.holds before seen reads.later);
      }

  -- a slot that isn't right
  pub no_more : (slots : ℕ) (r : Refusal) → slot < slots →
      Shows mid new (λ image. (held : Option HeaderValue) → HoldsSlot image slot held → MayFollow part.held held → IsTrue (fails r))
      → Shows old new (λ image. (held : List (Option HeaderValue)) → length held ≡ slots → HoldSlots 0 held image → DifferentIds held → IsTrue (fails r))
  no_more slots r within seen =
      weaker old new (λ image sized seen held many holds differ. gives_up image held many holds differ seen.0 seen.1) (both old mid new part.holds before seen reads.later)
    where
      gives_up : (image : List ℕ) (held : List (Option HeaderValue)) → length held ≡ slots → HoldSlots 0 held image → DifferentIds held → HoldSlots 0 part.held image
          → ((c : Option HeaderValue) → HoldsSlot image slot c → MayFollow part.held c → IsTrue (fails r)) → IsTrue (fails r)
      gives_up image held many holds differ first none =
          let s = split 0 slot held image (omega (arith, many, within)) holds differ in
          let same : s.before ≡ part.held = slots_once 0 s.before part.held image (s.count ∙ sym part.many) s.hold_before first in
          none s.here (subst (λ k. HoldsSlot image k s.here) (omega arith) s.holds) (subst (λ l. MayFollow l s.here) same (may_follow 0 slot held image s))

  pub refused : (slots : ℕ) (r : Refusal) → slot < slots → IsSlotRefusal (Shows mid new) (IsSlotDamage part.held) slot r → IsSlotsRefusal (Shows old new) slots r
  refused slots Memory within is = tt
  refused slots DiskRead within is = tt
  refused slots (Damaged at why) within is =
      record {
        before = part.held;
        within = omega (arith, within, part.many);
        place = is.0 ∙ ap slot_at (sym part.many);
        right = part.right;
        different = part.different;
        holds = until old mid new part.holds before.later.clock_is reads.later;
        damage = record { bytes = is.1.bytes; gate = is.1.gate; damage_is = is.1.damage_is; read_as = since old mid new before is.1.read_as };
      }
  refused slots _ within is = absurd is

-- a slot with a used id may not follow those before it
pub not_used : (before : List (Option HeaderValue)) (held : Option HeaderValue) (h : HeaderValue) (P : Type 0) → held ≡ Some h → MayFollow before held →
    (IsUnusedId h.id before → ⊥) → P
not_used before held h P is may used = absurd (used (subst (MayFollow before) is may).1)

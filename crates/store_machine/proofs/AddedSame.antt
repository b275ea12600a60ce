-- Containers that the machine of files seals, one after the other, that of roots seals, too; and back.
use Rattle.store_machine.proofs.Prelude.{◌≡◌, ℕ, suc, [], ◌∷◌, length, refl, sym, ◌∙◌, ap, subst, PinMap, free_slots, CanSeal, with_sealed, Forgets, Writing, keeping, part_in, forgotten_beside, keys_of, with_pins}
use Rattle.std.proofs.Common.{List, take}
use Rattle.actor_parts.specs.Offers.{sealed_of}
use Rattle.container_meta.specs.Segments.{Contents}
use Rattle.store_machine.specs.Offers.{AddsContainer, AddsContainers, sealed_in, stores_with_some, with_container}
use Rattle.store_machine.proofs.Parts.{F, G, kept_map, part_at, set_at, writing_back, writing_same}

module _ (m : F) (r : G) (same : Forgets m r) where
  -- as many are sealed, and the same may be left of them
  pub sealed_same : (offered : List Contents) → sealed_of (length offered) (free_slots r.store.held) r.last_id ≡ sealed_of (length offered) (free_slots m.store.held) m.last_id
  sealed_same offered = (λ i. sealed_of (length offered) (free_slots (same.store i).held) (same.last_id i))

  pub stores_same : (offered : List Contents)
      → stores_with_some r.last_id (sealed_in offered r) r.store ≡ stores_with_some m.last_id (sealed_in offered m) m.store
  stores_same offered =
      (λ i. stores_with_some (same.last_id i) (take (sealed_of (length offered) (free_slots (same.store i).held) (same.last_id i)) offered) (same.store i))

  module _ (a : ℕ) (c : Contents) where
    forgets_added : (pins : PinMap) → Forgets (with_container a c pins m) (with_container a c pins r)
    forgets_added pins =
        let keys = keys_of c.kind c.segments in
        let part = with_pins c.kind c.segments pins in
        record {
          now = same.now;
          parts = set_at m.parts r.parts a (Writing part) (Writing part) same.parts refl;
          store = (λ i. with_sealed (suc (same.last_id i)) c.kind c.segments (same.store i));
          last_id = ap suc same.last_id;
          forgotten = ap (forgotten_beside keys) same.forgotten;
          swept = same.swept;
          collection = ap (keeping keys) same.collection ∙ kept_map keys m.collection;
          acknowledged = same.acknowledged;
          state = same.state;
        }

    can_same : CanSeal (suc r.last_id) c.kind c.segments r.store ≡ CanSeal (suc m.last_id) c.kind c.segments m.store
    can_same = (λ i. CanSeal (suc (same.last_id i)) c.kind c.segments (same.store i))

    added : (n : F) → AddsContainer a c m n → (t : G) × AddsContainer a c r t × Forgets n t
    added n one = (
      with_container a c one.pins r,
      record {
        pins = one.pins;
        writing = writing_same (part_in m a) (part_in r a) one.pins (part_at m.parts r.parts a same.parts) one.writing;
        can = subst (λ (A : Type 0). A) (sym can_same) one.can;
        others = refl;
      },
      subst (λ (x : F). Forgets x (with_container a c one.pins r)) (sym one.others) (forgets_added one.pins),
    )

    added_back : (t : G) → AddsContainer a c r t → (n : F) × AddsContainer a c m n × Forgets n t
    added_back t one = (
      with_container a c one.pins m,
      record {
        pins = one.pins;
        writing = writing_back (part_in m a) (part_in r a) one.pins (part_at m.parts r.parts a same.parts) one.writing;
        can = subst (λ (A : Type 0). A) can_same one.can;
        others = refl;
      },
      subst (Forgets (with_container a c one.pins m)) (sym one.others) (forgets_added one.pins),
    )

pub all_added : (a : ℕ) (cs : List Contents) (m n : F) (r : G) → Forgets m r → AddsContainers a cs m n → (t : G) × AddsContainers a cs r t × Forgets n t
all_added a [] m n r same is = (r, refl, subst (λ (x : F). Forgets x r) (sym is) same)
all_added a (c ∷ cs) m n r same (mid, one, rest) =
    let first = added m r same a c mid one in
    let more = all_added a cs mid n first.0 first.2 rest in
    (more.0, (first.0, first.1, more.1), more.2)

pub all_added_back : (a : ℕ) (cs : List Contents) (m : F) (r t : G) → Forgets m r → AddsContainers a cs r t → (n : F) × AddsContainers a cs m n × Forgets n t
all_added_back a [] m r t same is = (m, refl, subst (Forgets m) (sym is) same)
all_added_back a (c ∷ cs) m r t same (mid, one, rest) =
    let first = added_back m r same a c mid one in
    let more = all_added_back a cs first.0 mid t first.2 rest in
    (more.0, (first.0, first.1, more.1), more.2)

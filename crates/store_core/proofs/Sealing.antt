-- What a seal makes of a core.
use Rattle.store_core.proofs.Prelude.{some_same, ◌≡◌, ◌≤◌, ◌+◌, ℕ, length, take, List, Option, Some, None, Ok, Err, refl, sym, ◌∙◌, ap, subst, arith, PlaceMap, IsLater, Done, ending_of, Refusal, IsValidFor, HasKey, HasFree, Store, ChangesTo, blames, Represents, Runs, Made, KeepsUnlessBroken, next_id, CoreState}
use Rattle.std.proofs.lemmas.List.{length-take-le}
use Rattle.container_log.specs.Many.{placed}
use Rattle.container_meta.specs.Segments.{Contents}
use Rattle.actor_parts.specs.declared.step.Answer.TheVariants as answers
use Rattle.actor_parts.specs.Offers.{IsOffer}
use Rattle.actor_parts.specs.StepValue as asked
use Rattle.refusals.specs.declared.refusal.Refusal.TheVariants as refusals
use Rattle.std.specs.FinMap as finite
use Rattle.store_model.specs.Together.{Placed, with_all}
use Rattle.store_state.specs.Settled as settled
use Rattle.ingest_steps.specs.declared.offering.SealedTogether.{SealedTogether}
use Rattle.ingest_steps.specs.Offering.{HasSlots, in_free}
use Rattle.ingest_steps.specs.OfferStep.{AreSealedFor, KeepsOffered}
use Rattle.ingest_steps.specs.Sealing.{KeepsMap}
use Rattle.ingest_steps.specs.SealingAll.{HasPlacesOfAll, HaveSealed, SealsOffer, places_with_all}
use Rattle.ingest_steps.specs.SealStep.{store_moment}
use Rattle.ingest_steps.proofs.PlacedOn.{slots_as}
use Rattle.store_core.specs.Core.{AreUnsealed, Makes, changed_by, seals_from}
use Rattle.store_core.proofs.ManySealed.{all_sealed, chain_of, index_on, none_known, places_add, places_keep, places_on, places_others, valid_on}

-- an index that knows its map whatever the disk tells has the places of the containers
pub index_has : (ps : List Placed) (before after : Option (List ℕ) → Option PlaceMap) (old new : Option (List ℕ)) (m : PlaceMap) (k : Option PlaceMap)
    → HasPlacesOfAll ps before after old new
    → before old ≡ Some m → before None ≡ Some m → after new ≡ k → after None ≡ k → k ≡ places_with_all ps (Some m)
index_has ps before after (Some given) new m k has told untold is none = sym is ∙ has.told given refl m told
index_has ps before after None new m k has told untold is none = sym none ∙ has.untold refl m untold

module _ (old new : CoreState) (cs : List Contents) (slots : List ℕ) (offered : ℕ) (has : HasSlots old.tables offered slots) (many : length cs ≡ length slots)
    (sealed : HaveSealed old.tables old.disk.size old.known cs new.tables) (later : IsLater old.disk new.disk) (m : PlaceMap) (known : old.known ≡ Some m)
    (index : new.known ≡ places_with_all (placed slots (next_id old) cs) (Some m)) where
  abbrev id : ℕ
  id = next_id old

  -- by each store that the tables represent they are in the closed slots of least number
  index_at : (k : Option PlaceMap) (store : Store) → Represents store k old.tables → IsValidFor old.disk.size store → HasFree store.held
      → new.known ≡ places_with_all (in_free id cs store) (Some m)
  index_at k store represents valid free =
      index ∙ ap (λ (ps : List Placed). places_with_all ps (Some m)) ((slots_as old.tables offered slots cs has many old.disk.size k).store_has store represents valid free)

  known_at : (k : Option PlaceMap) (store : Store) → Represents store k old.tables → IsValidFor old.disk.size store → HasFree store.held
      → new.known ≡ places_with_all (in_free id cs store) old.known
  known_at k store represents valid free = index_at k store represents valid free ∙ ap (places_with_all (in_free id cs store)) (sym known)

  chain_at : (store : Store) → Represents store old.known old.tables → IsValidFor old.disk.size store → HasFree store.held
      → ChangesTo (seals_from id cs) store (changed_by (seals_from id cs) store)
  chain_at store represents valid free = chain_of id cs store (sealed.can.store_has store represents valid free)

  valid_at : (store : Store) → ChangesTo (seals_from id cs) store (changed_by (seals_from id cs) store) → IsValidFor old.disk.size store
      → IsValidFor new.disk.size (changed_by (seals_from id cs) store)
  valid_at store chain valid = subst (λ (size : ℕ). IsValidFor size (changed_by (seals_from id cs) store)) (sym later.size_is)
      (valid_on id cs store (changed_by (seals_from id cs) store) old.disk.size chain valid)

  pub makes_seals : Makes (seals_from (next_id old) cs) old new
  makes_seals = record {
    can = record { store_has = chain_at };
    represents = record {
      store_has = λ store represents valid free.
          subst (λ (t : Store). Represents t new.known new.tables) (all_sealed id cs store (changed_by (seals_from id cs) store) (chain_at store represents valid free))
          (subst (λ (k : Option PlaceMap). Represents (with_all (in_free id cs store) store) k new.tables) (sym (known_at old.known store represents valid free))
          (sealed.represents.store_has store represents valid free));
    };
    valid = record { store_has = λ store represents valid free. valid_at store (chain_at store represents valid free) valid };
    tells = λ places is. let on = places_on (placed slots id cs) m in (on.0, index ∙ on.1);
    keeps_keys = λ before is after after_is key had.
        places_keep (placed slots id cs) m after (sym index ∙ after_is) key
        (subst (λ (x : PlaceMap). HasKey x key) (some_same before m (sym is ∙ known)) had);
    adds_keys = λ before is after after_is. places_add slots id cs m after (omega (arith, many)) (sym index ∙ after_is);
    keeps_others = λ before is after after_is key none.
        subst (λ (x : PlaceMap). finite.get after key ≡ finite.get x key) (some_same m before (sym known ∙ is))
        (places_others slots id cs m after key none (sym index ∙ after_is));
    whole = record {
      store_has = λ store represents valid free whole after after_is.
          index_on id cs store (changed_by (seals_from id cs) store) m after (chain_at store represents valid free)
          (sym (index_at old.known store represents valid free) ∙ after_is) (whole m known);
    };
    alone = record {
      store_has = λ store represents valid free.
          let is = sealed.alone.store_has store represents valid free in
          let chain = chain_of id cs store is.0 in
          record {
            can = chain;
            represents = subst (λ (t : Store). Represents t None new.tables) (all_sealed id cs store (changed_by (seals_from id cs) store) chain) is.1;
            valid = valid_at store chain valid;
          };
    };
    runs = λ runs. subst (λ (size : ℕ). Runs size None new.tables) (sym later.size_is)
        (subst (λ (k : Option PlaceMap). Runs old.disk.size k new.tables) (none_known (in_free id cs runs.store)) (sealed.runs None runs));
    runs_indexed = λ runs. subst (λ (size : ℕ). Runs size new.known new.tables) (sym later.size_is)
        (subst (λ (k : Option PlaceMap). Runs old.disk.size k new.tables) (sym (known_at old.known runs.store runs.represents runs.valid runs.has_free))
        (sealed.runs old.known runs));
  }

kept_map : (refusal : Refusal) (old new : CoreState) → new.tables ≡ old.tables → KeepsMap old.known new.known refusal → KeepsUnlessBroken refusal old new
kept_map refusals.DiskWrite old new tables map = tables
kept_map (refusals.Damaged at why) old new tables map = tables
kept_map refusal old new tables map = record { tables_are = tables; index_is = map }

pub made_seal : (offered : List Contents) (actor : ℕ) (sealed : SealedTogether) (bytes : List ℕ) (old new : CoreState)
    (before after : Option (List ℕ) → Option PlaceMap) (m : PlaceMap) → old.known ≡ Some m → Runs old.disk.size None old.tables → IsOffer offered
    → (are : AreSealedFor (store_moment old.disk old.known old.tables old.parts) (store_moment new.disk new.known new.tables new.parts) actor offered before after sealed)
    → new.known ≡ places_with_all (placed are.slots (next_id old) (take sealed.count offered)) (Some m)
    → settled.Steps old.tables.slots Done old.disk new.disk → SealsOffer old.tables old.known offered Done old.disk new.disk
    → KeepsOffered (store_moment old.disk old.known old.tables old.parts) (store_moment new.disk new.known new.tables new.parts) actor offered → (old.served → new.served)
    → Made (asked.Seal offered) actor (Ok (answers.Sealed sealed.id sealed.count)) bytes old new
made_seal offered actor sealed bytes old new before after m known runs offer are index steps moves kept served =
    let here = (are.has old.disk.size None).store_has runs.store runs.represents runs.valid runs.has_free in
    let few : sealed.count ≤ length offered = omega (arith, are.count_is, here.many) in
    let many : length (take sealed.count offered) ≡ sealed.count = length-take-le sealed.count offered few in
    record {
      row = record {
        offer = offer;
        may = are.may;
        room = λ size k. record { store_has = λ store represents valid free. are.count_is ∙ ((are.has size k).store_has store represents valid free).many };
        some = omega (arith, are.count_is, here.some);
        few = few;
        compared = are.compared;
        id_is = are.id_is;
        last_is = are.sealed.last_is ∙ ap (λ (n : ℕ). old.tables.held.last_id + n) many ∙ sym are.id_is;
        parts_are = are.parts_are;
        kept = kept;
      };
      effect = record {
        disk = steps;
        moves = moves;
        made = makes_seals old new (take sealed.count offered) are.slots (length offered) are.has (many ∙ are.count_is) are.sealed steps.later m known index;
        kept = tt;
      };
      served = served;
    }

pub made_unsealed : (offered : List Contents) (actor : ℕ) (refusal : Refusal) (bytes : List ℕ) (old new : CoreState) → AreUnsealed offered actor refusal old new
    → new.tables ≡ old.tables
    → new.parts ≡ old.parts
    → KeepsMap old.known new.known refusal → settled.Steps old.tables.slots (ending_of (blames refusal)) old.disk new.disk
    → SealsOffer old.tables old.known offered (ending_of (blames refusal)) old.disk new.disk
    → (old.served → new.served) → Made (asked.Seal offered) actor (Err refusal) bytes old new
made_unsealed offered actor refusal bytes old new refused tables parts map steps moves served = record {
  row = (refused, parts);
  effect = record { disk = steps; moves = moves; made = tt; kept = kept_map refusal old new tables map };
  served = served;
}

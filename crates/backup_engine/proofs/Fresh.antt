-- A core that was opened is fresh.
use Rattle.backup_engine.proofs.Prelude.{◌≡◌, ℕ, List, [], ◌∷◌, max, Option, Some, None, refl, sym, ◌∙◌, ap, subst, arith, DiskView, Shows, HeaderValue, IsValidFor, last_id, ids_of, Stop, IsNew, CoreState, IsUp, IsRunning, UnlessStopped, IsFresh}

-- the greatest id is told by the ids, 0 where a slot is closed
abbrev greatest : List ℕ → ℕ
greatest [] = 0
greatest (n ∷ ns) = max n (greatest ns)

last_of_ids : (held : List (Option HeaderValue)) → greatest (ids_of held) ≡ last_id held
last_of_ids [] = refl
last_of_ids (None ∷ cs) = omega (arith, last_of_ids cs)
last_of_ids (Some h ∷ cs) = ap (max h.id) (last_of_ids cs)

same_last : (a b : List (Option HeaderValue)) → ids_of a ≡ ids_of b → last_id a ≡ last_id b
same_last a b same = sym (last_of_ids a) ∙ ap greatest same ∙ last_of_ids b

pub fresh : (v : DiskView) (c : CoreState) → IsNew (Shows v c.disk) v.size c → c.disk.size ≡ v.size → IsRunning c → IsFresh c
fresh v c new size running = record {
  up = subst (λ (stop : Option Stop). UnlessStopped stop (IsUp c)) new.stop_is running;
  runs = new.stop_is;
  idle = new.parts_are;
  told = new.told;
  indexed = record {
    store = new.store;
    represents = new.represents;
    valid = subst (λ (n : ℕ). IsValidFor n new.store) (sym size) new.valid;
    has_free =
        omega (arith, new.reserve);
  };
  ids = record {
    store_has = λ store represents valid free.
        new.last_id_is ∙ same_last new.store.held store.held (sym new.represents.slots_hold.ids_are ∙ represents.slots_hold.ids_are);
  };
}

-- Jobs that all have ended.
use Rattle.std.proofs.Common.{◌≡◌, ◌<◌, ◌%◌, ℕ, List, length, map, get_or, sym, ap, ◌∙◌, subst}
use Rattle.std.proofs.lemmas.List.{length-map}
use Rattle.actor_parts.specs.Asking.{Asks}
use Rattle.ingest_workers.specs.declared.job.Job.{Job}
use Rattle.ingest_workers.specs.declared.job.JobEnd.{JobEnd}
use Rattle.ingest_workers.specs.declared.workers.Worker.{Worker}
use Rattle.ingest_workers.specs.Jobs.{AllEnded, AskedFrom, OwnJobs}
use Rattle.ingest_workers.specs.Working.{AreGathered, HasDone}
use Rattle.ingest_workers.proofs.Owned.{same_own}
use Rattle.ingest_workers.proofs.Seats.{map_at}

module _ {S : Type 0} (asks : Asks S) (jobs : List Job) where
  pub did_there : (n count number : ℕ) (x y p q : Worker S) → x ≡ p → y ≡ q → n ≡ count → HasDone asks jobs n number x y → HasDone asks jobs count number p q
  did_there n count number x y p q from to same done =
      subst (λ (v : Worker S). HasDone asks jobs count number v q) from
      (subst (λ (w : Worker S). HasDone asks jobs count number x w) to (subst (λ (k : ℕ). HasDone asks jobs k number x y) same done))

  pub all_ended : (ended : List JobEnd) (old new : List S) (ws vs : List (Worker S)) → map (λ w. w.caller) ws ≡ old → new ≡ map (λ w. w.caller) vs
      → length vs ≡ length ws → AreGathered vs jobs ended
      → ((number : ℕ) (d : Worker S) → number < length ws → HasDone asks jobs (length ws) number (get_or ws number d) (get_or vs number d)) → AllEnded asks jobs ended old new
  all_ended ended old new ws vs old_is new_is many gathered did = record {
    many = ap length new_is ∙ length-map vs (λ w. w.caller) ∙ many ∙ sym (length-map ws (λ w. w.caller)) ∙ ap length old_is;
    ends = gathered.many;
    own = λ number d below.
        let here : number < length ws = subst (λ (n : ℕ). number < n) (sym count) below in
        let there : number < length vs = subst (λ (n : ℕ). number < n) (sym many) here in
        let x = map_at (λ w. w.caller) ws number d here in
        let y = map_at (λ w. w.caller) vs number d there in
        let one = did number x.0 here in
        let own = one.own in
        let x_is : (get_or ws number x.0).caller ≡ get_or old number d = ap (λ (w : Worker S). w.caller) (x.1 x.0) ∙ sym x.2 ∙ ap (λ (l : List S). get_or l number d) old_is in
        let y_is : (get_or vs number x.0).caller ≡ get_or new number d = ap (λ (w : Worker S). w.caller) (y.1 x.0) ∙ sym y.2
        ∙ ap (λ (l : List S). get_or l number d) (sym new_is) in
        let same = same_own (length ws) number jobs (get_or vs number x.0).desk.ends.items ended own.0 gathered.many
        (λ i j e in_jobs mine. sym (gathered.each i j x.0 e in_jobs ∙ ap (λ (n : ℕ). get_or (get_or vs n x.0).desk.ends.items i e)
        (ap (λ (n : ℕ). (get_or jobs i j).number % n) many ∙ mine))) own.2 in
        subst (λ (n : ℕ). AskedFrom asks (get_or old number d) (OwnJobs n number jobs ended) (get_or new number d)) count
        (subst (λ (a : S). AskedFrom asks a (OwnJobs (length ws) number jobs ended) (get_or new number d)) x_is
        (subst (λ (b : S). AskedFrom asks (get_or ws number x.0).caller (OwnJobs (length ws) number jobs ended) b) y_is (own.0, own.1, same)));
  }
    where
      count : length ws ≡ length old
      count = sym (length-map ws (λ w. w.caller)) ∙ ap length old_is

-- What a step before the sweep does to the whole collection.
use Rattle.gc_steps.proofs.Prelude.{◌≡◌, ℕ, Option, refl, sym, ap, subst, PlaceMap, DiskView, Runs, Tables, Collection, Stage, Mark, Filter, Did, Records, Scans, Makes, Moment, RunsOn, StepsTo, TablesAfter, answer_at, moment, IsUnderWay}
use Rattle.refusals.specs.declared.refusal.Phase.TheVariants as phases
use Rattle.gc_steps.proofs.Nearer.{fewer_to_mark, fewer_to_record}
use Rattle.gc_steps.proofs.TablesRun.{runs_same}

module _ (t : Tables) (known now : Option PlaceMap) (old new : DiskView) (c d : Collection) (under : IsUnderWay t.held c) (size : new.size ≡ old.size) (same : now ≡ known) where
  abbrev before : Moment
  before = moment t known old c

  abbrev after : Moment
  after = moment t now new d

  runs_on : Runs old.size known t → Runs new.size now t
  runs_on runs = runs_same old.size new.size known now t size same runs

  pub mark_made : (level slot : ℕ) → c.stage ≡ Mark level slot → Scans t.held known old new level slot c d → Makes before after (Did phases.Mark)
  mark_made level slot is scans = record {
    answer_is = sym (ap (λ (s : Stage). answer_at s c.sweep.next c.sweep.freed c.sweep.copied) is);
    steps = subst (λ (s : Stage). StepsTo s c.sweep.next before after) (sym is) (scans, same);
    tables = subst (λ (s : Stage). TablesAfter s c.sweep.next before after) (sym is) refl;
    runs = subst (λ (s : Stage). RunsOn s c.sweep.next before after) (sym is) runs_on;
    nearer = λ chosen most. fewer_to_mark chosen t.held c d under level slot known old new is scans;
  }

  pub record_made : (slot : ℕ) → c.stage ≡ Filter slot → Records t.held known old new slot c d → Makes before after (Did phases.Filter)
  record_made slot is records = record {
    answer_is = sym (ap (λ (s : Stage). answer_at s c.sweep.next c.sweep.freed c.sweep.copied) is);
    steps = subst (λ (s : Stage). StepsTo s c.sweep.next before after) (sym is) (records, same);
    tables = subst (λ (s : Stage). TablesAfter s c.sweep.next before after) (sym is) refl;
    runs = subst (λ (s : Stage). RunsOn s c.sweep.next before after) (sym is) runs_on;
    nearer = λ chosen most. fewer_to_record chosen t.held c d under slot known old new is records;
  }

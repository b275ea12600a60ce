use Rattle.store_core.proofs.Prelude.{refl}
use Rattle.store_core.proofs.MakingGc.{made_running}
use Rattle.store_core.proofs.running.Core.gc_start.Goals as goal

pub returns-in-Some-clause-made : goal.returns-in-Some-clause-made
returns-in-Some-clause-made g c = λ buf stop count. made_running c.args.percent c.args.actor c.phase_of.result c.in-Some.running buf _ c.in-Some.is c.phase_of.ensures stop count

pub returns-clause-made : goal.returns-clause-made
returns-clause-made g c = λ buf stop count.
    let is = c.in_ok-begun.ensures in
    record {
      row = (
        record {
          none_ran = c.in_default.is;
          collection = c.in_ok-begun.begun;
          runs = refl;
          snapshot_is = refl;
          next_is = is.begun.snapshot_is;
          percent_is = is.begun.percent_is;
          live = is.begun.live;
          found = is.found;
          nothing_yet = is.begun.nothing_yet;
          under_way = is.under_way;
          stage_is = is.begun.stage_is;
          steps = is.steps;
        },
        refl,
      );
      effect = record { disk = is.reads; tables = record { tables_are = refl; index_is = is.map } };
      served = λ served. is.served;
    }

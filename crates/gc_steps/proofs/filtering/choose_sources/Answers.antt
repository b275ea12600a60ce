use Rattle.gc_steps.proofs.Prelude.{arith, Select, is_old, columns, few_slots}
use Rattle.gc_steps.proofs.Chosen.{all_left, chooses, few_chosen, filter_fewer, first_left, once}
use Rattle.gc_steps.proofs.UnderWay.{at_stage, chosen}
use Rattle.gc_steps.proofs.filtering.choose_sources.Goals as goal

pub begin-requires-clause-there : goal.begin-requires-clause-there
begin-requires-clause-there c =
    let was = at_stage c.args.tables.now.held c.args.collection.now Select c.requires.under_way c.requires.stage in
    first_left c.args.tables.now.held c.args.collection.now c.in_ok-sources.sources.items was.0 c.in_ok-sources.ensures.which

pub begin-requires-clause-few : goal.begin-requires-clause-few
begin-requires-clause-few c = few_slots c.requires.runs.0 c.requires.runs.1 c.args.tables.now c.requires.runs.2

pub begin-requires-clause-counts : goal.begin-requires-clause-counts
begin-requires-clause-counts c = columns c.requires.runs.0 c.requires.runs.1 c.args.tables.now c.requires.runs.2

pub returns-clause-ok : goal.returns-clause-ok
returns-clause-ok c =
    let selects = c.in_ok-sources.ensures in
    chooses c.args.tables.now.held c.args.collection.now c.in_ok-sources.sources.items (record {
      each = selects.each;
      apart = selects.apart;
      sources_are = selects.ids;
    }) c.in_ok-collection.field-0 c.in_ok-collection.ensures.begun

pub returns-clause-under_way : goal.returns-clause-under_way
returns-clause-under_way c =
    let t = c.args.tables.now.held in
    let now = c.args.collection.now in
    let sources = c.in_ok-sources.sources.items in
    let selects = c.in_ok-sources.ensures in
    let was = at_stage t now Select c.requires.under_way c.requires.stage in
    chosen t now c.requires.under_way _ c.requires.stage
    (chooses t now sources (record {
      each = selects.each;
      apart = selects.apart;
      sources_are = selects.ids;
    }) c.in_ok-collection.field-0 c.in_ok-collection.ensures.begun)
    (c.in_ok-collection.ensures.under_way now.snapshot (once t now sources was.0 c.requires.under_way.ids_differ selects.apart)
    (omega (
      arith,
      few_chosen t now sources was.0 selects.each,
      filter_fewer (is_old now.snapshot) t.ids.items,
      few_slots c.requires.runs.0 c.requires.runs.1 c.args.tables.now c.requires.runs.2,
    )) (all_left t now sources was.0 selects.which) was.1)

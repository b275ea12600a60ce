use Rattle.backup_engine.proofs.Prelude.{inl, rules, sym, List, [], ℕ, Option, Some, MutBor, DiskView, IsLater, SourceView, SinkView, Replied, Refused, Ingest, IsIngest, DoesCommand, ending_in}
use Rattle.reply_text.specs.declared.ending.Ending.{Ending}
use Rattle.backup_engine.proofs.Ingesting.{ingest_keeps}
use Rattle.backup_engine.proofs.ByFiles.{refused_by_files}
use Rattle.backup_engine.proofs.FailsAlone.{fails_unopened}
use Rattle.backup_engine.proofs.Kept.{by_same, later_back}
use Rattle.backup_engine.proofs.Lending.{none_back, none_later}
use Rattle.backup_engine.proofs.NotDone.{unopened_ingest}
use Rattle.backup_engine.proofs.Opens.{does_none, does_opened, opened_fresh, opened_later, single_back}
use Rattle.backup_engine.proofs.Ran.{alone_memory}
use Rattle.backup_engine.proofs.Returned.{first_same, ingest_later, rest_same}
use Rattle.backup_engine.proofs.SinglesRun.{ingest_actors, ingest_memory, unopened_speaks}
use Rattle.backup_engine.proofs.SourceRuns.{given_of, given_told}
use Rattle.backup_engine.proofs.Unlent.{ingest_kept}
use Rattle.backup_engine.proofs.ingest.ingest.Goals as goal
use Rattle.backup_engine.specs.Seen.{devices}

-- all that is done
abbrev Ingested : (D : Type 0) → (D → DiskView) → DiskView → DiskView → List ℕ → Option Ending → SourceView → SourceView → SinkView → SinkView → Type 0
Ingested D view v w name ending source source_now sink sink_now =
    (given : List ℕ) × ((rs : List Replied) × DoesCommand D view (Ingest name) given rs ending (devices v w source source_now sink sink_now))

-- the store was not opened
pub returns-in-Err : goal.returns-in-Err
returns-in-Err g c =
    let view = g.D.Disk.view in
    let name = c.args.name.now in
    let refusal = c.in-Err.refused.1 in
    let source = g.S.Source.view c.args.source.now in
    let sink = g.K.Sink.view c.args.sink.now in
    let given = given_of source.left in
    let are = IsIngest name given (Some (Refused refusal)) source source in
    let w = view c.in-Err.refused.0.now in
    let first : MutBor g.row.D.Denot = record { ref_ptr = c.args.disk.ref_ptr; ghost_name = _; now = c.args.disk.now } in
    let later = none_later _ view first _ w refusal c.in-Err.ensures.refused in
    record {
      does = by_same (λ d. Ingested _ view (view c.args.disk.now) (view d) name (Some (Refused refusal)) source source sink sink) _ c.in-Err.refused.0.now (search rules) (
        given,
        (
          [],
          does_none _ view refusal (view c.args.disk.now) w source sink (Ingest name) given ((λ all told. (given_told source.left all told, tt)))
              (λ before is. record {
                keeps = unopened_ingest before w refusal is name given source sink (given_told source.left);
                speaks = unopened_speaks are before w refusal is sink;
              })
              (refused_by_files _ view refusal c.args.disk.now c.in-Err.refused.0.now c.an_opening_finds_its_files.ensures.unopened
              (none_back _ view first _ w refusal c.in-Err.ensures.refused))
              (fails_unopened _ view refusal c.args.disk.now c.in-Err.refused.0.now c.an_opening_finds_its_files.ensures.unopened
              (none_back _ view first _ w refusal c.in-Err.ensures.refused))
              (none_back _ view first _ w refusal c.in-Err.ensures.refused),
        ),
      );
      later = by_same (λ d. IsLater (view c.args.disk.now) (view d)) _ c.in-Err.refused.0.now (search rules)
          (later_back _ _ (view c.args.disk.now) w (sym (rest_same _ _ _ _ later.loans_are)) later);
    }

pub store_source-stored-requires-clause-fresh : goal.store_source-stored-requires-clause-fresh
store_source-stored-requires-clause-fresh g c κs outlives = opened_fresh _ _ _ _ c.in-Ok.ensures.opened c.in-Ok.ensures.running

-- it was
pub returns : goal.returns
returns g c =
    let view = g.D.Disk.view in
    let is = c.in-Ok.ensures in
    let name = c.args.name.now in
    let result = c.store_source-stored.result in
    let source = g.S.Source.view c.args.source.now in
    let source_now = g.S.Source.view c.store_source-stored.new.source in
    let sink = g.K.Sink.view c.args.sink.now in
    let sink_now = g.K.Sink.view c.store_source-stored.new.sink in
    let closed = c.close-disk.ensures in
    let ran = c.store_source-stored.ensures.ran in
    let w = view c.close-disk.result.now in
    let are = IsIngest name ran.given (ending_in result) source source_now in
    let first : MutBor g.row.D.Denot = record { ref_ptr = c.args.disk.ref_ptr; ghost_name = _; now = c.args.disk.now } in
    let later = opened_later _ view _ _ first _ w c.in-Ok.core c.store_source-stored.new.core c.calls_run_by_files.ensures is.running closed.disk closed.moment
    (ingest_later _ _ name result c.in-Ok.core c.store_source-stored.new.core source source_now sink sink_now ran) is.opened in
    let named = first_same c.close-disk.result.ghost_name _ _ _ later.loans_are in
    let core = c.in-Ok.core in
    let core_now = c.store_source-stored.new.core in
    let opens = c.calls_run_by_files.ensures in
    let between = ingest_later _ _ name result core core_now source source_now sink sink_now ran in
    let run = ran.lines_are in
    let by_files = single_back _ view _ _ first _ w core core_now opens is.running closed.disk closed.moment between is.opened are (ending_in result) run
    (ingest_actors name ran.given (ending_in result) source source_now) in
    let done = does_opened _ view _ _ first _ w core core_now opens is.running closed.disk closed.moment between (Ingest name) ran.given (ending_in result) source source_now sink
    sink_now run.0 by_files
    (λ none. alone_memory (ending_in result) run.0 _ _ by_files (ingest_memory name ran.given (ending_in result) source source_now run.0 run.1.0 none)) is.opened
    (λ before called. (
      ingest_kept _ _ (view before.now) w source source_now sink sink_now ran.given name (ending_in result)
          (ingest_keeps _ _ _ _ _ _ called name result source source_now sink sink_now ran),
      inl run.1.0,
    )) in
    record {
      does = by_same (λ d. Ingested _ view (view c.args.disk.now) (view d) name (ending_in result) source source_now sink sink_now) _ c.close-disk.result.now
          (search (rules, named)) (ran.given, (run.0, done));
      later = by_same (λ d. IsLater (view c.args.disk.now) (view d)) _ c.close-disk.result.now (search (rules, named))
          (later_back _ _ (view c.args.disk.now) w (sym (rest_same _ _ _ _ later.loans_are)) later);
    }

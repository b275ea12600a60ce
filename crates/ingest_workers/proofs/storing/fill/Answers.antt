use Rattle.std.proofs.Common.{rules, ◌≡◌, ◌≤◌, ◌+◌, ℕ, Result, length, take, refl, sym, ap, subst, ◌∙◌, arith}
use Rattle.load_stream.specs.Load.{LoadState, byte_of}
use Rattle.refusals.specs.declared.refusal.Refusal.{Refusal}
use Rattle.session_turns.proofs.Results.{by_error}
use Rattle.ingest_workers.specs.Working.{Fills}
use Rattle.ingest_workers.proofs.Feeding.{fed_under, unfed_stops}
use Rattle.ingest_workers.proofs.Pieces.{begins_more, longer}
use Rattle.ingest_workers.proofs.storing.fill.Goals as goal

pub loop-piece-init : goal.loop-piece-init
loop-piece-init g c = record {
  ongoing = c.requires.ongoing;
  count = c.requires.none ∙ sym c.requires.fresh;
  stream = refl;
  under = λ start under none. (under, none ∙ sym c.requires.fresh);
}

pub returns-then-count-eq0-clause-fills : goal.returns-then-count-eq0-clause-fills
returns-then-count-eq0-clause-fills g c start under none =
    let now = c.loop-piece.invariant.under start under none in
    let same : c.loop-piece.stream.length ≡ c.args.stream.now.length = ap (λ (x : LoadState). x.length) c.loop-piece.invariant.stream in
    let full : c.loop-piece.stream.given ≡ c.loop-piece.stream.length = search rules in
    (now.0, now.1 ∙ full ∙ same)

pub loop-piece-preserved : goal.loop-piece-preserved
loop-piece-preserved g c =
    let asks = g.S.StoreCalls.asks in
    let file : LoadState = c.args.stream.now in
    let stream = c.loop-piece.stream in
    let count = c.next_bytes-count.result in
    let piece = c.next_bytes-count.new.into in
    let read = c.next_bytes-count.ensures in
    let fed = c.in_ok-feed.ensures in
    let given_is : c.next_bytes-count.new.self.given ≡ stream.given + count = ap (λ (x : LoadState). x.given) read.given in
    let few : count ≤ length piece = search rules in
    let room : stream.given + count ≤ stream.length = search rules in
    let length_is : stream.length ≡ file.length = ap (λ (x : LoadState). x.length) c.loop-piece.invariant.stream in
    let ongoing = fed.ended ∙ c.loop-piece.invariant.ongoing in
    record {
      ongoing = ongoing;
      count = fed.count ∙ (let before = c.loop-piece.invariant.count in search rules);
      stream = read.given ∙ ap (λ (x : LoadState). record x { given = stream.given + count }) c.loop-piece.invariant.stream
          ∙ ap (λ (n : ℕ). record file { given = n }) (sym given_is);
      under = λ start under none.
          let now = c.loop-piece.invariant.under start under none in
          let begins = begins_more file now.0.history.given piece stream.given count now.0.of_file.begins now.1 few (subst (λ (n : ℕ). stream.given + count ≤ n) length_is room)
          (λ i below. read.bytes i below ∙ ap (λ (x : LoadState). byte_of x.seed x.file (stream.given + i)) c.loop-piece.invariant.stream) in
          let next = fed_under asks c.own.result file start c.loop-piece.session c.feed.new.session
          (take count piece) c.loop-piece.caller c.feed.new.core now.0 begins ongoing fed.feeds in
          (next.0, ap length next.1 ∙ longer now.0.history.given piece stream.given count now.1 few ∙ sym given_is);
    }

pub returns-in_err-feed-clause-fills : goal.returns-in_err-feed-clause-fills
returns-in_err-feed-clause-fills g c =
    let asks = g.S.StoreCalls.asks in
    let file : LoadState = c.args.stream.now in
    let e = c.in_err-feed.field-0.0 in
    let stream = c.loop-piece.stream in
    let count = c.next_bytes-count.result in
    let piece = c.next_bytes-count.new.into in
    let fed = c.in_err-feed.ensures in
    let few : count ≤ length piece = search rules in
    let room : stream.given + count ≤ stream.length = search rules in
    let length_is : stream.length ≡ file.length = ap (λ (x : LoadState). x.length) c.loop-piece.invariant.stream in
    let kept : c.feed.new.session.count ≡ stream.given = fed.kept ∙ c.loop-piece.invariant.count in
    let many : length (take count piece) ≡ count = search rules in
    by_error (λ (r : Result (Unit {0}) Refusal). Fills asks file r c.args.session.now c.feed.new.session c.args.caller.now c.feed.new.core)
    c.from_residual.result e c.from_residual.ensures.1
    (λ start under none.
    let now = c.loop-piece.invariant.under start under none in
    unfed_stops asks c.own.result file start e c.loop-piece.session c.feed.new.session (take count piece) c.loop-piece.caller c.feed.new.core now.0
    (fed.ended ∙ c.loop-piece.invariant.ongoing) (omega (arith, kept, many, room, length_is)) fed.feeds)

use Rattle.std.proofs.Common.{sym, ◌∙◌, ap, arith, []}
use Rattle.std.specs.Cmp.Lexicographic.{same_text}
use Rattle.sha2.specs.Sha256.{sha256}
use Rattle.digests.proofs.Taken.{digest_at}
use Rattle.digests.proofs.ahead.Ahead.known.Goals as goal

pub returns-then-eq : goal.returns-then-eq
returns-then-eq c =
    let own = c.self.inside in
    c.index.ensures
    ∙ digest_at own.texts.all own.digests.items own.next c.index.result.now [] c.self.invariant (omega arith)
    ∙ ap sha256 (sym c.get.ensures ∙ same_text c.get.result.now c.args.bytes.now (sym c.if-eq.true ∙ c.eq.ensures))

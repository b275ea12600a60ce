use Rattle.ingest_session.proofs.Prelude.{[], length, ◌≡◌, ◌∙◌, ap, arith, drop, subst, sym, AllByRecursion}
use Rattle.std.proofs.lemmas.List.{nil_from_length}
use Rattle.ingest_session.specs.Buffers.{IsFull, Waiting, all_in}
use Rattle.ingest_session.proofs.Buffered.{all_long, one_gone, past_first, past_last}
use Rattle.ingest_session.proofs.chunks.Chunks.pop.Goals as goal

pub returns-in-Some : goal.returns-in-Some
returns-in-Some c =
    let i = c.self.inside in
    let each = subst (AllByRecursion IsFull) c.in-Some.ensures.items c.self.invariant.each in
    ap (λ xs. record { most = i.most; segments = xs })
    (past_first c.in-Some.first c.pop_front.new.self.items i.last i.gone each.0.1 c.if-self-eq-CHUNK.true
    ∙ ap (λ full. drop 1 (drop i.gone (all_in full i.last))) (sym c.in-Some.ensures.items))
    ∙ ap (λ (w : Waiting). record { most = w.most; segments = drop 1 w.segments }) c.self.view_is

pub returns-in-None : goal.returns-in-None
returns-in-None c =
    let i = c.self.inside in
    let none : c.pop_front.new.self.items ≡ [] =
    nil_from_length c.pop_front.new.self.items (omega (arith, c.in-None.ensures.cases.1, c.pop_front.new.self.ok)) in
    let all : i.full.items ≡ [] = c.in-None.ensures.items ∙ none in
    let few = all_long i.full.items i.last c.self.invariant.each in
    ap (λ xs. record { most = i.most; segments = xs })
    (ap (λ full. all_in full c.clear-in-None.new.self) none ∙ c.clear-in-None.ensures.all
    ∙ sym (past_last (all_in i.full.items i.last) i.gone (omega (arith, few, ap length all, c.self.invariant.filled.few)) c.if-self-eq-CHUNK.true))
    ∙ ap (λ (w : Waiting). record { most = w.most; segments = drop 1 w.segments }) c.self.view_is

pub returns-else-self-eq-CHUNK : goal.returns-else-self-eq-CHUNK
returns-else-self-eq-CHUNK c =
    let i = c.self.inside in
    ap (λ xs. record { most = i.most; segments = xs }) (one_gone i.gone (all_in i.full.items i.last))
    ∙ ap (λ (w : Waiting). record { most = w.most; segments = drop 1 w.segments }) c.self.view_is

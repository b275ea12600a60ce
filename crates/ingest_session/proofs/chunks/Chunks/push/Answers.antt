use Rattle.ingest_session.proofs.Prelude.{◌≡◌, ◌<◌, ◌≤◌, [], ◌∷◌, ◌++◌, append-nil, arith, drop, length, subst, sym, ap, ◌∙◌}
use Rattle.std.proofs.Common.{deque_capacity}
use Rattle.std.proofs.lemmas.List.{nil_from_length}
use Rattle.ingest_session.specs.declared.chunks.Chunks.TheInside.{Inside}
use Rattle.ingest_session.specs.declared.chunks.TheConstants.{CHUNK}
use Rattle.ingest_session.specs.Buffers.{Waiting, all_in}
use Rattle.ingest_session.proofs.Buffered.{Stand, waiting, chunk_long, has_spare, in_last, then_spare, waiting_long, with_segment, with_spare}
use Rattle.ingest_session.proofs.chunks.Chunks.push.Goals as goal
use Rattle.ingest_session.proofs.chunks.Chunks.push.Goals.{After-push_reserved-arg-1, In-None, then-len-eq-CHUNK+in-Some, else-len-eq-CHUNK}

has_room : (i : Inside) (now : Waiting) → Stand i → waiting i ≡ now → length now.segments ≤ now.most → i.count ≤ i.most
has_room i now are is room =
    let long = waiting_long i.gone i.count (all_in i.full.items i.last) are.count_is in
    let here = subst (λ (w : Waiting). length w.segments ≤ w.most) (sym is) room in
    omega (arith, long, here)

none_left : (c : In-None) → c.pop.new.self.items ≡ []
none_left c = nil_from_length c.pop.new.self.items (omega (arith, c.in-None.ensures.cases.1, c.pop.new.self.ok.0))

pub unreachable-requires : goal.unreachable-requires
unreachable-requires c =
    let i = c.self.inside in
    has_spare i.most i.count i.gone i.full.items (deque_capacity i.full) i.last i.spare c.self.invariant
    (sym c.len.ensures ∙ c.if-len-eq-CHUNK.true) (has_room i c.args.self.now c.self.invariant c.self.view_is c.requires.room)
    (c.in-None.ensures.items ∙ append-nil c.pop.new.self.items ∙ none_left c)

-- there is room in the last buffer then
ready : (c : After-push_reserved-arg-1) → (let i = c.if-len-eq-CHUNK.self-inside in Stand i × (length i.last.all < CHUNK) × (waiting i ≡ c.args.self.now))
ready c =
    let i = c.self.inside in
    elim c.if-len-eq-CHUNK.branch [
      | then-len-eq-CHUNK+in-Some w ↦
          let next = w.in-Some.spare in
          let moved = with_spare i.most i.count i.gone i.full.items (deque_capacity i.full) (deque_capacity w.push_back_reserved.new.self) i.last next i.spare
          w.pop.new.self c.self.invariant (sym c.len.ensures ∙ w.if-len-eq-CHUNK.true) w.in-Some.ensures.items w.push_back_reserved.ensures.capacity
          w.pop.ensures.capacity in
          rw (w.self-inside-is, w.push_back_reserved.ensures.items, w.replace.ensures.value, w.replace.ensures.after) (
            moved.0,
            omega (arith, ap length moved.1),
            ap (λ xs. record { most = i.most; segments = drop i.gone xs }) (then_spare i.full.items i.last next moved.1) ∙ c.self.view_is,
          )
      | else-len-eq-CHUNK w ↦
          rw w.self-inside-is (c.self.invariant, omega (arith, c.self.invariant.filled.few, w.if-len-eq-CHUNK.false, c.len.ensures), c.self.view_is)
    ]

pub push_reserved-requires-clause-place : goal.push_reserved-requires-clause-place
push_reserved-requires-clause-place c = let r = ready c in omega (arith, r.1, r.0.filled.places)

pub push_reserved-requires-clause-room : goal.push_reserved-requires-clause-room
push_reserved-requires-clause-room c =
    let r = ready c in
    omega (arith, r.1, r.0.filled.room, chunk_long c.if-len-eq-CHUNK.self-inside.last.all r.0.filled.each, c.requires.at_most)

pub invariant_of-self : goal.invariant_of-self
invariant_of-self c =
    let d = (goal.at.invariant_of-self c).After-push_reserved-arg-1 in
    let i = c.if-len-eq-CHUNK.self-inside in
    let r = ready d in
    with_segment i.most i.count i.gone i.full.items (deque_capacity i.full) i.last c.push_reserved.new.self i.spare c.args.segment.now r.0 r.1
    (has_room i c.args.self.now r.0 r.2 c.requires.room) c.requires.at_most c.push_reserved.ensures.all c.push_reserved.ensures.keeps.places
    c.push_reserved.ensures.keeps.room

pub returns : goal.returns
returns c =
    let d = (goal.at.returns c).After-push_reserved-arg-1 in
    let i = c.if-len-eq-CHUNK.self-inside in
    let r = ready d in
    ap (λ xs. record { most = i.most; segments = xs })
    (in_last i.full.items i.last c.push_reserved.new.self i.gone c.args.segment.now (omega (arith, r.0.count_is)) c.push_reserved.ensures.all)
    ∙ ap (λ (w : Waiting). record { most = w.most; segments = w.segments ++ c.args.segment.now ∷ [] }) r.2

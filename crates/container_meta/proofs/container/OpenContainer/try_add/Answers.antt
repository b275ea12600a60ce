use Rattle.container_meta.proofs.Prelude.{◌≡◌, ℕ, List, [], ◌∷◌, ◌++◌, refl, ap, sym, subst, length, length-append, ◌∙◌, arith, Entry, Segment, Contents, CanAdd, segments_in, entries_from, bytes_in, bytes_of, Follow, IsNext}
use Rattle.container_meta.proofs.Numbers.{same_entry}
use Rattle.container_meta.proofs.Packing.{length-segments_in, bytes_in-segments_in, room_holds, next_allowed, exact-push, whole-push, segments_in-push, Follow-push, entry_for}
use Rattle.container_meta.proofs.container.OpenContainer.try_add.Goals as goal

pub push_entry-requires : goal.push_entry-requires
push_entry-requires c =
    let es : List Entry = c.self.inside.entries.items in
    let room = room_holds c.args.self.now (length c.bytes-bytes.result.now) (sym c.if-not-has_room.ensures) in
    let many : length c.args.self.now.segments ≡ length es = ap (λ (v : Contents). length v.segments) (sym c.self.view_is) ∙ length-segments_in es c.self.inside.bytes.items in
    omega (arith, room.0, many, c.self.inside.entries.ok.0, c.self.invariant.room_for_entries)

pub push_bytes-requires : goal.push_bytes-requires
push_bytes-requires c =
    let bytes : List ℕ = c.self.inside.bytes.items in
    let room = room_holds c.args.self.now (length c.bytes-bytes.result.now) (sym c.if-not-has_room.ensures) in
    let held : bytes_in c.args.self.now.segments ≡ length bytes = ap (λ (v : Contents). bytes_in v.segments) (sym c.self.view_is)
    ∙ bytes_in-segments_in c.self.inside.entries.items bytes c.self.invariant.whole in
    omega (arith, room.1, held, c.self.inside.bytes.ok.0, c.self.invariant.room_for_bytes)

pub invariant_of-self : goal.invariant_of-self
invariant_of-self c =
    let es : List Entry = c.self.inside.entries.items in
    let bytes : List ℕ = c.self.inside.bytes.items in
    let s : Segment = c.args.seg.now.segment in
    let room = room_holds c.args.self.now (length c.bytes-bytes.result.now) (sym c.if-not-has_room.ensures) in
    let many : length c.args.self.now.segments ≡ length es = ap (λ (v : Contents). length v.segments) (sym c.self.view_is) ∙ length-segments_in es bytes in
    let held : bytes_in c.args.self.now.segments ≡ length bytes = ap (λ (v : Contents). bytes_in v.segments) (sym c.self.view_is)
    ∙ bytes_in-segments_in es bytes c.self.invariant.whole in
    let made = same_entry c.digest.result _ c.len.result (length bytes) (length c.bytes-bytes.result.now) _ c.level.result _ c.digest.ensures
    (c.len.ensures ∙ c.self.inside.bytes.ok.0) (ap length c.bytes-bytes.ensures) c.level.ensures in
    let all : c.push_entry.new.entries.items ≡ es ++ entry_for (length bytes) s ∷ [] = c.push_entry.ensures.items ∙ ap (λ (e : Entry). es ++ e ∷ []) made in
    let joined : c.push_bytes.new.bytes.items ≡ bytes ++ s.bytes = c.push_bytes.ensures.items ∙ ap (λ (l : List ℕ). bytes ++ l) c.bytes-bytes.ensures in
    let can : CanAdd (record { kind = c.self.inside.kind; segments = segments_in es bytes }) c.args.seg.now =
    subst (λ (v : Contents). CanAdd v c.args.seg.now) (sym c.self.view_is) c.requires in
    let next : IsNext c.self.inside.kind es (entry_for (length bytes) s) = next_allowed c.self.inside.kind es bytes c.args.seg.now c.self.invariant.exact c.self.invariant.whole
    can in
    record {
      exact = all ∙ exact-push es bytes s c.self.invariant.exact c.self.invariant.whole ∙ ap (λ (l : List Entry). entries_from 0 (segments_in l (bytes ++ s.bytes))) (sym all)
          ∙ ap (λ (l : List ℕ). entries_from 0 (segments_in c.push_entry.new.entries.items l)) (sym joined);
      whole = ap bytes_of all ∙ whole-push es bytes s c.self.invariant.whole ∙ ap length (sym joined);
      allowed = subst (λ (l : List Entry). Follow c.self.inside.kind [] l) (sym all)
          (Follow-push c.self.inside.kind [] es (entry_for (length bytes) s) c.self.invariant.allowed next);
      few = omega (arith, room.0, many, ap length all, length-append es (entry_for (length bytes) s ∷ []), c.push_entry.new.entries.ok.0);
      fits = omega (arith, room.1, held, ap length joined, length-append bytes s.bytes, ap length c.bytes-bytes.ensures, c.push_bytes.new.bytes.ok.0);
      room_for_entries = omega (arith, c.self.invariant.room_for_entries, c.push_entry.ensures.capacity);
      room_for_bytes = omega (arith, c.self.invariant.room_for_bytes, c.push_bytes.ensures.capacity);
    }

pub returns-clause-added : goal.returns-clause-added
returns-clause-added c = λ done.
    let es : List Entry = c.self.inside.entries.items in
    let bytes : List ℕ = c.self.inside.bytes.items in
    let s : Segment = c.args.seg.now.segment in
    let made = same_entry c.digest.result _ c.len.result (length bytes) (length c.bytes-bytes.result.now) _ c.level.result _ c.digest.ensures
    (c.len.ensures ∙ c.self.inside.bytes.ok.0) (ap length c.bytes-bytes.ensures) c.level.ensures in
    let all : c.push_entry.new.entries.items ≡ es ++ entry_for (length bytes) s ∷ [] = c.push_entry.ensures.items ∙ ap (λ (e : Entry). es ++ e ∷ []) made in
    let joined : c.push_bytes.new.bytes.items ≡ bytes ++ s.bytes = c.push_bytes.ensures.items ∙ ap (λ (l : List ℕ). bytes ++ l) c.bytes-bytes.ensures in
    let segments : segments_in c.push_entry.new.entries.items c.push_bytes.new.bytes.items ≡ segments_in es bytes ++ s ∷ [] =
    ap (λ (l : List Entry). segments_in l c.push_bytes.new.bytes.items) all ∙ ap (segments_in (es ++ entry_for (length bytes) s ∷ [])) joined
    ∙ segments_in-push es bytes (entry_for (length bytes) s) s.bytes c.self.invariant.whole refl in
    ap (λ (l : List Segment). (let v : Contents = record { kind = c.self.inside.kind; segments = l } in v)) segments
    ∙ ap (λ (v : Contents). (let w : Contents = record { kind = v.kind; segments = v.segments ++ s ∷ [] } in w)) c.self.view_is

use Rattle.container_meta.proofs.Prelude.{◌≡◌, ℕ, List, ap, sym, length, ◌∙◌, arith, Entry, Contents, bytes_in}
use Rattle.container_meta.proofs.Packing.{length-segments_in, bytes_in-segments_in, room_tested, no_room_tested}
use Rattle.container_meta.proofs.container.OpenContainer.has_room.Goals as goal

pub returns-then-len-lt-MOST_ENTRIES : goal.returns-then-len-lt-MOST_ENTRIES
returns-then-len-lt-MOST_ENTRIES c =
    let es : List Entry = c.self.inside.entries.items in
    let bytes : List ℕ = c.self.inside.bytes.items in
    let many : length c.args.self.now.segments ≡ length es = ap (λ (v : Contents). length v.segments) (sym c.self.view_is) ∙ length-segments_in es bytes in
    let whole : bytes_in c.args.self.now.segments ≡ length bytes = ap (λ (v : Contents). bytes_in v.segments) (sym c.self.view_is)
    ∙ bytes_in-segments_in es bytes c.self.invariant.whole in
    room_tested c.args.self.now (length es) c.len-then-len-lt-MOST_ENTRIES.result c.args.bytes many
    (omega (arith, whole, c.len-then-len-lt-MOST_ENTRIES.ensures, c.self.inside.bytes.ok.0)) (omega (arith, c.len-then-len-lt-MOST_ENTRIES.ensures, c.self.invariant.fits))
    (omega (arith, c.if-len-lt-MOST_ENTRIES.true, c.len.ensures, c.self.inside.entries.ok.0))

pub returns-else-len-lt-MOST_ENTRIES : goal.returns-else-len-lt-MOST_ENTRIES
returns-else-len-lt-MOST_ENTRIES c =
    let es : List Entry = c.self.inside.entries.items in
    let bytes : List ℕ = c.self.inside.bytes.items in
    let many : length c.args.self.now.segments ≡ length es = ap (λ (v : Contents). length v.segments) (sym c.self.view_is) ∙ length-segments_in es bytes in
    no_room_tested c.args.self.now c.len.result c.args.bytes (many ∙ sym (c.len.ensures ∙ c.self.inside.entries.ok.0)) (omega (arith, c.if-len-lt-MOST_ENTRIES.false))

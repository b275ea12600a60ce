use Rattle.std.proofs.Common.{◌≡◌, ◌≤◌, length, map, take, vec_capacity}
use Rattle.digests.specs.Texts.{text_in}
use Rattle.digests.proofs.texts.Texts.all.Given as goal

abbrev pub invariant-loop-span : goal.invariant-loop-span
invariant-loop-span l =
    (map (λ t. t.now) l.all.items ≡ map (text_in l.self-inside.bytes.items) (take l.span-index l.self-inside.spans.items))
    × (length l.self-inside.spans.items ≤ vec_capacity l.all)
    × (length l.all.items ≡ l.span-index)

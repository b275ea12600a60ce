use Rattle.container_meta.proofs.Prelude.{◌≡◌, ℕ, ◌<◌, List, ap, sym, length, take, drop, get_or, ◌∙◌, arith, eq-eqb, ne_eqb, take_all, ◌==◌, Entry, has_digest}
use Rattle.std.proofs.Common.{length-drop}
use Rattle.container_meta.proofs.Packing.{has_key-is, chosen_by, refused_by}
use Rattle.container_meta.proofs.container.OpenContainer.has.Goals as goal

pub returns-then-byte_of-key : goal.returns-then-byte_of-key
returns-then-byte_of-key c =
    let es : List Entry = c.self.inside.entries.items in
    let key : List ℕ = c.args.key.now in
    let some : 0 < length key = omega arith in
    let is = has_key-is c.args.self.now c.self.inside.kind es c.self.inside.bytes.items key c.byte_of.result c.self.view_is c.self.invariant.exact some c.byte_of.ensures in
    let digest : take 32 (drop 1 key) ≡ drop 1 key = take_all 32 (drop 1 key) (omega (arith, length-drop 1 key)) in
    c.stands_in.ensures
    ∙ ap (λ (l : List Entry). has_digest l (take 32 (drop 1 key))) c.deref.ensures.value
    ∙ ap (has_digest es) digest
    ∙ chosen_by (c.byte_of.result == get_or key 0 0) (has_digest es (drop 1 key)) (eq-eqb c.byte_of.result (get_or key 0 0) c.if-byte_of-key.true)
    ∙ sym is

pub returns-else-byte_of-key : goal.returns-else-byte_of-key
returns-else-byte_of-key c =
    let es : List Entry = c.self.inside.entries.items in
    let key : List ℕ = c.args.key.now in
    let some : 0 < length key = omega arith in
    let is = has_key-is c.args.self.now c.self.inside.kind es c.self.inside.bytes.items key c.byte_of.result c.self.view_is c.self.invariant.exact some c.byte_of.ensures in
    refused_by (c.byte_of.result == get_or key 0 0) (has_digest es (drop 1 key)) (ne_eqb c.byte_of.result (get_or key 0 0) c.if-byte_of-key.false) ∙ sym is

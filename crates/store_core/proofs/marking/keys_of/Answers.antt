use Rattle.store_core.proofs.Prelude.{◌≡◌, ℕ, suc, ◌+◌, ◌++◌, ◌∙◌, refl, ap, sym, arith, take}
use Rattle.std.proofs.lemmas.List.{take_all}
use Rattle.std.proofs.lemmas.Option.{slice_get_read}
use Rattle.container_meta.specs.Segments.{keys_of}
use Rattle.store_core.specs.Collecting.{keys_in}
use Rattle.store_core.proofs.Marks.{keys_next}
use Rattle.store_core.proofs.marking.keys_of.Goals as goal

pub loop-i-preserved : goal.loop-i-preserved
loop-i-preserved c =
    let filled = c.args.filled.now in
    let here = slice_get_read filled _ c.loop-i.i c.index-filled-i.result refl (omega (arith, c.loop-i-test.true)) c.index-filled-i.is in
    let next : suc c.loop-i.i ≡ c.loop-i.i + 1 = omega arith in
    c.in_ok-add_keys.ensures ∙ ap (λ ks. ks ++ keys_of c.index-filled-i.result) c.loop-i.invariant
    ∙ sym (keys_next filled c.loop-i.i c.index-filled-i.result here)
    ∙ ap (λ (n : ℕ). keys_in (take n filled)) next

pub returns : goal.returns
returns c = c.loop-i.invariant ∙ ap keys_in (take_all c.loop-i.i c.args.filled.now c.loop-i-test.false)

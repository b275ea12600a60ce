use Rattle.container_meta.proofs.Prelude.{ℕ, ◌+◌, List, [], ◌∷◌, take, refl, arith, w32, to_be_bytes}
use Rattle.base_model.specs.Bytes.{zeros}
use Rattle.container_meta.proofs.Lists.{written_to, part_written}
use Rattle.container_meta.proofs.Spelled.{entry_written}
use Rattle.container_meta.proofs.writing.put_entry.Goals as goal

pub returns : goal.returns
returns c =
    let at = c.args.at in
    let e = c.args.entry.now in
    let front : List ℕ = take at c.args.out.now in
    let a = part_written at (at + 32) front e.digest e.digest c.args.out.now c.put.new.out refl (omega arith) refl c.put.ensures in
    let b = part_written (at + 32) (at + 36) _ c.to_be_bytes.result (to_be_bytes w32 e.offset) c.put.new.out c.put-2.new.out c.to_be_bytes.ensures (omega arith) a c.put-2.ensures
    in
    let d = part_written (at + 36) (at + 40) _ c.to_be_bytes-2.result (to_be_bytes w32 e.length) c.put-2.new.out c.put-3.new.out c.to_be_bytes-2.ensures (omega arith) b
    c.put-3.ensures in
    let g = part_written (at + 40) (at + 41) _ (e.level ∷ []) (e.level ∷ []) c.put-3.new.out c.put-4.new.out refl (omega arith) d c.put-4.ensures in
    let h = written_to (at + 41) 7 (at + 48) _ (zeros 7) c.put-4.new.out c.put_zeros.new.out (omega arith) g c.put_zeros.ensures in
    entry_written front e _ h

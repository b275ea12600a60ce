use Rattle.container_meta.proofs.Prelude.{ℕ, List, refl, arith}
use Rattle.base_model.specs.Bytes.{zeros}
use Rattle.container_meta.specs.Spelling.{fields_spelling}
use Rattle.container_meta.proofs.Lists.{written_to, part_written, whole_written}
use Rattle.container_meta.proofs.Spelled.{front_written, fields_hashed}
use Rattle.container_meta.proofs.writing.put_front.Goals as goal

pub returns-clause-front : goal.returns-clause-front
returns-clause-front c =
    let f = c.args.fields.now in
    let out : List ℕ = c.put_fields.new.out in
    let digest : List ℕ = c.finalize-digest.result in
    let digested = c.finalize-digest.ensures _ (c.update-2.ensures _ (c.update.ensures _ c.new-hasher.ensures)) in
    let a = part_written 24 56 _ digest digest out c.put.new.out refl (omega arith) refl c.put.ensures in
    let b = written_to 56 456 512 _ (zeros 456) c.put.new.out c.put_zeros.new.out refl a c.put_zeros.ensures in
    front_written (fields_spelling f.id f.kind f.count f.data_length) c.args.entries.now digest out _ digested c.put_fields.ensures
    (whole_written 512 _ c.put_zeros.new.out (omega arith) b)

pub returns-clause-digest : goal.returns-clause-digest
returns-clause-digest c =
    let f = c.args.fields.now in
    let digested = c.finalize-digest.ensures _ (c.update-2.ensures _ (c.update.ensures _ c.new-hasher.ensures)) in
    fields_hashed (fields_spelling f.id f.kind f.count f.data_length) c.args.entries.now c.put_fields.new.out c.finalize-digest.result digested c.put_fields.ensures

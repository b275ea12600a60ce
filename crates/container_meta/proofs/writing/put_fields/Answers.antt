use Rattle.container_meta.proofs.Prelude.{◌≡◌, ℕ, [], ◌∷◌, refl, ap, w16, w32, w64, to_be_bytes, CONTAINER_GATE, magic, kind_byte}
use Rattle.container_meta.proofs.Lists.{part_written}
use Rattle.container_meta.proofs.Spelled.{fields_written}
use Rattle.container_meta.proofs.writing.put_fields.Goals as goal

pub returns : goal.returns
returns c =
    let f = c.args.fields.now in
    let kind : c.byte_of.result ∷ 0 ∷ [] ≡ kind_byte f.kind ∷ 0 ∷ [] = ap (λ (k : ℕ). k ∷ 0 ∷ []) c.byte_of.ensures in
    let a = part_written 0 1 [] (CONTAINER_GATE ∷ []) (CONTAINER_GATE ∷ []) c.args.out.now c.put.new.out refl refl refl c.put.ensures in
    let m = part_written 1 8 _ magic magic c.put.new.out c.put-2.new.out refl refl a c.put-2.ensures in
    let b = part_written 8 16 _ c.to_be_bytes.result (to_be_bytes w64 f.id) c.put-2.new.out c.put-3.new.out c.to_be_bytes.ensures refl m c.put-3.ensures in
    let d = part_written 16 18 _ (c.byte_of.result ∷ 0 ∷ []) (kind_byte f.kind ∷ 0 ∷ []) c.put-3.new.out c.put-4.new.out kind refl b c.put-4.ensures in
    let g = part_written 18 20 _ c.to_be_bytes-2.result (to_be_bytes w16 f.count) c.put-4.new.out c.put-5.new.out c.to_be_bytes-2.ensures refl d c.put-5.ensures in
    let h = part_written 20 24 _ c.to_be_bytes-3.result (to_be_bytes w32 f.data_length) c.put-5.new.out c.put-6.new.out c.to_be_bytes-3.ensures refl g c.put-6.ensures in
    fields_written f.id f.kind f.count f.data_length _ h

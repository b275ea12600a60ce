use Rattle.container_meta.proofs.Prelude.{◌≡◌, ℕ, ◌-◌, ◌*◌, List, ◌++◌, refl, ap, sym, subst, length, take, ◌∙◌, arith, DATA_BYTES, sha256, Entry, Contents, StandFrom, IsHeader, IsSpelled, header_of, container_spelling}
use Rattle.container_meta.specs.Spelling.{header_digest, entries_spelling, fields_spelling, front_spelling}
use Rattle.container_meta.proofs.Packing.{length-segments_in}
use Rattle.container_meta.proofs.Encoded.{container_written, digest_written, header_allowed}
use Rattle.container_meta.proofs.Stored.{stand_in_spelling, header-container_spelling}
use Rattle.base_model.specs.Bytes.{zeros}
use Rattle.container_meta.proofs.container.OpenContainer.encode.Goals as goal

pub returns-clause-image : goal.returns-clause-image
returns-clause-image c =
    let es : List Entry = c.self.inside.entries.items in
    let bytes : List ℕ = c.self.inside.bytes.items in
    let spelled = λ (l : List Entry). entries_spelling l ++ zeros (49152 - 48 * length l) in
    let count : c.len.result ≡ length es = c.len.ensures ∙ c.self.inside.entries.ok.0 in
    let held : c.len-2.result ≡ length bytes = c.len-2.ensures ∙ c.self.inside.bytes.ok.0 in
    let entries : c.put_entries.new.out ≡ spelled es = c.put_entries.ensures ∙ ap spelled c.deref.ensures.value in
    let rest : c.put_data.new.out ≡ bytes ++ zeros (DATA_BYTES - length bytes) = c.put_data.ensures ∙ ap (λ (l : List ℕ). l ++ zeros (DATA_BYTES - length l))
    c.deref-2.ensures.value in
    let front : c.put_front-digest.new.out ≡ front_spelling (fields_spelling c.args.id c.self.inside.kind (length es) (length bytes))
    (take (48 * length es) c.put_entries.new.out) =
    c.put_front-digest.ensures.front
    ∙ ap (λ (n : ℕ). front_spelling (fields_spelling c.args.id c.self.inside.kind n c.len-2.result) (take (48 * c.len-3.result) c.put_entries.new.out)) count
    ∙ ap (λ (n : ℕ). front_spelling (fields_spelling c.args.id c.self.inside.kind (length es) n) (take (48 * c.len-3.result) c.put_entries.new.out)) held
    ∙ ap (λ (n : ℕ). front_spelling (fields_spelling c.args.id c.self.inside.kind (length es) (length bytes)) (take (48 * n) c.put_entries.new.out))
    (c.len-3.ensures ∙ c.self.inside.entries.ok.0) in
    subst (λ (v : Contents). c.put_front-digest.new.out ++ (c.put_entries.new.out ++ c.put_data.new.out) ≡ container_spelling c.args.id v.kind v.segments) c.self.view_is
    (container_written c.args.id c.self.inside.kind es bytes c.put_front-digest.new.out c.put_entries.new.out c.put_data.new.out (take (48 * length es) c.put_entries.new.out)
    c.self.invariant.exact c.self.invariant.whole c.self.invariant.allowed entries refl front rest)

pub returns-clause-header : goal.returns-clause-header
returns-clause-header c =
    let es : List Entry = c.self.inside.entries.items in
    let bytes : List ℕ = c.self.inside.bytes.items in
    let many : length c.args.self.now.segments ≡ length es = ap (λ (v : Contents). length v.segments) (sym c.self.view_is) ∙ length-segments_in es bytes in
    let allowed : IsHeader (header_of c.args.id c.args.self.now.kind c.args.self.now.segments) =
    subst (λ (v : Contents). IsHeader (header_of c.args.id v.kind v.segments)) c.self.view_is
    (header_allowed c.args.id c.self.inside.kind es bytes c.requires.id c.self.invariant.exact c.self.invariant.whole c.self.invariant.allowed
    (omega (arith, many, c.requires.there)) (omega (arith, c.self.invariant.few, c.self.inside.entries.ok.0)) (omega (arith, c.self.invariant.fits, c.self.inside.bytes.ok.0))) in
    subst (λ (l : List ℕ). IsSpelled (header_of c.args.id c.args.self.now.kind c.args.self.now.segments) l) (sym (returns-clause-image c))
    (header-container_spelling c.args.id c.args.self.now.kind c.args.self.now.segments allowed)

pub returns-clause-digest : goal.returns-clause-digest
returns-clause-digest c =
    let es : List Entry = c.self.inside.entries.items in
    let bytes : List ℕ = c.self.inside.bytes.items in
    let cut : c.put_front-digest.result ≡ sha256 (fields_spelling c.args.id c.self.inside.kind c.len.result c.len-2.result ++ take (48 * c.len-3.result) c.put_entries.new.out) =
    c.put_front-digest.ensures.digest in
    let count : c.len.result ≡ length es = c.len.ensures ∙ c.self.inside.entries.ok.0 in
    let held : c.len-2.result ≡ length bytes = c.len-2.ensures ∙ c.self.inside.bytes.ok.0 in
    let many : c.len-3.result ≡ length es = c.len-3.ensures ∙ c.self.inside.entries.ok.0 in
    let spelled = λ (l : List Entry). entries_spelling l ++ zeros (49152 - 48 * length l) in
    let entries : c.put_entries.new.out ≡ spelled es = c.put_entries.ensures ∙ ap spelled c.deref.ensures.value in
    let front : c.put_front-digest.result ≡ sha256 (fields_spelling c.args.id c.self.inside.kind (length es) (length bytes) ++ take (48 * length es) c.put_entries.new.out) =
    cut
    ∙ ap (λ (n : ℕ). sha256 (fields_spelling c.args.id c.self.inside.kind n c.len-2.result ++ take (48 * c.len-3.result) c.put_entries.new.out)) count
    ∙ ap (λ (n : ℕ). sha256 (fields_spelling c.args.id c.self.inside.kind (length es) n ++ take (48 * c.len-3.result) c.put_entries.new.out)) held
    ∙ ap (λ (n : ℕ). sha256 (fields_spelling c.args.id c.self.inside.kind (length es) (length bytes) ++ take (48 * n) c.put_entries.new.out)) many in
    subst (λ (v : Contents). c.put_front-digest.result ≡ header_digest (header_of c.args.id v.kind v.segments)) c.self.view_is
    (digest_written c.args.id c.self.inside.kind es bytes c.put_front-digest.result c.put_entries.new.out c.self.invariant.exact c.self.invariant.whole c.self.invariant.allowed
    entries front)

pub returns-clause-stored : goal.returns-clause-stored
returns-clause-stored c = subst (λ (l : List ℕ). StandFrom 0 c.args.self.now.segments l) (sym (returns-clause-image c))
    (stand_in_spelling c.args.id c.args.self.now.kind c.args.self.now.segments (returns-clause-header c).0)

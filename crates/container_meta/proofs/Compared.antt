-- Whether a segment is another one, by level, digest and bytes.
use Rattle.container_meta.proofs.Prelude.{◌≡◌, false, ap, sym, ◌∙◌, eq-eqb, inl, inr, ne_eqb, bytes_eq-Decides, ◌==◌, bytes_eq, sha256, both, Segment, is_segment}
use Rattle.std.proofs.Common.{◌≢◌}
use Rattle.std.proofs.lemmas.Bool.{cases_Bool}
use Rattle.base_model.proofs.Checks.{unequal}
use Rattle.container_meta.proofs.Packing.{chosen_by, refused_by}

-- of one level, they are one where their bytes are
pub same_level : (s t : Segment) → s.level ≡ t.level → bytes_eq s.bytes t.bytes ≡ is_segment t s
same_level s t same = chosen_by (s.level == t.level) (bytes_eq s.bytes t.bytes) (eq-eqb s.level t.level same)

pub other_level : (s t : Segment) → s.level ≢ t.level → false ≡ is_segment t s
other_level s t other = sym (ne_eqb s.level t.level other) ∙ refused_by (s.level == t.level) (bytes_eq s.bytes t.bytes) (ne_eqb s.level t.level other)

-- bytes of different digests differ
pub other_digest : (s t : Segment) → bytes_eq (sha256 s.bytes) (sha256 t.bytes) ≡ false → false ≡ is_segment t s
other_digest s t other =
    elim (cases_Bool (is_segment t s)) [
      | inl is ↦ absurd (unequal (sha256 s.bytes) (sha256 t.bytes) other
          (ap sha256 ((bytes_eq-Decides s.bytes t.bytes).0 (both (s.level == t.level) (bytes_eq s.bytes t.bytes) is).1)))
      | inr isnt ↦ sym isnt
    ]

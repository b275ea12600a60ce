use Rattle.ingest_steps.proofs.Prelude.{◌≡◌, ◌<◌, ℕ, Some, Contents, length, get_or, header_of}
use Rattle.std.proofs.Common.{true, slice_get}
use Rattle.container_meta.specs.Format.{is_id}
use Rattle.container_meta.specs.Segments.{bytes_in}
use Rattle.container_meta.specs.Spelling.{IsHeader}
use Rattle.ingest_steps.proofs.sealing_all.data_sizes.Given as goal

abbrev pub invariant-loop-i : goal.invariant-loop-i
invariant-loop-i l =
    (length l.sizes.items ≡ l.i)
    × ((j : ℕ) (c : Contents) → j < l.i → slice_get l.filled j ≡ Some c
    → (get_or l.sizes.items j 0 ≡ bytes_in c.segments) × ((id : ℕ) → is_id id ≡ true → IsHeader (header_of id c.kind c.segments)))

-- What an answer, and a container that is set aside, leave as it is of a session.
use Rattle.std.proofs.Common.{◌≡◌, ◌∙◌, ℕ, Bool, true, false, if◌then◌else◌, Option, Some, None, refl}
use Rattle.container_meta.specs.declared.kind.Kind.{Kind}
use Rattle.container_meta.specs.declared.kind.Kind.TheVariants.{Leaf, Tree}
use Rattle.container_meta.specs.Segments.{Contents}
use Rattle.merkle_file.specs.Node as node
use Rattle.actor_parts.specs.declared.step.Answer.{Answer}
use Rattle.actor_parts.specs.declared.step.Answer.TheVariants as answers
use Rattle.ingest_session.specs.declared.due.Due.{Due}
use Rattle.ingest_session.specs.declared.due.Due.TheVariants.{Claim, Seal, Nothing}
use Rattle.ingest_session.specs.Due.{due_in, item_kind}
use Rattle.ingest_session.specs.Items.{fits}
use Rattle.ingest_session.specs.State.{SessionState, turn_node}
use Rattle.ingest_session.specs.Told.{absent_item, added_item, emptied, placed_item, put_aside, sealed_by, set_aside, told_by, with_open}

-- whether the file has ended, how many bytes were taken, and how many segments may wait, are as before
pub record Stays (s t : SessionState) : Type 0 where
  pub ended : t.ended ≡ s.ended
  pub count : t.count ≡ s.count
  pub most : t.most ≡ s.most

pub stays : (s : SessionState) → Stays s s
stays s = record { ended = refl; count = refl; most = refl }

pub after : (s t u : SessionState) → Stays s t → Stays t u → Stays s u
after s t u one two = record { ended = two.ended ∙ one.ended; count = two.count ∙ one.count; most = two.most ∙ one.most }

placed : (more : ℕ) (n : Option node.Contents) (s : SessionState) → Stays s (placed_item more n s)
placed more None s = record { ended = refl; count = refl; most = refl }
placed more (Some n) s = record { ended = refl; count = refl; most = refl }

opened : (kind : Kind) (filled : Contents) (s : SessionState) → Stays s (with_open kind filled s)
opened Leaf filled s = record { ended = refl; count = refl; most = refl }
opened Tree filled s = record { ended = refl; count = refl; most = refl }

absent : (more : ℕ) (s : SessionState) (fit : Bool) → Stays s (if fit then placed_item more (turn_node s) (added_item s) else record s { waits = true })
absent more s true =
    after s (added_item s) (placed_item more (turn_node s) (added_item s)) (opened (item_kind (turn_node s)) _ s) (placed more (turn_node s) (added_item s))
absent more s false = record { ended = refl; count = refl; most = refl }

resumes : (more : ℕ) (s : SessionState) (waits : Bool) → Stays s (if waits then absent_item more (record s { waits = false }) else s)
resumes more s true =
    let t : SessionState = record s { waits = false } in
    let on = absent more t (fits t) in record { ended = on.ended; count = on.count; most = on.most }
resumes more s false = stays s

pub set_apart : (s : SessionState) → Stays s (set_aside s)
set_apart s = let on = resumes 1 (put_aside s) s.waits in record { ended = on.ended; count = on.count; most = on.most }

by_seal : (count : ℕ) (due : Due) (s : SessionState) → Stays s (sealed_by count due s)
by_seal count (Seal Leaf) s = record { ended = refl; count = refl; most = refl }
by_seal count (Seal Tree) s = let on = resumes 0 (emptied s) s.waits in record { ended = on.ended; count = on.count; most = on.most }
by_seal count Claim s = stays s
by_seal count Nothing s = stays s

pub told : (answer : Answer) (s : SessionState) → Stays s (told_by answer s)
told answers.Held s = placed 0 (turn_node s) s
told answers.Absent s = absent 0 s (fits s)
told (answers.Sealed id count) s = by_seal count (due_in s) s
told answer s = stays s

-- Steps that change the part of one actor alone, and bring no root.
use Rattle.store_core.proofs.Prelude.{◌≡◌, ℕ, zero, suc, ◌<◌, List, [], ◌∷◌, length, Some, Result, Ok, Err, refl, sym, ◌∙◌, subst, arith, ACTORS, Part, Idle, Writing, Reader, Answer, Top, Named, NameMap, Refusal, IsRoot, AbortRow, BeginRow, EndRow, ListRow, OpenRow, ReadRow, StatRow, UniqueRow, CoreState}
use Rattle.std.specs.FinMap as finite
use Rattle.actor_parts.specs.declared.step.Answer.TheVariants as answers
use Rattle.actor_parts.specs.Parts.{part_of, with_part}
use Rattle.read_steps.specs.Readers as readers
use Rattle.refusals.specs.declared.refusal.Refusal.TheVariants as refusals
use Rattle.gc_steps.proofs.RootsAfter.{begun_root, idle_root, opened_root, reading_root}

-- an actor that is at something is one that there is
pub within_parts : (parts : List Part) (actor : ℕ) → (part_of parts actor ≡ Idle → ⊥) → actor < length parts
unfolding part_of
within_parts [] actor some = absurd (some refl)
within_parts (p ∷ ps) zero some = omega arith
within_parts (p ∷ ps) (suc actor) some = let rest = within_parts ps actor some in omega (arith, rest)

module _ (names : NameMap) (old new : CoreState) (actor : ℕ) (buf : List ℕ) (names_are : old.tables.names ≡ names) (many : length old.parts ≡ ACTORS) where
  -- each root after it is one of before
  abbrev pub BringsNone : Type 0
  BringsNone = (key : List ℕ) → IsRoot names new.parts key → IsRoot names old.parts key

  by_parts : (parts : List Part) → new.parts ≡ parts → ((key : List ℕ) → IsRoot names parts key → IsRoot names old.parts key) → BringsNone
  by_parts parts is fewer key root = fewer key (subst (λ (p : List Part). IsRoot names p key) is root)

  pub none_same : new.parts ≡ old.parts → BringsNone
  none_same is = by_parts old.parts is (λ key root. root)

  pub begin_none : (answer : Result Answer Refusal) → BeginRow actor answer old new → BringsNone
  begin_none (Ok answers.Begun) row = by_parts (with_part old.parts actor (Writing finite.empty)) row.1 (begun_root names old.parts actor)
  begin_none (Err refusal) row = none_same row.1
  begin_none answer row = absurd row

  pub abort_none : (answer : Result Answer Refusal) → AbortRow actor answer old new → BringsNone
  abort_none (Ok answers.Aborted) row = by_parts (with_part old.parts actor Idle) row.1 (idle_root names old.parts actor)
  abort_none (Err refusal) row = none_same row.1
  abort_none answer row = absurd row

  pub open_none : (name : List ℕ) (answer : Result Answer Refusal) → OpenRow name actor answer old new → BringsNone
  open_none name (Ok (answers.Opened count)) row =
      let opens = row.opens in
      let reader : Reader = record { root = opens.root; cursor = opens.ahead } in
      let named : Named = record { sequence = opens.begins.has_root.sequence; root = opens.root } in
      let found : finite.get names name ≡ Some named = subst (λ (n : NameMap). finite.get n name ≡ Some named) names_are opens.begins.has_root.found in
      by_parts (with_part old.parts actor (readers.reading opens.root opens.ahead)) opens.parts_are (opened_root names old.parts actor reader name named found refl)
  open_none name (Err refusal) row = none_same row.1
  open_none name answer row = absurd row

  goes_none : (before after : List Top) → readers.GoesOn actor old.parts new.parts before after → BringsNone
  goes_none before after goes =
      let within = within_parts old.parts actor (λ idle. (let wrong = sym goes.part_is ∙ idle in cc)) in
      by_parts (with_part old.parts actor (readers.reading goes.root after)) goes.parts_are
      (reading_root names old.parts actor (record { root = goes.root; cursor = before }) (record { root = goes.root; cursor = after })
      (omega (arith, within, many)) goes.part_is refl)

  stuck_none : (refusal : Refusal) → readers.IsReadRefusal old.known old.breaks old.disk new.disk actor old.parts new.parts refusal → BringsNone
  stuck_none (refusals.WrongPart kind) cause = none_same cause.same
  stuck_none refusal cause = goes_none cause.was cause.rest cause.goes_on

  pub read_none : (answer : Result Answer Refusal) → ReadRow actor answer buf old new → BringsNone
  read_none (Ok (answers.Bytes count)) row = goes_none row.next.was row.next.rest row.next.goes_on
  read_none (Ok answers.End) row = goes_none row.next.was row.next.rest row.next.goes_on
  read_none (Err refusal) row = stuck_none refusal row.cause
  read_none answer row = absurd row

  pub end_none : (answer : Result Answer Refusal) → EndRow actor answer old new → BringsNone
  end_none (Ok answers.Dropped) row = by_parts (with_part old.parts actor Idle) row.parts_are (idle_root names old.parts actor)
  end_none (Err (refusals.WrongPart kind)) row = none_same row.same
  end_none answer row = absurd row

  pub stat_none : (answer : Result Answer Refusal) → StatRow answer old new → BringsNone
  stat_none (Ok answer) row = none_same row.1
  stat_none (Err refusal) row = absurd row

  pub unique_none : (answer : Result Answer Refusal) → UniqueRow answer old new → BringsNone
  unique_none (Ok (answers.Unique segments bytes)) row = none_same row.parts_are
  unique_none (Err refusal) row = none_same row.parts_are
  unique_none answer row = absurd row

  pub list_none : (answer : Result Answer Refusal) → ListRow answer old new → BringsNone
  list_none (Ok (answers.Listed listed)) row = none_same row.1
  list_none (Err refusals.Memory) row = none_same row
  list_none answer row = absurd row

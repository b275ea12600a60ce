-- The steps of an actor that takes a file.
use Rattle.std.proofs.Common.{◌≡◌, ℕ, List, [], ◌∷◌, Option, Result, IfOk, IfErr, sym, ◌∙◌, ap, subst}
use Rattle.base_model.proofs.Outcome.{map_ok, map_err}
use Rattle.dd_disk.specs.View.{DiskView}
use Rattle.disk_format.specs.Cells.{Root}
use Rattle.disk_format.specs.declared.why.Why.{Why}
use Rattle.container_meta.specs.Places.{PlaceMap}
use Rattle.container_meta.specs.Spelling.{HeaderValue}
use Rattle.merkle_file.specs.declared.top.Top.{Top}
use Rattle.refusals.specs.declared.refusal.PartKind.{PartKind}
use Rattle.refusals.specs.declared.refusal.PartKind.TheVariants as kinds
use Rattle.refusals.specs.declared.refusal.Refusal.{Refusal}
use Rattle.refusals.specs.declared.refusal.Refusal.TheVariants.{WrongPart}
use Rattle.actor_parts.specs.declared.part.Part.{Part}
use Rattle.actor_parts.specs.declared.part.Part.TheVariants.{Idle, Writing, Reading}
use Rattle.actor_parts.specs.PinMap.{PinMap}
use Rattle.actor_parts.specs.Kinds.{kind_of}
use Rattle.actor_parts.specs.Parts.{part_of, with_part}
use Rattle.actor_parts.proofs.Apart.{apart}
use Rattle.store_model.specs.Collisions.{ByteSet}
use Rattle.read_steps.specs.Walking.{WasRead, IsAnswer, IsNextRefusal, IsWalkRefusal, SegmentsAhead, IsHeldAnswer}
use Rattle.read_steps.specs.Readers.{reading, IsReading, GoesOn, GivesNext, IsNoReader, IsReadRefusal, GivesHeld}

-- ---- it is read on

pub goes_on : (actor : ℕ) (old mid new : List Part) (root : Root) (before after : List Top) (taken : Part) → taken ≡ part_of old actor → taken ≡ reading root before →
    mid ≡ with_part old actor Idle
    → new ≡ with_part mid actor (reading root after) → GoesOn actor old new before after
goes_on actor old mid new root before after taken is read left set = record {
  root = root;
  part_is = sym is ∙ read;
  parts_are = set ∙ ap (λ (parts : List Part). with_part parts actor (reading root after)) left ∙ apart.replaced old actor Idle (reading root after);
}

pub next_given : (known : Option PlaceMap) (old new : DiskView) (actor : ℕ) (parts then_parts : List Part) (was rest : List Top) (buf whole : List ℕ)
    (result : Result (Option ℕ) Refusal) → GoesOn actor parts then_parts was rest
    → whole ≡ buf → IfOk result (IsAnswer (WasRead known old new) was rest buf) → IfOk result (GivesNext known old new actor parts then_parts whole)
next_given known old new actor parts then_parts was rest buf whole result on same =
    map_ok result (IsAnswer (WasRead known old new) was rest buf) (GivesNext known old new actor parts then_parts whole)
    (λ answer is. record { was = was; rest = rest; goes_on = on; given = subst (λ (bytes : List ℕ). IsAnswer (WasRead known old new) was rest bytes answer) (sym same) is })

no_part : (known : Option PlaceMap) (breaks : ℕ → Why → List ℕ → Type 0) (old new : DiskView) (ahead : List Top) (kind : PartKind) →
    IsNextRefusal known breaks old new ahead (WrongPart kind) → ⊥
no_part known breaks old new [] kind cause = cause
no_part known breaks old new (t ∷ ts) kind cause = cause

stuck : (known : Option PlaceMap) (breaks : ℕ → Why → List ℕ → Type 0) (old new : DiskView) (actor : ℕ) (parts then_parts : List Part) (was rest : List Top) →
    GoesOn actor parts then_parts was rest → (refusal : Refusal)
    → IsWalkRefusal known breaks old new was rest refusal → IsReadRefusal known breaks old new actor parts then_parts refusal
stuck known breaks old new actor parts then_parts was rest on (WrongPart kind) refused = absurd (no_part known breaks old new rest kind refused.cause)
stuck known breaks old new actor parts then_parts was rest on refusal refused = record { was = was; rest = rest; goes_on = on; refused = refused }

pub next_refused : (known : Option PlaceMap) (breaks : ℕ → Why → List ℕ → Type 0) (old new : DiskView) (actor : ℕ) (parts then_parts : List Part) (was rest : List Top)
    (result : Result (Option ℕ) Refusal)
    → GoesOn actor parts then_parts was rest → IfErr result (IsWalkRefusal known breaks old new was rest) → IfErr result (IsReadRefusal known breaks old new actor parts then_parts)
next_refused known breaks old new actor parts then_parts was rest result on =
    map_err result (IsWalkRefusal known breaks old new was rest) (IsReadRefusal known breaks old new actor parts then_parts)
    (stuck known breaks old new actor parts then_parts was rest on)

-- what is to come for an actor that takes a file
ahead_of : Part → List Top
ahead_of (Reading reader) = reader.cursor
ahead_of part = []

same_ahead : (part : Part) (one other : Root) (a b : List Top) → part ≡ reading one a → part ≡ reading other b → a ≡ b
unfolding ahead_of
same_ahead part one other a b first second = ap ahead_of (sym first ∙ second)

pub held_given : (counts : ByteSet) (held : List (Option HeaderValue)) (image : List ℕ) (actor : ℕ) (parts then_parts : List Part) (was rest : List Top) (buf whole : List ℕ)
    (segments : List (List ℕ)) (result : Result (Option ℕ) Refusal)
    → GoesOn actor parts then_parts was rest → whole ≡ buf → (SegmentsAhead counts held image was segments → IsHeldAnswer counts held image rest segments buf result)
    → (root : Root) (ahead : List Top) → part_of parts actor ≡ reading root ahead → SegmentsAhead counts held image ahead segments →
    GivesHeld counts held image (GoesOn actor parts then_parts ahead) segments whole result
held_given counts held image actor parts then_parts was rest buf whole segments result on same given root ahead is segs =
    let so : was ≡ ahead = same_ahead (part_of parts actor) on.root root was ahead on.part_is is in
    record {
      rest = rest;
      goes_on = subst (λ (tops : List Top). GoesOn actor parts then_parts tops rest) so on;
      given = subst (λ (bytes : List ℕ). IsHeldAnswer counts held image rest segments bytes result) (sym same)
          (given (subst (λ (tops : List Top). SegmentsAhead counts held image tops segments) (sym so) segs));
    }

-- ---- the part is another

pub idle_refused : (actor : ℕ) (old new : List Part) (taken : Part) → taken ≡ part_of old actor → taken ≡ Idle → new ≡ with_part old actor Idle →
    IsNoReader actor old new kinds.Idle
idle_refused actor old new taken is idle left = record {
  differs = λ reads. subst IsReading (sym is ∙ idle) reads;
  kind_is = ap kind_of (sym idle ∙ is);
  same = left ∙ ap (with_part old actor) (sym idle ∙ is) ∙ apart.unchanged old actor;
}

pub writing_refused : (actor : ℕ) (old mid new : List Part) (taken : Part) (pins : PinMap) → taken ≡ part_of old actor → taken ≡ Writing pins → mid ≡ with_part old actor Idle →
    new ≡ with_part mid actor (Writing pins)
    → IsNoReader actor old new kinds.Writing
writing_refused actor old mid new taken pins is writing left set = record {
  differs = λ reads. subst IsReading (sym is ∙ writing) reads;
  kind_is = ap kind_of (sym writing ∙ is);
  same = set ∙ ap (λ (parts : List Part). with_part parts actor (Writing pins)) left ∙ apart.replaced old actor Idle (Writing pins)
      ∙ ap (with_part old actor) (sym writing ∙ is) ∙ apart.unchanged old actor;
}

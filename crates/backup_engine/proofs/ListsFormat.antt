-- A `format` of a disk that has a store which can be opened, however many slots are closed: it is not done, and changes nothing.
use Rattle.backup_engine.proofs.Prelude.{◌≡◌, inl, inr, ℕ, List, Option, Some, None, refl, sym, ◌∙◌, ap, subst, arith, byte_at, FORMAT_GATE, DiskView, shown_content, formatted_line, SourceView, SinkView, Words, Sink, Script, Refused, OpensAs, Stored, Store, Encodes, Formats, IsCaused, Format, SinceStart, WroteReply, Keeps, Call}
use Rattle.base_model.proofs.Ranges.{byte-range}
use Rattle.disk_format.specs.Cells.{format_cell, sealed}
use Rattle.reply_text.specs.declared.ending.Ending.{Ending}
use Rattle.reply_text.specs.declared.ending.Ending.TheVariants.{Source, Line}
use Rattle.backup_engine.specs.Lists.{FormatsNothing}
use Rattle.backup_engine.proofs.Reading.{since_began}
use Rattle.backup_engine.specs.Seen.{devices}

gate_of_format : (slots : ℕ) → byte_at 0 (format_cell slots) ≡ FORMAT_GATE
unfolding sealed
gate_of_format slots = refl

-- the gate of a store is open
gate_open : (image : List ℕ) (store : Store) → Encodes image store → byte_at 0 image ≡ FORMAT_GATE
gate_open image store right = sym (byte-range 0 0 512 image (omega arith)) ∙ ap (byte_at 0) right.format ∙ gate_of_format store.slots

-- what was not done has no reply
unwritten : (slots : ℕ) (ending : Option Ending) (v w : DiskView) (sink sink_now : SinkView) → (e : Ending) × (ending ≡ Some e) × ¬ (e ≡ Sink)
    → WroteReply (formatted_line slots) ending sink sink_now → sink_now.written ≡ sink.written
unwritten slots None v w sink sink_now (e, is, other) wrote = absurd (let no : None ≡ Some e = is in cc)
unwritten slots (Some Sink) v w sink sink_now (e, is, other) wrote = absurd (other (let same : e ≡ Sink = cc in same))
unwritten slots (Some ending) v w sink sink_now not_done wrote = wrote

module _ (slots : ℕ) (given : List ℕ) (v w : DiskView) (source source_now : SourceView) (sink sink_now : SinkView) (old : List ℕ) (known : v.content ≡ Some old)
    (gate : byte_at 0 old ≡ FORMAT_GATE) where
  -- one that was done found no store
  formats_none : Formats slots v w → ⊥
  formats_none formats = shown_content v w _ old formats.closed known gate

  not_done : (ending : Option Ending) → IsCaused (Format slots) given (devices v w source source_now sink sink_now) ending → (e : Ending) × (ending ≡ Some e) × ¬ (e ≡ Sink)
  not_done None caused = absurd (formats_none caused)
  not_done (Some Sink) caused = absurd (formats_none caused.0)
  not_done (Some Words) caused = (Words, refl, λ is. cc)
  not_done (Some Source) caused = (Source, refl, λ is. cc)
  not_done (Some (Line number)) caused = (Line number, refl, λ is. cc)
  not_done (Some Script) caused = (Script, refl, λ is. cc)
  not_done (Some (Refused refusal)) caused = (Refused refusal, refl, λ is. cc)

  module _ (ending : Option Ending) (keeps : Keeps (Format slots) given ending (devices v w source source_now sink sink_now)) where
    content_stays : w.content ≡ v.content
    content_stays = let there = keeps.frame.content old known in there.1 ∙ ap (λ (b : List ℕ). Some b) (there.2 gate) ∙ sym known

    images_stay : (c : List ℕ) → SinceStart v w c → v.images c
    images_stay c since = elim (since_began _ v w (keeps.frame.crash old known) c since) [
      | inl was ↦ was
      | inr rest ↦ subst (λ (b : List ℕ). v.images b) (sym (rest gate)) (v.as_read old known)
    ]

pub formats_nothing : (S : List ℕ → Type 0) (slots : ℕ) (c : Call) (m : Stored) (v w : DiskView) (image : List ℕ) → v.content ≡ Some image → OpensAs S m image
    → Keeps (Format slots) c.given c.ending (devices v w c.source c.source_now c.sink c.sink_now) → FormatsNothing c v w
formats_nothing S slots c m v w image told opens keeps =
    let gate = gate_open image opens.store opens.stands.holds.right in
    let not = not_done slots c.given v w c.source c.source_now c.sink c.sink_now image told gate c.ending keeps.any.caused in
    record {
      not_done = not;
      content = content_stays slots c.given v w c.source c.source_now c.sink c.sink_now image told gate c.ending keeps;
      images = images_stay slots c.given v w c.source c.source_now c.sink c.sink_now image told gate c.ending keeps;
      wrote = unwritten slots c.ending v w c.sink c.sink_now not keeps.any.wrote;
    }

-- What `format` keeps: all of a disk that has a store. Of one that has none it says itself what it leaves.
use Rattle.backup_engine.proofs.Prelude.{◌≡◌, ◌⊎◌, inl, inr, ℕ, ◌==◌, Bool, true, false, List, [], Option, Some, None, refl, sym, ◌∙◌, arith, eqb-true, byte_at, Known, KnownWith, FORMAT_GATE, DiskView, OnlyReads, CrashLeaves, IsDurable, CountsFault, ending_of, Shows, SourceView, SinkView, Refusal, Memory, DiskRead, DiskWrite, Sink, Refused, formatted_line, blames, IsFormatRefusal, Formats, IsCaused, EndsDurable, disk_ending, KeepsRest, KeepsOthers, Format, LeavesMeanwhile, WroteReply, SinceStart, Keeps, IsLeftBlank, IsUntouched}
use Rattle.std.proofs.lemmas.Bool.{eqb-false}
use Rattle.dd_disk.specs.Ending.{Done}
use Rattle.dd_disk.specs.Moves.{Acts}
use Rattle.reply_text.specs.declared.ending.Ending.{Ending}
use Rattle.recovery.specs.Formatting.{IsLeftByFormat, IsBlankOrFormatted}
use Rattle.backup_engine.proofs.Replied.{IsReplied, replied_faults}
use Rattle.backup_engine.proofs.Reading.{reads_leave}
use Rattle.backup_engine.specs.Seen.{devices}

-- ---- refused

module _ (slots : ℕ) (v w : DiskView) where
  abbrev shown : (List ℕ → Type 0) → Type 0
  shown = Shows v w

  -- ---- a disk with a store, and one without

  abbrev ReadsAStore : Type 0
  ReadsAStore = Known v.content (λ image. byte_at 0 image ≡ FORMAT_GATE → OnlyReads v w)

  one_content : OnlyReads v w → (old now : List ℕ) → v.content ≡ Some old → w.content ≡ Some now → now ≡ old
  one_content reads old now known told = let same : Some now ≡ Some old = sym told ∙ reads.content_is ∙ known in cc

  by_gate : (ending : Option Ending) → ReadsAStore → (old : List ℕ) → v.content ≡ Some old → (stands : Bool) → byte_at 0 old == FORMAT_GATE ≡ stands →
      LeavesMeanwhile (KeepsRest (Format slots) ending old) v w
  by_gate ending store old known true is = reads_leave v w (store old known (eqb-true (byte_at 0 old) FORMAT_GATE is)) _
  by_gate ending store old known false is = record {
    now = λ c image. inr (λ gate. absurd (eqb-false (byte_at 0 old) FORMAT_GATE is gate));
    since = λ t c within below image. inr (λ gate. absurd (eqb-false (byte_at 0 old) FORMAT_GATE is gate));
  }

  frame : (ending : Option Ending) → ReadsAStore → Known v.content (λ image. KnownWith w.content (IsLeftByFormat slots image)) → KeepsOthers (Format slots) ending v w
  frame ending store left = record {
    content = λ old known.
        let there = left old known in
        (there.0, there.1, λ gate. one_content (store old known gate) old there.0 known there.1);
    crash = λ old known. by_gate ending store old known (byte_at 0 old == FORMAT_GATE) refl;
  }

  abbrev IsLeft : Type 0
  IsLeft = Known v.content (λ image. KnownWith w.content (IsLeftByFormat slots image))

  abbrev Crashes : Type 0
  Crashes = Known v.content (λ _. CrashLeaves (λ c. v.images c ⊎ IsBlankOrFormatted slots c) v w)

  since_blank : CrashLeaves (λ c. v.images c ⊎ IsBlankOrFormatted slots c) v w → (c : List ℕ) → SinceStart v w c → v.images c ⊎ IsBlankOrFormatted slots c
  since_blank leaves c (inl now) = leaves.now c now
  since_blank leaves c (inr since) =
      elim (leaves.since v.clock c (omega arith) since.1) [ inl earlier ↦ inl (v.only_now c since.0 earlier) | inr here ↦ here ]

  blank : IsLeft → Crashes → IsLeftBlank (Format slots) v w
  blank left crash old known = (left old known, since_blank (crash old known))

  untouched : (refusal : Refusal) → Acts (ending_of (blames refusal)) v w → IsUntouched (Format slots) (Some (Refused refusal)) v w
  untouched DiskWrite acts = tt
  untouched DiskRead acts = (acts.ends.content_is, λ old known. acts.ends.images_are)
  untouched refusal acts = (acts.ends.content_is, λ old known. acts.ends.images_are)

  -- ---- all of it

  caused : (refusal : Refusal) (source : SourceView) (sink : SinkView) → IsFormatRefusal shown v.size slots refusal →
      IsCaused (Format slots) [] (devices v w source source sink sink) (Some (Refused refusal))
  caused Memory source sink wrong = tt
  caused refusal source sink wrong = wrong

  done_caused : (ending : Option Ending) (source : SourceView) (sink sink_now : SinkView) → IsReplied ending sink sink_now → Formats slots v w
      → IsCaused (Format slots) [] (devices v w source source sink sink_now) ending
  done_caused None source sink sink_now replied formats = formats
  done_caused (Some Sink) source sink sink_now replied formats = (formats, replied)
  done_caused (Some ending) source sink sink_now replied formats = absurd replied

  done_faults : (ending : Option Ending) (sink sink_now : SinkView) → IsReplied ending sink sink_now → Acts Done v w → CountsFault (disk_ending ending) v.faults w.faults
  done_faults None sink sink_now replied acts = acts.faults_are
  done_faults (Some Sink) sink sink_now replied acts = acts.faults_are
  done_faults (Some ending) sink sink_now replied acts = absurd replied

  done_durable : (ending : Option Ending) (sink sink_now : SinkView) → IsReplied ending sink sink_now → IsDurable w → EndsDurable (Format slots) ending w
  done_durable None sink sink_now replied durable = durable
  done_durable (Some Sink) sink sink_now replied durable = durable
  done_durable (Some ending) sink sink_now replied durable = absurd replied

  done_untouched : (ending : Option Ending) (sink sink_now : SinkView) → IsReplied ending sink sink_now → IsUntouched (Format slots) ending v w
  done_untouched None sink sink_now replied = tt
  done_untouched (Some Sink) sink sink_now replied = tt
  done_untouched (Some ending) sink sink_now replied = absurd replied

  module _ (acts_left : IsLeft) (crash : Crashes) (store : ReadsAStore) (source : SourceView) where
    pub refused_keeps : (refusal : Refusal) (sink : SinkView) → IsFormatRefusal shown v.size slots refusal → Acts (ending_of (blames refusal)) v w
        → Keeps (Format slots) [] (Some (Refused refusal)) (devices v w source source sink sink)
    refused_keeps refusal sink wrong acts = record {
      any = record {
        took = (refl, refl);
        caused = caused refusal source sink wrong;
        wrote = refl;
        faults_are = acts.faults_are;
        durable = tt;
        source_faults = λ other. refl;
        sink_faults = λ other. refl;
      };
      frame = frame (Some (Refused refusal)) store acts_left;
      found = tt;
      blank = blank acts_left crash;
      untouched = untouched refusal acts;
    }

    -- it was done, and its reply was written, or not
    pub done_keeps : (ending : Option Ending) (sink sink_now : SinkView) → IsReplied ending sink sink_now → Formats slots v w → IsDurable w → Acts Done v w →
        WroteReply (formatted_line slots) ending sink sink_now
        → Keeps (Format slots) [] ending (devices v w source source sink sink_now)
    done_keeps ending sink sink_now replied formats durable acts wrote = record {
      any = record {
        took = (refl, refl);
        caused = done_caused ending source sink sink_now replied formats;
        wrote = wrote;
        faults_are = done_faults ending sink sink_now replied acts;
        durable = done_durable ending sink sink_now replied durable;
        source_faults = λ other. refl;
        sink_faults = replied_faults ending sink sink_now replied;
      };
      frame = frame ending store acts_left;
      found = tt;
      blank = blank acts_left crash;
      untouched = done_untouched ending sink sink_now replied;
    }

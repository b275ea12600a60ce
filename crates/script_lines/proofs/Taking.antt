-- Bytes of a script are taken one after the other.
use Rattle.std.proofs.Common.{◌≡◌, ℕ, ◌+◌, ◌<◌, ◌≤◌, inl, inr, List, [], ◌∷◌, ◌++◌, length, take, drop, get_or, Option, Some, Result, Ok, Err, OnErr, refl, sym, ◌∙◌, ap, subst, arith}
use Rattle.std.proofs.lemmas.Bool.{cases_lt, or_from, ne_eqb}
use Rattle.std.proofs.lemmas.List.{append_assoc, append-nil, length-append, length-take, length-take-le, take-append-drop, drop-drop, drop_more, get_or-take, nil_from_length}
use Rattle.std.proofs.Math.ListN.{drop_of_length-le}
use Rattle.base_model.specs.Known.{Known}
use Rattle.dd_io.specs.Flow.{Takes}
use Rattle.script_lines.specs.declared.script.TheConstants.{MOST_LINE, MOST_SCRIPT}
use Rattle.script_lines.specs.declared.reader.NextLine.{NextLine}
use Rattle.script_lines.specs.declared.reader.NextLine.TheVariants.{End, Wrong}
use Rattle.script_lines.specs.Script.{HasNoLineEnd, ended}
use Rattle.script_lines.specs.Reader.{ReaderState, to_come, TakesOff, IsOut, IsPart, IsInLine, IsEnd, IsWrong, IsTooMany, IsNext, IsTold}
use Rattle.script_lines.proofs.Deciding.{none_append}

-- what holds anyway holds after an Err
pub on_err : {T E : Type 0} (result : Result T E) (P : Type 0) → P → OnErr result P
on_err (Ok x) P holds = tt
on_err (Err e) P holds = holds

-- ---- the bytes of a piece that are not taken yet

pub none_ready : (piece : List ℕ) (at end : ℕ) → end ≤ at → drop at (take end piece) ≡ []
none_ready piece at end out = drop_of_length-le (take end piece) (omega (arith, out, length-take end piece))

pub first_ready : (piece : List ℕ) (at end : ℕ) → at < end → end ≤ length piece → drop at (take end piece) ≡ get_or piece at 0 ∷ drop (at + 1) (take end piece)
first_ready piece at end some within =
    drop_more (take end piece) at 0 (omega (arith, some, within, length-take end piece)) ∙ ap (λ (b : ℕ). b ∷ drop (at + 1) (take end piece)) (get_or-take end piece at 0 some)

abbrev stepped : List ℕ → List ℕ → ℕ → ReaderState
stepped ready line taken = record { ready = ready; line = line; taken = taken }

pub passed : (old : ReaderState) (piece line : List ℕ) (at end taken : ℕ) → stepped (drop at (take end piece)) line taken ≡ old →
    stepped (drop (at + 1) (take end piece)) line (taken + 1) ≡ stepped (drop 1 old.ready) old.line (old.taken + 1)
passed old piece line at end taken is =
    let Was : ReaderState → Type 0 = λ s. stepped (drop (at + 1) (take end piece)) line (taken + 1) ≡ stepped (drop 1 s.ready) s.line (s.taken + 1) in
    subst Was is (ap (λ (l : List ℕ). stepped l line (taken + 1)) (sym (drop-drop 1 at (take end piece))))

-- ---- the source is read, where no byte is ready

module _ (old new : ReaderState) (left now : Option (List ℕ)) (piece : List ℕ) (count : ℕ) (takes : Known left (λ bytes. Takes count bytes piece now))
    (ready : new.ready ≡ take count piece) where
  pub refilled : old.ready ≡ [] → new.taken ≡ old.taken → old.taken ≤ MOST_SCRIPT → TakesOff [] old new left now
  refilled none same within = record {
    rest = λ all told.
        let took = takes all told in
        (drop count all, took.rest, ap (λ (l : List ℕ). l ++ all) none ∙ sym (take-append-drop count all) ∙ ap (λ (l : List ℕ). l ++ drop count all) (sym took.bytes ∙ sym ready));
    counted = omega (arith, same);
    within = omega (arith, same, within);
  }

  -- where nothing is ready then, the source has ended
  pub run_out : (room : ℕ) → count ≤ length piece → 0 < room → (count ≡ 0 → 0 < room → Known left (λ bytes. bytes ≡ [])) → new.ready ≡ [] → IsOut new left now
  run_out room fits some end none =
      let zero : count ≡ 0 = omega (arith, ap length (sym ready ∙ none), length-take-le count piece fits) in
      record { none_ready = none; none_left = λ all told. (takes all told).rest ∙ ap (λ (n : ℕ). Some (drop n all)) zero ∙ ap (λ (l : List ℕ). Some l) (end zero some all told) }

-- where a byte was ready before, it isn't read
pub some_left : (s : ReaderState) (left now : Option (List ℕ)) (piece : List ℕ) (at end : ℕ) → drop at (take end piece) ≡ s.ready → at < end → end ≤ length piece → s.ready ≡ [] →
    IsOut s left now
some_left s left now piece at end is some within none =
    let one = sym (first_ready piece at end some within) ∙ is ∙ none in
    absurd cc

-- ---- bytes that are taken

pub take_both : (a b : List ℕ) (s t u : ReaderState) (l m n : Option (List ℕ)) → TakesOff a s t l m → TakesOff b t u m n → TakesOff (a ++ b) s u l n
take_both a b s t u l m n first second = record {
  rest = λ all told.
      let one = first.rest all told in
      let two = second.rest one.0 one.1 in
      (two.0, two.1, one.2 ∙ ap (λ (x : List ℕ). a ++ x) two.2 ∙ sym (append_assoc a b (to_come u two.0)));
  counted = omega (arith, first.counted, second.counted, length-append a b);
  within = second.within;
}

-- the source was read, where no byte was ready
pub read_on : (first old mid : ReaderState) (begun left now : Option (List ℕ)) → IsInLine first old begun left → TakesOff [] old mid left now → mid.line ≡ old.line →
    IsInLine first mid begun now
read_on first old mid begun left now in_line takes same = record {
  takes = subst (λ (l : List ℕ). TakesOff l first mid begun now) (append-nil old.line ∙ sym same) (take_both old.line [] first old mid begun left now in_line.takes takes);
  part = subst IsPart (sym same) in_line.part;
}

pub same_told : (first new : ReaderState) (begun now : Option (List ℕ)) (told other : Option NextLine) → told ≡ other → IsTold told first new begun now →
    IsTold other first new begun now
same_told first new begun now told other same is = subst (λ (t : Option NextLine). IsTold t first new begun now) same is

pub out_since : (first old mid : ReaderState) (begun left now : Option (List ℕ)) → IsInLine first old begun left → IsOut mid left now → IsOut mid begun now
out_since first old mid begun left now in_line out = record {
  none_ready = out.none_ready;
  none_left = λ all told. let so_far = in_line.takes.rest all told in out.none_left so_far.0 so_far.1;
}

module _ (first mid : ReaderState) (begun now : Option (List ℕ)) (in_line : IsInLine first mid begun now) where
  -- ---- no byte is to come

  ends : length mid.line ≡ 0 → IsOut mid begun now → IsEnd first mid begun now
  ends none out = record { takes = subst (λ (l : List ℕ). TakesOff l first mid begun now) (nil_from_length mid.line none) in_line.takes; out = out }

  not_ended : 1 ≤ length mid.line → IsOut mid begun now → IsWrong first mid begun now
  not_ended some out = record { front = mid.line; takes = in_line.takes; not_ended = in_line.part.not_ended; bad = inr (some, out) }

  pub no_byte : (next : NextLine) → (length mid.line ≡ 0 → next ≡ End) → (1 ≤ length mid.line → next ≡ Wrong) → IsOut mid begun now → IsTold (Some next) first mid begun now
  no_byte next end wrong out = elim (cases_lt 0 (length mid.line)) [
    | inl some ↦ (subst (λ (n : NextLine). IsNext n first mid begun now) (sym (wrong some)) (not_ended some out), in_line.part)
    | inr none ↦ let zero : length mid.line ≡ 0 = omega arith in (subst (λ (n : NextLine). IsNext n first mid begun now) (sym (end zero)) (ends zero out), in_line.part)
  ]

  -- ---- a byte is to come

  pub too_many : (byte : ℕ) (more : List ℕ) → mid.ready ≡ byte ∷ more → mid.taken ≡ MOST_SCRIPT → IsTooMany first mid begun now
  too_many byte more some full = record { takes = in_line.takes; full = full; more = omega (arith, ap length some) }

  module _ (new : ReaderState) (byte : ℕ) (more : List ℕ) (some : mid.ready ≡ byte ∷ more) (room : mid.taken < MOST_SCRIPT)
      (passed : new ≡ record mid { ready = drop 1 mid.ready; taken = mid.taken + 1 }) where
    counted : new.taken ≡ mid.taken + 1
    counted = ap (λ (s : ReaderState). s.taken) passed

    same_line : new.line ≡ mid.line
    same_line = ap (λ (s : ReaderState). s.line) passed

    ready : mid.ready ≡ byte ∷ new.ready
    ready = some ∙ ap (λ (l : List ℕ). byte ∷ l) (sym (ap (λ (s : ReaderState). s.ready) passed ∙ ap (λ (l : List ℕ). drop 1 l) some))

    takes_byte : TakesOff (byte ∷ []) mid new now now
    takes_byte = record { rest = λ all told. (all, told, ap (λ (l : List ℕ). l ++ all) ready); counted = counted; within = omega (arith, counted, room) }

    takes_line : TakesOff (mid.line ++ (byte ∷ [])) first new begun now
    takes_line = take_both mid.line (byte ∷ []) first mid new begun now now in_line.takes takes_byte

    pub line_ends : byte ≡ 10 → TakesOff (ended new.line) first new begun now
    line_ends is = subst (λ (l : List ℕ). TakesOff l first new begun now) (ap (λ (b : ℕ). mid.line ++ (b ∷ [])) is ∙ ap ended (sym same_line)) takes_line

    pub same_part : IsPart new.line
    same_part = subst IsPart (sym same_line) in_line.part

    module _ (no_end : byte ≡ 10 → ⊥) where
      none : HasNoLineEnd (mid.line ++ (byte ∷ []))
      none = none_append mid.line (byte ∷ []) in_line.part.not_ended (or_from _ _ (ne_eqb byte 10 no_end) refl)

      pub too_long : length new.line ≡ MOST_LINE → IsWrong first new begun now
      too_long full = record {
        front = mid.line ++ (byte ∷ []);
        takes = takes_line;
        not_ended = none;
        bad = inl (omega (arith, full, ap length same_line, length-append mid.line (byte ∷ [])));
      }

      pub goes_on : (last : ReaderState) → length new.line < MOST_LINE → last ≡ record new { line = new.line ++ (byte ∷ []) } → IsInLine first last begun now
      goes_on last short kept =
          let line : last.line ≡ mid.line ++ (byte ∷ []) = ap (λ (s : ReaderState). s.line) kept ∙ ap (λ (l : List ℕ). l ++ (byte ∷ [])) same_line in
          let same : IsInLine first (record new { line = mid.line ++ (byte ∷ []) }) begun now = record {
            takes = record { rest = takes_line.rest; counted = takes_line.counted; within = takes_line.within };
            part = record { short = omega (arith, short, ap length same_line, length-append mid.line (byte ∷ [])); not_ended = none };
          } in
          subst (λ (s : ReaderState). IsInLine first s begun now) (ap (λ (l : List ℕ). record new { line = l ++ (byte ∷ []) }) (sym same_line) ∙ sym kept) same

-- What a reader says tells whether the bytes of a source are a script, or how they break.
use Rattle.std.proofs.Common.{◌≡◌, ℕ, ◌+◌, ◌<◌, ◌≤◌, inl, inr, List, [], ◌∷◌, ◌++◌, length, Option, Some, None, refl, sym, ◌∙◌, ap, subst, arith}
use Rattle.std.specs.List.{flat_map}
use Rattle.std.proofs.lemmas.List.{append-nil, length-append}
use Rattle.base_model.specs.Known.{Known}
use Rattle.script_lines.specs.declared.script.TheConstants.{MOST_LINE, MOST_SCRIPT}
use Rattle.script_lines.specs.declared.reader.NextLine.TheVariants.{Line, End, Wrong, TooMany}
use Rattle.script_lines.specs.Grammar.{LineValue, IsLine}
use Rattle.script_lines.specs.Script.{HasNoLineEnd, ended, IsRightLine, IsScript, Begins, Breaks, Overruns}
use Rattle.script_lines.specs.Reader.{ReaderState, fresh_reader, to_come, TakesOff, IsOut, IsPart, IsNext, HasRead, Given, ReadsTellScripts}
use Rattle.script_lines.proofs.Scripts.{zip_push, more_joined, read_by_line}

fresh : (left : Option (List ℕ)) → HasRead left [] fresh_reader left
fresh left = record { lines = []; right = tt; rest = λ all told. (all, told, refl); counted = refl; within = omega arith }

-- ---- the bytes that a source gave

-- They begin with the lines that were read, and the bytes that were taken then. Where they were all, nothing is left.
record Gives (first left now : Option (List ℕ)) (lines : List (List ℕ)) (part : List ℕ) (new : ReaderState) : Type 0 where
  bytes : List ℕ
  told : Known first (λ all. bytes ≡ all)
  rest : List ℕ
  spelled : bytes ≡ flat_map ended lines ++ (part ++ rest)
  some : length new.ready ≤ length rest
  out : IsOut new left now → rest ≡ []

gives : (first left now : Option (List ℕ)) (lines : List (List ℕ)) (part : List ℕ) (old new : ReaderState) →
    Known first (λ all. (rest : List ℕ) × (left ≡ Some rest) × (all ≡ flat_map ended lines ++ to_come old rest)) → TakesOff part old new left now
    → Gives first left now lines part new
gives None left now lines part old new has takes = record {
  bytes = flat_map ended lines ++ (part ++ new.ready);
  told = λ all is. absurd cc;
  rest = new.ready;
  spelled = refl;
  some = omega arith;
  out = λ none. none.none_ready;
}
gives (Some all) left now lines part old new has takes =
    let one = has all refl in
    let two = takes.rest one.0 one.1 in
    record {
      bytes = all;
      told = λ other is. cc;
      rest = to_come new two.0;
      spelled = one.2 ∙ ap (λ (l : List ℕ). flat_map ended lines ++ l) two.2;
      some = omega (arith, length-append new.ready two.0);
      out = λ none.
          let empty : Some two.0 ≡ Some [] = sym two.1 ∙ none.none_left one.0 one.1 in
          let same : two.0 ≡ [] = cc in
          ap (λ (l : List ℕ). l ++ two.0) none.none_ready ∙ same;
    }

module _ (first left now : Option (List ℕ)) (values : List LineValue) (part : List ℕ) (old new : ReaderState) (has : HasRead first values old left)
    (takes : TakesOff part old new left now) where
  given : Gives first left now has.lines part new
  given = gives first left now has.lines part old new has.rest takes

  begun : Begins given.bytes values (part ++ given.rest)
  begun = record { lines = has.lines; spelled = given.spelled; short = omega (arith, has.counted, has.within); right = has.right }

  length_given : length given.bytes ≡ new.taken + length given.rest
  length_given = omega (arith, ap length given.spelled, length-append (flat_map ended has.lines) (part ++ given.rest), length-append part given.rest, has.counted, takes.counted)

  room : length given.bytes ≤ MOST_SCRIPT + length given.rest
  room = omega (arith, length_given, takes.within)

  stopped : Given first (λ bytes. (rest : List ℕ) × Begins bytes values (part ++ rest))
  stopped = record { bytes = given.bytes; told = given.told; is = (given.rest, begun) }

  over : HasNoLineEnd part → length part ≤ MOST_LINE → new.taken ≡ MOST_SCRIPT → 1 ≤ length new.ready → Given first (λ bytes. Overruns bytes values)
  over none short full more = record {
    bytes = given.bytes;
    told = given.told;
    is = record {
      part = part;
      more = given.rest;
      begins = begun;
      full = omega (arith, length_given, full);
      some = omega (arith, given.some, more);
      not_ended = none;
      short = short;
    };
  }

  broken_long : HasNoLineEnd part → MOST_LINE < length part → Given first (λ bytes. Breaks bytes values)
  broken_long none long = record { bytes = given.bytes; told = given.told; is = read_by_line.too_long given.bytes values part given.rest begun none long room }

  broken_end : HasNoLineEnd part → 1 ≤ length part → IsOut new left now → Given first (λ bytes. Breaks bytes values)
  broken_end none some out =
      let all : part ++ given.rest ≡ part = ap (λ (l : List ℕ). part ++ l) (given.out out) ∙ append-nil part in
      record {
        bytes = given.bytes;
        told = given.told;
        is = read_by_line.not_ended given.bytes values part (subst (λ (l : List ℕ). Begins given.bytes values l) all begun) none some
            (omega (arith, length_given, ap length (given.out out), takes.within));
      }

-- ---- what the reader says

begins : (first left : Option (List ℕ)) (values : List LineValue) (reader : ReaderState) → HasRead first values reader left
    → Known first (λ bytes. (rest : List ℕ) × (left ≡ Some rest) × Begins bytes values (to_come reader rest) × (length bytes ≡ reader.taken + length (to_come reader rest)))
begins first left values reader has bytes told =
    let rest = has.rest bytes told in (
      rest.0,
      rest.1,
      record { lines = has.lines; spelled = rest.2; short = omega (arith, has.counted, has.within); right = has.right },
      omega (arith, ap length rest.2, length-append (flat_map ended has.lines) (to_come reader rest.0), has.counted),
    )

so_far : (first left : Option (List ℕ)) (values : List LineValue) (reader : ReaderState) → HasRead first values reader left →
    Given first (λ bytes. (rest : List ℕ) × Begins bytes values rest)
so_far first left values reader has =
    stopped first left left values [] reader reader has (record { rest = λ all told. (all, told, refl); counted = omega arith; within = has.within })

line : (first left now : Option (List ℕ)) (values : List LineValue) (value : LineValue) (old new : ReaderState) → HasRead first values old left → IsNext Line old new left now →
    IsPart new.line → IsLine value new.line
    → HasRead first (values ++ (value ∷ [])) new now
line first left now values value old new has takes part is = record {
  lines = has.lines ++ (new.line ∷ []);
  right = zip_push IsRightLine values has.lines value new.line has.right (record { short = part.short; is_line = is });
  rest = λ all told.
      let one = has.rest all told in
      let two = takes.rest one.0 one.1 in
      (two.0, two.1, one.2 ∙ ap (λ (l : List ℕ). flat_map ended has.lines ++ l) two.2 ∙ more_joined has.lines new.line (to_come new two.0));
  counted = omega (
    arith,
    has.counted,
    takes.counted,
    ap length (more_joined has.lines new.line []),
    length-append (flat_map ended has.lines) (ended new.line ++ []),
    length-append (ended new.line) [],
    length-append (flat_map ended (has.lines ++ (new.line ∷ []))) [],
  );
  within = takes.within;
}

last : (first left now : Option (List ℕ)) (values : List LineValue) (old new : ReaderState) → HasRead first values old left → IsNext End old new left now →
    Given first (λ bytes. IsScript bytes values)
last first left now values old new has end =
    let gave = given first left now values [] old new has end.takes in
    record {
      bytes = gave.bytes;
      told = gave.told;
      is = read_by_line.last gave.bytes values (subst (λ (l : List ℕ). Begins gave.bytes values l) (gave.out end.out) (begun first left now values [] old new has end.takes));
    }

no_line : (first left now : Option (List ℕ)) (values : List LineValue) (old new : ReaderState) → HasRead first values old left → IsNext Line old new left now → IsPart new.line →
    ((value : LineValue) → ¬ (IsLine value new.line))
    → Given first (λ bytes. Breaks bytes values)
no_line first left now values old new has takes part never =
    let gave = given first left now values (ended new.line) old new has takes in
    record {
      bytes = gave.bytes;
      told = gave.told;
      is = read_by_line.wrong gave.bytes values new.line gave.rest (begun first left now values (ended new.line) old new has takes) part.not_ended
          (λ value right. never value right.is_line)
          (room first left now values (ended new.line) old new has takes);
    }

wrong : (first left now : Option (List ℕ)) (values : List LineValue) (old new : ReaderState) → HasRead first values old left → IsNext Wrong old new left now →
    Given first (λ bytes. Breaks bytes values)
wrong first left now values old new has bad = elim bad.bad [
  | inl long ↦ broken_long first left now values bad.front old new has bad.takes bad.not_ended long
  | inr some ↦ broken_end first left now values bad.front old new has bad.takes bad.not_ended some.0 some.1
]

too_many : (first left now : Option (List ℕ)) (values : List LineValue) (old new : ReaderState) → HasRead first values old left → IsNext TooMany old new left now →
    IsPart new.line → Given first (λ bytes. Overruns bytes values)
too_many first left now values old new has many part = over first left now values new.line old new has many.takes part.not_ended part.short many.full many.more

pub reads : ReadsTellScripts
reads = record { fresh = fresh; begins = begins; so_far = so_far; line = line; last = last; no_line = no_line; wrong = wrong; too_many = too_many; stopped = stopped }

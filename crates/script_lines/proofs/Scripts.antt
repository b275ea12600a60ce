-- How bytes are a script, or break: one right line after the other, up to the first that is none.
use Rattle.std.proofs.Common.{◌≡◌, ℕ, ◌+◌, ◌-◌, ◌<◌, ◌≤◌, ◌⊎◌, inl, inr, List, [], ◌∷◌, ◌++◌, length, take, drop, get_or, refl, sym, ◌∙◌, ap, subst, arith}
use Rattle.std.specs.List.{flat_map, AllByRecursion, AllZip}
use Rattle.std.proofs.lemmas.Bool.{cases_lt, both_ways}
use Rattle.std.proofs.lemmas.Grind.{flat_map-append}
use Rattle.std.proofs.lemmas.List.{append_assoc, append-nil, append_cancel_left, length-append, length-drop, length-take-le, take-append-drop, get_or_at, get_or_append_left}
use Rattle.script_lines.specs.declared.script.TheConstants.{MOST_LINE, MOST_SCRIPT}
use Rattle.script_lines.specs.Grammar.{LineValue}
use Rattle.script_lines.specs.Script.{is_line_end, HasNoLineEnd, ended, lines_in, rest_in, IsRightLine, IsScript, Begins, IsBadFirst, IsBadLine, Breaks, Overruns, Ends, ScriptsEndOrBreak, ScriptsAreReadByLine}
use Rattle.script_lines.proofs.Lines.{Cut, cut_of, cut_first, lines_are, rest_is, lines_first, first_line, none_at, same_first}
use Rattle.script_lines.proofs.Deciding.{none_append, right_has_none, rights_have_none, same_right, one_list, right_or_not}

-- ---- two lists, one for one

pub zip_push : {A B : Type 0} (R : A → B → Type 0) (xs : List A) (ys : List B) (x : A) (y : B) → AllZip R xs ys → R x y → AllZip R (xs ++ (x ∷ [])) (ys ++ (y ∷ []))
zip_push R [] [] x y each last = (last, tt)
zip_push R [] (z ∷ ys) x y each last = absurd each
zip_push R (w ∷ xs) [] x y each last = absurd each
zip_push R (w ∷ xs) (z ∷ ys) x y each last = (each.0, zip_push R xs ys x y each.1 last)

zip_at : {A B : Type 0} (R : A → B → Type 0) (xs : List A) (ys : List B) (y : B) (zs : List B) → AllZip R xs (ys ++ (y ∷ zs)) → (x : A) × R x y
zip_at R [] [] y zs each = absurd each
zip_at R [] (w ∷ ys) y zs each = absurd each
zip_at R (x ∷ xs) [] y zs each = (x, each.0)
zip_at R (x ∷ xs) (w ∷ ys) y zs each = zip_at R xs ys y zs each.1

each_append : {A : Type 0} (P : A → Type 0) (xs ys : List A) → AllByRecursion P xs → AllByRecursion P ys → AllByRecursion P (xs ++ ys)
each_append P [] ys first second = second
each_append P (x ∷ xs) ys first second = (first.0, each_append P xs ys first.1 second)

each_at : {A : Type 0} (P : A → Type 0) (xs : List A) (y : A) (ys : List A) → AllByRecursion P (xs ++ (y ∷ ys)) → P y
each_at P [] y ys each = each.0
each_at P (x ∷ xs) y ys each = each_at P xs y ys each.1

-- ---- lines that are ended, put together either way

joined : (front lines : List (List ℕ)) (rest : List ℕ) → flat_map ended front ++ (flat_map ended lines ++ rest) ≡ flat_map ended (front ++ lines) ++ rest
joined front lines rest =
    sym (append_assoc (flat_map ended front) (flat_map ended lines) rest) ∙ ap (λ (b : List ℕ). b ++ rest) (sym (flat_map-append ended front lines))

pub more_joined : (lines : List (List ℕ)) (line rest : List ℕ) → flat_map ended lines ++ (ended line ++ rest) ≡ flat_map ended (lines ++ (line ∷ [])) ++ rest
more_joined lines line rest =
    ap (λ (b : List ℕ). flat_map ended lines ++ (b ++ rest)) (sym (append-nil (ended line))) ∙ joined lines (line ∷ []) rest

length_ended : (line rest : List ℕ) → length (ended line ++ rest) ≡ length line + 1 + length rest
length_ended line rest = omega (arith, length-append (ended line) rest, length-append line (10 ∷ []))

-- ---- bad lines

bad_cut : (left : List ℕ) (lines : List (List ℕ)) (rest : List ℕ) → Cut left lines rest → IsBadFirst lines rest → IsBadLine left
bad_cut left lines rest cut bad =
    subst (λ (ls : List (List ℕ)). IsBadFirst ls (rest_in left)) (sym (lines_are left lines rest cut))
    (subst (λ (r : List ℕ). IsBadFirst lines r) (sym (rest_is left lines rest cut)) bad)

wrong_first : (line rest : List ℕ) → HasNoLineEnd line → ((value : LineValue) → ¬ (IsRightLine value line)) → IsBadLine (ended line ++ rest)
wrong_first line rest none bad = bad_cut (ended line ++ rest) (line ∷ lines_in rest) (rest_in rest) (cut_first line rest none) bad

not_ended_first : (left : List ℕ) → HasNoLineEnd left → 1 ≤ length left → IsBadLine left
not_ended_first left none some = bad_cut left [] left (record { spelled = refl; each = tt; last = none }) some

long_before : (front line lines rest : List ℕ) → front ++ (((line ++ (10 ∷ [])) ++ lines) ++ rest) ≡ (((front ++ line) ++ (10 ∷ [])) ++ lines) ++ rest
long_before front line lines rest = simp append_assoc

long_bad : (front rest : List ℕ) (lines : List (List ℕ)) (last : List ℕ) → Cut rest lines last → HasNoLineEnd front → MOST_LINE < length front → IsBadLine (front ++ rest)
long_bad front rest [] last cut none long =
    bad_cut (front ++ rest) [] (front ++ last) (record { spelled = ap (λ (b : List ℕ). front ++ b) cut.spelled; each = tt; last = none_append front last none cut.last })
    (omega (arith, length-append front last))
long_bad front rest (line ∷ lines) last cut none long =
    bad_cut (front ++ rest) ((front ++ line) ∷ lines) last
    (record {
      spelled = ap (λ (b : List ℕ). front ++ b) cut.spelled ∙ long_before front line (flat_map ended lines) last;
      each =
          (none_append front line none cut.each.0, cut.each.1);
      last = cut.last;
    })
    (λ value is. omega (arith, is.short, length-append front line))

long_first : (front rest : List ℕ) → HasNoLineEnd front → MOST_LINE < length front → IsBadLine (front ++ rest)
long_first front rest none long = long_bad front rest (lines_in rest) (rest_in rest) (cut_of rest) none long

-- ---- right lines, one after the other

first : (bytes : List ℕ) → Begins bytes [] bytes
first bytes = record { lines = []; spelled = refl; short = omega arith; right = tt }

next : (bytes : List ℕ) (values : List LineValue) (value : LineValue) (line rest : List ℕ) → Begins bytes values (ended line ++ rest) → IsRightLine value line →
    length bytes ≤ MOST_SCRIPT + length rest
    → Begins bytes (values ++ (value ∷ [])) rest
next bytes values value line rest begins right room =
    let spelled : bytes ≡ flat_map ended (begins.lines ++ (line ∷ [])) ++ rest = begins.spelled ∙ more_joined begins.lines line rest in
    record {
      lines = begins.lines ++ (line ∷ []);
      spelled = spelled;
      short = omega (arith, room, ap length spelled, length-append (flat_map ended (begins.lines ++ (line ∷ []))) rest);
      right = zip_push IsRightLine values begins.lines value line begins.right right;
    }

cut_begun : (bytes : List ℕ) (values : List LineValue) (left : List ℕ) (begins : Begins bytes values left) → Cut bytes (begins.lines ++ lines_in left) (rest_in left)
cut_begun bytes values left begins =
    let cut = cut_of left in
    record {
      spelled = begins.spelled ∙ ap (λ (b : List ℕ). flat_map ended begins.lines ++ b) cut.spelled ∙ joined begins.lines (lines_in left) (rest_in left);
      each = each_append HasNoLineEnd begins.lines (lines_in left) (rights_have_none values begins.lines begins.right) cut.each;
      last = cut.last;
    }

to_end : (bytes : List ℕ) (values : List LineValue) → Begins bytes values [] → IsScript bytes values
to_end bytes values begins =
    let cut : Cut bytes begins.lines [] = record { spelled = begins.spelled; each = rights_have_none values begins.lines begins.right; last = refl } in
    record {
      short = omega (arith, begins.short, ap length begins.spelled, length-append (flat_map ended begins.lines) []);
      to_end = rest_is bytes begins.lines [] cut;
      right = subst (λ (ls : List (List ℕ)). AllZip IsRightLine values ls) (sym (lines_are bytes begins.lines [] cut)) begins.right;
    }

-- what is left is told by the lines before
same_left : (bytes : List ℕ) (values : List LineValue) (left rest : List ℕ) → Begins bytes values left → Begins bytes values rest → left ≡ rest
same_left bytes values left rest begins others =
    let lines = one_list values begins.lines others.lines begins.right others.right in
    append_cancel_left (flat_map ended begins.lines) left rest (sym begins.spelled ∙ others.spelled ∙ ap (λ (ls : List (List ℕ)). flat_map ended ls ++ rest) (sym lines))

-- ---- a bad line within the limit

-- a line that is ended within the limit would end in the part that isn't ended
end_in_part : (part more line rest : List ℕ) → HasNoLineEnd part → part ++ more ≡ ended line ++ rest → length more ≤ length rest → ⊥
end_in_part part more line rest none is low =
    let within : length line < length part = omega (arith, low, ap length is, length-append part more, length_ended line rest) in
    let end : get_or part (length line) 0 ≡ 10 =
    sym (get_or_append_left part more 0 (length line) within) ∙ ap (λ (b : List ℕ). get_or b (length line) 0) (is ∙ append_assoc line (10 ∷ []) rest)
    ∙ get_or_at line 10 rest 0 (length line) refl in
    both_ways (is_line_end (get_or part (length line) 0)) (none_at part (length line) none within) (ap is_line_end end)

wrong : (bytes : List ℕ) (values : List LineValue) (line rest : List ℕ) → Begins bytes values (ended line ++ rest) → HasNoLineEnd line →
    ((value : LineValue) → ¬ (IsRightLine value line)) → length bytes ≤ MOST_SCRIPT + length rest
    → Breaks bytes values
wrong bytes values line rest begins none bad room = record {
  left = ended line ++ rest;
  begins = begins;
  bad = wrong_first line rest none bad;
  within = λ over. end_in_part over.part over.more line rest over.not_ended (same_left bytes values (over.part ++ over.more) (ended line ++ rest) over.begins begins)
      (omega (arith, room, over.full));
}

too_long : (bytes : List ℕ) (values : List LineValue) (front rest : List ℕ) → Begins bytes values (front ++ rest) → HasNoLineEnd front → MOST_LINE < length front →
    length bytes ≤ MOST_SCRIPT + length rest → Breaks bytes values
too_long bytes values front rest begins none long room = record {
  left = front ++ rest;
  begins = begins;
  bad = long_first front rest none long;
  within = λ over.
      let same = same_left bytes values (over.part ++ over.more) (front ++ rest) over.begins begins in
      omega (arith, long, room, over.full, over.short, ap length same, length-append over.part over.more, length-append front rest);
}

not_ended : (bytes : List ℕ) (values : List LineValue) (left : List ℕ) → Begins bytes values left → HasNoLineEnd left → 1 ≤ length left → length bytes ≤ MOST_SCRIPT →
    Breaks bytes values
not_ended bytes values left begins none some short = record {
  left = left;
  begins = begins;
  bad = not_ended_first left none some;
  within = λ over. omega (arith, short, over.full, over.some);
}

pub read_by_line : ScriptsAreReadByLine
read_by_line = record { first = first; next = next; same_left = same_left; last = to_end; wrong = wrong; too_long = too_long; not_ended = not_ended }

-- ---- a script, or a bad line

-- the first line that is no right one
record HasBad (lines : List (List ℕ)) : Type 0 where
  before : List (List ℕ)
  line : List ℕ
  after : List (List ℕ)
  values : List LineValue
  spelled : lines ≡ before ++ (line ∷ after)
  right : AllZip IsRightLine values before
  bad : (value : LineValue) → ¬ (IsRightLine value line)

checked : (lines : List (List ℕ)) → ((values : List LineValue) × AllZip IsRightLine values lines) ⊎ HasBad lines
checked [] = inl ([], tt)
checked (line ∷ lines) =
    let others = checked lines in
    elim (right_or_not line) [
      | inl is ↦ elim others [
        | inl all ↦ inl (is.0 ∷ all.0, (is.1, all.1))
        | inr one ↦ inr (record {
          before = line ∷ one.before;
          line = one.line;
          after = one.after;
          values = is.0 ∷ one.values;
          spelled = ap (λ (ls : List (List ℕ)). line ∷ ls) one.spelled;
          right = (is.1, one.right);
          bad = one.bad;
        })
      ]
      | inr never ↦ inr (record { before = []; line = line; after = lines; values = []; spelled = refl; right = tt; bad = never })
    ]

abbrev EndsOrBreaks : List ℕ → Type 0
EndsOrBreaks bytes = ((values : List LineValue) × IsScript bytes values) ⊎ ((values : List LineValue) × Breaks bytes values)

module _ (bytes : List ℕ) (short : length bytes ≤ MOST_SCRIPT) where
  front_short : (front left : List ℕ) → bytes ≡ front ++ left → length front ≤ MOST_SCRIPT
  front_short front left is = omega (arith, short, ap length is, length-append front left)

  to_rest : (values : List LineValue) (rest : List ℕ) → AllZip IsRightLine values (lines_in bytes) → rest_in bytes ≡ rest → EndsOrBreaks bytes
  to_rest values [] right is = inl (values, record { short = short; to_end = is; right = right })
  to_rest values (byte ∷ rest) right is =
      let cut = cut_of bytes in
      let spelled : bytes ≡ flat_map ended (lines_in bytes) ++ (byte ∷ rest) = cut.spelled ∙ ap (λ (r : List ℕ). flat_map ended (lines_in bytes) ++ r) is in
      let begins : Begins bytes values (byte ∷ rest) = record {
        lines = lines_in bytes;
        spelled = spelled;
        short = front_short (flat_map ended (lines_in bytes)) (byte ∷ rest) spelled;
        right = right;
      } in
      inr (values, not_ended bytes values (byte ∷ rest) begins (subst HasNoLineEnd is cut.last) (omega arith) short)

  at_bad : HasBad (lines_in bytes) → EndsOrBreaks bytes
  at_bad one =
      let cut = cut_of bytes in
      let rest = flat_map ended one.after ++ rest_in bytes in
      let left = ended one.line ++ rest in
      let spelled : bytes ≡ flat_map ended one.before ++ left =
      cut.spelled ∙ ap (λ (ls : List (List ℕ)). flat_map ended ls ++ rest_in bytes) one.spelled ∙ sym (joined one.before (one.line ∷ one.after) (rest_in bytes))
      ∙ ap (λ (b : List ℕ). flat_map ended one.before ++ b) (append_assoc (ended one.line) (flat_map ended one.after) (rest_in bytes)) in
      let none = each_at HasNoLineEnd one.before one.line one.after (subst (λ (ls : List (List ℕ)). AllByRecursion HasNoLineEnd ls) one.spelled cut.each) in
      let begins : Begins bytes one.values left = record { lines = one.before; spelled = spelled; short = front_short (flat_map ended one.before) left spelled; right = one.right }
      in
      inr (one.values, wrong bytes one.values one.line rest begins none one.bad (omega (arith, short)))

  few : EndsOrBreaks bytes
  few = elim (checked (lines_in bytes)) [ inl all ↦ to_rest all.0 (rest_in bytes) all.1 refl | inr one ↦ at_bad one ]

-- ---- more bytes than a script may have

abbrev BreaksOrOverruns : List ℕ → Type 0
BreaksOrOverruns bytes = ((values : List LineValue) × Breaks bytes values) ⊎ ((values : List LineValue) × Overruns bytes values)

module _ (bytes within more : List ℕ) (whole : bytes ≡ within ++ more) (full : length within ≡ MOST_SCRIPT) (some : 1 ≤ length more) where
  all_full : length bytes ≡ MOST_SCRIPT + length more
  all_full = omega (arith, full, ap length whole, length-append within more)

  begins_on : (values : List LineValue) (left : List ℕ) → Begins within values left → Begins bytes values (left ++ more)
  begins_on values left begins = record {
    lines = begins.lines;
    spelled = whole ∙ ap (λ (b : List ℕ). b ++ more) begins.spelled ∙ append_assoc (flat_map ended begins.lines) left more;
    short = begins.short;
    right = begins.right;
  }

  overruns : (values : List LineValue) (left : List ℕ) → Begins within values left → HasNoLineEnd left → length left ≤ MOST_LINE → Overruns bytes values
  overruns values left begins none short = record {
    part = left;
    more = more;
    begins = begins_on values left begins;
    full = all_full;
    some = some;
    not_ended = none;
    short = short;
  }

  whole_script : (values : List LineValue) → IsScript within values → Begins within values []
  whole_script values script =
      let cut = cut_of within in
      let spelled : within ≡ flat_map ended (lines_in within) ++ [] = cut.spelled ∙ ap (λ (r : List ℕ). flat_map ended (lines_in within) ++ r) script.to_end in
      record {
        lines = lines_in within;
        spelled = spelled;
        short = omega (arith, full, ap length spelled, length-append (flat_map ended (lines_in within)) []);
        right =
            script.right;
      }

  goes_on : (values : List LineValue) (left : List ℕ) (lines : List (List ℕ)) (last : List ℕ) → Begins within values left → Cut left lines last → IsBadFirst lines last →
      BreaksOrOverruns bytes
  goes_on values left [] last begins cut bad =
      let none : HasNoLineEnd left = subst HasNoLineEnd (sym cut.spelled) cut.last in
      elim (cases_lt MOST_LINE (length left)) [
        | inl long ↦ inl (values, too_long bytes values left more (begins_on values left begins) none long (omega (arith, all_full)))
        | inr short ↦ inr (values, overruns values left begins none short)
      ]
  goes_on values left (line ∷ lines) last begins cut bad =
      let after = flat_map ended lines ++ last in
      let same : left ++ more ≡ ended line ++ (after ++ more) =
      ap (λ (b : List ℕ). b ++ more) (cut.spelled ∙ append_assoc (ended line) (flat_map ended lines) last) ∙ append_assoc (ended line) after more in
      let begun : Begins bytes values (ended line ++ (after ++ more)) = subst (λ (b : List ℕ). Begins bytes values b) same (begins_on values left begins) in
      inl (values, wrong bytes values line (after ++ more) begun cut.each.0 bad (omega (arith, all_full, length-append after more)))

  many_of : BreaksOrOverruns bytes
  many_of = elim (few within (omega (arith, full))) [
    | inl is ↦ inr (is.0, overruns is.0 [] (whole_script is.0 is.1) refl (omega arith))
    | inr is ↦ goes_on is.0 is.1.left (lines_in is.1.left) (rest_in is.1.left) is.1.begins (cut_of is.1.left) is.1.bad
  ]

many : (bytes : List ℕ) → MOST_SCRIPT < length bytes → BreaksOrOverruns bytes
many bytes long =
    many_of bytes (take MOST_SCRIPT bytes) (drop MOST_SCRIPT bytes) (sym (take-append-drop MOST_SCRIPT bytes)) (length-take-le MOST_SCRIPT bytes (omega (arith, long)))
    (omega (arith, long, length-drop MOST_SCRIPT bytes))

-- ---- not both

bad_or_right : (values : List LineValue) (front lines : List (List ℕ)) (rest : List ℕ) → IsBadFirst lines rest → AllZip IsRightLine values (front ++ lines) → rest ≡ [] → ⊥
bad_or_right values front [] rest bad right none = omega (arith, bad, ap length none)
bad_or_right values front (line ∷ lines) rest bad right none =
    let one = zip_at IsRightLine values front line lines right in
    bad one.0 one.1

not_both : (bytes : List ℕ) (values others : List LineValue) → IsScript bytes values → ¬ (Breaks bytes others)
not_both bytes values others script breaks =
    let front = breaks.begins.lines in
    let left = breaks.left in
    let cut = cut_begun bytes others left breaks.begins in
    bad_or_right values front (lines_in left) (rest_in left) breaks.bad
    (subst (λ (ls : List (List ℕ)). AllZip IsRightLine values ls) (lines_are bytes (front ++ lines_in left) (rest_in left) cut) script.right)
    (sym (rest_is bytes (front ++ lines_in left) (rest_in left) cut) ∙ script.to_end)

-- ---- the lines before are told in one way

-- no right line comes next that is ended before so many bytes are left
abbrev Never : ℕ → List ℕ → Type 0
Never floor left = (value : LineValue) (line rest : List ℕ) → IsRightLine value line → left ≡ ended line ++ rest → floor ≤ length rest → ⊥

record Stops (bytes : List ℕ) (values : List LineValue) : Type 0 where
  lines : List (List ℕ)
  left : List ℕ
  spelled : bytes ≡ flat_map ended lines ++ left
  right : AllZip IsRightLine values lines
  low : length bytes - MOST_SCRIPT ≤ length left
  never : Never (length bytes - MOST_SCRIPT) left

low_by : (bytes front left : List ℕ) → bytes ≡ front ++ left → length front ≤ MOST_SCRIPT → length bytes - MOST_SCRIPT ≤ length left
low_by bytes front left is short = omega (arith, short, ap length is, length-append front left)

script_stops : (bytes : List ℕ) (values : List LineValue) → IsScript bytes values → Stops bytes values
script_stops bytes values script =
    let cut = cut_of bytes in
    record {
      lines = lines_in bytes;
      left = [];
      spelled = cut.spelled ∙ ap (λ (r : List ℕ). flat_map ended (lines_in bytes) ++ r) script.to_end;
      right = script.right;
      low = omega (arith, script.short);
      never = λ value line rest right is low. omega (arith, ap length is, length_ended line rest);
    }

breaks_stops : (bytes : List ℕ) (values : List LineValue) → Breaks bytes values → Stops bytes values
breaks_stops bytes values breaks =
    let begins = breaks.begins in
    record {
      lines = begins.lines;
      left = breaks.left;
      spelled = begins.spelled;
      right = begins.right;
      low = low_by bytes (flat_map ended begins.lines) breaks.left begins.spelled begins.short;
      never = λ value line rest right is low.
          let bad : IsBadFirst (line ∷ lines_in rest) (rest_in breaks.left) =
          subst (λ (ls : List (List ℕ)). IsBadFirst ls (rest_in breaks.left)) (ap lines_in is ∙ lines_first line rest (right_has_none value line right)) breaks.bad in
          bad value right;
    }

overruns_stops : (bytes : List ℕ) (values : List LineValue) → Overruns bytes values → Stops bytes values
overruns_stops bytes values over =
    let begins = over.begins in
    record {
      lines = begins.lines;
      left = over.part ++ over.more;
      spelled = begins.spelled;
      right = begins.right;
      low = low_by bytes (flat_map ended begins.lines) (over.part ++ over.more) begins.spelled begins.short;
      never = λ value line rest right is low. end_in_part over.part over.more line rest over.not_ended is (omega (arith, low, over.full));
    }

stops : (bytes : List ℕ) (values : List LineValue) → Ends bytes values → Stops bytes values
stops bytes values (inl is) = script_stops bytes values is
stops bytes values (inr (inl is)) = breaks_stops bytes values is
stops bytes values (inr (inr is)) = overruns_stops bytes values is

module _ (floor : ℕ) where
  -- a line comes next after all, since it comes first in the other way to tell them
  one_more : (values : List LineValue) (line : List ℕ) (lines : List (List ℕ)) (left rest : List ℕ) → AllZip IsRightLine values (line ∷ lines) →
      left ≡ flat_map ended (line ∷ lines) ++ rest → floor ≤ length rest → Never floor left → ⊥
  one_more [] line lines left rest right is low never = absurd right
  one_more (value ∷ values) line lines left rest right is low never =
      never value line (flat_map ended lines ++ rest) right.0 (is ∙ append_assoc (ended line) (flat_map ended lines) rest)
      (omega (arith, low, length-append (flat_map ended lines) rest))

  same_values : (lines others : List (List ℕ)) (values more : List LineValue) (left rest : List ℕ) → flat_map ended lines ++ left ≡ flat_map ended others ++ rest →
      AllZip IsRightLine values lines → AllZip IsRightLine more others
      → floor ≤ length left → floor ≤ length rest → Never floor left → Never floor rest → values ≡ more
  same_values [] [] [] [] left rest is first second low other never no_other = refl
  same_values [] [] (value ∷ values) more left rest is first second low other never no_other = absurd first
  same_values [] [] [] (value ∷ more) left rest is first second low other never no_other = absurd second
  same_values [] (line ∷ others) values more left rest is first second low other never no_other = absurd (one_more more line others left rest second is other never)
  same_values (line ∷ lines) [] values more left rest is first second low other never no_other = absurd (one_more values line lines rest left first (sym is) low no_other)
  same_values (line ∷ lines) (line_2 ∷ others) [] more left rest is first second low other never no_other = absurd first
  same_values (line ∷ lines) (line_2 ∷ others) (value ∷ values) [] left rest is first second low other never no_other = absurd second
  same_values (line ∷ lines) (line_2 ∷ others) (value ∷ values) (value_2 ∷ more) left rest is first second low other never no_other =
      let parts = same_first line line_2 (flat_map ended lines ++ left) (flat_map ended others ++ rest) (right_has_none value line first.0) (right_has_none value_2 line_2 second.0)
      (sym (first_line line (flat_map ended lines) left) ∙ is ∙ first_line line_2 (flat_map ended others) rest) in
      let one = same_right value value_2 line first.0 (subst (IsRightLine value_2) (sym parts.0) second.0) in
      let after = same_values lines others values more left rest parts.1 first.1 second.1 low other never no_other in
      cc

one : (bytes : List ℕ) (values others : List LineValue) → Ends bytes values → Ends bytes others → values ≡ others
one bytes values others first second =
    let s = stops bytes values first in
    let t = stops bytes others second in
    same_values (length bytes - MOST_SCRIPT) s.lines t.lines values others s.left t.left (sym s.spelled ∙ t.spelled) s.right t.right s.low t.low s.never t.never

not_over : (bytes : List ℕ) (values others : List LineValue) → Breaks bytes values → ¬ (Overruns bytes others)
not_over bytes values others breaks over =
    breaks.within (subst (λ (vs : List LineValue). Overruns bytes vs) (sym (one bytes values others (inr (inl breaks)) (inr (inr over)))) over)

pub end_or_break : ScriptsEndOrBreak
end_or_break = record { few = few; many = many; not_both = not_both; not_over = not_over; one = one }

-- What clap makes of the words of a command that takes words in their order alone, by what each word looks like.
use Rattle.backup_engine.proofs.Prelude.{◌≡◌, ◌∙◌, ℕ, ◌==◌, Bool, true, false, List, [], ◌∷◌, codes, Option, Some, None, cond, option_map, refl, sym, ap, ap₂, subst, slice_get, IsUtf8, chars, eqb-true, long_of, short_of, nothing_held, rows_after, Shape, Kinds, arguments_of, is_separator}
use Rattle.std.proofs.Common.{◌&&◌, fold, is_some, not, option_and_then}
use Rattle.std.specs.List.{find, list_all}
use Rattle.std.specs.Char.{encode_utf8}
use Rattle.std.specs.Str.{encode_utf8_all}
use Rattle.std.proofs.lemmas.Str.{IsUtf8-past_char, encodes-chars}
use Rattle.clap.specs.Lexer.{name_and_value}
use Rattle.clap.specs.Walk.{Held, Row, Rule, Text, Walk, arg_by_index, finished, has_long, has_short, idle, is_multiple, is_pending, next_position, positional_held, settled, takes_several, to_positional, walked}
use Rattle.clap.specs.Kinds.{or_else}
use Rattle.clap.specs.Faults.{check_fault, defaults_fault, flags_fault, level_fault, settle_fault, turn_fault, walk_fault}
use Rattle.clap.specs.declared.error.kind.ErrorKind.TheVariants.{UnknownArgument}
use Rattle.clap.proofs.OnLiterals.{clap_on_literals}
use Rattle.backup_engine.specs.Line.{is_dashed}
use Rattle.backup_engine.proofs.Numbers.{and_left, and_right}

-- ---- what a word looks like

pub data Look (word : Text) : Type 0 where
  separator : word ≡ codes "--" → Look word
  long : is_dashed word ≡ true → is_separator word ≡ false → (option : Text × Option Text) → long_of word ≡ Some option → Look word
  short : is_dashed word ≡ true → is_separator word ≡ false → long_of word ≡ None → (x : ℕ) (xs : Text) → short_of word ≡ Some (x ∷ xs)
      → (first : ℕ) → slice_get (chars (x ∷ xs)) 0 ≡ Some first → Look word
  plain : is_dashed word ≡ false → is_separator word ≡ false → long_of word ≡ None → short_of word ≡ None → Look word

first_char : (x : ℕ) (xs : Text) → IsUtf8 (x ∷ xs) → (c : ℕ) × (slice_get (chars (x ∷ xs)) 0 ≡ Some c)
first_char x xs text = go (chars (x ∷ xs)) (encodes-chars (x ∷ xs) text)
  where
    go : (cs : List ℕ) → encode_utf8_all cs ≡ x ∷ xs → (c : ℕ) × (slice_get cs 0 ≡ Some c)
    go [] e = absurd (cc)
    go (c ∷ cs) e = (c, refl)

pub look_of : (word : Text) → IsUtf8 word → Look word
unfolding encode_utf8
look_of [] text = plain refl refl refl refl
look_of (x ∷ []) text = go (x == 45) refl
  where
    go : (b : Bool) → (x == 45) ≡ b → Look (x ∷ [])
    go true e = plain refl (rw e refl) (rw e refl) (rw e refl)
    go false e = plain refl (rw e refl) (rw e refl) (rw e refl)
look_of (x ∷ y ∷ rest) text = go (x == 45) (y == 45) refl refl
  where
    dashes : (zs : Text) → x ≡ 45 → y ≡ 45 → (x == 45) ≡ true → (y == 45) ≡ true → Look (x ∷ y ∷ zs)
    dashes [] first second e f = separator (rw (first, second) refl)
    dashes (z ∷ zs) first second e f = long e (rw (e, f) refl) (name_and_value (z ∷ zs)) (rw (e, f) refl)

    go : (b d : Bool) → (x == 45) ≡ b → (y == 45) ≡ d → Look (x ∷ y ∷ rest)
    go false d e f = plain e (rw e refl) (rw e refl) (rw e refl)
    go true false e f =
        let dash : x ∷ y ∷ rest ≡ 45 ∷ y ∷ rest = ap (λ k. k ∷ y ∷ rest) (eqb-true x 45 e) in
        let first = first_char y rest (IsUtf8-past_char (x ∷ y ∷ rest) (y ∷ rest) 45 text dash) in
        short e (rw (e, f) refl) (rw (e, f) refl) y rest (rw (e, f) refl) first.0 first.1
    go true true e f = dashes rest (eqb-true x 45 e) (eqb-true y 45 f) e f

-- ---- a command that takes words in their order alone

-- the answer, where no fault comes
abbrev pub unless : {X : Type 0} → Kinds → Option X → Option X
unless [] answer = answer
unless (fault ∷ rest) answer = None

unless_none : {X : Type 0} (faults : Kinds) → unless {X = X} faults None ≡ None
unless_none [] = refl
unless_none (fault ∷ rest) = refl

unless_either : {X : Type 0} (first next : Kinds) (answer : Option X) → unless (or_else first next) answer ≡ unless first (unless next answer)
unless_either [] next answer = refl
unless_either (fault ∷ rest) next answer = refl

unless_in_turn : {X : Type 0} (first next last : Kinds) (answer : Option X)
    → unless (or_else (or_else first next) last) answer ≡ unless first (unless (or_else next last) answer)
unless_in_turn [] next last answer = refl
unless_in_turn (fault ∷ rest) next last answer = refl

-- each word is one of UTF-8
abbrev pub AreTexts : List Text → Type 0
AreTexts [] = Unit {0}
AreTexts (word ∷ words) = IsUtf8 word × AreTexts words

-- an argument that takes one word, by its place
abbrev pub is_placed : Rule → Bool
is_placed a = is_some a.index && (not (is_multiple a) && not a.trailing_var_arg)

abbrev IsPlaced : Option Rule → Type 0
IsPlaced None = Unit {0}
IsPlaced (Some a) = is_placed a ≡ true

found_placed : (p : Rule → Bool) (rules : List Rule) → list_all is_placed rules ≡ true → IsPlaced (find p rules)
found_placed p [] placed = tt
found_placed p (a ∷ rules) placed = go (p a) (found_placed p rules (and_right (is_placed a) _ placed))
  where
    go : (b : Bool) → IsPlaced (find p rules) → IsPlaced (cond b (Some a) (find p rules))
    go true so = and_left (is_placed a) _ placed
    go false so = so

-- so none has a name
none_named : (p : Rule → Bool) (rules : List Rule) → list_all is_placed rules ≡ true → find (λ a. not (is_some a.index) && p a) rules ≡ None
none_named p [] placed = refl
none_named p (a ∷ rules) placed =
    let here : is_some a.index ≡ true = and_left (is_some a.index) _ (and_left (is_placed a) _ placed) in
    rw here (none_named p rules (and_right (is_placed a) _ placed))

not_false : (b : Bool) → not b ≡ true → b ≡ false
not_false true is = cc
not_false false is = refl

-- where the walk is: what it holds, which argument is next, and whether the words that are left are taken whatever they look like
abbrev pub stage : Held → ℕ → Bool → Walk
stage h position trailing = record { held = h; waiting = idle; position = position; is_trailing = trailing; stopped = None }

module _ (rules : List Rule) (word : Text) (h : Held) where
  abbrev held_after : Option Rule → Held
  held_after None = h
  held_after (Some a) = positional_held rules a word h

  skips_none : h.skip ≡ 0 → (o : Option Rule) → (held_after o).skip ≡ 0
  skips_none none None = none
  skips_none none (Some a) = go (is_pending a h.pending && takes_several a)
    where
      go : (b : Bool) → (cond b h (settled rules h)).skip ≡ 0
      go true = none
      go false = none

abbrev place_after : Option Rule → ℕ → ℕ
place_after None position = position
place_after (Some a) position = next_position a position

to_place : (rules : List Rule) (word : Text) (h : Held) (o : Option Rule) (position : ℕ) (trailing : Bool) → IsPlaced o
    → to_positional rules o word (stage h position trailing) h ≡ stage (held_after rules word h o) (place_after o position) trailing
to_place rules word h None position trailing placed = refl
to_place rules word h (Some a) position trailing placed =
    let plain = and_right (is_some a.index) _ placed in
    let single = not_false (is_multiple a) (and_left (not (is_multiple a)) _ plain) in
    let alone = not_false a.trailing_var_arg (and_right (not (is_multiple a)) _ plain) in
    go trailing single alone
  where
    go : (b : Bool) → is_multiple a ≡ false → a.trailing_var_arg ≡ false
        → to_positional rules (Some a) word (stage h position b) h ≡ stage (held_after rules word h (Some a)) (place_after (Some a) position) b
    go true single alone = rw single refl
    go false single alone = rw (single, alone) refl

module _ {X : Type 0} (s : Shape) (answer : List Row → Option X) where
  abbrev faults_at_end : Held → Kinds
  faults_at_end h = or_else (settle_fault s.rules s.args_override_self h)
      (or_else (defaults_fault (settled s.rules h).rows s.rules) (check_fault s (finished s.rules h) false))

  -- the answer at the end of the words, from some stage on
  abbrev pub answered : Walk → List Text → Option X
  answered w words =
      let end = (fold (walked s.rules []) w words).held in
      unless (or_else (walk_fault s [] w words) (faults_at_end end)) (answer (finished s.rules end))

  one_more : (w : Walk) (word : Text) (words : List Text)
      → answered w (word ∷ words) ≡ unless (turn_fault s [] w word) (answered (walked s.rules [] w word) words)
  unfolding walk_fault
  one_more w word words = unless_in_turn (turn_fault s [] w word) _ _ _

  at_end : (h : Held) (position : ℕ) → answered (stage h position false) [] ≡ answered (stage h position true) []
  unfolding walk_fault
  at_end h position = refl

  at_separator : (h : Held) (position : ℕ) (words : List Text) → answered (stage h position false) (codes "--" ∷ words) ≡ answered (stage h position true) words
  unfolding clap_on_literals
  at_separator h position words = one_more (stage h position false) (codes "--") words

  module _ (placed : list_all is_placed s.rules ≡ true) where
    at_long : (h : Held) (position : ℕ) (word : Text) (words : List Text) (option : Text × Option Text) → is_separator word ≡ false → long_of word ≡ Some option
        → answered (stage h position false) (word ∷ words) ≡ None
    at_long h position word words option other is_long =
        let unknown : turn_fault s [] (stage h position false) word ≡ UnknownArgument ∷ [] = rw (other, is_long, none_named (λ a. has_long a option.0) s.rules placed) refl in
        one_more (stage h position false) word words
        ∙ ap (λ (faults : Kinds). unless faults (answered (walked s.rules [] (stage h position false) word) words)) unknown

    at_short : (h : Held) (position : ℕ) (word : Text) (words : List Text) (x : ℕ) (xs : Text) (first : ℕ) → h.skip ≡ 0 → is_separator word ≡ false
        → long_of word ≡ None → short_of word ≡ Some (x ∷ xs) → slice_get (chars (x ∷ xs)) 0 ≡ Some first → answered (stage h position false) (word ∷ words) ≡ None
    unfolding flags_fault
    at_short h position word words x xs first none other no_long is_short first_is =
        let unknown : turn_fault s [] (stage h position false) word ≡ UnknownArgument ∷ [] =
        rw (other, no_long, is_short, none, first_is, none_named (λ a. has_short a first) s.rules placed) refl in
        one_more (stage h position false) word words
        ∙ ap (λ (faults : Kinds). unless faults (answered (walked s.rules [] (stage h position false) word) words)) unknown

    -- a word that goes to the next argument
    module _ (h : Held) (position : ℕ) (word : Text) where
      abbrev next : Option Rule
      next = arg_by_index s.rules position

      abbrev after : Bool → Walk
      after trailing = stage (held_after s.rules word h next) (place_after next position) trailing

      walked_on : walked s.rules [] (stage h position true) word ≡ after true
      unfolding walked
      walked_on = to_place s.rules word h next position true (found_placed _ s.rules placed)

      walked_plain : is_separator word ≡ false → long_of word ≡ None → short_of word ≡ None → walked s.rules [] (stage h position false) word ≡ after false
      unfolding walked
      walked_plain other no_long no_short =
          rw (other, no_long, no_short) (to_place s.rules word h next position false (found_placed _ s.rules placed))

      same_turn : is_separator word ≡ false → long_of word ≡ None → short_of word ≡ None
          → turn_fault s [] (stage h position false) word ≡ turn_fault s [] (stage h position true) word
      same_turn other no_long no_short = rw (other, no_long, no_short) refl

      at_plain : (words : List Text) → is_separator word ≡ false → long_of word ≡ None → short_of word ≡ None
          → answered (after false) words ≡ option_and_then (answered (after true)) (arguments_of words)
          → answered (stage h position false) (word ∷ words)
          ≡ option_and_then (answered (stage h position true)) (option_map (λ (rest : List Text). word ∷ rest) (arguments_of words))
      at_plain words other no_long no_short so =
          one_more (stage h position false) word words
          ∙ ap₂ (λ (faults : Kinds) (w : Walk). unless faults (answered w words)) (same_turn other no_long no_short) (walked_plain other no_long no_short)
          ∙ ap (unless (turn_fault s [] (stage h position true) word)) so ∙ go (arguments_of words)
        where
          go : (o : Option (List Text)) → unless (turn_fault s [] (stage h position true) word) (option_and_then (answered (after true)) o)
              ≡ option_and_then (answered (stage h position true)) (option_map (λ (rest : List Text). word ∷ rest) o)
          go None = unless_none (turn_fault s [] (stage h position true) word)
          go (Some rest) =
              ap (λ (w : Walk). unless (turn_fault s [] (stage h position true) word) (answered w rest)) (sym walked_on)
              ∙ sym (one_more (stage h position true) word rest)

    by_look : (h : Held) (position : ℕ) (word : Text) (words : List Text) → h.skip ≡ 0
        → answered (after h position word false) words ≡ option_and_then (answered (after h position word true)) (arguments_of words) → Look word
        → answered (stage h position false) (word ∷ words) ≡ option_and_then (answered (stage h position true)) (arguments_of (word ∷ words))
    by_look h position word words none so (separator is) =
        subst (λ (w : Text). answered (stage h position false) (w ∷ words) ≡ option_and_then (answered (stage h position true)) (arguments_of (w ∷ words))) (sym is)
        (at_separator h position words)
    by_look h position word words none so (long dashed other option is_long) = at_long h position word words option other is_long ∙ rw (other, dashed) refl
    by_look h position word words none so (short dashed other no_long x xs is_short first first_is) =
        at_short h position word words x xs first none other no_long is_short first_is ∙ rw (other, dashed) refl
    by_look h position word words none so (plain dashed other no_long no_short) = at_plain h position word words other no_long no_short so ∙ rw (other, dashed) refl

    from_stage : (h : Held) (position : ℕ) (words : List Text) → h.skip ≡ 0 → AreTexts words
        → answered (stage h position false) words ≡ option_and_then (answered (stage h position true)) (arguments_of words)
    from_stage h position [] none texts = at_end h position
    from_stage h position (word ∷ words) none texts =
        by_look h position word words none
        (from_stage (held_after s.rules word h (next h position word)) (place_after (next h position word) position) words
        (skips_none s.rules word h none (next h position word)) texts.1)
        (look_of word texts.0)

    -- clap takes the words as it would take their arguments after a `--`
    pub taken : (words : List Text) → AreTexts words → unless (or_else (level_fault s [] nothing_held words false []) []) (answer (rows_after s.rules [] words))
        ≡ option_and_then (answered (stage nothing_held 1 true)) (arguments_of words)
    taken words texts = unless_either (level_fault s [] nothing_held words false []) [] _ ∙ from_stage nothing_held 1 words refl texts

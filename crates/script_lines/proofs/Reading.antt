-- What a line says, got back from its bytes, whatever its digits and names are. It is no part of a contract: it shows that
-- no line is another one too, and that bytes are no line.
use Rattle.std.proofs.Common.{◌≡◌, ◌≢◌, ℕ, true, false, cond, List, [], ◌∷◌, ◌++◌, codes, decimal, Option, Some, None, refl, sym, ◌∙◌, ap, subst, arith}
use Rattle.std.specs.Str.{bytes_eq}
use Rattle.std.proofs.lemmas.Bool.{false_from_ne_true}
use Rattle.std.proofs.lemmas.List.{append_assoc}
use Rattle.std.proofs.lemmas.Slice.Eq.{bytes_eq-Decides}
use Rattle.script_lines.specs.Grammar.{LineValue, Begin, Push, Finish, Turn, Commit, Abort, Read, Next, Drop, Delete, ListNames, Gc, GcStep, Sweep, Stat, Unique, Reopen, IsLine, IsActor, HasNoSpace}
use Rattle.script_lines.proofs.Bytes.{before_space, after_space, before-word, after-word, before-all, after-all, grouped}
use Rattle.script_lines.proofs.Numbers.{number_has_no_space, actor_in, actor_is, percent_in, percent_is}

abbrev pub of_one : List ℕ → Option LineValue
of_one word =
    cond (bytes_eq word (codes "stat")) (Some Stat)
    (cond (bytes_eq word (codes "unique")) (Some Unique)
    (cond (bytes_eq word (codes "reopen")) (Some Reopen)
    (cond (bytes_eq word (codes "list")) (Some ListNames)
    (cond (bytes_eq word (codes "step")) (Some GcStep)
    (cond (bytes_eq word (codes "sweep")) (Some Sweep) None)))))

abbrev pub of_two : List ℕ → ℕ → Option LineValue
of_two word actor =
    cond (bytes_eq word (codes "begin")) (Some (Begin actor))
    (cond (bytes_eq word (codes "finish")) (Some (Finish actor))
    (cond (bytes_eq word (codes "turn")) (Some (Turn actor))
    (cond (bytes_eq word (codes "abort")) (Some (Abort actor))
    (cond (bytes_eq word (codes "next")) (Some (Next actor))
    (cond (bytes_eq word (codes "drop")) (Some (Drop actor)) None)))))

abbrev pub of_three : List ℕ → ℕ → List ℕ → Option LineValue
of_three word actor argument =
    cond (bytes_eq word (codes "push")) (Some (Push actor argument))
    (cond (bytes_eq word (codes "commit")) (Some (Commit actor argument))
    (cond (bytes_eq word (codes "read")) (Some (Read actor argument)) None))

-- of the first word, the second, and what stands after it
abbrev of_rest : List ℕ → Option ℕ → Option (List ℕ) → Option LineValue
of_rest word None rest = None
of_rest word (Some actor) None = of_two word actor
of_rest word (Some actor) (Some argument) = of_three word actor argument

-- of what stands after `gc`
abbrev pub of_percent : Option ℕ → Option LineValue
of_percent None = None
of_percent (Some percent) = Some (Gc percent)

abbrev of_words : List ℕ → Option (List ℕ) → Option LineValue
of_words word None = of_one word
of_words word (Some rest) =
    cond (bytes_eq word (codes "delete")) (Some (Delete rest))
    (cond (bytes_eq word (codes "gc")) (of_percent (percent_in rest))
    (of_rest word (actor_in (before_space rest)) (after_space rest)))

abbrev pub line_of : List ℕ → Option LineValue
line_of bytes = of_words (before_space bytes) (after_space bytes)

words : (word rest : List ℕ) → HasNoSpace word → line_of (word ++ (32 ∷ rest)) ≡ of_words word (Some rest)
words word rest none = rw (before-word word rest none, after-word word rest none) refl

-- what stands after `delete` is a name, and no actor
pub after_delete : (name : List ℕ) → line_of (codes "delete " ++ name) ≡ Some (Delete name)
after_delete name = words (codes "delete") name refl

-- what stands after `gc` is a percentage
pub after_gc : (number : List ℕ) → line_of (codes "gc " ++ number) ≡ of_percent (percent_in number)
after_gc number = words (codes "gc") number refl

-- an actor stands after all other words
module _ (word : List ℕ) (none : HasNoSpace word) (no_delete : bytes_eq word (codes "delete") ≡ false) (no_gc : bytes_eq word (codes "gc") ≡ false) where
  words_of : (rest : List ℕ) → line_of (word ++ (32 ∷ rest)) ≡ of_rest word (actor_in (before_space rest)) (after_space rest)
  words_of rest = words word rest none ∙ rw (no_delete, no_gc) refl

  pub two_words : (actor : ℕ) → IsActor actor → line_of (word ++ (32 ∷ decimal actor)) ≡ of_two word actor
  two_words actor small =
      let plain = number_has_no_space actor (omega (arith, small)) in
      words_of (decimal actor) ∙ rw (before-all (decimal actor) plain, after-all (decimal actor) plain, actor_is actor small) refl

  pub three_words : (actor : ℕ) (argument : List ℕ) → IsActor actor → line_of (word ++ (32 ∷ (decimal actor ++ (32 ∷ argument)))) ≡ of_three word actor argument
  three_words actor argument small =
      let plain = number_has_no_space actor (omega (arith, small)) in
      words_of (decimal actor ++ (32 ∷ argument)) ∙ rw (before-word (decimal actor) argument plain, after-word (decimal actor) argument plain, actor_is actor small) refl

  -- the second word is no actor's number
  pub no_actor : (second : List ℕ) → HasNoSpace second → actor_in second ≡ None → line_of (word ++ (32 ∷ second)) ≡ None
  no_actor second plain is = words_of second ∙ rw (before-all second plain, is) refl

  pub no_actor_before : (second argument : List ℕ) → HasNoSpace second → actor_in second ≡ None → line_of (word ++ (32 ∷ (second ++ (32 ∷ argument)))) ≡ None
  no_actor_before second argument plain is = words_of (second ++ (32 ∷ argument)) ∙ rw (before-word second argument plain, is) refl

-- a line is what is got back from it
pub got_back : (value : LineValue) (bytes : List ℕ) → IsLine value bytes → line_of bytes ≡ Some value
got_back (Begin a) bytes line = ap line_of line.1 ∙ two_words (codes "begin") refl refl refl a line.0
got_back (Push a digits) bytes line = ap line_of (line.2 ∙ grouped (codes "push ") (decimal a) digits) ∙ three_words (codes "push") refl refl refl a digits line.0
got_back (Finish a) bytes line = ap line_of line.1 ∙ two_words (codes "finish") refl refl refl a line.0
got_back (Turn a) bytes line = ap line_of line.1 ∙ two_words (codes "turn") refl refl refl a line.0
got_back (Commit a name) bytes line = ap line_of (line.2 ∙ grouped (codes "commit ") (decimal a) name) ∙ three_words (codes "commit") refl refl refl a name line.0
got_back (Abort a) bytes line = ap line_of line.1 ∙ two_words (codes "abort") refl refl refl a line.0
got_back (Read a name) bytes line = ap line_of (line.2 ∙ grouped (codes "read ") (decimal a) name) ∙ three_words (codes "read") refl refl refl a name line.0
got_back (Next a) bytes line = ap line_of line.1 ∙ two_words (codes "next") refl refl refl a line.0
got_back (Drop a) bytes line = ap line_of line.1 ∙ two_words (codes "drop") refl refl refl a line.0
got_back (Delete name) bytes line = ap line_of line.1 ∙ after_delete name
got_back ListNames bytes line = ap line_of line
got_back (Gc percent) bytes line = ap line_of line.1 ∙ after_gc (decimal percent) ∙ ap of_percent (percent_is percent line.0)
got_back GcStep bytes line = ap line_of line
got_back Sweep bytes line = ap line_of line
got_back Stat bytes line = ap line_of line
got_back Unique bytes line = ap line_of line
got_back Reopen bytes line = ap line_of line

-- bytes are one line at most
pub same_line : (bytes : List ℕ) (one other : LineValue) → IsLine one bytes → IsLine other bytes → one ≡ other
same_line bytes one other first second =
    let back = got_back one bytes first in
    let again = got_back other bytes second in
    cc

-- nothing is got back, so it is no line
pub no_line : (bytes : List ℕ) → line_of bytes ≡ None → (value : LineValue) → IsLine value bytes → ⊥
no_line bytes none value line =
    let back = got_back value bytes line in
    cc

-- what is got back is no line, so nothing is one
pub no_other_line : (bytes : List ℕ) (found : LineValue) → line_of bytes ≡ Some found → (IsLine found bytes → ⊥) → (value : LineValue) → IsLine value bytes → ⊥
no_other_line bytes found is never value line =
    let back = got_back value bytes line in
    let same : value ≡ found = cc in
    never (subst (λ (v : LineValue). IsLine v bytes) same line)

-- the first word is none that a number alone follows
pub not_two : (word : List ℕ) (actor : ℕ) → false ≡ bytes_eq word (codes "begin") → false ≡ bytes_eq word (codes "finish") → false ≡ bytes_eq word (codes "turn") →
    false ≡ bytes_eq word (codes "abort") → false ≡ bytes_eq word (codes "next") → false ≡ bytes_eq word (codes "drop")
    → of_two word actor ≡ None
not_two word actor begin finish turn abort next drop = rw (sym begin, sym finish, sym turn, sym abort, sym next, sym drop) refl

-- the first word is none that a number and an argument follow
pub not_three : (word : List ℕ) (actor : ℕ) (argument : List ℕ) → false ≡ bytes_eq word (codes "push") → false ≡ bytes_eq word (codes "commit") →
    false ≡ bytes_eq word (codes "read")
    → of_three word actor argument ≡ None
not_three word actor argument push commit read = rw (sym push, sym commit, sym read) refl

-- the bytes of a line of three words, of its words
pub spelled_three : (word text : List ℕ) (actor : ℕ) (argument : List ℕ) → true ≡ bytes_eq word text
    → word ++ (32 ∷ (decimal actor ++ (32 ∷ argument))) ≡ (((text ++ (32 ∷ [])) ++ decimal actor) ++ (32 ∷ [])) ++ argument
spelled_three word text actor argument same =
    let is = (bytes_eq-Decides word text).0 (sym same) in
    rw is (simp append_assoc)

-- it is no line, since its argument isn't one that the word takes
pub no_three : (word text : List ℕ) (actor : ℕ) (argument : List ℕ) (found : LineValue) → HasNoSpace word → bytes_eq word (codes "delete") ≡ false →
    bytes_eq word (codes "gc") ≡ false → IsActor actor → true ≡ bytes_eq word text → of_three text actor argument ≡ Some found
    → (IsLine found (word ++ (32 ∷ (decimal actor ++ (32 ∷ argument)))) → ⊥) → (value : LineValue) → IsLine value (word ++ (32 ∷ (decimal actor ++ (32 ∷ argument)))) → ⊥
no_three word text actor argument found none no_delete no_gc small same three =
    let is = (bytes_eq-Decides word text).0 (sym same) in
    no_other_line _ found (three_words word none no_delete no_gc actor argument small ∙ ap (λ (w : List ℕ). of_three w actor argument) is ∙ three)

-- another word is told from this one
pub not_word : (word text : List ℕ) → word ≢ text → bytes_eq word text ≡ false
not_word word text other = false_from_ne_true (bytes_eq word text) (λ is. other ((bytes_eq-Decides word text).0 is))

-- The lines of a file that was given: a push more, its end, and its name.
use Rattle.backup_engine.proofs.Prelude.{◌≡◌, ◌⊎◌, inl, inr, ◌∙◌, ◌+◌, ℕ, true, false, None, List, [], ◌∷◌, ◌++◌, length, refl, sym, ap, subst, arith, Bool, cond, ◌||◌, Some, ◌≤◌, IsBytes, Answer, SourceView, Replied, Refusal, pushed_bytes, RunsLine, TurnRun, TurnsStopped, CoreState, SessionState, SaysAll, SaysPushed, giving, Digits, finish_lines, push_lines, pushed, refused, said}
use Rattle.std.proofs.Common.{length-append, is_some}
use Rattle.std.specs.Result.{result_unwrap_or}
use Rattle.std.specs.List.{list_all}
use Rattle.std.specs.Char.{is_ascii_hexdigit}
use Rattle.std.specs.Int.{is_in_range}
use Rattle.std.proofs.lemmas.List.Sums.{list_all-from_AllPass}
use Rattle.hex.specs.Hex.{encode_lower, is_hex_digit}
use Rattle.hex.proofs.HexLemmas.{decode_of-encode_lower, decode_of-ok}
use Rattle.script_lines.specs.Grammar as lines
use Rattle.script_lines.specs.ReplyValue as replies
use Rattle.session_turns.specs.declared.turns.TheConstants.{MOST_PIECE}
use Rattle.backup_engine.specs.Saying.{Says}
use Rattle.backup_engine.specs.Singles.{StopsAt}
use Rattle.backup_engine.proofs.Saying.{finish_goes_on, line_after, one_push_more, pushed_more, pushes_go_on}
use Rattle.backup_engine.proofs.SayingSteps.{commit_refused}

-- ---- digits that stand for some bytes

same_tests : (upper lower digit : Bool) (x y z : ℕ) → is_some (cond upper (Some x) (cond lower (Some y) (cond digit (Some z) None))) ≡ ((digit || upper) || lower)
same_tests true true true x y z = refl
same_tests true true false x y z = refl
same_tests true false true x y z = refl
same_tests true false false x y z = refl
same_tests false true true x y z = refl
same_tests false true false x y z = refl
same_tests false false true x y z = refl
same_tests false false false x y z = refl

same_digit : (c : ℕ) → is_hex_digit c ≡ is_ascii_hexdigit c
same_digit c = same_tests (is_in_range 65 70 c) (is_in_range 97 102 c) (is_in_range 48 57 c) _ _ _

same_digits : (digits : List ℕ) → list_all is_hex_digit digits ≡ list_all is_ascii_hexdigit digits
same_digits [] = refl
same_digits (digit ∷ digits) = rw (same_digit digit, same_digits digits) refl

pub digits_for : (bytes : List ℕ) → IsBytes bytes → 1 ≤ length bytes → length bytes ≤ MOST_PIECE → (d : Digits) × (pushed_bytes d.digits ≡ bytes)
digits_for bytes each some few =
    let back = decode_of-encode_lower bytes each in
    let ok = decode_of-ok (encode_lower bytes) bytes back in
    let long = ok.2 in (
      record {
        digits = encode_lower bytes;
        right = record {
          some = omega (arith, long, some);
          even = ok.0;
          each = sym (same_digits (encode_lower bytes)) ∙ list_all-from_AllPass is_hex_digit (encode_lower bytes) ok.1;
        };
        few = omega (arith, long, few);
      },
      ap (λ (r : _). result_unwrap_or r []) back,
    )

-- the line of the end, with its reply
abbrev finished : ℕ → Replied
finished count = said (lines.Finish 0) (replies.Finished 0 count)

module _ (C : Type 0) (state : C → CoreState) where
  -- one push more
  pub says_more : (s t u : SessionState) (old mid new : C) (taken piece : List ℕ) (digits : Digits) → pushed_bytes digits.digits ≡ piece → SaysPushed C state taken s t old mid
      → RunsLine C state (lines.Push 0 digits.digits) (replies.Pushed 0 (length (taken ++ piece))) (giving mid t) (giving new u) → SaysPushed C state (taken ++ piece) s u old new
  says_more s t u old mid new taken piece digits same says last =
      let pushes = says.0 in
      let count = 0 + length (pushed pushes) + length (pushed_bytes digits.digits) in
      let one = says.1.0 in
      let parts = length-append taken piece in
      let first : length (pushed pushes) ≡ length taken = ap length one in
      let second : length (pushed_bytes digits.digits) ≡ length piece = ap length same in
      let counted : length (taken ++ piece) ≡ count = omega (arith, parts, first, second) in
      let line = subst (λ (n : ℕ). RunsLine C state (lines.Push 0 digits.digits) (replies.Pushed 0 n) (giving mid t) (giving new u)) counted last in (
        pushes ++ digits ∷ [],
        (
          pushed_more pushes digits ∙ ap (λ (l : List ℕ). l ++ pushed_bytes digits.digits) one ∙ ap (λ (l : List ℕ). taken ++ l) same,
          subst (λ (rs : List Replied). Says C state rs s u old new) (sym (one_push_more 0 pushes digits))
              (line_after C state (push_lines 0 pushes) (said (lines.Push 0 digits.digits) (replies.Pushed 0 count)) (giving old s) (giving mid t) (giving new u)
              (pushes_go_on 0 pushes) refl says.1.1 line),
        ),
      )

  -- the file ended
  pub record HasEnded (t : SessionState) (mid : C) (given : List ℕ) : Type 0 where
    pub before : SessionState
    pub on : before.ended ≡ true
    pub runs : (state mid).stop ≡ None
    pub line : RunsLine C state (lines.Finish 0) (replies.Finished 0 (length given)) (giving mid t) (giving mid before)

  -- and turns were made
  abbrev pub EndsSaying : SessionState → SessionState → C → C → List ℕ → Type 0
  EndsSaying t u mid new given = (ends : HasEnded t mid given) × ((answers_are : List Answer) × TurnRun C state 0 answers_are ends.before u mid new)

  -- or it didn't end, or a turn was refused
  abbrev pub StopsSaying : SessionState → SessionState → C → C → List ℕ → Refusal → Type 0
  StopsSaying t u mid new given refusal =
      RunsLine C state (lines.Finish 0) (replies.Refused refusal) (giving mid t) (giving new u)
      ⊎ ((ends : HasEnded t mid given) × TurnsStopped C state 0 refusal ends.before u mid new)

  module _ (s t u : SessionState) (old mid new : C) (given : List ℕ) (says : SaysPushed C state given s t old mid) where
    abbrev pushes : List Digits
    pushes = says.0

    ended : (before : SessionState) → RunsLine C state (lines.Finish 0) (replies.Finished 0 (length given)) (giving mid t) (giving mid before) →
        Says C state (finish_lines pushes) s before old mid
    ended before line =
        line_after C state (push_lines 0 pushes) (finished (length (pushed pushes))) (giving old s) (giving mid t) (giving mid before) (pushes_go_on 0 pushes) refl says.1.1
        (subst (λ (n : ℕ). RunsLine C state (lines.Finish 0) (replies.Finished 0 n) (giving mid t) (giving mid before)) (ap length (sym says.1.0)) line)

    pub says_all : EndsSaying t u mid new given → SaysAll C state given s u old new
    says_all ends = record {
      pushes = pushes;
      all = says.1.0;
      mid = mid;
      before = ends.0.before;
      on = ends.0.on;
      runs = ends.0.runs;
      says = ended ends.0.before ends.0.line;
      answers_are = ends.1.0;
      turns = ends.1.1;
    }

    pub says_stop : (source source_now : SourceView) (refusal : Refusal) → StopsSaying t u mid new given refusal → (name : List ℕ) →
        (rs : List Replied) × (StopsAt name given source source_now refusal rs × Says C state rs s u old new)
    says_stop source source_now refusal (inl line) name = (
      push_lines 0 pushes ++ refused (lines.Finish 0) refusal ∷ [],
      (
        (pushes, inr (inl (says.1.0, refl))),
        line_after C state (push_lines 0 pushes) (refused (lines.Finish 0) refusal) (giving old s) (giving mid t) (giving new u) (pushes_go_on 0 pushes) refl says.1.1 line,
      ),
    )
    says_stop source source_now refusal (inr ends) name = (
      finish_lines pushes ++ refused (lines.Commit 0 name) refusal ∷ [],
      (
        (pushes, inr (inr (says.1.0, refl))),
        line_after C state (finish_lines pushes) (refused (lines.Commit 0 name) refusal) (giving old s) (giving mid ends.0.before) (giving new u) (finish_goes_on pushes) refl
            (ended ends.0.before ends.0.line)
            (commit_refused C state mid new ends.0.before u ends.0.runs ends.0.on name refusal (inl ends.1)),
      ),
    )

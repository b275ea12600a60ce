-- What is cut by the lines of an `ingest` are segments of its file.
use Rattle.backup_engine.proofs.Prelude.{◌≡◌, ◌+◌, inl, inr, ℕ, zero, suc, true, false, List, [], ◌∷◌, ◌++◌, length, Option, Some, None, refl, sym, ◌∙◌, ap, subst, slice_index_or, pushed_bytes, IsSegmentOf, FileMachine, desk, Session, Stepped, of_files, FileDesk, IsCutAt, IsCutBy, Digits, push_lines, pushed}
use Rattle.std.proofs.Common.{replicate, append_assoc}
use Rattle.std.proofs.lemmas.List.{append-nil}
use Rattle.std.specs.Prelude.{slice_set}
use Rattle.script_lines.specs.Grammar as lines
use Rattle.script_lines.specs.ReplyValue as replies
use Rattle.store_machine.specs.Lines.{AreTurns, Line, new_session}
use Rattle.backup_engine.proofs.IngestTails.{Commit, Finish, IsTail, Nothing, Push, Tail, put_lines, tail_lines}
use Rattle.backup_engine.proofs.NoneCut.{none_cut, none_gives}

-- only the first actor gives a file, and this is what it gave
abbrev Gives : Option Session → FileDesk → Type 0
Gives s d = ◌≡◌ {A = List (Option Session)} d.sessions (s ∷ replicate 63 None)

some_session : (s t : Session) → ◌≡◌ {A = Option Session} (Some s) (Some t) → s ≡ t
some_session s t is = cc

-- turns leave what was given
turns_keep : (a : ℕ) (xs : List (Stepped (List ℕ))) (s t : Session) → AreTurns of_files a xs s t → (t.given ≡ s.given) × (t.ended ≡ s.ended)
turns_keep a [] s t is = (ap (λ (x : Session). x.given) is, ap (λ (x : Session). x.ended) is)
turns_keep a (x ∷ xs) s t (actor, due, (answer, told, more)) = turns_keep a xs (record s { answers = s.answers ++ answer ∷ [] }) t more

module _ (given name : List ℕ) where
  -- what is cut there is a segment of a file that goes on so
  cut_there : (d : FileDesk) (s : Session) (rest bytes : List ℕ) → Gives (Some s) d → given ≡ s.given ++ rest → (s.ended ≡ true → rest ≡ []) → IsCutAt d bytes
      → IsSegmentOf given bytes
  cut_there d s rest bytes gives is over (zero, (t, (has, cut))) =
      let own : s ≡ t = some_session s t (sym (ap (λ (l : List (Option Session)). slice_index_or l 0 None) gives) ∙ has) in
      subst (λ (l : List ℕ). IsSegmentOf l bytes) (sym is)
      (subst (λ (x : Session). IsSegmentOf (x.given ++ rest) bytes) (sym own) (cut rest (λ ended. over (ap (λ (x : Session). x.ended) own ∙ ended))))
  cut_there d s rest bytes gives is over (suc actor, (t, (has, cut))) =
      let none = ap (λ (l : List (Option Session)). slice_index_or l (suc actor) None) gives ∙ none_gives 63 actor in
      absurd (let both : Some t ≡ None = sym has ∙ none in cc)

  ongoing : (s : Session) (rest : List ℕ) → s.ended ≡ false → s.ended ≡ true → rest ≡ []
  ongoing s rest goes ended = absurd (let both : false ≡ true = sym goes ∙ ended in cc)

  -- ---- the lines

  begin_gives : (ss : List (Stepped (List ℕ))) (d e : FileDesk) → Gives None d → Line of_files (lines.Begin 0) (replies.Begun 0) ss d e → Gives (Some new_session) e
  begin_gives ss d e none (run, inl (admits, (sessions, acts))) = sessions ∙ ap (λ (l : List (Option Session)). slice_set l 0 (Some new_session)) none
  begin_gives ss d e none (run, inr (refusal, bars, is, no_steps, sessions)) = absurd (let no : replies.Begun 0 ≡ replies.Refused refusal = is in cc)

  -- a push that was done
  push_gives : (digits : List ℕ) (count : ℕ) (ss : List (Stepped (List ℕ))) (d e : FileDesk) (s : Session) → Gives (Some s) d
      → Line of_files (lines.Push 0 digits) (replies.Pushed 0 count) ss d e
      → (t : Session) × (Gives (Some t) e × (t.given ≡ s.given ++ pushed_bytes digits) × (t.ended ≡ s.ended))
  push_gives digits count ss d e s gives (run, inl (admits, (x, t, (was, sessions), room, inl (turns, how)))) =
      let own : s ≡ x = some_session s x (sym (ap (λ (l : List (Option Session)). slice_index_or l 0 None) gives) ∙ was) in
      let kept = turns_keep 0 ss x t turns in (
        record t { given = t.given ++ pushed_bytes digits },
        (
          sessions ∙ ap (λ (l : List (Option Session)). slice_set l 0 (Some (record t { given = t.given ++ pushed_bytes digits }))) gives,
          ap (λ (l : List ℕ). l ++ pushed_bytes digits) (kept.0 ∙ ap (λ (y : Session). y.given) (sym own)),
          kept.1 ∙ ap (λ (y : Session). y.ended) (sym own),
        ),
      )
  push_gives digits count ss d e s gives (run, inl (admits, (x, t, moves, room, inr (made, turns, (refusal, is, how))))) =
      absurd (let no : replies.Pushed 0 count ≡ replies.Refused refusal = is in cc)
  push_gives digits count ss d e s gives (run, inr (refusal, bars, is, no_steps, sessions)) = absurd (let no : replies.Pushed 0 count ≡ replies.Refused refusal = is in cc)

  finish_gives : (count : ℕ) (ss : List (Stepped (List ℕ))) (d e : FileDesk) (s : Session) → Gives (Some s) d
      → Line of_files (lines.Finish 0) (replies.Finished 0 count) ss d e → Gives (Some (record s { ended = true })) e
  finish_gives count ss d e s gives (run, inl (admits, (x, (was, sessions), none, how))) =
      let own : s ≡ x = some_session s x (sym (ap (λ (l : List (Option Session)). slice_index_or l 0 None) gives) ∙ was) in
      subst (λ (y : Session). Gives (Some (record y { ended = true })) e) (sym own)
      (sessions ∙ ap (λ (l : List (Option Session)). slice_set l 0 (Some (record x { ended = true }))) gives)
  finish_gives count ss d e s gives (run, inr (refusal, bars, is, no_steps, sessions)) = absurd (let no : replies.Finished 0 count ≡ replies.Refused refusal = is in cc)

  -- ---- what they cut

  -- by the lines after the pushes
  tail_cut : (all : List Digits) (tail : Tail) → IsTail given name all tail → (d : FileDesk) (s : Session) → Gives (Some s) d → s.ended ≡ false → s.given ≡ pushed all
      → (bytes : List ℕ) → IsCutBy (tail_lines given name all tail) d bytes → IsSegmentOf given bytes
  tail_cut all Nothing is d s gives goes gave bytes cut = absurd cut
  tail_cut all (Push digits refusal) (rest, is) d s gives goes gave bytes (inl cut) =
      cut_there d s (pushed_bytes digits ++ rest) bytes gives
      (is ∙ append_assoc (pushed all) (pushed_bytes digits) rest ∙ ap (λ (l : List ℕ). l ++ (pushed_bytes digits ++ rest)) (sym gave))
      (ongoing s (pushed_bytes digits ++ rest) goes)
      cut
  tail_cut all (Push digits refusal) is d s gives goes gave bytes (inr (steps, (mid, (line, cut)))) = absurd cut
  tail_cut all (Finish refusal) is d s gives goes gave bytes (inl cut) =
      cut_there d s [] bytes gives (sym is ∙ sym gave ∙ sym (append-nil s.given)) (ongoing s [] goes) cut
  tail_cut all (Finish refusal) is d s gives goes gave bytes (inr (steps, (mid, (line, cut)))) = absurd cut
  tail_cut all (Commit reply) is d s gives goes gave bytes (inl cut) =
      cut_there d s [] bytes gives (sym is ∙ sym gave ∙ sym (append-nil s.given)) (ongoing s [] goes) cut
  tail_cut all (Commit reply) is d s gives goes gave bytes (inr (steps, (mid, (line, inl cut)))) =
      cut_there mid (record s { ended = true }) [] bytes (finish_gives (length (pushed all)) steps d mid s gives line) (sym is ∙ sym gave ∙ sym (append-nil s.given)) (λ over. refl)
      cut
  tail_cut all (Commit reply) is d s gives goes gave bytes (inr (steps, (mid, (line, inr (more, (last, (commits, cut))))))) = absurd cut

  -- what pushes give comes first of the file
  tail_first : (all : List Digits) (tail : Tail) → IsTail given name all tail → (rest : List ℕ) × (given ≡ pushed all ++ rest)
  tail_first all Nothing is = is
  tail_first all (Push digits refusal) (rest, is) = (pushed_bytes digits ++ rest, is ∙ append_assoc (pushed all) (pushed_bytes digits) rest)
  tail_first all (Finish refusal) is = ([], sym is ∙ sym (append-nil (pushed all)))
  tail_first all (Commit reply) is = ([], sym is ∙ sym (append-nil (pushed all)))

  pushes_cut : (all : List Digits) (tail : Tail) → IsTail given name all tail → (count : ℕ) (pushes : List Digits) (d : FileDesk) (s : Session) → Gives (Some s) d
      → s.ended ≡ false → s.given ++ pushed pushes ≡ pushed all → (bytes : List ℕ) → IsCutBy (push_lines count pushes ++ tail_lines given name all tail) d bytes
      → IsSegmentOf given bytes
  pushes_cut all tail is count [] d s gives goes gave bytes cut = tail_cut all tail is d s gives goes (sym (append-nil s.given) ∙ gave) bytes cut
  pushes_cut all tail is count (p ∷ more) d s gives goes gave bytes (inl cut) =
      let first = tail_first all tail is in
      cut_there d s (pushed (p ∷ more) ++ first.0) bytes gives
      (first.1 ∙ ap (λ (l : List ℕ). l ++ first.0) (sym gave) ∙ append_assoc s.given (pushed (p ∷ more)) first.0) (ongoing s (pushed (p ∷ more) ++ first.0) goes) cut
  pushes_cut all tail is count (p ∷ more) d s gives goes gave bytes (inr (steps, (mid, (line, cut)))) =
      let t = push_gives p.digits (count + length (pushed_bytes p.digits)) steps d mid s gives line in
      pushes_cut all tail is (count + length (pushed_bytes p.digits)) more mid t.0 t.1.0 (t.1.2 ∙ goes)
      (ap (λ (l : List ℕ). l ++ pushed more) t.1.1 ∙ append_assoc s.given (pushed_bytes p.digits) (pushed more) ∙ gave) bytes cut

  pub put_cut : (pushes : List Digits) (tail : Tail) → IsTail given name pushes tail → (m : FileMachine) (bytes : List ℕ)
      → IsCutBy (put_lines given name pushes tail) (desk m) bytes → IsSegmentOf given bytes
  put_cut pushes tail is m bytes (inl cut) = absurd (none_cut (desk m) refl bytes cut)
  put_cut pushes tail is m bytes (inr (steps, (mid, (line, cut)))) =
      pushes_cut pushes tail is 0 pushes mid new_session (begin_gives steps (desk m) mid refl line) refl refl bytes cut

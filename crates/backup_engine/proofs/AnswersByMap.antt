-- A command answers by the map where its lines say how it ended, and what was written.
use Rattle.backup_engine.proofs.Prelude.{◌≡◌, ◌⊎◌, inl, inr, ℕ, IsTrue, List, [], ◌∷◌, Option, Some, Err, refl, sym, ◌∙◌, ap, subst, DiskView, SinkView, SourceView, Refusal, Refused, IsIn, FileMachine, AllFollow, Lines, Replied, desk, of_files, MayStand, RunsByFiles, CommandLine, DoesCommand, Speaks, SpeaksAs, said}
use Rattle.std.proofs.lemmas.List.{append-nil}
use Rattle.base_model.specs.Known.{Appended, KnownWith}
use Rattle.reply_text.specs.declared.ending.Ending.{Ending}
use Rattle.script_lines.specs.Grammar as lines
use Rattle.script_lines.specs.ReplyValue.{ReplyValue}
use Rattle.script_lines.specs.ReplyValue as replies
use Rattle.store_model.specs.Collisions.{ByteSet, HasNoCollisions}
use Rattle.store_state.specs.Refused.{fails}
use Rattle.store_machine.specs.ByMap.{Through}
use Rattle.store_machine.specs.Commands.{AreLinesOf, EndsWith, given_by, printed}
use Rattle.store_machine.specs.Machine.{Found, RunState, Running, Stepped}
use Rattle.store_machine.specs.Opening.{GivesBackSome, MayBeFound, freeing}
use Rattle.refusals.specs.declared.refusal.Refusal.TheVariants.{DiskWrite}
use Rattle.backup_engine.specs.Line as table
use Rattle.backup_engine.specs.Line.{Collect, Delete, Format, Ingest, Restore}
use Rattle.script_runner.specs.LinesAreFileRuns.{FileDesk}
use Rattle.core_machine.specs.FileOpenings.{Reopens, opening}
use Rattle.backup_engine.specs.AnswersByMap.{AnswersByMap, ComesTo, EndsAs, Gave, IsAfter, KeepsBytes, WritesRefused, WritesText, command_of}
use Rattle.backup_engine.specs.ByFiles.{CutsAmong, RefusedByFiles}
use Rattle.backup_engine.proofs.AtLines.{all_lines, all_steps, crash_by, last, ran}
use Rattle.backup_engine.proofs.Ran.{Silent}
use Rattle.backup_engine.specs.Seen.{devices, disk_and_sink}

-- what a call said, whatever room was made before
pub told : (D : Type 0) (view : D → DiskView) (command : CommandLine) (given : List ℕ) (rs : List Replied) (ending : Option Ending) (disk disk_now : DiskView)
    (source source_now : SourceView) (sink sink_now : SinkView) (AreSo : List Replied → Type 0)
    → ((v : DiskView) → SpeaksAs command given ending rs (devices v disk_now source source_now sink sink_now) → Speaks AreSo ending rs v disk_now sink sink_now)
    → DoesCommand D view command given rs ending (devices disk disk_now source source_now sink sink_now) → AreSo rs ⊎ Silent ending rs sink sink_now
told D view command given rs ending disk disk_now source source_now sink sink_now AreSo says does = elim does.way [
  | inl (inl ((keeps, speaks), no_room)) ↦ spoke disk (says disk speaks)
  | inl (inr (mid, (made, later, (keeps, speaks)))) ↦ spoke (view mid) (says (view mid) speaks)
  | inr none ↦ inr (record {
    none = none.none;
    refusal = none.refusal;
    ending_is = none.ending_is;
    wrote = ap (λ (s : SinkView). s.written) none.sink_is;
  })
]
  where
    spoke : (v : DiskView) → Speaks AreSo ending rs v disk_now sink sink_now → AreSo rs ⊎ Silent ending rs sink sink_now
    spoke v (inl are) = inl are
    spoke v (inr none) = inr (record { none = none.none; refusal = none.refusal; ending_is = none.ending_is; wrote = none.wrote })

-- nothing was written
pub none_appended : (before now : Option (List ℕ)) → now ≡ before → Appended before now []
none_appended before now same = record { is = λ old known. same ∙ known ∙ ap (λ (b : List ℕ). Some b) (sym (append-nil old)) }

abbrev pub opened_line : ℕ → Replied
opened_line files = said lines.Reopen (replies.Opened files)

-- the map as it was is one that a command which was refused may leave
pub stays_after : (command : CommandLine) (given : List ℕ) (refusal : Refusal) (now x : Found (List ℕ)) → x ≡ now → IsAfter command given (Some (Refused refusal)) now x
stays_after command given DiskWrite now x same = inl same
stays_after command given refusal now x same = same

-- What a command says of lines that it ran: each follows the one before it, they gave what the source had, the ending is theirs, and so is what
-- may be found then, and what was written.
pub record Says (command : CommandLine) (given : List ℕ) (ending : Option Ending) (rs : List Replied) (sink sink_now : SinkView) : Type 0 where
  pub follow : (files : ℕ) → AllFollow (command_of command) (opened_line files) rs
  pub gave : (files : ℕ) → Gave command given (opened_line files ∷ rs)
  pub ended : (files : ℕ) → EndsAs (command_of command) (opened_line files ∷ rs) ending
  pub found : (files : ℕ) (m n : FileMachine) → ComesTo command (opened_line files ∷ rs) m n → (x : Found (List ℕ)) → MayBeFound of_files n.state n.now x
      → IsAfter command given ending m.now x
  pub wrote : (files : ℕ) (m n : FileMachine) → ComesTo command (opened_line files ∷ rs) m n
      → WritesText (command_of command) ending (printed (command_of command) (given_by 0 [] (opened_line files ∷ rs)) (opened_line files ∷ rs)) sink sink_now

-- the machine's law of the command
abbrev pub ComesByMap : CommandLine → Type 0
ComesByMap command = (rs : List Replied) (ss : List (Stepped (List ℕ))) (m : FileMachine) (e : FileDesk) → m.state ≡ Running
    → AreLinesOf (command_of command) rs → Lines of_files rs ss (desk m) e → ComesTo command rs m e.machine

-- ---- no line was run

opening_gave : (command : CommandLine) (given : List ℕ) (reply : ReplyValue) → Gave command given (said lines.Reopen reply ∷ [])
opening_gave (Format slots) given reply = tt
opening_gave (Ingest name) given reply = ((given, refl), λ commits. absurd (by commits))
  where
    by : EndsWith (λ one. one.line ≡ lines.Commit 0 name) (said lines.Reopen reply ∷ []) → ⊥
    by (last, is, commits) =
        let same : said lines.Reopen reply ≡ last = (let both : Some (said lines.Reopen reply) ≡ Some last = is in cc) in
        let no : lines.Reopen ≡ lines.Commit 0 name = ap (λ (x : Replied). x.line) same ∙ commits in cc
opening_gave (Restore name) given reply = tt
opening_gave (Delete name) given reply = tt
opening_gave table.List given reply = tt
opening_gave (Collect percent) given reply = tt

-- the replies to an opening print nothing
opening_printed : (command : CommandLine) (given : List ℕ) (sink sink_now : SinkView) → sink_now.written ≡ sink.written → (files : ℕ) (reason : Refusal)
    → WritesRefused (command_of command) (printed (command_of command) given (opened_line files ∷ [])) sink sink_now
    × WritesRefused (command_of command) (printed (command_of command) given (said lines.Reopen (replies.Refused reason) ∷ [])) sink sink_now
opening_printed (Format slots) given sink sink_now same files reason = (same, same)
opening_printed (Ingest name) given sink sink_now same files reason = (same, same)
opening_printed (Restore name) given sink sink_now same files reason =
    (none_appended sink.written sink_now.written same, none_appended sink.written sink_now.written same)
opening_printed (Delete name) given sink sink_now same files reason = (same, same)
opening_printed table.List given sink sink_now same files reason = (same, same)
opening_printed (Collect percent) given sink sink_now same files reason = (same, same)

module _ (S : List ℕ → Type 0) (command : CommandLine) (given : List ℕ) (rs : List Replied) (m : FileMachine) (v w : DiskView) (sink sink_now : SinkView)
    (running : m.state ≡ Running) (law : ComesByMap command) (through : Through (command_of command))
    (keeps : (runs : RunsByFiles S rs m v w) → KeepsBytes command (all_lines S rs m v w runs) m (last S rs m v w runs) v w) where
  -- lines were run
  said_answers : (ending : Option Ending) → Says command given ending rs sink sink_now → RunsByFiles S rs m v w
      → AnswersByMap S command given rs ending m (disk_and_sink v sink) (disk_and_sink w sink_now)
  said_answers ending says runs =
      let are : AreLinesOf (command_of command) (all_lines S rs m v w runs) = (refl, says.follow runs.files) in
      let comes = law (all_lines S rs m v w runs) (all_steps S rs m v w runs) m runs.next running are (ran S rs m v w runs) in
      record {
        first = replies.Opened runs.files;
        begins = tt;
        next = last S rs m v w runs;
        comes = comes;
        gave = says.gave runs.files;
        ended = says.ended runs.files;
        found = says.found runs.files m (last S rs m v w runs) comes;
        wrote = says.wrote runs.files m (last S rs m v w runs) comes;
        left = (runs.stands, crash_by S rs m v w runs running (command_of command) are through);
        bytes = keeps runs;
      }

  -- none was
  module _ (refusal : Refusal) (none : rs ≡ []) (same : sink_now.written ≡ sink.written) where
    -- but the store was opened
    opened_still : (runs : RunsByFiles S rs m v w) → (x : Found (List ℕ)) → MayBeFound of_files (last S rs m v w runs).state (last S rs m v w runs).now x → x ≡ m.now
    opened_still runs x may =
        let none_ran = subst (λ (l : List Replied). Lines of_files l runs.steps (desk runs.opened) runs.next) none runs.lines_are in
        let at : MayBeFound of_files runs.opened.state runs.opened.now x = subst (λ (e : FileDesk). MayBeFound of_files e.machine.state e.machine.now x) none_ran.1 may in
        let is : x ≡ runs.opened.now =
        subst (λ (state : RunState (List ℕ)). MayBeFound of_files state runs.opened.now x) (ap (λ (n : FileMachine). n.state) runs.opens.others) at in
        is ∙ ap (λ (n : FileMachine). n.now) runs.opens.others
        ∙ subst (λ (state : RunState (List ℕ)). MayBeFound of_files state m.now runs.opens.found) running (runs.opens.may tt)

    no_line_answers : IsTrue (fails refusal) → RunsByFiles S rs m v w → AnswersByMap S command given rs (Some (Refused refusal)) m (disk_and_sink v sink) (disk_and_sink w sink_now)
    no_line_answers fails_so runs =
        let are : AreLinesOf (command_of command) (all_lines S rs m v w runs) =
        (refl, subst (AllFollow (command_of command) (opened_line runs.files)) (sym none) tt) in
        record {
          first = replies.Opened runs.files;
          begins = tt;
          next = last S rs m v w runs;
          comes = law (all_lines S rs m v w runs) (all_steps S rs m v w runs) m runs.next running are (ran S rs m v w runs);
          gave = subst (λ (l : List Replied). Gave command given (opened_line runs.files ∷ l)) (sym none) (opening_gave command given (replies.Opened runs.files));
          ended = inr fails_so;
          found = λ x may. stays_after command given refusal m.now x (opened_still runs x may);
          wrote = subst (λ (l : List Replied). WritesText (command_of command) (Some (Refused refusal))
              (printed (command_of command) (given_by 0 [] (opened_line runs.files ∷ l)) (opened_line runs.files ∷ l)) sink sink_now) (sym none)
              (opening_printed command [] sink sink_now same runs.files refusal).0;
          left = (runs.stands, crash_by S rs m v w runs running (command_of command) are through);
          bytes = keeps runs;
        }

    -- or it was not
    unopened_still : (n : FileMachine) → (n ≡ m) ⊎ GivesBackSome of_files refusal m n → (x : Found (List ℕ)) → MayBeFound of_files n.state n.now x → x ≡ m.now
    unopened_still n (inl is) x may =
        let at : MayBeFound of_files m.state m.now x = subst (λ (k : FileMachine). MayBeFound of_files k.state k.now x) is may in
        subst (λ (state : RunState (List ℕ)). MayBeFound of_files state m.now x) running at
    unopened_still n (inr (stores, is, why, known)) x may =
        let at : MayBeFound of_files (freeing of_files stores m.state) m.now x = subst (λ (k : FileMachine). MayBeFound of_files k.state k.now x) is may in
        subst (λ (state : RunState (List ℕ)). MayBeFound of_files (freeing of_files stores state) m.now x) running at

    unopened_answers : RefusedByFiles S (Some (Refused refusal)) rs m v w
        → AnswersByMap S command given rs (Some (Refused refusal)) m (disk_and_sink v sink) (disk_and_sink w sink_now)
    unopened_answers refused =
        let reason : refused.refusal ≡ refusal = (let both : Some (Refused refused.refusal) ≡ Some (Refused refusal) = sym refused.ending_is in cc) in
        let opens : Reopens 0 (Err refusal) m refused.next = subst (λ (r : Refusal). Reopens 0 (Err r) m refused.next) reason refused.opens in
        subst (λ (l : List Replied). AnswersByMap S command given l (Some (Refused refusal)) m (disk_and_sink v sink) (disk_and_sink w sink_now)) (sym none) (record {
          first = replies.Refused refusal;
          begins = (refl, refl);
          next = refused.next;
          comes = law (said lines.Reopen (replies.Refused refusal) ∷ []) (opening 0 (Err refusal) ∷ []) m (desk refused.next) running (refl, tt) (
            opening 0 (Err refusal) ∷ [],
            [],
            desk refused.next,
            refl,
            ((refused.next, (opens, refl)), ((0, (Err refusal, refl, refl)), refl)),
            (refl, refl),
          );
          gave = opening_gave command given (replies.Refused refusal);
          ended = inl (said lines.Reopen (replies.Refused refusal), refl, refl);
          found = λ x may. stays_after command given refusal m.now x (unopened_still refused.next opens.1 x may);
          wrote = (opening_printed command [] sink sink_now same 0 refusal).1;
          left = (refused.leaves, refused.crash);
          bytes = tt;
        })

-- ---- of each call

-- By what the command said: which lines it ran, or that it ran none.
module _ (D : Type 0) (view : D → DiskView) (command : CommandLine) (law : ComesByMap command) (through : Through (command_of command)) (given : List ℕ) (rs : List Replied)
    (ending : Option Ending) (old new : D) (source source_now : SourceView) (sink sink_now : SinkView)
    (does : DoesCommand D view command given rs ending (devices (view old) (view new) source source_now sink sink_now)) (among : ByteSet) (m : FileMachine)
    (distinct : HasNoCollisions (IsIn among)) (cuts : CutsAmong among rs m) (running : m.state ≡ Running) (known : KnownWith (view old).content (MayStand (IsIn among) m))
    (keeps : (runs : RunsByFiles (IsIn among) rs m (view old) (view new)) → KeepsBytes command (all_lines (IsIn among) rs m (view old) (view new) runs) m
    (last (IsIn among) rs m (view old) (view new) runs) (view old) (view new)) where
  none_answers : Silent ending rs sink sink_now → AnswersByMap (IsIn among) command given rs ending m (disk_and_sink (view old) sink) (disk_and_sink (view new) sink_now)
  none_answers silent =
      subst (λ (e : Option Ending). AnswersByMap (IsIn among) command given rs e m (disk_and_sink (view old) sink) (disk_and_sink (view new) sink_now)) (sym silent.ending_is)
      (elim (does.by_files among m distinct cuts known) [
        | inl runs ↦ no_line_answers (IsIn among) command given rs m (view old) (view new) sink sink_now running law through keeps silent.refusal silent.none silent.wrote
            (does.fails_alone silent.none among m distinct cuts known silent.refusal silent.ending_is) runs
        | inr refused ↦ unopened_answers (IsIn among) command given rs m (view old) (view new) sink sink_now running law through keeps silent.refusal silent.none silent.wrote
            (subst (λ (e : Option Ending). RefusedByFiles (IsIn among) e rs m (view old) (view new)) silent.ending_is refused)
      ])

  pub answers_call : (AreSo : List Replied → Type 0)
      → ((v : DiskView) → SpeaksAs command given ending rs (devices v (view new) source source_now sink sink_now) → Speaks AreSo ending rs v (view new) sink sink_now)
      → (AreSo rs → rs ≡ [] → Silent ending rs sink sink_now) → (AreSo rs → (rs ≡ []) ⊎ Says command given ending rs sink sink_now)
      → AnswersByMap (IsIn among) command given rs ending m (disk_and_sink (view old) sink) (disk_and_sink (view new) sink_now)
  answers_call AreSo speaks silent spoke =
      elim (told D view command given rs ending (view old) (view new) source source_now sink sink_now AreSo speaks does) [
        | inl are ↦ by are (spoke are)
        | inr none ↦ none_answers none
      ]
    where
      by : AreSo rs → (rs ≡ []) ⊎ Says command given ending rs sink sink_now
          → AnswersByMap (IsIn among) command given rs ending m (disk_and_sink (view old) sink) (disk_and_sink (view new) sink_now)
      by are (inl none) = none_answers (silent are none)
      by are (inr says) = elim (does.by_files among m distinct cuts known) [
        | inl runs ↦ said_answers (IsIn among) command given rs m (view old) (view new) sink sink_now running law through keeps ending says runs
        | inr refused ↦ none_answers (silent are refused.none)
      ]

-- Lines by which no file is given cut nothing.
use Rattle.backup_engine.proofs.Prelude.{◌≡◌, inl, inr, ℕ, zero, suc, List, [], ◌∷◌, Option, None, Some, refl, sym, ◌∙◌, ap, subst, slice_index_or, AllByRecursion, ACTORS, LineValue, ReplyValue, FileMachine, Replied, desk, Session, Stepped, of_files, ByteSet, IsOfActor, AreOfActors, FileDesk, IsCutAt, IsCutBy, CutsAmong}
use Rattle.std.proofs.Common.{replicate}
use Rattle.script_lines.specs.Grammar as lines
use Rattle.store_machine.specs.Lines.{Line}
use Rattle.backup_engine.proofs.Saying.{no_actor, of_first}

-- a line of the first actor, or of none, that leaves what actors give
abbrev pub IsPlainLine : LineValue → Type 0
IsPlainLine (lines.Read a name) = a ≡ 0
IsPlainLine (lines.Next a) = a ≡ 0
IsPlainLine (lines.Delete name) = Unit {0}
IsPlainLine lines.ListNames = Unit {0}
IsPlainLine (lines.Gc percent) = Unit {0}
IsPlainLine lines.Sweep = Unit {0}
IsPlainLine line = ⊥

abbrev pub ArePlain : List Replied → Type 0
ArePlain rs = AllByRecursion (λ one. IsPlainLine one.line) rs

plain_actor : (line : LineValue) → IsPlainLine line → IsOfActor line
plain_actor (lines.Read a name) is = subst (λ (n : ℕ). IsOfActor (lines.Read n name)) (sym is) (of_first (lines.Read 0 name) refl)
plain_actor (lines.Next a) is = subst (λ (n : ℕ). IsOfActor (lines.Next n)) (sym is) (of_first (lines.Next 0) refl)
plain_actor (lines.Delete name) is = no_actor (lines.Delete name) refl
plain_actor lines.ListNames is = no_actor lines.ListNames refl
plain_actor (lines.Gc percent) is = no_actor (lines.Gc percent) refl
plain_actor lines.Sweep is = no_actor lines.Sweep refl
plain_actor line is = absurd is

pub plain_actors : (rs : List Replied) → ArePlain rs → AreOfActors rs
plain_actors [] plain = tt
plain_actors (one ∷ more) plain = (plain_actor one.line plain.0, plain_actors more plain.1)

leaves_sessions : (line : LineValue) (reply : ReplyValue) (ss : List (Stepped (List ℕ))) (d e : FileDesk) → IsPlainLine line → Line of_files line reply ss d e
    → e.sessions ≡ d.sessions
leaves_sessions (lines.Read a name) reply ss d e plain (run, inl (admits, (actor, step, step_is, ends, sessions))) = sessions
leaves_sessions (lines.Read a name) reply ss d e plain (run, inr (refusal, bars, is, none, sessions)) = sessions
leaves_sessions (lines.Next a) reply ss d e plain (run, inl (admits, (actor, step, step_is, ends, sessions))) = sessions
leaves_sessions (lines.Next a) reply ss d e plain (run, inr (refusal, bars, is, none, sessions)) = sessions
leaves_sessions (lines.Delete name) reply ss d e plain (run, inl (admits, (actor, step, step_is, ends, sessions))) = sessions
leaves_sessions (lines.Delete name) reply ss d e plain (run, inr (refusal, bars, is, none, sessions)) = sessions
leaves_sessions lines.ListNames reply ss d e plain (run, inl (admits, (actor, step, step_is, ends, sessions))) = sessions
leaves_sessions lines.ListNames reply ss d e plain (run, inr (refusal, bars, is, none, sessions)) = sessions
leaves_sessions (lines.Gc percent) reply ss d e plain (run, inl (admits, (actor, step, step_is, ends, sessions))) = sessions
leaves_sessions (lines.Gc percent) reply ss d e plain (run, inr (refusal, bars, is, none, sessions)) = sessions
leaves_sessions lines.Sweep reply ss d e plain (run, inl (admits, (made, actor, did, ends, last, sessions))) = sessions
leaves_sessions lines.Sweep reply ss d e plain (run, inr (refusal, bars, is, none, sessions)) = sessions
leaves_sessions line reply ss d e plain made = absurd plain

pub none_gives : (n actor : ℕ) → ◌≡◌ {A = Option Session} (slice_index_or {A = Option Session} (replicate n None) actor None) None
none_gives zero actor = refl
none_gives (suc n) zero = refl
none_gives (suc n) (suc actor) = none_gives n actor

-- no actor gives a file
abbrev NoneGive : FileDesk → Type 0
NoneGive d = d.sessions ≡ replicate ACTORS None

pub none_cut : (d : FileDesk) → NoneGive d → (bytes : List ℕ) → IsCutAt d bytes → ⊥
none_cut d none bytes cut =
    let given = ap (λ (s : List (Option Session)). slice_index_or s cut.0 None) none ∙ none_gives ACTORS cut.0 in
    absurd (let both : Some cut.1.0 ≡ None = sym cut.1.1.0 ∙ given in cc)

none_cut_by : (rs : List Replied) → ArePlain rs → (d : FileDesk) → NoneGive d → (bytes : List ℕ) → IsCutBy rs d bytes → ⊥
none_cut_by [] plain d none bytes cut = cut
none_cut_by (one ∷ more) plain d none bytes (inl cut) = none_cut d none bytes cut
none_cut_by (one ∷ more) plain d none bytes (inr (steps, (mid, (line, cut)))) =
    none_cut_by more plain.1 mid (leaves_sessions one.line one.reply steps d mid plain.0 line ∙ none) bytes cut

pub none_cuts : (among : ByteSet) (rs : List Replied) → ArePlain rs → (m : FileMachine) → CutsAmong among rs m
none_cuts among rs plain m files opened bytes opens cut = absurd (none_cut_by rs plain (desk opened) refl bytes cut)

use Rattle.std.proofs.Common.{◌∙◌, refl, codes}
use Rattle.std.proofs.lemmas.Bool.{false≢true}
use Rattle.script_lines.specs.Grammar.{Push, Commit, Read}
use Rattle.script_lines.proofs.Reading.{three_words, not_three, no_line, spelled_three, no_three, not_word}
use Rattle.script_lines.proofs.line.line_of_three.Goals as goal

pub returns-then-is_hex-clause-found : goal.returns-then-is_hex-clause-found
returns-then-is_hex-clause-found c =
    (c.requires.actor, c.if-is_hex.ensures.0 refl, spelled_three c.args.word.now (codes "push") c.args.actor c.args.argument.now (rw c.as_slice.ensures at c.if-eq.ensures))

pub returns-else-is_hex-clause-none : goal.returns-else-is_hex-clause-none
returns-else-is_hex-clause-none c =
    no_three c.args.word.now (codes "push") c.args.actor c.args.argument.now (Push c.args.actor c.args.argument.now) c.requires.word
    (not_word c.args.word.now (codes "delete") c.requires.no_delete) (not_word c.args.word.now (codes "gc") c.requires.no_gc) c.requires.actor
    (rw c.as_slice.ensures at c.if-eq.ensures) refl (λ line. false≢true (c.if-is_hex.ensures.1 line.1))

pub returns-then-is_word-clause-found : goal.returns-then-is_word-clause-found
returns-then-is_word-clause-found c = (
  c.requires.actor,
  c.if-is_word.ensures.0 refl,
  spelled_three c.args.word.now (codes "commit") c.args.actor c.args.argument.now
      (rw c.as_slice-else-eq.ensures at c.if-eq-2.ensures),
)

pub returns-else-is_word-clause-none : goal.returns-else-is_word-clause-none
returns-else-is_word-clause-none c =
    no_three c.args.word.now (codes "commit") c.args.actor c.args.argument.now (Commit c.args.actor c.args.argument.now) c.requires.word
    (not_word c.args.word.now (codes "delete") c.requires.no_delete) (not_word c.args.word.now (codes "gc") c.requires.no_gc) c.requires.actor
    (rw c.as_slice-else-eq.ensures at c.if-eq-2.ensures) refl (λ line. false≢true (c.if-is_word.ensures.1 line.1))

pub returns-then-is_word-2-clause-found : goal.returns-then-is_word-2-clause-found
returns-then-is_word-2-clause-found c = (
  c.requires.actor,
  c.if-is_word-2.ensures.0 refl,
  spelled_three c.args.word.now (codes "read") c.args.actor c.args.argument.now
      (rw c.as_slice-else-eq-2.ensures at c.if-eq-3.ensures),
)

pub returns-else-is_word-2-clause-none : goal.returns-else-is_word-2-clause-none
returns-else-is_word-2-clause-none c =
    no_three c.args.word.now (codes "read") c.args.actor c.args.argument.now (Read c.args.actor c.args.argument.now) c.requires.word
    (not_word c.args.word.now (codes "delete") c.requires.no_delete) (not_word c.args.word.now (codes "gc") c.requires.no_gc) c.requires.actor
    (rw c.as_slice-else-eq-2.ensures at c.if-eq-3.ensures) refl (λ line. false≢true (c.if-is_word-2.ensures.1 line.1))

pub returns-else-eq-3-clause-none : goal.returns-else-eq-3-clause-none
returns-else-eq-3-clause-none c =
    no_line _ (three_words c.args.word.now c.requires.word (not_word c.args.word.now (codes "delete") c.requires.no_delete)
    (not_word c.args.word.now (codes "gc") c.requires.no_gc) c.args.actor c.args.argument.now c.requires.actor ∙ not_three c.args.word.now c.args.actor c.args.argument.now
    (rw c.as_slice.ensures at c.if-eq.ensures) (rw c.as_slice-else-eq.ensures at c.if-eq-2.ensures) (rw c.as_slice-else-eq-2.ensures at c.if-eq-3.ensures))

use Rattle.std.proofs.Common.{◌∙◌, codes}
use Rattle.script_lines.proofs.Reading.{two_words, not_two, no_line, not_word}
use Rattle.script_lines.proofs.line.line_of_two.Goals as goal

pub returns-else-eq-6-clause-none : goal.returns-else-eq-6-clause-none
returns-else-eq-6-clause-none c =
    no_line _ (two_words c.args.word.now c.requires.word (not_word c.args.word.now (codes "delete") c.requires.no_delete) (not_word c.args.word.now (codes "gc") c.requires.no_gc)
    c.args.actor c.requires.actor ∙ not_two c.args.word.now c.args.actor (rw c.as_slice.ensures at c.if-eq.ensures) (rw c.as_slice-else-eq.ensures at c.if-eq-2.ensures)
    (rw c.as_slice-else-eq-2.ensures at c.if-eq-3.ensures) (rw c.as_slice-else-eq-3.ensures at c.if-eq-4.ensures) (rw c.as_slice-else-eq-4.ensures at c.if-eq-5.ensures)
    (rw c.as_slice-else-eq-5.ensures at c.if-eq-6.ensures))

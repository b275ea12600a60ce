use Rattle.std.proofs.Common.{◌∙◌, ap, ◌++◌, ◌∷◌, List, ℕ, sym}
use Rattle.script_lines.proofs.Numbers.{actor_none}
use Rattle.script_lines.proofs.Reading.{no_actor, no_actor_before, no_line, line_of}
use Rattle.script_lines.proofs.line.line_of_words.Goals as goal

pub returns-in_err-read_actor-in-Some-clause-none : goal.returns-in_err-read_actor-in-Some-clause-none
returns-in_err-read_actor-in-Some-clause-none c =
    let found = c.in-Some.ensures.found in
    rw c.from_residual.ensures (no_line _ (ap (λ (rest : List ℕ). line_of (c.args.word.now ++ (32 ∷ rest))) found.1
    ∙ no_actor_before c.args.word.now c.requires (sym (rw c.as_slice.ensures at c.if-eq.ensures)) (sym (rw c.as_slice-2.ensures at c.if-eq-2.ensures)) c.in-Some.number.now
    c.in-Some.argument.now found.0 (actor_none c.in-Some.number.now c.in_err-read_actor-in-Some.ensures.none)))

pub returns-in_err-read_actor-in-None-clause-none : goal.returns-in_err-read_actor-in-None-clause-none
returns-in_err-read_actor-in-None-clause-none c =
    rw c.from_residual-in_err-read_actor-in-None.ensures
    (no_line _ (no_actor c.args.word.now c.requires (sym (rw c.as_slice.ensures at c.if-eq.ensures)) (sym (rw c.as_slice-2.ensures at c.if-eq-2.ensures)) c.args.rest.now
    c.in-None.ensures.none (actor_none c.args.rest.now c.in_err-read_actor-in-None.ensures.none)))

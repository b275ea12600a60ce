use Rattle.std.proofs.Common.{◌<◌, length, ap, arith}
use Rattle.std.proofs.lemmas.List.{length-take}
use Rattle.script_lines.specs.declared.script.TheConstants.{MOST_SCRIPT}
use Rattle.script_lines.specs.Reader.{ReaderState}
use Rattle.script_lines.proofs.Taking.{read_on, out_since, no_byte, too_many, line_ends, same_part, too_long, goes_on}
use Rattle.script_lines.proofs.reader.ScriptReader.go_on.Goals as goal

pub returns-in_default-clause-told : goal.returns-in_default-clause-told
returns-in_default-clause-told g c = λ first begun in_line.
    let mid = c.fill.new.self in
    no_byte first mid begun _ (read_on first c.args.self.now mid begun _ _ in_line c.fill.ensures.takes c.fill.ensures.line) c.at_end.result c.at_end.ensures.end
    c.at_end.ensures.wrong
    (out_since first c.args.self.now mid begun _ _ in_line (c.in_ok-fill.ensures.out c.in_default.ensures.none))

pub returns-then-self-eq-MOST_SCRIPT-clause-told : goal.returns-then-self-eq-MOST_SCRIPT-clause-told
returns-then-self-eq-MOST_SCRIPT-clause-told g c = λ first begun in_line.
    let mid = c.fill.new.self in
    let before = read_on first c.args.self.now mid begun _ _ in_line c.fill.ensures.takes c.fill.ensures.line in
    let some = c.in-Some.ensures.some in
    (too_many first mid begun _ before c.in-Some.byte some.0 some.1 (omega (arith, ap (λ (r : ReaderState). r.taken) c.self.view_is)), before.part)

pub returns-then-byte-eq10-clause-told : goal.returns-then-byte-eq10-clause-told
returns-then-byte-eq10-clause-told g c = λ first begun in_line.
    let mid = c.fill.new.self in
    let before = read_on first c.args.self.now mid begun _ _ in_line c.fill.ensures.takes c.fill.ensures.line in
    let some = c.in-Some.ensures.some in
    let room : mid.taken < MOST_SCRIPT = omega (arith, ap (λ (r : ReaderState). r.taken) c.self.view_is) in (
      line_ends first mid begun _ before c.pass.new.self c.in-Some.byte some.0 some.1 room c.pass.ensures c.if-byte-eq10.true,
      same_part first mid begun _ before c.pass.new.self c.in-Some.byte some.0 some.1 room c.pass.ensures,
    )

pub returns-then-self-eq-MOST_LINE-clause-told : goal.returns-then-self-eq-MOST_LINE-clause-told
returns-then-self-eq-MOST_LINE-clause-told g c = λ first begun in_line.
    let mid = c.fill.new.self in
    let before = read_on first c.args.self.now mid begun _ _ in_line c.fill.ensures.takes c.fill.ensures.line in
    let some = c.in-Some.ensures.some in
    let room : mid.taken < MOST_SCRIPT = omega (arith, ap (λ (r : ReaderState). r.taken) c.self.view_is) in (
      too_long first mid begun _ before c.pass.new.self c.in-Some.byte some.0 some.1 room c.pass.ensures c.if-byte-eq10.false
          (omega (arith, ap (λ (r : ReaderState). length r.line) c.self-2.view_is, length-take c.self-2.inside.length c.self-2.inside.line)),
      same_part first mid begun _ before c.pass.new.self c.in-Some.byte some.0 some.1 room c.pass.ensures,
    )

pub returns-clause-told : goal.returns-clause-told
returns-clause-told g c = λ first begun in_line.
    let mid = c.fill.new.self in
    let before = read_on first c.args.self.now mid begun _ _ in_line c.fill.ensures.takes c.fill.ensures.line in
    let some = c.in-Some.ensures.some in
    let room : mid.taken < MOST_SCRIPT = omega (arith, ap (λ (r : ReaderState). r.taken) c.self.view_is) in
    goes_on first mid begun _ before c.pass.new.self c.in-Some.byte some.0 some.1 room c.pass.ensures c.if-byte-eq10.false c.keep.new.self
    (omega (arith, ap (λ (r : ReaderState). length r.line) c.self-2.view_is, length-take c.self-2.inside.length c.self-2.inside.line)) c.keep.ensures

use Rattle.container_meta.proofs.Prelude.{◌≡◌, ◌+◌, ◌*◌, List, [], ◌∷◌, ◌++◌, take, get_or, ap, ◌∙◌, sym, arith, Entry}
use Rattle.std.proofs.lemmas.List.{take_more}
use Rattle.container_meta.specs.Spelling.{entries_spelling, entry_spelling}
use Rattle.container_meta.proofs.Lists.{written_to}
use Rattle.container_meta.proofs.Spelled.{entries_spelling-nil, entries_spelling-push}
use Rattle.container_meta.proofs.writing.put_entries.Goals as goal

pub loop-i-init : goal.loop-i-init
loop-i-init c = record { written = sym entries_spelling-nil }

pub loop-i-preserved : goal.loop-i-preserved
loop-i-preserved c =
    let i = c.loop-i.i in
    let es : List Entry = c.args.entries.now in
    let none : Entry = record { digest = []; offset = 0; length = 0; level = 0 } in
    let more : take (i + 1) es ≡ take i es ++ get_or es i none ∷ [] = take_more es i none c.loop-i-test.true in
    let h = written_to (48 * i) 48 (48 * (i + 1)) (entries_spelling (take i es)) (entry_spelling (get_or es i none)) c.loop-i.out c.put_entry.new.out (omega arith)
    c.loop-i.invariant.written c.put_entry.ensures in
    record { written = h ∙ sym (ap entries_spelling more ∙ entries_spelling-push (take i es) (get_or es i none)) }

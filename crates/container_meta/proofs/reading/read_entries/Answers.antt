use Rattle.container_meta.proofs.Prelude.{◌≡◌, ℕ, ◌+◌, ◌-◌, List, [], ◌∷◌, ◌++◌, length, ap, ◌∙◌, sym, subst, Ok, Err, length-append, arith, Entry, bytes_of, next_read}
use Rattle.std.proofs.lemmas.Result.{err_from_is_err_and}
use Rattle.container_meta.specs.Reading.{entries_at}
use Rattle.container_meta.proofs.Entries.{goes_on, ends, all_read}
use Rattle.container_meta.proofs.Spelled.{bytes_of-push}
use Rattle.container_meta.proofs.reading.read_entries.Goals as goal

pub returns-in_err-entry-clause-value : goal.returns-in_err-entry-clause-value
returns-in_err-entry-clause-value c =
    let p = err_from_is_err_and c.from_residual.result c.from_residual.ensures.1 in
    let e = c.in_err-entry.field-0.0 in
    let known = subst (λ (l : List Entry). Err e ≡ next_read c.args.kind c.args.data_length (c.args.count - 1 - c.loop-i.i) l c.args.bytes.now) c.deref.ensures.value
    c.in_err-entry.ensures.value in
    rw (p.1, p.2) (ends c.args.kind c.args.data_length c.args.count c.loop-i.i c.loop-i.entries.items c.args.bytes.now e
    (entries_at c.args.kind c.args.data_length c.args.count [] c.args.bytes.now) c.loop-i-test.true known c.loop-i.invariant.so_far)

pub loop-i-preserved : goal.loop-i-preserved
loop-i-preserved c =
    let e = c.in_ok-entry.entry in
    let before : List Entry = c.loop-i.entries.items in
    let pushed : c.push_entry.new.entries.items ≡ before ++ e ∷ [] = c.push_entry.ensures.items in
    let sum : bytes_of c.push_entry.new.entries.items ≡ bytes_of before + e.length = ap bytes_of pushed ∙ bytes_of-push before e in
    let known = subst (λ (l : List Entry). Ok e ≡ next_read c.args.kind c.args.data_length (c.args.count - 1 - c.loop-i.i) l c.args.bytes.now) c.deref.ensures.value
    c.in_ok-entry.ensures.value in
    record {
      many = ap length pushed ∙ length-append before (e ∷ []) ∙ ap (λ (n : ℕ). n + 1) c.loop-i.invariant.many;
      sum = ap (λ (n : ℕ). n + e.length) c.loop-i.invariant.sum ∙ sym sum;
      small = c.in_ok-entry.ensures.fits;
      room = omega (arith, c.loop-i.invariant.room, c.push_entry.ensures.capacity);
      so_far = ap (λ (l : List Entry). entries_at c.args.kind c.args.data_length (c.args.count - (c.loop-i.i + 1)) l c.args.bytes.now) pushed
          ∙ goes_on c.args.kind c.args.data_length c.args.count c.loop-i.i before c.args.bytes.now e _ c.loop-i-test.true known c.loop-i.invariant.so_far;
    }

pub returns-clause-value : goal.returns-clause-value
returns-clause-value c = all_read c.args.kind c.args.data_length c.args.count c.loop-i.i c.loop-i.entries.items c.args.bytes.now
    (entries_at c.args.kind c.args.data_length c.args.count [] c.args.bytes.now) c.loop-i-test.false c.loop-i.invariant.so_far

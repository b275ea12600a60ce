use Rattle.std.proofs.Common.{arith, length, ◌/◌, take, ℕ}
use Rattle.std.proofs.lemmas.List.{length-take}
use Rattle.hex.proofs.HexLemmas.{IsOk-written}
use Rattle.script_lines.proofs.Decoding.{decodes}
use Rattle.script_lines.proofs.digits.decode_into.Goals as goal

pub prove-unreachable-requires : goal.prove-unreachable-requires
prove-unreachable-requires c =
    let hex = c.requires.hex in
    let room = c.requires.room in
    let done = (IsOk-written _ c.decode_to_slice-done.result c.decode_to_slice-done.new.out c.decode_to_slice-done.ensures.value).1
    (decodes c.args.digits.now (length (take (length c.args.digits.now / 2) c.args.into.now)) hex (omega (arith, length-take {A = ℕ}))) in
    cc

use Rattle.std.proofs.Common.{arith}
use Rattle.container_meta.proofs.Again.{reach_all}
use Rattle.acceptance.proofs.headers.header_text.Goals as goal

pub decode-requires : goal.decode-requires
decode-requires c = reach_all _ (omega arith)

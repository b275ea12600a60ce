-- The scripts of a source and a sink in memory, and what a read of the source gives at most.
use Rattle.std.specs.Prelude.{ℕ}
use Rattle.dd_io.specs.declared.script.Script.{Script}
use Rattle.dd_io.specs.declared.mem.MemSource.{MemSource}
use Rattle.dd_io.specs.declared.mem.MemSink.{MemSink}

abbrev pub source_script : MemSource → Script
source_script source = source.script

abbrev pub sink_script : MemSink → Script
sink_script sink = sink.script

abbrev pub most_read : MemSource → ℕ
most_read source = source.most

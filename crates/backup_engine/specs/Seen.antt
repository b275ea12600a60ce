-- What a call of the top call saw (docs/MODEL.md, 'The promise').
use Rattle.dd_disk.specs.View.{DiskView}
use Rattle.dd_io.specs.Flow.{SourceView, SinkView}

-- a disk, a source and a sink, before a call and now
pub record Devices : Type 1 where
  pub disk : DiskView
  pub disk_now : DiskView
  pub source : SourceView
  pub source_now : SourceView
  pub sink : SinkView
  pub sink_now : SinkView

abbrev pub devices : DiskView → DiskView → SourceView → SourceView → SinkView → SinkView → Devices
devices disk disk_now source source_now sink sink_now =
    record { disk = disk; disk_now = disk_now; source = source; source_now = source_now; sink = sink; sink_now = sink_now }

-- a disk and a sink, at a moment
pub record DiskAndSink : Type 1 where
  pub disk : DiskView
  pub sink : SinkView

abbrev pub disk_and_sink : DiskView → SinkView → DiskAndSink
disk_and_sink disk sink = record { disk = disk; sink = sink }

-- each of its devices, before the call and now
pub record Seen : Type 1 where
  pub disk : DiskView
  pub disk_now : DiskView
  pub source : SourceView
  pub source_now : SourceView
  pub sink : SinkView
  pub sink_now : SinkView
  pub notes : SinkView
  pub notes_now : SinkView

-- a core, or a runner over one, and the source and the sink of its command, at a moment
pub record Streaming (R : Type 0) : Type 0 where
  pub runner : R
  pub source : SourceView
  pub sink : SinkView

abbrev pub streaming : {R : Type 0} → R → SourceView → SinkView → Streaming R
streaming runner source sink = record { runner = runner; source = source; sink = sink }

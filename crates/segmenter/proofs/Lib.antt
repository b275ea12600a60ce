pub mod Windows
pub mod SegmentLemmas
pub mod LengthLemmas
pub mod CutLemmas
pub mod RunLemmas
pub mod Examples

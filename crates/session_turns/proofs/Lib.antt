pub mod CollectHolds
pub mod TurnSteps
pub mod HeldOn
pub mod Ingested
pub mod KeptPins
pub mod KindsFollow
mod Prelude
pub mod Results
pub mod RightRoot
pub mod StepFaults
pub mod TurnHolds
pub mod TurnRuns
pub mod WritingStays

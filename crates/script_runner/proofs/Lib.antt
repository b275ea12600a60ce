pub mod DeskGiving
pub mod DeskLines
pub mod DeskParts
pub mod DeskReopens
pub mod DeskRuns
pub mod DeskSessions
pub mod DeskSteps
pub mod DeskTaking
pub mod DeskTurnLines
pub mod DeskTurns
pub mod FaultsCounted
pub mod FileFits
pub mod Fitting
pub mod LaterStores
pub mod LineSteps
pub mod LinesFrame
pub mod Lists
mod Prelude
pub mod PushRefused
pub mod Replied
pub mod RootsFound
pub mod Sends
pub mod SessionLists
pub mod StillHeld
pub mod Sweeping
pub mod TurnIdle
mod CompleteTrace
mod CompleteNodes
mod CompleteSteps
mod CompleteLines
mod Complete

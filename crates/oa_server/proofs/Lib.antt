pub mod Replacing
pub mod Opened
pub mod Making
pub mod Mapping
pub mod TurnsOverStore
pub mod Settled
pub mod AnsweredAfterFault
pub mod Answering
pub mod PutReplies
pub mod Retold
pub mod InMemory
pub mod InOpenGroup
pub mod GroupThenAlone
pub mod Talking
pub mod Beginning
pub mod Parting
pub mod OneState
pub mod FoundIsKept
pub mod GroupsAsOneRun
mod BehindEnds
mod Lifted
mod LockTurns
mod HeldForMany
mod AnsweredStretches
mod SharedParts
mod Ledgered
mod LocksBack
mod OneClientAlone
mod PutFrames

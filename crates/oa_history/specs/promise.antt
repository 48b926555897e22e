-- The definitions that README's promises need.
pub mod CrashHistories
pub mod DurablePrefixes
pub mod FaultHistories
pub mod Framed

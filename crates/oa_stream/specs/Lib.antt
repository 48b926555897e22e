pub mod Source
pub mod Sink
pub mod StdSource
pub mod BufferedSource
pub mod StdSink
pub mod BufferedSink
pub mod Memory
pub mod promise

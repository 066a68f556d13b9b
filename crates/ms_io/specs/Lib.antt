pub mod Files
pub mod MemFiles
pub mod MemSink
pub mod OsFiles
pub mod Sink
pub mod StdSink

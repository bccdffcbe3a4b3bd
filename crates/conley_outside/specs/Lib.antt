pub mod Calls
pub mod Depot
pub mod Faults
pub mod MemoryDepot
pub mod MemorySink
pub mod Sink

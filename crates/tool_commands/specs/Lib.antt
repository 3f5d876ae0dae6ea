pub mod Asking
pub mod Outcomes
pub mod EncodeRun
pub mod DecodeRun
pub mod PassRun
pub mod PerfRun
pub mod Ready
pub mod Run

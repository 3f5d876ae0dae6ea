pub mod Laws
pub mod RoundTrip
pub mod RunLaws
pub mod PerfLaws
pub mod LossLaws
pub mod FrameLaws
pub mod UpgradeLaws

pub mod LeastPrefix
pub mod ZeroArrivals
pub mod Laws

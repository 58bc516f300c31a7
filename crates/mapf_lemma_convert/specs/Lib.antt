pub mod Conversion
pub mod Laws
pub mod NodeWalk
pub mod Results

pub mod Impossible

pub mod View
pub mod Probes
pub mod Turns
pub mod Several
pub mod Machine
pub mod Advances
pub mod Installs

pub mod Members
pub mod Threads
pub mod NameForm
pub mod Profile
pub mod Texts
pub mod Checks
pub mod Laws

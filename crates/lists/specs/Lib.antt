pub mod Rising
pub mod Firsts
pub mod Keyed

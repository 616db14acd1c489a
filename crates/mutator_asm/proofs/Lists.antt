pub mod Tests
pub mod Firsts
pub mod Seams

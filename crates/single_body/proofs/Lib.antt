pub mod Singling

-- The octets that are built by value, of a fixed number, before the first of them are written.
pub mod Built

-- What the code's shape needs beside what is promised.
pub mod Blocks
pub mod Following
pub mod Noting
pub mod Parts
pub mod Plain
pub mod Rooms

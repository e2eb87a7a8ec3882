-- What the code's shape needs beside what is promised.
pub mod Putting

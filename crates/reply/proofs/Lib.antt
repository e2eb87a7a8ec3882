pub mod Answering
pub mod Framed
pub mod OneReport
pub mod Owing
pub mod Returning

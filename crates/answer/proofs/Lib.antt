pub mod Booleans
pub mod Judged
pub mod Placing
pub mod RefusalNumbers
pub mod Refusing
pub mod SayingBoth
pub mod Yielding

-- Where the code finds a record, which only its places need.
pub mod Found

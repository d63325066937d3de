pub mod EntriesWords
pub mod EntriesRows

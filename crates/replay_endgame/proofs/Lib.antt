pub mod RecordsMoves
pub mod RecordsCompared
pub mod Records
pub mod RecordsAgreed

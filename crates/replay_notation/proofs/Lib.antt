pub mod RecordsBytes
pub mod RecordsCompared
pub mod RecordsReading
pub mod RecordsPlay
pub mod RecordsKinds
pub mod RecordsAgreed

pub mod AnswerBytes
pub mod AnswerBytesMoves
pub mod AnswerBytesDecimal
pub mod AnswerBytesSigned

-- Answering by plan in one call.
pub mod RawLength

-- Text laid into a byte buffer below a limit.
pub mod LaidText

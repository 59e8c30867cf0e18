-- What the desk program prints, from what it reads.
pub mod TablesEnd
pub mod Desk
pub mod LentBuffers
pub mod TextInBuffer

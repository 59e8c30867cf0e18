-- Where the tables end, what the lines are and how long a plan's are, what the calls' outcomes make of them, and which numbers
-- are printed.
mod TablesEnd
mod LentBuffers
mod DeskLines
mod NodeBytes
mod TermLengths
mod OperatorLengths
mod LinesFit
mod Replies
pub mod NeverEleven
pub mod Refusals
pub mod Cases

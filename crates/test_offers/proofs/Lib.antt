-- That a pass offers the rows that the plan offers.
pub mod CountExits
pub mod OfferedRows
pub mod Call

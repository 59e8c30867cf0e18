-- The shape that the spots of a normal form have, the bounds of its heads, and the operators that fill the places of rows.
pub mod ProgramShape
pub mod HeadBounds
pub mod PlaceFillers
pub mod PlaceContents
pub mod PassedComprehensions
pub mod WrittenHeads

-- What the parts that pair two logs ask and give.
pub mod Times
pub mod Moves
pub mod Laying
pub mod OwnRefusal

-- What is proved of the definitions of specs/, file by file, in its order.

-- ---- demand 1: each number comes under its question, and under no other condition
pub mod SheetRefusals
pub mod SheetTheorem
-- each entry by itself
pub mod SheetEntries
-- the tiles' roots add up to the outline's area
pub mod TilesAddUp
-- a sheet that is one tile is a tile alone
pub mod OneTile
-- traced the other way round, every tile has the opposite table and the same greys (P4)
pub mod EitherWayOnSheet
pub mod EitherWayGreysOnSheet

-- How the calls for C and Rust differ from those of `tile`, `sheet`, `corrections` and `curves`: in what they take. A place on a sheet is four numbers (`tile_at` of
-- `sheet`).

-- a placement as a list of numbers
pub mod PlacementNumbers

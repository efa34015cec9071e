-- What is proved of the definitions of specs/, file by file, in its order.

-- a placement as a list of numbers
pub mod PlacementNumbers

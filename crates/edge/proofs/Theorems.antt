-- What is proved of the definitions of specs/, file by file, in its order.

-- ---- what the contracts cite besides
-- the ranges that keep the arithmetic in 64 bits
pub mod Room

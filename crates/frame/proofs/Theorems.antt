-- What is proved of the definitions of specs/, file by file, in its order.

-- ---- the whole program
pub mod Output
-- ---- what is proved of it
-- demand 1: each refusal comes under its question alone, and leaves the table as it was
pub mod Refusals
pub mod Theorem
-- 02's wrong-handed tracing: a frame traced the other way round is printed with the same greys
pub mod EitherWay
pub mod PrintedReversed

-- How it is proved: one idea a file, in this order.

-- numbers and their digits
pub mod Digits
-- writing from a place on; a part of a slice that a function wrote over
pub mod Over
pub mod Parts
-- lines
pub mod Lines
-- what is read of them
pub mod Reading
-- what is printed
pub mod Printing
-- reading what was written as a frame, and writing what was read
pub mod ReadWritten
pub mod WrittenRead
-- where a cell's grey stands
pub mod PrintedGreys

-- What other crates, and the proofs of the code, know of the definitions. Read in this order.

-- the tables of several edges add up, and so does the room that they need
pub mod Sums

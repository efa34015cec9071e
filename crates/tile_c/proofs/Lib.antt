-- What is proved.

-- what is proved of the definitions of specs/
pub mod Theorems

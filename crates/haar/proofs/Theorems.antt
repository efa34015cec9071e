-- What is proved of the definitions of specs/, file by file, in its order.

pub mod Greys

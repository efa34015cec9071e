-- How it is proved: one idea a file, in this order.

-- what question 14's and 15's yes say
pub mod Places
-- what the answers about a tile say of its site, and of edges on it
pub mod SiteEdges

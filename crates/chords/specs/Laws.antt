-- How it is proved: one idea a file, in this order.

-- what holds of every coordinate of a contour holds of its sides' points
pub mod SidesWithin

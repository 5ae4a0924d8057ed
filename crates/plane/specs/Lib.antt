--   Point     points, and those that two arrays hold
--   Polygon   half planes, the edges of a polygon, and the laws of a pen
pub mod Point
pub mod Polygon

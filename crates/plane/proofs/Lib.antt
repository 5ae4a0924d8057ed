-- Read: the corners that two arrays hold, place by place. Round: the edges between them.
pub mod Read
pub mod Round

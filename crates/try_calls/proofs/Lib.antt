-- Fill: a list filled with a pattern, place by place.
pub mod Fill

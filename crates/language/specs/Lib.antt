-- Grammar: W4's language in its own words, without the scanner. Theorems: the scanner hears exactly that language.
pub mod Grammar
pub mod Theorems

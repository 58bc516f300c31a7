pub mod Numbers
pub mod Ends
pub mod Pages
pub mod Spellings

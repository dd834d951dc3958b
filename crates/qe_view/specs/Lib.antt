pub mod After
pub mod Answers
pub mod Attached
pub mod Calls
pub mod LayoutText
pub mod Layouts
pub mod Right
pub mod Versions

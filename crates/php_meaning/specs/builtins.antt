-- Builtin functions: what each makes of the values of its arguments. (PHP manual, the pages of the functions.)
pub mod Arguments
pub mod Texts
pub mod Searches
pub mod Lists
pub mod Numbers
pub mod Answers
pub mod Calls

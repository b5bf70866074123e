pub mod Alike
pub mod Bounds
pub mod Spent
pub mod Parens
pub mod Rows
pub mod Unasked
pub mod RowWords
pub mod RunWords
mod IntRows
pub mod LiteralLemmas
pub mod NowdocLemmas
mod TextLiteralRows
mod OperatorRows
mod RunRows
mod ProgramRows
mod VisitRows
mod ComparisonRows
mod TextRows
mod KeyRows
mod ArithmeticRows
mod ArrayRows
pub mod TextLemmas
pub mod ClassLemmas
pub mod ComparisonLemmas
pub mod DecimalLemmas
pub mod KeyLemmas
pub mod ArithmeticLemmas
pub mod ArrayLemmas
pub mod CopyLemmas
pub mod OrderLemmas
pub mod CellLemmas
pub mod Silent
pub mod Across

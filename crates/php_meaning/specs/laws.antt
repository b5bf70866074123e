-- What is proved of the meanings.
pub mod Laws
pub mod Following
pub mod SameScripts
pub mod Asking
pub mod Across
pub mod LiteralLaws
pub mod ValueLaws
pub mod ArrayLaws
pub mod CellLaws
pub mod Examples

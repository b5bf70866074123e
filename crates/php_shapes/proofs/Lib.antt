mod ReadAll
mod ReadAssigns
mod ReadBodies
mod ReadClassMembers
mod ReadClassNames
mod ReadClassUses
mod ReadClasses
mod ReadClosures
mod ReadDeclarations
mod ReadEmbedded
mod ReadEnds
mod ReadExpressionStatements
mod ReadFirst
mod ReadFirstTokens
mod ReadGroupedUses
mod ReadIfColons
mod ReadIfs
mod ReadImports
mod ReadInfix
mod ReadLaws
mod ReadLeading
mod ReadLists
mod ReadMatch
mod ReadMembers
mod ReadNames
mod ReadNamespaces
mod ReadNearest
mod ReadNew
mod ReadOperands
mod ReadParts
mod ReadPast
mod ReadPlaces
mod ReadPostfixes
mod ReadPrefixes
mod ReadQuoted
mod ReadSorts
mod ReadStatements
mod ReadStops
mod ReadTraitUses
mod ReadUses
mod ReadVariables
mod ReadWalks
mod ReadWholeUses
mod ReadYields
pub mod Additions
pub mod Beginnings
pub mod Continuations
pub mod Endings
pub mod Entries
pub mod Follows
pub mod Groups
pub mod Heads
pub mod Leftmost
pub mod Never
pub mod Openings
pub mod Operations
pub mod Parts
pub mod Sequences
pub mod Standing
pub mod StatementOpenings
pub mod Told
pub mod Repeats
pub mod Uses
pub mod Walked

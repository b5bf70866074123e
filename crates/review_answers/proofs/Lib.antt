pub mod HeadLines
pub mod NoFloats

pub mod JsonLemmas
pub mod UploadLemmas

mod NumberLemmas
mod ImportRows
mod SiteRows

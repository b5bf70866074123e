mod ClashLemmas
mod FilesLemmas
mod IndexLemmas
mod NamesLemmas
mod ReadLemmas
mod ResolveLemmas
mod SlotLemmas
mod ToldLemmas

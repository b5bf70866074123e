mod ComparedLemmas
mod FormLemmas
mod NameRows
mod ResultLemmas
mod SlotRows

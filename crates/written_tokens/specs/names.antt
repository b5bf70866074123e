pub mod Neighbours
pub mod Fronts
pub mod Leads
pub mod Named
pub mod NamesPut
pub mod Apart

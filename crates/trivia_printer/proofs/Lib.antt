pub mod Buffers
pub mod Printed

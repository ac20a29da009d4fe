mod Filling
mod Arrival
mod Misfits
mod Totals
pub mod Lent

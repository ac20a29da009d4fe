mod Outputs
mod Parts
mod Totals

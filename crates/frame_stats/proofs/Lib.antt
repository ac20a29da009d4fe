pub mod FigureSums
mod PortSums
mod RunSums
mod Parts

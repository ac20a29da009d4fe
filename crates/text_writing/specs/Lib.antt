pub mod FaultWords
pub mod LookFault
pub mod Status
pub mod Written

pub mod Numbers
pub mod Uses
pub mod Stretches
pub mod Marks
pub mod Coverage
pub mod Known
pub mod Passage
pub mod Noting

-- Calls as steps, steps in a row, and sessions.
pub mod CallLemmas
pub mod StepLemmas
pub mod RunLemmas
pub mod FlushAmongLemmas
pub mod SessionLemmas
pub mod ReplayLemmas
pub mod LawLemmas

-- What is found behind a header: the start of a container, and its plan.
pub mod PassedAnswers
pub mod StartLemmas
pub mod CountLemmas
pub mod RootLemmas

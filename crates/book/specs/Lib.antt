pub mod Over
pub mod Writing
pub mod EntryLaws
pub mod WritingLaws
pub mod PutLaws
pub mod PlanLaws
pub mod DesignLaws
pub mod Examples

pub mod PlanText
pub mod Work

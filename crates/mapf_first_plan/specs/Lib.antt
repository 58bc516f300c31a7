pub mod FirstPlan

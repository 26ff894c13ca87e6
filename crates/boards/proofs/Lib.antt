pub mod PlanEntries

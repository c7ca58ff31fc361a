-- Worked scenes.
pub mod SettledScenes
pub mod DeclineScenes
pub mod ClockScenes
pub mod PlanScenes

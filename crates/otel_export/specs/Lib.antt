pub mod Outboxes
pub mod Schedules

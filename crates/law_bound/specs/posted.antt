pub mod PostedEvents

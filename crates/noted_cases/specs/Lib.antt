pub mod NotedEntries
pub mod NotedLaws

pub mod ValueSets
pub mod SetViews

pub mod WorkLaws
mod TableRead
mod ScriptsLoaded
mod SourcesFilled
mod ModulesLoaded
mod GamesLoaded
mod ClaimsLoaded
mod ConfirmingsLoaded
mod DebuggingsLoaded
mod AuditingsLoaded

pub mod IoPortsView

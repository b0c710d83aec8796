pub mod RomPages

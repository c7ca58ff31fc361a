pub mod AskedLines
pub mod LineCuts
pub mod ReadableLines
pub mod Slashes
pub mod SiteWords
pub mod SitesOfLines
pub mod WordCuts

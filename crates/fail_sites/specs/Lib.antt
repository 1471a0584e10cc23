pub mod Left
pub mod Graph
pub mod Stands
pub mod SiteLaws
pub mod StartLaw
pub mod Offers

pub mod Tower
pub mod TowerMeaning

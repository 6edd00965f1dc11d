pub mod LevelsOfElements

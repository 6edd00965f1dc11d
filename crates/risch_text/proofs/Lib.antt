-- Worked files.
mod FileExamples
-- Lines.
pub mod Shorter
pub mod Fronts
-- Tower lines, and the lines of an answer.
pub mod TowerLines
pub mod AnswerLines
pub mod WholeFiles
-- Values.
pub mod Places
pub mod Endings
pub mod TowerValues
pub mod WrittenValues
pub mod RootSums
pub mod CertifiedValues
-- Files.
pub mod Answers

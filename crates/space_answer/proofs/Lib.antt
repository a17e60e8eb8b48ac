-- Laws about the definitions in specs/.
pub mod Answers

pub mod Words
pub mod LawfulRun
pub mod Program
pub mod DrillProgram
pub mod ServeProgram
pub mod RecordProgram
pub mod ServeLaw
pub mod ServeFair

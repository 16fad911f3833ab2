pub mod Looks
pub use Rattle.wire_text.specs.Wire
pub use Rattle.wire_text.specs.Frames

pub mod Garden

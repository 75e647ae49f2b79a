pub mod Signed
pub mod Rectangles
pub mod Points
pub mod Laws

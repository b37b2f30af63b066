pub mod Why
pub mod WhyRight
pub mod WhyShown

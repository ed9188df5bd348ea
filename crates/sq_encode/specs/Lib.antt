pub use Rattle.sq_isa.specs.Encoding
pub use Rattle.sq_isa.specs.Ranges
pub use Rattle.sq_isa.specs.Table

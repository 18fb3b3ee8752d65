pub mod HexLength
pub mod HexLines
pub mod HexReadsBack

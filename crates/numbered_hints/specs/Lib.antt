pub mod ByLiteral

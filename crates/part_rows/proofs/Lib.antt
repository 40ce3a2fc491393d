pub mod LegalColumns

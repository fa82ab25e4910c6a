pub mod Bands
pub mod Charges
pub mod Ranges
pub mod RangesLemmas
pub mod Rates
pub mod RatesLemmas
pub mod Table

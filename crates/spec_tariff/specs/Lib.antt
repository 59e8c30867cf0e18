-- "Pilotage dues on an answer" (document 02, E6): the charge by a tariff, a tariff as bytes (44), the dues on a bag of ships, the outcome of the call.
pub mod Tariff
pub mod TariffBytes
pub mod Dues
pub mod WithTariff

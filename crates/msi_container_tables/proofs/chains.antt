-- Chains of sectors: their members, and claims.
pub mod ChainLemmas
pub mod ChainPassedLemmas
pub mod ChainStepLemmas
pub mod WholeChainLemmas
pub mod StreamChainLemmas
pub mod ClaimLemmas
pub mod ClaimedLemmas
pub mod CountRows
pub mod FatLemmas
pub mod RoomLemmas

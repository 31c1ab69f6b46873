-- What a flush writes.
pub mod FlushLemmas
pub mod FlushStepLemmas
pub mod OverwritingLemmas
pub mod RenewedLemmas
pub mod RenewingLemmas
pub mod ImagingLemmas
pub mod CopyingLemmas
pub mod TextRefusalLemmas
pub mod WritableLemmas

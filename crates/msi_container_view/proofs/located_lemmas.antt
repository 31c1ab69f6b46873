-- What a copied directory says is what the file says: its entries, the members of its streams, and where they lie.
pub mod RootLemmas
pub mod MembersLemmas
pub mod StoredLemmas
pub mod MappedLemmas
pub mod NamedLemmas
pub mod LocatedLemmas
